use Rattle.std.specs.Prelude.{ℕ, List}

-- What a source in memory has: the bytes that are left, how often it was called, which of its calls
-- fail, numbered from 0, and how often it has failed.
pub record SourceState : Type 0 where
  pub left : List ℕ
  pub calls : ℕ
  pub failing : List ℕ
  pub faults : ℕ
