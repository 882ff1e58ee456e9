use Rattle.std.specs.Prelude.{◌≡◌, ℕ, List, ◌++◌, Option, Result, MatchResult}
use Rattle.std.specs.Io.KnownBytes.{Appends}

-- known bytes grow by some front of bytes
abbrev pub AppendsFront : Option (List ℕ) → Option (List ℕ) → List ℕ → Type 0
AppendsFront old new bytes =
    (front : List ℕ) × (back : List ℕ) × (bytes ≡ front ++ back) × Appends old new front

-- all of the bytes were added, or after a refusal some front of them
abbrev pub PutAppends : {E : Type 0} → Option (List ℕ) → Option (List ℕ) → Result Unit E → List ℕ → Type 0
PutAppends old new result bytes =
    MatchResult result (λ _. Appends old new bytes) (λ _. AppendsFront old new bytes)

-- What a sink in memory has: the bytes that it holds, for how many there is room before it asks for
-- memory, how often it was called, which of its calls fail, numbered from 0, and how often it has failed.
pub record SinkState : Type 0 where
  pub held : List ℕ
  pub room : ℕ
  pub calls : ℕ
  pub failing : List ℕ
  pub faults : ℕ
