use Rattle.std.specs.Prelude.{ℕ, ◌≤◌, ◌+◌, ◌-◌, ◌^◌, min, Result, OnErr}

-- A count of faults rose. It stands still at the greatest number of 64 bits.
abbrev pub Rose : ℕ → ℕ → Type 0
Rose before now = min (before + 1) (2 ^ 64 - 1) ≤ now

-- The count doesn't fall, and where the answer is a refusal it rose in this call.
pub record HasCause {T E : Type 0} (before now : ℕ) (result : Result T E) : Type 0 where
  pub later : before ≤ now
  pub cause : OnErr result (Rose before now)
