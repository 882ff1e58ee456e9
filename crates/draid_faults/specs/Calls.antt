use Rattle.std.specs.Prelude.{◌≡◌, ◌⊎◌, ◌+◌, ◌-◌, ◌^◌, min, ℕ, Bool, List, Contains, IsTrue, is_some}
use Rattle.draid_faults.specs.declared.calls.Calls.{Calls}

-- the number of the next call
abbrev pub next_call : Calls → ℕ
next_call calls = calls.made

-- the numbers of the calls that fail
abbrev pub failing_calls : Calls → List ℕ
failing_calls calls = calls.failing.items

-- a fuse is in
abbrev pub is_fused : Calls → Bool
is_fused calls = is_some calls.fuse

-- A count of failures rose by one where a call failed, and else stays. It stands still at the greatest of 64 bits.
pub record CountsJust (failed : Type 0) (before now : ℕ) : Type 0 where
  pub risen : failed → now ≡ min (before + 1) (2 ^ 64 - 1)
  pub same : (failed → ⊥) → now ≡ before

-- A call was counted. It failed where the list names it, and else only where a fuse is in. The number of
-- the calls stands still at the greatest of 64 bits.
pub record CountsCall (failed : Type 0) (old new : Calls) : Type 0 where
  pub named : Contains (failing_calls old) (next_call old) → failed
  pub cause : failed → Contains (failing_calls old) (next_call old) ⊎ IsTrue (is_fused old)
  pub next : next_call new ≡ min (next_call old + 1) (2 ^ 64 - 1)
  pub failing : failing_calls new ≡ failing_calls old
  pub fused : is_fused new ≡ is_fused old
