-- How many changes of a log are wanted at most.
use Rattle.std.proofs.Common.{◌+◌, ◌≤◌, ℕ, zero, suc, Bool, true, false, Option, Some, None, arith, if◌then◌else◌}
use Rattle.draid_pass.specs.declared.pass.Pass.{Pass}
use Rattle.draid_shard.specs.Fits.{birth_groups, changes_for_end, is_rebuild, lacking}

pub lacking_most : (log : ℕ → Bool) (from n : ℕ) → lacking log from n ≤ n
lacking_most log from zero = omega arith
lacking_most log from (suc n) = by (log (from + n)) (lacking_most log from n)
  where
    by : (b : Bool) → lacking log from n ≤ n → lacking log from n + (if b then 0 else 1) ≤ suc n
    by true few = omega (arith, few)
    by false few = omega (arith, few)

pub groups_few : (closing : Option ℕ) → birth_groups closing ≤ 3
groups_few None = omega arith
groups_few (Some t) = omega arith

pub changes_few : (pass : Option Pass) (closing : Option ℕ) → changes_for_end pass closing ≤ 3
changes_few pass closing = by (is_rebuild pass) (groups_few closing)
  where
    by : (b : Bool) → birth_groups closing ≤ 3 → (if b then birth_groups closing else 0) ≤ 3
    by true few = few
    by false few = omega arith
