-- The devices of a pool are taken from a shelf, one metaslab after another.
use Rattle.std.proofs.Common.{arith, ◌≡◌, ◌+◌, ◌<◌, ◌≤◌, ◌++◌, ◌∙◌, inl, inr, ℕ, zero, suc, List, [], ◌∷◌, Option, Some, None, refl, subst, length}
use Rattle.std.specs.Prelude.{IsErrOf, IsSome, Ok, slice_get}
use Rattle.std.proofs.lemmas.Bool.{cases_eq}
use Rattle.draid_names.specs.Faults.{Rose}
use Rattle.draid_names.specs.declared.fault.DeviceFault.TheVariants as DeviceFault
use Rattle.draid_shelf.specs.Kits.{ChecksTold, Held, KitTold, NeedsChecks, OnHeld, takes_kit, takes_uber}
use Rattle.draid_pool.specs.Taking.{TakesFirst}
use Rattle.draid_pool.proofs.Returned.{put_here, put_there}

-- what is below a place of two lists, one after the other
pub get_before : {A : Type 0} (xs ys : List A) (m : ℕ) → m < length xs → slice_get (xs ++ ys) m ≡ slice_get xs m
get_before [] ys m below = absurd (omega (arith, below))
get_before (x ∷ xs) ys zero below = refl
get_before (x ∷ xs) ys (suc m) below = get_before xs ys m (omega (arith, below))

-- a count that rose since a moment rose since an earlier one
pub rose_since : (first middle last : ℕ) → first ≤ middle → Rose middle last → Rose first last
rose_since first middle last later rose = omega (arith, later, rose)

pub none_taken : (o : Option Held) → TakesFirst 0 o o
none_taken None = refl
none_taken (Some x) = record { uber = refl; checks = refl; taken = λ m below. absurd (omega (arith, below)); others = λ m past. refl }

-- the devices of a further one are taken
pub takes_more : (n : ℕ) (old mid : Option Held) → TakesFirst n old mid → TakesFirst (n + 1) old (takes_kit n mid)
takes_more n None None t = refl
takes_more n None (Some y) t = absurd (cc)
takes_more n (Some x) None t = absurd t
takes_more n (Some x) (Some y) t = record {
  uber = t.uber;
  checks = t.checks;
  taken = λ m below. elim (cases_eq m n) [
    | inl same ↦ put_here n m None (y.kits m) same
    | inr other ↦ put_there n m None (y.kits m) (λ same. omega (arith, same, other)) ∙ t.taken m (omega (arith, below, other))
  ];
  others = λ m past. put_there n m None (y.kits m) (λ same. omega (arith, same, past)) ∙ t.others m (omega (arith, past));
}

-- areas of check records that were taken behind the uberblock's were held
pub checks_there : {T : Type 0} (areas : T) (o mid : Option Held) → mid ≡ takes_uber o → NeedsChecks (Ok areas) mid → OnHeld o (λ held. IsSome held.checks)
checks_there areas None mid takes needs = tt
checks_there areas (Some x) mid takes needs = by x.checks (subst (λ z. NeedsChecks (Ok areas) z) takes needs)
  where
    by : (c : Option ChecksTold) → (c ≡ None → IsErrOf (Ok areas) DeviceFault.Failed) → IsSome c
    by None failed = (let is = failed refl in absurd (cc))
    by (Some checks) failed = refl

-- what was held for a metaslab that isn't open yet was so from the beginning
pub from_first : (n : ℕ) (old mid : Option Held) (P : Option KitTold → Type 0) → TakesFirst n old mid → OnHeld mid (λ y. P (y.kits n)) → OnHeld old (λ x. P (x.kits n))
from_first n None mid P t h = tt
from_first n (Some x) None P t h = absurd t
from_first n (Some x) (Some y) P t h = subst P (t.others n (omega arith)) h
