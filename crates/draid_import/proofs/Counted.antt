-- How often calls on a pool's own areas have failed, as an import takes these and gives them back.
use Rattle.std.proofs.Common.{arith, ◌≡◌, ◌≤◌, ◌∙◌, ℕ, Option, ap}
use Rattle.draid_area.specs.Area.{Content}
use Rattle.draid_names.specs.Faults.{Rose}
use Rattle.draid_shelf.specs.Kits.{CheckCounts}
use Rattle.draid_uber.specs.Checks.{count_in, told_by}
use Rattle.draid_uber.specs.declared.areas.Areas.{Areas}
use Rattle.draid_pool.specs.Returning.{own_count}

-- none has failed
pub count_still : (uber uber' : ℕ) (checks checks' : CheckCounts) → uber' ≡ uber → checks' ≡ checks → own_count (record { uber = uber'; checks = checks' }) ≡ own_count (record { uber = uber; checks = checks })
count_still uber uber' checks checks' same are = λ i. own_count (record { uber = same i; checks = are i })

module _ {A : Type 0} (faults : A → ℕ) (old new : Areas A) (uber : ℕ) (checks : CheckCounts) (was : faults old.uber ≡ uber) (even : faults old.even ≡ checks.even) (odd : faults old.odd ≡ checks.odd)
    (others : new ≡ record old { uber = new.uber }) where
  even_is : faults new.even ≡ checks.even
  even_is = ap (λ (a : Areas A). faults a.even) others ∙ even

  odd_is : faults new.odd ≡ checks.odd
  odd_is = ap (λ (a : Areas A). faults a.odd) others ∙ odd

  -- the uberblock's area was called
  pub later_by : faults old.uber ≤ faults new.uber → own_count (record { uber = uber; checks = checks }) ≤ count_in faults new
  later_by later = (let a = even_is in let b = odd_is in omega (arith, was, a, b, later))

module _ {A : Type 0} (faults : A → ℕ) (old new : Areas A) (uber uber' : ℕ) (checks checks' : CheckCounts) (was : faults old.uber ≡ uber) (even : faults old.even ≡ checks.even) (odd : faults old.odd ≡ checks.odd)
    (others : new ≡ record old { uber = new.uber }) (is : uber' ≡ faults new.uber) (are : checks' ≡ record { even = faults new.even; odd = faults new.odd }) where
  checks_are : checks' ≡ checks
  checks_are = are ∙ (λ i. record { even = even_is faults old new uber checks was even odd others i; odd = odd_is faults old new uber checks was even odd others i })

  -- and all were given back
  pub given_later : faults old.uber ≤ faults new.uber
      → (uber ≤ uber') × (own_count (record { uber = uber; checks = checks }) ≤ own_count (record { uber = uber'; checks = checks' })) × (checks' ≡ checks)
      × (Rose (faults old.uber) (faults new.uber) → Rose (own_count (record { uber = uber; checks = checks })) (own_count (record { uber = uber'; checks = checks' })))
  given_later later =
      let same_even = ap (λ (c : CheckCounts). c.even) checks_are in
      let same_odd = ap (λ (c : CheckCounts). c.odd) checks_are in
      (omega (arith, was, is, later), omega (arith, was, is, later, same_even, same_odd), checks_are, λ rose. omega (arith, was, is, rose, same_even, same_odd))

-- what they tell
pub put_as : {A : Type 0} (told : A → Option Content) (old new : Areas A) → new ≡ record old { uber = new.uber } → told_by told new ≡ record { uber = told new.uber; even = told old.even; odd = told old.odd }
put_as told old new others = λ i. record { uber = told new.uber; even = told (others i).even; odd = told (others i).odd }
