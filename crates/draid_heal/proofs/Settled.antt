-- A row more was settled.
use Rattle.std.proofs.Common.{length, drop, get_or, ◌==◌, arith, ◌≡◌, ◌+◌, ◌<◌, ◌⊎◌, ◌∙◌, ◌||◌, ℕ, Bool, true, false, List, Option, Some, None, option_map, refl, sym, subst, ap, inl, inr, slice_get}
use Rattle.std.proofs.lemmas.Bool.{cases_lt}
use Rattle.std.proofs.lemmas.Bool.Decides.{nat_tests}
use Rattle.draid_machine.specs.declared.event.Patched.{Patched}
use Rattle.std.proofs.lemmas.List.{at_drop_more}
use Rattle.draid_machine.specs.Names.{has_number}
use Rattle.draid_machine.proofs.Small.{absurd_test, equal, some_same}
use Rattle.draid_rack.specs.Moments.{ChangesOnly}
use Rattle.draid_rack.specs.Rack.{OnBothTold, OnTold, Told, settles}
use Rattle.draid_rack.proofs.Moments.{only_on, only_self, only_settles}
use Rattle.draid_heal.specs.Settle.{FirmArms, SettlesUpto}
use Rattle.draid_heal.specs.Stands.{SettledAt, SettlesArms, is_settled_row}
use Rattle.draid_shard.specs.declared.loan.Spot.{Spot}

abbrev nowhere : ℕ → ℕ → Bool
nowhere m s = false

-- harm at one sector ended: elsewhere it is as it was
own_harm : (leaf sector : ℕ) (z : Told) → (settles leaf sector z).harmed leaf sector ≡ false
own_harm leaf sector z = grind (arith, nat_tests)

still_calm : (leaf sector m s : ℕ) (z : Told) → z.harmed m s ≡ false → (settles leaf sector z).harmed m s ≡ false
still_calm leaf sector m s z calm = grind (arith, nat_tests, calm)

harm_cases : (leaf sector m s : ℕ) (z : Told) → ((settles leaf sector z).harmed m s ≡ z.harmed m s) ⊎ ((leaf ≡ m) × (sector ≡ s))
harm_cases leaf sector m s z = elim (cases_lt leaf m) [
  | inl less ↦ inl (grind (arith, nat_tests, less))
  | inr high ↦ elim (cases_lt m leaf) [
    | inl less ↦ inl (grind (arith, nat_tests, less))
    | inr low ↦ elim (cases_lt sector s) [
      | inl less ↦ inl (grind (arith, nat_tests, less))
      | inr up ↦ elim (cases_lt s sector) [
        | inl less ↦ inl (grind (arith, nat_tests, less))
        | inr down ↦ inr (omega (arith, high, low), omega (arith, up, down))
      ]
    ]
  ]
]

module _ (count : ℕ) (spots : List Spot) (patched : List Patched) where
  pub none_settled : (o : Option Told) → OnBothTold o o (SettlesUpto count spots patched 0 0)
  none_settled None = refl
  none_settled (Some x) = record {
    only = only_self nowhere x;
    harm = λ m s. inl refl;
    ended = λ k r spot part there noted less is done. elim done [
      | inl low ↦ absurd (omega (arith, low))
      | inr here ↦ (let e = here.1 in absurd (omega (arith, e)))
    ];
  }

  -- all rows of an arm, so the next one
  pub arm_settled : (i : ℕ) (o p : Option Told) → OnBothTold o p (SettlesUpto count spots patched i count) → OnBothTold o p (SettlesUpto count spots patched (i + 1) 0)
  arm_settled i None p h = h
  arm_settled i (Some x) None h = h
  arm_settled i (Some x) (Some y) h = record {
    only = h.only;
    harm = h.harm;
    ended = λ k r spot part there noted less is done. h.ended k r spot part there noted less is (elim done [
      | inl low ↦ elim (cases_lt k i) [
        | inl before ↦ inl before
        | inr high ↦ inr (omega (arith, low, high), less)
      ]
      | inr here ↦ (let e = here.1 in absurd (omega (arith, e)))
    ]);
  }

  pub all_settled : (n : ℕ) (o p : Option Told) → ((k : ℕ) (spot : Spot) → slice_get spots k ≡ Some spot → k < n) → OnBothTold o p (SettlesUpto count spots patched n 0) → OnBothTold o p (SettlesArms count spots patched true)
  all_settled n None p below h = h
  all_settled n (Some x) None below h = h
  all_settled n (Some x) (Some y) below h = record {
    only = h.only;
    harm = λ m s. elim (h.harm m s) [
      | inl same ↦ inl same
      | inr at ↦ inr (refl, at)
    ];
    ended = λ whole k r spot part there noted less is. h.ended k r spot part there noted less is (inl (below k spot there));
  }

  pub still_firm : (leaf sector : ℕ) (o p : Option Told) → p ≡ option_map (settles leaf sector) o → OnTold o (FirmArms count spots patched) → OnTold p (FirmArms count spots patched)
  still_firm leaf sector None p is h = subst (λ p. OnTold p (FirmArms count spots patched)) (sym is) h
  still_firm leaf sector (Some x) p is h = subst (λ p. OnTold p (FirmArms count spots patched)) (sym is) (λ k r spot part there noted less fine. h k r spot part there noted less fine)

  module _ (i row : ℕ) (spot : Spot) (part : Patched) (there : slice_get spots i ≡ Some spot) (noted : slice_get patched i ≡ Some part) (less : row < count) where
    ended_more : (x y z : Told) → SettlesUpto count spots patched i row x y → ChangesOnly nowhere y z → ((m s : ℕ) → (z.harmed m s ≡ y.harmed m s) ⊎ SettledAt count spots patched m s)
        → ((m s : ℕ) → y.harmed m s ≡ false → z.harmed m s ≡ false) → (is_settled_row spot part row ≡ true → z.harmed spot.leaf (spot.first + row) ≡ false) → SettlesUpto count spots patched i (row + 1) x z
    ended_more x y z was only harm calm own = record {
      only = only_on nowhere x y z was.only only;
      harm = λ m s. elim (harm m s) [
        | inl same ↦ elim (was.harm m s) [
          | inl before ↦ inl (same ∙ before)
          | inr at ↦ inr at
        ]
        | inr at ↦ inr at
      ];
      ended = λ k r s p at at_part low is done. elim done [
        | inl before ↦ calm s.leaf (s.first + r) (was.ended k r s p at at_part low is (inl before))
        | inr here ↦ elim (cases_lt r row) [
          | inl earlier ↦ calm s.leaf (s.first + r) (was.ended k r s p at at_part low is (inr (here.0, earlier)))
          | inr high ↦ (let up = here.1 in let same : row ≡ r = omega (arith, high, up) in
              let spot_is : spot ≡ s = some_same (slice_get spots k) spot s (ap (slice_get spots) here.0 ∙ there) at in
              let part_is : part ≡ p = some_same (slice_get patched k) part p (ap (slice_get patched) here.0 ∙ noted) at_part in
              let was_is : is_settled_row spot part row ≡ true = subst (λ (s : Spot). is_settled_row s part row ≡ true) (sym spot_is) (subst (λ (p : Patched). is_settled_row s p row ≡ true) (sym part_is) (subst (λ r. is_settled_row s p r ≡ true) (sym same) is)) in
              subst (λ (s : Spot). z.harmed s.leaf (s.first + r) ≡ false) spot_is (subst (λ r. z.harmed spot.leaf (spot.first + r) ≡ false) same (own was_is)))
        ]
      ];
    }

    pub row_settled : is_settled_row spot part row ≡ true → (start p q : Option Told) → q ≡ option_map (settles spot.leaf (spot.first + row)) p → OnBothTold start p (SettlesUpto count spots patched i row)
        → OnBothTold start q (SettlesUpto count spots patched i (row + 1))
    row_settled is None p q e h = e ∙ ap (option_map (settles spot.leaf (spot.first + row))) h
    row_settled is (Some x) None q e h = absurd h
    row_settled is (Some x) (Some y) q e h = subst (λ q. OnBothTold (Some x) q (SettlesUpto count spots patched i (row + 1))) (sym e)
        (ended_more x y (settles spot.leaf (spot.first + row) y) h (only_settles nowhere spot.leaf (spot.first + row) y)
        (λ m s. elim (harm_cases spot.leaf (spot.first + row) m s y) [
          | inl same ↦ inl same
          | inr at ↦ inr (record { k = i; r = row; spot = spot; part = part; there = there; noted = noted; row = less; is = is; leaf_is = at.0; sector_is = at.1 })
        ]) (λ m s. still_calm spot.leaf (spot.first + row) m s y) (λ was. own_harm spot.leaf (spot.first + row) y))

    pub row_left : is_settled_row spot part row ≡ false → (start p : Option Told) → OnBothTold start p (SettlesUpto count spots patched i row) → OnBothTold start p (SettlesUpto count spots patched i (row + 1))
    row_left is None p h = h
    row_left is (Some x) None h = h
    row_left is (Some x) (Some y) h = ended_more x y y h (only_self nowhere y) (λ m s. inl refl) (λ m s calm. calm) (λ was. absurd_test (is_settled_row spot part row) was is)

-- where no landing is whole nothing is settled
pub unsettled : (count : ℕ) (spots : List Spot) (patched : List Patched) (y : Told) → SettlesArms count spots patched false y y
unsettled count spots patched y = record {
  only = only_self nowhere y;
  harm = λ m s. inl refl;
  ended = λ whole. absurd (cc);
}

-- ---- a list has a number
pub number_found : (xs : List ℕ) (x k : ℕ) → k < length xs → get_or xs k 0 ≡ x → has_number (drop k xs) x ≡ true
number_found xs x k low is = at_drop_more (λ ys. has_number ys x) xs k 0 low ∙ ap (λ b. b || has_number (drop (k + 1) xs) x) (equal (get_or xs k 0) x is)

different : (x y : ℕ) → (x ≡ y → ⊥) → (x == y) ≡ false
different x y differ = grind (arith, nat_tests)

pub number_on : (xs : List ℕ) (x k : ℕ) → k < length xs → (get_or xs k 0 ≡ x → ⊥) → has_number (drop k xs) x ≡ has_number (drop (k + 1) xs) x
number_on xs x k low differ = at_drop_more (λ ys. has_number ys x) xs k 0 low ∙ ap (λ b. b || has_number (drop (k + 1) xs) x) (different (get_or xs k 0) x differ)

pub one_firm : (count : ℕ) (spots : List Spot) (patched : List Patched) (o : Option Told) → OnTold o (FirmArms count spots patched) → (k r : ℕ) (spot : Spot) (part : Patched) → slice_get spots k ≡ Some spot
    → slice_get patched k ≡ Some part → r < count → is_settled_row spot part r ≡ true → OnTold o (λ y. y.soft spot.leaf (spot.first + r) ≡ false)
one_firm count spots patched None h k r spot part at noted less is = h
one_firm count spots patched (Some y) h k r spot part at noted less is = h k r spot part at noted less is
