-- A legal history of arms alone: version 2 is asked for, a spare is attached and rebuilt; then a second one takes the place of the leaf on which the
-- first lies, so the first moves; and a leaf joins while both are rebuilt, so the rebuild is planned again.
use Rattle.std.proofs.Common.{◌≡◌, ◌≢◌, ◌+◌, ◌<◌, ◌==◌, ℕ, zero, suc, Bool, true, false, List, [], ◌∷◌, Option, Some, None, refl, sym, ◌∙◌, ap, inl, arith, if◌then◌else◌}
use Rattle.std.proofs.lemmas.Bool.{true≢false}
use Rattle.draid_names.specs.Spares.{IsArm}
use Rattle.draid_names.specs.declared.pass_kind.PassKind.TheVariants.{Rebuild}
use Rattle.draid_machine.specs.declared.names.Key.{Key}
use Rattle.draid_machine.specs.declared.names.ArmName.{ArmName}
use Rattle.draid_machine.specs.declared.names.ArmName.TheVariants.{Leaf, Spare}
use Rattle.draid_machine.specs.declared.names.Held.{Held}
use Rattle.draid_machine.specs.State.{Layout, IsLayout, Image, State}
use Rattle.draid_machine.specs.Arms.{has_moved, is_fresh, leaf_at, logged, targets_of}
use Rattle.draid_machine.specs.After.{attach_state, close_state, commit_state, done_state, ended_pass, image_of, plan_state, ready_state, seal_state, sealed_core, upgrade_state}
use Rattle.draid_machine.specs.Created.{created}
use Rattle.draid_machine.specs.Step.{AttachStep, CloseStep, CommitStep, DoneStep, PlanStep, ReadyStep, SealStep, UpgradeStep}
use Rattle.draid_machine.proofs.Sample.{pass_of}
use Rattle.draid_machine.proofs.Small.{none_some}

-- the spare 0 lies on slot 0 unless this has spare 1, and on slot 4 then; spare 1 lies on slot 4
abbrev is_one : Option ℕ → Bool
is_one None = false
is_one (Some t) = t == 1

abbrev end_of : Bool → ℕ
end_of second = if second then 4 else 0

abbrev place : (ℕ → Option ℕ) → ℕ → ℕ → ℕ
place first zero x = end_of (is_one (first 0))
place first (suc t) x = 4

-- five slots and two spares; the columns of each stripe stand on slots 1 to 3
abbrev pub chained : Layout
chained = record {
  columns = 3;
  parity = 1;
  slots = 5;
  spares = 2;
  stripes = 8;
  height = 8;
  sectors = 8;
  slot_of = λ x c. c + 1;
  sector_of = λ x c. x;
  home = place;
}

-- where two spares lie on one slot the first is spare 1, and is of slot 0: none of the columns' slots
one_place : (earlier later : ℕ → Option ℕ) (c d t u : ℕ) → IsArm 5 2 later (c + 1) t → IsArm 5 2 earlier (d + 1) u → place earlier t 0 ≡ place later u 0 → t ≡ u
one_place earlier later c d zero zero arm arm' e = refl
one_place earlier later c d zero (suc u) arm arm' e = by (earlier 0) refl e
  where
    one : (v : ℕ) → (v == 1) ≡ true → u + 1 < 2 → v ≡ suc u
    one v is less = let same : v ≡ 1 = grind arith in omega (arith, same, less)

    by : (o : Option ℕ) → earlier 0 ≡ o → end_of (is_one o) ≡ 4 → 0 ≡ suc u
    by None is e = absurd (omega (arith, e))
    by (Some v) is e = of (v == 1) refl e
      where
        of : (b : Bool) → (v == 1) ≡ b → end_of b ≡ 4 → 0 ≡ suc u
        of true v_is e =
            let less = arm'.spare_is in
            let at = arm'.only 0 (omega arith) (is ∙ ap Some (one v v_is (omega (arith, less)))) in
            absurd (omega (arith, at))
        of false v_is e = absurd (omega (arith, e))
one_place earlier later c d (suc t) zero arm arm' e = by (later 0) refl (sym e)
  where
    one : (v : ℕ) → (v == 1) ≡ true → t + 1 < 2 → v ≡ suc t
    one v is less = let same : v ≡ 1 = grind arith in omega (arith, same, less)

    by : (o : Option ℕ) → later 0 ≡ o → end_of (is_one o) ≡ 4 → suc t ≡ 0
    by None is e = absurd (omega (arith, e))
    by (Some v) is e = of (v == 1) refl e
      where
        of : (b : Bool) → (v == 1) ≡ b → end_of b ≡ 4 → suc t ≡ 0
        of true v_is e =
            let less = arm.spare_is in
            let at = arm.only 0 (omega arith) (is ∙ ap Some (one v v_is (omega (arith, less)))) in
            absurd (omega (arith, at))
        of false v_is e = absurd (omega (arith, e))
one_place earlier later c d (suc t) (suc u) arm arm' e = let x = arm.spare_is in let y = arm'.spare_is in omega (arith, x, y)

low_place : (first : ℕ → Option ℕ) (t x : ℕ) → place first t x < 5
low_place first zero x = by (is_one (first 0))
  where
    by : (b : Bool) → end_of b < 5
    by true = omega arith
    by false = omega arith
low_place first (suc t) x = omega arith

off_columns : (first : ℕ → Option ℕ) (t x d : ℕ) → d < 3 → place first t x ≢ d + 1
off_columns first zero x d less e = by (is_one (first 0)) e
  where
    by : (b : Bool) → end_of b ≡ d + 1 → ⊥
    by true e = omega (arith, e, less)
    by false e = omega (arith, e)
off_columns first (suc t) x d less e = omega (arith, e, less)

one_stripe : (first : ℕ → Option ℕ) (t x y : ℕ) → place first t x ≡ place first t y
one_stripe first zero x y = refl
one_stripe first (suc t) x y = refl

chained_is : IsLayout chained
chained_is = record {
  tall = omega arith;
  steady = λ x y c e. refl;
  steady_home = λ first x y t e. one_stripe first t x y;
  rows = λ x y c e. omega arith;
  slots = λ x c column. omega (arith, column);
  homes = λ first x t. low_place first t x;
  inside = λ x c less column. less;
  one_column = λ x y c d column column' slot sector. (sector, omega (arith, slot));
  apart = λ first x y c d t are column column' spare sector e. off_columns first t x d column' e;
  one_spare = λ earlier later x y c d t u are are' one column column' sector arm arm' e.
      one_place earlier later c d t u arm arm' (one_stripe earlier t 0 x ∙ e ∙ one_stripe later u y 0);
}

-- ---- version 2, and a spare
abbrev v0 : State
v0 = created chained 1

abbrev v1 : State
v1 = upgrade_state v0

s1 : UpgradeStep v0 v1
s1 = record { asked = refl; idle = refl; made = refl }

-- nothing is held
Nothing : State → Type 0
Nothing w = (k : Key) (h : Held) → w.core.held k ≡ Some h → ⊥

abbrev v2 : State
v2 = attach_state chained v1 1 (Spare 0) 2

s2 : AttachStep chained v1 1 (Spare 0) v2
s2 = record {
  last = 2;
  slot_is = omega arith;
  arm_is = omega arith;
  unused = refl;
  room = omega arith;
  may = λ p e. absurd (none_some None p refl e);
  last_is = record { one = inl refl; open_group = omega arith; births = λ k h e. absurd (none_some None h refl e) };
  made = refl;
}

cons_nil : {n : ArmName} {ns : List ArmName} → n ∷ ns ≡ [] → ⊥
cons_nil e = true≢false (ap some e)
  where
    some : List ArmName → Bool
    some [] = false
    some (n ∷ ns) = true

abbrev v3 : State
v3 = plan_state v2 Rebuild (Spare 0 ∷ [])

s3 : PlanStep chained v2 Rebuild v3
s3 = record { idle = refl; last = omega arith; may = (λ e. cons_nil e, omega arith); made = refl }

abbrev v4 : State
v4 = close_state v3 2

s4 : CloseStep v3 2 v4
s4 = record { open_group = refl; below = omega arith; idle = refl; made = refl }

abbrev v5 : State
v5 = seal_state chained v4 2 [] false

s5 : SealStep chained v4 2 [] v5
s5 = record {
  wrote = false;
  closing = refl;
  unsealed = refl;
  settled = λ k h e t. absurd (none_some None h refl e);
  writes = λ e. absurd (true≢false (sym e));
  no_writes = λ e x. none_some None x.h refl x.found;
  fail = λ leaf e. absurd (true≢false (sym e));
  made = refl;
}

abbrev image5 : Image
image5 = image_of 2 2 (sealed_core chained v4.core 2 [] false)

abbrev v6 : State
v6 = commit_state chained v5 2 image5

s6 : CommitStep chained v5 2 v6
s6 = record { image = image5; closing = refl; sealed = refl; made = refl }

-- the version comes with the commit
upgraded : (v4.version ≡ 1) × (v4.asked ≡ 2) × (v6.version ≡ 2) × (v6.image.version ≡ 2)
upgraded = (refl, refl, refl, refl)

abbrev v7 : State
v7 = ready_state v6 (pass_of v6.core.pass)

s7 : ReadyStep v6 v7
s7 = record {
  p = pass_of v6.core.pass;
  pass = refl;
  rebuild = refl;
  planned = refl;
  blocks = λ k h e. absurd (none_some None h refl e);
  births = λ k h e. absurd (none_some None h refl e);
  committed = omega arith;
  made = refl;
}

abbrev v8 : State
v8 = done_state v7 (ended_pass chained v7.core (pass_of v7.core.pass) [])

s8 : DoneStep chained v7 [] v8
s8 = record {
  p = pass_of v7.core.pass;
  pass = refl;
  running = refl;
  finished = λ k h x e. absurd (none_some None h refl e);
  idle = refl;
  fail = λ leaf e. absurd (true≢false (sym e));
  made = refl;
}

-- ---- the slot that keeps its sectors gets a spare: the first one lies on slot 4 now, with all to be made good
abbrev v9 : State
v9 = attach_state chained v8 0 (Spare 1) 3

s9 : AttachStep chained v8 0 (Spare 1) v9
s9 = record {
  last = 3;
  slot_is = omega arith;
  arm_is = omega arith;
  unused = refl;
  room = omega arith;
  may = λ p e. absurd (none_some None p refl e);
  last_is = record { one = inl refl; open_group = omega arith; births = λ k h e. absurd (none_some None h refl e) };
  made = refl;
}

before : (leaf_at chained v8.core.order (Spare 0) 5 ≡ Some 0) × (logged (v8.core.arm (Spare 0)) 2 ≡ false) × (is_fresh (v8.core.arm (Spare 0)) ≡ false)
before = (refl, refl, refl)

moved : (has_moved chained v8.core v9.core (Spare 0) ≡ true) × (leaf_at chained v9.core.order (Spare 0) 5 ≡ Some 4) × (logged (v9.core.arm (Spare 0)) 2 ≡ true)
    × (is_fresh (v9.core.arm (Spare 0)) ≡ true)
moved = (refl, refl, refl, refl)

-- ---- both are rebuilt, and a leaf joins meanwhile: the rebuild has the next number and one target more
abbrev v10 : State
v10 = plan_state v9 Rebuild (targets_of chained v9.core Rebuild)

s10 : PlanStep chained v9 Rebuild v10
s10 = record { idle = refl; last = omega arith; may = (λ e. cons_nil e, omega arith); made = refl }

abbrev v11 : State
v11 = attach_state chained v10 2 (Leaf 9) 3

s11 : AttachStep chained v10 2 (Leaf 9) v11
s11 = record {
  last = 3;
  slot_is = omega arith;
  arm_is = tt;
  unused = refl;
  room = omega arith;
  may = λ p e kind. (omega arith, omega arith);
  last_is = record { one = inl refl; open_group = omega arith; births = λ k h e. absurd (none_some None h refl e) };
  made = refl;
}

planned_again : ((pass_of v10.core.pass).number ≡ 2) × ((pass_of v11.core.pass).number ≡ 3) × ((pass_of v11.core.pass).targets ≡ Spare 1 ∷ Spare 0 ∷ Leaf 9 ∷ []) × (v11.core.last ≡ 3)
planned_again = (refl, refl, refl, refl)
