-- A pass loses the targets that the state machine's loses, where the marks of its targets are right.
use Rattle.std.proofs.Common.{◌≡◌, ◌+◌, ◌∙◌, not, ℕ, zero, suc, Bool, false, List, [], ◌∷◌, Some, All, ap, ap₂, cond, count_by, filter, get_or, length, map, refl, slice_get, sym}
use Rattle.std.specs.Prelude.{slice_index_or}
use Rattle.std.proofs.lemmas.List.Sums.{length-filter}
use Rattle.std.proofs.lemmas.Option.{slice_get-get_or}
use Rattle.draid_names.specs.declared.arm.Arm.{Arm}
use Rattle.draid_names.specs.declared.arm.ArmAt.{ArmAt}
use Rattle.draid_machine.specs.declared.names.ArmName.{ArmName}
use Rattle.draid_machine.specs.After.{capped, lose_some}
use Rattle.draid_machine.proofs.Small.{some_same}
use Rattle.draid_pass.specs.declared.pass.Pass.{Pass}
use Rattle.draid_slots.specs.Changes.{new_arm}
use Rattle.draid_slots.specs.States.{name_of, pass_in}
use Rattle.draid_slots.specs.Table.{IsThere, SlotTable, arm_at, arms_of}
use Rattle.draid_plans.specs.Ends.{Loses, counted, is_lost}
use Rattle.draid_plans.specs.Targets.{AreMarked}
use Rattle.draid_plans.proofs.Losing.{loses_all}
use Rattle.draid_mend.proofs.Aims.{all_there}

-- among these targets just those are marked that pass a test of their names
abbrev pub MarkedAmong : SlotTable → List ArmAt → List (List Bool) → (ArmName → Bool) → Type 0
MarkedAmong slots targets marks bad = (k : ℕ) (at : ArmAt) (a : Arm) → slice_get targets k ≡ Some at → arm_at slots at ≡ Some a → is_lost marks at ≡ bad (name_of a)

-- ---- tests that agree on a list

filter_among : {X : Type 0} (p q : X → Bool) (xs : List X) → ((k : ℕ) (x : X) → slice_get xs k ≡ Some x → p x ≡ q x) → filter p xs ≡ filter q xs
filter_among p q [] same = refl
filter_among p q (x ∷ xs) same = ap₂ (λ b rest. cond b (x ∷ rest) rest) (same zero x refl) (filter_among p q xs (λ k y here. same (suc k) y here))

count_among : {X : Type 0} (p q : X → Bool) (xs : List X) → ((k : ℕ) (x : X) → slice_get xs k ≡ Some x → p x ≡ q x) → count_by p xs ≡ count_by q xs
count_among p q xs same = sym (length-filter p xs) ∙ ap length (filter_among p q xs same) ∙ length-filter q xs

-- ---- marks of all arms that pass a test of their names

module _ (slots : SlotTable) (bad : ArmName → Bool) where
  abbrev marks_in : List Arm → List Bool
  marks_in arms = map (λ (a : Arm). bad (name_of a)) arms

  abbrev exact : List (List Bool)
  exact = map marks_in slots.arms

  row_is : (rows : List (List Arm)) (slot : ℕ) → slice_index_or (map marks_in rows) slot [] ≡ marks_in (slice_index_or rows slot [])
  row_is [] slot = refl
  row_is (r ∷ rows) zero = refl
  row_is (r ∷ rows) (suc k) = row_is rows k

  mark_is : (arms : List Arm) (k : ℕ) (a : Arm) → slice_get arms k ≡ Some a → slice_index_or (marks_in arms) k false ≡ bad (name_of a)
  mark_is [] k a there = absurd (cc)
  mark_is (b ∷ arms) zero a there = ap (λ (a : Arm). bad (name_of a)) (some_same (Some b) b a refl there)
  mark_is (b ∷ arms) (suc k) a there = mark_is arms k a there

  exact_marked : AreMarked slots exact bad
  exact_marked at a there = ap (λ (row : List Bool). slice_index_or row at.arm false) (row_is slots.arms at.slot) ∙ mark_is (arms_of slots at.slot) at.arm a there

  pub lost_among : (marks : List (List Bool)) (old new : Pass) → Loses marks old new → MarkedAmong slots old.targets.items marks bad → All (IsThere slots) old.targets.items → pass_in slots new ≡ lose_some bad (pass_in slots old)
  lost_among marks old new is marked all = loses_all exact old new loses slots bad exact_marked all
    where
      same : (k : ℕ) (at : ArmAt) → slice_get old.targets.items k ≡ Some at → is_lost marks at ≡ is_lost exact at
      same k at here =
          let a : Arm = get_or (arms_of slots at.slot) at.arm (new_arm 0) in
          let there : arm_at slots at ≡ Some a = slice_get-get_or (arms_of slots at.slot) at.arm (new_arm 0) (all_there slots old.targets.items all k at here) in
          marked k at a here there ∙ sym (exact_marked at a there)

      loses : Loses exact old new
      loses = record {
        number_stays = is.number_stays;
        kind_stays = is.kind_stays;
        targets_are = is.targets_are ∙ filter_among (λ place. not (is_lost marks place)) (λ place. not (is_lost exact place)) old.targets.items (λ k at here. ap not (same k at here));
        max_stays = is.max_stays;
        place_stays = is.place_stays;
        errors_are = is.errors_are ∙ ap (λ n. capped (old.errors + counted old.kind n)) (count_among (is_lost marks) (is_lost exact) old.targets.items same);
        running_stays = is.running_stays;
        room = is.room;
      }
