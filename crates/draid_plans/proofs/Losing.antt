-- The targets that a pass loses, by their names.
use Rattle.std.proofs.Common.{◌≡◌, ◌+◌, ◌-◌, not, ◌∙◌, suc, Bool, true, false, List, [], ◌∷◌, Some, None, All, ap, arith, cond, count_by, filter, length, refl, sym, get_or}
use Rattle.std.proofs.lemmas.List.Elements.{All-head, All-tail}
use Rattle.std.proofs.lemmas.List.Sums.{length-filter}
use Rattle.std.proofs.lemmas.Option.{slice_get-get_or}
use Rattle.draid_names.specs.declared.arm.Arm.{Arm}
use Rattle.draid_names.specs.declared.arm.ArmAt.{ArmAt}
use Rattle.draid_names.specs.declared.pass_kind.PassKind.{PassKind}
use Rattle.draid_names.specs.declared.pass_kind.PassKind.TheVariants.{Rebuild, Heal}
use Rattle.draid_machine.specs.declared.names.ArmName.{ArmName}
use Rattle.draid_machine.specs.After.{capped, lose_some, lost_errors}
use Rattle.draid_pass.specs.declared.pass.Pass.{Pass}
use Rattle.draid_slots.specs.Changes.{new_arm}
use Rattle.draid_slots.specs.States.{name_of, names_at, pass_in}
use Rattle.draid_slots.specs.Table.{SlotTable, IsThere, arm_at, arms_of}
use Rattle.draid_plans.specs.Ends.{Loses, counted, is_lost}
use Rattle.draid_plans.specs.Targets.{AreMarked}

-- how many go
left_count : {X : Type 0} (bad : X → Bool) (xs : List X) → length (filter (λ x. not (bad x)) xs) + length (filter bad xs) ≡ length xs
left_count bad [] = refl
left_count {X} bad (x ∷ xs) = by (bad x) (left_count bad xs)
  where
    rest : List X
    rest = filter (λ x. not (bad x)) xs

    gone : List X
    gone = filter bad xs

    by : (b : Bool) → length rest + length gone ≡ length xs → length (cond (not b) (x ∷ rest) rest) + length (cond b (x ∷ gone) gone) ≡ suc (length xs)
    by true more = omega (arith, more)
    by false more = omega (arith, more)

pub lost_count : {X : Type 0} (bad : X → Bool) (xs ys : List X) → ys ≡ filter (λ x. not (bad x)) xs → length xs - length ys ≡ count_by bad xs
lost_count bad xs ys is =
    let n = left_count bad xs in
    let m = ap length is in
    let c = length-filter bad xs in
    omega (arith, n, m, c)

module _ (slots : SlotTable) (bad : ArmName → Bool) (lost : ArmAt → Bool) (same : (at : ArmAt) (a : Arm) → arm_at slots at ≡ Some a → lost at ≡ bad (name_of a)) where
  there : (t : ArmAt) → IsThere slots t → arm_at slots t ≡ Some (get_or (arms_of slots t.slot) t.arm (new_arm 0))
  there t is = slice_get-get_or (arms_of slots t.slot) t.arm (new_arm 0) is

  names_of : (t : ArmAt) (ts : List ArmAt) (a : Arm) → arm_at slots t ≡ Some a → names_at slots (t ∷ ts) ≡ name_of a ∷ names_at slots ts
  names_of t ts a is = ap (λ o. elim o as (λ o. List ArmName) [ None ↦ names_at slots ts | Some arm ↦ name_of arm ∷ names_at slots ts ]) is

  -- the names of those that stay
  names_left : (ts : List ArmAt) → All (IsThere slots) ts → names_at slots (filter (λ t. not (lost t)) ts) ≡ filter (λ n. not (bad n)) (names_at slots ts)
  names_left [] all = refl
  names_left (t ∷ ts) all =
      by (get_or (arms_of slots t.slot) t.arm (new_arm 0)) (there t (All-head (IsThere slots) t ts all)) (lost t) refl (names_left ts (All-tail (IsThere slots) t ts all))
    where
      by : (a : Arm) → arm_at slots t ≡ Some a → (b : Bool) → lost t ≡ b → names_at slots (filter (λ t. not (lost t)) ts) ≡ filter (λ n. not (bad n)) (names_at slots ts)
          → names_at slots (cond (not b) (t ∷ filter (λ t. not (lost t)) ts) (filter (λ t. not (lost t)) ts)) ≡ filter (λ n. not (bad n)) (names_at slots (t ∷ ts))
      by a is true gone rest =
          rest ∙ ap (λ b. cond (not b) (name_of a ∷ filter (λ n. not (bad n)) (names_at slots ts)) (filter (λ n. not (bad n)) (names_at slots ts))) (sym gone ∙ same t a is)
          ∙ ap (filter (λ n. not (bad n))) (sym (names_of t ts a is))
      by a is false stays rest =
          names_of t (filter (λ t. not (lost t)) ts) a is ∙ ap (λ ns. name_of a ∷ ns) rest
          ∙ ap (λ b. cond (not b) (name_of a ∷ filter (λ n. not (bad n)) (names_at slots ts)) (filter (λ n. not (bad n)) (names_at slots ts))) (sym stays ∙ same t a is)
          ∙ ap (filter (λ n. not (bad n))) (sym (names_of t ts a is))

  -- how many of the names are bad
  names_lost : (ts : List ArmAt) → All (IsThere slots) ts → length (filter lost ts) ≡ length (filter bad (names_at slots ts))
  names_lost [] all = refl
  names_lost (t ∷ ts) all =
      by (get_or (arms_of slots t.slot) t.arm (new_arm 0)) (there t (All-head (IsThere slots) t ts all)) (names_lost ts (All-tail (IsThere slots) t ts all))
    where
      longer : (b : Bool) (x : ArmAt) (n : ArmName) (xs : List ArmAt) (ns : List ArmName) → length xs ≡ length ns → length (cond b (x ∷ xs) xs) ≡ length (cond b (n ∷ ns) ns)
      longer true x n xs ns e = omega (arith, e)
      longer false x n xs ns e = e

      by : (a : Arm) → arm_at slots t ≡ Some a → length (filter lost ts) ≡ length (filter bad (names_at slots ts)) → length (filter lost (t ∷ ts)) ≡ length (filter bad (names_at slots (t ∷ ts)))
      by a is rest =
          longer (lost t) t (name_of a) (filter lost ts) (filter bad (names_at slots ts)) rest
          ∙ ap (λ b. length (cond b (name_of a ∷ filter bad (names_at slots ts)) (filter bad (names_at slots ts)))) (same t a is)
          ∙ ap (λ ns. length (filter bad ns)) (sym (names_of t ts a is))

  counts_same : (ts : List ArmAt) → All (IsThere slots) ts → count_by lost ts ≡ count_by bad (names_at slots ts)
  counts_same ts all = sym (length-filter lost ts) ∙ names_lost ts all ∙ length-filter bad (names_at slots ts)

pub loses_all : (marks : List (List Bool)) (old new : Pass) → Loses marks old new → (slots : SlotTable) (bad : ArmName → Bool) → AreMarked slots marks bad → All (IsThere slots) old.targets.items
    → pass_in slots new ≡ lose_some bad (pass_in slots old)
loses_all marks old new is slots bad marked all = λ i. record {
  number = is.number_stays i;
  kind = is.kind_stays i;
  targets = (ap (names_at slots) is.targets_are ∙ names_left slots bad (is_lost marks) marked old.targets.items all) i;
  max = is.max_stays i;
  next = is.place_stays i;
  errors = (is.errors_are ∙ ap (λ n. capped (old.errors + n)) (ap (counted old.kind) (counts_same slots bad (is_lost marks) marked old.targets.items all) ∙ by old.kind)) i;
  running = is.running_stays i;
}
  where
    by : (k : PassKind) → counted k (count_by bad (names_at slots old.targets.items)) ≡ lost_errors k bad (names_at slots old.targets.items)
    by Rebuild = refl
    by Heal = refl
