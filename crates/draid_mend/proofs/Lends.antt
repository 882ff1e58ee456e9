-- A stripe whose columns were read from their sources is lent as the state machine says.
use Rattle.std.proofs.Common.{◌≡◌, ◌+◌, ◌<◌, ◌&&◌, ◌∙◌, ℕ, zero, suc, true, false, List, [], ◌∷◌, Option, Some, None, arith, refl, sym, ap, subst, inl, inr, map, length, slice_get}
use Rattle.std.specs.Prelude.{filter, if◌then◌else◌, not, option_map}
use Rattle.draid_names.specs.declared.arm.Arm.{Arm}
use Rattle.draid_names.specs.declared.pass_kind.PassKind.TheVariants.{Rebuild}
use Rattle.draid_names.specs.declared.pointer.Pointer.{Pointer}
use Rattle.draid_rack.specs.Rack.{Told}
use Rattle.draid_machine.specs.After.{lend_state}
use Rattle.draid_machine.specs.Arms as arms
use Rattle.draid_machine.specs.Arms.{HasEmptyLog, IsFirst, IsSource, fails, leaf_at, logged, passes}
use Rattle.draid_machine.specs.Created.{IsReached}
use Rattle.draid_machine.specs.Names.{has_name, has_number, is_heal}
use Rattle.draid_machine.specs.State as machine
use Rattle.draid_machine.specs.Step.{IsChosen, IsNext, LendStep, ReadsThere, to_list as machine_list, unless_failed}
use Rattle.draid_machine.specs.declared.names.ArmName.{ArmName}
use Rattle.draid_machine.specs.declared.names.Held.{Held}
use Rattle.draid_machine.specs.declared.names.Key.{Key}
use Rattle.draid_machine.proofs.Small.{absurd_test, bool_cases, some_same}
use Rattle.draid_slots.specs.Changes.{IsOf}
use Rattle.draid_slots.specs.States.{HasSlots, name_of}
use Rattle.draid_slots.specs.Table.{SlotTable, arm_at, arms_of}
use Rattle.draid_shard.specs.Part.{IsPart, IsRun, Part, layout_in}
use Rattle.draid_shard.specs.Rows.{IsRowsOf, arm_no}
use Rattle.draid_shard.specs.declared.places.ColumnRows.{ColumnRows}
use Rattle.draid_shard.proofs.Answering.{answers_is, leaf_at_is, listed, order_is}
use Rattle.draid_shard.proofs.Finding.{columns_apart}
use Rattle.draid_mend.specs.Lending.{Lends, chosen_in, loan_of, taken_of, to_list}
use Rattle.draid_mend.specs.Reading.{IsSourceOn, ReadsStripe}
use Rattle.draid_mend.specs.Sources.{IsSourceArm, NoSource}
use Rattle.draid_mend.specs.declared.reading.Taken.{Taken}
use Rattle.draid_mend.specs.declared.reading.Taken.TheVariants.{Nowhere, Failed, From}

-- ---- the first arm of a list
first_none : (P : ArmName → Type 0) (Q : ℕ → Type 0) (xs : List Arm) → ((k : ℕ) (a : Arm) → slice_get xs k ≡ Some a → P (name_of a) → Q k) → ((k : ℕ) → k < length xs → Q k → ⊥) → IsFirst P (map name_of xs) None
first_none P Q [] to none = tt
first_none P Q (x ∷ xs) to none =
    ((λ at. none zero (omega arith) (to zero x refl at)), first_none P (λ k. Q (suc k)) xs (λ k a at. to (suc k) a at) (λ k less. none (suc k) (omega (arith, less))))

first_some : (P : ArmName → Type 0) (Q : ℕ → Type 0) (xs : List Arm) (k : ℕ) (a : Arm) → ((k : ℕ) (a : Arm) → slice_get xs k ≡ Some a → P (name_of a) → Q k) → ((k : ℕ) (a : Arm) → slice_get xs k ≡ Some a → Q k → P (name_of a))
    → slice_get xs k ≡ Some a → Q k → ((j : ℕ) → j < k → Q j → ⊥) → IsFirst P (map name_of xs) (Some (name_of a))
first_some P Q [] k a to back at is first = absurd (cc)
first_some P Q (x ∷ xs) zero a to back at is first = inl (back zero x refl is, ap name_of (some_same (Some x) a x at refl))
first_some P Q (x ∷ xs) (suc k) a to back at is first =
    inr ((λ here. first zero (omega arith) (to zero x refl here)), first_some P (λ j. Q (suc j)) xs k a (λ j b at. to (suc j) b at) (λ j b at. back (suc j) b at) at is (λ j less. first (suc j) (omega (arith, less))))

get_there : {A : Type 0} (xs : List A) (k : ℕ) → k < length xs → (x : A) × (slice_get xs k ≡ Some x)
get_there [] k less = absurd (omega (arith, less))
get_there (y ∷ ys) zero less = (y, refl)
get_there (y ∷ ys) (suc k) less = get_there ys k (omega (arith, less))

pub get_past : {A : Type 0} (xs : List A) (k : ℕ) → length xs < k + 1 → slice_get xs k ≡ None
get_past [] k past = refl
get_past (y ∷ ys) zero past = absurd (omega (arith, past))
get_past (y ∷ ys) (suc k) past = get_past ys k (omega (arith, past))

get_below : {A : Type 0} (xs : List A) (k : ℕ) (x : A) → slice_get xs k ≡ Some x → k < length xs
get_below [] k x is = absurd (cc)
get_below (y ∷ ys) zero x is = omega arith
get_below (y ∷ ys) (suc k) x is = let less = get_below ys k x is in omega (arith, less)

module _ (part : Part) (slots : SlotTable) (w : machine.State) (p : machine.Pass) (key : Key) (h : Held) (pointer : Pointer) (told : Option Told) (columns : List (List ℕ)) (taken : List Taken) (failed : List ℕ)
    (is : IsPart part) (of : IsOf slots part.geometry part.perms part.number) (reached : IsReached (layout_in part) w) (has : HasSlots slots w.core)
    (pass : w.core.pass ≡ Some p) (kind : p.kind ≡ Rebuild) (running : p.running ≡ true) (next : IsNext w.core p key h pointer.first) (one : pointer.stripes ≡ 1)
    (run : IsRun part.geometry pointer.first pointer.stripes) (was : ReadsStripe part slots pointer part.geometry.g told columns taken failed) where
  abbrev l : machine.Layout
  l = layout_in part

  abbrev x : ℕ
  x = pointer.first

  abbrev IsGood : ArmName → Type 0
  IsGood n = (arms.answers l w.core n x ≡ true) × HasEmptyLog w.core n

  module _ (c : ℕ) (column : c < part.geometry.g) (rows : ColumnRows) (rows_are : IsRowsOf part pointer c rows) where
    order : w.core.order (l.slot_of x c) ≡ map name_of (arms_of slots rows.slot)
    order = order_is part is slots of w reached has pointer run c column rows rows_are

    to_arm : (k : ℕ) (a : Arm) → slice_get (arms_of slots rows.slot) k ≡ Some a → IsGood (name_of a) → IsSourceArm slots rows.slot rows.slice k
    to_arm k a at good = record {
      answers = sym (answers_is part is slots of w reached has pointer run c column rows rows_are k a at) ∙ good.0;
      empty = λ group. sym (ap (λ o. logged o group) (has.arms (arm_no rows k) a at)) ∙ good.1 group;
    }

    back_arm : (k : ℕ) (a : Arm) → slice_get (arms_of slots rows.slot) k ≡ Some a → IsSourceArm slots rows.slot rows.slice k → IsGood (name_of a)
    back_arm k a at source = (
      answers_is part is slots of w reached has pointer run c column rows rows_are k a at ∙ source.answers,
      λ group. ap (λ o. logged o group) (has.arms (arm_no rows k) a at) ∙ source.empty group,
    )

    no_source : NoSource slots rows.slot rows.slice (length (arms_of slots rows.slot)) → IsSource l w.core x c None
    no_source none = subst (λ ns. IsFirst IsGood ns None) (sym order) (first_none IsGood (IsSourceArm slots rows.slot rows.slice) (arms_of slots rows.slot) to_arm none)

    -- the arm from which a column is taken, as the machine has it
    record IsFound (arm leaf : ℕ) : Type 0 where
      pub a : Arm
      pub there : arm_at slots (arm_no rows arm) ≡ Some a
      pub source : IsSource l w.core x c (Some (name_of a))
      pub lies : leaf_at l w.core.order (name_of a) x ≡ Some leaf
      pub in_order : has_name (w.core.order (l.slot_of x c)) (name_of a) ≡ true

    found : (arm leaf : ℕ) → IsSourceOn slots rows arm leaf → IsFound arm leaf
    found arm leaf on =
        let at = get_there (arms_of slots rows.slot) arm on.is.within in
        record {
          a = at.0;
          there = at.1;
          source = subst (λ ns. IsFirst IsGood ns (Some (name_of at.0))) (sym order)
              (first_some IsGood (IsSourceArm slots rows.slot rows.slice) (arms_of slots rows.slot) arm at.0 to_arm back_arm at.1 on.is.is on.is.first);
          lies = leaf_at_is part is slots of w reached has pointer run c column rows rows_are arm at.0 at.1 ∙ on.on;
          in_order = listed part is slots of w reached has pointer run c column rows rows_are arm (name_of at.0) (ap (option_map name_of) at.1);
        }

  -- ---- the leaves that failed
  abbrev FoundAt : ℕ → ℕ → Type 0
  FoundAt c leaf = (n : ArmName) × IsSource l w.core x c (Some n) × (leaf_at l w.core.order n x ≡ Some leaf) × (has_name (w.core.order (l.slot_of x c)) n ≡ true)

  failed_at : (c leaf : ℕ) → c < part.geometry.g → slice_get taken c ≡ Some (Failed leaf) → FoundAt c leaf
  failed_at c leaf less at =
      let it = was.each c (Failed leaf) at in
      let z = found c less it.rows it.of it.takes.0 leaf it.takes.1 in
      (name_of z.a, z.source, z.lies, z.in_order)

  below : (c : ℕ) (t : Taken) → slice_get taken c ≡ Some t → c < part.geometry.g
  below c t at = subst (λ n. c < n) was.many (get_below taken c t at)

  fails_there : (leaf : ℕ) → has_number failed leaf ≡ true → ReadsThere l w.core p h x leaf
  fails_there leaf at =
      let z = was.fail leaf at in
      let less = below z.0 (Failed leaf) z.1 in
      let a = failed_at z.0 leaf less z.1 in
      record {
        c = z.0;
        n = a.0;
        column = less;
        rebuild = λ not_heal. a.1;
        heal = λ heal. absurd_test (is_heal p.kind) heal (ap is_heal kind);
        lies = a.2;
      }

  -- ---- what is chosen
  no_heal : is_heal p.kind ≡ false
  no_heal = ap is_heal kind

  chosen_is : (c : ℕ) → c < part.geometry.g → IsChosen l w.core p h x failed c (chosen_in part slots pointer taken c)
  chosen_is c less = by t.0 t.1
    where
      t : (t : Taken) × (slice_get taken c ≡ Some t)
      t = get_there taken c (subst (λ n. c < n) (sym was.many) less)

      from : (n : Option ArmName) (chosen : Option ArmName) → IsSource l w.core x c n → chosen ≡ unless_failed l w.core x failed n → IsChosen l w.core p h x failed c chosen
      from n chosen source is = record { from = n; rebuild = λ not_heal. source; heal = λ heal. absurd_test (is_heal p.kind) heal no_heal; chosen_is = is }

      by : (t : Taken) → slice_get taken c ≡ Some t → IsChosen l w.core p h x failed c (chosen_in part slots pointer taken c)
      by Nowhere at =
          let it = was.each c Nowhere at in
          subst (IsChosen l w.core p h x failed c) (ap (taken_of slots (l.slot_of x c)) (sym at)) (from None None (no_source c less it.rows it.of it.takes) refl)
      by (Failed leaf) at =
          let a = failed_at c leaf less at in
          let it : fails l w.core failed a.0 x ≡ true = ap (λ o. passes o (has_number failed)) a.2 ∙ was.listed c leaf at in
          subst (IsChosen l w.core p h x failed c) (ap (taken_of slots (l.slot_of x c)) (sym at)) (from (Some a.0) None a.1 (sym (ap (λ b. if b then None else Some a.0) it)))
      by (From arm leaf) at =
          let it = was.each c (From arm leaf) at in
          let z = found c less it.rows it.of arm leaf it.takes.0 in
          let here : chosen_in part slots pointer taken c ≡ Some (name_of z.a)
          = ap (taken_of slots (l.slot_of x c)) at ∙ ap (λ s. option_map name_of (arm_at slots (record { slot = s; arm = arm }))) (sym it.of.slot_is) ∙ ap (option_map name_of) z.there in
          let out : fails l w.core failed (name_of z.a) x ≡ false = not_failed (name_of z.a) leaf z.lies z.in_order at in
          subst (IsChosen l w.core p h x failed c) (sym here) (from (Some (name_of z.a)) (Some (name_of z.a)) z.source (sym (ap (λ b. if b then None else Some (name_of z.a)) out)))
        where
          not_failed : (n : ArmName) (leaf : ℕ) → leaf_at l w.core.order n x ≡ Some leaf → has_name (w.core.order (l.slot_of x c)) n ≡ true → slice_get taken c ≡ Some (From arm leaf) → fails l w.core failed n x ≡ false
          not_failed n leaf lies in_order at = elim (bool_cases (has_number failed leaf)) [
            | inl fell ↦ absurd (
                let z = was.fail leaf fell in
                let d = failed_at z.0 leaf (below z.0 (Failed leaf) z.1) z.1 in
                let same : c ≡ z.0 = columns_apart part is slots of w reached has pointer run c z.0 leaf n d.0 less (below z.0 (Failed leaf) z.1) in_order d.3 lies d.2 in
                let clash : Some (From arm leaf) ≡ Some (Failed leaf) = sym at ∙ ap (slice_get taken) same ∙ z.1 in
                cc)
            | inr sound ↦ ap (λ o. passes o (has_number failed)) lies ∙ sound
          ]

  abbrev loan : machine.Loan
  loan = loan_of part slots w pointer key taken

  none_past : (c : ℕ) → part.geometry.g < c + 1 → chosen_in part slots pointer taken c ≡ None
  none_past c past = ap (taken_of slots (l.slot_of x c)) (get_past taken c (subst (λ n. n < c + 1) (sym was.many) past))

  lists_are : (o : Option ArmName) → to_list o ≡ machine_list o
  lists_are None = refl
  lists_are (Some n) = refl

  pub step : LendStep l w failed (lend_state w p loan failed)
  step = record {
    p = p;
    h = h;
    n = loan;
    pass = pass;
    running = running;
    next = next;
    serial = refl;
    chosen = chosen_is;
    no_more = λ c past. none_past c (omega (arith, past));
    read = λ c less. lists_are (chosen_in part slots pointer taken c) ∙ sym (ap (λ b. if b then filtered c else machine_list (chosen_in part slots pointer taken c)) no_heal);
    read_none = λ c past. ap to_list (none_past c (omega (arith, past)));
    fail = fails_there;
    made = refl;
  } where
    filtered : ℕ → List ArmName
    filtered c = filter (λ n. arms.answers l w.core n x && not (fails l w.core failed n x)) (w.core.order (l.slot_of h.first c))

  pub lends : Lends part slots w pointer key taken failed
  unfolding step
  lends = record { after = lend_state w p loan failed; step = step; loan = refl }
