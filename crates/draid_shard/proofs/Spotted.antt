-- The arms of a block that answer, by the slots, are so by the state machine.
use Rattle.std.proofs.Common.{◌≡◌, ◌∙◌, not, ℕ, true, List, Some, refl, sym, ap, subst, slice_get}
use Rattle.std.specs.Prelude.{option_map}
use Rattle.draid_names.specs.declared.pointer.Pointer.{Pointer}
use Rattle.draid_machine.specs.Arms as arms
use Rattle.draid_machine.specs.Arms.{is_clean, leaf_answers, leaf_at, logged, passes}
use Rattle.draid_machine.specs.Created.{IsReached}
use Rattle.draid_machine.specs.Names.{has_name}
use Rattle.draid_machine.specs.State as machine
use Rattle.draid_machine.specs.declared.names.Stage.{Stage}
use Rattle.draid_machine.proofs.Small.{some_same}
use Rattle.draid_entries.specs.Maps.{held_at, key_of, staged}
use Rattle.draid_slots.specs.Changes.{IsOf}
use Rattle.draid_slots.specs.States.{HasSlots, name_of}
use Rattle.draid_slots.specs.Table.{SlotTable, arm_at}
use Rattle.draid_shard.specs.Part.{IsPart, IsRun, Part, layout_in}
use Rattle.draid_shard.specs.Rows.{AreApart, IsRowsOf, arm_no, leaf_on}
use Rattle.draid_shard.proofs.Answering.{answers_is, apart, leaf_at_is, listed, listed_arm, named_arm}
use Rattle.draid_shard.proofs.Finding.{columns_apart}
use Rattle.draid_shard.specs.Spots.{AreSpots, IsSpot, SpotOn, SpotsOf, rows_at}
use Rattle.draid_shard.specs.declared.loan.Spot.{Spot}

module _ (part : Part) (slots : SlotTable) (w : machine.State) (pointer : Pointer) (stage : Stage) (spots : List Spot) (is : IsPart part) (of : IsOf slots part.geometry part.perms part.number)
    (reached : IsReached (layout_in part) w) (has : HasSlots slots w.core) (run : IsRun part.geometry pointer.first pointer.stripes) (held : w.core.held (key_of pointer) ≡ Some (held_at (staged stage pointer)))
    (right : SpotsOf part slots pointer spots) where
  abbrev l : machine.Layout
  l = layout_in part

  own : (c : ℕ) → IsRowsOf part pointer c (rows_at part pointer c)
  own c = record { slot_is = refl; first_is = refl; count_is = refl; size_is = refl; birth_is = refl; slice_is = refl }

  by_name : (spot : Spot) (o : SpotOn part slots pointer spot) → leaf_at l w.core.order (name_of o.arm) pointer.first ≡ Some spot.leaf
  by_name spot o = leaf_at_is part is slots of w reached has pointer run spot.column o.column (rows_at part pointer spot.column) (own spot.column) o.k o.arm o.there ∙ o.lies

  lies : (spot : Spot) (o : SpotOn part slots pointer spot) → leaf_at l w.core.order spot.arm pointer.first ≡ Some spot.leaf
  lies spot o = ap (λ n. leaf_at l w.core.order n pointer.first) (sym o.arm_is) ∙ by_name spot o

  in_order : (spot : Spot) (o : SpotOn part slots pointer spot) → has_name (w.core.order (l.slot_of pointer.first spot.column)) spot.arm ≡ true
  in_order spot o = subst (λ n. has_name (w.core.order (l.slot_of pointer.first spot.column)) n ≡ true) o.arm_is
      (listed part is slots of w reached has pointer run spot.column o.column (rows_at part pointer spot.column) (own spot.column) o.k (name_of o.arm) (ap (option_map name_of) o.there))

  is_spot : (spot : Spot) → SpotOn part slots pointer spot → IsSpot l w.core (held_at (staged stage pointer)) spot
  is_spot spot o = record {
    column = o.column;
    listed = in_order spot o;
    lies = lies spot o;
    answers = sym (ap (λ o. passes o (leaf_answers w.core)) (by_name spot o))
        ∙ answers_is part is slots of w reached has pointer run spot.column o.column (rows_at part pointer spot.column) (own spot.column) o.k o.arm o.there ∙ o.answers;
    clean = o.clean ∙ sym (ap (λ a. not (logged a pointer.birth)) (has.arms (arm_no (rows_at part pointer spot.column) o.k) o.arm o.there)) ∙ ap (is_clean w.core pointer.birth) o.arm_is;
    first = o.first;
  }

  spots_apart : (i j : ℕ) (a b : Spot) → slice_get spots i ≡ Some a → slice_get spots j ≡ Some b → a.leaf ≡ b.leaf → i ≡ j
  spots_apart i j a b at there same =
      let x = right.each i a at in
      let y = right.each j b there in
      let column : a.column ≡ b.column
      = columns_apart part is slots of w reached has pointer run a.column b.column a.leaf a.arm b.arm x.column y.column (in_order a x) (in_order b y) (lies a x) (lies b y ∙ ap Some (sym same)) in
      let own_apart : AreApart slots (rows_at part pointer a.column)
      = apart part is slots of w reached has pointer run a.column x.column (rows_at part pointer a.column) (own a.column) stage held in
      let over : leaf_on slots (rows_at part pointer a.column) y.k ≡ Some a.leaf = subst (λ c. leaf_on slots (rows_at part pointer c) y.k ≡ Some b.leaf) (sym column) y.lies ∙ ap Some (sym same) in
      let index : x.k ≡ y.k = own_apart.leaves x.k y.k a.leaf x.lies over in
      let arm_there : arm_at slots (arm_no (rows_at part pointer a.column) x.k) ≡ Some y.arm
      = subst (λ k. arm_at slots (arm_no (rows_at part pointer a.column) k) ≡ Some y.arm) (sym index) (subst (λ c. arm_at slots (arm_no (rows_at part pointer c) y.k) ≡ Some y.arm) (sym column) y.there) in
      let arm : x.arm ≡ y.arm = some_same (arm_at slots (arm_no (rows_at part pointer a.column) x.k)) x.arm y.arm x.there arm_there in
      right.once i j a b at there column (sym x.arm_is ∙ ap name_of arm ∙ y.arm_is)

  pub spotted : AreSpots l w.core (held_at (staged stage pointer)) spots
  spotted = record {
    each = λ k spot at. is_spot spot (right.each k spot at);
    all = λ c n less at answers.
        let z = listed_arm part is slots of w reached has pointer run c less (rows_at part pointer c) (own c) n at in
        let a = named_arm slots (rows_at part pointer c) z.0 n z.2 in
        right.all c z.0 n less z.2 (sym (answers_is part is slots of w reached has pointer run c less (rows_at part pointer c) (own c) z.0 a.0 a.1)
        ∙ ap (λ n. arms.answers l w.core n pointer.first) a.2 ∙ answers);
    apart = spots_apart;
  }
