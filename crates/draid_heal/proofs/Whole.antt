-- A landing is whole just where each arm that is clean for the block answered, and no call on one failed.
use Rattle.std.proofs.Common.{◌≡◌, not, ◌∙◌, ℕ, true, List, sym, ap}
use Rattle.std.specs.Prelude.{option_map}
use Rattle.draid_names.specs.declared.pointer.Pointer.{Pointer}
use Rattle.draid_machine.specs.Arms as arms
use Rattle.draid_machine.specs.Arms.{fails, is_clean, leaf_at, logged, passes}
use Rattle.draid_machine.specs.Created.{IsReached}
use Rattle.draid_machine.specs.Names.{has_name, has_number}
use Rattle.draid_machine.specs.State as machine
use Rattle.draid_machine.specs.Step.{IsWhole}
use Rattle.draid_machine.specs.declared.names.Held.{Held}
use Rattle.draid_machine.specs.declared.names.Stage.{Stage}
use Rattle.draid_machine.proofs.Small.{not_true}
use Rattle.draid_entries.specs.Maps.{held_at, staged}
use Rattle.draid_slots.specs.Changes.{IsOf}
use Rattle.draid_slots.specs.States.{HasSlots, name_of}
use Rattle.draid_slots.specs.Table.{SlotTable, arms_of, is_logged}
use Rattle.draid_shard.specs.Part.{IsPart, IsRun, Part, layout_in}
use Rattle.draid_shard.specs.Rows.{answers_on, arm_no}
use Rattle.draid_shard.specs.declared.loan.Spot.{Spot}
use Rattle.draid_shard.proofs.Answering.{answers_is, listed, listed_arm, named_arm}
use Rattle.draid_heal.specs.Settle.{AreFine}
use Rattle.draid_shard.specs.Spots.{AreSpots, CleanAnswer, SpotsOf, rows_at}
use Rattle.draid_shard.proofs.Fitting.{own_rows}
use Rattle.draid_heal.proofs.Standing.{there_is}

pub fine_of : (l : machine.Layout) (q : machine.Core) (h : Held) (spots : List Spot) (failed : List ℕ) → AreSpots l q h spots → IsWhole l q h failed → AreFine spots failed
fine_of l q h spots failed are whole k spot at clean =
    let s = are.each k spot at in
    sym (ap (λ o. passes o (has_number failed)) s.lies) ∙ (whole spot.column spot.arm s.column s.listed (sym s.clean ∙ clean)).1

module _ (part : Part) (slots : SlotTable) (w : machine.State) (pointer : Pointer) (stage : Stage) (spots : List Spot) (is : IsPart part) (of : IsOf slots part.geometry part.perms part.number)
    (reached : IsReached (layout_in part) w) (has : HasSlots slots w.core) (run : IsRun part.geometry pointer.first pointer.stripes) (right : SpotsOf part slots pointer spots)
    (are : AreSpots (layout_in part) w.core (held_at (staged stage pointer)) spots) (failed : List ℕ) where
  abbrev l : machine.Layout
  l = layout_in part

  pub whole_of : CleanAnswer part slots pointer → AreFine spots failed → IsWhole l w.core (held_at (staged stage pointer)) failed
  whole_of clean fine c n less at is_clean_arm =
      let rows = rows_at part pointer c in
      let own = own_rows part pointer c in
      let z = listed_arm part is slots of w reached has pointer run c less rows own n at in
      let a = named_arm slots rows z.0 n z.2 in
      let logged_is : not (is_logged slots (arm_no rows z.0) pointer.birth) ≡ true
      = sym (ap (λ a. not (logged a pointer.birth)) (has.arms (arm_no rows z.0) a.0 a.1)) ∙ ap (is_clean w.core pointer.birth) a.2 ∙ is_clean_arm in
      let on : answers_on slots rows z.0 ≡ true = clean c z.0 less z.1 (not_true (is_logged slots (arm_no rows z.0) pointer.birth) logged_is) in
      let answers : arms.answers l w.core n pointer.first ≡ true
      = ap (λ n. arms.answers l w.core n pointer.first) (sym a.2) ∙ answers_is part is slots of w reached has pointer run c less rows own z.0 a.0 a.1 ∙ on in
      let s = right.all c z.0 n less z.2 on in
      let spot = are.each s.k s.spot s.there in
      let none = fine s.k s.spot s.there (spot.clean ∙ ap (is_clean w.core pointer.birth) s.arm_is ∙ is_clean_arm) in
      (answers, ap (λ n. passes (leaf_at l w.core.order n pointer.first) (has_number failed)) (sym s.arm_is) ∙ ap (λ o. passes o (has_number failed)) spot.lies ∙ none)

  pub clean_of : IsWhole l w.core (held_at (staged stage pointer)) failed → CleanAnswer part slots pointer
  clean_of whole c k less there free =
      let rows = rows_at part pointer c in
      let own = own_rows part pointer c in
      let a = there_is (arms_of slots rows.slot) k there in
      let at : has_name (w.core.order (l.slot_of pointer.first c)) (name_of a.0) ≡ true
      = listed part is slots of w reached has pointer run c less rows own k (name_of a.0) (ap (option_map name_of) a.1) in
      let clean : is_clean w.core pointer.birth (name_of a.0) ≡ true = ap (λ a. not (logged a pointer.birth)) (has.arms (arm_no rows k) a.0 a.1) ∙ ap not free in
      sym (answers_is part is slots of w reached has pointer run c less rows own k a.0 a.1) ∙ (whole c (name_of a.0) less at clean).0
