-- The loan fact holds of what was read.
use Rattle.std.proofs.Common.{arith, ◌≡◌, ◌+◌, ◌*◌, ◌∙◌, ℕ, zero, true, false, List, Option, Some, None, refl, sym, ap, subst, take, drop, length, slice_get}
use Rattle.std.specs.Prelude.{option_map}
use Rattle.std.specs.declared.vec.Vec.{Vec}
use Rattle.std.specs.declared.alloc.Global.{Global}
use Rattle.std.proofs.Math.Seq.{take-length}
use Rattle.draid_names.specs.declared.pass_kind.PassKind.TheVariants.{Rebuild}
use Rattle.draid_names.specs.declared.pointer.Pointer.{Pointer}
use Rattle.draid_machine.specs.After.{lend_state}
use Rattle.draid_machine.specs.Arms.{leaf_at, passes}
use Rattle.draid_machine.specs.Created.{IsReached}
use Rattle.draid_machine.specs.Fitting.{LoanReads}
use Rattle.draid_machine.specs.State as machine
use Rattle.draid_machine.specs.Step.{IsNext}
use Rattle.draid_machine.specs.declared.event.Event.TheVariants.{Lend}
use Rattle.draid_machine.specs.declared.names.Held.{Held}
use Rattle.draid_machine.specs.declared.names.Key.{Key}
use Rattle.draid_machine.specs.declared.names.Segment.{Segment}
use Rattle.draid_machine.proofs.Lent.{every_loan}
use Rattle.draid_machine.proofs.Small.{some_same}
use Rattle.draid_parity.specs.Columns.{StripeValue, column_at}
use Rattle.draid_rack.specs.Rack.{Told}
use Rattle.draid_columns.specs.Columns.{RowsStand}
use Rattle.draid_segments.specs.Segments.{Holds, IsSure, Pieces}
use Rattle.draid_slots.specs.Changes.{IsOf}
use Rattle.draid_slots.specs.States.{HasSlots, name_of}
use Rattle.draid_slots.specs.Table.{SlotTable}
use Rattle.draid_shard.specs.Part.{IsPart, IsRun, Part, layout_in}
use Rattle.draid_shard.specs.Rows.{IsRowsOf, rows_on}
use Rattle.draid_shard.specs.declared.places.ColumnRows.{ColumnRows}
use Rattle.draid_shard.proofs.Answering.{kept_arm, leaf_at_is}
use Rattle.draid_shard.proofs.Homes.{lays}
use Rattle.draid_shard.proofs.Standing.{reached_more}
use Rattle.draid_mend.specs.Landing.{LoanStands}
use Rattle.draid_mend.specs.Lending.{loan_of, taken_of}
use Rattle.draid_mend.specs.Reading.{IsSourceOn, ReadsStripe}
use Rattle.draid_mend.specs.Stripes.{rows_at}
use Rattle.draid_mend.specs.declared.reading.Taken.{Taken}
use Rattle.draid_mend.specs.declared.reading.Taken.TheVariants.{Nowhere, Failed, From}
use Rattle.draid_mend.proofs.Columned.{rows_are}
use Rattle.draid_mend.proofs.Lends.{step}

pub all_of : (size : ℕ) (bytes : List ℕ) → length bytes ≡ size → take size (drop (0 * size) bytes) ≡ bytes
all_of size bytes long = let none : 0 * size ≡ 0 = grind arith in subst (λ k. take size (drop k bytes) ≡ bytes) (sym none) (subst (λ n. take n bytes ≡ bytes) long (take-length bytes))

module _ (part : Part) (slots : SlotTable) (w : machine.State) (p : machine.Pass) (key : Key) (h : Held) (pointer : Pointer) (x : Told) (read : StripeValue) (taken : List Taken) (failed : Vec ℕ Global) (pieces : Pieces)
    (is : IsPart part) (of : IsOf slots part.geometry part.perms part.number) (reached : IsReached (layout_in part) w) (has : HasSlots slots w.core)
    (pass : w.core.pass ≡ Some p) (kind : p.kind ≡ Rebuild) (running : p.running ≡ true) (next : IsNext w.core p key h pointer.first) (one : pointer.stripes ≡ 1)
    (run : IsRun part.geometry pointer.first pointer.stripes) (was : ReadsStripe part slots pointer part.geometry.g (Some x) read.columns taken failed.items)
    (holds : Holds (layout_in part) pieces w x) where
  abbrev l : machine.Layout
  l = layout_in part

  abbrev n : machine.Loan
  n = loan_of part slots w pointer key taken

  abbrev after : machine.State
  after = lend_state w p n failed.items

  reads : LoanReads l after n
  reads = every_loan l after n (lays part is)
      (reached_more l w after (Lend failed) reached (step part slots w p key h pointer (Some x) read.columns taken failed.items is of reached has pass kind running next one run was)) refl

  own_rows : (c : ℕ) → IsRowsOf part pointer c (rows_at part pointer c)
  own_rows c = record { slot_is = refl; first_is = refl; count_is = refl; size_is = refl; birth_is = refl; slice_is = refl }

  pub loan_stands : LoanStands l after n h pieces read x
  loan_stands c m s column chosen key_is row_is calm sure known = by (slice_get taken c) refl chosen
    where
      by : (t : Option Taken) → slice_get taken c ≡ t → taken_of slots (l.slot_of pointer.first c) t ≡ Some m → Some (column_at read.columns c) ≡ pieces n.key c s.row
      by None e is = absurd (cc)
      by (Some Nowhere) e is = absurd (cc)
      by (Some (Failed leaf)) e is = absurd (cc)
      by (Some (From arm leaf)) e is_m =
          let t = was.each c (From arm leaf) e in
          let same = rows_are part pointer c t.rows t.of in
          let source : IsSourceOn slots (rows_at part pointer c) arm leaf = subst (λ rows. IsSourceOn slots rows arm leaf) same t.takes.0 in
          let stand : RowsStand (rows_on (rows_at part pointer c) leaf) x.reads (column_at read.columns c) pointer.stripes
          = subst (λ (rows : ColumnRows). RowsStand (rows_on rows leaf) x.reads (column_at read.columns c) rows.count) same t.takes.1 in
          let z = kept_arm slots (rows_at part pointer c) arm leaf source.on in
          let name : name_of z.0 ≡ m = some_same (Some (name_of z.0)) (name_of z.0) m refl (sym (ap (option_map name_of) z.1) ∙ is_m) in
          let lies : leaf_at l w.core.order m pointer.first ≡ Some leaf
          = ap (λ a. leaf_at l w.core.order a pointer.first) (sym name)
          ∙ leaf_at_is part is slots of w reached has pointer run c column (rows_at part pointer c) (own_rows c) arm z.0 z.1 ∙ source.on in
          let segment : Segment = record { key = n.key; column = c; arm = m; leaf = leaf; row = s.row } in
          let is_sure : IsSure w segment h = record {
            held = next.found;
            present = reads.present _ h c s.row leaf m refl kind next.found chosen row_is lies;
            sure = subst (λ k. w.aside (record { key = k; column = c; arm = m; leaf = leaf; row = s.row }) ≡ false) (sym key_is)
                (subst (λ o. passes o (λ leaf. w.aside (record { key = s.key; column = c; arm = m; leaf = leaf; row = s.row })) ≡ false) lies sure);
          } in
          let harmless : x.harmed leaf (l.sector_of pointer.first c) ≡ false = subst (λ o. passes o (λ leaf. x.harmed leaf (l.sector_of pointer.first c)) ≡ false) lies calm in
          let holds_it : x.reads leaf (l.sector_of pointer.first c) ≡ pieces n.key c s.row
          = ap (λ f. x.reads leaf (l.sector_of f c)) (sym row_is) ∙ holds.reads segment h is_sure (ap (λ f. x.harmed leaf (l.sector_of f c)) row_is ∙ harmless) known in
          let first : l.sector_of pointer.first c + 0 ≡ l.sector_of pointer.first c = omega arith in
          let bytes : x.reads leaf (l.sector_of pointer.first c) ≡ Some (column_at read.columns c)
          = ap (x.reads leaf) (sym first) ∙ stand zero (omega (arith, one)) ∙ ap Some (all_of part.geometry.props.sector (column_at read.columns c) t.long) in
          sym bytes ∙ holds_it
