-- What was read of a block as it was lent is what the state says, and so it is readable but for its bad columns, or more of them are bad than there are parity columns.
use Rattle.std.proofs.Common.{arith, ◌≡◌, ◌↔◌, ◌⊎◌, ◌+◌, ◌-◌, ◌<◌, ◌≤◌, ◌∙◌, ℕ, Bool, true, false, List, Option, None, Some, Vec, Global, refl, sym, ap, subst, length, option_map, slice_get, if◌then◌else◌}
use Rattle.std.specs.Prelude.{IfSome, slice_index_or}
use Rattle.std.proofs.lemmas.Bool.Decides.{nat_tests}
use Rattle.std.proofs.lemmas.Option.{slice_get_within}
use Rattle.draid_names.specs.declared.pass_kind.PassKind.TheVariants.{Heal}
use Rattle.draid_names.specs.declared.pointer.Pointer.{Pointer}
use Rattle.draid_spec.specs.declared.layout.Geometry.{Geometry}
use Rattle.draid_rack.specs.Rack.{OnTold, Told}
use Rattle.draid_rack.specs.declared.Rack.{Ghosts}
use Rattle.draid_columns.specs.Columns.{RowsStand}
use Rattle.draid_block.specs.Blocks.{AreColumns, IsContent, cut_of}
use Rattle.draid_block.specs.Solving.{IsFetched, IsReadable}
use Rattle.draid_machine.specs.declared.event.Event.TheVariants.{Lend}
use Rattle.draid_machine.specs.declared.names.ArmName.{ArmName}
use Rattle.draid_machine.specs.declared.names.Held.{Held}
use Rattle.draid_machine.specs.Arms.{fails, leaf_at, passes, reading}
use Rattle.draid_machine.specs.Created.{IsReached}
use Rattle.draid_machine.specs.Names.{has_number, is_heal, takes}
use Rattle.draid_machine.specs.State as machine
use Rattle.draid_machine.specs.Step.{IsChosen, LendStep, unless_failed}
use Rattle.draid_machine.proofs.Small.{absurd_test, none_some, some_same}
use Rattle.draid_segments.specs.Reads.{IsAbsent, IsUnread, MoreBad}
use Rattle.draid_segments.specs.Segments.{Pieces}
use Rattle.draid_readable.specs.Fetched.{AreFetched, IsFetchedOf}
use Rattle.draid_readable.proofs.Readable as read
use Rattle.draid_entries.specs.Maps.{held_at, key_of, staged}
use Rattle.draid_pass.specs.declared.pass.Pass.{Pass}
use Rattle.draid_slots.specs.States.{pass_in}
use Rattle.draid_shard.specs.Columns.{ArePieces, row_bytes}
use Rattle.draid_shard.specs.Fits.{Valid}
use Rattle.draid_shard.specs.Loans.{IsKept, IsLentBlock, block_loan, loan_in}
use Rattle.draid_shard.specs.Part.{IsRun, Part}
use Rattle.draid_shard.specs.Rows.{IsRowsOf, rows_on}
use Rattle.draid_shard.specs.Stands.{StandsFor}
use Rattle.draid_shard.specs.States.{IsIn, Leads, layout_by, part_of}
use Rattle.draid_shard.specs.declared.loan.LentBlock.{LentBlock}
use Rattle.draid_shard.specs.declared.places.ColumnRows.{ColumnRows}
use Rattle.draid_shard.specs.declared.shard.Shard.{Shard}
use Rattle.draid_shard.proofs.Answering.{leaf_at_is, named_arm}
use Rattle.draid_shard.proofs.Held.{key_leads}
use Rattle.draid_shard.proofs.Homes.{geometry_is, lays}
use Rattle.draid_restore.specs.Loans.{LendsBlock, counted}
use Rattle.draid_restore.specs.Restoring.{fetched_of}
use Rattle.draid_shard.specs.Spots.{rows_at}
use Rattle.draid_shard.specs.Spots.{IsStraight}
use Rattle.draid_shard.proofs.Straight.{straight}

-- what no leaf failed for is the arm itself
unless_is : (l : machine.Layout) (q : machine.Core) (x : ℕ) (failed : List ℕ) (n : ArmName) (b : Bool) → fails l q failed n x ≡ b → unless_failed l q x failed (Some n) ≡ (if b then None else Some n)
unless_is l q x failed n b is = ap (λ b. if b then None else Some n) is

-- a scrub's pass that counts more errors was one
was_heal : (o : Option Pass) (lender : Pass) (more : ℕ) → option_map (counted more) o ≡ Some lender → lender.kind ≡ Heal → (pass : Pass) × (o ≡ Some pass) × (pass.kind ≡ Heal)
was_heal None lender more is heal = absurd (cc)
was_heal (Some pass) lender more is heal = (pass, refl, ap (λ (p : Pass). p.kind) (some_same (Some (counted more pass)) (counted more pass) lender refl is) ∙ heal)

taken_from : (h : Held) (x : ℕ) → takes h x ≡ true → h.first ≤ x
taken_from h x taken = grind (arith, nat_tests, taken)

taken_to : (h : Held) (x : ℕ) → takes h x ≡ true → x < h.first + h.stripes
taken_to h x taken = grind (arith, nat_tests, taken)

told_row : (rows : ColumnRows) (column : List ℕ) (at leaf sector size row : ℕ) (t : Option Told) → OnTold t (λ x. RowsStand (rows_on rows at) x.reads column rows.count) → at ≡ leaf → sector ≡ rows.first + row → rows.size ≡ size → row < rows.count
    → OnTold t (λ x. x.reads leaf sector ≡ Some (row_bytes size column row))
told_row rows column at leaf sector size row None stand same s long few = tt
told_row rows column at leaf sector size row (Some x) stand same s long few = (λ i. x.reads (sym same i) (s i)) ∙ stand row few ∙ ap (λ z. Some (row_bytes z column row)) long

module _ {R A : Type 0} (rack : Ghosts R) (old new : Shard R A) (lends : LendsBlock rack old new) (v : Valid rack old) (now : Valid rack new) where
  abbrev lent : LentBlock
  lent = lends.lent

  abbrev pointer : Pointer
  pointer = lends.lent.pointer

  abbrev part : Part
  part = part_of old

  abbrev l : machine.Layout
  l = layout_by old

  abbrev failed : List ℕ
  failed = lends.failed.items

  abbrev block : Held
  block = held_at (staged lends.here.stage pointer)

  geometry_same : new.geometry ≡ old.geometry
  geometry_same = ap (λ (p : Part). p.geometry) lends.does.part

  kept : IsLentBlock new.geometry new.pass lent
  kept = subst (λ o. IfSome o (IsKept new.geometry new.pass)) lends.lent_is now.kept

  run : IsRun old.geometry pointer.first pointer.stripes
  run = subst (λ (g : Geometry). IsRun g pointer.first pointer.stripes) geometry_same kept.run

  fetched_is : IsFetched (cut_of old.geometry) (fetched_of lent)
  fetched_is = subst (λ (g : Geometry). IsFetched (cut_of g) (fetched_of lent)) geometry_same kept.fetched

  width : old.geometry.g ≡ old.geometry.spec.parity + old.geometry.spec.ndata
  width = (geometry_is part v.part).columns

  own : (c : ℕ) → IsRowsOf part pointer c (rows_at part pointer c)
  own c = record { slot_is = refl; first_is = refl; count_is = refl; size_is = refl; birth_is = refl; slice_is = refl }

  module _ (w : machine.State) (reached : IsReached (layout_by old) w) (is : IsIn old w) where
    abbrev q : machine.Core
    q = w.core

    -- ---- the event
    led : Leads l w (Lend lends.failed) new
    led = lends.does.leads w reached is

    step : LendStep l w failed led.state
    step = led.step

    loan_is : step.n ≡ block_loan lent
    loan_is = some_same led.state.loan step.n (block_loan lent) (ap (λ (s : machine.State). s.loan) step.made) (led.is_in.loan ∙ ap (option_map loan_in) lends.lent_is)

    pub held_is : q.held (key_of pointer) ≡ Some block
    held_is =
        sym (ap (λ (s : machine.State). s.core.held (key_of pointer)) step.made) ∙ led.is_in.held (key_of pointer)
        ∙ key_leads new.entries pointer.first (staged lends.here.stage pointer) lends.here.there

    block_is : step.h ≡ block
    block_is = some_same (q.held (key_of pointer)) step.h block (subst (λ (n : machine.Loan). q.held n.key ≡ Some step.h) loan_is step.next.found) held_is

    heal : is_heal step.p.kind ≡ true
    heal =
        let z = was_heal old.pass kept.lender (length failed) (sym lends.pass ∙ kept.there) kept.kind in
        let same : step.p ≡ pass_in old.slots z.0 = some_same q.pass step.p (pass_in old.slots z.0) step.pass (is.pass ∙ ap (option_map (pass_in old.slots)) z.1) in
        ap (λ (p : machine.Pass). is_heal p.kind) same ∙ ap is_heal z.2

    taken : takes block lent.stripe ≡ true
    taken = subst (λ (n : machine.Loan). takes block n.stripe ≡ true) loan_is (subst (λ (h : Held). takes h step.n.stripe ≡ true) block_is step.next.taken)

    -- ---- which arm was read
    chosen : (c : ℕ) → c < old.geometry.g → IsChosen l q step.p block lent.stripe failed c (slice_index_or lent.chosen.items c None)
    chosen c less =
        subst (λ (h : Held). IsChosen l q step.p h lent.stripe failed c (slice_index_or lent.chosen.items c None)) block_is
        (subst (λ (n : machine.Loan). IsChosen l q step.p step.h n.stripe failed c (n.chosen c)) loan_is (step.chosen c less))

    named : (c : ℕ) → c < old.geometry.g → slice_index_or lent.chosen.items c None ≡ unless_failed l q lent.stripe failed (reading l q block c)
    named c less = let z = chosen c less in z.chosen_is ∙ ap (unless_failed l q lent.stripe failed) (z.heal heal)

    follows : IsStraight l q block
    follows = straight part q block v.part run

    leaf_same : (n : ArmName) → leaf_at l q.order n lent.stripe ≡ leaf_at l q.order n pointer.first
    leaf_same n =
        let from = taken_from block lent.stripe taken in
        let to = taken_to block lent.stripe taken in
        ap (leaf_at l q.order n) (let same : lent.stripe ≡ pointer.first + (lent.stripe - pointer.first) = omega (arith, from) in same) ∙ follows.leaves n (lent.stripe - pointer.first) (omega (arith, from, to))

    fails_same : (n : ArmName) → fails l q failed n lent.stripe ≡ fails l q failed n pointer.first
    fails_same n = ap (λ o. passes o (has_number failed)) (leaf_same n)

    -- ---- what was read
    unread : (o : Option ArmName) → (unless_failed l q lent.stripe failed o ≡ None) ↔ IsUnread l q block failed o
    unread None = ((λ e. tt), (λ e. refl))
    unread (Some n) = by (fails l q failed n pointer.first) refl
      where
        by : (b : Bool) → fails l q failed n pointer.first ≡ b → (unless_failed l q lent.stripe failed (Some n) ≡ None) ↔ (fails l q failed n pointer.first ≡ true)
        by true bad = ((λ e. bad), (λ e. unless_is l q lent.stripe failed n true (fails_same n ∙ bad)))
        by false fine = (
          (λ e. absurd (none_some (unless_failed l q lent.stripe failed (Some n)) n e (unless_is l q lent.stripe failed n false (fails_same n ∙ fine)))),
          (λ e. absurd_test (fails l q failed n pointer.first) e fine),
        )

    absent : (c : ℕ) → c < old.geometry.g → (slice_get lent.columns.items c ≡ Some None) ↔ IsAbsent l q block failed c
    absent c less =
        let none = lends.reads.none c less in
        let same = unread (reading l q block c) in
        ((λ gone. same.0 (sym (named c less) ∙ none.0 gone)), (λ bad. none.1 (named c less ∙ same.1 bad)))

    read_row : (c row leaf : ℕ) (n : ArmName) (bytes : Vec ℕ Global) → slice_get lent.columns.items c ≡ Some (Some bytes) → reading l q block c ≡ Some n → row < pointer.stripes
        → leaf_at l q.order n (pointer.first + row) ≡ Some leaf → OnTold (rack.told old.rack) (λ x. x.reads leaf (l.sector_of (pointer.first + row) c) ≡ Some (row_bytes old.geometry.props.sector bytes.items row))
    read_row c row leaf n bytes at reads less lies = by (fails l q failed n pointer.first) refl
      where
        below : c < old.geometry.g
        below = let within = slice_get_within lent.columns.items c (Some bytes) at in let all = fetched_is.count in let same = width in omega (arith, within, all, same)

        from : (b : Bool) → fails l q failed n pointer.first ≡ b → slice_index_or lent.chosen.items c None ≡ (if b then None else Some n)
        from b is = named c below ∙ ap (unless_failed l q lent.stripe failed) reads ∙ unless_is l q lent.stripe failed n b (fails_same n ∙ is)

        by : (b : Bool) → fails l q failed n pointer.first ≡ b → OnTold (rack.told old.rack) (λ x. x.reads leaf (l.sector_of (pointer.first + row) c) ≡ Some (row_bytes old.geometry.props.sector bytes.items row))
        by true bad = absurd (none_some (Some bytes) bytes (some_same (slice_get lent.columns.items c) (Some bytes) None at ((lends.reads.none c below).1 (from true bad))) refl)
        by false fine =
            let z = lends.reads.reads c n bytes below (from false fine) at in
            let a = named_arm old.slots (rows_at part pointer c) z.0 n z.2 in
            let first : leaf_at l q.order n pointer.first ≡ Some z.1
            = subst (λ m. leaf_at l q.order m pointer.first ≡ Some z.1) a.2 (leaf_at_is part v.part old.slots v.slots w reached is.slots pointer run c below (rows_at part pointer c) (own c) z.0 a.0 a.1 ∙ z.3) in
            let same : z.1 ≡ leaf = some_same (leaf_at l q.order n pointer.first) z.1 leaf first (sym (follows.leaves n row less) ∙ lies) in
            told_row (rows_at part pointer c) bytes.items z.1 leaf (l.sector_of (pointer.first + row) c) old.geometry.props.sector row (rack.told old.rack) z.4 same (follows.sectors c row less) refl less

    are_fetched : AreFetched l w block old.geometry.props.sector failed lent.columns.items (rack.told old.rack)
    are_fetched = record { absent = absent; reads = read_row }

  -- ---- the law
  module _ (w : machine.State) (h : Held) (pieces : Pieces) (bytes : List ℕ) (columns : List (List ℕ)) (stands : StandsFor rack old w pieces) (held : w.core.held (key_of pointer) ≡ Some h) (content : IsContent pointer bytes)
      (are_columns : AreColumns (cut_of old.geometry) bytes columns) (are_pieces : ArePieces old.geometry.props.sector old.geometry.g pointer.stripes columns (key_of pointer) pieces) where
    same : block ≡ h
    same = some_same (w.core.held (key_of pointer)) block h (held_is w stands.reached stands.is_in) held

    of : IsFetchedOf l (cut_of old.geometry) block (key_of pointer) pieces (fetched_of lent) bytes
    of = record {
      width = width;
      parity = refl;
      stripes = refl;
      fetched_is = fetched_is;
      content = content;
      columns = columns;
      are = are_columns;
      rows = are_pieces;
    }

    pub readable : OnTold (rack.told old.rack) (λ x. ((bad : List ℕ) × IsReadable (cut_of old.geometry) (fetched_of lent) bytes bad) ⊎ MoreBad l w x.harmed (key_of pointer) h failed)
    readable =
        subst (λ (i : Held). OnTold (rack.told old.rack) (λ x. ((bad : List ℕ) × IsReadable (cut_of old.geometry) (fetched_of lent) bytes bad) ⊎ MoreBad l w x.harmed (key_of pointer) i failed)) same
        (read.readable l (cut_of old.geometry) w (key_of pointer) block pieces (fetched_of lent) bytes failed (rack.told old.rack) (lays part v.part) stands.reached (held_is w stands.reached stands.is_in) lends.here.block of
        (are_fetched w stands.reached stands.is_in) stands.segments)
