-- What the landing of a scrub's block writes on an arm that is clean for the block was harmed or in doubt, or a column was taken wrong.
use Rattle.std.proofs.Common.{arith, ◌≡◌, ◌⊎◌, ◌+◌, ◌*◌, ◌<◌, ◌∙◌, ℕ, Bool, true, false, List, Option, None, Some, Vec, Global, refl, sym, ap, subst, inl, inr, option_map, slice_get}
use Rattle.std.specs.Prelude.{IfSome, IsSome, MatchOption, ⊤}
use Rattle.draid_names.specs.declared.pointer.Pointer.{Pointer}
use Rattle.draid_rack.specs.Rack.{OnBothTold, OnTold, Told}
use Rattle.draid_rack.specs.declared.Rack as racks
use Rattle.draid_area.specs.declared.Area as areas
use Rattle.draid_spec.specs.declared.layout.Geometry.{Geometry}
use Rattle.draid_parity.specs.Columns.{column_at}
use Rattle.draid_block.specs.Blocks.{BlockValue, column_len, cut_of}
use Rattle.draid_block.specs.Solving.{IsFetched, IsRestoredOf}
use Rattle.draid_machine.specs.After.{is_written}
use Rattle.draid_machine.specs.Arms.{leaf_at}
use Rattle.draid_machine.specs.Created.{IsReached}
use Rattle.draid_machine.specs.State as machine
use Rattle.draid_machine.specs.Step.{Step}
use Rattle.draid_machine.specs.declared.event.Event.TheVariants.{LandBlock, Lend}
use Rattle.draid_machine.specs.declared.event.Patched.{Patched}
use Rattle.draid_machine.specs.declared.names.ArmName.{ArmName}
use Rattle.draid_machine.specs.declared.names.Held.{Held}
use Rattle.draid_machine.specs.declared.names.Key.{Key}
use Rattle.draid_machine.specs.declared.names.Segment.{Segment}
use Rattle.draid_machine.proofs.Small.{none_some, some_same}
use Rattle.draid_segments.specs.Acts.{Acts, HealsBlock, is_on_clean}
use Rattle.draid_segments.specs.Segments.{Backed, Pieces, piece_of}
use Rattle.draid_entries.specs.Maps.{held_at, key_of, staged}
use Rattle.draid_shard.specs.Columns.{ArePieces, row_bytes}
use Rattle.draid_shard.specs.Fits.{Valid}
use Rattle.draid_shard.specs.Loans.{IsKept, IsLentBlock, block_loan, loan_in}
use Rattle.draid_shard.specs.Part.{IsRun, Part, layout_in}
use Rattle.draid_shard.specs.Rows.{IsRowsOf}
use Rattle.draid_shard.specs.Spots.{IsStraight, rows_at}
use Rattle.draid_shard.specs.States.{layout_by, part_of}
use Rattle.draid_shard.specs.declared.shard.Shard.{Shard}
use Rattle.draid_shard.proofs.Answering.{leaf_at_is, named_arm}
use Rattle.draid_shard.proofs.Homes.{geometry_is, lays}
use Rattle.draid_shard.proofs.Straight.{straight}
use Rattle.draid_restore.specs.Loans.{LendsBlock, ReadsLent}
use Rattle.draid_restore.specs.Restoring.{AnswersBlock, RestoresLent, fetched_of}
use Rattle.draid_restore.proofs.LentReadable.{held_is}
use Rattle.draid_session.specs.Holds.{View, view_of}
use Rattle.draid_session.specs.Passes as passes
use Rattle.draid_session.specs.State.{Metaslab}
use Rattle.draid_pool.specs.Bytes.{HasBytes}
use Rattle.draid_pool.specs.Metaslabs.{IsMetaslab, harm_of}
use Rattle.draid_visits.specs.Steps.{HasContents}
use Rattle.draid_visits.proofs.Taken.{IsReadOn, columns_own, needed_own, own_or, there_of}

module _ {R A : Type 0} (rack : racks.Ghosts R) (area : areas.Ghosts A) (old lent solved new : Shard R A) (unit : LendsBlock rack old lent) (lent_valid : Valid rack lent) (only : solved ≡ record lent { kept = solved.kept })
    (r : RestoresLent lent.geometry unit.lent solved.kept) (block : BlockValue) (some : r.block ≡ Some block) (pieces written : Pieces) (x y : Metaslab) where
  abbrev l : machine.Layout
  l = layout_by old

  abbrev pointer : Pointer
  pointer = unit.lent.pointer

  abbrev n : machine.Loan
  n = block_loan unit.lent

  abbrev own : Held
  own = held_at (staged unit.here.stage unit.lent.pointer)

  abbrev size : ℕ
  size = old.geometry.props.sector

  geometry_same : lent.geometry ≡ old.geometry
  geometry_same = ap (λ (p : Part). p.geometry) unit.does.part

  kept : IsLentBlock lent.geometry lent.pass unit.lent
  kept = subst (λ o. IfSome o (IsKept lent.geometry lent.pass)) unit.lent_is lent_valid.kept

  run : IsRun old.geometry pointer.first pointer.stripes
  run = subst (λ (g : Geometry). IsRun g pointer.first pointer.stripes) geometry_same kept.run

  fetched_is : IsFetched (cut_of old.geometry) (fetched_of unit.lent)
  fetched_is = subst (λ (g : Geometry). IsFetched (cut_of g) (fetched_of unit.lent)) geometry_same kept.fetched

  long_is : column_len (cut_of old.geometry) pointer.len ≡ pointer.stripes * size
  unfolding column_len
  long_is = ap (λ k. k * size) (sym fetched_is.stripes)

  answers : IsRestoredOf (cut_of old.geometry) (fetched_of unit.lent) block
  answers = subst (λ (g : Geometry). IsRestoredOf (cut_of g) (fetched_of unit.lent) block) geometry_same (subst (AnswersBlock lent.geometry (fetched_of unit.lent)) some r.answers)

  rows_own : (c : ℕ) → IsRowsOf (part_of old) pointer c (rows_at (part_of old) pointer c)
  rows_own c = record { slot_is = refl; first_is = refl; count_is = refl; size_is = refl; birth_is = refl; slice_is = refl }

  module _ (is : IsMetaslab rack area (part_of old) pieces old x) (mid : IsMetaslab rack area (part_of old) pieces solved y) (lend : Step l x.world (Lend unit.failed) y.world) (contents : HasContents (part_of old) pieces x)
      (rows_then : ArePieces size old.geometry.g pointer.stripes block.columns (key_of pointer) written) where
    abbrev v : View
    v = view_of old.number y

    lay : machine.IsLayout l
    lay = lays (part_of old) is.valid.part

    reached : IsReached l y.world
    reached = subst (λ (p : Part). IsReached (layout_in p) y.world) mid.part_is mid.stands.reached

    order_same : y.world.core.order ≡ x.world.core.order
    order_same = ap (λ (w : machine.State). w.core.order) lend.made

    held_before : x.world.core.held (key_of pointer) ≡ Some own
    held_before = held_is rack old lent unit is.valid lent_valid x.world is.stands.reached is.stands.is_in

    held : y.world.core.held (key_of pointer) ≡ Some own
    held = ap (λ (w : machine.State). w.core.held (key_of pointer)) lend.made ∙ held_before

    loan : y.world.loan ≡ Some n
    loan = mid.stands.is_in.loan ∙ ap (option_map loan_in) r.is

    has : HasBytes old.geometry own (key_of pointer) pieces
    has = contents (key_of pointer) own held_before unit.here.block

    width : old.geometry.g ≡ old.geometry.spec.parity + old.geometry.spec.ndata
    width = (geometry_is (part_of old) is.valid.part).columns

    follows : IsStraight l x.world.core own
    follows = straight (part_of old) x.world.core own is.valid.part run

    module _ (t : Told) (backed : Backed l pieces y.world t) (reads : ReadsLent (part_of old) old.slots (Some t) unit.lent) where
      read_on : (c : ℕ) (arm : ArmName) (bytes : Vec ℕ Global) → c < l.columns → n.chosen c ≡ Some arm → slice_get unit.lent.columns.items c ≡ Some (Some bytes)
          → IsReadOn old.geometry old.perms v lay reached pieces t backed n own loan held size c arm bytes.items
      read_on c arm bytes less taken at =
          let z = reads.reads c arm bytes less taken at in
          let a = named_arm old.slots (rows_at (part_of old) pointer c) z.0 arm z.2 in
          let first : leaf_at l x.world.core.order arm pointer.first ≡ Some z.1
          = subst (λ m. leaf_at l x.world.core.order m pointer.first ≡ Some z.1) a.2
          (leaf_at_is (part_of old) is.valid.part old.slots is.valid.slots x.world is.stands.reached is.stands.is_in.slots pointer run c less (rows_at (part_of old) pointer c) (rows_own c) z.0 a.0 a.1 ∙ z.3) in
          record {
            leaf = z.1;
            on = ap (λ order. leaf_at l order arm pointer.first) order_same ∙ first;
            reads = λ row within. ap (t.reads z.1) (follows.sectors c row within) ∙ z.4 row within;
          }

      either : passes.TakesWrong old.geometry old.perms v n own t.harmed ⊎ ((s : Segment) → is_on_clean l y.world.core n own s ≡ true → (piece_of written s ≡ piece_of pieces s) × IsSome (piece_of pieces s))
      either = elim (own_or old.geometry old.perms v lay reached pieces t backed n own loan held size unit.lent.columns.items has.columns
          (let count = fetched_is.count in let same = width in omega (arith, count, same)) (λ c bytes at. fetched_is.long c bytes at ∙ long_is)
          (λ c less. has.are.stripe.columns c (let same = width in omega (arith, less, same)) ∙ ap (λ k. column_len (cut_of old.geometry) k) has.len ∙ long_is)
          has.rows (λ c less none. (reads.none c less).1 none) read_on) [
            | inl wrong ↦ inl wrong
            | inr each ↦ inr (λ s at. (let there = there_of old.geometry old.perms v lay reached pieces t backed n own loan held s at in
                let whole : block.columns ≡ has.columns
                = columns_own old.geometry (fetched_of unit.lent) has.content has.columns (geometry_is (part_of old) is.valid.part) fetched_is (record { len = has.len; digest = has.digest; bytes = has.bytes }) has.are
                (λ c less. each c (let same = width in omega (arith, less, same))) block answers in
                let before : piece_of pieces s ≡ Some (row_bytes size (column_at has.columns s.column) s.row)
                = subst (λ (k : Key). pieces k s.column s.row ≡ Some (row_bytes size (column_at has.columns s.column) s.row)) there.key (has.rows s.column s.row there.column there.row) in
                let behind : piece_of written s ≡ Some (row_bytes size (column_at block.columns s.column) s.row)
                = subst (λ (k : Key). written k s.column s.row ≡ Some (row_bytes size (column_at block.columns s.column) s.row)) there.key (rows_then s.column s.row there.column there.row) in
                (behind ∙ ap (λ (columns : List (List ℕ)). Some (row_bytes size (column_at columns s.column) s.row)) whole ∙ sym before, subst (λ (o : Option (List ℕ)). IsSome o) (sym before) refl)))
          ]

      needed_by : (failed : List ℕ) (patched : List Patched) (whole : Bool) (z : Told) → HealsBlock l y.world.core n own failed patched whole written t z
          → (s : Segment) → is_on_clean l y.world.core n own s ≡ true → is_written l y.world.core n own patched s ≡ true
          → passes.IsUnsure old.geometry old.perms v own t.harmed s ⊎ passes.TakesWrong old.geometry old.perms v n own t.harmed
      needed_by failed patched whole z acts s at is = elim either [
        | inl wrong ↦ inr wrong
        | inr same ↦ inl (needed_own old.geometry old.perms v lay reached pieces t backed n own loan held failed patched whole written z acts s at is (same s at).0 (same s at).1)
      ]

    module _ (pass serial : ℕ) (failed : Vec ℕ Global) (patched : Vec Patched Global) (after : machine.State) (step : Step l y.world (LandBlock pass serial failed patched false) after) where
      step_loan : step.n ≡ n
      step_loan = some_same y.world.loan step.n n step.counts.loan loan

      step_held : step.h ≡ own
      step_held = some_same (y.world.core.held (key_of pointer)) step.h own (subst (λ (m : machine.Loan). y.world.core.held m.key ≡ Some step.h) step_loan step.counts.found) held

      abbrev IsNeeded : (ℕ → ℕ → Bool) → Type 0
      IsNeeded harm =
          (m : machine.Loan) (h : Held) (s : Segment) → y.world.loan ≡ Some m → y.world.core.held m.key ≡ Some h → is_on_clean l y.world.core m h s ≡ true → is_written l y.world.core m h patched.items s ≡ true
          → passes.IsUnsure old.geometry old.perms v h harm s ⊎ passes.TakesWrong old.geometry old.perms v m h harm

      told_by : (t z : Told) → Backed l pieces y.world t → ReadsLent (part_of old) old.slots (Some t) unit.lent → HealsBlock l y.world.core step.n step.h failed.items patched.items step.whole written t z → IsNeeded t.harmed
      told_by t z backed reads acts m h s there found =
          let own_acts : HealsBlock l y.world.core n own failed.items patched.items step.whole written t z
          = subst (λ (k : machine.Loan). HealsBlock l y.world.core k own failed.items patched.items step.whole written t z) step_loan
          (subst (λ (i : Held). HealsBlock l y.world.core step.n i failed.items patched.items step.whole written t z) step_held acts) in
          let same : n ≡ m = some_same y.world.loan n m loan there in
          let same_held : own ≡ h = some_same (y.world.core.held (key_of pointer)) own h held (subst (λ (k : machine.Loan). y.world.core.held k.key ≡ Some h) (sym same) found) in
          subst (λ (k : machine.Loan). is_on_clean l y.world.core k h s ≡ true → is_written l y.world.core k h patched.items s ≡ true
          → passes.IsUnsure old.geometry old.perms v h t.harmed s ⊎ passes.TakesWrong old.geometry old.perms v k h t.harmed) same
          (subst (λ (i : Held). is_on_clean l y.world.core n i s ≡ true → is_written l y.world.core n i patched.items s ≡ true
          → passes.IsUnsure old.geometry old.perms v i t.harmed s ⊎ passes.TakesWrong old.geometry old.perms v n i t.harmed) same_held
          (needed_by t backed reads failed.items patched.items step.whole z own_acts s))

      on_told : (a b c : Option Told) → ReadsLent (part_of old) old.slots a unit.lent → OnBothTold a b (Acts l x.world (Lend unit.failed) y.world lend pieces) → OnTold b (Backed l pieces y.world)
          → OnBothTold b c (Acts l y.world (LandBlock pass serial failed patched false) after step written) → MatchOption (harm_of b) ⊤ IsNeeded
      on_told a None c reads lends backed lands = tt
      on_told None (Some t) c reads lends backed lands = absurd (none_some (Some t) t lends refl)
      on_told (Some u) (Some t) None reads lends backed lands = absurd lands
      on_told (Some u) (Some t) (Some z) reads lends backed lands = told_by t z backed (subst (λ k. ReadsLent (part_of old) old.slots (Some k) unit.lent) (sym lends) reads) lands

      pub needed_here : OnBothTold (rack.told solved.rack) (rack.told new.rack) (Acts l y.world (LandBlock pass serial failed patched false) after step written)
          → passes.LandsNeeded old.geometry old.perms (view_of old.number y) (LandBlock pass serial failed patched false)
      needed_here acts =
          let same : rack.told solved.rack ≡ rack.told lent.rack = ap (λ (s : Shard R A). rack.told s.rack) only in
          subst (λ harm. MatchOption harm ⊤ IsNeeded) (sym mid.harm)
          (on_told (rack.told old.rack) (rack.told solved.rack) (rack.told new.rack) unit.reads
          (subst (λ o. OnBothTold (rack.told old.rack) o (Acts l x.world (Lend unit.failed) y.world lend pieces)) (sym same) (unit.acts pieces x.world y.world lend is.stands.reached is.stands.is_in))
          (subst (λ (p : Part). OnTold (rack.told solved.rack) (Backed (layout_in p) pieces y.world)) mid.part_is mid.stands.segments) acts)

  -- in the layout of a pool's part
  pub needed : (part : Part) → IsMetaslab rack area part pieces old x → IsMetaslab rack area part pieces solved y → Step (layout_in part) x.world (Lend unit.failed) y.world → HasContents part pieces x
      → ArePieces part.geometry.props.sector part.geometry.g pointer.stripes block.columns (key_of pointer) written → (pass serial : ℕ) (failed : Vec ℕ Global) (patched : Vec Patched Global) (after : machine.State)
      (step : Step (layout_in part) y.world (LandBlock pass serial failed patched false) after)
      → OnBothTold (rack.told solved.rack) (rack.told new.rack) (Acts (layout_in part) y.world (LandBlock pass serial failed patched false) after step written)
      → passes.LandsNeeded part.geometry part.perms (view_of part.number y) (LandBlock pass serial failed patched false)
  needed part is =
      subst (λ (p : Part). IsMetaslab rack area p pieces old x → IsMetaslab rack area p pieces solved y → Step (layout_in p) x.world (Lend unit.failed) y.world → HasContents p pieces x
      → ArePieces p.geometry.props.sector p.geometry.g pointer.stripes block.columns (key_of pointer) written → (pass serial : ℕ) (failed : Vec ℕ Global) (patched : Vec Patched Global) (after : machine.State)
      (step : Step (layout_in p) y.world (LandBlock pass serial failed patched false) after)
      → OnBothTold (rack.told solved.rack) (rack.told new.rack) (Acts (layout_in p) y.world (LandBlock pass serial failed patched false) after step written)
      → passes.LandsNeeded p.geometry p.perms (view_of p.number y) (LandBlock pass serial failed patched false)) is.part_is
      (λ here mid lend contents rows pass serial failed patched after step acts. needed_here here mid lend contents rows pass serial failed patched after step acts) is
