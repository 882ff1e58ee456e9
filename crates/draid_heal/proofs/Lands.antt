-- A landing is the state machine's, and the rack does what that says.
use Rattle.std.proofs.Common.{arith, ◌≡◌, ◌+◌, ◌<◌, ◌∙◌, ℕ, Bool, true, false, List, [], Option, None, Some, IfSome, refl, sym, ap, subst, length, slice_get, filter}
use Rattle.std.specs.Prelude.{option_map}
use Rattle.draid_rack.specs.Rack.{OnBothTold, Told}
use Rattle.draid_rack.specs.declared.Rack.{Ghosts}
use Rattle.draid_machine.specs.declared.event.Patched.{Patched}
use Rattle.draid_machine.specs.declared.names.ArmName.{ArmName}
use Rattle.draid_machine.specs.declared.names.Held.{Held}
use Rattle.draid_machine.specs.After.{capped, land_block_state, lose_targets, lost_errors, misses_block, pass_over, rewritten}
use Rattle.draid_machine.specs.Arms.{leaf_at}
use Rattle.draid_machine.specs.Created.{IsReached}
use Rattle.draid_machine.specs.Names.{has_name}
use Rattle.draid_machine.specs.State as machine
use Rattle.draid_machine.specs.Step.{Counts, IsWhole, LandBlockStep, Patches}
use Rattle.draid_machine.proofs.Fitted.{every_fit}
use Rattle.draid_machine.proofs.Small.{some_same}
use Rattle.draid_segments.specs.Acts.{HealsBlock, LandsReadable}
use Rattle.draid_segments.specs.Segments.{Pieces}
use Rattle.draid_entries.specs.Maps.{held_at, key_of, staged}
use Rattle.draid_pass.specs.declared.pass.Pass.{Pass}
use Rattle.draid_slots.specs.States.{HoldsPass, pass_in}
use Rattle.draid_shard.specs.Columns.{ArePieces}
use Rattle.draid_shard.specs.Fits.{Valid}
use Rattle.draid_shard.specs.Loans.{IsKept, IsLentBlock, block_loan, loan_in}
use Rattle.draid_shard.specs.States.{IsIn, layout_by, part_of}
use Rattle.draid_shard.specs.declared.loan.KeptLoan.{KeptLoan}
use Rattle.draid_shard.specs.declared.loan.KeptLoan.TheVariants.{Block}
use Rattle.draid_shard.specs.declared.loan.LentBlock.{LentBlock}
use Rattle.draid_shard.specs.declared.loan.Spot.{Spot}
use Rattle.draid_shard.specs.declared.shard.Shard.{Shard}
use Rattle.draid_shard.proofs.Held.{key_leads}
use Rattle.draid_shard.proofs.Homes.{lays}
use Rattle.draid_heal.specs.Arms.{ListsArm}
use Rattle.draid_shard.specs.Spots.{AreSpots, IsSpot, rows_for}
use Rattle.draid_heal.specs.Lands.{LandsRestored, is_noted}
use Rattle.draid_shard.specs.Scrubs.{IsBlockHere, IsRunningScrub}
use Rattle.draid_heal.specs.Stands.{LandsRows}
use Rattle.draid_heal.proofs.Armed.{get_upto}
use Rattle.draid_heal.proofs.Decided.{same_decision, whole_decided}
use Rattle.draid_heal.proofs.Missing.{are_marked}
use Rattle.draid_heal.proofs.Noted.{WereWritten, healed_stays, landed_stays, patches_stay}
use Rattle.draid_heal.proofs.Rewritten.{AreParts, rewritten_is, rewritten_same}
use Rattle.draid_shard.proofs.Spotted.{spotted}
use Rattle.draid_heal.proofs.Standing.{healed, patches, there_is}
use Rattle.draid_shard.proofs.Straight.{straight}
use Rattle.draid_heal.proofs.Whole.{clean_of, fine_of, whole_of}

capped_twice : (a b : ℕ) → capped (a + b) ≡ capped (capped (a + 0) + b)
capped_twice a b = omega arith

module _ {R A : Type 0} (rack : Ghosts R) (old : Shard R A) (v : Valid rack old) (pass : Pass) (there : old.pass ≡ Some pass) (runs : IsRunningScrub pass) (lent : LentBlock) (kept_there : old.kept ≡ Some (Block lent))
    (here : IsBlockHere old.entries lent) where
  abbrev l : machine.Layout
  l = layout_by old

  abbrev p : machine.Pass
  p = pass_in old.slots pass

  abbrev n : machine.Loan
  n = block_loan lent

  abbrev pub h : Held
  h = held_at (staged here.stage lent.pointer)

  pub is_lent : IsLentBlock old.geometry old.pass lent
  is_lent = subst (λ (o : Option KeptLoan). IfSome o (IsKept old.geometry old.pass)) kept_there v.kept

  pub pass_held : HoldsPass old.slots old.last_pass pass
  pass_held = subst (λ o. IfSome o (HoldsPass old.slots old.last_pass)) there v.pass

  module _ (w : machine.State) (reached : IsReached l w) (at : IsIn old w) where
    pass_there : w.core.pass ≡ Some p
    pass_there = at.pass ∙ ap (option_map (pass_in old.slots)) there

    loan_there : w.loan ≡ Some n
    loan_there = at.loan ∙ ap (option_map loan_in) kept_there

    pub found : w.core.held (key_of lent.pointer) ≡ Some h
    found = at.held (key_of lent.pointer) ∙ key_leads old.entries lent.pointer.first (staged here.stage lent.pointer) here.there

    pub counts : Counts w pass.number lent.serial p n h
    counts = record { pass_is = pass_there; number = refl; loan = loan_there; serial_is = refl; found = found }

    -- what is said of a step's loan and block is said of these
    of_step : (G : machine.Loan → Held → Type 0) (failed : List ℕ) (patched : List Patched) (unreadable : Bool) (after : machine.State) (step : LandBlockStep l w pass.number lent.serial failed patched unreadable after) → G n h → G step.n step.h
    of_step G failed patched unreadable after step g =
        let same_n : n ≡ step.n = some_same w.loan n step.n loan_there step.counts.loan in
        let same_h : h ≡ step.h = some_same (w.core.held n.key) h step.h found (subst (λ (m : machine.Loan). w.core.held m.key ≡ Some step.h) (sym same_n) step.counts.found) in
        subst (λ m. G m step.h) same_n (subst (λ i. G n i) same_h g)

    -- ---- the block couldn't be restored
    pub over_step : (failed : List ℕ) (patched : List Patched) → failed ≡ [] → patched ≡ [] → LandBlockStep l w pass.number lent.serial failed patched true (pass_over w p 1 (lent.pointer.first + lent.pointer.stripes))
    over_step failed patched none empty = let d = whole_decided l w.core h failed in record {
      p = p;
      n = n;
      h = h;
      whole = d.is;
      counts = counts;
      heal = runs.scrub;
      lands = (none, empty);
      is_whole = d.yes;
      not_whole = d.no;
      made = refl;
    }

    pub over_acts : (r : R) → rack.told r ≡ rack.told old.rack → (pieces : Pieces) (failed : List ℕ) (patched : List Patched) (after : machine.State) (step : LandBlockStep l w pass.number lent.serial failed patched true after)
        → OnBothTold (rack.told old.rack) (rack.told r) (LandsReadable true l w.core step.n step.h failed patched step.whole pieces)
    over_acts r same pieces failed patched after step = by (rack.told old.rack) (rack.told r) same
      where
        by : (o q : Option Told) → q ≡ o → OnBothTold o q (LandsReadable true l w.core step.n step.h failed patched step.whole pieces)
        by None q e = e
        by (Some x) q e = subst (λ q. OnBothTold (Some x) q (LandsReadable true l w.core step.n step.h failed patched step.whole pieces)) (sym e) refl

    -- ---- it landed
    module _ (o : Option Pass) (k : Option KeptLoan) (new : Shard R A) (left : Pass) (columns : List (List ℕ)) (patched : List Patched) (failed : List ℕ) (repaired : ℕ)
        (lands : LandsRestored rack (record old { pass = o; kept = k }) new pass left lent.pointer columns patched failed repaired) where
      abbrev size : ℕ
      size = old.geometry.props.sector

      are : AreSpots l w.core h lands.spots
      are = spotted (part_of old) old.slots w lent.pointer here.stage lands.spots v.part v.slots reached at.slots is_lent.run found lands.right

      is_whole : lands.whole ≡ true → IsWhole l w.core h failed
      is_whole e = let both = lands.is_whole e in
          whole_of (part_of old) old.slots w lent.pointer here.stage lands.spots v.part v.slots reached at.slots is_lent.run lands.right are failed both.0 both.1

      not_whole : lands.whole ≡ false → IsWhole l w.core h failed → ⊥
      not_whole e whole =
          lands.not_whole e (clean_of (part_of old) old.slots w lent.pointer here.stage lands.spots v.part v.slots reached at.slots is_lent.run lands.right are failed whole)
          (fine_of l w.core h lands.spots failed are whole)

      -- a part with its arm
      record OfSpot (j : ℕ) (part : Patched) : Type 0 where
        pub spot : Spot
        pub stands : slice_get lands.spots j ≡ Some spot
        pub is : IsSpot l w.core h spot
        pub lists : ListsArm (rows_for lent.pointer.stripes size spot) spot part failed

      of_spot : (k : ℕ) (part : Patched) → slice_get lands.parts k ≡ Some part → OfSpot k part
      of_spot k part noted =
          let less = get_upto lands.parts k part noted in
          let many = lands.lists.many in
          let s = there_is lands.spots k (omega (arith, less, many)) in
          record { spot = s.0; stands = s.1; is = are.each k s.0 s.1; lists = lands.lists.each k s.0 part s.1 noted }

      were : WereWritten lands.parts
      were k part r noted has = (of_spot k part noted).lists.lists.were r has

      pub restored_step : LandBlockStep l w pass.number lent.serial failed patched false (land_block_state l w p n h failed patched false lands.whole)
      restored_step = record {
        p = p;
        n = n;
        h = h;
        whole = lands.whole;
        counts = counts;
        heal = runs.scrub;
        lands = subst (Patches l w.core h failed) (sym lands.noted) (patches_stay lands.parts were l w.core h failed (patches l w.core h size lands.spots lands.parts failed are lands.lists));
        is_whole = is_whole;
        not_whole = not_whole;
        made = refl;
      }

      -- the pass lost the targets that the machine's does, and has as many errors
      pub left_is : lose_targets (misses_block l w.core h failed) (length failed) p ≡ pass_in old.slots left
      left_is =
          let bad : ArmName → Bool = misses_block l w.core h failed in
          let marked = are_marked (part_of old) old.slots lent.pointer failed v.part v.slots w reached at.slots is_lent.run lands.marks lands.missed in
          let lost : lose_targets bad 0 p ≡ pass_in old.slots lands.without
          = sym (lands.loses_all old.slots bad marked pass_held.current.targets ∙ ap (λ k. lose_targets bad (lost_errors k bad p.targets) p) runs.scrub) in
          let errors : capped (p.errors + 0) ≡ lands.without.errors = ap (λ (m : machine.Pass). m.errors) lost in
          (λ i. record (lost i) { errors = (capped_twice p.errors (length failed) ∙ ap (λ e. capped (e + length failed)) errors) i })
          ∙ ap (pass_in old.slots) (sym lands.left_is)

      pub restored_acts : (pieces : Pieces) → ArePieces size old.geometry.g lent.pointer.stripes columns (key_of lent.pointer) pieces → (after : machine.State) (step : LandBlockStep l w pass.number lent.serial failed patched false after)
          → OnBothTold (rack.told old.rack) (rack.told new.rack) (LandsReadable false l w.core step.n step.h failed patched step.whole pieces)
      restored_acts pieces right after step =
          of_step (λ m i. (b : Bool) → (b ≡ true → IsWhole l w.core i failed) → (b ≡ false → IsWhole l w.core i failed → ⊥) → OnBothTold (rack.told old.rack) (rack.told new.rack) (LandsReadable false l w.core m i failed patched b pieces))
          failed patched false after step
          (λ b yes no. subst (λ b. OnBothTold (rack.told old.rack) (rack.told new.rack) (LandsReadable false l w.core n h failed patched b pieces)) (same_decision lands.whole b is_whole not_whole yes no)
          (by (rack.told old.rack) (rack.told new.rack) lands.lands))
          step.whole step.is_whole step.not_whole
        where
          heals : (x y : Told) → LandsRows lent.pointer.stripes size lands.spots lands.parts columns failed lands.whole x y → HealsBlock l w.core n h failed patched lands.whole pieces x y
          heals x y did = subst (λ parts. HealsBlock l w.core n h failed parts lands.whole pieces x y) (sym lands.noted)
              (healed_stays lands.parts were l w.core n h failed lands.whole pieces x y
              (healed l w.core h size lands.spots lands.parts failed are lands.lists (straight (part_of old) w.core h v.part is_lent.run) n columns lands.whole pieces x did.y y is_whole right did.heals did.settles))

          by : (a b : Option Told) → OnBothTold a b (LandsRows lent.pointer.stripes size lands.spots lands.parts columns failed lands.whole) → OnBothTold a b (HealsBlock l w.core n h failed patched lands.whole pieces)
          by None b did = did
          by (Some x) None did = absurd did
          by (Some x) (Some y) did = heals x y did

      -- ---- how many arms were rewritten
      parts_are : AreParts l w.core h old.geometry.g lands.parts
      parts_are = record {
        column = λ k part noted. let z = of_spot k part noted in subst (λ c. c < old.geometry.g) (sym z.lists.column_is) z.is.column;
        listed = λ k part noted. let z = of_spot k part noted in
            subst (λ c. has_name (w.core.order (l.slot_of h.first c)) part.arm ≡ true) (sym z.lists.column_is)
            (subst (λ m. has_name (w.core.order (l.slot_of h.first z.spot.column)) m ≡ true) (sym z.lists.arm_is) z.is.listed);
        rows = λ k part r noted has. let z = of_spot k part noted in z.lists.lists.below r (z.lists.lists.were r has);
        once = λ j k a b first second column arm.
            let x = of_spot j a first in
            let y = of_spot k b second in
            let same : x.spot.arm ≡ y.spot.arm = sym x.lists.arm_is ∙ arm ∙ y.lists.arm_is in
            are.apart j k x.spot y.spot x.stands y.stands (some_same (leaf_at l w.core.order x.spot.arm h.first) x.spot.leaf y.spot.leaf x.is.lies (ap (λ m. leaf_at l w.core.order m h.first) same ∙ y.is.lies));
      }

      pub told_is : repaired ≡ rewritten l w.core h patched old.geometry.g
      told_is =
          lands.repaired_is
          ∙ rewritten_is l w.core h (every_fit l w (lays (part_of old) v.part) reached).core.order.once old.geometry.g lands.parts parts_are
          ∙ rewritten_same l w.core h (every_fit l w (lays (part_of old) v.part) reached).core.order.once lands.parts (filter is_noted lands.parts) (λ c m r. sym (landed_stays lands.parts were c m r)) old.geometry.g
          ∙ ap (λ parts. rewritten l w.core h parts old.geometry.g) (sym lands.noted)
