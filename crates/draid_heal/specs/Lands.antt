-- A scrub's block lands on its arms.
use Rattle.std.specs.Prelude.{◌≡◌, ◌+◌, ◌∷◌, [], ℕ, Bool, true, false, List, IfSome, Option, Some, None, Vec, count_by, filter, is_none, length}
use Rattle.std.specs.declared.alloc.Global.{Global}
use Rattle.draid_block.specs.Blocks.{BlockValue}
use Rattle.draid_names.specs.declared.pointer.Pointer.{Pointer}
use Rattle.draid_machine.specs.After.{capped, rewritten}
use Rattle.draid_machine.specs.Created.{IsReached}
use Rattle.draid_machine.specs.State as machine
use Rattle.draid_machine.specs.Step.{Step}
use Rattle.draid_machine.specs.declared.event.Event.TheVariants.{LandBlock}
use Rattle.draid_machine.specs.declared.event.Patched.{Patched}
use Rattle.draid_machine.specs.declared.names.Held.{Held}
use Rattle.draid_entries.specs.Maps.{key_of}
use Rattle.draid_pass.specs.declared.pass.Pass.{Pass}
use Rattle.draid_rack.specs.Rack.{OnBothTold}
use Rattle.draid_rack.specs.declared.Rack.{Ghosts}
use Rattle.draid_plans.specs.Ends.{Loses, LosesAll}
use Rattle.draid_segments.specs.Acts.{Acts}
use Rattle.draid_segments.specs.Segments.{Pieces}
use Rattle.draid_shard.specs.Calls.{CountsFailed}
use Rattle.draid_shard.specs.Columns.{ArePieces}
use Rattle.draid_shard.specs.Lends.{GoesOnAt}
use Rattle.draid_shard.specs.States.{Does, IsIn, layout_by, part_of}
use Rattle.draid_shard.specs.declared.loan.KeptLoan.{KeptLoan}
use Rattle.draid_shard.specs.declared.loan.KeptLoan.TheVariants.{Block, Stripe}
use Rattle.draid_shard.specs.declared.loan.LentBlock.{LentBlock}
use Rattle.draid_shard.specs.declared.loan.Spot.{Spot}
use Rattle.draid_shard.specs.declared.shard.Shard.{Shard}
use Rattle.draid_shard.specs.Spots.{AreLeavesApart, CleanAnswer, SpotsOf}
use Rattle.draid_heal.specs.Arms.{ListsArms}
use Rattle.draid_shard.specs.Losing.{AreMissed}
use Rattle.draid_heal.specs.Settle.{AreFine}
use Rattle.draid_heal.specs.Stands.{LandsRows}

-- the loan is a block's
abbrev pub IsBlockLoan : KeptLoan → Type 0
IsBlockLoan (Stripe lent) = ⊥
IsBlockLoan (Block lent) = Unit {0}

-- ---- what is noted of an arm

abbrev pub has_rows : List ℕ → Bool
has_rows [] = false
has_rows (r ∷ rs) = true

-- a row was written; a row landed
abbrev pub is_noted : Patched → Bool
is_noted part = has_rows part.written.items

abbrev pub is_rewritten : Patched → Bool
is_rewritten part = has_rows part.landed.items

-- ---- the landing

-- the pieces of the block are the rows of the columns that were restored
abbrev pub WritesRestored : {R A : Type 0} → Shard R A → LentBlock → Pieces → Type 0
WritesRestored shard lent pieces =
    IfSome lent.restored (λ (block : BlockValue). ArePieces shard.geometry.props.sector shard.geometry.g lent.pointer.stripes block.columns (key_of lent.pointer) pieces)

-- A loan landed: the event, with the leaves on which calls failed and what was written of each arm. The rack did what the event says, with the pieces of
-- the restored block; and it is told on how many arms a row landed.
pub record LandsUnit {R A : Type 0} (rack : Ghosts R) (old new : Shard R A) (repaired : ℕ) : Type 0 where
  pub pass : Pass
  pub pass_is : old.pass ≡ Some pass
  pub lent : LentBlock
  pub lent_is : old.kept ≡ Some (Block lent)
  pub failed : Vec ℕ Global
  pub patched : Vec Patched Global
  pub does : Does old new (LandBlock pass.number lent.serial failed patched (is_none lent.restored))
  pub acts : (pieces : Pieces) (w after : machine.State) (step : Step (layout_by old) w (LandBlock pass.number lent.serial failed patched (is_none lent.restored)) after)
      → IsReached (layout_by old) w → IsIn old w → WritesRestored old lent pieces
      → OnBothTold (rack.told old.rack) (rack.told new.rack) (Acts (layout_by old) w (LandBlock pass.number lent.serial failed patched (is_none lent.restored)) after step pieces)
  pub counts : CountsFailed failed.items (rack.faults old.rack) (rack.faults new.rack)
  pub told : (w : machine.State) (h : Held) → IsReached (layout_by old) w → IsIn old w → w.core.held (key_of lent.pointer) ≡ Some h
      → repaired ≡ rewritten (layout_by old) w.core h patched.items old.geometry.g

-- the pass that there is goes on behind the block of the loan that there was
abbrev pub MovesBehind : Option KeptLoan → Option Pass → Option Pass → Type 0
MovesBehind (Some (Block lent)) (Some old) (Some new) = GoesOnAt (lent.pointer.first + lent.pointer.stripes) old new
MovesBehind kept old new = ⊥

-- ---- the parts of a landing

-- The columns landed on the arms that answer, and these leaves failed. Of what is noted of each arm that stays of which a row was written. The pass lost
-- the targets that miss the block, and has an error more for each call that failed.
pub record LandsRestored {R A : Type 0} (rack : Ghosts R) (old new : Shard R A) (pass left : Pass) (pointer : Pointer) (columns : List (List ℕ)) (patched : List Patched) (failed : List ℕ) (repaired : ℕ) : Type 0 where
  pub only : new ≡ record old { rack = new.rack }
  pub shape : rack.shape new.rack ≡ rack.shape old.rack
  pub counts : CountsFailed failed (rack.faults old.rack) (rack.faults new.rack)
  pub spots : List Spot
  pub right : SpotsOf (part_of old) old.slots pointer spots
  pub apart : AreLeavesApart spots
  pub parts : List Patched
  pub noted : patched ≡ filter is_noted parts
  pub repaired_is : repaired ≡ count_by is_rewritten parts
  pub whole : Bool
  pub lands : OnBothTold (rack.told old.rack) (rack.told new.rack) (LandsRows pointer.stripes old.geometry.props.sector spots parts columns failed whole)
  pub lists : ListsArms pointer.stripes old.geometry.props.sector spots parts (length spots) failed
  pub is_whole : whole ≡ true → CleanAnswer (part_of old) old.slots pointer × AreFine spots failed
  pub not_whole : whole ≡ false → CleanAnswer (part_of old) old.slots pointer → AreFine spots failed → ⊥
  pub marks : List (List Bool)
  pub missed : AreMissed (part_of old) old.slots pointer failed old.geometry.g marks
  pub without : Pass
  pub loses : Loses marks pass without
  pub loses_all : LosesAll marks pass without
  pub left_is : left ≡ record without { errors = capped (without.errors + length failed) }

-- nothing was written, and one error was counted
pub record PassesOver {R A : Type 0} (old new : Shard R A) (pass left : Pass) (patched : List Patched) (failed : List ℕ) (repaired : ℕ) : Type 0 where
  pub same : new ≡ old
  pub none : failed ≡ []
  pub empty : patched ≡ []
  pub repaired_none : repaired ≡ 0
  pub counted : left ≡ record pass { errors = capped (pass.errors + 1) }

-- the one where the block was restored, and else the other
abbrev pub LandsOr : {R A : Type 0} → Ghosts R → Shard R A → Shard R A → Pass → Pass → Pointer → Option BlockValue → List Patched → List ℕ → ℕ → Type 0
LandsOr rack old new pass left pointer None patched failed repaired = PassesOver old new pass left patched failed repaired
LandsOr rack old new pass left pointer (Some block) patched failed repaired = LandsRestored rack old new pass left pointer block.columns patched failed repaired
