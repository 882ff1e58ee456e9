-- A rebuild's stripe lands on the targets of its pass.
use Rattle.std.specs.Prelude.{◌≡◌, ◌+◌, ◌*◌, ◌<◌, ◌≤◌, [], ℕ, List, Option, Some, None, Vec, length, vec_capacity}
use Rattle.std.specs.declared.alloc.Global.{Global}
use Rattle.draid_machine.specs.declared.event.Event.TheVariants.{LandStripe}
use Rattle.draid_machine.specs.declared.names.Held.{Held}
use Rattle.draid_machine.specs.After.{capped}
use Rattle.draid_machine.specs.Created.{IsReached}
use Rattle.draid_machine.specs.State as machine
use Rattle.draid_machine.specs.Step.{Step}
use Rattle.draid_parity.specs.Columns.{StripeValue}
use Rattle.draid_pass.specs.declared.pass.Pass.{Pass}
use Rattle.draid_rack.specs.Rack.{OnBothTold, OnTold, Told}
use Rattle.draid_rack.specs.declared.Rack.{Ghosts}
use Rattle.draid_segments.specs.Acts.{Acts}
use Rattle.draid_segments.specs.Segments.{Pieces}
use Rattle.draid_spec.specs.Geometry.{metaslab_stripes}
use Rattle.draid_spec.specs.declared.layout.Geometry.{Geometry}
use Rattle.draid_slots.specs.Changes.{IsOf}
use Rattle.draid_entries.specs.Maps.{key_of}
use Rattle.draid_shard.specs.Calls.{CountsFailed}
use Rattle.draid_shard.specs.Fits.{HasLeaves}
use Rattle.draid_shard.specs.Lends.{GoesOnAt}
use Rattle.draid_shard.specs.Loans.{stripe_loan}
use Rattle.draid_shard.specs.Part.{IsPart, Part, layout_in}
use Rattle.draid_shard.specs.States.{Does, IsIn, layout_by, part_of}
use Rattle.draid_shard.specs.declared.loan.KeptLoan.{KeptLoan}
use Rattle.draid_shard.specs.declared.loan.KeptLoan.TheVariants.{Block, Stripe}
use Rattle.draid_shard.specs.declared.loan.LentStripe.{LentStripe}
use Rattle.draid_shard.specs.declared.shard.Shard.{Shard}
use Rattle.draid_mend.specs.Landing.{AreApartSources, LoanStands}
use Rattle.draid_mend.specs.Loans.{unit_at}
use Rattle.draid_mend.specs.Losing.{LosesMissed}
use Rattle.draid_mend.specs.Missing.{missing_of}
use Rattle.draid_mend.specs.Solving.{HasKnownContent, IsOneSector, SolvesRow}
use Rattle.draid_mend.specs.Stripes.{FailsColumns, LandsBelow}

-- no more columns of a loan are missing than the parity solves
abbrev pub IsSolvable : Geometry → LentStripe → Type 0
IsSolvable geometry kept = length (missing_of kept) ≤ geometry.spec.parity

-- What is kept of a loan is right in a state: the loan fact holds of what was read, the missing columns were solved of that, and what is known of
-- its block is its content.
pub record KeptStands (part : Part) (w : machine.State) (kept : LentStripe) (pieces : Pieces) (x : Told) : Type 0 where
  pub h : Held
  pub found : w.core.held (key_of kept.pointer) ≡ Some h
  pub content : HasKnownContent part.geometry h.stripes (key_of kept.pointer) pieces
  pub read : StripeValue
  pub stands : LoanStands (layout_in part) w (stripe_loan kept) h pieces read x
  pub solves : SolvesRow part.geometry (missing_of kept) read kept.columns
  pub sources : AreApartSources part w kept.stripe kept.chosen.items

-- A loan landed: the event, with the leaves on which calls failed. In a state in which what was kept is right, the rack did what the event says;
-- where too many columns are missing, in each.
pub record LandsUnit {R A : Type 0} (rack : Ghosts R) (old new : Shard R A) : Type 0 where
  pub pass : Pass
  pub pass_is : old.pass ≡ Some pass
  pub kept : LentStripe
  pub kept_is : old.kept ≡ Some (Stripe kept)
  pub failed : Vec ℕ Global
  pub does : Does old new (LandStripe pass.number kept.serial failed)
  pub acts : (pieces : Pieces) (w after : machine.State) (step : Step (layout_by old) w (LandStripe pass.number kept.serial failed) after)
      → IsReached (layout_by old) w → IsIn old w
      → (IsSolvable old.geometry kept → OnTold (rack.told old.rack) (KeptStands (part_of old) w kept pieces))
      → OnBothTold (rack.told old.rack) (rack.told new.rack) (Acts (layout_by old) w (LandStripe pass.number kept.serial failed) after step pieces)
  pub counts : CountsFailed failed.items (rack.faults old.rack) (rack.faults new.rack)

-- the pass that there is goes on behind the stripe of the loan that there was, which is a rebuild's
abbrev pub MovesOver : Option KeptLoan → Option Pass → Option Pass → Type 0
MovesOver None old new = new ≡ old
MovesOver (Some (Block lent)) old new = ⊥
MovesOver (Some (Stripe kept)) None new = new ≡ None
MovesOver (Some (Stripe kept)) (Some old) None = ⊥
MovesOver (Some (Stripe kept)) (Some old) (Some new) = GoesOnAt (kept.stripe + 1) old new

-- ---- the parts of a landing

-- the slots are those of the metaslab, and the rack has their leaves
pub record IsLaid {R A : Type 0} (rack : Ghosts R) (shard : Shard R A) : Type 0 where
  pub part : IsPart (part_of shard)
  pub slots : IsOf shard.slots shard.geometry shard.perms shard.number
  pub leaves : HasLeaves (rack.shape shard.rack) shard.geometry shard.slots

-- what is kept is of a stripe of the metaslab, and has room for each call that may fail
pub record MayLand (geometry : Geometry) (pass : Pass) (kept : LentStripe) : Type 0 where
  pub inside : kept.stripe < metaslab_stripes geometry
  pub chosen : length kept.chosen.items ≡ geometry.g
  pub columns : IsOneSector geometry kept.columns
  pub room : geometry.g * length pass.targets.items ≤ vec_capacity kept.failed

-- The columns landed, these leaves failed, and the pass lost the targets that miss the stripe.
pub record LandsSolved {R A : Type 0} (rack : Ghosts R) (old new : Shard R A) (pass left : Pass) (kept : LentStripe) (failed : List ℕ) : Type 0 where
  pub only : new ≡ record old { rack = new.rack }
  pub shape : rack.shape new.rack ≡ rack.shape old.rack
  pub counts : CountsFailed failed (rack.faults old.rack) (rack.faults new.rack)
  pub lands : OnBothTold (rack.told old.rack) (rack.told new.rack)
      (LandsBelow (part_of old) old.slots (unit_at kept.pointer kept.stripe) pass.targets.items old.geometry.g kept.columns.columns kept.chosen.items failed)
  pub fails : FailsColumns (part_of old) old.slots (unit_at kept.pointer kept.stripe) pass.targets.items old.geometry.g [] failed
  pub loses : LosesMissed (part_of old) old.slots (unit_at kept.pointer kept.stripe) failed old.geometry.g pass left

-- nothing was written, and one error was counted
pub record PassesOver {R A : Type 0} (old new : Shard R A) (pass left : Pass) (failed : List ℕ) : Type 0 where
  pub same : new ≡ old
  pub none : failed ≡ []
  pub counted : left ≡ record pass { errors = capped (pass.errors + 1) }

-- the one where the parity solves the columns that are missing, and else the other
pub record LandsKept {R A : Type 0} (rack : Ghosts R) (old new : Shard R A) (pass left : Pass) (kept landed : LentStripe) : Type 0 where
  pub rest : landed ≡ record kept { failed = landed.failed }
  pub few : IsSolvable old.geometry kept → LandsSolved rack old new pass left kept landed.failed.items
  pub many : old.geometry.spec.parity < length (missing_of kept) → PassesOver old new pass left landed.failed.items
