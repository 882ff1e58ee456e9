-- What becomes of one metaslab as a block is written to its shard, or freed, fetched or damaged there.
use Rattle.std.specs.Prelude.{◌≡◌, ◌≤◌, ℕ, List, [], ◌∷◌, Some, IsSome, max}
use Rattle.draid_names.specs.declared.pointer.Pointer.{Pointer}
use Rattle.draid_names.specs.declared.numbers.TheConstants.{LAST_NUMBER}
use Rattle.draid_rack.specs.declared.Rack as racks
use Rattle.draid_area.specs.declared.Area as areas
use Rattle.draid_machine.specs.declared.names.ArmName.TheVariants.{Leaf}
use Rattle.draid_machine.specs.declared.names.Held.{Held}
use Rattle.draid_machine.specs.declared.names.Stage.TheVariants.{Live, Freed}
use Rattle.draid_machine.specs.declared.event.Event.TheVariants as event
use Rattle.draid_machine.specs.After.{set_held}
use Rattle.draid_machine.specs.State as machine
use Rattle.draid_machine.specs.Step.{Fits}
use Rattle.draid_segments.specs.Segments.{Pieces}
use Rattle.draid_entries.specs.Maps.{key_of}
use Rattle.draid_shard.specs.Rooms.{TakesBlocks}
use Rattle.draid_shard.specs.Part.{Part, layout_in}
use Rattle.draid_shard.specs.States.{layout_by}
use Rattle.draid_shard.specs.declared.shard.Shard.{Shard}
use Rattle.draid_session.specs.Follows.{MetaslabActs}
use Rattle.draid_session.specs.Holds.{Act, Did, Hold, On, view_of}
use Rattle.draid_session.specs.State.{Metaslab}
use Rattle.draid_pool.specs.Bytes.{KeepsContents}
use Rattle.draid_pool.specs.Importable.{SameArms}
use Rattle.draid_pool.specs.Metaslabs.{IsMetaslab}

-- the holds of one metaslab, one after another
abbrev pub FollowsIn : machine.Layout → ℕ → List Hold → Metaslab → Metaslab → Type 0
FollowsIn l m [] x y = y ≡ x
FollowsIn l m (hold ∷ holds) x y =
    (act : Act) × (mid : Metaslab) × (hold ≡ On (view_of m x) act) × MetaslabActs l act x mid × FollowsIn l m holds mid y

-- the images are as they were, and so are the arms and the version of the next image; no leaf is an arm that wasn't one
pub record KeepsImages (old new : machine.State) : Type 0 where
  pub image : new.image ≡ old.image
  pub sealed : new.sealed ≡ old.sealed
  pub leaves : (leaf : ℕ) → IsSome (new.core.arm (Leaf leaf)) → IsSome (old.core.arm (Leaf leaf))
  pub asked : new.asked ≡ old.asked
  pub arms : SameArms new.core old.core
  pub opens : old.open_group ≤ new.open_group

-- Holds of a metaslab led to one for which the shard stands, with these pieces.
pub record Goes {R A : Type 0} (rack : racks.Ghosts R) (area : areas.Ghosts A) (part : Part) (pieces : Pieces) (x : Metaslab) (new : Shard R A) (does : List Hold → Metaslab → Type 0) : Type 0 where
  pub holds : List Hold
  pub reached : Metaslab
  pub follows : FollowsIn (layout_in part) part.number holds x reached
  pub images : KeepsImages x.world reached.world
  pub done : does holds reached
  pub is : IsMetaslab rack area part pieces new reached

-- Holds of a metaslab led to one for which the shard stands, where its blocks have these pieces or those of other bytes of their length and digest.
pub record GoesLater {R A : Type 0} (rack : racks.Ghosts R) (area : areas.Ghosts A) (part : Part) (pieces : Pieces) (x : Metaslab) (new : Shard R A) : Type 0 where
  pub holds : List Hold
  pub reached : Metaslab
  pub follows : FollowsIn (layout_in part) part.number holds x reached
  pub images : KeepsImages x.world reached.world
  pub later : Pieces
  pub contents : KeepsContents part x pieces later
  pub is : IsMetaslab rack area part later new reached

-- ---- rooms

-- the shard takes blocks, and so many stripes fit
pub record HasRoom {R A : Type 0} (need : ℕ) (shard : Shard R A) (w : machine.State) : Type 0 where
  pub takes : TakesBlocks shard w
  pub first : ℕ
  pub fits : Fits (layout_by shard) w.core first need

-- ---- freeing

-- The block of a pointer was freed, in the greater of the group that was open and a floor. All else is as it was.
pub record FreesIn (m : ℕ) (pointer : Pointer) (floor group : ℕ) (x : Metaslab) (holds : List Hold) (y : Metaslab) : Type 0 where
  pub are : holds ≡ On (view_of m x) (Did (event.Free (key_of pointer) group) y.world) ∷ []
  pub group_is : group ≡ max x.world.open_group floor
  pub low : group ≤ LAST_NUMBER
  pub held : Held
  pub found : x.world.core.held (key_of pointer) ≡ Some held
  pub live : held.stage ≡ Live
  pub birth : held.birth ≡ pointer.birth
  pub made : y.world.core.held ≡ set_held x.world.core.held (key_of pointer) (Some (record held { stage = Freed group }))
  pub committed : y.world.committed ≡ x.world.committed
  pub open_group_is : y.world.open_group ≡ x.world.open_group

-- ---- damage

-- what it holds and its group are as they were
pub record SameBlocks (x y : Metaslab) : Type 0 where
  pub held : y.world.core.held ≡ x.world.core.held
  pub committed : y.world.committed ≡ x.world.committed
