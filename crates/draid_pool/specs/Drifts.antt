-- What every hold of a metaslab keeps to, and what others may have done to it between two holds of one thread.
use Rattle.std.specs.Prelude.{◌≡◌, ◌==◌, ◌++◌, ◌≤◌, ◌⊎◌, ℕ, Bool, true, false, List, Option, Some, None, if◌then◌else◌}
use Rattle.draid_rack.specs.declared.Rack as racks
use Rattle.draid_area.specs.declared.Area as areas
use Rattle.draid_machine.specs.declared.event.Event.{Event}
use Rattle.draid_machine.specs.declared.names.Key.{Key}
use Rattle.draid_machine.specs.After.{is_freed_block}
use Rattle.draid_machine.specs.State as machine
use Rattle.draid_machine.specs.Step.{Run}
use Rattle.draid_segments.specs.Segments.{Pieces}
use Rattle.draid_entries.specs.Entries.{held_in}
use Rattle.draid_entries.specs.History.{reserved_of}
use Rattle.draid_entries.specs.declared.entries.Entries.{Entries}
use Rattle.draid_shard.specs.Alike.{ShareArms}
use Rattle.draid_shard.specs.Changes.{SameGroups}
use Rattle.draid_shard.specs.Fits.{IsLeaf, Valid}
use Rattle.draid_shard.specs.Part.{Part, layout_in}
use Rattle.draid_shard.specs.States.{part_of}
use Rattle.draid_shard.specs.declared.shard.Shard.{Shard}
use Rattle.draid_session.specs.State.{Metaslab}
use Rattle.draid_pool.specs.Bytes.{HaveBytes, SamePieces}
use Rattle.draid_pool.specs.Groups.{AreasLater}
use Rattle.draid_pool.specs.Metaslabs.{IsMetaslab}
use Rattle.draid_pool.specs.Passes.{KeepsPass}
use Rattle.draid_pool.specs.Shards.{KeepsImages}

-- ---- numbers

-- the number that a hold concerns which may change the groups, the arms or the reserved events of a metaslab; it is no object's
abbrev pub groups_number : ℕ
groups_number = 4_294_967_312

-- the number that a hold concerns which may change the pass of a metaslab; it is no object's
abbrev pub passes_number : ℕ
passes_number = 4_294_967_313

-- ---- states

-- a metaslab came from another by events
pub record Since (l : machine.Layout) (first x : Metaslab) : Type 0 where
  pub opened : x.opened ≡ first.opened
  pub more : List Event
  pub stored : x.events ≡ first.events ++ more
  pub run : Run l first.world more x.world

-- A shard stands for a metaslab that came from one by events, with the same pieces of the objects of a test, but that a block may have those of other bytes of its length and digest. Where the groups are of the
-- test its images are as they were.
pub record GoesOn {R A : Type 0} (rack : racks.Ghosts R) (area : areas.Ghosts A) (of : ℕ → Bool) (part : Part) (pieces : Pieces) (x : Metaslab) (new : Shard R A) : Type 0 where
  pub reached : Metaslab
  pub now : Pieces
  pub is : IsMetaslab rack area part now new reached
  pub since : Since (layout_in part) x reached
  pub images : of groups_number ≡ true → KeepsImages x.world reached.world
  pub same : (k : Key) → of k.object ≡ true → SamePieces part x pieces now k

-- whatever the one stood for, the other stands for something behind it
abbrev pub StateStep : {R A : Type 0} → racks.Ghosts R → areas.Ghosts A → (ℕ → Bool) → Shard R A → Shard R A → Type 0
StateStep rack area of old new = (part : Part) (pieces : Pieces) (x : Metaslab) → IsMetaslab rack area part pieces old x → GoesOn rack area of part pieces x new

-- ---- bytes

-- a shard stands for a metaslab that came from one by events, and all blocks of which have bytes
pub record GoesWithBytes {R A : Type 0} (rack : racks.Ghosts R) (area : areas.Ghosts A) (part : Part) (x : Metaslab) (new : Shard R A) : Type 0 where
  pub reached : Metaslab
  pub pieces : Pieces
  pub is : IsMetaslab rack area part pieces new reached
  pub since : Since (layout_in part) x reached
  pub has : HaveBytes part.geometry pieces reached

-- where all blocks of a metaslab have bytes for which the one stood, so have those of what the other stands for behind it
abbrev pub KeepsBytes : {R A : Type 0} → racks.Ghosts R → areas.Ghosts A → Part → Shard R A → Metaslab → Shard R A → Type 0
KeepsBytes rack area part old x new = (pieces : Pieces) → IsMetaslab rack area part pieces old x → HaveBytes part.geometry pieces x → GoesWithBytes rack area part x new

-- ---- tables

-- what is held of the objects of a test is as it was, but that blocks may be gone that were freed up to a group
pub record KeepsOf (of : ℕ → Bool) (group : ℕ) (old new : Entries) : Type 0 where
  pub each : (key : Key) → of key.object ≡ true → (held_in new key ≡ held_in old key) ⊎ ((is_freed_block group (held_in old key) ≡ true) × (held_in new key ≡ None))

-- another object than that which is concerned, if one is
abbrev pub is_other : Option ℕ → ℕ → Bool
is_other None object = true
is_other (Some n) object = if n == object then false else true

-- ---- metaslabs

-- The groups are as they were, and so are the arms, which come and go with them, but for whether a pass has made them good. No leaf came, and as many events are
-- reserved. Logs may be others.
pub record KeepsGroups {R A : Type 0} (old new : Shard R A) : Type 0 where
  pub groups : SameGroups old new
  pub arms : ShareArms old.slots new.slots
  pub leaves : (leaf : ℕ) → IsLeaf new.slots leaf → IsLeaf old.slots leaf
  pub reserve : reserved_of new.history ≡ reserved_of old.history

-- What every hold keeps to: the metaslab is valid, what it has of objects that the hold doesn't concern is as it was, its groups, arms and reserved events are as they were unless
-- the hold concerns them, its pass is the one that it was unless the hold concerns that, no group of it fell, no count of failed calls on the areas of its records fell, and whatever state it stood for, it
-- stands for one behind it.
pub record KeepsTo {R A : Type 0} (rack : racks.Ghosts R) (area : areas.Ghosts A) (old new : Shard R A) (concerned : Option ℕ) : Type 0 where
  pub valid : Valid rack new
  pub part : part_of new ≡ part_of old
  pub later : old.committed ≤ new.committed
  pub opens : old.open_group ≤ new.open_group
  pub groups : is_other concerned groups_number ≡ true → KeepsGroups old new
  pub passes : is_other concerned passes_number ≡ true → KeepsPass old.pass new.pass
  pub others : KeepsOf (is_other concerned) new.committed old.entries new.entries
  pub areas : AreasLater area.faults old new
  pub state : StateStep rack area (is_other concerned) old new

-- what others may have done since, where there are any: what it has of a thread's own objects is as it was, and so are its groups, arms and reserved events where the groups are
-- the thread's own, and its pass where that is
pub record Drifts {R A : Type 0} (rack : racks.Ghosts R) (area : areas.Ghosts A) (shared : Bool) (owns : ℕ → Bool) (old now : Shard R A) : Type 0 where
  pub valid : Valid rack now
  pub part : part_of now ≡ part_of old
  pub later : old.committed ≤ now.committed
  pub opens : old.open_group ≤ now.open_group
  pub groups : owns groups_number ≡ true → KeepsGroups old now
  pub passes : owns passes_number ≡ true → KeepsPass old.pass now.pass
  pub own : KeepsOf owns now.committed old.entries now.entries
  pub state : StateStep rack area owns old now
  pub still : shared ≡ false → now ≡ old
