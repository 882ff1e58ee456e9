-- How all metaslabs are changed, one after another, and what becomes of each.
use Rattle.std.specs.Prelude.{◌≡◌, ◌<◌, ◌≤◌, ℕ, Bool, true, false, List, Some, Result, Ok, Err, length, slice_get}
use Rattle.draid_rack.specs.declared.Rack.{Ghosts}
use Rattle.draid_machine.specs.declared.event.Event.{Event}
use Rattle.draid_machine.specs.declared.event.Event.TheVariants as event
use Rattle.draid_segments.specs.Segments.{Pieces}
use Rattle.draid_entries.specs.History.{reserved_of}
use Rattle.draid_entries.specs.declared.history.ReserveFault.{ReserveFault}
use Rattle.draid_entries.specs.declared.history.ReserveFault.TheVariants as reserve
use Rattle.draid_slots.specs.Changes.{ChangesArms, Keeps, switched}
use Rattle.draid_slots.specs.Table.{IsTable}
use Rattle.draid_shard.specs.Alike.{KeepsArms}
use Rattle.draid_shard.specs.Calls.{ActsOn, SameKit}
use Rattle.draid_shard.specs.Changes.{KeepsBlocks, SameGroups}
use Rattle.draid_shard.specs.Fits.{Valid}
use Rattle.draid_shard.specs.States.{Does}
use Rattle.draid_shard.specs.declared.shard.Shard.{Shard}
use Rattle.draid_disks.specs.Disks.{HasRoomFor, SamePass, Uses}
use Rattle.draid_disks.specs.Replanning.{attach_events}
use Rattle.draid_session.specs.Follows.{replans}
use Rattle.draid_session.specs.Holds.{View}
use Rattle.draid_session.specs.Phases.{End, Went, WasWorn, Starved}
use Rattle.draid_changes.specs.Behind.{HasLeaf}
use Rattle.draid_changes.specs.declared.need.Need.{Need}
use Rattle.draid_changes.specs.declared.need.Need.TheVariants as needs

-- each of a list below a number was changed so, and the others are as they were
pub record ChangedBelow {S : Type 0} (Changes : S → S → Type 0) (m : ℕ) (old new : List S) : Type 0 where
  pub many : length new ≡ length old
  pub below : (k : ℕ) (x : S) → k < m → slice_get old k ≡ Some x → (y : S) × (slice_get new k ≡ Some y) × Changes x y
  pub others : (k : ℕ) → m ≤ k → slice_get new k ≡ slice_get old k

-- ---- reserving

-- how the reserving in all metaslabs ended, by its answer
abbrev pub end_of_reserving : Result Unit ReserveFault → End
end_of_reserving (Ok done) = Went
end_of_reserving (Err (reserve.Worn events)) = WasWorn
end_of_reserving (Err reserve.NoMemory) = Starved

-- how many events a change asks for in a metaslab, as its shard has it and as it is seen
abbrev pub events_in : {R A : Type 0} → Need → Shard R A → ℕ
events_in needs.Event shard = 1
events_in needs.Attachment shard = attach_events shard.pass
events_in (needs.Spares count) shard = count

abbrev pub events_at : Need → View → ℕ
events_at needs.Event = λ v. 1
events_at needs.Attachment = λ v. replans v.world.core.pass
events_at (needs.Spares count) = λ v. count

-- how many arms come in it one after another
abbrev pub arms_in : Need → ℕ
arms_in needs.Event = 1
arms_in needs.Attachment = 1
arms_in (needs.Spares count) = count

-- So many events at least are reserved, and there is room in memory for the changes of arms. All else is as it was, but for the room of a pass's list of targets.
pub record Reserves {R A : Type 0} (need : Need) (old new : Shard R A) : Type 0 where
  pub reserved : events_in need new ≤ reserved_of new.history
  pub room : HasRoomFor (arms_in need) new
  pub slots : KeepsArms old.slots new.slots
  pub logs : Keeps old.slots new.slots
  pub sound : IsTable new.slots
  pub pass : SamePass old.pass new.pass
  pub last : new.last_pass ≡ old.last_pass
  pub groups : SameGroups old new
  pub kit : SameKit old new

-- ---- leaves that go offline or come back

abbrev pub switch_event : ℕ → Bool → Event
switch_event leaf true = event.Offline leaf
switch_event leaf false = event.Online leaf

-- a leaf is an arm of one of the slots that a metaslab has, and an event is reserved for what becomes of it
pub record MaySwitch {R A : Type 0} (rack : Ghosts R) (leaf : ℕ) (shard : Shard R A) : Type 0 where
  pub valid : Valid rack shard
  pub reserved : 0 < reserved_of shard.history
  pub arm : HasLeaf shard.slots leaf

-- it went offline there, or came back
pub record Switches {R A : Type 0} (rack : Ghosts R) (leaf : ℕ) (offline : Bool) (old new : Shard R A) : Type 0 where
  pub valid : Valid rack new
  pub kit : SameKit old new
  pub does : Does old new (switch_event leaf offline)
  pub acts : (pieces : Pieces) → ActsOn rack old new (switch_event leaf offline) pieces
  pub keeps : KeepsBlocks old new
  pub slots : ChangesArms old.slots new.slots (switched leaf offline)
  pub reserve : Uses old.history new.history 1
  pub pass : new.pass ≡ old.pass
