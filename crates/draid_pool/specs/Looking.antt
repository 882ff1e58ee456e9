-- The room that each metaslab has for a new block, as it was looked at.
use Rattle.std.specs.Prelude.{◌≡◌, ◌<◌, ◌+◌, ◌++◌, ℕ, List, [], ◌∷◌, Option, Some, Result, Ok, Err, slice_get}
use Rattle.std.specs.List.{AllZip}
use Rattle.draid_names.specs.declared.fault.NoMemory.{NoMemory}
use Rattle.draid_names.specs.declared.room.Room.{Room}
use Rattle.draid_rack.specs.declared.Rack as racks
use Rattle.draid_spec.specs.declared.layout.Geometry.{Geometry}
use Rattle.draid_perm.specs.declared.perms.Perms.{Perms}
use Rattle.draid_shard.specs.Fits.{Valid}
use Rattle.draid_shard.specs.declared.fault.Shut.{Shut}
use Rattle.draid_shard.specs.declared.fault.Shut.TheVariants as shut
use Rattle.draid_shard.specs.declared.shard.Shard.{Shard}
use Rattle.draid_session.specs.Holds.{Hold, View}
use Rattle.draid_session.specs.Looks.{CountIs, LooksFrom, OnlyLooks}
use Rattle.draid_session.specs.Rooms.{IsDisabled, IsFull, IsRoomOf, IsWornForBlock}
use Rattle.draid_session.specs.State.{State, Store}
use Rattle.draid_machine.specs.State as machine
use Rattle.draid_shard.specs.Rooms.{IsRoom, ShutBy}
use Rattle.draid_shard.specs.States.{IsIn}
use Rattle.draid_pool.specs.declared.room.Seen.{Seen}
use Rattle.draid_pool.specs.declared.room.SeenRooms.{SeenRooms}

-- the room that a shard has for a block of so many stripes
pub record RoomIs {R A : Type 0} (need : ℕ) (shard : Shard R A) (room : Room) : Type 0 where
  pub metaslab : room.metaslab ≡ shard.number
  pub wanted : room.need ≡ need
  pub run : (w : machine.State) → IsIn shard w → IsRoom shard w room.run

-- why a shard takes no new block
abbrev pub ShutIs : {R A : Type 0} → Shard R A → Option Shut → Type 0
ShutIs shard why = (w : machine.State) → IsIn shard w → ShutBy shard w why

-- what a metaslab has for a block of so many stripes
pub record SeenIs {R A : Type 0} (need : ℕ) (shard : Shard R A) (seen : Seen) : Type 0 where
  pub room : RoomIs need shard seen.room
  pub shut : ShutIs shard seen.shut

-- it was looked at, and is as it was
pub record SeesShard {R A : Type 0} (need : ℕ) (old : Shard R A) (seen : Seen) (new : Shard R A) : Type 0 where
  pub same : new ≡ old
  pub is : SeenIs need old seen

-- a thread has so many metaslabs
abbrev pub HasMany : {R A : Type 0} → racks.Ghosts R → ℕ → (ℕ → Option (Shard R A)) → Type 0
HasMany {R} {A} rack count last = (m : ℕ) → m < count → (shard : Shard R A) × (last m ≡ Some shard) × Valid rack shard

-- ---- one more

-- a count is one more where this is the reason
pub record CountsOne (reason : Option Shut) (why : Shut) (old new : ℕ) : Type 0 where
  pub more : reason ≡ Some why → new ≡ old + 1
  pub same : (reason ≡ Some why → ⊥) → new ≡ old

-- what was seen of another metaslab was noted
pub record AddsSeen (old : SeenRooms) (seen : Seen) (new : SeenRooms) : Type 0 where
  pub rooms : new.rooms.items ≡ old.rooms.items ++ seen.room ∷ []
  pub disabled : CountsOne seen.shut shut.Disabled old.disabled new.disabled
  pub full : CountsOne seen.shut shut.Full old.full new.full
  pub worn : CountsOne seen.shut shut.Worn old.worn new.worn

-- ---- all of them

-- These are the rooms of the first so many metaslabs, each of which was looked at, and so many of them take no block.
pub record LooksAtRooms (geometry : Geometry) (perms : Perms) (need many : ℕ) (rooms : SeenRooms) (holds : List Hold) : Type 0 where
  pub views : List View
  pub looked : LooksFrom 0 many holds views
  pub are : AllZip (IsRoomOf geometry perms need) views rooms.rooms.items
  pub disabled : CountIs IsDisabled views rooms.disabled
  pub full : CountIs IsFull views rooms.full
  pub worn : CountIs (IsWornForBlock geometry) views rooms.worn

-- the looks, by their answer
abbrev pub LooksDo : State → (need many : ℕ) → Result SeenRooms NoMemory → List Hold → Store → Type 0
LooksDo x need many (Ok rooms) holds store = (store ≡ x.store) × LooksAtRooms x.geometry x.perms need many rooms holds
LooksDo x need many (Err fault) holds store = (store ≡ x.store) × OnlyLooks holds

-- the rooms of metaslabs, as they were left
pub record RoomAt {R A : Type 0} (need : ℕ) (now : ℕ → Option (Shard R A)) (m : ℕ) (room : Room) : Type 0 where
  pub shard : Shard R A
  pub there : now m ≡ Some shard
  pub is : RoomIs need shard room

abbrev pub RoomsAre : {R A : Type 0} → ℕ → (ℕ → Option (Shard R A)) → List Room → Type 0
RoomsAre need now rooms = (m : ℕ) (room : Room) → slice_get rooms m ≡ Some room → RoomAt need now m room

-- each metaslab is as it was
abbrev pub AreSame : {R A : Type 0} → (last now : ℕ → Option (Shard R A)) → Type 0
AreSame last now = (m : ℕ) → now m ≡ last m
