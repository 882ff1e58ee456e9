-- The room for a lend of a block.
use Rattle.std.specs.Prelude.{◌≡◌, ◌*◌, ◌≤◌, [], ℕ, List, Option, None, Some, Vec, length, slice_get, vec_capacity}
use Rattle.std.specs.declared.alloc.Global.{Global}
use Rattle.draid_names.specs.declared.pointer.Pointer.{Pointer}
use Rattle.draid_slots.specs.Table.{SlotTable}
use Rattle.draid_shard.specs.Loans.{IsLandingRoom}
use Rattle.draid_shard.specs.Part.{Part}
use Rattle.draid_shard.specs.declared.loan.Spot.{Spot}
use Rattle.draid_restore.specs.Reading.{Columns, HasBuffer, reading_of}
use Rattle.draid_shard.specs.Spots.{SpotsOf, spots_below}
use Rattle.draid_restore.specs.declared.reading.Readings.{Readings}
use Rattle.draid_restore.specs.declared.rooms.LendRoom.{LendRoom}

-- a buffer where the column has an arm, and else none
pub record IsBufferFor (spots : List Spot) (bytes c : ℕ) (buffer : Option (Vec ℕ Global)) : Type 0 where
  pub silent : reading_of spots c ≡ None → buffer ≡ None
  pub there : (spot : Spot) → reading_of spots c ≡ Some spot → HasBuffer bytes (Some buffer)

-- so of the first so many columns
pub record HasColumns (spots : List Spot) (bytes count : ℕ) (buffers : Columns) : Type 0 where
  pub each : (c : ℕ) (buffer : Option (Vec ℕ Global)) → slice_get buffers c ≡ Some buffer → IsBufferFor spots bytes c buffer
  pub many : length buffers ≡ count

-- room for the readings of arms
pub record HasReadRoom (spots : List Spot) (columns bytes : ℕ) (lent : Readings) : Type 0 where
  pub buffers : HasColumns spots bytes columns lent.columns.items
  pub spare : length lent.spare.items ≡ bytes
  pub none : lent.failed.items ≡ []
  pub failed : length spots ≤ vec_capacity lent.failed

-- room for all of it; the arms of the block that answer are listed
pub record HasLendRoom (part : Part) (slots : SlotTable) (pointer : Pointer) (room : LendRoom) : Type 0 where
  pub spots : SpotsOf part slots pointer room.room.spots.items
  pub listed : room.room.spots.items ≡ spots_below part slots pointer part.geometry.g
  pub landing : IsLandingRoom part.geometry pointer.stripes room.room
  pub lent : HasReadRoom room.room.spots.items part.geometry.g (pointer.stripes * part.geometry.props.sector) room.lent
  pub unchosen : room.chosen.items ≡ []
  pub chosen : part.geometry.g ≤ vec_capacity room.chosen
  pub unread : room.read.items ≡ []
  pub read : length room.room.spots.items ≤ vec_capacity room.read
