-- How the columns of a restored block fare on its arms.
use Rattle.std.specs.Prelude.{◌≡◌, ◌+◌, ◌*◌, ◌<◌, ◌≤◌, [], ℕ, Bool, true, false, List, Option, Some, length, option_map, slice_get, vec_capacity, if◌then◌else◌}
use Rattle.draid_columns.specs.Columns.{row_of}
use Rattle.draid_columns.specs.declared.rows.Rows.{Rows}
use Rattle.draid_machine.specs.Names.{has_number}
use Rattle.draid_machine.specs.declared.event.Patched.{Patched}
use Rattle.draid_parity.specs.Columns.{column_at}
use Rattle.draid_rack.specs.Moments.{ChangesOnly}
use Rattle.draid_rack.specs.Rack.{OnBothTold, OnTold, Told, flushes}
use Rattle.draid_heal.specs.Rows.{Differed, FailsOn, ListsRows, in_those}
use Rattle.draid_shard.specs.Loans.{AreRooms, IsRowRoom}
use Rattle.draid_shard.specs.Spots.{rows_for}
use Rattle.draid_shard.specs.declared.loan.LandingRoom.{LandingRoom}
use Rattle.draid_shard.specs.declared.loan.Spot.{Spot}

-- ---- one arm
abbrev pub FlushedOn : ℕ → Bool → Option Told → Option Told → Type 0
FlushedOn leaf true old new = new ≡ option_map (flushes leaf) old
FlushedOn leaf false old new = new ≡ old

abbrev pub landed_if : Bool → List ℕ → List ℕ
landed_if done landed = if done then landed else []

-- how the rows of a column stand on an arm: its leaf is flushed where no call on it failed, what landed isn't soft and reads as the column's, and so does
-- each row where no call failed
pub record StandsArm (rows : Rows) (column landed failed : List ℕ) (y : Told) : Type 0 where
  pub firm : has_number failed rows.leaf ≡ false → (s : ℕ) → y.soft rows.leaf s ≡ false
  pub landed_firm : (r : ℕ) → has_number landed r ≡ true → y.soft rows.leaf (rows.first + r) ≡ false
  pub landed_reads : (r : ℕ) → has_number landed r ≡ true → y.reads rows.leaf (rows.first + r) ≡ Some (row_of rows column r)
  pub reads : (r : ℕ) → r < rows.count → has_number failed rows.leaf ≡ false → y.reads rows.leaf (rows.first + r) ≡ Some (row_of rows column r)

-- Only what was written changed, and no harm.
pub record HealsArm (rows : Rows) (column written landed failed : List ℕ) (x y : Told) : Type 0 where
  pub only : ChangesOnly (in_those rows written) x y
  pub harm : (m s : ℕ) → y.harmed m s ≡ x.harmed m s
  pub stands : StandsArm rows column landed failed y

-- ---- rooms

-- the same, for an arm
pub record IsRoomOf (count : ℕ) (spot : Spot) (part : Patched) : Type 0 where
  pub is : IsRowRoom count part
  pub column_is : part.column ≡ spot.column
  pub arm_is : part.arm ≡ spot.arm

-- ---- the first so many arms

-- room for a landing on the arms that are listed: on each a call of a row may fail in reading and in writing, and the flush
pub record FitsRoom (count size : ℕ) (room : LandingRoom) : Type 0 where
  pub sector : length room.sector.items ≡ size
  pub parts : AreRooms count room.parts.items
  pub enough : length room.spots.items ≤ length room.parts.items
  pub empty : room.patched.items ≡ []
  pub patched : length room.spots.items ≤ vec_capacity room.patched
  pub none : room.failed.items ≡ []
  pub failed : length room.spots.items * (2 * count + 1) ≤ vec_capacity room.failed

-- what is noted of an arm
pub record ListsArm (rows : Rows) (spot : Spot) (part : Patched) (failed : List ℕ) : Type 0 where
  pub column_is : part.column ≡ spot.column
  pub arm_is : part.arm ≡ spot.arm
  pub lists : ListsRows rows spot.clean rows.count part.written.items part.landed.items failed

-- an arm was put right, and if it is clean, only what read otherwise was written
pub record Puts (rows : Rows) (spot : Spot) (part : Patched) (column before failed : List ℕ) (old new : Option Told) : Type 0 where
  pub heals : OnBothTold old new (HealsArm rows column part.written.items part.landed.items failed)
  pub lists : ListsArm rows spot part failed
  pub fails : FailsOn rows.leaf before failed
  pub needed : spot.clean ≡ true → OnTold old (Differed rows column part.written.items)

module _ (count size : ℕ) (spots : List Spot) (patched : List Patched) where
  -- one of the first so many arms was written at this sector
  pub record WroteAt (n leaf sector : ℕ) : Type 0 where
    pub k : ℕ
    pub spot : Spot
    pub part : Patched
    pub below : k < n
    pub there : slice_get spots k ≡ Some spot
    pub noted : slice_get patched k ≡ Some part
    pub written : in_those (rows_for count size spot) part.written.items leaf sector ≡ true

  -- Only what was written changed, and no harm; each arm stands; and on a clean one only what read otherwise was written.
  pub record HealsArms (columns : List (List ℕ)) (n : ℕ) (failed : List ℕ) (x y : Told) : Type 0 where
    pub named : ℕ → ℕ → Bool
    pub lies : (leaf sector : ℕ) → named leaf sector ≡ true → WroteAt n leaf sector
    pub only : ChangesOnly named x y
    pub harm : (m s : ℕ) → y.harmed m s ≡ x.harmed m s
    pub stands : (k : ℕ) (spot : Spot) (part : Patched) → k < n → slice_get spots k ≡ Some spot → slice_get patched k ≡ Some part
        → StandsArm (rows_for count size spot) (column_at columns spot.column) part.landed.items failed y
    pub needed : (k : ℕ) (spot : Spot) (part : Patched) → k < n → slice_get spots k ≡ Some spot → slice_get patched k ≡ Some part → spot.clean ≡ true
        → Differed (rows_for count size spot) (column_at columns spot.column) part.written.items x

  -- what is noted of each, and on which leaves calls failed
  pub record ListsArms (n : ℕ) (failed : List ℕ) : Type 0 where
    pub many : length patched ≡ n
    pub each : (k : ℕ) (spot : Spot) (part : Patched) → slice_get spots k ≡ Some spot → slice_get patched k ≡ Some part → ListsArm (rows_for count size spot) spot part failed
    pub fail : (leaf : ℕ) → has_number failed leaf ≡ true → (k : ℕ) × (spot : Spot) × (slice_get spots k ≡ Some spot) × (spot.leaf ≡ leaf)
