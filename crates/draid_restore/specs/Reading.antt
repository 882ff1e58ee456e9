-- What a scrub reads of a block: each arm that answers; and the reading of each column that counts.
use Rattle.std.specs.Prelude.{◌≡◌, ◌==◌, ◌*◌, ◌<◌, ◌≤◌, ◌&&◌, not, ℕ, Bool, true, false, List, Option, None, Some, Vec, filter, find, length, map, slice_get, if◌then◌else◌}
use Rattle.std.specs.Option.{option_or}
use Rattle.std.specs.declared.alloc.Global.{Global}
use Rattle.draid_rack.specs.Rack.{OnTold, Told}
use Rattle.draid_columns.specs.Columns.{RowsStand}
use Rattle.draid_machine.specs.Names.{has_number}
use Rattle.draid_machine.specs.declared.names.ArmName.{ArmName}
use Rattle.draid_shard.specs.declared.loan.ReadArm.{ReadArm}
use Rattle.draid_shard.specs.declared.loan.Spot.{Spot}
use Rattle.draid_shard.specs.Spots.{rows_for}

abbrev pub Columns : Type 0
Columns = List (Option (Vec ℕ Global))

-- ---- which reading counts

-- an arm of a column, and one that is clean
abbrev pub is_of : ℕ → Spot → Bool
is_of c spot = spot.column == c

abbrev pub is_clean_of : ℕ → Spot → Bool
is_clean_of c spot = (spot.column == c) && spot.clean

-- of a column that of the first clean arm counts, and where there is none that of the first arm
abbrev pub reading_of : List Spot → ℕ → Option Spot
reading_of spots c = option_or (find (is_clean_of c) spots) (find (is_of c) spots)

-- ---- what is kept of it

abbrev pub unless_failed : List ℕ → Option Spot → Option ArmName
unless_failed failed None = None
unless_failed failed (Some spot) = if has_number failed spot.leaf then None else Some spot.arm

-- the arm from which a column was taken, where these leaves failed
abbrev pub chosen_of : List Spot → List ℕ → ℕ → Option ArmName
chosen_of spots failed c = unless_failed failed (reading_of spots c)

-- the arms that were read
abbrev pub read_of : List Spot → List ℕ → List ReadArm
read_of spots failed = map (λ (spot : Spot). record { column = spot.column; arm = spot.arm }) (filter (λ (spot : Spot). not (has_number failed spot.leaf)) spots)

-- ---- the readings

-- the reading that counts is what its arm told, and there is none where a call on its leaf failed
pub record IsRead (count size : ℕ) (told : Option Told) (failed : List ℕ) (spot : Spot) (column : Option (Option (Vec ℕ Global))) : Type 0 where
  pub gone : has_number failed spot.leaf ≡ true → column ≡ Some None
  pub stands : has_number failed spot.leaf ≡ false
      → (bytes : Vec ℕ Global) × (column ≡ Some (Some bytes)) × (length bytes.items ≡ count * size) × OnTold told (λ x. RowsStand (rows_for count size spot) x.reads bytes.items count)

-- a buffer of so many bytes
abbrev pub HasBuffer : ℕ → Option (Option (Vec ℕ Global)) → Type 0
HasBuffer len column = (bytes : Vec ℕ Global) × (column ≡ Some (Some bytes)) × (length bytes.items ≡ len)

-- The first so many arms were read. A column has its reading, a buffer until then, and nothing where no arm answers; calls failed on leaves of those arms alone.
pub record ReadsSpots (count size : ℕ) (spots : List Spot) (n : ℕ) (told : Option Told) (columns : Columns) (failed : List ℕ) : Type 0 where
  pub silent : (c : ℕ) → c < length columns → reading_of spots c ≡ None → slice_get columns c ≡ Some None
  pub read : (c k : ℕ) (spot : Spot) → reading_of spots c ≡ Some spot → slice_get spots k ≡ Some spot → k < n → IsRead count size told failed spot (slice_get columns c)
  pub rest : (c k : ℕ) (spot : Spot) → reading_of spots c ≡ Some spot → slice_get spots k ≡ Some spot → n ≤ k → HasBuffer (count * size) (slice_get columns c)
  pub fail : (leaf : ℕ) → has_number failed leaf ≡ true → (k : ℕ) × (spot : Spot) × (k < n) × (slice_get spots k ≡ Some spot) × (spot.leaf ≡ leaf)

-- a place has another column, or none
pub record SetsColumn (old new : Columns) (c : ℕ) (column : Option (Vec ℕ Global)) : Type 0 where
  pub all : length new ≡ length old
  pub here : slice_get new c ≡ Some column
  pub others : (k : ℕ) → (k ≡ c → ⊥) → slice_get new k ≡ slice_get old k

abbrev pub column_if : Bool → Vec ℕ Global → Option (Vec ℕ Global)
column_if done bytes = if done then Some bytes else None
