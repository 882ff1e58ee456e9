-- What an import keeps of the checkpoint that a check record tells.
use Rattle.std.specs.Prelude.{◌≡◌, ◌<◌, ◌≤◌, ◌+◌, ◌++◌, ◌⊎◌, [], ◌∷◌, ℕ, List, Option, Some, None, Result, Contains, length, map, slice_get}
use Rattle.draid_checkpoint.specs.Check.{Point}
use Rattle.draid_names.specs.declared.pointer.Pointer.{Pointer}
use Rattle.draid_record.specs.Checks.{CheckTold, IsCheck}
use Rattle.draid_record.specs.declared.checks.Dropped.{Dropped}
use Rattle.draid_record.specs.declared.fault.RecordFault.{RecordFault}
use Rattle.draid_found.specs.Drops.{AreNewestBeside}
use Rattle.draid_found.specs.Older.{ListsOlder}
use Rattle.draid_shard.specs.declared.shard.Shard.{Shard}
use Rattle.draid_uber.specs.Points.{KeepsCheck, dropped_in}
use Rattle.draid_uber.specs.Uber.{changed_of, point_of}
use Rattle.draid_uber.specs.declared.uber.Uber.{Uber}
use Rattle.draid_pool.specs.Pools.{HasNames}
use Rattle.draid_pool.specs.Whole.{PointFits}
use Rattle.draid_import.specs.Checking.{IsChecked}
use Rattle.draid_import.specs.Imported.{IsLastIn}

-- the last group in which something befell a checkpoint to which these blocks were dropped
abbrev pub changed_by : List Dropped → ℕ → ℕ → ℕ
changed_by [] group was = was
changed_by (d ∷ ds) group was = group

-- the older blocks that a checkpoint keeps, of those that a check record doesn't name; none where it tells of no checkpoint
abbrev pub AreOlder : {R A : Type 0} → List (Shard R A) → (ℕ → Option Pointer) → CheckTold → List Dropped → Type 0
AreOlder shards newest value older = ((value.group ≡ 0) × (older ≡ [])) ⊎ ((0 < value.group) × ListsOlder shards newest value.drops value.group older)

-- An uberblock keeps the checkpoint that the check record of a group tells. In the group behind it the older blocks were dropped that it keeps.
pub record KeepsPoint {R A : Type 0} (group : ℕ) (value : CheckTold) (shards : List (Shard R A)) (newest : ℕ → Option Pointer) (was : ℕ) (uber : Uber A) : Type 0 where
  pub older : List Dropped
  pub are : AreOlder shards newest value older
  pub told : Point
  pub keeps : KeepsCheck group value told
  pub group_is : (point_of uber).group ≡ told.group
  pub drops : (point_of uber).drops ≡ told.drops ++ map (dropped_in (group + 1)) older
  pub changed : changed_of uber ≡ changed_by older (group + 1) was

-- What was found of some metaslabs' blocks beside the check record of a group: it has no fault, and names blocks of theirs; of each object the newest block that it doesn't name is the
-- table's; and an uberblock keeps its checkpoint, with room for the blocks of the table.
pub record IsFoundBeside {R A : Type 0} (tells : Result CheckTold RecordFault → Type 0) (shards : List (Shard R A)) (group was : ℕ) (newest : ℕ → Option Pointer) (seq : ℕ) (uber : Uber A) : Type 0 where
  pub value : CheckTold
  pub checked : IsChecked tells shards value
  pub range : IsCheck group value
  pub newest_is : AreNewestBeside shards value.drops newest
  pub last : IsLastIn shards seq
  pub point : KeepsPoint group value shards newest was uber
  pub fits : PointFits 0 (point_of uber) newest seq

-- ---- as it is found

-- Blocks are listed that are others than those which are named, each once.
pub record AreOthers (named list : List Dropped) : Type 0 where
  pub apart : (d : Dropped) → Contains list d → Contains named d → ⊥
  pub once : (i k : ℕ) (d : Dropped) → k < i → slice_get list i ≡ Some d → slice_get list k ≡ Some d → ⊥

-- a checkpoint has room for the blocks of all objects of a table, and a check record can name them all; or there is none
abbrev pub HasRoom : (ℕ → Option Pointer) → Point → Type 0
HasRoom newest point = ((objects : ℕ) × HasNames newest objects × (objects ≤ point.spare) × (length point.drops + objects ≤ 524_288)) ⊎ ((point.group ≡ None) × (point.drops ≡ []))
