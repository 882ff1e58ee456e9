-- How a column of a stripe lands on a target.
use Rattle.std.specs.Prelude.{◌≡◌, ◌==◌, ◌≤◌, ◌&&◌, ℕ, Bool, true, false, List, Option, Some}
use Rattle.draid_names.specs.Faults.{Rose}
use Rattle.draid_names.specs.declared.arm.At.{At}
use Rattle.draid_rack.specs.Moments.{Leaves, LeavesTold}
use Rattle.draid_rack.specs.Rack.{OnBothTold, Told, taints}
use Rattle.draid_slots.specs.Table.{SlotTable}
use Rattle.draid_shard.specs.Rows.{answers_on, leaf_on}
use Rattle.draid_shard.specs.declared.places.ColumnRows.{ColumnRows}
use Rattle.draid_mend.specs.declared.mending.Mended.{Mended}
use Rattle.draid_mend.specs.declared.mending.Mended.TheVariants.{Silent, Failed, Done}

-- one sector of a leaf
abbrev pub at_sector : ℕ → ℕ → ℕ → ℕ → Bool
at_sector leaf sector m s = (m == leaf) && (s == sector)

-- A column that was mended on a leaf stands there, and is harmed just where one of its sources was. All else is as it was.
pub record MendsSector (leaf sector : ℕ) (column : List ℕ) (sources : List At) (x y : Told) : Type 0 where
  pub leaves : Leaves (at_sector leaf sector) x y
  pub stands : y.reads leaf sector ≡ Some column
  pub harmed : y.harmed leaf sector ≡ taints sources x

-- what a landing on an arm did to what the rack tells
abbrev pub MendsOn : SlotTable → ColumnRows → ℕ → List ℕ → List At → Mended → Option Told → Option Told → Type 0
MendsOn slots rows k column sources Silent old new = (answers_on slots rows k ≡ false) × (new ≡ old)
MendsOn slots rows k column sources (Failed leaf) old new =
    (answers_on slots rows k ≡ true) × (leaf_on slots rows k ≡ Some leaf) × LeavesTold (at_sector leaf rows.first) old new
MendsOn slots rows k column sources (Done leaf) old new =
    (answers_on slots rows k ≡ true) × (leaf_on slots rows k ≡ Some leaf) × OnBothTold old new (MendsSector leaf rows.first column sources)

-- no count falls, and that of the leaf rose on which the call failed
pub record CountsMended (mended : Mended) (old new : Option ℕ → ℕ) : Type 0 where
  pub later : (who : Option ℕ) → old who ≤ new who
  pub cause : (leaf : ℕ) → mended ≡ Failed leaf → Rose (old (Some leaf)) (new (Some leaf))
