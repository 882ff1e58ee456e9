-- How a column of a stripe lands on the targets of its slot.
use Rattle.std.specs.Prelude.{◌≡◌, ◌==◌, ◌<◌, ◌&&◌, ◌++◌, ◌∷◌, [], ℕ, Bool, true, false, List, Option, Some, None, slice_get}
use Rattle.draid_names.specs.declared.arm.ArmAt.{ArmAt}
use Rattle.draid_names.specs.declared.arm.At.{At}
use Rattle.draid_machine.specs.Arms.{passes}
use Rattle.draid_machine.specs.Names.{any_below, has_number}
use Rattle.draid_rack.specs.Moments.{Leaves}
use Rattle.draid_rack.specs.Rack.{Told, taints}
use Rattle.draid_slots.specs.Table.{SlotTable, IsThere}
use Rattle.draid_shard.specs.Rows.{answers_on, leaf_on}
use Rattle.draid_shard.specs.declared.places.ColumnRows.{ColumnRows}
use Rattle.draid_mend.specs.Mending.{at_sector}
use Rattle.draid_mend.specs.declared.mending.Mended.{Mended}
use Rattle.draid_mend.specs.declared.mending.Mended.TheVariants.{Silent, Failed, Done}

-- each target is an arm of its slot
abbrev pub AreThere : SlotTable → List ArmAt → Type 0
AreThere slots targets = (k : ℕ) (at : ArmAt) → slice_get targets k ≡ Some at → IsThere slots at

-- a target is an arm of the column's slot that answers, and keeps the row on this sector of this leaf
abbrev pub is_mended_on : SlotTable → ColumnRows → Option ArmAt → ℕ → ℕ → Bool
is_mended_on slots rows None leaf sector = false
is_mended_on slots rows (Some at) leaf sector =
    (at.slot == rows.slot) && (answers_on slots rows at.arm && passes (leaf_on slots rows at.arm) (λ m. at_sector m rows.first leaf sector))

-- the sectors of the row on the first so many targets
abbrev pub mended_below : SlotTable → ColumnRows → List ArmAt → ℕ → ℕ → ℕ → Bool
mended_below slots rows targets count leaf sector = any_below count (λ k. is_mended_on slots rows (slice_get targets k) leaf sector)

-- no source is among the sectors named
abbrev pub AreFree : (ℕ → ℕ → Bool) → List At → Type 0
AreFree named sources = (k : ℕ) (a : At) → slice_get sources k ≡ Some a → named a.leaf a.sector ≡ false

-- a column stands, and is harmed just where one of its sources was
pub record StandsMended (leaf sector : ℕ) (column : List ℕ) (sources : List At) (x y : Told) : Type 0 where
  pub stands : y.reads leaf sector ≡ Some column
  pub harmed : y.harmed leaf sector ≡ taints sources x

-- a target that answers, and keeps the row on this leaf
pub record KeepsAt (slots : SlotTable) (rows : ColumnRows) (targets : List ArmAt) (count leaf : ℕ) : Type 0 where
  pub k : ℕ
  pub at : ArmAt
  pub below : k < count
  pub there : slice_get targets k ≡ Some at
  pub slot : at.slot ≡ rows.slot
  pub answers : answers_on slots rows at.arm ≡ true
  pub lies : leaf_on slots rows at.arm ≡ Some leaf

-- A column was mended on the first so many targets of its slot that answer: it stands on each on whose leaf no call failed, and nothing else changed.
pub record MendsBelow (slots : SlotTable) (rows : ColumnRows) (targets : List ArmAt) (count : ℕ) (column : List ℕ) (sources : List At) (failed : List ℕ) (x y : Told) : Type 0 where
  pub leaves : Leaves (mended_below slots rows targets count) x y
  pub each : AreFree (mended_below slots rows targets count) sources → (leaf : ℕ) → KeepsAt slots rows targets count leaf → has_number failed leaf ≡ false
      → StandsMended leaf rows.first column sources x y

-- what the list of failed leaves gains: just leaves of such targets
pub record FailsBelow (slots : SlotTable) (rows : ColumnRows) (targets : List ArmAt) (count : ℕ) (before failed : List ℕ) : Type 0 where
  pub kept : (leaf : ℕ) → has_number before leaf ≡ true → has_number failed leaf ≡ true
  pub fail : (leaf : ℕ) → has_number failed leaf ≡ true → has_number before leaf ≡ false → KeepsAt slots rows targets count leaf

-- the leaves that failed, with the one that did now
abbrev pub failed_by : Mended → List ℕ → List ℕ
failed_by Silent failed = failed
failed_by (Failed leaf) failed = failed ++ leaf ∷ []
failed_by (Done leaf) failed = failed

-- whether an arm answered to which a column was to land
abbrev pub has_answered : Mended → Bool
has_answered Silent = false
has_answered (Failed leaf) = true
has_answered (Done leaf) = true

-- each of the first so many targets that is an arm of the column's slot answers
abbrev pub AllAnswer : SlotTable → ColumnRows → List ArmAt → ℕ → Type 0
AllAnswer slots rows targets count = (k : ℕ) (at : ArmAt) → k < count → slice_get targets k ≡ Some at → at.slot ≡ rows.slot → answers_on slots rows at.arm ≡ true
