-- How a column of a block fares on the arms of its slot.
use Rattle.std.specs.Prelude.{◌≡◌, ◌==◌, ◌<◌, ◌≤◌, ◌+◌, ◌||◌, ◌&&◌, not, ℕ, Bool, true, false, nat_lt, List, ◌∷◌, ◌++◌, [], Option, Some, length}
use Rattle.draid_names.specs.Faults.{Rose}
use Rattle.draid_names.specs.declared.arm.ArmAt.{ArmAt}
use Rattle.draid_rack.specs.Moments.{Leaves, LeavesTold}
use Rattle.draid_rack.specs.Rack.{Told, OnBothTold}
use Rattle.draid_columns.specs.Columns.{RowsStand, WritesRows, in_rows}
use Rattle.draid_machine.specs.declared.names.ArmName.{ArmName}
use Rattle.draid_machine.specs.Names.{any_below, has_name, has_number}
use Rattle.draid_machine.specs.Arms.{passes}
use Rattle.draid_slots.specs.Table.{SlotTable, is_logged}
use Rattle.draid_shard.specs.Calls.{CountsFailed}
use Rattle.draid_shard.specs.declared.places.ColumnRows.{ColumnRows}
use Rattle.draid_blocks.specs.declared.putting.Landing.{Landing}
use Rattle.draid_blocks.specs.declared.outcome.Outcome.{Outcome}
use Rattle.draid_blocks.specs.declared.outcome.Outcome.TheVariants.{Done, Failed, Silent}
use Rattle.draid_shard.specs.Rows.{AreApart, LogsBirth, answers_on, arm_no, leaf_on, name_on, rows_on}

-- ---- one arm

-- what a write of the column to an arm of the slot did to what the rack tells
abbrev pub LandsOn : SlotTable → ColumnRows → ℕ → List ℕ → Outcome → Option Told → Option Told → Type 0
LandsOn slots rows k column Silent old new = (answers_on slots rows k ≡ false) × (new ≡ old)
LandsOn slots rows k column (Failed leaf) old new =
    (answers_on slots rows k ≡ true) × (leaf_on slots rows k ≡ Some leaf) × LeavesTold (in_rows (rows_on rows leaf)) old new
LandsOn slots rows k column Done old new =
    (answers_on slots rows k ≡ true) × (leaf : ℕ) × (leaf_on slots rows k ≡ Some leaf)
    × OnBothTold old new (WritesRows (rows_on rows leaf) column rows.count rows.count)

-- no count falls, and that of the leaf rose on which a call failed
pub record CountsOn (outcome : Outcome) (old new : Option ℕ → ℕ) : Type 0 where
  pub later : (who : Option ℕ) → old who ≤ new who
  pub cause : (leaf : ℕ) → outcome ≡ Failed leaf → Rose (old (Some leaf)) (new (Some leaf))

abbrev pub is_done : Outcome → Bool
is_done Silent = false
is_done (Failed leaf) = false
is_done Done = true

-- what is noted of it
abbrev pub noted : Landing → ArmName → Outcome → Landing
noted landing n Silent = landing
noted landing n (Failed leaf) = record { landed = landing.landed; failed = landing.failed ++ leaf ∷ [] }
noted landing n Done = record { landed = landing.landed ++ n ∷ []; failed = landing.failed }

-- ---- the first so many arms

-- the sectors of the rows on those that answer
abbrev pub written_below : SlotTable → ColumnRows → ℕ → ℕ → ℕ → Bool
written_below slots rows count leaf sector =
    any_below count (λ k. answers_on slots rows k && passes (leaf_on slots rows k) (λ m. in_rows (rows_on rows m) leaf sector))

-- the column was written to these, and stands on those on which it landed
pub record Wrote (slots : SlotTable) (rows : ColumnRows) (count : ℕ) (column : List ℕ) (landed : List ArmName) (x y : Told) : Type 0 where
  pub leaves : Leaves (written_below slots rows count) x y
  pub stand : AreApart slots rows → (k leaf : ℕ) (n : ArmName) → k < count → name_on slots rows k ≡ Some n → has_name landed n ≡ true → leaf_on slots rows k ≡ Some leaf
      → RowsStand (rows_on rows leaf) y.reads column rows.count
  pub whole : AreApart slots rows → (k leaf row : ℕ) (n : ArmName) → k < count → name_on slots rows k ≡ Some n → has_name landed n ≡ true → leaf_on slots rows k ≡ Some leaf
      → row < rows.count → y.harmed leaf (rows.first + row) ≡ false

-- an arm that has this name, and one that answers and keeps the rows on this leaf
abbrev pub IsNamed : SlotTable → ColumnRows → ℕ → ArmName → Type 0
IsNamed slots rows count n = (k : ℕ) × (k < count) × (name_on slots rows k ≡ Some n)

abbrev pub KeepsOn : SlotTable → ColumnRows → ℕ → ℕ → Type 0
KeepsOn slots rows count leaf = (k : ℕ) × (k < count) × (answers_on slots rows k ≡ true) × (leaf_on slots rows k ≡ Some leaf)

-- The column was tried on the first so many arms of its slot. It landed on those that answer and whose leaf didn't fail, and the logs of the others have
-- the birth.
pub record Lands (slots new : SlotTable) (rows : ColumnRows) (count : ℕ) (column : List ℕ) (landing : Landing) (told now : Option Told) (before after : Option ℕ → ℕ) : Type 0 where
  pub told_is : OnBothTold told now (Wrote slots rows count column landing.landed)
  pub logs : LogsBirth rows.birth slots new
  pub listed : AreApart slots rows → (n : ArmName) → has_name landing.landed n ≡ true → IsNamed slots rows count n
  pub lands : AreApart slots rows → (k : ℕ) (n : ArmName) → k < count → name_on slots rows k ≡ Some n
      → has_name landing.landed n ≡ (answers_on slots rows k && not (passes (leaf_on slots rows k) (has_number landing.failed)))
  pub fail : (leaf : ℕ) → has_number landing.failed leaf ≡ true → KeepsOn slots rows count leaf
  pub few_landed : length landing.landed ≤ count
  pub few_failed : length landing.failed ≤ count
  pub missed : AreApart slots rows → (k group : ℕ) (n : ArmName) → k < count → name_on slots rows k ≡ Some n
      → is_logged new (arm_no rows k) group ≡ (is_logged slots (arm_no rows k) group || (not (has_name landing.landed n) && (group == rows.birth)))
  pub others : (at : ArmAt) (group : ℕ) → ((at.slot == rows.slot) && nat_lt at.arm count) ≡ false → is_logged new at group ≡ is_logged slots at group
  pub counts : CountsFailed landing.failed before after
