-- Why an arm can't go: what the metaslabs of a pool say together, which all have the same arms.
use Rattle.std.specs.Prelude.{◌≡◌, ◌≢◌, ◌<◌, ◌≤◌, ℕ, false, List, Option, Some, None, length, min, slice_get, sum_by}
use Rattle.draid_names.specs.declared.arm.ArmAt.{ArmAt}
use Rattle.draid_names.specs.declared.refusal.SlotFault.{SlotFault}
use Rattle.draid_names.specs.declared.refusal.SlotFault.TheVariants.{NoSuch, SpareBusy, LogNotEmpty, LastArm, PassRunning, TooSmall, Full, Last}
use Rattle.draid_pass.specs.declared.pass.Pass.{Pass}
use Rattle.draid_slots.specs.Faults.{HasLeafBeside}
use Rattle.draid_slots.specs.Table.{SlotTable, arms_of, count_at, is_logged}
use Rattle.draid_shard.specs.Alike.{HaveSameArms}
use Rattle.draid_shard.specs.declared.shard.Shard.{Shard}

-- each of them is so
abbrev pub Each : {R A : Type 0} → (Shard R A → Type 0) → List (Shard R A) → Type 0
Each {R} {A} P shards = (m : ℕ) (shard : Shard R A) → slice_get shards m ≡ Some shard → P shard

-- each has the arms of some slots
abbrev pub AreAlike : {R A : Type 0} → SlotTable → List (Shard R A) → Type 0
AreAlike slots shards = Each (λ shard. HaveSameArms slots shard.slots) shards

-- ---- passes

abbrev pub NoPass : {R A : Type 0} → List (Shard R A) → Type 0
NoPass shards = Each (λ shard. shard.pass ≡ None) shards

-- the lowest metaslab that has a pass, and the pass's number
pub record IsLowestPass {R A : Type 0} (shards : List (Shard R A)) (metaslab number : ℕ) : Type 0 where
  pub place : ℕ
  pub shard : Shard R A
  pub pass : Pass
  pub there : slice_get shards place ≡ Some shard
  pub has : shard.pass ≡ Some pass
  pub lower : (m : ℕ) (other : Shard R A) → m < place → slice_get shards m ≡ Some other → other.pass ≡ None
  pub metaslab_is : metaslab ≡ shard.number
  pub number_is : number ≡ pass.number

-- ---- logs

-- how many groups the arm at a place missed, over all metaslabs
abbrev pub missed_over : {R A : Type 0} → List (Shard R A) → ArmAt → ℕ
missed_over {R} {A} shards at = sum_by (λ (shard : Shard R A). count_at shard.slots at) shards

-- another arm of the slot
abbrev pub beside : ArmAt → ℕ → ArmAt
beside at other = record { slot = at.slot; arm = other }

-- the least number that an arm before a bound and beside the one at a place missed so
pub record IsLeastOver {R A : Type 0} (shards : List (Shard R A)) (at : ArmAt) (bound groups : ℕ) : Type 0 where
  pub one : (other : ℕ) × (other ≢ at.arm) × (other < bound) × (missed_over shards (beside at other) ≡ groups)
  pub least : (other : ℕ) → other ≢ at.arm → other < bound → groups ≤ missed_over shards (beside at other)

-- such an arm missed nothing at all in each metaslab
abbrev pub HasWholeOver : {R A : Type 0} → List (Shard R A) → ArmAt → ℕ → Type 0
HasWholeOver {R} {A} shards at bound =
    (other : ℕ) × (other ≢ at.arm) × (other < bound) × Each (λ (shard : Shard R A). (group : ℕ) → is_logged shard.slots (beside at other) group ≡ false) shards

-- the least number of the arms before a bound, none where there is no such arm
abbrev pub LeastUpto : {R A : Type 0} → List (Shard R A) → ArmAt → ℕ → Option ℕ → Type 0
LeastUpto shards at bound None = (other : ℕ) → other ≢ at.arm → other < bound → ⊥
LeastUpto shards at bound (Some groups) = IsLeastOver shards at bound groups × (groups ≡ 0 → HasWholeOver shards at bound)

abbrev pub lesser : Option ℕ → ℕ → ℕ
lesser None missed = missed
lesser (Some less) missed = min less missed

-- ---- refusals

-- why the arm at a place can't go: a pass is there, no leaf would be left, or each other arm missed a group in some metaslab; the first of these
abbrev pub IsGoingRefused : {R A : Type 0} → SlotTable → List (Shard R A) → ArmAt → SlotFault → Type 0
IsGoingRefused slots shards at (PassRunning metaslab number) = IsLowestPass shards metaslab number
IsGoingRefused slots shards at LastArm = NoPass shards × (HasLeafBeside slots at → ⊥)
IsGoingRefused slots shards at (LogNotEmpty groups) = NoPass shards × HasLeafBeside slots at × (0 < groups) × IsLeastOver shards at (length (arms_of slots at.slot)) groups
IsGoingRefused slots shards at NoSuch = ⊥
IsGoingRefused slots shards at (SpareBusy by) = ⊥
IsGoingRefused slots shards at (Full arms) = ⊥
IsGoingRefused slots shards at (TooSmall need have) = ⊥
IsGoingRefused slots shards at Last = ⊥
