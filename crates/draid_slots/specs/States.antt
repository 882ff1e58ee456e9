-- The arms of the slots and the pass, as a state of the metaslab has them.
use Rattle.std.specs.Prelude.{◌≡◌, ◌==◌, ◌≢◌, ◌<◌, ◌≤◌, ◌+◌, ◌⊎◌, ⊤, ℕ, List, [], ◌∷◌, Option, Some, None, All, Contains, length, map, if◌then◌else◌}
use Rattle.draid_machine.specs.Names.{named}
use Rattle.draid_names.specs.Arms.{least_arm, least_slot}
use Rattle.draid_names.specs.declared.arm.Arm.{Arm}
use Rattle.draid_names.specs.declared.arm.ArmAt.{ArmAt}
use Rattle.draid_names.specs.declared.arm.ArmKind.{ArmKind}
use Rattle.draid_names.specs.declared.arm.ArmKind.TheVariants as kind
use Rattle.draid_pass.specs.declared.pass.Pass.{Pass}
use Rattle.draid_slots.specs.Table.{SlotTable, arm_at, arms_of, is_logged}
use Rattle.draid_slots.specs.declared.slot.Detached.{Detached}
use Rattle.draid_machine.specs.declared.names.ArmName.{ArmName}
use Rattle.draid_machine.specs.declared.names.ArmName.TheVariants.{Leaf, Spare}
use Rattle.draid_machine.specs.State as machine

-- an arm by what it is
abbrev pub name_of : Arm → ArmName
name_of arm = named arm.kind arm.number

-- what a state has of an arm that is there
abbrev pub arm_in : SlotTable → ArmAt → Arm → machine.Arm
arm_in slots at arm = record { offline = arm.offline; fresh = arm.fresh; log = is_logged slots at; gone = None }

-- what it has of an arm that was detached
pub record IsGone (gone : Detached) (found : Option machine.Arm) : Type 0 where
  pub arm : machine.Arm
  pub there : found ≡ Some arm
  pub offline : arm.offline ≡ gone.offline
  pub by : arm.gone ≡ Some (record { slot = gone.slot; group = gone.group })

-- an arm that is there has this name
pub record HasArm (slots : SlotTable) (n : ArmName) : Type 0 where
  pub at : ArmAt
  pub arm : Arm
  pub there : arm_at slots at ≡ Some arm
  pub name_is : name_of arm ≡ n

-- one that was detached has it
pub record WasArm (slots : SlotTable) (n : ArmName) : Type 0 where
  pub gone : Detached
  pub among : Contains slots.detached gone
  pub name_is : named gone.kind gone.number ≡ n

-- a state has just the arms of the slots, in their order, and those whose detachment isn't committed
pub record HasSlots (slots : SlotTable) (q : machine.Core) : Type 0 where
  pub order : (slot : ℕ) → q.order slot ≡ map name_of (arms_of slots slot)
  pub arms : (at : ArmAt) (arm : Arm) → arm_at slots at ≡ Some arm → q.arm (name_of arm) ≡ Some (arm_in slots at arm)
  pub detached : (gone : Detached) → Contains slots.detached gone → IsGone gone (q.arm (named gone.kind gone.number))
  pub only : (n : ArmName) → q.arm n ≢ None → HasArm slots n ⊎ WasArm slots n

-- ---- the pass

-- the names of arms at these places
abbrev pub names_at : SlotTable → List ArmAt → List ArmName
names_at slots [] = []
names_at slots (at ∷ ats) = elim (arm_at slots at) as (λ o. List ArmName) [ None ↦ names_at slots ats | Some arm ↦ name_of arm ∷ names_at slots ats ]

abbrev pub pass_in : SlotTable → Pass → machine.Pass
pass_in slots p = record {
  number = p.number;
  kind = p.kind;
  targets = names_at slots p.targets.items;
  max = p.max;
  next = p.at;
  errors = p.errors;
  running = p.running;
}

-- places that ascend by slot and arm, behind one before
abbrev pub AscendBehind : Option ArmAt → List ArmAt → Type 0
AscendBehind before [] = ⊤
AscendBehind before (t ∷ rest) = (least_slot before ≤ t.slot) × (least_arm before t.slot ≤ t.arm) × AscendBehind (Some t) rest

-- the pass has the last number, and its targets are arms of the slots
pub record IsCurrent (slots : SlotTable) (last : ℕ) (pass : Pass) : Type 0 where
  pub number : pass.number ≡ last
  pub targets : All (λ (place : ArmAt). place.arm < length (arms_of slots place.slot)) pass.targets.items

-- The pass has the last number, and makes good some group. Its targets are arms of the slots, ascending.
pub record HoldsPass (slots : SlotTable) (last : ℕ) (pass : Pass) : Type 0 where
  pub current : IsCurrent slots last pass
  pub ascending : AscendBehind None pass.targets.items
  pub some_max : 1 ≤ pass.max
