-- What the calls on a pass of one metaslab answer, and why.
use Rattle.std.specs.Prelude.{◌≡◌, ◌≤◌, ◌+◌, ◌*◌, ◌⊎◌, ⊤, ℕ, false, [], Option, None, Some, vec_capacity}
use Rattle.draid_names.specs.declared.numbers.TheConstants.{LAST_NUMBER}
use Rattle.draid_names.specs.declared.pass_kind.PassKind.{PassKind}
use Rattle.draid_names.specs.declared.pass_kind.PassKind.TheVariants.{Rebuild, Heal}
use Rattle.draid_machine.specs.State as machine
use Rattle.draid_machine.specs.Step.{ReadyStep}
use Rattle.draid_entries.specs.History.{owed_of, stored_of}
use Rattle.draid_pass.specs.declared.pass.Pass.{Pass}
use Rattle.draid_plans.specs.Targets as plans
use Rattle.draid_plans.specs.Targets.{HasTargetRoom}
use Rattle.draid_slots.specs.Table.{SlotTable}
use Rattle.draid_shard.specs.Looks.{HasTickets, IsGreatestBirth}
use Rattle.draid_shard.specs.Rooms.{IsWornFor}
use Rattle.draid_shard.specs.States.{IsIn}
use Rattle.draid_shard.specs.declared.shard.Shard.{Shard}
use Rattle.draid_passing.specs.declared.fault.NotYet.{NotYet}
use Rattle.draid_passing.specs.declared.fault.PlanFault.{PlanFault}
use Rattle.draid_passing.specs.declared.planning.Lists.{Lists}
use Rattle.draid_passing.specs.declared.fault.PlanFault.TheVariants.{PassRunning, Nothing, Worn, Last, NoMemory}

-- ---- planning

-- a pass asks for its planning and for two events more
abbrev pub plan_events : ℕ
plan_events = 3

-- no number is left for a pass, or for a rebuild no group behind the open one
abbrev pub IsLast : {R A : Type 0} → Shard R A → PassKind → Type 0
IsLast shard kind = (LAST_NUMBER ≤ shard.last_pass) ⊎ ((kind ≡ Rebuild) × (shard.open_group ≡ LAST_NUMBER))

-- a rebuild that is planned now has no target: a fresh arm that is a spare, or a leaf that isn't offline
abbrev pub LacksTarget : SlotTable → PassKind → Type 0
LacksTarget slots kind = (kind ≡ Rebuild) × (plans.targets_of slots [] Rebuild ≡ [])

-- room for the targets, and for the leaves of all arms
pub record HasLists (slots : SlotTable) (lists : Lists) : Type 0 where
  pub targets : HasTargetRoom slots lists.targets
  pub flushed : 3 * slots.geometry.spec.children ≤ vec_capacity lists.flushed

-- the last group that a pass of a kind makes good: the one behind the open group, or the committed one
abbrev pub IsMaxFor : PassKind → ℕ → ℕ → ℕ → Type 0
IsMaxFor Rebuild open_group committed max = max ≡ open_group + 1
IsMaxFor Heal open_group committed max = (1 ≤ max) × (max ≤ committed + 1) × (1 ≤ committed → max ≡ committed)

-- why no pass is planned: the first of these that holds
abbrev pub IsPlanRefused : {R A : Type 0} → Shard R A → PassKind → PlanFault → Type 0
IsPlanRefused shard kind (PassRunning number) = (pass : Pass) × (shard.pass ≡ Some pass) × (number ≡ pass.number)
IsPlanRefused shard kind Nothing = (shard.pass ≡ None) × LacksTarget shard.slots kind
IsPlanRefused shard kind (Worn events) =
    (shard.pass ≡ None) × (LacksTarget shard.slots kind → ⊥) × IsWornFor shard plan_events × (events ≡ stored_of shard.history + owed_of shard.history)
IsPlanRefused shard kind Last = (shard.pass ≡ None) × (LacksTarget shard.slots kind → ⊥) × (IsWornFor shard plan_events → ⊥) × IsLast shard kind
IsPlanRefused shard kind NoMemory = ⊤

-- ---- a planned rebuild waits

pub record IsPlanned (pass : Pass) : Type 0 where
  pub rebuild : pass.kind ≡ Rebuild
  pub waits : pass.running ≡ false

-- the last group that a pass makes good
abbrev pub IsMaxOf : Option Pass → ℕ → Type 0
IsMaxOf None max = max ≡ 0
IsMaxOf (Some pass) max = max ≡ pass.max

-- for what it waits: that open writes end, and that the committed group has each birth, and the one before its last group
pub record WaitsFor {R A : Type 0} (shard : Shard R A) (why : NotYet) : Type 0 where
  pub tickets : (w : machine.State) → IsIn shard w → HasTickets w.core why.tickets
  pub birth : (w : machine.State) → IsIn shard w → IsGreatestBirth w.core why.birth
  pub committed : why.committed ≡ shard.committed

-- it may not run in any state for which the shard stands
abbrev pub MustWait : {R A : Type 0} → Shard R A → Type 0
MustWait shard = (w v : machine.State) → IsIn shard w → ReadyStep w v → ⊥
