-- A pass that is planned.
use Rattle.std.specs.Prelude.{◌≡◌, ◌+◌, ◌<◌, ◌&&◌, not, ℕ, Bool, List, Some}
use Rattle.draid_names.specs.declared.arm.ArmAt.{ArmAt}
use Rattle.draid_names.specs.declared.pass_kind.PassKind.{PassKind}
use Rattle.draid_names.specs.declared.pass_kind.PassKind.TheVariants.{Rebuild, Heal}
use Rattle.draid_machine.specs.After.{plan_state}
use Rattle.draid_machine.specs.Arms as arms
use Rattle.draid_machine.specs.Names.{is_heal}
use Rattle.draid_machine.specs.State.{State}
use Rattle.draid_pass.specs.declared.pass.Pass.{Pass}
use Rattle.draid_slots.specs.States.{HasSlots, pass_in}
use Rattle.draid_slots.specs.Table.{SlotTable, IsThere, room_at}
use Rattle.draid_plans.specs.Layout.{layout_with}
use Rattle.draid_plans.specs.Logs.{has_place}
use Rattle.draid_plans.specs.Targets.{HasTargetRoom, NamedOnce, SuitKind, targets_of}

-- a rebuild wants room for one change of each log
abbrev pub HasLogRoom : SlotTable → PassKind → Type 0
HasLogRoom slots Rebuild = (at : ArmAt) → IsThere slots at → 0 < room_at slots at
HasLogRoom slots Heal = Unit {0}

-- The pass has all targets of its kind, and stands at the first stripe without errors. A scrub runs, a rebuild waits. There is room for more
-- targets.
pub record IsPlanned (slots : SlotTable) (marks : List (List Bool)) (kind : PassKind) (number max : ℕ) (pass : Pass) : Type 0 where
  pub number_is : pass.number ≡ number
  pub kind_is : pass.kind ≡ kind
  pub targets_are : pass.targets.items ≡ targets_of slots marks kind
  pub max_is : pass.max ≡ max
  pub first : pass.at ≡ 0
  pub no_errors : pass.errors ≡ 0
  pub running_is : pass.running ≡ is_heal kind
  pub room : HasTargetRoom slots pass.targets

-- a rebuild's targets have their logs filled
abbrev pub is_filled : PassKind → List ArmAt → ArmAt → Bool
is_filled kind targets at = not (is_heal kind) && has_place targets at

-- the last group that a pass makes good: a rebuild the one behind the open group, a scrub the committed one
abbrev pub max_of : State → PassKind → ℕ
max_of w Rebuild = w.open_group + 1
max_of w Heal = w.committed

-- What the machine's Plan makes of a state that has the old slots: it has the new ones, and this pass.
pub record Plans (w : State) (old new : SlotTable) (kind : PassKind) (pass : Pass) : Type 0 where
  pub slots_are : HasSlots new (plan_state w kind (arms.targets_of (layout_with old) w.core kind)).core
  pub pass_is : (plan_state w kind (arms.targets_of (layout_with old) w.core kind)).core.pass ≡ Some (pass_in new pass)

-- So it is of each such state in which the arms are marked as the kind asks, where the pass has the next number and the max of its kind.
abbrev pub PlansAll : SlotTable → SlotTable → List (List Bool) → PassKind → Pass → Type 0
PlansAll old new marks kind pass =
    (w : State) → NamedOnce old → HasSlots old w.core → SuitKind old marks kind w.core → pass.number ≡ w.core.last + 1 → pass.max ≡ max_of w kind
    → Plans w old new kind pass
