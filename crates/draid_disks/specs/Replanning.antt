-- A pass goes on where an arm has come: a rebuild is planned again, and a scrub loses the targets that came to lie elsewhere.
use Rattle.std.specs.Prelude.{◌≡◌, ◌+◌, ◌<◌, ◌≤◌, ℕ, Bool, true, List, Option, Some, None, option_map, if◌then◌else◌}
use Rattle.draid_names.specs.declared.arm.Arm.{Arm}
use Rattle.draid_names.specs.declared.arm.ArmAt.{ArmAt}
use Rattle.draid_names.specs.declared.numbers.TheConstants.{LAST_NUMBER}
use Rattle.draid_names.specs.declared.pass_kind.PassKind.TheVariants.{Rebuild, Heal}
use Rattle.draid_machine.specs.declared.names.ArmName.{ArmName}
use Rattle.draid_machine.specs.After as after
use Rattle.draid_machine.specs.State as machine
use Rattle.draid_pass.specs.declared.pass.Pass.{Pass}
use Rattle.draid_plans.specs.Layout.{layout_with}
use Rattle.draid_plans.specs.Targets.{NamedOnce}
use Rattle.draid_shard.specs.Fits.{is_rebuild}
use Rattle.draid_slots.specs.declared.moved.Moved.{Moved}
use Rattle.draid_slots.specs.Changes.{IsSame}
use Rattle.draid_slots.specs.Marks.{is_marked}
use Rattle.draid_slots.specs.States.{HasSlots, name_of, pass_in}
use Rattle.draid_slots.specs.Table.{SlotTable, IsThere, arm_at, room_at}
use Rattle.draid_disks.specs.Renewing.{is_renewed, moved_below}

-- ---- which arms moved

abbrev pub is_moved : SlotTable → Moved → Arm → Bool
is_moved slots moved arm = is_renewed (moved_below moved slots.geometry.spec.spares) arm

-- just those are marked
abbrev pub MarksMoved : SlotTable → Moved → List (List Bool) → Type 0
MarksMoved slots moved marks = (at : ArmAt) (arm : Arm) → arm_at slots at ≡ Some arm → is_marked marks at.slot at.arm ≡ is_moved slots moved arm

-- just their names pass a test
abbrev pub PassesMoved : SlotTable → Moved → (ArmName → Bool) → Type 0
PassesMoved slots moved test = (at : ArmAt) (arm : Arm) → arm_at slots at ≡ Some arm → test (name_of arm) ≡ is_moved slots moved arm

-- ---- what a pass asks for as an arm comes

-- a rebuild, if there is one, can be planned again: there is a number after the last, and a group after the open one
abbrev pub MayReplan : Option Pass → ℕ → ℕ → Type 0
MayReplan pass last open_group = is_rebuild pass ≡ true → (last < LAST_NUMBER) × (open_group < LAST_NUMBER)

-- how many reserved events an attachment uses: its own, and where a rebuild runs one more, which is owed once it is planned again
abbrev pub attach_events : Option Pass → ℕ
attach_events None = 1
attach_events (Some p) = elim p.kind as (λ k. ℕ) [ Rebuild ↦ if p.running then 2 else 1 | Heal ↦ 1 ]

-- each log has room for a change
abbrev pub LogsHaveOne : SlotTable → Type 0
LogsHaveOne slots = (at : ArmAt) → IsThere slots at → 0 < room_at slots at

-- ---- what becomes of it

-- Arms and detachments are as they were, and of each log at most one change was made.
pub record Relogs (old new : SlotTable) : Type 0 where
  pub same : IsSame old new
  pub arms_stay : new.arms ≡ old.arms
  pub detached_stay : new.detached ≡ old.detached
  pub room : (at : ArmAt) → room_at old at ≤ room_at new at + 1

-- nothing came of it, and there is no pass
pub record NoReplan (old new : SlotTable) (now : Option Pass) : Type 0 where
  pub same : new ≡ old
  pub none : now ≡ None

-- a state has the slots, the pass, and the number of the last pass
pub record HasPass (slots : SlotTable) (pass : Option Pass) (last : ℕ) (q : machine.Core) : Type 0 where
  pub slots_are : HasSlots slots q
  pub pass_is : q.pass ≡ option_map (pass_in slots) pass
  pub last_is : q.last ≡ last

-- what the machine makes of the pass of a state that has the old slots and pass has the new ones
abbrev pub ReplansAll : Moved → ℕ → SlotTable → Option Pass → ℕ → SlotTable → Option Pass → ℕ → Type 0
ReplansAll moved open_group old before last new now number =
    (w : machine.State) (test : ArmName → Bool) → NamedOnce old → w.open_group ≡ open_group → PassesMoved old moved test → HasPass old before last w.core
    → HasPass new now number (after.replan (layout_with old) w test w.core.pass).core
