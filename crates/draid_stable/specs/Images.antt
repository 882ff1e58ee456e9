-- The image that a record says.
use Rattle.std.specs.Prelude.{◌≡◌, ◌<◌, ℕ, Bool, true, false, List, [], map, find, Option, Some, None, All, IsSome, slice_index_or}
use Rattle.std.specs.List.{flat_map, list_any}
use Rattle.std.specs.Option.{option_map}
use Rattle.draid_names.specs.declared.arm.ArmAt.{ArmAt}
use Rattle.draid_names.specs.declared.arm.ArmKind.TheVariants as kind
use Rattle.draid_names.specs.declared.pointer.Pointer.{Pointer}
use Rattle.draid_ranges.specs.Runs.{has_in}
use Rattle.draid_machine.specs.declared.names.Key.{Key}
use Rattle.draid_machine.specs.declared.names.ArmName.{ArmName}
use Rattle.draid_machine.specs.declared.names.ArmName.TheVariants as name
use Rattle.draid_machine.specs.declared.names.Held.{Held}
use Rattle.draid_machine.specs.Names.{name_eq}
use Rattle.draid_machine.specs.State as state
use Rattle.draid_machine.specs.State.{Image}
use Rattle.draid_entries.specs.Listed.{has_key, held_of}
use Rattle.draid_record.specs.Record.{ArmTold, PassTold, RecordTold}
use Rattle.draid_slots.specs.States as slots

-- ---- blocks: each is live
abbrev pub held_by : List Pointer → Key → Option Held
held_by blocks key = option_map held_of (find (has_key key) blocks)

-- ---- arms: none is detached
abbrev pub name_of : ArmTold → ArmName
name_of told = slots.name_of told.0

abbrev pub arm_of : ArmTold → state.Arm
arm_of told = record { offline = told.0.offline; fresh = told.0.fresh; log = has_in told.1; gone = None }

abbrev pub has_name : ArmName → ArmTold → Bool
has_name arm told = name_eq (name_of told) arm

-- the arms of all slots, one after another
abbrev pub all_arms : List (List ArmTold) → List ArmTold
all_arms slots = flat_map (λ (slot : List ArmTold). slot) slots

abbrev pub arm_by : List (List ArmTold) → ArmName → Option state.Arm
arm_by slots arm = option_map arm_of (find (has_name arm) (all_arms slots))

abbrev pub order_by : List (List ArmTold) → ℕ → List ArmName
order_by slots slot = map name_of (slice_index_or slots slot [])

-- ---- the pass: its number is the last one, and its targets are named by their places
abbrev pub none_told : ArmTold
none_told = (record { kind = kind.Leaf; number = 0; offline = false; fresh = false }, [])

abbrev pub target_of : List (List ArmTold) → ArmAt → ArmName
target_of slots place = name_of (slice_index_or (slice_index_or slots place.slot []) place.arm none_told)

abbrev pub pass_of : RecordTold → PassTold → state.Pass
pass_of value pass = record {
  number = value.last_pass;
  kind = pass.kind;
  targets = map (target_of value.slots) pass.targets;
  max = pass.max;
  next = pass.«at»;
  errors = pass.errors;
  running = pass.running;
}

-- ---- the whole
abbrev pub image_by : RecordTold → Image
image_by value = record {
  group = value.group;
  version = value.version;
  core = record {
    held = held_by value.blocks;
    arm = arm_by value.slots;
    order = order_by value.slots;
    pass = option_map (pass_of value) value.pass;
    last = value.last_pass;
  };
}

-- the leaves of an image have numbers below one
abbrev pub LeavesBelow : ℕ → Image → Type 0
LeavesBelow next image = (leaf : ℕ) → IsSome (image.core.arm (name.Leaf leaf)) → leaf < next

-- ---- where a list says just what a table has

-- each arm of the slots is that of the table, and the table has no other
pub record SaysArms (slots : List (List ArmTold)) (table : ArmName → Option state.Arm) : Type 0 where
  pub each : All (λ told. table (name_of told) ≡ Some (arm_of told)) (all_arms slots)
  pub all : (arm : ArmName) → IsSome (table arm) → list_any (has_name arm) (all_arms slots) ≡ true
