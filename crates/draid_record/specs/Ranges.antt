-- The values that a record can spell, part by part.
use Rattle.std.specs.Prelude.{◌≡◌, ◌==◌, ◌<◌, ◌≤◌, ◌+◌, ◌-◌, ◌%◌, ◌^◌, ◌||◌, ◌&&◌, not, ⊤, ℕ, true, nat_lt, List, [], ◌∷◌, ◌++◌, length, slice_index_or, Option, None, Some}
use Rattle.draid_names.specs.Numbers.{most_held}
use Rattle.draid_names.specs.declared.numbers.TheConstants.{LONGEST_BLOCK, NUMBERS, OBJECTS}
use Rattle.draid_names.specs.declared.arm.ArmAt.{ArmAt}
use Rattle.draid_names.specs.declared.pass_kind.PassKind.{PassKind}
use Rattle.draid_names.specs.declared.pass_kind.PassKind.TheVariants.{Rebuild, Heal}
use Rattle.draid_names.specs.declared.pointer.Pointer.{Pointer}
use Rattle.draid_ranges.specs.declared.run.Run.{Run}
use Rattle.draid_record.specs.declared.limits.Limits.{Limits}
use Rattle.draid_record.specs.Record.{ArmTold, PassTold, RecordTold, are_flags, arm_count, has_leaf, limit_of, spaces_of, stands, stripes_of}
use Rattle.draid_names.specs.Arms.{least_arm, least_slot}
use Rattle.draid_record.specs.Written.{bit, code_of, flags_of}

-- runs of groups below 2^48 from `low` on, with a group between each two that is in none
abbrev pub AreRuns : ℕ → List Run → Type 0
AreRuns low [] = ⊤
AreRuns low (r ∷ rs) = (low ≤ r.first) × (0 < r.len) × (r.first + r.len ≤ NUMBERS) × AreRuns (r.first + r.len + 1) rs

-- An arm of a slot of `count` arms: a leaf where it is the last and none came before; a leaf or a spare that there
-- is, and that stands nowhere before; and no spare is offline.
pub record IsArm (limits : Limits) (before : List (List ArmTold)) (count : ℕ) (here : List ArmTold) (told : ArmTold) : Type 0 where
  pub leaf : (nat_lt (length here + 1) count || (has_leaf here || (code_of told.0.kind == 0))) ≡ true
  pub known : (nat_lt told.0.number (limit_of limits told.0.kind) && not (stands before here told.0.kind told.0.number)) ≡ true
  pub small : told.0.number < 2 ^ 64
  pub flags_are : are_flags told.0.kind (flags_of told.0) ≡ true
  pub few : length told.1 < 2 ^ 32
  pub runs_are : AreRuns 1 told.1

abbrev pub AreArms : Limits → List (List ArmTold) → ℕ → List ArmTold → List ArmTold → Type 0
AreArms limits before count here [] = ⊤
AreArms limits before count here (a ∷ rest) = IsArm limits before count here a × AreArms limits before count (here ++ a ∷ []) rest

-- one to three arms
pub record IsSlot (limits : Limits) (before : List (List ArmTold)) (list : List ArmTold) : Type 0 where
  pub some : 1 ≤ length list
  pub most : length list ≤ 3
  pub arms_are : AreArms limits before (length list) [] list

abbrev pub AreSlots : Limits → List (List ArmTold) → List (List ArmTold) → Type 0
AreSlots limits before [] = ⊤
AreSlots limits before (s ∷ rest) = IsSlot limits before s × AreSlots limits (before ++ s ∷ []) rest

-- targets that are there, ascending
abbrev pub AreTargets : List (List ArmTold) → Option ArmAt → List ArmAt → Type 0
AreTargets all before [] = ⊤
AreTargets all before (t ∷ rest) =
    (least_slot before ≤ t.slot) × (t.slot ≤ length all - 1) × (t.slot < 2 ^ 16)
    × (least_arm before t.slot ≤ t.arm) × (t.arm ≤ length (slice_index_or all t.slot []) - 1) × (t.arm < 2 ^ 8)
    × AreTargets all (Some t) rest

abbrev pub least_running : PassKind → ℕ
least_running Rebuild = 0
least_running Heal = 1

pub record IsPass (limits : Limits) (all : List (List ArmTold)) (pass : PassTold) : Type 0 where
  pub runs_if_heal : least_running pass.kind ≤ bit pass.running
  pub some_max : 1 ≤ pass.max
  pub most_max : pass.max < NUMBERS
  pub place : pass.«at» ≤ limits.stripes
  pub errors_small : pass.errors < NUMBERS
  pub few : length pass.targets ≤ arm_count all
  pub short : length pass.targets < 2 ^ 16
  pub targets_are : AreTargets all None pass.targets

abbrev pub IsPassOrNone : Limits → List (List ArmTold) → Option PassTold → Type 0
IsPassOrNone limits all None = ⊤
IsPassOrNone limits all (Some pass) = IsPass limits all pass

-- a block at or behind a stripe, within one group of the metaslab
pub record IsBlock (limits : Limits) (low : ℕ) (b : Pointer) : Type 0 where
  pub object_small : b.object < OBJECTS
  pub some_seq : 1 ≤ b.seq
  pub most_seq : b.seq < NUMBERS
  pub metaslab_is : b.metaslab ≡ limits.metaslab
  pub behind_low : low ≤ b.first
  pub inside : b.first ≤ limits.stripes - 1
  pub some_stripes : 1 ≤ b.stripes
  pub in_group : b.stripes ≤ limits.height - b.first % limits.height
  pub stripes_small : b.stripes < 2 ^ 32
  pub some_len : 1 ≤ b.len
  pub most_len : b.len ≤ LONGEST_BLOCK
  pub whole : (b.stripes == stripes_of limits b.len) ≡ true
  pub some_birth : 1 ≤ b.birth
  pub most_birth : b.birth ≤ limits.group
  pub digest_len : length b.digest ≡ 32

abbrev pub AreBlocks : Limits → ℕ → List Pointer → Type 0
AreBlocks limits low [] = ⊤
AreBlocks limits low (b ∷ rest) = IsBlock limits low b × AreBlocks limits (b.first + b.stripes) rest

-- a value in the ranges of a record
pub record IsRanged (limits : Limits) (value : RecordTold) : Type 0 where
  pub version_is : value.version ≡ limits.version
  pub version_small : value.version < 2 ^ 16
  pub metaslab_is : value.metaslab ≡ limits.metaslab
  pub metaslab_small : limits.metaslab < 2 ^ 16
  pub group_is : value.group ≡ limits.group
  pub group_small : limits.group < NUMBERS
  pub children_are : length value.slots ≡ limits.children
  pub children_few : limits.children < 2 ^ 16
  pub slots_are : AreSlots limits [] value.slots
  pub last_small : value.last_pass < NUMBERS
  pub pass_is : IsPassOrNone limits value.slots value.pass
  pub stripes_small : limits.stripes ≤ NUMBERS
  pub blocks_are : AreBlocks limits 0 value.blocks
  pub few : length value.blocks ≤ most_held limits.version
  pub few_spaces : length (spaces_of value.blocks) < 2 ^ 32
