-- The bytes of a record, part by part.
use Rattle.std.specs.Prelude.{◌≡◌, ◌+◌, ◌-◌, ◌*◌, ◌^◌, ◌<◌, ℕ, List, ◌++◌, length, Bool, true, false, Option, None, Some}
use Rattle.std.specs.List.{flat_map}
use Rattle.byteorder.specs.Endian.{big_bytes}
use Rattle.draid_names.specs.declared.arm.Arm.{Arm}
use Rattle.draid_names.specs.declared.arm.ArmAt.{ArmAt}
use Rattle.draid_names.specs.declared.arm.ArmKind.{ArmKind}
use Rattle.draid_names.specs.declared.arm.ArmKind.TheVariants as arms
use Rattle.draid_names.specs.declared.pass_kind.PassKind.{PassKind}
use Rattle.draid_names.specs.declared.pass_kind.PassKind.TheVariants.{Rebuild, Heal}
use Rattle.draid_names.specs.declared.pointer.Pointer.{Pointer}
use Rattle.draid_ranges.specs.declared.run.Run.{Run}
use Rattle.draid_record.specs.declared.limits.Limits.{Limits}
use Rattle.draid_record.specs.Grammar.{Spells}
use Rattle.draid_record.specs.Record.{ArmTold, PassTold, RecordTold, body, spaces_of}

abbrev pub run_bytes : Run → List ℕ
run_bytes r = big_bytes 8 r.first ++ big_bytes 8 (r.first + r.len - 1)

abbrev pub log_bytes : List Run → List ℕ
log_bytes runs = big_bytes 4 (length runs) ++ flat_map run_bytes runs

abbrev pub code_of : ArmKind → ℕ
code_of arms.Leaf = 0
code_of arms.Spare = 1

abbrev pub bit : Bool → ℕ
bit true = 1
bit false = 0

abbrev pub flags_of : Arm → ℕ
flags_of arm = bit arm.offline + 2 * bit arm.fresh

abbrev pub arm_bytes : ArmTold → List ℕ
arm_bytes told = big_bytes 1 (code_of told.0.kind) ++ big_bytes 8 told.0.number ++ big_bytes 1 (flags_of told.0) ++ log_bytes told.1

abbrev pub slot_bytes : List ArmTold → List ℕ
slot_bytes list = big_bytes 1 (length list) ++ flat_map arm_bytes list

abbrev pub target_bytes : ArmAt → List ℕ
target_bytes target = big_bytes 2 target.slot ++ big_bytes 1 target.arm

abbrev pub pass_code : PassKind → ℕ
pass_code Rebuild = 1
pass_code Heal = 2

abbrev pub pass_bytes : Option PassTold → List ℕ
pass_bytes None = big_bytes 1 0
pass_bytes (Some pass) =
    big_bytes 1 (pass_code pass.kind) ++ big_bytes 1 (bit pass.running) ++ big_bytes 8 pass.max ++ big_bytes 8 pass.«at» ++ big_bytes 8 pass.errors
    ++ big_bytes 2 (length pass.targets) ++ flat_map target_bytes pass.targets

abbrev pub space_bytes : Run → List ℕ
space_bytes r = big_bytes 8 r.first ++ big_bytes 8 r.len

abbrev pub block_bytes : Pointer → List ℕ
block_bytes b =
    big_bytes 8 b.object ++ big_bytes 8 b.seq ++ big_bytes 8 b.first ++ big_bytes 4 b.stripes ++ big_bytes 4 b.len ++ big_bytes 8 b.birth ++ b.digest

abbrev pub spaces_bytes : List Run → List ℕ
spaces_bytes runs = big_bytes 4 (length runs) ++ flat_map space_bytes runs

abbrev pub blocks_bytes : List Pointer → List ℕ
blocks_bytes blocks = big_bytes 4 (length blocks) ++ flat_map block_bytes blocks

-- the fields behind the length
abbrev pub body_bytes : RecordTold → List ℕ
body_bytes value =
    big_bytes 2 value.metaslab ++ big_bytes 8 value.group ++ big_bytes 2 (length value.slots) ++ flat_map slot_bytes value.slots ++ big_bytes 8 value.last_pass
    ++ pass_bytes value.pass ++ spaces_bytes (spaces_of value.blocks) ++ blocks_bytes value.blocks

-- what stands before them
abbrev pub front_bytes : ℕ → ℕ → List ℕ
front_bytes version len = big_bytes 4 1146769987 ++ big_bytes 2 version ++ big_bytes 4 len

abbrev pub record_bytes : RecordTold → List ℕ
record_bytes value = front_bytes value.version (length (body_bytes value) + 10) ++ body_bytes value

-- the bytes are those of the record, and their number fits the length
pub record IsWhole (bytes : List ℕ) (value : RecordTold) : Type 0 where
  pub bytes_are : bytes ≡ record_bytes value
  pub short : length (body_bytes value) + 10 < 2 ^ 32

-- the value is in the ranges of a record's fields: the version is the one that is asked for, and the grammar spells the
-- fields behind the length by these bytes
pub record IsRecord (limits : Limits) (value : RecordTold) : Type 0 where
  pub version_is : value.version ≡ limits.version
  pub version_small : value.version < 2 ^ 16
  pub fields_are : Spells (body limits) (body_bytes value) value
