-- A pool's own areas with what was committed, and what the next commit writes.
use Rattle.std.specs.Prelude.{◌≡◌, ◌≤◌, ◌<◌, ◌^◌, ◌⊎◌, ⊤, ℕ, false, Option, None, Some, Result, Ok, Err, option_map, replicate}
use Rattle.draid_area.specs.Area.{Content}
use Rattle.draid_record.specs.declared.fault.RecordFault.{RecordFault}
use Rattle.draid_names.specs.declared.fault.DeviceFault.{DeviceFault}
use Rattle.draid_names.specs.declared.fault.DeviceFault.TheVariants as devices
use Rattle.draid_record.specs.declared.fault.RecordFault.TheVariants as records
use Rattle.draid_record.specs.declared.fault.RecordFault.TheVariants.{Bad}
use Rattle.draid_record.specs.declared.uber.UberBody.{UberBody}
use Rattle.draid_spec.specs.declared.layout.Geometry.{Geometry}
use Rattle.draid_spec.specs.declared.layout.Props.{Props}
use Rattle.draid_uber.specs.declared.uber.Uber.{Uber}
use Rattle.draid_uber.specs.declared.uber.UberFault.{UberFault}
use Rattle.draid_uber.specs.declared.uber.UberFault.TheVariants as faults
use Rattle.draid_uber.specs.declared.uber.UberRefused.{UberRefused}
use Rattle.draid_uber.specs.declared.areas.Areas.{Areas}
use Rattle.draid_record.specs.Checks.{CheckTold, IsCheck}
use Rattle.draid_uber.specs.Checks.{count_in}
use Rattle.draid_uber.specs.Points.{told_at}
use Rattle.draid_checkpoint.specs.Check.{Point}
use Rattle.draid_uber.specs.Held.{IsHeld}
use Rattle.draid_uber.specs.Slots.{area_bytes, group_of, read_body}

abbrev pub areas_of : {A : Type 0} → Uber A → Areas A
areas_of uber = uber.areas

-- the area of the uberblock
abbrev pub area_of : {A : Type 0} → Uber A → A
area_of uber = uber.areas.uber

-- how often calls on the areas have failed
abbrev pub count_of : {A : Type 0} → (A → ℕ) → Uber A → ℕ
count_of faults uber = count_in faults uber.areas

-- what the last commit wrote; None before the first
abbrev pub kept_of : {A : Type 0} → Uber A → Option UberBody
kept_of uber = uber.kept

-- the layout, with the committed version
abbrev pub layout_of : {A : Type 0} → Uber A → Geometry
layout_of uber = uber.geometry

-- the version that the next commit writes
abbrev pub version_of : {A : Type 0} → Uber A → ℕ
version_of uber = uber.version

-- the next leaf that the next commit writes
abbrev pub next_leaf_of : {A : Type 0} → Uber A → ℕ
next_leaf_of uber = uber.next_leaf

abbrev pub with_version : Props → ℕ → Props
with_version props version = record { sector = props.sector; height = props.height; metaslabs = props.metaslabs; slices = props.slices; seed = props.seed; version = version }

abbrev pub layout_in : Geometry → ℕ → Geometry
layout_in geometry version = record {
  spec = geometry.spec;
  props = with_version geometry.props version;
  g = geometry.g;
  ndisks = geometry.ndisks;
  ngroups = geometry.ngroups;
  rows = geometry.rows;
}

-- what a commit of this group writes
abbrev pub next_of : {A : Type 0} → Uber A → ℕ → UberBody
next_of uber group = record {
  group = group;
  spec = uber.geometry.spec;
  props = with_version uber.geometry.props uber.version;
  next_leaf = uber.next_leaf;
}

-- the checkpoint
abbrev pub point_of : {A : Type 0} → Uber A → Point
point_of uber = uber.point

-- the last group in which something befell it, 0 where nothing is known to have
abbrev pub changed_of : {A : Type 0} → Uber A → ℕ
changed_of uber = uber.changed

-- what the check record of this group says, as a commit writes it
abbrev pub next_check : {A : Type 0} → Uber A → ℕ → CheckTold
next_check uber = told_at (point_of uber)

-- the parts fit together, and the area has both slots
pub record Valid {A : Type 0} (size : A → ℕ) (uber : Uber A) : Type 0 where
  pub held : IsHeld uber.kept uber.geometry uber.version uber.next_leaf
  pub long : area_bytes ≤ size uber.areas.uber
  pub spelled : (group : ℕ) → group_of uber.kept < group → group < 2 ^ 64 → IsCheck group (next_check uber group)
  pub positive : (own : ℕ) → uber.point.group ≡ Some own → 0 < own

-- an area of a new pool: zeros, all of which outlast a crash
pub record IsNewArea (x : Content) : Type 0 where
  pub bytes : x.bytes ≡ replicate area_bytes 0
  pub firm : x.firm ≡ area_bytes
  pub soft : (i : ℕ) → x.soft i ≡ false

-- how a recovery answers where this is what the bytes have for it, unless the device failed or memory ran out
abbrev pub FindsFault : UberFault → Option (Result UberBody RecordFault) → Type 0
FindsFault faults.Area chosen = ⊤
FindsFault faults.NoMemory chosen = ⊤
FindsFault faults.Empty chosen = chosen ≡ None
FindsFault (faults.Record place kind) chosen = chosen ≡ Some (Err (Bad place kind))

abbrev pub Finds : {A : Type 0} → Result (Uber A) (UberRefused A) → Option (Result UberBody RecordFault) → Type 0
Finds (Ok uber) chosen = chosen ≡ option_map read_body uber.kept
Finds (Err refused) chosen = FindsFault refused.why chosen

-- why an area told no uberblock, by what was chosen among its slots
abbrev pub IsWhy : UberFault → Result (Option (Result UberBody RecordFault)) DeviceFault → Type 0
IsWhy faults.Area chosen = chosen ≡ Err devices.Failed
IsWhy faults.NoMemory chosen = (chosen ≡ Err devices.NoMemory) ⊎ (chosen ≡ Ok (Some (Err records.NoMemory)))
IsWhy faults.Empty chosen = chosen ≡ Ok None
IsWhy (faults.Record place kind) chosen = chosen ≡ Ok (Some (Err (Bad place kind)))
