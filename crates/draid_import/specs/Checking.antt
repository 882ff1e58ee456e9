-- The check record of the group that an import finds, and its first fault.
use Rattle.std.specs.Prelude.{◌≡◌, ◌==◌, ◌+◌, ◌*◌, ◌%◌, ◌<◌, ◌≤◌, ◌⊎◌, ⊤, ℕ, List, Option, Result, Ok, Err, IsErrOf, IsSomeAnd, if◌then◌else◌, length}
use Rattle.draid_area.specs.Area.{OnTold}
use Rattle.draid_area.specs.declared.Area as areas
use Rattle.draid_rack.specs.Rack.{Shape}
use Rattle.draid_rack.specs.declared.Rack as racks
use Rattle.draid_record.specs.Checks.{CheckTold}
use Rattle.draid_record.specs.declared.fault.RecordFault.{RecordFault}
use Rattle.draid_record.specs.declared.fault.RecordFault.TheVariants.{Bad}
use Rattle.draid_record.specs.declared.fault.RecordFaultKind.{RecordFaultKind}
use Rattle.draid_record.specs.declared.fault.RecordFaultKind.TheVariants as kinds
use Rattle.draid_shelf.specs.Kits.{ChecksTold, Held, KitCounts, OnHeld}
use Rattle.draid_shard.specs.declared.shard.Shard.{Shard}
use Rattle.draid_uber.specs.Checks.{check_area, check_in, told_by}
use Rattle.draid_uber.specs.Slots.{group_of}
use Rattle.draid_uber.specs.Uber as ubers
use Rattle.draid_uber.specs.Uber.{area_of, areas_of, count_of, kept_of, layout_of, next_leaf_of, version_of}
use Rattle.draid_uber.specs.declared.uber.Uber.{Uber}
use Rattle.draid_uber.specs.declared.checks.CheckFault.{CheckFault}
use Rattle.draid_uber.specs.declared.checks.CheckFault.TheVariants as check_fault
use Rattle.draid_session.specs.State.{limit_of}
use Rattle.draid_found.specs.Drops.{HaveNamed, LackNamed}
use Rattle.draid_found.specs.Together.{AreTogether}
use Rattle.draid_pool.specs.Taking.{takes_areas}
use Rattle.draid_import.specs.Faulty.{TellsBody}
use Rattle.draid_import.specs.Found.{AreReopened, IsFoundUber, OpensAllOver}
use Rattle.draid_import.specs.declared.fault.ImportFault.{ImportFault}
use Rattle.draid_import.specs.declared.fault.ImportFault.TheVariants as fault

-- ---- what is read

-- what the area of a group's check record has for it, where a shelf holds these
abbrev pub check_held : ℕ → ChecksTold → Result CheckTold RecordFault
check_held group checks = check_in group (if group % 2 == 0 then checks.even else checks.odd).bytes

-- a shelf tells this of a group's check record
abbrev pub HoldsCheck : ℕ → Option Held → Result CheckTold RecordFault → Type 0
HoldsCheck group held answer = OnHeld held (λ x. IsSomeAnd x.checks (λ checks. check_held group checks ≡ answer))

-- so do the areas of an uberblock, of that of its group
abbrev pub OwnCheck : {A : Type 0} → areas.Ghosts A → Uber A → Result CheckTold RecordFault → Type 0
OwnCheck area uber answer = OnTold (area.told (check_area (areas_of uber) (group_of (kept_of uber)))) (λ x. check_in (group_of (kept_of uber)) x.bytes ≡ answer)

-- The areas of an uberblock were read: what is known of it but for its checkpoint is as it was, and no count fell.
pub record KeepsUber {A : Type 0} (area : areas.Ghosts A) (old new : Uber A) : Type 0 where
  pub valid : ubers.Valid area.size new
  pub told : told_by area.told (areas_of new) ≡ told_by area.told (areas_of old)
  pub uber : area_of new ≡ area_of old
  pub kept : kept_of new ≡ kept_of old
  pub layout : layout_of new ≡ layout_of old
  pub version : version_of new ≡ version_of old
  pub leaf : next_leaf_of new ≡ next_leaf_of old
  pub later : count_of area.faults old ≤ count_of area.faults new

-- ---- what it says

module _ {R A : Type 0} (tells : Result CheckTold RecordFault → Type 0) (shards : List (Shard R A)) where
  -- It has no fault, and the metaslabs have the blocks that it names, each born up to the checkpoint.
  pub record IsChecked (value : CheckTold) : Type 0 where
    pub read : tells (Ok value)
    pub have : HaveNamed shards value.group value.drops

  -- it has no fault, and tells of a checkpoint, but they lack a block which it names: this is the first
  pub record NamesLack (place : ℕ) (kind : RecordFaultKind) : Type 0 where
    pub value : CheckTold
    pub read : tells (Ok value)
    pub some : 0 < value.group
    pub i : ℕ
    pub lack : LackNamed shards value.group value.drops i
    pub place_is : place ≡ 30 + 16 * i
    pub kind_is : kind ≡ kinds.Range

  -- its first fault
  abbrev pub IsBadCheck : ℕ → RecordFaultKind → Type 0
  IsBadCheck place kind = tells (Err (Bad place kind)) ⊎ NamesLack place kind

-- An uberblock was found and all records were read, which are those of one pool; and the check record of the group that the uberblock names has this fault.
pub record CheckIsBad {R A : Type 0} (rack : racks.Ghosts R) (area : areas.Ghosts A) (held : Option Held) (leaves : ℕ → Option Shape) (counts : ℕ → KitCounts) (place : ℕ) (kind : RecordFaultKind) : Type 0 where
  pub uber : Uber A
  pub shards : List (Shard R A)
  pub found : IsFoundUber area uber
  pub body : TellsBody held uber
  pub reopened : AreReopened rack (layout_of uber) (group_of (kept_of uber)) shards
  pub over : OpensAllOver rack area (limit_of (layout_of uber)) (group_of (kept_of uber)) (next_leaf_of uber) (takes_areas held) leaves counts shards
  pub together : AreTogether shards (length shards)
  pub bad : IsBadCheck (HoldsCheck (group_of (kept_of uber)) held) shards place kind

-- ---- refusals

-- why an import is refused where the check record wasn't read
abbrev pub check_fault_of : CheckFault → ImportFault
check_fault_of check_fault.Area = fault.Shelf
check_fault_of check_fault.NoMemory = fault.NoMemory
check_fault_of (check_fault.Record place kind) = fault.Check place kind

-- it isn't for the check record
abbrev pub NoCheck : {T : Type 0} → Result T ImportFault → Type 0
NoCheck result = (place : ℕ) (kind : RecordFaultKind) → IsErrOf result (fault.Check place kind) → ⊥

-- it is for the check record, a device or want of memory
abbrev pub IsCheckFault : ImportFault → Type 0
IsCheckFault fault.NoPool = ⊥
IsCheckFault (fault.Record metaslab place kind) = ⊥
IsCheckFault (fault.Check place kind) = ⊤
IsCheckFault fault.Shelf = ⊤
IsCheckFault fault.NoMemory = ⊤
