use Rattle.std.specs.Prelude.{◌≡◌, ◌<◌, ◌≤◌, ℕ, Bool, false, true, length, List, [], None, Option, Some, IsSome, IsSomeAnd, option_and_then, option_map, slice_index_or, replicate, ◌==◌, if◌then◌else◌}
use Rattle.std.specs.declared.vec.Vec.{Vec}
use Rattle.std.specs.declared.alloc.Global.{Global}
use Rattle.draid_faults.specs.declared.calls.Calls.{Calls}
use Rattle.draid_faults.specs.declared.crash.CrashRule.{CrashRule}
use Rattle.draid_faults.specs.Calls.{failing_calls, is_fused, next_call}
use Rattle.draid_spec.specs.declared.layout.Geometry.{Geometry}
use Rattle.draid_rack.specs.Rack.{Shape, Told, OnTold}
use Rattle.draid_rack.specs.Memory.{KeepsFlushed, LeavesByRule, calls_of, faults_of_memory, shape_of_memory, told_by_memory}
use Rattle.draid_rack.specs.declared.memory.MemoryRack.{MemoryRack}
use Rattle.draid_rack.specs.Moments as rack
use Rattle.draid_area.specs.Area.{Content}
use Rattle.draid_area.specs.Moments as moments
use Rattle.draid_area.specs.Memory as device
use Rattle.draid_area.specs.declared.memory.MemoryArea.{MemoryArea}
use Rattle.draid_shelf.specs.Shelf.{HasLeavesOf, most_metaslabs}
use Rattle.draid_shelf.specs.Kits.{Both, CheckCounts, Held, IsNewArea, IsNewRack, KitCounts, checks_of, kit_of, uber_bytes}
use Rattle.draid_shelf.specs.declared.devices.Devices.{Devices}

-- the racks and the areas on their places
abbrev pub Racks : Type 0
Racks = List (Option MemoryRack)

abbrev pub Areas : Type 0
Areas = List (Option MemoryArea)

abbrev pub rack_at : Racks → ℕ → Option MemoryRack
rack_at racks m = slice_index_or racks m None

abbrev pub area_at : Areas → ℕ → Option MemoryArea
area_at areas m = slice_index_or areas m None

abbrev pub shape_at : Racks → ℕ → Option Shape
shape_at racks m = option_map shape_of_memory (rack_at racks m)

abbrev pub held_at : Racks → ℕ → Option Told
held_at racks m = option_and_then told_by_memory (rack_at racks m)

abbrev pub content_of : Option MemoryArea → Option Content
content_of area = option_and_then device.told_by_memory area

abbrev pub counts_by : Option MemoryRack → Option ℕ → ℕ
counts_by None who = 0
counts_by (Some rack) who = faults_of_memory rack who

-- how often calls on the rack that is held have failed
abbrev pub counts_at : Racks → ℕ → Option ℕ → ℕ
counts_at racks m = counts_by (rack_at racks m)

abbrev pub area_count : Option MemoryArea → ℕ
area_count None = 0
area_count (Some area) = device.faults_of_memory area

-- what these devices tell
abbrev pub held_by : Devices → Held
held_by devices = record {
  uber = content_of devices.uber;
  checks = checks_of (content_of devices.check_even) (content_of devices.check_odd);
  kits = λ m. kit_of (held_at devices.racks m) (content_of (area_at devices.evens m)) (content_of (area_at devices.odds m));
}

abbrev pub kit_counts : Devices → ℕ → KitCounts
kit_counts devices m = record {
  rack = counts_at devices.racks m;
  even = area_count (area_at devices.evens m);
  odd = area_count (area_at devices.odds m);
}

abbrev pub check_counts : Devices → CheckCounts
check_counts devices = record { even = area_count devices.check_even; odd = area_count devices.check_odd }

-- the list of a device, and that of a metaslab's
abbrev pub list_of : Option (Vec ℕ Global) → List ℕ
list_of None = []
list_of (Some list) = list.items

abbrev pub list_at : List (Option (Vec ℕ Global)) → ℕ → List ℕ
list_at lists m = list_of (slice_index_or lists m None)

-- The calls of a device as it is made are numbered from 0. Those of this list fail, and a fuse is in or not.
pub record Begins (failing : List ℕ) (fused : Bool) (calls : Calls) : Type 0 where
  pub next : next_call calls ≡ 0
  pub list : failing_calls calls ≡ failing
  pub fuse : is_fused calls ≡ fused

-- the same calls with a fuse, or without one
pub record PutsFuse (fused : Bool) (old new : Calls) : Type 0 where
  pub next : next_call new ≡ next_call old
  pub list : failing_calls new ≡ failing_calls old
  pub fuse : is_fused new ≡ fused

-- a rack as it is made for a metaslab
pub record IsMade (geometry : Geometry) (failing : List ℕ) (fused : Bool) (rack : MemoryRack) : Type 0 where
  pub calls : Begins failing fused (calls_of rack)
  pub leaves : HasLeavesOf geometry (shape_of_memory rack)
  pub told : OnTold (told_by_memory rack) (IsNewRack geometry)
  pub counts : (who : Option ℕ) → faults_of_memory rack who ≡ 0

-- an area as it is made of these bytes
pub record IsMadeArea (bytes failing : List ℕ) (fused : Bool) (x : MemoryArea) : Type 0 where
  pub calls : Begins failing fused (device.calls_of x)
  pub size : device.size_of_memory x ≡ length bytes
  pub told : IsSomeAnd (device.told_by_memory x) (IsNewArea bytes)
  pub count : device.faults_of_memory x ≡ 0

-- racks were made for the metaslabs below a number
pub record AreMade (geometry : Geometry) (lists : ℕ → List ℕ) (fused : Bool) (upto : ℕ) (racks : Racks) : Type 0 where
  pub there : (m : ℕ) → m < upto → IsSomeAnd (rack_at racks m) (IsMade geometry (lists m) fused)
  pub no_other : (m : ℕ) → upto ≤ m → rack_at racks m ≡ None

-- empty areas were made for the metaslabs below a number
pub record AreEmpty (lists : ℕ → List ℕ) (fused : Bool) (upto : ℕ) (areas : Areas) : Type 0 where
  pub there : (m : ℕ) → m < upto → IsSomeAnd (area_at areas m) (IsMadeArea [] (lists m) fused)
  pub no_other : (m : ℕ) → upto ≤ m → area_at areas m ≡ None

-- what a crash by this rule left of a rack, whose fuse is out
pub record LeftRack (rule : CrashRule) (x y : MemoryRack) : Type 0 where
  pub left : LeavesByRule rule x y
  pub calls : PutsFuse false (calls_of x) (calls_of y)

pub record LeftArea (rule : CrashRule) (x y : MemoryArea) : Type 0 where
  pub left : device.LeavesByRule rule x y
  pub calls : PutsFuse false (device.calls_of x) (device.calls_of y)

-- a rack after a crash
pub record CrashedRack (rule : CrashRule) (x y : Option MemoryRack) : Type 0 where
  pub by_rule : Both (LeftRack rule) x y
  pub told : Both rack.IsCrashOutcome (option_and_then told_by_memory x) (option_and_then told_by_memory y)
  pub shape : option_map shape_of_memory y ≡ option_map shape_of_memory x
  pub counts : (who : Option ℕ) → counts_by y who ≡ counts_by x who

-- an area after a crash
pub record CrashedArea (rule : CrashRule) (x y : Option MemoryArea) : Type 0 where
  pub by_rule : Both (LeftArea rule) x y
  pub told : Both moments.IsCrashOutcome (content_of x) (content_of y)
  pub count : area_count y ≡ area_count x

-- the racks below a number had a crash, and no other was changed
pub record CrashesRacks (rule : CrashRule) (upto : ℕ) (old new : Racks) : Type 0 where
  pub crashed : (m : ℕ) → m < upto → CrashedRack rule (rack_at old m) (rack_at new m)
  pub same : (m : ℕ) → upto ≤ m → rack_at new m ≡ rack_at old m

-- the same of areas
pub record CrashesAreas (rule : CrashRule) (upto : ℕ) (old new : Areas) : Type 0 where
  pub crashed : (m : ℕ) → m < upto → CrashedArea rule (area_at old m) (area_at new m)
  pub same : (m : ℕ) → upto ≤ m → area_at new m ≡ area_at old m

-- all devices that are held had a crash by this rule
pub record CrashesAll (rule : CrashRule) (old new : Devices) : Type 0 where
  pub racks : CrashesRacks rule most_metaslabs old.racks new.racks
  pub evens : CrashesAreas rule most_metaslabs old.evens new.evens
  pub odds : CrashesAreas rule most_metaslabs old.odds new.odds
  pub check_even : CrashedArea rule old.check_even new.check_even
  pub check_odd : CrashedArea rule old.check_odd new.check_odd
  pub uber : CrashedArea rule old.uber new.uber

-- a rack that was given a fuse
pub record FusesRack (x y : MemoryRack) : Type 0 where
  pub flushed : KeepsFlushed x y
  pub calls : PutsFuse true (calls_of x) (calls_of y)

pub record FusesArea (x y : MemoryArea) : Type 0 where
  pub calls : PutsFuse true (device.calls_of x) (device.calls_of y)

-- what is told of a rack and of an area, its shape and its counts stay
pub record KeepsRack (x y : Option MemoryRack) : Type 0 where
  pub told : option_and_then told_by_memory y ≡ option_and_then told_by_memory x
  pub shape : option_map shape_of_memory y ≡ option_map shape_of_memory x
  pub counts : (who : Option ℕ) → counts_by y who ≡ counts_by x who

pub record KeepsArea (x y : Option MemoryArea) : Type 0 where
  pub told : content_of y ≡ content_of x
  pub size : option_map device.size_of_memory y ≡ option_map device.size_of_memory x
  pub count : area_count y ≡ area_count x

abbrev pub KeepsRacks : Racks → Racks → Type 0
KeepsRacks old new = (m : ℕ) → KeepsRack (rack_at old m) (rack_at new m)

abbrev pub KeepsAreas : Areas → Areas → Type 0
KeepsAreas old new = (m : ℕ) → KeepsArea (area_at old m) (area_at new m)

-- the same of all devices
pub record KeepsAll (old new : Devices) : Type 0 where
  pub racks : KeepsRacks old.racks new.racks
  pub evens : KeepsAreas old.evens new.evens
  pub odds : KeepsAreas old.odds new.odds
  pub check_even : KeepsArea old.check_even new.check_even
  pub check_odd : KeepsArea old.check_odd new.check_odd
  pub uber : KeepsArea old.uber new.uber

-- a rack that was given a fuse, where it is there
pub record FusedRack (x y : Option MemoryRack) : Type 0 where
  pub by_fuse : Both FusesRack x y
  pub kept : KeepsRack x y

pub record FusedArea (x y : Option MemoryArea) : Type 0 where
  pub by_fuse : Both FusesArea x y
  pub kept : KeepsArea x y

-- the racks below a number were given a fuse, and no other was changed
pub record FusesRacks (upto : ℕ) (old new : Racks) : Type 0 where
  pub fused : (m : ℕ) → m < upto → FusedRack (rack_at old m) (rack_at new m)
  pub same : (m : ℕ) → upto ≤ m → rack_at new m ≡ rack_at old m

-- the same of areas
pub record FusesAreas (upto : ℕ) (old new : Areas) : Type 0 where
  pub fused : (m : ℕ) → m < upto → FusedArea (area_at old m) (area_at new m)
  pub same : (m : ℕ) → upto ≤ m → area_at new m ≡ area_at old m

-- all devices that are held were given a fuse
pub record FusesAll (old new : Devices) : Type 0 where
  pub racks : FusesRacks most_metaslabs old.racks new.racks
  pub evens : FusesAreas most_metaslabs old.evens new.evens
  pub odds : FusesAreas most_metaslabs old.odds new.odds
  pub check_even : FusedArea old.check_even new.check_even
  pub check_odd : FusedArea old.check_odd new.check_odd
  pub uber : FusedArea old.uber new.uber

-- nothing is held
pub record HoldsNothing (devices : Devices) : Type 0 where
  pub racks : (m : ℕ) → rack_at devices.racks m ≡ None
  pub evens : (m : ℕ) → area_at devices.evens m ≡ None
  pub odds : (m : ℕ) → area_at devices.odds m ≡ None
  pub check_even : devices.check_even ≡ None
  pub check_odd : devices.check_odd ≡ None
  pub uber : devices.uber ≡ None

-- the devices of a metaslab are held, with sectors of this length
pub record HoldsKit (devices : Devices) (m sector : ℕ) : Type 0 where
  pub rack : IsSomeAnd (rack_at devices.racks m) (λ rack. (shape_of_memory rack).bytes ≡ sector)
  pub even : IsSome (area_at devices.evens m)
  pub odd : IsSome (area_at devices.odds m)
  pub place : m < most_metaslabs

-- the areas of the check records are held
pub record HoldsChecks (devices : Devices) : Type 0 where
  pub even : IsSome devices.check_even
  pub odd : IsSome devices.check_odd

-- these devices are now on the places of a metaslab, and all others are the same as before
pub record PutsKit (m : ℕ) (rack : Option MemoryRack) (even odd : Option MemoryArea) (old new : Devices) : Type 0 where
  pub racks : (q : ℕ) → rack_at new.racks q ≡ (if q == m then rack else rack_at old.racks q)
  pub evens : (q : ℕ) → area_at new.evens q ≡ (if q == m then even else area_at old.evens q)
  pub odds : (q : ℕ) → area_at new.odds q ≡ (if q == m then odd else area_at old.odds q)
  pub check_even : new.check_even ≡ old.check_even
  pub check_odd : new.check_odd ≡ old.check_odd
  pub uber : new.uber ≡ old.uber

-- the same of the other areas
pub record PutsAreas (check_even check_odd uber : Option MemoryArea) (old new : Devices) : Type 0 where
  pub racks : new.racks ≡ old.racks
  pub evens : new.evens ≡ old.evens
  pub odds : new.odds ≡ old.odds
  pub even_is : new.check_even ≡ check_even
  pub odd_is : new.check_odd ≡ check_odd
  pub uber_is : new.uber ≡ uber

-- devices as they are made, of which the calls of these lists fail
pub record MakesAll (geometry : Geometry) (racks evens odds : ℕ → List ℕ) (check_even check_odd uber : List ℕ) (fused : Bool)
    (devices : Devices) : Type 0 where
  pub racks_are : AreMade geometry racks fused geometry.props.metaslabs devices.racks
  pub evens_are : AreEmpty evens fused geometry.props.metaslabs devices.evens
  pub odds_are : AreEmpty odds fused geometry.props.metaslabs devices.odds
  pub check_even_is : IsSomeAnd devices.check_even (IsMadeArea [] check_even fused)
  pub check_odd_is : IsSomeAnd devices.check_odd (IsMadeArea [] check_odd fused)
  pub uber_is : IsSomeAnd devices.uber (IsMadeArea (replicate uber_bytes 0) uber fused)
