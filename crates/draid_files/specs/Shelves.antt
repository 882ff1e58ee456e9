-- What is known of a shelf over files: the devices that it keeps open.
use Rattle.std.specs.Prelude.{◌≡◌, ◌<◌, ◌⊎◌, ℕ, List, Option, Some, None, option_map, slice_index_or, if◌then◌else◌, ◌==◌, IsSomeAnd}
use Rattle.draid_spec.specs.declared.layout.Geometry.{Geometry}
use Rattle.draid_rack.specs.Rack.{Shape}
use Rattle.draid_shelf.specs.Shelf.{HasLeavesOf}
use Rattle.draid_shelf.specs.Kits.{CheckCounts, KitCounts, uber_bytes}
use Rattle.draid_shelf.specs.declared.kit.Kit.{Kit}
use Rattle.draid_files.specs.Racks.{faults_of, shape_of}
use Rattle.draid_files.specs.declared.area.FileArea.{FileArea}
use Rattle.draid_files.specs.declared.devices.Devices.{Devices}
use Rattle.draid_files.specs.declared.rack.FileRack.{FileRack}

abbrev pub FileKit : Type 0
FileKit = Kit FileRack FileArea

-- the devices of a metaslab, where they are kept
abbrev pub kit_in : List (Option FileKit) → ℕ → Option FileKit
kit_in kits m = slice_index_or kits m None

abbrev pub kit_at : Devices → ℕ → Option FileKit
kit_at devices m = kit_in devices.kits m

abbrev pub kit_shape : FileKit → Shape
kit_shape kit = shape_of kit.rack

abbrev pub shape_at : Devices → ℕ → Option Shape
shape_at devices m = option_map kit_shape (kit_at devices m)

-- how often calls on devices have failed; of devices that aren't kept none has
abbrev pub kit_counts : Option FileKit → KitCounts
kit_counts None = record { rack = λ _. 0; even = 0; odd = 0 }
kit_counts (Some kit) = record { rack = faults_of kit.rack; even = kit.even.file.faults; odd = kit.odd.file.faults }

abbrev pub counts_at : Devices → ℕ → KitCounts
counts_at devices m = kit_counts (kit_at devices m)

abbrev pub area_count : Option FileArea → ℕ
area_count None = 0
area_count (Some area) = area.file.faults

abbrev pub pair_counts : Option (FileArea × FileArea) → CheckCounts
pair_counts None = record { even = 0; odd = 0 }
pair_counts (Some areas) = record { even = areas.0.file.faults; odd = areas.1.file.faults }

abbrev pub check_counts : Devices → CheckCounts
check_counts devices = pair_counts devices.checks

abbrev pub area_size : FileArea → ℕ
area_size area = area.size

abbrev pub uber_size_of : Devices → Option ℕ
uber_size_of devices = option_map area_size devices.uber

-- a rack as it was made for a metaslab
pub record IsMade (geometry : Geometry) (rack : FileRack) : Type 0 where
  pub leaves : HasLeavesOf geometry (shape_of rack)
  pub counts : (who : Option ℕ) → faults_of rack who ≡ 0

-- an area as it was made, of so many bytes
pub record IsMadeArea (bytes : ℕ) (area : FileArea) : Type 0 where
  pub size : area.size ≡ bytes
  pub count : area.file.faults ≡ 0

-- the devices of a metaslab as they were made
pub record IsMadeKit (geometry : Geometry) (kit : FileKit) : Type 0 where
  pub rack : IsMade geometry kit.rack
  pub even : IsMadeArea 0 kit.even
  pub odd : IsMadeArea 0 kit.odd

-- they were made for the metaslabs below a number
abbrev pub AreMade : Geometry → ℕ → List (Option FileKit) → Type 0
AreMade geometry upto kits = (m : ℕ) → m < upto → IsSomeAnd (kit_in kits m) (IsMadeKit geometry)

-- two empty areas
abbrev pub AreEmpty : FileArea × FileArea → Type 0
AreEmpty areas = IsMadeArea 0 areas.0 × IsMadeArea 0 areas.1

-- all devices of a new pool
pub record MakesAll (geometry : Geometry) (devices : Devices) : Type 0 where
  pub kits_are : AreMade geometry geometry.props.metaslabs devices.kits
  pub checks_are : IsSomeAnd devices.checks AreEmpty
  pub uber_is : IsSomeAnd devices.uber (IsMadeArea uber_bytes)

-- a metaslab's devices as they were opened, with sectors of this length
pub record IsOpened (bytes : ℕ) (kit : FileKit) : Type 0 where
  pub bytes_are : (shape_of kit.rack).bytes ≡ bytes
  pub rack : (who : Option ℕ) → faults_of kit.rack who ≡ 0
  pub even : kit.even.file.faults ≡ 0
  pub odd : kit.odd.file.faults ≡ 0

-- this is now on the place of a metaslab, and all else is as before
pub record PutsKit (m : ℕ) (kit : Option FileKit) (old new : Devices) : Type 0 where
  pub kits : (q : ℕ) → kit_at new q ≡ (if q == m then kit else kit_at old q)
  pub checks : new.checks ≡ old.checks
  pub uber : new.uber ≡ old.uber

-- The devices of a metaslab that were kept were taken, or else those of the folder were opened.
abbrev pub Takes : ℕ → ℕ → Devices → Devices → FileKit → Type 0
Takes m bytes old new kit =
    ((kit_at old m ≡ None) × (new ≡ old) × IsOpened bytes kit)
    ⊎ (PutsKit m None old new × (kit_at old m ≡ Some kit) × ((shape_of kit.rack).bytes ≡ bytes))

-- two areas that were opened, on which no call has failed
abbrev pub AreUncounted : FileArea × FileArea → Type 0
AreUncounted areas = (areas.0.file.faults ≡ 0) × (areas.1.file.faults ≡ 0)
