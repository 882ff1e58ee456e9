-- What an import needs of a pool that is given back.
use Rattle.std.specs.Prelude.{◌≡◌, ◌≤◌, ℕ, false, Option, Some, IsSome, IsSomeAnd, option_map, slice_get}
use Rattle.draid_rack.specs.Rack.{Shape}
use Rattle.draid_spec.specs.Geometry.{metaslab_sectors}
use Rattle.draid_spec.specs.declared.layout.Geometry.{Geometry}
use Rattle.draid_machine.specs.declared.names.ArmName.{ArmName}
use Rattle.draid_machine.specs.declared.names.ArmName.TheVariants.{Leaf}
use Rattle.draid_machine.specs.After.{seal_arm}
use Rattle.draid_machine.specs.Images.{IsImage}
use Rattle.draid_machine.specs.State as machine
use Rattle.draid_shelf.specs.Kits.{Held}
use Rattle.draid_stable.specs.Stable as stable
use Rattle.draid_pool.specs.Groups.{ListsOnce}
use Rattle.draid_session.specs.Opening.{MayFind, VersionIn}
use Rattle.draid_session.specs.State.{Metaslab, State}

-- Each metaslab has committed the group that the uberblock has, or a later one where the first commit was refused; its images have the version that is found with their group.
pub record IsFindable (x : State) : Type 0 where
  pub committed : (m : ℕ) (y : Metaslab) → slice_get x.metaslabs m ≡ Some y → x.committed ≤ y.world.committed
  pub versions : (m : ℕ) (y : Metaslab) (image : machine.Image) → slice_get x.metaslabs m ≡ Some y → IsImage y.world image → VersionIn x image.group image.version

-- an arm without what passes make good
abbrev pub bare : machine.Arm → machine.Arm
bare arm = record { offline = arm.offline; fresh = false; log = λ group. false; gone = arm.gone }

-- the same arms stand in each slot
pub record SameArms (a b : machine.Core) : Type 0 where
  pub order : (slot : ℕ) → a.order slot ≡ b.order slot
  pub arms : (n : ArmName) → option_map bare (a.arm n) ≡ option_map bare (b.arm n)

-- What all metaslabs of a pool have in common: the version and the arms that the committed group has, and those of now.
pub record Shared : Type 0 where
  pub kept_version : ℕ
  pub kept_arms : machine.Core
  pub version : ℕ
  pub arms : machine.Core

-- the group that has those of now is committed
abbrev pub keep_shared : Shared → Shared
keep_shared shared = record shared { kept_version = shared.version; kept_arms = shared.arms }

-- the versions that all metaslabs have in common are these: that of the committed group, and that of the next
pub record HasPoolVersions (kept_version next_version : ℕ) (shared : Shared) : Type 0 where
  pub kept : shared.kept_version ≡ kept_version
  pub now : shared.version ≡ next_version

-- the committed image of a metaslab has the version that is kept; a sealed image has that of now, and so will the next one
pub record HasVersions (shared : Shared) (w : machine.State) : Type 0 where
  pub asked : w.asked ≡ shared.version
  pub kept : w.image.version ≡ shared.kept_version
  pub sealed : (image : machine.Image) → w.sealed ≡ Some image → image.version ≡ shared.version

-- A metaslab has just the arms of now where it stands, but for detached ones, and so has a sealed image. The committed one has those that are kept.
pub record HasArms (shared : Shared) (w : machine.State) : Type 0 where
  pub order : (slot : ℕ) → w.core.order slot ≡ shared.arms.order slot
  pub now : (n : ArmName) → option_map bare (seal_arm (w.core.arm n)) ≡ option_map bare (shared.arms.arm n)
  pub kept : SameArms w.image.core shared.kept_arms
  pub sealed : (image : machine.Image) → w.sealed ≡ Some image → SameArms image.core shared.arms

-- a metaslab has what all have in common
pub record IsAlike (shared : Shared) (w : machine.State) : Type 0 where
  pub versions : HasVersions shared w
  pub same : HasArms shared w

-- so have all metaslabs of a state
abbrev pub AllAlike : Shared → State → Type 0
AllAlike shared x = (m : ℕ) (y : Metaslab) → slice_get x.metaslabs m ≡ Some y → IsAlike shared y.world

-- the images that all metaslabs have of a group that an import may find have the same arms
abbrev pub AreAlike : State → Type 0
AreAlike x = (group m n : ℕ) (y z : Metaslab) (a b : machine.Image) → MayFind x group → slice_get x.metaslabs m ≡ Some y → slice_get x.metaslabs n ≡ Some z → IsImage y.world a → a.group ≡ group
    → IsImage z.world b → b.group ≡ group → SameArms a.core b.core

-- the leaves of an image are among those of a rack, with all sectors of a metaslab
abbrev pub HasImageLeaves : Geometry → machine.Image → Shape → Type 0
HasImageLeaves geometry image shape = (leaf : ℕ) → IsSome (image.core.arm (Leaf leaf)) → shape.leaves leaf ≡ Some (metaslab_sectors geometry)

-- No record of a pool on a shelf has a fault to an import: the racks have the leaves of the images, and the records list each block once; all metaslabs have the same arms.
pub record IsImportable (x : State) (held : Held) (leaves : ℕ → Option Shape) : Type 0 where
  pub findable : IsFindable x
  pub alike : AreAlike x
  pub once : (m : ℕ) (y : Metaslab) (image : machine.Image) → slice_get x.metaslabs m ≡ Some y → IsImage y.world image
      → IsSomeAnd (held.kits m) (λ kit. ListsOnce x.geometry m image (stable.area_of image.group kit.even kit.odd))
  pub there : (m : ℕ) (y : Metaslab) (image : machine.Image) → slice_get x.metaslabs m ≡ Some y → IsImage y.world image → IsSomeAnd (leaves m) (HasImageLeaves x.geometry image)
