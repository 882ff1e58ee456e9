-- Which records of an open pool's metaslabs stand on their areas.
use Rattle.std.specs.Prelude.{◌≡◌, ◌==◌, ◌<◌, ◌≤◌, ◌%◌, ℕ, Option, Some, IsSome, slice_get, if◌then◌else◌}
use Rattle.draid_area.specs.Area.{Content, OnTold}
use Rattle.draid_machine.specs.declared.names.ArmName.TheVariants.{Leaf}
use Rattle.draid_machine.specs.Images.{IsImage}
use Rattle.draid_machine.specs.State as machine
use Rattle.draid_pool.specs.Groups.{ListsOnce}
use Rattle.draid_shard.specs.Part.{Part}
use Rattle.draid_session.specs.Opening.{MayFind}
use Rattle.draid_session.specs.State.{Metaslab, State}
use Rattle.draid_stable.specs.Images.{LeavesBelow}

-- what the area of a group tells, of the two that a metaslab has
abbrev pub area_for : ℕ → Option Content → Option Content → Option Content
area_for group even odd = if group % 2 == 0 then even else odd

-- the record of each image that an import may take stands in the area of its group, and lists each block once
abbrev pub HasRecords : Part → machine.State → Option Content → Option Content → Type 0
HasRecords part w even odd =
    (image : machine.Image) → IsImage w image → OnTold (area_for image.group even odd) (ListsOnce part.geometry part.number image)

-- a metaslab has an image of a group
pub record HasImage (group : ℕ) (y : Metaslab) : Type 0 where
  pub image : machine.Image
  pub is : IsImage y.world image
  pub of : image.group ≡ group

-- each metaslab has an image of each group that an import may find
abbrev pub HasImages : State → Type 0
HasImages x = (group m : ℕ) (y : Metaslab) → MayFind x group → 0 < group → slice_get x.metaslabs m ≡ Some y → HasImage group y

-- The numbers of leaves are below that of the next leaf: those of the committed image below the number that its group has, all others below that of now.
pub record LeavesAreBelow (kept_leaf next_leaf : ℕ) (w : machine.State) : Type 0 where
  pub kept : LeavesBelow kept_leaf w.image
  pub sealed : (image : machine.Image) → w.sealed ≡ Some image → LeavesBelow next_leaf image
  pub now : (leaf : ℕ) → IsSome (w.core.arm (Leaf leaf)) → leaf < next_leaf

-- so in each metaslab
pub record HasLeafNumbers (x : State) : Type 0 where
  pub order : x.kept_leaf ≤ x.next_leaf
  pub each : (m : ℕ) (y : Metaslab) → slice_get x.metaslabs m ≡ Some y → LeavesAreBelow x.kept_leaf x.next_leaf y.world
