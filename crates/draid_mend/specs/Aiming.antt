-- In which columns of a stripe a rebuild has targets.
use Rattle.std.specs.Prelude.{◌≡◌, ◌+◌, ◌*◌, ◌/◌, ◌%◌, ◌<◌, ℕ, Bool, false, true, List, Some, slice_get, slice_index_or}
use Rattle.draid_names.specs.declared.arm.ArmAt.{ArmAt}
use Rattle.draid_spec.specs.declared.layout.Geometry.{Geometry}
use Rattle.draid_perm.specs.Perms.{child_of}
use Rattle.draid_perm.specs.declared.perms.Perms.{Perms}
use Rattle.draid_layouts.specs.Layout.{pool_stripe, slice_in}
use Rattle.draid_shard.specs.Part.{Part, layout_in}
use Rattle.draid_mend.specs.declared.aiming.Front.{Front}

-- where a stripe of a metaslab begins: in this slice of the pool, and at this position there
pub record IsFrontOf (part : Part) (stripe : ℕ) (front : Front) : Type 0 where
  pub slice_is : front.slice ≡ slice_in part.geometry part.number stripe
  pub position_is : front.position ≡ pool_stripe part.geometry part.number stripe / part.geometry.props.height % part.geometry.ngroups * part.geometry.g % part.geometry.ndisks

-- a column of a stripe that begins there is on this slot
pub record IsColumnOn (geometry : Geometry) (perms : Perms) (front : Front) (slot column : ℕ) : Type 0 where
  pub below : column < geometry.g
  pub stands : child_of perms front.slice ((front.position + column) % geometry.ndisks) ≡ slot

-- each column is marked in whose slot one of the first so many targets is
abbrev pub AreAimed : Part → ℕ → List ArmAt → ℕ → List Bool → Type 0
AreAimed part stripe targets count marks = (k column : ℕ) (at : ArmAt) → k < count → slice_get targets k ≡ Some at → column < part.geometry.g
    → (layout_in part).slot_of stripe column ≡ at.slot → slice_index_or marks column false ≡ true
