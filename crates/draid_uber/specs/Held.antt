-- What holds of the parts of an uberblock.
use Rattle.std.specs.Prelude.{◌≡◌, ◌≤◌, ◌<◌, ◌^◌, ◌+◌, ◌-◌, ⊤, ℕ, Option, MatchOption}
use Rattle.draid_names.specs.declared.numbers.TheConstants.{LAST_NUMBER}
use Rattle.draid_record.specs.declared.uber.UberBody.{UberBody}
use Rattle.draid_spec.specs.declared.layout.Geometry.{Geometry}
use Rattle.draid_spec.specs.Geometry.{IsGeometry, IsVersion}
use Rattle.draid_uber.specs.Slots.{group_of}

-- the group is the one behind the committed one, and not the last number
pub record IsNext (kept : Option UberBody) (group : ℕ) : Type 0 where
  pub behind : group ≡ 1 + group_of kept
  pub below : group ≤ LAST_NUMBER - 1

-- the parts fit together
pub record IsHeld (kept : Option UberBody) (geometry : Geometry) (version next_leaf : ℕ) : Type 0 where
  pub layout_is : IsGeometry geometry
  pub seed_below : geometry.props.seed < 2 ^ 64
  pub version_is : IsVersion version
  pub later : geometry.props.version ≤ version
  pub leaf_above : geometry.spec.children ≤ next_leaf
  pub leaf_below : next_leaf ≤ LAST_NUMBER
  pub kept_is : MatchOption kept ⊤ (λ body. (body.spec ≡ geometry.spec) × (body.props ≡ geometry.props))
