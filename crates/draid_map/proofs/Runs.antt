-- Where a run of stripes lies, and the stripes of a metaslab.
use Rattle.std.proofs.Common.{◌≡◌, ◌+◌, ◌*◌, ◌/◌, ◌%◌, ◌<◌, ◌≤◌, ℕ, inl, inr, sym, ap, ◌∙◌, arith, add_assoc}
use Rattle.std.proofs.Math.Nat.{mod-lt, mul-le-mul_right}
use Rattle.std.proofs.lemmas.Bool.{cases_lt}
use Rattle.draid_spec.specs.declared.layout.Geometry.{Geometry}
use Rattle.draid_spec.specs.Geometry.{IsGeometry, metaslab_stripes, metaslab_sectors}
use Rattle.draid_perm.specs.declared.perms.Perms.{Perms}
use Rattle.draid_perm.specs.Perms.{children_of, child_of}
use Rattle.draid_perm.proofs.Children.{child_below}
use Rattle.draid_map.specs.declared.sectors.Place.{Place}
use Rattle.draid_map.specs.Place.{IsLayout, place_of}
use Rattle.draid_map.proofs.Apart.{HasSome, has_some, row_of_column, spot_place}
use Rattle.draid_map.proofs.Distinct.{slice_in, group_in, index_in}
use Rattle.draid_map.proofs.Radix.{three_digits, three_below, high_below}

-- the next stripes of a group stand at the next sectors of the same child
pub run_follows : (geometry : Geometry) (perms : Perms) (k j a : ℕ) → IsGeometry geometry → k % geometry.props.height + j < geometry.props.height
    → place_of geometry perms (k + j) a
    ≡ record { child = (place_of geometry perms k a).child; sector = (place_of geometry perms k a).sector + j }
run_follows geometry perms k j a is within =
    let some : HasSome geometry = has_some geometry is in
    let group : group_in geometry k < geometry.ngroups = mod-lt (k / geometry.props.height) some.groups in
    let digits : (slice_in geometry k * geometry.ngroups + group_in geometry k) * geometry.props.height + k % geometry.props.height ≡ k
    = three_digits geometry.props.height geometry.ngroups k in
    let next : k + j ≡ (slice_in geometry k * geometry.ngroups + group_in geometry k) * geometry.props.height + (k % geometry.props.height + j)
    = sym (ap (λ n. n + j) digits) ∙ add_assoc _ (k % geometry.props.height) j in
    let place : ℕ → Place = λ s. record { child = child_of perms (slice_in geometry k) (index_in geometry k a % geometry.ndisks); sector = s } in
    ap (λ n. place_of geometry perms n a) next
    ∙ (spot_place geometry perms (slice_in geometry k) (group_in geometry k) (k % geometry.props.height + j) a group within
    ∙ ap place (sym (add_assoc ((slice_in geometry k * geometry.rows + index_in geometry k a / geometry.ndisks) * geometry.props.height) (k % geometry.props.height) j)))

-- a child is there
pub place_child : (geometry : Geometry) (perms : Perms) (k a : ℕ) → IsLayout geometry perms → (place_of geometry perms k a).child < geometry.spec.children
place_child geometry perms k a lay =
    let all : children_of perms ≡ geometry.spec.children = lay.perms_are.children in
    let below = child_below perms (slice_in geometry k) (index_in geometry k a % geometry.ndisks) in
    omega (arith, all, below)

-- the slices of a metaslab's stripe
slice_from : (geometry : Geometry) (m k : ℕ) → IsGeometry geometry → m * metaslab_stripes geometry ≤ k → m * geometry.props.slices ≤ slice_in geometry k
slice_from geometry m k is from = elim (cases_lt (slice_in geometry k) (m * geometry.props.slices)) [
  | inr ge ↦ ge
  | inl lt ↦
      let some : HasSome geometry = has_some geometry is in
      let below = three_below geometry.props.height geometry.ngroups (slice_in geometry k) (group_in geometry k) (k % geometry.props.height) (m * geometry.props.slices)
      lt (mod-lt (k / geometry.props.height) some.groups) (mod-lt k some.height) in
      let digits = three_digits geometry.props.height geometry.ngroups k in
      let shape : m * geometry.props.slices * geometry.ngroups * geometry.props.height ≡ m * (geometry.props.slices * geometry.ngroups * geometry.props.height) = grind arith in
      absurd (omega (arith, below, digits, shape, from))
]

slice_to : (geometry : Geometry) (m k : ℕ) → IsGeometry geometry → k < (m + 1) * metaslab_stripes geometry → slice_in geometry k < (m + 1) * geometry.props.slices
slice_to geometry m k is to =
    let some : HasSome geometry = has_some geometry is in
    let shape : (m + 1) * geometry.props.slices * geometry.ngroups * geometry.props.height ≡ (m + 1) * (geometry.props.slices * geometry.ngroups * geometry.props.height) = grind arith in
    high_below geometry.props.height geometry.ngroups k ((m + 1) * geometry.props.slices) some.height some.groups (omega (arith, shape, to))

pub part_from : (geometry : Geometry) (perms : Perms) (m k a : ℕ) → IsGeometry geometry → a < geometry.g → m * metaslab_stripes geometry ≤ k
    → m * metaslab_sectors geometry ≤ (place_of geometry perms k a).sector
part_from geometry perms m k a is in_group from =
    let low = slice_from geometry m k is from in
    let shape : m * (geometry.props.slices * geometry.rows * geometry.props.height) ≡ m * geometry.props.slices * (geometry.rows * geometry.props.height) = grind arith in
    let rows : m * geometry.props.slices * (geometry.rows * geometry.props.height) ≤ slice_in geometry k * (geometry.rows * geometry.props.height) = mul-le-mul_right (geometry.rows * geometry.props.height) low in
    let parts : (slice_in geometry k * geometry.rows + index_in geometry k a / geometry.ndisks) * geometry.props.height + k % geometry.props.height
    ≡ slice_in geometry k * (geometry.rows * geometry.props.height) + (index_in geometry k a / geometry.ndisks * geometry.props.height + k % geometry.props.height) = grind arith in
    omega (arith, shape, rows, parts)

pub part_to : (geometry : Geometry) (perms : Perms) (m k a : ℕ) → IsGeometry geometry → a < geometry.g → k < (m + 1) * metaslab_stripes geometry
    → (place_of geometry perms k a).sector < (m + 1) * metaslab_sectors geometry
part_to geometry perms m k a is in_group to =
    let some : HasSome geometry = has_some geometry is in
    let group : group_in geometry k < geometry.ngroups = mod-lt (k / geometry.props.height) some.groups in
    let below = three_below geometry.props.height geometry.rows (slice_in geometry k) (index_in geometry k a / geometry.ndisks) (k % geometry.props.height)
    ((m + 1) * geometry.props.slices) (slice_to geometry m k is to) (row_of_column geometry (group_in geometry k) a is group in_group) (mod-lt k some.height) in
    let shape : (m + 1) * geometry.props.slices * geometry.rows * geometry.props.height ≡ (m + 1) * (geometry.props.slices * geometry.rows * geometry.props.height) = grind arith in
    omega (arith, below, shape)
