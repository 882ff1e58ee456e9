use Rattle.std.proofs.Common.{◌≡◌, ◌+◌, ◌*◌, ◌/◌, ◌%◌, ◌<◌, ◌≤◌, ℕ, sym, ap, ◌∙◌, subst, arith}
use Rattle.std.proofs.Math.Nat.{mod-lt, mul-le-mul}
use Rattle.std.proofs.lemmas.Nat.{div-mul-add, mod-mul-add}
use Rattle.draid_spec.specs.declared.layout.Geometry.{Geometry}
use Rattle.draid_spec.specs.Geometry.{IsGeometry, pool_stripes, child_sectors}
use Rattle.draid_perm.specs.declared.perms.Perms.{Perms}
use Rattle.draid_perm.specs.Perms.{child_of}
use Rattle.draid_map.specs.declared.sectors.Place.{Place}
use Rattle.draid_map.specs.Place.{place_of}
use Rattle.draid_map.proofs.Radix.{two_below, its_digits, first_below, three_digits, high_digit, middle_digit, low_digit, high_below, three_below}

-- the slices of a pool are few
few_slices : (geometry : Geometry) → IsGeometry geometry → geometry.props.metaslabs * geometry.props.slices ≤ 65536
few_slices geometry is =
    let all : geometry.props.metaslabs * geometry.props.slices ≤ 64 * 1024 = mul-le-mul is.props.most_metaslabs is.props.most_slices in
    omega arith

-- what is positive
pub record HasSome (geometry : Geometry) : Type 0 where
  pub height : 0 < geometry.props.height
  pub groups : 0 < geometry.ngroups
  pub rows : 0 < geometry.rows
  pub columns : 0 < geometry.g
  pub disks : 0 < geometry.ndisks

pub has_some : (geometry : Geometry) → IsGeometry geometry → HasSome geometry
has_some geometry is = record { height = omega arith; groups = omega arith; rows = omega arith; columns = omega arith; disks = omega arith }

-- the slice of a stripe, and the row of a column
pub stripe_slice : (geometry : Geometry) (stripe : ℕ) → IsGeometry geometry → stripe < pool_stripes geometry
    → stripe / (geometry.props.height * geometry.ngroups) < geometry.props.metaslabs * geometry.props.slices
stripe_slice geometry stripe is within =
    let some : HasSome geometry = has_some geometry is in
    high_below geometry.props.height geometry.ngroups stripe (geometry.props.metaslabs * geometry.props.slices) some.height some.groups within

pub slice_of_stripe : (geometry : Geometry) (stripe : ℕ) → IsGeometry geometry → stripe < pool_stripes geometry
    → stripe / (geometry.props.height * geometry.ngroups) < 65536
slice_of_stripe geometry stripe is within = omega (arith, stripe_slice geometry stripe is within, few_slices geometry is)

pub row_of_column : (geometry : Geometry) (group column : ℕ) → IsGeometry geometry → group < geometry.ngroups → column < geometry.g
    → (group * geometry.g + column) / geometry.ndisks < geometry.rows
row_of_column geometry group column is in_slice in_group =
    let some : HasSome geometry = has_some geometry is in
    let below : group * geometry.g + column < geometry.ngroups * geometry.g = two_below geometry.g group column geometry.ngroups in_slice in_group in
    let filled : geometry.ngroups * geometry.g ≡ geometry.rows * geometry.ndisks = is.slice.filled in
    first_below geometry.ndisks (group * geometry.g + column) geometry.rows some.disks (omega arith)

-- the slice of a sector, and the group of a position
pub sector_slice : (geometry : Geometry) (sector : ℕ) → IsGeometry geometry → sector < child_sectors geometry
    → sector / (geometry.props.height * geometry.rows) < geometry.props.metaslabs * geometry.props.slices
sector_slice geometry sector is within =
    let some : HasSome geometry = has_some geometry is in
    high_below geometry.props.height geometry.rows sector (geometry.props.metaslabs * geometry.props.slices) some.height some.rows within

pub slice_of_sector : (geometry : Geometry) (sector : ℕ) → IsGeometry geometry → sector < child_sectors geometry
    → sector / (geometry.props.height * geometry.rows) < 65536
slice_of_sector geometry sector is within = omega (arith, sector_slice geometry sector is within, few_slices geometry is)

pub group_of_position : (geometry : Geometry) (row position : ℕ) → IsGeometry geometry → row < geometry.rows → position < geometry.ndisks
    → (row * geometry.ndisks + position) / geometry.g < geometry.ngroups
group_of_position geometry row position is in_slice in_row =
    let some : HasSome geometry = has_some geometry is in
    let below : row * geometry.ndisks + position < geometry.rows * geometry.ndisks = two_below geometry.ndisks row position geometry.rows in_slice in_row in
    let filled : geometry.ngroups * geometry.g ≡ geometry.rows * geometry.ndisks = is.slice.filled in
    first_below geometry.g (row * geometry.ndisks + position) geometry.ngroups some.columns (omega arith)

-- the place of a column of a stripe that is given by its slice, its group and its offset
pub spot_place : (geometry : Geometry) (perms : Perms) (slice group offset column : ℕ) → group < geometry.ngroups → offset < geometry.props.height
    → place_of geometry perms ((slice * geometry.ngroups + group) * geometry.props.height + offset) column
    ≡ record {
      child = child_of perms slice ((group * geometry.g + column) % geometry.ndisks);
      sector = (slice * geometry.rows + (group * geometry.g + column) / geometry.ndisks) * geometry.props.height + offset;
    }
spot_place geometry perms slice group offset column in_slice in_group =
    let place : ℕ → ℕ → ℕ → Place = λ q u o. record {
      child = child_of perms q ((u * geometry.g + column) % geometry.ndisks);
      sector = (q * geometry.rows + (u * geometry.g + column) / geometry.ndisks) * geometry.props.height + o;
    } in
    ap (λ q. place q (((slice * geometry.ngroups + group) * geometry.props.height + offset) / geometry.props.height % geometry.ngroups) (((slice * geometry.ngroups + group) * geometry.props.height + offset) % geometry.props.height))
    (high_digit geometry.props.height geometry.ngroups slice group offset in_slice in_group)
    ∙ (ap (λ u. place slice u (((slice * geometry.ngroups + group) * geometry.props.height + offset) % geometry.props.height))
    (middle_digit geometry.props.height geometry.ngroups slice group offset in_slice in_group)
    ∙ ap (λ o. place slice group o) (low_digit geometry.props.height (slice * geometry.ngroups + group) offset in_group))

-- and of the column of a position in a row
row_place : (geometry : Geometry) (perms : Perms) (slice row position offset : ℕ) → IsGeometry geometry → row < geometry.rows → position < geometry.ndisks
    → offset < geometry.props.height
    → place_of geometry perms ((slice * geometry.ngroups + (row * geometry.ndisks + position) / geometry.g) * geometry.props.height + offset) ((row * geometry.ndisks + position) % geometry.g)
    ≡ record { child = child_of perms slice position; sector = (slice * geometry.rows + row) * geometry.props.height + offset }
row_place geometry perms slice row position offset is in_slice in_row in_group =
    let group : (row * geometry.ndisks + position) / geometry.g < geometry.ngroups = group_of_position geometry row position is in_slice in_row in
    let place : ℕ → Place = λ n. record {
      child = child_of perms slice (n % geometry.ndisks);
      sector = (slice * geometry.rows + n / geometry.ndisks) * geometry.props.height + offset;
    } in
    let place_at : ℕ → ℕ → Place = λ r p. record {
      child = child_of perms slice p;
      sector = (slice * geometry.rows + r) * geometry.props.height + offset;
    } in
    spot_place geometry perms slice ((row * geometry.ndisks + position) / geometry.g) offset ((row * geometry.ndisks + position) % geometry.g) group in_group
    ∙ (ap place (its_digits geometry.g (row * geometry.ndisks + position))
    ∙ (ap (λ r. place_at r ((row * geometry.ndisks + position) % geometry.ndisks)) (div-mul-add row geometry.ndisks position in_row)
    ∙ ap (place_at row) (mod-mul-add row geometry.ndisks position in_row)))

-- a sector with a disk's position belongs to a column
pub column_owns : (geometry : Geometry) (perms : Perms) (child sector position stripe column : ℕ) → IsGeometry geometry → sector < child_sectors geometry
    → position < geometry.ndisks → child_of perms (sector / (geometry.props.height * geometry.rows)) position ≡ child
    → stripe ≡ (sector / (geometry.props.height * geometry.rows) * geometry.ngroups + (sector / geometry.props.height % geometry.rows * geometry.ndisks + position) / geometry.g) * geometry.props.height + sector % geometry.props.height
    → column ≡ (sector / geometry.props.height % geometry.rows * geometry.ndisks + position) % geometry.g
    → (stripe < pool_stripes geometry) × (column < geometry.g) × (place_of geometry perms stripe column ≡ record { child = child; sector = sector })
column_owns geometry perms child sector position stripe column is within in_row stands stripe_is column_is =
    let some : HasSome geometry = has_some geometry is in
    let row : sector / geometry.props.height % geometry.rows < geometry.rows = mod-lt (sector / geometry.props.height) some.rows in
    let offset : sector % geometry.props.height < geometry.props.height = mod-lt sector some.height in
    let group = group_of_position geometry (sector / geometry.props.height % geometry.rows) position is row in_row in
    let slice = sector_slice geometry sector is within in
    let stripe_below = three_below geometry.props.height geometry.ngroups (sector / (geometry.props.height * geometry.rows))
    ((sector / geometry.props.height % geometry.rows * geometry.ndisks + position) / geometry.g) (sector % geometry.props.height)
    (geometry.props.metaslabs * geometry.props.slices) slice group offset in
    let column_below : (sector / geometry.props.height % geometry.rows * geometry.ndisks + position) % geometry.g < geometry.g = mod-lt _ some.columns in
    let P : ℕ → Type 0 = λ k. k < pool_stripes geometry in
    let C : ℕ → Type 0 = λ i. i < geometry.g in
    let place : ℕ → ℕ → Place = λ c x. record { child = c; sector = x } in (
      subst P (sym stripe_is) stripe_below,
      subst C (sym column_is) column_below,
      ap (λ k. place_of geometry perms k column) stripe_is
          ∙ (ap (λ i. place_of geometry perms ((sector / (geometry.props.height * geometry.rows) * geometry.ngroups + (sector / geometry.props.height % geometry.rows * geometry.ndisks + position) / geometry.g) * geometry.props.height + sector % geometry.props.height) i) column_is
          ∙ (row_place geometry perms (sector / (geometry.props.height * geometry.rows)) (sector / geometry.props.height % geometry.rows) position (sector % geometry.props.height) is row in_row offset
          ∙ (ap (λ c. place c ((sector / (geometry.props.height * geometry.rows) * geometry.rows + sector / geometry.props.height % geometry.rows) * geometry.props.height + sector % geometry.props.height)) stands
          ∙ ap (place child) (three_digits geometry.props.height geometry.rows sector)))),
    )
