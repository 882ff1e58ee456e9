use Rattle.std.proofs.Common.{◌≡◌, ◌≢◌, ◌+◌, ◌-◌, ◌*◌, ◌/◌, ◌%◌, ◌<◌, ◌≤◌, ℕ, refl, sym, ap, ◌∙◌, arith, add_comm, mul_comm}
use Rattle.std.proofs.Math.Nat.{mod-lt, add-mod-mod}
use Rattle.draid_spec.specs.declared.layout.Geometry.{Geometry}
use Rattle.draid_spec.specs.Geometry.{IsGeometry, pool_stripes, child_sectors}
use Rattle.draid_perm.specs.declared.perms.Perms.{Perms}
use Rattle.draid_perm.specs.Perms.{children_of, child_of}
use Rattle.draid_perm.proofs.Children.{child_apart}
use Rattle.draid_perm.proofs.Turns.{turned_apart}
use Rattle.draid_map.specs.declared.sectors.Place.{Place}
use Rattle.draid_map.specs.declared.sectors.Owner.{Owner}
use Rattle.draid_map.specs.declared.sectors.Owner.TheVariants.{Column, Spare, Past}
use Rattle.draid_map.specs.Owner.{Owns}
use Rattle.draid_map.specs.Place.{IsLayout, place_of, spare_child_of}
use Rattle.draid_map.proofs.Apart.{HasSome, has_some, stripe_slice, row_of_column}
use Rattle.draid_map.proofs.Radix.{two_digits, its_digits, three_digits, high_digit, three_below}

-- the parts of a stripe and of a column's index
abbrev pub slice_in : Geometry → ℕ → ℕ
slice_in geometry stripe = stripe / (geometry.props.height * geometry.ngroups)

abbrev pub group_in : Geometry → ℕ → ℕ
group_in geometry stripe = stripe / geometry.props.height % geometry.ngroups

abbrev pub index_in : Geometry → ℕ → ℕ → ℕ
index_in geometry stripe column = group_in geometry stripe * geometry.g + column

-- a disk's position is one of a child
pub disk_is_child : (geometry : Geometry) (perms : Perms) (index : ℕ) → IsLayout geometry perms
    → index % geometry.ndisks < children_of perms
disk_is_child geometry perms index lay =
    let is : IsGeometry geometry = lay.geometry_is in
    let all : children_of perms ≡ geometry.spec.children = lay.perms_are.children in
    let some : HasSome geometry = has_some geometry is in
    let disk : index % geometry.ndisks < geometry.ndisks = mod-lt index some.disks in
    let disks : geometry.ndisks + geometry.spec.spares ≡ geometry.spec.children = is.disks in
    omega arith

-- two places are apart
pub place_apart : (geometry : Geometry) (perms : Perms) (k a l b : ℕ) → IsLayout geometry perms
    → a < geometry.g → b < geometry.g
    → place_of geometry perms k a ≡ place_of geometry perms l b → (k ≡ l) × (a ≡ b)
place_apart geometry perms k a l b lay in_k in_l same =
    let is : IsGeometry geometry = lay.geometry_is in
    let all : children_of perms ≡ geometry.spec.children = lay.perms_are.children in
    let some : HasSome geometry = has_some geometry is in
    let group_k : group_in geometry k < geometry.ngroups = mod-lt (k / geometry.props.height) some.groups in
    let group_l : group_in geometry l < geometry.ngroups = mod-lt (l / geometry.props.height) some.groups in
    let sectors = two_digits geometry.props.height
    (slice_in geometry k * geometry.rows + index_in geometry k a / geometry.ndisks) (k % geometry.props.height)
    (slice_in geometry l * geometry.rows + index_in geometry l b / geometry.ndisks) (l % geometry.props.height)
    (mod-lt k some.height) (mod-lt l some.height) (ap (λ (p : Place). p.sector) same) in
    let rows = two_digits geometry.rows (slice_in geometry k) (index_in geometry k a / geometry.ndisks) (slice_in geometry l) (index_in geometry l b / geometry.ndisks)
    (row_of_column geometry (group_in geometry k) a is group_k in_k) (row_of_column geometry (group_in geometry l) b is group_l in_l) sectors.0 in
    let child : child_of perms (slice_in geometry k) (index_in geometry k a % geometry.ndisks) ≡ child_of perms (slice_in geometry k) (index_in geometry l b % geometry.ndisks)
    = ap (λ (p : Place). p.child) same ∙ ap (λ q. child_of perms q (index_in geometry l b % geometry.ndisks)) (sym rows.0) in
    let positions : index_in geometry k a % geometry.ndisks ≡ index_in geometry l b % geometry.ndisks
    = child_apart perms (slice_in geometry k) _ _ (disk_is_child geometry perms (index_in geometry k a) lay) (disk_is_child geometry perms (index_in geometry l b) lay) child in
    let index : index_in geometry k a ≡ index_in geometry l b
    = sym (its_digits geometry.ndisks (index_in geometry k a))
    ∙ (ap (λ r. r * geometry.ndisks + index_in geometry k a % geometry.ndisks) rows.1
    ∙ (ap (λ p. index_in geometry l b / geometry.ndisks * geometry.ndisks + p) positions ∙ its_digits geometry.ndisks (index_in geometry l b))) in
    let columns = two_digits geometry.g (group_in geometry k) a (group_in geometry l) b in_k in_l index in
    let number : ℕ → ℕ → ℕ → ℕ = λ q u o. (q * geometry.ngroups + u) * geometry.props.height + o in (
      sym (three_digits geometry.props.height geometry.ngroups k)
          ∙ (ap (λ q. number q (group_in geometry k) (k % geometry.props.height)) rows.0
          ∙ (ap (λ u. number (slice_in geometry l) u (k % geometry.props.height)) columns.0
          ∙ (ap (number (slice_in geometry l) (group_in geometry l)) sectors.1 ∙ three_digits geometry.props.height geometry.ngroups l))),
      columns.1,
    )

-- the columns of a stripe stand on children apart
pub columns_apart : (geometry : Geometry) (perms : Perms) (stripe a b : ℕ) → IsLayout geometry perms
    → a < geometry.g → b < geometry.g
    → (place_of geometry perms stripe a).child ≡ (place_of geometry perms stripe b).child → a ≡ b
columns_apart geometry perms stripe a b lay left right same =
    let is : IsGeometry geometry = lay.geometry_is in
    let all : children_of perms ≡ geometry.spec.children = lay.perms_are.children in
    let some : HasSome geometry = has_some geometry is in
    let width : geometry.g ≤ geometry.ndisks = is.width in
    let positions : index_in geometry stripe a % geometry.ndisks ≡ index_in geometry stripe b % geometry.ndisks
    = child_apart perms (slice_in geometry stripe) _ _ (disk_is_child geometry perms (index_in geometry stripe a) lay) (disk_is_child geometry perms (index_in geometry stripe b) lay) same in
    let turn : (x : ℕ) → (x + group_in geometry stripe * geometry.g % geometry.ndisks) % geometry.ndisks ≡ index_in geometry stripe x % geometry.ndisks
    = λ x. add-mod-mod x (group_in geometry stripe * geometry.g) geometry.ndisks ∙ ap (λ n. n % geometry.ndisks) (add_comm x (group_in geometry stripe * geometry.g)) in
    turned_apart a b (group_in geometry stripe * geometry.g % geometry.ndisks) geometry.ndisks (omega arith) (omega arith) (mod-lt _ some.disks)
    (turn a ∙ (positions ∙ sym (turn b)))

-- a place lies before the end, in the slice of its stripe
pub place_within : (geometry : Geometry) (perms : Perms) (stripe column : ℕ) → IsGeometry geometry → stripe < pool_stripes geometry → column < geometry.g
    → (place_of geometry perms stripe column).sector < child_sectors geometry
place_within geometry perms stripe column is within in_group =
    let some : HasSome geometry = has_some geometry is in
    let group : group_in geometry stripe < geometry.ngroups = mod-lt (stripe / geometry.props.height) some.groups in
    three_below geometry.props.height geometry.rows (slice_in geometry stripe) (index_in geometry stripe column / geometry.ndisks) (stripe % geometry.props.height)
    (geometry.props.metaslabs * geometry.props.slices) (stripe_slice geometry stripe is within) (row_of_column geometry (group_in geometry stripe) column is group in_group) (mod-lt stripe some.height)

pub place_slice : (geometry : Geometry) (perms : Perms) (stripe column : ℕ) → IsGeometry geometry → column < geometry.g
    → (place_of geometry perms stripe column).sector / (geometry.rows * geometry.props.height) ≡ slice_in geometry stripe
place_slice geometry perms stripe column is in_group =
    let some : HasSome geometry = has_some geometry is in
    let group : group_in geometry stripe < geometry.ngroups = mod-lt (stripe / geometry.props.height) some.groups in
    ap (λ w. (place_of geometry perms stripe column).sector / w) (mul_comm geometry.rows geometry.props.height)
    ∙ high_digit geometry.props.height geometry.rows (slice_in geometry stripe) (index_in geometry stripe column / geometry.ndisks) (stripe % geometry.props.height)
    (row_of_column geometry (group_in geometry stripe) column is group in_group) (mod-lt stripe some.height)

-- no spare keeps a sector where a column has its place
pub spare_apart : (geometry : Geometry) (perms : Perms) (stripe column spare : ℕ) → IsLayout geometry perms
    → column < geometry.g → spare < geometry.spec.spares
    → spare_child_of geometry perms spare (place_of geometry perms stripe column).sector ≢ (place_of geometry perms stripe column).child
spare_apart geometry perms stripe column spare lay in_group there same =
    let is : IsGeometry geometry = lay.geometry_is in
    let all : children_of perms ≡ geometry.spec.children = lay.perms_are.children in
    let some : HasSome geometry = has_some geometry is in
    let disks : geometry.ndisks + geometry.spec.spares ≡ geometry.spec.children = is.disks in
    let disk : index_in geometry stripe column % geometry.ndisks < geometry.ndisks = mod-lt (index_in geometry stripe column) some.disks in
    let last : geometry.spec.children - 1 - spare < children_of perms = omega arith in
    let child : child_of perms (slice_in geometry stripe) (geometry.spec.children - 1 - spare) ≡ child_of perms (slice_in geometry stripe) (index_in geometry stripe column % geometry.ndisks)
    = ap (λ q. child_of perms q (geometry.spec.children - 1 - spare)) (sym (place_slice geometry perms stripe column is in_group)) ∙ same in
    let position : geometry.spec.children - 1 - spare ≡ index_in geometry stripe column % geometry.ndisks
    = child_apart perms (slice_in geometry stripe) _ _ last (disk_is_child geometry perms (index_in geometry stripe column) lay) child in
    omega arith

-- two spares keep a sector on two children
pub spares_apart : (geometry : Geometry) (perms : Perms) (a b sector : ℕ) → IsLayout geometry perms
    → a < geometry.spec.spares → b < geometry.spec.spares → spare_child_of geometry perms a sector ≡ spare_child_of geometry perms b sector → a ≡ b
spares_apart geometry perms a b sector lay left right same =
    let is : IsGeometry geometry = lay.geometry_is in
    let all : children_of perms ≡ geometry.spec.children = lay.perms_are.children in
    let disks : geometry.ndisks + geometry.spec.spares ≡ geometry.spec.children = is.disks in
    let some : HasSome geometry = has_some geometry is in
    let some_disks : 0 < geometry.ndisks = some.disks in
    let one : geometry.spec.children - 1 - a < children_of perms = omega arith in
    let other : geometry.spec.children - 1 - b < children_of perms = omega arith in
    let position : geometry.spec.children - 1 - a ≡ geometry.spec.children - 1 - b = child_apart perms (sector / (geometry.rows * geometry.props.height)) _ _ one other same in
    omega arith

column_or_spare : (geometry : Geometry) (perms : Perms) (child sector k a t : ℕ) → IsLayout geometry perms
    → Owns geometry perms child sector (Column k a) → Owns geometry perms child sector (Spare t) → ⊥
column_or_spare geometry perms child sector k a t lay column spare =
    let lies : (place_of geometry perms k a).sector ≡ sector = ap (λ (p : Place). p.sector) column.2 in
    let on : (place_of geometry perms k a).child ≡ child = ap (λ (p : Place). p.child) column.2 in
    spare_apart geometry perms k a t lay column.1 spare.0 (ap (spare_child_of geometry perms t) lies ∙ (spare.2 ∙ sym on))

column_or_past : (geometry : Geometry) (perms : Perms) (child sector k a : ℕ) → IsGeometry geometry
    → Owns geometry perms child sector (Column k a) → child_sectors geometry ≤ sector → ⊥
column_or_past geometry perms child sector k a is column past =
    let lies : (place_of geometry perms k a).sector ≡ sector = ap (λ (p : Place). p.sector) column.2 in
    let within : (place_of geometry perms k a).sector < child_sectors geometry = place_within geometry perms k a is column.0 column.1 in
    omega arith

-- a sector has no two owners
pub one_owner : (geometry : Geometry) (perms : Perms) (child sector : ℕ) (x y : Owner) → IsLayout geometry perms
    → Owns geometry perms child sector x → Owns geometry perms child sector y → x ≡ y
one_owner geometry perms child sector (Column k a) (Column l b) lay left right =
    let apart : (k ≡ l) × (a ≡ b) = place_apart geometry perms k a l b lay left.1 right.1 (left.2 ∙ sym right.2) in
    ap (λ n. Column n a) apart.0 ∙ ap (Column l) apart.1
one_owner geometry perms child sector (Column k a) (Spare t) lay left right =
    absurd (column_or_spare geometry perms child sector k a t lay left right)
one_owner geometry perms child sector (Column k a) Past lay left right =
    absurd (column_or_past geometry perms child sector k a lay.geometry_is left right)
one_owner geometry perms child sector (Spare t) (Column k a) lay left right =
    absurd (column_or_spare geometry perms child sector k a t lay right left)
one_owner geometry perms child sector (Spare t) (Spare u) lay left right =
    ap Spare (spares_apart geometry perms t u sector lay left.0 right.0 (left.2 ∙ sym right.2))
one_owner geometry perms child sector (Spare t) Past lay left right =
    let within : sector < child_sectors geometry = left.1 in
    absurd (omega arith)
one_owner geometry perms child sector Past (Column k a) lay left right =
    absurd (column_or_past geometry perms child sector k a lay.geometry_is right left)
one_owner geometry perms child sector Past (Spare t) lay left right =
    let within : sector < child_sectors geometry = right.1 in
    absurd (omega arith)
one_owner geometry perms child sector Past Past lay left right = refl
