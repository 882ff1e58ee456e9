-- Where the columns of a metaslab have their places.
use Rattle.std.proofs.Common.{◌≡◌, ◌+◌, ◌-◌, ◌*◌, ◌/◌, ◌%◌, ◌<◌, ◌≤◌, ◌^◌, ◌∙◌, ℕ, refl, sym, ap, subst, arith, add_comm, mul_comm}
use Rattle.std.proofs.Math.Nat.{add-mul-div_left, mod-lt, mul-le-mul_right}
use Rattle.draid_spec.specs.Geometry.{IsGeometry, metaslab_sectors, metaslab_stripes, pool_stripes, slice_at}
use Rattle.draid_map.specs.Place.{place_of}
use Rattle.draid_map.proofs.Apart.{has_some}
use Rattle.draid_map.proofs.Distinct.{index_in, place_slice}
use Rattle.draid_map.proofs.Radix.{high_below}
use Rattle.draid_map.proofs.Runs.{part_from, place_child}
use Rattle.draid_chain.specs.Used.{HasColumn}
use Rattle.draid_machine.specs.State as machine
use Rattle.draid_layouts.specs.Layout.{pool_stripe, slice_in}
use Rattle.draid_layouts.proofs.Layouts.{layout_is}
use Rattle.draid_shard.specs.Part.{IsPart, IsRun, Part, layout_in}

module _ (part : Part) (is : IsPart part) where
  pub geometry_is : IsGeometry part.geometry
  geometry_is = is.layout.geometry_is

  pub lays : machine.IsLayout (layout_in part)
  lays = layout_is part.geometry part.perms part.number is.layout

  -- a stripe of the metaslab is one of the pool
  pub stripe_below : (x : ℕ) → x < metaslab_stripes part.geometry → part.number * metaslab_stripes part.geometry + x < pool_stripes part.geometry
  stripe_below x below =
      let up : (part.number + 1) * metaslab_stripes part.geometry ≤ part.geometry.props.metaslabs * metaslab_stripes part.geometry
      = mul-le-mul_right (metaslab_stripes part.geometry) (let b = is.below in omega (arith, b)) in
      let next : (part.number + 1) * metaslab_stripes part.geometry ≡ part.number * metaslab_stripes part.geometry + metaslab_stripes part.geometry = grind arith in
      let all : part.geometry.props.metaslabs * part.geometry.props.slices * part.geometry.ngroups * part.geometry.props.height
      ≡ part.geometry.props.metaslabs * metaslab_stripes part.geometry = grind arith in
      omega (arith, up, next, all, below)

  -- its sectors begin where its number says
  pub sector_from : (x c : ℕ) → c < part.geometry.g → part.number * metaslab_sectors part.geometry ≤ (place_of part.geometry part.perms (part.number * metaslab_stripes part.geometry + x) c).sector
  sector_from x c column = part_from part.geometry part.perms part.number (part.number * metaslab_stripes part.geometry + x) c geometry_is column (omega arith)

  pub child_below : (x c : ℕ) → (layout_in part).slot_of x c < part.geometry.spec.children
  child_below x c = place_child part.geometry part.perms (pool_stripe part.geometry part.number x) c is.layout

  -- the sectors of a band, of which there are some
  some_band : 0 < part.geometry.rows * part.geometry.props.height
  some_band = let some = has_some part.geometry geometry_is in positive part.geometry.rows part.geometry.props.height some.rows some.height
    where
      positive : (a b : ℕ) → 0 < a → 0 < b → 0 < a * b
      positive a b x y = grind arith

  -- a column's slice in the pool is that of its sector in the metaslab, counted on
  pub slice_follows : (x c : ℕ) → c < part.geometry.g → part.number * part.geometry.props.slices + slice_at part.geometry ((layout_in part).sector_of x c) ≡ slice_in part.geometry part.number x
  slice_follows x c column =
      let low = sector_from x c column in
      let local : ℕ = (layout_in part).sector_of x c in
      let wide : part.number * metaslab_sectors part.geometry ≡ part.geometry.rows * part.geometry.props.height * (part.number * part.geometry.props.slices) = grind arith in
      let sum : (place_of part.geometry part.perms (pool_stripe part.geometry part.number x) c).sector ≡ local + part.geometry.rows * part.geometry.props.height * (part.number * part.geometry.props.slices) = omega (arith, low, wide) in
      add_comm (part.number * part.geometry.props.slices) (slice_at part.geometry local)
      ∙ sym (add-mul-div_left local (part.number * part.geometry.props.slices) some_band)
      ∙ ap (λ n. n / (part.geometry.rows * part.geometry.props.height)) (sym sum)
      ∙ place_slice part.geometry part.perms (pool_stripe part.geometry part.number x) c geometry_is column

  -- a column's slot has a column in the slice
  pub has_column : (x c : ℕ) → HasColumn part.perms part.geometry.spec.spares (slice_in part.geometry part.number x) ((layout_in part).slot_of x c)
  has_column x c =
      let some = has_some part.geometry geometry_is in
      let disks = geometry_is.disks in
      let low : index_in part.geometry (pool_stripe part.geometry part.number x) c % part.geometry.ndisks < part.geometry.ndisks = mod-lt (index_in part.geometry (pool_stripe part.geometry part.number x) c) some.disks in
      let same = is.layout.perms_are.children in
      record { position = index_in part.geometry (pool_stripe part.geometry part.number x) c % part.geometry.ndisks; before = omega (arith, disks, low, same); stands = refl }

  -- the stripes of a run are of one parity group
  pub same_group : (first stripes row : ℕ) → IsRun part.geometry first stripes → row < stripes → (first + row) / part.geometry.props.height ≡ first / part.geometry.props.height
  same_group first stripes row run less = one part.geometry.props.height first row (let z = geometry_is.props.least_height in omega (arith, z)) (let group = run.group in omega (arith, group, less))
    where
      one : (h x r : ℕ) → 0 < h → x % h + r < h → (x + r) / h ≡ x / h
      one h x r tall within = grind arith

  -- a row's sector follows the first one
  pub row_sector : (first stripes row c : ℕ) → IsRun part.geometry first stripes → row < stripes → (layout_in part).sector_of (first + row) c ≡ (layout_in part).sector_of first c + row
  row_sector first stripes row c run less = let e = lays.rows (first + row) first c (same_group first stripes row run less) in omega (arith, e)

  -- a column's rows lie within the metaslab
  pub rows_inside : (first stripes c : ℕ) → IsRun part.geometry first stripes → c < part.geometry.g → (layout_in part).sector_of first c + stripes ≤ metaslab_sectors part.geometry
  rows_inside first stripes c run column =
      let some = run.some in
      let inside = run.inside in
      let last : (layout_in part).sector_of (first + (stripes - 1)) c < metaslab_sectors part.geometry = lays.inside (first + (stripes - 1)) c (omega (arith, some, inside)) column in
      let is_row = row_sector first stripes (stripes - 1) c run (omega (arith, some)) in
      omega (arith, last, is_row, some)

  -- and in one of its slices
  pub slice_below : (sector : ℕ) → sector < metaslab_sectors part.geometry → slice_at part.geometry sector < part.geometry.props.slices
  slice_below sector less =
      let some = has_some part.geometry geometry_is in
      let shape : metaslab_sectors part.geometry ≡ part.geometry.props.slices * part.geometry.rows * part.geometry.props.height = refl in
      subst (λ band. sector / band < part.geometry.props.slices) (mul_comm part.geometry.props.height part.geometry.rows)
      (high_below part.geometry.props.height part.geometry.rows sector part.geometry.props.slices some.height some.rows less)

  -- its sectors are few
  pub low_sectors : metaslab_sectors part.geometry ≤ 67108864
  low_sectors =
      let total = geometry_is.total in
      let some = geometry_is.props.some_metaslabs in
      let shape : part.geometry.props.metaslabs * part.geometry.props.slices * part.geometry.rows * part.geometry.props.height ≡ part.geometry.props.metaslabs * metaslab_sectors part.geometry = grind arith in
      let one : 1 * metaslab_sectors part.geometry ≤ part.geometry.props.metaslabs * metaslab_sectors part.geometry = mul-le-mul_right (metaslab_sectors part.geometry) some in
      omega (arith, total, shape, one)

  pub few_sectors : metaslab_sectors part.geometry < 2 ^ 64
  few_sectors = let low = low_sectors in omega (arith, low)
