-- The layout of a metaslab of a pool.
use Rattle.std.proofs.Common.{◌≡◌, ◌≢◌, ◌+◌, ◌-◌, ◌*◌, ◌/◌, ◌%◌, ◌<◌, ℕ, Option, refl, subst, sym, ap, ◌∙◌, arith, add_comm}
use Rattle.std.proofs.Math.Nat.{div-div-eq-div-mul, add-mul-div_left, mod-add-div', mod-lt}
use Rattle.draid_names.specs.Spares.{AreOfOne, AreSpares, IsArm}
use Rattle.draid_spec.specs.declared.layout.Geometry.{Geometry}
use Rattle.draid_spec.specs.Geometry.{IsGeometry, metaslab_stripes, metaslab_sectors}
use Rattle.draid_perm.specs.declared.perms.Perms.{Perms}
use Rattle.draid_perm.specs.Perms.{child_of, children_of}
use Rattle.draid_perm.proofs.Children.{child_below}
use Rattle.draid_map.specs.Place as place
use Rattle.draid_map.specs.Place.{place_of}
use Rattle.draid_map.proofs.Apart.{has_some, row_of_column}
use Rattle.draid_map.proofs.Radix.{three_below, high_below}
use Rattle.draid_map.proofs.Distinct.{slice_in, group_in, index_in, place_apart, place_slice}
use Rattle.draid_map.proofs.Runs.{place_child}
use Rattle.draid_chain.specs.Chain.{chain_end, holder_in, spare_slot}
use Rattle.draid_chain.specs.Used.{HasColumn}
use Rattle.draid_chain.proofs.Ends.{end_below}
use Rattle.draid_chain.proofs.Holders.{holder_is, holder_no_column, holders_same}
use Rattle.draid_machine.specs.State.{IsLayout}
use Rattle.draid_layouts.specs.Layout.{pool_stripe, slice_of, layout_of}

module _ (geometry : Geometry) (perms : Perms) (metaslab : ℕ) (lay : place.IsLayout geometry perms) where
  is : IsGeometry geometry
  is = lay.geometry_is

  height : ℕ
  height = geometry.props.height

  tall : 0 < geometry.props.height
  tall = let z = is.props.least_height in omega (arith, z)

  -- the bands of a metaslab's stripes
  band : (x : ℕ) → pool_stripe geometry metaslab x / geometry.props.height ≡ metaslab * (geometry.props.slices * geometry.ngroups) + x / geometry.props.height
  band x =
      let front : pool_stripe geometry metaslab x ≡ x + geometry.props.height * (metaslab * (geometry.props.slices * geometry.ngroups)) = grind arith in
      ap (λ n. n / geometry.props.height) front ∙ add-mul-div_left x (metaslab * (geometry.props.slices * geometry.ngroups)) tall ∙ add_comm (x / geometry.props.height) (metaslab * (geometry.props.slices * geometry.ngroups))

  same_band : (x y : ℕ) → x / geometry.props.height ≡ y / geometry.props.height → pool_stripe geometry metaslab x / geometry.props.height ≡ pool_stripe geometry metaslab y / geometry.props.height
  same_band x y e = band x ∙ ap (λ n. metaslab * (geometry.props.slices * geometry.ngroups) + n) e ∙ sym (band y)

  slice_by_band : (k : ℕ) → k / (geometry.props.height * geometry.ngroups) ≡ k / geometry.props.height / geometry.ngroups
  slice_by_band k = sym (div-div-eq-div-mul k geometry.props.height geometry.ngroups)

  steady : (x y c : ℕ) → x / geometry.props.height ≡ y / geometry.props.height → (layout_of geometry perms metaslab).slot_of x c ≡ (layout_of geometry perms metaslab).slot_of y c
  steady x y c e =
      let k = pool_stripe geometry metaslab x in
      let m = pool_stripe geometry metaslab y in
      let b = same_band x y e in
      let slice : k / (geometry.props.height * geometry.ngroups) ≡ m / (geometry.props.height * geometry.ngroups) = slice_by_band k ∙ ap (λ n. n / geometry.ngroups) b ∙ sym (slice_by_band m) in
      λ i. child_of perms (slice i) ((b i % geometry.ngroups * geometry.g + c) % geometry.ndisks)

  few : 0 < geometry.props.height * geometry.ngroups
  few = let some = (has_some geometry is).groups in let t = tall in positive geometry.props.height geometry.ngroups t some
    where
      positive : (a b : ℕ) → 0 < a → 0 < b → 0 < a * b
      positive a b x y = grind arith

  slice_is : (x : ℕ) → slice_in geometry (pool_stripe geometry metaslab x) ≡ metaslab * geometry.props.slices + x / (geometry.props.height * geometry.ngroups)
  slice_is x =
      let front : pool_stripe geometry metaslab x ≡ x + geometry.props.height * geometry.ngroups * (metaslab * geometry.props.slices) = grind arith in
      ap (λ n. n / (geometry.props.height * geometry.ngroups)) front ∙ add-mul-div_left x (metaslab * geometry.props.slices) few
      ∙ add_comm (x / (geometry.props.height * geometry.ngroups)) (metaslab * geometry.props.slices)

  -- the sector of a column within its metaslab
  local : ℕ → ℕ → ℕ
  local x c =
      (x / (geometry.props.height * geometry.ngroups) * geometry.rows + index_in geometry (pool_stripe geometry metaslab x) c / geometry.ndisks) * geometry.props.height
      + pool_stripe geometry metaslab x % geometry.props.height

  spread : (m s b r rows height o : ℕ) → ((m * s + b) * rows + r) * height + o ≡ m * (s * rows * height) + ((b * rows + r) * height + o)
  spread m s b r rows height o = grind arith

  parts : (x c : ℕ) → (place_of geometry perms (pool_stripe geometry metaslab x) c).sector ≡ metaslab * metaslab_sectors geometry + local x c
  unfolding local
  parts x c =
      ap (λ q. (q * geometry.rows + index_in geometry (pool_stripe geometry metaslab x) c / geometry.ndisks) * geometry.props.height + pool_stripe geometry metaslab x % geometry.props.height) (slice_is x)
      ∙ spread metaslab geometry.props.slices (x / (geometry.props.height * geometry.ngroups)) (index_in geometry (pool_stripe geometry metaslab x) c / geometry.ndisks) geometry.rows geometry.props.height
      (pool_stripe geometry metaslab x % geometry.props.height)

  sector_is : (x c : ℕ) → (layout_of geometry perms metaslab).sector_of x c ≡ local x c
  sector_is x c = let z = parts x c in omega (arith, z)

  same_sector : (x y c d : ℕ) → (layout_of geometry perms metaslab).sector_of x c ≡ (layout_of geometry perms metaslab).sector_of y d
      → (place_of geometry perms (pool_stripe geometry metaslab x) c).sector ≡ (place_of geometry perms (pool_stripe geometry metaslab y) d).sector
  same_sector x y c d e = parts x c ∙ ap (λ n. metaslab * metaslab_sectors geometry + n) (sym (sector_is x c) ∙ e ∙ sector_is y d) ∙ sym (parts y d)

  inside : (x c : ℕ) → x < metaslab_stripes geometry → c < geometry.g → (layout_of geometry perms metaslab).sector_of x c < metaslab_sectors geometry
  unfolding local
  inside x c less column =
      let some = has_some geometry is in
      let k = pool_stripe geometry metaslab x in
      let group : group_in geometry k < geometry.ngroups = mod-lt (k / geometry.props.height) some.groups in
      let z : local x c < geometry.props.slices * geometry.rows * geometry.props.height =
      three_below geometry.props.height geometry.rows (x / (geometry.props.height * geometry.ngroups)) (index_in geometry k c / geometry.ndisks) (k % geometry.props.height) geometry.props.slices
      (high_below geometry.props.height geometry.ngroups x geometry.props.slices some.height some.groups less)
      (row_of_column geometry (group_in geometry k) c is group column) (mod-lt k some.height) in
      subst (λ n. n < metaslab_sectors geometry) (sym (sector_is x c)) z

  one_column : (x y c d : ℕ) → c < geometry.g → d < geometry.g → (layout_of geometry perms metaslab).slot_of x c ≡ (layout_of geometry perms metaslab).slot_of y d
      → (layout_of geometry perms metaslab).sector_of x c ≡ (layout_of geometry perms metaslab).sector_of y d → (x ≡ y) × (c ≡ d)
  one_column x y c d column other slot sector =
      let same = same_sector x y c d sector in
      let z = place_apart geometry perms (pool_stripe geometry metaslab x) c (pool_stripe geometry metaslab y) d lay column other (λ i. record { child = slot i; sector = same i }) in
      (let k = z.0 in omega (arith, k), z.1)

  all : children_of perms ≡ geometry.spec.children
  all = lay.perms_are.children

  -- a column's slot has a column in the slice
  has_column : (x c : ℕ) → HasColumn perms geometry.spec.spares (slice_of geometry (pool_stripe geometry metaslab x)) ((layout_of geometry perms metaslab).slot_of x c)
  has_column x c =
      let some = has_some geometry is in
      let disks = is.disks in
      let low : index_in geometry (pool_stripe geometry metaslab x) c % geometry.ndisks < geometry.ndisks = mod-lt (index_in geometry (pool_stripe geometry metaslab x) c) some.disks in
      let same = all in
      record { position = index_in geometry (pool_stripe geometry metaslab x) c % geometry.ndisks; before = omega (arith, disks, low, same); stands = refl }

  -- columns at one sector are of one slice
  one_slice : (x y c d : ℕ) → c < geometry.g → d < geometry.g → (layout_of geometry perms metaslab).sector_of x c ≡ (layout_of geometry perms metaslab).sector_of y d
      → slice_of geometry (pool_stripe geometry metaslab x) ≡ slice_of geometry (pool_stripe geometry metaslab y)
  one_slice x y c d column other sector =
      sym (place_slice geometry perms (pool_stripe geometry metaslab x) c is column)
      ∙ ap (λ s. s / (geometry.rows * geometry.props.height)) (same_sector x y c d sector)
      ∙ place_slice geometry perms (pool_stripe geometry metaslab y) d is other

  home_is : (first : ℕ → Option ℕ) (x c t : ℕ)
      → holder_in perms geometry.spec.spares (slice_of geometry (pool_stripe geometry metaslab x)) first ((layout_of geometry perms metaslab).slot_of x c) t ≡ (layout_of geometry perms metaslab).home first t x
  home_is first x c t = holder_is perms geometry.spec.spares (slice_of geometry (pool_stripe geometry metaslab x)) ((layout_of geometry perms metaslab).slot_of x c) t first (has_column x c)

  apart : (first : ℕ → Option ℕ) (x y c d t : ℕ) → AreSpares geometry.spec.children geometry.spec.spares first → c < geometry.g → d < geometry.g → t < geometry.spec.spares
      → (layout_of geometry perms metaslab).sector_of x c ≡ (layout_of geometry perms metaslab).sector_of y d
      → (layout_of geometry perms metaslab).home first t x ≢ (layout_of geometry perms metaslab).slot_of y d
  apart first x y c d t are column other spare sector e =
      holder_no_column perms geometry.spec.spares (slice_of geometry (pool_stripe geometry metaslab x)) ((layout_of geometry perms metaslab).slot_of x c) t ((layout_of geometry perms metaslab).slot_of y d) first
      (subst (λ n. AreSpares n geometry.spec.spares first) (sym all) are) spare
      (subst (λ q. HasColumn perms geometry.spec.spares q ((layout_of geometry perms metaslab).slot_of y d)) (sym (one_slice x y c d column other sector)) (has_column y d))
      (home_is first x c t ∙ e)

  one_spare : (earlier later : ℕ → Option ℕ) (x y c d t u : ℕ) → AreSpares geometry.spec.children geometry.spec.spares earlier → AreSpares geometry.spec.children geometry.spec.spares later
      → AreOfOne geometry.spec.children earlier later → c < geometry.g → d < geometry.g
      → (layout_of geometry perms metaslab).sector_of x c ≡ (layout_of geometry perms metaslab).sector_of y d
      → IsArm geometry.spec.children geometry.spec.spares later ((layout_of geometry perms metaslab).slot_of x c) t
      → IsArm geometry.spec.children geometry.spec.spares earlier ((layout_of geometry perms metaslab).slot_of y d) u
      → (layout_of geometry perms metaslab).home earlier t x ≡ (layout_of geometry perms metaslab).home later u y → t ≡ u
  one_spare earlier later x y c d t u are are' one column other sector arm arm' e =
      let slice = one_slice x y c d column other sector in
      holders_same perms geometry.spec.spares (slice_of geometry (pool_stripe geometry metaslab x)) ((layout_of geometry perms metaslab).slot_of x c) ((layout_of geometry perms metaslab).slot_of y d) t u earlier later
      (subst (λ n. AreSpares n geometry.spec.spares earlier) (sym all) are)
      (subst (λ n. AreSpares n geometry.spec.spares later) (sym all) are')
      (subst (λ n. AreOfOne n earlier later) (sym all) one)
      (has_column x c) (subst (λ n. IsArm n geometry.spec.spares later ((layout_of geometry perms metaslab).slot_of x c) t) (sym all) arm)
      (subst (λ q. HasColumn perms geometry.spec.spares q ((layout_of geometry perms metaslab).slot_of y d)) (sym slice) (has_column y d))
      (subst (λ n. IsArm n geometry.spec.spares earlier ((layout_of geometry perms metaslab).slot_of y d) u) (sym all) arm')
      (home_is earlier x c t ∙ e ∙ sym (home_is later y d u)
      ∙ ap (λ q. holder_in perms geometry.spec.spares q later ((layout_of geometry perms metaslab).slot_of y d) u) (sym slice))

  slots : (x c : ℕ) → c < geometry.g → (layout_of geometry perms metaslab).slot_of x c < geometry.spec.children
  slots x c column = place_child geometry perms (pool_stripe geometry metaslab x) c lay

  homes : (first : ℕ → Option ℕ) (x t : ℕ) → (layout_of geometry perms metaslab).home first t x < geometry.spec.children
  homes first x t =
      subst (λ n. (layout_of geometry perms metaslab).home first t x < n) all
      (end_below (spare_slot perms (slice_of geometry (pool_stripe geometry metaslab x))) (children_of perms) first geometry.spec.spares t
      (λ u. child_below perms (slice_of geometry (pool_stripe geometry metaslab x)) (children_of perms - 1 - u)))

  -- stripes that lie together are of one slice
  bands_slice : (x y : ℕ) → x / geometry.props.height ≡ y / geometry.props.height
      → slice_of geometry (pool_stripe geometry metaslab x) ≡ slice_of geometry (pool_stripe geometry metaslab y)
  bands_slice x y e = slice_by_band (pool_stripe geometry metaslab x) ∙ ap (λ n. n / geometry.ngroups) (same_band x y e) ∙ sym (slice_by_band (pool_stripe geometry metaslab y))

  steady_home : (first : ℕ → Option ℕ) (x y t : ℕ) → x / geometry.props.height ≡ y / geometry.props.height
      → (layout_of geometry perms metaslab).home first t x ≡ (layout_of geometry perms metaslab).home first t y
  steady_home first x y t e = ap (λ q. chain_end (spare_slot perms q) first geometry.spec.spares t) (bands_slice x y e)

  -- the sector of a stripe's band, and the stripe's place in it
  base : ℕ → ℕ → ℕ → ℕ
  base c q band = (q * geometry.rows + (band % geometry.ngroups * geometry.g + c) / geometry.ndisks) * geometry.props.height

  rows : (x y c : ℕ) → x / geometry.props.height ≡ y / geometry.props.height
      → (layout_of geometry perms metaslab).sector_of x c + y ≡ (layout_of geometry perms metaslab).sector_of y c + x
  unfolding local base
  rows x y c e =
      let k = pool_stripe geometry metaslab x in
      let m = pool_stripe geometry metaslab y in
      let band = same_band x y e in
      let slice : x / (geometry.props.height * geometry.ngroups) ≡ y / (geometry.props.height * geometry.ngroups)
      = slice_by_band x ∙ ap (λ n. n / geometry.ngroups) e ∙ sym (slice_by_band y) in
      let bases : base c (x / (geometry.props.height * geometry.ngroups)) (k / geometry.props.height) ≡ base c (y / (geometry.props.height * geometry.ngroups)) (m / geometry.props.height)
      = λ i. base c (slice i) (band i) in
      let one = sector_is x c in
      let two = sector_is y c in
      let above = mod-add-div' k geometry.props.height in
      let below = mod-add-div' m geometry.props.height in
      let wide = ap (λ n. n * geometry.props.height) band in
      omega (arith, one, two, bases, above, below, wide)

  pub layout_is : IsLayout (layout_of geometry perms metaslab)
  layout_is = record { tall = tall; steady = steady; steady_home = steady_home; rows = rows; slots = slots; homes = homes; inside = inside; one_column = one_column; apart = apart; one_spare = one_spare }
