-- The places of a stripe's columns by what they have in common.
use Rattle.std.proofs.Common.{◌≡◌, ◌+◌, ◌-◌, ◌*◌, ◌/◌, ◌%◌, ◌<◌, ◌≤◌, ◌∙◌, ℕ, ap, sym, arith}
use Rattle.draid_spec.specs.Geometry.{metaslab_sectors, metaslab_stripes, slice_at, slice_sectors}
use Rattle.draid_map.proofs.Apart.{has_some}
use Rattle.draid_map.proofs.Distinct.{index_in}
use Rattle.draid_map.proofs.Radix.{its_digits}
use Rattle.draid_perm.specs.Perms.{child_of}
use Rattle.draid_layouts.specs.Layout.{pool_stripe, slice_in}
use Rattle.draid_shard.specs.Part.{IsPart, Part, layout_in}
use Rattle.draid_shard.specs.Rows.{IsStripePlace}
use Rattle.draid_shard.specs.declared.places.StripePlace.{StripePlace}
use Rattle.draid_shard.proofs.Homes.{geometry_is, lays, low_sectors, slice_follows}

-- a sector of the metaslab in digits
spread : (m s slice rows row height offset : ℕ) → ((m * s + slice) * rows + row) * height + offset - m * (s * rows * height) ≡ slice * (rows * height) + offset + row * height
spread m s slice rows row height offset =
    let all : ((m * s + slice) * rows + row) * height + offset ≡ m * (s * rows * height) + (slice * (rows * height) + offset + row * height) = grind arith in
    omega (arith, all)

down : (n w : ℕ) → n / w * w ≤ n
down n w = let all = its_digits w n in omega (arith, all)

module _ (part : Part) (is : IsPart part) where
  -- the stripe's slice in the pool is one of the metaslab's
  pub slice_from : (x : ℕ) → part.number * part.geometry.props.slices ≤ slice_in part.geometry part.number x
  slice_from x = let some = has_some part.geometry (geometry_is part is) in let follows = slice_follows part is x 0 some.columns in omega (arith, follows)

  -- the sectors before its slice are few
  pub slice_low : (x slice band : ℕ) → x < metaslab_stripes part.geometry → slice ≡ slice_in part.geometry part.number x - part.number * part.geometry.props.slices
      → band ≡ slice_sectors part.geometry → slice * band ≤ 67108864
  slice_low x slice band less slice_is band_is =
      let some = has_some part.geometry (geometry_is part is) in
      let follows = slice_follows part is x 0 some.columns in
      let same : slice ≡ slice_at part.geometry ((layout_in part).sector_of x 0) = omega (arith, follows, slice_is) in
      let inside = (lays part is).inside x 0 less some.columns in
      let few = low_sectors part is in
      let below = down ((layout_in part).sector_of x 0) (slice_sectors part.geometry) in
      let equal : slice * band ≡ slice_at part.geometry ((layout_in part).sector_of x 0) * slice_sectors part.geometry = λ i. same i * band_is i in
      omega (arith, inside, few, below, equal)

  -- what the code says of it is that
  pub place_by : (x number stripes height ngroups slices band : ℕ) → number ≡ part.number → stripes ≡ metaslab_stripes part.geometry → height ≡ part.geometry.props.height → ngroups ≡ part.geometry.ngroups
      → slices ≡ part.geometry.props.slices → band ≡ slice_sectors part.geometry
      → IsStripePlace part x record {
        pool_slice = (number * stripes + x) / (height * ngroups);
        slice = (number * stripes + x) / (height * ngroups) - number * slices;
        before = (number * stripes + x) / height % ngroups * part.geometry.g;
        sector = ((number * stripes + x) / (height * ngroups) - number * slices) * band + (number * stripes + x) % height;
      }
  place_by x number stripes height ngroups slices band n s h u l b =
      let slice : (number * stripes + x) / (height * ngroups) - number * slices ≡ slice_in part.geometry part.number x - part.number * part.geometry.props.slices
      = λ i. (n i * s i + x) / (h i * u i) - n i * l i in
      let from = slice_from x in
      let whole : slice_in part.geometry part.number x ≡ part.number * part.geometry.props.slices + (slice_in part.geometry part.number x - part.number * part.geometry.props.slices) = omega (arith, from) in
      let pool : (number * stripes + x) / (height * ngroups) ≡ slice_in part.geometry part.number x = λ i. (n i * s i + x) / (h i * u i) in
      record {
        pool_slice_is = pool;
        slice_is = pool ∙ whole ∙ ap (λ q. part.number * part.geometry.props.slices + q) (sym slice);
        before_is = λ i. (n i * s i + x) / h i % u i * part.geometry.g;
        sector_is = λ i. ((number * stripes + x) / (height * ngroups) - number * slices) * b i + (n i * s i + x) % h i;
      }

  module _ (x : ℕ) (place : StripePlace) (at : IsStripePlace part x place) where
    index_is : (c : ℕ) → place.before + c ≡ index_in part.geometry (pool_stripe part.geometry part.number x) c
    index_is c = ap (λ n. n + c) at.before_is

    pub slot_at : (c : ℕ) → child_of part.perms place.pool_slice ((place.before + c) % part.geometry.ndisks) ≡ (layout_in part).slot_of x c
    slot_at c = λ i. child_of part.perms (at.pool_slice_is i) (index_is c i % part.geometry.ndisks)

    pub sector_at : (c row height : ℕ) → row ≡ (place.before + c) / part.geometry.ndisks → height ≡ part.geometry.props.height → place.sector + row * height ≡ (layout_in part).sector_of x c
    sector_at c row height row_is height_is =
        let lies : ℕ = index_in part.geometry (pool_stripe part.geometry part.number x) c / part.geometry.ndisks in
        let offset : ℕ = pool_stripe part.geometry part.number x % part.geometry.props.height in
        (λ i. at.sector_is i + (row_is ∙ ap (λ n. n / part.geometry.ndisks) (index_is c)) i * height_is i)
        ∙ sym (spread part.number part.geometry.props.slices place.slice part.geometry.rows lies part.geometry.props.height offset)
        ∙ ap (λ q. (q * part.geometry.rows + lies) * part.geometry.props.height + offset - part.number * metaslab_sectors part.geometry) (sym at.slice_is ∙ at.pool_slice_is)

    pub slice_at_first : (c : ℕ) → c < part.geometry.g → (first : ℕ) → first ≡ (layout_in part).sector_of x c → place.slice ≡ slice_at part.geometry first
    slice_at_first c column first first_is =
        let follows = slice_follows part is x c column in
        let one = at.slice_is in
        let two = at.pool_slice_is in
        let same : place.slice ≡ slice_at part.geometry ((layout_in part).sector_of x c) = omega (arith, follows, one, two) in
        same ∙ ap (slice_at part.geometry) (sym first_is)

    pub sector_low : (c : ℕ) → x < metaslab_stripes part.geometry → c < part.geometry.g → (row height : ℕ) → row ≡ (place.before + c) / part.geometry.ndisks → height ≡ part.geometry.props.height
        → place.sector + row * height ≤ 67108864
    sector_low c less column row height row_is height_is =
        let same = sector_at c row height row_is height_is in
        let inside = (lays part is).inside x c less column in
        let few = low_sectors part is in
        omega (arith, same, inside, few)
