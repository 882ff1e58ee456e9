-- How a block is cut over the data columns of a geometry.
use Rattle.std.proofs.Common.{◌≡◌, ℕ, ◌+◌, ◌-◌, ◌*◌, ◌/◌, ◌%◌, ◌<◌, ◌≤◌, ◌⊎◌, min, arith, sym, subst, inl, inr}
use Rattle.std.specs.Int.{div_ceil}
use Rattle.std.proofs.lemmas.Bool.{cases_lt}
use Rattle.std.proofs.lemmas.Bool.Decides.{nat_tests}
use Rattle.std.proofs.lemmas.Grind.{div_ceil_times}
use Rattle.std.proofs.Math.Nat.{div-le_self, mul-le-mul_right, div-add-mod}
use Rattle.draid_spec.specs.declared.layout.Geometry.{Geometry}
use Rattle.draid_spec.specs.Geometry.{IsGeometry}
use Rattle.draid_block.specs.Columns.{Cut, sectors_of, stripes_of, full_columns, sectors_in}
use Rattle.draid_block.specs.Blocks.{cut_of}

-- a quotient, rounded up, is at most the number
rounded : (n d : ℕ) → 1 ≤ d → n / d + min 1 (n % d) ≤ n
rounded n d some =
    let q : n / d ≤ n = div-le_self n d in
    let whole : d * (n / d) + n % d ≡ n = div-add-mod n d in
    let times : 1 * (n / d) ≤ d * (n / d) = mul-le-mul_right (n / d) some in
    omega (arith, q, whole, times)

-- a block takes at most a stripe for each of its sectors
few_stripes : (cut : Cut) (len : ℕ) → 1 ≤ cut.ndata → stripes_of cut len ≤ sectors_of cut len
unfolding stripes_of
few_stripes cut len some = rounded (sectors_of cut len) cut.ndata some

-- its columns are short
pub column_few : (cut : Cut) (len : ℕ) → 1 ≤ cut.ndata → 1 ≤ cut.sector → stripes_of cut len * cut.sector < len + cut.sector
unfolding sectors_of
column_few cut len some_data some =
    let bound : sectors_of cut len * cut.sector < len + cut.sector = (div_ceil_times len cut.sector some).1 in
    let fewer : stripes_of cut len * cut.sector ≤ sectors_of cut len * cut.sector = mul-le-mul_right cut.sector (few_stripes cut len some_data) in
    omega arith

pub sized_sector : (cut : Cut) → (cut.sector ≡ 512) ⊎ (cut.sector ≡ 4096) → 1 ≤ cut.sector
sized_sector cut sector = elim sector [ inl is ↦ omega arith | inr is ↦ omega arith ]

pub some_sector : (geometry : Geometry) → IsGeometry geometry → 1 ≤ geometry.props.sector
some_sector geometry g = elim g.props.sector [ inl is ↦ omega arith | inr is ↦ omega arith ]

pub short_column : (geometry : Geometry) (len : ℕ) → IsGeometry geometry → len ≤ 131072
    → stripes_of (cut_of geometry) len * geometry.props.sector ≤ 135168
short_column geometry len g short =
    let sector : (1 ≤ geometry.props.sector) × (geometry.props.sector ≤ 4096) = elim g.props.sector [ inl is ↦ (omega arith, omega arith) | inr is ↦ (omega arith, omega arith) ] in
    let some : 1 ≤ geometry.spec.ndata = g.spec.some_data in
    let few = column_few (cut_of geometry) len some sector.0 in
    omega (arith, sector.1, few)

-- each data column has sectors of the block in at most so many stripes
pub sectors_few : (cut : Cut) (len i : ℕ) → sectors_in cut len i ≤ stripes_of cut len
unfolding sectors_in
sectors_few cut len i = grind (arith, nat_tests)

pub short_part : (geometry : Geometry) (len i : ℕ) → IsGeometry geometry → len ≤ 131072
    → sectors_in (cut_of geometry) len i * geometry.props.sector ≤ 135168
short_part geometry len i g short =
    let fewer : sectors_in (cut_of geometry) len i * geometry.props.sector ≤ stripes_of (cut_of geometry) len * geometry.props.sector =
    mul-le-mul_right geometry.props.sector (sectors_few (cut_of geometry) len i) in
    omega (arith, fewer, short_column geometry len g short)

-- where not all data columns are full, the block takes a stripe
pub some_stripes : (cut : Cut) (len : ℕ) → 0 < full_columns cut len → 1 ≤ stripes_of cut len
unfolding full_columns stripes_of
some_stripes cut len some = omega arith

-- ---- how many stripes a block takes
some_ceil : (n d : ℕ) → 1 ≤ d → 1 ≤ n → 1 ≤ div_ceil n d
some_ceil n d some there = elim (cases_lt 0 (div_ceil n d)) [
  | inl lt ↦ omega arith
  | inr ge ↦
      let room = (div_ceil_times n d some).0 in
      let none : div_ceil n d ≡ 0 = omega arith in
      let nothing = rw none at room in
      omega (arith, nothing)
]

pub stripes_some : (cut : Cut) (len : ℕ) → 1 ≤ cut.ndata → (cut.sector ≡ 512) ⊎ (cut.sector ≡ 4096) → 1 ≤ len → 1 ≤ stripes_of cut len
unfolding stripes_of sectors_of
stripes_some cut len some sector there = some_ceil (div_ceil len cut.sector) cut.ndata some (some_ceil len cut.sector (sized_sector cut sector) there)

few_sectors : (n d : ℕ) → (d ≡ 512) ⊎ (d ≡ 4096) → n ≤ 131072 → div_ceil n d ≤ 256
few_sectors n d size short = elim size [
  | inl is ↦ subst (λ (m : ℕ). div_ceil n m ≤ 256) (sym is) (let few = (div_ceil_times n 512 (omega arith)).1 in omega (arith, few))
  | inr is ↦ subst (λ (m : ℕ). div_ceil n m ≤ 256) (sym is) (let few = (div_ceil_times n 4096 (omega arith)).1 in omega (arith, few))
]

pub stripes_few : (cut : Cut) (len : ℕ) → 1 ≤ cut.ndata → (cut.sector ≡ 512) ⊎ (cut.sector ≡ 4096) → len ≤ 131072 → stripes_of cut len ≤ 256
unfolding sectors_of
stripes_few cut len some sector short = omega (arith, few_stripes cut len some, few_sectors len cut.sector sector short)

-- a stripe has at most so many columns
pub narrow : (geometry : Geometry) → IsGeometry geometry → geometry.spec.parity + geometry.spec.ndata ≤ 64
narrow geometry g = omega (arith, g.columns, g.disks, g.width, g.spec.most_children)

-- ---- the sectors of one column, by how many columns the last stripe fills
pub in_full : (cut : Cut) (len i n h : ℕ) → n ≡ div_ceil len cut.sector → h ≡ stripes_of cut len → (n % cut.ndata ≡ 0) ⊎ (i < n % cut.ndata) → h ≡ sectors_in cut len i
unfolding sectors_in full_columns sectors_of
in_full cut len i n h is all few = rw (all, ← is) (elim few [ inl none ↦ grind (arith, nat_tests) | inr low ↦ grind (arith, nat_tests) ])

pub past_full : (cut : Cut) (len i n h : ℕ) → n ≡ div_ceil len cut.sector → h ≡ stripes_of cut len → (n % cut.ndata ≡ 0 → ⊥) → n % cut.ndata ≤ i → h - 1 ≡ sectors_in cut len i
unfolding sectors_in full_columns sectors_of
past_full cut len i n h is all some past = rw (all, ← is) (grind (arith, nat_tests))

pub some_left : (cut : Cut) (len n h : ℕ) → n ≡ div_ceil len cut.sector → h ≡ stripes_of cut len → (n % cut.ndata ≡ 0 → ⊥) → 1 ≤ h
unfolding full_columns sectors_of
some_left cut len n h is all some = rw all (some_stripes cut len (rw (← is) (omega (arith, some))))
