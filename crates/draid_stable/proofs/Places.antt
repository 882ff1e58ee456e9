-- The blocks of a record in its ranges: they lie in the metaslab, ascending.
use Rattle.std.proofs.Common.{◌≡◌, ◌+◌, ◌-◌, ◌*◌, ◌/◌, ◌%◌, ◌<◌, ◌≤◌, inl, inr, ℕ, zero, suc, List, [], ◌∷◌, All, arith, refl, subst}
use Rattle.std.proofs.Math.Nat.{mod-lt, mul-le-mul, mul-le-mul_right}
use Rattle.draid_names.specs.declared.numbers.TheConstants.{NUMBERS}
use Rattle.draid_names.specs.declared.pointer.Pointer.{Pointer}
use Rattle.draid_spec.specs.declared.layout.Geometry.{Geometry}
use Rattle.draid_spec.specs.Geometry.{IsGeometry, metaslab_stripes}
use Rattle.draid_map.proofs.Radix.{first_below, its_digits}
use Rattle.draid_metaslab.specs.Spaces.{IsSpan}
use Rattle.draid_entries.specs.Listed.{AscendFrom}
use Rattle.draid_record.specs.declared.limits.Limits.{Limits}
use Rattle.draid_record.specs.Ranges.{AreBlocks, IsBlock}
use Rattle.draid_record.specs.Record.{AreLimits, limits_of}

-- ---- the ranges that a layout gives

pub some_stripes : (geometry : Geometry) → IsGeometry geometry → 0 < metaslab_stripes geometry
some_stripes geometry is =
    let height : 1 ≤ geometry.props.height = (let h = is.props.least_height in omega (arith, h)) in
    let groups : 1 * 1 ≤ geometry.props.slices * geometry.ngroups = mul-le-mul is.props.some_slices is.slice.some_groups in
    let some : 1 * 1 * 1 ≤ metaslab_stripes geometry = mul-le-mul groups height in
    omega (arith, some)

pub few_stripes : (geometry : Geometry) → IsGeometry geometry → metaslab_stripes geometry ≤ NUMBERS
few_stripes geometry is =
    let groups : geometry.ngroups ≤ 64 = (let a = is.slice.most_groups in let b = is.disks in let d = is.spec.most_children in omega (arith, a, b, d)) in
    let most : metaslab_stripes geometry ≤ 1024 * 64 * 4096 = mul-le-mul (mul-le-mul is.props.most_slices groups) is.props.most_height in
    omega (arith, most)

pub sound_limits : (geometry : Geometry) (metaslab group next : ℕ) → IsGeometry geometry → AreLimits (limits_of geometry metaslab group next)
sound_limits geometry metaslab group next is = record {
  some_sector = elim is.props.sector [ inl small ↦ omega (arith, small) | inr large ↦ omega (arith, large) ];
  most_sector = elim is.props.sector [ inl small ↦ omega (arith, small) | inr large ↦ omega (arith, large) ];
  some_data = is.spec.some_data;
  most_data = (let c = is.columns in let w = is.width in let d = is.disks in let m = is.spec.most_children in omega (arith, c, w, d, m));
  some_height = (let h = is.props.least_height in omega (arith, h));
  most_stripes = few_stripes geometry is;
}

-- ---- blocks

pub ascending : (limits : Limits) (low from : ℕ) (blocks : List Pointer) → AreBlocks limits low blocks → from ≤ low → AscendFrom from blocks
ascending limits low from [] are le = tt
ascending limits low from (b ∷ bs) are le =
    let behind = are.0.behind_low in
    let some = are.0.some_stripes in
    (omega (arith, behind, le), ascending limits (b.first + b.stripes) (b.first + 1) bs are.1 (omega (arith, some)))

-- each block is one of its ranges, from somewhere on
pub each_block : (P : Pointer → Type 0) (limits : Limits) (low : ℕ) (blocks : List Pointer) → AreBlocks limits low blocks → ((low : ℕ) (b : Pointer) → IsBlock limits low b → P b) → All P blocks
each_block P limits low [] are has k d less = absurd (omega (arith, less))
each_block P limits low (b ∷ bs) are has zero d less = has low b are.0
each_block P limits low (b ∷ bs) are has (suc k) d less = each_block P limits (b.first + b.stripes) bs are.1 has k d (omega (arith, less))

-- what begins in a group of a whole number of them, and ends in it, ends below all
within : (height total groups first stripes : ℕ) → 0 < height → total ≡ groups * height → first < total → stripes ≤ height - first % height → first + stripes ≤ total
within height total groups first stripes some is below fits =
    let digits : first / height * height + first % height ≡ first = its_digits height first in
    let less : first % height < height = mod-lt first some in
    let q : first / height < groups = first_below height first groups some (subst (λ n. first < n) is below) in
    let up : (first / height + 1) * height ≤ groups * height = mul-le-mul_right height (omega (arith, q)) in
    let next : (first / height + 1) * height ≡ first / height * height + height = grind arith in
    omega (arith, digits, less, up, next, is, fits)

pub inside : (geometry : Geometry) (metaslab group next low : ℕ) (b : Pointer) → IsGeometry geometry → IsBlock (limits_of geometry metaslab group next) low b → IsSpan (metaslab_stripes geometry) b.first b.stripes
inside geometry metaslab group next low b is block =
    let some = some_stripes geometry is in
    let least = block.some_stripes in
    let first = block.inside in
    let height = is.props.least_height in
    record {
      some = omega (arith, least);
      below = within geometry.props.height (metaslab_stripes geometry) (geometry.props.slices * geometry.ngroups) b.first b.stripes (omega (arith, height)) refl (omega (arith, some, first)) block.in_group;
    }

pub low_block : (limits : Limits) (low : ℕ) (b : Pointer) → limits.stripes ≤ NUMBERS → IsBlock limits low b → b.first < NUMBERS
low_block limits low b few block = let inside = block.inside in omega (arith, few, inside)
