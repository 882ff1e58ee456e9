-- The room of a loan and the columns of a restored block are fit for a landing.
use Rattle.std.proofs.Common.{arith, ◌≡◌, ◌+◌, ◌*◌, ◌≤◌, ◌∙◌, ℕ, List, Vec, Global, ap, ap₂, sym, length}
use Rattle.std.proofs.Math.Nat.{mul-le-mul_right}
use Rattle.draid_block.specs.Blocks.{column_len, cut_of}
use Rattle.draid_block.specs.Columns.{Cut, stripes_of}
use Rattle.draid_spec.specs.Geometry.{IsGeometry}
use Rattle.draid_spec.specs.declared.layout.Geometry.{Geometry}
use Rattle.draid_shard.specs.Loans.{IsLandingRoom, most_arms}
use Rattle.draid_shard.specs.declared.loan.LandingRoom.{LandingRoom}
use Rattle.draid_names.specs.declared.pointer.Pointer.{Pointer}
use Rattle.draid_shard.specs.declared.loan.Spot.{Spot}
use Rattle.draid_heal.specs.Arms.{FitsRoom}

-- the room of a loan is, with as many arms as there may be
pub fits_room : (geometry : Geometry) (stripes : ℕ) (room : LandingRoom) (spots : Vec Spot Global) → IsLandingRoom geometry stripes room → length spots.items ≤ most_arms * geometry.g
    → FitsRoom stripes geometry.props.sector (record room { spots = spots })
fits_room geometry stripes room spots is few = record {
  sector = is.sector;
  parts = is.parts;
  enough = (let a = is.enough in omega (arith, few, a));
  empty = is.empty;
  patched = (let a = is.patched in omega (arith, few, a));
  none = is.none;
  failed = (let a = is.failed in let m = mul-le-mul_right (2 * stripes + 1) few in omega (arith, a, m));
}

-- a restored block has as many columns as the layout, each of the length of its rows
pub columns_are : (geometry : Geometry) (cut : Cut) → IsGeometry geometry → cut ≡ cut_of geometry → cut.parity + cut.ndata ≡ geometry.g
columns_are geometry cut is same = ap (λ (c : Cut). c.parity + c.ndata) same ∙ sym is.columns

pub rows_are_long : (geometry : Geometry) (pointer : Pointer) (cut : Cut) (bytes : List ℕ) → cut ≡ cut_of geometry → length bytes ≡ pointer.len → pointer.stripes ≡ stripes_of (cut_of geometry) pointer.len
    → column_len cut (length bytes) ≡ pointer.stripes * geometry.props.sector
unfolding column_len
rows_are_long geometry pointer cut bytes same long stripes = ap₂ column_len same long ∙ ap (λ n. n * geometry.props.sector) (sym stripes)
