use Rattle.std.proofs.Common.{◌≡◌, ℕ, zero, suc, List, [], ◌∷◌, Option, Some, None, IsSomeAnd, length, get_or, option_map, slice_get, sym, ap, ◌∙◌}
use Rattle.draid_rack.specs.declared.leaf.Leaf.{Leaf}
use Rattle.draid_rack.specs.declared.sector.Sector.{Sector}
use Rattle.draid_rack.specs.Leaves.{bytes_of, leaf_at, view_in}
use Rattle.draid_rack.specs.Sectors.{view_of}
use Rattle.draid_rack.proofs.leaves.read_sector.Goals as goal

row_found : (rows : List Sector) (s n : ℕ) (row : Sector) → row ≡ get_or rows s row → IsSomeAnd (option_map view_of (slice_get rows s)) (λ x. length x.bytes ≡ n)
    → (option_map view_of (slice_get rows s) ≡ Some (view_of row)) × (length row.bytes.items ≡ n)
row_found [] s n row is there = absurd there
row_found (x ∷ rows) zero n row is there = (ap (λ r. Some (view_of r)) (sym is), ap (λ r. length r.bytes.items) is ∙ there)
row_found (x ∷ rows) (suc s) n row is there = row_found rows s n row is there

-- the sector that is there, of the leaf that was found
found : (o : Option Leaf) (leaf : Leaf) (s n : ℕ) (row : Sector) → Some leaf ≡ o → row ≡ get_or leaf.sectors.items s row → IsSomeAnd (view_in o s) (λ x. length x.bytes ≡ n)
    → (view_in o s ≡ Some (view_of row)) × (length row.bytes.items ≡ n)
found None leaf s n row is row_is there = absurd there
found (Some x) leaf s n row is row_is there =
    let same : leaf ≡ x = cc in
    row_found x.sectors.items s n row (row_is ∙ ap (λ (l : Leaf). get_or l.sectors.items s row) same) there

no_leaf : (o : Option Leaf) (s n : ℕ) → None ≡ o → IsSomeAnd (view_in o s) (λ x. length x.bytes ≡ n) → ⊥
no_leaf None s n is there = there
no_leaf (Some leaf) s n is there = cc

pub copy_from_slice-requires : goal.copy_from_slice-requires
copy_from_slice-requires c =
    let row = found (leaf_at c.args.leaves.now c.args.leaf) c.in-Some.place.now c.args.sector _ c.index.result.now c.in-Some.ensures.value c.index.ensures c.requires in
    sym row.1 ∙ sym (ap length c.as_slice.ensures.value)

pub returns-in-Some : goal.returns-in-Some
returns-in-Some c =
    let row = found (leaf_at c.args.leaves.now c.args.leaf) c.in-Some.place.now c.args.sector _ c.index.result.now c.in-Some.ensures.value c.index.ensures c.requires in
    ap bytes_of row.0 ∙ ap Some (sym (c.copy_from_slice.ensures.after ∙ c.as_slice.ensures.value))

pub returns-in_default : goal.returns-in_default
returns-in_default c = absurd (no_leaf (leaf_at c.args.leaves.now c.args.leaf) c.args.sector _ c.in_default.ensures.value c.requires)
