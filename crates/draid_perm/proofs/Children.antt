use Rattle.std.proofs.Common.{◌≡◌, ◌+◌, ◌*◌, ◌-◌, ◌/◌, ◌%◌, ◌<◌, ◌≤◌, ℕ, List, [], length, take, slice_index, slice_index_or, sym, ap, ◌∙◌, arith}
use Rattle.std.proofs.Math.Nat.{mod-lt}
use Rattle.std.proofs.lemmas.List.{get_or-take, length-take}
use Rattle.draid_perm.specs.declared.perms.Perms.{Perms}
use Rattle.draid_perm.specs.Perms.{AreSeeded, child_of, seeded_child}
use Rattle.draid_perm.specs.Rows.{IsPermuted, base_row}
use Rattle.draid_perm.proofs.Turns.{turn_row, turned_back, turned_apart}

-- two positions of a slice stand on two children
pub child_apart : (perms : Perms) (slice a b : ℕ) → a < perms.n → b < perms.n → child_of perms slice a ≡ child_of perms slice b → a ≡ b
child_apart perms slice a b left right same =
    let some : 0 < perms.n = let h : 2 ≤ perms.n = perms.least in omega arith in
    let p : IsPermuted perms.n (slice_index_or perms.rows (slice % (16 * perms.n) / perms.n) []) = perms.permuted (slice % (16 * perms.n) / perms.n) (turn_row slice perms.n some) in
    let less : slice % (16 * perms.n) % perms.n < perms.n = mod-lt (slice % (16 * perms.n)) some in
    p.apart a b left right (turned_apart _ _ (slice % (16 * perms.n) % perms.n) perms.n (p.below a left) (p.below b right) less same)

-- a child stands below the number of children
pub child_below : (perms : Perms) (slice position : ℕ) → child_of perms slice position < perms.n
child_below perms slice position =
    let some : 0 < perms.n = let h : 2 ≤ perms.n = perms.least in omega arith in
    mod-lt _ some

-- the place of an item that was turned back
pub position_in : (n : ℕ) (row : List ℕ) (index : ℕ) → index < length (take n row) → index < n
position_in n row index within = omega (arith, length-take n row)

pub child_at : (perms : Perms) (slice child row turn index : ℕ) → child < perms.n → row ≡ slice % (16 * perms.n) / perms.n → turn ≡ slice % (16 * perms.n) % perms.n
    → index < length (take perms.n (slice_index_or perms.rows row []))
    → slice_index (take perms.n (slice_index_or perms.rows row [])) index ≡ (child + perms.n - turn) % perms.n
    → child_of perms slice index ≡ child
child_at perms slice child row turn index below row_is turn_is within item =
    let some : 0 < perms.n = let h : 2 ≤ perms.n = perms.least in omega arith in
    let short : index < perms.n = position_in perms.n (slice_index_or perms.rows row []) index within in
    let less : turn < perms.n = let h : slice % (16 * perms.n) % perms.n < perms.n = mod-lt (slice % (16 * perms.n)) some in omega arith in
    let base : slice_index (slice_index_or perms.rows row []) index ≡ (child + perms.n - turn) % perms.n = sym (get_or-take perms.n (slice_index_or perms.rows row []) index 0 short) ∙ item in
    let turned : ℕ → ℕ → ℕ = λ r t. (slice_index (slice_index_or perms.rows r []) index + t) % perms.n in
    ap (λ r. turned r (slice % (16 * perms.n) % perms.n)) (sym row_is)
    ∙ (ap (turned row) (sym turn_is)
    ∙ (ap (λ x. (x + turn) % perms.n) base ∙ turned_back child turn perms.n below less))

-- the children of a seed's permutations are those of its base rows
pub child_seeded : (perms : Perms) (n seed slice position : ℕ) → AreSeeded perms n seed → position < n → child_of perms slice position ≡ seeded_child n seed slice position
child_seeded perms n seed slice position are short =
    let same : perms.n ≡ n = are.children in
    let some : 0 < n = let h : 2 ≤ perms.n = perms.least in omega arith in
    let base : take n (slice_index_or perms.rows (slice % (16 * n) / n) []) ≡ base_row n seed (slice % (16 * n) / n)
    = are.rows (slice % (16 * n) / n) (turn_row slice n some) in
    let item : slice_index (slice_index_or perms.rows (slice % (16 * n) / n) []) position ≡ slice_index (base_row n seed (slice % (16 * n) / n)) position
    = sym (get_or-take n (slice_index_or perms.rows (slice % (16 * n) / n) []) position 0 short) ∙ ap (λ r. slice_index r position) base in
    ap (λ k. (slice_index (slice_index_or perms.rows (slice % (16 * k) / k) []) position + slice % (16 * k) % k) % k) same
    ∙ ap (λ x. (x + slice % (16 * n) % n) % n) item
