use Rattle.std.specs.Prelude.{◌≡◌, ◌+◌, ◌-◌, ◌*◌, ◌/◌, ◌%◌, ◌<◌, ℕ, [], length, take, drop, slice_index, slice_index_or}
use Rattle.std.specs.List.{range_with_len}
use Rattle.draid_perm.specs.Rows.{base_row}
use Rattle.draid_perm.specs.declared.perms.Perms.{Perms}

-- how many children are permuted
abbrev pub children_of : Perms → ℕ
children_of perms = perms.n

-- the permutations of n children that a seed gives: 16 base rows, behind whose n items the numbers up to 64
-- stand in order
pub record AreSeeded (perms : Perms) (n seed : ℕ) : Type 0 where
  pub children : children_of perms ≡ n
  pub rows : (row : ℕ) → row < 16 → take n (slice_index_or perms.rows row []) ≡ base_row n seed row
  pub rest : (row : ℕ) → row < 16 → drop n (slice_index_or perms.rows row []) ≡ range_with_len n (64 - n)
  pub many : length perms.rows ≡ 16

-- the child that stands at a position of a slice: that of a base row, turned on by one for each of n slices
abbrev pub child_of : Perms → ℕ → ℕ → ℕ
child_of perms slice position =
    let turn = slice % (16 * perms.n) in
    (slice_index (slice_index_or perms.rows (turn / perms.n) []) position + turn % perms.n) % perms.n

-- the child at a position of a slice, by the seed
abbrev pub seeded_child : ℕ → ℕ → ℕ → ℕ → ℕ
seeded_child n seed slice position =
    let turn = slice % (16 * n) in
    (slice_index (base_row n seed (turn / n)) position + turn % n) % n
