-- Marks of arms: for each slot those of its arms, by their order.
use Rattle.std.specs.Prelude.{ℕ, Bool, false, List, [], slice_index_or}

-- whether the arm at a place is marked
abbrev pub is_marked : List (List Bool) → ℕ → ℕ → Bool
is_marked marks slot arm = slice_index_or (slice_index_or marks slot []) arm false
