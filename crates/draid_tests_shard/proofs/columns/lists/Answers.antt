use Rattle.std.proofs.Common.{◌<◌, ℕ, zero, suc, [], ◌∷◌, slice_index_or, arith, ap, is_some}
use Rattle.std.specs.Prelude.{IsSome}
use Rattle.draid_rack.specs.Rack.{HasJust, Shape}
use Rattle.draid_tests_shard.proofs.columns.lists.Goals as goal

-- both leaves are there
are_there : (shape : Shape) → HasJust shape 2 4 512 → (k d : ℕ) → k < 2 → IsSome (shape.leaves (slice_index_or (0 ∷ 1 ∷ []) k d))
are_there shape just zero d less = ap is_some (just.there 0 (omega arith))
are_there shape just (suc zero) d less = ap is_some (just.there 1 (omega arith))
are_there shape just (suc (suc k)) d less = absurd (omega (arith, less))

pub flush_leaves-requires-clause-there : goal.flush_leaves-requires-clause-there
flush_leaves-requires-clause-there c = are_there _ c.requires
