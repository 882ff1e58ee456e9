use Rattle.std.proofs.Common.{◌+◌, ◌≤◌, arith, subst, sym}
use Rattle.std.specs.Prelude.{MatchOption}
use Rattle.draid_rack.specs.Rack.{HasJust, Shape}
use Rattle.draid_columns.specs.Columns.{HasRows}
use Rattle.draid_tests_shard.proofs.columns.rows.Goals as goal

-- the rows are on a leaf that is there
has_rows : (shape : Shape) → HasJust shape 2 4 512 → HasRows shape (record { leaf = 1; first = 1; count = 2; size = 512 })
has_rows shape just = record {
  there = subst (λ o. MatchOption o ⊥ (λ sectors. 1 + 2 ≤ sectors)) (sym (just.there 1 (omega arith))) (omega arith);
  whole = sym just.length_of_sector;
  low = omega arith;
}

pub read_rows-requires-clause-there : goal.read_rows-requires-clause-there
read_rows-requires-clause-there c =
    subst (λ shape. HasRows shape (record { leaf = 1; first = 1; count = 2; size = 512 })) (sym c.write_rows.ensures.shape) (has_rows _ c.requires)
