use Rattle.std.proofs.Common.{◌≡◌, ◌∙◌, List, ℕ, ap, subst}
use Rattle.draid_parity.specs.Columns.{column_at}
use Rattle.draid_block.specs.Blocks.{BlockValue, columns_of}
use Rattle.draid_block.proofs.Spread.{only_columns}
use Rattle.draid_block.proofs.encoded.Encoded.column.Goals as goal

pub returns-clause-block : goal.returns-clause-block
returns-clause-block c =
    subst (λ (b : BlockValue). c.column.result.now ≡ column_at (columns_of b.cut b.bytes) c.args.i) c.self.view_is
    (c.column.ensures.value ∙ ap (λ (columns : List (List ℕ)). column_at columns c.args.i) (only_columns _ _ _ c.self.invariant.columns))
