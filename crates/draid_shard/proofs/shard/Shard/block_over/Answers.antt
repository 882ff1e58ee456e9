use Rattle.std.proofs.Common.{◌∙◌, subst, sym}
use Rattle.std.proofs.lemmas.Bool.{true≢false}
use Rattle.draid_shard.specs.Looks.{IsBlockUpto}
use Rattle.draid_shard.proofs.Over.{if_none}
use Rattle.draid_shard.proofs.shard.Shard.block_over.Goals as goal

pub returns-in_err-entry-clause-none : goal.returns-in_err-entry-clause-none
returns-in_err-entry-clause-none g c = if_none c.from_residual.result _ (λ e is. c.in_err-entry.ensures.none e is.over)

pub returns-then-is_block_upto-clause-some : goal.returns-then-is_block_upto-clause-some
returns-then-is_block_upto-clause-some g c = record { over = c.in_ok-entry.ensures.some; block = c.is_block_upto.ensures.0 c.if-is_block_upto.true }

pub returns-else-is_block_upto-clause-none : goal.returns-else-is_block_upto-clause-none
returns-else-is_block_upto-clause-none g c = λ e is.
    true≢false (sym (c.is_block_upto.ensures.1 (subst (IsBlockUpto c.args.upto) (c.in_ok-entry.ensures.only e is.over) is.block)) ∙ c.if-is_block_upto.false)

pub entry_over-requires : goal.entry_over-requires
entry_over-requires g c = record { valid = c.requires.valid }
