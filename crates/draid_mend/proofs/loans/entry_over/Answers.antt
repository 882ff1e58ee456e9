use Rattle.std.proofs.Common.{arith}
use Rattle.draid_shard.proofs.Over.{if_none, none_last, none_over}
use Rattle.draid_mend.proofs.loans.entry_over.Goals as goal

pub returns-in_err-entry-clause-none : goal.returns-in_err-entry-clause-none
returns-in_err-entry-clause-none g c = if_none c.from_residual.result _ (none_over c.args.shard.now.entries c.args.stripe c.in_err-entry.ensures.none)

pub returns-then-stripe-entry-clause-some : goal.returns-then-stripe-entry-clause-some
returns-then-stripe-entry-clause-some g c =
    let at = c.in_ok-entry.ensures in
    let upto = at.upto in
    let less = c.if-stripe-entry.true in
    let same = c.from.ensures in
    record { there = at.there; from = upto; to = omega (arith, upto, less, same) }

pub returns-else-stripe-entry-clause-none : goal.returns-else-stripe-entry-clause-none
returns-else-stripe-entry-clause-none g c =
    let at = c.in_ok-entry.ensures in
    let upto = at.upto in
    let past = c.if-stripe-entry.false in
    let same = c.from.ensures in
    none_last c.args.shard.now.entries c.args.stripe c.in_ok-entry.entry at.there upto at.last c.requires.valid.tables.apart (omega (arith, upto, past, same))

pub overflow_sub-stripe : goal.overflow_sub-stripe
overflow_sub-stripe g c = c.in_ok-entry.ensures.upto
