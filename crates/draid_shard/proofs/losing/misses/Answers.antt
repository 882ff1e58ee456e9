use Rattle.std.proofs.Common.{◌∙◌, sym}
use Rattle.draid_shard.proofs.Holders.{leaf_is}
use Rattle.draid_shard.proofs.Missing.{missed_named, missed_silent, number_any}
use Rattle.draid_shard.proofs.losing.misses.Goals as goal

pub returns-then-not-answers : goal.returns-then-not-answers
returns-then-not-answers c = missed_silent c.args.slots.now c.args.rows c.args.failed.now c.args.arm (sym c.answers.ensures ∙ c.if-not-answers.true)

pub returns : goal.returns
returns c =
    c.is_among.ensures ∙ number_any c.args.failed.now c.place.result.leaf
    ∙ missed_named c.args.slots.now c.args.rows c.args.failed.now c.args.arm c.place.result.leaf (sym c.answers.ensures ∙ c.if-not-answers.false)
    (leaf_is c.args.slots.now c.args.rows c.args.arm c.place.result.leaf _ (sym c.requires.row.slice_is) c.place.ensures.leaf)
