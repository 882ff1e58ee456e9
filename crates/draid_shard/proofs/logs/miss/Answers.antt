use Rattle.draid_ranges.specs.Numbers.{has}
use Rattle.std.proofs.Common.{◌∙◌, sym, ap}
use Rattle.draid_shard.proofs.logs.miss.Goals as goal

pub dirty-requires-clause-there : goal.dirty-requires-clause-there
dirty-requires-clause-there c = c.requires.there

pub dirty-requires-clause-range : goal.dirty-requires-clause-range
dirty-requires-clause-range c = c.requires.birth

pub dirty-requires-clause-room : goal.dirty-requires-clause-room
dirty-requires-clause-room c = c.requires.room c.args.at c.requires.there (ap (λ log. has log c.args.birth) (sym c.log.ensures) ∙ sym c.contains.ensures ∙ c.if-not-contains.true)
