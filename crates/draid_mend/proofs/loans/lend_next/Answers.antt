use Rattle.std.proofs.Common.{sym, subst}
use Rattle.draid_mend.specs.Loans.{IsUnit, LendsUnit}
use Rattle.draid_mend.proofs.Loaned.{asked_lends, asked_unit}
use Rattle.draid_mend.proofs.loans.lend_next.Goals as goal

pub lend_unit-requires-clause-unit : goal.lend_unit-requires-clause-unit
lend_unit-requires-clause-unit g c =
    subst (λ s. IsUnit s c.args.entry c.args.stripe) (sym c.in-Ok.ensures.only) (asked_unit c.args.shard.now c.make_room.new.shard.idle c.make_room.new.shard.history c.args.entry c.args.stripe c.requires.unit)

pub returns-in-Ok-clause-unit : goal.returns-in-Ok-clause-unit
returns-in-Ok-clause-unit g c =
    asked_lends c.args.shard.now c.make_room.new.shard.idle c.make_room.new.shard.history g.R.Rack c.lend_unit.new.shard c.in-Ok.ensures.history.events
    (subst (λ s. LendsUnit g.R.Rack s c.lend_unit.new.shard) c.in-Ok.ensures.only c.lend_unit.ensures.unit)
