use Rattle.std.proofs.Common.{sym, subst}
use Rattle.draid_restore.specs.Loans.{IsUnit, LendsBlock}
use Rattle.draid_restore.proofs.Asked.{asked_lends, asked_unit}
use Rattle.draid_restore.proofs.BlockLent.{unit_run}
use Rattle.draid_restore.proofs.Units.{left}
use Rattle.draid_restore.proofs.loans.lend_next.Goals as goal

pub make_room-requires-clause-run : goal.make_room-requires-clause-run
make_room-requires-clause-run g c = unit_run g.R.Rack c.args.shard.now c.requires.valid c.args.entry c.args.stripe c.requires.unit

pub lend_block-requires-clause-unit : goal.lend_block-requires-clause-unit
lend_block-requires-clause-unit g c =
    subst (λ s. IsUnit s c.args.entry c.args.stripe) (sym c.in-Ok.ensures.only) (asked_unit c.args.shard.now c.make_room.new.shard.idle c.make_room.new.shard.history c.args.entry c.args.stripe c.requires.unit)

pub returns-in-Ok-clause-unit : goal.returns-in-Ok-clause-unit
returns-in-Ok-clause-unit g c =
    asked_lends c.args.shard.now c.make_room.new.shard.idle c.make_room.new.shard.history g.R.Rack c.lend_block.new.shard c.in-Ok.ensures.history.events
    (subst (λ s. LendsBlock g.R.Rack s c.lend_block.new.shard) c.in-Ok.ensures.only c.lend_block.ensures.unit)

pub returns-in-Ok-clause-more : goal.returns-in-Ok-clause-more
returns-in-Ok-clause-more g c = left c.args.shard.now c.args.entry c.args.stripe c.requires.unit c.requires.running

pub returns-in-Err-Worn-clause-more : goal.returns-in-Err-Worn-clause-more
returns-in-Err-Worn-clause-more g c = left c.args.shard.now c.args.entry c.args.stripe c.requires.unit c.requires.running

pub returns-in-Err-NoMemory-clause-more : goal.returns-in-Err-NoMemory-clause-more
returns-in-Err-NoMemory-clause-more g c = left c.args.shard.now c.args.entry c.args.stripe c.requires.unit c.requires.running
