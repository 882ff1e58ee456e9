use Rattle.std.proofs.Common.{◌∙◌, Some, ap, sym}
use Rattle.draid_restore.proofs.Solved.{restored_fits, solved_none, solved_valid}
use Rattle.draid_restore.proofs.solving.solve.Goals as goal

pub returns-in-Some-Block-clause-valid : goal.returns-in-Some-Block-clause-valid
returns-in-Some-Block-clause-valid g c =
    let e = c.restore_lent-solved.ensures in
    let lent = c.in-Some-Block.lent in
    solved_valid g.R.Rack c.args.shard.now c.requires.valid lent (sym c.take.ensures.value ∙ c.in-Some-Block.is ∙ ap Some (c.in-Some-Block.field-0-is))
    c.restore_lent-solved.new.lent e.rest (restored_fits c.args.shard.now.geometry lent c.restore_lent-solved.new.lent.restored c.restore_lent-solved.result e.answers e.none)

pub returns-in-Some-Block-clause-none : goal.returns-in-Some-Block-clause-none
returns-in-Some-Block-clause-none g c =
    let e = c.restore_lent-solved.ensures in
    let lent = c.in-Some-Block.lent in
    solved_none g.R.Rack c.args.shard.now c.requires.valid lent (sym c.take.ensures.value ∙ c.in-Some-Block.is ∙ ap Some (c.in-Some-Block.field-0-is))
    c.restore_lent-solved.new.lent e.rest (restored_fits c.args.shard.now.geometry lent c.restore_lent-solved.new.lent.restored c.restore_lent-solved.result e.answers e.none)
