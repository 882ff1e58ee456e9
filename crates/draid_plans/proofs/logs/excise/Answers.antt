use Rattle.draid_plans.proofs.Changes.{excises_one}
use Rattle.draid_plans.proofs.logs.excise.Goals as goal

pub returns : goal.returns
returns c = excises_one c.args.slots.now c.excise.new.self c.set_fresh.new.self c.args.at c.args.upto c.excise.ensures.changes c.excise.ensures.room c.set_fresh.ensures
