use Rattle.draid_stable.proofs.Settled.{settles_image}
use Rattle.draid_stable.proofs.sealing.settle.Goals as goal

pub returns-clause-image : goal.returns-clause-image
returns-clause-image c = settles_image c.args.it.now c.settle_parts.new.it c.args.marks.now c.args.wrote c.requires.ready c.settle_parts.ensures
