use Rattle.draid_run.proofs.Lining.{adds_line}
use Rattle.draid_run.proofs.lanes.add_line.Goals as goal

pub returns : goal.returns
returns c = record { added = adds_line c.args.lanes.now.items c.args.lane c.index_mut.result.now c.push.new.self c.args.line c.requires.there c.index_mut.ensures.value c.in_ok-push.ensures.items }
