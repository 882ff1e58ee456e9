use Rattle.draid_found.proofs.NewestBeside.{note_one}
use Rattle.draid_found.proofs.beside.note_named.Goals as goal

pub returns : goal.returns
returns c = note_one c.args.block.now c.args.keys.now c.insert.new.self c.in_ok-insert.ensures.updates.0
