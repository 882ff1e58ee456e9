use Rattle.draid_found.proofs.Together.{notes_only}
use Rattle.draid_found.proofs.finding.Found.note.Goals as goal

pub returns-clause-keys : goal.returns-clause-keys
returns-clause-keys c = notes_only c.args.pointer c.args.self.now.keys c.insert.new.self c.in_ok-insert.ensures.updates.0
