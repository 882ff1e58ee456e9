use Rattle.draid_export.proofs.OnePass.{Found}
use Rattle.draid_export.proofs.unsynced.is_unsynced.Given as goal

abbrev pub invariant-loop-event : goal.invariant-loop-event
invariant-loop-event l = Found l.committed l.events l.event-index l.closed l.others l.commits
