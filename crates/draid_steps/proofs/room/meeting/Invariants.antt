use Rattle.std.proofs.Common.{◌≡◌}
use Rattle.draid_steps.specs.Room.{first_meeting}
use Rattle.draid_steps.proofs.Entries.{AreApart, AllLow}
use Rattle.draid_steps.proofs.room.meeting.Given as goal

abbrev pub invariant-loop-found : goal.invariant-loop-found
invariant-loop-found l =
    (first_meeting l.first l.stripes l.held.entries ≡ first_meeting l.first l.stripes l.found-iterator) × AreApart l.found-iterator × AllLow l.found-iterator
