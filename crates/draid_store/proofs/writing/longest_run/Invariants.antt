use Rattle.std.proofs.Common.{◌≡◌, drop, max}
use Rattle.draid_session.specs.Rooms.{longest}
use Rattle.draid_store.proofs.writing.longest_run.Given as goal

-- the longest run so far, and those to come
abbrev pub invariant-loop-room : goal.invariant-loop-room
invariant-loop-room l = max l.run (longest (drop l.room-index l.rooms)) ≡ longest l.rooms
