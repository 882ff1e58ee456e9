use Rattle.std.proofs.Common.{ap}
use Rattle.draid_shelf.specs.Memory.{content_of}
use Rattle.draid_program.proofs.Booking.{by_book}
use Rattle.draid_program.proofs.sessions.run_in_memory.Goals as goal

pub returns-clause-book : goal.returns-clause-book
returns-clause-book g c = by_book _ _ _ _ _ _ _ _ _ _ c.run_on.ensures.run (ap content_of c.new_shelf-shelf.ensures.nothing.uber)
