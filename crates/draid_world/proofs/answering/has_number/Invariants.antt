use Rattle.std.proofs.Common.{◌≡◌, drop}
use Rattle.draid_machine.specs.Names.{has_number}
use Rattle.draid_world.proofs.answering.has_number.Given as goal

abbrev pub invariant-loop-found : goal.invariant-loop-found
invariant-loop-found l = has_number l.numbers l.number ≡ has_number (drop l.found-index l.numbers) l.number
