use Rattle.std.proofs.Common.{◌≡◌, drop}
use Rattle.draid_machine.specs.Names.{has_number}
use Rattle.draid_scrubs.proofs.patches.has_row.Given as goal

abbrev pub invariant-loop-found : goal.invariant-loop-found
invariant-loop-found l = has_number l.rows l.row ≡ has_number (drop l.found-index l.rows) l.row
