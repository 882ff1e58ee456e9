use Rattle.std.proofs.Common.{◌≡◌, drop}
use Rattle.draid_machine.specs.Names.{has_name}
use Rattle.draid_world.proofs.arms.is_among.Given as goal

abbrev pub invariant-loop-found : goal.invariant-loop-found
invariant-loop-found l = has_name l.names l.name ≡ has_name (drop l.found-index l.names) l.name
