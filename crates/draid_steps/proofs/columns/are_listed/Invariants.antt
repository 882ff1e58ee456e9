use Rattle.std.proofs.Common.{◌≡◌, drop}
use Rattle.std.specs.List.{list_all}
use Rattle.draid_machine.specs.Names.{has_name}
use Rattle.draid_steps.proofs.columns.are_listed.Given as goal

abbrev pub invariant-loop-name : goal.invariant-loop-name
invariant-loop-name l = list_all (has_name l.names) l.landed ≡ list_all (has_name l.names) (drop l.name-index l.landed)
