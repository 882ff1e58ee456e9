use Rattle.draid_map.proofs.Runs.{part_from, part_to}
use Rattle.draid_map.proofs.laws.metaslabs_lie_apart.Goals as goal

pub returns-clause-from : goal.returns-clause-from
returns-clause-from c geometry perms m k a lay in_group from = part_from geometry perms m k a lay.geometry_is in_group from

pub returns-clause-to : goal.returns-clause-to
returns-clause-to c geometry perms m k a lay in_group to = part_to geometry perms m k a lay.geometry_is in_group to
