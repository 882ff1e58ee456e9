use Rattle.draid_map.proofs.Distinct.{place_within}
use Rattle.draid_map.proofs.laws.places_lie_apart.Goals as goal

pub returns-clause-within : goal.returns-clause-within
returns-clause-within c = λ geometry perms k a lay within in_group. place_within geometry perms k a lay.geometry_is within in_group
