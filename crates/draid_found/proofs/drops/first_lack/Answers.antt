use Rattle.draid_found.specs.Together.{noted_in}
use Rattle.draid_found.proofs.Born.{lacks_by, named_by}
use Rattle.draid_found.proofs.drops.first_lack.Goals as goal

pub returns-clause-none : goal.returns-clause-none
returns-clause-none g c = named_by c.args.shards.now c.args.upto c.args.drops.now (noted_in c.in_ok-keys.keys) c.first_out.result c.in_ok-keys.ensures c.first_out.ensures.none

pub returns-clause-some : goal.returns-clause-some
returns-clause-some g c = lacks_by c.args.shards.now c.args.upto c.args.drops.now (noted_in c.in_ok-keys.keys) c.first_out.result c.in_ok-keys.ensures c.first_out.ensures.some
