use Rattle.draid_import.proofs.Opened.{opened_stands}
use Rattle.draid_import.proofs.standing.opened_shards_stand.Goals as goal

pub returns : goal.returns
returns g c kit shard group next w image doubtful pieces opens part reached is own version below has firm =
    opened_stands g.R.Rack g.A.Area.told kit shard group next w image doubtful pieces opens part reached is own version below has firm
