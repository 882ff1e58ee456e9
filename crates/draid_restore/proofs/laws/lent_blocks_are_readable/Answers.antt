use Rattle.draid_restore.proofs.LentReadable.{readable}
use Rattle.draid_restore.proofs.laws.lent_blocks_are_readable.Goals as goal

pub returns : goal.returns
returns g c old new w h pieces bytes columns lends v now stands held content are_columns are_pieces =
    readable g.R.Rack old new lends v now w h pieces bytes columns stands held content are_columns are_pieces
