use Rattle.draid_blocks.proofs.Readable.{readable}
use Rattle.draid_blocks.proofs.laws.fetched_blocks_are_readable.Goals as goal

pub returns : goal.returns
returns g c old new pointer fetched w h pieces bytes columns fetches valid stands held content are_columns are_pieces =
    readable g.R.Rack old new pointer fetched w h pieces bytes columns fetches valid stands held content are_columns are_pieces
