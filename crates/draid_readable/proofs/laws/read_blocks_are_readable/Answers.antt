use Rattle.draid_readable.proofs.Readable.{readable}
use Rattle.draid_readable.proofs.laws.read_blocks_are_readable.Goals as goal

pub returns : goal.returns
returns c l cut w key h pieces fetched bytes failed told lay reached held live of are segments =
    readable l cut w key h pieces fetched bytes failed told lay reached held live of are segments
