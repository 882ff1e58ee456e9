use Rattle.draid_block.specs.Blocks.{cut_of}
use Rattle.draid_block.proofs.Solves.{read_some}
use Rattle.draid_block.proofs.search.solve_absent.Goals as goal

pub returns-in-Some : goal.returns-in-Some
returns-in-Some c = read_some (cut_of c.args.geometry.now) c.args.fetched.now c.in_ok-bytes.field-0 c.in-Some.bytes c.in-Some.is c.in_ok-bytes.ensures
