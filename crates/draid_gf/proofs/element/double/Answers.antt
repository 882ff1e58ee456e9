use Rattle.std.proofs.Common.{arith}
use Rattle.draid_gf.proofs.Laws.{double_byte}
use Rattle.draid_gf.proofs.element.double.Goals as goal

pub returns : goal.returns
returns c = double_byte c.args.a (omega arith)
