use Rattle.std.proofs.Common.{arith}
use Rattle.draid_gf.proofs.Laws.{table_inverse, table_inverse_is}
use Rattle.draid_gf.proofs.element.inv.Goals as goal

pub returns-clause-value : goal.returns-clause-value
returns-clause-value c = table_inverse_is c.args.a (omega arith) c.requires

pub returns-clause-inverse : goal.returns-clause-inverse
returns-clause-inverse c = table_inverse c.args.a (omega arith) c.requires
