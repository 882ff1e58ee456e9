use Rattle.std.proofs.Common.{arith}
use Rattle.draid_record.specs.Uber.{uber}
use Rattle.draid_record.proofs.Read.{is_found, is_only}
use Rattle.draid_record.proofs.uber.read_uber.Goals as goal

pub returns-clause-found : goal.returns-clause-found
returns-clause-found c = is_found (uber c.args.slot) c.args.bytes.now c.told.result (λ i. omega (arith, c.type_inv.bytes i)) c.told.ensures

pub returns-clause-only : goal.returns-clause-only
returns-clause-only c = λ body begins. is_only (uber c.args.slot) c.args.bytes.now c.told.result body c.told.ensures begins
