use Rattle.std.proofs.Common.{rules}
use Rattle.draid_uber.proofs.Recorded.{check_read}
use Rattle.draid_uber.proofs.Spelling.{check_ranges}
use Rattle.draid_uber.proofs.checks.check_of.Goals as goal

pub returns-clause-found : goal.returns-clause-found
returns-clause-found c = check_read c.read_check.result c.args.group c.args.bytes.now (search rules) c.read_check.ensures.exact

pub returns-clause-range : goal.returns-clause-range
returns-clause-range c = check_ranges c.args.group c.args.bytes.now c.read_check.result c.read_check.ensures.found
