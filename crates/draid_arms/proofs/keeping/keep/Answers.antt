use Rattle.std.proofs.Common.{Some}
use Rattle.draid_arms.proofs.Lost.{kept_updated}
use Rattle.draid_arms.proofs.keeping.keep.Goals as goal

pub returns : goal.returns
returns c = kept_updated c.args.kept.now.entries c.insert.new.self.entries c.args.segment (Some c.args.group) c.in_ok-insert.ensures.updates.0
