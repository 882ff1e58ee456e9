use Rattle.std.proofs.Common.{rules}
use Rattle.std.proofs.lemmas.List.{nil_from_length}
use Rattle.draid_summary.proofs.Tallying.{tallied_all}
use Rattle.draid_summary.proofs.text.tally_of.Goals as goal

pub returns : goal.returns
returns c = tallied_all c.args.printed.now c.lines.rest.now c.lines.tally c.lines.invariant (nil_from_length c.lines.rest.now (search rules))
