use Rattle.std.proofs.Common.{rules}
use Rattle.draid_spec.proofs.NamesRead.{names_read}
use Rattle.draid_spec.proofs.names.spec_name.Goals as goal

pub returns-clause-text : goal.returns-clause-text
returns-clause-text c = search rules

pub returns-clause-again : goal.returns-clause-again
returns-clause-again c = names_read c.args.spec c.format.result (returns-clause-text c)
