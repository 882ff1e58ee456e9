use Rattle.draid_gf.proofs.Laws.{is_field, remainders_agree}
use Rattle.draid_gf.proofs.Powers.{powers_differ}
use Rattle.draid_gf.proofs.law.field_laws.Goals as goal

pub returns-clause-field : goal.returns-clause-field
returns-clause-field c = is_field

pub returns-clause-remainder : goal.returns-clause-remainder
returns-clause-remainder c = remainders_agree

pub returns-clause-powers : goal.returns-clause-powers
returns-clause-powers c = powers_differ
