use Rattle.draid_record.proofs.Spelled.{spelled_long, spelled_ranged}
use Rattle.draid_record.proofs.law.what_is_spelled_is_in_range.Goals as goal

pub returns-clause-ranges : goal.returns-clause-ranges
returns-clause-ranges c = spelled_ranged

pub returns-clause-front : goal.returns-clause-front
returns-clause-front c = spelled_long
