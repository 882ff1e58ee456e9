use Rattle.draid_shard.proofs.Standing.{event_stands, none_stands}
use Rattle.draid_shard.proofs.laws.calls_keep_what_stands.Goals as goal

pub returns-clause-event : goal.returns-clause-event
returns-clause-event g c old new e w pieces written is does acts stands same = event_stands g.R.Rack old new e w pieces written is does acts stands same

pub returns-clause-none : goal.returns-clause-none
returns-clause-none g c old new w pieces none told stands = none_stands g.R.Rack old new w pieces none told stands
