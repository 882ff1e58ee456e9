use Rattle.std.specs.Fn.{FnReturnsAt}
use Rattle.draid_session.specs.Choices.{choices_by}
use Rattle.draid_works.proofs.LaneTells.{commands_lead}
use Rattle.draid_works.proofs.telling.lane_commands_tell.Goals as goal

pub returns : goal.returns
returns g c x many job lane done next did y stands none =
    commands_lead g.R.Rack g.A.Area x (choices_by (FnReturnsAt g.F.Fn job.chooser.now)) many job.lines.items done.replies.items done.stopped lane next did.whole_before did.given did.done y stands none
