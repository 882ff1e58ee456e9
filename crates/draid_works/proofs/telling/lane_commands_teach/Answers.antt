use Rattle.std.proofs.Common.{refl}
use Rattle.std.specs.Fn.{FnReturnsAt}
use Rattle.draid_session.specs.Choices.{choices_by}
use Rattle.draid_lanes.specs.Locks.{owned_by}
use Rattle.draid_works.proofs.LaneTeaches.{all_taught}
use Rattle.draid_works.proofs.telling.lane_commands_teach.Goals as goal

pub returns : goal.returns
returns g c job lane done next did rest known knows =
    all_taught g.R.Rack g.A.Area (choices_by (FnReturnsAt g.F.Fn job.chooser.now)) (owned_by lane.metaslabs.passes.items) rest job.lines.items done.replies.items done.stopped lane next refl did.done did.fits known knows
