use Rattle.std.proofs.Common.{◌∙◌, refl, sym}
use Rattle.draid_session.specs.Passes as passes
use Rattle.draid_session.proofs.Sparing.{scrub_none}
use Rattle.draid_session.proofs.scrubs.sound_pools_are_left_alone.Goals as goal

pub returns : goal.returns
returns g c limit from blocks repaired errors paused old new it reached sound =
    let does = it.does in
    sym does.1.4 ∙ scrub_none old.geometry old.perms limit it.holds (passes.outcome_of paused) does.1.0 old it.mid refl refl does.1.1 sound it.follows reached
