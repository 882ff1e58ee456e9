use Rattle.draid_disks.proofs.Replanned.{scrub_holds}
use Rattle.draid_disks.proofs.replanning.replanned.Goals as goal

pub returns-in-Heal-clause-pass : goal.returns-in-Heal-clause-pass
returns-in-Heal-clause-pass c = scrub_holds c.args.slots.now c.marks_of-marks.result c.args.pass c.lose_marked.new.pass c.requires.pass c.lose_marked.ensures.lost
