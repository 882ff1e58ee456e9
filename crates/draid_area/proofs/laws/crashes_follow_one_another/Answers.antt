use Rattle.draid_area.proofs.Moments.{crash_left, crash_orderly, crash_outcome, crash_read, crash_told}
use Rattle.draid_area.proofs.laws.crashes_follow_one_another.Goals as goal

pub returns : goal.returns
returns c = record { left = crash_left; read = crash_read; outcome = crash_outcome; told = crash_told; orderly = crash_orderly }
