use Rattle.draid_rack.proofs.Moments.{crash_orderly, crash_outcome, crash_read, crash_shaped, crash_told}
use Rattle.draid_rack.proofs.laws.crashes_follow_one_another.Goals as goal

pub returns : goal.returns
returns c = record { outcome = crash_outcome; told = crash_told; read = crash_read; orderly = crash_orderly; shaped = crash_shaped }
