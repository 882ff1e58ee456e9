use Rattle.draid_rack.proofs.Moments.{crash_flushed, crash_unwritten}
use Rattle.draid_rack.proofs.laws.crashes_keep_what_is_firm.Goals as goal

pub returns : goal.returns
returns c = record { flushed = crash_flushed; unwritten = crash_unwritten }
