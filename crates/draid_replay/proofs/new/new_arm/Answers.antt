use Rattle.std.proofs.Common.{false, None}
use Rattle.draid_replay.proofs.new.new_arm.Goals as goal

pub returns : goal.returns
returns c = λ i. record { offline = false; fresh = false; log = λ g. c.new.ensures g i; gone = None }
