use Rattle.std.proofs.Common.{◌-◌}
use Rattle.std.specs.Prelude.{nat_eq}
use Rattle.std.specs.HashMap.{get}
use Rattle.draid_names.specs.declared.numbers.TheConstants.{NUMBERS}
use Rattle.draid_rewinds.proofs.Others.{Sweeping}
use Rattle.draid_rewinds.proofs.sweeping.free_others_in.Given as goal

-- the blocks below a stripe were looked at
abbrev pub invariant-loop-pointer : goal.invariant-loop-pointer
invariant-loop-pointer g l = Sweeping g.R.Rack g.A.Area (get nat_eq l.objects) l.group l.from l.freed l.initial.shard l.shard

abbrev pub decreases-loop-pointer : goal.decreases-loop-pointer
decreases-loop-pointer g l = NUMBERS - l.from
