use Rattle.std.proofs.Common.{◌≤◌, ◌-◌}
use Rattle.std.specs.Prelude.{nat_eq}
use Rattle.std.specs.HashMap.{get}
use Rattle.draid_names.specs.declared.numbers.TheConstants.{NUMBERS}
use Rattle.draid_rewinds.proofs.NewestBorn.{NotingBorn}
use Rattle.draid_rewinds.proofs.tables.keep_born_in.Given as goal

-- the blocks below a stripe were looked at
abbrev pub invariant-loop-pointer : goal.invariant-loop-pointer
invariant-loop-pointer g l = record {
  noted : NotingBorn g.R.Rack l.shard l.group l.from (get nat_eq l.initial.newest) (get nat_eq l.newest);
  bound : l.from ≤ NUMBERS;
}

abbrev pub decreases-loop-pointer : goal.decreases-loop-pointer
decreases-loop-pointer g l = NUMBERS - l.from
