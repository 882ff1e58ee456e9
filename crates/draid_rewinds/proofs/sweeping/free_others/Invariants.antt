use Rattle.std.proofs.Common.{◌≤◌, length}
use Rattle.std.specs.Prelude.{nat_eq}
use Rattle.std.specs.HashMap.{get}
use Rattle.draid_rewinds.proofs.Others.{SweepingAll}
use Rattle.draid_rewinds.proofs.sweeping.free_others.Given as goal

-- the metaslabs below a number were gone through
abbrev pub invariant-loop-number : goal.invariant-loop-number
invariant-loop-number g l = record {
  all : SweepingAll g.R.Rack g.A.Area (get nat_eq l.objects) l.group l.number l.freed l.initial.shards.items l.shards.items;
  bound : l.number ≤ length l.initial.shards.items;
}
