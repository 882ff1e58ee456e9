use Rattle.std.proofs.Common.{◌≡◌, List}
use Rattle.draid_machine.specs.declared.names.ArmName.{ArmName}
use Rattle.draid_pool.specs.Failing.{AreasLater}
use Rattle.draid_pool.specs.Syncing.{AreIdle}
use Rattle.draid_pool.specs.Whole.{IsWhole}
use Rattle.draid_changes.specs.Balancing.{AllMayLose, HasNoPass}
use Rattle.draid_changes.proofs.OthersGo.{Undone}
use Rattle.draid_changes.proofs.balancing.detach_but_last.Given as goal

abbrev pub invariant-loop-gone : goal.invariant-loop-gone
invariant-loop-gone g l = record {
  whole : IsWhole g.R.Rack g.A.Area l.pool;
  idle : AreIdle l.pool.metaslabs.shards.items;
  passes : HasNoPass l.pool;
  objects : l.pool.own.objects ≡ l.initial.pool.own.objects;
  later : AreasLater g.A.Area.faults l.initial.pool l.pool;
  undone : (others : List ArmName) (last : ArmName) → AllMayLose l.slot others last l.initial.pool → Undone g.R.Rack g.A.Area l.slot others last l.initial.pool l.pool l._gone;
}
