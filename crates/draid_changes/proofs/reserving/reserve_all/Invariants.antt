use Rattle.std.proofs.Common.{◌≡◌, length}
use Rattle.draid_session.specs.Arms as arms
use Rattle.draid_session.specs.State.{State}
use Rattle.draid_pool.specs.Failing.{AreasLater}
use Rattle.draid_pool.specs.Passes.{KeepsPasses}
use Rattle.draid_pool.specs.Pools.{Represents}
use Rattle.draid_pool.specs.Whole.{IsWhole}
use Rattle.draid_pool.proofs.SyncSteps.{Came}
use Rattle.draid_changes.specs.Walks.{ChangedBelow, Reserves, events_at}
use Rattle.draid_changes.proofs.reserving.reserve_all.Given as goal

abbrev pub invariant-loop-metaslab : goal.invariant-loop-metaslab
invariant-loop-metaslab g l = record {
  whole : IsWhole g.R.Rack g.A.Area l.pool;
  carries : (x : State) → Represents g.R.Rack g.A.Area l.initial.pool x → Came g.R.Rack g.A.Area (arms.Reserves x.geometry x.perms (events_at l.need)) l.metaslab 0 l.pool x;
  reserves : ChangedBelow (Reserves l.need) l.metaslab l.initial.pool.metaslabs.shards.items l.pool.metaslabs.shards.items;
  objects : l.pool.own.objects ≡ l.initial.pool.own.objects;
  uber : l.pool.uber ≡ l.initial.pool.uber;
  passes : KeepsPasses l.initial.pool l.pool;
  later : AreasLater g.A.Area.faults l.initial.pool l.pool;
  many : length l.pool.metaslabs.shards.items ≡ length l.initial.pool.metaslabs.shards.items;
}
