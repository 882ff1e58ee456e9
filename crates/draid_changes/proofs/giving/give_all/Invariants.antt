use Rattle.std.proofs.Common.{◌≡◌, ◌≤◌, ◌+◌, ℕ, length}
use Rattle.draid_agent.specs.Policy.{PolicyReturns}
use Rattle.draid_pool.specs.Failing.{AreasLater}
use Rattle.draid_pool.specs.Pointers.{SamePointers}
use Rattle.draid_pool.specs.Syncing.{AreIdle}
use Rattle.draid_pool.specs.Whole.{IsWhole}
use Rattle.draid_changes.specs.Giving.{AllReady}
use Rattle.draid_changes.proofs.GivenOut.{Given}
use Rattle.draid_changes.proofs.giving.give_all.Given as goal

abbrev pub invariant-loop-due : goal.invariant-loop-due
invariant-loop-due g l = record {
  whole : IsWhole g.R.Rack g.A.Area l.pool;
  idle : AreIdle l.pool.metaslabs.shards.items;
  ready : (more : ℕ) → more + l.due-index ≡ length l.dues → AllReady more l.pool;
  room : length l.dues ≤ l.journal.spare + l.due-index;
  same : SamePointers l.initial.pool l.pool;
  later : AreasLater g.A.Area.faults l.initial.pool l.pool;
  given : Given g.R.Rack g.A.Area (PolicyReturns g.P.Fn l.policy) l.dues l.initial.pool l.initial.journal.entries l.due-index l.pool l.journal.entries l.free.items;
}
