use Rattle.std.proofs.Common.{◌≡◌, length}
use Rattle.std.specs.Fn.{FnReturnsAt}
use Rattle.draid_session.specs.State.{State}
use Rattle.draid_pool.specs.Carries.{CarriesOut}
use Rattle.draid_pool.specs.Pools.{Represents}
use Rattle.draid_pool.specs.Whole.{IsWhole}
use Rattle.draid_store.proofs.Filled.{FillsOf}
use Rattle.draid_store.proofs.Teaching.{FillsKnown}
use Rattle.draid_store.proofs.filling.fill.Given as goal

-- the objects so far have their contents
abbrev pub invariant-loop-written : goal.invariant-loop-written
invariant-loop-written g l = record {
  long : length l.bytes.items ≡ l.fn.len;
  whole : IsWhole g.R.Rack g.A.Area l.pool;
  knows : FillsKnown l.fn.first l.fn.len l.fn.seed l.written l.initial.pool l.pool;
  filled : (x : State) → Represents g.R.Rack g.A.Area l.initial.pool x
      → CarriesOut g.R.Rack g.A.Area l.pool x (FillsOf x (FnReturnsAt g.F.Fn l.fn.chooser) l.fn.first l.fn.len l.fn.seed l.written);
}
