use Rattle.std.proofs.Common.{◌≡◌, length, None}
use Rattle.std.specs.Fn.{FnReturnsAt}
use Rattle.draid_session.specs.State.{State}
use Rattle.draid_store.proofs.Filled.{FillsOf}
use Rattle.draid_lanes.specs.Lanes.{IsSameLane, IsWholeLane, table_of}
use Rattle.draid_lanes.specs.Locks.{owned_by}
use Rattle.draid_works.specs.Lanes.{LaneCarries, LaneKnows}
use Rattle.draid_works.specs.Waiting.{LooksBut}
use Rattle.draid_works.proofs.BesideTable.{FillsOwn}
use Rattle.draid_works.proofs.filling.fill_in_lane.Given as goal
use Rattle.draid_objects.specs.Marks.{check_by}

-- the objects so far have their contents
abbrev pub invariant-loop-written : goal.invariant-loop-written
invariant-loop-written g l = record {
  long : length l.bytes.items ≡ l.fn.len;
  whole : IsWholeLane g.R.Rack g.A.Area l.lane;
  same : IsSameLane l.initial.lane l.lane;
  pass : l.lane.pass ≡ l.initial.lane.pass;
  table : FillsOwn (owned_by l.initial.lane.metaslabs.passes.items) l.fn.first l.fn.len l.fn.seed l.written (table_of l.initial.lane) (table_of l.lane);
  filled : (x : State) → x.geometry ≡ l.initial.lane.geometry → check_by x.store.marks ≡ None → LaneKnows g.R.Rack g.A.Area l.initial.lane x
      → LaneCarries g.R.Rack g.A.Area l.initial.lane l.lane x (LooksBut (FillsOf x (FnReturnsAt g.F.Fn l.fn.chooser) l.fn.first l.fn.len l.fn.seed l.written));
}
