use Rattle.std.proofs.Common.{◌≡◌, length}
use Rattle.draid_tests_lanes.specs.Ready.{AreReady}
use Rattle.draid_tests_lanes.proofs.ready.jobs_of.Given as goal

abbrev pub invariant-loop-lane : goal.invariant-loop-lane
invariant-loop-lane g l = record {
  many : length l.jobs.items ≡ l.lane;
  ready : AreReady g.F.Fn l.fn.numbers l.jobs.items;
}
