use Rattle.draid_holds.proofs.LaneCalls.{Calling}
use Rattle.draid_holds.proofs.calls.make_calls.Given as goal

abbrev pub invariant-calls : goal.invariant-calls
invariant-calls g l = Calling g.T.Stand.step g.O.Act.needs g.O.Act.relates g.O.Act.concerns l.turns l.initial.passes.items l.initial.calls.items l.i l.calls.items l.passes.items
