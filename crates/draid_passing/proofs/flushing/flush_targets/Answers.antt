use Rattle.std.proofs.Common.{◌∙◌, arith}
use Rattle.draid_passing.proofs.flushing.flush_targets.Goals as goal

pub loop-place-preserved : goal.loop-place-preserved
loop-place-preserved g c =
    let rack = g.R.Rack in
    let before = c.loop-place.invariant in
    let e = c.flush_next.ensures in
    record {
      shape = e.shape ∙ before.shape;
      few = (let a = e.few in let b = before.few in omega (arith, a, b));
      room = (let a = e.room in let b = before.room in omega (arith, a, b));
      told = e.told (rack.told c.args.rack.now) before.told;
      cause = e.cause (rack.faults c.args.rack.now) before.cause;
    }
