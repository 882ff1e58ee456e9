use Rattle.std.proofs.Common.{arith}
use Rattle.draid_store.proofs.Feeding.{feeding_more}
use Rattle.draid_store.proofs.summing.feed.Goals as goal

pub loop-solve-preserved : goal.loop-solve-preserved
loop-solve-preserved c =
    let at = c.loop-solve.invariant.at in
    record {
      feeding = feeding_more c.args.solves.now c.loop-solve.solve-index c.solve-item.result c.in-Bytes.bytes c.args.hasher.now c.loop-solve.hasher c.update.new.self c.loop-solve.invariant.feeding
          c.loop-solve-test.true c.solve-item.is c.in-Bytes.is c.update.ensures;
      at = omega (arith, at);
    }
