use Rattle.std.proofs.Common.{ap}
use Rattle.draid_works.proofs.Done.{sum_done, sum_fits}
use Rattle.draid_works.proofs.replies.reply_to_sum.Goals as goal

pub returns : goal.returns
returns g c =
    let did = c.sum_in_lane-came in
    let is = c.reply_of_sum.ensures in
    record {
      leaves = record { whole = did.ensures.whole; same = did.ensures.same; numbers = ap (λ p. p.numbers) did.ensures.pass };
      fits = sum_fits c.args.first c.args.count did.result c.reply_of_sum.result is;
      done = sum_done g.R.Rack g.A.Area c.args.lane.now did.new.lane c.reply_of_sum.result did.ensures.pass c.args.first c.args.count did.result c.requires.own is did.ensures.own did.ensures.sums did.ensures.step;
    }
