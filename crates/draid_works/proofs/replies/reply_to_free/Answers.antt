use Rattle.std.proofs.Common.{ap}
use Rattle.draid_works.proofs.Done.{free_done, free_fits}
use Rattle.draid_works.proofs.replies.reply_to_free.Goals as goal

pub returns : goal.returns
returns g c =
    let did = c.free_in_lane-came in
    let is = c.reply_of_free.ensures in
    record {
      leaves = record { whole = did.ensures.whole; same = did.ensures.same; numbers = ap (λ p. p.numbers) did.ensures.pass };
      fits = free_fits c.args.object did.result c.reply_of_free.result is;
      done = free_done g.R.Rack g.A.Area c.args.lane.now did.new.lane c.reply_of_free.result did.ensures.pass c.args.object did.result c.requires.own is did.ensures.takes did.ensures.step;
    }
