use Rattle.std.proofs.Common.{ap}
use Rattle.draid_works.proofs.Done.{read_done, read_fits}
use Rattle.draid_works.proofs.replies.reply_to_read.Goals as goal

pub returns : goal.returns
returns g c =
    let did = c.read_in_lane-came in
    let is = c.reply_of_read.ensures in
    record {
      leaves = record { whole = did.ensures.whole; same = did.ensures.same; numbers = ap (λ p. p.numbers) did.ensures.pass };
      fits = read_fits c.args.object did.result c.reply_of_read.result is;
      done = read_done g.R.Rack g.A.Area c.args.lane.now did.new.lane c.reply_of_read.result did.ensures.pass c.args.object did.result c.requires.own is did.ensures.own did.ensures.read did.ensures.step;
    }
