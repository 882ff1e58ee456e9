use Rattle.std.proofs.Common.{ap}
use Rattle.std.specs.Fn.{FnReturnsAt}
use Rattle.draid_works.proofs.Done.{write_done, write_fits}
use Rattle.draid_works.proofs.replies.reply_to_write.Goals as goal

pub returns : goal.returns
returns g c =
    let did = c.write_in_lane-came in
    let is = c.reply_of_write.ensures in
    record {
      leaves = record { whole = did.ensures.whole; same = did.ensures.same; numbers = ap (λ p. p.numbers) did.ensures.pass };
      fits = write_fits c.args.object c.args.bytes.now did.result c.reply_of_write.result is;
      done = write_done g.R.Rack g.A.Area c.args.lane.now did.new.lane c.reply_of_write.result did.ensures.pass (FnReturnsAt g.F.Fn c.args.chooser.now) c.args.object c.args.bytes.now did.result c.requires.own is did.ensures.sets did.ensures.step;
    }
