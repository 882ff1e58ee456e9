use Rattle.std.proofs.Common.{◌+◌, ◌∙◌, IfOk, Some, ap, arith, length, subst, sym}
use Rattle.std.specs.Fn.{FnReturnsAt}
use Rattle.std.proofs.lemmas.List.{length_push}
use Rattle.std.proofs.lemmas.Option.{slice_get-get_or}
use Rattle.draid_script.specs.Line.{command_in}
use Rattle.draid_session.specs.Choices.{choices_by}
use Rattle.draid_session.specs.Replies.{IsReplyTo}
use Rattle.draid_works.specs.Job.{MayBeGiven}
use Rattle.draid_works.specs.Replied.{CommandDone}
use Rattle.draid_works.proofs.Replied.{done_all, done_failed, done_more, leaves_then, replied_more}
use Rattle.draid_works.proofs.job.reply_to_each.Goals as goal

pub reply_in_lane-next-requires-clause-given : goal.reply_in_lane-next-requires-clause-given
reply_in_lane-next-requires-clause-given g c κs within =
    let line = c.index-lines-i.result in
    let there = slice_get-get_or c.args.lines.now c.loop-i.i line c.loop-i-test.true ∙ ap Some (sym c.index-lines-i.is) in
    subst (λ owns. MayBeGiven owns line) (sym c.loop-i.invariant.leaves.same.owns) (c.requires.given c.loop-i.i line there)

pub returns-in-Err-clause-leaves : goal.returns-in-Err-clause-leaves
returns-in-Err-clause-leaves g c = leaves_then g.R.Rack g.A.Area c.args.lane c.loop-i.lane c.reply_in_lane-next.result.0 c.loop-i.invariant.leaves c.reply_in_lane-next.ensures.leaves

pub loop-i-preserved : goal.loop-i-preserved
loop-i-preserved g c =
    let line = c.index-lines-i.result in
    let there = slice_get-get_or c.args.lines.now c.loop-i.i line c.loop-i-test.true ∙ ap Some (sym c.index-lines-i.is) in
    let fit = subst (λ r. IfOk r (IsReplyTo (command_in line))) c.in-Ok.is c.reply_in_lane-next.ensures.fits in
    record {
      leaves = leaves_then g.R.Rack g.A.Area c.args.lane c.loop-i.lane c.reply_in_lane-next.result.0 c.loop-i.invariant.leaves c.reply_in_lane-next.ensures.leaves;
      fits = replied_more c.args.lines.now c.loop-i.replies.items c.push_reserved.new.self.items c.loop-i.i line c.in-Ok.reply c.loop-i.invariant.fits c.loop-i.invariant.many there fit c.push_reserved.ensures.items;
      many = ap length c.push_reserved.ensures.items ∙ length_push c.loop-i.replies.items c.in-Ok.reply ∙ ap (λ n. n + 1) c.loop-i.invariant.many;
      room = (let room = c.loop-i.invariant.room in let same = c.push_reserved.ensures.capacity in omega (arith, room, same));
      done =
          let choices = choices_by (FnReturnsAt g.F.Fn c.args.chooser.now) in
          done_more g.R.Rack g.A.Area choices c.args.lines.now c.loop-i.replies.items c.args.lane c.loop-i.lane c.loop-i.i line c.in-Ok.reply c.push_reserved.new.self.items c.reply_in_lane-next.result.0 c.loop-i.invariant.done there
          c.reply_in_lane-next.ensures.leaves
          (subst (λ r. CommandDone g.R.Rack g.A.Area choices (command_in line) r c.loop-i.lane c.reply_in_lane-next.result.0) c.in-Ok.is c.reply_in_lane-next.ensures.done) c.push_reserved.ensures.items;
    }

pub returns-in-Err-clause-done : goal.returns-in-Err-clause-done
returns-in-Err-clause-done g c =
    let line = c.index-lines-i.result in
    let there = slice_get-get_or c.args.lines.now c.loop-i.i line c.loop-i-test.true ∙ ap Some (sym c.index-lines-i.is) in
    let choices = choices_by (FnReturnsAt g.F.Fn c.args.chooser.now) in
    done_failed g.R.Rack g.A.Area choices c.args.lines.now c.loop-i.replies.items c.args.lane c.loop-i.lane c.loop-i.i line c.in-Err.field-0 c.reply_in_lane-next.result.0 c.loop-i.invariant.done there c.reply_in_lane-next.ensures.leaves
    (subst (λ r. CommandDone g.R.Rack g.A.Area choices (command_in line) r c.loop-i.lane c.reply_in_lane-next.result.0) c.in-Err.is c.reply_in_lane-next.ensures.done)

pub returns-clause-done : goal.returns-clause-done
returns-clause-done g c =
    let ends = c.loop-i-test.false in
    let upto = c.loop-i.auto.i-end in
    done_all g.R.Rack g.A.Area (choices_by (FnReturnsAt g.F.Fn c.args.chooser.now)) c.args.lines.now c.loop-i.replies.items c.args.lane c.loop-i.lane c.loop-i.i (omega (arith, ends, upto)) c.loop-i.invariant.done
