use Rattle.std.proofs.Common.{◌∙◌, ap, refl, subst, sym}
use Rattle.std.specs.Fn.{FnReturnsAt}
use Rattle.std.specs.Prelude.{slice_get}
use Rattle.draid_session.specs.Choices.{choices_by}
use Rattle.draid_works.specs.Job.{AreAll, AreRepliesTo, CommandsDone}
use Rattle.draid_works.proofs.job.do_commands.Goals as goal

pub reply_to_each-lane-requires-clause-given : goal.reply_to_each-lane-requires-clause-given
reply_to_each-lane-requires-clause-given g c κs within i line there = c.requires.may.given i line (ap (λ ls. slice_get ls i) (sym c.deref.ensures.value) ∙ there)

pub returns : goal.returns
returns g c =
    let e = c.reply_to_each-lane.ensures in
    let replies = c.reply_to_each-lane.new.replies.items in
    let stopped = c.reply_to_each-lane.result.1 in
    record {
      does = record {
        whole_before = c.requires.may.whole;
        given = c.requires.may.given;
        leaves = e.leaves;
        same = refl;
        fits = subst (λ ls. AreRepliesTo ls replies) c.deref.ensures.value e.fits;
        all = subst (λ ls. AreAll stopped ls replies) c.deref.ensures.value e.all;
        done = subst (λ ls. CommandsDone g.R.Rack g.A.Area (choices_by (FnReturnsAt g.F.Fn c.args.job.now.chooser.now)) ls replies stopped c.args.lane c.reply_to_each-lane.result.0) c.deref.ensures.value e.done;
      };
    }
