use Rattle.std.proofs.Common.{Bool, ◌∙◌, ◌++◌, ◌∷◌, [], ap, Vec, Global}
use Rattle.std.specs.Vec.Iter.{into_iter_items}
use Rattle.draid_reply.specs.declared.reply.Reply.{Reply}
use Rattle.draid_print.specs.declared.printing.LaneReplies.{LaneReplies}
use Rattle.draid_program.proofs.JobsMade.{room_still, telling_more}
use Rattle.draid_program.proofs.lanes.replies_of.Goals as goal

abbrev with_replies : Bool → Vec Reply Global → LaneReplies
with_replies stopped replies = record { replies = replies; stopped = stopped }

pub loop-job-preserved : goal.loop-job-preserved
loop-job-preserved g c =
    let left = into_iter_items c.loop-job.job-iterator in
    let rest = into_iter_items c.next.new.self in
    let is = c.in-Some.ensures.steps.0 in
    let pushed = c.push_reserved.ensures in (
      tt,
      tt,
      telling_more c.args.jobs.items left rest c.in-Some.job c.loop-job.ran.items c.push_reserved.new.self.items c.loop-job.invariant.2 is
          (pushed.items ∙ ap (λ (replies : Vec Reply Global). c.loop-job.ran.items ++ with_replies c.in-Some.job.stopped replies ∷ []) c.replace-replies.ensures.value),
      room_still left rest c.in-Some.job _ _ c.loop-job.invariant.3 is _ _ pushed.len pushed.capacity,
    )
