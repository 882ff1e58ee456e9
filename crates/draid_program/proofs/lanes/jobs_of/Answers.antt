use Rattle.std.specs.Vec.Iter.{into_iter_items}
use Rattle.draid_program.proofs.JobsMade.{making_more, room_still}
use Rattle.draid_program.proofs.lanes.jobs_of.Goals as goal

pub loop-lines-preserved : goal.loop-lines-preserved
loop-lines-preserved g c =
    let left = into_iter_items c.loop-lines.lines-iterator in
    let rest = into_iter_items c.next.new.self in
    let is = c.in-Some.ensures.steps.0 in
    let pushed = c.push_reserved.ensures in
    let job = c.in_ok-new.ensures in (
      tt,
      tt,
      making_more c.args.chooser.now c.args.lanes.items left rest c.in-Some.lines c.loop-lines.jobs.items c.push_reserved.new.self.items c.in_ok-new.field-0 c.loop-lines.invariant.2 is
          (record { chooser_is = job.chooser; lines_are = job.lines; none = job.none.0; room = job.room }) pushed.items,
      room_still left rest c.in-Some.lines _ _ c.loop-lines.invariant.3 is _ _ pushed.len pushed.capacity,
    )
