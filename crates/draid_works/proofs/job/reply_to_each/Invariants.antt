use Rattle.std.proofs.Common.{◌≡◌, ◌≤◌, false, length, take}
use Rattle.std.specs.Fn.{FnReturnsAt}
use Rattle.std.specs.Prelude.{vec_capacity}
use Rattle.draid_session.specs.Choices.{choices_by}
use Rattle.draid_works.specs.Job.{AreRepliesTo, CommandsDone, LeavesWhole}
use Rattle.draid_works.proofs.job.reply_to_each.Given as goal

-- the lines so far have their replies
abbrev pub invariant-loop-i : goal.invariant-loop-i
invariant-loop-i g l = record {
  leaves : LeavesWhole g.R.Rack g.A.Area l.initial.lane l.lane;
  fits : AreRepliesTo l.fn.lines l.replies.items;
  many : length l.replies.items ≡ l.i;
  room : length l.fn.lines ≤ vec_capacity l.replies;
  done : CommandsDone g.R.Rack g.A.Area (choices_by (FnReturnsAt g.F.Fn l.fn.chooser)) (take l.i l.fn.lines) l.replies.items false l.initial.lane l.lane;
}
