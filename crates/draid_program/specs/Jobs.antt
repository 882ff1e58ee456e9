-- The jobs of a section's lanes, and what they replied.
use Rattle.std.specs.Prelude.{◌≡◌, ◌≤◌, ℕ, List, [], Some, length, slice_get, vec_capacity}
use Rattle.std.specs.declared.vec.Vec.{Vec}
use Rattle.std.specs.declared.alloc.Global.{Global}
use Rattle.draid_script.specs.declared.line.Line.{Line}
use Rattle.draid_works.specs.declared.job.LaneCommands.{LaneCommands}
use Rattle.draid_print.specs.declared.printing.LaneReplies.{LaneReplies}

module _ {F : Type 0} where
  -- a job has a lane's lines, none of which was done, and room for the replies to them
  pub record IsJobOf (chooser : F) (lines : Vec Line Global) (job : LaneCommands F) : Type 0 where
    pub chooser_is : job.chooser.now ≡ chooser
    pub lines_are : job.lines ≡ lines
    pub none : job.replies.items ≡ []
    pub room : length lines.items ≤ vec_capacity job.replies

  -- each lane has its job
  pub record AreJobsOf (chooser : F) (lanes : List (Vec Line Global)) (jobs : List (LaneCommands F)) : Type 0 where
    pub many : length jobs ≡ length lanes
    pub each : (i : ℕ) (lines : Vec Line Global) (job : LaneCommands F) → slice_get lanes i ≡ Some lines → slice_get jobs i ≡ Some job → IsJobOf chooser lines job

  -- what a job that was done replied
  abbrev pub told_of : LaneCommands F → LaneReplies
  told_of job = record { replies = job.replies; stopped = job.stopped }
