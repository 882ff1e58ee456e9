-- Jobs that lanes with lists of numbers may be given.
use Rattle.std.specs.Prelude.{◌≡◌, ◌≤◌, ℕ, List, [], Option, Some, length, slice_get, vec_capacity}
use Rattle.std.specs.Borrow.{Bor}
use Rattle.std.specs.Fn.{Shared}
use Rattle.std.specs.declared.vec.Vec.{Vec}
use Rattle.std.specs.declared.alloc.Global.{Global}
use Rattle.draid_names.specs.declared.room.Room.{Room}
use Rattle.draid_choose.specs.Rooms.{IsChooser}
use Rattle.draid_turn.specs.Numbers.{holds}
use Rattle.draid_turn.specs.declared.span.Span.{Span}
use Rattle.draid_works.specs.Job.{MayAllBeGiven}
use Rattle.draid_works.specs.declared.job.LaneCommands.{LaneCommands}

module _ {F : Type 0} (closure : Shared F (Bor (List Room) × Unit {0}) (Option ℕ)) where
  -- its commands may be given to a lane with these numbers, none was done yet, and there is room for the replies
  pub record IsReady (numbers : List Span) (job : LaneCommands F) : Type 0 where
    pub chooser_is : IsChooser closure job.chooser.now
    pub given : MayAllBeGiven (λ n. holds n numbers) job.lines.items
    pub none : job.replies.items ≡ []
    pub room : length job.lines.items ≤ vec_capacity job.replies

  -- so is the job of each
  abbrev pub AreReady : List (Vec Span Global) → List (LaneCommands F) → Type 0
  AreReady numbers jobs = (i : ℕ) (list : Vec Span Global) (job : LaneCommands F) → slice_get numbers i ≡ Some list → slice_get jobs i ≡ Some job → IsReady list.items job
