-- The commands of a lane, one after another, and what it replies to them.
use Rattle.std.specs.Prelude.{◌≡◌, ◌<◌, ◌≤◌, ◌∷◌, ⊤, ℕ, Bool, true, false, List, [], Option, Some, Ok, Err, length, slice_get, vec_capacity}
use Rattle.std.specs.Borrow.{Bor}
use Rattle.std.specs.Fn.{Shared}
use Rattle.std.specs.declared.vec.Vec.{Vec}
use Rattle.std.specs.declared.alloc.Global.{Global}
use Rattle.draid_choose.specs.Rooms.{IsChooser}
use Rattle.draid_names.specs.declared.fault.Failed.{Failed}
use Rattle.draid_names.specs.declared.room.Room.{Room}
use Rattle.draid_rack.specs.declared.Rack as racks
use Rattle.draid_area.specs.declared.Area as areas
use Rattle.draid_script.specs.Line.{Command, FillObjects, FreeObject, IsInRange, ReadObject, RebuildPool, ScrubPool, SumObjects, SyncPool, TakeOffline, TakeOnline, WriteObject, command_in}
use Rattle.draid_script.specs.declared.line.Line.{Line}
use Rattle.draid_reply.specs.declared.reply.Reply.{Reply}
use Rattle.draid_session.specs.Choices.{Choices}
use Rattle.draid_session.specs.Replies.{IsReplyTo}
use Rattle.draid_spec.specs.Geometry.{IsGeometry}
use Rattle.draid_pool.specs.Drifts.{passes_number}
use Rattle.draid_store.specs.Fetching.{OwnsFrom}
use Rattle.draid_lanes.specs.Lanes.{IsSameLane, IsWholeLane}
use Rattle.draid_lanes.specs.Locks.{owned_by}
use Rattle.draid_lanes.specs.declared.lane.Lane.{Lane}
use Rattle.draid_works.specs.Replied.{CommandDone}

-- a lane that owns these numbers may be given the command: it owns the objects that this names, and the passes where it mends
abbrev pub IsOfLane : (owns : ℕ → Bool) → Command → Type 0
IsOfLane owns SyncPool = ⊤
IsOfLane owns (WriteObject object bytes) = owns object ≡ true
IsOfLane owns (FillObjects first count len seed) = OwnsFrom owns first count
IsOfLane owns (ReadObject object) = owns object ≡ true
IsOfLane owns (FreeObject object) = owns object ≡ true
IsOfLane owns (SumObjects first count) = OwnsFrom owns first count
IsOfLane owns (TakeOffline leaf) = ⊤
IsOfLane owns (TakeOnline leaf) = ⊤
IsOfLane owns (RebuildPool limit) = owns passes_number ≡ true
IsOfLane owns (ScrubPool limit) = owns passes_number ≡ true
IsOfLane owns command = ⊥

-- and its numbers are in their ranges
pub record MayBeGiven (owns : ℕ → Bool) (line : Line) : Type 0 where
  pub of_lane : IsOfLane owns (command_in line)
  pub range : IsInRange (command_in line)

-- each line may be given to the lane
abbrev pub MayAllBeGiven : (owns : ℕ → Bool) → List Line → Type 0
MayAllBeGiven owns lines = (i : ℕ) (line : Line) → slice_get lines i ≡ Some line → MayBeGiven owns line

-- each reply is one to the line at its place
abbrev pub AreRepliesTo : List Line → List Reply → Type 0
AreRepliesTo lines replies = (i : ℕ) (line : Line) (reply : Reply) → slice_get lines i ≡ Some line → slice_get replies i ≡ Some reply → IsReplyTo (command_in line) reply

-- what it says of unreadable blocks rests on the bytes of all blocks, whoever's they are
abbrev pub IsScrub : Command → Type 0
IsScrub (ScrubPool limit) = ⊤
IsScrub command = ⊥

-- one of some lines is a scrub
pub record HasScrub (lines : List Line) : Type 0 where
  pub place : ℕ
  pub line : Line
  pub there : slice_get lines place ≡ Some line
  pub scrub : IsScrub (command_in line)

-- it asks something of objects
abbrev pub IsOnObjects : Command → Type 0
IsOnObjects (WriteObject object bytes) = ⊤
IsOnObjects (FillObjects first count len seed) = ⊤
IsOnObjects (ReadObject object) = ⊤
IsOnObjects (FreeObject object) = ⊤
IsOnObjects (SumObjects first count) = ⊤
IsOnObjects command = ⊥

-- there are as many replies as lines, or fewer where the lane stopped
abbrev pub AreAll : (stopped : Bool) → List Line → List Reply → Type 0
AreAll false lines replies = length replies ≡ length lines
AreAll true lines replies = length replies < length lines

module _ {R A G W : Type 0} where
  -- a lane is whole, and the same as it was, and its pass of the uberblock's lock holds what it held
  pub record LeavesWhole (rack : racks.Ghosts R) (area : areas.Ghosts A) (old new : Lane R A G W) : Type 0 where
    pub whole : IsWholeLane rack area new
    pub same : IsSameLane old new
    pub numbers : new.pass.numbers ≡ old.pass.numbers

  -- what a lane needs for its commands: it may be given each, none was done yet, and there is room for the replies
  pub record MayDoCommands {F : Type 0} (rack : racks.Ghosts R) (area : areas.Ghosts A) (closure : Shared F (Bor (List Room) × Unit {0}) (Option ℕ)) (chooser : F) (lines : List Line) (replies : Vec Reply Global) (lane : Lane R A G W) : Type 0 where
    pub chooser_is : IsChooser closure chooser
    pub whole : IsWholeLane rack area lane
    pub geometry_is : IsGeometry lane.geometry
    pub given : MayAllBeGiven (owned_by lane.metaslabs.passes.items) lines
    pub none : replies.items ≡ []
    pub room : length lines ≤ vec_capacity replies

  -- Commands were done one after another, up to one that an area failed: each before that has its reply. Behind each the lane was whole, and the same.
  abbrev pub CommandsDone : racks.Ghosts R → areas.Ghosts A → Choices → List Line → List Reply → Bool → (old new : Lane R A G W) → Type 0
  CommandsDone rack area choices [] [] false old new = new ≡ old
  CommandsDone rack area choices (line ∷ lines) (reply ∷ replies) stopped old new =
      (mid : Lane R A G W) × LeavesWhole rack area old mid × CommandDone rack area choices (command_in line) (Ok reply) old mid × CommandsDone rack area choices lines replies stopped mid new
  CommandsDone rack area choices (line ∷ lines) [] true old new = (failed : Failed) × LeavesWhole rack area old new × CommandDone rack area choices (command_in line) (Err failed) old new
  CommandsDone rack area choices lines replies stopped old new = ⊥

  -- so were the lines of a job, each of which might be given to the lane, which was whole before
  pub record DoesCommands (rack : racks.Ghosts R) (area : areas.Ghosts A) (choices : Choices) (lines : Vec Line Global) (old : Lane R A G W) (lines' : Vec Line Global) (replies : List Reply) (stopped : Bool) (new : Lane R A G W) : Type 0 where
    pub whole_before : IsWholeLane rack area old
    pub given : MayAllBeGiven (owned_by old.metaslabs.passes.items) lines.items
    pub leaves : LeavesWhole rack area old new
    pub same : lines' ≡ lines
    pub fits : AreRepliesTo lines.items replies
    pub all : AreAll stopped lines.items replies
    pub done : CommandsDone rack area choices lines.items replies stopped old new
