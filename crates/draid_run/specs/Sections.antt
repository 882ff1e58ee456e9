-- Who runs the lanes of a section over a pool, and what that comes to.
use Rattle.std.specs.Prelude.{◌≡◌, ◌<◌, ◌≤◌, ◌++◌, ⊤, ℕ, Bool, true, false, List, [], ◌∷◌, Option, Some, None, Result, Ok, Err, IfSome, length, map, if◌then◌else◌, IfErr, IfOk}
use Rattle.std.specs.Fn.{Shared}
use Rattle.std.specs.Io.KnownBytes.{Appends}
use Rattle.std.specs.List.{list_any}
use Rattle.std.specs.declared.vec.Vec.{Vec}
use Rattle.std.specs.declared.alloc.Global.{Global}
use Rattle.draid_names.specs.declared.fault.NoMemory.{NoMemory as WantsMemory}
use Rattle.draid_names.specs.declared.room.Room.{Room}
use Rattle.draid_rack.specs.declared.Rack as racks
use Rattle.draid_area.specs.declared.Area as areas
use Rattle.draid_script.specs.Line.{Command, IsInRange, most_lanes}
use Rattle.draid_script.specs.Writing.{IsForLanes}
use Rattle.draid_script.specs.declared.line.Line.{Line}
use Rattle.draid_reply.specs.declared.reply.Reply.{Reply}
use Rattle.draid_lines.specs.Sink.{AppendsFront}
use Rattle.draid_session.specs.Choices.{Choices, choices_by}
use Rattle.draid_session.specs.Known.{Known}
use Rattle.draid_session.specs.Lanes.{Section}
use Rattle.draid_session.specs.Looks.{AllOf}
use Rattle.draid_session.specs.Places.{Ended, Inside, Outside, Place}
use Rattle.draid_session.specs.Said.{Said, alone}
use Rattle.draid_session.specs.Sections.{ClashesMend, LanesLearn, NoClash, SectionTurns, to_lanes}
use Rattle.draid_session.specs.Session.{Desk}
use Rattle.draid_session.specs.State.{State}
use Rattle.draid_pool.specs.Failing.{AreaRose, AreasLater}
use Rattle.draid_pool.specs.Keeping.{SamePool}
use Rattle.draid_pool.specs.Knows.{KnowsPointers}
use Rattle.draid_pool.specs.Pools.{Represents}
use Rattle.draid_pool.specs.Whole.{IsWhole}
use Rattle.draid_pool.specs.declared.pool.Pool.{Pool}
use Rattle.draid_pool.specs.Shelves.{OnShelf}
use Rattle.draid_clashes.specs.Lanes.{lanes_in}
use Rattle.draid_run.specs.Desks.{IsDesk}
use Rattle.draid_print.specs.Printing.{PrintsAre, replies_in, texts_of}
use Rattle.draid_run.specs.Serve.{LaneStopped}
use Rattle.draid_print.specs.declared.printing.LaneReplies.{LaneReplies}
use Rattle.draid_exits.specs.declared.status.Status.{Status}
use Rattle.draid_exits.specs.declared.status.Status.TheVariants.{SinkFault, NoMemory, ShelfFault}
use Rattle.draid_uber.specs.Uber.{point_of}

-- ---- lanes

-- a command that a lane may have, with its numbers in their ranges
abbrev pub IsOfLane : Command → Type 0
IsOfLane command = IsForLanes command × IsInRange command

-- Lanes that may be run: 1 to 16, with commands that lanes may have. No two name an object, and no two have a rebuild or a scrub.
pub record MayRunLanes (lanes : List (List Command)) : Type 0 where
  pub some : 1 ≤ length lanes
  pub few : length lanes ≤ most_lanes
  pub each : AllOf (AllOf IsOfLane) lanes
  pub apart : NoClash lanes
  pub one_mends : ClashesMend lanes → ⊥

-- ---- what is replied

-- A lane has a reply to each of its commands, or fewer where an area stopped it.
abbrev pub StopsWhere : Bool → List Command → List Reply → Type 0
StopsWhere false commands replies = length replies ≡ length commands
StopsWhere true commands replies = length replies < length commands

-- so has each
abbrev pub StopWhere : List (List Command) → List LaneReplies → Type 0
StopWhere [] [] = ⊤
StopWhere (commands ∷ lanes) (ran ∷ more) = StopsWhere ran.stopped commands ran.replies.items × StopWhere lanes more
StopWhere lanes ran = ⊥

-- one was stopped
abbrev pub IsStopped : List LaneReplies → Type 0
IsStopped ran = AllOf (λ (lane : LaneReplies). lane.stopped ≡ false) ran → ⊥

-- ---- what is done

module _ {R A : Type 0} where
  -- A section of a state led to another, for which the pool stands.
  pub record RunsSection (rack : racks.Ghosts R) (area : areas.Ghosts A) (choices : Choices) (x : State) (lanes : List (List Command)) (replies : List (List Reply)) (new : Pool R A) : Type 0 where
    pub reached : State
    pub section : Section x choices lanes replies reached
    pub represents : Represents rack area new reached

  -- The replies say of the objects what is allowed by what was known of them, and what they add is so.
  pub record LanesTeach (lanes : List (List Command)) (replies : List (List Reply)) (known : Known) (new : Pool R A) : Type 0 where
    pub later : Known
    pub learn : LanesLearn lanes replies known later
    pub fits : KnowsPointers new later

module _ {R A : Type 0} (rack : racks.Ghosts R) (area : areas.Ghosts A) where
  -- What a section came to over a whole pool, which is whole behind it. Where memory was wanting before a lane ran the pool is as it was. Else it tells which lanes were stopped, and whatever is known of the pool, what
  -- they did is told by their replies. Areas are to blame only where they failed in the section, and what has failed stays counted.
  pub record SectionMet (choices : Choices) (lanes : List (List Command)) (pool new : Pool R A) (result : Result (Vec LaneReplies Global) WantsMemory) : Type 0 where
    pub whole : IsWhole rack area new
    pub refused : IfErr result (λ _. SamePool pool new)
    pub stops : IfOk result (λ ran. StopWhere lanes ran.items)
    pub runs : IfOk result (λ ran. (x : State) → Represents rack area pool x → RunsSection rack area choices x lanes (replies_in ran.items) new)
    pub teach : IfOk result (λ ran. (known : Known) → KnowsPointers pool known → LanesTeach lanes (replies_in ran.items) known new)
    pub cause : IfOk result (λ ran. IsStopped ran.items → AreaRose area.faults pool new)
    pub later : AreasLater area.faults pool new

  -- A closure that runs the lanes of each section which may be run, over each whole pool without a checkpoint. Blocks go to metaslabs by these choices.
  pub record RunsSections {S : Type 0} (g : Shared S (Pool R A × (Vec (Vec Line Global) Global × Unit {0})) (Pool R A × Result (Vec LaneReplies Global) WantsMemory)) (chosen : List Room → Option ℕ → Type 0) (f : S) : Type 0 where
    pub callable : (pool : Pool R A) (lanes : Vec (Vec Line Global) Global) → IsWhole rack area pool → MayRunLanes (lanes_in lanes.items) → (point_of pool.uber).group ≡ None → g.pre f (pool, (lanes, tt))
    pub meets : (pool new : Pool R A) (lanes : Vec (Vec Line Global) Global) (result : Result (Vec LaneReplies Global) WantsMemory) → IsWhole rack area pool → MayRunLanes (lanes_in lanes.items) → (point_of pool.uber).group ≡ None → g.post f (pool, (lanes, tt)) (new, result)
        → SectionMet (choices_by chosen) (lanes_in lanes.items) pool new result

-- ---- the lanes of a section that is read

-- The lines of each lane so far, of 1 to 16 lanes.
pub record AreLanes (lanes : List (Vec Line Global)) : Type 0 where
  pub some : 1 ≤ length lanes
  pub few : length lanes ≤ most_lanes
  pub each : AllOf (AllOf IsOfLane) (lanes_in lanes)

-- where a run stands, by the section that it reads, if it is inside one
abbrev pub place_in : Option (Vec (Vec Line Global) Global) → Place
place_in None = Outside
place_in (Some lanes) = Inside (lanes_in lanes.items)

-- behind a line, where the run goes on
abbrev pub place_next : Result (Option (Vec (Vec Line Global) Global)) Status → Place
place_next (Ok section) = place_in section
place_next (Err status) = Outside

abbrev pub IsReading : Option (Vec (Vec Line Global) Global) → Type 0
IsReading section = IfSome section (λ lanes. AreLanes lanes.items)

-- ---- what is said at the end of one

-- one reply, or those of its lanes
abbrev pub saids_of : Result (Vec LaneReplies Global) Reply → List Said
saids_of (Ok ran) = to_lanes 0 (replies_in ran.items)
saids_of (Err reply) = alone reply

-- and where the run stands then
abbrev pub place_of : Result (Vec LaneReplies Global) Reply → Place
place_of (Ok ran) = if list_any (λ (lane : LaneReplies). lane.stopped) ran.items then Ended else Outside
place_of (Err reply) = Outside

-- Its lanes came to this: the pool stands for the desk to which it led, and shows what stopped a lane.
pub record SectionIs {R A : Type 0} (rack : racks.Ghosts R) (area : areas.Ghosts A) (choices : Choices) (lanes : List (List Command)) (entry now : OnShelf) (old : Desk) (pool : Option (Pool R A)) (result : Result (Vec LaneReplies Global) Reply) : Type 0 where
  pub new : Desk
  pub desk : IsDesk rack area entry now pool new
  pub turns : SectionTurns choices old lanes (saids_of result) new (place_of result)
  pub stopped : place_of result ≡ Ended → LaneStopped area pool old new

-- ---- what is printed

-- of those of a section's lanes: behind all of them the run goes on, or ends where a lane was stopped
abbrev pub RanIs : List LaneReplies → Option (List ℕ) → Option (List ℕ) → Result Unit Status → Type 0
RanIs ran old new (Ok done) = Appends old new (texts_of (to_lanes 0 (replies_in ran))) × (list_any (λ (lane : LaneReplies). lane.stopped) ran ≡ false)
RanIs ran old new (Err ShelfFault) = Appends old new (texts_of (to_lanes 0 (replies_in ran))) × (list_any (λ (lane : LaneReplies). lane.stopped) ran ≡ true)
RanIs ran old new (Err status) = PrintsAre (to_lanes 0 (replies_in ran)) old new (Err status)
