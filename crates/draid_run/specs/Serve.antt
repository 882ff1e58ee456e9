-- What becomes of a line, and of all lines so far.
use Rattle.std.specs.Prelude.{◌≡◌, ◌≤◌, ◌+◌, ◌⊎◌, ⊤, ℕ, false, true, List, [], ◌∷◌, ◌++◌, Option, Some, None, Result, Ok, Err, MatchOption, is_some, length}
use Rattle.std.specs.Io.KnownBytes.{Appends, prepend_known}
use Rattle.std.specs.declared.vec.Vec.{Vec}
use Rattle.std.specs.declared.alloc.Global.{Global}
use Rattle.draid_names.specs.declared.fault.Failed.{Failed}
use Rattle.draid_names.specs.declared.journal.Entry.{Entry}
use Rattle.draid_record.specs.declared.fault.RecordFaultKind.{RecordFaultKind}
use Rattle.draid_rack.specs.declared.Rack as racks
use Rattle.draid_area.specs.declared.Area as areas
use Rattle.draid_lines.specs.Lines.{Rest, WhereKnown, IsTooLong, lines_of, most_lines}
use Rattle.draid_lines.specs.Sink.{AppendsFront}
use Rattle.draid_script.specs.Line.{Command, OpenLanes}
use Rattle.draid_script.specs.declared.fault.LineFaultKind.TheVariants as line_fault
use Rattle.draid_script.specs.declared.fault.ParseFault.{ParseFault}
use Rattle.draid_script.specs.declared.fault.ParseFault.TheVariants as parse_fault
use Rattle.draid_script.specs.declared.name.CommandName.{CommandName}
use Rattle.draid_reply.specs.declared.reply.Reply.{Reply}
use Rattle.draid_session.specs.Places.{Ended, Inside, Outside, Place, line_at, place_after}
use Rattle.draid_session.specs.Said.{Said, alone}
use Rattle.draid_session.specs.Choices.{Choices}
use Rattle.draid_session.specs.Sections.{PlaceTurns, RunsOn}
use Rattle.draid_session.specs.Session.{Cause, Desk, Foreign, Open, RecordFails, ShelfFails, sits}
use Rattle.draid_pool.specs.declared.pool.Pool.{Pool}
use Rattle.draid_exits.specs.declared.status.RecordName.{RecordName}
use Rattle.draid_run.specs.Crashes.{IsFirmShut, LeavesFirm, LeavesFirmAt, crash_came_last}
use Rattle.draid_run.specs.Desks.{Broken, IsDesk, Noted, PoolBroke, PoolDid, Turned, asked_in}
use Rattle.draid_run.specs.Script.{all_replies, all_said, BreaksOff, Ends, EndsSection, FailsShut, FaultyShut, GetsReplies, LineFaultIs, MayEndAt, Shows}
use Rattle.draid_print.specs.Printing.{said_text, texts_of}
use Rattle.draid_pool.specs.Shelves.{OnShelf}
use Rattle.draid_run.specs.Shelves.{AreaRose, HasFault, HoldsFault, IsClosed, MakesLeavesAt, MayFind, PoolFails, RackFault}
use Rattle.draid_run.specs.declared.answer.Stop.{Stop}
use Rattle.draid_run.specs.declared.answer.Stop.TheVariants as stop
use Rattle.draid_exits.specs.declared.status.Status.{Status}
use Rattle.draid_exits.specs.declared.status.Status.TheVariants.{Done, Line, SourceFault, SinkFault, NoMemory, TooLong, ShelfFault, Record}

-- What became of the next line, where the bytes to come before and after the call are known.
abbrev pub TextIs : Rest → Rest → Option (List ℕ) → Option (List ℕ) → Result (Option (Vec ℕ Global)) Status → Type 0
TextIs lines lines' left left' (Ok None) = WhereKnown (prepend_known lines.held left) (prepend_known lines'.held left') (λ old new. old ≡ [])
TextIs lines lines' left left' (Ok (Some line)) =
    (lines'.given ≡ lines.given + 1) × (lines'.given ≤ most_lines) × (lines'.fault ≡ None)
    × WhereKnown (prepend_known lines.held left) (prepend_known lines'.held left') (λ old new. lines_of old ≡ line.items ∷ lines_of new)
TextIs lines lines' left left' (Err SourceFault) = WhereKnown (prepend_known lines.held left) (prepend_known lines'.held left') (λ old new. new ≡ old)
TextIs lines lines' left left' (Err NoMemory) = WhereKnown (prepend_known lines.held left) (prepend_known lines'.held left') (λ old new. new ≡ old)
TextIs lines lines' left left' (Err (TooLong line)) =
    (line ≡ lines.given + 1) × WhereKnown (prepend_known lines.held left) (prepend_known lines'.held left') (λ old new. IsTooLong lines.given old)
TextIs lines lines' left left' (Err status) = ⊥

-- The shelf failed in a line, or a record had a fault.
pub record BrokenLine {R A : Type 0} (rack : racks.Ghosts R) (area : areas.Ghosts A) (why : Cause) (text : List ℕ) (entry before : OnShelf) (old : Desk) (now : OnShelf) (pool : Option (Pool R A)) : Type 0 where
  pub command : Command
  pub line : line_at Outside text ≡ Ok command
  pub broken : Broken rack area why command entry before old now pool

-- a command that has a reply was answered by it
abbrev pub IsSaid : Result Reply Stop → Result (Option Reply) Stop → Type 0
IsSaid (Ok reply) result = result ≡ Ok (Some reply)
IsSaid (Err stop) result = result ≡ Err stop

-- a reply that was made, or a device that failed in it
abbrev pub stop_of : Result Reply Failed → Result Reply Stop
stop_of (Ok reply) = Ok reply
stop_of (Err failed) = Err stop.Shelf

-- what is said to a line outside a section: one reply, or none
abbrev pub said_of : Option Reply → List Said
said_of None = []
said_of (Some reply) = alone reply

-- how many lanes a command opens, if it opens a section
abbrev pub opened_by : Command → Option ℕ
opened_by (OpenLanes count) = Some count
opened_by command = None

-- the status of a run that ends at the line of this number, which can't be read
abbrev pub unread_at : ℕ → ParseFault → Status
unread_at number parse_fault.NoMemory = NoMemory
unread_at number (parse_fault.Line fault) = Line number fault.kind fault.at

-- the status of a run whose input ends at the line of this number, by where it stands
abbrev pub end_at : ℕ → Place → Status
end_at number Outside = Done
end_at number (Inside lanes) = Line number line_fault.Lane 0
end_at number Ended = ShelfFault

-- whether something was done, or the run ended
abbrev pub done_of : {T : Type 0} → Result T Status → Result Unit Status
done_of (Ok t) = Ok tt
done_of (Err status) = Err status

-- the status of a run that ends at the line of this number
abbrev pub status_of : ℕ → Stop → Status
status_of number stop.Shelf = ShelfFault
status_of number (stop.Record which place kind) = Record which place kind

-- What shows of an open pool that a failing device ended a lane of a section, between the desks before and behind that: the count of an area rose; of one of which nothing is said it isn't 0.
abbrev pub LaneStopped : {R A : Type 0} → areas.Ghosts A → Option (Pool R A) → Desk → Desk → Type 0
LaneStopped area pool (Open x) (Open y) = AreaRose x y
LaneStopped area pool (Foreign known) (Foreign later) = PoolFails area pool
LaneStopped area pool old new = ⊥

module _ {R A : Type 0} (rack : racks.Ghosts R) (area : areas.Ghosts A) (choices : Choices) where
  -- the reply of the pool that is open, or that none is; or that a device of it failed
  abbrev pub AskIs : Command → Option (Pool R A) → Desk → Option (Pool R A) → Result Reply Stop → Type 0
  AskIs command pool old pool' (Ok reply) = (called : CommandName) × (asked_in command ≡ Some called) × PoolDid rack area choices command called old reply pool'
  AskIs command pool old pool' (Err stop.Shelf) = (called : CommandName) × (asked_in command ≡ Some called) × PoolBroke rack area command old pool'
  AskIs command pool old pool' (Err (stop.Record which place kind)) = ⊥

  -- the journal was this before a line, and that behind it
  module _ (past after : List Entry) where
    -- the reply to a command, or why it has none
    abbrev pub AnswerIs : Command → OnShelf → OnShelf → Option (Pool R A) → Desk → OnShelf → Option (Pool R A) → Result (Option Reply) Stop → Type 0
    AnswerIs command entry before pool old now pool' (Ok reply) =
        (turned : Turned rack area choices (Ok command) entry old (said_of reply) now pool') × Noted rack area choices (Ok command) entry old (said_of reply) now pool' turned past after
        × LeavesFirm (Ok command) (said_of reply) before pool now pool'
    AnswerIs command entry before pool old now pool' (Err stop.Shelf) = Broken rack area ShelfFails command entry before old now pool'
    AnswerIs command entry before pool old now pool' (Err (stop.Record which place kind)) =
        Broken rack area RecordFails command entry before old now pool' × HoldsFault rack area before which place kind

    -- A line was done where the run stood, and this was said to it. So the run came to another desk, and stands at another place.
    pub record Placed (from : Place) (text : List ℕ) (entry : OnShelf) (old : Desk) (saids : List Said) (now : OnShelf) (pool' : Option (Pool R A)) (to : Place) : Type 0 where
      pub new : Desk
      pub desk : IsDesk rack area entry now pool' new
      pub turns : PlaceTurns choices (MayFind rack area entry) from text (sits old past) saids (sits new after) to
      pub stopped : to ≡ Ended → LaneStopped area pool' old new

    -- A line was done, and the replies to it were printed.
    pub record Printed (from : Place) (text : List ℕ) (entry before : OnShelf) (pool : Option (Pool R A)) (old : Desk) (now : OnShelf) (pool' : Option (Pool R A)) (held held' : Option (List ℕ)) (to : Place) : Type 0 where
      pub saids : List Said
      pub placed : Placed from text entry old saids now pool' to
      pub firm : LeavesFirmAt from text saids before pool now pool'
      pub prints : Appends held held' (texts_of saids)

    -- A line was done, and the sink failed at one of the replies to it.
    pub record Cut (from : Place) (text : List ℕ) (entry before : OnShelf) (pool : Option (Pool R A)) (old : Desk) (now : OnShelf) (pool' : Option (Pool R A)) (held held' : Option (List ℕ)) : Type 0 where
      pub part : List Said
      pub said : Said
      pub rest : List Said
      pub mid : Option (List ℕ)
      pub to : Place
      pub ends : MayEndAt to SinkFault None
      pub placed : Placed from text entry old (part ++ said ∷ rest) now pool' to
      pub firm : LeavesFirmAt from text (part ++ said ∷ rest) before pool now pool'
      pub whole : Appends held mid (texts_of part)
      pub prints : AppendsFront mid held' (said_text said)

    -- A line was done, and memory was wanting for the text of one of the replies to it.
    pub record Untold (from : Place) (text : List ℕ) (entry before : OnShelf) (pool : Option (Pool R A)) (old : Desk) (now : OnShelf) (pool' : Option (Pool R A)) (held held' : Option (List ℕ)) : Type 0 where
      pub part : List Said
      pub said : Said
      pub rest : List Said
      pub to : Place
      pub ends : MayEndAt to NoMemory None
      pub placed : Placed from text entry old (part ++ said ∷ rest) now pool' to
      pub firm : LeavesFirmAt from text (part ++ said ∷ rest) before pool now pool'
      pub prints : Appends held held' (texts_of part)

    -- What became of a line, where the run stood. Where it goes on, it stands there.
    abbrev pub LineIs : Place → ℕ → List ℕ → OnShelf → OnShelf → Option (Pool R A) → Desk → OnShelf → Option (Pool R A) → Option (List ℕ) → Option (List ℕ) → Place → Result Unit Status → Type 0
    LineIs from number text entry before pool old now pool' held held' to (Ok done) = Printed from text entry before pool old now pool' held held' to
    LineIs from number text entry before pool old now pool' held held' to (Err SinkFault) = Cut from text entry before pool old now pool' held held'
    LineIs from number text entry before pool old now pool' held held' to (Err ShelfFault) =
        ((from ≡ Outside) × (held' ≡ held) × BrokenLine rack area ShelfFails text entry before old now pool') ⊎ Printed from text entry before pool old now pool' held held' Ended
    LineIs from number text entry before pool old now pool' held held' to (Err (Record which place kind)) =
        (from ≡ Outside) × (held' ≡ held) × BrokenLine rack area RecordFails text entry before old now pool' × HoldsFault rack area before which place kind
    LineIs from number text entry before pool old now pool' held held' to (Err (Line line kind at)) =
        LineFaultIs (line_at from text) kind at × (now ≡ before) × (pool' ≡ pool) × (held' ≡ held) × (line ≡ number)
    LineIs from number text entry before pool old now pool' held held' to (Err NoMemory) =
        ((held' ≡ held) × (now ≡ before) × (pool' ≡ pool)) ⊎ Untold from text entry before pool old now pool' held held'
    LineIs from number text entry before pool old now pool' held held' to (Err status) = ⊥

  -- The lines so far were answered and their replies printed, from this desk on, and the journal is this. The run stands here.
  pub record Serving (place : Place) (journal : List Entry) (first : Desk) (input rest start held : Option (List ℕ)) (entry now : OnShelf) (pool : Option (Pool R A)) (count : ℕ) : Type 0 where
    pub lines : List (List ℕ)
    pub replies : List (List Said)
    pub reached : Desk
    pub count_is : length lines ≡ count
    pub desk : IsDesk rack area entry now pool reached
    pub runs : RunsOn choices (MayFind rack area entry) (is_some entry.held) Outside (sits first []) lines replies place (sits reached journal)
    pub stands : place_after Outside lines ≡ place
    pub goes_on : place ≡ Ended → ⊥
    pub known : WhereKnown input rest (λ all behind. lines_of all ≡ lines ++ lines_of behind)
    pub printed : Appends start held (texts_of (all_said replies))
    pub unanswered : lines ≡ [] → now ≡ entry
    pub firm : crash_came_last Outside false lines replies ≡ true → IsFirmShut now pool

  -- The lines were served until the run ended.
  pub record Served (first : Desk) (ended : Status) (input start held : Option (List ℕ)) (entry now : OnShelf) (pool : Option (Pool R A)) : Type 0 where
    pub lines : List (List ℕ)
    pub replies : List (List Said)
    pub shown : List Said
    pub mid : Desk
    pub journal : List Entry
    pub last : Desk
    pub broken : Option (List ℕ)
    pub saids : List Said
    pub desk : IsDesk rack area entry now pool last
    pub to : Place
    pub runs : RunsOn choices (MayFind rack area entry) (is_some entry.held) Outside (sits first []) lines replies to (sits mid journal)
    pub may : MayEndAt to ended broken
    pub stopped : to ≡ Ended → EndsSection choices (MayFind rack area entry) (is_some entry.held) (LaneStopped area pool) (sits first []) lines replies to (sits mid journal) runs
    pub breaks : BreaksOff lines ended broken saids mid last
    pub ends : MatchOption input ⊤ (Ends ended broken lines)
    pub shows : Shows ended (all_replies replies saids) shown
    pub prints : GetsReplies ended shown start held
    pub failed : ended ≡ ShelfFault → HasFault area entry now pool last ⊎ (MakesLeavesAt lines broken × RackFault rack pool last)
    pub since : ended ≡ ShelfFault → IsClosed mid → IsClosed last × FailsShut area broken lines mid entry now
    pub bad : (which : RecordName) (place : ℕ) (kind : RecordFaultKind) → ended ≡ Record which place kind → FaultyShut rack area broken lines mid entry which place kind
    pub firm : broken ≡ None → crash_came_last Outside false lines replies ≡ true → IsFirmShut now pool
