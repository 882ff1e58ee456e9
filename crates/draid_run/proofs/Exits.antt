-- What the exits of a run's functions come to.
use Rattle.std.proofs.Common.{arith, ◌≡◌, ◌≤◌, inl, inr, ◌⊎◌, ℕ, List, [], Option, Some, None, Result, Ok, Err, Vec, Global, refl, subst, sym}
use Rattle.std.specs.Prelude.{⊤}
use Rattle.std.specs.Io.KnownBytes.{Appends}
use Rattle.std.proofs.lemmas.List.{append-nil}
use Rattle.draid_names.specs.Faults.{Rose}
use Rattle.draid_names.specs.declared.journal.Entry.{Entry}
use Rattle.draid_rack.specs.declared.Rack as racks
use Rattle.draid_area.specs.declared.Area as areas
use Rattle.draid_lines.specs.declared.lines.ReadFault.{ReadFault}
use Rattle.draid_lines.specs.declared.lines.ReadFault.TheVariants as reads
use Rattle.draid_script.specs.Grammar.{line_of}
use Rattle.draid_script.specs.Line.{Command, OpenLanes}
use Rattle.draid_script.specs.declared.fault.LineFault.{LineFault}
use Rattle.draid_script.specs.declared.fault.LineFaultKind.{LineFaultKind}
use Rattle.draid_reply.specs.Reply.{text_of}
use Rattle.draid_reply.specs.declared.reply.Reply.{Reply}
use Rattle.draid_session.specs.Said.{Said, alone}
use Rattle.draid_session.specs.Choices.{Choices}
use Rattle.draid_session.specs.Places.{Outside, Place, line_at}
use Rattle.draid_session.specs.Sections.{OutsideTurns}
use Rattle.draid_session.specs.Session.{Desk, Finding, Sitting, SittingTurns, sits}
use Rattle.draid_pool.specs.declared.pool.Pool.{Pool}
use Rattle.draid_run.specs.Crashes.{LeavesFirm, LeavesFirmAt}
use Rattle.draid_run.specs.Desks.{Noted, Turned}
use Rattle.draid_run.specs.Lines.{IsNoOpening}
use Rattle.draid_run.specs.Serve.{AnswerIs, LineIs, Placed, opened_by, status_of}
use Rattle.draid_print.specs.Printing.{PrintIs}
use Rattle.draid_run.specs.Shelves.{MayFind}
use Rattle.draid_pool.specs.Shelves.{OnShelf}
use Rattle.draid_run.specs.declared.answer.Stop.{Stop}
use Rattle.draid_run.specs.declared.answer.Stop.TheVariants as stop
use Rattle.draid_exits.specs.declared.status.Status.{Status}
use Rattle.draid_print.proofs.Appending.{appends_none}
use Rattle.draid_exits.specs.declared.status.Status.TheVariants.{Done, Usage, Line, SourceFault, SinkFault, NoMemory, TooLong, ShelfFault, Record}

-- nothing failed since
pub same_later : (n : ℕ) → n ≤ n
same_later n = omega arith

pub later_on : (a b c : ℕ) → a ≤ b → b ≤ c → a ≤ c
later_on a b c first then = omega (arith, first, then)

pub later_same : (a b c : ℕ) → a ≤ b → c ≡ b → a ≤ c
later_same a b c first same = omega (arith, first, same)

-- a count rose in a part of a call
pub rose_from : (entry before now : ℕ) → entry ≤ before → Rose before now → Rose entry now
rose_from entry before now later rose = omega (arith, later, rose)

pub rose_till : (entry mid now : ℕ) → Rose entry mid → mid ≤ now → Rose entry now
rose_till entry mid now rose later = omega (arith, rose, later)

-- no device is to blame for these
abbrev pub IsBlameless : Status → Type 0
IsBlameless SourceFault = ⊥
IsBlameless SinkFault = ⊥
IsBlameless ShelfFault = ⊥
IsBlameless Usage = ⊤
IsBlameless NoMemory = ⊤
IsBlameless Done = ⊤
IsBlameless (Line line kind at) = ⊤
IsBlameless (TooLong line) = ⊤
IsBlameless (Record which place kind) = ⊤

pub blameless : (P : Type 0) (ended status : Status) → IsBlameless ended → ended ≡ status → (IsBlameless status → ⊥) → P
blameless P ended status none is device = absurd (device (subst IsBlameless is none))

pub done_usage : Done ≡ Usage → ⊥
done_usage is = cc is

pub usage_done : Usage ≡ Done → ⊥
usage_done is = cc is

pub memory_done : NoMemory ≡ Done → ⊥
memory_done is = cc is

-- the sink failed as the last line was put, or before
pub sink_last : (ended : Status) (before now : ℕ) → IsBlameless ended → (ended ≡ SinkFault) ⊎ Rose before now → Rose before now
sink_last ended before now none why = elim why [ inl is ↦ absurd (subst IsBlameless is none) | inr rose ↦ rose ]

pub sink_since : (ended : Status) (entry mid now : ℕ) → entry ≤ mid → mid ≤ now → (ended ≡ SinkFault → Rose entry mid) → (ended ≡ SinkFault) ⊎ Rose mid now → Rose entry now
sink_since ended entry mid now first then cause why = elim why [ inl is ↦ rose_till entry mid now (cause is) then | inr rose ↦ rose_from entry mid now first rose ]

-- ---- a line

abbrev stopped : Status → Result Unit Status
stopped status = Err status

-- the sink isn't why a line ended so
module _ (P : Type 0) where
  pub done_cause : Ok tt ≡ stopped SinkFault → P
  done_cause is = absurd (cc is)

  pub line_cause : (number : ℕ) (kind : LineFaultKind) (at : ℕ) → stopped (Line number kind at) ≡ stopped SinkFault → P
  line_cause number kind at is = absurd (cc is)

  pub memory_cause : stopped NoMemory ≡ stopped SinkFault → P
  memory_cause is = absurd (cc is)

  pub stop_cause : (number : ℕ) (why : Stop) (status : Status) → status ≡ status_of number why → stopped status ≡ stopped SinkFault → P
  stop_cause number stop.Shelf status is sink = absurd (cc (is, sink))
  stop_cause number (stop.Record which place kind) status is sink = absurd (cc (is, sink))

-- a line was answered, and by so much the journal was longer behind it
abbrev pub Answered : {R A : Type 0} → racks.Ghosts R → areas.Ghosts A → Choices → List Entry → List Entry → OnShelf → OnShelf → Option (Pool R A) → Desk → List Said → OnShelf → Option (Pool R A) → Result Command LineFault → Type 0
Answered rack area choices past after entry before pool x saids now pool' line =
    (turned : Turned rack area choices line entry x saids now pool') × Noted rack area choices line entry x saids now pool' turned past after × LeavesFirm line saids before pool now pool'

-- a line that opens no section
pub no_opening : (command : Command) → opened_by command ≡ None → IsNoOpening (Ok command)
no_opening (OpenLanes count) is = cc is
no_opening command is = tt

place_outside : (choices : Choices) (finds : Finding → Type 0) (line : Result Command LineFault) (old new : Sitting) (saids : List Said) → IsNoOpening line → SittingTurns choices finds line old saids new → OutsideTurns choices finds line old saids new Outside
place_outside choices finds (Ok (OpenLanes count)) old new saids none t = absurd none
place_outside choices finds line old new saids none t = (t, refl)

-- so the run stands outside behind it
module _ {R A : Type 0} (rack : racks.Ghosts R) (area : areas.Ghosts A) (choices : Choices) (past after : List Entry) (text : List ℕ) (entry before : OnShelf) (pool : Option (Pool R A)) (x : Desk) (saids : List Said) (now : OnShelf) (pool' : Option (Pool R A)) where
  pub answered_outside : IsNoOpening (line_of text) → Answered rack area choices past after entry before pool x saids now pool' (line_of text) → Placed rack area choices past after Outside text entry x saids now pool' Outside
  answered_outside none it = record {
    new = it.0.new;
    desk = it.0.desk;
    turns = place_outside choices (MayFind rack area entry) (line_of text) (sits x past) (sits it.0.new after) saids none (it.0.turns, it.1.0, it.1.1, it.1.2);
    stopped = λ e. absurd (cc e);
  }

-- one reply to a line was printed or not
module _ {R A : Type 0} (rack : racks.Ghosts R) (area : areas.Ghosts A) (choices : Choices) (past after : List Entry) (from : Place) (number : ℕ) (text : List ℕ) (entry before : OnShelf) (pool : Option (Pool R A)) (x : Desk) (now : OnShelf) (pool' : Option (Pool R A)) (reply : Reply) (held held' : Option (List ℕ))
    (placed : Placed rack area choices past after from text entry x (alone reply) now pool' Outside) (firm : LeavesFirmAt from text (alone reply) before pool now pool') where
  pub printed_alone : (result : Result Unit Status) → PrintIs (text_of reply) held held' result → LineIs rack area choices past after from number text entry before pool x now pool' held held' Outside result
  printed_alone (Ok done) prints = record { saids = alone reply; placed = placed; firm = firm; prints = subst (λ text. Appends held held' text) (sym (append-nil (text_of reply))) prints }
  printed_alone (Err SinkFault) prints =
      record { part = []; said = record { lane = None; reply = reply }; rest = []; mid = held; to = Outside; ends = tt; placed = placed; firm = firm; whole = appends_none held; prints = prints }
  printed_alone (Err NoMemory) prints =
      inr (record { part = []; said = record { lane = None; reply = reply }; rest = []; to = Outside; ends = tt; placed = placed; firm = firm; prints = subst (λ now. Appends held now []) (sym prints) (appends_none held) })
  printed_alone (Err Done) prints = absurd prints
  printed_alone (Err Usage) prints = absurd prints
  printed_alone (Err (Line line kind at)) prints = absurd prints
  printed_alone (Err SourceFault) prints = absurd prints
  printed_alone (Err (TooLong line)) prints = absurd prints
  printed_alone (Err ShelfFault) prints = absurd prints
  printed_alone (Err (Record which place kind)) prints = absurd prints

-- a line was answered, and its reply printed or not
module _ {R A : Type 0} (rack : racks.Ghosts R) (area : areas.Ghosts A) (choices : Choices) (past after : List Entry) (number : ℕ) (text : List ℕ) (entry before : OnShelf) (pool : Option (Pool R A)) (x : Desk) (now : OnShelf) (pool' : Option (Pool R A)) (reply : Reply) (held held' : Option (List ℕ)) (none : IsNoOpening (line_of text)) where
  pub line_told : (result : Result Unit Status) → Answered rack area choices past after entry before pool x (alone reply) now pool' (line_of text) → PrintIs (text_of reply) held held' result
      → LineIs rack area choices past after Outside number text entry before pool x now pool' held held' Outside result
  line_told result it prints =
      printed_alone rack area choices past after Outside number text entry before pool x now pool' reply held held' (answered_outside rack area choices past after text entry before pool x (alone reply) now pool' none it) it.2 result prints

-- a line has no reply, and the run ends
module _ {R A : Type 0} (rack : racks.Ghosts R) (area : areas.Ghosts A) (choices : Choices) (past after : List Entry) (number : ℕ) (text : List ℕ) (entry before : OnShelf) (pool : Option (Pool R A)) (x : Desk) (now : OnShelf) (pool' : Option (Pool R A)) (held : Option (List ℕ)) (command : Command) (line : line_of text ≡ Ok command) where
  by_stop : (why : Stop) → AnswerIs rack area choices past after command entry before pool x now pool' (Err why) → LineIs rack area choices past after Outside number text entry before pool x now pool' held held Outside (Err (status_of number why))
  by_stop stop.Shelf answered = inl (refl, refl, record { command = command; line = line; broken = answered })
  by_stop (stop.Record which place kind) answered = (refl, refl, record { command = command; line = line; broken = answered.0 }, answered.1)

  pub line_stopped : (why : Stop) (status : Status) → status ≡ status_of number why → AnswerIs rack area choices past after command entry before pool x now pool' (Err why)
      → LineIs rack area choices past after Outside number text entry before pool x now pool' held held Outside (Err status)
  line_stopped why status is answered = subst (λ s. LineIs rack area choices past after Outside number text entry before pool x now pool' held held Outside (Err s)) (sym is) (by_stop why answered)

-- ---- the next line's text

abbrev unread : Status → Result (Option (Vec ℕ Global)) Status
unread status = Err status

abbrev given : Option (Vec ℕ Global) → Result (Option (Vec ℕ Global)) Status
given text = Ok text

pub text_same : (a b : Option (Vec ℕ Global)) → given a ≡ given b → a ≡ b
text_same a b is = cc is

-- the source isn't why there is none
module _ (P : Type 0) where
  pub text_cause : (text : Option (Vec ℕ Global)) → Ok text ≡ unread SourceFault → P
  text_cause text is = absurd (cc is)

  pub long_cause : (line : ℕ) → unread (TooLong line) ≡ unread SourceFault → P
  long_cause line is = absurd (cc is)

  pub wanting_cause : unread NoMemory ≡ unread SourceFault → P
  wanting_cause is = absurd (cc is)

-- the source failed, where no refusal stood
pub source_rose : (fault : Option ReadFault) (before now : ℕ) → fault ≡ None → (fault ≡ Some reads.SourceFault) ⊎ Rose before now → Rose before now
source_rose None before now none (inl is) = absurd (cc is)
source_rose None before now none (inr rose) = rose
source_rose (Some fault) before now none rose = absurd (cc none)
