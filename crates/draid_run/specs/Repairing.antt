-- What the repair agent does to the open pool and to the journal, by its answer.
use Rattle.std.specs.Prelude.{◌≡◌, ◌+◌, ◌++◌, ◌⊎◌, ⊤, ℕ, List, [], Option, Some, None, Result, Ok, Err, length}
use Rattle.std.specs.declared.vec.Vec.{Vec}
use Rattle.std.specs.declared.alloc.Global.{Global}
use Rattle.draid_names.specs.declared.fault.Failed.{Failed}
use Rattle.draid_names.specs.declared.journal.Entry.{Entry}
use Rattle.draid_spec.specs.declared.layout.Geometry.{Geometry}
use Rattle.draid_perm.specs.declared.perms.Perms.{Perms}
use Rattle.draid_rack.specs.declared.Rack as racks
use Rattle.draid_area.specs.declared.Area as areas
use Rattle.draid_script.specs.Line.{RunAgent, ShowJournal}
use Rattle.draid_script.specs.declared.name.CommandName.TheVariants as name
use Rattle.draid_reply.specs.declared.reply.AgentErrors.{AgentErrors}
use Rattle.draid_reply.specs.declared.reply.Reply.{Reply}
use Rattle.draid_reply.specs.declared.reply.Reply.TheVariants as replies
use Rattle.draid_session.specs.Agent as agent
use Rattle.draid_session.specs.Agent.{AnySpare}
use Rattle.draid_session.specs.Holds.{Hold}
use Rattle.draid_session.specs.Looks.{OnlyLooks}
use Rattle.draid_session.specs.Passes.{RebuildStarves, RebuildStops, ScrubStops}
use Rattle.draid_session.specs.Phases.{Broke, Starved, WasLast, WasWorn}
use Rattle.draid_session.specs.Replies.{IsReplyTo}
use Rattle.draid_session.specs.Session.{Desk, Foreign, ForeignNotes, Open}
use Rattle.draid_session.specs.State.{State, Store}
use Rattle.draid_pool.specs.Carries.{CarriesOut}
use Rattle.draid_pool.specs.Knows.{KnowsPointers}
use Rattle.draid_pool.specs.Whole.{IsWhole}
use Rattle.draid_pool.specs.declared.fault.SyncFault.{SyncFault}
use Rattle.draid_pool.specs.declared.fault.SyncFault.TheVariants as sync
use Rattle.draid_pool.specs.declared.pool.Pool.{Pool}
use Rattle.draid_changes.specs.Agent.{AddsEntries}
use Rattle.draid_changes.specs.declared.agent.GiveFault.{GiveFault}
use Rattle.draid_changes.specs.declared.agent.GiveFault.TheVariants as fault
use Rattle.draid_visits.specs.Rebuilding.{stopped_by}
use Rattle.draid_visits.specs.declared.rebuilding.MendFault.{MendFault}
use Rattle.draid_visits.specs.declared.rebuilding.MendFault.TheVariants as mending
use Rattle.draid_run.specs.Desks.{PoolBroke}
use Rattle.draid_run.specs.declared.answer.Stop.{Stop}
use Rattle.draid_run.specs.declared.answer.Stop.TheVariants as stop

-- a pass that finds nothing in its way is stopped by these alone
abbrev pub IsStop : MendFault → Type 0
IsStop mending.Worn = ⊤
IsStop mending.Last = ⊤
IsStop mending.Shelf = ⊤
IsStop mending.NoMemory = ⊤
IsStop why = ⊥

-- what a rebuild came to that finds no scrub in its way and isn't done: there was nothing to rebuild, or it was stopped
abbrev pub EndsBy : MendFault → Result ℕ SyncFault → Type 0
EndsBy mending.Nothing (Ok errors) = errors ≡ 0
EndsBy why (Ok errors) = ⊥
EndsBy why (Err cause) = why ≡ stopped_by cause

module _ (geometry : Geometry) (perms : Perms) where
  -- ---- the rebuild and the scrub

  -- A rebuild without a limit came to its end with so many errors, none where there was nothing to rebuild; or it was stopped.
  abbrev pub RebuildEnds : Result ℕ SyncFault → List Hold → Type 0
  RebuildEnds (Ok errors) holds = agent.RebuildsAll geometry perms AnySpare errors holds
  RebuildEnds (Err sync.Worn) holds = RebuildStops geometry perms None holds WasWorn
  RebuildEnds (Err sync.Last) holds = RebuildStops geometry perms None holds WasLast
  RebuildEnds (Err sync.Shelf) holds = RebuildStops geometry perms None holds Broke
  RebuildEnds (Err sync.NoMemory) holds = RebuildStarves geometry perms None holds

  -- so a scrub, which no area stops
  abbrev pub ScrubEnds : Result ℕ SyncFault → List Hold → Type 0
  ScrubEnds (Ok errors) holds = agent.ScrubsAll geometry perms AnySpare errors holds
  ScrubEnds (Err sync.Worn) holds = ScrubStops geometry perms None holds WasWorn
  ScrubEnds (Err sync.Last) holds = ScrubStops geometry perms None holds WasLast
  ScrubEnds (Err sync.Shelf) holds = ⊥
  ScrubEnds (Err sync.NoMemory) holds = ScrubStops geometry perms None holds Starved

  -- both, one behind the other
  abbrev pub HealEnds : Result AgentErrors SyncFault → List Hold → Type 0
  HealEnds (Ok errors) holds = agent.Heals geometry perms AnySpare errors.rebuild errors.scrub holds
  HealEnds (Err sync.Worn) holds = agent.HealStops geometry perms AnySpare holds WasWorn
  HealEnds (Err sync.Last) holds = agent.HealStops geometry perms AnySpare holds WasLast
  HealEnds (Err sync.Shelf) holds = agent.HealStops geometry perms AnySpare holds Broke
  HealEnds (Err sync.NoMemory) holds = agent.HealStops geometry perms AnySpare holds Starved ⊎ OnlyLooks holds

  -- ---- the whole

  module _ (chosen : ℕ → ℕ → List ℕ → Option ℕ → Type 0) (least : ℕ) (before : List Entry) where
    -- it was stopped, behind these entries
    abbrev pub RepairHalts : SyncFault → List Entry → List Hold → Type 0
    RepairHalts sync.Worn entries holds = agent.RepairStops geometry perms chosen least (length before + 1) entries holds WasWorn
    RepairHalts sync.Last entries holds = agent.RepairStops geometry perms chosen least (length before + 1) entries holds WasLast
    RepairHalts sync.Shelf entries holds = agent.RepairStops geometry perms chosen least (length before + 1) entries holds Broke
    RepairHalts sync.NoMemory entries holds = agent.RepairStarves geometry perms chosen least (length before + 1) entries holds

    -- its entries are behind those that the journal had
    abbrev pub RepairEnds : Result (Option AgentErrors) GiveFault → List Entry → List Hold → Type 0
    RepairEnds (Ok errors) after holds =
        (entries : List Entry) × (after ≡ before ++ entries) × agent.Repairs geometry perms chosen least (length before + 1) entries errors holds
    RepairEnds (Err fault.Idle) after holds = (after ≡ before) × agent.IsIdleAll geometry perms chosen least holds
    RepairEnds (Err (fault.PassThere metaslab number)) after holds = (after ≡ before) × agent.FindsPass geometry perms chosen holds metaslab number
    RepairEnds (Err (fault.Stopped why)) after holds = (entries : List Entry) × (after ≡ before ++ entries) × RepairHalts why entries holds

-- ---- the journal, whatever is known of the pool

-- by the answer: it is as it was where nothing was due or a pass was in the way, and else some entries may have come
abbrev pub RepairNotes : Result (Option AgentErrors) GiveFault → List Entry → List Entry → Type 0
RepairNotes (Ok errors) before after = AddsEntries before after
RepairNotes (Err fault.Idle) before after = after ≡ before
RepairNotes (Err (fault.PassThere metaslab number)) before after = after ≡ before
RepairNotes (Err (fault.Stopped why)) before after = AddsEntries before after

-- by the reply
abbrev pub NotesBehind : List Entry → Reply → List Entry → Type 0
NotesBehind before reply after = (more : List Entry) × ForeignNotes before reply more × (after ≡ before ++ more)

-- ---- the reply

-- A reply is that of an answer, with the entries that came. There is none where a device failed.
abbrev pub IsAgentReply : ℕ → Vec Entry Global → Result (Option AgentErrors) GiveFault → Result Reply Failed → Type 0
IsAgentReply parity entries (Ok errors) said = said ≡ Ok (replies.Acted parity entries errors)
IsAgentReply parity entries (Err fault.Idle) said = said ≡ Ok replies.AgentIdle
IsAgentReply parity entries (Err (fault.PassThere metaslab number)) said = said ≡ Ok (replies.PassThere name.Agent metaslab number)
IsAgentReply parity entries (Err (fault.Stopped sync.Worn)) said = said ≡ Ok (replies.Worn name.Agent)
IsAgentReply parity entries (Err (fault.Stopped sync.Last)) said = said ≡ Ok (replies.Last name.Agent)
IsAgentReply parity entries (Err (fault.Stopped sync.NoMemory)) said = said ≡ Ok (replies.NoMemory name.Agent)
IsAgentReply parity entries (Err (fault.Stopped sync.Shelf)) (Ok reply) = ⊥
IsAgentReply parity entries (Err (fault.Stopped sync.Shelf)) (Err failed) = ⊤

module _ (x : State) (chosen : ℕ → ℕ → List ℕ → Option ℕ → Type 0) (least : ℕ) (before : List Entry) where
  -- memory was wanting for the reply's list, and nothing was done
  pub record WantsList (said : Result Reply Failed) (after : List Entry) (holds : List Hold) (store : Store) : Type 0 where
    pub said_is : said ≡ Ok (replies.NoMemory name.Agent)
    pub same : after ≡ before
    pub kept : store ≡ x.store
    pub none : holds ≡ []

  -- it did what its answer says, of which this is the reply
  pub record AgentActs (said : Result Reply Failed) (after : List Entry) (holds : List Hold) (store : Store) : Type 0 where
    pub answer : Result (Option AgentErrors) GiveFault
    pub entries : Vec Entry Global
    pub reply : IsAgentReply x.geometry.spec.parity entries answer said
    pub added : after ≡ before ++ entries.items
    pub kept : store ≡ x.store
    pub ends : RepairEnds x.geometry x.perms chosen least before answer after holds

  abbrev pub AgentSays : Result Reply Failed → List Entry → List Hold → Store → Type 0
  AgentSays said after holds store = WantsList said after holds store ⊎ AgentActs said after holds store

-- the journal is shown, or memory is wanting for that
abbrev pub ShowSays : ℕ → List Entry → Reply → Type 0
ShowSays parity journal (replies.Journal p entries) = (p ≡ parity) × (entries.items ≡ journal)
ShowSays parity journal (replies.NoMemory name.Agent) = ⊤
ShowSays parity journal reply = ⊥

-- ---- the line

module _ {R A : Type 0} (rack : racks.Ghosts R) (area : areas.Ghosts A) where
  module _ (chosen : ℕ → ℕ → List ℕ → Option ℕ → Type 0) (least : ℕ) (before after : List Entry) where
    -- An agent's line has a reply: that of the open pool, of which it may be that no state is known, or that none is open.
    abbrev pub AgentDid : Desk → Reply → Option (Pool R A) → Type 0
    AgentDid (Open x) reply None = ⊥
    AgentDid (Foreign known) reply None = ⊥
    AgentDid (Open x) reply (Some pool) = IsWhole rack area pool × CarriesOut rack area pool x (AgentSays x chosen least before (Ok reply) after)
    AgentDid (Foreign known) reply (Some pool) = IsWhole rack area pool × IsReplyTo (RunAgent least) reply × KnowsPointers pool known × NotesBehind before reply after
    AgentDid desk reply pool = (reply ≡ replies.NoPool name.Agent) × (pool ≡ None) × (after ≡ before)

    -- or a device of the pool failed
    abbrev pub AgentIs : Desk → Option (Pool R A) → Result Reply Stop → Type 0
    AgentIs old pool (Ok reply) = AgentDid old reply pool
    AgentIs old pool (Err stop.Shelf) = PoolBroke rack area (RunAgent least) old pool
    AgentIs old pool (Err (stop.Record metaslab place kind)) = ⊥

  -- so a line that asks for the journal
  abbrev pub JournalIs : List Entry → Option (Pool R A) → Reply → Type 0
  JournalIs journal None reply = reply ≡ replies.NoPool name.Agent
  JournalIs journal (Some pool) reply = IsReplyTo ShowJournal reply × ShowSays pool.geometry.spec.parity journal reply
