-- What a line of the repair agent comes to.
use Rattle.std.proofs.Common.{◌≡◌, ◌∙◌, ◌++◌, ◌+◌, inl, inr, ℕ, zero, suc, List, [], ◌∷◌, Option, Some, None, Result, Ok, Err, refl, sym, subst, length}
use Rattle.std.proofs.lemmas.List.{append-nil}
use Rattle.draid_names.specs.declared.fault.Failed.{Failed}
use Rattle.draid_names.specs.declared.journal.Did.{Did}
use Rattle.draid_names.specs.declared.journal.Did.TheVariants as dids
use Rattle.draid_names.specs.declared.journal.Entry.{Entry}
use Rattle.draid_names.specs.declared.room.Room.{Room}
use Rattle.draid_rack.specs.declared.Rack as racks
use Rattle.draid_area.specs.declared.Area as areas
use Rattle.draid_script.specs.Line.{RunAgent, ShowJournal}
use Rattle.draid_script.specs.declared.name.CommandName.TheVariants as name
use Rattle.draid_perm.specs.declared.perms.Perms.{Perms}
use Rattle.draid_spec.specs.declared.layout.Geometry.{Geometry}
use Rattle.draid_reply.specs.declared.reply.AgentErrors.{AgentErrors}
use Rattle.draid_reply.specs.declared.reply.Reply.{Reply}
use Rattle.draid_reply.specs.declared.reply.Reply.TheVariants.{Acted, AgentIdle, Crashed, Exported, Journal, Last, NoMemory, NoPool, PassThere, Worn}
use Rattle.draid_session.specs.Agent as agent
use Rattle.draid_session.specs.Choices.{Choices, choices_with}
use Rattle.draid_session.specs.Holds.{Hold, View}
use Rattle.draid_session.specs.Known.{Known}
use Rattle.draid_session.specs.Looks.{OnlyLooks}
use Rattle.draid_session.specs.Replies.{IsReplyTo}
use Rattle.draid_session.specs.Said.{alone}
use Rattle.draid_session.specs.Session as session
use Rattle.draid_session.specs.Session.{Bare, Desk, Foreign, Made, Open, Shut, Unknown, Untouched}
use Rattle.draid_session.specs.Phases.{Broke, End, Went}
use Rattle.draid_session.specs.State.{State, Store}
use Rattle.draid_pool.specs.Carries.{CarriesOut, ReplyDoes}
use Rattle.draid_pool.specs.Failing.{AreaFails}
use Rattle.draid_pool.specs.Pointers.{SamePointers}
use Rattle.draid_pool.specs.Pools.{Represents}
use Rattle.draid_pool.specs.Shelves.{OnShelf}
use Rattle.draid_pool.specs.Whole.{IsWhole}
use Rattle.draid_pool.specs.declared.fault.SyncFault.TheVariants as sync
use Rattle.draid_pool.specs.declared.pool.Pool.{Pool}
use Rattle.draid_changes.specs.declared.agent.GiveFault.{GiveFault}
use Rattle.draid_changes.specs.declared.agent.GiveFault.TheVariants as fault
use Rattle.draid_pool.proofs.Steps.{carries_so}
use Rattle.draid_pool.proofs.Taught.{still_known}
use Rattle.draid_run.specs.Desks.{BreaksBy, IsDesk, IsPool, IsShelf, Noted, PoolBroke, Turned}
use Rattle.draid_run.specs.Repairing.{AgentActs, AgentDid, AgentIs, AgentSays, IsAgentReply, JournalIs, NotesBehind, RepairEnds, ShowSays}
use Rattle.draid_run.specs.Serve.{AnswerIs, IsSaid}
use Rattle.draid_run.specs.declared.answer.Stop.{Stop}
use Rattle.draid_run.specs.declared.answer.Stop.TheVariants as stop
use Rattle.draid_run.proofs.Steps.{ask_breaks, breaks_same, broke_open, still_out}

-- what is behind the same entries is the same
same_behind : (past cs bs : List Entry) → past ++ cs ≡ past ++ bs → cs ≡ bs
same_behind [] cs bs is = is
same_behind (e ∷ past) cs bs is = same_behind past cs bs (rest e e (past ++ cs) (past ++ bs) is)
  where
    rest : (a b : Entry) (xs ys : List Entry) → a ∷ xs ≡ b ∷ ys → xs ≡ ys
    rest a b xs ys same = cc same

abbrev replied : Reply → Result Reply Failed
replied reply = Ok reply

abbrev refused : Failed → Result Reply Failed
refused failed = Err failed

same_reply : (a b : Reply) → replied a ≡ replied b → a ≡ b
same_reply a b is = cc is

-- behind an agent's line the pool is open still
agent_keeps : (least : ℕ) (reply : Reply) (known : Known) → IsReplyTo (RunAgent least) reply → Foreign known ≡ session.foreign_behind reply known
agent_keeps least (Exported group) known is = absurd is
agent_keeps least Crashed known is = absurd is
agent_keeps least reply known is = refl

-- ---- what was given by a policy was given by some

module _ (geometry : Geometry) (perms : Perms) (spare : ℕ → ℕ → List ℕ → Option ℕ → Type 0) (least : ℕ) where
  any_gets : (views : List View) (given : List Entry) (slot leaf : ℕ) (did : Did) → agent.Gets geometry perms spare views given slot leaf did → agent.Gets geometry perms agent.AnySpare views given slot leaf did
  any_gets views given slot leaf dids.NoneFree gets = gets
  any_gets views given slot leaf (dids.Spared number) gets = (gets.0, gets.1, gets.2, tt)

  any_gives : (views : List View) (given : List Entry) (number slot n : ℕ) (entries : List Entry) → agent.GivesFrom geometry perms spare least views given number slot n entries
      → agent.GivesFrom geometry perms agent.AnySpare least views given number slot n entries
  any_gives views given number slot zero entries gives = gives
  any_gives views given number slot (suc n) entries (inl gives) = inl (gives.0, any_gives views given number (slot + 1) n entries gives.1)
  any_gives views given number slot (suc n) entries (inr (e, rest, leaf, are, numbered, slot_is, due, gets, gives)) =
      inr (e, rest, leaf, are, numbered, slot_is, due, any_gets views given slot leaf e.did gets, any_gives views (given ++ e ∷ []) (number + 1) (slot + 1) n rest gives)

  any_then : (P Q : List Hold → End → Type 0) → ((holds : List Hold) (end : End) → P holds end → Q holds end) → (did : Did) (slot : ℕ) (holds : List Hold) (end : End) → agent.AttachesThen geometry perms spare did slot P holds end
      → agent.AttachesThen geometry perms agent.AnySpare did slot Q holds end
  any_then P Q f dids.NoneFree slot holds end comes = f holds end comes
  any_then P Q f (dids.Spared number) slot holds end comes = elim comes [ inl c ↦ inl (c.0, c.1, c.2, c.3, f c.1 end c.4) | inr c ↦ inr c ]

  any_comes : (entries : List Entry) (holds : List Hold) (end : End) → agent.AttachesAll geometry perms spare entries holds end → agent.AttachesAll geometry perms agent.AnySpare entries holds end
  any_comes [] holds end comes = comes
  any_comes (e ∷ entries) holds end comes =
      any_then (agent.AttachesAll geometry perms spare entries) (agent.AttachesAll geometry perms agent.AnySpare entries) (any_comes entries) e.did e.slot holds end comes

  any_acts : (number : ℕ) (entries : List Entry) (holds rest : List Hold) → agent.Acts geometry perms spare least number entries holds rest → agent.Acts geometry perms agent.AnySpare least number entries holds rest
  any_acts number entries holds rest a = record {
    views = a.views;
    back = a.back;
    begins = record { finish = a.begins.finish; looks = a.begins.looks; are = a.begins.are; finishes = a.begins.finishes; looked = a.begins.looked; none = a.begins.none };
    gives = any_gives a.views [] number 0 geometry.spec.children entries a.gives;
    reserving = a.reserving;
    coming = a.coming;
    are = a.are;
    reserves = a.reserves;
    comes = any_comes entries a.coming Went a.comes;
  }

  any_stops : (number : ℕ) (entries : List Entry) (holds : List Hold) (end : End) → agent.RepairStops geometry perms spare least number entries holds end → agent.RepairStops geometry perms agent.AnySpare least number entries holds end
  any_stops number entries holds end (inl stops) = inl stops
  any_stops number entries holds end (inr (inl (none, other, views, back, count, begins, due, reserves))) =
      inr (inl (none, other, views, back, count, record { finish = begins.finish; looks = begins.looks; are = begins.are; finishes = begins.finishes; looked = begins.looked; none = begins.none }, due, reserves))
  any_stops number entries holds end (inr (inr (rest, came, acts, stops))) = inr (inr (rest, came, any_acts number entries holds rest acts, stops))

module _ {R A : Type 0} (rack : racks.Ghosts R) (area : areas.Ghosts A) (room : List Room → Option ℕ → Type 0) (spare : ℕ → ℕ → List ℕ → Option ℕ → Type 0) (least : ℕ) (past after : List Entry) (entry now : OnShelf) (desk : Option (Pool R A)) where
  abbrev chosen : Choices
  chosen = choices_with room spare

  -- the line was answered so, and the journal is this behind it
  abbrev Sat : Desk → Option (Pool R A) → Reply → Type 0
  Sat x pool reply =
      (turned : Turned rack area chosen (Ok (RunAgent least)) entry x (alone reply) now pool) × Noted rack area chosen (Ok (RunAgent least)) entry x (alone reply) now pool turned past after

  -- ---- a pool of a known state

  module _ (y : State) (pool : Pool R A) (is : IsDesk rack area entry now desk (Open y)) (whole : IsWhole rack area pool) (said : Reply) (c : CarriesOut rack area pool y (AgentSays y spare least past (Ok said) after)) where
    abbrev behind : State
    behind = record c.reached { store = c.store }

    abbrev turned_open : (reply : Reply) → ReplyDoes y chosen (RunAgent least) reply c.holds c.store → Open behind ≡ session.desk_behind reply behind → Turned rack area chosen (Ok (RunAgent least)) entry (Open y) (alone reply) now (Some pool)
    turned_open reply does stays = record {
      new = Open behind;
      desk = record { stands = (whole, c.represents); shelf = still_out y c.reached now c.holds c.follows is.shelf c.store };
      turns = (refl, (behind, record { holds = c.holds; mid = c.reached; store = c.store; follows = c.follows; does = does; made = refl }, stays));
    }

    acted : (a : AgentActs y spare least past (Ok said) after c.holds c.store) → Sat (Open y) (Some pool) said
    acted a = by a.answer a.reply a.ends
      where
        by : (answer : Result (Option AgentErrors) GiveFault) → IsAgentReply y.geometry.spec.parity a.entries answer (Ok said) → RepairEnds y.geometry y.perms spare least past answer after c.holds → Sat (Open y) (Some pool) said
        by (Ok errors) says ends =
            let same : ends.0 ≡ a.entries.items = same_behind past ends.0 a.entries.items (sym ends.1 ∙ a.added) in
            subst (Sat (Open y) (Some pool)) (sym (same_reply said (Acted y.geometry.spec.parity a.entries errors) says)) (
              turned_open (Acted y.geometry.spec.parity a.entries errors) (
                a.kept,
                refl,
                record { number = length past + 1; repairs = subst (λ es. agent.Repairs y.geometry y.perms spare least (length past + 1) es errors c.holds) same ends.2 },
              ) refl,
              (a.entries.items, (refl, refl), a.added),
            )
        by (Err fault.Idle) says ends =
            subst (Sat (Open y) (Some pool)) (sym (same_reply said AgentIdle says)) (turned_open AgentIdle (a.kept, ends.1) refl, ([], refl, ends.0 ∙ sym (append-nil past)))
        by (Err (fault.PassThere metaslab number)) says ends =
            subst (Sat (Open y) (Some pool)) (sym (same_reply said (PassThere name.Agent metaslab number) says)) (turned_open (PassThere name.Agent metaslab number) (a.kept, ends.1) refl, ([], refl, ends.0 ∙ sym (append-nil past)))
        by (Err (fault.Stopped sync.Worn)) says ends =
            subst (Sat (Open y) (Some pool)) (sym (same_reply said (Worn name.Agent) says)) (
              turned_open (Worn name.Agent) (a.kept, record { number = length past + 1; entries = ends.0; stops = ends.2 }) refl,
              (ends.0, (refl, refl), ends.1),
            )
        by (Err (fault.Stopped sync.Last)) says ends =
            subst (Sat (Open y) (Some pool)) (sym (same_reply said (Last name.Agent) says)) (
              turned_open (Last name.Agent) (a.kept, record { number = length past + 1; entries = ends.0; stops = ends.2 }) refl,
              (ends.0, (refl, refl), ends.1),
            )
        by (Err (fault.Stopped sync.NoMemory)) says ends =
            subst (Sat (Open y) (Some pool)) (sym (same_reply said (NoMemory name.Agent) says)) (
              turned_open (NoMemory name.Agent) (a.kept, record { number = length past + 1; entries = ends.0; starves = ends.2 }) refl,
              (ends.0, (refl, refl), ends.1),
            )
        by (Err (fault.Stopped sync.Shelf)) says ends = absurd says

    open_sat : Sat (Open y) (Some pool) said
    open_sat = elim c.done [
      | inl wants ↦ subst (Sat (Open y) (Some pool)) (sym (same_reply said (NoMemory name.Agent) wants.said_is)) (
        turned_open (NoMemory name.Agent) (wants.kept, record { number = length past + 1; entries = []; starves = inr (inr (inr (refl, subst (λ hs. OnlyLooks hs) (sym wants.none) tt))) }) refl,
        ([], (refl, refl), wants.same ∙ sym (append-nil past)),
      )
      | inr acts ↦ acted acts
    ]

  -- ---- no pool is open

  shut_sat : (x : Desk) → IsPool rack area None x → IsShelf x entry now → after ≡ past → Sat x None (NoPool name.Agent)
  shut_sat Untouched stands shelf same = (record { new = Untouched; desk = record { stands = tt; shelf = shelf }; turns = (refl, (name.Agent, refl, refl, refl)) }, ([], refl, same ∙ sym (append-nil past)))
  shut_sat Bare stands shelf same = (record { new = Bare; desk = record { stands = tt; shelf = shelf }; turns = (refl, (name.Agent, refl, refl, refl)) }, ([], refl, same ∙ sym (append-nil past)))
  shut_sat (Made told failed geometry) stands shelf same =
      (record { new = Made told failed geometry; desk = record { stands = tt; shelf = shelf }; turns = (refl, (name.Agent, refl, refl, refl)) }, ([], refl, same ∙ sym (append-nil past)))
  shut_sat (Shut crash y) stands shelf same = (record { new = Shut crash y; desk = record { stands = tt; shelf = shelf }; turns = (refl, (name.Agent, refl, refl, refl)) }, ([], refl, same ∙ sym (append-nil past)))
  shut_sat Unknown stands shelf same = (record { new = Unknown; desk = record { stands = tt; shelf = shelf }; turns = (refl, (name.Agent, refl, refl, refl)) }, ([], refl, same ∙ sym (append-nil past)))
  shut_sat (Open y) stands shelf same = absurd stands
  shut_sat (Foreign known) stands shelf same = absurd stands

  said_shut : (x : Desk) (reply : Reply) (pool : Option (Pool R A)) → (reply ≡ NoPool name.Agent) × (pool ≡ None) × (after ≡ past) → IsPool rack area None x → IsShelf x entry now → Sat x pool reply
  said_shut x reply pool did stands shelf =
      subst (λ r. Sat x pool r) (sym did.0) (subst (λ (p : Option (Pool R A)). Sat x p (NoPool name.Agent)) (sym did.1) (shut_sat x stands shelf did.2))

  -- ---- all of them

  agent_sat : (x : Desk) → IsDesk rack area entry now desk x → (reply : Reply) (pool : Option (Pool R A)) → AgentDid rack area spare least past after x reply pool → Sat x pool reply
  agent_sat (Open y) is reply None did = absurd did
  agent_sat (Open y) is reply (Some pool) did = open_sat y pool is did.0 reply did.1
  agent_sat (Foreign known) is reply None did = absurd did
  agent_sat (Foreign known) is reply (Some pool) did =
      (record { new = Foreign known; desk = record { stands = (did.0, did.2); shelf = tt }; turns = (refl, (did.1, known, refl, agent_keeps least reply known did.1)) }, did.3)
  agent_sat Untouched is reply pool did = said_shut Untouched reply pool did tt is.shelf
  agent_sat Bare is reply pool did = said_shut Bare reply pool did tt is.shelf
  agent_sat (Made told failed geometry) is reply pool did = said_shut (Made told failed geometry) reply pool did tt is.shelf
  agent_sat (Shut crash y) is reply pool did = said_shut (Shut crash y) reply pool did tt is.shelf
  agent_sat Unknown is reply pool did = said_shut Unknown reply pool did tt is.shelf

  module _ (x : Desk) (is : IsDesk rack area entry now desk x) (new : Option (Pool R A)) where
    pub answer_agent : (given : Result Reply Stop) (result : Result (Option Reply) Stop) → IsSaid given result → AgentIs rack area spare least past after x new given → AnswerIs rack area chosen past after (RunAgent least) entry now desk x now new result
    answer_agent (Ok reply) result said did =
        let sat = agent_sat x is reply new did in
        subst (AnswerIs rack area chosen past after (RunAgent least) entry now desk x now new) (sym said) (sat.0, sat.1, tt)
    answer_agent (Err stop.Shelf) result said did =
        subst (AnswerIs rack area chosen past after (RunAgent least) entry now desk x now new) (sym said) (ask_breaks rack area entry now now (RunAgent least) x desk new is did)
    answer_agent (Err (stop.Record metaslab place kind)) result said did = absurd did

-- ---- the journal

module _ {R A : Type 0} (rack : racks.Ghosts R) (area : areas.Ghosts A) (choices : Choices) (past : List Entry) (entry now : OnShelf) where
  abbrev Shown : Desk → Option (Pool R A) → Reply → Type 0
  Shown x pool reply = AnswerIs rack area choices past past ShowJournal entry now pool x now pool (Ok (Some reply))

  shown_open : (y : State) (pool : Pool R A) → IsDesk rack area entry now (Some pool) (Open y) → (reply : Reply) → ShowSays pool.geometry.spec.parity past reply → Shown (Open y) (Some pool) reply
  shown_open y pool is (Journal parity entries) says = (
    record {
      new = Open y;
      desk = is;
      turns = (refl, (y, record { holds = []; mid = y; store = y.store; follows = refl; does = (refl, subst (λ (g : Geometry). parity ≡ g.spec.parity) (sym is.stands.1.stands.geometry) says.0, refl); made = refl }, refl));
    },
    ([], (says.1, refl), sym (append-nil past)),
    tt,
  )
  shown_open y pool is (NoMemory name.Agent) says = (
    record { new = Open y; desk = is; turns = (refl, (y, record { holds = []; mid = y; store = y.store; follows = refl; does = (refl, refl); made = refl }, refl)) },
    ([], refl, sym (append-nil past)),
    tt,
  )
  shown_open y pool is reply says = absurd says

  shown_foreign : (known : Known) (pool : Pool R A) → IsDesk rack area entry now (Some pool) (Foreign known) → (reply : Reply) → ShowSays pool.geometry.spec.parity past reply → Shown (Foreign known) (Some pool) reply
  shown_foreign known pool is (Journal parity entries) says =
      (record { new = Foreign known; desk = is; turns = (refl, (tt, known, refl, refl)) }, ([], (says.1, refl), sym (append-nil past)), tt)
  shown_foreign known pool is (NoMemory name.Agent) says =
      (record { new = Foreign known; desk = is; turns = (refl, (tt, known, refl, refl)) }, ([], refl, sym (append-nil past)), tt)
  shown_foreign known pool is reply says = absurd says

  shown_shut : (x : Desk) → IsDesk rack area entry now None x → Shown x None (NoPool name.Agent)
  shown_shut Untouched is = (record { new = Untouched; desk = is; turns = (refl, (name.Agent, refl, refl, refl)) }, ([], refl, sym (append-nil past)), tt)
  shown_shut Bare is = (record { new = Bare; desk = is; turns = (refl, (name.Agent, refl, refl, refl)) }, ([], refl, sym (append-nil past)), tt)
  shown_shut (Made told failed geometry) is = (record { new = Made told failed geometry; desk = is; turns = (refl, (name.Agent, refl, refl, refl)) }, ([], refl, sym (append-nil past)), tt)
  shown_shut (Shut crash y) is = (record { new = Shut crash y; desk = is; turns = (refl, (name.Agent, refl, refl, refl)) }, ([], refl, sym (append-nil past)), tt)
  shown_shut Unknown is = (record { new = Unknown; desk = is; turns = (refl, (name.Agent, refl, refl, refl)) }, ([], refl, sym (append-nil past)), tt)
  shown_shut (Open y) is = absurd is.stands
  shown_shut (Foreign known) is = absurd is.stands

  shown_some : (x : Desk) (pool : Pool R A) → IsDesk rack area entry now (Some pool) x → (reply : Reply) → ShowSays pool.geometry.spec.parity past reply → Shown x (Some pool) reply
  shown_some (Open y) pool is reply says = shown_open y pool is reply says
  shown_some (Foreign known) pool is reply says = shown_foreign known pool is reply says
  shown_some Untouched pool is reply says = absurd is.stands
  shown_some Bare pool is reply says = absurd is.stands
  shown_some (Made told failed geometry) pool is reply says = absurd is.stands
  shown_some (Shut crash y) pool is reply says = absurd is.stands
  shown_some Unknown pool is reply says = absurd is.stands

  pub answer_journal : (pool : Option (Pool R A)) (x : Desk) → IsDesk rack area entry now pool x → (reply : Reply) → JournalIs rack area past pool reply → Shown x pool reply
  answer_journal None x is reply says = subst (Shown x None) (sym says) (shown_shut x is)
  answer_journal (Some pool) x is reply says = shown_some x pool is reply says.1

-- ---- what an agent's line asks

module _ {R A : Type 0} (rack : racks.Ghosts R) (area : areas.Ghosts A) (spare : ℕ → ℕ → List ℕ → Option ℕ → Type 0) (least : ℕ) (past after : List Entry) (desk : Option (Pool R A)) where
  module _ (pool new : Pool R A) where
    pub agent_open : (reply : Reply) → desk ≡ Some pool → IsWhole rack area new → SamePointers pool new → IsReplyTo (RunAgent least) reply → NotesBehind past reply after
        → ((x : State) → Represents rack area pool x → CarriesOut rack area new x (AgentSays x spare least past (Ok reply) after)) → (x : Desk) → IsPool rack area desk x → AgentDid rack area spare least past after x reply (Some new)
    agent_open reply is whole same fits notes step x = subst (λ d. IsPool rack area d x → AgentDid rack area spare least past after x reply (Some new)) (sym is) (by x)
      where
        by : (x : Desk) → IsPool rack area (Some pool) x → AgentDid rack area spare least past after x reply (Some new)
        by (Open y) stands = (whole, step y stands.1)
        by (Foreign known) stands = (whole, fits, still_known pool new same known stands.1, notes)
        by Untouched stands = absurd stands
        by Bare stands = absurd stands
        by (Made told failed geometry) stands = absurd stands
        by (Shut crash y) stands = absurd stands
        by Unknown stands = absurd stands

    -- a device of the pool failed
    broke : (x : State) (failed : Failed) (holds : List Hold) (store : Store) → AgentSays x spare least past (Err failed) after holds store → BreaksBy x (RunAgent least) holds store
    broke x failed holds store (inl wants) = absurd (not_said failed wants.said_is)
      where
        not_said : (failed : Failed) → refused failed ≡ replied (NoMemory name.Agent) → ⊥
        not_said failed is = cc is
    broke x failed holds store (inr a) = by a.answer a.reply a.ends
      where
        says : Reply → Type 0
        says reply = refused failed ≡ replied reply

        none : (reply : Reply) → says reply → ⊥
        none reply is = cc is

        by : (answer : Result (Option AgentErrors) GiveFault) → IsAgentReply x.geometry.spec.parity a.entries answer (Err failed) → RepairEnds x.geometry x.perms spare least past answer after holds → BreaksBy x (RunAgent least) holds store
        by (Ok errors) is ends = absurd (none (Acted x.geometry.spec.parity a.entries errors) is)
        by (Err fault.Idle) is ends = absurd (none AgentIdle is)
        by (Err (fault.PassThere metaslab number)) is ends = absurd (none (PassThere name.Agent metaslab number) is)
        by (Err (fault.Stopped sync.Worn)) is ends = absurd (none (Worn name.Agent) is)
        by (Err (fault.Stopped sync.Last)) is ends = absurd (none (Last name.Agent) is)
        by (Err (fault.Stopped sync.NoMemory)) is ends = absurd (none (NoMemory name.Agent) is)
        by (Err (fault.Stopped sync.Shelf)) is ends =
            (a.kept, record { number = length past + 1; entries = ends.0; stops = any_stops x.geometry x.perms spare least (length past + 1) ends.0 holds Broke ends.2 })

    pub agent_breaks : desk ≡ Some pool → IsWhole rack area new → SamePointers pool new → AreaFails area.faults new → (failed : Failed)
        → ((x : State) → Represents rack area pool x → CarriesOut rack area new x (AgentSays x spare least past (Err failed) after)) → (x : Desk) → IsPool rack area desk x → PoolBroke rack area (RunAgent least) x (Some new)
    agent_breaks is whole same fails failed step =
        broke_open rack area (RunAgent least) desk pool new is whole (tt, inl fails, breaks_same (RunAgent least) pool new same)
        (λ x r. carries_so rack area new x (AgentSays x spare least past (Err failed) after) (BreaksBy x (RunAgent least)) (step x r) (broke x failed))

module _ {R A : Type 0} (rack : racks.Ghosts R) (area : areas.Ghosts A) (spare : ℕ → ℕ → List ℕ → Option ℕ → Type 0) (least : ℕ) (past : List Entry) (desk : Option (Pool R A)) where
  pub agent_shut : (reply : Reply) → desk ≡ None → reply ≡ NoPool name.Agent → (x : Desk) → IsPool rack area desk x → AgentDid rack area spare least past past x reply desk
  agent_shut reply none said x = subst (λ d. IsPool rack area d x → AgentDid rack area spare least past past x reply d) (sym none) (by x)
    where
      by : (x : Desk) → IsPool rack area None x → AgentDid rack area spare least past past x reply None
      by Untouched stands = (said, refl, refl)
      by Bare stands = (said, refl, refl)
      by (Made told failed geometry) stands = (said, refl, refl)
      by (Shut crash y) stands = (said, refl, refl)
      by Unknown stands = (said, refl, refl)
      by (Open y) stands = absurd stands
      by (Foreign known) stands = absurd stands
