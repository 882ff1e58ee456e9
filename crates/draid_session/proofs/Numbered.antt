-- The entries of a journal are numbered on, whatever lines come.
use Rattle.std.proofs.Common.{◌≡◌, ◌+◌, ◌++◌, ℕ, zero, suc, Bool, List, [], ◌∷◌, Result, Ok, Option, inl, inr, length, sym, subst, arith}
use Rattle.draid_names.specs.declared.journal.Entry.{Entry}
use Rattle.draid_perm.specs.declared.perms.Perms.{Perms}
use Rattle.draid_spec.specs.declared.layout.Geometry.{Geometry}
use Rattle.draid_reply.specs.declared.reply.Reply.{Reply}
use Rattle.draid_reply.specs.declared.reply.Reply.TheVariants.{Acted, Journal, Last, NoMemory, Worn}
use Rattle.draid_script.specs.Grammar.{line_of}
use Rattle.draid_script.specs.Line.{Command, RunAgent, ShowJournal}
use Rattle.draid_script.specs.declared.fault.LineFault.{LineFault}
use Rattle.draid_script.specs.declared.name.CommandName.TheVariants as name
use Rattle.draid_session.specs.Agent as agent
use Rattle.draid_session.specs.Agent.{AreNumbered}
use Rattle.draid_session.specs.Choices.{Choices}
use Rattle.draid_session.specs.Holds.{Hold, View}
use Rattle.draid_session.specs.Phases.{End, Starved}
use Rattle.draid_session.specs.Said.{Said}
use Rattle.draid_session.specs.Session.{AgentNotes, CarriesOut, Desk, Finding, Foreign, ForeignNotes, Notes, Open, Runs, ShowsJournal, Sitting, TurnsBy}
use Rattle.draid_session.specs.State.{State}

-- ---- lists of entries

numbered_both : (number : ℕ) (xs ys : List Entry) → AreNumbered number xs → AreNumbered (number + length xs) ys → AreNumbered number (xs ++ ys)
numbered_both number [] ys first second = subst (λ n. AreNumbered n ys) (omega arith) second
numbered_both number (x ∷ xs) ys first second = (first.0, numbered_both (number + 1) xs ys first.1 (subst (λ n. AreNumbered n ys) (omega arith) second))

numbered_more : (past more new : List Entry) → AreNumbered 1 past → AreNumbered (length past + 1) more → new ≡ past ++ more → AreNumbered 1 new
numbered_more past more new first second is = subst (AreNumbered 1) (sym is) (numbered_both 1 past more first (subst (λ n. AreNumbered n more) (omega arith) second))

none_numbered : (number : ℕ) (more : List Entry) → more ≡ [] → AreNumbered number more
none_numbered number more is = subst (AreNumbered number) (sym is) tt

-- ---- what the agent did

module _ (geometry : Geometry) (perms : Perms) (chosen : ℕ → ℕ → List ℕ → Option ℕ → Type 0) where
  gives_numbered : (least : ℕ) (views : List View) (given : List Entry) (number slot n : ℕ) (entries : List Entry) → agent.GivesFrom geometry perms chosen least views given number slot n entries
      → AreNumbered number entries
  gives_numbered least views given number slot zero entries g = none_numbered number entries g
  gives_numbered least views given number slot (suc n) entries (inl g) = gives_numbered least views given number (slot + 1) n entries g.1
  gives_numbered least views given number slot (suc n) entries (inr (e, rest, leaf, are, numbered, slot_is, due, gets, g)) =
      subst (AreNumbered number) (sym are) (numbered, gives_numbered least views (given ++ e ∷ []) (number + 1) (slot + 1) n rest g)

  stops_numbered : (least number : ℕ) (entries : List Entry) (holds : List Hold) (end : End) → agent.RepairStops geometry perms chosen least number entries holds end → AreNumbered number entries
  stops_numbered least number entries holds end (inl s) = none_numbered number entries s.0
  stops_numbered least number entries holds end (inr (inl s)) = none_numbered number entries s.0
  stops_numbered least number entries holds end (inr (inr (rest, came, acts, stops))) = gives_numbered least acts.views [] number 0 geometry.spec.children entries acts.gives

  starves_numbered : (least number : ℕ) (entries : List Entry) (holds : List Hold) → agent.RepairStarves geometry perms chosen least number entries holds → AreNumbered number entries
  starves_numbered least number entries holds (inl s) = stops_numbered least number entries holds Starved s
  starves_numbered least number entries holds (inr (inl s)) = none_numbered number entries s.0
  starves_numbered least number entries holds (inr (inr (inr s))) = none_numbered number entries s.0
  starves_numbered least number entries holds (inr (inr (inl (rest, came, acts, only)))) = gives_numbered least acts.views [] number 0 geometry.spec.children entries acts.gives

-- entries with their first number
numbered_at : (first number : ℕ) (entries more : List Entry) → number ≡ first → more ≡ entries → AreNumbered number entries → AreNumbered first more
numbered_at first number entries more at is numbered = subst (AreNumbered first) (sym is) (subst (λ n. AreNumbered n entries) at numbered)

foreign_numbered : (past : List Entry) (reply : Reply) (more : List Entry) → ForeignNotes past reply more → AreNumbered (length past + 1) more
foreign_numbered past (Acted parity entries errors) more n = n.1
foreign_numbered past (Worn name.Agent) more n = n
foreign_numbered past (Last name.Agent) more n = n
foreign_numbered past (NoMemory name.Agent) more n = n
foreign_numbered past reply more n = none_numbered (length past + 1) more n

shown_numbered : (past : List Entry) (reply : Reply) (more : List Entry) → ShowsJournal past reply more → AreNumbered (length past + 1) more
shown_numbered past (Journal parity entries) more n = none_numbered (length past + 1) more n.1
shown_numbered past reply more n = none_numbered (length past + 1) more n

module _ (choices : Choices) where
  agent_numbered : (past : List Entry) (least : ℕ) (reply : Reply) (old new : State) (it : CarriesOut choices (RunAgent least) reply old new) (more : List Entry)
      → AgentNotes choices past least reply old new it more → AreNumbered (length past + 1) more
  agent_numbered past least (Acted parity entries errors) old new it more n =
      let d = it.does.2 in
      let acts = d.repairs.2 in
      numbered_at (length past + 1) d.number entries.items more n.0 n.1
      (gives_numbered old.geometry old.perms choices.spare least acts.views [] d.number 0 old.geometry.spec.children entries.items acts.gives)
  agent_numbered past least (Worn name.Agent) old new it more n =
      let d = it.does.1 in numbered_at (length past + 1) d.number d.entries more n.0 n.1 (stops_numbered old.geometry old.perms choices.spare least d.number d.entries it.holds _ d.stops)
  agent_numbered past least (Last name.Agent) old new it more n =
      let d = it.does.1 in numbered_at (length past + 1) d.number d.entries more n.0 n.1 (stops_numbered old.geometry old.perms choices.spare least d.number d.entries it.holds _ d.stops)
  agent_numbered past least (NoMemory name.Agent) old new it more n =
      let d = it.does.1 in numbered_at (length past + 1) d.number d.entries more n.0 n.1 (starves_numbered old.geometry old.perms choices.spare least d.number d.entries it.holds d.starves)
  agent_numbered past least reply old new it more n = none_numbered (length past + 1) more n

  module _ (finds : Finding → Type 0) (past more : List Entry) where
    -- an agent's line
    run_numbered : (least : ℕ) (old : Desk) (saids : List Said) (new : Desk) (turns : TurnsBy choices finds (Ok (RunAgent least)) old saids new)
        → Notes choices finds past (Ok (RunAgent least)) old saids new turns more → AreNumbered (length past + 1) more
    run_numbered least (Open x) (said ∷ []) new turns n = agent_numbered past least said.reply x turns.1.0 turns.1.1 more n
    run_numbered least (Foreign known) (said ∷ []) new turns n = foreign_numbered past said.reply more n
    run_numbered least old saids new turns n = none_numbered (length past + 1) more n

    journal_numbered : (old : Desk) (saids : List Said) (new : Desk) (turns : TurnsBy choices finds (Ok ShowJournal) old saids new)
        → Notes choices finds past (Ok ShowJournal) old saids new turns more → AreNumbered (length past + 1) more
    journal_numbered old (said ∷ []) new turns n = shown_numbered past said.reply more n
    journal_numbered old saids new turns n = none_numbered (length past + 1) more n

    line_numbered : (line : Result Command LineFault) (old : Desk) (saids : List Said) (new : Desk) (turns : TurnsBy choices finds line old saids new)
        → Notes choices finds past line old saids new turns more → AreNumbered (length past + 1) more
    line_numbered (Ok (RunAgent least)) old saids new turns n = run_numbered least old saids new turns n
    line_numbered (Ok ShowJournal) old saids new turns n = journal_numbered old saids new turns n
    line_numbered line old saids new turns n = none_numbered (length past + 1) more n

  pub runs_numbered : (finds : Finding → Type 0) (tells : Bool) (lines : List (List ℕ)) (replies : List (List Said)) (old new : Sitting) → Runs choices finds tells old lines replies new
      → AreNumbered 1 old.journal → AreNumbered 1 new.journal
  runs_numbered finds tells [] [] old new runs numbered = subst (λ (s : Sitting). AreNumbered 1 s.journal) (sym runs) numbered
  runs_numbered finds tells (line ∷ lines) (saids ∷ replies) old new (mid, turns, agrees, runs) numbered =
      runs_numbered finds tells lines replies mid new runs
      (numbered_more old.journal turns.1 mid.journal numbered (line_numbered finds old.journal turns.1 (line_of line) old.desk saids mid.desk turns.0 turns.2) turns.3)
  runs_numbered finds tells [] (saids ∷ replies) old new runs numbered = absurd runs
  runs_numbered finds tells (line ∷ lines) [] old new runs numbered = absurd runs
