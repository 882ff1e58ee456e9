-- Each line is answered as a book beside a checkpoint has it, and so is each run.
use Rattle.std.proofs.Common.{◌≡◌, ℕ, true, List, [], ◌∷◌, None, Result, Ok, Err, refl, sym, subst}
use Rattle.draid_script.specs.Grammar.{line_of}
use Rattle.draid_script.specs.Line.{Command, Silent}
use Rattle.draid_script.specs.declared.fault.LineFault.{LineFault}
use Rattle.draid_reply.specs.declared.reply.Reply.{Reply}
use Rattle.draid_session.specs.Book.{blank}
use Rattle.draid_session.specs.Choices.{Choices}
use Rattle.draid_session.specs.Marked.{Marked, MarkedAll, MarkedAnswers, MarkedLine, unmarked}
use Rattle.draid_session.specs.Said.{Said}
use Rattle.draid_session.specs.Session.{Agrees, Bare, Desk, Finding, Made, Open, ReplyTurns, Runs, Shut, Sitting, Turns, TurnsBy}
use Rattle.draid_marked.specs.Keeping.{KeepsMarked}
use Rattle.draid_marked.proofs.Answered.{NextMarked}
use Rattle.draid_marked.proofs.Carried.{open_marked}
use Rattle.draid_marked.proofs.Shutting.{shut_marked}

pub blank_marked : KeepsMarked Bare (unmarked blank)
blank_marked = record { book = record { is_shut = refl; none = refl }; marks = record { mark = refl; kept = refl; since = refl } }

module _ (choices : Choices) (finds : Finding → Type 0) where
  reply_next : (old new : Desk) (m : Marked) (command : Command) (reply : Reply) → KeepsMarked old m → ReplyTurns choices finds old command reply new → Agrees true new
      → NextMarked m command reply new
  reply_next Bare new m command reply keeps turns agrees = shut_marked finds Bare new m command reply tt keeps turns agrees
  reply_next (Made told failed geometry) new m command reply keeps turns agrees = shut_marked finds (Made told failed geometry) new m command reply tt keeps turns agrees
  reply_next (Open x) new m command reply keeps turns agrees = open_marked choices x m keeps.book keeps.marks command reply new turns
  reply_next (Shut crash x) new m command reply keeps turns agrees = shut_marked finds (Shut crash x) new m command reply tt keeps turns agrees
  reply_next old new m command reply keeps turns agrees = absurd keeps.book

  -- a book behind a line of any kind
  pub record NextLine (m : Marked) (line : Result Command LineFault) (saids : List Said) (new : Desk) : Type 0 where
    pub next : Marked
    pub answers : MarkedLine line m saids next
    pub keeps : KeepsMarked new next

  line_by : (m : Marked) (command : Command) (said : Said) (new : Desk) → (command ≡ Silent → ⊥) → said.lane ≡ None → NextMarked m command said.reply new → NextLine m (Ok command) (said ∷ []) new
  line_by m command said new speaks outside n = record { next = n.next; answers = by command speaks n.answers; keeps = n.keeps }
    where
      by : (command : Command) → (command ≡ Silent → ⊥) → MarkedAnswers m command said.reply n.next → MarkedLine (Ok command) m (said ∷ []) n.next
      by Silent speaks answers = absurd (speaks refl)
      by command speaks answers = (outside, answers)

  pub line_next : (line : Result Command LineFault) (old new : Desk) (m : Marked) (saids : List Said) → KeepsMarked old m → TurnsBy choices finds line old saids new → Agrees true new → NextLine m line saids new
  line_next (Err fault) old new m saids keeps turns agrees = absurd turns
  line_next (Ok command) old new m saids keeps turns agrees = by command saids turns
    where
      by : (command : Command) (saids : List Said) → Turns choices finds old command saids new → NextLine m (Ok command) saids new
      by Silent [] t = record { next = m; answers = refl; keeps = subst (λ desk. KeepsMarked desk m) (sym t) keeps }
      by Silent (said ∷ more) t = absurd t
      by command (said ∷ []) t = line_by m command said new (λ is. absurd (cc)) t.0 (reply_next old new m command said.reply keeps t.1 agrees)
      by command [] t = absurd t
      by command (said ∷ other ∷ more) t = absurd t

  -- a book behind all lines
  pub record AllAnswered (m : Marked) (lines : List (List ℕ)) (replies : List (List Said)) (new : Desk) : Type 0 where
    pub later : Marked
    pub answers : MarkedAll m lines replies later
    pub keeps : KeepsMarked new later

  pub run_turns : (lines : List (List ℕ)) (replies : List (List Said)) (old new : Sitting) (m : Marked) → KeepsMarked old.desk m → Runs choices finds true old lines replies new → AllAnswered m lines replies new.desk
  run_turns [] [] old new m keeps runs = record { later = m; answers = refl; keeps = subst (λ (s : Sitting). KeepsMarked s.desk m) (sym runs) keeps }
  run_turns (line ∷ lines) (saids ∷ replies) old new m keeps (mid, turns, agrees, runs) =
      let one = line_next (line_of line) old.desk mid.desk m saids keeps turns.0 agrees in
      let rest = run_turns lines replies mid new one.next one.keeps runs in
      record { later = rest.later; answers = (one.next, one.answers, rest.answers); keeps = rest.keeps }
  run_turns [] (saids ∷ replies) old new m keeps runs = absurd runs
  run_turns (line ∷ lines) [] old new m keeps runs = absurd runs
