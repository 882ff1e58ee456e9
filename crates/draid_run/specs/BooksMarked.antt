-- Runs in a book beside a checkpoint: what the input of a run and its sink say of the objects and of the checkpoint, and those of several runs over one shelf.
use Rattle.std.specs.Prelude.{◌≡◌, ◌⊎◌, ⊤, ℕ, List, [], ◌∷◌, Option, MatchOption}
use Rattle.draid_marked.specs.Sections.{MarkedRun}
use Rattle.draid_session.specs.Marked.{Marked}
use Rattle.draid_session.specs.Places.{Place}
use Rattle.draid_session.specs.Said.{Said}
use Rattle.draid_run.specs.Books.{BrokeAt, OneRun}
use Rattle.draid_run.specs.Script.{Ends, IsScript, IsWorkload, MayEndAt, Shows, all_replies}
use Rattle.draid_exits.specs.declared.status.Status.{Status}

-- A session from one book to another, as `SessionKeepsBook` has it of the objects alone.
pub record SessionKeepsMarked (words : List (List ℕ)) (status : Status) (input old new : Option (List ℕ)) (before after : Marked) : Type 0 where
  pub lines : List (List ℕ)
  pub replies : List (List Said)
  pub shown : List Said
  pub ended : Status
  pub broken : Option (List ℕ)
  pub saids : List Said
  pub to : Place
  pub answers : MarkedRun before lines replies to broken saids after
  pub may : MayEndAt to ended broken
  pub broke : BrokeAt ended broken
  pub ends : MatchOption input ⊤ (Ends ended broken lines)
  pub shows : Shows ended (all_replies replies saids) shown
  pub script : IsScript words status ended lines shown old new

-- a run from one book to another: such a session, or a workload, whose summary is that of the replies of such a session
abbrev pub KeepsMarkedBook : List (List ℕ) → Status → Option (List ℕ) → Option (List ℕ) → Option (List ℕ) → Marked → Marked → Type 0
KeepsMarkedBook words status input old new before after =
    SessionKeepsMarked words status input old new before after ⊎ IsWorkload (λ by ended script nothing replied. SessionKeepsMarked by ended script nothing replied before after) words status old new

-- runs one after another are answered by one book
abbrev pub KeepMarked : Marked → List OneRun → Marked → Type 0
KeepMarked before [] after = after ≡ before
KeepMarked before (run ∷ runs) after = (mid : Marked) × KeepsMarkedBook run.words run.status run.input run.old run.new before mid × KeepMarked mid runs after
