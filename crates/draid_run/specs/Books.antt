-- Runs in words of objects alone: what the input of a run and its sink say of the objects, and those of several runs over one shelf.
use Rattle.std.specs.Prelude.{◌≡◌, ◌⊎◌, ⊤, ℕ, Bool, List, [], ◌∷◌, Option, Some, None, MatchOption}
use Rattle.draid_rack.specs.declared.Rack as racks
use Rattle.draid_area.specs.declared.Area as areas
use Rattle.draid_session.specs.Said.{Said}
use Rattle.draid_session.specs.Choices.{Choices}
use Rattle.draid_session.specs.Book.{Book}
use Rattle.draid_session.specs.Places.{Place}
use Rattle.draid_session.specs.Sections.{AnswersRun}
use Rattle.draid_run.specs.Next.{IsFound}
use Rattle.draid_run.specs.Script.{Ends, IsScript, IsWorkload, MayEndAt, RunIs, Shows, all_replies}
use Rattle.draid_pool.specs.Shelves.{OnShelf}
use Rattle.draid_exits.specs.declared.status.Status.{Status}
use Rattle.draid_exits.specs.declared.status.Status.TheVariants.{ShelfFault, Record}

-- A run broke off at a line of its own only where the shelf failed. No record had a fault.
abbrev pub BrokeAt : Status → Option (List ℕ) → Type 0
BrokeAt ShelfFault broken = ⊤
BrokeAt (Record which at kind) broken = ⊥
BrokeAt ended None = ⊤
BrokeAt ended (Some text) = ⊥

-- A session from one book to another: lines of its input were answered by replies, as the book has it; it ended for a cause; and the sink got the replies' texts and the last line.
pub record SessionKeepsBook (words : List (List ℕ)) (status : Status) (input old new : Option (List ℕ)) (before after : Book) : Type 0 where
  pub lines : List (List ℕ)
  pub replies : List (List Said)
  pub shown : List Said
  pub ended : Status
  pub broken : Option (List ℕ)
  pub saids : List Said
  pub to : Place
  pub answers : AnswersRun before lines replies to broken saids after
  pub may : MayEndAt to ended broken
  pub broke : BrokeAt ended broken
  pub ends : MatchOption input ⊤ (Ends ended broken lines)
  pub shows : Shows ended (all_replies replies saids) shown
  pub script : IsScript words status ended lines shown old new

-- A run from one book to another: such a session, or a workload, whose summary is that of the replies of such a session.
abbrev pub KeepsBook : List (List ℕ) → Status → Option (List ℕ) → Option (List ℕ) → Option (List ℕ) → Book → Book → Type 0
KeepsBook words status input old new before after =
    SessionKeepsBook words status input old new before after ⊎ IsWorkload (λ by ended script nothing replied. SessionKeepsBook by ended script nothing replied before after) words status old new

-- ---- several runs

-- One of them: whether all that the shelf holds had a crash before it; its words, status and input, what its sink had got before and after, and what the shelf held before and after.
pub record OneRun : Type 0 where
  pub crash : Bool
  pub words : List (List ℕ)
  pub status : Status
  pub input : Option (List ℕ)
  pub old : Option (List ℕ)
  pub new : Option (List ℕ)
  pub entry : OnShelf
  pub now : OnShelf

-- Such runs, one after another, over a shelf that holds this at first: each finds what the one before left, or what a crash left of that.
module _ {R A : Type 0} (rack : racks.Ghosts R) (area : areas.Ghosts A) (choices : Choices) where
  abbrev pub AreRuns : OnShelf → List OneRun → Type 0
  AreRuns shelf [] = ⊤
  AreRuns shelf (run ∷ runs) =
      IsFound run.crash shelf run.entry × RunIs rack area choices run.words run.status run.input run.old run.new run.entry run.now × AreRuns run.now runs

-- they are answered by one book
abbrev pub KeepBook : Book → List OneRun → Book → Type 0
KeepBook before [] after = after ≡ before
KeepBook before (run ∷ runs) after = (mid : Book) × KeepsBook run.words run.status run.input run.old run.new before mid × KeepBook mid runs after
