-- Runs one after another over one shelf, and what a run tells of crashes.
use Rattle.std.specs.Prelude.{◌≡◌, ℕ, Bool, true, false, List}
use Rattle.draid_names.specs.declared.journal.Entry.{Entry}
use Rattle.draid_shelf.specs.Kits.{Both, CrashedHeld}
use Rattle.draid_session.specs.Said.{Said}
use Rattle.draid_session.specs.Choices.{Choices}
use Rattle.draid_session.specs.Opening.{HasObjects, Imports}
use Rattle.draid_session.specs.Places.{Outside, Place}
use Rattle.draid_session.specs.Sections.{RunsOn}
use Rattle.draid_session.specs.Session.{Desk, Finding, Untouched, Bare, Made, Open, Shut, Foreign, Unknown, Sitting, sits}
use Rattle.draid_session.specs.State.{State}
use Rattle.draid_create.specs.Says.{IsSame}
use Rattle.draid_pool.specs.Shelves.{OnShelf}

-- ---- the next run

-- All that a shelf held had a crash. What has failed on it is counted as before.
pub record HasCrashed (left found : OnShelf) : Type 0 where
  pub held : Both CrashedHeld left.held found.held
  pub leaves : (m : ℕ) → found.leaves m ≡ left.leaves m
  pub counts : (m : ℕ) → found.counts m ≡ left.counts m
  pub uber : found.own.uber ≡ left.own.uber
  pub checks : found.own.checks ≡ left.own.checks

-- a run left this on the shelf, and the next one finds that: the same, or what a crash left of it
abbrev pub IsFound : Bool → OnShelf → OnShelf → Type 0
IsFound true left found = HasCrashed left found
IsFound false left found = IsSame left found

-- The desk of the next run, by the last one of a run: a pool that was open has been given back. Where nothing was known of the shelf, it is as the next run finds it.
abbrev pub next_desk : Bool → Desk → Desk
next_desk crash Untouched = Untouched
next_desk crash Bare = Bare
next_desk crash (Made told failed geometry) = Made told failed geometry
next_desk crash (Open state) = Shut crash state
next_desk true (Shut crashed state) = Shut true state
next_desk false (Shut crashed state) = Shut crashed state
next_desk crash (Foreign known) = Untouched
next_desk crash Unknown = Untouched

-- ---- crashes in a run

-- Lines and their replies, with a crash and an import that found a pool among them: the pool was open, and the import found one of its groups, with what this kept. All lines are those of one run, over
-- a shelf that tells.
pub record FindsAgain (choices : Choices) (finds : Finding → Type 0) (first : Sitting) (front : List (List ℕ)) (said : List (List Said)) (group objects : ℕ) (back : List (List ℕ))
    (behind : List (List Said)) (to : Place) (last : Sitting) : Type 0 where
  pub old : State
  pub new : State
  pub journal : List Entry
  pub before : RunsOn choices finds true Outside first front said Outside (sits (Open old) journal)
  pub imports : Imports old group new
  pub counted : HasObjects new.store.changes objects
  pub after : RunsOn choices finds true Outside (sits (Open new) journal) back behind to last
