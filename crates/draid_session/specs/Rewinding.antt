-- Runs beside what befell the checkpoint of a pool; and how a checkpoint is made and gone back to, by their holds.
use Rattle.std.specs.Prelude.{◌≡◌, ◌+◌, ◌<◌, ◌≤◌, ◌⊎◌, ⊤, ℕ, Bool, List, [], ◌∷◌, ◌++◌, Some, None, slice_get}
use Rattle.draid_machine.specs.declared.event.Event.TheVariants as event
use Rattle.draid_machine.specs.declared.names.Held.{Held}
use Rattle.draid_machine.specs.declared.names.Key.{Key}
use Rattle.draid_machine.specs.declared.names.Stage.TheVariants.{Live}
use Rattle.draid_objects.specs.Marks.{Dropped, GivenUp, Made, Mark, check_by, marks_upto}
use Rattle.draid_reply.specs.declared.reply.Reply.TheVariants.{Synced}
use Rattle.draid_script.specs.Grammar.{line_of}
use Rattle.draid_script.specs.Line.{SyncPool}
use Rattle.draid_session.specs.Checkpoints.{GoesBackTo}
use Rattle.draid_session.specs.Choices.{Choices}
use Rattle.draid_session.specs.Follows.{Follows}
use Rattle.draid_session.specs.Groups.{Finishes}
use Rattle.draid_session.specs.Holds.{Did, Hold, On, View}
use Rattle.draid_session.specs.Phases.{Went}
use Rattle.draid_session.specs.Said.{Said}
use Rattle.draid_session.specs.Session.{Agrees, CarriesOut, Desk, Finding, Open, Shut, TurnsBy}
use Rattle.draid_session.specs.State.{Metaslab, State, Store}

-- ---- what befalls the checkpoint

-- these are drops alone
abbrev pub AreDrops : List Mark → Type 0
AreDrops [] = ⊤
AreDrops (Dropped key group ∷ marks) = AreDrops marks
AreDrops (mark ∷ marks) = ⊥

-- Blocks are dropped. Behind an import only that counts which befell the checkpoint up to the found group, which isn't below the committed one.
abbrev pub MarksGo : ℕ → List Mark → List Mark → Type 0
MarksGo committed old new =
    (drops : List Mark) × AreDrops drops × ((new ≡ drops ++ old) ⊎ ((group : ℕ) × (committed ≤ group) × (new ≡ drops ++ marks_upto group old)))

-- the committed group of a desk's pool, if there is one
abbrev pub committed_at : Desk → ℕ
committed_at (Open x) = x.committed
committed_at (Shut crash x) = x.committed
committed_at desk = 0

-- ---- what a rewind frees

-- a block was born behind a group
abbrev pub IsYounger : ℕ → View → Key → Type 0
IsYounger check v key = (h : Held) × (v.world.core.held key ≡ Some h) × (h.stage ≡ Live) × (check < h.birth)

-- such blocks are freed in a group, one after another
abbrev pub FreesYounger : ℕ → ℕ → List Hold → Type 0
FreesYounger check group [] = ⊤
FreesYounger check group (On v (Did (event.Free key freed) after) ∷ holds) = (freed ≡ group) × IsYounger check v key × FreesYounger check group holds
FreesYounger check group (hold ∷ holds) = ⊥

-- no such block is live any more
abbrev pub HasNoYounger : ℕ → State → Type 0
HasNoYounger check x = (m : ℕ) (y : Metaslab) (key : Key) (h : Held) → slice_get x.metaslabs m ≡ Some y → y.world.core.held key ≡ Some h → h.stage ≡ Live → h.birth ≤ check

module _ (choices : Choices) where
  -- There is none, and one is made of the group that a sync commits.
  pub record MakesCheck (old : State) (marks : List Mark) (group : ℕ) (new : State) (left : List Mark) : Type 0 where
    pub none : check_by marks ≡ None
    pub thin : ℕ
    pub syncs : CarriesOut choices SyncPool (Synced group thin) old new
    pub made : left ≡ Made group ∷ marks

  -- A group that is closing is finished; the younger blocks are freed, and each object has what it had; and a sync follows.
  pub record GoesBackIn (old : State) (marks : List Mark) (group : ℕ) (new : State) (left : List Mark) : Type 0 where
    pub finish : List Hold
    pub at : State
    pub finishes : Finishes old.geometry old.perms finish Went
    pub finished : Follows finish old at
    pub store : Store
    pub back : GoesBackTo marks (at.committed + 1) old.store store
    pub frees : List Hold
    pub mid : State
    pub frees_are : FreesYounger back.check.group (at.committed + 1) frees
    pub freed : Follows frees at mid
    pub all : HasNoYounger back.check.group mid
    pub thin : ℕ
    pub syncs : CarriesOut choices SyncPool (Synced group thin) (record mid { store = store }) new
    pub made : left ≡ GivenUp (at.committed + 1) ∷ marks

  module _ (finds : Finding → Type 0) where
    -- The lines were answered outside sections by the replies to each, none of which makes a checkpoint or gives it up.
    abbrev pub RunsBeside : Bool → Desk → List Mark → List (List ℕ) → List (List Said) → Desk → List Mark → Type 0
    RunsBeside tells old marks [] [] new left = (new ≡ old) × (left ≡ marks)
    RunsBeside tells old marks (line ∷ lines) (saids ∷ replies) new left =
        (mid : Desk) × (some : List Mark) × TurnsBy choices finds (line_of line) old saids mid × Agrees tells mid × MarksGo (committed_at old) marks some × RunsBeside tells mid some lines replies new left
    RunsBeside tells old marks lines replies new left = ⊥
