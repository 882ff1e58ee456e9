-- What the lanes of a section come to where nothing disturbs them: each is said by what its own holds see.
use Rattle.std.specs.Prelude.{◌≡◌, ⊤, ℕ, Bool, List, [], ◌∷◌, Some}
use Rattle.draid_spec.specs.declared.layout.Geometry.{Geometry}
use Rattle.draid_perm.specs.declared.perms.Perms.{Perms}
use Rattle.draid_machine.specs.declared.event.Event.TheVariants as event
use Rattle.draid_machine.specs.declared.names.Held.{Held}
use Rattle.draid_objects.specs.Changes.{Write, key_of}
use Rattle.draid_reply.specs.declared.reply.Reply.{Reply}
use Rattle.draid_reply.specs.declared.reply.Reply.TheVariants.{Contents, NoMemory, ReadWorn, Rebuilt, Scrubbed}
use Rattle.draid_script.specs.declared.name.CommandName.TheVariants as name
use Rattle.draid_script.specs.Line.{Command, ScrubPool}
use Rattle.draid_segments.specs.Reads.{MoreBad}
use Rattle.draid_session.specs.Choices.{Choices}
use Rattle.draid_session.specs.Holds.{Did, Hold, On, View, layout_at}
use Rattle.draid_session.specs.Lanes.{Lane, LanesRan, Says}
use Rattle.draid_session.specs.Looks.{AllOf, IsLook}
use Rattle.draid_session.specs.Reads.{ReadsAs}
use Rattle.draid_session.specs.State.{State, Store}
use Rattle.draid_session.specs.Undisturbed.{IsCalmInScrub, IsUndisturbed}
use Rattle.draid_session.specs.Worn.{IsWorn}

-- ---- reads

module _ (geometry : Geometry) (perms : Perms) (w : Write) where
  -- A hold sees that a write's block can be read, as calls fail on these leaves: the rack tells which sectors are harmed, and no more columns of the block are bad than there are parity columns.
  pub record SeesReadable (v : View) (failed : List ℕ) : Type 0 where
    pub harm : ℕ → ℕ → Bool
    pub told : v.harm ≡ Some harm
    pub few : (h : Held) → v.world.core.held (key_of w) ≡ Some h → MoreBad (layout_at geometry perms v) v.world harm (key_of w) h failed → ⊥

  -- so a hold that fetches the block
  abbrev pub FetchesReadable : Hold → Type 0
  FetchesReadable (On v (Did (event.Fetch key failed) after)) = key ≡ key_of w → SeesReadable v failed.items
  FetchesReadable hold = ⊤

-- its metaslab was looked at, and is worn
pub record LooksWorn (geometry : Geometry) (m : ℕ) (holds : List Hold) : Type 0 where
  pub v : View
  pub hold : Hold
  pub are : holds ≡ hold ∷ []
  pub looked : IsLook m hold v
  pub worn : IsWorn geometry v 1

-- what a read by these holds replies then: the bytes of the write, by their number and digest; that the metaslab is worn, as it is; or want of memory
abbrev pub ReadsOwn : Geometry → Write → ℕ → List Hold → Reply → Type 0
ReadsOwn geometry w object holds (Contents o bytes) = (o ≡ object) × ReadsAs w.bytes bytes.items
ReadsOwn geometry w object holds (ReadWorn o) = (o ≡ object) × LooksWorn geometry w.metaslab holds
ReadsOwn geometry w object holds (NoMemory name.Read) = ⊤
ReadsOwn geometry w object holds reply = ⊥

-- ---- passes

-- a hold of a command finds passes undisturbed; one of a scrub by the harm that was told as a block was lent
abbrev pub IsCalmFor : Geometry → Perms → Command → Hold → Type 0
IsCalmFor geometry perms (ScrubPool limit) hold = IsCalmInScrub geometry perms hold
IsCalmFor geometry perms command hold = IsUndisturbed geometry perms hold

module _ (x : State) (choices : Choices) where
  -- so do all holds of a lane's commands, one that a failing area ended too
  abbrev pub IsCalmLane : (commands : List Command) → (old : Store) → (holds : List Hold) → (replies : List Reply) → (new : Store) → Says x choices commands old holds replies new → Type 0
  IsCalmLane [] old holds replies new says = ⊤
  IsCalmLane (command ∷ commands) old holds [] new says = AllOf (IsUndisturbed x.geometry x.perms) says.0
  IsCalmLane (command ∷ commands) old holds (reply ∷ replies) new says =
      AllOf (IsCalmFor x.geometry x.perms command) says.2 × IsCalmLane commands says.3 says.1 replies new says.7

  -- and those of all lanes
  abbrev pub AreCalmLanes : (lanes : List (Lane x choices)) → (commands : List (List Command)) → (replies : List (List Reply)) → LanesRan x choices lanes commands replies → Type 0
  AreCalmLanes (lane ∷ lanes) (commands ∷ more) (replies ∷ others) ran = IsCalmLane commands x.store lane.holds replies lane.store ran.0.says × AreCalmLanes lanes more others ran.1
  AreCalmLanes lanes commands replies ran = ⊤

-- a rebuild or a scrub told no error
abbrev pub TellsNoError : Reply → Type 0
TellsNoError (Rebuilt from stripes errors paused) = errors ≡ 0
TellsNoError (Scrubbed from blocks repaired errors paused) = errors ≡ 0
TellsNoError reply = ⊤
