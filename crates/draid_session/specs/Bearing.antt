-- How many disks of a pool may still go, by what a status shows of its slots.
use Rattle.std.specs.Prelude.{◌≡◌, ◌+◌, ◌++◌, ◌<◌, ◌≤◌, ◌⊎◌, ⊤, ℕ, Bool, true, false, List, [], ◌∷◌, Option, Some, None, Contains, String, Vec, length, slice_get}
use Rattle.std.specs.declared.alloc.Global.{Global}
use Rattle.draid_names.specs.declared.arm.ArmKind.{ArmKind}
use Rattle.draid_names.specs.declared.arm.ArmKind.TheVariants as kind
use Rattle.draid_names.specs.declared.journal.Did.TheVariants as did
use Rattle.draid_names.specs.declared.journal.Entry.{Entry}
use Rattle.draid_names.specs.declared.numbers.TheConstants.{NUMBERS}
use Rattle.draid_machine.specs.Arms.{HasEmptyLog, first_leaf, first_spare, is_fresh, leaf_answers, passes}
use Rattle.draid_machine.specs.Names.{has_name}
use Rattle.draid_machine.specs.State as machine
use Rattle.draid_machine.specs.declared.event.Event.TheVariants as event
use Rattle.draid_machine.specs.declared.names.ArmName.{ArmName}
use Rattle.draid_machine.specs.declared.names.ArmName.TheVariants.{Leaf, Spare}
use Rattle.draid_machine.specs.declared.names.Segment.{Segment}
use Rattle.draid_map.specs.Place.{IsLayout}
use Rattle.draid_objects.specs.Changes.{Write, key_of}
use Rattle.draid_reply.specs.declared.reply.Reply.{Reply}
use Rattle.draid_reply.specs.declared.reply.Reply.TheVariants.{OfflineDone, Rebuilt, Spared}
use Rattle.draid_report.specs.declared.view.ArmView.{ArmView}
use Rattle.draid_report.specs.declared.view.View.{View as PoolView}
use Rattle.draid_script.specs.Line.{AttachSpare, Command, RebuildPool, TakeOffline}
use Rattle.draid_session.specs.Choices.{Choices}
use Rattle.draid_session.specs.Holds.{Did, Hold, On}
use Rattle.draid_session.specs.Looks.{AllOf}
use Rattle.draid_session.specs.Present.{AreReached}
use Rattle.draid_session.specs.Session.{CarriesOut}
use Rattle.draid_session.specs.State.{Metaslab, State}

-- ---- slots

-- a disk that isn't offline, or a spare
abbrev pub IsUp : machine.Core → ArmName → Type 0
IsUp q (Leaf leaf) = leaf_answers q leaf ≡ true
IsUp q (Spare spare) = ⊤

-- A slot is whole: an arm of it that is up has missed nothing; and its first disk isn't offline, unless it has a spare, since nothing of other slots lies there then.
pub record IsSlotWhole (q : machine.Core) (slot : ℕ) : Type 0 where
  pub n : ArmName
  pub listed : has_name (q.order slot) n ≡ true
  pub up : IsUp q n
  pub empty : HasEmptyLog q n
  pub first : first_spare (q.order slot) ≡ None → passes (first_leaf (q.order slot)) (leaf_answers q) ≡ true

-- a slot has one of these disks
abbrev pub HasOneOf : List ℕ → machine.Core → ℕ → Type 0
HasOneOf leaves q slot = (leaf : ℕ) × Contains leaves leaf × (has_name (q.order slot) (Leaf leaf) ≡ true)

-- Each slot of a metaslab is whole but these, and those that have one of these disks.
abbrev pub AreWholeBut : ℕ → List ℕ → List ℕ → machine.Core → Type 0
AreWholeBut children slots leaves q = (slot : ℕ) → slot < children → Contains slots slot ⊎ (IsSlotWhole q slot ⊎ HasOneOf leaves q slot)

-- ---- pools

-- A pool in which no group is closing, and of which each slot is whole in each metaslab but these, and those that have one of these disks.
pub record IsWholeBut (slots leaves : List ℕ) (x : State) : Type 0 where
  pub layout : IsLayout x.geometry x.perms
  pub reached : AreReached x
  pub idle : (m : ℕ) (y : Metaslab) → slice_get x.metaslabs m ≡ Some y → y.world.closing ≡ None
  pub whole : (m : ℕ) (y : Metaslab) → slice_get x.metaslabs m ≡ Some y → AreWholeBut x.geometry.spec.children slots leaves y.world.core

-- nothing is harmed, where the racks tell it, and nothing is in doubt
pub record IsUnhurt (y : Metaslab) : Type 0 where
  pub harm : ℕ → ℕ → Bool
  pub told : y.harm ≡ Some harm
  pub calm : (leaf sector : ℕ) → harm leaf sector ≡ false
  pub sure : (s : Segment) → y.world.aside s ≡ false

abbrev pub AreUnhurt : State → Type 0
AreUnhurt x = (m : ℕ) (y : Metaslab) → slice_get x.metaslabs m ≡ Some y → IsUnhurt y

-- ---- commands

module _ (choices : Choices) where
  -- these disks are taken offline, one after another
  abbrev pub GoOffline : List ℕ → State → State → Type 0
  GoOffline [] old new = new ≡ old
  GoOffline (leaf ∷ leaves) old new = (mid : State) × CarriesOut choices (TakeOffline leaf) (OfflineDone leaf) old mid × GoOffline leaves mid new

-- no call failed as the block of a write was fetched between two states
abbrev pub FailsNoFetch : State → State → Write → Type 0
FailsNoFetch old new w = (y z : Metaslab) (failed : Vec ℕ Global) → slice_get old.metaslabs w.metaslab ≡ Some y → slice_get new.metaslabs w.metaslab ≡ Some z
    → z.events ≡ y.events ++ event.Fetch (key_of w) failed ∷ [] → failed.items ≡ []

-- ---- what a status shows

-- an arm is shown with nothing logged, and is a spare or a disk that isn't offline
abbrev pub IsShownUp : ArmKind → Bool → Type 0
IsShownUp kind.Leaf offline = offline ≡ false
IsShownUp kind.Spare offline = ⊤

abbrev pub IsShownGood : ArmView → Type 0
IsShownGood view = (view.logged ≡ 0) × IsShownUp view.arm.kind view.arm.offline

-- the first disk of some arms isn't shown as offline, or a spare is among them
abbrev pub IsSpareKind : ArmKind → Type 0
IsSpareKind kind.Leaf = ⊥
IsSpareKind kind.Spare = ⊤

abbrev pub HasSpare : List ArmView → Type 0
HasSpare [] = ⊥
HasSpare (view ∷ views) = IsSpareKind view.arm.kind ⊎ HasSpare views

abbrev pub IsFirstUp : ArmKind → Bool → List ArmView → Type 0
IsFirstUp kind.Leaf offline views = (offline ≡ false) ⊎ HasSpare views
IsFirstUp kind.Spare offline views = ⊤

abbrev pub ShowsFirstUp : List ArmView → Type 0
ShowsFirstUp [] = ⊥
ShowsFirstUp (view ∷ views) = IsFirstUp view.arm.kind view.arm.offline views

-- so a slot is shown as whole
pub record IsShownWhole (arms : List ArmView) : Type 0 where
  pub k : ℕ
  pub view : ArmView
  pub there : slice_get arms k ≡ Some view
  pub good : IsShownGood view
  pub first : ShowsFirstUp arms

-- each slot but these
abbrev pub ShowsWholeBut : List ℕ → PoolView → Type 0
ShowsWholeBut slots view = (slot : ℕ) (arms : Vec ArmView Global) → slice_get view.slots.items slot ≡ Some arms → Contains slots slot ⊎ IsShownWhole arms.items

-- A pool in which no group is closing, and which has numbers left for its next groups.
pub record IsSteady (x : State) : Type 0 where
  pub layout : IsLayout x.geometry x.perms
  pub reached : AreReached x
  pub inside : (m : ℕ) (y : Metaslab) → slice_get x.metaslabs m ≡ Some y → m < x.geometry.props.metaslabs
  pub idle : (m : ℕ) (y : Metaslab) → slice_get x.metaslabs m ≡ Some y → y.world.closing ≡ None
  pub low : (m : ℕ) (y : Metaslab) → slice_get x.metaslabs m ≡ Some y → y.world.open_group + 1 < NUMBERS

-- ---- rebuilds

abbrev pub HaveNoPass : State → Type 0
HaveNoPass x = (m : ℕ) (y : Metaslab) → slice_get x.metaslabs m ≡ Some y → y.world.core.pass ≡ None

-- an arm of a slot that came new, or came to lie elsewhere, and is up
pub record IsWanted (q : machine.Core) (n : ArmName) : Type 0 where
  pub slot : ℕ
  pub listed : has_name (q.order slot) n ≡ true
  pub fresh : is_fresh (q.arm n) ≡ true
  pub up : IsUp q n

-- ---- failures that are rebuilt

-- a disk of a slot that fails, and the spare that the slot gets
pub record Failure : Type 0 where
  pub slot : ℕ
  pub leaf : ℕ
  pub spare : ℕ

-- no call failed on a leaf as a group was sealed
abbrev pub FailsNoFlush : Hold → Type 0
FailsNoFlush (On v (Did (event.Seal t failed) w)) = failed.items ≡ []
FailsNoFlush hold = ⊤

-- A pool without passes, in which no group is closing, and each slot is whole in each metaslab.
pub record IsPoolWhole (x : State) : Type 0 where
  pub slots : IsWholeBut [] [] x
  pub inside : (m : ℕ) (y : Metaslab) → slice_get x.metaslabs m ≡ Some y → m < x.geometry.props.metaslabs
  pub passes : HaveNoPass x

-- A hold of a pool in use: no arm changes, no pass begins or goes on, and no call on a disk fails.
abbrev pub IsOfUse : Hold → Type 0
IsOfUse (On v (Did (event.Begin key first stripes len birth digest) w)) = ⊤
IsOfUse (On v (Did (event.Put key landed failed) w)) = failed ≡ []
IsOfUse (On v (Did (event.Finish key) w)) = ⊤
IsOfUse (On v (Did (event.Abort key) w)) = ⊤
IsOfUse (On v (Did (event.Free key group) w)) = ⊤
IsOfUse (On v (Did (event.Fetch key failed) w)) = ⊤
IsOfUse (On v (Did (event.Close group) w)) = ⊤
IsOfUse (On v (Did (event.Seal group failed) w)) = failed.items ≡ []
IsOfUse (On v (Did (event.Commit group) w)) = ⊤
IsOfUse (On v (Did e w)) = ⊥
IsOfUse hold = ⊤

abbrev pub AreIdle : State → Type 0
AreIdle x = (m : ℕ) (y : Metaslab) → slice_get x.metaslabs m ≡ Some y → y.world.closing ≡ None

module _ (choices : Choices) where
  -- so many commands were carried out, by such holds
  abbrev pub Uses : List (Command × Reply) → State → State → Type 0
  Uses [] old new = new ≡ old
  Uses (done ∷ rest) old new = (mid : State) × (it : CarriesOut choices done.0 done.1 old mid) × AllOf IsOfUse it.holds × Uses rest mid new

  -- The disk goes offline, its slot gets the spare, and a rebuild is done without errors, in which no disk fails a flush. Before each of these the pool may be in use. No
  -- group is closing as the disk goes and as the spare comes, and behind the rebuild.
  pub record Outlives (f : Failure) (old new : State) : Type 0 where
    pub before : List (Command × Reply)
    pub between : List (Command × Reply)
    pub later : List (Command × Reply)
    pub worked : State
    pub failed : State
    pub degraded : State
    pub spared : State
    pub used : State
    pub called : String Global
    pub limit : Option ℕ
    pub from : ℕ
    pub stripes : ℕ
    pub works : Uses before old worked
    pub stands : (m : ℕ) (y : Metaslab) → slice_get worked.metaslabs m ≡ Some y → has_name (y.world.core.order f.slot) (Leaf f.leaf) ≡ true
    pub quiet : AreIdle worked
    pub goes : CarriesOut choices (TakeOffline f.leaf) (OfflineDone f.leaf) worked failed
    pub degrades : Uses between failed degraded
    pub calm_now : AreIdle degraded
    pub gets : CarriesOut choices (AttachSpare f.slot f.spare) (Spared f.slot called) degraded spared
    pub goes_on : Uses later spared used
    pub rebuilt : CarriesOut choices (RebuildPool limit) (Rebuilt from stripes 0 false) used new
    pub calm : AllOf FailsNoFlush rebuilt.holds
    pub idle : AreIdle new

  -- so many failures, one after another
  abbrev pub OutlivesAll : List Failure → State → State → Type 0
  OutlivesAll [] old new = new ≡ old
  OutlivesAll (f ∷ failures) old new = (mid : State) × Outlives f old mid × OutlivesAll failures mid new

-- ---- the repair agent

-- each slot that got a spare, by these entries, is whole in each metaslab
abbrev pub AreWholeAgain : List Entry → State → Type 0
AreWholeAgain entries x = (e : Entry) (spare m : ℕ) (y : Metaslab) → Contains entries e → e.did ≡ did.Spared spare → m < x.geometry.props.metaslabs → slice_get x.metaslabs m ≡ Some y
    → IsSlotWhole y.world.core e.slot

-- ---- rebuilds without errors

-- no call on a leaf failed in a rebuild or a seal
abbrev pub FailsNoCall : Hold → Type 0
FailsNoCall (On v (Did (event.Seal t failed) w)) = failed.items ≡ []
FailsNoCall (On v (Did (event.Lend failed) w)) = failed.items ≡ []
FailsNoCall (On v (Did (event.LandStripe pass serial failed) w)) = failed.items ≡ []
FailsNoCall (On v (Did (event.Done failed) w)) = failed.items ≡ []
FailsNoCall hold = ⊤

-- an arm of a slot that is up has missed nothing
pub record HasGoodArm (q : machine.Core) (slot : ℕ) : Type 0 where
  pub n : ArmName
  pub listed : has_name (q.order slot) n ≡ true
  pub up : IsUp q n
  pub empty : HasEmptyLog q n

-- Of a metaslab each slot without a spare has a first disk that answers, and each slot but so many has a good arm.
pub record HasFewBroken (children most : ℕ) (q : machine.Core) : Type 0 where
  pub slots : List ℕ
  pub few : length slots ≤ most
  pub first : (slot : ℕ) → slot < children → first_spare (q.order slot) ≡ None → passes (first_leaf (q.order slot)) (leaf_answers q) ≡ true
  pub good : (slot : ℕ) → slot < children → Contains slots slot ⊎ HasGoodArm q slot

-- so in each metaslab, with as many as there are parity columns
abbrev pub HaveFewBroken : State → Type 0
HaveFewBroken x = (m : ℕ) (y : Metaslab) → slice_get x.metaslabs m ≡ Some y → HasFewBroken x.geometry.spec.children x.geometry.spec.parity y.world.core
