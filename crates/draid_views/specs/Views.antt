-- What is told of the shards of a pool, for each list of looks at metaslabs for which they stand.
use Rattle.std.specs.Prelude.{◌≡◌, ◌⊎◌, ⊤, ℕ, List, Option, Some, None, All, Contains, length, map, slice_get, string_bytes, sum_by}
use Rattle.std.specs.List.{AllZip}
use Rattle.std.specs.declared.alloc.Global.{Global}
use Rattle.std.specs.declared.vec.Vec.{Vec}
use Rattle.draid_names.specs.declared.arm.Arm.{Arm}
use Rattle.draid_names.specs.declared.arm.ArmAt.{ArmAt}
use Rattle.draid_names.specs.declared.arm.ArmKind.{ArmKind}
use Rattle.draid_names.specs.declared.pointer.Pointer.{Pointer}
use Rattle.draid_spec.specs.declared.layout.Geometry.{Geometry}
use Rattle.draid_perm.specs.declared.perms.Perms.{Perms}
use Rattle.draid_machine.specs.declared.names.ArmName.{ArmName}
use Rattle.draid_machine.specs.declared.names.Stage.TheVariants.{Live}
use Rattle.draid_machine.specs.State as machine
use Rattle.draid_pass.specs.declared.pass.Pass.{Pass}
use Rattle.draid_slots.specs.Table.{IsArmOf, SlotTable, arm_at, arms_of, count_at}
use Rattle.draid_entries.specs.Entries.{entry_at}
use Rattle.draid_entries.specs.Maps.{staged}
use Rattle.draid_shard.specs.States.{IsIn}
use Rattle.draid_shard.specs.declared.shard.Shard.{Shard}
use Rattle.draid_report.specs.declared.view.ArmView.{ArmView}
use Rattle.draid_report.specs.declared.view.MetaslabView.{MetaslabView}
use Rattle.draid_report.specs.declared.view.PassView.{PassView}
use Rattle.draid_session.specs.Holds.{View}
use Rattle.draid_session.specs.Status.{HasCount, IsFreeStripe, IsSlotView, PassIs, logged_in, name_of, spare_name_in}

-- ---- looks

-- a shard stands for the metaslab that a look shows
abbrev pub IsShown : {R A : Type 0} → Shard R A → View → Type 0
IsShown shard v = IsIn shard v.world

-- so do the shards for those that looks show, one after another
abbrev pub AreShown : {R A : Type 0} → List (Shard R A) → List View → Type 0
AreShown shards views = AllZip IsShown shards views

-- the same arms stand in each slot of the metaslabs that looks show, and are offline in all of them or in none
pub record ShowSameArms (views : List View) : Type 0 where
  pub order : (v u : View) → Contains views v → Contains views u → (slot : ℕ) → v.world.core.order slot ≡ u.world.core.order slot
  pub offline : (v u : View) → Contains views v → Contains views u → (name : ArmName) (a b : machine.Arm) → v.world.core.arm name ≡ Some a → u.world.core.arm name ≡ Some b
      → a.gone ≡ None → b.gone ≡ None → a.offline ≡ b.offline

-- an arm stands in each metaslab that looks show
abbrev pub StandsIn : ArmName → List View → Type 0
StandsIn name views = (v : View) → Contains views v → (arm : machine.Arm) × (v.world.core.arm name ≡ Some arm) × (arm.gone ≡ None)

-- ---- metaslabs

-- the entry at a stripe is that of a live block
pub record IsLiveAt {R A : Type 0} (shard : Shard R A) (x : ℕ) : Type 0 where
  pub pointer : Pointer
  pub there : entry_at shard.entries x ≡ Some (staged Live pointer)

-- what is told of a pass, if there is one
abbrev pub IsPassTold : Option Pass → Option PassView → Type 0
IsPassTold None None = ⊤
IsPassTold (Some p) (Some view) = (view.number ≡ p.number) × (view.kind ≡ p.kind) × (view.at ≡ p.at) × (view.errors ≡ p.errors)
IsPassTold p view = ⊥

-- What is told of a shard. Of its blocks those are counted that are live.
pub record IsToldOf {R A : Type 0} (shard : Shard R A) (view : MetaslabView) : Type 0 where
  pub free : (v : View) → IsShown shard v → HasCount (IsFreeStripe shard.geometry shard.perms v) view.free
  pub blocks : HasCount (IsLiveAt shard) view.blocks
  pub pass : (v : View) → IsShown shard v → PassIs v.world.core.pass view.pass

-- ---- arms

-- how many groups stand in the log of the arm of a kind and number, 0 where no slot has it
abbrev pub IsLogCount : SlotTable → ArmKind → ℕ → ℕ → Type 0
IsLogCount slots kind number count =
    ((at : ArmAt) × IsArmOf kind number (arm_at slots at) × (count ≡ count_at slots at)) ⊎ (((at : ArmAt) → ¬ (IsArmOf kind number (arm_at slots at))) × (count ≡ 0))

-- so many groups stand in an arm's logs, over all shards
abbrev pub LogsAre : {R A : Type 0} → List (Shard R A) → ArmName → ℕ → Type 0
LogsAre shards name count = (views : List View) → AreShown shards views → StandsIn name views → count ≡ sum_by (logged_in name) views

-- what is told of an arm of the shards of a pool
pub record IsArmTold {R A : Type 0} (geometry : Geometry) (shards : List (Shard R A)) (view : ArmView) : Type 0 where
  pub spare_name : (perms : Perms) → string_bytes view.spare_name ≡ spare_name_in geometry perms view.arm.kind view.arm.number
  pub logged : LogsAre shards (name_of view) view.logged

-- what is told of a slot's arms, which are these
pub record AreArmsTold {R A : Type 0} (geometry : Geometry) (shards : List (Shard R A)) (arms : List Arm) (views : List ArmView) : Type 0 where
  pub arms_are : map (λ (view : ArmView). view.arm) views ≡ arms
  pub each : All (IsArmTold geometry shards) views

-- what is told of the first slots, by the arms of the first shard
pub record AreSlotsTold {R A : Type 0} (geometry : Geometry) (shards : List (Shard R A)) (table : SlotTable) (count : ℕ) (slots : List (Vec ArmView Global)) : Type 0 where
  pub many : length slots ≡ count
  pub each : (slot : ℕ) (arms : Vec ArmView Global) → slice_get slots slot ≡ Some arms → AreArmsTold geometry shards (arms_of table slot) arms.items

-- what is told of all slots is by the arms of the first shard
abbrev pub TellFirst : {R A : Type 0} → Geometry → List (Shard R A) → List (Vec ArmView Global) → Type 0
TellFirst {R} {A} geometry shards slots = (first : Shard R A) → slice_get shards 0 ≡ Some first → AreSlotsTold geometry shards first.slots geometry.spec.children slots

-- what is told of all slots, for looks that show the same arms
abbrev pub AreSlotViews : {R A : Type 0} → Geometry → List (Shard R A) → List (Vec ArmView Global) → Type 0
AreSlotViews geometry shards slots =
    (perms : Perms) (views : List View) → AreShown shards views → ShowSameArms views → (slot : ℕ) (arms : Vec ArmView Global) → slice_get slots slot ≡ Some arms
    → IsSlotView geometry perms views slot arms.items
