-- How spares come one after another to slots of a pool, for all of which events and memory were reserved before the first came.
use Rattle.std.specs.Prelude.{◌≡◌, ◌==◌, ◌<◌, ◌≤◌, ◌+◌, ◌++◌, [], ◌∷◌, ◌⊎◌, ⊤, not, ℕ, Bool, true, false, List, Option, Some, None, Result, Ok, Err, Contains, filter, length}
use Rattle.std.specs.List.{list_any}
use Rattle.draid_names.specs.declared.arm.ArmKind.TheVariants as kind
use Rattle.draid_names.specs.declared.journal.Did.{Did}
use Rattle.draid_names.specs.declared.journal.Did.TheVariants as did
use Rattle.draid_names.specs.declared.journal.Entry.{Entry}
use Rattle.draid_spec.specs.declared.layout.Geometry.{Geometry}
use Rattle.draid_perm.specs.declared.perms.Perms.{Perms}
use Rattle.draid_rack.specs.declared.Rack as racks
use Rattle.draid_area.specs.declared.Area as areas
use Rattle.draid_machine.specs.declared.event.Event.TheVariants.{Attach}
use Rattle.draid_machine.specs.declared.names.ArmName.TheVariants.{Spare}
use Rattle.draid_entries.specs.History.{reserved_of}
use Rattle.draid_slots.specs.Faults.{MayAttach}
use Rattle.draid_shard.specs.declared.shard.Shard.{Shard}
use Rattle.draid_slots.specs.Changes.{Keeps}
use Rattle.draid_slots.specs.Table.{IsTable, SlotTable, arms_of}
use Rattle.draid_agent.specs.declared.states.Due.{Due}
use Rattle.draid_session.specs.Agent.{AttachesAll}
use Rattle.draid_session.specs.Arms.{EventPhase, ReservePhase}
use Rattle.draid_session.specs.Holds.{Hold}
use Rattle.draid_session.specs.Phases.{Chain, End, Went}
use Rattle.draid_session.specs.State.{State, Store}
use Rattle.draid_pool.specs.Carries.{CarriesOut}
use Rattle.draid_pool.specs.Pools.{Represents}
use Rattle.draid_pool.specs.Syncing.{Phase, end_of}
use Rattle.draid_changes.specs.Dues.{AreFree, IsIdleIn}
use Rattle.draid_changes.specs.Walks.{ChangedBelow}
use Rattle.draid_disks.specs.Checks.{Each}
use Rattle.draid_disks.specs.Disks.{HasAttached, HasRoomFor, arm_called}
use Rattle.draid_pool.specs.Keeping.{KeepsEach}
use Rattle.draid_pool.specs.declared.fault.SyncFault.{SyncFault}
use Rattle.draid_pool.specs.declared.fault.SyncFault.TheVariants as sync
use Rattle.draid_pool.specs.declared.pool.Pool.{Pool}

-- a metaslab has no pass, and events and room for so many spares are reserved
pub record IsReady {R A : Type 0} (count : ℕ) (shard : Shard R A) : Type 0 where
  pub pass : shard.pass ≡ None
  pub reserved : count ≤ reserved_of shard.history
  pub room : HasRoomFor count shard

-- so are all
abbrev pub AllReady : {R A : Type 0} → ℕ → Pool R A → Type 0
AllReady {R} {A} count pool = Each (λ (shard : Shard R A). IsReady count shard) pool.metaslabs.shards.items

-- no rule on slots forbids a spare in any of them
abbrev pub AllMayTake : {R A : Type 0} → ℕ → ℕ → Pool R A → Type 0
AllMayTake {R} {A} slot spare pool = Each (λ (shard : Shard R A). MayAttach shard.slots slot (arm_called kind.Spare spare)) pool.metaslabs.shards.items

-- a slot of a metaslab got a spare
pub record GetsSpare {R A : Type 0} (slot spare : ℕ) (old new : Shard R A) : Type 0 where
  pub layout : new.slots.geometry ≡ old.slots.geometry
  pub arms : HasAttached old.slots new.slots slot (arm_called kind.Spare spare)

-- so did all
abbrev pub AllGet : {R A : Type 0} → ℕ → ℕ → Pool R A → Pool R A → Type 0
AllGet {R} {A} slot spare old new = ChangedBelow (λ (before : Shard R A) after. GetsSpare slot spare before after) (length old.metaslabs.shards.items) old.metaslabs.shards.items new.metaslabs.shards.items

-- neither arms nor logs changed, and the slots are sound
abbrev pub AllStay : {R A : Type 0} → Pool R A → Pool R A → Type 0
AllStay {R} {A} old new = KeepsEach (λ (before : Shard R A) after. Keeps before.slots after.slots × IsTable after.slots) old new

-- ---- one slot

-- a spare comes to a slot, or none does
abbrev pub GivesOne : Geometry → Perms → Did → ℕ → List Hold → End → Type 0
GivesOne geometry perms did.NoneFree slot holds end = (holds ≡ []) × (end ≡ Went)
GivesOne geometry perms (did.Spared spare) slot holds end = EventPhase geometry perms (Attach slot (Spare spare)) holds end

-- a slot got one of the free spares, the chosen one, which isn't free any more; or none is free
abbrev pub GaveOne : {R A : Type 0} → (ℕ → ℕ → List ℕ → Option ℕ → Type 0) → Due → List ℕ → Did → Pool R A → Pool R A → List ℕ → Type 0
GaveOne chosen due free did.NoneFree old new left = (free ≡ []) × (new ≡ old) × (left ≡ free)
GaveOne chosen due free (did.Spared spare) old new left =
    Contains free spare × chosen due.slot due.logged free (Some spare) × (left ≡ filter (λ other. not (other == spare)) free) × AllGet due.slot spare old new

-- ---- all slots

-- due slots in ascending order, from one on
abbrev pub SlotsAscend : ℕ → List Due → Type 0
SlotsAscend low [] = ⊤
SlotsAscend low (due ∷ others) = (low ≤ due.slot) × SlotsAscend (due.slot + 1) others

-- each of them is a slot of a metaslab, and has room for one more arm
abbrev pub HaveRoom : SlotTable → List Due → Type 0
HaveRoom slots dues = (due : Due) → Contains dues due → (due.slot < slots.geometry.spec.children) × (length (arms_of slots due.slot) < 3)

-- an entry is that of a due slot
abbrev pub IsFor : ℕ → Due → Entry → Type 0
IsFor number due e = (e.number ≡ number) × (e.slot ≡ due.slot) × (e.cause ≡ due.cause)

module _ (chosen : ℕ → ℕ → List ℕ → Option ℕ → Type 0) (Idle : ℕ → Type 0) (spares : ℕ) where
  -- it gets the spare that is chosen for it of those that are free at its turn, before which these were given, and none where none is free
  abbrev pub GetsOf : List Entry → Due → Did → Type 0
  GetsOf given due did.NoneFree = AreFree Idle given spares []
  GetsOf given due (did.Spared spare) = (free : List ℕ) × AreFree Idle given spares free × Contains free spare × chosen due.slot due.logged free (Some spare)

  -- the entries of some due slots, behind those of the slots before
  abbrev pub GivesTo : List Entry → ℕ → List Due → List Entry → Type 0
  GivesTo given number [] entries = entries ≡ []
  GivesTo given number (due ∷ others) entries =
      (e : Entry) × (rest : List Entry) × (entries ≡ e ∷ rest) × IsFor number due e × GetsOf given due e.did × GivesTo (given ++ e ∷ []) (number + 1) others rest

-- Each due slot of a pool got a spare, or none where none was free, and each has an entry of the journal, one after another.
pub record GaveAll {R A : Type 0} (rack : racks.Ghosts R) (area : areas.Ghosts A) (chosen : ℕ → ℕ → List ℕ → Option ℕ → Type 0) (dues : List Due) (old : Pool R A) (before : List Entry) (new : Pool R A) (after : List Entry) : Type 0 where
  pub entries : List Entry
  pub are : after ≡ before ++ entries
  pub gives : Each (λ (shard : Shard R A). GivesTo chosen (IsIdleIn shard.slots) shard.slots.geometry.spec.spares [] (length before + 1) dues entries) old.metaslabs.shards.items
  pub carries : (x : State) → Represents rack area old x → CarriesOut rack area new x (Phase x (AttachesAll x.geometry x.perms chosen entries) Went)

-- a spare was given
abbrev pub is_spared : Did → Bool
is_spared did.NoneFree = false
is_spared (did.Spared spare) = true

-- the same, behind the reserving for all of them; and whether one came
pub record GaveSome {R A : Type 0} (rack : racks.Ghosts R) (area : areas.Ghosts A) (chosen : ℕ → ℕ → List ℕ → Option ℕ → Type 0) (dues : List Due) (old : Pool R A) (before : List Entry) (came : Bool) (new : Pool R A) (after : List Entry) : Type 0 where
  pub entries : List Entry
  pub are : after ≡ before ++ entries
  pub gives : Each (λ (shard : Shard R A). GivesTo chosen (IsIdleIn shard.slots) shard.slots.geometry.spec.spares [] (length before + 1) dues entries) old.metaslabs.shards.items
  pub came_is : came ≡ list_any (λ (e : Entry). is_spared e.did) entries
  pub carries : (x : State) → Represents rack area old x
      → CarriesOut rack area new x (Phase x (Chain (ReservePhase x.geometry x.perms (λ v. length dues)) (AttachesAll x.geometry x.perms chosen entries)) Went)

-- they got spares, or why none did: the reserving was stopped, or memory was wanting before it
abbrev pub StopsBefore : ℕ → SyncFault → State → List Hold → Store → Type 0
StopsBefore count why x holds new = (new ≡ x.store) × (ReservePhase x.geometry x.perms (λ v. count) holds (end_of {T = ℕ} (Err why)) ⊎ ((why ≡ sync.NoMemory) × (holds ≡ [])))

abbrev pub GaveTo : {R A : Type 0} → racks.Ghosts R → areas.Ghosts A → (ℕ → ℕ → List ℕ → Option ℕ → Type 0) → List Due → Pool R A → List Entry → Result Bool SyncFault → Pool R A → List Entry → Type 0
GaveTo rack area chosen dues old before (Ok came) new after = GaveSome rack area chosen dues old before came new after
GaveTo rack area chosen dues old before (Err why) new after =
    (after ≡ before) × ((x : State) → Represents rack area old x → CarriesOut rack area new x (StopsBefore (length dues) why x))
