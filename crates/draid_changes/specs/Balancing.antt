-- How the other arms of a slot go from it in all metaslabs of a pool, and what that call says by its answer.
use Rattle.std.specs.Prelude.{◌≡◌, ◌≢◌, ◌<◌, ◌-◌, ◌⊎◌, ⊤, ℕ, true, false, List, [], ◌∷◌, ◌++◌, Option, Some, None, Result, Ok, Err, length, map, slice_get}
use Rattle.draid_names.specs.declared.arm.Arm.{Arm}
use Rattle.draid_names.specs.declared.arm.ArmAt.{ArmAt}
use Rattle.draid_names.specs.declared.arm.ArmKind.TheVariants as kind
use Rattle.draid_spec.specs.declared.layout.Geometry.{Geometry}
use Rattle.draid_perm.specs.declared.perms.Perms.{Perms}
use Rattle.draid_machine.specs.Names.{is_leaf}
use Rattle.draid_machine.specs.declared.event.Event.TheVariants as event
use Rattle.draid_machine.specs.declared.names.ArmName.{ArmName}
use Rattle.draid_slots.specs.States.{name_of}
use Rattle.draid_slots.specs.Table.{IsArmOf, SlotTable, arm_at, arms_of, is_logged}
use Rattle.draid_shard.specs.declared.shard.Shard.{Shard}
use Rattle.draid_disks.specs.Checks.{Each, NoPass}
use Rattle.draid_session.specs.Arms as arms
use Rattle.draid_session.specs.Balance as balance
use Rattle.draid_session.specs.Holds.{Hold}
use Rattle.draid_session.specs.Phases.{Chain, End}
use Rattle.draid_session.specs.State.{State, Store}
use Rattle.draid_pool.specs.Syncing.{end_of}
use Rattle.draid_pool.specs.declared.fault.SyncFault.{SyncFault}
use Rattle.draid_pool.specs.declared.pool.Pool.{Pool}

-- ---- slots

-- the place of the last arm of a slot
abbrev pub last_place : SlotTable → ℕ → ArmAt
last_place slots slot = record { slot = slot; arm = length (arms_of slots slot) - 1 }

-- the last arm of a slot is a leaf that missed nothing, and there are others
pub record HasOthers (slots : SlotTable) (slot : ℕ) : Type 0 where
  pub others : 1 < length (arms_of slots slot)
  pub leaf : (number : ℕ) × IsArmOf kind.Leaf number (arm_at slots (last_place slots slot))
  pub empty : (group : ℕ) → is_logged slots (last_place slots slot) group ≡ false

-- The arms of a slot in a metaslab have these names, of which the last is that of a leaf that missed nothing there. No pass is there.
pub record MayLoseOthers {R A : Type 0} (slot : ℕ) (others : List ArmName) (last : ArmName) (shard : Shard R A) : Type 0 where
  pub pass : shard.pass ≡ None
  pub low : slot < shard.slots.geometry.spec.children
  pub names : map name_of (arms_of shard.slots slot) ≡ others ++ last ∷ []
  pub leaf : is_leaf last ≡ true
  pub empty : (group : ℕ) → is_logged shard.slots (record { slot = slot; arm = length others }) group ≡ false

-- a slot has this leaf alone
abbrev pub IsAlone : ℕ → ℕ → SlotTable → Type 0
IsAlone slot leaf slots = (arm : Arm) × (arms_of slots slot ≡ arm ∷ []) × (arm.kind ≡ kind.Leaf) × (arm.number ≡ leaf)

-- ---- the pool

-- the same of all metaslabs
abbrev pub AllMayLose : {R A : Type 0} → ℕ → List ArmName → ArmName → Pool R A → Type 0
AllMayLose {R} {A} slot others last pool = Each (λ (shard : Shard R A). MayLoseOthers slot others last shard) pool.metaslabs.shards.items

-- and some go
abbrev pub SomeGo : {R A : Type 0} → ℕ → Pool R A → Type 0
SomeGo slot pool = (n : ArmName) × (others : List ArmName) × (last : ArmName) × AllMayLose slot (n ∷ others) last pool

abbrev pub HasNoPass : {R A : Type 0} → Pool R A → Type 0
HasNoPass pool = NoPass pool.metaslabs.shards.items

-- one goes: its going is reserved in all metaslabs, and then it goes in all
abbrev pub OneGoes : Geometry → Perms → ℕ → ArmName → List Hold → End → Type 0
OneGoes geometry perms slot name = Chain (arms.ReservePhase geometry perms (arms.one_event geometry perms)) (arms.EventPhase geometry perms (event.Detach slot name))

-- all but the last went, and a sync came, which committed this group; or it was stopped
abbrev pub GoDoes : State → ℕ → List ArmName → Result ℕ SyncFault → List Hold → Store → Type 0
GoDoes x slot others (Ok group) holds new = (new ≡ x.store) × ((thin : ℕ) × balance.Goes x.geometry x.perms slot others group thin holds (end_of (Ok group)))
GoDoes x slot others (Err why) holds new = (new ≡ x.store) × ((group : ℕ) × (thin : ℕ) × balance.Goes x.geometry x.perms slot others group thin holds (end_of {T = ℕ} (Err why)))

-- the slot has the same leaf alone in all metaslabs
abbrev pub AllAlone : {R A : Type 0} → ℕ → Pool R A → Type 0
AllAlone {R} {A} slot pool = (leaf : ℕ) × Each (λ (shard : Shard R A). IsAlone slot leaf shard.slots) pool.metaslabs.shards.items

-- why the arms of a slot stay: there was an error, or in some metaslab its last arm is no leaf that missed nothing, or has none beside it
abbrev pub StayTogether : {R A : Type 0} → ℕ → ℕ → Pool R A → Type 0
StayTogether {R} {A} slot errors pool =
    (errors ≢ 0) ⊎ ((m : ℕ) × (shard : Shard R A) × (slice_get pool.metaslabs.shards.items m ≡ Some shard) × (HasOthers shard.slots slot → ⊥))

-- by the answer of the call that detaches them
abbrev pub OthersAre : {R A : Type 0} → ℕ → ℕ → Result (Option ℕ) SyncFault → Pool R A → Pool R A → Type 0
OthersAre slot errors (Ok (Some group)) old new = AllAlone slot new
OthersAre slot errors (Ok None) old new = (new ≡ old) × StayTogether slot errors old
OthersAre slot errors (Err why) old new = ⊤

-- they went, committed with this group, or all stay; or why it was stopped
abbrev pub OthersDo : State → ℕ → ℕ → Result (Option ℕ) SyncFault → List Hold → Store → Type 0
OthersDo x slot errors (Ok group) holds new = (new ≡ x.store) × balance.Balances x.geometry x.perms slot errors holds (balance.balance_of group)
OthersDo x slot errors (Err why) holds new = (new ≡ x.store) × balance.Balances x.geometry x.perms slot errors holds (balance.Halted (end_of {T = ℕ} (Err why)))
