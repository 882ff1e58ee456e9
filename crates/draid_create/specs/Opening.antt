-- What becomes of a shelf on which a pool is created, and of the pool.
use Rattle.std.specs.Prelude.{◌≡◌, ◌<◌, ◌≤◌, ◌+◌, ◌⊎◌, ℕ, false, List, [], Option, Some, None, MatchOption, IsSome, IsSomeAnd, IsTrue, is_some, option_map, Result, Ok, Err, length, replicate, slice_get}
use Rattle.draid_names.specs.Faults.{Rose}
use Rattle.draid_rack.specs.Rack.{Shape, Told}
use Rattle.draid_rack.specs.declared.Rack as racks
use Rattle.draid_area.specs.Area.{OnTold}
use Rattle.draid_area.specs.declared.Area as areas
use Rattle.draid_spec.specs.declared.layout.Geometry.{Geometry}
use Rattle.draid_spec.specs.declared.layout.Props.{Props}
use Rattle.draid_spec.specs.declared.spec.Spec.{Spec}
use Rattle.draid_spec.specs.Geometry.{geometry_of}
use Rattle.draid_perm.specs.declared.perms.Perms.{Perms}
use Rattle.draid_map.specs.Place.{IsLayout}
use Rattle.draid_machine.specs.Created.{created}
use Rattle.draid_entries.specs.History.{limit_in, reserved_of}
use Rattle.draid_shelf.specs.Kits.{Held, IsNewArea, IsNewKit, KitCounts, KitTold, OnHeld, uber_bytes}
use Rattle.draid_shard.specs.Fits.{Valid}
use Rattle.draid_shard.specs.Part.{Part, layout_in}
use Rattle.draid_shard.specs.States.{IsIn, part_of, stored_in}
use Rattle.draid_shard.specs.declared.shard.Shard.{Shard}
use Rattle.draid_uber.specs.declared.uber.Uber.{Uber}
use Rattle.draid_uber.specs.Checks.{AreasTold, told_by}
use Rattle.draid_uber.specs.Slots.{StandsTold}
use Rattle.draid_uber.specs.Uber.{area_of, areas_of, kept_of, layout_of, next_leaf_of, point_of, changed_of, version_of}
use Rattle.draid_uber.specs.Uber as ubers
use Rattle.draid_session.specs.Making.{IsFresh}
use Rattle.draid_session.specs.Session.{uncommitted}
use Rattle.draid_session.specs.State.{Metaslab, State, limit_of}
use Rattle.draid_pool.specs.Returning.{HoldsPool, OwnCounts, SameCounts, own_count}
use Rattle.draid_pool.specs.Importable.{IsImportable}
use Rattle.draid_pool.specs.Records.{HasRecords}
use Rattle.draid_pool.specs.Pools.{Represents}
use Rattle.draid_create.specs.declared.fault.CreateFault.{CreateFault}
use Rattle.draid_create.specs.declared.fault.CreateFault.TheVariants as fault
use Rattle.draid_pool.specs.declared.pool.Pool.{Pool}
use Rattle.draid_pool.specs.Taking.{HoldsMade, IsAsBefore}

-- ---- the pool

-- A pool of this layout was created, and nothing befell it yet.
pub record Opens {R A : Type 0} (rack : racks.Ghosts R) (area : areas.Ghosts A) (geometry : Geometry) (told : Option Held) (pool : Pool R A) : Type 0 where
  pub state : State
  pub represents : Represents rack area pool state
  pub fresh : IsFresh geometry state
  pub told_is : state.told ≡ is_some told

-- the spec and the properties have a layout
abbrev pub HasLayout : Spec → Props → Type 0
HasLayout spec props = (geometry : Geometry) × (geometry_of spec props ≡ Ok geometry)

-- ---- the shelf

-- all is away
pub record IsAway (x : Held) : Type 0 where
  pub uber : x.uber ≡ None
  pub checks : x.checks ≡ None
  pub kits : (m : ℕ) → x.kits m ≡ None

-- no call has failed on the areas of the check records
abbrev pub NoChecks : OwnCounts → Type 0
NoChecks own = own.checks ≡ record { even = 0; odd = 0 }

-- and so are the leaves of each metaslab's rack
abbrev pub SameLeaves : (ℕ → Option Shape) → (ℕ → Option Shape) → Type 0
SameLeaves before after = (m : ℕ) → after m ≡ before m

-- the shelf holds them, and no call has failed but on areas of records, and so many on that of the uberblock
pub record StaysMade (geometry : Geometry) (failed : ℕ) (new : Option Held) (after : ℕ → KitCounts) (now : OwnCounts) : Type 0 where
  pub held : OnHeld new (HoldsMade geometry)
  pub counts : (m : ℕ) (who : Option ℕ) → m < geometry.props.metaslabs → (after m).rack who ≡ 0
  pub uber : now.uber ≡ failed
  pub checks : NoChecks now

-- as it was made, none has failed there
abbrev pub IsMade : Geometry → Option Held → (ℕ → KitCounts) → OwnCounts → Type 0
IsMade geometry new after now = StaysMade geometry 0 new after now

-- The first commit of a new pool was refused, and the pool was given back. No record of it has a fault to an import, where the shelf has these leaves.
pub record IsRefused (geometry : Geometry) (new : Option Held) (leaves : ℕ → Option Shape) (after : ℕ → KitCounts) (now : OwnCounts) : Type 0 where
  pub fresh : State
  pub is_fresh : IsFresh geometry fresh
  pub told : IsSome new → IsTrue fresh.told
  pub held : OnHeld new (HoldsPool (uncommitted fresh) false)
  pub importable : OnHeld new (λ held. IsImportable (uncommitted fresh) held leaves)
  pub counts : (m : ℕ) (y : Metaslab) → slice_get fresh.metaslabs m ≡ Some y → SameCounts y.counts (after m)
  pub uber : own_count now ≡ fresh.uber_count
  pub checks : NoChecks now

-- what a shelf holds of a pool that was made, and of which nothing was committed
abbrev pub HoldsUncommitted : Geometry → Option Held → (ℕ → Option Shape) → (ℕ → KitCounts) → OwnCounts → Type 0
HoldsUncommitted geometry new leaves after now = IsMade geometry new after now ⊎ IsRefused geometry new leaves after now

-- What the shelf holds then: with the pool nothing; for a layout that isn't there what it held; and after another refusal that too, or all devices of the new pool.
abbrev pub ShelfIs : {P : Type 0} → Spec → Props → Option Held → Option Held → (ℕ → Option Shape) → (ℕ → Option Shape) → (ℕ → KitCounts) → (ℕ → KitCounts) → OwnCounts → OwnCounts
    → Result P CreateFault → Type 0
ShelfIs spec props old new leaves leaves' before after own now (Ok pool) = OnHeld new IsAway
ShelfIs spec props old new leaves leaves' before after own now (Err (fault.Spec why)) = IsAsBefore old new before after own now × SameLeaves leaves leaves'
ShelfIs spec props old new leaves leaves' before after own now (Err why) =
    (IsAsBefore old new before after own now × SameLeaves leaves leaves')
    ⊎ ((geometry : Geometry) × (geometry_of spec props ≡ Ok geometry) × HoldsUncommitted geometry new leaves' after now)

-- ---- the answer

-- a call on an area of the records of a metaslab of this layout has failed
abbrev pub RecordsFailed : Geometry → (ℕ → KitCounts) → Type 0
RecordsFailed geometry kits = (m : ℕ) × (m < geometry.props.metaslabs) × (0 < (kits m).even + (kits m).odd)

-- so, or one on the uberblock's area
abbrev pub HasBadArea : Geometry → (ℕ → KitCounts) → OwnCounts → Type 0
HasBadArea geometry kits own = RecordsFailed geometry kits ⊎ (0 < own.uber)

-- A new pool of this layout wasn't opened: the shelf holds all its devices, and a call on an area of it has failed. The counts of a new pool's areas begin at 0.
pub record NewPoolFailed (geometry : Geometry) (told : Option Held) (leaves : ℕ → Option Shape) (kits : ℕ → KitCounts) (own : OwnCounts) : Type 0 where
  pub held : HoldsUncommitted geometry told leaves kits own
  pub failed : HasBadArea geometry kits own

-- The answer. It is that the shelf failed only where its count rose in the call, or a new pool failed.
abbrev pub CreateIs : {R A : Type 0} → racks.Ghosts R → areas.Ghosts A → Spec → Props → Option Held → (ℕ → Option Shape) → ℕ → ℕ → (ℕ → KitCounts) → OwnCounts → Result (Pool R A) CreateFault → Type 0
CreateIs rack area spec props told leaves before after kits own (Ok pool) = (geometry : Geometry) × (geometry_of spec props ≡ Ok geometry) × Opens rack area geometry told pool
CreateIs rack area spec props told leaves before after kits own (Err (fault.Spec why)) = geometry_of spec props ≡ Err why
CreateIs rack area spec props told leaves before after kits own (Err fault.Shelf) =
    (geometry : Geometry) × (geometry_of spec props ≡ Ok geometry) × (Rose before after ⊎ NewPoolFailed geometry told leaves kits own)
CreateIs rack area spec props told leaves before after kits own (Err fault.NoMemory) = HasLayout spec props

-- ---- the metaslabs

-- A new metaslab over the devices that the shelf held for it.
pub record IsOpened {R A : Type 0} (rack : racks.Ghosts R) (area : areas.Ghosts A) (part : Part) (held : Option Held) (counts : KitCounts) (shard : Shard R A) : Type 0 where
  pub valid : Valid rack shard
  pub part_is : part_of shard ≡ part
  pub created_is : IsIn shard (created (layout_in part) part.geometry.props.version)
  pub events : stored_in shard ≡ []
  pub reserved : reserved_of shard.history ≡ 0
  pub limit : limit_in shard.history ≡ limit_of part.geometry
  pub told : OnHeld held (λ x. IsSomeAnd (x.kits part.number) (λ kit. rack.told shard.rack ≡ Some kit.rack))
  pub rack_count : (who : Option ℕ) → rack.faults shard.rack who ≡ counts.rack who
  pub records : HasRecords part (created (layout_in part) part.geometry.props.version) (area.told shard.even) (area.told shard.odd)

-- All metaslabs of a new pool.
pub record AreOpened {R A : Type 0} (rack : racks.Ghosts R) (area : areas.Ghosts A) (geometry : Geometry) (held : Option Held) (counts : ℕ → KitCounts) (shards : List (Shard R A)) : Type 0 where
  pub perms : Perms
  pub are_perms : IsLayout geometry perms
  pub many : length shards ≡ geometry.props.metaslabs
  pub each : (m : ℕ) (shard : Shard R A) → slice_get shards m ≡ Some shard
      → IsOpened rack area (record { geometry = geometry; perms = perms; number = m }) held (counts m) shard

-- what the rack of a kit tells
abbrev pub rack_in : Option KitTold → Option Told
rack_in kit = option_map (λ x. x.rack) kit

-- the same is held, but for what stands on the areas of records
pub record SameButRecords (old new : Held) : Type 0 where
  pub uber : new.uber ≡ old.uber
  pub checks : new.checks ≡ old.checks
  pub kits : (m : ℕ) → rack_in (new.kits m) ≡ rack_in (old.kits m)

-- what was taken is held again, with the counts of its racks
pub record IsBackAgain (old new : Option Held) (before after : ℕ → KitCounts) : Type 0 where
  pub held : OnHeld new (λ y. MatchOption old ⊥ (λ x. SameButRecords x y))
  pub counts : (m : ℕ) (who : Option ℕ) → (after m).rack who ≡ (before m).rack who

-- ---- the uberblock

-- a new pool's own areas, where they tell
pub record AreNewAreas (told : AreasTold) : Type 0 where
  pub uber : OnTold told.uber (IsNewArea (replicate uber_bytes 0))
  pub even : OnTold told.even (IsNewArea [])
  pub odd : OnTold told.odd (IsNewArea [])

-- the uberblock of a new pool, to whose areas nothing was written
pub record IsNewUber {A : Type 0} (area : areas.Ghosts A) (geometry : Geometry) (uber : Uber A) : Type 0 where
  pub valid : ubers.Valid area.size uber
  pub kept : kept_of uber ≡ None
  pub layout : layout_of uber ≡ geometry
  pub version : version_of uber ≡ geometry.props.version
  pub next_leaf : next_leaf_of uber ≡ geometry.spec.children
  pub point : (point_of uber).group ≡ None
  pub drops : (point_of uber).drops ≡ []
  pub changed : changed_of uber ≡ 0
  pub stands : StandsTold None [] (area.told (area_of uber))
  pub new : AreNewAreas (told_by area.told (areas_of uber))
  pub count : area.faults (area_of uber) ≡ 0
  pub even_count : area.faults (areas_of uber).even ≡ 0
  pub odd_count : area.faults (areas_of uber).odd ≡ 0

-- the devices of a new pool are held, but for its own areas, which are taken
pub record HasNewKits (geometry : Geometry) (x : Held) : Type 0 where
  pub uber : x.uber ≡ None
  pub checks : x.checks ≡ None
  pub kits : (m : ℕ) → m < geometry.props.metaslabs → IsSomeAnd (x.kits m) (IsNewKit geometry)
  pub no_other : (m : ℕ) → geometry.props.metaslabs ≤ m → x.kits m ≡ None
