-- Which record of what a shelf holds has a fault, where an import is refused for one.
use Rattle.std.specs.Prelude.{◌≡◌, ◌<◌, ◌⊎◌, ℕ, List, Option, Some, None, Ok, Err, IsSomeAnd, length, slice_get}
use Rattle.draid_record.specs.declared.fault.RecordFaultKind.{RecordFaultKind}
use Rattle.draid_rack.specs.Rack.{Shape}
use Rattle.draid_rack.specs.declared.Rack as racks
use Rattle.draid_area.specs.Area.{OnTold}
use Rattle.draid_area.specs.declared.Area as areas
use Rattle.draid_spec.specs.Geometry.{metaslab_sectors}
use Rattle.draid_spec.specs.declared.layout.Geometry.{Geometry}
use Rattle.draid_perm.specs.declared.perms.Perms.{Perms}
use Rattle.draid_map.specs.Place.{IsLayout}
use Rattle.draid_record.specs.Record.{limits_of}
use Rattle.draid_record.specs.declared.fault.RecordFault.TheVariants.{Bad}
use Rattle.draid_stable.specs.Opening.{has_leaf, opening_of}
use Rattle.draid_shelf.specs.Kits.{Held, KitCounts, OnHeld}
use Rattle.draid_pool.specs.Taking.{takes_areas}
use Rattle.draid_shelf.specs.declared.kit.Kit.{Kit}
use Rattle.draid_import.specs.Reopening.{area_of_kit, AreBytes}
use Rattle.draid_shard.specs.declared.shard.Shard.{Shard}
use Rattle.draid_uber.specs.Slots.{chosen_of, group_of}
use Rattle.draid_uber.specs.Uber.{kept_of, layout_of, next_leaf_of}
use Rattle.draid_uber.specs.declared.uber.Uber.{Uber}
use Rattle.draid_session.specs.State.{limit_of}
use Rattle.draid_record.specs.declared.uber.UberBody.{UberBody}
use Rattle.draid_import.specs.Found.{AreReopened, IsFoundUber, IsKitOf, IsReopened, OpensAllOver}
use Rattle.draid_found.specs.Together.{AreApart}

-- ---- the uberblock

-- no uberblock is held, or none of its gates is open
abbrev pub HoldsNoGroup : Option Held → Type 0
HoldsNoGroup held = OnHeld held (λ x. OnTold x.uber (λ c. chosen_of c.bytes ≡ None))

-- The uberblock that is held has an open gate, and the slot that counts has no fault. An uberblock was recovered that has its group, its layout and its next leaf.
pub record TellsBody {A : Type 0} (held : Option Held) (uber : Uber A) : Type 0 where
  pub body : UberBody
  pub chosen : OnHeld held (λ x. IsSomeAnd x.uber (λ c. chosen_of c.bytes ≡ Some (Ok body)))
  pub kept : kept_of uber ≡ Some body
  pub spec : (layout_of uber).spec ≡ body.spec
  pub props : (layout_of uber).props ≡ body.props
  pub next_leaf : next_leaf_of uber ≡ body.next_leaf

-- the uberblock that the shelf holds has this fault, the first of the slot that counts
pub record UberIsBad (held : Option Held) (metaslab : Option ℕ) (place : ℕ) (kind : RecordFaultKind) : Type 0 where
  pub metaslab_is : metaslab ≡ None
  pub bad : OnHeld held (λ x. IsSomeAnd x.uber (λ c. chosen_of c.bytes ≡ Some (Err (Bad place kind))))

-- ---- records

-- a metaslab's record of a group has it first, on the devices that the shelf held for the metaslab
pub record IsUnread {R A : Type 0} (rack : racks.Ghosts R) (area : areas.Ghosts A) (geometry : Geometry) (group next m : ℕ) (held : Option Held) (known : Option Shape) (counts : KitCounts) (metaslab : Option ℕ) (place : ℕ) (kind : RecordFaultKind) : Type 0 where
  pub metaslab_is : metaslab ≡ Some m
  pub kit : Kit R A
  pub taken : IsKitOf rack area m held known counts kit
  pub bytes : List ℕ
  pub are : AreBytes (area.told (area_of_kit kit group)) bytes
  pub bad : opening_of (limits_of geometry m group next) (has_leaf (rack.shape kit.rack) (metaslab_sectors geometry)) bytes ≡ Err (Bad place kind)

-- so that of one of the metaslabs, and those below it were opened from theirs
pub record OneIsUnread {R A : Type 0} (rack : racks.Ghosts R) (area : areas.Ghosts A) (geometry : Geometry) (group next : ℕ) (held : Option Held) (leaves : ℕ → Option Shape) (counts : ℕ → KitCounts)
    (metaslab : Option ℕ) (place : ℕ) (kind : RecordFaultKind) : Type 0 where
  pub m : ℕ
  pub inside : m < geometry.props.metaslabs
  pub unread : IsUnread rack area geometry group next m held (leaves m) (counts m) metaslab place kind
  pub perms : Perms
  pub layout : IsLayout geometry perms
  pub below : List (Shard R A)
  pub many : length below ≡ m
  pub each : (k : ℕ) (shard : Shard R A) → slice_get below k ≡ Some shard → IsReopened rack (record { geometry = geometry; perms = perms; number = k }) group shard
  pub over : OpensAllOver rack area (limit_of geometry) group next held leaves counts below

-- all records were read, and aren't those of one pool: this is the first fault
pub record AreReadApart {R A : Type 0} (rack : racks.Ghosts R) (area : areas.Ghosts A) (geometry : Geometry) (group next : ℕ) (held : Option Held) (leaves : ℕ → Option Shape) (counts : ℕ → KitCounts) (metaslab : Option ℕ) (place : ℕ) (kind : RecordFaultKind) : Type 0 where
  pub shards : List (Shard R A)
  pub reopened : AreReopened rack geometry group shards
  pub over : OpensAllOver rack area (limit_of geometry) group next held leaves counts shards
  pub apart : AreApart shards metaslab place kind

-- an uberblock was found, and a record of the group that it names has the fault
pub record ShardIsBad {R A : Type 0} (rack : racks.Ghosts R) (area : areas.Ghosts A) (held : Option Held) (leaves : ℕ → Option Shape) (counts : ℕ → KitCounts) (metaslab : Option ℕ) (place : ℕ) (kind : RecordFaultKind) : Type 0 where
  pub uber : Uber A
  pub found : IsFoundUber area uber
  pub body : TellsBody held uber
  pub bad : OneIsUnread rack area (layout_of uber) (group_of (kept_of uber)) (next_leaf_of uber) (takes_areas held) leaves counts metaslab place kind
      ⊎ AreReadApart rack area (layout_of uber) (group_of (kept_of uber)) (next_leaf_of uber) (takes_areas held) leaves counts metaslab place kind

-- which record has it: it is the first fault that an import looks for
abbrev pub RecordIsBad : {R A : Type 0} → racks.Ghosts R → areas.Ghosts A → Option Held → (ℕ → Option Shape) → (ℕ → KitCounts) → Option ℕ → ℕ → RecordFaultKind → Type 0
RecordIsBad rack area held leaves counts metaslab place kind = UberIsBad held metaslab place kind ⊎ ShardIsBad rack area held leaves counts metaslab place kind
