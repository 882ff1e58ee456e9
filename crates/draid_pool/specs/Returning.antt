-- What a shelf holds of a pool that was given back to it.
use Rattle.std.specs.Prelude.{◌≡◌, ◌≤◌, ⊤, ℕ, Bool, false, List, Option, Some, None, MatchOption, IsSome, IsSomeAnd, length, slice_get, ◌<◌, ◌+◌, ◌⊎◌}
use Rattle.draid_rack.specs.Rack.{Shape}
use Rattle.draid_rack.specs.declared.Rack as racks
use Rattle.draid_area.specs.Area.{Content}
use Rattle.draid_area.specs.declared.Area as areas
use Rattle.draid_map.specs.Place.{IsLayout}
use Rattle.draid_machine.specs.Created.{IsReached}
use Rattle.draid_machine.specs.Images.{IsImage}
use Rattle.draid_machine.specs.State.{Image}
use Rattle.draid_layouts.specs.Layout.{layout_of}
use Rattle.draid_segments.specs.Segments.{Backed, Pieces}
use Rattle.draid_shelf.specs.Kits.{CheckCounts, ChecksTold, Held, KitCounts, KitTold, OnHeld, kit_of}
use Rattle.draid_stable.specs.Kits.{IsStable}
use Rattle.draid_pool.specs.Groups.{at_version}
use Rattle.draid_shard.specs.declared.shard.Shard.{Shard}
use Rattle.draid_uber.specs.Checks.{AreasTold}
use Rattle.draid_session.specs.State.{Counts, Metaslab, State}
use Rattle.draid_pool.specs.Importable.{IsImportable}
use Rattle.draid_pool.specs.Objects.{HoldsObjects, blocks_of}
use Rattle.draid_pool.specs.Records.{HasImages, HasLeafNumbers}
use Rattle.draid_pool.specs.Ubers.{UberStands}
use Rattle.draid_pool.specs.Bytes.{KnowsBlocks}

-- ---- kits

-- what the devices of a shard tell
abbrev pub kit_in : {R A : Type 0} → racks.Ghosts R → areas.Ghosts A → Shard R A → Option KitTold
kit_in rack area shard = kit_of (rack.told shard.rack) (area.told shard.even) (area.told shard.odd)

-- the counts are the same
pub record SameCounts (x : Counts) (counts : KitCounts) : Type 0 where
  pub rack : (who : Option ℕ) → counts.rack who ≡ x.rack who
  pub even : counts.even ≡ x.even
  pub odd : counts.odd ≡ x.odd

-- ---- the pool's own areas

-- what they tell, those of the check records with that of the uberblock
abbrev pub areas_told : Content → ChecksTold → AreasTold
areas_told uber checks = record { uber = Some uber; even = Some checks.even; odd = Some checks.odd }

-- They are held, as calls and crashes left them. An import finds one of the groups of the uberblock there, and its check record.
abbrev pub HoldsAreas : State → Held → Type 0
HoldsAreas x held = IsSomeAnd held.uber (λ uber. IsSomeAnd held.checks (λ checks. UberStands x (areas_told uber checks)))

-- how often calls on them have failed
pub record OwnCounts : Type 0 where
  pub uber : ℕ
  pub checks : CheckCounts

abbrev pub own_count : OwnCounts → ℕ
own_count own = own.uber + (own.checks.even + own.checks.odd)

-- ---- the pool

-- A metaslab's devices are held. Each image that an import may find outlasts each crash of them; harm is as the metaslab has it.
pub record RestsOn (x : State) (m : ℕ) (pieces : Pieces) (y : Metaslab) (kit : KitTold) : Type 0 where
  pub reached : IsReached (layout_of x.geometry x.perms m) y.world
  pub images : (image : Image) → IsImage y.world image
      → IsStable (at_version image.version x.geometry) m (layout_of x.geometry x.perms m) pieces image y.world.aside kit
  pub harm : IsSomeAnd y.harm (λ harm. (leaf sector : ℕ) → kit.rack.harmed leaf sector ≡ harm leaf sector)
  pub bytes : KnowsBlocks x.geometry pieces y.world.core.held

-- All devices of a pool are held, as calls and crashes left them. An import finds one of the groups of its uberblock, of which each metaslab has an image and its
-- record. The pieces are those of what befell the objects.
pub record Rests (x : State) (pieces : ℕ → Pieces) (held : Held) : Type 0 where
  pub layout : IsLayout x.geometry x.perms
  pub uber : HoldsAreas x held
  pub many : length x.metaslabs ≡ x.geometry.props.metaslabs
  pub kits : (m : ℕ) (y : Metaslab) → slice_get x.metaslabs m ≡ Some y → IsSomeAnd (held.kits m) (RestsOn x m (pieces m) y)
  pub images : HasImages x
  pub leaves : HasLeafNumbers x
  pub objects : HoldsObjects x.geometry x.committed x.store (blocks_of x.metaslabs) pieces

-- each rack has what the metaslab's state says of blocks with these pieces
abbrev pub IsBacked : State → (ℕ → Pieces) → Held → Type 0
IsBacked x pieces held = (m : ℕ) (y : Metaslab) → slice_get x.metaslabs m ≡ Some y
    → IsSomeAnd (held.kits m) (λ kit. Backed (layout_of x.geometry x.perms m) (pieces m) y.world kit.rack)

-- the pool is held; where no crash came, all that its states say is on the racks
pub record HoldsPool (x : State) (crash : Bool) (held : Held) : Type 0 where
  pub pieces : ℕ → Pieces
  pub rests : Rests x pieces held
  pub backed : crash ≡ false → IsBacked x pieces held

-- The pool of a state was given back to a shelf, with a crash or without one. Where that tells, it holds the pool; and it has the pool's counts. No record has a fault to an import, where the shelf has these leaves.
pub record GivesBack (x : State) (crash : Bool) (new : Option Held) (leaves : ℕ → Option Shape) (counts : ℕ → KitCounts) (own : OwnCounts) : Type 0 where
  pub held : OnHeld new (HoldsPool x crash)
  pub importable : OnHeld new (λ held. IsImportable x held leaves)
  pub counted : (m : ℕ) (y : Metaslab) → slice_get x.metaslabs m ≡ Some y → SameCounts y.counts (counts m)
  pub uber : own_count own ≡ x.uber_count

-- ---- a crash

-- no byte of an area is soft
abbrev pub IsFirmArea : Content → Type 0
IsFirmArea content = (i : ℕ) → content.soft i ≡ false

-- nothing of the devices of a metaslab is soft
pub record IsFirmKit (kit : KitTold) : Type 0 where
  pub rack : (leaf sector : ℕ) → kit.rack.soft leaf sector ≡ false
  pub even : IsFirmArea kit.even
  pub odd : IsFirmArea kit.odd

-- nothing that is held is soft
pub record IsFirm (held : Held) : Type 0 where
  pub uber : MatchOption held.uber ⊤ IsFirmArea
  pub checks : MatchOption held.checks ⊤ (λ checks. IsFirmArea checks.even × IsFirmArea checks.odd)
  pub kits : (m : ℕ) → MatchOption (held.kits m) ⊤ IsFirmKit

-- ---- shards

-- The kits of shards are held, each as that of its place, and those of other places are as before.
pub record TakesBack {R A : Type 0} (rack : racks.Ghosts R) (area : areas.Ghosts A) (shards : List (Shard R A)) (old new : Held) : Type 0 where
  pub uber : new.uber ≡ old.uber
  pub checks : new.checks ≡ old.checks
  pub kits : (m : ℕ) (shard : Shard R A) → slice_get shards m ≡ Some shard → (kit : KitTold) × (kit_in rack area shard ≡ Some kit) × (new.kits m ≡ Some kit)
  pub others : (m : ℕ) → length shards ≤ m → new.kits m ≡ old.kits m

-- the devices of each of some shards tell
abbrev pub AllTell : {R A : Type 0} → racks.Ghosts R → areas.Ghosts A → List (Shard R A) → Type 0
AllTell {R} {A} rack area shards = (m : ℕ) (shard : Shard R A) → slice_get shards m ≡ Some shard → IsSome (kit_in rack area shard)

-- The kits of shards were given to a shelf, which has their counts, and tells where it did and they do.
pub record Returns {R A : Type 0} (rack : racks.Ghosts R) (area : areas.Ghosts A) (shards : List (Shard R A)) (old new : Option Held) (before after : ℕ → KitCounts) : Type 0 where
  pub held : OnHeld new (λ y. MatchOption old ⊥ (λ x. TakesBack rack area shards x y))
  pub tells : IsSome old → AllTell rack area shards → IsSome new
  pub rack_count : (m : ℕ) (shard : Shard R A) (who : Option ℕ) → slice_get shards m ≡ Some shard → (after m).rack who ≡ rack.faults shard.rack who
  pub even_count : (m : ℕ) (shard : Shard R A) → slice_get shards m ≡ Some shard → (after m).even ≡ area.faults shard.even
  pub odd_count : (m : ℕ) (shard : Shard R A) → slice_get shards m ≡ Some shard → (after m).odd ≡ area.faults shard.odd
  pub others : (m : ℕ) → length shards ≤ m → after m ≡ before m

-- A shelf to which the kits of shards were given has the leaves of their racks, and those of other places are as before.
pub record ReturnsLeaves {R A : Type 0} (rack : racks.Ghosts R) (shards : List (Shard R A)) (before after : ℕ → Option Shape) : Type 0 where
  pub own : (m : ℕ) (shard : Shard R A) → slice_get shards m ≡ Some shard → after m ≡ Some (rack.shape shard.rack)
  pub others : (m : ℕ) → length shards ≤ m → after m ≡ before m

-- a call on the rack of a metaslab as a whole has failed
abbrev pub RackFailed : (ℕ → KitCounts) → Type 0
RackFailed kits = (m : ℕ) × (0 < (kits m).rack None)

-- a call on an area of the pool's own, or on an area of a metaslab's records, has failed
abbrev pub AreaFailed : (ℕ → KitCounts) → OwnCounts → Type 0
AreaFailed kits own = ((m : ℕ) × (0 < (kits m).even + (kits m).odd)) ⊎ (0 < own_count own)
