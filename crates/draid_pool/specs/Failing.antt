-- On which areas and racks of a pool a call has failed.
use Rattle.std.specs.Prelude.{◌≡◌, ◌<◌, ◌≤◌, ◌+◌, ◌⊎◌, ℕ, Option, Some, None, length, slice_get}
use Rattle.draid_names.specs.Faults.{Rose}
use Rattle.draid_pool.specs.Groups as sealing
use Rattle.draid_pool.specs.Keeping.{KeepsEach}
use Rattle.draid_shard.specs.declared.shard.Shard.{Shard}
use Rattle.draid_uber.specs.Uber.{count_of}
use Rattle.draid_pool.specs.declared.pool.Pool.{Pool}

-- one has on an area of the pool's own, or on an area of a metaslab's records
abbrev pub AreaFails : {R A : Type 0} → (A → ℕ) → Pool R A → Type 0
AreaFails {R = R} {A = A} faults pool =
    (0 < count_of faults pool.uber) ⊎ ((m : ℕ) × (shard : Shard R A) × (slice_get pool.metaslabs.shards.items m ≡ Some shard) × (0 < faults shard.even + faults shard.odd))

-- one has on the rack of a metaslab as a whole
abbrev pub RackFails : {R A : Type 0} → (R → Option ℕ → ℕ) → Pool R A → Type 0
RackFails {R = R} {A = A} faults pool = (m : ℕ) × (shard : Shard R A) × (slice_get pool.metaslabs.shards.items m ≡ Some shard) × (0 < faults shard.rack None)

-- No count of failed calls falls, neither that of the pool's own areas nor those of a metaslab's records, and no metaslab comes or goes.
pub record AreasLater {R A : Type 0} (faults : A → ℕ) (old new : Pool R A) : Type 0 where
  pub uber : count_of faults old.uber ≤ count_of faults new.uber
  pub many : length new.metaslabs.shards.items ≡ length old.metaslabs.shards.items
  pub shards : (m : ℕ) (before after : Shard R A) → slice_get old.metaslabs.shards.items m ≡ Some before → slice_get new.metaslabs.shards.items m ≡ Some after
      → sealing.AreasLater faults before after

-- the count of one of the two areas of a metaslab's records rose
abbrev pub RecordsRose : {R A : Type 0} → (A → ℕ) → Shard R A → Shard R A → Type 0
RecordsRose faults old new = Rose (faults old.even) (faults new.even) ⊎ Rose (faults old.odd) (faults new.odd)

-- that of the pool's own areas rose, or that of an area of a metaslab's records
abbrev pub AreaRose : {R A : Type 0} → (A → ℕ) → Pool R A → Pool R A → Type 0
AreaRose {R = R} {A = A} faults old new =
    Rose (count_of faults old.uber) (count_of faults new.uber)
    ⊎ ((m : ℕ) × (before : Shard R A) × (after : Shard R A) × (slice_get old.metaslabs.shards.items m ≡ Some before) × (slice_get new.metaslabs.shards.items m ≡ Some after) × RecordsRose faults before after)

-- no count of failed calls on the rack of a metaslab as a whole falls
abbrev pub RacksLater : {R A : Type 0} → (R → Option ℕ → ℕ) → Pool R A → Pool R A → Type 0
RacksLater {R} {A} faults old new = KeepsEach (λ (before : Shard R A) after. faults before.rack None ≤ faults after.rack None) old new
