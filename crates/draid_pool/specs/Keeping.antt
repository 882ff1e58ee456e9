-- What a call keeps of each metaslab of a pool, whatever is known of it.
use Rattle.std.specs.Prelude.{◌≡◌, ℕ, Some, length, slice_get}
use Rattle.draid_slots.specs.Changes.{IsSame}
use Rattle.draid_slots.specs.Table.{SlotTable}
use Rattle.draid_shard.specs.declared.shard.Shard.{Shard}
use Rattle.draid_pool.specs.declared.pool.Pool.{Pool}
use Rattle.draid_pool.specs.Pointers.{SamePointers}

-- There are as many metaslabs, and each is to what it was as a relation says.
pub record KeepsEach {R A : Type 0} (keeps : Shard R A → Shard R A → Type 0) (old new : Pool R A) : Type 0 where
  pub many : length new.metaslabs.shards.items ≡ length old.metaslabs.shards.items
  pub each : (m : ℕ) (before after : Shard R A) → slice_get old.metaslabs.shards.items m ≡ Some before → slice_get new.metaslabs.shards.items m ≡ Some after → keeps before after

-- arms are as they were; of what was detached some may have gone, and logs may be others
pub record ArmsStay (old new : SlotTable) : Type 0 where
  pub same : IsSame old new
  pub arms_stay : new.arms ≡ old.arms

-- so in each metaslab
abbrev pub AllArmsStay : {R A : Type 0} → Pool R A → Pool R A → Type 0
AllArmsStay {R} {A} old new = KeepsEach (λ (before : Shard R A) after. ArmsStay before.slots after.slots) old new

-- each asks for the version that it asked for
abbrev pub AllAskedStay : {R A : Type 0} → Pool R A → Pool R A → Type 0
AllAskedStay {R} {A} old new = KeepsEach (λ (before : Shard R A) after. after.asked ≡ before.asked) old new

-- and has it
abbrev pub AllHaveAsked : {R A : Type 0} → Pool R A → Type 0
AllHaveAsked {R} {A} pool = (m : ℕ) (shard : Shard R A) → slice_get pool.metaslabs.shards.items m ≡ Some shard → shard.version ≡ shard.asked

-- A pool is as it was: its objects have the pointers that they had.
pub record SamePool {R A : Type 0} (old new : Pool R A) : Type 0 where
  pub geometry : new.geometry ≡ old.geometry
  pub metaslabs : new.metaslabs.shards.items ≡ old.metaslabs.shards.items
  pub uber : new.uber ≡ old.uber
  pub objects : SamePointers old new
  pub seq : new.own.seq ≡ old.own.seq
  pub floor : new.own.floor ≡ old.own.floor
