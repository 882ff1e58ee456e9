-- What a call changes in the groups of a shard, whatever its state.
use Rattle.std.specs.Prelude.{◌≡◌, ◌+◌, ℕ, true, false, Some, None}
use Rattle.draid_entries.specs.Entries.{SameEntries}
use Rattle.draid_shard.specs.declared.shard.Shard.{Shard}
use Rattle.draid_pool.specs.Committing.{DropsFreed}

-- the open group is closed, and the next one is open
pub record ClosesGroup {R A : Type 0} (old new : Shard R A) (group : ℕ) : Type 0 where
  pub entries : SameEntries old.entries new.entries
  pub open_group_is : new.open_group ≡ group + 1
  pub closing : new.closing ≡ Some group
  pub sealed : new.sealed ≡ old.sealed
  pub committed : new.committed ≡ old.committed

-- the closing group is sealed
pub record SealsGroup {R A : Type 0} (old new : Shard R A) : Type 0 where
  pub entries : SameEntries old.entries new.entries
  pub open_group_is : new.open_group ≡ old.open_group
  pub closing : new.closing ≡ old.closing
  pub sealed : new.sealed ≡ true
  pub committed : new.committed ≡ old.committed

-- a group is committed, and what was freed up to it went
pub record CommitsGroup {R A : Type 0} (old new : Shard R A) (group : ℕ) : Type 0 where
  pub entries : DropsFreed group old.entries new.entries
  pub open_group_is : new.open_group ≡ old.open_group
  pub closing : new.closing ≡ None
  pub sealed : new.sealed ≡ false
  pub committed : new.committed ≡ group
