-- What a call changes in a shard's table of blocks, whatever its state.
use Rattle.std.specs.Prelude.{◌≡◌, Option}
use Rattle.draid_names.specs.declared.pointer.Pointer.{Pointer}
use Rattle.draid_entries.specs.declared.entry.Entry.{Entry}
use Rattle.draid_entries.specs.Entries.{SameEntries, SetsEntry}
use Rattle.draid_shard.specs.Alike.{KeepsArms}
use Rattle.draid_shard.specs.States.{DoesNone}
use Rattle.draid_shard.specs.declared.shard.Shard.{Shard}

-- the groups are as they were
pub record SameGroups {R A : Type 0} (old new : Shard R A) : Type 0 where
  pub open_group_is : new.open_group ≡ old.open_group
  pub closing : new.closing ≡ old.closing
  pub sealed : new.sealed ≡ old.sealed
  pub committed : new.committed ≡ old.committed

-- a pointer leads to this block or ticket now, or to none, and all else is as it was but logs
pub record SetsBlock {R A : Type 0} (old new : Shard R A) (pointer : Pointer) (now : Option Entry) : Type 0 where
  pub entry : SetsEntry old.entries new.entries pointer now
  pub groups : SameGroups old new
  pub slots : KeepsArms old.slots new.slots

-- all blocks, tickets and groups are as they were
pub record KeepsBlocks {R A : Type 0} (old new : Shard R A) : Type 0 where
  pub entries : SameEntries old.entries new.entries
  pub groups : SameGroups old new

-- a call did no event, and all blocks, tickets, groups and arms are as they were
pub record DoesNothing {R A : Type 0} (old new : Shard R A) : Type 0 where
  pub none : DoesNone old new
  pub keeps : KeepsBlocks old new
  pub slots : KeepsArms old.slots new.slots
