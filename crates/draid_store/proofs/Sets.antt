-- Changes of a shard's blocks, one after another.
use Rattle.std.proofs.Common.{◌∙◌, refl}
use Rattle.draid_shard.specs.Changes.{KeepsBlocks, SameGroups}
use Rattle.draid_shard.specs.declared.shard.Shard.{Shard}

same_groups : {R A : Type 0} (shard : Shard R A) → SameGroups shard shard
same_groups shard = record { open_group_is = refl; closing = refl; sealed = refl; committed = refl }

groups_then : {R A : Type 0} (old mid new : Shard R A) → SameGroups old mid → SameGroups mid new → SameGroups old new
groups_then old mid new a b = record {
  open_group_is = b.open_group_is ∙ a.open_group_is;
  closing = b.closing ∙ a.closing;
  sealed = b.sealed ∙ a.sealed;
  committed = b.committed ∙ a.committed;
}

-- ---- nothing changes

pub kept_still : {R A : Type 0} (shard : Shard R A) → KeepsBlocks shard shard
kept_still shard = record {
  entries = record { at = λ first. refl; held = λ key. refl; count = refl; owed = λ columns. refl };
  groups = record { open_group_is = refl; closing = refl; sealed = refl; committed = refl };
}

pub kept_then : {R A : Type 0} (old mid new : Shard R A) → KeepsBlocks old mid → KeepsBlocks mid new → KeepsBlocks old new
kept_then old mid new a b = record {
  entries = record {
    at = λ first. b.entries.at first ∙ a.entries.at first;
    held = λ key. b.entries.held key ∙ a.entries.held key;
    count = b.entries.count ∙ a.entries.count;
    owed = λ columns. b.entries.owed columns ∙ a.entries.owed columns;
  };
  groups = groups_then old mid new a.groups b.groups;
}
