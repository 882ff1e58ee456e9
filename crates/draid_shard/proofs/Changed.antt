-- What stays in a shard's table of blocks, in its groups and in its arms.
use Rattle.std.proofs.Common.{◌∙◌, refl}
use Rattle.draid_entries.specs.declared.entries.Entries.{Entries}
use Rattle.draid_entries.specs.Entries.{SameEntries}
use Rattle.draid_slots.specs.Changes.{Keeps}
use Rattle.draid_slots.specs.Table.{SlotTable}
use Rattle.draid_shard.specs.Alike.{KeepsArms}

pub same_entries : (t : Entries) → SameEntries t t
same_entries t = record { at = λ first. refl; held = λ key. refl; count = refl; owed = λ columns. refl }

pub same_arms : (slots : SlotTable) → KeepsArms slots slots
same_arms slots = record { same = record { geometry_is = refl; perms_are = refl; metaslab_is = refl }; arms_stay = refl; detached_stay = refl }

pub arms_kept : (old new : SlotTable) → Keeps old new → KeepsArms old new
arms_kept old new kept = record { same = kept.same; arms_stay = kept.arms_stay; detached_stay = kept.detached_stay }

pub arms_then : (old mid new : SlotTable) → KeepsArms old mid → KeepsArms mid new → KeepsArms old new
arms_then old mid new a b = record {
  same = record { geometry_is = b.same.geometry_is ∙ a.same.geometry_is; perms_are = b.same.perms_are ∙ a.same.perms_are; metaslab_is = b.same.metaslab_is ∙ a.same.metaslab_is };
  arms_stay = b.arms_stay ∙ a.arms_stay;
  detached_stay = b.detached_stay ∙ a.detached_stay;
}
