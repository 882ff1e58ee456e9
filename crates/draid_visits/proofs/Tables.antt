-- The blocks and arms of a metaslab that calls leave.
use Rattle.std.proofs.Common.{◌≡◌, ◌∙◌, ℕ, Option, refl, sym, ap, subst, arith}
use Rattle.draid_entries.specs.Entries.{SameEntries}
use Rattle.draid_entries.specs.History.{reserved_of}
use Rattle.draid_entries.specs.declared.entries.Entries.{Entries}
use Rattle.draid_shard.specs.Alike.{KeepsArms, ShareArms}
use Rattle.draid_shard.specs.Calls.{SameReserve}
use Rattle.draid_shard.specs.Changes.{KeepsBlocks, SameGroups}
use Rattle.draid_shard.specs.Fits.{IsLeaf}
use Rattle.draid_shard.specs.States.{part_of}
use Rattle.draid_shard.specs.declared.loan.KeptLoan.{KeptLoan}
use Rattle.draid_shard.specs.declared.shard.Shard.{Shard}
use Rattle.draid_shard.proofs.Changed.{arms_then, same_arms, same_entries}
use Rattle.draid_pool.specs.Drifts.{KeepsGroups}
use Rattle.draid_pool.specs.Syncing.{KeepsTable}
use Rattle.draid_pool.proofs.Arms.{leaf_kept, shares_kept}
use Rattle.draid_pool.proofs.Drifting.{groups_by}
use Rattle.draid_visits.specs.Steps.{SharesTable}

-- what stays
table_kept : {R A : Type 0} (old new : Shard R A) → part_of new ≡ part_of old → KeepsBlocks old new → KeepsArms old.slots new.slots → KeepsTable old new
table_kept old new part keeps arms = record { part = part; entries = keeps.entries; committed = keeps.groups.committed; opens = (let same = keeps.groups.open_group_is in omega (arith, same)); slots = arms }

-- another loan
table_loan : {R A : Type 0} (shard : Shard R A) (kept : Option KeptLoan) → KeepsTable shard (record shard { kept = kept })
table_loan shard kept = record { part = refl; entries = same_entries shard.entries; committed = refl; opens = omega arith; slots = same_arms shard.slots }

closing_loan : {R A : Type 0} (old new : Shard R A) → new ≡ record old { kept = new.kept } → new.closing ≡ old.closing
closing_loan {R} {A} old new only = ap (λ (z : Shard R A). z.closing) only

entries_then : (a b c : Entries) → SameEntries a b → SameEntries b c → SameEntries a c
entries_then a b c one two = record {
  at = λ first. two.at first ∙ one.at first;
  held = λ key. two.held key ∙ one.held key;
  count = two.count ∙ one.count;
  owed = λ columns. two.owed columns ∙ one.owed columns;
}

-- one call behind another
table_then : {R A : Type 0} (a b c : Shard R A) → KeepsTable a b → KeepsTable b c → KeepsTable a c
table_then a b c one two = record {
  part = two.part ∙ one.part;
  entries = entries_then a.entries b.entries c.entries one.entries two.entries;
  committed = two.committed ∙ one.committed;
  opens = (let first = one.opens in let second = two.opens in omega (arith, first, second));
  slots = arms_then a.slots b.slots c.slots one.slots two.slots;
}

shares_table : {R A : Type 0} (old new : Shard R A) → new.closing ≡ old.closing → KeepsTable old new → SharesTable old new
shares_table old new closing table = record {
  part = table.part;
  entries = table.entries;
  committed = table.committed;
  closing = closing;
  opens = table.opens;
  slots = shares_kept old.slots new.slots table.slots;
  leaves = λ leaf is. leaf_kept old.slots new.slots leaf table.slots is;
}

pub shares_arms : {R A : Type 0} (old new : Shard R A) → part_of new ≡ part_of old → KeepsBlocks old new → ShareArms old.slots new.slots → ((leaf : ℕ) → IsLeaf new.slots leaf → IsLeaf old.slots leaf) → SharesTable old new
shares_arms old new part keeps arms leaves = record {
  part = part;
  entries = keeps.entries;
  committed = keeps.groups.committed;
  closing = keeps.groups.closing;
  opens = (let same = keeps.groups.open_group_is in omega (arith, same));
  slots = arms;
  leaves = leaves;
}

-- a hold left blocks, groups and arms, but for whether a pass has made these good
pub shares_by : {R A : Type 0} (old new : Shard R A) → part_of new ≡ part_of old → KeepsBlocks old new → KeepsGroups old new → SharesTable old new
shares_by old new part keeps groups = shares_arms old new part keeps groups.arms groups.leaves

-- nothing changed
pub shares_same : {R A : Type 0} (shard : Shard R A) → SharesTable shard shard
shares_same shard = shares_table shard shard refl (record { part = refl; entries = same_entries shard.entries; committed = refl; opens = omega arith; slots = same_arms shard.slots })

-- a stripe was lent, solved and landed
pub table_landed : {R A : Type 0} (old lent solved new : Shard R A) → part_of lent ≡ part_of old → KeepsBlocks old lent → KeepsArms old.slots lent.slots → solved ≡ record lent { kept = solved.kept } → part_of new ≡ part_of solved
    → KeepsBlocks solved new → new.slots ≡ solved.slots → SharesTable old new
table_landed old lent solved new part keeps arms only then_part then_keeps slots =
    shares_table old new (then_keeps.groups.closing ∙ (closing_loan lent solved only ∙ keeps.groups.closing))
    (table_then old lent new (table_kept old lent part keeps arms)
    (table_then lent solved new (subst (KeepsTable lent) (sym only) (table_loan lent solved.kept))
    (table_kept solved new then_part then_keeps (subst (KeepsArms solved.slots) (sym slots) (same_arms solved.slots)))))

-- a block was lent, and not restored
pub table_stays : {R A : Type 0} (old lent solved : Shard R A) → part_of lent ≡ part_of old → KeepsBlocks old lent → KeepsArms old.slots lent.slots → solved ≡ record lent { kept = solved.kept } → SharesTable old solved
table_stays old lent solved part keeps arms only =
    shares_table old solved (closing_loan lent solved only ∙ keeps.groups.closing) (table_then old lent solved (table_kept old lent part keeps arms) (subst (KeepsTable lent) (sym only) (table_loan lent solved.kept)))

-- ---- the groups

groups_then : {R A : Type 0} (a b c : Shard R A) → SameGroups a b → SameGroups b c → SameGroups a c
groups_then a b c one two = record {
  open_group_is = two.open_group_is ∙ one.open_group_is;
  closing = two.closing ∙ one.closing;
  sealed = two.sealed ∙ one.sealed;
  committed = two.committed ∙ one.committed;
}

groups_loan : {R A : Type 0} (shard : Shard R A) (kept : Option KeptLoan) → SameGroups shard (record shard { kept = kept })
groups_loan shard kept = record { open_group_is = refl; closing = refl; sealed = refl; committed = refl }

-- a call left blocks and arms
pub groups_left : {R A : Type 0} (old new : Shard R A) → KeepsBlocks old new → KeepsArms old.slots new.slots → SameReserve old new → KeepsGroups old new
groups_left old new keeps arms reserve = groups_by old new keeps.groups arms reserve.reserved

-- a pass ended: arms may have been made good
pub groups_ended : {R A : Type 0} (old new : Shard R A) → KeepsBlocks old new → ShareArms old.slots new.slots → ((leaf : ℕ) → IsLeaf new.slots leaf → IsLeaf old.slots leaf) → SameReserve old new → KeepsGroups old new
groups_ended old new keeps arms leaves reserve = record { groups = keeps.groups; arms = arms; leaves = leaves; reserve = reserve.reserved }

module _ {R A : Type 0} (old lent solved : Shard R A) (keeps : KeepsBlocks old lent) (arms : KeepsArms old.slots lent.slots) (reserve : SameReserve old lent) (only : solved ≡ record lent { kept = solved.kept }) where
  groups_solved : SameGroups old solved
  groups_solved = groups_then old lent solved keeps.groups (subst (SameGroups lent) (sym only) (groups_loan lent solved.kept))

  arms_solved : KeepsArms old.slots solved.slots
  arms_solved = subst (KeepsArms old.slots) (sym (ap (λ (z : Shard R A). z.slots) only)) arms

  reserve_solved : reserved_of solved.history ≡ reserved_of old.history
  reserve_solved = ap (λ (z : Shard R A). reserved_of z.history) only ∙ reserve.reserved

  -- a block was lent, and not restored
  pub groups_stay : KeepsGroups old solved
  groups_stay = groups_by old solved groups_solved arms_solved reserve_solved

  -- a stripe or a block was lent, solved and landed
  pub groups_landed : (new : Shard R A) → KeepsBlocks solved new → new.slots ≡ solved.slots → SameReserve solved new → KeepsGroups old new
  groups_landed new then_keeps slots then_reserve =
      groups_by old new (groups_then old solved new groups_solved then_keeps.groups) (subst (KeepsArms old.slots) (sym slots) arms_solved) (then_reserve.reserved ∙ reserve_solved)
