use Rattle.std.proofs.Common.{true, ◌≡◌, ℕ, List, Option, arith, inl, inr, subst}
use Rattle.draid_names.specs.declared.arm.ArmKind.TheVariants as kind
use Rattle.draid_names.specs.declared.refusal.SlotFault.{SlotFault}
use Rattle.draid_names.specs.declared.refusal.SlotFault.TheVariants as fault
use Rattle.draid_slots.specs.Faults.{IsAttachRefused, MayAttach}
use Rattle.draid_slots.specs.Table.{SlotTable, is_spare_kind}
use Rattle.draid_shard.specs.declared.shard.Shard.{Shard}
use Rattle.draid_disks.specs.Disks.{arm_called}
use Rattle.draid_pool.proofs.Refusing.{not_both}
use Rattle.draid_changes.specs.Attaching.{IsReplaceBarred, IsSmallFor}
use Rattle.draid_changes.proofs.rules.may_replace.Goals as goal
use Rattle.draid_changes.proofs.rules.may_replace.Goals.{then-leaf-ge-LAST_NUMBER-via-then-leaf-ge-LAST_NUMBER, then-leaf-ge-LAST_NUMBER-via-else-leaf-ge-LAST_NUMBER+then-not-can_replan_all}

-- by the slots
by_slots : {R A : Type 0} (slots : SlotTable) (shards : List (Shard R A)) (slot leaf : ℕ) (sectors : Option ℕ) (why : SlotFault) → IsAttachRefused slots slot (arm_called kind.Leaf leaf) why
    → IsReplaceBarred slots shards slot leaf sectors why
by_slots slots shards slot leaf sectors fault.NoSuch is = is
by_slots slots shards slot leaf sectors (fault.SpareBusy by) is = absurd (let spare : is_spare_kind kind.Leaf ≡ true = is.1 in cc)
by_slots slots shards slot leaf sectors (fault.Full arms) is = is
by_slots slots shards slot leaf sectors fault.Last is = absurd is
by_slots slots shards slot leaf sectors fault.LastArm is = is
by_slots slots shards slot leaf sectors (fault.LogNotEmpty groups) is = is
by_slots slots shards slot leaf sectors (fault.PassRunning metaslab number) is = is
by_slots slots shards slot leaf sectors (fault.TooSmall need have) is = absurd is

-- by the disk
by_disk : {R A : Type 0} (slots : SlotTable) (shards : List (Shard R A)) (slot leaf : ℕ) (sectors : Option ℕ) (why : SlotFault) → MayAttach slots slot (arm_called kind.Leaf leaf) → IsSmallFor slots sectors why
    → IsReplaceBarred slots shards slot leaf sectors why
by_disk slots shards slot leaf sectors fault.NoSuch may is = absurd is
by_disk slots shards slot leaf sectors (fault.SpareBusy by) may is = absurd is
by_disk slots shards slot leaf sectors (fault.Full arms) may is = absurd is
by_disk slots shards slot leaf sectors fault.Last may is = absurd is
by_disk slots shards slot leaf sectors fault.LastArm may is = is
by_disk slots shards slot leaf sectors (fault.LogNotEmpty groups) may is = is
by_disk slots shards slot leaf sectors (fault.PassRunning metaslab number) may is = is
by_disk slots shards slot leaf sectors (fault.TooSmall need have) may is = (may, is)

pub returns-in-Err-clause-refused : goal.returns-in-Err-clause-refused
returns-in-Err-clause-refused g c =
    by_slots c.args.slots.now c.args.shards.now c.args.slot c.args.leaf c.args.sectors c.in-Err.why (subst (λ a. IsAttachRefused c.args.slots.now c.args.slot a c.in-Err.why) c.leaf_arm.ensures c.in-Err.ensures.refused)

pub returns-in-Some-clause-refused : goal.returns-in-Some-clause-refused
returns-in-Some-clause-refused g c =
    by_disk c.args.slots.now c.args.shards.now c.args.slot c.args.leaf c.args.sectors c.in-Some.why (subst (λ a. MayAttach c.args.slots.now c.args.slot a) c.leaf_arm.ensures c.in_default.ensures.allowed) c.in-Some.ensures.some

pub returns-then-leaf-ge-LAST_NUMBER-clause-refused : goal.returns-then-leaf-ge-LAST_NUMBER-clause-refused
returns-then-leaf-ge-LAST_NUMBER-clause-refused g c = (
  subst (λ a. MayAttach c.args.slots.now c.args.slot a) c.leaf_arm.ensures c.in_default.ensures.allowed,
  c.in_default-too_small.ensures.none,
  elim c.then-leaf-ge-LAST_NUMBER.branch [
    | then-leaf-ge-LAST_NUMBER-via-then-leaf-ge-LAST_NUMBER w ↦ inl (let past = w.if-leaf-ge-LAST_NUMBER.true in omega (arith, past))
    | then-leaf-ge-LAST_NUMBER-via-else-leaf-ge-LAST_NUMBER+then-not-can_replan_all w ↦ inr (λ all. not_both w.can_replan_all.result (w.can_replan_all.ensures.1 all) w.if-not-can_replan_all.true)
  ],
)

pub returns-clause-may : goal.returns-clause-may
returns-clause-may g c = record {
  come = record { may = subst (λ a. MayAttach c.args.slots.now c.args.slot a) c.leaf_arm.ensures c.in_default.ensures.allowed; again = c.can_replan_all.ensures.0 c.if-not-can_replan_all.false };
  large = c.in_default-too_small.ensures.none;
  number = (let low = c.if-leaf-ge-LAST_NUMBER.false in omega (arith, low));
}
