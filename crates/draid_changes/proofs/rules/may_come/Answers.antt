use Rattle.std.proofs.Common.{ℕ, List}
use Rattle.draid_names.specs.declared.arm.Arm.{Arm}
use Rattle.draid_names.specs.declared.refusal.SlotFault.{SlotFault}
use Rattle.draid_names.specs.declared.refusal.SlotFault.TheVariants as fault
use Rattle.draid_slots.specs.Faults.{IsAttachRefused}
use Rattle.draid_slots.specs.Table.{SlotTable}
use Rattle.draid_shard.specs.declared.shard.Shard.{Shard}
use Rattle.draid_pool.proofs.Refusing.{not_both}
use Rattle.draid_changes.specs.Attaching.{IsBarred}
use Rattle.draid_changes.proofs.rules.may_come.Goals as goal

pub returns-in-Ok-clause-may : goal.returns-in-Ok-clause-may
returns-in-Ok-clause-may g c = record { may = c.in-Ok.ensures.allowed; again = c.can_replan_all.ensures.0 c.if-can_replan_all.true }

pub returns-in-Ok-2-clause-refused : goal.returns-in-Ok-2-clause-refused
returns-in-Ok-2-clause-refused g c = (c.in-Ok-2.ensures.allowed, λ all. not_both c.can_replan_all.result (c.can_replan_all.ensures.1 all) c.if-can_replan_all.false)

-- by the slots
by_slots : {R A : Type 0} (slots : SlotTable) (shards : List (Shard R A)) (slot : ℕ) (arm : Arm) (why : SlotFault) → IsAttachRefused slots slot arm why → IsBarred slots shards slot arm why
by_slots slots shards slot arm fault.NoSuch is = is
by_slots slots shards slot arm (fault.SpareBusy by) is = is
by_slots slots shards slot arm (fault.Full arms) is = is
by_slots slots shards slot arm fault.Last is = absurd is
by_slots slots shards slot arm fault.LastArm is = is
by_slots slots shards slot arm (fault.LogNotEmpty groups) is = is
by_slots slots shards slot arm (fault.PassRunning metaslab number) is = is
by_slots slots shards slot arm (fault.TooSmall need have) is = is

pub returns-in-Err-clause-refused : goal.returns-in-Err-clause-refused
returns-in-Err-clause-refused g c = by_slots c.args.slots.now c.args.shards.now c.args.slot c.args.arm c.in-Err.why c.in-Err.ensures.refused
