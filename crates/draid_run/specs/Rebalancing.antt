-- What a rebalance of a slot does to the open pool, and what its reply says by its answer.
use Rattle.std.specs.Prelude.{◌≡◌, ◌≤◌, ⊤, ℕ, List, [], Result, Ok, Err}
use Rattle.draid_names.specs.declared.fault.Failed.{Failed}
use Rattle.draid_names.specs.declared.pass_kind.PassKind.TheVariants.{Rebuild}
use Rattle.draid_names.specs.declared.refusal.SlotFault.TheVariants as slot_fault
use Rattle.draid_script.specs.Line.{RebalanceSlot}
use Rattle.draid_script.specs.declared.name.CommandName.TheVariants as name
use Rattle.draid_reply.specs.declared.reply.Reply.{Reply}
use Rattle.draid_reply.specs.declared.reply.Reply.TheVariants as replies
use Rattle.draid_session.specs.Balance as balance
use Rattle.draid_session.specs.Balance.{Balance, Halted, balance_of}
use Rattle.draid_session.specs.Holds.{Hold}
use Rattle.draid_session.specs.Passes.{Tally}
use Rattle.draid_session.specs.Phases.{End}
use Rattle.draid_session.specs.State.{State, Store}
use Rattle.draid_pool.specs.Syncing.{end_of}
use Rattle.draid_pool.specs.declared.fault.SyncFault.{SyncFault}
use Rattle.draid_pool.specs.declared.fault.SyncFault.TheVariants as sync
use Rattle.draid_pool.specs.declared.pool.Pool.{Pool}
use Rattle.draid_changes.specs.Behind.{ArmsBehind}
use Rattle.draid_visits.specs.Rebuilding.{IsLowestPass}
use Rattle.draid_visits.specs.Visiting.{NoPasses}
use Rattle.draid_visits.specs.declared.rebuilding.MendFault.{MendFault}
use Rattle.draid_visits.specs.declared.rebuilding.MendFault.TheVariants as mending
use Rattle.draid_run.specs.declared.rebalancing.RebalanceFault.{RebalanceFault}
use Rattle.draid_run.specs.declared.rebalancing.RebalanceFault.TheVariants as fault
use Rattle.draid_run.specs.declared.rebalancing.Rebalanced.{Rebalanced}

-- ---- its parts

-- what is told of the scrub is what it did
pub record IsTold (t : Tally) (it : Rebalanced) : Type 0 where
  pub blocks : t.units ≡ it.blocks
  pub repaired : t.repaired ≡ it.repaired
  pub errors : t.errors ≡ it.errors

abbrev pub stopped_at : SyncFault → End
stopped_at why = end_of {T = ℕ} (Err why)

-- a part of a rebalance, by its answer: what the scrub did, and what became of the slot
abbrev pub PartIs : (List Hold → Tally → Balance → Type 0) → Result Rebalanced SyncFault → List Hold → Type 0
PartIs does (Ok it) holds = (t : Tally) × does holds t (balance_of it.group) × IsTold t it
PartIs does (Err why) holds = (t : Tally) × does holds t (Halted (stopped_at why))

-- a scrub whose pool has no rebuild is stopped by these alone
abbrev pub IsHalt : MendFault → Type 0
IsHalt mending.Worn = ⊤
IsHalt mending.Last = ⊤
IsHalt mending.NoMemory = ⊤
IsHalt why = ⊥

-- ---- the whole

-- the slot was rebalanced, or why not, and nothing else changed that a thread has of its own
abbrev pub RebalanceDoes : State → ℕ → Result Rebalanced RebalanceFault → List Hold → Store → Type 0
RebalanceDoes x slot (Ok it) holds new = (new ≡ x.store) × balance.RebalanceReplies x.geometry x.perms slot it.blocks it.repaired it.errors it.group holds
RebalanceDoes x slot (Err fault.NoSuch) holds new = (new ≡ x.store) × (x.geometry.spec.children ≤ slot) × (holds ≡ [])
RebalanceDoes x slot (Err (fault.PassRunning metaslab number)) holds new = (new ≡ x.store) × balance.FindsRebuild x.geometry x.perms slot holds metaslab number
RebalanceDoes x slot (Err (fault.Stopped why)) holds new = (new ≡ x.store) × balance.RebalanceStops x.geometry x.perms slot holds (stopped_at why)

-- the passes behind it, whatever is known of the pool
abbrev pub RebalanceIs : {R A : Type 0} → Result Rebalanced RebalanceFault → Pool R A → Pool R A → Type 0
RebalanceIs (Ok it) old new = NoPasses new
RebalanceIs (Err fault.NoSuch) old new = new ≡ old
RebalanceIs (Err (fault.PassRunning metaslab number)) old new = (new ≡ old) × IsLowestPass Rebuild metaslab number new
RebalanceIs (Err (fault.Stopped why)) old new = ⊤

-- the arms of the slot behind it: those that the reply tells
abbrev pub SlotIs : {R A : Type 0} → ℕ → Pool R A → Rebalanced → Type 0
SlotIs slot pool it = ArmsBehind (RebalanceSlot slot) (replies.Rebalanced slot it.blocks it.repaired it.errors it.group) pool

-- ---- the reply

-- a reply is that of an answer. There is none where a device failed
abbrev pub IsRebalanceReply : ℕ → Result Rebalanced RebalanceFault → Result Reply Failed → Type 0
IsRebalanceReply slot (Ok it) said = said ≡ Ok (replies.Rebalanced slot it.blocks it.repaired it.errors it.group)
IsRebalanceReply slot (Err fault.NoSuch) said = said ≡ Ok (replies.RebalanceRefused slot slot_fault.NoSuch)
IsRebalanceReply slot (Err (fault.PassRunning metaslab number)) said = said ≡ Ok (replies.RebalanceRefused slot (slot_fault.PassRunning metaslab number))
IsRebalanceReply slot (Err (fault.Stopped sync.Worn)) said = said ≡ Ok (replies.RebalanceWorn slot)
IsRebalanceReply slot (Err (fault.Stopped sync.Last)) said = said ≡ Ok (replies.RebalanceLast slot)
IsRebalanceReply slot (Err (fault.Stopped sync.NoMemory)) said = said ≡ Ok (replies.NoMemory name.Rebalance)
IsRebalanceReply slot (Err (fault.Stopped sync.Shelf)) (Ok reply) = ⊥
IsRebalanceReply slot (Err (fault.Stopped sync.Shelf)) (Err failed) = ⊤

-- the call did what its answer says, and the reply is that of the answer
abbrev pub RebalanceSays : ℕ → Result Reply Failed → State → List Hold → Store → Type 0
RebalanceSays slot said x holds store = (answer : Result Rebalanced RebalanceFault) × IsRebalanceReply slot answer said × RebalanceDoes x slot answer holds store
