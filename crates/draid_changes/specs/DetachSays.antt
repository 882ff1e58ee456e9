-- What the reply to a detachment says, by the answer of the pool's call. There is none where a device failed.
use Rattle.std.specs.Prelude.{◌≡◌, ⊤, ℕ, List, Result, Ok, Err}
use Rattle.draid_names.specs.declared.fault.Failed.{Failed}
use Rattle.draid_script.specs.declared.line.ArmArgument.{ArmArgument}
use Rattle.draid_script.specs.declared.name.CommandName.TheVariants as name
use Rattle.draid_reply.specs.declared.reply.Reply.{Reply}
use Rattle.draid_reply.specs.declared.reply.Reply.TheVariants.{DetachLast, DetachRefused, DetachWorn, Detached, NoMemory}
use Rattle.draid_session.specs.Arms.{arm_of}
use Rattle.draid_session.specs.Holds.{Hold}
use Rattle.draid_session.specs.State.{State, Store}
use Rattle.draid_pool.specs.declared.fault.SyncFault.TheVariants as sync
use Rattle.draid_changes.specs.Detaching.{DetachDoes}
use Rattle.draid_changes.specs.declared.detaching.DetachFault.{DetachFault}
use Rattle.draid_changes.specs.declared.detaching.DetachFault.TheVariants as fault

-- a reply is that of an answer
abbrev pub IsDetachReply : ArmArgument → Result ℕ DetachFault → Result Reply Failed → Type 0
IsDetachReply arm (Ok group) said = said ≡ Ok (Detached arm group)
IsDetachReply arm (Err (fault.Slot why)) said = said ≡ Ok (DetachRefused arm why)
IsDetachReply arm (Err (fault.Sync sync.Worn)) said = said ≡ Ok (DetachWorn arm)
IsDetachReply arm (Err (fault.Sync sync.Last)) said = said ≡ Ok (DetachLast arm)
IsDetachReply arm (Err (fault.Sync sync.NoMemory)) said = said ≡ Ok (NoMemory name.Detach)
IsDetachReply arm (Err (fault.Sync sync.Shelf)) (Ok reply) = ⊥
IsDetachReply arm (Err (fault.Sync sync.Shelf)) (Err failed) = ⊤

-- the call did what its answer says, and the reply is that of the answer
abbrev pub DetachSays : ArmArgument → Result Reply Failed → State → List Hold → Store → Type 0
DetachSays arm said x holds store = (answer : Result ℕ DetachFault) × IsDetachReply arm answer said × DetachDoes x (arm_of arm) answer holds store
