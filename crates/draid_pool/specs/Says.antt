-- What the reply of a sync says, by the answer of the pool's call.
use Rattle.std.specs.Prelude.{◌≡◌, ⊤, List, Result, Ok, Err}
use Rattle.draid_names.specs.declared.fault.Failed.{Failed}
use Rattle.draid_script.specs.declared.name.CommandName.TheVariants as name
use Rattle.draid_reply.specs.declared.reply.Reply.{Reply}
use Rattle.draid_reply.specs.declared.reply.Reply.TheVariants as replies
use Rattle.draid_session.specs.Holds.{Hold}
use Rattle.draid_session.specs.State.{State, Store}
use Rattle.draid_pool.specs.Syncing.{SyncDoes}
use Rattle.draid_pool.specs.declared.fault.SyncFault.{SyncFault}
use Rattle.draid_pool.specs.declared.fault.SyncFault.TheVariants as fault
use Rattle.draid_pool.specs.declared.fault.Synced.{Synced}

-- a reply is that of an answer. There is none where a device failed
abbrev pub IsSyncReply : Result Synced SyncFault → Result Reply Failed → Type 0
IsSyncReply (Ok it) said = said ≡ Ok (replies.Synced it.group it.thin)
IsSyncReply (Err fault.Worn) said = said ≡ Ok (replies.Worn name.Sync)
IsSyncReply (Err fault.Last) said = said ≡ Ok (replies.Last name.Sync)
IsSyncReply (Err fault.NoMemory) said = said ≡ Ok (replies.NoMemory name.Sync)
IsSyncReply (Err fault.Shelf) (Ok reply) = ⊥
IsSyncReply (Err fault.Shelf) (Err failed) = ⊤

-- the call did what its answer says, and the reply is that of the answer
abbrev pub SyncSays : Result Reply Failed → State → List Hold → Store → Type 0
SyncSays said x holds store = (answer : Result Synced SyncFault) × IsSyncReply answer said × SyncDoes x answer holds store
