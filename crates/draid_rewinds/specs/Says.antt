-- What the replies of the commands on the checkpoint say, by the answers of the pool's calls. There is none where a device failed.
use Rattle.std.specs.Prelude.{◌≡◌, ⊤, ℕ, List, Result, Ok, Err}
use Rattle.draid_names.specs.declared.fault.Failed.{Failed}
use Rattle.draid_script.specs.declared.name.CommandName.{CommandName}
use Rattle.draid_script.specs.declared.name.CommandName.TheVariants as name
use Rattle.draid_reply.specs.declared.reply.Reply.{Reply}
use Rattle.draid_reply.specs.declared.reply.Reply.TheVariants as replies
use Rattle.draid_session.specs.Holds.{Hold}
use Rattle.draid_session.specs.State.{State, Store}
use Rattle.draid_pool.specs.declared.fault.SyncFault.{SyncFault}
use Rattle.draid_pool.specs.declared.fault.SyncFault.TheVariants as sync
use Rattle.draid_rewinds.specs.Back.{DiscardDoes, RewindDoes}
use Rattle.draid_rewinds.specs.Taking.{TakeDoes}
use Rattle.draid_rewinds.specs.declared.fault.BackFault.{BackFault}
use Rattle.draid_rewinds.specs.declared.fault.BackFault.TheVariants as back
use Rattle.draid_rewinds.specs.declared.fault.Discarded.{Discarded}
use Rattle.draid_rewinds.specs.declared.fault.Rewound.{Rewound}
use Rattle.draid_rewinds.specs.declared.fault.TakeFault.{TakeFault}
use Rattle.draid_rewinds.specs.declared.fault.TakeFault.TheVariants as take

-- a command's sync was stopped
abbrev pub IsStoppedBy : CommandName → SyncFault → Result Reply Failed → Type 0
IsStoppedBy command sync.Worn said = said ≡ Ok (replies.Worn command)
IsStoppedBy command sync.Last said = said ≡ Ok (replies.Last command)
IsStoppedBy command sync.NoMemory said = said ≡ Ok (replies.NoMemory command)
IsStoppedBy command sync.Shelf (Ok reply) = ⊥
IsStoppedBy command sync.Shelf (Err failed) = ⊤

-- a reply is that of an answer
abbrev pub IsTakeReply : Result ℕ TakeFault → Result Reply Failed → Type 0
IsTakeReply (Ok group) said = said ≡ Ok (replies.Checkpointed group)
IsTakeReply (Err (take.Exists group)) said = said ≡ Ok (replies.CheckpointThere group)
IsTakeReply (Err take.NoMemory) said = said ≡ Ok (replies.NoMemory name.Checkpoint)
IsTakeReply (Err (take.Sync why)) said = IsStoppedBy name.Checkpoint why said

abbrev pub IsRewindReply : Result Rewound BackFault → Result Reply Failed → Type 0
IsRewindReply (Ok it) said = said ≡ Ok (replies.Rewound it.group it.objects)
IsRewindReply (Err back.Nothing) said = said ≡ Ok (replies.NoCheckpoint name.Rewind)
IsRewindReply (Err back.NoMemory) said = said ≡ Ok (replies.NoMemory name.Rewind)
IsRewindReply (Err (back.Sync why)) said = IsStoppedBy name.Rewind why said

abbrev pub IsDiscardReply : Result Discarded BackFault → Result Reply Failed → Type 0
IsDiscardReply (Ok it) said = said ≡ Ok (replies.Discarded it.freed it.group)
IsDiscardReply (Err back.Nothing) said = said ≡ Ok (replies.NoCheckpoint name.Discard)
IsDiscardReply (Err back.NoMemory) said = said ≡ Ok (replies.NoMemory name.Discard)
IsDiscardReply (Err (back.Sync why)) said = IsStoppedBy name.Discard why said

-- the call did what its answer says, and the reply is that of the answer
abbrev pub TakeSays : Result Reply Failed → State → List Hold → Store → Type 0
TakeSays said x holds store = (answer : Result ℕ TakeFault) × IsTakeReply answer said × TakeDoes x answer holds store

abbrev pub RewindSays : Result Reply Failed → State → List Hold → Store → Type 0
RewindSays said x holds store = (answer : Result Rewound BackFault) × IsRewindReply answer said × RewindDoes x answer holds store

abbrev pub DiscardSays : Result Reply Failed → State → List Hold → Store → Type 0
DiscardSays said x holds store = (answer : Result Discarded BackFault) × IsDiscardReply answer said × DiscardDoes x answer holds store
