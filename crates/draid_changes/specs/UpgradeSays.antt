-- What the reply to an upgrade says, by the answer of the pool's call. There is none where a device failed.
use Rattle.std.specs.Prelude.{◌≡◌, ⊤, ℕ, List, Result, Ok, Err}
use Rattle.draid_names.specs.declared.fault.Failed.{Failed}
use Rattle.draid_script.specs.declared.name.CommandName.TheVariants as name
use Rattle.draid_reply.specs.declared.reply.Reply.{Reply}
use Rattle.draid_reply.specs.declared.reply.Reply.TheVariants.{Last, NoMemory, UpgradeAlready, Upgraded, Worn}
use Rattle.draid_session.specs.Holds.{Hold}
use Rattle.draid_session.specs.State.{State, Store}
use Rattle.draid_pool.specs.declared.fault.SyncFault.TheVariants as sync
use Rattle.draid_changes.specs.Upgrading.{UpgradeDoes}
use Rattle.draid_changes.specs.declared.upgrading.UpgradeFault.{UpgradeFault}
use Rattle.draid_changes.specs.declared.upgrading.UpgradeFault.TheVariants as fault

-- a reply is that of an answer
abbrev pub IsUpgradeReply : Result ℕ UpgradeFault → Result Reply Failed → Type 0
IsUpgradeReply (Ok group) said = said ≡ Ok (Upgraded group)
IsUpgradeReply (Err fault.Already) said = said ≡ Ok UpgradeAlready
IsUpgradeReply (Err (fault.Sync sync.Worn)) said = said ≡ Ok (Worn name.Upgrade)
IsUpgradeReply (Err (fault.Sync sync.Last)) said = said ≡ Ok (Last name.Upgrade)
IsUpgradeReply (Err (fault.Sync sync.NoMemory)) said = said ≡ Ok (NoMemory name.Upgrade)
IsUpgradeReply (Err (fault.Sync sync.Shelf)) (Ok reply) = ⊥
IsUpgradeReply (Err (fault.Sync sync.Shelf)) (Err failed) = ⊤

-- the call did what its answer says, and the reply is that of the answer
abbrev pub UpgradeSays : Result Reply Failed → State → List Hold → Store → Type 0
UpgradeSays said x holds store = (answer : Result ℕ UpgradeFault) × IsUpgradeReply answer said × UpgradeDoes x answer holds store
