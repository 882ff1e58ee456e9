-- What the replies of the commands on arms say, by the answers of the pool's calls. There is none where a device failed.
use Rattle.std.specs.Prelude.{⊤, ◌≡◌, ℕ, Bool, true, false, List, Option, Result, Ok, Err, string_bytes}
use Rattle.std.specs.declared.alloc.Global.{Global}
use Rattle.std.specs.declared.string.String.{String}
use Rattle.draid_names.specs.declared.fault.Failed.{Failed}
use Rattle.draid_names.specs.declared.refusal.SlotFault.{SlotFault}
use Rattle.draid_script.specs.declared.name.CommandName.{CommandName}
use Rattle.draid_script.specs.declared.name.CommandName.TheVariants as name
use Rattle.draid_spec.specs.Name.{spare_name_of}
use Rattle.draid_spec.specs.declared.spec.Spec.{Spec}
use Rattle.draid_reply.specs.declared.reply.Reply.{Reply}
use Rattle.draid_reply.specs.declared.reply.Reply.TheVariants.{NoMemory, OfflineDone, OfflineRefused, OfflineWorn, OnlineDone, OnlineRefused, OnlineWorn, Spared, SpareRefused, SpareWorn, Replaced, ReplaceRefused, ReplaceWorn}
use Rattle.draid_session.specs.Holds.{Hold}
use Rattle.draid_session.specs.State.{State, Store}
use Rattle.draid_changes.specs.Answers.{ReplaceDoes, SpareDoes, SwitchDoes}
use Rattle.draid_changes.specs.declared.fault.ArmFault.{ArmFault}
use Rattle.draid_changes.specs.declared.fault.ArmFault.TheVariants as fault

-- a reply is that of an answer: by what a command replies where the change was made, where a rule is broken, and where a metaslab is worn
abbrev pub IsReplyBy : {T : Type 0} → CommandName → (T → Reply → Type 0) → (SlotFault → Reply) → Reply → Result T ArmFault → Result Reply Failed → Type 0
IsReplyBy command IsDone refused worn (Ok it) said = (reply : Reply) × (said ≡ Ok reply) × IsDone it reply
IsReplyBy command IsDone refused worn (Err (fault.Slot why)) said = said ≡ Ok (refused why)
IsReplyBy command IsDone refused worn (Err fault.Worn) said = said ≡ Ok worn
IsReplyBy command IsDone refused worn (Err fault.NoMemory) said = said ≡ Ok (NoMemory command)
IsReplyBy command IsDone refused worn (Err fault.Shelf) (Ok reply) = ⊥
IsReplyBy command IsDone refused worn (Err fault.Shelf) (Err failed) = ⊤

-- ---- offline, online

abbrev pub IsSwitchReply : ℕ → Bool → Result Unit ArmFault → Result Reply Failed → Type 0
IsSwitchReply leaf true = IsReplyBy name.Offline (λ done reply. reply ≡ OfflineDone leaf) (λ why. OfflineRefused leaf) (OfflineWorn leaf)
IsSwitchReply leaf false = IsReplyBy name.Online (λ done reply. reply ≡ OnlineDone leaf) (λ why. OnlineRefused leaf) (OnlineWorn leaf)

-- the call did what its answer says, and the reply is that of the answer
abbrev pub SwitchSays : ℕ → Bool → Result Reply Failed → State → List Hold → Store → Type 0
SwitchSays leaf offline said x holds store = (answer : Result Unit ArmFault) × IsSwitchReply leaf offline answer said × SwitchDoes x leaf offline answer holds store

-- ---- spare

-- the reply has the name that a layout gives the spare
abbrev pub IsSpared : Spec → ℕ → ℕ → Reply → Type 0
IsSpared spec slot spare reply = (called : String Global) × (reply ≡ Spared slot called) × (string_bytes called ≡ spare_name_of spec spare)

abbrev pub IsSpareReply : Spec → ℕ → ℕ → Result Unit ArmFault → Result Reply Failed → Type 0
IsSpareReply spec slot spare = IsReplyBy name.Spare (λ done reply. IsSpared spec slot spare reply) (λ why. SpareRefused slot why) (SpareWorn slot)

abbrev pub SpareSays : ℕ → ℕ → Result Reply Failed → State → List Hold → Store → Type 0
SpareSays slot spare said x holds store = (answer : Result Unit ArmFault) × IsSpareReply x.geometry.spec slot spare answer said × SpareDoes x slot spare answer holds store

-- ---- replace

abbrev pub IsReplaceReply : ℕ → Result ℕ ArmFault → Result Reply Failed → Type 0
IsReplaceReply slot = IsReplyBy name.Replace (λ leaf reply. reply ≡ Replaced slot leaf) (λ why. ReplaceRefused slot why) (ReplaceWorn slot)

abbrev pub ReplaceSays : ℕ → Option ℕ → Result Reply Failed → State → List Hold → Store → Type 0
ReplaceSays slot sectors said x holds store = (answer : Result ℕ ArmFault) × IsReplaceReply slot answer said × ReplaceDoes x slot sectors answer holds store
