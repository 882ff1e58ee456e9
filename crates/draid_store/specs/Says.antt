-- What the replies of the commands on objects say, by the answers of the pool's calls.
use Rattle.std.specs.Prelude.{◌≡◌, ℕ, List, Result, Ok, Err}
use Rattle.std.specs.declared.vec.Vec.{Vec}
use Rattle.std.specs.declared.alloc.Global.{Global}
use Rattle.draid_names.specs.declared.refusal.ObjectFault.{ObjectFault}
use Rattle.draid_names.specs.declared.refusal.ObjectFault.TheVariants as object
use Rattle.draid_script.specs.declared.name.CommandName.TheVariants as name
use Rattle.draid_reply.specs.declared.reply.Reply.{Reply}
use Rattle.draid_reply.specs.declared.reply.Reply.TheVariants.{NoMemory, Contents, NoObject, Unreadable, ReadWorn, Summed, SumRefused, Freed, FreeNoObject, Damaged, DamageRefused, DamageFailed, DamageWorn}
use Rattle.draid_session.specs.Holds.{Hold}
use Rattle.draid_session.specs.State.{State, Store}
use Rattle.draid_store.specs.Answers.{DamageDoes, FreeDoes, ReadDoes, SumDoes}
use Rattle.draid_store.specs.declared.fault.DamageFault.{DamageFault}
use Rattle.draid_store.specs.declared.fault.DamageFault.TheVariants as damaged
use Rattle.draid_store.specs.declared.fault.FreeFault.{FreeFault}
use Rattle.draid_store.specs.declared.fault.SumFault.{SumFault}

abbrev pub read_reply : ℕ → Result (Vec ℕ Global) ObjectFault → Reply
read_reply o (Ok bytes) = Contents o bytes
read_reply o (Err object.NoObject) = NoObject o
read_reply o (Err (object.Unreadable absent tried)) = Unreadable o absent tried
read_reply o (Err object.Worn) = ReadWorn o
read_reply o (Err object.NoMemory) = NoMemory name.Read

abbrev pub free_reply : ℕ → Result Unit FreeFault → Reply
free_reply o (Ok done) = Freed o
free_reply o (Err fault) = FreeNoObject o

abbrev pub sum_reply : ℕ → ℕ → Result (List ℕ) SumFault → Reply
sum_reply first count (Ok digest) = Summed first count digest
sum_reply first count (Err fault) = SumRefused fault.object fault.why

abbrev pub damage_reply : ℕ → ℕ → Result Unit DamageFault → Reply
damage_reply leaf sector (Ok done) = Damaged leaf sector
damage_reply leaf sector (Err damaged.NoSuch) = DamageRefused leaf sector
damage_reply leaf sector (Err damaged.Worn) = DamageWorn leaf sector
damage_reply leaf sector (Err damaged.Failed) = DamageFailed leaf sector
damage_reply leaf sector (Err damaged.NoMemory) = NoMemory name.Damage

-- the call did what its answer says, and the reply is that of the answer
abbrev pub ReadSays : ℕ → Reply → State → List Hold → Store → Type 0
ReadSays o reply x holds store = (answer : Result (Vec ℕ Global) ObjectFault) × (reply ≡ read_reply o answer) × ReadDoes x o answer holds store

abbrev pub FreeSays : ℕ → Reply → State → List Hold → Store → Type 0
FreeSays o reply x holds store = (answer : Result Unit FreeFault) × (reply ≡ free_reply o answer) × FreeDoes x o answer holds store

abbrev pub SumSays : ℕ → ℕ → Reply → State → List Hold → Store → Type 0
SumSays first count reply x holds store = (answer : Result (List ℕ) SumFault) × (reply ≡ sum_reply first count answer) × SumDoes x first count answer holds store

abbrev pub DamageSays : ℕ → ℕ → Reply → State → List Hold → Store → Type 0
DamageSays leaf sector reply x holds store = (answer : Result Unit DamageFault) × (reply ≡ damage_reply leaf sector answer) × DamageDoes x leaf sector answer holds store
