use Rattle.std.specs.Prelude.{⊤, ℕ, Bool, true, false, List, ◌++◌, length, codes, Option, None, Some, string_bytes, encode_utf8}
use Rattle.std.specs.Fmt.{decimal}
use Rattle.hex.specs.Hex.{encode_lower}
use Rattle.draid_script.specs.declared.line.ArmArgument.{ArmArgument}
use Rattle.draid_script.specs.declared.name.CommandName.{CommandName}
use Rattle.draid_script.specs.declared.name.CommandName.TheVariants as name
use Rattle.draid_spec.specs.declared.spec.SpecFault.{SpecFault}
use Rattle.draid_spec.specs.declared.spec.SpecFault.TheVariants as spec
use Rattle.draid_names.specs.declared.refusal.SlotFault.{SlotFault}
use Rattle.draid_names.specs.declared.refusal.SlotFault.TheVariants as slot
use Rattle.draid_names.specs.declared.refusal.WriteFault.{WriteFault}
use Rattle.draid_names.specs.declared.refusal.WriteFault.TheVariants as fill
use Rattle.draid_names.specs.declared.refusal.ObjectFault.{ObjectFault}
use Rattle.draid_names.specs.declared.refusal.ObjectFault.TheVariants as sum
use Rattle.draid_reply.specs.declared.reply.Reply.{Reply}
use Rattle.draid_reply.specs.declared.reply.Reply.TheVariants.{NoPool, PoolOpen, NoMemory, Worn, Last, PassThere, NoCheckpoint, Created, CreateRefused, Imported, Exported, Written, NoSpace, Missed, WriteLast, Filled, FillRefused, Contents, NoObject, Unreadable, ReadWorn, Summed, SumRefused, Freed, FreeNoObject, Synced, OfflineDone, OfflineRefused, OfflineWorn, OnlineDone, OnlineRefused, OnlineWorn, Damaged, DamageRefused, DamageFailed, DamageWorn, Spared, SpareRefused, SpareWorn, Replaced, ReplaceRefused, ReplaceWorn, Detached, DetachRefused, DetachWorn, DetachLast, Rebuilt, RebuildNothing, Scrubbed, Rebalanced, RebalanceRefused, RebalanceWorn, RebalanceLast, Cancelled, Crashed, LanesClash, LanesClashMend, LanesCheckpoint, Upgraded, UpgradeAlready, AgentIdle, Acted, Journal, Checkpointed, CheckpointThere, Rewound, Discarded, Status}
use Rattle.draid_script.specs.Name.{arm_of, name_text}
use Rattle.draid_reply.specs.Agent.{acted_of, journal_of}

-- the first word of a command, and what is said of it
abbrev pub said_of : CommandName → List ℕ → List ℕ
said_of command words = name_text command ++ words

-- a metaslab has a pass that the command may not find
abbrev pub pass_there_of : CommandName → ℕ → ℕ → List ℕ
pass_there_of command metaslab number =
    name_text command ++ (codes " refused 6 metaslab=" ++ (decimal metaslab ++ (codes " number=" ++ (decimal number ++ codes "\n"))))

-- the number of a refusal, and its values
abbrev pub spec_fault_of : SpecFault → List ℕ
spec_fault_of spec.NotDraid = codes "1"
spec_fault_of spec.Parity = codes "2"
spec_fault_of (spec.Number at) = codes "3 at=" ++ decimal at
spec_fault_of (spec.Repeated letter) = codes "4 letter=" ++ encode_utf8 letter
spec_fault_of (spec.Children said given) = codes "5 said=" ++ (decimal said ++ (codes " given=" ++ decimal given))
spec_fault_of (spec.Width need have) = codes "6 need=" ++ (decimal need ++ (codes " have=" ++ decimal have))
spec_fault_of (spec.Limit which value) = codes "7 which=" ++ (encode_utf8 which ++ (codes " value=" ++ decimal value))

abbrev pub slot_fault_of : SlotFault → List ℕ
slot_fault_of slot.NoSuch = codes "1"
slot_fault_of (slot.SpareBusy by) = codes "2 by=" ++ decimal by
slot_fault_of (slot.LogNotEmpty groups) = codes "4 groups=" ++ decimal groups
slot_fault_of slot.LastArm = codes "5"
slot_fault_of (slot.PassRunning metaslab number) = codes "6 metaslab=" ++ (decimal metaslab ++ (codes " number=" ++ decimal number))
slot_fault_of (slot.TooSmall need have) = codes "7 need=" ++ (decimal need ++ (codes " have=" ++ decimal have))
slot_fault_of (slot.Full arms) = codes "8 arms=" ++ decimal arms
slot_fault_of slot.Last = codes "9"

abbrev pub create_refused_of : SpecFault → List ℕ
create_refused_of why = codes "create refused " ++ (spec_fault_of why ++ codes "\n")

abbrev pub slot_refused_of : CommandName → ℕ → SlotFault → List ℕ
slot_refused_of command number why =
    name_text command ++ (codes " " ++ (decimal number ++ (codes " refused " ++ (slot_fault_of why ++ codes "\n"))))

-- why a `fill` stopped, in the words of a `write`
abbrev pub write_fault_of : WriteFault → List ℕ
write_fault_of (fill.NoSpace run disabled full worn) =
    codes "no space run=" ++ (decimal run ++ (codes " disabled=" ++ (decimal disabled
    ++ (codes " full=" ++ (decimal full ++ (codes " worn=" ++ decimal worn))))))
write_fault_of (fill.Missed columns) = codes "missed columns=" ++ decimal columns
write_fault_of fill.Last = codes "last"
write_fault_of fill.NoMemory = codes "no memory"

abbrev pub fill_refused_of : ℕ → ℕ → WriteFault → List ℕ
fill_refused_of first written why =
    codes "fill " ++ (decimal first ++ (codes " written=" ++ (decimal written ++ (codes " " ++ (write_fault_of why ++ codes "\n")))))

-- the line of an object's bytes
abbrev pub contents_of : ℕ → List ℕ → List ℕ
contents_of object bytes =
    codes "read " ++ (decimal object ++ (codes " " ++ (decimal (length bytes) ++ (codes " "
    ++ (encode_lower bytes ++ codes "\n")))))

abbrev pub summed_of : ℕ → ℕ → List ℕ → List ℕ
summed_of first count digest =
    codes "sum " ++ (decimal first ++ (codes " " ++ (decimal count ++ (codes " " ++ (encode_lower digest ++ codes "\n")))))

-- why an object of a `sum` gives no bytes, in the words of a `read`
abbrev pub sum_refused_of : ℕ → ObjectFault → List ℕ
sum_refused_of object sum.NoObject = codes "sum " ++ (decimal object ++ codes " no object\n")
sum_refused_of object (sum.Unreadable absent tried) =
    codes "sum " ++ (decimal object ++ (codes " unreadable absent=" ++ (decimal absent ++ (codes " tried=" ++ (decimal tried ++ codes "\n")))))
sum_refused_of object sum.Worn = codes "sum " ++ (decimal object ++ codes " worn\n")
sum_refused_of object sum.NoMemory = codes "sum no memory\n"

abbrev pub detached_of : ArmArgument → ℕ → List ℕ
detached_of arm group = codes "detach " ++ (arm_of arm ++ (codes " ok group=" ++ (decimal group ++ codes "\n")))

abbrev pub detach_refused_of : ArmArgument → SlotFault → List ℕ
detach_refused_of arm why = codes "detach " ++ (arm_of arm ++ (codes " refused " ++ (slot_fault_of why ++ codes "\n")))

abbrev pub detach_stopped_of : ArmArgument → List ℕ → List ℕ
detach_stopped_of arm words = codes "detach " ++ (arm_of arm ++ (codes " " ++ (words ++ codes "\n")))

-- how a pass stands
abbrev pub pause_of : Bool → List ℕ
pause_of true = codes "paused"
pause_of false = codes "done"

abbrev pub rebuilt_of : ℕ → ℕ → ℕ → Bool → List ℕ
rebuilt_of from stripes errors paused =
    codes "rebuild from=" ++ (decimal from ++ (codes " stripes=" ++ (decimal stripes ++ (codes " errors=" ++ (decimal errors
    ++ (codes " " ++ (pause_of paused ++ codes "\n")))))))

abbrev pub scrubbed_of : ℕ → ℕ → ℕ → ℕ → Bool → List ℕ
scrubbed_of from blocks repaired errors paused =
    codes "scrub from=" ++ (decimal from ++ (codes " blocks=" ++ (decimal blocks ++ (codes " repaired=" ++ (decimal repaired
    ++ (codes " errors=" ++ (decimal errors ++ (codes " " ++ (pause_of paused ++ codes "\n")))))))))

-- what became of the other arms of a slot
abbrev pub others_of : Option ℕ → List ℕ
others_of None = codes "kept"
others_of (Some group) = codes "detached group=" ++ decimal group

abbrev pub rebalanced_of : ℕ → ℕ → ℕ → ℕ → Option ℕ → List ℕ
rebalanced_of number blocks repaired errors group =
    codes "rebalance " ++ (decimal number ++ (codes " blocks=" ++ (decimal blocks ++ (codes " repaired=" ++ (decimal repaired
    ++ (codes " errors=" ++ (decimal errors ++ (codes " " ++ (others_of group ++ codes "\n")))))))))

-- the line that a reply is printed as, its end included
unfoldable pub text_of : Reply → List ℕ
text_of (NoPool command) = said_of command (codes " no pool\n")
text_of (PoolOpen command) = said_of command (codes " pool open\n")
text_of (NoMemory command) = said_of command (codes " no memory\n")
text_of (Worn command) = said_of command (codes " worn\n")
text_of (Last command) = said_of command (codes " last\n")
text_of (PassThere command metaslab number) = pass_there_of command metaslab number
text_of (NoCheckpoint command) = said_of command (codes " none\n")
text_of (Created name stripes) = codes "create " ++ (string_bytes name ++ (codes " stripes=" ++ (decimal stripes ++ codes "\n")))
text_of (CreateRefused why) = create_refused_of why
text_of (Imported name group objects) = codes "import " ++ (string_bytes name ++ (codes " group=" ++ (decimal group ++ (codes " objects=" ++ (decimal objects ++ codes "\n")))))
text_of (Exported group) = codes "export group=" ++ (decimal group ++ codes "\n")
text_of (Written object) = codes "write " ++ (decimal object ++ codes " ok\n")
text_of (NoSpace object run disabled full worn) = codes "write " ++ (decimal object ++ (codes " no space run=" ++ (decimal run ++ (codes " disabled=" ++ (decimal disabled ++ (codes " full=" ++ (decimal full ++ (codes " worn=" ++ (decimal worn ++ codes "\n")))))))))
text_of (Missed object columns) = codes "write " ++ (decimal object ++ (codes " missed columns=" ++ (decimal columns ++ codes "\n")))
text_of (WriteLast object) = codes "write " ++ (decimal object ++ codes " last\n")
text_of (Filled first written) = codes "fill " ++ (decimal first ++ (codes " written=" ++ (decimal written ++ codes "\n")))
text_of (FillRefused first written why) = fill_refused_of first written why
text_of (Contents object bytes) = contents_of object bytes.items
text_of (NoObject object) = codes "read " ++ (decimal object ++ codes " no object\n")
text_of (Unreadable object absent tried) = codes "read " ++ (decimal object ++ (codes " unreadable absent=" ++ (decimal absent ++ (codes " tried=" ++ (decimal tried ++ codes "\n")))))
text_of (ReadWorn object) = codes "read " ++ (decimal object ++ codes " worn\n")
text_of (Summed first count digest) = summed_of first count digest
text_of (SumRefused object why) = sum_refused_of object why
text_of (Freed object) = codes "free " ++ (decimal object ++ codes " ok\n")
text_of (FreeNoObject object) = codes "free " ++ (decimal object ++ codes " no object\n")
text_of (Synced group thin) = codes "sync group=" ++ (decimal group ++ (codes " thin=" ++ (decimal thin ++ codes "\n")))
text_of (OfflineDone leaf) = codes "offline " ++ (decimal leaf ++ codes " ok\n")
text_of (OfflineRefused leaf) = codes "offline " ++ (decimal leaf ++ codes " refused 1\n")
text_of (OfflineWorn leaf) = codes "offline " ++ (decimal leaf ++ codes " worn\n")
text_of (OnlineDone leaf) = codes "online " ++ (decimal leaf ++ codes " ok\n")
text_of (OnlineRefused leaf) = codes "online " ++ (decimal leaf ++ codes " refused 1\n")
text_of (OnlineWorn leaf) = codes "online " ++ (decimal leaf ++ codes " worn\n")
text_of (Damaged leaf sector) = codes "damage " ++ (decimal leaf ++ (codes " " ++ (decimal sector ++ codes " ok\n")))
text_of (DamageRefused leaf sector) = codes "damage " ++ (decimal leaf ++ (codes " " ++ (decimal sector ++ codes " refused 1\n")))
text_of (DamageFailed leaf sector) = codes "damage " ++ (decimal leaf ++ (codes " " ++ (decimal sector ++ codes " failed\n")))
text_of (DamageWorn leaf sector) = codes "damage " ++ (decimal leaf ++ (codes " " ++ (decimal sector ++ codes " worn\n")))
text_of (Spared slot name) = codes "spare " ++ (decimal slot ++ (codes " " ++ (string_bytes name ++ codes " ok\n")))
text_of (SpareRefused slot why) = slot_refused_of name.Spare slot why
text_of (SpareWorn slot) = codes "spare " ++ (decimal slot ++ codes " worn\n")
text_of (Replaced slot leaf) = codes "replace " ++ (decimal slot ++ (codes " leaf=" ++ (decimal leaf ++ codes " ok\n")))
text_of (ReplaceRefused slot why) = slot_refused_of name.Replace slot why
text_of (ReplaceWorn slot) = codes "replace " ++ (decimal slot ++ codes " worn\n")
text_of (Detached arm group) = detached_of arm group
text_of (DetachRefused arm why) = detach_refused_of arm why
text_of (DetachWorn arm) = detach_stopped_of arm (codes "worn")
text_of (DetachLast arm) = detach_stopped_of arm (codes "last")
text_of (Rebuilt from stripes errors paused) = rebuilt_of from stripes errors paused
text_of RebuildNothing = codes "rebuild nothing\n"
text_of (Scrubbed from blocks repaired errors paused) = scrubbed_of from blocks repaired errors paused
text_of (Rebalanced slot blocks repaired errors group) = rebalanced_of slot blocks repaired errors group
text_of (RebalanceRefused slot why) = slot_refused_of name.Rebalance slot why
text_of (RebalanceWorn slot) = codes "rebalance " ++ (decimal slot ++ codes " worn\n")
text_of (RebalanceLast slot) = codes "rebalance " ++ (decimal slot ++ codes " last\n")
text_of (Cancelled passes) = codes "cancel " ++ (decimal passes ++ codes "\n")
text_of Crashed = codes "crash\n"
text_of (Status text) = text.items
text_of (LanesClash object) = codes "lanes clash object=" ++ (decimal object ++ codes "\n")
text_of LanesClashMend = codes "lanes clash mend\n"
text_of LanesCheckpoint = codes "lanes checkpoint\n"
text_of (Upgraded group) = codes "upgrade version=2 group=" ++ (decimal group ++ codes "\n")
text_of UpgradeAlready = codes "upgrade already\n"
text_of AgentIdle = codes "agent idle\n"
text_of (Acted parity entries errors) = acted_of parity entries.items errors
text_of (Journal parity entries) = journal_of parity entries.items
text_of (Checkpointed group) = codes "checkpoint group=" ++ (decimal group ++ codes "\n")
text_of (CheckpointThere group) = codes "checkpoint refused group=" ++ (decimal group ++ codes "\n")
text_of (Rewound group objects) = codes "rewind group=" ++ (decimal group ++ (codes " objects=" ++ (decimal objects ++ codes "\n")))
text_of (Discarded freed group) = codes "discard freed=" ++ (decimal freed ++ (codes " group=" ++ (decimal group ++ codes "\n")))

-- the reply is one line, which is put together here
abbrev pub IsLine : Reply → Type 0
IsLine (Status text) = ⊥
IsLine reply = ⊤

-- replies with a line, but for those on the pool; then those that are left behind objects, leaves, slots and passes
abbrev pub IsBelowPool : Reply → Type 0
IsBelowPool (NoPool _) = ⊥
IsBelowPool (PoolOpen _) = ⊥
IsBelowPool (NoMemory _) = ⊥
IsBelowPool (Worn _) = ⊥
IsBelowPool (Last _) = ⊥
IsBelowPool (PassThere _ _ _) = ⊥
IsBelowPool (NoCheckpoint _) = ⊥
IsBelowPool (Created _ _) = ⊥
IsBelowPool (CreateRefused _) = ⊥
IsBelowPool (Imported _ _ _) = ⊥
IsBelowPool (Exported _) = ⊥
IsBelowPool (Synced _ _) = ⊥
IsBelowPool Crashed = ⊥
IsBelowPool reply = IsLine reply

abbrev pub IsBelowObjects : Reply → Type 0
IsBelowObjects (Written _) = ⊥
IsBelowObjects (NoSpace _ _ _ _ _) = ⊥
IsBelowObjects (Missed _ _) = ⊥
IsBelowObjects (WriteLast _) = ⊥
IsBelowObjects (Filled _ _) = ⊥
IsBelowObjects (FillRefused _ _ _) = ⊥
IsBelowObjects (Contents _ _) = ⊥
IsBelowObjects (NoObject _) = ⊥
IsBelowObjects (Unreadable _ _ _) = ⊥
IsBelowObjects (ReadWorn _) = ⊥
IsBelowObjects (Summed _ _ _) = ⊥
IsBelowObjects (SumRefused _ _) = ⊥
IsBelowObjects (Freed _) = ⊥
IsBelowObjects (FreeNoObject _) = ⊥
IsBelowObjects reply = IsBelowPool reply

abbrev pub IsBelowDisks : Reply → Type 0
IsBelowDisks (OfflineDone _) = ⊥
IsBelowDisks (OfflineRefused _) = ⊥
IsBelowDisks (OfflineWorn _) = ⊥
IsBelowDisks (OnlineDone _) = ⊥
IsBelowDisks (OnlineRefused _) = ⊥
IsBelowDisks (OnlineWorn _) = ⊥
IsBelowDisks (Damaged _ _) = ⊥
IsBelowDisks (DamageRefused _ _) = ⊥
IsBelowDisks (DamageFailed _ _) = ⊥
IsBelowDisks (DamageWorn _ _) = ⊥
IsBelowDisks reply = IsBelowObjects reply

abbrev pub IsBelowSlots : Reply → Type 0
IsBelowSlots (Spared _ _) = ⊥
IsBelowSlots (SpareRefused _ _) = ⊥
IsBelowSlots (SpareWorn _) = ⊥
IsBelowSlots (Replaced _ _) = ⊥
IsBelowSlots (ReplaceRefused _ _) = ⊥
IsBelowSlots (ReplaceWorn _) = ⊥
IsBelowSlots (Detached _ _) = ⊥
IsBelowSlots (DetachRefused _ _) = ⊥
IsBelowSlots (DetachWorn _) = ⊥
IsBelowSlots (DetachLast _) = ⊥
IsBelowSlots reply = IsBelowDisks reply

abbrev pub IsBelowPasses : Reply → Type 0
IsBelowPasses (Rebuilt _ _ _ _) = ⊥
IsBelowPasses RebuildNothing = ⊥
IsBelowPasses (Scrubbed _ _ _ _ _) = ⊥
IsBelowPasses (Rebalanced _ _ _ _ _) = ⊥
IsBelowPasses (RebalanceRefused _ _) = ⊥
IsBelowPasses (RebalanceWorn _) = ⊥
IsBelowPasses (RebalanceLast _) = ⊥
IsBelowPasses (Cancelled _) = ⊥
IsBelowPasses reply = IsBelowSlots reply
