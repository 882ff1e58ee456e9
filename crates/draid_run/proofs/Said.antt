-- What the replies of commands say, in the words of a session.
use Rattle.std.proofs.Common.{◌≡◌, inl, ℕ, Bool, true, false, List, Result, Ok, Err, refl, subst, sym, Option, inr}
use Rattle.std.specs.declared.vec.Vec.{Vec}
use Rattle.std.specs.declared.alloc.Global.{Global}
use Rattle.draid_names.specs.declared.fault.NoMemory.{NoMemory as Starved}
use Rattle.draid_names.specs.declared.refusal.ObjectFault.{ObjectFault}
use Rattle.draid_names.specs.declared.refusal.ObjectFault.TheVariants as object
use Rattle.draid_script.specs.Line.{AttachSpare, Command, DamageSector, FreeObject, ReadObject, ShowStatus, SumObjects, TakeOffline, TakeOnline, DetachArm, SyncPool, UpgradePool, RebuildPool, ScrubPool, RebalanceSlot, ReplaceDisk, CancelPasses}
use Rattle.draid_script.specs.declared.name.CommandName.{CommandName}
use Rattle.draid_script.specs.declared.name.CommandName.TheVariants as name
use Rattle.draid_script.specs.declared.line.StatusFormat.{StatusFormat}
use Rattle.draid_reply.specs.declared.reply.Reply.{Reply}
use Rattle.draid_reply.specs.declared.reply.Reply.TheVariants.{DetachLast, DetachRefused, DetachWorn, Detached, Last, NoMemory, OfflineDone, OfflineRefused, OfflineWorn, OnlineDone, OnlineRefused, OnlineWorn, SpareRefused, SpareWorn, UpgradeAlready, Upgraded, Worn, Replaced, ReplaceRefused, ReplaceWorn, PassThere, Rebalanced, RebalanceLast, RebalanceRefused, RebalanceWorn, Rebuilt, RebuildNothing, Scrubbed, Synced}
use Rattle.draid_session.specs.Choices.{Choices}
use Rattle.draid_session.specs.Holds.{Hold}
use Rattle.draid_session.specs.State.{State, Store}
use Rattle.draid_names.specs.declared.fault.Failed.{Failed}
use Rattle.draid_names.specs.declared.refusal.SlotFault.{SlotFault}
use Rattle.draid_names.specs.declared.refusal.SlotFault.TheVariants as slot
use Rattle.draid_session.specs.Arms as arms
use Rattle.draid_changes.specs.Answers.{SpareDoes, SwitchDoes, ReplaceDoes}
use Rattle.draid_changes.specs.DetachSays.{DetachSays, IsDetachReply}
use Rattle.draid_changes.specs.Detaching.{DetachDoes}
use Rattle.draid_changes.specs.declared.detaching.DetachFault.{DetachFault}
use Rattle.draid_changes.specs.declared.detaching.DetachFault.TheVariants as detaching
use Rattle.draid_script.specs.declared.line.ArmArgument.{ArmArgument}
use Rattle.draid_session.specs.Arms.{arm_of}
use Rattle.draid_changes.specs.Says.{IsReplyBy, IsSpared, SpareSays, SwitchSays, ReplaceSays}
use Rattle.draid_changes.specs.UpgradeSays.{IsUpgradeReply, UpgradeSays}
use Rattle.draid_changes.specs.Upgrading.{UpgradeDoes}
use Rattle.draid_changes.specs.declared.upgrading.UpgradeFault.{UpgradeFault}
use Rattle.draid_changes.specs.declared.upgrading.UpgradeFault.TheVariants as upgrading
use Rattle.draid_pool.specs.declared.fault.SyncFault.{SyncFault}
use Rattle.draid_pool.specs.declared.fault.SyncFault.TheVariants as sync
use Rattle.draid_pool.specs.declared.fault.Synced.{Synced as Group}
use Rattle.draid_pool.specs.Says.{IsSyncReply, SyncSays}
use Rattle.draid_pool.specs.Syncing.{SyncDoes}
use Rattle.draid_changes.specs.declared.fault.ArmFault.{ArmFault}
use Rattle.draid_changes.specs.declared.fault.ArmFault.TheVariants as arm
use Rattle.draid_run.specs.Desks.{AnswerDoes, BreaksBy}
use Rattle.draid_run.specs.Rebalancing.{IsRebalanceReply, RebalanceDoes, RebalanceSays}
use Rattle.draid_run.specs.declared.rebalancing.RebalanceFault.{RebalanceFault}
use Rattle.draid_run.specs.declared.rebalancing.RebalanceFault.TheVariants as balancing
use Rattle.draid_run.specs.declared.rebalancing.Rebalanced.{Rebalanced as Balanced}
use Rattle.draid_visits.specs.Rebuilding.{RebuildDoes, ScrubDoes}
use Rattle.draid_visits.specs.Says.{CancelSays, IsRebuildReply, IsScrubReply, RebuildSays, ScrubSays}
use Rattle.draid_visits.specs.declared.rebuilding.MendFault.{MendFault}
use Rattle.draid_visits.specs.declared.rebuilding.MendFault.TheVariants as mending
use Rattle.draid_visits.specs.declared.rebuilding.Mended.{Mended}
use Rattle.draid_store.specs.Answers.{DamageDoes, FreeDoes, ReadDoes, SumDoes}
use Rattle.draid_store.specs.declared.fault.DamageFault.{DamageFault}
use Rattle.draid_store.specs.declared.fault.DamageFault.TheVariants as damaged
use Rattle.draid_store.specs.declared.fault.FreeFault.{FreeFault}
use Rattle.draid_store.specs.declared.fault.SumFault.{SumFault}
use Rattle.draid_pool.specs.Carries.{ReplyDoes}
use Rattle.draid_store.specs.Says.{DamageSays, FreeSays, ReadSays, SumSays, damage_reply, free_reply, read_reply, sum_reply}
use Rattle.draid_status.specs.Says.{StatusDoes, StatusSays, status_reply}

-- a leaf that is no arm is the only rule that a switch breaks
no_leaf : (x : State) (leaf : ℕ) (holds : List Hold) (why : SlotFault) → arms.Refuses x.geometry x.perms (arms.NoLeaf x.geometry x.perms leaf) why holds → arms.Refuses x.geometry x.perms (arms.NoLeaf x.geometry x.perms leaf) slot.NoSuch holds
no_leaf x leaf holds slot.NoSuch refused = refused
no_leaf x leaf holds (slot.SpareBusy by) refused = absurd refused.broken
no_leaf x leaf holds (slot.LogNotEmpty groups) refused = absurd refused.broken
no_leaf x leaf holds slot.LastArm refused = absurd refused.broken
no_leaf x leaf holds (slot.PassRunning metaslab number) refused = absurd refused.broken
no_leaf x leaf holds (slot.TooSmall need have) refused = absurd refused.broken
no_leaf x leaf holds (slot.Full arms) refused = absurd refused.broken
no_leaf x leaf holds slot.Last refused = absurd refused.broken

module _ {T : Type 0} (x : State) (choices : Choices) (said : Result Reply Failed) (holds : List Hold) (store : Store) (command : Command) (called : CommandName) (IsDone : T → Reply → Type 0) (refused : SlotFault → Reply) (worn : Reply)
    (Did : Result T ArmFault → Type 0) where
  -- a reply is that of an answer, and what the answer says was done is what the command does by that reply
  pub answer_does : ((it : T) (reply : Reply) → IsDone it reply → Did (Ok it) → ReplyDoes x choices command reply holds store) → ((why : SlotFault) → Did (Err (arm.Slot why)) → ReplyDoes x choices command (refused why) holds store)
      → (Did (Err arm.Worn) → ReplyDoes x choices command worn holds store) → (Did (Err arm.NoMemory) → ReplyDoes x choices command (NoMemory called) holds store) → (Did (Err arm.Shelf) → BreaksBy x command holds store)
      → (answer : Result T ArmFault) → IsReplyBy called IsDone refused worn answer said → Did answer → AnswerDoes x choices command said holds store
  answer_does done barred is_worn starved broke answer is did = by answer is did
    where
      replied : (reply : Reply) → said ≡ Ok reply → ReplyDoes x choices command reply holds store → AnswerDoes x choices command said holds store
      replied reply is does = subst (λ s. AnswerDoes x choices command s holds store) (sym is) does

      broken : (given : Result Reply Failed) → IsReplyBy called IsDone refused worn (Err arm.Shelf) given → Did (Err arm.Shelf) → AnswerDoes x choices command given holds store
      broken (Ok reply) is did = absurd is
      broken (Err failed) is did = broke did

      by : (answer : Result T ArmFault) → IsReplyBy called IsDone refused worn answer said → Did answer → AnswerDoes x choices command said holds store
      by (Ok it) is did = replied is.0 is.1 (done it is.0 is.2 did)
      by (Err (arm.Slot why)) is did = replied (refused why) is (barred why did)
      by (Err arm.Worn) is did = replied worn is (is_worn did)
      by (Err arm.NoMemory) is did = replied (NoMemory called) is (starved did)
      by (Err arm.Shelf) is did = broken said is did

abbrev pub switch_line : ℕ → Bool → Command
switch_line leaf true = TakeOffline leaf
switch_line leaf false = TakeOnline leaf

module _ (x : State) (choices : Choices) (said : Result Reply Failed) (holds : List Hold) (store : Store) where
  pub switch_does : (leaf : ℕ) (offline : Bool) → SwitchSays leaf offline said x holds store → AnswerDoes x choices (switch_line leaf offline) said holds store
  switch_does leaf true says =
      answer_does x choices said holds store (TakeOffline leaf) name.Offline (λ done reply. reply ≡ OfflineDone leaf) (λ why. OfflineRefused leaf) (OfflineWorn leaf) (λ answer. SwitchDoes x leaf true answer holds store)
      (λ it reply is did. subst (λ r. ReplyDoes x choices (TakeOffline leaf) r holds store) (sym is) (refl, did.0, did.1)) (λ why did. (refl, did.0, no_leaf x leaf holds why did.1)) (λ did. (refl, did.0, did.1)) (λ did. did) (λ did. did)
      says.0 says.1 says.2
  switch_does leaf false says =
      answer_does x choices said holds store (TakeOnline leaf) name.Online (λ done reply. reply ≡ OnlineDone leaf) (λ why. OnlineRefused leaf) (OnlineWorn leaf) (λ answer. SwitchDoes x leaf false answer holds store)
      (λ it reply is did. subst (λ r. ReplyDoes x choices (TakeOnline leaf) r holds store) (sym is) (refl, did.0, did.1)) (λ why did. (refl, did.0, no_leaf x leaf holds why did.1)) (λ did. (refl, did.0, did.1)) (λ did. did) (λ did. did)
      says.0 says.1 says.2

  pub replace_does : (slot : ℕ) (sectors : Option ℕ) → ReplaceSays slot sectors said x holds store → AnswerDoes x choices (ReplaceDisk slot sectors) said holds store
  replace_does slot sectors says =
      answer_does x choices said holds store (ReplaceDisk slot sectors) name.Replace (λ leaf reply. reply ≡ Replaced slot leaf) (λ why. ReplaceRefused slot why) (ReplaceWorn slot) (λ answer. ReplaceDoes x slot sectors answer holds store)
      (λ leaf reply is did. subst (λ r. ReplyDoes x choices (ReplaceDisk slot sectors) r holds store) (sym is) (refl, did.0, did.1)) (λ why did. (refl, did.1.0, did.1.1)) (λ did. (refl, did.1.0, (did.0, did.1.1)))
      (λ did. (did.1.0, (elim did.1.1 [ inl taken ↦ inl (did.0, taken) | inr looks ↦ inr looks ]))) (λ did. (did.1.0, (did.0, did.1.1)))
      says.0 says.1 says.2

  pub spare_does : (slot spare : ℕ) → SpareSays slot spare said x holds store → AnswerDoes x choices (AttachSpare slot spare) said holds store
  spare_does slot spare says =
      answer_does x choices said holds store (AttachSpare slot spare) name.Spare (λ done reply. IsSpared x.geometry.spec slot spare reply) (λ why. SpareRefused slot why) (SpareWorn slot) (λ answer. SpareDoes x slot spare answer holds store)
      (λ it reply is did. subst (λ r. ReplyDoes x choices (AttachSpare slot spare) r holds store) (sym is.1) (refl, is.2, did.0, did.1)) (λ why did. (refl, did.0, did.1)) (λ did. (refl, did.0, did.1)) (λ did. did) (λ did. did)
      says.0 says.1 says.2

  pub rebuild_does : (limit : Option ℕ) → RebuildSays limit said x holds store → AnswerDoes x choices (RebuildPool limit) said holds store
  rebuild_does limit says = by says.0 says.1 says.2
    where
      replied : (reply : Reply) → said ≡ Ok reply → ReplyDoes x choices (RebuildPool limit) reply holds store → AnswerDoes x choices (RebuildPool limit) said holds store
      replied reply is does = subst (λ s. AnswerDoes x choices (RebuildPool limit) s holds store) (sym is) does

      broke : (given : Result Reply Failed) → IsRebuildReply (Err mending.Shelf) given → RebuildDoes x limit (Err mending.Shelf) holds store → AnswerDoes x choices (RebuildPool limit) given holds store
      broke (Ok reply) is does = absurd is
      broke (Err failed) is does = does

      by : (answer : Result Mended MendFault) → IsRebuildReply answer said → RebuildDoes x limit answer holds store → AnswerDoes x choices (RebuildPool limit) said holds store
      by (Ok it) is does = replied (Rebuilt it.from it.units it.errors it.paused) is does
      by (Err mending.Nothing) is does = replied RebuildNothing is does
      by (Err (mending.PassThere metaslab number)) is does = replied (PassThere name.Rebuild metaslab number) is does
      by (Err mending.Worn) is does = replied (Worn name.Rebuild) is does
      by (Err mending.Last) is does = replied (Last name.Rebuild) is does
      by (Err mending.NoMemory) is does = replied (NoMemory name.Rebuild) is does
      by (Err mending.Shelf) is does = broke said is does

  pub rebalance_does : (child : ℕ) → RebalanceSays child said x holds store → AnswerDoes x choices (RebalanceSlot child) said holds store
  rebalance_does child says = by says.0 says.1 says.2
    where
      replied : (reply : Reply) → said ≡ Ok reply → ReplyDoes x choices (RebalanceSlot child) reply holds store → AnswerDoes x choices (RebalanceSlot child) said holds store
      replied reply is does = subst (λ s. AnswerDoes x choices (RebalanceSlot child) s holds store) (sym is) does

      broke : (given : Result Reply Failed) → IsRebalanceReply child (Err (balancing.Stopped sync.Shelf)) given → RebalanceDoes x child (Err (balancing.Stopped sync.Shelf)) holds store
          → AnswerDoes x choices (RebalanceSlot child) given holds store
      broke (Ok reply) is does = absurd is
      broke (Err failed) is does = does

      by : (answer : Result Balanced RebalanceFault) → IsRebalanceReply child answer said → RebalanceDoes x child answer holds store → AnswerDoes x choices (RebalanceSlot child) said holds store
      by (Ok it) is does = replied (Rebalanced child it.blocks it.repaired it.errors it.group) is (refl, does.0, does.1)
      by (Err balancing.NoSuch) is does = replied (RebalanceRefused child slot.NoSuch) is (refl, does.0, does.1, does.2)
      by (Err (balancing.PassRunning metaslab number)) is does = replied (RebalanceRefused child (slot.PassRunning metaslab number)) is (refl, does.0, does.1)
      by (Err (balancing.Stopped sync.Worn)) is does = replied (RebalanceWorn child) is (refl, does.0, does.1)
      by (Err (balancing.Stopped sync.Last)) is does = replied (RebalanceLast child) is (refl, does.0, does.1)
      by (Err (balancing.Stopped sync.NoMemory)) is does = replied (NoMemory name.Rebalance) is (does.0, inl does.1)
      by (Err (balancing.Stopped sync.Shelf)) is does = broke said is does

  pub sync_does : SyncSays said x holds store → AnswerDoes x choices SyncPool said holds store
  sync_does says = by says.0 says.1 says.2
    where
      replied : (reply : Reply) → said ≡ Ok reply → ReplyDoes x choices SyncPool reply holds store → AnswerDoes x choices SyncPool said holds store
      replied reply is does = subst (λ s. AnswerDoes x choices SyncPool s holds store) (sym is) does

      broke : (given : Result Reply Failed) → IsSyncReply (Err sync.Shelf) given → SyncDoes x (Err sync.Shelf) holds store → AnswerDoes x choices SyncPool given holds store
      broke (Ok reply) is does = absurd is
      broke (Err failed) is does = does

      by : (answer : Result Group SyncFault) → IsSyncReply answer said → SyncDoes x answer holds store → AnswerDoes x choices SyncPool said holds store
      by (Ok it) is does = replied (Synced it.group it.thin) is does
      by (Err sync.Worn) is does = replied (Worn name.Sync) is does
      by (Err sync.Last) is does = replied (Last name.Sync) is does
      by (Err sync.NoMemory) is does = replied (NoMemory name.Sync) is (does.0, inl does.1)
      by (Err sync.Shelf) is does = broke said is does

  pub upgrade_does : UpgradeSays said x holds store → AnswerDoes x choices UpgradePool said holds store
  upgrade_does says = by says.0 says.1 says.2
    where
      replied : (reply : Reply) → said ≡ Ok reply → ReplyDoes x choices UpgradePool reply holds store → AnswerDoes x choices UpgradePool said holds store
      replied reply is does = subst (λ s. AnswerDoes x choices UpgradePool s holds store) (sym is) does

      broke : (given : Result Reply Failed) → IsUpgradeReply (Err (upgrading.Sync sync.Shelf)) given → UpgradeDoes x (Err (upgrading.Sync sync.Shelf)) holds store → AnswerDoes x choices UpgradePool given holds store
      broke (Ok reply) is does = absurd is
      broke (Err failed) is does = does

      by : (answer : Result ℕ UpgradeFault) → IsUpgradeReply answer said → UpgradeDoes x answer holds store → AnswerDoes x choices UpgradePool said holds store
      by (Ok group) is does = replied (Upgraded group) is does
      by (Err upgrading.Already) is does = replied UpgradeAlready is does
      by (Err (upgrading.Sync sync.Worn)) is does = replied (Worn name.Upgrade) is does
      by (Err (upgrading.Sync sync.Last)) is does = replied (Last name.Upgrade) is does
      by (Err (upgrading.Sync sync.NoMemory)) is does = replied (NoMemory name.Upgrade) is (does.0, inl does.1)
      by (Err (upgrading.Sync sync.Shelf)) is does = broke said is does

module _ (x : State) (choices : Choices) (said : Result Reply Failed) (holds : List Hold) (store : Store) (arm : ArmArgument) where
  pub detach_does : DetachSays arm said x holds store → AnswerDoes x choices (DetachArm arm) said holds store
  detach_does says = by says.0 says.1 says.2
    where
      replied : (reply : Reply) → said ≡ Ok reply → ReplyDoes x choices (DetachArm arm) reply holds store → AnswerDoes x choices (DetachArm arm) said holds store
      replied reply is does = subst (λ s. AnswerDoes x choices (DetachArm arm) s holds store) (sym is) does

      broke : (given : Result Reply Failed) → IsDetachReply arm (Err (detaching.Sync sync.Shelf)) given → DetachDoes x (arm_of arm) (Err (detaching.Sync sync.Shelf)) holds store → AnswerDoes x choices (DetachArm arm) given holds store
      broke (Ok reply) is does = absurd is
      broke (Err failed) is does = does

      by : (answer : Result ℕ DetachFault) → IsDetachReply arm answer said → DetachDoes x (arm_of arm) answer holds store → AnswerDoes x choices (DetachArm arm) said holds store
      by (Ok group) is does = replied (Detached arm group) is (refl, does.0, does.1)
      by (Err (detaching.Slot why)) is does = replied (DetachRefused arm why) is (refl, does.0, does.1)
      by (Err (detaching.Sync sync.Worn)) is does = replied (DetachWorn arm) is (refl, does.0, does.1)
      by (Err (detaching.Sync sync.Last)) is does = replied (DetachLast arm) is (refl, does.0, does.1)
      by (Err (detaching.Sync sync.NoMemory)) is does = replied (NoMemory name.Detach) is (does.0, inl does.1)
      by (Err (detaching.Sync sync.Shelf)) is does = broke said is does

module _ (x : State) (choices : Choices) (reply : Reply) (holds : List Hold) (store : Store) where
  pub read_does : (o : ℕ) → ReadSays o reply x holds store → ReplyDoes x choices (ReadObject o) reply holds store
  read_does o said = subst (λ r. ReplyDoes x choices (ReadObject o) r holds store) (sym said.1) (by said.0 said.2) where
    by : (answer : Result (Vec ℕ Global) ObjectFault) → ReadDoes x o answer holds store → ReplyDoes x choices (ReadObject o) (read_reply o answer) holds store
    by (Ok bytes) does = (refl, does.0, does.1)
    by (Err object.NoObject) does = (refl, does.0, does.1, does.2)
    by (Err (object.Unreadable absent tried)) does = (refl, does.0, does.1)
    by (Err object.Worn) does = (refl, does.0, does.1)
    by (Err object.NoMemory) does = does

  pub free_does : (o : ℕ) → FreeSays o reply x holds store → ReplyDoes x choices (FreeObject o) reply holds store
  free_does o said = subst (λ r. ReplyDoes x choices (FreeObject o) r holds store) (sym said.1) (by said.0 said.2) where
    by : (answer : Result Unit FreeFault) → FreeDoes x o answer holds store → ReplyDoes x choices (FreeObject o) (free_reply o answer) holds store
    by (Ok done) does = (refl, does)
    by (Err fault) does = (refl, does.0, does.1, does.2)

  pub sum_does : (first count : ℕ) → SumSays first count reply x holds store → ReplyDoes x choices (SumObjects first count) reply holds store
  sum_does first count said = subst (λ r. ReplyDoes x choices (SumObjects first count) r holds store) (sym said.1) (by said.0 said.2) where
    by : (answer : Result (List ℕ) SumFault) → SumDoes x first count answer holds store → ReplyDoes x choices (SumObjects first count) (sum_reply first count answer) holds store
    by (Ok digest) does = (refl, refl, does.0, does.1)
    by (Err fault) does = does

  pub cancel_does : CancelSays reply x holds store → ReplyDoes x choices CancelPasses reply holds store
  cancel_does said = subst (λ r. ReplyDoes x choices CancelPasses r holds store) (sym said.1) said.2

  pub scrub_does : (limit : Option ℕ) → ScrubSays limit reply x holds store → ReplyDoes x choices (ScrubPool limit) reply holds store
  scrub_does limit says = by says.0 says.1 says.2
    where
      replied : (other : Reply) → reply ≡ other → ReplyDoes x choices (ScrubPool limit) other holds store → ReplyDoes x choices (ScrubPool limit) reply holds store
      replied other is does = subst (λ r. ReplyDoes x choices (ScrubPool limit) r holds store) (sym is) does

      by : (answer : Result Mended MendFault) → IsScrubReply answer reply → ScrubDoes x limit answer holds store → ReplyDoes x choices (ScrubPool limit) reply holds store
      by (Ok it) is does = replied (Scrubbed it.from it.units it.repaired it.errors it.paused) is does
      by (Err mending.Nothing) is does = absurd is
      by (Err (mending.PassThere metaslab number)) is does = replied (PassThere name.Scrub metaslab number) is does
      by (Err mending.Worn) is does = replied (Worn name.Scrub) is does
      by (Err mending.Last) is does = replied (Last name.Scrub) is does
      by (Err mending.NoMemory) is does = replied (NoMemory name.Scrub) is (does.0, inl does.1)
      by (Err mending.Shelf) is does = absurd is

  pub damage_does : (leaf sector : ℕ) → DamageSays leaf sector reply x holds store → ReplyDoes x choices (DamageSector leaf sector) reply holds store
  damage_does leaf sector said = subst (λ r. ReplyDoes x choices (DamageSector leaf sector) r holds store) (sym said.1) (by said.0 said.2) where
    by : (answer : Result Unit DamageFault) → DamageDoes x leaf sector answer holds store → ReplyDoes x choices (DamageSector leaf sector) (damage_reply leaf sector answer) holds store
    by (Ok done) does = (refl, refl, does.0, does.1)
    by (Err damaged.NoSuch) does = (refl, refl, does.0, does.1)
    by (Err damaged.Worn) does = (refl, refl, does.0, does.1)
    by (Err damaged.Failed) does = (refl, refl, does.0, does.1)
    by (Err damaged.NoMemory) does = does

  pub status_does : (form : StatusFormat) → StatusSays form reply x holds store → ReplyDoes x choices (ShowStatus form) reply holds store
  status_does form said = subst (λ r. ReplyDoes x choices (ShowStatus form) r holds store) (sym said.1) (by said.0 said.2) where
    by : (answer : Result (Vec ℕ Global) Starved) → StatusDoes x form answer holds store → ReplyDoes x choices (ShowStatus form) (status_reply answer) holds store
    by (Ok text) does = does
    by (Err starved) does = does
