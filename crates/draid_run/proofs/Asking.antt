-- What a line comes to that asks something of the pool that is open.
use Rattle.std.proofs.Common.{[], ◌≡◌, IfOk, ℕ, Bool, List, Option, Some, None, Result, Ok, Err, ap, refl, sym, subst, Vec, Global}
use Rattle.std.proofs.lemmas.List.{append-nil}
use Rattle.draid_names.specs.declared.journal.Entry.{Entry}
use Rattle.draid_rack.specs.declared.Rack as racks
use Rattle.draid_area.specs.declared.Area as areas
use Rattle.draid_script.specs.Line.{Command, Silent, CrashPool, CreatePool, ReadObject, FreeObject, SumObjects, DamageSector, AttachSpare, ShowStatus, DetachArm, SyncPool, UpgradePool, command_in, RebuildPool, ScrubPool, RebalanceSlot, ReplaceDisk, CancelPasses, ImportPool, ExportPool, WriteObject, FillObjects, TakeOffline, TakeOnline, OpenLanes, RunAgent, ShowJournal, TakeCheckpoint, RewindPool, DiscardCheckpoint}
use Rattle.draid_script.specs.declared.line.Line.{Line}
use Rattle.draid_script.specs.declared.line.Line.TheVariants as variant
use Rattle.draid_script.specs.declared.line.PoolKeys.{PoolKeys}
use Rattle.draid_script.specs.declared.line.StatusFormat.{StatusFormat}
use Rattle.draid_script.specs.declared.name.CommandName.{CommandName}
use Rattle.draid_reply.specs.declared.reply.Reply.{Reply}
use Rattle.draid_session.specs.Said.{Said, alone}
use Rattle.draid_session.specs.Choices.{Choices}
use Rattle.draid_session.specs.Holds.{Hold}
use Rattle.draid_session.specs.Session.{Desk}
use Rattle.draid_session.specs.State.{State, Store}
use Rattle.draid_pool.specs.Carries.{CarriesOut, ReplyDoes}
use Rattle.draid_pool.specs.Says.{SyncSays}
use Rattle.draid_pool.specs.declared.pool.Pool.{Pool}
use Rattle.draid_run.specs.Crashes.{LeavesFirm}
use Rattle.draid_run.specs.Desks.{AnswerDoes, IsDesk, asked_in}
use Rattle.draid_run.specs.Making.{CreateIs}
use Rattle.draid_names.specs.declared.fault.Failed.{Failed}
use Rattle.draid_changes.specs.DetachSays.{DetachSays}
use Rattle.draid_script.specs.declared.line.ArmArgument.{ArmArgument}
use Rattle.draid_changes.specs.Says.{SpareSays, SwitchSays, ReplaceSays}
use Rattle.draid_changes.specs.UpgradeSays.{UpgradeSays}
use Rattle.draid_store.specs.Says.{DamageSays, FreeSays, ReadSays, SumSays}
use Rattle.draid_status.specs.Says.{StatusSays}
use Rattle.draid_visits.specs.Says.{CancelSays, RebuildSays, ScrubSays}
use Rattle.draid_rewinds.specs.Says.{DiscardSays, RewindSays, TakeSays}
use Rattle.draid_run.specs.Rebalancing.{RebalanceSays}
use Rattle.draid_run.specs.Serve.{AnswerIs, AskIs, IsSaid, opened_by}
use Rattle.draid_pool.specs.Shelves.{OnShelf}
use Rattle.draid_run.specs.Shelves.{MayFind}
use Rattle.draid_run.specs.declared.answer.Stop.{Stop}
use Rattle.draid_run.specs.declared.answer.Stop.TheVariants as stop
use Rattle.draid_run.proofs.Checks.{discard_does, rewind_does, take_does}
use Rattle.draid_run.proofs.Runs.{ask_notes}
use Rattle.draid_run.proofs.Said.{cancel_does, rebalance_does, rebuild_does, scrub_does, damage_does, detach_does, free_does, read_does, spare_does, status_does, sum_does, switch_does, switch_line, sync_does, upgrade_does, replace_does}
use Rattle.draid_run.proofs.Steps.{ask_breaks, by_ask, by_create}

-- what is asked of an open pool is no crash, nor an empty line
asked_firm : {R A : Type 0} (command : Command) (called : CommandName) (saids : List Said) (before now : OnShelf) (pool pool' : Option (Pool R A)) → asked_in command ≡ Some called → LeavesFirm (Ok command) saids before pool now pool'
asked_firm Silent called saids before now pool pool' is = absurd (cc is)
asked_firm CrashPool called saids before now pool pool' is = absurd (cc is)
asked_firm command called saids before now pool pool' is = tt

module _ {R A : Type 0} (rack : racks.Ghosts R) (area : areas.Ghosts A) (choices : Choices) (past : List Entry) (entry now : OnShelf) (pool : Option (Pool R A)) (x : Desk) (is : IsDesk rack area entry now pool x) (command : Command) (new : Option (Pool R A)) where
  pub answer_ask : (given : Result Reply Stop) (result : Result (Option Reply) Stop) → IsSaid given result → AskIs rack area choices command pool x new given
      → AnswerIs rack area choices past past command entry now pool x now new result
  answer_ask (Ok reply) result said did =
      let turned = by_ask rack area choices entry now pool reply command did.0 did.1 x new is did.2 in
      subst (AnswerIs rack area choices past past command entry now pool x now new) (sym said)
      (turned, ([], ask_notes choices (MayFind rack area entry) past command did.0 did.1 x (alone reply) turned.new turned.turns, sym (append-nil past)), asked_firm command did.0 (alone reply) now now pool new did.1)
  answer_ask (Err stop.Shelf) result said did =
      subst (AnswerIs rack area choices past past command entry now pool x now new) (sym said) (ask_breaks rack area entry now now command x pool new is did.2)
  answer_ask (Err (stop.Record which place kind)) result said did = absurd did

-- an empty line, or a comment
pub turned_silent : {R A : Type 0} (rack : racks.Ghosts R) (area : areas.Ghosts A) (choices : Choices) (past : List Entry) (entry now : OnShelf) (pool : Option (Pool R A)) (x : Desk) (line : Line) → line ≡ variant.Nothing
    → IsDesk rack area entry now pool x → AnswerIs rack area choices past past (command_in line) entry now pool x now pool (Ok None)
turned_silent rack area choices past entry now pool x line is desk =
    subst (λ l. AnswerIs rack area choices past past (command_in l) entry now pool x now pool (Ok None)) (sym is)
    (record { new = x; desk = desk; turns = refl }, ([], refl, sym (append-nil past)), (refl, refl))

-- a pool was to be made
module _ {R A : Type 0} (rack : racks.Ghosts R) (area : areas.Ghosts A) (choices : Choices) (past : List Entry) (entry before now : OnShelf) (pool : Option (Pool R A)) (x : Desk) (new : Option (Pool R A)) (text : List ℕ) (children : ℕ) (keys : PoolKeys) where
  pub answer_create : (given : Result Reply Stop) (result : Result (Option Reply) Stop) → IsSaid given result → CreateIs rack area text children keys entry before x now new given
      → AnswerIs rack area choices past past (CreatePool text children keys) entry before pool x now new result
  answer_create (Ok reply) result said did =
      subst (AnswerIs rack area choices past past (CreatePool text children keys) entry before pool x now new) (sym said) (by_create rack area choices entry now text children keys x reply new did, ([], refl, sym (append-nil past)), tt)
  answer_create (Err stop.Shelf) result said did = subst (AnswerIs rack area choices past past (CreatePool text children keys) entry before pool x now new) (sym said) did
  answer_create (Err (stop.Record which place kind)) result said did = absurd did

-- what is so of each reply is so of that of an answer
pub each_reply : (result : Result Reply Failed) (P : Reply → Type 0) → ((reply : Reply) → P reply) → IfOk result P
each_reply (Ok reply) P each = each reply
each_reply (Err failed) P each = tt

-- ---- lines

-- a line that asks nothing of the pool that is open
pub asks_nothing : (line : Line) → ((object : ℕ) (bytes : Vec ℕ Global) → line ≡ variant.Write object bytes → ⊥)
    → ((first : ℕ) (count : ℕ) (len : ℕ) (seed : ℕ) → line ≡ variant.Fill first count len seed → ⊥)
    → ((object : ℕ) → line ≡ variant.Read object → ⊥)
    → ((object : ℕ) → line ≡ variant.Free object → ⊥)
    → ((first : ℕ) (count : ℕ) → line ≡ variant.Sum first count → ⊥)
    → ((leaf : ℕ) → line ≡ variant.Offline leaf → ⊥)
    → ((leaf : ℕ) → line ≡ variant.Online leaf → ⊥)
    → ((leaf : ℕ) (sector : ℕ) → line ≡ variant.Damage leaf sector → ⊥)
    → ((slot : ℕ) (spare : ℕ) → line ≡ variant.Spare slot spare → ⊥)
    → ((slot : ℕ) (sectors : Option ℕ) → line ≡ variant.Replace slot sectors → ⊥)
    → ((form : StatusFormat) → line ≡ variant.Status form → ⊥)
    → ((arm : ArmArgument) → line ≡ variant.Detach arm → ⊥)
    → (line ≡ variant.Upgrade → ⊥)
    → ((limit : Option ℕ) → line ≡ variant.Rebuild limit → ⊥)
    → ((limit : Option ℕ) → line ≡ variant.Scrub limit → ⊥)
    → (line ≡ variant.Cancel → ⊥)
    → ((slot : ℕ) → line ≡ variant.Rebalance slot → ⊥)
    → (line ≡ variant.Sync → ⊥)
    → (line ≡ variant.Checkpoint → ⊥)
    → (line ≡ variant.Rewind → ⊥)
    → (line ≡ variant.Discard → ⊥)
    → asked_in (command_in line) ≡ None
asks_nothing variant.Nothing write fill read free sum offline online damage spare replace status detach upgrade rebuild scrub cancel rebalance sync checkpoint rewind discard = refl
asks_nothing (variant.Create spec children keys) write fill read free sum offline online damage spare replace status detach upgrade rebuild scrub cancel rebalance sync checkpoint rewind discard = refl
asks_nothing variant.Import write fill read free sum offline online damage spare replace status detach upgrade rebuild scrub cancel rebalance sync checkpoint rewind discard = refl
asks_nothing variant.Export write fill read free sum offline online damage spare replace status detach upgrade rebuild scrub cancel rebalance sync checkpoint rewind discard = refl
asks_nothing variant.Sync write fill read free sum offline online damage spare replace status detach upgrade rebuild scrub cancel rebalance sync checkpoint rewind discard = absurd (sync refl)
asks_nothing variant.Cancel write fill read free sum offline online damage spare replace status detach upgrade rebuild scrub cancel rebalance sync checkpoint rewind discard = absurd (cancel refl)
asks_nothing variant.Crash write fill read free sum offline online damage spare replace status detach upgrade rebuild scrub cancel rebalance sync checkpoint rewind discard = refl
asks_nothing (variant.Write object bytes) write fill read free sum offline online damage spare replace status detach upgrade rebuild scrub cancel rebalance sync checkpoint rewind discard = absurd (write object bytes refl)
asks_nothing (variant.Fill first count len seed) write fill read free sum offline online damage spare replace status detach upgrade rebuild scrub cancel rebalance sync checkpoint rewind discard = absurd (fill first count len seed refl)
asks_nothing (variant.Read object) write fill read free sum offline online damage spare replace status detach upgrade rebuild scrub cancel rebalance sync checkpoint rewind discard = absurd (read object refl)
asks_nothing (variant.Free object) write fill read free sum offline online damage spare replace status detach upgrade rebuild scrub cancel rebalance sync checkpoint rewind discard = absurd (free object refl)
asks_nothing (variant.Sum first count) write fill read free sum offline online damage spare replace status detach upgrade rebuild scrub cancel rebalance sync checkpoint rewind discard = absurd (sum first count refl)
asks_nothing (variant.Offline leaf) write fill read free sum offline online damage spare replace status detach upgrade rebuild scrub cancel rebalance sync checkpoint rewind discard = absurd (offline leaf refl)
asks_nothing (variant.Online leaf) write fill read free sum offline online damage spare replace status detach upgrade rebuild scrub cancel rebalance sync checkpoint rewind discard = absurd (online leaf refl)
asks_nothing (variant.Damage leaf sector) write fill read free sum offline online damage spare replace status detach upgrade rebuild scrub cancel rebalance sync checkpoint rewind discard = absurd (damage leaf sector refl)
asks_nothing (variant.Spare slot number) write fill read free sum offline online damage spare replace status detach upgrade rebuild scrub cancel rebalance sync checkpoint rewind discard = absurd (spare slot number refl)
asks_nothing (variant.Replace slot sectors) write fill read free sum offline online damage spare replace status detach upgrade rebuild scrub cancel rebalance sync checkpoint rewind discard = absurd (replace slot sectors refl)
asks_nothing (variant.Detach arm) write fill read free sum offline online damage spare replace status detach upgrade rebuild scrub cancel rebalance sync checkpoint rewind discard = absurd (detach arm refl)
asks_nothing (variant.Rebuild limit) write fill read free sum offline online damage spare replace status detach upgrade rebuild scrub cancel rebalance sync checkpoint rewind discard = absurd (rebuild limit refl)
asks_nothing (variant.Scrub limit) write fill read free sum offline online damage spare replace status detach upgrade rebuild scrub cancel rebalance sync checkpoint rewind discard = absurd (scrub limit refl)
asks_nothing (variant.Rebalance slot) write fill read free sum offline online damage spare replace status detach upgrade rebuild scrub cancel rebalance sync checkpoint rewind discard = absurd (rebalance slot refl)
asks_nothing (variant.Status form) write fill read free sum offline online damage spare replace status detach upgrade rebuild scrub cancel rebalance sync checkpoint rewind discard = absurd (status form refl)
asks_nothing (variant.Lanes count) write fill read free sum offline online damage spare replace status detach upgrade rebuild scrub cancel rebalance sync checkpoint rewind discard = refl
asks_nothing variant.Upgrade write fill read free sum offline online damage spare replace status detach upgrade rebuild scrub cancel rebalance sync checkpoint rewind discard = absurd (upgrade refl)
asks_nothing (variant.Agent least) write fill read free sum offline online damage spare replace status detach upgrade rebuild scrub cancel rebalance sync checkpoint rewind discard = refl
asks_nothing variant.AgentLog write fill read free sum offline online damage spare replace status detach upgrade rebuild scrub cancel rebalance sync checkpoint rewind discard = refl
asks_nothing variant.Checkpoint write fill read free sum offline online damage spare replace status detach upgrade rebuild scrub cancel rebalance sync checkpoint rewind discard = absurd (checkpoint refl)
asks_nothing variant.Rewind write fill read free sum offline online damage spare replace status detach upgrade rebuild scrub cancel rebalance sync checkpoint rewind discard = absurd (rewind refl)
asks_nothing variant.Discard write fill read free sum offline online damage spare replace status detach upgrade rebuild scrub cancel rebalance sync checkpoint rewind discard = absurd (discard refl)

-- and one that isn't among those that the run answers by itself asks something of it
pub asks_pool : (line : Line) → (line ≡ variant.Nothing → ⊥)
    → ((spec : Vec ℕ Global) (children : ℕ) (keys : PoolKeys) → line ≡ variant.Create spec children keys → ⊥)
    → (line ≡ variant.Import → ⊥)
    → (line ≡ variant.Export → ⊥)
    → (line ≡ variant.Crash → ⊥)
    → ((least : ℕ) → line ≡ variant.Agent least → ⊥)
    → (line ≡ variant.AgentLog → ⊥) → opened_by (command_in line) ≡ None
    → asked_in (command_in line) ≡ None → ⊥
asks_pool variant.Nothing nothing create opens export crash agent log alone none = nothing refl
asks_pool (variant.Create spec children keys) nothing create opens export crash agent log alone none = create spec children keys refl
asks_pool variant.Import nothing create opens export crash agent log alone none = opens refl
asks_pool variant.Export nothing create opens export crash agent log alone none = export refl
asks_pool variant.Sync nothing create opens export crash agent log alone none = cc none
asks_pool variant.Cancel nothing create opens export crash agent log alone none = cc none
asks_pool variant.Crash nothing create opens export crash agent log alone none = crash refl
asks_pool (variant.Write object bytes) nothing create opens export crash agent log alone none = cc none
asks_pool (variant.Fill first count len seed) nothing create opens export crash agent log alone none = cc none
asks_pool (variant.Read object) nothing create opens export crash agent log alone none = cc none
asks_pool (variant.Free object) nothing create opens export crash agent log alone none = cc none
asks_pool (variant.Sum first count) nothing create opens export crash agent log alone none = cc none
asks_pool (variant.Offline leaf) nothing create opens export crash agent log alone none = cc none
asks_pool (variant.Online leaf) nothing create opens export crash agent log alone none = cc none
asks_pool (variant.Damage leaf sector) nothing create opens export crash agent log alone none = cc none
asks_pool (variant.Spare slot spare) nothing create opens export crash agent log alone none = cc none
asks_pool (variant.Replace slot sectors) nothing create opens export crash agent log alone none = cc none
asks_pool (variant.Detach arm) nothing create opens export crash agent log alone none = cc none
asks_pool (variant.Rebuild limit) nothing create opens export crash agent log alone none = cc none
asks_pool (variant.Scrub limit) nothing create opens export crash agent log alone none = cc none
asks_pool (variant.Rebalance slot) nothing create opens export crash agent log alone none = cc none
asks_pool (variant.Status form) nothing create opens export crash agent log alone none = cc none
asks_pool (variant.Lanes count) nothing create opens export crash agent log alone none = cc alone
asks_pool variant.Upgrade nothing create opens export crash agent log alone none = cc none
asks_pool (variant.Agent least) nothing create opens export crash agent log alone none = agent least refl
asks_pool variant.AgentLog nothing create opens export crash agent log alone none = log refl
asks_pool variant.Checkpoint nothing create opens export crash agent log alone none = cc none
asks_pool variant.Rewind nothing create opens export crash agent log alone none = cc none
asks_pool variant.Discard nothing create opens export crash agent log alone none = cc none

-- ---- what a pool replies, by the line

module _ {R A : Type 0} (rack : racks.Ghosts R) (area : areas.Ghosts A) (choices : Choices) (line : Line) (x : State) (pool : Pool R A) where
  carried : (command : Command) (says : List Hold → Store → Type 0) (said : Result Reply Failed) → command_in line ≡ command → ((holds : List Hold) (store : Store) → says holds store → AnswerDoes x choices command said holds store)
      → CarriesOut rack area pool x says → CarriesOut rack area pool x (AnswerDoes x choices (command_in line) said)
  carried command says said is does c = record {
    holds = c.holds;
    reached = c.reached;
    store = c.store;
    follows = c.follows;
    done = subst (λ k. AnswerDoes x choices k said c.holds c.store) (sym is) (does c.holds c.store c.done);
    represents = c.represents;
  }

  pub replied_switch : (leaf : ℕ) (offline : Bool) (said : Result Reply Failed) → command_in line ≡ switch_line leaf offline → CarriesOut rack area pool x (SwitchSays leaf offline said x)
      → CarriesOut rack area pool x (AnswerDoes x choices (command_in line) said)
  replied_switch leaf offline said is c = carried (switch_line leaf offline) (SwitchSays leaf offline said x) said is (λ holds store. switch_does x choices said holds store leaf offline) c

  pub replied_replace : (slot : ℕ) (sectors : Option ℕ) (said : Result Reply Failed) → line ≡ variant.Replace slot sectors → CarriesOut rack area pool x (ReplaceSays slot sectors said x)
      → CarriesOut rack area pool x (AnswerDoes x choices (command_in line) said)
  replied_replace slot sectors said is c = carried (ReplaceDisk slot sectors) (ReplaceSays slot sectors said x) said (ap command_in is) (λ holds store. replace_does x choices said holds store slot sectors) c

  pub replied_spare : (slot spare : ℕ) (said : Result Reply Failed) → line ≡ variant.Spare slot spare → CarriesOut rack area pool x (SpareSays slot spare said x) → CarriesOut rack area pool x (AnswerDoes x choices (command_in line) said)
  replied_spare slot spare said is c = carried (AttachSpare slot spare) (SpareSays slot spare said x) said (ap command_in is) (λ holds store. spare_does x choices said holds store slot spare) c

  pub replied_detach : (arm : ArmArgument) (said : Result Reply Failed) → line ≡ variant.Detach arm → CarriesOut rack area pool x (DetachSays arm said x) → CarriesOut rack area pool x (AnswerDoes x choices (command_in line) said)
  replied_detach arm said is c = carried (DetachArm arm) (DetachSays arm said x) said (ap command_in is) (λ holds store. detach_does x choices said holds store arm) c

  pub replied_rebuild : (limit : Option ℕ) (said : Result Reply Failed) → line ≡ variant.Rebuild limit → CarriesOut rack area pool x (RebuildSays limit said x)
      → CarriesOut rack area pool x (AnswerDoes x choices (command_in line) said)
  replied_rebuild limit said is c = carried (RebuildPool limit) (RebuildSays limit said x) said (ap command_in is) (λ holds store. rebuild_does x choices said holds store limit) c

  pub replied_rebalance : (slot : ℕ) (said : Result Reply Failed) → line ≡ variant.Rebalance slot → CarriesOut rack area pool x (RebalanceSays slot said x)
      → CarriesOut rack area pool x (AnswerDoes x choices (command_in line) said)
  replied_rebalance slot said is c = carried (RebalanceSlot slot) (RebalanceSays slot said x) said (ap command_in is) (λ holds store. rebalance_does x choices said holds store slot) c

  pub replied_sync : (said : Result Reply Failed) → line ≡ variant.Sync → CarriesOut rack area pool x (SyncSays said x) → CarriesOut rack area pool x (AnswerDoes x choices (command_in line) said)
  replied_sync said is c = carried SyncPool (SyncSays said x) said (ap command_in is) (λ holds store. sync_does x choices said holds store) c

  pub replied_take : (said : Result Reply Failed) → line ≡ variant.Checkpoint → CarriesOut rack area pool x (TakeSays said x) → CarriesOut rack area pool x (AnswerDoes x choices (command_in line) said)
  replied_take said is c = carried TakeCheckpoint (TakeSays said x) said (ap command_in is) (λ holds store. take_does x choices said holds store) c

  pub replied_rewind : (said : Result Reply Failed) → line ≡ variant.Rewind → CarriesOut rack area pool x (RewindSays said x) → CarriesOut rack area pool x (AnswerDoes x choices (command_in line) said)
  replied_rewind said is c = carried RewindPool (RewindSays said x) said (ap command_in is) (λ holds store. rewind_does x choices said holds store) c

  pub replied_discard : (said : Result Reply Failed) → line ≡ variant.Discard → CarriesOut rack area pool x (DiscardSays said x) → CarriesOut rack area pool x (AnswerDoes x choices (command_in line) said)
  replied_discard said is c = carried DiscardCheckpoint (DiscardSays said x) said (ap command_in is) (λ holds store. discard_does x choices said holds store) c

  pub replied_upgrade : (said : Result Reply Failed) → line ≡ variant.Upgrade → CarriesOut rack area pool x (UpgradeSays said x) → CarriesOut rack area pool x (AnswerDoes x choices (command_in line) said)
  replied_upgrade said is c = carried UpgradePool (UpgradeSays said x) said (ap command_in is) (λ holds store. upgrade_does x choices said holds store) c

module _ {R A : Type 0} (rack : racks.Ghosts R) (area : areas.Ghosts A) (choices : Choices) (line : Line) (x : State) (pool : Pool R A) (reply : Reply) where
  replied_by : (command : Command) (says : List Hold → Store → Type 0) → command_in line ≡ command → ((holds : List Hold) (store : Store) → says holds store → ReplyDoes x choices command reply holds store)
      → CarriesOut rack area pool x says → CarriesOut rack area pool x (ReplyDoes x choices (command_in line) reply)
  replied_by command says is does c = record {
    holds = c.holds;
    reached = c.reached;
    store = c.store;
    follows = c.follows;
    done = subst (λ k. ReplyDoes x choices k reply c.holds c.store) (sym is) (does c.holds c.store c.done);
    represents = c.represents;
  }

  pub replied_as : (command : Command) → command_in line ≡ command → CarriesOut rack area pool x (ReplyDoes x choices command reply) → CarriesOut rack area pool x (ReplyDoes x choices (command_in line) reply)
  replied_as command is = replied_by command (ReplyDoes x choices command reply) is (λ holds store does. does)

  pub replied_read : (o : ℕ) → line ≡ variant.Read o → CarriesOut rack area pool x (ReadSays o reply x) → CarriesOut rack area pool x (ReplyDoes x choices (command_in line) reply)
  replied_read o is = replied_by (ReadObject o) (ReadSays o reply x) (ap command_in is) (λ holds store. read_does x choices reply holds store o)

  pub replied_free : (o : ℕ) → line ≡ variant.Free o → CarriesOut rack area pool x (FreeSays o reply x) → CarriesOut rack area pool x (ReplyDoes x choices (command_in line) reply)
  replied_free o is = replied_by (FreeObject o) (FreeSays o reply x) (ap command_in is) (λ holds store. free_does x choices reply holds store o)

  pub replied_sum : (first count : ℕ) → line ≡ variant.Sum first count → CarriesOut rack area pool x (SumSays first count reply x) → CarriesOut rack area pool x (ReplyDoes x choices (command_in line) reply)
  replied_sum first count is = replied_by (SumObjects first count) (SumSays first count reply x) (ap command_in is) (λ holds store. sum_does x choices reply holds store first count)

  pub replied_cancel : line ≡ variant.Cancel → CarriesOut rack area pool x (CancelSays reply x) → CarriesOut rack area pool x (ReplyDoes x choices (command_in line) reply)
  replied_cancel is = replied_by CancelPasses (CancelSays reply x) (ap command_in is) (λ holds store. cancel_does x choices reply holds store)

  pub replied_scrub : (limit : Option ℕ) → line ≡ variant.Scrub limit → CarriesOut rack area pool x (ScrubSays limit reply x) → CarriesOut rack area pool x (ReplyDoes x choices (command_in line) reply)
  replied_scrub limit is = replied_by (ScrubPool limit) (ScrubSays limit reply x) (ap command_in is) (λ holds store. scrub_does x choices reply holds store limit)

  pub replied_damage : (leaf sector : ℕ) → line ≡ variant.Damage leaf sector → CarriesOut rack area pool x (DamageSays leaf sector reply x) → CarriesOut rack area pool x (ReplyDoes x choices (command_in line) reply)
  replied_damage leaf sector is = replied_by (DamageSector leaf sector) (DamageSays leaf sector reply x) (ap command_in is) (λ holds store. damage_does x choices reply holds store leaf sector)

  pub replied_status : (form : StatusFormat) → line ≡ variant.Status form → CarriesOut rack area pool x (StatusSays form reply x) → CarriesOut rack area pool x (ReplyDoes x choices (command_in line) reply)
  replied_status form is = replied_by (ShowStatus form) (StatusSays form reply x) (ap command_in is) (λ holds store. status_does x choices reply holds store form)
