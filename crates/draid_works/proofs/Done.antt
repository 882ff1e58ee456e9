-- What commands of a lane did, by their answers and replies.
use Rattle.std.proofs.Common.{◌≡◌, ℕ, Bool, true, false, List, Option, Some, Result, Ok, Err, IfOk, Vec, Global, ap, refl, sym, subst, nat_eq, None}
use Rattle.std.specs.Prelude.{IsErr, IsErrOf}
use Rattle.std.specs.HashMap.{get}
use Rattle.draid_names.specs.declared.fault.Failed.{Failed}
use Rattle.draid_names.specs.declared.refusal.ObjectFault.{ObjectFault}
use Rattle.draid_names.specs.declared.refusal.ObjectFault.TheVariants as object
use Rattle.draid_names.specs.declared.refusal.WriteFault.{WriteFault}
use Rattle.draid_names.specs.declared.refusal.WriteFault.TheVariants as fault
use Rattle.draid_names.specs.declared.room.Room.{Room}
use Rattle.draid_rack.specs.declared.Rack as racks
use Rattle.draid_area.specs.declared.Area as areas
use Rattle.draid_script.specs.Line.{Command, FreeObject, ReadObject, RebuildPool, ScrubPool, SumObjects, SyncPool, TakeOffline, TakeOnline, WriteObject}
use Rattle.draid_reply.specs.declared.reply.Reply.{Reply}
use Rattle.draid_session.specs.Choices.{Choices, choices_by}
use Rattle.draid_session.specs.Holds.{Hold}
use Rattle.draid_session.specs.Lanes.{LeavesLooks}
use Rattle.draid_session.specs.Replies.{IsReplyTo, IsWithin}
use Rattle.draid_session.specs.State.{State, Store}
use Rattle.draid_pool.specs.Carries.{ReplyDoes}
use Rattle.draid_pool.specs.Says.{IsSyncReply}
use Rattle.draid_pool.specs.declared.fault.SyncFault.{SyncFault}
use Rattle.draid_pool.specs.declared.fault.SyncFault.TheVariants as syncing
use Rattle.draid_pool.specs.declared.fault.Synced.{Synced}
use Rattle.draid_pool.proofs.Joining.{leads_as}
use Rattle.draid_store.specs.Answers.{FreeDoes, ReadDoes, SumDoes, WriteDoes}
use Rattle.draid_store.specs.Batches.{SumTries}
use Rattle.draid_store.specs.Fetching.{OwnsFrom}
use Rattle.draid_store.specs.Pointers.{ReadFinds, TriesTake}
use Rattle.draid_store.specs.PointerSums.{SumFinds}
use Rattle.draid_store.specs.Says.{FreeSays, ReadSays, SumSays, free_reply, read_reply, sum_reply}
use Rattle.draid_store.specs.declared.fault.FreeFault.{FreeFault}
use Rattle.draid_store.specs.declared.fault.SumFault.{SumFault}
use Rattle.draid_store.proofs.ReadSteps.{tries_but}
use Rattle.draid_changes.specs.Says.{IsSwitchReply}
use Rattle.draid_changes.specs.declared.fault.ArmFault.{ArmFault}
use Rattle.draid_changes.specs.declared.fault.ArmFault.TheVariants as changing
use Rattle.draid_visits.specs.Says.{IsRebuildReply, IsScrubReply}
use Rattle.draid_visits.specs.declared.rebuilding.MendFault.{MendFault}
use Rattle.draid_visits.specs.declared.rebuilding.MendFault.TheVariants as mending
use Rattle.draid_visits.specs.declared.rebuilding.Mended.{Mended}
use Rattle.draid_lanes.specs.Lanes.{table_of}
use Rattle.draid_lanes.specs.Locks.{owned_by}
use Rattle.draid_lanes.specs.Waits.{LaneWent}
use Rattle.draid_lanes.specs.declared.lane.Lane.{Lane}
use Rattle.draid_works.specs.Lanes.{LaneCarries, LaneKnows}
use Rattle.draid_works.specs.Replied.{DoesOnObjects, ObjectsDone, write_reply}
use Rattle.draid_works.specs.Waiting.{LooksBut, WriteSetsTable}
use Rattle.draid_works.proofs.FilledIn.{KnowsThen}
use Rattle.draid_works.proofs.BesideTable.{own_free, own_read, own_sum, own_write}
use Rattle.draid_works.proofs.Waited.{left_all, left_less}
use Rattle.draid_objects.specs.Marks.{check_by}
use Rattle.draid_store.specs.Freeing.{HasLoose}
use Rattle.draid_pool.proofs.Points.{none_kept_of}

-- ---- what answers do, in the words of replies

write_says : (x : State) (chosen : List Room → Option ℕ → Type 0) (o : ℕ) (bytes : List ℕ) (result : Result Unit WriteFault) (holds : List Hold) (store : Store) → WriteDoes x chosen o bytes result holds store
    → ReplyDoes x (choices_by chosen) (WriteObject o bytes) (write_reply o result) holds store
write_says x chosen o bytes (Ok done) holds store does = (refl, does)
write_says x chosen o bytes (Err (fault.NoSpace run disabled full worn)) holds store does = (refl, does)
write_says x chosen o bytes (Err (fault.Missed columns)) holds store does = (refl, does)
write_says x chosen o bytes (Err fault.Last) holds store does = (refl, does)
write_says x chosen o bytes (Err fault.NoMemory) holds store does = does

module _ (x : State) (choices : Choices) (reply : Reply) (holds : List Hold) (store : Store) where
  read_says : (o : ℕ) → ReadSays o reply x holds store → ReplyDoes x choices (ReadObject o) reply holds store
  read_says o said = subst (λ r. ReplyDoes x choices (ReadObject o) r holds store) (sym said.1) (by said.0 said.2) where
    by : (answer : Result (Vec ℕ Global) ObjectFault) → ReadDoes x o answer holds store → ReplyDoes x choices (ReadObject o) (read_reply o answer) holds store
    by (Ok bytes) does = (refl, does.0, does.1)
    by (Err object.NoObject) does = (refl, does.0, does.1, does.2)
    by (Err (object.Unreadable absent tried)) does = (refl, does.0, does.1)
    by (Err object.Worn) does = (refl, does.0, does.1)
    by (Err object.NoMemory) does = does

  free_says : (o : ℕ) → FreeSays o reply x holds store → ReplyDoes x choices (FreeObject o) reply holds store
  free_says o said = subst (λ r. ReplyDoes x choices (FreeObject o) r holds store) (sym said.1) (by said.0 said.2) where
    by : (answer : Result Unit FreeFault) → FreeDoes x o answer holds store → ReplyDoes x choices (FreeObject o) (free_reply o answer) holds store
    by (Ok done) does = (refl, does)
    by (Err fault) does = (refl, does.0, does.1, does.2)

  sum_says : (first count : ℕ) → SumSays first count reply x holds store → ReplyDoes x choices (SumObjects first count) reply holds store
  sum_says first count said = subst (λ r. ReplyDoes x choices (SumObjects first count) r holds store) (sym said.1) (by said.0 said.2) where
    by : (answer : Result (List ℕ) SumFault) → SumDoes x first count answer holds store → ReplyDoes x choices (SumObjects first count) (sum_reply first count answer) holds store
    by (Ok digest) does = (refl, refl, does.0, does.1)
    by (Err fault) does = does

-- no look is left out
all_left : (does : List Hold → Store → Type 0) (holds : List Hold) (store : Store) → does holds store → LooksBut does holds store
all_left does holds store is = (holds, left_all holds, is)

sum_left : (x : State) (first count : ℕ) (result : Result (List ℕ) SumFault) (reply : Reply) → reply ≡ sum_reply first count result → (holds : List Hold) (store : Store) → SumTries x first count result holds store → LooksBut (SumSays first count reply x) holds store
sum_left x first count result reply said holds store is =
    let but = tries_but x first count result holds store is in
    (but.front, left_less holds but.front but.back but.looks (subst (LeavesLooks holds) but.are (left_all holds)), (result, said, but.did))

-- ---- a lane's commands on its objects

module _ {R A G W : Type 0} (rack : racks.Ghosts R) (area : areas.Ghosts A) (old new : Lane R A G W) where
  -- what is done is told otherwise
  carries_as : (x : State) (does says : List Hold → Store → Type 0) → ((holds : List Hold) (store : Store) → does holds store → says holds store) → LaneCarries rack area old new x does → LaneCarries rack area old new x says
  carries_as x does says so carries = leads_as rack area (LaneWent rack area) true old.metaslabs new.metaslabs x does says (KnowsThen rack area old new) so carries

  objects_as : (command : Command) (reply : Reply) (does says : State → List Hold → Store → Type 0) → ((x : State) (holds : List Hold) (store : Store) → does x holds store → says x holds store) → DoesOnObjects rack area command reply does old new
      → DoesOnObjects rack area command reply says old new
  objects_as command reply does says so d = record {
    pass = d.pass;
    teaches = d.teaches;
    step = λ x layout none knows. carries_as x (LooksBut (does x)) (LooksBut (says x)) (λ holds store l. (l.0, l.1, so x l.0 store l.2)) (d.step x layout none knows);
  }

  module _ (choices : Choices) (reply : Reply) where
    pub read_as : (o : ℕ) → DoesOnObjects rack area (ReadObject o) reply (ReadSays o reply) old new → ObjectsDone rack area choices (ReadObject o) reply old new
    read_as o d = objects_as (ReadObject o) reply (ReadSays o reply) (λ x. ReplyDoes x choices (ReadObject o) reply) (λ x holds store s. read_says x choices reply holds store o s) d

    pub free_as : (o : ℕ) → DoesOnObjects rack area (FreeObject o) reply (FreeSays o reply) old new → ObjectsDone rack area choices (FreeObject o) reply old new
    free_as o d = objects_as (FreeObject o) reply (FreeSays o reply) (λ x. ReplyDoes x choices (FreeObject o) reply) (λ x holds store s. free_says x choices reply holds store o s) d

    pub sum_as : (first count : ℕ) → DoesOnObjects rack area (SumObjects first count) reply (SumSays first count reply) old new → ObjectsDone rack area choices (SumObjects first count) reply old new
    sum_as first count d = objects_as (SumObjects first count) reply (SumSays first count reply) (λ x. ReplyDoes x choices (SumObjects first count) reply) (λ x holds store s. sum_says x choices reply holds store first count s) d

  -- what the lane has of its own is the same
  same_table : new.own ≡ old.own → (o : ℕ) → table_of new o ≡ table_of old o
  same_table own o = ap (λ own. get nat_eq own.objects o) own

  module _ (reply : Reply) (pass : new.pass ≡ old.pass) where
    pub write_done : (chosen : List Room → Option ℕ → Type 0) (o : ℕ) (bytes : List ℕ) (result : Result Unit WriteFault) → owned_by old.metaslabs.passes.items o ≡ true → reply ≡ write_reply o result → WriteSetsTable o bytes (table_of old) (table_of new) result
        → ((x : State) → x.geometry ≡ old.geometry → check_by x.store.marks ≡ None → LaneKnows rack area old x → LaneCarries rack area old new x (LooksBut (WriteDoes x chosen o bytes result))) → ObjectsDone rack area (choices_by chosen) (WriteObject o bytes) reply old new
    write_done chosen o bytes result own said sets step = record {
      pass = pass;
      teaches = own_write (owned_by old.metaslabs.passes.items) (table_of old) (table_of new) o bytes result reply own said sets;
      step = λ x layout none knows. carries_as x (LooksBut (WriteDoes x chosen o bytes result)) (LooksBut (ReplyDoes x (choices_by chosen) (WriteObject o bytes) reply))
          (λ holds store l. (l.0, l.1, subst (λ r. ReplyDoes x (choices_by chosen) (WriteObject o bytes) r l.0 store) (sym said) (write_says x chosen o bytes result l.0 store l.2))) (step x layout none knows);
    }

    pub read_done : (o : ℕ) (result : Result (Vec ℕ Global) ObjectFault) → owned_by old.metaslabs.passes.items o ≡ true → reply ≡ read_reply o result → new.own ≡ old.own → ReadFinds (table_of old o) result
        → ((x : State) → x.geometry ≡ old.geometry → LaneKnows rack area old x → LaneCarries rack area old new x (ReadDoes x o result)) → DoesOnObjects rack area (ReadObject o) reply (ReadSays o reply) old new
    read_done o result own said same finds step = record {
      pass = pass;
      teaches = own_read (owned_by old.metaslabs.passes.items) (table_of old) (table_of new) o result reply own (same_table same) said finds;
      step = λ x layout none knows. carries_as x (ReadDoes x o result) (LooksBut (ReadSays o reply x)) (λ holds store d. all_left (ReadSays o reply x) holds store (result, said, d)) (step x layout knows);
    }

    pub free_done : (o : ℕ) (result : Result Unit FreeFault) → owned_by old.metaslabs.passes.items o ≡ true → reply ≡ free_reply o result → TriesTake o (table_of old) (table_of new) (Some result)
        → ((x : State) → HasLoose x.store o → LaneKnows rack area old x → LaneCarries rack area old new x (LooksBut (FreeDoes x o result))) → DoesOnObjects rack area (FreeObject o) reply (FreeSays o reply) old new
    free_done o result own said takes step = record {
      pass = pass;
      teaches = own_free (owned_by old.metaslabs.passes.items) (table_of old) (table_of new) o result reply own said takes;
      step = λ x layout none knows. carries_as x (LooksBut (FreeDoes x o result)) (LooksBut (FreeSays o reply x)) (λ holds store l. (l.0, l.1, (result, said, l.2))) (step x (λ w is. none_kept_of x.store.marks w.birth none) knows);
    }

    pub sum_done : (first count : ℕ) (result : Result (List ℕ) SumFault) → OwnsFrom (owned_by old.metaslabs.passes.items) first count → reply ≡ sum_reply first count result → new.own ≡ old.own → SumFinds (table_of old) first count result
        → ((x : State) → x.geometry ≡ old.geometry → LaneKnows rack area old x → LaneCarries rack area old new x (SumTries x first count result)) → DoesOnObjects rack area (SumObjects first count) reply (SumSays first count reply) old new
    sum_done first count result own said same finds step = record {
      pass = pass;
      teaches = own_sum (owned_by old.metaslabs.passes.items) (table_of old) (table_of new) first count result reply own (same_table same) said finds;
      step = λ x layout none knows. carries_as x (SumTries x first count result) (LooksBut (SumSays first count reply x)) (sum_left x first count result reply said) (step x layout knows);
    }

-- ---- replies are to their commands

pub write_fits : (o : ℕ) (bytes : List ℕ) (result : Result Unit WriteFault) (reply : Reply) → reply ≡ write_reply o result → IsReplyTo (WriteObject o bytes) reply
write_fits o bytes result reply said = subst (IsReplyTo (WriteObject o bytes)) (sym said) (by result) where
  by : (result : Result Unit WriteFault) → IsReplyTo (WriteObject o bytes) (write_reply o result)
  by (Ok done) = refl
  by (Err (fault.NoSpace run disabled full worn)) = refl
  by (Err (fault.Missed columns)) = refl
  by (Err fault.Last) = refl
  by (Err fault.NoMemory) = tt

pub read_fits : (o : ℕ) (result : Result (Vec ℕ Global) ObjectFault) (reply : Reply) → reply ≡ read_reply o result → IsReplyTo (ReadObject o) reply
read_fits o result reply said = subst (IsReplyTo (ReadObject o)) (sym said) (by result) where
  by : (result : Result (Vec ℕ Global) ObjectFault) → IsReplyTo (ReadObject o) (read_reply o result)
  by (Ok bytes) = refl
  by (Err object.NoObject) = refl
  by (Err (object.Unreadable absent tried)) = refl
  by (Err object.Worn) = refl
  by (Err object.NoMemory) = tt

pub free_fits : (o : ℕ) (result : Result Unit FreeFault) (reply : Reply) → reply ≡ free_reply o result → IsReplyTo (FreeObject o) reply
free_fits o result reply said = subst (IsReplyTo (FreeObject o)) (sym said) (by result) where
  by : (result : Result Unit FreeFault) → IsReplyTo (FreeObject o) (free_reply o result)
  by (Ok done) = refl
  by (Err fault) = refl

pub sum_fits : (first count : ℕ) (result : Result (List ℕ) SumFault) (reply : Reply) → reply ≡ sum_reply first count result → IsReplyTo (SumObjects first count) reply
sum_fits first count result reply said = subst (IsReplyTo (SumObjects first count)) (sym said) (by result) where
  by : (result : Result (List ℕ) SumFault) → IsReplyTo (SumObjects first count) (sum_reply first count result)
  by (Ok digest) = (refl, refl)
  by (Err fault) = tt

-- ---- commands in the uberblock's turn

-- one of some replies is to the command
said_fits : (command : Command) (said : Result Reply Failed) (reply : Reply) → said ≡ Ok reply → IsReplyTo command reply → IfOk said (IsReplyTo command)
said_fits command said reply is fits = subst (λ (r : Result Reply Failed). IfOk r (IsReplyTo command)) (sym is) fits

-- there is one
not_broke : {X : Type 0} (said : Result Reply Failed) (reply : Reply) → said ≡ Ok reply → IsErr said → X
not_broke said reply is err = (let broke = subst IsErr is err in absurd (cc broke))

pub sync_fits : (answer : Result Synced SyncFault) (said : Result Reply Failed) → IsSyncReply answer said → IfOk said (IsReplyTo SyncPool)
sync_fits (Ok it) said is = subst (λ (r : Result Reply Failed). IfOk r (IsReplyTo SyncPool)) (sym is) tt
sync_fits (Err syncing.Worn) said is = subst (λ (r : Result Reply Failed). IfOk r (IsReplyTo SyncPool)) (sym is) tt
sync_fits (Err syncing.Last) said is = subst (λ (r : Result Reply Failed). IfOk r (IsReplyTo SyncPool)) (sym is) tt
sync_fits (Err syncing.NoMemory) said is = subst (λ (r : Result Reply Failed). IfOk r (IsReplyTo SyncPool)) (sym is) tt
sync_fits (Err syncing.Shelf) (Ok reply) is = absurd is
sync_fits (Err syncing.Shelf) (Err failed) is = tt

pub sync_broke : (answer : Result Synced SyncFault) (said : Result Reply Failed) → IsSyncReply answer said → IsErr said → IsErrOf answer syncing.Shelf
sync_broke (Ok it) said is err = not_broke said _ is err
sync_broke (Err syncing.Worn) said is err = not_broke said _ is err
sync_broke (Err syncing.Last) said is err = not_broke said _ is err
sync_broke (Err syncing.NoMemory) said is err = not_broke said _ is err
sync_broke (Err syncing.Shelf) said is err = refl

pub offline_fits : (leaf : ℕ) (answer : Result Unit ArmFault) (said : Result Reply Failed) → IsSwitchReply leaf true answer said → IfOk said (IsReplyTo (TakeOffline leaf))
offline_fits leaf (Ok done) said is = said_fits (TakeOffline leaf) said is.0 is.1 (subst (IsReplyTo (TakeOffline leaf)) (sym is.2) refl)
offline_fits leaf (Err (changing.Slot why)) said is = said_fits (TakeOffline leaf) said _ is refl
offline_fits leaf (Err changing.Worn) said is = said_fits (TakeOffline leaf) said _ is refl
offline_fits leaf (Err changing.NoMemory) said is = said_fits (TakeOffline leaf) said _ is tt
offline_fits leaf (Err changing.Shelf) (Ok reply) is = absurd is
offline_fits leaf (Err changing.Shelf) (Err failed) is = tt

pub online_fits : (leaf : ℕ) (answer : Result Unit ArmFault) (said : Result Reply Failed) → IsSwitchReply leaf false answer said → IfOk said (IsReplyTo (TakeOnline leaf))
online_fits leaf (Ok done) said is = said_fits (TakeOnline leaf) said is.0 is.1 (subst (IsReplyTo (TakeOnline leaf)) (sym is.2) refl)
online_fits leaf (Err (changing.Slot why)) said is = said_fits (TakeOnline leaf) said _ is refl
online_fits leaf (Err changing.Worn) said is = said_fits (TakeOnline leaf) said _ is refl
online_fits leaf (Err changing.NoMemory) said is = said_fits (TakeOnline leaf) said _ is tt
online_fits leaf (Err changing.Shelf) (Ok reply) is = absurd is
online_fits leaf (Err changing.Shelf) (Err failed) is = tt

pub switch_broke : (leaf : ℕ) (offline : Bool) (answer : Result Unit ArmFault) (said : Result Reply Failed) → IsSwitchReply leaf offline answer said → IsErr said → IsErrOf answer changing.Shelf
switch_broke leaf true (Ok done) said is err = not_broke said is.0 is.1 err
switch_broke leaf true (Err (changing.Slot why)) said is err = not_broke said _ is err
switch_broke leaf true (Err changing.Worn) said is err = not_broke said _ is err
switch_broke leaf true (Err changing.NoMemory) said is err = not_broke said _ is err
switch_broke leaf true (Err changing.Shelf) said is err = refl
switch_broke leaf false (Ok done) said is err = not_broke said is.0 is.1 err
switch_broke leaf false (Err (changing.Slot why)) said is err = not_broke said _ is err
switch_broke leaf false (Err changing.Worn) said is err = not_broke said _ is err
switch_broke leaf false (Err changing.NoMemory) said is err = not_broke said _ is err
switch_broke leaf false (Err changing.Shelf) said is err = refl

pub rebuild_fits : (limit : Option ℕ) (answer : Result Mended MendFault) (said : Result Reply Failed) → IsRebuildReply answer said → IfOk answer (λ it. IsWithin limit it.units it.paused) → IfOk said (IsReplyTo (RebuildPool limit))
rebuild_fits limit (Ok it) said is within = said_fits (RebuildPool limit) said _ is within
rebuild_fits limit (Err mending.Nothing) said is within = said_fits (RebuildPool limit) said _ is tt
rebuild_fits limit (Err (mending.PassThere metaslab number)) said is within = said_fits (RebuildPool limit) said _ is tt
rebuild_fits limit (Err mending.Worn) said is within = said_fits (RebuildPool limit) said _ is tt
rebuild_fits limit (Err mending.Last) said is within = said_fits (RebuildPool limit) said _ is tt
rebuild_fits limit (Err mending.NoMemory) said is within = said_fits (RebuildPool limit) said _ is tt
rebuild_fits limit (Err mending.Shelf) (Ok reply) is within = absurd is
rebuild_fits limit (Err mending.Shelf) (Err failed) is within = tt

pub rebuild_broke : (answer : Result Mended MendFault) (said : Result Reply Failed) → IsRebuildReply answer said → IsErr said → IsErrOf answer mending.Shelf
rebuild_broke (Ok it) said is err = not_broke said _ is err
rebuild_broke (Err mending.Nothing) said is err = not_broke said _ is err
rebuild_broke (Err (mending.PassThere metaslab number)) said is err = not_broke said _ is err
rebuild_broke (Err mending.Worn) said is err = not_broke said _ is err
rebuild_broke (Err mending.Last) said is err = not_broke said _ is err
rebuild_broke (Err mending.NoMemory) said is err = not_broke said _ is err
rebuild_broke (Err mending.Shelf) said is err = refl

pub scrub_fits : (limit : Option ℕ) (answer : Result Mended MendFault) (reply : Reply) → IsScrubReply answer reply → IfOk answer (λ it. IsWithin limit it.units it.paused) → IsReplyTo (ScrubPool limit) reply
scrub_fits limit (Ok it) reply is within = subst (IsReplyTo (ScrubPool limit)) (sym is) within
scrub_fits limit (Err mending.Nothing) reply is within = absurd is
scrub_fits limit (Err (mending.PassThere metaslab number)) reply is within = subst (IsReplyTo (ScrubPool limit)) (sym is) tt
scrub_fits limit (Err mending.Worn) reply is within = subst (IsReplyTo (ScrubPool limit)) (sym is) tt
scrub_fits limit (Err mending.Last) reply is within = subst (IsReplyTo (ScrubPool limit)) (sym is) tt
scrub_fits limit (Err mending.NoMemory) reply is within = subst (IsReplyTo (ScrubPool limit)) (sym is) tt
scrub_fits limit (Err mending.Shelf) reply is within = absurd is
