-- What a lane's commands say of the objects, one after another.
use Rattle.std.proofs.Common.{◌≡◌, ◌∙◌, ℕ, suc, Bool, true, false, List, [], ◌∷◌, Option, Ok, Err, map, refl, sym, ap, subst}
use Rattle.std.specs.Prelude.{nat_eq}
use Rattle.std.specs.HashMap.{get}
use Rattle.draid_names.specs.declared.fault.Failed.{Failed}
use Rattle.draid_names.specs.declared.pointer.Pointer.{Pointer}
use Rattle.draid_rack.specs.declared.Rack as racks
use Rattle.draid_area.specs.declared.Area as areas
use Rattle.draid_script.specs.Line.{Command, Silent, CreatePool, ImportPool, ExportPool, SyncPool, CancelPasses, CrashPool, WriteObject, FillObjects, ReadObject, FreeObject, SumObjects, TakeOffline, TakeOnline, DamageSector, AttachSpare, ReplaceDisk, DetachArm, RebuildPool, ScrubPool, RebalanceSlot, ShowStatus, OpenLanes, UpgradePool, RunAgent, ShowJournal, TakeCheckpoint, RewindPool, DiscardCheckpoint, command_in}
use Rattle.draid_script.specs.declared.line.Line.{Line}
use Rattle.draid_reply.specs.declared.reply.Reply.{Reply}
use Rattle.draid_session.specs.Choices.{Choices}
use Rattle.draid_session.specs.Known.{Known, Learns}
use Rattle.draid_session.specs.Sections.{LaneLearns}
use Rattle.draid_session.specs.Session.{MayBreak}
use Rattle.draid_pool.specs.Knows.{KnowsTable}
use Rattle.draid_lanes.specs.Lanes.{table_of}
use Rattle.draid_lanes.specs.Locks.{owned_by}
use Rattle.draid_lanes.specs.Telling.{TeachesSo, beside}
use Rattle.draid_lanes.specs.declared.lane.Lane.{Lane}
use Rattle.draid_works.specs.Job.{AreRepliesTo, CommandsDone}
use Rattle.draid_works.specs.Lanes.{KnowsReply, TeachesOwn}
use Rattle.draid_works.specs.Replied.{CommandDone}

module _ {R A G W : Type 0} (rack : racks.Ghosts R) (area : areas.Ghosts A) (choices : Choices) (owns : ℕ → Bool) (rest : ℕ → Option Pointer) where
  abbrev With : Lane R A G W → ℕ → Option Pointer
  With lane = beside owns (table_of lane) rest

  -- a command on objects
  taught : (command : Command) (reply : Reply) (old new : Lane R A G W) → owned_by old.metaslabs.passes.items ≡ owns → TeachesOwn (owned_by old.metaslabs.passes.items) command reply (table_of old) (table_of new)
      → (known : Known) → KnowsTable (With old) known → KnowsReply command reply known (With new)
  taught command reply old new own teaches = subst (λ (f : ℕ → Bool). (known : Known) → KnowsTable (beside f (table_of old) rest) known → KnowsReply command reply known (beside f (table_of new) rest)) own (teaches rest)

  -- one that leaves what the lane has of its own
  untaught : (command : Command) (reply : Reply) (old new : Lane R A G W) → new.own ≡ old.own → ((known : Known) → Learns command reply known known) → (known : Known) → KnowsTable (With old) known → KnowsReply command reply known (With new)
  untaught command reply old new same quiet known knows = record {
    new = known;
    learns = quiet known;
    fits = subst (λ (t : ℕ → Option Pointer). KnowsTable (beside owns t rest) known) (ap (λ own o. get nat_eq own.objects o) (sym same)) knows;
  }

  one_taught : (command : Command) (reply : Reply) (old new : Lane R A G W) → owned_by old.metaslabs.passes.items ≡ owns → CommandDone rack area choices command (Ok reply) old new → (known : Known) → KnowsTable (With old) known → KnowsReply command reply known (With new)
  one_taught SyncPool reply old new own done = untaught SyncPool reply old new done.own (λ known. refl)
  one_taught (TakeOffline leaf) reply old new own done = untaught (TakeOffline leaf) reply old new done.own (λ known. refl)
  one_taught (TakeOnline leaf) reply old new own done = untaught (TakeOnline leaf) reply old new done.own (λ known. refl)
  one_taught (RebuildPool limit) reply old new own done = untaught (RebuildPool limit) reply old new done.own (λ known. refl)
  one_taught (ScrubPool limit) reply old new own done = untaught (ScrubPool limit) reply old new done.own (λ known. refl)
  one_taught (WriteObject object bytes) reply old new own done = taught (WriteObject object bytes) reply old new own done.teaches
  one_taught (FillObjects first count len seed) reply old new own done = taught (FillObjects first count len seed) reply old new own done.teaches
  one_taught (ReadObject object) reply old new own done = taught (ReadObject object) reply old new own done.teaches
  one_taught (FreeObject object) reply old new own done = taught (FreeObject object) reply old new own done.teaches
  one_taught (SumObjects first count) reply old new own done = taught (SumObjects first count) reply old new own done.teaches
  one_taught Silent reply old new own done = absurd done
  one_taught (CreatePool spec children keys) reply old new own done = absurd done
  one_taught ImportPool reply old new own done = absurd done
  one_taught ExportPool reply old new own done = absurd done
  one_taught CancelPasses reply old new own done = absurd done
  one_taught CrashPool reply old new own done = absurd done
  one_taught (DamageSector leaf sector) reply old new own done = absurd done
  one_taught (AttachSpare slot spare) reply old new own done = absurd done
  one_taught (ReplaceDisk slot sectors) reply old new own done = absurd done
  one_taught (DetachArm arm) reply old new own done = absurd done
  one_taught (RebalanceSlot slot) reply old new own done = absurd done
  one_taught (ShowStatus format) reply old new own done = absurd done
  one_taught (OpenLanes count) reply old new own done = absurd done
  one_taught UpgradePool reply old new own done = absurd done
  one_taught (RunAgent least) reply old new own done = absurd done
  one_taught ShowJournal reply old new own done = absurd done
  one_taught TakeCheckpoint reply old new own done = absurd done
  one_taught RewindPool reply old new own done = absurd done
  one_taught DiscardCheckpoint reply old new own done = absurd done

  -- one that an area failed
  record Stopped (command : Command) (old new : Lane R A G W) : Type 0 where
    pub may : MayBreak command
    pub own : new.own ≡ old.own

  one_stopped : (command : Command) (failed : Failed) (old new : Lane R A G W) → CommandDone rack area choices command (Err failed) old new → Stopped command old new
  one_stopped SyncPool failed old new done = record { may = tt; own = done.own }
  one_stopped (TakeOffline leaf) failed old new done = record { may = tt; own = done.own }
  one_stopped (TakeOnline leaf) failed old new done = record { may = tt; own = done.own }
  one_stopped (RebuildPool limit) failed old new done = record { may = tt; own = done.own }
  one_stopped (ScrubPool limit) failed old new done = absurd done
  one_stopped (WriteObject object bytes) failed old new done = absurd done
  one_stopped (FillObjects first count len seed) failed old new done = absurd done
  one_stopped (ReadObject object) failed old new done = absurd done
  one_stopped (FreeObject object) failed old new done = absurd done
  one_stopped (SumObjects first count) failed old new done = absurd done
  one_stopped Silent failed old new done = absurd done
  one_stopped (CreatePool spec children keys) failed old new done = absurd done
  one_stopped ImportPool failed old new done = absurd done
  one_stopped ExportPool failed old new done = absurd done
  one_stopped CancelPasses failed old new done = absurd done
  one_stopped CrashPool failed old new done = absurd done
  one_stopped (DamageSector leaf sector) failed old new done = absurd done
  one_stopped (AttachSpare slot spare) failed old new done = absurd done
  one_stopped (ReplaceDisk slot sectors) failed old new done = absurd done
  one_stopped (DetachArm arm) failed old new done = absurd done
  one_stopped (RebalanceSlot slot) failed old new done = absurd done
  one_stopped (ShowStatus format) failed old new done = absurd done
  one_stopped (OpenLanes count) failed old new done = absurd done
  one_stopped UpgradePool failed old new done = absurd done
  one_stopped (RunAgent least) failed old new done = absurd done
  one_stopped ShowJournal failed old new done = absurd done
  one_stopped TakeCheckpoint failed old new done = absurd done
  one_stopped RewindPool failed old new done = absurd done
  one_stopped DiscardCheckpoint failed old new done = absurd done

  -- all of them
  pub all_taught : (lines : List Line) (replies : List Reply) (stopped : Bool) (old new : Lane R A G W) → owned_by old.metaslabs.passes.items ≡ owns → CommandsDone rack area choices lines replies stopped old new → AreRepliesTo lines replies
      → (known : Known) → KnowsTable (With old) known → TeachesSo (λ known later. LaneLearns (map command_in lines) replies known later) known (With new)
  all_taught [] [] false old new own done fits known knows = record { new = known; learned = refl; fits = subst (λ (lane : Lane R A G W). KnowsTable (With lane) known) (sym done) knows }
  all_taught [] [] true old new own done fits known knows = absurd done
  all_taught [] (reply ∷ replies) stopped old new own done fits known knows = absurd done
  all_taught (line ∷ lines) (reply ∷ replies) stopped old new own (mid, leaves, one, more) fits known knows =
      let t = one_taught (command_in line) reply old mid own one known knows in
      let z = all_taught lines replies stopped mid new (leaves.same.owns ∙ own) more (λ i other said there here. fits (suc i) other said there here) t.new t.fits in
      record { new = z.new; learned = (fits 0 line reply refl refl, (t.new, t.learns, z.learned)); fits = z.fits }
  all_taught (line ∷ lines) [] false old new own done fits known knows = absurd done
  all_taught (line ∷ lines) [] true old new own (failed, leaves, one) fits known knows =
      let s = one_stopped (command_in line) failed old new one in
      record {
        new = known;
        learned = (s.may, refl);
        fits = subst (λ (t : ℕ → Option Pointer). KnowsTable (beside owns t rest) known) (ap (λ own o. get nat_eq own.objects o) (sym s.own)) knows;
      }
