use Rattle.std.proofs.Common.{◌∙◌, inl, inr, true, false, IfOk, ap, refl, subst, sym}
use Rattle.std.specs.Fn.{FnReturnsAt}
use Rattle.draid_session.specs.Choices.{choices_by}
use Rattle.draid_script.specs.Line.{AttachSpare, DiscardCheckpoint, RewindPool, TakeCheckpoint, FillObjects, IsInRange, TakeOffline, TakeOnline, DetachArm, SyncPool, UpgradePool, WriteObject, command_in, RebuildPool, ScrubPool, RebalanceSlot, ReplaceDisk, CancelPasses}
use Rattle.draid_session.specs.Replies.{IsReplyTo}
use Rattle.draid_pool.specs.Knows.{Teaches}
use Rattle.draid_pool.proofs.Rises.{rose_fails}
use Rattle.draid_pool.proofs.Taught.{teaches_nothing}
use Rattle.draid_session.specs.Certain.{MakesLeaves}
use Rattle.draid_session.specs.Known.{nothing_known}
use Rattle.draid_run.specs.Desks.{BreaksKnown}
use Rattle.draid_run.proofs.Checks.{teaches_rewind}
use Rattle.draid_run.proofs.Steps.{breaks_same}
use Rattle.draid_session.specs.Session.{MayBreak}
use Rattle.draid_changes.specs.Behind.{ArmsBehind}
use Rattle.draid_changes.proofs.Made.{rack_fails}
use Rattle.draid_visits.specs.Behind.{PassesBehind}
use Rattle.draid_run.proofs.Asking.{asks_nothing, each_reply, replied_as, replied_damage, replied_detach, replied_discard, replied_rewind, replied_take, replied_free, replied_read, replied_spare, replied_status, replied_sync, replied_sum, replied_switch, replied_upgrade, replied_replace, replied_cancel, replied_rebalance, replied_rebuild, replied_scrub}
use Rattle.draid_run.proofs.replies.reply.Goals as goal

pub returns-in-Write : goal.returns-in-Write
returns-in-Write g c = record {
  whole = c.reply_to_write.ensures.whole;
  fits = subst (λ k. IsReplyTo k c.reply_to_write.result) (sym (ap command_in c.in-Write.is ∙ ap (WriteObject c.in-Write.object) (sym c.deref.ensures.value))) c.reply_to_write.ensures.fits;
  knows = subst (λ k. Teaches k c.reply_to_write.result c.args.pool.now c.reply_to_write.new.pool) (sym (ap command_in c.in-Write.is ∙ ap (WriteObject c.in-Write.object) (sym c.deref.ensures.value))) c.reply_to_write.ensures.knows;
  arms = subst (λ k. ArmsBehind k c.reply_to_write.result c.reply_to_write.new.pool) (sym (ap command_in c.in-Write.is ∙ ap (WriteObject c.in-Write.object) (sym c.deref.ensures.value))) tt;
  passes = subst (λ k. PassesBehind k c.reply_to_write.result c.reply_to_write.new.pool) (sym (ap command_in c.in-Write.is ∙ ap (WriteObject c.in-Write.object) (sym c.deref.ensures.value))) tt;
  breaks = λ failed. absurd (cc failed);
  step = λ x rep. replied_as g.R.Rack g.A.Area (choices_by (FnReturnsAt g.F.Fn c.args.chooser.now)) c.args.line.now x c.reply_to_write.new.pool c.reply_to_write.result (WriteObject c.in-Write.object c.deref.result.now)
      (ap command_in c.in-Write.is ∙ ap (WriteObject c.in-Write.object) (sym c.deref.ensures.value)) (c.reply_to_write.ensures.step x rep);
}

pub returns-in-Fill : goal.returns-in-Fill
returns-in-Fill g c = record {
  whole = c.fill.ensures.whole;
  fits = subst (λ k. IsReplyTo k c.fill.result) (sym (ap command_in c.in-Fill.is)) c.fill.ensures.fits;
  knows = subst (λ k. Teaches k c.fill.result c.args.pool.now c.fill.new.pool) (sym (ap command_in c.in-Fill.is)) c.fill.ensures.knows;
  arms = subst (λ k. ArmsBehind k c.fill.result c.fill.new.pool) (sym (ap command_in c.in-Fill.is)) tt;
  passes = subst (λ k. PassesBehind k c.fill.result c.fill.new.pool) (sym (ap command_in c.in-Fill.is)) tt;
  breaks = λ failed. absurd (cc failed);
  step = λ x rep. replied_as g.R.Rack g.A.Area (choices_by (FnReturnsAt g.F.Fn c.args.chooser.now)) c.args.line.now x c.fill.new.pool c.fill.result (FillObjects c.in-Fill.first c.in-Fill.count c.in-Fill.len c.in-Fill.seed)
      (ap command_in c.in-Fill.is) (c.fill.ensures.step x rep);
}

pub returns-in-Free : goal.returns-in-Free
returns-in-Free g c = record {
  whole = c.reply_to_free.ensures.whole;
  fits = subst (λ k. IsReplyTo k c.reply_to_free.result) (sym (ap command_in c.in-Free.is)) c.reply_to_free.ensures.fits;
  knows = subst (λ k. Teaches k c.reply_to_free.result c.args.pool.now c.reply_to_free.new.pool) (sym (ap command_in c.in-Free.is)) c.reply_to_free.ensures.knows;
  arms = subst (λ k. ArmsBehind k c.reply_to_free.result c.reply_to_free.new.pool) (sym (ap command_in c.in-Free.is)) tt;
  passes = subst (λ k. PassesBehind k c.reply_to_free.result c.reply_to_free.new.pool) (sym (ap command_in c.in-Free.is)) tt;
  breaks = λ failed. absurd (cc failed);
  step = λ x rep. replied_free g.R.Rack g.A.Area (choices_by (FnReturnsAt g.F.Fn c.args.chooser.now)) c.args.line.now x c.reply_to_free.new.pool c.reply_to_free.result c.in-Free.object c.in-Free.is (c.reply_to_free.ensures.step x rep);
}

pub returns-in-Read : goal.returns-in-Read
returns-in-Read g c = record {
  whole = c.reply_to_read.ensures.whole;
  fits = subst (λ k. IsReplyTo k c.reply_to_read.result) (sym (ap command_in c.in-Read.is)) c.reply_to_read.ensures.fits;
  knows = subst (λ k. Teaches k c.reply_to_read.result c.args.pool.now c.reply_to_read.new.pool) (sym (ap command_in c.in-Read.is)) c.reply_to_read.ensures.knows;
  arms = subst (λ k. ArmsBehind k c.reply_to_read.result c.reply_to_read.new.pool) (sym (ap command_in c.in-Read.is)) tt;
  passes = subst (λ k. PassesBehind k c.reply_to_read.result c.reply_to_read.new.pool) (sym (ap command_in c.in-Read.is)) tt;
  breaks = λ failed. absurd (cc failed);
  step = λ x rep. replied_read g.R.Rack g.A.Area (choices_by (FnReturnsAt g.F.Fn c.args.chooser.now)) c.args.line.now x c.reply_to_read.new.pool c.reply_to_read.result c.in-Read.object c.in-Read.is (c.reply_to_read.ensures.step x rep);
}

pub returns-in-Sum : goal.returns-in-Sum
returns-in-Sum g c = record {
  whole = c.reply_to_sum.ensures.whole;
  fits = subst (λ k. IsReplyTo k c.reply_to_sum.result) (sym (ap command_in c.in-Sum.is)) c.reply_to_sum.ensures.fits;
  knows = subst (λ k. Teaches k c.reply_to_sum.result c.args.pool.now c.reply_to_sum.new.pool) (sym (ap command_in c.in-Sum.is)) c.reply_to_sum.ensures.knows;
  arms = subst (λ k. ArmsBehind k c.reply_to_sum.result c.reply_to_sum.new.pool) (sym (ap command_in c.in-Sum.is)) tt;
  passes = subst (λ k. PassesBehind k c.reply_to_sum.result c.reply_to_sum.new.pool) (sym (ap command_in c.in-Sum.is)) tt;
  breaks = λ failed. absurd (cc failed);
  step = λ x rep. replied_sum g.R.Rack g.A.Area (choices_by (FnReturnsAt g.F.Fn c.args.chooser.now)) c.args.line.now x c.reply_to_sum.new.pool c.reply_to_sum.result c.in-Sum.first c.in-Sum.count c.in-Sum.is (c.reply_to_sum.ensures.step x rep);
}

pub returns-in-Offline : goal.returns-in-Offline
returns-in-Offline g c =
    let e = c.reply_to_offline.ensures in
    let is = ap command_in c.in-Offline.is in
    record {
      whole = e.whole;
      fits = subst (λ k. IfOk c.reply_to_offline.result (IsReplyTo k)) (sym is) e.fits;
      knows = subst (λ k. IfOk c.reply_to_offline.result (λ reply. Teaches k reply c.args.pool.now c.reply_to_offline.new.pool)) (sym is)
          (each_reply c.reply_to_offline.result (λ reply. Teaches (TakeOffline c.in-Offline.leaf) reply c.args.pool.now c.reply_to_offline.new.pool) (λ reply. teaches_nothing (TakeOffline c.in-Offline.leaf) reply (λ known. refl) c.args.pool.now c.reply_to_offline.new.pool e.same));
      arms = subst (λ k. IfOk c.reply_to_offline.result (λ reply. ArmsBehind k reply c.reply_to_offline.new.pool)) (sym is) e.arms;
      passes = subst (λ k. IfOk c.reply_to_offline.result (λ reply. PassesBehind k reply c.reply_to_offline.new.pool)) (sym is) (each_reply c.reply_to_offline.result (λ reply. PassesBehind (TakeOffline c.in-Offline.leaf) reply c.reply_to_offline.new.pool) (λ reply. tt));
      breaks = λ failed. (subst MayBreak (sym is) tt, inl (rose_fails g.A.Area.faults c.args.pool.now c.reply_to_offline.new.pool (e.cause failed)), breaks_same (command_in c.args.line.now) c.args.pool.now c.reply_to_offline.new.pool e.same);
      step = λ x rep. replied_switch g.R.Rack g.A.Area (choices_by (FnReturnsAt g.F.Fn c.args.chooser.now)) c.args.line.now x c.reply_to_offline.new.pool c.in-Offline.leaf true c.reply_to_offline.result is (e.step x rep);
    }

pub returns-in-Online : goal.returns-in-Online
returns-in-Online g c =
    let e = c.reply_to_online.ensures in
    let is = ap command_in c.in-Online.is in
    record {
      whole = e.whole;
      fits = subst (λ k. IfOk c.reply_to_online.result (IsReplyTo k)) (sym is) e.fits;
      knows = subst (λ k. IfOk c.reply_to_online.result (λ reply. Teaches k reply c.args.pool.now c.reply_to_online.new.pool)) (sym is)
          (each_reply c.reply_to_online.result (λ reply. Teaches (TakeOnline c.in-Online.leaf) reply c.args.pool.now c.reply_to_online.new.pool) (λ reply. teaches_nothing (TakeOnline c.in-Online.leaf) reply (λ known. refl) c.args.pool.now c.reply_to_online.new.pool e.same));
      arms = subst (λ k. IfOk c.reply_to_online.result (λ reply. ArmsBehind k reply c.reply_to_online.new.pool)) (sym is) e.arms;
      passes = subst (λ k. IfOk c.reply_to_online.result (λ reply. PassesBehind k reply c.reply_to_online.new.pool)) (sym is) (each_reply c.reply_to_online.result (λ reply. PassesBehind (TakeOnline c.in-Online.leaf) reply c.reply_to_online.new.pool) (λ reply. tt));
      breaks = λ failed. (subst MayBreak (sym is) tt, inl (rose_fails g.A.Area.faults c.args.pool.now c.reply_to_online.new.pool (e.cause failed)), breaks_same (command_in c.args.line.now) c.args.pool.now c.reply_to_online.new.pool e.same);
      step = λ x rep. replied_switch g.R.Rack g.A.Area (choices_by (FnReturnsAt g.F.Fn c.args.chooser.now)) c.args.line.now x c.reply_to_online.new.pool c.in-Online.leaf false c.reply_to_online.result is (e.step x rep);
    }

pub returns-in-Spare : goal.returns-in-Spare
returns-in-Spare g c =
    let e = c.reply_to_spare.ensures in
    let is = ap command_in c.in-Spare.is in
    record {
      whole = e.whole;
      fits = subst (λ k. IfOk c.reply_to_spare.result (IsReplyTo k)) (sym is) e.fits;
      knows = subst (λ k. IfOk c.reply_to_spare.result (λ reply. Teaches k reply c.args.pool.now c.reply_to_spare.new.pool)) (sym is)
          (each_reply c.reply_to_spare.result (λ reply. Teaches (AttachSpare c.in-Spare.slot c.in-Spare.spare) reply c.args.pool.now c.reply_to_spare.new.pool)
          (λ reply. teaches_nothing (AttachSpare c.in-Spare.slot c.in-Spare.spare) reply (λ known. refl) c.args.pool.now c.reply_to_spare.new.pool e.same));
      arms = subst (λ k. IfOk c.reply_to_spare.result (λ reply. ArmsBehind k reply c.reply_to_spare.new.pool)) (sym is) e.arms;
      passes = subst (λ k. IfOk c.reply_to_spare.result (λ reply. PassesBehind k reply c.reply_to_spare.new.pool)) (sym is) (each_reply c.reply_to_spare.result (λ reply. PassesBehind (AttachSpare c.in-Spare.slot c.in-Spare.spare) reply c.reply_to_spare.new.pool) (λ reply. tt));
      breaks = λ failed. (subst MayBreak (sym is) tt, inl (rose_fails g.A.Area.faults c.args.pool.now c.reply_to_spare.new.pool (e.cause failed)), breaks_same (command_in c.args.line.now) c.args.pool.now c.reply_to_spare.new.pool e.same);
      step = λ x rep. replied_spare g.R.Rack g.A.Area (choices_by (FnReturnsAt g.F.Fn c.args.chooser.now)) c.args.line.now x c.reply_to_spare.new.pool c.in-Spare.slot c.in-Spare.spare c.reply_to_spare.result c.in-Spare.is (e.step x rep);
    }

pub returns-in-Replace : goal.returns-in-Replace
returns-in-Replace g c =
    let e = c.reply_to_replace.ensures in
    let is = ap command_in c.in-Replace.is in
    record {
      whole = e.whole;
      fits = subst (λ k. IfOk c.reply_to_replace.result (IsReplyTo k)) (sym is) e.fits;
      knows = subst (λ k. IfOk c.reply_to_replace.result (λ reply. Teaches k reply c.args.pool.now c.reply_to_replace.new.pool)) (sym is)
          (each_reply c.reply_to_replace.result (λ reply. Teaches (ReplaceDisk c.in-Replace.slot c.in-Replace.sectors) reply c.args.pool.now c.reply_to_replace.new.pool)
          (λ reply. teaches_nothing (ReplaceDisk c.in-Replace.slot c.in-Replace.sectors) reply (λ known. refl) c.args.pool.now c.reply_to_replace.new.pool e.same));
      arms = subst (λ k. IfOk c.reply_to_replace.result (λ reply. ArmsBehind k reply c.reply_to_replace.new.pool)) (sym is) e.arms;
      passes = subst (λ k. IfOk c.reply_to_replace.result (λ reply. PassesBehind k reply c.reply_to_replace.new.pool)) (sym is) (each_reply c.reply_to_replace.result (λ reply. PassesBehind (ReplaceDisk c.in-Replace.slot c.in-Replace.sectors) reply c.reply_to_replace.new.pool) (λ reply. tt));
      breaks = λ failed. (
        subst MayBreak (sym is) tt,
        (elim (e.cause failed) [
          | inl rose ↦ inl (rose_fails g.A.Area.faults c.args.pool.now c.reply_to_replace.new.pool rose)
          | inr rose ↦ inr (subst MakesLeaves (sym is) tt, rack_fails g.R.Rack.faults c.args.pool.now c.reply_to_replace.new.pool rose)
        ]),
        breaks_same (command_in c.args.line.now) c.args.pool.now c.reply_to_replace.new.pool e.same,
      );
      step = λ x rep. replied_replace g.R.Rack g.A.Area (choices_by (FnReturnsAt g.F.Fn c.args.chooser.now)) c.args.line.now x c.reply_to_replace.new.pool c.in-Replace.slot c.in-Replace.sectors c.reply_to_replace.result c.in-Replace.is (e.step x rep);
    }

pub returns-in-Detach : goal.returns-in-Detach
returns-in-Detach g c =
    let e = c.reply_to_detach.ensures in
    let is = ap command_in c.in-Detach.is in
    record {
      whole = e.whole;
      fits = subst (λ k. IfOk c.reply_to_detach.result (IsReplyTo k)) (sym is) e.fits;
      knows = subst (λ k. IfOk c.reply_to_detach.result (λ reply. Teaches k reply c.args.pool.now c.reply_to_detach.new.pool)) (sym is)
          (each_reply c.reply_to_detach.result (λ reply. Teaches (DetachArm c.in-Detach.arm) reply c.args.pool.now c.reply_to_detach.new.pool)
          (λ reply. teaches_nothing (DetachArm c.in-Detach.arm) reply (λ known. refl) c.args.pool.now c.reply_to_detach.new.pool e.same));
      arms = subst (λ k. IfOk c.reply_to_detach.result (λ reply. ArmsBehind k reply c.reply_to_detach.new.pool)) (sym is) e.arms;
      passes = subst (λ k. IfOk c.reply_to_detach.result (λ reply. PassesBehind k reply c.reply_to_detach.new.pool)) (sym is) (each_reply c.reply_to_detach.result (λ reply. PassesBehind (DetachArm c.in-Detach.arm) reply c.reply_to_detach.new.pool) (λ reply. tt));
      breaks = λ failed. (subst MayBreak (sym is) tt, inl (rose_fails g.A.Area.faults c.args.pool.now c.reply_to_detach.new.pool (e.cause failed)), breaks_same (command_in c.args.line.now) c.args.pool.now c.reply_to_detach.new.pool e.same);
      step = λ x rep. replied_detach g.R.Rack g.A.Area (choices_by (FnReturnsAt g.F.Fn c.args.chooser.now)) c.args.line.now x c.reply_to_detach.new.pool c.in-Detach.arm c.reply_to_detach.result c.in-Detach.is (e.step x rep);
    }

pub returns-in-Upgrade : goal.returns-in-Upgrade
returns-in-Upgrade g c =
    let e = c.reply_to_upgrade.ensures in
    let is = ap command_in c.in-Upgrade.is in
    record {
      whole = e.whole;
      fits = subst (λ k. IfOk c.reply_to_upgrade.result (IsReplyTo k)) (sym is) e.fits;
      knows = subst (λ k. IfOk c.reply_to_upgrade.result (λ reply. Teaches k reply c.args.pool.now c.reply_to_upgrade.new.pool)) (sym is)
          (each_reply c.reply_to_upgrade.result (λ reply. Teaches UpgradePool reply c.args.pool.now c.reply_to_upgrade.new.pool) (λ reply. teaches_nothing UpgradePool reply (λ known. refl) c.args.pool.now c.reply_to_upgrade.new.pool e.same));
      arms = subst (λ k. IfOk c.reply_to_upgrade.result (λ reply. ArmsBehind k reply c.reply_to_upgrade.new.pool)) (sym is) e.arms;
      passes = subst (λ k. IfOk c.reply_to_upgrade.result (λ reply. PassesBehind k reply c.reply_to_upgrade.new.pool)) (sym is) (each_reply c.reply_to_upgrade.result (λ reply. PassesBehind UpgradePool reply c.reply_to_upgrade.new.pool) (λ reply. tt));
      breaks = λ failed. (subst MayBreak (sym is) tt, inl (rose_fails g.A.Area.faults c.args.pool.now c.reply_to_upgrade.new.pool (e.cause failed)), breaks_same (command_in c.args.line.now) c.args.pool.now c.reply_to_upgrade.new.pool e.same);
      step = λ x rep. replied_upgrade g.R.Rack g.A.Area (choices_by (FnReturnsAt g.F.Fn c.args.chooser.now)) c.args.line.now x c.reply_to_upgrade.new.pool c.reply_to_upgrade.result c.in-Upgrade.is (e.step x rep);
    }

pub returns-in-Sync : goal.returns-in-Sync
returns-in-Sync g c =
    let e = c.reply_to_sync.ensures in
    let is = ap command_in c.in-Sync.is in
    record {
      whole = e.whole;
      fits = subst (λ k. IfOk c.reply_to_sync.result (IsReplyTo k)) (sym is) e.fits;
      knows = subst (λ k. IfOk c.reply_to_sync.result (λ reply. Teaches k reply c.args.pool.now c.reply_to_sync.new.pool)) (sym is)
          (each_reply c.reply_to_sync.result (λ reply. Teaches SyncPool reply c.args.pool.now c.reply_to_sync.new.pool) (λ reply. teaches_nothing SyncPool reply (λ known. refl) c.args.pool.now c.reply_to_sync.new.pool e.same));
      arms = subst (λ k. IfOk c.reply_to_sync.result (λ reply. ArmsBehind k reply c.reply_to_sync.new.pool)) (sym is) (each_reply c.reply_to_sync.result (λ reply. ArmsBehind SyncPool reply c.reply_to_sync.new.pool) (λ reply. tt));
      passes = subst (λ k. IfOk c.reply_to_sync.result (λ reply. PassesBehind k reply c.reply_to_sync.new.pool)) (sym is) (each_reply c.reply_to_sync.result (λ reply. PassesBehind SyncPool reply c.reply_to_sync.new.pool) (λ reply. tt));
      breaks = λ failed. (subst MayBreak (sym is) tt, inl (rose_fails g.A.Area.faults c.args.pool.now c.reply_to_sync.new.pool (e.cause failed)), breaks_same (command_in c.args.line.now) c.args.pool.now c.reply_to_sync.new.pool e.same);
      step = λ x rep. replied_sync g.R.Rack g.A.Area (choices_by (FnReturnsAt g.F.Fn c.args.chooser.now)) c.args.line.now x c.reply_to_sync.new.pool c.reply_to_sync.result c.in-Sync.is (e.step x rep);
    }

pub returns-in-Checkpoint : goal.returns-in-Checkpoint
returns-in-Checkpoint g c =
    let e = c.reply_to_checkpoint.ensures in
    let is = ap command_in c.in-Checkpoint.is in
    record {
      whole = e.whole;
      fits = subst (λ k. IfOk c.reply_to_checkpoint.result (IsReplyTo k)) (sym is) e.fits;
      knows = subst (λ k. IfOk c.reply_to_checkpoint.result (λ reply. Teaches k reply c.args.pool.now c.reply_to_checkpoint.new.pool)) (sym is)
          (each_reply c.reply_to_checkpoint.result (λ reply. Teaches TakeCheckpoint reply c.args.pool.now c.reply_to_checkpoint.new.pool) (λ reply. teaches_nothing TakeCheckpoint reply (λ known. refl) c.args.pool.now c.reply_to_checkpoint.new.pool e.same));
      arms = subst (λ k. IfOk c.reply_to_checkpoint.result (λ reply. ArmsBehind k reply c.reply_to_checkpoint.new.pool)) (sym is) (each_reply c.reply_to_checkpoint.result (λ reply. ArmsBehind TakeCheckpoint reply c.reply_to_checkpoint.new.pool) (λ reply. tt));
      passes = subst (λ k. IfOk c.reply_to_checkpoint.result (λ reply. PassesBehind k reply c.reply_to_checkpoint.new.pool)) (sym is) (each_reply c.reply_to_checkpoint.result (λ reply. PassesBehind TakeCheckpoint reply c.reply_to_checkpoint.new.pool) (λ reply. tt));
      breaks = λ failed. (subst MayBreak (sym is) tt, inl (rose_fails g.A.Area.faults c.args.pool.now c.reply_to_checkpoint.new.pool (e.cause failed)), breaks_same (command_in c.args.line.now) c.args.pool.now c.reply_to_checkpoint.new.pool e.same);
      step = λ x rep. replied_take g.R.Rack g.A.Area (choices_by (FnReturnsAt g.F.Fn c.args.chooser.now)) c.args.line.now x c.reply_to_checkpoint.new.pool c.reply_to_checkpoint.result c.in-Checkpoint.is (e.step x rep);
    }

pub returns-in-Rewind : goal.returns-in-Rewind
returns-in-Rewind g c =
    let e = c.reply_to_rewind.ensures in
    let is = ap command_in c.in-Rewind.is in
    record {
      whole = e.whole;
      fits = subst (λ k. IfOk c.reply_to_rewind.result (IsReplyTo k)) (sym is) e.fits;
      knows = subst (λ k. IfOk c.reply_to_rewind.result (λ reply. Teaches k reply c.args.pool.now c.reply_to_rewind.new.pool)) (sym is)
          (teaches_rewind c.reply_to_rewind.result c.args.pool.now c.reply_to_rewind.new.pool e.fits e.none);
      arms = subst (λ k. IfOk c.reply_to_rewind.result (λ reply. ArmsBehind k reply c.reply_to_rewind.new.pool)) (sym is) (each_reply c.reply_to_rewind.result (λ reply. ArmsBehind RewindPool reply c.reply_to_rewind.new.pool) (λ reply. tt));
      passes = subst (λ k. IfOk c.reply_to_rewind.result (λ reply. PassesBehind k reply c.reply_to_rewind.new.pool)) (sym is) (each_reply c.reply_to_rewind.result (λ reply. PassesBehind RewindPool reply c.reply_to_rewind.new.pool) (λ reply. tt));
      breaks = λ failed. (subst MayBreak (sym is) tt, inl (rose_fails g.A.Area.faults c.args.pool.now c.reply_to_rewind.new.pool (e.cause failed)), subst (λ k. BreaksKnown k c.args.pool.now c.reply_to_rewind.new.pool) (sym is) (λ known knows. (nothing_known, inr refl, λ object. tt)));
      step = λ x rep. replied_rewind g.R.Rack g.A.Area (choices_by (FnReturnsAt g.F.Fn c.args.chooser.now)) c.args.line.now x c.reply_to_rewind.new.pool c.reply_to_rewind.result c.in-Rewind.is (e.step x rep);
    }

pub returns-in-Discard : goal.returns-in-Discard
returns-in-Discard g c =
    let e = c.reply_to_discard.ensures in
    let is = ap command_in c.in-Discard.is in
    record {
      whole = e.whole;
      fits = subst (λ k. IfOk c.reply_to_discard.result (IsReplyTo k)) (sym is) e.fits;
      knows = subst (λ k. IfOk c.reply_to_discard.result (λ reply. Teaches k reply c.args.pool.now c.reply_to_discard.new.pool)) (sym is)
          (each_reply c.reply_to_discard.result (λ reply. Teaches DiscardCheckpoint reply c.args.pool.now c.reply_to_discard.new.pool) (λ reply. teaches_nothing DiscardCheckpoint reply (λ known. refl) c.args.pool.now c.reply_to_discard.new.pool e.same));
      arms = subst (λ k. IfOk c.reply_to_discard.result (λ reply. ArmsBehind k reply c.reply_to_discard.new.pool)) (sym is) (each_reply c.reply_to_discard.result (λ reply. ArmsBehind DiscardCheckpoint reply c.reply_to_discard.new.pool) (λ reply. tt));
      passes = subst (λ k. IfOk c.reply_to_discard.result (λ reply. PassesBehind k reply c.reply_to_discard.new.pool)) (sym is) (each_reply c.reply_to_discard.result (λ reply. PassesBehind DiscardCheckpoint reply c.reply_to_discard.new.pool) (λ reply. tt));
      breaks = λ failed. (subst MayBreak (sym is) tt, inl (rose_fails g.A.Area.faults c.args.pool.now c.reply_to_discard.new.pool (e.cause failed)), breaks_same (command_in c.args.line.now) c.args.pool.now c.reply_to_discard.new.pool e.same);
      step = λ x rep. replied_discard g.R.Rack g.A.Area (choices_by (FnReturnsAt g.F.Fn c.args.chooser.now)) c.args.line.now x c.reply_to_discard.new.pool c.reply_to_discard.result c.in-Discard.is (e.step x rep);
    }

pub returns-in-Rebuild : goal.returns-in-Rebuild
returns-in-Rebuild g c =
    let e = c.reply_to_rebuild.ensures in
    let is = ap command_in c.in-Rebuild.is in
    record {
      whole = e.whole;
      fits = subst (λ k. IfOk c.reply_to_rebuild.result (IsReplyTo k)) (sym is) e.fits;
      knows = subst (λ k. IfOk c.reply_to_rebuild.result (λ reply. Teaches k reply c.args.pool.now c.reply_to_rebuild.new.pool)) (sym is)
          (each_reply c.reply_to_rebuild.result (λ reply. Teaches (RebuildPool c.in-Rebuild.limit) reply c.args.pool.now c.reply_to_rebuild.new.pool)
          (λ reply. teaches_nothing (RebuildPool c.in-Rebuild.limit) reply (λ known. refl) c.args.pool.now c.reply_to_rebuild.new.pool e.same));
      arms = subst (λ k. IfOk c.reply_to_rebuild.result (λ reply. ArmsBehind k reply c.reply_to_rebuild.new.pool)) (sym is)
          (each_reply c.reply_to_rebuild.result (λ reply. ArmsBehind (RebuildPool c.in-Rebuild.limit) reply c.reply_to_rebuild.new.pool) (λ reply. tt));
      passes = subst (λ k. IfOk c.reply_to_rebuild.result (λ reply. PassesBehind k reply c.reply_to_rebuild.new.pool)) (sym is) e.passes;
      breaks = λ failed. (subst MayBreak (sym is) tt, inl (rose_fails g.A.Area.faults c.args.pool.now c.reply_to_rebuild.new.pool (e.cause failed)), breaks_same (command_in c.args.line.now) c.args.pool.now c.reply_to_rebuild.new.pool e.same);
      step = λ x rep. replied_rebuild g.R.Rack g.A.Area (choices_by (FnReturnsAt g.F.Fn c.args.chooser.now)) c.args.line.now x c.reply_to_rebuild.new.pool c.in-Rebuild.limit c.reply_to_rebuild.result c.in-Rebuild.is (e.step x rep);
    }

pub returns-in-Scrub : goal.returns-in-Scrub
returns-in-Scrub g c = record {
  whole = c.reply_to_scrub.ensures.whole;
  fits = subst (λ k. IsReplyTo k c.reply_to_scrub.result) (sym (ap command_in c.in-Scrub.is)) c.reply_to_scrub.ensures.fits;
  knows = subst (λ k. Teaches k c.reply_to_scrub.result c.args.pool.now c.reply_to_scrub.new.pool) (sym (ap command_in c.in-Scrub.is))
      (teaches_nothing (ScrubPool c.in-Scrub.limit) c.reply_to_scrub.result (λ known. refl) c.args.pool.now c.reply_to_scrub.new.pool c.reply_to_scrub.ensures.same);
  arms = subst (λ k. ArmsBehind k c.reply_to_scrub.result c.reply_to_scrub.new.pool) (sym (ap command_in c.in-Scrub.is)) tt;
  passes = subst (λ k. PassesBehind k c.reply_to_scrub.result c.reply_to_scrub.new.pool) (sym (ap command_in c.in-Scrub.is)) c.reply_to_scrub.ensures.passes;
  breaks = λ failed. absurd (cc failed);
  step = λ x rep. replied_scrub g.R.Rack g.A.Area (choices_by (FnReturnsAt g.F.Fn c.args.chooser.now)) c.args.line.now x c.reply_to_scrub.new.pool c.reply_to_scrub.result c.in-Scrub.limit c.in-Scrub.is (c.reply_to_scrub.ensures.step x rep);
}

pub returns-in-Rebalance : goal.returns-in-Rebalance
returns-in-Rebalance g c =
    let e = c.reply_to_rebalance.ensures in
    let is = ap command_in c.in-Rebalance.is in
    record {
      whole = e.whole;
      fits = subst (λ k. IfOk c.reply_to_rebalance.result (IsReplyTo k)) (sym is) e.fits;
      knows = subst (λ k. IfOk c.reply_to_rebalance.result (λ reply. Teaches k reply c.args.pool.now c.reply_to_rebalance.new.pool)) (sym is)
          (each_reply c.reply_to_rebalance.result (λ reply. Teaches (RebalanceSlot c.in-Rebalance.slot) reply c.args.pool.now c.reply_to_rebalance.new.pool)
          (λ reply. teaches_nothing (RebalanceSlot c.in-Rebalance.slot) reply (λ known. refl) c.args.pool.now c.reply_to_rebalance.new.pool e.same));
      arms = subst (λ k. IfOk c.reply_to_rebalance.result (λ reply. ArmsBehind k reply c.reply_to_rebalance.new.pool)) (sym is) e.arms;
      passes = subst (λ k. IfOk c.reply_to_rebalance.result (λ reply. PassesBehind k reply c.reply_to_rebalance.new.pool)) (sym is) e.passes;
      breaks = λ failed. (subst MayBreak (sym is) tt, inl (rose_fails g.A.Area.faults c.args.pool.now c.reply_to_rebalance.new.pool (e.cause failed)), breaks_same (command_in c.args.line.now) c.args.pool.now c.reply_to_rebalance.new.pool e.same);
      step = λ x rep. replied_rebalance g.R.Rack g.A.Area (choices_by (FnReturnsAt g.F.Fn c.args.chooser.now)) c.args.line.now x c.reply_to_rebalance.new.pool c.in-Rebalance.slot c.reply_to_rebalance.result c.in-Rebalance.is (e.step x rep);
    }

pub returns-in-Cancel : goal.returns-in-Cancel
returns-in-Cancel g c = record {
  whole = c.reply_to_cancel.ensures.whole;
  fits = subst (λ k. IsReplyTo k c.reply_to_cancel.result) (sym (ap command_in c.in-Cancel.is)) c.reply_to_cancel.ensures.fits;
  knows = subst (λ k. Teaches k c.reply_to_cancel.result c.args.pool.now c.reply_to_cancel.new.pool) (sym (ap command_in c.in-Cancel.is))
      (teaches_nothing CancelPasses c.reply_to_cancel.result (λ known. refl) c.args.pool.now c.reply_to_cancel.new.pool c.reply_to_cancel.ensures.same);
  arms = subst (λ k. ArmsBehind k c.reply_to_cancel.result c.reply_to_cancel.new.pool) (sym (ap command_in c.in-Cancel.is)) tt;
  passes = subst (λ k. PassesBehind k c.reply_to_cancel.result c.reply_to_cancel.new.pool) (sym (ap command_in c.in-Cancel.is)) c.reply_to_cancel.ensures.passes;
  breaks = λ failed. absurd (cc failed);
  step = λ x rep. replied_cancel g.R.Rack g.A.Area (choices_by (FnReturnsAt g.F.Fn c.args.chooser.now)) c.args.line.now x c.reply_to_cancel.new.pool c.reply_to_cancel.result c.in-Cancel.is (c.reply_to_cancel.ensures.step x rep);
}

pub returns-in-Damage : goal.returns-in-Damage
returns-in-Damage g c = record {
  whole = c.reply_to_damage.ensures.whole;
  fits = subst (λ k. IsReplyTo k c.reply_to_damage.result) (sym (ap command_in c.in-Damage.is)) c.reply_to_damage.ensures.fits;
  knows = subst (λ k. Teaches k c.reply_to_damage.result c.args.pool.now c.reply_to_damage.new.pool) (sym (ap command_in c.in-Damage.is)) c.reply_to_damage.ensures.knows;
  arms = subst (λ k. ArmsBehind k c.reply_to_damage.result c.reply_to_damage.new.pool) (sym (ap command_in c.in-Damage.is)) tt;
  passes = subst (λ k. PassesBehind k c.reply_to_damage.result c.reply_to_damage.new.pool) (sym (ap command_in c.in-Damage.is)) tt;
  breaks = λ failed. absurd (cc failed);
  step = λ x rep. replied_damage g.R.Rack g.A.Area (choices_by (FnReturnsAt g.F.Fn c.args.chooser.now)) c.args.line.now x c.reply_to_damage.new.pool c.reply_to_damage.result c.in-Damage.leaf c.in-Damage.sector c.in-Damage.is (c.reply_to_damage.ensures.step x rep);
}

pub returns-in-Status : goal.returns-in-Status
returns-in-Status g c = record {
  whole = c.requires.whole;
  fits = subst (λ k. IsReplyTo k c.reply_to_status.result) (sym (ap command_in c.in-Status.is)) c.reply_to_status.ensures.fits;
  knows = subst (λ k. Teaches k c.reply_to_status.result c.args.pool.now c.args.pool.now) (sym (ap command_in c.in-Status.is)) c.reply_to_status.ensures.knows;
  arms = subst (λ k. ArmsBehind k c.reply_to_status.result c.args.pool.now) (sym (ap command_in c.in-Status.is)) tt;
  passes = subst (λ k. PassesBehind k c.reply_to_status.result c.args.pool.now) (sym (ap command_in c.in-Status.is)) tt;
  breaks = λ failed. absurd (cc failed);
  step = λ x rep. replied_status g.R.Rack g.A.Area (choices_by (FnReturnsAt g.F.Fn c.args.chooser.now)) c.args.line.now x c.args.pool.now c.reply_to_status.result c.in-Status.format c.in-Status.is (c.reply_to_status.ensures.step x rep);
}

pub unreachable-requires : goal.unreachable-requires
unreachable-requires g c =
    c.requires.asks (asks_nothing c.args.line.now c.in_default.not-Write c.in_default.not-Fill c.in_default.not-Read c.in_default.not-Free c.in_default.not-Sum c.in_default.not-Offline c.in_default.not-Online c.in_default.not-Damage c.in_default.not-Spare c.in_default.not-Replace c.in_default.not-Status c.in_default.not-Detach c.in_default.not-Upgrade c.in_default.not-Rebuild c.in_default.not-Scrub c.in_default.not-Cancel c.in_default.not-Rebalance c.in_default.not-Sync c.in_default.not-Checkpoint c.in_default.not-Rewind c.in_default.not-Discard)

pub reply_to_write-requires-clause-range : goal.reply_to_write-requires-clause-range
reply_to_write-requires-clause-range g c = subst IsInRange (ap command_in c.in-Write.is ∙ ap (WriteObject c.in-Write.object) (sym c.deref.ensures.value)) c.requires.range

pub reply_to_write-requires-clause-chooser : goal.reply_to_write-requires-clause-chooser
reply_to_write-requires-clause-chooser g c = c.requires.chooser

pub reply_to_write-requires-clause-whole : goal.reply_to_write-requires-clause-whole
reply_to_write-requires-clause-whole g c = c.requires.whole

pub fill-requires-clause-range : goal.fill-requires-clause-range
fill-requires-clause-range g c = subst (λ l. IsInRange (command_in l)) c.in-Fill.is c.requires.range

pub fill-requires-clause-chooser : goal.fill-requires-clause-chooser
fill-requires-clause-chooser g c = c.requires.chooser

pub fill-requires-clause-whole : goal.fill-requires-clause-whole
fill-requires-clause-whole g c = c.requires.whole

pub reply_to_sum-requires-clause-range : goal.reply_to_sum-requires-clause-range
reply_to_sum-requires-clause-range g c κs within = subst (λ l. IsInRange (command_in l)) c.in-Sum.is c.requires.range

pub reply_to_sum-requires-clause-whole : goal.reply_to_sum-requires-clause-whole
reply_to_sum-requires-clause-whole g c κs within = c.requires.whole

pub reply_to_free-requires : goal.reply_to_free-requires
reply_to_free-requires g c = record { whole = c.requires.whole }

pub reply_to_read-requires : goal.reply_to_read-requires
reply_to_read-requires g c = record { whole = c.requires.whole }

pub reply_to_rebuild-requires : goal.reply_to_rebuild-requires
reply_to_rebuild-requires g c = record { whole = c.requires.whole }

pub reply_to_scrub-requires : goal.reply_to_scrub-requires
reply_to_scrub-requires g c = record { whole = c.requires.whole }

pub reply_to_rebalance-requires : goal.reply_to_rebalance-requires
reply_to_rebalance-requires g c = record { whole = c.requires.whole }

pub reply_to_cancel-requires : goal.reply_to_cancel-requires
reply_to_cancel-requires g c = record { whole = c.requires.whole }

pub reply_to_damage-requires : goal.reply_to_damage-requires
reply_to_damage-requires g c = record { whole = c.requires.whole }

pub reply_to_status-requires : goal.reply_to_status-requires
reply_to_status-requires g c = record { whole = c.requires.whole }

pub reply_to_offline-requires : goal.reply_to_offline-requires
reply_to_offline-requires g c = record { whole = c.requires.whole }

pub reply_to_online-requires : goal.reply_to_online-requires
reply_to_online-requires g c = record { whole = c.requires.whole }

pub reply_to_replace-requires : goal.reply_to_replace-requires
reply_to_replace-requires g c = record { whole = c.requires.whole }

pub reply_to_spare-requires : goal.reply_to_spare-requires
reply_to_spare-requires g c = record { whole = c.requires.whole }

pub reply_to_sync-requires : goal.reply_to_sync-requires
reply_to_sync-requires g c = record { whole = c.requires.whole }

pub reply_to_upgrade-requires : goal.reply_to_upgrade-requires
reply_to_upgrade-requires g c = record { whole = c.requires.whole }

pub reply_to_detach-requires : goal.reply_to_detach-requires
reply_to_detach-requires g c = record { whole = c.requires.whole }

pub reply_to_checkpoint-requires : goal.reply_to_checkpoint-requires
reply_to_checkpoint-requires g c = record { whole = c.requires.whole }

pub reply_to_rewind-requires : goal.reply_to_rewind-requires
reply_to_rewind-requires g c = record { whole = c.requires.whole }

pub reply_to_discard-requires : goal.reply_to_discard-requires
reply_to_discard-requires g c = record { whole = c.requires.whole }
