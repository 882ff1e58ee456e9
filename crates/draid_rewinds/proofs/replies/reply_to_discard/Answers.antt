use Rattle.std.proofs.Common.{◌∙◌, Ok, Err, ap, refl}
use Rattle.draid_pool.proofs.Steps.{by_answer}
use Rattle.draid_rewinds.specs.Back.{DiscardDoes}
use Rattle.draid_rewinds.specs.declared.fault.BackFault.TheVariants as fault
use Rattle.draid_rewinds.proofs.Stopped.{stopped_failed, discard_fits}
use Rattle.draid_script.specs.declared.name.CommandName.TheVariants as name
use Rattle.draid_rewinds.proofs.replies.reply_to_discard.Goals as goal

pub returns-in-Ok : goal.returns-in-Ok
returns-in-Ok g c =
    record {
      whole = c.discard.ensures.whole;
      same = c.discard.ensures.same;
      later = c.discard.ensures.later;
      cause = λ failed. absurd (cc failed);
      fits = tt;
      step = λ x is. by_answer g.R.Rack g.A.Area (DiscardDoes x) _ x c.discard.new.pool c.discard.result (Ok c.in-Ok.field-0) c.in-Ok.is (λ holds store w. (Ok c.in-Ok.field-0, refl, w)) (c.discard.ensures.carries x is);
    }

pub returns-in-Err-Nothing : goal.returns-in-Err-Nothing
returns-in-Err-Nothing g c =
    let same = c.in-Err-Nothing.is ∙ ap Err c.in-Err-Nothing.field-0-is in
    record {
      whole = c.discard.ensures.whole;
      same = c.discard.ensures.same;
      later = c.discard.ensures.later;
      cause = λ failed. absurd (cc failed);
      fits = tt;
      step = λ x is. by_answer g.R.Rack g.A.Area (DiscardDoes x) _ x c.discard.new.pool c.discard.result (Err (fault.Nothing)) same (λ holds store w. (Err (fault.Nothing), refl, w)) (c.discard.ensures.carries x is);
    }

pub returns-in-Err-NoMemory : goal.returns-in-Err-NoMemory
returns-in-Err-NoMemory g c = absurd (c.discard.ensures.room (c.in-Err-NoMemory.is ∙ ap Err c.in-Err-NoMemory.field-0-is))

pub returns-in-Err-Sync : goal.returns-in-Err-Sync
returns-in-Err-Sync g c =
    let why = c.in-Err-Sync.why in
    let same = c.in-Err-Sync.is ∙ ap Err c.in-Err-Sync.field-0-is in
    let says = c.stopped.ensures.says in
    record {
      whole = c.discard.ensures.whole;
      same = c.discard.ensures.same;
      later = c.discard.ensures.later;
      cause = λ failed. c.discard.ensures.cause (same ∙ ap (λ w. Err (fault.Sync w)) (stopped_failed name.Discard why c.stopped.result says failed));
      fits = discard_fits why c.stopped.result says;
      step = λ x is. by_answer g.R.Rack g.A.Area (DiscardDoes x) _ x c.discard.new.pool c.discard.result (Err (fault.Sync why)) same (λ holds store w. (Err (fault.Sync why), says, w)) (c.discard.ensures.carries x is);
    }
