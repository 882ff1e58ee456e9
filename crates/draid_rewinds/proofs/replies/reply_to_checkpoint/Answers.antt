use Rattle.std.proofs.Common.{◌∙◌, Ok, Err, ap, refl}
use Rattle.draid_pool.proofs.Steps.{by_answer}
use Rattle.draid_rewinds.specs.Taking.{TakeDoes}
use Rattle.draid_rewinds.specs.declared.fault.TakeFault.TheVariants as fault
use Rattle.draid_rewinds.proofs.Stopped.{stopped_failed, take_fits}
use Rattle.draid_script.specs.declared.name.CommandName.TheVariants as name
use Rattle.draid_rewinds.proofs.replies.reply_to_checkpoint.Goals as goal

pub returns-in-Ok : goal.returns-in-Ok
returns-in-Ok g c =
    record {
      whole = c.checkpoint.ensures.whole;
      same = c.checkpoint.ensures.same;
      later = c.checkpoint.ensures.later;
      cause = λ failed. absurd (cc failed);
      fits = tt;
      step = λ x is. by_answer g.R.Rack g.A.Area (TakeDoes x) _ x c.checkpoint.new.pool c.checkpoint.result (Ok c.in-Ok.group) c.in-Ok.is (λ holds store w. (Ok c.in-Ok.group, refl, w)) (c.checkpoint.ensures.carries x is);
    }

pub returns-in-Err-Exists : goal.returns-in-Err-Exists
returns-in-Err-Exists g c =
    let same = c.in-Err-Exists.is ∙ ap Err c.in-Err-Exists.field-0-is in
    record {
      whole = c.checkpoint.ensures.whole;
      same = c.checkpoint.ensures.same;
      later = c.checkpoint.ensures.later;
      cause = λ failed. absurd (cc failed);
      fits = tt;
      step = λ x is. by_answer g.R.Rack g.A.Area (TakeDoes x) _ x c.checkpoint.new.pool c.checkpoint.result (Err (fault.Exists c.in-Err-Exists.group)) same (λ holds store w. (Err (fault.Exists c.in-Err-Exists.group), refl, w)) (c.checkpoint.ensures.carries x is);
    }

pub returns-in-Err-NoMemory : goal.returns-in-Err-NoMemory
returns-in-Err-NoMemory g c =
    let same = c.in-Err-NoMemory.is ∙ ap Err c.in-Err-NoMemory.field-0-is in
    record {
      whole = c.checkpoint.ensures.whole;
      same = c.checkpoint.ensures.same;
      later = c.checkpoint.ensures.later;
      cause = λ failed. absurd (cc failed);
      fits = tt;
      step = λ x is. by_answer g.R.Rack g.A.Area (TakeDoes x) _ x c.checkpoint.new.pool c.checkpoint.result (Err (fault.NoMemory)) same (λ holds store w. (Err (fault.NoMemory), refl, w)) (c.checkpoint.ensures.carries x is);
    }

pub returns-in-Err-Sync : goal.returns-in-Err-Sync
returns-in-Err-Sync g c =
    let why = c.in-Err-Sync.why in
    let same = c.in-Err-Sync.is ∙ ap Err c.in-Err-Sync.field-0-is in
    let says = c.stopped.ensures.says in
    record {
      whole = c.checkpoint.ensures.whole;
      same = c.checkpoint.ensures.same;
      later = c.checkpoint.ensures.later;
      cause = λ failed. c.checkpoint.ensures.cause (same ∙ ap (λ w. Err (fault.Sync w)) (stopped_failed name.Checkpoint why c.stopped.result says failed));
      fits = take_fits why c.stopped.result says;
      step = λ x is. by_answer g.R.Rack g.A.Area (TakeDoes x) _ x c.checkpoint.new.pool c.checkpoint.result (Err (fault.Sync why)) same (λ holds store w. (Err (fault.Sync why), says, w)) (c.checkpoint.ensures.carries x is);
    }
