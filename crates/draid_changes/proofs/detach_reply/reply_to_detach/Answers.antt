use Rattle.std.proofs.Common.{◌∙◌, Ok, Err, ap, refl, subst}
use Rattle.draid_session.specs.Arms.{arm_of}
use Rattle.draid_pool.specs.declared.fault.SyncFault.TheVariants as sync
use Rattle.draid_pool.proofs.Steps.{by_answer}
use Rattle.draid_changes.specs.Behind.{GoingIs, GoingIsBarred, IsGone}
use Rattle.draid_changes.specs.Detaching.{DetachDoes}
use Rattle.draid_changes.specs.declared.detaching.DetachFault.TheVariants as fault
use Rattle.draid_changes.proofs.Leaving.{carries_as}
use Rattle.draid_changes.proofs.detach_reply.reply_to_detach.Goals as goal

pub returns-in-Ok : goal.returns-in-Ok
returns-in-Ok g c =
    record {
      whole = c.detach.ensures.whole;
      same = c.detach.ensures.same;
      later = c.detach.ensures.later;
      cause = λ failed. absurd (cc failed);
      fits = refl;
      step = λ x is.
          by_answer g.R.Rack g.A.Area (DetachDoes x (arm_of c.args.arm)) _ x c.detach.new.pool c.detach.result (Ok c.in-Ok.group) (c.in-Ok.is) (λ holds store w. (Ok c.in-Ok.group, refl, w))
          (carries_as g.R.Rack g.A.Area c.detach.new.pool x c.named.result (arm_of c.args.arm) c.detach.result c.named.ensures (c.detach.ensures.carries x is));
      arms = (let pool = c.detach.new.pool in
          subst (λ name. IsGone name pool) c.named.ensures (subst (λ r. GoingIs c.named.result r pool) c.in-Ok.is c.detach.ensures.arms));
    }

pub returns-in-Err-Slot : goal.returns-in-Err-Slot
returns-in-Err-Slot g c =
    record {
      whole = c.detach.ensures.whole;
      same = c.detach.ensures.same;
      later = c.detach.ensures.later;
      cause = λ failed. absurd (cc failed);
      fits = refl;
      step = λ x is.
          by_answer g.R.Rack g.A.Area (DetachDoes x (arm_of c.args.arm)) _ x c.detach.new.pool c.detach.result (Err (fault.Slot c.in-Err-Slot.why)) (c.in-Err-Slot.is ∙ ap Err c.in-Err-Slot.field-0-is) (λ holds store w. (Err (fault.Slot c.in-Err-Slot.why), refl, w))
          (carries_as g.R.Rack g.A.Area c.detach.new.pool x c.named.result (arm_of c.args.arm) c.detach.result c.named.ensures (c.detach.ensures.carries x is));
      arms = (let why = c.in-Err-Slot.why in
          let pool = c.detach.new.pool in
          subst (λ name. GoingIsBarred name why pool) c.named.ensures (subst (λ r. GoingIs c.named.result r pool) (c.in-Err-Slot.is ∙ ap Err c.in-Err-Slot.field-0-is) c.detach.ensures.arms));
    }

pub returns-in-Worn : goal.returns-in-Worn
returns-in-Worn g c =
    record {
      whole = c.detach.ensures.whole;
      same = c.detach.ensures.same;
      later = c.detach.ensures.later;
      cause = λ failed. absurd (cc failed);
      fits = refl;
      step = λ x is.
          by_answer g.R.Rack g.A.Area (DetachDoes x (arm_of c.args.arm)) _ x c.detach.new.pool c.detach.result (Err (fault.Sync sync.Worn)) (c.in-Err-Sync.is ∙ ap Err (c.in-Err-Sync.field-0-is ∙ ap fault.Sync c.in-Worn.is)) (λ holds store w. (Err (fault.Sync sync.Worn), refl, w))
          (carries_as g.R.Rack g.A.Area c.detach.new.pool x c.named.result (arm_of c.args.arm) c.detach.result c.named.ensures (c.detach.ensures.carries x is));
      arms = tt;
    }

pub returns-in-Last : goal.returns-in-Last
returns-in-Last g c =
    record {
      whole = c.detach.ensures.whole;
      same = c.detach.ensures.same;
      later = c.detach.ensures.later;
      cause = λ failed. absurd (cc failed);
      fits = refl;
      step = λ x is.
          by_answer g.R.Rack g.A.Area (DetachDoes x (arm_of c.args.arm)) _ x c.detach.new.pool c.detach.result (Err (fault.Sync sync.Last)) (c.in-Err-Sync.is ∙ ap Err (c.in-Err-Sync.field-0-is ∙ ap fault.Sync c.in-Last.is)) (λ holds store w. (Err (fault.Sync sync.Last), refl, w))
          (carries_as g.R.Rack g.A.Area c.detach.new.pool x c.named.result (arm_of c.args.arm) c.detach.result c.named.ensures (c.detach.ensures.carries x is));
      arms = tt;
    }

pub returns-in-NoMemory : goal.returns-in-NoMemory
returns-in-NoMemory g c =
    record {
      whole = c.detach.ensures.whole;
      same = c.detach.ensures.same;
      later = c.detach.ensures.later;
      cause = λ failed. absurd (cc failed);
      fits = tt;
      step = λ x is.
          by_answer g.R.Rack g.A.Area (DetachDoes x (arm_of c.args.arm)) _ x c.detach.new.pool c.detach.result (Err (fault.Sync sync.NoMemory)) (c.in-Err-Sync.is ∙ ap Err (c.in-Err-Sync.field-0-is ∙ ap fault.Sync c.in-NoMemory.is)) (λ holds store w. (Err (fault.Sync sync.NoMemory), refl, w))
          (carries_as g.R.Rack g.A.Area c.detach.new.pool x c.named.result (arm_of c.args.arm) c.detach.result c.named.ensures (c.detach.ensures.carries x is));
      arms = tt;
    }

pub returns-in-Shelf : goal.returns-in-Shelf
returns-in-Shelf g c =
    record {
      whole = c.detach.ensures.whole;
      same = c.detach.ensures.same;
      later = c.detach.ensures.later;
      cause = λ failed. c.detach.ensures.cause (c.in-Err-Sync.is ∙ ap Err (c.in-Err-Sync.field-0-is ∙ ap fault.Sync c.in-Shelf.is));
      fits = tt;
      step = λ x is.
          by_answer g.R.Rack g.A.Area (DetachDoes x (arm_of c.args.arm)) _ x c.detach.new.pool c.detach.result (Err (fault.Sync sync.Shelf)) (c.in-Err-Sync.is ∙ ap Err (c.in-Err-Sync.field-0-is ∙ ap fault.Sync c.in-Shelf.is)) (λ holds store w. (Err (fault.Sync sync.Shelf), tt, w))
          (carries_as g.R.Rack g.A.Area c.detach.new.pool x c.named.result (arm_of c.args.arm) c.detach.result c.named.ensures (c.detach.ensures.carries x is));
      arms = tt;
    }
