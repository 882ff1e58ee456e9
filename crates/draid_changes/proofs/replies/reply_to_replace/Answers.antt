use Rattle.std.proofs.Common.{◌∙◌, Ok, Err, ap, refl, subst}
use Rattle.draid_changes.specs.Answers.{ReplaceDoes}
use Rattle.draid_changes.specs.Behind.{DiskIs}
use Rattle.draid_changes.specs.declared.fault.ArmFault.TheVariants as fault
use Rattle.draid_pool.proofs.Steps.{by_answer}
use Rattle.draid_changes.proofs.replies.reply_to_replace.Goals as goal

pub returns-in-Ok : goal.returns-in-Ok
returns-in-Ok g c =
    record {
      whole = c.replace.ensures.whole;
      same = c.replace.ensures.same;
      later = c.replace.ensures.later;
      cause = λ failed. absurd (cc failed);
      fits = refl;
      step = λ x is.
          by_answer g.R.Rack g.A.Area (λ r. ReplaceDoes x c.args.slot c.args.sectors r) _ x c.replace.new.pool c.replace.result (Ok c.in-Ok.leaf) (c.in-Ok.is) (λ holds store w. (Ok c.in-Ok.leaf, (_, refl, refl), w)) (c.replace.ensures.carries x is);
      arms = subst (λ r. DiskIs c.args.slot c.args.sectors r c.replace.new.pool) c.in-Ok.is c.replace.ensures.arms;
    }

pub returns-in-Err-Slot : goal.returns-in-Err-Slot
returns-in-Err-Slot g c =
    record {
      whole = c.replace.ensures.whole;
      same = c.replace.ensures.same;
      later = c.replace.ensures.later;
      cause = λ failed. absurd (cc failed);
      fits = refl;
      step = λ x is.
          by_answer g.R.Rack g.A.Area (λ r. ReplaceDoes x c.args.slot c.args.sectors r) _ x c.replace.new.pool c.replace.result (Err (fault.Slot c.in-Err-Slot.why)) (c.in-Err-Slot.is ∙ ap Err (c.in-Err-Slot.field-0-is ∙ ap (λ why. fault.Slot why) c.in-Err-Slot.why-is))
          (λ holds store w. (Err (fault.Slot c.in-Err-Slot.why), refl, w)) (c.replace.ensures.carries x is);
      arms = subst (λ r. DiskIs c.args.slot c.args.sectors r c.replace.new.pool)
          (c.in-Err-Slot.is ∙ ap Err (c.in-Err-Slot.field-0-is ∙ ap (λ why. fault.Slot why) c.in-Err-Slot.why-is)) c.replace.ensures.arms;
    }

pub returns-in-Err-Worn : goal.returns-in-Err-Worn
returns-in-Err-Worn g c =
    record {
      whole = c.replace.ensures.whole;
      same = c.replace.ensures.same;
      later = c.replace.ensures.later;
      cause = λ failed. absurd (cc failed);
      fits = refl;
      step = λ x is.
          by_answer g.R.Rack g.A.Area (λ r. ReplaceDoes x c.args.slot c.args.sectors r) _ x c.replace.new.pool c.replace.result (Err fault.Worn) (c.in-Err-Worn.is ∙ ap Err c.in-Err-Worn.field-0-is) (λ holds store w. (Err fault.Worn, refl, w)) (c.replace.ensures.carries x is);
      arms = tt;
    }

pub returns-in-Err-NoMemory : goal.returns-in-Err-NoMemory
returns-in-Err-NoMemory g c =
    record {
      whole = c.replace.ensures.whole;
      same = c.replace.ensures.same;
      later = c.replace.ensures.later;
      cause = λ failed. absurd (cc failed);
      fits = tt;
      step = λ x is.
          by_answer g.R.Rack g.A.Area (λ r. ReplaceDoes x c.args.slot c.args.sectors r) _ x c.replace.new.pool c.replace.result (Err fault.NoMemory) (c.in-Err-NoMemory.is ∙ ap Err c.in-Err-NoMemory.field-0-is) (λ holds store w. (Err fault.NoMemory, refl, w)) (c.replace.ensures.carries x is);
      arms = tt;
    }

pub returns-in-Err-Shelf : goal.returns-in-Err-Shelf
returns-in-Err-Shelf g c =
    record {
      whole = c.replace.ensures.whole;
      same = c.replace.ensures.same;
      later = c.replace.ensures.later;
      cause = λ failed. c.replace.ensures.cause (c.in-Err-Shelf.is ∙ ap Err c.in-Err-Shelf.field-0-is);
      fits = tt;
      step = λ x is.
          by_answer g.R.Rack g.A.Area (λ r. ReplaceDoes x c.args.slot c.args.sectors r) _ x c.replace.new.pool c.replace.result (Err fault.Shelf) (c.in-Err-Shelf.is ∙ ap Err c.in-Err-Shelf.field-0-is) (λ holds store w. (Err fault.Shelf, tt, w)) (c.replace.ensures.carries x is);
      arms = tt;
    }
