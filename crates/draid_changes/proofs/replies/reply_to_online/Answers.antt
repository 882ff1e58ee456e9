use Rattle.std.proofs.Common.{◌∙◌, false, Ok, Err, ap, refl, subst}
use Rattle.draid_changes.specs.Answers.{SwitchDoes}
use Rattle.draid_changes.specs.Behind.{LeafIs}
use Rattle.draid_changes.specs.declared.fault.ArmFault.TheVariants as fault
use Rattle.draid_pool.proofs.Steps.{by_answer}
use Rattle.draid_changes.proofs.replies.reply_to_online.Goals as goal

pub returns-in-Ok : goal.returns-in-Ok
returns-in-Ok g c =
    record {
      whole = c.online.ensures.whole;
      same = c.online.ensures.same;
      later = c.online.ensures.later;
      cause = λ failed. absurd (cc failed);
      fits = refl;
      step = λ x is.
          by_answer g.R.Rack g.A.Area (λ r. SwitchDoes x c.args.leaf false r) _ x c.online.new.pool c.online.result (Ok tt) (c.in-Ok.is) (λ holds store w. (Ok tt, (_, refl, refl), w)) (c.online.ensures.carries x is);
      arms = subst (λ r. LeafIs c.args.leaf false r c.online.new.pool.metaslabs.shards.items) c.in-Ok.is c.online.ensures.arms;
    }

pub returns-in-Err-Slot : goal.returns-in-Err-Slot
returns-in-Err-Slot g c =
    record {
      whole = c.online.ensures.whole;
      same = c.online.ensures.same;
      later = c.online.ensures.later;
      cause = λ failed. absurd (cc failed);
      fits = refl;
      step = λ x is.
          by_answer g.R.Rack g.A.Area (λ r. SwitchDoes x c.args.leaf false r) _ x c.online.new.pool c.online.result (Err (fault.Slot c.in-Err-Slot.field-0-0)) (c.in-Err-Slot.is ∙ ap Err c.in-Err-Slot.field-0-is) (λ holds store w. (Err (fault.Slot c.in-Err-Slot.field-0-0), refl, w)) (c.online.ensures.carries x is);
      arms = (subst (λ r. LeafIs c.args.leaf false r c.online.new.pool.metaslabs.shards.items) (c.in-Err-Slot.is ∙ ap Err c.in-Err-Slot.field-0-is) c.online.ensures.arms).1;
    }

pub returns-in-Err-Worn : goal.returns-in-Err-Worn
returns-in-Err-Worn g c =
    record {
      whole = c.online.ensures.whole;
      same = c.online.ensures.same;
      later = c.online.ensures.later;
      cause = λ failed. absurd (cc failed);
      fits = refl;
      step = λ x is.
          by_answer g.R.Rack g.A.Area (λ r. SwitchDoes x c.args.leaf false r) _ x c.online.new.pool c.online.result (Err fault.Worn) (c.in-Err-Worn.is ∙ ap Err c.in-Err-Worn.field-0-is) (λ holds store w. (Err fault.Worn, refl, w)) (c.online.ensures.carries x is);
      arms = tt;
    }

pub returns-in-Err-NoMemory : goal.returns-in-Err-NoMemory
returns-in-Err-NoMemory g c =
    record {
      whole = c.online.ensures.whole;
      same = c.online.ensures.same;
      later = c.online.ensures.later;
      cause = λ failed. absurd (cc failed);
      fits = tt;
      step = λ x is.
          by_answer g.R.Rack g.A.Area (λ r. SwitchDoes x c.args.leaf false r) _ x c.online.new.pool c.online.result (Err fault.NoMemory) (c.in-Err-NoMemory.is ∙ ap Err c.in-Err-NoMemory.field-0-is) (λ holds store w. (Err fault.NoMemory, refl, w)) (c.online.ensures.carries x is);
      arms = tt;
    }

pub returns-in-Err-Shelf : goal.returns-in-Err-Shelf
returns-in-Err-Shelf g c =
    record {
      whole = c.online.ensures.whole;
      same = c.online.ensures.same;
      later = c.online.ensures.later;
      cause = λ failed. c.online.ensures.cause (c.in-Err-Shelf.is ∙ ap Err c.in-Err-Shelf.field-0-is);
      fits = tt;
      step = λ x is.
          by_answer g.R.Rack g.A.Area (λ r. SwitchDoes x c.args.leaf false r) _ x c.online.new.pool c.online.result (Err fault.Shelf) (c.in-Err-Shelf.is ∙ ap Err c.in-Err-Shelf.field-0-is) (λ holds store w. (Err fault.Shelf, tt, w)) (c.online.ensures.carries x is);
      arms = tt;
    }
