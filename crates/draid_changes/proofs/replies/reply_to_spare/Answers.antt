use Rattle.std.proofs.Common.{◌∙◌, [], Ok, Err, ap, inr, refl, subst, sym}
use Rattle.draid_spec.specs.Name.{spare_name_of}
use Rattle.draid_spec.specs.declared.layout.Geometry.{Geometry}
use Rattle.draid_changes.specs.Answers.{SpareDoes}
use Rattle.draid_changes.specs.Behind.{SpareIs}
use Rattle.draid_changes.specs.declared.fault.ArmFault.TheVariants as fault
use Rattle.draid_pool.proofs.Rises.{areas_still}
use Rattle.draid_pool.proofs.Steps.{by_answer, carried}
use Rattle.draid_changes.proofs.replies.reply_to_spare.Goals as goal

pub returns-in_default : goal.returns-in_default
returns-in_default g c =
    record {
      whole = c.requires.whole;
      same = λ object. refl;
      later = areas_still g.A.Area.faults c.args.pool.now;
      cause = λ failed. absurd (cc failed);
      fits = tt;
      step = λ x is. carried g.R.Rack g.A.Area c.args.pool.now x [] x _ refl is (Err fault.NoMemory, refl, (refl, inr tt));
      arms = tt;
    }

pub returns-in-Ok-spare : goal.returns-in-Ok-spare
returns-in-Ok-spare g c =
    record {
      whole = c.spare.ensures.whole;
      same = c.spare.ensures.same;
      later = c.spare.ensures.later;
      cause = λ failed. absurd (cc failed);
      fits = refl;
      step = λ x is.
          (let called = c.in-Ok.ensures ∙ ap (λ (g : Geometry). spare_name_of g.spec c.args.number) (sym is.stands.geometry) in
          by_answer g.R.Rack g.A.Area (λ r. SpareDoes x c.args.slot c.args.number r) _ x c.spare.new.pool c.spare.result (Ok tt) (c.in-Ok-spare.is) (λ holds store w. (Ok tt, (_, refl, (c.in-Ok.name, refl, called)), w)) (c.spare.ensures.carries x is));
      arms = subst (λ r. SpareIs c.args.slot c.args.number r c.spare.new.pool.metaslabs.shards.items) c.in-Ok-spare.is c.spare.ensures.arms;
    }

pub returns-in-Err-Slot : goal.returns-in-Err-Slot
returns-in-Err-Slot g c =
    record {
      whole = c.spare.ensures.whole;
      same = c.spare.ensures.same;
      later = c.spare.ensures.later;
      cause = λ failed. absurd (cc failed);
      fits = refl;
      step = λ x is.
          by_answer g.R.Rack g.A.Area (λ r. SpareDoes x c.args.slot c.args.number r) _ x c.spare.new.pool c.spare.result (Err (fault.Slot c.in-Err-Slot.why)) (c.in-Err-Slot.is ∙ ap Err (c.in-Err-Slot.field-0-is ∙ ap (λ why. fault.Slot why) c.in-Err-Slot.why-is))
          (λ holds store w. (Err (fault.Slot c.in-Err-Slot.why), refl, w)) (c.spare.ensures.carries x is);
      arms = subst (λ r. SpareIs c.args.slot c.args.number r c.spare.new.pool.metaslabs.shards.items)
          (c.in-Err-Slot.is ∙ ap Err (c.in-Err-Slot.field-0-is ∙ ap (λ why. fault.Slot why) c.in-Err-Slot.why-is)) c.spare.ensures.arms;
    }

pub returns-in-Err-Worn : goal.returns-in-Err-Worn
returns-in-Err-Worn g c =
    record {
      whole = c.spare.ensures.whole;
      same = c.spare.ensures.same;
      later = c.spare.ensures.later;
      cause = λ failed. absurd (cc failed);
      fits = refl;
      step = λ x is.
          by_answer g.R.Rack g.A.Area (λ r. SpareDoes x c.args.slot c.args.number r) _ x c.spare.new.pool c.spare.result (Err fault.Worn) (c.in-Err-Worn.is ∙ ap Err c.in-Err-Worn.field-0-is) (λ holds store w. (Err fault.Worn, refl, w)) (c.spare.ensures.carries x is);
      arms = tt;
    }

pub returns-in-Err-NoMemory : goal.returns-in-Err-NoMemory
returns-in-Err-NoMemory g c =
    record {
      whole = c.spare.ensures.whole;
      same = c.spare.ensures.same;
      later = c.spare.ensures.later;
      cause = λ failed. absurd (cc failed);
      fits = tt;
      step = λ x is.
          by_answer g.R.Rack g.A.Area (λ r. SpareDoes x c.args.slot c.args.number r) _ x c.spare.new.pool c.spare.result (Err fault.NoMemory) (c.in-Err-NoMemory.is ∙ ap Err c.in-Err-NoMemory.field-0-is) (λ holds store w. (Err fault.NoMemory, refl, w)) (c.spare.ensures.carries x is);
      arms = tt;
    }

pub returns : goal.returns
returns g c =
    record {
      whole = c.spare.ensures.whole;
      same = c.spare.ensures.same;
      later = c.spare.ensures.later;
      cause = λ failed. c.spare.ensures.cause (c.in-Err-Shelf.is ∙ ap Err c.in-Err-Shelf.field-0-is);
      fits = tt;
      step = λ x is.
          by_answer g.R.Rack g.A.Area (λ r. SpareDoes x c.args.slot c.args.number r) _ x c.spare.new.pool c.spare.result (Err fault.Shelf) (c.in-Err-Shelf.is ∙ ap Err c.in-Err-Shelf.field-0-is) (λ holds store w. (Err fault.Shelf, tt, w)) (c.spare.ensures.carries x is);
      arms = tt;
    }
