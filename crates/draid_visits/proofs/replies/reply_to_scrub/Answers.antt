use Rattle.std.proofs.Common.{◌∙◌, Ok, Err, ap, refl}
use Rattle.draid_pool.proofs.Steps.{by_answer}
use Rattle.draid_visits.specs.Rebuilding.{ScrubDoes}
use Rattle.draid_visits.specs.declared.rebuilding.MendFault.TheVariants as fault
use Rattle.draid_visits.proofs.replies.reply_to_scrub.Goals as goal

pub returns-in-Ok-clause-step : goal.returns-in-Ok-clause-step
returns-in-Ok-clause-step g c = λ x is.
    by_answer g.R.Rack g.A.Area (ScrubDoes x c.args.limit) _ x c.scrub.new.pool c.scrub.result (Ok c.in-Ok.it) c.in-Ok.is (λ holds store w. (Ok c.in-Ok.it, refl, w)) (c.scrub.ensures.carries x is)

pub returns-in-Err-PassThere-clause-step : goal.returns-in-Err-PassThere-clause-step
returns-in-Err-PassThere-clause-step g c =
    let at = c.in-Err-PassThere in
    let there = fault.PassThere at.metaslab at.number in
    λ x is. by_answer g.R.Rack g.A.Area (ScrubDoes x c.args.limit) _ x c.scrub.new.pool c.scrub.result (Err there) (at.is ∙ ap Err at.field-0-is) (λ holds store w. (Err there, refl, w)) (c.scrub.ensures.carries x is)

pub returns-in-Err-Worn-clause-step : goal.returns-in-Err-Worn-clause-step
returns-in-Err-Worn-clause-step g c = λ x is.
    by_answer g.R.Rack g.A.Area (ScrubDoes x c.args.limit) _ x c.scrub.new.pool c.scrub.result (Err fault.Worn) (c.in-Err-Worn.is ∙ ap Err c.in-Err-Worn.field-0-is) (λ holds store w. (Err fault.Worn, refl, w)) (c.scrub.ensures.carries x is)

pub returns-in-Err-Last-clause-step : goal.returns-in-Err-Last-clause-step
returns-in-Err-Last-clause-step g c = λ x is.
    by_answer g.R.Rack g.A.Area (ScrubDoes x c.args.limit) _ x c.scrub.new.pool c.scrub.result (Err fault.Last) (c.in-Err-Last.is ∙ ap Err c.in-Err-Last.field-0-is) (λ holds store w. (Err fault.Last, refl, w)) (c.scrub.ensures.carries x is)

pub returns-in-Err-NoMemory-clause-step : goal.returns-in-Err-NoMemory-clause-step
returns-in-Err-NoMemory-clause-step g c = λ x is.
    by_answer g.R.Rack g.A.Area (ScrubDoes x c.args.limit) _ x c.scrub.new.pool c.scrub.result (Err fault.NoMemory) (c.in-Err-NoMemory.is ∙ ap Err c.in-Err-NoMemory.field-0-is)
    (λ holds store w. (Err fault.NoMemory, refl, w)) (c.scrub.ensures.carries x is)
