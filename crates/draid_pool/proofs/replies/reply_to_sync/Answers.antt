use Rattle.std.proofs.Common.{◌∙◌, Ok, Err, ap, refl}
use Rattle.draid_pool.specs.Syncing.{SyncDoes}
use Rattle.draid_pool.specs.declared.fault.SyncFault.TheVariants as fault
use Rattle.draid_pool.proofs.Steps.{by_answer}
use Rattle.draid_pool.proofs.replies.reply_to_sync.Goals as goal

pub returns-in-Ok-clause-step : goal.returns-in-Ok-clause-step
returns-in-Ok-clause-step g c = λ x is. by_answer g.R.Rack g.A.Area (SyncDoes x) _ x c.sync.new.self c.sync.result (Ok c.in-Ok.field-0) c.in-Ok.is (λ holds store w. (Ok c.in-Ok.field-0, refl, w)) (c.sync.ensures.carries x is)

pub returns-in-Err-Worn-clause-step : goal.returns-in-Err-Worn-clause-step
returns-in-Err-Worn-clause-step g c = λ x is.
    by_answer g.R.Rack g.A.Area (SyncDoes x) _ x c.sync.new.self c.sync.result (Err fault.Worn) (c.in-Err-Worn.is ∙ ap Err c.in-Err-Worn.field-0-is) (λ holds store w. (Err fault.Worn, refl, w)) (c.sync.ensures.carries x is)

pub returns-in-Err-Last-clause-step : goal.returns-in-Err-Last-clause-step
returns-in-Err-Last-clause-step g c = λ x is.
    by_answer g.R.Rack g.A.Area (SyncDoes x) _ x c.sync.new.self c.sync.result (Err fault.Last) (c.in-Err-Last.is ∙ ap Err c.in-Err-Last.field-0-is) (λ holds store w. (Err fault.Last, refl, w)) (c.sync.ensures.carries x is)

pub returns-in-Err-NoMemory-clause-step : goal.returns-in-Err-NoMemory-clause-step
returns-in-Err-NoMemory-clause-step g c = λ x is.
    by_answer g.R.Rack g.A.Area (SyncDoes x) _ x c.sync.new.self c.sync.result (Err fault.NoMemory) (c.in-Err-NoMemory.is ∙ ap Err c.in-Err-NoMemory.field-0-is) (λ holds store w. (Err fault.NoMemory, refl, w))
    (c.sync.ensures.carries x is)

pub returns-in-Err-Shelf-clause-cause : goal.returns-in-Err-Shelf-clause-cause
returns-in-Err-Shelf-clause-cause g c = λ failed. c.sync.ensures.cause (c.in-Err-Shelf.is ∙ ap Err c.in-Err-Shelf.field-0-is)

pub returns-in-Err-Shelf-clause-step : goal.returns-in-Err-Shelf-clause-step
returns-in-Err-Shelf-clause-step g c = λ x is.
    by_answer g.R.Rack g.A.Area (SyncDoes x) _ x c.sync.new.self c.sync.result (Err fault.Shelf) (c.in-Err-Shelf.is ∙ ap Err c.in-Err-Shelf.field-0-is) (λ holds store w. (Err fault.Shelf, tt, w)) (c.sync.ensures.carries x is)
