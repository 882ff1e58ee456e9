use Rattle.std.proofs.Common.{refl}
use Rattle.draid_reply.specs.declared.reply.Reply.TheVariants.{Cancelled}
use Rattle.draid_pool.proofs.Steps.{carries_so}
use Rattle.draid_visits.specs.Cancelling.{CancelDoes}
use Rattle.draid_visits.specs.Says.{CancelSays}
use Rattle.draid_visits.proofs.replies.reply_to_cancel.Goals as goal

pub returns-clause-step : goal.returns-clause-step
returns-clause-step g c = λ x is.
    (let ended = c.cancel-passes.result in
    carries_so g.R.Rack g.A.Area c.cancel-passes.new.pool x (CancelDoes x ended) (CancelSays (Cancelled ended) x) (c.cancel-passes.ensures.carries x is) (λ holds store does. (ended, refl, does)))
