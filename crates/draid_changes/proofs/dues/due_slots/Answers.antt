use Rattle.std.proofs.Common.{◌≡◌, ◌∙◌, List, IfOk, subst}
use Rattle.draid_agent.specs.Due.{dues}
use Rattle.draid_agent.specs.declared.states.SlotState.{SlotState}
use Rattle.draid_changes.proofs.dues.due_slots.Goals as goal

pub returns : goal.returns
returns g c = subst (λ (states : List SlotState). IfOk c.due.result (λ due. due.items ≡ dues c.args.least states)) (c.deref.ensures.value ∙ c.in_ok-states.ensures) c.due.ensures
