-- A legal event leads from a state of a history to one.
use Rattle.std.proofs.Common.{List, [], ◌∷◌, ◌++◌, refl, subst}
use Rattle.draid_machine.specs.declared.event.Event.{Event}
use Rattle.draid_machine.specs.State.{Layout, State}
use Rattle.draid_machine.specs.Created.{IsReached, created}
use Rattle.draid_machine.specs.Step.{Run, Step}

run_more : (l : Layout) (w mid new : State) (es : List Event) (e : Event) → Run l w es mid → Step l mid e new → Run l w (es ++ e ∷ []) new
run_more l w mid new [] e run step = (new, subst (λ x. Step l x e new) run step, refl)
run_more l w mid new (x ∷ xs) e run step = (run.0, run.1, run_more l run.0 mid new xs e run.2 step)

pub reached_on : (l : Layout) (w new : State) (e : Event) → IsReached l w → Step l w e new → IsReached l new
reached_on l w new e r step = record { version = r.version; one = r.one; events = r.events ++ e ∷ []; run = run_more l (created l r.version) w new r.events e r.run step }
