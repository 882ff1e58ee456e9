use Rattle.draid_plans.proofs.laws.slots_stay.Goals as goal

pub returns-clause-ready : goal.returns-clause-ready
returns-clause-ready c = λ slots w p has. record { order = has.order; arms = has.arms; detached = has.detached; only = has.only }

pub returns-clause-cancel : goal.returns-clause-cancel
returns-clause-cancel c = λ slots w has. record { order = has.order; arms = has.arms; detached = has.detached; only = has.only }
