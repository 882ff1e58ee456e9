use Rattle.draid_uber.proofs.Ends.{next_is, shut_alone}
use Rattle.draid_uber.proofs.steps.clear.Goals as goal

pub returns-clause-shut : goal.returns-clause-shut
returns-clause-shut g c = λ kept pending next stands.
    let e = next_is kept c.args.group next in
    shut_alone kept _ c.shut.result _ e (c.shut.ensures.shut kept pending e stands)
