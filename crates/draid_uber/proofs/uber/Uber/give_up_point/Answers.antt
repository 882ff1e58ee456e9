use Rattle.draid_uber.proofs.Pointing.{none_positive, none_spelled, none_told}
use Rattle.draid_uber.proofs.uber.Uber.give_up_point.Goals as goal

pub returns-clause-valid : goal.returns-clause-valid
returns-clause-valid g c =
    let v = c.requires.valid in
    let none = c.none.ensures.none in
    record { held = v.held; long = v.long; spelled = λ group low small. none_spelled c.none.result group none small; positive = none_positive c.none.result none }

pub returns-clause-told : goal.returns-clause-told
returns-clause-told g c = λ group. none_told c.none.result group c.none.ensures.none
