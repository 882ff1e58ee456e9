use Rattle.std.proofs.Common.{rules, ◌≡◌, ◌∙◌, Result, Ok, Err, OnOk}
use Rattle.draid_tests_devices.proofs.rack.crash_with_harm.Goals as goal

whole_of : {E : Type 0} {P : Type 0} (r : Result Unit E) → r ≡ Ok tt → OnOk r P → P
whole_of (Ok u) is whole = whole
whole_of (Err e) is whole = absurd (cc)

pub returns-clause-harmed : goal.returns-clause-harmed
returns-clause-harmed c =
    let left = c.crash.ensures.told in
    let harmed = whole_of c.mend_from_damage.result (search rules) c.mend_from_damage.ensures.harmed in
    (left.harmed 0 0 ∙ harmed.0, left.harmed 1 1 ∙ harmed.1, left.soft 1 1)
