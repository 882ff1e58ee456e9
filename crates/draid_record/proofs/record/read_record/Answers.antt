use Rattle.std.proofs.Common.{arith, subst}
use Rattle.draid_record.specs.declared.limits.Limits.{Limits}
use Rattle.draid_record.specs.Record.{Answers, limits_of, record_of}
use Rattle.draid_record.proofs.Whole.{is_spelled, whole_only}
use Rattle.draid_record.proofs.record.read_record.Goals as goal

pub returns-clause-exact : goal.returns-clause-exact
returns-clause-exact c =
    let A : Limits → Type 0 = λ limits. Answers c.told.result (record_of limits c.args.bytes.now) in
    subst A c.limits-limits.ensures.value c.told.ensures.told

pub returns-clause-found : goal.returns-clause-found
returns-clause-found c =
    let A : Limits → Type 0 = λ limits. Answers c.told.result (record_of limits c.args.bytes.now) in
    is_spelled (limits_of c.args.geometry.now c.args.metaslab c.args.group c.args.next_leaf) c.args.bytes.now c.told.result
    (λ i. omega (arith, c.type_inv.bytes i)) (subst A c.limits-limits.ensures.value c.told.ensures.told)

pub returns-clause-only : goal.returns-clause-only
returns-clause-only c = λ value spelled. (let limits = limits_of c.args.geometry.now c.args.metaslab c.args.group c.args.next_leaf in
    let A : Limits → Type 0 = λ limits. Answers c.told.result (record_of limits c.args.bytes.now) in
    subst (λ found. Answers c.told.result found) (whole_only limits c.args.bytes.now value spelled) (subst A c.limits-limits.ensures.value c.told.ensures.told))
