use Rattle.std.proofs.Common.{refl, ℕ}
use Rattle.draid_spec.specs.declared.layout.Props.{Props}
use Rattle.draid_spec.specs.declared.spec.Spec.{Spec}
use Rattle.draid_record.specs.Uber as grammar
use Rattle.draid_record.specs.Uber.{uber}
use Rattle.draid_record.proofs.Steps.{done, joins, number_then}
use Rattle.draid_record.proofs.uber.uber.Goals as goal

pub returns : goal.returns
unfolding uber
returns c =
    let front : ℕ × ℕ = c.head-version.result in
    joins (grammar.head c.args.slot) (λ (f : ℕ × ℕ). grammar.behind_head f) _ _ _ front _ c.head-version.ensures
    (joins (grammar.spec front.0) (λ (s : Spec). grammar.behind_spec front s) _ _ _ c.spec-spec.result _ c.spec-spec.ensures.spec
    (joins (grammar.props front.0 c.spec-spec.result) (λ (p : Props). grammar.behind_props front.1 c.spec-spec.result p) _ _ _ c.props-props.result _ c.props-props.ensures
    (number_then 8 _ _ _ _ _ _ _ _ _ _ c.from.ensures refl c.number-next_leaf.ensures.reads (done _ _))))
