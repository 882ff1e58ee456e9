use Rattle.std.proofs.Common.{◌∙◌, ◌≤◌, ap, refl, ◌+◌, arith}
use Rattle.std.specs.Prelude.{nat_le}
use Rattle.draid_record.specs.Reader.{state_of}
use Rattle.draid_record.proofs.Steps.{both, check_then, done, kept, number_then, so}
use Rattle.draid_record.proofs.uber.spec.Goals as goal

pub returns-clause-spec : goal.returns-clause-spec
returns-clause-spec c =
    number_then 1 _ _ _ _ _ _ _ _ _ _ refl refl c.number-parity.ensures.reads
    (number_then 1 _ _ _ _ _ _ _ _ _ _ refl refl c.number-ndata.ensures.reads
    (number_then 1 _ _ _ _ _ _ _ _ _ _ refl (c.from.ensures ∙ c.most_children.ensures.value) c.number-children.ensures.reads
    (number_then 1 _ _ _ _ _ _ _ _ _ _ refl refl c.number-spares.ensures.reads
    (check_then _ _ 1 _ _ _ _ _ (ap (λ n. nat_le (c.number-parity.result + c.number-ndata.result) n) c.saturating_sub-have.ensures) c.check.ensures (done _ _)))))

pub returns-clause-ranges : goal.returns-clause-ranges
returns-clause-ranges c =
    let P = 1 ≤ c.number-parity.result in
    let D = 1 ≤ c.number-ndata.result in
    let C = 2 ≤ c.number-children.result in
    let e = state_of c.check.new.self in
    let p = kept P _ _ _ _ c.check.ensures (kept P _ _ _ _ c.number-spares.ensures.reads (kept P _ _ _ _ c.number-children.ensures.reads (kept P _ _ _ _ c.number-ndata.ensures.reads c.number-parity.ensures.low))) in
    let d = kept D _ _ _ _ c.check.ensures (kept D _ _ _ _ c.number-spares.ensures.reads (kept D _ _ _ _ c.number-children.ensures.reads c.number-ndata.ensures.low)) in
    let k = kept C _ _ _ _ c.check.ensures (kept C _ _ _ _ c.number-spares.ensures.reads c.number-children.ensures.low) in
    let most = c.number-children.ensures.high in
    so (P × (D × C)) _ e
    (λ (w : P × (D × C)). record {
      some_parity = w.0;
      most_parity = c.number-parity.ensures.high;
      some_data = w.1.0;
      most_data = omega (arith, c.number-ndata.ensures.high);
      some_children = w.1.1;
      most_children = omega (arith, most, c.from.ensures, c.most_children.ensures.most);
      first_children = λ first. omega (arith, most, c.from.ensures, c.most_children.ensures.first first);
      most_spares = c.number-spares.ensures.high;
    })
    (both P (D × C) e p (both D C e d k))
