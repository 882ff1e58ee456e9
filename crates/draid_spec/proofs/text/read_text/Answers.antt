use Rattle.std.proofs.Common.{◌∙◌, ◌-◌, length, take, drop, ap, arith}
use Rattle.draid_spec.specs.Text.{arguments, opened}
use Rattle.draid_spec.proofs.Openings.{behind_name, parity_first}
use Rattle.draid_spec.proofs.text.read_text.Goals as goal

pub returns-in-49-to-51-clause-exact : goal.returns-in-49-to-51-clause-exact
returns-in-49-to-51-clause-exact c =
    let rest = c.in-Some.rest.now in
    let named = c.in-Some.ensures.cases in
    c.read_arguments.ensures.exact ∙ ap (λ parity. arguments (opened parity) 6 (take (length rest - 1) (drop 1 rest))) c.from.ensures
    ∙ parity_first rest (omega arith) (omega arith) (omega arith) ∙ behind_name c.args.text.now rest named.0 named.1
