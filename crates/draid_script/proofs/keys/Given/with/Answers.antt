use Rattle.std.proofs.Common.{sym, subst}
use Rattle.draid_script.specs.Fault.{Gives}
use Rattle.draid_script.specs.Keys.{given_with}
use Rattle.draid_script.specs.Word.{placed}
use Rattle.draid_script.proofs.GivenKeys.{named_key, unknown_key}
use Rattle.draid_script.proofs.Steps.{refuses_all}
use Rattle.draid_script.proofs.keys.Given.with.Goals as goal

pub returns-in-Some : goal.returns-in-Some
returns-in-Some c =
    let is = named_key c.args.self (placed c.args.word.now) c.halves.result.0.now (placed c.halves.result.1) c.in-Some.key c.halves.ensures.key c.halves.ensures.value c.in-Some.ensures in
    subst (Gives (λ given. given) c.with_value.result) (sym is) c.with_value.ensures

pub returns-in-None : goal.returns-in-None
returns-in-None c =
    let unknown = unknown_key c.args.self (placed c.args.word.now) c.halves.result.0.now c.halves.ensures.key c.in-None.ensures in
    refuses_all c.line.result (given_with c.args.self (placed c.args.word.now)) _ c.line.ensures unknown
