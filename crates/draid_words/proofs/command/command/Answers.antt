use Rattle.std.proofs.Common.{ap₂, ◌∙◌}
use Rattle.std.proofs.lemmas.Result.{IfOk-weaker}
use Rattle.clap.specs.Words.{with_rule}
use Rattle.draid_words.proofs.command.command.Goals as goal

pub returns : goal.returns
returns c =
    let with_mode = c.in_ok-arg.ensures.shape c.mode.ensures.own ∙ ap₂ with_rule c.bare.ensures c.mode.ensures.rule in
    let with_number = c.in_ok-arg-2.ensures.shape c.number.ensures.own ∙ ap₂ with_rule with_mode c.number.ensures.rule in
    IfOk-weaker c.arg-3.result _ _ (λ command adds. adds.shape c.dir.ensures.own ∙ ap₂ with_rule with_number c.dir.ensures.rule) c.arg-3.ensures
