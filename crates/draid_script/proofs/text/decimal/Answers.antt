use Rattle.std.proofs.Common.{sym, ap, ◌∙◌}
use Rattle.draid_script.specs.Word.{begins_number, number_of}
use Rattle.draid_script.proofs.Numbers.{not_begun, not_text, number_read}
use Rattle.draid_script.proofs.text.decimal.Goals as goal

pub returns-then-not-begins_number : goal.returns-then-not-begins_number
returns-then-not-begins_number c = sym (not_begun c.args.text.now (sym c.if-not-begins_number.ensures))

pub returns-in-Err : goal.returns-in-Err
returns-in-Err c = sym (not_text c.args.text.now c.in-Err.ensures.cases.0)

pub returns-in-Ok : goal.returns-in-Ok
returns-in-Ok c =
    let same = c.in-Ok.ensures.cases.0 in
    c.ok.ensures.value
    ∙ number_read c.in-Ok.text.now c.parse.result c.parse.ensures.value.0 (ap begins_number same ∙ sym c.if-not-begins_number.ensures)
    ∙ ap number_of same
