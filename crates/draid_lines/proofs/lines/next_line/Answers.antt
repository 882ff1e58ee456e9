use Rattle.std.proofs.lemmas.Result.{IfOk-from_err}
use Rattle.draid_lines.proofs.Apart.{err_no_ok, failed_no_ok, ok_no_err, value_no_end}
use Rattle.std.proofs.Common.{refl, rules, ◌≡◌, ℕ, List, [], drop, Some, Ok, Err, subst, ap, sym, ◌∙◌}
use Rattle.draid_lines.specs.Lines.{Cuts, Finds}
use Rattle.draid_lines.proofs.Given.{behind_line, given_fault, given_line, given_none, line_parts}
use Rattle.draid_lines.proofs.lines.next_line.Goals as goal

pub returns-in-Ok-Some-clause-answer : goal.returns-in-Ok-Some-clause-answer
returns-in-Ok-Some-clause-answer g c =
    let items = c.find_end.new.held.items in
    let start = c.find_end.new.start in
    let left = g.S.Source.left in
    let cut = rw c.in-Ok-Some.field-0-is at c.in-Ok-Some.ensures in
    let part : c.split_at.result.1.now ≡ drop c.find_end.new.start c.find_end.new.held.items =
    c.split_at.ensures.back ∙ ap (drop c.find_end.new.start) c.deref.ensures.value in
    let P : List ℕ → Type 0 = λ held. Cuts c.args.given held (Ok (Some c.in-Ok-Some.line)) in
    let Q : ℕ → Type 0 = λ longest. Finds longest (drop start items) (left c.find_end.new.source) c.in_ok-len.len in
    given_line c.args.given c.in_ok-len.len _ (drop start items) _ _ _ c.in-Ok-Some.line c.in_ok-len.ensures.takes
    (subst Q c.longest.ensures c.in_ok-len.ensures.found) (subst P part cut)
    (behind_line items start c.in_ok-len.len c.len.result c.min.result (search rules) c.in_ok-len.ensures.found.first c.min.ensures)

pub returns-in-Ok-Some-clause-line : goal.returns-in-Ok-Some-clause-line
returns-in-Ok-Some-clause-line g c =
    let cut = rw c.in-Ok-Some.field-0-is at c.in-Ok-Some.ensures in
    line_parts c.args.given c.split_at.result.1.now c.in-Ok-Some.line cut

pub returns-in-Ok-None-clause-answer : goal.returns-in-Ok-None-clause-answer
returns-in-Ok-None-clause-answer g c =
    let part : c.split_at.result.1.now ≡ drop c.find_end.new.start c.find_end.new.held.items =
    c.split_at.ensures.back ∙ ap (drop c.find_end.new.start) c.deref.ensures.value in
    let empty : drop c.find_end.new.start c.find_end.new.held.items ≡ [] = sym part ∙ rw c.in-Ok-None.field-0-is at c.in-Ok-None.ensures in
    (given_none c.args.given c.longest.result c.in_ok-len.len _ _ _ _ c.in_ok-len.ensures.takes c.in_ok-len.ensures.found empty).2

pub returns-in-Ok-None-clause-end : goal.returns-in-Ok-None-clause-end
returns-in-Ok-None-clause-end g c _ =
    let part : c.split_at.result.1.now ≡ drop c.find_end.new.start c.find_end.new.held.items =
    c.split_at.ensures.back ∙ ap (drop c.find_end.new.start) c.deref.ensures.value in
    let empty : drop c.find_end.new.start c.find_end.new.held.items ≡ [] = sym part ∙ rw c.in-Ok-None.field-0-is at c.in-Ok-None.ensures in
    let none = given_none c.args.given c.longest.result c.in_ok-len.len _ _ _ _ c.in_ok-len.ensures.takes c.in_ok-len.ensures.found empty in
    (none.0, empty, none.1)

pub returns-in-Err-clause-answer : goal.returns-in-Err-clause-answer
returns-in-Err-clause-answer g c =
    let part : c.split_at.result.1.now ≡ drop c.find_end.new.start c.find_end.new.held.items =
    c.split_at.ensures.back ∙ ap (drop c.find_end.new.start) c.deref.ensures.value in
    let P : List ℕ → Type 0 = λ held. Cuts c.args.given held (Err c.in-Err.fault) in
    given_fault c.args.given _ _ _ _ c.in-Err.fault c.in_ok-len.ensures.takes (subst P part c.in-Err.ensures)

pub find_end-requires : goal.find_end-requires
find_end-requires g c = c.requires.start

pub returns-in_err-len-clause-start : goal.returns-in_err-len-clause-start
returns-in_err-len-clause-start g c = c.find_end.ensures.start

pub returns-in_err-len-clause-line : goal.returns-in_err-len-clause-line
returns-in_err-len-clause-line g c = IfOk-from_err c.from_residual.result _ c.from_residual.ensures.0

pub returns-in_err-len-clause-end : goal.returns-in_err-len-clause-end
returns-in_err-len-clause-end g c is = absurd (failed_no_ok _ _ c.from_residual.ensures.0 is)

pub returns-in_err-len-clause-waits : goal.returns-in_err-len-clause-waits
returns-in_err-len-clause-waits g c = c.find_end.ensures.waits

pub returns-in_err-len-clause-later : goal.returns-in_err-len-clause-later
returns-in_err-len-clause-later g c = c.find_end.ensures.later

pub line_of-requires-clause-given : goal.line_of-requires-clause-given
line_of-requires-clause-given g c = c.requires.given

pub returns-in-Ok-Some-clause-end : goal.returns-in-Ok-Some-clause-end
returns-in-Ok-Some-clause-end g c is = absurd (value_no_end _ _ refl is)

pub returns-in-Ok-Some-clause-too_long : goal.returns-in-Ok-Some-clause-too_long
returns-in-Ok-Some-clause-too_long g c _ is = absurd (ok_no_err is)

pub returns-in-Ok-Some-clause-waits : goal.returns-in-Ok-Some-clause-waits
returns-in-Ok-Some-clause-waits g c = c.find_end.ensures.waits

pub returns-in-Ok-Some-clause-later : goal.returns-in-Ok-Some-clause-later
returns-in-Ok-Some-clause-later g c = c.find_end.ensures.later

pub returns-in-Ok-Some-clause-cause : goal.returns-in-Ok-Some-clause-cause
returns-in-Ok-Some-clause-cause g c is = absurd (ok_no_err is)

pub returns-in-Ok-None-clause-start : goal.returns-in-Ok-None-clause-start
returns-in-Ok-None-clause-start g c = c.find_end.ensures.start

pub returns-in-Ok-None-clause-line : goal.returns-in-Ok-None-clause-line
returns-in-Ok-None-clause-line g c = tt

pub returns-in-Ok-None-clause-too_long : goal.returns-in-Ok-None-clause-too_long
returns-in-Ok-None-clause-too_long g c _ is = absurd (ok_no_err is)

pub returns-in-Ok-None-clause-waits : goal.returns-in-Ok-None-clause-waits
returns-in-Ok-None-clause-waits g c = c.find_end.ensures.waits

pub returns-in-Ok-None-clause-later : goal.returns-in-Ok-None-clause-later
returns-in-Ok-None-clause-later g c = c.find_end.ensures.later

pub returns-in-Ok-None-clause-cause : goal.returns-in-Ok-None-clause-cause
returns-in-Ok-None-clause-cause g c is = absurd (ok_no_err is)

pub returns-in-Err-clause-start : goal.returns-in-Err-clause-start
returns-in-Err-clause-start g c = c.find_end.ensures.start

pub returns-in-Err-clause-line : goal.returns-in-Err-clause-line
returns-in-Err-clause-line g c = tt

pub returns-in-Err-clause-end : goal.returns-in-Err-clause-end
returns-in-Err-clause-end g c is = absurd (err_no_ok is)

pub returns-in-Err-clause-waits : goal.returns-in-Err-clause-waits
returns-in-Err-clause-waits g c = c.find_end.ensures.waits

pub returns-in-Err-clause-later : goal.returns-in-Err-clause-later
returns-in-Err-clause-later g c = c.find_end.ensures.later
