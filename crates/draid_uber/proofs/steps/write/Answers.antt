use Rattle.std.proofs.Common.{rules, ◌≡◌, length}
use Rattle.draid_area.proofs.Moments.{elapsed_on}
use Rattle.draid_uber.proofs.Ends.{err_map, gate_first, more_pending, next_is, none_pending, on_err, one_pending, written_again}
use Rattle.draid_uber.proofs.steps.write.Goals as goal

pub returns-in_err-shut-clause-refused : goal.returns-in_err-shut-clause-refused
returns-in_err-shut-clause-refused g c = λ kept pending next stands.
    let e = next_is kept c.args.body.now.group next in
    on_err _ (more_pending kept c.args.body.now pending _ (c.in_err-shut.ensures.refused kept pending e stands))

pub returns-in_err-fill-clause-refused : goal.returns-in_err-fill-clause-refused
returns-in_err-fill-clause-refused g c = λ kept pending next stands.
    let e = next_is kept c.args.body.now.group next in
    on_err _ (none_pending kept c.args.body.now pending _ (c.in_err-fill.ensures.refused kept e (c.in_ok-shut.ensures.shut kept pending e stands)))

pub returns-in_err-fill-clause-moments : goal.returns-in_err-fill-clause-moments
returns-in_err-fill-clause-moments g c = elapsed_on _ _ _ c.in_ok-shut.ensures.moments c.in_err-fill.ensures.moments

pub returns-clause-refused : goal.returns-clause-refused
returns-clause-refused g c = λ kept pending next stands.
    let e = next_is kept c.args.body.now.group next in
    let long : length c.write_uber-bytes.result ≡ 51 = search rules in
    let spelled = c.write_uber-bytes.ensures.spelled in
    err_map c.open.result (one_pending kept c.args.body.now pending _)
    (c.open.ensures.refused kept c.args.body.now c.write_uber-bytes.result e long (gate_first _ c.args.body.now _ spelled) (written_again _ c.args.body.now _ spelled) next
    (c.in_ok-fill.ensures.filled kept e (c.in_ok-shut.ensures.shut kept pending e stands)))

pub returns-clause-written : goal.returns-clause-written
returns-clause-written g c = λ kept pending next stands.
    let e = next_is kept c.args.body.now.group next in
    let long : length c.write_uber-bytes.result ≡ 51 = search rules in
    let spelled = c.write_uber-bytes.ensures.spelled in
    c.open.ensures.opened kept c.args.body.now c.write_uber-bytes.result e long (gate_first _ c.args.body.now _ spelled) (written_again _ c.args.body.now _ spelled) next
    (c.in_ok-fill.ensures.filled kept e (c.in_ok-shut.ensures.shut kept pending e stands))

pub returns-clause-moments : goal.returns-clause-moments
returns-clause-moments g c = elapsed_on _ _ _ c.in_ok-shut.ensures.moments (elapsed_on _ _ _ c.in_ok-fill.ensures.moments c.open.ensures.moments)
