use Rattle.std.proofs.lemmas.Result.{IfOk-from_err}
use Rattle.draid_lines.proofs.Apart.{ok_no_err}
use Rattle.std.proofs.Common.{rules, arith, inl}
use Rattle.draid_lines.proofs.Ends.{found_behind, none_behind}
use Rattle.draid_lines.proofs.Given.{takes_more}
use Rattle.draid_lines.proofs.lines.fill.Goals as goal

pub returns-in-Some-clause-found : goal.returns-in-Some-clause-found
returns-in-Some-clause-found g c =
    let more = c.in_ok-take_more.ensures.takes.more in
    let found = found_behind c.loop-held.held.items more.0 c.take_more.new.held.items c.len-searched.result c.in-Some.len c.loop-held.invariant.none (search rules) more.1 (search rules) in
    record { first = found.0; enough = inl found.1 }

pub loop-held-preserved : goal.loop-held-preserved
loop-held-preserved g c =
    let more = c.in_ok-take_more.ensures.takes.more in
    record {
      none = none_behind c.loop-held.held.items more.0 c.take_more.new.held.items c.len-searched.result c.loop-held.invariant.none (search rules) more.1 (search rules);
      takes = takes_more _ _ _ _ _ _ c.loop-held.invariant.takes c.in_ok-take_more.ensures.takes;
      later = omega (arith, c.loop-held.invariant.later, c.in_ok-take_more.ensures.later);
    }

pub returns-in_err-take_more-clause-takes : goal.returns-in_err-take_more-clause-takes
returns-in_err-take_more-clause-takes g c = takes_more _ _ _ _ _ _ c.loop-held.invariant.takes c.take_more.ensures.takes

pub returns-in_err-take_more-clause-found : goal.returns-in_err-take_more-clause-found
returns-in_err-take_more-clause-found g c = IfOk-from_err c.from_residual.result _ c.from_residual.ensures.0

pub returns-then-branch-eq0-clause-takes : goal.returns-then-branch-eq0-clause-takes
returns-then-branch-eq0-clause-takes g c = takes_more _ _ _ _ _ _ c.loop-held.invariant.takes c.in_ok-take_more.ensures.takes

pub returns-then-branch-eq0-clause-cause : goal.returns-then-branch-eq0-clause-cause
returns-then-branch-eq0-clause-cause g c is = absurd (ok_no_err is)

pub returns-then-branch-eq0-clause-read : goal.returns-then-branch-eq0-clause-read
returns-then-branch-eq0-clause-read g c _ is = absurd (ok_no_err is)

pub returns-in-Some-clause-takes : goal.returns-in-Some-clause-takes
returns-in-Some-clause-takes g c = takes_more _ _ _ _ _ _ c.loop-held.invariant.takes c.in_ok-take_more.ensures.takes

pub returns-in-Some-clause-cause : goal.returns-in-Some-clause-cause
returns-in-Some-clause-cause g c is = absurd (ok_no_err is)

pub returns-in-Some-clause-read : goal.returns-in-Some-clause-read
returns-in-Some-clause-read g c _ is = absurd (ok_no_err is)

pub returns-clause-takes : goal.returns-clause-takes
returns-clause-takes g c = c.loop-held.invariant.takes

pub returns-clause-later : goal.returns-clause-later
returns-clause-later g c = c.loop-held.invariant.later

pub returns-clause-cause : goal.returns-clause-cause
returns-clause-cause g c is = absurd (ok_no_err is)

pub returns-clause-read : goal.returns-clause-read
returns-clause-read g c _ is = absurd (ok_no_err is)
