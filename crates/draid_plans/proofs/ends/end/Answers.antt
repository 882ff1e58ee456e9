use Rattle.std.proofs.Common.{◌∙◌, ap}
use Rattle.draid_plans.specs.Ends.{is_good}
use Rattle.draid_plans.specs.Logs.{has_place}
use Rattle.draid_plans.proofs.Changes.{excises_none, excises_same, good_all, good_none}
use Rattle.draid_plans.proofs.States.{slots_ended}
use Rattle.draid_plans.proofs.ends.end.Goals as goal

pub returns-then-pass-eq0-clause-logs : goal.returns-then-pass-eq0-clause-logs
returns-then-pass-eq0-clause-logs c =
    excises_same c.args.slots.now c.excise_logs.new.slots (has_place c.deref.result.now) (is_good c.args.pass.now) c.args.pass.now.max
    (λ at. ap (λ ts. has_place ts at) c.deref.ensures.value ∙ good_all c.args.pass.now.errors c.args.pass.now.targets.items at c.if-pass-eq0.true) c.excise_logs.ensures

pub returns-then-pass-eq0-clause-state : goal.returns-then-pass-eq0-clause-state
returns-then-pass-eq0-clause-state c = λ w once has.
    slots_ended c.args.slots.now w has once c.excise_logs.new.slots c.args.pass.now (returns-then-pass-eq0-clause-logs c)

pub returns-else-pass-eq0-clause-logs : goal.returns-else-pass-eq0-clause-logs
returns-else-pass-eq0-clause-logs c =
    excises_none c.args.slots.now (is_good c.args.pass.now) c.args.pass.now.max (λ at. good_none c.args.pass.now.errors c.args.pass.now.targets.items at c.if-pass-eq0.false)

pub returns-else-pass-eq0-clause-state : goal.returns-else-pass-eq0-clause-state
returns-else-pass-eq0-clause-state c = λ w once has.
    slots_ended c.args.slots.now w has once c.args.slots.now c.args.pass.now (returns-else-pass-eq0-clause-logs c)
