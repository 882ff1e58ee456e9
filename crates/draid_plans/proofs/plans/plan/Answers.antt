use Rattle.std.proofs.Common.{◌∙◌, arith, refl, subst}
use Rattle.draid_plans.specs.Logs.{Fills}
use Rattle.draid_plans.specs.Plans.{is_filled}
use Rattle.draid_plans.specs.Targets.{is_target}
use Rattle.draid_plans.proofs.Order.{targets_ascend, targets_there, there_still}
use Rattle.draid_plans.proofs.States.{plans}
use Rattle.draid_plans.proofs.plans.plan.Goals as goal

pub fill_for-requires-clause-there : goal.fill_for-requires-clause-there
fill_for-requires-clause-there c =
    let slots = c.args.slots.now in
    targets_there slots (is_target slots c.args.marks.now c.args.kind) slots.geometry.spec.children _ (c.deref.ensures.value ∙ c.list_targets.ensures.listed)

pub fill_for-requires-clause-ascending : goal.fill_for-requires-clause-ascending
fill_for-requires-clause-ascending c =
    let slots = c.args.slots.now in
    targets_ascend slots (is_target slots c.args.marks.now c.args.kind) slots.geometry.spec.children _ (c.deref.ensures.value ∙ c.list_targets.ensures.listed)

pub returns-clause-pass : goal.returns-clause-pass
returns-clause-pass c = record {
  number_is = refl;
  kind_is = refl;
  targets_are = c.list_targets.ensures.listed;
  max_is = refl;
  first = refl;
  no_errors = refl;
  running_is = c.runs_at_once.ensures;
  room = (let room = c.requires.targets in let same = c.list_targets.ensures.room in omega (arith, room, same));
}

pub returns-clause-logs : goal.returns-clause-logs
returns-clause-logs c = subst (λ ts. Fills c.args.slots.now c.fill_for.new.slots (is_filled c.args.kind ts) c.args.max) c.deref.ensures.value c.fill_for.ensures

pub returns-clause-holds : goal.returns-clause-holds
returns-clause-holds c =
    let slots = c.args.slots.now in
    let ts = c.list_targets.new.targets.items in
    let p = is_target slots c.args.marks.now c.args.kind in
    record {
      current = record {
        number = refl;
        targets = there_still slots c.fill_for.new.slots ts c.fill_for.ensures.arms_stay (targets_there slots p slots.geometry.spec.children ts c.list_targets.ensures.listed);
      };
      ascending = targets_ascend slots p slots.geometry.spec.children ts c.list_targets.ensures.listed;
      some_max = c.requires.some_max;
    }

pub returns-clause-state : goal.returns-clause-state
returns-clause-state c = λ w once has suits number max.
    plans c.args.slots.now w has once c.fill_for.new.slots c.args.marks.now c.args.kind _ suits (returns-clause-pass c) (returns-clause-logs c) number max
