use Rattle.std.proofs.Common.{◌∙◌, Err, subst, sym}
use Rattle.std.proofs.lemmas.Bool.{true≢false}
use Rattle.draid_machine.specs.declared.event.Event.TheVariants.{Plan}
use Rattle.draid_entries.specs.History.{AskIs, left_for_groups}
use Rattle.draid_passing.specs.Passing.{IsLast}
use Rattle.draid_passing.proofs.Following.{does_then}
use Rattle.draid_passing.proofs.Roomy.{lacks_kept}
use Rattle.draid_passing.proofs.planning.plan.Goals as goal

pub returns-then-lacks_target-clause-refused : goal.returns-then-lacks_target-clause-refused
returns-then-lacks_target-clause-refused g c = (c.in_default.is, c.lacks_target.ensures.0 c.if-lacks_target.true)

pub plan_with-requires-clause-target : goal.plan_with-requires-clause-target
plan_with-requires-clause-target g c = λ lacks.
    true≢false (sym (c.lacks_target.ensures.1 (lacks_kept c.args.shard.now.slots c.make_room.new.shard.slots c.args.kind c.in-Ok.ensures.slots lacks)) ∙ c.if-lacks_target.false)

pub returns-in-Ok-clause-event : goal.returns-in-Ok-clause-event
returns-in-Ok-clause-event g c = does_then c.args.shard.now c.make_room.new.shard c.plan_with.new.shard (Plan c.args.kind) c.in-Ok.ensures.none.none c.plan_with.ensures.event

pub returns-in-Ok-2-clause-refused : goal.returns-in-Ok-2-clause-refused
returns-in-Ok-2-clause-refused g c = (
  c.in_default.is,
  λ lacks. true≢false (sym (c.lacks_target.ensures.1 lacks) ∙ c.if-lacks_target.false),
  c.in-Ok-2.ensures.not_worn,
  subst (λ s. IsLast s c.args.kind) c.in-Ok-2.ensures.only (c.is_last.ensures.0 c.if-not-is_last.false),
)

pub returns-in-Err-Worn-clause-refused : goal.returns-in-Err-Worn-clause-refused
returns-in-Err-Worn-clause-refused g c =
    let why = subst (λ e. AskIs c.args.shard.now.history 3 left_for_groups (Err e)) c.in-Err-Worn.field-0-is c.in-Err-Worn.ensures.refused in
    (c.in_default.is, λ lacks. true≢false (sym (c.lacks_target.ensures.1 lacks) ∙ c.if-lacks_target.false), why.0, c.in-Err-Worn.events-is ∙ why.1)
