use Rattle.std.proofs.Common.{◌≤◌, Vec, Global, refl, subst, sym, ◌∙◌, ap}
use Rattle.draid_script.specs.Line.{most_lanes}
use Rattle.draid_script.specs.declared.name.CommandName.TheVariants as name
use Rattle.draid_reply.specs.declared.reply.Reply.TheVariants.{NoMemory}
use Rattle.draid_session.specs.Known.{Known}
use Rattle.draid_session.specs.State.{State}
use Rattle.draid_pool.specs.Failing.{AreaRose}
use Rattle.draid_pool.specs.Knows.{KnowsPointers}
use Rattle.draid_pool.specs.Pools.{Represents}
use Rattle.draid_print.specs.declared.printing.LaneReplies.{LaneReplies}
use Rattle.draid_run.proofs.Lining.{lanes_many}
use Rattle.std.specs.Fn.{FnReturnsAt}
use Rattle.draid_session.specs.Choices.{choices_by}
use Rattle.draid_session.specs.Sections.{ClashesMend, NoClash, RefusesSection}
use Rattle.draid_run.specs.Desks.{IsPool}
use Rattle.draid_clashes.specs.Lanes.{lanes_in}
use Rattle.draid_pool.specs.Keeping.{SamePool}
use Rattle.draid_run.specs.Sections.{IsStopped, LanesTeach, RunsSection, StopWhere}
use Rattle.draid_print.specs.Printing.{replies_in}
use Rattle.draid_run.proofs.Ran.{of_err, of_ok, pool_whole, same_pool, section_pointed, section_ran, section_refused}
use Rattle.draid_run.proofs.lanes.run_lanes.Goals as goal
use Rattle.draid_checkpoint.specs.Check.{Point}

pub returns-in-Some-group : goal.returns-in-Some-group
returns-in-Some-group g c = record {
  did = λ entry now x desk.
      section_pointed g.R.Rack g.A.Area (choices_by (FnReturnsAt g.F.Fn c.args.chooser.now)) (lanes_in c.args.lanes.items) entry now x c.args.pool.now _ c.in-Some.open c.in-Some-group.field-0 (sym c.in-Some.ensures.value) refl
      (sym (c.group.ensures ∙ ap (λ (p : Point). p.group) c.point.ensures) ∙ c.in-Some-group.is) desk;
}

pub returns-in-Some-refusal : goal.returns-in-Some-refusal
returns-in-Some-refusal g c = record {
  did = λ entry now x desk.
      section_refused g.R.Rack g.A.Area (choices_by (FnReturnsAt g.F.Fn c.args.chooser.now)) (lanes_in c.args.lanes.items) entry now x c.args.pool.now _ c.in-Some.open c.in-Some.open (sym c.in-Some.ensures.value) refl (same_pool c.in-Some.open)
      (pool_whole g.R.Rack g.A.Area c.in-Some.open x (subst (λ p. IsPool g.R.Rack g.A.Area p x) (sym c.in-Some.ensures.value) desk.stands)) (sym (c.group.ensures ∙ ap (λ (p : Point). p.group) c.point.ensures) ∙ c.in_default-group.is) c.in-Some-refusal.reply
      (subst (λ lanes. RefusesSection (lanes_in lanes) c.in-Some-refusal.reply) c.deref.ensures.value c.in-Some-refusal.ensures.some) desk;
}

pub run_section-open-requires-clause-whole : goal.run_section-open-requires-clause-whole
run_section-open-requires-clause-whole g c =
    pool_whole g.R.Rack g.A.Area c.in-Some.open c.requires.desk.0 (subst (λ p. IsPool g.R.Rack g.A.Area p c.requires.desk.0) (sym c.in-Some.ensures.value) c.requires.desk.1)

pub run_section-open-requires-clause-point : goal.run_section-open-requires-clause-point
run_section-open-requires-clause-point g c = sym (c.group.ensures ∙ ap (λ (p : Point). p.group) c.point.ensures) ∙ c.in_default-group.is

pub run_section-open-requires-clause-lanes : goal.run_section-open-requires-clause-lanes
run_section-open-requires-clause-lanes g c = record {
  some = subst (λ n. 1 ≤ n) (sym (lanes_many c.args.lanes.items)) c.requires.lanes.some;
  few = subst (λ n. n ≤ most_lanes) (sym (lanes_many c.args.lanes.items)) c.requires.lanes.few;
  each = c.requires.lanes.each;
  apart = subst (λ lanes. NoClash (lanes_in lanes)) c.deref.ensures.value c.in_default-refusal.ensures.apart;
  one_mends = subst (λ lanes. ClashesMend (lanes_in lanes) → ⊥) c.deref.ensures.value c.in_default-refusal.ensures.one_mends;
}

pub returns-in-Ok : goal.returns-in-Ok
returns-in-Ok g c =
    let told = c.run_section-open.ensures in
    record {
      did = λ entry now x desk.
          section_ran g.R.Rack g.A.Area (choices_by (FnReturnsAt g.F.Fn c.args.chooser.now)) (lanes_in c.args.lanes.items) entry now x c.args.pool.now _ c.in-Some.open c.run_section-open.result.0 c.in-Ok.ran (sym c.in-Some.ensures.value) refl told.whole (sym (c.group.ensures ∙ ap (λ (p : Point). p.group) c.point.ensures) ∙ c.in_default-group.is)
          (subst (λ lanes. NoClash (lanes_in lanes)) c.deref.ensures.value c.in_default-refusal.ensures.apart)
          (subst (λ lanes. ClashesMend (lanes_in lanes) → ⊥) c.deref.ensures.value c.in_default-refusal.ensures.one_mends)
          (of_ok c.run_section-open.result.1 c.in-Ok.ran (λ (ran : Vec LaneReplies Global). StopWhere (lanes_in c.args.lanes.items) ran.items) c.in-Ok.is told.stops)
          (of_ok c.run_section-open.result.1 c.in-Ok.ran (λ (ran : Vec LaneReplies Global). (y : State) → Represents g.R.Rack g.A.Area c.in-Some.open y → RunsSection g.R.Rack g.A.Area (choices_by (FnReturnsAt g.F.Fn c.args.chooser.now)) y (lanes_in c.args.lanes.items) (replies_in ran.items) c.run_section-open.result.0) c.in-Ok.is told.runs)
          (of_ok c.run_section-open.result.1 c.in-Ok.ran (λ (ran : Vec LaneReplies Global). (known : Known) → KnowsPointers c.in-Some.open known → LanesTeach (lanes_in c.args.lanes.items) (replies_in ran.items) known c.run_section-open.result.0) c.in-Ok.is told.teach)
          (of_ok c.run_section-open.result.1 c.in-Ok.ran (λ (ran : Vec LaneReplies Global). IsStopped ran.items → AreaRose g.A.Area.faults c.in-Some.open c.run_section-open.result.0) c.in-Ok.is told.cause) desk;
    }

pub returns-in-Err : goal.returns-in-Err
returns-in-Err g c = record {
  did = λ entry now x desk.
      section_refused g.R.Rack g.A.Area (choices_by (FnReturnsAt g.F.Fn c.args.chooser.now)) (lanes_in c.args.lanes.items) entry now x c.args.pool.now _ c.in-Some.open c.run_section-open.result.0 (sym c.in-Some.ensures.value) refl
      (of_err c.run_section-open.result.1 c.in-Err.field-0 (λ _. SamePool c.in-Some.open c.run_section-open.result.0) c.in-Err.is c.run_section-open.ensures.refused) c.run_section-open.ensures.whole (sym (c.group.ensures ∙ ap (λ (p : Point). p.group) c.point.ensures) ∙ c.in_default-group.is) (NoMemory name.Lanes) tt desk;
}
