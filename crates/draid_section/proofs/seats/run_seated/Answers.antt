use Rattle.std.proofs.Common.{◌∙◌, ap, length, sym, subst, All}
use Rattle.draid_lanes.specs.Jobs.{EachHasRun, MayRun}
use Rattle.draid_lanes.specs.declared.running.InLane.{InLane}
use Rattle.draid_section.specs.Seating.{AreSeated, AreTaken}
use Rattle.draid_section.proofs.Ran.{back_whole, jobs_ran, may_run, taken_after}
use Rattle.draid_section.proofs.seats.run_seated.Goals as goal

pub run_jobs-requires-after_bounds : goal.run_jobs-requires-after_bounds
run_jobs-requires-after_bounds g c κs within =
    let e = c.seat_each-seats.ensures in
    subst (λ ss. All (MayRun (λ (j : InLane g.row.J.Denot) lane. g.J.LaneJob.needs j.job lane)) ss) (sym c.deref_mut.ensures.value)
    (may_run g.J.LaneJob.needs g.J.LaneJob.relates c.args.turns.now c.args.uber.now c.args.geometry c.args.shares.now c.args.passes.now.items c.seat_each-seats.result.items e.seated e.at c.requires.may)

pub rise_each-requires-clause-taken : goal.rise_each-requires-clause-taken
rise_each-requires-clause-taken g c =
    let e = c.seat_each-seats.ensures in
    let many = c.run_jobs.ensures.count ∙ ap length c.deref_mut.ensures.value in
    let ran = subst (λ ss. EachHasRun (λ (j : InLane g.row.J.Denot) lane (k : InLane g.row.J.Denot) next. g.J.LaneJob.relates j.job lane k.job next) ss c.run_jobs.new.seats) c.deref_mut.ensures.value c.run_jobs.ensures.ran in
    subst AreTaken (sym (back_whole c.seat_each-seats.result.len c.seat_each-seats.result.items c.run_jobs.new.seats many c.seat_each-seats.result.ok.0))
    (taken_after g.J.LaneJob.needs g.J.LaneJob.relates c.args.turns.now c.args.uber.now c.args.geometry c.args.shares.now c.args.passes.now.items c.seat_each-seats.result.items e.seated e.at c.run_jobs.new.seats many ran)

pub returns-clause-ran : goal.returns-clause-ran
returns-clause-ran g c =
    let e = c.seat_each-seats.ensures in
    let many = c.run_jobs.ensures.count ∙ ap length c.deref_mut.ensures.value in
    let ran = subst (λ ss. EachHasRun (λ (j : InLane g.row.J.Denot) lane (k : InLane g.row.J.Denot) next. g.J.LaneJob.relates j.job lane k.job next) ss c.run_jobs.new.seats) c.deref_mut.ensures.value c.run_jobs.ensures.ran in
    let seated = subst (λ ss. AreSeated c.rise_each.new.shares c.rise_each.new.passes.items ss) (back_whole c.seat_each-seats.result.len c.seat_each-seats.result.items c.run_jobs.new.seats many c.seat_each-seats.result.ok.0) c.rise_each.ensures.seated in
    jobs_ran g.J.LaneJob.needs g.J.LaneJob.relates c.args.turns.now c.args.uber.now c.args.geometry c.args.shares.now c.args.passes.now.items c.seat_each-seats.result.items e.seated e.at c.run_jobs.new.seats many ran
    c.rise_each.new.shares c.rise_each.new.passes.items c.rise_each.ensures.even seated
