use Rattle.std.proofs.Common.{◌∙◌, length, refl, subst}
use Rattle.draid_section.specs.Turning.{AreOfLanes}
use Rattle.draid_section.proofs.Idle.{over_refused, still_hold}
use Rattle.draid_section.proofs.LanePasses.{lanes_hold, lanes_own}
use Rattle.draid_section.proofs.section.run_over.Goals as goal

pub run_seated-ran-requires-clause-may : goal.run_seated-ran-requires-clause-may
run_seated-ran-requires-clause-may g c κs within =
    c.requires.may c.split_uber-passes.result.items c.split_uber-passes.new.first (subst (λ n. AreOfLanes c.args.made.turn n c.split_uber-passes.result.items c.split_uber-passes.new.first) (c.len-count.ensures ∙ c.args.shares.now.passes.ok.0) c.split_uber-passes.ensures)

pub unlock_uber-uber-requires-clause-each : goal.unlock_uber-uber-requires-clause-each
unlock_uber-uber-requires-clause-each g c =
    let of = subst (λ n. AreOfLanes c.args.made.turn n c.split_uber-passes.result.items c.split_uber-passes.new.first) (c.len-count.ensures ∙ c.args.shares.now.passes.ok.0) c.split_uber-passes.ensures in
    let still = still_hold g.R.Rack g.A.Area g.J.LaneJob.needs g.J.LaneJob.relates c.args.turns.now c.args.made.turn c.args.geometry c.args.shares.now c.split_uber-passes.result.items c.split_uber-passes.new.first of (c.requires.may c.split_uber-passes.result.items c.split_uber-passes.new.first of)
    c.requires.keeps c.run_seated-ran.result c.run_seated-ran.new.shares c.split_uber-passes.result c.run_seated-ran.new.passes refl c.run_seated-ran.ensures.ran c.run_seated-ran.ensures.refused in
    lanes_own c.args.made.turn (length c.args.shares.now.passes.items) c.split_uber-passes.result.items c.run_seated-ran.new.passes.items c.split_uber-passes.new.first of still.many still.tables

pub unlock_uber-uber-requires-clause-all : goal.unlock_uber-uber-requires-clause-all
unlock_uber-uber-requires-clause-all g c =
    let of = subst (λ n. AreOfLanes c.args.made.turn n c.split_uber-passes.result.items c.split_uber-passes.new.first) (c.len-count.ensures ∙ c.args.shares.now.passes.ok.0) c.split_uber-passes.ensures in
    let still = still_hold g.R.Rack g.A.Area g.J.LaneJob.needs g.J.LaneJob.relates c.args.turns.now c.args.made.turn c.args.geometry c.args.shares.now c.split_uber-passes.result.items c.split_uber-passes.new.first of (c.requires.may c.split_uber-passes.result.items c.split_uber-passes.new.first of)
    c.requires.keeps c.run_seated-ran.result c.run_seated-ran.new.shares c.split_uber-passes.result c.run_seated-ran.new.passes refl c.run_seated-ran.ensures.ran c.run_seated-ran.ensures.refused in
    lanes_hold c.args.made.turn (length c.args.shares.now.passes.items) c.split_uber-passes.result.items c.run_seated-ran.new.passes.items c.split_uber-passes.new.first of still.many still.numbers

pub returns-clause-refused : goal.returns-clause-refused
returns-clause-refused g c =
    let of = subst (λ n. AreOfLanes c.args.made.turn n c.split_uber-passes.result.items c.split_uber-passes.new.first) (c.len-count.ensures ∙ c.args.shares.now.passes.ok.0) c.split_uber-passes.ensures in
    over_refused g.R.Rack g.A.Area c.run_seated-ran.result c.args.made.turn (length c.args.shares.now.passes.items) c.split_uber-passes.result c.run_seated-ran.new.passes c.split_uber-passes.new.first c.args.shares.now c.run_seated-ran.new.shares c.unlock_uber-uber.result.0
    c.unlock_uber-uber.result.1 of c.run_seated-ran.ensures.refused c.unlock_uber-uber.ensures
