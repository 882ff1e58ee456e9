use Rattle.std.proofs.Common.{◌∙◌, Option, Some, ap, subst, sym}
use Rattle.std.specs.Prelude.{IsSomeAnd}
use Rattle.draid_pass.specs.declared.pass.Pass.{Pass}
use Rattle.draid_mend.specs.Loans.{IsRunningRebuild}
use Rattle.draid_mend.proofs.Comes.{final_keeps, final_lands, final_valid}
use Rattle.draid_mend.proofs.landing.land.Goals as goal

pub returns-clause-valid : goal.returns-clause-valid
returns-clause-valid g c =
    let there = sym c.take.ensures.value ∙ c.in-Some.is in
    let kept = sym c.take-2.ensures.value ∙ c.in-Some-Stripe.is ∙ ap Some c.in-Some-Stripe.field-0-is in
    let e = c.add.ensures in
    final_valid g.R.Rack c.args.shard.now c.requires.valid c.in-Some.pass there (subst (λ (o : Option Pass). IsSomeAnd o IsRunningRebuild) there c.requires.running) c.in-Some-Stripe.kept kept
    c.take.new.self c.take-2.new.self c.take-2.ensures.after c.land_kept.new.shard c.land_kept.new.pass c.land_kept.new.kept c.land_kept.ensures.lands c.taken_out.result c.taken_out.ensures _ c.add.new.self _ e.owed e.reserved e.stored

pub returns-clause-lands : goal.returns-clause-lands
returns-clause-lands g c =
    let there = sym c.take.ensures.value ∙ c.in-Some.is in
    let kept = sym c.take-2.ensures.value ∙ c.in-Some-Stripe.is ∙ ap Some c.in-Some-Stripe.field-0-is in
    let e = c.add.ensures in
    final_lands g.R.Rack c.args.shard.now c.requires.valid c.in-Some.pass there (subst (λ (o : Option Pass). IsSomeAnd o IsRunningRebuild) there c.requires.running) c.in-Some-Stripe.kept kept
    c.take.new.self c.take-2.new.self c.take-2.ensures.after c.land_kept.new.shard c.land_kept.new.pass c.land_kept.new.kept c.land_kept.ensures.lands c.taken_out.result c.taken_out.ensures _ c.add.new.self e.stored

pub returns-clause-keeps : goal.returns-clause-keeps
returns-clause-keeps g c =
    let there = sym c.take.ensures.value ∙ c.in-Some.is in
    let kept = sym c.take-2.ensures.value ∙ c.in-Some-Stripe.is ∙ ap Some c.in-Some-Stripe.field-0-is in
    final_keeps g.R.Rack c.args.shard.now c.requires.valid c.in-Some.pass there (subst (λ (o : Option Pass). IsSomeAnd o IsRunningRebuild) there c.requires.running) c.in-Some-Stripe.kept kept
    c.take.new.self c.take-2.new.self c.take-2.ensures.after c.land_kept.new.shard c.land_kept.new.pass c.land_kept.new.kept c.land_kept.ensures.lands c.taken_out.result c.taken_out.ensures _ c.add.new.self
