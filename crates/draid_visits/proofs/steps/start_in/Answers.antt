use Rattle.std.proofs.Common.{◌≡◌, refl, subst}
use Rattle.std.specs.Prelude.{IfSome}
use Rattle.draid_pass.specs.declared.pass.Pass.{Pass}
use Rattle.draid_shard.proofs.Changed.{same_entries}
use Rattle.draid_pool.proofs.Drifting.{groups_kept}
use Rattle.draid_visits.proofs.Started.{goes_on}
use Rattle.draid_visits.proofs.steps.start_in.Goals as goal

pub returns-in-Some-clause-goes : goal.returns-in-Some-clause-goes
returns-in-Some-clause-goes g c = λ part pieces x is.
    (let pass = c.in-Some.pass in
    let kind = subst (λ o. IfSome o (λ (p : Pass). p.kind ≡ c.args.kind)) c.in-Some.is c.requires.alone in
    goes_on g.R.Rack g.A.Area part pieces c.args.shard.now x is c.args.kind pass c.min.result c.metaslab_stripes.result c.in-Some.is kind c.min.ensures c.metaslab_stripes.ensures.value)

pub returns-in-Some-clause-keeps : goal.returns-in-Some-clause-keeps
returns-in-Some-clause-keeps g c = record { entries = same_entries c.args.shard.now.entries; groups = record { open_group_is = refl; closing = refl; sealed = refl; committed = refl } }

pub returns-in-Some-clause-groups : goal.returns-in-Some-clause-groups
returns-in-Some-clause-groups g c = groups_kept c.args.shard.now
