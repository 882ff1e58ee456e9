use Rattle.std.proofs.Common.{◌∙◌, refl, subst, sym}
use Rattle.std.proofs.lemmas.Bool.{true≢false}
use Rattle.draid_shard.specs.Alike.{KeepsArms}
use Rattle.draid_shard.proofs.Changed.{same_arms, same_entries}
use Rattle.draid_pool.proofs.Drifting.{groups_kept}
use Rattle.draid_visits.proofs.Readied.{ready_goes, runs_here}
use Rattle.draid_visits.proofs.Tables.{groups_left}
use Rattle.draid_visits.proofs.steps.ready_in.Goals as goal

pub returns-then-is_running-clause-goes : goal.returns-then-is_running-clause-goes
returns-then-is_running-clause-goes g c = λ part pieces x is. runs_here g.R.Rack g.A.Area part pieces c.args.shard.now x is (c.is_running.ensures.0 c.if-is_running.true)

pub returns-clause-goes : goal.returns-clause-goes
returns-clause-goes g c = λ part pieces x is.
    (let e = c.ready.ensures in
    ready_goes g.R.Rack g.A.Area part pieces c.args.shard.now x is c.ready.new.shard c.ready.result c.is_ok.result c.is_ok.ensures.value
    (λ runs. true≢false (sym (c.is_running.ensures.1 runs) ∙ c.if-is_running.false)) e.valid e.event e.acts e.kit e.reserve e.illegal e.same)

pub returns-then-is_running-clause-keeps : goal.returns-then-is_running-clause-keeps
returns-then-is_running-clause-keeps g c = record { entries = same_entries c.args.shard.now.entries; groups = record { open_group_is = refl; closing = refl; sealed = refl; committed = refl } }

pub returns-then-is_running-clause-groups : goal.returns-then-is_running-clause-groups
returns-then-is_running-clause-groups g c = groups_kept c.args.shard.now

pub returns-clause-keeps : goal.returns-clause-keeps
returns-clause-keeps g c = c.ready.ensures.keeps

pub returns-clause-groups : goal.returns-clause-groups
returns-clause-groups g c =
    let e = c.ready.ensures in
    groups_left c.args.shard.now c.ready.new.shard e.keeps (subst (λ slots. KeepsArms c.args.shard.now.slots slots) (sym e.slots) (same_arms c.args.shard.now.slots)) e.reserve
