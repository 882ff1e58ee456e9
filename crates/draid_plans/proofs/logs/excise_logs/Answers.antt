use Rattle.std.proofs.Common.{get_or, refl, subst, take}
use Rattle.std.proofs.lemmas.List.{take_all}
use Rattle.draid_names.specs.declared.arm.ArmAt.{ArmAt}
use Rattle.draid_slots.specs.Table.{is_at}
use Rattle.draid_plans.specs.Logs.{Excises, has_place}
use Rattle.draid_plans.proofs.Changes.{excises_more, excises_none}
use Rattle.draid_plans.proofs.Order.{has_more}
use Rattle.draid_plans.proofs.logs.excise_logs.Goals as goal

pub loop-target-preserved : goal.loop-target-preserved
loop-target-preserved c =
    let ts = c.args.targets.now in
    let k = c.loop-target.target-index in
    let d : ArmAt = record { slot = 0; arm = 0 } in
    excises_more c.args.slots.now c.loop-target.slots c.excise.new.slots (has_place (take k ts)) (is_at (get_or ts k d)) _ c.args.upto c.loop-target.invariant c.excise.ensures
    (λ at. has_more ts k d at c.loop-target-test.true)

pub loop-target-init : goal.loop-target-init
loop-target-init c = excises_none c.args.slots.now _ c.args.upto (λ at. refl)

pub returns : goal.returns
returns c = subst (λ ts. Excises c.args.slots.now c.loop-target.slots (has_place ts) c.args.upto) (take_all c.loop-target.target-index c.args.targets.now c.loop-target-test.false) c.loop-target.invariant
