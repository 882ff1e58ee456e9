use Rattle.std.proofs.Common.{true, sym, ap, subst, is_some, ◌≡◌}
use Rattle.draid_machine.specs.After.{excise_if}
use Rattle.draid_world.specs.World.{arm_in}
use Rattle.draid_passes.specs.Logs.{changed_at}
use Rattle.draid_machine.specs.Names.{name_eq}
use Rattle.draid_machine.specs.declared.names.ArmName.{ArmName}
use Rattle.draid_passes.proofs.Changes.{arm_changed, arm_absent}
use Rattle.draid_passes.proofs.logs.excise_at.Goals as goal

pub returns-in-Some : goal.returns-in-Some
returns-in-Some c =
    let found = sym c.in-Some.ensures.value in
    let holds = c.get_mut.follows.holds c.excise.new.arm in
    arm_changed c.args.arms.now.entries _ c.args.name (excise_if true c.args.upto) c.in-Some.arm.now c.excise.new.arm found c.excise.ensures (holds.3 (ap is_some found)).0

pub returns-in_default : goal.returns-in_default
returns-in_default c =
    subst (λ m. (n : ArmName) → arm_in m.entries n ≡ changed_at (name_eq c.args.name n) (excise_if true c.args.upto) (arm_in c.args.arms.now.entries n)) (sym c.get_mut.follows.holds-at-none)
    (arm_absent c.args.arms.now.entries c.args.name (excise_if true c.args.upto) (sym c.in_default.ensures.value))
