use Rattle.std.proofs.Common.{true, sym, ap, subst, is_some, ◌≡◌}
use Rattle.draid_machine.specs.After.{fill_if}
use Rattle.draid_world.specs.World.{arm_in}
use Rattle.draid_passes.specs.Logs.{changed_at}
use Rattle.draid_machine.specs.Names.{name_eq}
use Rattle.draid_machine.specs.declared.names.ArmName.{ArmName}
use Rattle.draid_passes.proofs.Changes.{arm_changed, arm_absent}
use Rattle.draid_passes.proofs.logs.fill_at.Goals as goal

pub returns-in_ok-fill : goal.returns-in_ok-fill
returns-in_ok-fill c =
    let found = sym c.in-Some.ensures.value in
    let holds = c.get_mut.follows.holds c.fill.new.arm in
    arm_changed c.args.arms.now.entries _ c.args.name (fill_if true c.args.last) c.in-Some.arm.now c.fill.new.arm found c.in_ok-fill.ensures (holds.3 (ap is_some found)).0

pub returns-in_default : goal.returns-in_default
returns-in_default c =
    subst (λ m. (n : ArmName) → arm_in m.entries n ≡ changed_at (name_eq c.args.name n) (fill_if true c.args.last) (arm_in c.args.arms.now.entries n)) (sym c.get_mut.follows.holds-at-none)
    (arm_absent c.args.arms.now.entries c.args.name (fill_if true c.args.last) (sym c.in_default.ensures.value))
