use Rattle.std.proofs.Common.{true, sym, ap, subst, is_some, ◌≡◌}
use Rattle.draid_machine.specs.After.{renew_if}
use Rattle.draid_machine.specs.Names.{name_eq}
use Rattle.draid_machine.specs.declared.names.ArmName.{ArmName}
use Rattle.draid_world.specs.World.{arm_in}
use Rattle.draid_passes.specs.Logs.{changed_at}
use Rattle.draid_passes.proofs.Changes.{arm_changed, arm_absent}
use Rattle.draid_arms.proofs.moves.renew_at.Goals as goal

pub returns-in_ok-renew : goal.returns-in_ok-renew
returns-in_ok-renew c =
    let found = sym c.in-Some.ensures.value in
    let holds = c.get_mut.follows.holds c.renew.new.arm in
    arm_changed c.args.arms.now.entries _ c.args.name (renew_if true c.args.last) c.in-Some.arm.now c.renew.new.arm found c.in_ok-renew.ensures (holds.3 (ap is_some found)).0

pub returns-in_default : goal.returns-in_default
returns-in_default c =
    subst (λ m. (n : ArmName) → arm_in m.entries n ≡ changed_at (name_eq c.args.name n) (renew_if true c.args.last) (arm_in c.args.arms.now.entries n)) (sym c.get_mut.follows.holds-at-none)
    (arm_absent c.args.arms.now.entries c.args.name (renew_if true c.args.last) (sym c.in_default.ensures.value))
