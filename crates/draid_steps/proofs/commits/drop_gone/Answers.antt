use Rattle.std.proofs.Common.{◌≡◌, ◌∙◌, ap, rules, Bool, not, Some, filter}
use Rattle.draid_machine.specs.declared.names.ArmName.{ArmName}
use Rattle.draid_machine.specs.After.{is_gone_arm}
use Rattle.draid_world.specs.World.{arm_in, arm_of}
use Rattle.draid_world.specs.declared.world.Arm.{Arm}
use Rattle.draid_steps.proofs.Kept.{retained, arm_kept, arms_apart}
use Rattle.draid_steps.proofs.commits.drop_gone.Goals as goal

pub returns : goal.returns
returns c =
    let keep : ArmName × Arm → Bool = λ e. not (is_gone_arm c.args.group (Some (arm_of e.1))) in
    let left : c.retain.new.self.entries ≡ filter keep c.args.arms.now.entries =
    retained _ _ keep (λ k v b w g t. (search rules, search rules, search rules)) _ _ c.retain.ensures.filtered in
    λ n. ap (λ es. arm_in es n) left ∙ arm_kept c.args.group c.args.arms.now.entries n (arms_apart c.args.arms.now.entries c.retain.ensures.was_ordered)
