use Rattle.std.proofs.Common.{◌∙◌, Some, IsSome, ap, is_some, subst, sym}
use Rattle.std.proofs.lemmas.Bool.{true≢false}
use Rattle.draid_machine.specs.State as state
use Rattle.draid_machine.specs.After.{set_arm}
use Rattle.draid_machine.proofs.Small.{some_injective}
use Rattle.draid_world.specs.World.{arm_in, arm_of, offline_arm, switched}
use Rattle.draid_world.proofs.Maps.{arm_found, arm_updated, is_some_arm}
use Rattle.draid_world.proofs.arms.set_offline.Goals as goal

pub returns-in-Some : goal.returns-in-Some
returns-in-Some c = λ a is n.
    let es = c.args.arms.now.entries in
    let arm = c.in-Some.arm.now in
    let found = sym c.in-Some.ensures.value in
    let holds = c.get_mut.follows.holds (offline_arm arm c.args.offline) in
    arm_updated es _ c.args.name (Some (offline_arm arm c.args.offline)) (holds.3 (ap is_some found)).0 n
    ∙ ap (λ (b : state.Arm). set_arm (arm_in es) c.args.name (Some (switched b c.args.offline)) n) (some_injective (arm_of arm) a (sym (arm_found es c.args.name (Some arm) found) ∙ is))

pub returns-in_default : goal.returns-in_default
returns-in_default c = absurd (true≢false (sym (subst (λ o. IsSome o) (sym c.in_default.ensures.value) (is_some_arm c.args.arms.now.entries c.args.name c.requires.there))))
