use Rattle.std.proofs.Common.{◌∙◌, ◌&&◌, not, sym, refl, ap}
use Rattle.std.proofs.lemmas.List.{drop_all}
use Rattle.draid_machine.specs.After.{map_arm, log_if}
use Rattle.draid_machine.specs.Names.{has_name}
use Rattle.draid_machine.specs.declared.names.ArmName.TheVariants.{Leaf}
use Rattle.draid_world.specs.World.{arm_in}
use Rattle.draid_steps.proofs.Logs.{log_step, map_none}
use Rattle.draid_steps.proofs.columns.log_missed.Goals as goal

pub loop-name-init : goal.loop-name-init
loop-name-init c = λ n. refl

pub loop-name-preserved : goal.loop-name-preserved
loop-name-preserved c = λ n.
    log_step c.args.names.now c.args.landed.now c.args.group c.loop-name.name-index (Leaf 0) (arm_in c.loop-name.arms.entries) (arm_in c.log_unless.new.arms.entries) c.loop-name-test.true
    c.in_ok-log_unless.ensures n
    ∙ c.loop-name.invariant n

pub returns : goal.returns
returns c = λ n.
    sym (map_none c.args.group (arm_in c.loop-name.arms.entries n))
    ∙ ap (λ ns. map_arm (log_if (has_name ns n && not (has_name c.args.landed.now n)) c.args.group) (arm_in c.loop-name.arms.entries n)) (sym (drop_all c.loop-name.name-index c.args.names.now c.loop-name-test.false))
    ∙ c.loop-name.invariant n
