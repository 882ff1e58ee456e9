use Rattle.std.proofs.Common.{◌&&◌, ◌∙◌, ap, not, refl}
use Rattle.draid_machine.specs.After.{each_arm, log_if}
use Rattle.draid_machine.specs.Names.{has_name}
use Rattle.draid_world.specs.World.{arm_in, names_at}
use Rattle.draid_world.proofs.Maps.{on_ok}
use Rattle.draid_steps.proofs.columns.log_slot.Goals as goal

pub returns-clause-logs : goal.returns-clause-logs
returns-clause-logs c =
    on_ok c.log_missed.result
    (λ logs n. logs n
    ∙ ap (λ ns. each_arm (λ m. log_if (has_name ns m && not (has_name c.args.landed.now m)) c.args.group) (arm_in c.args.tables.now.arms.entries) n)
    (c.names_of.ensures ∙ ap (λ vs. names_at vs c.args.slot) c.deref.ensures.value))
    c.log_missed.ensures

pub returns-clause-rest : goal.returns-clause-rest
returns-clause-rest c = refl
