use Rattle.std.proofs.Common.{List, Some, refl}
use Rattle.std.specs.Prelude.{◌==◌}
use Rattle.draid_names.specs.declared.arm.ArmAt.{ArmAt}
use Rattle.draid_record.specs.Grammar.{Done}
use Rattle.draid_record.specs.Record as spec
use Rattle.draid_record.specs.Record.{PassTold, told_slots}
use Rattle.draid_record.proofs.Steps.{done, joins, number_then}
use Rattle.draid_record.proofs.pass.pass_of.Goals as goal

pub returns-clause-pass : goal.returns-clause-pass
returns-clause-pass c =
    let told : List ArmAt → PassTold = λ list. record { kind = c.args.kind; targets = list; max = c.number-max.result; «at» = c.number-at.result; errors = c.number-errors.result; running = c.number-running.result == 1 } in
    number_then 1 _ _ _ _ _ _ _ _ _ _ refl refl c.number-running.ensures.reads
    (number_then 8 _ _ _ _ _ _ _ _ _ _ refl refl c.number-max.ensures.reads
    (number_then 8 _ _ _ _ _ _ _ _ _ _ refl refl c.number-at.ensures.reads
    (number_then 8 _ _ _ _ _ _ _ _ _ _ refl refl c.number-errors.ensures.reads
    (joins (spec.targets (told_slots c.args.all.now)) (λ (list : List ArmAt). Done (Some (told list))) _ _ _ c.in_ok-targets.targets.items _ c.in_ok-targets.ensures (done _ _)))))
