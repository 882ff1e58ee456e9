use Rattle.std.proofs.Common.{rules, Bool, not}
use Rattle.std.proofs.lemmas.Fn.{filter_same}
use Rattle.draid_machine.specs.declared.names.ArmName.{ArmName}
use Rattle.draid_machine.specs.Names.{name_eq}
use Rattle.draid_arms.proofs.slots.take_out.Goals as goal

pub returns : goal.returns
returns c =
    let test : ArmName → Bool = λ m. not (name_eq c.args.name m) in
    filter_same _ test _ (λ x b f' k. search rules) _ _ c.retain.ensures.filtered
