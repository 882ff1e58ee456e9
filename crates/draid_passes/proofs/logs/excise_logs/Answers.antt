use Rattle.std.proofs.Common.{◌<◌, true, ◌∙◌, ap, sym, take, get_or, length}
use Rattle.draid_machine.specs.declared.names.ArmName.TheVariants.{Leaf}
use Rattle.draid_machine.specs.After.{excise_if, map_arm}
use Rattle.draid_machine.specs.Names.{has_name, name_eq}
use Rattle.draid_world.specs.World.{arm_in}
use Rattle.draid_passes.specs.Logs.{changed_at}
use Rattle.draid_passes.proofs.Endings.{excised_twice}
use Rattle.draid_passes.proofs.Changes.{changed_twice, has_more}
use Rattle.draid_passes.proofs.logs.excise_logs.Goals as goal

pub loop-name-preserved : goal.loop-name-preserved
loop-name-preserved c = λ n.
    let names = c.args.names.now in
    let at = c.loop-name.name-index in
    let here = name_eq (get_or names at (Leaf 0)) n in
    let old = arm_in c.args.arms.now.entries n in
    let less : at < length names = c.loop-name-test.true in
    c.excise_at.ensures n
    ∙ ap (changed_at here (excise_if true c.args.upto)) (c.loop-name.invariant n)
    ∙ changed_twice (λ b. excise_if b c.args.upto) (has_name (take at names) n) here old (λ a. excised_twice (has_name (take at names) n) c.args.upto a)
    ∙ ap (λ b. map_arm (excise_if b c.args.upto) old) (sym (has_more names at (Leaf 0) n less))
