use Rattle.std.proofs.lemmas.List.{take_all}
use Rattle.std.proofs.Common.{◌<◌, true, ◌∙◌, ap, sym, take, get_or, length}
use Rattle.draid_machine.specs.declared.names.ArmName.TheVariants.{Leaf}
use Rattle.draid_machine.specs.After.{renew_if, map_arm}
use Rattle.draid_machine.specs.Names.{has_name, name_eq}
use Rattle.draid_world.specs.World.{arm_in}
use Rattle.draid_passes.specs.Logs.{changed_at}
use Rattle.draid_passes.proofs.Changes.{changed_twice, has_more}
use Rattle.draid_arms.proofs.Renewed.{renewed_twice, renewed_none}
use Rattle.draid_arms.proofs.moves.renew_arms.Goals as goal

pub loop-name-init : goal.loop-name-init
loop-name-init c = λ n. sym (renewed_none c.args.last (arm_in c.args.arms.now.entries n))

pub loop-name-preserved : goal.loop-name-preserved
loop-name-preserved c = λ n.
    let names = c.args.names.now in
    let at = c.loop-name.name-index in
    let here = name_eq (get_or names at (Leaf 0)) n in
    let old = arm_in c.args.arms.now.entries n in
    let less : at < length names = c.loop-name-test.true in
    c.in_ok-renew_at.ensures n
    ∙ ap (changed_at here (renew_if true c.args.last)) (c.loop-name.invariant n)
    ∙ changed_twice (λ b. renew_if b c.args.last) (has_name (take at names) n) here old (λ a. renewed_twice (has_name (take at names) n) c.args.last a)
    ∙ ap (λ b. map_arm (renew_if b c.args.last) old) (sym (has_more names at (Leaf 0) n less))

pub returns : goal.returns
returns c = λ n.
    c.loop-name.invariant n
    ∙ ap (λ ns. map_arm (renew_if (has_name ns n) c.args.last) (arm_in c.args.arms.now.entries n)) (take_all c.loop-name.name-index c.args.names.now c.loop-name-test.false)
