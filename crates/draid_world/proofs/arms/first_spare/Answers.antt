use Rattle.std.proofs.Common.{◌+◌, ◌∙◌, ◌∷◌, ap, drop, refl, sym}
use Rattle.std.proofs.lemmas.List.{at_drop_all, at_drop_more}
use Rattle.draid_machine.specs.Arms.{first_spare}
use Rattle.draid_machine.specs.declared.names.ArmName.TheVariants.{Leaf}
use Rattle.draid_world.proofs.arms.first_spare.Goals as goal

pub loop-name-init : goal.loop-name-init
loop-name-init c = refl

pub returns-in-Spare : goal.returns-in-Spare
returns-in-Spare c =
    let ns = c.args.names.now in
    let at = c.loop-name.name-index in
    sym (c.loop-name.invariant ∙ at_drop_more first_spare ns at (Leaf 0) c.loop-name-test.true ∙ ap (λ n. first_spare (n ∷ drop (at + 1) ns)) c.in-Spare.is)

pub loop-name-preserved : goal.loop-name-preserved
loop-name-preserved c =
    let ns = c.args.names.now in
    let at = c.loop-name.name-index in
    c.loop-name.invariant ∙ at_drop_more first_spare ns at (Leaf 0) c.loop-name-test.true ∙ ap (λ n. first_spare (n ∷ drop (at + 1) ns)) c.in_default.is

pub returns : goal.returns
returns c = sym (c.loop-name.invariant ∙ at_drop_all first_spare c.args.names.now c.loop-name.name-index c.loop-name-test.false)
