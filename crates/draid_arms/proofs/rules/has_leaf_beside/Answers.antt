use Rattle.std.proofs.Common.{◌∙◌, ap, refl, sym}
use Rattle.std.specs.List.{list_any}
use Rattle.std.proofs.lemmas.List.{drop_all}
use Rattle.draid_arms.specs.Rules.{is_other_leaf}
use Rattle.draid_machine.specs.declared.names.ArmName.TheVariants.{Leaf}
use Rattle.draid_steps.proofs.Lists.{found_any, next_any}
use Rattle.draid_arms.proofs.rules.has_leaf_beside.Goals as goal

pub loop-other-init : goal.loop-other-init
loop-other-init c = refl

pub returns-then-is_leaf_beside : goal.returns-then-is_leaf_beside
returns-then-is_leaf_beside c =
    sym (c.loop-other.invariant ∙ found_any (is_other_leaf c.args.name) c.args.names.now c.loop-other.other-index (Leaf 0) c.loop-other-test.true (sym c.if-is_leaf_beside.ensures))

pub loop-other-preserved : goal.loop-other-preserved
loop-other-preserved c =
    c.loop-other.invariant ∙ next_any (is_other_leaf c.args.name) c.args.names.now c.loop-other.other-index (Leaf 0) c.loop-other-test.true (sym c.if-is_leaf_beside.ensures)

pub returns : goal.returns
returns c = sym (c.loop-other.invariant ∙ ap (list_any (is_other_leaf c.args.name)) (drop_all c.loop-other.other-index c.args.names.now c.loop-other-test.false))
