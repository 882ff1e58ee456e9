use Rattle.draid_machine.specs.After.{has_landed}
use Rattle.std.proofs.lemmas.List.{at_drop_all, at_drop_more}
use Rattle.std.proofs.Common.{◌+◌, ◌||◌, ◌∷◌, ◌∙◌, ap, drop, refl, sym}
use Rattle.draid_scrubs.proofs.patches.has_landed.Goals as goal

pub loop-part-init : goal.loop-part-init
loop-part-init c = refl

pub returns-then-lands : goal.returns-then-lands
returns-then-lands c =
    sym (c.loop-part.invariant ∙ at_drop_more (λ ps. has_landed ps c.args.column c.args.arm c.args.row) c.args.patched.now c.loop-part.part-index c.part-item.result c.loop-part-test.true
    ∙ ap (λ p. has_landed (p ∷ drop (c.loop-part.part-index + 1) c.args.patched.now) c.args.column c.args.arm c.args.row) (sym c.part-item.is)
    ∙ ap (λ b. b || has_landed (drop (c.loop-part.part-index + 1) c.args.patched.now) c.args.column c.args.arm c.args.row) (sym c.lands.ensures ∙ c.if-lands.true))

pub loop-part-preserved : goal.loop-part-preserved
loop-part-preserved c =
    c.loop-part.invariant ∙ at_drop_more (λ ps. has_landed ps c.args.column c.args.arm c.args.row) c.args.patched.now c.loop-part.part-index c.part-item.result c.loop-part-test.true
    ∙ ap (λ p. has_landed (p ∷ drop (c.loop-part.part-index + 1) c.args.patched.now) c.args.column c.args.arm c.args.row) (sym c.part-item.is)
    ∙ ap (λ b. b || has_landed (drop (c.loop-part.part-index + 1) c.args.patched.now) c.args.column c.args.arm c.args.row) (sym c.lands.ensures ∙ c.if-lands.false)

pub returns : goal.returns
returns c = sym (c.loop-part.invariant ∙ at_drop_all (λ ps. has_landed ps c.args.column c.args.arm c.args.row) c.args.patched.now c.loop-part.part-index c.loop-part-test.false)
