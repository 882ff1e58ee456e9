use Rattle.std.proofs.Common.{◌+◌, ◌∙◌, Bool, ap, count_by, refl, sym}
use Rattle.std.proofs.lemmas.List.{take_all}
use Rattle.std.proofs.lemmas.List.Sums.{count_by_more_no, count_by_more_yes}
use Rattle.draid_machine.specs.Arms.{is_silent, lies_on}
use Rattle.draid_machine.specs.declared.names.ArmName.{ArmName}
use Rattle.draid_machine.specs.declared.names.ArmName.TheVariants.{Leaf}
use Rattle.draid_world.specs.World.{core_of, site_layout}
use Rattle.draid_images.proofs.seals.count_silent.Goals.{then-lies_on_silent, else-lies_on_silent}
use Rattle.draid_images.proofs.seals.count_silent.Goals as goal

pub loop-name-init : goal.loop-name-init
loop-name-init c = refl

pub loop-name-preserved : goal.loop-name-preserved
loop-name-preserved c =
    let test : ArmName → Bool = lies_on (site_layout c.args.site.now) (core_of c.args.tables.now) (is_silent (core_of c.args.tables.now) c.args.failed.now) in
    let names = c.args.names.now in
    let at = c.loop-name.name-index in
    elim c.if-lies_on_silent.branch [
      | then-lies_on_silent w ↦ w.count-is ∙ ap (λ n. n + 1) c.loop-name.invariant ∙ sym (count_by_more_yes test names at (Leaf 0) c.loop-name-test.true (sym c.lies_on_silent.ensures ∙ w.if-lies_on_silent.true))
      | else-lies_on_silent w ↦ w.count-is ∙ c.loop-name.invariant ∙ sym (count_by_more_no test names at (Leaf 0) c.loop-name-test.true (sym c.lies_on_silent.ensures ∙ w.if-lies_on_silent.false))
    ]

pub returns : goal.returns
returns c =
    let test : ArmName → Bool = lies_on (site_layout c.args.site.now) (core_of c.args.tables.now) (is_silent (core_of c.args.tables.now) c.args.failed.now) in
    c.loop-name.invariant ∙ ap (count_by test) (take_all c.loop-name.name-index c.args.names.now c.loop-name-test.false)
