use Rattle.std.proofs.Common.{◌==◌, ◌∙◌, Bool, ap, count_by, refl, sym}
use Rattle.std.proofs.lemmas.List.{take_all}
use Rattle.std.proofs.lemmas.List.Sums.{count_by_more_no}
use Rattle.draid_machine.specs.Arms.{is_silent, lies_on}
use Rattle.draid_machine.specs.declared.names.ArmName.{ArmName}
use Rattle.draid_machine.specs.declared.names.ArmName.TheVariants.{Leaf}
use Rattle.draid_world.specs.World.{core_of, site_layout}
use Rattle.draid_passes.proofs.Lists.{some_counted}
use Rattle.draid_passes.proofs.ends.none_lies_on_silent.Goals as goal

pub loop-name-init : goal.loop-name-init
loop-name-init c = refl

pub returns-then-lies_on_silent : goal.returns-then-lies_on_silent
returns-then-lies_on_silent c =
    let test : ArmName → Bool = lies_on (site_layout c.args.site.now) (core_of c.args.tables.now) (is_silent (core_of c.args.tables.now) c.args.failed.now) in
    sym (some_counted test c.args.names.now c.loop-name.name-index (Leaf 0) c.loop-name-test.true (sym c.lies_on_silent.ensures ∙ c.if-lies_on_silent.true))

pub loop-name-preserved : goal.loop-name-preserved
loop-name-preserved c =
    let test : ArmName → Bool = lies_on (site_layout c.args.site.now) (core_of c.args.tables.now) (is_silent (core_of c.args.tables.now) c.args.failed.now) in
    count_by_more_no test c.args.names.now c.loop-name.name-index (Leaf 0) c.loop-name-test.true (sym c.lies_on_silent.ensures ∙ c.if-lies_on_silent.false) ∙ c.loop-name.invariant

pub returns : goal.returns
returns c =
    let test : ArmName → Bool = lies_on (site_layout c.args.site.now) (core_of c.args.tables.now) (is_silent (core_of c.args.tables.now) c.args.failed.now) in
    sym (ap (λ n. n == 0) (ap (count_by test) (sym (take_all c.loop-name.name-index c.args.names.now c.loop-name-test.false)) ∙ c.loop-name.invariant))
