use Rattle.std.proofs.Common.{◌∙◌, find, refl, sym}
use Rattle.std.proofs.lemmas.List.{at_drop_all}
use Rattle.draid_machine.specs.Arms as arms
use Rattle.draid_machine.specs.declared.names.ArmName.{ArmName}
use Rattle.draid_machine.specs.declared.names.ArmName.TheVariants.{Leaf}
use Rattle.draid_world.specs.World.{core_of, site_layout}
use Rattle.draid_world.proofs.Walks.{first_here, first_on}
use Rattle.draid_world.proofs.site.Site.first_answering.Goals as goal

pub loop-name-init : goal.loop-name-init
loop-name-init c = refl

pub returns-then-answers : goal.returns-then-answers
returns-then-answers c =
    let test : ArmName → _ = λ n. arms.answers (site_layout c.args.self.now) (core_of c.args.tables.now) n c.args.stripe in
    sym (c.loop-name.invariant ∙ first_here test c.args.names.now c.loop-name.name-index (Leaf 0) c.loop-name-test.true (sym c.answers.ensures ∙ c.if-answers.true))

pub loop-name-preserved : goal.loop-name-preserved
loop-name-preserved c =
    let test : ArmName → _ = λ n. arms.answers (site_layout c.args.self.now) (core_of c.args.tables.now) n c.args.stripe in
    c.loop-name.invariant ∙ first_on test c.args.names.now c.loop-name.name-index (Leaf 0) c.loop-name-test.true (sym c.answers.ensures ∙ c.if-answers.false)

pub returns : goal.returns
returns c =
    let test : ArmName → _ = λ n. arms.answers (site_layout c.args.self.now) (core_of c.args.tables.now) n c.args.stripe in
    sym (c.loop-name.invariant ∙ at_drop_all (find test) c.args.names.now c.loop-name.name-index c.loop-name-test.false)
