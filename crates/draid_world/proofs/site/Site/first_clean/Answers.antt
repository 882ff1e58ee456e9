use Rattle.std.proofs.Common.{◌&&◌, ◌∙◌, ap, ap₂, find, get_or, not, refl, sym}
use Rattle.std.proofs.lemmas.List.{at_drop_all}
use Rattle.draid_machine.specs.Arms as arms
use Rattle.draid_machine.specs.declared.names.ArmName.{ArmName}
use Rattle.draid_machine.specs.declared.names.ArmName.TheVariants.{Leaf}
use Rattle.draid_world.specs.World.{core_of, site_layout}
use Rattle.draid_world.proofs.Walks.{first_here, first_on}
use Rattle.draid_world.proofs.site.Site.first_clean.Goals.{else-answers-via-then-answers+else-not-is_logged, else-answers-via-else-answers}
use Rattle.draid_world.proofs.site.Site.first_clean.Goals as goal

pub loop-name-init : goal.loop-name-init
loop-name-init c = refl

pub returns-then-not-is_logged : goal.returns-then-not-is_logged
returns-then-not-is_logged c =
    let test : ArmName → _ = λ n. arms.answers (site_layout c.args.self.now) (core_of c.args.tables.now) n c.args.stripe && arms.is_clean (core_of c.args.tables.now) c.args.birth n in
    sym (c.loop-name.invariant ∙ first_here test c.args.names.now c.loop-name.name-index (Leaf 0) c.loop-name-test.true
    (ap₂ (λ a b. a && not b) (sym c.answers.ensures ∙ c.if-answers.true) (sym c.is_logged.ensures ∙ c.if-not-is_logged.true)))

pub loop-name-preserved : goal.loop-name-preserved
loop-name-preserved c =
    let test : ArmName → _ = λ n. arms.answers (site_layout c.args.self.now) (core_of c.args.tables.now) n c.args.stripe && arms.is_clean (core_of c.args.tables.now) c.args.birth n in
    let on = first_on test c.args.names.now c.loop-name.name-index (Leaf 0) c.loop-name-test.true in
    elim c.else-answers.branch [
      | else-answers-via-then-answers+else-not-is_logged w ↦
          c.loop-name.invariant ∙ on (ap₂ (λ a b. a && not b) (sym c.answers.ensures ∙ w.if-answers.true) (sym w.is_logged.ensures ∙ w.if-not-is_logged.false))
      | else-answers-via-else-answers w ↦ c.loop-name.invariant ∙ on (ap (λ a. a && arms.is_clean (core_of c.args.tables.now) c.args.birth (get_or c.args.names.now c.loop-name.name-index (Leaf 0))) (sym c.answers.ensures ∙ w.if-answers.false))
    ]

pub returns : goal.returns
returns c =
    let test : ArmName → _ = λ n. arms.answers (site_layout c.args.self.now) (core_of c.args.tables.now) n c.args.stripe && arms.is_clean (core_of c.args.tables.now) c.args.birth n in
    sym (c.loop-name.invariant ∙ at_drop_all (find test) c.args.names.now c.loop-name.name-index c.loop-name-test.false)
