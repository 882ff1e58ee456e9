use Rattle.std.proofs.Common.{◌∷◌, ◌++◌, ◌∙◌, [], Bool, not, get_or, take, ap, sym}
use Rattle.std.specs.List.{filter}
use Rattle.std.specs.Prelude.{cond}
use Rattle.std.proofs.lemmas.List.{append-nil, take_all}
use Rattle.std.proofs.lemmas.List.Elements.{filter_more}
use Rattle.draid_machine.specs.Arms.{is_silent, lies_on}
use Rattle.draid_machine.specs.declared.names.ArmName.{ArmName}
use Rattle.draid_machine.specs.declared.names.ArmName.TheVariants.{Leaf}
use Rattle.draid_world.specs.World.{core_of, site_layout}
use Rattle.draid_images.proofs.seals.kept_targets.Goals.{then-not-lies_on_silent+in_ok-push, else-not-lies_on_silent}
use Rattle.draid_images.proofs.seals.kept_targets.Goals as goal

pub loop-target-init : goal.loop-target-init
loop-target-init c = c.new-kept.ensures.items

pub loop-target-preserved : goal.loop-target-preserved
loop-target-preserved c =
    let targets = c.args.targets.now in
    let at = c.loop-target.target-index in
    let test : ArmName → Bool = λ n. not (lies_on (site_layout c.args.site.now) (core_of c.args.tables.now) (is_silent (core_of c.args.tables.now) c.args.failed.now) n) in
    let x : ArmName = get_or targets at (Leaf 0) in
    let more = filter_more test targets at (Leaf 0) c.loop-target-test.true in
    elim c.if-not-lies_on_silent.branch [
      | then-not-lies_on_silent+in_ok-push w ↦
          ap (λ v. v.items) w.kept-is ∙ w.in_ok-push.ensures.items ∙ ap (λ xs. xs ++ x ∷ []) c.loop-target.invariant
          ∙ sym (more ∙ ap (λ b. filter test (take at targets) ++ cond (not b) (x ∷ []) []) (sym w.if-not-lies_on_silent.ensures))
      | else-not-lies_on_silent w ↦
          ap (λ v. v.items) w.kept-is ∙ c.loop-target.invariant
          ∙ sym (more ∙ ap (λ b. filter test (take at targets) ++ cond (not b) (x ∷ []) []) (sym w.if-not-lies_on_silent.ensures) ∙ append-nil (filter test (take at targets)))
    ]

pub returns : goal.returns
returns c =
    let test : ArmName → Bool = λ n. not (lies_on (site_layout c.args.site.now) (core_of c.args.tables.now) (is_silent (core_of c.args.tables.now) c.args.failed.now) n) in
    c.loop-target.invariant ∙ ap (filter test) (take_all c.loop-target.target-index c.args.targets.now c.loop-target-test.false)
