use Rattle.std.proofs.Common.{◌∷◌, ◌++◌, ◌&&◌, ◌∙◌, [], Bool, not, get_or, take, ap, sym}
use Rattle.std.specs.List.{filter}
use Rattle.std.specs.Prelude.{cond}
use Rattle.std.proofs.lemmas.List.{append-nil, take_all}
use Rattle.std.proofs.lemmas.List.Elements.{filter_more}
use Rattle.draid_machine.specs.Arms as arms
use Rattle.draid_machine.specs.declared.names.ArmName.{ArmName}
use Rattle.draid_machine.specs.declared.names.ArmName.TheVariants.{Leaf}
use Rattle.draid_world.specs.World.{core_of, site_layout}
use Rattle.draid_loans.proofs.readings.answering.Goals as goal
use Rattle.draid_loans.proofs.readings.answering.Goals.{then-is_answering+in_ok-push, else-is_answering}

pub loop-name-preserved : goal.loop-name-preserved
loop-name-preserved c =
    let names = c.args.names.now in
    let at = c.loop-name.name-index in
    let l = site_layout c.args.site.now in
    let q = core_of c.args.tables.now in
    let test : ArmName → Bool = λ n. arms.answers l q n c.args.stripe && not (arms.fails l q c.args.failed.now n c.args.stripe) in
    let x : ArmName = get_or names at (Leaf 0) in
    let more = filter_more test names at (Leaf 0) c.loop-name-test.true in
    elim c.if-is_answering.branch [
      | then-is_answering+in_ok-push w ↦
          ap (λ v. v.items) w.found-is ∙ w.in_ok-push.ensures.items ∙ ap (λ xs. xs ++ x ∷ []) c.loop-name.invariant
          ∙ sym (more ∙ ap (λ b. filter test (take at names) ++ cond b (x ∷ []) []) (sym w.if-is_answering.ensures))
      | else-is_answering w ↦
          ap (λ v. v.items) w.found-is ∙ c.loop-name.invariant
          ∙ sym (more ∙ ap (λ b. filter test (take at names) ++ cond b (x ∷ []) []) (sym w.if-is_answering.ensures) ∙ append-nil (filter test (take at names)))
    ]

pub loop-name-init : goal.loop-name-init
loop-name-init c = c.new-found.ensures.items

pub returns : goal.returns
returns c =
    let test : ArmName → Bool = λ n. arms.answers (site_layout c.args.site.now) (core_of c.args.tables.now) n c.args.stripe && not (arms.fails (site_layout c.args.site.now) (core_of c.args.tables.now) c.args.failed.now n c.args.stripe) in
    c.loop-name.invariant ∙ ap (filter test) (take_all c.loop-name.name-index c.args.names.now c.loop-name-test.false)
