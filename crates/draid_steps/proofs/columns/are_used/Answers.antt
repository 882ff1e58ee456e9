use Rattle.std.proofs.Common.{◌&&◌, ◌∙◌, ℕ, Bool, get_or, ap, refl, sym}
use Rattle.std.specs.List.{list_all, list_any}
use Rattle.std.proofs.lemmas.List.{drop_all}
use Rattle.draid_machine.specs.Arms as arms
use Rattle.draid_world.specs.World.{core_of, site_layout}
use Rattle.draid_steps.proofs.Lists.{next_all, stop_all}
use Rattle.draid_steps.proofs.columns.are_used.Goals as goal

pub returns-then-not-is_used : goal.returns-then-not-is_used
returns-then-not-is_used c =
    let used : ℕ → Bool = λ leaf. list_any (λ n. arms.lies (site_layout c.args.site.now) (core_of c.args.tables.now).order n c.args.stripe leaf) c.args.names.now in
    let answers : ℕ → Bool = arms.leaf_answers (core_of c.args.tables.now) in
    sym (c.loop-leaf.invariant ∙ stop_all (λ leaf. used leaf && answers leaf) c.args.leaves.now c.loop-leaf.leaf-index 0 c.loop-leaf-test.true
    (ap (λ b. b && answers (get_or c.args.leaves.now c.loop-leaf.leaf-index 0)) (sym c.if-not-is_used.ensures)))

pub returns-then-not-leaf_answers : goal.returns-then-not-leaf_answers
returns-then-not-leaf_answers c =
    let used : ℕ → Bool = λ leaf. list_any (λ n. arms.lies (site_layout c.args.site.now) (core_of c.args.tables.now).order n c.args.stripe leaf) c.args.names.now in
    let answers : ℕ → Bool = arms.leaf_answers (core_of c.args.tables.now) in
    sym (c.loop-leaf.invariant ∙ stop_all (λ leaf. used leaf && answers leaf) c.args.leaves.now c.loop-leaf.leaf-index 0 c.loop-leaf-test.true
    (ap (λ b. b && answers (get_or c.args.leaves.now c.loop-leaf.leaf-index 0)) (sym c.if-not-is_used.ensures) ∙ sym c.if-not-leaf_answers.ensures))

pub loop-leaf-preserved : goal.loop-leaf-preserved
loop-leaf-preserved c =
    let used : ℕ → Bool = λ leaf. list_any (λ n. arms.lies (site_layout c.args.site.now) (core_of c.args.tables.now).order n c.args.stripe leaf) c.args.names.now in
    let answers : ℕ → Bool = arms.leaf_answers (core_of c.args.tables.now) in
    c.loop-leaf.invariant ∙ next_all (λ leaf. used leaf && answers leaf) c.args.leaves.now c.loop-leaf.leaf-index 0 c.loop-leaf-test.true
    (ap (λ b. b && answers (get_or c.args.leaves.now c.loop-leaf.leaf-index 0)) (sym c.if-not-is_used.ensures) ∙ sym c.if-not-leaf_answers.ensures)

pub returns : goal.returns
returns c =
    let used : ℕ → Bool = λ leaf. list_any (λ n. arms.lies (site_layout c.args.site.now) (core_of c.args.tables.now).order n c.args.stripe leaf) c.args.names.now in
    let answers : ℕ → Bool = arms.leaf_answers (core_of c.args.tables.now) in
    sym (c.loop-leaf.invariant ∙ ap (list_all (λ leaf. used leaf && answers leaf)) (drop_all c.loop-leaf.leaf-index c.args.leaves.now c.loop-leaf-test.false))

pub loop-leaf-init : goal.loop-leaf-init
loop-leaf-init c = refl
