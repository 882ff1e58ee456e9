use Rattle.std.proofs.Common.{◌+◌, ◌<◌, ◌≤◌, ◌∙◌, sym, subst, arith}
use Rattle.draid_machine.specs.State.{IsLayout}
use Rattle.draid_machine.specs.declared.names.ArmName.TheVariants.{Spare}
use Rattle.draid_machine.proofs.Small.{any_at}
use Rattle.draid_layouts.proofs.Layouts.{layout_is}
use Rattle.draid_world.specs.World.{core_of, names_at, site_layout}
use Rattle.draid_arms.specs.Moves.{moved_at}
use Rattle.draid_arms.proofs.Moved.{IsPassed, passed_start, passed_more, moved_steady, none_any}
use Rattle.draid_arms.proofs.moves.has_moved.Goals as goal

pub loop-stripe-init : goal.loop-stripe-init
loop-stripe-init c = passed_start c.args.site.now.geometry.props.height (moved_at (site_layout c.args.site.now) (names_at c.args.before.now) (core_of c.args.tables.now) (Spare c.args.spare))

pub returns-then-moves_at : goal.returns-then-moves_at
returns-then-moves_at c =
    let l = site_layout c.args.site.now in
    let less : c.loop-stripe.stripe < l.stripes = (let g = c.loop-stripe-test.true in let k = c.stripes-end.ensures.value in omega (arith, g, k)) in
    sym (any_at l.stripes (moved_at l (names_at c.args.before.now) (core_of c.args.tables.now) (Spare c.args.spare)) c.loop-stripe.stripe less (sym c.moves_at.ensures ∙ c.if-moves_at.true))

pub loop-stripe-preserved : goal.loop-stripe-preserved
loop-stripe-preserved c =
    let l = site_layout c.args.site.now in
    let before = names_at c.args.before.now in
    let q = core_of c.args.tables.now in
    let lay : IsLayout l = layout_is c.args.site.now.geometry c.args.site.now.perms c.args.site.now.metaslab c.args.site.now.laid in
    subst (λ h. IsPassed l.height (c.loop-stripe.stripe + h) (moved_at l before q (Spare c.args.spare))) (sym c.from-height.ensures)
    (passed_more l.height c.loop-stripe.stripe (moved_at l before q (Spare c.args.spare)) lay.tall (moved_steady l lay before q c.args.spare) (sym c.moves_at.ensures ∙ c.if-moves_at.false) c.loop-stripe.invariant)

pub returns : goal.returns
returns c =
    let l = site_layout c.args.site.now in
    let p = moved_at l (names_at c.args.before.now) (core_of c.args.tables.now) (Spare c.args.spare) in
    let past : l.stripes ≤ c.loop-stripe.stripe = (let g = c.loop-stripe-test.false in let k = c.stripes-end.ensures.value in omega (arith, g, k)) in
    sym (none_any l.stripes p (λ x less. c.loop-stripe.invariant.none x (omega (arith, less, past))))
