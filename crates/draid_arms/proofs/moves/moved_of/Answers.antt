use Rattle.std.proofs.Common.{◌≡◌, ◌∙◌, ◌&&◌, ap, arith}
use Rattle.draid_machine.specs.Arms.{has_moved}
use Rattle.draid_world.specs.World.{core_of, site_layout}
use Rattle.draid_arms.specs.Moves.{core_before}
use Rattle.draid_arms.proofs.Moved.{is_spare_below, spares_all}
use Rattle.draid_arms.proofs.moves.moved_of.Goals as goal

pub returns : goal.returns
returns c = λ n.
    let l = site_layout c.args.site.now in
    let before = core_before c.args.tables.now c.args.before.now in
    let q = core_of c.args.tables.now in
    c.loop-spare.invariant n
    ∙ ap (λ u. is_spare_below u n && has_moved l before q n) (let upto = c.loop-spare.auto.spare-end in let past = c.loop-spare-test.false in let e : c.loop-spare.spare ≡ l.spares = omega (arith, upto, past) in e)
    ∙ spares_all l before q n
