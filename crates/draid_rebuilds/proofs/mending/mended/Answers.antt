use Rattle.std.proofs.Common.{◌==◌, ◌+◌, ◌∙◌, ◌&&◌, ap}
use Rattle.draid_machine.specs.Arms.{answers}
use Rattle.draid_machine.specs.Claims.{is_on}
use Rattle.draid_machine.specs.Names.{has_name, has_segment, key_eq}
use Rattle.draid_world.specs.World.{core_of, site_layout}
use Rattle.draid_rebuilds.specs.Mending.{is_in_stripe}
use Rattle.draid_world.proofs.Maps.{ok_map}
use Rattle.draid_rebuilds.proofs.Doubts.{mended_bits}
use Rattle.draid_rebuilds.proofs.mending.mended.Goals as goal

pub returns : goal.returns
returns c =
    let l = site_layout c.args.site.now in
    let q = core_of c.args.tables.now in
    let held = c.args.held in
    let loan = c.args.loan.now in
    let targets = c.args.pass.now.targets.items in
    ok_map c.in_stripe.result _ _
    (λ out is s.
    is s
    ∙ ap (λ ys. has_segment ys s && is_in_stripe l q c.deref.result.now held.first loan.stripe s) c.deref-2.ensures.value
    ∙ ap (λ ns. has_segment c.in_ok-all.all.items s && is_in_stripe l q ns held.first loan.stripe s) c.deref.ensures.value
    ∙ ap (λ b. b && is_in_stripe l q targets held.first loan.stripe s) (c.in_ok-all.ensures s)
    ∙ mended_bits (key_eq loan.key s.key) (is_on l q.order s held) (held.first + s.row == loan.stripe) (has_name targets s.arm) (answers l q s.arm loan.stripe)) c.in_stripe.ensures
