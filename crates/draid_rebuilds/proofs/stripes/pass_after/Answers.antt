use Rattle.std.proofs.Common.{◌≡◌, ◌+◌, ◌-◌, ◌∙◌, not, filter, count_by, length, ap, arith, rules}
use Rattle.draid_machine.specs.declared.names.ArmName.{ArmName}
use Rattle.draid_machine.specs.After.{capped, misses_stripe}
use Rattle.draid_world.specs.World.{core_of, pass_of, site_layout}
use Rattle.draid_rebuilds.proofs.Landed.{count_kept}
use Rattle.draid_rebuilds.proofs.stripes.pass_after.Goals as goal

pub overflow_sub-lost : goal.overflow_sub-lost
overflow_sub-lost c =
    let bad : ArmName → _ = misses_stripe (site_layout c.args.site.now) (core_of c.args.world.now.tables) c.args.stripe c.args.failed.now in
    let all : c.len.result ≡ length c.args.pass.targets.items = search rules in
    let some : c.len-2.result ≡ length c.in_ok-targets.targets.items = search rules in
    let kept = c.in_ok-targets.ensures ∙ ap (filter (λ n. not (bad n))) c.deref.ensures.value in
    let lost = ap length kept in
    omega (arith, count_kept bad c.args.pass.targets.items, all, some, lost)

pub returns : goal.returns
returns c =
    let bad : ArmName → _ = misses_stripe (site_layout c.args.site.now) (core_of c.args.world.now.tables) c.args.stripe c.args.failed.now in
    let all : c.len.result ≡ length c.args.pass.targets.items = search rules in
    let some : c.len-2.result ≡ length c.in_ok-targets.targets.items = search rules in
    let kept = c.in_ok-targets.ensures ∙ ap (filter (λ n. not (bad n))) c.deref.ensures.value in
    let lost = ap length kept in
    let count : c.len.result - c.len-2.result ≡ count_by bad c.args.pass.targets.items = omega (arith, count_kept bad c.args.pass.targets.items, all, some, lost) in
    let errors = c.capped.ensures ∙ ap (λ k. capped (c.args.pass.errors + k)) count in
    λ i. record (pass_of c.args.pass) { targets = kept i; next = c.args.stripe + 1; errors = errors i }
