use Rattle.std.proofs.Common.{◌<◌, ◌∙◌, sym, arith}
use Rattle.draid_machine.specs.Arms.{is_silent}
use Rattle.draid_world.specs.World.{core_of, site_layout}
use Rattle.draid_world.specs.Lying.{keeps_at}
use Rattle.draid_world.proofs.Anys.{any_more, lies_found}
use Rattle.draid_world.proofs.site.Site.lies_on_silent.Goals as goal

pub returns-then-keeps_silent : goal.returns-then-keeps_silent
returns-then-keeps_silent c =
    let less : c.loop-stripe.stripe < (site_layout c.args.self.now).stripes = (let g = c.loop-stripe-test.true in let k = c.stripes-stripe-end.ensures.value in omega (arith, g, k)) in
    lies_found (site_layout c.args.self.now) (core_of c.args.tables.now) (is_silent (core_of c.args.tables.now) c.args.failed.now) c.args.name c.in_default.field-0 c.loop-stripe.stripe c.in_default.is less
    (sym c.keeps_silent.ensures ∙ c.if-keeps_silent.true)

pub loop-stripe-preserved : goal.loop-stripe-preserved
loop-stripe-preserved c =
    any_more c.loop-stripe.stripe (keeps_at (site_layout c.args.self.now) (core_of c.args.tables.now) (is_silent (core_of c.args.tables.now) c.args.failed.now) c.args.name) c.loop-stripe.invariant
    (sym c.keeps_silent.ensures ∙ c.if-keeps_silent.false)
