use Rattle.std.proofs.Common.{◌≡◌, ◌<◌, ◌≤◌, true, false, length, arith, sym}
use Rattle.std.proofs.lemmas.Bool.{true≢false}
use Rattle.draid_machine.specs.Step.{HealsThere}
use Rattle.draid_world.specs.World.{core_of, site_layout}
use Rattle.draid_world.proofs.Leaves.{holds_all, holds_more, holds_not}
use Rattle.draid_scrubs.proofs.wholes.heals_all.Goals as goal

pub returns-then-not-heals_there-clause-no : goal.returns-then-not-heals_there-clause-no
returns-then-not-heals_there-clause-no c =
    let less : c.loop-leaf.leaf-index < length c.args.leaves.now = c.loop-leaf-test.true in
    let fails : c.heals_there.result ≡ false = c.if-not-heals_there.true in
    λ e. holds_not (HealsThere (site_layout c.args.site.now) (core_of c.args.tables.now) c.args.held) c.args.leaves.now c.loop-leaf.leaf-index less (c.heals_there.ensures.no fails)

pub loop-leaf-preserved : goal.loop-leaf-preserved
loop-leaf-preserved c =
    let passes : c.heals_there.result ≡ true = c.if-not-heals_there.false in
    holds_more (HealsThere (site_layout c.args.site.now) (core_of c.args.tables.now) c.args.held) c.args.leaves.now c.loop-leaf.leaf-index (c.heals_there.ensures.yes passes) c.loop-leaf.invariant

pub returns-clause-yes : goal.returns-clause-yes
returns-clause-yes c =
    let past : length c.args.leaves.now ≤ c.loop-leaf.leaf-index = c.loop-leaf-test.false in
    λ e. holds_all (HealsThere (site_layout c.args.site.now) (core_of c.args.tables.now) c.args.held) c.args.leaves.now c.loop-leaf.leaf-index past c.loop-leaf.invariant

pub loop-leaf-init : goal.loop-leaf-init
loop-leaf-init c = λ i less. absurd (omega (arith, less))

pub returns-then-not-heals_there-clause-yes : goal.returns-then-not-heals_there-clause-yes
returns-then-not-heals_there-clause-yes c = λ e. absurd (true≢false (sym e))

pub returns-clause-no : goal.returns-clause-no
returns-clause-no c = λ e. absurd (true≢false e)
