use Rattle.std.proofs.Common.{◌≡◌, ◌<◌, ◌≤◌, true, false, length}
use Rattle.draid_steps.specs.Reads.{IsRead}
use Rattle.draid_world.specs.World.{core_of, site_layout}
use Rattle.draid_world.proofs.Leaves.{holds_all, holds_more, holds_not}
use Rattle.draid_steps.proofs.fetch.are_read.Goals as goal

pub returns-then-not-is_read-clause-no : goal.returns-then-not-is_read-clause-no
returns-then-not-is_read-clause-no c =
    let less : c.loop-leaf.leaf-index < length c.args.leaves.now = c.loop-leaf-test.true in
    let fails : c.is_read.result ≡ false = c.if-not-is_read.true in
    λ e. holds_not (IsRead (site_layout c.args.site.now) (core_of c.args.tables.now) c.args.held) c.args.leaves.now c.loop-leaf.leaf-index less (c.is_read.ensures.no fails)

pub loop-leaf-preserved : goal.loop-leaf-preserved
loop-leaf-preserved c =
    let passes : c.is_read.result ≡ true = c.if-not-is_read.false in
    holds_more (IsRead (site_layout c.args.site.now) (core_of c.args.tables.now) c.args.held) c.args.leaves.now c.loop-leaf.leaf-index (c.is_read.ensures.yes passes) c.loop-leaf.invariant

pub returns-clause-yes : goal.returns-clause-yes
returns-clause-yes c =
    let past : length c.args.leaves.now ≤ c.loop-leaf.leaf-index = c.loop-leaf-test.false in
    λ e. holds_all (IsRead (site_layout c.args.site.now) (core_of c.args.tables.now) c.args.held) c.args.leaves.now c.loop-leaf.leaf-index past c.loop-leaf.invariant
