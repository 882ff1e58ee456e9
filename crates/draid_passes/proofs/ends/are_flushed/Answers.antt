use Rattle.std.proofs.Common.{◌≡◌, ◌<◌, ◌≤◌, false, length, arith, sym}
use Rattle.std.proofs.lemmas.Bool.{true≢false}
use Rattle.draid_machine.specs.Step.{FlushesThere}
use Rattle.draid_world.specs.World.{core_of, pass_of, site_layout}
use Rattle.draid_world.proofs.Leaves.{holds_all, holds_not}
use Rattle.draid_passes.proofs.ends.are_flushed.Goals as goal

pub returns-then-not-is_flushed-clause-no : goal.returns-then-not-is_flushed-clause-no
returns-then-not-is_flushed-clause-no c =
    let less : c.loop-leaf.leaf-index < length c.args.leaves.now = c.loop-leaf-test.true in
    let fails : c.is_flushed.result ≡ false = c.if-not-is_flushed.true in
    λ e. holds_not (FlushesThere (site_layout c.args.site.now) (core_of c.args.tables.now) (pass_of c.args.pass.now)) c.args.leaves.now c.loop-leaf.leaf-index less (c.is_flushed.ensures.no fails)

pub returns-clause-yes : goal.returns-clause-yes
returns-clause-yes c =
    let past : length c.args.leaves.now ≤ c.loop-leaf.leaf-index = c.loop-leaf-test.false in
    λ e. holds_all (FlushesThere (site_layout c.args.site.now) (core_of c.args.tables.now) (pass_of c.args.pass.now)) c.args.leaves.now c.loop-leaf.leaf-index past c.loop-leaf.invariant

pub loop-leaf-init : goal.loop-leaf-init
loop-leaf-init c = λ i less. absurd (omega (arith, less))

pub returns-then-not-is_flushed-clause-yes : goal.returns-then-not-is_flushed-clause-yes
returns-then-not-is_flushed-clause-yes c = λ e. absurd (true≢false (sym e))

pub returns-clause-no : goal.returns-clause-no
returns-clause-no c = λ e. absurd (true≢false e)
