use Rattle.std.proofs.Common.{◌≡◌, ◌<◌, ◌≤◌, true, false, length, arith, sym}
use Rattle.std.proofs.lemmas.Bool.{true≢false}
use Rattle.draid_machine.specs.Step.{ReadsThere}
use Rattle.draid_world.specs.World.{core_of, pass_of, site_layout}
use Rattle.draid_world.proofs.Leaves.{holds_all, holds_more, holds_not}
use Rattle.draid_loans.proofs.failing.reads_all.Goals as goal

pub returns-then-not-reads_there-clause-no : goal.returns-then-not-reads_there-clause-no
returns-then-not-reads_there-clause-no c =
    let less : c.loop-leaf.leaf-index < length c.args.leaves.now = c.loop-leaf-test.true in
    let fails : c.reads_there.result ≡ false = c.if-not-reads_there.true in
    λ e. holds_not (ReadsThere (site_layout c.args.site.now) (core_of c.args.tables.now) (pass_of c.args.pass.now) c.args.held c.args.stripe) c.args.leaves.now c.loop-leaf.leaf-index less (c.reads_there.ensures.no fails)

pub loop-leaf-preserved : goal.loop-leaf-preserved
loop-leaf-preserved c =
    let passes : c.reads_there.result ≡ true = c.if-not-reads_there.false in
    holds_more (ReadsThere (site_layout c.args.site.now) (core_of c.args.tables.now) (pass_of c.args.pass.now) c.args.held c.args.stripe) c.args.leaves.now c.loop-leaf.leaf-index (c.reads_there.ensures.yes passes) c.loop-leaf.invariant

pub returns-clause-yes : goal.returns-clause-yes
returns-clause-yes c =
    let past : length c.args.leaves.now ≤ c.loop-leaf.leaf-index = c.loop-leaf-test.false in
    λ e. holds_all (ReadsThere (site_layout c.args.site.now) (core_of c.args.tables.now) (pass_of c.args.pass.now) c.args.held c.args.stripe) c.args.leaves.now c.loop-leaf.leaf-index past c.loop-leaf.invariant

pub loop-leaf-init : goal.loop-leaf-init
loop-leaf-init c = λ i less. absurd (omega (arith, less))

pub returns-then-not-reads_there-clause-yes : goal.returns-then-not-reads_there-clause-yes
returns-then-not-reads_there-clause-yes c = λ e. absurd (true≢false (sym e))

pub returns-clause-no : goal.returns-clause-no
returns-clause-no c = λ e. absurd (true≢false e)
