use Rattle.std.proofs.Common.{◌≡◌, ◌<◌, ◌≤◌, true, false, length, arith, sym}
use Rattle.std.proofs.lemmas.Bool.{true≢false}
use Rattle.draid_rebuilds.specs.Landings.{MayMend}
use Rattle.draid_world.specs.World.{core_of, loan_of, pass_of, site_layout}
use Rattle.draid_world.proofs.Leaves.{holds_all, holds_more, holds_not}
use Rattle.draid_rebuilds.proofs.landings.may_mend_all.Goals as goal

pub returns-then-not-may_mend-clause-no : goal.returns-then-not-may_mend-clause-no
returns-then-not-may_mend-clause-no c =
    let less : c.loop-leaf.leaf-index < length c.args.leaves.now = c.loop-leaf-test.true in
    let fails : c.may_mend.result ≡ false = c.if-not-may_mend.true in
    λ e. holds_not (MayMend (site_layout c.args.site.now) (core_of c.args.tables.now) (pass_of c.args.pass.now) (loan_of c.args.loan.now)) c.args.leaves.now c.loop-leaf.leaf-index less (c.may_mend.ensures.no fails)

pub loop-leaf-preserved : goal.loop-leaf-preserved
loop-leaf-preserved c =
    let passes : c.may_mend.result ≡ true = c.if-not-may_mend.false in
    holds_more (MayMend (site_layout c.args.site.now) (core_of c.args.tables.now) (pass_of c.args.pass.now) (loan_of c.args.loan.now)) c.args.leaves.now c.loop-leaf.leaf-index (c.may_mend.ensures.yes passes) c.loop-leaf.invariant

pub returns-clause-yes : goal.returns-clause-yes
returns-clause-yes c =
    let past : length c.args.leaves.now ≤ c.loop-leaf.leaf-index = c.loop-leaf-test.false in
    λ e. holds_all (MayMend (site_layout c.args.site.now) (core_of c.args.tables.now) (pass_of c.args.pass.now) (loan_of c.args.loan.now)) c.args.leaves.now c.loop-leaf.leaf-index past c.loop-leaf.invariant

pub loop-leaf-init : goal.loop-leaf-init
loop-leaf-init c = λ i less. absurd (omega (arith, less))

pub returns-then-not-may_mend-clause-yes : goal.returns-then-not-may_mend-clause-yes
returns-then-not-may_mend-clause-yes c = λ e. absurd (true≢false (sym e))

pub returns-clause-no : goal.returns-clause-no
returns-clause-no c = λ e. absurd (true≢false e)
