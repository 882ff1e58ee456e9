use Rattle.std.proofs.lemmas.Bool.{true≢false}
use Rattle.std.proofs.Common.{◌≡◌, ◌<◌, ◌≤◌, true, false, get_or, length, sym}
use Rattle.draid_machine.specs.declared.names.ArmName.TheVariants.{Leaf}
use Rattle.draid_passes.proofs.Lists.{name_here}
use Rattle.draid_world.specs.World.{core_of, site_layout}
use Rattle.draid_scrubs.specs.Wholes.{IsArmWhole}
use Rattle.draid_scrubs.proofs.Columns.{on_all, on_more, on_none}
use Rattle.draid_scrubs.proofs.wholes.names_are_whole.Goals as goal

pub loop-name-init : goal.loop-name-init
loop-name-init c = on_none (IsArmWhole (site_layout c.args.site.now) (core_of c.args.tables.now) c.args.held c.args.failed.now)

pub returns-then-not-arm_is_whole-clause-no : goal.returns-then-not-arm_is_whole-clause-no
returns-then-not-arm_is_whole-clause-no c = λ e all.
    let names = c.args.names.now in
    let less : c.loop-name.name-index < length names = c.loop-name-test.true in
    let fails : c.arm_is_whole.result ≡ false = c.if-not-arm_is_whole.true in
    c.arm_is_whole.ensures.no fails (all (get_or names c.loop-name.name-index (Leaf 0)) (name_here names c.loop-name.name-index (Leaf 0) less))

pub loop-name-preserved : goal.loop-name-preserved
loop-name-preserved c =
    let names = c.args.names.now in
    let less : c.loop-name.name-index < length names = c.loop-name-test.true in
    let passes : c.arm_is_whole.result ≡ true = c.if-not-arm_is_whole.false in
    on_more (IsArmWhole (site_layout c.args.site.now) (core_of c.args.tables.now) c.args.held c.args.failed.now) names c.loop-name.name-index (Leaf 0) less c.loop-name.invariant (c.arm_is_whole.ensures.yes passes)

pub returns-clause-yes : goal.returns-clause-yes
returns-clause-yes c = λ e.
    let past : length c.args.names.now ≤ c.loop-name.name-index = c.loop-name-test.false in
    on_all (IsArmWhole (site_layout c.args.site.now) (core_of c.args.tables.now) c.args.held c.args.failed.now) c.args.names.now c.loop-name.name-index past c.loop-name.invariant

pub returns-then-not-arm_is_whole-clause-yes : goal.returns-then-not-arm_is_whole-clause-yes
returns-then-not-arm_is_whole-clause-yes c = λ e. absurd (true≢false (sym e))

pub returns-clause-no : goal.returns-clause-no
returns-clause-no c = λ e. absurd (true≢false e)
