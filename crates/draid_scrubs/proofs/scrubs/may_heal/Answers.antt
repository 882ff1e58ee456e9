use Rattle.std.proofs.lemmas.Bool.{true≢false}
use Rattle.std.proofs.Common.{◌≡◌, true, false, sym}
use Rattle.draid_world.specs.World.{core_of, site_layout}
use Rattle.draid_scrubs.proofs.Patching.{patches_stand, stand_patches}
use Rattle.draid_scrubs.proofs.scrubs.may_heal.Goals as goal

pub returns-then-not-parts_stand-clause-no : goal.returns-then-not-parts_stand-clause-no
returns-then-not-parts_stand-clause-no c = λ e patches.
    let fails : c.parts_stand.result ≡ false = c.if-not-parts_stand.true in
    c.parts_stand.ensures.no fails (patches_stand (site_layout c.args.site.now) (core_of c.args.tables.now) c.args.held c.args.failed.now c.args.patched.now patches)

pub returns-clause-yes : goal.returns-clause-yes
returns-clause-yes c = λ e.
    let stands : c.parts_stand.result ≡ true = c.if-not-parts_stand.false in
    let patched : c.all_patched.result ≡ true = c.if-not-all_patched.false in
    stand_patches (site_layout c.args.site.now) (core_of c.args.tables.now) c.args.held c.args.failed.now c.args.patched.now (c.parts_stand.ensures.yes stands) (c.all_patched.ensures.yes patched)
    (c.heals_all.ensures.yes e)

pub returns-then-not-parts_stand-clause-yes : goal.returns-then-not-parts_stand-clause-yes
returns-then-not-parts_stand-clause-yes c = λ e. absurd (true≢false (sym e))

pub returns-then-not-all_patched-clause-yes : goal.returns-then-not-all_patched-clause-yes
returns-then-not-all_patched-clause-yes c = λ e. absurd (true≢false (sym e))
