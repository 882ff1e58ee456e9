use Rattle.std.proofs.lemmas.Bool.{true≢false}
use Rattle.draid_world.specs.World.{core_of, site_layout}
use Rattle.draid_scrubs.specs.Patches.{EachPart, PartStands}
use Rattle.draid_machine.specs.declared.event.Patched.{Patched}
use Rattle.std.proofs.lemmas.List.{drop_all, drop_more}
use Rattle.std.proofs.Common.{◌≡◌, ◌+◌, ◌∷◌, ◌∙◌, ap, drop, subst, sym}
use Rattle.draid_scrubs.proofs.patches.parts_stand.Goals as goal

pub loop-part-init : goal.loop-part-init
loop-part-init c = record { front = λ each. each; back = λ each. each }

pub returns-then-not-part_stands-clause-yes : goal.returns-then-not-part_stands-clause-yes
returns-then-not-part_stands-clause-yes c = λ e. absurd (true≢false (sym e))

pub returns-then-not-part_stands-clause-no : goal.returns-then-not-part_stands-clause-no
returns-then-not-part_stands-clause-no c = λ e each.
    let stands : Patched → Type 0 = PartStands (site_layout c.args.site.now) (core_of c.args.tables.now) c.args.held c.args.failed.now c.args.patched.now in
    let ps = c.args.patched.now in
    let at = c.loop-part.part-index in
    let cut : drop at ps ≡ c.part-item.result ∷ drop (at + 1) ps = drop_more ps at c.part-item.result c.loop-part-test.true ∙ ap (λ p. p ∷ drop (at + 1) ps) (sym c.part-item.is) in
    c.part_stands.ensures.no c.if-not-part_stands.true (subst (EachPart stands) cut (c.loop-part.invariant.back each)).0

pub loop-part-preserved : goal.loop-part-preserved
loop-part-preserved c =
    let stands : Patched → Type 0 = PartStands (site_layout c.args.site.now) (core_of c.args.tables.now) c.args.held c.args.failed.now c.args.patched.now in
    let ps = c.args.patched.now in
    let at = c.loop-part.part-index in
    let cut : drop at ps ≡ c.part-item.result ∷ drop (at + 1) ps = drop_more ps at c.part-item.result c.loop-part-test.true ∙ ap (λ p. p ∷ drop (at + 1) ps) (sym c.part-item.is) in
    record {
      front = λ rest. c.loop-part.invariant.front (subst (EachPart stands) (sym cut) (c.part_stands.ensures.yes c.if-not-part_stands.false, rest));
      back = λ each. (subst (EachPart stands) cut (c.loop-part.invariant.back each)).1;
    }

pub returns-clause-yes : goal.returns-clause-yes
returns-clause-yes c = λ e.
    let stands : Patched → Type 0 = PartStands (site_layout c.args.site.now) (core_of c.args.tables.now) c.args.held c.args.failed.now c.args.patched.now in
    c.loop-part.invariant.front (subst (EachPart stands) (sym (drop_all c.loop-part.part-index c.args.patched.now c.loop-part-test.false)) tt)

pub returns-clause-no : goal.returns-clause-no
returns-clause-no c = λ e. absurd (true≢false e)
