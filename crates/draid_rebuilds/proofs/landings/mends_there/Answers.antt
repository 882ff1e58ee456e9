use Rattle.std.proofs.Common.{◌≡◌, ◌<◌, ◌∙◌, true, length, rules, sym, subst, inl, inr}
use Rattle.draid_machine.specs.Names.{has_name}
use Rattle.draid_passes.proofs.Lists.{name_here, name_next}
use Rattle.draid_world.specs.World.{core_of, site_layout}
use Rattle.draid_rebuilds.specs.Landings.{Keeps}
use Rattle.draid_rebuilds.proofs.landings.mends_there.Goals as goal

pub returns-then-keeps-clause-yes : goal.returns-then-keeps-clause-yes
returns-then-keeps-clause-yes c = λ e.
    let targets = c.args.pass.now.targets.items in
    let name = c.index.result.now in
    let less : c.loop-at.at < length targets = search rules in
    let keeps = c.keeps.ensures.yes c.if-keeps.true in
    record {
      arm = name;
      target = subst (λ n. has_name targets n ≡ true) (sym c.index.ensures) (name_here targets c.loop-at.at name less);
      column = keeps.0;
      lies = keeps.1;
      answers = search rules;
    }

pub loop-at-preserved : goal.loop-at-preserved
loop-at-preserved c = λ arm has keeps.
    let targets = c.args.pass.now.targets.items in
    let name = c.index.result.now in
    let less : c.loop-at.at < length targets = search rules in
    elim (name_next targets c.loop-at.at name arm less has) [
      | inl old ↦ c.loop-at.invariant arm old keeps
      | inr new ↦ c.keeps.ensures.no c.if-keeps.false (subst (Keeps (site_layout c.args.site.now) (core_of c.args.tables.now) c.args.stripe c.args.leaf) (sym (c.index.ensures ∙ new)) keeps)
    ]
