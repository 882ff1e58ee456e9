use Rattle.std.proofs.Common.{◌∙◌, sym, Some}
use Rattle.draid_world.specs.World.{core_of, kept_in, names_at, site_layout}
use Rattle.draid_world.proofs.Maps.{on_ok}
use Rattle.draid_arms.specs.Moves.{is_lost}
use Rattle.draid_arms.proofs.Lost.{not_lost, now_lost}
use Rattle.draid_arms.proofs.keeping.keep_if_lost.Goals as goal

pub returns-then-not-is_lost : goal.returns-then-not-is_lost
returns-then-not-is_lost c = λ s.
    not_lost (is_lost (site_layout c.args.site.now) (names_at c.args.before.now) (core_of c.args.tables.now)) c.args.segment s (Some c.args.group) (kept_in c.args.kept.now.entries s)
    (sym c.is_lost.ensures ∙ c.if-not-is_lost.true)

pub returns : goal.returns
returns c =
    on_ok c.keep.result
    (λ is s. is s ∙ now_lost (is_lost (site_layout c.args.site.now) (names_at c.args.before.now) (core_of c.args.tables.now)) c.args.segment s (Some c.args.group) (kept_in c.args.kept.now.entries s)
    (sym c.is_lost.ensures ∙ c.if-not-is_lost.false))
    c.keep.ensures
