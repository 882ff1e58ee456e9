use Rattle.std.proofs.Common.{◌∙◌, ◌||◌, is_some, sym}
use Rattle.draid_machine.specs.Claims.{is_at}
use Rattle.draid_machine.specs.Names.{has_segment}
use Rattle.draid_machine.specs.declared.names.Segment.{Segment}
use Rattle.draid_world.specs.World.{core_of, kept_in, site_layout}
use Rattle.draid_world.proofs.Joining.{not_joined, joined}
use Rattle.draid_world.proofs.Maps.{on_ok}
use Rattle.draid_arms.proofs.keeping.add_held.Goals as goal

pub returns-then-not-is_held : goal.returns-then-not-is_held
returns-then-not-is_held c = λ s.
    not_joined (λ (t : Segment). is_at (site_layout c.args.site.now) (core_of c.args.tables.now) t || is_some (kept_in c.args.kept.now.entries t)) c.args.segment s (has_segment c.args.set.now.keys s)
    (sym c.is_held.ensures ∙ c.if-not-is_held.true)

pub returns : goal.returns
returns c =
    on_ok c.add_segment.result
    (λ is s. is s ∙ joined (λ (t : Segment). is_at (site_layout c.args.site.now) (core_of c.args.tables.now) t || is_some (kept_in c.args.kept.now.entries t)) c.args.segment s (has_segment c.args.set.now.keys s)
    (sym c.is_held.ensures ∙ c.if-not-is_held.false))
    c.add_segment.ensures
