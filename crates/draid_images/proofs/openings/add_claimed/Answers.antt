use Rattle.std.proofs.Common.{◌∙◌, sym}
use Rattle.draid_machine.specs.Claims.{claims}
use Rattle.draid_machine.specs.Names.{has_segment}
use Rattle.draid_world.specs.World.{core_of, site_layout}
use Rattle.draid_world.proofs.Maps.{on_ok}
use Rattle.draid_world.proofs.Joining.{not_joined, joined}
use Rattle.draid_images.proofs.openings.add_claimed.Goals as goal

pub returns-then-not-is_claimed : goal.returns-then-not-is_claimed
returns-then-not-is_claimed c = λ s.
    not_joined (claims (site_layout c.args.site.now) (core_of c.args.tables.now)) c.args.segment s (has_segment c.args.set.now.keys s) (sym c.is_claimed.ensures ∙ c.if-not-is_claimed.true)

pub returns : goal.returns
returns c =
    on_ok c.add_segment.result
    (λ is s. is s ∙ joined (claims (site_layout c.args.site.now) (core_of c.args.tables.now)) c.args.segment s (has_segment c.args.set.now.keys s) (sym c.is_claimed.ensures ∙ c.if-not-is_claimed.false))
    c.add_segment.ensures
