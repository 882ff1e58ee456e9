use Rattle.std.proofs.Common.{◌∙◌, sym}
use Rattle.draid_machine.specs.After.{stays}
use Rattle.draid_machine.specs.Names.{has_segment}
use Rattle.draid_world.specs.World.{site_layout, state_of}
use Rattle.draid_world.proofs.Joining.{not_joined, joined}
use Rattle.draid_world.proofs.Maps.{on_ok}
use Rattle.draid_steps.proofs.commits.add_staying.Goals as goal

pub returns-then-not-is_staying : goal.returns-then-not-is_staying
returns-then-not-is_staying c = λ s.
    not_joined (stays (site_layout c.args.site.now) c.args.group (state_of c.args.world.now)) c.args.segment s (has_segment c.args.set.now.keys s) (sym c.is_staying.ensures ∙ c.if-not-is_staying.true)

pub returns : goal.returns
returns c =
    on_ok c.add_segment.result
    (λ is s. is s ∙ joined (stays (site_layout c.args.site.now) c.args.group (state_of c.args.world.now)) c.args.segment s (has_segment c.args.set.now.keys s) (sym c.is_staying.ensures ∙ c.if-not-is_staying.false))
    c.add_segment.ensures
