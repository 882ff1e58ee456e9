use Rattle.draid_images.proofs.Claiming.{claims_all}
use Rattle.draid_world.proofs.Maps.{ok_map}
use Rattle.draid_world.specs.World.{core_of, site_layout}
use Rattle.draid_machine.specs.Names.{has_segment}
use Rattle.std.proofs.Common.{◌∙◌}
use Rattle.draid_images.proofs.openings.all_claimed.Goals as goal

pub returns : goal.returns
returns c =
    ok_map c.claimed_of.result _ _
    (λ claimed is s. is s ∙ claims_all (site_layout c.args.site.now) (core_of c.args.tables.now) s (has_segment c.in_ok-all.all.keys s) (c.in_ok-all.ensures s)) c.claimed_of.ensures
