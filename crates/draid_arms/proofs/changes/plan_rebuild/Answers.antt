use Rattle.std.proofs.Common.{ap}
use Rattle.draid_world.specs.World.{pass_of, site_layout, state_of}
use Rattle.std.proofs.Common.{option_map}
use Rattle.draid_arms.proofs.Renewed.{planned}
use Rattle.draid_arms.proofs.changes.plan_rebuild.Goals as goal

pub returns : goal.returns
returns c =
    let l = site_layout c.args.site.now in
    let w = state_of c.args.world.now in
    planned l w (state_of c.plan.new.world) c.plan.result c.in_ok-plan.field-0 c.in_ok-plan.was c.plan.ensures.legal c.plan.ensures.illegal (ap (option_map pass_of) c.requires.idle) c.requires.last c.requires.open_group c.requires.target
