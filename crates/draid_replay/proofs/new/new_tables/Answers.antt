use Rattle.std.proofs.Common.{◌∙◌, None, ap}
use Rattle.draid_world.specs.World.{held_in, site_layout}
use Rattle.draid_replay.proofs.Creation.{arms_end}
use Rattle.draid_replay.proofs.new.new_tables.Goals as goal

pub returns : goal.returns
returns c = λ i. record {
  held = ap held_in c.new.ensures.empty i;
  arm = λ n. (c.in_ok-arms.ensures n ∙ arms_end (site_layout c.args.site.now) n) i;
  order = λ k. c.in_ok-order.ensures k i;
  pass = None;
  last = 0;
}
