use Rattle.std.proofs.Common.{◌+◌, None, ap}
use Rattle.draid_world.specs.World.{image_of, kept_in}
use Rattle.draid_images.proofs.openings.open.Goals as goal

pub returns : goal.returns
returns c =
    let img = c.args.world.now.image in
    λ i. record {
      open_group = img.group + 1;
      closing = None;
      committed = img.group;
      version = img.version;
      asked = img.version;
      core = c.in_ok-tables.ensures i;
      serial = 0;
      loan = None;
      image = image_of img;
      sealed = None;
      present = λ s. c.in_ok-present.ensures s i;
      aside = λ s. c.in_ok-aside.ensures s i;
      kept = ap kept_in c.new.ensures.empty i;
    }
