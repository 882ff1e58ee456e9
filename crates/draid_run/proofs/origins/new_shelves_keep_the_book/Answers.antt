use Rattle.std.proofs.Common.{ap}
use Rattle.draid_shelf.specs.Memory.{content_of}
use Rattle.draid_run.proofs.Booked.{bare_keeps}
use Rattle.draid_run.proofs.origins.new_shelves_keep_the_book.Goals as goal

pub returns : goal.returns
returns g c words status input old new now is =
    bare_keeps g.R.Rack g.A.Area (g.D.Decides.choices c.args.decider.now) words status input old new _ now is (ap content_of c.requires.uber)
