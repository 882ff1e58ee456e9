use Rattle.std.proofs.Common.{ap, refl}
use Rattle.draid_shelf.specs.Memory.{content_of}
use Rattle.draid_run.proofs.laws.new_shelves_have_no_pool.Goals as goal

pub returns : goal.returns
returns c = (record { held = refl; counts = λ m. refl; uber = refl; checks = refl }, ap content_of c.requires.uber)
