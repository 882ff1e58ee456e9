use Rattle.draid_shelf.proofs.Nothing.{holds_none}
use Rattle.draid_shelf.proofs.places.empty_places.Goals as goal

pub returns : goal.returns
returns g c = λ m. holds_none _ _ m c.default.ensures.long c.default.ensures.at
