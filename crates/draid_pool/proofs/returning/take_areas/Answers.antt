use Rattle.draid_pool.proofs.Takings.{checks_there}
use Rattle.draid_pool.proofs.returning.take_areas.Goals as goal

pub returns-in-Ok-clause-some : goal.returns-in-Ok-clause-some
returns-in-Ok-clause-some g c = checks_there (c.in-Ok.even, c.in-Ok.odd) (g.H.Shelf.told c.args.shelf.now) (g.H.Shelf.told c.take_uber.new.self) c.in_ok-uber.ensures.told c.in-Ok.ensures.needs
