use Rattle.draid_rack.proofs.Moments.{left_adds, left_damages, left_drops, left_flushes, left_lands, left_settles}
use Rattle.draid_rack.proofs.laws.calls_leave_the_rest.Goals as goal

pub returns : goal.returns
returns g c = record { lands = left_lands; flushes = left_flushes; settles = left_settles; damages = left_damages; adds = left_adds; drops = left_drops }
