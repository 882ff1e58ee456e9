use Rattle.draid_rack.proofs.Shapes.{there, is_there}
use Rattle.draid_rack.proofs.laws.shapes_say_what_is_there.Goals as goal

pub returns : goal.returns
returns c = record { there = there; read = is_there }
