use Rattle.std.proofs.Common.{◌∷◌, []}
use Rattle.draid_turn.specs.History.{Stood}
use Rattle.draid_turn.proofs.turn.Turn.call.Given as goal

abbrev pub ghosts-take_in_turn : goal.ghosts-take_in_turn
ghosts-take_in_turn g a = record { kept = Stood g.T.Stand.step a.self.now.first }

abbrev pub ghosts-tell : goal.ghosts-tell
ghosts-tell g a = record { added = record { left = a.left.now.value; concerned = a.concerned } ∷ [] }
