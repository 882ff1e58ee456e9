use Rattle.draid_turn.proofs.turn.Turn.split.Given as goal

abbrev pub ghosts-share : goal.ghosts-share
ghosts-share g a = record { given = a.numbers.now }
