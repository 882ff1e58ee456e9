use Rattle.draid_tests_lock.proofs.OwnNumbers.{holds_own}
use Rattle.draid_tests_lock.proofs.turn.put_two.Goals as goal

pub split-second-requires-clause-some : goal.split-second-requires-clause-some
split-second-requires-clause-some g c = record { number = 7; held = holds_own 7 }
