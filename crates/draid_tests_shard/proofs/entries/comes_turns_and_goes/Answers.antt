use Rattle.draid_machine.specs.declared.names.Stage.TheVariants.{Writing, Live}
use Rattle.draid_tests_shard.proofs.entries.comes_turns_and_goes.Goals as goal

pub turn-requires : goal.turn-requires
turn-requires c = record { there = record { stage = Writing 0 0; there = c.in_ok-begin.ensures.entered.at 3 } }

pub remove-requires : goal.remove-requires
remove-requires c = record { there = record { stage = Live; there = c.turn.ensures.entered.at 3 } }
