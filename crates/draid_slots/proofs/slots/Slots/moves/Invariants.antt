use Rattle.std.proofs.Common.{◌<◌, ℕ}
use Rattle.draid_slots.specs.Moves.{LiesElsewhere}
use Rattle.draid_slots.proofs.slots.Slots.moves.Given as goal

abbrev pub invariant-loop-slice : goal.invariant-loop-slice
invariant-loop-slice l = (slice : ℕ) → slice < l.slice → ¬ (LiesElsewhere l.before l.now l.self l.slot l.spare slice)
