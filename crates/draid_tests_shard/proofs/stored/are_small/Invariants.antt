use Rattle.std.proofs.Common.{ℕ, ◌<◌, slice_index_or}
use Rattle.draid_machine.specs.declared.event.Event.{Event}
use Rattle.draid_replay.specs.Within.{IsSmallEvent}
use Rattle.draid_tests_shard.proofs.stored.are_small.Given as goal

abbrev pub invariant-loop-at : goal.invariant-loop-at
invariant-loop-at l = (k : ℕ) (d : Event) → k < l.at → IsSmallEvent (slice_index_or l.events k d)
