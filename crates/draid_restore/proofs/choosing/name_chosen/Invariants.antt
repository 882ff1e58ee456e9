use Rattle.std.specs.Prelude.{◌≡◌, ◌<◌, ℕ, None, length, slice_index_or, vec_capacity}
use Rattle.draid_restore.specs.Reading.{chosen_of}
use Rattle.draid_restore.proofs.choosing.name_chosen.Given as goal

abbrev pub invariant-loop-column : goal.invariant-loop-column
invariant-loop-column l = record {
  many : length l.chosen.items ≡ l.column;
  each : (c : ℕ) → c < l.column → slice_index_or l.chosen.items c None ≡ chosen_of l.spots l.failed c;
  room : vec_capacity l.chosen ≡ vec_capacity l.initial.chosen;
}
