use Rattle.std.proofs.Common.{◌≡◌, ◌-◌, ◌+◌, ◌≤◌, ◌++◌, length, drop, map}
use Rattle.std.specs.List.{slice_split}
use Rattle.draid_script.specs.Word.{is_space, placed, placed_from}
use Rattle.draid_script.proofs.words.words.Given as goal

-- the words so far, and those from here on, are all of them
abbrev pub invariant-loop-words : goal.invariant-loop-words
invariant-loop-words l = record {
  within : l.start ≤ length l.line;
  rest : map placed l.words.items ++ placed_from l.start (slice_split is_space (drop l.start l.line)) ≡ placed_from 0 (slice_split is_space l.line);
}

abbrev pub decreases-loop-words : goal.decreases-loop-words
decreases-loop-words l = length l.line + 1 - l.start
