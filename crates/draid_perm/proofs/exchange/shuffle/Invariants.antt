use Rattle.std.proofs.Common.{◌≡◌, ◌+◌, length, drop}
use Rattle.std.specs.List.Sorted.{IsPermutation}
use Rattle.draid_perm.specs.Shuffle.{shuffled}
use Rattle.draid_perm.proofs.exchange.shuffle.Given as goal

-- the words that are left give the rest of the shuffle
abbrev pub invariant-loop-word : goal.invariant-loop-word
invariant-loop-word l = record {
  rest : shuffled (drop l.word-index l.words) l.row ≡ shuffled l.words l.fn.row;
  last : l.last + l.word-index ≡ length l.words;
  permutation : IsPermutation l.fn.row l.row;
}
