use Rattle.std.specs.Prelude.{ℕ, ◌+◌, ◌%◌, List, [], ◌∷◌, length, swap}

-- a row, shuffled by as many words as it has items behind the first: with each word the last item that is
-- still to be placed is exchanged with one of those up to it
abbrev pub shuffled : List ℕ → List ℕ → List ℕ
shuffled [] row = row
shuffled (word ∷ words) row = shuffled words (swap row (length words + 1) (word % (length words + 2)))
