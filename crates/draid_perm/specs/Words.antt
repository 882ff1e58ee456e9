use Rattle.std.specs.Prelude.{ℕ, zero, suc, ◌-◌, ◌*◌, List}
use Rattle.rand_core.specs.Steps.{first_words}
use Rattle.rand_xoshiro.specs.Xoroshiro128.{of_seed, plus_plus}
use Rattle.rand_xoshiro.specs.SplitMix64.{splitmix_seed}

-- the state of the generator that a number seeds
abbrev pub seeded : ℕ → List ℕ
seeded seed = of_seed (splitmix_seed 16 seed)

-- the state after so many words
abbrev pub after : ℕ → List ℕ → List ℕ
after zero state = state
after (suc count) state = after count (plus_plus state).1

-- the words of a row of n items: n - 1 for each row, one after another
abbrev pub row_words : ℕ → ℕ → ℕ → List ℕ
row_words n seed row = first_words plus_plus (n - 1) (after (row * (n - 1)) (seeded seed))
