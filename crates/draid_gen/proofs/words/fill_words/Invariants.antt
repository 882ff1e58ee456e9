use Rattle.std.proofs.Common.{◌≡◌, ◌++◌, ◌-◌, take}
use Rattle.rand_core.specs.Steps.{first_words}
use Rattle.rand_xoshiro.specs.Xoroshiro128.{plus_plus}
use Rattle.draid_gen.proofs.words.fill_words.Given as goal

-- the words so far, and then those of the generator as it is
abbrev pub invariant-words : goal.invariant-words
invariant-words l =
    first_words plus_plus (l.i-end) l.initial.rng
    ≡ take l.i l.into ++ first_words plus_plus (l.i-end - l.i) l.rng
