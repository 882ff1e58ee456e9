use Rattle.std.proofs.Common.{ℕ, bit_xor}
use Rattle.std.proofs.lemmas.Nat.{xor_of_8}
use Rattle.draid_parity.specs.Rows.{second_part}
use Rattle.draid_parity.proofs.PairLemmas.{first_lanes, second_lanes, times_one, times_over, part_byte}
use Rattle.draid_parity.proofs.pair.parts.Goals as goal

pub returns-then-k-eq0-clause-first : goal.returns-then-k-eq0-clause-first
returns-then-k-eq0-clause-first g c = λ s t low high bytes.
    let n = g.V.Rows.COUNT in
    let list = g.V.Rows.bytes in
    let pair = c.args.pair.now in
    let b : ℕ → ℕ = λ j. second_part pair.node pair.between (s j) (t j) in
    let second = second_lanes n pair.node pair.between (list c.args.low) (list c.args.high) (list c.times.result) (list c.plus.result) (list c.times-second.result)
    c.times.ensures c.plus.ensures c.times-second.ensures s t low high in
    times_one n pair.over_first (list c.plus-first.result) (λ j. bit_xor (s j) (b j)) (c.requires.plain c.if-k-eq0.true).0
    (λ j below. xor_of_8 (s j) (b j) (bytes j below) (part_byte pair.node pair.between (s j) (t j) c.requires.byte))
    (first_lanes n (list c.args.low) (list c.times-second.result) (list c.plus-first.result) c.plus-first.ensures s b low second)

pub returns-then-k-eq0-clause-second : goal.returns-then-k-eq0-clause-second
returns-then-k-eq0-clause-second g c = λ s t low high.
    let n = g.V.Rows.COUNT in
    let list = g.V.Rows.bytes in
    let pair = c.args.pair.now in
    let b : ℕ → ℕ = λ j. second_part pair.node pair.between (s j) (t j) in
    times_one n pair.over_second (list c.times-second.result) b (c.requires.plain c.if-k-eq0.true).1
    (λ j below. part_byte pair.node pair.between (s j) (t j) c.requires.byte)
    (second_lanes n pair.node pair.between (list c.args.low) (list c.args.high) (list c.times.result) (list c.plus.result) (list c.times-second.result)
    c.times.ensures c.plus.ensures c.times-second.ensures s t low high)

pub returns-else-k-eq0-clause-first : goal.returns-else-k-eq0-clause-first
returns-else-k-eq0-clause-first g c = λ s t low high bytes.
    let n = g.V.Rows.COUNT in
    let list = g.V.Rows.bytes in
    let pair = c.args.pair.now in
    let b : ℕ → ℕ = λ j. second_part pair.node pair.between (s j) (t j) in
    let second = second_lanes n pair.node pair.between (list c.args.low) (list c.args.high) (list c.times.result) (list c.plus.result) (list c.times-second.result)
    c.times.ensures c.plus.ensures c.times-second.ensures s t low high in
    times_over n pair.over_first (list c.plus-first.result) (list c.times-else-k-eq0.result) (λ j. bit_xor (s j) (b j)) c.times-else-k-eq0.ensures
    (first_lanes n (list c.args.low) (list c.times-second.result) (list c.plus-first.result) c.plus-first.ensures s b low second)

pub returns-else-k-eq0-clause-second : goal.returns-else-k-eq0-clause-second
returns-else-k-eq0-clause-second g c = λ s t low high.
    let n = g.V.Rows.COUNT in
    let list = g.V.Rows.bytes in
    let pair = c.args.pair.now in
    let b : ℕ → ℕ = λ j. second_part pair.node pair.between (s j) (t j) in
    times_over n pair.over_second (list c.times-second.result) (list c.times-else-k-eq0-2.result) b c.times-else-k-eq0-2.ensures
    (second_lanes n pair.node pair.between (list c.args.low) (list c.args.high) (list c.times.result) (list c.plus.result) (list c.times-second.result)
    c.times.ensures c.plus.ensures c.times-second.ensures s t low high)
