use Rattle.std.proofs.Common.{◌≡◌, suc, ◌+◌, ap, length, arith}
use Rattle.std.specs.Prelude.{nat_le}
use Rattle.std.proofs.lemmas.List.Sums.{count_by-le-length}
use Rattle.draid_parity.specs.Columns.{column_at, present_below}
use Rattle.draid_parity.proofs.Missing.{enough_present, present_zero, present-there, test-from_absent, chosen_one, chosen_two, chosen_three}
use Rattle.draid_parity.proofs.Lost.{not_lost, solved_one, solved_two, solved_three, columns_solved}
use Rattle.draid_parity.proofs.solve.solve_data.Goals as goal

pub next_present-k-requires-clause-some : goal.next_present-k-requires-clause-some
next_present-k-requires-clause-some c =
    let enough = enough_present c.args.missing.now c.args.parity in
    let none = present_zero c.args.missing.now in
    omega (arith, enough, none, c.requires.all)

pub next_present-k-requires-in-len2-clause-some : goal.next_present-k-requires-in-len2-clause-some
next_present-k-requires-in-len2-clause-some c =
    let enough = enough_present c.args.missing.now c.args.parity in
    let none = present_zero c.args.missing.now in
    omega (arith, enough, none, c.requires.all)

pub next_present-l-requires-clause-some : goal.next_present-l-requires-clause-some
next_present-l-requires-clause-some c =
    let k = c.next_present-k-in-len2.result in
    let enough = enough_present c.args.missing.now c.args.parity in
    let none = present_zero c.args.missing.now in
    let more = present-there c.args.missing.now k (test-from_absent c.args.missing.now k c.next_present-k-in-len2.ensures.present) in
    let turn : k + 1 ≡ suc k = omega arith in
    let moved = ap (present_below c.args.missing.now) turn in
    let lowest = c.next_present-k-in-len2.ensures.lowest in
    omega (arith, enough, none, more, moved, lowest, c.requires.all)

pub returns-in-len1-clause-chosen : goal.returns-in-len1-clause-chosen
returns-in-len1-clause-chosen c =
    chosen_one c.args.parity c.args.missing.now c.restore_one.new.columns.items c.next_present-k.result (omega (arith, c.requires.all))
    c.next_present-k.ensures.below c.next_present-k.ensures.present c.next_present-k.ensures.lowest c.restore_one.ensures.sum

pub returns-in-len2-clause-chosen : goal.returns-in-len2-clause-chosen
returns-in-len2-clause-chosen c =
    chosen_two c.args.parity c.args.missing.now c.restore_two.new.columns.items c.next_present-k-in-len2.result c.next_present-l.result
    c.requires.kind (omega (arith, c.requires.all)) (let above = c.next_present-l.ensures.above in omega (arith, above))
    c.next_present-l.ensures.below c.next_present-k-in-len2.ensures.present c.next_present-l.ensures.present
    c.next_present-k-in-len2.ensures.lowest c.next_present-l.ensures.lowest c.restore_two.ensures.sums

pub returns-in-len3-clause-chosen : goal.returns-in-len3-clause-chosen
returns-in-len3-clause-chosen c =
    let few = count_by-le-length (λ i. nat_le c.args.parity i) c.args.missing.now in
    chosen_three c.args.parity c.args.missing.now c.restore_three.new.columns.items (omega (arith, few, c.requires.all)) (omega (arith, c.requires.all))
    (omega arith) c.restore_three.ensures.sums

pub returns-in-len1-clause-stays : goal.returns-in-len1-clause-stays
returns-in-len1-clause-stays c = λ i absent.
    let lost = c.args.lost.now in
    c.restore_one.ensures.stays i (not_lost lost 0 i (omega arith) absent)

pub returns-in-len1-clause-columns : goal.returns-in-len1-clause-columns
returns-in-len1-clause-columns c =
    let lost = c.args.lost.now in
    let old = c.args.columns.now.items in
    let new = c.restore_one.new.columns.items in
    let len = length (column_at old 0) in
    columns_solved len lost old new (let count = c.restore_one.ensures.count in omega (arith, count)) c.requires.columns
    (λ i absent. c.restore_one.ensures.stays i (not_lost lost 0 i (omega arith) absent))
    (solved_one len lost new (omega arith) c.restore_one.ensures.column)

pub returns-in-len1-clause-bytes : goal.returns-in-len1-clause-bytes
returns-in-len1-clause-bytes c = λ i j found.
    let len = length (column_at c.args.columns.now.items 0) in
    (solved_one len c.args.lost.now c.restore_one.new.columns.items (omega arith) c.restore_one.ensures.column i found).bytes j

pub returns-in-len2-clause-stays : goal.returns-in-len2-clause-stays
returns-in-len2-clause-stays c = λ i absent.
    let lost = c.args.lost.now in
    c.restore_two.ensures.stays i (not_lost lost 0 i (omega arith) absent) (not_lost lost 1 i (omega arith) absent)

pub returns-in-len2-clause-columns : goal.returns-in-len2-clause-columns
returns-in-len2-clause-columns c =
    let lost = c.args.lost.now in
    let old = c.args.columns.now.items in
    let new = c.restore_two.new.columns.items in
    let len = length (column_at old 0) in
    columns_solved len lost old new (let count = c.restore_two.ensures.count in omega (arith, count)) c.requires.columns
    (λ i absent. c.restore_two.ensures.stays i (not_lost lost 0 i (omega arith) absent) (not_lost lost 1 i (omega arith) absent))
    (solved_two len lost new (omega arith) c.restore_two.ensures.first c.restore_two.ensures.second)

pub returns-in-len2-clause-bytes : goal.returns-in-len2-clause-bytes
returns-in-len2-clause-bytes c = λ i j found.
    let len = length (column_at c.args.columns.now.items 0) in
    (solved_two len c.args.lost.now c.restore_two.new.columns.items (omega arith) c.restore_two.ensures.first c.restore_two.ensures.second i found).bytes j

pub returns-in-len3-clause-stays : goal.returns-in-len3-clause-stays
returns-in-len3-clause-stays c = λ i absent.
    let lost = c.args.lost.now in
    c.restore_three.ensures.stays i (not_lost lost 0 i (omega arith) absent) (not_lost lost 1 i (omega arith) absent) (not_lost lost 2 i (omega arith) absent)

pub returns-in-len3-clause-columns : goal.returns-in-len3-clause-columns
returns-in-len3-clause-columns c =
    let lost = c.args.lost.now in
    let old = c.args.columns.now.items in
    let new = c.restore_three.new.columns.items in
    let len = length (column_at old 0) in
    columns_solved len lost old new (let count = c.restore_three.ensures.count in omega (arith, count)) c.requires.columns
    (λ i absent. c.restore_three.ensures.stays i (not_lost lost 0 i (omega arith) absent) (not_lost lost 1 i (omega arith) absent) (not_lost lost 2 i (omega arith) absent))
    (solved_three len lost new (omega arith) c.restore_three.ensures.first c.restore_three.ensures.second c.restore_three.ensures.third)

pub returns-in-len3-clause-bytes : goal.returns-in-len3-clause-bytes
returns-in-len3-clause-bytes c = λ i j found.
    let len = length (column_at c.args.columns.now.items 0) in
    (solved_three len c.args.lost.now c.restore_three.new.columns.items (omega arith) c.restore_three.ensures.first c.restore_three.ensures.second c.restore_three.ensures.third i found).bytes j
