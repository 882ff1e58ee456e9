use Rattle.std.proofs.Common.{◌≡◌, ℕ, zero, suc, ◌+◌, ◌∙◌, List, [], ◌<◌, ◌≤◌, length, sym, subst, arith}
use Rattle.std.specs.Prelude.{slice_index}
use Rattle.draid_gf.specs.Field.{IsByte}
use Rattle.draid_gf.specs.Lanes.{HasLanes}
use Rattle.std.proofs.lemmas.List.{get_or_default}
use Rattle.draid_parity.specs.Columns.{column_at, rest_of}
use Rattle.draid_parity.proofs.PairLemmas.{rest_lanes, rest_bytes}
use Rattle.draid_parity.proofs.triple.rests.Goals as goal

pub returns-clause-p : goal.returns-clause-p
returns-clause-p g c =
    let columns = c.args.columns.now in
    let below : 0 < length columns = omega arith in
    let is : c.index-columns-0.result ≡ column_at columns 0 = c.index-columns-0.is ∙ get_or_default columns 0 c.index-columns-0.result [] below in
    rest_lanes g.V.Rows.COUNT c.args.at 0 3 columns (g.V.Rows.bytes c.rows-first.result) (g.V.Rows.bytes c.three_sums-p.result.0)
    (g.V.Rows.bytes c.plus.result) c.index-columns-0.result is c.rows-first.ensures.lanes c.three_sums-p.ensures.first c.plus.ensures

pub returns-clause-q : goal.returns-clause-q
returns-clause-q g c =
    let columns = c.args.columns.now in
    let below : 1 < length columns = omega arith in
    let is : c.index-columns-1.result ≡ column_at columns 1 = c.index-columns-1.is ∙ get_or_default columns 1 c.index-columns-1.result [] below in
    rest_lanes g.V.Rows.COUNT c.args.at 1 3 columns (g.V.Rows.bytes c.rows-second.result) (g.V.Rows.bytes c.three_sums-p.result.1)
    (g.V.Rows.bytes c.plus-2.result) c.index-columns-1.result is c.rows-second.ensures.lanes c.three_sums-p.ensures.second c.plus-2.ensures

pub returns-clause-r : goal.returns-clause-r
returns-clause-r g c =
    let columns = c.args.columns.now in
    let below : 2 < length columns = omega arith in
    let is : c.index-columns-2.result ≡ column_at columns 2 = c.index-columns-2.is ∙ get_or_default columns 2 c.index-columns-2.result [] below in
    rest_lanes g.V.Rows.COUNT c.args.at 2 3 columns (g.V.Rows.bytes c.rows-third.result) (g.V.Rows.bytes c.three_sums-p.result.2)
    (g.V.Rows.bytes c.plus-3.result) c.index-columns-2.result is c.rows-third.ensures.lanes c.three_sums-p.ensures.third c.plus-3.ensures

pub returns-clause-bytes : goal.returns-clause-bytes
returns-clause-bytes g c = λ k j kind low. by_column g.V.Rows.COUNT c.args.at c.args.columns.now
    (bytes_of 0 (g.V.Rows.bytes c.rows-first.result) c.index-columns-0.result (omega arith)
    (c.index-columns-0.is ∙ get_or_default c.args.columns.now 0 c.index-columns-0.result [] (omega arith)) c.rows-first.ensures.lanes c.rows-first.ensures.bytes)
    (bytes_of 1 (g.V.Rows.bytes c.rows-second.result) c.index-columns-1.result (omega arith)
    (c.index-columns-1.is ∙ get_or_default c.args.columns.now 1 c.index-columns-1.result [] (omega arith)) c.rows-second.ensures.lanes c.rows-second.ensures.bytes)
    (bytes_of 2 (g.V.Rows.bytes c.rows-third.result) c.index-columns-2.result (omega arith)
    (c.index-columns-2.is ∙ get_or_default c.args.columns.now 2 c.index-columns-2.result [] (omega arith)) c.rows-third.ensures.lanes c.rows-third.ensures.bytes)
    k j kind low
  where
    bytes_of : (k : ℕ) (row column : List ℕ) → k < 3 → column ≡ column_at c.args.columns.now k
        → HasLanes g.V.Rows.COUNT row (λ j. slice_index column (c.args.at + j)) → ((j : ℕ) → IsByte (slice_index row j)) → (j : ℕ) → j < g.V.Rows.COUNT → IsByte (rest_of 3 c.args.columns.now k (c.args.at + j))
    bytes_of k row column kind is lanes bytes = rest_bytes g.V.Rows.COUNT c.args.at k 3 c.args.columns.now row column kind is lanes bytes

    by_column : (n at : ℕ) (columns : List (List ℕ)) → ((j : ℕ) → j < n → IsByte (rest_of 3 columns 0 (at + j))) → ((j : ℕ) → j < n → IsByte (rest_of 3 columns 1 (at + j)))
        → ((j : ℕ) → j < n → IsByte (rest_of 3 columns 2 (at + j))) → (k j : ℕ) → k < 3 → j < n → IsByte (rest_of 3 columns k (at + j))
    by_column n at columns p q r zero j kind low = p j low
    by_column n at columns p q r (suc zero) j kind low = q j low
    by_column n at columns p q r (suc (suc zero)) j kind low = r j low
    by_column n at columns p q r (suc (suc (suc k))) j kind low = absurd (omega arith)

pub rows-first-requires : goal.rows-first-requires
rows-first-requires g c =
    let columns = c.args.columns.now in
    let column = c.index-columns-0.result in
    let below : 0 < length columns = omega arith in
    subst (λ xs. c.args.at + g.V.Rows.COUNT ≤ length xs) (sym (c.index-columns-0.is ∙ get_or_default columns 0 column [] below)) (c.requires.inside 0 below)

pub rows-second-requires : goal.rows-second-requires
rows-second-requires g c =
    let columns = c.args.columns.now in
    let column = c.index-columns-1.result in
    let below : 1 < length columns = omega arith in
    subst (λ xs. c.args.at + g.V.Rows.COUNT ≤ length xs) (sym (c.index-columns-1.is ∙ get_or_default columns 1 column [] below)) (c.requires.inside 1 below)

pub rows-third-requires : goal.rows-third-requires
rows-third-requires g c =
    let columns = c.args.columns.now in
    let column = c.index-columns-2.result in
    let below : 2 < length columns = omega arith in
    subst (λ xs. c.args.at + g.V.Rows.COUNT ≤ length xs) (sym (c.index-columns-2.is ∙ get_or_default columns 2 column [] below)) (c.requires.inside 2 below)
