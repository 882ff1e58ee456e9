-- Rows of columns, as sums are put there.
use Rattle.std.proofs.Common.{◌≡◌, ◌≢◌, ℕ, zero, suc, ◌+◌, ◌-◌, ◌^◌, ◌<◌, ◌≤◌, ◌∙◌, inl, inr, List, [], ◌∷◌, length, set, drop, refl, sym, ap, subst, arith, length-set, get_or-set_same, get_or-set_other}
use Rattle.std.specs.Prelude.{slice_index}
use Rattle.std.specs.Simd.Lanes.{put_chunk}
use Rattle.std.proofs.lemmas.Bool.{cases_lt, cases_order}
use Rattle.std.proofs.lemmas.List.{get_or_past}
use Rattle.std.proofs.lemmas.Simd.{length-put_chunk, get_or-put_chunk_below, get_or-put_chunk_at}
use Rattle.std.proofs.lemmas.Grind.{same_number_lists}
use Rattle.draid_gf.specs.Field.{IsByte}
use Rattle.draid_gf.specs.Lanes.{HasLanes}
use Rattle.draid_parity.specs.Codeword.{parity_sum}
use Rattle.draid_parity.specs.Columns.{AreColumns, HasSum, IsColumn, byte_row, column_at}
use Rattle.draid_parity.specs.Rows.{PutsRows, SetsSums, HasSumBefore, IsOneOf, IsSolvedBefore, SolvesRows}
use Rattle.draid_parity.proofs.OneSolution.{same_columns}
use Rattle.draid_parity.proofs.StripeLemmas.{weighted_sum-zeros}
use Rattle.draid_parity.proofs.WeightedSums.{data_row-at, data_row-length}

pub puts_rows : (at n k : ℕ) (rows : List ℕ) (old : List (List ℕ)) (before after : List ℕ) → k < length old → at + n ≤ length (column_at old k) → length rows ≡ n
    → before ≡ column_at old k → after ≡ put_chunk at before rows → PutsRows at n k rows old (set old k after)
puts_rows at n k rows old before after below inside count was is = record {
  count = length-set old k after;
  long = long;
  other = λ i apart. get_or-set_other old k i after [] apart;
  below = λ j low. ap (λ c. slice_index c j) put ∙ get_or-put_chunk_below at (column_at old k) rows j 0 low;
  here = λ j low. ap (λ c. slice_index c (at + j)) put ∙ get_or-put_chunk_at at (column_at old k) rows j 0 (omega arith) (omega arith);
} where
  put : column_at (set old k after) k ≡ put_chunk at (column_at old k) rows
  put = get_or-set_same old k after [] below ∙ is ∙ ap (λ c. put_chunk at c rows) was

  long : (i : ℕ) → length (column_at (set old k after) i) ≡ length (column_at old i)
  long i = elim (cases_order i k) [
    | inl e ↦ subst (λ m. length (column_at (set old k after) m) ≡ length (column_at old m)) (sym e) (ap length put ∙ length-put_chunk at (column_at old k) rows)
    | inr (inl l) ↦ ap length (get_or-set_other old k i after [] (λ e. omega arith))
    | inr (inr g) ↦ ap length (get_or-set_other old k i after [] (λ e. omega arith))
  ]

pub sets_none : (parity at n : ℕ) (old : List (List ℕ)) → SetsSums parity 0 at n old old
sets_none parity at n old = record {
  count = refl;
  long = λ i. refl;
  stays = λ i above. refl;
  below = λ i j low. refl;
  sums = λ k j none low. absurd (omega arith);
}

-- one sum more
pub sets_more : (parity m at n : ℕ) (rows : List ℕ) (old mid new seen : List (List ℕ)) → seen ≡ old → SetsSums parity m at n old mid → PutsRows at n m rows mid new
    → HasLanes n rows (λ j. parity_sum m (byte_row (at + j) (drop parity seen))) → SetsSums parity (suc m) at n old new
sets_more parity m at n rows old mid new seen same was puts lanes = record {
  count = puts.count ∙ was.count;
  long = λ i. puts.long i ∙ was.long i;
  stays = λ i above. puts.other i (λ e. omega arith) ∙ was.stays i (omega arith);
  below = λ i j low. elim (cases_order i m) [
    | inl e ↦ subst (λ k. slice_index (column_at new k) j ≡ slice_index (column_at mid k) j) (sym e) (puts.below j low) ∙ was.below i j low
    | inr (inl l) ↦ ap (λ c. slice_index c j) (puts.other i (λ e. omega arith)) ∙ was.below i j low
    | inr (inr g) ↦ ap (λ c. slice_index c j) (puts.other i (λ e. omega arith)) ∙ was.below i j low
  ];
  sums = λ k j first low. elim (cases_lt k m) [
    | inl l ↦ ap (λ c. slice_index c (at + j)) (puts.other k (λ e. omega arith)) ∙ was.sums k j l low
    | inr g ↦
        let here : m ≡ k = omega arith in
        subst (λ i. slice_index (column_at new i) (at + j) ≡ parity_sum i (byte_row (at + j) (drop parity old))) here
        (puts.here j low ∙ lanes.each j low ∙ ap (λ cs. parity_sum m (byte_row (at + j) (drop parity cs))) same)
  ];
}

-- the data columns stay
pub drop_same : (p : ℕ) (old new : List (List ℕ)) → length new ≡ length old → ((i : ℕ) → p ≤ i → column_at new i ≡ column_at old i) → drop p new ≡ drop p old
drop_same zero old new count same = same_columns new old count (λ i below. same i (omega arith))
drop_same (suc p) [] [] count same = refl
drop_same (suc p) [] (y ∷ new) count same = absurd (omega arith)
drop_same (suc p) (x ∷ old) [] count same = absurd (omega arith)
drop_same (suc p) (x ∷ old) (y ∷ new) count same = drop_same p old new (omega arith) (λ i above. same (suc i) (omega arith))

-- a parity column stays a sum where another is changed
pub kept_sum : (parity : ℕ) (old new : List (List ℕ)) (k l : ℕ) → length new ≡ length old → ((i : ℕ) → i ≢ k → column_at new i ≡ column_at old i)
    → k < parity → l ≢ k → HasSum parity old l → HasSum parity new l
kept_sum parity old new k l count same below apart sum = λ j.
    ap (λ c. slice_index c j) (same l apart) ∙ sum j
    ∙ ap (λ cs. parity_sum l (byte_row j cs)) (sym (drop_same parity old new count (λ i above. same i (λ e. omega arith))))

-- the sums hold in n rows more
pub sums_more : (parity at n k : ℕ) (old new : List (List ℕ)) → SetsSums parity parity at n old new → k < parity
    → HasSumBefore at parity old k → HasSumBefore (at + n) parity new k
sums_more parity at n k old new sets below was = λ j low.
    (elim (cases_lt j at) [
      | inl under ↦ sets.below k j under ∙ was j under
      | inr over ↦
          let i = j - at in
          let place : at + i ≡ j = omega arith in
          subst (λ m. slice_index (column_at new k) m ≡ parity_sum k (byte_row m (drop parity old))) place (sets.sums k i below (omega arith))
    ])
    ∙ ap (λ cs. parity_sum k (byte_row j cs)) (sym (drop_same parity old new sets.count sets.stays))

-- the sums hold in all rows, also behind the end, where a byte reads as 0
pub sums_whole : (parity len at k : ℕ) (columns : List (List ℕ)) → k < length columns → AreColumns len columns → len ≤ at → HasSumBefore at parity columns k → HasSum parity columns k
sums_whole parity len at k columns below long far sum = λ j. elim (cases_lt j len) [
  | inl lt ↦ sum j (omega arith)
  | inr ge ↦ zeros j ge k ∙ sym (weighted_sum-zeros (2 ^ k) (byte_row j (drop parity columns)) (λ i. data_row-at j parity columns i ∙ zeros j ge (parity + i)))
] where
  zeros : (j : ℕ) → len ≤ j → (i : ℕ) → slice_index (column_at columns i) j ≡ 0
  zeros j ge i = elim (cases_lt i (length columns)) [
    | inl lt ↦ let same = long i lt in get_or_past (column_at columns i) j 0 (omega (arith, same))
    | inr past ↦ ap (λ c. slice_index c j) (get_or_past columns i [] past)
  ]

-- ---- solved rows
pub not_this : (i x : ℕ) → i ≢ x → IsOneOf (x ∷ []) i → ⊥
not_this i x apart (inl e) = apart e
not_this i x apart (inr none) = none

pub neither : (i x y : ℕ) → i ≢ x → i ≢ y → IsOneOf (x ∷ y ∷ []) i → ⊥
neither i x y not_x not_y (inl e) = not_x e
neither i x y not_x not_y (inr (inl e)) = not_y e
neither i x y not_x not_y (inr (inr none)) = none

pub none_of : (i x y z : ℕ) → i ≢ x → i ≢ y → i ≢ z → IsOneOf (x ∷ y ∷ z ∷ []) i → ⊥
none_of i x y z not_x not_y not_z (inl e) = not_x e
none_of i x y z not_x not_y not_z (inr (inl e)) = not_y e
none_of i x y z not_x not_y not_z (inr (inr (inl e))) = not_z e
none_of i x y z not_x not_y not_z (inr (inr (inr none))) = none

same_row : (parity j : ℕ) (old new : List (List ℕ)) → length new ≡ length old → ((i : ℕ) → slice_index (column_at new i) j ≡ slice_index (column_at old i) j)
    → byte_row j (drop parity new) ≡ byte_row j (drop parity old)
same_row parity j old new count same =
    same_number_lists (byte_row j (drop parity new)) (byte_row j (drop parity old))
    (data_row-length j parity new ∙ ap (λ n. n - parity) count ∙ sym (data_row-length j parity old))
    (λ i below. data_row-at j parity new i ∙ same (parity + i) ∙ sym (data_row-at j parity old i))

pub solved_more : (parity at n : ℕ) (sums lost : List ℕ) (old new : List (List ℕ)) → SolvesRows parity at n sums lost old new
    → IsSolvedBefore parity at sums lost old → IsSolvedBefore parity (at + n) sums lost new
solved_more parity at n sums lost old new solves was = record {
  bytes = λ i j one low. elim (cases_lt j at) [
    | inl under ↦ subst IsByte (sym (solves.below i j under)) (was.bytes i j one under)
    | inr over ↦
        let m = j - at in
        let place : at + m ≡ j = omega arith in
        subst (λ r. IsByte (slice_index (column_at new i) r)) place (solves.bytes i m one (omega arith))
  ];
  solved = λ k one j low. elim (cases_lt j at) [
    | inl under ↦
        solves.below k j under ∙ was.solved k one j under
        ∙ ap (parity_sum k) (sym (same_row parity j old new solves.count (λ i. solves.below i j under)))
    | inr over ↦
        let m = j - at in
        let place : at + m ≡ j = omega arith in
        subst (λ r. slice_index (column_at new k) r ≡ parity_sum k (byte_row r (drop parity new))) place (solves.solved k m one (omega arith))
  ];
}

-- all rows are solved
pub solved_whole : (parity len at k : ℕ) (sums lost : List ℕ) (columns : List (List ℕ)) → k < length columns → AreColumns len columns → len ≤ at
    → IsSolvedBefore parity at sums lost columns → IsOneOf sums k → HasSum parity columns k
solved_whole parity len at k sums lost columns below long far solved one = sums_whole parity len at k columns below long far (solved.solved k one)

pub solved_column : (parity len at x : ℕ) (sums lost : List ℕ) (columns : List (List ℕ)) → x < length columns → AreColumns len columns → len ≤ at
    → IsSolvedBefore parity at sums lost columns → IsOneOf lost x → IsColumn len (column_at columns x)
solved_column parity len at x sums lost columns below long far solved one = record {
  whole = long x below;
  bytes = λ j. elim (cases_lt j len) [
    | inl lt ↦ solved.bytes x j one (omega arith)
    | inr ge ↦ let same = long x below in let none = get_or_past (column_at columns x) j 0 (omega (arith, same)) in omega (arith, none)
  ];
}
