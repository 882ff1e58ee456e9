-- The columns that solve for missing ones are the only ones.
use Rattle.std.proofs.Common.{◌≡◌, ℕ, suc, ◌+◌, ◌-◌, ◌*◌, ◌^◌, ◌<◌, ◌≤◌, ◌∙◌, ◌⊎◌, inl, inr, Bool, true, false, ◌||◌, ◌==◌, cond, List, [], ◌∷◌, length, get_or, drop, bit_xor, refl, sym, ap, ap₂, subst, arith}
use Rattle.std.specs.Prelude.{slice_index, nat_le, count_by, Contains}
use Rattle.std.specs.List.Sorted.{IsStrictlyIncreasing}
use Rattle.std.specs.Simd.Lanes.{zip2}
use Rattle.std.proofs.lemmas.Bool.{cases_lt, eqb-true, leb-true, leb-false}
use Rattle.std.proofs.lemmas.Grind.{same_number_lists}
use Rattle.std.proofs.lemmas.List.Sums.{sum_by-cons}
use Rattle.std.proofs.lemmas.Simd.{length-zip2}
use Rattle.draid_gf.specs.Field.{field_product, field_power, IsByte}
use Rattle.draid_gf.proofs.Linear.{xor_swap}
use Rattle.draid_gf.proofs.Product.{field_product-right}
use Rattle.draid_gf.proofs.Laws.{same_from_xor}
use Rattle.std.proofs.lemmas.Nat.{xor_of_8}
use Rattle.draid_parity.specs.Codeword.{weighted_sum, parity_sum}
use Rattle.draid_parity.specs.Columns.{AreColumns, ChosenSums, IsChosen, SolvesColumns, byte_row, column_at, is_missing}
use Rattle.draid_parity.proofs.Algebra.{generators, xor_none}
use Rattle.draid_parity.proofs.Lists.{zip2_at}
use Rattle.draid_parity.proofs.Missing.{ascending_le, contains-from_test, test-from_contains}
use Rattle.draid_parity.proofs.Vandermonde.{ArePlaces, Differs, Vanishes, vanish}
use Rattle.draid_parity.proofs.WeightedSums.{data_row-at, data_row-length}

-- ---- the missing data columns, counted from the first data column
unfoldable lost : ℕ → List ℕ → List ℕ
lost p [] = []
lost p (m ∷ ms) = cond (nat_le p m) ((m - p) ∷ lost p ms) (lost p ms)

lost-length : (p : ℕ) (ms : List ℕ) → length (lost p ms) ≡ count_by (λ i. nat_le p i) ms
unfolding lost
lost-length p [] = refl
lost-length p (m ∷ ms) =
    chosen (nat_le p m) (lost p ms) ∙ ap (λ n. cond (nat_le p m) 1 0 + n) (lost-length p ms) ∙ sym (sum_by-cons (λ i. cond (nat_le p i) 1 0) m ms)
  where
    chosen : (t : Bool) (ls : List ℕ) → length (cond t ((m - p) ∷ ls) ls) ≡ cond t 1 0 + length ls
    chosen true ls = omega arith
    chosen false ls = omega arith

lost-absent : (p i : ℕ) (ms : List ℕ) → Differs i (lost p ms) → is_missing ms (p + i) ≡ false
unfolding lost
lost-absent p i [] apart = refl
lost-absent p i (m ∷ ms) apart = cases (lost-absent p i ms) (nat_le p m) refl apart (m == p + i) refl
  where
    cases : (Differs i (lost p ms) → is_missing ms (p + i) ≡ false) → (t : Bool) → nat_le p m ≡ t → Differs i (cond t ((m - p) ∷ lost p ms) (lost p ms))
        → (b : Bool) → (m == p + i) ≡ b → (b || is_missing ms (p + i)) ≡ false
    cases rest true at apart true is = let same = eqb-true m (p + i) is in absurd (apart.0 (omega (arith, same)))
    cases rest true at apart false is = rest apart.1
    cases rest false at apart true is = let same = eqb-true m (p + i) is in let low = leb-false p m at in absurd (omega (arith, same, low))
    cases rest false at apart false is = rest apart

lost-differs : (p m : ℕ) (ms : List ℕ) → p ≤ m → ((k : ℕ) → k < length ms → m < get_or ms k 0) → Differs (m - p) (lost p ms)
unfolding lost
lost-differs p m [] above each = tt
lost-differs p m (n ∷ ms) above each = cases (nat_le p n) refl (lost-differs p m ms above (λ k below. each (suc k) (omega arith)))
  where
    more : m < n
    more = each 0 (omega arith)

    cases : (t : Bool) → nat_le p n ≡ t → Differs (m - p) (lost p ms) → Differs (m - p) (cond t ((n - p) ∷ lost p ms) (lost p ms))
    cases true at rest = ((λ same. omega (arith, same, more)), rest)
    cases false at rest = rest

lost-places : (p n : ℕ) (ms : List ℕ) → IsStrictlyIncreasing ms → ((k : ℕ) → k < length ms → get_or ms k 0 < n) → ArePlaces (n - p) (lost p ms)
unfolding lost
lost-places p n [] ascending in_range = tt
lost-places p n (m ∷ ms) ascending in_range =
    cases (nat_le p m) refl
    (lost-places p n ms
    (λ k below. (let turn : suc k + 1 ≡ suc (k + 1) = omega arith in
    subst (λ i. slice_index ms k < slice_index (m ∷ ms) i) turn (ascending (suc k) (omega arith))))
    (λ k below. in_range (suc k) (omega arith)))
  where
    later : (k : ℕ) → k < length ms → m < get_or ms k 0
    later k below =
        let first : m < slice_index (m ∷ ms) 1 = ascending 0 (omega arith) in
        let rest = ascending_le (m ∷ ms) ascending 1 (suc k) (omega arith) (omega arith) in
        omega (arith, first, rest)

    cases : (t : Bool) → nat_le p m ≡ t → ArePlaces (n - p) (lost p ms) → ArePlaces (n - p) (cond t ((m - p) ∷ lost p ms) (lost p ms))
    cases true at rest =
        let above = leb-true p m at in
        let below = in_range 0 (omega arith) in
        (omega (arith, above, below), lost-differs p m ms above later, rest)
    cases false at rest = rest

-- ---- the sum of two rows
weighted_sum-xor : (c : ℕ) (news wholes : List ℕ) → length news ≡ length wholes
    → weighted_sum c (zip2 bit_xor news wholes) ≡ bit_xor (weighted_sum c news) (weighted_sum c wholes)
unfolding weighted_sum
weighted_sum-xor c [] [] same = refl
weighted_sum-xor c [] (b ∷ wholes) same = absurd (omega arith)
weighted_sum-xor c (a ∷ news) [] same = absurd (omega arith)
weighted_sum-xor c (a ∷ news) (b ∷ wholes) same =
    let long : length news ≡ length wholes = omega arith in
    let p = field_power c (length news) in
    ap₂ bit_xor
    (ap (λ n. field_product (field_power c n) (bit_xor a b)) (length-zip2 bit_xor news wholes long) ∙ (field_product-right p).sum a b)
    (weighted_sum-xor c news wholes long)
    ∙ xor_swap (field_product p a) (field_product p b) (weighted_sum c news) (weighted_sum c wholes)
    ∙ ap (λ n. bit_xor (bit_xor (field_product p a) (weighted_sum c news)) (bit_xor (field_product (field_power c n) b) (weighted_sum c wholes))) long

pub same_columns : (xs ys : List (List ℕ)) → length xs ≡ length ys → ((i : ℕ) → i < length xs → column_at xs i ≡ column_at ys i) → xs ≡ ys
same_columns [] [] same each = refl
same_columns [] (y ∷ ys) same each = absurd (omega arith)
same_columns (x ∷ xs) [] same each = absurd (omega arith)
same_columns (x ∷ xs) (y ∷ ys) same each =
    ap₂ (λ c cs. c ∷ cs) (each 0 (omega arith)) (same_columns xs ys (omega arith) (λ i below. each (suc i) (omega arith)))

-- ---- a solved stripe, and other columns that solve for the missing ones
pub record AreBoth (parity len : ℕ) (missing : List ℕ) (old new whole : List (List ℕ)) : Type 0 where
  pub kind : parity ≤ 3
  pub some : parity ≤ length old
  pub few : length old ≤ parity + 255
  pub new_count : length new ≡ length old
  pub whole_count : length whole ≡ length old
  pub new_columns : AreColumns len new
  pub whole_columns : AreColumns len whole
  pub new_bytes : (i j : ℕ) → Contains missing i → parity ≤ i → IsByte (slice_index (column_at new i) j)
  pub whole_bytes : (i j : ℕ) → Contains missing i → parity ≤ i → IsByte (slice_index (column_at whole i) j)
  pub ascending : IsStrictlyIncreasing missing
  pub in_range : (n : ℕ) → n < length missing → slice_index missing n < length old
  pub solves : SolvesColumns parity missing old new
  pub chosen : ChosenSums parity missing new
  pub whole_solves : SolvesColumns parity missing old whole

-- the data bytes of a row are the same
data_same : (parity len : ℕ) (missing : List ℕ) (old new whole : List (List ℕ)) → AreBoth parity len missing old new whole → (j : ℕ) → j < len
    → (i : ℕ) → get_or (byte_row j (drop parity new)) i 0 ≡ get_or (byte_row j (drop parity whole)) i 0
data_same parity len missing old new whole b j j_below i =
    same_from_xor (get_or news i 0) (get_or wholes i 0)
    (sym (at i) ∙ vanish b.chosen.first b.chosen.step (lost parity missing) ds b.chosen.steps.0 b.chosen.steps.1 vanishes i)
  where
    news : List ℕ
    news = byte_row j (drop parity new)

    wholes : List ℕ
    wholes = byte_row j (drop parity whole)

    ds : List ℕ
    ds = zip2 bit_xor news wholes

    same : length news ≡ length wholes
    same = data_row-length j parity new ∙ ap (λ n. n - parity) (b.new_count ∙ sym b.whole_count) ∙ sym (data_row-length j parity whole)

    at : (i : ℕ) → get_or ds i 0 ≡ bit_xor (get_or news i 0) (get_or wholes i 0)
    at i = zip2_at bit_xor refl news wholes same i

    long : length ds ≡ length old - parity
    long = length-zip2 bit_xor news wholes same ∙ data_row-length j parity new ∙ ap (λ n. n - parity) b.new_count

    other : (i : ℕ) → (Contains missing (parity + i) → ⊥) → get_or ds i 0 ≡ 0
    other i absent =
        at i
        ∙ xor_none (get_or news i 0) (get_or wholes i 0)
        (data_row-at j parity new i
        ∙ ap (λ c. slice_index c j) (b.solves.stays (parity + i) absent ∙ sym (b.whole_solves.stays (parity + i) absent))
        ∙ sym (data_row-at j parity whole i))

    byte : (i : ℕ) → IsByte (get_or ds i 0)
    byte i = cases (is_missing missing (parity + i)) refl
      where
        cases : (t : Bool) → is_missing missing (parity + i) ≡ t → IsByte (get_or ds i 0)
        cases true is =
            subst IsByte (sym (at i))
            (xor_of_8 (get_or news i 0) (get_or wholes i 0)
            (subst IsByte (sym (data_row-at j parity new i)) (b.new_bytes (parity + i) j (contains-from_test missing (parity + i) is) (omega arith)))
            (subst IsByte (sym (data_row-at j parity whole i)) (b.whole_bytes (parity + i) j (contains-from_test missing (parity + i) is) (omega arith))))
        cases false is =
            subst IsByte (sym (other i (λ there. (let yes = test-from_contains missing (parity + i) there in cc)))) (omega arith)

    elsewhere : (i : ℕ) → Differs i (lost parity missing) → get_or ds i 0 ≡ 0
    elsewhere i apart = other i absent
      where
        absent : Contains missing (parity + i) → ⊥
        absent there = let yes = test-from_contains missing (parity + i) there in let no = lost-absent parity i missing apart in cc

    sum : (k : ℕ) → IsChosen parity missing k → weighted_sum (field_power 2 k) ds ≡ 0
    sum k is =
        let kind : k < 3 = (let below = is.in_range in let most = b.kind in omega (arith, below, most)) in
        ap (λ c. weighted_sum c ds) (sym (generators k kind))
        ∙ weighted_sum-xor (2 ^ k) news wholes same
        ∙ xor_none (weighted_sum (2 ^ k) news) (weighted_sum (2 ^ k) wholes)
        (sym (b.chosen.sums k is j)
        ∙ ap (λ c. slice_index c j) (b.solves.stays k is.present ∙ sym (b.whole_solves.stays k is.present))
        ∙ b.whole_solves.solved k is j)

    vanishes : Vanishes b.chosen.first b.chosen.step (lost parity missing) ds
    vanishes = record {
      few = (let few = b.few in omega (arith, long, few));
      bytes = byte;
      places = subst (λ n. ArePlaces n (lost parity missing)) (sym long) (lost-places parity (length old) missing b.ascending b.in_range);
      elsewhere = elsewhere;
      sums = λ t below. sum (b.chosen.first + b.chosen.step * t) (b.chosen.chosen t (let many = lost-length parity missing in omega (arith, below, many)));
    }

column_same : (parity len : ℕ) (missing : List ℕ) (old new whole : List (List ℕ)) → AreBoth parity len missing old new whole → (j : ℕ) → j < len
    → (i : ℕ) → slice_index (column_at new i) j ≡ slice_index (column_at whole i) j
column_same parity len missing old new whole b j j_below i = cases (cases_lt i parity)
  where
    news : List ℕ
    news = byte_row j (drop parity new)

    wholes : List ℕ
    wholes = byte_row j (drop parity whole)

    rows : news ≡ wholes
    rows =
        same_number_lists news wholes
        (data_row-length j parity new ∙ ap (λ n. n - parity) (b.new_count ∙ sym b.whole_count) ∙ sym (data_row-length j parity whole))
        (λ n below. data_same parity len missing old new whole b j j_below n)

    parity_column : i < parity → (t : Bool) → is_missing missing i ≡ t → slice_index (column_at new i) j ≡ slice_index (column_at whole i) j
    parity_column below true is =
        b.solves.encoded i below (contains-from_test missing i is) j
        ∙ ap (parity_sum i) rows
        ∙ sym (b.whole_solves.encoded i below (contains-from_test missing i is) j)
    parity_column below false is =
        let absent : Contains missing i → ⊥ = λ there. (let yes = test-from_contains missing i there in cc) in
        ap (λ c. slice_index c j) (b.solves.stays i absent ∙ sym (b.whole_solves.stays i absent))

    cases : (i < parity) ⊎ (parity ≤ i) → slice_index (column_at new i) j ≡ slice_index (column_at whole i) j
    cases (inl below) = parity_column below (is_missing missing i) refl
    cases (inr above) =
        let turn : parity + (i - parity) ≡ i = omega arith in
        ap (λ n. slice_index (column_at new n) j) (sym turn)
        ∙ sym (data_row-at j parity new (i - parity))
        ∙ data_same parity len missing old new whole b j j_below (i - parity)
        ∙ data_row-at j parity whole (i - parity)
        ∙ ap (λ n. slice_index (column_at whole n) j) turn

pub one_solution : (parity len : ℕ) (missing : List ℕ) (old new whole : List (List ℕ)) → AreBoth parity len missing old new whole → new ≡ whole
one_solution parity len missing old new whole b =
    same_columns new whole (b.new_count ∙ sym b.whole_count)
    (λ i below.
    (let first = b.new_columns i below in
    let counted = b.new_count in
    let whole_counted = b.whole_count in
    let second = b.whole_columns i (omega (arith, below, counted, whole_counted)) in
    same_number_lists (column_at new i) (column_at whole i) (first ∙ sym second)
    (λ j j_below. (let short = first in column_same parity len missing old new whole b j (omega (arith, j_below, short)) i))))
