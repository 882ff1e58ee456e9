-- One more arm of a block was read.
use Rattle.std.proofs.Common.{◌≡◌, ◌==◌, ◌+◌, ◌*◌, ◌<◌, ◌++◌, ◌∷◌, ◌||◌, ◌∙◌, [], ℕ, zero, suc, Bool, true, false, List, Option, None, Some, arith, refl, sym, ap, subst, inl, inr, length, option_map, slice_get, if◌then◌else◌}
use Rattle.std.specs.Prelude.{Vec, find, unwrap_or}
use Rattle.std.specs.Option.{option_or}
use Rattle.std.specs.declared.alloc.Global.{Global}
use Rattle.std.proofs.lemmas.Bool.{cases_eq}
use Rattle.draid_columns.specs.Columns.{RowsStand}
use Rattle.draid_machine.specs.Names.{has_number}
use Rattle.draid_machine.proofs.Small.{absurd_test, bool_cases, both_true, either_true, equal, is_equal, none_some, some_same, true_right}
use Rattle.draid_rack.specs.Rack.{OnTold, Told}
use Rattle.draid_shard.specs.declared.loan.Spot.{Spot}
use Rattle.draid_shard.proofs.Counts.{number_more}
use Rattle.draid_shard.specs.Spots.{AreLeavesApart, rows_for}
use Rattle.draid_shard.specs.Losing.{failed_if}
use Rattle.draid_restore.specs.Reading.{Columns, HasBuffer, IsRead, ReadsSpots, SetsColumn, column_if, is_clean_of, is_of, reading_of}

-- ---- what is found is there, and passes
pub found_there : (p : Spot → Bool) (xs : List Spot) (x : Spot) → find p xs ≡ Some x → (k : ℕ) × (slice_get xs k ≡ Some x) × (p x ≡ true)
found_there p [] x is = absurd (cc)
found_there p (y ∷ xs) x is = by (p y) refl is (found_there p xs x)
  where
    by : (b : Bool) → p y ≡ b → (if b then Some y else find p xs) ≡ Some x → (find p xs ≡ Some x → (k : ℕ) × (slice_get xs k ≡ Some x) × (p x ≡ true)) → (k : ℕ) × (slice_get (y ∷ xs) k ≡ Some x) × (p x ≡ true)
    by true passes e later = (zero, e, subst (λ z. p z ≡ true) (some_same (Some y) y x refl e) passes)
    by false passes e later = let z = later e in (suc z.0, z.1, z.2)

-- the reading that counts is that of an arm of the column
pub reading_there : (spots : List Spot) (c : ℕ) (spot : Spot) → reading_of spots c ≡ Some spot → (k : ℕ) × (slice_get spots k ≡ Some spot) × (spot.column ≡ c)
reading_there spots c spot is = by (find (is_clean_of c) spots) refl is
  where
    by : (o : Option Spot) → find (is_clean_of c) spots ≡ o → option_or o (find (is_of c) spots) ≡ Some spot → (k : ℕ) × (slice_get spots k ≡ Some spot) × (spot.column ≡ c)
    by None none e = let z = found_there (is_of c) spots spot e in (z.0, z.1, is_equal spot.column c z.2)
    by (Some x) found e =
        let z = found_there (is_clean_of c) spots spot (found ∙ e) in
        (z.0, z.1, is_equal spot.column c (both_true (spot.column == c) spot.clean z.2).0)

pub sets_twice : (a b c : Columns) (n : ℕ) (x y : Option (Vec ℕ Global)) → SetsColumn a b n x → SetsColumn b c n y → SetsColumn a c n y
sets_twice a b c n x y first second = record { all = second.all ∙ first.all; here = second.here; others = λ k other. second.others k other ∙ first.others k other }

-- a buffer that was taken is as long
pub buffer_long : (len : ℕ) (column : Option (Option (Vec ℕ Global))) (result : Option (Vec ℕ Global)) (bytes : Vec ℕ Global) → HasBuffer len column → column ≡ Some result → result ≡ Some bytes → length bytes.items ≡ len
buffer_long len column result bytes z taken is =
    let same : Some z.0 ≡ Some bytes = some_same column (Some z.0) result z.1 taken ∙ is in
    ap (λ (v : Vec ℕ Global). length v.items) (some_same (Some bytes) bytes z.0 refl (sym same)) ∙ z.2

module _ (count size : ℕ) (spots : List Spot) (apart : AreLeavesApart spots) (told : Option Told) (n : ℕ) (spot : Spot) (there : slice_get spots n ≡ Some spot) (columns : Columns) (failed : List ℕ)
    (was : ReadsSpots count size spots n told columns failed) (done : Bool) where
  abbrev now : List ℕ
  now = failed_if done spot.leaf failed

  -- another arm lies on another leaf
  other_leaf : (k : ℕ) (other : Spot) → slice_get spots k ≡ Some other → (k ≡ n → ⊥) → (spot.leaf == other.leaf) ≡ false
  other_leaf k other at differs = elim (bool_cases (spot.leaf == other.leaf)) [
    | inl same ↦ absurd (differs (sym (apart n k spot other there at (is_equal spot.leaf other.leaf same))))
    | inr differs ↦ differs
  ]

  has_same : (leaf : ℕ) → (spot.leaf == leaf) ≡ false → has_number now leaf ≡ has_number failed leaf
  has_same leaf differs = by done
    where
      or_false : (b : Bool) → (b || false) ≡ b
      or_false true = refl
      or_false false = refl

      by : (b : Bool) → has_number (failed_if b spot.leaf failed) leaf ≡ has_number failed leaf
      by true = refl
      by false = number_more failed spot.leaf leaf ∙ ap (λ b. has_number failed leaf || b) differs ∙ or_false (has_number failed leaf)

  abbrev FailsUpto : ℕ → Type 0
  FailsUpto leaf = (k : ℕ) × (s : Spot) × (k < n + 1) × (slice_get spots k ≡ Some s) × (s.leaf ≡ leaf)

  fail_more : (leaf : ℕ) → has_number now leaf ≡ true → FailsUpto leaf
  fail_more leaf at = by done at
    where
      before : has_number failed leaf ≡ true → FailsUpto leaf
      before has = let z = was.fail leaf has in (z.0, z.1, (let less = z.2 in omega (arith, less)), z.3, z.4)

      by : (b : Bool) → has_number (failed_if b spot.leaf failed) leaf ≡ true → FailsUpto leaf
      by true has = before has
      by false has = elim (either_true (has_number failed leaf) (spot.leaf == leaf) (sym (number_more failed spot.leaf leaf) ∙ has)) [
        | inl earlier ↦ before earlier
        | inr same ↦ (n, spot, omega arith, there, is_equal spot.leaf leaf same)
      ]

  read_stays : (c k : ℕ) (other : Spot) → reading_of spots c ≡ Some other → slice_get spots k ≡ Some other → k < n → IsRead count size told now other (slice_get columns c)
  read_stays c k other reading at less =
      let z = was.read c k other reading at less in
      let same = has_same other.leaf (other_leaf k other at (λ e. absurd (omega (arith, e, less)))) in
      record { gone = λ has. z.gone (sym same ∙ has); stands = λ sound. z.stands (sym same ∙ sound) }

  -- ---- its reading doesn't count
  module _ (fails : unwrap_or (option_map (λ (other : Spot). other.leaf == spot.leaf) (reading_of spots spot.column)) false ≡ false) where
    not_own : (c k : ℕ) (other : Spot) → reading_of spots c ≡ Some other → slice_get spots k ≡ Some other → k ≡ n → ⊥
    not_own c k other reading at same =
        let is : other ≡ spot = some_same (slice_get spots n) other spot (ap (slice_get spots) (sym same) ∙ at) there in
        let column : spot.column ≡ c = ap (λ (s : Spot). s.column) (sym is) ∙ (reading_there spots c other reading).2 in
        let own : reading_of spots spot.column ≡ Some spot = ap (reading_of spots) column ∙ reading ∙ ap Some is in
        absurd_test (spot.leaf == spot.leaf) (equal spot.leaf spot.leaf refl) (sym (ap (λ o. unwrap_or (option_map (λ (other : Spot). other.leaf == spot.leaf) o) false) own) ∙ fails)

    pub reads_other : (new : List ℕ) → new ≡ now → ReadsSpots count size spots (n + 1) told columns new
    reads_other new is = subst (ReadsSpots count size spots (n + 1) told columns) (sym is) (record {
      silent = was.silent;
      read = λ c k other reading at less. read_stays c k other reading at (let differs = not_own c k other reading at in elim (cases_eq k n) [ inl same ↦ absurd (differs same) | inr apart ↦ omega (arith, less, apart) ]);
      rest = λ c k other reading at le. was.rest c k other reading at (omega (arith, le));
      fail = fail_more;
    })

  -- ---- it counts
  module _ (yes_is : unwrap_or (option_map (λ (other : Spot). other.leaf == spot.leaf) (reading_of spots spot.column)) false ≡ true) where
    pub own_reading : reading_of spots spot.column ≡ Some spot
    own_reading = by (reading_of spots spot.column) refl yes_is
      where
        by : (o : Option Spot) → reading_of spots spot.column ≡ o → unwrap_or (option_map (λ (other : Spot). other.leaf == spot.leaf) o) false ≡ true → reading_of spots spot.column ≡ Some spot
        by None is e = absurd_test false e refl
        by (Some other) is e =
            let z = reading_there spots spot.column other is in
            let place = apart z.0 n other spot z.1 there (is_equal other.leaf spot.leaf e) in
            is ∙ ap Some (some_same (slice_get spots n) other spot (ap (slice_get spots) (sym place) ∙ z.1) there)

    pub own_buffer : HasBuffer (count * size) (slice_get columns spot.column)
    own_buffer = was.rest spot.column n spot own_reading there (omega arith)

    -- its leaf didn't fail before
    fresh : has_number failed spot.leaf ≡ false
    fresh = elim (bool_cases (has_number failed spot.leaf)) [
      | inl has ↦ absurd (let z = was.fail spot.leaf has in let less = z.2 in let place = apart z.0 n z.1 spot z.3 there z.4 in omega (arith, less, place))
      | inr differs ↦ differs
    ]

    module _ (new : Columns) (bytes : Vec ℕ Global) (long : length bytes.items ≡ count * size) (sets : SetsColumn columns new spot.column (column_if done bytes))
        (stand : done ≡ true → OnTold told (λ x. RowsStand (rows_for count size spot) x.reads bytes.items count)) where
      other_column : (c k : ℕ) (other : Spot) → reading_of spots c ≡ Some other → slice_get spots k ≡ Some other → (k ≡ n → ⊥) → c ≡ spot.column → ⊥
      other_column c k other reading at differs same =
          let is : other ≡ spot = some_same (reading_of spots spot.column) other spot (ap (reading_of spots) (sym same) ∙ reading) own_reading in
          differs (apart k n other spot at there (ap (λ (s : Spot). s.leaf) is))

      own_read : IsRead count size told now spot (slice_get new spot.column)
      own_read = by done refl
        where
          by : (b : Bool) → done ≡ b → IsRead count size told now spot (slice_get new spot.column)
          by true is = record {
            gone = λ has. absurd_test (has_number failed spot.leaf) (sym (ap (λ b. has_number (failed_if b spot.leaf failed) spot.leaf) is) ∙ has) fresh;
            stands = λ sound. (bytes, sets.here ∙ ap (λ b. Some (column_if b bytes)) is, long, stand is);
          }
          by false is = record {
            gone = λ has. sets.here ∙ ap (λ b. Some (column_if b bytes)) is;
            stands = λ sound. absurd_test (has_number (failed ++ spot.leaf ∷ []) spot.leaf) (number_more failed spot.leaf spot.leaf ∙ true_right (has_number failed spot.leaf) (spot.leaf == spot.leaf) (equal spot.leaf spot.leaf refl))
                (sym (ap (λ b. has_number (failed_if b spot.leaf failed) spot.leaf) is) ∙ sound);
          }

      pub reads_own : (list : List ℕ) → list ≡ now → ReadsSpots count size spots (n + 1) told new list
      reads_own list is = subst (ReadsSpots count size spots (n + 1) told new) (sym is) (record {
        silent = λ c less none.
            let differs : c ≡ spot.column → ⊥ = λ same. none_some (reading_of spots spot.column) spot (ap (reading_of spots) (sym same) ∙ none) own_reading in
            sets.others c differs ∙ was.silent c (subst (λ m. c < m) sets.all less) none;
        read = λ c k other reading at less. elim (cases_eq k n) [
          | inl same ↦ (let own : other ≡ spot = some_same (slice_get spots n) other spot (ap (slice_get spots) (sym same) ∙ at) there in
              let column : spot.column ≡ c = ap (λ (s : Spot). s.column) (sym own) ∙ (reading_there spots c other reading).2 in
              subst (λ d. IsRead count size told now other (slice_get new d)) column (subst (λ s. IsRead count size told now s (slice_get new spot.column)) (sym own) own_read))
          | inr differs ↦ subst (IsRead count size told now other) (sym (sets.others c (other_column c k other reading at differs))) (read_stays c k other reading at (omega (arith, less, differs)))
        ];
        rest = λ c k other reading at le.
            let differs : k ≡ n → ⊥ = λ e. omega (arith, e, le) in
            subst (HasBuffer (count * size)) (sym (sets.others c (other_column c k other reading at differs))) (was.rest c k other reading at (omega (arith, le)));
        fail = fail_more;
      })
