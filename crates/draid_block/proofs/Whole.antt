-- The columns as they were read, where none is absent.
use Rattle.std.proofs.Common.{◌≡◌, ℕ, suc, ◌+◌, ◌<◌, ◌==◌, Bool, true, false, List, [], ◌∷◌, length, get_or, arith, refl, sym, ◌∙◌, ap, ap₂, subst, Option, Some, None, Vec, Global}
use Rattle.std.specs.Prelude.{All, Contains, slice_get, option_map, unwrap_or}
use Rattle.std.proofs.lemmas.Bool.{eqb-true, eqb-false}
use Rattle.std.proofs.lemmas.List.{length-map}
use Rattle.std.proofs.lemmas.List.Elements.{All-nil, All-cons}
use Rattle.std.proofs.lemmas.Option.{slice_get-get_or}
use Rattle.sha2.specs.Sha256.{sha256}
use Rattle.draid_spec.specs.declared.layout.Geometry.{Geometry}
use Rattle.draid_spec.specs.Geometry.{IsGeometry}
use Rattle.draid_parity.specs.Columns.{IsStripe, IsChosen, column_at, present_below}
use Rattle.draid_block.specs.Columns.{Cut}
use Rattle.draid_block.specs.Blocks.{cut_of, column_len, stripe_of, bytes_of}
use Rattle.draid_block.specs.Order.{covering, sets_below, sets_from}
use Rattle.draid_block.specs.Solving.{IsFetched, IsRestored, IsFirst, GivesOf, FailsOf, absent_columns, read_of}
use Rattle.draid_block.specs.Search.{first_sets}
use Rattle.draid_block.specs.declared.solve.Fetched.{Fetched}
use Rattle.draid_block.proofs.Held.{absent_contains, read_at}

abbrev Columns : Type 0
Columns = List (Option (Vec ℕ Global))

-- ---- the set without members
pub one_set : (absent : List ℕ) (n : ℕ) → absent ≡ [] → covering absent (sets_below 1 n) ≡ [] ∷ []
unfolding sets_below sets_from
one_set absent n is = rw is refl

pub no_set : (absent : List ℕ) (n : ℕ) → 0 < length absent → covering absent (sets_below 1 n) ≡ []
unfolding sets_below sets_from
no_set [] n some = absurd (omega arith)
no_set (x ∷ absent) n some = refl

pub empty_is : (xs : List ℕ) (b : Bool) → b ≡ (length xs == 0) → b ≡ true → xs ≡ []
empty_is [] b is full = refl
empty_is (x ∷ xs) b is full = absurd (let same = eqb-true (length (x ∷ xs)) 0 (sym is ∙ full) in omega (arith, same))

pub some_is : (xs : List ℕ) (b : Bool) → b ≡ (length xs == 0) → b ≡ false → 0 < length xs
some_is xs b is short = (let differs = eqb-false (length xs) 0 (sym is ∙ short) in omega (arith, differs))

-- ---- each column was read
there : (columns : Columns) (i : ℕ) → absent_columns columns ≡ [] → i < length columns → (c : Vec ℕ Global) × (slice_get columns i ≡ Some (Some c))
there columns i none below = at (get_or columns i None) refl
  where
    at : (x : Option (Vec ℕ Global)) → get_or columns i None ≡ x → (c : Vec ℕ Global) × (slice_get columns i ≡ Some (Some c))
    at None is =
        let found : Contains [] i = subst (λ (l : List ℕ). Contains l i) none (absent_contains columns (length columns) i below is) in
        absurd (let many = found.1 in omega (arith, many))
    at (Some c) is = (c, slice_get-get_or columns i None below ∙ ap Some is)

pub read_long : (cut : Cut) (fetched : Fetched) → IsFetched cut fetched → absent_columns fetched.columns.items ≡ [] → (i : ℕ) → i < length fetched.columns.items
    → length (column_at (read_of fetched.columns.items) i) ≡ column_len cut fetched.pointer.len
read_long cut fetched f none i below =
    let at = there fetched.columns.items i none below in
    ap length (read_at fetched.columns.items i at.0 at.1) ∙ f.long i at.0 at.1

pub same_columns : (xs ys : List (List ℕ)) → length xs ≡ length ys → ((i : ℕ) → column_at xs i ≡ column_at ys i) → xs ≡ ys
same_columns [] [] same each = refl
same_columns [] (y ∷ ys) same each = absurd (omega arith)
same_columns (x ∷ xs) [] same each = absurd (omega arith)
same_columns (x ∷ xs) (y ∷ ys) same each = ap₂ (λ c cs. c ∷ cs) (each 0) (same_columns xs ys (omega arith) (λ i. each (suc i)))

pub length-read : (columns : Columns) → length (read_of columns) ≡ length columns
length-read columns = length-map columns (λ (column : Option (Vec ℕ Global)). unwrap_or (option_map (λ (v : Vec ℕ Global). v.items) column) [])

pub read_stripe : (geometry : Geometry) (fetched : Fetched) → IsGeometry geometry → IsFetched (cut_of geometry) fetched → absent_columns fetched.columns.items ≡ []
    → IsStripe (stripe_of (cut_of geometry) fetched.pointer.len (read_of fetched.columns.items))
read_stripe geometry fetched g f none =
    let count = f.count in
    let wide = g.width in
    let columns = g.columns in
    let disks = g.disks in
    let children = g.spec.most_children in
    record {
      some_parity = g.spec.some_parity;
      parity_range = g.spec.most_parity;
      some_data = g.spec.some_data;
      data_range = omega arith;
      count = length-read fetched.columns.items ∙ count;
      columns = λ i below. read_long (cut_of geometry) fetched f none i (omega arith);
    }

none_chosen : (parity k : ℕ) → IsChosen parity [] k → ⊥
unfolding present_below
none_chosen parity k is = (let low = is.lowest in omega (arith, low))

no_member : (i : ℕ) → Contains [] i → ⊥
no_member i found = (let many = found.1 in omega (arith, many))

pub read_restored : (geometry : Geometry) (fetched : Fetched) → IsGeometry geometry → IsFetched (cut_of geometry) fetched → absent_columns fetched.columns.items ≡ []
    → IsRestored (cut_of geometry) fetched.pointer.len (read_of fetched.columns.items) [] (read_of fetched.columns.items)
read_restored geometry fetched g f none = record {
  solution = record {
    stripe = read_stripe geometry fetched g f none;
    bytes = λ i j found. absurd (no_member i found);
    solves = record {
      stays = λ i out. refl;
      solved = λ k is. absurd (none_chosen geometry.spec.parity k is);
      encoded = λ k below found. absurd (no_member k found);
    };
  };
  only = λ other given.
      (let many = given.stripe.count in
      let read = length-read fetched.columns.items in
      let count = f.count in
      same_columns (read_of fetched.columns.items) other (omega (arith, many, read, count)) (λ i. sym (given.solves.stays i (no_member i))));
}

-- ---- what trying them answers
pub read_fails : (geometry : Geometry) (fetched : Fetched) (absent : List ℕ) → IsGeometry geometry → IsFetched (cut_of geometry) fetched
    → absent ≡ absent_columns fetched.columns.items → absent ≡ []
    → (sha256 (bytes_of (cut_of geometry) fetched.pointer.len (read_of fetched.columns.items)) ≡ fetched.pointer.digest → ⊥)
    → All (FailsOf (cut_of geometry) fetched) (first_sets (cut_of geometry) fetched)
read_fails geometry fetched absent g f is none differs =
    let nothing : absent_columns fetched.columns.items ≡ [] = sym is ∙ none in
    subst (λ (sets : List (List ℕ)). All (FailsOf (cut_of geometry) fetched) sets) (sym (one_set (absent_columns fetched.columns.items) (geometry.spec.parity + geometry.spec.ndata) nothing))
    (All-cons (FailsOf (cut_of geometry) fetched) [] [] (read_of fetched.columns.items, read_restored geometry fetched g f nothing, differs) (All-nil (FailsOf (cut_of geometry) fetched)))

pub not_read : (geometry : Geometry) (fetched : Fetched) (absent : List ℕ) → absent ≡ absent_columns fetched.columns.items → 0 < length absent
    → All (FailsOf (cut_of geometry) fetched) (first_sets (cut_of geometry) fetched)
not_read geometry fetched absent is some =
    subst (λ (sets : List (List ℕ)). All (FailsOf (cut_of geometry) fetched) sets)
    (sym (no_set (absent_columns fetched.columns.items) (geometry.spec.parity + geometry.spec.ndata) (subst (λ (l : List ℕ). 0 < length l) is some)))
    (All-nil (FailsOf (cut_of geometry) fetched))

pub read_gives : (geometry : Geometry) (fetched : Fetched) (absent bytes : List ℕ) → IsGeometry geometry → IsFetched (cut_of geometry) fetched
    → absent ≡ absent_columns fetched.columns.items → absent ≡ []
    → bytes ≡ bytes_of (cut_of geometry) fetched.pointer.len (read_of fetched.columns.items) → sha256 bytes ≡ fetched.pointer.digest
    → IsFirst (GivesOf (cut_of geometry) fetched bytes) (FailsOf (cut_of geometry) fetched) (first_sets (cut_of geometry) fetched)
read_gives geometry fetched absent bytes g f is none b d =
    let nothing : absent_columns fetched.columns.items ≡ [] = sym is ∙ none in
    record {
      before = [];
      set = [];
      after = [];
      order = one_set (absent_columns fetched.columns.items) (geometry.spec.parity + geometry.spec.ndata) nothing;
      failed = All-nil (FailsOf (cut_of geometry) fetched);
      given = (read_of fetched.columns.items, read_restored geometry fetched g f nothing, b, d);
    }

pub first_count : (geometry : Geometry) (fetched : Fetched) (absent : List ℕ) (b : Bool) (tried : ℕ) → absent ≡ absent_columns fetched.columns.items → b ≡ (length absent == 0)
    → (b ≡ true → tried ≡ 1) → (b ≡ false → tried ≡ 0) → tried ≡ length (first_sets (cut_of geometry) fetched)
first_count geometry fetched absent true tried is e one nought =
    one refl ∙ sym (ap length (one_set (absent_columns fetched.columns.items) (geometry.spec.parity + geometry.spec.ndata) (sym is ∙ empty_is absent true e refl)))
first_count geometry fetched absent false tried is e one nought =
    nought refl
    ∙ sym (ap length (no_set (absent_columns fetched.columns.items) (geometry.spec.parity + geometry.spec.ndata) (subst (λ (l : List ℕ). 0 < length l) is (some_is absent false e refl))))
