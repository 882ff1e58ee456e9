-- The stripe in which sets of missing columns are tried, and what was read.
use Rattle.std.proofs.Common.{◌≡◌, ℕ, zero, suc, ◌+◌, ◌<◌, ◌≤◌, ◌≢◌, Bool, true, false, List, [], ◌∷◌, ◌++◌, length, drop, get_or, set, arith, refl, sym, ◌∙◌, ap, ap₂, subst, replicate, inl, inr, add-one, Option, Some, None, Vec, Global, length-drop, drop-cons}
use Rattle.std.specs.Prelude.{Contains, is_none, is_some, not, slice_get, option_map, unwrap_or}
use Rattle.std.proofs.Math.Seq.{take-append_seam}
use Rattle.std.proofs.lemmas.Bool.{cases_lt}
use Rattle.std.proofs.lemmas.List.{length-map, length-replicate, append-nil, get_or-map, get_or-set_same, get_or_past}
use Rattle.std.proofs.lemmas.List.Elements.{Contains-append_left, Contains-push}
use Rattle.std.proofs.lemmas.Option.{slice_get-get_or, slice_get_within, get_or_from_slice_get}
use Rattle.draid_parity.specs.Columns.{StripeValue, IsSolution, column_at, written, zero_stripe}
use Rattle.draid_block.specs.Columns.{Cut}
use Rattle.draid_block.specs.Blocks.{column_len, stripe_of}
use Rattle.draid_block.specs.Solving.{IsFetched, IsRestored, absent_below, read_of}
use Rattle.draid_block.specs.Search.{IsHeld, HoldsAll, IsCandidate}
use Rattle.draid_block.specs.declared.solve.Fetched.{Fetched}

abbrev Columns : Type 0
Columns = List (Option (Vec ℕ Global))

-- ---- the absent columns
pub absent_none : (columns : Columns) → absent_below columns 0 ≡ []
unfolding absent_below
absent_none columns = refl

pub none_is : (x : Option (Vec ℕ Global)) (r : Bool) → is_some x ≡ not r → is_none x ≡ r
none_is None true h = refl
none_is None false h = absurd cc
none_is (Some c) true h = absurd cc
none_is (Some c) false h = refl

pub absent_more : (columns : Columns) (i : ℕ) (x : Option (Vec ℕ Global)) → i < length columns → x ≡ get_or columns i x → is_none x ≡ true
    → absent_below columns (i + 1) ≡ absent_below columns i ++ i ∷ []
unfolding absent_below
absent_more columns i x below at is =
    let e : get_or columns i None ≡ x = get_or_from_slice_get columns i x None (slice_get-get_or columns i x below ∙ ap Some (sym at)) in
    rw (add-one, e, is) refl

pub present_more : (columns : Columns) (i : ℕ) (x : Option (Vec ℕ Global)) → i < length columns → x ≡ get_or columns i x → is_none x ≡ false
    → absent_below columns (i + 1) ≡ absent_below columns i
unfolding absent_below
present_more columns i x below at is =
    let e : get_or columns i None ≡ x = get_or_from_slice_get columns i x None (slice_get-get_or columns i x below ∙ ap Some (sym at)) in
    rw (add-one, e, is) (append-nil (absent_below columns i))

pub absent_contains : (columns : Columns) (n i : ℕ) → i < n → get_or columns i None ≡ None → Contains (absent_below columns n) i
unfolding absent_below
absent_contains columns zero i below is = absurd (omega arith)
absent_contains columns (suc n) i below is = elim (cases_lt i n) [
  | inl lt ↦ Contains-append_left (absent_below columns n) _ i (absent_contains columns n i lt is)
  | inr ge ↦ let e : n ≡ i = omega arith in rw (e, is) (Contains-push (absent_below columns i) i)
]

-- ---- the stripe keeps what was read
pub shape_kept : (cut : Cut) (len : ℕ) (s new : StripeValue) → s ≡ stripe_of cut len s.columns → new ≡ record s { columns = new.columns } → new ≡ stripe_of cut len new.columns
shape_kept cut len s new h n = n ∙ ap (λ (t : StripeValue). record t { columns = new.columns }) h

contains_rest : (x : ℕ) (xs : List ℕ) (i : ℕ) → (x ≡ i → ⊥) → Contains (x ∷ xs) i → Contains xs i
contains_rest x xs i differs found = at found.0 found.1 found.2
  where
    at : (k : ℕ) → k < length (x ∷ xs) → get_or (x ∷ xs) k i ≡ i → Contains xs i
    at zero below is = absurd (differs is)
    at (suc k) below is = (k, omega arith, is)

pub held_more : (cut : Cut) (len : ℕ) (columns : Columns) (set : List ℕ) (n x : ℕ) (s new : StripeValue) → n < length set → x ≡ get_or set n 0
    → IsHeld cut len columns (λ k. Contains (drop n set) k) s
    → new ≡ record s { columns = new.columns } → length new.columns ≡ length s.columns
    → ((c : Vec ℕ Global) → slice_get columns x ≡ Some (Some c) → column_at new.columns x ≡ c.items)
    → ((k : ℕ) → k ≢ x → column_at new.columns k ≡ column_at s.columns k)
    → IsHeld cut len columns (λ k. Contains (drop (n + 1) set) k) new
held_more cut len columns set n x s new below at h shape count put others = record {
  shape = shape_kept cut len s new h.shape shape;
  count = count ∙ h.count;
  held = held;
} where
  split : drop n set ≡ x ∷ drop (n + 1) set
  split = drop-cons set n 0 below ∙ rw (add-one, at) refl

  other : (i : ℕ) (c : Vec ℕ Global) → slice_get columns i ≡ Some (Some c) → (Contains (drop (n + 1) set) i → ⊥) → (i ≡ x → ⊥) → column_at new.columns i ≡ c.items
  other i c there out differs =
      others i differs
      ∙ h.held i c there (λ found. out (contains_rest x (drop (n + 1) set) i (λ same. differs (sym same)) (subst (λ (l : List ℕ). Contains l i) split found)))

  held : (i : ℕ) (c : Vec ℕ Global) → slice_get columns i ≡ Some (Some c) → (Contains (drop (n + 1) set) i → ⊥) → column_at new.columns i ≡ c.items
  held i c there out = elim (cases_lt i x) [
    | inl lt ↦ other i c there out (λ same. omega arith)
    | inr ge ↦ elim (cases_lt x i) [
      | inl lt ↦ other i c there out (λ same. omega arith)
      | inr le ↦
          let e : x ≡ i = omega arith in
          subst (λ (k : ℕ). column_at new.columns k ≡ c.items) e (put c (rw e there))
    ]
  ]

pub held_all : (cut : Cut) (fetched : Fetched) (set : List ℕ) (n : ℕ) (s : StripeValue) → length set ≤ n
    → IsHeld cut fetched.pointer.len fetched.columns.items (λ k. Contains (drop n set) k) s → HoldsAll cut fetched s
held_all cut fetched set n s past h = record {
  shape = h.shape;
  count = h.count;
  held = λ i c there out. h.held i c there (λ found. (let many = found.1 in omega (arith, many, length-drop n set)));
}

-- ---- what a set restores
pub read_at : (columns : Columns) (i : ℕ) (c : Vec ℕ Global) → slice_get columns i ≡ Some (Some c) → column_at (read_of columns) i ≡ c.items
read_at columns i c there =
    let below : i < length columns = slice_get_within columns i (Some c) there in
    get_or-map (λ (column : Option (Vec ℕ Global)). unwrap_or (option_map (λ (v : Vec ℕ Global). v.items) column) []) columns i None [] below
    ∙ rw (get_or_from_slice_get columns i (Some c) None there) refl

same_read : (cut : Cut) (fetched : Fetched) (set : List ℕ) (s : StripeValue) → IsFetched cut fetched → HoldsAll cut fetched s → IsCandidate cut fetched set
    → (i : ℕ) → (Contains set i → ⊥) → column_at s.columns i ≡ column_at (read_of fetched.columns.items) i
same_read cut fetched set s f h candidate i out = elim (cases_lt i (length fetched.columns.items)) [ inl lt ↦ within (get_or fetched.columns.items i None) lt refl | inr ge ↦ past ge ] where
  within : (x : Option (Vec ℕ Global)) → i < length fetched.columns.items → get_or fetched.columns.items i None ≡ x → column_at s.columns i ≡ column_at (read_of fetched.columns.items) i
  within None lt is = absurd (out (candidate.absent i (absent_contains fetched.columns.items (length fetched.columns.items) i lt is)))
  within (Some c) lt is =
      let there : slice_get fetched.columns.items i ≡ Some (Some c) = slice_get-get_or fetched.columns.items i None lt ∙ ap Some is in
      h.held i c there (λ no. no) ∙ sym (read_at fetched.columns.items i c there)

  past : length fetched.columns.items ≤ i → column_at s.columns i ≡ column_at (read_of fetched.columns.items) i
  past ge =
      let count = h.count in
      let read = f.count in
      get_or_past s.columns i [] (omega arith) ∙ sym (get_or_past (read_of fetched.columns.items) i [] (omega (arith, length-map {A = Option (Vec ℕ Global)} {B = List ℕ})))

-- columns that solve from what stands in one stripe solve from another that differs in the missing columns alone
other_start : (cut : Cut) (len : ℕ) (set : List ℕ) (from to new : List (List ℕ)) → ((i : ℕ) → (Contains set i → ⊥) → column_at from i ≡ column_at to i)
    → IsSolution set (stripe_of cut len from) new → IsSolution set (stripe_of cut len to) new
other_start cut len set from to new same given = record {
  stripe = given.stripe;
  bytes = given.bytes;
  solves = record {
    stays = λ i out. given.solves.stays i out ∙ same i out;
    solved = given.solves.solved;
    encoded = given.solves.encoded;
  };
}

pub restored : (cut : Cut) (fetched : Fetched) (set : List ℕ) (s new : StripeValue) → IsFetched cut fetched → HoldsAll cut fetched s → IsCandidate cut fetched set
    → IsSolution set s new.columns → ((other : List (List ℕ)) → IsSolution set s other → new.columns ≡ other)
    → IsRestored cut fetched.pointer.len (read_of fetched.columns.items) set new.columns
restored cut fetched set s new f h candidate solution only =
    let read : List (List ℕ) = read_of fetched.columns.items in
    let same = same_read cut fetched set s f h candidate in
    record {
      solution = other_start cut fetched.pointer.len set s.columns read new.columns same
          (subst (λ (t : StripeValue). IsSolution set t new.columns) h.shape solution);
      only = λ other given. only other
          (subst (λ (t : StripeValue). IsSolution set t other) (sym h.shape)
          (other_start cut fetched.pointer.len set read s.columns other (λ i out. sym (same i out)) given));
    }

-- ---- what a stripe that holds columns is like
pub held_count : (cut : Cut) (len : ℕ) (columns : Columns) (except : ℕ → Type 0) (s : StripeValue) → IsHeld cut len columns except s → length s.columns ≡ s.parity + s.ndata
held_count cut len columns except s h = h.count ∙ ap (λ (t : StripeValue). t.parity + t.ndata) (sym h.shape)

pub held_range : (cut : Cut) (len : ℕ) (columns : Columns) (except : ℕ → Type 0) (s : StripeValue) (i : ℕ) → IsHeld cut len columns except s → i < cut.parity + cut.ndata → i < s.parity + s.ndata
held_range cut len columns except s i h below =
    let parity = ap (λ (t : StripeValue). t.parity) h.shape in
    let ndata = ap (λ (t : StripeValue). t.ndata) h.shape in
    omega (arith, parity, ndata, below)

pub held_long : (cut : Cut) (fetched : Fetched) (except : ℕ → Type 0) (s : StripeValue) (i : ℕ) (c : Vec ℕ Global) → IsFetched cut fetched → IsHeld cut fetched.pointer.len fetched.columns.items except s
    → slice_get fetched.columns.items i ≡ Some (Some c) → length c.items ≡ s.len
held_long cut fetched except s i c f h there = f.long i c there ∙ ap (λ (t : StripeValue). t.len) (sym h.shape)

-- before any column is put into a stripe
pub held_none : (cut : Cut) (len n : ℕ) (columns : Columns) (s : StripeValue) → s ≡ zero_stripe cut.parity cut.ndata n → n ≡ column_len cut len → IsHeld cut len columns (λ k. 0 ≤ k) s
held_none cut len n columns s is long = record {
  shape = is ∙ ap₂ (λ (m : ℕ) (cs : List (List ℕ)). record (zero_stripe cut.parity cut.ndata m) { columns = cs }) long (sym (ap (λ (t : StripeValue). t.columns) is));
  count = ap (λ (t : StripeValue). length t.columns) is ∙ length-replicate (cut.parity + cut.ndata) (replicate n 0);
  held = λ i c there out. absurd (out (omega arith));
}

-- after one column more
pub held_next : (cut : Cut) (len : ℕ) (columns : Columns) (n : ℕ) (s new : StripeValue) → IsHeld cut len columns (λ k. n ≤ k) s
    → new ≡ record s { columns = new.columns } → length new.columns ≡ length s.columns
    → ((c : Vec ℕ Global) → slice_get columns n ≡ Some (Some c) → column_at new.columns n ≡ c.items)
    → ((k : ℕ) → k ≢ n → column_at new.columns k ≡ column_at s.columns k)
    → IsHeld cut len columns (λ k. n + 1 ≤ k) new
held_next cut len columns n s new h shape count put others = record {
  shape = shape_kept cut len s new h.shape shape;
  count = count ∙ h.count;
  held = held;
} where
  held : (i : ℕ) (c : Vec ℕ Global) → slice_get columns i ≡ Some (Some c) → (n + 1 ≤ i → ⊥) → column_at new.columns i ≡ c.items
  held i c there out = elim (cases_lt i n) [
    | inl lt ↦ others i (λ same. omega arith) ∙ h.held i c there (λ past. omega arith)
    | inr ge ↦ elim (cases_lt n i) [
      | inl lt ↦ absurd (out (omega arith))
      | inr le ↦
          let e : n ≡ i = omega arith in
          subst (λ (k : ℕ). column_at new.columns k ≡ c.items) e (put c (rw e there))
    ]
  ]

pub held_last : (cut : Cut) (fetched : Fetched) (n : ℕ) (s : StripeValue) → IsFetched cut fetched → cut.parity + cut.ndata ≤ n
    → IsHeld cut fetched.pointer.len fetched.columns.items (λ k. n ≤ k) s → HoldsAll cut fetched s
held_last cut fetched n s f past h = record {
  shape = h.shape;
  count = h.count;
  held = λ i c there out. h.held i c there (λ ge. (let within = slice_get_within fetched.columns.items i (Some c) there in let count = f.count in omega (arith, within, count, past, ge)));
}

-- a stripe that was solved has what stood in the columns that weren't missing
pub held_solved : (cut : Cut) (fetched : Fetched) (set : List ℕ) (s new : StripeValue) → HoldsAll cut fetched s → new ≡ record s { columns = new.columns } → IsSolution set s new.columns
    → IsHeld cut fetched.pointer.len fetched.columns.items (λ k. Contains set k) new
held_solved cut fetched set s new h shape solution = record {
  shape = shape_kept cut fetched.pointer.len s new h.shape shape;
  count = solution.stripe.count ∙ ap (λ (t : StripeValue). t.parity + t.ndata) h.shape;
  held = λ i c there out. solution.solves.stays i out ∙ h.held i c there (λ no. no);
}

-- ---- one column is written
pub put_held : (columns : Columns) (cs : List (List ℕ)) (i : ℕ) (column c : Vec ℕ Global) (bytes : List ℕ) → i < length cs → length bytes ≡ length (column_at cs i) → bytes ≡ column.items
    → slice_get columns i ≡ Some (Some column) → slice_get columns i ≡ Some (Some c) → column_at (set cs i (written (column_at cs i) bytes)) i ≡ c.items
put_held columns cs i column c bytes below long is there same =
    let e : column ≡ c = cc in
    get_or-set_same cs i (written (column_at cs i) bytes) [] below ∙ (rw (← long) (take-append_seam bytes _) ∙ (is ∙ ap (λ (v : Vec ℕ Global). v.items) e))
