-- The order of solving has each set that may be tried, and no other, in its place.
use Rattle.std.proofs.Common.{◌≡◌, ℕ, zero, suc, ◌+◌, ◌-◌, ◌<◌, ◌≤◌, Bool, true, false, List, [], ◌∷◌, ◌++◌, map, length, get_or, cond, arith, refl, ◌∙◌, ap, subst, inl, inr, length-append}
use Rattle.std.specs.Prelude.{All, Contains, filter, slice_index}
use Rattle.std.specs.List.{AllPairs}
use Rattle.std.specs.List.Sorted.{IsStrictlyIncreasing}
use Rattle.std.proofs.lemmas.Bool.{cases_lt}
use Rattle.std.proofs.lemmas.List.{length-map, get_or-map, get_or_append_left, get_or-append_right}
use Rattle.std.proofs.lemmas.List.Elements.{All-nil, All-cons, All-map, All-filter, All-append, All-weaker, All-contains, Contains-append_left, Contains-append_right, Contains-get_or}
use Rattle.std.proofs.lemmas.List.Kept.{AllPairs-filter}
use Rattle.std.proofs.lemmas.List.Sums.{list_all-from_AllPass}
use Rattle.draid_parity.specs.Columns.{is_missing}
use Rattle.draid_parity.proofs.Missing.{ascending_le, test-from_contains}
use Rattle.draid_block.specs.Order.{IsTried, Precedes, covers, sets_below, sets_from, solve_order}
use Rattle.draid_block.proofs.Sets.{covers_contains}

-- ---- each set stands in the order
contains-map : (first : ℕ) (sets : List (List ℕ)) (set : List ℕ) → Contains sets set → Contains (map (λ (s : List ℕ). first ∷ s) sets) (first ∷ set)
contains-map first sets set found = (
  found.0,
  (let many = found.1 in omega (arith, many, length-map sets (λ (s : List ℕ). first ∷ s))),
  get_or-map (λ (s : List ℕ). first ∷ s) sets found.0 set (first ∷ set) found.1 ∙ ap (λ (s : List ℕ). first ∷ s) found.2,
)

from_contains : (size first n : ℕ) (set : List ℕ) → length set ≡ size → IsStrictlyIncreasing set
    → ((k : ℕ) → k < length set → first ≤ get_or set k 0) → ((k : ℕ) → k < length set → get_or set k 0 < first + n) → Contains (sets_from size first n) set
unfolding sets_from
from_contains zero first n [] long up low high = (0, omega arith, refl)
from_contains zero first n (x ∷ xs) long up low high = absurd (omega arith)
from_contains (suc size) first n [] long up low high = absurd (omega arith)
from_contains (suc size) first zero (x ∷ xs) long up low high =
    absurd (let a = low 0 (omega arith) in let b = high 0 (omega arith) in omega (arith, a, b))
from_contains (suc size) first (suc n) (x ∷ xs) long up low high = elim (cases_lt first x) [
  | inl lt ↦
      Contains-append_right (map (λ (s : List ℕ). first ∷ s) (sets_from size (first + 1) n)) (sets_from (suc size) (first + 1) n) (x ∷ xs)
      (from_contains (suc size) (first + 1) n (x ∷ xs) long up
      (λ k below. (let rise = ascending_le (x ∷ xs) up 0 k (omega arith) below in omega (arith, rise)))
      (λ k below. (let top = high k below in omega (arith, top))))
  | inr ge ↦
      let least = low 0 (omega arith) in
      let same : first ≡ x = omega (arith, least) in
      let tail : IsStrictlyIncreasing xs = λ k below. (let e : suc k + 1 ≡ suc (k + 1) = omega arith in subst (λ i. slice_index xs k < slice_index (x ∷ xs) i) e (up (suc k) (omega arith))) in
      subst (λ (y : ℕ). Contains (map (λ (s : List ℕ). first ∷ s) (sets_from size (first + 1) n) ++ sets_from (suc size) (first + 1) n) (y ∷ xs)) same
      (Contains-append_left (map (λ (s : List ℕ). first ∷ s) (sets_from size (first + 1) n)) (sets_from (suc size) (first + 1) n) (first ∷ xs)
      (contains-map first (sets_from size (first + 1) n) xs
      (from_contains size (first + 1) n xs (omega arith) tail
      (λ k below. (let next : x < get_or xs 0 0 = up 0 (omega arith) in let rise = ascending_le xs tail 0 k (omega arith) below in omega (arith, next, rise)))
      (λ k below. (let top = high (suc k) (omega arith) in omega (arith, top))))))
]

below_contains : (k size n : ℕ) (set : List ℕ) → size < k → Contains (sets_from size 0 n) set → Contains (sets_below k n) set
unfolding sets_below
below_contains zero size n set less found = absurd (omega arith)
below_contains (suc k) size n set less found = elim (cases_lt size k) [
  | inl lt ↦ Contains-append_left (sets_below k n) (sets_from k 0 n) set (below_contains k size n set lt found)
  | inr ge ↦
      let same : size ≡ k = omega arith in
      Contains-append_right (sets_below k n) (sets_from k 0 n) set (subst (λ (s : ℕ). Contains (sets_from s 0 n) set) same found)
]

shift : (y x : List ℕ) (ys : List (List ℕ)) → Contains ys x → Contains (y ∷ ys) x
shift y x ys found = (suc found.0, (let many = found.1 in omega (arith, many)), found.2)

filter_contains : (p : List ℕ → Bool) (xs : List (List ℕ)) (x : List ℕ) → p x ≡ true → Contains xs x → Contains (filter p xs) x
filter_contains p [] x passes found = absurd (let many = found.1 in omega (arith, many))
filter_contains p (y ∷ ys) x passes found = at (filter_contains p ys x passes) found.0 found.1 found.2
  where
    later : (b : Bool) → Contains (filter p ys) x → Contains (cond b (y ∷ filter p ys) (filter p ys)) x
    later true f = shift y x (filter p ys) f
    later false f = f

    at : (Contains ys x → Contains (filter p ys) x) → (k : ℕ) → k < length (y ∷ ys) → get_or (y ∷ ys) k x ≡ x → Contains (cond (p y) (y ∷ filter p ys) (filter p ys)) x
    at rest zero below is = rw (ap p is ∙ passes) (0, omega arith, is)
    at rest (suc k) below is = later (p y) (rest (k, omega arith, is))

covers_all : (absent set : List ℕ) → ((i : ℕ) → Contains absent i → Contains set i) → covers absent set ≡ true
covers_all absent set all =
    list_all-from_AllPass (λ i. is_missing set i) absent (λ k d below. test-from_contains set (get_or absent k d) (all (get_or absent k d) (Contains-get_or absent k d below)))

pub order_has : (parity n : ℕ) (absent set : List ℕ) → IsTried parity n absent set → Contains (solve_order parity n absent) set
order_has parity n absent set t =
    filter_contains (λ (s : List ℕ). covers absent s) (sets_below (suc parity) n) set (covers_all absent set t.absent)
    (below_contains (suc parity) (length set) n set (let few = t.few in omega (arith, few))
    (from_contains (length set) 0 n set refl t.ascending (λ k below. omega arith) (λ k below. (let range = t.in_range k 0 below in omega (arith, range)))))

-- ---- no other set stands in it
record IsFrom (size first n : ℕ) (set : List ℕ) : Type 0 where
  long : length set ≡ size
  up : IsStrictlyIncreasing set
  low : All (λ i. first ≤ i) set
  high : All (λ i. i < first + n) set

first_more : (size first n : ℕ) (set : List ℕ) → IsFrom size (first + 1) n set → IsFrom (suc size) first (suc n) (first ∷ set)
first_more size first n set f = record {
  long = (let long = f.long in omega (arith, long));
  up = up;
  low = All-cons (λ i. first ≤ i) first set (omega arith) (λ k d below. (let low = f.low k d below in omega (arith, low)));
  high = All-cons (λ i. i < first + suc n) first set (omega arith) (λ k d below. (let high = f.high k d below in omega (arith, high)));
} where
  up : IsStrictlyIncreasing (first ∷ set)
  up zero below = let low = f.low 0 0 (omega (arith, below)) in omega (arith, low)
  up (suc k) below =
      let e : suc (k + 1) ≡ suc k + 1 = omega arith in
      subst (λ (i : ℕ). get_or set k 0 < get_or (first ∷ set) i 0) e (f.up k (omega (arith, below)))

first_later : (size first n : ℕ) (set : List ℕ) → IsFrom size (first + 1) n set → IsFrom size first (suc n) set
first_later size first n set f = record {
  long = f.long;
  up = f.up;
  low = λ k d below. (let low = f.low k d below in omega (arith, low));
  high = λ k d below. (let high = f.high k d below in omega (arith, high));
}

from_all : (size first n : ℕ) → All (IsFrom size first n) (sets_from size first n)
unfolding sets_from
from_all zero first n =
    All-cons (IsFrom 0 first n) [] []
    (record { long = refl; up = λ k below. absurd (omega (arith, below)); low = λ k d below. absurd (omega (arith, below)); high = λ k d below. absurd (omega (arith, below)) })
    (All-nil (IsFrom 0 first n))
from_all (suc size) first zero = All-nil (IsFrom (suc size) first 0)
from_all (suc size) first (suc n) =
    All-append (IsFrom (suc size) first (suc n)) (map (λ (s : List ℕ). first ∷ s) (sets_from size (first + 1) n)) (sets_from (suc size) (first + 1) n)
    (All-map (IsFrom (suc size) first (suc n)) (λ (s : List ℕ). first ∷ s) (sets_from size (first + 1) n)
    (All-weaker (IsFrom size (first + 1) n) (λ (s : List ℕ). IsFrom (suc size) first (suc n) (first ∷ s)) (first_more size first n) (sets_from size (first + 1) n) (from_all size (first + 1) n)))
    (All-weaker (IsFrom (suc size) (first + 1) n) (IsFrom (suc size) first (suc n)) (first_later (suc size) first n) (sets_from (suc size) (first + 1) n) (from_all (suc size) (first + 1) n))

record IsBelow (k n : ℕ) (set : List ℕ) : Type 0 where
  few : length set < k
  up : IsStrictlyIncreasing set
  high : All (λ i. i < n) set

below_all : (k n : ℕ) → All (IsBelow k n) (sets_below k n)
unfolding sets_below
below_all zero n = All-nil (IsBelow 0 n)
below_all (suc k) n =
    All-append (IsBelow (suc k) n) (sets_below k n) (sets_from k 0 n)
    (All-weaker (IsBelow k n) (IsBelow (suc k) n) (λ set b. record { few = (let few = b.few in omega (arith, few)); up = b.up; high = b.high }) (sets_below k n) (below_all k n))
    (All-weaker (IsFrom k 0 n) (IsBelow (suc k) n)
    (λ set f. record { few = (let long = f.long in omega (arith, long)); up = f.up; high = λ i d below. (let high = f.high i d below in omega (arith, high)) })
    (sets_from k 0 n) (from_all k 0 n))

passes : (p : List ℕ → Bool) (xs : List (List ℕ)) → All (λ x. p x ≡ true) (filter p xs)
passes p [] = All-nil (λ x. p x ≡ true)
passes p (x ∷ xs) = one (p x) refl (passes p xs)
  where
    one : (b : Bool) → p x ≡ b → All (λ y. p y ≡ true) (filter p xs) → All (λ y. p y ≡ true) (cond b (x ∷ filter p xs) (filter p xs))
    one true is rest = All-cons (λ y. p y ≡ true) x (filter p xs) is rest
    one false is rest = rest

pub order_only : (parity n : ℕ) (absent set : List ℕ) → Contains (solve_order parity n absent) set → IsTried parity n absent set
order_only parity n absent set there =
    let p : List ℕ → Bool = λ s. covers absent s in
    let b : IsBelow (suc parity) n set =
    All-contains (IsBelow (suc parity) n) (solve_order parity n absent) set
    (All-filter p (IsBelow (suc parity) n) (sets_below (suc parity) n) (below_all (suc parity) n)) there in
    let all : covers absent set ≡ true = All-contains (λ s. p s ≡ true) (solve_order parity n absent) set (passes p (sets_below (suc parity) n)) there in
    record {
      few = (let few = b.few in omega (arith, few));
      ascending = b.up;
      in_range = b.high;
      absent = covers_contains absent set all;
    }

-- ---- each stands behind those that precede it
pairs-append : {P Q : List ℕ → Type 0} (R : List ℕ → List ℕ → Type 0) (xs ys : List (List ℕ)) → All P xs → All Q ys → ((x y : List ℕ) → P x → Q y → R x y)
    → AllPairs R xs → AllPairs R ys → AllPairs R (xs ++ ys)
pairs-append R xs ys all_p all_q across left right i j d less below =
    let long : length (xs ++ ys) ≡ length xs + length ys = length-append xs ys in
    elim (cases_lt j (length xs)) [
      | inl lt ↦ rw (get_or_append_left xs ys d i (omega arith), get_or_append_left xs ys d j lt) (left i j d less lt)
      | inr ge ↦ elim (cases_lt i (length xs)) [
        | inl lt ↦
            rw (get_or_append_left xs ys d i lt, get_or-append_right xs ys (length xs) j d refl ge)
            (across _ _ (all_p i d lt) (all_q (j - length xs) d (omega (arith, long))))
        | inr past ↦
            rw (get_or-append_right xs ys (length xs) i d refl past, get_or-append_right xs ys (length xs) j d refl ge)
            (right (i - length xs) (j - length xs) d (omega arith) (omega (arith, long)))
      ]
    ]

pairs-map : (R : List ℕ → List ℕ → Type 0) (f : List ℕ → List ℕ) (xs : List (List ℕ)) → ((x y : List ℕ) → R x y → R (f x) (f y)) → AllPairs R xs → AllPairs R (map f xs)
pairs-map R f xs keeps pairs i j d less below =
    let long : length (map f xs) ≡ length xs = length-map xs f in
    rw (get_or-map f xs i d d (omega (arith, long)), get_or-map f xs j d d (omega (arith, long))) (keeps _ _ (pairs i j d less (omega (arith, long))))

precedes-cons : (first : ℕ) (a b : List ℕ) → Precedes a b → Precedes (first ∷ a) (first ∷ b)
precedes-cons first a b (inl fewer) = inl (omega (arith, fewer))
precedes-cons first a b (inr later) =
    let same = later.0 in
    let lex = later.1 in
    inr (omega (arith, same), record { at = suc lex.at; within = (let within = lex.within in omega (arith, within)); same = ap (λ (l : List ℕ). first ∷ l) lex.same; less = lex.less })

pairs_from : (size first n : ℕ) → AllPairs Precedes (sets_from size first n)
unfolding sets_from
pairs_from zero first n = λ i j d less below. absurd (omega (arith, less, below))
pairs_from (suc size) first zero = λ i j d less below. absurd (omega (arith, less, below))
pairs_from (suc size) first (suc n) =
    pairs-append {P = λ x. (length x ≡ suc size) × (get_or x 0 0 ≡ first)} {Q = IsFrom (suc size) (first + 1) n} Precedes
    (map (λ (s : List ℕ). first ∷ s) (sets_from size (first + 1) n)) (sets_from (suc size) (first + 1) n)
    (All-map (λ x. (length x ≡ suc size) × (get_or x 0 0 ≡ first)) (λ (s : List ℕ). first ∷ s) (sets_from size (first + 1) n)
    (All-weaker (IsFrom size (first + 1) n) (λ (s : List ℕ). (length (first ∷ s) ≡ suc size) × (first ≡ first)) (λ s f. ((let long = f.long in omega (arith, long)), refl))
    (sets_from size (first + 1) n) (from_all size (first + 1) n)))
    (from_all (suc size) (first + 1) n)
    (λ x y begins from.
    (let long = begins.0 in
    let at = begins.1 in
    let other = from.long in
    let low = from.low 0 0 (omega (arith, other)) in
    inr (omega (arith, long, other), record { at = 0; within = omega (arith, long); same = refl; less = omega (arith, at, low) })))
    (pairs-map Precedes (λ (s : List ℕ). first ∷ s) (sets_from size (first + 1) n) (precedes-cons first) (pairs_from size (first + 1) n))
    (pairs_from (suc size) (first + 1) n)

pairs_below : (k n : ℕ) → AllPairs Precedes (sets_below k n)
unfolding sets_below
pairs_below zero n = λ i j d less below. absurd (omega (arith, less, below))
pairs_below (suc k) n =
    pairs-append {P = IsBelow k n} {Q = IsFrom k 0 n} Precedes (sets_below k n) (sets_from k 0 n) (below_all k n) (from_all k 0 n)
    (λ x y b f. inl (let few = b.few in let long = f.long in omega (arith, few, long)))
    (pairs_below k n) (pairs_from k 0 n)

pub order_sorted : (parity n : ℕ) (absent : List ℕ) → AllPairs Precedes (solve_order parity n absent)
order_sorted parity n absent = AllPairs-filter Precedes (λ (s : List ℕ). covers absent s) (sets_below (suc parity) n) (pairs_below (suc parity) n)
