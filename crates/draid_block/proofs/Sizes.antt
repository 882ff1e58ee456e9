-- The order of solving, size by size.
use Rattle.std.proofs.Common.{◌≡◌, ℕ, zero, suc, ◌+◌, ◌-◌, ◌*◌, ◌^◌, ◌<◌, ◌≤◌, Bool, true, false, List, [], ◌∷◌, ◌++◌, map, length, cond, arith, ◌∙◌, ap, subst, add-one, length-append}
use Rattle.std.proofs.lemmas.List.{map-id, length-map}
use Rattle.std.proofs.lemmas.List.Elements.{filter-append}
use Rattle.std.proofs.Math.Nat.{pow-suc, suc-mul, mul-le-mul_right, pow-le-pow_right}
use Rattle.draid_block.specs.Columns.{Cut}
use Rattle.draid_block.specs.Order.{covers, covering, sets_after, sets_below, sets_from}
use Rattle.draid_block.specs.Solving.{IsFirst, GivesOf, FailsOf, absent_columns, sets_of}
use Rattle.draid_block.specs.Search.{NoneOf}
use Rattle.draid_block.specs.declared.solve.Fetched.{Fetched}
use Rattle.draid_block.specs.declared.search.Attempts.{Attempts}
use Rattle.draid_block.proofs.Sets.{first_left}

pub after_nothing : (size first n : ℕ) → sets_after [] size first n ≡ sets_from size first n
after_nothing size first n = map-id (sets_from size first n)

pub size_more : (absent : List ℕ) (size n : ℕ) → covering absent (sets_below (size + 1) n) ≡ covering absent (sets_below size n) ++ covering absent (sets_from size 0 n)
unfolding sets_below
size_more absent size n = rw add-one (filter-append (λ set. covers absent set) (sets_below size n) (sets_from size 0 n))

pub first_below : {gives fails : List ℕ → Type 0} (absent : List ℕ) (size k n : ℕ) → IsFirst gives fails (covering absent (sets_below size n))
    → IsFirst gives fails (covering absent (sets_below (size + k) n))
first_below {gives} {fails} absent size zero n f =
    let e : size + 0 ≡ size = omega arith in rw e f
first_below {gives} {fails} absent size (suc k) n f =
    let e : size + suc k ≡ size + k + 1 = omega arith in
    rw (e, size_more absent (size + k) n) (first_left _ _ (first_below absent size k n f))

-- ---- there are few sets
-- a set of one member more has a first member and the others: for each of n columns as many sets as there are of the others
few_at : (size first n each : ℕ) → ((f m : ℕ) → m ≤ 64 → length (sets_from size f m) ≤ each) → n ≤ 64
    → length (sets_from (suc size) first n) ≤ n * each
unfolding sets_from
few_at size first zero each others below = omega arith
few_at size first (suc n) each others below =
    let left = others (first + 1) n (omega arith) in
    let right = few_at size (first + 1) n each others (omega arith) in
    let sum = length-append (map (λ (set : List ℕ). first ∷ set) (sets_from size (first + 1) n)) (sets_from (suc size) (first + 1) n) in
    let same = length-map (sets_from size (first + 1) n) (λ (set : List ℕ). first ∷ set) in
    omega (arith, left, right, sum, same, suc-mul n each)

few_from : (size first n : ℕ) → n ≤ 64 → length (sets_from size first n) ≤ 64 ^ size
unfolding sets_from
few_from zero first n below = omega arith
few_from (suc size) first n below =
    let at = few_at size first n (64 ^ size) (few_from size) below in
    let most = mul-le-mul_right (64 ^ size) below in
    omega (arith, at, most, pow-suc 64 size)

few_below : (k n : ℕ) → k ≤ 4 → n ≤ 64 → length (sets_below k n) ≤ k * 64 ^ 3
unfolding sets_below
few_below zero n few below = omega arith
few_below (suc k) n few below =
    let some : 0 < 64 = omega arith in
    let size : k ≤ 3 = omega arith in
    let power = pow-le-pow_right {n = 64} some {i = k} {j = 3} size in
    omega (arith, few_below k n (omega arith) below, few_from k 0 n below, power, length-append (sets_below k n) (sets_from k 0 n), suc-mul k (64 ^ 3))

few_covering : (absent : List ℕ) (sets : List (List ℕ)) → length (covering absent sets) ≤ length sets
few_covering absent [] = omega arith
few_covering absent (set ∷ sets) = cases (covers absent set) (few_covering absent sets) where
  cases : (b : Bool) → length (covering absent sets) ≤ length sets → length (cond b (set ∷ covering absent sets) (covering absent sets)) ≤ length (set ∷ sets)
  cases true h = omega arith
  cases false h = omega arith

pub few_sets : (absent : List ℕ) (k n : ℕ) → k ≤ 4 → n ≤ 64 → length (covering absent (sets_below k n)) < 2 ^ 64
few_sets absent k n few below =
    let a = few_covering absent (sets_below k n) in
    let b = few_below k n few below in
    omega (arith, a, b)

-- ---- the tries of one size more
pub size_room : (absent begun : List ℕ) (before tried size n : ℕ) → begun ≡ [] → before ≡ 0 → tried ≡ before + length (covering absent (sets_below size n)) → size ≤ 3 → n ≤ 64
    → tried + length (covering absent (sets_after begun size 0 (n - 0))) < 2 ^ 64
size_room absent begun before tried size n nothing none counted few below =
    let e : n - 0 ≡ n = omega arith in
    let sum = few_sets absent (size + 1) n (omega arith) below in
    let both = ap length (size_more absent size n) ∙ length-append (covering absent (sets_below size n)) (covering absent (sets_from size 0 n)) in
    rw (nothing, e, after_nothing size 0 n) (omega (arith, sum, both))

pub size_sets : (absent begun : List ℕ) (size n : ℕ) → begun ≡ [] → covering absent (sets_below (size + 1) n) ≡ covering absent (sets_below size n) ++ covering absent (sets_after begun size 0 (n - 0))
size_sets absent begun size n nothing =
    let e : n - 0 ≡ n = omega arith in
    rw (nothing, e, after_nothing size 0 n) (size_more absent size n)

pub none_all : (cut : Cut) (fetched : Fetched) (absent : List ℕ) (size n : ℕ) (s : Attempts) (before after : ℕ) → size ≡ cut.parity + 1 → n ≡ cut.parity + cut.ndata
    → absent ≡ absent_columns fetched.columns.items → NoneOf cut fetched (covering absent (sets_below size n)) s before after
    → NoneOf cut fetched (sets_of cut fetched) s before after
none_all cut fetched absent size n s before after is wide a none =
    let e : size ≡ suc cut.parity = omega arith in
    subst (λ (l : List (List ℕ)). NoneOf cut fetched l s before after)
    (ap (λ (k : ℕ). covering absent (sets_below k n)) e ∙ ap (λ (l : List ℕ). covering l (sets_below (suc cut.parity) n)) a ∙ ap (λ (k : ℕ). covering (absent_columns fetched.columns.items) (sets_below (suc cut.parity) k)) wide)
    none

pub first_all : (cut : Cut) (fetched : Fetched) (bytes absent : List ℕ) (size n : ℕ) → size ≤ cut.parity + 1 → n ≡ cut.parity + cut.ndata
    → absent ≡ absent_columns fetched.columns.items → IsFirst (GivesOf cut fetched bytes) (FailsOf cut fetched) (covering absent (sets_below size n))
    → IsFirst (GivesOf cut fetched bytes) (FailsOf cut fetched) (sets_of cut fetched)
first_all cut fetched bytes absent size n is wide a first =
    let e : size + (cut.parity + 1 - size) ≡ suc cut.parity = omega arith in
    subst (λ (l : List (List ℕ)). IsFirst (GivesOf cut fetched bytes) (FailsOf cut fetched) l)
    (ap (λ (k : ℕ). covering absent (sets_below k n)) e ∙ ap (λ (l : List ℕ). covering l (sets_below (suc cut.parity) n)) a ∙ ap (λ (k : ℕ). covering (absent_columns fetched.columns.items) (sets_below (suc cut.parity) k)) wide)
    (first_below absent size (cut.parity + 1 - size) n first)
