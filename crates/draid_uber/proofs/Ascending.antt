-- Blocks that ascend are told by which they are, however they came in order.
use Rattle.std.proofs.Common.{inl, inr, suc, ◌⊎◌, ◌≡◌, ◌==◌, ◌<◌, ◌+◌, ◌&&◌, ◌||◌, ◌∙◌, [], ◌∷◌, ℕ, Bool, true, false, List, arith, refl, sym, ap, subst, if◌then◌else◌, nat_lt, Option, Some, None, ◌≤◌}
use Rattle.std.specs.Prelude.{⊤, not, slice_index_or}
use Rattle.std.proofs.lemmas.Bool.Decides.{nat_tests}
use Rattle.std.specs.List.{Contains, sum_by}
use Rattle.std.specs.List.Sorted.{IsPermutation, IsSortedBy}
use Rattle.std.specs.Cmp.{IsTotalOrder}
use Rattle.std.specs.Ordering.{is_lt, nat_cmp, on, ordering_then, then_cmp}
use Rattle.std.specs.declared.cmp.Ordering.TheVariants.{Less, Equal, Greater}
use Rattle.std.proofs.lemmas.Cmp.{nat_cmp_total, on_total, then_total}
use Rattle.std.proofs.lemmas.List.Sorted.{ranks_by, sorted_far, sum_by-IsPermutation}
use Rattle.std.proofs.lemmas.List.Sums.{sum_by-cons}
use Rattle.draid_record.specs.Checks.{AreDrops}
use Rattle.draid_record.specs.declared.checks.Dropped.{Dropped}
use Rattle.draid_uber.specs.Points.{drops_with, insert_drop, is_before}

-- ---- the order

never_both : (a s b t : ℕ) → (nat_lt a b || (a == b && nat_lt s t)) ≡ true → (nat_lt b a || (b == a && nat_lt t s)) ≡ false
never_both a s b t before = grind (arith, nat_tests)

stays_behind : (a s b t c u : ℕ) → (nat_lt a b || (a == b && nat_lt s t)) ≡ false → (nat_lt c b || (c == b && nat_lt u t)) ≡ true → (nat_lt a c || (a == c && nat_lt s u)) ≡ false
stays_behind a s b t c u behind before = grind (arith, nat_tests)

tied : (a s b t : ℕ) → (nat_lt a b || (a == b && nat_lt s t)) ≡ false → (nat_lt b a || (b == a && nat_lt t s)) ≡ false → (a ≡ b) × (s ≡ t)
tied a s b t behind before = grind (arith, nat_tests)

not_itself : (a s : ℕ) → (nat_lt a a || (a == a && nat_lt s s)) ≡ false
not_itself a s = grind (arith, nat_tests)

abbrev pub less : Dropped → Dropped → Bool
less = λ x y. is_lt (ordering_then (nat_cmp x.object y.object) (nat_cmp x.seq y.seq))

less_is : (p q r s : Bool) → is_lt (ordering_then (if p then Less else if q then Equal else Greater) (if r then Less else if s then Equal else Greater)) ≡ (p || (q && r))
less_is true q r s = refl
less_is false true true s = refl
less_is false true false true = refl
less_is false true false false = refl
less_is false false r s = refl

less_before : (x y : Dropped) → less x y ≡ is_before x y
less_before x y = less_is (nat_lt x.object y.object) (x.object == y.object) (nat_lt x.seq y.seq) (x.seq == y.seq)

total : IsTotalOrder (then_cmp (on (λ (d : Dropped). d.object) nat_cmp) (on (λ (d : Dropped). d.seq) nat_cmp))
total = then_total (on_total (λ (d : Dropped). d.object) nat_cmp_total) (on_total (λ (d : Dropped). d.seq) nat_cmp_total)

-- ---- how often a block is there

abbrev pub is_same : Dropped → Dropped → Bool
is_same d e = d.object == e.object && d.seq == e.seq

same_numbers : (a s b t : ℕ) → (a == b && s == t) ≡ true → (a ≡ b) × (s ≡ t)
same_numbers a s b t same = grind (arith, nat_tests)

same_itself : (a s : ℕ) → (a == a && s == s) ≡ true
same_itself a s = grind (arith, nat_tests)

same_blocks : (d e : Dropped) → is_same d e ≡ true → d ≡ e
same_blocks d e same = (let n = same_numbers d.object d.seq e.object e.seq same in λ i. record { object = n.0 i; seq = n.1 i })

abbrev pub one : Dropped → Dropped → ℕ
one d e = if is_same d e then 1 else 0

abbrev pub times : Dropped → List Dropped → ℕ
times d xs = sum_by (one d) xs

times_more : (d x : Dropped) (xs : List Dropped) → times d (x ∷ xs) ≡ one d x + times d xs
times_more d x xs = sum_by-cons (one d) x xs

times_itself : (x : Dropped) (xs : List Dropped) → 0 < times x (x ∷ xs)
times_itself x xs =
    let more = times_more x x xs in
    let own : one x x ≡ 1 = ap (λ b. if b then 1 else 0) (same_itself x.object x.seq) in
    omega (arith, more, own)

none_there : (d : Dropped) → times d [] ≡ 0
none_there d = refl

-- it is the first, or among the others
there_cases : (d x : Dropped) (xs : List Dropped) → 0 < times d (x ∷ xs) → (d ≡ x) ⊎ (0 < times d xs)
there_cases d x xs some = by (is_same d x) refl
  where
    by : (b : Bool) → is_same d x ≡ b → (d ≡ x) ⊎ (0 < times d xs)
    by true same = inl (same_blocks d x same)
    by false other =
        let more = times_more d x xs in
        let none : one d x ≡ 0 = ap (λ b. if b then 1 else 0) other in
        inr (omega (arith, more, none, some))

there_at : (d : Dropped) (xs : List Dropped) → 0 < times d xs → Contains xs d
there_at d [] some = absurd (omega (arith, some, none_there d))
there_at d (x ∷ xs) some = elim (there_cases d x xs some) [
  | inl same ↦ (0, omega arith, sym same)
  | inr more ↦ (let at = there_at d xs more in let inside = at.1 in (suc at.0, omega (arith, inside), at.2))
]

-- ---- blocks that ascend

abbrev Ascends : List Dropped → Type 0
Ascends [] = ⊤
Ascends (x ∷ xs) = ((y : Dropped) → 0 < times y xs → is_before y x ≡ false) × Ascends xs

pub from_sorted : (xs : List Dropped) → IsSortedBy less xs → Ascends xs
from_sorted [] up = tt
from_sorted (x ∷ xs) up = (first, from_sorted xs (λ k d low below. behind k d (up (suc k) d (omega arith) (omega (arith, below)))))
  where
    behind : (k : ℕ) (d : Dropped) → less (slice_index_or (x ∷ xs) (suc k + 1) d) (slice_index_or xs k d) ≡ false → less (slice_index_or xs (k + 1) d) (slice_index_or xs k d) ≡ false
    behind k d is = subst (λ n. less (slice_index_or (x ∷ xs) n d) (slice_index_or xs k d) ≡ false) next is
      where
        next : suc k + 1 ≡ suc (k + 1)
        next = omega arith

    first : (y : Dropped) → 0 < times y xs → is_before y x ≡ false
    first y some =
        let at = there_at y xs some in
        let inside = at.1 in
        let far = sorted_far less (ranks_by total (λ (d : Dropped). d)) (x ∷ xs) up 0 (suc at.0) y (omega arith) (omega (arith, inside)) in
        sym (less_before y x) ∙ (ap (λ z. less z x) (sym at.2) ∙ far)

insert_times : (d e : Dropped) (xs : List Dropped) → times e (insert_drop d xs) ≡ one e d + times e xs
insert_times d e [] = times_more e d []
insert_times d e (x ∷ xs) = by (insert_times d e xs) (is_before d x)
  where
    by : times e (insert_drop d xs) ≡ one e d + times e xs → (b : Bool) → times e (if b then d ∷ x ∷ xs else x ∷ insert_drop d xs) ≡ one e d + times e (x ∷ xs)
    by rest true = times_more e d (x ∷ xs)
    by rest false =
        let front = times_more e x (insert_drop d xs) in
        let back = times_more e x xs in
        omega (arith, front, back, rest)

with_times : (e : Dropped) (some ds : List Dropped) → times e (drops_with some ds) ≡ times e some + times e ds
with_times e some [] = (let none = none_there e in omega (arith, none))
with_times e some (d ∷ ds) =
    let rest = with_times e (insert_drop d some) ds in
    let put = insert_times d e some in
    let more = times_more e d ds in
    omega (arith, rest, put, more)

insert_ascends : (d : Dropped) (xs : List Dropped) → Ascends xs → Ascends (insert_drop d xs)
insert_ascends d [] up = ((λ y some. absurd (omega (arith, some, none_there y))), tt)
insert_ascends d (x ∷ xs) up = by (insert_ascends d xs up.1) (is_before d x) refl
  where
    behind : (y : Dropped) → is_before d x ≡ true → (y ≡ x) ⊎ (0 < times y xs) → is_before y d ≡ false
    behind y before (inl same) = subst (λ z. is_before z d ≡ false) (sym same) (never_both d.object d.seq x.object x.seq before)
    behind y before (inr more) = stays_behind y.object y.seq x.object x.seq d.object d.seq (up.0 y more) before

    among : (y : Dropped) → is_before d x ≡ false → (y ≡ d) ⊎ (0 < times y xs) → is_before y x ≡ false
    among y other (inl same) = subst (λ z. is_before z x ≡ false) (sym same) other
    among y other (inr more) = up.0 y more

    put_cases : (y : Dropped) → 0 < times y (insert_drop d xs) → (y ≡ d) ⊎ (0 < times y xs)
    put_cases y some = there_cases y d xs (let put = insert_times d y xs in let more = times_more y d xs in omega (arith, put, more, some))

    by : Ascends (insert_drop d xs) → (b : Bool) → is_before d x ≡ b → Ascends (if b then d ∷ x ∷ xs else x ∷ insert_drop d xs)
    by rest true before = ((λ y some. behind y before (there_cases y x xs some)), up)
    by rest false other = ((λ y some. among y other (put_cases y some)), rest)

pub with_ascends : (some ds : List Dropped) → Ascends some → Ascends (drops_with some ds)
with_ascends some [] up = up
with_ascends some (d ∷ ds) up = with_ascends (insert_drop d some) ds (insert_ascends d some up)

-- ---- the one list

not_before : (x y : Dropped) (ys : List Dropped) → 0 < times x (y ∷ ys) → ((z : Dropped) → 0 < times z ys → is_before z y ≡ false) → is_before x y ≡ false
not_before x y ys some up = elim (there_cases x y ys some) [
  | inl same ↦ subst (λ z. is_before z y ≡ false) (sym same) (not_itself y.object y.seq)
  | inr more ↦ up x more
]

same_list : (xs ys : List Dropped) → Ascends xs → Ascends ys → ((e : Dropped) → times e xs ≡ times e ys) → xs ≡ ys
same_list [] [] up own same = refl
same_list [] (y ∷ ys) up own same = absurd (let none = same y in let some = times_itself y ys in omega (arith, none, some))
same_list (x ∷ xs) [] up own same = absurd (let none = same x in let some = times_itself x xs in omega (arith, none, some))
same_list (x ∷ xs) (y ∷ ys) up own same = λ i. first i ∷ same_list xs ys up.1 own.1 rest i
  where
    first : x ≡ y
    first =
        let left = not_before x y ys (subst (λ n. 0 < n) (same x) (times_itself x xs)) own.0 in
        let right = not_before y x xs (subst (λ n. 0 < n) (sym (same y)) (times_itself y ys)) up.0 in
        let n = tied x.object x.seq y.object y.seq left right in
        λ i. record { object = n.0 i; seq = n.1 i }

    rest : (e : Dropped) → times e xs ≡ times e ys
    rest e =
        let all = same e in
        let front = times_more e x xs in
        let back = times_more e y ys in
        let head : one e x ≡ one e y = ap (one e) first in
        omega (arith, all, front, back, head)

pub sorted_is : (blocks sorted : List Dropped) → IsPermutation blocks sorted → IsSortedBy less sorted → sorted ≡ drops_with [] blocks
sorted_is blocks sorted moved up =
    same_list sorted (drops_with [] blocks) (from_sorted sorted up) (with_ascends [] blocks tt)
    (λ e. let moved_times : times e sorted ≡ times e blocks = sum_by-IsPermutation (one e) blocks sorted moved in
    let put = with_times e [] blocks in
    let none = none_there e in
    omega (arith, moved_times, put, none))

-- ---- a list that a check record can spell

behind_is : (a s b t : ℕ) → a ≤ b → (not (b == a) || nat_lt s t) ≡ true → (nat_lt a b || (a == b && nat_lt s t)) ≡ true
behind_is a s b t low behind = grind (arith, nat_tests)

before_trans : (a s b t c u : ℕ) → (nat_lt a b || (a == b && nat_lt s t)) ≡ true → (nat_lt b c || (b == c && nat_lt t u)) ≡ true → (nat_lt a c || (a == c && nat_lt s u)) ≡ true
before_trans a s b t c u first second = grind (arith, nat_tests)

all_behind : (x y : Dropped) (xs : List Dropped) → AreDrops (Some x) xs → 0 < times y xs → is_before x y ≡ true
all_behind x y [] are some = absurd (omega (arith, some, none_there y))
all_behind x y (e ∷ es) are some =
    let next = behind_is x.object x.seq e.object e.seq are.0 are.3 in
    elim (there_cases y e es some) [
      | inl same ↦ subst (λ z. is_before x z ≡ true) (sym same) next
      | inr more ↦ before_trans x.object x.seq e.object e.seq y.object y.seq next (all_behind e y es are.4 more)
    ]

drops_ascend : (before : Option Dropped) (xs : List Dropped) → AreDrops before xs → Ascends xs
drops_ascend before [] are = tt
drops_ascend before (x ∷ xs) are = ((λ y some. never_both x.object x.seq y.object y.seq (all_behind x y xs are.4 some)), drops_ascend (Some x) xs are.4)

-- it is in order already
pub drops_stay : (xs : List Dropped) → AreDrops None xs → drops_with [] xs ≡ xs
drops_stay xs are = same_list (drops_with [] xs) xs (with_ascends [] xs tt) (drops_ascend None xs are) (λ e. let put = with_times e [] xs in let none = none_there e in omega (arith, put, none))
