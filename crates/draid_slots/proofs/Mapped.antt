-- Lists of which a front was mapped.
use Rattle.std.proofs.Common.{Bool, true, ◌==◌, ◌≡◌, ℕ, zero, suc, ◌+◌, ◌<◌, List, [], ◌∷◌, ◌++◌, map, length, take, drop, get_or, set, arith, refl, ap, sym, ◌∙◌}
use Rattle.std.specs.Prelude.{All, remove}
use Rattle.std.proofs.lemmas.Bool.Decides.{nat_tests}
use Rattle.std.proofs.lemmas.List.{append-nil, append_assoc, map-append}

pub unmapped_at : {X : Type 0} (f : X → X) (xs : List X) (i : ℕ) (d : X) → i < length xs → get_or (map f (take i xs) ++ drop i xs) i d ≡ get_or xs i d
unmapped_at f [] i d l = absurd (omega arith)
unmapped_at f (x ∷ xs) zero d l = refl
unmapped_at f (x ∷ xs) (suc i) d l = unmapped_at f xs i d (omega arith)

mapped_next : {X : Type 0} (f : X → X) (xs : List X) (i : ℕ) (d y : X) → i < length xs → y ≡ f (get_or xs i d)
    → set (map f (take i xs) ++ drop i xs) i y ≡ map f (take (suc i) xs) ++ drop (suc i) xs
mapped_next f [] i d y l is = absurd (omega arith)
mapped_next f (x ∷ xs) zero d y l is = ap (λ z. z ∷ xs) is
mapped_next f (x ∷ xs) (suc i) d y l is = ap (λ zs. f x ∷ zs) (mapped_next f xs i d y (omega arith) is)

-- a list of which the front is mapped, one item more
pub mapped_more : {X : Type 0} (f : X → X) (xs ys : List X) (i : ℕ) (d y : X) → i < length xs → ys ≡ map f (take i xs) ++ drop i xs → y ≡ f (get_or ys i d)
    → set ys i y ≡ map f (take (i + 1) xs) ++ drop (i + 1) xs
mapped_more f xs ys i d y l was is =
    let next : suc i ≡ i + 1 = omega arith in
    ap (λ zs. set zs i y) was
    ∙ mapped_next f xs i d y l (is ∙ ap (λ zs. f (get_or zs i d)) was ∙ ap f (unmapped_at f xs i d l))
    ∙ ap (λ n. map f (take n xs) ++ drop n xs) next

-- the first item of the rest goes behind those that were taken
pub moved : {S L A : Type 0} (f : S → A) (g : L → A) (front : List S) (s : S) (rest : List L) (d : L) (all : List A) → 0 < length rest
    → map f front ++ map g rest ≡ all → f s ≡ g (get_or rest 0 d) → map f (front ++ s ∷ []) ++ map g (remove rest 0) ≡ all
moved f g front s [] d all some was is = absurd (omega arith)
moved f g front s (r ∷ rest) d all some was is =
    ap (λ xs. xs ++ map g rest) (map-append f front (s ∷ []))
    ∙ append_assoc (map f front) (f s ∷ []) (map g rest)
    ∙ ap (λ x. map f front ++ x ∷ map g rest) is
    ∙ was

pub none_left : (n : ℕ) (empty : Bool) → empty ≡ (n == 0) → empty ≡ true → n ≡ 0
none_left n empty is none = grind (arith, nat_tests)

-- where none is left, all were taken
pub all_moved : {L A : Type 0} (g : L → A) (rest : List L) (front whole : List A) → length rest ≡ 0 → front ++ map g rest ≡ whole → front ≡ whole
all_moved g [] front whole none is = sym (append-nil front) ∙ is
all_moved g (r ∷ rest) front whole none is = absurd (omega (arith, none))

pub All-rest : {X : Type 0} (P : X → Type 0) (xs : List X) → All P xs → All P (remove xs 0)
All-rest P [] all k d below = absurd (omega arith)
All-rest P (x ∷ xs) all k d below = all (suc k) d (omega arith)

pub one : {X : Type 0} (P : X → Type 0) (x : X) → P x → All P (x ∷ [])
one P x is zero d below = is
one P x is (suc k) d below = absurd (omega arith)
