-- Texts and values of the items of a list, with their places.
use Rattle.std.proofs.Common.{◌≡◌, ◌∙◌, sym, ap, ℕ, ◌+◌, ◌<◌, ◌≤◌, List, [], ◌∷◌, ◌++◌, length, map, take, get_or, arith}
use Rattle.std.specs.Prelude.{flat_map}
use Rattle.std.specs.List.{enumerate_from}
use Rattle.std.proofs.lemmas.List.{flat_map_more, length-take-le, map-append, take_all, take_more}

-- one more item at the end
enumerate_from-append : {X : Type 0} (n : ℕ) (xs : List X) (x : X) → enumerate_from n (xs ++ x ∷ []) ≡ enumerate_from n xs ++ (n + length xs, x) ∷ []
enumerate_from-append {X} n [] x = ap (λ (k : ℕ). (k, x) ∷ []) (omega arith)
enumerate_from-append {X} n (y ∷ xs) x =
    let one : n + 1 + length xs ≡ n + length (y ∷ xs) = omega arith in
    ap (λ (items : List (ℕ × X)). (n, y) ∷ items) (enumerate_from-append (n + 1) xs x)
    ∙ ap (λ (k : ℕ). (n, y) ∷ (enumerate_from (n + 1) xs ++ (k, x) ∷ [])) one

-- the front of a list with one more item
enumerate_more : {X : Type 0} (xs : List X) (i : ℕ) (d : X) → i < length xs
    → enumerate_from 0 (take (i + 1) xs) ≡ enumerate_from 0 (take i xs) ++ (i, get_or xs i d) ∷ []
enumerate_more {X} xs i d below =
    ap (λ (front : List X). enumerate_from 0 front) (take_more xs i d below)
    ∙ enumerate_from-append 0 (take i xs) (get_or xs i d)
    ∙ ap (λ (k : ℕ). enumerate_from 0 (take i xs) ++ (k, get_or xs i d) ∷ []) at
  where
    at : 0 + length (take i xs) ≡ i
    at = omega (arith, length-take-le i xs (omega (arith, below)))

-- the text of one more item
pub text_more : {X : Type 0} (f : ℕ × X → List ℕ) (xs : List X) (i : ℕ) (d : X) (old text new : List ℕ) → i < length xs
    → text ≡ old ++ flat_map f (enumerate_from 0 (take i xs))
    → new ≡ text ++ f (i, get_or xs i d)
    → new ≡ old ++ flat_map f (enumerate_from 0 (take (i + 1) xs))
text_more {X} f xs i d old text new below before after =
    after ∙ ap (λ (t : List ℕ). t ++ f (i, get_or xs i d)) before
    ∙ flat_map_more f old (enumerate_from 0 (take i xs)) (i, get_or xs i d)
    ∙ ap (λ (items : List (ℕ × X)). old ++ flat_map f items) (sym (enumerate_more xs i d below))

-- the value of one more item
pub value_more : {X Y : Type 0} (f : ℕ × X → Y) (xs : List X) (i : ℕ) (d : X) (old new : List Y) (value : Y) → i < length xs
    → old ≡ map f (enumerate_from 0 (take i xs))
    → value ≡ f (i, get_or xs i d)
    → new ≡ old ++ value ∷ []
    → new ≡ map f (enumerate_from 0 (take (i + 1) xs))
value_more {X} {Y} f xs i d old new value below before item after =
    after ∙ ap (λ (t : List Y). t ++ value ∷ []) before
    ∙ ap (λ (y : Y). map f (enumerate_from 0 (take i xs)) ++ y ∷ []) item
    ∙ sym (map-append f (enumerate_from 0 (take i xs)) ((i, get_or xs i d) ∷ []))
    ∙ ap (λ (items : List (ℕ × X)). map f items) (sym (enumerate_more xs i d below))

-- at the end of a loop the front is all of the list
pub whole : {X : Type 0} (xs : List X) (i : ℕ) → length xs ≤ i → take i xs ≡ xs
whole xs i end = take_all i xs end
