use Rattle.std.proofs.Common.{◌≡◌, ◌+◌, ◌<◌, ◌≤◌, ◌∷◌, [], ◌++◌, ℕ, List, length, take, drop, get_or, set, ap, arith, sym, ◌∙◌, ap₂}
use Rattle.std.proofs.lemmas.List.{take_more, set_at, length-take-le, append_assoc}
use Rattle.std.proofs.lemmas.Bool.Decides.{nat_tests}
use Rattle.draid_ranges.specs.declared.run.Run.{Run}
use Rattle.draid_ranges.specs.Edits.{runs_of, sides_of}

-- a run is the only one with its first number and its end
one_run : (first end : ℕ) (run : Run) → run.first ≡ first → run.first + run.len ≡ end → first < end → runs_of first end ≡ run ∷ []
one_run first end run f e l = grind (arith, nat_tests)

nothing_left : (first end : ℕ) → end ≤ first → runs_of first end ≡ []
nothing_left first end past = grind (arith, nat_tests)

pub no_side : (whole : Run) (first end : ℕ) → first ≤ whole.first → whole.first + whole.len ≤ end → sides_of whole first end ≡ []
no_side whole first end low high = ap₂ (λ x y. x ++ y) (nothing_left whole.first first low) (nothing_left end (whole.first + whole.len) high)

pub left_side : (whole left : Run) (first end : ℕ) → left.first ≡ whole.first → left.first + left.len ≡ first → whole.first < first → whole.first + whole.len ≤ end
    → sides_of whole first end ≡ left ∷ []
left_side whole left first end lf le low high = ap₂ (λ x y. x ++ y) (one_run whole.first first left lf le low) (nothing_left end (whole.first + whole.len) high)

pub right_side : (whole right : Run) (first end : ℕ) → right.first ≡ end → right.first + right.len ≡ whole.first + whole.len → first ≤ whole.first → end < whole.first + whole.len
    → sides_of whole first end ≡ right ∷ []
right_side whole right first end rf re low high = ap₂ (λ x y. x ++ y) (nothing_left whole.first first low) (one_run end (whole.first + whole.len) right rf re high)

-- what is put in the place of runs, by what is left of the whole
pub one_kept : (xs new sides : List Run) (from to : ℕ) (run : Run) → new ≡ take from xs ++ run ∷ drop to xs → sides ≡ run ∷ [] → new ≡ take from xs ++ sides ++ drop to xs
one_kept xs new sides from to run is one =
    is ∙ sym (append_assoc (take from xs) (run ∷ []) (drop to xs)) ∙ sym (ap (λ ys. take from xs ++ ys ++ drop to xs) one)

pub none_kept : (xs new sides : List Run) (from to : ℕ) → new ≡ take from xs ++ drop to xs → sides ≡ [] → new ≡ take from xs ++ sides ++ drop to xs
none_kept xs new sides from to is none =
    is ∙ sym (append_assoc (take from xs) [] (drop to xs)) ∙ sym (ap (λ ys. take from xs ++ ys ++ drop to xs) none)

pub both_sides : (xs new : List Run) (n to first end : ℕ) (whole left right : Run) → n < length xs → new ≡ take (n + 1) xs ++ right ∷ drop to xs
    → left.first ≡ whole.first → left.first + left.len ≡ first → right.first ≡ end → right.first + right.len ≡ whole.first + whole.len
    → whole.first < first → end < whole.first + whole.len → set new n left ≡ take n xs ++ sides_of whole first end ++ drop to xs
both_sides xs new n to first end whole left right l is lf le rf re low high =
    let d = get_or xs n right in
    let front : new ≡ take n xs ++ d ∷ right ∷ drop to xs =
    is ∙ ap (λ ys. ys ++ right ∷ drop to xs) (take_more xs n right l) ∙ append_assoc (take n xs) (d ∷ []) (right ∷ drop to xs) in
    let sides : sides_of whole first end ≡ left ∷ right ∷ [] = ap₂ (λ x y. x ++ y) (one_run whole.first first left lf le low) (one_run end (whole.first + whole.len) right rf re high) in
    ap (λ ys. set ys n left) front
    ∙ set_at (take n xs) d (right ∷ drop to xs) left n (length-take-le n xs (omega arith))
    ∙ sym (append_assoc (take n xs) (left ∷ right ∷ []) (drop to xs))
    ∙ sym (ap (λ ys. take n xs ++ ys ++ drop to xs) sides)
