use Rattle.std.proofs.Common.{◌≡◌, ◌+◌, ◌%◌, ◌<◌, ℕ, List, ◌∷◌, length, drop, get_or, sym, ap, ◌∙◌, arith, add-one, length-drop, drop-cons}
use Rattle.std.specs.Prelude.{swap}
use Rattle.draid_perm.specs.Shuffle.{shuffled}

-- one word more
pub shuffled-drop : (words row next : List ℕ) (i last : ℕ) → i < length words → last + i ≡ length words
    → next ≡ swap row last (get_or words i 0 % (last + 1)) → shuffled (drop (i + 1) words) next ≡ shuffled (drop i words) row
shuffled-drop words row next i last within place is =
    let split : drop i words ≡ get_or words i 0 ∷ drop (i + 1) words = rw add-one (drop-cons words i 0 within) in
    let left : length (drop (i + 1) words) + 1 ≡ last = omega (arith, length-drop (i + 1) words) in
    let step : ℕ → List ℕ = λ n. swap row n (get_or words i 0 % (n + 1)) in
    let two : length (drop (i + 1) words) + 1 + 1 ≡ length (drop (i + 1) words) + 2 = omega arith in
    let modulus : swap row (length (drop (i + 1) words) + 1) (get_or words i 0 % (length (drop (i + 1) words) + 2)) ≡ swap row last (get_or words i 0 % (last + 1))
    = ap (λ n. swap row (length (drop (i + 1) words) + 1) (get_or words i 0 % n)) (sym two) ∙ ap step left in
    ap (shuffled (drop (i + 1) words)) (is ∙ sym modulus) ∙ sym (ap (λ ws. shuffled ws row) split)
