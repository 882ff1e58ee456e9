-- What a source in memory gives, and what is left then.
use Rattle.std.proofs.Common.{◌≡◌, ℕ, ◌+◌, ◌<◌, List, [], ◌++◌, length, take, drop, min, sym, ap, ◌∙◌, arith, length-append, length-drop, length-take, take-append-drop}
use Rattle.std.proofs.lemmas.List.{drop-drop, nil_from_length, take_at}

-- the front of what was left was copied, and the rest is left
copied_here : (bytes into new : List ℕ) (start count : ℕ) → count ≡ min (length (drop start bytes)) (length into) → new ≡ take count (drop start bytes) ++ drop count into → (drop start bytes ≡ take count new ++ drop (start + count) bytes) × (count ≡ 0 → 0 < length new → drop (start + count) bytes ≡ [])
copied_here bytes into new start count counted copied =
    let whole : length (take count (drop start bytes)) ≡ count = omega (arith, length-take count (drop start bytes)) in
    let front : take count new ≡ take count (drop start bytes) = ap (take count) copied ∙ take_at (take count (drop start bytes)) (drop count into) count whole in
    let rest : drop count (drop start bytes) ≡ drop (start + count) bytes = drop-drop count start bytes in
    let joined : take count (drop start bytes) ++ drop count (drop start bytes) ≡ take count new ++ drop (start + count) bytes =
    ap (λ (xs : List ℕ). xs ++ drop count (drop start bytes)) (sym front) ∙ ap (λ (xs : List ℕ). take count new ++ xs) rest in (
      sym (take-append-drop count (drop start bytes)) ∙ joined,
      λ none some.
          let same : length new ≡ length into = ap length copied ∙ omega (arith, length-append (take count (drop start bytes)) (drop count into), length-drop count into) in
          nil_from_length (drop (start + count) bytes) (omega (arith, length-drop (start + count) bytes, length-drop start bytes)),
    )

-- the same, where the left bytes go by other names
pub front_copied : (bytes left from into new : List ℕ) (start count : ℕ) → drop start bytes ≡ left → from ≡ drop start bytes → count ≡ min (length from) (length into) → new ≡ take count from ++ drop count into → (left ≡ take count new ++ drop (start + count) bytes) × (count ≡ 0 → 0 < length new → drop (start + count) bytes ≡ [])
front_copied bytes left from into new start count here same counted copied =
    let done = copied_here bytes into new start count (counted ∙ ap (λ (xs : List ℕ). min (length xs) (length into)) same) (copied ∙ ap (λ (xs : List ℕ). take count xs ++ drop count into) same) in
    (sym here ∙ done.0, done.1)
