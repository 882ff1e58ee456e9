-- A text that grows by the line of one entry after another.
use Rattle.std.proofs.Common.{◌≡◌, ◌+◌, ◌<◌, ◌++◌, ◌∙◌, ℕ, List, [], ◌∷◌, length, take, get_or, sym, ap}
use Rattle.std.proofs.lemmas.List.{flat_map_more, take_more}
use Rattle.std.specs.List.{flat_map}

pub one_more : {X : Type 0} (f : X → List ℕ) (xs : List X) (k : ℕ) (d : X) (old added new : List ℕ) → k < length xs → old ≡ flat_map f (take k xs) → added ≡ f (get_or xs k d) → new ≡ old ++ added → new ≡ flat_map f (take (k + 1) xs)
one_more f xs k d old added new below was is grown =
    grown ∙ ap (λ o. o ++ added) was ∙ ap (λ a. flat_map f (take k xs) ++ a) is ∙ flat_map_more f [] (take k xs) (get_or xs k d) ∙ ap (flat_map f) (sym (take_more xs k d below))
