-- The lines of a section that is read.
use Rattle.std.proofs.Common.{arith, refl, sym, ap, ◌≡◌, ◌∙◌, ◌<◌, ◌+◌, ℕ, zero, suc, List, [], ◌∷◌, ◌++◌, Vec, Global, length, map, replicate, slice_index_or, slice_set}
use Rattle.draid_script.specs.Line.{command_in}
use Rattle.draid_script.specs.declared.line.Line.{Line}
use Rattle.draid_session.specs.Places.{with_command}
use Rattle.draid_clashes.specs.Lanes.{commands_in, lanes_in}

one_more : (k : ℕ) → k + 1 ≡ suc k
one_more k = omega arith

map_both : {S T : Type 0} (f : S → T) (xs ys : List S) → map f (xs ++ ys) ≡ map f xs ++ map f ys
map_both f [] ys = refl
map_both f (x ∷ xs) ys = ap (λ zs. f x ∷ zs) (map_both f xs ys)

pub lanes_many : (lanes : List (Vec Line Global)) → length (lanes_in lanes) ≡ length lanes
lanes_many [] = refl
lanes_many (lane ∷ lanes) = (let rest = lanes_many lanes in omega (arith, rest))

none_more : {T : Type 0} (x : T) (n : ℕ) → replicate n x ++ x ∷ [] ≡ replicate (n + 1) x
none_more x n = last x n ∙ ap (λ m. replicate m x) (sym (one_more n))
  where
    last : {T : Type 0} (x : T) (n : ℕ) → replicate n x ++ x ∷ [] ≡ replicate (suc n) x
    last x zero = refl
    last x (suc n) = ap (λ zs. x ∷ zs) (last x n)

pub opens_more : (lanes : List (Vec Line Global)) (lane : Vec Line Global) (n : ℕ) → lane.items ≡ [] → lanes_in lanes ≡ replicate n [] → lanes_in (lanes ++ lane ∷ []) ≡ replicate (n + 1) []
opens_more lanes lane n none are =
    map_both (λ (l : Vec Line Global). commands_in l.items) lanes (lane ∷ []) ∙ ap (λ zs. zs ++ commands_in lane.items ∷ []) are ∙ ap (λ zs. replicate n [] ++ commands_in zs ∷ []) none ∙ none_more [] n

pub adds_line : (lanes : List (Vec Line Global)) (i : ℕ) (was is : Vec Line Global) (line : Line) → i < length lanes → was ≡ slice_index_or lanes i was → is.items ≡ was.items ++ line ∷ []
    → lanes_in (slice_set lanes i is) ≡ with_command i (command_in line) (lanes_in lanes)
adds_line [] i was is line few there added = absurd (omega (arith, few))
adds_line (l ∷ lanes) zero was is line few there added =
    ap (λ zs. zs ∷ lanes_in lanes) (ap commands_in added ∙ map_both command_in was.items (line ∷ []) ∙ ap (λ (w : Vec Line Global). commands_in w.items ++ command_in line ∷ []) there)
adds_line (l ∷ lanes) (suc i) was is line few there added = ap (λ zs. commands_in l.items ∷ zs) (adds_line lanes i was is line (omega (arith, few)) there added)
