-- Lines that are added to a text.
use Rattle.std.proofs.Common.{◌≡◌, ◌∙◌, sym, ap, ◌++◌, ◌∷◌, [], ℕ, List, ◌+◌, arith, append_assoc}
use Rattle.std.specs.Prelude.{flat_map}
use Rattle.std.proofs.lemmas.Grind.{flat_map-append}
use Rattle.std.proofs.lemmas.List.{append-nil}
use Rattle.std.proofs.lemmas.List.FromFn.{map-range_with_len_more}
use Rattle.draid_gen.specs.Workload.{Line, printed, each, AddsLines}

pub adds_none : (old : List ℕ) → AddsLines old [] old
adds_none old = sym (append-nil old)

-- lines behind lines
pub adds_more : (old middle new : List ℕ) (xs ys : List Line) → AddsLines old xs middle → AddsLines middle ys new → AddsLines old (xs ++ ys) new
adds_more old middle new xs ys first second =
    second ∙ ap (λ (text : List ℕ). text ++ flat_map printed ys) first
    ∙ append_assoc old (flat_map printed xs) (flat_map printed ys)
    ∙ ap (λ (text : List ℕ). old ++ text) (sym (flat_map-append printed xs ys))

-- the line of one more number
pub adds_each : (n : ℕ) (line : ℕ → Line) (old middle new : List ℕ) → AddsLines old (each n line) middle → AddsLines middle (line n ∷ []) new → AddsLines old (each (n + 1) line) new
adds_each n line old middle new first second =
    adds_more old middle new (each n line) (line n ∷ []) first second
    ∙ ap (λ (lines : List Line). old ++ flat_map printed lines) (sym (map-range_with_len_more line 0 n n (omega arith)))

-- the lines that a text began with
pub begins : (old new : List ℕ) (lines : List Line) → old ≡ [] → AddsLines old lines new → new ≡ flat_map printed lines
begins old new lines none adds = adds ∙ ap (λ (text : List ℕ). text ++ flat_map printed lines) none

-- nine parts, one after another
pub in_nine : (a b c d e f g h i : List Line) (t0 t1 t2 t3 t4 t5 t6 t7 t8 t9 : List ℕ) → t0 ≡ []
    → AddsLines t0 a t1 → AddsLines t1 b t2 → AddsLines t2 c t3 → AddsLines t3 d t4 → AddsLines t4 e t5 → AddsLines t5 f t6
    → AddsLines t6 g t7 → AddsLines t7 h t8 → AddsLines t8 i t9
    → t9 ≡ flat_map printed (a ++ b ++ c ++ d ++ e ++ f ++ g ++ h ++ i)
in_nine a b c d e f g h i t0 t1 t2 t3 t4 t5 t6 t7 t8 t9 none one two three four five six seven eight nine =
    begins t0 t9 (a ++ b ++ c ++ d ++ e ++ f ++ g ++ h ++ i) none
    (adds_more t0 t8 t9 (a ++ b ++ c ++ d ++ e ++ f ++ g ++ h) i
    (adds_more t0 t7 t8 (a ++ b ++ c ++ d ++ e ++ f ++ g) h
    (adds_more t0 t6 t7 (a ++ b ++ c ++ d ++ e ++ f) g
    (adds_more t0 t5 t6 (a ++ b ++ c ++ d ++ e) f
    (adds_more t0 t4 t5 (a ++ b ++ c ++ d) e
    (adds_more t0 t3 t4 (a ++ b ++ c) d
    (adds_more t0 t2 t3 (a ++ b) c
    (adds_more t0 t1 t2 a b one two) three) four) five) six) seven) eight) nine)
