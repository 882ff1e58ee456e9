-- Readings and lists of leaves.
use Rattle.std.proofs.Common.{◌≡◌, ◌<◌, ◌&&◌, ◌||◌, ◌==◌, ℕ, zero, suc, Bool, true, false, List, [], ◌∷◌, Some, None, find, length, get_or, refl, sym, ◌∙◌, ap, arith}
use Rattle.std.proofs.lemmas.Bool.{true≢false}
use Rattle.std.proofs.lemmas.Bool.Decides.{nat_tests}
use Rattle.draid_machine.specs.declared.names.ArmName.{ArmName}
use Rattle.draid_machine.specs.declared.names.Held.{Held}
use Rattle.draid_machine.specs.Names.{has_number}
use Rattle.draid_machine.specs.State.{Layout, Core}
use Rattle.draid_machine.specs.Arms.{answers, is_clean, reading, else_some}

pub reading_else : (l : Layout) (q : Core) (h : Held) (c : ℕ) (names : List ArmName) → names ≡ q.order (l.slot_of h.first c) → find (λ n. answers l q n h.first && is_clean q h.birth n) names ≡ None
    → find (λ n. answers l q n h.first) names ≡ reading l q h c
reading_else l q h c names is none =
    ap (λ o. else_some o (find (λ n. answers l q n h.first) names)) (sym none)
    ∙ ap (λ ns. else_some (find (λ n. answers l q n h.first && is_clean q h.birth n) ns) (find (λ n. answers l q n h.first) ns)) is

pub reading_first : (l : Layout) (q : Core) (h : Held) (c : ℕ) (names : List ArmName) (n : ArmName) → names ≡ q.order (l.slot_of h.first c)
    → find (λ n. answers l q n h.first && is_clean q h.birth n) names ≡ Some n → Some n ≡ reading l q h c
reading_first l q h c names n is first =
    ap (λ o. else_some o (find (λ n. answers l q n h.first) (q.order (l.slot_of h.first c)))) (sym (ap (find (λ n. answers l q n h.first && is_clean q h.birth n)) (sym is) ∙ first))

-- a number of a list stands somewhere
pub number_at : (xs : List ℕ) (leaf : ℕ) → has_number xs leaf ≡ true → (i : ℕ) × (i < length xs) × (get_or xs i 0 ≡ leaf)
number_at [] leaf e = absurd (true≢false (sym e))
number_at (x ∷ xs) leaf e = by (x == leaf) refl e (number_at xs leaf)
  where
    by : (b : Bool) → (x == leaf) ≡ b → (b || has_number xs leaf) ≡ true → (has_number xs leaf ≡ true → (i : ℕ) × (i < length xs) × (get_or xs i 0 ≡ leaf))
        → (i : ℕ) × (i < length (x ∷ xs)) × (get_or (x ∷ xs) i 0 ≡ leaf)
    by true is e more = (0, omega arith, grind (arith, nat_tests))
    by false is e more = let z = more e in (suc z.0, (let l = z.1 in omega (arith, l)), z.2)

pub number_here : (xs : List ℕ) (at d : ℕ) → at < length xs → has_number xs (get_or xs at d) ≡ true
number_here [] at d less = absurd (omega (arith, less))
number_here (x ∷ xs) zero d less = grind (arith, nat_tests)
number_here (x ∷ xs) (suc at) d less = let z = number_here xs at d (omega (arith, less)) in grind (arith, nat_tests)
