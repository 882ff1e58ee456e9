-- How the holds of a phase grow at their end, as a loop over the metaslabs makes them.
use Rattle.std.proofs.Common.{◌≡◌, ◌≢◌, ◌<◌, ◌+◌, ◌++◌, [], ◌∷◌, inl, inr, ℕ, zero, suc, List, arith, refl, ap, subst}
use Rattle.draid_session.specs.Holds.{Hold}
use Rattle.draid_session.specs.Phases.{Each, End, Walk, Went}

-- one hold for each of so many metaslabs from one on, and the sum of the numbers that they give
abbrev pub Walked : (ℕ → Hold → ℕ → Type 0) → ℕ → ℕ → List Hold → ℕ → Type 0
Walked P m zero holds sum = (holds ≡ []) × (sum ≡ 0)
Walked P m (suc n) holds sum =
    (hold : Hold) × (rest : List Hold) × (x : ℕ) × (more : ℕ) × (holds ≡ hold ∷ rest) × (sum ≡ x + more) × P m hold x × Walked P (m + 1) n rest more

-- the hold of the next metaslab comes behind them
pub walked_more : (P : ℕ → Hold → ℕ → Type 0) (m n : ℕ) (holds : List Hold) (sum : ℕ) (hold : Hold) (x : ℕ) → Walked P m n holds sum → P (m + n) hold x
    → Walked P m (suc n) (holds ++ hold ∷ []) (sum + x)
walked_more P m zero holds sum hold x w p = (
  hold,
  [],
  x,
  0,
  ap (λ hs. hs ++ hold ∷ []) w.0,
  (let none = w.1 in omega (arith, none)),
  subst (λ k. P k hold x) (let same : m + 0 ≡ m = omega arith in same) p,
  (refl, refl),
)
walked_more P m (suc n) holds sum hold x w p = (
  w.0,
  w.1 ++ hold ∷ [],
  w.2,
  w.3 + x,
  ap (λ hs. hs ++ hold ∷ []) w.4,
  (let all = w.5 in omega (arith, all)),
  w.6,
  walked_more P (m + 1) n w.1 w.3 hold x w.7 (subst (λ k. P k hold x) (let same : m + suc n ≡ m + 1 + n = omega arith in same) p),
)

-- all metaslabs were gone through
pub walk_went : (P : ℕ → Hold → ℕ → Type 0) (S : ℕ → Hold → End → Type 0) (m n : ℕ) (holds : List Hold) (sum : ℕ) → Walked P m n holds sum → Walk P S m n holds Went sum
walk_went P S m zero holds sum w = (w.0, refl, w.1)
walk_went P S m (suc n) holds sum w = inl (w.0, w.1, w.2, w.3, w.4, w.5, w.6, walk_went P S (m + 1) n w.1 w.3 w.7)

-- the hold of the next one stopped them
pub walk_stops : (P : ℕ → Hold → ℕ → Type 0) (S : ℕ → Hold → End → Type 0) (m n all : ℕ) (holds : List Hold) (sum : ℕ) (hold : Hold) (end : End) → n < all → Walked P m n holds sum
    → end ≢ Went → S (m + n) hold end → Walk P S m all (holds ++ hold ∷ []) end sum
walk_stops P S m n zero holds sum hold end less w stopped s = absurd (omega (arith, less))
walk_stops P S m zero (suc all) holds sum hold end less w stopped s =
    inr (inl (hold, ap (λ hs. hs ++ hold ∷ []) w.0, stopped, w.1, subst (λ k. S k hold end) (let same : m + 0 ≡ m = omega arith in same) s))
walk_stops P S m (suc n) (suc all) holds sum hold end less w stopped s = inl (
  w.0,
  w.1 ++ hold ∷ [],
  w.2,
  w.3,
  ap (λ hs. hs ++ hold ∷ []) w.4,
  w.5,
  w.6,
  walk_stops P S (m + 1) n all w.1 w.3 hold end (omega (arith, less)) w.7 stopped (subst (λ k. S k hold end) (let same : m + suc n ≡ m + 1 + n = omega arith in same) s),
)

-- and those of a walk in which nothing gives a number
pub walk_each : (P : ℕ → Hold → Type 0) (m n : ℕ) (holds : List Hold) (sum : ℕ) → Walked (λ k hold x. P k hold × (x ≡ 0)) m n holds sum → Each P m n holds
walk_each P m zero holds sum w = w.0
walk_each P m (suc n) holds sum w = (w.0, w.1, w.4, w.6.0, walk_each P (m + 1) n w.1 w.3 w.7)
