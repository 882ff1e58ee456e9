-- The spares that a chain passes, by the slot at each spare's position and by each slot's first spare.
use Rattle.std.proofs.Common.{◌≡◌, ◌≢◌, ◌<◌, ◌≤◌, ◌||◌, ℕ, Bool, true, false, List, [], ◌∷◌, length, Option, Some, refl, sym, ap, ◌∙◌, subst, arith}
use Rattle.std.specs.List.{AllByRecursion, IsDistinct, list_any}
use Rattle.std.proofs.Math.Dec.{eqb}
use Rattle.std.proofs.lemmas.Bool.Decides.{nat_tests}
use Rattle.std.proofs.lemmas.Map.Steps.{length-le_from_distinct_below}
use Rattle.draid_names.specs.Spares.{AreOfOne, AreUsed, IsArm}

-- the spares stand on slots, no two of them on one
pub record AreSpread (slot_at : ℕ → ℕ) (slots spares : ℕ) : Type 0 where
  pub low : (spare : ℕ) → slot_at spare < slots
  pub apart : (t u : ℕ) → t < spares → u < spares → slot_at t ≡ slot_at u → t ≡ u

-- no spare stands on a slot
abbrev pub IsOff : (ℕ → ℕ) → ℕ → ℕ → Type 0
IsOff slot_at spares slot = (spare : ℕ) → spare < spares → slot_at spare ≢ slot

-- a chain has come from one spare to another over these ones, the last of them in front
abbrev pub IsWay : (ℕ → ℕ) → ℕ → (ℕ → Option ℕ) → ℕ → ℕ → List ℕ → Type 0
IsWay slot_at spares first spare last [] = spare ≡ last
IsWay slot_at spares first spare last (before ∷ rest) =
    ((before < spares) × (first (slot_at before) ≡ Some last)) × IsWay slot_at spares first spare before rest

-- no slot at which a spare stands has this one first
abbrev pub NoneLeads : (ℕ → ℕ) → ℕ → (ℕ → Option ℕ) → ℕ → Type 0
NoneLeads slot_at spares first spare = (before : ℕ) → before < spares → first (slot_at before) ≢ Some spare

-- nothing leads to an arm of a slot on which no spare stands
pub no_lead : (slot_at : ℕ → ℕ) (slots spares slot spare : ℕ) (first : ℕ → Option ℕ) → AreSpread slot_at slots spares
    → IsOff slot_at spares slot → IsArm slots spares first slot spare → NoneLeads slot_at spares first spare
no_lead slot_at slots spares slot spare first spread off arm before there is =
    off before there (arm.only (slot_at before) (spread.low before) is)

-- where two ways come to one spare, also by two tables, they begin with one spare
pub one_start : (slot_at : ℕ → ℕ) (slots spares t u last : ℕ) (earlier later : ℕ → Option ℕ) (ws xs : List ℕ)
    → AreSpread slot_at slots spares → AreOfOne slots earlier later
    → NoneLeads slot_at spares later t → NoneLeads slot_at spares earlier u
    → IsWay slot_at spares earlier t last ws → IsWay slot_at spares later u last xs → t ≡ u
one_start slot_at slots spares t u last earlier later [] [] spread one nt nu p q = p ∙ sym q
one_start slot_at slots spares t u last earlier later [] (x ∷ xs) spread one nt nu p q = absurd (nt x q.0.0 (q.0.1 ∙ ap Some (sym p)))
one_start slot_at slots spares t u last earlier later (w ∷ ws) [] spread one nt nu p q = absurd (nu w p.0.0 (p.0.1 ∙ ap Some (sym q)))
one_start slot_at slots spares t u last earlier later (w ∷ ws) (x ∷ xs) spread one nt nu p q =
    let same : w ≡ x = spread.apart w x p.0.0 q.0.0 (one (slot_at w) (slot_at x) last (spread.low w) (spread.low x) p.0.1 q.0.1) in
    one_start slot_at slots spares t u w earlier later ws xs spread one nt nu p.1
    (subst (λ y. IsWay slot_at spares later u y xs) (sym same) q.1)

differ : (x y : ℕ) → x ≢ y → eqb x y ≡ false
differ x y other = grind (arith, nat_tests)

differs : (x y : ℕ) → eqb x y ≡ false → x ≢ y
differs x y test same = grind (arith, nat_tests)

-- a spare to which one leads that isn't on the way isn't the last one or on the way
not_passed : (slot_at : ℕ → ℕ) (slots spares slot spare last w x : ℕ) (first : ℕ → Option ℕ) (ws : List ℕ)
    → AreSpread slot_at slots spares → AreUsed slots spares first → IsOff slot_at spares slot → IsArm slots spares first slot spare
    → IsWay slot_at spares first spare last ws → w < spares → first (slot_at w) ≡ Some x
    → AllByRecursion (λ y. eqb w y ≡ false) ws → AllByRecursion (λ y. eqb x y ≡ false) (last ∷ ws)
not_passed slot_at slots spares slot spare last w x first [] spread used off arm way there is others =
    (differ x last (λ same. no_lead slot_at slots spares slot spare first spread off arm w there (is ∙ ap Some (same ∙ sym way))), tt)
not_passed slot_at slots spares slot spare last w x first (b ∷ ws) spread used off arm way there is others = (
  differ x last (λ same. differs w b others.0
      (spread.apart w b there way.0.0 (used.apart (slot_at w) (slot_at b) last (spread.low w) (spread.low b) (is ∙ ap Some same) way.0.1))),
  not_passed slot_at slots spares slot spare b w x first ws spread used off arm way.1 there is others.1,
)

-- no spare is passed twice
passed_once : (slot_at : ℕ → ℕ) (slots spares slot spare last : ℕ) (first : ℕ → Option ℕ) (ws : List ℕ)
    → AreSpread slot_at slots spares → AreUsed slots spares first → IsOff slot_at spares slot → IsArm slots spares first slot spare
    → IsWay slot_at spares first spare last ws → IsDistinct eqb (last ∷ ws)
unfolding IsDistinct
passed_once slot_at slots spares slot spare last first [] spread used off arm way = (tt, tt)
passed_once slot_at slots spares slot spare last first (b ∷ ws) spread used off arm way =
    let rest : IsDistinct eqb (b ∷ ws) = passed_once slot_at slots spares slot spare b first ws spread used off arm way.1 in
    (not_passed slot_at slots spares slot spare b b last first ws spread used off arm way.1 way.0.0 way.0.1 rest.0, rest)

-- what is passed are spares
passed_below : (slot_at : ℕ → ℕ) (spares spare last : ℕ) (first : ℕ → Option ℕ) (ws : List ℕ) → last < spares → IsWay slot_at spares first spare last ws
    → (q : ℕ) → list_any (eqb q) (last ∷ ws) ≡ true → q < spares
passed_below slot_at spares spare last first [] low way q is = grind (arith, nat_tests)
passed_below slot_at spares spare last first (b ∷ ws) low way q is = by_last (eqb q last) refl (passed_below slot_at spares spare b first ws way.0.0 way.1 q)
  where
    by_last : (test : Bool) → eqb q last ≡ test → (list_any (eqb q) (b ∷ ws) ≡ true → q < spares) → q < spares
    by_last true p rest =
        let same : q ≡ last = grind (arith, nat_tests) in
        omega arith
    by_last false p rest = rest (sym (ap (λ x. x || list_any (eqb q) (b ∷ ws)) p) ∙ is)

-- so they are at most as many as there are spares
pub few_passed : (slot_at : ℕ → ℕ) (slots spares slot spare last : ℕ) (first : ℕ → Option ℕ) (ws : List ℕ)
    → AreSpread slot_at slots spares → AreUsed slots spares first → IsOff slot_at spares slot → IsArm slots spares first slot spare
    → last < spares → IsWay slot_at spares first spare last ws → length ws < spares
few_passed slot_at slots spares slot spare last first ws spread used off arm low way =
    let most : length (last ∷ ws) ≤ spares = length-le_from_distinct_below (last ∷ ws) spares
    (passed_once slot_at slots spares slot spare last first ws spread used off arm way)
    (passed_below slot_at spares spare last first ws low way) in
    omega arith
