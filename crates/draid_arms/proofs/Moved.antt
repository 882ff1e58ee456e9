-- Spares that have come to lie elsewhere.
use Rattle.std.proofs.Common.{◌≡◌, ◌+◌, ◌-◌, ◌/◌, ◌<◌, ◌≤◌, ◌&&◌, ◌||◌, ◌==◌, not, ℕ, zero, suc, Bool, true, false, nat_lt, List, None, if◌then◌else◌, inl, inr, refl, sym, ◌∙◌, ap, ap₂, arith}
use Rattle.std.proofs.lemmas.Bool.{cases_lt}
use Rattle.std.proofs.lemmas.Bool.Decides.{nat_tests}
use Rattle.std.proofs.Math.Nat.{add-div_right, div-eq_of_lt, zero-div}
use Rattle.draid_machine.specs.declared.names.ArmName.{ArmName}
use Rattle.draid_machine.specs.declared.names.ArmName.TheVariants.{Leaf, Spare}
use Rattle.draid_machine.specs.Names.{any_below, has_name, name_eq}
use Rattle.draid_machine.specs.State.{Layout, IsLayout, Core}
use Rattle.draid_machine.specs.Arms.{first_leaf, first_spares, has_column, has_moved, same_leaf}
use Rattle.draid_machine.proofs.Small.{is_equal}
use Rattle.draid_arms.specs.Moves.{moved_at}

-- no number below one passes a test, and a height of numbers begins at it
pub record IsPassed (height from : ℕ) (p : ℕ → Bool) : Type 0 where
  pub none : (x : ℕ) → x < from → p x ≡ false
  pub start : (x : ℕ) → from ≤ x → x < from + height → x / height ≡ from / height

pub passed_start : (height : ℕ) (p : ℕ → Bool) → IsPassed height 0 p
passed_start height p = record {
  none = λ x less. absurd (omega (arith, less));
  start = λ x from less. div-eq_of_lt {n = x} {m = height} (omega (arith, less)) ∙ sym (zero-div height);
}

pub passed_more : (height from : ℕ) (p : ℕ → Bool) → 0 < height → ((x y : ℕ) → x / height ≡ y / height → p x ≡ p y) → p from ≡ false → IsPassed height from p → IsPassed height (from + height) p
passed_more height from p tall steady here i = record {
  none = λ x less. elim (cases_lt x from) [
    | inl before ↦ i.none x before
    | inr past ↦ steady x from (i.start x past less) ∙ here
  ];
  start = λ x past less.
      let back : x ≡ (x - height) + height = omega (arith, past) in
      ap (λ y. y / height) back ∙ add-div_right (x - height) {k = height} tall
      ∙ ap (λ y. y + 1) (i.start (x - height) (omega (arith, past)) (omega (arith, past, less)))
      ∙ sym (add-div_right from {k = height} tall);
}

pub none_any : (n : ℕ) (p : ℕ → Bool) → ((x : ℕ) → x < n → p x ≡ false) → any_below n p ≡ false
none_any zero p none = refl
none_any (suc n) p none = ap₂ (λ a b. a || b) (none_any n p (λ x less. none x (omega (arith, less)))) (none n (omega arith))

pub moved_steady : (l : Layout) → IsLayout l → (before : ℕ → List ArmName) (q : Core) (t x y : ℕ) → x / l.height ≡ y / l.height → moved_at l before q (Spare t) x ≡ moved_at l before q (Spare t) y
moved_steady l lay before q t x y e = λ i.
    any_below l.columns (λ c. has_name (q.order (lay.steady x y c e i)) (Spare t))
    && not (same_leaf (if nat_lt t l.spares then first_leaf (before (lay.steady_home (first_spares before) x y t e i)) else None)
    (if nat_lt t l.spares then first_leaf (q.order (lay.steady_home (first_spares q.order) x y t e i)) else None))

pub one_more : (old here moved : Bool) → moved ≡ true → (old || (here || false)) ≡ (old || (here && moved))
one_more old true moved is = ap (λ b. old || b) (sym is)
one_more old false moved is = refl

-- ---- the spares below a number
abbrev pub is_spare_below : ℕ → ArmName → Bool
is_spare_below u (Leaf m) = false
is_spare_below u (Spare t) = nat_lt t u

pub none_yet : (p : ArmName → Bool) (n : ArmName) → false ≡ (is_spare_below 0 n && p n)
none_yet p (Leaf m) = refl
none_yet p (Spare t) = ap (λ b. b && p (Spare t)) (let out : false ≡ nat_lt t 0 = grind (arith, nat_tests) in out)

pub next_spare : (p : ArmName → Bool) (u : ℕ) (n : ArmName) (old new : Bool) → old ≡ (is_spare_below u n && p n) → new ≡ (old || (name_eq (Spare u) n && p (Spare u))) → new ≡ (is_spare_below (u + 1) n && p n)
next_spare p u (Leaf m) old new was is = is ∙ ap (λ b. b || false) was
next_spare p u (Spare t) old new was is = is ∙ ap (λ b. b || ((u == t) && p (Spare u))) was ∙ by (u == t) refl
  where
    either : (a : Bool) → (false || a) ≡ a
    either a = refl

    neither : (a b : Bool) → ((a && b) || false) ≡ (a && b)
    neither true true = refl
    neither true false = refl
    neither false b = refl

    by : (b : Bool) → (u == t) ≡ b → ((nat_lt t u && p (Spare t)) || ((u == t) && p (Spare u))) ≡ (nat_lt t (u + 1) && p (Spare t))
    by true e =
        let same : u ≡ t = is_equal u t e in
        let out : nat_lt t u ≡ false = grind (arith, nat_tests, same) in
        let in_now : nat_lt t (u + 1) ≡ true = grind (arith, nat_tests, same) in
        rw out (rw e (rw in_now (ap (λ x. p (Spare x)) same)))
    by false e =
        let still : nat_lt t u ≡ nat_lt t (u + 1) = grind (arith, nat_tests, e) in
        rw e (neither (nat_lt t u) (p (Spare t)) ∙ ap (λ b. b && p (Spare t)) still)

pub spares_all : (l : Layout) (before q : Core) (n : ArmName) → (is_spare_below l.spares n && has_moved l before q n) ≡ has_moved l before q n
spares_all l before q (Leaf m) = refl
spares_all l before q (Spare t) = by (nat_lt t l.spares) refl
  where
    no_column : (b : Bool) → (b && false) ≡ false
    no_column true = refl
    no_column false = refl

    by : (b : Bool) → nat_lt t l.spares ≡ b → (b && has_moved l before q (Spare t)) ≡ has_moved l before q (Spare t)
    by true e = refl
    by false e = sym (none_any l.stripes (moved_at l before.order q (Spare t)) (λ x less.
        ap (λ b. has_column l q (Spare t) x && not (same_leaf (if b then first_leaf (before.order (l.home (first_spares before.order) t x)) else None)
        (if b then first_leaf (q.order (l.home (first_spares q.order) t x)) else None))) e
        ∙ no_column (has_column l q (Spare t) x)))

-- what has moved goes by the orders alone
pub moved_by_order : (l : Layout) (before other q : Core) (n : ArmName) → before.order ≡ other.order → has_moved l before q n ≡ has_moved l other q n
moved_by_order l before other q (Leaf m) e = refl
moved_by_order l before other q (Spare t) e = ap (λ order. any_below l.stripes (moved_at l order q (Spare t))) e
