use Rattle.std.proofs.Common.{◌≡◌, ◌+◌, ◌*◌, ◌-◌, ◌/◌, ◌%◌, ◌<◌, ◌≤◌, ℕ, Bool, true, false, ap, ◌∙◌, arith, nat_lt, refl}
use Rattle.std.proofs.Math.Nat.{mod-lt, mod-eq_of_lt, mod-eq-sub-mod, mod-add-mod, add-mod_right, div-lt_iff_lt-mul}
use Rattle.std.proofs.lemmas.Bool.Decides.{nat_tests}

-- a turn is one of so many in a base row, and the base row one of 16
pub turn_row : (slice n : ℕ) → 0 < n → slice % (16 * n) / n < 16
turn_row slice n some =
    let below : slice % (16 * n) < 16 * n = mod-lt slice (omega arith) in
    let iff = div-lt_iff_lt-mul {x = slice % (16 * n)} {y = 16} some in
    iff.1 below

-- turning back and on again
pub turned_back : (child turn n : ℕ) → child < n → turn < n → ((child + n - turn) % n + turn) % n ≡ child
turned_back child turn n below less =
    let whole : child + n - turn + turn ≡ child + n = omega arith in
    mod-add-mod (child + n - turn) n turn ∙ (ap (λ k. k % n) whole ∙ (add-mod_right child n ∙ mod-eq_of_lt below))

-- a turn within two rounds
once_round : (x n : ℕ) → x < n → x % n ≡ x
once_round x n below = mod-eq_of_lt below

twice_round : (x n : ℕ) → n ≤ x → x < n + n → x % n ≡ x - n
twice_round x n above below =
    let less : x - n < n = omega arith in
    mod-eq-sub-mod above ∙ mod-eq_of_lt less

-- items that are turned alike are alike
pub turned_apart : (x y turn n : ℕ) → x < n → y < n → turn < n → (x + turn) % n ≡ (y + turn) % n → x ≡ y
turned_apart x y turn n left right less same = by_rounds (nat_lt (x + turn) n) (nat_lt (y + turn) n) refl refl
  where
    by_rounds : (a b : Bool) → nat_lt (x + turn) n ≡ a → nat_lt (y + turn) n ≡ b → x ≡ y
    by_rounds true true p q =
        let px : x + turn < n = grind (arith, nat_tests) in
        let py : y + turn < n = grind (arith, nat_tests) in
        omega (arith, once_round (x + turn) n px, once_round (y + turn) n py)
    by_rounds true false p q =
        let px : x + turn < n = grind (arith, nat_tests) in
        let py : n ≤ y + turn = grind (arith, nat_tests) in
        omega (arith, once_round (x + turn) n px, twice_round (y + turn) n py (omega arith))
    by_rounds false true p q =
        let px : n ≤ x + turn = grind (arith, nat_tests) in
        let py : y + turn < n = grind (arith, nat_tests) in
        omega (arith, twice_round (x + turn) n px (omega arith), once_round (y + turn) n py)
    by_rounds false false p q =
        let px : n ≤ x + turn = grind (arith, nat_tests) in
        let py : n ≤ y + turn = grind (arith, nat_tests) in
        omega (arith, twice_round (x + turn) n px (omega arith), twice_round (y + turn) n py (omega arith))
