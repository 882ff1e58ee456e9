use Rattle.std.proofs.Common.{◌≡◌, ◌≢◌, ◌==◌, ◌+◌, ◌*◌, ◌-◌, ◌%◌, ◌<◌, ◌≤◌, ℕ, zero, suc, Bool, true, false, refl, sym, ap, ◌∙◌, subst, arith, if◌then◌else◌}
use Prim.Native.Nat.{◌∣◌}
use Rattle.std.proofs.Math.Nat.{dvd-sub, dvd-add, dvd-mul_left, dvd-mul_right}
use Rattle.std.proofs.lemmas.Nat.Gcd.{dvd_refl, le_of_dvd, dvd_of_mod-eq-zero, mod-eq-zero_of_dvd}
use Rattle.std.proofs.lemmas.Bool.Decides.{nat_tests}
use Rattle.draid_spec.specs.Multiple.{IsLeastCommonMultiple, first_multiple, lcm}

-- m is a multiple of a, and no common multiple of a and b is below it
pub record IsNotAbove (a b m : ℕ) : Type 0 where
  pub positive : 0 < m
  pub left : a ∣ m
  pub least : (k : ℕ) → 0 < k → a ∣ k → b ∣ k → m ≤ k

pub first_not_above : (a b : ℕ) → 0 < a → IsNotAbove a b a
first_not_above a b pos = record { positive = pos; left = dvd_refl a; least = λ k some da _. le_of_dvd some da }

pub next_not_above : (a b m : ℕ) → 0 < a → IsNotAbove a b m → m % b ≢ 0 → IsNotAbove a b (m + a)
next_not_above a b m pos w odd = record {
  positive = let h : 0 < m = w.positive in omega arith;
  left = dvd-add a w.left (dvd_refl a);
  least = λ k some da db.
      let below : m ≤ k = w.least k some da db in
      let even : k % b ≡ 0 = mod-eq-zero_of_dvd b db in
      let apart : m ≢ k = λ e. odd (ap (λ n. n % b) e ∙ even) in
      let gap : 0 < k - m = omega arith in
      let step : a ≤ k - m = le_of_dvd gap (dvd-sub a da w.left) in
      omega arith;
}

pub product_above : (a b m : ℕ) → 0 < a → 0 < b → IsNotAbove a b m → m % b ≢ 0 → m < a * b
product_above a b m pos some w odd =
    let positive : 0 < a * b = grind arith in
    let below : m ≤ a * b = w.least (a * b) positive (dvd-mul_right a b) (dvd-mul_left b a) in
    let even : (a * b) % b ≡ 0 = mod-eq-zero_of_dvd b (dvd-mul_left b a) in
    let apart : m ≢ a * b = λ e. odd (ap (λ n. n % b) e ∙ even) in
    omega arith

pub least_found : (a b m : ℕ) → IsNotAbove a b m → m % b ≡ 0 → IsLeastCommonMultiple a b m
least_found a b m w even = record { positive = w.positive; left = w.left; right = dvd_of_mod-eq-zero b even; least = w.least }

pub same_least : (a b m n : ℕ) → IsLeastCommonMultiple a b m → IsLeastCommonMultiple a b n → m ≡ n
same_least a b m n x y =
    let below : m ≤ n = x.least n y.positive y.left y.right in
    let above : n ≤ m = y.least m x.positive x.left x.right in
    omega arith

first_multiple-is : (a b k more : ℕ) → 0 < a → k + more ≡ b → IsNotAbove a b (k * a) → IsLeastCommonMultiple a b (first_multiple a b k more)
first_multiple-is a b k zero pos sum w =
    let last : k ≡ b = omega arith in
    record { positive = w.positive; left = w.left; right = let P : ℕ → Type 0 = λ n. n ∣ k * a in subst P last (dvd-mul_right k a); least = w.least }
first_multiple-is a b k (suc more) pos sum w =
    let next : (k + 1) * a ≡ k * a + a = grind arith in
    let P : ℕ → Type 0 = λ n. IsNotAbove a b n in
    by_test (k * a % b == 0) refl
    (λ odd. first_multiple-is a b (k + 1) more pos (omega arith) (subst P (sym next) (next_not_above a b (k * a) pos w odd)))
  where
    by_test : (t : Bool) → (k * a % b == 0) ≡ t
        → (k * a % b ≢ 0 → IsLeastCommonMultiple a b (first_multiple a b (k + 1) more))
        → IsLeastCommonMultiple a b (if t then k * a else first_multiple a b (k + 1) more)
    by_test true e rest = least_found a b (k * a) w (grind (arith, nat_tests))
    by_test false e rest = rest (grind (arith, nat_tests))

pub lcm-is : (a b : ℕ) → 0 < a → 0 < b → IsLeastCommonMultiple a b (lcm a b)
unfolding lcm
lcm-is a b pos some =
    let P : ℕ → Type 0 = λ n. IsNotAbove a b n in
    let one : a ≡ 1 * a = omega arith in
    first_multiple-is a b 1 (b - 1) pos (omega arith) (subst P one (first_not_above a b pos))

pub lcm_unique : (a b m : ℕ) → 0 < a → 0 < b → IsLeastCommonMultiple a b m → m ≡ lcm a b
lcm_unique a b m pos some is = same_least a b m (lcm a b) is (lcm-is a b pos some)
