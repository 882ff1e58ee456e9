use Rattle.std.proofs.Common.{◌≡◌, ◌+◌, ◌-◌, ◌*◌, ◌/◌, ◌<◌, ◌≤◌, ◌^◌, ℕ, suc, false, ◌||◌, List, length, take, drop, get_or, refl, ap, arith, sym, subst, ◌∙◌, div-mul-le_self, mul-le-mul_left}
use Rattle.std.proofs.Math.Nat.{pow-succ'}
use Rattle.std.proofs.Math.Seq.{drop-length}
use Rattle.draid_ranges.specs.declared.run.Run.{Run}
use Rattle.draid_ranges.specs.Runs.{AreApart, end_of, has_in}
use Rattle.draid_ranges.proofs.Within.{behind_at, has_parts, more_before, out_high, out_low}

-- The number is in none of the runs before low and from high on, and the number of those between,
-- doubled with each step, is no more than that of all.
pub record IsHalved (runs : List Run) (x low high before now : ℕ) : Type 0 where
  pub order : low ≤ high
  pub inside : high ≤ length runs
  pub front : has_in (take low runs) x ≡ false
  pub back : has_in (drop high runs) x ≡ false
  pub later : before ≤ now
  pub rest : 2 ^ (now - before) * (high - low) ≤ length runs
  pub cost : 2 ^ (now - before) ≤ 2 * length runs + 1

no_steps : (n : ℕ) → 2 ^ (n - n) ≡ 1
no_steps n = let e : n - n ≡ 0 = omega arith in ap (λ k. 2 ^ k) e

pub halved_first : (runs : List Run) (x steps : ℕ) → IsHalved runs x 0 (length runs) steps steps
halved_first runs x steps =
    let one = no_steps steps in
    record {
      order = omega arith;
      inside = omega arith;
      front = refl;
      back = ap (λ (rs : List Run). has_in rs x) (drop-length runs);
      later = omega arith;
      rest = rw one (omega arith);
      cost = omega (arith, one);
    }

one_step : (before now next : ℕ) → before ≤ now → next ≡ now + 1 → 2 ^ (next - before) ≡ 2 * 2 ^ (now - before)
one_step before now next l is =
    let e : next - before ≡ suc (now - before) = omega arith in
    ap (λ k. 2 ^ k) e ∙ pow-succ' 2 (now - before)

less : (p n half r : ℕ) → 2 * half ≤ n → p * n ≤ r → 2 * p * half ≤ r
less p n half r h l =
    let m = mul-le-mul_left {m = 2 * half} {n = n} p h in
    grind arith

twice : (p n r : ℕ) → 0 < n → p * n ≤ r → 2 * p ≤ 2 * r + 1
twice p n r h l =
    let m = mul-le-mul_left {m = 1} {n = n} p h in
    omega arith

middle_inside : (low high : ℕ) → low < high → low + (high - low) / 2 < high
middle_inside low high l = let d = div-mul-le_self (high - low) 2 in omega arith

module _ (runs : List Run) (x low high before now next : ℕ) (apart : AreApart runs) (h : IsHalved runs x low high before now) (l : low < high) (is : next ≡ now + 1) where
  pub halved_cost : 2 ^ (next - before) ≤ 2 * length runs + 1
  halved_cost =
      let t = twice (2 ^ (now - before)) (high - low) (length runs) (omega arith) h.rest in
      rw (one_step before now next h.later is) t

  halved_rest : (half : ℕ) → 2 * half ≤ high - low → 2 ^ (next - before) * half ≤ length runs
  halved_rest half w =
      let t = less (2 ^ (now - before)) (high - low) half (length runs) w h.rest in
      rw (one_step before now next h.later is) t

  pub halved_low : (d : Run) → x < (get_or runs (low + (high - low) / 2) d).first → IsHalved runs x low (low + (high - low) / 2) before next
  halved_low d b =
      let m = middle_inside low high l in
      let divided = div-mul-le_self (high - low) 2 in
      record {
        order = omega arith;
        inside = omega (arith, h.inside);
        front = h.front;
        back = out_low (drop (low + (high - low) / 2) runs) (x + 1) (2 ^ 48 + 1) x (behind_at runs (low + (high - low) / 2) 0 (2 ^ 48 + 1) (x + 1) d apart (omega (arith, h.inside)) (omega arith)) (omega arith);
        later = omega (arith, h.later);
        rest = halved_rest (low + (high - low) / 2 - low) (omega arith);
        cost = halved_cost;
      }

  pub halved_high : (d : Run) → end_of (get_or runs (low + (high - low) / 2) d) ≤ x → IsHalved runs x (low + (high - low) / 2 + 1) high before next
  halved_high d b =
      let m = middle_inside low high l in
      record {
        order = omega arith;
        inside = h.inside;
        front = out_high (take (low + (high - low) / 2 + 1) runs) 0 (x + 1) x (more_before runs (low + (high - low) / 2) 0 (2 ^ 48 + 1) (x + 1) d apart (omega (arith, h.inside)) (omega arith)) (omega arith);
        back = h.back;
        later = omega (arith, h.later);
        rest = halved_rest (high - (low + (high - low) / 2 + 1)) (omega arith);
        cost = halved_cost;
      }

-- where nothing is left between, no run has the number
pub found_none : (runs : List Run) (x low high before now : ℕ) → IsHalved runs x low high before now → high ≤ low → false ≡ has_in runs x
found_none runs x low high before now h over =
    let same : low ≡ high = omega (arith, h.order, over) in
    let back : has_in (drop low runs) x ≡ false = subst (λ k. has_in (drop k runs) x ≡ false) (sym same) h.back in
    sym (has_parts runs low x ∙ ap (λ b. b || has_in (drop low runs) x) h.front ∙ back)
