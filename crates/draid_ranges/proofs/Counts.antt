use Rattle.std.proofs.Common.{◌≡◌, ◌+◌, ◌-◌, ◌<◌, ◌≤◌, ◌∷◌, [], ◌^◌, ℕ, zero, suc, Bool, true, false, ◌||◌, if◌then◌else◌, List, sum_by, length, take, get_or, min, refl, ap, ap₂, arith, sym, ◌∙◌}
use Rattle.std.proofs.lemmas.List.Sums.{sum_by-cons}
use Rattle.std.proofs.lemmas.Bool.Decides.{nat_tests}
use Rattle.draid_ranges.specs.declared.run.Run.{Run}
use Rattle.draid_ranges.specs.Numbers.{count_below}
use Rattle.draid_ranges.specs.Runs.{AreWithin, AreApart, end_of, in_run, has_in, is_between}
use Rattle.draid_ranges.proofs.Hulls.{in_between}
use Rattle.draid_ranges.proofs.Within.{before_at, end_below, out_low, within_order}

pub total_within : (xs : List Run) (low high : ℕ) → AreWithin low xs high → low + sum_by (λ (run : Run). run.len) xs ≤ high
total_within [] low high h = omega arith
total_within (r ∷ xs) low high h = let t = total_within xs (r.first + r.len + 1) high h.2 in omega (arith, h.0, sum_by-cons (λ (run : Run). run.len) r xs)

-- the runs so far leave room for the next one's numbers
pub total_below : (xs : List Run) (n : ℕ) (d : Run) → AreApart xs → n < length xs → sum_by (λ (run : Run). run.len) (take n xs) + (get_or xs n d).len ≤ 2 ^ 48
total_below xs n d apart l =
    let t = total_within (take n xs) 0 (get_or xs n d).first (before_at xs n n 0 (2 ^ 48 + 1) d apart (omega arith) l) in
    let e = end_below xs n 0 (2 ^ 48 + 1) d apart l in
    omega arith

one_more : (f e n : ℕ) → f ≤ e → (min n e - min n f) + (if is_between f e n then 1 else 0) ≡ min (suc n) e - min (suc n) f
one_more f e n h = grind (arith, nat_tests)

count_between : (f e n : ℕ) → f ≤ e → count_below (is_between f e) n ≡ min n e - min n f
unfolding count_below
count_between f e zero h = omega arith
count_between f e (suc n) h = ap (λ k. k + (if is_between f e n then 1 else 0)) (count_between f e n h) ∙ one_more f e n h

either_more : (a b : Bool) (m n : ℕ) → (a ≡ true → b ≡ false) → (m + n) + (if a || b then 1 else 0) ≡ (m + (if a then 1 else 0)) + (n + (if b then 1 else 0))
either_more a b m n h = grind arith

count_either : (f g : ℕ → Bool) (n : ℕ) → ((x : ℕ) → f x ≡ true → g x ≡ false) → count_below (λ x. f x || g x) n ≡ count_below f n + count_below g n
unfolding count_below
count_either f g zero h = refl
count_either f g (suc n) h = ap (λ k. k + (if f n || g n then 1 else 0)) (count_either f g n h) ∙ either_more (f n) (g n) (count_below f n) (count_below g n) (h n)

count_none : (n : ℕ) → count_below (λ x. false) n ≡ 0
unfolding count_below
count_none zero = refl
count_none (suc n) = ap (λ k. k + 0) (count_none n)

pub count_runs : (xs : List Run) (low high n : ℕ) → AreWithin low xs high → high ≤ n + 1 → count_below (has_in xs) n ≡ sum_by (λ (run : Run). run.len) xs
count_runs [] low high n h l = count_none n
count_runs (r ∷ xs) low high n h l =
    let o = within_order xs (r.first + r.len + 1) high h.2 in
    let apart : (x : ℕ) → in_run r x ≡ true → has_in xs x ≡ false = λ x t.
    let b = in_between r.first (end_of r) x t in out_low xs (r.first + r.len + 1) high x h.2 (omega arith) in
    count_either (in_run r) (has_in xs) n apart
    ∙ ap₂ (λ a b. a + b) (count_between r.first (r.first + r.len) n (omega arith)) (count_runs xs (r.first + r.len + 1) high n h.2 l)
    ∙ ap (λ a. a + sum_by (λ (run : Run). run.len) xs) (omega arith)
    ∙ sym (sum_by-cons (λ (run : Run). run.len) r xs)
