use Rattle.std.proofs.Common.{◌≡◌, ◌+◌, ◌<◌, ◌≤◌, ◌^◌, ℕ, Bool, true, false, ◌||◌, List, All, length, take, drop, get_or, arith, ◌∙◌}
use Rattle.std.proofs.lemmas.Bool.Decides.{nat_tests}
use Rattle.draid_ranges.specs.declared.run.Run.{Run}
use Rattle.draid_ranges.specs.Numbers.{IsMaximal}
use Rattle.draid_ranges.specs.Runs.{AreApart, end_of, in_run, has_in}
use Rattle.draid_ranges.proofs.Within.{parted, out_low, out_high}

one_has : (t d : Bool) (run : Run) (x : ℕ) → run.first ≤ x → x < run.first + run.len → (t || (in_run run x || d)) ≡ true
one_has t d run x l m = grind (arith, nat_tests)

none_has : (t d : Bool) (run : Run) (x : ℕ) → t ≡ false → d ≡ false → (run.first ≤ x → x < run.first + run.len → ⊥) → (t || (in_run run x || d)) ≡ false
none_has t d run x e f h = grind (arith, nat_tests)

pub run_maximal : (xs : List Run) (k : ℕ) (d : Run) → AreApart xs → k < length xs → IsMaximal (has_in xs) (get_or xs k d)
run_maximal xs k d apart l =
    let r = get_or xs k d in
    let p = parted xs k 0 (2 ^ 48 + 1) d apart l in
    let t = λ (x : ℕ). has_in (take k xs) x in
    let b = λ (x : ℕ). has_in (drop (k + 1) xs) x in
    record {
      some = p.some;
      members = λ x f e. p.members x ∙ one_has (t x) (b x) r x f e;
      before = λ x e. p.members x ∙ none_has (t x) (b x) r x (out_high (take k xs) 0 r.first x p.front (omega arith)) (out_low (drop (k + 1) xs) (r.first + r.len + 1) (2 ^ 48 + 1) x p.back (omega arith)) (λ f g. omega arith);
      behind = let x = end_of r in p.members x ∙ none_has (t x) (b x) r x (out_high (take k xs) 0 r.first x p.front (omega arith)) (out_low (drop (k + 1) xs) (r.first + r.len + 1) (2 ^ 48 + 1) x p.back (omega arith)) (λ f g. omega arith);
    }

pub all_maximal : (xs : List Run) → AreApart xs → All (IsMaximal (has_in xs)) xs
all_maximal xs apart = λ k d l. run_maximal xs k d apart l
