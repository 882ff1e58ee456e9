use Rattle.std.proofs.Common.{◌≡◌, ◌+◌, ◌-◌, ◌<◌, ◌≤◌, [], ◌++◌, ◌^◌, ℕ, Bool, false, ◌||◌, ◌&&◌, nat_le, List, length, take, drop, get_or, min, refl, ap, ap₂, arith, sym, subst, ◌∙◌, inl, inr}
use Rattle.std.specs.List.{AllWithin}
use Rattle.std.proofs.lemmas.Bool.{cases_lt}
use Rattle.std.proofs.lemmas.List.{drop_more, drop_all, take_all, append-nil}
use Rattle.std.proofs.lemmas.Bool.Decides.{nat_tests}
use Rattle.draid_ranges.specs.declared.run.Run.{Run}
use Rattle.draid_ranges.specs.Edits.{front_of, runs_of}
use Rattle.draid_ranges.specs.Runs.{AreWithin, AreApart, end_of, in_run, has_in, is_between}
use Rattle.draid_ranges.proofs.Hulls.{runs_of_has, runs_of_within}
use Rattle.draid_ranges.proofs.Within.{has-append, has_parts, within_append, parted, end_below, no_run, out_low, out_high}

-- numbers at which nothing is above last
all_kept : (t : Bool) (last x : ℕ) → (last < x → t ≡ false) → t ≡ (t && nat_le x last)
all_kept t last x h = grind (arith, nat_tests)

first_kept : (run : Run) (d : Bool) (last x : ℕ) → last < run.first + run.len → (x ≤ last → d ≡ false) → is_between run.first (last + 1) x ≡ ((in_run run x || d) && nat_le x last)
first_kept run d last x h f = grind (arith, nat_tests)

both_kept : (t d k : Bool) → ((t && k) || (d && k)) ≡ ((t || d) && k)
both_kept t d k = grind arith

-- what is left of the runs from one on that reaches past last
front_kept : (xs : List Run) (at last x : ℕ) → AreApart xs → (at < length xs → last + 1 < end_of (get_or xs at no_run)) → has_in (front_of (drop at xs) last) x ≡ (has_in (drop at xs) x && nat_le x last)
front_kept xs at last x apart past = elim (cases_lt at (length xs)) [
  | inl l ↦
      let r = get_or xs at no_run in
      let p = parted xs at 0 (2 ^ 48 + 1) no_run apart l in
      let rest = drop (at + 1) xs in
      let P : List Run → Type 0 = λ ys. has_in (front_of ys last) x ≡ (has_in ys x && nat_le x last) in
      let reaches = past l in
      let none : x ≤ last → has_in rest x ≡ false = λ h. out_low rest (r.first + r.len + 1) (2 ^ 48 + 1) x p.back (omega arith) in
      subst P (sym (drop_more xs at no_run l)) (runs_of_has r.first (last + 1) x ∙ first_kept r (has_in rest x) last x (omega arith) none)
  | inr l ↦
      let P : List Run → Type 0 = λ ys. has_in (front_of ys last) x ≡ (has_in ys x && nat_le x last) in
      subst P (sym (drop_all at xs (omega arith))) refl
]

pub cut_has : (xs new : List Run) (at bound last : ℕ) → AreApart xs → AreWithin 0 (take at xs) bound → bound ≤ last + 2 → (at < length xs → last + 1 < end_of (get_or xs at no_run))
    → new ≡ take at xs ++ front_of (drop at xs) last → (x : ℕ) → has_in new x ≡ (has_in xs x && nat_le x last)
cut_has xs new at bound last apart front low past is x =
    let t = has_in (take at xs) x in
    let d = has_in (drop at xs) x in
    let above : last < x → t ≡ false = λ h. out_high (take at xs) 0 bound x front (omega arith) in
    ap (λ ys. has_in ys x) is
    ∙ has-append (take at xs) (front_of (drop at xs) last) x
    ∙ ap₂ (λ a b. a || b) (all_kept t last x above) (front_kept xs at last x apart past)
    ∙ both_kept t d (nat_le x last)
    ∙ ap (λ v. v && nat_le x last) (sym (has_parts xs at x))

pub cut_apart : (xs new : List Run) (at last : ℕ) → AreApart xs → (at < length xs → last + 1 < end_of (get_or xs at no_run)) → new ≡ take at xs ++ front_of (drop at xs) last → AreApart new
cut_apart xs new at last apart past is = elim (cases_lt at (length xs)) [
  | inl l ↦
      let r = get_or xs at no_run in
      let p = parted xs at 0 (2 ^ 48 + 1) no_run apart l in
      let bound = end_below xs at 0 (2 ^ 48 + 1) no_run apart l in
      let reaches = past l in
      let P : List Run → Type 0 = λ ys. AreApart (take at xs ++ front_of ys last) in
      subst AreApart (sym is) (subst P (sym (drop_more xs at no_run l))
      (within_append (take at xs) (runs_of r.first (last + 1)) 0 r.first (2 ^ 48 + 1) p.front
      (runs_of_within r.first (last + 1) r.first (2 ^ 48 + 1) (omega arith) (omega arith) (omega arith))))
  | inr l ↦
      let P : List Run → Type 0 = λ ys. AreApart (take at xs ++ front_of ys last) in
      let whole : AreApart (take at xs ++ []) = rw (append-nil (take at xs)) (rw (take_all at xs (omega arith)) apart) in
      subst AreApart (sym is) (subst P (sym (drop_all at xs (omega arith))) whole)
]

-- from what `ending_before` says with a bound that stops at the greatest number
pub reaches_past : (xs : List Run) (at bound last : ℕ) → AreApart xs → bound ≡ min (last + 2) (2 ^ 64 - 1) → AllWithin (λ run. bound ≤ end_of run) xs at (length xs)
    → at < length xs → last + 1 < end_of (get_or xs at no_run)
reaches_past xs at bound last apart is behind l =
    let below = end_below xs at 0 (2 ^ 48 + 1) no_run apart l in
    let b = behind at no_run (omega arith) l in
    omega arith
