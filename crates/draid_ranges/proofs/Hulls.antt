use Rattle.std.proofs.Common.{◌≡◌, ◌+◌, ◌<◌, ◌≤◌, ◌∷◌, ◌++◌, ◌^◌, ℕ, Bool, true, false, ◌||◌, ◌&&◌, not, List, length, take, drop, get_or, min, max, ap, ap₂, arith, sym, subst, ◌∙◌}
use Rattle.std.proofs.lemmas.List.{drop_more}
use Rattle.std.proofs.lemmas.Bool.Decides.{nat_tests}
use Rattle.draid_ranges.specs.declared.run.Run.{Run}
use Rattle.draid_ranges.specs.Edits.{IsHull, runs_of, sides_of}
use Rattle.draid_ranges.specs.Runs.{AreWithin, AreApart, end_of, in_run, has_in, is_between}
use Rattle.draid_ranges.proofs.Within.{or_assoc, has-append, has_parts, within_append, within_min, before_at, end_below, out_low, out_high}

joins : (w r d b : Bool) (j : Bool) → j ≡ (w || r) → (w || (r || d)) ≡ b → (j || d) ≡ b
joins w r d b j h k = ap (λ v. v || d) h ∙ or_assoc w r d ∙ k

-- the whole with the next run that touches it
pub hull_more : (xs : List Run) (from to : ℕ) (run whole joined d : Run) → IsHull xs from to run whole → AreApart xs → to < length xs
    → ((x : ℕ) → in_run joined x ≡ (in_run whole x || in_run (get_or xs to d) x))
    → joined.first ≡ min whole.first (get_or xs to d).first
    → joined.first + joined.len ≡ max (whole.first + whole.len) ((get_or xs to d).first + (get_or xs to d).len)
    → IsHull xs from (to + 1) run joined
hull_more xs from to run whole joined d h apart l members first last =
    let r = get_or xs to d in
    let order = h.order in
    let below = h.below in
    let least = h.first in
    let most = h.end in
    let bound = end_below xs to 0 (2 ^ 48 + 1) d apart l in
    let F : ℕ → Type 0 = λ n. AreWithin 0 (take from xs) n in
    record {
      order = omega arith;
      inside = omega arith;
      front = subst F (sym first) (within_min (take from xs) 0 whole.first r.first h.front (before_at xs from to 0 (2 ^ 48 + 1) d apart order l));
      members = λ x. joins (in_run whole x) (in_run r x) (has_in (drop (to + 1) xs) x) (in_run run x || has_in (drop from xs) x) (in_run joined x) (members x)
          (ap (λ ys. in_run whole x || has_in ys x) (sym (drop_more xs to d l)) ∙ h.members x);
      first = omega arith;
      end = omega arith;
      below = omega arith;
      none = λ e. absurd (omega arith);
    }

swaps : (t b d : Bool) → (t || (b || d)) ≡ ((t || d) || b)
swaps t b d = grind arith

-- the list in which the whole stands for the runs that it is made of
pub put_has : (xs new : List Run) (from to : ℕ) (run whole : Run) (first last : ℕ) → IsHull xs from to run whole → new ≡ take from xs ++ whole ∷ drop to xs
    → run.first ≡ first → run.first + run.len ≡ last + 1 → (x : ℕ) → has_in new x ≡ (has_in xs x || is_between first (last + 1) x)
put_has xs new from to run whole first last h is begins ends x =
    let t = has_in (take from xs) x in
    ap (λ ys. has_in ys x) is
    ∙ has-append (take from xs) (whole ∷ drop to xs) x
    ∙ ap (λ b. t || b) (h.members x)
    ∙ swaps t (in_run run x) (has_in (drop from xs) x)
    ∙ ap₂ (λ a b. a || b) (sym (has_parts xs from x)) (ap₂ (λ f e. is_between f e x) begins ends)

pub put_apart : (xs new : List Run) (from to : ℕ) (run whole : Run) → IsHull xs from to run whole → AreWithin (end_of whole + 1) (drop to xs) (2 ^ 48 + 1) → 0 < run.len
    → new ≡ take from xs ++ whole ∷ drop to xs → AreApart new
put_apart xs new from to run whole h behind some is =
    let least = h.first in
    let most = h.end in
    subst AreApart (sym is) (within_append (take from xs) (whole ∷ drop to xs) 0 whole.first (2 ^ 48 + 1) h.front (omega arith, omega arith, behind))

pub runs_of_has : (first end x : ℕ) → has_in (runs_of first end) x ≡ is_between first end x
runs_of_has first end x = grind (arith, nat_tests)

pub runs_of_within : (first end low high : ℕ) → low ≤ first → low ≤ high → end + 1 ≤ high → AreWithin low (runs_of first end) high
runs_of_within first end low high l m h = grind (arith, nat_tests)

around : (low first end high x : ℕ) → low ≤ first → first ≤ end → end ≤ high → (is_between low first x || is_between end high x) ≡ (is_between low high x && not (is_between first end x))
around low first end high x a b c = grind (arith, nat_tests)

sides_has : (whole : Run) (first end x : ℕ) → whole.first ≤ first → first ≤ end → end ≤ whole.first + whole.len → has_in (sides_of whole first end) x ≡ (in_run whole x && not (is_between first end x))
sides_has whole first end x a b c =
    has-append (runs_of whole.first first) (runs_of end (whole.first + whole.len)) x
    ∙ ap₂ (λ l r. l || r) (runs_of_has whole.first first x) (runs_of_has end (whole.first + whole.len) x)
    ∙ around whole.first first end (whole.first + whole.len) x a b c

sides_within : (whole : Run) (first end : ℕ) → whole.first ≤ first → first < end → end ≤ whole.first + whole.len → AreWithin whole.first (sides_of whole first end) (whole.first + whole.len + 1)
sides_within whole first end a b c =
    within_append (runs_of whole.first first) (runs_of end (whole.first + whole.len)) whole.first (first + 1) (whole.first + whole.len + 1)
    (runs_of_within whole.first first whole.first (first + 1) (omega arith) (omega arith) (omega arith))
    (runs_of_within end (whole.first + whole.len) (first + 1) (whole.first + whole.len + 1) (omega arith) (omega arith) (omega arith))

-- without b, where what lies outside of w isn't in b
without : (t d e w b : Bool) → (w || e) ≡ (b || d) → (b ≡ true → t ≡ false) → (b ≡ true → e ≡ false) → (t || ((w && not b) || e)) ≡ ((t || d) && not b)
without t d e w b h f g = grind arith

pub in_between : (first end x : ℕ) → is_between first end x ≡ true → (first ≤ x) × (x < end)
in_between first end x h = grind (arith, nat_tests)

pub sides_kept : (xs new : List Run) (from to : ℕ) (run whole : Run) (first last : ℕ) → IsHull xs from to run whole → AreWithin (end_of whole + 1) (drop to xs) (2 ^ 48 + 1)
    → new ≡ take from xs ++ sides_of whole first (last + 1) ++ drop to xs → run.first ≡ first → run.first + run.len ≡ last + 1 → first ≤ last
    → (x : ℕ) → has_in new x ≡ (has_in xs x && not (is_between first (last + 1) x))
sides_kept xs new from to run whole first last h behind is begins ends order x =
    let t = has_in (take from xs) x in
    let b = is_between first (last + 1) x in
    let e = has_in (drop to xs) x in
    let least = h.first in
    let most = h.end in
    let members : (in_run whole x || e) ≡ (b || has_in (drop from xs) x) = h.members x ∙ ap (λ v. v || has_in (drop from xs) x) (ap₂ (λ f n. is_between f n x) begins ends) in
    let before : b ≡ true → t ≡ false = λ v. let i = in_between first (last + 1) x v in out_high (take from xs) 0 whole.first x h.front (omega arith) in
    let after : b ≡ true → e ≡ false = λ v. let i = in_between first (last + 1) x v in out_low (drop to xs) (end_of whole + 1) (2 ^ 48 + 1) x behind (omega arith) in
    ap (λ ys. has_in ys x) is
    ∙ has-append (take from xs ++ sides_of whole first (last + 1)) (drop to xs) x
    ∙ ap (λ v. v || e) (has-append (take from xs) (sides_of whole first (last + 1)) x)
    ∙ or_assoc t (has_in (sides_of whole first (last + 1)) x) e
    ∙ ap (λ v. t || (v || e)) (sides_has whole first (last + 1) x (omega arith) (omega arith) (omega arith))
    ∙ without t (has_in (drop from xs) x) e (in_run whole x) b members before after
    ∙ ap (λ v. v && not b) (sym (has_parts xs from x))

pub sides_apart : (xs new : List Run) (from to : ℕ) (run whole : Run) (first last : ℕ) → IsHull xs from to run whole → AreWithin (end_of whole + 1) (drop to xs) (2 ^ 48 + 1)
    → new ≡ take from xs ++ sides_of whole first (last + 1) ++ drop to xs → run.first ≡ first → run.first + run.len ≡ last + 1 → first ≤ last → AreApart new
sides_apart xs new from to run whole first last h behind is begins ends order =
    let least = h.first in
    let most = h.end in
    let sides = sides_within whole first (last + 1) (omega arith) (omega arith) (omega arith) in
    subst AreApart (sym is)
    (within_append (take from xs ++ sides_of whole first (last + 1)) (drop to xs) 0 (end_of whole + 1) (2 ^ 48 + 1)
    (within_append (take from xs) (sides_of whole first (last + 1)) 0 whole.first (end_of whole + 1) h.front sides) behind)
