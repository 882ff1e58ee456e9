use Rattle.std.proofs.Common.{◌≡◌, ◌+◌, ◌<◌, ◌≤◌, [], ◌++◌, ◌^◌, ℕ, Bool, true, false, ◌||◌, ◌&&◌, ◌⊎◌, List, length, drop, get_or, min, max, ap, ap₂, arith, sym, subst, ◌∙◌, inl, inr}
use Rattle.std.proofs.lemmas.Bool.{cases_lt}
use Rattle.std.proofs.lemmas.List.{append-nil}
use Rattle.std.proofs.lemmas.Bool.Decides.{nat_tests}
use Rattle.draid_ranges.specs.declared.run.Run.{Run}
use Rattle.draid_ranges.specs.Edits.{runs_of}
use Rattle.draid_ranges.specs.Merges.{IsMet}
use Rattle.draid_ranges.specs.Runs.{AreWithin, AreApart, end_of, in_run, has_in, is_between}
use Rattle.draid_ranges.proofs.Hulls.{in_between, runs_of_has, runs_of_within}
use Rattle.draid_ranges.proofs.Unions.{low_of, rest_has}
use Rattle.draid_ranges.proofs.Within.{has-append, within_append, within_wider, parted, end_below, out_low}

both_between : (a b c d x : ℕ) → is_between (max a c) (min b d) x ≡ (is_between a b x && is_between c d x)
both_between a b c d x = grind (arith, nat_tests)

-- the numbers of both runs
common : Run → Run → List Run
common l r = runs_of (max l.first r.first) (min (l.first + l.len) (r.first + r.len))

common_has : (l r : Run) (x : ℕ) → has_in (common l r) x ≡ (in_run l x && in_run r x)
unfolding common
common_has l r x = runs_of_has (max l.first r.first) (min (l.first + l.len) (r.first + r.len)) x ∙ both_between l.first (l.first + l.len) r.first (r.first + r.len) x

no_common : (first end : ℕ) → end ≤ first → runs_of first end ≡ []
no_common first end h = grind (arith, nat_tests)

-- how the bound goes on, and how far what is left lies behind it
record Moves (new : List Run) (rest other : List Run) : Type 0 where
  bound : ℕ
  apart : AreWithin 0 new bound
  low : bound ≤ 2 ^ 48 + 1
  behind : AreWithin bound rest (2 ^ 48 + 1) ⊎ AreWithin bound other (2 ^ 48 + 1)

-- the run that ends first is passed: xs is its list
moves : (xs ys runs new : List Run) (i j bound : ℕ) (d : Run) → AreApart xs → i < length xs → j < length ys
    → AreWithin 0 runs bound → bound ≤ 2 ^ 48 + 1 → AreWithin bound (drop i xs) (2 ^ 48 + 1) ⊎ AreWithin bound (drop j ys) (2 ^ 48 + 1)
    → new ≡ runs ++ runs_of (max (get_or xs i d).first (get_or ys j d).first) ((get_or xs i d).first + (get_or xs i d).len)
    → Moves new (drop (i + 1) xs) (drop j ys)
moves xs ys runs new i j bound d apart l m within low behind is =
    let a = get_or xs i d in
    let b = get_or ys j d in
    let p = parted xs i 0 (2 ^ 48 + 1) d apart l in
    let top = end_below xs i 0 (2 ^ 48 + 1) d apart l in
    let first = max a.first b.first in
    let end = a.first + a.len in
    let below : bound ≤ first = elim behind [
      | inl h ↦ let k = low_of xs i bound (2 ^ 48 + 1) d l h in omega arith
      | inr h ↦ let k = low_of ys j bound (2 ^ 48 + 1) d m h in omega arith
    ] in
    elim (cases_lt first end) [
      | inl some ↦
          let P : List Run → Type 0 = λ zs. AreWithin 0 zs (end + 1) in
          record {
            bound = end + 1;
            apart = subst P (sym is) (within_append runs (runs_of first end) 0 first (end + 1)
                (within_wider runs 0 bound 0 first within (omega arith) below)
                (runs_of_within first end first (end + 1) (omega arith) (omega arith) (omega arith)));
            low = omega arith;
            behind = inl p.back;
          }
      | inr none ↦
          let P : List Run → Type 0 = λ zs. AreWithin 0 zs bound in
          record {
            bound = bound;
            apart = subst P (sym (is ∙ ap (λ zs. runs ++ zs) (no_common first end (omega arith)) ∙ append-nil runs)) within;
            low = low;
            behind = elim behind [
              | inl h ↦ let k = low_of xs i bound (2 ^ 48 + 1) d l h in inl (within_wider (drop (i + 1) xs) (end + 1) (2 ^ 48 + 1) bound (2 ^ 48 + 1) p.back (omega arith) (omega arith))
              | inr h ↦ inr h
            ];
          }
    ]

-- what one of two lists has behind its run, the other's run doesn't have
past_left : (runs l r a b : Bool) → (l ≡ true → b ≡ false) → ((runs || (l && r)) || (a && (r || b))) ≡ (runs || ((l || a) && (r || b)))
past_left runs l r a b h = grind arith

past_right : (runs l r a b : Bool) → (r ≡ true → a ≡ false) → ((runs || (l && r)) || ((l || a) && b)) ≡ (runs || ((l || a) && (r || b)))
past_right runs l r a b h = grind arith

new_has : (runs new : List Run) (l r : Run) → new ≡ runs ++ common l r → (x : ℕ) → has_in new x ≡ (has_in runs x || (in_run l x && in_run r x))
new_has runs new l r is x = ap (λ ys. has_in ys x) is ∙ has-append runs (common l r) x ∙ ap (λ v. has_in runs x || v) (common_has l r x)

is_common : (runs new : List Run) (l r : Run) → new ≡ runs ++ runs_of (max l.first r.first) (min (l.first + l.len) (r.first + r.len)) → new ≡ runs ++ common l r
unfolding common
is_common runs new l r is = is

pub met_left : (left right runs new : List Run) (i j : ℕ) (d : Run) → IsMet left right runs i j → AreApart left → AreApart right → i < length left → j < length right
    → new ≡ runs ++ runs_of (max (get_or left i d).first (get_or right j d).first) (min ((get_or left i d).first + (get_or left i d).len) ((get_or right j d).first + (get_or right j d).len))
    → (get_or left i d).first + (get_or left i d).len ≤ (get_or right j d).first + (get_or right j d).len → IsMet left right new (i + 1) j
met_left left right runs new i j d m a b li lj is order =
    let l = get_or left i d in
    let r = get_or right j d in
    let q = parted right j 0 (2 ^ 48 + 1) d b lj in
    let ends : min (l.first + l.len) (r.first + r.len) ≡ l.first + l.len = omega arith in
    let v = moves left right runs new i j m.bound d a li lj m.apart m.low m.behind (is ∙ ap (λ e. runs ++ runs_of (max l.first r.first) e) ends) in
    record {
      bound = v.bound;
      apart = v.apart;
      low = v.low;
      behind = v.behind;
      members = λ x.
          let none : in_run l x ≡ true → has_in (drop (j + 1) right) x ≡ false = λ h.
          let k = in_between l.first (end_of l) x h in out_low (drop (j + 1) right) (r.first + r.len + 1) (2 ^ 48 + 1) x q.back (omega arith) in
          ap₂ (λ u w. u || (has_in (drop (i + 1) left) x && w)) (new_has runs new l r (is_common runs new l r is) x) (rest_has right j x d lj)
          ∙ past_left (has_in runs x) (in_run l x) (in_run r x) (has_in (drop (i + 1) left) x) (has_in (drop (j + 1) right) x) none
          ∙ sym (ap₂ (λ u w. has_in runs x || (u && w)) (rest_has left i x d li) (rest_has right j x d lj))
          ∙ m.members x;
      left_inside = omega arith;
      right_inside = m.right_inside;
    }

turn : {P Q : Type 0} → P ⊎ Q → Q ⊎ P
turn (inl p) = inr p
turn (inr q) = inl q

pub met_right : (left right runs new : List Run) (i j : ℕ) (d : Run) → IsMet left right runs i j → AreApart left → AreApart right → i < length left → j < length right
    → new ≡ runs ++ runs_of (max (get_or left i d).first (get_or right j d).first) (min ((get_or left i d).first + (get_or left i d).len) ((get_or right j d).first + (get_or right j d).len))
    → (get_or right j d).first + (get_or right j d).len < (get_or left i d).first + (get_or left i d).len → IsMet left right new i (j + 1)
met_right left right runs new i j d m a b li lj is order =
    let l = get_or left i d in
    let r = get_or right j d in
    let p = parted left i 0 (2 ^ 48 + 1) d a li in
    let first : max l.first r.first ≡ max r.first l.first = omega arith in
    let ends : min (l.first + l.len) (r.first + r.len) ≡ r.first + r.len = omega arith in
    let v = moves right left runs new j i m.bound d b lj li m.apart m.low (turn m.behind) (is ∙ ap₂ (λ f e. runs ++ runs_of f e) first ends) in
    record {
      bound = v.bound;
      apart = v.apart;
      low = v.low;
      behind = turn v.behind;
      members = λ x.
          let none : in_run r x ≡ true → has_in (drop (i + 1) left) x ≡ false = λ h.
          let k = in_between r.first (end_of r) x h in out_low (drop (i + 1) left) (l.first + l.len + 1) (2 ^ 48 + 1) x p.back (omega arith) in
          ap₂ (λ u w. u || (w && has_in (drop (j + 1) right) x)) (new_has runs new l r (is_common runs new l r is) x) (rest_has left i x d li)
          ∙ past_right (has_in runs x) (in_run l x) (in_run r x) (has_in (drop (i + 1) left) x) (has_in (drop (j + 1) right) x) none
          ∙ sym (ap₂ (λ u w. has_in runs x || (u && w)) (rest_has left i x d li) (rest_has right j x d lj))
          ∙ m.members x;
      left_inside = m.left_inside;
      right_inside = omega arith;
    }
