use Rattle.std.proofs.Common.{◌≡◌, ◌+◌, ◌-◌, ◌<◌, ◌≤◌, ◌∷◌, [], ◌++◌, ◌^◌, ℕ, suc, Bool, false, ◌||◌, List, All, length, take, drop, get_or, set, min, max, ap, arith, sym, subst, ◌∙◌, inl, inr}
use Rattle.std.proofs.lemmas.Bool.{cases_lt}
use Rattle.std.proofs.lemmas.List.{drop_more, drop_all, take_all, set_split, nil_from_length}
use Rattle.draid_ranges.specs.declared.run.Run.{Run}
use Rattle.draid_ranges.specs.Merges.{IsNext, IsUnited}
use Rattle.draid_ranges.specs.Runs.{AreWithin, AreApart, in_run, has_in}
use Rattle.draid_ranges.proofs.Within.{or_assoc, has-append, has_parts, within_append, within_wider, parted, end_below, behind_at, more_before}

pub low_of : (xs : List Run) (n low high : ℕ) (d : Run) → n < length xs → AreWithin low (drop n xs) high → low ≤ (get_or xs n d).first
low_of xs n low high d l h = let P : List Run → Type 0 = λ ys. AreWithin low ys high in (subst P (drop_more xs n d l) h).0

pub rest_has : (xs : List Run) (n x : ℕ) (d : Run) → n < length xs → has_in (drop n xs) x ≡ (in_run (get_or xs n d) x || has_in (drop (n + 1) xs) x)
rest_has xs n x d l = ap (λ ys. has_in ys x) (drop_more xs n d l)

-- what is left of the other list begins no earlier
other_behind : (xs ys : List Run) (i j : ℕ) (d : Run) → AreApart xs → AreApart ys → i < length xs → (j < length ys → (get_or xs i d).first ≤ (get_or ys j d).first)
    → AreWithin (get_or xs i d).first (drop j ys) (2 ^ 48 + 1)
other_behind xs ys i j d a b l first =
    let bound = end_below xs i 0 (2 ^ 48 + 1) d a l in
    elim (cases_lt j (length ys)) [
      | inl k ↦ behind_at ys j 0 (2 ^ 48 + 1) (get_or xs i d).first d b k (first k)
      | inr k ↦ let P : List Run → Type 0 = λ zs. AreWithin (get_or xs i d).first zs (2 ^ 48 + 1) in subst P (sym (drop_all j ys (omega arith))) (omega arith)
    ]

swapped : (a b r : Bool) → (a || (r || b)) ≡ (r || (a || b))
swapped a b r = grind arith

pub next_left : (xs ys : List Run) (i j : ℕ) (d : Run) → AreApart xs → AreApart ys → i < length xs → j ≤ length ys → (j < length ys → (get_or xs i d).first ≤ (get_or ys j d).first)
    → IsNext xs ys i j (get_or xs i d) (i + 1) j
next_left xs ys i j d a b l m first =
    let r = get_or xs i d in
    let p = parted xs i 0 (2 ^ 48 + 1) d a l in
    let bound = end_below xs i 0 (2 ^ 48 + 1) d a l in
    record {
      members = λ x. ap (λ v. v || has_in (drop j ys) x) (rest_has xs i x d l) ∙ or_assoc (in_run r x) (has_in (drop (i + 1) xs) x) (has_in (drop j ys) x);
      least = λ low h k. low_of xs i low (2 ^ 48 + 1) d l h;
      left_behind = within_wider (drop (i + 1) xs) (r.first + r.len + 1) (2 ^ 48 + 1) r.first (2 ^ 48 + 1) p.back (omega arith) (omega arith);
      right_behind = other_behind xs ys i j d a b l first;
      some = p.some;
      below = omega arith;
      left_inside = omega arith;
      right_inside = m;
      step = omega arith;
    }

pub next_right : (xs ys : List Run) (i j : ℕ) (d : Run) → AreApart xs → AreApart ys → i ≤ length xs → j < length ys → (i < length xs → (get_or ys j d).first ≤ (get_or xs i d).first)
    → IsNext xs ys i j (get_or ys j d) i (j + 1)
next_right xs ys i j d a b m l first =
    let r = get_or ys j d in
    let p = parted ys j 0 (2 ^ 48 + 1) d b l in
    let bound = end_below ys j 0 (2 ^ 48 + 1) d b l in
    record {
      members = λ x. ap (λ v. has_in (drop i xs) x || v) (rest_has ys j x d l) ∙ swapped (has_in (drop i xs) x) (has_in (drop (j + 1) ys) x) (in_run r x);
      least = λ low h k. low_of ys j low (2 ^ 48 + 1) d l k;
      left_behind = other_behind ys xs j i d b a l first;
      right_behind = within_wider (drop (j + 1) ys) (r.first + r.len + 1) (2 ^ 48 + 1) r.first (2 ^ 48 + 1) p.back (omega arith) (omega arith);
      some = p.some;
      below = omega arith;
      left_inside = m;
      right_inside = omega arith;
      step = omega arith;
    }

pub united_more : (left right runs new : List Run) (i j k l : ℕ) (run : Run) → IsUnited left right runs i j → IsNext left right i j run k l → AreApart new
    → All (λ (other : Run). other.first ≤ run.first) new → ((x : ℕ) → has_in new x ≡ (has_in runs x || in_run run x)) → IsUnited left right new k l
united_more left right runs new i j k l run u n apart order members =
    record {
      apart = apart;
      members = λ x.
          let rest = has_in (drop k left) x || has_in (drop l right) x in
          ap (λ v. v || rest) (members x)
          ∙ or_assoc (has_in runs x) (in_run run x) rest
          ∙ ap (λ v. has_in runs x || v) (sym (n.members x))
          ∙ u.members x;
      left_behind = λ m d h. within_wider (drop k left) run.first (2 ^ 48 + 1) (get_or new m d).first (2 ^ 48 + 1) n.left_behind (order m d h) (omega arith);
      right_behind = λ m d h. within_wider (drop l right) run.first (2 ^ 48 + 1) (get_or new m d).first (2 ^ 48 + 1) n.right_behind (order m d h) (omega arith);
      left_inside = n.left_inside;
      right_inside = n.right_inside;
    }

-- the last run joined with another
joined_last : (xs : List Run) (n : ℕ) (joined d : Run) → n + 1 ≡ length xs → set xs n joined ≡ take n xs ++ joined ∷ []
joined_last xs n joined d e =
    set_split xs n joined (omega arith) ∙ ap (λ ys. take n xs ++ joined ∷ ys) (drop_all (suc n) xs (omega arith))

pub joined_apart : (xs : List Run) (n : ℕ) (run joined d : Run) → AreApart xs → n + 1 ≡ length xs → (get_or xs n d).first ≤ run.first → 0 < run.len → run.first + run.len ≤ 2 ^ 48
    → joined.first ≡ min (get_or xs n d).first run.first → joined.first + joined.len ≡ max ((get_or xs n d).first + (get_or xs n d).len) (run.first + run.len)
    → AreApart (set xs n joined)
joined_apart xs n run joined d a e order some below first end =
    let l : n < length xs = omega arith in
    let p = parted xs n 0 (2 ^ 48 + 1) d a l in
    let bound = end_below xs n 0 (2 ^ 48 + 1) d a l in
    subst AreApart (sym (joined_last xs n joined d e))
    (within_append (take n xs) (joined ∷ []) 0 (get_or xs n d).first (2 ^ 48 + 1) p.front (omega arith, omega arith, omega arith))

last_joined : (t l r : Bool) → (t || ((l || r) || false)) ≡ ((t || (l || false)) || r)
last_joined t l r = grind arith

pub joined_has : (xs : List Run) (n : ℕ) (run joined d : Run) → n + 1 ≡ length xs → ((x : ℕ) → in_run joined x ≡ (in_run (get_or xs n d) x || in_run run x))
    → (x : ℕ) → has_in (set xs n joined) x ≡ (has_in xs x || in_run run x)
joined_has xs n run joined d e members x =
    let l : n < length xs = omega arith in
    let t = has_in (take n xs) x in
    let whole : has_in xs x ≡ (t || (in_run (get_or xs n d) x || false)) =
    has_parts xs n x ∙ ap (λ v. t || v) (rest_has xs n x d l ∙ ap (λ ys. in_run (get_or xs n d) x || has_in ys x) (drop_all (n + 1) xs (omega arith))) in
    ap (λ ys. has_in ys x) (joined_last xs n joined d e)
    ∙ has-append (take n xs) (joined ∷ []) x
    ∙ ap (λ v. t || (v || false)) (members x)
    ∙ last_joined t (in_run (get_or xs n d) x) (in_run run x)
    ∙ ap (λ v. v || in_run run x) (sym whole)

pub pushed_apart : (xs : List Run) (n : ℕ) (run d : Run) → AreApart xs → n ≡ length xs → (0 < n → (get_or xs (n - 1) d).first + (get_or xs (n - 1) d).len < run.first) → 0 < run.len → run.first + run.len ≤ 2 ^ 48
    → AreApart (xs ++ run ∷ [])
pushed_apart xs n run d a e gap some below =
    within_append xs (run ∷ []) 0 run.first (2 ^ 48 + 1)
    (elim (cases_lt 0 n) [
      | inl l ↦
          let m : n - 1 + 1 ≡ length xs = omega arith in
          let P : List Run → Type 0 = λ ys. AreWithin 0 ys run.first in
          subst P (take_all (n - 1 + 1) xs (omega arith)) (more_before xs (n - 1) 0 (2 ^ 48 + 1) run.first d a (omega arith) (gap l))
      | inr l ↦ let P : List Run → Type 0 = λ ys. AreWithin 0 ys run.first in subst P (sym (nil_from_length xs (omega arith))) (omega arith)
    ])
    (omega arith, some, omega arith)
