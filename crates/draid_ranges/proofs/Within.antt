use Rattle.std.proofs.Common.{◌≡◌, ◌+◌, ◌<◌, ◌≤◌, ◌∷◌, [], ◌++◌, ℕ, zero, suc, Bool, true, false, ◌||◌, List, length, take, drop, get_or, refl, ap, arith, min, add-one, sym, subst, ◌∙◌, inl, inr}
use Rattle.std.proofs.lemmas.Bool.{cases_eq}
use Rattle.std.proofs.lemmas.List.{take_more, drop_more, take-append-drop, get_or_default}
use Rattle.std.specs.List.{AllWithin}
use Rattle.std.proofs.lemmas.Bool.Decides.{nat_tests}
use Rattle.draid_ranges.specs.declared.run.Run.{Run}
use Rattle.draid_ranges.specs.Runs.{AreWithin, end_of, in_run, has_in}

out_run : (r : Run) (x : ℕ) → x < r.first → (in_run r x || false) ≡ false
out_run r x h = grind (arith, nat_tests)

past_run : (r : Run) (x : ℕ) → r.first + r.len ≤ x → (in_run r x || false) ≡ false
past_run r x h = grind (arith, nat_tests)

pub or_assoc : (a b c : Bool) → ((a || b) || c) ≡ (a || (b || c))
or_assoc true b c = refl
or_assoc false b c = refl

pub has-append : (xs ys : List Run) (x : ℕ) → has_in (xs ++ ys) x ≡ (has_in xs x || has_in ys x)
has-append [] ys x = refl
has-append (r ∷ xs) ys x = ap (λ b. in_run r x || b) (has-append xs ys x) ∙ sym (or_assoc (in_run r x) (has_in xs x) (has_in ys x))

-- runs that lie within low..high do so within wider bounds
pub within_wider : (xs : List Run) (low high less more : ℕ) → AreWithin low xs high → less ≤ low → high ≤ more → AreWithin less xs more
within_wider [] low high less more h l m = omega arith
within_wider (r ∷ xs) low high less more h l m =
    (omega (arith, h.0), h.1, within_wider xs (r.first + r.len + 1) high (r.first + r.len + 1) more h.2 (omega arith) m)

pub within_append : (xs ys : List Run) (low middle high : ℕ) → AreWithin low xs middle → AreWithin middle ys high → AreWithin low (xs ++ ys) high
within_append [] ys low middle high h k = within_wider ys middle high low high k h (omega arith)
within_append (r ∷ xs) ys low middle high h k = (h.0, h.1, within_append xs ys (r.first + r.len + 1) middle high h.2 k)

pub within_order : (xs : List Run) (low high : ℕ) → AreWithin low xs high → low ≤ high
within_order [] low high h = h
within_order (r ∷ xs) low high h = omega (arith, h.0, within_order xs (r.first + r.len + 1) high h.2)

-- a run of a list, with what lies before it and behind it
pub record IsParted (xs : List Run) (n next low high : ℕ) (r : Run) : Type 0 where
  pub front : AreWithin low (take n xs) r.first
  pub some : 0 < r.len
  pub back : AreWithin (r.first + r.len + 1) (drop next xs) high
  pub members : (x : ℕ) → has_in xs x ≡ (has_in (take n xs) x || (in_run r x || has_in (drop next xs) x))

parted_suc : (xs : List Run) (n low high : ℕ) (d : Run) → AreWithin low xs high → n < length xs → IsParted xs n (suc n) low high (get_or xs n d)
parted_suc [] n low high d h l = absurd (omega arith)
parted_suc (r ∷ xs) zero low high d h l = record { front = h.0; some = h.1; back = h.2; members = λ x. refl }
parted_suc (r ∷ xs) (suc n) low high d h l =
    let p = parted_suc xs n (r.first + r.len + 1) high d h.2 (omega arith) in
    record {
      front = (h.0, h.1, p.front);
      some = p.some;
      back = p.back;
      members = λ x. ap (λ b. in_run r x || b) (p.members x) ∙ sym (or_assoc (in_run r x) (has_in (take n xs) x) (in_run (get_or xs n d) x || has_in (drop (suc n) xs) x));
    }

pub parted : (xs : List Run) (n low high : ℕ) (d : Run) → AreWithin low xs high → n < length xs → IsParted xs n (n + 1) low high (get_or xs n d)
parted xs n low high d h l =
    let P : ℕ → Type 0 = λ k. IsParted xs n k low high (get_or xs n d) in
    subst P (sym (add-one n)) (parted_suc xs n low high d h l)

pub low_first : (xs : List Run) (k low high : ℕ) (d : Run) → AreWithin low xs high → k < length xs → low ≤ (get_or xs k d).first
low_first xs k low high d h l = within_order (take k xs) low (get_or xs k d).first ((parted xs k low high d h l).front)

pub end_below : (xs : List Run) (k low high : ℕ) (d : Run) → AreWithin low xs high → k < length xs → (get_or xs k d).first + (get_or xs k d).len + 1 ≤ high
end_below xs k low high d h l = within_order (drop (k + 1) xs) ((get_or xs k d).first + (get_or xs k d).len + 1) high ((parted xs k low high d h l).back)

-- each run ends before each later one begins
pub in_order : (xs : List Run) (i j low high : ℕ) (d e : Run) → AreWithin low xs high → i < j → j < length xs → (get_or xs i d).first + (get_or xs i d).len < (get_or xs j e).first
in_order [] i j low high d e h k l = absurd (omega arith)
in_order (r ∷ xs) i zero low high d e h k l = absurd (omega arith)
in_order (r ∷ xs) zero (suc j) low high d e h k l = let f = low_first xs j (r.first + r.len + 1) high e h.2 (omega arith) in omega arith
in_order (r ∷ xs) (suc i) (suc j) low high d e h k l = in_order xs i j (r.first + r.len + 1) high d e h.2 (omega arith) (omega arith)

pub more_before : (xs : List Run) (n low high bound : ℕ) (d : Run) → AreWithin low xs high → n < length xs → (get_or xs n d).first + (get_or xs n d).len < bound → AreWithin low (take (n + 1) xs) bound
more_before xs n low high bound d h l k =
    let p = parted xs n low high d h l in
    let r = get_or xs n d in
    rw (take_more xs n d l) (within_append (take n xs) (r ∷ []) low r.first bound p.front (omega arith, p.some, omega arith))

pub ends_from : (xs : List Run) (n low high bound : ℕ) (d : Run) → AreWithin low xs high → n < length xs → bound ≤ (get_or xs n d).first + (get_or xs n d).len → AllWithin (λ r. bound ≤ end_of r) xs n (length xs)
ends_from xs n low high bound d h l b = λ k e from to.
    elim (cases_eq k n) [
      | inl same ↦ subst (λ m. bound ≤ end_of (get_or xs m e)) (sym same) (subst (λ (r : Run). bound ≤ end_of r) (get_or_default xs n d e l) b)
      | inr other ↦ let o = in_order xs n k low high d e h (omega arith) to in omega arith
    ]

-- no number below the low bound is in them, nor one that isn't below the one before the high bound
pub out_low : (xs : List Run) (low high x : ℕ) → AreWithin low xs high → x < low → has_in xs x ≡ false
out_low [] low high x h l = refl
out_low (r ∷ xs) low high x h l =
    let rest = out_low xs (r.first + r.len + 1) high x h.2 (omega (arith, h.0)) in
    ap (λ b. in_run r x || b) rest ∙ out_run r x (omega (arith, h.0))

pub out_high : (xs : List Run) (low high x : ℕ) → AreWithin low xs high → high ≤ x + 1 → has_in xs x ≡ false
out_high [] low high x h l = refl
out_high (r ∷ xs) low high x h l =
    let rest = out_high xs (r.first + r.len + 1) high x h.2 l in
    let order = within_order xs (r.first + r.len + 1) high h.2 in
    ap (λ b. in_run r x || b) rest ∙ past_run r x (omega arith)

abbrev pub no_run : Run
no_run = record { first = 0; len = 0 }

-- the runs before one lie before each later one
pub before_at : (xs : List Run) (i j low high : ℕ) (d : Run) → AreWithin low xs high → i ≤ j → j < length xs → AreWithin low (take i xs) (get_or xs j d).first
before_at xs zero j low high d h l k = low_first xs j low high d h k
before_at [] (suc i) j low high d h l k = absurd (omega arith)
before_at (r ∷ xs) (suc i) zero low high d h l k = absurd (omega arith)
before_at (r ∷ xs) (suc i) (suc j) low high d h l k = (h.0, h.1, before_at xs i j (r.first + r.len + 1) high d h.2 (omega arith) (omega arith))

pub within_min : (xs : List Run) (low a b : ℕ) → AreWithin low xs a → AreWithin low xs b → AreWithin low xs (min a b)
within_min [] low a b h k = omega arith
within_min (r ∷ xs) low a b h k = (h.0, h.1, within_min xs (r.first + r.len + 1) a b h.2 k.2)

pub behind_at : (xs : List Run) (n low high bound : ℕ) (d : Run) → AreWithin low xs high → n < length xs → bound ≤ (get_or xs n d).first → AreWithin bound (drop n xs) high
behind_at xs n low high bound d h l b =
    let p = parted xs n low high d h l in
    rw (drop_more xs n d l) (b, p.some, p.back)

pub has_parts : (xs : List Run) (n x : ℕ) → has_in xs x ≡ (has_in (take n xs) x || has_in (drop n xs) x)
has_parts xs n x = ap (λ ys. has_in ys x) (sym (take-append-drop n xs)) ∙ has-append (take n xs) (drop n xs) x
