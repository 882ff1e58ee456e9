use Rattle.std.proofs.Common.{◌≡◌, ◌+◌, ◌-◌, ◌*◌, ◌/◌, ◌%◌, ◌<◌, ◌≤◌, ◌∷◌, [], ◌^◌, ◌⊎◌, ℕ, Bool, true, false, ◌||◌, List, length, take, drop, get_or, min, max, ap, arith, sym, ◌∙◌, inl, inr, refl, subst}
use Rattle.std.proofs.lemmas.Bool.{cases_lt}
use Rattle.std.proofs.lemmas.List.{take_more, take_all}
use Rattle.std.proofs.Math.Nat.{mul-le-mul_left}
use Rattle.draid_ranges.specs.declared.run.Run.{Run}
use Rattle.draid_ranges.specs.Runs.{AreApart, end_of, in_run, has_in}
use Rattle.draid_ranges.proofs.Hulls.{in_between}
use Rattle.draid_ranges.proofs.Maximal.{run_maximal}
use Rattle.draid_ranges.proofs.Within.{has-append, parted, out_low}
use Rattle.draid_metaslab.specs.Spots.{IsLowest, IsSearched, IsSpot, IsLargest}

-- what the code answers of a run: the greatest number of its stripes in one group
pub record IsMost (run : Run) (height most : ℕ) : Type 0 where
  pub short : run.len ≤ height - run.first % height → most ≡ run.len
  pub long : height - run.first % height < run.len → most ≡ max (height - run.first % height) (min (run.len - (height - run.first % height)) height)

-- and where so many of them have a place
pub record IsPlace (run : Run) (height len place : ℕ) : Type 0 where
  pub first : len ≤ height - run.first % height → place ≡ run.first
  pub next : height - run.first % height < len → place ≡ run.first + (height - run.first % height)

-- in one group: it is the first stripe's, or a later one
group_cases : (height first group p len : ℕ) → 0 < height → first ≤ p → group * height ≤ p → p + len ≤ group * height + height
    → (len ≤ height - first % height) ⊎ (first + (height - first % height) ≤ p)
group_cases height first group p len some low from to = elim (cases_lt (first / height) group) [
  | inl later ↦
      let m : height * (first / height + 1) ≤ height * group = mul-le-mul_left height (omega arith) in
      inr (omega arith)
  | inr not_later ↦
      let m : height * group ≤ height * (first / height) = mul-le-mul_left height (omega arith) in
      inl (omega arith)
]

pub spot_most : (run : Run) (height most len p group : ℕ) → 0 < height → IsMost run height most → run.first ≤ p → p + len ≤ run.first + run.len → group * height ≤ p → p + len ≤ group * height + height → len ≤ most
spot_most run height most len p group some is low high from to = elim (cases_lt (height - run.first % height) run.len) [
  | inl l ↦ let m = is.long l in elim (group_cases height run.first group p len some low from to) [ inl a ↦ omega arith | inr b ↦ omega arith ]
  | inr g ↦ let m = is.short (omega arith) in omega arith
]

pub place_lowest : (run : Run) (height len p group place : ℕ) → 0 < height → IsPlace run height len place → run.first ≤ p → group * height ≤ p → p + len ≤ group * height + height → place ≤ p
place_lowest run height len p group place some is low from to = elim (cases_lt (height - run.first % height) len) [
  | inl l ↦ let n = is.next l in elim (group_cases height run.first group p len some low from to) [ inl a ↦ absurd (omega arith) | inr b ↦ omega arith ]
  | inr g ↦ let n = is.first (omega arith) in omega arith
]

fits_run : (run : Run) (height most len : ℕ) → IsMost run height most → len ≤ most → len ≤ height - run.first % height → len ≤ run.len
fits_run run height most len m fits here = elim (cases_lt (height - run.first % height) run.len) [
  | inl l ↦ omega arith
  | inr g ↦ let e = m.short (omega arith) in omega arith
]

reaches_next : (run : Run) (height most len : ℕ) → IsMost run height most → len ≤ most → height - run.first % height < len → height - run.first % height < run.len
reaches_next run height most len m fits next = elim (cases_lt (height - run.first % height) run.len) [
  | inl l ↦ l
  | inr g ↦ let e = m.short (omega arith) in absurd (omega arith)
]

place_inside : (run : Run) (height most len place : ℕ) → 0 < len → IsMost run height most → IsPlace run height len place → len ≤ most → place < run.first + run.len
place_inside run height most len place some m p fits = elim (cases_lt (height - run.first % height) len) [
  | inl next ↦ let at = p.next next in let big = reaches_next run height most len m fits next in omega arith
  | inr here ↦ let at = p.first (omega arith) in let all = fits_run run height most len m fits (omega arith) in omega arith
]

-- a run's place for as many stripes as it has room for
pub place_spot : (test : ℕ → Bool) (run : Run) (height most len place : ℕ) → 0 < height → IsMost run height most → IsPlace run height len place → len ≤ most
    → ((x : ℕ) → run.first ≤ x → x < run.first + run.len → test x ≡ true) → IsSpot test height len place
place_spot test run height most len place some m p fits all = elim (cases_lt (height - run.first % height) len) [
  | inl next ↦
      let at = p.next next in
      let big = reaches_next run height most len m fits next in
      let e = m.long big in
      record { group = run.first / height + 1; from = omega arith; to = omega arith; all = λ x a b. all x (omega arith) (omega arith) }
  | inr here ↦
      let at = p.first (omega arith) in
      let inside = fits_run run height most len m fits (omega arith) in
      record { group = run.first / height; from = omega arith; to = omega arith; all = λ x a b. all x (omega arith) (omega arith) }
]

some_place : (run : Run) (height len : ℕ) → (place : ℕ) × IsPlace run height len place
some_place run height len = elim (cases_lt (height - run.first % height) len) [
  | inl l ↦ (run.first + (height - run.first % height), record { first = λ h. absurd (omega arith); next = λ h. refl })
  | inr g ↦ (run.first, record { first = λ h. refl; next = λ h. absurd (omega arith) })
]

-- a spot that begins in a run lies in it
spot_inside : (xs : List Run) (k height len p : ℕ) (d : Run) → AreApart xs → k < length xs → IsSpot (has_in xs) height len p → in_run (get_or xs k d) p ≡ true → p + len ≤ (get_or xs k d).first + (get_or xs k d).len
spot_inside xs k height len p d apart l spot h =
    let r = get_or xs k d in
    let m = run_maximal xs k d apart l in
    let b = in_between r.first (end_of r) p h in
    elim (cases_lt (end_of r) (p + len)) [
      | inl past ↦ let t : true ≡ false = sym (spot.all (end_of r) (omega arith) past) ∙ m.behind in cc
      | inr ends ↦ omega arith
    ]

either : (t b : Bool) → (t || b) ≡ true → (t ≡ true) ⊎ (b ≡ true)
either true b h = inl h
either false b h = inr h

or_none : (b : Bool) → (b || false) ≡ b
or_none true = refl
or_none false = refl

begins : (test : ℕ → Bool) (height len p : ℕ) → 0 < len → IsSpot test height len p → test p ≡ true
begins test height len p some spot = spot.all p (omega arith) (omega arith)

found_more : (test : ℕ → Bool) (height largest most place : ℕ) → (0 < largest → (first : ℕ) × IsSpot test height largest first) → IsSpot test height most place
    → 0 < max largest most → (first : ℕ) × IsSpot test height (max largest most) first
found_more test height largest most place found spot some = elim (cases_lt largest most) [
  | inl l ↦ let P : ℕ → Type 0 = λ n. (first : ℕ) × IsSpot test height n first in let e : most ≡ max largest most = omega arith in subst P e (place, spot)
  | inr g ↦ let P : ℕ → Type 0 = λ n. (first : ℕ) × IsSpot test height n first in let e : largest ≡ max largest most = omega arith in subst P e (found (omega arith))
]

pub searched_more : (xs : List Run) (k height len largest most : ℕ) (d : Run) → AreApart xs → k < length xs → 0 < height → IsSearched xs height len k largest
    → IsMost (get_or xs k d) height most → most < len → IsSearched xs height len (k + 1) (max largest most)
searched_more xs k height len largest most d apart l some s m less =
    let r = get_or xs k d in
    let q = some_place r height most in
    let maximal = run_maximal xs k d apart l in
    let short = s.short in
    record {
      short = omega arith;
      found = found_more (has_in xs) height largest most q.0 s.found (place_spot (has_in xs) r height most most q.0 some m q.1 (omega arith) maximal.members);
      most = λ n p pos spot h.
          let parts : (has_in (take k xs) p || in_run r p) ≡ true =
          sym (ap (λ ys. has_in ys p) (take_more xs k d l) ∙ has-append (take k xs) (r ∷ []) p ∙ ap (λ v. has_in (take k xs) p || v) (or_none (in_run r p))) ∙ h in
          elim (either (has_in (take k xs) p) (in_run r p) parts) [
            | inl t ↦ let b = s.most n p pos spot t in omega arith
            | inr t ↦
                let b = in_between r.first (end_of r) p t in
                let inside = spot_inside xs k height n p d apart l spot t in
                let bound = spot_most r height most n p spot.group some m (omega arith) inside spot.from spot.to in
                omega arith
          ];
    }

pub lowest_found : (xs : List Run) (k height len largest most place : ℕ) (d : Run) → AreApart xs → k < length xs → 0 < height → 0 < len → IsSearched xs height len k largest
    → IsMost (get_or xs k d) height most → IsPlace (get_or xs k d) height len place → len ≤ most → IsLowest (has_in xs) height len place
lowest_found xs k height len largest most place d apart l some pos s m p fits =
    let r = get_or xs k d in
    let maximal = run_maximal xs k d apart l in
    let parts = parted xs k 0 (2 ^ 48 + 1) d apart l in
    let rest = drop (k + 1) xs in
    let short = s.short in
    record {
      spot = place_spot (has_in xs) r height most len place some m p fits maximal.members;
      lowest = λ other spot.
          let h : (has_in (take k xs) other || (in_run r other || has_in rest other)) ≡ true = sym (parts.members other) ∙ begins (has_in xs) height len other pos spot in
          elim (either (has_in (take k xs) other) (in_run r other || has_in rest other) h) [
            | inl t ↦ let b = s.most len other pos spot t in absurd (omega arith)
            | inr t ↦ elim (either (in_run r other) (has_in rest other) t) [
              | inl u ↦ let b = in_between r.first (end_of r) other u in place_lowest r height len other spot.group place some p (omega arith) spot.from spot.to
              | inr u ↦
                  let inside = place_inside r height most len place pos m p fits in
                  elim (cases_lt other (r.first + r.len + 1)) [
                    | inl early ↦ let f : true ≡ false = sym u ∙ out_low rest (r.first + r.len + 1) (2 ^ 48 + 1) other parts.back early in cc
                    | inr late ↦ omega arith
                  ]
            ]
          ];
    }

pub largest_known : (xs : List Run) (height len largest : ℕ) (k : ℕ) → length xs ≤ k → IsSearched xs height len k largest → IsLargest (has_in xs) height largest
largest_known xs height len largest k all s =
    record {
      found = s.found;
      most = λ n p spot. elim (cases_lt 0 n) [
        | inl pos ↦ s.most n p pos spot (ap (λ ys. has_in ys p) (take_all k xs all) ∙ begins (has_in xs) height n p pos spot)
        | inr none ↦ omega arith
      ];
    }
