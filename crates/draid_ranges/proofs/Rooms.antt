use Rattle.std.proofs.Common.{◌≡◌, ◌+◌, ◌-◌, ◌<◌, ◌≤◌, ◌∷◌, [], ◌^◌, ℕ, Bool, true, false, ◌||◌, List, length, take, drop, get_or, min, max, ap, arith, sym, ◌∙◌, inl, inr}
use Rattle.std.proofs.lemmas.Bool.{cases_lt}
use Rattle.std.proofs.lemmas.List.{take_more}
use Rattle.std.proofs.lemmas.Bool.Decides.{nat_tests}
use Rattle.draid_ranges.specs.declared.run.Run.{Run}
use Rattle.draid_ranges.specs.Numbers.{IsRoom}
use Rattle.draid_ranges.specs.Runs.{AreApart, end_of, in_run, has_in}
use Rattle.draid_ranges.proofs.Hulls.{in_between}
use Rattle.draid_ranges.proofs.Maximal.{run_maximal}
use Rattle.draid_ranges.proofs.Within.{has-append, parted, out_low}

begins : (xs : List Run) (len low high q : ℕ) → 0 < len → IsRoom (has_in xs) len low high q → has_in xs q ≡ true
begins xs len low high q some room = room.members q (omega arith) (omega arith)

nowhere : (t b d : Bool) → (t || (b || d)) ≡ true → t ≡ false → b ≡ false → d ≡ false → ⊥
nowhere t b d h e f g = grind arith

not_before : (run : Run) (x : ℕ) → x < run.first → in_run run x ≡ false
not_before run x h = grind (arith, nat_tests)

-- where no room begins in the runs before one, each begins in it or behind
pub room_from : (xs : List Run) (k len low high q : ℕ) (d : Run) → AreApart xs → k < length xs → 0 < len → (IsRoom (has_in xs) len low high q → has_in (take k xs) q ≡ false)
    → IsRoom (has_in xs) len low high q → max (get_or xs k d).first low ≤ q
room_from xs k len low high q d apart l some none room =
    let r = get_or xs k d in
    let p = parted xs k 0 (2 ^ 48 + 1) d apart l in
    let from = room.from in
    elim (cases_lt q r.first) [
      | inl h ↦ absurd (nowhere (has_in (take k xs) q) (in_run r q) (has_in (drop (k + 1) xs) q) (sym (p.members q) ∙ begins xs len low high q some room) (none room)
          (not_before r q h) (out_low (drop (k + 1) xs) (r.first + r.len + 1) (2 ^ 48 + 1) q p.back (omega arith)))
      | inr h ↦ omega arith
    ]

neither : (t b : Bool) → t ≡ false → (b ≡ true → ⊥) → (t || (b || false)) ≡ false
neither t b e h = grind arith

-- no room begins in a run that is too short
pub room_more : (xs : List Run) (k len low high q : ℕ) (d : Run) → AreApart xs → k < length xs → 0 < len → (IsRoom (has_in xs) len low high q → has_in (take k xs) q ≡ false)
    → min ((get_or xs k d).first + (get_or xs k d).len) high - max (get_or xs k d).first low < len → IsRoom (has_in xs) len low high q → has_in (take (k + 1) xs) q ≡ false
room_more xs k len low high q d apart l some none short room =
    let r = get_or xs k d in
    let m = run_maximal xs k d apart l in
    let from = room.from in
    let to = room.to in
    let inside : in_run r q ≡ true → ⊥ = λ h.
    let b = in_between r.first (end_of r) q h in
    elim (cases_lt (end_of r) (q + len)) [
      | inl past ↦ let t : true ≡ false = sym (room.members (end_of r) (omega arith) past) ∙ m.behind in cc
      | inr ends ↦ omega arith
    ] in
    ap (λ ys. has_in ys q) (take_more xs k d l) ∙ has-append (take k xs) (r ∷ []) q ∙ neither (has_in (take k xs) q) (in_run r q) (none room) inside
