-- Spans that are kept one after another.
use Rattle.std.proofs.Common.{arith, refl, inl, inr, ◌≡◌, ◌≤◌, ◌<◌, ◌+◌, ◌-◌, ◌/◌, ◌++◌, drop, ◌||◌, ◌∙◌, sym, ap, ℕ, zero, suc, Bool, true, false, List, [], ◌∷◌, length, take, slice_range, slice_index_or, if◌then◌else◌}
use Rattle.std.proofs.lemmas.List.{places, get_or-map, length-map, take_more}
use Rattle.std.proofs.lemmas.Bool.{cases_lt}
use Rattle.std.specs.List.{splice}
use Rattle.draid_faults.specs.Crash.{left_by}
use Rattle.draid_faults.specs.declared.crash.CrashRule.{CrashRule}
use Rattle.draid_faults.specs.declared.crash.CrashRule.TheVariants.{Old, New, Torn, Half}
use Rattle.draid_area.specs.declared.cells.Span.{Span}
use Rattle.draid_area.specs.Area.{within}
use Rattle.draid_area.specs.Cells.{LeavesByte, byte_at, covers}
use Rattle.draid_area.proofs.Clocks.{covers_more}
use Rattle.draid_area.proofs.Splices.{is_within, splice_inside, splice_outside}

-- the spans up to one more
covers_next : (spans : List Span) (k i : ℕ) (d : Span) → k < length spans → covers (take (k + 1) spans) i ≡ (if within (slice_index_or spans k d).start (slice_index_or spans k d).len i then true else covers (take k spans) i)
covers_next spans k i d low = ap (λ s. covers s i) (take_more spans k d low) ∙ covers_more (take k spans) (slice_index_or spans k d) i

-- bytes of a range that was overwritten with bytes of the same place
from_range : (bytes flushed : List ℕ) (at n i : ℕ) → at + n ≤ length bytes → at + n ≤ length flushed → at ≤ i → i < at + n → byte_at (splice flushed at (at + n) (slice_range bytes at (at + n))) i ≡ byte_at bytes i
from_range bytes flushed at n i inside long low high = grind (arith, places)

length-range : (bytes : List ℕ) (at n : ℕ) → at + n ≤ length bytes → n ≡ length (slice_range bytes at (at + n))
length-range bytes at n inside = grind (arith, places)

pub kept_here : (bytes flushed now : List ℕ) (at n i : ℕ) (b : Bool) → at + n ≤ length bytes → length bytes ≤ length flushed → now ≡ splice flushed at (at + n) (slice_range bytes at (at + n)) → within at n i ≡ b → (b ≡ false → byte_at flushed i ≡ byte_at bytes i) → byte_at now i ≡ byte_at bytes i
kept_here bytes flushed now at n i true inside long is here other =
    let w = is_within at n i here in
    ap (λ xs. byte_at xs i) is ∙ from_range bytes flushed at n i inside (omega (arith, inside, long)) w.0 w.1
kept_here bytes flushed now at n i false inside long is here other =
    ap (λ xs. byte_at xs i) is ∙ (splice_outside flushed (slice_range bytes at (at + n)) at n i 0 (omega (arith, inside, long)) (length-range bytes at n inside) here ∙ other refl)

length_spliced : (xs zs ys : List ℕ) (at n : ℕ) → length ys ≡ n → at + n ≤ length xs → zs ≡ splice xs at (at + n) ys → length zs ≡ length xs
length_spliced xs zs ys at n size inside is = rw is (grind (arith, places))

pub length_kept : (bytes flushed now : List ℕ) (at n : ℕ) → at + n ≤ length bytes → length bytes ≤ length flushed → now ≡ splice flushed at (at + n) (slice_range bytes at (at + n)) → length now ≡ length flushed
length_kept bytes flushed now at n inside long is = length_spliced flushed now (slice_range bytes at (at + n)) at n (sym (length-range bytes at n inside)) (omega (arith, inside, long)) is

both : (b c : Bool) → (if b then true else c) ≡ true → b ≡ false → c ≡ true
both true c is no_b = absurd (cc)
both false c is no_b = is

pub done_more : (bytes flushed now : List ℕ) (spans : List Span) (k i : ℕ) (d : Span) → k < length spans → (slice_index_or spans k d).start + (slice_index_or spans k d).len ≤ length bytes → length bytes ≤ length flushed
    → now ≡ splice flushed (slice_index_or spans k d).start ((slice_index_or spans k d).start + (slice_index_or spans k d).len) (slice_range bytes (slice_index_or spans k d).start ((slice_index_or spans k d).start + (slice_index_or spans k d).len))
    → (covers (take k spans) i ≡ true → byte_at flushed i ≡ byte_at bytes i) → covers (take (k + 1) spans) i ≡ true → byte_at now i ≡ byte_at bytes i
done_more bytes flushed now spans k i d low inside long is before there =
    let at = (slice_index_or spans k d).start in
    let n = (slice_index_or spans k d).len in
    kept_here bytes flushed now at n i (within at n i) inside long is refl (λ out. before (both (within at n i) (covers (take k spans) i) (sym (covers_next spans k i d low) ∙ there) out))

pub other_more : (bytes flushed now : List ℕ) (at n i : ℕ) → at + n ≤ length bytes → length bytes ≤ length flushed → now ≡ splice flushed at (at + n) (slice_range bytes at (at + n)) → byte_at flushed i ≡ byte_at bytes i → byte_at now i ≡ byte_at bytes i
other_more bytes flushed now at n i inside long is before = kept_here bytes flushed now at n i (within at n i) inside long is refl (λ out. before)

-- an offset that no span covers isn't in one of them
pub not_covered : (spans : List Span) (k i : ℕ) (d : Span) → k < length spans → covers spans i ≡ false → within (slice_index_or spans k d).start (slice_index_or spans k d).len i ≡ false
not_covered [] k i d low is = absurd (omega arith)
not_covered (span ∷ spans) zero i d low is = first (within span.start span.len i) (covers spans i) is
  where
    first : (b c : Bool) → (b || c) ≡ false → b ≡ false
    first true c e = absurd (cc)
    first false c e = refl
not_covered (span ∷ spans) (suc k) i d low is = not_covered spans k i d (omega arith) (rest (within span.start span.len i) (covers spans i) is)
  where
    rest : (b c : Bool) → (b || c) ≡ false → c ≡ false
    rest true c e = absurd (cc)
    rest false c e = e

length-left_by : (rule : CrashRule) (was written : List ℕ) → length was ≡ length written → length (left_by rule was written) ≡ length written
length-left_by Old was written same = same
length-left_by New was written same = refl
length-left_by Torn was written same = length-map written (λ n. 255 - n)
length-left_by Half was written same = grind (arith, places)

pub length-left : (rule : CrashRule) (flushed bytes now : List ℕ) (at n : ℕ) → at + n ≤ length bytes → length bytes ≤ length flushed → now ≡ splice flushed at (at + n) (left_by rule (slice_range flushed at (at + n)) (slice_range bytes at (at + n))) → length now ≡ length flushed
length-left rule flushed bytes now at n inside long is =
    let w = length-left_by rule (slice_range flushed at (at + n)) (slice_range bytes at (at + n)) (sym (length-range flushed at n (omega (arith, inside, long))) ∙ length-range bytes at n inside) in
    let m = length-range bytes at n inside in
    length_spliced flushed now (left_by rule (slice_range flushed at (at + n)) (slice_range bytes at (at + n))) at n (omega (arith, w, m)) (omega (arith, inside, long)) is

pub left_outside : (rule : CrashRule) (flushed bytes now : List ℕ) (at n i : ℕ) → at + n ≤ length bytes → length bytes ≤ length flushed → now ≡ splice flushed at (at + n) (left_by rule (slice_range flushed at (at + n)) (slice_range bytes at (at + n))) → within at n i ≡ false → byte_at now i ≡ byte_at flushed i
left_outside rule flushed bytes now at n i inside long is out =
    let w = length-left_by rule (slice_range flushed at (at + n)) (slice_range bytes at (at + n)) (sym (length-range flushed at n (omega (arith, inside, long))) ∙ length-range bytes at n inside) in
    let m = length-range bytes at n inside in
    ap (λ xs. byte_at xs i) is ∙ splice_outside flushed (left_by rule (slice_range flushed at (at + n)) (slice_range bytes at (at + n))) at n i 0 (omega (arith, inside, long)) (omega (arith, w, m)) out

-- ---- what a crash leaves of each byte
range_byte : (xs : List ℕ) (at n i : ℕ) → at + n ≤ length xs → at ≤ i → i < at + n → slice_index_or (slice_range xs at (at + n)) (i - at) 0 ≡ byte_at xs i
range_byte xs at n i inside low high = grind (arith, places)

first_half : (was written : List ℕ) (h j : ℕ) → h ≤ length written → j < h → slice_index_or (take h written ++ drop h was) j 0 ≡ slice_index_or written j 0
first_half was written h j inside low = grind (arith, places)

second_half : (was written : List ℕ) (h j : ℕ) → h ≤ length written → h ≤ j → slice_index_or (take h written ++ drop h was) j 0 ≡ slice_index_or was j 0
second_half was written h j inside high = grind (arith, places)

half_inside : (n : ℕ) → n / 2 ≤ n
half_inside n = omega arith

leaves_index : (rule : CrashRule) (was written : List ℕ) (j : ℕ) → length was ≡ length written → j < length written → LeavesByte rule (slice_index_or was j 0) (slice_index_or written j 0) (slice_index_or (left_by rule was written) j 0)
leaves_index Old was written j same low = refl
leaves_index New was written j same low = refl
leaves_index Torn was written j same low = get_or-map (λ b. 255 - b) written j 0 0 low
leaves_index Half was written j same low = elim (cases_lt j (length written / 2)) [
  | inl first ↦ inr (first_half was written (length written / 2) j (half_inside (length written)) first)
  | inr second ↦ inl (second_half was written (length written / 2) j (half_inside (length written)) second)
]

as_bytes : (rule : CrashRule) (a b c d e f : ℕ) → a ≡ d → b ≡ e → f ≡ c → LeavesByte rule a b c → LeavesByte rule d e f
as_bytes Old a b c d e f p q r is = r ∙ (is ∙ p)
as_bytes New a b c d e f p q r is = r ∙ (is ∙ q)
as_bytes Torn a b c d e f p q r is = r ∙ (is ∙ ap (λ x. 255 - x) q)
as_bytes Half a b c d e f p q r (inl is) = inl (r ∙ (is ∙ p))
as_bytes Half a b c d e f p q r (inr is) = inr (r ∙ (is ∙ q))

pub left_inside : (rule : CrashRule) (flushed bytes now : List ℕ) (at n i : ℕ) → at + n ≤ length bytes → length bytes ≤ length flushed → now ≡ splice flushed at (at + n) (left_by rule (slice_range flushed at (at + n)) (slice_range bytes at (at + n))) → within at n i ≡ true
    → LeavesByte rule (byte_at flushed i) (byte_at bytes i) (byte_at now i)
left_inside rule flushed bytes now at n i inside long is here =
    let was = slice_range flushed at (at + n) in
    let written = slice_range bytes at (at + n) in
    let w = is_within at n i here in
    let m = length-range bytes at n inside in
    let f = length-range flushed at n (omega (arith, inside, long)) in
    let k = length-left_by rule was written (sym f ∙ m) in
    as_bytes rule (slice_index_or was (i - at) 0) (slice_index_or written (i - at) 0) (slice_index_or (left_by rule was written) (i - at) 0) (byte_at flushed i) (byte_at bytes i) (byte_at now i)
    (range_byte flushed at n i (omega (arith, inside, long)) w.0 w.1) (range_byte bytes at n i inside w.0 w.1)
    (ap (λ xs. byte_at xs i) is ∙ splice_inside flushed (left_by rule was written) at n i 0 (omega (arith, inside, long)) (omega (arith, k, m)) w.0 w.1)
    (leaves_index rule was written (i - at) (sym f ∙ m) (omega (arith, w.0, w.1, m)))

-- a byte that was left twice
leaves_again : (rule : CrashRule) (was written mid left : ℕ) → LeavesByte rule was written mid → LeavesByte rule mid written left → LeavesByte rule was written left
leaves_again Old was written mid left a b = b ∙ a
leaves_again New was written mid left a b = b
leaves_again Torn was written mid left a b = b
leaves_again Half was written mid left (inl a) (inl b) = inl (b ∙ a)
leaves_again Half was written mid left (inr a) (inl b) = inr (b ∙ a)
leaves_again Half was written mid left a (inr b) = inr b

-- the bytes left up to one more span
pub left_more : (rule : CrashRule) (spans : List Span) (k i was written mid left : ℕ) (d : Span) → k < length spans → (covers (take k spans) i ≡ true → LeavesByte rule was written mid) → (covers (take k spans) i ≡ false → mid ≡ was)
    → (within (slice_index_or spans k d).start (slice_index_or spans k d).len i ≡ true → LeavesByte rule mid written left) → (within (slice_index_or spans k d).start (slice_index_or spans k d).len i ≡ false → left ≡ mid)
    → covers (take (k + 1) spans) i ≡ true → LeavesByte rule was written left
left_more rule spans k i was written mid left d low done other here out there = at (within (slice_index_or spans k d).start (slice_index_or spans k d).len i) (covers (take k spans) i) refl refl (sym (covers_next spans k i d low) ∙ there)
  where
    at : (b c : Bool) → within (slice_index_or spans k d).start (slice_index_or spans k d).len i ≡ b → covers (take k spans) i ≡ c → (if b then true else c) ≡ true → LeavesByte rule was written left
    at true true p q e = leaves_again rule was written mid left (done q) (here p)
    at true false p q e = as_bytes rule mid written left was written left (other q) refl refl (here p)
    at false true p q e = as_bytes rule was written mid was written left refl refl (out p) (done q)
    at false false p q e = absurd (cc)

pub other_left : (spans : List Span) (k i was mid left : ℕ) (d : Span) → k < length spans → (covers (take k spans) i ≡ false → mid ≡ was) → (within (slice_index_or spans k d).start (slice_index_or spans k d).len i ≡ false → left ≡ mid) → covers (take (k + 1) spans) i ≡ false → left ≡ was
other_left spans k i was mid left d low other out there = at (within (slice_index_or spans k d).start (slice_index_or spans k d).len i) (covers (take k spans) i) refl refl (sym (covers_next spans k i d low) ∙ there)
  where
    at : (b c : Bool) → within (slice_index_or spans k d).start (slice_index_or spans k d).len i ≡ b → covers (take k spans) i ≡ c → (if b then true else c) ≡ false → left ≡ was
    at true c p q e = absurd (cc)
    at false true p q e = absurd (cc)
    at false false p q e = out p ∙ other q
