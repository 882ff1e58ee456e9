-- The parts of an area in memory fit together after each call.
use Rattle.std.proofs.Common.{arith, refl, inl, inr, nat_lt, ◌&&◌, ◌≡◌, ◌≤◌, ◌<◌, ◌+◌, ◌-◌, ◌∙◌, sym, ap, subst, ℕ, Bool, true, false, List, [], ◌∷◌, ◌++◌, length, take, replicate, slice_index_or, if◌then◌else◌}
use Rattle.std.proofs.lemmas.Bool.Decides.{nat_tests}
use Rattle.std.proofs.lemmas.Bool.{cases_lt}
use Rattle.std.proofs.lemmas.List.{places}
use Rattle.std.proofs.lemmas.List.Elements.{All-append}
use Rattle.std.specs.List.{splice}
use Rattle.draid_faults.specs.declared.crash.CrashRule.{CrashRule}
use Rattle.draid_faults.specs.declared.crash.CrashRule.TheVariants.{Old, New, Torn, Half}
use Rattle.draid_area.specs.declared.cells.Span.{Span}
use Rattle.draid_area.specs.Area.{within}
use Rattle.draid_area.specs.Cells.{AreInside, IsSound, LeavesByte, byte_at, covers, is_soft, is_torn, length_by, told_by, torn_by}
use Rattle.draid_area.specs.Moments.{IsCrashOutcome}
use Rattle.draid_area.proofs.Clocks.{clock_grown, covers_more}
use Rattle.draid_area.proofs.Splices.{length-splice, splice_outside}

-- what was flushed with further zeros
pub sound_longer : (bytes flushed longer : List ℕ) (firm m : ℕ) (spans : List Span) → longer ≡ flushed ++ replicate (m - length flushed) 0 → IsSound bytes flushed firm spans → IsSound bytes longer firm spans
sound_longer bytes flushed longer firm m spans is s = record {
  kept = s.kept;
  long = rw is (grind (arith, places, s.long));
  same = λ i out. ap (λ xs. byte_at xs i) is ∙ (clock_grown flushed (m - length flushed) i ∙ s.same i out);
  grown = s.grown;
  inside = s.inside;
}

-- a write that failed after there was room in what was flushed
pub sound_unwritten : (bytes same_bytes flushed longer : List ℕ) (firm : ℕ) (spans same_spans : List Span) → same_bytes ≡ bytes → ((i : ℕ) → byte_at longer i ≡ byte_at flushed i) → length flushed ≤ length longer → same_spans ≡ spans
    → IsSound bytes flushed firm spans → IsSound same_bytes longer firm same_spans
sound_unwritten bytes same_bytes flushed longer firm spans same_spans is_bytes is long is_spans s = rw (is_bytes, is_spans) (record {
  kept = s.kept;
  long = omega (arith, s.long, long);
  same = λ i out. is i ∙ s.same i out;
  grown = s.grown;
  inside = s.inside;
})

apart : (b c : Bool) → (if b then true else c) ≡ false → (b ≡ false) × (c ≡ false)
apart true c is = absurd (cc)
apart false c is = (refl, is)

covered : (b c : Bool) → (b ≡ false → c ≡ true) → (if b then true else c) ≡ true
covered true c is = refl
covered false c is = is refl

length_new : (bytes bs : List ℕ) (at i : ℕ) → at ≤ length bytes → i < length (splice bytes at (at + length bs) bs) → within at (length bs) i ≡ false → i < length bytes
length_new bytes bs at i inside low out = grind (arith, places, nat_tests)

long_enough : (bytes bs flushed : List ℕ) (at : ℕ) → at ≤ length bytes → length bytes ≤ length flushed → length (splice bytes at (at + length bs) bs) ≤ length (flushed ++ replicate (at + length bs - length flushed) 0)
long_enough bytes bs flushed at inside long = grind (arith, places)

ends_inside : (bytes bs : List ℕ) (at : ℕ) → at ≤ length bytes → at + length bs ≤ length (splice bytes at (at + length bs) bs)
ends_inside bytes bs at inside = grind (arith, places)

one_inside : (len : ℕ) (span : Span) → span.start + span.len ≤ len → AreInside len (span ∷ [])
one_inside len span is = λ k d low. (let e : k ≡ 0 = omega (arith, low) in rw e is)

more_inside : (len more : ℕ) (spans : List Span) → len ≤ more → AreInside len spans → AreInside more spans
more_inside len more spans le inside = λ k d low. (let a = inside k d low in omega (arith, a, le))

pub sound_written : (bytes new flushed longer bs : List ℕ) (firm at : ℕ) (spans more : List Span) (span : Span) → at ≤ length bytes → span.start ≡ at → span.len ≡ length bs
    → new ≡ splice bytes at (at + length bs) bs → longer ≡ flushed ++ replicate (at + length bs - length flushed) 0 → more ≡ spans ++ span ∷ []
    → IsSound bytes flushed firm spans → IsSound new longer firm more
sound_written bytes new flushed longer bs firm at spans more span inside starts has written is adds s = record {
  kept = (let grows = length-splice bytes bs at (length bs) refl in let l : length new ≡ length (splice bytes at (at + length bs) bs) = ap length written in omega (arith, s.kept, grows, l));
  long = rw (written, is) (long_enough bytes bs flushed at inside s.long);
  same = λ i out.
      let here : within at (length bs) i ≡ within span.start span.len i = rw (starts, has) refl in
      let e : (if within span.start span.len i then true else covers spans i) ≡ false = sym (covers_more spans span i) ∙ (ap (λ xs. covers xs i) (sym adds) ∙ out) in
      let o = apart (within span.start span.len i) (covers spans i) e in
      ap (λ xs. byte_at xs i) is ∙ (clock_grown flushed (at + length bs - length flushed) i ∙ (s.same i o.1 ∙ (sym (splice_outside bytes bs at (length bs) i 0 inside refl (here ∙ o.0)) ∙ ap (λ xs. byte_at xs i) (sym written))));
  grown = λ i high low.
      let here : within at (length bs) i ≡ within span.start span.len i = rw (starts, has) refl in
      let low_new : i < length (splice bytes at (at + length bs) bs) = subst (λ xs. i < length xs) written low in
      ap (λ xs. covers xs i) adds ∙ (covers_more spans span i
      ∙ covered (within span.start span.len i) (covers spans i) (λ out. s.grown i high (length_new bytes bs at i inside low_new (here ∙ out))));
  inside =
      let grows = length-splice bytes bs at (length bs) refl in
      let ends = ends_inside bytes bs at inside in
      let P : List Span → Type 0 = λ xs. AreInside (length new) xs in
      let l : length new ≡ length (splice bytes at (at + length bs) bs) = ap length written in
      subst P (sym adds)
      (All-append (λ (x : Span). x.start + x.len ≤ length new) spans (span ∷ []) (more_inside (length bytes) (length new) spans (omega (arith, grows, l)) s.inside)
      (one_inside (length new) span (omega (arith, ends, l, starts, has))));
}

-- nothing was written since a flush
pub sound_flushed : (bytes flushed : List ℕ) → length bytes ≤ length flushed → ((i : ℕ) → byte_at flushed i ≡ byte_at bytes i) → IsSound bytes flushed (length bytes) []
sound_flushed bytes flushed long same = record {
  kept = omega arith;
  long = long;
  same = λ i out. same i;
  grown = λ i high low. absurd (omega (arith, high, low));
  inside = λ k d low. absurd (omega (arith, low));
}

pub sound_begun : (bytes flushed : List ℕ) (firm : ℕ) (none : List Span) → flushed ≡ bytes → firm ≡ length bytes → none ≡ [] → IsSound bytes flushed firm none
sound_begun bytes flushed firm none same is empty = rw (same, is, empty) (sound_flushed bytes bytes (omega arith) (λ i. refl))

pub sound_cut : (cut left : List ℕ) (kept : ℕ) → kept ≤ length left → cut ≡ take kept left → IsSound cut cut kept []
sound_cut cut left kept short is = record {
  kept = rw is (grind (arith, places));
  long = omega arith;
  same = λ i out. refl;
  grown = λ i high low. absurd (let l : length cut ≡ kept = rw is (grind (arith, places)) in omega (arith, high, low, l));
  inside = λ k d low. absurd (omega (arith, low));
}

-- ---- a crash
not_covered : (c t : Bool) → (if c then true else t) ≡ false → c ≡ false
not_covered true t is = absurd (cc)
not_covered false t is = refl

not_torn : (c t : Bool) → (if c then true else t) ≡ false → t ≡ false
not_torn true t is = absurd (cc)
not_torn false t is = is

-- a byte that spans and failed writes left
torn_left : (rule : CrashRule) (was written mid : ℕ) → LeavesByte rule was written mid → LeavesByte rule was written (torn_by rule written mid)
torn_left Old was written mid is = is
torn_left New was written mid is = is
torn_left Torn was written mid is = refl
torn_left Half was written mid is = is

torn_same : (rule : CrashRule) (was written mid : ℕ) → mid ≡ was → was ≡ written → LeavesByte rule was written (torn_by rule written mid)
torn_same Old was written mid is same = is
torn_same New was written mid is same = is ∙ same
torn_same Torn was written mid is same = refl
torn_same Half was written mid is same = inl is

left_torn : (rule : CrashRule) (c t : Bool) (was written mid left : ℕ) → (if c then true else t) ≡ true → (c ≡ true → LeavesByte rule was written mid) → (c ≡ false → mid ≡ was) → (c ≡ false → was ≡ written)
    → left ≡ (if t then torn_by rule written mid else mid) → LeavesByte rule was written left
left_torn rule true true was written mid left there done other same is = rw is (torn_left rule was written mid (done refl))
left_torn rule true false was written mid left there done other same is = rw is (done refl)
left_torn rule false true was written mid left there done other same is = rw is (torn_same rule was written mid (other refl) (same refl))
left_torn rule false false was written mid left there done other same is = absurd (cc)

-- of a byte that is there
there_now : (i n : ℕ) (t : Bool) (x y left : ℕ) → i < n → left ≡ (if nat_lt i n && t then x else y) → left ≡ (if t then x else y)
there_now i n t x y left low is = let e : nat_lt i n ≡ true = grind (arith, nat_tests) in is ∙ rw e refl

module _ (rule : CrashRule) (bytes flushed mid left : List ℕ) (firm : ℕ) (spans : List Span) (torn : List Bool) (s : IsSound bytes flushed firm spans)
    (torn_is : (i : ℕ) → byte_at left i ≡ (if nat_lt i (length bytes) && is_torn torn i then torn_by rule (byte_at bytes i) (byte_at mid i) else byte_at mid i))
    (same : (i : ℕ) → covers spans i ≡ false → byte_at mid i ≡ byte_at flushed i) where
  pub soft_left : ((i : ℕ) → covers spans i ≡ true → LeavesByte rule (byte_at flushed i) (byte_at bytes i) (byte_at mid i)) → (i : ℕ) → i < length bytes → is_soft spans torn i ≡ true → LeavesByte rule (byte_at flushed i) (byte_at bytes i) (byte_at left i)
  soft_left done i low there = left_torn rule (covers spans i) (is_torn torn i) (byte_at flushed i) (byte_at bytes i) (byte_at mid i) (byte_at left i) there (done i) (same i) (s.same i)
      (there_now i (length bytes) (is_torn torn i) (torn_by rule (byte_at bytes i) (byte_at mid i)) (byte_at mid i) (byte_at left i) low (torn_is i))

  pub firm_left : (i : ℕ) → i < length bytes → is_soft spans torn i ≡ false → byte_at left i ≡ byte_at flushed i
  firm_left i low out =
      let e = not_torn (covers spans i) (is_torn torn i) out in
      there_now i (length bytes) (is_torn torn i) (torn_by rule (byte_at bytes i) (byte_at mid i)) (byte_at mid i) (byte_at left i) low (torn_is i)
      ∙ (rw e refl ∙ same i (not_covered (covers spans i) (is_torn torn i) out))

pub length_least : (rule : CrashRule) (firm len : ℕ) → firm ≤ len → firm ≤ length_by rule firm len
length_least Old firm len le = omega arith
length_least New firm len le = le
length_least Torn firm len le = le
length_least Half firm len le = le

pub length_most : (rule : CrashRule) (firm len : ℕ) → firm ≤ len → length_by rule firm len ≤ len
length_most Old firm len le = le
length_most New firm len le = omega arith
length_most Torn firm len le = omega arith
length_most Half firm len le = omega arith

read_inside : (xs ys : List ℕ) (kept i d : ℕ) → i < kept → kept ≤ length xs → kept ≤ length ys → byte_at xs i ≡ byte_at ys i → slice_index_or (take kept xs) i d ≡ slice_index_or ys i d
read_inside xs ys kept i d low long_x long_y is = grind (arith, places)

read_past : (xs ys : List ℕ) (kept i d : ℕ) → kept ≤ i → kept ≤ length xs → length ys ≤ i → slice_index_or (take kept xs) i d ≡ slice_index_or ys i d
read_past xs ys kept i d high long past = grind (arith, places)

pub is_outcome : (rule : CrashRule) (bytes flushed left cut since : List ℕ) (firm kept clock : ℕ) (spans none : List Span) (torn calm : List Bool) → IsSound bytes flushed firm spans → length left ≡ length flushed
    → ((i : ℕ) → i < length bytes → is_soft spans torn i ≡ false → byte_at left i ≡ byte_at flushed i) → kept ≡ length_by rule firm (length bytes) → cut ≡ take kept left → none ≡ [] → ((i : ℕ) → is_torn calm i ≡ false)
    → IsCrashOutcome (told_by bytes firm spans torn since clock) (told_by cut kept none calm since clock)
is_outcome rule bytes flushed left cut since firm kept clock spans none torn calm s long same by is empty calms =
    let least = length_least rule firm (length bytes) s.kept in
    let most = length_most rule firm (length bytes) s.kept in
    let length_cut : length cut ≡ kept = length_taken cut left kept (omega (arith, long, by, most, s.long)) is in
    record {
      left = record {
        same = λ i d out. elim (cases_lt i kept) [
          | inl low ↦ ap (λ xs. slice_index_or xs i d) is ∙ read_inside left bytes kept i d low (omega (arith, long, by, most, s.long)) (omega (arith, by, most)) (same i (omega (arith, low, by, most)) out ∙ s.same i (not_covered (covers spans i) (is_torn torn i) out))
          | inr high ↦ ap (λ xs. slice_index_or xs i d) is ∙ read_past left bytes kept i d high (omega (arith, long, by, most, s.long)) (past i (omega (arith, by, least, high)) (not_covered (covers spans i) (is_torn torn i) out))
        ];
        least = omega (arith, length_cut, by, least);
        most = omega (arith, length_cut, by, most);
      };
      firm = sym length_cut;
      soft = λ i. rw empty (calms i);
      since = λ i. refl;
      clock = refl;
    }
  where
    length_taken : (xs ys : List ℕ) (n : ℕ) → n ≤ length ys → xs ≡ take n ys → length xs ≡ n
    length_taken xs ys n low e = rw e (grind (arith, places))

    differ : (b : Bool) → b ≡ true → b ≡ false → ⊥
    differ b t f = absurd (cc)

    past : (i : ℕ) → firm ≤ i → covers spans i ≡ false → length bytes ≤ i
    past i high out = elim (cases_lt i (length bytes)) [
      | inl low ↦ absurd (differ (covers spans i) (s.grown i high low) out)
      | inr le ↦ le
    ]

-- what it reads after a crash by this rule
pub left_by_rule : (rule : CrashRule) (bytes flushed left cut : List ℕ) (firm kept : ℕ) (spans : List Span) (torn : List Bool) → IsSound bytes flushed firm spans → length left ≡ length flushed
    → ((i : ℕ) → i < length bytes → is_soft spans torn i ≡ true → LeavesByte rule (byte_at flushed i) (byte_at bytes i) (byte_at left i)) → kept ≡ length_by rule firm (length bytes) → cut ≡ take kept left
    → (length cut ≡ length_by rule firm (length bytes)) × ((i : ℕ) → i < length cut → is_soft spans torn i ≡ true → LeavesByte rule (byte_at flushed i) (byte_at bytes i) (byte_at cut i))
left_by_rule rule bytes flushed left cut firm kept spans torn s long leaves by is =
    let most = length_most rule firm (length bytes) s.kept in
    let size = cut_long cut left kept (omega (arith, long, by, most, s.long)) is in
    (size ∙ by, (λ i low there. subst (λ b. LeavesByte rule (byte_at flushed i) (byte_at bytes i) b) (sym (cut_byte cut left kept i (omega (arith, low, size)) (omega (arith, long, by, most, s.long)) is)) (leaves i (omega (arith, low, size, by, most)) there)))
  where
    cut_long : (xs ys : List ℕ) (n : ℕ) → n ≤ length ys → xs ≡ take n ys → length xs ≡ n
    cut_long xs ys n low e = rw e (grind (arith, places))

    cut_byte : (xs ys : List ℕ) (n i : ℕ) → i < n → n ≤ length ys → xs ≡ take n ys → byte_at xs i ≡ byte_at ys i
    cut_byte xs ys n i low inside e = rw e (grind (arith, places))

-- what was flushed with further zeros
pub kept_longer : (flushed longer : List ℕ) (m i : ℕ) → longer ≡ flushed ++ replicate (m - length flushed) 0 → byte_at longer i ≡ byte_at flushed i
kept_longer flushed longer m i is = ap (λ xs. byte_at xs i) is ∙ clock_grown flushed (m - length flushed) i
