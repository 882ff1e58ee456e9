use Rattle.std.proofs.Common.{arith, refl, max, ◌≡◌, ◌≤◌, ◌+◌, ◌-◌, ◌∙◌, sym, ap, ℕ, zero, suc, ◌||◌, Bool, true, false, List, [], ◌∷◌, ◌++◌, Option, Some, Result, Ok, Err, OnOk, OnErr, length, replicate, slice_index_or, slice_range, if◌then◌else◌}
use Rattle.std.proofs.lemmas.Bool.Decides.{nat_tests}
use Rattle.std.proofs.lemmas.List.{places, same_lists}
use Rattle.std.proofs.lemmas.List.Folds.{list_any-append}
use Rattle.std.specs.List.{splice}
use Rattle.draid_area.specs.declared.cells.Span.{Span}
use Rattle.draid_area.specs.Area.{Content, Writes, begins, flushes, tears, waits, within, writes}
use Rattle.draid_names.specs.Clocks.{tick}
use Rattle.draid_area.specs.Cells.{HasMarks, clock_at, covers, is_soft, is_torn, told_by}
use Rattle.draid_area.proofs.Splices.{splice_nothing, splice_padded}

-- a list of what nothing stands for
pub nothing_at : {A : Type 0} (v : A) (n i : ℕ) → slice_index_or (replicate n v) i v ≡ v
nothing_at v zero i = refl
nothing_at v (suc n) zero = refl
nothing_at v (suc n) (suc i) = nothing_at v n i

-- what nothing stands for, for further offsets, changes none
pub same_grown : {A : Type 0} (v : A) (xs : List A) (n i : ℕ) → slice_index_or (xs ++ replicate n v) i v ≡ slice_index_or xs i v
same_grown v [] n i = nothing_at v n i
same_grown v (x ∷ xs) n zero = refl
same_grown v (x ∷ xs) n (suc i) = same_grown v xs n i

pub clock_grown : (since : List ℕ) (n i : ℕ) → clock_at (since ++ replicate n 0) i ≡ clock_at since i
clock_grown since n i = same_grown 0 since n i

-- marks that were all taken away
pub calmed : (torn : List Bool) (i : ℕ) → (if within 0 (length torn) i then false else slice_index_or torn i false) ≡ false
calmed torn i = either (within 0 (length torn) i) refl
  where
    outside : (xs : List Bool) (k : ℕ) → within 0 (length xs) k ≡ false → slice_index_or xs k false ≡ false
    outside xs k out = grind (arith, places, nat_tests)

    either : (b : Bool) → within 0 (length torn) i ≡ b → (if b then false else slice_index_or torn i false) ≡ false
    either true here = refl
    either false out = outside torn i out

or_else : (a b : Bool) → (a || (b || false)) ≡ (if b then true else a)
or_else true true = refl
or_else true false = refl
or_else false true = refl
or_else false false = refl

-- the spans after one more
pub covers_more : (spans : List Span) (span : Span) (i : ℕ) → covers (spans ++ span ∷ []) i ≡ (if within span.start span.len i then true else covers spans i)
covers_more spans span i = list_any-append (λ (s : Span). within s.start s.len i) spans (span ∷ []) ∙ or_else (covers spans i) (within span.start span.len i)

outside_nothing : {A : Type 0} (x y : A) (at i : ℕ) → y ≡ (if within at 0 i then x else y)
outside_nothing x y at i = grind (arith, nat_tests)

-- a write that found no memory
pub told_waits : (bytes new_bytes : List ℕ) (firm : ℕ) (spans new_spans : List Span) (torn new_torn : List Bool) (since new_since : List ℕ) (clock new_clock : ℕ) → new_bytes ≡ bytes → new_spans ≡ spans → ((i : ℕ) → is_torn new_torn i ≡ is_torn torn i)
    → ((i : ℕ) → clock_at new_since i ≡ clock_at since i) → new_clock ≡ tick clock → Some (told_by new_bytes firm new_spans new_torn new_since new_clock) ≡ Some (waits (told_by bytes firm spans torn since clock))
told_waits bytes new_bytes firm spans new_spans torn new_torn since new_since clock new_clock same_bytes same_spans same_torn same_since ticks = λ j. Some (record {
  bytes = same_bytes j;
  firm = firm;
  soft = λ i. is_soft_same i j;
  since = λ i. same_since i j;
  clock = ticks j;
})
  where
    is_soft_same : (i : ℕ) → is_soft new_spans new_torn i ≡ is_soft spans torn i
    is_soft_same i = ap (λ s. is_soft s new_torn i) same_spans ∙ ap (λ b. if covers spans i then true else b) (same_torn i)

waits_writes : (at : ℕ) (x : Content) → waits x ≡ writes at [] x
waits_writes at x = λ j. record {
  bytes = sym (splice_nothing x.bytes at) j;
  firm = x.firm;
  soft = λ i. outside_nothing true (x.soft i) at i j;
  since = λ i. outside_nothing (tick x.clock) (x.since i) at i j;
  clock = tick x.clock;
}

pub writes_none : {E : Type 0} (at : ℕ) (bs : List ℕ) (x : Content) (o : Option Content) (e : E) (r : Result Unit E) → r ≡ Err e → at ≤ length x.bytes → o ≡ Some (waits x) → Writes at bs r (Some x) o
writes_none at bs x o e r is inside told = record {
  stands = [];
  whole = rw is tt;
  no_more = omega arith;
  inside = inside;
  told = told ∙ ap Some (waits_writes at x);
}

-- a write that the device failed
stands_same : (bytes : List ℕ) (at n : ℕ) → at ≤ length bytes → bytes ≡ splice bytes at (at + length (slice_range bytes at (at + n))) (slice_range bytes at (at + n))
stands_same bytes at n inside = same_lists _ _ (grind (arith, places)) (λ k d h. grind (arith, places))

soft_torn : (c w t now : Bool) → now ≡ (if w then true else t) → (if c then true else now) ≡ (if w then true else (if c then true else t))
soft_torn true true t now is = refl
soft_torn true false t now is = refl
soft_torn false w t now is = is

pub told_tears : (bytes : List ℕ) (firm : ℕ) (spans : List Span) (torn new_torn : List Bool) (since new_since : List ℕ) (clock new_clock at n left : ℕ) → at ≤ length bytes → left ≡ length (slice_range bytes at (at + n))
    → ((i : ℕ) → is_torn new_torn i ≡ (if within at left i then true else is_torn torn i)) → ((i : ℕ) → clock_at new_since i ≡ (if within at left i then new_clock else clock_at since i)) → new_clock ≡ tick clock
    → Some (told_by bytes firm spans new_torn new_since new_clock) ≡ Some (tears at n (told_by bytes firm spans torn since clock))
told_tears bytes firm spans torn new_torn since new_since clock new_clock at n left inside is marks clocks ticks = λ j. Some (record {
  bytes = stands_same bytes at n inside j;
  firm = firm;
  soft = λ i. softened i j;
  since = λ i. since_raised i j;
  clock = ticks j;
})
  where
    softened : (i : ℕ) → is_soft spans new_torn i ≡ (if within at (length (slice_range bytes at (at + n))) i then true else is_soft spans torn i)
    softened i = soft_torn (covers spans i) (within at (length (slice_range bytes at (at + n))) i) (is_torn torn i) (is_torn new_torn i) (marks i ∙ ap (λ m. if within at m i then true else is_torn torn i) is)

    since_raised : (i : ℕ) → clock_at new_since i ≡ (if within at (length (slice_range bytes at (at + n))) i then tick clock else clock_at since i)
    since_raised i = clocks i ∙ rw (ticks, is) refl

shorter_range : (bytes : List ℕ) (at n : ℕ) → length (slice_range bytes at (at + n)) ≤ n
shorter_range bytes at n = grind (arith, places)

pub writes_torn : {E : Type 0} (at : ℕ) (bs : List ℕ) (x : Content) (o : Option Content) (e : E) → at ≤ length x.bytes → o ≡ Some (tears at (length bs) x) → Writes at bs (Err e) (Some x) o
writes_torn at bs x o e inside told = record {
  stands = slice_range x.bytes at (at + length bs);
  whole = tt;
  no_more = shorter_range x.bytes at (length bs);
  inside = inside;
  told = told;
}

-- a write that succeeded
soft_written : (c w d t now : Bool) → c ≡ (if w then true else d) → now ≡ t → (if c then true else now) ≡ (if w then true else (if d then true else t))
soft_written c true d t now is same = rw is refl
soft_written c false d t now is same = rw (is, same) refl

pub writes_all : {E : Type 0} (at : ℕ) (bs bytes new_bytes : List ℕ) (firm : ℕ) (spans new_spans : List Span) (torn new_torn : List Bool) (since new_since : List ℕ) (clock new_clock : ℕ) → at ≤ length bytes → new_bytes ≡ splice bytes at (at + length bs) bs
    → ((i : ℕ) → covers new_spans i ≡ (if within at (length bs) i then true else covers spans i)) → ((i : ℕ) → is_torn new_torn i ≡ is_torn torn i) → ((i : ℕ) → clock_at new_since i ≡ (if within at (length bs) i then tick clock else clock_at since i)) → new_clock ≡ tick clock
    → Writes {E = E} at bs (Ok tt) (Some (told_by bytes firm spans torn since clock)) (Some (told_by new_bytes firm new_spans new_torn new_since new_clock))
writes_all at bs bytes new_bytes firm spans new_spans torn new_torn since new_since clock new_clock inside written marks_spans same_torn marks_since ticks = record {
  stands = bs;
  whole = refl;
  no_more = omega arith;
  inside = inside;
  told = λ j. Some (record {
    bytes = written j;
    firm = firm;
    soft = λ i. soft_written (covers new_spans i) (within at (length bs) i) (covers spans i) (is_torn torn i) (is_torn new_torn i) (marks_spans i) (same_torn i) j;
    since = λ i. marks_since i j;
    clock = ticks j;
  });
}

-- the clocks after they were lengthened and marked
pub clocks_written : (since grown new_since : List ℕ) (at n clock t : ℕ) → ((i : ℕ) → clock_at grown i ≡ clock_at since i) → ((i : ℕ) → clock_at new_since i ≡ (if within at n i then t else clock_at grown i)) → t ≡ tick clock → (i : ℕ) → clock_at new_since i ≡ (if within at n i then tick clock else clock_at since i)
clocks_written since grown new_since at n clock t grows marked ticks i = marked i ∙ rw (ticks, grows i) refl

-- the bytes after they were lengthened and overwritten
pub bytes_written : (bytes grown new_bytes bs : List ℕ) (at : ℕ) → at ≤ length bytes → grown ≡ bytes ++ replicate (at + length bs - length bytes) 0 → new_bytes ≡ splice grown at (at + length bs) bs → new_bytes ≡ splice bytes at (at + length bs) bs
bytes_written bytes grown new_bytes bs at inside grows written = written ∙ rw grows (splice_padded 0 bytes bs at (length bs) inside)

long_enough : {A : Type 0} (xs grown : List A) (v : A) (m : ℕ) → grown ≡ xs ++ replicate (m - length xs) v → m ≤ length grown
long_enough xs grown v m grows = rw grows (grind (arith, places))

no_shorter : {A : Type 0} (xs grown : List A) (v : A) (m : ℕ) → grown ≡ xs ++ replicate (m - length xs) v → length xs ≤ length grown
no_shorter xs grown v m grows = rw grows (grind (arith, places))

pub reach_same : {A E : Type 0} (r : Result Unit E) (v : A) (xs grown : List A) (m : ℕ) → OnOk r (grown ≡ xs ++ replicate (m - length xs) v) → OnErr r (grown ≡ xs) → (i : ℕ) → slice_index_or grown i v ≡ slice_index_or xs i v
reach_same (Ok u) v xs grown m ok err i = ap (λ s. slice_index_or s i v) ok ∙ same_grown v xs (m - length xs) i
reach_same (Err e) v xs grown m ok err i = ap (λ s. slice_index_or s i v) err

pub reach_long : {A E : Type 0} (r : Result Unit E) (v : A) (xs grown : List A) (m : ℕ) → OnOk r (grown ≡ xs ++ replicate (m - length xs) v) → OnOk r (m ≤ length grown)
reach_long (Ok u) v xs grown m ok = long_enough xs grown v m ok
reach_long (Err e) v xs grown m ok = tt

pub reach_kept : {A E : Type 0} (r : Result Unit E) (v : A) (xs grown : List A) (m : ℕ) → OnOk r (grown ≡ xs ++ replicate (m - length xs) v) → OnErr r (grown ≡ xs) → length xs ≤ length grown
reach_kept (Ok u) v xs grown m ok err = no_shorter xs grown v m ok
reach_kept (Err e) v xs grown m ok err = rw err (omega arith)

-- no clock is later than the area's after it was raised
pub clocks_early : (since now : List ℕ) (clock later : ℕ) → later ≡ tick clock → ((i : ℕ) → clock_at now i ≡ clock_at since i) → ((i : ℕ) → clock_at since i ≤ clock) → (i : ℕ) → clock_at now i ≤ later
clocks_early since now clock later ticks same early i = rw (same i) (let e = early i in grind (arith, nat_tests, e, ticks))

marked_early : (at n t later clock c : ℕ) (b : Bool) → t ≤ later → c ≤ clock → clock ≤ later → (if b then t else c) ≤ later
marked_early at n t later clock c true low early le = low
marked_early at n t later clock c false low early le = omega (arith, early, le)

pub clocks_marked : (since now : List ℕ) (at n clock later : ℕ) → later ≡ tick clock → ((i : ℕ) → clock_at now i ≡ (if within at n i then tick clock else clock_at since i)) → ((i : ℕ) → clock_at since i ≤ clock) → (i : ℕ) → clock_at now i ≤ later
clocks_marked since now at n clock later ticks marks early i =
    rw (marks i) (marked_early at n (tick clock) later clock (clock_at since i) (within at n i) (omega (arith, ticks)) (early i) (grind (arith, nat_tests, ticks)))

-- ---- there is a mark and a clock for each byte
pub marks_longer : (bytes : List ℕ) (torn more : List Bool) (since later : List ℕ) → length torn ≤ length more → length since ≤ length later → HasMarks bytes torn since → HasMarks bytes more later
marks_longer bytes torn more since later a b h = record { marks = omega (arith, h.marks, a); clocks = omega (arith, h.clocks, b) }

pub marks_same : (bytes same : List ℕ) (torn more : List Bool) (since later : List ℕ) → same ≡ bytes → length torn ≤ length more → length since ≤ length later → HasMarks bytes torn since → HasMarks same more later
marks_same bytes same torn more since later is a b h = rw is (marks_longer bytes torn more since later a b h)

length_written : (bytes new bs : List ℕ) (at : ℕ) → at ≤ length bytes → new ≡ splice bytes at (at + length bs) bs → length new ≤ max (length bytes) (at + length bs)
length_written bytes new bs at inside is = rw is (grind (arith, places))

pub marks_written : (bytes new bs : List ℕ) (torn more : List Bool) (since later marked : List ℕ) (at : ℕ) → at ≤ length bytes → new ≡ splice bytes at (at + length bs) bs → length torn ≤ length more → length since ≤ length later
    → at + length bs ≤ length more → at + length bs ≤ length later → length marked ≡ length later → HasMarks bytes torn since → HasMarks new more marked
marks_written bytes new bs torn more since later marked at inside is a b c d e h = record {
  marks = (let l = length_written bytes new bs at inside is in omega (arith, l, h.marks, a, c));
  clocks = (let l = length_written bytes new bs at inside is in omega (arith, l, h.clocks, b, d, e));
}

pub room_there : (bytes : List ℕ) (at n : ℕ) → at ≤ length bytes → at + length (slice_range bytes at (at + n)) ≤ length bytes
room_there bytes at n inside = grind (arith, places)

-- ---- a flush, and a new area
pub told_flushes : (bytes : List ℕ) (firm all : ℕ) (spans none : List Span) (torn calm : List Bool) (since : List ℕ) (clock new_clock : ℕ) → all ≡ length bytes → none ≡ [] → ((i : ℕ) → is_torn calm i ≡ false) → new_clock ≡ tick clock
    → Some (told_by bytes all none calm since new_clock) ≡ Some (flushes (told_by bytes firm spans torn since clock))
told_flushes bytes firm all spans none torn calm since clock new_clock is empty calms ticks = λ j. Some (record {
  bytes = bytes;
  firm = is j;
  soft = λ i. softless i j;
  since = clock_at since;
  clock = ticks j;
})
  where
    softless : (i : ℕ) → is_soft none calm i ≡ false
    softless i = rw empty (calms i)

pub told_begins : (bytes : List ℕ) (all n : ℕ) (none : List Span) (torn : List Bool) (since : List ℕ) → all ≡ length bytes → none ≡ [] → torn ≡ replicate n false → since ≡ replicate n 0 → Some (told_by bytes all none torn since 0) ≡ Some (begins bytes)
told_begins bytes all n none torn since is empty no_marks no_clocks = λ j. Some (record {
  bytes = bytes;
  firm = is j;
  soft = λ i. softless i j;
  since = λ i. clockless i j;
  clock = 0;
})
  where
    softless : (i : ℕ) → is_soft none torn i ≡ false
    softless i = rw (empty, no_marks) (nothing_at false n i)

    clockless : (i : ℕ) → clock_at since i ≡ 0
    clockless i = rw no_clocks (nothing_at 0 n i)

pub no_clock : (n : ℕ) (since : List ℕ) → since ≡ replicate n 0 → (i : ℕ) → clock_at since i ≤ 0
no_clock n since is i = let e : clock_at since i ≡ 0 = rw is (nothing_at 0 n i) in omega (arith, e)

pub first_marks : (bytes : List ℕ) (n : ℕ) (torn : List Bool) (since : List ℕ) → n ≡ length bytes → torn ≡ replicate n false → since ≡ replicate n 0 → HasMarks bytes torn since
first_marks bytes n torn since is a b = record { marks = rw a (grind (arith, places, is)); clocks = rw b (grind (arith, places, is)) }
