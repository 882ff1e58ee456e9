use Rattle.std.proofs.Common.{arith, refl, ◌≡◌, ◌≤◌, ◌<◌, ◌+◌, ◌∙◌, sym, ap, ℕ, Bool, true, false, List, Option, Some, None, Result, Ok, Err, OnOk, OnErr, IsTrue, option_map, length, nat_lt, slice_index_or}
use Rattle.std.proofs.lemmas.Bool.Decides.{nat_tests}
use Rattle.std.proofs.lemmas.List.{ext_get_or}
use Rattle.std.specs.List.{splice}
use Rattle.draid_area.specs.Area.{Content, Writes, OnTold, IsOrderly, MayLeave, within, writes, flushes}
use Rattle.draid_names.specs.Clocks.{tick, last_clock}
use Rattle.draid_area.specs.Moments.{Stays, Goes, Between, CrashKeeps, CrashesTold, IsCrashOutcome, LeavesWritten, Elapses, ElapsesTold, ChangesOnly, ChangesOnlyTold, OnBoth}
use Rattle.draid_area.proofs.Splices.{length-splice, splice_outside}

pub goes_self : (x : Content) → Goes x x
goes_self x = record { later = omega arith; firm = omega arith; grown = omega arith; same = λ i early low. record { byte = λ d. refl; soft = λ h. h; since = refl } }

pub goes_on : (x y z : Content) → Goes x y → Goes y z → Goes x z
goes_on x y z a b = record {
  later = omega (arith, a.later, b.later);
  firm = omega (arith, a.firm, b.firm);
  grown = omega (arith, a.grown, b.grown);
  same = λ i early low.
      let q = b.same i (omega (arith, a.later)) low in
      let p = a.same i (rw q.since early) (rw q.since low) in
      record { byte = λ d. p.byte d ∙ q.byte d; soft = λ h. p.soft (q.soft h); since = p.since ∙ q.since };
}

-- what a written offset's clock says
late : (c : ℕ) → tick c ≤ c → tick c < last_clock → ⊥
late c early low = grind (arith, nat_tests)

writes_stays : (at : ℕ) (bytes : List ℕ) (x : Content) (i : ℕ) (b : Bool) → at ≤ length x.bytes → within at (length bytes) i ≡ b → (writes at bytes x).since i ≤ x.clock → (writes at bytes x).since i < last_clock → Stays x (writes at bytes x) i
writes_stays at bytes x i true inside is early low = absurd (grind (arith, nat_tests))
writes_stays at bytes x i false inside is early low = record {
  byte = λ d. sym (splice_outside x.bytes bytes at (length bytes) i d inside refl is);
  soft = rw is (λ h. h);
  since = rw is refl;
}

pub goes_writes : (at : ℕ) (bytes : List ℕ) (x : Content) → at ≤ length x.bytes → Goes x (writes at bytes x)
goes_writes at bytes x inside = record {
  later = grind (arith, nat_tests);
  firm = omega arith;
  grown = length-splice x.bytes bytes at (length bytes) refl;
  same = λ i early low. writes_stays at bytes x i (within at (length bytes) i) inside refl early low;
}

pub goes_flushes : (x : Content) → x.firm ≤ length x.bytes → Goes x (flushes x)
goes_flushes x kept = record {
  later = grind (arith, nat_tests);
  firm = kept;
  grown = omega arith;
  same = λ i early low. record { byte = λ d. refl; soft = λ h. absurd (cc); since = refl };
}

-- where nothing is soft and all bytes were flushed, a crash leaves just what is read
pub leaves_all : (x : Content) (left : List ℕ) → ((i : ℕ) → x.soft i ≡ false) → x.firm ≡ length x.bytes → MayLeave x left → left ≡ x.bytes
leaves_all x left firm all may = ext_get_or 0 left x.bytes (omega (arith, all, may.least, may.most)) (λ k h. may.same k 0 (firm k))

-- a test is false where what it implies is
stays_false : (a b : Bool) → (IsTrue b → IsTrue a) → a ≡ false → b ≡ false
stays_false a b so is = grind arith

pub only_self : (named : ℕ → Bool) (x : Content) → ChangesOnly named x x
only_self named x = record { later = omega arith; bytes = λ i d out. refl; since = λ i out. refl; soft = λ i out h. h }

pub only_on : (named : ℕ → Bool) (x y z : Content) → ChangesOnly named x y → ChangesOnly named y z → ChangesOnly named x z
only_on named x y z a b = record {
  later = omega (arith, a.later, b.later);
  bytes = λ i d out. b.bytes i d out ∙ a.bytes i d out;
  since = λ i out. b.since i out ∙ a.since i out;
  soft = λ i out h. a.soft i out (b.soft i out h);
}

-- with more offsets named
pub only_more : (few more : ℕ → Bool) (x y : Content) → ((i : ℕ) → more i ≡ false → few i ≡ false) → ChangesOnly few x y → ChangesOnly more x y
only_more few more x y fewer a = record {
  later = a.later;
  bytes = λ i d out. a.bytes i d (fewer i out);
  since = λ i out. a.since i (fewer i out);
  soft = λ i out. a.soft i (fewer i out);
}

pub only_writes : (named : ℕ → Bool) (at : ℕ) (bytes : List ℕ) (x : Content) → at ≤ length x.bytes → ((i : ℕ) → named i ≡ false → within at (length bytes) i ≡ false) → ChangesOnly named x (writes at bytes x)
only_writes named at bytes x inside apart = record {
  later = grind (arith, nat_tests);
  bytes = λ i d out. splice_outside x.bytes bytes at (length bytes) i d inside refl (apart i out);
  since = λ i out. rw (apart i out) refl;
  soft = λ i out. rw (apart i out) (λ h. h);
}

pub only_flushes : (named : ℕ → Bool) (x : Content) → ChangesOnly named x (flushes x)
only_flushes named x = record { later = grind (arith, nat_tests); bytes = λ i d out. refl; since = λ i out. refl; soft = λ i out h. absurd (cc) }

pub told_on : (named : ℕ → Bool) (o p q : Option Content) → ChangesOnlyTold named o p → ChangesOnlyTold named p q → ChangesOnlyTold named o q
told_on named None None q a b = b
told_on named None (Some y) q a b = absurd (cc)
told_on named (Some x) None q a b = absurd a
told_on named (Some x) (Some y) None a b = absurd b
told_on named (Some x) (Some y) (Some z) a b = only_on named x y z a b

pub told_same : (named : ℕ → Bool) (o p : Option Content) → p ≡ o → ChangesOnlyTold named o p
told_same named None p is = is
told_same named (Some x) p is = rw is (only_self named x)

whole_of : {E : Type 0} {P : Type 0} {u : Unit} (r : Result Unit E) → r ≡ Ok u → OnOk r P → P
whole_of (Ok v) is whole = whole
whole_of (Err e) is whole = absurd (cc)

shorter : (at n m i : ℕ) → n ≤ m → within at m i ≡ false → within at n i ≡ false
shorter at n m i le out = grind (arith, nat_tests)

pub told_writes : {E : Type 0} (named : ℕ → Bool) (at : ℕ) (bytes : List ℕ) (r : Result Unit E) (o p : Option Content) → ((i : ℕ) → named i ≡ false → within at (length bytes) i ≡ false) → Writes at bytes r o p → ChangesOnlyTold named o p
told_writes named at bytes r None p apart w = w.told
told_writes named at bytes r (Some x) p apart w = rw w.told (only_writes named at w.stands x w.inside (λ i out. shorter at (length w.stands) (length bytes) i w.no_more (apart i out)))

pub told_flushed : {E : Type 0} (named : ℕ → Bool) (r : Result Unit E) (o p : Option Content) → OnOk r (p ≡ option_map flushes o) → OnErr r (p ≡ o) → ChangesOnlyTold named o p
told_flushed named (Ok u) None p ok err = ok
told_flushed named (Ok u) (Some x) p ok err = rw ok (only_flushes named x)
told_flushed named (Err e) o p ok err = told_same named o p err

moment : (named : ℕ → Bool) (x m y : Content) (left : List ℕ) (i d : ℕ) → x.since i ≤ x.clock → y.since i ≡ x.since i → x.clock < last_clock → Between x m y → MayLeave m left → x.soft i ≡ false → slice_index_or left i d ≡ slice_index_or x.bytes i d
moment named x m y left i d early same low between may firm =
    let q = between.before.same i (omega (arith, early, same, between.after.later)) (omega (arith, early, same)) in
    let p = between.after.same i (omega (arith, early, same, q.since)) (omega (arith, early, same, q.since)) in
    may.same i d (stays_false (x.soft i) (m.soft i) p.soft firm) ∙ sym (p.byte d)

pub moments : (named : ℕ → Bool) (x y : Content) → IsOrderly x → ChangesOnly named x y → CrashKeeps named x y
moments named x y orderly spares low m between left may = record {
  same = λ i d out firm. moment named x m y left i d (orderly i) (spares.since i out) low between may firm;
  least = omega (arith, between.after.firm, may.least);
  most = omega (arith, may.most, between.before.grown);
}

pub kept : (named : ℕ → Bool) (o p : Option Content) → OnTold o IsOrderly → ChangesOnlyTold named o p → OnBoth o p (CrashKeeps named)
kept named None p orderly spares = tt
kept named (Some x) None orderly spares = absurd spares
kept named (Some x) (Some y) orderly spares = moments named x y orderly spares

-- what a crash leaves once a write was flushed
pub leaves_written : {E F : Type 0} (at : ℕ) (bytes : List ℕ) (u : Unit) (r : Result Unit E) (s : Result Unit F) (o p q : Option Content) → Writes at bytes r o p → r ≡ Ok u → OnOk s (q ≡ option_map flushes p) → OnOk s (OnBoth o q (LeavesWritten at bytes))
leaves_written at bytes u r (Err e) o p q w is flushed = tt
leaves_written at bytes u r (Ok v) None p q w is flushed = tt
leaves_written at bytes u r (Ok v) (Some x) p q w is flushed = rw (flushed, w.told) (λ left may. leaves_all _ left (λ i. refl) refl may ∙ ap (λ b. splice x.bytes at (at + length b) b) (whole_of r is w.whole))

-- ---- what a call says of its moments
not_since : (a b : ℕ) → nat_lt a b ≡ false → b ≤ a
not_since a b out = grind (arith, nat_tests)

at_moment : (x m y : Content) (left : List ℕ) (i d : ℕ) → y.since i ≤ x.clock → x.clock < last_clock → Between x m y → MayLeave m left → x.soft i ≡ false → slice_index_or left i d ≡ slice_index_or x.bytes i d
at_moment x m y left i d early low between may firm =
    let q = between.before.same i (omega (arith, early, between.after.later)) (omega (arith, early, low)) in
    let p = between.after.same i (omega (arith, early, q.since)) (omega (arith, early, low, q.since)) in
    may.same i d (stays_false (x.soft i) (m.soft i) p.soft firm) ∙ sym (p.byte d)

pub elapses : (x y : Content) → Goes x y → Elapses x y
elapses x y goes = record {
  goes = goes;
  kept = λ low m between left may. record {
    same = λ i d out firm. at_moment x m y left i d (not_since x.clock (y.since i) out) low between may firm;
    least = omega (arith, between.after.firm, may.least);
    most = omega (arith, may.most, between.before.grown);
  };
}

pub elapsed_same : (o p : Option Content) → p ≡ o → ElapsesTold o p
elapsed_same None p is = is
elapsed_same (Some x) p is = rw is (elapses x x (goes_self x))

pub elapsed_writes : {E : Type 0} (at : ℕ) (bytes : List ℕ) (r : Result Unit E) (o p : Option Content) → Writes at bytes r o p → ElapsesTold o p
elapsed_writes at bytes r None p w = w.told
elapsed_writes at bytes r (Some x) p w = rw w.told (elapses x (writes at w.stands x) (goes_writes at w.stands x w.inside))

pub elapsed_flush : (o p : Option Content) → OnTold o (λ x. x.firm ≤ length x.bytes) → p ≡ option_map flushes o → ElapsesTold o p
elapsed_flush None p kept is = is
elapsed_flush (Some x) p kept is = rw is (elapses x (flushes x) (goes_flushes x kept))

-- calls one after another
pub elapsed_on : (o p q : Option Content) → ElapsesTold o p → ElapsesTold p q → ElapsesTold o q
elapsed_on None None q a b = b
elapsed_on None (Some y) q a b = absurd (cc)
elapsed_on (Some x) None q a b = absurd a
elapsed_on (Some x) (Some y) None a b = absurd b
elapsed_on (Some x) (Some y) (Some z) a b = elapses x z (goes_on x y z a.goes b.goes)

-- ---- what crashes leave
pub unwritten : (named : ℕ → Bool) (x y : Content) (left : List ℕ) (i d : ℕ) → ChangesOnly named x y → MayLeave y left → named i ≡ false → x.soft i ≡ false → slice_index_or left i d ≡ slice_index_or x.bytes i d
unwritten named x y left i d only may out firm = may.same i d (stays_false (x.soft i) (y.soft i) (only.soft i out) firm) ∙ only.bytes i d out

pub crash_left : (x y : Content) (left : List ℕ) → IsCrashOutcome x y → MayLeave y left → MayLeave x left
crash_left x y left out may = record {
  same = λ i d firm. may.same i d (out.soft i) ∙ out.left.same i d firm;
  least = (let a = out.left.least in omega (arith, a, out.firm, may.least));
  most = (let a = out.left.most in omega (arith, a, may.most));
}

pub crash_read : (x y : Content) (left : List ℕ) → IsCrashOutcome x y → MayLeave y left → left ≡ y.bytes
crash_read x y left out may = leaves_all y left out.soft out.firm may

pub crash_outcome : (x y z : Content) → IsCrashOutcome x y → IsCrashOutcome y z → IsCrashOutcome x z
crash_outcome x y z a b = record {
  left = crash_left x y z.bytes a b.left;
  firm = b.firm;
  soft = b.soft;
  since = λ i. b.since i ∙ a.since i;
  clock = b.clock ∙ a.clock;
}

pub crash_told : (x y z : Option Content) → CrashesTold x y → CrashesTold y z → CrashesTold x z
crash_told None None z a b = b
crash_told None (Some y) z a b = absurd (cc)
crash_told (Some x) None z a b = absurd a
crash_told (Some x) (Some y) None a b = absurd b
crash_told (Some x) (Some y) (Some z) a b = crash_outcome x y z a b

pub crash_orderly : (x y : Content) → IsCrashOutcome x y → IsOrderly x → IsOrderly y
crash_orderly x y out early i = let e = early i in let s = out.since i in omega (arith, e, s, out.clock)

pub told_more : (few more : ℕ → Bool) (o p : Option Content) → ((i : ℕ) → more i ≡ false → few i ≡ false) → ChangesOnlyTold few o p → ChangesOnlyTold more o p
told_more few more None p fewer a = a
told_more few more (Some x) None fewer a = absurd a
told_more few more (Some x) (Some y) fewer a = only_more few more x y fewer a
