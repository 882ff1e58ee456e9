use Rattle.std.proofs.Common.{arith, refl, subst, ◌∙◌, ◌≡◌, ◌≤◌, ◌<◌, ◌==◌, ◌&&◌, ℕ, Bool, true, false, List, Option, Some, None, Result, Ok, Err, OnOk, OnErr, IsTrue, option_map, nat_lt, if◌then◌else◌}
use Rattle.std.proofs.lemmas.Bool.Decides.{nat_tests}
use Rattle.draid_rack.specs.Rack.{Told, Lands, OnTold, IsOfShape, IsOrderly, Shape, adds, damages, drops, flushes, lands, settles}
use Rattle.draid_names.specs.Clocks.{tick, last_clock}
use Rattle.draid_rack.specs.Moments.{Stays, Goes, Between, Keeps, KeptOthers, Elapses, ElapsesTold, ChangesOnly, ChangesOnlyTold, Leaves, LeavesTold, OnBoth, IsCrashOutcome, CrashKeepsOthers, CrashesTold}

pub goes_on : (x y z : Told) → Goes x y → Goes y z → Goes x z
goes_on x y z a b = record {
  later = omega (arith, a.later, b.later);
  same = λ l s bytes reads early low.
      let q = b.same l s bytes reads (omega (arith, early, a.later)) low in
      let p = a.same l s bytes q.reads (rw q.since early) (rw q.since low) in
      record { reads = p.reads; soft = λ h. p.soft (q.soft h); harmed = λ h. p.harmed (q.harmed h); since = p.since ∙ q.since };
}

pub only_self : (named : ℕ → ℕ → Bool) (x : Told) → ChangesOnly named x x
only_self named x = record { later = omega arith; reads = λ l s out. refl; since = λ l s out. refl; soft = λ l s out h. h; harmed = λ l s out h. h }

pub only_on : (named : ℕ → ℕ → Bool) (x y z : Told) → ChangesOnly named x y → ChangesOnly named y z → ChangesOnly named x z
only_on named x y z a b = record {
  later = omega (arith, a.later, b.later);
  reads = λ l s out. b.reads l s out ∙ a.reads l s out;
  since = λ l s out. b.since l s out ∙ a.since l s out;
  soft = λ l s out h. a.soft l s out (b.soft l s out h);
  harmed = λ l s out h. a.harmed l s out (b.harmed l s out h);
}

moment : (x m y : Told) (l s : ℕ) (bytes : List ℕ) → x.since l s ≤ x.clock → y.since l s ≡ x.since l s → y.reads l s ≡ Some bytes → x.clock < last_clock → Between x m y → Keeps x m l s bytes
moment x m y l s bytes early same reads low between =
    let q = between.before.same l s bytes reads (omega (arith, early, same, between.after.later)) (omega (arith, early, same)) in
    let p = between.after.same l s bytes q.reads (omega (arith, early, same, q.since)) (omega (arith, early, same, q.since)) in
    record { reads = q.reads; soft = p.soft; harmed = p.harmed }

pub moments : (named : ℕ → ℕ → Bool) (x y : Told) → IsOrderly x → ChangesOnly named x y → KeptOthers named x y
moments named x y orderly spares low m between l s bytes out reads = moment x m y l s bytes (orderly l s) (spares.since l s out) (spares.reads l s out ∙ reads) low between

pub told_on : (named : ℕ → ℕ → Bool) (o p q : Option Told) → ChangesOnlyTold named o p → ChangesOnlyTold named p q → ChangesOnlyTold named o q
told_on named None None q a b = b
told_on named None (Some y) q a b = absurd (cc)
told_on named (Some x) None q a b = absurd a
told_on named (Some x) (Some y) None a b = absurd b
told_on named (Some x) (Some y) (Some z) a b = only_on named x y z a b

pub told_same : (named : ℕ → ℕ → Bool) (o p : Option Told) → p ≡ o → ChangesOnlyTold named o p
told_same named None p is = is
told_same named (Some x) p is = rw is (only_self named x)

pub kept : (named : ℕ → ℕ → Bool) (o p : Option Told) → OnTold o IsOrderly → ChangesOnlyTold named o p → OnBoth o p (KeptOthers named)
kept named None p orderly spares = tt
kept named (Some x) None orderly spares = absurd spares
kept named (Some x) (Some y) orderly spares = moments named x y orderly spares

pub only_lands : (named : ℕ → ℕ → Bool) (l s : ℕ) (bytes : List ℕ) (harm : Bool) (x : Told) → named l s ≡ true → ChangesOnly named x (lands l s bytes harm x)
only_lands named l s bytes harm x is = record {
  later = grind (arith, nat_tests);
  reads = λ m q out. grind (arith, nat_tests);
  since = λ m q out. grind (arith, nat_tests);
  soft = λ m q out. grind (arith, nat_tests);
  harmed = λ m q out. grind (arith, nat_tests);
}

pub only_flushes : (named : ℕ → ℕ → Bool) (l : ℕ) (x : Told) → ChangesOnly named x (flushes l x)
only_flushes named l x = record {
  later = grind (arith, nat_tests);
  reads = λ m q out. refl;
  since = λ m q out. refl;
  soft = λ m q out. grind (arith, nat_tests);
  harmed = λ m q out h. h;
}

pub told_lands : {E : Type 0} (named : ℕ → ℕ → Bool) (l s : ℕ) (bytes : List ℕ) (harm : Told → Bool) (r : Result Unit E) (o p : Option Told) → named l s ≡ true → Lands l s bytes harm r o p → ChangesOnlyTold named o p
told_lands named l s bytes harm r None p is w = w.told
told_lands named l s bytes harm r (Some x) p is w = rw w.told (only_lands named l s w.stands (harm x) x is)

pub told_flushed : {E : Type 0} (named : ℕ → ℕ → Bool) (l : ℕ) (r : Result Unit E) (o p : Option Told) → OnOk r (p ≡ option_map (flushes l) o) → OnErr r (p ≡ o) → ChangesOnlyTold named o p
told_flushed named l (Ok u) None p ok err = ok
told_flushed named l (Ok u) (Some x) p ok err = rw ok (only_flushes named l x)
told_flushed named l (Err e) o p ok err = told_same named o p err

goes_later : (c : ℕ) → c ≤ tick c
goes_later c = grind (arith, nat_tests)

lands_stays : (l s : ℕ) (bytes : List ℕ) (harm : Bool) (x : Told) (m q : ℕ) (b : Bool) (now : List ℕ) → (m == l && q == s) ≡ b → (lands l s bytes harm x).reads m q ≡ Some now → (lands l s bytes harm x).since m q ≤ x.clock → (lands l s bytes harm x).since m q < last_clock → Stays x (lands l s bytes harm x) m q now
lands_stays l s bytes harm x m q true now is reads early low = absurd (grind (arith, nat_tests))
lands_stays l s bytes harm x m q false now is reads early low = record { reads = grind (arith, nat_tests); soft = rw is (λ h. h); harmed = rw is (λ h. h); since = rw is refl }

-- a write is a change that time may bring
pub goes_lands : (l s : ℕ) (bytes : List ℕ) (harm : Bool) (x : Told) → Goes x (lands l s bytes harm x)
goes_lands l s bytes harm x = record {
  later = goes_later x.clock;
  same = λ m q now reads early low. lands_stays l s bytes harm x m q (m == l && q == s) now refl reads early low;
}

flushes_stays : (l : ℕ) (x : Told) (m q : ℕ) → IsTrue ((flushes l x).soft m q) → IsTrue (x.soft m q)
flushes_stays l x m q h = grind (arith, nat_tests)

pub goes_flushes : (l : ℕ) (x : Told) → Goes x (flushes l x)
goes_flushes l x = record {
  later = goes_later x.clock;
  same = λ m q now reads early low. record { reads = reads; soft = flushes_stays l x m q; harmed = λ h. h; since = refl };
}

settles_stays : (l s : ℕ) (x : Told) (m q : ℕ) → IsTrue ((settles l s x).harmed m q) → IsTrue (x.harmed m q)
settles_stays l s x m q h = grind (arith, nat_tests)

pub goes_settles : (l s : ℕ) (x : Told) → Goes x (settles l s x)
goes_settles l s x = record {
  later = goes_later x.clock;
  same = λ m q now reads early low. record { reads = reads; soft = λ h. h; harmed = settles_stays l s x m q; since = refl };
}

damages_stays : (l s : ℕ) (x : Told) (m q : ℕ) (b : Bool) (now : List ℕ) → (m == l && q == s) ≡ b → (damages l s x).reads m q ≡ Some now → (damages l s x).since m q ≤ x.clock → (damages l s x).since m q < last_clock → Stays x (damages l s x) m q now
damages_stays l s x m q true now is reads early low = absurd (grind (arith, nat_tests))
damages_stays l s x m q false now is reads early low = record { reads = grind (arith, nat_tests); soft = λ h. h; harmed = rw is (λ h. h); since = rw is refl }

pub goes_damages : (l s : ℕ) (x : Told) → Goes x (damages l s x)
goes_damages l s x = record {
  later = goes_later x.clock;
  same = λ m q now reads early low. damages_stays l s x m q (m == l && q == s) now refl reads early low;
}

adds_stays : (bytes l n : ℕ) (x : Told) (m q : ℕ) (b c : Bool) (now : List ℕ) → (m == l) ≡ b → nat_lt q n ≡ c → (adds bytes l n x).reads m q ≡ Some now → (adds bytes l n x).since m q ≤ x.clock → (adds bytes l n x).since m q < last_clock → Stays x (adds bytes l n x) m q now
adds_stays bytes l n x m q true true now is there reads early low = absurd (grind (arith, nat_tests))
adds_stays bytes l n x m q true false now is there reads early low = absurd (grind (arith, nat_tests))
adds_stays bytes l n x m q false c now is there reads early low = record { reads = grind (arith, nat_tests); soft = rw is (λ h. h); harmed = rw is (λ h. h); since = rw is refl }

pub goes_adds : (bytes l n : ℕ) (x : Told) → Goes x (adds bytes l n x)
goes_adds bytes l n x = record {
  later = goes_later x.clock;
  same = λ m q now reads early low. adds_stays bytes l n x m q (m == l) (nat_lt q n) now refl refl reads early low;
}

drops_stays : (l : ℕ) (x : Told) (m q : ℕ) (b : Bool) (now : List ℕ) → (m == l) ≡ b → (drops l x).reads m q ≡ Some now → Stays x (drops l x) m q now
drops_stays l x m q true now is reads = absurd (grind (arith, nat_tests))
drops_stays l x m q false now is reads = record { reads = grind (arith, nat_tests); soft = rw is (λ h. h); harmed = rw is (λ h. h); since = rw is refl }

pub goes_drops : (l : ℕ) (x : Told) → Goes x (drops l x)
goes_drops l x = record {
  later = goes_later x.clock;
  same = λ m q now reads early low. drops_stays l x m q (m == l) now refl reads;
}

pub goes_self : (x : Told) → Goes x x
goes_self x = record { later = omega arith; same = λ l s bytes reads early low. record { reads = reads; soft = λ h. h; harmed = λ h. h; since = refl } }

pub only_more : (few more : ℕ → ℕ → Bool) (x y : Told) → ((l s : ℕ) → more l s ≡ false → few l s ≡ false) → ChangesOnly few x y → ChangesOnly more x y
only_more few more x y fewer a = record {
  later = a.later;
  reads = λ l s out. a.reads l s (fewer l s out);
  since = λ l s out. a.since l s (fewer l s out);
  soft = λ l s out. a.soft l s (fewer l s out);
  harmed = λ l s out. a.harmed l s (fewer l s out);
}

-- a leaf whose sectors are all named isn't the one of a sector that isn't
other_leaf : (named : ℕ → ℕ → Bool) (l m q : ℕ) → ((s : ℕ) → named l s ≡ true) → named m q ≡ false → (m == l) ≡ false
other_leaf named l m q all out = let is = all q in grind (arith, nat_tests)

pub only_settles : (named : ℕ → ℕ → Bool) (l s : ℕ) (x : Told) → ChangesOnly named x (settles l s x)
only_settles named l s x = record {
  later = goes_later x.clock;
  reads = λ m q out. refl;
  since = λ m q out. refl;
  soft = λ m q out h. h;
  harmed = λ m q out. settles_stays l s x m q;
}

pub only_damages : (named : ℕ → ℕ → Bool) (l s : ℕ) (x : Told) → named l s ≡ true → ChangesOnly named x (damages l s x)
only_damages named l s x is = record {
  later = goes_later x.clock;
  reads = λ m q out. grind (arith, nat_tests);
  since = λ m q out. grind (arith, nat_tests);
  soft = λ m q out h. h;
  harmed = λ m q out. grind (arith, nat_tests);
}

pub only_adds : (named : ℕ → ℕ → Bool) (bytes l n : ℕ) (x : Told) → ((s : ℕ) → named l s ≡ true) → ChangesOnly named x (adds bytes l n x)
only_adds named bytes l n x all = record {
  later = goes_later x.clock;
  reads = λ m q out. rw (other_leaf named l m q all out) refl;
  since = λ m q out. rw (other_leaf named l m q all out) refl;
  soft = λ m q out. rw (other_leaf named l m q all out) (λ h. h);
  harmed = λ m q out. rw (other_leaf named l m q all out) (λ h. h);
}

pub only_drops : (named : ℕ → ℕ → Bool) (l : ℕ) (x : Told) → ((s : ℕ) → named l s ≡ true) → ChangesOnly named x (drops l x)
only_drops named l x all = record {
  later = goes_later x.clock;
  reads = λ m q out. rw (other_leaf named l m q all out) refl;
  since = λ m q out. rw (other_leaf named l m q all out) refl;
  soft = λ m q out. rw (other_leaf named l m q all out) (λ h. h);
  harmed = λ m q out. rw (other_leaf named l m q all out) (λ h. h);
}

-- what was told is told after a change that spares the others
told_by_change : (named : ℕ → ℕ → Bool) (f : Told → Told) → ((x : Told) → ChangesOnly named x (f x)) → (o p : Option Told) → p ≡ option_map f o → ChangesOnlyTold named o p
told_by_change named f spares None p is = is
told_by_change named f spares (Some x) p is = rw is (spares x)

told_by_answer : {E : Type 0} (named : ℕ → ℕ → Bool) (f : Told → Told) → ((x : Told) → ChangesOnly named x (f x)) → (r : Result Unit E) (o p : Option Told) → OnOk r (p ≡ option_map f o) → OnErr r (p ≡ o) → ChangesOnlyTold named o p
told_by_answer named f spares (Ok u) o p ok err = told_by_change named f spares o p ok
told_by_answer named f spares (Err e) o p ok err = told_same named o p err

pub told_settled : (named : ℕ → ℕ → Bool) (l s : ℕ) (o p : Option Told) → p ≡ option_map (settles l s) o → ChangesOnlyTold named o p
told_settled named l s o p is = told_by_change named (settles l s) (only_settles named l s) o p is

pub told_damaged : {E : Type 0} (named : ℕ → ℕ → Bool) (l s : ℕ) (r : Result Unit E) (o p : Option Told) → named l s ≡ true → OnOk r (p ≡ option_map (damages l s) o) → OnErr r (p ≡ o) → ChangesOnlyTold named o p
told_damaged named l s r o p is ok err = told_by_answer named (damages l s) (λ x. only_damages named l s x is) r o p ok err

pub told_added : {E : Type 0} (named : ℕ → ℕ → Bool) (bytes l n : ℕ) (r : Result Unit E) (o p : Option Told) → ((s : ℕ) → named l s ≡ true) → OnOk r (p ≡ option_map (adds bytes l n) o) → OnErr r (p ≡ o) → ChangesOnlyTold named o p
told_added named bytes l n r o p all ok err = told_by_answer named (adds bytes l n) (λ x. only_adds named bytes l n x all) r o p ok err

pub told_dropped : (named : ℕ → ℕ → Bool) (l : ℕ) (o p : Option Told) → ((s : ℕ) → named l s ≡ true) → p ≡ option_map (drops l) o → ChangesOnlyTold named o p
told_dropped named l o p all is = told_by_change named (drops l) (λ x. only_drops named l x all) o p is

-- a test is false where what it implies is
stays_false : (a b : Bool) → (IsTrue b → IsTrue a) → a ≡ false → b ≡ false
stays_false a b so is = grind arith

crash_of : (x m left : Told) (l s : ℕ) (bytes : List ℕ) → Keeps x m l s bytes → IsCrashOutcome m left → x.soft l s ≡ false → (left.reads l s ≡ Some bytes) × (IsTrue (left.harmed l s) → IsTrue (x.harmed l s))
crash_of x m left l s bytes keeps out firm = (
  out.firm l s (stays_false (x.soft l s) (m.soft l s) keeps.soft firm) ∙ keeps.reads,
  (λ h. keeps.harmed (subst (λ b. IsTrue b) (out.harmed l s) h)),
)

pub crash_keeps : (named : ℕ → ℕ → Bool) (x y : Told) → KeptOthers named x y → CrashKeepsOthers named x y
crash_keeps named x y keeps low m between left out l s bytes other firm reads = crash_of x m left l s bytes (keeps low m between l s bytes other reads) out firm

pub kept_by_crash : (named : ℕ → ℕ → Bool) (o p : Option Told) → OnBoth o p (KeptOthers named) → OnBoth o p (CrashKeepsOthers named)
kept_by_crash named None p keeps = tt
kept_by_crash named (Some x) None keeps = tt
kept_by_crash named (Some x) (Some y) keeps = crash_keeps named x y keeps

-- ---- what a call says of its moments
pub elapses : (x y : Told) → Goes x y → Elapses x y
elapses x y goes = record {
  goes = goes;
  kept = λ low m between l s bytes reads early.
      let q = between.before.same l s bytes reads (omega (arith, early, between.after.later)) (omega (arith, early, low)) in
      let p = between.after.same l s bytes q.reads (omega (arith, early, q.since)) (omega (arith, early, low, q.since)) in
      record { reads = q.reads; soft = p.soft; harmed = p.harmed };
}

pub elapsed_same : (x : Told) (p : Option Told) → p ≡ Some x → ElapsesTold (Some x) p
elapsed_same x p is = rw is (elapses x x (goes_self x))

pub elapsed_change : (f : Told → Told) → ((x : Told) → Goes x (f x)) → (x : Told) (p : Option Told) → p ≡ Some (f x) → ElapsesTold (Some x) p
elapsed_change f goes x p is = rw is (elapses x (f x) (goes x))

pub elapsed_lands : {E : Type 0} (l s : ℕ) (bytes : List ℕ) (harm : Told → Bool) (r : Result Unit E) (o p : Option Told) → Lands l s bytes harm r o p → ElapsesTold o p
elapsed_lands l s bytes harm r None p w = w.told
elapsed_lands l s bytes harm r (Some x) p w = rw w.told (elapses x (lands l s w.stands (harm x) x) (goes_lands l s w.stands (harm x) x))

-- calls one after another
pub elapsed_on : (o p q : Option Told) → ElapsesTold o p → ElapsesTold p q → ElapsesTold o q
elapsed_on None None q a b = b
elapsed_on None (Some y) q a b = absurd (cc)
elapsed_on (Some x) None q a b = absurd a
elapsed_on (Some x) (Some y) None a b = absurd b
elapsed_on (Some x) (Some y) (Some z) a b = elapses x z (goes_on x y z a.goes b.goes)

-- ---- harm elsewhere
pub leaves_self : (named : ℕ → ℕ → Bool) (x : Told) → Leaves named x x
leaves_self named x = record { only = only_self named x; harm = λ l s out. refl }

pub leaves_on : (named : ℕ → ℕ → Bool) (x y z : Told) → Leaves named x y → Leaves named y z → Leaves named x z
leaves_on named x y z a b = record { only = only_on named x y z a.only b.only; harm = λ l s out. b.harm l s out ∙ a.harm l s out }

pub leaves_more : (few more : ℕ → ℕ → Bool) (x y : Told) → ((l s : ℕ) → more l s ≡ false → few l s ≡ false) → Leaves few x y → Leaves more x y
leaves_more few more x y fewer a = record { only = only_more few more x y fewer a.only; harm = λ l s out. a.harm l s (fewer l s out) }

pub leaves_lands : (named : ℕ → ℕ → Bool) (l s : ℕ) (bytes : List ℕ) (harm : Bool) (x : Told) → named l s ≡ true → Leaves named x (lands l s bytes harm x)
leaves_lands named l s bytes harm x is = record { only = only_lands named l s bytes harm x is; harm = λ m q out. grind (arith, nat_tests) }

pub leaves_flushes : (named : ℕ → ℕ → Bool) (l : ℕ) (x : Told) → Leaves named x (flushes l x)
leaves_flushes named l x = record { only = only_flushes named l x; harm = λ m q out. refl }

pub leaves_settles : (named : ℕ → ℕ → Bool) (l s : ℕ) (x : Told) → named l s ≡ true → Leaves named x (settles l s x)
leaves_settles named l s x is = record { only = only_settles named l s x; harm = λ m q out. grind (arith, nat_tests) }

pub leaves_damages : (named : ℕ → ℕ → Bool) (l s : ℕ) (x : Told) → named l s ≡ true → Leaves named x (damages l s x)
leaves_damages named l s x is = record { only = only_damages named l s x is; harm = λ m q out. grind (arith, nat_tests) }

pub leaves_adds : (named : ℕ → ℕ → Bool) (bytes l n : ℕ) (x : Told) → ((s : ℕ) → named l s ≡ true) → Leaves named x (adds bytes l n x)
leaves_adds named bytes l n x all = record { only = only_adds named bytes l n x all; harm = λ m q out. rw (other_leaf named l m q all out) refl }

pub leaves_drops : (named : ℕ → ℕ → Bool) (l : ℕ) (x : Told) → ((s : ℕ) → named l s ≡ true) → Leaves named x (drops l x)
leaves_drops named l x all = record { only = only_drops named l x all; harm = λ m q out. rw (other_leaf named l m q all out) refl }

pub left_same : (named : ℕ → ℕ → Bool) (o p : Option Told) → p ≡ o → LeavesTold named o p
left_same named None p is = is
left_same named (Some x) p is = rw is (leaves_self named x)

pub left_on : (named : ℕ → ℕ → Bool) (o p q : Option Told) → LeavesTold named o p → LeavesTold named p q → LeavesTold named o q
left_on named None None q a b = b
left_on named None (Some y) q a b = absurd (cc)
left_on named (Some x) None q a b = absurd a
left_on named (Some x) (Some y) None a b = absurd b
left_on named (Some x) (Some y) (Some z) a b = leaves_on named x y z a b

pub left_more : (few more : ℕ → ℕ → Bool) (o p : Option Told) → ((l s : ℕ) → more l s ≡ false → few l s ≡ false) → LeavesTold few o p → LeavesTold more o p
left_more few more None p fewer a = a
left_more few more (Some x) None fewer a = absurd a
left_more few more (Some x) (Some y) fewer a = leaves_more few more x y fewer a

pub left_only : (named : ℕ → ℕ → Bool) (o p : Option Told) → LeavesTold named o p → ChangesOnlyTold named o p
left_only named None p a = a
left_only named (Some x) None a = absurd a
left_only named (Some x) (Some y) a = a.only

pub left_change : (named : ℕ → ℕ → Bool) (f : Told → Told) → ((x : Told) → Leaves named x (f x)) → (o p : Option Told) → p ≡ option_map f o → LeavesTold named o p
left_change named f leaves None p is = is
left_change named f leaves (Some x) p is = rw is (leaves x)

left_answer : {E : Type 0} (named : ℕ → ℕ → Bool) (f : Told → Told) → ((x : Told) → Leaves named x (f x)) → (r : Result Unit E) (o p : Option Told) → OnOk r (p ≡ option_map f o) → OnErr r (p ≡ o) → LeavesTold named o p
left_answer named f leaves (Ok u) o p ok err = left_change named f leaves o p ok
left_answer named f leaves (Err e) o p ok err = left_same named o p err

pub left_lands : {E : Type 0} (named : ℕ → ℕ → Bool) (l s : ℕ) (bytes : List ℕ) (harm : Told → Bool) (r : Result Unit E) (o p : Option Told) → named l s ≡ true → Lands l s bytes harm r o p → LeavesTold named o p
left_lands named l s bytes harm r None p is w = w.told
left_lands named l s bytes harm r (Some x) p is w = rw w.told (leaves_lands named l s w.stands (harm x) x is)

pub left_flushes : {E : Type 0} (named : ℕ → ℕ → Bool) (l : ℕ) (r : Result Unit E) (o p : Option Told) → OnOk r (p ≡ option_map (flushes l) o) → OnErr r (p ≡ o) → LeavesTold named o p
left_flushes named l r o p ok err = left_answer named (flushes l) (leaves_flushes named l) r o p ok err

pub left_settles : (named : ℕ → ℕ → Bool) (l s : ℕ) (o p : Option Told) → named l s ≡ true → p ≡ option_map (settles l s) o → LeavesTold named o p
left_settles named l s o p is told = left_change named (settles l s) (λ x. leaves_settles named l s x is) o p told

pub left_damages : {E : Type 0} (named : ℕ → ℕ → Bool) (l s : ℕ) (r : Result Unit E) (o p : Option Told) → named l s ≡ true → OnOk r (p ≡ option_map (damages l s) o) → OnErr r (p ≡ o) → LeavesTold named o p
left_damages named l s r o p is ok err = left_answer named (damages l s) (λ x. leaves_damages named l s x is) r o p ok err

pub left_adds : {E : Type 0} (named : ℕ → ℕ → Bool) (bytes l n : ℕ) (r : Result Unit E) (o p : Option Told) → ((s : ℕ) → named l s ≡ true) → OnOk r (p ≡ option_map (adds bytes l n) o) → OnErr r (p ≡ o) → LeavesTold named o p
left_adds named bytes l n r o p all ok err = left_answer named (adds bytes l n) (λ x. leaves_adds named bytes l n x all) r o p ok err

pub left_drops : (named : ℕ → ℕ → Bool) (l : ℕ) (o p : Option Told) → ((s : ℕ) → named l s ≡ true) → p ≡ option_map (drops l) o → LeavesTold named o p
left_drops named l o p all is = left_change named (drops l) (λ x. leaves_drops named l x all) o p is

-- ---- what crashes leave
pub crash_unwritten : (named : ℕ → ℕ → Bool) (x y left : Told) → ChangesOnly named x y → IsCrashOutcome y left → (l s : ℕ) → named l s ≡ false → x.soft l s ≡ false → left.reads l s ≡ x.reads l s
crash_unwritten named x y left only out l s other firm = out.firm l s (stays_false (x.soft l s) (y.soft l s) (only.soft l s other) firm) ∙ only.reads l s other

flushed_here : (l m : ℕ) (soft : ℕ → ℕ → Bool) (s : ℕ) → m ≡ l → (if m == l then false else soft m s) ≡ false
flushed_here l m soft s is = grind (arith, nat_tests)

pub crash_flushed : (l s : ℕ) (x left : Told) → IsCrashOutcome (flushes l x) left → left.reads l s ≡ x.reads l s
crash_flushed l s x left out = out.firm l s (flushed_here l l x.soft s refl)

pub crash_outcome : (x y z : Told) → IsCrashOutcome x y → IsCrashOutcome y z → IsCrashOutcome x z
crash_outcome x y z a b = record {
  firm = λ l s firm. b.firm l s (a.soft l s) ∙ a.firm l s firm;
  long = λ l s. b.long l s ∙ a.long l s;
  harmed = λ l s. b.harmed l s ∙ a.harmed l s;
  soft = b.soft;
  since = λ l s. b.since l s ∙ a.since l s;
  clock = b.clock ∙ a.clock;
}

pub crash_told : (x y z : Option Told) → CrashesTold x y → CrashesTold y z → CrashesTold x z
crash_told None None z a b = b
crash_told None (Some y) z a b = absurd (cc)
crash_told (Some x) None z a b = absurd a
crash_told (Some x) (Some y) None a b = absurd b
crash_told (Some x) (Some y) (Some z) a b = crash_outcome x y z a b

pub crash_read : (x y z : Told) → IsCrashOutcome x y → IsCrashOutcome y z → (l s : ℕ) → z.reads l s ≡ y.reads l s
crash_read x y z a b l s = b.firm l s (a.soft l s)

pub crash_orderly : (x y : Told) → IsCrashOutcome x y → IsOrderly x → IsOrderly y
crash_orderly x y out early l s = let e = early l s in let t = out.since l s in omega (arith, e, t, out.clock)

pub crash_shaped : (shape : Shape) (x y : Told) → IsCrashOutcome x y → IsOfShape shape x → IsOfShape shape y
crash_shaped shape x y out shaped l s = out.long l s ∙ shaped l s
