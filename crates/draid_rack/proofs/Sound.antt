-- What a rack in memory keeps of its sectors: their length, and that no clock is later than its own.
use Rattle.std.proofs.Common.{inl, inr, arith, refl, ◌∙◌, ◌≡◌, ◌<◌, ◌≤◌, ◌+◌, ap, sym, subst, ◌==◌, ℕ, Bool, true, false, Option, Some, None, nat_lt, option_map, unwrap_or, if◌then◌else◌}
use Rattle.std.proofs.lemmas.Bool.Decides.{nat_tests}
use Rattle.std.proofs.lemmas.Bool.{cases_lt}
use Rattle.std.proofs.lemmas.List.{length-replicate}
use Rattle.std.specs.BTreeMap.{BTreeMap}
use Rattle.draid_rack.specs.declared.leaf.Leaf.{Leaf}
use Rattle.draid_rack.specs.Leaves.{AreLong, AreUpTo, Changes, IsBlank, faults_by, faults_in, leaf_at, since_of, view_at, view_in, soft_of, harmed_of}
use Rattle.draid_rack.specs.Sectors.{View, IsLong, blank}
use Rattle.draid_names.specs.Clocks.{tick}

some_of : (x y : View) → Some x ≡ Some y → x ≡ y
some_of x y is = ap (λ o. unwrap_or o x) is

long_if : (len : ℕ) (f : View → View) → ((x : View) → IsLong len x → IsLong len (f x)) → (o : Option View) (b : Bool) (x : View) → ((y : View) → o ≡ Some y → IsLong len y) → (if b then option_map f o else o) ≡ Some x → IsLong len x
long_if len f keeps (Some y) true x long is = subst (λ z. IsLong len z) (some_of (f y) x is) (keeps y (long y refl))
long_if len f keeps None true x long is = absurd (cc)
long_if len f keeps o false x long is = long x is

pub long_on : (len : ℕ) (named : ℕ → ℕ → Bool) (f : View → View) (old new : BTreeMap ℕ Leaf) → ((x : View) → IsLong len x → IsLong len (f x)) → AreLong len old → Changes named f old new → AreLong len new
long_on len named f old new keeps long h l s x is = long_if len f keeps (view_at old l s) (named l s) x (long l s) (sym (h.views l s) ∙ is)

since_if : (f : View → View) (clock t : ℕ) → clock ≤ t → ((x : View) → x.since ≤ clock → (f x).since ≤ t) → (o : Option View) (b : Bool) → since_of o ≤ clock → since_of (if b then option_map f o else o) ≤ t
since_if f clock t later keeps (Some x) true early = keeps x early
since_if f clock t later keeps None true early = omega arith
since_if f clock t later keeps o false early = omega (arith, early)

pub up_to_on : (clock t : ℕ) (named : ℕ → ℕ → Bool) (f : View → View) (old new : BTreeMap ℕ Leaf) → clock ≤ t → ((x : View) → x.since ≤ clock → (f x).since ≤ t) → AreUpTo clock old → Changes named f old new → AreUpTo t new
up_to_on clock t named f old new later keeps early h l s = rw (h.views l s) (since_if f clock t later keeps (view_at old l s) (named l s) (early l s))

pub tick_later : (clock t : ℕ) → t ≡ tick clock → clock ≤ t
tick_later clock t is = grind (arith, nat_tests)

pub long_same : (len : ℕ) (old new : BTreeMap ℕ Leaf) → ((m q : ℕ) → view_at new m q ≡ view_at old m q) → AreLong len old → AreLong len new
long_same len old new same long l s x is = long l s x (sym (same l s) ∙ is)

pub up_to_same : (clock t : ℕ) (old new : BTreeMap ℕ Leaf) → clock ≤ t → ((m q : ℕ) → view_at new m q ≡ view_at old m q) → AreUpTo clock old → AreUpTo t new
up_to_same clock t old new later same early l s = rw (same l s) (let e = early l s in omega (arith, e, later))

pub long_kept : (len : ℕ) (old new : BTreeMap ℕ Leaf) → ((m : ℕ) → leaf_at new m ≡ leaf_at old m) → AreLong len old → AreLong len new
long_kept len old new same = long_same len old new (λ m q. ap (λ o. view_in o q) (same m))

pub up_to_kept : (clock : ℕ) (old new : BTreeMap ℕ Leaf) → ((m : ℕ) → leaf_at new m ≡ leaf_at old m) → AreUpTo clock old → AreUpTo clock new
up_to_kept clock old new same = up_to_same clock clock old new (omega arith) (λ m q. ap (λ o. view_in o q) (same m))

-- ---- a leaf that came or went
long_of_blank : (len n k t : ℕ) (leaf : Option Leaf) → IsBlank n len t leaf → (s : ℕ) (x : View) → view_in leaf s ≡ Some x → IsLong len x
long_of_blank len n k t leaf made s x is = at (nat_lt s n) (sym (made.views s) ∙ is)
  where
    at : (b : Bool) → (if b then Some (blank len t) else None) ≡ Some x → IsLong len x
    at true here = subst (λ z. IsLong len z) (some_of (blank len t) x here) (record { bytes = length-replicate len 0; kept = length-replicate len 0 })
    at false here = absurd (cc)

up_to_blank : (len n t : ℕ) (leaf : Option Leaf) → IsBlank n len t leaf → (s : ℕ) → since_of (view_in leaf s) ≤ t
up_to_blank len n t leaf made s = rw (made.views s) (at (nat_lt s n))
  where
    at : (b : Bool) → since_of (if b then Some (blank len t) else None) ≤ t
    at true = omega arith
    at false = omega arith

leaf_if : (P : Option Leaf → Type 0) (b : Bool) (f o : Option Leaf) → P f → P o → P (if b then f else o)
leaf_if P true f o first second = first
leaf_if P false f o first second = second

no_leaf_long : (len s : ℕ) (x : View) → view_in None s ≡ Some x → IsLong len x
no_leaf_long len s x is = absurd (cc)

abbrev IsLongLeaf : ℕ → Option Leaf → Type 0
IsLongLeaf len leaf = (s : ℕ) (x : View) → view_in leaf s ≡ Some x → IsLong len x

abbrev IsEarlyLeaf : ℕ → Option Leaf → Type 0
IsEarlyLeaf t leaf = (s : ℕ) → since_of (view_in leaf s) ≤ t

pub long_added : (len l n t : ℕ) (f : Leaf) (old new : BTreeMap ℕ Leaf) → AreLong len old → IsBlank n len t (Some f) → ((m : ℕ) → leaf_at new m ≡ (if m == l then Some f else leaf_at old m)) → AreLong len new
long_added len l n t f old new long made put_in m =
    let P : Option Leaf → Type 0 = λ o. IsLongLeaf len o in
    subst P (sym (put_in m)) (leaf_if P (m == l) (Some f) (leaf_at old m) (long_of_blank len n n t (Some f) made) (long m))

pub up_to_added : (len l n clock t : ℕ) (f : Leaf) (old new : BTreeMap ℕ Leaf) → clock ≤ t → AreUpTo clock old → IsBlank n len t (Some f) → ((m : ℕ) → leaf_at new m ≡ (if m == l then Some f else leaf_at old m)) → AreUpTo t new
up_to_added len l n clock t f old new later early made put_in m =
    let P : Option Leaf → Type 0 = λ o. IsEarlyLeaf t o in
    subst P (sym (put_in m)) (leaf_if P (m == l) (Some f) (leaf_at old m) (up_to_blank len n t (Some f) made) (λ s. (let e = early m s in omega (arith, e, later))))

pub long_dropped : (len l : ℕ) (old new : BTreeMap ℕ Leaf) → AreLong len old → ((m : ℕ) → leaf_at new m ≡ (if m == l then None else leaf_at old m)) → AreLong len new
long_dropped len l old new long left m =
    let P : Option Leaf → Type 0 = λ o. IsLongLeaf len o in
    subst P (sym (left m)) (leaf_if P (m == l) None (leaf_at old m) (no_leaf_long len) (long m))

pub up_to_dropped : (l clock t : ℕ) (old new : BTreeMap ℕ Leaf) → clock ≤ t → AreUpTo clock old → ((m : ℕ) → leaf_at new m ≡ (if m == l then None else leaf_at old m)) → AreUpTo t new
up_to_dropped l clock t old new later early left m =
    let P : Option Leaf → Type 0 = λ o. IsEarlyLeaf t o in
    subst P (sym (left m)) (leaf_if P (m == l) None (leaf_at old m) (λ s. omega arith) (λ s. (let e = early m s in omega (arith, e, later))))

-- ---- the leaves of a new rack
blank_if : (b : Bool) (n k : ℕ) (f o : Option Leaf) → IsBlank n k 0 f → (b ≡ false → IsBlank n k 0 o) → IsBlank n k 0 (if b then f else o)
blank_if true n k f o first second = first
blank_if false n k f o first second = second refl

pub blank_more : (rows new : BTreeMap ℕ Leaf) (leaf n k : ℕ) (f : Leaf) → ((m : ℕ) → m < leaf → IsBlank n k 0 (leaf_at rows m)) → IsBlank n k 0 (Some f) → ((m : ℕ) → leaf_at new m ≡ (if m == leaf then Some f else leaf_at rows m)) → (m : ℕ) → m < leaf + 1 → IsBlank n k 0 (leaf_at new m)
blank_more rows new leaf n k f there first put_in m low = rw (put_in m) (blank_if (m == leaf) n k (Some f) (leaf_at rows m) first (λ apart. there m (grind (arith, nat_tests))))

pub none_more : (rows new : BTreeMap ℕ Leaf) (leaf : ℕ) (f : Leaf) → ((m : ℕ) → leaf ≤ m → leaf_at rows m ≡ None) → ((m : ℕ) → leaf_at new m ≡ (if m == leaf then Some f else leaf_at rows m)) → (m : ℕ) → leaf + 1 ≤ m → leaf_at new m ≡ None
none_more rows new leaf f none put_in m high =
    let e : (m == leaf) ≡ false = grind (arith, nat_tests) in
    put_in m ∙ rw e (none m (omega arith))

module _ (rows : BTreeMap ℕ Leaf) (leaves n k : ℕ) (there : (m : ℕ) → m < leaves → IsBlank n k 0 (leaf_at rows m)) (none : (m : ℕ) → leaves ≤ m → leaf_at rows m ≡ None) where
  of_leaf : (P : Option Leaf → Type 0) → P None → ((leaf : Option Leaf) → IsBlank n k 0 leaf → P leaf) → (l : ℕ) → P (leaf_at rows l)
  of_leaf P nothing made l = elim (cases_lt l leaves) [
    | inl low ↦ made (leaf_at rows l) (there l low)
    | inr high ↦ subst P (sym (none l high)) nothing
  ]

  pub blanks_long : AreLong k rows
  blanks_long l = of_leaf (IsLongLeaf k) (no_leaf_long k) (λ leaf made. long_of_blank k n n 0 leaf made) l

  pub blanks_up_to : AreUpTo 0 rows
  blanks_up_to l = of_leaf (IsEarlyLeaf 0) (λ s. omega arith) (λ leaf made. up_to_blank k n 0 leaf made) l

  pub blanks_firm : (l s : ℕ) → soft_of (view_at rows l s) ≡ false
  blanks_firm l = of_leaf (λ leaf. (s : ℕ) → soft_of (view_in leaf s) ≡ false) (λ s. refl) (λ leaf made s. ap soft_of (made.views s) ∙ soft_if (nat_lt s n)) l
    where
      soft_if : (b : Bool) → soft_of (if b then Some (blank k 0) else None) ≡ false
      soft_if true = refl
      soft_if false = refl

  pub blanks_unharmed : (l s : ℕ) → harmed_of (view_at rows l s) ≡ false
  blanks_unharmed l = of_leaf (λ leaf. (s : ℕ) → harmed_of (view_in leaf s) ≡ false) (λ s. refl) (λ leaf made s. ap harmed_of (made.views s) ∙ harmed_if (nat_lt s n)) l
    where
      harmed_if : (b : Bool) → harmed_of (if b then Some (blank k 0) else None) ≡ false
      harmed_if true = refl
      harmed_if false = refl

  pub blanks_count : (who : Option ℕ) → faults_by rows 0 who ≡ 0
  blanks_count None = refl
  blanks_count (Some l) = of_leaf (λ leaf. faults_in leaf ≡ 0) refl (λ leaf made. made.faults) l
