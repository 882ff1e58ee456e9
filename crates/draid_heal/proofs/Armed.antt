-- A restored block's column was put right on one more arm.
use Rattle.std.proofs.Common.{arith, ◌≡◌, ◌+◌, ◌*◌, ◌<◌, ◌≤◌, ◌==◌, ◌-◌, ◌&&◌, ◌||◌, ◌++◌, ◌∷◌, ◌∙◌, [], ℕ, zero, suc, Bool, true, false, List, Option, Some, None, refl, sym, ap, subst, inl, inr, length, slice_get, Vec, Global}
use Rattle.std.specs.Prelude.{nat_le, slice_index_or, vec_len}
use Rattle.std.proofs.lemmas.Option.{slice_get-get_or}
use Rattle.std.proofs.lemmas.Bool.{cases_lt}
use Rattle.std.proofs.lemmas.Bool.Decides.{nat_tests}
use Rattle.std.proofs.lemmas.List.{length-append}
use Rattle.draid_columns.specs.declared.rows.Rows.{Rows}
use Rattle.draid_machine.specs.Names.{has_number}
use Rattle.draid_machine.specs.declared.event.Patched.{Patched}
use Rattle.draid_machine.proofs.Small.{absurd_test, bool_cases, both_true, either_true, is_equal, some_same}
use Rattle.draid_parity.specs.Columns.{column_at}
use Rattle.draid_rack.specs.Moments.{ChangesOnly}
use Rattle.draid_rack.specs.Rack.{OnBothTold, OnTold, Told, flushes}
use Rattle.draid_rack.proofs.Moments.{only_flushes, only_more, only_on, only_self}
use Rattle.draid_shard.specs.Spots.{AreLeavesApart, rows_for}
use Rattle.draid_shard.specs.Loans.{AreRooms, IsRowRoom}
use Rattle.draid_heal.specs.Arms.{FlushedOn, HealsArm, HealsArms, ListsArm, ListsArms, StandsArm, WroteAt, landed_if}
use Rattle.draid_shard.specs.Losing.{failed_if}
use Rattle.draid_heal.specs.Rows.{Differed, FailsOn, HealsRows, ListsRows, in_those}
use Rattle.draid_shard.specs.declared.loan.Spot.{Spot}
use Rattle.draid_heal.proofs.Healing.{either_false, fails_one, last_has}

-- ---- an arm and its flush
own_leaf : (leaf s : ℕ) (y : Told) → (flushes leaf y).soft leaf s ≡ false
own_leaf leaf s y = grind (arith, nat_tests)

module _ (rows : Rows) (column written landed failed : List ℕ) where
  flushed : (x y : Told) → HealsRows rows column rows.count written landed failed x y → HealsArm rows column written landed failed x (flushes rows.leaf y)
  flushed x y was = record {
    only = only_on (in_those rows written) x y (flushes rows.leaf y) was.only (only_flushes (in_those rows written) rows.leaf y);
    harm = was.harm;
    stands = record {
      firm = λ none s. own_leaf rows.leaf s y;
      landed_firm = λ r at. own_leaf rows.leaf (rows.first + r) y;
      landed_reads = was.landed_reads;
      reads = was.reads;
    };
  }

  unflushed : (x y : Told) → HealsRows rows column rows.count written landed failed x y → HealsArm rows column written [] (failed ++ rows.leaf ∷ []) x y
  unflushed x y was = record {
    only = was.only;
    harm = was.harm;
    stands = record {
      firm = λ none s. absurd_test (has_number (failed ++ rows.leaf ∷ []) rows.leaf) (last_has failed rows.leaf) none;
      landed_firm = λ r at. absurd (cc);
      landed_reads = λ r at. absurd (cc);
      reads = λ r less none. absurd_test (has_number (failed ++ rows.leaf ∷ []) rows.leaf) (last_has failed rows.leaf) none;
    };
  }

  pub arm_heals : (done : Bool) (o p q : Option Told) → OnBothTold o p (HealsRows rows column rows.count written landed failed) → FlushedOn rows.leaf done p q
      → OnBothTold o q (HealsArm rows column written (landed_if done landed) (failed_if done rows.leaf failed))
  arm_heals true None None q was is = is
  arm_heals false None None q was is = is
  arm_heals done None (Some y) q was is = absurd (cc)
  arm_heals done (Some x) None q was is = absurd was
  arm_heals true (Some x) (Some y) q was is = subst (λ q. OnBothTold (Some x) q (HealsArm rows column written landed failed)) (sym is) (flushed x y was)
  arm_heals false (Some x) (Some y) q was is = subst (λ q. OnBothTold (Some x) q (HealsArm rows column written [] (failed ++ rows.leaf ∷ []))) (sym is) (unflushed x y was)

pub arm_lists : (rows : Rows) (clean : Bool) (n : ℕ) (written landed failed : List ℕ) (done : Bool) → ListsRows rows clean n written landed failed
    → ListsRows rows clean n written (landed_if done landed) (failed_if done rows.leaf failed)
arm_lists rows clean n written landed failed true was = was
arm_lists rows clean n written landed failed false was = record {
  below = was.below;
  dirty = was.dirty;
  were = λ r at. absurd (cc);
  lands = λ r at none. absurd_test (has_number (failed ++ rows.leaf ∷ []) rows.leaf) (last_has failed rows.leaf) none;
}

pub arm_fails : (leaf : ℕ) (before failed : List ℕ) (done : Bool) → FailsOn leaf before failed → FailsOn leaf before (failed_if done leaf failed)
arm_fails leaf before failed true was = was
arm_fails leaf before failed false was = fails_one leaf before failed was

-- ---- a list with one more
get_before : {A : Type 0} (xs : List A) (x : A) (k : ℕ) → k < length xs → slice_get (xs ++ x ∷ []) k ≡ slice_get xs k
get_before [] x k less = absurd (omega (arith, less))
get_before (y ∷ ys) x zero less = refl
get_before (y ∷ ys) x (suc k) less = get_before ys x k (omega (arith, less))

get_last : {A : Type 0} (xs : List A) (x : A) (k : ℕ) → k ≡ length xs → slice_get (xs ++ x ∷ []) k ≡ Some x
get_last [] x k is = ap (slice_get (x ∷ [])) is
get_last (y ∷ ys) x zero is = absurd (omega (arith, is))
get_last (y ∷ ys) x (suc k) is = get_last ys x k (omega (arith, is))

pub get_upto : {A : Type 0} (xs : List A) (k : ℕ) (x : A) → slice_get xs k ≡ Some x → k < length xs
get_upto [] k x is = absurd (cc)
get_upto (y ∷ ys) zero x is = omega arith
get_upto (y ∷ ys) (suc k) x is = let less = get_upto ys k x is in omega (arith, less)

pub rooms_last : (n : ℕ) (all init : List Patched) (x : Patched) → AreRooms n all → all ≡ init ++ x ∷ [] → IsRowRoom n x
rooms_last n all init x are is = are (length init) x (ap (λ l. slice_get l (length init)) is ∙ get_last init x (length init) refl)

pub rooms_init : (n : ℕ) (all init : List Patched) (x : Patched) → AreRooms n all → all ≡ init ++ x ∷ [] → AreRooms n init
rooms_init n all init x are is k part at = are k part (ap (λ l. slice_get l k) is ∙ get_before init x k (get_upto init k part at) ∙ at)

-- ---- one arm more
fewer_on : (leaf : ℕ) (before failed : List ℕ) → FailsOn leaf before failed → (m : ℕ) → has_number failed m ≡ false → has_number before m ≡ false
fewer_on leaf before failed fails m none = elim (bool_cases (has_number before m)) [
  | inl has ↦ absurd_test (has_number failed m) (fails.kept m has) none
  | inr is ↦ is
]

off : (rows : Rows) (those : List ℕ) (leaf s : ℕ) → (leaf ≡ rows.leaf → ⊥) → in_those rows those leaf s ≡ false
off rows those leaf s other = grind (arith, nat_tests, other)

pub still_firm : (named : ℕ → ℕ → Bool) (y z : Told) → ChangesOnly named y z → (m s : ℕ) → named m s ≡ false → y.soft m s ≡ false → z.soft m s ≡ false
still_firm named y z only m s none firm = elim (bool_cases (z.soft m s)) [
  | inl soft ↦ absurd_test (y.soft m s) (only.soft m s none soft) firm
  | inr is ↦ is
]

stands_on : (rows own : Rows) (column landed failed other_column written own_landed more : List ℕ) (y z : Told) → (rows.leaf ≡ own.leaf → ⊥) → StandsArm rows column landed failed y
    → HealsArm own other_column written own_landed more y z → FailsOn own.leaf failed more → StandsArm rows column landed more z
stands_on rows own column landed failed other_column written own_landed more y z apart was heals fails = record {
  firm = λ none s. still_firm (in_those own written) y z heals.only rows.leaf s (off own written rows.leaf s apart) (was.firm (fewer_on own.leaf failed more fails rows.leaf none) s);
  landed_firm = λ r at. still_firm (in_those own written) y z heals.only rows.leaf (rows.first + r) (off own written rows.leaf (rows.first + r) apart) (was.landed_firm r at);
  landed_reads = λ r at. heals.only.reads rows.leaf (rows.first + r) (off own written rows.leaf (rows.first + r) apart) ∙ was.landed_reads r at;
  reads = λ r less none. heals.only.reads rows.leaf (rows.first + r) (off own written rows.leaf (rows.first + r) apart) ∙ was.reads r less (fewer_on own.leaf failed more fails rows.leaf none);
}

module _ (count size : ℕ) (spots : List Spot) (patched : List Patched) (columns : List (List ℕ)) (i : ℕ) (failed more : List ℕ) (spot : Spot) (part : Patched)
    (apart : AreLeavesApart spots) (there : slice_get spots i ≡ Some spot) (many : length patched ≡ i) (fails : FailsOn spot.leaf failed more) where
  abbrev rows : Rows
  rows = rows_for count size spot

  earlier : (k : ℕ) → k < i → slice_get (patched ++ part ∷ []) k ≡ slice_get patched k
  earlier k less = get_before patched part k (omega (arith, less, many))

  here : (k : ℕ) → k ≡ i → slice_get (patched ++ part ∷ []) k ≡ Some part
  here k is = get_last patched part k (is ∙ sym many)

  module _ (x y z : Told) (was : HealsArms count size spots patched columns i failed x y) (heals : HealsArm rows (column_at columns spot.column) part.written.items part.landed.items more y z) (needs : spot.clean ≡ true → Differed rows (column_at columns spot.column) part.written.items y) where
    abbrev named : ℕ → ℕ → Bool
    named m s = was.named m s || in_those rows part.written.items m s

    lies : (m s : ℕ) → named m s ≡ true → WroteAt count size spots (patched ++ part ∷ []) (i + 1) m s
    lies m s at = elim (either_true (was.named m s) (in_those rows part.written.items m s) at) [
      | inl old ↦ (let w = was.lies m s old in record {
        k = w.k;
        spot = w.spot;
        part = w.part;
        below = (let less = w.below in omega (arith, less));
        there = w.there;
        noted = earlier w.k w.below ∙ w.noted;
        written = w.written;
      })
      | inr own ↦ record { k = i; spot = spot; part = part; below = omega arith; there = there; noted = here i refl; written = own }
    ]

    stands : (k : ℕ) (s : Spot) (p : Patched) → k < i + 1 → slice_get spots k ≡ Some s → slice_get (patched ++ part ∷ []) k ≡ Some p
        → StandsArm (rows_for count size s) (column_at columns s.column) p.landed.items more z
    stands k s p less at noted = elim (cases_lt k i) [
      | inl lower ↦ stands_on (rows_for count size s) rows (column_at columns s.column) p.landed.items failed (column_at columns spot.column) part.written.items part.landed.items more y z
          (λ same. let e = apart k i s spot at there same in absurd (omega (arith, lower, e))) (was.stands k s p lower at (sym (earlier k lower) ∙ noted)) heals fails
      | inr high ↦ (let same : k ≡ i = omega (arith, high, less) in
          let spot_is : spot ≡ s = some_same (slice_get spots k) spot s (ap (slice_get spots) same ∙ there) at in
          let part_is : part ≡ p = some_same (slice_get (patched ++ part ∷ []) k) part p (here k same) noted in
          subst (λ (s : Spot). StandsArm (rows_for count size s) (column_at columns s.column) p.landed.items more z) spot_is
          (subst (λ (p : Patched). StandsArm rows (column_at columns spot.column) p.landed.items more z) part_is heals.stands))
    ]

    -- the arms before it weren't written on its leaf
    unnamed : (s : ℕ) → was.named spot.leaf s ≡ false
    unnamed s = elim (bool_cases (was.named spot.leaf s)) [
      | inl at ↦ (let w = was.lies spot.leaf s at in
          let own = both_true (spot.leaf == w.spot.leaf) (nat_le w.spot.first s && has_number w.part.written.items (s - w.spot.first)) w.written in
          let same = apart w.k i w.spot spot w.there there (sym (is_equal spot.leaf w.spot.leaf own.0)) in
          let less = w.below in
          absurd (omega (arith, less, same)))
      | inr none ↦ none
    ]

    own_needed : spot.clean ≡ true → Differed rows (column_at columns spot.column) part.written.items x
    own_needed clean r at reads = needs clean r at (was.only.reads spot.leaf (spot.first + r) (unnamed (spot.first + r)) ∙ reads)

    needed : (k : ℕ) (s : Spot) (p : Patched) → k < i + 1 → slice_get spots k ≡ Some s → slice_get (patched ++ part ∷ []) k ≡ Some p → s.clean ≡ true
        → Differed (rows_for count size s) (column_at columns s.column) p.written.items x
    needed k s p less at noted = elim (cases_lt k i) [
      | inl lower ↦ was.needed k s p lower at (sym (earlier k lower) ∙ noted)
      | inr high ↦ (let same : k ≡ i = omega (arith, high, less) in
          let spot_is : spot ≡ s = some_same (slice_get spots k) spot s (ap (slice_get spots) same ∙ there) at in
          let part_is : part ≡ p = some_same (slice_get (patched ++ part ∷ []) k) part p (here k same) noted in
          subst (λ (s : Spot). s.clean ≡ true → Differed (rows_for count size s) (column_at columns s.column) p.written.items x) spot_is
          (subst (λ (p : Patched). spot.clean ≡ true → Differed rows (column_at columns spot.column) p.written.items x) part_is own_needed))
    ]

    arms_more : HealsArms count size spots (patched ++ part ∷ []) columns (i + 1) more x z
    arms_more = record {
      named = named;
      lies = lies;
      only = only_on named x y z
          (only_more was.named named x y (λ m s e. (either_false (was.named m s) (in_those rows part.written.items m s) e).0) was.only)
          (only_more (in_those rows part.written.items) named y z (λ m s e. (either_false (was.named m s) (in_those rows part.written.items m s) e).1) heals.only);
      harm = λ m s. heals.harm m s ∙ was.harm m s;
      stands = stands;
      needed = needed;
    }

  pub arms_told : (o p q : Option Told) → OnBothTold o p (HealsArms count size spots patched columns i failed) → OnBothTold p q (HealsArm rows (column_at columns spot.column) part.written.items part.landed.items more)
      → (spot.clean ≡ true → OnTold p (Differed rows (column_at columns spot.column) part.written.items)) → OnBothTold o q (HealsArms count size spots (patched ++ part ∷ []) columns (i + 1) more)
  arms_told None None q was heals needs = heals
  arms_told None (Some y) q was heals needs = absurd (cc)
  arms_told (Some x) None q was heals needs = absurd was
  arms_told (Some x) (Some y) None was heals needs = absurd heals
  arms_told (Some x) (Some y) (Some z) was heals needs = arms_more x y z was heals needs

  kept_lists : (r : Rows) (s : Spot) (p : Patched) → ListsArm r s p failed → ListsArm r s p more
  kept_lists r s p was = record {
    column_is = was.column_is;
    arm_is = was.arm_is;
    lists = record { below = was.lists.below; dirty = was.lists.dirty; were = was.lists.were; lands = λ k at none. was.lists.lands k at (fewer_on spot.leaf failed more fails r.leaf none) };
  }

  pub arms_lists : ListsArms count size spots patched i failed → ListsArm rows spot part more → ListsArms count size spots (patched ++ part ∷ []) (i + 1) more
  arms_lists was own = record {
    many = (let e : length (patched ++ part ∷ []) ≡ length patched + 1 = length-append patched (part ∷ []) in omega (arith, e, many));
    each = λ k s p at noted. elim (cases_lt k i) [
      | inl lower ↦ kept_lists (rows_for count size s) s p (was.each k s p at (sym (earlier k lower) ∙ noted))
      | inr high ↦ (let less = get_upto (patched ++ part ∷ []) k p noted in
          let e : length (patched ++ part ∷ []) ≡ length patched + 1 = length-append patched (part ∷ []) in
          let same : k ≡ i = omega (arith, high, less, e, many) in
          let spot_is : spot ≡ s = some_same (slice_get spots k) spot s (ap (slice_get spots) same ∙ there) at in
          let part_is : part ≡ p = some_same (slice_get (patched ++ part ∷ []) k) part p (here k same) noted in
          subst (λ (s : Spot). ListsArm (rows_for count size s) s p more) spot_is (subst (λ (p : Patched). ListsArm rows spot p more) part_is own))
    ];
    fail = λ leaf at. elim (bool_cases (has_number failed leaf)) [
      | inl old ↦ was.fail leaf old
      | inr none ↦ (i, spot, there, sym (fails.fail leaf at none))
    ];
  }

-- ---- none yet
no_arms : (count size : ℕ) (spots : List Spot) (patched : List Patched) (columns : List (List ℕ)) (failed : List ℕ) (x : Told) → HealsArms count size spots patched columns 0 failed x x
no_arms count size spots patched columns failed x = record {
  named = λ m s. false;
  lies = λ m s at. absurd (cc);
  only = only_self (λ m s. false) x;
  harm = λ m s. refl;
  stands = λ k s p less at noted. absurd (omega (arith, less));
  needed = λ k s p less at noted clean. absurd (omega (arith, less));
}

pub arms_none : (count size : ℕ) (spots : List Spot) (patched : List Patched) (columns : List (List ℕ)) (failed : List ℕ) (o : Option Told) → OnBothTold o o (HealsArms count size spots patched columns 0 failed)
arms_none count size spots patched columns failed None = refl
arms_none count size spots patched columns failed (Some x) = no_arms count size spots patched columns failed x

pub lists_none : (count size : ℕ) (spots : List Spot) → ListsArms count size spots [] 0 []
lists_none count size spots = record {
  many = refl;
  each = λ k s p at noted. absurd (cc);
  fail = λ leaf at. absurd (cc);
}

pub more_calls : (i m a b : ℕ) → a ≤ i * m → b ≤ a + m → b ≤ (i + 1) * m
more_calls i m a b was now = let e : (i + 1) * m ≡ i * m + m = grind arith in omega (arith, was, now, e)

-- the spot that is looked at
pub spot_there : (old now : Vec Spot Global) (i n : ℕ) (spot : Spot) → now ≡ old → n ≡ vec_len old → i < n → spot ≡ slice_index_or now.items i spot → slice_get old.items i ≡ Some spot
spot_there old now i n spot same len less is =
    let e : length now.items ≡ length old.items = ap (λ (v : Vec Spot Global). length v.items) same in
    let inside : i < length now.items = omega (arith, len, less, e) in
    sym (ap (λ (v : Vec Spot Global). slice_get v.items i) same) ∙ slice_get-get_or now.items i spot inside ∙ ap Some (sym is)
