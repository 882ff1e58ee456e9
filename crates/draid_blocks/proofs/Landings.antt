-- A column is tried on one arm more.
use Rattle.std.proofs.Common.{◌≡◌, ◌==◌, ◌+◌, ◌<◌, ◌≤◌, ◌^◌, ◌||◌, ◌&&◌, not, ◌∙◌, ◌++◌, ℕ, suc, Bool, true, false, nat_lt, List, [], ◌∷◌, Option, Some, None, arith, refl, sym, ap, ap₂, subst, inl, inr, length, if◌then◌else◌}
use Rattle.std.specs.Prelude.{option_map}
use Rattle.std.proofs.lemmas.Bool.{cases_lt}
use Rattle.std.proofs.lemmas.Bool.Decides.{nat_tests}
use Rattle.draid_names.specs.Faults.{Rose}
use Rattle.draid_names.specs.declared.arm.Arm.{Arm}
use Rattle.draid_names.specs.declared.arm.ArmAt.{ArmAt}
use Rattle.draid_names.specs.declared.arm.ArmKind.TheVariants.{Spare}
use Rattle.draid_rack.specs.Moments.{Leaves}
use Rattle.draid_rack.specs.Rack.{Told, OnBothTold}
use Rattle.draid_rack.proofs.Moments.{leaves_more, leaves_on, leaves_self}
use Rattle.draid_columns.specs.Columns.{RowsStand, WritesRows, in_rows}
use Rattle.draid_machine.specs.declared.names.ArmName.{ArmName}
use Rattle.draid_machine.specs.Arms.{passes}
use Rattle.draid_machine.specs.Names.{has_name, has_number, name_eq}
use Rattle.draid_machine.proofs.Small.{absurd_test, bool_cases, either_true, has_append, is_equal, name_refl, name_true, some_same, true_right}
use Rattle.draid_slots.specs.Changes.{IsSame}
use Rattle.draid_slots.specs.Reading.{holder, is_online}
use Rattle.draid_slots.specs.Table.{SlotTable, arm_at, is_at, is_logged, room_at}
use Rattle.draid_shard.specs.Calls.{CountsFailed}
use Rattle.draid_shard.specs.Rows.{AreApart, LogsBirth, MissesAt, answers_on, arm_no, leaf_on, name_on, rows_on}
use Rattle.draid_blocks.specs.Landings.{CountsOn, IsNamed, KeepsOn, Lands, LandsOn, Wrote, is_done, noted, written_below}
use Rattle.draid_slots.specs.States.{name_of}
use Rattle.draid_blocks.specs.declared.outcome.Outcome.{Outcome}
use Rattle.draid_blocks.specs.declared.outcome.Outcome.TheVariants.{Done, Failed, Silent}
use Rattle.draid_shard.specs.declared.places.ColumnRows.{ColumnRows}
use Rattle.draid_blocks.specs.declared.putting.Landing.{Landing}
use Rattle.draid_shard.proofs.Holders.{holder_same}
use Rattle.draid_shard.proofs.Counts.{counts_kept, counts_more, counts_none, longer, number_more}
use Rattle.draid_shard.proofs.Staging.{logs_same}

-- ---- lists

name_more : (xs : List ArmName) (x n : ArmName) → has_name (xs ++ x ∷ []) n ≡ (has_name xs n || name_eq x n)
name_more xs x n = has_append xs (x ∷ []) n ∙ ap (λ b. has_name xs n || b) (by (name_eq x n))
  where
    by : (b : Bool) → (b || false) ≡ b
    by true = refl
    by false = refl

or_false : (a b : Bool) → b ≡ false → (a || b) ≡ a
or_false true b e = refl
or_false false b e = e

pub later_still : (m n : ℕ) → m ≤ n → m ≤ n + 1
later_still m n e = omega (arith, e)

-- ---- logs

room_on : (a b c : Bool) (x y z : ℕ) → (a ≡ true → b ≡ true) → (b ≡ true → c ≡ true) → x ≤ y + (if b && not a then 1 else 0) → y ≤ z + (if c && not b then 1 else 0) → x ≤ z + (if c && not a then 1 else 0)
room_on true true true x y z ab bc e f = omega (arith, e, f)
room_on true true false x y z ab bc e f = absurd_test false (bc refl) refl
room_on true false c x y z ab bc e f = absurd_test false (ab refl) refl
room_on false true true x y z ab bc e f = omega (arith, e, f)
room_on false true false x y z ab bc e f = absurd_test false (bc refl) refl
room_on false false true x y z ab bc e f = omega (arith, e, f)
room_on false false false x y z ab bc e f = omega (arith, e, f)

pub same_on : (a b c : SlotTable) → IsSame a b → IsSame b c → IsSame a c
same_on a b c e f = record { geometry_is = f.geometry_is ∙ e.geometry_is; perms_are = f.perms_are ∙ e.perms_are; metaslab_is = f.metaslab_is ∙ e.metaslab_is }

pub logs_on : (birth : ℕ) (a b c : SlotTable) → LogsBirth birth a b → LogsBirth birth b c → LogsBirth birth a c
logs_on birth a b c e f = record {
  same = same_on a b c e.same f.same;
  arms = f.arms ∙ e.arms;
  detached = f.detached ∙ e.detached;
  others = λ at group out. f.others at group out ∙ e.others at group out;
  kept = λ at has. f.kept at (e.kept at has);
  room = λ at. room_on (is_logged a at birth) (is_logged b at birth) (is_logged c at birth) (room_at a at) (room_at b at) (room_at c at) (e.kept at) (f.kept at) (e.room at) (f.room at);
}

-- ---- one arm

-- what a call counts, by what became of it
pub counts_done : (old new : Option ℕ → ℕ) → ((who : Option ℕ) → old who ≤ new who) → CountsOn Done old new
counts_done old new later = record { later = later; cause = λ leaf is. absurd (cc) }

pub counts_silent : (old : Option ℕ → ℕ) → CountsOn Silent old old
counts_silent old = record { later = λ who. omega arith; cause = λ leaf is. absurd (cc) }

pub counts_failed : (leaf : ℕ) (old new : Option ℕ → ℕ) → ((who : Option ℕ) → old who ≤ new who) → Rose (old (Some leaf)) (new (Some leaf)) → CountsOn (Failed leaf) old new
counts_failed leaf old new later rose = record { later = later; cause = λ m is. subst (λ l. Rose (old (Some l)) (new (Some l))) (same m is) rose }
  where
    same : (m : ℕ) → Failed leaf ≡ Failed m → leaf ≡ m
    same m is = cc

pub not_done : (o : Outcome) → (o ≡ Done → ⊥) → not (is_done o) ≡ true
not_done Silent other = refl
not_done (Failed leaf) other = refl
not_done Done other = absurd (other refl)

-- a log in which nothing was noted
pub misses_none : (slots : SlotTable) (at : ArmAt) (birth : ℕ) → MissesAt slots slots at birth false
misses_none slots at birth = record { logs = logs_same birth slots; logged = λ other group. none (is_logged slots other group) }
  where
    none : (b : Bool) → b ≡ (b || false)
    none true = refl
    none false = refl

-- ---- what is told

module _ (rows : ColumnRows) (column : List ℕ) where
  out : (m leaf s : ℕ) → (m ≡ leaf → ⊥) → in_rows (rows_on rows leaf) m s ≡ false
  out m leaf s other = grind (arith, nat_tests, other)

  kept_stand : (leaf m : ℕ) (y z : Told) → Leaves (in_rows (rows_on rows leaf)) y z → (m ≡ leaf → ⊥) → RowsStand (rows_on rows m) y.reads column rows.count → RowsStand (rows_on rows m) z.reads column rows.count
  kept_stand leaf m y z l other stand row less = l.only.reads m (rows.first + row) (out m leaf (rows.first + row) other) ∙ stand row less

  kept_whole : (leaf m row : ℕ) (y z : Told) → Leaves (in_rows (rows_on rows leaf)) y z → (m ≡ leaf → ⊥) → y.harmed m (rows.first + row) ≡ false → z.harmed m (rows.first + row) ≡ false
  kept_whole leaf m row y z l other whole = l.harm m (rows.first + row) (out m leaf (rows.first + row) other) ∙ whole

or_left : (a b : Bool) → (a || b) ≡ false → a ≡ false
or_left true b e = e
or_left false b e = refl

or_right : (a b : Bool) → (a || b) ≡ false → b ≡ false
or_right true b e = absurd_test true refl e
or_right false b e = e

-- ---- one arm more

module _ (slots mid new : SlotTable) (rows : ColumnRows) (n : ℕ) (column : List ℕ) (landing : Landing) (o p q : Option Told) (f g h : Option ℕ → ℕ) (a : Arm) (name : ArmName) (outcome : Outcome)
    (was : Lands slots mid rows n column landing o p f g) (there : arm_at slots (arm_no rows n) ≡ Some a) (named : (a.kind ≡ Spare → a.number < 2 ^ 32) → name ≡ name_of a)
    (lands : LandsOn slots rows n column outcome p q) (counts : CountsOn outcome g h) (misses : MissesAt mid new (arm_no rows n) rows.birth (not (is_done outcome))) where
  -- the arm's name
  own : name_on slots rows n ≡ Some (name_of a)
  own = ap (option_map name_of) there

  name_is : AreApart slots rows → name ≡ name_of a
  name_is apart = named (apart.spares n a there)

  -- that of an arm before it is another
  name_before : AreApart slots rows → (k : ℕ) (m : ArmName) → k < n → name_on slots rows k ≡ Some m → name_eq name m ≡ false
  name_before apart k m less is = elim (bool_cases (name_eq name m)) [
    | inl same ↦ absurd (let e = apart.names k n m is (own ∙ ap Some (sym (name_is apart) ∙ name_true name m same)) in omega (arith, e, less))
    | inr other ↦ other
  ]

  leaf_before : AreApart slots rows → (k l m : ℕ) → k < n → leaf_on slots rows k ≡ Some l → leaf_on slots rows n ≡ Some m → l ≡ m → ⊥
  leaf_before apart k l m less is here same = let e = apart.leaves k n l is (here ∙ ap Some (sym same)) in omega (arith, e, less)

  -- it isn't among those on which the column landed before
  not_yet : AreApart slots rows → has_name landing.landed (name_of a) ≡ false
  not_yet apart = elim (bool_cases (has_name landing.landed (name_of a))) [
    | inl has ↦ absurd (let z = was.listed apart (name_of a) has in let e = apart.names z.0 n (name_of a) z.2 own in let less = z.1 in omega (arith, e, less))
    | inr absent ↦ absent
  ]

  own_same : (m : ArmName) (k : ℕ) → k ≡ n → name_on slots rows k ≡ Some m → name_of a ≡ m
  own_same m k same is = some_same (name_on slots rows n) (name_of a) m own (subst (λ j. name_on slots rows j ≡ Some m) same is)

  -- which of the earlier arms are noted
  earlier : AreApart slots rows → (w : Outcome) (k : ℕ) (m : ArmName) → k < n → name_on slots rows k ≡ Some m → has_name (noted landing name w).landed m ≡ has_name landing.landed m
  earlier apart Silent k m less is = refl
  earlier apart (Failed leaf) k m less is = refl
  earlier apart Done k m less is = name_more landing.landed name m ∙ or_false (has_name landing.landed m) (name_eq name m) (name_before apart k m less is)

  -- and whether this one is
  latest : AreApart slots rows → (w : Outcome) → has_name (noted landing name w).landed (name_of a) ≡ is_done w
  latest apart Silent = not_yet apart
  latest apart (Failed leaf) = not_yet apart
  latest apart Done =
      name_more landing.landed name (name_of a)
      ∙ true_right (has_name landing.landed (name_of a)) (name_eq name (name_of a)) (subst (λ m. name_eq m (name_of a) ≡ true) (sym (name_is apart)) (name_refl (name_of a)))

  -- ---- told
  fewer : (leaf : ℕ) → answers_on slots rows n ≡ true → leaf_on slots rows n ≡ Some leaf → (l s : ℕ) → written_below slots rows (suc n) l s ≡ false → in_rows (rows_on rows leaf) l s ≡ false
  fewer leaf answers on l s e =
      let last = or_right (written_below slots rows n l s) (answers_on slots rows n && passes (leaf_on slots rows n) (λ m. in_rows (rows_on rows m) l s)) e in
      subst (λ b. (b && in_rows (rows_on rows leaf) l s) ≡ false) answers (subst (λ u. (answers_on slots rows n && passes u (λ m. in_rows (rows_on rows m) l s)) ≡ false) on last)

  wider : (x y : Told) → Leaves (written_below slots rows n) x y → Leaves (written_below slots rows (suc n)) x y
  wider x y l = leaves_more (written_below slots rows n) (written_below slots rows (suc n)) x y
      (λ m s e. or_left (written_below slots rows n m s) (answers_on slots rows n && passes (leaf_on slots rows n) (λ k. in_rows (rows_on rows k) m s)) e) l

  wrote_silent : (x y : Told) → Wrote slots rows n column landing.landed x y → Wrote slots rows (suc n) column landing.landed x y
  wrote_silent x y w = record {
    leaves = wider x y w.leaves;
    stand = λ apart k leaf m less is has on. elim (cases_lt k n) [
      | inl lower ↦ w.stand apart k leaf m lower is has on
      | inr same ↦ absurd_test (has_name landing.landed m) has (subst (λ m. has_name landing.landed m ≡ false) (own_same m k (omega (arith, same, less)) is) (not_yet apart))
    ];
    whole = λ apart k leaf row m less is has on. elim (cases_lt k n) [
      | inl lower ↦ w.whole apart k leaf row m lower is has on
      | inr same ↦ λ few. absurd_test (has_name landing.landed m) has (subst (λ m. has_name landing.landed m ≡ false) (own_same m k (omega (arith, same, less)) is) (not_yet apart))
    ];
  }

  wrote_failed : (failed : ℕ) (x y z : Told) → answers_on slots rows n ≡ true → leaf_on slots rows n ≡ Some failed → Leaves (in_rows (rows_on rows failed)) y z
      → Wrote slots rows n column landing.landed x y → Wrote slots rows (suc n) column landing.landed x z
  wrote_failed failed x y z answers here l w = record {
    leaves = leaves_on (written_below slots rows (suc n)) x y z (wider x y w.leaves)
        (leaves_more (in_rows (rows_on rows failed)) (written_below slots rows (suc n)) y z (fewer failed answers here) l);
    stand = λ apart k leaf m less is has on. elim (cases_lt k n) [
      | inl lower ↦ kept_stand rows column failed leaf y z l (leaf_before apart k leaf failed lower on here) (w.stand apart k leaf m lower is has on)
      | inr same ↦ absurd_test (has_name landing.landed m) has (subst (λ m. has_name landing.landed m ≡ false) (own_same m k (omega (arith, same, less)) is) (not_yet apart))
    ];
    whole = λ apart k leaf row m less is has on. elim (cases_lt k n) [
      | inl lower ↦ λ few. kept_whole rows column failed leaf row y z l (leaf_before apart k leaf failed lower on here) (w.whole apart k leaf row m lower is has on few)
      | inr same ↦ λ few. absurd_test (has_name landing.landed m) has (subst (λ m. has_name landing.landed m ≡ false) (own_same m k (omega (arith, same, less)) is) (not_yet apart))
    ];
  }

  wrote_done : (at : ℕ) (x y z : Told) → answers_on slots rows n ≡ true → leaf_on slots rows n ≡ Some at → WritesRows (rows_on rows at) column rows.count rows.count y z
      → Wrote slots rows n column landing.landed x y → Wrote slots rows (suc n) column (landing.landed ++ name ∷ []) x z
  wrote_done at x y z answers here r w = record {
    leaves = leaves_on (written_below slots rows (suc n)) x y z (wider x y w.leaves)
        (leaves_more (in_rows (rows_on rows at)) (written_below slots rows (suc n)) y z (fewer at answers here) r.leaves);
    stand = λ apart k leaf m less is has on. elim (cases_lt k n) [
      | inl lower ↦ kept_stand rows column at leaf y z r.leaves (leaf_before apart k leaf at lower on here) (w.stand apart k leaf m lower is (sym (earlier apart Done k m lower is) ∙ has) on)
      | inr same ↦ subst (λ leaf. RowsStand (rows_on rows leaf) z.reads column rows.count) (own_leaf k leaf (omega (arith, same, less)) on) r.stand
    ];
    whole = λ apart k leaf row m less is has on. elim (cases_lt k n) [
      | inl lower ↦ λ few. kept_whole rows column at leaf row y z r.leaves (leaf_before apart k leaf at lower on here) (w.whole apart k leaf row m lower is (sym (earlier apart Done k m lower is) ∙ has) on few)
      | inr same ↦ λ few. subst (λ leaf. z.harmed leaf (rows.first + row) ≡ false) (own_leaf k leaf (omega (arith, same, less)) on) (r.whole row few)
    ];
  } where
    own_leaf : (k leaf : ℕ) → k ≡ n → leaf_on slots rows k ≡ Some leaf → at ≡ leaf
    own_leaf k leaf same on = some_same (leaf_on slots rows n) at leaf here (subst (λ j. leaf_on slots rows j ≡ Some leaf) same on)

  told_more : (w : Outcome) (s t u : Option Told) → LandsOn slots rows n column w t u → OnBothTold s t (Wrote slots rows n column landing.landed) → OnBothTold s u (Wrote slots rows (suc n) column (noted landing name w).landed)
  told_more Silent None t u l e = l.1 ∙ e
  told_more Silent (Some x) None u l e = absurd e
  told_more Silent (Some x) (Some y) u l e = subst (λ v. OnBothTold (Some x) v (Wrote slots rows (suc n) column landing.landed)) (sym l.1) (wrote_silent x y e)
  told_more (Failed leaf) None None u l e = l.2
  told_more (Failed leaf) None (Some y) u l e = absurd (cc)
  told_more (Failed leaf) (Some x) None u l e = absurd e
  told_more (Failed leaf) (Some x) (Some y) None l e = absurd l.2
  told_more (Failed leaf) (Some x) (Some y) (Some z) l e = wrote_failed leaf x y z l.0 l.1 l.2 e
  told_more Done None None u l e = l.3
  told_more Done None (Some y) u l e = absurd (cc)
  told_more Done (Some x) None u l e = absurd e
  told_more Done (Some x) (Some y) None l e = absurd l.3
  told_more Done (Some x) (Some y) (Some z) l e = wrote_done l.1 x y z l.0 l.2 l.3 e

  -- ---- lists
  listed_more : AreApart slots rows → (w : Outcome) (m : ArmName) → has_name (noted landing name w).landed m ≡ true → IsNamed slots rows (suc n) m
  listed_more apart Silent m has = let z = was.listed apart m has in (z.0, (let less = z.1 in omega (arith, less)), z.2)
  listed_more apart (Failed leaf) m has = let z = was.listed apart m has in (z.0, (let less = z.1 in omega (arith, less)), z.2)
  listed_more apart Done m has = elim (either_true (has_name landing.landed m) (name_eq name m) (sym (name_more landing.landed name m) ∙ has)) [
    | inl before ↦ (let z = was.listed apart m before in (z.0, (let less = z.1 in omega (arith, less)), z.2))
    | inr it ↦ (n, omega arith, own ∙ ap Some (sym (name_is apart) ∙ name_true name m it))
  ]

  keeps_later : (leaf : ℕ) → KeepsOn slots rows n leaf → KeepsOn slots rows (suc n) leaf
  keeps_later leaf z = (z.0, (let less = z.1 in omega (arith, less)), z.2, z.3)

  fail_more : (w : Outcome) → LandsOn slots rows n column w p q → (leaf : ℕ) → has_number (noted landing name w).failed leaf ≡ true → KeepsOn slots rows (suc n) leaf
  fail_more Silent l leaf has = keeps_later leaf (was.fail leaf has)
  fail_more (Failed own_leaf) l leaf has = elim (either_true (has_number landing.failed leaf) (own_leaf == leaf) (sym (number_more landing.failed own_leaf leaf) ∙ has)) [
    | inl before ↦ keeps_later leaf (was.fail leaf before)
    | inr it ↦ (n, omega arith, l.0, l.1 ∙ ap Some (is_equal own_leaf leaf it))
  ]
  fail_more Done l leaf has = keeps_later leaf (was.fail leaf has)

  failed_before : AreApart slots rows → (w : Outcome) → LandsOn slots rows n column w p q → (k : ℕ) → k < n → (u : Option ℕ) → leaf_on slots rows k ≡ u
      → passes u (has_number (noted landing name w).failed) ≡ passes u (has_number landing.failed)
  failed_before apart w l k less None is = refl
  failed_before apart Silent l k less (Some m) is = refl
  failed_before apart (Failed leaf) l k less (Some m) is =
      number_more landing.failed leaf m ∙ or_false (has_number landing.failed m) (leaf == m) (let other = leaf_before apart k m leaf less is l.1 in grind (arith, nat_tests, other))
  failed_before apart Done l k less (Some m) is = refl

  lands_before : AreApart slots rows → (w : Outcome) → LandsOn slots rows n column w p q → (k : ℕ) (m : ArmName) → k < n → name_on slots rows k ≡ Some m
      → has_name (noted landing name w).landed m ≡ (answers_on slots rows k && not (passes (leaf_on slots rows k) (has_number (noted landing name w).failed)))
  lands_before apart w l k m less is =
      earlier apart w k m less is ∙ was.lands apart k m less is
      ∙ ap (λ b. answers_on slots rows k && not b) (sym (failed_before apart w l k less (leaf_on slots rows k) refl))

  lands_here : AreApart slots rows → (w : Outcome) → LandsOn slots rows n column w p q
      → is_done w ≡ (answers_on slots rows n && not (passes (leaf_on slots rows n) (has_number (noted landing name w).failed)))
  lands_here apart Silent l = ap (λ b. b && not (passes (leaf_on slots rows n) (has_number landing.failed))) (sym l.0)
  lands_here apart (Failed leaf) l =
      let has : has_number (landing.failed ++ leaf ∷ []) leaf ≡ true = number_more landing.failed leaf leaf ∙ true_right (has_number landing.failed leaf) (leaf == leaf) (grind (arith, nat_tests)) in
      subst (λ b. false ≡ (b && not (passes (leaf_on slots rows n) (has_number (landing.failed ++ leaf ∷ []))))) (sym l.0)
      (subst (λ u. false ≡ not (passes u (has_number (landing.failed ++ leaf ∷ [])))) (sym l.1) (ap not (sym has)))
  lands_here apart Done l = elim (bool_cases (has_number landing.failed l.1)) [
    | inl has ↦ absurd (let z = was.fail l.1 has in leaf_before apart z.0 l.1 l.1 z.1 z.3 l.2 refl)
    | inr fine ↦
        subst (λ b. true ≡ (b && not (passes (leaf_on slots rows n) (has_number landing.failed)))) (sym l.0)
        (subst (λ u. true ≡ not (passes u (has_number landing.failed))) (sym l.2) (ap not (sym fine)))
  ]

  lands_all : AreApart slots rows → (k : ℕ) (m : ArmName) → k < suc n → name_on slots rows k ≡ Some m
      → has_name (noted landing name outcome).landed m ≡ (answers_on slots rows k && not (passes (leaf_on slots rows k) (has_number (noted landing name outcome).failed)))
  lands_all apart k m less is = elim (cases_lt k n) [
    | inl lower ↦ lands_before apart outcome lands k m lower is
    | inr same ↦
        let it : n ≡ k = omega (arith, same, less) in
        subst (λ j. has_name (noted landing name outcome).landed m ≡ (answers_on slots rows j && not (passes (leaf_on slots rows j) (has_number (noted landing name outcome).failed)))) it
        (subst (λ m. has_name (noted landing name outcome).landed m ≡ (answers_on slots rows n && not (passes (leaf_on slots rows n) (has_number (noted landing name outcome).failed)))) (own_same m k (sym it) is)
        (latest apart outcome ∙ lands_here apart outcome lands))
  ]

  -- ---- logs
  missed_all : AreApart slots rows → (k group : ℕ) (m : ArmName) → k < suc n → name_on slots rows k ≡ Some m
      → is_logged new (arm_no rows k) group ≡ (is_logged slots (arm_no rows k) group || (not (has_name (noted landing name outcome).landed m) && (group == rows.birth)))
  missed_all apart k group m less is = elim (cases_lt k n) [
    | inl lower ↦
        misses.logged (arm_no rows k) group
        ∙ or_false (is_logged mid (arm_no rows k) group) (not (is_done outcome) && (is_at (arm_no rows n) (arm_no rows k) && (group == rows.birth)))
        (let e : is_at (arm_no rows n) (arm_no rows k) ≡ false = grind (arith, nat_tests, lower) in ap (λ b. not (is_done outcome) && (b && (group == rows.birth))) e ∙ none (not (is_done outcome)))
        ∙ was.missed apart k group m lower is
        ∙ ap (λ b. is_logged slots (arm_no rows k) group || (not b && (group == rows.birth))) (sym (earlier apart outcome k m lower is))
    | inr same ↦
        let it : n ≡ k = omega (arith, same, less) in
        subst (λ j. is_logged new (arm_no rows j) group ≡ (is_logged slots (arm_no rows j) group || (not (has_name (noted landing name outcome).landed m) && (group == rows.birth)))) it
        (misses.logged (arm_no rows n) group
        ∙ ap₂ (λ b c. b || (not (is_done outcome) && (c && (group == rows.birth)))) (was.others (arm_no rows n) group (grind (arith, nat_tests))) (itself n)
        ∙ ap (λ b. is_logged slots (arm_no rows n) group || (not b && (group == rows.birth))) (sym (latest apart outcome) ∙ ap (has_name (noted landing name outcome).landed) (own_same m k (sym it) is)))
  ] where
    none : (b : Bool) → (b && (false && (group == rows.birth))) ≡ false
    none true = refl
    none false = refl

    itself : (j : ℕ) → is_at (arm_no rows j) (arm_no rows j) ≡ true
    itself j = grind (arith, nat_tests)

  others_all : (at : ArmAt) (group : ℕ) → ((at.slot == rows.slot) && nat_lt at.arm (suc n)) ≡ false → is_logged new at group ≡ is_logged slots at group
  others_all at group out =
      let e : is_at (arm_no rows n) at ≡ false = grind (arith, nat_tests, out) in
      let lower : ((at.slot == rows.slot) && nat_lt at.arm n) ≡ false = grind (arith, nat_tests, out) in
      misses.logged at group ∙ or_false (is_logged mid at group) (not (is_done outcome) && (is_at (arm_no rows n) at && (group == rows.birth)))
      (ap (λ b. not (is_done outcome) && (b && (group == rows.birth))) e ∙ none (not (is_done outcome)))
      ∙ was.others at group lower
    where
      none : (b : Bool) → (b && (false && (group == rows.birth))) ≡ false
      none true = refl
      none false = refl

  -- ---- counts
  counts_all : (w : Outcome) → outcome ≡ w → CountsFailed (noted landing name w).failed f h
  counts_all Silent e = counts_kept landing.failed f g h was.counts counts.later
  counts_all (Failed leaf) e = counts_more landing.failed leaf f g h was.counts counts.later (counts.cause leaf e)
  counts_all Done e = counts_kept landing.failed f g h was.counts counts.later

  few_landed_all : (w : Outcome) → length (noted landing name w).landed ≤ suc n
  few_landed_all Silent = subst (λ k. length landing.landed ≤ k) (omega arith) (later_still (length landing.landed) n was.few_landed)
  few_landed_all (Failed leaf) = subst (λ k. length landing.landed ≤ k) (omega arith) (later_still (length landing.landed) n was.few_landed)
  few_landed_all Done = subst (λ k. length (landing.landed ++ name ∷ []) ≤ k) (omega arith) (longer landing.landed name n was.few_landed)

  few_failed_all : (w : Outcome) → length (noted landing name w).failed ≤ suc n
  few_failed_all Silent = subst (λ k. length landing.failed ≤ k) (omega arith) (later_still (length landing.failed) n was.few_failed)
  few_failed_all (Failed leaf) = subst (λ k. length (landing.failed ++ leaf ∷ []) ≤ k) (omega arith) (longer landing.failed leaf n was.few_failed)
  few_failed_all Done = subst (λ k. length landing.failed ≤ k) (omega arith) (later_still (length landing.failed) n was.few_failed)

  pub lands_more : Lands slots new rows (suc n) column (noted landing name outcome) o q f h
  lands_more = record {
    told_is = told_more outcome o p q lands was.told_is;
    logs = logs_on rows.birth slots mid new was.logs misses.logs;
    listed = λ apart m has. listed_more apart outcome m has;
    lands = lands_all;
    fail = fail_more outcome lands;
    few_landed = few_landed_all outcome;
    few_failed = few_failed_all outcome;
    missed = missed_all;
    others = others_all;
    counts = counts_all outcome refl;
  }

  pub lands_next : (k : ℕ) (next : Landing) → k ≡ n + 1 → next ≡ noted landing name outcome → Lands slots new rows k column next o q f h
  lands_next k next e same =
      let up : suc n ≡ k = omega (arith, e) in
      subst (λ j. Lands slots new rows j column next o q f h) up (subst (λ it. Lands slots new rows (suc n) column it o q f h) (sym same) lands_more)

-- what a write did by slots with the same arms
pub lands_same : (old new : SlotTable) (rows : ColumnRows) (k : ℕ) (column : List ℕ) (outcome : Outcome) (o p : Option Told) → IsSame old new → new.arms ≡ old.arms
    → LandsOn new rows k column outcome o p → LandsOn old rows k column outcome o p
lands_same old new rows k column outcome o p same arms = by outcome where
  there : holder old (arm_no rows k) rows.slice ≡ holder new (arm_no rows k) rows.slice
  there = sym (holder_same old new (arm_no rows k) rows.slice same arms)

  by : (w : Outcome) → LandsOn new rows k column w o p → LandsOn old rows k column w o p
  by Silent l = (ap is_online there ∙ l.0, l.1)
  by (Failed leaf) l = (ap is_online there ∙ l.0, ap (option_map (λ (a : Arm). a.number)) there ∙ l.1, l.2)
  by Done l = (ap is_online there ∙ l.0, l.1, ap (option_map (λ (a : Arm). a.number)) there ∙ l.2, l.3)

-- ---- no arm yet

pub lands_none : (slots : SlotTable) (rows : ColumnRows) (column : List ℕ) (o : Option Told) (f : Option ℕ → ℕ) → Lands slots slots rows 0 column (record { landed = []; failed = [] }) o o f f
lands_none slots rows column o f = record {
  told_is = told o;
  logs = logs_same rows.birth slots;
  listed = λ apart m has. absurd_test false has refl;
  lands = λ apart k m less is. absurd (omega (arith, less));
  fail = λ leaf has. absurd_test false has refl;
  few_landed = omega arith;
  few_failed = omega arith;
  missed = λ apart k group m less is. absurd (omega (arith, less));
  others = λ at group out. refl;
  counts = counts_none f;
} where
  told : (o : Option Told) → OnBothTold o o (Wrote slots rows 0 column [])
  told None = refl
  told (Some x) = record {
    leaves = leaves_self (written_below slots rows 0) x;
    stand = λ apart k leaf m less is has on. absurd (omega (arith, less));
    whole = λ apart k leaf row m less is has on few. absurd (omega (arith, less));
  }
