-- Columns that land on arms of their slot.
use Rattle.std.proofs.Common.{◌≡◌, ◌==◌, ◌+◌, ◌<◌, ◌&&◌, ◌||◌, not, ℕ, Bool, true, false, List, [], ◌∷◌, Some, nat_lt, if◌then◌else◌, BTreeMap, BTreeSet, refl, sym, ◌∙◌, ap, subst}
use Rattle.std.specs.List.{list_all, list_any}
use Rattle.draid_machine.specs.declared.names.Key.{Key}
use Rattle.draid_machine.specs.declared.names.ArmName.{ArmName}
use Rattle.draid_machine.specs.declared.names.Stage.TheVariants.{Writing}
use Rattle.draid_machine.specs.declared.names.Held.{Held}
use Rattle.draid_machine.specs.declared.names.Segment.{Segment}
use Rattle.draid_machine.specs.Names.{key_eq, name_eq, has_name, has_segment, is_nil}
use Rattle.draid_machine.specs.State.{Layout, Core}
use Rattle.draid_machine.specs.Arms.{answers, fails, lies, leaf_at, leaf_answers}
use Rattle.draid_machine.specs.After.{each_arm, log_if, set_held, is_landed, put_state}
use Rattle.draid_machine.proofs.Small.{both_true, true_both, below, absurd_test, name_true, is_equal}
use Rattle.draid_world.specs.World.{state_of, core_of, arm_in, held_in}
use Rattle.draid_world.specs.declared.world.Tables.{Tables}
use Rattle.draid_world.specs.declared.world.World.{World}
use Rattle.draid_steps.specs.Columns.{MayLand, lands_right, is_row}
use Rattle.draid_steps.proofs.Lists.{all_names, not_all_names, any_of_names, name_passes, all_numbers, not_all_numbers, lies_some, some_lies, right_true, right_false}

pub may_land : (l : Layout) (q : Core) (h : Held) (c : ℕ) (landed : List ArmName) (failed : List ℕ) (ns : List ArmName) → ns ≡ q.order (l.slot_of h.first c)
    → list_all (has_name ns) landed ≡ true → list_all (lands_right l q h.first landed failed) ns ≡ true
    → list_all (λ leaf. list_any (λ n. lies l q.order n h.first leaf) ns && leaf_answers q leaf) failed ≡ true → MayLand l q h c landed failed
may_land l q h c landed failed ns is listed right used = record {
  listed = λ n has. sym (ap (λ ms. has_name ms n) is) ∙ all_names (has_name ns) landed listed n has;
  lands = λ n there. right_true (answers l q n h.first && not (fails l q failed n h.first)) (has_name landed n)
      (all_names (lands_right l q h.first landed failed) ns right n (ap (λ ms. has_name ms n) is ∙ there));
  fail = λ leaf has.
      let z = both_true (list_any (λ n. lies l q.order n h.first leaf) ns) (leaf_answers q leaf)
      (all_numbers (λ leaf. list_any (λ n. lies l q.order n h.first leaf) ns && leaf_answers q leaf) failed used leaf has) in
      let y = any_of_names (λ n. lies l q.order n h.first leaf) ns z.0 in
      record { arm = y.0; listed = sym (ap (λ ms. has_name ms y.0) is) ∙ y.1; lies = lies_some (leaf_at l q.order y.0 h.first) leaf y.2; answers = z.1 };
}

pub not_listed : (l : Layout) (q : Core) (h : Held) (c : ℕ) (landed : List ArmName) (failed : List ℕ) (ns : List ArmName) → ns ≡ q.order (l.slot_of h.first c)
    → list_all (has_name ns) landed ≡ false → MayLand l q h c landed failed → ⊥
not_listed l q h c landed failed ns is fails_it may =
    let z = not_all_names (has_name ns) landed fails_it in
    absurd_test (has_name ns z.0) (ap (λ ms. has_name ms z.0) is ∙ may.listed z.0 z.1) z.2

pub not_right : (l : Layout) (q : Core) (h : Held) (c : ℕ) (landed : List ArmName) (failed : List ℕ) (ns : List ArmName) → ns ≡ q.order (l.slot_of h.first c)
    → list_all (lands_right l q h.first landed failed) ns ≡ false → MayLand l q h c landed failed → ⊥
not_right l q h c landed failed ns is fails_it may =
    let z = not_all_names (lands_right l q h.first landed failed) ns fails_it in
    right_false (answers l q z.0 h.first && not (fails l q failed z.0 h.first)) (has_name landed z.0) z.2 (may.lands z.0 (sym (ap (λ ms. has_name ms z.0) is) ∙ z.1))

pub not_used : (l : Layout) (q : Core) (h : Held) (c : ℕ) (landed : List ArmName) (failed : List ℕ) (ns : List ArmName) → ns ≡ q.order (l.slot_of h.first c)
    → list_all (λ leaf. list_any (λ n. lies l q.order n h.first leaf) ns && leaf_answers q leaf) failed ≡ false → MayLand l q h c landed failed → ⊥
not_used l q h c landed failed ns is fails_it may =
    let z = not_all_numbers (λ leaf. list_any (λ n. lies l q.order n h.first leaf) ns && leaf_answers q leaf) failed fails_it in
    let f = may.fail z.0 z.1 in
    absurd_test (list_any (λ n. lies l q.order n h.first z.0) ns && leaf_answers q z.0)
    (true_both (list_any (λ n. lies l q.order n h.first z.0) ns) (leaf_answers q z.0)
    (name_passes (λ n. lies l q.order n h.first z.0) ns f.arm (ap (λ ms. has_name ms f.arm) is ∙ f.listed) (some_lies (leaf_at l q.order f.arm h.first) z.0 f.lies)) f.answers)
    z.2

-- ---- what is written
rows_of : (l : Layout) (order : ℕ → List ArmName) (k : Key) (h : Held) (c : ℕ) (ns : List ArmName) (s : Segment)
    → list_any (λ n. is_row l order k h c n h.stripes s) ns ≡ (key_eq k s.key && (s.column == c) && has_name ns s.arm && nat_lt s.row h.stripes && lies l order s.arm (h.first + s.row) s.leaf)
rows_of l order k h c [] s = none (key_eq k s.key) (s.column == c) (nat_lt s.row h.stripes) (lies l order s.arm (h.first + s.row) s.leaf)
  where
    none : (a b d e : Bool) → false ≡ (a && b && false && d && e)
    none true true d e = refl
    none true false d e = refl
    none false b d e = refl
rows_of l order k h c (n ∷ ns) s =
    by (name_eq n s.arm) refl ∙ ap (λ x. here || x) (rows_of l order k h c ns s)
    ∙ joined (key_eq k s.key) (s.column == c) (name_eq n s.arm) (has_name ns s.arm) (nat_lt s.row h.stripes) (lies l order s.arm (h.first + s.row) s.leaf)
  where
    here : Bool
    here = key_eq k s.key && (s.column == c) && name_eq n s.arm && nat_lt s.row h.stripes && lies l order s.arm (h.first + s.row) s.leaf

    rest : Bool
    rest = list_any (λ m. is_row l order k h c m h.stripes s) ns

    away : (a b d e f : Bool) → (a && b && false && d && e) ≡ (a && b && false && d && f)
    away true true d e f = refl
    away true false d e f = refl
    away false b d e f = refl

    by : (b : Bool) → name_eq n s.arm ≡ b → (is_row l order k h c n h.stripes s || rest) ≡ (here || rest)
    by true at = ap (λ m. (key_eq k s.key && (s.column == c) && name_eq n s.arm && nat_lt s.row h.stripes && lies l order m (h.first + s.row) s.leaf) || rest) (name_true n s.arm at)
    by false at = rw at (ap (λ x. x || rest) (away (key_eq k s.key) (s.column == c) (nat_lt s.row h.stripes) (lies l order n (h.first + s.row) s.leaf) (lies l order s.arm (h.first + s.row) s.leaf)))

    joined : (a b n m d e : Bool) → ((a && b && n && d && e) || (a && b && m && d && e)) ≡ (a && b && (n || m) && d && e)
    joined false b n m d e = refl
    joined true false n m d e = refl
    joined true true false m d e = refl
    joined true true true true true true = refl
    joined true true true true true false = refl
    joined true true true true false e = refl
    joined true true true false true true = refl
    joined true true true false true false = refl
    joined true true true false false e = refl

pub rows_landed : (l : Layout) (q : Core) (k : Key) (h : Held) (c : ℕ) (landed : List ArmName) (s : Segment) → c < l.columns
    → ((n : ArmName) → has_name landed n ≡ true → has_name (q.order (l.slot_of h.first c)) n ≡ true)
    → list_any (λ n. is_row l q.order k h c n h.stripes s) landed ≡ is_landed l q k h c landed s
rows_landed l q k h c landed s less listed =
    rows_of l q.order k h c landed s ∙ by (s.column == c) refl (has_name landed s.arm) refl
  where
    low : (s.column == c) ≡ true → nat_lt s.column l.columns ≡ true
    low e = ap (λ x. nat_lt x l.columns) (is_equal s.column c e) ∙ below c l.columns less

    there : (s.column == c) ≡ true → has_name landed s.arm ≡ true → has_name (q.order (l.slot_of h.first s.column)) s.arm ≡ true
    there e has = ap (λ x. has_name (q.order (l.slot_of h.first x)) s.arm) (is_equal s.column c e) ∙ listed s.arm has

    R : Bool
    R = nat_lt s.row h.stripes

    L : Bool
    L = lies l q.order s.arm (h.first + s.row) s.leaf

    full : (a r x : Bool) → (a && true && true && r && x) ≡ (a && true && true && (true && true && r && x))
    full true r x = refl
    full false r x = refl

    none : (a r x y : Bool) → (a && true && false && r && x) ≡ (a && true && false && y)
    none true r x y = refl
    none false r x y = refl

    other : (a m r x y : Bool) → (a && false && m && r && x) ≡ (a && false && m && y)
    other true m r x y = refl
    other false m r x y = refl

    by : (b : Bool) → (s.column == c) ≡ b → (m : Bool) → has_name landed s.arm ≡ m
        → (key_eq k s.key && (s.column == c) && has_name landed s.arm && R && L)
        ≡ (key_eq k s.key && (s.column == c) && has_name landed s.arm && (has_name (q.order (l.slot_of h.first s.column)) s.arm && nat_lt s.column l.columns && R && L))
    by true e true has = rw e (rw has (rw (there e has) (rw (low e) (full (key_eq k s.key) R L))))
    by true e false has = rw e (rw has (none (key_eq k s.key) R L (has_name (q.order (l.slot_of h.first s.column)) s.arm && nat_lt s.column l.columns && R && L)))
    by false e m has = rw e (other (key_eq k s.key) (has_name landed s.arm) R L (has_name (q.order (l.slot_of h.first s.column)) s.arm && nat_lt s.column l.columns && R && L))

pub put_made : (l : Layout) (w : World) (t : Tables) (held : BTreeMap Key Held) (segments : BTreeSet Segment) (k : Key) (h : Held) (c m count : ℕ) (landed : List ArmName)
    → t ≡ record w.tables { arms = t.arms }
    → count ≡ (if is_nil landed then m + 1 else m)
    → ((n : ArmName) → arm_in t.arms.entries n ≡ each_arm (λ n. log_if (has_name ((core_of w.tables).order (l.slot_of h.first c)) n && not (has_name landed n)) h.birth) (arm_in w.tables.arms.entries) n)
    → ((j : Key) → held_in held.entries j ≡ set_held (held_in t.held.entries) k (Some (record h { stage = Writing (c + 1) count })) j)
    → ((s : Segment) → has_segment segments.keys s ≡ (has_segment w.present.keys s || is_landed l (core_of w.tables) k h c landed s))
    → state_of (record w { tables = record t { held = held }; present = segments }) ≡ put_state l (state_of w) k landed h c m
put_made l w t held segments k h c m count landed rest counted logs put present =
    subst (λ (x : Tables). state_of (record w { tables = record x { held = held }; present = segments }) ≡ put_state l (state_of w) k landed h c m) (sym rest)
    (λ i. record (state_of w) {
      core = record (core_of w.tables) {
        held = λ j. (put j ∙ ap (λ (x : Tables). set_held (held_in x.held.entries) k (Some (record h { stage = Writing (c + 1) count })) j) rest
            ∙ ap (λ x. set_held (held_in w.tables.held.entries) k (Some (record h { stage = Writing (c + 1) x })) j) counted) i;
        arm = λ n. logs n i;
      };
      present = λ s. present s i;
    })
