-- A put is an event: the column landed where the state machine says, and the tables go on.
use Rattle.std.proofs.Common.{◌≡◌, ◌==◌, ◌+◌, ◌-◌, ◌<◌, ◌≤◌, ◌||◌, ◌&&◌, not, ◌∙◌, ℕ, zero, suc, Bool, true, false, nat_le, nat_lt, List, [], ◌∷◌, Option, Some, None, arith, refl, sym, ap, ap₂, subst, inl, inr, map, length, slice_get, IsSome}
use Rattle.std.specs.Prelude.{Contains, option_map, slice_index_or}
use Rattle.std.proofs.lemmas.Bool.{cases_eq}
use Rattle.std.proofs.lemmas.Bool.Decides.{nat_tests}
use Rattle.draid_names.specs.declared.arm.Arm.{Arm}
use Rattle.draid_names.specs.declared.arm.ArmAt.{ArmAt}
use Rattle.draid_names.specs.declared.pointer.Pointer.{Pointer}
use Rattle.draid_rack.specs.Rack.{Told, OnBothTold}
use Rattle.draid_columns.specs.Columns.{in_rows}
use Rattle.draid_machine.specs.declared.names.ArmName.{ArmName}
use Rattle.draid_machine.specs.declared.names.Held.{Held}
use Rattle.draid_machine.specs.declared.names.Segment.{Segment}
use Rattle.draid_machine.specs.declared.names.Stage.{Stage}
use Rattle.draid_machine.specs.declared.names.Stage.TheVariants.{Writing}
use Rattle.draid_machine.specs.After.{is_landed, log_if, map_arm, put_state}
use Rattle.draid_machine.specs.Arms as arms
use Rattle.draid_machine.specs.Arms.{fails, leaf_answers, leaf_at, passes}
use Rattle.draid_machine.specs.Claims.{is_on}
use Rattle.draid_machine.specs.Created.{IsReached}
use Rattle.draid_machine.specs.Images.{Owned}
use Rattle.draid_machine.specs.Names.{any_below, has_name, has_number, key_eq, named}
use Rattle.draid_machine.specs.State as machine
use Rattle.draid_machine.specs.Step.{FailsThere, PutStep}
use Rattle.draid_machine.proofs.Losing.{every_segment}
use Rattle.draid_machine.proofs.Small.{absurd_test, bool_cases, both_true, either_true, equal, four_true, is_below, is_equal, is_low, key_refl, key_true, some_same, true_four}
use Rattle.draid_segments.specs.Acts.{LiesThere, PutsColumn, is_put_to}
use Rattle.draid_segments.specs.Segments.{Pieces}
use Rattle.draid_entries.specs.declared.entries.Entries.{Entries}
use Rattle.draid_entries.specs.Entries.{entry_at, held_in}
use Rattle.draid_entries.specs.Maps.{held_at, held_from, key_of, staged}
use Rattle.draid_slots.specs.Changes.{IsOf}
use Rattle.draid_slots.specs.Table.{SlotTable, arm_at, arms_of, is_logged}
use Rattle.draid_shard.specs.Columns.{ArePieces, row_bytes}
use Rattle.draid_shard.specs.Part.{IsPart, IsRun, Part, layout_in}
use Rattle.draid_shard.specs.Rows.{AreApart, IsRowsOf, answers_on, arm_no, leaf_on, name_on, rows_on}
use Rattle.draid_blocks.specs.Landings.{Lands, Wrote, written_below}
use Rattle.draid_slots.specs.States.{HasSlots, name_of}
use Rattle.draid_shard.specs.declared.places.ColumnRows.{ColumnRows}
use Rattle.draid_blocks.specs.declared.putting.Landing.{Landing}
use Rattle.draid_parity.specs.Columns.{column_at}
use Rattle.draid_shard.proofs.Answering.{answers_is, apart, kept_arm, leaf_at_is, listed, listed_arm, name_listed, named_arm, on_arm, row_leaf}
use Rattle.draid_shard.proofs.Homes.{lays, row_sector}

there_below : {A : Type 0} (xs : List A) (k : ℕ) (x : A) → slice_get xs k ≡ Some x → k < length xs
there_below [] k x is = absurd (cc)
there_below (y ∷ ys) zero x is = omega arith
there_below (y ∷ ys) (suc k) x is = let less = there_below ys k x is in omega (arith, less)

-- ---- the state's blocks

pub held_found : (t : Entries) (p : Pointer) (s : Stage) → entry_at t p.first ≡ Some (staged s p) → held_in t (key_of p) ≡ Some (held_at (staged s p))
held_found t p s there = ap (held_from t.firsts) (t.agree.found p.first (staged s p) there).named ∙ ap (option_map held_at) there

none_false : (b : Bool) → (b && false) ≡ false
none_false true = refl
none_false false = refl

or_none : (a : Bool) → (a || false) ≡ a
or_none true = refl
or_none false = refl

module _ (part : Part) (is : IsPart part) (slots new : SlotTable) (of : IsOf slots part.geometry part.perms part.number) (w : machine.State) (reached : IsReached (layout_in part) w) (has : HasSlots slots w.core)
    (pointer : Pointer) (run : IsRun part.geometry pointer.first pointer.stripes) (c m : ℕ) (column : c < part.geometry.g) (rows : ColumnRows) (rows_are : IsRowsOf part pointer c rows)
    (held : w.core.held (key_of pointer) ≡ Some (held_at (staged (Writing c m) pointer))) (bytes : List ℕ) (landing : Landing) (o p : Option Told) (f g : Option ℕ → ℕ)
    (lands : Lands slots new rows (length (arms_of slots rows.slot)) bytes landing o p f g) where
  abbrev stage : Stage
  stage = Writing c m

  abbrev block : Held
  block = held_at (staged (Writing c m) pointer)

  order : List ArmName
  order = w.core.order ((layout_in part).slot_of pointer.first c)

  are_apart : AreApart slots rows
  are_apart = apart part is slots of w reached has pointer run c column rows rows_are stage held

  -- ---- the step
  is_listed : (n : ArmName) → has_name landing.landed n ≡ true → has_name (w.core.order ((layout_in part).slot_of pointer.first c)) n ≡ true
  is_listed n at = let z = lands.listed are_apart n at in listed part is slots of w reached has pointer run c column rows rows_are z.0 n z.2

  lands_there : (n : ArmName) → has_name (w.core.order ((layout_in part).slot_of pointer.first c)) n ≡ true
      → has_name landing.landed n ≡ (arms.answers (layout_in part) w.core n pointer.first && not (fails (layout_in part) w.core landing.failed n pointer.first))
  lands_there n at =
      let z = listed_arm part is slots of w reached has pointer run c column rows rows_are n at in
      let arm = named_arm slots rows z.0 n z.2 in
      let answers = answers_is part is slots of w reached has pointer run c column rows rows_are z.0 arm.0 arm.1 in
      let leaf = leaf_at_is part is slots of w reached has pointer run c column rows rows_are z.0 arm.0 arm.1 in
      lands.lands are_apart z.0 n z.1 z.2
      ∙ ap₂ (λ b u. b && not (passes u (has_number landing.failed))) (sym answers ∙ ap (λ n. arms.answers (layout_in part) w.core n pointer.first) arm.2) (sym leaf ∙ ap (λ n. leaf_at (layout_in part) w.core.order n pointer.first) arm.2)

  fails_there : (leaf : ℕ) → has_number landing.failed leaf ≡ true → FailsThere (layout_in part) w.core block c leaf
  fails_there leaf at = let z = lands.fail leaf at in there z.0 z.2 z.3
    where
      there : (k : ℕ) → answers_on slots rows k ≡ true → leaf_on slots rows k ≡ Some leaf → FailsThere (layout_in part) w.core block c leaf
      there k answers on = let arm = kept k on in
          let lies = leaf_at_is part is slots of w reached has pointer run c column rows rows_are k arm.0 arm.1 ∙ on in
          record {
            arm = name_of arm.0;
            listed = listed part is slots of w reached has pointer run c column rows rows_are k (name_of arm.0) (ap (option_map name_of) arm.1);
            lies = lies;
            answers = subst (λ u. passes u (leaf_answers w.core) ≡ true) lies (answers_is part is slots of w reached has pointer run c column rows rows_are k arm.0 arm.1 ∙ answers);
          }
        where
          kept : (k : ℕ) → leaf_on slots rows k ≡ Some leaf → (a : Arm) × (arm_at slots (arm_no rows k) ≡ Some a)
          kept k on = kept_arm slots rows k leaf on

  pub put_step : PutStep (layout_in part) w (key_of pointer) landing.landed landing.failed (put_state (layout_in part) w (key_of pointer) landing.landed block c m)
  put_step = record {
    h = block;
    c = c;
    m = m;
    found = held;
    stage = refl;
    more = column;
    listed = is_listed;
    lands = lands_there;
    fail = fails_there;
    made = refl;
  }

  -- ---- the arms afterwards
  abbrev missed : ArmName → Bool
  missed n = has_name (w.core.order ((layout_in part).slot_of pointer.first c)) n && not (has_name landing.landed n)

  owned : Owned (layout_in part) w
  owned = every_segment (layout_in part) w (lays part is) reached

  logged : (at : ArmAt) (a : Arm) → arm_at slots at ≡ Some a → (group : ℕ) → (is_logged slots at group || (missed (name_of a) && (group == pointer.birth))) ≡ is_logged new at group
  logged at a there group = elim (cases_eq at.slot rows.slot) [
    | inl same ↦
        let place : ArmAt = arm_no rows at.arm in
        let here : at ≡ place = (λ i. record { slot = same i; arm = at.arm }) in
        let it : arm_at slots (arm_no rows at.arm) ≡ Some a = subst (λ q. arm_at slots q ≡ Some a) here there in
        let name : name_on slots rows at.arm ≡ Some (name_of a) = ap (option_map name_of) it in
        let in_order = listed part is slots of w reached has pointer run c column rows rows_are at.arm (name_of a) name in
        subst (λ q. (is_logged slots q group || (missed (name_of a) && (group == pointer.birth))) ≡ is_logged new q group) (sym here)
        (ap (λ b. is_logged slots (arm_no rows at.arm) group || ((b && not (has_name landing.landed (name_of a))) && (group == pointer.birth))) in_order
        ∙ ap (λ birth. is_logged slots (arm_no rows at.arm) group || (not (has_name landing.landed (name_of a)) && (group == birth))) (sym rows_are.birth_is)
        ∙ sym (lands.missed are_apart at.arm group (name_of a) (there_below (arms_of slots rows.slot) at.arm a it) name))
    | inr other ↦
        let elsewhere : has_name (w.core.order ((layout_in part).slot_of pointer.first c)) (name_of a) ≡ false = out other in
        ap (λ b. is_logged slots at group || ((b && not (has_name landing.landed (name_of a))) && (group == pointer.birth))) elsewhere
        ∙ or_none (is_logged slots at group)
        ∙ sym (lands.others at group (grind (arith, nat_tests, other)))
  ] where
    out : (at.slot ≡ rows.slot → ⊥) → has_name (w.core.order ((layout_in part).slot_of pointer.first c)) (name_of a) ≡ false
    out other = elim (bool_cases (has_name (w.core.order ((layout_in part).slot_of pointer.first c)) (name_of a))) [
      | inl in_order ↦
          let here : has_name (w.core.order at.slot) (name_of a) ≡ true
          = subst (λ ns. has_name ns (name_of a) ≡ true) (sym (has.order at.slot)) (name_listed (arms_of slots at.slot) at.arm (name_of a) (ap (option_map name_of) there)) in
          absurd (other (owned.listed.one at.slot ((layout_in part).slot_of pointer.first c) (name_of a) here in_order ∙ sym rows_are.slot_is))
      | inr absent ↦ absent
    ]

  pub put_slots : HasSlots new (put_state (layout_in part) w (key_of pointer) landing.landed block c m).core
  put_slots = record {
    order = λ slot. has.order slot ∙ ap (λ arms. map name_of (slice_index_or arms slot [])) (sym lands.logs.arms);
    arms = λ at a there. (let was = before at a there in
        ap (map_arm (log_if (missed (name_of a)) pointer.birth)) (has.arms at a was)
        ∙ (λ i. Some (record { offline = a.offline; fresh = a.fresh; log = λ group. logged at a was group i; gone = None })));
    detached = λ gone among. (let was = has.detached gone (subst (λ list. Contains list gone) lands.logs.detached among) in record {
      arm = log_if (missed (named gone.kind gone.number)) pointer.birth was.arm;
      there = ap (map_arm (log_if (missed (named gone.kind gone.number)) pointer.birth)) was.there;
      offline = was.offline;
      by = was.by;
    });
    only = λ n some. elim (has.only n (λ none. some (ap (map_arm (log_if (missed n) pointer.birth)) none))) [
      | inl arm ↦ inl (record { at = arm.at; arm = arm.arm; there = after arm.at arm.arm arm.there; name_is = arm.name_is })
      | inr gone ↦ inr (record { gone = gone.gone; among = subst (λ list. Contains list gone.gone) (sym lands.logs.detached) gone.among; name_is = gone.name_is })
    ];
  } where
    before : (at : ArmAt) (a : Arm) → arm_at new at ≡ Some a → arm_at slots at ≡ Some a
    before at a there = ap (λ arms. slice_get (slice_index_or arms at.slot []) at.arm) (sym lands.logs.arms) ∙ there

    after : (at : ArmAt) (a : Arm) → arm_at slots at ≡ Some a → arm_at new at ≡ Some a
    after at a there = ap (λ arms. slice_get (slice_index_or arms at.slot []) at.arm) lands.logs.arms ∙ there

  -- ---- what was written
  some_below : (n : ℕ) (test : ℕ → Bool) → any_below n test ≡ true → (k : ℕ) × (test k ≡ true)
  some_below zero test at = absurd_test false at refl
  some_below (suc n) test at = elim (either_true (any_below n test) (test n) at) [
    | inl lower ↦ some_below n test lower
    | inr here ↦ (n, here)
  ]

  passes_at : (u : Option ℕ) (test : ℕ → Bool) → passes u test ≡ true → (x : ℕ) × (u ≡ Some x) × (test x ≡ true)
  passes_at None test at = absurd_test false at refl
  passes_at (Some x) test at = (x, refl, at)

  -- the rows of a leaf: this leaf, and one of the sectors
  in_parts : (leaf l s : ℕ) → in_rows (rows_on rows leaf) l s ≡ true → (l ≡ leaf) × (rows.first ≤ s) × (s < rows.first + rows.count)
  in_parts leaf l s at =
      let both = both_true (l == leaf) (nat_le rows.first s && nat_lt s (rows.first + rows.count)) at in
      let range = both_true (nat_le rows.first s) (nat_lt s (rows.first + rows.count)) both.1 in
      (is_equal l leaf both.0, is_low rows.first s range.0, is_below s (rows.first + rows.count) range.1)

  sector_row : (row : ℕ) → row < pointer.stripes → (layout_in part).sector_of (pointer.first + row) c ≡ rows.first + row
  sector_row row less = row_sector part is pointer.first pointer.stripes row c run less ∙ ap (λ s. s + row) (sym rows_are.first_is)

  lies_there : (l s : ℕ) → written_below slots rows (length (arms_of slots rows.slot)) l s ≡ true → LiesThere (layout_in part) block (is_put_to (layout_in part) w.core (key_of pointer) block c) l s
  lies_there l s at =
      let z = some_below (length (arms_of slots rows.slot)) (λ k. answers_on slots rows k && passes (leaf_on slots rows k) (λ m. in_rows (rows_on rows m) l s)) at in
      let both = both_true (answers_on slots rows z.0) (passes (leaf_on slots rows z.0) (λ m. in_rows (rows_on rows m) l s)) z.1 in
      let leaf = passes_at (leaf_on slots rows z.0) (λ m. in_rows (rows_on rows m) l s) both.1 in
      let arm = kept_arm slots rows z.0 leaf.0 leaf.1 in
      let parts = in_parts leaf.0 l s leaf.2 in
      there z.0 leaf.0 l s arm.0 both.0 leaf.1 arm.1 parts.0 parts.1 parts.2
    where
      there : (k leaf l s : ℕ) (a : Arm) → answers_on slots rows k ≡ true → leaf_on slots rows k ≡ Some leaf → arm_at slots (arm_no rows k) ≡ Some a → l ≡ leaf → rows.first ≤ s → s < rows.first + rows.count
          → LiesThere (layout_in part) block (is_put_to (layout_in part) w.core (key_of pointer) block c) l s
      there k leaf l s a answers on at same low high =
          let count = rows_are.count_is in
          let less : s - rows.first < pointer.stripes = omega (arith, low, high, count) in
          record {
            s = record { key = key_of pointer; column = c; arm = name_of a; leaf = leaf; row = s - rows.first };
            is = true_four (key_eq (key_of pointer) (key_of pointer)) (c == c)
                (is_on (layout_in part) w.core.order (record { key = key_of pointer; column = c; arm = name_of a; leaf = leaf; row = s - rows.first }) block)
                (arms.answers (layout_in part) w.core (name_of a) pointer.first) (key_refl (key_of pointer)) (equal c c refl)
                (on_arm part is slots of w reached has pointer run c column rows rows_are stage held k leaf (s - rows.first) a at on less)
                (answers_is part is slots of w reached has pointer run c column rows rows_are k a at ∙ answers);
            leaf_is = sym same;
            sector_is = (let e = sector_row (s - rows.first) less in omega (arith, e, low));
          }

  -- a segment on which the column landed
  pub record IsRow (s : Segment) : Type 0 where
    pub k : ℕ
    pub below : k < length (arms_of slots rows.slot)
    pub key_is : s.key ≡ key_of pointer
    pub column_is : s.column ≡ c
    pub named : name_on slots rows k ≡ Some s.arm
    pub landed : has_name landing.landed s.arm ≡ true
    pub on : leaf_on slots rows k ≡ Some s.leaf
    pub row : s.row < pointer.stripes

  landed_row : (s : Segment) → is_landed (layout_in part) w.core (key_of pointer) block c landing.landed s ≡ true → IsRow s
  landed_row s at =
      let four = four_true (key_eq (key_of pointer) s.key) (s.column == c) (has_name landing.landed s.arm) (is_on (layout_in part) w.core.order s block) at in
      let on = four_true (has_name (w.core.order ((layout_in part).slot_of pointer.first s.column)) s.arm) (nat_lt s.column part.geometry.g) (nat_lt s.row pointer.stripes)
      (arms.lies (layout_in part) w.core.order s.arm (pointer.first + s.row) s.leaf) four.3 in
      let z = lands.listed are_apart s.arm four.2 in
      let arm = named_arm slots rows z.0 s.arm z.2 in
      let less = is_below s.row pointer.stripes on.2 in
      let leaf = passes_at (leaf_at (layout_in part) w.core.order s.arm (pointer.first + s.row)) (λ m. m == s.leaf) on.3 in
      record {
        k = z.0;
        below = z.1;
        key_is = sym (key_true (key_of pointer) s.key four.0);
        column_is = is_equal s.column c four.1;
        named = z.2;
        landed = four.2;
        on = sym (leaf_at_is part is slots of w reached has pointer run c column rows rows_are z.0 arm.0 arm.1) ∙ ap (λ n. leaf_at (layout_in part) w.core.order n pointer.first) arm.2
            ∙ sym (row_leaf part is slots of w reached has pointer run c column rows rows_are s.arm s.row less) ∙ leaf.1 ∙ ap Some (is_equal leaf.0 s.leaf leaf.2);
        row = less;
      }

  row_at : (s : Segment) → IsRow s → (layout_in part).sector_of (pointer.first + s.row) s.column ≡ rows.first + s.row
  row_at s r = ap ((layout_in part).sector_of (pointer.first + s.row)) r.column_is ∙ sector_row s.row r.row

  puts_column : (pieces : Pieces) (columns : List (List ℕ)) → ArePieces part.geometry.props.sector part.geometry.g pointer.stripes columns (key_of pointer) pieces → bytes ≡ column_at columns c → (x y : Told)
      → Wrote slots rows (length (arms_of slots rows.slot)) bytes landing.landed x y → PutsColumn (layout_in part) w.core (key_of pointer) block c landing.landed pieces x y
  puts_column pieces columns are of_column x y wrote = record {
    writes = record { named = written_below slots rows (length (arms_of slots rows.slot)); lies = lies_there; others = wrote.leaves };
    landed_there = λ s at. subst (λ o. IsSome o) (sym (landed_reads s (landed_row s at))) refl;
    landed_reads = λ s at known. (let r = landed_row s at in
        landed_reads s r ∙ ap Some (ap₂ (λ size column. row_bytes size column s.row) rows_are.size_is of_column)
        ∙ sym (are c s.row column r.row) ∙ (λ i. pieces (sym r.key_is i) (sym r.column_is i) s.row));
    landed_harm = λ s at. (let r = landed_row s at in
        ap (y.harmed s.leaf) (row_at s r) ∙ wrote.whole are_apart r.k s.leaf s.row s.arm r.below r.named r.landed r.on (let less = r.row in let count = rows_are.count_is in omega (arith, less, count)));
  }
    where
      landed_reads : (s : Segment) → IsRow s → y.reads s.leaf ((layout_in part).sector_of (pointer.first + s.row) s.column) ≡ Some (row_bytes rows.size bytes s.row)
      landed_reads s r =
          ap (y.reads s.leaf) (row_at s r) ∙ wrote.stand are_apart r.k s.leaf s.arm r.below r.named r.landed r.on s.row (let less = r.row in let count = rows_are.count_is in omega (arith, less, count))

  -- what the rack did is what the event's call does
  pub put_acts : (pieces : Pieces) (columns : List (List ℕ)) → ArePieces part.geometry.props.sector part.geometry.g pointer.stripes columns (key_of pointer) pieces → bytes ≡ column_at columns c
      → (after : machine.State) (step : PutStep (layout_in part) w (key_of pointer) landing.landed landing.failed after)
      → OnBothTold o p (PutsColumn (layout_in part) w.core (key_of pointer) step.h step.c landing.landed pieces)
  put_acts pieces columns are of_column after step =
      let same : block ≡ step.h = some_same (w.core.held (key_of pointer)) block step.h held step.found in
      let of_stage : Writing c m ≡ Writing step.c step.m = ap (λ (h : Held). h.stage) same ∙ step.stage in
      let count : c ≡ step.c = put_of c m step.c step.m of_stage in
      subst (λ h. OnBothTold o p (PutsColumn (layout_in part) w.core (key_of pointer) h step.c landing.landed pieces)) same
      (subst (λ k. OnBothTold o p (PutsColumn (layout_in part) w.core (key_of pointer) block k landing.landed pieces)) count (told o p lands.told_is))
    where
      put_of : (a b d e : ℕ) → Writing a b ≡ Writing d e → a ≡ d
      put_of a b d e same = cc

      told : (o p : Option Told) → OnBothTold o p (Wrote slots rows (length (arms_of slots rows.slot)) bytes landing.landed) → OnBothTold o p (PutsColumn (layout_in part) w.core (key_of pointer) block c landing.landed pieces)
      told None p h = h
      told (Some x) None h = h
      told (Some x) (Some y) h = puts_column pieces columns are of_column x y h
