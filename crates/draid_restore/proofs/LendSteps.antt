-- A block is lent as the state machine says.
use Rattle.std.proofs.Common.{arith, ◌≡◌, ◌==◌, ◌+◌, ◌-◌, ◌<◌, ◌≤◌, ◌++◌, ◌∷◌, ◌&&◌, ◌∙◌, not, [], ℕ, zero, suc, Bool, true, false, List, Option, None, Some, refl, sym, ap, ap₂, subst, inl, inr, filter, length, map, option_map, slice_get, if◌then◌else◌}
use Rattle.std.specs.Prelude.{Vec, find, slice_index_or}
use Rattle.std.specs.Option.{option_or}
use Rattle.std.specs.declared.alloc.Global.{Global}
use Rattle.std.proofs.lemmas.Bool.{cases_eq}
use Rattle.std.proofs.lemmas.Bool.Decides.{nat_tests}
use Rattle.draid_names.specs.declared.arm.Arm.{Arm}
use Rattle.draid_names.specs.declared.pass_kind.PassKind.TheVariants.{Heal}
use Rattle.draid_names.specs.declared.pointer.Pointer.{Pointer}
use Rattle.draid_machine.specs.After.{lend_state}
use Rattle.draid_machine.specs.Arms as arms
use Rattle.draid_machine.specs.Arms.{else_some, fails, is_clean, leaf_answers, leaf_at, logged, passes}
use Rattle.draid_machine.specs.Created.{IsReached}
use Rattle.draid_machine.specs.Names.{has_number, is_heal}
use Rattle.draid_machine.specs.State as machine
use Rattle.draid_machine.specs.Step as step
use Rattle.draid_machine.specs.Step.{IsChosen, IsNext, LendStep, ReadsThere}
use Rattle.draid_machine.specs.declared.names.ArmName.{ArmName}
use Rattle.draid_machine.specs.declared.names.Stage.{Stage}
use Rattle.draid_machine.proofs.Small.{absurd_test, equal, is_equal}
use Rattle.draid_entries.specs.Maps.{held_at, key_of, staged}
use Rattle.draid_slots.specs.Changes.{IsOf}
use Rattle.draid_slots.specs.Reading.{holder, is_online}
use Rattle.draid_slots.specs.States.{HasSlots, name_of}
use Rattle.draid_slots.specs.Table.{SlotTable, arm_at, arms_of, is_logged}
use Rattle.draid_shard.specs.Loans.{block_loan, read_at}
use Rattle.draid_shard.specs.Part.{IsPart, IsRun, Part, layout_in}
use Rattle.draid_shard.specs.Rows.{IsRowsOf, answers_on, arm_no, leaf_on}
use Rattle.draid_shard.specs.declared.loan.LandingRoom.{LandingRoom}
use Rattle.draid_shard.specs.declared.loan.LentBlock.{LentBlock}
use Rattle.draid_shard.specs.declared.loan.ReadArm.{ReadArm}
use Rattle.draid_shard.specs.declared.loan.ReadingRoom.{ReadingRoom}
use Rattle.draid_shard.specs.declared.loan.Spot.{Spot}
use Rattle.draid_shard.specs.declared.places.ColumnRows.{ColumnRows}
use Rattle.draid_shard.proofs.Answering.{answers_is, leaf_at_is, order_is}
use Rattle.draid_restore.specs.Reading.{chosen_of, is_clean_of, is_of, read_of, reading_of, unless_failed}
use Rattle.draid_shard.specs.Spots.{AreSpots, rows_at, spot_if, spots_below, spots_from, spots_in}
use Rattle.draid_restore.proofs.ArmsRead.{reading_there}
use Rattle.draid_shard.proofs.Straight.{straight}
use Rattle.draid_shard.proofs.Listed.{StandFrom, comes, spot_at, stand_behind, stand_here}

-- ---- lists
filter_append : {X : Type 0} (p : X → Bool) (xs ys : List X) → filter p (xs ++ ys) ≡ filter p xs ++ filter p ys
filter_append p [] ys = refl
filter_append p (x ∷ xs) ys = by (p x) (filter_append p xs ys)
  where
    by : (b : Bool) → filter p (xs ++ ys) ≡ filter p xs ++ filter p ys → (if b then x ∷ filter p (xs ++ ys) else filter p (xs ++ ys)) ≡ (if b then x ∷ filter p xs else filter p xs) ++ filter p ys
    by true e = ap (λ zs. x ∷ zs) e
    by false e = e

filter_all : {X : Type 0} (p : X → Bool) (xs : List X) → ((k : ℕ) (x : X) → slice_get xs k ≡ Some x → p x ≡ true) → filter p xs ≡ xs
filter_all p [] each = refl
filter_all p (x ∷ xs) each = ap (λ b. if b then x ∷ filter p xs else filter p xs) (each zero x refl) ∙ ap (λ zs. x ∷ zs) (filter_all p xs (λ k y at. each (suc k) y at))

filter_none : {X : Type 0} (p : X → Bool) (xs : List X) → ((k : ℕ) (x : X) → slice_get xs k ≡ Some x → p x ≡ false) → filter p xs ≡ []
filter_none p [] each = refl
filter_none p (x ∷ xs) each = ap (λ b. if b then x ∷ filter p xs else filter p xs) (each zero x refl) ∙ filter_none p xs (λ k y at. each (suc k) y at)

append_none : {X : Type 0} (xs : List X) → xs ++ [] ≡ xs
append_none [] = refl
append_none (x ∷ xs) = ap (λ zs. x ∷ zs) (append_none xs)

-- what passes two tests
find_both : (p q : Spot → Bool) (xs : List Spot) → find (λ s. p s && q s) xs ≡ find q (filter p xs)
find_both p q [] = refl
find_both p q (x ∷ xs) = by (p x) (find_both p q xs)
  where
    by : (b : Bool) → find (λ s. p s && q s) xs ≡ find q (filter p xs) → (if b && q x then Some x else find (λ s. p s && q s) xs) ≡ find q (if b then x ∷ filter p xs else filter p xs)
    by true e = ap (λ o. if q x then Some x else o) e
    by false e = e

find_one : (p : Spot → Bool) (xs : List Spot) → find p xs ≡ find (λ s. true) (filter p xs)
find_one p [] = refl
find_one p (x ∷ xs) = by (p x) (find_one p xs)
  where
    by : (b : Bool) → find p xs ≡ find (λ s. true) (filter p xs) → (if b then Some x else find p xs) ≡ find (λ s. true) (if b then x ∷ filter p xs else filter p xs)
    by true e = refl
    by false e = e

module _ (failed : List ℕ) (c : ℕ) where
  abbrev sound : Spot → Bool
  sound s = not (has_number failed s.leaf)

  abbrev named : List Spot → List ArmName
  named xs = map (λ (s : Spot). s.arm) xs

  abbrev listed : List Spot → List ReadArm
  listed xs = map (λ (spot : Spot). record { column = spot.column; arm = spot.arm }) xs

  abbrev of_column : List ReadArm → List ArmName
  of_column xs = map (λ (one : ReadArm). one.arm) (filter (λ (one : ReadArm). one.column == c) xs)

  module _ (x : Spot) (xs : List Spot) where
    lost : (d : Bool) → sound x ≡ false → named (filter sound (filter (is_of c) xs)) ≡ named (filter sound (if d then x ∷ filter (is_of c) xs else filter (is_of c) xs))
    lost false e = refl
    lost true e = sym (ap (λ b. named (if b then x ∷ filter sound (filter (is_of c) xs) else filter sound (filter (is_of c) xs))) e)

    kept : (d : Bool) → sound x ≡ true → of_column (listed (filter sound xs)) ≡ named (filter sound (filter (is_of c) xs))
        → map (λ (one : ReadArm). one.arm)
        (if d then record { column = x.column; arm = x.arm } ∷ filter (λ (one : ReadArm). one.column == c) (listed (filter sound xs)) else filter (λ (one : ReadArm). one.column == c) (listed (filter sound xs)))
        ≡ named (filter sound (if d then x ∷ filter (is_of c) xs else filter (is_of c) xs))
    kept false e before = before
    kept true e before = ap (λ ns. x.arm ∷ ns) before ∙ sym (ap (λ b. named (if b then x ∷ filter sound (filter (is_of c) xs) else filter sound (filter (is_of c) xs))) e)

    one_more : (b : Bool) → sound x ≡ b → of_column (listed (filter sound xs)) ≡ named (filter sound (filter (is_of c) xs))
        → of_column (listed (if b then x ∷ filter sound xs else filter sound xs)) ≡ named (filter sound (filter (is_of c) (x ∷ xs)))
    one_more true e before = kept (x.column == c) e before
    one_more false e before = before ∙ lost (x.column == c) e

  -- the arms of a column among those that were read
  read_column : (xs : List Spot) → read_at (read_of xs failed) c ≡ named (filter sound (filter (is_of c) xs))
  read_column [] = refl
  read_column (x ∷ xs) = one_more x xs (sound x) refl (read_column xs)

-- ---- the arms of a column

module _ (slots : SlotTable) (rows : ColumnRows) (c : ℕ) (failed : List ℕ) (lies : ArmName → Option ℕ) (answers clean : ArmName → Bool)
    (lies_is : (k : ℕ) (a : Arm) → arm_at slots (arm_no rows k) ≡ Some a → lies (name_of a) ≡ leaf_on slots rows k)
    (answers_are : (k : ℕ) (a : Arm) → arm_at slots (arm_no rows k) ≡ Some a → answers (name_of a) ≡ answers_on slots rows k)
    (clean_is : (k : ℕ) (a : Arm) → arm_at slots (arm_no rows k) ≡ Some a → clean (name_of a) ≡ not (is_logged slots (arm_no rows k) rows.birth)) where
  abbrev is_read : ArmName → Bool
  is_read n = answers n && not (passes (lies n) (has_number failed))

  abbrev is_good : ArmName → Bool
  is_good n = answers n && clean n

  module _ (k : ℕ) (a : Arm) (there : arm_at slots (arm_no rows k) ≡ Some a) (tail : List Spot) (rest : List ArmName) where
    abbrev n : ArmName
    n = name_of a

    abbrev head : List Spot
    head = spot_if rows c (answers_on slots rows k) (not (is_logged slots (arm_no rows k) rows.birth)) a (holder slots (arm_no rows k) rows.slice)

    read_head : filter is_read rest ≡ named failed c (filter (sound failed c) tail) → filter is_read (n ∷ rest) ≡ named failed c (filter (sound failed c) (head ++ tail))
    read_head before = by (holder slots (arm_no rows k) rows.slice) refl (answers_on slots rows k) refl
      where
        start : (b : Bool) (o : Option ℕ) → answers_on slots rows k ≡ b → leaf_on slots rows k ≡ o
            → filter is_read (n ∷ rest) ≡ (if b && not (passes o (has_number failed)) then n ∷ filter is_read rest else filter is_read rest)
        start b o is on =
            λ i. if (answers_are k a there ∙ is) i && not (passes ((lies_is k a there ∙ on) i) (has_number failed)) then n ∷ filter is_read rest else filter is_read rest

        last : (leaf : Arm) (b : Bool) → (if b then n ∷ filter is_read rest else filter is_read rest)
            ≡ named failed c (if b then spot_at rows c (not (is_logged slots (arm_no rows k) rows.birth)) a leaf ∷ filter (sound failed c) tail else filter (sound failed c) tail)
        last leaf true = ap (λ ns. n ∷ ns) before
        last leaf false = before

        by : (o : Option Arm) → holder slots (arm_no rows k) rows.slice ≡ o → (b : Bool) → answers_on slots rows k ≡ b
            → filter is_read (n ∷ rest) ≡ named failed c (filter (sound failed c) (spot_if rows c b (not (is_logged slots (arm_no rows k) rows.birth)) a o ++ tail))
        by None holds b is = start false None (ap is_online holds) (ap (option_map (λ (a : Arm). a.number)) holds) ∙ before
        by (Some leaf) holds false is = start false (Some leaf.number) is (ap (option_map (λ (a : Arm). a.number)) holds) ∙ before
        by (Some leaf) holds true is = start true (Some leaf.number) is (ap (option_map (λ (a : Arm). a.number)) holds) ∙ last leaf (not (has_number failed leaf.number))

    good_head : find is_good rest ≡ option_map (λ (s : Spot). s.arm) (find (λ (s : Spot). s.clean) tail) → find is_good (n ∷ rest) ≡ option_map (λ (s : Spot). s.arm) (find (λ (s : Spot). s.clean) (head ++ tail))
    good_head before = by (holder slots (arm_no rows k) rows.slice) refl (answers_on slots rows k) refl
      where
        cl : Bool
        cl = not (is_logged slots (arm_no rows k) rows.birth)

        start : (b : Bool) → answers_on slots rows k ≡ b → find is_good (n ∷ rest) ≡ (if b && not (is_logged slots (arm_no rows k) rows.birth) then Some n else find is_good rest)
        start b is = λ i. if (answers_are k a there ∙ is) i && clean_is k a there i then Some n else find is_good rest

        last : (leaf : Arm) (b : Bool) → (if b then Some n else find is_good rest) ≡ option_map (λ (s : Spot). s.arm) (if b then Some (spot_at rows c (not (is_logged slots (arm_no rows k) rows.birth)) a leaf) else find (λ (s : Spot). s.clean) tail)
        last leaf true = refl
        last leaf false = before

        by : (o : Option Arm) → holder slots (arm_no rows k) rows.slice ≡ o → (b : Bool) → answers_on slots rows k ≡ b
            → find is_good (n ∷ rest) ≡ option_map (λ (s : Spot). s.arm) (find (λ (s : Spot). s.clean) (spot_if rows c b (not (is_logged slots (arm_no rows k) rows.birth)) a o ++ tail))
        by None holds b is = start false (ap is_online holds) ∙ before
        by (Some leaf) holds false is = start false is ∙ before
        by (Some leaf) holds true is = start true is ∙ last leaf (not (is_logged slots (arm_no rows k) rows.birth))

    first_head : find answers rest ≡ option_map (λ (s : Spot). s.arm) (find (λ (s : Spot). true) tail) → find answers (n ∷ rest) ≡ option_map (λ (s : Spot). s.arm) (find (λ (s : Spot). true) (head ++ tail))
    first_head before = by (holder slots (arm_no rows k) rows.slice) refl (answers_on slots rows k) refl
      where
        start : (b : Bool) → answers_on slots rows k ≡ b → find answers (n ∷ rest) ≡ (if b then Some n else find answers rest)
        start b is = λ i. if (answers_are k a there ∙ is) i then Some n else find answers rest

        by : (o : Option Arm) → holder slots (arm_no rows k) rows.slice ≡ o → (b : Bool) → answers_on slots rows k ≡ b
            → find answers (n ∷ rest) ≡ option_map (λ (s : Spot). s.arm) (find (λ (s : Spot). true) (spot_if rows c b (not (is_logged slots (arm_no rows k) rows.birth)) a o ++ tail))
        by None holds b is = start false (ap is_online holds) ∙ before
        by (Some leaf) holds false is = start false is ∙ before
        by (Some leaf) holds true is = start true is

  pub read_from : (k : ℕ) (xs : List Arm) → StandFrom slots rows c k xs → filter is_read (map name_of xs) ≡ named failed c (filter (sound failed c) (spots_from slots rows c k xs))
  read_from k [] stand = refl
  read_from k (a ∷ xs) stand =
      read_head k a (stand_here slots rows c k a xs stand) (spots_from slots rows c (k + 1) xs) (map name_of xs) (read_from (k + 1) xs (stand_behind slots rows c k a xs stand))

  pub good_from : (k : ℕ) (xs : List Arm) → StandFrom slots rows c k xs → find is_good (map name_of xs) ≡ option_map (λ (s : Spot). s.arm) (find (λ (s : Spot). s.clean) (spots_from slots rows c k xs))
  good_from k [] stand = refl
  good_from k (a ∷ xs) stand =
      good_head k a (stand_here slots rows c k a xs stand) (spots_from slots rows c (k + 1) xs) (map name_of xs) (good_from (k + 1) xs (stand_behind slots rows c k a xs stand))

  pub first_from : (k : ℕ) (xs : List Arm) → StandFrom slots rows c k xs → find answers (map name_of xs) ≡ option_map (λ (s : Spot). s.arm) (find (λ (s : Spot). true) (spots_from slots rows c k xs))
  first_from k [] stand = refl
  first_from k (a ∷ xs) stand =
      first_head k a (stand_here slots rows c k a xs stand) (spots_from slots rows c (k + 1) xs) (map name_of xs) (first_from (k + 1) xs (stand_behind slots rows c k a xs stand))

-- ---- the spots of a column

module _ (part : Part) (slots : SlotTable) (pointer : Pointer) where
  abbrev rows_no : ℕ → ColumnRows
  rows_no c = rows_at part pointer c

  pub stand_all : (c : ℕ) → StandFrom slots (rows_no c) c 0 (arms_of slots (rows_no c).slot)
  stand_all c i a at = subst (λ n. arm_at slots (arm_no (rows_no c) n) ≡ Some a) (let same : i ≡ 0 + i = omega arith in same) at

  own_column : (c j : ℕ) (spot : Spot) → slice_get (spots_in slots (rows_no c) c) j ≡ Some spot → spot.column ≡ c
  own_column c j spot at = ap (λ (s : Spot). s.column) (comes slots (rows_no c) c 0 (arms_of slots (rows_no c).slot) (stand_all c) j spot at).is

  other_column : (c d j : ℕ) (spot : Spot) → slice_get (spots_in slots (rows_no d) d) j ≡ Some spot → (d ≡ c → ⊥) → is_of c spot ≡ false
  other_column c d j spot at differs = elim (cases_eq spot.column c) [
    | inl same ↦ absurd (differs (sym (own_column d j spot at) ∙ same))
    | inr no_match ↦ by (spot.column == c) refl no_match
  ]
    where
      by : (b : Bool) → (spot.column == c) ≡ b → (spot.column ≡ c → ⊥) → (spot.column == c) ≡ false
      by true e out = absurd (out (is_equal spot.column c e))
      by false e out = e

  none_yet : (c count : ℕ) → count ≤ c → filter (is_of c) (spots_below part slots pointer count) ≡ []
  none_yet c zero le = refl
  none_yet c (suc count) le =
      filter_append (is_of c) (spots_below part slots pointer count) (spots_in slots (rows_no count) count)
      ∙ ap₂ (λ (xs ys : List Spot). xs ++ ys) (none_yet c count (omega (arith, le))) (filter_none (is_of c) (spots_in slots (rows_no count) count) (λ k x at. other_column c count k x at (λ e. omega (arith, le, e))))

  pub column_filter : (c count : ℕ) → c < count → filter (is_of c) (spots_below part slots pointer count) ≡ spots_in slots (rows_no c) c
  column_filter c zero less = absurd (omega (arith, less))
  column_filter c (suc count) less = elim (cases_eq c count) [
    | inl same ↦
        filter_append (is_of c) (spots_below part slots pointer count) (spots_in slots (rows_no count) count)
        ∙ ap₂ (λ (xs ys : List Spot). xs ++ ys) (none_yet c count (omega (arith, same)))
        (ap (λ d. filter (is_of c) (spots_in slots (rows_no d) d)) (sym same)
        ∙ filter_all (is_of c) (spots_in slots (rows_no c) c) (λ k x at. equal x.column c (own_column c k x at)))
    | inr other ↦
        filter_append (is_of c) (spots_below part slots pointer count) (spots_in slots (rows_no count) count)
        ∙ ap₂ (λ (xs ys : List Spot). xs ++ ys) (column_filter c count (omega (arith, less, other)))
        (filter_none (is_of c) (spots_in slots (rows_no count) count) (λ k x at. other_column c count k x at (λ e. other (sym e))))
        ∙ append_none (spots_in slots (rows_no c) c)
  ]

-- ---- the step

index_past : {X : Type 0} (xs : List X) (k : ℕ) (d : X) → length xs ≤ k → slice_index_or xs k d ≡ d
index_past [] k d past = refl
index_past (x ∷ xs) zero d past = absurd (omega (arith, past))
index_past (x ∷ xs) (suc k) d past = index_past xs k d (omega (arith, past))

else_mapped : (a b : Option Spot) → else_some (option_map (λ (s : Spot). s.arm) a) (option_map (λ (s : Spot). s.arm) b) ≡ option_map (λ (s : Spot). s.arm) (option_or a b)
else_mapped None b = refl
else_mapped (Some x) b = refl

-- what a lend keeps of a block
abbrev pub lent_of : ℕ → ℕ → Pointer → Vec ReadArm Global → Vec (Option ArmName) Global → Vec (Option (Vec ℕ Global)) Global → LandingRoom → ReadingRoom → LentBlock
lent_of serial stripe pointer read chosen columns room aside =
    record { serial = serial; stripe = stripe; pointer = pointer; read = read; chosen = chosen; columns = columns; restored = None; room = room; aside = aside }

module _ (part : Part) (slots : SlotTable) (w : machine.State) (pointer : Pointer) (stage : Stage) (spots : List Spot) (is : IsPart part) (of : IsOf slots part.geometry part.perms part.number)
    (reached : IsReached (layout_in part) w) (has : HasSlots slots w.core) (run : IsRun part.geometry pointer.first pointer.stripes)
    (listed_are : spots ≡ spots_below part slots pointer part.geometry.g) (are : AreSpots (layout_in part) w.core (held_at (staged stage pointer)) spots)
    (p : machine.Pass) (pass : w.core.pass ≡ Some p) (kind : p.kind ≡ Heal) (running : p.running ≡ true) (stripe : ℕ) (next : IsNext w.core p (key_of pointer) (held_at (staged stage pointer)) stripe)
    (failed : List ℕ) (serial : ℕ) (serial_is : serial ≡ w.serial + 1) (read : Vec ReadArm Global) (read_is : read.items ≡ read_of spots failed) (chosen : Vec (Option ArmName) Global)
    (many : length chosen.items ≡ part.geometry.g) (chosen_is : (c : ℕ) → c < part.geometry.g → slice_index_or chosen.items c None ≡ chosen_of spots failed c)
    (columns : Vec (Option (Vec ℕ Global)) Global) (room : LandingRoom) (aside : ReadingRoom)
    (fail : (leaf : ℕ) → has_number failed leaf ≡ true → (k : ℕ) × (spot : Spot) × (k < length spots) × (slice_get spots k ≡ Some spot) × (spot.leaf ≡ leaf)) where
  abbrev l : machine.Layout
  l = layout_in part

  abbrev q : machine.Core
  q = w.core

  abbrev loan : machine.Loan
  loan = block_loan (lent_of serial stripe pointer read chosen columns room aside)

  heal : is_heal p.kind ≡ true
  heal = ap is_heal kind

  own_rows : (c : ℕ) → IsRowsOf part pointer c (rows_at part pointer c)
  own_rows c = record { slot_is = refl; first_is = refl; count_is = refl; size_is = refl; birth_is = refl; slice_is = refl }

  low : pointer.first ≤ stripe
  low = let taken = next.taken in grind (arith, nat_tests, taken)

  high : stripe < pointer.first + pointer.stripes
  high = let taken = next.taken in grind (arith, nat_tests, taken)

  leaf_same : (n : ArmName) → leaf_at l q.order n stripe ≡ leaf_at l q.order n pointer.first
  leaf_same n =
      let lies_straight = straight part q (held_at (staged stage pointer)) is run in
      let from = low in
      let to = high in
      ap (leaf_at l q.order n) (let same : stripe ≡ pointer.first + (stripe - pointer.first) = omega (arith, from) in same) ∙ lies_straight.leaves n (stripe - pointer.first) (omega (arith, from, to))

  -- ---- one column
  module _ (c : ℕ) (less : c < part.geometry.g) where
    abbrev rows : ColumnRows
    rows = rows_at part pointer c

    abbrev own : List Arm
    own = arms_of slots rows.slot

    order : q.order (l.slot_of pointer.first c) ≡ map name_of own
    order = order_is part is slots of w reached has pointer run c less rows (own_rows c)

    spots_c : filter (is_of c) spots ≡ spots_in slots rows c
    spots_c = ap (filter (is_of c)) listed_are ∙ column_filter part slots pointer c part.geometry.g less

    first_lies : (k : ℕ) (a : Arm) → arm_at slots (arm_no rows k) ≡ Some a → leaf_at l q.order (name_of a) pointer.first ≡ leaf_on slots rows k
    first_lies k a there = leaf_at_is part is slots of w reached has pointer run c less rows (own_rows c) k a there

    first_answers : (k : ℕ) (a : Arm) → arm_at slots (arm_no rows k) ≡ Some a → arms.answers l q (name_of a) pointer.first ≡ answers_on slots rows k
    first_answers k a there = answers_is part is slots of w reached has pointer run c less rows (own_rows c) k a there

    own_clean : (k : ℕ) (a : Arm) → arm_at slots (arm_no rows k) ≡ Some a → is_clean q pointer.birth (name_of a) ≡ not (is_logged slots (arm_no rows k) rows.birth)
    own_clean k a there = ap (λ o. not (logged o pointer.birth)) (has.arms (arm_no rows k) a there)

    read_right : read_at read.items c ≡ filter (λ n. arms.answers l q n stripe && not (fails l q failed n stripe)) (q.order (l.slot_of pointer.first c))
    read_right =
        ap (λ list. read_at list c) read_is ∙ read_column failed c spots ∙ ap (λ list. named failed c (filter (sound failed c) list)) spots_c
        ∙ sym (read_from slots rows c failed (λ n. leaf_at l q.order n stripe) (λ n. arms.answers l q n stripe) (is_clean q pointer.birth)
        (λ k a there. leaf_same (name_of a) ∙ first_lies k a there) (λ k a there. ap (λ o. passes o (leaf_answers q)) (leaf_same (name_of a)) ∙ first_answers k a there) own_clean 0 own (stand_all part slots pointer c))
        ∙ ap (filter (λ n. arms.answers l q n stripe && not (fails l q failed n stripe))) (sym order)

    reading_right : arms.reading l q (held_at (staged stage pointer)) c ≡ option_map (λ (s : Spot). s.arm) (reading_of spots c)
    reading_right =
        ap (λ ns. else_some (find (λ n. arms.answers l q n pointer.first && is_clean q pointer.birth n) ns) (find (λ n. arms.answers l q n pointer.first) ns)) order
        ∙ ap₂ else_some
        (good_from slots rows c failed (λ n. leaf_at l q.order n pointer.first) (λ n. arms.answers l q n pointer.first) (is_clean q pointer.birth) first_lies first_answers own_clean 0 own (stand_all part slots pointer c)
        ∙ ap (λ list. option_map (λ (s : Spot). s.arm) (find (λ (s : Spot). s.clean) list)) (sym spots_c) ∙ ap (option_map (λ (s : Spot). s.arm)) (sym (find_both (is_of c) (λ (s : Spot). s.clean) spots)))
        (first_from slots rows c failed (λ n. leaf_at l q.order n pointer.first) (λ n. arms.answers l q n pointer.first) (is_clean q pointer.birth) first_lies first_answers own_clean 0 own (stand_all part slots pointer c)
        ∙ ap (λ list. option_map (λ (s : Spot). s.arm) (find (λ (s : Spot). true) list)) (sym spots_c) ∙ ap (option_map (λ (s : Spot). s.arm)) (sym (find_one (is_of c) spots)))
        ∙ else_mapped (find (is_clean_of c) spots) (find (is_of c) spots)

    unless_right : (o : Option Spot) → reading_of spots c ≡ o → unless_failed failed o ≡ step.unless_failed l q stripe failed (option_map (λ (s : Spot). s.arm) o)
    unless_right None at = refl
    unless_right (Some s) at =
        let z = reading_there spots c s at in
        sym (ap (λ o. if passes o (has_number failed) then None else Some s.arm) (leaf_same s.arm ∙ (are.each z.0 s z.1).lies))

    chosen_right : IsChosen l q p (held_at (staged stage pointer)) stripe failed c (slice_index_or chosen.items c None)
    chosen_right = record {
      from = arms.reading l q (held_at (staged stage pointer)) c;
      rebuild = λ not_heal. absurd_test (is_heal p.kind) heal not_heal;
      heal = λ e. refl;
      chosen_is = chosen_is c less ∙ unless_right (reading_of spots c) refl ∙ ap (step.unless_failed l q stripe failed) (sym reading_right);
    }

  none_read : (c : ℕ) → part.geometry.g ≤ c → read_at read.items c ≡ []
  none_read c past =
      ap (λ list. read_at list c) read_is ∙ read_column failed c spots
      ∙ ap (λ list. named failed c (filter (sound failed c) list)) (ap (filter (is_of c)) listed_are ∙ none_yet part slots pointer c part.geometry.g past)

  reads_there : (leaf : ℕ) → has_number failed leaf ≡ true → ReadsThere l q p (held_at (staged stage pointer)) stripe leaf
  reads_there leaf at =
      let z = fail leaf at in
      let s = are.each z.0 z.1 z.3 in
      let lies : leaf_at l q.order z.1.arm stripe ≡ Some z.1.leaf = leaf_same z.1.arm ∙ s.lies in
      record {
        c = z.1.column;
        n = z.1.arm;
        column = s.column;
        rebuild = λ not_heal. absurd_test (is_heal p.kind) heal not_heal;
        heal = λ e. (s.listed, ap (λ o. passes o (leaf_answers q)) lies ∙ s.answers);
        lies = lies ∙ ap Some z.4;
      }

  pub lend_step : LendStep l w failed (lend_state w p loan failed)
  lend_step = record {
    p = p;
    h = held_at (staged stage pointer);
    n = loan;
    pass = pass;
    running = running;
    next = next;
    serial = serial_is;
    chosen = chosen_right;
    no_more = λ c past. index_past chosen.items c None (let all = many in omega (arith, all, past));
    read = λ c less. read_right c less ∙ sym (ap (λ b. if b then filter (λ n. arms.answers l q n stripe && not (fails l q failed n stripe)) (q.order (l.slot_of pointer.first c)) else step.to_list (slice_index_or chosen.items c None)) heal);
    read_none = none_read;
    fail = reads_there;
    made = refl;
  }
