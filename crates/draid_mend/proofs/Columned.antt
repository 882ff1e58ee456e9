-- One more column of a stripe lands.
use Rattle.std.proofs.Common.{arith, ◌≡◌, ◌==◌, ◌+◌, ◌<◌, ◌≤◌, ◌*◌, ◌∙◌, ◌&&◌, ◌++◌, ℕ, zero, suc, Bool, true, false, List, [], ◌∷◌, Option, Some, None, refl, sym, ap, subst, inl, inr, length, set, slice_get, take}
use Rattle.std.specs.Prelude.{slice_index_or}
use Rattle.std.proofs.Math.Nat.{mul-le-mul_right}
use Rattle.std.proofs.lemmas.List.{take_more_set}
use Rattle.std.proofs.lemmas.Bool.{cases_lt}
use Rattle.draid_spec.specs.Geometry.{slice_at}
use Rattle.draid_names.specs.declared.arm.ArmAt.{ArmAt}
use Rattle.draid_names.specs.declared.arm.At.{At}
use Rattle.draid_names.specs.declared.pointer.Pointer.{Pointer}
use Rattle.draid_machine.specs.Arms.{passes}
use Rattle.draid_machine.specs.Names.{has_number}
use Rattle.draid_machine.proofs.Small.{absurd_test, bool_cases, either_true, is_equal}
use Rattle.draid_parity.specs.Columns.{column_at}
use Rattle.draid_rack.specs.Rack.{OnBothTold, Told}
use Rattle.draid_rack.proofs.Moments.{leaves_more, leaves_on, leaves_self}
use Rattle.draid_slots.specs.Table.{SlotTable}
use Rattle.draid_shard.specs.Part.{Part, layout_in}
use Rattle.draid_shard.specs.Rows.{IsRowsOf, answers_on, leaf_on}
use Rattle.draid_shard.specs.States.{part_of}
use Rattle.draid_shard.specs.declared.loan.Source.{Source}
use Rattle.draid_shard.specs.declared.places.ColumnRows.{ColumnRows}
use Rattle.draid_shard.specs.declared.shard.Shard.{Shard}
use Rattle.draid_mend.specs.Mending.{at_sector}
use Rattle.draid_mend.specs.Stripes.{AnswerBelow, AreColumnsApart, FailsColumns, KeepsColumn, LandsBelow, landed_below, own_or_all, rows_at, source_at, sources_below, sources_for}
use Rattle.draid_mend.specs.Targets.{AllAnswer, AreFree, AreThere, FailsBelow, KeepsAt, MendsBelow, StandsMended, is_mended_on, mended_below}
use Rattle.draid_mend.proofs.Targeted.{fails_elsewhere, mends_elsewhere, or_left, or_right, taints_stay}

-- the rows that a shard finds are these
pub rows_are : (part : Part) (pointer : Pointer) (c : ℕ) (rows : ColumnRows) → IsRowsOf part pointer c rows → rows ≡ rows_at part pointer c
rows_are part pointer c rows of = λ i. record {
  slot = of.slot_is i;
  slice = (of.slice_is ∙ ap (slice_at part.geometry) of.first_is) i;
  first = of.first_is i;
  count = of.count_is i;
  size = of.size_is i;
  birth = of.birth_is i;
}

pub rows_own : (part : Part) (pointer : Pointer) (c : ℕ) → IsRowsOf part pointer c (rows_at part pointer c)
rows_own part pointer c = record { slot_is = refl; first_is = refl; count_is = refl; size_is = refl; birth_is = refl; slice_is = refl }

-- ---- a sector of the row on a target is on a target's leaf
pub and_left : (a b : Bool) → (a && b) ≡ true → a ≡ true
and_left true b e = refl
and_left false b e = e

pub and_right : (a b : Bool) → (a && b) ≡ true → b ≡ true
and_right true b e = e
and_right false b e = absurd_test false e refl

pub finds : (slots : SlotTable) (rows : ColumnRows) (targets : List ArmAt) (count leaf sector : ℕ) → mended_below slots rows targets count leaf sector ≡ true → KeepsAt slots rows targets count leaf
finds slots rows targets zero leaf sector is = absurd_test false is refl
finds slots rows targets (suc n) leaf sector is =
    elim (either_true (mended_below slots rows targets n leaf sector) (is_mended_on slots rows (slice_get targets n) leaf sector) is) [
      | inl before ↦ more (finds slots rows targets n leaf sector before)
      | inr here ↦ by (slice_get targets n) refl here
    ]
  where
    more : KeepsAt slots rows targets n leaf → KeepsAt slots rows targets (suc n) leaf
    more h = record { k = h.k; at = h.at; below = (let less = h.below in omega (arith, less)); there = h.there; slot = h.slot; answers = h.answers; lies = h.lies }

    on : (o : Option ℕ) → passes o (λ m. at_sector m rows.first leaf sector) ≡ true → o ≡ Some leaf
    on None it = absurd_test false it refl
    on (Some m) it = ap Some (sym (is_equal leaf m (and_left (leaf == m) (sector == rows.first) it)))

    by : (o : Option ArmAt) → slice_get targets n ≡ o → is_mended_on slots rows o leaf sector ≡ true → KeepsAt slots rows targets (suc n) leaf
    by None e it = absurd_test false it refl
    by (Some at) e it =
        let rest = and_right (at.slot == rows.slot) (answers_on slots rows at.arm && passes (leaf_on slots rows at.arm) (λ m. at_sector m rows.first leaf sector)) it in
        record {
          k = n;
          at = at;
          below = omega arith;
          there = e;
          slot = is_equal at.slot rows.slot (and_left (at.slot == rows.slot) (answers_on slots rows at.arm && passes (leaf_on slots rows at.arm) (λ m. at_sector m rows.first leaf sector)) it);
          answers = and_left (answers_on slots rows at.arm) (passes (leaf_on slots rows at.arm) (λ m. at_sector m rows.first leaf sector)) rest;
          lies = on (leaf_on slots rows at.arm) (and_right (answers_on slots rows at.arm) (passes (leaf_on slots rows at.arm) (λ m. at_sector m rows.first leaf sector)) rest);
        }

module _ (part : Part) (slots : SlotTable) (pointer : Pointer) (targets : List ArmAt) (columns : List (List ℕ)) (chosen : List (Option Source)) (n : ℕ) (low : n < part.geometry.g) (before failed : List ℕ) where
  abbrev rows : ColumnRows
  rows = rows_at part pointer n

  abbrev named : ℕ → ℕ → ℕ → Bool
  named count = landed_below part slots pointer targets count

  abbrev here : ℕ → ℕ → Bool
  here = mended_below slots rows targets (length targets)

  left : (l s : ℕ) → named (suc n) l s ≡ false → named n l s ≡ false
  left l s e = or_left (named n l s) (here l s) e

  right : (l s : ℕ) → named (suc n) l s ≡ false → here l s ≡ false
  right l s e = or_right (named n l s) (here l s) e

  module _ (mends_fail : FailsBelow slots rows targets (length targets) before failed) where
    not_before : (leaf : ℕ) → has_number failed leaf ≡ false → has_number before leaf ≡ false
    not_before leaf sound = elim (bool_cases (has_number before leaf)) [
      | inl had ↦ absurd_test (has_number failed leaf) (mends_fail.kept leaf had) sound
      | inr out ↦ out
    ]

    lands_more : (x y z : Told) → MendsBelow slots rows targets (length targets) (column_at columns n) (sources_for part pointer chosen n) failed y z → LandsBelow part slots pointer targets n columns chosen before x y
        → LandsBelow part slots pointer targets (suc n) columns chosen failed x z
    lands_more x y z m was = record {
      leaves = leaves_on (named (suc n)) x y z (leaves_more (named n) (named (suc n)) x y left was.leaves) (leaves_more here (named (suc n)) y z right m.leaves);
      each = λ apart free c leaf less keeps sound. elim (cases_lt c n) [
        | inl lower ↦ earlier apart free c leaf lower keeps sound
        | inr high ↦ (let same : n ≡ c = omega (arith, high, less) in latest apart free c leaf same keeps sound)
      ];
    } where
      earlier : AreColumnsApart part slots pointer targets → ((c : ℕ) → c < suc n → AreFree (named (suc n)) (sources_for part pointer chosen c)) → (c leaf : ℕ) → c < n → KeepsColumn part slots pointer targets c leaf
          → has_number failed leaf ≡ false → StandsMended leaf ((layout_in part).sector_of pointer.first c) (column_at columns c) (sources_for part pointer chosen c) x z
      earlier apart free c leaf lower keeps sound =
          let s : ℕ = (layout_in part).sector_of pointer.first c in
          let it = was.each apart (λ d less k a is. left a.leaf a.sector (free d (omega (arith, less)) k a is)) c leaf lower keeps (not_before leaf sound) in
          let out : here leaf s ≡ false = elim (bool_cases (here leaf s)) [
            | inl on ↦ absurd (let e = apart c n leaf (omega (arith, lower, low)) low keeps (finds slots rows targets (length targets) leaf s on) in omega (arith, e, lower))
            | inr off ↦ off
          ] in
          record { stands = m.leaves.only.reads leaf s out ∙ it.stands; harmed = m.leaves.harm leaf s out ∙ it.harmed }

      latest : AreColumnsApart part slots pointer targets → ((c : ℕ) → c < suc n → AreFree (named (suc n)) (sources_for part pointer chosen c)) → (c leaf : ℕ) → n ≡ c → KeepsColumn part slots pointer targets c leaf
          → has_number failed leaf ≡ false → StandsMended leaf ((layout_in part).sector_of pointer.first c) (column_at columns c) (sources_for part pointer chosen c) x z
      latest apart free c leaf same keeps sound =
          let of : KeepsColumn part slots pointer targets n leaf = subst (λ c. KeepsColumn part slots pointer targets c leaf) (sym same) keeps in
          let own : AreFree (named (suc n)) (sources_for part pointer chosen n) = free n (omega arith) in
          let it = m.each (λ k a is. right a.leaf a.sector (own k a is)) leaf of sound in
          subst (λ c. StandsMended leaf ((layout_in part).sector_of pointer.first c) (column_at columns c) (sources_for part pointer chosen c) x z) same
          (record { stands = it.stands; harmed = it.harmed ∙ taints_stay (named n) (sources_for part pointer chosen n) x y (λ k a is. left a.leaf a.sector (own k a is)) was.leaves })

    told_more : (s t u : Option Told) → OnBothTold t u (MendsBelow slots rows targets (length targets) (column_at columns n) (sources_for part pointer chosen n) failed) → OnBothTold s t (LandsBelow part slots pointer targets n columns chosen before)
        → OnBothTold s u (LandsBelow part slots pointer targets (suc n) columns chosen failed)
    told_more None None None m e = m
    told_more None None (Some z) m e = absurd (cc)
    told_more None (Some y) u m e = absurd (cc)
    told_more (Some x) None u m e = absurd e
    told_more (Some x) (Some y) None m e = absurd m
    told_more (Some x) (Some y) (Some z) m e = lands_more x y z m e

    fails_more : (first : List ℕ) → FailsColumns part slots pointer targets n first before → FailsColumns part slots pointer targets (suc n) first failed
    fails_more first was = record {
      kept = λ leaf has. mends_fail.kept leaf (was.kept leaf has);
      fail = λ leaf has out. elim (bool_cases (has_number before leaf)) [
        | inl had ↦ (let z = was.fail leaf had out in (z.0, (let less = z.1 in omega (arith, less)), z.2))
        | inr late ↦ (n, omega arith, mends_fail.fail leaf has late)
      ];
    }

-- with the rows, the column and the sources that the call had
module _ (part : Part) (slots : SlotTable) (pointer : Pointer) (targets : List ArmAt) (columns : List (List ℕ)) (chosen : List (Option Source)) (n : ℕ) (low : n < part.geometry.g) (before failed : List ℕ) (rows : ColumnRows) (of : IsRowsOf part pointer n rows)
    (fails : FailsBelow slots rows targets (length targets) before failed) where
  fails_here : FailsBelow slots (rows_at part pointer n) targets (length targets) before failed
  fails_here = subst (λ rows. FailsBelow slots rows targets (length targets) before failed) (rows_are part pointer n rows of) fails

  pub lands_next : (column : List ℕ) (sources : List At) (s t u : Option Told) → column ≡ column_at columns n → sources ≡ sources_for part pointer chosen n → OnBothTold t u (MendsBelow slots rows targets (length targets) column sources failed)
      → OnBothTold s t (LandsBelow part slots pointer targets n columns chosen before) → OnBothTold s u (LandsBelow part slots pointer targets (n + 1) columns chosen failed)
  lands_next column sources s t u column_is sources_are m was =
      let up : suc n ≡ n + 1 = omega arith in
      subst (λ k. OnBothTold s u (LandsBelow part slots pointer targets k columns chosen failed)) up
      (told_more part slots pointer targets columns chosen n low before failed fails_here s t u
      (subst (λ rows. OnBothTold t u (MendsBelow slots rows targets (length targets) (column_at columns n) (sources_for part pointer chosen n) failed)) (rows_are part pointer n rows of)
      (subst (λ column. OnBothTold t u (MendsBelow slots rows targets (length targets) column (sources_for part pointer chosen n) failed)) column_is
      (subst (λ sources. OnBothTold t u (MendsBelow slots rows targets (length targets) column sources failed)) sources_are m))) was)

  pub fails_next : (first : List ℕ) → FailsColumns part slots pointer targets n first before → FailsColumns part slots pointer targets (n + 1) first failed
  fails_next first was =
      let up : suc n ≡ n + 1 = omega arith in
      subst (λ k. FailsColumns part slots pointer targets k first failed) up (fails_more part slots pointer targets columns chosen n low before failed fails_here first was)

-- ---- no target is an arm of the next column's slot
module _ (part : Part) (slots : SlotTable) (pointer : Pointer) (targets : List ArmAt) (n : ℕ) (rows : ColumnRows) (of : IsRowsOf part pointer n rows) (other : (k : ℕ) (at : ArmAt) → slice_get targets k ≡ Some at → at.slot ≡ rows.slot → ⊥) where
  pub lands_past : (columns : List (List ℕ)) (chosen : List (Option Source)) (failed : List ℕ) → n < part.geometry.g → (s t : Option Told) → OnBothTold s t (LandsBelow part slots pointer targets n columns chosen failed)
      → OnBothTold s t (LandsBelow part slots pointer targets (n + 1) columns chosen failed)
  lands_past columns chosen failed low s t was =
      lands_next part slots pointer targets columns chosen n low failed failed rows of (fails_elsewhere slots rows targets (length targets) failed) (column_at columns n) (sources_for part pointer chosen n) s t t refl refl
      (mends_elsewhere slots rows targets (column_at columns n) (sources_for part pointer chosen n) failed t other (length targets) (omega arith)) was

  pub fails_past : (first failed : List ℕ) → FailsColumns part slots pointer targets n first failed → FailsColumns part slots pointer targets (n + 1) first failed
  fails_past first failed was = record { kept = was.kept; fail = λ leaf has out. (let z = was.fail leaf has out in let less = z.1 in (z.0, omega (arith, less), z.2)) }

  pub none_answers : AllAnswer slots rows targets (length targets)
  none_answers k at less here same = absurd (other k at here same)

-- the targets of one column's slot more answer
pub answer_next : (part : Part) (slots : SlotTable) (pointer : Pointer) (targets : List ArmAt) (n : ℕ) (rows : ColumnRows) → IsRowsOf part pointer n rows → AllAnswer slots rows targets (length targets)
    → AnswerBelow part slots pointer targets n → AnswerBelow part slots pointer targets (n + 1)
answer_next part slots pointer targets n rows of now was c less = elim (cases_lt c n) [
  | inl before ↦ was c before
  | inr past ↦ (
      let here : n ≡ c = omega (arith, past, less) in
      subst (λ k. AllAnswer slots (rows_at part pointer k) targets (length targets)) here (subst (λ r. AllAnswer slots r targets (length targets)) (rows_are part pointer n rows of) now)
      )
]

-- ---- no column yet
pub lands_none : (part : Part) (slots : SlotTable) (pointer : Pointer) (targets : List ArmAt) (columns : List (List ℕ)) (chosen : List (Option Source)) (failed : List ℕ) (o : Option Told) → OnBothTold o o (LandsBelow part slots pointer targets 0 columns chosen failed)
lands_none part slots pointer targets columns chosen failed None = refl
lands_none part slots pointer targets columns chosen failed (Some x) = record {
  leaves = leaves_self (landed_below part slots pointer targets 0) x;
  each = λ apart free c leaf less keeps sound. absurd (omega (arith, less));
}

pub no_fail : (part : Part) (slots : SlotTable) (pointer : Pointer) (targets : List ArmAt) (failed : List ℕ) → FailsColumns part slots pointer targets 0 failed failed
no_fail part slots pointer targets failed = record { kept = λ leaf has. has; fail = λ leaf has out. absurd_test (has_number failed leaf) has out }

-- ---- of what a column is made
pub own_source : (part : Part) (pointer : Pointer) (chosen : List (Option Source)) (c first : ℕ) (source : Source) → slice_index_or chosen c None ≡ Some source → first ≡ (layout_in part).sector_of pointer.first c
    → (record { leaf = source.leaf; sector = first } ∷ []) ≡ sources_for part pointer chosen c
own_source part pointer chosen c first source there is = (λ i. record { leaf = source.leaf; sector = is i } ∷ []) ∙ sym (ap (own_or_all part pointer chosen c) there)

pub all_sources : (part : Part) (pointer : Pointer) (chosen : List (Option Source)) (c : ℕ) → slice_index_or chosen c None ≡ None → sources_below part pointer chosen part.geometry.g ≡ sources_for part pointer chosen c
all_sources part pointer chosen c none = sym (ap (own_or_all part pointer chosen c) none)

append_none : (xs : List At) → xs ++ [] ≡ xs
append_none [] = refl
append_none (x ∷ xs) = ap (λ ys. x ∷ ys) (append_none xs)

-- one more source is listed, or none
module _ (part : Part) (pointer : Pointer) (chosen : List (Option Source)) (n count : ℕ) (list : List At) (was : take count list ≡ sources_below part pointer chosen n) where
  pub source_more : (new : List At) (now first : ℕ) (source : Source) → slice_index_or chosen n None ≡ Some source → count < length list → new ≡ set list count (record { leaf = source.leaf; sector = first }) → now ≡ count + 1
      → first ≡ (layout_in part).sector_of pointer.first n → take now new ≡ sources_below part pointer chosen (n + 1)
  source_more new now first source is inside new_is now_is first_is =
      let up : suc n ≡ n + 1 = omega arith in
      subst (λ k. take now new ≡ sources_below part pointer chosen k) up
      (subst (λ k. take k new ≡ sources_below part pointer chosen (suc n)) (sym now_is)
      (ap (take (count + 1)) new_is ∙ take_more_set list count (record { leaf = source.leaf; sector = first }) inside
      ∙ ap (λ xs. xs ++ (record { leaf = source.leaf; sector = first }) ∷ []) was ∙ ap (λ s. sources_below part pointer chosen n ++ (record { leaf = source.leaf; sector = s }) ∷ []) first_is
      ∙ sym (ap (λ o. sources_below part pointer chosen n ++ source_at part pointer n o) is)))

  pub source_none : (new : List At) (now : ℕ) → slice_index_or chosen n None ≡ None → new ≡ list → now ≡ count → take now new ≡ sources_below part pointer chosen (n + 1)
  source_none new now is new_is now_is =
      let up : suc n ≡ n + 1 = omega arith in
      subst (λ k. take now new ≡ sources_below part pointer chosen k) up
      (ap (take now) new_is ∙ ap (λ k. take k list) now_is ∙ was ∙ sym (append_none (sources_below part pointer chosen n))
      ∙ sym (ap (λ o. sources_below part pointer chosen n ++ source_at part pointer n o) is))

-- ---- a shard that differs in its rack alone
pub there_in : {R A : Type 0} (old new : Shard R A) (targets : List ArmAt) → new ≡ record old { rack = new.rack } → AreThere old.slots targets → AreThere new.slots targets
there_in old new targets after was = subst (λ s. AreThere s.slots targets) (sym after) was

pub lands_back : {R A : Type 0} (old new : Shard R A) (pointer : Pointer) (targets : List ArmAt) (columns : List (List ℕ)) (chosen : List (Option Source)) (n m : ℕ) (f g : List ℕ) (t u : Option Told) → new ≡ record old { rack = new.rack }
    → ((start : Option Told) → OnBothTold start t (LandsBelow (part_of new) new.slots pointer targets n columns chosen f) → OnBothTold start u (LandsBelow (part_of new) new.slots pointer targets m columns chosen g))
    → (start : Option Told) → OnBothTold start t (LandsBelow (part_of old) old.slots pointer targets n columns chosen f) → OnBothTold start u (LandsBelow (part_of old) old.slots pointer targets m columns chosen g)
lands_back old new pointer targets columns chosen n m f g t u after e =
    subst (λ s. (start : Option Told) → OnBothTold start t (LandsBelow (part_of s) s.slots pointer targets n columns chosen f) → OnBothTold start u (LandsBelow (part_of s) s.slots pointer targets m columns chosen g)) after e

pub fails_back : {R A : Type 0} (old new : Shard R A) (pointer : Pointer) (targets : List ArmAt) (n m : ℕ) (f g : List ℕ) → new ≡ record old { rack = new.rack }
    → ((first : List ℕ) → FailsColumns (part_of new) new.slots pointer targets n first f → FailsColumns (part_of new) new.slots pointer targets m first g)
    → (first : List ℕ) → FailsColumns (part_of old) old.slots pointer targets n first f → FailsColumns (part_of old) old.slots pointer targets m first g
fails_back old new pointer targets n m f g after e =
    subst (λ s. (first : List ℕ) → FailsColumns (part_of s) s.slots pointer targets n first f → FailsColumns (part_of s) s.slots pointer targets m first g) after e

-- ---- room
pub room_next : (before cap len targets column columns : ℕ) → before + columns * targets ≤ cap → len ≤ before + column * targets → column < columns → len + targets ≤ cap
room_next before cap len targets column columns room few less =
    let up : (column + 1) * targets ≤ columns * targets = mul-le-mul_right targets (omega (arith, less)) in
    let next : (column + 1) * targets ≡ column * targets + targets = grind arith in
    omega (arith, up, next, room, few)

pub few_next : (before len new targets column : ℕ) → len ≤ before + column * targets → new ≤ len + targets → new ≤ before + (column + 1) * targets
few_next before len new targets column few more = let next : (column + 1) * targets ≡ column * targets + targets = grind arith in omega (arith, next, few, more)

pub answer_back : {R A : Type 0} (old new : Shard R A) (pointer : Pointer) (targets : List ArmAt) (n m : ℕ) → new ≡ record old { rack = new.rack }
    → (AnswerBelow (part_of new) new.slots pointer targets n → AnswerBelow (part_of new) new.slots pointer targets m)
    → AnswerBelow (part_of old) old.slots pointer targets n → AnswerBelow (part_of old) old.slots pointer targets m
answer_back old new pointer targets n m after e = subst (λ s. AnswerBelow (part_of s) s.slots pointer targets n → AnswerBelow (part_of s) s.slots pointer targets m) after e
