-- A column lands on one more target.
use Rattle.std.proofs.Common.{arith, ◌≡◌, ◌==◌, ◌+◌, ◌<◌, ◌≤◌, ◌∙◌, ◌&&◌, ◌||◌, ◌++◌, ℕ, zero, suc, Bool, true, false, List, [], ◌∷◌, Option, Some, None, refl, sym, ap, subst, inl, inr, length, slice_get}
use Rattle.std.proofs.lemmas.Bool.{cases_lt}
use Rattle.std.proofs.lemmas.Bool.Decides.{nat_tests}
use Rattle.std.proofs.lemmas.List.{length-append}
use Rattle.std.proofs.lemmas.Option.{slice_get-get_or}
use Rattle.std.specs.Prelude.{slice_index_or}
use Rattle.draid_names.specs.declared.arm.ArmAt.{ArmAt}
use Rattle.draid_names.specs.declared.arm.At.{At}
use Rattle.draid_machine.specs.Arms.{passes}
use Rattle.draid_machine.specs.Names.{has_number}
use Rattle.draid_machine.proofs.Small.{absurd_test, bool_cases, either_true, equal, is_equal, some_same, true_left}
use Rattle.draid_rack.specs.Moments.{Leaves}
use Rattle.draid_rack.specs.Rack.{OnBothTold, Told, taints}
use Rattle.draid_rack.proofs.Moments.{leaves_more, leaves_on, leaves_self}
use Rattle.draid_slots.specs.Table.{SlotTable}
use Rattle.draid_shard.specs.Calls.{CountsFailed}
use Rattle.draid_shard.specs.Rows.{answers_on, leaf_on}
use Rattle.draid_shard.specs.declared.places.ColumnRows.{ColumnRows}
use Rattle.draid_shard.proofs.Counts.{counts_kept, counts_more, number_more}
use Rattle.draid_mend.specs.Mending.{CountsMended, MendsOn, MendsSector, at_sector}
use Rattle.draid_mend.specs.Targets.{AllAnswer, AreFree, FailsBelow, KeepsAt, MendsBelow, StandsMended, failed_by, has_answered, is_mended_on, mended_below}
use Rattle.draid_mend.specs.declared.mending.Mended.{Mended}
use Rattle.draid_mend.specs.declared.mending.Mended.TheVariants.{Silent, Failed, Done}

pub or_left : (a b : Bool) → (a || b) ≡ false → a ≡ false
or_left true b e = e
or_left false b e = refl

pub or_right : (a b : Bool) → (a || b) ≡ false → b ≡ false
or_right true b e = absurd_test true refl e
or_right false b e = e

-- the sources of a column are harmed as before, where none of them was written
pub taints_stay : (named : ℕ → ℕ → Bool) (sources : List At) (x y : Told) → AreFree named sources → Leaves named x y → taints sources y ≡ taints sources x
taints_stay named [] x y free l = refl
taints_stay named (a ∷ sources) x y free l =
    λ i. l.harm a.leaf a.sector (free zero a refl) i || taints_stay named sources x y (λ k. free (suc k)) l i

module _ (slots : SlotTable) (rows : ColumnRows) (targets : List ArmAt) (n : ℕ) (at : ArmAt) (there : slice_get targets n ≡ Some at) (column : List ℕ) (sources : List At) where
  abbrev named : ℕ → ℕ → ℕ → Bool
  named count = mended_below slots rows targets count

  fewer : (l s : ℕ) → named (suc n) l s ≡ false → named n l s ≡ false
  fewer l s e = or_left (named n l s) (is_mended_on slots rows (slice_get targets n) l s) e

  wider : (x y : Told) → Leaves (named n) x y → Leaves (named (suc n)) x y
  wider x y l = leaves_more (named n) (named (suc n)) x y fewer l

  free_before : AreFree (named (suc n)) sources → AreFree (named n) sources
  free_before free k a is = fewer a.leaf a.sector (free k a is)

  own : (leaf : ℕ) → at.slot ≡ rows.slot → answers_on slots rows at.arm ≡ true → leaf_on slots rows at.arm ≡ Some leaf → (l s : ℕ) → named (suc n) l s ≡ false → at_sector leaf rows.first l s ≡ false
  own leaf slot answers lies l s e =
      let last : is_mended_on slots rows (Some at) l s ≡ false
      = subst (λ o. is_mended_on slots rows o l s ≡ false) there (or_right (named n l s) (is_mended_on slots rows (slice_get targets n) l s) e) in
      let one : (answers_on slots rows at.arm && passes (leaf_on slots rows at.arm) (λ m. at_sector m rows.first l s)) ≡ false
      = subst (λ b. (b && (answers_on slots rows at.arm && passes (leaf_on slots rows at.arm) (λ m. at_sector m rows.first l s))) ≡ false) (equal at.slot rows.slot slot) last in
      let two : passes (leaf_on slots rows at.arm) (λ m. at_sector m rows.first l s) ≡ false
      = subst (λ b. (b && passes (leaf_on slots rows at.arm) (λ m. at_sector m rows.first l s)) ≡ false) answers one in
      subst (λ o. passes o (λ m. at_sector m rows.first l s) ≡ false) lies two

  out : (m leaf : ℕ) → (m ≡ leaf → ⊥) → at_sector m rows.first leaf rows.first ≡ false
  out m leaf other = grind (arith, nat_tests, other)

  -- the target with which a leaf was found is an earlier one, or this
  earlier : (leaf : ℕ) → (h : KeepsAt slots rows targets (suc n) leaf) → h.k < n → KeepsAt slots rows targets n leaf
  earlier leaf h less = record { k = h.k; at = h.at; below = less; there = h.there; slot = h.slot; answers = h.answers; lies = h.lies }

  later : (leaf : ℕ) → KeepsAt slots rows targets n leaf → KeepsAt slots rows targets (suc n) leaf
  later leaf h = record { k = h.k; at = h.at; below = (let less = h.below in omega (arith, less)); there = h.there; slot = h.slot; answers = h.answers; lies = h.lies }

  this : (leaf : ℕ) → (h : KeepsAt slots rows targets (suc n) leaf) → n ≤ h.k → h.at ≡ at
  this leaf h high =
      let less = h.below in
      let same : h.k ≡ n = omega (arith, high, less) in
      some_same (slice_get targets n) h.at at (ap (slice_get targets) (sym same) ∙ h.there) there

  -- ---- nothing was written
  stays_more : (failed : List ℕ) (x y : Told) → ((leaf : ℕ) → (h : KeepsAt slots rows targets (suc n) leaf) → n ≤ h.k → ⊥) → MendsBelow slots rows targets n column sources failed x y
      → MendsBelow slots rows targets (suc n) column sources failed x y
  stays_more failed x y none w = record {
    leaves = wider x y w.leaves;
    each = λ free leaf h sound. elim (cases_lt h.k n) [
      | inl lower ↦ w.each (free_before free) leaf (earlier leaf h lower) sound
      | inr high ↦ absurd (none leaf h high)
    ];
  }

  pub other_slot : (failed : List ℕ) (o p : Option Told) → (at.slot ≡ rows.slot → ⊥) → OnBothTold o p (MendsBelow slots rows targets n column sources failed) → OnBothTold o p (MendsBelow slots rows targets (suc n) column sources failed)
  other_slot failed None p other e = e
  other_slot failed (Some x) None other e = e
  other_slot failed (Some x) (Some y) other e = stays_more failed x y (λ leaf h high. other (sym (ap (λ (a : ArmAt). a.slot) (this leaf h high)) ∙ h.slot)) e

  pub fails_later : (before failed : List ℕ) → FailsBelow slots rows targets n before failed → FailsBelow slots rows targets (suc n) before failed
  fails_later before failed was = record { kept = was.kept; fail = λ leaf has out. later leaf (was.fail leaf has out) }

  module _ (slot : at.slot ≡ rows.slot) where
    silent_more : (failed : List ℕ) (x y : Told) → answers_on slots rows at.arm ≡ false → MendsBelow slots rows targets n column sources failed x y → MendsBelow slots rows targets (suc n) column sources failed x y
    silent_more failed x y silent w =
        stays_more failed x y (λ leaf h high. absurd_test (answers_on slots rows at.arm) (sym (ap (λ (a : ArmAt). answers_on slots rows a.arm) (this leaf h high)) ∙ h.answers) silent) w

    not_before : (failed : List ℕ) (m leaf : ℕ) → has_number (failed ++ m ∷ []) leaf ≡ false → (has_number failed leaf || (m == leaf)) ≡ false
    not_before failed m leaf e = sym (number_more failed m leaf) ∙ e

    failed_more : (failed : List ℕ) (m : ℕ) (x y z : Told) → answers_on slots rows at.arm ≡ true → leaf_on slots rows at.arm ≡ Some m → Leaves (at_sector m rows.first) y z
        → MendsBelow slots rows targets n column sources failed x y → MendsBelow slots rows targets (suc n) column sources (failed ++ m ∷ []) x z
    failed_more failed m x y z answers lies l w = record {
      leaves = leaves_on (named (suc n)) x y z (wider x y w.leaves) (leaves_more (at_sector m rows.first) (named (suc n)) y z (own m slot answers lies) l);
      each = λ free leaf h sound. elim (cases_lt h.k n) [
        | inl lower ↦ before free leaf h sound lower
        | inr high ↦ absurd (let it : m ≡ leaf = some_same (leaf_on slots rows at.arm) m leaf lies (sym (ap (λ (a : ArmAt). leaf_on slots rows a.arm) (this leaf h high)) ∙ h.lies) in
            absurd_test (m == leaf) (equal m leaf it) (or_right (has_number failed leaf) (m == leaf) (not_before failed m leaf sound)))
      ];
    } where
      before : AreFree (named (suc n)) sources → (leaf : ℕ) → (h : KeepsAt slots rows targets (suc n) leaf) → has_number (failed ++ m ∷ []) leaf ≡ false → h.k < n → StandsMended leaf rows.first column sources x z
      before free leaf h sound lower =
          let was = w.each (free_before free) leaf (earlier leaf h lower) (or_left (has_number failed leaf) (m == leaf) (not_before failed m leaf sound)) in
          let other : m ≡ leaf → ⊥ = (λ it. absurd_test (m == leaf) (equal m leaf it) (or_right (has_number failed leaf) (m == leaf) (not_before failed m leaf sound))) in
          record { stands = l.only.reads leaf rows.first (out m leaf other) ∙ was.stands; harmed = l.harm leaf rows.first (out m leaf other) ∙ was.harmed }

    done_more : (failed : List ℕ) (m : ℕ) (x y z : Told) → answers_on slots rows at.arm ≡ true → leaf_on slots rows at.arm ≡ Some m → MendsSector m rows.first column sources y z
        → MendsBelow slots rows targets n column sources failed x y → MendsBelow slots rows targets (suc n) column sources failed x z
    done_more failed m x y z answers lies r w = record {
      leaves = leaves_on (named (suc n)) x y z (wider x y w.leaves) (leaves_more (at_sector m rows.first) (named (suc n)) y z (own m slot answers lies) r.leaves);
      each = λ free leaf h sound. elim (bool_cases (m == leaf)) [
        | inl it ↦ written free leaf (is_equal m leaf it)
        | inr other ↦ elim (cases_lt h.k n) [
          | inl lower ↦ kept leaf (λ it. absurd_test (m == leaf) (equal m leaf it) other) (w.each (free_before free) leaf (earlier leaf h lower) sound)
          | inr high ↦ absurd (let it : m ≡ leaf = some_same (leaf_on slots rows at.arm) m leaf lies (sym (ap (λ (a : ArmAt). leaf_on slots rows a.arm) (this leaf h high)) ∙ h.lies) in
              absurd_test (m == leaf) (equal m leaf it) other)
        ]
      ];
    } where
      written : AreFree (named (suc n)) sources → (leaf : ℕ) → m ≡ leaf → StandsMended leaf rows.first column sources x z
      written free leaf it = subst (λ leaf. StandsMended leaf rows.first column sources x z) it
          (record { stands = r.stands; harmed = r.harmed ∙ taints_stay (named n) sources x y (free_before free) w.leaves })

      kept : (leaf : ℕ) → (m ≡ leaf → ⊥) → StandsMended leaf rows.first column sources x y → StandsMended leaf rows.first column sources x z
      kept leaf other was = record { stands = r.leaves.only.reads leaf rows.first (out m leaf other) ∙ was.stands; harmed = r.leaves.harm leaf rows.first (out m leaf other) ∙ was.harmed }

    pub told_more : (failed : List ℕ) (w : Mended) (s t u : Option Told) → MendsOn slots rows at.arm column sources w t u → OnBothTold s t (MendsBelow slots rows targets n column sources failed)
        → OnBothTold s u (MendsBelow slots rows targets (suc n) column sources (failed_by w failed))
    told_more failed Silent None t u l e = l.1 ∙ e
    told_more failed Silent (Some x) None u l e = absurd e
    told_more failed Silent (Some x) (Some y) u l e = subst (λ v. OnBothTold (Some x) v (MendsBelow slots rows targets (suc n) column sources failed)) (sym l.1) (silent_more failed x y l.0 e)
    told_more failed (Failed m) None None u l e = l.2
    told_more failed (Failed m) None (Some y) u l e = absurd (cc)
    told_more failed (Failed m) (Some x) None u l e = absurd e
    told_more failed (Failed m) (Some x) (Some y) None l e = absurd l.2
    told_more failed (Failed m) (Some x) (Some y) (Some z) l e = failed_more failed m x y z l.0 l.1 l.2 e
    told_more failed (Done m) None None u l e = l.2
    told_more failed (Done m) None (Some y) u l e = absurd (cc)
    told_more failed (Done m) (Some x) None u l e = absurd e
    told_more failed (Done m) (Some x) (Some y) None l e = absurd l.2
    told_more failed (Done m) (Some x) (Some y) (Some z) l e = done_more failed m x y z l.0 l.1 l.2 e

    -- ---- the list of failed leaves
    pub fails_more : (before failed : List ℕ) (w : Mended) (t u : Option Told) → MendsOn slots rows at.arm column sources w t u → FailsBelow slots rows targets n before failed → FailsBelow slots rows targets (suc n) before (failed_by w failed)
    fails_more before failed Silent t u l was = fails_later before failed was
    fails_more before failed (Failed m) t u l was = record {
      kept = λ leaf has. number_more failed m leaf ∙ true_left (has_number failed leaf) (m == leaf) (was.kept leaf has);
      fail = λ leaf has out. elim (either_true (has_number failed leaf) (m == leaf) (sym (number_more failed m leaf) ∙ has)) [
        | inl had ↦ later leaf (was.fail leaf had out)
        | inr it ↦ record { k = n; at = at; below = omega arith; there = there; slot = slot; answers = l.0; lies = l.1 ∙ ap Some (is_equal m leaf it) }
      ];
    }
    fails_more before failed (Done m) t u l was = fails_later before failed was

-- ---- no target yet
pub mends_none : (slots : SlotTable) (rows : ColumnRows) (targets : List ArmAt) (column : List ℕ) (sources : List At) (failed : List ℕ) (o : Option Told) → OnBothTold o o (MendsBelow slots rows targets 0 column sources failed)
mends_none slots rows targets column sources failed None = refl
mends_none slots rows targets column sources failed (Some x) = record {
  leaves = leaves_self (mended_below slots rows targets 0) x;
  each = λ free leaf h sound. absurd (let less = h.below in omega (arith, less));
}

-- no target is an arm of the slot
pub mends_elsewhere : (slots : SlotTable) (rows : ColumnRows) (targets : List ArmAt) (column : List ℕ) (sources : List At) (failed : List ℕ) (o : Option Told) → ((k : ℕ) (at : ArmAt) → slice_get targets k ≡ Some at → at.slot ≡ rows.slot → ⊥)
    → (n : ℕ) → n ≤ length targets → OnBothTold o o (MendsBelow slots rows targets n column sources failed)
mends_elsewhere slots rows targets column sources failed o other zero upto = mends_none slots rows targets column sources failed o
mends_elsewhere slots rows targets column sources failed o other (suc n) upto =
    let none : ArmAt = record { slot = 0; arm = 0 } in
    let at : ArmAt = slice_index_or targets n none in
    let there : slice_get targets n ≡ Some at = slice_get-get_or targets n none (omega (arith, upto)) in
    other_slot slots rows targets n at there column sources failed o o (other n at there) (mends_elsewhere slots rows targets column sources failed o other n (omega (arith, upto)))

pub fails_none : (slots : SlotTable) (rows : ColumnRows) (targets : List ArmAt) (failed : List ℕ) → FailsBelow slots rows targets 0 failed failed
fails_none slots rows targets failed = record { kept = λ leaf has. has; fail = λ leaf has out. absurd_test (has_number failed leaf) has out }

pub fails_elsewhere : (slots : SlotTable) (rows : ColumnRows) (targets : List ArmAt) (n : ℕ) (failed : List ℕ) → FailsBelow slots rows targets n failed failed
fails_elsewhere slots rows targets n failed = record { kept = λ leaf has. has; fail = λ leaf has out. absurd_test (has_number failed leaf) has out }

-- ---- the targets that answer
module _ (slots : SlotTable) (rows : ColumnRows) (targets : List ArmAt) (n : ℕ) (at : ArmAt) (there : slice_get targets n ≡ Some at) where
  -- one target more answers, or is no arm of the slot
  pub answer_more : (at.slot ≡ rows.slot → answers_on slots rows at.arm ≡ true) → AllAnswer slots rows targets n → AllAnswer slots rows targets (n + 1)
  answer_more here was k other less listed same = elim (cases_lt k n) [
    | inl before ↦ was k other before listed same
    | inr past ↦ (
        let it : at ≡ other = some_same (slice_get targets n) at other there (ap (slice_get targets) (let e : n ≡ k = omega (arith, past, less) in e) ∙ listed) in
        subst (λ (a : ArmAt). answers_on slots rows a.arm ≡ true) it (here (ap (λ (a : ArmAt). a.slot) it ∙ same))
        )
  ]

  -- what became of a landing says whether the arm answered
  pub mended_answers : (column : List ℕ) (sources : List At) (w : Mended) (t u : Option Told) → MendsOn slots rows at.arm column sources w t u → has_answered w ≡ true → answers_on slots rows at.arm ≡ true
  mended_answers column sources Silent t u l is = absurd_test false is refl
  mended_answers column sources (Failed m) t u l is = l.0
  mended_answers column sources (Done m) t u l is = l.0

pub counts_mended : (w : Mended) (failed : List ℕ) (first old new : Option ℕ → ℕ) → CountsMended w old new → CountsFailed failed first old → CountsFailed (failed_by w failed) first new
counts_mended Silent failed first old new on was = counts_kept failed first old new was on.later
counts_mended (Failed leaf) failed first old new on was = counts_more failed leaf first old new was on.later (on.cause leaf refl)
counts_mended (Done leaf) failed first old new on was = counts_kept failed first old new was on.later

pub few_more : (w : Mended) (failed : List ℕ) → length (failed_by w failed) ≤ length failed + 1
few_more Silent failed = omega arith
few_more (Failed leaf) failed = let e : length (failed ++ leaf ∷ []) ≡ length failed + 1 = length-append failed (leaf ∷ []) in omega (arith, e)
few_more (Done leaf) failed = omega arith
