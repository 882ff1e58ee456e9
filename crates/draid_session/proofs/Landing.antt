-- A landing of a scrub leaves alone what reads as it should.
use Rattle.std.proofs.Common.{arith, ◌≡◌, ◌==◌, ◌+◌, ◌/◌, ◌≤◌, ◌&&◌, ◌∷◌, ◌∙◌, not, [], ℕ, zero, suc, Bool, true, false, List, Option, None, Some, refl, ap, inl, inr, if◌then◌else◌}
use Rattle.std.specs.Prelude.{cond, nat_lt}
use Rattle.std.specs.List.{count_by}
use Rattle.std.proofs.lemmas.List.Sums.{sum_by-append}
use Rattle.draid_machine.specs.After.{has_landed, is_written, rewritten, was_written}
use Rattle.draid_machine.specs.Arms.{first_leaf, first_spares, is_clean, leaf_answers, leaf_at, lies, passes}
use Rattle.draid_machine.specs.Claims.{is_on}
use Rattle.draid_machine.specs.Created.{IsReached}
use Rattle.draid_machine.specs.Names.{any_below, has_name, key_eq}
use Rattle.draid_machine.specs.State.{Core, IsLayout, Layout, State}
use Rattle.draid_machine.specs.Step.{LandBlockStep}
use Rattle.draid_machine.specs.declared.event.Patched.{Patched}
use Rattle.draid_machine.specs.declared.names.ArmName.{ArmName}
use Rattle.draid_machine.specs.declared.names.ArmName.TheVariants.{Leaf, Spare}
use Rattle.draid_machine.specs.declared.names.Held.{Held}
use Rattle.draid_machine.specs.declared.names.Segment.{Segment}
use Rattle.draid_machine.proofs.Rows.{reached_sound}
use Rattle.draid_machine.proofs.Small.{absurd_test, below, bool_cases, equal, key_refl, not_false, true_both, true_four}
use Rattle.draid_rack.specs.Rack.{Told}
use Rattle.draid_segments.specs.Acts.{HealsBlock, is_on_clean}
use Rattle.draid_segments.specs.Segments.{Pieces}
use Rattle.draid_session.specs.Landing.{LeavesClean, ReadsRight, dirty_arms}
use Rattle.draid_session.proofs.Using.{some_within}

-- ---- the leaf of an arm

-- stripes of one slice have one leaf of an arm
pub one_leaf : (l : Layout) → IsLayout l → (order : ℕ → List ArmName) (n : ArmName) (x y : ℕ) → x / l.height ≡ y / l.height → leaf_at l order n x ≡ leaf_at l order n y
one_leaf l lay order (Leaf m) x y e = refl
one_leaf l lay order (Spare t) x y e = ap (λ slot. if nat_lt t l.spares then first_leaf (order slot) else None) (lay.steady_home (first_spares order) x y t e)

some_leaf : (o : Option ℕ) (p : ℕ → Bool) → passes o p ≡ true → (m : ℕ) × (o ≡ Some m)
some_leaf None p is = absurd_test false is refl
some_leaf (Some m) p is = (m, refl)

-- ---- one that answers and is clean
module _ (l : Layout) (lay : IsLayout l) (w new : State) (reached : IsReached l w) (pass serial : ℕ) (failed : List ℕ) (patched : List Patched) (step : LandBlockStep l w pass serial failed patched false new) where
  abbrev h : Held
  h = step.h

  module _ (c : ℕ) (n : ArmName) (r : ℕ) (at : was_written patched c n r ≡ true) where
    leaf : (m : ℕ) × (leaf_at l w.core.order n h.first ≡ Some m)
    leaf = some_leaf (leaf_at l w.core.order n h.first) (leaf_answers w.core) (step.lands.there c n r at).3

    abbrev s : Segment
    s = record { key = step.n.key; column = c; arm = n; leaf = leaf.0; row = r }

    on : is_on l w.core.order s h ≡ true
    on =
        let there = step.lands.there c n r at in
        let band = (reached_sound l lay w reached).core.runs step.n.key h r step.counts.found there.1 in
        let own : leaf_at l w.core.order n (h.first + r) ≡ Some leaf.0 = one_leaf l lay w.core.order n (h.first + r) h.first band ∙ leaf.1 in
        true_four (has_name (w.core.order (l.slot_of h.first c)) n) (nat_lt c l.columns) (nat_lt r h.stripes) (lies l w.core.order n (h.first + r) leaf.0)
        there.2 (below c l.columns there.0) (below r h.stripes there.1) (ap (λ o. passes o (λ m. m == leaf.0)) own ∙ equal leaf.0 leaf.0 refl)

    key_on : (key_eq step.n.key s.key && is_on l w.core.order s h) ≡ true
    key_on = true_both (key_eq step.n.key s.key) (is_on l w.core.order s h) (key_refl step.n.key) on

    on_clean : is_clean w.core h.birth n ≡ true → is_on_clean l w.core step.n h s ≡ true
    on_clean clean = true_both (key_eq step.n.key s.key && is_on l w.core.order s h) (is_clean w.core h.birth n) key_on clean

    written : is_written l w.core step.n h patched s ≡ true
    written = true_both (key_eq step.n.key s.key && is_on l w.core.order s h) (was_written patched c n r) key_on at

  -- where no segment on an arm that is clean is written
  pub clean_left : ((s : Segment) → is_on_clean l w.core step.n h s ≡ true → is_written l w.core step.n h patched s ≡ true → ⊥) → LeavesClean w.core h patched
  clean_left none c n r at = elim (bool_cases (is_clean w.core h.birth n)) [
    | inl clean ↦ absurd (none (s c n r at) (on_clean c n r at clean) (written c n r at))
    | inr dirty ↦ dirty
  ]

  pub leaves_clean : (pieces : Pieces) (x y : Told) → HealsBlock l w.core step.n step.h failed patched step.whole pieces x y → ReadsRight l w.core step.n step.h pieces x → LeavesClean w.core h patched
  leaves_clean pieces x y acts right = clean_left (λ s clean at. (let reads = right s clean in acts.needed s clean at reads.0 reads.1))

-- ---- how many
count_cons : {A : Type 0} (p : A → Bool) (x : A) (xs : List A) → count_by p (x ∷ xs) ≡ cond (p x) 1 0 + count_by p xs
count_cons p x xs = sum_by-append (λ y. cond (p y) 1 0) (x ∷ []) xs ∙ ap (λ n. n + count_by p xs) (omega arith)

one_step : (a b : Bool) (m n : ℕ) → m ≤ n → (a ≡ true → b ≡ true) → cond a 1 0 + m ≤ cond b 1 0 + n
one_step true true m n low more = omega (arith, low)
one_step true false m n low more = absurd_test false (more refl) refl
one_step false true m n low more = omega (arith, low)
one_step false false m n low more = omega (arith, low)

count_fewer : {A : Type 0} (p q : A → Bool) (xs : List A) → ((x : A) → p x ≡ true → q x ≡ true) → count_by p xs ≤ count_by q xs
count_fewer p q [] more = omega arith
count_fewer p q (x ∷ xs) more =
    let a = count_cons p x xs in
    let b = count_cons q x xs in
    let step = one_step (p x) (q x) (count_by p xs) (count_by q xs) (count_fewer p q xs more) (more x) in
    omega (arith, a, b, step)

pub few_rewritten : (l : Layout) (q : Core) (h : Held) (patched : List Patched) → ((c : ℕ) (n : ArmName) (r : ℕ) → has_landed patched c n r ≡ true → is_clean q h.birth n ≡ false)
    → (columns : ℕ) → rewritten l q h patched columns ≤ dirty_arms l q h columns
few_rewritten l q h patched dirty zero = omega arith
few_rewritten l q h patched dirty (suc c) =
    let before = few_rewritten l q h patched dirty c in
    let here = count_fewer (λ n. any_below h.stripes (has_landed patched c n)) (λ n. not (is_clean q h.birth n)) (q.order (l.slot_of h.first c))
    (λ n some. (let row = some_within h.stripes (has_landed patched c n) some in not_false (is_clean q h.birth n) (dirty c n row.0 row.2))) in
    omega (arith, before, here)
