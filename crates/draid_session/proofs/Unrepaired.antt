-- Of a block that is unhurt a scrub's landing rewrites nothing on the arms that are clean for it.
use Rattle.std.proofs.Common.{arith, ◌≡◌, ◌+◌, ◌-◌, ◌/◌, ◌<◌, ◌≤◌, ◌⊎◌, ◌∙◌, not, [], ℕ, zero, suc, Bool, true, false, List, Some, refl, sym, ap, subst, inl, inr}
use Rattle.std.specs.Prelude.{MatchOption, ⊤}
use Rattle.std.proofs.lemmas.Bool.Decides.{nat_tests}
use Rattle.draid_names.specs.declared.pass_kind.PassKind.TheVariants.{Heal}
use Rattle.draid_spec.specs.declared.layout.Geometry.{Geometry}
use Rattle.draid_perm.specs.declared.perms.Perms.{Perms}
use Rattle.draid_machine.specs.After.{is_written, rewritten}
use Rattle.draid_machine.specs.Arms.{is_clean}
use Rattle.draid_machine.specs.Created.{IsReached}
use Rattle.draid_machine.specs.Names.{has_name, takes}
use Rattle.draid_machine.specs.State.{Core, IsLayout, Layout, Loan, State}
use Rattle.draid_machine.specs.Step.{Step}
use Rattle.draid_machine.specs.declared.event.Event.{Event}
use Rattle.draid_machine.specs.declared.event.Event.TheVariants as event
use Rattle.draid_machine.specs.declared.event.Patched.{Patched}
use Rattle.draid_machine.specs.declared.names.ArmName.{ArmName}
use Rattle.draid_machine.specs.declared.names.Held.{Held}
use Rattle.draid_machine.specs.declared.names.Segment.{Segment}
use Rattle.draid_machine.proofs.Lent.{every_loan}
use Rattle.draid_machine.proofs.Rows.{reached_sound}
use Rattle.draid_machine.proofs.Small.{absurd_test, some_same}
use Rattle.draid_segments.specs.Acts.{is_on_clean}
use Rattle.draid_session.specs.Holds.{View, layout_at}
use Rattle.draid_session.specs.Landing.{HasCleanArms, IsUnhurtBlock, LeavesClean, TakesClean, dirty_arms}
use Rattle.draid_session.specs.Passes as passes
use Rattle.draid_session.proofs.Landing.{clean_left, few_rewritten}
use Rattle.draid_session.proofs.Undisturbed.{count_none}

-- ---- numbers

-- of what didn't land nothing is rewritten
none_rewritten : (l : Layout) (q : Core) (h : Held) (patched : List Patched) → patched ≡ [] → (columns : ℕ) → rewritten l q h patched columns ≤ dirty_arms l q h columns
none_rewritten l q h patched none columns = subst (λ ps. rewritten l q h ps columns ≤ dirty_arms l q h columns) (sym none) (few_rewritten l q h [] (λ c n r at. absurd_test false at refl) columns)

none_dirty : (l : Layout) (q : Core) (h : Held) (columns : ℕ) → ((c : ℕ) (n : ArmName) → c < columns → has_name (q.order (l.slot_of h.first c)) n ≡ true → is_clean q h.birth n ≡ true) → dirty_arms l q h columns ≡ 0
none_dirty l q h zero clean = refl
none_dirty l q h (suc c) clean =
    let before = none_dirty l q h c (λ d n less listed. clean d n (omega (arith, less)) listed) in
    let here = count_none (λ n. not (is_clean q h.birth n)) (q.order (l.slot_of h.first c)) (λ n listed. ap not (clean c n (omega arith) listed)) in
    omega (arith, before, here)

pub taken_from : (h : Held) (x : ℕ) → takes h x ≡ true → h.first ≤ x
taken_from h x taken = grind (arith, nat_tests, taken)

pub taken_to : (h : Held) (x : ℕ) → takes h x ≡ true → x < h.first + h.stripes
taken_to h x taken = grind (arith, nat_tests, taken)

-- ---- a loan

module _ (l : Layout) (lay : IsLayout l) (w : State) (reached : IsReached l w) (n : Loan) (h : Held) (loan : w.loan ≡ Some n) (held : w.core.held n.key ≡ Some h) where
  -- the stripe that is lent has the block's slots
  pub same_slots : (c : ℕ) → l.slot_of n.stripe c ≡ l.slot_of h.first c
  same_slots c =
      let sound = reached_sound l lay w reached in
      let fits = sound.loan n loan in
      let same : fits.h ≡ h = some_same (w.core.held n.key) fits.h h fits.found held in
      let taken : takes h n.stripe ≡ true = subst (λ (i : Held). takes i n.stripe ≡ true) same fits.taken in
      let from = taken_from h n.stripe taken in
      let to = taken_to h n.stripe taken in
      let row : h.first + (n.stripe - h.first) ≡ n.stripe = omega (arith, from) in
      let band : n.stripe / l.height ≡ h.first / l.height
      = subst (λ x. x / l.height ≡ h.first / l.height) row (sound.core.runs n.key h (n.stripe - h.first) held (omega (arith, from, to))) in
      lay.steady n.stripe h.first c band

  -- with all arms clean each column was taken from one that is
  pub takes_clean : HasCleanArms l w.core h → TakesClean w.core n h
  takes_clean clean c arm taken =
      let at = (every_loan l w n lay reached loan).chosen c arm taken in
      clean c arm at.0 (subst (λ slot. has_name (w.core.order slot) arm ≡ true) (same_slots c) at.1)

-- ---- a landing

module _ (geometry : Geometry) (perms : Perms) where
  module _ (u : View) (n : Loan) (h : Held) (unhurt : IsUnhurtBlock geometry perms u n h) (takes : TakesClean u.world.core n h) where
    none_wrong : passes.TakesWrong geometry perms u n h unhurt.harm → ⊥
    none_wrong wrong = elim wrong.why [
      | inl dirty ↦ absurd_test (is_clean u.world.core h.birth wrong.arm) (takes wrong.column wrong.arm wrong.taken) dirty
      | inr hurt ↦ unhurt.sure hurt.0 hurt.1 hurt.4
    ]

    none_needed : (loan : u.world.loan ≡ Some n) (held : u.world.core.held n.key ≡ Some h) (pass serial : ℕ) (failed : _) (patched : _)
        → passes.LandsNeeded geometry perms u (event.LandBlock pass serial failed patched false) → (s : Segment) → is_on_clean (layout_at geometry perms u) u.world.core n h s ≡ true
        → is_written (layout_at geometry perms u) u.world.core n h patched.items s ≡ true → ⊥
    none_needed loan held pass serial failed patched needed s clean written =
        let told : MatchOption (Some unhurt.harm) ⊤ (λ harm. (n : Loan) (h : Held) (s : Segment) → u.world.loan ≡ Some n → u.world.core.held n.key ≡ Some h
        → is_on_clean (layout_at geometry perms u) u.world.core n h s ≡ true → is_written (layout_at geometry perms u) u.world.core n h patched.items s ≡ true
        → passes.IsUnsure geometry perms u h harm s ⊎ passes.TakesWrong geometry perms u n h harm)
        = subst (λ o. MatchOption o ⊤ (λ harm. (n : Loan) (h : Held) (s : Segment) → u.world.loan ≡ Some n → u.world.core.held n.key ≡ Some h
        → is_on_clean (layout_at geometry perms u) u.world.core n h s ≡ true → is_written (layout_at geometry perms u) u.world.core n h patched.items s ≡ true
        → passes.IsUnsure geometry perms u h harm s ⊎ passes.TakesWrong geometry perms u n h harm)) unhurt.told needed in
        elim (told n h s loan held clean written) [
          | inl unsure ↦ unhurt.sure s clean unsure
          | inr wrong ↦ none_wrong wrong
        ]

  module _ (u : View) (landed : State) (lay : IsLayout (layout_at geometry perms u)) (reached : IsReached (layout_at geometry perms u) u.world) (repaired : ℕ) (n : Loan) (h : Held)
      (loan : u.world.loan ≡ Some n) (held : u.world.core.held n.key ≡ Some h) where
    abbrev l : Layout
    l = layout_at geometry perms u

    -- none of the arms that are clean for it is written
    pub clean_by : (pass serial : ℕ) (failed : _) (patched : _) → Step l u.world (event.LandBlock pass serial failed patched false) landed
        → passes.LandsNeeded geometry perms u (event.LandBlock pass serial failed patched false) → IsUnhurtBlock geometry perms u n h → TakesClean u.world.core n h → LeavesClean u.world.core h patched.items
    clean_by pass serial failed patched step needed unhurt takes =
        let own : n ≡ step.n = some_same u.world.loan n step.n loan step.counts.loan in
        let same : h ≡ step.h = some_same (u.world.core.held n.key) h step.h held (subst (λ (m : Loan). u.world.core.held m.key ≡ Some step.h) (sym own) step.counts.found) in
        let none : (s : Segment) → is_on_clean l u.world.core n h s ≡ true → is_written l u.world.core n h patched.items s ≡ true → ⊥
        = none_needed u n h unhurt takes loan held pass serial failed patched needed in
        let none_own : (s : Segment) → is_on_clean l u.world.core step.n step.h s ≡ true → is_written l u.world.core step.n step.h patched.items s ≡ true → ⊥
        = subst (λ (m : Loan). (s : Segment) → is_on_clean l u.world.core m step.h s ≡ true → is_written l u.world.core m step.h patched.items s ≡ true → ⊥) own
        (subst (λ (i : Held). (s : Segment) → is_on_clean l u.world.core n i s ≡ true → is_written l u.world.core n i patched.items s ≡ true → ⊥) same none) in
        subst (λ (i : Held). LeavesClean u.world.core i patched.items) (sym same) (clean_left l lay u.world landed reached pass serial failed.items patched.items step none_own)

    few_by : (pass serial : ℕ) (failed : _) (patched : _) (unreadable : Bool) → Step l u.world (event.LandBlock pass serial failed patched unreadable) landed
        → passes.LandsNeeded geometry perms u (event.LandBlock pass serial failed patched unreadable) → IsUnhurtBlock geometry perms u n h → TakesClean u.world.core n h
        → rewritten l u.world.core h patched.items geometry.g ≤ dirty_arms l u.world.core h geometry.g
    few_by pass serial failed patched true step needed unhurt takes = none_rewritten l u.world.core h patched.items step.lands.1 geometry.g
    few_by pass serial failed patched false step needed unhurt takes =
        let left = clean_by pass serial failed patched step needed unhurt takes in
        few_rewritten l u.world.core h patched.items (λ c arm r at. left c arm r (step.lands.landed c arm r at)) geometry.g

    pub lands_few : (e : Event) → Step l u.world e landed → passes.LandsAs geometry perms Heal u e repaired → passes.LandsNeeded geometry perms u e → IsUnhurtBlock geometry perms u n h → TakesClean u.world.core n h
        → repaired ≤ dirty_arms l u.world.core h geometry.g
    lands_few (event.LandBlock pass serial failed patched unreadable) step (m, i, there, found, is) needed unhurt takes =
        let own : m ≡ n = some_same u.world.loan m n there loan in
        let same : i ≡ h = some_same (u.world.core.held n.key) i h (subst (λ (k : Loan). u.world.core.held k.key ≡ Some i) own found) held in
        let few = few_by pass serial failed patched unreadable step needed unhurt takes in
        let told : repaired ≡ rewritten l u.world.core h patched.items geometry.g = is ∙ ap (λ (j : Held). rewritten l u.world.core j patched.items geometry.g) same in
        omega (arith, few, told)
    lands_few e step lands needed unhurt takes = absurd lands

    pub lands_none : (e : Event) → Step l u.world e landed → passes.LandsAs geometry perms Heal u e repaired → passes.LandsNeeded geometry perms u e → IsUnhurtBlock geometry perms u n h → HasCleanArms l u.world.core h
        → repaired ≡ 0
    lands_none e step lands needed unhurt clean =
        let few = lands_few e step lands needed unhurt (takes_clean l lay u.world reached n h loan held clean) in
        let none = none_dirty l u.world.core h geometry.g clean in
        omega (arith, few, none)
