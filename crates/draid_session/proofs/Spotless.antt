-- What the events of a scrub make of a metaslab whose arms lie well.
use Rattle.std.proofs.Common.{arith, ◌≡◌, ◌==◌, ◌+◌, ◌-◌, ◌<◌, ◌≤◌, ◌⊎◌, ◌&&◌, ◌||◌, ◌∙◌, not, [], ◌∷◌, ℕ, Bool, true, false, nat_le, nat_lt, List, Option, Some, None, filter, refl, sym, ap, subst, inl, inr, length, min, if◌then◌else◌}
use Rattle.std.specs.Prelude.{⊤}
use Rattle.std.proofs.lemmas.Bool.{cases_lt, true≢false}
use Rattle.std.proofs.lemmas.Bool.Decides.{nat_tests}
use Rattle.draid_names.specs.declared.numbers.TheConstants.{LAST_NUMBER}
use Rattle.draid_names.specs.declared.pass_kind.PassKind.{PassKind}
use Rattle.draid_names.specs.declared.pass_kind.PassKind.TheVariants.{Heal}
use Rattle.draid_rack.specs.Rack.{Told}
use Rattle.draid_machine.specs.After.{aside_after, capped, ended_pass, excise_if, fill_if, has_healed, has_landed, lend_errors, lose_some, map_arm, misses_block, planned_pass, was_written}
use Rattle.draid_machine.specs.Arms.{answers, arms_below, fails, has_column, is_clean, is_here, is_silent, is_target, leaf_answers, leaf_at, lies, lies_on, logged, online, passes, targets_of}
use Rattle.draid_machine.specs.Claims.{is_on}
use Rattle.draid_machine.specs.Created.{IsReached}
use Rattle.draid_machine.specs.Names.{any_below, has_name, is_block, is_heal, key_eq, takes}
use Rattle.draid_machine.specs.State as machine
use Rattle.draid_machine.specs.Step.{LandBlockStep, Step, is_lent}
use Rattle.draid_machine.specs.declared.event.Event.{Event}
use Rattle.draid_machine.specs.declared.event.Event.TheVariants as event
use Rattle.draid_machine.specs.declared.event.Patched.{Patched}
use Rattle.draid_machine.specs.declared.names.ArmName.{ArmName}
use Rattle.draid_machine.specs.declared.names.ArmName.TheVariants.{Leaf, Spare}
use Rattle.draid_machine.specs.declared.names.Held.{Held}
use Rattle.draid_machine.specs.declared.names.Key.{Key}
use Rattle.draid_machine.specs.declared.names.Segment.{Segment}
use Rattle.draid_machine.proofs.Fitted.{every_fit}
use Rattle.draid_machine.proofs.Rows.{reached_sound}
use Rattle.draid_machine.proofs.Small.{absurd_test, any_at, bool_cases, both_true, filter_has, four_true, is_below, key_other, key_refl, key_true, none_some, not_false, some_same, true_both, true_left, true_right}
use Rattle.draid_segments.specs.Acts.{is_on_clean, is_settled}
use Rattle.draid_segments.specs.Segments.{sector_at}
use Rattle.draid_session.specs.Follows.{HarmBy}
use Rattle.draid_session.specs.Landing.{LeavesClean}
use Rattle.draid_session.specs.Twice.{ArmsLieWell}
use Rattle.draid_session.specs.Undisturbed.{LiesWell}
use Rattle.draid_session.proofs.Rebuilt.{below_has}
use Rattle.draid_session.proofs.Undisturbed.{fails_none, lands_all, lies_none}
use Rattle.draid_session.proofs.Unrepaired.{taken_from}

abbrev pub Harm : Type 0
Harm = ℕ → ℕ → Bool

abbrev pub IsOfScrub : Event → Type 0
IsOfScrub (event.Plan Heal) = ⊤
IsOfScrub (event.Lend failed) = ⊤
IsOfScrub (event.LandBlock pass serial failed patched unreadable) = ⊤
IsOfScrub (event.Done failed) = ⊤
IsOfScrub e = ⊥

-- ---- numbers

low_min : (a b : ℕ) → min a b ≡ 0 → 0 < b → a ≡ 0
low_min a b none some = omega (arith, none, some)

no_errors : (a b : ℕ) → capped (a + b) ≡ 0 → (a ≡ 0) × (b ≡ 0)
no_errors a b none =
    let sum : a + b ≡ 0 = low_min (a + b) LAST_NUMBER none (omega arith) in
    (omega (arith, sum), omega (arith, sum))

none_of : (xs : List ℕ) → length xs ≡ 0 → xs ≡ []
none_of [] none = refl
none_of (x ∷ xs) none = absurd (omega (arith, none))

takes_it : (h : Held) (x : ℕ) → h.first ≤ x → x < h.first + h.stripes → takes h x ≡ true
takes_it h x from to = grind (arith, nat_tests, from, to)

aside_low : (key on both a c : Bool) → key ≡ true → on ≡ true → both ≡ true → (if not key then a else if on then not both else c) ≡ false
aside_low key on both a c x y z = rw (x, y, z) refl

pub ended_heal : (l : machine.Layout) (q : machine.Core) (p : machine.Pass) (failed : List ℕ) → p.kind ≡ Heal → ended_pass l q p failed ≡ p
ended_heal l q p failed heal = by (is_heal p.kind) (ap is_heal heal)
  where
    by : (b : Bool) → b ≡ true → (if b then p else lose_some (lies_on l q (is_silent q failed)) p) ≡ p
    by true is = refl
    by false is = absurd (true≢false (sym is))

lent_it : (p : machine.Pass) (h : Held) → p.kind ≡ Heal → is_block h.stage ≡ true → h.birth ≤ p.max → is_lent p h ≡ true
lent_it p h heal block birth = rw (heal, block) (low h.birth p.max birth)
  where
    low : (a b : ℕ) → a ≤ b → nat_le a b ≡ true
    low a b less = grind (arith, nat_tests, less)

-- ---- what an event of a scrub leaves

module _ (l : machine.Layout) where
  pub record Keeps (w new : machine.State) : Type 0 where
    pub order : new.core.order ≡ w.core.order
    pub held : new.core.held ≡ w.core.held
    pub committed : new.committed ≡ w.committed
    pub logs : (n : ArmName) (g : ℕ) → logged (w.core.arm n) g ≡ false → logged (new.core.arm n) g ≡ false
    pub leaves : (m : ℕ) → leaf_answers new.core m ≡ leaf_answers w.core m

  not_filled : (last : ℕ) (o : Option machine.Arm) (g : ℕ) → logged o g ≡ false → logged (map_arm (fill_if false last) o) g ≡ false
  not_filled last None g none = none
  not_filled last (Some a) g none = none

  excised : (b : Bool) (last : ℕ) (o : Option machine.Arm) (g : ℕ) → logged o g ≡ false → logged (map_arm (excise_if b last) o) g ≡ false
  excised b last None g none = none
  excised b last (Some a) g none = rw none refl

  filled_leaf : (last : ℕ) (o : Option machine.Arm) → (is_here (map_arm (fill_if false last) o) && online (map_arm (fill_if false last) o)) ≡ (is_here o && online o)
  filled_leaf last None = refl
  filled_leaf last (Some a) = refl

  excised_leaf : (last : ℕ) (b : Bool) (o : Option machine.Arm) → (is_here (map_arm (excise_if b last) o) && online (map_arm (excise_if b last) o)) ≡ (is_here o && online o)
  excised_leaf last b None = refl
  excised_leaf last b (Some a) = refl

  pub keeps : (w : machine.State) (e : Event) (new : machine.State) → IsOfScrub e → Step l w e new → Keeps w new
  keeps w (event.Plan Heal) new of s = subst (Keeps w) (sym s.made) (record {
    order = refl;
    held = refl;
    committed = refl;
    logs = λ n g none. not_filled (w.open_group + 1) (w.core.arm n) g none;
    leaves = λ m. filled_leaf (w.open_group + 1) (w.core.arm (Leaf m));
  })
  keeps w (event.Lend failed) new of s = subst (Keeps w) (sym s.made) (record { order = refl; held = refl; committed = refl; logs = λ n g none. none; leaves = λ m. refl })
  keeps w (event.LandBlock pass serial failed patched true) new of s = subst (Keeps w) (sym s.made) (record { order = refl; held = refl; committed = refl; logs = λ n g none. none; leaves = λ m. refl })
  keeps w (event.LandBlock pass serial failed patched false) new of s = subst (Keeps w) (sym s.made) (record { order = refl; held = refl; committed = refl; logs = λ n g none. none; leaves = λ m. refl })
  keeps w (event.Done failed) new of s =
      let p = ended_pass l w.core s.p failed.items in
      subst (Keeps w) (sym s.made) (record {
        order = refl;
        held = refl;
        committed = refl;
        logs = λ n g none. excised ((p.errors == 0) && has_name p.targets n) p.max (w.core.arm n) g none;
        leaves = λ m. excised_leaf p.max ((p.errors == 0) && has_name p.targets (Leaf m)) (w.core.arm (Leaf m));
      })
  keeps w e new of s = absurd of

  -- harm doesn't come
  pub harm_low : (w : machine.State) (e : Event) (new : machine.State) (a b : Harm) → IsOfScrub e → HarmBy l w e new a b → (leaf sector : ℕ) → a leaf sector ≡ false → b leaf sector ≡ false
  harm_low w (event.Plan Heal) new a b of it leaf sector none = sym (it.harm_after leaf sector) ∙ (ap (λ (t : Told). t.harmed leaf sector) it.acts ∙ (it.harm_before leaf sector ∙ none))
  harm_low w (event.Lend failed) new a b of it leaf sector none = sym (it.harm_after leaf sector) ∙ (ap (λ (t : Told). t.harmed leaf sector) it.acts ∙ (it.harm_before leaf sector ∙ none))
  harm_low w (event.LandBlock pass serial failed patched true) new a b of it leaf sector none =
      sym (it.harm_after leaf sector) ∙ (ap (λ (t : Told). t.harmed leaf sector) it.acts ∙ (it.harm_before leaf sector ∙ none))
  harm_low w (event.LandBlock pass serial failed patched false) new a b of it leaf sector none = elim (it.acts.harm leaf sector) [
    | inl same ↦ sym (it.harm_after leaf sector) ∙ (same ∙ (it.harm_before leaf sector ∙ none))
    | inr there ↦
        let both = both_true it.step.whole (is_settled l w.core it.step.n it.step.h patched.items there.s) there.is in
        sym (it.harm_after leaf sector)
        ∙ subst (λ m. it.after.harmed m sector ≡ false) there.leaf_is (subst (λ k. it.after.harmed there.s.leaf k ≡ false) there.sector_is (it.acts.settled_harm there.s both.0 both.1))
  ]
  harm_low w (event.Done failed) new a b of it leaf sector none = sym (it.harm_after leaf sector) ∙ (it.acts.same.harm leaf sector refl ∙ (it.harm_before leaf sector ∙ none))
  harm_low w e new a b of it leaf sector none = absurd of

  -- ---- arms that lie well

  pub answers_well : (q : machine.Core) (n : ArmName) (x : ℕ) → LiesWell l q n → has_column l q n x ≡ true → answers l q n x ≡ true
  answers_well q (Leaf m) x well column = well
  answers_well q (Spare t) x well column = well x column

  well_still : (w new : machine.State) → Keeps w new → (n : ArmName) → LiesWell l w.core n → LiesWell l new.core n
  well_still w new k (Leaf m) well = k.leaves m ∙ well
  well_still w new k (Spare t) well = λ x column.
      (λ i. passes (leaf_at l (k.order i) (Spare t) x) (λ m. k.leaves m i))
      ∙ well x (subst (λ (order : ℕ → List ArmName). any_below l.columns (λ c. has_name (order (l.slot_of x c)) (Spare t)) ≡ true) k.order column)

  pub wells_still : (w new : machine.State) → Keeps w new → ArmsLieWell l w.core → ArmsLieWell l new.core
  wells_still w new k well slot n listed = well_still w new k n (well slot n (subst (λ (order : ℕ → List ArmName). has_name (order slot) n ≡ true) k.order listed))

  -- ---- what is known of blocks

  -- no segment of a block at its place is harmed or in doubt
  pub record IsSpotless (w : machine.State) (harm : Harm) (k : Key) (h : Held) : Type 0 where
    pub sure : (s : Segment) → s.key ≡ k → is_on l w.core.order s h ≡ true → w.aside s ≡ false
    pub calm : (s : Segment) → s.key ≡ k → is_on l w.core.order s h ≡ true → harm s.leaf (sector_at l h s) ≡ false

  -- a block, live or freed, that was born up to the committed group
  pub record IsCommitted (w : machine.State) (k : Key) (h : Held) : Type 0 where
    pub held : w.core.held k ≡ Some h
    pub block : is_block h.stage ≡ true
    pub birth : h.birth ≤ w.committed

  was_committed : (w new : machine.State) (k : Key) (h : Held) → Keeps w new → IsCommitted new k h → IsCommitted w k h
  was_committed w new k h keep is = record {
    held = ap (λ (f : Key → Option Held). f k) (sym keep.held) ∙ is.held;
    block = is.block;
    birth = subst (λ g. h.birth ≤ g) keep.committed is.birth;
  }

  spotless_still : (w new : machine.State) (a b : Harm) (k : Key) (h : Held) → Keeps w new → ((s : Segment) → s.key ≡ k → is_on l w.core.order s h ≡ true → w.aside s ≡ false → new.aside s ≡ false)
      → ((leaf sector : ℕ) → a leaf sector ≡ false → b leaf sector ≡ false) → IsSpotless w a k h → IsSpotless new b k h
  spotless_still w new a b k h keep sure calm is = record {
    sure = λ s own on. (let there = was s on in sure s own there (is.sure s own there));
    calm = λ s own on. calm s.leaf (sector_at l h s) (is.calm s own (was s on));
  }
    where
      was : (s : Segment) → is_on l new.core.order s h ≡ true → is_on l w.core.order s h ≡ true
      was s on = subst (λ (order : ℕ → List ArmName). is_on l order s h ≡ true) keep.order on

  parts_on : (order : ℕ → List ArmName) (s : Segment) (h : Held) → is_on l order s h ≡ true → (has_name (order (l.slot_of h.first s.column)) s.arm ≡ true) × (s.column < l.columns) × (s.row < h.stripes)
  parts_on order s h on =
      let four = four_true (has_name (order (l.slot_of h.first s.column)) s.arm) (nat_lt s.column l.columns) (nat_lt s.row h.stripes) (lies l order s.arm (h.first + s.row) s.leaf) on in
      (four.0, is_below s.column l.columns four.1, is_below s.row h.stripes four.2)

  -- a block without stripes has no segment
  none_spotless : (w : machine.State) (harm : Harm) (k : Key) (h : Held) → h.stripes ≡ 0 → IsSpotless w harm k h
  none_spotless w harm k h none = record {
    sure = λ s own on. absurd (let row = (parts_on w.core.order s h on).2 in omega (arith, row, none));
    calm = λ s own on. absurd (let row = (parts_on w.core.order s h on).2 in omega (arith, row, none));
  }

  -- ---- behind a scrub

  -- all committed blocks are spotless, and no arm of a slot has missed a committed group
  pub record IsScrubbed (w : machine.State) (harm : Harm) : Type 0 where
    pub blocks : (k : Key) (h : Held) → IsCommitted w k h → IsSpotless w harm k h
    pub arms : (slot : ℕ) (n : ArmName) (g : ℕ) → has_name (w.core.order slot) n ≡ true → g ≤ w.committed → logged (w.core.arm n) g ≡ false

  scrubbed_by : (w new : machine.State) (a b : Harm) → Keeps w new → ((k : Key) (h : Held) → IsCommitted w k h → (s : Segment) → s.key ≡ k → is_on l w.core.order s h ≡ true → w.aside s ≡ false → new.aside s ≡ false)
      → ((leaf sector : ℕ) → a leaf sector ≡ false → b leaf sector ≡ false) → IsScrubbed w a → IsScrubbed new b
  scrubbed_by w new a b keep sure calm is = record {
    blocks = λ k h there. (let was = was_committed w new k h keep there in spotless_still w new a b k h keep (sure k h was) calm (is.blocks k h was));
    arms = λ slot n g listed low. keep.logs n g (is.arms slot n g (subst (λ (order : ℕ → List ArmName). has_name (order slot) n ≡ true) keep.order listed) (subst (λ c. g ≤ c) keep.committed low));
  }

  same_aside : (w new : machine.State) → new.aside ≡ w.aside → (s : Segment) → w.aside s ≡ false → new.aside s ≡ false
  same_aside w new same s is = ap (λ f. f s) same ∙ is

  -- a landing that writes on no clean arm
  module _ (w new : machine.State) (harm : Harm) (is : IsScrubbed w harm) (n : machine.Loan) (i : Held) (found : w.core.held n.key ≡ Some i) (patched : List Patched) (left : LeavesClean w.core i patched) where
    module _ (k : Key) (h : Held) (there : IsCommitted w k h) (s : Segment) (own : s.key ≡ k) (on : is_on l w.core.order s h ≡ true) (sure : w.aside s ≡ false) where
      same_held : key_eq n.key s.key ≡ true → h ≡ i
      same_held same = some_same (w.core.held k) h i there.held (subst (λ j. w.core.held j ≡ Some i) (key_true n.key s.key same ∙ own) found)

      clean : is_clean w.core h.birth s.arm ≡ true
      clean = not_false (logged (w.core.arm s.arm) h.birth) (is.arms (l.slot_of h.first s.column) s.arm h.birth (parts_on w.core.order s h on).0 there.birth)

      not_written : key_eq n.key s.key ≡ true → was_written patched s.column s.arm s.row ≡ false
      not_written same = elim (bool_cases (was_written patched s.column s.arm s.row)) [
        | inl at ↦ absurd_test (is_clean w.core h.birth s.arm) clean (subst (λ (j : Held). is_clean w.core j.birth s.arm ≡ false) (sym (same_held same)) (left s.column s.arm s.row at))
        | inr none ↦ none
      ]

      on_own : key_eq n.key s.key ≡ true → is_on l w.core.order s i ≡ true
      on_own same = subst (λ (j : Held). is_on l w.core.order s j ≡ true) (same_held same) on

      clean_own : key_eq n.key s.key ≡ true → is_clean w.core i.birth s.arm ≡ true
      clean_own same = subst (λ (j : Held). is_clean w.core j.birth s.arm ≡ true) (same_held same) clean

      whole_sure : (b : Bool) → key_eq n.key s.key ≡ b → aside_after l w n i patched true s ≡ false
      whole_sure false other = rw other sure
      whole_sure true same = rw (same, on_own same, clean_own same) refl

      part_sure : (b : Bool) → key_eq n.key s.key ≡ b → aside_after l w n i patched false s ≡ false
      part_sure false other = rw (sure, other) refl
      part_sure true same = rw (sure, same, on_own same, not_written same) refl

      pub landing_sure : (b : Bool) → aside_after l w n i patched b s ≡ false
      landing_sure true = whole_sure (key_eq n.key s.key) refl
      landing_sure false = part_sure (key_eq n.key s.key) refl

  -- where a landing writes on no clean arm
  abbrev pub WritesNoClean : (w : machine.State) (e : Event) (new : machine.State) → Step l w e new → Type 0
  WritesNoClean w (event.LandBlock pass serial failed patched false) new s = LeavesClean w.core s.h patched.items
  WritesNoClean w e new s = ⊤

  pub scrubbed_still : (w : machine.State) (e : Event) (new : machine.State) (a b : Harm) → IsOfScrub e → (s : Step l w e new) → WritesNoClean w e new s → HarmBy l w e new a b → IsScrubbed w a → IsScrubbed new b
  scrubbed_still w (event.Plan Heal) new a b of s left harm is =
      scrubbed_by w new a b (keeps w (event.Plan Heal) new of s) (λ k h there t own on sure. same_aside w new (ap (λ (x : machine.State). x.aside) s.made) t sure) (harm_low w (event.Plan Heal) new a b of harm) is
  scrubbed_still w (event.Lend failed) new a b of s left harm is =
      scrubbed_by w new a b (keeps w (event.Lend failed) new of s) (λ k h there t own on sure. same_aside w new (ap (λ (x : machine.State). x.aside) s.made) t sure) (harm_low w (event.Lend failed) new a b of harm) is
  scrubbed_still w (event.LandBlock pass serial failed patched true) new a b of s left harm is =
      scrubbed_by w new a b (keeps w (event.LandBlock pass serial failed patched true) new of s) (λ k h there t own on sure. same_aside w new (ap (λ (x : machine.State). x.aside) s.made) t sure)
      (harm_low w (event.LandBlock pass serial failed patched true) new a b of harm) is
  scrubbed_still w (event.LandBlock pass serial failed patched false) new a b of s left harm is =
      scrubbed_by w new a b (keeps w (event.LandBlock pass serial failed patched false) new of s)
      (λ k h there t own on sure. ap (λ (x : machine.State). x.aside t) s.made ∙ landing_sure w new a is s.n s.h s.counts.found patched.items left k h there t own on sure s.whole)
      (harm_low w (event.LandBlock pass serial failed patched false) new a b of harm) is
  scrubbed_still w (event.Done failed) new a b of s left harm is =
      scrubbed_by w new a b (keeps w (event.Done failed) new of s) (λ k h there t own on sure. same_aside w new (ap (λ (x : machine.State). x.aside) s.made) t sure) (harm_low w (event.Done failed) new a b of harm) is
  scrubbed_still w e new a b of s left harm is = absurd of

  -- ---- while it scrubs

  -- of a pass each arm of a slot is a target, and the committed blocks below its place are spotless
  pub record HasUpto (w : machine.State) (harm : Harm) (p : machine.Pass) : Type 0 where
    pub targets : (slot : ℕ) (n : ArmName) → has_name (w.core.order slot) n ≡ true → has_name p.targets n ≡ true
    pub blocks : (k : Key) (h : Held) → IsCommitted w k h → h.first + h.stripes ≤ p.next → IsSpotless w harm k h

  -- a pass that is there is a scrub up to the committed group, and is so as long as it has no error
  pub record IsScrubbing (w : machine.State) (harm : Harm) : Type 0 where
    pub well : ArmsLieWell l w.core
    pub heal : (p : machine.Pass) → w.core.pass ≡ Some p → (p.kind ≡ Heal) × (p.max ≡ w.committed)
    pub upto : (p : machine.Pass) → w.core.pass ≡ Some p → p.errors ≡ 0 → HasUpto w harm p

  -- with one pass, of which this is known
  scrubbing_by : (new : machine.State) (harm : Harm) (p : machine.Pass) → ArmsLieWell l new.core → new.core.pass ≡ Some p → p.kind ≡ Heal → p.max ≡ new.committed → (p.errors ≡ 0 → HasUpto new harm p) → IsScrubbing new harm
  scrubbing_by new harm p well there kind max upto = record {
    well = well;
    heal = λ r is. subst (λ (z : machine.Pass). (z.kind ≡ Heal) × (z.max ≡ new.committed)) (some_same new.core.pass p r there is) (kind, max);
    upto = λ r is. subst (λ (z : machine.Pass). z.errors ≡ 0 → HasUpto new harm z) (some_same new.core.pass p r there is) upto;
  }

  upto_still : (w new : machine.State) (a b : Harm) (p r : machine.Pass) → Keeps w new → ((s : Segment) → w.aside s ≡ false → new.aside s ≡ false) → ((leaf sector : ℕ) → a leaf sector ≡ false → b leaf sector ≡ false)
      → r.targets ≡ p.targets → r.next ≡ p.next → HasUpto w a p → HasUpto new b r
  upto_still w new a b p r keep sure calm targets next is = record {
    targets = λ slot n listed. subst (λ ns. has_name ns n ≡ true) (sym targets) (is.targets slot n (subst (λ (order : ℕ → List ArmName). has_name (order slot) n ≡ true) keep.order listed));
    blocks = λ k h there low. (let was = was_committed w new k h keep there in
        spotless_still w new a b k h keep (λ s own on. sure s) calm (is.blocks k h was (subst (λ x. h.first + h.stripes ≤ x) next low)));
  }

  module _ (lay : machine.IsLayout l) (w : machine.State) (reached : IsReached l w) where
    -- each arm of a slot is taken as a target
    all_targets : ArmsLieWell l w.core → (slot : ℕ) (n : ArmName) → has_name (w.core.order slot) n ≡ true → has_name (targets_of l w.core Heal) n ≡ true
    all_targets well slot n listed =
        let fits = every_fit l w lay reached in
        filter_has (is_target l w.core Heal) (arms_below w.core.order l.slots) n (below_has n w.core.order l.slots slot (fits.core.order.slots slot n listed) listed)
        (not_false (lies_on l w.core (is_silent w.core []) n) (lies_none l w.core n (well slot n listed)))

    pub plan_scrubs : (new : machine.State) (a b : Harm) → (s : Step l w (event.Plan Heal) new) → HarmBy l w (event.Plan Heal) new a b → IsScrubbing w a → IsScrubbing new b
    plan_scrubs new a b s harm is =
        let keep = keeps w (event.Plan Heal) new tt s in
        let p = planned_pass w Heal (targets_of l w.core Heal) in
        scrubbing_by new b p (wells_still w new keep is.well) (ap (λ (x : machine.State). x.core.pass) s.made) refl (sym keep.committed) (λ none. record {
          targets = λ slot n listed. all_targets is.well slot n (subst (λ (order : ℕ → List ArmName). has_name (order slot) n ≡ true) keep.order listed);
          blocks = λ k h there low. none_spotless new b k h (omega (arith, low));
        })

    pub lend_scrubs : (new : machine.State) (a b : Harm) (failed : _) → (s : Step l w (event.Lend failed) new) → HarmBy l w (event.Lend failed) new a b → IsScrubbing w a → IsScrubbing new b
    lend_scrubs new a b failed s harm is =
        let keep = keeps w (event.Lend failed) new tt s in
        let p : machine.Pass = record s.p { errors = capped (s.p.errors + lend_errors s.p.kind failed.items) } in
        let heal = is.heal s.p s.pass in
        scrubbing_by new b p (wells_still w new keep is.well) (ap (λ (x : machine.State). x.core.pass) s.made) heal.0 (heal.1 ∙ sym keep.committed) (λ none.
        upto_still w new a b s.p p keep (same_aside w new (ap (λ (x : machine.State). x.aside) s.made)) (harm_low w (event.Lend failed) new a b tt harm) refl refl
        (is.upto s.p s.pass (no_errors s.p.errors (lend_errors s.p.kind failed.items) none).0))

    -- ---- a landing

    pub pass_scrubs : (new : machine.State) (a b : Harm) (pass serial : ℕ) (failed patched : _) → (s : Step l w (event.LandBlock pass serial failed patched true) new) → HarmBy l w (event.LandBlock pass serial failed patched true) new a b
        → IsScrubbing w a → IsScrubbing new b
    pass_scrubs new a b pass serial failed patched s harm is =
        let keep = keeps w (event.LandBlock pass serial failed patched true) new tt s in
        let p : machine.Pass = record s.p { next = s.h.first + s.h.stripes; errors = capped (s.p.errors + 1) } in
        let heal = is.heal s.p s.counts.pass_is in
        scrubbing_by new b p (wells_still w new keep is.well) (ap (λ (x : machine.State). x.core.pass) s.made) heal.0 (heal.1 ∙ sym keep.committed) (λ none.
        absurd (let one = (no_errors s.p.errors 1 none).1 in omega (arith, one)))

    module _ (new : machine.State) (a b : Harm) (pass serial : ℕ) (failed : _) (patched : _) (harm : HarmBy l w (event.LandBlock pass serial failed patched false) new a b) (is : IsScrubbing w a) where
      abbrev t : LandBlockStep l w pass serial failed.items patched.items false new
      t = harm.step

      keep : Keeps w new
      keep = keeps w (event.LandBlock pass serial failed patched false) new tt harm.step

      module _ (calm : failed.items ≡ []) (before : HasUpto w a t.p) where
        not_failed : (n : ArmName) (x : ℕ) → fails l w.core failed.items n x ≡ false
        not_failed n x = subst (λ fs. fails l w.core fs n x ≡ false) (sym calm) (fails_none (leaf_at l w.core.order n x))

        answers_there : (c : ℕ) (n : ArmName) → c < l.columns → has_name (w.core.order (l.slot_of t.h.first c)) n ≡ true → answers l w.core n t.h.first ≡ true
        answers_there c n less listed =
            answers_well w.core n t.h.first (is.well (l.slot_of t.h.first c) n listed) (any_at l.columns (λ d. has_name (w.core.order (l.slot_of t.h.first d)) n) c less listed)

        whole : t.whole ≡ true
        whole = elim (bool_cases t.whole) [
          | inl all ↦ all
          | inr part ↦ absurd (t.not_whole part (λ c n less listed clean. (answers_there c n less listed, not_failed n t.h.first)))
        ]

        -- each segment of the block was read or written
        settled : (s : Segment) → s.key ≡ t.n.key → is_on l w.core.order s t.h ≡ true → (is_clean w.core t.h.birth s.arm || has_healed l w.core t.n t.h patched.items s) ≡ true
        settled s own on = by (is_clean w.core t.h.birth s.arm) refl
          where
            healed : is_clean w.core t.h.birth s.arm ≡ false → has_healed l w.core t.n t.h patched.items s ≡ true
            healed dirty =
                let at = parts_on w.core.order s t.h on in
                let written = t.lands.dirty s.column s.arm s.row at.1 at.2 at.0 (answers_there s.column s.arm at.1 at.0) dirty in
                true_both (key_eq t.n.key s.key && is_on l w.core.order s t.h) (has_landed patched.items s.column s.arm s.row)
                (true_both (key_eq t.n.key s.key) (is_on l w.core.order s t.h) (subst (λ k. key_eq t.n.key k ≡ true) (sym own) (key_refl t.n.key)) on)
                (t.lands.lands s.column s.arm s.row written (not_failed s.arm t.h.first))

            by : (c : Bool) → is_clean w.core t.h.birth s.arm ≡ c → (is_clean w.core t.h.birth s.arm || has_healed l w.core t.n t.h patched.items s) ≡ true
            by true clean = true_left (is_clean w.core t.h.birth s.arm) (has_healed l w.core t.n t.h patched.items s) clean
            by false dirty = true_right (is_clean w.core t.h.birth s.arm) (has_healed l w.core t.n t.h patched.items s) (healed dirty)

        new_aside : (s : Segment) → new.aside s ≡ aside_after l w t.n t.h patched.items true s
        new_aside s = ap (λ (x : machine.State). x.aside s) t.made ∙ ap (λ c. aside_after l w t.n t.h patched.items c s) whole

        own_spotless : (k : Key) → t.n.key ≡ k → IsSpotless new b k t.h
        own_spotless k same = record {
          sure = λ s own on. (let here = own ∙ sym same in let at = there s on in new_aside s ∙ sure_by s (subst (λ j. key_eq t.n.key j ≡ true) (sym here) (key_refl t.n.key)) at (settled s here at));
          calm = λ s own on. (let here = own ∙ sym same in let at = there s on in
              sym (harm.harm_after s.leaf (sector_at l t.h s)) ∙ harm.acts.settled_harm s whole (settled_by s (subst (λ j. key_eq t.n.key j ≡ true) (sym here) (key_refl t.n.key)) at (settled s here at)));
        }
          where
            there : (s : Segment) → is_on l new.core.order s t.h ≡ true → is_on l w.core.order s t.h ≡ true
            there s on = subst (λ (order : ℕ → List ArmName). is_on l order s t.h ≡ true) keep.order on

            sure_by : (s : Segment) → key_eq t.n.key s.key ≡ true → is_on l w.core.order s t.h ≡ true → (is_clean w.core t.h.birth s.arm || has_healed l w.core t.n t.h patched.items s) ≡ true
                → aside_after l w t.n t.h patched.items true s ≡ false
            sure_by s same on all =
                aside_low (key_eq t.n.key s.key) (is_on l w.core.order s t.h) (is_clean w.core t.h.birth s.arm || has_healed l w.core t.n t.h patched.items s) (w.aside s) (w.aside s || w.present s) same on all

            settled_by : (s : Segment) → key_eq t.n.key s.key ≡ true → is_on l w.core.order s t.h ≡ true → (is_clean w.core t.h.birth s.arm || has_healed l w.core t.n t.h patched.items s) ≡ true
                → is_settled l w.core t.n t.h patched.items s ≡ true
            settled_by s same on all = either (is_clean w.core t.h.birth s.arm) refl
              where
                either : (c : Bool) → is_clean w.core t.h.birth s.arm ≡ c → is_settled l w.core t.n t.h patched.items s ≡ true
                either true well = true_left (is_on_clean l w.core t.n t.h s) (has_healed l w.core t.n t.h patched.items s)
                    (true_both (key_eq t.n.key s.key && is_on l w.core.order s t.h) (is_clean w.core t.h.birth s.arm) (true_both (key_eq t.n.key s.key) (is_on l w.core.order s t.h) same on) well)
                either false dirty = true_right (is_on_clean l w.core t.n t.h s) (has_healed l w.core t.n t.h patched.items s) (subst (λ c. (c || has_healed l w.core t.n t.h patched.items s) ≡ true) dirty all)

        -- another block below the place where the pass goes on was below before
        was_below : (k : Key) (h : Held) → IsCommitted w k h → key_eq t.n.key k ≡ false → 0 < h.stripes → h.first + h.stripes ≤ t.h.first + t.h.stripes → h.first + h.stripes ≤ t.p.next
        was_below k h there other some low = elim (cases_lt t.p.next (h.first + h.stripes)) [
          | inr ge ↦ ge
          | inl past ↦ absurd (clash past)
        ]
          where
            clash : t.p.next < h.first + h.stripes → ⊥
            clash past =
                let fits = (reached_sound l lay w reached).loan t.n t.counts.loan in
                let same : fits.p ≡ t.p = some_same w.core.pass fits.p t.p fits.pass t.counts.pass_is in
                let held : fits.h ≡ t.h = some_same (w.core.held t.n.key) fits.h t.h fits.found t.counts.found in
                let taken : takes t.h t.n.stripe ≡ true = subst (λ (i : Held). takes i t.n.stripe ≡ true) held fits.taken in
                let own : takes h (h.first + h.stripes - 1) ≡ true = takes_it h (h.first + h.stripes - 1) (omega (arith, some)) (omega (arith, some)) in
                let max = (is.heal t.p t.counts.pass_is).1 in
                let birth = there.birth in
                elim (cases_lt (h.first + h.stripes - 1) t.n.stripe) [
                  | inl lt ↦ fits.clear k h (h.first + h.stripes - 1) there.held there.block (subst (λ (p : machine.Pass). h.birth ≤ p.max) (sym same) (omega (arith, max, birth))) own
                      (subst (λ (p : machine.Pass). p.next ≤ h.first + h.stripes - 1) (sym same) (omega (arith, past))) lt
                  | inr ge ↦
                      let from = taken_from t.h t.n.stripe taken in
                      let both : takes t.h (h.first + h.stripes - 1) ≡ true = takes_it t.h (h.first + h.stripes - 1) (omega (arith, from, ge)) (omega (arith, low, some)) in
                      key_other t.n.key k other ((reached_sound l lay w reached).core.apart t.n.key k t.h h (h.first + h.stripes - 1) t.counts.found there.held both own)
                ]

        other_sure : (k : Key) → key_eq t.n.key k ≡ false → (s : Segment) → s.key ≡ k → w.aside s ≡ false → new.aside s ≡ false
        other_sure k other s own sure = new_aside s ∙ by (subst (λ j. key_eq t.n.key j ≡ false) (sym own) other)
          where
            by : key_eq t.n.key s.key ≡ false → aside_after l w t.n t.h patched.items true s ≡ false
            by is = rw is sure

        landed_blocks : (k : Key) (h : Held) → IsCommitted new k h → h.first + h.stripes ≤ t.h.first + t.h.stripes → IsSpotless new b k h
        landed_blocks k h there low = by (key_eq t.n.key k) refl
          where
            was : IsCommitted w k h
            was = was_committed w new k h keep there

            other : key_eq t.n.key k ≡ false → (0 < h.stripes) ⊎ (h.stripes ≤ 0) → IsSpotless new b k h
            other differs (inl some) = spotless_still w new a b k h keep (λ s own on. other_sure k differs s own) (harm_low w (event.LandBlock pass serial failed patched false) new a b tt harm)
                (before.blocks k h was (was_below k h was differs some low))
            other differs (inr none) = none_spotless new b k h (omega (arith, none))

            by : (c : Bool) → key_eq t.n.key k ≡ c → IsSpotless new b k h
            by true same =
                let own = key_true t.n.key k same in
                subst (IsSpotless new b k) (some_same (w.core.held k) t.h h (subst (λ j. w.core.held j ≡ Some t.h) own t.counts.found) was.held) (own_spotless k own)
            by false differs = other differs (cases_lt 0 h.stripes)

        kept_target : (slot : ℕ) (n : ArmName) → has_name (w.core.order slot) n ≡ true → misses_block l w.core t.h failed.items n ≡ false
        kept_target slot n listed = subst (λ fs. misses_block l w.core t.h fs n ≡ false) (sym calm) (lands_all l w.core t.h.first n (is.well slot n listed))

      pub land_scrubs : IsScrubbing new b
      land_scrubs =
          let p : machine.Pass = record t.p { targets = filter (λ n. not (misses_block l w.core t.h failed.items n)) t.p.targets; errors = capped (t.p.errors + length failed.items); next = t.h.first + t.h.stripes } in
          let heal = is.heal t.p t.counts.pass_is in
          scrubbing_by new b p (wells_still w new keep is.well) (ap (λ (x : machine.State). x.core.pass) t.made) heal.0 (heal.1 ∙ sym keep.committed) (λ none.
          (let zero = no_errors t.p.errors (length failed.items) none in
          let calm = none_of failed.items zero.1 in
          let before = is.upto t.p t.counts.pass_is zero.0 in
          record {
            targets = λ slot n listed. (let was = subst (λ (order : ℕ → List ArmName). has_name (order slot) n ≡ true) keep.order listed in
                filter_has (λ m. not (misses_block l w.core t.h failed.items m)) t.p.targets n (before.targets slot n was) (not_false (misses_block l w.core t.h failed.items n) (kept_target calm before slot n was)));
            blocks = λ k h there low. landed_blocks calm before k h there low;
          }))

    -- ---- its end

    pub done_scrubs : (new : machine.State) (a b : Harm) (failed : _) → (s : Step l w (event.Done failed) new) → HarmBy l w (event.Done failed) new a b → IsScrubbing w a → IsScrubbing new b
    done_scrubs new a b failed s harm is =
        let none : new.core.pass ≡ None = ap (λ (x : machine.State). x.core.pass) s.made in
        record {
          well = wells_still w new (keeps w (event.Done failed) new tt s) is.well;
          heal = λ p there. absurd (none_some new.core.pass p none there);
          upto = λ p there. absurd (none_some new.core.pass p none there);
        }

    out : (m : Bool) (x g last : ℕ) → x ≡ 0 → m ≡ true → g ≤ last → (((x == 0) && m) && nat_le g last) ≡ true
    out m x g last none target low = grind (arith, nat_tests, none, target, low)

    cut : (c : Bool) (last g : ℕ) (o : Option machine.Arm) → (c && nat_le g last) ≡ true → logged (map_arm (excise_if c last) o) g ≡ false
    cut c last g None both = refl
    cut c last g (Some arm) both = rw both (off (arm.log g))
      where
        off : (m : Bool) → (m && false) ≡ false
        off true = refl
        off false = refl

    -- without errors the metaslab is scrubbed then
    pub done_scrubbed : (new : machine.State) (a b : Harm) (failed : _) → (s : Step l w (event.Done failed) new) → HarmBy l w (event.Done failed) new a b → s.p.errors ≡ 0 → IsScrubbing w a → IsScrubbed new b
    done_scrubbed new a b failed s harm none is =
        let keep = keeps w (event.Done failed) new tt s in
        let heal = is.heal s.p s.pass in
        let upto = is.upto s.p s.pass none in
        record {
          blocks = λ k h there. (let was = was_committed w new k h keep there in
              spotless_still w new a b k h keep (λ t own on. same_aside w new (ap (λ (x : machine.State). x.aside) s.made) t) (harm_low w (event.Done failed) new a b tt harm) (reaches k h was (cases_lt 0 h.stripes) upto heal));
          arms = λ slot n g listed low. (let at = subst (λ (order : ℕ → List ArmName). has_name (order slot) n ≡ true) keep.order listed in
              let least = subst (λ c. g ≤ c) keep.committed low in
              subst (λ (x : machine.State). logged (x.core.arm n) g ≡ false) (sym s.made) (gone n g (s.p.kind) refl heal (upto.targets slot n at) least));
        }
      where
        gone : (n : ArmName) (g : ℕ) (kind : PassKind) → s.p.kind ≡ kind → (s.p.kind ≡ Heal) × (s.p.max ≡ w.committed) → has_name s.p.targets n ≡ true → g ≤ w.committed
            → logged (map_arm (excise_if (((ended_pass l w.core s.p failed.items).errors == 0) && has_name (ended_pass l w.core s.p failed.items).targets n) (ended_pass l w.core s.p failed.items).max) (w.core.arm n)) g ≡ false
        gone n g kind at heal target low =
            let max = heal.1 in
            subst (λ (p : machine.Pass). logged (map_arm (excise_if ((p.errors == 0) && has_name p.targets n) p.max) (w.core.arm n)) g ≡ false) (sym ended)
            (cut ((s.p.errors == 0) && has_name s.p.targets n) s.p.max g (w.core.arm n) (out (has_name s.p.targets n) s.p.errors g s.p.max none target (omega (arith, low, max))))
          where
            ended : ended_pass l w.core s.p failed.items ≡ s.p
            ended = ended_heal l w.core s.p failed.items heal.0

        reaches : (k : Key) (h : Held) → IsCommitted w k h → (0 < h.stripes) ⊎ (h.stripes ≤ 0) → HasUpto w a s.p → (s.p.kind ≡ Heal) × (s.p.max ≡ w.committed) → IsSpotless w a k h
        reaches k h was (inr empty) upto heal = none_spotless w a k h (omega (arith, empty))
        reaches k h was (inl some) upto heal =
            let max = heal.1 in
            let birth = was.birth in
            let last = s.finished k h (h.first + h.stripes - 1) was.held (lent_it s.p h heal.0 was.block (omega (arith, max, birth))) (takes_it h (h.first + h.stripes - 1) (omega (arith, some)) (omega (arith, some))) in
            upto.blocks k h was (omega (arith, last, some))
