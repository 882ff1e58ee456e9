-- The landing of a scrub's block.
use Rattle.std.proofs.Common.{◌≡◌, ◌+◌, ◌&&◌, ◌||◌, not, ℕ, Bool, true, false, List, Option, Some, None, if◌then◌else◌, refl, sym, ◌∙◌, ap, ap₂, option_map}
use Rattle.draid_machine.specs.declared.names.Held.{Held}
use Rattle.draid_machine.specs.declared.event.Patched.{Patched}
use Rattle.draid_machine.specs.State.{Layout, Loan, State}
use Rattle.draid_machine.specs.After.{capped, heal_state, land_block_state, pass_over}
use Rattle.draid_machine.specs.Step.{LandBlockStep}
use Rattle.draid_machine.proofs.Small.{some_injective}
use Rattle.draid_passes.proofs.Endings.{pass_same}
use Rattle.draid_world.specs.declared.world.Lent.{Lent}
use Rattle.draid_world.specs.declared.world.World.{World}
use Rattle.draid_world.specs.declared.world.WorldPass.{WorldPass}
use Rattle.draid_world.specs.World.{core_of, loan_of, pass_of, state_of}
use Rattle.draid_scrubs.specs.Scrubs.{MayLandBlock, healed_pass, healed_state}
use Rattle.draid_scrubs.specs.Wholes.{AreColumnsWhole}

not_not : (b : Bool) → b ≡ not (not b)
not_not true = refl
not_not false = refl

-- doubt after a whole landing: the block's other segments join, what the block has goes, and what isn't clean and didn't land joins again
pub whole_bits : (a k on p clean landed : Bool)
    → (((a || (p && k)) && not (k && on)) || ((k && on) && (not clean && not landed)))
    ≡ (if not k then a else if on then not (clean || ((k && on) && landed)) else a || p)
whole_bits true false on p clean landed = refl
whole_bits false false on true clean landed = refl
whole_bits false false on false clean landed = refl
whole_bits true true true p true landed = refl
whole_bits true true true p false true = refl
whole_bits true true true p false false = refl
whole_bits false true true true true landed = refl
whole_bits false true true true false true = refl
whole_bits false true true true false false = refl
whole_bits false true true false true landed = refl
whole_bits false true true false false true = refl
whole_bits false true true false false false = refl
whole_bits true true false p clean landed = refl
whole_bits false true false true clean landed = refl
whole_bits false true false false clean landed = refl

pub whole_set : (a k on p logged landed present all doubts one two three : Bool) → present ≡ (p && k) → all ≡ (k && on) → doubts ≡ (all && (logged && not landed)) → one ≡ (a || present)
    → two ≡ (one && not all) → three ≡ (two || doubts)
    → three ≡ (if not k then a else if on then not (not logged || ((k && on) && landed)) else a || p)
whole_set a k on p logged landed present all doubts one two three s l d x y z =
    z ∙ ap₂ (λ u v. u || v) (y ∙ ap₂ (λ u v. u && not v) (x ∙ ap (λ b. a || b) s) l) (d ∙ ap₂ (λ u v. u && (v && not landed)) l (not_not logged))
    ∙ whole_bits a k on p (not logged) landed

loan_same : (o : Option Lent) (loan : Lent) (n : Loan) → o ≡ Some loan → option_map loan_of o ≡ Some n → n ≡ loan_of loan
loan_same o loan n is e = some_injective n (loan_of loan) (sym e ∙ ap (option_map loan_of) is)

pub step_may : (l : Layout) (w : State) (pass serial : ℕ) (failed : List ℕ) (patched : List Patched) (unreadable : Bool) (new : State) (step : LandBlockStep l w pass serial failed patched unreadable new)
    → MayLandBlock l w pass serial failed patched unreadable step.h
step_may l w pass serial failed patched unreadable new step = record { p = step.p; n = step.n; counts = step.counts; heal = step.heal; lands = step.lands }

pub land_unread : (l : Layout) (w : World) (pass serial : ℕ) (found : WorldPass) (loan : Lent) (h : Held) (failed : List ℕ) (patched : List Patched) (unreadable whole : Bool) (next errors : ℕ)
    → w.tables.pass ≡ Some found → w.loan ≡ Some loan → MayLandBlock l (state_of w) pass serial failed patched unreadable h → unreadable ≡ true
    → (whole ≡ true → AreColumnsWhole l (core_of w.tables) h failed l.columns) → (whole ≡ false → AreColumnsWhole l (core_of w.tables) h failed l.columns → ⊥)
    → next ≡ h.first + h.stripes → errors ≡ capped (found.errors + 1)
    → LandBlockStep l (state_of w) pass serial failed patched unreadable (state_of (record w { tables = record w.tables { pass = Some (record found { next = next; errors = errors }) }; loan = None }))
land_unread l w pass serial found loan h failed patched unreadable whole next errors is lent may unread all not_all behind sum =
    let at = pass_same w.tables.pass found may.p is may.counts.pass_is in
    let which = loan_same w.loan loan may.n lent may.counts.loan in
    record {
      p = may.p;
      n = may.n;
      h = h;
      whole = whole;
      counts = may.counts;
      heal = may.heal;
      lands = may.lands;
      is_whole = λ e c n less. all e c less n;
      not_whole = λ e wholly. not_all e (λ c less n. wholly c n less);
      made =
          ap₂ (λ x e. record (state_of w) { loan = None; core = record (core_of w.tables) { pass = Some (record (pass_of found) { next = x; errors = e }) } }) behind sum
          ∙ sym (ap (λ b. if b then pass_over (state_of w) (pass_of found) 1 (h.first + h.stripes) else heal_state l (state_of w) (pass_of found) (loan_of loan) h failed patched whole) unread)
          ∙ (λ i. land_block_state l (state_of w) (sym at i) (sym which i) h failed patched unreadable whole);
    }

pub land_healed : (l : Layout) (w mid : World) (pass serial : ℕ) (found next : WorldPass) (loan : Lent) (h : Held) (failed : List ℕ) (patched : List Patched) (unreadable whole : Bool)
    → w.tables.pass ≡ Some found → w.loan ≡ Some loan → MayLandBlock l (state_of w) pass serial failed patched unreadable h → unreadable ≡ false
    → (whole ≡ true → AreColumnsWhole l (core_of w.tables) h failed l.columns) → (whole ≡ false → AreColumnsWhole l (core_of w.tables) h failed l.columns → ⊥)
    → state_of mid ≡ healed_state l (state_of (record w { tables = record w.tables { pass = None }; loan = None })) (loan_of loan) h patched whole
    → pass_of next ≡ healed_pass l (core_of mid.tables) (pass_of found) h failed
    → LandBlockStep l (state_of w) pass serial failed patched unreadable (state_of (record mid { tables = record mid.tables { pass = Some next } }))
land_healed l w mid pass serial found next loan h failed patched unreadable whole is lent may readable all not_all segments after =
    let at = pass_same w.tables.pass found may.p is may.counts.pass_is in
    let which = loan_same w.loan loan may.n lent may.counts.loan in
    record {
      p = may.p;
      n = may.n;
      h = h;
      whole = whole;
      counts = may.counts;
      heal = may.heal;
      lands = may.lands;
      is_whole = λ e c n less. all e c less n;
      not_whole = λ e wholly. not_all e (λ c less n. wholly c n less);
      made =
          ap (λ p. record (state_of mid) { core = record (core_of mid.tables) { pass = Some p } }) after
          ∙ ap (λ (s : State). record s { core = record s.core { pass = Some (healed_pass l s.core (pass_of found) h failed) } }) segments
          ∙ by whole
          ∙ sym (ap (λ b. if b then pass_over (state_of w) (pass_of found) 1 (h.first + h.stripes) else heal_state l (state_of w) (pass_of found) (loan_of loan) h failed patched whole) readable)
          ∙ (λ i. land_block_state l (state_of w) (sym at i) (sym which i) h failed patched unreadable whole);
    }
  where
    by : (b : Bool) → (let s = healed_state l (state_of (record w { tables = record w.tables { pass = None }; loan = None })) (loan_of loan) h patched b in
        record s { core = record s.core { pass = Some (healed_pass l s.core (pass_of found) h failed) } }) ≡ heal_state l (state_of w) (pass_of found) (loan_of loan) h failed patched b
    by true = refl
    by false = refl
