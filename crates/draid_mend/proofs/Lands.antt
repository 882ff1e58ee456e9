-- A landing is the state machine's, and the rack does what that says.
use Rattle.std.proofs.Common.{◌≡◌, ◌+◌, ◌-◌, ◌<◌, ◌≤◌, ◌∙◌, ℕ, Bool, true, false, nat_lt, List, [], Option, None, Some, IfSome, arith, refl, sym, ap, subst, length, if◌then◌else◌}
use Rattle.std.specs.Prelude.{count_by, option_map}
use Rattle.std.proofs.lemmas.Bool.Decides.{nat_tests}
use Rattle.draid_rack.specs.Rack.{OnBothTold, OnTold, Told}
use Rattle.draid_rack.specs.declared.Rack.{Ghosts}
use Rattle.draid_machine.specs.declared.names.ArmName.{ArmName}
use Rattle.draid_machine.specs.declared.names.Held.{Held}
use Rattle.draid_machine.specs.After.{lose_targets, lost_errors, mend_state, misses_stripe, pass_over, unsourced}
use Rattle.draid_machine.specs.Created.{IsReached}
use Rattle.draid_machine.specs.Names.{has_number}
use Rattle.draid_machine.specs.Sound.{LoanFits}
use Rattle.draid_machine.specs.State as machine
use Rattle.draid_machine.specs.Step.{LandStripeStep}
use Rattle.draid_machine.proofs.Rows.{reached_sound}
use Rattle.draid_machine.proofs.Small.{absurd_test, both_true, is_below, is_low, some_same}
use Rattle.draid_segments.specs.Acts.{LandsStripe}
use Rattle.draid_segments.specs.Segments.{Pieces}
use Rattle.draid_entries.specs.Maps.{key_of}
use Rattle.draid_pass.specs.declared.pass.Pass.{Pass}
use Rattle.draid_slots.specs.States.{HoldsPass, pass_in}
use Rattle.draid_shard.specs.Fits.{Valid}
use Rattle.draid_shard.specs.Loans.{IsKept, IsLentStripe, loan_in, stripe_loan}
use Rattle.draid_shard.specs.Part.{IsRun}
use Rattle.draid_shard.specs.States.{IsIn, layout_by, part_of}
use Rattle.draid_shard.specs.declared.loan.KeptLoan.{KeptLoan}
use Rattle.draid_shard.specs.declared.loan.KeptLoan.TheVariants.{Stripe}
use Rattle.draid_shard.specs.declared.loan.LentStripe.{LentStripe}
use Rattle.draid_shard.specs.declared.shard.Shard.{Shard}
use Rattle.draid_shard.proofs.Held.{HasEntry, held_entry}
use Rattle.draid_shard.proofs.Homes.{lays}
use Rattle.draid_shard.proofs.Passing.{own_place}
use Rattle.draid_mend.specs.Lands.{IsSolvable, KeptStands, LandsSolved}
use Rattle.draid_mend.specs.Loans.{IsRunningRebuild, unit_at}
use Rattle.draid_mend.specs.Missing.{missing_of}
use Rattle.draid_mend.specs.Solving.{HasKnownContent}
use Rattle.draid_mend.specs.Landing.{LoanStands}
use Rattle.draid_mend.specs.Stands.{IsStripeOf}
use Rattle.draid_mend.specs.Stripes.{LandsBelow}
use Rattle.draid_mend.proofs.Counted.{are_many, are_missing}
use Rattle.draid_mend.proofs.Loaned.{one_run}
use Rattle.draid_mend.proofs.Lost.{lost_among}
use Rattle.draid_mend.proofs.Missing.{are_marked}
use Rattle.draid_mend.proofs.Standing.{land_step, mends}

module _ {R A : Type 0} (rack : Ghosts R) (old : Shard R A) (v : Valid rack old) (pass : Pass) (there : old.pass ≡ Some pass) (runs : IsRunningRebuild pass) (kept : LentStripe) (kept_there : old.kept ≡ Some (Stripe kept)) where
  abbrev l : machine.Layout
  l = layout_by old

  abbrev p : machine.Pass
  p = pass_in old.slots pass

  abbrev n : machine.Loan
  n = stripe_loan kept

  is_kept : IsLentStripe old.geometry old.pass kept
  is_kept = subst (λ o. IfSome o (IsKept old.geometry old.pass)) kept_there v.kept

  pub pass_held : HoldsPass old.slots old.last_pass pass
  pass_held = subst (λ o. IfSome o (HoldsPass old.slots old.last_pass)) there v.pass

  many_are : unsourced l n ≡ length (missing_of kept)
  many_are = are_many l kept (sym is_kept.chosen)

  too_many : old.geometry.spec.parity < length (missing_of kept) → nat_lt l.parity (unsourced l n) ≡ true
  too_many more = let same = many_are in grind (arith, nat_tests, more, same)

  not_many : IsSolvable old.geometry kept → nat_lt l.parity (unsourced l n) ≡ false
  not_many few = let same = many_are in grind (arith, nat_tests, few, same)

  module _ (w : machine.State) (reached : IsReached l w) (at : IsIn old w) where
    pub pass_there : w.core.pass ≡ Some p
    pass_there = at.pass ∙ ap (option_map (pass_in old.slots)) there

    loan_there : w.loan ≡ Some n
    loan_there = at.loan ∙ ap (option_map loan_in) kept_there

    pub fits : LoanFits w.core n
    fits = (reached_sound l (lays (part_of old) v.part) w reached).loan n loan_there

    abbrev pub h : Held
    h = fits.h

    entry : HasEntry old.entries (key_of kept.pointer) h
    entry = held_entry old.entries (key_of kept.pointer) h (sym (at.held (key_of kept.pointer)) ∙ fits.found)

    whole : IsRun old.geometry h.first h.stripes
    whole = subst (λ (i : Held). IsRun old.geometry i.first i.stripes) entry.held_is (v.tables.placed entry.e.pointer.first entry.e (own_place old.entries (key_of kept.pointer) h entry)).run

    taken : (h.first ≤ kept.stripe) × (kept.stripe < h.first + h.stripes)
    taken =
        let both = both_true _ _ fits.taken in
        (is_low h.first kept.stripe both.0, is_below kept.stripe (h.first + h.stripes) both.1)

    abbrev row : ℕ
    row = kept.stripe - h.first

    stripe_of : IsStripeOf (part_of old) w (key_of kept.pointer) h row (unit_at kept.pointer kept.stripe)
    stripe_of = record {
      held = fits.found;
      whole = whole;
      inside = (let from = taken.0 in let to = taken.1 in omega (arith, from, to));
      first = (let from = taken.0 in omega (arith, from));
      run = one_run old.geometry v.part.layout.geometry_is kept.stripe is_kept.inside;
    }

    -- ---- more columns are missing than the parity solves
    pub over_step : old.geometry.spec.parity < length (missing_of kept) → (failed : List ℕ) → failed ≡ [] → LandStripeStep l w pass.number kept.serial failed (pass_over w p 1 (kept.stripe + 1))
    over_step more failed none = record {
      p = p;
      n = n;
      h = h;
      counts = record { pass_is = pass_there; number = refl; loan = loan_there; serial_is = refl; found = fits.found };
      rebuild = runs.rebuild;
      fail = λ leaf on. absurd_test (has_number failed leaf) on (ap (λ xs. has_number xs leaf) none);
      made = sym (ap (λ b. if b then pass_over w p 1 (kept.stripe + 1) else mend_state l w p n h failed) (too_many more));
    }

    -- what is said of a step's pass, loan and block is said of these
    of_step : (G : machine.Pass → machine.Loan → Held → Type 0) (failed : List ℕ) (after : machine.State) (step : LandStripeStep l w pass.number kept.serial failed after) → G p n h → G step.p step.n step.h
    of_step G failed after step g =
        let same_p : p ≡ step.p = some_same w.core.pass p step.p pass_there step.counts.pass_is in
        let same_n : n ≡ step.n = some_same w.loan n step.n loan_there step.counts.loan in
        let same_h : h ≡ step.h = some_same (w.core.held n.key) h step.h fits.found (subst (λ (m : machine.Loan). w.core.held m.key ≡ Some step.h) (sym same_n) step.counts.found) in
        subst (λ q. G q step.n step.h) same_p (subst (λ m. G p m step.h) same_n (subst (λ i. G p n i) same_h g))

    pub over_acts : old.geometry.spec.parity < length (missing_of kept) → (r : R) → rack.told r ≡ rack.told old.rack → (pieces : Pieces) (failed : List ℕ) (after : machine.State) (step : LandStripeStep l w pass.number kept.serial failed after)
        → OnBothTold (rack.told old.rack) (rack.told r) (LandsStripe (nat_lt l.parity (unsourced l step.n)) l w step.p step.n step.h failed pieces)
    over_acts more r same pieces failed after step =
        of_step (λ q m i. OnBothTold (rack.told old.rack) (rack.told r) (LandsStripe (nat_lt l.parity (unsourced l m)) l w q m i failed pieces)) failed after step
        (subst (λ b. OnBothTold (rack.told old.rack) (rack.told r) (LandsStripe b l w p n h failed pieces)) (sym (too_many more)) (by (rack.told old.rack) (rack.told r) same))
      where
        by : (o q : Option Told) → q ≡ o → OnBothTold o q (LandsStripe true l w p n h failed pieces)
        by None q e = e
        by (Some x) q e = subst (λ q. OnBothTold (Some x) q (LandsStripe true l w p n h failed pieces)) (sym e) refl

    -- ---- the columns landed
    module _ (few : IsSolvable old.geometry kept) (o : Option Pass) (k : Option KeptLoan) (new : Shard R A) (left : Pass) (failed : List ℕ) (lands : LandsSolved rack (record old { pass = o; kept = k }) new pass left kept failed) where
      abbrev pub bad : ArmName → Bool
      bad = misses_stripe l w.core kept.stripe failed

      pub solved_step : LandStripeStep l w pass.number kept.serial failed (mend_state l w p n h failed)
      solved_step =
          let many = many_are in
          let enough : unsourced l n ≤ l.parity = omega (arith, few, many) in
          subst (LandStripeStep l w pass.number kept.serial failed) (ap (λ b. if b then pass_over w p 1 (kept.stripe + 1) else mend_state l w p n h failed) (not_many few))
          (land_step (part_of old) v.part old.slots v.slots w reached at.slots (unit_at kept.pointer kept.stripe) (key_of kept.pointer) h row stripe_of p n pass.targets.items refl refl refl failed lands.fails runs.rebuild pass_there loan_there enough)

      -- the pass lost the targets that the machine's does
      pub left_is : lose_targets bad (count_by bad p.targets) p ≡ pass_in old.slots left
      left_is =
          let marked = are_marked (part_of old) old.slots (unit_at kept.pointer kept.stripe) failed v.part v.slots w reached at.slots stripe_of.run pass.targets.items lands.loses.marks lands.loses.missed in
          sym (lost_among old.slots bad lands.loses.marks pass left lands.loses.loses marked pass_held.current.targets ∙ ap (λ k. lose_targets bad (lost_errors k bad p.targets) p) runs.rebuild)

      pub solved_acts : (pieces : Pieces) → OnTold (rack.told old.rack) (KeptStands (part_of old) w kept pieces) → (after : machine.State) (step : LandStripeStep l w pass.number kept.serial failed after)
          → OnBothTold (rack.told old.rack) (rack.told new.rack) (LandsStripe (nat_lt l.parity (unsourced l step.n)) l w step.p step.n step.h failed pieces)
      solved_acts pieces stands after step =
          of_step (λ q m i. OnBothTold (rack.told old.rack) (rack.told new.rack) (LandsStripe (nat_lt l.parity (unsourced l m)) l w q m i failed pieces)) failed after step
          (subst (λ b. OnBothTold (rack.told old.rack) (rack.told new.rack) (LandsStripe b l w p n h failed pieces)) (sym (not_many few)) (by (rack.told old.rack) (rack.told new.rack) stands lands.lands))
        where
          by : (a b : Option Told) → OnTold a (KeptStands (part_of old) w kept pieces)
              → OnBothTold a b (LandsBelow (part_of old) old.slots (unit_at kept.pointer kept.stripe) pass.targets.items old.geometry.g kept.columns.columns kept.chosen.items failed)
              → OnBothTold a b (LandsStripe false l w p n h failed pieces)
          by None b is did = did
          by (Some x) None is did = absurd did
          by (Some x) (Some y) is did =
              let same : is.h ≡ h = some_same (w.core.held (key_of kept.pointer)) is.h h is.found fits.found in
              mends (part_of old) v.part old.slots v.slots w reached at.slots (unit_at kept.pointer kept.stripe) (key_of kept.pointer) h row stripe_of p n pass.targets.items refl refl refl kept.chosen.items (λ c. refl) pass_there
              is.sources x y failed pieces is.read kept.columns (missing_of kept) did
              (record {
                are = are_missing l kept (sym is_kept.chosen);
                stands = subst (λ i. LoanStands l w n i pieces is.read x) same is.stands;
                solves = is.solves;
                content = subst (λ (i : Held). HasKnownContent old.geometry i.stripes (key_of kept.pointer) pieces) same is.content;
              })
