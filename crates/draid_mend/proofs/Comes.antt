-- What a landing comes to: the shard behind it, and its event.
use Rattle.std.proofs.Common.{◌≡◌, ◌+◌, ◌<◌, ◌++◌, ◌∙◌, ℕ, List, [], ◌∷◌, Option, None, Some, Vec, Global, arith, refl, sym, ap, subst, inl, inr, length}
use Rattle.std.proofs.lemmas.Bool.{cases_lt}
use Rattle.draid_rack.specs.Rack.{OnBothTold, OnTold}
use Rattle.draid_rack.specs.declared.Rack.{Ghosts}
use Rattle.draid_machine.specs.declared.event.Event.{Event}
use Rattle.draid_machine.specs.declared.event.Event.TheVariants.{LandStripe}
use Rattle.draid_machine.specs.After.{mend_state, pass_over}
use Rattle.draid_machine.specs.Created.{IsReached}
use Rattle.draid_machine.specs.State as machine
use Rattle.draid_machine.specs.Step.{Step}
use Rattle.draid_segments.specs.Acts.{Acts}
use Rattle.draid_segments.specs.Segments.{Pieces}
use Rattle.draid_entries.specs.declared.history.History.{History}
use Rattle.draid_entries.specs.History.{events_of, owed_of, reserved_of}
use Rattle.draid_pass.specs.declared.pass.Pass.{Pass}
use Rattle.draid_slots.specs.States.{HoldsPass, pass_in}
use Rattle.draid_shard.specs.Calls.{CountsFailed}
use Rattle.draid_shard.specs.Changes.{KeepsBlocks}
use Rattle.draid_shard.specs.Fits.{Valid}
use Rattle.draid_shard.specs.Loans.{stripe_loan}
use Rattle.draid_shard.specs.States.{IsIn, Leads, layout_by, part_of}
use Rattle.draid_shard.specs.declared.loan.KeptLoan.{KeptLoan}
use Rattle.draid_shard.specs.declared.loan.KeptLoan.TheVariants.{Stripe}
use Rattle.draid_shard.specs.declared.loan.LentStripe.{LentStripe}
use Rattle.draid_shard.specs.declared.shard.Shard.{Shard}
use Rattle.draid_shard.proofs.Changed.{same_entries}
use Rattle.draid_shard.proofs.Counts.{counts_none}
use Rattle.draid_shard.proofs.Kept.{stored_more}
use Rattle.draid_mend.specs.Lands.{IsSolvable, KeptStands, LandsKept, LandsSolved, LandsUnit, PassesOver}
use Rattle.draid_mend.specs.Loans.{IsRunningRebuild}
use Rattle.draid_mend.specs.Missing.{missing_of}
use Rattle.draid_mend.proofs.Landings.{counted_holds, landed, landed_in, landed_valid, left_holds}
use Rattle.draid_mend.proofs.Lands.{h, left_is, over_acts, over_step, pass_held, solved_acts, solved_step}

module _ {R A : Type 0} (rack : Ghosts R) (old : Shard R A) (v : Valid rack old) (pass : Pass) (there : old.pass ≡ Some pass) (runs : IsRunningRebuild pass) (kept : LentStripe) (kept_there : old.kept ≡ Some (Stripe kept))
    (o : Option Pass) (k : Option KeptLoan) (none : k ≡ None) (new : Shard R A) (left : Pass) (back : LentStripe) (lands : LandsKept rack (record old { pass = o; kept = k }) new pass left kept back) (gone : Vec ℕ Global) (gone_is : gone.items ≡ back.failed.items)
    (idle : Option KeptLoan) (history : History) where
  abbrev base : Shard R A
  base = record old { pass = o; kept = k }

  abbrev failed : List ℕ
  failed = gone.items

  -- the pass as it goes on
  abbrev q : Pass
  q = record left { at = kept.stripe + 1 }

  abbrev pub final : Shard R A
  final = record new { pass = Some (record left { at = back.stripe + 1 }); idle = idle; history = history }

  -- what both ways have
  record IsLanding : Type 0 where
    pub only : new ≡ record base { rack = new.rack }
    pub shape : rack.shape new.rack ≡ rack.shape old.rack
    pub counts : CountsFailed failed (rack.faults old.rack) (rack.faults new.rack)
    pub number : left.number ≡ pass.number
    pub kind : left.kind ≡ pass.kind
    pub running : left.running ≡ pass.running
    pub holds : HoldsPass old.slots old.last_pass q

  few_are : IsSolvable old.geometry kept → LandsSolved rack base new pass left kept failed
  few_are few = subst (λ xs. LandsSolved rack base new pass left kept xs) (sym gone_is) (lands.few few)

  many_are : old.geometry.spec.parity < length (missing_of kept) → PassesOver base new pass left failed
  many_are more = subst (λ xs. PassesOver base new pass left xs) (sym gone_is) (lands.many more)

  of_solved : LandsSolved rack base new pass left kept failed → IsLanding
  of_solved s = record {
    only = s.only;
    shape = s.shape;
    counts = s.counts;
    number = s.loses.loses.number_stays;
    kind = s.loses.loses.kind_stays;
    running = s.loses.loses.running_stays;
    holds = left_holds old.slots old.last_pass (kept.stripe + 1) s.loses.marks pass left (pass_held rack old v pass there runs kept kept_there) s.loses.loses;
  }

  of_over : PassesOver base new pass left failed → IsLanding
  of_over s = record {
    only = s.same ∙ ap (λ (x : Shard R A). record base { rack = x.rack }) (sym s.same);
    shape = ap (λ (x : Shard R A). rack.shape x.rack) s.same;
    counts = subst (λ xs. CountsFailed xs (rack.faults old.rack) (rack.faults new.rack)) (sym s.none)
        (subst (λ (x : Shard R A). CountsFailed [] (rack.faults old.rack) (rack.faults x.rack)) (sym s.same) (counts_none (rack.faults old.rack)));
    number = ap (λ (x : Pass). x.number) s.counted;
    kind = ap (λ (x : Pass). x.kind) s.counted;
    running = ap (λ (x : Pass). x.running) s.counted;
    holds = subst (λ (x : Pass). HoldsPass old.slots old.last_pass (record x { at = kept.stripe + 1 })) (sym s.counted)
        (counted_holds old.slots old.last_pass (kept.stripe + 1) _ pass (pass_held rack old v pass there runs kept kept_there));
  }

  is : IsLanding
  is = elim (cases_lt old.geometry.spec.parity (length (missing_of kept))) [
    | inl more ↦ of_over (many_are more)
    | inr few ↦ of_solved (few_are (omega (arith, few)))
  ]

  back_stripe : back.stripe ≡ kept.stripe
  back_stripe = ap (λ (x : LentStripe). x.stripe) lands.rest

  final_is : final ≡ landed old pass q there kept kept_there new.rack idle history
  final_is =
      ap (λ (x : Shard R A). record x { pass = Some (record left { at = back.stripe + 1 }); idle = idle; history = history }) is.only
      ∙ (λ i. record old { rack = new.rack; pass = Some (record left { at = back_stripe i + 1 }); kept = none i; idle = idle; history = history })

  pub final_keeps : KeepsBlocks old final
  final_keeps = subst (KeepsBlocks old) (sym final_is) (record {
    entries = same_entries old.entries;
    groups = record { open_group_is = refl; closing = refl; sealed = refl; committed = refl };
  })

  same_history : new.history ≡ old.history
  same_history = ap (λ (x : Shard R A). x.history) is.only

  pub final_valid : (event : Event) → owed_of history + 1 ≡ owed_of new.history → reserved_of history ≡ reserved_of new.history → events_of history ≡ events_of new.history ++ event ∷ [] → Valid rack final
  final_valid event owed reserved stored = subst (Valid rack) (sym final_is)
      (landed_valid old pass q there kept kept_there new.rack idle history rack v is.kind is.running is.shape is.holds (owed ∙ ap owed_of same_history) (reserved ∙ ap reserved_of same_history)
      (stored_more old.history history event (stored ∙ ap (λ (x : History). events_of x ++ event ∷ []) same_history)))

  leads : (w : machine.State) → IsReached (layout_by old) w → IsIn old w → Leads (layout_by old) w (LandStripe pass.number kept.serial gone) (landed old pass q there kept kept_there new.rack idle history)
  leads w reached at = elim (cases_lt old.geometry.spec.parity (length (missing_of kept))) [
    | inl more ↦ over more (many_are more)
    | inr few ↦ solved (omega (arith, few)) (few_are (omega (arith, few)))
  ] where
    over : old.geometry.spec.parity < length (missing_of kept) → PassesOver base new pass left failed → Leads (layout_by old) w (LandStripe pass.number kept.serial gone) (landed old pass q there kept kept_there new.rack idle history)
    over more s = record {
      state = pass_over w (pass_in old.slots pass) 1 (kept.stripe + 1);
      step = over_step rack old v pass there runs kept kept_there w reached at more failed s.none;
      is_in = landed_in old pass q there kept kept_there new.rack idle history w _ w.present w.aside at (ap (λ (x : Pass). pass_in old.slots (record x { at = kept.stripe + 1 })) (sym s.counted));
    }

    solved : IsSolvable old.geometry kept → LandsSolved rack base new pass left kept failed → Leads (layout_by old) w (LandStripe pass.number kept.serial gone) (landed old pass q there kept kept_there new.rack idle history)
    solved few s = record {
      state = mend_state (layout_by old) w (pass_in old.slots pass) (stripe_loan kept) (h rack old v pass there runs kept kept_there w reached at) failed;
      step = solved_step rack old v pass there runs kept kept_there w reached at few o k new left failed s;
      is_in = landed_in old pass q there kept kept_there new.rack idle history w _ _ _ at
          (ap (λ (m : machine.Pass). record m { next = kept.stripe + 1 }) (left_is rack old v pass there runs kept kept_there w reached at few o k new left failed s));
    }

  acts : (pieces : Pieces) (w after : machine.State) (step : Step (layout_by old) w (LandStripe pass.number kept.serial gone) after) → IsReached (layout_by old) w → IsIn old w
      → (IsSolvable old.geometry kept → OnTold (rack.told old.rack) (KeptStands (part_of old) w kept pieces))
      → OnBothTold (rack.told old.rack) (rack.told new.rack) (Acts (layout_by old) w (LandStripe pass.number kept.serial gone) after step pieces)
  acts pieces w after step reached at stands = elim (cases_lt old.geometry.spec.parity (length (missing_of kept))) [
    | inl more ↦ over_acts rack old v pass there runs kept kept_there w reached at more new.rack (ap (λ (x : Shard R A). rack.told x.rack) (many_are more).same) pieces failed after step
    | inr few ↦ (let low : IsSolvable old.geometry kept = omega (arith, few) in
        solved_acts rack old v pass there runs kept kept_there w reached at low o k new left failed (few_are low) pieces (stands low) after step)
  ]

  event_is : LandStripe left.number back.serial gone ≡ LandStripe pass.number kept.serial gone
  event_is = λ i. LandStripe (is.number i) (ap (λ (x : LentStripe). x.serial) lands.rest i) gone

  pub final_lands : events_of history ≡ events_of new.history ++ LandStripe left.number back.serial gone ∷ [] → LandsUnit rack old final
  final_lands stored = subst (LandsUnit rack old) (sym final_is) (record {
    pass = pass;
    pass_is = there;
    kept = kept;
    kept_is = kept_there;
    failed = gone;
    does = record {
      part = refl;
      stored = stored ∙ (λ i. events_of (same_history i) ++ event_is i ∷ []);
      leads = leads;
    };
    acts = acts;
    counts = is.counts;
  })
