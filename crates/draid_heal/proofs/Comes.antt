-- What a landing comes to: the shard behind it, and its event.
use Rattle.std.proofs.Common.{◌≡◌, ◌+◌, ◌++◌, ◌∷◌, not, ◌∙◌, [], ℕ, Bool, true, false, List, Option, None, Some, Vec, Global, refl, sym, ap, ap₂, subst, length}
use Rattle.std.specs.Prelude.{IfSome, IsSomeAnd, is_none, is_some}
use Rattle.draid_block.specs.Blocks.{BlockValue}
use Rattle.draid_rack.specs.Rack.{OnBothTold}
use Rattle.draid_rack.specs.declared.Rack.{Ghosts}
use Rattle.draid_machine.specs.declared.event.Event.{Event}
use Rattle.draid_machine.specs.declared.event.Event.TheVariants.{LandBlock}
use Rattle.draid_machine.specs.declared.event.Patched.{Patched}
use Rattle.draid_machine.specs.declared.names.Held.{Held}
use Rattle.draid_machine.specs.After.{capped, land_block_state, pass_over, rewritten}
use Rattle.draid_machine.specs.Created.{IsReached}
use Rattle.draid_machine.specs.State as machine
use Rattle.draid_machine.specs.Step.{Step}
use Rattle.draid_machine.proofs.Fitted.{every_fit}
use Rattle.draid_machine.proofs.Small.{some_same}
use Rattle.draid_segments.specs.Acts.{Acts}
use Rattle.draid_segments.specs.Segments.{Pieces}
use Rattle.draid_entries.specs.declared.history.History.{History}
use Rattle.draid_entries.specs.History.{events_of, owed_of, reserved_of}
use Rattle.draid_entries.specs.Maps.{key_of}
use Rattle.draid_pass.specs.declared.pass.Pass.{Pass}
use Rattle.draid_slots.specs.States.{HoldsPass, pass_in}
use Rattle.draid_shard.specs.Calls.{CountsFailed}
use Rattle.draid_shard.specs.Changes.{KeepsBlocks}
use Rattle.draid_shard.specs.Columns.{ArePieces}
use Rattle.draid_shard.specs.Fits.{Valid}
use Rattle.draid_shard.specs.Loans.{block_loan}
use Rattle.draid_shard.specs.States.{IsIn, Leads, layout_by, part_of}
use Rattle.draid_shard.specs.declared.loan.KeptLoan.{KeptLoan}
use Rattle.draid_shard.specs.declared.loan.KeptLoan.TheVariants.{Block, Stripe}
use Rattle.draid_shard.specs.declared.loan.LentBlock.{LentBlock}
use Rattle.draid_shard.specs.declared.shard.Shard.{Shard}
use Rattle.draid_shard.proofs.Changed.{same_entries}
use Rattle.draid_shard.proofs.Counts.{counts_none}
use Rattle.draid_shard.proofs.Homes.{lays}
use Rattle.draid_shard.proofs.Kept.{stored_more}
use Rattle.draid_heal.specs.Lands.{IsBlockLoan, LandsOr, LandsRestored, LandsUnit, MovesBehind, PassesOver, WritesRestored}
use Rattle.draid_shard.specs.Scrubs.{IsBlockHere, IsHere, IsLentHere, IsRunningScrub}
use Rattle.draid_heal.proofs.Landings.{counted_holds, landed, landed_in, landed_valid, left_holds}
use Rattle.draid_heal.proofs.Lands.{found, h, left_is, over_acts, over_step, pass_held, restored_acts, restored_step, told_is}
use Rattle.draid_heal.proofs.Rewritten.{none_rewritten}

module _ {R A : Type 0} (rack : Ghosts R) (old : Shard R A) (v : Valid rack old) (pass : Pass) (there : old.pass ≡ Some pass) (runs : IsRunningScrub pass) (lent : LentBlock) (kept_there : old.kept ≡ Some (Block lent))
    (here : IsBlockHere old.entries lent) (o : Option Pass) (k : Option KeptLoan) (none : k ≡ None) (new : Shard R A) (left : Pass) (gone : Vec ℕ Global) (parts : Vec Patched Global) (repaired at : ℕ)
    (at_is : at ≡ lent.pointer.first + lent.pointer.stripes) (idle : Option KeptLoan) (history : History) where
  abbrev base : Shard R A
  base = record old { pass = o; kept = k }

  abbrev failed : List ℕ
  failed = gone.items

  abbrev patched : List Patched
  patched = parts.items

  -- the pass as it goes on
  abbrev q : Pass
  q = record left { at = lent.pointer.first + lent.pointer.stripes }

  abbrev pub final : Shard R A
  final = record new { pass = Some (record left { at = at }); idle = idle; history = history }

  abbrev goal_shard : Shard R A
  goal_shard = landed old pass q there (Block lent) kept_there new.rack idle history

  -- what both ways have
  record IsLanding : Type 0 where
    pub only : new ≡ record base { rack = new.rack }
    pub shape : rack.shape new.rack ≡ rack.shape old.rack
    pub counts : CountsFailed failed (rack.faults old.rack) (rack.faults new.rack)
    pub number : left.number ≡ pass.number
    pub kind : left.kind ≡ pass.kind
    pub max : left.max ≡ pass.max
    pub running : left.running ≡ pass.running
    pub holds : HoldsPass old.slots old.last_pass q
    pub leads : (w : machine.State) → IsReached (layout_by old) w → IsIn old w → Leads (layout_by old) w (LandBlock pass.number lent.serial gone parts (is_none lent.restored)) goal_shard
    pub acts : (pieces : Pieces) (w after : machine.State) (step : Step (layout_by old) w (LandBlock pass.number lent.serial gone parts (is_none lent.restored)) after)
        → IsReached (layout_by old) w → IsIn old w → WritesRestored old lent pieces
        → OnBothTold (rack.told old.rack) (rack.told new.rack) (Acts (layout_by old) w (LandBlock pass.number lent.serial gone parts (is_none lent.restored)) after step pieces)
    pub told : (w : machine.State) → IsReached (layout_by old) w → IsIn old w → repaired ≡ rewritten (layout_by old) w.core (h rack old v pass there runs lent kept_there here) patched old.geometry.g

  module _ (unreadable : is_none lent.restored ≡ true) (s : PassesOver base new pass left patched failed repaired) where
    over_holds : HoldsPass old.slots old.last_pass q
    over_holds = subst (λ (x : Pass). HoldsPass old.slots old.last_pass (record x { at = lent.pointer.first + lent.pointer.stripes })) (sym s.counted)
        (counted_holds old.slots old.last_pass (lent.pointer.first + lent.pointer.stripes) _ pass (pass_held rack old v pass there runs lent kept_there here))

    of_over : IsLanding
    of_over = record {
      only = s.same ∙ ap (λ (x : Shard R A). record base { rack = x.rack }) (sym s.same);
      shape = ap (λ (x : Shard R A). rack.shape x.rack) s.same;
      counts = subst (λ xs. CountsFailed xs (rack.faults old.rack) (rack.faults new.rack)) (sym s.none)
          (subst (λ (x : Shard R A). CountsFailed [] (rack.faults old.rack) (rack.faults x.rack)) (sym s.same) (counts_none (rack.faults old.rack)));
      number = ap (λ (x : Pass). x.number) s.counted;
      kind = ap (λ (x : Pass). x.kind) s.counted;
      max = ap (λ (x : Pass). x.max) s.counted;
      running = ap (λ (x : Pass). x.running) s.counted;
      holds = over_holds;
      leads = λ w reached is. subst (λ b. Leads (layout_by old) w (LandBlock pass.number lent.serial gone parts b) goal_shard) (sym unreadable) (record {
        state = pass_over w (pass_in old.slots pass) 1 (lent.pointer.first + lent.pointer.stripes);
        step = over_step rack old v pass there runs lent kept_there here w reached is failed patched s.none s.empty;
        is_in = landed_in old pass q there (Block lent) kept_there new.rack idle history w _ w.present w.aside is
            (ap (λ (x : Pass). pass_in old.slots (record x { at = lent.pointer.first + lent.pointer.stripes })) (sym s.counted));
      });
      acts = λ pieces w after step reached is writes. subst (λ b. (step : Step (layout_by old) w (LandBlock pass.number lent.serial gone parts b) after)
          → OnBothTold (rack.told old.rack) (rack.told new.rack) (Acts (layout_by old) w (LandBlock pass.number lent.serial gone parts b) after step pieces)) (sym unreadable)
          (over_acts rack old v pass there runs lent kept_there here w reached is new.rack (ap (λ (x : Shard R A). rack.told x.rack) s.same) pieces failed patched after) step;
      told = λ w reached is. s.repaired_none
          ∙ sym (none_rewritten (layout_by old) w.core (h rack old v pass there runs lent kept_there here) (every_fit (layout_by old) w (lays (part_of old) v.part) reached).core.order.once old.geometry.g)
          ∙ ap (λ ds. rewritten (layout_by old) w.core (h rack old v pass there runs lent kept_there here) ds old.geometry.g) (sym s.empty);
    }

  module _ (block : BlockValue) (is_restored : lent.restored ≡ Some block) (s : LandsRestored rack base new pass left lent.pointer block.columns patched failed repaired) where
    readable : is_none lent.restored ≡ false
    readable = ap (λ (o : Option BlockValue). is_none o) is_restored

    left_holds_it : HoldsPass old.slots old.last_pass q
    left_holds_it =
        let moved = left_holds old.slots old.last_pass (lent.pointer.first + lent.pointer.stripes) s.marks pass s.without (pass_held rack old v pass there runs lent kept_there here) s.loses in
        subst (λ (x : Pass). HoldsPass old.slots old.last_pass (record x { at = lent.pointer.first + lent.pointer.stripes })) (sym s.left_is)
        (counted_holds old.slots old.last_pass (lent.pointer.first + lent.pointer.stripes) (capped (s.without.errors + length failed)) (record s.without { at = lent.pointer.first + lent.pointer.stripes }) moved)

    of_restored : IsLanding
    of_restored = record {
      only = s.only;
      shape = s.shape;
      counts = s.counts;
      number = ap (λ (x : Pass). x.number) s.left_is ∙ s.loses.number_stays;
      kind = ap (λ (x : Pass). x.kind) s.left_is ∙ s.loses.kind_stays;
      max = ap (λ (x : Pass). x.max) s.left_is ∙ s.loses.max_stays;
      running = ap (λ (x : Pass). x.running) s.left_is ∙ s.loses.running_stays;
      holds = left_holds_it;
      leads = λ w reached is. subst (λ b. Leads (layout_by old) w (LandBlock pass.number lent.serial gone parts b) goal_shard) (sym readable) (record {
        state = land_block_state (layout_by old) w (pass_in old.slots pass) (block_loan lent) (h rack old v pass there runs lent kept_there here) failed patched false s.whole;
        step = restored_step rack old v pass there runs lent kept_there here w reached is o k new left block.columns patched failed repaired s;
        is_in = landed_in old pass q there (Block lent) kept_there new.rack idle history w _ _ _ is
            (ap (λ (m : machine.Pass). record m { next = lent.pointer.first + lent.pointer.stripes }) (left_is rack old v pass there runs lent kept_there here w reached is o k new left block.columns patched failed repaired s));
      });
      acts = λ pieces w after step reached is writes. subst (λ b. (step : Step (layout_by old) w (LandBlock pass.number lent.serial gone parts b) after)
          → OnBothTold (rack.told old.rack) (rack.told new.rack) (Acts (layout_by old) w (LandBlock pass.number lent.serial gone parts b) after step pieces)) (sym readable)
          (restored_acts rack old v pass there runs lent kept_there here w reached is o k new left block.columns patched failed repaired s pieces
          (subst (λ (o : Option BlockValue). IfSome o (λ (b : BlockValue). ArePieces old.geometry.props.sector old.geometry.g lent.pointer.stripes b.columns (key_of lent.pointer) pieces)) is_restored writes) after) step;
      told = λ w reached is. told_is rack old v pass there runs lent kept_there here w reached is o k new left block.columns patched failed repaired s;
    }

  module _ (lands : LandsOr rack base new pass left lent.pointer lent.restored patched failed repaired) where
    is : IsLanding
    is = by lent.restored refl lands
      where
        by : (r : Option BlockValue) → lent.restored ≡ r → LandsOr rack base new pass left lent.pointer r patched failed repaired → IsLanding
        by None e s = of_over (ap (λ (o : Option BlockValue). is_none o) e) s
        by (Some block) e s = of_restored block e s

    final_is : final ≡ goal_shard
    final_is =
        ap (λ (x : Shard R A). record x { pass = Some (record left { at = at }); idle = idle; history = history }) is.only
        ∙ (λ i. record old { rack = new.rack; pass = Some (record left { at = at_is i }); kept = none i; idle = idle; history = history })

    same_history : new.history ≡ old.history
    same_history = ap (λ (x : Shard R A). x.history) is.only

    pub final_keeps : KeepsBlocks old final
    final_keeps = subst (KeepsBlocks old) (sym final_is) (record {
      entries = same_entries old.entries;
      groups = record { open_group_is = refl; closing = refl; sealed = refl; committed = refl };
    })

    pub final_moves : MovesBehind old.kept old.pass final.pass
    final_moves = subst (λ k. MovesBehind k old.pass final.pass) (sym kept_there) (subst (λ o. MovesBehind (Some (Block lent)) o final.pass) (sym there) (record {
      number = is.number;
      kind = is.kind;
      max = is.max;
      running = is.running;
      at = at_is;
    }))

    pub final_none : final.kept ≡ None
    final_none = ap (λ (x : Shard R A). x.kept) is.only ∙ none

    pub final_valid : (event : Event) → owed_of history + 1 ≡ owed_of new.history → reserved_of history ≡ reserved_of new.history → events_of history ≡ events_of new.history ++ event ∷ [] → Valid rack final
    final_valid event owed reserved stored = subst (Valid rack) (sym final_is)
        (landed_valid old pass q there (Block lent) kept_there new.rack idle history rack v is.kind is.running is.shape is.holds (owed ∙ ap owed_of same_history) (reserved ∙ ap reserved_of same_history)
        (stored_more old.history history event (stored ∙ ap (λ (x : History). events_of x ++ event ∷ []) same_history)))

    event_is : (serial : ℕ) (b : Bool) → serial ≡ lent.serial → b ≡ is_none lent.restored → LandBlock left.number serial gone parts b ≡ LandBlock pass.number lent.serial gone parts (is_none lent.restored)
    event_is serial b s e = λ i. LandBlock (is.number i) (s i) gone parts (e i)

    pub final_lands : (serial : ℕ) (b : Bool) → serial ≡ lent.serial → b ≡ is_none lent.restored → events_of history ≡ events_of new.history ++ LandBlock left.number serial gone parts b ∷ [] → LandsUnit rack old final repaired
    final_lands serial b s e stored = subst (λ x. LandsUnit rack old x repaired) (sym final_is) (record {
      pass = pass;
      pass_is = there;
      lent = lent;
      lent_is = kept_there;
      failed = gone;
      patched = parts;
      does = record {
        part = refl;
        stored = stored ∙ (λ i. events_of (same_history i) ++ event_is serial b s e i ∷ []);
        leads = is.leads;
      };
      acts = is.acts;
      counts = is.counts;
      told = λ w i reached inside at. is.told w reached inside
          ∙ ap (λ (i : Held). rewritten (layout_by old) w.core i patched old.geometry.g)
          (some_same (w.core.held (key_of lent.pointer)) (h rack old v pass there runs lent kept_there here) i (found rack old v pass there runs lent kept_there here w reached inside) at);
    })

-- what is known of a loan as it comes back
pub here_is : {R A : Type 0} (old : Shard R A) (lent : LentBlock) → old.kept ≡ Some (Block lent) → IsLentHere old → IsBlockHere old.entries lent
here_is old lent is z = subst (IsHere old.entries) (some_same old.kept z.0 (Block lent) z.1 is) z.2

pub is_block : {R A : Type 0} (old : Shard R A) (kept : Option KeptLoan) → kept ≡ old.kept → IsLentHere old → IsSomeAnd kept IsBlockLoan
is_block old kept same z = subst (λ o. IsSomeAnd o IsBlockLoan) (sym (same ∙ z.1)) (by z.0 z.2)
  where
    by : (kept : KeptLoan) → IsHere old.entries kept → IsBlockLoan kept
    by (Stripe lent) here = absurd here
    by (Block lent) here = tt

-- what was kept of it changed in its room alone
module _ (lent back : LentBlock) (rest : back ≡ record lent { room = back.room }) where
  pub at_is_behind : (count : ℕ) → count ≡ back.pointer.stripes → back.pointer.first + count ≡ lent.pointer.first + lent.pointer.stripes
  at_is_behind count is = ap₂ (λ (a b : ℕ). a + b) (ap (λ (x : LentBlock). x.pointer.first) rest) (is ∙ ap (λ (x : LentBlock). x.pointer.stripes) rest)

  pub serial_is_kept : back.serial ≡ lent.serial
  serial_is_kept = ap (λ (x : LentBlock). x.serial) rest

  pub unread_is : (r : Bool) → is_some back.restored ≡ not r → r ≡ is_none lent.restored
  unread_is r e = by r back.restored e ∙ ap (λ (x : LentBlock). is_none x.restored) rest
    where
      by : (r : Bool) (o : Option BlockValue) → is_some o ≡ not r → r ≡ is_none o
      by true o e = sym (ap not e)
      by false o e = sym (ap not e)

  pub lands_listed : {R A : Type 0} (rack : Ghosts R) (base new : Shard R A) (pass left : Pass) (repaired : ℕ) (leaves gone : List ℕ) (listed parts : List Patched)
      → LandsOr rack base new pass left lent.pointer lent.restored listed leaves repaired → gone ≡ leaves → parts ≡ listed → LandsOr rack base new pass left lent.pointer lent.restored parts gone repaired
  lands_listed rack base new pass left repaired leaves gone listed parts lands xs ds =
      subst (λ ds. LandsOr rack base new pass left lent.pointer lent.restored ds gone repaired) (sym ds) (subst (λ xs. LandsOr rack base new pass left lent.pointer lent.restored listed xs repaired) (sym xs) lands)
