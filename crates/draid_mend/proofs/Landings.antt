-- The shard behind a landing: it is valid, and for which states it stands.
use Rattle.std.proofs.Common.{◌≡◌, ◌+◌, ◌≤◌, ◌∙◌, not, ℕ, Bool, true, false, List, Option, None, Some, arith, refl, sym, ap, subst, if◌then◌else◌}
use Rattle.std.specs.Prelude.{All, vec_capacity}
use Rattle.std.proofs.lemmas.List.Elements.{All-filter}
use Rattle.draid_names.specs.declared.pass_kind.PassKind.TheVariants.{Rebuild, Heal}
use Rattle.draid_rack.specs.declared.Rack.{Ghosts}
use Rattle.draid_machine.specs.State as machine
use Rattle.draid_machine.specs.declared.names.Segment.{Segment}
use Rattle.draid_entries.specs.declared.history.History.{History}
use Rattle.draid_entries.specs.History.{owed_of, reserved_of, stored_of}
use Rattle.draid_pass.specs.declared.pass.Pass.{Pass}
use Rattle.draid_plans.specs.Ends.{Loses, is_lost}
use Rattle.draid_plans.proofs.Order.{kept_ascend}
use Rattle.draid_slots.specs.States.{AscendBehind, HoldsPass, pass_in}
use Rattle.draid_slots.specs.Table.{IsThere, SlotTable}
use Rattle.draid_shard.specs.Fits.{HasLeaves, LogsHaveRoom, Valid, birth_groups, is_rebuild, oldest_open, owed_for_pass}
use Rattle.draid_shard.specs.Loans.{HasFlushRoom, owed_for_loan}
use Rattle.draid_shard.specs.States.{IsIn}
use Rattle.draid_shard.specs.declared.loan.KeptLoan.{KeptLoan}
use Rattle.draid_shard.specs.declared.loan.KeptLoan.TheVariants.{Stripe}
use Rattle.draid_shard.specs.declared.loan.LentStripe.{LentStripe}
use Rattle.draid_shard.specs.declared.shard.Shard.{Shard}

-- ---- the pass

-- it is held as well where it has lost targets, or has an error more, and goes on elsewhere
pub left_holds : (slots : SlotTable) (last at : ℕ) (marks : List (List Bool)) (before now : Pass) → HoldsPass slots last before → Loses marks before now → HoldsPass slots last (record now { at = at })
left_holds slots last at marks before now held loses = record {
  current = record {
    number = loses.number_stays ∙ held.current.number;
    targets = subst (All (IsThere slots)) (sym loses.targets_are) (All-filter (λ place. not (is_lost marks place)) (IsThere slots) before.targets.items held.current.targets);
  };
  ascending = subst (λ ts. AscendBehind None ts) (sym loses.targets_are) (kept_ascend (λ place. not (is_lost marks place)) before.targets.items None held.ascending);
  some_max = subst (λ n. 1 ≤ n) (sym loses.max_stays) held.some_max;
}

pub counted_holds : (slots : SlotTable) (last at errors : ℕ) (before : Pass) → HoldsPass slots last before → HoldsPass slots last (record before { errors = errors; at = at })
counted_holds slots last at errors before held = record {
  current = record { number = held.current.number; targets = held.current.targets };
  ascending = held.ascending;
  some_max = held.some_max;
}

-- ---- the shard

module _ {R A : Type 0} (old : Shard R A) (pass q : Pass) (there : old.pass ≡ Some pass) (kept : LentStripe) (kept_there : old.kept ≡ Some (Stripe kept)) (r : R) (idle : Option KeptLoan) (history : History) where
  abbrev pub landed : Shard R A
  landed = record old { rack = r; pass = Some q; kept = None; idle = idle; history = history }

  pub landed_valid : (rack : Ghosts R) → Valid rack old → q.kind ≡ pass.kind → q.running ≡ pass.running → rack.shape r ≡ rack.shape old.rack → HoldsPass old.slots old.last_pass q
      → owed_of history + 1 ≡ owed_of old.history → reserved_of history ≡ reserved_of old.history → stored_of old.history ≤ stored_of history → Valid rack landed
  landed_valid rack v kind running shape held owed reserved stored = record {
    part = v.part;
    version = v.version;
    asked = v.asked;
    tables = v.tables;
    disabled = v.disabled ∙ sym rebuild_same;
    few = v.few;
    here = v.here;
    slots = v.slots;
    once = v.once;
    pass = held;
    kept = tt;
    serial = (let low = v.serial in omega (arith, low, stored));
    flushed = subst (λ o. HasFlushRoom old.geometry.spec.children o (vec_capacity old.flushed)) there v.flushed;
    logs = subst (λ b. LogsHaveRoom old.slots (oldest_open old.open_group old.closing) (birth_groups old.closing) (if b then birth_groups old.closing else 0)) (sym rebuild_same) v.logs;
    leaves = subst (λ shape. HasLeaves shape old.geometry old.slots) (sym shape) v.leaves;
    groups = v.groups;
    low = v.low;
    tickets = v.tickets;
    settled = v.settled;
    owed = (let was = v.owed in let one : owed_for_loan old.kept ≡ 1 = ap owed_for_loan kept_there in let same = owed_same in omega (arith, was, owed, reserved, one, same));
  } where
    rebuild_same : is_rebuild (Some q) ≡ is_rebuild old.pass
    rebuild_same = ap (λ k. elim k as (λ k. Bool) [ Rebuild ↦ true | Heal ↦ false ]) kind ∙ sym (ap is_rebuild there)

    owed_same : owed_for_pass (Some q) ≡ owed_for_pass old.pass
    owed_same = (λ i. elim (kind i) as (λ k. ℕ) [ Rebuild ↦ if running i then 1 else 2 | Heal ↦ 2 ]) ∙ sym (ap owed_for_pass there)

  pub landed_in : (w : machine.State) (m : machine.Pass) (present aside : Segment → Bool) → IsIn old w → m ≡ pass_in old.slots q
      → IsIn landed (record w { loan = None; core = record w.core { pass = Some m }; present = present; aside = aside })
  landed_in w m present aside is same = record {
    held = is.held;
    slots = record { order = is.slots.order; arms = is.slots.arms; detached = is.slots.detached; only = is.slots.only };
    pass = ap Some same;
    last = is.last;
    open_group_is = is.open_group_is;
    closing = is.closing;
    sealed = is.sealed;
    committed = is.committed;
    version = is.version;
    asked = is.asked;
    serial = is.serial;
    loan = refl;
  }
