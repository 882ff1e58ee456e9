-- A pass is cancelled: what the shard is then, and for which states it stands.
use Rattle.std.proofs.Common.{◌≡◌, ◌+◌, ◌≤◌, ◌∙◌, false, IsSome, Option, Some, None, option_map, arith, refl, sym, ap, subst}
use Rattle.std.proofs.lemmas.Bool.{true≢false}
use Rattle.draid_rack.specs.declared.Rack.{Ghosts}
use Rattle.draid_metaslab.specs.Spaces.{Stripes}
use Rattle.draid_machine.specs.After.{cancel_state}
use Rattle.draid_machine.specs.State as machine
use Rattle.draid_machine.specs.Step.{CancelStep}
use Rattle.draid_entries.specs.declared.history.History.{History}
use Rattle.draid_entries.specs.History.{owed_of, reserved_of, stored_of}
use Rattle.draid_pass.specs.declared.pass.Pass.{Pass}
use Rattle.draid_slots.specs.States.{pass_in}
use Rattle.draid_shard.specs.Fits.{Tables, Valid, owed_for_pass}
use Rattle.draid_shard.specs.Loans.{owed_for_loan}
use Rattle.draid_shard.specs.States.{IsIn}
use Rattle.draid_shard.specs.declared.shard.Shard.{Shard}
use Rattle.draid_passing.proofs.Spaces.{tables_shut}

module _ {R A : Type 0} (old : Shard R A) (space : Stripes) (history : History) where
  abbrev pub cancelled : Shard R A
  cancelled = record old { pass = None; kept = None; space = space; history = history }

  pub cancel_valid : (rack : Ghosts R) → Valid rack old → space ≡ record old.space { disabled = false } → owed_of history + (owed_for_pass old.pass + owed_for_loan old.kept) ≡ owed_of old.history
      → reserved_of history ≡ reserved_of old.history → stored_of old.history ≤ stored_of history → Valid rack cancelled
  cancel_valid rack v space_is owed reserved stored = record {
    part = v.part;
    version = v.version;
    asked = v.asked;
    tables = subst (λ (s : Stripes). Tables old.geometry old.open_group s old.entries) (sym space_is) (tables_shut old.geometry old.open_group old.space old.entries false v.tables);
    disabled = ap (λ (s : Stripes). s.disabled) space_is;
    few = v.few;
    here = v.here;
    slots = v.slots;
    once = v.once;
    pass = tt;
    kept = tt;
    serial = (let low = v.serial in omega (arith, low, stored));
    flushed = tt;
    logs = λ at there. (let room = v.logs at there in omega (arith, room));
    leaves = v.leaves;
    groups = v.groups;
    low = v.low;
    tickets = v.tickets;
    settled = v.settled;
    owed = (let was = v.owed in omega (arith, was, owed, reserved));
  }

  pub cancel_step : IsSome old.pass → (w : machine.State) → IsIn old w → CancelStep w (cancel_state w)
  cancel_step some w is = by old.pass refl some
    where
      by : (o : Option Pass) → old.pass ≡ o → IsSome o → CancelStep w (cancel_state w)
      by None at none = absurd (true≢false (sym none))
      by (Some p) at there = record { p = pass_in old.slots p; pass = is.pass ∙ ap (option_map (pass_in old.slots)) at; made = refl }

  pub cancel_in : (w : machine.State) → IsIn old w → IsIn cancelled (cancel_state w)
  cancel_in w is = record {
    held = is.held;
    slots = record { order = is.slots.order; arms = is.slots.arms; detached = is.slots.detached; only = is.slots.only };
    pass = refl;
    last = is.last;
    open_group_is = is.open_group_is;
    closing = is.closing;
    sealed = is.sealed;
    committed = is.committed;
    version = is.version;
    asked = is.asked;
    serial = is.serial;
    loan = refl;
  }
