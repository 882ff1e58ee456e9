-- Room was made in a shard's history: it has the same block to lend, and what was lent of it was lent of the shard before.
use Rattle.std.proofs.Common.{◌≡◌, ◌++◌, ◌∷◌, ◌∙◌, [], ℕ, List, Option, ap}
use Rattle.draid_rack.specs.declared.Rack.{Ghosts}
use Rattle.draid_machine.specs.State as machine
use Rattle.draid_machine.specs.declared.event.Event.{Event}
use Rattle.draid_machine.specs.declared.event.Event.TheVariants.{Lend}
use Rattle.draid_entries.specs.declared.entry.Entry.{Entry}
use Rattle.draid_entries.specs.declared.history.History.{History}
use Rattle.draid_entries.specs.History.{events_of}
use Rattle.draid_shard.specs.States.{IsIn}
use Rattle.draid_shard.specs.declared.loan.KeptLoan.{KeptLoan}
use Rattle.draid_shard.specs.declared.shard.Shard.{Shard}
use Rattle.draid_restore.specs.Loans.{IsUnit, LendsBlock}

module _ {R A : Type 0} (old : Shard R A) (idle : Option KeptLoan) (history : History) where
  abbrev pub asked : Shard R A
  asked = record old { idle = idle; history = history }

  asked_in : (w : machine.State) → IsIn old w → IsIn asked w
  asked_in w is = record {
    held = is.held;
    slots = record { order = is.slots.order; arms = is.slots.arms; detached = is.slots.detached; only = is.slots.only };
    pass = is.pass;
    last = is.last;
    open_group_is = is.open_group_is;
    closing = is.closing;
    sealed = is.sealed;
    committed = is.committed;
    version = is.version;
    asked = is.asked;
    serial = is.serial;
    loan = is.loan;
  }

  back_in : (w : machine.State) → IsIn asked w → IsIn old w
  back_in w is = record {
    held = is.held;
    slots = record { order = is.slots.order; arms = is.slots.arms; detached = is.slots.detached; only = is.slots.only };
    pass = is.pass;
    last = is.last;
    open_group_is = is.open_group_is;
    closing = is.closing;
    sealed = is.sealed;
    committed = is.committed;
    version = is.version;
    asked = is.asked;
    serial = is.serial;
    loan = is.loan;
  }

  pub asked_unit : (entry : Entry) (stripe : ℕ) → IsUnit old entry stripe → IsUnit asked entry stripe
  asked_unit entry stripe unit = record { there = unit.there; next = λ w is p there. unit.next w (back_in w is) p there }

  pub asked_lends : (rack : Ghosts R) (new : Shard R A) → events_of history ≡ events_of old.history → LendsBlock rack asked new → LendsBlock rack old new
  asked_lends rack new same z = record {
    failed = z.failed;
    does = record {
      part = z.does.part;
      stored = z.does.stored ∙ ap (λ (events : List Event). events ++ Lend z.failed ∷ []) same;
      leads = λ w reached is. z.does.leads w reached (asked_in w is);
    };
    acts = λ pieces w after step reached is. z.acts pieces w after step reached (asked_in w is);
    counts = z.counts;
    pass = z.pass;
    lent = z.lent;
    lent_is = z.lent_is;
    here = z.here;
    serial = z.serial;
    behind = z.behind;
    unsolved = z.unsolved;
    reads = z.reads;
  }
