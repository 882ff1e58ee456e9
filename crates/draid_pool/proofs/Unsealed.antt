-- A seal is refused behind its flushes: only devices changed.
use Rattle.std.proofs.Common.{◌≡◌, Ok, Err, refl, sym, subst}
use Rattle.std.specs.Prelude.{IfErr, Result}
use Rattle.draid_rack.specs.declared.Rack.{Ghosts}
use Rattle.draid_machine.specs.State as machine
use Rattle.draid_shard.specs.Changes.{KeepsBlocks}
use Rattle.draid_shard.specs.Fits.{HasLeaves, Valid}
use Rattle.draid_shard.specs.States.{DoesNone, IsIn}
use Rattle.draid_shard.specs.declared.shard.Shard.{Shard}
use Rattle.draid_shard.proofs.Changed.{same_entries}
use Rattle.draid_pool.specs.Groups.{NeverWaits, StaysIfWaiting}
use Rattle.draid_pool.specs.declared.fault.SealFault.{SealFault}
use Rattle.draid_pool.specs.declared.fault.SealFault.TheVariants as seal

-- what never waits stays if it waits
pub waits_never : {T R A : Type 0} (old new : Shard R A) (result : Result T SealFault) → IfErr result NeverWaits → IfErr result (StaysIfWaiting old new)
waits_never old new (Ok it) never = tt
waits_never old new (Err (seal.NotYet tickets)) never = absurd never
waits_never old new (Err seal.Area) never = tt
waits_never old new (Err seal.NoMemory) never = tt

module _ {R A : Type 0} (old : Shard R A) (rack : R) (even odd : A) where
  abbrev new : Shard R A
  new = record old { rack = rack; even = even; odd = odd }

  pub unsealed_valid : (ghosts : Ghosts R) → ghosts.shape rack ≡ ghosts.shape old.rack → Valid ghosts old → Valid ghosts new
  unsealed_valid ghosts same v = record {
    part = v.part;
    version = v.version;
    asked = v.asked;
    tables = v.tables;
    disabled = v.disabled;
    few = v.few;
    here = v.here;
    slots = v.slots;
    once = v.once;
    pass = v.pass;
    kept = v.kept;
    serial = v.serial;
    flushed = v.flushed;
    logs = v.logs;
    leaves = subst (λ shape. HasLeaves shape old.geometry old.slots) (sym same) v.leaves;
    groups = v.groups;
    low = v.low;
    tickets = v.tickets;
    settled = v.settled;
    owed = v.owed;
  }

  unsealed_in : (w : machine.State) → IsIn old w → IsIn new w
  unsealed_in w at = record {
    held = at.held;
    slots = at.slots;
    pass = at.pass;
    last = at.last;
    open_group_is = at.open_group_is;
    closing = at.closing;
    sealed = at.sealed;
    committed = at.committed;
    version = at.version;
    asked = at.asked;
    serial = at.serial;
    loan = at.loan;
  }

  pub unsealed_none : DoesNone old new
  unsealed_none = record { part = refl; stored = refl; stays = unsealed_in }

  pub unsealed_keeps : KeepsBlocks old new
  unsealed_keeps = record { entries = same_entries old.entries; groups = record { open_group_is = refl; closing = refl; sealed = refl; committed = refl } }
