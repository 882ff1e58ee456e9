-- A shard whose rack and history alone changed.
use Rattle.std.proofs.Common.{◌≤◌, ◌≡◌, ◌∙◌, arith, refl, sym, ap, subst}
use Rattle.draid_rack.specs.declared.Rack.{Ghosts}
use Rattle.draid_entries.specs.declared.history.History.{History}
use Rattle.draid_entries.specs.History.{owed_of, reserved_of, stored_of}
use Rattle.draid_shard.specs.Fits.{HasLeaves, Valid}
use Rattle.draid_shard.specs.declared.shard.Shard.{Shard}

valid_on : {R A : Type 0} (rack : Ghosts R) (old : Shard R A) (r : R) (history : History) → rack.shape r ≡ rack.shape old.rack → owed_of history ≡ owed_of old.history
    → reserved_of history ≡ reserved_of old.history → stored_of old.history ≤ stored_of history → Valid rack old → Valid rack (record old { rack = r; history = history })
valid_on rack old r history shape owed reserved stored v = record {
  part = v.part;
  version = v.version;
  asked = v.asked;
  tables = v.tables;
  disabled = v.disabled;
  few = v.few;
  here = v.here;
  slots = v.slots;
  once = v.once;
  pass = v.pass;
  kept = v.kept;
  serial = (let low = v.serial in omega (arith, low, stored));
  flushed = v.flushed;
  logs = v.logs;
  leaves = subst (λ shape. HasLeaves shape old.geometry old.slots) (sym shape) v.leaves;
  groups = v.groups;
  low = v.low;
  tickets = v.tickets;
  settled = v.settled;
  owed = (let was = v.owed in omega (arith, was, owed, reserved));
}

pub valid_rack : {R A : Type 0} (rack : Ghosts R) (old new : Shard R A) → new ≡ record old { rack = new.rack } → rack.shape new.rack ≡ rack.shape old.rack → Valid rack old → Valid rack new
valid_rack rack old new after shape v = subst (Valid rack) (sym after) (valid_on rack old new.rack old.history shape refl refl (omega arith) v)

pub valid_fetched : {R A : Type 0} (rack : Ghosts R) (old new : Shard R A) → new ≡ record old { rack = new.rack; history = new.history } → rack.shape new.rack ≡ rack.shape old.rack
    → owed_of new.history ≡ owed_of old.history → reserved_of new.history ≡ reserved_of old.history → stored_of old.history ≤ stored_of new.history → Valid rack old → Valid rack new
valid_fetched rack old new after shape owed reserved stored v = subst (Valid rack) (sym after) (valid_on rack old new.rack new.history shape owed reserved stored v)

pub rack_twice : {R A : Type 0} (a b c : Shard R A) → b ≡ record a { rack = b.rack } → c ≡ record b { rack = c.rack } → c ≡ record a { rack = c.rack }
rack_twice {R} {A} a b c one two = two ∙ ap (λ (s : Shard R A). record s { rack = c.rack }) one

pub with_history : {R A : Type 0} (a b : Shard R A) (history : History) → b ≡ record a { rack = b.rack } → record b { history = history } ≡ record a { rack = b.rack; history = history }
with_history {R} {A} a b history one = ap (λ (s : Shard R A). record s { history = history }) one

pub geometry_in : {R A : Type 0} (old new : Shard R A) → new ≡ record old { rack = new.rack } → new.geometry ≡ old.geometry
geometry_in old new after = ap (λ s. s.geometry) after
