-- What a shard keeps whose tables and history changed.
use Rattle.std.proofs.Common.{[], ◌∷◌, ◌++◌, ap, length, ◌≤◌, ℕ, Bool, Option, Some, None, arith, ◌≡◌, ◌+◌, ◌<◌, ◌∙◌}
use Rattle.std.proofs.lemmas.List.{length_push}
use Rattle.draid_shard.specs.Fits.{AreFitting, AreGroups, AreHere, Tables, TicketsAreNew, Valid, oldest_open}
use Rattle.draid_names.specs.Numbers.{most_held}
use Rattle.draid_spec.specs.Geometry.{metaslab_stripes}
use Rattle.draid_metaslab.specs.Spaces.{Stripes}
use Rattle.draid_machine.specs.State as machine
use Rattle.draid_rack.specs.declared.Rack.{Ghosts}
use Rattle.draid_machine.specs.declared.event.Event.{Event}
use Rattle.draid_entries.specs.declared.entry.Entry.{Entry}
use Rattle.draid_entries.specs.declared.entries.Entries.{Entries}
use Rattle.draid_entries.specs.declared.history.History.{History}
use Rattle.draid_entries.specs.Entries.{count_of, entry_at, owed_by}
use Rattle.draid_entries.specs.History.{events_of, owed_of, reserved_of, stored_of}
use Rattle.draid_shard.specs.declared.shard.Shard.{Shard}
use Rattle.draid_shard.specs.States.{IsIn}
use Rattle.draid_shard.proofs.Sizes.{few_stripes}
use Rattle.draid_shard.proofs.Held.{tables_in, with_tables}

-- the first group in which a ticket may have been born isn't behind the open one
pub oldest_low : (group : ℕ) (closing : Option ℕ) (committed : ℕ) (sealed : Bool) → AreGroups group closing committed sealed → oldest_open group closing ≤ group
oldest_low group None committed sealed are = omega arith
oldest_low group (Some t) committed sealed are = let behind = are.0 in omega (arith, behind)

-- as much more or less is owed as the tables owe
abbrev pub OwesSo : {R A : Type 0} → Shard R A → Entries → History → Type 0
OwesSo old entries history =
    owed_of history + owed_by old.geometry.g old.entries + reserved_of old.history ≡ owed_of old.history + owed_by old.geometry.g entries + reserved_of history

-- tickets that weren't born before a group aren't so afterwards
abbrev pub KeepsTickets : ℕ → Entries → Entries → Type 0
KeepsTickets open_group old new = (from : ℕ) → from ≤ open_group → TicketsAreNew old from → TicketsAreNew new from

pub valid_with : {R A : Type 0} (rack : Ghosts R) (old : Shard R A) (space : Stripes) (entries : Entries) (history : History) → Valid rack old
    → Tables old.geometry old.open_group space entries → space.disabled ≡ old.space.disabled → count_of entries ≤ most_held old.version
    → AreHere entries old.number → KeepsTickets old.open_group old.entries entries → OwesSo old entries history
    → stored_of old.history ≤ stored_of history → Valid rack (with_tables old space entries history)
valid_with rack old space entries history v tables disabled few here tickets owed stored = record {
  part = v.part;
  version = v.version;
  asked = v.asked;
  tables = tables;
  disabled = disabled ∙ v.disabled;
  few = few;
  here = here;
  slots = v.slots;
  once = v.once;
  pass = v.pass;
  kept = v.kept;
  serial = (let low = v.serial in omega (arith, low, stored));
  flushed = v.flushed;
  logs = v.logs;
  leaves = v.leaves;
  groups = v.groups;
  low = v.low;
  tickets = tickets (oldest_open old.open_group old.closing) (oldest_low old.open_group old.closing old.committed old.sealed v.groups) v.tickets;
  settled = λ sealed. tickets old.open_group (omega arith) (v.settled sealed);
  owed = let all = v.owed in omega (arith, all, owed);
}

-- what begins at a stripe begins inside
pub inside_stripes : {R A : Type 0} (rack : Ghosts R) (shard : Shard R A) → Valid rack shard → (e : Entry) → entry_at shard.entries e.pointer.first ≡ Some e
    → e.pointer.first < metaslab_stripes shard.geometry
inside_stripes rack shard v e there =
    let run = (v.tables.placed e.pointer.first e there).run in
    let some = run.some in
    let inside = run.inside in
    omega (arith, some, inside)

pub fitting : {R A : Type 0} (rack : Ghosts R) (shard : Shard R A) → Valid rack shard → AreFitting shard.space shard.entries
fitting rack shard v = record {
  geometry = shard.geometry;
  open_group = shard.open_group;
  tables = v.tables;
  low = few_stripes shard.geometry v.part.layout.geometry_is;
}

-- an event more is stored
pub stored_more : (old new : History) (event : Event) → events_of new ≡ events_of old ++ event ∷ [] → stored_of old ≤ stored_of new
stored_more old new event is =
    let count : length (events_of new) ≡ length (events_of old) + 1 = ap length is ∙ length_push (events_of old) event in
    omega (arith, count)

-- a history alone changed
pub history_in : {R A : Type 0} (old : Shard R A) (history : History) (w : machine.State) → IsIn old w → IsIn (with_tables old old.space old.entries history) w
history_in old history w is_in = tables_in old old.space old.entries history w w.core.held w.present w.aside w.kept is_in is_in.held
