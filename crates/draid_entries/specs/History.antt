-- The events that a metaslab stores, and those for which it keeps room.
use Rattle.std.specs.Prelude.{◌≡◌, ◌+◌, ◌-◌, ◌<◌, ◌≤◌, ⊤, ℕ, List, Result, Ok, Err, vec_capacity, vec_len}
use Rattle.draid_machine.specs.declared.event.Event.{Event}
use Rattle.draid_entries.specs.declared.history.History.{History}
use Rattle.draid_entries.specs.declared.history.ReserveFault.{ReserveFault}
use Rattle.draid_entries.specs.declared.history.ReserveFault.TheVariants.{NoMemory, Worn}

-- the events since the opening
abbrev pub events_of : History → List Event
events_of h = h.events.items

-- how many there are, how many more are owed, how many of these are reserved and not used, and how many may be stored and owed in all
abbrev pub stored_of : History → ℕ
stored_of h = vec_len h.events

abbrev pub owed_of : History → ℕ
owed_of h = h.owed

abbrev pub reserved_of : History → ℕ
reserved_of h = h.reserved

abbrev pub limit_in : History → ℕ
limit_in h = h.limit

-- how many events every call but the closing of a group leaves before the limit
abbrev pub left_for_groups : ℕ
left_for_groups = 3072

-- so many events more than are stored and owed pass the limit less so many
abbrev pub Passes : History → ℕ → ℕ → Type 0
Passes h asked left = limit_in h < stored_of h + owed_of h + asked + left

-- the answer to a call that asks for so many events, of which those before the limit are left: worn just where they pass
abbrev pub AskIs : History → ℕ → ℕ → Result Unit ReserveFault → Type 0
AskIs h asked left (Ok done) = Passes h asked left → ⊥
AskIs h asked left (Err (Worn events)) = Passes h asked left × (events ≡ stored_of h + owed_of h)
AskIs h asked left (Err NoMemory) = ⊤

-- there is room for so many events beside those that are owed
abbrev pub IsAsked : History → ℕ → Type 0
IsAsked h asked = vec_len h.events + (h.owed + asked) ≤ vec_capacity h.events

-- the answer to a call that reserves so many events: it asks for those that aren't reserved yet
abbrev pub IsReserved : History → ℕ → Result Unit ReserveFault → Type 0
IsReserved h events (Ok done) = reserved_of h < events → Passes h (events - reserved_of h) left_for_groups → ⊥
IsReserved h events (Err (Worn used)) = (reserved_of h < events) × Passes h (events - reserved_of h) left_for_groups × (used ≡ stored_of h + owed_of h)
IsReserved h events (Err NoMemory) = reserved_of h < events

-- nothing was stored, and as much is owed and reserved
pub record KeepsOwed (old new : History) : Type 0 where
  pub events : events_of new ≡ events_of old
  pub stored : stored_of new ≡ stored_of old
  pub owed : owed_of new ≡ owed_of old
  pub reserved : reserved_of new ≡ reserved_of old
  pub limit : limit_in new ≡ limit_in old
