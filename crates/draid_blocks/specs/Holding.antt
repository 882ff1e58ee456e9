-- What the opening of a write does to a metaslab's space, table and history.
use Rattle.std.specs.Prelude.{◌≡◌, ◌<◌, ◌≤◌, ◌+◌, ◌++◌, ◌∷◌, [], ⊤, ℕ}
use Rattle.draid_metaslab.specs.Spaces.{Stripes, is_free}
use Rattle.draid_metaslab.specs.Spots.{IsLargest, IsLowest}
use Rattle.draid_machine.specs.declared.event.Event.{Event}
use Rattle.draid_entries.specs.declared.history.History.{History}
use Rattle.draid_entries.specs.History.{Passes, events_of, left_for_groups, limit_in, owed_of, reserved_of, stored_of}
use Rattle.draid_blocks.specs.declared.fault.BeginFault.{BeginFault}
use Rattle.draid_blocks.specs.declared.fault.BeginFault.TheVariants as begin

-- an event was stored for which room was asked, and the others of those that were asked for are owed
pub record StoresAsked (old new : History) (event : Event) (asked : ℕ) : Type 0 where
  pub stored : events_of new ≡ events_of old ++ event ∷ []
  pub owed : owed_of new + 1 ≡ owed_of old + asked
  pub reserved : reserved_of new ≡ reserved_of old
  pub limit : limit_in new ≡ limit_in old

-- why a write wasn't entered
abbrev pub EnterRefused : History → ℕ → BeginFault → Type 0
EnterRefused history asked (begin.Worn events) = Passes history asked left_for_groups × (events ≡ stored_of history + owed_of history)
EnterRefused history asked begin.NoMemory = ⊤
EnterRefused history asked fault = ⊥

-- why no run was given to a block of so many stripes
abbrev pub HoldRefused : Stripes → History → ℕ → ℕ → BeginFault → Type 0
HoldRefused space history need asked (begin.NoRoom largest) = IsLargest (is_free space) space.height largest × (largest < need)
HoldRefused space history need asked (begin.Worn events) =
    ((first : ℕ) × IsLowest (is_free space) space.height need first × (first + need ≤ space.total))
    × Passes history asked left_for_groups × (events ≡ stored_of history + owed_of history)
HoldRefused space history need asked begin.NoMemory = ⊤
HoldRefused space history need asked fault = ⊥
