-- For which states of its metaslab a shard stands: what it stores is what they have. What they have besides (which segments are present, in doubt or kept, and
-- the images) it doesn't store.
use Rattle.std.specs.Prelude.{◌≡◌, ◌++◌, List, [], ◌∷◌, is_some, option_map}
use Rattle.draid_machine.specs.declared.event.Event.{Event}
use Rattle.draid_machine.specs.declared.names.Key.{Key}
use Rattle.draid_machine.specs.State as machine
use Rattle.draid_machine.specs.Created.{IsReached}
use Rattle.draid_machine.specs.Step.{Step}
use Rattle.draid_entries.specs.Entries.{held_in}
use Rattle.draid_entries.specs.History.{events_of}
use Rattle.draid_slots.specs.States.{HasSlots, pass_in}
use Rattle.draid_shard.specs.Loans.{loan_in}
use Rattle.draid_shard.specs.Part.{Part, layout_in}
use Rattle.draid_shard.specs.declared.shard.Shard.{Shard}

-- the metaslab that the shard is
abbrev pub part_of : {R A : Type 0} → Shard R A → Part
part_of shard = record { geometry = shard.geometry; perms = shard.perms; number = shard.number }

abbrev pub layout_by : {R A : Type 0} → Shard R A → machine.Layout
layout_by shard = layout_in (part_of shard)

pub record IsIn {R A : Type 0} (shard : Shard R A) (w : machine.State) : Type 0 where
  pub held : (key : Key) → w.core.held key ≡ held_in shard.entries key
  pub slots : HasSlots shard.slots w.core
  pub pass : w.core.pass ≡ option_map (pass_in shard.slots) shard.pass
  pub last : w.core.last ≡ shard.last_pass
  pub open_group_is : w.open_group ≡ shard.open_group
  pub closing : w.closing ≡ shard.closing
  pub sealed : is_some w.sealed ≡ shard.sealed
  pub committed : w.committed ≡ shard.committed
  pub version : w.version ≡ shard.version
  pub asked : w.asked ≡ shard.asked
  pub serial : w.serial ≡ shard.serial
  pub loan : w.loan ≡ option_map loan_in shard.kept

-- the events since the shard's opening
abbrev pub stored_in : {R A : Type 0} → Shard R A → List Event
stored_in shard = events_of shard.history

-- an event is legal in a state, and leads to one for which the shard stands
pub record Leads {R A : Type 0} (l : machine.Layout) (w : machine.State) (event : Event) (new : Shard R A) : Type 0 where
  pub state : machine.State
  pub step : Step l w event state
  pub is_in : IsIn new state

-- A call did just one event: it is stored behind the others, and it is legal in each state for which the shard stood, and leads to one for which the shard stands.
pub record Does {R A : Type 0} (old new : Shard R A) (event : Event) : Type 0 where
  pub part : part_of new ≡ part_of old
  pub stored : stored_in new ≡ stored_in old ++ event ∷ []
  pub leads : (w : machine.State) → IsReached (layout_by old) w → IsIn old w → Leads (layout_by old) w event new

-- A call did no event.
pub record DoesNone {R A : Type 0} (old new : Shard R A) : Type 0 where
  pub part : part_of new ≡ part_of old
  pub stored : stored_in new ≡ stored_in old
  pub stays : (w : machine.State) → IsIn old w → IsIn new w
