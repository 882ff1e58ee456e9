-- What the replies of the commands on passes say, by the answers of the pool's calls.
use Rattle.std.specs.Prelude.{◌≡◌, ⊤, ℕ, List, Option, Result, Ok, Err}
use Rattle.draid_names.specs.declared.fault.Failed.{Failed}
use Rattle.draid_script.specs.declared.name.CommandName.TheVariants as name
use Rattle.draid_reply.specs.declared.reply.Reply.{Reply}
use Rattle.draid_reply.specs.declared.reply.Reply.TheVariants.{Cancelled, Last, NoMemory, PassThere, RebuildNothing, Rebuilt, Scrubbed, Worn}
use Rattle.draid_session.specs.Holds.{Hold}
use Rattle.draid_session.specs.State.{State, Store}
use Rattle.draid_visits.specs.Cancelling.{CancelDoes}
use Rattle.draid_visits.specs.Rebuilding.{RebuildDoes, ScrubDoes}
use Rattle.draid_visits.specs.declared.rebuilding.MendFault.{MendFault}
use Rattle.draid_visits.specs.declared.rebuilding.MendFault.TheVariants as fault
use Rattle.draid_visits.specs.declared.rebuilding.Mended.{Mended}

-- the call did what its answer says, and the reply is that of the answer
abbrev pub CancelSays : Reply → State → List Hold → Store → Type 0
CancelSays said x holds store = (ended : ℕ) × (said ≡ Cancelled ended) × CancelDoes x ended holds store

-- a reply is that of an answer. There is none where a device failed
abbrev pub IsRebuildReply : Result Mended MendFault → Result Reply Failed → Type 0
IsRebuildReply (Ok it) said = said ≡ Ok (Rebuilt it.from it.units it.errors it.paused)
IsRebuildReply (Err fault.Nothing) said = said ≡ Ok RebuildNothing
IsRebuildReply (Err (fault.PassThere metaslab number)) said = said ≡ Ok (PassThere name.Rebuild metaslab number)
IsRebuildReply (Err fault.Worn) said = said ≡ Ok (Worn name.Rebuild)
IsRebuildReply (Err fault.Last) said = said ≡ Ok (Last name.Rebuild)
IsRebuildReply (Err fault.NoMemory) said = said ≡ Ok (NoMemory name.Rebuild)
IsRebuildReply (Err fault.Shelf) (Ok reply) = ⊥
IsRebuildReply (Err fault.Shelf) (Err failed) = ⊤

abbrev pub RebuildSays : Option ℕ → Result Reply Failed → State → List Hold → Store → Type 0
RebuildSays limit said x holds store = (answer : Result Mended MendFault) × IsRebuildReply answer said × RebuildDoes x limit answer holds store

-- a scrub never fails by a device's area, and always has something to do
abbrev pub IsScrubReply : Result Mended MendFault → Reply → Type 0
IsScrubReply (Ok it) said = said ≡ Scrubbed it.from it.units it.repaired it.errors it.paused
IsScrubReply (Err fault.Nothing) said = ⊥
IsScrubReply (Err (fault.PassThere metaslab number)) said = said ≡ PassThere name.Scrub metaslab number
IsScrubReply (Err fault.Worn) said = said ≡ Worn name.Scrub
IsScrubReply (Err fault.Last) said = said ≡ Last name.Scrub
IsScrubReply (Err fault.NoMemory) said = said ≡ NoMemory name.Scrub
IsScrubReply (Err fault.Shelf) said = ⊥

abbrev pub ScrubSays : Option ℕ → Reply → State → List Hold → Store → Type 0
ScrubSays limit said x holds store = (answer : Result Mended MendFault) × IsScrubReply answer said × ScrubDoes x limit answer holds store
