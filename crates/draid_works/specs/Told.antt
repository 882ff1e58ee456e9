-- What a lane's command that may have waited does, in the session's words.
use Rattle.std.specs.Prelude.{◌≡◌, ℕ, Bool, List, Option, Result}
use Rattle.draid_names.specs.declared.pass_kind.PassKind.{PassKind}
use Rattle.draid_names.specs.declared.pass_kind.PassKind.TheVariants.{Heal, Rebuild}
use Rattle.draid_session.specs.Holds.{Hold}
use Rattle.draid_session.specs.Lanes.{LeavesLooks}
use Rattle.draid_session.specs.State.{State, Store}
use Rattle.draid_changes.specs.Answers.{SwitchDoes}
use Rattle.draid_changes.specs.declared.fault.ArmFault.{ArmFault}
use Rattle.draid_visits.specs.Rebuilding.{RebuildDoes, ScrubDoes}
use Rattle.draid_visits.specs.declared.rebuilding.MendFault.{MendFault}
use Rattle.draid_visits.specs.declared.rebuilding.Mended.{Mended}

-- but for looks a leaf goes offline or comes back, or why not
abbrev pub SwitchBut : State → ℕ → Bool → Result Unit ArmFault → List Hold → Type 0
SwitchBut x leaf offline result hs = (left : List Hold) × LeavesLooks hs left × SwitchDoes x leaf offline result left x.store

-- so, and nothing of the lane's own changes
abbrev pub SwitchLane : State → ℕ → Bool → Result Unit ArmFault → Store → List Hold → Store → Type 0
SwitchLane x leaf offline result store holds new = SwitchBut x leaf offline result holds × (new ≡ store)

-- but for looks metaslabs are rebuilt or scrubbed, with this answer
abbrev pub MendBut : State → PassKind → Option ℕ → Result Mended MendFault → List Hold → Type 0
MendBut x Rebuild limit result hs = (left : List Hold) × LeavesLooks hs left × RebuildDoes x limit result left x.store
MendBut x Heal limit result hs = (left : List Hold) × LeavesLooks hs left × ScrubDoes x limit result left x.store

-- So, and nothing of the lane's own changes. Of a scrub that is said where the blocks had bytes in all that the lane saw.
abbrev pub MendLane : State → PassKind → (saw : Type 0) → Option ℕ → Result Mended MendFault → Store → List Hold → Store → Type 0
MendLane x Rebuild saw limit result store holds new = MendBut x Rebuild limit result holds × (new ≡ store)
MendLane x Heal saw limit result store holds new = (saw → MendBut x Heal limit result holds) × (new ≡ store)
