-- What a lane's command that may have waited does, in the session's words.
use Rattle.std.specs.Prelude.{◌≡◌, ℕ, List, Result, Ok, Err}
use Rattle.draid_session.specs.Groups as groups
use Rattle.draid_session.specs.Holds.{Hold}
use Rattle.draid_session.specs.Lanes.{LeavesLooks}
use Rattle.draid_session.specs.Phases.{Went}
use Rattle.draid_session.specs.State.{State, Store}
use Rattle.draid_pool.specs.Syncing.{end_of}
use Rattle.draid_pool.specs.declared.fault.SyncFault.{SyncFault}
use Rattle.draid_pool.specs.declared.fault.Synced.{Synced}

-- but for looks it is a sync, or one that was stopped
abbrev pub SyncBut : State → Result Synced SyncFault → List Hold → Type 0
SyncBut x (Ok it) hs = (left : List Hold) × LeavesLooks hs left × groups.Syncs x.geometry x.perms it.group it.thin left Went
SyncBut x (Err why) hs = (left : List Hold) × LeavesLooks hs left × groups.SyncStops x.geometry x.perms left (end_of {T = ℕ} (Err why))

-- so, and nothing of the lane's own changes
abbrev pub SyncLane : State → Result Synced SyncFault → Store → List Hold → Store → Type 0
SyncLane x result store holds new = SyncBut x result holds × (new ≡ store)
