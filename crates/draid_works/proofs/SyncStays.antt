-- What a lane has of its own objects stays through a sync that waited.
use Rattle.std.proofs.Common.{◌≡◌, ℕ, true, Option, Some, None}
use Rattle.std.specs.Prelude.{Result}
use Rattle.draid_names.specs.declared.pointer.Pointer.{Pointer}
use Rattle.draid_rack.specs.declared.Rack as racks
use Rattle.draid_area.specs.declared.Area as areas
use Rattle.draid_session.specs.State.{State}
use Rattle.draid_turn.specs.Calls.{Caller, Lock}
use Rattle.draid_turn.specs.declared.past.Past.{Past}
use Rattle.draid_uber.specs.declared.uber.Uber.{Uber}
use Rattle.draid_pool.specs.Threads.{Knows}
use Rattle.draid_pool.specs.declared.fault.SyncFault.{SyncFault}
use Rattle.draid_pool.specs.declared.fault.Synced.{Synced}
use Rattle.draid_lanes.specs.Governing.{lane_last}
use Rattle.draid_lanes.specs.Locks.{owned_by}
use Rattle.draid_lanes.specs.Ubers.{IsLane, IsUberOf}
use Rattle.draid_lanes.specs.Waits.{LaneWent, SyncedIn, SyncsBy}
use Rattle.draid_lanes.specs.declared.locked.Locked.{Locked}
use Rattle.draid_lanes.specs.declared.uber.UberCell.{UberCell}
use Rattle.draid_lanes.specs.Knowing.{KnowsLater}
use Rattle.draid_works.proofs.LaneStays.{governed_knows, inside, lane_later}
use Rattle.draid_lanes.proofs.OwnGoes.{EachGoes, Goes, goes_on, goes_same, hold_goes}
use Rattle.draid_works.proofs.SyncSteps.{synced_goes}

module _ {R A G W : Type 0} (rack : racks.Ghosts R) (area : areas.Ghosts A) (lock : Lock (UberCell R A)) (old new : Locked R A G W) (result : Result Synced SyncFault) (pass next : Caller (Past (UberCell R A))) (lane : IsLane rack old.turns.now old.passes.items)
    (turns : lock.first.turns.now ≡ old.turns.now) (first : IsUberOf rack area lock.first.turns.now lock.first.uber lock.first.groups) (did : SyncedIn rack area lock old new result pass next) where
  abbrev Made : Option (Result Synced SyncFault) → Locked R A G W → Uber A → Option (Result Synced SyncFault) → Locked R A G W → Uber A → Type 0
  Made before a u came b v = SyncsBy rack area a u came b v

  synced_each : EachGoes rack area (owned_by old.passes.items) (lane_last did.related.met) (lane_last did.related.after)
  synced_each =
      let within = inside rack area Made lock old new None (Some result) pass next lane turns first did in
      synced_goes rack area lane_last (LaneWent rack area) true (owned_by did.related.met.passes.items) (owned_by old.passes.items) (lane_later rack area) (Goes rack area lane_last (LaneWent rack area) true (owned_by did.related.met.passes.items) (owned_by old.passes.items) within) (goes_same rack area lane_last (LaneWent rack area) true (owned_by did.related.met.passes.items) (owned_by old.passes.items) within) (goes_on rack area lane_last (LaneWent rack area) true (owned_by did.related.met.passes.items) (owned_by old.passes.items) within) (hold_goes rack area lane_last (LaneWent rack area) true (owned_by did.related.met.passes.items) (owned_by old.passes.items) within) _
      did.related.met did.related.after did.value.uber did.left.uber result did.related.related

  pub synced_knows : new.turns.now ≡ old.turns.now → (table : ℕ → Option Pointer) (seq floor : ℕ) (x : State) → Knows rack area (owned_by old.passes.items) (lane_last old) table seq floor x → KnowsLater rack area (owned_by old.passes.items) (lane_last new) table seq floor x
  synced_knows = governed_knows rack area Made lock old new None (Some result) pass next lane turns first did synced_each
