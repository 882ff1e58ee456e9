-- A lane's sync, told from the state in which the section began.
use Rattle.std.proofs.Common.{◌≡◌, ◌+◌, ◌++◌, ◌∙◌, [], ℕ, List, Option, Some, None, sym, length}
use Rattle.std.specs.Prelude.{Result}
use Rattle.draid_rack.specs.declared.Rack as racks
use Rattle.draid_area.specs.declared.Area as areas
use Rattle.draid_session.specs.Holds.{Hold}
use Rattle.draid_session.specs.State.{State}
use Rattle.draid_uber.specs.Slots.{group_of}
use Rattle.draid_uber.specs.Uber as ubers
use Rattle.draid_uber.specs.declared.uber.Uber.{Uber}
use Rattle.draid_pool.specs.Grouping.{ClosesNext}
use Rattle.draid_pool.specs.Rounds.{EachIs}
use Rattle.draid_pool.specs.Threads.{Knows}
use Rattle.draid_pool.specs.declared.fault.SyncFault.{SyncFault}
use Rattle.draid_pool.specs.declared.fault.Synced.{Synced}
use Rattle.draid_pool.proofs.Looking.{looks_at}
use Rattle.draid_lanes.specs.Governing.{IsGovernor, lane_last}
use Rattle.draid_lanes.specs.Knowing.{KnowsLater}
use Rattle.draid_lanes.specs.Lanes.{table_of}
use Rattle.draid_lanes.specs.Locks.{owned_by}
use Rattle.draid_lanes.specs.Told.{SyncBut, SyncLane}
use Rattle.draid_lanes.specs.Traces.{IsUberTurn, LaneTold, LeadsLane, StandsAt}
use Rattle.draid_lanes.specs.Ubers.{IsLane, IsUberOf}
use Rattle.draid_lanes.specs.Waits.{SyncedIn, SyncsBy}
use Rattle.draid_lanes.specs.declared.lane.Lane.{Lane}
use Rattle.draid_lanes.specs.declared.locked.Locked.{Locked}
use Rattle.draid_lanes.proofs.GovernedGroup.{leads_base}
use Rattle.draid_lanes.proofs.GovernedSync.{through_lead}
use Rattle.draid_lanes.proofs.LaneSays.{sync_but}
use Rattle.draid_lanes.proofs.LaneTurns.{leads_lane}
use Rattle.draid_lanes.proofs.MetLane.{Met, beyond, count_is, governor, met_lane, ready}
use Rattle.draid_lanes.proofs.RoundWords.{Says}
use Rattle.draid_lanes.proofs.SyncWords.{SyncSays, through_holds, through_said}
use Rattle.draid_lanes.proofs.Tracing.{Traced, traced_then}
use Rattle.draid_lanes.proofs.UberTurns.{uber_turn, ubers_all}

module _ {R A G W : Type 0} (rack : racks.Ghosts R) (area : areas.Ghosts A) (x : State) (old new : Lane R A G W) (result : Result Synced SyncFault) (lane : IsLane rack old.metaslabs.turns.now old.metaslabs.passes.items) (turns : old.uber.now.first.turns.now ≡ old.metaslabs.turns.now)
    (first : IsUberOf rack area old.uber.now.first.turns.now old.uber.now.first.uber old.uber.now.first.groups) (did : SyncedIn rack area old.uber.now old.metaslabs new.metaslabs result old.pass new.pass) (lane_new : IsLane rack new.metaslabs.turns.now new.metaslabs.passes.items)
    (turns_new : new.metaslabs.turns.now ≡ old.metaslabs.turns.now) (uber_new : new.uber.now ≡ old.uber.now) (all : length old.metaslabs.turns.now ≡ x.geometry.props.metaslabs) (many : length x.metaslabs ≡ x.geometry.props.metaslabs) where
  abbrev Made : Option (Result Synced SyncFault) → Locked R A G W → Uber A → Option (Result Synced SyncFault) → Locked R A G W → Uber A → Type 0
  Made before a u came b v = SyncsBy rack area a u came b v

  abbrev met : Locked R A G W
  met = did.related.met

  abbrev count : ℕ
  count = length did.related.met.turns.now

  abbrev long : count ≡ length old.metaslabs.turns.now
  long = count_is rack area x Made old new None (Some result) lane turns first did lane_new turns_new

  abbrev gov : IsGovernor rack area count old.metaslabs.turns.now met.passes.items did.value.uber
  gov = governor rack area x Made old new None (Some result) lane turns first did lane_new turns_new

  abbrev is_ready : EachIs count (ClosesNext rack (group_of (ubers.kept_of did.value.uber) + 1)) (lane_last met)
  is_ready = ready rack area x Made old new None (Some result) lane turns first did lane_new turns_new

  abbrev us : List Hold
  us = through_holds rack area x (owned_by met.passes.items) gov.own count (long ∙ all) gov.some met did.related.after did.value.uber did.left.uber result did.related.related

  module _ (y : State) (stands : StandsAt rack area x old y) where
    abbrev m : Met rack area x Made old new None (Some result) lane turns first did lane_new turns_new
    m = met_lane rack area x Made old new None (Some result) lane turns first did lane_new turns_new y stands

    said : Says rack area x met did.related.after us (SyncSays rack area x (owned_by met.passes.items) gov.own count (long ∙ all) gov.some met result)
    said = through_said rack area x (owned_by met.passes.items) gov.own count (long ∙ all) gov.some met did.related.after did.value.uber did.left.uber result is_ready m.came did.related.related

    so : SyncBut x result (looks_at 0 m.seen ++ said.holds)
    so = sync_but rack area x (owned_by met.passes.items) gov.own count (long ∙ all) met m.seen m.long m.closed gov.some result said.holds said.done

    traced : Traced rack area x old.metaslabs did.related.after (λ k. m.ts k ++ said.turns k) (looks_at 0 m.seen ++ said.holds) us
    traced = traced_then rack area x old.metaslabs met did.related.after m.ts said.turns (looks_at 0 m.seen) said.holds [] us m.traced said.traced

    turn : IsUberTurn rack area x old.uber.now new.pass.seen (length did.log) us
    turn = uber_turn rack area x Made old.uber.now old.metaslabs new.metaslabs None (Some result) old.pass new.pass lane turns first did lane_new turns_new us (ubers_all said.holds us said.traced.of_uber) (many ∙ sym all)
        (λ z more g.
        leads_base rack area x z us did.related.after did.left.uber
        (through_lead rack area x z (owned_by met.passes.items) gov.own count (long ∙ all) gov.some (more ∙ sym long) met did.related.after did.value.uber did.left.uber result z is_ready
        (beyond rack area x Made old new None (Some result) lane turns first did lane_new turns_new) did.related.related g))

    lane_leads : KnowsLater rack area (owned_by new.metaslabs.passes.items) (lane_last new.metaslabs) (table_of new) new.own.seq new.own.floor y → LeadsLane rack area x (SyncLane x result y.store) old new
    lane_leads later = leads_lane rack area x Made old new None (Some result) lane did lane_new turns_new uber_new (λ k. m.ts k ++ said.turns k) (looks_at 0 m.seen ++ said.holds) us traced turn y stands later (SyncBut x result) so

  pub sync_told : ((y : State) → Knows rack area (owned_by old.metaslabs.passes.items) (lane_last old.metaslabs) (table_of old) old.own.seq old.own.floor y
      → KnowsLater rack area (owned_by new.metaslabs.passes.items) (lane_last new.metaslabs) (table_of new) new.own.seq new.own.floor y) → LaneTold rack area x (SyncLane x result) old new
  sync_told later y stands = lane_leads y stands (later y stands.knows)
