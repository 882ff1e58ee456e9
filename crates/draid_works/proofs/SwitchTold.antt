-- A leaf that goes offline in a lane or comes back, told from the state in which the section began.
use Rattle.std.proofs.Common.{◌≡◌, ◌+◌, ◌∙◌, ℕ, Bool, true, List, Option, Some, None, sym, subst, length}
use Rattle.std.specs.Prelude.{Result}
use Rattle.draid_rack.specs.declared.Rack as racks
use Rattle.draid_area.specs.declared.Area as areas
use Rattle.draid_session.specs.Holds.{Hold}
use Rattle.draid_session.specs.State.{State}
use Rattle.draid_uber.specs.Slots.{group_of}
use Rattle.draid_uber.specs.Uber as ubers
use Rattle.draid_uber.specs.declared.uber.Uber.{Uber}
use Rattle.draid_pool.specs.Grouping.{ClosesNext}
use Rattle.draid_pool.specs.Rounds.{EachIs}
use Rattle.draid_pool.specs.Threads.{Knows}
use Rattle.draid_changes.specs.declared.fault.ArmFault.{ArmFault}
use Rattle.draid_lanes.specs.Governing.{IsGovernor, lane_last}
use Rattle.draid_lanes.specs.Knowing.{KnowsLater}
use Rattle.draid_lanes.specs.Lanes.{table_of}
use Rattle.draid_lanes.specs.Locks.{owned_by}
use Rattle.draid_lanes.specs.Traces.{IsUberTurn, LaneTold, LeadsLane, StandsAt}
use Rattle.draid_lanes.specs.Ubers.{IsLane, IsUberOf}
use Rattle.draid_lanes.specs.Waits.{LaneWent}
use Rattle.draid_lanes.specs.declared.lane.Lane.{Lane}
use Rattle.draid_lanes.specs.declared.locked.Locked.{Locked}
use Rattle.draid_lanes.proofs.LaneTurns.{leads_lane}
use Rattle.draid_lanes.proofs.MetLane.{Met, beyond, count_is, governor, met_lane, ready}
use Rattle.draid_lanes.proofs.RoundWords.{Says}
use Rattle.draid_lanes.proofs.UberTurns.{uber_turn, ubers_all}
use Rattle.draid_works.specs.Switched.{SwitchedIn, SwitchesBy, SwitchesThrough}
use Rattle.draid_works.specs.Told.{SwitchBut, SwitchLane}
use Rattle.draid_works.proofs.SwitchLeads.{switches_lead}
use Rattle.draid_works.proofs.SwitchSays.{switch_holds, switch_said}
use Rattle.draid_works.proofs.SwitchWords.{tried_stage}

module _ {R A G W : Type 0} (rack : racks.Ghosts R) (area : areas.Ghosts A) (x : State) (leaf : ℕ) (offline : Bool) (old new : Lane R A G W) (result : Result Unit ArmFault) (lane : IsLane rack old.metaslabs.turns.now old.metaslabs.passes.items)
    (turns : old.uber.now.first.turns.now ≡ old.metaslabs.turns.now) (first : IsUberOf rack area old.uber.now.first.turns.now old.uber.now.first.uber old.uber.now.first.groups)
    (did : SwitchedIn rack area leaf offline old.uber.now old.metaslabs new.metaslabs result old.pass new.pass) (lane_new : IsLane rack new.metaslabs.turns.now new.metaslabs.passes.items) (turns_new : new.metaslabs.turns.now ≡ old.metaslabs.turns.now) (uber_new : new.uber.now ≡ old.uber.now)
    (all : length old.metaslabs.turns.now ≡ x.geometry.props.metaslabs) (many : length x.metaslabs ≡ x.geometry.props.metaslabs) where
  abbrev Made : Option (Result Unit ArmFault) → Locked R A G W → Uber A → Option (Result Unit ArmFault) → Locked R A G W → Uber A → Type 0
  Made before a u came b v = SwitchesBy rack area leaf offline a u came b v

  abbrev count : ℕ
  count = length did.related.met.turns.now

  abbrev gov : IsGovernor rack area count old.metaslabs.turns.now did.related.met.passes.items did.value.uber
  gov = governor rack area x Made old new None (Some result) lane turns first did lane_new turns_new

  abbrev long : count ≡ length old.metaslabs.turns.now
  long = count_is rack area x Made old new None (Some result) lane turns first did lane_new turns_new

  abbrev through : SwitchesThrough rack area lane_last (LaneWent rack area) true (owned_by did.related.met.passes.items) count leaf offline did.related.met did.value.uber result did.related.after did.left.uber
  through = did.related.related.0

  abbrev us : List Hold
  us = switch_holds rack area x (owned_by did.related.met.passes.items) gov.own count (long ∙ all) gov.some leaf offline through.mid did.related.after through.w did.left.uber result through.switches

  module _ (y : State) (stands : StandsAt rack area x old y) where
    abbrev m : Met rack area x Made old new None (Some result) lane turns first did lane_new turns_new
    m = met_lane rack area x Made old new None (Some result) lane turns first did lane_new turns_new y stands

    said : Says rack area x old.metaslabs did.related.after us (SwitchBut x leaf offline result)
    said =
        let tried = tried_stage rack area x (owned_by did.related.met.passes.items) gov.own count (long ∙ all) leaf offline through.waits did.related.met through.mid did.value.uber through.w through.front m.came in
        switch_said rack area x (owned_by did.related.met.passes.items) gov.own count (long ∙ all) gov.some leaf offline old.metaslabs did.related.met long lane.fits.many m.ts m.seen m.traced m.some m.long m.closed through.mid did.related.after through.w did.left.uber result
        (subst (λ t. EachIs count (ClosesNext rack (group_of (ubers.kept_of t) + 1)) (lane_last did.related.met)) (sym tried.1) (ready rack area x Made old new None (Some result) lane turns first did lane_new turns_new)) tried.0 through.switches

    turn : IsUberTurn rack area x old.uber.now new.pass.seen (length did.log) us
    turn = uber_turn rack area x Made old.uber.now old.metaslabs new.metaslabs None (Some result) old.pass new.pass lane turns first did lane_new turns_new us (ubers_all said.holds us said.traced.of_uber) (many ∙ sym all)
        (λ z more g.
        switches_lead rack area x z (owned_by did.related.met.passes.items) gov.own count (long ∙ all) gov.some (more ∙ sym long) leaf offline did.related.met did.related.after did.value.uber did.left.uber result
        (ready rack area x Made old new None (Some result) lane turns first did lane_new turns_new) (beyond rack area x Made old new None (Some result) lane turns first did lane_new turns_new) through did.related.related.1 g)

    lane_leads : KnowsLater rack area (owned_by new.metaslabs.passes.items) (lane_last new.metaslabs) (table_of new) new.own.seq new.own.floor y → LeadsLane rack area x (SwitchLane x leaf offline result y.store) old new
    lane_leads later = leads_lane rack area x Made old new None (Some result) lane did lane_new turns_new uber_new said.turns said.holds us said.traced turn y stands later (SwitchBut x leaf offline result) said.done

  pub switch_told : ((y : State) → Knows rack area (owned_by old.metaslabs.passes.items) (lane_last old.metaslabs) (table_of old) old.own.seq old.own.floor y
      → KnowsLater rack area (owned_by new.metaslabs.passes.items) (lane_last new.metaslabs) (table_of new) new.own.seq new.own.floor y) → LaneTold rack area x (SwitchLane x leaf offline result) old new
  switch_told later y stands = lane_leads y stands (later y stands.knows)
