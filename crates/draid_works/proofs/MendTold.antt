-- A rebuild in a lane, told from the state in which the section began.
use Rattle.std.proofs.Common.{◌≡◌, ◌<◌, ◌+◌, ◌∙◌, ◌∷◌, [], inl, ℕ, Bool, true, List, Option, Some, None, Err, arith, refl, sym, ap, subst, length}
use Rattle.std.specs.Prelude.{Result, slice_get}
use Rattle.std.proofs.lemmas.Option.{slice_get_within}
use Rattle.draid_names.specs.declared.pass_kind.PassKind.{PassKind}
use Rattle.draid_names.specs.declared.pass_kind.PassKind.TheVariants.{Heal, Rebuild}
use Rattle.draid_rack.specs.declared.Rack as racks
use Rattle.draid_area.specs.declared.Area as areas
use Rattle.draid_spec.specs.Geometry.{IsGeometry}
use Rattle.draid_session.specs.Holds.{Hold}
use Rattle.draid_session.specs.Lanes.{LeavesLooks}
use Rattle.draid_session.specs.State.{Metaslab, State}
use Rattle.draid_uber.specs.Slots.{group_of}
use Rattle.draid_uber.specs.Uber as ubers
use Rattle.draid_uber.specs.declared.uber.Uber.{Uber}
use Rattle.draid_pool.specs.Drifts.{groups_number, passes_number}
use Rattle.draid_pool.specs.Grouping.{ClosesNext}
use Rattle.draid_pool.specs.Rounds.{EachIs, NoneBeyond}
use Rattle.draid_pool.specs.Threads.{Knows}
use Rattle.draid_pool.proofs.Looking.{looks_at}
use Rattle.draid_visits.specs.declared.rebuilding.MendFault.{MendFault}
use Rattle.draid_visits.specs.declared.rebuilding.MendFault.TheVariants as fault
use Rattle.draid_visits.specs.declared.rebuilding.Mended.{Mended}
use Rattle.draid_lanes.specs.Governing.{IsGovernor, lane_last}
use Rattle.draid_lanes.specs.Knowing.{KnowsLater}
use Rattle.draid_lanes.specs.Lanes.{table_of}
use Rattle.draid_lanes.specs.Locks.{owned_by}
use Rattle.draid_lanes.specs.Traces.{HadBytes, IsUberTurn, LaneTold, LeadsLane, SawBytes, StandsAt}
use Rattle.draid_lanes.specs.Ubers.{IsLane, IsUberOf}
use Rattle.draid_lanes.specs.declared.lane.Lane.{Lane}
use Rattle.draid_lanes.specs.declared.locked.Locked.{Locked}
use Rattle.draid_lanes.proofs.GovernedGroup.{leads_base}
use Rattle.draid_lanes.proofs.LaneTurns.{leads_lane}
use Rattle.draid_lanes.proofs.MetLane.{Met, beyond, count_is, governor, met_lane, ready}
use Rattle.draid_lanes.proofs.RoundWords.{Says, said_as}
use Rattle.draid_lanes.proofs.UberTurns.{uber_turn, ubers_all}
use Rattle.draid_works.specs.Mended.{MendedIn, MendsLane}
use Rattle.draid_works.specs.Told.{MendBut, MendLane}
use Rattle.draid_works.proofs.LaneStays.{inside}
use Rattle.draid_works.proofs.MendLeads.{mend_leads}
use Rattle.draid_works.proofs.MendLooks.{Looked}
use Rattle.draid_works.proofs.MendRebuilt.{Through, mend_holds, rebuild_heals, rebuild_said}
use Rattle.draid_works.proofs.MendScrubbed.{scrub_said}
use Rattle.draid_works.proofs.MendSees.{SawIn, Seen}

-- looks leave nothing
all_looks : (n : ℕ) (ys : List Metaslab) → LeavesLooks (looks_at n ys) []
unfolding looks_at
all_looks n [] = refl
all_looks n (y ∷ ys) = inl (refl, all_looks (n + 1) ys)

-- what is said of it, by its kind
mend_said : {R A G W : Type 0} (rack : racks.Ghosts R) (area : areas.Ghosts A) (x : State) → IsGeometry x.geometry → (owns : ℕ → Bool) (own : owns groups_number ≡ true) → owns passes_number ≡ true → (some : 0 < x.geometry.props.metaslabs) (old : Locked R A G W)
    → x.geometry.props.metaslabs ≡ length old.turns.now → length old.passes.items ≡ length old.turns.now → (limit : Option ℕ) (kind : PassKind) (a b : Locked R A G W) (u v : Uber A) (result : Result Mended MendFault)
    → (kind ≡ Heal → (result ≡ Err fault.Nothing → ⊥) × (result ≡ Err fault.Shelf → ⊥)) → Looked rack area x owns own old a u → (it : Through rack area x owns own some kind limit a u result b v)
    → Says rack area x old b (mend_holds rack area x owns own some kind limit a b u v result it) (Seen rack area x kind b (MendBut x kind limit result))
mend_said rack area x geometry_is owns own own_passes some old old_all old_many limit Rebuild a b u v result answers l it =
    said_as rack area x old b (mend_holds rack area x owns own some Rebuild limit a b u v result it) (MendBut x Rebuild limit result) (Seen rack area x Rebuild b (MendBut x Rebuild limit result))
    (rebuild_said rack area x owns own own_passes some old old_all old_many limit a b u v result l it) (λ hs d saw. d)
mend_said rack area x geometry_is owns own own_passes some old old_all old_many limit Heal a b u v result answers l it =
    scrub_said rack area x geometry_is owns own own_passes some old old_all old_many limit a b u v result (answers refl).0 (answers refl).1 l it

module _ {R A G W : Type 0} (rack : racks.Ghosts R) (area : areas.Ghosts A) (x : State) (kind : PassKind) (limit : Option ℕ) (old new : Lane R A G W) (result : Result Mended MendFault) (lane : IsLane rack old.metaslabs.turns.now old.metaslabs.passes.items)
    (turns : old.uber.now.first.turns.now ≡ old.metaslabs.turns.now) (first : IsUberOf rack area old.uber.now.first.turns.now old.uber.now.first.uber old.uber.now.first.groups)
    (did : MendedIn rack area x.geometry kind limit old.uber.now old.metaslabs new.metaslabs result old.pass new.pass) (lane_new : IsLane rack new.metaslabs.turns.now new.metaslabs.passes.items) (turns_new : new.metaslabs.turns.now ≡ old.metaslabs.turns.now) (uber_new : new.uber.now ≡ old.uber.now)
    (passes : owned_by old.metaslabs.passes.items passes_number ≡ true) (all : length old.metaslabs.turns.now ≡ x.geometry.props.metaslabs) (many : length x.metaslabs ≡ x.geometry.props.metaslabs) (geometry_is : IsGeometry x.geometry)
    (answers : kind ≡ Heal → (result ≡ Err fault.Nothing → ⊥) × (result ≡ Err fault.Shelf → ⊥)) where
  abbrev Made : Option (Result Mended MendFault) → Locked R A G W → Uber A → Option (Result Mended MendFault) → Locked R A G W → Uber A → Type 0
  Made before a u came b v = MendsLane rack area x.geometry kind limit a u came b v

  abbrev count : ℕ
  count = length did.related.met.turns.now

  abbrev owns : ℕ → Bool
  owns = owned_by did.related.met.passes.items

  abbrev gov : IsGovernor rack area count old.metaslabs.turns.now did.related.met.passes.items did.value.uber
  gov = governor rack area x Made old new None (Some result) lane turns first did lane_new turns_new

  long : count ≡ x.geometry.props.metaslabs
  long = count_is rack area x Made old new None (Some result) lane turns first did lane_new turns_new ∙ all

  some : 0 < x.geometry.props.metaslabs
  some = subst (λ n. 0 < n) long gov.some

  own_passes : owns passes_number ≡ true
  own_passes = inside rack area Made old.uber.now old.metaslabs new.metaslabs None (Some result) old.pass new.pass lane turns first did passes_number passes

  is_ready : EachIs x.geometry.props.metaslabs (ClosesNext rack (group_of (ubers.kept_of did.value.uber) + 1)) (lane_last did.related.met)
  is_ready = subst (λ n. EachIs n (ClosesNext rack (group_of (ubers.kept_of did.value.uber) + 1)) (lane_last did.related.met)) long (ready rack area x Made old new None (Some result) lane turns first did lane_new turns_new)

  none_beyond : NoneBeyond x.geometry.props.metaslabs (lane_last did.related.met)
  none_beyond = subst (λ n. NoneBeyond n (lane_last did.related.met)) long (beyond rack area x Made old new None (Some result) lane turns first did lane_new turns_new)

  abbrev through : Through rack area x owns gov.own some kind limit did.related.met did.value.uber result did.related.after did.left.uber
  through = did.related.related.0

  abbrev us : List Hold
  us = mend_holds rack area x owns gov.own some kind limit did.related.met did.related.after did.value.uber did.left.uber result through

  module _ (y : State) (stands : StandsAt rack area x old y) where
    abbrev m : Met rack area x Made old new None (Some result) lane turns first did lane_new turns_new
    m = met_lane rack area x Made old new None (Some result) lane turns first did lane_new turns_new y stands

    looked : Looked rack area x owns gov.own old.metaslabs did.related.met did.value.uber
    looked = record {
      said = record { turns = m.ts; holds = looks_at 0 m.seen; traced = m.traced; done = all_looks 0 m.seen; came = m.came };
      turned = m.some;
      ready = is_ready;
      beyond = none_beyond;
    }

    said : Says rack area x old.metaslabs did.related.after us (Seen rack area x kind did.related.after (MendBut x kind limit result))
    said = mend_said rack area x geometry_is owns gov.own own_passes some old.metaslabs (sym all) lane.fits.many limit kind did.related.met did.related.after did.value.uber did.left.uber result answers looked through

    turn : IsUberTurn rack area x old.uber.now new.pass.seen (length did.log) us
    turn = uber_turn rack area x Made old.uber.now old.metaslabs new.metaslabs None (Some result) old.pass new.pass lane turns first did lane_new turns_new us (ubers_all said.holds us said.traced.of_uber) (many ∙ sym all)
        (λ z more g.
        leads_base rack area x z us did.related.after did.left.uber
        (mend_leads rack area x z owns gov.own some (more ∙ all) kind limit did.related.met did.related.after did.value.uber did.left.uber result through (record { ready = is_ready; beyond = none_beyond; governs = g })))

    lane_leads : (S : List Hold → Type 0) → ((hs : List Hold) → Seen rack area x kind did.related.after (MendBut x kind limit result) hs → S hs)
        → KnowsLater rack area (owned_by new.metaslabs.passes.items) (lane_last new.metaslabs) (table_of new) new.own.seq new.own.floor y → LeadsLane rack area x (λ holds store. S holds × (store ≡ y.store)) old new
    lane_leads S how later = leads_lane rack area x Made old new None (Some result) lane did lane_new turns_new uber_new said.turns said.holds us said.traced turn y stands later S (how said.holds said.done)

  -- what the lane saw it saw as it held the uberblock
  saw_after : SawIn rack area x new.metaslabs → SawIn rack area x did.related.after
  saw_after saw m lock pass there at =
      let less = slice_get_within did.related.after.turns.now m lock there in
      let all = ap length did.related.same.1 in
      let p = did.related.parts.each m pass (omega (arith, less, all)) at in
      subst (λ seen. HadBytes rack area x lock seen m) p.4.same.1 (saw m lock p.0 (ap (λ ls. slice_get ls m) (turns_new ∙ sym did.related.same.1) ∙ there) p.2)

  abbrev Later : State → Type 0
  Later y = KnowsLater rack area (owned_by new.metaslabs.passes.items) (lane_last new.metaslabs) (table_of new) new.own.seq new.own.floor y

  -- so it is told, by what follows from it
  pub mend_told : (S : List Hold → Type 0) → ((hs : List Hold) → Seen rack area x kind did.related.after (MendBut x kind limit result) hs → S hs)
      → ((y : State) → Knows rack area (owned_by old.metaslabs.passes.items) (lane_last old.metaslabs) (table_of old) old.own.seq old.own.floor y → Later y) → LaneTold rack area x (λ store holds left. S holds × (left ≡ store)) old new
  mend_told S how later y stands = lane_leads y stands S how (later y stands.knows)

-- ---- of each kind

module _ {R A G W : Type 0} (rack : racks.Ghosts R) (area : areas.Ghosts A) (x : State) (limit : Option ℕ) (old new : Lane R A G W) (result : Result Mended MendFault) (lane : IsLane rack old.metaslabs.turns.now old.metaslabs.passes.items)
    (turns : old.uber.now.first.turns.now ≡ old.metaslabs.turns.now) (first : IsUberOf rack area old.uber.now.first.turns.now old.uber.now.first.uber old.uber.now.first.groups)
    (lane_new : IsLane rack new.metaslabs.turns.now new.metaslabs.passes.items) (turns_new : new.metaslabs.turns.now ≡ old.metaslabs.turns.now) (uber_new : new.uber.now ≡ old.uber.now) (passes : owned_by old.metaslabs.passes.items passes_number ≡ true)
    (all : length old.metaslabs.turns.now ≡ x.geometry.props.metaslabs) (many : length x.metaslabs ≡ x.geometry.props.metaslabs) (geometry_is : IsGeometry x.geometry)
    (later : (y : State) → Knows rack area (owned_by old.metaslabs.passes.items) (lane_last old.metaslabs) (table_of old) old.own.seq old.own.floor y → KnowsLater rack area (owned_by new.metaslabs.passes.items) (lane_last new.metaslabs) (table_of new) new.own.seq new.own.floor y) where
  pub rebuild_told : MendedIn rack area x.geometry Rebuild limit old.uber.now old.metaslabs new.metaslabs result old.pass new.pass → (saw : Type 0) → LaneTold rack area x (MendLane x Rebuild saw limit result) old new
  rebuild_told did saw =
      mend_told rack area x Rebuild limit old new result lane turns first did lane_new turns_new uber_new passes all many geometry_is (λ heal. absurd (rebuild_heals heal)) (MendBut x Rebuild limit result) (λ hs said. said (λ heal. absurd (rebuild_heals heal))) later

  pub scrub_told : MendedIn rack area x.geometry Heal limit old.uber.now old.metaslabs new.metaslabs result old.pass new.pass → (result ≡ Err fault.Nothing → ⊥) × (result ≡ Err fault.Shelf → ⊥) → LaneTold rack area x (MendLane x Heal (SawBytes rack area x new) limit result) old new
  scrub_told did answers =
      mend_told rack area x Heal limit old new result lane turns first did lane_new turns_new uber_new passes all many geometry_is (λ heal. answers) (λ hs. SawBytes rack area x new → MendBut x Heal limit result hs)
      (λ hs said saw. said (λ heal. saw_after rack area x Heal limit old new result lane turns first did lane_new turns_new uber_new passes all many geometry_is (λ heal. answers) saw)) later
