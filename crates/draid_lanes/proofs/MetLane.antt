-- A lane that holds the uberblock: what it saw of its metaslabs as it met them.
use Rattle.std.proofs.Common.{◌≡◌, ◌+◌, ◌∙◌, [], ℕ, List, Option, Some, None, arith, sym, ap, subst, length}
use Rattle.std.specs.Prelude.{slice_get}
use Rattle.std.proofs.lemmas.Option.{slice_get_within}
use Rattle.draid_rack.specs.declared.Rack as racks
use Rattle.draid_area.specs.declared.Area as areas
use Rattle.draid_session.specs.State.{Metaslab, State}
use Rattle.draid_shard.specs.declared.shard.Shard.{Shard}
use Rattle.draid_turn.specs.Calls.{Caller}
use Rattle.draid_turn.specs.declared.past.Past.{Past}
use Rattle.draid_uber.specs.Slots.{group_of}
use Rattle.draid_uber.specs.Uber as ubers
use Rattle.draid_uber.specs.declared.uber.Uber.{Uber}
use Rattle.draid_pool.specs.Grouping.{ClosesNext}
use Rattle.draid_pool.specs.Rounds.{EachIs, NoneBeyond}
use Rattle.draid_pool.specs.declared.cell.Cell.{Cell}
use Rattle.draid_pool.proofs.Looking.{looks_at}
use Rattle.draid_pool.proofs.Lists.{present, some_of}
use Rattle.draid_lanes.specs.Governing.{GovernedIn, IsGovernor, lane_last}
use Rattle.draid_lanes.specs.Locks.{last_in, last_of, left_in, owned_by}
use Rattle.draid_lanes.specs.Traces.{LaneTurn, StandsAt}
use Rattle.draid_lanes.specs.Ubers.{IsLane, IsUberOf}
use Rattle.draid_lanes.specs.declared.lane.Lane.{Lane}
use Rattle.draid_lanes.specs.declared.locked.Locked.{Locked}
use Rattle.draid_lanes.proofs.FinishWords.{FoundAt}
use Rattle.draid_lanes.proofs.Held.{has_place}
use Rattle.draid_lanes.proofs.MeetWords.{glance_of, glances, met_came, met_traced, seen_all, ys}
use Rattle.draid_lanes.proofs.OneTurn.{CameTo, HasCame, came_is, came_to}
use Rattle.draid_lanes.proofs.SyncUnder.{met_governor}
use Rattle.draid_lanes.proofs.Tracing.{Traced}
use Rattle.draid_lanes.proofs.UberTurns.{stood}

-- a glance is a turn
one_glance : {R A : Type 0} (m : ℕ) (o : Option Metaslab) (p : Option (Caller (Past (Cell R A)))) (y : Metaslab) (pass : Caller (Past (Cell R A))) → o ≡ Some y → p ≡ Some pass → glance_of m o p ≡ [] → ⊥
one_glance m (Some z) (Some next) y pass a b none = (let bad : glance_of m (Some z) (Some next) ≡ [] = none in absurd (cc))
one_glance m (Some z) None y pass a b none = absurd (cc)
one_glance m None p y pass a b none = absurd (cc)

module _ {R A G W O : Type 0} (rack : racks.Ghosts R) (area : areas.Ghosts A) (x : State) (relates : O → Locked R A G W → Uber A → O → Locked R A G W → Uber A → Type 0) (old new : Lane R A G W) (before after : O)
    (lane : IsLane rack old.metaslabs.turns.now old.metaslabs.passes.items) (turns : old.uber.now.first.turns.now ≡ old.metaslabs.turns.now) (first : IsUberOf rack area old.uber.now.first.turns.now old.uber.now.first.uber old.uber.now.first.groups)
    (did : GovernedIn rack area relates old.uber.now old.metaslabs before new.metaslabs after old.pass new.pass) (lane_new : IsLane rack new.metaslabs.turns.now new.metaslabs.passes.items) (turns_new : new.metaslabs.turns.now ≡ old.metaslabs.turns.now) where
  abbrev met : Locked R A G W
  met = did.related.met

  abbrev count : ℕ
  count = length did.related.met.turns.now

  found : (did.value.turns.now ≡ old.metaslabs.turns.now) × IsUberOf rack area old.metaslabs.turns.now did.value.uber did.value.groups
  found = stood rack area x relates old.uber.now old.metaslabs new.metaslabs before after old.pass new.pass lane turns first did lane_new turns_new

  pub count_is : count ≡ length old.metaslabs.turns.now
  count_is = ap length did.related.same.0

  pub governor : IsGovernor rack area count old.metaslabs.turns.now met.passes.items did.value.uber
  governor = met_governor rack area old.metaslabs.turns.now old.metaslabs.passes.items met.passes.items did.value.uber did.value.groups lane found.1 did.related.meets count count_is

  pub ready : EachIs count (ClosesNext rack (group_of (ubers.kept_of did.value.uber) + 1)) (lane_last met)
  ready = subst (λ ls. EachIs count (ClosesNext rack (group_of (ubers.kept_of did.value.uber) + 1)) (last_in ls met.passes.items)) (sym did.related.same.0) governor.ready

  pub beyond : NoneBeyond count (lane_last met)
  beyond = subst (λ ls. NoneBeyond count (last_in ls met.passes.items)) (sym did.related.same.0) governor.beyond

  -- what it saw
  pub record Met : Type 0 where
    pub came : HasCame rack area x met
    pub seen : List Metaslab
    pub ts : ℕ → List LaneTurn
    pub traced : Traced rack area x old.metaslabs met ts (looks_at 0 seen) []
    pub long : length seen ≡ count
    pub closed : (which : Option ℕ) (m : ℕ) (v : Metaslab) → FoundAt rack area x (owned_by met.passes.items) governor.own count met which m → slice_get seen m ≡ Some v → v.world.closing ≡ which
    pub some : (m : ℕ) (pass : Caller (Past (Cell R A))) → slice_get old.metaslabs.passes.items m ≡ Some pass → ts m ≡ [] → ⊥

  module _ (y : State) (stands : StandsAt rack area x old y) where
    came_old : HasCame rack area x old.metaslabs
    came_old m shard at =
        let place = has_place old.metaslabs.turns.now old.metaslabs.passes.items m shard at in
        let z = stands.each m place.lock place.pass place.lock_is place.pass_is in
        (z.0, subst (λ s. CameTo rack area x m s z.0) (some_of (lane_last old.metaslabs m) (left_in place.lock place.pass.seen) shard (λ i. last_of (place.lock_is i) (place.pass_is i)) at) (came_to rack area x place.lock place.pass.seen m z.0 z.2))

    abbrev seen_of : List Metaslab
    seen_of = ys rack area x old.metaslabs met did.value.groups.items did.related.same.0 did.related.meets lane.fits.many found.1.fits.many (λ m pass at. (stands.ordered m pass at).0) (λ m pass at. (found.1.alone m pass at).1) came_old

    abbrev turns_of : ℕ → List LaneTurn
    turns_of = glances rack area x old.metaslabs met did.value.groups.items did.related.same.0 did.related.meets lane.fits.many found.1.fits.many (λ m pass at. (stands.ordered m pass at).0) (λ m pass at. (found.1.alone m pass at).1) came_old

    closed_of : (which : Option ℕ) (m : ℕ) (v : Metaslab) → FoundAt rack area x (owned_by met.passes.items) governor.own count met which m → slice_get seen_of m ≡ Some v → v.world.closing ≡ which
    closed_of which m v f at =
        let place = has_place met.turns.now met.passes.items m f.shard f.there in
        let all = seen_all rack area x old.metaslabs met did.value.groups.items did.related.same.0 did.related.meets lane.fits.many found.1.fits.many (λ m pass at. (stands.ordered m pass at).0) (λ m pass at. (found.1.alone m pass at).1) came_old in
        let c = all.each m v at place.lock place.pass (sym (ap (λ ls. slice_get ls m) did.related.same.0) ∙ place.lock_is) place.pass_is in
        let is = came_is rack area x m (left_in place.lock place.pass.seen) v c in
        let here : left_in place.lock place.pass.seen ≡ f.shard = some_of (lane_last met m) (left_in place.lock place.pass.seen) f.shard (λ i. last_of (place.lock_is i) (place.pass_is i)) f.there in
        is.stands.is_in.closing ∙ (ap (λ (s : Shard R A). s.closing) here ∙ f.closing)

    long_old : length seen_of ≡ length old.metaslabs.turns.now
    long_old = (seen_all rack area x old.metaslabs met did.value.groups.items did.related.same.0 did.related.meets lane.fits.many found.1.fits.many (λ m pass at. (stands.ordered m pass at).0) (λ m pass at. (found.1.alone m pass at).1) came_old).many

    some_of_each : (m : ℕ) (pass : Caller (Past (Cell R A))) → slice_get old.metaslabs.passes.items m ≡ Some pass → turns_of m ≡ [] → ⊥
    some_of_each m pass at none =
        let within = slice_get_within old.metaslabs.passes.items m pass at in
        let many = lane.fits.many in
        let long = long_old in
        let more = did.related.meets.many in
        let y = present seen_of m (omega (arith, within, many, long)) in
        let next = present met.passes.items m (omega (arith, within, more)) in
        one_glance m (slice_get seen_of m) (slice_get met.passes.items m) y.0 next.0 y.1 next.1 none

    pub met_lane : Met
    met_lane = record {
      came = met_came rack area x old.metaslabs met did.value.groups.items did.related.same.0 did.related.meets lane.fits.many found.1.fits.many (λ m pass at. (stands.ordered m pass at).0) (λ m pass at. (found.1.alone m pass at).1) came_old;
      seen = seen_of;
      ts = turns_of;
      traced = met_traced rack area x old.metaslabs met did.value.groups.items did.related.same.0 did.related.meets lane.fits.many found.1.fits.many (λ m pass at. (stands.ordered m pass at).0) (λ m pass at. (found.1.alone m pass at).1) came_old;
      long = long_old ∙ sym count_is;
      closed = closed_of;
      some = some_of_each;
    }
