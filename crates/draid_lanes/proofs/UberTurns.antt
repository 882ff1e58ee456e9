-- One turn of the uberblock, whatever state of the whole pool stood at its place.
use Rattle.std.proofs.Common.{◌≡◌, ◌<◌, ◌++◌, ◌∷◌, ◌∙◌, [], ℕ, Bool, true, false, List, Some, None, All, arith, refl, sym, ap, subst, length}
use Rattle.std.specs.Prelude.{cond, filter, slice_get}
use Rattle.std.proofs.lemmas.List.Elements.{All-cons, All-nil}
use Rattle.std.proofs.lemmas.Option.{slice_get_within}
use Rattle.draid_rack.specs.declared.Rack as racks
use Rattle.draid_area.specs.declared.Area as areas
use Rattle.draid_session.specs.Holds.{Hold}
use Rattle.draid_session.specs.Lanes.{SwitchesAgree, is_of}
use Rattle.draid_session.specs.State.{Metaslab, State}
use Rattle.draid_turn.specs.Calls.{Caller, Lock}
use Rattle.draid_turn.specs.Lists.{StartsWith}
use Rattle.draid_turn.specs.Numbers.{holds}
use Rattle.draid_turn.specs.declared.past.Past.{Past}
use Rattle.draid_uber.specs.declared.uber.Uber.{Uber}
use Rattle.draid_pool.specs.Drifts.{groups_number}
use Rattle.draid_pool.specs.Pools.{part_in}
use Rattle.draid_pool.specs.declared.cell.Cell.{Cell}
use Rattle.draid_pool.proofs.Lists.{present, some_of}
use Rattle.draid_lanes.specs.Governing.{GovernedIn, lane_last}
use Rattle.draid_lanes.specs.Locks.{last_of, left_in}
use Rattle.draid_lanes.specs.Traces.{CameAt, IsGoverned, IsUberTurn}
use Rattle.draid_lanes.specs.Ubers.{IsLane, IsUberOf, UberStep}
use Rattle.draid_lanes.specs.declared.locked.Locked.{Locked}
use Rattle.draid_lanes.specs.declared.uber.UberCell.{UberCell}
use Rattle.draid_lanes.proofs.DriftGoverned.{drift_governed}
use Rattle.draid_lanes.proofs.GovernedGroup.{Governs, GovernsFrom, LeadsBase, same_self}
use Rattle.draid_lanes.proofs.GovernedHolds.{IsGood, good_governed}
use Rattle.draid_lanes.proofs.Held.{has_place}
use Rattle.draid_lanes.proofs.MeetWords.{Listed, list_of}
use Rattle.draid_lanes.proofs.OneTurn.{CameTo, came_at, came_is, came_on, came_to}
use Rattle.draid_lanes.proofs.SyncUnder.{groups_in, stood_keeps}
use Rattle.draid_lanes.proofs.Switches.{switches_self}
use Rattle.draid_lanes.proofs.Tracing.{starts_self}

-- what a test leaves passes it
filter_all : (p : Hold → Bool) (hs : List Hold) → All (λ h. p h ≡ true) (filter p hs)
filter_all p [] = All-nil (λ h. p h ≡ true)
filter_all p (h ∷ hs) = filter_more p h hs (p h) refl (filter_all p hs)
  where
    filter_more : (p : Hold → Bool) (h : Hold) (hs : List Hold) (b : Bool) → p h ≡ b → All (λ k. p k ≡ true) (filter p hs) → All (λ k. p k ≡ true) (cond (p h) (h ∷ filter p hs) (filter p hs))
    filter_more p h hs true is all = subst (λ b. All (λ k. p k ≡ true) (cond b (h ∷ filter p hs) (filter p hs))) (sym is) (All-cons (λ k. p k ≡ true) h (filter p hs) is all)
    filter_more p h hs false is all = subst (λ b. All (λ k. p k ≡ true) (cond b (h ∷ filter p hs) (filter p hs))) (sym is) all

pub ubers_all : (hs us : List Hold) → filter (is_of None) hs ≡ us → All (λ h. is_of None h ≡ true) us
ubers_all hs us is = subst (All (λ h. is_of None h ≡ true)) is (filter_all (is_of None) hs)

module _ {R A G W O : Type 0} (rack : racks.Ghosts R) (area : areas.Ghosts A) (x : State) (relates : O → Locked R A G W → Uber A → O → Locked R A G W → Uber A → Type 0) (lock : Lock (UberCell R A)) (old new : Locked R A G W) (before after : O) (pass next : Caller (Past (UberCell R A)))
    (lane : IsLane rack old.turns.now old.passes.items) (turns : lock.first.turns.now ≡ old.turns.now) (first : IsUberOf rack area lock.first.turns.now lock.first.uber lock.first.groups) (did : GovernedIn rack area relates lock old before new after pass next)
    (lane_new : IsLane rack new.turns.now new.passes.items) (turns_new : new.turns.now ≡ old.turns.now) where
  -- how the uberblock was found
  pub stood : (did.value.turns.now ≡ old.turns.now) × IsUberOf rack area old.turns.now did.value.uber did.value.groups
  stood =
      let z = stood_keeps (λ a past. UberStep rack area a.turns.now past.left.turns.now a.uber past.left.uber past.left.groups) (λ v. (v.turns.now ≡ old.turns.now) × IsUberOf rack area v.turns.now v.uber v.groups) lock.first did.log did.value
      (λ a past was step. (step.same ∙ was.0, step.is)) (turns, first) did.stood in
      (z.0, subst (λ ls. IsUberOf rack area ls did.value.uber did.value.groups) z.0 z.1)

  module _ (z : State) (gov : IsGoverned rack area x did.value z) where
    -- as the metaslabs are met
    met_governs : Governs rack area x z did.related.met did.value.uber z
    met_governs = record {
      rest = same_self z;
      shared = gov.shared;
      knows = λ m shard at.
          (let place = has_place did.related.met.turns.now did.related.met.passes.items m shard at in
          let there = sym (ap (λ ls. slice_get ls m) did.related.same.0) ∙ place.lock_is in
          let within = slice_get_within old.turns.now m place.lock there in
          let many_lane = lane.fits.many in
          let many_groups = stood.1.fits.many in
          let own = present old.passes.items m (omega (arith, within, many_lane)) in
          let other = present did.value.groups.items m (omega (arith, within, many_groups)) in
          let took = did.related.meets.each m place.lock own.0 other.0 there own.1 other.1 in
          let y = gov.each m place.lock other.0 (ap (λ ls. slice_get ls m) stood.0 ∙ there) other.1 in
          let d = took.2.drifts_other in
          let holds_it : holds groups_number other.0.numbers ≡ true = ap (holds groups_number) (stood.1.alone m other.0 other.1).0 ∙ groups_in in
          let was = left_in place.lock other.0.seen in
          let now = left_in place.lock took.0.seen in
          let c = came_to rack area x place.lock other.0.seen m y.0 y.2 in
          let is = came_is rack area x m was y.0 c in
          let g = d.state (part_in x m) c.came.pieces y.0 is in
          let keeps = drift_governed rack area true (λ n. holds n other.0.numbers) holds_it was now d (part_in x m) c.came.pieces y.0 is in
          let here : now ≡ shard = some_of (lane_last did.related.met m) now shard (λ i. last_of (place.lock_is i) (took.1 i)) at in (
            g.reached,
            subst (λ s. CameTo rack area x m s g.reached) here (came_on rack area x m was now y.0 g.reached g.now c g.is g.since),
            good_governed z z gov.shared m y.0 g.reached keeps (record {
              committed = gov.committed m y.0 y.1;
              alike = gov.alike m y.0 y.1;
              images = λ group may some. gov.images group m y.0 may some y.1;
              leaves = gov.leaves.each m y.0 y.1;
              first = y.0;
              first_is = y.1;
              switches = switches_self y.0.world;
            }),
          ));
      uber = gov.uber;
      versions = gov.versions;
      order = gov.leaves.order;
    }

    -- as they were parted from
    module _ (us : List Hold) (many : length z.metaslabs ≡ length old.turns.now) (l : LeadsBase rack area x z us did.related.after did.left.uber) where
      abbrev w : State
      w = record l.reached { metaslabs = l.base.metaslabs }

      abbrev g : GovernsFrom rack area x l.base did.related.after did.left.uber w
      g = l.governs

      -- what one is then
      pub record IsThen (m : ℕ) (v : Metaslab) : Type 0 where
        pub came : (k : Lock (Cell R A)) (group : Caller (Past (Cell R A))) → slice_get did.left.turns.now m ≡ Some k → slice_get did.left.groups.items m ≡ Some group → CameAt rack area x k group.seen m v
        pub good : IsGood l.base w g.shared m v

      then_at : (m : ℕ) → m < length old.turns.now → (v : Metaslab) × IsThen m v
      then_at m less =
          let k0 = present old.turns.now m less in
          let many_new = lane_new.fits.many in
          let same = ap length turns_new in
          let parted = did.related.parts.many in
          let p = present did.related.after.passes.items m (omega (arith, less, many_new, same, parted)) in
          let shard = left_in k0.0 p.0.seen in
          let at : lane_last did.related.after m ≡ Some shard = (λ i. last_of ((ap (λ ls. slice_get ls m) did.related.same.1 ∙ k0.1) i) (p.1 i)) in
          let k = g.knows m shard at in
          let parts = did.related.parts.each m p.0 less p.1 in (
            k.0,
            record {
              came = λ l2 group there here.
                  (let lock_is : k0.0 ≡ l2 = some_of (slice_get old.turns.now m) k0.0 l2 k0.1 (sym (ap (λ ls. slice_get ls m) (did.related.turns ∙ stood.0)) ∙ there) in
                  let group_is : parts.1 ≡ group = some_of (slice_get did.left.groups.items m) parts.1 group parts.3 here in
                  let seen : group.seen ≡ p.0.seen = ap (λ (q : Caller (Past (Cell R A))). q.seen) (sym group_is) ∙ ap (λ (q : Caller (Past (Cell R A))). q.seen) parts.4.new in
                  came_at rack area x l2 group.seen m shard k.0 ((λ i. left_in (sym lock_is i) (seen i))) k.1);
              good = k.2;
            },
          )

      listed : Listed (length old.turns.now) IsThen
      listed = list_of (length old.turns.now) IsThen then_at

      -- the state behind the turn
      abbrev ended : State
      ended = record l.reached { metaslabs = listed.list }

      agrees : SwitchesAgree l.base → SwitchesAgree ended
      agrees was leaf m n y v a b at there arm other =
          let p = (listed.each m y at).good in
          let q = (listed.each n v there).good in
          let one = p.switches leaf a arm in
          let two = q.switches leaf b other in
          sym one.2 ∙ (was leaf m n p.first q.first one.0 two.0 p.first_is q.first_is one.1 two.1 ∙ two.2)

      ended_governed : IsGoverned rack area x did.left ended
      ended_governed = record {
        pool = record {
          geometry = gov.pool.geometry ∙ sym l.rest.geometry;
          perms = gov.pool.perms ∙ sym l.rest.perms;
          told = gov.pool.told ∙ sym l.rest.told;
          many = gov.pool.many ∙ (many ∙ sym listed.many);
        };
        store = l.rest.store ∙ gov.store;
        each = λ m k group there at.
            (let less = slice_get_within did.left.turns.now m k there in
            let same = ap length (did.related.turns ∙ stood.0) in
            let long = listed.many in
            let v = present listed.list m (omega (arith, less, same, long)) in
            (v.0, v.1, (listed.each m v.0 v.1).came k group there at));
        committed = λ m v at. (listed.each m v at).good.committed;
        uber = record {
          valid = g.uber.valid;
          layout = g.uber.layout;
          version = g.uber.version;
          kept = g.uber.kept;
          next_leaf = g.uber.next_leaf;
          point = g.uber.point;
          late = g.uber.late;
          count = g.uber.count;
          stands = record { pending = g.uber.stands.pending; are = g.uber.stands.are; stands = g.uber.stands.stands };
        };
        images = λ group m v may some at. (listed.each m v at).good.images group may some;
        leaves = record { order = g.order; each = λ m v at. (listed.each m v at).good.leaves };
        shared = g.shared;
        versions = record { kept = g.versions.kept; now = g.versions.now };
        alike = λ m v at. (listed.each m v at).good.alike;
        switches = λ was. agrees (l.agrees (gov.switches was));
      }

  -- where whatever it does to a whole pool is told, the turn is told
  pub uber_turn : (us : List Hold) → All (λ h. is_of None h ≡ true) us → length x.metaslabs ≡ length old.turns.now
      → ((z : State) → length z.metaslabs ≡ length old.turns.now → Governs rack area x z did.related.met did.value.uber z → LeadsBase rack area x z us did.related.after did.left.uber) → IsUberTurn rack area x lock next.seen (length did.log) us
  uber_turn us all many leads = record {
    log = did.log;
    left = record { left = did.left; concerned = None };
    place_is = refl;
    begins = subst (λ seen. StartsWith seen (did.log ++ record { left = did.left; concerned = None } ∷ [])) (sym did.seen) (starts_self (did.log ++ record { left = did.left; concerned = None } ∷ []));
    of_uber = all;
    goes = λ z was.
        (let gov = subst (λ c. IsGoverned rack area x c z) (sym did.stood.is) was in
        let long = sym gov.pool.many ∙ many in
        let l = leads z long (met_governs z gov) in
        (l.reached, ended z gov us long l, l.follows, (refl, refl, refl, refl, refl, refl, refl), ended_governed z gov us long l));
  }
