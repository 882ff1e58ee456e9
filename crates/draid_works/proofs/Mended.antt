-- A rebuild or a scrub in the uberblock's turn, by its answer.
use Rattle.std.proofs.Common.{◌≡◌, ◌∙◌, arith, ℕ, Option, Some, None, refl, sym, ap, subst, length}
use Rattle.std.specs.Prelude.{IfOk, IsSome, Result}
use Rattle.draid_rack.specs.declared.Rack as racks
use Rattle.draid_area.specs.declared.Area as areas
use Rattle.draid_session.specs.Replies.{IsWithin}
use Rattle.draid_spec.specs.declared.layout.Geometry.{Geometry}
use Rattle.draid_turn.specs.Calls.{Caller, Lock}
use Rattle.draid_turn.specs.declared.past.Past.{Past}
use Rattle.draid_uber.specs.declared.uber.Uber.{Uber}
use Rattle.draid_pool.specs.Drifts.{groups_number, passes_number}
use Rattle.draid_visits.specs.declared.rebuilding.MendFault.{MendFault}
use Rattle.draid_visits.specs.declared.rebuilding.Mended.{Mended}
use Rattle.draid_lanes.specs.Governing.{GovernedIn, IsGovernor, IsMet, lane_last}
use Rattle.draid_lanes.specs.Locks.{last_in, owned_by}
use Rattle.draid_lanes.specs.declared.locked.Locked.{Locked}
use Rattle.draid_lanes.specs.declared.uber.UberCell.{UberCell}
use Rattle.draid_lanes.proofs.Kept.{layout_drifts}
use Rattle.draid_works.specs.Mended.{MayMend, MayMendLane, MendedIn, MendsLane}
use Rattle.draid_works.specs.declared.mending.MendWork.{MendWork}

-- ---- as the metaslabs are met

passes_other : passes_number ≡ groups_number → ⊥
passes_other is = absurd (omega (arith, is))

module _ {R A G W : Type 0} (rack : racks.Ghosts R) (area : areas.Ghosts A) (geometry : Geometry) where
  -- a lane that may mend may do so with the groups that it met
  pub met_mend : (lane met : Locked R A G W) → met.turns.now ≡ lane.turns.now → IsMet rack area lane.turns.now lane.passes.items met.passes.items → MayMendLane geometry lane → MayMendLane geometry met
  met_mend lane met same is may = record {
    geometry_is = may.geometry_is;
    passes = is.others passes_number passes_other ∙ may.passes;
    many = ap length same ∙ may.many;
    layout = λ m shard at. layout_drifts rack area (owned_by lane.passes.items) (lane_last lane) (last_in lane.turns.now met.passes.items) is.drifts geometry may.layout m shard (sym (ap (λ ls. last_in ls met.passes.items m) same) ∙ at);
  }

  -- and so who holds the uberblock has what a rebuild or a scrub needs
  pub governs_all : (count : ℕ) (lane : Locked R A G W) (u : Uber A) → MayMendLane geometry lane → IsGovernor rack area count lane.turns.now lane.passes.items u → IsGovernor rack area geometry.props.metaslabs lane.turns.now lane.passes.items u
  governs_all count lane u may is = subst (λ n. IsGovernor rack area n lane.turns.now lane.passes.items u) (is.all ∙ may.many) is

  pub governor_mends : (lane : Locked R A G W) (u : Uber A) → MayMendLane geometry lane → IsGovernor rack area geometry.props.metaslabs lane.turns.now lane.passes.items u → MayMend rack area geometry (lane_last lane) u
  governor_mends lane u may is = record { geometry_is = may.geometry_is; valid = is.valid; ready = is.ready; beyond = is.beyond; layout = may.layout }

-- ---- by the answer

module _ {R A G W : Type 0} (rack : racks.Ghosts R) (area : areas.Ghosts A) where
  abbrev Made : MendWork → Locked R A G W → Uber A → MendWork → Locked R A G W → Uber A → Type 0
  Made before a u after b v = MendsLane rack area before.geometry before.kind before.limit a u after.out b v

  module _ (lock : Lock (UberCell R A)) (old new : Locked R A G W) (before after : MendWork) (pass next : Caller (Past (UberCell R A))) (did : GovernedIn rack area Made lock old before new after pass next) where
    pub has_answer : IsSome after.out
    has_answer = by after.out did.related.related
      where
        by : (o : Option (Result Mended MendFault)) → MendsLane rack area before.geometry before.kind before.limit did.related.met did.value.uber o did.related.after did.left.uber → IsSome o
        by None made = absurd made
        by (Some result) made = refl

    module _ (result : Result Mended MendFault) (is : after.out ≡ Some result) where
      made : MendsLane rack area before.geometry before.kind before.limit did.related.met did.value.uber (Some result) did.related.after did.left.uber
      made = subst (λ o. MendsLane rack area before.geometry before.kind before.limit did.related.met did.value.uber o did.related.after did.left.uber) is did.related.related

      pub mended_within : IfOk result (λ it. IsWithin before.limit it.units it.paused)
      mended_within = made.1

      pub mended_in : MendedIn rack area before.geometry before.kind before.limit lock old new result pass next
      mended_in =
          let r = did.related in
          record {
            log = did.log;
            value = did.value;
            left = did.left;
            stood = did.stood;
            follows = did.follows;
            related = record { met = r.met; after = r.after; same = r.same; meets = r.meets; related = made; parts = r.parts; turns = r.turns };
            number = did.number;
            seen = did.seen;
            own = did.own;
            numbers = did.numbers;
            table = did.table;
          }
