-- What a lane knows of its own objects it knows behind what it did in the uberblock's turn.
use Rattle.std.proofs.Common.{◌≡◌, ◌≤◌, ◌<◌, ◌∷◌, ◌∙◌, arith, ℕ, Bool, true, [], Option, Some, refl, sym, ap, subst, length}
use mathlib.Core.Logic.{dite}
use native.Mathlib.Decide.{ℕ_discrete}
use Rattle.std.specs.Prelude.{slice_get}
use Rattle.std.proofs.lemmas.Bool.{true≢false}
use Rattle.std.proofs.lemmas.Option.{slice_get_past}
use Rattle.draid_names.specs.declared.pointer.Pointer.{Pointer}
use Rattle.draid_rack.specs.declared.Rack as racks
use Rattle.draid_area.specs.declared.Area as areas
use Rattle.draid_session.specs.State.{State}
use Rattle.draid_shard.specs.declared.shard.Shard.{Shard}
use Rattle.draid_turn.specs.Calls.{Caller, Lock}
use Rattle.draid_turn.specs.declared.past.Past.{Past}
use Rattle.draid_uber.specs.declared.uber.Uber.{Uber}
use Rattle.draid_pool.specs.Drifts.{groups_number}
use Rattle.draid_pool.specs.Rounds.{NoneBeyond}
use Rattle.draid_pool.specs.Threads.{Knows}
use Rattle.draid_pool.proofs.Lists.{present}
use Rattle.draid_lanes.specs.Governing.{GovernedIn, IsMet, lane_last}
use Rattle.draid_lanes.specs.Locks.{Step, last_in, last_of, left_in, owned_by}
use Rattle.draid_lanes.specs.Ubers.{IsLane, IsUberOf, UberStep}
use Rattle.draid_lanes.specs.Waits.{LaneWent}
use Rattle.draid_lanes.specs.declared.locked.Locked.{Locked}
use Rattle.draid_lanes.specs.declared.uber.UberCell.{UberCell}
use Rattle.draid_lanes.proofs.Drifted.{steps_rest}
use Rattle.draid_lanes.proofs.SyncUnder.{met_is, stood_keeps}
use Rattle.draid_lanes.specs.Knowing.{KnowsLater}
use Rattle.draid_lanes.proofs.KnownOn.{knows_later}
use Rattle.draid_lanes.proofs.OwnGoes.{EachGoes, each_then, own_drifts}
use Rattle.draid_works.proofs.Switched.{last_parted}

module _ {R A G W : Type 0} (rack : racks.Ghosts R) (area : areas.Ghosts A) where
  -- a hold of a lane's comes to no earlier group
  pub lane_later : (a : Locked R A G W) (m : ℕ) (x y : Shard R A) (b : Locked R A G W) → LaneWent rack area a m x y b → x.committed ≤ y.committed
  lane_later a m x y b (same, w) =
      let s = steps_rest (Step rack area) w.lock.first w.log (w.left ∷ []) w.steps in
      let up = s.0.later in
      let from = ap (λ (z : Shard R A). z.committed) w.found in
      let to = ap (λ (z : Shard R A). z.committed) w.left_is in
      omega (arith, up, from, to)

  -- a lane has a metaslab for each lock, and no more
  lane_all : (lane : Locked R A G W) → IsLane rack lane.turns.now lane.passes.items → (m : ℕ) → m < length lane.turns.now → (shard : Shard R A) × (lane_last lane m ≡ Some shard)
  lane_all lane is m less =
      let lock = present lane.turns.now m less in
      let pass = present lane.passes.items m (let many = is.fits.many in omega (arith, less, many)) in
      (left_in lock.0 pass.0.seen, (λ i. last_of (lock.1 i) (pass.1 i)))

  lane_beyond : (lane : Locked R A G W) (count : ℕ) → count ≡ length lane.turns.now → NoneBeyond count (lane_last lane)
  lane_beyond lane count all m from = ap (λ o. last_of o (slice_get lane.passes.items m)) (slice_get_past lane.turns.now m (omega (arith, from, all)))

  module _ {O : Type 0} (relates : O → Locked R A G W → Uber A → O → Locked R A G W → Uber A → Type 0) (lock : Lock (UberCell R A)) (old new : Locked R A G W) (before after : O) (pass next : Caller (Past (UberCell R A))) (lane : IsLane rack old.turns.now old.passes.items)
      (turns : lock.first.turns.now ≡ old.turns.now) (first : IsUberOf rack area lock.first.turns.now lock.first.uber lock.first.groups) (did : GovernedIn rack area relates lock old before new after pass next) where
    owns : ℕ → Bool
    owns = owned_by old.passes.items

    stood : (did.value.turns.now ≡ old.turns.now) × IsUberOf rack area did.value.turns.now did.value.uber did.value.groups
    stood = stood_keeps (λ a past. UberStep rack area a.turns.now past.left.turns.now a.uber past.left.uber past.left.groups) (λ v. (v.turns.now ≡ old.turns.now) × IsUberOf rack area v.turns.now v.uber v.groups) lock.first did.log did.value
        (λ a past was step. (step.same ∙ was.0, step.is)) (turns, first) did.stood

    met : IsMet rack area old.turns.now old.passes.items did.related.met.passes.items
    met = met_is rack area old.turns.now old.passes.items did.related.met.passes.items did.value.uber did.value.groups lane (subst (λ ls. IsUberOf rack area ls did.value.uber did.value.groups) stood.0 stood.1) did.related.meets

    -- what the lane holds it holds with the groups too
    pub inside : (n : ℕ) → owned_by old.passes.items n ≡ true → owned_by did.related.met.passes.items n ≡ true
    inside n mine = dite (ℕ_discrete n groups_number)
        (λ is. absurd (true≢false (sym mine ∙ (ap (owned_by old.passes.items) is ∙ lane.no_groups))))
        (λ other. met.others n other ∙ mine)

    front : EachGoes rack area (owned_by old.passes.items) (lane_last old) (lane_last did.related.met)
    front m x at =
        let z = met.drifts.each m x at in
        (z.0, ap (λ ls. last_in ls did.related.met.passes.items m) did.related.same.0 ∙ z.1, own_drifts rack area (owned_by old.passes.items) true (owned_by old.passes.items) (λ n mine. mine) x z.0 z.2)

    back : (m : ℕ) (shard : Shard R A) → new.turns.now ≡ old.turns.now → lane_last did.related.after m ≡ Some shard → lane_last new m ≡ Some shard
    back m shard same at =
        ap (λ ls. last_in ls new.passes.items m) same
        ∙ last_parted old.turns.now did.related.after.passes.items new.passes.items did.left.groups.items did.related.parts m shard (ap (λ ls. last_in ls did.related.after.passes.items m) (sym did.related.same.1) ∙ at)

    pub governed_knows : EachGoes rack area (owned_by old.passes.items) (lane_last did.related.met) (lane_last did.related.after) → new.turns.now ≡ old.turns.now → (table : ℕ → Option Pointer) (seq floor : ℕ) (x : State)
        → Knows rack area (owned_by old.passes.items) (lane_last old) table seq floor x → KnowsLater rack area (owned_by old.passes.items) (lane_last new) table seq floor x
    governed_knows goes same table seq floor x knows =
        knows_later rack area (owned_by old.passes.items) lane.no_groups table seq floor (lane_last old) (lane_last new) (length old.turns.now) (lane_all old lane) (lane_beyond old (length old.turns.now) refl) (lane_beyond new (length old.turns.now) (sym (ap length same))) each x knows
      where
        each : EachGoes rack area (owned_by old.passes.items) (lane_last old) (lane_last new)
        each m x at =
            let z = each_then rack area (owned_by old.passes.items) (lane_last old) (lane_last did.related.met) (lane_last did.related.after) front goes m x at in
            (z.0, back m z.0 same z.1, z.2)
