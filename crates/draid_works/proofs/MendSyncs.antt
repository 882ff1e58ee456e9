-- A sync that waits names a later group, and leaves each metaslab its part and its pass.
use Rattle.std.proofs.Common.{◌≡◌, ◌<◌, ◌+◌, ◌∙◌, inl, inr, ℕ, zero, suc, Bool, true, Option, Some, None, Ok, Err, arith, sym, ap, subst}
use Rattle.std.specs.Prelude.{Result}
use Rattle.draid_rack.specs.declared.Rack as racks
use Rattle.draid_area.specs.declared.Area as areas
use Rattle.draid_shard.specs.declared.shard.Shard.{Shard}
use Rattle.draid_uber.specs.Slots.{group_of}
use Rattle.draid_uber.specs.Uber.{kept_of}
use Rattle.draid_uber.specs.declared.uber.Uber.{Uber}
use Rattle.draid_pool.specs.Drifts.{groups_number, passes_number}
use Rattle.draid_pool.specs.Grouping.{ClosesNext}
use Rattle.draid_pool.specs.Rounds.{EachIs, NoneBeyond}
use Rattle.draid_pool.specs.declared.fault.SyncFault.{SyncFault}
use Rattle.draid_pool.specs.declared.fault.Synced.{Synced}
use Rattle.draid_pool.specs.declared.fault.Syncing.{Syncing}
use Rattle.draid_pool.proofs.SyncWhole.{beyond_on}
use Rattle.draid_visits.specs.Readies.{KeepsPart, KeepsParts}
use Rattle.draid_visits.proofs.PassesStay.{parts_law}
use Rattle.draid_visits.proofs.SyncStays.{AllKept, all_on, all_same, begins_kept, goes_kept}
use Rattle.draid_lanes.specs.Waits.{BeginsThrough, BegunOn, SyncsThrough, WaitsOn}
use Rattle.draid_lanes.proofs.SyncThrough.{started_next}

module _ {R A S : Type 0} (rack : racks.Ghosts R) (area : areas.Ghosts A) (last : S → ℕ → Option (Shard R A)) (went : S → ℕ → Shard R A → Shard R A → S → Type 0) (shared : Bool) (owns : ℕ → Bool) (count : ℕ) where
  -- ---- the metaslabs

  module _ (own : owns passes_number ≡ true) where
    abbrev Kept : S → S → Type 0
    Kept a b = AllKept {R = R} {A = A} last KeepsPart a b

    kept_on : (a b c : S) → Kept a b → Kept b c → Kept a c
    kept_on a b c first second = all_on rack area last went shared owns KeepsPart (parts_law rack area last went shared owns own) a b c first second

    kept_same : (a b : S) → b ≡ a → Kept a b
    kept_same a b at = subst (Kept a) (sym at) (all_same rack area last went shared owns KeepsPart (parts_law rack area last went shared owns own) a)

    begun_parts : (n : ℕ) (a b : S) (u v : Uber A) → BegunOn rack area last went shared owns count n a u b v → Kept a b
    begun_parts zero a b u v (at, same) = kept_same a b at
    begun_parts (suc n) a b u v (mid, w, front, begins) = kept_on a mid b (begun_parts n a mid u w front) (begins_kept rack area last went shared owns KeepsPart (parts_law rack area last went shared owns own) count mid b w v None begins)

    started_parts : (a b : S) (u v : Uber A) (result : Result Syncing SyncFault) → BeginsThrough rack area last went shared owns count a u result b v → Kept a b
    started_parts a b u v result t = kept_on a t.mid b (begun_parts t.waits a t.mid u t.w t.front) (begins_kept rack area last went shared owns KeepsPart (parts_law rack area last went shared owns own) count t.mid b t.w v (Some result) t.begins)

    waits_parts : (n : ℕ) (a b : S) (old new : Syncing) (u v : Uber A) → WaitsOn rack area last went shared owns count n a old u b new v → Kept a b
    waits_parts zero a b old new u v (at, is, same) = kept_same a b at
    waits_parts (suc n) a b old new u v (mid, now, w, front, goes) = kept_on a mid b (waits_parts n a mid old now u w front) (goes_kept rack area last went shared owns KeepsPart (parts_law rack area last went shared owns own) count mid b now new w v None goes)

    pub synced_parts : (a b : S) (u v : Uber A) (result : Result Synced SyncFault) → SyncsThrough rack area last went shared owns count a u result b v → KeepsParts {R = R} {A = A} (last a) (last b)
    synced_parts a b u v result (inl (mid, begun, w, begins, t)) =
        kept_on a mid b (started_parts a mid u w (Ok begun) begins)
        (kept_on mid t.mid b (waits_parts t.waits mid t.mid begun t.now w t.w t.front) (goes_kept rack area last went shared owns KeepsPart (parts_law rack area last went shared owns own) count t.mid b t.now t.new t.w v (Some result) t.goes))
    synced_parts a b u v result (inr (why, is, begins)) = started_parts a b u v (Err why) begins

  -- ---- the group

  waits_group : (n : ℕ) (a b : S) (old new : Syncing) (u v : Uber A) → WaitsOn rack area last went shared owns count n a old u b new v → new.group ≡ old.group
  waits_group zero a b old new u v (at, is, same) = ap (λ (s : Syncing). s.group) is
  waits_group (suc n) a b old new u v (mid, now, w, front, goes) = goes.0.front.group ∙ waits_group n a mid old now u w front

  pub synced_rises : owns groups_number ≡ true → (a b : S) (u v : Uber A) → EachIs count (ClosesNext rack (group_of (kept_of u) + 1)) (last a) → NoneBeyond count (last a) → (it : Synced)
      → SyncsThrough rack area last went shared owns count a u (Ok it) b v → group_of (kept_of u) < group_of (kept_of v)
  synced_rises own a b u v ready beyond it (inl (mid, begun, w, begins, t)) =
      let first = (started_next rack area last went shared owns own count (λ s. NoneBeyond count (last s)) (beyond_on rack area last went shared owns count) a mid u w (Ok begun) begins (record { left = beyond; ready = ready })).1 in
      let next : begun.group ≡ group_of (kept_of w) + 1 = begins.begins.2.group_is in
      let group = waits_group t.waits mid t.mid begun t.now w t.w t.front in
      let named : group_of (kept_of v) ≡ t.now.group = ap group_of t.goes.4.0.kept in
      omega (arith, first, next, group, named)
  synced_rises own a b u v ready beyond it (inr (why, is, begins)) = absurd (cc)
