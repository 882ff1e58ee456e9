-- Where the switching of a leaf in a lane says that an area failed, one did in its turn of the uberblock.
use Rattle.std.proofs.Common.{◌≡◌, ◌≤◌, inl, inr, ℕ, zero, suc, Bool, true, Option, Some, None, Err, arith, subst}
use Rattle.std.specs.Prelude.{Result}
use Rattle.draid_rack.specs.declared.Rack as racks
use Rattle.draid_area.specs.declared.Area as areas
use Rattle.draid_entries.specs.declared.history.ReserveFault.{ReserveFault}
use Rattle.draid_entries.specs.declared.history.ReserveFault.TheVariants as reserve
use Rattle.draid_shard.specs.declared.shard.Shard.{Shard}
use Rattle.draid_turn.specs.Calls.{Caller, Lock}
use Rattle.draid_turn.specs.declared.past.Past.{Past}
use Rattle.draid_uber.specs.declared.uber.Uber.{Uber}
use Rattle.draid_pool.specs.Grouping.{FinishesIn}
use Rattle.draid_pool.specs.declared.fault.SyncFault.{SyncFault}
use Rattle.draid_pool.specs.declared.fault.SyncFault.TheVariants as sync
use Rattle.draid_changes.specs.Answers.{IsFor}
use Rattle.draid_changes.specs.Switching.{IsShortOf, SwitchesAll, SwitchesIn}
use Rattle.draid_changes.specs.declared.fault.ArmFault.{ArmFault}
use Rattle.draid_changes.specs.declared.fault.ArmFault.TheVariants as fault
use Rattle.draid_lanes.specs.Governing.{lane_last}
use Rattle.draid_lanes.specs.Locks.{owned_by}
use Rattle.draid_lanes.specs.Waits.{LaneWent}
use Rattle.draid_lanes.specs.declared.locked.Locked.{Locked}
use Rattle.draid_lanes.specs.declared.uber.UberCell.{UberCell}
use Rattle.draid_lanes.specs.Failing.{AreaFailedIn, AreaFails}
use Rattle.draid_works.specs.Switched.{SwitchedIn, SwitchesThrough, TriedOn}
use Rattle.draid_lanes.proofs.UberLater.{finish_later, own_count, still_later}
use Rattle.draid_works.proofs.LaneStays.{lane_later}
use Rattle.draid_works.proofs.SyncFails.{Reach, fails_behind, fails_in, finish_fails, finish_reach, reach_then}

module _ {R A S : Type 0} (rack : racks.Ghosts R) (area : areas.Ghosts A) (last : S → ℕ → Option (Shard R A)) (went : S → ℕ → Shard R A → Shard R A → S → Type 0) (shared : Bool) (mine : ℕ → Bool)
    (later : (a : S) (m : ℕ) (x y : Shard R A) (b : S) → went a m x y b → x.committed ≤ y.committed) (count leaf : ℕ) (offline : Bool) where
  -- it was tried so often
  tried_to : (n : ℕ) (a b : S) (u v : Uber A) → TriedOn rack area last went shared mine count leaf offline n a u b v → Reach rack area last went shared mine later a b × (own_count area u ≤ own_count area v)
  tried_to zero a b u v (at, same) = ((0, at), still_later area u v same)
  tried_to (suc n) a b u v (mid, w, front, tries) =
      let z = tried_to n a mid u w front in
      let up = z.1 in
      let more = finish_later rack area last went shared mine count mid b w v None tries in
      (reach_then rack area last went shared mine later a mid b z.0 (finish_reach rack area last went shared mine later count mid b w v None tries), omega (arith, up, more))

  -- nothing but the group that was closing fails so
  stops_so : (stop : SyncFault) (a b : S) (u v : Uber A) → IsFor stop fault.Shelf → FinishesIn rack area last went shared mine count a u (Some (Err stop)) b v → AreaFails area went a u b v
  stops_so sync.Shelf a b u v is finishes = finish_fails rack area last went shared mine later count a b u v finishes
  stops_so sync.Worn a b u v is finishes = absurd (cc)
  stops_so sync.Last a b u v is finishes = absurd is
  stops_so sync.NoMemory a b u v is finishes = absurd (cc)

  short_not : (short : ReserveFault) → IsShortOf short fault.Shelf → ⊥
  short_not (reserve.Worn events) is = absurd (cc)
  short_not reserve.NoMemory is = absurd (cc)

  all_not : (a b : S) → SwitchesAll rack area last went shared mine count leaf offline a (Err fault.Shelf) b → ⊥
  all_not a b (inl (look, is)) = absurd (cc)
  all_not a b (inr (mid, short, look, reserves, is)) = short_not short is

  in_fails : (a b : S) (u v : Uber A) → SwitchesIn rack area last went shared mine count leaf offline a u (Some (Err fault.Shelf)) b v → AreaFails area went a u b v
  in_fails a b u v (inl (stop, finishes, is)) = stops_so stop a b u v is finishes
  in_fails a b u v (inr (mid, finishes, switches)) = absurd (all_not mid b switches)

  pub switched_fails : (a b : S) (u v : Uber A) (result : Result Unit ArmFault) → result ≡ Err fault.Shelf → SwitchesThrough rack area last went shared mine count leaf offline a u result b v → AreaFails area went a u b v
  switched_fails a b u v result is t =
      let z = tried_to t.waits a t.mid u t.w t.front in
      fails_behind rack area last went shared mine later a t.mid b u t.w v z.0 z.1 (in_fails t.mid b t.w v (subst (λ r. SwitchesIn rack area last went shared mine count leaf offline t.mid t.w (Some r) b v) is t.switches))

pub lane_switch_fails : {R A G W : Type 0} (rack : racks.Ghosts R) (area : areas.Ghosts A) (leaf : ℕ) (offline : Bool) (lock : Lock (UberCell R A)) (old new : Locked R A G W) (result : Result Unit ArmFault) (pass next : Caller (Past (UberCell R A)))
    → SwitchedIn rack area leaf offline lock old new result pass next → result ≡ Err fault.Shelf → AreaFailedIn rack area lock old new pass next
lane_switch_fails rack area leaf offline lock old new result pass next did is =
    fails_in rack area _ lock old new None (Some result) pass next did
    (switched_fails rack area lane_last (LaneWent rack area) true (owned_by did.related.met.passes.items) (lane_later rack area) _ leaf offline did.related.met did.related.after did.value.uber did.left.uber result is did.related.related.0)
