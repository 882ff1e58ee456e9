-- What a lane has of its own objects stays through the switching of a leaf.
use Rattle.std.proofs.Common.{◌≡◌, ◌≤◌, inl, inr, ℕ, zero, suc, Bool, true, false, Option, Some, None, Ok, Err, sym, subst}
use Rattle.std.specs.Prelude.{Result}
use Rattle.draid_names.specs.declared.pointer.Pointer.{Pointer}
use Rattle.draid_rack.specs.declared.Rack as racks
use Rattle.draid_area.specs.declared.Area as areas
use Rattle.draid_entries.specs.declared.history.ReserveFault.{ReserveFault}
use Rattle.draid_session.specs.State.{State}
use Rattle.draid_shard.specs.declared.shard.Shard.{Shard}
use Rattle.draid_turn.specs.Calls.{Caller, Lock}
use Rattle.draid_turn.specs.declared.past.Past.{Past}
use Rattle.draid_uber.specs.declared.uber.Uber.{Uber}
use Rattle.draid_pool.specs.Drifts.{groups_number, is_other}
use Rattle.draid_pool.specs.Rounds.{HeldOnce}
use Rattle.draid_pool.specs.Threads.{Knows}
use Rattle.draid_changes.specs.Switching.{ReservesEach, ReservesOne, SeesLeaf, SwitchesAll, SwitchesIn}
use Rattle.draid_changes.specs.Walks.{Switches}
use Rattle.draid_changes.specs.declared.fault.ArmFault.{ArmFault}
use Rattle.draid_changes.proofs.LeafHolds.{reserve_keeps, switch_keeps}
use Rattle.draid_lanes.specs.Governing.{lane_last}
use Rattle.draid_lanes.specs.Locks.{owned_by}
use Rattle.draid_lanes.specs.Ubers.{IsLane, IsUberOf}
use Rattle.draid_lanes.specs.Waits.{LaneWent}
use Rattle.draid_lanes.specs.declared.locked.Locked.{Locked}
use Rattle.draid_lanes.specs.declared.uber.UberCell.{UberCell}
use Rattle.draid_lanes.proofs.Drifted.{other_is}
use Rattle.draid_lanes.specs.Knowing.{KnowsLater}
use Rattle.draid_works.specs.Switched.{SwitchedIn, SwitchesBy, SwitchesThrough, TriedOn}
use Rattle.draid_works.proofs.LaneStays.{governed_knows, inside, lane_later}
use Rattle.draid_lanes.proofs.OwnGoes.{EachGoes, Goes, OwnGoes, each_same, each_then, goes_on, goes_same, hold_goes, own_keeps, own_still}
use Rattle.draid_works.proofs.SyncSteps.{finish_goes, round_goes, stop_goes}

-- who doesn't own the groups owns none that a hold concerns which may change them
no_groups : (owns : ℕ → Bool) → owns groups_number ≡ false → (n : ℕ) → owns n ≡ true → is_other (Some groups_number) n ≡ true
no_groups owns none n own = other_is (Some groups_number) owns n (λ k is. subst (λ j. owns j ≡ false) (cc is) none) own

module _ {R A S : Type 0} (rack : racks.Ghosts R) (area : areas.Ghosts A) (last : S → ℕ → Option (Shard R A)) (went : S → ℕ → Shard R A → Shard R A → S → Type 0) (shared : Bool) (mine owns : ℕ → Bool) (inside : (n : ℕ) → owns n ≡ true → mine n ≡ true)
    (later : (a : S) (m : ℕ) (x y : Shard R A) (b : S) → went a m x y b → x.committed ≤ y.committed) (none : owns groups_number ≡ false) (count leaf : ℕ) (offline : Bool) where
  abbrev Each : S → S → Type 0
  Each a b = EachGoes rack area owns (last a) (last b)

  then_goes : (a b c : S) → Each a b → Each b c → Each a c
  then_goes a b c = each_then rack area owns (last a) (last b) (last c)

  own_reserves : (result : Result Unit ReserveFault) (x y : Shard R A) → ReservesOne rack x result y → OwnGoes rack area owns x y
  own_reserves result x y r = own_keeps rack area owns (Some groups_number) (no_groups owns none) x y (reserve_keeps rack area x y (Some result) r)

  own_switches : (x y : Shard R A) → Switches rack leaf offline x y → OwnGoes rack area owns x y
  own_switches x y s = own_keeps rack area owns (Some groups_number) (no_groups owns none) x y (switch_keeps rack area leaf offline x y s)

  look_goes : (there : Bool) (a b : S) → HeldOnce rack area last went shared mine (SeesLeaf leaf there) a 0 b → Each a b
  look_goes there a b h = hold_goes rack area last went shared mine owns inside (SeesLeaf leaf there) a 0 b h (own_still rack area owns h.before h.after h.did.same)

  reserves_goes : (a b : S) (result : Result Unit ReserveFault) → ReservesEach rack area last went shared mine count a result b → Each a b
  reserves_goes a b (Ok done) each = round_goes rack area last went shared mine owns later (Goes rack area last went shared mine owns inside) (goes_same rack area last went shared mine owns inside) (goes_on rack area last went shared mine owns inside) (hold_goes rack area last went shared mine owns inside) (λ none x y. ReservesOne rack x (Ok tt) y) (λ n. own_reserves (Ok tt)) count 0 a b each
  reserves_goes a b (Err why) s =
      stop_goes rack area last went shared mine owns later (Goes rack area last went shared mine owns inside) (goes_same rack area last went shared mine owns inside) (goes_on rack area last went shared mine owns inside) (hold_goes rack area last went shared mine owns inside) (λ none x y. ReservesOne rack x (Ok tt) y) (λ n. own_reserves (Ok tt)) (λ x y. ReservesOne rack x (Err why) y) (own_reserves (Err why)) count a b s

  all_goes : (a b : S) (result : Result Unit ArmFault) → SwitchesAll rack area last went shared mine count leaf offline a result b → Each a b
  all_goes a b (Ok done) (mid, late, look, reserves, switches) =
      then_goes a late b (then_goes a mid late (look_goes true a mid look) (reserves_goes mid late (Ok tt) reserves))
      (round_goes rack area last went shared mine owns later (Goes rack area last went shared mine owns inside) (goes_same rack area last went shared mine owns inside) (goes_on rack area last went shared mine owns inside) (hold_goes rack area last went shared mine owns inside) (λ none x y. Switches rack leaf offline x y) (λ n. own_switches) count 0 late b switches)
  all_goes a b (Err why) (inl (look, is)) = look_goes false a b look
  all_goes a b (Err why) (inr (mid, short, look, reserves, is)) = then_goes a mid b (look_goes true a mid look) (reserves_goes mid b (Err short) reserves)

  in_goes : (a b : S) (u v : Uber A) (out : Option (Result Unit ArmFault)) → SwitchesIn rack area last went shared mine count leaf offline a u out b v → Each a b
  in_goes a b u v (Some (Ok done)) (mid, finishes, switches) = then_goes a mid b (finish_goes rack area last went shared mine owns later (Goes rack area last went shared mine owns inside) (goes_same rack area last went shared mine owns inside) (goes_on rack area last went shared mine owns inside) (hold_goes rack area last went shared mine owns inside) count a mid u v (Some (Ok tt)) finishes) (all_goes mid b (Ok tt) switches)
  in_goes a b u v (Some (Err why)) (inl (stop, finishes, is)) = finish_goes rack area last went shared mine owns later (Goes rack area last went shared mine owns inside) (goes_same rack area last went shared mine owns inside) (goes_on rack area last went shared mine owns inside) (hold_goes rack area last went shared mine owns inside) count a b u v (Some (Err stop)) finishes
  in_goes a b u v (Some (Err why)) (inr (mid, finishes, switches)) = then_goes a mid b (finish_goes rack area last went shared mine owns later (Goes rack area last went shared mine owns inside) (goes_same rack area last went shared mine owns inside) (goes_on rack area last went shared mine owns inside) (hold_goes rack area last went shared mine owns inside) count a mid u v (Some (Ok tt)) finishes) (all_goes mid b (Err why) switches)
  in_goes a b u v None finishes = finish_goes rack area last went shared mine owns later (Goes rack area last went shared mine owns inside) (goes_same rack area last went shared mine owns inside) (goes_on rack area last went shared mine owns inside) (hold_goes rack area last went shared mine owns inside) count a b u v None finishes

  tried_goes : (n : ℕ) (a b : S) (u v : Uber A) → TriedOn rack area last went shared mine count leaf offline n a u b v → Each a b
  tried_goes zero a b u v (at, same) = subst (Each a) (sym at) (each_same rack area owns (last a))
  tried_goes (suc n) a b u v (mid, w, front, tries) = then_goes a mid b (tried_goes n a mid u w front) (in_goes mid b w v None tries)

  pub switched_goes : (a b : S) (u v : Uber A) (result : Result Unit ArmFault) → SwitchesThrough rack area last went shared mine count leaf offline a u result b v → EachGoes rack area owns (last a) (last b)
  switched_goes a b u v result t = then_goes a t.mid b (tried_goes t.waits a t.mid u t.w t.front) (in_goes t.mid b t.w v (Some result) t.switches)

-- ---- a lane's

module _ {R A G W : Type 0} (rack : racks.Ghosts R) (area : areas.Ghosts A) (leaf : ℕ) (offline : Bool) (lock : Lock (UberCell R A)) (old new : Locked R A G W) (result : Result Unit ArmFault) (pass next : Caller (Past (UberCell R A))) (lane : IsLane rack old.turns.now old.passes.items)
    (turns : lock.first.turns.now ≡ old.turns.now) (first : IsUberOf rack area lock.first.turns.now lock.first.uber lock.first.groups) (did : SwitchedIn rack area leaf offline lock old new result pass next) where
  abbrev Made : Option (Result Unit ArmFault) → Locked R A G W → Uber A → Option (Result Unit ArmFault) → Locked R A G W → Uber A → Type 0
  Made before a u came b v = SwitchesBy rack area leaf offline a u came b v

  switched_each : EachGoes rack area (owned_by old.passes.items) (lane_last did.related.met) (lane_last did.related.after)
  switched_each =
      switched_goes rack area lane_last (LaneWent rack area) true (owned_by did.related.met.passes.items) (owned_by old.passes.items) (inside rack area Made lock old new None (Some result) pass next lane turns first did) (lane_later rack area) lane.no_groups _ leaf offline
      did.related.met did.related.after did.value.uber did.left.uber result did.related.related.0

  pub switched_knows : new.turns.now ≡ old.turns.now → (table : ℕ → Option Pointer) (seq floor : ℕ) (x : State) → Knows rack area (owned_by old.passes.items) (lane_last old) table seq floor x → KnowsLater rack area (owned_by old.passes.items) (lane_last new) table seq floor x
  switched_knows = governed_knows rack area Made lock old new None (Some result) pass next lane turns first did switched_each
