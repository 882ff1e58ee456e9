-- What a thread needs of some of its own it has behind a leaf that went offline or came back, tried again until no open write was in the way.
use Rattle.std.proofs.Common.{◌≡◌, ◌<◌, ◌+◌, inl, inr, ℕ, zero, suc, Bool, true, false, Option, Some, None, Ok, Err, arith, refl, sym, subst}
use Rattle.std.specs.Prelude.{Result}
use Rattle.draid_rack.specs.declared.Rack as racks
use Rattle.draid_area.specs.declared.Area as areas
use Rattle.draid_spec.specs.declared.layout.Geometry.{Geometry}
use Rattle.draid_shard.specs.declared.shard.Shard.{Shard}
use Rattle.draid_uber.specs.Slots.{group_of}
use Rattle.draid_uber.specs.Uber.{kept_of}
use Rattle.draid_uber.specs.declared.uber.Uber.{Uber}
use Rattle.draid_pool.specs.Drifts.{groups_number}
use Rattle.draid_pool.specs.Grouping.{ClosesNext}
use Rattle.draid_pool.specs.Rounds.{EachIs, HeldOnce, NoneBeyond}
use Rattle.draid_pool.specs.Threads.{HaveLayout, KeepsWhole, all_of}
use Rattle.draid_pool.proofs.SyncWhole.{HasGroup, HasNext, KeepsOwn, finishes_next}
use Rattle.draid_changes.specs.Switching.{SwitchesIn}
use Rattle.draid_changes.specs.declared.fault.ArmFault.{ArmFault}
use Rattle.draid_changes.proofs.ArmSteps.{switch_has}
use Rattle.draid_lanes.proofs.Behind.{layout_behind, whole_behind}
use Rattle.draid_works.specs.Switched.{SwitchesThrough, TriedOn}

-- ---- what every hold keeps that leaves what a thread has of its own

module _ {R A S : Type 0} (rack : racks.Ghosts R) (area : areas.Ghosts A) (last : S → ℕ → Option (Shard R A)) (went : S → ℕ → Shard R A → Shard R A → S → Type 0) (shared : Bool) (owns : ℕ → Bool) (own : owns groups_number ≡ true) (count : ℕ) (any : 0 < count) (leaf : ℕ) (offline : Bool) (Stays : S → Type 0)
    (on : (does : Shard R A → Shard R A → Type 0) (a : S) (m : ℕ) (b : S) → m < count → (h : HeldOnce rack area last went shared owns does a m b) → KeepsOwn rack owns h.before h.after → Stays a → Stays b) where
  -- the group behind that which an uberblock names
  abbrev next_of : Uber A → ℕ
  next_of u = group_of (kept_of u) + 1

  abbrev Ready : S → ℕ → Type 0
  Ready s group = HasGroup rack area last went shared owns own count Stays on s group

  abbrev Next : S → Uber A → ℕ → Type 0
  Next s v group = HasNext rack area last went shared owns own count Stays on s v group

  in_next : (a b : S) (u v : Uber A) (out : Option (Result Unit ArmFault)) → SwitchesIn rack area last went shared owns count leaf offline a u out b v → Ready a (next_of u) → Next b v (next_of u)
  in_next a b u v (Some (Ok done)) (mid, finishes, switches) g =
      let f = finishes_next rack area last went shared owns own count Stays on (next_of u) a mid u v (Some (Ok tt)) refl finishes g in
      (switch_has rack area last went shared owns count own Stays on any (next_of v) leaf offline mid b (Ok tt) switches f.0, f.1)
  in_next a b u v (Some (Err why)) (inl (stop, finishes, is)) g = finishes_next rack area last went shared owns own count Stays on (next_of u) a b u v (Some (Err stop)) refl finishes g
  in_next a b u v (Some (Err why)) (inr (mid, finishes, switches)) g =
      let f = finishes_next rack area last went shared owns own count Stays on (next_of u) a mid u v (Some (Ok tt)) refl finishes g in
      (switch_has rack area last went shared owns count own Stays on any (next_of v) leaf offline mid b (Err why) switches f.0, f.1)
  in_next a b u v None finishes g = finishes_next rack area last went shared owns own count Stays on (next_of u) a b u v None refl finishes g

  tried_next : (n : ℕ) (a b : S) (u v : Uber A) → TriedOn rack area last went shared owns count leaf offline n a u b v → Ready a (next_of u) → Next b v (next_of u)
  tried_next zero a b u v (at, same) g = subst (λ s. Next s v (next_of u)) (sym at) (subst (λ w. Next a w (next_of u)) (sym same) (g, omega arith))
  tried_next (suc n) a b u v (mid, w, front, tries) g =
      let f = tried_next n a mid u w front g in
      let d = in_next mid b w v None tries f.0 in
      let low = f.1 in
      let high = d.1 in
      (d.0, omega (arith, low, high))

  switched_next : (a b : S) (u v : Uber A) (result : Result Unit ArmFault) → SwitchesThrough rack area last went shared owns count leaf offline a u result b v → Ready a (next_of u) → Next b v (next_of u)
  switched_next a b u v result t g =
      let f = tried_next t.waits a t.mid u t.w t.front g in
      let d = in_next t.mid b t.w v (Some result) t.switches f.0 in
      let low = f.1 in
      let high = d.1 in
      (d.0, omega (arith, low, high))

-- ---- what is whole of some, and the layout

module _ {R A S : Type 0} (rack : racks.Ghosts R) (area : areas.Ghosts A) (last : S → ℕ → Option (Shard R A)) (went : S → ℕ → Shard R A → Shard R A → S → Type 0) (shared : Bool) (owns : ℕ → Bool) (own : owns groups_number ≡ true) (count : ℕ) (any : 0 < count) (leaf : ℕ) (offline : Bool) (a b : S) (u v : Uber A)
    (result : Result Unit ArmFault) (ready : EachIs count (ClosesNext rack (group_of (kept_of u) + 1)) (last a)) (beyond : NoneBeyond count (last a)) (switches : SwitchesThrough rack area last went shared owns count leaf offline a u result b v) where
  goes : (Stays : S → Type 0) (on : (does : Shard R A → Shard R A → Type 0) (x : S) (m : ℕ) (y : S) → m < count → (h : HeldOnce rack area last went shared owns does x m y) → KeepsOwn rack owns h.before h.after → Stays x → Stays y)
      → HasGroup rack area last went shared owns own count Stays on a (group_of (kept_of u) + 1) → HasNext rack area last went shared owns own count Stays on b v (group_of (kept_of u) + 1)
  goes Stays on g = switched_next rack area last went shared owns own count any leaf offline Stays on a b u v result switches g

  pub switched_whole : (some : ℕ → Bool) → ((n : ℕ) → some n ≡ true → owns n ≡ true) → some groups_number ≡ false → KeepsWhole rack some (all_of some) (last a) (last b)
  switched_whole some inside = whole_behind rack area last went shared owns own count a b u v ready beyond goes some inside any

  pub switched_layout : (geometry : Geometry) → HaveLayout geometry (last a) → HaveLayout geometry (last b)
  switched_layout = layout_behind rack area last went shared owns own count a b u v ready beyond goes
