-- What a thread needs of some of its own it has behind a sync that waited.
use Rattle.std.proofs.Common.{◌≡◌, ◌<◌, ◌+◌, ◌∙◌, inl, inr, ℕ, zero, suc, Bool, true, false, Option, Some, None, Ok, Err, arith, refl, sym, ap, subst}
use Rattle.std.specs.Prelude.{Result}
use Rattle.draid_rack.specs.declared.Rack as racks
use Rattle.draid_area.specs.declared.Area as areas
use Rattle.draid_spec.specs.declared.layout.Geometry.{Geometry}
use Rattle.draid_shard.specs.declared.shard.Shard.{Shard}
use Rattle.draid_uber.specs.Slots.{group_of}
use Rattle.draid_uber.specs.Uber.{kept_of}
use Rattle.draid_uber.specs.declared.uber.Uber.{Uber}
use Rattle.draid_pool.specs.Drifts.{groups_number}
use Rattle.draid_pool.specs.Grouping.{ClosesNext}
use Rattle.draid_pool.specs.Rounds.{EachIs, HeldOnce, NoneBeyond}
use Rattle.draid_pool.specs.Threads.{HaveLayout, KeepsWhole, all_of}
use Rattle.draid_pool.specs.declared.fault.SyncFault.{SyncFault}
use Rattle.draid_pool.specs.declared.fault.Synced.{Synced}
use Rattle.draid_pool.specs.declared.fault.Syncing.{Syncing}
use Rattle.draid_pool.proofs.SyncWhole.{HasGroup, HasNext, KeepsOwn, begins_next, goes_next}
use Rattle.draid_lanes.specs.Waits.{BeginsThrough, BegunOn, GoesThrough, SyncsThrough, WaitsOn}
use Rattle.draid_lanes.proofs.Behind.{layout_behind, whole_behind}

-- ---- what every hold keeps that leaves what a thread has of its own

module _ {R A S : Type 0} (rack : racks.Ghosts R) (area : areas.Ghosts A) (last : S → ℕ → Option (Shard R A)) (went : S → ℕ → Shard R A → Shard R A → S → Type 0) (shared : Bool) (owns : ℕ → Bool) (own : owns groups_number ≡ true) (count : ℕ) (Stays : S → Type 0)
    (on : (does : Shard R A → Shard R A → Type 0) (a : S) (m : ℕ) (b : S) → m < count → (h : HeldOnce rack area last went shared owns does a m b) → KeepsOwn rack owns h.before h.after → Stays a → Stays b) where
  -- the group behind that which an uberblock names
  abbrev next_of : Uber A → ℕ
  next_of u = group_of (kept_of u) + 1

  abbrev Ready : S → ℕ → Type 0
  Ready s group = HasGroup rack area last went shared owns own count Stays on s group

  abbrev Next : S → Uber A → ℕ → Type 0
  Next s v group = HasNext rack area last went shared owns own count Stays on s v group

  begun_next : (n : ℕ) (a b : S) (u v : Uber A) → BegunOn rack area last went shared owns count n a u b v → Ready a (next_of u) → Next b v (next_of u)
  begun_next zero a b u v (at, same) g = subst (λ s. Next s v (next_of u)) (sym at) (subst (λ w. Next a w (next_of u)) (sym same) (g, omega arith))
  begun_next (suc n) a b u v (mid, w, front, begins) g =
      let f = begun_next n a mid u w front g in
      let d = begins_next rack area last went shared owns own count Stays on (next_of w) mid b w v None refl begins f.0 in
      let low = f.1 in
      let high = d.1 in
      (d.0, omega (arith, low, high))

  pub started_next : (a b : S) (u v : Uber A) (result : Result Syncing SyncFault) → BeginsThrough rack area last went shared owns count a u result b v → Ready a (next_of u) → Next b v (next_of u)
  started_next a b u v result t g =
      let f = begun_next t.waits a t.mid u t.w t.front g in
      let d = begins_next rack area last went shared owns own count Stays on (next_of t.w) t.mid b t.w v (Some result) refl t.begins f.0 in
      let low = f.1 in
      let high = d.1 in
      (d.0, omega (arith, low, high))

  -- as far as it went on its group is the one behind what the uberblock names
  record Going (s : S) (old now : Syncing) (v : Uber A) : Type 0 where
    pub ready : Ready s now.group
    pub next : now.group ≡ next_of v
    pub group : now.group ≡ old.group

  waits_next : (n : ℕ) (a b : S) (old new : Syncing) (u v : Uber A) → WaitsOn rack area last went shared owns count n a old u b new v → old.group ≡ next_of u → Ready a old.group → Going b old new v
  waits_next zero a b old new u v (at, is, same) next g =
      subst (λ s. Going s old new v) (sym at) (subst (λ x. Going a old x v) (sym is) (subst (λ w. Going a old old w) (sym same) (record { ready = g; next = next; group = refl })))
  waits_next (suc n) a b old new u v (mid, now, w, front, goes) next g =
      let f = waits_next n a mid old now u w front next g in
      let d = goes_next rack area last went shared owns own count Stays on mid b now new w v None f.next goes f.ready in
      let group : new.group ≡ now.group = goes.0.front.group in
      let names : next_of v ≡ next_of w = ap next_of goes.1 in
      record { ready = subst (Ready b) (names ∙ (sym f.next ∙ sym group)) d.0; next = group ∙ (f.next ∙ sym names); group = group ∙ f.group }

  ended_next : (a b : S) (old : Syncing) (u v : Uber A) (result : Result Synced SyncFault) → GoesThrough rack area last went shared owns count a old u result b v → old.group ≡ next_of u → Ready a old.group → Next b v old.group
  ended_next a b old u v result t next g =
      let f = waits_next t.waits a t.mid old t.now u t.w t.front next g in
      subst (Next b v) f.group (goes_next rack area last went shared owns own count Stays on t.mid b t.now t.new t.w v (Some result) f.next t.goes f.ready)

  pub through_next : (a b : S) (u v : Uber A) (result : Result Synced SyncFault) → SyncsThrough rack area last went shared owns count a u result b v → Ready a (next_of u) → Next b v (next_of u)
  through_next a b u v result (inl (mid, begun, w, begins, goes)) g =
      let f = started_next a mid u w (Ok begun) begins g in
      let is : begun.group ≡ next_of w = begins.begins.2.group_is in
      let d = ended_next mid b begun w v result goes is (subst (Ready mid) (sym is) f.0) in
      let low = f.1 in
      let high = d.1 in
      (d.0, omega (arith, low, high, is))
  through_next a b u v result (inr (why, is, begins)) g = started_next a b u v (Err why) begins g

-- ---- what is whole of some, and the layout

module _ {R A S : Type 0} (rack : racks.Ghosts R) (area : areas.Ghosts A) (last : S → ℕ → Option (Shard R A)) (went : S → ℕ → Shard R A → Shard R A → S → Type 0) (shared : Bool) (owns : ℕ → Bool) (own : owns groups_number ≡ true) (count : ℕ) (a b : S) (u v : Uber A)
    (result : Result Synced SyncFault) (ready : EachIs count (ClosesNext rack (group_of (kept_of u) + 1)) (last a)) (beyond : NoneBeyond count (last a)) (syncs : SyncsThrough rack area last went shared owns count a u result b v) where
  goes : (Stays : S → Type 0) (on : (does : Shard R A → Shard R A → Type 0) (x : S) (m : ℕ) (y : S) → m < count → (h : HeldOnce rack area last went shared owns does x m y) → KeepsOwn rack owns h.before h.after → Stays x → Stays y)
      → HasGroup rack area last went shared owns own count Stays on a (group_of (kept_of u) + 1) → HasNext rack area last went shared owns own count Stays on b v (group_of (kept_of u) + 1)
  goes Stays on g = through_next rack area last went shared owns own count Stays on a b u v result syncs g

  pub through_whole : (some : ℕ → Bool) → ((n : ℕ) → some n ≡ true → owns n ≡ true) → 0 < count → some groups_number ≡ false → KeepsWhole rack some (all_of some) (last a) (last b)
  through_whole = whole_behind rack area last went shared owns own count a b u v ready beyond goes

  pub through_layout : (geometry : Geometry) → HaveLayout geometry (last a) → HaveLayout geometry (last b)
  through_layout = layout_behind rack area last went shared owns own count a b u v ready beyond goes
