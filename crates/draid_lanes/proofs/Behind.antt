-- What a thread needs of some of its own it has behind holds that leave what is its own, where it alone changes groups.
use Rattle.std.proofs.Common.{◌≡◌, ◌<◌, ◌≤◌, ◌+◌, ◌∙◌, ◌⊎◌, inl, inr, ℕ, Bool, true, false, Option, Some, arith, refl, sym, ap, subst, if◌then◌else◌, eq-eqb, ne_eqb}
use mathlib.Core.Logic.{dite}
use native.Mathlib.Decide.{ℕ_discrete}
use Rattle.std.proofs.lemmas.Bool.{cases_lt, true≢false}
use Rattle.draid_names.specs.declared.pointer.Pointer.{Pointer}
use Rattle.draid_rack.specs.declared.Rack as racks
use Rattle.draid_area.specs.declared.Area as areas
use Rattle.draid_spec.specs.declared.layout.Geometry.{Geometry}
use Rattle.draid_machine.proofs.Small.{none_some}
use Rattle.draid_shard.specs.Part.{Part}
use Rattle.draid_shard.specs.declared.shard.Shard.{Shard}
use Rattle.draid_uber.specs.Slots.{group_of}
use Rattle.draid_uber.specs.Uber.{kept_of}
use Rattle.draid_uber.specs.declared.uber.Uber.{Uber}
use Rattle.draid_pool.specs.Drifts.{groups_number}
use Rattle.draid_pool.specs.Grouping.{ClosesNext}
use Rattle.draid_pool.specs.Rounds.{EachIs, HeldOnce, NoneBeyond}
use Rattle.draid_pool.specs.Threads.{HaveLayout, IsNear, KeepsWhole, all_of}
use Rattle.draid_pool.proofs.Drifting.{keeps_some}
use Rattle.draid_pool.proofs.Holding.{some_same}
use Rattle.draid_pool.proofs.SyncWhole.{HasGroup, HasLeft, HasNext, KeepsOwn, left_on, near_left}
use Rattle.draid_lanes.proofs.Kept.{drifts_some}

module _ {R A S : Type 0} (rack : racks.Ghosts R) (area : areas.Ghosts A) (last : S → ℕ → Option (Shard R A)) (went : S → ℕ → Shard R A → Shard R A → S → Type 0) (shared : Bool) (owns : ℕ → Bool) (own : owns groups_number ≡ true) (count : ℕ) (a b : S) (u v : Uber A)
    (ready : EachIs count (ClosesNext rack (group_of (kept_of u) + 1)) (last a)) (beyond : NoneBeyond count (last a))
    (goes : (Stays : S → Type 0) (on : (does : Shard R A → Shard R A → Type 0) (x : S) (m : ℕ) (y : S) → m < count → (h : HeldOnce rack area last went shared owns does x m y) → KeepsOwn rack owns h.before h.after → Stays x → Stays y)
    → HasGroup rack area last went shared owns own count Stays on a (group_of (kept_of u) + 1) → HasNext rack area last went shared owns own count Stays on b v (group_of (kept_of u) + 1)) where
  -- ---- the group

  -- what a floor is near stays so, since no open group falls
  near_behind : (floor : ℕ) → IsNear floor (last a) → IsNear floor (last b)
  near_behind floor is = (goes (λ s. IsNear floor (last s)) (near_left rack area last went shared owns count floor) (record { left = is; ready = ready })).0.left

  -- ---- what is whole

  module _ (some : ℕ → Bool) (inside : (n : ℕ) → some n ≡ true → owns n ≡ true) where
    held_some : (does : Shard R A → Shard R A → Type 0) (x : S) (m : ℕ) (y : S) → HeldOnce rack area last went shared owns does x m y → HeldOnce rack area last went shared some does x m y
    held_some does x m y h = record {
      shard = h.shard;
      there = h.there;
      before = h.before;
      after = h.after;
      drifts = drifts_some rack area shared owns some h.shard h.before inside h.drifts;
      did = h.did;
      is = h.is;
      goes = h.goes;
    }

    own_some : (x y : Shard R A) → KeepsOwn rack owns x y → KeepsOwn rack some x y
    own_some x y k = record { valid = k.valid; part = k.part; opens = k.opens; entries = keeps_some owns some y.committed x.entries y.entries inside k.entries }

    some_on : (table : ℕ → Option Pointer) (seq floor : ℕ) (does : Shard R A → Shard R A → Type 0) (x : S) (m : ℕ) (y : S) → m < count → (h : HeldOnce rack area last went shared owns does x m y) → KeepsOwn rack owns h.before h.after
        → HasLeft rack area last went shared some count table seq floor x → HasLeft rack area last went shared some count table seq floor y
    unfolding held_some
    some_on table seq floor does x m y below h keeps left = left_on rack area last went shared some count table seq floor does x m y below (held_some does x m y h) (own_some h.before h.after keeps) left

    pub whole_behind : 0 < count → some groups_number ≡ false → KeepsWhole rack some (all_of some) (last a) (last b)
    whole_behind any without table seq floor w = record {
      shards = z.0.left.shards;
      placed = z.0.left.placed;
      together = λ m n shard other mine. absurd (true≢false (sym mine ∙ without));
      next = λ m shard mine. absurd (true≢false (sym mine ∙ without));
      pointers = z.0.left.pointers;
      low = w.low;
      reached = near_behind floor w.reached;
    }
      where
        z : HasNext rack area last went shared owns own count (HasLeft rack area last went shared some count table seq floor) (some_on table seq floor) b v (group_of (kept_of u) + 1)
        z = goes (HasLeft rack area last went shared some count table seq floor) (some_on table seq floor)
            (record { left = record { shards = w.shards; placed = w.placed; pointers = w.pointers; near = w.reached; beyond = beyond }; ready = ready })

  -- ---- its layout

  layout_on : (geometry : Geometry) (does : Shard R A → Shard R A → Type 0) (x : S) (m : ℕ) (y : S) → m < count → (h : HeldOnce rack area last went shared owns does x m y) → KeepsOwn rack owns h.before h.after → HaveLayout geometry (last x) → HaveLayout geometry (last y)
  layout_on geometry does x m y below h keeps has k s at = dite (ℕ_discrete k m)
      (λ same.
      let here : last y m ≡ Some h.after = h.is m ∙ ap (λ b. if b then Some h.after else last x m) (eq-eqb m m refl) in
      let is : h.after ≡ s = some_same h.after s (sym here ∙ (ap (last y) (sym same) ∙ at)) in
      subst (λ (q : Shard R A). q.geometry ≡ geometry) is (ap (λ (q : Part). q.geometry) (keeps.part ∙ h.drifts.part) ∙ has m h.shard h.there))
      (λ not. has k s (sym (h.is k ∙ ap (λ b. if b then Some h.after else last x k) (ne_eqb k m not)) ∙ at))

  pub layout_behind : (geometry : Geometry) → HaveLayout geometry (last a) → HaveLayout geometry (last b)
  layout_behind geometry has =
      (goes (λ s. HaveLayout geometry (last s)) (layout_on geometry) (record { left = has; ready = ready })).0.left
