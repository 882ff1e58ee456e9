-- A rebuild that is made to run in a hold keeps to what every hold keeps to, and a thread that has the passes and the groups makes it run.
use Rattle.std.proofs.Common.{◌≡◌, ◌==◌, ◌<◌, ◌≤◌, ◌+◌, ◌∙◌, arith, inl, inr, ℕ, Bool, true, false, Option, Some, Ok, ap, refl, subst, sym, if◌then◌else◌}
use Rattle.std.specs.Prelude.{IsSomeAnd}
use Rattle.draid_names.specs.declared.pass_kind.PassKind.TheVariants.{Rebuild}
use Rattle.draid_rack.specs.declared.Rack as racks
use Rattle.draid_area.specs.declared.Area as areas
use Rattle.draid_pass.specs.declared.pass.Pass.{Pass}
use Rattle.draid_shard.specs.declared.shard.Shard.{Shard}
use Rattle.draid_uber.specs.Slots.{group_of}
use Rattle.draid_uber.specs.Uber.{kept_of}
use Rattle.draid_uber.specs.declared.uber.Uber.{Uber}
use Rattle.draid_pool.specs.Drifts.{Drifts, KeepsTo, groups_number, is_other, passes_number}
use Rattle.draid_pool.specs.Grouping.{ClosesNext, FinishesIn, SyncsIn}
use Rattle.draid_pool.specs.Rounds.{EachIs, HeldOnce, NoneBeyond}
use Rattle.draid_pool.specs.Threads.{KeepsWhole, all_of}
use Rattle.draid_pool.specs.declared.fault.Synced.{Synced}
use Rattle.draid_pool.proofs.Drifting.{same_pass}
use Rattle.draid_pool.proofs.Holding.{some_same}
use Rattle.draid_pool.proofs.Rises.{records_same}
use Rattle.draid_pool.proofs.RoundSteps.{held_by}
use Rattle.draid_pool.proofs.ShardSteps.{state_goes}
use Rattle.draid_pool.proofs.SyncWhole.{KeepsQuiet, beyond_on, find_ready, quiet_on}
use Rattle.draid_visits.specs.Readies.{MayReadyIn, ReadiesIn}
use Rattle.draid_visits.specs.Starts.{LeftSo}
use Rattle.draid_visits.proofs.CancelHolds.{pass_may_go}
use Rattle.draid_visits.proofs.Kept.{rebuild_kept}
use Rattle.draid_visits.proofs.LookHolds.{once_whole}
use Rattle.draid_visits.proofs.PassesStay.{PassesAreThere, once_there, there_then}

module _ {R A : Type 0} (rack : racks.Ghosts R) (area : areas.Ghosts A) where
  pub ready_keeps : (x y : Shard R A) (runs : Bool) → ReadiesIn rack area runs x y → KeepsTo rack area x y (Some passes_number)
  ready_keeps x y runs r = record {
    valid = r.valid;
    part = r.part;
    later = (let same = r.blocks.groups.committed in omega (arith, same));
    opens = (let same = r.blocks.groups.open_group_is in omega (arith, same));
    groups = λ other. r.groups;
    passes = λ is. pass_may_go is;
    others = record { each = λ key own. inl (r.blocks.entries.held key) };
    areas = records_same area.faults x y r.areas_are;
    state = state_goes rack area (is_other (Some passes_number)) x y _ r.goes;
  }

  pub ready_ready : (shared : Bool) (owns : ℕ → Bool) → owns passes_number ≡ true → (shard x : Shard R A) → Drifts rack area shared owns shard x → MayReadyIn rack shard → MayReadyIn rack x
  ready_ready shared owns own shard x d may = record { valid = d.valid; rebuild = rebuild_kept shard.pass x.pass (d.passes own) may.rebuild }

  pub ready_quiet : (owns : ℕ → Bool) (runs : Bool) (x y : Shard R A) → ReadiesIn rack area runs x y → KeepsQuiet rack owns x y
  ready_quiet owns runs x y r = record { keeps = record { valid = r.valid; part = r.part; opens = (let same = r.blocks.groups.open_group_is in omega (arith, same)); entries = record { each = λ key own. inl (r.blocks.entries.held key) } }; committed = r.blocks.groups.committed }

module _ {R A S : Type 0} (rack : racks.Ghosts R) (area : areas.Ghosts A) (last : S → ℕ → Option (Shard R A)) (went : S → ℕ → Shard R A → Shard R A → S → Type 0) (shared : Bool) (owns : ℕ → Bool) (own : owns groups_number ≡ true) (count : ℕ) where
  -- what a sync needs is there behind the hold
  pub ready_next : (runs : Bool) (a : S) (m : ℕ) (b : S) → m < count → (h : HeldOnce rack area last went shared owns (ReadiesIn rack area runs) a m b) (next : ℕ) → EachIs count (ClosesNext rack next) (last a) → NoneBeyond count (last a)
      → EachIs count (ClosesNext rack next) (last b) × NoneBeyond count (last b)
  ready_next runs a m b below h next ready beyond =
      let z = quiet_on rack area last went shared owns own count (λ s. NoneBeyond count (last s)) (beyond_on rack area last went shared owns count) (ReadiesIn rack area runs) a m b below h next
      (ready_quiet rack area owns runs h.before h.after h.did) (record { left = beyond; ready = ready }) in
      (z.ready, z.left)

  -- ---- what a thread has behind the hold

  pub record ReadyBehind (runs : Bool) (a : S) (u : Uber A) (m : ℕ) (b : S) : Type 0 where
    pub once : HeldOnce rack area last went shared owns (ReadiesIn rack area runs) a m b
    pub ready : EachIs count (ClosesNext rack (group_of (kept_of u) + 1)) (last b)
    pub beyond : NoneBeyond count (last b)
    pub whole : KeepsWhole rack owns (all_of owns) (last a) (last b)

  -- by the fields of a hold that was made
  pub ready_behind : (now : ℕ → Bool) → now ≡ owns → (out runs : Bool) → out ≡ runs → (a : S) (u : Uber A) (m : ℕ) (b : S) (shard before after : Shard R A) → last a m ≡ Some shard → Drifts rack area shared now shard before
      → ReadiesIn rack area out before after → ((k : ℕ) → last b k ≡ (if k == m then Some after else last a k)) → went a m before after b → m < count → EachIs count (ClosesNext rack (group_of (kept_of u) + 1)) (last a) → NoneBeyond count (last a)
      → ReadyBehind runs a u m b
  ready_behind now same out runs came a u m b shard before after there drifts related is goes below ready beyond =
      let did : ReadiesIn rack area runs before after = subst (λ r. ReadiesIn rack area r before after) came related in
      let once : HeldOnce rack area last went shared owns (ReadiesIn rack area runs) a m b
      = held_by rack area last went shared now owns same (ReadiesIn rack area runs) a m b shard before after there drifts is goes did in
      let next = ready_next runs a m b below once (group_of (kept_of u) + 1) ready beyond in
      record {
        once = once;
        ready = next.0;
        beyond = next.1;
        whole = once_whole rack area last went shared owns (ReadiesIn rack area runs) a m b once (λ x y r. r.part) (λ x y r. r.groups) (λ x y v r. r.valid) (λ x y r. r.blocks);
      }

  -- ---- a sync names a later group

  module _ (a : S) (u : Uber A) (ready : EachIs count (ClosesNext rack (group_of (kept_of u) + 1)) (last a)) (beyond : NoneBeyond count (last a)) where
    finish_rises : (b : S) (v : Uber A) → FinishesIn rack area last went shared owns count a u (Some (Ok tt)) b v → group_of (kept_of u) ≤ group_of (kept_of v)
    finish_rises b v (inl (found, same)) = (let is : group_of (kept_of v) ≡ group_of (kept_of u) = ap (λ w. group_of (kept_of w)) same in omega (arith, is))
    finish_rises b v (inr (group, thin, mid, found, commits)) =
        let is = (find_ready rack area last went shared owns own count a mid u v ready beyond group found).1 in
        let named : group_of (kept_of v) ≡ group = ap group_of commits.4.0.kept in
        omega (arith, is, named)

    pub sync_rises : (it : Synced) (b : S) (v : Uber A) → SyncsIn rack area last went shared owns count a u (Some (Ok it)) b v → group_of (kept_of u) < group_of (kept_of v)
    sync_rises it b v (mid, w, finishes, next, commits) =
        let first = finish_rises mid w finishes in
        let named : group_of (kept_of v) ≡ it.group = ap group_of commits.4.0.kept in
        omega (arith, first, next, named)

  -- ---- the rebuild is there yet

  module _ (passes : owns passes_number ≡ true) (a : S) (m : ℕ) (seen : S) (h : HeldOnce rack area last went shared owns (ReadiesIn rack area false) a m seen) (may : LeftSo m (MayReadyIn rack) (last a)) where
    waits_there : PassesAreThere rack area last went shared owns passes a seen
    waits_there = once_there rack area last went shared owns passes (ReadiesIn rack area false) a m seen h (same_pass h.before.pass h.after.pass (ap (λ (s : Shard R A). s.pass) (h.did.waits refl)))

    pub rebuild_on : (group : ℕ) (b : S) → PassesAreThere rack area last went shared owns passes seen b → m < count → EachIs count (ClosesNext rack group) (last b) → LeftSo m (MayReadyIn rack) (last b)
    rebuild_on group b there below ready =
        let z = ready m below in
        let was = there_then rack area last went shared owns passes a seen b waits_there there m z.0 z.1 in
        let same : may.0 ≡ was.0 = some_same may.0 was.0 (sym may.1 ∙ was.1) in
        (z.0, z.1, record { valid = z.2.valid; rebuild = rebuild_kept was.0.pass z.0.pass was.2 (subst (λ (s : Shard R A). IsSomeAnd s.pass (λ (p : Pass). p.kind ≡ Rebuild)) same may.2.rebuild) })
