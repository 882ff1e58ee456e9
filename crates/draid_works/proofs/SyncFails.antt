-- Where a sync in a lane says that an area failed, one did in its turn of the uberblock.
use Rattle.std.proofs.Common.{◌≡◌, ◌≤◌, inl, inr, ℕ, zero, suc, Bool, true, false, Option, Some, None, Ok, Err, arith, refl, sym, subst}
use Rattle.std.specs.Prelude.{Result}
use Rattle.draid_rack.specs.declared.Rack as racks
use Rattle.draid_area.specs.declared.Area as areas
use Rattle.draid_shard.specs.declared.shard.Shard.{Shard}
use Rattle.draid_turn.specs.Calls.{Caller, Lock}
use Rattle.draid_turn.specs.declared.past.Past.{Past}
use Rattle.draid_uber.specs.declared.uber.Uber.{Uber}
use Rattle.draid_pool.specs.Failing.{RecordsRose}
use Rattle.draid_pool.specs.GoingOn.{BeginsIn, GoesOnIn}
use Rattle.draid_pool.specs.Grouping.{CommitsIn, FinishesIn, SealsBy}
use Rattle.draid_pool.specs.Rounds.{HeldOnce}
use Rattle.draid_pool.specs.declared.fault.SyncFault.{SyncFault}
use Rattle.draid_pool.specs.declared.fault.SyncFault.TheVariants as sync
use Rattle.draid_pool.specs.declared.fault.Synced.{Synced}
use Rattle.draid_pool.specs.declared.fault.Syncing.{Syncing}
use Rattle.draid_pool.proofs.Takings.{rose_since}
use Rattle.draid_lanes.specs.Governing.{GovernedIn, lane_last}
use Rattle.draid_lanes.specs.Locks.{owned_by}
use Rattle.draid_lanes.specs.Waits.{LaneWent, SyncedIn, SyncsThrough}
use Rattle.draid_lanes.specs.declared.locked.Locked.{Locked}
use Rattle.draid_lanes.specs.declared.uber.UberCell.{UberCell}
use Rattle.draid_lanes.specs.Failing.{AreaFailedIn, AreaFails, HoldsTo, RecordsFail}
use Rattle.draid_works.proofs.LaneStays.{lane_later}
use Rattle.draid_lanes.proofs.OwnGoes.{OwnGoes, own_seals}
use Rattle.draid_lanes.proofs.UberLater.{begin_later, begun_later, own_count, waits_later}
use Rattle.draid_works.proofs.SyncSteps.{begins_goes, begun_goes, closes_goes, finds_goes, finish_goes, rest_goes, round_goes, synced_goes, waits_goes}

module _ {R A S : Type 0} (rack : racks.Ghosts R) (area : areas.Ghosts A) (last : S → ℕ → Option (Shard R A)) (went : S → ℕ → Shard R A → Shard R A → S → Type 0) (shared : Bool) (mine : ℕ → Bool)
    (later : (a : S) (m : ℕ) (x y : Shard R A) (b : S) → went a m x y b → x.committed ≤ y.committed) where
  -- ---- holds on the way

  abbrev pub Reach : S → S → Type 0
  Reach a b = (n : ℕ) × HoldsTo area went n a b

  reach_same : (a : S) → Reach a a
  reach_same a = (0, refl)

  more_to : (n k : ℕ) (a b c : S) → HoldsTo area went n a b → HoldsTo area went k b c → Reach a c
  more_to n zero a b c first at = (n, subst (HoldsTo area went n a) (sym at) first)
  more_to n (suc k) a b c first (mid, m, before, after, front, goes) =
      let z = more_to n k a b mid first front in
      (suc z.0, (mid, m, before, after, z.1, goes))

  pub reach_then : (a b c : S) → Reach a b → Reach b c → Reach a c
  reach_then a b c x y = more_to x.0 y.0 a b c x.1 y.1

  abbrev none_own : ℕ → Bool
  none_own n = false

  hold_to : (does : Shard R A → Shard R A → Type 0) (a : S) (m : ℕ) (b : S) (h : HeldOnce rack area last went shared mine does a m b) → OwnGoes rack area none_own h.before h.after → Reach a b
  hold_to does a m b h own = (1, (a, m, h.before, h.after, refl, h.goes))

  -- it failed behind some holds
  pub fails_behind : (a mid b : S) (u w v : Uber A) → Reach a mid → own_count area u ≤ own_count area w → AreaFails area went mid w b v → AreaFails area went a u b v
  fails_behind a mid b u w v x up (inl r) =
      let z = more_to x.0 r.front a mid r.from x.1 r.first in
      inl (record { front = z.0; from = r.from; first = z.1; metaslab = r.metaslab; before = r.before; after = r.after; next = r.next; held = r.held; rose = r.rose; back = r.back; rest = r.rest })
  fails_behind a mid b u w v x up (inr rose) = inr (rose_since (own_count area u) (own_count area w) (own_count area v) up rose)

  failed_in : (does : Shard R A → Shard R A → Type 0) (a mid : S) (m : ℕ) (b : S) → Reach a mid → (h : HeldOnce rack area last went shared mine does mid m b) → RecordsRose area.faults h.before h.after → RecordsFail area went a b
  failed_in does a mid m b x h rose = record { front = x.0; from = mid; first = x.1; metaslab = m; before = h.before; after = h.after; next = b; held = h.goes; rose = rose; back = 0; rest = refl }

  pub finish_reach : (count : ℕ) (a b : S) (u v : Uber A) (out : Option (Result Unit SyncFault)) → FinishesIn rack area last went shared mine count a u out b v → Reach a b
  finish_reach = finish_goes rack area last went shared mine none_own later Reach reach_same reach_then hold_to

  pub synced_reach : (count : ℕ) (a b : S) (u v : Uber A) (result : Result Synced SyncFault) → SyncsThrough rack area last went shared mine count a u result b v → Reach a b
  synced_reach = synced_goes rack area last went shared mine none_own later Reach reach_same reach_then hold_to

  -- ---- a group

  commit_fails : (group count : ℕ) (a b : S) (u v : Uber A) → CommitsIn rack area last went shared mine group count a u (Some (Err sync.Shelf)) b v → AreaFails area went a u b v
  commit_fails group count a b u v (inl (closes, same)) = absurd (closes.stop.did.not_shelf refl)
  commit_fails group count a b u v (inr (inl (mid, closes, seals, same))) =
      let closed = closes_goes rack area last went shared mine none_own later Reach reach_same reach_then hold_to group count a mid (Ok tt) closes in
      let sealed = round_goes rack area last went shared mine none_own later Reach reach_same reach_then hold_to (λ n x y. SealsBy rack area group x (Ok n) y) (λ n. own_seals rack area none_own group (Ok n)) seals.place seals.sum mid seals.mid seals.front in
      inl (failed_in (λ x y. SealsBy rack area group x (Err sync.Shelf) y) a seals.mid seals.place b (reach_then a mid seals.mid closed sealed) seals.stop (seals.stop.did.cause refl))
  commit_fails group count a b u v (inr (inr (mid, thin, closes, seals, names))) = inr names.2

  pub finish_fails : (count : ℕ) (a b : S) (u v : Uber A) → FinishesIn rack area last went shared mine count a u (Some (Err sync.Shelf)) b v → AreaFails area went a u b v
  finish_fails count a b u v (group, mid, found, commits) =
      fails_behind a mid b u u v (finds_goes rack area last went shared mine none_own later Reach reach_same reach_then hold_to count a mid (Some group) found) (omega arith) (commit_fails group count mid b u v commits)

  begin_fails : (count : ℕ) (a b : S) (u v : Uber A) → BeginsIn rack area last went shared mine count a u (Some (Err sync.Shelf)) b v → AreaFails area went a u b v
  begin_fails count a b u v (inl finishes) = finish_fails count a b u v finishes
  begin_fails count a b u v (inr (mid, finishes, closes)) = absurd (closes.stop.did.not_shelf refl)

  goes_fails : (count : ℕ) (a b : S) (old new : Syncing) (u v : Uber A) → GoesOnIn rack area last went shared mine count a old u (Some (Err sync.Shelf)) b new v → AreaFails area went a u b v
  goes_fails count a b old new u v (inl (seals, same)) =
      inl (failed_in (λ x y. SealsBy rack area old.group x (Err sync.Shelf) y) a seals.mid new.next b (rest_goes rack area last went shared mine none_own later Reach reach_same reach_then hold_to count a seals.mid old new seals.front) seals.stop (seals.stop.did.cause refl))
  goes_fails count a b old new u v (inr (seals, names)) = inr names.2

  -- ---- a sync that waited

  pub synced_fails : (count : ℕ) (a b : S) (u v : Uber A) (result : Result Synced SyncFault) → result ≡ Err sync.Shelf → SyncsThrough rack area last went shared mine count a u result b v → AreaFails area went a u b v
  synced_fails count a b u v result is (inl (mid, begun, w, begins, t)) =
      let first = begins_goes rack area last went shared mine none_own later Reach reach_same reach_then hold_to count a mid u w (Ok begun) begins in
      let more = waits_goes rack area last went shared mine none_own later Reach reach_same reach_then hold_to count t.waits mid t.mid begun t.now w t.w t.front in
      let up = begun_later rack area last went shared mine count begins.waits a begins.mid u begins.w begins.front in
      let on = begin_later rack area last went shared mine count begins.mid mid begins.w w (Some (Ok begun)) begins.begins in
      let high = waits_later rack area last went shared mine count t.waits mid t.mid begun t.now w t.w t.front in
      fails_behind a t.mid b u t.w v (reach_then a mid t.mid first more) (omega (arith, up, on, high))
      (goes_fails count t.mid b t.now t.new t.w v (subst (λ r. GoesOnIn rack area last went shared mine count t.mid t.now t.w (Some r) b t.new v) is t.goes))
  synced_fails count a b u v result is (inr (why, same, t)) =
      fails_behind a t.mid b u t.w v (begun_goes rack area last went shared mine none_own later Reach reach_same reach_then hold_to count t.waits a t.mid u t.w t.front) (begun_later rack area last went shared mine count t.waits a t.mid u t.w t.front)
      (begin_fails count t.mid b t.w v (subst (λ e. BeginsIn rack area last went shared mine count t.mid t.w (Some (Err e)) b v) (why_is why same) t.begins))
    where
      why_is : (e : SyncFault) → result ≡ Err e → e ≡ sync.Shelf
      why_is e one = cc

-- ---- a lane's

-- where it failed in the turn of something that was governed
pub fails_in : {R A G W O : Type 0} (rack : racks.Ghosts R) (area : areas.Ghosts A) (relates : O → Locked R A G W → Uber A → O → Locked R A G W → Uber A → Type 0) (lock : Lock (UberCell R A)) (old new : Locked R A G W) (before after : O) (pass next : Caller (Past (UberCell R A)))
    → (did : GovernedIn rack area relates lock old before new after pass next) → AreaFails area (LaneWent rack area) did.related.met did.value.uber did.related.after did.left.uber → AreaFailedIn rack area lock old new pass next
fails_in rack area relates lock old new before after pass next did fails =
    let r = did.related in
    record {
      log = did.log;
      value = did.value;
      left = did.left;
      stood = did.stood;
      follows = did.follows;
      related = record { met = r.met; after = r.after; same = r.same; meets = r.meets; related = fails; parts = r.parts; turns = r.turns };
      number = λ n is. did.number n is;
      seen = did.seen;
      own = did.own;
      numbers = did.numbers;
      table = did.table;
    }

pub lane_sync_fails : {R A G W : Type 0} (rack : racks.Ghosts R) (area : areas.Ghosts A) (lock : Lock (UberCell R A)) (old new : Locked R A G W) (result : Result Synced SyncFault) (pass next : Caller (Past (UberCell R A)))
    → SyncedIn rack area lock old new result pass next → result ≡ Err sync.Shelf → AreaFailedIn rack area lock old new pass next
lane_sync_fails rack area lock old new result pass next did is =
    fails_in rack area _ lock old new None (Some result) pass next did
    (synced_fails rack area lane_last (LaneWent rack area) true (owned_by did.related.met.passes.items) (lane_later rack area) _ did.related.met did.related.after did.value.uber did.left.uber result is did.related.related)
