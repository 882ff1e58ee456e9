-- A sync by the only thread of a pool: a closing group is finished, and the next one is committed.
use Rattle.std.proofs.Common.{◌≡◌, ◌<◌, ◌≤◌, ◌∙◌, inl, inr, ℕ, zero, suc, false, Option, None, Some, Ok, Err, length, slice_set, arith, refl, sym, ap, subst}
use Rattle.std.specs.Prelude.{Result, IfOk, IsErrOf, OnOk, nat_eq, slice_get}
use Rattle.std.specs.HashMap.{get}
use Rattle.draid_rack.specs.declared.Rack as racks
use Rattle.draid_area.specs.declared.Area as areas
use Rattle.draid_objects.specs.Changes.{write_of}
use Rattle.draid_shard.specs.declared.shard.Shard.{Shard}
use Rattle.draid_session.specs.Groups as groups
use Rattle.draid_session.specs.State.{State}
use Rattle.draid_uber.specs.declared.uber.Uber.{Uber}
use Rattle.draid_pool.specs.Carries.{CarriesOut}
use Rattle.draid_pool.specs.Failing.{AreaRose, AreasLater}
use Rattle.draid_pool.specs.Grouping.{FindsClosing, FinishesIn, SeesClosing, SyncsIn}
use Rattle.draid_pool.specs.Keeping.{AllHaveAsked}
use Rattle.draid_pool.specs.Objects.{PointsTo}
use Rattle.draid_pool.specs.Pools.{Represents, group_in}
use Rattle.draid_pool.specs.Rounds.{HeldEach}
use Rattle.draid_pool.specs.Syncing.{AreIdle, FoundClosing, KeepsShards, Phase, SyncDoes, end_of}
use Rattle.draid_pool.specs.Whole.{IsWhole}
use Rattle.draid_pool.specs.declared.fault.SyncFault.{SyncFault}
use Rattle.draid_pool.specs.declared.fault.SyncFault.TheVariants as sync
use Rattle.draid_pool.specs.declared.fault.Synced.{Synced}
use Rattle.draid_pool.specs.declared.owned.Owned.{Owned}
use Rattle.draid_pool.specs.declared.pool.Pool.{Pool}
use Rattle.draid_pool.proofs.GroupClosed.{left_by, next_on, went_by, with_owned}
use Rattle.draid_pool.proofs.GroupDone.{group_all, group_waits, with_both}
use Rattle.draid_pool.proofs.Keeping.{all_on, all_stay}
use Rattle.draid_pool.proofs.OwnedKnows.{all}
use Rattle.draid_pool.proofs.Refusing.{no_refusal}
use Rattle.draid_pool.proofs.Rises.{areas_named, areas_on, err_on, rose_then}
use Rattle.draid_pool.proofs.SetAgain.{set_again}
use Rattle.draid_pool.proofs.SyncCalls.{finish_stops, finishes_none, finishes_some, sync_done, sync_stops, sync_unfinished}
use Rattle.draid_pool.proofs.SyncSteps.{IdleBelow, below_all, below_more}
use Rattle.draid_pool.proofs.Wholes.{whole_table}
use Rattle.draid_pool.proofs.WholeGroups.{closing_low, closing_next}

module _ {R A : Type 0} (rack : racks.Ghosts R) (area : areas.Ghosts A) where
  -- ---- a pool whose metaslabs were looked at

  module _ (pool : Pool R A) (o : Owned R A) (same : o.shards.items ≡ pool.metaslabs.shards.items) where
    at_same : (m : ℕ) (shard : Shard R A) → slice_get o.shards.items m ≡ Some shard → slice_get pool.metaslabs.shards.items m ≡ Some shard
    at_same m shard there = sym (ap (λ zs. slice_get zs m) same) ∙ there

    pub still_whole : IsWhole rack area pool → IsWhole rack area (with_owned pool o)
    still_whole w = whole_table rack area pool (with_owned pool o) w same refl refl refl refl w.objects w.point

    pub still_stands : (x : State) → Represents rack area pool x → Represents rack area (with_owned pool o) x
    still_stands x r =
        let s = r.stands in
        record {
          stands = record {
            geometry = s.geometry;
            layout = s.layout;
            many = s.many;
            shards = ap (λ zs. length zs) same ∙ s.shards;
            pieces = s.pieces;
            each = λ m shard y there at. s.each m shard y (at_same m shard there) at;
            holds = s.holds;
            groups = s.groups;
            objects = λ object. subst (λ zs. PointsTo zs (get nat_eq pool.own.objects object) (write_of x.store.changes object)) (sym same) (s.objects object);
            seq = s.seq;
            floor = s.floor;
            uber = s.uber;
            images = s.images;
            leaves = s.leaves;
            shared = s.shared;
            versions = s.versions;
            alike = s.alike;
          };
          only = r.only;
        }

    pub still_later : AreasLater area.faults pool (with_owned pool o)
    still_later = areas_named area.faults pool (with_owned pool o) (omega arith) same

    still_kept : KeepsShards rack.faults pool (with_owned pool o)
    still_kept = all_stay rack.faults pool (with_owned pool o) same

  -- the first so many are as they were, and none of them has a closing group
  looked_upto : (m sum : ℕ) (a b : Owned R A) → HeldEach rack area left_by went_by false all (λ none x y. SeesClosing None x y) m a sum b → (b.shards.items ≡ a.shards.items) × IdleBelow a.shards.items m
  looked_upto zero sum a b each = (ap (λ (o : Owned R A). o.shards.items) each.0, (λ k shard less. absurd (omega (arith, less))))
  looked_upto (suc m) sum a b (mid, some, more, each, once, adds) =
      let z = looked_upto m some a mid each in
      let stays : once.after ≡ once.before = once.did.0 in
      let here = sym (ap (λ zs. slice_get zs m) z.0) ∙ once.goes.0 in (
        once.goes.1 ∙ (ap (λ s. slice_set mid.shards.items m s) stays ∙ (set_again mid.shards.items m once.before once.goes.0 ∙ z.0)),
        subst (λ k. IdleBelow a.shards.items k) (next_on m) (below_more (λ (s : Shard R A). s.closing ≡ None) a.shards.items m once.before here once.did.1 z.1),
      )

  -- what was found, and nothing changed
  found_closing : (pool : Pool R A) (w : IsWhole rack area pool) (found : Option ℕ) (b : Owned R A) → FindsClosing rack area left_by went_by false all pool.geometry.props.metaslabs pool.metaslabs found b
      → (b.shards.items ≡ pool.metaslabs.shards.items) × FoundClosing pool.metaslabs.shards.items found
  found_closing pool w None b each =
      let count = pool.geometry.props.metaslabs in
      let z = looked_upto count 0 pool.metaslabs b each in
      (z.0, below_all (λ (s : Shard R A). s.closing ≡ None) pool.metaslabs.shards.items count (let many = w.many in omega (arith, many)) z.1)
  found_closing pool w (Some group) b s =
      let z = looked_upto s.place s.sum pool.metaslabs s.mid s.front in
      let h = s.stop in
      let stays : h.after ≡ h.before = h.did.0 in (
        h.goes.1 ∙ (ap (λ t. slice_set s.mid.shards.items s.place t) stays ∙ (set_again s.mid.shards.items s.place h.before h.goes.0 ∙ z.0)),
        (s.place, h.before, sym (ap (λ zs. slice_get zs s.place) z.0) ∙ h.goes.0, h.did.1),
      )

  -- ---- a closing group is finished

  pub record FinishDone (pool new : Pool R A) (result : Result Unit SyncFault) : Type 0 where
    pub whole : IsWhole rack area new
    pub later : AreasLater area.faults pool new
    pub stays : KeepsShards rack.faults pool new
    pub grows : group_in pool ≤ group_in new
    pub cause : IsErrOf result sync.Shelf → AreaRose area.faults pool new
    pub not_last : IsErrOf result sync.Last → ⊥
    pub idle : OnOk result (AreIdle new.metaslabs.shards.items)
    pub carries : (x : State) → Represents rack area pool x → CarriesOut rack area new x (Phase x (groups.Finishes x.geometry x.perms) (end_of result))

  module _ (pool : Pool R A) (w : IsWhole rack area pool) where
    abbrev count : ℕ
    count = pool.geometry.props.metaslabs

    pub finish_all : (result : Result Unit SyncFault) (b : Owned R A) (v : Uber A) → FinishesIn rack area left_by went_by false all count pool.metaslabs pool.uber (Some result) b v → FinishDone pool (with_both rack area pool b v) result
    finish_all (Ok done) b v (inl (found, uber)) =
        let z = found_closing pool w None b found in
        subst (λ u. FinishDone pool (with_both rack area pool b u) (Ok done)) (sym uber) (record {
          whole = still_whole pool b z.0 w;
          later = still_later pool b z.0;
          stays = still_kept pool b z.0;
          grows = omega arith;
          cause = λ is. absurd (no_refusal is);
          not_last = λ is. no_refusal is;
          idle = subst (λ zs. AreIdle zs) (sym z.0) z.1;
          carries = λ x is. (let c = finishes_none rack area pool x is z.1 in
              record { holds = c.holds; reached = c.reached; store = c.store; follows = c.follows; done = c.done; represents = still_stands pool b z.0 (record c.reached { store = c.store }) c.represents });
        })
    finish_all (Ok done) b v (inr (group, thin, mid, found, commits)) =
        let z = found_closing pool w (Some group) mid found in
        let p = with_owned pool mid in
        let new = with_both rack area pool b v in
        let next = closing_next rack area pool z.1.0 group z.1.1 w z.1.2 z.1.3 in
        let d = group_all rack area p group (still_whole pool mid z.0 w) next (Ok thin) b v commits in
        record {
          whole = d.whole;
          later = areas_on area.faults pool p new (still_later pool mid z.0) d.later;
          stays = all_on rack.faults pool p new (still_kept pool mid z.0) d.stays;
          grows = (let named = d.named in omega (arith, next, named));
          cause = λ is. absurd (no_refusal is);
          not_last = λ is. no_refusal is;
          idle = d.idle;
          carries = λ x is. finishes_some rack area pool new x group thin is z.1 (d.carries x (still_stands pool mid z.0 x is));
        }
    finish_all (Err why) b v (group, mid, found, commits) =
        let z = found_closing pool w (Some group) mid found in
        let p = with_owned pool mid in
        let new = with_both rack area pool b v in
        let next = closing_next rack area pool z.1.0 group z.1.1 w z.1.2 z.1.3 in
        let d = group_all rack area p group (still_whole pool mid z.0 w) next (Err why) b v commits in
        record {
          whole = d.whole;
          later = areas_on area.faults pool p new (still_later pool mid z.0) d.later;
          stays = all_on rack.faults pool p new (still_kept pool mid z.0) d.stays;
          grows = (let same = d.unnamed in omega (arith, same));
          cause = λ is. rose_then area.faults pool p new (still_later pool mid z.0) (d.cause (err_on Unit ℕ why sync.Shelf is));
          not_last = λ is. closing_low rack area pool z.1.0 group z.1.1 w z.1.2 z.1.3 (d.last (err_on Unit ℕ why sync.Last is));
          idle = tt;
          carries = λ x is. finish_stops rack area pool new x group why is z.1 (d.carries x (still_stands pool mid z.0 x is));
        }

    pub finish_waits : (b : Owned R A) (v : Uber A) → FinishesIn rack area left_by went_by false all count pool.metaslabs pool.uber None b v → ⊥
    finish_waits b v (group, mid, found, commits) =
        let z = found_closing pool w (Some group) mid found in
        group_waits rack area (with_owned pool mid) group (still_whole pool mid z.0 w) (closing_next rack area pool z.1.0 group z.1.1 w z.1.2 z.1.3) b v commits

  -- ---- and the next one is committed

  pub record SyncDone (pool new : Pool R A) (result : Result Synced SyncFault) : Type 0 where
    pub whole : IsWhole rack area new
    pub later : AreasLater area.faults pool new
    pub stays : KeepsShards rack.faults pool new
    pub versions : OnOk result (AllHaveAsked new)
    pub rises : OnOk result (group_in pool < group_in new)
    pub names : IfOk result (λ (it : Synced). it.group ≡ group_in new)
    pub idle : OnOk result (AreIdle new.metaslabs.shards.items)
    pub cause : IsErrOf result sync.Shelf → AreaRose area.faults pool new
    pub carries : (x : State) → Represents rack area pool x → CarriesOut rack area new x (SyncDoes x result)

  module _ (pool : Pool R A) (w : IsWhole rack area pool) where
    pub sync_all : (result : Result Synced SyncFault) (b : Owned R A) (v : Uber A) → SyncsIn rack area left_by went_by false all pool.geometry.props.metaslabs pool.metaslabs pool.uber (Some result) b v
        → SyncDone pool (with_both rack area pool b v) result
    sync_all (Ok it) b v (mid, u, finishes, next, commits) =
        let p = with_both rack area pool mid u in
        let new = with_both rack area pool b v in
        let f = finish_all pool w (Ok tt) mid u finishes in
        let d = group_all rack area p it.group f.whole next (Ok it.thin) b v commits in
        record {
          whole = d.whole;
          later = areas_on area.faults pool p new f.later d.later;
          stays = all_on rack.faults pool p new f.stays d.stays;
          versions = d.versions;
          rises = (let grows = f.grows in let named = d.named in omega (arith, grows, named, next));
          names = sym d.named;
          idle = d.idle;
          cause = λ is. absurd (no_refusal is);
          carries = λ x is. sync_done rack area p new x it.group it.thin (f.carries x is) next d.carries;
        }
    sync_all (Err why) b v (inl finishes) =
        let f = finish_all pool w (Err why) b v finishes in
        record {
          whole = f.whole;
          later = f.later;
          stays = f.stays;
          versions = tt;
          rises = tt;
          names = tt;
          idle = tt;
          cause = λ is. f.cause (err_on Synced Unit why sync.Shelf is);
          carries = λ x is. sync_unfinished rack area (with_both rack area pool b v) x why (f.carries x is);
        }
    sync_all (Err why) b v (inr (mid, u, group, finishes, next, commits)) =
        let p = with_both rack area pool mid u in
        let new = with_both rack area pool b v in
        let f = finish_all pool w (Ok tt) mid u finishes in
        let d = group_all rack area p group f.whole next (Err why) b v commits in
        record {
          whole = d.whole;
          later = areas_on area.faults pool p new f.later d.later;
          stays = all_on rack.faults pool p new f.stays d.stays;
          versions = tt;
          rises = tt;
          names = tt;
          idle = tt;
          cause = λ is. rose_then area.faults pool p new f.later (d.cause (err_on Synced ℕ why sync.Shelf is));
          carries = λ x is. sync_stops rack area p new x group why (f.carries x is) next d.carries;
        }

    pub sync_waits : (b : Owned R A) (v : Uber A) → SyncsIn rack area left_by went_by false all pool.geometry.props.metaslabs pool.metaslabs pool.uber None b v → ⊥
    sync_waits b v (inl finishes) = finish_waits pool w b v finishes
    sync_waits b v (inr (mid, u, group, finishes, next, commits)) = group_waits rack area (with_both rack area pool mid u) group (finish_all pool w (Ok tt) mid u finishes).whole next b v commits
