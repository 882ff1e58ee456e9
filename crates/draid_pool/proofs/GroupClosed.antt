-- A group that the only thread of a pool closes in all metaslabs.
use Rattle.std.proofs.Common.{◌≡◌, ◌+◌, ℕ, zero, suc, false, Option, Some, Ok, Err, arith, refl, sym, subst, slice_set}
use Rattle.std.specs.Prelude.{slice_get, Result, IsErrOf, OnOk}
use Rattle.std.proofs.lemmas.Option.{slice_get_past}
use Rattle.draid_names.specs.declared.numbers.TheConstants.{LAST_NUMBER}
use Rattle.draid_rack.specs.declared.Rack as racks
use Rattle.draid_area.specs.declared.Area as areas
use Rattle.draid_shard.specs.declared.shard.Shard.{Shard}
use Rattle.draid_session.specs.Groups as groups
use Rattle.draid_session.specs.State.{State}
use Rattle.draid_pool.specs.Carries.{CarriesOut}
use Rattle.draid_pool.specs.Failing.{AreaRose, AreasLater}
use Rattle.draid_pool.specs.Grouping.{ClosesEach, ClosesIn, ClosesNext}
use Rattle.draid_pool.specs.Pools.{Represents}
use Rattle.draid_pool.specs.Rounds.{EachIs, HeldEach, HeldOnce, NoneBeyond}
use Rattle.draid_pool.specs.Syncing.{AreClosing, KeepsShards, Phase, end_of}
use Rattle.draid_pool.specs.Whole.{IsWhole}
use Rattle.draid_pool.specs.declared.fault.SyncFault.{SyncFault}
use Rattle.draid_pool.specs.declared.fault.SyncFault.TheVariants as sync
use Rattle.draid_pool.specs.declared.owned.Owned.{Owned}
use Rattle.draid_pool.specs.declared.pool.Pool.{Pool}
use Rattle.draid_uber.specs.Slots.{group_of}
use Rattle.draid_uber.specs.Uber.{kept_of}
use Rattle.draid_pool.proofs.Keeping.{all_set_on, all_stay}
use Rattle.draid_pool.proofs.Lifted.{SetsShard}
use Rattle.draid_pool.proofs.Lists.{present}
use Rattle.draid_pool.proofs.OwnedKnows.{all}
use Rattle.draid_pool.proofs.Refusing.{no_refusal}
use Rattle.draid_pool.proofs.Rises.{areas_on, areas_set, areas_still}
use Rattle.draid_pool.proofs.SyncSteps.{Came, ClosingBelow, below_all, below_set, came_none, close_all_stops, close_all_went, close_more, whole_on}

module _ {R A : Type 0} where
  -- how each was left by a pool's only thread
  abbrev pub left_by : Owned R A → ℕ → Option (Shard R A)
  left_by o m = slice_get o.shards.items m

  abbrev pub went_by : Owned R A → ℕ → Shard R A → Shard R A → Owned R A → Type 0
  went_by o m before after o' = (slice_get o.shards.items m ≡ Some before) × (o'.shards.items ≡ slice_set o.shards.items m after) × (after ≡ before → o' ≡ o)

  abbrev pub with_owned : Pool R A → Owned R A → Pool R A
  with_owned pool o = record pool { metaslabs = o }

pub next_on : (m : ℕ) → m + 1 ≡ suc m
next_on m = omega arith

module _ {R A : Type 0} (rack : racks.Ghosts R) (area : areas.Ghosts A) where
  -- a hold sets one shard of the pool
  pub once_sets : (pool : Pool R A) (does : Shard R A → Shard R A → Type 0) (a : Owned R A) (m : ℕ) (b : Owned R A) → (h : HeldOnce rack area left_by went_by false all does a m b)
      → SetsShard rack area m (with_owned pool a) (with_owned pool b) h.before h.after
  once_sets pool does a m b h = record { there = h.goes.0; sets = h.goes.1; geometry = refl; objects = refl; seq = refl; floor = refl; uber = refl }

  -- each metaslab of a whole pool is so
  pub each_whole : (pool : Pool R A) (is : Shard R A → Type 0) → IsWhole rack area pool → ((m : ℕ) (shard : Shard R A) → slice_get pool.metaslabs.shards.items m ≡ Some shard → is shard) → EachIs pool.geometry.props.metaslabs is (left_by pool.metaslabs)
  each_whole pool is w so m less =
      let many = w.many in
      let z = present pool.metaslabs.shards.items m (omega (arith, less, many)) in
      (z.0, z.1, so m z.0 z.1)

  pub closes_each : (pool : Pool R A) (group : ℕ) → IsWhole rack area pool → group ≡ group_of (kept_of pool.uber) + 1 → EachIs pool.geometry.props.metaslabs (ClosesNext rack group) (left_by pool.metaslabs)
  closes_each pool group w next =
      each_whole pool (ClosesNext rack group) w (λ m shard there. (let is = w.shards m shard there in record { valid = is.valid; next = (let committed = is.committed in omega (arith, committed, next)) }))

  -- it has no more
  pub none_beyond : (pool : Pool R A) → IsWhole rack area pool → NoneBeyond pool.geometry.props.metaslabs (left_by pool.metaslabs)
  none_beyond pool w m from = slice_get_past pool.metaslabs.shards.items m (let many = w.many in omega (arith, many, from))

  -- the first so many metaslabs close it
  pub record ClosingAt (pool now : Pool R A) (group m : ℕ) : Type 0 where
    pub whole : IsWhole rack area now
    pub carries : (x : State) → Represents rack area pool x → Came rack area (groups.Closes x.geometry x.perms group) m 0 now x
    pub closing : ClosingBelow now.metaslabs.shards.items group m
    pub later : AreasLater area.faults pool now
    pub stays : KeepsShards rack.faults pool now

  closing_none : (pool : Pool R A) (group : ℕ) → IsWhole rack area pool → ClosingAt pool pool group 0
  closing_none pool group w = record {
    whole = w;
    carries = λ x is. came_none rack area (groups.Closes x.geometry x.perms group) pool x is;
    closing = λ k shard less. absurd (omega (arith, less));
    later = areas_still area.faults pool;
    stays = all_stay rack.faults pool pool refl;
  }

  closing_on : (group m : ℕ) (pool mid new : Pool R A) (shard after : Shard R A) → ClosingAt pool mid group m → SetsShard rack area m mid new shard after → ClosesIn rack area group shard (Ok tt) after → ClosingAt pool new group (m + 1)
  closing_on group m pool mid new shard after i set e = record {
    whole = whole_on rack area m mid new shard after i.whole set e.valid e.table;
    carries = λ x is. close_more rack area group m mid new shard after x (i.carries x is) set e.closes;
    closing = subst (λ zs. ClosingBelow zs group (m + 1)) (sym set.sets) (below_set (λ (z : Shard R A). z.closing ≡ Some group) mid.metaslabs.shards.items m shard after set.there e.closing i.closing);
    later = areas_on area.faults pool mid new i.later (areas_set rack area m mid new shard after set e.later);
    stays = all_set_on rack area m pool mid new shard after i.stays set e.stays;
  }

  closing_upto : (pool : Pool R A) (group m sum : ℕ) (b : Owned R A) → IsWhole rack area pool → HeldEach rack area left_by went_by false all (λ none x y. ClosesIn rack area group x (Ok tt) y) m pool.metaslabs sum b
      → ClosingAt pool (with_owned pool b) group m
  closing_upto pool group zero sum b w each = subst (λ o. ClosingAt pool (with_owned pool o) group 0) (sym each.0) (closing_none pool group w)
  closing_upto pool group (suc m) sum b w (mid, some, more, each, once, adds) =
      subst (λ k. ClosingAt pool (with_owned pool b) group k) (next_on m)
      (closing_on group m pool (with_owned pool mid) (with_owned pool b) once.before once.after (closing_upto pool group m some mid w each)
      (once_sets pool (λ x y. ClosesIn rack area group x (Ok tt) y) mid m b once) once.did)

  -- it was closed in all, or a metaslab stopped it
  pub record ClosedAll (pool new : Pool R A) (group : ℕ) (result : Result Unit SyncFault) : Type 0 where
    pub whole : IsWhole rack area new
    pub later : AreasLater area.faults pool new
    pub stays : KeepsShards rack.faults pool new
    pub cause : IsErrOf result sync.Shelf → AreaRose area.faults pool new
    pub last : IsErrOf result sync.Last → group ≡ LAST_NUMBER
    pub carries : (x : State) → Represents rack area pool x → CarriesOut rack area new x (Phase x (groups.ClosePhase x.geometry x.perms group) (end_of result))
    pub closing : OnOk result (AreClosing new.metaslabs.shards.items group)

  pub closed_all : (pool : Pool R A) (group : ℕ) (result : Result Unit SyncFault) (b : Owned R A) → IsWhole rack area pool → ClosesEach rack area left_by went_by false all group pool.geometry.props.metaslabs pool.metaslabs result b
      → ClosedAll pool (with_owned pool b) group result
  closed_all pool group (Ok done) b w each =
      let count = pool.geometry.props.metaslabs in
      let i = closing_upto pool group count 0 b w each in
      record {
        whole = i.whole;
        later = i.later;
        stays = i.stays;
        cause = λ is. absurd (no_refusal is);
        last = λ is. absurd (no_refusal is);
        carries = λ x is. close_all_went rack area group count (with_owned pool b) x (i.carries x is) refl;
        closing = below_all (λ (z : Shard R A). z.closing ≡ Some group) b.shards.items count (let many = i.whole.many in omega (arith, many)) i.closing;
      }
  closed_all pool group (Err why) b w s =
      let mid = with_owned pool s.mid in
      let new = with_owned pool b in
      let i = closing_upto pool group s.place s.sum s.mid w s.front in
      let h = s.stop in
      let e = h.did in
      let set = once_sets pool (λ x y. ClosesIn rack area group x (Err why) y) s.mid s.place b h in
      record {
        whole = whole_on rack area s.place mid new h.before h.after i.whole set e.valid e.table;
        later = areas_on area.faults pool mid new i.later (areas_set rack area s.place mid new h.before h.after set e.later);
        stays = all_set_on rack area s.place pool mid new h.before h.after i.stays set e.stays;
        cause = λ is. absurd (e.not_shelf is);
        last = e.last;
        carries = λ x is. close_all_stops rack area group s.place mid new h.before h.after x why (i.carries x is) set s.below e.closes;
        closing = tt;
      }
