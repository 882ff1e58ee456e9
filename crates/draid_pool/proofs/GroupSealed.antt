-- A group that the only thread of a pool seals in all metaslabs, and that is committed in all.
use Rattle.std.proofs.Common.{◌≡◌, ◌+◌, ℕ, zero, suc, true, false, Some, None, Ok, Err, arith, refl, sym, subst}
use Rattle.std.specs.Prelude.{Result, IsErrOf, OnOk}
use Rattle.draid_rack.specs.declared.Rack as racks
use Rattle.draid_area.specs.declared.Area as areas
use Rattle.draid_shard.specs.declared.shard.Shard.{Shard}
use Rattle.draid_shard.proofs.Shown.{state_shown}
use Rattle.draid_session.specs.Groups as groups
use Rattle.draid_session.specs.State.{State}
use Rattle.draid_pool.specs.Carries.{CarriesOut}
use Rattle.draid_pool.specs.Failing.{AreaRose, AreasLater}
use Rattle.draid_pool.specs.Grouping.{SealsBy, SealsEach}
use Rattle.draid_pool.specs.Pools.{Represents}
use Rattle.draid_pool.specs.Rounds.{HeldEach}
use Rattle.draid_pool.specs.Syncing.{AreSealed, Commits, CommitsBelow, KeepsShards, SealDoes}
use Rattle.draid_pool.specs.Whole.{IsWhole}
use Rattle.draid_pool.specs.declared.fault.SyncFault.{SyncFault}
use Rattle.draid_pool.specs.declared.fault.SyncFault.TheVariants as sync
use Rattle.draid_pool.specs.declared.owned.Owned.{Owned}
use Rattle.draid_pool.specs.declared.pool.Pool.{Pool}
use Rattle.draid_pool.proofs.Commits.{below_more}
use Rattle.draid_pool.proofs.GroupClosed.{left_by, next_on, once_sets, went_by, with_owned}
use Rattle.draid_pool.proofs.Keeping.{all_set_on, all_stay}
use Rattle.draid_pool.proofs.Lifted.{SetsShard}
use Rattle.draid_pool.proofs.OwnedKnows.{all}
use Rattle.draid_pool.proofs.Refusing.{no_refusal}
use Rattle.draid_pool.proofs.Rises.{areas_on, areas_set, areas_still, rose_set, rose_then}
use Rattle.draid_pool.proofs.SyncSteps.{Came, SealedBelow, below_all, below_set, came_none, seal_all_stops, seal_all_went, seal_more, whole_on}
use Rattle.draid_pool.proofs.Turns.{no_tickets}

module _ {R A : Type 0} (rack : racks.Ghosts R) (area : areas.Ghosts A) where
  -- the first so many metaslabs seal it
  record SealingAt (pool now : Pool R A) (group m thin : ℕ) : Type 0 where
    pub whole : IsWhole rack area now
    pub carries : (x : State) → Represents rack area pool x → Came rack area (groups.Seals x.geometry x.perms group) m thin now x
    pub sealed : SealedBelow now.metaslabs.shards.items group m
    pub later : AreasLater area.faults pool now
    pub stays : KeepsShards rack.faults pool now

  sealing_none : (pool : Pool R A) (group : ℕ) → IsWhole rack area pool → SealingAt pool pool group 0 0
  sealing_none pool group w = record {
    whole = w;
    carries = λ x is. came_none rack area (groups.Seals x.geometry x.perms group) pool x is;
    sealed = λ k shard less. absurd (omega (arith, less));
    later = areas_still area.faults pool;
    stays = all_stay rack.faults pool pool refl;
  }

  sealing_on : (group m thin more : ℕ) (pool mid new : Pool R A) (shard after : Shard R A) → SealingAt pool mid group m thin → SetsShard rack area m mid new shard after → SealsBy rack area group shard (Ok more) after
      → SealingAt pool new group (m + 1) (thin + more)
  sealing_on group m thin more pool mid new shard after i set e = record {
    whole = whole_on rack area m mid new shard after i.whole set e.valid e.table;
    carries = λ x is. seal_more rack area group m thin more mid new shard after x (i.carries x is) set e.seals;
    sealed = subst (λ zs. SealedBelow zs group (m + 1)) (sym set.sets)
        (below_set (λ (z : Shard R A). (z.closing ≡ Some group) × (z.sealed ≡ true)) mid.metaslabs.shards.items m shard after set.there e.sealed i.sealed);
    later = areas_on area.faults pool mid new i.later (areas_set rack area m mid new shard after set e.later);
    stays = all_set_on rack area m pool mid new shard after i.stays set e.stays;
  }

  sealing_upto : (pool : Pool R A) (group m sum : ℕ) (b : Owned R A) → IsWhole rack area pool → HeldEach rack area left_by went_by false all (λ thin x y. SealsBy rack area group x (Ok thin) y) m pool.metaslabs sum b
      → SealingAt pool (with_owned pool b) group m sum
  sealing_upto pool group zero sum b w each =
      subst (λ k. SealingAt pool (with_owned pool b) group 0 k) (sym each.1) (subst (λ o. SealingAt pool (with_owned pool o) group 0 0) (sym each.0) (sealing_none pool group w))
  sealing_upto pool group (suc m) sum b w (mid, some, more, each, once, adds) =
      subst (λ k. SealingAt pool (with_owned pool b) group (suc m) k) (sym adds)
      (subst (λ k. SealingAt pool (with_owned pool b) group k (some + more)) (next_on m)
      (sealing_on group m some more pool (with_owned pool mid) (with_owned pool b) once.before once.after (sealing_upto pool group m some mid w each)
      (once_sets rack area pool (λ x y. SealsBy rack area group x (Ok more) y) mid m b once) once.did))

  -- it was sealed in all, or a metaslab stopped it
  pub record SealedAll (pool new : Pool R A) (group : ℕ) (result : Result ℕ SyncFault) : Type 0 where
    pub whole : IsWhole rack area new
    pub later : AreasLater area.faults pool new
    pub stays : KeepsShards rack.faults pool new
    pub cause : IsErrOf result sync.Shelf → AreaRose area.faults pool new
    pub not_last : IsErrOf result sync.Last → ⊥
    pub carries : (x : State) → Represents rack area pool x → CarriesOut rack area new x (SealDoes x group result)
    pub sealed : OnOk result (AreSealed new.metaslabs.shards.items group)

  pub sealed_all : (pool : Pool R A) (group : ℕ) (result : Result ℕ SyncFault) (b : Owned R A) → IsWhole rack area pool → SealsEach rack area left_by went_by false all group pool.geometry.props.metaslabs pool.metaslabs (Some result) b
      → SealedAll pool (with_owned pool b) group result
  sealed_all pool group (Ok thin) b w each =
      let count = pool.geometry.props.metaslabs in
      let i = sealing_upto pool group count thin b w each in
      record {
        whole = i.whole;
        later = i.later;
        stays = i.stays;
        cause = λ is. absurd (no_refusal is);
        not_last = λ is. no_refusal is;
        carries = λ x is. seal_all_went rack area group count thin (with_owned pool b) x (i.carries x is) refl;
        sealed = below_all (λ (z : Shard R A). (z.closing ≡ Some group) × (z.sealed ≡ true)) b.shards.items count (let many = i.whole.many in omega (arith, many)) i.sealed;
      }
  sealed_all pool group (Err why) b w s =
      let mid = with_owned pool s.mid in
      let new = with_owned pool b in
      let i = sealing_upto pool group s.place s.sum s.mid w s.front in
      let h = s.stop in
      let e = h.did in
      let set = once_sets rack area pool (λ x y. SealsBy rack area group x (Err why) y) s.mid s.place b h in
      record {
        whole = whole_on rack area s.place mid new h.before h.after i.whole set e.valid e.table;
        later = areas_on area.faults pool mid new i.later (areas_set rack area s.place mid new h.before h.after set e.later);
        stays = all_set_on rack area s.place pool mid new h.before h.after i.stays set e.stays;
        cause = λ is. rose_then area.faults pool mid new i.later (rose_set rack area s.place mid new h.before h.after set (e.cause is));
        not_last = e.not_last;
        carries = λ x is. seal_all_stops rack area group s.place s.sum mid new h.before h.after x why (i.carries x is) set s.below e.seals;
        sealed = tt;
      }

  -- no open writes are in the way of a pool's only thread
  pub never_in_the_way : (pool : Pool R A) (group : ℕ) (b : Owned R A) → IsWhole rack area pool → SealsEach rack area left_by went_by false all group pool.geometry.props.metaslabs pool.metaslabs None b → ⊥
  never_in_the_way pool group b w s =
      let i = sealing_upto pool group s.place s.sum s.mid w s.front in
      let h = s.stop in
      let is = i.whole.shards s.place h.before h.goes.0 in
      let z = state_shown rack h.before is.valid in
      no_tickets rack area h.before z.0 group h.did.tickets z.1 is.settled (h.did.open_ z.0 z.1) h.did.some

  -- the first so many metaslabs committed it
  pub committed_upto : (group m sum : ℕ) (a b : Owned R A) → HeldEach rack area left_by went_by false all (λ none x y. Commits rack group x y) m a sum b → CommitsBelow rack group m a.shards.items b.shards.items
  committed_upto group zero sum a b each =
      subst (λ (o : Owned R A). CommitsBelow rack group 0 a.shards.items o.shards.items) (sym each.0) (record { many = refl; below = λ k shard less there. absurd (omega (arith, less)); others = λ k past. refl })
  committed_upto group (suc m) sum a b (mid, some, more, each, once, adds) =
      subst (λ k. CommitsBelow rack group k a.shards.items b.shards.items) (next_on m)
      (subst (λ zs. CommitsBelow rack group (m + 1) a.shards.items zs) (sym once.goes.1)
      (below_more rack group m a.shards.items mid.shards.items once.before once.after (committed_upto group m some a mid each) once.goes.0 once.did))
