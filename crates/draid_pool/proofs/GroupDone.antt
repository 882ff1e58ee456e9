-- A group that the only thread of a pool commits in all metaslabs, or that was stopped.
use Rattle.std.proofs.Common.{◌≡◌, ◌+◌, inl, inr, ℕ, false, None, Some, Ok, Err, length, refl, sym, ap, subst}
use Rattle.std.specs.Prelude.{Result, IsErrOf, OnErr, OnOk}
use Rattle.draid_names.specs.declared.numbers.TheConstants.{LAST_NUMBER}
use Rattle.draid_rack.specs.declared.Rack as racks
use Rattle.draid_area.specs.declared.Area as areas
use Rattle.draid_session.specs.Groups as groups
use Rattle.draid_session.specs.Phases.{Chain}
use Rattle.draid_session.specs.State.{State}
use Rattle.draid_uber.specs.Slots.{group_of}
use Rattle.draid_uber.specs.Uber.{kept_of}
use Rattle.draid_uber.specs.declared.uber.Uber.{Uber}
use Rattle.draid_pool.specs.Carries.{CarriesOut}
use Rattle.draid_pool.specs.Failing.{AreaRose, AreasLater}
use Rattle.draid_pool.specs.Grouping.{CommitsEach, CommitsIn, UberNames}
use Rattle.draid_pool.specs.Keeping.{AllHaveAsked}
use Rattle.draid_pool.specs.Pools.{Represents, group_in}
use Rattle.draid_pool.specs.Syncing.{AreIdle, AreSealed, CommitsBelow, GroupDoes, KeepsShards, Phase, end_of}
use Rattle.draid_pool.specs.Whole.{IsWhole}
use Rattle.draid_pool.specs.declared.fault.SyncFault.{SyncFault}
use Rattle.draid_pool.specs.declared.fault.SyncFault.TheVariants as sync
use Rattle.draid_pool.specs.declared.owned.Owned.{Owned}
use Rattle.draid_pool.specs.declared.pool.Pool.{Pool}
use Rattle.draid_pool.proofs.GroupClosed.{closed_all, left_by, went_by, with_owned}
use Rattle.draid_pool.proofs.GroupSealed.{committed_upto, never_in_the_way, sealed_all}
use Rattle.draid_pool.proofs.Keeping.{all_committed, all_on, all_stay, asked_committed}
use Rattle.draid_pool.proofs.OwnedKnows.{all}
use Rattle.draid_pool.proofs.Refusing.{memory_no_last, memory_no_shelf, no_refusal, shelf_no_last}
use Rattle.draid_pool.proofs.Rises.{areas_committed, areas_named, areas_on, err_on, rose_then}
use Rattle.draid_pool.proofs.SyncCalls.{group_done, group_unclosed, group_unnamed, group_unsealed, named_sealed, refused_failed, refused_starved}
use Rattle.draid_pool.proofs.WholeGroups.{idle_committed, whole_committed, whole_refused}

module _ {R A : Type 0} (rack : racks.Ghosts R) (area : areas.Ghosts A) where
  -- the pool with other metaslabs and another uberblock
  abbrev pub with_both : Pool R A → Owned R A → Uber A → Pool R A
  with_both pool o u = record pool { metaslabs = o; uber = u }

  -- ---- the uberblock names a sealed group, and it is committed in all; or it is refused

  pub record NamedAll (pool new : Pool R A) (group : ℕ) (result : Result Unit SyncFault) : Type 0 where
    pub whole : IsWhole rack area new
    pub later : AreasLater area.faults pool new
    pub stays : KeepsShards rack.faults pool new
    pub cause : IsErrOf result sync.Shelf → AreaRose area.faults pool new
    pub not_last : IsErrOf result sync.Last → ⊥
    pub idle : OnOk result (AreIdle new.metaslabs.shards.items)
    pub versions : OnOk result (AllHaveAsked new)
    pub named : OnOk result (group_in new ≡ group)
    pub unnamed : OnErr result (group_in new ≡ group_in pool)
    pub carries : (x : State) → Represents rack area pool x
        → CarriesOut rack area new x (Phase x (Chain (groups.Names x.geometry x.perms group) (groups.CommitPhase x.geometry x.perms group)) (end_of result))

  module _ (pool : Pool R A) (group : ℕ) (v : Uber A) (w : IsWhole rack area pool) (next : group ≡ group_of (kept_of pool.uber) + 1) (sealed : AreSealed pool.metaslabs.shards.items group) where
    pub named_all : (b : Owned R A) → UberNames area group pool.uber (Ok tt) v → CommitsEach rack area left_by went_by false all group pool.geometry.props.metaslabs pool.metaslabs b → NamedAll pool (with_both pool b v) group (Ok tt)
    named_all b names each =
        let new = with_both pool b v in
        let commits : CommitsBelow rack group (length pool.metaslabs.shards.items) pool.metaslabs.shards.items b.shards.items
        = subst (λ m. CommitsBelow rack group m pool.metaslabs.shards.items b.shards.items) (sym w.many) (committed_upto rack area group pool.geometry.props.metaslabs 0 pool.metaslabs b each) in
        record {
          whole = whole_committed rack area pool new group w names.0 commits next refl refl refl refl;
          later = areas_committed rack area pool new group names.1 commits;
          stays = all_committed rack group pool new commits;
          cause = λ is. absurd (no_refusal is);
          not_last = λ is. no_refusal is;
          idle = idle_committed rack area group pool.metaslabs.shards.items b.shards.items commits;
          versions = asked_committed rack group pool new commits;
          named = ap group_of names.0.kept;
          unnamed = tt;
          carries = λ x is. named_sealed rack area pool new group x is sealed next refl refl refl refl names.0 names.1 commits;
        }

    abbrev refused : Pool R A
    refused = record pool { uber = v }

    pub named_not : (why : SyncFault) → UberNames area group pool.uber (Err why) v → NamedAll pool refused group (Err why)
    named_not sync.Shelf names = record {
      whole = whole_refused rack area pool refused group w names.0 refl refl refl refl refl;
      later = areas_named area.faults pool refused names.1 refl;
      stays = all_stay rack.faults pool refused refl;
      cause = λ is. inl names.2;
      not_last = λ is. shelf_no_last is;
      idle = tt;
      versions = tt;
      named = tt;
      unnamed = ap group_of names.0.kept;
      carries = λ x is. refused_failed rack area pool refused group x is sealed next refl refl refl refl names.0 names.2 refl;
    }
    named_not sync.NoMemory names = record {
      whole = whole_refused rack area pool refused group w names.0 refl refl refl refl refl;
      later = areas_named area.faults pool refused names.1 refl;
      stays = all_stay rack.faults pool refused refl;
      cause = λ is. absurd (memory_no_shelf is);
      not_last = λ is. memory_no_last is;
      idle = tt;
      versions = tt;
      named = tt;
      unnamed = ap group_of names.0.kept;
      carries = λ x is. refused_starved rack area pool refused group x is sealed next refl refl refl refl names.0 names.1 refl;
    }
    named_not sync.Worn names = absurd names
    named_not sync.Last names = absurd names

  -- ---- a group

  pub record GroupDone (pool new : Pool R A) (group : ℕ) (result : Result ℕ SyncFault) : Type 0 where
    pub whole : IsWhole rack area new
    pub later : AreasLater area.faults pool new
    pub stays : KeepsShards rack.faults pool new
    pub cause : IsErrOf result sync.Shelf → AreaRose area.faults pool new
    pub last : IsErrOf result sync.Last → group ≡ LAST_NUMBER
    pub idle : OnOk result (AreIdle new.metaslabs.shards.items)
    pub versions : OnOk result (AllHaveAsked new)
    pub named : OnOk result (group_in new ≡ group)
    pub unnamed : OnErr result (group_in new ≡ group_in pool)
    pub carries : (x : State) → Represents rack area pool x → CarriesOut rack area new x (GroupDoes x group result)

  module _ (pool : Pool R A) (group : ℕ) (w : IsWhole rack area pool) (next : group ≡ group_of (kept_of pool.uber) + 1) where
    abbrev count : ℕ
    count = pool.geometry.props.metaslabs

    pub group_all : (result : Result ℕ SyncFault) (b : Owned R A) (v : Uber A) → CommitsIn rack area left_by went_by false all group count pool.metaslabs pool.uber (Some result) b v → GroupDone pool (with_both pool b v) group result
    group_all (Ok thin) b v (mid, late, closes, seals, names, commits) =
        let p = with_owned pool mid in
        let q = with_owned pool late in
        let new = with_both pool b v in
        let c = closed_all rack area pool group (Ok tt) mid w closes in
        let s = sealed_all rack area p group (Ok thin) late c.whole seals in
        let n = named_all q group v s.whole next s.sealed b names commits in
        record {
          whole = n.whole;
          later = areas_on area.faults pool q new (areas_on area.faults pool p q c.later s.later) n.later;
          stays = all_on rack.faults pool q new (all_on rack.faults pool p q c.stays s.stays) n.stays;
          cause = λ is. absurd (no_refusal is);
          last = λ is. absurd (no_refusal is);
          idle = n.idle;
          versions = n.versions;
          named = n.named;
          unnamed = tt;
          carries = λ x is. group_done rack area p q new x group thin (c.carries x is) s.carries n.carries;
        }
    group_all (Err why) b v (inl (closes, same)) =
        let c = closed_all rack area pool group (Err why) b w closes in
        subst (λ u. GroupDone pool (with_both pool b u) group (Err why)) (sym same) (record {
          whole = c.whole;
          later = c.later;
          stays = c.stays;
          cause = λ is. c.cause (err_on ℕ Unit why sync.Shelf is);
          last = λ is. c.last (err_on ℕ Unit why sync.Last is);
          idle = tt;
          versions = tt;
          named = tt;
          unnamed = refl;
          carries = λ x is. group_unclosed rack area (with_owned pool b) x group why (c.carries x is);
        })
    group_all (Err why) b v (inr (inl (mid, closes, seals, same))) =
        let p = with_owned pool mid in
        let new = with_owned pool b in
        let c = closed_all rack area pool group (Ok tt) mid w closes in
        let s = sealed_all rack area p group (Err why) b c.whole seals in
        subst (λ u. GroupDone pool (with_both pool b u) group (Err why)) (sym same) (record {
          whole = s.whole;
          later = areas_on area.faults pool p new c.later s.later;
          stays = all_on rack.faults pool p new c.stays s.stays;
          cause = λ is. rose_then area.faults pool p new c.later (s.cause is);
          last = λ is. absurd (s.not_last is);
          idle = tt;
          versions = tt;
          named = tt;
          unnamed = refl;
          carries = λ x is. group_unsealed rack area p new x group why (c.carries x is) s.carries;
        })
    group_all (Err why) b v (inr (inr (mid, thin, closes, seals, names))) =
        let p = with_owned pool mid in
        let q = with_owned pool b in
        let new = with_both pool b v in
        let c = closed_all rack area pool group (Ok tt) mid w closes in
        let s = sealed_all rack area p group (Ok thin) b c.whole seals in
        let n = named_not q group v s.whole next s.sealed why names in
        let later = areas_on area.faults pool p q c.later s.later in
        record {
          whole = n.whole;
          later = areas_on area.faults pool q new later n.later;
          stays = all_on rack.faults pool q new (all_on rack.faults pool p q c.stays s.stays) n.stays;
          cause = λ is. rose_then area.faults pool q new later (n.cause (err_on ℕ Unit why sync.Shelf is));
          last = λ is. absurd (n.not_last (err_on ℕ Unit why sync.Last is));
          idle = tt;
          versions = tt;
          named = tt;
          unnamed = n.unnamed;
          carries = λ x is. group_unnamed rack area p q new x group thin why (c.carries x is) s.carries n.carries;
        }

    pub group_waits : (b : Owned R A) (v : Uber A) → CommitsIn rack area left_by went_by false all group count pool.metaslabs pool.uber None b v → ⊥
    group_waits b v (mid, closes, seals, same) = never_in_the_way rack area (with_owned pool mid) group b (closed_all rack area pool group (Ok tt) mid w closes).whole seals
