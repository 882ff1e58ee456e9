-- A sync that began, and went on to its end, is a sync.
use Rattle.std.proofs.Common.{◌+◌, ◌∙◌, inl, inr, ℕ, Bool, Option, Some, None, Ok, Err, refl, sym, subst}
use Rattle.std.specs.Prelude.{Result}
use Rattle.draid_rack.specs.declared.Rack as racks
use Rattle.draid_area.specs.declared.Area as areas
use Rattle.draid_shard.specs.declared.shard.Shard.{Shard}
use Rattle.draid_uber.specs.Slots.{group_of}
use Rattle.draid_uber.specs.Uber.{kept_of}
use Rattle.draid_uber.specs.declared.uber.Uber.{Uber}
use Rattle.draid_pool.specs.GoingOn.{BeginsIn, GoesOnIn, IsFirst, SealsUntil}
use Rattle.draid_pool.specs.Grouping.{ClosesEach, CommitsEach, CommitsIn, SealsBy, SealsEach, SyncsIn, UberNames, WaitsForWrites}
use Rattle.draid_pool.specs.declared.fault.SyncFault.{SyncFault}
use Rattle.draid_pool.specs.declared.fault.Synced.{Synced}
use Rattle.draid_pool.specs.declared.fault.Syncing.{Syncing}
use Rattle.draid_pool.proofs.GoneOn.{begun_all, begun_until}

-- what is told of its thin blocks
abbrev pub thin_of : Option (Result Synced SyncFault) → Option (Result ℕ SyncFault)
thin_of None = None
thin_of (Some (Ok it)) = Some (Ok it.thin)
thin_of (Some (Err why)) = Some (Err why)

module _ {R A S : Type 0} (rack : racks.Ghosts R) (area : areas.Ghosts A) (last : S → ℕ → Option (Shard R A)) (went : S → ℕ → Shard R A → Shard R A → S → Type 0) (shared : Bool) (owns : ℕ → Bool) (count : ℕ) where
  module _ (group : ℕ) (a mid b : S) (old new : Syncing) (u v : Uber A) (first : IsFirst group old) (closes : ClosesEach rack area last went shared owns group count a (Ok tt) mid) where
    pub commits_of : (out : Option (Result Synced SyncFault)) → GoesOnIn rack area last went shared owns count mid old u out b new v → CommitsIn rack area last went shared owns group count a u (thin_of out) b v
    commits_of (Some (Ok it)) (late, seals, group_is, thin_is, names, commits) = (
      mid,
      late,
      closes,
      subst (λ thin. SealsEach rack area last went shared owns group count mid (Some (Ok thin)) late) (sym thin_is) (begun_all rack area last went shared owns group count mid late old new first.next first.thin first.group_is seals.0 seals.1),
      subst (λ g. UberNames area g u (Ok tt) v) first.group_is names,
      subst (λ g. CommitsEach rack area last went shared owns g count late b) first.group_is commits,
    )
    commits_of (Some (Err why)) (inl (seals, same)) = inr (inl (
      mid,
      closes,
      begun_until rack area last went shared owns group count mid b old new first.next first.thin first.group_is (λ x y. SealsBy rack area group x (Err why) y) (subst (λ g. SealsUntil rack area last went shared owns (λ x y. SealsBy rack area g x (Err why) y) count mid old b new) first.group_is seals),
      same,
    ))
    commits_of (Some (Err why)) (inr (seals, names)) = inr (inr (
      mid,
      new.thin,
      closes,
      begun_all rack area last went shared owns group count mid b old new first.next first.thin first.group_is seals.0 seals.1,
      subst (λ g. UberNames area g u (Err why) v) first.group_is names,
    ))
    commits_of None (seals, same) = (
      mid,
      closes,
      begun_until rack area last went shared owns group count mid b old new first.next first.thin first.group_is (λ x y. WaitsForWrites group x y) (subst (λ g. SealsUntil rack area last went shared owns (λ x y. WaitsForWrites g x y) count mid old b new) first.group_is seals),
      same,
    )

  -- the whole of it
  pub syncs_of : (a mid b : S) (begun new : Syncing) (u w v : Uber A) (out : Option (Result Synced SyncFault)) → BeginsIn rack area last went shared owns count a u (Some (Ok begun)) mid w
      → GoesOnIn rack area last went shared owns count mid begun w out b new v → SyncsIn rack area last went shared owns count a u out b v
  syncs_of a mid b begun new u w v (Some (Ok it)) (early, finishes, first, closes) goes =
      (early, w, finishes, goes.2 ∙ first.group_is, subst (λ g. CommitsIn rack area last went shared owns g count early w (Some (Ok it.thin)) b v) (sym goes.2) (commits_of begun.group early mid b begun new w v (record { group_is = refl; next = first.next; thin = first.thin }) closes (Some (Ok it)) goes))
  syncs_of a mid b begun new u w v (Some (Err why)) (early, finishes, first, closes) goes =
      inr (early, w, begun.group, finishes, first.group_is, commits_of begun.group early mid b begun new w v (record { group_is = refl; next = first.next; thin = first.thin }) closes (Some (Err why)) goes)
  syncs_of a mid b begun new u w v None (early, finishes, first, closes) goes =
      inr (early, w, begun.group, finishes, first.group_is, commits_of begun.group early mid b begun new w v (record { group_is = refl; next = first.next; thin = first.thin }) closes None goes)

  -- one that didn't begin
  pub stopped_of : (a b : S) (u v : Uber A) (why : SyncFault) → BeginsIn rack area last went shared owns count a u (Some (Err why)) b v → SyncsIn rack area last went shared owns count a u (Some (Err why)) b v
  stopped_of a b u v why (inl finishes) = inl finishes
  stopped_of a b u v why (inr (mid, finishes, closes)) = inr (mid, v, group_of (kept_of v) + 1, finishes, refl, inl (closes, refl))
