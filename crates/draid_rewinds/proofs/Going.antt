-- A sync whose group is closed in all metaslabs goes on to its end.
use Rattle.std.proofs.Common.{◌≡◌, ◌≢◌, ◌+◌, inl, inr, ℕ, zero, suc, false, List, [], ◌∷◌, Some, None, Ok, Err, refl, sym, subst}
use Rattle.std.specs.Prelude.{Result, IsErrOf}
use Rattle.draid_rack.specs.declared.Rack as racks
use Rattle.draid_area.specs.declared.Area as areas
use Rattle.draid_spec.specs.declared.layout.Geometry.{Geometry}
use Rattle.draid_perm.specs.declared.perms.Perms.{Perms}
use Rattle.draid_uber.specs.Slots.{group_of}
use Rattle.draid_uber.specs.Uber.{kept_of}
use Rattle.draid_uber.specs.declared.uber.Uber.{Uber}
use Rattle.draid_session.specs.Groups as groups
use Rattle.draid_session.specs.Holds.{AreaFailed, CallStarved, CommitFailed, CommitStarved, Committed, Hold, On, OnUber}
use Rattle.draid_session.specs.Phases.{Broke, Chain, End, Starved, Walk, WasLast, WasWorn, Went}
use Rattle.draid_session.specs.State.{State}
use Rattle.draid_pool.specs.Carries.{CarriesOut}
use Rattle.draid_pool.specs.Failing.{AreaRose, AreasLater}
use Rattle.draid_pool.specs.GoingOn.{GoesOnIn, MayGoOn}
use Rattle.draid_pool.specs.Grouping.{SealsBy, SealsNext, WaitsForWrites}
use Rattle.draid_pool.specs.Pools.{Represents}
use Rattle.draid_pool.specs.Syncing.{AreClosing, Phase, SealDoes, end_of}
use Rattle.draid_pool.specs.Whole.{IsWhole}
use Rattle.draid_pool.specs.declared.fault.SyncFault.{SyncFault}
use Rattle.draid_pool.specs.declared.fault.SyncFault.TheVariants as sync
use Rattle.draid_pool.specs.declared.fault.Synced.{Synced}
use Rattle.draid_pool.specs.declared.fault.Syncing.{Syncing}
use Rattle.draid_pool.specs.declared.owned.Owned.{Owned}
use Rattle.draid_pool.specs.declared.pool.Pool.{Pool}
use Rattle.draid_pool.proofs.GoneOn.{begun_all, begun_until, stands_first}
use Rattle.draid_pool.proofs.GroupClosed.{each_whole, left_by, went_by, with_owned}
use Rattle.draid_pool.proofs.GroupDone.{named_all, named_not, with_both}
use Rattle.draid_pool.proofs.GroupSealed.{never_in_the_way, sealed_all}
use Rattle.draid_pool.proofs.OwnedKnows.{all}
use Rattle.draid_pool.proofs.Refusing.{no_refusal}
use Rattle.draid_pool.proofs.Rises.{areas_on, err_on, rose_then}
use Rattle.draid_pool.proofs.Steps.{carries_so}
use Rattle.draid_pool.proofs.SyncCalls.{then_phase}
use Rattle.draid_pool.proofs.SyncSteps.{not_went}
use Rattle.draid_rewinds.specs.Taking.{GoesOnDoes}

-- ---- ends

pub end_same : (T U : Type 0) (why : SyncFault) → end_of {T = T} (Err why) ≡ end_of {T = U} (Err why)
end_same T U sync.Worn = refl
end_same T U sync.Last = refl
end_same T U sync.Shelf = refl
end_same T U sync.NoMemory = refl

-- a phase behind the closing isn't stopped by a worn metaslab, nor by the last number
pub record IsLate (end : End) : Type 0 where
  pub not_worn : end ≢ WasWorn
  pub not_last : end ≢ WasLast

late_went : IsLate Went
late_went = record { not_worn = λ is. absurd (cc); not_last = λ is. absurd (cc) }

late_broke : IsLate Broke
late_broke = record { not_worn = λ is. absurd (cc); not_last = λ is. absurd (cc) }

late_starved : IsLate Starved
late_starved = record { not_worn = λ is. absurd (cc); not_last = λ is. absurd (cc) }

module _ (geometry : Geometry) (perms : Perms) (group : ℕ) where
  seal_stop_late : (m : ℕ) (hold : Hold) (end : End) → groups.SealStops geometry perms group m hold end → IsLate end
  seal_stop_late m (On v (AreaFailed t)) Broke s = late_broke
  seal_stop_late m (On v CallStarved) Starved s = late_starved
  seal_stop_late m hold end s = absurd s

  seal_walk_late : (m n : ℕ) (holds : List Hold) (end : End) (sum : ℕ) → Walk (groups.Seals geometry perms group) (groups.SealStops geometry perms group) m n holds end sum → IsLate end
  seal_walk_late m zero holds end sum w = subst IsLate (sym w.1) late_went
  seal_walk_late m (suc n) holds end sum (inl (hold, rest, k, more, are, sums, one, next)) = seal_walk_late (m + 1) n rest end more next
  seal_walk_late m (suc n) holds end sum (inr (inl (hold, are, stopped, none, one))) = seal_stop_late m hold end one
  seal_walk_late m (suc n) holds end sum (inr (inr (are, starved, none))) = subst IsLate (sym starved) late_starved

  names_late : (holds : List Hold) (end : End) → groups.Names geometry perms group holds end → IsLate end
  names_late (OnUber u (Committed t) ∷ []) Went n = late_went
  names_late (OnUber u (CommitFailed t) ∷ []) Broke n = late_broke
  names_late (OnUber u (CommitStarved t) ∷ []) Starved n = late_starved
  names_late holds end n = absurd n

  pub behind_late : (thin : ℕ) (holds : List Hold) (end : End) → Chain (groups.SealPhase geometry perms group thin) (Chain (groups.Names geometry perms group) (groups.CommitPhase geometry perms group)) holds end → IsLate end
  behind_late thin holds end (inr (stopped, (sum, w, same))) = seal_walk_late 0 geometry.props.metaslabs holds end sum w
  behind_late thin holds end (inl (front, back, are, seal, inr (stopped, named))) = names_late back end named
  behind_late thin holds end (inl (front, back, are, seal, inl (names, commits, more, named, commit))) = subst IsLate (sym commit.1) late_went

-- ---- the sync

module _ {R A : Type 0} (rack : racks.Ghosts R) (area : areas.Ghosts A) where
  -- what each phase says of the layout
  abbrev Seals : ℕ → ℕ → Geometry → Perms → List Hold → End → Type 0
  Seals group thin geometry perms = groups.SealPhase geometry perms group thin

  abbrev Ends : ℕ → Geometry → Perms → List Hold → End → Type 0
  Ends group geometry perms = Chain (groups.Names geometry perms group) (groups.CommitPhase geometry perms group)

  pub record GoneTo (pool new : Pool R A) (group : ℕ) (result : Result Synced SyncFault) : Type 0 where
    pub whole : IsWhole rack area new
    pub later : AreasLater area.faults pool new
    pub cause : IsErrOf result sync.Shelf → AreaRose area.faults pool new
    pub carries : (x : State) → Represents rack area pool x → CarriesOut rack area new x (GoesOnDoes x group result)

  abbrev begun_of : ℕ → Syncing
  begun_of group = record { group = group; next = 0; thin = 0 }

  module _ (pool : Pool R A) (group : ℕ) (w : IsWhole rack area pool) (next : group ≡ group_of (kept_of pool.uber) + 1) where
    abbrev count : ℕ
    count = pool.geometry.props.metaslabs

    pub going : (result : Result Synced SyncFault) (b : Owned R A) (new : Syncing) (v : Uber A) → GoesOnIn rack area left_by went_by false all count pool.metaslabs (begun_of group) pool.uber (Some result) b new v
        → GoneTo pool (with_both rack area pool b v) group result
    going (Ok it) b new v (late, seals, group_is, thin_is, names, commits) =
        let q = with_owned pool late in
        let last = with_both rack area pool b v in
        let s = sealed_all rack area pool group (Ok new.thin) late w (begun_all rack area left_by went_by false all group count pool.metaslabs late (begun_of group) new refl refl refl seals.0 seals.1) in
        let n = named_all rack area q group v s.whole next s.sealed b names commits in
        record {
          whole = n.whole;
          later = areas_on area.faults pool q last s.later n.later;
          cause = λ is. absurd (no_refusal is);
          carries = λ x r.
              carries_so rack area last x (Phase x (Chain (groups.SealPhase x.geometry x.perms group new.thin) (Ends group x.geometry x.perms)) Went) (GoesOnDoes x group (Ok it))
              (then_phase rack area q last x (Seals group new.thin) (Ends group) Went (s.carries x r) n.carries)
              (λ holds store done. (
                group_is,
                (done.0, subst (λ thin. Chain (groups.SealPhase x.geometry x.perms group thin) (Ends group x.geometry x.perms) holds Went) (sym thin_is) done.1),
              ));
        }
    going (Err why) b new v (inl (seals, same)) =
        let last = with_owned pool b in
        let s = sealed_all rack area pool group (Err why) b w (begun_until rack area left_by went_by false all group count pool.metaslabs b (begun_of group) new refl refl refl (λ x y. SealsBy rack area group x (Err why) y) seals) in
        subst (λ u. GoneTo pool (with_both rack area pool b u) group (Err why)) (sym same) (record {
          whole = s.whole;
          later = s.later;
          cause = λ is. s.cause (err_on Synced ℕ why sync.Shelf is);
          carries = λ x r.
              carries_so rack area last x (SealDoes x group (Err why)) (GoesOnDoes x group (Err why)) (s.carries x r)
              (λ holds store done. (
                done.1.0,
                (done.0, inr (not_went Synced why, subst (groups.SealPhase x.geometry x.perms group done.1.0 holds) (end_same ℕ Synced why) done.1.1)),
              ));
        })
    going (Err why) b new v (inr (seals, names)) =
        let q = with_owned pool b in
        let last = with_both rack area pool b v in
        let s = sealed_all rack area pool group (Ok new.thin) b w (begun_all rack area left_by went_by false all group count pool.metaslabs b (begun_of group) new refl refl refl seals.0 seals.1) in
        let n = named_not rack area q group v s.whole next s.sealed why names in
        record {
          whole = n.whole;
          later = areas_on area.faults pool q last s.later n.later;
          cause = λ is. rose_then area.faults pool q last s.later (n.cause (err_on Synced Unit why sync.Shelf is));
          carries = λ x r.
              carries_so rack area last x (Phase x (Chain (groups.SealPhase x.geometry x.perms group new.thin) (Ends group x.geometry x.perms)) (end_of {T = Unit} (Err why))) (GoesOnDoes x group (Err why))
              (then_phase rack area q last x (Seals group new.thin) (Ends group) (end_of {T = Unit} (Err why)) (s.carries x r) n.carries)
              (λ holds store done. (
                new.thin,
                (done.0, subst (Chain (groups.SealPhase x.geometry x.perms group new.thin) (Ends group x.geometry x.perms) holds) (end_same Unit Synced why) done.1),
              ));
        }

    -- no open write is in the way
    pub going_waits : (b : Owned R A) (new : Syncing) (v : Uber A) → GoesOnIn rack area left_by went_by false all count pool.metaslabs (begun_of group) pool.uber None b new v → ⊥
    going_waits b new v (seals, same) =
        never_in_the_way rack area pool group b w (begun_until rack area left_by went_by false all group count pool.metaslabs b (begun_of group) new refl refl refl (λ x y. WaitsForWrites group x y) seals)

    pub may_go : AreClosing pool.metaslabs.shards.items group → MayGoOn rack count (begun_of group) pool.uber (left_by pool.metaslabs)
    may_go closing = record {
      stands = stands_first rack area count group (begun_of group) (left_by pool.metaslabs) (record { group_is = refl; next = refl; thin = refl })
          (each_whole rack area pool (SealsNext rack group) w (λ m shard there. record { valid = (w.shards m shard there).valid; closing = closing m shard there }));
      next = next;
    }
