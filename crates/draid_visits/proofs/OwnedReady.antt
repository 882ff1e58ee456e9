-- A rebuild that the only thread of a pool makes run.
use Rattle.std.proofs.Common.{◌≡◌, ◌∙◌, ℕ, zero, suc, Bool, true, false, Option, Some, None, Ok, Err, length, ap, refl, subst, sym}
use Rattle.std.specs.Prelude.{IsErrOf, IsSomeAnd, OnOk, Result}
use Rattle.std.proofs.lemmas.List.{length-set}
use Rattle.draid_names.specs.declared.pass_kind.PassKind.TheVariants.{Rebuild}
use Rattle.draid_rack.specs.declared.Rack as racks
use Rattle.draid_area.specs.declared.Area as areas
use Rattle.draid_pass.specs.declared.pass.Pass.{Pass}
use Rattle.draid_shard.specs.declared.shard.Shard.{Shard}
use Rattle.draid_session.specs.Passes as passes
use Rattle.draid_session.specs.State.{State}
use Rattle.draid_uber.specs.declared.uber.Uber.{Uber}
use Rattle.draid_pool.specs.Carries.{CarriesOut}
use Rattle.draid_pool.specs.Failing.{AreaRose, AreasLater}
use Rattle.draid_pool.specs.Grouping.{SyncsIn}
use Rattle.draid_pool.specs.Pools.{Represents}
use Rattle.draid_pool.specs.Rounds.{HeldOnce}
use Rattle.draid_pool.specs.Syncing.{Phase, end_of}
use Rattle.draid_pool.specs.Whole.{IsWhole}
use Rattle.draid_pool.specs.declared.fault.SyncFault.{SyncFault}
use Rattle.draid_pool.specs.declared.fault.SyncFault.TheVariants as sync
use Rattle.draid_pool.specs.declared.fault.Synced.{Synced}
use Rattle.draid_pool.specs.declared.owned.Owned.{Owned}
use Rattle.draid_pool.specs.declared.pool.Pool.{Pool}
use Rattle.draid_pool.proofs.GroupClosed.{left_by, once_sets, went_by}
use Rattle.draid_pool.proofs.GroupDone.{with_both}
use Rattle.draid_pool.proofs.Keeping.{passes_by}
use Rattle.draid_pool.proofs.Lifted.{SetsShard}
use Rattle.draid_pool.proofs.OwnedKnows.{all}
use Rattle.draid_pool.proofs.Rises.{areas_on, areas_set, areas_still, err_on, records_same, rose_then}
use Rattle.draid_pool.proofs.SyncDone.{SyncDone, sync_all, sync_waits}
use Rattle.draid_visits.specs.Readies.{ReadiesBy, ReadiesIn, Waited}
use Rattle.draid_visits.specs.Steps.{IsRunningOf, ReadyIs}
use Rattle.draid_visits.specs.Visiting.{IsAt, KeepsOthers}
use Rattle.draid_visits.proofs.Kept.{at_set, at_synced, others_on, others_same, others_set, others_synced}
use Rattle.draid_visits.proofs.Leading.{leads_none, steps_in}
use Rattle.draid_visits.proofs.SharedWhole.{whole_shared}
use Rattle.draid_visits.proofs.Tables.{shares_by}
use Rattle.draid_visits.proofs.Waiting.{Behind, Readying, Waiting, it_runs, it_stops, it_syncs, it_waits}

-- a sync of so many metaslabs by it
abbrev pub syncs_alone : {R A : Type 0} → racks.Ghosts R → areas.Ghosts A → ℕ → Owned R A → Uber A → Option (Result Synced SyncFault) → Owned R A → Uber A → Type 0
syncs_alone rack area count a u out b v = SyncsIn rack area left_by went_by false all count a u out b v

module _ {R A : Type 0} (rack : racks.Ghosts R) (area : areas.Ghosts A) (m : ℕ) (pool : Pool R A) where
  abbrev HasRebuild : Shard R A → Type 0
  HasRebuild shard = IsSomeAnd shard.pass (λ (p : Pass). p.kind ≡ Rebuild)

  abbrev with_it : Owned R A → Uber A → Pool R A
  with_it o u = with_both rack area pool o u

  -- it waits there, and groups were committed
  record WaitedAt (now : Pool R A) : Type 0 where
    pub whole : IsWhole rack area now
    pub many : length now.metaslabs.shards.items ≡ length pool.metaslabs.shards.items
    pub rebuild : IsAt now m HasRebuild
    pub later : AreasLater area.faults pool now
    pub others : KeepsOthers m pool now
    pub carries : (x : State) → Represents rack area pool x → Waiting rack area m now x

  waited_none : IsWhole rack area pool → IsAt pool m HasRebuild → WaitedAt pool
  waited_none w rebuild = record {
    whole = w;
    many = refl;
    rebuild = rebuild;
    later = areas_still area.faults pool;
    others = others_same m pool;
    carries = λ x is. leads_none rack area (Readying x.geometry x.perms m) pool x is;
  }

  -- a hold leaves the others
  module _ (runs : Bool) (mid seen : Owned R A) (u : Uber A) (i : WaitedAt (with_it mid u)) (h : HeldOnce rack area left_by went_by false all (ReadiesIn rack area runs) mid m seen) where
    set : SetsShard rack area m (with_it mid u) (with_it seen u) h.before h.after
    set = once_sets rack area (with_it mid u) (ReadiesIn rack area runs) mid m seen h

    held_whole : IsWhole rack area (with_it seen u)
    held_whole =
        let e = h.did in
        whole_shared rack area m (with_it mid u) (with_it seen u) h.before h.after i.whole set e.valid (shares_by h.before h.after e.part e.blocks e.groups)

    held_later : AreasLater area.faults pool (with_it seen u)
    held_later = areas_on area.faults pool (with_it mid u) (with_it seen u) i.later (areas_set rack area m (with_it mid u) (with_it seen u) h.before h.after set (records_same area.faults h.before h.after h.did.areas_are))

    held_others : KeepsOthers m pool (with_it seen u)
    held_others = others_on m pool (with_it mid u) (with_it seen u) i.many i.others (others_set rack area m (with_it mid u) (with_it seen u) h.before h.after set)

    held_many : length seen.shards.items ≡ length pool.metaslabs.shards.items
    held_many = ap length set.sets ∙ (length-set mid.shards.items m h.after ∙ i.many)

  -- it had to wait
  module _ (mid seen : Owned R A) (u : Uber A) (i : WaitedAt (with_it mid u)) (h : HeldOnce rack area left_by went_by false all (ReadiesIn rack area false) mid m seen) where
    there : SetsShard rack area m (with_it mid u) (with_it seen u) h.before h.after
    there = set false mid seen u i h

    waits_rebuild : IsAt (with_it seen u) m HasRebuild
    waits_rebuild = at_set rack area HasRebuild m (with_it mid u) (with_it seen u) h.before h.after there (subst HasRebuild (sym (h.did.waits refl)) (i.rebuild h.before there.there))

    waits_carries : (x : State) → Represents rack area pool x → Behind rack area m (with_it seen u) x
    waits_carries x is = it_waits rack area m (with_it mid u) (with_it seen u) x (i.carries x is)
        (steps_in rack area m (with_it mid u) (with_it seen u) h.before h.after (λ part holds. ReadyIs part false holds) there (λ part pieces y own has. h.did.goes part pieces y own))

  waited_upto : IsWhole rack area pool → IsAt pool m HasRebuild → (n : ℕ) (b : Owned R A) (v : Uber A) → Waited rack area left_by went_by false all (syncs_alone rack area pool.geometry.props.metaslabs) m n pool.metaslabs pool.uber b v → WaitedAt (with_it b v)
  waited_upto w rebuild zero b v waited = subst (λ u. WaitedAt (with_it b u)) (sym waited.1) (subst (λ o. WaitedAt (with_it o pool.uber)) (sym waited.0) (waited_none w rebuild))
  waited_upto w rebuild (suc n) b v (mid, u, seen, it, waited, once, syncs) =
      let i = waited_upto w rebuild n mid u waited in
      let q = with_it seen u in
      let new = with_it b v in
      let d : SyncDone rack area q new (Ok it) = sync_all rack area q (held_whole false mid seen u i once) (Ok it) b v syncs in
      let kept = passes_by rack.faults q new d.stays in
      let many = held_many false mid seen u i once in
      record {
        whole = d.whole;
        many = d.stays.many ∙ many;
        rebuild = at_synced m q new kept (waits_rebuild mid seen u i once);
        later = areas_on area.faults pool q new (held_later false mid seen u i once) d.later;
        others = others_on m pool q new many (held_others false mid seen u i once) (others_synced m q new kept);
        carries = λ x is. it_syncs rack area m q new x it (waits_carries mid seen u i once x is) d.carries;
      }

  -- it runs, or why not
  pub record ReadyDone (new : Pool R A) (result : Result Unit SyncFault) : Type 0 where
    pub whole : IsWhole rack area new
    pub later : AreasLater area.faults pool new
    pub cause : IsErrOf result sync.Shelf → AreaRose area.faults pool new
    pub others : KeepsOthers m pool new
    pub running : OnOk result (IsAt new m (λ shard. IsSomeAnd shard.pass (IsRunningOf Rebuild)))
    pub carries : (x : State) → Represents rack area pool x → CarriesOut rack area new x (Phase x (passes.ReadyPhase x.geometry x.perms Rebuild m) (end_of result))

  pub ready_done : IsWhole rack area pool → IsAt pool m HasRebuild → (result : Result Unit SyncFault) (b : Owned R A) (v : Uber A)
      → ReadiesBy rack area left_by went_by false all (syncs_alone rack area pool.geometry.props.metaslabs) m pool.metaslabs pool.uber (Some result) b v → ReadyDone (with_it b v) result
  ready_done w rebuild (Ok done) b v (n, mid, waited, once) =
      let i = waited_upto w rebuild n mid v waited in
      let s = set true mid b v i once in
      record {
        whole = held_whole true mid b v i once;
        later = held_later true mid b v i once;
        cause = λ is. absurd (cc is);
        others = held_others true mid b v i once;
        running = at_set rack area (λ z. IsSomeAnd z.pass (IsRunningOf Rebuild)) m (with_it mid v) (with_it b v) once.before once.after s (once.did.running refl);
        carries = λ x is. it_runs rack area m (with_it mid v) (with_it b v) x (i.carries x is)
            (steps_in rack area m (with_it mid v) (with_it b v) once.before once.after (λ part holds. ReadyIs part true holds) s (λ part pieces y own has. once.did.goes part pieces y own));
      }
  ready_done w rebuild (Err why) b v (n, mid, u, seen, waited, once, syncs) =
      let i = waited_upto w rebuild n mid u waited in
      let q = with_it seen u in
      let new = with_it b v in
      let d : SyncDone rack area q new (Err why) = sync_all rack area q (held_whole false mid seen u i once) (Err why) b v syncs in
      let kept = passes_by rack.faults q new d.stays in
      let later = held_later false mid seen u i once in
      record {
        whole = d.whole;
        later = areas_on area.faults pool q new later d.later;
        cause = λ is. rose_then area.faults pool q new later (d.cause (err_on Unit Synced why sync.Shelf is));
        others = others_on m pool q new (held_many false mid seen u i once) (held_others false mid seen u i once) (others_synced m q new kept);
        running = tt;
        carries = λ x is. it_stops rack area m q new x why (waits_carries mid seen u i once x is) d.carries;
      }

  pub ready_waits : IsWhole rack area pool → IsAt pool m HasRebuild → (b : Owned R A) (v : Uber A) → ReadiesBy rack area left_by went_by false all (syncs_alone rack area pool.geometry.props.metaslabs) m pool.metaslabs pool.uber None b v → ⊥
  ready_waits w rebuild b v (n, mid, u, seen, waited, once, syncs) =
      sync_waits rack area (with_it seen u) (held_whole false mid seen u (waited_upto w rebuild n mid u waited) once) b v syncs
