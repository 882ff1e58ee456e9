-- The passes that the only thread of a pool cancels.
use Rattle.std.proofs.Common.{◌+◌, ℕ, zero, suc, false, arith, refl, sym, subst}
use Rattle.draid_rack.specs.declared.Rack as racks
use Rattle.draid_area.specs.declared.Area as areas
use Rattle.draid_shard.specs.declared.shard.Shard.{Shard}
use Rattle.draid_session.specs.Passes as passes
use Rattle.draid_session.specs.State.{State}
use Rattle.draid_pool.specs.Carries.{CarriesOut}
use Rattle.draid_pool.specs.Failing.{AreasLater}
use Rattle.draid_pool.specs.Pools.{Represents}
use Rattle.draid_pool.specs.Whole.{IsWhole}
use Rattle.draid_pool.specs.declared.owned.Owned.{Owned}
use Rattle.draid_pool.specs.declared.pool.Pool.{Pool}
use Rattle.draid_pool.proofs.GroupClosed.{left_by, next_on, once_sets, went_by, with_owned}
use Rattle.draid_pool.proofs.Lifted.{SetsShard}
use Rattle.draid_pool.proofs.OwnedKnows.{all}
use Rattle.draid_pool.proofs.Rises.{areas_on, areas_set, areas_still, records_same}
use Rattle.draid_pool.proofs.SyncSteps.{Came, came_none}
use Rattle.draid_visits.specs.Cancelling.{CancelDoes, CancelsEach, CancelsIn}
use Rattle.draid_visits.specs.Visiting.{NoPasses}
use Rattle.draid_visits.proofs.Cancelled.{EndedBelow, all_cancelled, all_ended, cancel_more, ended_more}
use Rattle.draid_visits.proofs.SharedWhole.{whole_shared}
use Rattle.draid_visits.proofs.Tables.{shares_by}

module _ {R A : Type 0} (rack : racks.Ghosts R) (area : areas.Ghosts A) where
  -- the first so many metaslabs have no pass
  record CancelledAt (pool now : Pool R A) (m sum : ℕ) : Type 0 where
    pub whole : IsWhole rack area now
    pub carries : (x : State) → Represents rack area pool x → Came rack area (passes.CancelsAt x.geometry x.perms) m sum now x
    pub below : EndedBelow now.metaslabs.shards.items m
    pub later : AreasLater area.faults pool now

  cancelled_none : (pool : Pool R A) → IsWhole rack area pool → CancelledAt pool pool 0 0
  cancelled_none pool w = record {
    whole = w;
    carries = λ x is. came_none rack area (passes.CancelsAt x.geometry x.perms) pool x is;
    below = λ k shard less. absurd (omega (arith, less));
    later = areas_still area.faults pool;
  }

  cancelled_on : (m sum ended : ℕ) (pool mid new : Pool R A) (shard after : Shard R A) → CancelledAt pool mid m sum → SetsShard rack area m mid new shard after → CancelsIn rack area shard ended after
      → CancelledAt pool new (m + 1) (sum + ended)
  cancelled_on m sum ended pool mid new shard after i set e = record {
    whole = whole_shared rack area m mid new shard after i.whole set e.valid (shares_by shard after e.part e.blocks e.groups);
    carries = λ x is. cancel_more rack area m sum ended mid new shard after x (i.carries x is) set e.turns;
    below = subst (λ zs. EndedBelow zs (m + 1)) (sym set.sets) (ended_more mid.metaslabs.shards.items m shard after set.there e.none i.below);
    later = areas_on area.faults pool mid new i.later (areas_set rack area m mid new shard after set (records_same area.faults shard after e.areas_are));
  }

  cancelled_upto : (pool : Pool R A) (m sum : ℕ) (b : Owned R A) → IsWhole rack area pool → CancelsEach rack area left_by went_by false all m pool.metaslabs sum b → CancelledAt pool (with_owned pool b) m sum
  cancelled_upto pool zero sum b w each = subst (λ n. CancelledAt pool (with_owned pool b) 0 n) (sym each.1) (subst (λ o. CancelledAt pool (with_owned pool o) 0 0) (sym each.0) (cancelled_none pool w))
  cancelled_upto pool (suc m) sum b w (mid, some, more, each, once, adds) =
      subst (λ n. CancelledAt pool (with_owned pool b) (suc m) n) (sym adds)
      (subst (λ k. CancelledAt pool (with_owned pool b) k (some + more)) (next_on m)
      (cancelled_on m some more pool (with_owned pool mid) (with_owned pool b) once.before once.after (cancelled_upto pool m some mid w each)
      (once_sets rack area pool (λ x y. CancelsIn rack area x more y) mid m b once) once.did))

  -- all of them
  pub record CancelDone (pool new : Pool R A) (ended : ℕ) : Type 0 where
    pub whole : IsWhole rack area new
    pub later : AreasLater area.faults pool new
    pub carries : (x : State) → Represents rack area pool x → CarriesOut rack area new x (CancelDoes x ended)
    pub none : NoPasses new

  pub cancel_all : (pool : Pool R A) (ended : ℕ) (b : Owned R A) → IsWhole rack area pool → CancelsEach rack area left_by went_by false all pool.geometry.props.metaslabs pool.metaslabs ended b → CancelDone pool (with_owned pool b) ended
  cancel_all pool ended b w each =
      let count = pool.geometry.props.metaslabs in
      let i = cancelled_upto pool count ended b w each in
      record {
        whole = i.whole;
        later = i.later;
        carries = λ x is. all_cancelled rack area count ended (with_owned pool b) x (i.carries x is) refl;
        none = all_ended (with_owned pool b) count (let many = i.whole.many in omega (arith, many)) i.below;
      }
