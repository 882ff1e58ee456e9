-- The visit of a metaslab begins, by the only thread of a pool.
use Rattle.std.proofs.Common.{◌≡◌, ◌≤◌, ◌∙◌, ℕ, false, List, None, subst, sym}
use Rattle.std.specs.Prelude.{IsSomeAnd, Result, Ok, Err, slice_get}
use Rattle.draid_names.specs.declared.pass_kind.PassKind.{PassKind}
use Rattle.draid_rack.specs.declared.Rack as racks
use Rattle.draid_area.specs.declared.Area as areas
use Rattle.draid_spec.specs.Geometry.{metaslab_stripes}
use Rattle.draid_spec.specs.declared.layout.Geometry.{Geometry}
use Rattle.draid_perm.specs.declared.perms.Perms.{Perms}
use Rattle.draid_pass.specs.declared.pass.Pass.{Pass}
use Rattle.draid_shard.specs.declared.shard.Shard.{Shard}
use Rattle.draid_passing.specs.declared.fault.PlanFault.{PlanFault}
use Rattle.draid_passing.specs.declared.fault.PlanFault.TheVariants as plan
use Rattle.draid_session.specs.Holds.{Hold}
use Rattle.draid_session.specs.Passes as passes
use Rattle.draid_session.specs.Phases.{Went}
use Rattle.draid_session.specs.State.{State}
use Rattle.draid_pool.specs.Carries.{CarriesOut}
use Rattle.draid_pool.specs.Failing.{AreasLater}
use Rattle.draid_pool.specs.Pools.{Represents}
use Rattle.draid_pool.specs.Syncing.{AreIdle}
use Rattle.draid_pool.specs.Whole.{IsWhole}
use Rattle.draid_pool.specs.declared.fault.SyncFault.{SyncFault}
use Rattle.draid_pool.specs.declared.fault.SyncFault.TheVariants as sync
use Rattle.draid_pool.specs.declared.owned.Owned.{Owned}
use Rattle.draid_pool.specs.declared.pool.Pool.{Pool}
use Rattle.draid_pool.proofs.GroupClosed.{left_by, once_sets, went_by, with_owned}
use Rattle.draid_pool.proofs.Lifted.{SetsShard}
use Rattle.draid_pool.proofs.Lists.{some_of}
use Rattle.draid_pool.proofs.OwnedKnows.{all}
use Rattle.draid_pool.proofs.Rises.{areas_set, records_same}
use Rattle.draid_pool.proofs.Wholes.{whole_geometry}
use Rattle.draid_visits.specs.Starts.{BeginsBy, IsBegun, StartsIn}
use Rattle.draid_visits.specs.Steps.{IsRebuiltIn, StartIs}
use Rattle.draid_visits.specs.Visiting.{BeginIs, BeginsAt, KeepsOthers, end_by}
use Rattle.draid_visits.specs.declared.starting.Begun.{Begun}
use Rattle.draid_visits.specs.declared.starting.Begun.TheVariants as begun
use Rattle.draid_visits.proofs.Kept.{at_set, idle_set, others_set}
use Rattle.draid_visits.proofs.Leading.{steps_as, steps_in}
use Rattle.draid_visits.proofs.SharedWhole.{whole_shared}
use Rattle.draid_visits.proofs.Tables.{shares_by}
use Rattle.draid_visits.proofs.Visited.{lacks_so}

no_shelf : (why : SyncFault) → why ≡ sync.Worn → why ≡ sync.Shelf → ⊥
no_shelf why worn shelf = (let e = sym worn ∙ shelf in cc)

last_no_shelf : (why : SyncFault) → why ≡ sync.Last → why ≡ sync.Shelf → ⊥
last_no_shelf why last shelf = (let e = sym last ∙ shelf in cc)

memory_no_shelf : (why : SyncFault) → why ≡ sync.NoMemory → why ≡ sync.Shelf → ⊥
memory_no_shelf why memory shelf = (let e = sym memory ∙ shelf in cc)

-- what is said of the beginning, by its hold
pub said_by : (kind : PassKind) (m : ℕ) (g : Geometry) (p : Perms) (holds : List Hold) (came : Result ℕ PlanFault) (result : Begun) → IsBegun came result → StartIs (record { geometry = g; perms = p; number = m }) kind came holds → BeginIs g p kind m result holds
said_by kind m g p holds (Ok at) (begun.At stripe) is said = subst (λ n. passes.Starts g p kind m n holds Went) (sym is) said
said_by kind m g p holds (Ok at) begun.Nothing is said = absurd is
said_by kind m g p holds (Ok at) (begun.Stopped why) is said = absurd is
said_by kind m g p holds (Err plan.Nothing) begun.Nothing is said = said
said_by kind m g p holds (Err plan.Nothing) (begun.At stripe) is said = absurd is
said_by kind m g p holds (Err plan.Nothing) (begun.Stopped why) is said = absurd is
said_by kind m g p holds (Err (plan.Worn events)) (begun.Stopped why) is said = subst (λ y. passes.PlansNone g p kind m holds (end_by y)) (sym is) said
said_by kind m g p holds (Err (plan.Worn events)) (begun.At stripe) is said = absurd is
said_by kind m g p holds (Err (plan.Worn events)) begun.Nothing is said = absurd is
said_by kind m g p holds (Err plan.Last) (begun.Stopped why) is said = subst (λ y. passes.PlansNone g p kind m holds (end_by y)) (sym is) said
said_by kind m g p holds (Err plan.Last) (begun.At stripe) is said = absurd is
said_by kind m g p holds (Err plan.Last) begun.Nothing is said = absurd is
said_by kind m g p holds (Err plan.NoMemory) (begun.Stopped why) is said = subst (λ y. passes.PlansNone g p kind m holds (end_by y)) (sym is) said
said_by kind m g p holds (Err plan.NoMemory) (begun.At stripe) is said = absurd is
said_by kind m g p holds (Err plan.NoMemory) begun.Nothing is said = absurd is
said_by kind m g p holds (Err (plan.PassRunning number)) result is said = absurd said

module _ {R A : Type 0} (rack : racks.Ghosts R) (area : areas.Ghosts A) (kind : PassKind) (m : ℕ) (pool : Pool R A) (w : IsWhole rack area pool) where
  pub record BeginDone (new : Pool R A) (result : Begun) : Type 0 where
    pub whole : IsWhole rack area new
    pub later : AreasLater area.faults pool new
    pub others : KeepsOthers m pool new
    pub idle : AreIdle pool.metaslabs.shards.items → AreIdle new.metaslabs.shards.items
    pub begins : BeginsAt kind result pool new m
    pub carries : (x : State) → Represents rack area pool x → CarriesOut rack area new x (λ holds store. (store ≡ x.store) × BeginIs x.geometry x.perms kind m result holds)

  module _ (new : Pool R A) (shard after : Shard R A) (set : SetsShard rack area m pool new shard after) where
    -- by the answer of the hold
    begins_by : (came : Result ℕ PlanFault) (result : Begun) → IsBegun came result → StartsIn rack area kind shard came after → BeginsAt kind result pool new m
    begins_by (Ok at) (begun.At stripe) is s = (
      subst (λ geometry. stripe ≤ metaslab_stripes geometry) (whole_geometry rack area pool m shard w set.there ∙ sym set.geometry) (subst (λ n. n ≤ metaslab_stripes shard.geometry) (sym is) s.low),
      at_set rack area (λ z. IsSomeAnd z.pass (λ (pass : Pass). pass.kind ≡ kind)) m pool new shard after set s.pass,
    )
    begins_by (Ok at) begun.Nothing is s = absurd is
    begins_by (Ok at) (begun.Stopped why) is s = absurd is
    begins_by (Err plan.Nothing) begun.Nothing is s = (
      at_set rack area (λ z. z.pass ≡ None) m pool new shard after set s.none,
      s.refused.1.0,
      λ z at. subst (λ t. IsRebuiltIn t → ⊥) (some_of (slice_get pool.metaslabs.shards.items m) shard z set.there at) (lacks_so kind shard s.refused),
    )
    begins_by (Err plan.Nothing) (begun.At stripe) is s = absurd is
    begins_by (Err plan.Nothing) (begun.Stopped why) is s = absurd is
    begins_by (Err (plan.Worn events)) (begun.Stopped why) is s = no_shelf why is
    begins_by (Err (plan.Worn events)) (begun.At stripe) is s = absurd is
    begins_by (Err (plan.Worn events)) begun.Nothing is s = absurd is
    begins_by (Err plan.Last) (begun.Stopped why) is s = last_no_shelf why is
    begins_by (Err plan.Last) (begun.At stripe) is s = absurd is
    begins_by (Err plan.Last) begun.Nothing is s = absurd is
    begins_by (Err plan.NoMemory) (begun.Stopped why) is s = memory_no_shelf why is
    begins_by (Err plan.NoMemory) (begun.At stripe) is s = absurd is
    begins_by (Err plan.NoMemory) begun.Nothing is s = absurd is
    begins_by (Err (plan.PassRunning number)) (begun.At stripe) is s = absurd is
    begins_by (Err (plan.PassRunning number)) begun.Nothing is s = absurd is
    begins_by (Err (plan.PassRunning number)) (begun.Stopped why) is s = absurd is

  pub begin_done : (result : Begun) (b : Owned R A) → BeginsBy rack area left_by went_by false all kind m pool.metaslabs result b → BeginDone (with_owned pool b) result
  begin_done result b (came, is, once) =
      let new = with_owned pool b in
      let set = once_sets rack area pool (λ x y. StartsIn rack area kind x came y) pool.metaslabs m b once in
      let e = once.did in
      record {
        whole = whole_shared rack area m pool new once.before once.after w set e.valid (shares_by once.before once.after e.part e.blocks e.groups);
        later = areas_set rack area m pool new once.before once.after set (records_same area.faults once.before once.after e.areas_are);
        others = others_set rack area m pool new once.before once.after set;
        idle = idle_set rack area m pool new once.before once.after set e.blocks.groups.closing;
        begins = begins_by new once.before once.after set came result is e;
        carries = λ x represents. steps_as rack area (λ g p holds. StartIs (record { geometry = g; perms = p; number = m }) kind came holds) (λ g p holds. BeginIs g p kind m result holds) pool new
            (steps_in rack area m pool new once.before once.after (λ part holds. StartIs part kind came holds) set (λ part pieces y own has. e.goes part pieces y own)) (λ g p holds said. said_by kind m g p holds came result is said) x represents;
      }
