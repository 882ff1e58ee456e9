-- The visit of one metaslab: its pass begins, is made to run, and lends.
use Rattle.std.proofs.Common.{◌≡◌, ◌+◌, ◌*◌, ◌++◌, ◌∙◌, inl, inr, ℕ, List, Option, Some, None, refl, sym, ap, subst}
use Rattle.std.specs.Prelude.{IsSome, IsSomeAnd}
use Rattle.std.proofs.lemmas.List.{append_assoc}
use Rattle.draid_rack.specs.declared.Rack as racks
use Rattle.draid_area.specs.declared.Area as areas
use Rattle.draid_names.specs.declared.pass_kind.PassKind.{PassKind}
use Rattle.draid_names.specs.declared.pass_kind.PassKind.TheVariants.{Rebuild}
use Rattle.draid_machine.proofs.Small.{none_some}
use Rattle.draid_pass.specs.declared.pass.Pass.{Pass}
use Rattle.draid_passing.specs.Passing.{IsPlanRefused}
use Rattle.draid_passing.specs.declared.fault.PlanFault.TheVariants as plan
use Rattle.draid_shard.specs.declared.shard.Shard.{Shard}
use Rattle.draid_perm.specs.declared.perms.Perms.{Perms}
use Rattle.draid_spec.specs.declared.layout.Geometry.{Geometry}
use Rattle.draid_spec.specs.Geometry.{metaslab_stripes}
use Rattle.draid_session.specs.Holds.{Hold}
use Rattle.draid_session.specs.Passes as passes
use Rattle.draid_session.specs.Phases.{End, Went}
use Rattle.draid_pool.specs.declared.fault.SyncFault.{SyncFault}
use Rattle.draid_pool.specs.declared.fault.SyncFault.TheVariants as sync
use Rattle.draid_pool.specs.declared.pool.Pool.{Pool}
use Rattle.draid_pool.proofs.SyncSteps.{not_went}
use Rattle.draid_visits.specs.Steps.{IsRebuiltIn}
use Rattle.draid_visits.specs.Visiting.{BeganAt, BeginIs, HasBegun, LendIs, RunIs, Runs, VisitIs, end_by, tally_of}
use Rattle.draid_visits.specs.declared.progress.Progress.{Progress}
use Rattle.draid_visits.specs.declared.progress.Visit.{Visit}
use Rattle.draid_visits.specs.declared.progress.Visit.TheVariants as visit
use Rattle.draid_visits.specs.declared.starting.Begun.TheVariants as start
use Rattle.draid_visits.proofs.Leading.{Steps, steps_as, steps_then}

-- a pass went on at a stripe of the pool
abbrev pub begun : ℕ → Progress → Progress
begun stripe at = record at { from = passes.first_from at.from stripe }

-- ---- it runs, and lends

runs_so : (g : Geometry) (p : Perms) (kind : PassKind) (m place : ℕ) (old at : Progress) (front back : List Hold) (o : passes.Outcome) (after : Option ℕ) (t : passes.Tally) → at ≡ begun (passes.pool_stripe g p m place) old
    → passes.ReadyPhase g p kind m front Went → (n : ℕ) → passes.Lends g p kind m n at.left (tally_of at) back o after t → Runs g p kind m place old (front ++ back) o after t
runs_so g p kind m place old at front back o after t is ready n lends = record {
  front = front;
  back = back;
  units = n;
  are = refl;
  ready = ready;
  lends = subst (λ (q : Progress). passes.Lends g p kind m n q.left (tally_of q) back o after t) is lends;
}

pub run_so : (g : Geometry) (p : Perms) (kind : PassKind) (m place : ℕ) (old at new : Progress) (result : Visit) (front back : List Hold) → at ≡ begun (passes.pool_stripe g p m place) old → passes.ReadyPhase g p kind m front Went
    → LendIs g p kind m at result new back → RunIs g p kind m place old result new (front ++ back)
run_so g p kind m place old at new visit.Over front back is ready lends = runs_so g p kind m place old at front back passes.Ended new.left (tally_of new) is ready lends.0 lends.1
run_so g p kind m place old at new visit.Paused front back is ready lends = runs_so g p kind m place old at front back passes.Paused new.left (tally_of new) is ready lends.0 lends.1
run_so g p kind m place old at new (visit.Stopped why) front back is ready lends =
    inl (lends.1, lends.2, runs_so g p kind m place old at front back (passes.Stopped (end_by why)) lends.1 lends.2 is ready lends.0 lends.3)

-- ---- it began, and ran

abbrev begins_run : (g : Geometry) (p : Perms) (kind : PassKind) (m place : ℕ) (front back : List Hold) (end : End) → passes.Starts g p kind m place front Went → passes.ReadyPhase g p kind m back end
    → passes.BeginsVisit g p kind m place (front ++ back) end
begins_run g p kind m place front back end starts ready = inl (front, back, refl, starts, ready)

visits_so : (g : Geometry) (p : Perms) (kind : PassKind) (m place : ℕ) (old : Progress) (front back : List Hold) (o : passes.Outcome) (after : Option ℕ) (t : passes.Tally) → passes.Starts g p kind m place front Went
    → Runs g p kind m place old back o after t → passes.Visits g p kind m old.left (tally_of old) (front ++ back) o after t
visits_so g p kind m place old front back o after t starts runs = record {
  «at» = place;
  front = front ++ runs.front;
  back = runs.back;
  units = runs.units;
  are = ap (λ hs. front ++ hs) runs.are ∙ sym (append_assoc front runs.front runs.back);
  begins = begins_run g p kind m place front runs.front Went starts runs.ready;
  lends = runs.lends;
}

pub visit_so : (g : Geometry) (p : Perms) (kind : PassKind) (m place : ℕ) (old new : Progress) (result : Visit) (front back : List Hold) → passes.Starts g p kind m place front Went → RunIs g p kind m place old result new back
    → VisitIs g p kind m old result new (front ++ back)
visit_so g p kind m place old new visit.Over front back starts runs = inl (visits_so g p kind m place old front back passes.Ended new.left (tally_of new) starts runs)
visit_so g p kind m place old new visit.Paused front back starts runs = visits_so g p kind m place old front back passes.Paused new.left (tally_of new) starts runs
visit_so g p kind m place old new (visit.Stopped why) front back starts (inl runs) =
    inl (runs.0, runs.1, visits_so g p kind m place old front back (passes.Stopped (end_by why)) runs.0 runs.1 starts runs.2)
visit_so g p kind m place old new (visit.Stopped why) front back starts (inr ready) =
    inr (record { «at» = place; stopped = not_went Unit why; begins = begins_run g p kind m place front back (end_by why) starts ready })

-- it couldn't begin
pub stops_at : (g : Geometry) (p : Perms) (kind : PassKind) (m : ℕ) (holds : List Hold) (why : SyncFault) → passes.PlansNone g p kind m holds (end_by why) → passes.VisitStops g p kind m holds (end_by why)
stops_at g p kind m holds sync.Worn none = record { «at» = 0; stopped = not_went Unit sync.Worn; begins = inr (not_went Unit sync.Worn, none) }
stops_at g p kind m holds sync.Last none = record { «at» = 0; stopped = not_went Unit sync.Last; begins = inr (not_went Unit sync.Last, none) }
stops_at g p kind m holds sync.Shelf none = record { «at» = 0; stopped = not_went Unit sync.Shelf; begins = inr (not_went Unit sync.Shelf, none) }
stops_at g p kind m holds sync.NoMemory none = record { «at» = 0; stopped = not_went Unit sync.NoMemory; begins = inr (not_went Unit sync.NoMemory, none) }

module _ {R A : Type 0} (rack : racks.Ghosts R) (area : areas.Ghosts A) (kind : PassKind) (m : ℕ) where
  -- by a number of the pool's stripe
  pub ran : (old mid new : Pool R A) (place stripe : ℕ) (was at now : Progress) (result : Visit) → stripe ≡ m * metaslab_stripes old.geometry + place → at ≡ begun stripe was
      → Steps rack area old mid (λ g p holds. passes.ReadyPhase g p kind m holds Went) → Steps rack area mid new (λ g p holds. LendIs g p kind m at result now holds)
      → Steps rack area old new (λ g p holds. RunIs g p kind m place was result now holds)
  ran old mid new place stripe was at now result number is first second =
      steps_then rack area (λ g p holds. passes.ReadyPhase g p kind m holds Went) (λ g p holds. LendIs g p kind m at result now holds) (λ g p holds. RunIs g p kind m place was result now holds) old mid new first second
      (λ x front back r ready lends. run_so x.geometry x.perms kind m place was at now result front back
      (is ∙ ap (λ n. begun n was) (number ∙ ap (λ (g : Geometry). m * metaslab_stripes g + place) (sym r.stands.geometry))) ready lends)

  -- it was stopped before it ran
  pub ran_none : (old new : Pool R A) (place : ℕ) (was now : Progress) (why : SyncFault) → Steps rack area old new (λ g p holds. passes.ReadyPhase g p kind m holds (end_by why))
      → Steps rack area old new (λ g p holds. RunIs g p kind m place was (visit.Stopped why) now holds)
  ran_none old new place was now why step =
      steps_as rack area (λ g p holds. passes.ReadyPhase g p kind m holds (end_by why)) (λ g p holds. RunIs g p kind m place was (visit.Stopped why) now holds) old new step (λ g p holds ready. inr ready)

  pub visited_on : (old mid new : Pool R A) (place : ℕ) (was now : Progress) (result : Visit) → Steps rack area old mid (λ g p holds. BeginIs g p kind m (start.At place) holds)
      → Steps rack area mid new (λ g p holds. RunIs g p kind m place was result now holds) → Steps rack area old new (λ g p holds. VisitIs g p kind m was result now holds)
  visited_on old mid new place was now result first second =
      steps_then rack area (λ g p holds. BeginIs g p kind m (start.At place) holds) (λ g p holds. RunIs g p kind m place was result now holds) (λ g p holds. VisitIs g p kind m was result now holds) old mid new first second
      (λ x front back r starts runs. visit_so x.geometry x.perms kind m place was now result front back starts runs)

  pub visited_none : (old new : Pool R A) (was : Progress) → Steps rack area old new (λ g p holds. BeginIs g p kind m start.Nothing holds) → Steps rack area old new (λ g p holds. VisitIs g p kind m was visit.Over was holds)
  visited_none old new was step =
      steps_as rack area (λ g p holds. BeginIs g p kind m start.Nothing holds) (λ g p holds. VisitIs g p kind m was visit.Over was holds) old new step (λ g p holds passed. inr (refl, passed.0, passed.1))

  pub visit_stops : (old new : Pool R A) (was now : Progress) (why : SyncFault) → Steps rack area old new (λ g p holds. BeginIs g p kind m (start.Stopped why) holds)
      → Steps rack area old new (λ g p holds. VisitIs g p kind m was (visit.Stopped why) now holds)
  visit_stops old new was now why step =
      steps_as rack area (λ g p holds. BeginIs g p kind m (start.Stopped why) holds) (λ g p holds. VisitIs g p kind m was (visit.Stopped why) now holds) old new step (λ g p holds none. inr (stops_at g p kind m holds why none))

-- ---- what was done so far

first_some : (o : Option ℕ) (n : ℕ) → IsSome (passes.first_from o n)
first_some None n = refl
first_some (Some k) n = refl

pub stays_begun : (stripe : ℕ) (was now new : Progress) → now ≡ begun stripe was → new.from ≡ now.from → IsSome new.from
stays_begun stripe was now new is same = subst IsSome (sym (same ∙ ap (λ (q : Progress). q.from) is)) (first_some was.from stripe)

pub begun_so : (result : Visit) (stripe : ℕ) (was now new : Progress) → now ≡ begun stripe was → new.from ≡ now.from → HasBegun result new
begun_so visit.Over stripe was now new is same = subst IsSome (sym (same ∙ ap (λ (q : Progress). q.from) is)) (first_some was.from stripe)
begun_so visit.Paused stripe was now new is same = subst IsSome (sym (same ∙ ap (λ (q : Progress). q.from) is)) (first_some was.from stripe)
begun_so (visit.Stopped why) stripe was now new is same = tt

pub began_so : {R A : Type 0} (kind : PassKind) (result : Visit) (pool : Pool R A) (m : ℕ) (old new : Progress) → HasBegun result new → BeganAt kind pool m old result new
began_so kind visit.Over pool m old new has = inl has
began_so kind visit.Paused pool m old new has = has
began_so kind (visit.Stopped why) pool m old new has = tt

-- a visit that a device stopped
pub shelf_so : (why : SyncFault) → visit.Stopped why ≡ visit.Stopped sync.Shelf → why ≡ sync.Shelf
shelf_so sync.Worn is = absurd (cc is)
shelf_so sync.Last is = absurd (cc is)
shelf_so sync.Shelf is = refl
shelf_so sync.NoMemory is = absurd (cc is)

-- ---- one metaslab, as its pass begins

pub lacks_so : {R A : Type 0} (kind : PassKind) (shard : Shard R A) → IsPlanRefused shard kind plan.Nothing → IsRebuiltIn shard → ⊥
lacks_so kind shard refused (inl rebuild) = subst (λ o. IsSomeAnd o (λ (p : Pass). p.kind ≡ Rebuild)) refused.0 rebuild
lacks_so kind shard refused (inr has) = has (refl, refused.1.1)

pub not_running : {R A : Type 0} (kind : PassKind) (shard : Shard R A) (number : ℕ) → IsPlanRefused shard kind (plan.PassRunning number) → shard.pass ≡ None → ⊥
not_running kind shard number refused none = none_some shard.pass refused.0 none refused.1
