-- The metaslabs that a rebuild or a scrub visits by the only thread of a pool.
use Rattle.std.proofs.Common.{◌≡◌, ◌<◌, ◌≤◌, ◌+◌, ◌*◌, ◌⊎◌, ◌∙◌, inl, inr, ℕ, zero, suc, Bool, true, false, List, Option, Some, None, Ok, Err, length, slice_index_or, arith, refl, subst, sym, ap}
use Rattle.std.specs.Prelude.{IsErrOf, IsSome, IsSomeAnd, Result}
use Rattle.std.proofs.lemmas.Bool.{cases_lt, true≢false}
use Rattle.std.proofs.lemmas.Option.{slice_get_within}
use Rattle.draid_names.specs.declared.pass_kind.PassKind.{PassKind}
use Rattle.draid_names.specs.declared.pass_kind.PassKind.TheVariants.{Heal, Rebuild}
use Rattle.draid_rack.specs.declared.Rack as racks
use Rattle.draid_area.specs.declared.Area as areas
use Rattle.draid_pass.specs.declared.pass.Pass.{Pass}
use Rattle.draid_spec.specs.Geometry.{metaslab_stripes}
use Rattle.draid_shard.specs.declared.shard.Shard.{Shard}
use Rattle.draid_session.specs.Passes as passes
use Rattle.draid_session.specs.State.{State}
use Rattle.draid_uber.specs.declared.uber.Uber.{Uber}
use Rattle.draid_pool.specs.Carries.{CarriesOut}
use Rattle.draid_pool.specs.Failing.{AreaRose, AreasLater}
use Rattle.draid_pool.specs.Pools.{Represents}
use Rattle.draid_pool.specs.Syncing.{AreIdle, Phase, end_of}
use Rattle.draid_pool.specs.Whole.{IsWhole}
use Rattle.draid_pool.specs.declared.fault.SyncFault.{SyncFault}
use Rattle.draid_pool.specs.declared.fault.SyncFault.TheVariants as sync
use Rattle.draid_pool.specs.declared.owned.Owned.{Owned}
use Rattle.draid_pool.specs.declared.pool.Pool.{Pool}
use Rattle.draid_pool.proofs.GroupClosed.{left_by, next_on, went_by, with_owned}
use Rattle.draid_pool.proofs.GroupDone.{with_both}
use Rattle.draid_pool.proofs.OwnedKnows.{all}
use Rattle.draid_pool.proofs.Rises.{areas_on, areas_still, rose_then}
use Rattle.draid_visits.specs.Visiting.{AreAll, AreToVisit, BeganAt, HasBegun, HasMark, IsAt, IsOnly, KeepsOthers, Leaves, LeavesAt, VisitIs, VisitsDo}
use Rattle.draid_visits.specs.Visits.{LendsBehind, RunsBy, VisitBy, VisitedAt, VisitedUpto, VisitsBehind, VisitsBy, VisitStopsAt, begun_at}
use Rattle.draid_visits.specs.declared.progress.Progress.{Progress}
use Rattle.draid_visits.specs.declared.progress.Visit.{Visit}
use Rattle.draid_visits.specs.declared.progress.Visit.TheVariants as visit
use Rattle.draid_visits.specs.declared.starting.Begun.{Begun}
use Rattle.draid_visits.specs.declared.starting.Begun.TheVariants as start
use Rattle.draid_visits.proofs.AllVisits.{FromOn, Visiting, visiting_by, visiting_ends, visiting_on, visiting_past, visiting_pauses, visiting_stops}
use Rattle.draid_visits.proofs.Found.{none_before, seen_in}
use Rattle.draid_visits.proofs.Idle.{IsIdleUpto, NoneUpto, alone_visited, began_all, began_more, began_passed, idle_all, idle_first, idle_passed, idle_visited, runs_there}
use Rattle.draid_visits.proofs.Kept.{others_on, others_same}
use Rattle.draid_visits.proofs.Leading.{Does, leads_none}
use Rattle.draid_visits.proofs.OwnedBegin.{BeginDone, begin_done}
use Rattle.draid_visits.proofs.OwnedLends.{LendDone, lend_done}
use Rattle.draid_visits.proofs.OwnedReady.{syncs_alone, ready_done, ready_waits}
use Rattle.draid_visits.proofs.Scrubbed.{never_shelf}
use Rattle.draid_visits.proofs.Visited.{began_so, begun_so, ran, ran_none, shelf_so, stays_begun, visit_stops, visited_none, visited_on}
use Rattle.draid_visits.proofs.Waiting.{scrub_ready}

module _ {R A : Type 0} (rack : racks.Ghosts R) (area : areas.Ghosts A) where
  abbrev IsKind : PassKind → Shard R A → Type 0
  IsKind kind shard = IsSomeAnd shard.pass (λ (p : Pass). p.kind ≡ kind)

  -- ---- a pass is made to run

  record RunDone (kind : PassKind) (m : ℕ) (pool new : Pool R A) (result : Result Unit SyncFault) : Type 0 where
    pub whole : IsWhole rack area new
    pub later : AreasLater area.faults pool new
    pub cause : IsErrOf result sync.Shelf → (kind ≡ Rebuild) × AreaRose area.faults pool new
    pub others : KeepsOthers m pool new
    pub idle : kind ≡ Heal → AreIdle pool.metaslabs.shards.items → AreIdle new.metaslabs.shards.items
    pub carries : (x : State) → Represents rack area pool x → CarriesOut rack area new x (Phase x (passes.ReadyPhase x.geometry x.perms kind m) (end_of result))

  -- a scrub runs already
  scrub_done : (m : ℕ) (pool : Pool R A) → IsWhole rack area pool → (done : Unit) → RunDone Heal m pool pool (Ok done)
  scrub_done m pool w done = record {
    whole = w;
    later = areas_still area.faults pool;
    cause = λ is. absurd (cc is);
    others = others_same m pool;
    idle = λ heal is. is;
    carries = λ x is. scrub_ready rack area m pool x is;
  }

  run_done : (kind : PassKind) (m : ℕ) (pool : Pool R A) → IsWhole rack area pool → IsAt pool m (IsKind kind) → (result : Result Unit SyncFault) (b : Owned R A) (v : Uber A)
      → RunsBy rack area left_by went_by false all (syncs_alone rack area pool.geometry.props.metaslabs) kind m pool.metaslabs pool.uber (Some result) b v → RunDone kind m pool (with_both rack area pool b v) result
  run_done Rebuild m pool w there result b v runs =
      let d = ready_done rack area m pool w there result b v runs in
      record { whole = d.whole; later = d.later; cause = λ is. (refl, d.cause is); others = d.others; idle = λ heal. absurd (never_shelf (sym heal)); carries = d.carries }
  run_done Heal m pool w there (Ok done) b v runs =
      subst (λ u. RunDone Heal m pool (with_both rack area pool b u) (Ok done)) (sym runs.2) (subst (λ o. RunDone Heal m pool (with_both rack area pool o pool.uber) (Ok done)) (sym runs.1) (scrub_done m pool w done))
  run_done Heal m pool w there (Err why) b v runs = absurd (let no = runs.0 in cc)

  run_waits : (kind : PassKind) (m : ℕ) (pool : Pool R A) → IsWhole rack area pool → IsAt pool m (IsKind kind) → (b : Owned R A) (v : Uber A)
      → RunsBy rack area left_by went_by false all (syncs_alone rack area pool.geometry.props.metaslabs) kind m pool.metaslabs pool.uber None b v → ⊥
  run_waits Rebuild m pool w there b v runs = ready_waits rack area m pool w there b v runs
  run_waits Heal m pool w there b v runs = absurd (let no = runs.0 in cc)

  -- ---- a visit

  pub record VisitDone (kind : PassKind) (m : ℕ) (pool new : Pool R A) (old : Progress) (result : Visit) (now : Progress) : Type 0 where
    pub whole : IsWhole rack area new
    pub later : AreasLater area.faults pool new
    pub cause : result ≡ visit.Stopped sync.Shelf → (kind ≡ Rebuild) × AreaRose area.faults pool new
    pub others : KeepsOthers m pool new
    pub idle : kind ≡ Heal → AreIdle pool.metaslabs.shards.items → AreIdle new.metaslabs.shards.items
    pub leaves : LeavesAt kind result new m
    pub began : BeganAt kind pool m old result now
    pub from : IsSome old.from → IsSome now.from
    pub carries : (x : State) → Represents rack area pool x → CarriesOut rack area new x (Does x (VisitIs x.geometry x.perms kind m old result now))

  module _ (kind : PassKind) (m : ℕ) (pool : Pool R A) (w : IsWhole rack area pool) (p : Progress) where
    -- it stood at a stripe
    module _ (stripe : ℕ) (mid : Owned R A) (e : BeginDone rack area kind m pool w (with_owned pool mid) (start.At stripe)) where
      abbrev begun_pool : Pool R A
      begun_pool = with_owned pool mid

      -- and lent
      visit_lends : (result : Visit) (last b : Owned R A) (v : Uber A) (q : Progress) → RunDone kind m begun_pool (with_both rack area begun_pool last v) (Ok tt)
          → LendDone rack area kind m (with_both rack area begun_pool last v) (begun_at pool.geometry m stripe p) (with_both rack area pool b v) result q → VisitDone kind m pool (with_both rack area pool b v) p result q
      visit_lends result last b v q d f =
          let at = m * metaslab_stripes pool.geometry + stripe in
          let ran_pool = with_both rack area begun_pool last v in
          let new = with_both rack area pool b v in
          record {
            whole = f.whole;
            later = areas_on area.faults pool ran_pool new (areas_on area.faults pool begun_pool ran_pool e.later d.later) f.later;
            cause = λ is. absurd (f.not_shelf is);
            others = others_on m pool begun_pool new e.later.many e.others (others_on m begun_pool ran_pool new d.later.many d.others f.others);
            idle = λ heal is. f.idle (d.idle heal (e.idle is));
            leaves = f.leaves;
            began = began_so kind result pool m p q (begun_so result at p (begun_at pool.geometry m stripe p) q refl f.from);
            from = λ some. stays_begun at p (begun_at pool.geometry m stripe p) q refl f.from;
            carries = visited_on rack area kind m pool begun_pool new stripe p q result e.carries
                (ran rack area kind m begun_pool ran_pool new stripe at p (begun_at pool.geometry m stripe p) q result refl refl d.carries f.carries);
          }

      -- or was stopped before it ran
      visit_unrun : (why : SyncFault) (last : Owned R A) (v : Uber A) → RunDone kind m begun_pool (with_both rack area begun_pool last v) (Err why) → VisitDone kind m pool (with_both rack area pool last v) p (visit.Stopped why) p
      visit_unrun why last v d =
          let new = with_both rack area pool last v in
          record {
            whole = d.whole;
            later = areas_on area.faults pool begun_pool new e.later d.later;
            cause = λ is. (let f = d.cause (ap Err (shelf_so why is)) in (f.0, rose_then area.faults pool begun_pool new e.later f.1));
            others = others_on m pool begun_pool new e.later.many e.others d.others;
            idle = λ heal is. d.idle heal (e.idle is);
            leaves = tt;
            began = tt;
            from = λ some. some;
            carries = visited_on rack area kind m pool begun_pool new stripe p p (visit.Stopped why) e.carries (ran_none rack area kind m begun_pool new stripe p p why d.carries);
          }

      visit_runs : (made : Option (Result Unit SyncFault)) (last : Owned R A) (result : Visit) (b : Owned R A) (v : Uber A) (q : Progress)
          → RunsBy rack area left_by went_by false all (syncs_alone rack area pool.geometry.props.metaslabs) kind m mid pool.uber made last v → LendsBehind rack area left_by went_by false all pool.geometry kind m stripe last p made (Some result) b q
          → VisitDone kind m pool (with_both rack area pool b v) p result q
      visit_runs (Some (Ok done)) last result b v q runs lends =
          let d = run_done kind m begun_pool e.whole e.begins.1 (Ok done) last v runs in
          visit_lends result last b v q d (lend_done rack area kind m (with_both rack area begun_pool last v) (begun_at pool.geometry m stripe p) d.whole result b q lends)
      visit_runs (Some (Err why)) last (visit.Stopped cause) b v q runs lends =
          let d = run_done kind m begun_pool e.whole e.begins.1 (Err why) last v runs in
          subst (λ y. VisitDone kind m pool (with_both rack area pool b v) p (visit.Stopped y) q) (sym lends.0)
          (subst (λ o. VisitDone kind m pool (with_both rack area pool o v) p (visit.Stopped why) q) (sym lends.1)
          (subst (λ z. VisitDone kind m pool (with_both rack area pool last v) p (visit.Stopped why) z) (sym lends.2) (visit_unrun why last v d)))
      visit_runs (Some (Err why)) last visit.Over b v q runs lends = absurd lends
      visit_runs (Some (Err why)) last visit.Paused b v q runs lends = absurd lends
      visit_runs None last result b v q runs lends = absurd lends

      -- it always ran, or was stopped
      visit_answers : (made : Option (Result Unit SyncFault)) (last b : Owned R A) (v : Uber A) (q : Progress)
          → RunsBy rack area left_by went_by false all (syncs_alone rack area pool.geometry.props.metaslabs) kind m mid pool.uber made last v → LendsBehind rack area left_by went_by false all pool.geometry kind m stripe last p made None b q → ⊥
      visit_answers (Some (Ok done)) last b v q runs lends = lends
      visit_answers (Some (Err why)) last b v q runs lends = lends
      visit_answers None last b v q runs lends = run_waits kind m begun_pool e.whole e.begins.1 last v runs

    -- there was nothing to do
    visit_nothing : (mid : Owned R A) → BeginDone rack area kind m pool w (with_owned pool mid) start.Nothing → VisitDone kind m pool (with_both rack area pool mid pool.uber) p visit.Over p
    visit_nothing mid e = record {
      whole = e.whole;
      later = e.later;
      cause = λ is. absurd (cc is);
      others = e.others;
      idle = λ heal. e.idle;
      leaves = e.begins.0;
      began = inr (refl, e.begins.1, e.begins.2);
      from = λ some. some;
      carries = visited_none rack area kind m pool (with_owned pool mid) p e.carries;
    }

    -- or no pass could be planned
    visit_unplanned : (why : SyncFault) (mid : Owned R A) → BeginDone rack area kind m pool w (with_owned pool mid) (start.Stopped why) → VisitDone kind m pool (with_both rack area pool mid pool.uber) p (visit.Stopped why) p
    visit_unplanned why mid e = record {
      whole = e.whole;
      later = e.later;
      cause = λ is. absurd (e.begins (shelf_so why is));
      others = e.others;
      idle = λ heal. e.idle;
      leaves = tt;
      began = tt;
      from = λ some. some;
      carries = visit_stops rack area kind m pool (with_owned pool mid) p p why e.carries;
    }

    visit_behind : (begins : Begun) (mid : Owned R A) (result : Visit) (b : Owned R A) (v : Uber A) (q : Progress) → BeginDone rack area kind m pool w (with_owned pool mid) begins
        → VisitsBehind rack area left_by went_by false all (syncs_alone rack area pool.geometry.props.metaslabs) pool.geometry kind m mid pool.uber p begins (Some result) b v q → VisitDone kind m pool (with_both rack area pool b v) p result q
    visit_behind (start.At stripe) mid result b v q e (made, last, runs, lends) = visit_runs stripe mid e made last result b v q runs lends
    visit_behind start.Nothing mid visit.Over b v q e is =
        subst (λ o. VisitDone kind m pool (with_both rack area pool o v) p visit.Over q) (sym is.0)
        (subst (λ u. VisitDone kind m pool (with_both rack area pool mid u) p visit.Over q) (sym is.1)
        (subst (λ z. VisitDone kind m pool (with_both rack area pool mid pool.uber) p visit.Over z) (sym is.2) (visit_nothing mid e)))
    visit_behind start.Nothing mid visit.Paused b v q e is = absurd is
    visit_behind start.Nothing mid (visit.Stopped cause) b v q e is = absurd is
    visit_behind (start.Stopped why) mid (visit.Stopped cause) b v q e is =
        subst (λ y. VisitDone kind m pool (with_both rack area pool b v) p (visit.Stopped y) q) (sym is.0)
        (subst (λ o. VisitDone kind m pool (with_both rack area pool o v) p (visit.Stopped why) q) (sym is.1)
        (subst (λ u. VisitDone kind m pool (with_both rack area pool mid u) p (visit.Stopped why) q) (sym is.2)
        (subst (λ z. VisitDone kind m pool (with_both rack area pool mid pool.uber) p (visit.Stopped why) z) (sym is.3) (visit_unplanned why mid e))))
    visit_behind (start.Stopped why) mid visit.Over b v q e is = absurd is
    visit_behind (start.Stopped why) mid visit.Paused b v q e is = absurd is

    visit_not_behind : (begins : Begun) (mid b : Owned R A) (v : Uber A) (q : Progress) → BeginDone rack area kind m pool w (with_owned pool mid) begins
        → VisitsBehind rack area left_by went_by false all (syncs_alone rack area pool.geometry.props.metaslabs) pool.geometry kind m mid pool.uber p begins None b v q → ⊥
    visit_not_behind (start.At stripe) mid b v q e (made, last, runs, lends) = visit_answers stripe mid e made last b v q runs lends
    visit_not_behind start.Nothing mid b v q e is = is
    visit_not_behind (start.Stopped why) mid b v q e is = is

    pub visit_done : (result : Visit) (b : Owned R A) (v : Uber A) (q : Progress) → VisitBy rack area left_by went_by false all (syncs_alone rack area pool.geometry.props.metaslabs) pool.geometry kind m pool.metaslabs pool.uber p (Some result) b v q
        → VisitDone kind m pool (with_both rack area pool b v) p result q
    visit_done result b v q y = visit_behind y.start y.mid result b v q (begin_done rack area kind m pool w y.start y.mid y.begins) y.behind

    -- it has an answer
    pub visit_waits : (b : Owned R A) (v : Uber A) (q : Progress) → VisitBy rack area left_by went_by false all (syncs_alone rack area pool.geometry.props.metaslabs) pool.geometry kind m pool.metaslabs pool.uber p None b v q → ⊥
    visit_waits b v q y = visit_not_behind y.start y.mid b v q (begin_done rack area kind m pool w y.start y.mid y.begins) y.behind

  -- ---- one after another

  module _ (kind : PassKind) (marks : List Bool) (pool : Pool R A) (p : Progress) where
    abbrev with_it : Owned R A → Uber A → Pool R A
    with_it o u = with_both rack area pool o u

    -- the first so many were visited
    record VisitedTo (now : Pool R A) (at : Progress) (m : ℕ) : Type 0 where
      pub whole : IsWhole rack area now
      pub alone : AreAll now (IsOnly kind)
      pub later : AreasLater area.faults pool now
      pub began : IsSome at.from ⊎ ((now ≡ pool) × NoneUpto marks m)
      pub idle : IsIdleUpto marks m now
      pub closing : kind ≡ Heal → AreIdle pool.metaslabs.shards.items → AreIdle now.metaslabs.shards.items
      pub carries : (x : State) → Represents rack area pool x → Visiting rack area kind marks p at m now x

    visited_first : IsWhole rack area pool → AreAll pool (IsOnly kind) → AreToVisit kind pool marks → VisitedTo pool p 0
    visited_first w alone are = record {
      whole = w;
      alone = alone;
      later = areas_still area.faults pool;
      began = inr (refl, λ k less. absurd (omega (arith, less)));
      idle = idle_first kind marks pool are;
      closing = λ heal is. is;
      carries = λ x is. leads_none rack area (FromOn x kind marks p 0) pool x is;
    }

    -- a metaslab that was held is there
    held_inside : (m : ℕ) (a : Owned R A) (u : Uber A) (at : Progress) (result : Option Visit) (b : Owned R A) (v : Uber A) (q : Progress) → VisitBy rack area left_by went_by false all (syncs_alone rack area pool.geometry.props.metaslabs) pool.geometry kind m a u at result b v q → m < length a.shards.items
    held_inside m a u at result b v q y = slice_get_within a.shards.items m y.begins.2.shard y.begins.2.there

    -- the next one was visited to its end
    visited_on_mark : AreToVisit kind pool marks → (m : ℕ) (now new : Pool R A) (at q : Progress) → slice_index_or marks m false ≡ true → m < length now.metaslabs.shards.items → VisitedTo now at m → VisitDone kind m now new at visit.Over q
        → VisitedTo new q (m + 1)
    visited_on_mark are m now new at q mark inside i d =
        let many = i.later.many in
        let there = (let less : m < length pool.metaslabs.shards.items = omega (arith, inside, many) in less) in
        record {
          whole = d.whole;
          alone = alone_visited kind m now new d.later.many d.others d.leaves i.alone;
          later = areas_on area.faults pool now new i.later d.later;
          began = inl (began_more kind marks m pool now at q there are mark i.began d.began d.from);
          idle = idle_visited marks m now new d.later.many d.others d.leaves i.idle;
          closing = λ heal is. d.idle heal (i.closing heal is);
          carries = λ x is. (let y = seen_in rack area pool x is m there in
              visiting_on rack area kind marks p m now new x y.0 y.1 mark at q (i.carries x is) d.carries);
        }

    -- or it isn't marked
    passed_on : (m : ℕ) (now : Pool R A) (at : Progress) → slice_index_or marks m false ≡ false → VisitedTo now at m → VisitedTo now at (m + 1)
    passed_on m now at none i = record {
      whole = i.whole;
      alone = i.alone;
      later = i.later;
      began = began_passed marks m pool now at none i.began;
      idle = idle_passed marks m now none i.idle;
      closing = i.closing;
      carries = λ x is. elim (cases_lt m (length pool.metaslabs.shards.items)) [
        | inl less ↦
            let y = seen_in rack area pool x is m less in
            visiting_by rack area kind marks p m now x y.0 at y.1 (λ marked. true≢false (sym marked ∙ none)) (i.carries x is)
        | inr past ↦ visiting_past rack area kind marks p m now x at (let seen = is.stands.shards in omega (arith, past, seen)) (i.carries x is)
      ];
    }

    visited_step : AreToVisit kind pool marks → (m : ℕ) (mark : Bool) (a b : Owned R A) (u v : Uber A) (at q : Progress) → slice_index_or marks m false ≡ mark → VisitedTo (with_it a u) at m
        → VisitedAt rack area left_by went_by false all (syncs_alone rack area pool.geometry.props.metaslabs) pool.geometry kind mark m a u at b v q → VisitedTo (with_it b v) q (m + 1)
    visited_step are m true a b u v at q mark i y =
        visited_on_mark are m (with_it a u) (with_it b v) at q mark (held_inside m a u at (Some visit.Over) b v q y) i (visit_done kind m (with_it a u) i.whole at visit.Over b v q y)
    visited_step are m false a b u v at q none i same =
        subst (λ o. VisitedTo (with_it o v) q (m + 1)) (sym same.0) (subst (λ w. VisitedTo (with_it a w) q (m + 1)) (sym same.1) (subst (λ z. VisitedTo (with_it a u) z (m + 1)) (sym same.2) (passed_on m (with_it a u) at none i)))

    module _ (w : IsWhole rack area pool) (alone : AreAll pool (IsOnly kind)) (are : AreToVisit kind pool marks) where
      visited_upto : (n : ℕ) (b : Owned R A) (v : Uber A) (q : Progress) → VisitedUpto rack area left_by went_by false all (syncs_alone rack area pool.geometry.props.metaslabs) pool.geometry kind marks 0 n pool.metaslabs pool.uber p b v q → VisitedTo (with_it b v) q n
      visited_upto zero b v q is =
          subst (λ o. VisitedTo (with_it o v) q 0) (sym is.0) (subst (λ u. VisitedTo (with_it pool.metaslabs u) q 0) (sym is.1) (subst (λ z. VisitedTo pool z 0) (sym is.2) (visited_first w alone are)))
      visited_upto (suc n) b v q (mid, u, at, front, then_) =
          subst (λ k. VisitedTo (with_it b v) q k) (next_on n)
          (visited_step are n (slice_index_or marks n false) mid b u v at q refl (visited_upto n mid u at front)
          (subst (λ k. VisitedAt rack area left_by went_by false all (syncs_alone rack area pool.geometry.props.metaslabs) pool.geometry kind (slice_index_or marks k false) k mid u at b v q) (sym (none_before n)) then_))

      -- ---- all of them

      pub record VisitsDone (new : Pool R A) (result : Visit) (now : Progress) : Type 0 where
        pub whole : IsWhole rack area new
        pub later : AreasLater area.faults pool new
        pub cause : result ≡ visit.Stopped sync.Shelf → (kind ≡ Rebuild) × AreaRose area.faults pool new
        pub began : HasBegun result now
        pub leaves : Leaves kind result new
        pub idle : kind ≡ Heal → AreIdle pool.metaslabs.shards.items → AreIdle new.metaslabs.shards.items
        pub carries : (x : State) → Represents rack area pool x → CarriesOut rack area new x (VisitsDo x kind marks p result now)

      visits_over : HasMark pool marks → (m : ℕ) (now : Pool R A) (at : Progress) → pool.geometry.props.metaslabs ≤ m → VisitedTo now at m → VisitsDone now visit.Over at
      visits_over has m now at most i =
          let many = w.many in
          let upto = (let end : length pool.metaslabs.shards.items ≤ m = omega (arith, many, most) in end) in
          record {
            whole = i.whole;
            later = i.later;
            cause = λ is. absurd (cc is);
            began = began_all marks m pool now at upto has i.began;
            leaves = idle_all marks m now (let long = i.later.many in omega (arith, upto, long)) i.idle;
            idle = i.closing;
            carries = λ x is. visiting_ends rack area kind marks p m now x at (i.carries x is) (let seen = is.stands.shards in omega (arith, upto, seen));
          }

      module _ (m : ℕ) (now new : Pool R A) (at q : Progress) (mark : slice_index_or marks m false ≡ true) (inside : m < length now.metaslabs.shards.items) (i : VisitedTo now at m) where
        there : m < length pool.metaslabs.shards.items
        there = (let many = i.later.many in omega (arith, inside, many))

        visits_pause : VisitDone kind m now new at visit.Paused q → VisitsDone new visit.Paused q
        visits_pause d = record {
          whole = d.whole;
          later = areas_on area.faults pool now new i.later d.later;
          cause = λ is. absurd (cc is);
          began = d.began;
          leaves = runs_there kind new m (let long = d.later.many in omega (arith, inside, long)) d.leaves;
          idle = λ heal is. d.idle heal (i.closing heal is);
          carries = λ x is. (let y = seen_in rack area pool x is m there in visiting_pauses rack area kind marks p m now new x y.0 y.1 mark at q (i.carries x is) d.carries);
        }

        visits_stop : (why : SyncFault) → VisitDone kind m now new at (visit.Stopped why) q → VisitsDone new (visit.Stopped why) q
        visits_stop why d = record {
          whole = d.whole;
          later = areas_on area.faults pool now new i.later d.later;
          cause = λ is. (let f = d.cause is in (f.0, rose_then area.faults pool now new i.later f.1));
          began = tt;
          leaves = tt;
          idle = λ heal is. d.idle heal (i.closing heal is);
          carries = λ x is. (let y = seen_in rack area pool x is m there in visiting_stops rack area kind marks p m now new x y.0 y.1 mark at q why (i.carries x is) d.carries);
        }

      -- those below the one that came to another end were visited
      stops_behind : (place : ℕ) (result : Option Visit) (b : Owned R A) (v : Uber A) (q : Progress) → (s : VisitStopsAt rack area left_by went_by false all (syncs_alone rack area pool.geometry.props.metaslabs) pool.geometry kind marks 0 place pool.metaslabs pool.uber p result b v q)
          → VisitedTo (with_it s.mid s.uber) s.upto place
      stops_behind place result b v q s = subst (λ k. VisitedTo (with_it s.mid s.uber) s.upto k) (none_before s.many ∙ sym s.is) (visited_upto s.many s.mid s.uber s.upto s.front)

      pub visits_done : HasMark pool marks → (result : Visit) (place : ℕ) (b : Owned R A) (v : Uber A) (q : Progress)
          → VisitsBy rack area left_by went_by false all (syncs_alone rack area pool.geometry.props.metaslabs) pool.geometry kind marks 0 pool.metaslabs pool.uber p (Some result) place b v q → VisitsDone (with_it b v) result q
      visits_done has visit.Over place b v q (many, most, front) = visits_over has many (with_it b v) q (omega (arith, most)) (visited_upto many b v q front)
      visits_done has visit.Paused place b v q s =
          let now = with_it s.mid s.uber in
          let i = stops_behind place (Some visit.Paused) b v q s in
          visits_pause place now (with_it b v) s.upto q s.marked (held_inside place s.mid s.uber s.upto (Some visit.Paused) b v q s.stop) i (visit_done kind place now i.whole s.upto visit.Paused b v q s.stop)
      visits_done has (visit.Stopped why) place b v q s =
          let now = with_it s.mid s.uber in
          let i = stops_behind place (Some (visit.Stopped why)) b v q s in
          visits_stop place now (with_it b v) s.upto q s.marked (held_inside place s.mid s.uber s.upto (Some (visit.Stopped why)) b v q s.stop) i why (visit_done kind place now i.whole s.upto (visit.Stopped why) b v q s.stop)

      -- they have an answer
      pub visits_wait : (place : ℕ) (b : Owned R A) (v : Uber A) (q : Progress) → VisitsBy rack area left_by went_by false all (syncs_alone rack area pool.geometry.props.metaslabs) pool.geometry kind marks 0 pool.metaslabs pool.uber p None place b v q → ⊥
      visits_wait place b v q s = visit_waits kind place (with_it s.mid s.uber) (stops_behind place None b v q s).whole s.upto b v q s.stop
