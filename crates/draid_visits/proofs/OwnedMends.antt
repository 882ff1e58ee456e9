-- A rebuild and a scrub by the only thread of a pool.
use Rattle.std.proofs.Common.{◌≡◌, ◌<◌, ◌≤◌, ◌+◌, ℕ, true, false, [], Option, Some, None, Result, Ok, Err, length, slice_index_or, arith, refl, sym, subst}
use Rattle.std.specs.Prelude.{IsErrOf}
use Rattle.draid_names.specs.declared.pass_kind.PassKind.{PassKind}
use Rattle.draid_names.specs.declared.pass_kind.PassKind.TheVariants.{Heal, Rebuild}
use Rattle.draid_rack.specs.declared.Rack as racks
use Rattle.draid_area.specs.declared.Area as areas
use Rattle.draid_shard.specs.Fits.{Valid}
use Rattle.draid_session.specs.State.{State}
use Rattle.draid_uber.specs.Slots.{group_of}
use Rattle.draid_uber.specs.Uber.{kept_of}
use Rattle.draid_uber.specs.declared.uber.Uber.{Uber}
use Rattle.draid_pool.specs.Carries.{CarriesOut}
use Rattle.draid_pool.specs.Failing.{AreaRose, AreasLater}
use Rattle.draid_pool.specs.Pools.{Represents}
use Rattle.draid_pool.specs.Rounds.{EachIs}
use Rattle.draid_pool.specs.Syncing.{AreIdle}
use Rattle.draid_pool.specs.Whole.{IsWhole}
use Rattle.draid_pool.specs.declared.owned.Owned.{Owned}
use Rattle.draid_pool.specs.declared.pool.Pool.{Pool}
use Rattle.draid_pool.proofs.GroupClosed.{closes_each, each_whole, left_by, none_beyond, went_by, with_owned}
use Rattle.draid_pool.proofs.GroupDone.{with_both}
use Rattle.draid_pool.proofs.OwnedKnows.{all}
use Rattle.draid_pool.proofs.Rises.{areas_still}
use Rattle.draid_pool.proofs.Wholes.{whole_geometry}
use Rattle.draid_visits.specs.Rebuilding.{IsFirstScrub, RebuildDoes, RebuildIs, ScrubDoes, ScrubIs}
use Rattle.draid_visits.specs.Visiting.{AreAll, AreToVisit, HasMark, IsLeft, IsLow, IsOnly, nothing_within}
use Rattle.draid_visits.specs.Looks.{FindsMarks, FindsPass}
use Rattle.draid_visits.specs.Visits.{AnswersBy, BeginsRebuild, BeginsScrub, MayVisit, MendsBy, VisitsBy}
use Rattle.draid_visits.specs.declared.mending.Mending.{Mending}
use Rattle.draid_visits.specs.declared.progress.Progress.{Progress}
use Rattle.draid_visits.specs.declared.progress.Visit.{Visit}
use Rattle.draid_visits.specs.declared.rebuilding.MendFault.{MendFault}
use Rattle.draid_visits.specs.declared.rebuilding.MendFault.TheVariants as fault
use Rattle.draid_visits.specs.declared.rebuilding.Mended.{Mended}
use Rattle.draid_visits.proofs.OwnedReady.{syncs_alone}
use Rattle.draid_visits.proofs.Marking.{MarkedAll, are_marks, none_rebuilt, sees_marks, sees_none}
use Rattle.draid_visits.proofs.OwnedLooks.{finds_first, finds_lowest, finds_marks, finds_no_marks, finds_none}
use Rattle.draid_visits.proofs.OwnedVisits.{visits_done, visits_wait}
use Rattle.draid_visits.proofs.Rebuilt.{answered, found_nothing, found_scrub, left_first, nothing_there, passes_behind, stopped_shelf, to_rebuild}
use Rattle.draid_visits.proofs.Scrubbed.{MarksFrom, few_metaslabs, found_rebuild, low_first, never_shelf, one_to_scrub, scrub_answered, scrubs_behind, some_metaslab, to_scrub}

module _ {R A : Type 0} (rack : racks.Ghosts R) (area : areas.Ghosts A) where
  -- ---- what the calls need

  pub each_valid : (pool : Pool R A) → IsWhole rack area pool → EachIs pool.geometry.props.metaslabs (Valid rack) (left_by pool.metaslabs)
  each_valid pool w = each_whole rack area pool (Valid rack) w (λ m shard there. (w.shards m shard there).valid)

  pub may_visit : (kind : PassKind) (pool : Pool R A) → IsWhole rack area pool → AreAll pool (IsOnly kind) → MayVisit rack area pool.geometry kind (left_by pool.metaslabs) pool.uber
  may_visit kind pool w alone = record {
    geometry_is = w.layout.geometry_is;
    valid = w.uber;
    ready = closes_each rack area pool (group_of (kept_of pool.uber) + 1) w refl;
    beyond = none_beyond rack area pool w;
    layout = λ m shard there. whole_geometry rack area pool m shard w there;
    alone = alone;
  }

  module _ (limit : Option ℕ) (pool : Pool R A) (w : IsWhole rack area pool) where
    -- the visits of a pass that began just now
    pub record Began (kind : PassKind) (it : Mending) (b : Owned R A) : Type 0 where
      pub same : b ≡ pool.metaslabs
      pub alone : AreAll pool (IsOnly kind)
      pub kind_is : it.kind ≡ kind
      pub next_is : it.next ≡ 0
      pub progress_is : it.progress ≡ nothing_within limit

    pub may_mend : (kind : PassKind) (it : Mending) (b : Owned R A) → Began kind it b → MayVisit rack area pool.geometry it.kind (left_by b) pool.uber
    may_mend kind it b begun =
        subst (λ k. MayVisit rack area pool.geometry k (left_by b) pool.uber) (sym begun.kind_is)
        (subst (λ o. MayVisit rack area pool.geometry kind (left_by o) pool.uber) (sym begun.same) (may_visit kind pool w begun.alone))

    pub low_begun : (kind : PassKind) (it : Mending) (b : Owned R A) → Began kind it b → IsLow it.next it.progress
    low_begun kind it b begun = subst (λ n. IsLow n it.progress) (sym begun.next_is) (subst (IsLow 0) (sym begun.progress_is) (low_first limit))

    pub left_begun : (kind : PassKind) (it : Mending) (b : Owned R A) → Began kind it b → IsLeft limit it.progress
    left_begun kind it b begun = subst (IsLeft limit) (sym begun.progress_is) (left_first limit)

    visits_begun : (kind : PassKind) (it : Mending) (a : Owned R A) → Began kind it a → (result : Option Visit) (place : ℕ) (b : Owned R A) (v : Uber A) (q : Progress)
        → VisitsBy rack area left_by went_by false all (syncs_alone rack area pool.geometry.props.metaslabs) pool.geometry it.kind it.marks it.next a pool.uber it.progress result place b v q
        → VisitsBy rack area left_by went_by false all (syncs_alone rack area pool.geometry.props.metaslabs) pool.geometry kind it.marks 0 pool.metaslabs pool.uber (nothing_within limit) result place b v q
    visits_begun kind it a begun result place b v q visits =
        subst (λ p. VisitsBy rack area left_by went_by false all (syncs_alone rack area pool.geometry.props.metaslabs) pool.geometry kind it.marks 0 pool.metaslabs pool.uber p result place b v q) begun.progress_is
        (subst (λ o. VisitsBy rack area left_by went_by false all (syncs_alone rack area pool.geometry.props.metaslabs) pool.geometry kind it.marks 0 o pool.uber it.progress result place b v q) begun.same
        (subst (λ n. VisitsBy rack area left_by went_by false all (syncs_alone rack area pool.geometry.props.metaslabs) pool.geometry kind it.marks n a pool.uber it.progress result place b v q) begun.next_is
        (subst (λ k. VisitsBy rack area left_by went_by false all (syncs_alone rack area pool.geometry.props.metaslabs) pool.geometry k it.marks it.next a pool.uber it.progress result place b v q) begun.kind_is visits)))

    -- they have an answer
    module _ (kind : PassKind) (it : Mending) (a : Owned R A) (begun : Began kind it a) (are : AreToVisit kind pool it.marks) where
      mends_by : (result : Option Visit) (place : ℕ) (b : Owned R A) (v : Uber A) (q : Progress) → VisitsBy rack area left_by went_by false all (syncs_alone rack area pool.geometry.props.metaslabs) pool.geometry kind it.marks 0 pool.metaslabs pool.uber (nothing_within limit) result place b v q
          → AnswersBy rack area left_by went_by false all result q None → ⊥
      mends_by None place b v q visits answers = visits_wait rack area kind it.marks pool (nothing_within limit) w begun.alone are place b v q visits
      mends_by (Some result) place b v q visits answers = answers

      mends_wait : (b : Owned R A) (v : Uber A) (new : Mending) → MendsBy rack area left_by went_by false all (syncs_alone rack area pool.geometry.props.metaslabs) pool.geometry a pool.uber it None b v new → ⊥
      mends_wait b v new d = mends_by d.result new.next b v new.progress (visits_begun kind it a begun d.result new.next b v new.progress d.visits) d.answers

    -- ---- a rebuild

    pub record RebuildDone (new : Pool R A) (result : Result Mended MendFault) : Type 0 where
      pub whole : IsWhole rack area new
      pub later : AreasLater area.faults pool new
      pub cause : IsErrOf result fault.Shelf → AreaRose area.faults pool new
      pub carries : (x : State) → Represents rack area pool x → CarriesOut rack area new x (RebuildDoes x limit result)
      pub passes : RebuildIs result pool new

    -- as it begins it finds which metaslabs it visits, and changes nothing
    pub record RebuildBegun (it : Mending) (b : Owned R A) : Type 0 where
      pub begun : Began Rebuild it b
      pub marked : MarkedAll rack area pool it.marks
      pub some : HasMark pool it.marks

    pub rebuild_begun : (it : Mending) (b : Owned R A) → BeginsRebuild rack area left_by went_by false all pool.geometry.props.metaslabs limit pool.metaslabs (Ok it) b
        → (m : ℕ) → m < pool.geometry.props.metaslabs → slice_index_or it.marks m false ≡ true → RebuildBegun it b
    rebuild_begun it b (mid, none, marks, kind, next, progress) m inside is =
        let z = finds_none rack area Heal pool w mid none in
        let y = finds_marks rack area pool w it.marks b (subst (λ o. FindsMarks rack area left_by went_by false all pool.geometry.props.metaslabs o (Some it.marks) b) z.0 marks) in
        record {
          begun = record { same = y.0; alone = z.1; kind_is = kind; next_is = next; progress_is = progress };
          marked = y.1;
          some = record { metaslab = m; inside = (let many = w.many in omega (arith, inside, many)); is = is };
        }

    to_visit : (it : Mending) (a : Owned R A) → RebuildBegun it a → AreToVisit Rebuild pool it.marks
    to_visit it a r = to_rebuild pool it.marks r.begun.alone (are_marks rack area pool it.marks r.marked)

    -- or it finds nothing to do, or a scrub
    rebuild_not : (b : Owned R A) (cause : MendFault) → b ≡ pool.metaslabs → (cause ≡ fault.Shelf → ⊥) → ((x : State) → Represents rack area pool x → CarriesOut rack area pool x (RebuildDoes x limit (Err cause))) → RebuildIs (Err cause) pool pool
        → RebuildDone (with_owned pool b) (Err cause)
    rebuild_not b cause same shelf carries is = subst (λ o. RebuildDone (with_owned pool o) (Err cause)) (sym same) (record {
      whole = w;
      later = areas_still area.faults pool;
      cause = λ failed. absurd (shelf (let why : cause ≡ fault.Shelf = cc in why));
      carries = carries;
      passes = is;
    })

    pub rebuild_refused : (cause : MendFault) (b : Owned R A) → BeginsRebuild rack area left_by went_by false all pool.geometry.props.metaslabs limit pool.metaslabs (Err cause) b → RebuildDone (with_owned pool b) (Err cause)
    rebuild_refused fault.Nothing b (mid, none, marks) =
        let z = finds_none rack area Heal pool w mid none in
        let y = finds_no_marks rack area pool w b (subst (λ o. FindsMarks rack area left_by went_by false all pool.geometry.props.metaslabs o None b) z.0 marks) in
        rebuild_not b fault.Nothing y.0 (λ is. absurd (cc)) (λ x r. found_nothing rack area pool x limit r z.1 (sees_none rack area pool [] y.1 (λ k. refl) x r))
        (refl, nothing_there pool z.1 (none_rebuilt rack area pool [] y.1 (λ k. refl)))
    rebuild_refused (fault.PassThere metaslab number) b finds =
        let z = finds_lowest rack area Heal pool w metaslab number b finds in
        rebuild_not b (fault.PassThere metaslab number) z.0 (λ is. absurd (cc)) (λ x r. found_scrub rack area pool x limit metaslab number r z.1) (refl, z.1)
    rebuild_refused fault.Worn b begins = absurd begins
    rebuild_refused fault.Last b begins = absurd begins
    rebuild_refused fault.Shelf b begins = absurd begins
    rebuild_refused fault.NoMemory b begins = absurd begins

    -- and then it visits them
    module _ (it : Mending) (a : Owned R A) (r : RebuildBegun it a) (answer : Result Mended MendFault) where
      rebuild_by : (result : Option Visit) (place : ℕ) (b : Owned R A) (v : Uber A) (q : Progress) → VisitsBy rack area left_by went_by false all (syncs_alone rack area pool.geometry.props.metaslabs) pool.geometry Rebuild it.marks 0 pool.metaslabs pool.uber (nothing_within limit) result place b v q
          → AnswersBy rack area left_by went_by false all result q (Some answer) → RebuildDone (with_both rack area pool b v) answer
      rebuild_by None place b v q visits is = absurd is
      rebuild_by (Some end) place b v q visits is =
          let new = with_both rack area pool b v in
          let d = visits_done rack area Rebuild it.marks pool (nothing_within limit) w r.begun.alone (to_visit it a r) r.some end place b v q visits in
          record {
            whole = d.whole;
            later = d.later;
            cause = λ failed. (d.cause (stopped_shelf end q answer is failed)).1;
            carries = λ x stands. answered rack area pool new x limit it.marks stands r.begun.alone (sees_marks rack area pool it.marks r.marked x stands) r.some end q answer d.began is (d.carries x stands);
            passes = passes_behind end q answer pool new d.began is d.leaves;
          }

      pub rebuild_done : (b : Owned R A) (v : Uber A) (new : Mending) → MendsBy rack area left_by went_by false all (syncs_alone rack area pool.geometry.props.metaslabs) pool.geometry a pool.uber it (Some answer) b v new → RebuildDone (with_both rack area pool b v) answer
      rebuild_done b v new d = rebuild_by d.result new.next b v new.progress (visits_begun Rebuild it a r.begun d.result new.next b v new.progress d.visits) d.answers

    pub rebuild_waits : (it : Mending) (a : Owned R A) → RebuildBegun it a → (b : Owned R A) (v : Uber A) (new : Mending) → MendsBy rack area left_by went_by false all (syncs_alone rack area pool.geometry.props.metaslabs) pool.geometry a pool.uber it None b v new → ⊥
    rebuild_waits it a r b v new d = mends_wait Rebuild it a r.begun (to_visit it a r) b v new d

    -- ---- a scrub

    pub record ScrubDone (new : Pool R A) (result : Result Mended MendFault) : Type 0 where
      pub whole : IsWhole rack area new
      pub later : AreasLater area.faults pool new
      pub carries : (x : State) → Represents rack area pool x → CarriesOut rack area new x (ScrubDoes x limit result)
      pub passes : ScrubIs result pool new
      pub idle : AreIdle pool.metaslabs.shards.items → AreIdle new.metaslabs.shards.items

    pub record ScrubBegun (it : Mending) (b : Owned R A) : Type 0 where
      pub begun : Began Heal it b
      pub first : ℕ
      pub is_first : IsFirstScrub first pool
      pub marked : MarksFrom it.marks first

    pub scrub_begun : (it : Mending) (b : Owned R A) → BeginsScrub rack area left_by went_by false all pool.geometry.props.metaslabs limit pool.metaslabs (Ok it) b → ScrubBegun it b
    scrub_begun it b (mid, found, first, none, finds, is, marks, kind, next, progress) =
        let z = finds_none rack area Rebuild pool w mid none in
        let y = finds_first rack area pool w found first b (subst (λ o. FindsPass rack area left_by went_by false all pool.geometry.props.metaslabs Heal o found b) z.0 finds) is in
        record { begun = record { same = y.0; alone = z.1; kind_is = kind; next_is = next; progress_is = progress }; first = first; is_first = y.1; marked = marks }

    few : length pool.metaslabs.shards.items ≤ 64
    few = few_metaslabs rack area pool w

    scrubs_each : (it : Mending) (a : Owned R A) → (s : ScrubBegun it a) → AreToVisit Heal pool it.marks
    scrubs_each it a s = to_scrub pool it.marks s.first s.marked few s.begun.alone s.is_first

    -- or it finds a rebuild
    pub scrub_refused : (cause : MendFault) (b : Owned R A) → BeginsScrub rack area left_by went_by false all pool.geometry.props.metaslabs limit pool.metaslabs (Err cause) b → ScrubDone (with_owned pool b) (Err cause)
    scrub_refused (fault.PassThere metaslab number) b finds =
        let z = finds_lowest rack area Rebuild pool w metaslab number b finds in
        subst (λ o. ScrubDone (with_owned pool o) (Err (fault.PassThere metaslab number))) (sym z.0) (record {
          whole = w;
          later = areas_still area.faults pool;
          carries = λ x r. found_rebuild rack area pool x limit metaslab number r z.1;
          passes = (refl, z.1);
          idle = λ is. is;
        })
    scrub_refused fault.Nothing b begins = absurd begins
    scrub_refused fault.Worn b begins = absurd begins
    scrub_refused fault.Last b begins = absurd begins
    scrub_refused fault.Shelf b begins = absurd begins
    scrub_refused fault.NoMemory b begins = absurd begins

    -- and then it visits them
    module _ (it : Mending) (a : Owned R A) (s : ScrubBegun it a) (answer : Result Mended MendFault) where
      scrub_by : (result : Option Visit) (place : ℕ) (b : Owned R A) (v : Uber A) (q : Progress) → VisitsBy rack area left_by went_by false all (syncs_alone rack area pool.geometry.props.metaslabs) pool.geometry Heal it.marks 0 pool.metaslabs pool.uber (nothing_within limit) result place b v q
          → AnswersBy rack area left_by went_by false all result q (Some answer) → ScrubDone (with_both rack area pool b v) answer
      scrub_by None place b v q visits is = absurd is
      scrub_by (Some end) place b v q visits is =
          let new = with_both rack area pool b v in
          let has = one_to_scrub pool it.marks s.first s.marked (some_metaslab rack area pool w) few s.is_first in
          let d = visits_done rack area Heal it.marks pool (nothing_within limit) w s.begun.alone (scrubs_each it a s) has end place b v q visits in
          record {
            whole = d.whole;
            later = d.later;
            carries = λ x stands. scrub_answered rack area pool new x limit it.marks s.first s.marked few stands s.begun.alone s.is_first end q answer (λ shelf. never_shelf (d.cause shelf).0) d.began is (d.carries x stands);
            passes = scrubs_behind end q answer pool new d.began is (λ shelf. never_shelf (d.cause shelf).0) d.leaves;
            idle = d.idle refl;
          }

      pub scrub_done : (b : Owned R A) (v : Uber A) (new : Mending) → MendsBy rack area left_by went_by false all (syncs_alone rack area pool.geometry.props.metaslabs) pool.geometry a pool.uber it (Some answer) b v new → ScrubDone (with_both rack area pool b v) answer
      scrub_done b v new d = scrub_by d.result new.next b v new.progress (visits_begun Heal it a s.begun d.result new.next b v new.progress d.visits) d.answers

    pub scrub_waits : (it : Mending) (a : Owned R A) → ScrubBegun it a → (b : Owned R A) (v : Uber A) (new : Mending) → MendsBy rack area left_by went_by false all (syncs_alone rack area pool.geometry.props.metaslabs) pool.geometry a pool.uber it None b v new → ⊥
    scrub_waits it a s b v new d = mends_wait Heal it a s.begun (scrubs_each it a s) b v new d
