-- The answers of a rebuild of a pool, and what those of a scrub share.
use Rattle.std.proofs.Common.{◌≡◌, ◌+◌, ◌++◌, ◌∙◌, [], ◌∷◌, inl, inr, ℕ, suc, Bool, true, false, List, Option, Some, None, Result, Ok, Err, arith, refl, sym, ap, subst}
use Rattle.std.specs.Prelude.{◌↔◌, ⊤, IsSome, slice_get}
use Rattle.std.proofs.lemmas.Bool.{true≢false}
use Rattle.draid_rack.specs.declared.Rack as racks
use Rattle.draid_area.specs.declared.Area as areas
use Rattle.draid_names.specs.declared.pass_kind.PassKind.{PassKind}
use Rattle.draid_names.specs.declared.pass_kind.PassKind.TheVariants.{Heal, Rebuild}
use Rattle.draid_perm.specs.declared.perms.Perms.{Perms}
use Rattle.draid_spec.specs.declared.layout.Geometry.{Geometry}
use Rattle.draid_session.specs.Holds.{Hold, View, view_of}
use Rattle.draid_session.specs.Looks.{Looks, LooksFrom}
use Rattle.draid_session.specs.Passes as passes
use Rattle.draid_session.specs.Phases.{NoneOf}
use Rattle.draid_session.specs.State.{Metaslab, State, Store}
use Rattle.draid_pool.specs.Carries.{CarriesOut}
use Rattle.draid_pool.specs.Pools.{Represents}
use Rattle.draid_pool.specs.Views.{seen_at}
use Rattle.draid_pool.specs.declared.fault.SyncFault.{SyncFault}
use Rattle.draid_pool.specs.declared.fault.SyncFault.TheVariants as sync
use Rattle.draid_pool.specs.declared.pool.Pool.{Pool}
use Rattle.draid_pool.proofs.Looking.{changes_none, looked, looks_at}
use Rattle.draid_pool.proofs.Steps.{follows_on}
use Rattle.draid_pool.proofs.SyncSteps.{not_went}
use Rattle.draid_visits.specs.Steps.{IsRebuiltIn}
use Rattle.draid_visits.specs.Rebuilding.{IsAnswer, IsLowestPass, IsMended, NothingToRebuild, RebuildDoes, RebuildIs, RunsWhere, stopped_by}
use Rattle.draid_visits.specs.Visiting.{AreAll, AreToVisit, AreMarks, HasBegun, HasMark, IsLeft, IsMarked, IsOnly, Leaves, SeesMarks, SeesNone, VisitsDo, end_by, nothing_within, tally_of}
use Rattle.draid_visits.specs.declared.progress.Progress.{Progress}
use Rattle.draid_visits.specs.declared.progress.Visit.{Visit}
use Rattle.draid_visits.specs.declared.progress.Visit.TheVariants as visit
use Rattle.draid_visits.specs.declared.rebuilding.MendFault.{MendFault}
use Rattle.draid_visits.specs.declared.rebuilding.MendFault.TheVariants as fault
use Rattle.draid_visits.specs.declared.rebuilding.Mended.{Mended}
use Rattle.draid_visits.proofs.Found.{all_unseen, no_pass, none_before, none_seen_of, sees_lowest, some_rebuilt}

-- ---- those that are visited

-- two tests agree on what was seen
abbrev pub AgreeOn : (View → Type 0) → (View → Type 0) → List View → Type 0
AgreeOn P Q [] = ⊤
AgreeOn P Q (v ∷ views) = (P v ↔ Q v) × AgreeOn P Q views

pub agree_seen : (P Q : View → Type 0) (m : ℕ) (ys : List Metaslab) → ((k : ℕ) (y : Metaslab) → slice_get ys k ≡ Some y → P (view_of (m + k) y) ↔ Q (view_of (m + k) y)) → AgreeOn P Q (seen_at m ys)
unfolding seen_at
agree_seen P Q m [] each = tt
agree_seen P Q m (y ∷ ys) each = (
  subst (λ j. P (view_of j y) ↔ Q (view_of j y)) (let same : m + 0 ≡ m = omega arith in same) (each 0 y refl),
  agree_seen P Q (m + 1) ys (λ k z at. subst (λ j. P (view_of j z) ↔ Q (view_of j z)) (let same : m + suc k ≡ m + 1 + k = omega arith in same) (each (suc k) z at)),
)

pub visits_as : (g : Geometry) (p : Perms) (kind : PassKind) (P Q : View → Type 0) (views : List View) (left : Option ℕ) (t : passes.Tally) (holds : List Hold) (o : passes.Outcome) (new : passes.Tally) → AgreeOn P Q views
    → passes.VisitsAll g p kind P views left t holds o new → passes.VisitsAll g p kind Q views left t holds o new
visits_as g p kind P Q [] left t holds o new agree is = is
visits_as g p kind P Q (v ∷ views) left t holds o new agree (inl w) = inl (λ q. w.0 (agree.0.1 q), visits_as g p kind P Q views left t holds o new agree.1 w.1)
visits_as g p kind P Q (v ∷ views) left t holds o new agree (inr (mark, inl w)) = inr (agree.0.0 mark, inl w)
visits_as g p kind P Q (v ∷ views) left t holds o new agree (inr (mark, inr (inl w))) = inr (agree.0.0 mark, inr (inl w))
visits_as g p kind P Q (v ∷ views) left t holds o new agree (inr (mark, inr (inr (inl (front, back, after, mid, are, visits, rest))))) =
    inr (agree.0.0 mark, inr (inr (inl (front, back, after, mid, are, visits, visits_as g p kind P Q views after mid back o new agree.1 rest))))
visits_as g p kind P Q (v ∷ views) left t holds o new agree (inr (mark, inr (inr (inr (front, back, are, rebuild, over, rest))))) =
    inr (agree.0.0 mark, inr (inr (inr (front, back, are, rebuild, over, visits_as g p kind P Q views left t back o new agree.1 rest))))

-- ---- within the limit

-- nothing of it is used at first
pub left_first : (limit : Option ℕ) → IsLeft limit (nothing_within limit)
left_first None = refl
left_first (Some n) = (n, refl, omega arith)

-- ---- the passes behind it

-- where a pass went on there was something to do
pub was_begun : (p : Progress) → p.from ≡ None → IsSome p.from → ⊥
was_begun p none some = true≢false (sym (subst IsSome none some))

pub passes_behind : {R A : Type 0} (end : Visit) (p : Progress) (result : Result Mended MendFault) (old new : Pool R A) → HasBegun end p → IsAnswer end p result → Leaves Rebuild end new → RebuildIs result old new
passes_behind visit.Over p (Ok it) old new has is leaves = subst (λ b. RunsWhere Rebuild b new) (sym is.paused_is) leaves
passes_behind visit.Over p (Err why) old new has is leaves = absurd (was_begun p is.1 has)
passes_behind visit.Paused p (Ok it) old new has is leaves = subst (λ b. RunsWhere Rebuild b new) (sym is.paused_is) leaves
passes_behind visit.Paused p (Err why) old new has is leaves = absurd is
passes_behind (visit.Stopped why) p (Ok it) old new has is leaves = absurd is
passes_behind {R} {A} (visit.Stopped why) p (Err cause) old new has is leaves = subst (λ c. RebuildIs (Err c) old new) (sym is) (by why)
  where
    by : (w : SyncFault) → RebuildIs (Err (stopped_by w)) old new
    by sync.Worn = tt
    by sync.Last = tt
    by sync.Shelf = tt
    by sync.NoMemory = tt

-- only a device that failed ends it so
pub stopped_shelf : (end : Visit) (p : Progress) (result : Result Mended MendFault) → IsAnswer end p result → result ≡ Err fault.Shelf → end ≡ visit.Stopped sync.Shelf
stopped_shelf visit.Over p (Ok it) is shelf = absurd (cc)
stopped_shelf visit.Over p (Err why) is shelf = absurd (let same : why ≡ fault.Shelf = cc in let no = sym is.0 ∙ same in cc)
stopped_shelf visit.Paused p (Ok it) is shelf = absurd (cc)
stopped_shelf visit.Paused p (Err why) is shelf = absurd is
stopped_shelf (visit.Stopped why) p (Ok it) is shelf = absurd is
stopped_shelf (visit.Stopped sync.Worn) p (Err cause) is shelf = absurd (let same : cause ≡ fault.Shelf = cc in let no = sym is ∙ same in cc)
stopped_shelf (visit.Stopped sync.Last) p (Err cause) is shelf = absurd (let same : cause ≡ fault.Shelf = cc in let no = sym is ∙ same in cc)
stopped_shelf (visit.Stopped sync.Shelf) p (Err cause) is shelf = refl
stopped_shelf (visit.Stopped sync.NoMemory) p (Err cause) is shelf = absurd (let same : cause ≡ fault.Shelf = cc in let no = sym is ∙ same in cc)

module _ {R A : Type 0} (rack : racks.Ghosts R) (area : areas.Ghosts A) where
  -- ---- all metaslabs are looked at

  pub seen_all : (pool : Pool R A) (x : State) → Represents rack area pool x → Looks x.geometry.props.metaslabs (looks_at 0 x.metaslabs) (seen_at 0 x.metaslabs)
  seen_all pool x r = subst (λ n. LooksFrom 0 n (looks_at 0 x.metaslabs) (seen_at 0 x.metaslabs)) r.stands.many (looked 0 x.metaslabs)

  pub finds : (kind : PassKind) (pool : Pool R A) (x : State) (rest : List Hold) → Represents rack area pool x → NoneOf (passes.HasPassOf (passes.other_kind kind)) (seen_at 0 x.metaslabs)
      → passes.FindsNoOther x.geometry x.perms kind (looks_at 0 x.metaslabs ++ rest) (seen_at 0 x.metaslabs) rest
  finds kind pool x rest r alone = record { looks = looks_at 0 x.metaslabs; are = refl; looked = seen_all pool x r; alone = alone }

  no_scrub : (pool : Pool R A) (x : State) → Represents rack area pool x → AreAll pool (IsOnly Rebuild) → NoneOf (passes.HasPassOf Heal) (seen_at 0 x.metaslabs)
  no_scrub pool x r alone = none_seen_of rack area Heal pool x r alone

  -- a pass of the other kind was found
  pub found_other : (kind : PassKind) (pool : Pool R A) (x : State) (metaslab number : ℕ) (says : List Hold → Store → Type 0) → Represents rack area pool x → IsLowestPass (passes.other_kind kind) metaslab number pool
      → (passes.FindsOther x.geometry x.perms kind (looks_at 0 x.metaslabs) metaslab number → says (looks_at 0 x.metaslabs) x.store) → CarriesOut rack area pool x says
  found_other kind pool x metaslab number says r low how = record {
    holds = looks_at 0 x.metaslabs;
    reached = x;
    store = x.store;
    follows = changes_none x [] x.metaslabs 0 refl refl;
    done = how (record { views = seen_at 0 x.metaslabs; looked = seen_all pool x r; lowest = sees_lowest rack area (passes.other_kind kind) pool x metaslab number r low });
    represents = r;
  }

  pub found_scrub : (pool : Pool R A) (x : State) (limit : Option ℕ) (metaslab number : ℕ) → Represents rack area pool x → IsLowestPass Heal metaslab number pool
      → CarriesOut rack area pool x (RebuildDoes x limit (Err (fault.PassThere metaslab number)))
  found_scrub pool x limit metaslab number r low = found_other Rebuild pool x metaslab number (RebuildDoes x limit (Err (fault.PassThere metaslab number))) r low (λ finds. (refl, finds))

  -- there is nothing to do
  none_visited : (x : State) (limit : Option ℕ) (views : List View) → NoneOf (passes.IsRebuilt x.geometry x.perms) views
      → passes.VisitsAll x.geometry x.perms Rebuild (passes.IsRebuilt x.geometry x.perms) views limit passes.nothing_yet [] passes.Ended passes.nothing_yet
  none_visited x limit [] none = (refl, refl, refl)
  none_visited x limit (v ∷ views) none = inl (none.0, none_visited x limit views none.1)

  pub found_nothing : (pool : Pool R A) (x : State) (limit : Option ℕ) → Represents rack area pool x → AreAll pool (IsOnly Rebuild) → SeesNone x → CarriesOut rack area pool x (RebuildDoes x limit (Err fault.Nothing))
  found_nothing pool x limit r alone none = record {
    holds = looks_at 0 x.metaslabs ++ [];
    reached = x;
    store = x.store;
    follows = follows_on (looks_at 0 x.metaslabs) [] x x x (changes_none x [] x.metaslabs 0 refl refl) refl;
    done = (
      refl,
      record {
        views = seen_at 0 x.metaslabs;
        rest = [];
        t = passes.nothing_yet;
        finds = finds Rebuild pool x [] r (no_scrub pool x r alone);
        visits = none_visited x limit (seen_at 0 x.metaslabs) (all_unseen x none);
        none = refl;
      },
    );
    represents = r;
  }

  -- looks come before it
  pub behind_looks : (new : Pool R A) (x : State) (does : List Hold → Store → Type 0) (says : List Hold → Store → Type 0) → ((holds : List Hold) (store : Store) → does holds store → says (looks_at 0 x.metaslabs ++ holds) store)
      → CarriesOut rack area new x does → CarriesOut rack area new x says
  behind_looks new x does says how c = record {
    holds = looks_at 0 x.metaslabs ++ c.holds;
    reached = c.reached;
    store = c.store;
    follows = follows_on (looks_at 0 x.metaslabs) c.holds x x c.reached (changes_none x [] x.metaslabs 0 refl refl) c.follows;
    done = how c.holds c.store c.done;
    represents = c.represents;
  }

  -- ---- and some are visited

  module _ (pool new : Pool R A) (x : State) (limit : Option ℕ) (marks : List Bool) (r : Represents rack area pool x) (alone : AreAll pool (IsOnly Rebuild)) (sees : SeesMarks x marks) (has : HasMark pool marks) where
    rebuilt_of : (holds : List Hold) (o : passes.Outcome) (t : passes.Tally) → passes.VisitsAll x.geometry x.perms Rebuild (IsMarked marks) (seen_at 0 x.metaslabs) limit passes.nothing_yet holds o t
        → passes.VisitsAll x.geometry x.perms Rebuild (passes.IsRebuilt x.geometry x.perms) (seen_at 0 x.metaslabs) limit passes.nothing_yet holds o t
    rebuilt_of holds o t visits =
        visits_as x.geometry x.perms Rebuild (IsMarked marks) (passes.IsRebuilt x.geometry x.perms) (seen_at 0 x.metaslabs) limit passes.nothing_yet holds o t
        (agree_seen (IsMarked marks) (passes.IsRebuilt x.geometry x.perms) 0 x.metaslabs (λ k y at. subst (λ j. IsMarked marks (view_of j y) ↔ passes.IsRebuilt x.geometry x.perms (view_of j y)) (none_before k) (sees k y at))) visits

    rebuilds : (holds : List Hold) (o : passes.Outcome) (t : passes.Tally)
        → passes.VisitsAll x.geometry x.perms Rebuild (IsMarked marks) (seen_at 0 x.metaslabs) limit passes.nothing_yet holds o t
        → passes.Rebuilds x.geometry x.perms limit (looks_at 0 x.metaslabs ++ holds) o t
    rebuilds holds o t visits = record { views = seen_at 0 x.metaslabs; rest = holds; finds = finds Rebuild pool x holds r (no_scrub pool x r alone); some = some_rebuilt rack area pool x marks r sees has; visits = rebuilt_of holds o t visits }

    -- it came to an end, or paused
    mended_so : (p : Progress) (it : Mended) (paused : Bool) (t : passes.Tally) (holds : List Hold) → IsMended p paused it → t ≡ tally_of p
        → passes.VisitsAll x.geometry x.perms Rebuild (IsMarked marks) (seen_at 0 x.metaslabs) limit passes.nothing_yet holds (passes.outcome_of paused) t
        → passes.RebuildReplies x.geometry x.perms limit it.from it.units it.errors it.paused (looks_at 0 x.metaslabs ++ holds)
    mended_so p it paused t holds is tells visits = (
      t,
      subst (λ b. passes.Rebuilds x.geometry x.perms limit (looks_at 0 x.metaslabs ++ holds) (passes.outcome_of b) t) (sym is.paused_is) (rebuilds holds (passes.outcome_of paused) t visits),
      ap (λ (u : passes.Tally). u.from) tells ∙ is.from,
      ap (λ (u : passes.Tally). u.units) tells ∙ sym is.units,
      ap (λ (u : passes.Tally). u.errors) tells ∙ sym is.errors,
    )

    stopped_so : (why : SyncFault) (t : passes.Tally) (holds : List Hold) (store : Store) → store ≡ x.store
        → passes.VisitsAll x.geometry x.perms Rebuild (IsMarked marks) (seen_at 0 x.metaslabs) limit passes.nothing_yet holds (passes.Stopped (end_by why)) t
        → RebuildDoes x limit (Err (stopped_by why)) (looks_at 0 x.metaslabs ++ holds) store
    stopped_so sync.Worn t holds store kept visits = (kept, (t, not_went Unit sync.Worn, rebuilds holds (passes.Stopped (end_by sync.Worn)) t visits))
    stopped_so sync.Last t holds store kept visits = (kept, (t, not_went Unit sync.Last, rebuilds holds (passes.Stopped (end_by sync.Last)) t visits))
    stopped_so sync.Shelf t holds store kept visits = (kept, (t, not_went Unit sync.Shelf, rebuilds holds (passes.Stopped (end_by sync.Shelf)) t visits))
    stopped_so sync.NoMemory t holds store kept visits = (kept, inl (t, not_went Unit sync.NoMemory, rebuilds holds (passes.Stopped (end_by sync.NoMemory)) t visits))

    answers : (end : Visit) (p : Progress) (result : Result Mended MendFault) → HasBegun end p → IsAnswer end p result → (holds : List Hold) (store : Store) → VisitsDo x Rebuild marks (nothing_within limit) end p holds store
        → RebuildDoes x limit result (looks_at 0 x.metaslabs ++ holds) store
    answers visit.Over p (Ok it) has is holds store (kept, (t, tells, visits)) = (kept, mended_so p it false t holds is tells visits)
    answers visit.Over p (Err why) has is holds store does = absurd (was_begun p is.1 has)
    answers visit.Paused p (Ok it) has is holds store (kept, (t, tells, visits)) = (kept, mended_so p it true t holds is tells visits)
    answers visit.Paused p (Err why) has is holds store does = absurd is
    answers (visit.Stopped why) p (Ok it) has is holds store does = absurd is
    answers (visit.Stopped why) p (Err cause) has is holds store (kept, (t, tells, visits)) =
        subst (λ c. RebuildDoes x limit (Err c) (looks_at 0 x.metaslabs ++ holds) store) (sym is) (stopped_so why t holds store kept visits)

    pub answered : (end : Visit) (p : Progress) (result : Result Mended MendFault) → HasBegun end p → IsAnswer end p result → CarriesOut rack area new x (VisitsDo x Rebuild marks (nothing_within limit) end p)
        → CarriesOut rack area new x (RebuildDoes x limit result)
    answered end p result has is c = behind_looks new x (VisitsDo x Rebuild marks (nothing_within limit) end p) (RebuildDoes x limit result) (answers end p result has is) c

-- which metaslabs it visits
pub to_rebuild : {R A : Type 0} (pool : Pool R A) (marks : List Bool) → AreAll pool (IsOnly Rebuild) → AreMarks pool marks → AreToVisit Rebuild pool marks
to_rebuild pool marks alone are m shard there = record { some = λ mark rebuild. (are m shard there).some mark; none = λ mark. no_pass shard (alone m shard there) ((are m shard there).none mark) }

-- where none is rebuilt none has a pass
pub nothing_there : {R A : Type 0} (pool : Pool R A) → AreAll pool (IsOnly Rebuild) → AreAll pool (λ shard. IsRebuiltIn shard → ⊥) → NothingToRebuild pool
nothing_there pool alone none = record { idle = λ m shard there. no_pass shard (alone m shard there) (none m shard there); none = none }
