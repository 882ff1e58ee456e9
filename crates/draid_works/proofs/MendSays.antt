-- A lane's rebuild in the session's words, from the looks of its meeting on.
use Rattle.std.proofs.Common.{◌≡◌, ◌++◌, ◌∷◌, ◌∙◌, [], inl, inr, ℕ, Bool, true, false, List, Option, Some, None, Ok, Err, refl, sym, ap, subst, length}
use Rattle.std.specs.Prelude.{Result}
use Rattle.draid_names.specs.declared.pass_kind.PassKind.{PassKind}
use Rattle.draid_names.specs.declared.pass_kind.PassKind.TheVariants.{Heal, Rebuild}
use Rattle.draid_session.specs.Holds.{Hold, View}
use Rattle.draid_session.specs.Looks.{Looks, LooksFrom}
use Rattle.draid_session.specs.Passes as passes
use Rattle.draid_session.specs.Phases.{NoneOf}
use Rattle.draid_session.specs.State.{Metaslab, State}
use Rattle.draid_pool.specs.Views.{seen_at}
use Rattle.draid_pool.specs.declared.fault.SyncFault.{SyncFault}
use Rattle.draid_pool.specs.declared.fault.SyncFault.TheVariants as sync
use Rattle.draid_pool.proofs.Looking.{looked, looks_at}
use Rattle.draid_pool.proofs.SyncSteps.{not_went}
use Rattle.draid_visits.specs.Rebuilding.{IsAnswer, IsMended, RebuildDoes, stopped_by}
use Rattle.draid_visits.specs.Visiting.{IsMarked, end_by, outcome_by, tally_of}
use Rattle.draid_visits.specs.declared.progress.Progress.{Progress}
use Rattle.draid_visits.specs.declared.progress.Visit.{Visit}
use Rattle.draid_visits.specs.declared.progress.Visit.TheVariants as visit
use Rattle.draid_visits.specs.declared.rebuilding.MendFault.{MendFault}
use Rattle.draid_visits.specs.declared.rebuilding.MendFault.TheVariants as fault
use Rattle.draid_visits.specs.declared.rebuilding.Mended.{Mended}
use Rattle.draid_visits.proofs.AllVisits.{VisitsEnd}
use Rattle.draid_visits.proofs.Rebuilt.{AgreeOn, visits_as}

-- ---- what is said of the visits of a rebuild

-- none of the views is visited
none_visits : (x : State) (kind : PassKind) (P : View → Type 0) (views : List View) (left : Option ℕ) (t : passes.Tally) (holds : List Hold) (o : passes.Outcome) (new : passes.Tally) → NoneOf P views → passes.VisitsAll x.geometry x.perms kind P views left t holds o new
    → (o ≡ passes.Ended) × (new ≡ t)
none_visits x kind P [] left t holds o new none is = (is.1, is.2)
none_visits x kind P (v ∷ views) left t holds o new none (inl w) = none_visits x kind P views left t holds o new none.1 w.1
none_visits x kind P (v ∷ views) left t holds o new none (inr w) = absurd (none.0 w.0)

module _ (x : State) (limit : Option ℕ) (marks : List Bool) (ys : List Metaslab) (long : length ys ≡ x.geometry.props.metaslabs) (alone : NoneOf (passes.HasPassOf Heal) (seen_at 0 ys)) (agree : AgreeOn (IsMarked marks) (passes.IsRebuilt x.geometry x.perms) (seen_at 0 ys)) where
  abbrev Visits_all : List Hold → passes.Outcome → passes.Tally → Type 0
  Visits_all holds o t = passes.VisitsAll x.geometry x.perms Rebuild (IsMarked marks) (seen_at 0 ys) limit passes.nothing_yet holds o t

  looked_all : Looks x.geometry.props.metaslabs (looks_at 0 ys) (seen_at 0 ys)
  looked_all = subst (λ n. LooksFrom 0 n (looks_at 0 ys) (seen_at 0 ys)) long (looked 0 ys)

  finds : (rest : List Hold) → passes.FindsNoOther x.geometry x.perms Rebuild (looks_at 0 ys ++ rest) (seen_at 0 ys) rest
  finds rest = record { looks = looks_at 0 ys; are = refl; looked = looked_all; alone = alone }

  rebuilt_of : (holds : List Hold) (o : passes.Outcome) (t : passes.Tally) → Visits_all holds o t → passes.VisitsAll x.geometry x.perms Rebuild (passes.IsRebuilt x.geometry x.perms) (seen_at 0 ys) limit passes.nothing_yet holds o t
  rebuilt_of holds o t visits = visits_as x.geometry x.perms Rebuild (IsMarked marks) (passes.IsRebuilt x.geometry x.perms) (seen_at 0 ys) limit passes.nothing_yet holds o t agree visits

  -- where it came to another end, or a pass went on, one is visited
  rebuilds : (holds : List Hold) (o : passes.Outcome) (t : passes.Tally) → ((o ≡ passes.Ended) × (t ≡ passes.nothing_yet) → ⊥) → Visits_all holds o t → passes.Rebuilds x.geometry x.perms limit (looks_at 0 ys ++ holds) o t
  rebuilds holds o t not visits =
      let all = rebuilt_of holds o t visits in
      record { views = seen_at 0 ys; rest = holds; finds = finds holds; some = λ none. not (none_visits x Rebuild (passes.IsRebuilt x.geometry x.perms) (seen_at 0 ys) limit passes.nothing_yet holds o t none all); visits = all }

  -- it came to an end, or paused
  mended_so : (p : Progress) (it : Mended) (paused : Bool) (holds : List Hold) → IsMended p paused it → Visits_all holds (passes.outcome_of paused) (tally_of p)
      → passes.RebuildReplies x.geometry x.perms limit it.from it.units it.errors it.paused (looks_at 0 ys ++ holds)
  mended_so p it paused holds is visits = (
    tally_of p,
    subst (λ b. passes.Rebuilds x.geometry x.perms limit (looks_at 0 ys ++ holds) (passes.outcome_of b) (tally_of p)) (sym is.paused_is)
        (rebuilds holds (passes.outcome_of paused) (tally_of p) (λ none. begun p.from it.from is.from (ap (λ (t : passes.Tally). t.from) none.1)) visits),
    is.from,
    sym is.units,
    sym is.errors,
  )
    where
      begun : (o : Option ℕ) (n : ℕ) → o ≡ Some n → o ≡ None → ⊥
      begun o n some none = absurd (let no : None ≡ Some n = sym none ∙ some in cc)

  stopped_so : (why : SyncFault) (t : passes.Tally) (holds : List Hold) → Visits_all holds (passes.Stopped (end_by why)) t → RebuildDoes x limit (Err (stopped_by why)) (looks_at 0 ys ++ holds) x.store
  stopped_so why t holds visits = by why (rebuilds holds (passes.Stopped (end_by why)) t (λ none. never (end_by why) none.0) visits)
    where
      never : (end : _) → passes.Stopped end ≡ passes.Ended → ⊥
      never end is = absurd (cc)

      by : (w : SyncFault) → passes.Rebuilds x.geometry x.perms limit (looks_at 0 ys ++ holds) (passes.Stopped (end_by w)) t → RebuildDoes x limit (Err (stopped_by w)) (looks_at 0 ys ++ holds) x.store
      by sync.Worn r = (refl, (t, not_went Unit sync.Worn, r))
      by sync.Last r = (refl, (t, not_went Unit sync.Last, r))
      by sync.Shelf r = (refl, (t, not_went Unit sync.Shelf, r))
      by sync.NoMemory r = (refl, inl (t, not_went Unit sync.NoMemory, r))

  -- the looks, and then the visits
  abbrev pub Whole : VisitsEnd → List Hold → Type 0
  Whole e hs = (rest : List Hold) × (hs ≡ looks_at 0 ys ++ rest) × Visits_all rest e.o e.tally

  -- so at their end
  abbrev pub EndsIn : Visit → Progress → List Hold → Type 0
  EndsIn (visit.Stopped why) q hs = (t : passes.Tally) × Whole (record { o = passes.Stopped (end_by why); tally = t }) hs
  EndsIn result q hs = Whole (record { o = outcome_by result; tally = tally_of q }) hs

  pub answers : (end : Visit) (p : Progress) (result : Result Mended MendFault) → IsAnswer end p result → (hs : List Hold) → EndsIn end p hs → RebuildDoes x limit result hs x.store
  answers visit.Over p (Ok it) is hs (rest, are, visits) = subst (λ l. RebuildDoes x limit (Ok it) l x.store) (sym are) (refl, mended_so p it false rest is visits)
  answers visit.Over p (Err why) is hs (rest, are, visits) =
      subst (λ w. RebuildDoes x limit (Err w) hs x.store) (sym is.0)
      (subst (λ l. RebuildDoes x limit (Err fault.Nothing) l x.store) (sym are) (refl, record { views = seen_at 0 ys; rest = rest; t = tally_of p; finds = finds rest; visits = rebuilt_of rest passes.Ended (tally_of p) visits; none = is.1 }))
  answers visit.Paused p (Ok it) is hs (rest, are, visits) = subst (λ l. RebuildDoes x limit (Ok it) l x.store) (sym are) (refl, mended_so p it true rest is visits)
  answers visit.Paused p (Err why) is hs d = absurd is
  answers (visit.Stopped why) p (Ok it) is hs d = absurd is
  answers (visit.Stopped why) p (Err cause) is hs (t, (rest, are, visits)) = subst (λ c. RebuildDoes x limit (Err c) hs x.store) (sym is) (subst (λ l. RebuildDoes x limit (Err (stopped_by why)) l x.store) (sym are) (stopped_so why t rest visits))
