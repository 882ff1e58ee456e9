-- What a lane's scrub comes to, by what is said of its visits.
use Rattle.std.proofs.Common.{◌≡◌, ◌<◌, ◌≤◌, ◌++◌, ◌∙◌, ℕ, Bool, true, false, List, Option, Ok, Err, drop, refl, sym, ap, subst, length, slice_index_or}
use Rattle.std.specs.Prelude.{◌↔◌, Result}
use Rattle.draid_names.specs.declared.pass_kind.PassKind.TheVariants.{Heal, Rebuild}
use Rattle.draid_session.specs.Holds.{Hold}
use Rattle.draid_session.specs.Looks.{Looks, LooksFrom}
use Rattle.draid_session.specs.Passes as passes
use Rattle.draid_session.specs.Phases.{NoneOf}
use Rattle.draid_session.specs.State.{Metaslab, State}
use Rattle.draid_pool.specs.Views.{seen_at}
use Rattle.draid_pool.specs.declared.fault.SyncFault.{SyncFault}
use Rattle.draid_pool.specs.declared.fault.SyncFault.TheVariants as sync
use Rattle.draid_pool.proofs.Looking.{looked, looks_at}
use Rattle.draid_pool.proofs.SyncSteps.{not_went}
use Rattle.draid_visits.specs.Rebuilding.{IsAnswer, IsMended, ScrubDoes, stopped_by}
use Rattle.draid_visits.specs.Visiting.{IsMarked, end_by, outcome_by, tally_of}
use Rattle.draid_visits.specs.declared.progress.Progress.{Progress}
use Rattle.draid_visits.specs.declared.progress.Visit.{Visit}
use Rattle.draid_visits.specs.declared.progress.Visit.TheVariants as visit
use Rattle.draid_visits.specs.declared.rebuilding.MendFault.{MendFault}
use Rattle.draid_visits.specs.declared.rebuilding.MendFault.TheVariants as fault
use Rattle.draid_visits.specs.declared.rebuilding.Mended.{Mended}
use Rattle.draid_visits.proofs.AllVisits.{VisitsEnd}
use Rattle.draid_visits.proofs.Found.{none_before}
use Rattle.draid_visits.proofs.Scrubbed.{visits_from}

module _ (x : State) (limit : Option ℕ) (marks : List Bool) (ys : List Metaslab) (long : length ys ≡ x.geometry.props.metaslabs) (alone : NoneOf (passes.HasPassOf Rebuild) (seen_at 0 ys)) (first : ℕ)
    (from_first : passes.FromFirst x.geometry x.perms (seen_at 0 ys) (drop first (seen_at 0 ys))) (are : (j : ℕ) → j < length ys → (slice_index_or marks j false ≡ true) ↔ (first ≤ j)) where
  abbrev Visits_all : List Hold → passes.Outcome → passes.Tally → Type 0
  Visits_all holds o t = passes.VisitsAll x.geometry x.perms Heal (IsMarked marks) (seen_at 0 ys) limit passes.nothing_yet holds o t

  looked_all : Looks x.geometry.props.metaslabs (looks_at 0 ys) (seen_at 0 ys)
  looked_all = subst (λ n. LooksFrom 0 n (looks_at 0 ys) (seen_at 0 ys)) long (looked 0 ys)

  -- the first that is visited has a scrub, or all are visited
  scrubs : (holds : List Hold) (o : passes.Outcome) (t : passes.Tally) → Visits_all holds o t → passes.Scrubs x.geometry x.perms limit (looks_at 0 ys ++ holds) o t
  scrubs holds o t visits = record {
    views = seen_at 0 ys;
    visited = drop first (seen_at 0 ys);
    rest = holds;
    finds = record { looks = looks_at 0 ys; are = refl; looked = looked_all; alone = alone };
    from = from_first;
    visits = visits_from x.geometry x.perms marks first 0 ys limit passes.nothing_yet holds o t (λ j less. subst (λ n. (slice_index_or marks n false ≡ true) ↔ (first ≤ j)) (none_before j) (are j less)) visits;
  }

  -- it came to an end, or paused
  mended_so : (p : Progress) (it : Mended) (paused : Bool) (holds : List Hold) → IsMended p paused it → Visits_all holds (passes.outcome_of paused) (tally_of p)
      → passes.ScrubReplies x.geometry x.perms limit it.from it.units it.repaired it.errors it.paused (looks_at 0 ys ++ holds)
  mended_so p it paused holds is visits = (
    tally_of p,
    subst (λ b. passes.Scrubs x.geometry x.perms limit (looks_at 0 ys ++ holds) (passes.outcome_of b) (tally_of p)) (sym is.paused_is) (scrubs holds (passes.outcome_of paused) (tally_of p) visits),
    is.from,
    sym is.units,
    sym is.repaired,
    sym is.errors,
  )

  stopped_so : (why : SyncFault) (t : passes.Tally) (holds : List Hold) → (why ≡ sync.Shelf → ⊥) → Visits_all holds (passes.Stopped (end_by why)) t → ScrubDoes x limit (Err (stopped_by why)) (looks_at 0 ys ++ holds) x.store
  stopped_so sync.Worn t holds shelf visits = (refl, (t, not_went Unit sync.Worn, scrubs holds (passes.Stopped (end_by sync.Worn)) t visits))
  stopped_so sync.Last t holds shelf visits = (refl, (t, not_went Unit sync.Last, scrubs holds (passes.Stopped (end_by sync.Last)) t visits))
  stopped_so sync.Shelf t holds shelf visits = absurd (shelf refl)
  stopped_so sync.NoMemory t holds shelf visits = (refl, (t, not_went Unit sync.NoMemory, scrubs holds (passes.Stopped (end_by sync.NoMemory)) t visits))

  -- the looks, and then the visits
  abbrev pub Whole : VisitsEnd → List Hold → Type 0
  Whole e hs = (rest : List Hold) × (hs ≡ looks_at 0 ys ++ rest) × Visits_all rest e.o e.tally

  -- so at their end
  abbrev pub EndsIn : Visit → Progress → List Hold → Type 0
  EndsIn (visit.Stopped why) q hs = (t : passes.Tally) × Whole (record { o = passes.Stopped (end_by why); tally = t }) hs
  EndsIn result q hs = Whole (record { o = outcome_by result; tally = tally_of q }) hs

  no_shelf : (result : Result Mended MendFault) (cause : MendFault) (why : SyncFault) → result ≡ Err cause → cause ≡ stopped_by why → (result ≡ Err fault.Shelf → ⊥) → why ≡ sync.Shelf → ⊥
  no_shelf result cause why same is not shelf = not (same ∙ ap (λ c. Err c) (is ∙ ap stopped_by shelf))

  -- it had something to do, and no area failed
  pub answers : (end : Visit) (p : Progress) (result : Result Mended MendFault) → (result ≡ Err fault.Nothing → ⊥) → (result ≡ Err fault.Shelf → ⊥) → IsAnswer end p result → (hs : List Hold) → EndsIn end p hs → ScrubDoes x limit result hs x.store
  answers visit.Over p (Ok it) some shelf is hs (rest, are, visits) = subst (λ l. ScrubDoes x limit (Ok it) l x.store) (sym are) (refl, mended_so p it false rest is visits)
  answers visit.Over p (Err why) some shelf is hs d = absurd (some (ap (λ c. Err c) is.0))
  answers visit.Paused p (Ok it) some shelf is hs (rest, are, visits) = subst (λ l. ScrubDoes x limit (Ok it) l x.store) (sym are) (refl, mended_so p it true rest is visits)
  answers visit.Paused p (Err why) some shelf is hs d = absurd is
  answers (visit.Stopped why) p (Ok it) some shelf is hs d = absurd is
  answers (visit.Stopped why) p (Err cause) some shelf is hs (t, (rest, are, visits)) =
      subst (λ c. ScrubDoes x limit (Err c) hs x.store) (sym is) (subst (λ l. ScrubDoes x limit (Err (stopped_by why)) l x.store) (sym are) (stopped_so why t rest (no_shelf (Err cause) cause why refl is shelf) visits))
