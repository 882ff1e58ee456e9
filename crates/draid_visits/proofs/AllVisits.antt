-- Visits of a pool's metaslabs, one after another.
use Rattle.std.proofs.Common.{◌≡◌, ◌≢◌, ◌≤◌, ◌+◌, ◌++◌, ◌∙◌, [], ◌∷◌, inl, inr, ℕ, zero, suc, Bool, true, List, Some, arith, drop, refl, sym, ap, subst, length}
use Rattle.std.specs.Prelude.{slice_get}
use Rattle.draid_rack.specs.declared.Rack as racks
use Rattle.draid_area.specs.declared.Area as areas
use Rattle.draid_machine.proofs.Small.{none_some}
use Rattle.draid_names.specs.declared.pass_kind.PassKind.{PassKind}
use Rattle.draid_session.specs.Holds.{Hold, View, view_of}
use Rattle.draid_session.specs.Passes as passes
use Rattle.draid_session.specs.Phases.{End}
use Rattle.draid_session.specs.State.{Metaslab, State}
use Rattle.draid_pool.specs.Carries.{CarriesOut}
use Rattle.draid_pool.specs.Views.{seen_at}
use Rattle.draid_pool.specs.declared.fault.SyncFault.{SyncFault}
use Rattle.draid_pool.specs.declared.pool.Pool.{Pool}
use Rattle.draid_pool.proofs.Lists.{some_of}
use Rattle.draid_visits.specs.Visiting.{IsMarked, VisitIs, VisitsDo, end_by, tally_of}
use Rattle.draid_visits.specs.declared.progress.Progress.{Progress}
use Rattle.draid_visits.specs.declared.progress.Visit.TheVariants as visit
use Rattle.draid_visits.proofs.Leading.{Does, Leads, Steps, leads_done, leads_end, leads_on}

-- ---- what was seen

-- the views from a number on
pub views_more : (m k : ℕ) (ys : List Metaslab) (y : Metaslab) → slice_get ys k ≡ Some y → drop k (seen_at m ys) ≡ view_of (m + k) y ∷ drop (k + 1) (seen_at m ys)
unfolding seen_at
views_more m k [] y there = absurd (none_some (slice_get [] k) y refl there)
views_more m zero (z ∷ ys) y there =
    let same : z ≡ y = some_of (Some z) z y refl there in
    let none : m + 0 ≡ m = omega arith in
    ap (λ v. v ∷ seen_at (m + 1) ys) (ap (λ n. view_of n z) (sym none) ∙ ap (view_of (m + 0)) same)
views_more m (suc k) (z ∷ ys) y there = views_more (m + 1) k ys y there ∙ ap (λ n. view_of n y ∷ drop (k + 1) (seen_at (m + 1) ys)) (let same : m + 1 + k ≡ m + suc k = omega arith in same)
    ∙ ap (λ n. view_of (m + suc k) y ∷ drop n (seen_at m (z ∷ ys))) (let same : suc (k + 1) ≡ suc k + 1 = omega arith in same)

pub views_end : (m k : ℕ) (ys : List Metaslab) → length ys ≤ k → drop k (seen_at m ys) ≡ []
unfolding seen_at
views_end m zero [] long = refl
views_end m (suc k) [] long = refl
views_end m zero (y ∷ ys) long = absurd (omega (arith, long))
views_end m (suc k) (y ∷ ys) long = views_end (m + 1) k ys (omega (arith, long))

-- ---- how they end

pub record VisitsEnd : Type 0 where
  pub o : passes.Outcome
  pub tally : passes.Tally

-- the metaslabs from a number on are visited
abbrev pub FromOn : State → PassKind → List Bool → Progress → ℕ → VisitsEnd → List Hold → Type 0
FromOn x kind marks at m e holds = passes.VisitsAll x.geometry x.perms kind (IsMarked marks) (drop m (seen_at 0 x.metaslabs)) at.left (tally_of at) holds e.o e.tally

abbrev Of : State → PassKind → List Bool → Progress → VisitsEnd → List Hold → List View → Type 0
Of x kind marks at e holds views = passes.VisitsAll x.geometry x.perms kind (IsMarked marks) views at.left (tally_of at) holds e.o e.tally

module _ (x : State) (kind : PassKind) (marks : List Bool) (m : ℕ) (y : Metaslab) (there : slice_get x.metaslabs m ≡ Some y) where
  abbrev rest_of : List View
  rest_of = drop (m + 1) (seen_at 0 x.metaslabs)

  views : drop m (seen_at 0 x.metaslabs) ≡ view_of m y ∷ rest_of
  views = views_more 0 m x.metaslabs y there ∙ ap (λ n. view_of n y ∷ drop (m + 1) (seen_at 0 x.metaslabs)) (let same : 0 + m ≡ m = omega arith in same)

  -- it isn't visited
  pub passed_by : (at : Progress) (e : VisitsEnd) (holds : List Hold) → (IsMarked marks (view_of m y) → ⊥) → FromOn x kind marks at (m + 1) e holds → FromOn x kind marks at m e holds
  passed_by at e holds none is = subst (Of x kind marks at e holds) (sym views) (inl (none, is))

  module _ (rebuilt : IsMarked marks (view_of m y)) where
    -- it was visited, or there was nothing to do
    pub over_then : (at now : Progress) (e : VisitsEnd) (front rest : List Hold) → VisitIs x.geometry x.perms kind m at visit.Over now front → FromOn x kind marks now (m + 1) e rest → FromOn x kind marks at m e (front ++ rest)
    over_then at now e front rest (inl visits) is =
        subst (Of x kind marks at e (front ++ rest)) (sym views) (inr (rebuilt, inr (inr (inl (front, rest, now.left, tally_of now, refl, visits, is)))))
    over_then at now e front rest (inr passed) is =
        subst (Of x kind marks at e (front ++ rest)) (sym views) (inr (rebuilt, inr (inr (inr (front, rest, refl, passed.1, passed.2, subst (λ (q : Progress). FromOn x kind marks q (m + 1) e rest) passed.0 is)))))

    pub pauses_there : (at now : Progress) (holds : List Hold) → VisitIs x.geometry x.perms kind m at visit.Paused now holds → FromOn x kind marks at m (record { o = passes.Paused; tally = tally_of now }) holds
    pauses_there at now holds visits =
        subst (Of x kind marks at (record { o = passes.Paused; tally = tally_of now }) holds) (sym views) (inr (rebuilt, inl (now.left, not_ended, visits)))
      where
        not_ended : passes.Paused ≢ passes.Ended
        not_ended is = absurd (cc)

    pub stops_there : (at now : Progress) (why : SyncFault) (holds : List Hold) → VisitIs x.geometry x.perms kind m at (visit.Stopped why) now holds
        → (t : passes.Tally) × FromOn x kind marks at m (record { o = passes.Stopped (end_by why); tally = t }) holds
    stops_there at now why holds (inl visits) =
        (visits.1, subst (Of x kind marks at (record { o = passes.Stopped (end_by why); tally = visits.1 }) holds) (sym views) (inr (rebuilt, inl (visits.0, not_ended (end_by why), visits.2))))
      where
        not_ended : (end : End) → passes.Stopped end ≢ passes.Ended
        not_ended end is = absurd (cc)
    stops_there at now why holds (inr stops) =
        (tally_of at, subst (Of x kind marks at (record { o = passes.Stopped (end_by why); tally = tally_of at }) holds) (sym views) (inr (rebuilt, inr (inl (end_by why, refl, refl, stops)))))

pub none_left : (x : State) (kind : PassKind) (marks : List Bool) (m : ℕ) (at : Progress) → length x.metaslabs ≤ m → FromOn x kind marks at m (record { o = passes.Ended; tally = tally_of at }) []
none_left x kind marks m at end = subst (Of x kind marks at (record { o = passes.Ended; tally = tally_of at }) []) (sym (views_end 0 m x.metaslabs end)) (refl, refl, refl)

-- there is none from a number on, nor from the next one
pub past_end : (x : State) (kind : PassKind) (marks : List Bool) (m : ℕ) (at : Progress) (e : VisitsEnd) (holds : List Hold) → length x.metaslabs ≤ m → FromOn x kind marks at (m + 1) e holds → FromOn x kind marks at m e holds
past_end x kind marks m at e holds past is = subst (Of x kind marks at e holds) (views_end 0 (m + 1) x.metaslabs (omega (arith, past)) ∙ sym (views_end 0 m x.metaslabs past)) is

-- ---- a pool

module _ {R A : Type 0} (rack : racks.Ghosts R) (area : areas.Ghosts A) (kind : PassKind) (marks : List Bool) (old : Progress) where
  abbrev pub Visiting : Progress → ℕ → Pool R A → State → Type 0
  Visiting at m pool x = Leads rack area {I = VisitsEnd} (FromOn x kind marks old 0) (FromOn x kind marks at m) pool x

  pub visiting_by : (m : ℕ) (pool : Pool R A) (x : State) (y : Metaslab) (at : Progress) → slice_get x.metaslabs m ≡ Some y → (IsMarked marks (view_of m y) → ⊥) → Visiting at m pool x → Visiting at (m + 1) pool x
  visiting_by m pool x y at there none l = record {
    holds = l.holds;
    reached = l.reached;
    follows = l.follows;
    leads = λ e rest is. l.leads e rest (passed_by x kind marks m y there at e rest none is);
    represents = l.represents;
  }

  -- there is none
  pub visiting_past : (m : ℕ) (pool : Pool R A) (x : State) (at : Progress) → length x.metaslabs ≤ m → Visiting at m pool x → Visiting at (m + 1) pool x
  visiting_past m pool x at past l = record {
    holds = l.holds;
    reached = l.reached;
    follows = l.follows;
    leads = λ e rest is. l.leads e rest (past_end x kind marks m at e rest past is);
    represents = l.represents;
  }

  module _ (m : ℕ) (mid new : Pool R A) (x : State) (y : Metaslab) (there : slice_get x.metaslabs m ≡ Some y) (rebuilt : IsMarked marks (view_of m y)) where
    pub visiting_on : (at now : Progress) → Visiting at m mid x → Steps rack area mid new (λ g p holds. VisitIs g p kind m at visit.Over now holds) → Visiting now (m + 1) new x
    visiting_on at now l step =
        leads_on rack area (FromOn x kind marks old 0) (FromOn x kind marks at m) (FromOn x kind marks now (m + 1)) (λ g p holds. VisitIs g p kind m at visit.Over now holds) mid new x l step
        (λ e front rest visits is. over_then x kind marks m y there rebuilt at now e front rest visits is)

    pub visiting_pauses : (at now : Progress) → Visiting at m mid x → Steps rack area mid new (λ g p holds. VisitIs g p kind m at visit.Paused now holds) → CarriesOut rack area new x (VisitsDo x kind marks old visit.Paused now)
    visiting_pauses at now l step =
        let c = leads_end rack area (FromOn x kind marks old 0) (FromOn x kind marks at m) (λ g p holds. VisitIs g p kind m at visit.Paused now holds) mid new x (record { o = passes.Paused; tally = tally_of now }) l step
        (λ holds visits. pauses_there x kind marks m y there rebuilt at now holds visits) in
        record { holds = c.holds; reached = c.reached; store = c.store; follows = c.follows; done = (c.done.0, (tally_of now, refl, c.done.1)); represents = c.represents }

    pub visiting_stops : (at now : Progress) (why : SyncFault) → Visiting at m mid x → Steps rack area mid new (λ g p holds. VisitIs g p kind m at (visit.Stopped why) now holds)
        → CarriesOut rack area new x (VisitsDo x kind marks old (visit.Stopped why) now)
    visiting_stops at now why l step =
        let c = stepped in
        record { holds = c.holds; reached = c.reached; store = c.store; follows = c.follows; done = (c.done.0, (c.done.1.0, tt, c.done.1.1)); represents = c.represents }
      where
        Any : State → ℕ → Progress → Bool → List Hold → Type 0
        Any z k q one holds = (t : passes.Tally) × FromOn z kind marks q k (record { o = passes.Stopped (end_by why); tally = t }) holds

        any : Leads rack area {I = Bool} (Any x 0 old) (Any x m at) mid x
        any = record { holds = l.holds; reached = l.reached; follows = l.follows; leads = λ one rest is. (is.0, l.leads (record { o = passes.Stopped (end_by why); tally = is.0 }) rest is.1); represents = l.represents }

        stepped : CarriesOut rack area new x (Does x (Any x 0 old true))
        stepped = leads_end rack area (Any x 0 old) (Any x m at) (λ g p holds. VisitIs g p kind m at (visit.Stopped why) now holds) mid new x true any step
            (λ holds visits. stops_there x kind marks m y there rebuilt at now why holds visits)

  pub visiting_ends : (m : ℕ) (pool : Pool R A) (x : State) (at : Progress) → Visiting at m pool x → length x.metaslabs ≤ m → CarriesOut rack area pool x (VisitsDo x kind marks old visit.Over at)
  visiting_ends m pool x at l end =
      let c = leads_done rack area (FromOn x kind marks old 0) (FromOn x kind marks at m) pool x (record { o = passes.Ended; tally = tally_of at }) l (none_left x kind marks m at end) in
      record { holds = c.holds; reached = c.reached; store = c.store; follows = c.follows; done = (c.done.0, (tally_of at, refl, c.done.1)); represents = c.represents }
