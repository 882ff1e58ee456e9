-- The answers of a scrub of a pool.
use Rattle.std.proofs.Common.{◌≡◌, ◌<◌, ◌≤◌, ◌+◌, ◌++◌, ◌∙◌, [], ◌∷◌, inl, inr, ℕ, zero, suc, Bool, true, false, List, Option, Some, None, Result, Ok, Err, arith, drop, take, refl, sym, ap, subst, length}
use Rattle.std.specs.Prelude.{◌↔◌, IfSome, option_map, slice_get, slice_index_or}
use Rattle.std.proofs.lemmas.Bool.{cases_lt, true≢false}
use Rattle.std.proofs.lemmas.List.{take-append-drop}
use Rattle.std.proofs.lemmas.Option.{slice_get_within}
use Rattle.draid_rack.specs.declared.Rack as racks
use Rattle.draid_area.specs.declared.Area as areas
use Rattle.draid_names.specs.declared.pass_kind.PassKind.TheVariants.{Heal, Rebuild}
use Rattle.draid_perm.specs.declared.perms.Perms.{Perms}
use Rattle.draid_spec.specs.declared.layout.Geometry.{Geometry}
use Rattle.draid_pass.specs.declared.pass.Pass.{Pass}
use Rattle.draid_slots.specs.States.{pass_in}
use Rattle.draid_session.specs.Holds.{Hold, View, view_of}
use Rattle.draid_session.specs.Passes as passes
use Rattle.draid_session.specs.Phases.{NoneOf}
use Rattle.draid_session.specs.State.{Metaslab, State, Store}
use Rattle.draid_pool.specs.Carries.{CarriesOut}
use Rattle.draid_pool.specs.Pools.{Represents}
use Rattle.draid_pool.specs.Views.{seen_at}
use Rattle.draid_pool.specs.Whole.{IsWhole}
use Rattle.draid_pool.specs.declared.fault.SyncFault.{SyncFault}
use Rattle.draid_pool.specs.declared.fault.SyncFault.TheVariants as sync
use Rattle.draid_pool.specs.declared.pool.Pool.{Pool}
use Rattle.draid_pool.proofs.Looking.{looks_at}
use Rattle.draid_pool.proofs.SyncSteps.{not_went}
use Rattle.draid_visits.specs.Rebuilding.{IsAnswer, IsFirstScrub, IsLowestPass, IsMended, RunsWhere, ScrubDoes, ScrubIs, stopped_by}
use Rattle.draid_visits.specs.Visiting.{AreAll, AreToVisit, HasBegun, HasMark, IsLow, IsMarked, IsOnly, Leaves, VisitsDo, end_by, nothing_within, tally_of}
use Rattle.draid_visits.specs.declared.progress.Progress.{Progress}
use Rattle.draid_visits.specs.declared.progress.Visit.{Visit}
use Rattle.draid_visits.specs.declared.progress.Visit.TheVariants as visit
use Rattle.draid_visits.specs.declared.rebuilding.MendFault.{MendFault}
use Rattle.draid_visits.specs.declared.rebuilding.MendFault.TheVariants as fault
use Rattle.draid_visits.specs.declared.rebuilding.Mended.{Mended}
use Rattle.draid_visits.proofs.AllVisits.{views_more}
use Rattle.draid_visits.proofs.Found.{lower_unseen, none_before, none_seen_of, seen_in}
use Rattle.draid_visits.proofs.Rebuilt.{agree_seen, behind_looks, finds, found_other, visits_as, was_begun}

pub never_shelf : Heal ≡ Rebuild → ⊥
never_shelf is = absurd (cc)

-- nothing was done yet
pub low_first : (limit : Option ℕ) → IsLow 0 (nothing_within limit)
low_first limit = record { stripes = omega arith; repaired = omega arith; errors = omega arith }

no_rebuild : Heal ≡ Rebuild → ⊥
no_rebuild is = absurd (cc)

-- ---- those that are visited

-- a metaslab is marked just from the first on
abbrev pub MarksFrom : List Bool → ℕ → Type 0
MarksFrom marks first = (k : ℕ) → k < 64 → (slice_index_or marks k false ≡ true) ↔ (first ≤ k)

pub visits_from : (g : Geometry) (p : Perms) (marks : List Bool) (k m : ℕ) (ys : List Metaslab) (left : Option ℕ) (t : passes.Tally) (holds : List Hold) (o : passes.Outcome) (new : passes.Tally)
    → ((j : ℕ) → j < length ys → (slice_index_or marks (m + j) false ≡ true) ↔ (k ≤ j)) → passes.VisitsAll g p Heal (IsMarked marks) (seen_at m ys) left t holds o new
    → passes.VisitsAll g p Heal (passes.AnyView g p) (drop k (seen_at m ys)) left t holds o new
unfolding seen_at
visits_from g p marks zero m ys left t holds o new are is =
    visits_as g p Heal (IsMarked marks) (passes.AnyView g p) (seen_at m ys) left t holds o new
    (agree_seen (IsMarked marks) (passes.AnyView g p) m ys (λ j y at. (λ mark. tt, λ any. (are j (slice_get_within ys j y at)).1 (let low : 0 ≤ j = omega arith in low)))) is
visits_from g p marks (suc k) m [] left t holds o new are is = is
visits_from g p marks (suc k) m (y ∷ ys) left t holds o new are (inl w) =
    visits_from g p marks k (m + 1) ys left t holds o new
    (λ j less. (let at = are (suc j) (omega (arith, less)) in
    let same : m + suc j ≡ m + 1 + j = omega arith in
    (λ mark. (let low = at.0 (subst (λ n. slice_index_or marks n false ≡ true) (sym same) mark) in omega (arith, low)), λ low. subst (λ n. slice_index_or marks n false ≡ true) same (at.1 (omega (arith, low)))))) w.1
visits_from g p marks (suc k) m (y ∷ ys) left t holds o new are (inr (mark, w)) =
    absurd (let same : m ≡ m + 0 = omega arith in let low = (are 0 (omega arith)).0 (subst (λ n. slice_index_or marks n false ≡ true) same mark) in omega (arith, low))

-- none of the first so many has a scrub
pub none_taken : (P : View → Type 0) (k m : ℕ) (ys : List Metaslab) → ((j : ℕ) (y : Metaslab) → j < k → slice_get ys j ≡ Some y → P (view_of (m + j) y) → ⊥) → NoneOf P (take k (seen_at m ys))
unfolding seen_at
none_taken P zero m ys none = tt
none_taken P (suc k) m [] none = tt
none_taken P (suc k) m (y ∷ ys) none = (
  λ is. none 0 y (omega arith) refl (subst (λ j. P (view_of j y)) (let same : m ≡ m + 0 = omega arith in same) is),
  none_taken P k (m + 1) ys (λ j z less at is. none (suc j) z (omega (arith, less)) at (subst (λ i. P (view_of i z)) (let same : m + 1 + j ≡ m + suc j = omega arith in same) is)),
)

module _ {R A : Type 0} (pool : Pool R A) (marks : List Bool) (first : ℕ) (are : MarksFrom marks first) where
  unmarked : (m : ℕ) → m < 64 → slice_index_or marks m false ≡ false → m < first
  unmarked m few none = elim (cases_lt m first) [
    | inl less ↦ less
    | inr past ↦ absurd (true≢false (sym ((are m few).1 (omega (arith, past))) ∙ none))
  ]

  pub to_scrub : length pool.metaslabs.shards.items ≤ 64 → AreAll pool (IsOnly Heal) → IsFirstScrub first pool → AreToVisit Heal pool marks
  to_scrub few alone is m shard there = record { some = λ mark rebuild. absurd (no_rebuild rebuild); none = λ none. by is (let inside = slice_get_within pool.metaslabs.shards.items m shard there in unmarked m (omega (arith, inside, few)) none) }
    where
      idle : ((p : Pass) → shard.pass ≡ Some p → p.kind ≡ Heal → ⊥) → (o : Option Pass) → shard.pass ≡ o → IfSome o (λ (p : Pass). p.kind ≡ Heal) → shard.pass ≡ None
      idle never None own only = own
      idle never (Some p) own only = absurd (never p own only)

      by : IsFirstScrub first pool → m < first → shard.pass ≡ None
      by (inl (number, low)) less = idle (λ p own kind. low.lower m p.number shard less there (record { pass = p; has = own; kind_is = kind; number_is = refl })) shard.pass refl (alone m shard there)
      by (inr (zero_is, only)) less = absurd (omega (arith, zero_is, less))

  pub one_to_scrub : 1 ≤ length pool.metaslabs.shards.items → length pool.metaslabs.shards.items ≤ 64 → IsFirstScrub first pool → HasMark pool marks
  one_to_scrub some few (inl (number, low)) =
      let inside = slice_get_within pool.metaslabs.shards.items first low.shard low.there in
      record { metaslab = first; inside = inside; is = (are first (omega (arith, inside, few))).1 (omega arith) }
  one_to_scrub some few (inr (zero_is, only)) = record { metaslab = 0; inside = some; is = (are 0 (omega arith)).1 (omega (arith, zero_is)) }

-- ---- the passes behind it

pub scrubs_behind : {R A : Type 0} (end : Visit) (p : Progress) (result : Result Mended MendFault) (old new : Pool R A) → HasBegun end p → IsAnswer end p result → (end ≡ visit.Stopped sync.Shelf → ⊥) → Leaves Heal end new
    → ScrubIs result old new
scrubs_behind visit.Over p (Ok it) old new has is shelf leaves = subst (λ b. RunsWhere Heal b new) (sym is.paused_is) leaves
scrubs_behind visit.Over p (Err why) old new has is shelf leaves = absurd (was_begun p is.1 has)
scrubs_behind visit.Paused p (Ok it) old new has is shelf leaves = subst (λ b. RunsWhere Heal b new) (sym is.paused_is) leaves
scrubs_behind visit.Paused p (Err why) old new has is shelf leaves = absurd is
scrubs_behind (visit.Stopped why) p (Ok it) old new has is shelf leaves = absurd is
scrubs_behind {R} {A} (visit.Stopped why) p (Err cause) old new has is shelf leaves = subst (λ c. ScrubIs (Err c) old new) (sym is) (by why shelf)
  where
    by : (w : SyncFault) → (visit.Stopped w ≡ visit.Stopped sync.Shelf → ⊥) → ScrubIs (Err (stopped_by w)) old new
    by sync.Worn not = tt
    by sync.Last not = tt
    by sync.Shelf not = not refl
    by sync.NoMemory not = tt

module _ {R A : Type 0} (rack : racks.Ghosts R) (area : areas.Ghosts A) where
  pub few_metaslabs : (pool : Pool R A) → IsWhole rack area pool → length pool.metaslabs.shards.items ≤ 64
  few_metaslabs pool w = (let many = w.many in let most = w.layout.geometry_is.props.most_metaslabs in omega (arith, many, most))

  pub some_metaslab : (pool : Pool R A) → IsWhole rack area pool → 1 ≤ length pool.metaslabs.shards.items
  some_metaslab pool w = (let many = w.many in let least = w.layout.geometry_is.props.some_metaslabs in omega (arith, many, least))

  -- a rebuild was found
  pub found_rebuild : (pool : Pool R A) (x : State) (limit : Option ℕ) (metaslab number : ℕ) → Represents rack area pool x → IsLowestPass Rebuild metaslab number pool
      → CarriesOut rack area pool x (ScrubDoes x limit (Err (fault.PassThere metaslab number)))
  found_rebuild pool x limit metaslab number r low = found_other rack area Heal pool x metaslab number (ScrubDoes x limit (Err (fault.PassThere metaslab number))) r low (λ finds. (refl, finds))

  module _ (pool new : Pool R A) (x : State) (limit : Option ℕ) (marks : List Bool) (first : ℕ) (are : MarksFrom marks first) (few : length pool.metaslabs.shards.items ≤ 64) (r : Represents rack area pool x)
      (alone : AreAll pool (IsOnly Heal)) (is_first : IsFirstScrub first pool) where
    from_first : passes.FromFirst x.geometry x.perms (seen_at 0 x.metaslabs) (drop first (seen_at 0 x.metaslabs))
    from_first = by is_first
      where
        by : IsFirstScrub first pool → passes.FromFirst x.geometry x.perms (seen_at 0 x.metaslabs) (drop first (seen_at 0 x.metaslabs))
        by (inr (zero_is, only)) = inl (none_seen_of rack area Heal pool x r only, ap (λ n. drop n (seen_at 0 x.metaslabs)) zero_is)
        by (inl (number, low)) =
            let z = seen_in rack area pool x r first (slice_get_within pool.metaslabs.shards.items first low.shard low.there) in
            let more : drop first (seen_at 0 x.metaslabs) ≡ view_of first z.0 ∷ drop (first + 1) (seen_at 0 x.metaslabs)
            = views_more 0 first x.metaslabs z.0 z.1 ∙ ap (λ n. view_of n z.0 ∷ drop (first + 1) (seen_at 0 x.metaslabs)) (let same : 0 + first ≡ first = omega arith in same) in
            inr (
              take first (seen_at 0 x.metaslabs),
              view_of first z.0,
              drop (first + 1) (seen_at 0 x.metaslabs),
              sym (take-append-drop first (seen_at 0 x.metaslabs)) ∙ ap (λ vs. take first (seen_at 0 x.metaslabs) ++ vs) more,
              none_taken (passes.HasPassOf Heal) first 0 x.metaslabs (lower_unseen rack area Heal pool x first number r low),
              (
                pass_in low.shard.slots low.has.pass,
                (r.stands.each first low.shard z.0 low.there z.1).stands.is_in.pass ∙ ap (option_map (pass_in low.shard.slots)) low.has.has,
                low.has.kind_is,
              ),
              more,
            )

    scrubs : (holds : List Hold) (o : passes.Outcome) (t : passes.Tally) → passes.VisitsAll x.geometry x.perms Heal (IsMarked marks) (seen_at 0 x.metaslabs) limit passes.nothing_yet holds o t
        → passes.Scrubs x.geometry x.perms limit (looks_at 0 x.metaslabs ++ holds) o t
    scrubs holds o t visits = record {
      views = seen_at 0 x.metaslabs;
      visited = drop first (seen_at 0 x.metaslabs);
      rest = holds;
      finds = finds rack area Heal pool x holds r (none_seen_of rack area Rebuild pool x r alone);
      from = from_first;
      visits = visits_from x.geometry x.perms marks first 0 x.metaslabs limit passes.nothing_yet holds o t
          (λ j less. subst (λ n. (slice_index_or marks n false ≡ true) ↔ (first ≤ j)) (none_before j) (are j (let same = r.stands.shards in omega (arith, less, few, same)))) visits;
    }

    -- it came to an end, or paused
    mended_so : (p : Progress) (it : Mended) (paused : Bool) (t : passes.Tally) (holds : List Hold) → IsMended p paused it → t ≡ tally_of p
        → passes.VisitsAll x.geometry x.perms Heal (IsMarked marks) (seen_at 0 x.metaslabs) limit passes.nothing_yet holds (passes.outcome_of paused) t
        → passes.ScrubReplies x.geometry x.perms limit it.from it.units it.repaired it.errors it.paused (looks_at 0 x.metaslabs ++ holds)
    mended_so p it paused t holds is tells visits = (
      t,
      subst (λ b. passes.Scrubs x.geometry x.perms limit (looks_at 0 x.metaslabs ++ holds) (passes.outcome_of b) t) (sym is.paused_is) (scrubs holds (passes.outcome_of paused) t visits),
      ap (λ (u : passes.Tally). u.from) tells ∙ is.from,
      ap (λ (u : passes.Tally). u.units) tells ∙ sym is.units,
      ap (λ (u : passes.Tally). u.repaired) tells ∙ sym is.repaired,
      ap (λ (u : passes.Tally). u.errors) tells ∙ sym is.errors,
    )

    stopped_so : (why : SyncFault) (t : passes.Tally) (holds : List Hold) (store : Store) → (visit.Stopped why ≡ visit.Stopped sync.Shelf → ⊥) → store ≡ x.store
        → passes.VisitsAll x.geometry x.perms Heal (IsMarked marks) (seen_at 0 x.metaslabs) limit passes.nothing_yet holds (passes.Stopped (end_by why)) t
        → ScrubDoes x limit (Err (stopped_by why)) (looks_at 0 x.metaslabs ++ holds) store
    stopped_so sync.Worn t holds store shelf kept visits = (kept, (t, not_went Unit sync.Worn, scrubs holds (passes.Stopped (end_by sync.Worn)) t visits))
    stopped_so sync.Last t holds store shelf kept visits = (kept, (t, not_went Unit sync.Last, scrubs holds (passes.Stopped (end_by sync.Last)) t visits))
    stopped_so sync.Shelf t holds store shelf kept visits = absurd (shelf refl)
    stopped_so sync.NoMemory t holds store shelf kept visits = (kept, (t, not_went Unit sync.NoMemory, scrubs holds (passes.Stopped (end_by sync.NoMemory)) t visits))

    answers : (end : Visit) (p : Progress) (result : Result Mended MendFault) → (end ≡ visit.Stopped sync.Shelf → ⊥) → HasBegun end p → IsAnswer end p result → (holds : List Hold) (store : Store)
        → VisitsDo x Heal marks (nothing_within limit) end p holds store → ScrubDoes x limit result (looks_at 0 x.metaslabs ++ holds) store
    answers visit.Over p (Ok it) shelf has is holds store (kept, (t, tells, visits)) = (kept, mended_so p it false t holds is tells visits)
    answers visit.Over p (Err why) shelf has is holds store does = absurd (was_begun p is.1 has)
    answers visit.Paused p (Ok it) shelf has is holds store (kept, (t, tells, visits)) = (kept, mended_so p it true t holds is tells visits)
    answers visit.Paused p (Err why) shelf has is holds store does = absurd is
    answers (visit.Stopped why) p (Ok it) shelf has is holds store does = absurd is
    answers (visit.Stopped why) p (Err cause) shelf has is holds store (kept, (t, tells, visits)) =
        subst (λ c. ScrubDoes x limit (Err c) (looks_at 0 x.metaslabs ++ holds) store) (sym is) (stopped_so why t holds store shelf kept visits)

    pub scrub_answered : (end : Visit) (p : Progress) (result : Result Mended MendFault) → (end ≡ visit.Stopped sync.Shelf → ⊥) → HasBegun end p → IsAnswer end p result
        → CarriesOut rack area new x (VisitsDo x Heal marks (nothing_within limit) end p) → CarriesOut rack area new x (ScrubDoes x limit result)
    scrub_answered end p result shelf has is c = behind_looks rack area new x (VisitsDo x Heal marks (nothing_within limit) end p) (ScrubDoes x limit result) (answers end p result shelf has is) c
