-- What the looks of a rebuild or a scrub leave of the metaslabs, and its visits, one after another.
use Rattle.std.proofs.Common.{◌≡◌, ◌<◌, ◌≤◌, ◌+◌, ◌∙◌, ◌⊎◌, inl, inr, ℕ, zero, suc, Bool, true, false, List, Option, Some, None, arith, ap, refl, sym, subst, slice_index_or}
use Rattle.std.specs.Prelude.{Result}
use Rattle.std.proofs.lemmas.Bool.{cases_lt}
use Rattle.draid_machine.proofs.Small.{none_some}
use Rattle.draid_names.specs.declared.pass_kind.PassKind.{PassKind}
use Rattle.draid_rack.specs.declared.Rack as racks
use Rattle.draid_area.specs.declared.Area as areas
use Rattle.draid_session.specs.Passes as passes
use Rattle.draid_shard.specs.declared.shard.Shard.{Shard}
use Rattle.draid_spec.specs.declared.layout.Geometry.{Geometry}
use Rattle.draid_uber.specs.declared.uber.Uber.{Uber}
use Rattle.draid_pool.specs.Drifts.{passes_number}
use Rattle.draid_pool.specs.Rounds.{EachIs, HeldEach, NoneBeyond}
use Rattle.draid_pool.specs.Threads.{AllStay, KeepsWhole, all_of}
use Rattle.draid_pool.specs.declared.fault.SyncFault.{SyncFault}
use Rattle.draid_pool.specs.declared.fault.Synced.{Synced}
use Rattle.draid_pool.proofs.Holding.{some_same}
use Rattle.draid_pool.proofs.RoundSteps.{each_more}
use Rattle.draid_visits.specs.Looks.{FindsMarks, FindsPass, SeesEach, SeesPass, SeesRebuilt}
use Rattle.draid_visits.specs.Readies.{KeptFor}
use Rattle.draid_visits.specs.Visiting.{IsLeft, IsLow, IsOnly}
use Rattle.draid_visits.specs.Visits.{AllOnly, MayVisit, VisitBy, VisitStopsAt, VisitedAt, VisitedUpto}
use Rattle.draid_visits.specs.declared.mending.Mending.{Mending}
use Rattle.draid_visits.specs.declared.progress.Progress.{Progress}
use Rattle.draid_visits.specs.declared.progress.Visit.{Visit}
use Rattle.draid_visits.specs.declared.progress.Visit.TheVariants as visit
use Rattle.draid_visits.proofs.Kept.{low_upto}
use Rattle.draid_visits.proofs.SyncStays.{AllKept, IsKept, all_on, all_same, once_kept, round_kept, stop_kept}
use Rattle.draid_visits.proofs.VisitsStay.{kept_for, whole_then}

-- ---- looks

-- a thread that has no metaslab beyond the first so many has none there then
pub beyond_stays : {R A : Type 0} (owns : ℕ → Bool) (last now : ℕ → Option (Shard R A)) (count : ℕ) → AllStay owns last now → NoneBeyond count last → NoneBeyond count now
beyond_stays owns last now count stay beyond m from = stay.absent m (beyond m from)

module _ {R A S : Type 0} (rack : racks.Ghosts R) (area : areas.Ghosts A) (last : S → ℕ → Option (Shard R A)) (went : S → ℕ → Shard R A → Shard R A → S → Type 0) (shared : Bool) (owns : ℕ → Bool) where
  -- none of those that were looked at has a pass of the kind
  pub only_upto : (kind : PassKind) (n sum : ℕ) (a b : S) → HeldEach rack area last went shared owns (λ none x y. SeesPass kind None x y) n a sum b → EachIs n (IsOnly {R = R} {A = A} (passes.other_kind kind)) (last b)
  only_upto kind zero sum a b each = λ m less. absurd (omega (arith, less))
  only_upto kind (suc n) sum a b (mid, some, more, each, once, adds) =
      subst (λ k. EachIs k (IsOnly {R = R} {A = A} (passes.other_kind kind)) (last b)) (let same : n + 1 ≡ suc n = omega arith in same)
      (each_more (IsOnly {R = R} {A = A} (passes.other_kind kind)) (last mid) (last b) n once.after once.is (subst (λ (s : Shard R A). IsOnly (passes.other_kind kind) s) (sym once.did.same) once.did.none) (only_upto kind n some a mid each))

  pub none_found : (kind : PassKind) (count : ℕ) (a b : S) → FindsPass rack area last went shared owns count kind a None b → NoneBeyond count (last b) → AllOnly {R = R} {A = A} (passes.other_kind kind) (last b)
  none_found kind count a b each beyond m shard at = by (cases_lt m count)
    where
      by : (m < count) ⊎ (count ≤ m) → IsOnly (passes.other_kind kind) shard
      by (inl less) = (let z = only_upto kind count 0 a b each m less in subst (λ (s : Shard R A). IsOnly (passes.other_kind kind) s) (some_same z.0 shard (sym z.1 ∙ at)) z.2)
      by (inr from) = absurd (none_some (last b m) shard (beyond m from) at)

  module _ (own : owns passes_number ≡ true) (kind : PassKind) where
    law : IsKept {R = R} {A = A} rack area shared owns (KeptFor kind)
    law = kept_for rack area kind shared owns own

    still_for : (x y : Shard R A) → y ≡ x → KeptFor kind x y
    still_for x y same = subst (λ (s : Shard R A). KeptFor kind x s) (sym same) (record { part = refl; only = λ one. one })

    find_kept : (of : PassKind) (count : ℕ) (a b : S) (found : Option (ℕ × ℕ)) → FindsPass rack area last went shared owns count of a found b → AllKept {R = R} {A = A} last (KeptFor kind) a b
    find_kept of count a b (Some it) f =
        stop_kept rack area last went shared owns (KeptFor kind) law (λ none x y. SeesPass of None x y) (λ n x y saw. still_for x y saw.same) (λ x y. SeesPass of (Some it.1) x y) (λ x y saw. still_for x y saw.same) count a b f.0
    find_kept of count a b None each = round_kept rack area last went shared owns (KeptFor kind) law (λ none x y. SeesPass of None x y) (λ n x y saw. still_for x y saw.same) count 0 a b each

    sees_kept : (marks : List Bool) (n : ℕ) (a b : S) → SeesEach rack area last went shared owns marks n a b → AllKept {R = R} {A = A} last (KeptFor kind) a b
    sees_kept marks zero a b each = subst (AllKept {R = R} {A = A} last (KeptFor kind) a) (sym each) (all_same rack area last went shared owns (KeptFor kind) law a)
    sees_kept marks (suc n) a b (mid, each, once) =
        all_on rack area last went shared owns (KeptFor kind) law a mid b (sees_kept marks n a mid each)
        (once_kept rack area last went shared owns (KeptFor kind) law (SeesRebuilt rack area (slice_index_or marks n false)) mid n b once (still_for once.before once.after once.did.same))

    -- so a pass of another kind comes to none of them
    only_kept : (a b : S) → AllKept {R = R} {A = A} last (KeptFor kind) a b → AllOnly {R = R} {A = A} kind (last a) → AllOnly {R = R} {A = A} kind (last b)
    only_kept a b kept alone m shard at = (let z = kept m shard at in z.2.only (alone m z.0 z.1))

    pub found_alone : (of : PassKind) (count : ℕ) (a b : S) (found : Option (ℕ × ℕ)) → FindsPass rack area last went shared owns count of a found b → AllOnly {R = R} {A = A} kind (last a) → AllOnly {R = R} {A = A} kind (last b)
    found_alone of count a b found f alone = only_kept a b (find_kept of count a b found f) alone

    pub marked_alone : (count : ℕ) (a b : S) (marks : List Bool) → FindsMarks rack area last went shared owns count a (Some marks) b → AllOnly {R = R} {A = A} kind (last a) → AllOnly {R = R} {A = A} kind (last b)
    marked_alone count a b marks sees alone = only_kept a b (sees_kept marks count a b sees) alone

    pub unmarked_alone : (count : ℕ) (a b : S) → FindsMarks rack area last went shared owns count a None b → AllOnly {R = R} {A = A} kind (last a) → AllOnly {R = R} {A = A} kind (last b)
    unmarked_alone count a b each alone =
        only_kept a b (round_kept rack area last went shared owns (KeptFor kind) law (λ none x y. SeesRebuilt rack area false x y) (λ n x y saw. still_for x y saw.same) count 0 a b each) alone

-- ---- visits, one after another

module _ {R A S : Type 0} (rack : racks.Ghosts R) (area : areas.Ghosts A) (last : S → ℕ → Option (Shard R A)) (went : S → ℕ → Shard R A → Shard R A → S → Type 0) (shared : Bool) (owns : ℕ → Bool) (syncs : (ℕ → Bool) → S → Uber A → Option (Result Synced SyncFault) → S → Uber A → Type 0) (geometry : Geometry) (a : S) (u : Uber A) (was : Mending) where
  -- those below this one were visited so far
  pub record VisitedSoFar (place : ℕ) (now : S) (v : Uber A) (it : Mending) : Type 0 where
    pub may : MayVisit rack area geometry was.kind (last now) v
    pub whole : KeepsWhole rack owns (all_of owns) (last a) (last now)
    pub same : it ≡ record was { next = it.next; progress = it.progress }
    pub low : IsLow place it.progress
    pub left : (limit : Option ℕ) → IsLeft limit was.progress → IsLeft limit it.progress
    pub many : ℕ
    pub is : place ≡ was.next + many
    pub visited : VisitedUpto rack area last went shared owns (syncs owns) geometry was.kind was.marks was.next many a u was.progress now v it.progress

  -- the visit of this one came to another end than the rest of the visits
  pub record VisitedAll (place : ℕ) (result : Option Visit) (new : S) (w : Uber A) (it : Mending) : Type 0 where
    pub may : MayVisit rack area geometry was.kind (last new) w
    pub whole : KeepsWhole rack owns (all_of owns) (last a) (last new)
    pub same : it ≡ record was { next = it.next; progress = it.progress }
    pub left : (limit : Option ℕ) → IsLeft limit was.progress → IsLeft limit it.progress
    pub visits : VisitStopsAt rack area last went shared owns (syncs owns) geometry was.kind was.marks was.next place a u was.progress result new w it.progress

  pub visited_none : MayVisit rack area geometry was.kind (last a) u → IsLow was.next was.progress → VisitedSoFar was.next a u was
  visited_none may low = record {
    may = may;
    whole = λ table seq floor whole. whole;
    same = refl;
    low = low;
    left = λ limit is. is;
    many = 0;
    is = omega arith;
    visited = (refl, refl, refl);
  }

  module _ (place : ℕ) (now : S) (v : Uber A) (it : Mending) (i : VisitedSoFar place now v it) where
    kind_is : it.kind ≡ was.kind
    kind_is = ap (λ (q : Mending). q.kind) i.same

    mark_is : slice_index_or was.marks place false ≡ slice_index_or it.marks place false
    mark_is = ap (λ (q : Mending). slice_index_or q.marks place false) (sym i.same)

    pub may_visit : MayVisit rack area geometry it.kind (last now) v
    may_visit = subst (λ k. MayVisit rack area geometry k (last now) v) (sym kind_is) i.may

    one_more : (many : ℕ) → place ≡ was.next + many → place + 1 ≡ was.next + suc many
    one_more many is = omega (arith, is)

    -- one that isn't marked
    pub visited_past : slice_index_or it.marks place false ≡ false → VisitedSoFar (place + 1) now v it
    visited_past none = record {
      may = i.may;
      whole = i.whole;
      same = i.same;
      low = low_upto place it.progress i.low;
      left = i.left;
      many = suc i.many;
      is = one_more i.many i.is;
      visited = (
        now,
        v,
        it.progress,
        i.visited,
        subst (λ k. VisitedAt rack area last went shared owns (syncs owns) geometry was.kind (slice_index_or was.marks k false) k now v it.progress now v it.progress) i.is
            (subst (λ mark. VisitedAt rack area last went shared owns (syncs owns) geometry was.kind mark place now v it.progress now v it.progress) (sym (mark_is ∙ none)) (refl, refl, refl)),
      );
    }

    -- one that is, by one with the same numbers of its own, which it says of itself
    module _ (mine : ℕ → Bool) (same : mine ≡ owns) (marked : slice_index_or it.marks place false ≡ true) (result : Option Visit) (new : S) (w : Uber A) (q : Progress) (may : MayVisit rack area geometry it.kind (last new) w)
        (more : KeepsWhole rack mine (all_of mine) (last now) (last new)) (left : (limit : Option ℕ) → IsLeft limit it.progress → IsLeft limit q) (visits : VisitBy rack area last went shared mine (syncs mine) geometry it.kind place now v it.progress result new w q) where
      may_then : MayVisit rack area geometry was.kind (last new) w
      may_then = subst (λ k. MayVisit rack area geometry k (last new) w) kind_is may

      whole_on : KeepsWhole rack owns (all_of owns) (last a) (last new)
      whole_on = whole_then rack owns mine same (last a) (last now) (last new) i.whole more

      same_then : record it { next = place; progress = q } ≡ record was { next = place; progress = q }
      same_then = ap (λ (m : Mending). record m { next = place; progress = q }) i.same

      visit_by : (end : Option Visit) → result ≡ end → VisitBy rack area last went shared owns (syncs owns) geometry was.kind place now v it.progress end new w q
      visit_by end is =
          subst (λ o. VisitBy rack area last went shared o (syncs o) geometry was.kind place now v it.progress end new w q) same
          (subst (λ k. VisitBy rack area last went shared mine (syncs mine) geometry k place now v it.progress end new w q) kind_is (subst (λ e. VisitBy rack area last went shared mine (syncs mine) geometry it.kind place now v it.progress e new w q) is visits))

      pub visited_more : result ≡ Some visit.Over → IsLow (place + 1) q → VisitedSoFar (place + 1) new w (record it { next = place; progress = q })
      visited_more is low = record {
        may = may_then;
        whole = whole_on;
        same = same_then;
        low = low;
        left = λ limit had. left limit (i.left limit had);
        many = suc i.many;
        is = one_more i.many i.is;
        visited = (
          now,
          v,
          it.progress,
          i.visited,
          subst (λ k. VisitedAt rack area last went shared owns (syncs owns) geometry was.kind (slice_index_or was.marks k false) k now v it.progress new w q) i.is
              (subst (λ mark. VisitedAt rack area last went shared owns (syncs owns) geometry was.kind mark place now v it.progress new w q) (sym (mark_is ∙ marked)) (visit_by (Some visit.Over) is)),
        );
      }

      pub visited_stop : (end : Option Visit) → result ≡ end → place < geometry.props.metaslabs → VisitedAll place end new w (record it { next = place; progress = q })
      visited_stop end is below = record {
        may = may_then;
        whole = whole_on;
        same = same_then;
        left = λ limit had. left limit (i.left limit had);
        visits = record { many = i.many; is = i.is; below = below; marked = mark_is ∙ marked; mid = now; uber = v; upto = it.progress; front = i.visited; stop = visit_by end is };
      }
