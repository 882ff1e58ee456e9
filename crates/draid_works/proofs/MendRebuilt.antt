-- A lane's rebuild, from the looks of its meeting on: it is said to be one, but for looks.
use Rattle.std.proofs.Common.{◌≡◌, ◌<◌, ◌++◌, ◌∷◌, ◌∙◌, [], inl, inr, ℕ, Bool, true, List, Option, Some, None, Err, refl, sym, subst, length}
use Rattle.std.specs.Prelude.{◌↔◌, Result}
use Rattle.std.proofs.lemmas.Bool.{true≢false}
use Rattle.std.proofs.lemmas.List.{append-nil}
use Rattle.draid_names.specs.declared.pass_kind.PassKind.{PassKind}
use Rattle.draid_names.specs.declared.pass_kind.PassKind.TheVariants.{Heal, Rebuild}
use Rattle.draid_rack.specs.declared.Rack as racks
use Rattle.draid_area.specs.declared.Area as areas
use Rattle.draid_session.specs.Holds.{Hold, View, view_of}
use Rattle.draid_session.specs.Lanes.{LeavesLooks}
use Rattle.draid_session.specs.Passes as passes
use Rattle.draid_session.specs.Phases.{NoneOf}
use Rattle.draid_session.specs.State.{State}
use Rattle.draid_uber.specs.declared.uber.Uber.{Uber}
use Rattle.draid_pool.specs.Drifts.{groups_number, passes_number}
use Rattle.draid_pool.specs.Views.{seen_at}
use Rattle.draid_pool.proofs.Looking.{looks_at, none_seen}
use Rattle.draid_visits.specs.Looks.{FindsMarks, FindsPass}
use Rattle.draid_visits.specs.Rebuilding.{IsAnswer, RebuildDoes}
use Rattle.draid_visits.specs.Visiting.{IsMarked, end_by, nothing_within, tally_of}
use Rattle.draid_visits.specs.Visits.{AnswersBy, MendsBy, VisitsBy}
use Rattle.draid_visits.specs.declared.mending.Mending.{Mending}
use Rattle.draid_visits.specs.declared.progress.Progress.{Progress}
use Rattle.draid_visits.specs.declared.progress.Visit.{Visit}
use Rattle.draid_visits.specs.declared.progress.Visit.TheVariants as visit
use Rattle.draid_visits.specs.declared.rebuilding.MendFault.{MendFault}
use Rattle.draid_visits.specs.declared.rebuilding.MendFault.TheVariants as fault
use Rattle.draid_visits.specs.declared.rebuilding.Mended.{Mended}
use Rattle.draid_visits.proofs.AllVisits.{FromOn, VisitsEnd}
use Rattle.draid_visits.proofs.Found.{none_before}
use Rattle.draid_visits.proofs.MendHolds.{marked_alone, none_found, unmarked_alone}
use Rattle.draid_visits.proofs.Rebuilt.{AgreeOn, agree_seen}
use Rattle.draid_lanes.specs.Governing.{lane_last}
use Rattle.draid_lanes.specs.Waits.{LaneWent}
use Rattle.draid_lanes.specs.declared.locked.Locked.{Locked}
use Rattle.draid_lanes.proofs.RoundWords.{Says, said_as}
use Rattle.draid_works.specs.Mended.{BeginsMend, MendsThrough, SyncsWaiting}
use Rattle.draid_works.specs.Told.{MendBut}
use Rattle.draid_works.proofs.MendFar.{But, Far}
use Rattle.draid_works.proofs.MendFinds.{finds_other, looks_alone}
use Rattle.draid_works.proofs.MendLooks.{Looked, LookedAll, finds_looked, is_seen, looked_all, marks_looked, none_of_kind, sees_marked, sees_unmarked}
use Rattle.draid_works.proofs.MendSays.{EndsIn, answers}
use Rattle.draid_works.proofs.MendSees.{Seen}
use Rattle.draid_works.proofs.MendWords.{EndsSo, Left, visits_holds, visits_said}

module _ {R A G W : Type 0} (rack : racks.Ghosts R) (area : areas.Ghosts A) (x : State) (owns : ℕ → Bool) (own : owns groups_number ≡ true) (some : 0 < x.geometry.props.metaslabs) where
  abbrev pub Through : PassKind → Option ℕ → Locked R A G W → Uber A → Result Mended MendFault → Locked R A G W → Uber A → Type 0
  Through kind limit a u result b v = MendsThrough rack area lane_last (LaneWent rack area) true owns x.geometry kind limit a u result b v

  abbrev pub Rest : Locked R A G W → Uber A → Mending → Option (Result Mended MendFault) → Locked R A G W → Uber A → Mending → Type 0
  Rest a u begun answer b v new = MendsBy rack area lane_last (LaneWent rack area) true owns (SyncsWaiting rack area lane_last (LaneWent rack area) true owns x.geometry.props.metaslabs) x.geometry a u begun answer b v new

  -- the holds of the uberblock
  abbrev pub rest_holds : (a b : Locked R A G W) (u v : Uber A) (begun new : Mending) (answer : Option (Result Mended MendFault)) → Rest a u begun answer b v new → List Hold
  rest_holds a b u v begun new answer it = visits_holds rack area x owns own some begun.kind begun.marks begun.next it.result new.next a b u v begun.progress new.progress it.visits

  abbrev pub mend_holds : (kind : PassKind) (limit : Option ℕ) (a b : Locked R A G W) (u v : Uber A) (result : Result Mended MendFault) → Through kind limit a u result b v → List Hold
  mend_holds kind limit a b u v result (inl (begun, mid, new, starts, rest)) = rest_holds mid b u v begun new (Some result) rest
  mend_holds kind limit a b u v result (inr it) = []

pub rebuild_heals : Rebuild ≡ Heal → ⊥
rebuild_heals same = absurd (cc)

-- none of the views is visited
unvisited : (x : State) (kind : PassKind) (P : View → Type 0) (views : List View) (left : Option ℕ) (t : passes.Tally) → NoneOf P views → passes.VisitsAll x.geometry x.perms kind P views left t [] passes.Ended t
unvisited x kind P [] left t none = (refl, refl, refl)
unvisited x kind P (v ∷ views) left t none = inl (none.0, unvisited x kind P views left t none.1)

module _ {R A G W : Type 0} (rack : racks.Ghosts R) (area : areas.Ghosts A) (x : State) (owns : ℕ → Bool) (own : owns groups_number ≡ true) (own_passes : owns passes_number ≡ true) (some : 0 < x.geometry.props.metaslabs) (old : Locked R A G W)
    (old_all : x.geometry.props.metaslabs ≡ length old.turns.now) (old_many : length old.passes.items ≡ length old.turns.now) (limit : Option ℕ) where
  -- ---- what it visits

  module _ (begun : Mending) (a : Locked R A G W) (u : Uber A) (l : Looked rack area x owns own old a u) (all : LookedAll rack area x owns own old a) where
    abbrev pub whole : VisitsEnd → List Hold → Type 0
    whole e hs = (rest : List Hold) × (hs ≡ looks_at 0 all.ys ++ rest) × FromOn (record x { metaslabs = all.ys }) begun.kind begun.marks (nothing_within limit) 0 e rest

    abbrev pub ends_so : Visit → Progress → List Hold → Type 0
    ends_so end q hs = EndsSo rack area x owns own some old old_all old_many begun.kind begun.marks all.ys all.long whole end q hs

    first_far : Far rack area x owns own x.geometry.props.metaslabs refl some old old_all old_many begun.kind whole (Left rack area x owns own some old old_all old_many begun.kind begun.marks all.ys all.long whole (nothing_within limit) 0) a u []
    first_far = record {
      said = record { turns = all.said.turns; holds = all.said.holds; traced = all.said.traced; done = λ saw. (looks_at 0 all.ys, all.said.done, λ e rest is. (rest, refl, is)); came = all.said.came };
      turned = all.turned;
      ready = l.ready;
      beyond = l.beyond;
    }

    -- the visits, and what they come to
    pub rest_said : (b : Locked R A G W) (v : Uber A) (new : Mending) (result : Result Mended MendFault) → begun.next ≡ 0 → begun.progress ≡ nothing_within limit → (it : Rest rack area x owns own some a u begun (Some result) b v new) → (S : List Hold → Type 0)
        → ((end : Visit) (hs : List Hold) → IsAnswer end new.progress result → ends_so end new.progress hs → S hs) → Says rack area x old b (rest_holds rack area x owns own some a b u v begun new (Some result) it) (Seen rack area x begun.kind b (But S))
    rest_said b v new result first fresh it S how = by it.result it.visits it.answers
      where
        from : Far rack area x owns own x.geometry.props.metaslabs refl some old old_all old_many begun.kind whole (Left rack area x owns own some old old_all old_many begun.kind begun.marks all.ys all.long whole begun.progress begun.next) a u []
        from =
            subst (λ p. Far rack area x owns own x.geometry.props.metaslabs refl some old old_all old_many begun.kind whole (Left rack area x owns own some old old_all old_many begun.kind begun.marks all.ys all.long whole p begun.next) a u []) (sym fresh)
            (subst (λ n. Far rack area x owns own x.geometry.props.metaslabs refl some old old_all old_many begun.kind whole (Left rack area x owns own some old old_all old_many begun.kind begun.marks all.ys all.long whole (nothing_within limit) n) a u []) (sym first) first_far)

        by : (r : Option Visit) (vs : VisitsBy rack area lane_last (LaneWent rack area) true owns (SyncsWaiting rack area lane_last (LaneWent rack area) true owns x.geometry.props.metaslabs) x.geometry begun.kind begun.marks begun.next a u begun.progress r new.next b v new.progress)
            → AnswersBy {S = Locked R A G W} rack area lane_last (LaneWent rack area) true owns r new.progress (Some result) → Says rack area x old b (visits_holds rack area x owns own some begun.kind begun.marks begun.next r new.next a b u v begun.progress new.progress vs) (Seen rack area x begun.kind b (But S))
        by None vs is = absurd is
        by (Some end) vs is =
            said_as rack area x old b (visits_holds rack area x owns own some begun.kind begun.marks begun.next (Some end) new.next a b u v begun.progress new.progress vs) (Seen rack area x begun.kind b (But (ends_so end new.progress))) (Seen rack area x begun.kind b (But S))
            (visits_said rack area x owns own some old old_all old_many begun.kind begun.marks all.ys all.long whole begun.next new.next end a b u v begun.progress new.progress [] vs from)
            (λ hs d saw. (let z = d saw in (z.0, z.1, how end z.0 is z.2)))

    -- ---- of a rebuild

    module _ (kind : begun.kind ≡ Rebuild) (alone : NoneOf (passes.HasPassOf Heal) (seen_at 0 all.ys)) (agree : AgreeOn (IsMarked begun.marks) (passes.IsRebuilt x.geometry x.perms) (seen_at 0 all.ys)) where
      ends_in : (end : Visit) (q : Progress) (hs : List Hold) → ends_so end q hs → EndsIn x limit begun.marks all.ys all.long alone agree end q hs
      ends_in visit.Over q hs (rest, are, is) = (rest, are, subst (λ k. FromOn (record x { metaslabs = all.ys }) k begun.marks (nothing_within limit) 0 (record { o = passes.Ended; tally = tally_of q }) rest) kind is)
      ends_in visit.Paused q hs (rest, are, is) = (rest, are, subst (λ k. FromOn (record x { metaslabs = all.ys }) k begun.marks (nothing_within limit) 0 (record { o = passes.Paused; tally = tally_of q }) rest) kind is)
      ends_in (visit.Stopped why) q hs (t, (rest, are, is)) = (t, (rest, are, subst (λ k. FromOn (record x { metaslabs = all.ys }) k begun.marks (nothing_within limit) 0 (record { o = passes.Stopped (end_by why); tally = t }) rest) kind is))

      never : begun.kind ≡ Heal → ⊥
      never heal = rebuild_heals (sym kind ∙ heal)

      -- it rests on no bytes
      rebuilt_said : (b : Locked R A G W) (v : Uber A) (new : Mending) (result : Result Mended MendFault) → begun.next ≡ 0 → begun.progress ≡ nothing_within limit → (it : Rest rack area x owns own some a u begun (Some result) b v new)
          → Says rack area x old b (rest_holds rack area x owns own some a b u v begun new (Some result) it) (MendBut x Rebuild limit result)
      rebuilt_said b v new result first fresh it =
          said_as rack area x old b (rest_holds rack area x owns own some a b u v begun new (Some result) it) (Seen rack area x begun.kind b (But (λ hs. RebuildDoes x limit result hs x.store))) (MendBut x Rebuild limit result)
          (rest_said b v new result first fresh it (λ hs. RebuildDoes x limit result hs x.store) (λ end hs is so. answers x limit begun.marks all.ys all.long alone agree end new.progress result is hs (ends_in end new.progress hs so)))
          (λ hs d. d (λ heal. absurd (never heal)))

  -- ---- or nothing

  nothing_said : (a b mid : Locked R A G W) (u : Uber A) → Looked rack area x owns own old a u → FindsPass rack area lane_last (LaneWent rack area) true owns x.geometry.props.metaslabs Heal a None mid
      → FindsMarks rack area lane_last (LaneWent rack area) true owns x.geometry.props.metaslabs mid None b → Says rack area x old b [] (MendBut x Rebuild limit (Err fault.Nothing))
  nothing_said a b mid u l none marks =
      let count = x.geometry.props.metaslabs in
      let one = finds_looked rack area x owns own old Heal None a mid u none l in
      let two = marks_looked rack area x owns own old None mid b u marks one in
      let all = looked_all rack area x owns own old old_all old_many b u two in
      let alone = unmarked_alone rack area lane_last (LaneWent rack area) true owns own_passes Rebuild count mid b marks (none_found rack area lane_last (LaneWent rack area) true owns Heal count a mid none one.beyond) in
      let seen = is_seen rack area x owns own old b u two.ready all.ys all.long all.each in
      let unseen = none_seen (passes.IsRebuilt x.geometry x.perms) 0 all.ys
      (λ k y at is.
      (let s = seen k y at in
      true≢false (sym ((sees_unmarked rack area x owns own old count 0 mid b marks k s.shard s.below s.there s.pieces y s.is).1 (subst (λ j. passes.IsRebuilt x.geometry x.perms (view_of j y)) (sym (none_before k)) is))))) in
      said_as rack area x old b [] (λ hs. LeavesLooks hs (looks_at 0 all.ys)) (MendBut x Rebuild limit (Err fault.Nothing)) all.said
      (λ hs leaves. (
        looks_at 0 all.ys,
        leaves,
        (
          refl,
          record {
            views = seen_at 0 all.ys;
            rest = [];
            t = passes.nothing_yet;
            finds = record { looks = looks_at 0 all.ys; are = sym (append-nil (looks_at 0 all.ys)); looked = looks_alone x all.ys all.long; alone = none_of_kind rack area x owns own old b u two.ready all.ys all.long all.each Heal alone };
            visits = unvisited x Rebuild (passes.IsRebuilt x.geometry x.perms) (seen_at 0 all.ys) limit passes.nothing_yet unseen;
            none = refl;
          },
        ),
      ))

  -- one has a scrub
  there_said : (metaslab number : ℕ) (a b : Locked R A G W) (u : Uber A) → Looked rack area x owns own old a u → FindsPass rack area lane_last (LaneWent rack area) true owns x.geometry.props.metaslabs Heal a (Some (metaslab, number)) b
      → Says rack area x old b [] (MendBut x Rebuild limit (Err (fault.PassThere metaslab number)))
  there_said metaslab number a b u l found =
      said_as rack area x old b [] (But (λ hs. passes.FindsOther x.geometry x.perms Rebuild hs metaslab number)) (MendBut x Rebuild limit (Err (fault.PassThere metaslab number)))
      (finds_other rack area x owns own old old_all old_many Heal metaslab number a b u l found Rebuild refl) (λ hs d. (d.0, d.1, (refl, d.2)))

  -- ---- all of it

  pub rebuild_said : (a b : Locked R A G W) (u v : Uber A) (result : Result Mended MendFault) → Looked rack area x owns own old a u → (it : Through rack area x owns own some Rebuild limit a u result b v)
      → Says rack area x old b (mend_holds rack area x owns own some Rebuild limit a b u v result it) (MendBut x Rebuild limit result)
  rebuild_said a b u v result l (inl (begun, mid, new, (first, none, marks, kind, next, progress), rest)) =
      let count = x.geometry.props.metaslabs in
      let one = finds_looked rack area x owns own old Heal None a first u none l in
      let two = marks_looked rack area x owns own old (Some begun.marks) first mid u marks one in
      let all = looked_all rack area x owns own old old_all old_many mid u two in
      let alone = marked_alone rack area lane_last (LaneWent rack area) true owns own_passes Rebuild count first mid begun.marks marks (none_found rack area lane_last (LaneWent rack area) true owns Heal count a first none one.beyond) in
      let seen = is_seen rack area x owns own old mid u two.ready all.ys all.long all.each in
      rebuilt_said begun mid u two all kind (none_of_kind rack area x owns own old mid u two.ready all.ys all.long all.each Heal alone)
      (agree_seen (IsMarked begun.marks) (passes.IsRebuilt x.geometry x.perms) 0 all.ys
      (λ k y at.
      (let s = seen k y at in
      subst (λ j. IsMarked begun.marks (view_of j y) ↔ passes.IsRebuilt x.geometry x.perms (view_of j y)) (none_before k) (sees_marked rack area x owns own old begun.marks count first mid marks k s.shard s.below s.there s.pieces y s.is)))) b v new result next progress rest
  rebuild_said a b u v result l (inr (why, is, begins, same)) = subst (λ r. Says rack area x old b [] (MendBut x Rebuild limit r)) (sym is) (by why begins)
    where
      by : (w : MendFault) → BeginsMend rack area lane_last (LaneWent rack area) true owns x.geometry Rebuild limit a (Err w) b → Says rack area x old b [] (MendBut x Rebuild limit (Err w))
      by fault.Nothing (mid, none, marks) = nothing_said a b mid u l none marks
      by (fault.PassThere metaslab number) found = there_said metaslab number a b u l found
      by fault.Worn it = absurd it
      by fault.Last it = absurd it
      by fault.Shelf it = absurd it
      by fault.NoMemory it = absurd it
