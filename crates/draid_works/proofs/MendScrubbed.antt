-- A lane's scrub, from the looks of its meeting on: it is said to be one, but for looks, where its blocks had bytes in all that it saw.
use Rattle.std.proofs.Common.{◌≡◌, ◌<◌, ◌≤◌, ◌+◌, ◌++◌, ◌∷◌, ◌∙◌, [], inl, inr, ℕ, Bool, true, false, List, Option, Some, None, Err, arith, drop, take, refl, sym, ap, subst, length, slice_index_or}
use Rattle.std.specs.Prelude.{◌↔◌, Result}
use Rattle.std.proofs.lemmas.List.{take-append-drop}
use Rattle.draid_names.specs.declared.pass_kind.PassKind.TheVariants.{Heal, Rebuild}
use Rattle.draid_rack.specs.declared.Rack as racks
use Rattle.draid_area.specs.declared.Area as areas
use Rattle.draid_spec.specs.Geometry.{IsGeometry}
use Rattle.draid_session.specs.Holds.{Hold, View, view_of}
use Rattle.draid_session.specs.Passes as passes
use Rattle.draid_session.specs.Phases.{NoneOf}
use Rattle.draid_session.specs.State.{Metaslab, State}
use Rattle.draid_uber.specs.declared.uber.Uber.{Uber}
use Rattle.draid_pool.specs.Drifts.{groups_number, passes_number}
use Rattle.draid_pool.specs.Views.{seen_at}
use Rattle.draid_visits.specs.Looks.{FindsPass}
use Rattle.draid_visits.specs.Rebuilding.{ScrubDoes}
use Rattle.draid_visits.specs.Visiting.{end_by, nothing_within, tally_of}
use Rattle.draid_visits.specs.Visits.{FirstIs}
use Rattle.draid_visits.specs.declared.mending.Mending.{Mending}
use Rattle.draid_visits.specs.declared.progress.Progress.{Progress}
use Rattle.draid_visits.specs.declared.progress.Visit.{Visit}
use Rattle.draid_visits.specs.declared.progress.Visit.TheVariants as visit
use Rattle.draid_visits.specs.declared.rebuilding.MendFault.{MendFault}
use Rattle.draid_visits.specs.declared.rebuilding.MendFault.TheVariants as fault
use Rattle.draid_visits.specs.declared.rebuilding.Mended.{Mended}
use Rattle.draid_visits.proofs.AllVisits.{FromOn, views_more}
use Rattle.draid_visits.proofs.MendHolds.{found_alone, none_found}
use Rattle.draid_visits.proofs.Scrubbed.{none_taken}
use Rattle.draid_lanes.specs.Governing.{lane_last}
use Rattle.draid_lanes.specs.Waits.{LaneWent}
use Rattle.draid_lanes.specs.declared.locked.Locked.{Locked}
use Rattle.draid_lanes.proofs.RoundWords.{Says, said_as}
use Rattle.draid_works.specs.Mended.{BeginsMend}
use Rattle.draid_works.specs.Told.{MendBut}
use Rattle.draid_works.proofs.MendFar.{But}
use Rattle.draid_works.proofs.MendFinds.{LowestAt, finds_other, lowest_at}
use Rattle.draid_works.proofs.MendLooks.{Looked, LookedAll, finds_looked, looked_all, none_of_kind}
use Rattle.draid_works.proofs.MendRebuilt.{Rest, Through, ends_so, mend_holds, rest_holds, rest_said}
use Rattle.draid_works.proofs.MendScrubs.{EndsIn, answers}
use Rattle.draid_works.proofs.MendSees.{Seen}

module _ {R A G W : Type 0} (rack : racks.Ghosts R) (area : areas.Ghosts A) (x : State) (geometry_is : IsGeometry x.geometry) (owns : ℕ → Bool) (own : owns groups_number ≡ true) (own_passes : owns passes_number ≡ true) (some : 0 < x.geometry.props.metaslabs) (old : Locked R A G W)
    (old_all : x.geometry.props.metaslabs ≡ length old.turns.now) (old_many : length old.passes.items ≡ length old.turns.now) (limit : Option ℕ) where
  -- ---- what it visits

  module _ (begun : Mending) (a : Locked R A G W) (u : Uber A) (l : Looked rack area x owns own old a u) (all : LookedAll rack area x owns own old a) (kind : begun.kind ≡ Heal) (alone : NoneOf (passes.HasPassOf Rebuild) (seen_at 0 all.ys)) (first : ℕ)
      (from : passes.FromFirst x.geometry x.perms (seen_at 0 all.ys) (drop first (seen_at 0 all.ys))) (are : (j : ℕ) → j < length all.ys → (slice_index_or begun.marks j false ≡ true) ↔ (first ≤ j)) where
    abbrev Ends_in : Visit → Progress → List Hold → Type 0
    Ends_in end q hs = EndsIn x limit begun.marks all.ys all.long alone first from are end q hs

    ends_in : (end : Visit) (q : Progress) (hs : List Hold) → ends_so rack area x owns own own_passes some old old_all old_many limit begun a u l all end q hs → Ends_in end q hs
    ends_in visit.Over q hs (rest, at, is) = (rest, at, subst (λ k. FromOn (record x { metaslabs = all.ys }) k begun.marks (nothing_within limit) 0 (record { o = passes.Ended; tally = tally_of q }) rest) kind is)
    ends_in visit.Paused q hs (rest, at, is) = (rest, at, subst (λ k. FromOn (record x { metaslabs = all.ys }) k begun.marks (nothing_within limit) 0 (record { o = passes.Paused; tally = tally_of q }) rest) kind is)
    ends_in (visit.Stopped why) q hs (t, (rest, at, is)) = (t, (rest, at, subst (λ k. FromOn (record x { metaslabs = all.ys }) k begun.marks (nothing_within limit) 0 (record { o = passes.Stopped (end_by why); tally = t }) rest) kind is))

    visits_scrub : (b : Locked R A G W) (v : Uber A) (new : Mending) (result : Result Mended MendFault) → (result ≡ Err fault.Nothing → ⊥) → (result ≡ Err fault.Shelf → ⊥) → begun.next ≡ 0 → begun.progress ≡ nothing_within limit
        → (it : Rest rack area x owns own some a u begun (Some result) b v new) → Says rack area x old b (rest_holds rack area x owns own some a b u v begun new (Some result) it) (Seen rack area x Heal b (MendBut x Heal limit result))
    visits_scrub b v new result more shelf next fresh it =
        said_as rack area x old b (rest_holds rack area x owns own some a b u v begun new (Some result) it) (Seen rack area x begun.kind b (But (λ hs. ScrubDoes x limit result hs x.store))) (Seen rack area x Heal b (MendBut x Heal limit result))
        (rest_said rack area x owns own own_passes some old old_all old_many limit begun a u l all b v new result next fresh it (λ hs. ScrubDoes x limit result hs x.store)
        (λ end hs is so. answers x limit begun.marks all.ys all.long alone first from are end new.progress result more shelf is hs (ends_in end new.progress hs so)))
        (λ hs d saw. d (λ heal. saw refl))

  -- ---- how it begins

  module _ (mid b : Locked R A G W) (u : Uber A) (l : Looked rack area x owns own old mid u) where
    looked_then : (found : Option (ℕ × ℕ)) → FindsPass rack area lane_last (LaneWent rack area) true owns x.geometry.props.metaslabs Heal mid found b → Looked rack area x owns own old b u
    looked_then found finds = finds_looked rack area x owns own old Heal found mid b u finds l

    all_then : (found : Option (ℕ × ℕ)) → FindsPass rack area lane_last (LaneWent rack area) true owns x.geometry.props.metaslabs Heal mid found b → LookedAll rack area x owns own old b
    all_then found finds = looked_all rack area x owns own old old_all old_many b u (looked_then found finds)

    -- from the first that has a scrub on, or from the first of all
    from_first : (first : ℕ) (found : Option (ℕ × ℕ)) (finds : FindsPass rack area lane_last (LaneWent rack area) true owns x.geometry.props.metaslabs Heal mid found b) → FirstIs {S = Locked R A G W} rack area lane_last (LaneWent rack area) true owns first found
        → passes.FromFirst x.geometry x.perms (seen_at 0 (all_then found finds).ys) (drop first (seen_at 0 (all_then found finds).ys))
    unfolding all_then looked_then
    from_first first None finds is =
        let two = looked_then None finds in
        let all = all_then None finds in
        inl (
          none_of_kind rack area x owns own old b u two.ready all.ys all.long all.each Heal (none_found rack area lane_last (LaneWent rack area) true owns Heal x.geometry.props.metaslabs mid b finds two.beyond),
          ap (λ n. drop n (seen_at 0 all.ys)) is,
        )
    from_first first (Some (metaslab, number)) finds is = subst (λ k. passes.FromFirst x.geometry x.perms views (drop k views)) (sym is) (inr (
      take metaslab views,
      view_of metaslab low.y,
      drop (metaslab + 1) views,
      sym (take-append-drop metaslab views) ∙ ap (λ vs. take metaslab views ++ vs) more,
      none_taken (passes.HasPassOf Heal) metaslab 0 ys low.below,
      low.has,
      more,
    ))
      where
        low : LowestAt rack area x owns own old old_all old_many Heal metaslab number mid b u l finds metaslab
        low = lowest_at rack area x owns own old old_all old_many Heal metaslab number mid b u l finds

        ys : List Metaslab
        ys = (all_then (Some (metaslab, number)) finds).ys

        views : List View
        views = seen_at 0 ys

        more : drop metaslab views ≡ view_of metaslab low.y ∷ drop (metaslab + 1) views
        more = views_more 0 metaslab ys low.y low.there ∙ ap (λ n. view_of n low.y ∷ drop (metaslab + 1) views) (let same : 0 + metaslab ≡ metaslab = omega arith in same)

  -- ---- all of it

  pub scrub_said : (a b : Locked R A G W) (u v : Uber A) (result : Result Mended MendFault) → (result ≡ Err fault.Nothing → ⊥) → (result ≡ Err fault.Shelf → ⊥) → Looked rack area x owns own old a u → (it : Through rack area x owns own some Heal limit a u result b v)
      → Says rack area x old b (mend_holds rack area x owns own some Heal limit a b u v result it) (Seen rack area x Heal b (MendBut x Heal limit result))
  scrub_said a b u v result more shelf l (inl (begun, mid, new, (other, found, first, none, finds, from, marks, kind, next, progress), rest)) =
      let count = x.geometry.props.metaslabs in
      let one = finds_looked rack area x owns own old Rebuild None a other u none l in
      let two = looked_then other mid u one found finds in
      let all = all_then other mid u one found finds in
      let alone = found_alone rack area lane_last (LaneWent rack area) true owns own_passes Heal Heal count other mid found finds (none_found rack area lane_last (LaneWent rack area) true owns Rebuild count a other none one.beyond) in
      visits_scrub begun mid u two all kind (none_of_kind rack area x owns own old mid u two.ready all.ys all.long all.each Rebuild alone) first (from_first other mid u one first found finds from)
      (λ j less. marks j (let long = all.long in let most = geometry_is.props.most_metaslabs in omega (arith, less, long, most))) b v new result more shelf next progress rest
  scrub_said a b u v result more shelf l (inr (why, is, begins, same)) = subst (λ r. Says rack area x old b [] (Seen rack area x Heal b (MendBut x Heal limit r))) (sym is) (by why begins)
    where
      by : (w : MendFault) → BeginsMend rack area lane_last (LaneWent rack area) true owns x.geometry Heal limit a (Err w) b → Says rack area x old b [] (Seen rack area x Heal b (MendBut x Heal limit (Err w)))
      by (fault.PassThere metaslab number) found =
          said_as rack area x old b [] (But (λ hs. passes.FindsOther x.geometry x.perms Heal hs metaslab number)) (Seen rack area x Heal b (MendBut x Heal limit (Err (fault.PassThere metaslab number))))
          (finds_other rack area x owns own old old_all old_many Rebuild metaslab number a b u l found Heal refl) (λ hs d saw. (d.0, d.1, (refl, d.2)))
      by fault.Nothing it = absurd it
      by fault.Worn it = absurd it
      by fault.Last it = absurd it
      by fault.Shelf it = absurd it
      by fault.NoMemory it = absurd it
