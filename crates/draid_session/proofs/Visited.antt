-- A rebuild visits a metaslab in which an arm is wanted, and makes it good; the other visits change nothing of that.
use Rattle.std.proofs.Common.{◌≡◌, ◌∙◌, ◌+◌, ◌<◌, ◌≤◌, ℕ, zero, suc, List, [], ◌∷◌, Option, Some, length, inl, inr, arith, refl, sym, ap, subst}
use Rattle.std.specs.Prelude.{⊤, slice_get}
use Rattle.std.proofs.lemmas.Bool.{true≢false, cases_eq}
use Rattle.draid_names.specs.declared.pass_kind.PassKind.TheVariants.{Rebuild}
use Rattle.draid_spec.specs.declared.layout.Geometry.{Geometry}
use Rattle.draid_perm.specs.declared.perms.Perms.{Perms}
use Rattle.draid_machine.specs.declared.event.Event.{Event}
use Rattle.draid_machine.specs.declared.event.Event.TheVariants as event
use Rattle.draid_machine.specs.declared.names.ArmName.{ArmName}
use Rattle.draid_machine.specs.After.{ended_pass}
use Rattle.draid_machine.specs.Arms.{arms_below, is_target, targets_of}
use Rattle.draid_machine.specs.Created.{IsReached}
use Rattle.draid_machine.specs.Names.{has_name}
use Rattle.draid_machine.specs.State as machine
use Rattle.draid_machine.proofs.Fitted.{every_fit}
use Rattle.draid_machine.proofs.Small.{filter_has, none_some, some_same}
use Rattle.draid_layouts.specs.Layout.{layout_of}
use Rattle.draid_session.specs.Follows.{Follows}
use Rattle.draid_session.specs.Groups as groups
use Rattle.draid_session.specs.Holds.{Did, Hold, On, OnUber, View, view_of}
use Rattle.draid_session.specs.Looks.{AllOf, LooksFrom}
use Rattle.draid_session.specs.Passes as passes
use Rattle.draid_session.specs.Passes.{Ended, Outcome, Paused, Stopped, Tally}
use Rattle.draid_session.specs.Phases.{End, Went}
use Rattle.draid_session.specs.Present.{AreReached}
use Rattle.draid_session.specs.State.{Metaslab, State}
use Rattle.draid_session.proofs.Beside.{uber_rest}
use Rattle.draid_session.proofs.Calm.{hold_back}
use Rattle.draid_session.proofs.Grouped.{sync_all}
use Rattle.draid_session.proofs.Looked.{follows_split, looks_all, looks_seen}
use Rattle.draid_session.proofs.Phased.{all_both, chain_all}
use Rattle.draid_session.proofs.Present.{follows_reached}
use Rattle.draid_session.proofs.Rebuilt.{AtState, Comes, IsElsewhere, IsMadeGood, IsWithin, Waits, below_has, comes_on, elsewhere_sync, ended, follows_keep, good_on, planned, target_by, waits_on, within_sync}

pub layout_stays : (holds : List Hold) (x z : State) → Follows holds x z → (z.geometry ≡ x.geometry) × (z.perms ≡ x.perms)
layout_stays [] x z follows = (ap (λ (s : State). s.geometry) follows, ap (λ (s : State). s.perms) follows)
layout_stays (On v act ∷ holds) x z follows = (let rest = layout_stays holds follows.0 z follows.2 in (rest.0 ∙ ap (λ (s : State). s.geometry) follows.1.made, rest.1 ∙ ap (λ (s : State). s.perms) follows.1.made))
layout_stays (OnUber u act ∷ holds) x z follows = (let rest = layout_stays holds follows.0 z follows.2 in let same = uber_rest act x follows.0 follows.1.acts in (rest.0 ∙ same.1, rest.1 ∙ same.2))

module _ (geometry : Geometry) (perms : Perms) where
  -- ---- how errors add up

  last_more : (m : ℕ) (left : Option ℕ) (t : Tally) (holds : List Hold) (new : Tally) → passes.LastOf geometry perms m left t holds Ended new → t.errors ≤ new.errors
  last_more m left t holds new l = let e : new.errors ≡ t.errors + l.0 = ap (λ (t : Tally). t.errors) l.2 in omega (arith, e)

  lends_more : (m n : ℕ) (left : Option ℕ) (t : Tally) (holds : List Hold) (after : Option ℕ) (new : Tally) → passes.Lends geometry perms Rebuild m n left t holds Ended after new → t.errors ≤ new.errors
  lends_more m zero left t holds after new l = last_more m left t holds new l.0
  lends_more m (suc n) left t holds after new (rest, repaired, some, one, more) = lends_more m n (passes.one_less left) (passes.has_lent repaired t) rest after new more

  visit_more : (m : ℕ) (left : Option ℕ) (t : Tally) (holds : List Hold) (after : Option ℕ) (new : Tally) → passes.Visits geometry perms Rebuild m left t holds Ended after new → t.errors ≤ new.errors
  visit_more m left t holds after new v = lends_more m v.units left (passes.has_begun (passes.pool_stripe geometry perms m v.at) t) v.back after new v.lends

  visits_more : (views : List View) (left : Option ℕ) (t : Tally) (holds : List Hold) (new : Tally) → passes.VisitsAll geometry perms Rebuild (passes.IsRebuilt geometry perms) views left t holds Ended new → t.errors ≤ new.errors
  visits_more [] left t holds new w = (let e : new.errors ≡ t.errors = ap (λ (t : Tally). t.errors) w.2 in omega (arith, e))
  visits_more (v ∷ views) left t holds new (inl w) = visits_more views left t holds new w.1
  visits_more (v ∷ views) left t holds new (inr (visited, inl w)) = absurd (w.1 refl)
  visits_more (v ∷ views) left t holds new (inr (visited, inr (inl w))) = absurd (cc (w.1))
  visits_more (v ∷ views) left t holds new (inr (visited, inr (inr (inl w)))) =
      let one = visit_more v.metaslab left t w.0 w.2 w.3 w.5 in
      let rest = visits_more views w.2 w.3 w.1 new w.6 in
      omega (arith, one, rest)
  visits_more (v ∷ views) left t holds new (inr (visited, inr (inr (inr w)))) = visits_more views left t w.1 new w.5

  -- ---- visits of other metaslabs

  module _ (m k : ℕ) (other : k ≡ m → ⊥) where
    off : (v : View) → v.metaslab ≡ k → v.metaslab ≡ m → ⊥
    off v there same = other (sym there ∙ same)

    readies_off : (n : ℕ) (holds : List Hold) (end : End) → passes.Readies geometry perms k n holds end → AllOf (IsElsewhere m) holds
    readies_off zero holds end (went, runs) = elim runs.how [
      | inl look ↦ subst (AllOf (IsElsewhere m)) (sym look.0) (inl tt, tt)
      | inr (after, are) ↦ subst (AllOf (IsElsewhere m)) (sym are) (inr (off runs.v runs.there), tt)
    ]
    readies_off (suc n) holds end (rest, group, thin, waits, chain) =
        subst (AllOf (IsElsewhere m)) (sym waits.are)
        (inl tt, chain_all (IsElsewhere m) (groups.Syncs geometry perms group thin) (passes.Readies geometry perms k n) (sync_all (IsElsewhere m) (elsewhere_sync m) geometry perms group thin) (readies_off n) rest end chain)

    starts_off : (at : ℕ) (holds : List Hold) → passes.Starts geometry perms Rebuild k at holds Went → AllOf (IsElsewhere m) holds
    starts_off at holds (inl goes) = subst (AllOf (IsElsewhere m)) (sym goes.are) (inl tt, tt)
    starts_off at holds (inr (zero_, plans)) = subst (AllOf (IsElsewhere m)) (sym plans.are) (inr (off plans.v plans.there), tt)

    lends_off : (n : ℕ) (left : Option ℕ) (t : Tally) (holds : List Hold) (after : Option ℕ) (new : Tally) → passes.Lends geometry perms Rebuild k n left t holds Ended after new → AllOf (IsElsewhere m) holds
    lends_off zero left t holds after new l = (let e = l.0.1 in subst (AllOf (IsElsewhere m)) (sym e.are) (inr (off e.v e.there), tt))
    lends_off (suc n) left t holds after new (rest, repaired, some, one, more) =
        subst (AllOf (IsElsewhere m)) (sym one.are) (inr (off one.v one.there.0), (inr (off one.u one.there.1), lends_off n (passes.one_less left) (passes.has_lent repaired t) rest after new more))

    visit_off : (left : Option ℕ) (t : Tally) (holds : List Hold) (after : Option ℕ) (new : Tally) → passes.Visits geometry perms Rebuild k left t holds Ended after new → AllOf (IsElsewhere m) holds
    visit_off left t holds after new v =
        subst (AllOf (IsElsewhere m)) (sym v.are) (all_both (IsElsewhere m) v.front v.back (by v.begins)
        (lends_off v.units left (passes.has_begun (passes.pool_stripe geometry perms k v.at) t) v.back after new v.lends))
      where
        by : passes.BeginsVisit geometry perms Rebuild k v.at v.front Went → AllOf (IsElsewhere m) v.front
        by (inr (stopped, starts)) = absurd (stopped refl)
        by (inl (first, behind, are, starts, ready)) = subst (AllOf (IsElsewhere m)) (sym are) (all_both (IsElsewhere m) first behind (starts_off v.at first starts) (readies_off ready.0 behind Went ready.1))

  -- ---- the visit of a metaslab

  module _ (m : ℕ) (n : ArmName) where
    abbrev pub Waiting : State → Type 0
    Waiting x = AtState m (Waits n) x

    abbrev pub Coming : State → Type 0
    Coming x = AtState m (Comes n) x

    abbrev pub Good : State → Type 0
    Good x = AtState m (IsMadeGood n) x

    -- holds elsewhere
    waiting_on : (holds : List Hold) (x z : State) → AllOf (IsElsewhere m) holds → Follows holds x z → AreReached x → Waiting x → Waiting z
    waiting_on = follows_keep m (IsElsewhere m) (Waits n) (λ l v e w new at q lay r s is. elim q [ inl of ↦ waits_on n l v e w new of lay r s is | inr off ↦ absurd (off at) ])

    good_still : (holds : List Hold) (x z : State) → AllOf (IsElsewhere m) holds → Follows holds x z → AreReached x → Good x → Good z
    good_still = follows_keep m (IsElsewhere m) (IsMadeGood n) (λ l v e w new at q lay r s is. elim q [ inl of ↦ good_on n l v e w new of lay r s is | inr off ↦ absurd (off at) ])

    coming_on : (holds : List Hold) (x z : State) → AllOf IsWithin holds → Follows holds x z → AreReached x → Coming x → Coming z
    coming_on = follows_keep m IsWithin (Comes n) (λ l v e w new at q lay r s is. comes_on n l v e w new q lay r s is)

    -- what is held there is of the pool's layout
    module _ (x : State) (g : x.geometry ≡ geometry) (p : x.perms ≡ perms) where
      layout_same : (k : ℕ) → layout_of geometry perms k ≡ layout_of x.geometry x.perms k
      layout_same k = λ i. layout_of (sym g i) (sym p i) k

    readies_within : (k : ℕ) (holds : List Hold) (end : End) → passes.Readies geometry perms m k holds end → AllOf IsWithin holds
    readies_within zero holds end (went, runs) = elim runs.how [
      | inl look ↦ subst (AllOf IsWithin) (sym look.0) (tt, tt)
      | inr (after, are) ↦ subst (AllOf IsWithin) (sym are) (tt, tt)
    ]
    readies_within (suc k) holds end (rest, group, thin, waits, chain) =
        subst (AllOf IsWithin) (sym waits.are)
        (tt, chain_all IsWithin (groups.Syncs geometry perms group thin) (passes.Readies geometry perms m k) (sync_all IsWithin within_sync geometry perms group thin) (readies_within k) rest end chain)

    stays : (holds : List Hold) (x z : State) → Follows holds x z → x.geometry ≡ geometry → x.perms ≡ perms → (z.geometry ≡ geometry) × (z.perms ≡ perms)
    stays holds x z follows g p = (let same = layout_stays holds x z follows in (same.0 ∙ g, same.1 ∙ p))

    -- its pass is planned
    starts_comes : (at : ℕ) (holds : List Hold) (x z : State) → passes.Starts geometry perms Rebuild m at holds Went → Follows holds x z → AreReached x → Waiting x → Coming z
    starts_comes at holds x z (inl goes) follows r is =
        let it = (subst (λ hs. Follows hs x z) goes.are follows).1 in
        let w = is it.before (subst (λ k. slice_get x.metaslabs k ≡ Some it.before) goes.there it.there) in
        absurd (none_some it.before.world.core.pass goes.p w.pass (ap (λ (v : View). v.world.core.pass) (sym it.sees) ∙ goes.pass))
    starts_comes at holds x z (inr (zero_, plans)) follows r is =
        let one = subst (λ hs. Follows hs x z) plans.are follows in
        let it = one.1 in
        let own : slice_get x.metaslabs m ≡ Some it.before = subst (λ k. slice_get x.metaslabs k ≡ Some it.before) plans.there it.there in
        subst Coming (sym one.2) (λ y there. elim (hold_back plans.v (Did (event.Plan Rebuild) plans.after) x one.0 it m y there) [
          | inl back ↦ subst (λ (k : Metaslab). Comes n k.world) back.2 (subst (Comes n) (sym it.acts.world)
              (planned n (layout_of x.geometry x.perms plans.v.metaslab) it.before.world plans.after (r.layout plans.v.metaslab) (r.each plans.v.metaslab it.before it.there) it.acts.legal (is it.before own)))
          | inr off_ ↦ absurd (off_.0 (sym plans.there))
        ])

    -- it ends
    ends_good : (errors : ℕ) (holds : List Hold) (x z : State) → passes.EndsPass geometry perms m errors holds → errors ≡ 0 → Follows holds x z → x.geometry ≡ geometry → x.perms ≡ perms → AreReached x → Coming x → Good z
    ends_good errors holds x z e none follows g p r is =
        let one = subst (λ hs. Follows hs x z) e.are follows in
        let it = one.1 in
        let own : slice_get x.metaslabs m ≡ Some it.before = subst (λ k. slice_get x.metaslabs k ≡ Some it.before) e.there it.there in
        let world : e.v.world ≡ it.before.world = ap (λ (v : View). v.world) it.sees in
        let pass : it.before.world.core.pass ≡ Some e.p = subst (λ (w : machine.State). w.core.pass ≡ Some e.p) world e.pass in
        let zero_ : (ended_pass (layout_of x.geometry x.perms e.v.metaslab) it.before.world.core e.p e.failed.items).errors ≡ 0 =
        subst (λ (l : machine.Layout). (ended_pass l it.before.world.core e.p e.failed.items).errors ≡ 0) (layout_same x g p e.v.metaslab)
        (subst (λ (w : machine.State). (ended_pass (layout_of geometry perms e.v.metaslab) w.core e.p e.failed.items).errors ≡ 0) world (sym e.errors_are ∙ none)) in
        subst Good (sym one.2) (λ y there. elim (hold_back e.v (Did (event.Done e.failed) e.after) x one.0 it m y there) [
          | inl back ↦ subst (λ (k : Metaslab). IsMadeGood n k.world) back.2 (subst (IsMadeGood n) (sym it.acts.world)
              (ended n (layout_of x.geometry x.perms e.v.metaslab) it.before.world e.after e.failed.items (r.layout e.v.metaslab) (r.each e.v.metaslab it.before it.there) it.acts.legal
              (λ q is_q. subst (λ (q : machine.Pass). (ended_pass (layout_of x.geometry x.perms e.v.metaslab) it.before.world.core q e.failed.items).errors ≡ 0) (some_same it.before.world.core.pass e.p q pass is_q) zero_)
              (is it.before own)))
          | inr off_ ↦ absurd (off_.0 (sym e.there))
        ])

    lends_good : (k : ℕ) (left : Option ℕ) (t : Tally) (holds : List Hold) (after : Option ℕ) (new : Tally) (x z : State) → passes.Lends geometry perms Rebuild m k left t holds Ended after new → new.errors ≡ 0
        → Follows holds x z → x.geometry ≡ geometry → x.perms ≡ perms → AreReached x → Coming x → Good z
    lends_good zero left t holds after new x z l none follows g p r is =
        let e : new.errors ≡ t.errors + l.0.0 = ap (λ (t : Tally). t.errors) l.0.2 in
        ends_good l.0.0 holds x z l.0.1 (omega (arith, e, none)) follows g p r is
    lends_good (suc k) left t holds after new x z (rest, repaired, some, one, more) none follows g p r is =
        let front = On one.v (Did (event.Lend one.failed) one.lent) ∷ On one.u (Did one.e one.landed) ∷ [] in
        let split = follows_split front rest x z (subst (λ hs. Follows hs x z) one.are follows) in
        let same = stays front x split.0 split.1 g p in
        lends_good k (passes.one_less left) (passes.has_lent repaired t) rest after new split.0 z more none split.2 same.0 same.1 (follows_reached front x split.0 split.1 r)
        (coming_on front x split.0 (tt, (lands one.u one.e one.landed repaired one.lands, tt)) split.1 r is)
      where
        lands : (u : View) (e : Event) (landed : machine.State) (repaired : ℕ) → passes.LandsAs geometry perms Rebuild u e repaired → IsWithin (On u (Did e landed))
        lands u (event.LandStripe pass serial failed) landed repaired l = tt
        lands u e landed repaired l = absurd l

    visit_good : (left : Option ℕ) (t : Tally) (holds : List Hold) (after : Option ℕ) (new : Tally) (x z : State) → passes.Visits geometry perms Rebuild m left t holds Ended after new → new.errors ≡ 0
        → Follows holds x z → x.geometry ≡ geometry → x.perms ≡ perms → AreReached x → Waiting x → Good z
    visit_good left t holds after new x z v none follows g p r is =
        let split = follows_split v.front v.back x z (subst (λ hs. Follows hs x z) v.are follows) in
        let same = stays v.front x split.0 split.1 g p in
        lends_good v.units left (passes.has_begun (passes.pool_stripe geometry perms m v.at) t) v.back after new split.0 z v.lends none split.2 same.0 same.1 (follows_reached v.front x split.0 split.1 r) (by v.begins split.0 split.1)
      where
        by : passes.BeginsVisit geometry perms Rebuild m v.at v.front Went → (y : State) → Follows v.front x y → Coming y
        by (inr (stopped, starts)) y follows = absurd (stopped refl)
        by (inl (first, behind, are, starts, ready)) y follows =
            let two = follows_split first behind x y (subst (λ hs. Follows hs x y) are follows) in
            coming_on behind two.0 y (readies_within ready.0 behind Went ready.1) two.2 (follows_reached first x two.0 two.1 r) (starts_comes v.at first x two.0 starts two.1 r is)

    -- ---- all visits

    -- the views are of the metaslabs from one on, as they were
    abbrev pub AreFrom : State → ℕ → List View → Type 0
    AreFrom x a [] = ⊤
    AreFrom x a (v ∷ views) = (v.metaslab ≡ a) × ((k : Metaslab) × (slice_get x.metaslabs a ≡ Some k) × (v ≡ view_of a k)) × AreFrom x (a + 1) views

    abbrev pub IsSeen : State → View → Type 0
    IsSeen x v = (k : Metaslab) × (slice_get x.metaslabs v.metaslab ≡ Some k) × (v ≡ view_of v.metaslab k)

    are_from : (x : State) (a k : ℕ) (looks : List Hold) (views : List View) → LooksFrom a k looks views → AllOf (IsSeen x) views → AreFrom x a views × (length views ≡ k)
    are_from x a zero looks views l all = (subst (AreFrom x a) (sym l.1) tt, ap length l.1)
    are_from x a (suc k) looks views l all =
        let each : AllOf (IsSeen x) (l.2 ∷ l.3) = subst (AllOf (IsSeen x)) l.5 all in
        let rest = are_from x (a + 1) k l.1 l.3 l.7 each.1 in
        (subst (AreFrom x a) (sym l.5) (l.6.there, subst (λ k. (z : Metaslab) × (slice_get x.metaslabs k ≡ Some z) × (l.2 ≡ view_of k z)) l.6.there each.0, rest.0), ap length l.5 ∙ ap suc rest.1)

    -- where an arm is wanted, a metaslab has something to rebuild
    has_target : (l : machine.Layout) (w : machine.State) → machine.IsLayout l → IsReached l w → Waits n w → targets_of l w.core Rebuild ≡ [] → ⊥
    has_target l w lay r is none =
        let inside = (every_fit l w lay r).core.order.slots is.wanted.slot n is.wanted.listed in
        let at = filter_has (is_target l w.core Rebuild) (arms_below w.core.order l.slots) n (below_has n w.core.order l.slots is.wanted.slot inside is.wanted.listed) (target_by n l w.core n is.wanted.fresh is.wanted.up) in
        true≢false (sym at ∙ ap (λ ns. has_name ns n) none)

    rebuilt_view : (x : State) → x.geometry ≡ geometry → x.perms ≡ perms → AreReached x → Waiting x → (v : View) (k : Metaslab) → slice_get x.metaslabs m ≡ Some k → v.metaslab ≡ m → v.world ≡ k.world → passes.HasTarget geometry perms v
    rebuilt_view x g p r is v k there at sees none =
        has_target (layout_of x.geometry x.perms m) k.world (r.layout m) (r.each m k there) (is k there)
        (subst (λ (l : machine.Layout). targets_of l k.world.core Rebuild ≡ []) (layout_same x g p m)
        (subst (λ (w : machine.State). targets_of (layout_of geometry perms m) w.core Rebuild ≡ []) sees (subst (λ j. targets_of (layout_of geometry perms j) v.world.core Rebuild ≡ []) at none)))

    visits_good : (start : State) → start.geometry ≡ geometry → start.perms ≡ perms → AreReached start → Waiting start → (views : List View) (a : ℕ) (left : Option ℕ) (t : Tally) (holds : List Hold) (new : Tally) (x z : State)
        → passes.VisitsAll geometry perms Rebuild (passes.IsRebuilt geometry perms) views left t holds Ended new → new.errors ≡ 0 → AreFrom start a views → m < a + length views
        → Follows holds x z → x.geometry ≡ geometry → x.perms ≡ perms → AreReached x → (a ≤ m → Waiting x) → (m < a → Good x) → Good z
    visits_good start sg sp sr sw [] a left t holds new x z w none from past follows g p r is good =
        subst Good (sym (subst (λ hs. Follows hs x z) w.0 follows)) (good (omega (arith, past)))
    visits_good start sg sp sr sw (v ∷ views) a left t holds new x z (inl w) none from past follows g p r is good = elim (cases_eq a m) [
      | inl same ↦ absurd (w.0 (inr (rebuilt_view start sg sp sr sw v from.1.0 (subst (λ k. slice_get start.metaslabs k ≡ Some from.1.0) same from.1.1) (from.0 ∙ same) (ap (λ (v : View). v.world) from.1.2))))
      | inr other ↦ visits_good start sg sp sr sw views (a + 1) left t holds new x z w.1 none from.2 (omega (arith, past)) follows g p r (λ low. is (omega (arith, low))) (λ low. good (omega (arith, low, other)))
    ]
    visits_good start sg sp sr sw (v ∷ views) a left t holds new x z (inr (visited, inl w)) none from past follows g p r is good = absurd (w.1 refl)
    visits_good start sg sp sr sw (v ∷ views) a left t holds new x z (inr (visited, inr (inl w))) none from past follows g p r is good = absurd (cc (w.1))
    visits_good start sg sp sr sw (v ∷ views) a left t holds new x z (inr (visited, inr (inr (inl (front, back, after, mid, are, one, rest))))) none from past follows g p r is good =
        let split = follows_split front back x z (subst (λ hs. Follows hs x z) are follows) in
        let same = stays front x split.0 split.1 g p in
        let more = visits_more views after mid back new rest in
        let mid_none : mid.errors ≡ 0 = omega (arith, more, none) in
        let reached = follows_reached front x split.0 split.1 r in
        elim (cases_eq a m) [
          | inl at ↦ (
              let made = visit_good left t front after mid x split.0 (subst (λ k. passes.Visits geometry perms Rebuild k left t front Ended after mid) (from.0 ∙ at) one) mid_none split.1 g p r (is (omega (arith, at))) in
              visits_good start sg sp sr sw views (a + 1) after mid back new split.0 z rest none from.2 (omega (arith, past)) split.2 same.0 same.1 reached (λ low. absurd (omega (arith, low, at))) (λ low. made))
          | inr other ↦ (
              let off_ = visit_off m v.metaslab (λ e. other (sym from.0 ∙ e)) left t front after mid one in
              visits_good start sg sp sr sw views (a + 1) after mid back new split.0 z rest none from.2 (omega (arith, past)) split.2 same.0 same.1 reached
              (λ low. waiting_on front x split.0 off_ split.1 r (is (omega (arith, low)))) (λ low. good_still front x split.0 off_ split.1 r (good (omega (arith, low, other)))))
        ]
    visits_good start sg sp sr sw (v ∷ views) a left t holds new x z (inr (visited, inr (inr (inr (front, back, are, kind, over, rest))))) none from past follows g p r is good =
        let split = follows_split front back x z (subst (λ hs. Follows hs x z) are follows) in
        let same = stays front x split.0 split.1 g p in
        let look : AllOf (IsElsewhere m) front = subst (AllOf (IsElsewhere m)) (sym over.are) (inl tt, tt) in
        let reached = follows_reached front x split.0 split.1 r in
        elim (cases_eq a m) [
          | inl at ↦ absurd (
              let it = (subst (λ hs. Follows hs x split.0) over.are split.1).1 in
              over.none (rebuilt_view x g p r (is (omega (arith, at))) over.v it.before (subst (λ k. slice_get x.metaslabs k ≡ Some it.before) (over.there ∙ (from.0 ∙ at)) it.there) (over.there ∙ (from.0 ∙ at)) (ap (λ (v : View). v.world) it.sees)))
          | inr other ↦ visits_good start sg sp sr sw views (a + 1) left t back new split.0 z rest none from.2 (omega (arith, past)) split.2 same.0 same.1 reached
              (λ low. waiting_on front x split.0 look split.1 r (is (omega (arith, low)))) (λ low. good_still front x split.0 look split.1 r (good (omega (arith, low, other))))
        ]

    pub found_good : (limit : Option ℕ) (holds : List Hold) (views : List View) (rest : List Hold) (t : Tally) (x z : State) → passes.FindsNoOther geometry perms Rebuild holds views rest
        → passes.VisitsAll geometry perms Rebuild (passes.IsRebuilt geometry perms) views limit passes.nothing_yet rest Ended t → t.errors ≡ 0 → Follows holds x z → x.geometry ≡ geometry → x.perms ≡ perms
        → AreReached x → m < geometry.props.metaslabs → Waiting x → Good z
    found_good limit holds views rest t x z finds visits none follows g p r inside is =
        let split = follows_split finds.looks rest x z (subst (λ hs. Follows hs x z) finds.are follows) in
        let all = looks_all (IsSeen x) 0 geometry.props.metaslabs finds.looks views x split.0 finds.looked split.1 (λ k y there. (y, there, refl)) in
        let from = are_from x 0 geometry.props.metaslabs finds.looks views finds.looked all in
        let same = stays finds.looks x split.0 split.1 g p in
        let many = from.1 in
        let seen = looks_seen 0 geometry.props.metaslabs finds.looks views x split.0 finds.looked split.1 in
        visits_good x g p r is views 0 limit passes.nothing_yet rest t split.0 z visits none from.0 (omega (arith, inside, many)) split.2 same.0 same.1 (follows_reached finds.looks x split.0 split.1 r)
        (λ low. (λ y there. (let b = seen.back m y there in subst (λ (v : View). Waits n v.world) (sym b.2) (is b.0 b.1)))) (λ low. absurd (omega (arith, low)))

    pub rebuild_good : (limit : Option ℕ) (holds : List Hold) (t : Tally) (x z : State) → passes.Rebuilds geometry perms limit holds Ended t → t.errors ≡ 0 → Follows holds x z → x.geometry ≡ geometry → x.perms ≡ perms
        → AreReached x → m < geometry.props.metaslabs → Waiting x → Good z
    rebuild_good limit holds t x z r none follows g p reached inside is = found_good limit holds r.views r.rest t x z r.finds r.visits none follows g p reached inside is
