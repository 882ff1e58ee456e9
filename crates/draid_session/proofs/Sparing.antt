-- A scrub that finds each block sound rewrites nothing.
use Rattle.std.proofs.Common.{arith, ◌≡◌, ◌++◌, ◌∙◌, ℕ, zero, suc, List, [], ◌∷◌, Option, inl, inr, refl, sym, ap, subst}
use Rattle.draid_names.specs.declared.pass_kind.PassKind.TheVariants.{Heal}
use Rattle.draid_spec.specs.declared.layout.Geometry.{Geometry}
use Rattle.draid_perm.specs.declared.perms.Perms.{Perms}
use Rattle.draid_machine.specs.Created.{IsReached}
use Rattle.draid_machine.specs.State as machine
use Rattle.draid_machine.specs.Step.{Step}
use Rattle.draid_machine.specs.declared.event.Event.{Event}
use Rattle.draid_machine.specs.declared.event.Event.TheVariants as event
use Rattle.draid_layouts.specs.Layout.{layout_of}
use Rattle.draid_session.specs.Follows.{Follows, Holds}
use Rattle.draid_session.specs.Holds.{Did, Hold, On, View, layout_at}
use Rattle.draid_session.specs.Landing.{FindsSound}
use Rattle.draid_session.specs.Looks.{AllOf}
use Rattle.draid_session.specs.Passes as passes
use Rattle.draid_session.specs.Passes.{Ended, Outcome, Paused, Stopped, Tally}
use Rattle.draid_session.specs.Phases.{Broke, Starved, WasLast, WasWorn, Went}
use Rattle.draid_session.specs.Present.{AreReached}
use Rattle.draid_session.specs.State.{State}
use Rattle.draid_session.proofs.Balancing.{rebuilds_no_scrub}
use Rattle.draid_session.proofs.Looked.{follows_split}
use Rattle.draid_session.proofs.Present.{hold_reached, layout_stays}
use Rattle.draid_session.proofs.Unrepaired.{lands_none}

module _ (geometry : Geometry) (perms : Perms) where
  -- a pool of this layout, of which each metaslab has a legal history
  pub record Stands (x : State) : Type 0 where
    pub layout : x.geometry ≡ geometry
    pub children : x.perms ≡ perms
    pub reached : AreReached x

  pub hold_stands : (hold : Hold) (x z : State) → Holds hold x z → Stands x → Stands z
  hold_stands hold x z it is = (let same = layout_stays geometry perms hold x z it in
      record { layout = same.0 ∙ is.layout; children = same.1 ∙ is.children; reached = hold_reached hold x z it is.reached })

  pub follows_stands : (holds : List Hold) (x z : State) → Follows holds x z → Stands x → Stands z
  follows_stands [] x z follows is = subst Stands (sym follows) is
  follows_stands (hold ∷ holds) x z follows is = follows_stands holds follows.0 z follows.2 (hold_stands hold x follows.0 follows.1 is)

  abbrev Sound : List Hold → Type 0
  Sound holds = AllOf (FindsSound geometry perms) holds

  split : (front back : List Hold) → Sound (front ++ back) → Sound front × Sound back
  split [] back sound = (tt, sound)
  split (hold ∷ front) back sound = let rest = split front back sound.1 in ((sound.0, rest.0), rest.1)

  -- ---- a landing

  none_by : (u : View) (landed : machine.State) (repaired : ℕ) (e : Event) → machine.IsLayout (layout_at geometry perms u) → IsReached (layout_at geometry perms u) u.world → Step (layout_at geometry perms u) u.world e landed
      → passes.LandsAs geometry perms Heal u e repaired → passes.LandsNeeded geometry perms u e → FindsSound geometry perms (On u (Did e landed)) → repaired ≡ 0
  none_by u landed repaired (event.LandBlock pass serial failed patched unreadable) lay reached step (n, h, loan, held, is) needed sound =
      let both = sound n h loan held in
      lands_none geometry perms u landed lay reached repaired n h loan held (event.LandBlock pass serial failed patched unreadable) step (n, h, loan, held, is) needed both.0 both.1
  none_by u landed repaired e lay reached step lands needed sound = absurd lands

  landing_none : (u : View) (landed : machine.State) (repaired : ℕ) (e : Event) (x z : State) → Holds (On u (Did e landed)) x z → Stands x
      → passes.LandsAs geometry perms Heal u e repaired → passes.LandsNeeded geometry perms u e → FindsSound geometry perms (On u (Did e landed)) → repaired ≡ 0
  landing_none u landed repaired e x z it is lands needed sound =
      let world : it.before.world ≡ u.world = sym (ap (λ (v : View). v.world) it.sees) in
      let lay : machine.IsLayout (layout_at geometry perms u)
      = subst (λ (g : Geometry). machine.IsLayout (layout_of g perms u.metaslab)) is.layout (subst (λ (p : Perms). machine.IsLayout (layout_of x.geometry p u.metaslab)) is.children (is.reached.layout u.metaslab)) in
      let reached : IsReached (layout_at geometry perms u) u.world
      = subst (λ (g : Geometry). IsReached (layout_of g perms u.metaslab) u.world) is.layout (subst (λ (p : Perms). IsReached (layout_of x.geometry p u.metaslab) u.world) is.children
      (subst (IsReached (layout_of x.geometry x.perms u.metaslab)) world (is.reached.each u.metaslab it.before it.there))) in
      let step : Step (layout_at geometry perms u) u.world e landed
      = subst (λ (g : Geometry). Step (layout_of g perms u.metaslab) u.world e landed) is.layout (subst (λ (p : Perms). Step (layout_of x.geometry p u.metaslab) u.world e landed) is.children
      (subst (λ (w : machine.State). Step (layout_of x.geometry x.perms u.metaslab) w e landed) world it.acts.legal)) in
      none_by u landed repaired e lay reached step lands needed sound

  -- ---- a visit

  last_same : (m : ℕ) (left : Option ℕ) (t : Tally) (holds : List Hold) (o : Outcome) (new : Tally) → passes.LastOf geometry perms m left t holds o new → new.repaired ≡ t.repaired
  last_same m left t holds Ended new l = ap (λ (t : Tally). t.repaired) l.2
  last_same m left t holds Paused new l = ap (λ (t : Tally). t.repaired) l.1
  last_same m left t holds (Stopped WasWorn) new l = ap (λ (t : Tally). t.repaired) l.1
  last_same m left t holds (Stopped Starved) new l = ap (λ (t : Tally). t.repaired) l.1
  last_same m left t holds (Stopped Went) new l = absurd l
  last_same m left t holds (Stopped WasLast) new l = absurd l
  last_same m left t holds (Stopped Broke) new l = absurd l

  lends_none : (m n : ℕ) (left : Option ℕ) (t : Tally) (holds : List Hold) (o : Outcome) (after : Option ℕ) (new : Tally) (x z : State) → passes.Lends geometry perms Heal m n left t holds o after new
      → Sound holds → Follows holds x z → Stands x → t.repaired ≡ 0 → new.repaired ≡ 0
  lends_none m zero left t holds o after new x z l sound follows is none = last_same m left t holds o new l.0 ∙ none
  lends_none m (suc n) left t holds o after new x z (rest, repaired, some, one, more) sound follows is none =
      let all = subst Sound one.are sound in
      let parts = subst (λ hs. Follows hs x z) one.are follows in
      let lent = hold_stands (On one.v (Did (event.Lend one.failed) one.lent)) x parts.0 parts.1 is in
      let own = landing_none one.u one.landed repaired one.e parts.0 parts.2.0 parts.2.1 lent one.lands one.needed all.1.0 in
      lends_none m n (passes.one_less left) (passes.has_lent repaired t) rest o after new parts.2.0 z more all.1.1 parts.2.2
      (hold_stands (On one.u (Did one.e one.landed)) parts.0 parts.2.0 parts.2.1 lent) (omega (arith, own, none))

  visit_none : (m : ℕ) (left : Option ℕ) (t : Tally) (holds : List Hold) (o : Outcome) (after : Option ℕ) (new : Tally) (x z : State) → passes.Visits geometry perms Heal m left t holds o after new
      → Sound holds → Follows holds x z → Stands x → t.repaired ≡ 0 → new.repaired ≡ 0
  visit_none m left t holds o after new x z v sound follows is none =
      let parts = follows_split v.front v.back x z (subst (λ hs. Follows hs x z) v.are follows) in
      lends_none m v.units left (passes.has_begun (passes.pool_stripe geometry perms m v.at) t) v.back o after new parts.0 z v.lends
      (split v.front v.back (subst Sound v.are sound)).1 parts.2 (follows_stands v.front x parts.0 parts.1 is) none

  visits_none : (views : List View) (left : Option ℕ) (t : Tally) (holds : List Hold) (o : Outcome) (new : Tally) (x z : State)
      → passes.VisitsAll geometry perms Heal (passes.AnyView geometry perms) views left t holds o new → Sound holds → Follows holds x z → Stands x → t.repaired ≡ 0 → new.repaired ≡ 0
  visits_none [] left t holds o new x z w sound follows is none = ap (λ (t : Tally). t.repaired) w.2 ∙ none
  visits_none (v ∷ views) left t holds o new x z (inl w) sound follows is none = visits_none views left t holds o new x z w.1 sound follows is none
  visits_none (v ∷ views) left t holds o new x z (inr (visited, inl w)) sound follows is none = visit_none v.metaslab left t holds o w.0 new x z w.2 sound follows is none
  visits_none (v ∷ views) left t holds o new x z (inr (visited, inr (inl w))) sound follows is none = ap (λ (t : Tally). t.repaired) w.2 ∙ none
  visits_none (v ∷ views) left t holds o new x z (inr (visited, inr (inr (inl w)))) sound follows is none =
      let parts = follows_split w.0 w.1 x z (subst (λ hs. Follows hs x z) w.4 follows) in
      let both = split w.0 w.1 (subst Sound w.4 sound) in
      visits_none views w.2 w.3 w.1 o new parts.0 z w.6 both.1 parts.2 (follows_stands w.0 x parts.0 parts.1 is)
      (visit_none v.metaslab left t w.0 Ended w.2 w.3 x parts.0 w.5 both.0 parts.1 is none)
  visits_none (v ∷ views) left t holds o new x z (inr (visited, inr (inr (inr w)))) sound follows is none = absurd (rebuilds_no_scrub w.3)

  -- ---- the command

  pub scrub_none : (limit : Option ℕ) (holds : List Hold) (o : Outcome) (t : Tally) (x z : State) → x.geometry ≡ geometry → x.perms ≡ perms → passes.Scrubs geometry perms limit holds o t
      → Sound holds → Follows holds x z → AreReached x → t.repaired ≡ 0
  scrub_none limit holds o t x z layout children s sound follows reached =
      let parts = follows_split s.finds.looks s.rest x z (subst (λ hs. Follows hs x z) s.finds.are follows) in
      visits_none s.visited limit passes.nothing_yet s.rest o t parts.0 z s.visits (split s.finds.looks s.rest (subst Sound s.finds.are sound)).1 parts.2
      (follows_stands s.finds.looks x parts.0 parts.1 (record { layout = layout; children = children; reached = reached })) refl
