-- Behind an agent whose rebuild had no errors each slot that got a spare is whole.
use Rattle.std.proofs.Common.{◌≡◌, ◌∙◌, ◌<◌, ◌++◌, ◌==◌, ℕ, zero, suc, Bool, true, false, List, [], ◌∷◌, Option, Some, None, inl, inr, arith, refl, sym, ap, subst, length}
use Rattle.std.specs.Prelude.{⊤, slice_index_or}
use Rattle.draid_names.specs.declared.journal.Did.{Did as Deed}
use Rattle.draid_names.specs.declared.journal.Did.TheVariants as did
use Rattle.draid_names.specs.declared.journal.Entry.{Entry}
use Rattle.draid_names.specs.declared.pass_kind.PassKind.TheVariants.{Heal, Rebuild}
use Rattle.draid_spec.specs.declared.layout.Geometry.{Geometry}
use Rattle.draid_perm.specs.declared.perms.Perms.{Perms}
use Rattle.draid_machine.specs.declared.event.Event.{Event}
use Rattle.draid_machine.specs.declared.event.Event.TheVariants as event
use Rattle.draid_machine.specs.declared.names.ArmName.{ArmName}
use Rattle.draid_machine.specs.declared.names.ArmName.TheVariants.{Leaf, Spare}
use Rattle.draid_machine.specs.After.{map_arm, renew_if}
use Rattle.draid_machine.specs.Arms.{HasEmptyLog, first_spare, has_moved, is_fresh}
use Rattle.draid_machine.specs.Created.{IsReached}
use Rattle.draid_machine.specs.Images.{AreListed}
use Rattle.draid_machine.specs.Names.{has_name}
use Rattle.draid_machine.specs.State as machine
use Rattle.draid_machine.specs.Step.{AttachStep, Step}
use Rattle.draid_machine.proofs.Losing.{every_segment}
use Rattle.draid_machine.proofs.Small.{has_append, is_equal, none_some, some_injective, true_left}
use Rattle.draid_layouts.specs.Layout.{layout_of}
use Rattle.draid_session.specs.Agent as agent
use Rattle.draid_session.specs.Arms as arms
use Rattle.draid_session.specs.Bearing.{IsSlotWhole}
use Rattle.draid_session.specs.Follows.{Follows}
use Rattle.draid_session.specs.Holds.{Did, Hold, Looked, On, View, view_of}
use Rattle.draid_session.specs.Looks.{AllOf}
use Rattle.draid_session.specs.Passes as passes
use Rattle.draid_session.specs.Passes.{Ended, Outcome, Tally}
use Rattle.draid_session.specs.Phases.{End, NoneOf, Went}
use Rattle.draid_session.specs.Present.{AreReached}
use Rattle.draid_session.specs.State.{State}
use Rattle.draid_session.proofs.Balancing.{rebuilds_no_scrub}
use Rattle.draid_session.proofs.Looked.{follows_split, looks_at, looks_seen}
use Rattle.draid_session.proofs.Outliving.{IsMending, SameUp, attach_none, each_at, found_mends, joined, joined_after, joined_arm, own_fresh, own_listed, own_order, order_still, quiet_keeps, reserving_quiet, same_up}
use Rattle.draid_session.proofs.Phased.{all_both, looks_from_all}
use Rattle.draid_session.proofs.Present.{follows_reached}
use Rattle.draid_session.proofs.Rebuilt.{AtState, IsMadeGood, follows_keep}
use Rattle.draid_session.proofs.Spotless.{IsOfScrub, keeps}
use Rattle.draid_session.proofs.Visited.{found_good, layout_stays}

-- ---- an attachment

-- a metaslab has no pass
abbrev IsIdle : machine.State → Type 0
IsIdle w = w.core.pass ≡ None

-- nor one whose slot has a spare that came new
record HasNewSpare (slot t : ℕ) (w : machine.State) : Type 0 where
  pass : w.core.pass ≡ None
  pub listed : has_name (w.core.order slot) (Spare t) ≡ true
  fresh : is_fresh (w.core.arm (Spare t)) ≡ true

attach_idle : (l : machine.Layout) (w new : machine.State) (b u : ℕ) → AttachStep l w b (Spare u) new → IsIdle w → IsIdle new
attach_idle l w new b u s idle = ap (λ (x : machine.State). x.core.pass) (s.made ∙ attach_none l w b u s.last idle) ∙ idle

listed_of : (l : machine.Layout) (w : machine.State) → machine.IsLayout l → IsReached l w → AreListed w.core
listed_of l w lay r = (every_segment l w lay r).listed

attach_new : (l : machine.Layout) (w new : machine.State) (b u : ℕ) → machine.IsLayout l → IsReached l w → AttachStep l w b (Spare u) new → IsIdle w → HasNewSpare b u new
attach_new l w new b u lay r s idle =
    let listed = listed_of l w lay r in
    subst (HasNewSpare b u) (sym (s.made ∙ attach_none l w b u s.last idle)) (record { pass = idle; listed = own_listed l w b u s.last listed s.unused; fresh = own_fresh l w b u s.last listed s.unused })

-- it stays so where another spare comes
attach_still : (l : machine.Layout) (w new : machine.State) (b u slot t : ℕ) → machine.IsLayout l → IsReached l w → AttachStep l w b (Spare u) new → HasNewSpare slot t w → HasNewSpare slot t new
attach_still l w new b u slot t lay r s is =
    subst (HasNewSpare slot t) (sym (s.made ∙ attach_none l w b u s.last is.pass)) (record { pass = is.pass; listed = by (b == slot) refl; fresh = fresh })
  where
    listed : AreListed w.core
    listed = listed_of l w lay r

    arm : (a : machine.Arm) × (w.core.arm (Spare t) ≡ Some a) × (a.gone ≡ None)
    arm = listed.data_of slot (Spare t) is.listed

    other : (b == suc b) ≡ false
    other = by (b == suc b) refl
      where
        by : (c : Bool) → (b == suc b) ≡ c → (b == suc b) ≡ false
        by false is = is
        by true is = absurd (let same = is_equal b (suc b) is in omega (arith, same))

    was : (o : Option machine.Arm) (a : machine.Arm) → o ≡ Some a → is_fresh o ≡ true → a.fresh ≡ true
    was None a here fresh = absurd (none_some None a refl here)
    was (Some c) a here fresh = subst (λ (d : machine.Arm). d.fresh ≡ true) (some_injective c a here) fresh

    fresh : is_fresh ((joined_after l w b u s.last listed s.unused).arm (Spare t)) ≡ true
    fresh = ap (λ o. is_fresh (map_arm (renew_if (has_moved l w.core (joined l w b u s.last listed s.unused) (Spare t)) s.last) o)) (joined_arm l w b u s.last listed s.unused (suc b) other (Spare t) arm.0 arm.1)
        ∙ true_left arm.0.fresh (has_moved l w.core (joined l w b u s.last listed s.unused) (Spare t)) (was (w.core.arm (Spare t)) arm.0 arm.1 is.fresh)

    by : (c : Bool) → (b == slot) ≡ c → has_name ((joined_after l w b u s.last listed s.unused).order slot) (Spare t) ≡ true
    by true same =
        let at = is_equal b slot same in
        subst (λ k. has_name ((joined_after l w b u s.last listed s.unused).order k) (Spare t) ≡ true) at
        (subst (λ ns. has_name ns (Spare t) ≡ true) (sym (own_order l w b u s.last listed s.unused))
        (has_append (w.core.order b) (Spare u ∷ []) (Spare t) ∙ true_left (has_name (w.core.order b) (Spare t)) (has_name (Spare u ∷ []) (Spare t)) (subst (λ k. has_name (w.core.order k) (Spare t) ≡ true) (sym at) is.listed)))
    by false apart = subst (λ ns. has_name ns (Spare t) ≡ true) (sym (order_still l w b u s.last listed s.unused slot apart)) is.listed

-- ---- all that come

module _ (geometry : Geometry) (perms : Perms) (chosen : ℕ → ℕ → List ℕ → Option ℕ → Type 0) (lay : (k : ℕ) → machine.IsLayout (layout_of geometry perms k)) (m : ℕ) (inside : m < geometry.props.metaslabs) where
  abbrev L : machine.Layout
  L = layout_of geometry perms m

  -- what a spare that comes keeps, or what it makes of the metaslab, and then what that leads to
  one_comes : (P R : machine.State → Type 0) (Behind : Type 0) (d : Deed) (slot : ℕ) (Then : List Hold → End → Type 0)
      → ((u : ℕ) → d ≡ did.Spared u → (w new : machine.State) → IsReached L w → Step L w (event.Attach slot (Spare u)) new → P w → R new) → (d ≡ did.NoneFree → (w : machine.State) → P w → R w)
      → (holds : List Hold) (x z : State) → x.geometry ≡ geometry → x.perms ≡ perms → agent.AttachesThen geometry perms chosen d slot Then holds Went → Follows holds x z → AreReached x → AtState m P x
      → ((hs : List Hold) (y : State) → y.geometry ≡ geometry → y.perms ≡ perms → Then hs Went → Follows hs y z → AreReached y → AtState m R y → Behind) → Behind
  one_comes P R Behind did.NoneFree slot Then step none holds x z g p come follows r is next = next holds x g p come follows r (λ y there. none refl y.world (is y there))
  one_comes P R Behind (did.Spared u) slot Then step none holds x z g p (inr stopped) follows r is next = absurd (stopped.0 refl)
  one_comes P R Behind (did.Spared u) slot Then step none holds x z g p (inl (front, back, are, events, then_)) follows r is next =
      let split = follows_split front back x z (subst (λ hs. Follows hs x z) are follows) in
      let same = layout_stays front x split.0 split.1 in
      next back split.0 (same.0 ∙ g) (same.1 ∙ p) then_ split.2 (follows_reached front x split.0 split.1 r)
      (each_at m P R (event.Attach slot (Spare u)) geometry perms (step u refl) 0 geometry.props.metaslabs front x split.0 g p events.0 split.1 r (omega arith) (omega (arith, inside)) is)

  -- what each attachment keeps
  all_keep : (P : machine.State → Type 0) → ((b u : ℕ) (w new : machine.State) → IsReached L w → Step L w (event.Attach b (Spare u)) new → P w → P new)
      → (entries : List Entry) (holds : List Hold) (x z : State) → x.geometry ≡ geometry → x.perms ≡ perms → agent.AttachesAll geometry perms chosen entries holds Went → Follows holds x z → AreReached x → AtState m P x → AtState m P z
  all_keep P step [] holds x z g p come follows r is = subst (AtState m P) (sym (subst (λ hs. Follows hs x z) come.0 follows)) is
  all_keep P step (e ∷ entries) holds x z g p come follows r is =
      one_comes P P (AtState m P z) e.did e.slot (agent.AttachesAll geometry perms chosen entries) (λ u same. step e.slot u) (λ none w p. p) holds x z g p come follows r is
      (λ hs y yg yp then_ rest reached q. all_keep P step entries hs y z yg yp then_ rest reached q)

  -- one of the spares
  spare_came : (e : Entry) (t : ℕ) → e.did ≡ did.Spared t → (entries : List Entry) (k : ℕ) → k < length entries → slice_index_or entries k e ≡ e → (holds : List Hold) (x z : State) → x.geometry ≡ geometry → x.perms ≡ perms
      → agent.AttachesAll geometry perms chosen entries holds Went → Follows holds x z → AreReached x → AtState m IsIdle x → AtState m (HasNewSpare e.slot t) z
  spare_came e t came [] k low at holds x z g p come follows r is = absurd (omega (arith, low))
  spare_came e t came (f ∷ entries) zero low at holds x z g p come follows r is =
      one_comes IsIdle (HasNewSpare e.slot t) (AtState m (HasNewSpare e.slot t) z) f.did f.slot (agent.AttachesAll geometry perms chosen entries)
      (λ u same w new reached step idle. (
      let spare : did.Spared u ≡ did.Spared t = sym same ∙ (ap (λ (g : Entry). g.did) at ∙ came) in
      let own : u ≡ t = cc in
      subst (λ k. HasNewSpare k t new) (ap (λ (g : Entry). g.slot) at) (subst (λ k. HasNewSpare f.slot k new) own (attach_new L w new f.slot u (lay m) reached step idle))
      ))
      (λ none w idle. absurd (let h : did.NoneFree ≡ did.Spared t = sym none ∙ (ap (λ (g : Entry). g.did) at ∙ came) in cc)) holds x z g p come follows r is
      (λ hs y yg yp then_ rest reached q. all_keep (HasNewSpare e.slot t) (λ b u w new reached step is. attach_still L w new b u e.slot t (lay m) reached step is) entries hs y z yg yp then_ rest reached q)
  spare_came e t came (f ∷ entries) (suc k) low at holds x z g p come follows r is =
      one_comes IsIdle IsIdle (AtState m (HasNewSpare e.slot t) z) f.did f.slot (agent.AttachesAll geometry perms chosen entries) (λ u same w new reached step idle. attach_idle L w new f.slot u step idle) (λ none w idle. idle)
      holds x z g p come follows r is (λ hs y yg yp then_ rest reached q. spare_came e t came entries k (omega (arith, low)) at hs y z yg yp then_ rest reached q)

-- ---- a rebuild

module _ (geometry : Geometry) (perms : Perms) where
  -- where it began nothing it counted nothing
  lends_from : (m n : ℕ) (left : Option ℕ) (t : Tally) (holds : List Hold) (after : Option ℕ) (new : Tally) → passes.Lends geometry perms Rebuild m n left t holds Ended after new → new.from ≡ t.from
  lends_from m zero left t holds after new l = ap (λ (u : Tally). u.from) l.0.2
  lends_from m (suc n) left t holds after new (rest, repaired, some, one, more) = lends_from m n (passes.one_less left) (passes.has_lent repaired t) rest after new more

  first_some : (o : Option ℕ) (at : ℕ) → (a : ℕ) × (passes.first_from o at ≡ Some a)
  first_some None at = (at, refl)
  first_some (Some a) at = (a, refl)

  visit_from : (m : ℕ) (left : Option ℕ) (t : Tally) (holds : List Hold) (after : Option ℕ) (new : Tally) → passes.Visits geometry perms Rebuild m left t holds Ended after new → (a : ℕ) × (new.from ≡ Some a)
  visit_from m left t holds after new v =
      let begun = first_some t.from (passes.pool_stripe geometry perms m v.at) in
      (begun.0, lends_from m v.units left (passes.has_begun (passes.pool_stripe geometry perms m v.at) t) v.back after new v.lends ∙ begun.1)

  visits_none : (views : List View) (left : Option ℕ) (t : Tally) (holds : List Hold) (new : Tally) → passes.VisitsAll geometry perms Rebuild (passes.IsRebuilt geometry perms) views left t holds Ended new
      → new.from ≡ None → (t.from ≡ None) × (new.errors ≡ t.errors)
  visits_none [] left t holds new w none = (sym (ap (λ (u : Tally). u.from) w.2) ∙ none, ap (λ (u : Tally). u.errors) w.2)
  visits_none (v ∷ views) left t holds new (inl w) none = visits_none views left t holds new w.1 none
  visits_none (v ∷ views) left t holds new (inr (visited, inl w)) none = absurd (w.1 refl)
  visits_none (v ∷ views) left t holds new (inr (visited, inr (inl w))) none = absurd (cc (w.1))
  visits_none (v ∷ views) left t holds new (inr (visited, inr (inr (inl w)))) none =
      let rest = visits_none views w.2 w.3 w.1 new w.6 none in
      let begun = visit_from v.metaslab left t w.0 w.2 w.3 w.5 in
      absurd (none_some w.3.from begun.0 rest.0 begun.1)
  visits_none (v ∷ views) left t holds new (inr (visited, inr (inr (inr w)))) none = visits_none views left t w.1 new w.5 none

  -- ---- a scrub

  -- its holds
  abbrev IsScrubbing : Hold → Type 0
  IsScrubbing (On v Looked) = ⊤
  IsScrubbing (On v (Did e w)) = IsOfScrub e
  IsScrubbing hold = ⊥

  lends_scrub : (m n : ℕ) (left : Option ℕ) (t : Tally) (holds : List Hold) (after : Option ℕ) (new : Tally) → passes.Lends geometry perms Heal m n left t holds Ended after new → AllOf IsScrubbing holds
  lends_scrub m zero left t holds after new l = subst (AllOf IsScrubbing) (sym l.0.1.are) (tt, tt)
  lends_scrub m (suc n) left t holds after new (rest, repaired, some, one, more) =
      subst (AllOf IsScrubbing) (sym one.are) (tt, (lands one.u one.e one.landed repaired one.lands, lends_scrub m n (passes.one_less left) (passes.has_lent repaired t) rest after new more))
    where
      lands : (u : View) (e : Event) (landed : machine.State) (repaired : ℕ) → passes.LandsAs geometry perms Heal u e repaired → IsScrubbing (On u (Did e landed))
      lands u (event.LandBlock pass serial failed patched unreadable) landed repaired l = tt
      lands u e landed repaired l = absurd l

  visit_scrubs : (m : ℕ) (left : Option ℕ) (t : Tally) (holds : List Hold) (after : Option ℕ) (new : Tally) → passes.Visits geometry perms Heal m left t holds Ended after new → AllOf IsScrubbing holds
  visit_scrubs m left t holds after new v =
      subst (AllOf IsScrubbing) (sym v.are) (all_both IsScrubbing v.front v.back (by v.begins) (lends_scrub m v.units left (passes.has_begun (passes.pool_stripe geometry perms m v.at) t) v.back after new v.lends))
    where
      starts : (first : List Hold) → passes.Starts geometry perms Heal m v.at first Went → AllOf IsScrubbing first
      starts first (inl goes) = subst (AllOf IsScrubbing) (sym goes.are) (tt, tt)
      starts first (inr plans) = subst (AllOf IsScrubbing) (sym plans.1.are) (tt, tt)

      by : passes.BeginsVisit geometry perms Heal m v.at v.front Went → AllOf IsScrubbing v.front
      by (inr stopped) = absurd (stopped.0 refl)
      by (inl (first, behind, are, s, ready)) = subst (AllOf IsScrubbing) (sym are) (all_both IsScrubbing first behind (starts first s) (subst (AllOf IsScrubbing) (sym ready.0) tt))

  visits_scrub : (views : List View) (left : Option ℕ) (t : Tally) (holds : List Hold) (new : Tally) → passes.VisitsAll geometry perms Heal (passes.AnyView geometry perms) views left t holds Ended new → AllOf IsScrubbing holds
  visits_scrub [] left t holds new w = subst (AllOf IsScrubbing) (sym w.0) tt
  visits_scrub (v ∷ views) left t holds new (inl w) = visits_scrub views left t holds new w.1
  visits_scrub (v ∷ views) left t holds new (inr (visited, inl w)) = absurd (w.1 refl)
  visits_scrub (v ∷ views) left t holds new (inr (visited, inr (inl w))) = absurd (cc (w.1))
  visits_scrub (v ∷ views) left t holds new (inr (visited, inr (inr (inl w)))) =
      subst (AllOf IsScrubbing) (sym w.4) (all_both IsScrubbing w.0 w.1 (visit_scrubs v.metaslab left t w.0 w.2 w.3 w.5) (visits_scrub views w.2 w.3 w.1 new w.6))
  visits_scrub (v ∷ views) left t holds new (inr (visited, inr (inr (inr w)))) = absurd (rebuilds_no_scrub w.3)

  scrub_all : (limit : Option ℕ) (holds : List Hold) (t : Tally) → passes.Scrubs geometry perms limit holds Ended t → AllOf IsScrubbing holds
  scrub_all limit holds t s =
      subst (AllOf IsScrubbing) (sym s.finds.are) (all_both IsScrubbing s.finds.looks s.rest (looks_from_all IsScrubbing (λ v. tt) 0 geometry.props.metaslabs s.finds.looks s.views s.finds.looked)
      (visits_scrub s.visited limit passes.nothing_yet s.rest t s.visits))

-- ---- a slot that is whole

-- a spare of it has missed nothing
pub record HasGoodSpare (slot t : ℕ) (w : machine.State) : Type 0 where
  pub listed : has_name (w.core.order slot) (Spare t) ≡ true
  pub empty : HasEmptyLog w.core (Spare t)

spare_some : (ns : List ArmName) (t : ℕ) → has_name ns (Spare t) ≡ true → first_spare ns ≡ None → ⊥
spare_some [] t listed none = absurd (cc)
spare_some (Leaf k ∷ ns) t listed none = spare_some ns t listed none
spare_some (Spare u ∷ ns) t listed none = none_some (Some u) u none refl

pub slot_whole : (slot t : ℕ) (w : machine.State) → HasGoodSpare slot t w → IsSlotWhole w.core slot
slot_whole slot t w is = record { n = Spare t; listed = is.listed; up = tt; empty = is.empty; first = λ none. absurd (spare_some (w.core.order slot) t is.listed none) }

scrub_keeps : (slot t m : ℕ) (geometry : Geometry) (perms : Perms) (holds : List Hold) (x z : State) → AllOf (IsScrubbing geometry perms) holds → Follows holds x z → AreReached x
    → AtState m (HasGoodSpare slot t) x → AtState m (HasGoodSpare slot t) z
scrub_keeps slot t m geometry perms =
    follows_keep m (IsScrubbing geometry perms) (HasGoodSpare slot t) (λ l v e w new at q lay r s is. (
    let k = keeps l w e new q s in
    record { listed = subst (λ (f : ℕ → List ArmName). has_name (f slot) (Spare t) ≡ true) (sym k.order) is.listed; empty = λ g. k.logs (Spare t) g (is.empty g) }
    ))

mend_keeps : (slot t m : ℕ) (holds : List Hold) (x z : State) → AllOf IsMending holds → Follows holds x z → AreReached x → AtState m (λ w. has_name (w.core.order slot) (Spare t) ≡ true) x
    → AtState m (λ w. has_name (w.core.order slot) (Spare t) ≡ true) z
mend_keeps slot t m =
    follows_keep m IsMending (λ w. has_name (w.core.order slot) (Spare t) ≡ true) (λ l v e w new at q lay r s is. (
    let same : SameUp w new = same_up l v e w new q s in
    subst (λ (f : ℕ → List ArmName). has_name (f slot) (Spare t) ≡ true) (sym same.order) is
    ))

-- ---- the command

none_there : (views : List View) → NoneOf arms.HasPass views → AllOf (λ (v : View). v.world.core.pass ≡ None) views
none_there [] none = tt
none_there (v ∷ views) none = (by v.world.core.pass none.0, none_there views none.1)
  where
    by : (o : Option machine.Pass) → ((o ≡ None → ⊥) → ⊥) → o ≡ None
    by None not = refl
    by (Some p) not = absurd (not (λ is. none_some None p refl (sym is)))

module _ (geometry : Geometry) (perms : Perms) (chosen : ℕ → ℕ → List ℕ → Option ℕ → Type 0) (m : ℕ) (inside : m < geometry.props.metaslabs) (e : Entry) (t : ℕ) (came : e.did ≡ did.Spared t) where
  -- a rebuild makes the spare good
  rebuild_makes : (views : List View) (rest : List Hold) (u : Tally) (holds : List Hold) (x z : State) → x.geometry ≡ geometry → x.perms ≡ perms → passes.FindsNoOther geometry perms Rebuild holds views rest
      → passes.VisitsAll geometry perms Rebuild (passes.IsRebuilt geometry perms) views None passes.nothing_yet rest Ended u → u.errors ≡ 0 → Follows holds x z → AreReached x → AtState m (HasNewSpare e.slot t) x → AtState m (HasGoodSpare e.slot t) z
  rebuild_makes views rest u holds x z g p finds visits none follows r is y there =
      let listed = mend_keeps e.slot t m holds x z (found_mends geometry perms None holds views rest u finds visits) follows r (λ k at. (is k at).listed) in
      let good : AtState m (IsMadeGood (Spare t)) z =
      found_good geometry perms m (Spare t) None holds views rest u x z finds visits none follows g p r inside (λ k at. (let new = is k at in record { pass = new.pass; wanted = record { slot = e.slot; listed = new.listed; fresh = new.fresh; up = tt } })) in
      record { listed = listed y there; empty = (good y there).empty }

  rebuilds_make : (errors : ℕ) (holds : List Hold) (x z : State) → x.geometry ≡ geometry → x.perms ≡ perms → agent.RebuildsAll geometry perms chosen errors holds → errors ≡ 0 → Follows holds x z → AreReached x
      → AtState m (HasNewSpare e.slot t) x → AtState m (HasGoodSpare e.slot t) z
  rebuilds_make errors holds x z g p (inl (u, r, are)) none follows reached is = rebuild_makes r.views r.rest u holds x z g p r.finds r.visits (are ∙ none) follows reached is
  rebuilds_make errors holds x z g p (inr (r, zero_)) none follows reached is =
      rebuild_makes r.views r.rest r.t holds x z g p r.finds r.visits ((visits_none geometry perms r.views None passes.nothing_yet r.rest r.t r.visits r.none).1) follows reached is

  pub agent_makes : (least number rebuild scrub : ℕ) (entries : List Entry) (k : ℕ) → k < length entries → slice_index_or entries k e ≡ e → (holds rest : List Hold) (x z : State) → x.geometry ≡ geometry → x.perms ≡ perms
      → agent.Acts geometry perms chosen least number entries holds rest → agent.Heals geometry perms chosen rebuild scrub rest → rebuild ≡ 0 → Follows holds x z → AreReached x → AtState m (HasGoodSpare e.slot t) z
  agent_makes least number rebuild scrub entries k low at holds rest x z g p acts (front, back, are, mends, scrubs) none follows r =
      let b = acts.begins in
      let one = follows_split b.finish (b.looks ++ acts.back) x z (subst (λ hs. Follows hs x z) b.are follows) in
      let two = follows_split b.looks acts.back one.0 z one.2 in
      let three = follows_split acts.reserving (acts.coming ++ rest) two.0 z (subst (λ hs. Follows hs two.0 z) acts.are two.2) in
      let four = follows_split acts.coming rest three.0 z three.2 in
      let five = follows_split front back four.0 z (subst (λ hs. Follows hs four.0 z) are four.2) in
      let s1 = layout_stays b.finish x one.0 one.1 in
      let s2 = layout_stays b.looks one.0 two.0 two.1 in
      let s3 = layout_stays acts.reserving two.0 three.0 three.1 in
      let s4 = layout_stays acts.coming three.0 four.0 four.1 in
      let r1 = follows_reached b.finish x one.0 one.1 r in
      let r2 = follows_reached b.looks one.0 two.0 two.1 r1 in
      let r3 = follows_reached acts.reserving two.0 three.0 three.1 r2 in
      let r4 = follows_reached acts.coming three.0 four.0 four.1 r3 in
      let r5 = follows_reached front four.0 five.0 five.1 r4 in
      let g3 = s3.0 ∙ (s2.0 ∙ (s1.0 ∙ g)) in
      let p3 = s3.1 ∙ (s2.1 ∙ (s1.1 ∙ p)) in
      let seen = looks_seen 0 geometry.props.metaslabs b.looks acts.views one.0 two.0 b.looked two.1 in
      let idle : AtState m IsIdle two.0 = λ y there. (
      let back = seen.back m y there in
      let none : (view_of m back.0).world.core.pass ≡ None = looks_at (λ (v : View). v.world.core.pass ≡ None) 0 geometry.props.metaslabs b.looks acts.views one.0 two.0 b.looked two.1 (none_there acts.views b.none) m back.0 (omega arith) (omega (arith, inside)) back.1 in
      ap (λ (v : View). v.world.core.pass) back.2 ∙ none
      ) in
      let idle3 = quiet_keeps m IsIdle acts.reserving two.0 three.0 (reserving_quiet geometry perms (λ v. length entries) acts.reserving Went acts.reserves) three.1 r2 idle in
      let new = spare_came geometry perms chosen (lay r) m inside e t came entries k low at acts.coming three.0 four.0 g3 p3 acts.comes four.1 r3 idle3 in
      let good = rebuilds_make rebuild front four.0 five.0 (s4.0 ∙ g3) (s4.1 ∙ p3) mends none five.1 r4 new in
      scrub_keeps e.slot t m geometry perms back five.0 z (scrub_all geometry perms None back scrubs.0 scrubs.1) five.2 r5 good
    where
      lay : AreReached x → (k : ℕ) → machine.IsLayout (layout_of geometry perms k)
      lay r k = subst (λ (q : Geometry). machine.IsLayout (layout_of q perms k)) g (subst (λ (q : Perms). machine.IsLayout (layout_of x.geometry q k)) p (r.layout k))
