-- Behind a scrub without errors of a pool whose arms lie well a second scrub repairs nothing.
use Rattle.std.proofs.Common.{arith, ◌≡◌, ◌==◌, ◌+◌, ◌<◌, ◌≤◌, ◌⊎◌, ◌&&◌, ◌++◌, ◌∙◌, ℕ, zero, suc, Bool, true, false, List, [], ◌∷◌, Option, Some, None, inl, inr, refl, sym, ap, subst, nat_le}
use Rattle.std.specs.Prelude.{⊤, IsSome, slice_get}
use Rattle.std.proofs.lemmas.Bool.Decides.{nat_tests}
use Rattle.draid_names.specs.declared.pass_kind.PassKind.TheVariants.{Heal}
use Rattle.draid_spec.specs.declared.layout.Geometry.{Geometry}
use Rattle.draid_perm.specs.declared.perms.Perms.{Perms}
use Rattle.draid_machine.specs.After.{ended_pass}
use Rattle.draid_machine.specs.Arms.{logged}
use Rattle.draid_machine.specs.Claims.{is_on}
use Rattle.draid_machine.specs.Created.{IsReached}
use Rattle.draid_machine.specs.Names.{is_block, key_eq}
use Rattle.draid_machine.specs.State as machine
use Rattle.draid_machine.specs.Step.{Step, is_lent}
use Rattle.draid_machine.specs.declared.event.Event.{Event}
use Rattle.draid_machine.specs.declared.event.Event.TheVariants as event
use Rattle.draid_machine.specs.declared.names.Held.{Held}
use Rattle.draid_machine.proofs.Rows.{reached_sound}
use Rattle.draid_machine.proofs.Small.{absurd_test, both_true, key_true, none_some, not_false, some_injective, some_same}
use Rattle.draid_layouts.specs.Layout.{layout_of}
use Rattle.draid_session.specs.Follows.{Adds, Follows, HarmBoth, HarmBy, Holds, HoldsMetaslab}
use Rattle.draid_session.specs.Holds.{Act, Did, Hold, Looked, On, View, layout_at}
use Rattle.draid_session.specs.Landing.{FindsSound, HasCleanArms, IsUnhurtBlock}
use Rattle.draid_session.specs.Looks.{AllOf, LooksFrom}
use Rattle.draid_session.specs.Passes as passes
use Rattle.draid_session.specs.Passes.{Ended, Outcome, Paused, Stopped, Tally}
use Rattle.draid_session.specs.Phases.{Broke, End, Starved, WasLast, WasWorn, Went}
use Rattle.draid_session.specs.State.{Metaslab, State}
use Rattle.draid_session.specs.Twice.{ArmsLieWell, MayBeScrubbed}
use Rattle.draid_session.proofs.Balancing.{rebuilds_no_scrub}
use Rattle.draid_session.proofs.Calm.{hold_back}
use Rattle.draid_session.proofs.Looked.{follows_split, looks_all}
use Rattle.draid_session.proofs.Phased.{IsPhase, all_both, chain_all, looks_from_all}
use Rattle.draid_session.proofs.Sparing.{Stands, follows_stands, hold_stands}
use Rattle.draid_session.proofs.Spotless.{Harm, IsCommitted, IsOfScrub, IsScrubbed, IsScrubbing, WritesNoClean, done_scrubbed, done_scrubs, ended_heal, land_scrubs, lend_scrubs, pass_scrubs, plan_scrubs, scrubbed_still}
use Rattle.draid_session.proofs.Unrepaired.{clean_by, takes_clean}

both_told : (o p : Option Harm) (P : Harm → Harm → Type 0) (a : Harm) → HarmBoth o p P → o ≡ Some a → (b : Harm) × (p ≡ Some b) × P a b
both_told None p P a h e = absurd (none_some None a refl e)
both_told (Some x) None P a h e = absurd h
both_told (Some x) (Some y) P a h e = (y, refl, subst (λ z. P z y) (some_injective x a e) h)

some_harm : (o : Option Harm) → IsSome o → (a : Harm) × (o ≡ Some a)
some_harm None is = absurd_test false is refl
some_harm (Some a) is = (a, refl)

low_birth : (p : machine.Pass) (h : Held) → p.kind ≡ Heal → is_lent p h ≡ true → h.birth ≤ p.max
low_birth p h heal lent = by (both_true (is_block h.stage) (nat_le h.birth p.max) (subst (λ k. is_lent (record p { kind = k }) h ≡ true) heal lent))
  where
    by : (is_block h.stage ≡ true) × (nat_le h.birth p.max ≡ true) → h.birth ≤ p.max
    by both = (let low = both.1 in grind (arith, nat_tests, low))

-- an event of a scrub leaves a metaslab that is scrubbed so
scrub_event : (l : machine.Layout) → machine.IsLayout l → (w : machine.State) → IsReached l w → (e : Event) (new : machine.State) (a b : Harm) → IsOfScrub e → HarmBy l w e new a b → IsScrubbing l w a → IsScrubbing l new b
scrub_event l lay w reached (event.Plan Heal) new a b of by is = plan_scrubs l lay w reached new a b by.step by is
scrub_event l lay w reached (event.Lend failed) new a b of by is = lend_scrubs l lay w reached new a b failed by.step by is
scrub_event l lay w reached (event.LandBlock pass serial failed patched true) new a b of by is = pass_scrubs l lay w reached new a b pass serial failed patched by.step by is
scrub_event l lay w reached (event.LandBlock pass serial failed patched false) new a b of by is = land_scrubs l lay w reached new a b pass serial failed patched by is
scrub_event l lay w reached (event.Done failed) new a b of by is = done_scrubs l lay w reached new a b failed by.step by is
scrub_event l lay w reached e new a b of by is = absurd of

module _ (geometry : Geometry) (perms : Perms) where
  -- ---- the holds of a scrub

  abbrev pub IsScrubHold : Hold → Type 0
  IsScrubHold (On v Looked) = ⊤
  IsScrubHold (On v (Did e w)) = IsOfScrub e × passes.LandsNeeded geometry perms v e
  IsScrubHold hold = ⊥

  abbrev AreOfScrub : List Hold → Type 0
  AreOfScrub holds = AllOf IsScrubHold holds

  looks_only : (v : View) (holds : List Hold) → holds ≡ On v Looked ∷ [] → AreOfScrub holds
  looks_only v holds are = subst AreOfScrub (sym are) (tt, tt)

  plans_none : (m : ℕ) (holds : List Hold) (end : End) → passes.PlansNone geometry perms Heal m holds end → AreOfScrub holds
  plans_none m holds end p = looks_only p.v holds p.are

  starts : (m at : ℕ) → IsPhase IsScrubHold (passes.Starts geometry perms Heal m at)
  starts m at holds Went (inl g) = looks_only g.v holds g.are
  starts m at holds Went (inr p) = subst AreOfScrub (sym p.1.are) ((tt, tt), tt)
  starts m at holds WasWorn p = plans_none m holds WasWorn p
  starts m at holds WasLast p = plans_none m holds WasLast p
  starts m at holds Starved p = plans_none m holds Starved p
  starts m at holds Broke p = plans_none m holds Broke p

  readies : (m : ℕ) → IsPhase IsScrubHold (passes.ReadyPhase geometry perms Heal m)
  readies m holds end r = subst AreOfScrub (sym r.0) tt

  begins : (m at : ℕ) → IsPhase IsScrubHold (passes.BeginsVisit geometry perms Heal m at)
  begins m at = chain_all IsScrubHold (passes.Starts geometry perms Heal m at) (passes.ReadyPhase geometry perms Heal m) (starts m at) (readies m)

  last : (m : ℕ) (left : Option ℕ) (t : Tally) (holds : List Hold) (o : Outcome) (new : Tally) → passes.LastOf geometry perms m left t holds o new → AreOfScrub holds
  last m left t holds Ended new l = subst AreOfScrub (sym l.1.are) ((tt, tt), tt)
  last m left t holds Paused new l = looks_only l.0.v holds l.0.are
  last m left t holds (Stopped WasWorn) new l = looks_only l.0.v holds l.0.are
  last m left t holds (Stopped Starved) new l = elim l.0 [ inl back ↦ looks_only back.v holds back.are | inr out ↦ subst AreOfScrub (sym out.are) ((tt, tt), tt) ]
  last m left t holds (Stopped Went) new l = absurd l
  last m left t holds (Stopped WasLast) new l = absurd l
  last m left t holds (Stopped Broke) new l = absurd l

  landing : (u : View) (e : Event) (repaired : ℕ) → passes.LandsAs geometry perms Heal u e repaired → passes.LandsNeeded geometry perms u e → IsOfScrub e × passes.LandsNeeded geometry perms u e
  landing u (event.LandBlock pass serial failed patched unreadable) repaired lands needed = (tt, needed)
  landing u e repaired lands needed = absurd lands

  lends : (m n : ℕ) (left : Option ℕ) (t : Tally) (holds : List Hold) (o : Outcome) (after : Option ℕ) (new : Tally) → passes.Lends geometry perms Heal m n left t holds o after new → AreOfScrub holds
  lends m zero left t holds o after new l = last m left t holds o new l.0
  lends m (suc n) left t holds o after new (rest, repaired, some, one, more) =
      subst AreOfScrub (sym one.are) ((tt, tt), (landing one.u one.e repaired one.lands one.needed, lends m n (passes.one_less left) (passes.has_lent repaired t) rest o after new more))

  visit : (m : ℕ) (left : Option ℕ) (t : Tally) (holds : List Hold) (o : Outcome) (after : Option ℕ) (new : Tally) → passes.Visits geometry perms Heal m left t holds o after new → AreOfScrub holds
  visit m left t holds o after new v =
      subst AreOfScrub (sym v.are) (all_both IsScrubHold v.front v.back (begins m v.at v.front Went v.begins) (lends m v.units left (passes.has_begun (passes.pool_stripe geometry perms m v.at) t) v.back o after new v.lends))

  visits : (views : List View) (left : Option ℕ) (t : Tally) (holds : List Hold) (o : Outcome) (new : Tally)
      → passes.VisitsAll geometry perms Heal (passes.AnyView geometry perms) views left t holds o new → AreOfScrub holds
  visits [] left t holds o new w = subst AreOfScrub (sym w.0) tt
  visits (v ∷ views) left t holds o new (inl w) = visits views left t holds o new w.1
  visits (v ∷ views) left t holds o new (inr (visited, inl w)) = visit v.metaslab left t holds o w.0 new w.2
  visits (v ∷ views) left t holds o new (inr (visited, inr (inl w))) = begins v.metaslab w.3.at holds w.0 w.3.begins
  visits (v ∷ views) left t holds o new (inr (visited, inr (inr (inl w)))) =
      subst AreOfScrub (sym w.4) (all_both IsScrubHold w.0 w.1 (visit v.metaslab left t w.0 Ended w.2 w.3 w.5) (visits views w.2 w.3 w.1 o new w.6))
  visits (v ∷ views) left t holds o new (inr (visited, inr (inr (inr w)))) = absurd (rebuilds_no_scrub w.3)

  looks : (holds : List Hold) (views : List View) → LooksFrom 0 geometry.props.metaslabs holds views → AreOfScrub holds
  looks holds views looked = looks_from_all IsScrubHold (λ v. tt) 0 geometry.props.metaslabs holds views looked

  scrub_holds : (limit : Option ℕ) (holds : List Hold) (o : Outcome) (t : Tally) → passes.Scrubs geometry perms limit holds o t → AreOfScrub holds
  scrub_holds limit holds o t s =
      subst AreOfScrub (sym s.finds.are) (all_both IsScrubHold s.finds.looks s.rest (looks s.finds.looks s.views s.finds.looked) (visits s.visited limit passes.nothing_yet s.rest o t s.visits))

  -- ---- metaslabs

  -- harm is told of a metaslab, and it is scrubbed
  record HasScrubbed (m : ℕ) (y : Metaslab) : Type 0 where
    pub harm : Harm
    pub told : y.harm ≡ Some harm
    pub is : IsScrubbed (layout_of geometry perms m) y.world harm

  -- so where a scrub may be under way
  record HasScrubbing (m : ℕ) (y : Metaslab) : Type 0 where
    pub harm : Harm
    pub told : y.harm ≡ Some harm
    pub is : IsScrubbing (layout_of geometry perms m) y.world harm

  abbrev ScrubbedAt : ℕ → State → Type 0
  ScrubbedAt m x = (y : Metaslab) → slice_get x.metaslabs m ≡ Some y → HasScrubbed m y

  abbrev AllScrubbing : State → Type 0
  AllScrubbing x = (m : ℕ) (y : Metaslab) → slice_get x.metaslabs m ≡ Some y → HasScrubbing m y

  -- ---- an event in a hold

  -- by the layout of all
  record Comes (v : View) (e : Event) (w : machine.State) (before after : Metaslab) : Type 0 where
    pub lay : machine.IsLayout (layout_at geometry perms v)
    pub reached : IsReached (layout_at geometry perms v) v.world
    pub adds : Adds (layout_at geometry perms v) e w before after
    pub world : v.world ≡ before.world
    pub harm_is : v.harm ≡ before.harm

  comes : (v : View) (e : Event) (w : machine.State) (x z : State) → (it : HoldsMetaslab v (Did e w) x z) → Stands geometry perms x → Comes v e w it.before it.after
  comes v e w x z it is =
      let world : v.world ≡ it.before.world = ap (λ (v : View). v.world) it.sees in
      record {
        lay = subst (λ (g : Geometry). machine.IsLayout (layout_of g perms v.metaslab)) is.layout (subst (λ (p : Perms). machine.IsLayout (layout_of x.geometry p v.metaslab)) is.children (is.reached.layout v.metaslab));
        reached = subst (λ (g : Geometry). IsReached (layout_of g perms v.metaslab) v.world) is.layout (subst (λ (p : Perms). IsReached (layout_of x.geometry p v.metaslab) v.world) is.children
            (subst (IsReached (layout_of x.geometry x.perms v.metaslab)) (sym world) (is.reached.each v.metaslab it.before it.there)));
        adds = subst (λ (g : Geometry). Adds (layout_of g perms v.metaslab) e w it.before it.after) is.layout (subst (λ (p : Perms). Adds (layout_of x.geometry p v.metaslab) e w it.before it.after) is.children it.acts);
        world = world;
        harm_is = ap (λ (v : View). v.harm) it.sees;
      }

  -- how the harm goes on
  record Harmed (v : View) (e : Event) (w : machine.State) (after : Metaslab) (a : Harm) : Type 0 where
    pub b : Harm
    pub told : after.harm ≡ Some b
    pub by : HarmBy (layout_at geometry perms v) v.world e w a b

  harmed : (v : View) (e : Event) (w : machine.State) (before after : Metaslab) (a : Harm) → Comes v e w before after → before.harm ≡ Some a → Harmed v e w after a
  harmed v e w before after a c told =
      let z = both_told before.harm after.harm (HarmBy (layout_at geometry perms v) before.world e w) a c.adds.harm told in
      record { b = z.0; told = z.1; by = subst (λ (s : machine.State). HarmBy (layout_at geometry perms v) s e w a z.0) (sym c.world) z.2 }

  -- ---- a scrubbed metaslab

  module _ (v : View) (harm : Harm) (told : v.harm ≡ Some harm) (lay : machine.IsLayout (layout_at geometry perms v)) (reached : IsReached (layout_at geometry perms v) v.world) (is : IsScrubbed (layout_at geometry perms v) v.world harm) where
    -- a block that lands is sound
    sound_at : (pass serial : ℕ) (failed patched : _) (unreadable : Bool) (w : machine.State) → Step (layout_at geometry perms v) v.world (event.LandBlock pass serial failed patched unreadable) w
        → (n : machine.Loan) (h : Held) → v.world.loan ≡ Some n → v.world.core.held n.key ≡ Some h → IsUnhurtBlock geometry perms v n h × HasCleanArms (layout_at geometry perms v) v.world.core h
    sound_at pass serial failed patched unreadable w step n h loan held = (
      record {
        harm = harm;
        told = told;
        sure = λ s clean unsure. (let at = both_true (key_eq n.key s.key && is_on (layout_at geometry perms v) v.world.core.order s h) _ clean in
            let both = both_true (key_eq n.key s.key) (is_on (layout_at geometry perms v) v.world.core.order s h) at.0 in
            let spotless = is.blocks n.key h there in
            elim unsure [
              | inl bad ↦ absurd_test (harm s.leaf _) bad (spotless.calm s (sym (key_true n.key s.key both.0)) both.1)
              | inr aside ↦ absurd_test (v.world.aside s) aside (spotless.sure s (sym (key_true n.key s.key both.0)) both.1)
            ]);
      },
      λ c arm less listed. not_false (logged (v.world.core.arm arm) h.birth) (is.arms ((layout_at geometry perms v).slot_of h.first c) arm h.birth listed there.birth),
    )
      where
        there : IsCommitted (layout_at geometry perms v) v.world n.key h
        there =
            let sound = reached_sound (layout_at geometry perms v) lay v.world reached in
            let fits = sound.loan n loan in
            let same : fits.p ≡ step.p = some_same v.world.core.pass fits.p step.p fits.pass step.counts.pass_is in
            let own : fits.h ≡ h = some_same (v.world.core.held n.key) fits.h h fits.found held in
            let lent : is_lent step.p h ≡ true = subst (λ (p : machine.Pass). is_lent p h ≡ true) same (subst (λ (i : Held). is_lent fits.p i ≡ true) own fits.lent) in
            let low = low_birth step.p h step.heal lent in
            let max = sound.core.heal step.p step.counts.pass_is step.heal in
            record { held = held; block = subst (λ (i : Held). is_block i.stage ≡ true) own fits.block; birth = omega (arith, low, max) }

    finds_sound : (e : Event) (w : machine.State) → Step (layout_at geometry perms v) v.world e w → FindsSound geometry perms (On v (Did e w))
    finds_sound (event.LandBlock pass serial failed patched unreadable) w step = λ n h loan held. sound_at pass serial failed patched unreadable w step n h loan held
    finds_sound e w step = tt

    writes_none : (e : Event) (w : machine.State) → passes.LandsNeeded geometry perms v e → (step : Step (layout_at geometry perms v) v.world e w) → WritesNoClean (layout_at geometry perms v) v.world e w step
    writes_none (event.LandBlock pass serial failed patched false) w needed step =
        let sound = sound_at pass serial failed patched false w step step.n step.h step.counts.loan step.counts.found in
        clean_by geometry perms v w lay reached 0 step.n step.h step.counts.loan step.counts.found pass serial failed patched step needed sound.0
        (takes_clean (layout_at geometry perms v) lay v.world reached step.n step.h step.counts.loan step.counts.found sound.1)
    writes_none e w needed step = tt

  -- ---- holds, one after another

  own_scrubbed : (v : View) (act : Act) (x z : State) → IsScrubHold (On v act) → (it : HoldsMetaslab v act x z) → Stands geometry perms x → HasScrubbed v.metaslab it.before → HasScrubbed v.metaslab it.after × FindsSound geometry perms (On v act)
  own_scrubbed v Looked x z of it is old = (subst (HasScrubbed v.metaslab) (sym it.acts) old, tt)
  own_scrubbed v (Did e w) x z of it is old =
      let c = comes v e w x z it is in
      let told : v.harm ≡ Some old.harm = c.harm_is ∙ old.told in
      let here : IsScrubbed (layout_at geometry perms v) v.world old.harm = subst (λ (s : machine.State). IsScrubbed (layout_at geometry perms v) s old.harm) (sym c.world) old.is in
      let h = harmed v e w it.before it.after old.harm c old.told in (
        record {
          harm = h.b;
          told = h.told;
          is = subst (λ (s : machine.State). IsScrubbed (layout_at geometry perms v) s h.b) (sym c.adds.world)
              (scrubbed_still (layout_at geometry perms v) v.world e w old.harm h.b of.0 h.by.step (writes_none v old.harm told c.lay c.reached here e w of.1 h.by.step) h.by here);
        },
        finds_sound v old.harm told c.lay c.reached here e w h.by.step,
      )
  own_scrubbed v act x z of it is old = absurd of

  hold_scrubbed : (m : ℕ) (hold : Hold) (x z : State) → IsScrubHold hold → Holds hold x z → Stands geometry perms x → ScrubbedAt m x → ScrubbedAt m z
  hold_scrubbed m (On v act) x z of it is old y there = elim (hold_back v act x z it m y there) [
    | inl own ↦ subst (HasScrubbed m) own.2 (subst (λ k. HasScrubbed k it.after) (sym own.0)
        (own_scrubbed v act x z of it is (subst (λ k. HasScrubbed k it.before) own.0 (old it.before own.1))).0)
    | inr other ↦ old y other.1
  ]
  hold_scrubbed m hold x z of it is old y there = absurd of

  follows_scrubbed : (m : ℕ) (holds : List Hold) (x z : State) → AreOfScrub holds → Follows holds x z → Stands geometry perms x → ScrubbedAt m x → ScrubbedAt m z
  follows_scrubbed m [] x z of follows is old = subst (ScrubbedAt m) (sym follows) old
  follows_scrubbed m (hold ∷ holds) x z of follows is old =
      follows_scrubbed m holds follows.0 z of.1 follows.2 (hold_stands geometry perms hold x follows.0 follows.1 is) (hold_scrubbed m hold x follows.0 of.0 follows.1 is old)

  hold_sound : (hold : Hold) (x z : State) → IsScrubHold hold → Holds hold x z → Stands geometry perms x → ((m : ℕ) → ScrubbedAt m x) → FindsSound geometry perms hold
  hold_sound (On v act) x z of it is old = (own_scrubbed v act x z of it is (old v.metaslab it.before it.there)).1
  hold_sound hold x z of it is old = absurd of

  follows_sound : (holds : List Hold) (x z : State) → AreOfScrub holds → Follows holds x z → Stands geometry perms x → ((m : ℕ) → ScrubbedAt m x) → AllOf (FindsSound geometry perms) holds
  follows_sound [] x z of follows is old = tt
  follows_sound (hold ∷ holds) x z of follows is old = (
    hold_sound hold x follows.0 of.0 follows.1 is old,
    follows_sound holds follows.0 z of.1 follows.2 (hold_stands geometry perms hold x follows.0 follows.1 is) (λ m. hold_scrubbed m hold x follows.0 of.0 follows.1 is (old m)),
  )

  own_scrubbing : (v : View) (act : Act) (x z : State) → IsScrubHold (On v act) → (it : HoldsMetaslab v act x z) → Stands geometry perms x → HasScrubbing v.metaslab it.before → HasScrubbing v.metaslab it.after
  own_scrubbing v Looked x z of it is old = subst (HasScrubbing v.metaslab) (sym it.acts) old
  own_scrubbing v (Did e w) x z of it is old =
      let c = comes v e w x z it is in
      let h = harmed v e w it.before it.after old.harm c old.told in
      record {
        harm = h.b;
        told = h.told;
        is = subst (λ (s : machine.State). IsScrubbing (layout_at geometry perms v) s h.b) (sym c.adds.world)
            (scrub_event (layout_at geometry perms v) c.lay v.world c.reached e w old.harm h.b of.0 h.by (subst (λ (s : machine.State). IsScrubbing (layout_at geometry perms v) s old.harm) (sym c.world) old.is));
      }
  own_scrubbing v act x z of it is old = absurd of

  hold_scrubbing : (hold : Hold) (x z : State) → IsScrubHold hold → Holds hold x z → Stands geometry perms x → AllScrubbing x → AllScrubbing z
  hold_scrubbing (On v act) x z of it is old m y there = elim (hold_back v act x z it m y there) [
    | inl own ↦ subst (HasScrubbing m) own.2 (subst (λ k. HasScrubbing k it.after) (sym own.0) (own_scrubbing v act x z of it is (old v.metaslab it.before it.there)))
    | inr other ↦ old m y other.1
  ]
  hold_scrubbing hold x z of it is old m y there = absurd of

  follows_scrubbing : (holds : List Hold) (x z : State) → AreOfScrub holds → Follows holds x z → Stands geometry perms x → AllScrubbing x → AllScrubbing z
  follows_scrubbing [] x z of follows is old = subst AllScrubbing (sym follows) old
  follows_scrubbing (hold ∷ holds) x z of follows is old =
      follows_scrubbing holds follows.0 z of.1 follows.2 (hold_stands geometry perms hold x follows.0 follows.1 is) (hold_scrubbing hold x follows.0 of.0 follows.1 is old)

  -- ---- errors

  last_low : (m : ℕ) (left : Option ℕ) (t : Tally) (holds : List Hold) (o : Outcome) (new : Tally) → passes.LastOf geometry perms m left t holds o new → t.errors ≤ new.errors
  last_low m left t holds Ended new l = let is = ap (λ (t : Tally). t.errors) l.2 in omega (arith, is)
  last_low m left t holds Paused new l = let is = ap (λ (t : Tally). t.errors) l.1 in omega (arith, is)
  last_low m left t holds (Stopped WasWorn) new l = let is = ap (λ (t : Tally). t.errors) l.1 in omega (arith, is)
  last_low m left t holds (Stopped Starved) new l = let is = ap (λ (t : Tally). t.errors) l.1 in omega (arith, is)
  last_low m left t holds (Stopped Went) new l = absurd l
  last_low m left t holds (Stopped WasLast) new l = absurd l
  last_low m left t holds (Stopped Broke) new l = absurd l

  lends_low : (m n : ℕ) (left : Option ℕ) (t : Tally) (holds : List Hold) (o : Outcome) (after : Option ℕ) (new : Tally) → passes.Lends geometry perms Heal m n left t holds o after new → t.errors ≤ new.errors
  lends_low m zero left t holds o after new l = last_low m left t holds o new l.0
  lends_low m (suc n) left t holds o after new (rest, repaired, some, one, more) = lends_low m n (passes.one_less left) (passes.has_lent repaired t) rest o after new more

  visits_low : (views : List View) (left : Option ℕ) (t : Tally) (holds : List Hold) (o : Outcome) (new : Tally) → passes.VisitsAll geometry perms Heal (passes.AnyView geometry perms) views left t holds o new → t.errors ≤ new.errors
  visits_low [] left t holds o new w = let is = ap (λ (t : Tally). t.errors) w.2 in omega (arith, is)
  visits_low (v ∷ views) left t holds o new (inl w) = visits_low views left t holds o new w.1
  visits_low (v ∷ views) left t holds o new (inr (visited, inl w)) = lends_low v.metaslab w.2.units left (passes.has_begun (passes.pool_stripe geometry perms v.metaslab w.2.at) t) w.2.back o w.0 new w.2.lends
  visits_low (v ∷ views) left t holds o new (inr (visited, inr (inl w))) = let is = ap (λ (t : Tally). t.errors) w.2 in omega (arith, is)
  visits_low (v ∷ views) left t holds o new (inr (visited, inr (inr (inl w)))) =
      let first = lends_low v.metaslab w.5.units left (passes.has_begun (passes.pool_stripe geometry perms v.metaslab w.5.at) t) w.5.back Ended w.2 w.3 w.5.lends in
      let second = visits_low views w.2 w.3 w.1 o new w.6 in
      omega (arith, first, second)
  visits_low (v ∷ views) left t holds o new (inr (visited, inr (inr (inr w)))) = absurd (rebuilds_no_scrub w.3)

  -- ---- the end of a pass

  done_own : (v : View) (failed : _) (w : machine.State) (x z : State) (p : machine.Pass) → (it : HoldsMetaslab v (Did (event.Done failed) w) x z) → Stands geometry perms x → HasScrubbing v.metaslab it.before → v.world.core.pass ≡ Some p
      → (ended_pass (layout_at geometry perms v) v.world.core p failed.items).errors ≡ 0 → HasScrubbed v.metaslab it.after
  done_own v failed w x z p it is old pass none =
      let l : machine.Layout = layout_at geometry perms v in
      let c = comes v (event.Done failed) w x z it is in
      let h = harmed v (event.Done failed) w it.before it.after old.harm c old.told in
      let here : IsScrubbing l v.world old.harm = subst (λ (s : machine.State). IsScrubbing l s old.harm) (sym c.world) old.is in
      let own : p ≡ h.by.step.p = some_same v.world.core.pass p h.by.step.p pass h.by.step.pass in
      let zero : p.errors ≡ 0 = ap (λ (r : machine.Pass). r.errors) (sym (ended_heal l v.world.core p failed.items (here.heal p pass).0)) ∙ none in
      record {
        harm = h.b;
        told = h.told;
        is = subst (λ (s : machine.State). IsScrubbed l s h.b) (sym c.adds.world)
            (done_scrubbed l c.lay v.world c.reached w old.harm h.b failed h.by.step h.by (subst (λ (r : machine.Pass). r.errors ≡ 0) own zero) here);
      }

  ends_scrubbed : (m errors : ℕ) (holds : List Hold) (x z : State) → passes.EndsPass geometry perms m errors holds → errors ≡ 0 → Follows holds x z → Stands geometry perms x → AllScrubbing x → ScrubbedAt m z
  ends_scrubbed m errors holds x z e none follows is old =
      let parts = subst (λ hs. Follows hs x z) e.are follows in
      let it = parts.1 in
      let done : HasScrubbed e.v.metaslab it.after = done_own e.v e.failed e.after x parts.0 e.p it is (old e.v.metaslab it.before it.there) e.pass (sym e.errors_are ∙ none) in
      subst (ScrubbedAt m) (sym parts.2) (λ y there. elim (hold_back e.v (Did (event.Done e.failed) e.after) x parts.0 it m y there) [
        | inl own ↦ subst (HasScrubbed m) own.2 (subst (λ k. HasScrubbed k it.after) (sym own.0) done)
        | inr other ↦ absurd (other.0 (sym e.there))
      ])

  lends_scrubbed : (m n : ℕ) (left : Option ℕ) (t : Tally) (holds : List Hold) (after : Option ℕ) (new : Tally) (x z : State) → passes.Lends geometry perms Heal m n left t holds Ended after new → new.errors ≡ 0
      → Follows holds x z → Stands geometry perms x → AllScrubbing x → ScrubbedAt m z
  lends_scrubbed m zero left t holds after new x z l none follows is old =
      let sum = ap (λ (t : Tally). t.errors) l.0.2 in
      ends_scrubbed m l.0.0 holds x z l.0.1 (omega (arith, sum, none)) follows is old
  lends_scrubbed m (suc n) left t holds after new x z (rest, repaired, some, one, more) none follows is old =
      let pair : List Hold = On one.v (Did (event.Lend one.failed) one.lent) ∷ On one.u (Did one.e one.landed) ∷ [] in
      let parts = follows_split (On one.v (Did (event.Lend one.failed) one.lent) ∷ On one.u (Did one.e one.landed) ∷ []) rest x z (subst (λ hs. Follows hs x z) one.are follows) in
      let of : AreOfScrub (On one.v (Did (event.Lend one.failed) one.lent) ∷ On one.u (Did one.e one.landed) ∷ []) = ((tt, tt), (landing one.u one.e repaired one.lands one.needed, tt)) in
      lends_scrubbed m n (passes.one_less left) (passes.has_lent repaired t) rest after new parts.0 z more none parts.2
      (follows_stands geometry perms (On one.v (Did (event.Lend one.failed) one.lent) ∷ On one.u (Did one.e one.landed) ∷ []) x parts.0 parts.1 is)
      (follows_scrubbing (On one.v (Did (event.Lend one.failed) one.lent) ∷ On one.u (Did one.e one.landed) ∷ []) x parts.0 of parts.1 is old)

  visit_scrubbed : (m : ℕ) (left : Option ℕ) (t : Tally) (holds : List Hold) (after : Option ℕ) (new : Tally) (x z : State) → passes.Visits geometry perms Heal m left t holds Ended after new → new.errors ≡ 0
      → Follows holds x z → Stands geometry perms x → AllScrubbing x → ScrubbedAt m z
  visit_scrubbed m left t holds after new x z v none follows is old =
      let parts = follows_split v.front v.back x z (subst (λ hs. Follows hs x z) v.are follows) in
      lends_scrubbed m v.units left (passes.has_begun (passes.pool_stripe geometry perms m v.at) t) v.back after new parts.0 z v.lends none parts.2
      (follows_stands geometry perms v.front x parts.0 parts.1 is) (follows_scrubbing v.front x parts.0 (begins m v.at v.front Went v.begins) parts.1 is old)

  -- ---- all metaslabs

  abbrev IsIn : ℕ → List View → Type 0
  IsIn m [] = ⊥
  IsIn m (v ∷ views) = (v.metaslab ≡ m) ⊎ IsIn m views

  is_seen : (k n : ℕ) (holds : List Hold) (views : List View) (m : ℕ) → LooksFrom k n holds views → k ≤ m → m < k + n → IsIn m views
  is_seen k zero holds views m looked from to = absurd (omega (arith, from, to))
  is_seen k (suc n) holds views m looked from to = subst (IsIn m) (sym looked.5) (by (λ low. is_seen (k + 1) n looked.1 looked.3 m looked.7 low (omega (arith, to))) (k == m) refl)
    where
      by : (k + 1 ≤ m → IsIn m looked.3) → (b : Bool) → (k == m) ≡ b → IsIn m (looked.2 ∷ looked.3)
      by again true is = inl (looked.6.there ∙ (let same : k ≡ m = grind (arith, nat_tests, is) in same))
      by again false is = inr (again (let other = is in grind (arith, nat_tests, other, from)))

  visits_scrubbed : (views : List View) (left : Option ℕ) (t : Tally) (holds : List Hold) (new : Tally) (x z : State) → passes.VisitsAll geometry perms Heal (passes.AnyView geometry perms) views left t holds Ended new → new.errors ≡ 0
      → Follows holds x z → Stands geometry perms x → AllScrubbing x → (m : ℕ) → IsIn m views ⊎ ScrubbedAt m x → ScrubbedAt m z
  visits_scrubbed [] left t holds new x z w none follows is old m (inl seen) = absurd seen
  visits_scrubbed [] left t holds new x z w none follows is old m (inr done) = subst (ScrubbedAt m) (sym (subst (λ hs. Follows hs x z) w.0 follows)) done
  visits_scrubbed (v ∷ views) left t holds new x z (inl w) none follows is old m how = absurd (w.0 tt)
  visits_scrubbed (v ∷ views) left t holds new x z (inr (visited, inl w)) none follows is old m how = absurd (w.1 refl)
  visits_scrubbed (v ∷ views) left t holds new x z (inr (visited, inr (inl w))) none follows is old m how = absurd (let stopped = w.1 in cc (stopped))
  visits_scrubbed (v ∷ views) left t holds new x z (inr (visited, inr (inr (inl w)))) none follows is old m how =
      let parts = follows_split w.0 w.1 x z (subst (λ hs. Follows hs x z) w.4 follows) in
      let low = visits_low views w.2 w.3 w.1 Ended new w.6 in
      let of = visit v.metaslab left t w.0 Ended w.2 w.3 w.5 in
      let one : ScrubbedAt v.metaslab parts.0 = visit_scrubbed v.metaslab left t w.0 w.2 w.3 x parts.0 w.5 (omega (arith, low, none)) parts.1 is old in
      visits_scrubbed views w.2 w.3 w.1 new parts.0 z w.6 none parts.2 (follows_stands geometry perms w.0 x parts.0 parts.1 is) (follows_scrubbing w.0 x parts.0 of parts.1 is old) m (elim how [
        | inl (inl own) ↦ inr (subst (λ k. ScrubbedAt k parts.0) own one)
        | inl (inr later) ↦ inl later
        | inr done ↦ inr (follows_scrubbed m w.0 x parts.0 of parts.1 is done)
      ])
  visits_scrubbed (v ∷ views) left t holds new x z (inr (visited, inr (inr (inr w)))) none follows is old m how = absurd (rebuilds_no_scrub w.3)

  -- ---- the first scrub

  -- the metaslabs of a list of views are all visited
  none_begun : (views visited : List View) → AllOf (λ (v : View). v.world.core.pass ≡ None) views → passes.FromFirst geometry perms views visited → visited ≡ views
  none_begun views visited idle (inl all) = all.1
  none_begun views visited idle (inr (front, v, behind, are, none, (p, there, heal), is)) =
      absurd (none_some v.world.core.pass p (behind_of front (subst (AllOf (λ (v : View). v.world.core.pass ≡ None)) are idle)) there)
    where
      behind_of : (front : List View) → AllOf (λ (v : View). v.world.core.pass ≡ None) (front ++ v ∷ behind) → v.world.core.pass ≡ None
      behind_of [] all = all.0
      behind_of (u ∷ front) all = behind_of front all.1

  inside_still : (holds : List Hold) (x z : State) → AreOfScrub holds → Follows holds x z → ((m : ℕ) (y : Metaslab) → slice_get x.metaslabs m ≡ Some y → m < geometry.props.metaslabs)
      → (m : ℕ) (y : Metaslab) → slice_get z.metaslabs m ≡ Some y → m < geometry.props.metaslabs
  inside_still [] x z of follows inside m y there = inside m y (subst (λ (s : State). slice_get s.metaslabs m ≡ Some y) follows there)
  inside_still (On v act ∷ holds) x z of follows inside m y there = inside_still holds follows.0 z of.1 follows.2 (λ k u at. elim (hold_back v act x follows.0 follows.1 k u at) [
    | inl own ↦ inside k follows.1.before own.1
    | inr other ↦ inside k u other.1
  ]) m y there
  inside_still (hold ∷ holds) x z of follows inside m y there = absurd of.0

  scrubs_all : (limit : Option ℕ) (holds : List Hold) (t : Tally) (x z : State) → x.geometry ≡ geometry → x.perms ≡ perms → MayBeScrubbed x → passes.Scrubs geometry perms limit holds Ended t → t.errors ≡ 0 → Follows holds x z
      → (m : ℕ) → ScrubbedAt m z
  scrubs_all limit holds t x z layout children may s none follows m y there =
      visits_scrubbed s.visited limit passes.nothing_yet s.rest t parts.0 z s.visits none parts.2 (follows_stands geometry perms s.finds.looks x parts.0 parts.1 stands)
      (follows_scrubbing s.finds.looks x parts.0 (looks s.finds.looks s.views s.finds.looked) parts.1 stands first) m (inl (subst (IsIn m) (sym (none_begun s.views s.visited idle s.from)) seen)) y there
    where
      parts : (mid : State) × Follows s.finds.looks x mid × Follows s.rest mid z
      parts = follows_split s.finds.looks s.rest x z (subst (λ hs. Follows hs x z) s.finds.are follows)

      stands : Stands geometry perms x
      stands = record { layout = layout; children = children; reached = may.reached }

      first : AllScrubbing x
      first m y there =
          let harm = some_harm y.harm (may.told m y there) in
          let none : y.world.core.pass ≡ None = may.idle m y there in
          record {
            harm = harm.0;
            told = harm.1;
            is = record {
              well = subst (λ (g : Geometry). ArmsLieWell (layout_of g perms m) y.world.core) layout
                  (subst (λ (p : Perms). ArmsLieWell (layout_of x.geometry p m) y.world.core) children (may.well m y there));
              heal = λ p is. absurd (none_some y.world.core.pass p none is);
              upto = λ p is. absurd (none_some y.world.core.pass p none is);
            };
          }

      idle : AllOf (λ (v : View). v.world.core.pass ≡ None) s.views
      idle = looks_all (λ (v : View). v.world.core.pass ≡ None) 0 geometry.props.metaslabs s.finds.looks s.views x parts.0 s.finds.looked parts.1 (λ k y there. may.idle k y there)

      seen : IsIn m s.views
      seen = is_seen 0 geometry.props.metaslabs s.finds.looks s.views m s.finds.looked (omega arith)
          (let low : m < geometry.props.metaslabs = inside_still holds x z (scrub_holds limit holds Ended t s) follows (λ k y there. subst (λ (g : Geometry). k < g.props.metaslabs) layout (may.inside k y there)) m y there in omega (arith, low))

  -- ---- both

  pub twice_sound : (first limit : Option ℕ) (holds more : List Hold) (t : Tally) (o : Outcome) (u : Tally) (x mid z : State) → x.geometry ≡ geometry → x.perms ≡ perms → MayBeScrubbed x
      → passes.Scrubs geometry perms first holds Ended t → t.errors ≡ 0 → Follows holds x mid → (later : State) → later.metaslabs ≡ mid.metaslabs → Stands geometry perms later
      → passes.Scrubs geometry perms limit more o u → Follows more later z → AllOf (FindsSound geometry perms) more
  twice_sound first limit holds more t o u x mid z layout children may one none follows later same stands two then =
      follows_sound more later z (scrub_holds limit more o u two) then stands
      (λ m y there. scrubs_all first holds t x mid layout children may one none follows m y (subst (λ (ys : List Metaslab). slice_get ys m ≡ Some y) same there))
