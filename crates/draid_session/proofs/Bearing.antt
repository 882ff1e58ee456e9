-- Disks that go offline cost a pool their slots alone, and a block that has enough columns left is read.
use Rattle.std.proofs.Common.{◌≡◌, ◌∙◌, ◌+◌, ◌<◌, ◌≤◌, ◌⊎◌, ◌++◌, ◌&&◌, ℕ, zero, suc, Bool, true, false, List, [], ◌∷◌, Option, Some, None, length, inl, inr, arith, refl, sym, ap, subst}
use Rattle.std.specs.Prelude.{⊤, Contains, slice_get}
use Rattle.draid_spec.specs.declared.layout.Geometry.{Geometry}
use Rattle.draid_map.specs.Place.{IsLayout}
use Rattle.draid_machine.specs.After.{set_arm}
use Rattle.draid_machine.specs.Arms.{HasEmptyLog, first_leaf, is_here, leaf_answers, logged, online, passes}
use Rattle.draid_machine.specs.Names.{has_name, name_eq}
use Rattle.draid_machine.specs.State as machine
use Rattle.draid_machine.specs.Step.{Step}
use Rattle.draid_machine.specs.declared.event.Event.{Event}
use Rattle.draid_machine.specs.declared.event.Event.TheVariants as event
use Rattle.draid_machine.specs.declared.names.ArmName.{ArmName}
use Rattle.draid_machine.specs.declared.names.ArmName.TheVariants.{Leaf, Spare}
use Rattle.draid_machine.specs.declared.names.Held.{Held}
use Rattle.draid_machine.proofs.Losing.{first_listed}
use Rattle.draid_machine.proofs.Small.{absurd_test, arm_other, name_true, none_some}
use Rattle.draid_layouts.specs.Layout.{layout_of}
use Rattle.draid_objects.specs.Changes.{Write, key_of}
use Rattle.draid_reply.specs.declared.reply.Reply.TheVariants.{OfflineDone}
use Rattle.draid_script.specs.Line.{TakeOffline}
use Rattle.draid_segments.specs.Reads.{IsBad, MoreBad}
use Rattle.draid_session.specs.Arms as arms
use Rattle.draid_session.specs.Bearing.{AreUnhurt, AreWholeBut, FailsNoFetch, GoOffline, HasOneOf, IsSlotWhole, IsUnhurt, IsUp, IsWholeBut}
use Rattle.draid_session.specs.Certain.{StaysReadable}
use Rattle.draid_session.specs.Choices.{Choices}
use Rattle.draid_session.specs.Follows.{Follows, Holds, MetaslabActs}
use Rattle.draid_session.specs.Groups as groups
use Rattle.draid_session.specs.Holds.{Act, Did, Hold, Looked, LookedUber, On, OnUber, Reserved, UberView, View}
use Rattle.draid_session.specs.Looks.{AllOf}
use Rattle.draid_session.specs.Phases.{End, Starved, WasWorn, Went}
use Rattle.draid_session.specs.Session.{CarriesOut}
use Rattle.draid_session.specs.State.{Metaslab, State}
use Rattle.draid_session.proofs.Beside.{uber_rest}
use Rattle.draid_session.proofs.Calm.{hold_back}
use Rattle.draid_session.proofs.Fewer.{all_has, fewer, increasing_once}
use Rattle.draid_session.proofs.Lists.{all_at}
use Rattle.draid_session.proofs.Looked.{follows_split, looks_all}
use Rattle.draid_session.proofs.Phased.{IsPhase, all_both, chain_all, each_all, looks_from_all, walk_all}
use Rattle.draid_session.proofs.Present.{hold_reached}
use Rattle.draid_session.proofs.Reaching.{same_reached}
use Rattle.draid_session.proofs.Whole.{Costs, CostsLeaf, bad_costs, one_column, one_leaf}

-- ---- a read

module _ (slots leaves : List ℕ) (x : State) (is : IsWholeBut slots leaves x) (few : length slots + length leaves ≤ x.geometry.spec.parity) (unhurt : AreUnhurt x) where
  enough : (m : ℕ) (y : Metaslab) (there : slice_get x.metaslabs m ≡ Some y) (u : IsUnhurt y) (w : Write) (h : Held) → MoreBad (layout_of x.geometry x.perms m) y.world u.harm (key_of w) h [] → ⊥
  enough m y there u w h more =
      let reached = is.reached.each m y there in
      let most : length more.columns ≤ length slots + length leaves =
      fewer (Costs x.geometry x.perms m is.layout y.world reached h.first) (CostsLeaf x.geometry x.perms m is.layout y.world reached h.first)
      (one_column x.geometry x.perms m is.layout y.world reached h.first) (one_leaf x.geometry x.perms m is.layout y.world reached h.first)
      more.columns slots leaves (increasing_once more.columns more.ascending)
      (λ c at. bad_costs x.geometry x.perms m is.layout y.world reached slots leaves (is.whole m y there) u.harm u.calm u.sure (key_of w) h c
      (all_has (IsBad (layout_of x.geometry x.perms m) y.world u.harm (key_of w) h []) more.columns c more.each at)) in
      let over : x.geometry.spec.parity < length more.columns = more.more in
      let low = few in
      omega (arith, most, over, low)

  pub stays_readable : (new : State) (w : Write) → FailsNoFetch x new w → StaysReadable x new w
  stays_readable new w calm y z failed there after stored =
      let u = unhurt w.metaslab y there in
      record {
        harm = u.harm;
        told = u.told;
        few = λ h held more. enough w.metaslab y there u w h (subst (MoreBad (layout_of x.geometry x.perms w.metaslab) y.world u.harm (key_of w) h) (calm y z failed there after stored) more);
      }

-- ---- a disk goes offline

module _ (q : machine.Core) (leaf : ℕ) (a : machine.Arm) where
  -- the arms as the disk is offline
  abbrev switched : machine.Core
  switched = record q { arm = set_arm q.arm (Leaf leaf) (Some (record a { offline = true })) }

  other_leaf : (m : ℕ) → name_eq (Leaf leaf) (Leaf m) ≡ false → leaf_answers switched m ≡ leaf_answers q m
  other_leaf m other = ap (λ (o : Option machine.Arm). is_here o && online o) (arm_other q.arm (Leaf leaf) (Leaf m) (Some (record a { offline = true })) other)

  module _ (slot : ℕ) (not_there : has_name (q.order slot) (Leaf leaf) ≡ false) where
    -- an arm of a slot that hasn't the disk is another one
    other_arm : (n : ArmName) → has_name (q.order slot) n ≡ true → (b : Bool) → name_eq (Leaf leaf) n ≡ b → name_eq (Leaf leaf) n ≡ false
    other_arm n listed false is = is
    other_arm n listed true is = absurd (absurd_test (has_name (q.order slot) (Leaf leaf)) (subst (λ k. has_name (q.order slot) k ≡ true) (sym (name_true (Leaf leaf) n is)) listed) not_there)

    up_still : (n : ArmName) → has_name (q.order slot) n ≡ true → IsUp q n → IsUp switched n
    up_still (Leaf m) listed up = other_leaf m (other_arm (Leaf m) listed (name_eq (Leaf leaf) (Leaf m)) refl) ∙ up
    up_still (Spare t) listed up = tt

    empty_still : (n : ArmName) → has_name (q.order slot) n ≡ true → HasEmptyLog q n → HasEmptyLog switched n
    empty_still n listed empty g =
        ap (λ o. logged o g) (arm_other q.arm (Leaf leaf) n (Some (record a { offline = true })) (other_arm n listed (name_eq (Leaf leaf) n) refl)) ∙ empty g

    first_still : (o : Option ℕ) → first_leaf (q.order slot) ≡ o → passes o (leaf_answers q) ≡ true → passes o (leaf_answers switched) ≡ true
    first_still None is up = up
    first_still (Some m) is up = other_leaf m (other_arm (Leaf m) (first_listed (q.order slot) m is) (name_eq (Leaf leaf) (Leaf m)) refl) ∙ up

    whole_still : IsSlotWhole q slot → IsSlotWhole switched slot
    whole_still is = record {
      n = is.n;
      listed = is.listed;
      up = up_still is.n is.listed is.up;
      empty = empty_still is.n is.listed is.empty;
      first = λ none. first_still (first_leaf (q.order slot)) refl (is.first none);
    }

  switched_whole : (children : ℕ) (slots leaves : List ℕ) → Contains leaves leaf → AreWholeBut children slots leaves q → AreWholeBut children slots leaves switched
  switched_whole children slots leaves in_list whole slot inside = elim (whole slot inside) [
    | inl at ↦ inl at
    | inr (inr one) ↦ inr (inr one)
    | inr (inl stands) ↦ by (has_name (q.order slot) (Leaf leaf)) refl stands
  ]
    where
      by : (b : Bool) → has_name (q.order slot) (Leaf leaf) ≡ b → IsSlotWhole q slot → Contains slots slot ⊎ (IsSlotWhole switched slot ⊎ HasOneOf leaves switched slot)
      by true at stands = inr (inr (leaf, in_list, at))
      by false at stands = inr (inl (whole_still slot at stands))

-- ---- the holds of such a command

abbrev pub IsOfOffline : ℕ → Hold → Type 0
IsOfOffline leaf (On v Looked) = ⊤
IsOfOffline leaf (On v (Reserved events)) = ⊤
IsOfOffline leaf (On v (Did (event.Offline m) w)) = m ≡ leaf
IsOfOffline leaf (OnUber u LookedUber) = ⊤
IsOfOffline leaf hold = ⊥

module _ (leaf : ℕ) (slots leaves : List ℕ) (in_list : Contains leaves leaf) where
  -- of a metaslab
  record Stands (children : ℕ) (w : machine.State) : Type 0 where
    pub idle : w.closing ≡ None
    pub whole : AreWholeBut children slots leaves w.core

  event_stands : (l : machine.Layout) (children : ℕ) (v : View) (e : Event) (w new : machine.State) → IsOfOffline leaf (On v (Did e new)) → Step l w e new → Stands children w → Stands children new
  event_stands l children v (event.Offline m) w new of step s =
      subst (Stands children) (sym step.made) (record {
        idle = s.idle;
        whole = subst (λ k. AreWholeBut children slots leaves (record w.core { arm = set_arm w.core.arm (Leaf k) (Some (record step.a { offline = true })) })) (sym of) (switched_whole w.core leaf step.a children slots leaves in_list s.whole);
      })
  event_stands l children v e w new of step s = absurd of

  acts_stand : (l : machine.Layout) (children : ℕ) (v : View) (act : Act) (x y : Metaslab) → IsOfOffline leaf (On v act) → MetaslabActs l act x y → Stands children x.world → Stands children y.world
  acts_stand l children v Looked x y of it s = subst (Stands children) (sym (ap (λ (k : Metaslab). k.world) it)) s
  acts_stand l children v (Did e w) x y of it s = subst (Stands children) (sym it.world) (event_stands l children v e x.world w of it.legal s)
  acts_stand l children v (Reserved events) x y of it s = subst (Stands children) (sym (ap (λ (k : Metaslab). k.world) it)) s
  acts_stand l children v act x y of it s = absurd of

  hold_stands : (hold : Hold) (x z : State) → IsOfOffline leaf hold → Holds hold x z → IsWholeBut slots leaves x → IsWholeBut slots leaves z
  hold_stands (On v act) x z of it is =
      let geometry : z.geometry ≡ x.geometry = ap (λ (s : State). s.geometry) it.made in
      let perms : z.perms ≡ x.perms = ap (λ (s : State). s.perms) it.made in
      let each : (m : ℕ) (y : Metaslab) → slice_get z.metaslabs m ≡ Some y → Stands x.geometry.spec.children y.world
      = λ m y there. elim (hold_back v act x z it m y there) [
        | inl own ↦ subst (λ (k : Metaslab). Stands x.geometry.spec.children k.world) own.2
            (acts_stand (layout_of x.geometry x.perms v.metaslab) x.geometry.spec.children v act it.before it.after of it.acts
            (record { idle = is.idle v.metaslab it.before it.there; whole = is.whole v.metaslab it.before it.there }))
        | inr other ↦ record { idle = is.idle m y other.1; whole = is.whole m y other.1 }
      ] in
      record {
        layout = subst (λ (g : Geometry). IsLayout g z.perms) (sym geometry) (subst (IsLayout x.geometry) (sym perms) is.layout);
        reached = hold_reached (On v act) x z it is.reached;
        idle = λ m y there. (each m y there).idle;
        whole = λ m y there. subst (λ (g : Geometry). AreWholeBut g.spec.children slots leaves y.world.core) (sym geometry) (each m y there).whole;
      }
  hold_stands (OnUber u act) x z of it is =
      let same = uber_rest act x z it.acts in
      record {
        layout = subst (λ (g : Geometry). IsLayout g z.perms) (sym same.1) (subst (IsLayout x.geometry) (sym same.2) is.layout);
        reached = hold_reached (OnUber u act) x z it is.reached;
        idle = λ m y there. is.idle m y (subst (λ (ys : List Metaslab). slice_get ys m ≡ Some y) same.0 there);
        whole = λ m y there. subst (λ (g : Geometry). AreWholeBut g.spec.children slots leaves y.world.core) (sym same.1) (is.whole m y (subst (λ (ys : List Metaslab). slice_get ys m ≡ Some y) same.0 there));
      }

  follows_stand : (holds : List Hold) (x z : State) → AllOf (IsOfOffline leaf) holds → Follows holds x z → IsWholeBut slots leaves x → IsWholeBut slots leaves z
  follows_stand [] x z all follows is = subst (IsWholeBut slots leaves) (sym follows) is
  follows_stand (hold ∷ holds) x z all follows is = follows_stand holds follows.0 z all.1 follows.2 (hold_stands hold x follows.0 all.0 follows.1 is)

-- ---- nothing is to be finished

pub finish_looks : (Q : Hold → Type 0) → ((v : View) → Q (On v Looked)) → (x : State) → ((m : ℕ) (y : Metaslab) → slice_get x.metaslabs m ≡ Some y → y.world.closing ≡ None)
    → (holds : List Hold) (z : State) → groups.Finishes x.geometry x.perms holds Went → Follows holds x z → AllOf Q holds
finish_looks Q look x idle holds z f follows =
    subst (AllOf Q) (sym f.are) (all_both Q f.looks f.rest (looks_from_all Q look 0 x.geometry.props.metaslabs f.looks f.views f.looked) rest)
  where
    split : (y : State) × Follows f.looks x y × Follows f.rest y z
    split = follows_split f.looks f.rest x z (subst (λ hs. Follows hs x z) f.are follows)

    all_idle : AllOf (λ (v : View). v.world.closing ≡ None) f.views
    all_idle = looks_all (λ v. v.world.closing ≡ None) 0 x.geometry.props.metaslabs f.looks f.views x split.0 f.looked split.1 idle

    rest : AllOf Q f.rest
    rest = elim f.does [
      | inl none ↦ subst (AllOf Q) (sym none.1) tt
      | inr some ↦ absurd (none_some some.1.world.closing some.0 (all_at (λ (v : View). v.world.closing ≡ None) f.views some.3.0 some.1 all_idle some.3.1 some.3.2) some.4)
    ]

-- ---- the command

module _ (leaf : ℕ) (x : State) (idle : (m : ℕ) (y : Metaslab) → slice_get x.metaslabs m ≡ Some y → y.world.closing ≡ None) where
  abbrev pub IsOf : Hold → Type 0
  IsOf = IsOfOffline leaf

  look_of : (v : View) → IsOf (On v Looked)
  look_of v = tt

  reserves_of : (m : ℕ) (hold : Hold) (n : ℕ) → arms.Reserves x.geometry x.perms (arms.one_event x.geometry x.perms) m hold n → IsOf hold
  reserves_of m (On v (Reserved events)) n r = tt
  reserves_of m hold n r = absurd r

  stops_of : (m : ℕ) (hold : Hold) (end : End) → arms.ReserveStops x.geometry x.perms (arms.one_event x.geometry x.perms) m hold end → IsOf hold
  stops_of m (On v Looked) WasWorn s = tt
  stops_of m (On v Looked) Starved s = tt
  stops_of m hold end s = absurd s

  happens_of : (m : ℕ) (hold : Hold) → arms.Happens x.geometry x.perms (event.Offline leaf) m hold → IsOf hold
  happens_of m (On v (Did d w)) h = subst (λ (e : Event). IsOf (On v (Did e w))) (sym h.1) refl
  happens_of m hold h = absurd h

  switches_of : (views : List View) (u : UberView) → IsPhase IsOf (arms.Switches x.geometry x.perms (event.Offline leaf) views u)
  switches_of views u =
      chain_all IsOf (arms.ReservePhase x.geometry x.perms (arms.one_event x.geometry x.perms)) (arms.EventPhase x.geometry x.perms (event.Offline leaf))
      (λ holds end p. walk_all IsOf (arms.Reserves x.geometry x.perms (arms.one_event x.geometry x.perms)) (arms.ReserveStops x.geometry x.perms (arms.one_event x.geometry x.perms)) reserves_of stops_of 0 x.geometry.props.metaslabs holds end 0 p)
      (λ holds end p. each_all IsOf (arms.Happens x.geometry x.perms (event.Offline leaf)) happens_of 0 x.geometry.props.metaslabs holds p.0)

  finish_of : (holds : List Hold) (z : State) → groups.Finishes x.geometry x.perms holds Went → Follows holds x z → AllOf IsOf holds
  finish_of = finish_looks IsOf look_of x idle

  pub offline_of : (holds : List Hold) (z : State) → arms.TakesOffline x.geometry x.perms leaf holds Went → Follows holds x z → AllOf IsOf holds
  offline_of holds z (inr f) follows = absurd (f.0 refl)
  offline_of holds z (inl g) follows =
      let b = g.begins in
      let split = follows_split b.finish (b.looks ++ OnUber g.u LookedUber ∷ g.rest) x z (subst (λ hs. Follows hs x z) b.are follows) in
      subst (AllOf IsOf) (sym b.are) (all_both IsOf b.finish (b.looks ++ OnUber g.u LookedUber ∷ g.rest) (finish_of b.finish split.0 b.finishes split.1)
      (all_both IsOf b.looks (OnUber g.u LookedUber ∷ g.rest) (looks_from_all IsOf look_of 0 x.geometry.props.metaslabs b.looks g.views b.looked) (tt, switches_of g.views g.u g.rest Went g.does)))

-- ---- several disks

-- one disk more may be among them
more_leaves : (slots leaves : List ℕ) (leaf : ℕ) (x : State) → IsWholeBut slots leaves x → IsWholeBut slots (leaf ∷ leaves) x
more_leaves slots leaves leaf x is = record {
  layout = is.layout;
  reached = is.reached;
  idle = is.idle;
  whole = λ m y there slot inside. elim (is.whole m y there slot inside) [
    | inl at ↦ inl at
    | inr (inl stands) ↦ inr (inl stands)
    | inr (inr (k, at, listed)) ↦ inr (inr (k, (suc at.0, (let low = at.1 in omega (arith, low)), at.2), listed))
  ];
}

-- the same metaslabs
pub same_whole : (slots leaves : List ℕ) (x z : State) → z.geometry ≡ x.geometry → z.perms ≡ x.perms → z.metaslabs ≡ x.metaslabs → IsWholeBut slots leaves x → IsWholeBut slots leaves z
same_whole slots leaves x z geometry perms metaslabs is = record {
  layout = subst (λ (g : Geometry). IsLayout g z.perms) (sym geometry) (subst (IsLayout x.geometry) (sym perms) is.layout);
  reached = same_reached x z geometry perms metaslabs is.reached;
  idle = λ m y there. is.idle m y (subst (λ (ys : List Metaslab). slice_get ys m ≡ Some y) metaslabs there);
  whole = λ m y there. subst (λ (g : Geometry). AreWholeBut g.spec.children slots leaves y.world.core) (sym geometry) (is.whole m y (subst (λ (ys : List Metaslab). slice_get ys m ≡ Some y) metaslabs there));
}

follows_geometry : (holds : List Hold) (x z : State) → Follows holds x z → z.geometry ≡ x.geometry
follows_geometry [] x z follows = ap (λ (s : State). s.geometry) follows
follows_geometry (On v act ∷ holds) x z follows = follows_geometry holds follows.0 z follows.2 ∙ ap (λ (s : State). s.geometry) follows.1.made
follows_geometry (OnUber u act ∷ holds) x z follows = follows_geometry holds follows.0 z follows.2 ∙ (uber_rest act x follows.0 follows.1.acts).1

module _ (choices : Choices) where
  pub one_goes : (slots leaves : List ℕ) (leaf : ℕ) (x z : State) → CarriesOut choices (TakeOffline leaf) (OfflineDone leaf) x z → IsWholeBut slots leaves x → IsWholeBut slots (leaf ∷ leaves) z
  one_goes slots leaves leaf x z it is =
      let all = offline_of leaf x is.idle it.holds it.mid it.does.2 it.follows in
      let mid = follows_stand leaf slots (leaf ∷ leaves) (zero, omega arith, refl) it.holds x it.mid all it.follows (more_leaves slots leaves leaf x is) in
      same_whole slots (leaf ∷ leaves) it.mid z (ap (λ (s : State). s.geometry) it.made) (ap (λ (s : State). s.perms) it.made) (ap (λ (s : State). s.metaslabs) it.made) mid

  -- behind all of them
  pub record Gone (slots : List ℕ) (many : ℕ) (x z : State) : Type 0 where
    pub leaves : List ℕ
    pub are : length leaves ≡ many
    pub whole : IsWholeBut slots leaves z
    pub parity : z.geometry.spec.parity ≡ x.geometry.spec.parity

  pub all_go : (slots leaves more : List ℕ) (x z : State) → GoOffline choices more x z → IsWholeBut slots leaves x → Gone slots (length leaves + length more) x z
  all_go slots leaves [] x z go is = record { leaves = leaves; are = omega arith; whole = subst (IsWholeBut slots leaves) (sym go) is; parity = ap (λ (s : State). s.geometry.spec.parity) go }
  all_go slots leaves (leaf ∷ more) x z (mid, first, go) is =
      let rest = all_go slots (leaf ∷ leaves) more mid z go (one_goes slots leaves leaf x mid first is) in
      let many = rest.are in
      record { leaves = rest.leaves; are = omega (arith, many); whole = rest.whole; parity = rest.parity ∙ ap (λ (g : Geometry). g.spec.parity) (geometry_stays first) }
    where
      geometry_stays : CarriesOut choices (TakeOffline leaf) (OfflineDone leaf) x mid → mid.geometry ≡ x.geometry
      geometry_stays it = ap (λ (s : State). s.geometry) it.made ∙ follows_geometry it.holds x it.mid it.follows
