-- A pool whose slots are whole outlives a failure that is rebuilt onto a spare: its slots are whole behind that.
use Rattle.std.proofs.Common.{◌≡◌, ◌∙◌, ◌+◌, ◌<◌, ◌≤◌, ◌⊎◌, ◌++◌, ◌==◌, ◌&&◌, ◌||◌, ℕ, zero, suc, Bool, true, false, nat_lt, List, [], ◌∷◌, Option, Some, None, inl, inr, arith, refl, sym, ap, subst, if◌then◌else◌}
use Rattle.std.specs.Prelude.{⊤, slice_get}
use Rattle.std.proofs.lemmas.Bool.{true≢false, cases_eq}
use Rattle.draid_names.specs.declared.pass_kind.PassKind.TheVariants.{Rebuild}
use Rattle.draid_spec.specs.declared.layout.Geometry.{Geometry}
use Rattle.draid_perm.specs.declared.perms.Perms.{Perms}
use Rattle.draid_map.specs.Place.{IsLayout}
use Rattle.draid_machine.specs.declared.event.Event.{Event}
use Rattle.draid_machine.specs.declared.event.Event.TheVariants as event
use Rattle.draid_machine.specs.declared.names.ArmName.{ArmName}
use Rattle.draid_machine.specs.declared.names.ArmName.TheVariants.{Leaf, Spare}
use Rattle.draid_machine.specs.After.{attach_state, attached_core, excise_if, fill_if, is_gone_arm, is_gone_by, log_if, map_arm, mend_state, pass_over, rearranged_state, renew_if, replan, unsourced}
use Rattle.draid_machine.specs.Arms.{HasEmptyLog, arms_below, first_leaf, first_spare, has_moved, is_fresh, is_here, is_silent, is_target, leaf_answers, lies_on, logged, online, passes, targets_of}
use Rattle.draid_machine.specs.Created.{IsReached}
use Rattle.draid_machine.specs.Images.{AreListed}
use Rattle.draid_machine.specs.Names.{has_name, name_eq}
use Rattle.draid_machine.specs.State as machine
use Rattle.draid_machine.specs.Step.{AttachStep, Step}
use Rattle.draid_machine.proofs.Losing.{every_segment}
use Rattle.draid_machine.proofs.Small.{absurd_test, arm_at, arm_other, both_true, equal, has_append, has_filter, is_equal, name_refl, name_true, none_some, some_injective, true_left, true_right}
use Rattle.draid_layouts.specs.Layout.{layout_of}
use Rattle.draid_script.specs.Line.{RebuildPool}
use Rattle.draid_reply.specs.declared.reply.Reply.TheVariants.{Rebuilt}
use Rattle.draid_session.specs.Arms as arms
use Rattle.draid_session.specs.Bearing.{FailsNoFlush, IsPoolWhole, IsSlotWhole, IsUp, IsWanted}
use Rattle.draid_session.specs.Choices.{Choices}
use Rattle.draid_session.specs.Follows.{Follows, Holds, MetaslabActs}
use Rattle.draid_session.specs.Groups as groups
use Rattle.draid_session.specs.Holds.{Act, AreaFailed, Did, Hold, Looked, LookedUber, MadeLeaf, On, OnUber, RackFailed, CallStarved, Reserved, View}
use Rattle.draid_session.specs.Looks.{AllOf}
use Rattle.draid_session.specs.Passes as passes
use Rattle.draid_session.specs.Passes.{Ended, Tally}
use Rattle.draid_session.specs.Phases.{Chain, Each, End, Starved, WasWorn, Went}
use Rattle.draid_session.specs.Present.{AreReached}
use Rattle.draid_session.specs.Session.{CarriesOut}
use Rattle.draid_session.specs.State.{Metaslab, State}
use Rattle.draid_session.proofs.Bearing.{finish_looks}
use Rattle.draid_session.proofs.Beside.{uber_rest}
use Rattle.draid_session.proofs.Calm.{hold_back}
use Rattle.draid_session.proofs.Grouped.{OfSync, sync_all}
use Rattle.draid_session.proofs.Looked.{follows_split}
use Rattle.draid_session.proofs.Phased.{all_both, chain_all, looks_from_all, walk_all}
use Rattle.draid_session.proofs.Present.{follows_reached, hold_reached}
use Rattle.draid_session.proofs.Reaching.{same_reached}
use Rattle.draid_session.proofs.Rebuilt.{AtState, IsMadeGood, commit_still, follows_keep, log_still}
use Rattle.draid_session.proofs.Visited.{layout_stays, rebuild_good}
use Rattle.draid_session.proofs.Whole.{lies_well}

-- ---- what a slot has

-- its first disk answers, unless it has a spare
abbrev pub FirstUp : machine.Core → ℕ → Type 0
FirstUp q slot = first_spare (q.order slot) ≡ None → passes (first_leaf (q.order slot)) (leaf_answers q) ≡ true

-- an arm that is up and has missed nothing
pub record HasGood (q : machine.Core) (slot : ℕ) : Type 0 where
  pub n : ArmName
  pub listed : has_name (q.order slot) n ≡ true
  pub up : IsUp q n
  pub empty : HasEmptyLog q n

-- a spare that came new or came to lie elsewhere
pub record HasFresh (q : machine.Core) (slot : ℕ) : Type 0 where
  pub t : ℕ
  pub listed : has_name (q.order slot) (Spare t) ≡ true
  pub fresh : is_fresh (q.arm (Spare t)) ≡ true

pub record IsReadySlot (q : machine.Core) (slot : ℕ) : Type 0 where
  pub first : FirstUp q slot
  pub arm : HasGood q slot ⊎ HasFresh q slot

pub whole_ready : (q : machine.Core) (slot : ℕ) → IsSlotWhole q slot → IsReadySlot q slot
whole_ready q slot w = record { first = w.first; arm = inl (record { n = w.n; listed = w.listed; up = w.up; empty = w.empty }) }

-- ---- an attachment

module _ (l : machine.Layout) (w : machine.State) (b : ℕ) (u last : ℕ) (listed : AreListed w.core) (unused : w.core.arm (Spare u) ≡ None) where
  abbrev pub joined : machine.Core
  joined = attached_core w.core b (Spare u) last

  abbrev pub joined_after : machine.Core
  joined_after = (rearranged_state l w last (attached_core w.core b (Spare u) last)).core

  renewed_up : (moved : Bool) (o : Option machine.Arm) → (is_here (map_arm (renew_if moved last) o) && online (map_arm (renew_if moved last) o)) ≡ (is_here o && online o)
  renewed_up moved None = refl
  renewed_up moved (Some a) = refl

  pub leaf_still : (m : ℕ) → leaf_answers joined_after m ≡ leaf_answers w.core m
  leaf_still m = renewed_up (has_moved l w.core joined (Leaf m)) (w.core.arm (Leaf m))

  pub first_still : (o : Option ℕ) → passes o (leaf_answers w.core) ≡ true → passes o (leaf_answers joined_after) ≡ true
  first_still None up = up
  first_still (Some m) up = leaf_still m ∙ up

  -- a slot that doesn't get the spare
  module _ (slot : ℕ) (other : (b == slot) ≡ false) where
    pub order_still : joined_after.order slot ≡ w.core.order slot
    order_still = ap (λ (c : Bool). if c then w.core.order b ++ Spare u ∷ [] else w.core.order slot) other

    pub listed_still : (n : ArmName) → has_name (w.core.order slot) n ≡ true → has_name (joined_after.order slot) n ≡ true
    listed_still n at = subst (λ ns. has_name ns n ≡ true) (sym order_still) at

    -- an arm that was there
    is_other : (n : ArmName) (a : machine.Arm) → w.core.arm n ≡ Some a → name_eq (Spare u) n ≡ false
    is_other n a found = by (name_eq (Spare u) n) refl
      where
        by : (c : Bool) → name_eq (Spare u) n ≡ c → name_eq (Spare u) n ≡ false
        by false is = is
        by true is = absurd (none_some (w.core.arm n) a (subst (λ k. w.core.arm k ≡ None) (name_true (Spare u) n is) unused) found)

    pub joined_arm : (n : ArmName) (a : machine.Arm) → w.core.arm n ≡ Some a → joined.arm n ≡ Some a
    joined_arm n a found = arm_other w.core.arm (Spare u) n _ (is_other n a found) ∙ found

    pub fresh_still : (t : ℕ) → has_name (w.core.order slot) (Spare t) ≡ true → (a : machine.Arm) → w.core.arm (Spare t) ≡ Some a → (a.fresh ≡ true) ⊎ (has_moved l w.core joined (Spare t) ≡ true) → is_fresh (joined_after.arm (Spare t)) ≡ true
    fresh_still t at a found why = ap (λ o. is_fresh (map_arm (renew_if (has_moved l w.core joined (Spare t)) last) o)) (joined_arm (Spare t) a found) ∙ by why
      where
        by : (a.fresh ≡ true) ⊎ (has_moved l w.core joined (Spare t) ≡ true) → (a.fresh || has_moved l w.core joined (Spare t)) ≡ true
        by (inl is) = true_left a.fresh (has_moved l w.core joined (Spare t)) is
        by (inr is) = true_right a.fresh (has_moved l w.core joined (Spare t)) is

    empty_still : (n : ArmName) (a : machine.Arm) → w.core.arm n ≡ Some a → has_moved l w.core joined n ≡ false → HasEmptyLog w.core n → HasEmptyLog joined_after n
    empty_still n a found still empty g =
        ap (λ o. logged (map_arm (renew_if (has_moved l w.core joined n) last) o) g) (joined_arm n a found)
        ∙ (ap (λ (c : Bool). (renew_if c last a).log g) still ∙ (ap (λ o. logged o g) (sym found) ∙ empty g))

    up_still : (n : ArmName) → IsUp w.core n → IsUp joined_after n
    up_still (Leaf m) up = leaf_still m ∙ up
    up_still (Spare t) up = tt

    pub good_ready : HasGood w.core slot → HasGood joined_after slot ⊎ HasFresh joined_after slot
    good_ready good = by good.n (has_moved l w.core joined good.n) refl refl
      where
        a : (c : machine.Arm) × (w.core.arm good.n ≡ Some c) × (c.gone ≡ None)
        a = listed.data_of slot good.n good.listed

        by : (n : ArmName) (moved : Bool) → good.n ≡ n → has_moved l w.core joined good.n ≡ moved → HasGood joined_after slot ⊎ HasFresh joined_after slot
        by n false is still = inl (record { n = good.n; listed = listed_still good.n good.listed; up = up_still good.n good.up; empty = empty_still good.n a.0 a.1 still good.empty })
        by (Leaf m) true is still = absurd (true≢false (sym still ∙ ap (has_moved l w.core joined) is))
        by (Spare t) true is still = inr (record {
          t = t;
          listed = listed_still (Spare t) (subst (λ k. has_name (w.core.order slot) k ≡ true) is good.listed);
          fresh = fresh_still t (subst (λ k. has_name (w.core.order slot) k ≡ true) is good.listed) a.0 (subst (λ k. w.core.arm k ≡ Some a.0) is a.1) (inr (ap (has_moved l w.core joined) (sym is) ∙ still));
        })

    pub fresh_of : (o : Option machine.Arm) (a : machine.Arm) → o ≡ Some a → is_fresh o ≡ true → a.fresh ≡ true
    fresh_of None a is fresh = absurd (none_some None a refl is)
    fresh_of (Some c) a is fresh = subst (λ (d : machine.Arm). d.fresh ≡ true) (some_injective c a is) fresh

    pub first_kept : FirstUp w.core slot → FirstUp joined_after slot
    first_kept first none = subst (λ ns. passes (first_leaf ns) (leaf_answers joined_after) ≡ true) (sym order_still)
        (first_still (first_leaf (w.core.order slot)) (first (subst (λ ns. first_spare ns ≡ None) order_still none)))

    pub slot_still : IsReadySlot w.core slot → IsReadySlot joined_after slot
    slot_still ready = record {
      first = first_kept ready.first;
      arm = elim ready.arm [
        | inl good ↦ good_ready good
        | inr is ↦ (
            let a = listed.data_of slot (Spare is.t) is.listed in
            inr (record { t = is.t; listed = listed_still (Spare is.t) is.listed; fresh = fresh_still is.t is.listed a.0 a.1 (inl (fresh_of (w.core.arm (Spare is.t)) a.0 a.1 is.fresh)) }))
      ];
    }

  -- the slot that gets it
  pub own_order : joined_after.order b ≡ w.core.order b ++ Spare u ∷ []
  own_order = ap (λ (c : Bool). if c then w.core.order b ++ Spare u ∷ [] else w.core.order b) (same_number b)
    where
      same_number : (k : ℕ) → (k == k) ≡ true
      same_number k = equal k k refl

  pub spare_last : (ns : List ArmName) → first_spare (ns ++ Spare u ∷ []) ≡ None → ⊥
  spare_last [] none = none_some (Some u) u none refl
  spare_last (Leaf m ∷ ns) none = spare_last ns none
  spare_last (Spare t ∷ ns) none = none_some (Some t) t none refl

  pub own_listed : has_name (joined_after.order b) (Spare u) ≡ true
  own_listed = subst (λ ns. has_name ns (Spare u) ≡ true) (sym own_order) (has_append (w.core.order b) (Spare u ∷ []) (Spare u) ∙ true_right (has_name (w.core.order b) (Spare u)) (has_name (Spare u ∷ []) (Spare u))
      (true_left (name_eq (Spare u) (Spare u)) false (name_refl (Spare u))))

  pub own_fresh : is_fresh (joined_after.arm (Spare u)) ≡ true
  own_fresh = ap (λ o. is_fresh (map_arm (renew_if (has_moved l w.core joined (Spare u)) last) o)) (arm_at w.core.arm (Spare u) _)

  pub own_ready : IsReadySlot joined_after b
  own_ready = record {
    first = λ none. absurd (spare_last (w.core.order b) (subst (λ ns. first_spare ns ≡ None) own_order none));
    arm = inr (record {
      t = u;
      listed = own_listed;
      fresh = own_fresh;
    });
  }

-- without a pass none is planned again
pub attach_none : (l : machine.Layout) (w : machine.State) (b u last : ℕ) → w.core.pass ≡ None → attach_state l w b (Spare u) last ≡ rearranged_state l w last (attached_core w.core b (Spare u) last)
attach_none l w b u last idle = ap (replan l (rearranged_state l w last (attached_core w.core b (Spare u) last)) (has_moved l w.core (attached_core w.core b (Spare u) last))) idle

-- behind the attachment each slot is so, if each other one was
pub attached_ready : (l : machine.Layout) (w new : machine.State) (b u : ℕ) → machine.IsLayout l → IsReached l w → AttachStep l w b (Spare u) new → w.core.pass ≡ None → (children : ℕ)
    → ((slot : ℕ) → slot < children → (slot ≡ b) ⊎ IsReadySlot w.core slot) → (slot : ℕ) → slot < children → IsReadySlot new.core slot
attached_ready l w new b u lay r s idle children ready slot inside = subst (λ (v : machine.State). IsReadySlot v.core slot) (sym (s.made ∙ attach_none l w b u s.last idle)) (by (b == slot) refl)
  where
    listed : AreListed w.core
    listed = (every_segment l w lay r).listed

    by : (c : Bool) → (b == slot) ≡ c → IsReadySlot (rearranged_state l w s.last (attached_core w.core b (Spare u) s.last)).core slot
    by true is = subst (IsReadySlot (rearranged_state l w s.last (attached_core w.core b (Spare u) s.last)).core) (is_equal b slot is) (own_ready l w b u s.last listed s.unused)
    by false is = elim (ready slot inside) [
      | inl same ↦ absurd (absurd_test (b == slot) (equal b slot (sym same)) is)
      | inr was ↦ slot_still l w b u s.last listed s.unused slot is was
    ]

-- ---- the command

module _ (m : ℕ) (P R : machine.State → Type 0) (e : Event) (geometry : Geometry) (perms : Perms)
    (step : (w new : machine.State) → IsReached (layout_of geometry perms m) w → Step (layout_of geometry perms m) w e new → P w → R new) where
  -- a hold of another metaslab leaves this one
  other_still : (S : machine.State → Type 0) (v : View) (act : Act) (x z : State) → Holds (On v act) x z → (v.metaslab ≡ m → ⊥) → AtState m S x → AtState m S z
  other_still S v act x z it off s y there = elim (hold_back v act x z it m y there) [
    | inl own ↦ absurd (off (sym own.0))
    | inr other ↦ s y other.1
  ]

  happens_at : (k : ℕ) (hold : Hold) (x z : State) → x.geometry ≡ geometry → x.perms ≡ perms → arms.Happens geometry perms e k hold → Holds hold x z → AreReached x → (k ≡ m) → AtState m P x → AtState m R z
  happens_at k (On v (Did d w)) x z g p h it r at s y there = elim (hold_back v (Did d w) x z it m y there) [
    | inl own ↦ (
        let same : layout_of x.geometry x.perms v.metaslab ≡ layout_of geometry perms m = λ i. layout_of (g i) (p i) ((h.0 ∙ at) i) in
        subst (λ (c : Metaslab). R c.world) own.2 (subst R (sym it.acts.world)
        (step it.before.world w (subst (λ (l : machine.Layout). IsReached l it.before.world) same (r.each v.metaslab it.before it.there))
        (subst (λ (f : Event). Step (layout_of geometry perms m) it.before.world f w) h.1 (subst (λ (l : machine.Layout). Step l it.before.world d w) same it.acts.legal)) (s it.before own.1))))
    | inr other ↦ absurd (other.0 (sym (h.0 ∙ at)))
  ]
  happens_at k hold x z g p h it r at s y there = absurd h

  happens_off : (S : machine.State → Type 0) (k : ℕ) (hold : Hold) (x z : State) → arms.Happens geometry perms e k hold → Holds hold x z → (k ≡ m → ⊥) → AtState m S x → AtState m S z
  happens_off S k (On v (Did d w)) x z h it off s = other_still S v (Did d w) x z it (λ same. off (sym h.0 ∙ same)) s
  happens_off S k hold x z h it off s = absurd h

  -- behind the event in each of so many metaslabs
  each_off : (a k : ℕ) (holds : List Hold) (x z : State) → Each (arms.Happens geometry perms e) a k holds → Follows holds x z → m < a → AtState m R x → AtState m R z
  each_off a zero holds x z each follows past r = subst (AtState m R) (sym (subst (λ hs. Follows hs x z) each follows)) r
  each_off a (suc k) holds x z each follows past r =
      let all = subst (λ hs. Follows hs x z) each.2 follows in
      each_off (a + 1) k each.1 all.0 z each.4 all.2 (omega (arith, past)) (happens_off R a each.0 x all.0 each.3 all.1 (λ same. omega (arith, same, past)) r)

  pub each_at : (a k : ℕ) (holds : List Hold) (x z : State) → x.geometry ≡ geometry → x.perms ≡ perms → Each (arms.Happens geometry perms e) a k holds → Follows holds x z → AreReached x → a ≤ m → m < a + k → AtState m P x → AtState m R z
  each_at a zero holds x z g p each follows reached low high s = absurd (omega (arith, low, high))
  each_at a (suc k) holds x z g p each follows reached low high s =
      let all = subst (λ hs. Follows hs x z) each.2 follows in
      let same = layout_stays (each.0 ∷ []) x all.0 (all.0, all.1, refl) in
      elim (cases_eq a m) [
        | inl at ↦ each_off (a + 1) k each.1 all.0 z each.4 all.2 (omega (arith, at)) (happens_at a each.0 x all.0 g p each.3 all.1 reached at s)
        | inr off ↦ each_at (a + 1) k each.1 all.0 z (same.0 ∙ g) (same.1 ∙ p) each.4 all.2 (hold_reached each.0 x all.0 all.1 reached) (omega (arith, low, off)) (omega (arith, high)) (happens_off P a each.0 x all.0 each.3 all.1 off s)
      ]

-- holds without an event
abbrev pub IsQuiet : Hold → Type 0
IsQuiet (On v (Did e w)) = ⊥
IsQuiet hold = ⊤

pub quiet_keeps : (m : ℕ) (P : machine.State → Type 0) (holds : List Hold) (x z : State) → AllOf IsQuiet holds → Follows holds x z → AreReached x → AtState m P x → AtState m P z
quiet_keeps m P = follows_keep m IsQuiet P (λ l v e w new at q lay r s p. absurd q)

-- a reservation has none
module _ (geometry : Geometry) (perms : Perms) (need : View → ℕ) where
  reserves_quiet : (m : ℕ) (hold : Hold) (k : ℕ) → arms.Reserves geometry perms need m hold k → IsQuiet hold
  reserves_quiet m (On v (Reserved events)) k r = tt
  reserves_quiet m hold k r = absurd r

  stops_quiet : (m : ℕ) (hold : Hold) (end : End) → arms.ReserveStops geometry perms need m hold end → IsQuiet hold
  stops_quiet m (On v Looked) WasWorn s = tt
  stops_quiet m (On v Looked) Starved s = tt
  stops_quiet m hold end s = absurd s

  pub reserving_quiet : (holds : List Hold) (end : End) → arms.ReservePhase geometry perms need holds end → AllOf IsQuiet holds
  reserving_quiet holds end r = walk_all IsQuiet (arms.Reserves geometry perms need) (arms.ReserveStops geometry perms need) reserves_quiet stops_quiet 0 geometry.props.metaslabs holds end 0 r

module _ (b u : ℕ) (x : State) (idle : (m : ℕ) (y : Metaslab) → slice_get x.metaslabs m ≡ Some y → y.world.closing ≡ None) where
  -- what a metaslab is behind an attachment
  pub spare_at : (m : ℕ) (P R : machine.State → Type 0)
      → ((w new : machine.State) → IsReached (layout_of x.geometry x.perms m) w → Step (layout_of x.geometry x.perms m) w (event.Attach b (Spare u)) new → P w → R new)
      → (holds : List Hold) (z : State) → arms.TakesSpare x.geometry x.perms b u holds Went → Follows holds x z → AreReached x → m < x.geometry.props.metaslabs → AtState m P x → AtState m R z
  spare_at m P R step holds z (inr f) follows reached inside p = absurd (f.0 refl)
  spare_at m P R step holds z (inl g) follows reached inside p =
      let begins = g.begins in
      let one = follows_split begins.finish (begins.looks ++ OnUber g.u LookedUber ∷ g.rest) x z (subst (λ hs. Follows hs x z) begins.are follows) in
      let two = follows_split begins.looks (OnUber g.u LookedUber ∷ g.rest) one.0 z one.2 in
      let finish = finish_looks IsQuiet (λ v. tt) x idle begins.finish one.0 begins.finishes one.1 in
      let looks = looks_from_all IsQuiet (λ v. tt) 0 x.geometry.props.metaslabs begins.looks g.views begins.looked in
      let first = quiet_keeps m P begins.finish x one.0 finish one.1 reached p in
      let r1 = follows_reached begins.finish x one.0 one.1 reached in
      let l1 = layout_stays begins.finish x one.0 one.1 in
      let second = quiet_keeps m P begins.looks one.0 two.0 looks two.1 r1 first in
      let r2 = follows_reached begins.looks one.0 two.0 two.1 r1 in
      let l2 = layout_stays begins.looks one.0 two.0 two.1 in
      let third = quiet_keeps m P (OnUber g.u LookedUber ∷ []) two.0 two.2.0 (tt, tt) (two.2.0, two.2.1, refl) r2 second in
      let r3 = hold_reached (OnUber g.u LookedUber) two.0 two.2.0 two.2.1 r2 in
      let l3 = layout_stays (OnUber g.u LookedUber ∷ []) two.0 two.2.0 (two.2.0, two.2.1, refl) in
      by g.does two.2.0 (l3.0 ∙ (l2.0 ∙ l1.0)) (l3.1 ∙ (l2.1 ∙ l1.1)) two.2.2 r3 third
    where
      by : Chain (arms.ReservePhase x.geometry x.perms (arms.attach_events x.geometry x.perms)) (arms.EventPhase x.geometry x.perms (event.Attach b (Spare u))) g.rest Went → (y : State) → y.geometry ≡ x.geometry → y.perms ≡ x.perms
          → Follows g.rest y z → AreReached y → AtState m P y → AtState m R z
      by (inr (stopped, reserve)) y yg yp rest r p = absurd (stopped refl)
      by (inl (front, back, are, reserve, events)) y yg yp rest r p =
          let split = follows_split front back y z (subst (λ hs. Follows hs y z) are rest) in
          let same = layout_stays front y split.0 split.1 in
          let calm = reserving_quiet x.geometry x.perms (arms.attach_events x.geometry x.perms) front Went reserve in
          each_at m P R (event.Attach b (Spare u)) x.geometry x.perms step 0 x.geometry.props.metaslabs back split.0 z (same.0 ∙ yg) (same.1 ∙ yp) events.0 split.2 (follows_reached front y split.0 split.1 r) (omega arith) (omega (arith, inside))
          (quiet_keeps m P front y split.0 calm split.1 r p)

-- ---- what a rebuild leaves as it is

-- the holds of a rebuild, without a failed flush
abbrev pub IsMending : Hold → Type 0
IsMending (On v Looked) = ⊤
IsMending (On v (AreaFailed t)) = ⊤
IsMending (On v CallStarved) = ⊤
IsMending (On v (Did (event.Plan Rebuild) w)) = ⊤
IsMending (On v (Did event.Ready w)) = ⊤
IsMending (On v (Did (event.Lend failed) w)) = ⊤
IsMending (On v (Did (event.LandStripe pass serial failed) w)) = ⊤
IsMending (On v (Did (event.Done failed) w)) = ⊤
IsMending (On v (Did (event.Close t) w)) = ⊤
IsMending (On v (Did (event.Seal t failed) w)) = ⊤
IsMending (On v (Did (event.Commit t) w)) = ⊤
IsMending (OnUber u act) = ⊤
IsMending hold = ⊥

mending_sync : OfSync IsMending
mending_sync = record { look = λ v. tt; close = λ v t w. tt; seal = λ v t failed w. tt; commit = λ v t w. tt; area = λ v t. tt; starve = λ v. tt; uber = λ u act. tt }

-- the same slots, whose disks answer as before
pub record SameUp (w new : machine.State) : Type 0 where
  pub order : new.core.order ≡ w.core.order
  pub answers : (leaf : ℕ) → leaf_answers new.core leaf ≡ leaf_answers w.core leaf

pub up_log : (c : Bool) (t : ℕ) (o : Option machine.Arm) → (is_here (map_arm (log_if c t) o) && online (map_arm (log_if c t) o)) ≡ (is_here o && online o)
up_log c t None = refl
up_log c t (Some a) = refl

up_fill : (c : Bool) (t : ℕ) (o : Option machine.Arm) → (is_here (map_arm (fill_if c t) o) && online (map_arm (fill_if c t) o)) ≡ (is_here o && online o)
up_fill c t None = refl
up_fill c t (Some a) = refl

up_excise : (c : Bool) (t : ℕ) (o : Option machine.Arm) → (is_here (map_arm (excise_if c t) o) && online (map_arm (excise_if c t) o)) ≡ (is_here o && online o)
up_excise c t None = refl
up_excise c t (Some a) = refl

-- an arm that a commit takes away is detached
abbrev here_of : Option machine.Gone → Bool
here_of g = elim g as (λ g. Bool) [ None ↦ true | Some g ↦ false ]

hidden : (t : ℕ) (g : Option machine.Gone) (x : Bool) → is_gone_by t g ≡ true → (here_of g && x) ≡ false
hidden t None x is = absurd (true≢false (sym is))
hidden t (Some g) x is = refl

up_if : (c : Bool) (o : Option machine.Arm) → (c ≡ true → (is_here o && online o) ≡ false) → (is_here (if c then None else o) && online (if c then None else o)) ≡ (is_here o && online o)
up_if true o out = sym (out refl)
up_if false o out = refl

pub up_commit : (t : ℕ) (o : Option machine.Arm) → (is_here (if is_gone_arm t o then None else o) && online (if is_gone_arm t o then None else o)) ≡ (is_here o && online o)
up_commit t None = refl
up_commit t (Some a) = up_if (is_gone_arm t (Some a)) (Some a) (hidden t a.gone (online (Some a)))

pub same_up : (l : machine.Layout) (v : View) (e : Event) (w new : machine.State) → IsMending (On v (Did e new)) → Step l w e new → SameUp w new
same_up l v (event.Close t) w new of s = subst (SameUp w) (sym s.made) (record { order = refl; answers = λ leaf. refl })
same_up l v (event.Seal t failed) w new of s = subst (SameUp w) (sym s.made) (record { order = refl; answers = λ leaf. up_log _ t (w.core.arm (Leaf leaf)) })
same_up l v (event.Commit t) w new of s = subst (SameUp w) (sym s.made) (record { order = refl; answers = λ leaf. up_commit t (w.core.arm (Leaf leaf)) })
same_up l v (event.Plan Rebuild) w new of s = subst (SameUp w) (sym s.made) (record { order = refl; answers = λ leaf. up_fill _ _ (w.core.arm (Leaf leaf)) })
same_up l v event.Ready w new of s = subst (SameUp w) (sym s.made) (record { order = refl; answers = λ leaf. refl })
same_up l v (event.Lend failed) w new of s = subst (SameUp w) (sym s.made) (record { order = refl; answers = λ leaf. refl })
same_up l v (event.LandStripe pass serial failed) w new of s = subst (SameUp w) (sym s.made) (by (nat_lt l.parity (unsourced l s.n)))
  where
    by : (c : Bool) → SameUp w (if c then pass_over w s.p 1 (s.n.stripe + 1) else mend_state l w s.p s.n s.h failed.items)
    by true = record { order = refl; answers = λ leaf. refl }
    by false = record { order = refl; answers = λ leaf. refl }
same_up l v (event.Done failed) w new of s = subst (SameUp w) (sym s.made) (record { order = refl; answers = λ leaf. up_excise _ _ (w.core.arm (Leaf leaf)) })
same_up l v e w new of s = absurd of

-- ---- the slots through a rebuild

-- each slot without a spare has a first disk that answers
abbrev pub FirstsUp : ℕ → machine.Core → Type 0
FirstsUp children q = (slot : ℕ) → slot < children → FirstUp q slot

abbrev pub StandsIn : ℕ → ArmName → machine.Core → Type 0
StandsIn slot n q = (has_name (q.order slot) n ≡ true) × IsUp q n

pub passes_same : (q r : machine.Core) (o : Option ℕ) → ((leaf : ℕ) → leaf_answers r leaf ≡ leaf_answers q leaf) → passes o (leaf_answers q) ≡ true → passes o (leaf_answers r) ≡ true
passes_same q r None same up = up
passes_same q r (Some leaf) same up = same leaf ∙ up

pub up_same : (q r : machine.Core) (n : ArmName) → ((leaf : ℕ) → leaf_answers r leaf ≡ leaf_answers q leaf) → IsUp q n → IsUp r n
up_same q r (Leaf leaf) same up = same leaf ∙ up
up_same q r (Spare t) same up = tt

pub firsts_same : (children : ℕ) (w new : machine.State) → SameUp w new → FirstsUp children w.core → FirstsUp children new.core
firsts_same children w new same firsts slot inside none =
    subst (λ ns. passes (first_leaf ns) (leaf_answers new.core) ≡ true) (sym (ap (λ (f : ℕ → List ArmName). f slot) same.order))
    (passes_same w.core new.core (first_leaf (w.core.order slot)) same.answers (firsts slot inside (subst (λ ns. first_spare ns ≡ None) (ap (λ (f : ℕ → List ArmName). f slot) same.order) none)))

pub stands_same : (slot : ℕ) (n : ArmName) (w new : machine.State) → SameUp w new → StandsIn slot n w.core → StandsIn slot n new.core
stands_same slot n w new same stands = (subst (λ (f : ℕ → List ArmName). has_name (f slot) n ≡ true) (sym same.order) stands.0, up_same w.core new.core n same.answers stands.1)

abbrev pub IsCalmMending : Hold → Type 0
IsCalmMending hold = IsMending hold × FailsNoFlush hold

firsts_through : (children m : ℕ) (holds : List Hold) (x z : State) → AllOf IsCalmMending holds → Follows holds x z → AreReached x → AtState m (λ w. FirstsUp children w.core) x → AtState m (λ w. FirstsUp children w.core) z
firsts_through children m = follows_keep m IsCalmMending (λ w. FirstsUp children w.core) (λ l v e w new at q lay r s p. firsts_same children w new (same_up l v e w new q.0 s) p)

stands_through : (slot m : ℕ) (n : ArmName) (holds : List Hold) (x z : State) → AllOf IsCalmMending holds → Follows holds x z → AreReached x → AtState m (λ w. StandsIn slot n w.core) x → AtState m (λ w. StandsIn slot n w.core) z
stands_through slot m n = follows_keep m IsCalmMending (λ w. StandsIn slot n w.core) (λ l v e w new at q lay r s p. stands_same slot n w new (same_up l v e w new q.0 s) p)

-- ---- an arm that has missed nothing, and isn't new

-- holds of a pool with this layout
module _ (geometry : Geometry) (perms : Perms) (m : ℕ) (Q : Hold → Type 0) (P : machine.State → Type 0)
    (keeps : (v : View) (e : Event) (w new : machine.State) → Q (On v (Did e new)) → IsReached (layout_of geometry perms m) w → Step (layout_of geometry perms m) w e new → P w → P new) where
  laid_acts : (v : View) (act : Act) (x y : Metaslab) → Q (On v act) → IsReached (layout_of geometry perms m) x.world → MetaslabActs (layout_of geometry perms m) act x y → P x.world → P y.world
  laid_acts v Looked x y q r it s = subst P (sym (ap (λ (k : Metaslab). k.world) it)) s
  laid_acts v (Did e w) x y q r it s = subst P (sym it.world) (keeps v e x.world w q r it.legal s)
  laid_acts v (Reserved events) x y q r it s = subst P (sym (ap (λ (k : Metaslab). k.world) it)) s
  laid_acts v (MadeLeaf leaf) x y q r it s = subst P (sym it.0.world) s
  laid_acts v (AreaFailed group) x y q r it s = subst P (sym it.0.world) s
  laid_acts v RackFailed x y q r it s = subst P (sym it.0.world) s
  laid_acts v CallStarved x y q r it s = subst P (sym it.0.world) s

  pub laid_hold : (hold : Hold) (x z : State) → x.geometry ≡ geometry → x.perms ≡ perms → Q hold → Holds hold x z → AreReached x → AtState m P x → AtState m P z
  laid_hold (On v act) x z g p q it r s y there = elim (hold_back v act x z it m y there) [
    | inl own ↦ (
        let same : layout_of x.geometry x.perms m ≡ layout_of geometry perms m = λ i. layout_of (g i) (p i) m in
        subst (λ (k : Metaslab). P k.world) own.2
        (laid_acts v act it.before it.after q (subst (λ (l : machine.Layout). IsReached l it.before.world) same (r.each m it.before own.1))
        (subst (λ (l : machine.Layout). MetaslabActs l act it.before it.after) same (subst (λ k. MetaslabActs (layout_of x.geometry x.perms k) act it.before it.after) (sym own.0) it.acts)) (s it.before own.1)))
    | inr other ↦ s y other.1
  ]
  laid_hold (OnUber u act) x z g p q it r s y there = s y (subst (λ (ys : List Metaslab). slice_get ys m ≡ Some y) (uber_rest act x z it.acts).0 there)

  pub laid_follows : (holds : List Hold) (x z : State) → x.geometry ≡ geometry → x.perms ≡ perms → AllOf Q holds → Follows holds x z → AreReached x → AtState m P x → AtState m P z
  laid_follows [] x z g p all follows r s = subst (AtState m P) (sym follows) s
  laid_follows (hold ∷ holds) x z g p all follows r s =
      let same = layout_stays (hold ∷ []) x follows.0 (follows.0, follows.1, refl) in
      laid_follows holds follows.0 z (same.0 ∙ g) (same.1 ∙ p) all.1 follows.2 (hold_reached hold x follows.0 follows.1 r) (laid_hold hold x follows.0 g p all.0 follows.1 r s)

pub record IsKept (children slot : ℕ) (n : ArmName) (w : machine.State) : Type 0 where
  pub firsts : FirstsUp children w.core
  pub stands : StandsIn slot n w.core
  pub empty : HasEmptyLog w.core n
  pub old : is_fresh (w.core.arm n) ≡ false

pub fresh_log : (c : Bool) (t : ℕ) (o : Option machine.Arm) → is_fresh o ≡ false → is_fresh (map_arm (log_if c t) o) ≡ false
fresh_log c t None old = refl
fresh_log c t (Some a) old = old

pub fresh_commit : (c : Bool) (o : Option machine.Arm) → is_fresh o ≡ false → is_fresh (if c then None else o) ≡ false
fresh_commit true o old = refl
fresh_commit false o old = old

log_fill : (c : Bool) (t g : ℕ) (o : Option machine.Arm) → c ≡ false → logged o g ≡ false → logged (map_arm (fill_if c t) o) g ≡ false
log_fill c t g None is empty = refl
log_fill c t g (Some a) is empty = rw is empty

fresh_fill : (c : Bool) (t : ℕ) (o : Option machine.Arm) → is_fresh o ≡ false → is_fresh (map_arm (fill_if c t) o) ≡ false
fresh_fill c t None old = refl
fresh_fill c t (Some a) old = old

log_excise : (c : Bool) (t g : ℕ) (o : Option machine.Arm) → logged o g ≡ false → logged (map_arm (excise_if c t) o) g ≡ false
log_excise c t g None empty = refl
log_excise c t g (Some a) empty = rw empty refl

fresh_excise : (c : Bool) (t : ℕ) (o : Option machine.Arm) → is_fresh o ≡ false → is_fresh (map_arm (excise_if c t) o) ≡ false
fresh_excise c t None old = refl
fresh_excise c t (Some a) old = rw old refl

pub and_false : (a b : Bool) → b ≡ false → (a && b) ≡ false
and_false true b is = is
and_false false b is = refl

not_target : (l : machine.Layout) (w : machine.State) (n : ArmName) → is_fresh (w.core.arm n) ≡ false → has_name (targets_of l w.core Rebuild) n ≡ false
not_target l w n old = by (has_name (targets_of l w.core Rebuild) n) refl
  where
    by : (c : Bool) → has_name (targets_of l w.core Rebuild) n ≡ c → has_name (targets_of l w.core Rebuild) n ≡ false
    by false is = is
    by true is = absurd (absurd_test (is_fresh (w.core.arm n)) (both_true (is_fresh (w.core.arm n)) _ (has_filter (is_target l w.core Rebuild) (arms_below w.core.order l.slots) n is).1).0 old)

-- its log stays empty
pub log_kept : (slot m : ℕ) (n : ArmName) (g : Geometry) (p : Perms) (lay : IsLayout g p) (v : View) (e : Event) (w new : machine.State) → IsCalmMending (On v (Did e new)) → IsReached (layout_of g p m) w
    → Step (layout_of g p m) w e new → IsKept g.spec.children slot n w → HasEmptyLog new.core n × (is_fresh (new.core.arm n) ≡ false)
log_kept slot m n g p lay v (event.Close t) w new q r s k = subst (λ (x : machine.State). HasEmptyLog x.core n × (is_fresh (x.core.arm n) ≡ false)) (sym s.made) (k.empty, k.old)
log_kept slot m n g p lay v (event.Seal t failed) w new q r s k =
    let well : lies_on (layout_of g p m) w.core (is_silent w.core failed.items) n ≡ false =
    subst (λ (ls : List ℕ). lies_on (layout_of g p m) w.core (is_silent w.core ls) n ≡ false) (sym q.1) (lies_well g p m lay w r k.firsts slot n k.stands.0 k.stands.1) in
    subst (λ (x : machine.State). HasEmptyLog x.core n × (is_fresh (x.core.arm n) ≡ false)) (sym s.made) (
      λ group. log_still n (s.wrote && lies_on (layout_of g p m) w.core (is_silent w.core failed.items) n) t group (w.core.arm n) (and_false s.wrote (lies_on (layout_of g p m) w.core (is_silent w.core failed.items) n) well) (k.empty group),
      fresh_log _ t (w.core.arm n) k.old,
    )
log_kept slot m n g p lay v (event.Commit t) w new q r s k =
    subst (λ (x : machine.State). HasEmptyLog x.core n × (is_fresh (x.core.arm n) ≡ false)) (sym s.made)
    (λ group. commit_still n (is_gone_arm t (w.core.arm n)) (w.core.arm n) group (k.empty group), fresh_commit (is_gone_arm t (w.core.arm n)) (w.core.arm n) k.old)
log_kept slot m n g p lay v (event.Plan Rebuild) w new q r s k =
    subst (λ (x : machine.State). HasEmptyLog x.core n × (is_fresh (x.core.arm n) ≡ false)) (sym s.made)
    (λ group. log_fill (has_name (targets_of (layout_of g p m) w.core Rebuild) n) _ group (w.core.arm n) (not_target (layout_of g p m) w n k.old) (k.empty group), fresh_fill _ _ (w.core.arm n) k.old)
log_kept slot m n g p lay v event.Ready w new q r s k = subst (λ (x : machine.State). HasEmptyLog x.core n × (is_fresh (x.core.arm n) ≡ false)) (sym s.made) (k.empty, k.old)
log_kept slot m n g p lay v (event.Lend failed) w new q r s k = subst (λ (x : machine.State). HasEmptyLog x.core n × (is_fresh (x.core.arm n) ≡ false)) (sym s.made) (k.empty, k.old)
log_kept slot m n g p lay v (event.LandStripe pass serial failed) w new q r s k =
    subst (λ (x : machine.State). HasEmptyLog x.core n × (is_fresh (x.core.arm n) ≡ false)) (sym s.made) (by (nat_lt (layout_of g p m).parity (unsourced (layout_of g p m) s.n)))
  where
    by : (c : Bool) → HasEmptyLog (if c then pass_over w s.p 1 (s.n.stripe + 1) else mend_state (layout_of g p m) w s.p s.n s.h failed.items).core n
        × (is_fresh ((if c then pass_over w s.p 1 (s.n.stripe + 1) else mend_state (layout_of g p m) w s.p s.n s.h failed.items).core.arm n) ≡ false)
    by true = (k.empty, k.old)
    by false = (k.empty, k.old)
log_kept slot m n g p lay v (event.Done failed) w new q r s k =
    subst (λ (x : machine.State). HasEmptyLog x.core n × (is_fresh (x.core.arm n) ≡ false)) (sym s.made) (λ group. log_excise _ _ group (w.core.arm n) (k.empty group), fresh_excise _ _ (w.core.arm n) k.old)
log_kept slot m n g p lay v e w new q r s k = absurd q.0

kept_through : (geometry : Geometry) (perms : Perms) (lay : IsLayout geometry perms) (slot m : ℕ) (n : ArmName) (holds : List Hold) (x z : State) → x.geometry ≡ geometry → x.perms ≡ perms → AllOf IsCalmMending holds
    → Follows holds x z → AreReached x → AtState m (IsKept geometry.spec.children slot n) x → AtState m (IsKept geometry.spec.children slot n) z
kept_through geometry perms lay slot m n =
    laid_follows geometry perms m IsCalmMending (IsKept geometry.spec.children slot n)
    (λ v e w new q r s k. (
    let up = same_up (layout_of geometry perms m) v e w new q.0 s in
    let logs = log_kept slot m n geometry perms lay v e w new q r s k in
    record { firsts = firsts_same geometry.spec.children w new up k.firsts; stands = stands_same slot n w new up k.stands; empty = logs.0; old = logs.1 }
    ))

-- ---- all holds of a rebuild are such

module _ (geometry : Geometry) (perms : Perms) where
  readies_mend : (k n : ℕ) (holds : List Hold) (end : End) → passes.Readies geometry perms k n holds end → AllOf IsMending holds
  readies_mend k zero holds end (went, runs) = elim runs.how [
    | inl look ↦ subst (AllOf IsMending) (sym look.0) (tt, tt)
    | inr (after, are) ↦ subst (AllOf IsMending) (sym are) (tt, tt)
  ]
  readies_mend k (suc n) holds end (rest, group, thin, waits, chain) =
      subst (AllOf IsMending) (sym waits.are)
      (tt, chain_all IsMending (groups.Syncs geometry perms group thin) (passes.Readies geometry perms k n) (sync_all IsMending mending_sync geometry perms group thin) (readies_mend k n) rest end chain)

  lends_mend : (k n : ℕ) (left : Option ℕ) (t : Tally) (holds : List Hold) (after : Option ℕ) (new : Tally) → passes.Lends geometry perms Rebuild k n left t holds Ended after new → AllOf IsMending holds
  lends_mend k zero left t holds after new l = subst (AllOf IsMending) (sym l.0.1.are) (tt, tt)
  lends_mend k (suc n) left t holds after new (rest, repaired, some, one, more) =
      subst (AllOf IsMending) (sym one.are) (tt, (lands one.u one.e one.landed repaired one.lands, lends_mend k n (passes.one_less left) (passes.has_lent repaired t) rest after new more))
    where
      lands : (u : View) (e : Event) (landed : machine.State) (repaired : ℕ) → passes.LandsAs geometry perms Rebuild u e repaired → IsMending (On u (Did e landed))
      lands u (event.LandStripe pass serial failed) landed repaired l = tt
      lands u e landed repaired l = absurd l

  visit_mends : (k : ℕ) (left : Option ℕ) (t : Tally) (holds : List Hold) (after : Option ℕ) (new : Tally) → passes.Visits geometry perms Rebuild k left t holds Ended after new → AllOf IsMending holds
  visit_mends k left t holds after new v =
      subst (AllOf IsMending) (sym v.are) (all_both IsMending v.front v.back (by v.begins) (lends_mend k v.units left (passes.has_begun (passes.pool_stripe geometry perms k v.at) t) v.back after new v.lends))
    where
      starts : (first : List Hold) → passes.Starts geometry perms Rebuild k v.at first Went → AllOf IsMending first
      starts first (inl goes) = subst (AllOf IsMending) (sym goes.are) (tt, tt)
      starts first (inr (zero_, plans)) = subst (AllOf IsMending) (sym plans.are) (tt, tt)

      by : passes.BeginsVisit geometry perms Rebuild k v.at v.front Went → AllOf IsMending v.front
      by (inr (stopped, s)) = absurd (stopped refl)
      by (inl (first, behind, are, s, ready)) = subst (AllOf IsMending) (sym are) (all_both IsMending first behind (starts first s) (readies_mend k ready.0 behind Went ready.1))

  visits_mend : (views : List View) (left : Option ℕ) (t : Tally) (holds : List Hold) (new : Tally) → passes.VisitsAll geometry perms Rebuild (passes.IsRebuilt geometry perms) views left t holds Ended new → AllOf IsMending holds
  visits_mend [] left t holds new w = subst (AllOf IsMending) (sym w.0) tt
  visits_mend (v ∷ views) left t holds new (inl w) = visits_mend views left t holds new w.1
  visits_mend (v ∷ views) left t holds new (inr (visited, inl w)) = absurd (w.1 refl)
  visits_mend (v ∷ views) left t holds new (inr (visited, inr (inl w))) = absurd (cc (w.1))
  visits_mend (v ∷ views) left t holds new (inr (visited, inr (inr (inl w)))) =
      subst (AllOf IsMending) (sym w.4) (all_both IsMending w.0 w.1 (visit_mends v.metaslab left t w.0 w.2 w.3 w.5) (visits_mend views w.2 w.3 w.1 new w.6))
  visits_mend (v ∷ views) left t holds new (inr (visited, inr (inr (inr w)))) =
      subst (AllOf IsMending) (sym w.2) (all_both IsMending w.0 w.1 (subst (AllOf IsMending) (sym w.4.are) (tt, tt)) (visits_mend views left t w.1 new w.5))

  pub found_mends : (limit : Option ℕ) (holds : List Hold) (views : List View) (rest : List Hold) (t : Tally) → passes.FindsNoOther geometry perms Rebuild holds views rest
      → passes.VisitsAll geometry perms Rebuild (passes.IsRebuilt geometry perms) views limit passes.nothing_yet rest Ended t → AllOf IsMending holds
  found_mends limit holds views rest t finds visits =
      subst (AllOf IsMending) (sym finds.are) (all_both IsMending finds.looks rest (looks_from_all IsMending (λ v. tt) 0 geometry.props.metaslabs finds.looks views finds.looked)
      (visits_mend views limit passes.nothing_yet rest t visits))

  pub rebuild_mends : (limit : Option ℕ) (holds : List Hold) (t : Tally) → passes.Rebuilds geometry perms limit holds Ended t → AllOf IsMending holds
  rebuild_mends limit holds t r = found_mends limit holds r.views r.rest t r.finds r.visits

pub both_so : (holds : List Hold) → AllOf IsMending holds → AllOf FailsNoFlush holds → AllOf IsCalmMending holds
both_so [] a b = tt
both_so (hold ∷ holds) a b = ((a.0, b.0), both_so holds a.1 b.1)

-- ---- one failure

-- a metaslab was there before
pub back_there : (holds : List Hold) (x z : State) (m : ℕ) (y : Metaslab) → Follows holds x z → slice_get z.metaslabs m ≡ Some y → (k : Metaslab) × (slice_get x.metaslabs m ≡ Some k)
back_there [] x z m y follows there = (y, subst (λ (s : State). slice_get s.metaslabs m ≡ Some y) follows there)
back_there (On v act ∷ holds) x z m y follows there =
    let rest = back_there holds follows.0 z m y follows.2 there in
    elim (hold_back v act x follows.0 follows.1 m rest.0 rest.1) [ inl own ↦ (follows.1.before, own.1) | inr other ↦ (rest.0, other.1) ]
back_there (OnUber u act ∷ holds) x z m y follows there =
    let rest = back_there holds follows.0 z m y follows.2 there in
    (rest.0, subst (λ (ys : List Metaslab). slice_get ys m ≡ Some rest.0) (uber_rest act x follows.0 follows.1.acts).0 rest.1)

-- as the slot has its spare
pub record IsSpared (children b u : ℕ) (w : machine.State) : Type 0 where
  pub pass : w.core.pass ≡ None
  pub slots : (slot : ℕ) → slot < children → IsReadySlot w.core slot
  pub listed : has_name (w.core.order b) (Spare u) ≡ true
  pub fresh : is_fresh (w.core.arm (Spare u)) ≡ true

module _ (choices : Choices) (b u : ℕ) (limit : Option ℕ) (from stripes : ℕ) (x z : State) (lay : IsLayout x.geometry x.perms) (reached : AreReached x) (inside_all : (m : ℕ) (y : Metaslab) → slice_get x.metaslabs m ≡ Some y → m < x.geometry.props.metaslabs)
    (spared_at : (m : ℕ) → AtState m (IsSpared x.geometry.spec.children b u) x) (it : CarriesOut choices (RebuildPool limit) (Rebuilt from stripes 0 false) x z) (flushes : AllOf FailsNoFlush it.holds)
    (idle : (m : ℕ) (y : Metaslab) → slice_get z.metaslabs m ≡ Some y → y.world.closing ≡ None) where
  rebuilds : (t : Tally) × passes.Rebuilds x.geometry x.perms limit it.holds Ended t × (t.errors ≡ 0)
  rebuilds = (let does = it.does in (does.1.0, does.1.1, does.1.4))

  calm : AllOf IsCalmMending it.holds
  calm = both_so it.holds (rebuild_mends x.geometry x.perms limit it.holds rebuilds.0 rebuilds.1) flushes

  -- an arm that came new has missed nothing behind it
  good_at : (m : ℕ) (n : ArmName) (y k : Metaslab) → slice_get x.metaslabs m ≡ Some y → slice_get it.mid.metaslabs m ≡ Some k → IsWanted y.world.core n → IsMadeGood n k.world
  good_at m n y k there behind wanted =
      rebuild_good x.geometry x.perms m n limit it.holds rebuilds.0 x it.mid rebuilds.1 rebuilds.2 it.follows refl refl reached (inside_all m y there)
      (λ j at. record { pass = (spared_at m j at).pass; wanted = subst (λ (i : Metaslab). IsWanted i.world.core n) (some_injective y j (sym there ∙ at)) wanted }) k behind

  module _ (m : ℕ) (k : Metaslab) (behind : slice_get it.mid.metaslabs m ≡ Some k) where
    back : (y : Metaslab) × (slice_get x.metaslabs m ≡ Some y)
    back = back_there it.holds x it.mid m k it.follows behind

    spared : IsSpared x.geometry.spec.children b u back.0.world
    spared = spared_at m back.0 back.1

    here : (P : machine.State → Type 0) → P back.0.world → AtState m P x
    here P p j at = subst (λ (i : Metaslab). P i.world) (some_injective back.0 j (sym back.1 ∙ at)) p

    firsts : FirstsUp x.geometry.spec.children back.0.world.core
    firsts slot inside = (spared.slots slot inside).first

    firsts_behind : FirstsUp x.geometry.spec.children k.world.core
    firsts_behind = firsts_through x.geometry.spec.children m it.holds x it.mid calm it.follows reached (here (λ w. FirstsUp x.geometry.spec.children w.core) firsts) k behind

    no_pass : k.world.core.pass ≡ None
    no_pass = (good_at m (Spare u) back.0 k back.1 behind (record { slot = b; listed = spared.listed; fresh = spared.fresh; up = tt })).pass

    slot_whole : (slot : ℕ) → slot < x.geometry.spec.children → IsSlotWhole k.world.core slot
    slot_whole slot inside = by (spared.slots slot inside).arm
      where
        stands_behind : (n : ArmName) → StandsIn slot n back.0.world.core → StandsIn slot n k.world.core
        stands_behind n stands = stands_through slot m n it.holds x it.mid calm it.follows reached (here (λ w. StandsIn slot n w.core) stands) k behind

        by_fresh : (n : ArmName) → StandsIn slot n back.0.world.core → is_fresh (back.0.world.core.arm n) ≡ true → IsSlotWhole k.world.core slot
        by_fresh n stands fresh =
            let now = stands_behind n stands in
            record {
              n = n;
              listed = now.0;
              up = now.1;
              empty = (good_at m n back.0 k back.1 behind (record { slot = slot; listed = stands.0; fresh = fresh; up = stands.1 })).empty;
              first = firsts_behind slot inside;
            }

        by_old : (n : ArmName) → StandsIn slot n back.0.world.core → HasEmptyLog back.0.world.core n → is_fresh (back.0.world.core.arm n) ≡ false → IsSlotWhole k.world.core slot
        by_old n stands empty old =
            let now = stands_behind n stands in
            let kept = kept_through x.geometry x.perms lay slot m n it.holds x it.mid refl refl calm it.follows reached
            (here (IsKept x.geometry.spec.children slot n) (record { firsts = firsts; stands = stands; empty = empty; old = old })) k behind in
            record { n = n; listed = now.0; up = now.1; empty = kept.empty; first = firsts_behind slot inside }

        by_arm : (n : ArmName) → StandsIn slot n back.0.world.core → HasEmptyLog back.0.world.core n → (c : Bool) → is_fresh (back.0.world.core.arm n) ≡ c → IsSlotWhole k.world.core slot
        by_arm n stands empty true fresh = by_fresh n stands fresh
        by_arm n stands empty false old = by_old n stands empty old

        by : HasGood back.0.world.core slot ⊎ HasFresh back.0.world.core slot → IsSlotWhole k.world.core slot
        by (inl good) = by_arm good.n (good.listed, good.up) good.empty (is_fresh (back.0.world.core.arm good.n)) refl
        by (inr is) = by_fresh (Spare is.t) (is.listed, tt) is.fresh

  at_end : z.metaslabs ≡ it.mid.metaslabs
  at_end = ap (λ (s : State). s.metaslabs) it.made

  end_layout : (z.geometry ≡ x.geometry) × (z.perms ≡ x.perms)
  end_layout =
      let same = layout_stays it.holds x it.mid it.follows in
      (ap (λ (s : State). s.geometry) it.made ∙ same.0, ap (λ (s : State). s.perms) it.made ∙ same.1)

  pub rebuilt_whole : IsPoolWhole z
  rebuilt_whole = record {
    slots = record {
      layout = subst (λ (g : Geometry). IsLayout g z.perms) (sym end_layout.0) (subst (IsLayout x.geometry) (sym end_layout.1) lay);
      reached = same_reached it.mid z (ap (λ (s : State). s.geometry) it.made) (ap (λ (s : State). s.perms) it.made) at_end (follows_reached it.holds x it.mid it.follows reached);
      idle = idle;
      whole = λ m y there slot inside. inr (inl (slot_whole m y (subst (λ (ys : List Metaslab). slice_get ys m ≡ Some y) at_end there) slot (subst (λ (g : Geometry). slot < g.spec.children) end_layout.0 inside)));
    };
    inside = λ m y there.
        let j = back m y (subst (λ (ys : List Metaslab). slice_get ys m ≡ Some y) at_end there) in
        subst (λ (g : Geometry). m < g.props.metaslabs) (sym end_layout.0) (inside_all m j.0 j.1);
    passes = λ m y there. no_pass m y (subst (λ (ys : List Metaslab). slice_get ys m ≡ Some y) at_end there);
  }
