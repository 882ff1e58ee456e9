-- A command that a failing device ended: the count of an area of the pool rose, or in one that makes leaves that of a rack as a whole.
use Rattle.std.proofs.Common.{◌≡◌, ◌≤◌, ◌<◌, ◌-◌, ◌^◌, ◌∙◌, ◌⊎◌, ◌==◌, ◌%◌, min, inl, inr, arith, refl, sym, ap, subst, ℕ, Bool, true, false, List, [], ◌∷◌, Some, None, if◌then◌else◌}
use Rattle.std.specs.Prelude.{slice_get, slice_set}
use Rattle.std.proofs.lemmas.Bool.Decides.{nat_tests}
use Rattle.draid_names.specs.Faults.{Rose}
use Rattle.draid_spec.specs.declared.layout.Geometry.{Geometry}
use Rattle.draid_perm.specs.declared.perms.Perms.{Perms}
use Rattle.draid_script.specs.Line.{Command}
use Rattle.draid_session.specs.Certain.{HasFailed, MakesLeaves}
use Rattle.draid_session.specs.Does.{Broken}
use Rattle.draid_session.specs.Follows.{Follows, Holds, HoldsMetaslab, UberActs, area_count}
use Rattle.draid_session.specs.Holds.{Act, AreaFailed, AsksVersion, Committed, CommitFailed, CommitStarved, Did, Hold, Looked, LookedUber, MadeLeaf, NextLeaf, On, OnUber, RackFailed, CallStarved, Reserved, UberAct, View}
use Rattle.draid_session.specs.State.{Counts, Metaslab, State, Store}
use Rattle.draid_session.proofs.Failed.{breaks_failed}
use Rattle.draid_session.proofs.Lists.{get_set_other, get_set_same, some_of}
use Rattle.draid_run.specs.Shelves.{AreaHasFailed, AreaRose, RackHasFailed, RackRose}

-- ---- counts don't fall

-- a metaslab of the later state was one before, and no count of its areas or of its rack as a whole fell; nor did that of the uberblock's, but above its greatest value
pub record CameFrom (x : State) (k : ℕ) (z : Metaslab) : Type 0 where
  pub y : Metaslab
  pub there : slice_get x.metaslabs k ≡ Some y
  pub even : y.counts.even ≤ z.counts.even
  pub odd : y.counts.odd ≤ z.counts.odd
  pub rack : y.counts.rack None ≤ z.counts.rack None

pub record IsLater (x z : State) : Type 0 where
  pub each : (k : ℕ) (m : Metaslab) → slice_get z.metaslabs k ≡ Some m → CameFrom x k m
  pub uber : min x.uber_count (2 ^ 64 - 1) ≤ z.uber_count

pub later_none : (x : State) → IsLater x x
later_none x = record { each = λ k m there. record { y = m; there = there; even = omega arith; odd = omega arith; rack = omega arith }; uber = omega arith }

pub later_more : (x y z : State) → IsLater x y → IsLater y z → IsLater x z
later_more x y z a b = record {
  each = λ k m there. (
      let two = b.each k m there in
      let one = a.each k two.y two.there in
      let even = one.even in
      let more = two.even in
      let odd = one.odd in
      let again = two.odd in
      let rack = one.rack in
      let whole = two.rack in
      record { y = one.y; there = one.there; even = omega (arith, even, more); odd = omega (arith, odd, again); rack = omega (arith, rack, whole) }
      );
  uber = (let first = a.uber in let next = b.uber in omega (arith, first, next));
}

-- counts that are the same didn't fall
counts_same : (x y : Metaslab) → y.counts ≡ x.counts → (x.counts.even ≤ y.counts.even) × (x.counts.odd ≤ y.counts.odd) × (x.counts.rack None ≤ y.counts.rack None)
counts_same x y same =
    let even = ap (λ (c : Counts). c.even) same in
    let odd = ap (λ (c : Counts). c.odd) same in
    let rack = ap (λ (c : Counts). c.rack None) same in
    (omega (arith, even), omega (arith, odd), omega (arith, rack))

module _ (v : View) (x z : State) where
  act_even : (act : Act) → (it : HoldsMetaslab v act x z) → (it.before.counts.even ≤ it.after.counts.even) × (it.before.counts.odd ≤ it.after.counts.odd) × (it.before.counts.rack None ≤ it.after.counts.rack None)
  act_even Looked it = counts_same it.before it.after (ap (λ (y : Metaslab). y.counts) it.acts)
  act_even (Did e w) it = (it.acts.counts.even, it.acts.counts.odd, it.acts.counts.rack)
  act_even (Reserved n) it = counts_same it.before it.after (ap (λ (y : Metaslab). y.counts) it.acts)
  act_even (MadeLeaf leaf) it = (it.acts.0.counts.even, it.acts.0.counts.odd, it.acts.0.counts.rack)
  act_even (AreaFailed group) it = (it.acts.0.counts.even, it.acts.0.counts.odd, it.acts.0.counts.rack)
  act_even RackFailed it = (it.acts.0.counts.even, it.acts.0.counts.odd, it.acts.0.counts.rack)
  act_even CallStarved it = (it.acts.0.counts.even, it.acts.0.counts.odd, it.acts.0.counts.rack)

  act_later : (act : Act) → HoldsMetaslab v act x z → IsLater x z
  act_later act it = subst (IsLater x) (sym it.made) (record { each = λ k m there. from k m there (k == v.metaslab) refl; uber = omega arith })
    where
      counts : (it.before.counts.even ≤ it.after.counts.even) × (it.before.counts.odd ≤ it.after.counts.odd) × (it.before.counts.rack None ≤ it.after.counts.rack None)
      counts = act_even act it

      from : (k : ℕ) (m : Metaslab) → slice_get (slice_set x.metaslabs v.metaslab it.after) k ≡ Some m → (b : Bool) → (k == v.metaslab) ≡ b → CameFrom x k m
      from k m there true is =
          let at : v.metaslab ≡ k = grind (arith, nat_tests, is) in
          let two : slice_get (slice_set x.metaslabs v.metaslab it.after) k ≡ Some it.after =
          subst (λ n. slice_get (slice_set x.metaslabs v.metaslab it.after) n ≡ Some it.after) at (get_set_same x.metaslabs v.metaslab it.before it.after it.there) in
          let same : it.after ≡ m = some_of (slice_get (slice_set x.metaslabs v.metaslab it.after) k) it.after m two there in
          subst (CameFrom x k) same (record { y = it.before; there = subst (λ n. slice_get x.metaslabs n ≡ Some it.before) at it.there; even = counts.0; odd = counts.1; rack = counts.2 })
      from k m there false is =
          let one : slice_get x.metaslabs k ≡ Some m = sym (get_set_other x.metaslabs v.metaslab k it.after (λ at. (let other = is in grind (arith, nat_tests, other, at)))) ∙ there in
          record { y = m; there = one; even = omega arith; odd = omega arith; rack = omega arith }

uber_later : (act : UberAct) (x z : State) → UberActs act x z → IsLater x z
uber_later LookedUber x z it = subst (IsLater x) (sym it) (later_none x)
uber_later (Committed group) x z it = subst (IsLater x) (sym it.2) (record { each = (later_none x).each; uber = (let more = it.1 in omega (arith, more)) })
uber_later (CommitFailed group) x z it = subst (IsLater x) (sym it.2) (record { each = (later_none x).each; uber = (let rose = it.1 in omega (arith, rose)) })
uber_later (CommitStarved group) x z it = subst (IsLater x) (sym it.2) (record { each = (later_none x).each; uber = (let more = it.1 in omega (arith, more)) })
uber_later (NextLeaf next) x z it = subst (IsLater x) (sym it) (record { each = (later_none x).each; uber = omega arith })
uber_later (AsksVersion version) x z it = subst (IsLater x) (sym it) (record { each = (later_none x).each; uber = omega arith })

hold_later : (hold : Hold) (x z : State) → Holds hold x z → IsLater x z
hold_later (On v act) x z it = act_later v x z act it
hold_later (OnUber u act) x z it = uber_later act x z it.acts

pub follows_later : (holds : List Hold) (x z : State) → Follows holds x z → IsLater x z
follows_later [] x z follows = subst (IsLater x) (sym follows) (later_none x)
follows_later (hold ∷ holds) x z follows = later_more x follows.0 z (hold_later hold x follows.0 follows.1) (follows_later holds follows.0 z follows.2)

-- ---- what rose

rose_from : (a b c : ℕ) → a ≤ b → Rose b c → Rose a c
rose_from a b c low rose = omega (arith, low, rose)

rose_capped : (a b c : ℕ) → min a (2 ^ 64 - 1) ≤ b → Rose b c → Rose a c
rose_capped a b c low rose = omega (arith, low, rose)

either : (group : ℕ) (before after : Counts) → Rose (area_count group before) (area_count group after) → Rose before.even after.even ⊎ Rose before.odd after.odd
either group before after = by (group % 2 == 0) where
  by : (b : Bool) → Rose (if b then before.even else before.odd) (if b then after.even else after.odd) → Rose before.even after.even ⊎ Rose before.odd after.odd
  by true rose = inl rose
  by false rose = inr rose

rose_here : (command : Command) (hold : Hold) (x y z : State) → IsLater x y → HasFailed command hold y z → AreaRose x z ⊎ (MakesLeaves command × RackRose x z)
rose_here command (On v (AreaFailed group)) x y z later failed =
    let was = later.each v.metaslab failed.0 failed.2 in
    inl (inl (
      v.metaslab,
      was.y,
      failed.1,
      was.there,
      failed.3,
      elim (either group failed.0.counts failed.1.counts failed.4) [
        | inl even ↦ inl (rose_from was.y.counts.even failed.0.counts.even failed.1.counts.even was.even even)
        | inr odd ↦ inr (rose_from was.y.counts.odd failed.0.counts.odd failed.1.counts.odd was.odd odd)
      ],
    ))
rose_here command (On v RackFailed) x y z later failed =
    let was = later.each v.metaslab failed.1 failed.3 in
    inr (failed.0, (v.metaslab, was.y, failed.2, was.there, failed.4, rose_from (was.y.counts.rack None) (failed.1.counts.rack None) (failed.2.counts.rack None) was.rack failed.5))
rose_here command (OnUber u (CommitFailed group)) x y z later failed = inl (inr (rose_capped x.uber_count y.uber_count z.uber_count later.uber failed))
rose_here command hold x y z later failed = absurd failed

-- a command that breaks off has a rise
pub broken_rose : (geometry : Geometry) (perms : Perms) (command : Command) (old : Store) (holds : List Hold) (new : Store) (x y : State) → Broken geometry perms command old holds new → Follows holds x y
    → AreaRose x y ⊎ (MakesLeaves command × RackRose x y)
broken_rose geometry perms command old holds new x y broken follows =
    let e = breaks_failed geometry perms command old holds new x y broken follows in
    rose_here command e.hold x e.mid y (follows_later e.front x e.mid e.follows) e.failed

rose_some : (before now : ℕ) → Rose before now → 0 < now
rose_some before now rose = omega (arith, rose)

-- and what has risen isn't 0
pub rose_shows : (x y : State) → AreaRose x y → AreaHasFailed y
rose_shows x y rose = elim rose [
  | inl at ↦ inl (
    at.0,
    at.2,
    at.4,
    elim at.5 [
      | inl even ↦ (let some = rose_some at.1.counts.even at.2.counts.even even in omega (arith, some))
      | inr odd ↦ (let some = rose_some at.1.counts.odd at.2.counts.odd odd in omega (arith, some))
    ],
  )
  | inr uber ↦ inr (rose_some x.uber_count y.uber_count uber)
]

pub rack_shows : (x y : State) → RackRose x y → RackHasFailed y
rack_shows x y rose = (rose.0, rose.2, rose.4, rose_some (rose.1.counts.rack None) (rose.2.counts.rack None) rose.5)

pub broken_shows : (geometry : Geometry) (perms : Perms) (command : Command) (old : Store) (holds : List Hold) (new : Store) (x y : State) → Broken geometry perms command old holds new → Follows holds x y
    → AreaHasFailed y ⊎ (MakesLeaves command × RackHasFailed y)
broken_shows geometry perms command old holds new x y broken follows = elim (broken_rose geometry perms command old holds new x y broken follows) [
  | inl rose ↦ inl (rose_shows x y rose)
  | inr rose ↦ inr (rose.0, rack_shows x y rose.1)
]
