-- Along the holds of a command no metaslab's open group falls.
use Rattle.std.proofs.Common.{◌≡◌, ◌≤◌, ◌⊎◌, ℕ, List, [], ◌∷◌, Some, inl, inr, refl, sym, ap, subst, arith}
use Rattle.std.specs.Prelude.{slice_get}
use Rattle.draid_machine.specs.State as machine
use Rattle.draid_machine.proofs.Small.{some_same}
use Rattle.draid_session.specs.Follows.{Follows, Holds, UberActs}
use Rattle.draid_session.specs.Holds.{AsksVersion, CommitFailed, CommitStarved, Committed, Hold, LookedUber, NextLeaf, On, OnUber, UberAct}
use Rattle.draid_session.specs.Looks.{AllOf}
use Rattle.draid_session.specs.State.{Metaslab, State}
use Rattle.draid_session.proofs.Calm.{hold_back}
use Rattle.draid_session.proofs.Groupwise.{Held, IsSteadyHold, held_by, place, place_high, place_low}

-- each metaslab of the one state was there in the other, with no later group open
abbrev pub Rises : State → State → Type 0
Rises x z = (k : ℕ) (w : Metaslab) → slice_get z.metaslabs k ≡ Some w → (y : Metaslab) × (slice_get x.metaslabs k ≡ Some y) × (y.world.open_group ≤ w.world.open_group)

pub uber_same : (act : UberAct) (x z : State) → UberActs act x z → z.metaslabs ≡ x.metaslabs
uber_same LookedUber x z it = ap (λ (s : State). s.metaslabs) it
uber_same (Committed group) x z it = ap (λ (s : State). s.metaslabs) it.2
uber_same (CommitFailed group) x z it = ap (λ (s : State). s.metaslabs) it.2
uber_same (CommitStarved group) x z it = ap (λ (s : State). s.metaslabs) it.2
uber_same (NextLeaf next) x z it = ap (λ (s : State). s.metaslabs) it
uber_same (AsksVersion version) x z it = ap (λ (s : State). s.metaslabs) it

place_open : (v w : machine.State) → place v ≤ place w → v.open_group ≤ w.open_group
place_open v w rises = (let low = place_low v in let high = place_high w in omega (arith, low, high, rises))

hold_rises : (hold : Hold) (x z : State) → IsSteadyHold hold → Holds hold x z → Rises x z
hold_rises (OnUber u act) x z steady it k w there = (w, subst (λ (xs : List Metaslab). slice_get xs k ≡ Some w) (uber_same act x z it.acts) there, omega arith)
hold_rises (On v act) x z steady it k w there = by (hold_back v act x z it k w there)
  where
    h : Held v.metaslab it.before v act x z
    h = held_by v.metaslab it.before v act x z refl it.there steady it

    by : ((k ≡ v.metaslab) × (slice_get x.metaslabs k ≡ Some it.before) × (it.after ≡ w)) ⊎ ((k ≡ v.metaslab → ⊥) × (slice_get x.metaslabs k ≡ Some w))
        → (y : Metaslab) × (slice_get x.metaslabs k ≡ Some y) × (y.world.open_group ≤ w.world.open_group)
    by (inl own) =
        let same : h.after ≡ w = some_same (slice_get z.metaslabs v.metaslab) h.after w h.here (subst (λ n. slice_get z.metaslabs n ≡ Some w) own.0 there) in
        (it.before, own.1, subst (λ (y : Metaslab). it.before.world.open_group ≤ y.world.open_group) same (place_open it.before.world h.after.world h.moves.rises))
    by (inr other) = (w, other.1, omega arith)

pub rises_same : (x : State) → Rises x x
rises_same x k w there = (w, there, omega arith)

pub rises_then : (x y z : State) → Rises x y → Rises y z → Rises x z
rises_then x y z a b k w there =
    let two = b k w there in
    let one = a k two.0 two.1 in
    let first = one.2 in
    let second = two.2 in
    (one.0, one.1, omega (arith, first, second))

pub holds_rise : (holds : List Hold) (x z : State) → AllOf IsSteadyHold holds → Follows holds x z → Rises x z
holds_rise [] x z all follows = subst (Rises x) (sym follows) (rises_same x)
holds_rise (hold ∷ holds) x z all (mid, one, rest) = rises_then x mid z (hold_rises hold x mid all.0 one) (holds_rise holds mid z all.1 rest)
