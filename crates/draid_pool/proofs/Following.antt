-- Holds that follow one another, whatever the pool has of its own.
use Rattle.std.proofs.Common.{◌≡◌, ◌∙◌, List, [], ◌∷◌, ◌++◌, ap, subst}
use Rattle.draid_session.specs.Follows.{Follows, Holds, UberActs}
use Rattle.draid_session.specs.Holds.{Hold, On, OnUber, UberAct, LookedUber, Committed, CommitFailed, CommitStarved, NextLeaf, AsksVersion}
use Rattle.draid_session.specs.State.{State, Store}

pub follows_on : (holds more : List Hold) (x mid new : State) → Follows holds x mid → Follows more mid new → Follows (holds ++ more) x new
follows_on [] more x mid new a b = subst (λ s. Follows more s new) a b
follows_on (h ∷ hs) more x mid new a b = (a.0, a.1, follows_on hs more a.0 mid new a.2 b)

-- the state with another store
module _ (a b : State) (s : Store) where
  uber_but : (act : UberAct) → UberActs act (record a { store = s }) b → UberActs act a (record b { store = a.store })
  uber_but LookedUber u = ap (λ (y : State). record y { store = a.store }) u
  uber_but (Committed group) u = (u.0, u.1, ap (λ (y : State). record y { store = a.store }) u.2)
  uber_but (CommitFailed group) u = (u.0, u.1, ap (λ (y : State). record y { store = a.store }) u.2)
  uber_but (CommitStarved group) u = (u.0, u.1, ap (λ (y : State). record y { store = a.store }) u.2)
  uber_but (NextLeaf next) u = ap (λ (y : State). record y { store = a.store }) u
  uber_but (AsksVersion version) u = ap (λ (y : State). record y { store = a.store }) u

  holds_but : (hold : Hold) → Holds hold (record a { store = s }) b → Holds hold a (record b { store = a.store })
  holds_but (On v act) h = record {
    before = h.before;
    after = h.after;
    there = h.there;
    sees = h.sees;
    acts = h.acts;
    made = ap (λ (y : State). record y { store = a.store }) h.made;
  }
  holds_but (OnUber u act) h = record { sees = h.sees; acts = uber_but act h.acts }

pub follows_but : (holds : List Hold) (a b : State) (s : Store) → Follows holds (record a { store = s }) b → Follows holds a (record b { store = a.store })
follows_but [] a b s f = ap (λ (y : State). record y { store = a.store }) f
follows_but (h ∷ hs) a b s f =
    let mid : State = f.0 in
    (record mid { store = a.store }, holds_but a mid s h f.1, follows_but hs (record mid { store = a.store }) b mid.store f.2)

-- the layout stays
uber_layout : (act : UberAct) (a b : State) → UberActs act a b → (b.geometry ≡ a.geometry) × (b.perms ≡ a.perms)
uber_layout LookedUber a b u = (ap (λ (y : State). y.geometry) u, ap (λ (y : State). y.perms) u)
uber_layout (Committed group) a b u = (ap (λ (y : State). y.geometry) u.2, ap (λ (y : State). y.perms) u.2)
uber_layout (CommitFailed group) a b u = (ap (λ (y : State). y.geometry) u.2, ap (λ (y : State). y.perms) u.2)
uber_layout (CommitStarved group) a b u = (ap (λ (y : State). y.geometry) u.2, ap (λ (y : State). y.perms) u.2)
uber_layout (NextLeaf next) a b u = (ap (λ (y : State). y.geometry) u, ap (λ (y : State). y.perms) u)
uber_layout (AsksVersion version) a b u = (ap (λ (y : State). y.geometry) u, ap (λ (y : State). y.perms) u)

hold_layout : (hold : Hold) (a b : State) → Holds hold a b → (b.geometry ≡ a.geometry) × (b.perms ≡ a.perms)
hold_layout (On v act) a b h = (ap (λ (y : State). y.geometry) h.made, ap (λ (y : State). y.perms) h.made)
hold_layout (OnUber u act) a b h = uber_layout act a b h.acts

pub same_layout : (holds : List Hold) (a b : State) → Follows holds a b → (b.geometry ≡ a.geometry) × (b.perms ≡ a.perms)
same_layout [] a b f = (ap (λ (y : State). y.geometry) f, ap (λ (y : State). y.perms) f)
same_layout (h ∷ hs) a b f =
    let one = hold_layout h a f.0 f.1 in
    let more = same_layout hs f.0 b f.2 in
    (more.0 ∙ one.0, more.1 ∙ one.1)

-- and whether the shelf told
uber_told : (act : UberAct) (a b : State) → UberActs act a b → b.told ≡ a.told
uber_told LookedUber a b u = ap (λ (y : State). y.told) u
uber_told (Committed group) a b u = ap (λ (y : State). y.told) u.2
uber_told (CommitFailed group) a b u = ap (λ (y : State). y.told) u.2
uber_told (CommitStarved group) a b u = ap (λ (y : State). y.told) u.2
uber_told (NextLeaf next) a b u = ap (λ (y : State). y.told) u
uber_told (AsksVersion version) a b u = ap (λ (y : State). y.told) u

hold_told : (hold : Hold) (a b : State) → Holds hold a b → b.told ≡ a.told
hold_told (On v act) a b h = ap (λ (y : State). y.told) h.made
hold_told (OnUber u act) a b h = uber_told act a b h.acts

pub same_told : (holds : List Hold) (a b : State) → Follows holds a b → b.told ≡ a.told
same_told [] a b f = ap (λ (y : State). y.told) f
same_told (h ∷ hs) a b f = same_told hs f.0 b f.2 ∙ hold_told h a f.0 f.1

-- and what the pool has of its own
uber_store : (act : UberAct) (a b : State) → UberActs act a b → b.store ≡ a.store
uber_store LookedUber a b u = ap (λ (y : State). y.store) u
uber_store (Committed group) a b u = ap (λ (y : State). y.store) u.2
uber_store (CommitFailed group) a b u = ap (λ (y : State). y.store) u.2
uber_store (CommitStarved group) a b u = ap (λ (y : State). y.store) u.2
uber_store (NextLeaf next) a b u = ap (λ (y : State). y.store) u
uber_store (AsksVersion version) a b u = ap (λ (y : State). y.store) u

hold_store : (hold : Hold) (a b : State) → Holds hold a b → b.store ≡ a.store
hold_store (On v act) a b h = ap (λ (y : State). y.store) h.made
hold_store (OnUber u act) a b h = uber_store act a b h.acts

pub same_store : (holds : List Hold) (a b : State) → Follows holds a b → b.store ≡ a.store
same_store [] a b f = ap (λ (y : State). y.store) f
same_store (h ∷ hs) a b f = same_store hs f.0 b f.2 ∙ hold_store h a f.0 f.1
