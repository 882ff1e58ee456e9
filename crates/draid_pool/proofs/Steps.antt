-- What holds leave of a pool: its layout.
use Rattle.std.proofs.Common.{◌≡◌, ◌∙◌, [], ◌∷◌, ◌++◌, List, sym, ap, subst}
use Rattle.draid_rack.specs.declared.Rack as racks
use Rattle.draid_area.specs.declared.Area as areas
use Rattle.draid_spec.specs.declared.layout.Geometry.{Geometry}
use Rattle.draid_perm.specs.declared.perms.Perms.{Perms}
use Rattle.draid_session.specs.Follows.{Follows, Holds, UberActs}
use Rattle.draid_session.specs.Holds.{AsksVersion, Committed, CommitFailed, CommitStarved, Hold, LookedUber, NextLeaf, On, OnUber, UberAct}
use Rattle.draid_session.specs.State.{State, Store}
use Rattle.draid_pool.specs.Carries.{CarriesOut}
use Rattle.draid_pool.specs.Pools.{Represents}
use Rattle.draid_pool.specs.declared.pool.Pool.{Pool}

-- the layout, its permutations and what the thread has of its own are the same
pub record SameLayout (x y : State) : Type 0 where
  pub geometry : y.geometry ≡ x.geometry
  pub perms : y.perms ≡ x.perms
  pub store : y.store ≡ x.store

-- what is said of one in terms of these is so of the other
pub own_of : (x y : State) (P : Geometry → Perms → Store → Type 0) → SameLayout x y → P y.geometry y.perms y.store → P x.geometry x.perms x.store
own_of x y P s is = subst (λ g. P g x.perms x.store) s.geometry (subst (λ p. P y.geometry p x.store) s.perms (subst (λ t. P y.geometry y.perms t) s.store is))

by_uber : (act : UberAct) (x y : State) → UberActs act x y → SameLayout x y
by_uber LookedUber x y is = record { geometry = ap (λ (s : State). s.geometry) is; perms = ap (λ (s : State). s.perms) is; store = ap (λ (s : State). s.store) is }
by_uber (Committed group) x y is = record { geometry = ap (λ (s : State). s.geometry) is.2; perms = ap (λ (s : State). s.perms) is.2; store = ap (λ (s : State). s.store) is.2 }
by_uber (CommitFailed group) x y is = record { geometry = ap (λ (s : State). s.geometry) is.2; perms = ap (λ (s : State). s.perms) is.2; store = ap (λ (s : State). s.store) is.2 }
by_uber (CommitStarved group) x y is = record { geometry = ap (λ (s : State). s.geometry) is.2; perms = ap (λ (s : State). s.perms) is.2; store = ap (λ (s : State). s.store) is.2 }
by_uber (NextLeaf next) x y is = record { geometry = ap (λ (s : State). s.geometry) is; perms = ap (λ (s : State). s.perms) is; store = ap (λ (s : State). s.store) is }
by_uber (AsksVersion version) x y is = record { geometry = ap (λ (s : State). s.geometry) is; perms = ap (λ (s : State). s.perms) is; store = ap (λ (s : State). s.store) is }

by_hold : (hold : Hold) (x y : State) → Holds hold x y → SameLayout x y
by_hold (On v act) x y is = record { geometry = ap (λ (s : State). s.geometry) is.made; perms = ap (λ (s : State). s.perms) is.made; store = ap (λ (s : State). s.store) is.made }
by_hold (OnUber u act) x y is = by_uber act x y is.acts

pub same_layout : (holds : List Hold) (x y : State) → Follows holds x y → SameLayout x y
same_layout [] x y is = record { geometry = ap (λ (s : State). s.geometry) is; perms = ap (λ (s : State). s.perms) is; store = ap (λ (s : State). s.store) is }
same_layout (hold ∷ holds) x y is =
    let a = by_hold hold x is.0 is.1 in
    let b = same_layout holds is.0 y is.2 in
    record { geometry = b.geometry ∙ a.geometry; perms = b.perms ∙ a.perms; store = b.store ∙ a.store }

-- one thread's holds, and then more of them
pub follows_on : (front back : List Hold) (x y z : State) → Follows front x y → Follows back y z → Follows (front ++ back) x z
follows_on [] back x y z a b = subst (λ s. Follows back s z) a b
follows_on (hold ∷ front) back x y z a b = (a.0, a.1, follows_on front back a.0 y z a.2 b)

module _ {R A : Type 0} (rack : racks.Ghosts R) (area : areas.Ghosts A) where
  -- what was done is something else as well
  pub carries_so : (pool : Pool R A) (x : State) (does says : List Hold → Store → Type 0) → CarriesOut rack area pool x does → ((holds : List Hold) (store : Store) → does holds store → says holds store)
      → CarriesOut rack area pool x says
  carries_so pool x does says c how = record { holds = c.holds; reached = c.reached; store = c.store; follows = c.follows; done = how c.holds c.store c.done; represents = c.represents }

  -- a call that leaves what the thread has of its own
  pub settled : (new : Pool R A) (x : State) (does : List Hold → Store → Type 0) → (c : CarriesOut rack area new x does) → c.store ≡ x.store → Represents rack area new c.reached
  settled new x does c kept =
      subst (λ t. Represents rack area new (record c.reached { store = t })) (kept ∙ sym (same_layout c.holds x c.reached c.follows).store) c.represents

  pub carried : (new : Pool R A) (x : State) (holds : List Hold) (reached : State) (does : List Hold → Store → Type 0) → Follows holds x reached → Represents rack area new reached → does holds x.store
      → CarriesOut rack area new x does
  carried new x holds reached does follows is done = record {
    holds = holds;
    reached = reached;
    store = x.store;
    follows = follows;
    done = done;
    represents = subst (λ t. Represents rack area new (record reached { store = t })) (same_layout holds x reached follows).store is;
  }

pub follows_both : (front back : List Hold) (x y z : State) → Follows front x y → Follows back y z → Follows (front ++ back) x z
follows_both [] back x y z f b = subst (λ w. Follows back w z) f b
follows_both (hold ∷ front) back x y z f b = (f.0, f.1, follows_both front back f.0 y z f.2 b)

-- what an answer says, said otherwise
pub by_answer : {R A T : Type 0} (rack : racks.Ghosts R) (area : areas.Ghosts A) (P : T → List Hold → Store → Type 0) (Q : List Hold → Store → Type 0) (x : State) (pool : Pool R A) (result said : T)
    → result ≡ said → ((holds : List Hold) (store : Store) → P said holds store → Q holds store) → CarriesOut rack area pool x (P result) → CarriesOut rack area pool x Q
by_answer rack area P Q x pool result said is f c = record {
  holds = c.holds;
  reached = c.reached;
  store = c.store;
  follows = c.follows;
  done = f c.holds c.store (subst (λ r. P r c.holds c.store) is c.done);
  represents = c.represents;
}
