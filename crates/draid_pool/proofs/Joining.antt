-- What one thread does, one thing after another.
use Rattle.std.proofs.Common.{◌≡◌, ◌++◌, ◌∙◌, ℕ, Bool, List, [], ◌∷◌, refl, ap, subst}
use Rattle.draid_rack.specs.declared.Rack as racks
use Rattle.draid_area.specs.declared.Area as areas
use Rattle.draid_shard.specs.Part.{Part}
use Rattle.draid_session.specs.Holds.{Hold, On, OnUber}
use Rattle.draid_session.specs.State.{Metaslab, State, Store}
use Rattle.draid_pool.specs.Pools.{part_in}
use Rattle.draid_pool.specs.Follows.{FollowsBy}
use Rattle.draid_pool.specs.Threads.{Between, LeadsBy}
use Rattle.draid_shard.specs.declared.shard.Shard.{Shard}
use Rattle.draid_pool.proofs.Alone.{follows_join}

module _ {S : Type 0} (between : S → ℕ → Metaslab → Metaslab → Metaslab → S → Type 0) where
  abbrev By : S → List Hold → State → S → State → Type 0
  By a holds x b y = FollowsBy between (λ s t u v. ⊥) a holds x b y

  -- holds of metaslabs leave the layout, and a thread's own
  pub same_layout : (holds : List Hold) (a : S) (x : State) (b : S) (y : State) → By a holds x b y → (y.geometry ≡ x.geometry) × (y.perms ≡ x.perms)
  same_layout [] a x b y f = (ap (λ (s : State). s.geometry) f.1, ap (λ (s : State). s.perms) f.1)
  same_layout (OnUber u act ∷ holds) a x b y f = absurd f.3
  same_layout (On v act ∷ holds) a x b y f =
      let rest = same_layout holds f.0 f.1 b y f.3 in
      (rest.0 ∙ ap (λ (s : State). s.geometry) f.2.made, rest.1 ∙ ap (λ (s : State). s.perms) f.2.made)

  -- whatever that has of its own
  pub by_store : (holds : List Hold) (a : S) (x : State) (b : S) (y : State) (store : Store) → By a holds x b y → By a holds (record x { store = store }) b (record y { store = store })
  by_store [] a x b y store f = (f.0, ap (λ (s : State). record s { store = store }) f.1)
  by_store (OnUber u act ∷ holds) a x b y store f = absurd f.3
  by_store (On v act ∷ holds) a x b y store f = (
    f.0,
    record f.1 { store = store },
    record {
      old = f.2.old;
      found = f.2.found;
      left = f.2.left;
      there = f.2.there;
      sees = f.2.sees;
      acts = f.2.acts;
      still = f.2.still;
      goes = f.2.goes;
      made = ap (λ (s : State). record s { store = store }) f.2.made;
    },
    by_store holds f.0 f.1 b y store f.3,
  )

module _ {R A S : Type 0} (rack : racks.Ghosts R) (area : areas.Ghosts A) (went : S → ℕ → Shard R A → Shard R A → S → Type 0) (shared : Bool) (a b c : S) (x : State)
    (does : List Hold → Store → Type 0) (known : State → Type 0) (then_does : List Hold → Store → Type 0) (then_known : State → Type 0) where
  -- the one and then the other
  pub record Both (holds : List Hold) (store : Store) : Type 0 where
    pub front : List Hold
    pub back : List Hold
    pub mid : Store
    pub are : holds ≡ front ++ back
    pub first : does front mid
    pub second : then_does back store

  pub leads_then : LeadsBy rack area went shared a b x does known
      → ((y : State) → y.geometry ≡ x.geometry → y.perms ≡ x.perms → (front : List Hold) → does front y.store → known y → LeadsBy rack area went shared b c y then_does then_known)
      → LeadsBy rack area went shared a c x Both then_known
  leads_then one next = record {
    holds = one.holds ++ two.holds;
    reached = record two.reached { store = one.reached.store };
    store = two.store;
    follows = follows_join (Between rack area went shared (part_in x)) (λ s t u v. ⊥) one.holds two.holds a x b one.reached c (record two.reached { store = one.reached.store }) one.follows
        (by_store (Between rack area went shared (part_in x)) two.holds b between c two.reached one.reached.store
        (subst (λ (part : ℕ → Part). FollowsBy (Between rack area went shared part) (λ s t u v. ⊥) b two.holds between c two.reached) (λ i. λ m. record { geometry = layout.0 i; perms = layout.1 i; number = m }) two.follows));
    done = record { front = one.holds; back = two.holds; mid = one.store; are = refl; first = one.done; second = two.done };
    knows = two.knows;
  }
    where
      layout : (one.reached.geometry ≡ x.geometry) × (one.reached.perms ≡ x.perms)
      layout = same_layout (Between rack area went shared (part_in x)) one.holds a x b one.reached one.follows

      between : State
      between = record one.reached { store = one.store }

      two : LeadsBy rack area went shared b c between then_does then_known
      two = next between layout.0 layout.1 one.holds one.done one.knows

module _ {R A S : Type 0} (rack : racks.Ghosts R) (area : areas.Ghosts A) (went : S → ℕ → Shard R A → Shard R A → S → Type 0) (shared : Bool) where
  -- what is done by other words
  pub leads_as : (a b : S) (x : State) (does said : List Hold → Store → Type 0) (known : State → Type 0) → ((holds : List Hold) (store : Store) → does holds store → said holds store) → LeadsBy rack area went shared a b x does known → LeadsBy rack area went shared a b x said known
  leads_as a b x does said known f one = record { holds = one.holds; reached = one.reached; store = one.store; follows = one.follows; done = f one.holds one.store one.done; knows = one.knows }
