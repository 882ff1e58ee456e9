-- Looks at the end of a command, where no others come between.
use Rattle.std.proofs.Common.{◌≡◌, ◌≤◌, ◌++◌, ◌∙◌, ℕ, false, List, [], ◌∷◌, refl, sym, ap, subst, slice_set}
use Rattle.draid_rack.specs.declared.Rack as racks
use Rattle.draid_area.specs.declared.Area as areas
use Rattle.draid_shard.specs.declared.shard.Shard.{Shard}
use Rattle.draid_session.specs.Follows.{Follows}
use Rattle.draid_session.specs.Holds.{Act, Hold, Looked, On, OnUber, View}
use Rattle.draid_session.specs.Looks.{OnlyLooks}
use Rattle.draid_session.specs.State.{Metaslab, State, Store}
use Rattle.draid_pool.specs.Carries.{CarriesOut}
use Rattle.draid_pool.specs.Follows.{FollowsBy}
use Rattle.draid_pool.specs.Pools.{Represents, part_in}
use Rattle.draid_pool.specs.Threads.{Between, CarriesBy, Knows}
use Rattle.draid_pool.specs.Whole.{IsWhole}
use Rattle.draid_pool.specs.declared.pool.Pool.{Pool}
use Rattle.draid_pool.proofs.Alone.{carries_alone, follows_alone}
use Rattle.draid_pool.proofs.Lists.{set_back}
use Rattle.draid_pool.proofs.OwnedKnows.{all, left_in, table_in}
use Rattle.draid_pool.proofs.OwnedStands.{AllRest, ArePlain, follows_rest, stands_left}
use Rattle.draid_store.specs.Fetching.{ButLooks}

module _ {S : Type 0} (between : S → ℕ → Metaslab → Metaslab → Metaslab → S → Type 0) (none : (a : S) (m : ℕ) (old found left : Metaslab) (b : S) → between a m old found left b → found ≡ old) where
  abbrev By : S → List Hold → State → S → State → Type 0
  By a holds x b y = FollowsBy between (λ s t u v. ⊥) a holds x b y

  looked_at : (v w : View) (act : Act) → On v act ≡ On w Looked → act ≡ Looked
  looked_at v w act is = cc

  looks_rest : (holds : List Hold) (a : S) (x : State) (b : S) (y : State) → OnlyLooks holds → By a holds x b y → y ≡ x
  looks_rest [] a x b y looks f = f.1
  looks_rest (OnUber u act ∷ holds) a x b y looks f = absurd f.3
  looks_rest (On v act ∷ holds) a x b y looks f =
      let h = f.2 in
      let same : h.left ≡ h.old = h.still (looked_at v looks.0.0 act looks.0.1) ∙ none a v.metaslab h.old h.found h.left f.0 h.goes in
      let here : f.1 ≡ x = h.made ∙ ap (λ ms. record x { metaslabs = ms }) (ap (slice_set x.metaslabs v.metaslab) same ∙ set_back x.metaslabs v.metaslab h.old h.there) in
      looks_rest holds f.0 f.1 b y looks.1 f.3 ∙ here

  split : (front back : List Hold) (a : S) (x : State) (b : S) (y : State) → By a (front ++ back) x b y → (c : S) × (mid : State) × By a front x c mid × By c back mid b y
  split [] back a x b y f = (a, x, (refl, refl), f)
  split (OnUber u act ∷ front) back a x b y f = absurd f.3
  split (On v act ∷ front) back a x b y f = (let z = split front back f.0 f.1 b y f.3 in (z.0, z.1, (f.0, f.1, f.2, z.2), z.3))

  pub unlooked : (front back : List Hold) (a : S) (x : State) (b : S) (y : State) → OnlyLooks back → By a (front ++ back) x b y → Follows front x y
  unlooked front back a x b y looks f =
      let z = split front back a x b y f in
      let same : y ≡ z.1 = looks_rest back z.0 z.1 b y looks z.3 in
      subst (Follows front x) (sym same) (follows_alone between (λ s t u v. ⊥) none (λ s t u v is. absurd is) front a x z.0 z.1 z.2)

module _ {R A : Type 0} (rack : racks.Ghosts R) (area : areas.Ghosts A) (pool new : Pool R A) (x : State) (r : Represents rack area pool x) (geometry : new.geometry ≡ pool.geometry) (uber : new.uber ≡ pool.uber) (w : IsWhole rack area new) where
  -- a command of the only thread is one of the pool, without its looks at the end
  pub carries_but : {S : Type 0} (went : S → ℕ → Shard R A → Shard R A → S → Type 0) (a b : S) (does : List Hold → Store → Type 0) → ((holds : List Hold) (store : Store) → ButLooks does holds store → ArePlain holds × (store.marks ≡ x.store.marks) × (x.store.floor ≤ store.floor))
      → CarriesBy rack area went false all (left_in new) (table_in new) new.own.seq new.own.floor a b x (ButLooks does) → CarriesOut rack area new x does
  carries_but went a b does plain c = record {
    holds = c.done.front;
    reached = c.reached;
    store = c.store;
    follows = unlooked (Between rack area went false (part_in x)) (λ s m old found left t g. g.alone refl) c.done.front c.done.back a x b c.reached c.done.looks
        (subst (λ hs. FollowsBy (Between rack area went false (part_in x)) (λ s t u v. ⊥) a hs x b c.reached) c.done.are c.follows);
    done = c.done.did;
    represents = subst (λ (y : State). Represents rack area new (record y { store = c.store })) (sym rest.rest)
        (stands_left rack area pool new x r geometry uber w c.reached.metaslabs c.store rest.many rest.each
        (subst (λ (y : State). Knows rack area all (left_in new) (table_in new) new.own.seq new.own.floor (record y { store = c.store })) rest.rest c.knows) told.1 told.2);
  }
    where
      told : ArePlain c.holds × (c.store.marks ≡ x.store.marks) × (x.store.floor ≤ c.store.floor)
      told = plain c.holds c.store c.done

      rest : AllRest x c.reached
      rest = follows_rest c.holds x c.reached (carries_alone rack area went all (left_in new) (table_in new) new.own.seq new.own.floor a b x (ButLooks does) c) told.0
