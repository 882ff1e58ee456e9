-- Where no others come between, holds follow one another.
use Rattle.std.proofs.Common.{◌≡◌, ◌∙◌, ◌++◌, ℕ, Bool, false, List, [], ◌∷◌, Option, Some, refl, sym, ap, subst}
use Rattle.draid_names.specs.declared.pointer.Pointer.{Pointer}
use Rattle.draid_rack.specs.declared.Rack as racks
use Rattle.draid_area.specs.declared.Area as areas
use Rattle.draid_session.specs.Follows.{Follows, HoldsMetaslab, HoldsUber}
use Rattle.draid_session.specs.Holds.{Act, Hold, On, OnUber, View}
use Rattle.draid_session.specs.State.{Metaslab, State, Store}
use Rattle.draid_pool.specs.Pools.{part_in}
use Rattle.draid_pool.specs.Follows.{FollowsBy, HeldAt}
use Rattle.draid_pool.specs.Threads.{Between, CarriesBy}
use Rattle.draid_shard.specs.declared.shard.Shard.{Shard}

module _ {S : Type 0} (between : S → ℕ → Metaslab → Metaslab → Metaslab → S → Type 0) (uber : S → State → State → S → Type 0)
    (none : (a : S) (m : ℕ) (old found left : Metaslab) (b : S) → between a m old found left b → found ≡ old) (still : (a : S) (x y : State) (b : S) → uber a x y b → y ≡ x) where
  held_alone : (a : S) (v : View) (act : Act) (x : State) (b : S) (y : State) → HeldAt between uber a v act x b y → HoldsMetaslab v act x y
  held_alone a v act x b y h =
      let same = none a v.metaslab h.old h.found h.left b h.goes in
      record {
        before = h.found;
        after = h.left;
        there = h.there ∙ ap Some (sym same);
        sees = h.sees;
        acts = h.acts;
        made = h.made;
      }

  pub follows_alone : (holds : List Hold) (a : S) (x : State) (b : S) (y : State) → FollowsBy between uber a holds x b y → Follows holds x y
  follows_alone [] a x b y f = f.1
  follows_alone (On v act ∷ holds) a x b y f = (f.1, held_alone a v act x f.0 f.1 f.2, follows_alone holds f.0 f.1 b y f.3)
  follows_alone (OnUber u act ∷ holds) a x b y f =
      (f.2, subst (λ s. HoldsUber u act s f.2) (still a x f.1 f.0 f.3) f.4, follows_alone holds f.0 f.2 b y f.5)

-- those of two commands, one after the other
module _ {S : Type 0} (between : S → ℕ → Metaslab → Metaslab → Metaslab → S → Type 0) (uber : S → State → State → S → Type 0) where
  pub follows_join : (front back : List Hold) (a : S) (x : State) (b : S) (y : State) (c : S) (z : State) → FollowsBy between uber a front x b y → FollowsBy between uber b back y c z → FollowsBy between uber a (front ++ back) x c z
  follows_join [] back a x b y c z f g = subst (λ s. FollowsBy between uber s back x c z) f.0 (subst (λ t. FollowsBy between uber b back t c z) f.1 g)
  follows_join (On v act ∷ front) back a x b y c z f g = (f.0, f.1, f.2, follows_join front back f.0 f.1 b y c z f.3 g)
  follows_join (OnUber u act ∷ front) back a x b y c z f g = (f.0, f.1, f.2, f.3, f.4, follows_join front back f.0 f.2 b y c z f.5 g)

-- a command where nobody else comes between
pub carries_alone : {R A S : Type 0} (rack : racks.Ghosts R) (area : areas.Ghosts A) (went : S → ℕ → Shard R A → Shard R A → S → Type 0) (owns : ℕ → Bool) (last : ℕ → Option (Shard R A)) (table : ℕ → Option Pointer) (seq floor : ℕ) (a b : S)
    (x : State) (does : List Hold → Store → Type 0) → (c : CarriesBy rack area went false owns last table seq floor a b x does) → Follows c.holds x c.reached
carries_alone rack area went owns last table seq floor a b x does c =
    follows_alone (Between rack area went false (part_in x)) (λ s t u v. ⊥) (λ s m old found left t g. g.alone refl) (λ s t u v is. absurd is) c.holds a x b c.reached c.follows
