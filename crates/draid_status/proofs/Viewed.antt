-- What is told of the shards of a pool is told of the metaslabs of each state that it represents.
use Rattle.std.proofs.Common.{◌≡◌, ◌+◌, ◌<◌, ◌∙◌, ℕ, zero, suc, Bool, true, false, List, [], ◌∷◌, Option, Some, None, Contains, arith, refl, sym, ap, ap₂, subst, length, option_map}
use Rattle.std.specs.Prelude.{All, nat_eq, slice_get, slice_index_or, string_bytes}
use Rattle.std.specs.List.{AllZip}
use Rattle.std.proofs.lemmas.Option.{slice_get-get_or}
use Rattle.draid_names.specs.declared.pointer.Pointer.{Pointer}
use Rattle.draid_spec.specs.declared.layout.Geometry.{Geometry}
use Rattle.draid_rack.specs.declared.Rack as racks
use Rattle.draid_area.specs.declared.Area as areas
use Rattle.draid_machine.specs.declared.names.ArmName.{ArmName}
use Rattle.draid_machine.specs.declared.names.Held.{Held}
use Rattle.draid_machine.specs.declared.names.Stage.{Stage}
use Rattle.draid_machine.specs.declared.names.Stage.TheVariants.{Live}
use Rattle.draid_machine.specs.After.{keep_if, seal_arm}
use Rattle.draid_machine.specs.State as machine
use Rattle.draid_machine.proofs.Small.{none_some, some_injective}
use Rattle.draid_entries.specs.Entries.{entry_at}
use Rattle.draid_entries.specs.Maps.{held_at, key_of, staged}
use Rattle.draid_shard.specs.Part.{Part}
use Rattle.draid_shard.specs.declared.shard.Shard.{Shard}
use Rattle.draid_shard.proofs.Held.{held_entry, key_leads}
use Rattle.draid_shard.proofs.Tables.{first_is}
use Rattle.draid_report.specs.declared.view.MetaslabView.{MetaslabView}
use Rattle.draid_report.specs.declared.view.View.{View as PoolView}
use Rattle.draid_session.specs.Holds.{View, view_of}
use Rattle.draid_session.specs.Making.{vdev_name_of}
use Rattle.draid_session.specs.Opening.{HasObjects}
use Rattle.draid_session.specs.State.{Metaslab, State}
use Rattle.draid_session.specs.Status.{BeginsBlock, HasCount, IsFreeStripe, IsGreatestOpen, IsMetaslabView, IsPoolView, IsSlotView}
use Rattle.draid_views.specs.Views.{AreShown, AreSlotViews, IsLiveAt, IsShown, IsToldOf, ShowSameArms}
use Rattle.draid_views.proofs.Zips.{found_at, zip_long, zip_right}
use Rattle.draid_pool.specs.Importable.{HasArms, bare}
use Rattle.draid_pool.specs.Metaslabs.{IsMetaslab}
use Rattle.draid_pool.specs.Pools.{Represents, part_in}
use Rattle.draid_pool.specs.Views.{seen_at}
use Rattle.draid_status.specs.Views.{uber_view, views_of}
use Rattle.draid_pool.specs.Whole.{IsWhole}
use Rattle.draid_pool.specs.declared.pool.Pool.{Pool}

-- ---- counts

-- what is so just where another fact holds is counted as that is
count_as : (P Q : ℕ → Type 0) (n : ℕ) → ((k : ℕ) → P k → Q k) → ((k : ℕ) → Q k → P k) → HasCount P n → HasCount Q n
count_as P Q n to back c = record { test = c.test; is = λ k. (λ same. to k ((c.is k).0 same), λ q. (c.is k).1 (back k q)); count = c.count }

-- ---- looks

none_more : (m : ℕ) → m + 0 ≡ m
none_more m = omega arith

one_more : (m k : ℕ) → m + suc k ≡ m + 1 + k
one_more m k = omega arith

-- what is seen is a metaslab
seen_of : (m k : ℕ) (ys : List Metaslab) (v : View) → slice_get (seen_at m ys) k ≡ Some v → (y : Metaslab) × (slice_get ys k ≡ Some y) × (v ≡ view_of (m + k) y)
unfolding seen_at
seen_of m k [] v at = absurd (none_some (slice_get [] k) v refl at)
seen_of m zero (y ∷ ys) v at =
    let same : view_of m y ≡ v = some_injective (view_of m y) v at in
    (y, refl, sym same ∙ ap (λ (j : ℕ). view_of j y) (sym (none_more m)))
seen_of m (suc k) (y ∷ ys) v at = let z = seen_of (m + 1) k ys v at in (z.0, z.1, z.2 ∙ ap (λ (j : ℕ). view_of j z.0) (sym (one_more m k)))

shown_from : {R A : Type 0} (m : ℕ) (shards : List (Shard R A)) (ys : List Metaslab) → length shards ≡ length ys
    → ((k : ℕ) (shard : Shard R A) (y : Metaslab) → slice_get shards k ≡ Some shard → slice_get ys k ≡ Some y → IsShown shard (view_of 0 y)) → AreShown shards (seen_at m ys)
unfolding seen_at
shown_from m [] [] long each = tt
shown_from m [] (y ∷ ys) long each = absurd (omega (arith, long))
shown_from m (z ∷ zs) [] long each = absurd (omega (arith, long))
shown_from m (z ∷ zs) (y ∷ ys) long each = (each 0 z y refl refl, shown_from (m + 1) zs ys (omega (arith, long)) (λ k shard v a b. each (suc k) shard v a b))

-- ---- arms

-- a sealed arm is there as it was
sealed_there : (a : machine.Arm) → a.gone ≡ None → seal_arm (Some a) ≡ Some a
sealed_there a here = ap (λ (g : Option machine.Gone). keep_if (elim g as (λ o. Bool) [ None ↦ true | Some d ↦ false ]) a) here

offline_same : (v u arms : machine.Core) (name : ArmName) (a b : machine.Arm) → option_map bare (seal_arm (v.arm name)) ≡ option_map bare (arms.arm name) → option_map bare (seal_arm (u.arm name)) ≡ option_map bare (arms.arm name)
    → v.arm name ≡ Some a → u.arm name ≡ Some b → a.gone ≡ None → b.gone ≡ None → a.offline ≡ b.offline
offline_same v u arms name a b first second at there here too =
    let x : Some (bare a) ≡ option_map bare (arms.arm name) = ap (option_map bare) (sym (ap seal_arm at ∙ sealed_there a here)) ∙ first in
    let y : Some (bare b) ≡ option_map bare (arms.arm name) = ap (option_map bare) (sym (ap seal_arm there ∙ sealed_there b too)) ∙ second in
    ap (λ (c : machine.Arm). c.offline) (some_injective (bare a) (bare b) (x ∙ sym y))

module _ {R A : Type 0} (rack : racks.Ghosts R) (area : areas.Ghosts A) (pool : Pool R A) (x : State) (is : Represents rack area pool x) where
  -- ---- the pool's shards

  pub pool_shown : AreShown pool.metaslabs.shards.items (views_of x)
  pool_shown = shown_from 0 pool.metaslabs.shards.items x.metaslabs is.stands.shards (λ k shard y a b. (is.stands.each k shard y a b).stands.is_in)

  pub same_arms : ShowSameArms (views_of x)
  same_arms = record {
    order = λ v u c d slot. (has v c).order slot ∙ sym ((has u d).order slot);
    offline = λ v u c d name a b at there here too. offline_same v.world.core u.world.core is.stands.shared.arms name a b ((has v c).now name) ((has u d).now name) at there here too;
  }
    where
      has : (v : View) → Contains (views_of x) v → HasArms is.stands.shared v.world
      has v c =
          let z = found_at (views_of x) v c in
          let s = seen_of 0 z.0 x.metaslabs v z.1 in
          subst (λ (w : machine.State). HasArms is.stands.shared w) (sym (ap (λ (u : View). u.world) s.2)) (is.stands.alike z.0 s.0 s.1).same

  -- ---- blocks

  module _ (m : ℕ) (shard : Shard R A) (y : Metaslab) (here : slice_get pool.metaslabs.shards.items m ≡ Some shard) (there : slice_get x.metaslabs m ≡ Some y) where
    its : IsMetaslab rack area (part_in x m) (is.stands.pieces m) shard y
    its = is.stands.each m shard y here there

    -- a live block is one of the metaslab
    live_of : (pointer : Pointer) (at : ℕ) → entry_at shard.entries at ≡ Some (staged Live pointer) → BeginsBlock (view_of m y) at
    live_of pointer at entered = record {
      key = key_of pointer;
      held = held_at (staged Live pointer);
      there = its.stands.is_in.held (key_of pointer) ∙ key_leads shard.entries at (staged Live pointer) entered;
      live = refl;
      first = first_is shard.entries at (staged Live pointer) entered;
    }

    live_at : (at : ℕ) → BeginsBlock (view_of m y) at → IsLiveAt shard at
    live_at at b =
        let z = held_entry shard.entries b.key b.held (sym (its.stands.is_in.held b.key) ∙ b.there) in
        let live : z.e.stage ≡ Live = ap (λ (h : Held). h.stage) z.held_is ∙ b.live in
        record {
          pointer = z.e.pointer;
          there = ap (entry_at shard.entries) (sym b.first) ∙ subst (λ (s : Stage). entry_at shard.entries b.held.first ≡ Some (staged s z.e.pointer)) live z.there;
        }

    pub metaslab_told : (it : MetaslabView) → IsToldOf shard it → IsMetaslabView x.geometry x.perms (view_of m y) it
    metaslab_told it told = record {
      free = subst (λ (p : Part). HasCount (IsFreeStripe p.geometry p.perms (view_of m y)) it.free) its.part_is (told.free (view_of m y) its.stands.is_in);
      blocks = count_as (IsLiveAt shard) (BeginsBlock (view_of m y)) it.blocks (λ at p. live_of p.pointer at p.there) live_at told.blocks;
      pass = told.pass (view_of m y) its.stands.is_in;
    }

  -- ---- the pool

  pub metaslabs_told : (views : List MetaslabView) → AllZip IsToldOf pool.metaslabs.shards.items views → (m : ℕ) (v : View) (it : MetaslabView) → slice_get (views_of x) m ≡ Some v → slice_get views m ≡ Some it
      → IsMetaslabView x.geometry x.perms v it
  metaslabs_told views told m v it at there =
      let y = seen_of 0 m x.metaslabs v at in
      let s = zip_right IsToldOf pool.metaslabs.shards.items views told m it there in
      let plain : 0 + m ≡ m = omega arith in
      subst (λ (u : View). IsMetaslabView x.geometry x.perms u it) (sym (y.2 ∙ ap (λ (j : ℕ). view_of j y.0) plain)) (metaslab_told m s.0 y.0 s.1 y.1 it s.2)

  pub many_told : (views : List MetaslabView) → AllZip IsToldOf pool.metaslabs.shards.items views → length views ≡ length (views_of x)
  many_told views told = zip_long IsToldOf pool.metaslabs.shards.items views told ∙ sym (zip_long IsShown pool.metaslabs.shards.items (views_of x) pool_shown)

  -- what is told of a pool, by what is told of its shards
  pub pool_told : (shards : List (Shard R A)) → shards ≡ pool.metaslabs.shards.items → (view : PoolView) → string_bytes view.name ≡ vdev_name_of pool.geometry.spec → view.group ≡ x.committed
      → ((views : List View) → AreShown shards views → IsGreatestOpen views view.open_group) → HasObjects x.store.changes view.objects → length view.slots.items ≡ pool.geometry.spec.children
      → AreSlotViews pool.geometry shards view.slots.items → AllZip IsToldOf shards view.metaslabs.items → IsPoolView x.geometry x.perms x.store (uber_view x) (views_of x) view
  pool_told shards same view name group last objects many slots told = record {
    name = name ∙ ap (λ (g : Geometry). vdev_name_of g.spec) laid;
    group = group;
    last_group = last (views_of x) shown;
    objects = objects;
    many_slots = many ∙ ap (λ (g : Geometry). g.spec.children) laid;
    slots = λ slot arms at. subst (λ (g : Geometry). IsSlotView g x.perms (views_of x) slot arms.items) laid (slots x.perms (views_of x) shown same_arms slot arms at);
    many = many_told view.metaslabs.items here;
    metaslabs = λ m v it at there. metaslabs_told view.metaslabs.items here m v it at there;
  }
    where
      laid : pool.geometry ≡ x.geometry
      laid = sym is.stands.geometry

      shown : AreShown shards (views_of x)
      shown = subst (λ (xs : List (Shard R A)). AreShown xs (views_of x)) (sym same) pool_shown

      here : AllZip IsToldOf pool.metaslabs.shards.items view.metaslabs.items
      here = subst (λ (xs : List (Shard R A)). AllZip IsToldOf xs view.metaslabs.items) same told

-- each shard has the pool's layout
pub all_laid : {R A : Type 0} (rack : racks.Ghosts R) (area : areas.Ghosts A) (pool : Pool R A) → IsWhole rack area pool → All (λ (shard : Shard R A). shard.geometry ≡ pool.geometry) pool.metaslabs.shards.items
all_laid rack area pool w k d below = ap (λ (p : Part). p.geometry) (w.shards k (slice_index_or pool.metaslabs.shards.items k d) (slice_get-get_or pool.metaslabs.shards.items k d below)).part

pub some_shards : {R A : Type 0} (rack : racks.Ghosts R) (area : areas.Ghosts A) (pool : Pool R A) → IsWhole rack area pool → 0 < length pool.metaslabs.shards.items
some_shards rack area pool w = let many = w.many in let some = w.layout.geometry_is.props.some_metaslabs in omega (arith, many, some)
