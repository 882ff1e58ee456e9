-- Pools that are as they were.
use Rattle.std.proofs.Common.{◌≡◌, ◌∙◌, ◌++◌, ◌∷◌, ◌<◌, arith, ℕ, zero, suc, List, [], Some, length, max, take, sym, ap, subst, refl}
use Rattle.std.specs.Prelude.{slice_get, nat_eq}
use Rattle.std.specs.HashMap.{get}
use Rattle.std.specs.declared.vec.Vec.{Vec}
use Rattle.std.specs.declared.alloc.Global.{Global}
use Rattle.std.proofs.lemmas.List.{length-map}
use Rattle.std.proofs.lemmas.Option.{slice_get_within}
use Rattle.draid_names.specs.declared.pointer.Pointer.{Pointer}
use Rattle.draid_rack.specs.declared.Rack as racks
use Rattle.draid_area.specs.declared.Area as areas
use Rattle.draid_spec.specs.declared.layout.Geometry.{Geometry}
use Rattle.draid_map.specs.Place.{IsLayout}
use Rattle.draid_shard.specs.declared.shard.Shard.{Shard}
use Rattle.draid_turn.specs.Calls.{Caller, Lock}
use Rattle.draid_turn.specs.declared.past.Past.{Past}
use Rattle.draid_turn.specs.declared.span.Span.{Span}
use Rattle.draid_uber.specs.Slots.{group_of}
use Rattle.draid_uber.specs.Uber as ubers
use Rattle.draid_uber.specs.declared.uber.Uber.{Uber}
use Rattle.draid_pool.specs.Whole.{IsPointer, IsShardOf, IsWhole, PointFits}
use Rattle.draid_pool.specs.declared.cell.Cell.{Cell}
use Rattle.draid_pool.specs.declared.own.Own.{Own}
use Rattle.draid_pool.specs.declared.pool.Pool.{Pool}
use Rattle.draid_pool.proofs.Lists.{present, some_of}
use Rattle.draid_section.specs.Opening.{AreLocked, shard_under, shards_under}
use Rattle.draid_tables.specs.Owns.{TakesAll, greatest}
use Rattle.draid_pool.specs.Keeping.{SamePool}
use Rattle.draid_section.specs.Section.{IsMadeOf, SameOwn}
use Rattle.draid_section.specs.Whole.{pointer_in}
use Rattle.draid_section.proofs.Beginning.{first_of}
use Rattle.draid_section.proofs.Kept.{get_map, list_same}
use Rattle.draid_pool.proofs.Nears.{near_kept}
use Rattle.draid_pool.proofs.Wholes.{fits_on}

pub take_front : {X : Type 0} (n : ℕ) (xs ys : List X) → n ≡ length xs → take n (xs ++ ys) ≡ xs
take_front zero [] ys is = refl
take_front (suc n) [] ys is = absurd (omega (arith, is))
take_front zero (x ∷ xs) ys is = absurd (omega (arith, is))
take_front (suc n) (x ∷ xs) ys is = ap (λ l. x ∷ l) (take_front n xs ys (omega (arith, is)))

-- the greatest number is that behind another of the same numbers
greatest_same : (f : Own → ℕ) (a b : Own) (list : List Own) → f a ≡ f b → greatest f a list ≡ greatest f b list
greatest_same f a b [] same = same
greatest_same f a b (x ∷ list) same = ap (max (f x)) (greatest_same f a b list same)

pub takes_same : (numbers : List (Vec Span Global)) (owns : List Own) (first own new : Own) → SameOwn first own → TakesAll numbers owns own new → TakesAll numbers owns first new
takes_same numbers owns first own new same takes = record {
  taken = takes.taken;
  others = λ object none. takes.others object none ∙ same.objects object;
  seq = takes.seq ∙ greatest_same (λ (o : Own). o.seq) own first owns same.seq;
  floor = takes.floor ∙ greatest_same (λ (o : Own). o.floor) own first owns same.floor;
}

module _ {R A : Type 0} where
  -- the metaslabs under their locks are those that were put there
  pub under_locked : (shards : List (Shard R A)) (locks : List (Lock (Cell R A))) (firsts : List (Caller (Past (Cell R A)))) → AreLocked shards locks firsts → shards_under locks ≡ shards
  under_locked shards locks firsts locked = list_same (shards_under locks) shards (length-map locks shard_under ∙ locked.many) (λ m shard at.
      let inside = slice_get_within (shards_under locks) m shard at in
      let long = length-map locks shard_under in
      let lock = present locks m (omega (arith, inside, long)) in
      first_of shards locks firsts locked m lock.0 lock.1 ∙ ap Some (some_of (slice_get (shards_under locks) m) (shard_under lock.0) shard (get_map shard_under locks m lock.0 lock.1) at))

  module _ (pool new : Pool R A) where
    pub made_same : (geometry : Geometry) (shards : Vec (Shard R A) Global) (uber : Uber A) (own : Own) → IsMadeOf geometry shards uber own new → geometry ≡ pool.geometry → shards.items ≡ pool.metaslabs.shards.items → uber ≡ pool.uber → SameOwn pool.own own → SamePool pool new
    made_same geometry shards uber own made same_geometry same_shards same_uber same = record {
      geometry = made.geometry_is ∙ same_geometry;
      metaslabs = ap (λ (v : Vec (Shard R A) Global). v.items) made.shards_are ∙ same_shards;
      uber = made.uber_is ∙ same_uber;
      objects = λ object. ap (λ (o : Own). get nat_eq o.objects object) made.own_is ∙ same.objects object;
      seq = ap (λ (o : Own). o.seq) made.own_is ∙ same.seq;
      floor = ap (λ (o : Own). o.floor) made.own_is ∙ same.floor;
    }

    -- what is as it was is whole
    module _ (rack : racks.Ghosts R) (area : areas.Ghosts A) (w : IsWhole rack area pool) (s : SamePool pool new) where
      was_at : (m : ℕ) (shard : Shard R A) → slice_get new.metaslabs.shards.items m ≡ Some shard → slice_get pool.metaslabs.shards.items m ≡ Some shard
      was_at m shard at = ap (λ l. slice_get l m) (sym s.metaslabs) ∙ at

      shard_same : (m : ℕ) (shard : Shard R A) → slice_get new.metaslabs.shards.items m ≡ Some shard → IsShardOf rack w.perms new m shard
      shard_same m shard at = (let is = w.shards m shard (was_at m shard at) in record {
        valid = is.valid;
        part = is.part ∙ ap (λ (x : Geometry). record { geometry = x; perms = w.perms; number = m }) (sym s.geometry);
        numbered = λ key h there. (let low = is.numbered key h there in let same = s.seq in omega (arith, low, same));
        settled = is.settled;
        committed = is.committed ∙ ap (λ (u : Uber A). group_of (ubers.kept_of u)) (sym s.uber);
        leaves = λ leaf leaf_is. subst (λ (u : Uber A). leaf < ubers.next_leaf_of u) (sym s.uber) (is.leaves leaf leaf_is);
      })

      pointer_same : (object : ℕ) (pointer : Pointer) → pointer_in new object ≡ Some pointer → IsPointer new object pointer
      pointer_same object pointer at = (let is = w.objects object pointer (sym (s.objects object) ∙ at) in record {
        object_is = is.object_is;
        shard = is.shard;
        there = ap (λ l. slice_get l pointer.metaslab) s.metaslabs ∙ is.there;
        live = is.live;
      })

      pub whole_same : IsWhole rack area new
      whole_same = record {
        perms = w.perms;
        layout = subst (λ (x : Geometry). IsLayout x w.perms) (sym s.geometry) w.layout;
        many = ap length s.metaslabs ∙ (w.many ∙ ap (λ (x : Geometry). x.props.metaslabs) (sym s.geometry));
        shards = shard_same;
        alike = λ m n a b at there. w.alike m n a b (was_at m a at) (was_at n b there);
        uber = subst (λ (u : Uber A). ubers.Valid area.size u) (sym s.uber) w.uber;
        uber_layout = subst (λ (z : Uber A × Geometry). ubers.layout_in (ubers.layout_of z.0) z.1.props.version ≡ z.1) (λ k. (sym s.uber k, sym s.geometry k)) w.uber_layout;
        objects = pointer_same;
        floor = (let near = w.floor in let same = s.floor in let is = ap (λ (u : Uber A). group_of (ubers.kept_of u)) s.uber in omega (arith, near, same, is));
        low = (let low = w.low in let same = s.floor in omega (arith, low, same));
        near = near_kept pool.own.floor new.own.floor (slice_get pool.metaslabs.shards.items) (slice_get new.metaslabs.shards.items) (let same = s.floor in omega (arith, same)) (λ m shard at. (shard, ap (λ l. slice_get l m) s.metaslabs ∙ at, omega arith)) w.near;
        point = subst (λ (u : Uber A). PointFits 0 (ubers.point_of u) (pointer_in new) new.own.seq) (sym s.uber)
            (fits_on 0 (ubers.point_of pool.uber) (pointer_in pool) (pointer_in new) pool.own.seq new.own.seq (let same = s.seq in omega (arith, same)) (λ object pointer at. sym (s.objects object) ∙ at) w.point);
        behind = λ own m shard is at. w.behind own m shard (ap (λ (u : Uber A). (ubers.point_of u).group) (sym s.uber) ∙ is) (was_at m shard at);
      }
