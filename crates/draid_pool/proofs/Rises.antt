-- Counts of failed calls on the areas of a pool: none falls, and one rises.
use Rattle.std.proofs.Common.{◌≡◌, ◌==◌, ◌%◌, ◌≤◌, ◌∙◌, inl, inr, ℕ, Bool, true, false, Some, arith, refl, sym, ap, length, if◌then◌else◌, ◌<◌, Err}
use Rattle.std.specs.Prelude.{slice_get, IsErrOf}
use Rattle.std.proofs.lemmas.List.{length-set}
use Rattle.std.proofs.lemmas.Option.{slice_get_within}
use Rattle.draid_names.specs.Faults.{Rose}
use Rattle.draid_rack.specs.declared.Rack as racks
use Rattle.draid_area.specs.declared.Area as areas
use Rattle.draid_pool.specs.Groups as sealing
use Rattle.draid_pool.specs.Groups.{area_in}
use Rattle.draid_shard.specs.Calls.{SameAreas}
use Rattle.draid_shard.specs.declared.shard.Shard.{Shard}
use Rattle.draid_uber.specs.Uber.{count_of}
use Rattle.draid_pool.specs.Failing.{AreaFails, AreaRose, AreasLater, RecordsRose}
use Rattle.draid_pool.specs.Syncing.{CommitsBelow}
use Rattle.draid_pool.specs.declared.pool.Pool.{Pool}
use Rattle.draid_pool.proofs.Keeping.{each_committed, each_on, each_same, each_set}
use Rattle.draid_pool.proofs.Lifted.{SetsShard}
use Rattle.draid_pool.proofs.Lists.{get_set_same, present}
use Rattle.draid_pool.specs.declared.fault.SyncFault.{SyncFault}

-- a count that rose isn't 0
pub rose_some : (before now : ℕ) → Rose before now → 0 < now
rose_some before now rose = omega (arith, rose)

-- a refusal with another kind of answer
pub err_on : (T U : Type 0) (f g : SyncFault) → IsErrOf {T = T} (Err f) g → IsErrOf {T = U} (Err f) g
err_on T U f g is = (let same : f ≡ g = cc in ap Err same)

-- ---- counts

-- no count fell, and then it rose: it rose since the first
rose_behind : (a b c : ℕ) → a ≤ b → Rose b c → Rose a c
rose_behind a b c later rose = omega (arith, later, rose)

-- ---- the areas of a metaslab's records

module _ {R A : Type 0} (faults : A → ℕ) where
  pub records_same : (old new : Shard R A) → SameAreas old new → sealing.AreasLater faults old new
  records_same old new same = record {
    even = (let is = ap faults same.even in omega (arith, is));
    odd = (let is = ap faults same.odd in omega (arith, is));
  }

  -- as it was
  pub records_as : (old new : Shard R A) → new ≡ old → sealing.AreasLater faults old new
  records_as old new same = records_same old new (record { even = ap (λ (s : Shard R A). s.even) same; odd = ap (λ (s : Shard R A). s.odd) same })

  pub records_still : (shard : Shard R A) → sealing.AreasLater faults shard shard
  records_still shard = record { even = omega arith; odd = omega arith }

  pub records_on : (old mid new : Shard R A) → sealing.AreasLater faults old mid → sealing.AreasLater faults mid new → sealing.AreasLater faults old new
  records_on old mid new first second = record {
    even = (let a = first.even in let b = second.even in omega (arith, a, b));
    odd = (let a = first.odd in let b = second.odd in omega (arith, a, b));
  }

  -- the area of a group is one of the two
  pub records_rose : (old new : Shard R A) (group : ℕ) → Rose (faults (area_in old group)) (faults (area_in new group)) → RecordsRose faults old new
  records_rose old new group = by (group % 2 == 0)
    where
      by : (b : Bool) → Rose (faults (if b then old.even else old.odd)) (faults (if b then new.even else new.odd)) → RecordsRose faults old new
      by true rose = inl rose
      by false rose = inr rose

  -- ---- the areas of a pool

  pub areas_still : (pool : Pool R A) → AreasLater faults pool pool
  areas_still pool = record {
    uber = omega arith;
    many = refl;
    shards = (each_same (sealing.AreasLater faults) records_still pool pool refl).each;
  }

  -- the metaslab at a place, in a pool with as many
  there_in : (old new : Pool R A) (m : ℕ) (shard : Shard R A) → length new.metaslabs.shards.items ≡ length old.metaslabs.shards.items → slice_get old.metaslabs.shards.items m ≡ Some shard
      → (after : Shard R A) × (slice_get new.metaslabs.shards.items m ≡ Some after)
  there_in old new m shard many at = present new.metaslabs.shards.items m (let inside = slice_get_within old.metaslabs.shards.items m shard at in omega (arith, inside, many))

  pub areas_on : (old mid new : Pool R A) → AreasLater faults old mid → AreasLater faults mid new → AreasLater faults old new
  areas_on old mid new first second = record {
    uber = (let a = first.uber in let b = second.uber in omega (arith, a, b));
    many = second.many ∙ first.many;
    shards = (each_on (sealing.AreasLater faults) records_on old mid new (record { many = first.many; each = first.shards }) (record { many = second.many; each = second.shards })).each;
  }

  -- no count fell, and behind that one rose
  pub rose_then : (old mid new : Pool R A) → AreasLater faults old mid → AreaRose faults mid new → AreaRose faults old new
  rose_then old mid new later rose = elim rose [
    | inl uber ↦ inl (rose_behind (count_of faults old.uber) (count_of faults mid.uber) (count_of faults new.uber) later.uber uber)
    | inr z ↦
        let y = there_in mid old z.0 z.1 (sym later.many) z.3 in
        let own = later.shards z.0 y.0 z.1 y.1 z.3 in
        inr (
          z.0,
          y.0,
          z.2,
          y.1,
          z.4,
          elim z.5 [
            | inl even ↦ inl (rose_behind (faults y.0.even) (faults z.1.even) (faults z.2.even) own.even even)
            | inr odd ↦ inr (rose_behind (faults y.0.odd) (faults z.1.odd) (faults z.2.odd) own.odd odd)
          ],
        )
  ]

  -- the uberblock's area alone was called
  pub areas_named : (old new : Pool R A) → count_of faults old.uber ≤ count_of faults new.uber → new.metaslabs.shards.items ≡ old.metaslabs.shards.items → AreasLater faults old new
  areas_named old new later same = record {
    uber = later;
    many = ap (λ zs. length zs) same;
    shards = (each_same (sealing.AreasLater faults) records_still old new same).each;
  }

  -- a count that rose isn't 0
  pub rose_fails : (old new : Pool R A) → AreaRose faults old new → AreaFails faults new
  rose_fails old new rose = elim rose [
    | inl uber ↦ inl (rose_some (count_of faults old.uber) (count_of faults new.uber) uber)
    | inr z ↦ inr (
      z.0,
      z.2,
      z.4,
      elim z.5 [
        | inl even ↦ (let some = rose_some (faults z.1.even) (faults z.2.even) even in omega (arith, some))
        | inr odd ↦ (let some = rose_some (faults z.1.odd) (faults z.2.odd) odd in omega (arith, some))
      ],
    )
  ]

module _ {R A : Type 0} (rack : racks.Ghosts R) (area : areas.Ghosts A) where
  -- one metaslab was called
  pub areas_set : (m : ℕ) (old new : Pool R A) (shard shard' : Shard R A) → SetsShard rack area m old new shard shard' → sealing.AreasLater area.faults shard shard' → AreasLater area.faults old new
  areas_set m old new shard shard' set later = record {
    uber = (let is = ap (λ u. count_of area.faults u) set.uber in omega (arith, is));
    many = ap (λ zs. length zs) set.sets ∙ length-set old.metaslabs.shards.items m shard';
    shards = (each_set (sealing.AreasLater area.faults) (records_still area.faults) rack area m old new shard shard' set later).each;
  }

  -- and the count of one of its areas rose
  pub rose_set : (m : ℕ) (old new : Pool R A) (shard shard' : Shard R A) → SetsShard rack area m old new shard shard' → RecordsRose area.faults shard shard' → AreaRose area.faults old new
  rose_set m old new shard shard' set rose =
      inr (m, shard, shard', set.there, ap (λ zs. slice_get zs m) set.sets ∙ get_set_same old.metaslabs.shards.items m shard shard' set.there, rose)

  -- the uberblock's area was called, and each metaslab committed
  pub areas_committed : (old new : Pool R A) (group : ℕ) → count_of area.faults old.uber ≤ count_of area.faults new.uber
      → CommitsBelow rack group (length old.metaslabs.shards.items) old.metaslabs.shards.items new.metaslabs.shards.items → AreasLater area.faults old new
  areas_committed old new group later commits = record {
    uber = later;
    many = commits.many;
    shards = (each_committed (sealing.AreasLater area.faults) rack group old new (λ before after c. records_same area.faults before after c.areas) commits).each;
  }
