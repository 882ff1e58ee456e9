-- A pool is whole yet where one of its metaslabs kept its blocks, and its arms but for whether a pass has made them good.
use Rattle.std.proofs.Common.{◌≡◌, ◌<◌, ◌≤◌, ◌∙◌, inl, inr, ℕ, List, Some, arith, sym, ap, subst, length}
use Rattle.std.specs.Prelude.{nat_eq, slice_get}
use Rattle.std.specs.HashMap.{get}
use Rattle.std.proofs.lemmas.Bool.{cases_eq}
use Rattle.std.proofs.lemmas.List.{length-set}
use Rattle.draid_names.specs.declared.pointer.Pointer.{Pointer}
use Rattle.draid_rack.specs.declared.Rack as racks
use Rattle.draid_area.specs.declared.Area as areas
use Rattle.draid_map.specs.Place.{IsLayout}
use Rattle.draid_spec.specs.declared.layout.Geometry.{Geometry}
use Rattle.draid_slots.specs.Table.{SlotTable}
use Rattle.draid_shard.specs.Alike.{ShareArms}
use Rattle.draid_shard.specs.Fits.{Valid}
use Rattle.draid_shard.specs.Looks.{IsLive}
use Rattle.draid_shard.specs.declared.shard.Shard.{Shard}
use Rattle.draid_uber.specs.Slots.{group_of}
use Rattle.draid_uber.specs.Uber as ubers
use Rattle.draid_uber.specs.Uber.{kept_of}
use Rattle.draid_pool.specs.Whole.{IsPointer, IsShardOf, IsWhole, PointFits}
use Rattle.draid_pool.specs.declared.pool.Pool.{Pool}
use Rattle.draid_pool.proofs.Arms.{have_from}
use Rattle.draid_pool.proofs.Lifted.{SetsShard}
use Rattle.draid_pool.proofs.Lists.{get_set_other, get_set_same, some_of}
use Rattle.draid_pool.proofs.Versions.{same_uber_layout}
use Rattle.draid_visits.specs.Steps.{SharesTable}
use Rattle.draid_pool.proofs.Nears.{near_kept}
use Rattle.draid_pool.proofs.Wholes.{fits_on}

-- ---- arms

-- those that share the arms of one share one another's
share_from : (first a b : SlotTable) → ShareArms first a → ShareArms first b → ShareArms a b
share_from first a b one other = record { arms = have_from first a b one.arms other.arms; detached = other.detached ∙ sym one.detached }

-- ---- the pool

-- the shard that stood at a place shares its arms
record Was {R A : Type 0} (old : List (Shard R A)) (k : ℕ) (z : Shard R A) : Type 0 where
  before : Shard R A
  there : slice_get old k ≡ Some before
  slots : ShareArms before.slots z.slots

all_share : {R A : Type 0} (old new : List (Shard R A)) → ((k : ℕ) (z : Shard R A) → slice_get new k ≡ Some z → Was old k z)
    → ((m n : ℕ) (a b : Shard R A) → slice_get old m ≡ Some a → slice_get old n ≡ Some b → ShareArms a.slots b.slots)
    → (m n : ℕ) (a b : Shard R A) → slice_get new m ≡ Some a → slice_get new n ≡ Some b → ShareArms a.slots b.slots
all_share old new was share m n a b at here =
    let p = was m a at in
    let q = was n b here in
    let across = share_from p.before.slots a.slots q.before.slots p.slots (share m n p.before q.before p.there q.there) in
    let own = share_from p.before.slots a.slots a.slots p.slots p.slots in
    share_from q.before.slots a.slots b.slots (share_from a.slots q.before.slots a.slots across own) q.slots

module _ {R A : Type 0} (rack : racks.Ghosts R) (area : areas.Ghosts A) (m : ℕ) (pool new : Pool R A) (shard after : Shard R A) (w : IsWhole rack area pool) (set : SetsShard rack area m pool new shard after)
    (valid : Valid rack after) (table : SharesTable shard after) where
  at_here : slice_get new.metaslabs.shards.items m ≡ Some after
  at_here = ap (λ zs. slice_get zs m) set.sets ∙ get_set_same pool.metaslabs.shards.items m shard after set.there

  at_other : (k : ℕ) → (k ≡ m → ⊥) → slice_get new.metaslabs.shards.items k ≡ slice_get pool.metaslabs.shards.items k
  at_other k other = ap (λ zs. slice_get zs k) set.sets ∙ get_set_other pool.metaslabs.shards.items m k after other

  own : IsShardOf rack w.perms new m after
  own =
      let was = w.shards m shard set.there in
      record {
        valid = valid;
        part = table.part ∙ (was.part ∙ ap (λ (g : Geometry). record { geometry = g; perms = w.perms; number = m }) (sym set.geometry));
        numbered = λ key h there. (let low = was.numbered key h (sym (table.entries.held key) ∙ there) in let seq = set.seq in omega (arith, low, seq));
        settled = λ key h there. was.settled key h (sym (table.entries.held key) ∙ there);
        committed = table.committed ∙ (was.committed ∙ ap (λ u. group_of (kept_of u)) (sym set.uber));
        leaves = λ leaf is. subst (λ u. leaf < ubers.next_leaf_of u) (sym set.uber) (was.leaves leaf (table.leaves leaf is));
      }

  other_shard : (k : ℕ) (z : Shard R A) → IsShardOf rack w.perms pool k z → IsShardOf rack w.perms new k z
  other_shard k z is = record {
    valid = is.valid;
    part = is.part ∙ ap (λ (g : Geometry). record { geometry = g; perms = w.perms; number = k }) (sym set.geometry);
    numbered = λ key h there. (let low = is.numbered key h there in let seq = set.seq in omega (arith, low, seq));
    settled = is.settled;
    committed = is.committed ∙ ap (λ u. group_of (kept_of u)) (sym set.uber);
    leaves = λ leaf own. subst (λ u. leaf < ubers.next_leaf_of u) (sym set.uber) (is.leaves leaf own);
  }

  each : (k : ℕ) (z : Shard R A) → slice_get new.metaslabs.shards.items k ≡ Some z → IsShardOf rack w.perms new k z
  each k z there = elim (cases_eq k m) [
    | inl same ↦
        let here : after ≡ z = some_of (slice_get new.metaslabs.shards.items m) after z at_here (subst (λ j. slice_get new.metaslabs.shards.items j ≡ Some z) same there) in
        subst (λ j. IsShardOf rack w.perms new j z) (sym same) (subst (IsShardOf rack w.perms new m) here own)
    | inr other ↦ other_shard k z (w.shards k z (sym (at_other k other) ∙ there))
  ]

  was_there : (k : ℕ) (z : Shard R A) → slice_get new.metaslabs.shards.items k ≡ Some z → Was pool.metaslabs.shards.items k z
  was_there k z there = elim (cases_eq k m) [
    | inl same ↦
        let here : after ≡ z = some_of (slice_get new.metaslabs.shards.items m) after z at_here (subst (λ j. slice_get new.metaslabs.shards.items j ≡ Some z) same there) in
        record { before = shard; there = ap (slice_get pool.metaslabs.shards.items) same ∙ set.there; slots = subst (λ (q : Shard R A). ShareArms shard.slots q.slots) here table.slots }
    | inr other ↦
        let before = sym (at_other k other) ∙ there in
        record { before = z; there = before; slots = w.alike k k z z before before }
  ]

  pointer : (object : ℕ) (q : Pointer) → IsPointer pool object q → IsPointer new object q
  pointer object q of = elim (cases_eq q.metaslab m) [
    | inl same ↦
        let was : of.shard ≡ shard = some_of (slice_get pool.metaslabs.shards.items m) of.shard shard (subst (λ k. slice_get pool.metaslabs.shards.items k ≡ Some of.shard) same of.there) set.there in
        record {
          object_is = of.object_is;
          shard = after;
          there = ap (λ k. slice_get new.metaslabs.shards.items k) same ∙ at_here;
          live = table.entries.at q.first ∙ subst (λ (z : Shard R A). IsLive z q) was of.live;
        }
    | inr other ↦ record { object_is = of.object_is; shard = of.shard; there = at_other q.metaslab other ∙ of.there; live = of.live }
  ]

  behind : (k : ℕ) (z : Shard R A) → slice_get new.metaslabs.shards.items k ≡ Some z → (group : ℕ) → (ubers.point_of pool.uber).group ≡ Some group → group < z.open_group
  behind k z there group is = elim (cases_eq k m) [
    | inl same ↦
        let here : after ≡ z = some_of (slice_get new.metaslabs.shards.items m) after z at_here (subst (λ j. slice_get new.metaslabs.shards.items j ≡ Some z) same there) in
        let low = w.behind group m shard is set.there in
        let opens = table.opens in
        subst (λ (q : Shard R A). group < q.open_group) here (omega (arith, low, opens))
    | inr other ↦ w.behind group k z is (sym (at_other k other) ∙ there)
  ]

  stays : (k : ℕ) (z : Shard R A) → slice_get pool.metaslabs.shards.items k ≡ Some z → (now : Shard R A) × (slice_get new.metaslabs.shards.items k ≡ Some now) × (z.open_group ≤ now.open_group)
  stays k z at = elim (cases_eq k m) [
    | inl same ↦
        let was = ap (λ (q : Shard R A). q.open_group) (some_of (slice_get pool.metaslabs.shards.items m) shard z set.there (subst (λ j. slice_get pool.metaslabs.shards.items j ≡ Some z) same at)) in
        let opens = table.opens in
        (after, ap (slice_get new.metaslabs.shards.items) same ∙ at_here, omega (arith, was, opens))
    | inr other ↦ (z, at_other k other ∙ at, omega arith)
  ]

  pub whole_shared : IsWhole rack area new
  whole_shared = record {
    perms = w.perms;
    layout = subst (λ g. IsLayout g w.perms) (sym set.geometry) w.layout;
    many = ap (λ zs. length zs) set.sets ∙ (length-set pool.metaslabs.shards.items m after ∙ (w.many ∙ ap (λ (g : Geometry). g.props.metaslabs) (sym set.geometry)));
    shards = each;
    alike = all_share pool.metaslabs.shards.items new.metaslabs.shards.items was_there w.alike;
    uber = subst (ubers.Valid area.size) (sym set.uber) w.uber;
    uber_layout = same_uber_layout pool.uber new.uber pool.geometry new.geometry set.uber set.geometry w.uber_layout;
    objects = λ object q at. pointer object q (w.objects object q (ap (λ os. get nat_eq os object) (sym set.objects) ∙ at));
    floor = (let fits = w.floor in let same = set.floor in let group = ap (λ u. group_of (kept_of u)) set.uber in omega (arith, fits, same, group));
    low = (let low = w.low in let same = set.floor in omega (arith, low, same));
    near = near_kept pool.own.floor new.own.floor (slice_get pool.metaslabs.shards.items) (slice_get new.metaslabs.shards.items) (let same = set.floor in omega (arith, same)) stays w.near;
    point = subst (λ u. PointFits 0 (ubers.point_of u) (get nat_eq new.own.objects) new.own.seq) (sym set.uber)
        (fits_on 0 (ubers.point_of pool.uber) (get nat_eq pool.own.objects) (get nat_eq new.own.objects) pool.own.seq new.own.seq (let same = set.seq in omega (arith, same)) (λ o q at. sym (ap (λ os. get nat_eq os o) set.objects) ∙ at) w.point);
    behind = λ group k z is there. behind k z there group (ap (λ u. (ubers.point_of u).group) (sym set.uber) ∙ is);
  }
