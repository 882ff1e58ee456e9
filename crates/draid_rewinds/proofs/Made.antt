-- A checkpoint is made of the group that is closing in all metaslabs: what the pool stands for then.
use Rattle.std.proofs.Common.{arith, ◌≡◌, ◌+◌, ◌≤◌, ◌∙◌, inl, inr, ℕ, Bool, false, [], ◌∷◌, Option, Some, None, All, refl, sym, ap, subst, length, max}
use Rattle.std.specs.Prelude.{Contains, IsSome, nat_eq, slice_get}
use Rattle.std.specs.HashMap.{get}
use Rattle.std.proofs.lemmas.Option.{slice_get_within}
use Rattle.std.proofs.lemmas.List.Elements.{All-cons, All-contains, All-contains_itself, All-nil, All-weaker}
use Rattle.sha2.specs.Sha256.{sha256}
use Rattle.draid_names.specs.declared.pointer.Pointer.{Pointer}
use Rattle.draid_rack.specs.declared.Rack as racks
use Rattle.draid_area.specs.declared.Area as areas
use Rattle.draid_checkpoint.specs.Check.{Point}
use Rattle.draid_checkpoint.specs.declared.check.DroppedIn.{DroppedIn}
use Rattle.draid_machine.specs.declared.names.Held.{Held}
use Rattle.draid_machine.specs.declared.names.Key.{Key}
use Rattle.draid_machine.specs.declared.names.Stage.TheVariants.{Freed as FreedStage, Live}
use Rattle.draid_machine.specs.After.{seal_held}
use Rattle.draid_machine.proofs.Seals.{sealed_held}
use Rattle.draid_machine.proofs.Small.{none_some}
use Rattle.draid_objects.specs.Blocks.{Blocks, sealed_at}
use Rattle.draid_objects.specs.Changes.{Write, group_of as group_in_change, object_of, write_of}
use Rattle.draid_objects.specs.Marks.{Made, check_by, is_dropped, mark_group}
use Rattle.draid_objects.specs.Stores.{AreMarkedUpto, HasOne, Stores}
use Rattle.draid_objects.proofs.Marking.{made}
use Rattle.draid_objects.proofs.Sealing.{gone_sealed, stages}
use Rattle.draid_objects.proofs.Sealing as sealing
use Rattle.draid_shard.specs.Fits.{AreGroups}
use Rattle.draid_shard.specs.declared.shard.Shard.{Shard}
use Rattle.draid_session.specs.Points.{marked}
use Rattle.draid_session.specs.State.{Metaslab, State}
use Rattle.draid_uber.specs.Held.{IsNext}
use Rattle.draid_uber.specs.Slots.{group_of}
use Rattle.draid_uber.specs.Checks.{count_in}
use Rattle.draid_uber.specs.Uber as ubers
use Rattle.draid_uber.specs.declared.uber.Uber.{Uber}
use Rattle.draid_pool.specs.Failing.{AreasLater}
use Rattle.draid_pool.specs.Objects.{IsLastAt, blocks_of}
use Rattle.draid_pool.specs.Pools.{Represents, group_in}
use Rattle.draid_pool.specs.Syncing.{AreClosing}
use Rattle.draid_pool.specs.Whole.{IsShardOf, IsWhole, PointFits}
use Rattle.draid_pool.specs.declared.pool.Pool.{Pool}
use Rattle.draid_pool.proofs.Lists.{present, some_of}
use Rattle.draid_pool.proofs.Marked.{marked_later}
use Rattle.draid_pool.proofs.Points.{none_stands}
use Rattle.draid_pool.proofs.Rises.{areas_named}
use Rattle.draid_pool.proofs.SyncCalls.{pool_group}
use Rattle.draid_rewinds.specs.Giving.{SetsPoint}
use Rattle.draid_rewinds.specs.Taking.{HasRoomFor, MakesPoint}
use Rattle.draid_rewinds.proofs.Marking.{made_behind, made_told_by, uber_marked}

-- ---- closing groups

open_behind : (o : ℕ) (closing : Option ℕ) (c : ℕ) (sealed : Bool) (group : ℕ) → closing ≡ Some group → AreGroups o closing c sealed → o ≡ group + 1
open_behind o None c sealed group is groups = absurd (none_some None group refl is)
open_behind o (Some t) c sealed group is groups = (let same : t ≡ group = some_of (Some t) t group refl is in let at = groups.0 in omega (arith, same, at))

module _ {R A : Type 0} (rack : racks.Ghosts R) (area : areas.Ghosts A) where
  pub closing_open : (pool : Pool R A) (group : ℕ) → IsWhole rack area pool → AreClosing pool.metaslabs.shards.items group → (m : ℕ) (shard : Shard R A) → slice_get pool.metaslabs.shards.items m ≡ Some shard → shard.open_group ≡ group + 1
  closing_open pool group w closing m shard there = open_behind shard.open_group shard.closing shard.committed shard.sealed group (closing m shard there) (w.shards m shard there).valid.groups

  pub next_is : (pool : Pool R A) (group : ℕ) → IsWhole rack area pool → AreClosing pool.metaslabs.shards.items group → group ≡ group_in pool + 1 → IsNext (ubers.kept_of pool.uber) group
  next_is pool group w closing next =
      let many = w.many in
      let some = w.layout.geometry_is.props.some_metaslabs in
      let shard = present pool.metaslabs.shards.items 0 (omega (arith, many, some)) in
      let at = closing_open pool group w closing 0 shard.0 shard.1 in
      let low = (w.shards 0 shard.0 shard.1).valid.low in
      record { behind = omega (arith, next); below = omega (arith, at, low) }

  -- ---- the pool

  -- the uberblock has the checkpoint, and nothing else changed
  pub record MakesIt (old : Pool R A) (group : ℕ) (point : Point) (v : Uber A) : Type 0 where
    pub sets : SetsPoint area group old.uber v
    pub point_is : ubers.point_of v ≡ point
    pub told : (g : ℕ) → group ≤ g → ubers.next_check v g ≡ record { group = group; drops = [] }

  module _ (old : Pool R A) (group : ℕ) (point : Point) (v : Uber A) (w : IsWhole rack area old) (next : group ≡ group_in old + 1) (closing : AreClosing old.metaslabs.shards.items group) (room : HasRoomFor old point) (m : MakesIt old group point v) where
    abbrev new : Pool R A
    new = record old { uber = v }

    group_is : group_of (ubers.kept_of v) ≡ group_of (ubers.kept_of old.uber)
    group_is = ap group_of m.sets.kept

    none_dropped : (ubers.point_of v).drops ≡ []
    none_dropped = ap (λ (p : Point). p.drops) m.point_is ∙ room.new

    point_group : (ubers.point_of v).group ≡ Some group
    point_group = ap (λ (p : Point). p.group) m.point_is ∙ (room.group_is ∙ ap Some (sym next))

    fits : PointFits 0 (ubers.point_of v) (get nat_eq old.own.objects) old.own.seq
    fits = record {
      names = room.names.names;
      each = λ object p there kept. (room.names.each object).1 (sealing.is_some_of (get nat_eq old.own.objects object) p there);
      room = (let many = room.names.many in let enough = room.room in let same = ap (λ (p : Point). p.spare) m.point_is in omega (arith, many, enough, same));
      few = (let many = room.names.many in let few = room.few in let zero = ap (λ ds. length ds) none_dropped in omega (arith, many, few, zero));
      apart = subst (All (λ d. (p : Pointer) → get nat_eq old.own.objects d.object ≡ Some p → d.seq ≡ p.seq → ⊥)) (sym none_dropped) (All-nil (λ (d : DroppedIn). (p : Pointer) → get nat_eq old.own.objects d.object ≡ Some p → d.seq ≡ p.seq → ⊥));
      begun = subst (All (λ d. d.seq ≤ old.own.seq)) (sym none_dropped) (All-nil (λ (d : DroppedIn). d.seq ≤ old.own.seq));
      none = λ none. absurd (none_some (ubers.point_of v).group group none point_group);
    }

    each_shard : (k : ℕ) (shard : Shard R A) → slice_get old.metaslabs.shards.items k ≡ Some shard → IsShardOf rack w.perms new k shard
    each_shard k shard there =
        let is = w.shards k shard there in
        record {
          valid = is.valid;
          part = is.part;
          numbered = is.numbered;
          settled = is.settled;
          committed = is.committed ∙ sym group_is;
          leaves = λ leaf own. (let less = is.leaves leaf own in let same = m.sets.leaf in omega (arith, less, same));
        }

    pub whole_made : IsWhole rack area new
    whole_made = record {
      perms = w.perms;
      layout = w.layout;
      many = w.many;
      shards = each_shard;
      alike = w.alike;
      uber = m.sets.valid;
      uber_layout = (λ i. ubers.layout_in (m.sets.layout i) old.geometry.props.version) ∙ w.uber_layout;
      objects = λ object p leads. (let of = w.objects object p leads in record { object_is = of.object_is; shard = of.shard; there = of.there; live = of.live });
      floor = (let low = w.floor in let same = group_is in omega (arith, low, same));
      low = w.low;
      near = w.near;
      point = fits;
      behind = λ own k shard is there.
          (let same : own ≡ group = some_of (ubers.point_of v).group own group is point_group in
          let at = closing_open old group w closing k shard there in
          omega (arith, same, at));
    }

    pub areas_made : AreasLater area.faults old new
    areas_made = areas_named area.faults old new (let same = ap (count_in area.faults) m.sets.areas_are in omega (arith, same)) refl

    pub next_made : group ≡ group_in new + 1
    next_made = next ∙ ap (λ n. n + 1) (sym group_is)

    -- ---- the state

    module _ (none_point : (ubers.point_of old.uber).group ≡ None) (x : State) (r : Represents rack area old x) (floor_low : x.store.floor ≤ x.committed + 1) (settled : x.pending ≡ false) where
      abbrev blocks : Blocks
      blocks = blocks_of x.metaslabs

      at : group ≡ x.committed + 1
      at = next ∙ ap (λ n. n + 1) (pool_group rack area old x r)

      none : check_by x.store.marks ≡ None
      none = none_stands area old.uber x blocks r.stands.pieces r.stands.uber r.stands.holds r.stands.groups none_point

      upto : AreMarkedUpto (x.committed + 1) x.store.marks
      upto = marked_later (max x.store.floor (x.committed + 1)) (x.committed + 1) x.store.marks (omega (arith, floor_low)) r.stands.groups.marked

      freed_low : (n : ℕ) (k : Key) (h : Held) (g : ℕ) → blocks n k ≡ Some h → h.stage ≡ FreedStage g → g ≤ x.committed + 1
      freed_low n k h g there stage = (let low = (r.stands.holds.floors k.object).freed n k h g there refl stage in omega (arith, low, floor_low))

      -- all that befell the objects did so up to this group
      changed : All (λ c. group_in_change c ≤ x.committed + 1) x.store.changes
      changed = All-weaker (Contains x.store.changes) (λ c. group_in_change c ≤ x.committed + 1)
          (λ c has. (let low = All-contains (λ d. object_of d ≡ object_of c → group_in_change d ≤ x.store.floor) x.store.changes c (r.stands.holds.floors (object_of c)).changed has refl in omega (arith, low, floor_low)))
          x.store.changes (All-contains_itself x.store.changes)

      -- what its images have is live
      sealed_live : (n : ℕ) (k : Key) → IsSome (sealed_at (x.committed + 1) blocks n k) → (h : Held) × (blocks n k ≡ Some h) × (h.stage ≡ Live)
      sealed_live n k some =
          let z = sealing.some_of (sealed_at (x.committed + 1) blocks n k) some in
          let y = sealed_held (x.committed + 1) (blocks n k) z.0 z.1 in (
            y.h,
            y.found,
            elim (stages y.h.stage y.block) [
              | inl live ↦ live
              | inr freed ↦
                  let low = freed_low n k y.h freed.0 y.found freed.1 in
                  absurd (none_some (sealed_at (x.committed + 1) blocks n k) z.0 (ap (seal_held (x.committed + 1)) y.found ∙ gone_sealed (x.committed + 1) freed.0 y.h low freed.1) z.1)
            ],
          )

      last_once : (o : Option Write) (n p : ℕ) (j k : Key) → IsLastAt n j o → IsLastAt p k o → (n ≡ p) × (j ≡ k)
      last_once None n p j k a b = absurd a
      last_once (Some w) n p j k a b = (sym a.0 ∙ b.0, sym a.1 ∙ b.1)

      one : (object : ℕ) → HasOne (sealed_at (x.committed + 1) blocks) object
      one object n p j k own_j own_k some_j some_k =
          let a = sealed_live n j some_j in
          let b = sealed_live p k some_k in
          let last_j = r.only n j a.0 a.1 a.2 (ap (λ c. is_dropped c j) none) in
          let last_k = r.only p k b.0 b.1 b.2 (ap (λ c. is_dropped c k) none) in
          last_once (write_of x.store.changes object) n p j k (subst (λ o. IsLastAt n j (write_of x.store.changes o)) own_j last_j) (subst (λ o. IsLastAt p k (write_of x.store.changes o)) own_k last_k)

      stores : Stores sha256 x.committed x.store.changes (Made (x.committed + 1) ∷ x.store.marks) blocks
      stores = made sha256 x.committed (x.committed + 1) x.store.changes x.store.marks blocks r.stands.holds.stores none (omega arith) upto changed one freed_low

      open_at : (k : ℕ) (y : Metaslab) → slice_get x.metaslabs k ≡ Some y → y.world.open_group ≡ x.committed + 2
      open_at k y there =
          let within = slice_get_within x.metaslabs k y there in
          let same = r.stands.shards in
          let shard = present old.metaslabs.shards.items k (omega (arith, within, same)) in
          let is = r.stands.each k shard.0 y shard.1 there in
          let opened = closing_open old group w closing k shard.0 shard.1 in
          let on = is.stands.is_in.open_group_is in
          omega (arith, opened, on, at)

      represents : Represents rack area new (record x { store = marked (Made (x.committed + 1)) x.store })
      represents = record {
        stands = record {
          geometry = r.stands.geometry;
          layout = r.stands.layout;
          many = r.stands.many;
          shards = r.stands.shards;
          pieces = r.stands.pieces;
          each = r.stands.each;
          holds = record {
            stores = stores;
            floors = r.stands.holds.floors;
            settled = r.stands.holds.settled;
            numbered = r.stands.holds.numbered;
            bytes = r.stands.holds.bytes;
            positive = All-cons (λ z. 1 ≤ mark_group z) (Made (x.committed + 1)) x.store.marks (omega arith) r.stands.holds.positive;
          };
          groups = record {
            committed = r.stands.groups.committed;
            next = r.stands.groups.next;
            last = r.stands.groups.last;
            checks = λ k y there. made_behind x.committed (x.committed + 1) y.world.open_group x.store.marks (let is = open_at k y there in omega (arith, is)) (r.stands.groups.checks k y there);
            marked = All-cons (λ z. mark_group z ≤ max x.store.floor (x.committed + 1)) (Made (x.committed + 1)) x.store.marks (omega arith) r.stands.groups.marked;
          };
          objects = r.stands.objects;
          seq = r.stands.seq;
          floor = r.stands.floor;
          uber = uber_marked area old.uber v x x.metaslabs (marked (Made (x.committed + 1)) x.store) (Made (x.committed + 1)) refl refl upto settled (subst (λ n. SetsPoint area n old.uber v) at m.sets)
              (λ g late. m.told g (omega (arith, late, at)) ∙ (ap (λ n. record { group = n; drops = [] }) at ∙ sym (made_told_by x.store.marks (x.committed + 1) g (omega (arith, late))))) r.stands.uber;
          images = r.stands.images;
          leaves = record { order = r.stands.leaves.order; each = r.stands.leaves.each };
          shared = r.stands.shared;
          versions = r.stands.versions;
          alike = r.stands.alike;
        };
        only = λ n k h there live out. r.only n k h there live (ap (λ c. is_dropped c k) none);
      }

      pub makes_point : MakesPoint rack area new group x
      makes_point = record { none = none; represents = subst (λ n. Represents rack area new (record x { store = marked (Made n) x.store })) (sym at) represents }
