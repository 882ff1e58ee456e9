-- A whole pool stays whole as all of its metaslabs are changed, but for their blocks and groups.
use Rattle.std.proofs.Common.{◌≡◌, ◌==◌, ◌&&◌, ◌<◌, ◌≤◌, ◌+◌, ◌∙◌, inl, inr, ℕ, Bool, true, false, List, [], ◌∷◌, Option, Some, None, arith, refl, sym, ap, subst, length, if◌then◌else◌}
use Rattle.std.specs.Prelude.{nat_eq, option_map, slice_get}
use Rattle.std.specs.List.{list_any}
use Rattle.std.specs.HashMap.{get}
use Rattle.std.proofs.lemmas.Bool.{cases_lt}
use Rattle.std.proofs.lemmas.Option.{slice_get_within}
use Rattle.draid_names.specs.declared.arm.Arm.{Arm}
use Rattle.draid_names.specs.declared.arm.ArmAt.{ArmAt}
use Rattle.draid_names.specs.declared.pointer.Pointer.{Pointer}
use Rattle.draid_map.specs.Place.{IsLayout}
use Rattle.draid_spec.specs.declared.layout.Geometry.{Geometry}
use Rattle.draid_rack.specs.declared.Rack as racks
use Rattle.draid_area.specs.declared.Area as areas
use Rattle.draid_machine.proofs.Small.{none_some}
use Rattle.draid_entries.specs.Entries.{SameEntries}
use Rattle.draid_slots.specs.declared.slot.Detached.{Detached}
use Rattle.draid_slots.specs.Changes.{ChangesArms, switched, switched_arm}
use Rattle.draid_slots.specs.Table.{SlotTable, arm_at, arms_of, is_leaf_kind, is_leaf_of}
use Rattle.draid_shard.specs.Alike.{HaveSameArms, IsSameArm, ShareArms}
use Rattle.draid_shard.specs.Fits.{IsLeaf, Valid}
use Rattle.draid_shard.specs.States.{part_of}
use Rattle.draid_shard.specs.declared.shard.Shard.{Shard}
use Rattle.draid_uber.specs.Slots.{group_of}
use Rattle.draid_uber.specs.Uber as ubers
use Rattle.draid_uber.specs.Uber.{kept_of, next_leaf_of}
use Rattle.draid_pool.specs.Whole.{IsPointer, IsShardOf, IsWhole, PointFits}
use Rattle.draid_pool.specs.declared.pool.Pool.{Pool}
use Rattle.draid_pool.proofs.Arms.{AllShare}
use Rattle.draid_pool.proofs.Lists.{present}
use Rattle.draid_pool.proofs.Versions.{same_uber_layout}
use Rattle.draid_pool.proofs.Nears.{near_kept}
use Rattle.draid_pool.proofs.Wholes.{fits_on}
use Rattle.draid_changes.specs.Walks.{ChangedBelow}
use Rattle.draid_changes.proofs.Walk.{changed_at}

-- a shard is another one of the same metaslab, with the same blocks, the same committed group and no lower one that is open
pub record IsStill {R A : Type 0} (rack : racks.Ghosts R) (old new : Shard R A) : Type 0 where
  pub valid : Valid rack new
  pub part : part_of new ≡ part_of old
  pub entries : SameEntries old.entries new.entries
  pub committed : new.committed ≡ old.committed
  pub opens : old.open_group ≤ new.open_group

-- all that a pool has besides its metaslabs is as it was
pub record SameOwn {R A : Type 0} (pool new : Pool R A) : Type 0 where
  pub geometry : new.geometry ≡ pool.geometry
  pub uber : new.uber ≡ pool.uber
  pub objects : new.own.objects ≡ pool.own.objects
  pub seq : new.own.seq ≡ pool.own.seq
  pub floor : new.own.floor ≡ pool.own.floor

module _ {R A : Type 0} (rack : racks.Ghosts R) (area : areas.Ghosts A) where
  pub whole_changed : (Changes : Shard R A → Shard R A → Type 0) (pool new : Pool R A) → IsWhole rack area pool → ChangedBelow Changes (length pool.metaslabs.shards.items) pool.metaslabs.shards.items new.metaslabs.shards.items
      → SameOwn pool new → ((old now : Shard R A) → Changes old now → IsStill rack old now)
      → ((k : ℕ) (now : Shard R A) → slice_get new.metaslabs.shards.items k ≡ Some now → (leaf : ℕ) → IsLeaf now.slots leaf → leaf < next_leaf_of new.uber) → AllShare new.metaslabs.shards.items → IsWhole rack area new
  whole_changed Changes pool new w c set still leaves share =
      record {
        perms = w.perms;
        layout = subst (λ g. IsLayout g w.perms) (sym set.geometry) w.layout;
        many = c.many ∙ (w.many ∙ ap (λ (g : Geometry). g.props.metaslabs) (sym set.geometry));
        shards = each;
        alike = share;
        uber = subst (ubers.Valid area.size) (sym set.uber) w.uber;
        uber_layout = same_uber_layout pool.uber new.uber pool.geometry new.geometry set.uber set.geometry w.uber_layout;
        objects = λ o q at. pointer o q (w.objects o q (sym (ap (λ os. get nat_eq os o) set.objects) ∙ at));
        floor = subst (λ u. new.own.floor ≤ group_of (kept_of u) + 2) (sym set.uber) (let fits = w.floor in let same = set.floor in omega (arith, fits, same));
        low = (let low = w.low in let same = set.floor in omega (arith, low, same));
        near = near_kept pool.own.floor new.own.floor (slice_get pool.metaslabs.shards.items) (slice_get new.metaslabs.shards.items) (let same = set.floor in omega (arith, same)) stays w.near;
        point = subst (λ u. PointFits 0 (ubers.point_of u) (get nat_eq new.own.objects) new.own.seq) (sym set.uber)
            (fits_on 0 (ubers.point_of pool.uber) (get nat_eq pool.own.objects) (get nat_eq new.own.objects) pool.own.seq new.own.seq (let same = set.seq in omega (arith, same)) (λ o q at. sym (ap (λ os. get nat_eq os o) set.objects) ∙ at) w.point);
        behind = λ own k z is there.
            (let was = changed_at Changes pool.metaslabs.shards.items new.metaslabs.shards.items c k z there in
            let low = w.behind own k was.0 (ap (λ u. (ubers.point_of u).group) (sym set.uber) ∙ is) was.1 in
            let opens = (still was.0 z was.2).opens in
            omega (arith, low, opens));
      }
    where
      stays : (k : ℕ) (z : Shard R A) → slice_get pool.metaslabs.shards.items k ≡ Some z → (after : Shard R A) × (slice_get new.metaslabs.shards.items k ≡ Some after) × (z.open_group ≤ after.open_group)
      stays k z at = (let after = c.below k z (slice_get_within pool.metaslabs.shards.items k z at) at in (after.0, after.1, (still z after.0 after.2).opens))

      each : (k : ℕ) (z : Shard R A) → slice_get new.metaslabs.shards.items k ≡ Some z → IsShardOf rack w.perms new k z
      each k z there =
          let was = changed_at Changes pool.metaslabs.shards.items new.metaslabs.shards.items c k z there in
          let is = w.shards k was.0 was.1 in
          let s = still was.0 z was.2 in
          record {
            valid = s.valid;
            part = s.part ∙ (is.part ∙ ap (λ (g : Geometry). record { geometry = g; perms = w.perms; number = k }) (sym set.geometry));
            numbered = λ key h at. (let low = is.numbered key h (sym (s.entries.held key) ∙ at) in let same = set.seq in omega (arith, low, same));
            settled = λ key h at. is.settled key h (sym (s.entries.held key) ∙ at);
            committed = s.committed ∙ (is.committed ∙ ap (λ u. group_of (kept_of u)) (sym set.uber));
            leaves = leaves k z there;
          }

      pointer : (o : ℕ) (q : Pointer) → IsPointer pool o q → IsPointer new o q
      pointer o q of =
          let inside = slice_get_within pool.metaslabs.shards.items q.metaslab of.shard of.there in
          let after = c.below q.metaslab of.shard inside of.there in
          record { object_is = of.object_is; shard = after.0; there = after.1; live = (still of.shard after.0 after.2).entries.at q.first ∙ of.live }

-- ---- leaves that went offline or came back

-- an arm that is there then was there
pub was_there : (old new : SlotTable) (leaf : ℕ) (offline : Bool) → ChangesArms old new (switched leaf offline) → (at : ArmAt) (arm : Arm) → arm_at new at ≡ Some arm
    → (was : Arm) × (arm_at old at ≡ Some was) × (switched_arm leaf offline was ≡ arm)
was_there old new leaf offline c at arm there = by (arm_at old at) refl (sym (c.arms_are at) ∙ there)
  where
    by : (o : Option Arm) → arm_at old at ≡ o → option_map (switched leaf offline at) o ≡ Some arm → (was : Arm) × (arm_at old at ≡ Some was) × (switched_arm leaf offline was ≡ arm)
    by None own is = absurd (cc)
    by (Some was) own is = (was, own, cc)

-- with the same kind and number
pub same_kind : (leaf : ℕ) (offline : Bool) (a : Arm) → ((switched_arm leaf offline a).kind ≡ a.kind) × ((switched_arm leaf offline a).number ≡ a.number)
same_kind leaf offline a = by (is_leaf_of leaf a)
  where
    by : (b : Bool) → ((if b then record a { offline = offline } else a).kind ≡ a.kind) × ((if b then record a { offline = offline } else a).number ≡ a.number)
    by true = (refl, refl)
    by false = (refl, refl)

pub switched_leaf : (old new : SlotTable) (leaf : ℕ) (offline : Bool) → ChangesArms old new (switched leaf offline) → (other : ℕ) → IsLeaf new other → IsLeaf old other
switched_leaf old new leaf offline c other (inl (at, arm, there, kind_is, number)) =
    let z = was_there old new leaf offline c at arm there in
    let same = same_kind leaf offline z.0 in
    inl (at, z.0, z.1, sym same.0 ∙ (ap (λ (a : Arm). a.kind) z.2 ∙ kind_is), sym same.1 ∙ (ap (λ (a : Arm). a.number) z.2 ∙ number))
switched_leaf old new leaf offline c other (inr gone) = inr (ap (λ (list : List Detached). list_any (λ (gone : Detached). is_leaf_kind gone.kind && (gone.number == other)) list) (sym c.detached_stay) ∙ gone)

-- arms that are one are one then
same_switched : (leaf : ℕ) (offline : Bool) (p q : Arm) → IsSameArm p q → IsSameArm (switched_arm leaf offline p) (switched_arm leaf offline q)
same_switched leaf offline p q is =
    by (is_leaf_of leaf p) (is_leaf_of leaf q) (λ i. is_leaf_kind (is.kind_is i) && (is.number_is i == leaf))
  where
    by : (a b : Bool) → a ≡ b → IsSameArm (if a then record p { offline = offline } else p) (if b then record q { offline = offline } else q)
    by true true same = record { kind_is = is.kind_is; number_is = is.number_is; offline_is = refl }
    by true false same = absurd (cc)
    by false true same = absurd (cc)
    by false false same = is

-- a list each of whose places has what a function makes of the place of another is as long
as_long : (f : ArmAt → Arm → Arm) (slot : ℕ) (ps qs : List Arm) → ((k : ℕ) → slice_get qs k ≡ option_map (f (record { slot = slot; arm = k })) (slice_get ps k)) → length qs ≡ length ps
as_long f slot ps qs are = (let one = upto (length ps) refl in let other = under (length qs) refl in omega (arith, one, other))
  where
    none_at : (xs : List Arm) → slice_get xs (length xs) ≡ None
    none_at [] = refl
    none_at (x ∷ xs) = none_at xs

    upto : (n : ℕ) → length ps ≡ n → length qs ≤ n
    upto n is = elim (cases_lt n (length qs)) [
      | inl less ↦
          let z = present qs n less in
          absurd (none_some (slice_get qs n) z.0 (are n ∙ ap (option_map (f (record { slot = slot; arm = n }))) (subst (λ k. slice_get ps k ≡ None) is (none_at ps))) z.1)
      | inr least ↦ least
    ]

    mapped_none : (o : Option Arm) (k : ℕ) → option_map (f (record { slot = slot; arm = k })) o ≡ None → o ≡ None
    mapped_none None k is = refl
    mapped_none (Some a) k is = absurd (cc)

    under : (n : ℕ) → length qs ≡ n → length ps ≤ n
    under n is = elim (cases_lt n (length ps)) [
      | inl less ↦
          let z = present ps n less in
          absurd (none_some (slice_get ps n) z.0 (mapped_none (slice_get ps n) n (sym (are n) ∙ subst (λ k. slice_get qs k ≡ None) is (none_at qs))) z.1)
      | inr least ↦ least
    ]

pub switched_same : (leaf : ℕ) (offline : Bool) (a b a' b' : SlotTable) → ChangesArms a a' (switched leaf offline) → ChangesArms b b' (switched leaf offline) → HaveSameArms a b → HaveSameArms a' b'
switched_same leaf offline a b a' b' one other s = record {
  children = ap (λ g. g.spec.children) other.same.geometry_is ∙ (s.children ∙ sym (ap (λ g. g.spec.children) one.same.geometry_is));
  slots = λ slot below. (let was = s.slots slot (subst (λ g. slot < g.spec.children) one.same.geometry_is below) in record {
    many = as_long (switched leaf offline) slot (arms_of a slot) (arms_of a' slot) (λ k. one.arms_are (record { slot = slot; arm = k }))
        ∙ (was.many ∙ sym (as_long (switched leaf offline) slot (arms_of b slot) (arms_of b' slot) (λ k. other.arms_are (record { slot = slot; arm = k }))));
    each = λ k p q at there.
        (let x = was_there a a' leaf offline one (record { slot = slot; arm = k }) p at in
        let y = was_there b b' leaf offline other (record { slot = slot; arm = k }) q there in
        subst (IsSameArm p) y.2 (subst (λ r. IsSameArm r (switched_arm leaf offline y.0)) x.2 (same_switched leaf offline x.0 y.0 (was.each k x.0 y.0 x.1 y.1))));
  });
}

pub switched_share : (leaf : ℕ) (offline : Bool) (a b a' b' : SlotTable) → ChangesArms a a' (switched leaf offline) → ChangesArms b b' (switched leaf offline) → ShareArms a b → ShareArms a' b'
switched_share leaf offline a b a' b' one other s = record {
  arms = switched_same leaf offline a b a' b' one other s.arms;
  detached = other.detached_stay ∙ (s.detached ∙ sym one.detached_stay);
}
