-- An arm comes to a slot of each metaslab of a pool: where it may come to the first it may come to all, and the pool stays whole.
use Rattle.std.proofs.Common.{◌≡◌, ◌<◌, ◌≤◌, ◌++◌, ◌∙◌, ◌||◌, ◌⊎◌, ◌==◌, ◌&&◌, inl, inr, [], ◌∷◌, ℕ, zero, suc, Bool, true, false, List, Option, Some, None, arith, refl, sym, ap, subst, length, map, slice_index_or}
use Rattle.std.specs.Prelude.{option_map, slice_get}
use Rattle.std.specs.List.{list_any}
use Rattle.std.proofs.lemmas.Bool.{cases_eq, cases_lt}
use Rattle.std.proofs.lemmas.List.{get_or_past}
use Rattle.std.proofs.lemmas.Option.{slice_get_within}
use Rattle.draid_names.specs.declared.arm.Arm.{Arm}
use Rattle.draid_names.specs.declared.arm.ArmAt.{ArmAt}
use Rattle.draid_names.specs.declared.arm.ArmKind.{ArmKind}
use Rattle.draid_names.specs.declared.arm.ArmKind.TheVariants as kind
use Rattle.draid_names.specs.declared.pass_kind.PassKind.TheVariants.{Rebuild, Heal}
use Rattle.draid_spec.specs.declared.layout.Geometry.{Geometry}
use Rattle.draid_rack.specs.declared.Rack as racks
use Rattle.draid_area.specs.declared.Area as areas
use Rattle.draid_machine.proofs.Small.{absurd_test, none_some, some_injective}
use Rattle.draid_pass.specs.declared.pass.Pass.{Pass}
use Rattle.draid_entries.specs.History.{reserved_of}
use Rattle.draid_slots.specs.Faults.{MayAttach}
use Rattle.draid_slots.specs.Table.{IsArmOf, IsTable, SlotTable, arm_at, arms_of, has_spare, is_leaf_kind, is_spare_of, was_spare_of}
use Rattle.draid_slots.specs.declared.slot.Detached.{Detached}
use Rattle.draid_shard.specs.Alike.{KeepsArms, ShareArms}
use Rattle.draid_shard.specs.Fits.{IsLeaf, is_rebuild}
use Rattle.draid_shard.specs.Part.{Part}
use Rattle.draid_shard.specs.declared.shard.Shard.{Shard}
use Rattle.draid_disks.specs.Disks.{HasArmRoom, HasAttached, IsNewLeaf, SamePass, arm_called, plain, plain_arms}
use Rattle.draid_disks.specs.Replanning.{MayReplan, attach_events}
use Rattle.draid_disks.proofs.Alike.{plains_same, share_attached}
use Rattle.draid_uber.specs.Uber.{next_leaf_of}
use Rattle.draid_pool.specs.Whole.{IsWhole}
use Rattle.draid_pool.specs.declared.pool.Pool.{Pool}
use Rattle.draid_changes.specs.Attaching.{Attaches, MayCome, MayComeAll}
use Rattle.draid_changes.specs.Making.{Makes}
use Rattle.draid_changes.specs.Walks.{ChangedBelow, Reserves}
use Rattle.draid_changes.specs.declared.need.Need.TheVariants as needs
use Rattle.draid_changes.proofs.Walk.{changed_at}
use Rattle.draid_changes.proofs.Whole.{SameOwn, whole_changed}

-- ---- an arm that may come to one table may come to another with the same arms

pub has_spare_plain : (spare : ℕ) (arms : List Arm) → has_spare (map plain arms) spare ≡ has_spare arms spare
has_spare_plain spare [] = refl
has_spare_plain spare (a ∷ arms) = ap (λ b. is_spare_of spare a || b) (has_spare_plain spare arms)

-- neither of two is so
neither : (a b c d : Bool) → (a || b) ≡ false → (c ≡ true → a ≡ true) → d ≡ b → (c || d) ≡ false
neither true b c d none first second = absurd_test true refl none
neither false true c d none first second = absurd_test true refl none
neither false false true d none first second = absurd_test false (first refl) refl
neither false false false d none first second = second

may_kept : (a b : SlotTable) (slot : ℕ) (arm : Arm) → KeepsArms a b → MayAttach a slot arm → MayAttach b slot arm
may_kept a b slot arm kept may = record {
  known = record {
    slot_there = subst (λ (g : Geometry). slot < g.spec.children) (sym kept.same.geometry_is) may.known.slot_there;
    spare_there = λ is. subst (λ (g : Geometry). arm.number < g.spec.spares) (sym kept.same.geometry_is) (may.known.spare_there is);
  };
  idle = λ is s. (λ i. has_spare (slice_index_or (kept.arms_stay i) s []) arm.number || was_spare_of (kept.detached_stay i) arm.number s) ∙ may.idle is s;
  some_room = subst (λ (arms : List (List Arm)). length (slice_index_or arms slot []) < 3) (sym kept.arms_stay) may.some_room;
}

may_shared : (a b : SlotTable) (slot : ℕ) (arm : Arm) → b.geometry ≡ a.geometry → ShareArms a b → IsTable b → MayAttach a slot arm → MayAttach b slot arm
may_shared a b slot arm same share sound may = record {
  known = record {
    slot_there = subst (λ (g : Geometry). slot < g.spec.children) (sym same) may.known.slot_there;
    spare_there = λ is. subst (λ (g : Geometry). arm.number < g.spec.spares) (sym same) (may.known.spare_there is);
  };
  idle = λ is s. neither (has_spare (arms_of a s) arm.number) (was_spare_of a.detached arm.number s) (has_spare (arms_of b s) arm.number) (was_spare_of b.detached arm.number s) (may.idle is s)
      (was s) (ap (λ (gone : List Detached). was_spare_of gone arm.number s) share.detached);
  some_room = (let many = (share.arms.slots slot may.known.slot_there).many in let few = may.some_room in omega (arith, many, few));
}
  where
    was : (s : ℕ) → has_spare (arms_of b s) arm.number ≡ true → has_spare (arms_of a s) arm.number ≡ true
    was s has = elim (cases_lt s (length b.arms)) [
      | inl less ↦
          (let count = sound.slots.children in
          let children = share.arms.children in
          let plains = plains_same (arms_of a s) (arms_of b s) (share.arms.slots s (omega (arith, less, count, children))) in
          sym (has_spare_plain arm.number (arms_of a s)) ∙ (ap (λ arms. has_spare arms arm.number) plains ∙ (has_spare_plain arm.number (arms_of b s) ∙ has)))
      | inr past ↦ absurd_test (has_spare (arms_of b s) arm.number) has (ap (λ (arms : List Arm). has_spare arms arm.number) (get_or_past b.arms s [] past))
    ]

-- a rebuild that can be planned again still can where the pass is as it was
same_rebuild : (old new : Option Pass) → SamePass old new → is_rebuild new ≡ is_rebuild old
same_rebuild None None same = refl
same_rebuild None (Some q) same = absurd same
same_rebuild (Some p) None same = absurd same
same_rebuild (Some p) (Some q) same = ap (λ k. elim k as (λ k. Bool) [ Rebuild ↦ true | Heal ↦ false ]) same.kind_is

-- ---- which leaves there are behind it

get_plain : (xs : List Arm) (k : ℕ) (x : Arm) → slice_get xs k ≡ Some x → slice_get (map plain xs) k ≡ Some (plain x)
get_plain [] k x at = absurd (none_some None x refl at)
get_plain (y ∷ ys) zero x at = ap (λ o. option_map plain o) at
get_plain (y ∷ ys) (suc k) x at = get_plain ys k x at

plain_got : (xs : List Arm) (k : ℕ) (x : Arm) → slice_get (map plain xs) k ≡ Some x → (y : Arm) × (slice_get xs k ≡ Some y) × (plain y ≡ x)
plain_got [] k x at = absurd (none_some None x refl at)
plain_got (y ∷ ys) zero x at = (y, refl, some_injective (plain y) x at)
plain_got (y ∷ ys) (suc k) x at = plain_got ys k x at

got_append : {X : Type 0} (xs : List X) (y : X) (k : ℕ) (x : X) → slice_get (xs ++ y ∷ []) k ≡ Some x → (slice_get xs k ≡ Some x) ⊎ (y ≡ x)
got_append [] y zero x at = inr (some_injective y x at)
got_append [] y (suc k) x at = absurd (none_some None x refl at)
got_append (z ∷ xs) y zero x at = inl at
got_append (z ∷ xs) y (suc k) x at = got_append xs y k x at

attached_leaf : (old new : SlotTable) (slot : ℕ) (arm : Arm) (leaf : ℕ) → HasAttached old new slot arm → IsLeaf new leaf → IsLeaf old leaf ⊎ ((arm.kind ≡ kind.Leaf) × (arm.number ≡ leaf))
attached_leaf old new slot arm leaf a (inr gone) = inl (inr (ap (λ (list : List Detached). list_any (λ (gone : Detached). is_leaf_kind gone.kind && (gone.number == leaf)) list) (sym a.detached_stay) ∙ gone))
attached_leaf old new slot arm leaf a (inl (at, b, there, kind_is, number)) =
    let now = get_plain (arms_of new at.slot) at.arm b there in
    elim (cases_eq at.slot slot) [
      | inl here ↦
          (let own : slice_get (plain_arms old slot ++ arm ∷ []) at.arm ≡ Some (plain b) = ap (λ xs. slice_get xs at.arm) (sym (ap (plain_arms new) here ∙ a.here)) ∙ now in
          elim (got_append (plain_arms old slot) arm at.arm (plain b) own) [
            | inl before ↦ inl (inl (was slot before))
            | inr is ↦ inr (ap (λ (x : Arm). x.kind) is ∙ kind_is, ap (λ (x : Arm). x.number) is ∙ number)
          ])
      | inr other ↦ inl (inl (was at.slot (ap (λ xs. slice_get xs at.arm) (sym (a.others at.slot other)) ∙ now)))
    ]
  where
    was : (s : ℕ) → slice_get (plain_arms old s) at.arm ≡ Some (plain b) → (place : ArmAt) × (o : Arm) × (arm_at old place ≡ Some o) × (o.kind ≡ kind.Leaf) × (o.number ≡ leaf)
    was s before =
        let z = plain_got (arms_of old s) at.arm (plain b) before in
        (record { slot = s; arm = at.arm }, z.0, z.1, ap (λ (x : Arm). x.kind) z.2 ∙ kind_is, ap (λ (x : Arm). x.number) z.2 ∙ number)

-- the last arm of the slot is the one that came
got_last : {X : Type 0} (xs : List X) (y : X) → slice_get (xs ++ y ∷ []) (length xs) ≡ Some y
got_last [] y = refl
got_last (x ∷ xs) y = got_last xs y

attached_arm : (old new : SlotTable) (slot : ℕ) (arm : Arm) → HasAttached old new slot arm → (k : ℕ) × IsArmOf arm.kind arm.number (arm_at new (record { slot = slot; arm = k }))
attached_arm old new slot arm a =
    let k = length (plain_arms old slot) in
    let z = plain_got (arms_of new slot) k arm (ap (λ xs. slice_get xs k) a.here ∙ got_last (plain_arms old slot) arm) in
    (k, (z.0, z.1, ap (λ (x : Arm). x.kind) z.2, ap (λ (x : Arm). x.number) z.2))

module _ {R A : Type 0} (rack : racks.Ghosts R) (area : areas.Ghosts A) where
  -- it is an arm of the slot in each metaslab
  pub came_to_all : (slot : ℕ) (k : ArmKind) (number : ℕ) (old new : List (Shard R A)) → ChangedBelow (Attaches rack slot k number) (length old) old new → (m : ℕ) (z : Shard R A) → slice_get new m ≡ Some z
      → (arm : ℕ) × IsArmOf k number (arm_at z.slots (record { slot = slot; arm = arm }))
  came_to_all slot k number old new c m z at = (let was = changed_at (Attaches rack slot k number) old new c m z at in attached_arm was.0.slots z.slots slot (arm_called k number) was.2.slots)

  -- the slots of a metaslab of a whole pool have the pool's layout
  pub slots_layout : (pool : Pool R A) (m : ℕ) (shard : Shard R A) → IsWhole rack area pool → slice_get pool.metaslabs.shards.items m ≡ Some shard → shard.slots.geometry ≡ pool.geometry
  slots_layout pool m shard w there = (let is = w.shards m shard there in is.valid.slots.geometry_is ∙ ap (λ (p : Part). p.geometry) is.part)

  -- ---- behind the reserving it may come to each

  pub may_come : (mid late : Pool R A) (slot : ℕ) (k : ArmKind) (number : ℕ) (first : Shard R A) → IsWhole rack area mid → IsWhole rack area late → slice_get mid.metaslabs.shards.items 0 ≡ Some first
      → MayComeAll first.slots mid.metaslabs.shards.items slot (arm_called k number)
      → ChangedBelow (Reserves needs.Attachment) (length mid.metaslabs.shards.items) mid.metaslabs.shards.items late.metaslabs.shards.items
      → ((m : ℕ) (z : Shard R A) → slice_get late.metaslabs.shards.items m ≡ Some z → IsNewLeaf rack z k number)
      → (m : ℕ) (z : Shard R A) → slice_get late.metaslabs.shards.items m ≡ Some z → MayCome rack slot k number z
  may_come mid late slot k number first w v there may c fresh m z at =
      let was = changed_at (Reserves needs.Attachment) mid.metaslabs.shards.items late.metaslabs.shards.items c m z at in
      let inside = slice_get_within mid.metaslabs.shards.items 0 first there in
      let one = c.below 0 first inside there in
      let again = may.again m was.0 was.1 in
      record {
        valid = (v.shards m z at).valid;
        reserved = was.2.reserved;
        room = record { slots = was.2.room.slots; targets = was.2.room.targets };
        leaf = fresh m z at;
        may = may_shared one.0.slots z.slots slot (arm_called k number) (slots_layout late m z v at ∙ sym (slots_layout late 0 one.0 v one.1)) (v.alike 0 m one.0 z one.1 at) was.2.sound
            (may_kept first.slots one.0.slots slot (arm_called k number) one.2.slots may.may);
        again = λ rebuild. (let low = again (sym (same_rebuild was.0.pass z.pass was.2.pass) ∙ rebuild) in
            let last = was.2.last in let group = was.2.groups.open_group_is in let under = low.0 in let below = low.1 in
            (omega (arith, under, last), omega (arith, below, group)));
      }

  -- and so behind the making of a leaf, of the next number
  pub may_come_made : (mid late made : Pool R A) (slot leaf : ℕ) (first : Shard R A) → IsWhole rack area mid → IsWhole rack area late → IsWhole rack area made → slice_get mid.metaslabs.shards.items 0 ≡ Some first
      → MayComeAll first.slots mid.metaslabs.shards.items slot (arm_called kind.Leaf leaf)
      → ChangedBelow (Reserves needs.Attachment) (length mid.metaslabs.shards.items) mid.metaslabs.shards.items late.metaslabs.shards.items
      → ChangedBelow (Makes rack leaf) (length late.metaslabs.shards.items) late.metaslabs.shards.items made.metaslabs.shards.items → next_leaf_of made.uber ≡ leaf
      → (m : ℕ) (z : Shard R A) → slice_get made.metaslabs.shards.items m ≡ Some z → MayCome rack slot kind.Leaf leaf z
  may_come_made mid late made slot leaf first w v n there may reserved makes next m z at =
      let was = changed_at (Makes rack leaf) late.metaslabs.shards.items made.metaslabs.shards.items makes m z at in
      let before = changed_at (Reserves needs.Attachment) mid.metaslabs.shards.items late.metaslabs.shards.items reserved m was.0 was.1 in
      may_of was.0 before.0 was.1 before.1 before.2 was.2
    where
      may_of : (old before : Shard R A) → slice_get late.metaslabs.shards.items m ≡ Some old → slice_get mid.metaslabs.shards.items m ≡ Some before → Reserves needs.Attachment before old → Makes rack leaf old z → MayCome rack slot kind.Leaf leaf z
      may_of old before at_old at_before r made_is =
          let inside = slice_get_within mid.metaslabs.shards.items 0 first there in
          let one = reserved.below 0 first inside there in
          let again = may.again m before at_before in
          let part : MayAttach old.slots slot (arm_called kind.Leaf leaf)
          = may_shared one.0.slots old.slots slot (arm_called kind.Leaf leaf) (slots_layout late m old v at_old ∙ sym (slots_layout late 0 one.0 v one.1)) (v.alike 0 m one.0 old one.1 at_old) r.sound
          (may_kept first.slots one.0.slots slot (arm_called kind.Leaf leaf) one.2.slots may.may) in
          record {
            valid = (n.shards m z at).valid;
            reserved = subst (λ (s : Shard R A). attach_events s.pass ≤ reserved_of s.history) (sym made_is.rest) r.reserved;
            room = subst (λ (s : Shard R A). HasArmRoom s) (sym made_is.rest) (record { slots = r.room.slots; targets = r.room.targets });
            leaf = record { unused = λ is own. (let low = (n.shards m z at).leaves leaf own in omega (arith, low, next)); made = λ is. made_is.made };
            may = subst (λ (s : Shard R A). MayAttach s.slots slot (arm_called kind.Leaf leaf)) (sym made_is.rest) part;
            again = subst (λ (s : Shard R A). MayReplan s.pass s.last_pass s.open_group) (sym made_is.rest)
                (λ rebuild. (let low = again (sym (same_rebuild before.pass old.pass r.pass) ∙ rebuild) in
                let last = r.last in let group = r.groups.open_group_is in let under = low.0 in let below = low.1 in
                (omega (arith, under, last), omega (arith, below, group))));
          }

  -- ---- the pool stays whole

  pub attached_whole : (slot : ℕ) (k : ArmKind) (number : ℕ) (late new : Pool R A) → IsWhole rack area late → ChangedBelow (Attaches rack slot k number) (length late.metaslabs.shards.items) late.metaslabs.shards.items new.metaslabs.shards.items
      → SameOwn late new → (k ≡ kind.Leaf → number < next_leaf_of late.uber) → IsWhole rack area new
  attached_whole slot k number late new w c set low =
      whole_changed rack area (Attaches rack slot k number) late new w c set
      (λ old now s. record { valid = s.valid; part = s.does.part; entries = s.keeps.entries; committed = s.keeps.groups.committed; opens = (let same = s.keeps.groups.open_group_is in omega (arith, same)) })
      (λ j now at other own.
      (let was = changed_at (Attaches rack slot k number) late.metaslabs.shards.items new.metaslabs.shards.items c j now at in
      subst (λ u. other < next_leaf_of u) (sym set.uber) (elim (attached_leaf was.0.slots now.slots slot (arm_called k number) other was.2.slots own) [
        | inl before ↦ (w.shards j was.0 was.1).leaves other before
        | inr came ↦ (let less = low came.0 in let same = came.1 in omega (arith, less, same))
      ])))
      (λ m n a b at here.
      (let p = changed_at (Attaches rack slot k number) late.metaslabs.shards.items new.metaslabs.shards.items c m a at in
      let q = changed_at (Attaches rack slot k number) late.metaslabs.shards.items new.metaslabs.shards.items c n b here in
      share_attached p.0.slots q.0.slots a.slots b.slots slot (arm_called k number) (stays m p.0 a p.1 p.2) (stays n q.0 b q.1 q.2) (w.alike m n p.0 q.0 p.1 q.1) p.2.slots q.2.slots))
    where
      stays : (m : ℕ) (old now : Shard R A) → slice_get late.metaslabs.shards.items m ≡ Some old → Attaches rack slot k number old now → now.slots.geometry ≡ old.slots.geometry
      stays m old now there s = s.valid.slots.geometry_is ∙ (ap (λ (p : Part). p.geometry) s.does.part ∙ sym (w.shards m old there).valid.slots.geometry_is)
