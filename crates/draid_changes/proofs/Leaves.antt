-- What offline and online leave of a leaf's arms in each metaslab.
use Rattle.std.proofs.Common.{◌≡◌, ◌==◌, ◌<◌, ◌∙◌, [], inl, inr, ℕ, Bool, List, Option, Some, None, Err, arith, refl, sym, ap, subst, length, slice_get, if◌then◌else◌}
use Rattle.std.specs.Prelude.{option_map}
use Rattle.std.proofs.lemmas.Bool.{cases_lt}
use Rattle.std.proofs.lemmas.List.{get_or_past}
use Rattle.std.proofs.lemmas.Option.{slice_get_within}
use Rattle.draid_names.specs.declared.arm.Arm.{Arm}
use Rattle.draid_names.specs.declared.arm.ArmKind.TheVariants as kind
use Rattle.draid_rack.specs.declared.Rack as racks
use Rattle.draid_area.specs.declared.Area as areas
use Rattle.draid_machine.proofs.Small.{equal, none_some, true_both}
use Rattle.draid_slots.specs.Changes.{ChangesArms, switched, switched_arm}
use Rattle.draid_slots.specs.Table.{IsTable, SlotTable, arms_of, is_leaf_kind}
use Rattle.draid_shard.specs.Alike.{HaveSameArms}
use Rattle.draid_shard.specs.declared.shard.Shard.{Shard}
use Rattle.draid_disks.specs.Disks.{IsLeafArm}
use Rattle.draid_pool.specs.Whole.{IsWhole}
use Rattle.draid_pool.specs.declared.fault.SyncFault.{SyncFault}
use Rattle.draid_pool.specs.declared.fault.SyncFault.TheVariants as sync
use Rattle.draid_pool.specs.declared.pool.Pool.{Pool}
use Rattle.draid_pool.proofs.Lists.{present}
use Rattle.draid_changes.specs.Answers.{IsFor}
use Rattle.draid_changes.specs.Behind.{AllSwitched, DiskIs, HasLeaf, IsSwitched, LeafIs, NoneHas, SpareIs}
use Rattle.draid_changes.specs.Walks.{ChangedBelow, MaySwitch, Switches}
use Rattle.draid_changes.specs.declared.fault.ArmFault.{ArmFault}
use Rattle.draid_changes.proofs.Walk.{changed_at}
use Rattle.draid_changes.proofs.Whole.{same_kind, was_there}

-- a leaf that is an arm of one of the slots that there are is one where the arms are the same
pub leaf_shared : (a b : SlotTable) (leaf : ℕ) → HaveSameArms a b → HasLeaf a leaf → HasLeaf b leaf
leaf_shared a b leaf share (at, low, (arm, there, kind_is, number)) =
    let slots = share.slots at.slot low in
    let long = slice_get_within (arms_of a at.slot) at.arm arm there in
    let many = slots.many in
    let z = present (arms_of b at.slot) at.arm (omega (arith, long, many)) in
    let same = slots.each at.arm arm z.0 there z.1 in
    (at, subst (λ n. at.slot < n) (sym share.children) low, (z.0, z.1, sym same.kind_is ∙ kind_is, sym same.number_is ∙ number))

-- it is one of a slot
pub leaf_arm : (slots : SlotTable) (leaf : ℕ) → HasLeaf slots leaf → IsLeafArm slots leaf
leaf_arm slots leaf has = (has.0, has.2)

-- and one of a slot of a table is one of those that there are
pub leaf_inside : (a : SlotTable) (leaf : ℕ) → IsTable a → IsLeafArm a leaf → HasLeaf a leaf
leaf_inside a leaf sound (at, (arm, there, kind_is, number)) = (at, inside, (arm, there, kind_is, number))
  where
    inside : at.slot < a.geometry.spec.children
    inside = elim (cases_lt at.slot (length a.arms)) [
      | inl less ↦ (let count = sound.slots.children in omega (arith, less, count))
      | inr past ↦ absurd (none_some None arm refl (ap (λ arms. slice_get arms at.arm) (sym (get_or_past a.arms at.slot [] past)) ∙ there))
    ]

-- it stays one as it is switched
arm_switched : (leaf : ℕ) (offline : Bool) (a : Arm) → a.kind ≡ kind.Leaf → a.number ≡ leaf → (switched_arm leaf offline a).offline ≡ offline
arm_switched leaf offline a kind_is number =
    ap (λ (b : Bool). (if b then record a { offline = offline } else a).offline) (true_both (is_leaf_kind a.kind) (a.number == leaf) (ap is_leaf_kind kind_is) (equal a.number leaf number))

pub is_switched : (old new : SlotTable) (leaf : ℕ) (offline : Bool) → ChangesArms old new (switched leaf offline) → IsLeafArm old leaf → IsSwitched new leaf offline
is_switched old new leaf offline c (at, (arm, there, kind_is, number)) = record {
  there = (at, (switched_arm leaf offline arm, c.arms_are at ∙ ap (option_map (switched leaf offline at)) there, (same_kind leaf offline arm).0 ∙ kind_is, (same_kind leaf offline arm).1 ∙ number));
  switched = λ place b here leaf_kind called.
      (let z = was_there old new leaf offline c place b here in
      let same = same_kind leaf offline z.0 in
      ap (λ (x : Arm). x.offline) (sym z.2) ∙ arm_switched leaf offline z.0 (sym same.0 ∙ (ap (λ (x : Arm). x.kind) z.2 ∙ leaf_kind)) (sym same.1 ∙ (ap (λ (x : Arm). x.number) z.2 ∙ called)));
}

module _ {R A : Type 0} (rack : racks.Ghosts R) (area : areas.Ghosts A) where
  -- a closing group couldn't be committed
  pub leaf_unfinished : (leaf : ℕ) (offline : Bool) (why : SyncFault) (fault : ArmFault) (shards : List (Shard R A)) → IsFor why fault → LeafIs leaf offline (Err fault) shards
  leaf_unfinished leaf offline sync.Worn fault shards is = subst (λ f. LeafIs leaf offline (Err f) shards) (sym is) tt
  leaf_unfinished leaf offline sync.Last fault shards is = absurd is
  leaf_unfinished leaf offline sync.Shelf fault shards is = subst (λ f. LeafIs leaf offline (Err f) shards) (sym is) tt
  leaf_unfinished leaf offline sync.NoMemory fault shards is = subst (λ f. LeafIs leaf offline (Err f) shards) (sym is) tt

  pub spare_unfinished : (slot spare : ℕ) (why : SyncFault) (fault : ArmFault) (shards : List (Shard R A)) → IsFor why fault → SpareIs slot spare (Err fault) shards
  spare_unfinished slot spare sync.Worn fault shards is = subst (λ f. SpareIs slot spare (Err f) shards) (sym is) tt
  spare_unfinished slot spare sync.Last fault shards is = absurd is
  spare_unfinished slot spare sync.Shelf fault shards is = subst (λ f. SpareIs slot spare (Err f) shards) (sym is) tt
  spare_unfinished slot spare sync.NoMemory fault shards is = subst (λ f. SpareIs slot spare (Err f) shards) (sym is) tt

  pub disk_unfinished : (slot : ℕ) (sectors : Option ℕ) (why : SyncFault) (fault : ArmFault) (pool : Pool R A) → IsFor why fault → DiskIs slot sectors (Err fault) pool
  disk_unfinished slot sectors sync.Worn fault pool is = subst (λ f. DiskIs slot sectors (Err f) pool) (sym is) tt
  disk_unfinished slot sectors sync.Last fault pool is = absurd is
  disk_unfinished slot sectors sync.Shelf fault pool is = subst (λ f. DiskIs slot sectors (Err f) pool) (sym is) tt
  disk_unfinished slot sectors sync.NoMemory fault pool is = subst (λ f. DiskIs slot sectors (Err f) pool) (sym is) tt

  -- what is no arm of the first metaslab is none of any
  pub none_has : (pool : Pool R A) (leaf : ℕ) (first : Shard R A) → IsWhole rack area pool → slice_get pool.metaslabs.shards.items 0 ≡ Some first → (IsLeafArm first.slots leaf → ⊥) → NoneHas leaf pool.metaslabs.shards.items
  none_has pool leaf first w there none m z at has = none (leaf_arm first.slots leaf (leaf_shared z.slots first.slots leaf (w.alike m 0 z first at there).arms has))

  -- it was switched in each
  pub all_switched : (leaf : ℕ) (offline : Bool) (old new : List (Shard R A)) → ((m : ℕ) (z : Shard R A) → slice_get old m ≡ Some z → MaySwitch rack leaf z) → ChangedBelow (Switches rack leaf offline) (length old) old new
      → AllSwitched leaf offline new
  all_switched leaf offline old new may c m z at =
      let was = changed_at (Switches rack leaf offline) old new c m z at in
      is_switched was.0.slots z.slots leaf offline was.2.slots (leaf_arm was.0.slots leaf (may m was.0 was.1).arm)
