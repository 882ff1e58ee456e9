-- A leaf goes offline in all metaslabs of a pool or comes back, or that is refused.
use Rattle.std.proofs.Common.{◌≡◌, ◌≢◌, ◌<◌, ◌∙◌, ℕ, Bool, true, List, Option, Some, None, Ok, Err, refl, sym, ap, subst, length, arith}
use Rattle.std.specs.Prelude.{option_map, slice_get}
use Rattle.draid_names.specs.declared.arm.Arm.{Arm}
use Rattle.draid_names.specs.declared.arm.ArmKind.{ArmKind}
use Rattle.draid_names.specs.declared.arm.ArmKind.TheVariants as kind
use Rattle.draid_names.specs.declared.refusal.SlotFault.{SlotFault}
use Rattle.draid_names.specs.declared.refusal.SlotFault.TheVariants as slot
use Rattle.draid_rack.specs.declared.Rack as racks
use Rattle.draid_area.specs.declared.Area as areas
use Rattle.draid_machine.specs.declared.names.ArmName.TheVariants.{Leaf}
use Rattle.draid_machine.specs.Names.{has_name, named}
use Rattle.draid_spec.specs.declared.layout.Geometry.{Geometry}
use Rattle.draid_machine.proofs.Fitted.{every_fit}
use Rattle.draid_machine.proofs.Small.{none_some}
use Rattle.draid_segments.specs.Segments.{Pieces}
use Rattle.draid_slots.specs.States.{name_of}
use Rattle.draid_slots.specs.Table.{IsTable, arms_of}
use Rattle.draid_shard.specs.Part.{Part, layout_in}
use Rattle.draid_shard.specs.States.{layout_by, part_of}
use Rattle.draid_shard.specs.declared.shard.Shard.{Shard}
use Rattle.draid_shard.proofs.Answering.{name_found, name_listed}
use Rattle.draid_shard.proofs.Homes.{lays}
use Rattle.draid_disks.specs.Disks.{IsLeafArm}
use Rattle.draid_uber.specs.Uber.{next_leaf_of}
use Rattle.draid_session.specs.Arms as arms
use Rattle.draid_session.specs.Holds.{UberView, view_of}
use Rattle.draid_session.specs.Phases.{Chain, End, Went}
use Rattle.draid_session.specs.State.{Metaslab, State}
use Rattle.draid_pool.specs.Carries.{CarriesOut}
use Rattle.draid_pool.specs.Metaslabs.{IsMetaslab}
use Rattle.draid_pool.specs.Pools.{Represents, part_in}
use Rattle.draid_pool.specs.Syncing.{AreIdle, Phase}
use Rattle.draid_pool.specs.Whole.{IsWhole}
use Rattle.draid_pool.specs.Views.{seen_at}
use Rattle.draid_pool.specs.declared.pool.Pool.{Pool}
use Rattle.draid_pool.proofs.Arms.{shares_kept}
use Rattle.draid_pool.proofs.SyncCalls.{then_phase}
use Rattle.draid_changes.specs.Answers.{EndsIn, SwitchDoes}
use Rattle.draid_changes.specs.Behind.{HasLeaf}
use Rattle.draid_changes.specs.declared.fault.ArmFault.{ArmFault}
use Rattle.draid_changes.specs.declared.need.Need.TheVariants as needs
use Rattle.draid_changes.specs.Walks.{ChangedBelow, MaySwitch, Reserves, Switches, switch_event}
use Rattle.draid_changes.proofs.Begun.{BreaksIs, ComesTo, DoesIs, Finished, chain_stops, first_of, first_seen, goes, refused, seen_first, stops_so, uber_of}
use Rattle.draid_changes.proofs.Events.{events_done, unsealed}
use Rattle.draid_changes.proofs.Leaves.{leaf_arm, leaf_inside, leaf_shared}
use Rattle.draid_changes.proofs.Switched.{switch_turns, switched_shared}
use Rattle.draid_changes.proofs.Walk.{changed_at}
use Rattle.draid_changes.proofs.Whole.{SameOwn, switched_leaf, switched_share, whole_changed}

-- a leaf of a name
pub leaf_of_name : (k : ArmKind) (n leaf : ℕ) → named k n ≡ Leaf leaf → (k ≡ kind.Leaf) × (n ≡ leaf)
leaf_of_name kind.Leaf n leaf is = (refl, (let same : n ≡ leaf = cc in same))
leaf_of_name kind.Spare n leaf is = absurd (cc)

module _ {R A : Type 0} (rack : racks.Ghosts R) (area : areas.Ghosts A) where
  -- a leaf is an arm of the shard just where it is one of its metaslab
  pub leaf_there : (x : State) (m : ℕ) (pieces : Pieces) (shard : Shard R A) (y : Metaslab) (leaf : ℕ) → IsMetaslab rack area (part_in x m) pieces shard y → IsLeafArm shard.slots leaf
      → arms.IsArmLeaf x.geometry x.perms leaf (view_of m y)
  leaf_there x m pieces shard y leaf is (at, (arm, there, kind_is, number)) =
      let name : name_of arm ≡ Leaf leaf = ap (λ k. named k arm.number) kind_is ∙ ap (λ (n : ℕ). Leaf n) number in
      let listed : has_name (y.world.core.order at.slot) (Leaf leaf) ≡ true
      = ap (λ ns. has_name ns (Leaf leaf)) (is.stands.is_in.slots.order at.slot) ∙ name_listed (arms_of shard.slots at.slot) at.arm (Leaf leaf) (ap (option_map name_of) there ∙ ap Some name) in
      let fits = every_fit (layout_by shard) y.world (lays (part_of shard) is.valid.part) is.stands.reached in
      let inside = fits.core.order.slots at.slot (Leaf leaf) listed in
      (at.slot, subst (λ (p : Part). at.slot < (layout_in p).slots) is.part_is inside, listed)

  pub leaf_here : (x : State) (m : ℕ) (pieces : Pieces) (shard : Shard R A) (y : Metaslab) (leaf : ℕ) → IsMetaslab rack area (part_in x m) pieces shard y
      → arms.IsArmLeaf x.geometry x.perms leaf (view_of m y) → HasLeaf shard.slots leaf
  leaf_here x m pieces shard y leaf is (slot, below, listed) =
      let z = name_found (arms_of shard.slots slot) (Leaf leaf) (ap (λ ns. has_name ns (Leaf leaf)) (sym (is.stands.is_in.slots.order slot)) ∙ listed) in
      by z.0 (slice_get (arms_of shard.slots slot) z.0) refl z.2
    where
      inside : slot < shard.slots.geometry.spec.children
      inside = subst (λ (g : Geometry). slot < g.spec.children) (sym (is.valid.slots.geometry_is ∙ ap (λ (p : Part). p.geometry) is.part_is)) below

      by : (k : ℕ) (o : Option Arm) → slice_get (arms_of shard.slots slot) k ≡ o → option_map name_of o ≡ Some (Leaf leaf) → HasLeaf shard.slots leaf
      by k None at is = absurd (none_some None (Leaf leaf) refl is)
      by k (Some arm) at is =
          let name : name_of arm ≡ Leaf leaf = cc in
          let own = leaf_of_name arm.kind arm.number leaf name in
          (record { slot = slot; arm = k }, inside, (arm, at, own.0, own.1))

  -- ---- the rules, and what is done

  abbrev Breaks : ℕ → BreaksIs
  Breaks leaf g p = arms.NoLeaf g p leaf

  abbrev Does : ℕ → Bool → DoesIs
  Does leaf offline g p = arms.Switches g p (switch_event leaf offline)

  -- the leaf is no arm
  pub switch_refused : (mid : Pool R A) (x : State) (leaf : ℕ) (first : Shard R A) → Finished rack area mid x → slice_get mid.metaslabs.shards.items 0 ≡ Some first
      → (IsLeafArm first.slots leaf → ⊥) → CarriesOut rack area mid x (λ holds store. (store ≡ x.store) × arms.Refuses x.geometry x.perms (arms.NoLeaf x.geometry x.perms leaf) slot.NoSuch holds)
  switch_refused mid x leaf first c there none =
      refused rack area (Breaks leaf) mid x slot.NoSuch c
      (λ y r. (let z = first_of rack area mid y first r there in
      seen_first (λ v. arms.IsArmLeaf y.geometry y.perms leaf v → ⊥) y.metaslabs z.y z.at (λ is. none (leaf_arm first.slots leaf (leaf_here y 0 (r.stands.pieces 0) first z.y leaf z.is is)))))

  pub not_broken : (x : State) (leaf : ℕ) (why : SlotFault) (y : Metaslab) (ys : List Metaslab) (u : UberView) → slice_get ys 0 ≡ Some y → arms.IsArmLeaf x.geometry x.perms leaf (view_of 0 y)
      → arms.NoLeaf x.geometry x.perms leaf (seen_at 0 ys) u why → ⊥
  not_broken x leaf slot.NoSuch y ys u there is broken = first_seen (λ v. arms.IsArmLeaf x.geometry x.perms leaf v → ⊥) ys y there broken is
  not_broken x leaf (slot.SpareBusy n) y ys u there is broken = broken
  not_broken x leaf (slot.LogNotEmpty n) y ys u there is broken = broken
  not_broken x leaf slot.LastArm y ys u there is broken = broken
  not_broken x leaf (slot.PassRunning m n) y ys u there is broken = broken
  not_broken x leaf (slot.TooSmall m n) y ys u there is broken = broken
  not_broken x leaf (slot.Full n) y ys u there is broken = broken
  not_broken x leaf slot.Last y ys u there is broken = broken

  -- it is one, and what is done then comes to this end
  pub switch_goes : (mid new : Pool R A) (x : State) (leaf : ℕ) (offline : Bool) (end : End) (first : Shard R A) → Finished rack area mid x
      → slice_get mid.metaslabs.shards.items 0 ≡ Some first → IsLeafArm first.slots leaf
      → ((y : State) → Represents rack area mid y → CarriesOut rack area new y (Phase y (Chain (arms.ReservePhase y.geometry y.perms (λ v. 1)) (arms.EventPhase y.geometry y.perms (switch_event leaf offline))) end))
      → CarriesOut rack area new x (λ holds store. (store ≡ x.store) × ComesTo rack area (Breaks leaf) (Does leaf offline) x end holds)
  switch_goes mid new x leaf offline end first c there is next =
      goes rack area (Breaks leaf) (Does leaf offline) mid new x end c
      (λ y r why broken. (let z = first_of rack area mid y first r there in not_broken y leaf why z.y y.metaslabs (uber_of y) z.at (leaf_there y 0 (r.stands.pieces 0) first z.y leaf z.is is) broken)) next

  -- a metaslab couldn't reserve an event
  pub switch_stopped : (mid new : Pool R A) (x : State) (leaf : ℕ) (offline : Bool) (fault : ArmFault) (end : End) (first : Shard R A) → Finished rack area mid x
      → slice_get mid.metaslabs.shards.items 0 ≡ Some first → IsLeafArm first.slots leaf → end ≢ Went → EndsIn fault end
      → ((y : State) → Represents rack area mid y → CarriesOut rack area new y (Phase y (arms.ReservePhase y.geometry y.perms (λ v. 1)) end)) → CarriesOut rack area new x (SwitchDoes x leaf offline (Err fault))
  switch_stopped mid new x leaf offline fault end first c there is stopped ends next =
      stops_so rack area (Breaks leaf) (Does leaf offline) new x fault end ends
      (switch_goes mid new x leaf offline end first c there is
      (λ y r. chain_stops rack area (λ g p. arms.ReservePhase g p (λ v. 1)) (λ g p. arms.EventPhase g p (switch_event leaf offline)) new y end stopped (next y r)))

  -- an event was reserved in each metaslab, and came there
  pub switch_done : (mid late new : Pool R A) (x : State) (leaf : ℕ) (offline : Bool) (first : Shard R A) → Finished rack area mid x
      → slice_get mid.metaslabs.shards.items 0 ≡ Some first → IsLeafArm first.slots leaf → ((y : State) → Represents rack area mid y → CarriesOut rack area late y (Phase y (arms.ReservePhase y.geometry y.perms (λ v. 1)) Went))
      → AreIdle late.metaslabs.shards.items → ChangedBelow (Switches rack leaf offline) (length late.metaslabs.shards.items) late.metaslabs.shards.items new.metaslabs.shards.items → SameOwn late new
      → CarriesOut rack area new x (SwitchDoes x leaf offline (Ok tt))
  switch_done mid late new x leaf offline first c there is reserve idle changes set =
      switch_goes mid new x leaf offline Went first c there is
      (λ y r. then_phase rack area late new y (λ g p. arms.ReservePhase g p (λ v. 1)) (λ g p. arms.EventPhase g p (switch_event leaf offline)) Went (reserve y r)
      (λ z s. events_done rack area (Switches rack leaf offline) late new changes set (switch_event leaf offline) z s (switched_shared s.stands.shared leaf offline)
      (record { kept = s.stands.versions.kept; now = s.stands.versions.now })
      (λ m pieces shard w y there is t alike.
      switch_turns rack area z s.stands.shared leaf offline shard w t (part_in z m) pieces y is (unsealed rack area (part_in z m) pieces shard y is (idle m shard there)) alike)))

  -- ---- the metaslabs

  -- the leaf is an arm of each, and an event is reserved there
  pub may_switch : (mid late : Pool R A) (leaf : ℕ) (first : Shard R A) → IsWhole rack area mid → IsWhole rack area late → slice_get mid.metaslabs.shards.items 0 ≡ Some first → IsTable first.slots → IsLeafArm first.slots leaf
      → ChangedBelow (Reserves needs.Event) (length mid.metaslabs.shards.items) mid.metaslabs.shards.items late.metaslabs.shards.items → (m : ℕ) (z : Shard R A) → slice_get late.metaslabs.shards.items m ≡ Some z → MaySwitch rack leaf z
  may_switch mid late leaf first w v there sound is c m z at =
      let was = changed_at (Reserves needs.Event) mid.metaslabs.shards.items late.metaslabs.shards.items c m z at in
      record {
        valid = (v.shards m z at).valid;
        reserved = was.2.reserved;
        arm = leaf_shared was.0.slots z.slots leaf (shares_kept was.0.slots z.slots was.2.slots).arms
            (leaf_shared first.slots was.0.slots leaf (w.alike 0 m first was.0 there was.1).arms (leaf_inside first.slots leaf sound is));
      }

  pub switched_whole : (leaf : ℕ) (offline : Bool) (late new : Pool R A) → IsWhole rack area late → ChangedBelow (Switches rack leaf offline) (length late.metaslabs.shards.items) late.metaslabs.shards.items new.metaslabs.shards.items
      → SameOwn late new → IsWhole rack area new
  switched_whole leaf offline late new w c set =
      whole_changed rack area (Switches rack leaf offline) late new w c set
      (λ old now s. record { valid = s.valid; part = s.does.part; entries = s.keeps.entries; committed = s.keeps.groups.committed; opens = (let same = s.keeps.groups.open_group_is in omega (arith, same)) })
      (λ k now at other own.
      (let was = changed_at (Switches rack leaf offline) late.metaslabs.shards.items new.metaslabs.shards.items c k now at in
      subst (λ u. other < next_leaf_of u) (sym set.uber) ((w.shards k was.0 was.1).leaves other (switched_leaf was.0.slots now.slots leaf offline was.2.slots other own))))
      (λ m n a b at here.
      (let p = changed_at (Switches rack leaf offline) late.metaslabs.shards.items new.metaslabs.shards.items c m a at in
      let q = changed_at (Switches rack leaf offline) late.metaslabs.shards.items new.metaslabs.shards.items c n b here in
      switched_share leaf offline p.0.slots q.0.slots a.slots b.slots p.2.slots q.2.slots (w.alike m n p.0 q.0 p.1 q.1)))
