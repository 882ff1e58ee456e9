-- A new disk comes to a slot in all metaslabs of a pool, or that is refused.
use Rattle.std.proofs.Common.{◌≡◌, ◌≢◌, ◌+◌, ◌∙◌, ℕ, Option, Some, Ok, Err, arith, ap, length, slice_get}
use Rattle.draid_names.specs.declared.arm.ArmKind.TheVariants as kind
use Rattle.draid_names.specs.declared.refusal.SlotFault.{SlotFault}
use Rattle.draid_rack.specs.declared.Rack as racks
use Rattle.draid_area.specs.declared.Area as areas
use Rattle.draid_machine.specs.declared.event.Event.TheVariants.{Attach}
use Rattle.draid_machine.specs.declared.names.ArmName.TheVariants.{Leaf}
use Rattle.draid_shard.specs.declared.shard.Shard.{Shard}
use Rattle.draid_uber.specs.Uber.{next_leaf_of}
use Rattle.draid_uber.specs.declared.uber.Uber.{Uber}
use Rattle.draid_session.specs.Arms as arms
use Rattle.draid_session.specs.Phases.{Chain, End, Went}
use Rattle.draid_session.specs.State.{State}
use Rattle.draid_pool.specs.Carries.{CarriesOut}
use Rattle.draid_pool.specs.Pools.{Represents, part_in}
use Rattle.draid_pool.specs.Syncing.{AreIdle, Phase}
use Rattle.draid_pool.specs.Views.{seen_at}
use Rattle.draid_pool.specs.declared.pool.Pool.{Pool}
use Rattle.draid_pool.proofs.Steps.{carries_so}
use Rattle.draid_pool.proofs.SyncCalls.{then_phase}
use Rattle.draid_changes.specs.Answers.{ChangeStops, EndsIn, ReplaceDoes}
use Rattle.draid_changes.specs.Attaching.{Attaches, IsReplaceBarred, MayReplace}
use Rattle.draid_changes.specs.Making.{Makes}
use Rattle.draid_changes.specs.Walks.{ChangedBelow, events_at}
use Rattle.draid_changes.specs.declared.fault.ArmFault.{ArmFault}
use Rattle.draid_changes.specs.declared.fault.ArmFault.TheVariants as armed
use Rattle.draid_changes.specs.declared.need.Need.TheVariants as needs
use Rattle.draid_changes.proofs.Attached.{attach_turns, attached_shared}
use Rattle.draid_changes.proofs.Barred.{disk_barred, disk_may}
use Rattle.draid_changes.proofs.Begun.{BreaksIs, ComesTo, DoesIs, Finished, PhaseIs, chain_stops, goes, refused, stops_so, uber_of}
use Rattle.draid_changes.proofs.Events.{events_done, unsealed}
use Rattle.draid_changes.proofs.Numbered.{SetsLeaf, numbers_done}
use Rattle.draid_changes.proofs.Walk.{changed_at}
use Rattle.draid_changes.proofs.Whole.{SameOwn}

abbrev pub DiskBreaks : ℕ → Option ℕ → BreaksIs
DiskBreaks slot sectors g p = arms.BreaksDisk g p slot sectors

abbrev pub DiskComes : ℕ → ℕ → DoesIs
DiskComes slot leaf g p = arms.AttachesDisk g p slot leaf

abbrev pub Reserving : PhaseIs
Reserving g p = arms.ReservePhase g p (events_at needs.Attachment)

abbrev pub Making : ℕ → PhaseIs
Making leaf g p = arms.MakePhase g p leaf

-- what follows the making
abbrev pub Coming : ℕ → ℕ → PhaseIs
Coming slot leaf g p = Chain (arms.Numbers g p (leaf + 1)) (arms.EventPhase g p (Attach slot (Leaf leaf)))

abbrev pub Ending : ℕ → ℕ → PhaseIs
Ending slot leaf g p = Chain (Making leaf g p) (Coming slot leaf g p)

module _ {R A : Type 0} (rack : racks.Ghosts R) (area : areas.Ghosts A) (mid : Pool R A) (x : State) (slot leaf : ℕ) (sectors : Option ℕ) (first : Shard R A) (c : Finished rack area mid x)
    (there : slice_get mid.metaslabs.shards.items 0 ≡ Some first) (next : leaf ≡ next_leaf_of mid.uber) where
  -- a rule forbids it
  pub disk_refused : (why : SlotFault) → IsReplaceBarred first.slots mid.metaslabs.shards.items slot leaf sectors why → CarriesOut rack area mid x (ReplaceDoes x slot sectors (Err (armed.Slot why)))
  disk_refused why barred =
      carries_so rack area mid x (λ holds store. (store ≡ x.store) × arms.Refuses x.geometry x.perms (arms.BreaksDisk x.geometry x.perms slot sectors) why holds) (ReplaceDoes x slot sectors (Err (armed.Slot why)))
      (refused rack area (DiskBreaks slot sectors) mid x why c (λ y r. disk_barred rack area mid y r first there slot leaf sectors why (next ∙ r.stands.uber.next_leaf) barred)) (λ holds store done. (leaf, done))

  module _ (may : MayReplace first.slots mid.metaslabs.shards.items slot leaf sectors) where
    -- none does, and what is done then comes to this end
    disk_goes : (new : Pool R A) (end : End) → ((y : State) → Represents rack area mid y → CarriesOut rack area new y (Phase y (Chain (Reserving y.geometry y.perms) (Ending slot leaf y.geometry y.perms)) end))
        → CarriesOut rack area new x (λ holds store. (store ≡ x.store) × ComesTo rack area (DiskBreaks slot sectors) (DiskComes slot leaf) x end holds)
    disk_goes new end does =
        goes rack area (DiskBreaks slot sectors) (DiskComes slot leaf) mid new x end c (λ y r why broken. disk_may rack area mid y r first there slot leaf sectors why (next ∙ r.stands.uber.next_leaf) may broken)
        (λ y r. carries_so rack area new y (Phase y (Chain (Reserving y.geometry y.perms) (Ending slot leaf y.geometry y.perms)) end)
        (Phase y (arms.AttachesDisk y.geometry y.perms slot leaf (seen_at 0 y.metaslabs) (uber_of y)) end) (does y r) (λ holds store done. (done.0, (next ∙ r.stands.uber.next_leaf, done.1))))

    disk_stops : (new : Pool R A) (fault : ArmFault) (end : End) → EndsIn fault end
        → ((y : State) → Represents rack area mid y → CarriesOut rack area new y (Phase y (Chain (Reserving y.geometry y.perms) (Ending slot leaf y.geometry y.perms)) end)) → CarriesOut rack area new x (ReplaceDoes x slot sectors (Err fault))
    disk_stops new fault end ends does =
        carries_so rack area new x (ChangeStops x (arms.BreaksDisk x.geometry x.perms slot sectors) (arms.AttachesDisk x.geometry x.perms slot leaf) fault) (ReplaceDoes x slot sectors (Err fault))
        (stops_so rack area (DiskBreaks slot sectors) (DiskComes slot leaf) new x fault end ends (disk_goes new end does)) (λ holds store done. (leaf, done))

    -- events couldn't be reserved in a metaslab
    pub disk_unreserved : (new : Pool R A) (fault : ArmFault) (end : End) → end ≢ Went → EndsIn fault end
        → ((y : State) → Represents rack area mid y → CarriesOut rack area new y (Phase y (Reserving y.geometry y.perms) end)) → CarriesOut rack area new x (ReplaceDoes x slot sectors (Err fault))
    disk_unreserved new fault end stopped ends reserve = disk_stops new fault end ends (λ y r. chain_stops rack area Reserving (Ending slot leaf) new y end stopped (reserve y r))

    module _ (late : Pool R A) (reserve : (y : State) → Represents rack area mid y → CarriesOut rack area late y (Phase y (Reserving y.geometry y.perms) Went)) where
      -- a leaf couldn't be made in a metaslab
      pub disk_unmade : (new : Pool R A) (fault : ArmFault) (end : End) → end ≢ Went → EndsIn fault end
          → ((y : State) → Represents rack area late y → CarriesOut rack area new y (Phase y (Making leaf y.geometry y.perms) end)) → CarriesOut rack area new x (ReplaceDoes x slot sectors (Err fault))
      disk_unmade new fault end stopped ends make =
          disk_stops new fault end ends (λ y r. then_phase rack area late new y Reserving (Ending slot leaf) end (reserve y r) (λ z s. chain_stops rack area (Making leaf) (Coming slot leaf) new z end stopped (make z s)))

      -- it came to each
      pub disk_done : (made : Pool R A) (u : Uber A) (new : Pool R A) (one : Shard R A) → ((y : State) → Represents rack area late y → CarriesOut rack area made y (Phase y (Making leaf y.geometry y.perms) Went))
          → slice_get made.metaslabs.shards.items 0 ≡ Some one → AreIdle made.metaslabs.shards.items → SetsLeaf area made.uber u (leaf + 1)
          → ChangedBelow (Attaches rack slot kind.Leaf leaf) (length made.metaslabs.shards.items) made.metaslabs.shards.items new.metaslabs.shards.items → SameOwn (record made { uber = u }) new
          → CarriesOut rack area new x (ReplaceDoes x slot sectors (Ok leaf))
      disk_done made u new one make here idle set changes same =
          disk_goes new Went
          (λ y r. then_phase rack area late new y Reserving (Ending slot leaf) Went (reserve y r)
          (λ z s. then_phase rack area made new z (Making leaf) (Coming slot leaf) Went (make z s)
          (λ a t. then_phase rack area (record made { uber = u }) new a (λ g p. arms.Numbers g p (leaf + 1)) (λ g p. arms.EventPhase g p (Attach slot (Leaf leaf))) Went (numbers_done rack area made u (leaf + 1) set one here idle a t)
          (λ b q. events_done rack area (Attaches rack slot kind.Leaf leaf) (record made { uber = u }) new changes same (Attach slot (Leaf leaf)) b q (attached_shared q.stands.shared slot (Leaf leaf))
          (record { kept = q.stands.versions.kept; now = q.stands.versions.now })
          (λ m pieces shard w v at is k alike.
          attach_turns rack area b q.stands.shared slot kind.Leaf leaf shard w k (part_in b m) pieces v is (unsealed rack area (part_in b m) pieces shard v is (idle m shard at)) alike
          (λ other named. (let number : leaf ≡ other = cc in let up = q.stands.uber.next_leaf in let set_is = set.next_is in omega (arith, number, up, set_is))))))))

-- no group is closing behind the making either
pub idle_made : {R A : Type 0} (rack : racks.Ghosts R) (area : areas.Ghosts A) (leaf : ℕ) (late made : Pool R A) → AreIdle late.metaslabs.shards.items
    → ChangedBelow (Makes rack leaf) (length late.metaslabs.shards.items) late.metaslabs.shards.items made.metaslabs.shards.items → AreIdle made.metaslabs.shards.items
idle_made {R} {A} rack area leaf late made idle c m z at =
    let was = changed_at (Makes rack leaf) late.metaslabs.shards.items made.metaslabs.shards.items c m z at in
    ap (λ (s : Shard R A). s.closing) was.2.rest ∙ idle m was.0 was.1
