-- A spare comes to a slot in all metaslabs of a pool, or that is refused.
use Rattle.std.proofs.Common.{◌≡◌, ◌≢◌, ℕ, Some, Ok, Err, length}
use Rattle.std.specs.Prelude.{slice_get}
use Rattle.draid_names.specs.declared.arm.ArmKind.TheVariants as kind
use Rattle.draid_names.specs.declared.refusal.SlotFault.{SlotFault}
use Rattle.draid_rack.specs.declared.Rack as racks
use Rattle.draid_area.specs.declared.Area as areas
use Rattle.draid_machine.specs.declared.event.Event.TheVariants.{Attach}
use Rattle.draid_machine.specs.declared.names.ArmName.TheVariants.{Spare}
use Rattle.draid_shard.specs.declared.shard.Shard.{Shard}
use Rattle.draid_disks.specs.Disks.{IsNewLeaf, arm_called}
use Rattle.draid_session.specs.Arms as arms
use Rattle.draid_session.specs.Phases.{Chain, End, Went}
use Rattle.draid_session.specs.State.{State}
use Rattle.draid_pool.specs.Carries.{CarriesOut}
use Rattle.draid_pool.specs.Pools.{Represents, part_in}
use Rattle.draid_pool.specs.Syncing.{AreIdle, Phase}
use Rattle.draid_pool.specs.declared.pool.Pool.{Pool}
use Rattle.draid_pool.proofs.SyncCalls.{then_phase}
use Rattle.draid_changes.specs.Answers.{EndsIn, SpareDoes}
use Rattle.draid_changes.specs.Attaching.{Attaches, IsBarred, MayComeAll}
use Rattle.draid_changes.specs.Walks.{ChangedBelow, events_at}
use Rattle.draid_changes.specs.declared.fault.ArmFault.{ArmFault}
use Rattle.draid_changes.specs.declared.fault.ArmFault.TheVariants as armed
use Rattle.draid_changes.specs.declared.need.Need.TheVariants as needs
use Rattle.draid_changes.proofs.Attached.{attach_turns, attached_shared}
use Rattle.draid_changes.proofs.Barred.{spare_barred, spare_may}
use Rattle.draid_changes.proofs.Begun.{BreaksIs, ComesTo, DoesIs, Finished, PhaseIs, chain_stops, goes, refused, stops_so, uber_of}
use Rattle.draid_changes.proofs.Events.{events_done, unsealed}
use Rattle.draid_changes.proofs.Whole.{SameOwn}

-- a spare is no new leaf
pub no_leaf : {R A : Type 0} (rack : racks.Ghosts R) (shard : Shard R A) (spare : ℕ) → IsNewLeaf rack shard kind.Spare spare
no_leaf rack shard spare = record { unused = λ is. absurd (cc); made = λ is. absurd (cc) }

abbrev pub SpareBreaks : ℕ → ℕ → BreaksIs
SpareBreaks slot spare g p = arms.BreaksSpare g p slot spare

abbrev pub SpareComes : ℕ → ℕ → DoesIs
SpareComes slot spare g p = arms.AttachesSpare g p slot spare

abbrev Reserving : PhaseIs
Reserving g p = arms.ReservePhase g p (events_at needs.Attachment)

module _ {R A : Type 0} (rack : racks.Ghosts R) (area : areas.Ghosts A) (mid : Pool R A) (x : State) (slot spare : ℕ) (first : Shard R A) (c : Finished rack area mid x) (there : slice_get mid.metaslabs.shards.items 0 ≡ Some first) where
  -- a rule forbids it
  pub spare_refused : (why : SlotFault) → IsBarred first.slots mid.metaslabs.shards.items slot (arm_called kind.Spare spare) why → CarriesOut rack area mid x (SpareDoes x slot spare (Err (armed.Slot why)))
  spare_refused why barred = refused rack area (SpareBreaks slot spare) mid x why c (λ y r. spare_barred rack area mid y r first there slot spare (uber_of y) why barred)

  module _ (may : MayComeAll first.slots mid.metaslabs.shards.items slot (arm_called kind.Spare spare)) where
    -- none does, and what is done then comes to this end
    spare_goes : (new : Pool R A) (end : End) → ((y : State) → Represents rack area mid y → CarriesOut rack area new y (Phase y (Chain (Reserving y.geometry y.perms) (arms.EventPhase y.geometry y.perms (Attach slot (Spare spare)))) end))
        → CarriesOut rack area new x (λ holds store. (store ≡ x.store) × ComesTo rack area (SpareBreaks slot spare) (SpareComes slot spare) x end holds)
    spare_goes new end next =
        goes rack area (SpareBreaks slot spare) (SpareComes slot spare) mid new x end c (λ y r why broken. spare_may rack area mid y r first there slot spare (uber_of y) why may broken) next

    -- events couldn't be reserved in a metaslab
    pub spare_stopped : (new : Pool R A) (fault : ArmFault) (end : End) → end ≢ Went → EndsIn fault end
        → ((y : State) → Represents rack area mid y → CarriesOut rack area new y (Phase y (Reserving y.geometry y.perms) end)) → CarriesOut rack area new x (SpareDoes x slot spare (Err fault))
    spare_stopped new fault end stopped ends next =
        stops_so rack area (SpareBreaks slot spare) (SpareComes slot spare) new x fault end ends
        (spare_goes new end (λ y r. chain_stops rack area Reserving (λ g p. arms.EventPhase g p (Attach slot (Spare spare))) new y end stopped (next y r)))

    -- it came to each
    pub spare_done : (late new : Pool R A) → ((y : State) → Represents rack area mid y → CarriesOut rack area late y (Phase y (Reserving y.geometry y.perms) Went)) → AreIdle late.metaslabs.shards.items
        → ChangedBelow (Attaches rack slot kind.Spare spare) (length late.metaslabs.shards.items) late.metaslabs.shards.items new.metaslabs.shards.items → SameOwn late new
        → CarriesOut rack area new x (SpareDoes x slot spare (Ok tt))
    spare_done late new reserve idle changes set =
        spare_goes new Went
        (λ y r. then_phase rack area late new y Reserving (λ g p. arms.EventPhase g p (Attach slot (Spare spare))) Went (reserve y r)
        (λ z s. events_done rack area (Attaches rack slot kind.Spare spare) late new changes set (Attach slot (Spare spare)) z s (attached_shared s.stands.shared slot (Spare spare))
        (record { kept = s.stands.versions.kept; now = s.stands.versions.now })
        (λ m pieces shard w y at is t alike.
        attach_turns rack area z s.stands.shared slot kind.Spare spare shard w t (part_in z m) pieces y is (unsealed rack area (part_in z m) pieces shard y is (idle m shard at)) alike (λ leaf named. absurd (cc)))))
