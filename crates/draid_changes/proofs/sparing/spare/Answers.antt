use Rattle.std.proofs.Common.{Result, ◌≡◌, ◌∙◌, ℕ, List, Err, ap, refl, subst, sym, length}
use Rattle.std.specs.Prelude.{IfErr}
use Rattle.draid_names.specs.declared.arm.Arm.{Arm}
use Rattle.draid_names.specs.declared.arm.ArmKind.TheVariants as kind
use Rattle.draid_names.specs.declared.refusal.SlotFault.{SlotFault}
use Rattle.draid_rack.specs.declared.Rack as racks
use Rattle.draid_shard.specs.declared.shard.Shard.{Shard}
use Rattle.draid_disks.specs.Disks.{arm_called}
use Rattle.draid_session.specs.Arms as arms
use Rattle.draid_session.specs.Phases.{Starved, WasWorn}
use Rattle.draid_session.specs.State.{State}
use Rattle.draid_pool.specs.Carries.{CarriesOut}
use Rattle.draid_pool.specs.Pools.{Represents}
use Rattle.draid_pool.specs.Syncing.{Phase}
use Rattle.draid_pool.specs.declared.pool.Pool.{Pool}
use Rattle.draid_pool.proofs.Rises.{areas_on}
use Rattle.draid_pool.proofs.Wholes.{same_pointers}
use Rattle.draid_changes.specs.Attaching.{Attaches, IsBarred, MayCome, MayComeAll}
use Rattle.draid_changes.specs.Walks.{ChangedBelow, end_of_reserving, events_at}
use Rattle.draid_changes.specs.declared.fault.ArmFault.TheVariants as armed
use Rattle.draid_changes.specs.declared.need.Need.TheVariants as needs
use Rattle.draid_changes.proofs.Begun.{err_same, first_borrowed, shelf_first, starved_no_way, unfinished, worn_no_way}
use Rattle.draid_changes.proofs.Coming.{attached_whole, came_to_all, may_come}
use Rattle.draid_changes.proofs.Events.{areas_changed, idle_reserved}
use Rattle.draid_changes.proofs.Leaves.{spare_unfinished}
use Rattle.draid_changes.proofs.Spared.{SpareBreaks, SpareComes, no_leaf, spare_done, spare_refused, spare_stopped}
use Rattle.draid_changes.proofs.sparing.spare.Goals as goal

-- ---- a closing group couldn't be committed first

pub returns-in-Err : goal.returns-in-Err
returns-in-Err g c =
    record {
      whole = c.in-Err.ensures.whole;
      same = same_pointers c.args.pool.now c.finish.new.self c.in-Err.ensures.objects;
      later = c.in-Err.ensures.later;
      cause = λ is. c.in-Err.ensures.cause (ap Err (shelf_first c.in-Err.fault c.arm_fault.result c.arm_fault.ensures (err_same c.arm_fault.result _ is)));
      carries = λ x is.
          unfinished g.R.Rack g.A.Area (SpareBreaks c.args.slot c.args.spare) (SpareComes c.args.slot c.args.spare) c.finish.new.self x c.in-Err.fault c.arm_fault.result c.arm_fault.ensures (c.in-Err.ensures.carries x is);
      arms = spare_unfinished g.R.Rack g.A.Area c.args.slot c.args.spare c.in-Err.fault c.arm_fault.result c.finish.new.self.metaslabs.shards.items c.arm_fault.ensures;
    }

-- ---- the rules

-- a rule forbids the spare
barred : {R A : Type 0} (mid : Pool R A) (first : Shard R A) (shards : List (Shard R A)) (slot spare : ℕ) (arm : Arm) (result : Result Unit SlotFault) (why : SlotFault) → IfErr result (IsBarred first.slots shards slot arm)
    → result ≡ Err why → shards ≡ mid.metaslabs.shards.items → arm ≡ arm_called kind.Spare spare → IsBarred first.slots mid.metaslabs.shards.items slot (arm_called kind.Spare spare) why
barred mid first shards slot spare arm result why refused is same called =
    subst (λ a. IsBarred first.slots mid.metaslabs.shards.items slot a why) called
    (subst (λ zs. IsBarred first.slots zs slot arm why) same (subst (λ r. IfErr r (IsBarred first.slots shards slot arm)) is refused))

pub returns-in-Err-may_come : goal.returns-in-Err-may_come
returns-in-Err-may_come g c =
    record {
      whole = c.in_default.ensures.whole;
      same = same_pointers c.args.pool.now c.finish.new.self c.in_default.ensures.objects;
      later = c.in_default.ensures.later;
      cause = λ is. absurd (cc is);
      carries = λ x is.
          (let mid = c.finish.new.self in
          let first = c.index.result.now in
          let at = first_borrowed g.R.Rack g.A.Area mid first c.in_default.ensures.whole c.index.ensures in
          spare_refused g.R.Rack g.A.Area mid x c.args.slot c.args.spare first (c.in_default.ensures.carries x is) at c.in-Err-may_come.why
          (barred mid first c.deref.result.now c.args.slot c.args.spare c.spare_arm-arm.result c.may_come.result c.in-Err-may_come.why c.may_come.ensures.refused c.in-Err-may_come.is c.deref.ensures.value c.spare_arm-arm.ensures));
      arms = (let mid = c.finish.new.self in
          let first = c.index.result.now in (
            first,
            first_borrowed g.R.Rack g.A.Area mid first c.in_default.ensures.whole c.index.ensures,
            barred mid first c.deref.result.now c.args.slot c.args.spare c.spare_arm-arm.result c.may_come.result c.in-Err-may_come.why
                c.may_come.ensures.refused c.in-Err-may_come.is c.deref.ensures.value c.spare_arm-arm.ensures,
          ));
    }

-- no rule forbids the spare
may : {R A : Type 0} (mid : Pool R A) (first : Shard R A) (shards : List (Shard R A)) (slot spare : ℕ) (arm : Arm) → MayComeAll first.slots shards slot arm → shards ≡ mid.metaslabs.shards.items → arm ≡ arm_called kind.Spare spare
    → MayComeAll first.slots mid.metaslabs.shards.items slot (arm_called kind.Spare spare)
may mid first shards slot spare arm is same called = subst (λ a. MayComeAll first.slots mid.metaslabs.shards.items slot a) called (subst (λ zs. MayComeAll first.slots zs slot arm) same is)

-- all metaslabs got it
got : {R A : Type 0} (rack : racks.Ghosts R) (old new : List (Shard R A)) (slot spare : ℕ) (arm : Arm) → arm ≡ arm_called kind.Spare spare → ChangedBelow (Attaches rack slot arm.kind arm.number) (length old) old new
    → ChangedBelow (Attaches rack slot kind.Spare spare) (length old) old new
got rack old new slot spare arm called c = subst (λ a. ChangedBelow (Attaches rack slot a.kind a.number) (length old) old new) called c

-- ---- all metaslabs

pub attach_all-requires : goal.attach_all-requires
attach_all-requires g c =
    let mid = c.finish.new.self in
    let late = c.reserve_all.new.pool in
    let first = c.index.result.now in
    let at = first_borrowed g.R.Rack g.A.Area mid first c.in_default.ensures.whole c.index.ensures in
    let own = may mid first c.deref.result.now c.args.slot c.args.spare c.spare_arm-arm.result c.in_default-may_come.ensures.may c.deref.ensures.value c.spare_arm-arm.ensures in
    record {
      ready = λ m shard there. subst (λ a. MayCome g.R.Rack c.args.slot a.kind a.number shard) (sym c.spare_arm-arm.ensures)
          (may_come g.R.Rack g.A.Area mid late c.args.slot kind.Spare c.args.spare first c.in_default.ensures.whole c.in-Ok.ensures.whole at own c.in-Ok.ensures.reserves (λ k z here. no_leaf g.R.Rack z c.args.spare) m shard there);
    }

pub returns-in-Ok : goal.returns-in-Ok
returns-in-Ok g c =
    record {
      whole = (let late = c.reserve_all.new.pool in
          let new : Pool g.row.R.Denot g.row.A.Denot = record late { metaslabs = record { shards = c.attach_all.new.shards } } in
          attached_whole g.R.Rack g.A.Area c.args.slot kind.Spare c.args.spare late new c.in-Ok.ensures.whole
          (got g.R.Rack late.metaslabs.shards.items new.metaslabs.shards.items c.args.slot c.args.spare c.spare_arm-arm.result c.spare_arm-arm.ensures c.attach_all.ensures.attaches)
          (record { geometry = refl; uber = refl; objects = refl; seq = refl; floor = refl }) (λ is. absurd (cc)));
      same = same_pointers c.args.pool.now c.reserve_all.new.pool (c.in-Ok.ensures.objects ∙ c.in_default.ensures.objects);
      later = (let faults = g.A.Area.faults in
          let old = c.args.pool.now in
          let mid = c.finish.new.self in
          let late = c.reserve_all.new.pool in
          let new : Pool g.row.R.Denot g.row.A.Denot = record late { metaslabs = record { shards = c.attach_all.new.shards } } in
          areas_on faults old late new (areas_on faults old mid late c.in_default.ensures.later c.in-Ok.ensures.later)
          (areas_changed g.R.Rack g.A.Area (Attaches g.R.Rack c.args.slot c.spare_arm-arm.result.kind c.spare_arm-arm.result.number) late new c.attach_all.ensures.attaches
          (record { geometry = refl; uber = refl; objects = refl; seq = refl; floor = refl }) (λ a b s. s.kit.areas)));
      cause = λ is. absurd (cc is);
      carries = λ x is.
          (let mid = c.finish.new.self in
          let late = c.reserve_all.new.pool in
          let new : Pool g.row.R.Denot g.row.A.Denot = record late { metaslabs = record { shards = c.attach_all.new.shards } } in
          let first = c.index.result.now in
          let at = first_borrowed g.R.Rack g.A.Area mid first c.in_default.ensures.whole c.index.ensures in
          let own = may mid first c.deref.result.now c.args.slot c.args.spare c.spare_arm-arm.result c.in_default-may_come.ensures.may c.deref.ensures.value c.spare_arm-arm.ensures in
          spare_done g.R.Rack g.A.Area mid x c.args.slot c.args.spare first (c.in_default.ensures.carries x is) at own late new c.in-Ok.ensures.carries
          (idle_reserved g.R.Rack g.A.Area needs.Attachment mid late c.in_default.ensures.idle c.in-Ok.ensures.reserves)
          (got g.R.Rack late.metaslabs.shards.items new.metaslabs.shards.items c.args.slot c.args.spare c.spare_arm-arm.result c.spare_arm-arm.ensures c.attach_all.ensures.attaches)
          (record { geometry = refl; uber = refl; objects = refl; seq = refl; floor = refl }));
      arms = (let late = c.reserve_all.new.pool in
          came_to_all g.R.Rack g.A.Area c.args.slot kind.Spare c.args.spare late.metaslabs.shards.items c.attach_all.new.shards.items
          (got g.R.Rack late.metaslabs.shards.items c.attach_all.new.shards.items c.args.slot c.args.spare c.spare_arm-arm.result c.spare_arm-arm.ensures c.attach_all.ensures.attaches));
    }

-- ---- events couldn't be reserved

pub returns-in-Err-Worn : goal.returns-in-Err-Worn
returns-in-Err-Worn g c =
    record {
      whole = c.in-Err-Worn.ensures.whole;
      same = same_pointers c.args.pool.now c.reserve_all.new.pool (c.in-Err-Worn.ensures.objects ∙ c.in_default.ensures.objects);
      later = areas_on g.A.Area.faults c.args.pool.now c.finish.new.self c.reserve_all.new.pool c.in_default.ensures.later c.in-Err-Worn.ensures.later;
      cause = λ is. absurd (cc is);
      carries = λ x is.
          (let mid = c.finish.new.self in
          let late = c.reserve_all.new.pool in
          let first = c.index.result.now in
          let at = first_borrowed g.R.Rack g.A.Area mid first c.in_default.ensures.whole c.index.ensures in
          let own = may mid first c.deref.result.now c.args.slot c.args.spare c.spare_arm-arm.result c.in_default-may_come.ensures.may c.deref.ensures.value c.spare_arm-arm.ensures in
          spare_stopped g.R.Rack g.A.Area mid x c.args.slot c.args.spare first (c.in_default.ensures.carries x is) at own late armed.Worn WasWorn worn_no_way refl
          (subst (λ f. (y : State) → Represents g.R.Rack g.A.Area mid y → CarriesOut g.R.Rack g.A.Area late y (Phase y (arms.ReservePhase y.geometry y.perms (events_at needs.Attachment)) (end_of_reserving (Err f)))) c.in-Err-Worn.field-0-is
          c.in-Err-Worn.ensures.carries));
      arms = tt;
    }

pub returns-in-Err-NoMemory : goal.returns-in-Err-NoMemory
returns-in-Err-NoMemory g c =
    record {
      whole = c.in-Err-NoMemory.ensures.whole;
      same = same_pointers c.args.pool.now c.reserve_all.new.pool (c.in-Err-NoMemory.ensures.objects ∙ c.in_default.ensures.objects);
      later = areas_on g.A.Area.faults c.args.pool.now c.finish.new.self c.reserve_all.new.pool c.in_default.ensures.later c.in-Err-NoMemory.ensures.later;
      cause = λ is. absurd (cc is);
      carries = λ x is.
          (let mid = c.finish.new.self in
          let late = c.reserve_all.new.pool in
          let first = c.index.result.now in
          let at = first_borrowed g.R.Rack g.A.Area mid first c.in_default.ensures.whole c.index.ensures in
          let own = may mid first c.deref.result.now c.args.slot c.args.spare c.spare_arm-arm.result c.in_default-may_come.ensures.may c.deref.ensures.value c.spare_arm-arm.ensures in
          spare_stopped g.R.Rack g.A.Area mid x c.args.slot c.args.spare first (c.in_default.ensures.carries x is) at own late armed.NoMemory Starved starved_no_way refl
          (subst (λ f. (y : State) → Represents g.R.Rack g.A.Area mid y → CarriesOut g.R.Rack g.A.Area late y (Phase y (arms.ReservePhase y.geometry y.perms (events_at needs.Attachment)) (end_of_reserving (Err f)))) c.in-Err-NoMemory.field-0-is
          c.in-Err-NoMemory.ensures.carries));
      arms = tt;
    }

-- ---- what the calls ask for

pub reserve_all-requires : goal.reserve_all-requires
reserve_all-requires g c = record { whole = c.in_default.ensures.whole }

pub finish-requires : goal.finish-requires
finish-requires g c = record { whole = c.requires.whole }
