use Rattle.std.proofs.Common.{◌≡◌, ◌+◌, ◌∙◌, ℕ, List, Option, Result, Err, arith, ap, inl, inr, refl, subst, sym}
use Rattle.std.specs.Prelude.{IfErr}
use Rattle.draid_names.specs.declared.arm.ArmKind.TheVariants as kind
use Rattle.draid_names.specs.declared.refusal.SlotFault.{SlotFault}
use Rattle.draid_shard.specs.declared.shard.Shard.{Shard}
use Rattle.draid_uber.specs.Uber.{next_leaf_of}
use Rattle.draid_session.specs.Arms as arms
use Rattle.draid_session.specs.Phases.{Broke, Starved, WasWorn}
use Rattle.draid_session.specs.State.{State}
use Rattle.draid_pool.specs.Carries.{CarriesOut}
use Rattle.draid_pool.specs.Pools.{Represents}
use Rattle.draid_pool.specs.Syncing.{Phase}
use Rattle.draid_pool.specs.declared.pool.Pool.{Pool}
use Rattle.draid_pool.proofs.Keeping.{racks_on}
use Rattle.draid_pool.proofs.Rises.{areas_on}
use Rattle.draid_pool.proofs.Steps.{carries_so}
use Rattle.draid_pool.proofs.WholeGroups.{first_shard}
use Rattle.draid_pool.proofs.Wholes.{same_pointers}
use Rattle.draid_changes.specs.Answers.{ChangeStops, ReplaceDoes}
use Rattle.draid_changes.specs.Attaching.{Attaches, IsReplaceBarred, MayReplace}
use Rattle.draid_changes.specs.Making.{end_of_making}
use Rattle.draid_changes.specs.Walks.{Reserves, end_of_reserving, events_at}
use Rattle.draid_changes.specs.declared.fault.ArmFault.TheVariants as armed
use Rattle.draid_changes.specs.declared.need.Need.TheVariants as needs
use Rattle.draid_changes.proofs.Begun.{broke_no_way, err_of, first_borrowed, shelf_first, starved_no_way, unfinished, worn_no_way}
use Rattle.draid_changes.proofs.Coming.{attached_whole, came_to_all, may_come_made}
use Rattle.draid_changes.proofs.Events.{areas_changed, idle_reserved, racks_changed}
use Rattle.draid_changes.proofs.Leaves.{disk_unfinished}
use Rattle.draid_changes.proofs.Made.{rack_rose_then}
use Rattle.draid_changes.proofs.Numbered.{SetsLeaf, areas_numbered, numbered_whole}
use Rattle.draid_changes.proofs.Replaced.{DiskBreaks, DiskComes, disk_done, disk_refused, disk_unmade, disk_unreserved, idle_made}
use Rattle.draid_changes.proofs.replacing.replace.Goals as goal

-- ---- a closing group couldn't be committed first

pub returns-in-Err : goal.returns-in-Err
returns-in-Err g c =
    record {
      whole = c.in-Err.ensures.whole;
      same = same_pointers c.args.pool.now c.finish.new.self c.in-Err.ensures.objects;
      later = c.in-Err.ensures.later;
      cause = λ is. inl (c.in-Err.ensures.cause (ap Err (shelf_first c.in-Err.fault c.arm_fault.result c.arm_fault.ensures (err_of ℕ c.arm_fault.result armed.Shelf is))));
      carries = λ x is.
          carries_so g.R.Rack g.A.Area c.finish.new.self x (ChangeStops x (arms.BreaksDisk x.geometry x.perms c.args.slot c.args.sectors) (arms.AttachesDisk x.geometry x.perms c.args.slot 0) c.arm_fault.result)
          (ReplaceDoes x c.args.slot c.args.sectors (Err c.arm_fault.result))
          (unfinished g.R.Rack g.A.Area (DiskBreaks c.args.slot c.args.sectors) (DiskComes c.args.slot 0) c.finish.new.self x c.in-Err.fault c.arm_fault.result c.arm_fault.ensures (c.in-Err.ensures.carries x is)) (λ holds store done. (0, done));
      arms = disk_unfinished g.R.Rack g.A.Area c.args.slot c.args.sectors c.in-Err.fault c.arm_fault.result c.finish.new.self c.arm_fault.ensures;
    }

-- ---- the rules

-- a rule forbids the disk
barred : {R A : Type 0} (mid : Pool R A) (first : Shard R A) (shards : List (Shard R A)) (slot leaf : ℕ) (sectors : Option ℕ) (result : Result Unit SlotFault) (why : SlotFault) → IfErr result (IsReplaceBarred first.slots shards slot leaf sectors)
    → result ≡ Err why → shards ≡ mid.metaslabs.shards.items → IsReplaceBarred first.slots mid.metaslabs.shards.items slot leaf sectors why
barred mid first shards slot leaf sectors result why refused is same =
    subst (λ zs. IsReplaceBarred first.slots zs slot leaf sectors why) same (subst (λ r. IfErr r (IsReplaceBarred first.slots shards slot leaf sectors)) is refused)

pub returns-in-Err-may_replace : goal.returns-in-Err-may_replace
returns-in-Err-may_replace g c =
    record {
      whole = c.in_default.ensures.whole;
      same = same_pointers c.args.pool.now c.finish.new.self c.in_default.ensures.objects;
      later = c.in_default.ensures.later;
      cause = λ is. absurd (cc is);
      carries = λ x is.
          (let mid = c.finish.new.self in
          let first = c.index.result.now in
          let at = first_borrowed g.R.Rack g.A.Area mid first c.in_default.ensures.whole c.index.ensures in
          disk_refused g.R.Rack g.A.Area mid x c.args.slot c.next_leaf-leaf.result c.args.sectors first (c.in_default.ensures.carries x is) at c.next_leaf-leaf.ensures c.in-Err-may_replace.why
          (barred mid first c.deref.result.now c.args.slot c.next_leaf-leaf.result c.args.sectors c.may_replace.result c.in-Err-may_replace.why c.may_replace.ensures.refused c.in-Err-may_replace.is c.deref.ensures.value));
      arms = (let mid = c.finish.new.self in
          let first = c.index.result.now in
          let why = c.in-Err-may_replace.why in (
            first,
            first_borrowed g.R.Rack g.A.Area mid first c.in_default.ensures.whole c.index.ensures,
            subst (λ leaf. IsReplaceBarred first.slots mid.metaslabs.shards.items c.args.slot leaf c.args.sectors why) c.next_leaf-leaf.ensures
                (barred mid first c.deref.result.now c.args.slot c.next_leaf-leaf.result c.args.sectors c.may_replace.result why c.may_replace.ensures.refused c.in-Err-may_replace.is c.deref.ensures.value),
          ));
    }

-- none does
may : {R A : Type 0} (mid : Pool R A) (first : Shard R A) (shards : List (Shard R A)) (slot leaf : ℕ) (sectors : Option ℕ) → MayReplace first.slots shards slot leaf sectors → shards ≡ mid.metaslabs.shards.items
    → MayReplace first.slots mid.metaslabs.shards.items slot leaf sectors
may mid first shards slot leaf sectors is same = subst (λ zs. MayReplace first.slots zs slot leaf sectors) same is

-- ---- events couldn't be reserved

pub returns-in-Err-Worn : goal.returns-in-Err-Worn
returns-in-Err-Worn g c =
    record {
      whole = c.in-Err-Worn.ensures.whole;
      same = same_pointers c.args.pool.now c.reserve_all.new.pool (c.in-Err-Worn.ensures.objects ∙ c.in_default.ensures.objects);
      later = areas_on g.A.Area.faults c.args.pool.now c.finish.new.self c.reserve_all.new.pool c.in_default.ensures.later c.in-Err-Worn.ensures.later;
      cause = λ is. absurd (cc is);
      carries = λ x is.
          (let mid = c.finish.new.self in
          let late = c.reserve_all.new.pool in
          let first = c.index.result.now in
          let at = first_borrowed g.R.Rack g.A.Area mid first c.in_default.ensures.whole c.index.ensures in
          let own = may mid first c.deref.result.now c.args.slot c.next_leaf-leaf.result c.args.sectors c.in_default-may_replace.ensures.may c.deref.ensures.value in
          disk_unreserved g.R.Rack g.A.Area mid x c.args.slot c.next_leaf-leaf.result c.args.sectors first (c.in_default.ensures.carries x is) at c.next_leaf-leaf.ensures own late armed.Worn WasWorn worn_no_way refl
          (subst (λ f. (y : State) → Represents g.R.Rack g.A.Area mid y → CarriesOut g.R.Rack g.A.Area late y (Phase y (arms.ReservePhase y.geometry y.perms (events_at needs.Attachment)) (end_of_reserving (Err f)))) c.in-Err-Worn.field-0-is
          c.in-Err-Worn.ensures.carries));
      arms = tt;
    }

pub returns-in-Err-NoMemory : goal.returns-in-Err-NoMemory
returns-in-Err-NoMemory g c =
    record {
      whole = c.in-Err-NoMemory.ensures.whole;
      same = same_pointers c.args.pool.now c.reserve_all.new.pool (c.in-Err-NoMemory.ensures.objects ∙ c.in_default.ensures.objects);
      later = areas_on g.A.Area.faults c.args.pool.now c.finish.new.self c.reserve_all.new.pool c.in_default.ensures.later c.in-Err-NoMemory.ensures.later;
      cause = λ is. absurd (cc is);
      carries = λ x is.
          (let mid = c.finish.new.self in
          let late = c.reserve_all.new.pool in
          let first = c.index.result.now in
          let at = first_borrowed g.R.Rack g.A.Area mid first c.in_default.ensures.whole c.index.ensures in
          let own = may mid first c.deref.result.now c.args.slot c.next_leaf-leaf.result c.args.sectors c.in_default-may_replace.ensures.may c.deref.ensures.value in
          disk_unreserved g.R.Rack g.A.Area mid x c.args.slot c.next_leaf-leaf.result c.args.sectors first (c.in_default.ensures.carries x is) at c.next_leaf-leaf.ensures own late armed.NoMemory Starved starved_no_way refl
          (subst (λ f. (y : State) → Represents g.R.Rack g.A.Area mid y → CarriesOut g.R.Rack g.A.Area late y (Phase y (arms.ReservePhase y.geometry y.perms (events_at needs.Attachment)) (end_of_reserving (Err f)))) c.in-Err-NoMemory.field-0-is
          c.in-Err-NoMemory.ensures.carries));
      arms = tt;
    }

-- ---- a leaf couldn't be made

pub returns-in-Err-Failed : goal.returns-in-Err-Failed
returns-in-Err-Failed g c =
    record {
      whole = c.in-Err-Failed.ensures.whole;
      same = same_pointers c.args.pool.now c.make_all.new.pool (c.in-Err-Failed.ensures.objects ∙ (c.in-Ok.ensures.objects ∙ c.in_default.ensures.objects));
      later = areas_on g.A.Area.faults c.args.pool.now c.reserve_all.new.pool c.make_all.new.pool
          (areas_on g.A.Area.faults c.args.pool.now c.finish.new.self c.reserve_all.new.pool c.in_default.ensures.later c.in-Ok.ensures.later) c.in-Err-Failed.ensures.later;
      cause = λ is.
          (let faults = g.R.Rack.faults in
          let old = c.args.pool.now in
          let mid = c.finish.new.self in
          let late = c.reserve_all.new.pool in
          inr (rack_rose_then faults old late c.make_all.new.pool
          (racks_on faults old mid late c.in_default.ensures.racks (racks_changed faults (Reserves needs.Attachment) mid late c.in-Ok.ensures.reserves (λ before after r. r.kit.rack)))
          (c.make_all.ensures.cause (c.in-Err-Failed.is ∙ ap Err c.in-Err-Failed.field-0-is))));
      carries = λ x is.
          (let mid = c.finish.new.self in
          let late = c.reserve_all.new.pool in
          let first = c.index.result.now in
          let at = first_borrowed g.R.Rack g.A.Area mid first c.in_default.ensures.whole c.index.ensures in
          let own = may mid first c.deref.result.now c.args.slot c.next_leaf-leaf.result c.args.sectors c.in_default-may_replace.ensures.may c.deref.ensures.value in
          disk_unmade g.R.Rack g.A.Area mid x c.args.slot c.next_leaf-leaf.result c.args.sectors first (c.in_default.ensures.carries x is) at c.next_leaf-leaf.ensures own late c.in-Ok.ensures.carries c.make_all.new.pool armed.Shelf Broke broke_no_way refl
          (subst (λ f. (y : State) → Represents g.R.Rack g.A.Area late y → CarriesOut g.R.Rack g.A.Area c.make_all.new.pool y (Phase y (arms.MakePhase y.geometry y.perms c.next_leaf-leaf.result) (end_of_making (Err f)))) c.in-Err-Failed.field-0-is
          c.in-Err-Failed.ensures.carries));
      arms = tt;
    }

pub returns-in-Err-NoMemory-make_all : goal.returns-in-Err-NoMemory-make_all
returns-in-Err-NoMemory-make_all g c =
    record {
      whole = c.in-Err-NoMemory-make_all.ensures.whole;
      same = same_pointers c.args.pool.now c.make_all.new.pool (c.in-Err-NoMemory-make_all.ensures.objects ∙ (c.in-Ok.ensures.objects ∙ c.in_default.ensures.objects));
      later = areas_on g.A.Area.faults c.args.pool.now c.reserve_all.new.pool c.make_all.new.pool
          (areas_on g.A.Area.faults c.args.pool.now c.finish.new.self c.reserve_all.new.pool c.in_default.ensures.later c.in-Ok.ensures.later) c.in-Err-NoMemory-make_all.ensures.later;
      cause = λ is. absurd (cc is);
      carries = λ x is.
          (let mid = c.finish.new.self in
          let late = c.reserve_all.new.pool in
          let first = c.index.result.now in
          let at = first_borrowed g.R.Rack g.A.Area mid first c.in_default.ensures.whole c.index.ensures in
          let own = may mid first c.deref.result.now c.args.slot c.next_leaf-leaf.result c.args.sectors c.in_default-may_replace.ensures.may c.deref.ensures.value in
          disk_unmade g.R.Rack g.A.Area mid x c.args.slot c.next_leaf-leaf.result c.args.sectors first (c.in_default.ensures.carries x is) at c.next_leaf-leaf.ensures own late c.in-Ok.ensures.carries c.make_all.new.pool armed.NoMemory Starved starved_no_way refl
          (subst (λ f. (y : State) → Represents g.R.Rack g.A.Area late y → CarriesOut g.R.Rack g.A.Area c.make_all.new.pool y (Phase y (arms.MakePhase y.geometry y.perms c.next_leaf-leaf.result) (end_of_making (Err f)))) c.in-Err-NoMemory-make_all.field-0-is
          c.in-Err-NoMemory-make_all.ensures.carries));
      arms = tt;
    }

-- ---- all metaslabs

pub attach_all-requires : goal.attach_all-requires
attach_all-requires g c =
    let mid = c.finish.new.self in
    let late = c.reserve_all.new.pool in
    let made = c.make_all.new.pool in
    let first = c.index.result.now in
    let at = first_borrowed g.R.Rack g.A.Area mid first c.in_default.ensures.whole c.index.ensures in
    let own = may mid first c.deref.result.now c.args.slot c.next_leaf-leaf.result c.args.sectors c.in_default-may_replace.ensures.may c.deref.ensures.value in
    record {
      ready = may_come_made g.R.Rack g.A.Area mid late made c.args.slot c.next_leaf-leaf.result first c.in_default.ensures.whole c.in-Ok.ensures.whole c.in-Ok-make_all.ensures.whole at own.come c.in-Ok.ensures.reserves
          c.in-Ok-make_all.ensures.makes (ap next_leaf_of (c.in-Ok-make_all.ensures.uber ∙ c.in-Ok.ensures.uber) ∙ sym c.next_leaf-leaf.ensures);
    }

pub returns-in-Ok-make_all : goal.returns-in-Ok-make_all
returns-in-Ok-make_all g c =
    record {
      whole = (let made = c.make_all.new.pool in
          let u = c.set_next_leaf.new.self in
          let e = c.set_next_leaf.ensures in
          let leaf = c.next_leaf-leaf.result in
          let was = ap next_leaf_of (c.in-Ok-make_all.ensures.uber ∙ c.in-Ok.ensures.uber) ∙ sym c.next_leaf-leaf.ensures in
          let set : SetsLeaf g.A.Area made.uber u (leaf + 1) = record { valid = e.valid; above = omega (arith, was); next_is = e.leaf; areas_is = e.areas; kept = e.kept; layout = e.layout; version = e.version; point = e.point; changed = e.changed } in
          let mid : Pool g.row.R.Denot g.row.A.Denot = record made { uber = u } in
          let new : Pool g.row.R.Denot g.row.A.Denot = record made { uber = u; metaslabs = record { shards = c.attach_all.new.shards } } in
          attached_whole g.R.Rack g.A.Area c.args.slot kind.Leaf leaf mid new (numbered_whole g.R.Rack g.A.Area made u (leaf + 1) set c.in-Ok-make_all.ensures.whole) c.attach_all.ensures.attaches
          (record { geometry = refl; uber = refl; objects = refl; seq = refl; floor = refl }) (λ is. (let next = e.leaf in omega (arith, next))));
      same = same_pointers c.args.pool.now c.make_all.new.pool (c.in-Ok-make_all.ensures.objects ∙ (c.in-Ok.ensures.objects ∙ c.in_default.ensures.objects));
      later = (let faults = g.A.Area.faults in
          let old = c.args.pool.now in
          let late = c.reserve_all.new.pool in
          let made = c.make_all.new.pool in
          let mid : Pool g.row.R.Denot g.row.A.Denot = record made { uber = c.set_next_leaf.new.self } in
          let new : Pool g.row.R.Denot g.row.A.Denot = record made { uber = c.set_next_leaf.new.self; metaslabs = record { shards = c.attach_all.new.shards } } in
          areas_on faults old made new
          (areas_on faults old late made (areas_on faults old c.finish.new.self late c.in_default.ensures.later c.in-Ok.ensures.later) c.in-Ok-make_all.ensures.later)
          (areas_on faults made mid new (areas_numbered g.R.Rack g.A.Area made c.set_next_leaf.new.self c.set_next_leaf.ensures.areas)
          (areas_changed g.R.Rack g.A.Area (Attaches g.R.Rack c.args.slot kind.Leaf c.next_leaf-leaf.result) mid new c.attach_all.ensures.attaches (record { geometry = refl; uber = refl; objects = refl; seq = refl; floor = refl }) (λ a b s. s.kit.areas))));
      cause = λ is. absurd (cc is);
      carries = λ x is.
          (let mid = c.finish.new.self in
          let late = c.reserve_all.new.pool in
          let made = c.make_all.new.pool in
          let u = c.set_next_leaf.new.self in
          let e = c.set_next_leaf.ensures in
          let leaf = c.next_leaf-leaf.result in
          let was = ap next_leaf_of (c.in-Ok-make_all.ensures.uber ∙ c.in-Ok.ensures.uber) ∙ sym c.next_leaf-leaf.ensures in
          let set : SetsLeaf g.A.Area made.uber u (leaf + 1) = record { valid = e.valid; above = omega (arith, was); next_is = e.leaf; areas_is = e.areas; kept = e.kept; layout = e.layout; version = e.version; point = e.point; changed = e.changed } in
          let new : Pool g.row.R.Denot g.row.A.Denot = record made { uber = u; metaslabs = record { shards = c.attach_all.new.shards } } in
          let first = c.index.result.now in
          let at = first_borrowed g.R.Rack g.A.Area mid first c.in_default.ensures.whole c.index.ensures in
          let own = may mid first c.deref.result.now c.args.slot leaf c.args.sectors c.in_default-may_replace.ensures.may c.deref.ensures.value in
          let one = first_shard g.R.Rack g.A.Area made c.in-Ok-make_all.ensures.whole in
          disk_done g.R.Rack g.A.Area mid x c.args.slot leaf c.args.sectors first (c.in_default.ensures.carries x is) at c.next_leaf-leaf.ensures own late c.in-Ok.ensures.carries made u new one.0 c.in-Ok-make_all.ensures.carries one.1
          (idle_made g.R.Rack g.A.Area leaf late made (idle_reserved g.R.Rack g.A.Area needs.Attachment mid late c.in_default.ensures.idle c.in-Ok.ensures.reserves) c.in-Ok-make_all.ensures.makes) set c.attach_all.ensures.attaches
          (record { geometry = refl; uber = refl; objects = refl; seq = refl; floor = refl }));
      arms = (
        came_to_all g.R.Rack g.A.Area c.args.slot kind.Leaf c.next_leaf-leaf.result c.make_all.new.pool.metaslabs.shards.items c.attach_all.new.shards.items c.attach_all.ensures.attaches,
        c.set_next_leaf.ensures.leaf,
      );
    }

-- ---- what the calls ask for

pub reserve_all-requires : goal.reserve_all-requires
reserve_all-requires g c = record { whole = c.in_default.ensures.whole }

pub make_all-requires : goal.make_all-requires
make_all-requires g c = record {
  whole = c.in-Ok.ensures.whole;
  unused = (let same = ap next_leaf_of c.in-Ok.ensures.uber in let is = c.next_leaf-leaf.ensures in omega (arith, same, is));
}

pub finish-requires : goal.finish-requires
finish-requires g c = record { whole = c.requires.whole }

pub set_next_leaf-requires-clause-valid : goal.set_next_leaf-requires-clause-valid
set_next_leaf-requires-clause-valid g c = c.in-Ok-make_all.ensures.whole.uber

pub set_next_leaf-requires-clause-above : goal.set_next_leaf-requires-clause-above
set_next_leaf-requires-clause-above g c = (let was = ap next_leaf_of (c.in-Ok-make_all.ensures.uber ∙ c.in-Ok.ensures.uber) ∙ sym c.next_leaf-leaf.ensures in omega (arith, was))

pub set_next_leaf-requires-clause-below : goal.set_next_leaf-requires-clause-below
set_next_leaf-requires-clause-below g c = (let low = c.in_default-may_replace.ensures.may.number in omega (arith, low))
