-- Spares come one after another, for which all was reserved.
use Rattle.std.proofs.Common.{◌≡◌, ◌<◌, ◌≤◌, ◌+◌, ◌∙◌, ℕ, Option, Result, Ok, Err, OnOk, arith, ap, subst, sym, length}
use Rattle.std.proofs.lemmas.List.Elements.{All-weaker}
use Rattle.draid_names.specs.declared.arm.ArmKind.TheVariants as kind
use Rattle.draid_rack.specs.declared.Rack as racks
use Rattle.draid_area.specs.declared.Area as areas
use Rattle.draid_machine.specs.declared.event.Event.TheVariants.{Attach}
use Rattle.draid_machine.specs.declared.names.ArmName.TheVariants.{Spare}
use Rattle.draid_machine.proofs.Small.{absurd_test}
use Rattle.draid_entries.specs.History.{reserved_of}
use Rattle.draid_pass.specs.declared.pass.Pass.{Pass}
use Rattle.draid_slots.specs.Changes.{HasRoom, Keeps}
use Rattle.draid_slots.specs.Faults.{MayAttach}
use Rattle.draid_slots.specs.Table.{IsTable, SlotTable}
use Rattle.draid_shard.specs.Fits.{Valid, is_rebuild}
use Rattle.draid_shard.specs.Part.{Part}
use Rattle.draid_shard.specs.declared.shard.Shard.{Shard}
use Rattle.draid_disks.specs.Disks.{arm_called}
use Rattle.draid_disks.specs.Replanning.{attach_events}
use Rattle.draid_session.specs.Arms as arms
use Rattle.draid_session.specs.Phases.{Went}
use Rattle.draid_session.specs.State.{State}
use Rattle.draid_pool.specs.Carries.{CarriesOut}
use Rattle.draid_pool.specs.Passes.{KeepsPasses}
use Rattle.draid_pool.specs.Pools.{Represents, part_in}
use Rattle.draid_pool.specs.Syncing.{AreIdle, Phase}
use Rattle.draid_pool.specs.Whole.{IsWhole}
use Rattle.draid_pool.specs.declared.pool.Pool.{Pool}
use Rattle.draid_changes.specs.Attaching.{Attaches, MayCome}
use Rattle.draid_changes.specs.Balancing.{HasNoPass}
use Rattle.draid_changes.specs.Giving.{AllReady, AllGet, AllStay, IsReady}
use Rattle.draid_changes.specs.Walks.{ChangedBelow, Reserves}
use Rattle.draid_changes.specs.declared.need.Need.TheVariants as needs
use Rattle.draid_changes.proofs.Attached.{attach_turns, attached_shared}
use Rattle.draid_changes.proofs.Balanced.{no_passes_on}
use Rattle.draid_changes.proofs.Coming.{attached_whole}
use Rattle.draid_changes.proofs.Events.{each_changed, events_done, unsealed}
use Rattle.draid_changes.proofs.Spared.{no_leaf}
use Rattle.draid_changes.proofs.Walk.{changed_at}
use Rattle.draid_changes.proofs.Whole.{SameOwn}

pub on_ok : {T E : Type 0} (r : Result T E) (P Q : Type 0) → (P → Q) → OnOk r P → OnOk r Q
on_ok (Ok done) P Q by p = by p
on_ok (Err why) P Q by p = tt

-- ---- what is reserved

module _ {R A : Type 0} (rack : racks.Ghosts R) (area : areas.Ghosts A) (count : ℕ) (old late : Pool R A)
    (reserves : ChangedBelow (Reserves (needs.Spares count)) (length old.metaslabs.shards.items) old.metaslabs.shards.items late.metaslabs.shards.items) where
  pub all_ready : KeepsPasses old late → HasNoPass old → AllReady count late
  all_ready keeps none m z there =
      let was = changed_at (Reserves (needs.Spares count)) old.metaslabs.shards.items late.metaslabs.shards.items reserves m z there in
      record { pass = no_passes_on old late keeps none m z there; reserved = was.2.reserved; room = was.2.room }

  pub all_stay : AllStay old late
  all_stay = each_changed (Reserves (needs.Spares count)) (λ (before : Shard R A) after. Keeps before.slots after.slots × IsTable after.slots) old late reserves (λ before after r. (r.logs, r.sound))

-- what is reserved for some is reserved for fewer
room_less : (slots : SlotTable) (changes arms less fewer : ℕ) → less ≤ changes → fewer ≤ arms → HasRoom slots changes arms → HasRoom slots less fewer
room_less slots changes arms less fewer one two has = record {
  logs = λ at there. (let enough = has.logs at there in omega (arith, enough, one));
  arms_come = (let come = has.arms_come in omega (arith, come, two));
  arm_logs = All-weaker (λ (room : ℕ). changes < room) (λ (room : ℕ). less < room) (λ room more. omega (arith, more, one)) slots.next has.arm_logs;
  places = (let places = has.places in omega (arith, places, two));
}

pub fewer_ready : {R A : Type 0} (count fewer : ℕ) (pool : Pool R A) → fewer ≤ count → AllReady count pool → AllReady fewer pool
fewer_ready count fewer pool few ready m z there =
    let is = ready m z there in
    let enough = is.reserved in
    record { pass = is.pass; reserved = omega (arith, enough, few); room = record { slots = room_less z.slots (count + 7) count (fewer + 7) fewer (omega (arith, few)) few is.room.slots; targets = is.room.targets } }

pub less_ready : {R A : Type 0} (more : ℕ) (pool : Pool R A) → AllReady (more + 1) pool → AllReady more pool
less_ready more pool ready = fewer_ready (more + 1) more pool (omega arith) ready

-- ---- a spare that comes

-- it may come where all is reserved
pub ready_come : {R A : Type 0} (rack : racks.Ghosts R) (shard : Shard R A) (slot spare : ℕ) → Valid rack shard → IsReady 1 shard → MayAttach shard.slots slot (arm_called kind.Spare spare) → MayCome rack slot kind.Spare spare shard
ready_come rack shard slot spare valid ready may = record {
  valid = valid;
  reserved = subst (λ (o : Option Pass). attach_events o ≤ reserved_of shard.history) (sym ready.pass) ready.reserved;
  room = record { slots = ready.room.slots; targets = ready.room.targets };
  leaf = no_leaf rack shard spare;
  may = may;
  again = λ rebuild. absurd_test (is_rebuild shard.pass) rebuild (ap is_rebuild ready.pass);
}

module _ {R A : Type 0} (rack : racks.Ghosts R) (area : areas.Ghosts A) (slot spare : ℕ) (old new : Pool R A)
    (changes : ChangedBelow (Attaches rack slot kind.Spare spare) (length old.metaslabs.shards.items) old.metaslabs.shards.items new.metaslabs.shards.items) (set : SameOwn old new) where
  pub given_whole : IsWhole rack area old → IsWhole rack area new
  given_whole whole = attached_whole rack area slot kind.Spare spare old new whole changes set (λ is. absurd (cc))

  pub given_idle : AreIdle old.metaslabs.shards.items → AreIdle new.metaslabs.shards.items
  given_idle idle m z there =
      let was = changed_at (Attaches rack slot kind.Spare spare) old.metaslabs.shards.items new.metaslabs.shards.items changes m z there in
      was.2.keeps.groups.closing ∙ idle m was.0 was.1

  -- what was reserved for more is there still
  pub given_left : (more : ℕ) → AllReady (more + 1) old → AllReady more new
  given_left more ready m z there =
      let was = changed_at (Attaches rack slot kind.Spare spare) old.metaslabs.shards.items new.metaslabs.shards.items changes m z there in
      let before = ready m was.0 was.1 in
      let enough = before.reserved in
      let used = was.2.reserve.reserved in
      let one : attach_events was.0.pass ≡ 1 = ap attach_events before.pass in
      record { pass = was.2.left.idle before.pass; reserved = omega (arith, enough, used, one); room = was.2.left.room more before.pass before.room }

  pub given_arms : IsWhole rack area old → AllGet slot spare old new
  given_arms whole = record {
    many = changes.many;
    below = λ k x less at. (let z = changes.below k x less at in (
      z.0,
      z.1,
      record { layout = z.2.valid.slots.geometry_is ∙ (ap (λ (p : Part). p.geometry) z.2.does.part ∙ sym (whole.shards k x at).valid.slots.geometry_is); arms = z.2.slots },
    ));
    others = changes.others;
  }

  pub given_done : (x : State) → Represents rack area old x → AreIdle old.metaslabs.shards.items → CarriesOut rack area new x (Phase x (arms.EventPhase x.geometry x.perms (Attach slot (Spare spare))) Went)
  given_done x r idle =
      events_done rack area (Attaches rack slot kind.Spare spare) old new changes set (Attach slot (Spare spare)) x r (attached_shared r.stands.shared slot (Spare spare))
      (record { kept = r.stands.versions.kept; now = r.stands.versions.now })
      (λ m pieces shard w y at is t alike.
      attach_turns rack area x r.stands.shared slot kind.Spare spare shard w t (part_in x m) pieces y is (unsealed rack area (part_in x m) pieces shard y is (idle m shard at)) alike (λ leaf named. absurd (cc)))
