-- A leaf that went offline or came back in the uberblock's turn, by its answer.
use Rattle.std.proofs.Common.{◌≡◌, ◌∙◌, ℕ, Bool, List, Option, Some, None, Ok, Err, refl, sym, ap, subst, length}
use Rattle.std.specs.Prelude.{IsSome, Result, slice_get}
use Rattle.std.proofs.lemmas.Option.{slice_get_within}
use Rattle.draid_rack.specs.declared.Rack as racks
use Rattle.draid_area.specs.declared.Area as areas
use Rattle.draid_machine.proofs.Small.{none_some}
use Rattle.draid_shard.specs.declared.shard.Shard.{Shard}
use Rattle.draid_turn.specs.Calls.{Caller, Lock}
use Rattle.draid_turn.specs.declared.past.Past.{Past}
use Rattle.draid_uber.specs.declared.uber.Uber.{Uber}
use Rattle.draid_pool.specs.declared.cell.Cell.{Cell}
use Rattle.draid_changes.specs.Switching.{LeafIsIn}
use Rattle.draid_changes.specs.declared.fault.ArmFault.{ArmFault}
use Rattle.draid_changes.specs.declared.fault.ArmFault.TheVariants as fault
use Rattle.draid_lanes.specs.Governing.{GovernedIn, lane_last}
use Rattle.draid_lanes.specs.Locks.{last_in, last_of, left_in}
use Rattle.draid_lanes.specs.Meeting.{EachParts}
use Rattle.draid_lanes.specs.declared.locked.Locked.{Locked}
use Rattle.draid_lanes.specs.declared.uber.UberCell.{UberCell}
use Rattle.draid_works.specs.Switched.{SwitchedIn, SwitchesBy}
use Rattle.draid_works.specs.declared.switching.SwitchWork.{SwitchWork}

-- ---- what a lane has of the leaf behind the parting

module _ {R A : Type 0} where
  -- passes that gave the groups up have seen as much
  pub last_parted : (locks : List (Lock (Cell R A))) (old new groups : List (Caller (Past (Cell R A)))) → EachParts locks old new groups → (m : ℕ) (shard : Shard R A) → last_in locks old m ≡ Some shard → last_in locks new m ≡ Some shard
  last_parted locks old new groups parts m shard at = by (slice_get locks m) refl (slice_get old m) refl
    where
      by : (o : Option (Lock (Cell R A))) → slice_get locks m ≡ o → (p : Option (Caller (Past (Cell R A)))) → slice_get old m ≡ p → last_in locks new m ≡ Some shard
      by None is p there = absurd (none_some (last_in locks old m) shard (ap (λ o. last_of o (slice_get old m)) is) at)
      by (Some lock) is None there = absurd (none_some (last_in locks old m) shard (λ i. last_of (is i) (there i)) at)
      by (Some lock) is (Some pass) there =
          let z = parts.each m pass (slice_get_within locks m lock is) there in
          (λ i. last_of (is i) (z.2 i)) ∙ (ap (λ seen. Some (left_in lock seen)) z.4.same.1 ∙ (sym (λ i. last_of (is i) (there i)) ∙ at))

  -- what is so of each metaslab as it was left is so where each was left so
  leaf_on : (count leaf : ℕ) (offline : Bool) (result : Result Unit ArmFault) (last now : ℕ → Option (Shard R A)) → ((m : ℕ) (shard : Shard R A) → last m ≡ Some shard → now m ≡ Some shard) → LeafIsIn count leaf offline result last → LeafIsIn count leaf offline result now
  leaf_on count leaf offline (Ok done) last now go each = λ m less. (let z = each m less in (z.0, go m z.0 z.1, z.2))
  leaf_on count leaf offline (Err (fault.Slot why)) last now go (is, each) = (is, (λ m less. (let z = each m less in (z.0, go m z.0 z.1, z.2))))
  leaf_on count leaf offline (Err fault.Worn) last now go is = tt
  leaf_on count leaf offline (Err fault.Shelf) last now go is = tt
  leaf_on count leaf offline (Err fault.NoMemory) last now go is = tt

-- ---- by the answer

module _ {R A G W : Type 0} (rack : racks.Ghosts R) (area : areas.Ghosts A) where
  abbrev Made : SwitchWork → Locked R A G W → Uber A → SwitchWork → Locked R A G W → Uber A → Type 0
  Made before a u after b v = SwitchesBy rack area before.leaf before.offline a u after.out b v

  module _ (lock : Lock (UberCell R A)) (old new : Locked R A G W) (before after : SwitchWork) (pass next : Caller (Past (UberCell R A))) (did : GovernedIn rack area Made lock old before new after pass next) where
    pub has_answer : IsSome after.out
    has_answer = by after.out did.related.related
      where
        by : (o : Option (Result Unit ArmFault)) → SwitchesBy rack area before.leaf before.offline did.related.met did.value.uber o did.related.after did.left.uber → IsSome o
        by None made = absurd made
        by (Some result) made = refl

    module _ (result : Result Unit ArmFault) (is : after.out ≡ Some result) where
      made : SwitchesBy rack area before.leaf before.offline did.related.met did.value.uber (Some result) did.related.after did.left.uber
      made = subst (λ o. SwitchesBy rack area before.leaf before.offline did.related.met did.value.uber o did.related.after did.left.uber) is did.related.related

      pub switched_in : SwitchedIn rack area before.leaf before.offline lock old new result pass next
      switched_in =
          let r = did.related in
          record {
            log = did.log;
            value = did.value;
            left = did.left;
            stood = did.stood;
            follows = did.follows;
            related = record { met = r.met; after = r.after; same = r.same; meets = r.meets; related = made; parts = r.parts; turns = r.turns };
            number = did.number;
            seen = did.seen;
            own = did.own;
            numbers = did.numbers;
            table = did.table;
          }

      pub leaf_behind : (count : ℕ) → count ≡ length old.turns.now → new.turns.now ≡ old.turns.now → LeafIsIn count before.leaf before.offline result (lane_last new)
      leaf_behind count all turns =
          let r = did.related in
          subst (λ n. LeafIsIn n before.leaf before.offline result (lane_last new)) (ap length r.same.0 ∙ sym all)
          (leaf_on (length r.met.turns.now) before.leaf before.offline result (lane_last r.after) (lane_last new)
          (λ m shard at. ap (λ ls. last_in ls new.passes.items m) turns
          ∙ last_parted old.turns.now r.after.passes.items new.passes.items did.left.groups.items r.parts m shard (ap (λ ls. last_in ls r.after.passes.items m) (sym r.same.1) ∙ at)) made.1)
