-- A lane's sync in the uberblock's turn, by its answer.
use Rattle.std.proofs.Common.{◌≡◌, Option, Some, None, refl, subst}
use Rattle.std.specs.Prelude.{IsSome, Result}
use Rattle.draid_rack.specs.declared.Rack as racks
use Rattle.draid_area.specs.declared.Area as areas
use Rattle.draid_turn.specs.Calls.{Caller, Lock}
use Rattle.draid_turn.specs.declared.past.Past.{Past}
use Rattle.draid_uber.specs.declared.uber.Uber.{Uber}
use Rattle.draid_pool.specs.declared.fault.SyncFault.{SyncFault}
use Rattle.draid_pool.specs.declared.fault.Synced.{Synced}
use Rattle.draid_lanes.specs.Governing.{GovernedIn}
use Rattle.draid_lanes.specs.Waits.{SyncedIn, SyncsBy}
use Rattle.draid_lanes.specs.declared.locked.Locked.{Locked}
use Rattle.draid_lanes.specs.declared.syncing.SyncWork.{SyncWork}
use Rattle.draid_lanes.specs.declared.uber.UberCell.{UberCell}

module _ {R A G W : Type 0} (rack : racks.Ghosts R) (area : areas.Ghosts A) where
  abbrev Made : SyncWork → Locked R A G W → Uber A → SyncWork → Locked R A G W → Uber A → Type 0
  Made before a u after b v = SyncsBy rack area a u after.out b v

  module _ (lock : Lock (UberCell R A)) (old new : Locked R A G W) (before after : SyncWork) (pass next : Caller (Past (UberCell R A))) (did : GovernedIn rack area Made lock old before new after pass next) where
    pub has_answer : IsSome after.out
    has_answer = by after.out did.related.related
      where
        by : (o : Option (Result Synced SyncFault)) → SyncsBy rack area did.related.met did.value.uber o did.related.after did.left.uber → IsSome o
        by None made = absurd made
        by (Some result) made = refl

    pub synced_in : (result : Result Synced SyncFault) → after.out ≡ Some result → SyncedIn rack area lock old new result pass next
    synced_in result is =
        let r = did.related in
        record {
          log = did.log;
          value = did.value;
          left = did.left;
          stood = did.stood;
          follows = did.follows;
          related = record { met = r.met; after = r.after; same = r.same; meets = r.meets; related = subst (λ o. SyncsBy rack area r.met did.value.uber o r.after did.left.uber) is r.related; parts = r.parts; turns = r.turns };
          number = did.number;
          seen = did.seen;
          own = did.own;
          numbers = did.numbers;
          table = did.table;
        }
