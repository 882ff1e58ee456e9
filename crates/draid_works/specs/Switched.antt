-- A leaf that goes offline or comes back in a lane, tried again until no open write is in the way.
use Rattle.std.specs.Prelude.{◌≡◌, ℕ, zero, suc, Bool, true, Option, Some, None, Result, length}
use Rattle.draid_rack.specs.declared.Rack as racks
use Rattle.draid_area.specs.declared.Area as areas
use Rattle.draid_shard.specs.declared.shard.Shard.{Shard}
use Rattle.draid_turn.specs.Calls.{Caller, Lock}
use Rattle.draid_turn.specs.declared.past.Past.{Past}
use Rattle.draid_uber.specs.declared.uber.Uber.{Uber}
use Rattle.draid_changes.specs.Switching.{LeafIsIn, SwitchesIn}
use Rattle.draid_changes.specs.declared.fault.ArmFault.{ArmFault}
use Rattle.draid_lanes.specs.Governing.{GovernedIn, lane_last}
use Rattle.draid_lanes.specs.Locks.{owned_by}
use Rattle.draid_lanes.specs.Waits.{LaneWent}
use Rattle.draid_lanes.specs.declared.locked.Locked.{Locked}
use Rattle.draid_lanes.specs.declared.uber.UberCell.{UberCell}

module _ {R A S : Type 0} (rack : racks.Ghosts R) (area : areas.Ghosts A) (last : S → ℕ → Option (Shard R A)) (went : S → ℕ → Shard R A → Shard R A → S → Type 0) (shared : Bool) (owns : ℕ → Bool) (count leaf : ℕ) (offline : Bool) where
  -- it was tried so often, and each time open writes were in the way of the group that was closing
  abbrev pub TriedOn : ℕ → S → Uber A → S → Uber A → Type 0
  TriedOn zero a u b v = (b ≡ a) × (v ≡ u)
  TriedOn (suc n) a u b v = (mid : S) × (w : Uber A) × TriedOn n a u mid w × SwitchesIn rack area last went shared owns count leaf offline mid w None b v

  -- and then it had an answer
  pub record SwitchesThrough (a : S) (u : Uber A) (result : Result Unit ArmFault) (b : S) (v : Uber A) : Type 0 where
    pub waits : ℕ
    pub mid : S
    pub w : Uber A
    pub front : TriedOn waits a u mid w
    pub switches : SwitchesIn rack area last went shared owns count leaf offline mid w (Some result) b v

-- ---- a lane's

module _ {R A G W : Type 0} where
  -- a leaf went so in all metaslabs of a lane, or in none, with this answer; and by it the leaf is so in each, as the lane left it
  abbrev pub SwitchesBy : racks.Ghosts R → areas.Ghosts A → (leaf : ℕ) → (offline : Bool) → Locked R A G W → Uber A → Option (Result Unit ArmFault) → Locked R A G W → Uber A → Type 0
  SwitchesBy rack area leaf offline a u None b v = ⊥
  SwitchesBy rack area leaf offline a u (Some result) b v =
      SwitchesThrough rack area lane_last (LaneWent rack area) true (owned_by a.passes.items) (length a.turns.now) leaf offline a u result b v × LeafIsIn (length a.turns.now) leaf offline result (lane_last b)

  -- and that in one turn of the uberblock
  abbrev pub SwitchedIn : racks.Ghosts R → areas.Ghosts A → (leaf : ℕ) → (offline : Bool) → Lock (UberCell R A) → Locked R A G W → Locked R A G W → Result Unit ArmFault → (pass next : Caller (Past (UberCell R A))) → Type 0
  SwitchedIn rack area leaf offline lock old new result pass next =
      GovernedIn {O = Option (Result Unit ArmFault)} rack area (λ before a u came b v. SwitchesBy rack area leaf offline a u came b v) lock old None new (Some result) pass next
