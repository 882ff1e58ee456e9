-- An area that failed a lane while it held the uberblock.
use Rattle.std.specs.Prelude.{◌≡◌, ◌⊎◌, ℕ, zero, suc}
use Rattle.draid_rack.specs.declared.Rack as racks
use Rattle.draid_area.specs.declared.Area as areas
use Rattle.draid_names.specs.Faults.{Rose}
use Rattle.draid_shard.specs.declared.shard.Shard.{Shard}
use Rattle.draid_turn.specs.Calls.{Caller, Lock}
use Rattle.draid_turn.specs.declared.past.Past.{Past}
use Rattle.draid_uber.specs.Uber.{count_of}
use Rattle.draid_uber.specs.declared.uber.Uber.{Uber}
use Rattle.draid_pool.specs.Failing.{RecordsRose}
use Rattle.draid_lanes.specs.Governing.{GovernedIn}
use Rattle.draid_lanes.specs.Lanes.{IsSameLane}
use Rattle.draid_lanes.specs.Waits.{LaneWent}
use Rattle.draid_lanes.specs.declared.lane.Lane.{Lane}
use Rattle.draid_lanes.specs.declared.locked.Locked.{Locked}
use Rattle.draid_lanes.specs.declared.uber.UberCell.{UberCell}

module _ {R A S : Type 0} (area : areas.Ghosts A) (went : S → ℕ → Shard R A → Shard R A → S → Type 0) where
  -- so many holds led there
  abbrev pub HoldsTo : ℕ → S → S → Type 0
  HoldsTo zero a b = b ≡ a
  HoldsTo (suc n) a b = (mid : S) × (m : ℕ) × (before : Shard R A) × (after : Shard R A) × HoldsTo n a mid × went mid m before after b

  -- in a hold on the way the count of failed calls rose on an area of a metaslab's records
  pub record RecordsFail (a b : S) : Type 0 where
    pub front : ℕ
    pub from : S
    pub first : HoldsTo front a from
    pub metaslab : ℕ
    pub before : Shard R A
    pub after : Shard R A
    pub next : S
    pub held : went from metaslab before after next
    pub rose : RecordsRose area.faults before after
    pub back : ℕ
    pub rest : HoldsTo back next b

  -- so it did, or that of the pool's own areas
  abbrev pub AreaFails : S → Uber A → S → Uber A → Type 0
  AreaFails a u b v = RecordsFail a b ⊎ Rose (count_of area.faults u) (count_of area.faults v)

-- and that in a turn of the uberblock that a lane had
abbrev pub AreaFailedIn : {R A G W : Type 0} → racks.Ghosts R → areas.Ghosts A → Lock (UberCell R A) → Locked R A G W → Locked R A G W → (pass next : Caller (Past (UberCell R A))) → Type 0
AreaFailedIn rack area lock old new pass next = GovernedIn {O = Unit} rack area (λ before a u done b v. AreaFails area (LaneWent rack area) a u b v) lock old tt new tt pass next

-- so in a turn that was the last one of all that a lane did
pub record AreaFailedLane {R A G W : Type 0} (rack : racks.Ghosts R) (area : areas.Ghosts A) (old new : Lane R A G W) : Type 0 where
  pub mid : Lane R A G W
  pub same : IsSameLane old mid
  pub failed : AreaFailedIn rack area old.uber.now mid.metaslabs new.metaslabs mid.pass new.pass
