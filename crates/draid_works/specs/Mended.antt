-- A rebuild or a scrub in a lane, whose syncs wait for the open writes that are in their way.
use Rattle.std.specs.Prelude.{◌≡◌, ◌⊎◌, ◌+◌, ℕ, Bool, true, Option, Some, None, IfOk, Result, Ok, Err, length}
use Rattle.draid_names.specs.declared.pass_kind.PassKind.{PassKind}
use Rattle.draid_names.specs.declared.pass_kind.PassKind.TheVariants.{Heal, Rebuild}
use Rattle.draid_rack.specs.declared.Rack as racks
use Rattle.draid_area.specs.declared.Area as areas
use Rattle.draid_spec.specs.Geometry.{IsGeometry}
use Rattle.draid_spec.specs.declared.layout.Geometry.{Geometry}
use Rattle.draid_session.specs.Replies.{IsWithin}
use Rattle.draid_shard.specs.declared.shard.Shard.{Shard}
use Rattle.draid_turn.specs.Calls.{Caller, Lock}
use Rattle.draid_turn.specs.declared.past.Past.{Past}
use Rattle.draid_uber.specs.Slots.{group_of}
use Rattle.draid_uber.specs.Uber as ubers
use Rattle.draid_uber.specs.declared.uber.Uber.{Uber}
use Rattle.draid_pool.specs.Drifts.{passes_number}
use Rattle.draid_pool.specs.Grouping.{ClosesNext}
use Rattle.draid_pool.specs.Rounds.{EachIs, NoneBeyond}
use Rattle.draid_pool.specs.Threads.{HaveLayout}
use Rattle.draid_pool.specs.declared.fault.SyncFault.{SyncFault}
use Rattle.draid_pool.specs.declared.fault.Synced.{Synced}
use Rattle.draid_visits.specs.Visiting.{nothing_within}
use Rattle.draid_visits.specs.Visits.{BeginsRebuild, BeginsScrub, MendsBy}
use Rattle.draid_visits.specs.declared.mending.Mending.{Mending}
use Rattle.draid_visits.specs.declared.rebuilding.MendFault.{MendFault}
use Rattle.draid_visits.specs.declared.rebuilding.Mended.{Mended}
use Rattle.draid_lanes.specs.Governing.{GovernedIn, lane_last}
use Rattle.draid_lanes.specs.Locks.{owned_by}
use Rattle.draid_lanes.specs.Waits.{LaneWent, SyncsThrough}
use Rattle.draid_lanes.specs.declared.locked.Locked.{Locked}
use Rattle.draid_lanes.specs.declared.uber.UberCell.{UberCell}

-- What a thread needs that begins a rebuild or a scrub: the group behind the one that the uberblock names may be closed in each metaslab, and they have the layout.
pub record MayMend {R A : Type 0} (rack : racks.Ghosts R) (area : areas.Ghosts A) (geometry : Geometry) (last : ℕ → Option (Shard R A)) (uber : Uber A) : Type 0 where
  pub geometry_is : IsGeometry geometry
  pub valid : ubers.Valid area.size uber
  pub ready : EachIs geometry.props.metaslabs (ClosesNext rack (group_of (ubers.kept_of uber) + 1)) last
  pub beyond : NoneBeyond geometry.props.metaslabs last
  pub layout : HaveLayout geometry last

-- it is of a kind, and nothing was visited yet
pub record IsFresh (kind : PassKind) (limit : Option ℕ) (it : Mending) : Type 0 where
  pub kind_is : it.kind ≡ kind
  pub next_is : it.next ≡ 0
  pub progress_is : it.progress ≡ nothing_within limit

module _ {R A S : Type 0} (rack : racks.Ghosts R) (area : areas.Ghosts A) (last : S → ℕ → Option (Shard R A)) (went : S → ℕ → Shard R A → Shard R A → S → Type 0) (shared : Bool) (owns : ℕ → Bool) where
  -- a sync of so many metaslabs that waits for the open writes that are in its way: it always has an answer
  abbrev pub SyncsWaiting : (count : ℕ) → S → Uber A → Option (Result Synced SyncFault) → S → Uber A → Type 0
  SyncsWaiting count a u None b v = ⊥
  SyncsWaiting count a u (Some result) b v = SyncsThrough rack area last went shared owns count a u result b v

module _ {R A S : Type 0} (rack : racks.Ghosts R) (area : areas.Ghosts A) (last : S → ℕ → Option (Shard R A)) (went : S → ℕ → Shard R A → Shard R A → S → Type 0) (shared : Bool) (owns : ℕ → Bool) (geometry : Geometry) where
  -- how it begins, by its kind
  abbrev pub BeginsMend : PassKind → Option ℕ → S → Result Mending MendFault → S → Type 0
  BeginsMend Rebuild limit a result b = BeginsRebuild rack area last went shared owns geometry.props.metaslabs limit a result b
  BeginsMend Heal limit a result b = BeginsScrub rack area last went shared owns geometry.props.metaslabs limit a result b

  -- it began and visited them, or didn't begin
  abbrev pub MendsThrough : PassKind → Option ℕ → S → Uber A → Result Mended MendFault → S → Uber A → Type 0
  MendsThrough kind limit a u result b v =
      ((begun : Mending) × (mid : S) × (new : Mending) × BeginsMend kind limit a (Ok begun) mid × MendsBy rack area last went shared owns (SyncsWaiting rack area last went shared owns geometry.props.metaslabs) geometry mid u begun (Some result) b v new)
      ⊎ ((why : MendFault) × (result ≡ Err why) × BeginsMend kind limit a (Err why) b × (v ≡ u))

-- ---- a lane's

module _ {R A G W : Type 0} where
  -- a lane may mend its metaslabs: they are those of a layout, and it alone changes their passes
  pub record MayMendLane (geometry : Geometry) (lane : Locked R A G W) : Type 0 where
    pub geometry_is : IsGeometry geometry
    pub passes : owned_by lane.passes.items passes_number ≡ true
    pub many : length lane.turns.now ≡ geometry.props.metaslabs
    pub layout : HaveLayout geometry (lane_last lane)

  -- all metaslabs of a lane were rebuilt or scrubbed, with this answer, which is within the limit
  abbrev pub MendsLane : racks.Ghosts R → areas.Ghosts A → Geometry → PassKind → Option ℕ → Locked R A G W → Uber A → Option (Result Mended MendFault) → Locked R A G W → Uber A → Type 0
  MendsLane rack area geometry kind limit a u None b v = ⊥
  MendsLane rack area geometry kind limit a u (Some result) b v =
      MendsThrough rack area lane_last (LaneWent rack area) true (owned_by a.passes.items) geometry kind limit a u result b v × IfOk result (λ it. IsWithin limit it.units it.paused)

  -- and that in one turn of the uberblock
  abbrev pub MendedIn : racks.Ghosts R → areas.Ghosts A → Geometry → PassKind → Option ℕ → Lock (UberCell R A) → Locked R A G W → Locked R A G W → Result Mended MendFault → (pass next : Caller (Past (UberCell R A))) → Type 0
  MendedIn rack area geometry kind limit lock old new result pass next =
      GovernedIn {O = Option (Result Mended MendFault)} rack area (λ before a u came b v. MendsLane rack area geometry kind limit a u came b v) lock old None new (Some result) pass next
