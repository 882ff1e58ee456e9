-- What a sync does to one metaslab in a hold, and to all of them in rounds.
use Rattle.std.specs.Prelude.{◌≡◌, ◌+◌, ◌<◌, ◌≤◌, ◌⊎◌, ℕ, Bool, Option, Some, None, true, Result, Ok, Err, IfOk, OnOk, IsErrOf, MatchOption}
use Rattle.draid_rack.specs.declared.Rack as racks
use Rattle.draid_area.specs.declared.Area as areas
use Rattle.draid_names.specs.declared.numbers.TheConstants.{LAST_NUMBER, NUMBERS}
use Rattle.draid_names.specs.Faults.{Rose}
use Rattle.draid_machine.specs.State as machine
use Rattle.draid_segments.specs.Segments.{Pieces}
use Rattle.draid_session.specs.State.{Metaslab}
use Rattle.draid_shard.specs.Fits.{Valid}
use Rattle.draid_shard.specs.Part.{Part}
use Rattle.draid_shard.specs.States.{IsIn}
use Rattle.draid_shard.specs.declared.shard.Shard.{Shard}
use Rattle.draid_pool.specs.Failing.{RecordsRose}
use Rattle.draid_pool.specs.Groups.{AreasLater, OpenUpto}
use Rattle.draid_pool.specs.Metaslabs.{IsMetaslab}
use Rattle.draid_pool.specs.Rounds.{HeldEach, StoppedBy}
use Rattle.draid_pool.specs.Syncing.{CloseIs, Commits, KeepsCommitted, KeepsShard, KeepsTable, SealIs, Turns}
use Rattle.draid_pool.specs.Ubers.{Names, Refuses}
use Rattle.draid_pool.specs.declared.fault.SyncFault.{SyncFault}
use Rattle.draid_pool.specs.declared.fault.SyncFault.TheVariants as sync
use Rattle.draid_pool.specs.declared.fault.Synced.{Synced}
use Rattle.draid_uber.specs.Slots.{group_of}
use Rattle.draid_uber.specs.Uber.{count_of, kept_of}
use Rattle.draid_uber.specs.declared.uber.Uber.{Uber}

-- ---- one metaslab

-- a group may be closed in a shard: it is the next one
pub record ClosesNext {R A : Type 0} (rack : racks.Ghosts R) (group : ℕ) (shard : Shard R A) : Type 0 where
  pub valid : Valid rack shard
  pub next : group ≡ shard.committed + 1

-- it was closed there, or was closing already, or why it isn't closing
pub record ClosesIn {R A : Type 0} (rack : racks.Ghosts R) (area : areas.Ghosts A) (group : ℕ) (old : Shard R A) (result : Result Unit SyncFault) (new : Shard R A) : Type 0 where
  pub valid : Valid rack new
  pub table : KeepsTable old new
  pub stays : KeepsShard rack.faults old new
  pub closing : OnOk result (new.closing ≡ Some group)
  pub later : AreasLater area.faults old new
  pub not_shelf : IsErrOf result sync.Shelf → ⊥
  pub last : IsErrOf result sync.Last → group ≡ LAST_NUMBER
  pub closes : (part : Part) (pieces : Pieces) (x : Metaslab) → IsMetaslab rack area part pieces old x → Turns rack area part pieces x new (λ hold y. CloseIs part group result hold × KeepsCommitted x.world y.world)

-- a group may be sealed in a shard: it is closing
pub record SealsNext {R A : Type 0} (rack : racks.Ghosts R) (group : ℕ) (shard : Shard R A) : Type 0 where
  pub valid : Valid rack shard
  pub closing : shard.closing ≡ Some group

-- it was sealed there, or had been, and so many of its blocks are thin; or why it isn't sealed
pub record SealsBy {R A : Type 0} (rack : racks.Ghosts R) (area : areas.Ghosts A) (group : ℕ) (old : Shard R A) (result : Result ℕ SyncFault) (new : Shard R A) : Type 0 where
  pub valid : Valid rack new
  pub table : KeepsTable old new
  pub stays : KeepsShard rack.faults old new
  pub sealed : OnOk result ((new.closing ≡ Some group) × (new.sealed ≡ true))
  pub low : IfOk result (λ thin. thin ≤ NUMBERS)
  pub later : AreasLater area.faults old new
  pub cause : IsErrOf result sync.Shelf → RecordsRose area.faults old new
  pub not_last : IsErrOf result sync.Last → ⊥
  pub seals : (part : Part) (pieces : Pieces) (x : Metaslab) → IsMetaslab rack area part pieces old x → Turns rack area part pieces x new (λ hold y. SealIs part group result hold × KeepsCommitted x.world y.world)

-- open writes that were begun up to the group are in the way, and nothing changed
pub record WaitsForWrites {R A : Type 0} (group : ℕ) (old new : Shard R A) : Type 0 where
  pub same : new ≡ old
  pub tickets : ℕ
  pub some : 0 < tickets
  pub open_ : (w : machine.State) → IsIn old w → OpenUpto w group tickets

abbrev pub SealsIn : {R A : Type 0} → racks.Ghosts R → areas.Ghosts A → ℕ → Shard R A → Option (Result ℕ SyncFault) → Shard R A → Type 0
SealsIn rack area group old out new = MatchOption out (WaitsForWrites group old new) (λ result. SealsBy rack area group old result new)

-- a group may be committed in a shard: it is sealed
pub record CommitsNext {R A : Type 0} (rack : racks.Ghosts R) (group : ℕ) (shard : Shard R A) : Type 0 where
  pub valid : Valid rack shard
  pub closing : shard.closing ≡ Some group
  pub sealed : shard.sealed ≡ true

-- ---- rounds

module _ {R A S : Type 0} (rack : racks.Ghosts R) (area : areas.Ghosts A) (last : S → ℕ → Option (Shard R A)) (went : S → ℕ → Shard R A → Shard R A → S → Type 0) (shared : Bool) (owns : ℕ → Bool) (group count : ℕ) where
  -- a group is closing in each, or a metaslab stopped it
  abbrev pub ClosesEach : S → Result Unit SyncFault → S → Type 0
  ClosesEach a (Ok done) b = HeldEach rack area last went shared owns (λ none x y. ClosesIn rack area group x (Ok tt) y) count a 0 b
  ClosesEach a (Err why) b = StoppedBy rack area last went shared owns (λ none x y. ClosesIn rack area group x (Ok tt) y) (λ x y. ClosesIn rack area group x (Err why) y) count a b

  -- it is sealed in each, and so many of its blocks are thin; or a metaslab stopped it; or open writes in one are in the way
  abbrev pub SealsEach : S → Option (Result ℕ SyncFault) → S → Type 0
  SealsEach a (Some (Ok thin)) b = HeldEach rack area last went shared owns (λ thin x y. SealsBy rack area group x (Ok thin) y) count a thin b
  SealsEach a (Some (Err why)) b = StoppedBy rack area last went shared owns (λ thin x y. SealsBy rack area group x (Ok thin) y) (λ x y. SealsBy rack area group x (Err why) y) count a b
  SealsEach a None b = StoppedBy rack area last went shared owns (λ thin x y. SealsBy rack area group x (Ok thin) y) (λ x y. WaitsForWrites group x y) count a b

  -- it is committed in each
  abbrev pub CommitsEach : S → S → Type 0
  CommitsEach a b = HeldEach rack area last went shared owns (λ none x y. Commits rack group x y) count a 0 b

-- ---- the uberblock

-- it names the group, or is refused it
abbrev pub UberNames : {A : Type 0} → areas.Ghosts A → ℕ → Uber A → Result Unit SyncFault → Uber A → Type 0
UberNames area group u (Ok done) v = Names area u v group × (count_of area.faults u ≤ count_of area.faults v)
UberNames area group u (Err sync.Shelf) v = Refuses area u v group × (count_of area.faults u ≤ count_of area.faults v) × Rose (count_of area.faults u) (count_of area.faults v)
UberNames area group u (Err sync.NoMemory) v = Refuses area u v group × (count_of area.faults u ≤ count_of area.faults v)
UberNames area group u (Err sync.Worn) v = ⊥
UberNames area group u (Err sync.Last) v = ⊥

-- ---- a group

module _ {R A S : Type 0} (rack : racks.Ghosts R) (area : areas.Ghosts A) (last : S → ℕ → Option (Shard R A)) (went : S → ℕ → Shard R A → Shard R A → S → Type 0) (shared : Bool) (owns : ℕ → Bool) (group count : ℕ) where
  -- It is committed, and so many of its blocks are thin: it was closed in each metaslab and sealed in each, the uberblock names it, and it was committed in each. Or it
  -- was stopped, and where; or open writes in a metaslab are in the way.
  abbrev pub CommitsIn : S → Uber A → Option (Result ℕ SyncFault) → S → Uber A → Type 0
  CommitsIn a u (Some (Ok thin)) b v =
      (mid : S) × (late : S) × ClosesEach rack area last went shared owns group count a (Ok tt) mid × SealsEach rack area last went shared owns group count mid (Some (Ok thin)) late × UberNames area group u (Ok tt) v
      × CommitsEach rack area last went shared owns group count late b
  CommitsIn a u (Some (Err why)) b v =
      (ClosesEach rack area last went shared owns group count a (Err why) b × (v ≡ u))
      ⊎ (((mid : S) × ClosesEach rack area last went shared owns group count a (Ok tt) mid × SealsEach rack area last went shared owns group count mid (Some (Err why)) b × (v ≡ u))
      ⊎ ((mid : S) × (thin : ℕ) × ClosesEach rack area last went shared owns group count a (Ok tt) mid × SealsEach rack area last went shared owns group count mid (Some (Ok thin)) b × UberNames area group u (Err why) v))
  CommitsIn a u None b v = (mid : S) × ClosesEach rack area last went shared owns group count a (Ok tt) mid × SealsEach rack area last went shared owns group count mid None b × (v ≡ u)

-- ---- a sync

-- a metaslab was looked at for the group that is closing there
abbrev pub SeesClosing : {R A : Type 0} → Option ℕ → Shard R A → Shard R A → Type 0
SeesClosing closing old new = (new ≡ old) × (old.closing ≡ closing)

module _ {R A S : Type 0} (rack : racks.Ghosts R) (area : areas.Ghosts A) (last : S → ℕ → Option (Shard R A)) (went : S → ℕ → Shard R A → Shard R A → S → Type 0) (shared : Bool) (owns : ℕ → Bool) (count : ℕ) where
  -- the first metaslab in which a group is closing has this one, or none has one
  abbrev pub FindsClosing : S → Option ℕ → S → Type 0
  FindsClosing a (Some group) b = StoppedBy rack area last went shared owns (λ none x y. SeesClosing None x y) (λ x y. SeesClosing (Some group) x y) count a b
  FindsClosing a None b = HeldEach rack area last went shared owns (λ none x y. SeesClosing None x y) count a 0 b

  -- a group that was closing is committed, if there was one, or was stopped
  abbrev pub FinishesIn : S → Uber A → Option (Result Unit SyncFault) → S → Uber A → Type 0
  FinishesIn a u (Some (Ok done)) b v =
      (FindsClosing a None b × (v ≡ u))
      ⊎ ((group : ℕ) × (thin : ℕ) × (mid : S) × FindsClosing a (Some group) mid × CommitsIn rack area last went shared owns group count mid u (Some (Ok thin)) b v)
  FinishesIn a u (Some (Err why)) b v = (group : ℕ) × (mid : S) × FindsClosing a (Some group) mid × CommitsIn rack area last went shared owns group count mid u (Some (Err why)) b v
  FinishesIn a u None b v = (group : ℕ) × (mid : S) × FindsClosing a (Some group) mid × CommitsIn rack area last went shared owns group count mid u None b v

  -- and then the next one
  abbrev pub SyncsIn : S → Uber A → Option (Result Synced SyncFault) → S → Uber A → Type 0
  SyncsIn a u (Some (Ok it)) b v =
      (mid : S) × (w : Uber A) × FinishesIn a u (Some (Ok tt)) mid w × (it.group ≡ group_of (kept_of w) + 1) × CommitsIn rack area last went shared owns it.group count mid w (Some (Ok it.thin)) b v
  SyncsIn a u (Some (Err why)) b v =
      FinishesIn a u (Some (Err why)) b v
      ⊎ ((mid : S) × (w : Uber A) × (group : ℕ) × FinishesIn a u (Some (Ok tt)) mid w × (group ≡ group_of (kept_of w) + 1) × CommitsIn rack area last went shared owns group count mid w (Some (Err why)) b v)
  SyncsIn a u None b v =
      FinishesIn a u None b v
      ⊎ ((mid : S) × (w : Uber A) × (group : ℕ) × FinishesIn a u (Some (Ok tt)) mid w × (group ≡ group_of (kept_of w) + 1) × CommitsIn rack area last went shared owns group count mid w None b v)
