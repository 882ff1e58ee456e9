-- A sync that is under way: where it stands, what its beginning did, and what one that goes on does.
use Rattle.std.specs.Prelude.{◌≡◌, ◌+◌, ◌*◌, ◌<◌, ◌≤◌, ◌⊎◌, ℕ, Bool, Option, Some, None, Result, Ok, Err}
use Rattle.draid_rack.specs.declared.Rack as racks
use Rattle.draid_area.specs.declared.Area as areas
use Rattle.draid_names.specs.declared.numbers.TheConstants.{NUMBERS}
use Rattle.draid_shard.specs.declared.shard.Shard.{Shard}
use Rattle.draid_uber.specs.Slots.{group_of}
use Rattle.draid_uber.specs.Uber.{kept_of}
use Rattle.draid_uber.specs.declared.uber.Uber.{Uber}
use Rattle.draid_pool.specs.Grouping.{ClosesEach, CommitsEach, CommitsNext, FinishesIn, SealsBy, SealsNext, UberNames, WaitsForWrites}
use Rattle.draid_pool.specs.Rounds.{EachIs, HeldFrom, HeldOnce}
use Rattle.draid_pool.specs.declared.fault.SyncFault.{SyncFault}
use Rattle.draid_pool.specs.declared.fault.Synced.{Synced}
use Rattle.draid_pool.specs.declared.fault.Syncing.{Syncing}

-- its group is closing in all of so many metaslabs, as they were left, and is sealed in those below the next one
pub record StandsIn {R A : Type 0} (rack : racks.Ghosts R) (count : ℕ) (syncing : Syncing) (last : ℕ → Option (Shard R A)) : Type 0 where
  pub low : syncing.next ≤ count
  pub thin : syncing.thin ≤ syncing.next * NUMBERS
  pub closing : EachIs count (SealsNext rack syncing.group) last
  pub sealed : EachIs syncing.next (CommitsNext rack syncing.group) last

-- and that group is the one behind what the uberblock names: so it may go on
pub record MayGoOn {R A : Type 0} (rack : racks.Ghosts R) (count : ℕ) (syncing : Syncing) (u : Uber A) (last : ℕ → Option (Shard R A)) : Type 0 where
  pub stands : StandsIn rack count syncing last
  pub next : syncing.group ≡ group_of (kept_of u) + 1

-- it begins with no metaslab sealed
pub record IsFirst (group : ℕ) (begun : Syncing) : Type 0 where
  pub group_is : begun.group ≡ group
  pub next : begun.next ≡ 0
  pub thin : begun.thin ≡ 0

module _ {R A S : Type 0} (rack : racks.Ghosts R) (area : areas.Ghosts A) (last : S → ℕ → Option (Shard R A)) (went : S → ℕ → Shard R A → Shard R A → S → Type 0) (shared : Bool) (owns : ℕ → Bool) where
  -- it was sealed in each from the next one on to that which is the next one then, and so many more blocks are thin
  pub record SealsFrom (a : S) (old : Syncing) (b : S) (new : Syncing) : Type 0 where
    pub held : ℕ
    pub sum : ℕ
    pub group : new.group ≡ old.group
    pub next : new.next ≡ old.next + held
    pub thin : new.thin ≡ old.thin + sum
    pub each : HeldFrom rack area last went shared owns (λ thin x y. SealsBy rack area old.group x (Ok thin) y) old.next held a sum b

  -- and the hold of this one stopped it
  pub record SealsUntil (stops : Shard R A → Shard R A → Type 0) (count : ℕ) (a : S) (old : Syncing) (b : S) (new : Syncing) : Type 0 where
    pub mid : S
    pub front : SealsFrom a old mid new
    pub below : new.next < count
    pub stop : HeldOnce rack area last went shared owns stops mid new.next b

  -- it is sealed in all; or a metaslab stopped it; or open writes in the next one are in the way
  abbrev pub SealsRest : ℕ → S → Syncing → Option (Result Unit SyncFault) → S → Syncing → Type 0
  SealsRest count a old (Some (Ok done)) b new = SealsFrom a old b new × (new.next ≡ count)
  SealsRest count a old (Some (Err why)) b new = SealsUntil (λ x y. SealsBy rack area old.group x (Err why) y) count a old b new
  SealsRest count a old None b new = SealsUntil (λ x y. WaitsForWrites old.group x y) count a old b new

  -- A sync went on: it was sealed in the rest, the uberblock names it, and it was committed in each. Or it was stopped, and where; or open writes in a metaslab, which
  -- is the next one then, are in the way.
  abbrev pub GoesOnIn : ℕ → S → Syncing → Uber A → Option (Result Synced SyncFault) → S → Syncing → Uber A → Type 0
  GoesOnIn count a old u (Some (Ok it)) b new v =
      (late : S) × SealsRest count a old (Some (Ok tt)) late new × (it.group ≡ old.group) × (it.thin ≡ new.thin) × UberNames area old.group u (Ok tt) v × CommitsEach rack area last went shared owns old.group count late b
  GoesOnIn count a old u (Some (Err why)) b new v = (SealsRest count a old (Some (Err why)) b new × (v ≡ u)) ⊎ (SealsRest count a old (Some (Ok tt)) b new × UberNames area old.group u (Err why) v)
  GoesOnIn count a old u None b new v = SealsRest count a old None b new × (v ≡ u)

  -- A sync began: a group that was closing is committed, if there was one, and the next one was closed in each. Or it was stopped; or open writes are in the way of
  -- what was closing.
  abbrev pub BeginsIn : ℕ → S → Uber A → Option (Result Syncing SyncFault) → S → Uber A → Type 0
  BeginsIn count a u (Some (Ok begun)) b v =
      (mid : S) × FinishesIn rack area last went shared owns count a u (Some (Ok tt)) mid v × IsFirst (group_of (kept_of v) + 1) begun × ClosesEach rack area last went shared owns begun.group count mid (Ok tt) b
  BeginsIn count a u (Some (Err why)) b v =
      FinishesIn rack area last went shared owns count a u (Some (Err why)) b v
      ⊎ ((mid : S) × FinishesIn rack area last went shared owns count a u (Some (Ok tt)) mid v × ClosesEach rack area last went shared owns (group_of (kept_of v) + 1) count mid (Err why) b)
  BeginsIn count a u None b v = FinishesIn rack area last went shared owns count a u None b v
