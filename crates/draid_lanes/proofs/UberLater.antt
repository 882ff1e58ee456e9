-- The count of failed calls on the uberblock's areas doesn't fall in a sync.
use Rattle.std.proofs.Common.{◌≡◌, ◌≤◌, inl, inr, ℕ, zero, suc, Bool, Option, Some, None, Ok, Err, arith, ap}
use Rattle.std.specs.Prelude.{Result}
use Rattle.draid_rack.specs.declared.Rack as racks
use Rattle.draid_area.specs.declared.Area as areas
use Rattle.draid_shard.specs.declared.shard.Shard.{Shard}
use Rattle.draid_uber.specs.Uber.{count_of}
use Rattle.draid_uber.specs.declared.uber.Uber.{Uber}
use Rattle.draid_pool.specs.GoingOn.{BeginsIn, GoesOnIn}
use Rattle.draid_pool.specs.Grouping.{CommitsIn, FinishesIn, SyncsIn, UberNames}
use Rattle.draid_pool.specs.declared.fault.SyncFault.{SyncFault}
use Rattle.draid_pool.specs.declared.fault.SyncFault.TheVariants as sync
use Rattle.draid_pool.specs.declared.fault.Synced.{Synced}
use Rattle.draid_pool.specs.declared.fault.Syncing.{Syncing}
use Rattle.draid_lanes.specs.Waits.{BeginsThrough, BegunOn, GoesThrough, SyncsThrough, WaitsOn}

-- the count of a pool's own areas
abbrev pub own_count : {A : Type 0} → areas.Ghosts A → Uber A → ℕ
own_count area u = count_of area.faults u

module _ {A : Type 0} (area : areas.Ghosts A) where
  pub still_later : (u v : Uber A) → v ≡ u → own_count area u ≤ own_count area v
  still_later u v is = (let same = ap (own_count area) is in omega (arith, same))

  pub later_then : (u w v : Uber A) → own_count area u ≤ own_count area w → own_count area w ≤ own_count area v → own_count area u ≤ own_count area v
  later_then u w v first more = omega (arith, first, more)

  names_later : (group : ℕ) (u v : Uber A) (result : Result Unit SyncFault) → UberNames area group u result v → own_count area u ≤ own_count area v
  names_later group u v (Ok done) names = names.1
  names_later group u v (Err sync.Shelf) names = names.1
  names_later group u v (Err sync.NoMemory) names = names.1
  names_later group u v (Err sync.Worn) names = absurd names
  names_later group u v (Err sync.Last) names = absurd names

module _ {R A S : Type 0} (rack : racks.Ghosts R) (area : areas.Ghosts A) (last : S → ℕ → Option (Shard R A)) (went : S → ℕ → Shard R A → Shard R A → S → Type 0) (shared : Bool) (mine : ℕ → Bool) (count : ℕ) where
  commits_later : (group : ℕ) (a b : S) (u v : Uber A) (out : Option (Result ℕ SyncFault)) → CommitsIn rack area last went shared mine group count a u out b v → own_count area u ≤ own_count area v
  commits_later group a b u v (Some (Ok thin)) (mid, late, closes, seals, names, commits) = names_later area group u v (Ok tt) names
  commits_later group a b u v (Some (Err why)) (inl (closes, same)) = still_later area u v same
  commits_later group a b u v (Some (Err why)) (inr (inl (mid, closes, seals, same))) = still_later area u v same
  commits_later group a b u v (Some (Err why)) (inr (inr (mid, thin, closes, seals, names))) = names_later area group u v (Err why) names
  commits_later group a b u v None (mid, closes, seals, same) = still_later area u v same

  pub finish_later : (a b : S) (u v : Uber A) (out : Option (Result Unit SyncFault)) → FinishesIn rack area last went shared mine count a u out b v → own_count area u ≤ own_count area v
  finish_later a b u v (Some (Ok done)) (inl (found, same)) = still_later area u v same
  finish_later a b u v (Some (Ok done)) (inr (group, thin, mid, found, commits)) = commits_later group mid b u v (Some (Ok thin)) commits
  finish_later a b u v (Some (Err why)) (group, mid, found, commits) = commits_later group mid b u v (Some (Err why)) commits
  finish_later a b u v None (group, mid, found, commits) = commits_later group mid b u v None commits

  pub sync_later : (a b : S) (u v : Uber A) (out : Option (Result Synced SyncFault)) → SyncsIn rack area last went shared mine count a u out b v → own_count area u ≤ own_count area v
  sync_later a b u v (Some (Ok it)) (mid, w, finishes, is, commits) = later_then area u w v (finish_later a mid u w (Some (Ok tt)) finishes) (commits_later it.group mid b w v (Some (Ok it.thin)) commits)
  sync_later a b u v (Some (Err why)) (inl finishes) = finish_later a b u v (Some (Err why)) finishes
  sync_later a b u v (Some (Err why)) (inr (mid, w, group, finishes, is, commits)) = later_then area u w v (finish_later a mid u w (Some (Ok tt)) finishes) (commits_later group mid b w v (Some (Err why)) commits)
  sync_later a b u v None (inl finishes) = finish_later a b u v None finishes
  sync_later a b u v None (inr (mid, w, group, finishes, is, commits)) = later_then area u w v (finish_later a mid u w (Some (Ok tt)) finishes) (commits_later group mid b w v None commits)

  -- ---- one that waited

  pub begin_later : (a b : S) (u v : Uber A) (out : Option (Result Syncing SyncFault)) → BeginsIn rack area last went shared mine count a u out b v → own_count area u ≤ own_count area v
  begin_later a b u v (Some (Ok begun)) (mid, finishes, first, closes) = finish_later a mid u v (Some (Ok tt)) finishes
  begin_later a b u v (Some (Err why)) (inl finishes) = finish_later a b u v (Some (Err why)) finishes
  begin_later a b u v (Some (Err why)) (inr (mid, finishes, closes)) = finish_later a mid u v (Some (Ok tt)) finishes
  begin_later a b u v None finishes = finish_later a b u v None finishes

  pub begun_later : (n : ℕ) (a b : S) (u v : Uber A) → BegunOn rack area last went shared mine count n a u b v → own_count area u ≤ own_count area v
  begun_later zero a b u v (at, same) = still_later area u v same
  begun_later (suc n) a b u v (mid, w, front, begins) = later_then area u w v (begun_later n a mid u w front) (begin_later mid b w v None begins)

  goes_later : (a b : S) (old new : Syncing) (u v : Uber A) (out : Option (Result Synced SyncFault)) → GoesOnIn rack area last went shared mine count a old u out b new v → own_count area u ≤ own_count area v
  goes_later a b old new u v (Some (Ok it)) (late, seals, is, thin, names, commits) = names_later area old.group u v (Ok tt) names
  goes_later a b old new u v (Some (Err why)) (inl (seals, same)) = still_later area u v same
  goes_later a b old new u v (Some (Err why)) (inr (seals, names)) = names_later area old.group u v (Err why) names
  goes_later a b old new u v None goes = still_later area u v goes.1

  pub waits_later : (n : ℕ) (a b : S) (old new : Syncing) (u v : Uber A) → WaitsOn rack area last went shared mine count n a old u b new v → own_count area u ≤ own_count area v
  waits_later zero a b old new u v (at, is, same) = still_later area u v same
  waits_later (suc n) a b old new u v (mid, now, w, front, goes) = later_then area u w v (waits_later n a mid old now u w front) (goes_later mid b now new w v None goes)

  starts_later : (a b : S) (u v : Uber A) (result : Result Syncing SyncFault) → BeginsThrough rack area last went shared mine count a u result b v → own_count area u ≤ own_count area v
  starts_later a b u v result t = later_then area u t.w v (begun_later t.waits a t.mid u t.w t.front) (begin_later t.mid b t.w v (Some result) t.begins)

  ends_later : (a b : S) (old : Syncing) (u v : Uber A) (result : Result Synced SyncFault) → GoesThrough rack area last went shared mine count a old u result b v → own_count area u ≤ own_count area v
  ends_later a b old u v result t = later_then area u t.w v (waits_later t.waits a t.mid old t.now u t.w t.front) (goes_later t.mid b t.now t.new t.w v (Some result) t.goes)

  pub through_later : (a b : S) (u v : Uber A) (result : Result Synced SyncFault) → SyncsThrough rack area last went shared mine count a u result b v → own_count area u ≤ own_count area v
  through_later a b u v result (inl (mid, begun, w, begins, goes)) = later_then area u w v (starts_later a mid u w (Ok begun) begins) (ends_later mid b begun w v result goes)
  through_later a b u v result (inr (why, is, begins)) = starts_later a b u v (Err why) begins
