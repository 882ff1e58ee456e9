-- What is so behind a sync: whatever each of its holds keeps, and that follows one behind another.
use Rattle.std.proofs.Common.{◌≤◌, ◌+◌, inl, inr, ℕ, zero, suc, Bool, Option, Some, None, Ok, Err, sym, subst}
use Rattle.std.specs.Prelude.{Result}
use Rattle.draid_rack.specs.declared.Rack as racks
use Rattle.draid_area.specs.declared.Area as areas
use Rattle.draid_shard.specs.declared.shard.Shard.{Shard}
use Rattle.draid_uber.specs.Slots.{group_of}
use Rattle.draid_uber.specs.Uber.{kept_of}
use Rattle.draid_uber.specs.declared.uber.Uber.{Uber}
use Rattle.draid_pool.specs.GoingOn.{BeginsIn, GoesOnIn, SealsFrom, SealsUntil}
use Rattle.draid_pool.specs.Grouping.{ClosesEach, ClosesIn, CommitsIn, FindsClosing, FinishesIn, SealsBy, SealsEach, SeesClosing, SyncsIn, WaitsForWrites}
use Rattle.draid_pool.specs.Rounds.{HeldEach, HeldFrom, HeldOnce, StoppedBy}
use Rattle.draid_pool.specs.Syncing.{Commits}
use Rattle.draid_pool.specs.declared.fault.SyncFault.{SyncFault}
use Rattle.draid_pool.specs.declared.fault.Synced.{Synced}
use Rattle.draid_pool.specs.declared.fault.Syncing.{Syncing}
use Rattle.draid_lanes.specs.Waits.{BeginsThrough, BegunOn, GoesThrough, SyncsThrough, WaitsOn}
use Rattle.draid_lanes.proofs.OwnGoes.{OwnGoes, own_closes, own_commits, own_seals, own_still}

module _ {R A S : Type 0} (rack : racks.Ghosts R) (area : areas.Ghosts A) (last : S → ℕ → Option (Shard R A)) (went : S → ℕ → Shard R A → Shard R A → S → Type 0) (shared : Bool) (mine owns : ℕ → Bool)
    (later : (a : S) (m : ℕ) (x y : Shard R A) (b : S) → went a m x y b → x.committed ≤ y.committed) (Keeps : S → S → Type 0) (same : (a : S) → Keeps a a) (on : (a b c : S) → Keeps a b → Keeps b c → Keeps a c)
    (hold : (does : Shard R A → Shard R A → Type 0) (a : S) (m : ℕ) (b : S) (h : HeldOnce rack area last went shared mine does a m b) → OwnGoes rack area owns h.before h.after → Keeps a b) where
  -- ---- rounds

  module _ (does : ℕ → Shard R A → Shard R A → Type 0) (so : (n : ℕ) (x y : Shard R A) → does n x y → OwnGoes rack area owns x y) where
    pub round_goes : (n sum : ℕ) (a b : S) → HeldEach rack area last went shared mine does n a sum b → Keeps a b
    round_goes zero sum a b each = subst (Keeps a) (sym each.0) (same a)
    round_goes (suc n) sum a b (mid, some, more, each, once, adds) = on a mid b (round_goes n some a mid each) (hold (does more) mid n b once (so more once.before once.after once.did))

    pub stop_goes : (stops : Shard R A → Shard R A → Type 0) → ((x y : Shard R A) → stops x y → OwnGoes rack area owns x y) → (count : ℕ) (a b : S) → StoppedBy rack area last went shared mine does stops count a b → Keeps a b
    stop_goes stops still count a b s = on a s.mid b (round_goes s.place s.sum a s.mid s.front) (hold stops s.mid s.place b s.stop (still s.stop.before s.stop.after s.stop.did))

  -- ---- a group

  pub closes_goes : (group count : ℕ) (a b : S) (result : Result Unit SyncFault) → ClosesEach rack area last went shared mine group count a result b → Keeps a b
  closes_goes group count a b (Ok done) each = round_goes (λ none x y. ClosesIn rack area group x (Ok tt) y) (λ n. own_closes rack area owns group (Ok tt)) count 0 a b each
  closes_goes group count a b (Err why) s =
      stop_goes (λ none x y. ClosesIn rack area group x (Ok tt) y) (λ n. own_closes rack area owns group (Ok tt)) (λ x y. ClosesIn rack area group x (Err why) y) (own_closes rack area owns group (Err why)) count a b s

  pub seals_goes : (group count : ℕ) (a b : S) (out : Option (Result ℕ SyncFault)) → SealsEach rack area last went shared mine group count a out b → Keeps a b
  seals_goes group count a b (Some (Ok thin)) each = round_goes (λ n x y. SealsBy rack area group x (Ok n) y) (λ n. own_seals rack area owns group (Ok n)) count thin a b each
  seals_goes group count a b (Some (Err why)) s =
      stop_goes (λ n x y. SealsBy rack area group x (Ok n) y) (λ n. own_seals rack area owns group (Ok n)) (λ x y. SealsBy rack area group x (Err why) y) (own_seals rack area owns group (Err why)) count a b s
  seals_goes group count a b None s = stop_goes (λ n x y. SealsBy rack area group x (Ok n) y) (λ n. own_seals rack area owns group (Ok n)) (λ x y. WaitsForWrites group x y) (λ x y w. own_still rack area owns x y w.same) count a b s

  pub commit_round : (group n sum : ℕ) (a b : S) → HeldEach rack area last went shared mine (λ none x y. Commits rack group x y) n a sum b → Keeps a b
  commit_round group zero sum a b each = subst (Keeps a) (sym each.0) (same a)
  commit_round group (suc n) sum a b (mid, some, more, each, once, adds) =
      on a mid b (commit_round group n some a mid each)
      (hold (λ x y. Commits rack group x y) mid n b once (own_commits rack area owns group once.before once.after (later mid n once.before once.after b once.goes) once.did))

  pub commits_goes : (group count : ℕ) (a b : S) (u v : Uber A) (out : Option (Result ℕ SyncFault)) → CommitsIn rack area last went shared mine group count a u out b v → Keeps a b
  commits_goes group count a b u v (Some (Ok thin)) (mid, late, closes, seals, names, commits) =
      on a late b (on a mid late (closes_goes group count a mid (Ok tt) closes) (seals_goes group count mid late (Some (Ok thin)) seals)) (commit_round group count 0 late b commits)
  commits_goes group count a b u v (Some (Err why)) (inl (closes, same)) = closes_goes group count a b (Err why) closes
  commits_goes group count a b u v (Some (Err why)) (inr (inl (mid, closes, seals, same))) = on a mid b (closes_goes group count a mid (Ok tt) closes) (seals_goes group count mid b (Some (Err why)) seals)
  commits_goes group count a b u v (Some (Err why)) (inr (inr (mid, thin, closes, seals, names))) = on a mid b (closes_goes group count a mid (Ok tt) closes) (seals_goes group count mid b (Some (Ok thin)) seals)
  commits_goes group count a b u v None (mid, closes, seals, same) = on a mid b (closes_goes group count a mid (Ok tt) closes) (seals_goes group count mid b None seals)

  sees : (closing : Option ℕ) (x y : Shard R A) → SeesClosing closing x y → OwnGoes rack area owns x y
  sees closing x y saw = own_still rack area owns x y saw.0

  pub finds_goes : (count : ℕ) (a b : S) (found : Option ℕ) → FindsClosing rack area last went shared mine count a found b → Keeps a b
  finds_goes count a b (Some group) s = stop_goes (λ none x y. SeesClosing None x y) (λ n. sees None) (λ x y. SeesClosing (Some group) x y) (sees (Some group)) count a b s
  finds_goes count a b None each = round_goes (λ none x y. SeesClosing None x y) (λ n. sees None) count 0 a b each

  pub finish_goes : (count : ℕ) (a b : S) (u v : Uber A) (out : Option (Result Unit SyncFault)) → FinishesIn rack area last went shared mine count a u out b v → Keeps a b
  finish_goes count a b u v (Some (Ok done)) (inl (found, same)) = finds_goes count a b None found
  finish_goes count a b u v (Some (Ok done)) (inr (group, thin, mid, found, commits)) = on a mid b (finds_goes count a mid (Some group) found) (commits_goes group count mid b u v (Some (Ok thin)) commits)
  finish_goes count a b u v (Some (Err why)) (group, mid, found, commits) = on a mid b (finds_goes count a mid (Some group) found) (commits_goes group count mid b u v (Some (Err why)) commits)
  finish_goes count a b u v None (group, mid, found, commits) = on a mid b (finds_goes count a mid (Some group) found) (commits_goes group count mid b u v None commits)

  pub sync_goes : (count : ℕ) (a b : S) (u v : Uber A) (out : Option (Result Synced SyncFault)) → SyncsIn rack area last went shared mine count a u out b v → Keeps a b
  sync_goes count a b u v (Some (Ok it)) (mid, w, finishes, next, commits) = on a mid b (finish_goes count a mid u w (Some (Ok tt)) finishes) (commits_goes it.group count mid b w v (Some (Ok it.thin)) commits)
  sync_goes count a b u v (Some (Err why)) (inl finishes) = finish_goes count a b u v (Some (Err why)) finishes
  sync_goes count a b u v (Some (Err why)) (inr (mid, w, group, finishes, next, commits)) =
      on a mid b (finish_goes count a mid u w (Some (Ok tt)) finishes) (commits_goes group count mid b w v (Some (Err why)) commits)
  sync_goes count a b u v None (inl finishes) = finish_goes count a b u v None finishes
  sync_goes count a b u v None (inr (mid, w, group, finishes, next, commits)) = on a mid b (finish_goes count a mid u w (Some (Ok tt)) finishes) (commits_goes group count mid b w v None commits)

  -- ---- a sync that is under way

  module _ (count : ℕ) where
    -- ---- it goes on

    pub from_goes : (group first n sum : ℕ) (a b : S) → HeldFrom rack area last went shared mine (λ thin x y. SealsBy rack area group x (Ok thin) y) first n a sum b → Keeps a b
    from_goes group first zero sum a b each = subst (Keeps a) (sym each.0) (same a)
    from_goes group first (suc n) sum a b (mid, some, more, each, once, adds) =
        on a mid b (from_goes group first n some a mid each)
        (hold (λ x y. SealsBy rack area group x (Ok more) y) mid (first + n) b once (own_seals rack area owns group (Ok more) once.before once.after once.did))

    pub rest_goes : (a b : S) (old new : Syncing) → SealsFrom rack area last went shared mine a old b new → Keeps a b
    rest_goes a b old new s = from_goes old.group old.next s.held s.sum a b s.each

    until_goes : (a b : S) (old new : Syncing) (stops : Shard R A → Shard R A → Type 0) → ((x y : Shard R A) → stops x y → OwnGoes rack area owns x y) → SealsUntil rack area last went shared mine stops count a old b new → Keeps a b
    until_goes a b old new stops so s =
        on a s.mid b (rest_goes a s.mid old new s.front) (hold stops s.mid new.next b s.stop (so s.stop.before s.stop.after s.stop.did))

    pub goes_goes : (a b : S) (old new : Syncing) (u v : Uber A) (out : Option (Result Synced SyncFault)) → GoesOnIn rack area last went shared mine count a old u out b new v → Keeps a b
    goes_goes a b old new u v (Some (Ok it)) (late, seals, group_is, thin_is, names, commits) =
        on a late b (rest_goes a late old new seals.0) (commit_round old.group count 0 late b commits)
    goes_goes a b old new u v (Some (Err why)) (inl (seals, same)) = until_goes a b old new (λ x y. SealsBy rack area old.group x (Err why) y) (own_seals rack area owns old.group (Err why)) seals
    goes_goes a b old new u v (Some (Err why)) (inr (seals, names)) = rest_goes a b old new seals.0
    goes_goes a b old new u v None (seals, same) = until_goes a b old new (λ x y. WaitsForWrites old.group x y) (λ x y w. own_still rack area owns x y w.same) seals

    pub begin_goes : (a b : S) (u v : Uber A) (out : Option (Result Syncing SyncFault)) → BeginsIn rack area last went shared mine count a u out b v → Keeps a b
    begin_goes a b u v (Some (Ok begun)) (mid, finishes, first, closes) =
        on a mid b (finish_goes count a mid u v (Some (Ok tt)) finishes) (closes_goes begun.group count mid b (Ok tt) closes)
    begin_goes a b u v (Some (Err why)) (inl finishes) = finish_goes count a b u v (Some (Err why)) finishes
    begin_goes a b u v (Some (Err why)) (inr (mid, finishes, closes)) =
        on a mid b (finish_goes count a mid u v (Some (Ok tt)) finishes)
        (closes_goes (group_of (kept_of v) + 1) count mid b (Err why) closes)
    begin_goes a b u v None finishes = finish_goes count a b u v None finishes

    -- ---- a sync that waited

    pub begun_goes : (n : ℕ) (a b : S) (u v : Uber A) → BegunOn rack area last went shared mine count n a u b v → Keeps a b
    begun_goes zero a b u v (at, is) = subst (Keeps a) (sym at) (same a)
    begun_goes (suc n) a b u v (mid, w, front, begins) = on a mid b (begun_goes n a mid u w front) (begin_goes mid b w v None begins)

    pub begins_goes : (a b : S) (u v : Uber A) (result : Result Syncing SyncFault) → BeginsThrough rack area last went shared mine count a u result b v → Keeps a b
    begins_goes a b u v result t = on a t.mid b (begun_goes t.waits a t.mid u t.w t.front) (begin_goes t.mid b t.w v (Some result) t.begins)

    pub waits_goes : (n : ℕ) (a b : S) (old new : Syncing) (u v : Uber A) → WaitsOn rack area last went shared mine count n a old u b new v → Keeps a b
    waits_goes zero a b old new u v (at, old_is, is) = subst (Keeps a) (sym at) (same a)
    waits_goes (suc n) a b old new u v (mid, now, w, front, goes) = on a mid b (waits_goes n a mid old now u w front) (goes_goes mid b now new w v None goes)

    through_goes : (a b : S) (old : Syncing) (u v : Uber A) (result : Result Synced SyncFault) → GoesThrough rack area last went shared mine count a old u result b v → Keeps a b
    through_goes a b old u v result t = on a t.mid b (waits_goes t.waits a t.mid old t.now u t.w t.front) (goes_goes t.mid b t.now t.new t.w v (Some result) t.goes)

    pub synced_goes : (a b : S) (u v : Uber A) (result : Result Synced SyncFault) → SyncsThrough rack area last went shared mine count a u result b v → Keeps a b
    synced_goes a b u v result (inl (mid, begun, w, begins, goes)) = on a mid b (begins_goes a mid u w (Ok begun) begins) (through_goes mid b begun w v result goes)
    synced_goes a b u v result (inr (why, is, begins)) = begins_goes a b u v (Err why) begins
