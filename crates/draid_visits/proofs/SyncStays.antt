-- What becomes of each metaslab through the holds of a sync: whatever a relation says that others keep to in between, and that holds where a hold left the part and the pass.
use Rattle.std.proofs.Common.{◌≡◌, ◌+◌, ◌∙◌, inl, inr, ℕ, zero, suc, Bool, Option, Some, None, Ok, Err, refl, sym, ap, subst, if◌then◌else◌, eq-eqb, ne_eqb}
use mathlib.Core.Logic.{dite}
use native.Mathlib.Decide.{ℕ_discrete}
use Rattle.std.specs.Prelude.{Result}
use Rattle.draid_rack.specs.declared.Rack as racks
use Rattle.draid_area.specs.declared.Area as areas
use Rattle.draid_shard.specs.States.{part_of}
use Rattle.draid_shard.specs.declared.shard.Shard.{Shard}
use Rattle.draid_uber.specs.Slots.{group_of}
use Rattle.draid_uber.specs.Uber.{kept_of}
use Rattle.draid_uber.specs.declared.uber.Uber.{Uber}
use Rattle.draid_pool.specs.Drifts.{Drifts}
use Rattle.draid_pool.specs.GoingOn.{BeginsIn, GoesOnIn, SealsUntil}
use Rattle.draid_pool.specs.Grouping.{ClosesEach, ClosesIn, CommitsIn, FindsClosing, FinishesIn, SealsBy, SealsEach, SeesClosing, SyncsIn, WaitsForWrites}
use Rattle.draid_pool.specs.Passes.{KeepsPass}
use Rattle.draid_pool.specs.Rounds.{HeldEach, HeldFrom, HeldOnce, StoppedBy}
use Rattle.draid_pool.specs.Syncing.{Commits}
use Rattle.draid_pool.specs.declared.fault.SyncFault.{SyncFault}
use Rattle.draid_pool.specs.declared.fault.Synced.{Synced}
use Rattle.draid_pool.specs.declared.fault.Syncing.{Syncing}
use Rattle.draid_pool.proofs.Holding.{some_same}

-- such a relation of a metaslab as a thread left it and as it was left then
pub record IsKept {R A : Type 0} (rack : racks.Ghosts R) (area : areas.Ghosts A) (shared : Bool) (owns : ℕ → Bool) (Stays : Shard R A → Shard R A → Type 0) : Type 0 where
  pub same : (x : Shard R A) → Stays x x
  pub on : (x y z : Shard R A) → Stays x y → Stays y z → Stays x z
  pub drift : (x y : Shard R A) → Drifts rack area shared owns x y → Stays x y
  pub step : (x y : Shard R A) → part_of y ≡ part_of x → KeepsPass x.pass y.pass → Stays x y

-- each metaslab was there, and is so
abbrev pub AllKept : {R A S : Type 0} → (S → ℕ → Option (Shard R A)) → (Shard R A → Shard R A → Type 0) → S → S → Type 0
AllKept {R} {A} last Stays a b = (m : ℕ) (y : Shard R A) → last b m ≡ Some y → (x : Shard R A) × (last a m ≡ Some x) × Stays x y

module _ {R A S : Type 0} (rack : racks.Ghosts R) (area : areas.Ghosts A) (last : S → ℕ → Option (Shard R A)) (went : S → ℕ → Shard R A → Shard R A → S → Type 0) (shared : Bool) (owns : ℕ → Bool) where
  -- the one that was held, and the others
  module _ (does : Shard R A → Shard R A → Type 0) (a : S) (m : ℕ) (b : S) (h : HeldOnce rack area last went shared owns does a m b) where
    pub held_here : last b m ≡ Some h.after
    held_here = h.is m ∙ ap (λ t. if t then Some h.after else last a m) (eq-eqb m m refl)

    held_away : (k : ℕ) → (k ≡ m → ⊥) → last b k ≡ last a k
    held_away k not = h.is k ∙ ap (λ t. if t then Some h.after else last a k) (ne_eqb k m not)

  module _ (Stays : Shard R A → Shard R A → Type 0) (law : IsKept rack area shared owns Stays) where
    -- ---- holds

    pub all_same : (a : S) → AllKept last Stays a a
    all_same a m y at = (y, at, law.same y)

    pub all_on : (a b c : S) → AllKept last Stays a b → AllKept last Stays b c → AllKept last Stays a c
    all_on a b c first second m y at = (let p = second m y at in let q = first m p.0 p.1 in (q.0, q.1, law.on q.0 p.0 y q.2 p.2))

    pub once_kept : (does : Shard R A → Shard R A → Type 0) (a : S) (m : ℕ) (b : S) (h : HeldOnce rack area last went shared owns does a m b) → Stays h.before h.after → AllKept last Stays a b
    once_kept does a m b h stay k y at = dite (ℕ_discrete k m)
        (λ is.
        (h.shard, ap (last a) is ∙ h.there, subst (λ s. Stays h.shard s) (some_same h.after y (sym (held_here does a m b h) ∙ (ap (last b) (sym is) ∙ at))) (law.on h.shard h.before h.after (law.drift h.shard h.before h.drifts) stay)))
        (λ not. (y, sym (held_away does a m b h k not) ∙ at, law.same y))

    module _ (does : ℕ → Shard R A → Shard R A → Type 0) (stays : (n : ℕ) (x y : Shard R A) → does n x y → Stays x y) where
      pub round_kept : (n sum : ℕ) (a b : S) → HeldEach rack area last went shared owns does n a sum b → AllKept last Stays a b
      round_kept zero sum a b each = subst (AllKept last Stays a) (sym each.0) (all_same a)
      round_kept (suc n) sum a b (mid, some, more, each, once, adds) =
          all_on a mid b (round_kept n some a mid each) (once_kept (does more) mid n b once (stays more once.before once.after once.did))

      pub stop_kept : (stops : Shard R A → Shard R A → Type 0) → ((x y : Shard R A) → stops x y → Stays x y) → (count : ℕ) (a b : S) → StoppedBy rack area last went shared owns does stops count a b → AllKept last Stays a b
      stop_kept stops so count a b s = all_on a s.mid b (round_kept s.place s.sum a s.mid s.front) (once_kept stops s.mid s.place b s.stop (so s.stop.before s.stop.after s.stop.did))

    -- ---- a sync

    same_kept : (x y : Shard R A) → y ≡ x → Stays x y
    same_kept x y is = subst (Stays x) (sym is) (law.same x)

    sees_kept : (closing : Option ℕ) (x y : Shard R A) → SeesClosing closing x y → Stays x y
    sees_kept closing x y sees = same_kept x y sees.0

    closes_one : (group : ℕ) (result : Result Unit SyncFault) (x y : Shard R A) → ClosesIn rack area group x result y → Stays x y
    closes_one group result x y c = law.step x y c.table.part c.stays.pass

    seals_one : (group : ℕ) (result : Result ℕ SyncFault) (x y : Shard R A) → SealsBy rack area group x result y → Stays x y
    seals_one group result x y c = law.step x y c.table.part c.stays.pass

    closes_kept : (group count : ℕ) (a b : S) (result : Result Unit SyncFault) → ClosesEach rack area last went shared owns group count a result b → AllKept last Stays a b
    closes_kept group count a b (Ok done) each = round_kept (λ none x y. ClosesIn rack area group x (Ok tt) y) (λ n. closes_one group (Ok tt)) count 0 a b each
    closes_kept group count a b (Err why) s = stop_kept (λ none x y. ClosesIn rack area group x (Ok tt) y) (λ n. closes_one group (Ok tt)) (λ x y. ClosesIn rack area group x (Err why) y) (closes_one group (Err why)) count a b s

    seals_kept : (group count : ℕ) (a b : S) (out : Option (Result ℕ SyncFault)) → SealsEach rack area last went shared owns group count a out b → AllKept last Stays a b
    seals_kept group count a b (Some (Ok thin)) each = round_kept (λ n x y. SealsBy rack area group x (Ok n) y) (λ n. seals_one group (Ok n)) count thin a b each
    seals_kept group count a b (Some (Err why)) s = stop_kept (λ n x y. SealsBy rack area group x (Ok n) y) (λ n. seals_one group (Ok n)) (λ x y. SealsBy rack area group x (Err why) y) (seals_one group (Err why)) count a b s
    seals_kept group count a b None s = stop_kept (λ n x y. SealsBy rack area group x (Ok n) y) (λ n. seals_one group (Ok n)) (λ x y. WaitsForWrites group x y) (λ x y c. same_kept x y c.same) count a b s

    commits_kept : (group count : ℕ) (a b : S) (u v : Uber A) (out : Option (Result ℕ SyncFault)) → CommitsIn rack area last went shared owns group count a u out b v → AllKept last Stays a b
    commits_kept group count a b u v (Some (Ok thin)) (mid, late, closes, seals, names, commits) =
        all_on a late b (all_on a mid late (closes_kept group count a mid (Ok tt) closes) (seals_kept group count mid late (Some (Ok thin)) seals))
        (round_kept (λ none x y. Commits rack group x y) (λ n x y c. law.step x y c.does.part c.stays.pass) count 0 late b commits)
    commits_kept group count a b u v (Some (Err why)) (inl (closes, same)) = closes_kept group count a b (Err why) closes
    commits_kept group count a b u v (Some (Err why)) (inr (inl (mid, closes, seals, same))) = all_on a mid b (closes_kept group count a mid (Ok tt) closes) (seals_kept group count mid b (Some (Err why)) seals)
    commits_kept group count a b u v (Some (Err why)) (inr (inr (mid, thin, closes, seals, names))) = all_on a mid b (closes_kept group count a mid (Ok tt) closes) (seals_kept group count mid b (Some (Ok thin)) seals)
    commits_kept group count a b u v None (mid, closes, seals, same) = all_on a mid b (closes_kept group count a mid (Ok tt) closes) (seals_kept group count mid b None seals)

    finds_kept : (count : ℕ) (a b : S) (found : Option ℕ) → FindsClosing rack area last went shared owns count a found b → AllKept last Stays a b
    finds_kept count a b (Some group) s = stop_kept (λ none x y. SeesClosing None x y) (λ n. sees_kept None) (λ x y. SeesClosing (Some group) x y) (sees_kept (Some group)) count a b s
    finds_kept count a b None each = round_kept (λ none x y. SeesClosing None x y) (λ n. sees_kept None) count 0 a b each

    finish_kept : (count : ℕ) (a b : S) (u v : Uber A) (out : Option (Result Unit SyncFault)) → FinishesIn rack area last went shared owns count a u out b v → AllKept last Stays a b
    finish_kept count a b u v (Some (Ok done)) (inl (found, same)) = finds_kept count a b None found
    finish_kept count a b u v (Some (Ok done)) (inr (group, thin, mid, found, commits)) =
        all_on a mid b (finds_kept count a mid (Some group) found) (commits_kept group count mid b u v (Some (Ok thin)) commits)
    finish_kept count a b u v (Some (Err why)) (group, mid, found, commits) = all_on a mid b (finds_kept count a mid (Some group) found) (commits_kept group count mid b u v (Some (Err why)) commits)
    finish_kept count a b u v None (group, mid, found, commits) = all_on a mid b (finds_kept count a mid (Some group) found) (commits_kept group count mid b u v None commits)

    pub sync_kept : (count : ℕ) (a b : S) (u v : Uber A) (out : Option (Result Synced SyncFault)) → SyncsIn rack area last went shared owns count a u out b v → AllKept last Stays a b
    sync_kept count a b u v (Some (Ok it)) (mid, w, finishes, next, commits) = all_on a mid b (finish_kept count a mid u w (Some (Ok tt)) finishes) (commits_kept it.group count mid b w v (Some (Ok it.thin)) commits)
    sync_kept count a b u v (Some (Err why)) (inl finishes) = finish_kept count a b u v (Some (Err why)) finishes
    sync_kept count a b u v (Some (Err why)) (inr (mid, w, group, finishes, next, commits)) =
        all_on a mid b (finish_kept count a mid u w (Some (Ok tt)) finishes) (commits_kept group count mid b w v (Some (Err why)) commits)
    sync_kept count a b u v None (inl finishes) = finish_kept count a b u v None finishes
    sync_kept count a b u v None (inr (mid, w, group, finishes, next, commits)) = all_on a mid b (finish_kept count a mid u w (Some (Ok tt)) finishes) (commits_kept group count mid b w v None commits)

    -- ---- a sync that is under way

    from_kept : (group first n sum : ℕ) (a b : S) → HeldFrom rack area last went shared owns (λ thin x y. SealsBy rack area group x (Ok thin) y) first n a sum b → AllKept last Stays a b
    from_kept group first zero sum a b each = subst (AllKept last Stays a) (sym each.0) (all_same a)
    from_kept group first (suc n) sum a b (mid, some, more, each, once, adds) =
        all_on a mid b (from_kept group first n some a mid each)
        (once_kept (λ x y. SealsBy rack area group x (Ok more) y) mid (first + n) b once (seals_one group (Ok more) once.before once.after once.did))

    until_kept : (count : ℕ) (a b : S) (old new : Syncing) (stops : Shard R A → Shard R A → Type 0) → ((x y : Shard R A) → stops x y → Stays x y) → SealsUntil rack area last went shared owns stops count a old b new → AllKept last Stays a b
    until_kept count a b old new stops so s =
        let f = s.front in
        all_on a s.mid b (from_kept old.group old.next f.held f.sum a s.mid f.each) (once_kept stops s.mid new.next b s.stop (so s.stop.before s.stop.after s.stop.did))

    pub goes_kept : (count : ℕ) (a b : S) (old new : Syncing) (u v : Uber A) (out : Option (Result Synced SyncFault)) → GoesOnIn rack area last went shared owns count a old u out b new v → AllKept last Stays a b
    goes_kept count a b old new u v (Some (Ok it)) (late, seals, group_is, thin_is, names, commits) =
        let f = seals.0 in
        all_on a late b (from_kept old.group old.next f.held f.sum a late f.each) (round_kept (λ none x y. Commits rack old.group x y) (λ n x y c. law.step x y c.does.part c.stays.pass) count 0 late b commits)
    goes_kept count a b old new u v (Some (Err why)) (inl (seals, same)) = until_kept count a b old new (λ x y. SealsBy rack area old.group x (Err why) y) (seals_one old.group (Err why)) seals
    goes_kept count a b old new u v (Some (Err why)) (inr (seals, names)) = (let f = seals.0 in from_kept old.group old.next f.held f.sum a b f.each)
    goes_kept count a b old new u v None (seals, same) = until_kept count a b old new (λ x y. WaitsForWrites old.group x y) (λ x y w. same_kept x y w.same) seals

    pub begins_kept : (count : ℕ) (a b : S) (u v : Uber A) (out : Option (Result Syncing SyncFault)) → BeginsIn rack area last went shared owns count a u out b v → AllKept last Stays a b
    begins_kept count a b u v (Some (Ok begun)) (mid, finishes, first, closes) = all_on a mid b (finish_kept count a mid u v (Some (Ok tt)) finishes) (closes_kept begun.group count mid b (Ok tt) closes)
    begins_kept count a b u v (Some (Err why)) (inl finishes) = finish_kept count a b u v (Some (Err why)) finishes
    begins_kept count a b u v (Some (Err why)) (inr (mid, finishes, closes)) =
        all_on a mid b (finish_kept count a mid u v (Some (Ok tt)) finishes) (closes_kept (group_of (kept_of v) + 1) count mid b (Err why) closes)
    begins_kept count a b u v None finishes = finish_kept count a b u v None finishes
