-- What a thread needs of its metaslabs it has behind a sync that it made.
use Rattle.std.proofs.Common.{◌≡◌, ◌<◌, ◌≤◌, ◌+◌, ◌∙◌, ◌⊎◌, inl, inr, ℕ, zero, suc, Bool, true, Option, Some, None, Ok, Err, arith, refl, sym, ap, subst, if◌then◌else◌, eq-eqb, ne_eqb}
use mathlib.Core.Logic.{dite}
use native.Mathlib.Decide.{ℕ_discrete}
use Rattle.std.specs.Prelude.{Result}
use Rattle.std.proofs.lemmas.Bool.{cases_lt}
use Rattle.draid_names.specs.declared.pointer.Pointer.{Pointer}
use Rattle.draid_rack.specs.declared.Rack as racks
use Rattle.draid_area.specs.declared.Area as areas
use Rattle.draid_machine.proofs.Small.{none_some}
use Rattle.draid_shard.specs.Fits.{Valid}
use Rattle.draid_shard.specs.Part.{Part}
use Rattle.draid_shard.specs.States.{part_of}
use Rattle.draid_shard.specs.declared.shard.Shard.{Shard}
use Rattle.draid_uber.specs.Slots.{group_of}
use Rattle.draid_uber.specs.Uber.{kept_of}
use Rattle.draid_uber.specs.declared.uber.Uber.{Uber}
use Rattle.draid_pool.specs.Committing.{DropsFreed}
use Rattle.draid_pool.specs.Drifts.{KeepsOf, groups_number}
use Rattle.draid_pool.specs.GoingOn.{BeginsIn, GoesOnIn, SealsFrom, SealsUntil}
use Rattle.draid_pool.specs.Grouping.{ClosesEach, ClosesIn, ClosesNext, CommitsIn, FindsClosing, FinishesIn, SealsBy, SealsEach, SeesClosing, SyncsIn, UberNames, WaitsForWrites}
use Rattle.draid_pool.specs.Rounds.{EachIs, HeldEach, HeldFrom, HeldOnce, NoneBeyond, StoppedBy}
use Rattle.draid_pool.specs.Syncing.{Commits, KeepsTable}
use Rattle.draid_pool.specs.Threads.{HasPointer, IsHeldBy, IsNear, IsWholeBy, all_of}
use Rattle.draid_pool.specs.declared.fault.SyncFault.{SyncFault}
use Rattle.draid_pool.specs.declared.fault.SyncFault.TheVariants as sync
use Rattle.draid_pool.specs.declared.fault.Synced.{Synced}
use Rattle.draid_pool.specs.declared.fault.Syncing.{Syncing}
use Rattle.draid_pool.proofs.Drifting.{keeps_self}
use Rattle.draid_pool.proofs.GroupKeeps.{committed_next, drops_keeps}
use Rattle.draid_pool.proofs.HeldBy.{held_drifts}
use Rattle.draid_pool.proofs.Holding.{some_same}
use Rattle.draid_pool.proofs.Nears.{near_kept}
use Rattle.draid_pool.proofs.PhaseSteps.{found_next, found_ready}
use Rattle.draid_pool.proofs.RoundSteps.{each_more, each_stays}
use Rattle.draid_pool.proofs.ShardSteps.{live_on, pointer_on}

-- ---- one metaslab

-- what it has of a thread's own objects is as it was, and its open group didn't fall
pub record KeepsOwn {R A : Type 0} (rack : racks.Ghosts R) (owns : ℕ → Bool) (old new : Shard R A) : Type 0 where
  pub valid : Valid rack new
  pub part : part_of new ≡ part_of old
  pub opens : old.open_group ≤ new.open_group
  pub entries : KeepsOf owns new.committed old.entries new.entries

-- and so is the committed group
pub record KeepsQuiet {R A : Type 0} (rack : racks.Ghosts R) (owns : ℕ → Bool) (old new : Shard R A) : Type 0 where
  pub keeps : KeepsOwn rack owns old new
  pub committed : new.committed ≡ old.committed

module _ {R A : Type 0} (rack : racks.Ghosts R) (area : areas.Ghosts A) (owns : ℕ → Bool) where
  table_quiet : (old new : Shard R A) → Valid rack new → KeepsTable old new → KeepsQuiet rack owns old new
  table_quiet old new valid table = record { keeps = record { valid = valid; part = table.part; opens = table.opens; entries = record { each = λ key own. inl (table.entries.held key) } }; committed = table.committed }

  pub still_quiet : (old new : Shard R A) → Valid rack old → new ≡ old → KeepsQuiet rack owns old new
  still_quiet old new valid same = subst (KeepsQuiet rack owns old) (sym same) (record { keeps = record { valid = valid; part = refl; opens = omega arith; entries = keeps_self owns old.committed old.entries }; committed = refl })

  commit_keeps_own : (group : ℕ) (old new : Shard R A) → Commits rack group old new → KeepsOwn rack owns old new
  commit_keeps_own group old new c = record {
    valid = c.valid;
    part = c.does.part;
    opens = (let same = c.commits.open_group_is in omega (arith, same));
    entries = drops_keeps owns new.committed old.entries new.entries (subst (λ g. DropsFreed g old.entries new.entries) (sym c.commits.committed) c.commits.entries);
  }

-- ---- all of them

module _ {R A S : Type 0} (rack : racks.Ghosts R) (area : areas.Ghosts A) (last : S → ℕ → Option (Shard R A)) (went : S → ℕ → Shard R A → Shard R A → S → Type 0) (shared : Bool) (owns : ℕ → Bool) (count : ℕ) where
  -- ---- a hold

  module _ (does : Shard R A → Shard R A → Type 0) (a : S) (m : ℕ) (b : S) (below : m < count) (h : HeldOnce rack area last went shared owns does a m b) where
    here : last b m ≡ Some h.after
    here = h.is m ∙ ap (λ t. if t then Some h.after else last a m) (eq-eqb m m refl)

    away : (k : ℕ) → (k ≡ m → ⊥) → last b k ≡ last a k
    away k not = h.is k ∙ ap (λ t. if t then Some h.after else last a k) (ne_eqb k m not)

    on_each : (rest : ℕ → Shard R A → Type 0) → rest m h.after → ((k : ℕ) (s : Shard R A) → last a k ≡ Some s → rest k s) → (k : ℕ) (s : Shard R A) → last b k ≡ Some s → rest k s
    on_each rest held others k s at = dite (ℕ_discrete k m)
        (λ same. subst (λ j. rest j s) (sym same) (subst (rest m) (some_same h.after s (sym here ∙ (ap (last b) (sym same) ∙ at))) held))
        (λ not. others k s (sym (away k not) ∙ at))

    pub beyond_on : KeepsOwn rack owns h.before h.after → NoneBeyond count (last a) → NoneBeyond count (last b)
    beyond_on keeps beyond k from = away k (λ same. omega (arith, same, from, below)) ∙ beyond k from

  -- what a thread needs of each, whatever the groups
  pub record HasLeft (table : ℕ → Option Pointer) (seq floor : ℕ) (s : S) : Type 0 where
    pub shards : (m : ℕ) (shard : Shard R A) → last s m ≡ Some shard → IsHeldBy rack (all_of owns m) seq shard
    pub placed : (m : ℕ) (shard : Shard R A) → last s m ≡ Some shard → shard.number ≡ m
    pub pointers : (object : ℕ) (pointer : Pointer) → table object ≡ Some pointer → HasPointer (last s) rack owns object pointer
    pub near : IsNear floor (last s)
    pub beyond : NoneBeyond count (last s)

  module _ (floor : ℕ) (does : Shard R A → Shard R A → Type 0) (a : S) (m : ℕ) (b : S) (below : m < count) (h : HeldOnce rack area last went shared owns does a m b) where
    -- a floor is near what a hold leaves which it was near
    pub near_left : KeepsOwn rack owns h.before h.after → IsNear floor (last a) → IsNear floor (last b)
    near_left keeps was = near_kept floor floor (last a) (last b) (omega arith) stays was
      where
        stays : (k : ℕ) (s : Shard R A) → last a k ≡ Some s → (after : Shard R A) × (last b k ≡ Some after) × (s.open_group ≤ after.open_group)
        stays k s at = dite (ℕ_discrete k m)
            (λ same.
            let one = ap (λ (z : Shard R A). z.open_group) (some_same h.shard s (sym h.there ∙ (ap (last a) (sym same) ∙ at))) in
            let drift = h.drifts.opens in
            let on = keeps.opens in
            (h.after, ap (last b) same ∙ here does a m b below h, omega (arith, one, drift, on)))
            (λ not. (s, away does a m b below h k not ∙ at, omega arith))

  module _ (table : ℕ → Option Pointer) (seq floor : ℕ) (does : Shard R A → Shard R A → Type 0) (a : S) (m : ℕ) (b : S) (below : m < count) (h : HeldOnce rack area last went shared owns does a m b) where
    pub left_on : KeepsOwn rack owns h.before h.after → HasLeft table seq floor a → HasLeft table seq floor b
    left_on keeps left =
        let was = left.shards m h.shard h.there in
        let found = held_drifts rack (all_of owns m) seq h.shard h.before h.drifts.valid was owns h.before.committed (λ k mine. mine) h.drifts.own in
        record {
          shards = on_each does a m b below h (λ k s. IsHeldBy rack (all_of owns k) seq s) (held_drifts rack (all_of owns m) seq h.before h.after keeps.valid found owns h.after.committed (λ k mine. mine) keeps.entries) left.shards;
          placed = on_each does a m b below h (λ k s. s.number ≡ k) (ap (λ (q : Part). q.number) (keeps.part ∙ h.drifts.part) ∙ left.placed m h.shard h.there) left.placed;
          pointers = λ o p at. pointer_on rack area shared owns (last a) (last b) m h.shard h.before h.after h.there h.drifts was.valid keeps.valid h.is o p (left.pointers o p at)
              (live_on rack area owns h.after.committed h.before h.after p h.drifts.valid keeps.valid keeps.part keeps.entries (let has = left.pointers o p at in ap owns has.object_is ∙ has.own));
          near = near_left floor does a m b below h keeps left.near;
          beyond = beyond_on does a m b below h keeps left.beyond;
        }

-- ---- what every hold keeps that leaves what a thread has of its own, where that thread alone changes groups

module _ {R A S : Type 0} (rack : racks.Ghosts R) (area : areas.Ghosts A) (last : S → ℕ → Option (Shard R A)) (went : S → ℕ → Shard R A → Shard R A → S → Type 0) (shared : Bool) (owns : ℕ → Bool) (own : owns groups_number ≡ true) (count : ℕ) (Stays : S → Type 0)
    (on : (does : Shard R A → Shard R A → Type 0) (a : S) (m : ℕ) (b : S) → m < count → (h : HeldOnce rack area last went shared owns does a m b) → KeepsOwn rack owns h.before h.after → Stays a → Stays b) where
  -- and all metaslabs are ready for one group
  pub record HasGroup (s : S) (next : ℕ) : Type 0 where
    pub left : Stays s
    pub ready : EachIs count (ClosesNext rack next) (last s)

  pub quiet_on : (does : Shard R A → Shard R A → Type 0) (a : S) (m : ℕ) (b : S) (below : m < count) (h : HeldOnce rack area last went shared owns does a m b) (next : ℕ) → KeepsQuiet rack owns h.before h.after → HasGroup a next → HasGroup b next
  quiet_on does a m b below h next quiet g =
      let was = found_ready rack area shared owns own count (last a) m below h.shard h.before h.there h.drifts next g.ready in
      record {
        left = on does a m b below h quiet.keeps g.left;
        ready = each_stays (ClosesNext rack next) (last a) (last b) m h.after h.is (record { valid = quiet.keeps.valid; next = (let is = was.next in let same = quiet.committed in omega (arith, is, same)) }) count g.ready;
      }

  -- ---- rounds

  module _ (does : ℕ → Shard R A → Shard R A → Type 0) (quiet : (n : ℕ) (x y : Shard R A) → Valid rack x → does n x y → KeepsQuiet rack owns x y) where
    pub quiet_round : (n sum next : ℕ) (a b : S) → n ≤ count → HeldEach rack area last went shared owns does n a sum b → HasGroup a next → HasGroup b next
    quiet_round zero sum next a b below each g = subst (λ s. HasGroup s next) (sym each.0) g
    quiet_round (suc n) sum next a b below (mid, some, more, each, once, adds) g =
        quiet_on (does more) mid n b (omega (arith, below)) once next (quiet more once.before once.after once.drifts.valid once.did) (quiet_round n some next a mid (omega (arith, below)) each g)

    pub quiet_stop : (stops : Shard R A → Shard R A → Type 0) → ((x y : Shard R A) → Valid rack x → stops x y → KeepsQuiet rack owns x y) → (next : ℕ) (a b : S) → StoppedBy rack area last went shared owns does stops count a b
        → HasGroup a next → HasGroup b next
    quiet_stop stops so next a b s g =
        let below = s.below in
        quiet_on stops s.mid s.place b s.below s.stop next (so s.stop.before s.stop.after s.stop.drifts.valid s.stop.did) (quiet_round s.place s.sum next a s.mid (omega (arith, below)) s.front g)

    quiet_from : (first n sum next : ℕ) (a b : S) → first + n ≤ count → HeldFrom rack area last went shared owns does first n a sum b → HasGroup a next → HasGroup b next
    quiet_from first zero sum next a b below each g = subst (λ s. HasGroup s next) (sym each.0) g
    quiet_from first (suc n) sum next a b below (mid, some, more, each, once, adds) g =
        quiet_on (does more) mid (first + n) b (omega (arith, below)) once next (quiet more once.before once.after once.drifts.valid once.did) (quiet_from first n some next a mid (omega (arith, below)) each g)

  commit_round : (group n sum : ℕ) (a b : S) → n ≤ count → HeldEach rack area last went shared owns (λ none x y. Commits rack group x y) n a sum b → Stays a → Stays b × EachIs n (ClosesNext rack (group + 1)) (last b)
  commit_round group zero sum a b below each left = (subst (λ s. Stays s) (sym each.0) left, (λ m less. absurd (omega (arith, less))))
  commit_round group (suc n) sum a b below (mid, some, more, each, once, adds) left =
      let z = commit_round group n some a mid (omega (arith, below)) each left in (
        on (λ x y. Commits rack group x y) mid n b (omega (arith, below)) once (commit_keeps_own rack area owns group once.before once.after once.did) z.0,
        subst (λ k. EachIs k (ClosesNext rack (group + 1)) (last b)) (let same : n + 1 ≡ suc n = omega arith in same)
            (each_more (ClosesNext rack (group + 1)) (last mid) (last b) n once.after once.is (committed_next rack area group once.before once.after once.did) z.1),
      )

  -- ---- phases

  closes_group : (group next : ℕ) (a b : S) (result : Result Unit SyncFault) → ClosesEach rack area last went shared owns group count a result b → HasGroup a next → HasGroup b next
  closes_group group next a b (Ok done) each g = quiet_round (λ none x y. ClosesIn rack area group x (Ok tt) y) (λ n x y valid c. table_quiet rack area owns x y c.valid c.table) count 0 next a b (omega arith) each g
  closes_group group next a b (Err why) s g = quiet_stop (λ none x y. ClosesIn rack area group x (Ok tt) y) (λ n x y valid c. table_quiet rack area owns x y c.valid c.table)
      (λ x y. ClosesIn rack area group x (Err why) y) (λ x y valid c. table_quiet rack area owns x y c.valid c.table) next a b s g

  seals_group : (group next : ℕ) (a b : S) (out : Option (Result ℕ SyncFault)) → SealsEach rack area last went shared owns group count a out b → HasGroup a next → HasGroup b next
  seals_group group next a b (Some (Ok thin)) each g = quiet_round (λ n x y. SealsBy rack area group x (Ok n) y) (λ n x y valid c. table_quiet rack area owns x y c.valid c.table) count thin next a b (omega arith) each g
  seals_group group next a b (Some (Err why)) s g = quiet_stop (λ n x y. SealsBy rack area group x (Ok n) y) (λ n x y valid c. table_quiet rack area owns x y c.valid c.table)
      (λ x y. SealsBy rack area group x (Err why) y) (λ x y valid c. table_quiet rack area owns x y c.valid c.table) next a b s g
  seals_group group next a b None s g = quiet_stop (λ n x y. SealsBy rack area group x (Ok n) y) (λ n x y valid c. table_quiet rack area owns x y c.valid c.table)
      (λ x y. WaitsForWrites group x y) (λ x y valid c. still_quiet rack area owns x y valid c.same) next a b s g

  refused_kept : (group : ℕ) (u v : Uber A) (why : SyncFault) → UberNames area group u (Err why) v → kept_of v ≡ kept_of u
  refused_kept group u v sync.Shelf names = names.0.kept
  refused_kept group u v sync.NoMemory names = names.0.kept
  refused_kept group u v sync.Worn names = absurd names
  refused_kept group u v sync.Last names = absurd names

  -- behind a group the thread's metaslabs are ready for the one behind that which the uberblock names
  abbrev pub HasNext : S → Uber A → ℕ → Type 0
  HasNext s v group = HasGroup s (group_of (kept_of v) + 1) × (group ≤ group_of (kept_of v) + 1)

  same_next : (s : S) (u v : Uber A) (group : ℕ) → group ≡ group_of (kept_of u) + 1 → kept_of v ≡ kept_of u → HasGroup s group → HasNext s v group
  same_next s u v group next same g =
      let is : group ≡ group_of (kept_of v) + 1 = next ∙ ap (λ k. group_of k + 1) (sym same) in
      (subst (HasGroup s) is g, omega (arith, is))

  commits_next : (group : ℕ) (a b : S) (u v : Uber A) (out : Option (Result ℕ SyncFault)) → group ≡ group_of (kept_of u) + 1 → CommitsIn rack area last went shared owns group count a u out b v → HasGroup a group → HasNext b v group
  commits_next group a b u v (Some (Ok thin)) next (mid, late, closes, seals, names, commits) g =
      let sealed = seals_group group group mid late (Some (Ok thin)) seals (closes_group group group a mid (Ok tt) closes g) in
      let z = commit_round group count 0 late b (omega arith) commits sealed.left in
      let is : group_of (kept_of v) ≡ group = ap group_of names.0.kept in
      (subst (λ n. HasGroup b (n + 1)) (sym is) (record { left = z.0; ready = z.1 }), omega (arith, is))
  commits_next group a b u v (Some (Err why)) next (inl (closes, same)) g = same_next b u v group next (ap kept_of same) (closes_group group group a b (Err why) closes g)
  commits_next group a b u v (Some (Err why)) next (inr (inl (mid, closes, seals, same))) g =
      same_next b u v group next (ap kept_of same) (seals_group group group mid b (Some (Err why)) seals (closes_group group group a mid (Ok tt) closes g))
  commits_next group a b u v (Some (Err why)) next (inr (inr (mid, thin, closes, seals, names))) g =
      same_next b u v group next (refused_kept group u v why names) (seals_group group group mid b (Some (Ok thin)) seals (closes_group group group a mid (Ok tt) closes g))
  commits_next group a b u v None next (mid, closes, seals, same) g =
      same_next b u v group next (ap kept_of same) (seals_group group group mid b None seals (closes_group group group a mid (Ok tt) closes g))

  looks_quiet : (closing : Option ℕ) (x y : Shard R A) → Valid rack x → SeesClosing closing x y → KeepsQuiet rack owns x y
  looks_quiet closing x y valid sees = still_quiet rack area owns x y valid sees.0

  -- the group that was found is the next one
  finds_next : (next group : ℕ) (a b : S) → FindsClosing rack area last went shared owns count a (Some group) b → HasGroup a next → HasGroup b next × (group ≡ next)
  finds_next next group a b s g =
      let below = s.below in
      let h = s.stop in
      let mid = quiet_round (λ none x y. SeesClosing None x y) (λ n. looks_quiet None) s.place s.sum next a s.mid (omega (arith, below)) s.front g in (
        quiet_stop (λ none x y. SeesClosing None x y) (λ n. looks_quiet None) (λ x y. SeesClosing (Some group) x y) (looks_quiet (Some group)) next a b s g,
        found_next rack area shared owns own count (last s.mid) s.place s.below h.shard h.before h.there h.drifts next mid.ready group h.did.1,
      )

  found_commits : (group next : ℕ) (a mid b : S) (u v : Uber A) (out : Option (Result ℕ SyncFault)) → next ≡ group_of (kept_of u) + 1 → FindsClosing rack area last went shared owns count a (Some group) mid
      → CommitsIn rack area last went shared owns group count mid u out b v → HasGroup a next → HasNext b v next
  found_commits group next a mid b u v out is found commits g =
      let z = finds_next next group a mid found g in
      subst (HasNext b v) z.1 (commits_next group mid b u v out (z.1 ∙ is) commits (subst (HasGroup mid) (sym z.1) z.0))

  pub finishes_next : (next : ℕ) (a b : S) (u v : Uber A) (out : Option (Result Unit SyncFault)) → next ≡ group_of (kept_of u) + 1 → FinishesIn rack area last went shared owns count a u out b v → HasGroup a next → HasNext b v next
  finishes_next next a b u v (Some (Ok done)) is (inl (found, same)) g =
      same_next b u v next is (ap kept_of same) (quiet_round (λ none x y. SeesClosing None x y) (λ n. looks_quiet None) count 0 next a b (omega arith) found g)
  finishes_next next a b u v (Some (Ok done)) is (inr (group, thin, mid, found, commits)) g = found_commits group next a mid b u v (Some (Ok thin)) is found commits g
  finishes_next next a b u v (Some (Err why)) is (group, mid, found, commits) g = found_commits group next a mid b u v (Some (Err why)) is found commits g
  finishes_next next a b u v None is (group, mid, found, commits) g = found_commits group next a mid b u v None is found commits g

  then_commits : (next group : ℕ) (a mid b : S) (u w v : Uber A) (out : Option (Result ℕ SyncFault)) → next ≡ group_of (kept_of u) + 1 → FinishesIn rack area last went shared owns count a u (Some (Ok tt)) mid w
      → group ≡ group_of (kept_of w) + 1 → CommitsIn rack area last went shared owns group count mid w out b v → HasGroup a next → HasNext b v next
  then_commits next group a mid b u w v out is finishes behind commits g =
      let f = finishes_next next a mid u w (Some (Ok tt)) is finishes g in
      let d = commits_next group mid b w v out behind commits (subst (HasGroup mid) (sym behind) f.0) in
      let low = f.1 in
      let high = d.1 in
      (d.0, omega (arith, low, high, behind))

  pub syncs_next : (next : ℕ) (a b : S) (u v : Uber A) (out : Option (Result Synced SyncFault)) → next ≡ group_of (kept_of u) + 1 → SyncsIn rack area last went shared owns count a u out b v → HasGroup a next → HasNext b v next
  syncs_next next a b u v (Some (Ok it)) is (mid, w, finishes, behind, commits) g = then_commits next it.group a mid b u w v (Some (Ok it.thin)) is finishes behind commits g
  syncs_next next a b u v (Some (Err why)) is (inl finishes) g = finishes_next next a b u v (Some (Err why)) is finishes g
  syncs_next next a b u v (Some (Err why)) is (inr (mid, w, group, finishes, behind, commits)) g = then_commits next group a mid b u w v (Some (Err why)) is finishes behind commits g
  syncs_next next a b u v None is (inl finishes) g = finishes_next next a b u v None is finishes g
  syncs_next next a b u v None is (inr (mid, w, group, finishes, behind, commits)) g = then_commits next group a mid b u w v None is finishes behind commits g

  -- ---- a sync that is under way

  pub begins_next : (next : ℕ) (a b : S) (u v : Uber A) (out : Option (Result Syncing SyncFault)) → next ≡ group_of (kept_of u) + 1 → BeginsIn rack area last went shared owns count a u out b v → HasGroup a next → HasNext b v next
  begins_next next a b u v (Some (Ok begun)) is (mid, finishes, first, closes) g =
      let f = finishes_next next a mid u v (Some (Ok tt)) is finishes g in
      (closes_group begun.group (group_of (kept_of v) + 1) mid b (Ok tt) closes f.0, f.1)
  begins_next next a b u v (Some (Err why)) is (inl finishes) g = finishes_next next a b u v (Some (Err why)) is finishes g
  begins_next next a b u v (Some (Err why)) is (inr (mid, finishes, closes)) g =
      let f = finishes_next next a mid u v (Some (Ok tt)) is finishes g in
      (closes_group (group_of (kept_of v) + 1) (group_of (kept_of v) + 1) mid b (Err why) closes f.0, f.1)
  begins_next next a b u v None is finishes g = finishes_next next a b u v None is finishes g

  seals_from : (next : ℕ) (a b : S) (old new : Syncing) → new.next ≤ count → SealsFrom rack area last went shared owns a old b new → HasGroup a next → HasGroup b next
  seals_from next a b old new below s g =
      let behind = s.next in
      quiet_from (λ n x y. SealsBy rack area old.group x (Ok n) y) (λ n x y valid c. table_quiet rack area owns x y c.valid c.table) old.next s.held s.sum next a b (omega (arith, below, behind)) s.each g

  seals_until : (next : ℕ) (a b : S) (old new : Syncing) (stops : Shard R A → Shard R A → Type 0) → ((x y : Shard R A) → Valid rack x → stops x y → KeepsQuiet rack owns x y) → SealsUntil rack area last went shared owns stops count a old b new
      → HasGroup a next → HasGroup b next
  seals_until next a b old new stops so s g =
      let below = s.below in
      quiet_on stops s.mid new.next b s.below s.stop next (so s.stop.before s.stop.after s.stop.drifts.valid s.stop.did) (seals_from next a s.mid old new (omega (arith, below)) s.front g)

  pub goes_next : (a b : S) (old new : Syncing) (u v : Uber A) (out : Option (Result Synced SyncFault)) → old.group ≡ group_of (kept_of u) + 1 → GoesOnIn rack area last went shared owns count a old u out b new v → HasGroup a old.group → HasNext b v old.group
  goes_next a b old new u v (Some (Ok it)) next (late, seals, group_is, thin_is, names, commits) g =
      let all = seals.1 in
      let sealed = seals_from old.group a late old new (omega (arith, all)) seals.0 g in
      let z = commit_round old.group count 0 late b (omega arith) commits sealed.left in
      let is : group_of (kept_of v) ≡ old.group = ap group_of names.0.kept in
      (subst (λ n. HasGroup b (n + 1)) (sym is) (record { left = z.0; ready = z.1 }), omega (arith, is))
  goes_next a b old new u v (Some (Err why)) next (inl (seals, same)) g =
      same_next b u v old.group next (ap kept_of same) (seals_until old.group a b old new (λ x y. SealsBy rack area old.group x (Err why) y) (λ x y valid c. table_quiet rack area owns x y c.valid c.table) seals g)
  goes_next a b old new u v (Some (Err why)) next (inr (seals, names)) g =
      let all = seals.1 in
      same_next b u v old.group next (refused_kept old.group u v why names) (seals_from old.group a b old new (omega (arith, all)) seals.0 g)
  goes_next a b old new u v None next (seals, same) g =
      same_next b u v old.group next (ap kept_of same) (seals_until old.group a b old new (λ x y. WaitsForWrites old.group x y) (λ x y valid c. still_quiet rack area owns x y valid c.same) seals g)

-- ---- what is whole

module _ {R A S : Type 0} (rack : racks.Ghosts R) (area : areas.Ghosts A) (last : S → ℕ → Option (Shard R A)) (went : S → ℕ → Shard R A → Shard R A → S → Type 0) (shared : Bool) (owns : ℕ → Bool) (own : owns groups_number ≡ true) (count : ℕ)
    (table : ℕ → Option Pointer) (seq floor : ℕ) (some : 0 < count) (a b : S) (u v : Uber A) (ready : EachIs count (ClosesNext rack (group_of (kept_of u) + 1)) (last a)) (beyond : NoneBeyond count (last a))
    (whole : IsWholeBy rack owns (last a) table seq floor) where
  pub begins : HasGroup rack area last went shared owns own count (HasLeft rack area last went shared owns count table seq floor) (left_on rack area last went shared owns count table seq floor) a (group_of (kept_of u) + 1)
  begins = record { left = record { shards = whole.shards; placed = whole.placed; pointers = whole.pointers; near = whole.reached; beyond = beyond }; ready = ready }

  pub ends : HasNext rack area last went shared owns own count (HasLeft rack area last went shared owns count table seq floor) (left_on rack area last went shared owns count table seq floor) b v (group_of (kept_of u) + 1) → IsWholeBy rack owns (last b) table seq floor
  ends z = record {
    shards = z.0.left.shards;
    placed = z.0.left.placed;
    together = λ m n shard other mine at there. (let x = at_group m shard at in let y = at_group n other there in omega (arith, x, y));
    next = λ m shard mine at. (let x = at_group m shard at in let up = z.1 in omega (arith, x, up, low));
    pointers = z.0.left.pointers;
    low = whole.low;
    reached = z.0.left.near;
  }
    where
      low : floor ≤ group_of (kept_of u) + 2
      low = (let first = ready 0 some in let up = whole.next 0 first.0 own first.1 in let is = first.2.next in omega (arith, up, is))

      at_group : (m : ℕ) (shard : Shard R A) → last b m ≡ Some shard → group_of (kept_of v) + 1 ≡ shard.committed + 1
      at_group m shard at = by (cases_lt m count)
        where
          by : (m < count) ⊎ (count ≤ m) → group_of (kept_of v) + 1 ≡ shard.committed + 1
          by (inl less) = (let y = z.0.ready m less in y.2.next ∙ ap (λ (s : Shard R A). s.committed + 1) (some_same y.0 shard (sym y.1 ∙ at)))
          by (inr from) = absurd (none_some (last b m) shard (z.0.left.beyond m from) at)

  pub finish_whole : (out : Option (Result Unit SyncFault)) → FinishesIn rack area last went shared owns count a u out b v → IsWholeBy rack owns (last b) table seq floor
  finish_whole out finishes = ends (finishes_next rack area last went shared owns own count (HasLeft rack area last went shared owns count table seq floor) (left_on rack area last went shared owns count table seq floor) (group_of (kept_of u) + 1) a b u v out refl finishes begins)

  pub sync_whole : (out : Option (Result Synced SyncFault)) → SyncsIn rack area last went shared owns count a u out b v → IsWholeBy rack owns (last b) table seq floor
  sync_whole out syncs = ends (syncs_next rack area last went shared owns own count (HasLeft rack area last went shared owns count table seq floor) (left_on rack area last went shared owns count table seq floor) (group_of (kept_of u) + 1) a b u v out refl syncs begins)

  pub begin_whole : (out : Option (Result Syncing SyncFault)) → BeginsIn rack area last went shared owns count a u out b v → IsWholeBy rack owns (last b) table seq floor
  begin_whole out it = ends (begins_next rack area last went shared owns own count (HasLeft rack area last went shared owns count table seq floor) (left_on rack area last went shared owns count table seq floor) (group_of (kept_of u) + 1) a b u v out refl it begins)

  pub go_whole : (old new : Syncing) (out : Option (Result Synced SyncFault)) → old.group ≡ group_of (kept_of u) + 1 → GoesOnIn rack area last went shared owns count a old u out b new v → IsWholeBy rack owns (last b) table seq floor
  go_whole old new out is it =
      let H = HasGroup rack area last went shared owns own count (HasLeft rack area last went shared owns count table seq floor) (left_on rack area last went shared owns count table seq floor) in
      ends (subst (HasNext rack area last went shared owns own count (HasLeft rack area last went shared owns count table seq floor) (left_on rack area last went shared owns count table seq floor) b v) is
      (goes_next rack area last went shared owns own count (HasLeft rack area last went shared owns count table seq floor) (left_on rack area last went shared owns count table seq floor) a b old new u v out is it (subst (H a) (sym is) begins)))

-- ---- what is ready

module _ {R A S : Type 0} (rack : racks.Ghosts R) (area : areas.Ghosts A) (last : S → ℕ → Option (Shard R A)) (went : S → ℕ → Shard R A → Shard R A → S → Type 0) (shared : Bool) (owns : ℕ → Bool) (own : owns groups_number ≡ true) (count : ℕ) (a b : S) (u v : Uber A)
    (ready : EachIs count (ClosesNext rack (group_of (kept_of u) + 1)) (last a)) (beyond : NoneBeyond count (last a)) where
  -- all metaslabs are ready for the group behind that which the uberblock names, and there are no more
  abbrev pub IsReady : Type 0
  IsReady = EachIs count (ClosesNext rack (group_of (kept_of v) + 1)) (last b) × NoneBeyond count (last b)

  -- a group that was found is that one
  pub find_ready : (group : ℕ) → FindsClosing rack area last went shared owns count a (Some group) b → EachIs count (ClosesNext rack (group_of (kept_of u) + 1)) (last b) × (group ≡ group_of (kept_of u) + 1)
  find_ready group found =
      let z = finds_next rack area last went shared owns own count (λ s. NoneBeyond count (last s)) (beyond_on rack area last went shared owns count) (group_of (kept_of u) + 1) group a b found (record { left = beyond; ready = ready }) in
      (z.0.ready, z.1)

  pub finish_ready : (out : Option (Result Unit SyncFault)) → FinishesIn rack area last went shared owns count a u out b v → IsReady
  finish_ready out finishes =
      let z = finishes_next rack area last went shared owns own count (λ s. NoneBeyond count (last s)) (beyond_on rack area last went shared owns count) (group_of (kept_of u) + 1) a b u v out refl finishes (record { left = beyond; ready = ready }) in
      (z.0.ready, z.0.left)

  pub sync_ready : (out : Option (Result Synced SyncFault)) → SyncsIn rack area last went shared owns count a u out b v → IsReady
  sync_ready out syncs =
      let z = syncs_next rack area last went shared owns own count (λ s. NoneBeyond count (last s)) (beyond_on rack area last went shared owns count) (group_of (kept_of u) + 1) a b u v out refl syncs (record { left = beyond; ready = ready }) in
      (z.0.ready, z.0.left)

  pub begin_ready : (out : Option (Result Syncing SyncFault)) → BeginsIn rack area last went shared owns count a u out b v → IsReady
  begin_ready out it =
      let z = begins_next rack area last went shared owns own count (λ s. NoneBeyond count (last s)) (beyond_on rack area last went shared owns count) (group_of (kept_of u) + 1) a b u v out refl it (record { left = beyond; ready = ready }) in
      (z.0.ready, z.0.left)

  pub go_ready : (old new : Syncing) (out : Option (Result Synced SyncFault)) → old.group ≡ group_of (kept_of u) + 1 → GoesOnIn rack area last went shared owns count a old u out b new v → IsReady
  go_ready old new out is it =
      let z = goes_next rack area last went shared owns own count (λ s. NoneBeyond count (last s)) (beyond_on rack area last went shared owns count) a b old new u v out is it
      (record { left = beyond; ready = subst (λ n. EachIs count (ClosesNext rack n) (last a)) (sym is) ready }) in
      (z.0.ready, z.0.left)
