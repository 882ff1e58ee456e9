-- What a pool does that gives up its checkpoint: as it goes back to it, and as it lets it go.
use Rattle.std.proofs.Common.{arith, ◌≡◌, ◌≢◌, ◌+◌, ◌<◌, ◌≤◌, ◌∙◌, ℕ, true, false, List, [], ◌∷◌, Option, Some, None, refl, sym, ap, subst, max}
use Rattle.std.specs.Prelude.{nat_eq, nat_lt, slice_get}
use Rattle.std.specs.HashMap.{get}
use Rattle.std.proofs.lemmas.Bool.Decides.{nat_tests}
use Rattle.draid_names.specs.declared.numbers.TheConstants.{LAST_NUMBER}
use Rattle.draid_names.specs.declared.pointer.Pointer.{Pointer}
use Rattle.draid_rack.specs.declared.Rack as racks
use Rattle.draid_area.specs.declared.Area as areas
use Rattle.draid_machine.specs.declared.event.Event.TheVariants as event
use Rattle.draid_machine.specs.declared.names.Stage.TheVariants.{Live}
use Rattle.draid_machine.proofs.Small.{none_some}
use Rattle.draid_objects.specs.Changes.{Write, write_of}
use Rattle.draid_objects.specs.Marks.{Check, Mark, check_by}
use Rattle.draid_objects.specs.Rewinds.{is_its_own, is_younger}
use Rattle.draid_objects.proofs.Marking.{upto_all}
use Rattle.draid_entries.specs.Maps.{held_at, key_of, staged}
use Rattle.draid_shard.specs.Part.{Part}
use Rattle.draid_session.specs.Discarding.{FreesKept, FreesKey}
use Rattle.draid_session.specs.GoingBack.{FreesBorn}
use Rattle.draid_session.specs.Holds.{Did, Hold, On}
use Rattle.draid_session.specs.Points.{HasPoint, IsPointOf, given_up}
use Rattle.draid_session.specs.State.{State, Store}
use Rattle.draid_uber.specs.Uber.{point_of}
use Rattle.draid_pool.specs.Carries.{CarriesOut}
use Rattle.draid_pool.specs.Objects.{IsPointerOf, PointsTo, blocks_of}
use Rattle.draid_pool.specs.Pools.{Represents, group_in}
use Rattle.draid_pool.specs.Syncing.{AreIdle}
use Rattle.draid_pool.specs.Whole.{IsPointer, IsWhole}
use Rattle.draid_pool.specs.Failing.{AreasLater}
use Rattle.draid_pool.specs.declared.pool.Pool.{Pool}
use Rattle.draid_pool.proofs.Points.{point_stands}
use Rattle.draid_pool.proofs.Lists.{present, some_of}
use Rattle.draid_pool.proofs.SyncCalls.{pool_group}
use Rattle.draid_rewinds.specs.Back.{LetsGo, Reverted}
use Rattle.draid_rewinds.specs.Giving.{ForgetsPoint}
use Rattle.draid_rewinds.specs.Sweeps.{FreesOthers}
use Rattle.draid_rewinds.specs.Tables.{AreNewestBorn}
use Rattle.draid_rewinds.proofs.Backing.{back_store, born_live, goes_back, has, is_back}
use Rattle.draid_rewinds.proofs.Forgotten.{Forgotten, MayForget, forgotten}
use Rattle.draid_rewinds.proofs.Letting.{lets_go, own_object, pointer_held, pointer_key}
use Rattle.draid_rewinds.proofs.Settled.{idle_open, idle_settled}
use Rattle.draid_rewinds.proofs.Swept.{FreesTested}
use Rattle.draid_rewinds.proofs.WholeThen.{KeepsAll, areas_then, keeps_all, may_give_low, whole_then}

-- ---- holds

kept_holds : (store : Store) (c : Check) (group : ℕ) (holds : List Hold) → check_by store.marks ≡ Some c → FreesTested (is_its_own c) group holds → FreesKept store group holds
kept_holds store c group [] check frees = tt
kept_holds store c group (On v (Did (event.Free key freed) after) ∷ holds) check frees = (frees.0, (c, check, frees.1.3), kept_holds store c group holds check frees.2)
kept_holds store c group (hold ∷ holds) check frees = absurd frees

later_by : (a b : ℕ) → nat_lt a b ≡ true → a < b
later_by a b is = grind (arith, nat_tests, is)

later_is : (a b : ℕ) → a < b → nat_lt a b ≡ true
later_is a b less = grind (arith, nat_tests, less)

born_holds : (c : Check) (group : ℕ) (holds : List Hold) → FreesTested (is_younger c) group holds → FreesBorn c.group group holds
born_holds c group [] frees = tt
born_holds c group (On v (Did (event.Free key freed) after) ∷ holds) frees = (frees.0, (frees.1.0, frees.1.1, frees.1.2, later_by c.group frees.1.0.birth frees.1.3), born_holds c group holds frees.2)
born_holds c group (hold ∷ holds) frees = absurd frees

pub has_point : (marks : List Mark) (o : Option ℕ) (own : ℕ) → o ≡ Some own → IsPointOf marks o → HasPoint marks own
has_point marks None own is of = absurd (none_some None own refl is)
has_point marks (Some group) own is of = (of.0, of.1, of.2 ∙ some_of (Some group) group own refl is)

-- the table of a checkpoint's blocks leads to live ones
pub born_pointer : {R A : Type 0} (rack : racks.Ghosts R) (area : areas.Ghosts A) (pool : Pool R A) (check : ℕ) (table : ℕ → Option Pointer) → IsWhole rack area pool → AreNewestBorn pool.metaslabs.shards.items check table
    → (o : ℕ) (p : Pointer) → table o ≡ Some p → IsPointer pool o p
born_pointer rack area pool check table w newest o p leads =
    let q = newest.pointers o p leads in
    let is = w.shards q.1.0 q.1.1 q.1.2 in
    let here : p.metaslab ≡ q.1.0 = is.valid.here.each p.first (staged Live p) q.1.3.live ∙ ap (λ (z : Part). z.number) is.part in
    record { object_is = q.0; shard = q.1.1; there = ap (slice_get pool.metaslabs.shards.items) here ∙ q.1.2; live = q.1.3.live }

module _ {R A : Type 0} (rack : racks.Ghosts R) (area : areas.Ghosts A) (old new : Pool R A) (w : IsWhole rack area old) (idle : AreIdle old.metaslabs.shards.items) (table : ℕ → Option Pointer) (freed : ℕ)
    (frees : FreesOthers rack area table (group_in old + 1) old.metaslabs.shards.items freed new.metaslabs.shards.items) (uber : ForgetsPoint area (group_in old + 1) old.uber new.uber) (geometry : new.geometry ≡ old.geometry)
    (objects_are : (o : ℕ) → get nat_eq new.own.objects o ≡ table o) (seq : new.own.seq ≡ old.own.seq) (floor : new.own.floor ≡ max old.own.floor (group_in old + 1)) where
  low : group_in old + 1 ≤ LAST_NUMBER
  low = may_give_low rack area old w idle

  keeps : KeepsAll rack area table old.metaslabs.shards.items new.metaslabs.shards.items
  keeps = keeps_all rack area table (group_in old + 1) frees.blocks old.metaslabs.shards.items new.metaslabs.shards.items (λ m z there. (w.shards m z there).valid) frees.are

  pub given_whole : ((o : ℕ) (p : Pointer) → table o ≡ Some p → IsPointer old o p) → IsWhole rack area new
  given_whole objects = whole_then rack area old new w low table keeps objects_are uber geometry objects seq floor

  pub given_later : ((o : ℕ) (p : Pointer) → table o ≡ Some p → IsPointer old o p) → AreasLater area.faults old new
  given_later objects = areas_then rack area old new w low table keeps objects_are uber geometry objects seq floor

  module _ (x : State) (r : Represents rack area old x) (floor_low : x.store.floor ≤ x.committed + 1) where
    at : group_in old ≡ x.committed
    at = pool_group rack area old x r

    frees_at : FreesOthers rack area table (x.committed + 1) old.metaslabs.shards.items freed new.metaslabs.shards.items
    frees_at = subst (λ n. FreesOthers rack area table (n + 1) old.metaslabs.shards.items freed new.metaslabs.shards.items) at frees

    uber_at : ForgetsPoint area (x.committed + 1) old.uber new.uber
    uber_at = subst (λ n. ForgetsPoint area (n + 1) old.uber new.uber) at uber

    floor_at : new.own.floor ≡ max old.own.floor (x.committed + 1)
    floor_at = floor ∙ ap (λ n. max old.own.floor (n + 1)) at

    last : x.committed + 1 ≤ LAST_NUMBER
    last = (let under = low in omega (arith, under, at))

    settled : x.pending ≡ false
    settled = idle_settled rack area old x r idle

    point : IsPointOf x.store.marks (point_of old.uber).group
    point = point_stands area old.uber x (blocks_of x.metaslabs) r.stands.pieces r.stands.uber r.stands.holds r.stands.groups

    -- the uberblock's checkpoint is that of the marks
    pub own_point : (own : ℕ) → (point_of old.uber).group ≡ Some own → HasPoint x.store.marks own
    own_point own is = has_point x.store.marks (point_of old.uber).group own is point

    pub some_point : (point_of old.uber).group ≢ None → (c : Check) × (check_by x.store.marks ≡ Some c)
    some_point some = by (point_of old.uber).group refl point
      where
        by : (o : Option ℕ) → (point_of old.uber).group ≡ o → IsPointOf x.store.marks o → (c : Check) × (check_by x.store.marks ≡ Some c)
        by None is of = absurd (some is)
        by (Some own) is of = (of.0, of.1)

    -- ---- a discard

    module _ (c : Check) (check : check_by x.store.marks ≡ Some c) (own_table : (λ o. get nat_eq old.own.objects o) ≡ table) where
      may_let : MayForget rack area old x table (is_its_own c) (given_up (x.committed + 1) x.store)
      may_let = subst (λ t. MayForget rack area old x t (is_its_own c) (given_up (x.committed + 1) x.store)) own_table (lets_go rack area old x r c check floor_low)

      let_gone : Forgotten rack area old new x r settled floor_low last table (is_its_own c) (given_up (x.committed + 1) x.store) may_let freed frees_at uber_at geometry objects_are seq floor_at
      let_gone = forgotten rack area old new x r settled floor_low last table (is_its_own c) (given_up (x.committed + 1) x.store) may_let freed frees_at uber_at geometry objects_are seq floor_at (λ o v is. own_object x.store.changes o v is)

      pub let_carries : CarriesOut rack area new x (LetsGo (x.committed + 1) x.store freed)
      let_carries = record {
        holds = let_gone.all.swept.holds;
        reached = record x { metaslabs = let_gone.all.swept.metaslabs };
        store = given_up (x.committed + 1) x.store;
        follows = let_gone.all.swept.follows;
        done = record {
          has = λ none. none_some (check_by x.store.marks) c none check;
          many = sym let_gone.all.swept.count;
          frees = kept_holds x.store c (x.committed + 1) let_gone.all.swept.holds check let_gone.all.swept.frees;
          all = λ key kept.
              (let same : kept.0 ≡ c = some_of (check_by x.store.marks) kept.0 c kept.1 check in
              let drops : c.dropped key ≡ true = ap (λ (z : Check). z.dropped key) (sym same) ∙ kept.2 in
              let b = (has rack area old x r c check).drops key drops in
              let l = born_live rack area old x r c check b.0 key b.1 in
              let_gone.all.keys b.0 key l.0 l.1 l.2 drops);
          made = refl;
        };
        represents = let_gone.represents;
      }

    -- ---- going back

    module _ (c : Check) (check : check_by x.store.marks ≡ Some c) (newest : AreNewestBorn old.metaslabs.shards.items c.group table) where
      -- the checkpoint is of a committed group
      early : c.group ≤ x.committed
      early =
          let some = r.stands.layout.geometry_is.props.some_metaslabs in
          let many = r.stands.many in
          let y = present x.metaslabs 0 (omega (arith, many, some)) in
          let top : ℕ = max x.store.floor (x.committed + 1) in
          let behind = r.stands.groups.checks 0 y.0 y.1 top c (omega arith) (upto_all top top x.store.marks r.stands.groups.marked (omega arith) ∙ check) in
          let is = idle_open rack area old x r idle 0 y.0 y.1 in
          omega (arith, behind, is)

      may_back : MayForget rack area old x table (is_younger c) (back_store rack area old x r c check table newest)
      may_back = goes_back rack area old x r c check table newest floor_low early

      gone_back : Forgotten rack area old new x r settled floor_low last table (is_younger c) (back_store rack area old x r c check table newest) may_back freed frees_at uber_at geometry objects_are seq floor_at
      gone_back = forgotten rack area old new x r settled floor_low last table (is_younger c) (back_store rack area old x r c check table newest) may_back freed frees_at uber_at geometry objects_are seq floor_at
          (λ o v is. own_object (back_store rack area old x r c check table newest).changes o v is)

      -- a block of an object's last write is there
      last_there : (o : ℕ) (p : Option Pointer) (v : Option Write) (v' : Write) → v ≡ Some v' → PointsTo old.metaslabs.shards.items p v → (q : Pointer) × IsPointerOf old.metaslabs.shards.items q v'
      last_there o None None v' is points = absurd (none_some None v' refl is)
      last_there o None (Some z) v' is points = absurd points
      last_there o (Some p) None v' is points = absurd points
      last_there o (Some p) (Some z) v' is points = (p, subst (IsPointerOf old.metaslabs.shards.items p) (some_of (Some z) z v' refl is) points)

      pub back_carries : CarriesOut rack area new x (Reverted (x.committed + 1) x.store)
      back_carries = record {
        holds = gone_back.all.swept.holds;
        reached = record x { metaslabs = gone_back.all.swept.metaslabs };
        store = back_store rack area old x r c check table newest;
        follows = gone_back.all.swept.follows;
        done = record {
          reverts = record { goes = record { check = c; there = check; back = is_back rack area old x r c check table newest }; marks = refl; seq = refl; floor = refl };
          frees = born_holds c (x.committed + 1) gone_back.all.swept.holds gone_back.all.swept.frees;
          all = λ object v is less.
              (let q = last_there object (get nat_eq old.own.objects object) (write_of x.store.changes object) v is (r.stands.objects object) in
              let birth = q.1.birth_is in
              let there = pointer_held rack area old x r q.0 v q.1 in
              subst (λ k. FreesKey k gone_back.all.swept.holds) (pointer_key rack area old x r q.0 v q.1)
              (gone_back.all.keys q.0.metaslab (key_of q.0) (held_at (staged Live q.0)) there refl (later_is c.group q.0.birth (omega (arith, birth, less)))));
        };
        represents = gone_back.represents;
      }
