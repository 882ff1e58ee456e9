-- What a sync does to arms: behind it all metaslabs have the same ones again, and no leaf came.
use Rattle.std.proofs.Common.{◌≡◌, ◌<◌, ◌≤◌, ◌+◌, ◌∙◌, ◌⊎◌, inl, inr, ℕ, zero, suc, Bool, true, Option, Some, None, Ok, Err, arith, refl, sym, ap, subst, if◌then◌else◌, eq-eqb, ne_eqb}
use mathlib.Core.Logic.{dite}
use native.Mathlib.Decide.{ℕ_discrete}
use Rattle.std.specs.Prelude.{Result}
use Rattle.std.proofs.lemmas.Bool.{cases_lt}
use Rattle.draid_rack.specs.declared.Rack as racks
use Rattle.draid_area.specs.declared.Area as areas
use Rattle.draid_machine.proofs.Small.{none_some}
use Rattle.draid_slots.specs.Changes.{Commits as CommitsSlots}
use Rattle.draid_shard.specs.Alike.{ShareArms}
use Rattle.draid_shard.specs.Fits.{IsLeaf}
use Rattle.draid_shard.specs.declared.shard.Shard.{Shard}
use Rattle.draid_uber.specs.Slots.{group_of}
use Rattle.draid_uber.specs.Uber as ubers
use Rattle.draid_uber.specs.declared.uber.Uber.{Uber}
use Rattle.draid_pool.specs.Drifts.{KeepsGroups, groups_number}
use Rattle.draid_pool.specs.GoingOn.{BeginsIn, GoesOnIn, SealsFrom, SealsUntil}
use Rattle.draid_pool.specs.Grouping.{ClosesEach, ClosesIn, CommitsIn, FindsClosing, FinishesIn, SealsBy, SealsEach, SeesClosing, UberNames, WaitsForWrites}
use Rattle.draid_pool.specs.Rounds.{HeldEach, HeldFrom, HeldOnce, NoneBeyond, StoppedBy}
use Rattle.draid_pool.specs.Syncing.{Commits, KeepsTable}
use Rattle.draid_pool.specs.declared.fault.SyncFault.{SyncFault}
use Rattle.draid_pool.specs.declared.fault.SyncFault.TheVariants as sync
use Rattle.draid_pool.specs.declared.fault.Synced.{Synced}
use Rattle.draid_pool.specs.declared.fault.Syncing.{Syncing}
use Rattle.draid_pool.proofs.Arms.{leaf_kept, leaf_left, share_both, share_left, share_then, shares_kept}
use Rattle.draid_pool.proofs.Drifting.{same_groups}
use Rattle.draid_pool.proofs.Holding.{some_same}
use Rattle.draid_lanes.specs.Waits.{BeginsThrough, BegunOn, GoesThrough, SyncsThrough, WaitsOn}

-- ---- one metaslab

-- its arms are the same, and no leaf came
pub record SameArms {R A : Type 0} (old new : Shard R A) : Type 0 where
  pub share : ShareArms old.slots new.slots
  pub leaves : (leaf : ℕ) → IsLeaf new.slots leaf → IsLeaf old.slots leaf

module _ {R A : Type 0} where
  pub arms_groups : (old new : Shard R A) → KeepsGroups old new → SameArms old new
  arms_groups old new k = record { share = k.arms; leaves = k.leaves }

  pub arms_still : (old new : Shard R A) → new ≡ old → SameArms old new
  arms_still old new same = arms_groups old new (same_groups old new same)

  arms_table : (old new : Shard R A) → KeepsTable old new → SameArms old new
  arms_table old new table = record { share = shares_kept old.slots new.slots table.slots; leaves = λ leaf is. leaf_kept old.slots new.slots leaf table.slots is }

  arms_then : (a b c : Shard R A) → SameArms a b → SameArms b c → SameArms a c
  arms_then a b c x y = record { share = share_then a.slots b.slots c.slots x.share y.share; leaves = λ leaf is. x.leaves leaf (y.leaves leaf is) }

-- ---- the uberblock

-- it has the same number of the next leaf, the same layout but for its version, and the same checkpoint
pub record SameLayout {A : Type 0} (u v : Uber A) : Type 0 where
  pub next_leaf : ubers.next_leaf_of v ≡ ubers.next_leaf_of u
  pub layout : (version : ℕ) → ubers.layout_in (ubers.layout_of v) version ≡ ubers.layout_in (ubers.layout_of u) version
  pub point : ubers.point_of v ≡ ubers.point_of u

module _ {A : Type 0} where
  pub layout_still : (u v : Uber A) → v ≡ u → SameLayout u v
  layout_still u v same = record { next_leaf = ap ubers.next_leaf_of same; layout = λ n. ap (λ w. ubers.layout_in (ubers.layout_of w) n) same; point = ap ubers.point_of same }

  pub layout_then : (u w v : Uber A) → SameLayout u w → SameLayout w v → SameLayout u v
  layout_then u w v x y = record { next_leaf = y.next_leaf ∙ x.next_leaf; layout = λ n. y.layout n ∙ x.layout n; point = y.point ∙ x.point }

  layout_named : (area : areas.Ghosts A) (group : ℕ) (u v : Uber A) (result : Result Unit SyncFault) → UberNames area group u result v → SameLayout u v
  layout_named area group u v (Ok done) names = record { next_leaf = names.0.next_leaf; layout = λ n. ap (λ l. ubers.layout_in l n) names.0.layout; point = names.0.point }
  layout_named area group u v (Err sync.Shelf) names = record { next_leaf = names.0.next_leaf; layout = λ n. ap (λ l. ubers.layout_in l n) names.0.layout; point = names.0.point }
  layout_named area group u v (Err sync.NoMemory) names = record { next_leaf = names.0.next_leaf; layout = λ n. ap (λ l. ubers.layout_in l n) names.0.layout; point = names.0.point }
  layout_named area group u v (Err sync.Worn) names = absurd names
  layout_named area group u v (Err sync.Last) names = absurd names

-- ---- all metaslabs

module _ {R A S : Type 0} (rack : racks.Ghosts R) (area : areas.Ghosts A) (last : S → ℕ → Option (Shard R A)) (went : S → ℕ → Shard R A → Shard R A → S → Type 0) (shared : Bool) (owns : ℕ → Bool) (own : owns groups_number ≡ true) (count limit : ℕ) where
  -- they have the same arms, whose leaves have numbers below a limit
  pub record HasArms (s : S) : Type 0 where
    pub alike : (m n : ℕ) (x y : Shard R A) → last s m ≡ Some x → last s n ≡ Some y → ShareArms x.slots y.slots
    pub leaves : (m : ℕ) (x : Shard R A) → last s m ≡ Some x → (leaf : ℕ) → IsLeaf x.slots leaf → leaf < limit
    pub beyond : NoneBeyond count (last s)

  -- ---- a hold

  module _ (does : Shard R A → Shard R A → Type 0) (a : S) (m : ℕ) (b : S) (h : HeldOnce rack area last went shared owns does a m b) where
    here : last b m ≡ Some h.after
    here = h.is m ∙ ap (λ b. if b then Some h.after else last a m) (eq-eqb m m refl)

    pub away : (k : ℕ) → (k ≡ m → ⊥) → last b k ≡ last a k
    away k not = h.is k ∙ ap (λ b. if b then Some h.after else last a k) (ne_eqb k m not)

    pub found_arms : SameArms h.shard h.before
    found_arms = arms_groups h.shard h.before (h.drifts.groups own)

    pub held_is : (k : ℕ) (s : Shard R A) → k ≡ m → last b k ≡ Some s → h.after ≡ s
    held_is k s same at = some_same h.after s (sym here ∙ (ap (last b) (sym same) ∙ at))

    pub arms_on : m < count → SameArms h.before h.after → HasArms a → HasArms b
    arms_on below keeps g = record {
      alike = λ k n x y at there.
          (let p = came k x at in
          let q = came n y there in
          share_both p.0.slots q.0.slots x.slots y.slots p.2.share q.2.share (g.alike k n p.0 q.0 p.1 q.1));
      leaves = λ k x at leaf is. (let p = came k x at in g.leaves k p.0 p.1 leaf (p.2.leaves leaf is));
      beyond = λ k from. away k (λ same. omega (arith, same, from, below)) ∙ g.beyond k from;
    }
      where
        came : (k : ℕ) (s : Shard R A) → last b k ≡ Some s → (was : Shard R A) × (last a k ≡ Some was) × SameArms was s
        came k s at = dite (ℕ_discrete k m)
            (λ same. (h.shard, ap (last a) same ∙ h.there, subst (SameArms h.shard) (held_is k s same at) (arms_then h.shard h.before h.after found_arms keeps)))
            (λ not. (s, sym (away k not) ∙ at, arms_still s s refl))

  -- ---- rounds

  module _ (does : ℕ → Shard R A → Shard R A → Type 0) (quiet : (n : ℕ) (x y : Shard R A) → does n x y → SameArms x y) where
    pub arms_round : (n sum : ℕ) (a b : S) → n ≤ count → HeldEach rack area last went shared owns does n a sum b → HasArms a → HasArms b
    arms_round zero sum a b below each g = subst HasArms (sym each.0) g
    arms_round (suc n) sum a b below (mid, some, more, each, once, adds) g =
        arms_on (does more) mid n b once (omega (arith, below)) (quiet more once.before once.after once.did) (arms_round n some a mid (omega (arith, below)) each g)

    pub arms_stop : (stops : Shard R A → Shard R A → Type 0) → ((x y : Shard R A) → stops x y → SameArms x y) → (a b : S) → StoppedBy rack area last went shared owns does stops count a b → HasArms a → HasArms b
    arms_stop stops so a b s g =
        let below = s.below in
        arms_on stops s.mid s.place b s.stop s.below (so s.stop.before s.stop.after s.stop.did) (arms_round s.place s.sum a s.mid (omega (arith, below)) s.front g)

    arms_from : (first n sum : ℕ) (a b : S) → first + n ≤ count → HeldFrom rack area last went shared owns does first n a sum b → HasArms a → HasArms b
    arms_from first zero sum a b below each g = subst HasArms (sym each.0) g
    arms_from first (suc n) sum a b below (mid, some, more, each, once, adds) g =
        arms_on (does more) mid (first + n) b once (omega (arith, below)) (quiet more once.before once.after once.did) (arms_from first n some a mid (omega (arith, below)) each g)

  -- ---- a group is committed in each

  -- what it committed had the same arms
  record Committed (group : ℕ) (was s : Shard R A) : Type 0 where
    pub before : Shard R A
    pub front : SameArms was before
    pub slots : CommitsSlots before.slots s.slots group

  committed_from : (group n sum : ℕ) (a b : S) → HeldEach rack area last went shared owns (λ none x y. Commits rack group x y) n a sum b
      → ((k : ℕ) (s : Shard R A) → k < n → last b k ≡ Some s → (was : Shard R A) × (last a k ≡ Some was) × Committed group was s) × ((k : ℕ) → n ≤ k → last b k ≡ last a k)
  committed_from group zero sum a b each = ((λ k s less. absurd (omega (arith, less))), (λ k from. ap (λ s. last s k) each.0))
  committed_from group (suc n) sum a b (mid, some, more, each, once, adds) =
      let z = committed_from group n some a mid each in (
        λ k s less at. dite (ℕ_discrete k n)
            (λ same. (
              once.shard,
              ap (last a) same ∙ (sym (z.1 n (omega arith)) ∙ once.there),
              record {
                before = once.before;
                front = found_arms (λ x y. Commits rack group x y) mid n b once;
                slots = subst (λ (q : Shard R A). CommitsSlots once.before.slots q.slots group) (held_is (λ x y. Commits rack group x y) mid n b once k s same at) once.did.slots;
              },
            ))
            (λ not. z.0 k s (omega (arith, less, not)) (sym (away (λ x y. Commits rack group x y) mid n b once k not) ∙ at)),
        λ k from. away (λ x y. Commits rack group x y) mid n b once k (λ same. omega (arith, same, from)) ∙ z.1 k (omega (arith, from)),
      )

  commits_arms : (group sum : ℕ) (a b : S) → HeldEach rack area last went shared owns (λ none x y. Commits rack group x y) count a sum b → HasArms a → HasArms b
  commits_arms group sum a b each g = record {
    alike = λ m n x y at there.
        (let p = came m x at in
        let q = came n y there in
        share_left group p.2.before.slots q.2.before.slots x.slots y.slots p.2.slots q.2.slots
        (share_both p.0.slots q.0.slots p.2.before.slots q.2.before.slots p.2.front.share q.2.front.share (g.alike m n p.0 q.0 p.1 q.1)));
    leaves = λ m x at leaf is. (let p = came m x at in g.leaves m p.0 p.1 leaf (p.2.front.leaves leaf (leaf_left group p.2.before.slots x.slots leaf p.2.slots is)));
    beyond = λ m from. all.1 m from ∙ g.beyond m from;
  }
    where
      all : ((k : ℕ) (s : Shard R A) → k < count → last b k ≡ Some s → (was : Shard R A) × (last a k ≡ Some was) × Committed group was s) × ((k : ℕ) → count ≤ k → last b k ≡ last a k)
      all = committed_from group count sum a b each

      came : (m : ℕ) (x : Shard R A) → last b m ≡ Some x → (was : Shard R A) × (last a m ≡ Some was) × Committed group was x
      came m x at = by (cases_lt m count)
        where
          by : (m < count) ⊎ (count ≤ m) → (was : Shard R A) × (last a m ≡ Some was) × Committed group was x
          by (inl less) = all.0 m x less at
          by (inr from) = absurd (none_some (last b m) x (all.1 m from ∙ g.beyond m from) at)

  -- ---- phases

  closes_arms : (group : ℕ) (a b : S) (result : Result Unit SyncFault) → ClosesEach rack area last went shared owns group count a result b → HasArms a → HasArms b
  closes_arms group a b (Ok done) each g = arms_round (λ none x y. ClosesIn rack area group x (Ok tt) y) (λ n x y c. arms_table x y c.table) count 0 a b (omega arith) each g
  closes_arms group a b (Err why) s g = arms_stop (λ none x y. ClosesIn rack area group x (Ok tt) y) (λ n x y c. arms_table x y c.table) (λ x y. ClosesIn rack area group x (Err why) y) (λ x y c. arms_table x y c.table) a b s g

  seals_arms : (group : ℕ) (a b : S) (out : Option (Result ℕ SyncFault)) → SealsEach rack area last went shared owns group count a out b → HasArms a → HasArms b
  seals_arms group a b (Some (Ok thin)) each g = arms_round (λ n x y. SealsBy rack area group x (Ok n) y) (λ n x y c. arms_table x y c.table) count thin a b (omega arith) each g
  seals_arms group a b (Some (Err why)) s g = arms_stop (λ n x y. SealsBy rack area group x (Ok n) y) (λ n x y c. arms_table x y c.table) (λ x y. SealsBy rack area group x (Err why) y) (λ x y c. arms_table x y c.table) a b s g
  seals_arms group a b None s g = arms_stop (λ n x y. SealsBy rack area group x (Ok n) y) (λ n x y c. arms_table x y c.table) (λ x y. WaitsForWrites group x y) (λ x y c. arms_still x y c.same) a b s g

  -- behind a call they have the same arms, and the uberblock the same layout
  abbrev pub HasBoth : S → Uber A → Uber A → Type 0
  HasBoth b u v = HasArms b × SameLayout u v

  pub commit_arms : (group : ℕ) (a b : S) (u v : Uber A) (out : Option (Result ℕ SyncFault)) → CommitsIn rack area last went shared owns group count a u out b v → HasArms a → HasBoth b u v
  commit_arms group a b u v (Some (Ok thin)) (mid, late, closes, seals, names, commits) g =
      (commits_arms group 0 late b commits (seals_arms group mid late (Some (Ok thin)) seals (closes_arms group a mid (Ok tt) closes g)), layout_named area group u v (Ok tt) names)
  commit_arms group a b u v (Some (Err why)) (inl (closes, same)) g = (closes_arms group a b (Err why) closes g, layout_still u v same)
  commit_arms group a b u v (Some (Err why)) (inr (inl (mid, closes, seals, same))) g = (seals_arms group mid b (Some (Err why)) seals (closes_arms group a mid (Ok tt) closes g), layout_still u v same)
  commit_arms group a b u v (Some (Err why)) (inr (inr (mid, thin, closes, seals, names))) g =
      (seals_arms group mid b (Some (Ok thin)) seals (closes_arms group a mid (Ok tt) closes g), layout_named area group u v (Err why) names)
  commit_arms group a b u v None (mid, closes, seals, same) g = (seals_arms group mid b None seals (closes_arms group a mid (Ok tt) closes g), layout_still u v same)

  finds_arms : (closing : Option ℕ) (a b : S) → FindsClosing rack area last went shared owns count a closing b → HasArms a → HasArms b
  finds_arms (Some group) a b s g = arms_stop (λ none x y. SeesClosing None x y) (λ n x y c. arms_still x y c.0) (λ x y. SeesClosing (Some group) x y) (λ x y c. arms_still x y c.0) a b s g
  finds_arms None a b each g = arms_round (λ none x y. SeesClosing None x y) (λ n x y c. arms_still x y c.0) count 0 a b (omega arith) each g

  pub finish_arms : (a b : S) (u v : Uber A) (out : Option (Result Unit SyncFault)) → FinishesIn rack area last went shared owns count a u out b v → HasArms a → HasBoth b u v
  finish_arms a b u v (Some (Ok done)) (inl (found, same)) g = (finds_arms None a b found g, layout_still u v same)
  finish_arms a b u v (Some (Ok done)) (inr (group, thin, mid, found, commits)) g = commit_arms group mid b u v (Some (Ok thin)) commits (finds_arms (Some group) a mid found g)
  finish_arms a b u v (Some (Err why)) (group, mid, found, commits) g = commit_arms group mid b u v (Some (Err why)) commits (finds_arms (Some group) a mid found g)
  finish_arms a b u v None (group, mid, found, commits) g = commit_arms group mid b u v None commits (finds_arms (Some group) a mid found g)

  begin_arms : (a b : S) (u v : Uber A) (out : Option (Result Syncing SyncFault)) → BeginsIn rack area last went shared owns count a u out b v → HasArms a → HasBoth b u v
  begin_arms a b u v (Some (Ok begun)) (mid, finishes, first, closes) g = (let f = finish_arms a mid u v (Some (Ok tt)) finishes g in (closes_arms begun.group mid b (Ok tt) closes f.0, f.1))
  begin_arms a b u v (Some (Err why)) (inl finishes) g = finish_arms a b u v (Some (Err why)) finishes g
  begin_arms a b u v (Some (Err why)) (inr (mid, finishes, closes)) g = (let f = finish_arms a mid u v (Some (Ok tt)) finishes g in (closes_arms (group_of (ubers.kept_of v) + 1) mid b (Err why) closes f.0, f.1))
  begin_arms a b u v None finishes g = finish_arms a b u v None finishes g

  from_arms : (a b : S) (old new : Syncing) → new.next ≤ count → SealsFrom rack area last went shared owns a old b new → HasArms a → HasArms b
  from_arms a b old new below s g =
      let behind = s.next in
      arms_from (λ n x y. SealsBy rack area old.group x (Ok n) y) (λ n x y c. arms_table x y c.table) old.next s.held s.sum a b (omega (arith, below, behind)) s.each g

  until_arms : (a b : S) (old new : Syncing) (stops : Shard R A → Shard R A → Type 0) → ((x y : Shard R A) → stops x y → SameArms x y) → SealsUntil rack area last went shared owns stops count a old b new → HasArms a → HasArms b
  until_arms a b old new stops so s g =
      let below = s.below in
      arms_on stops s.mid new.next b s.stop s.below (so s.stop.before s.stop.after s.stop.did) (from_arms a s.mid old new (omega (arith, below)) s.front g)

  go_arms : (a b : S) (old new : Syncing) (u v : Uber A) (out : Option (Result Synced SyncFault)) → GoesOnIn rack area last went shared owns count a old u out b new v → HasArms a → HasBoth b u v
  go_arms a b old new u v (Some (Ok it)) (late, seals, group_is, thin_is, names, commits) g =
      let all = seals.1 in
      (commits_arms old.group 0 late b commits (from_arms a late old new (omega (arith, all)) seals.0 g), layout_named area old.group u v (Ok tt) names)
  go_arms a b old new u v (Some (Err why)) (inl (seals, same)) g = (until_arms a b old new (λ x y. SealsBy rack area old.group x (Err why) y) (λ x y c. arms_table x y c.table) seals g, layout_still u v same)
  go_arms a b old new u v (Some (Err why)) (inr (seals, names)) g =
      let all = seals.1 in
      (from_arms a b old new (omega (arith, all)) seals.0 g, layout_named area old.group u v (Err why) names)
  go_arms a b old new u v None (seals, same) g = (until_arms a b old new (λ x y. WaitsForWrites old.group x y) (λ x y c. arms_still x y c.same) seals g, layout_still u v same)

  -- ---- a sync that waited

  begun_arms : (n : ℕ) (a b : S) (u v : Uber A) → BegunOn rack area last went shared owns count n a u b v → HasArms a → HasBoth b u v
  begun_arms zero a b u v (at, same) g = (subst HasArms (sym at) g, layout_still u v same)
  begun_arms (suc n) a b u v (mid, w, front, begins) g =
      let f = begun_arms n a mid u w front g in
      let d = begin_arms mid b w v None begins f.0 in
      (d.0, layout_then u w v f.1 d.1)

  begins_arms : (a b : S) (u v : Uber A) (result : Result Syncing SyncFault) → BeginsThrough rack area last went shared owns count a u result b v → HasArms a → HasBoth b u v
  begins_arms a b u v result t g =
      let f = begun_arms t.waits a t.mid u t.w t.front g in
      let d = begin_arms t.mid b t.w v (Some result) t.begins f.0 in
      (d.0, layout_then u t.w v f.1 d.1)

  waits_arms : (n : ℕ) (a b : S) (old new : Syncing) (u v : Uber A) → WaitsOn rack area last went shared owns count n a old u b new v → HasArms a → HasBoth b u v
  waits_arms zero a b old new u v (at, is, same) g = (subst HasArms (sym at) g, layout_still u v same)
  waits_arms (suc n) a b old new u v (mid, now, w, front, goes) g =
      let f = waits_arms n a mid old now u w front g in
      let d = go_arms mid b now new w v None goes f.0 in
      (d.0, layout_then u w v f.1 d.1)

  goes_arms : (a b : S) (old : Syncing) (u v : Uber A) (result : Result Synced SyncFault) → GoesThrough rack area last went shared owns count a old u result b v → HasArms a → HasBoth b u v
  goes_arms a b old u v result t g =
      let f = waits_arms t.waits a t.mid old t.now u t.w t.front g in
      let d = go_arms t.mid b t.now t.new t.w v (Some result) t.goes f.0 in
      (d.0, layout_then u t.w v f.1 d.1)

  pub through_arms : (a b : S) (u v : Uber A) (result : Result Synced SyncFault) → SyncsThrough rack area last went shared owns count a u result b v → HasArms a → HasArms b × SameLayout u v
  through_arms a b u v result (inl (mid, begun, w, begins, goes)) g =
      let f = begins_arms a mid u w (Ok begun) begins g in
      let d = goes_arms mid b begun w v result goes f.0 in
      (d.0, layout_then u w v f.1 d.1)
  through_arms a b u v result (inr (why, is, begins)) g = begins_arms a b u v (Err why) begins g
