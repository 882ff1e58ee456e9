-- What the switching of a leaf does to arms: behind it all metaslabs have the same ones again, and no leaf came.
use Rattle.std.proofs.Common.{◌≡◌, ◌<◌, ◌≤◌, ◌∙◌, ◌⊎◌, inl, inr, ℕ, zero, suc, Bool, true, false, Option, Some, None, Ok, Err, arith, sym, ap, subst}
use mathlib.Core.Logic.{dite}
use native.Mathlib.Decide.{ℕ_discrete}
use Rattle.std.specs.Prelude.{Result}
use Rattle.std.proofs.lemmas.Bool.{cases_lt}
use Rattle.draid_rack.specs.declared.Rack as racks
use Rattle.draid_area.specs.declared.Area as areas
use Rattle.draid_machine.proofs.Small.{none_some}
use Rattle.draid_entries.specs.declared.history.ReserveFault.{ReserveFault}
use Rattle.draid_slots.specs.Changes.{ChangesArms, switched}
use Rattle.draid_shard.specs.Alike.{KeepsArms}
use Rattle.draid_shard.specs.declared.shard.Shard.{Shard}
use Rattle.draid_uber.specs.declared.uber.Uber.{Uber}
use Rattle.draid_pool.specs.Drifts.{groups_number}
use Rattle.draid_pool.specs.Rounds.{HeldEach, HeldOnce}
use Rattle.draid_pool.proofs.Arms.{leaf_kept, share_both, shares_kept}
use Rattle.draid_changes.specs.Switching.{ReservesEach, ReservesOne, SeesLeaf, SwitchesAll, SwitchesEach, SwitchesIn}
use Rattle.draid_changes.specs.Walks.{Switches}
use Rattle.draid_changes.specs.declared.fault.ArmFault.{ArmFault}
use Rattle.draid_changes.proofs.Whole.{switched_leaf, switched_share}
use Rattle.draid_lanes.proofs.SyncArms.{HasArms, SameArms, SameLayout, arms_on, arms_round, arms_still, arms_stop, away, finish_arms, found_arms, held_is, layout_still, layout_then}
use Rattle.draid_works.specs.Switched.{SwitchesThrough, TriedOn}

module _ {R A S : Type 0} (rack : racks.Ghosts R) (area : areas.Ghosts A) (last : S → ℕ → Option (Shard R A)) (went : S → ℕ → Shard R A → Shard R A → S → Type 0) (shared : Bool) (owns : ℕ → Bool) (own : owns groups_number ≡ true) (count limit : ℕ) (some : 0 < count) (leaf : ℕ) (offline : Bool) where
  abbrev Has : S → Type 0
  Has s = HasArms rack area last went shared owns own count limit s

  -- ---- the leaf is looked for, and events are reserved

  look_arms : (there : Bool) (a b : S) → HeldOnce rack area last went shared owns (SeesLeaf leaf there) a 0 b → Has a → Has b
  look_arms there a b h g = arms_on rack area last went shared owns own count limit (SeesLeaf leaf there) a 0 b h some (arms_still h.before h.after h.did.same) g

  reserve_same : (x y : Shard R A) (result : Result Unit ReserveFault) → ReservesOne rack x result y → SameArms x y
  reserve_same x y result r =
      let kept : KeepsArms x.slots y.slots = record { same = r.slots.same; arms_stay = r.slots.arms_stay; detached_stay = r.slots.detached_stay } in
      record { share = shares_kept x.slots y.slots kept; leaves = λ other is. leaf_kept x.slots y.slots other kept is }

  reserves_arms : (a b : S) (result : Result Unit ReserveFault) → ReservesEach rack area last went shared owns count a result b → Has a → Has b
  reserves_arms a b (Ok done) each g = arms_round rack area last went shared owns own count limit (λ none x y. ReservesOne rack x (Ok tt) y) (λ n x y r. reserve_same x y (Ok tt) r) count 0 a b (omega arith) each g
  reserves_arms a b (Err why) s g =
      arms_stop rack area last went shared owns own count limit (λ none x y. ReservesOne rack x (Ok tt) y) (λ n x y r. reserve_same x y (Ok tt) r) (λ x y. ReservesOne rack x (Err why) y) (λ x y r. reserve_same x y (Err why) r) a b s g

  -- ---- it goes offline in each, or comes back

  abbrev Does : ℕ → Shard R A → Shard R A → Type 0
  Does none x y = Switches rack leaf offline x y

  -- what is switched had the same arms
  record WasSwitched (was s : Shard R A) : Type 0 where
    pub before : Shard R A
    pub front : SameArms was before
    pub slots : ChangesArms before.slots s.slots (switched leaf offline)

  switched_from : (n sum : ℕ) (a b : S) → HeldEach rack area last went shared owns Does n a sum b
      → ((k : ℕ) (s : Shard R A) → k < n → last b k ≡ Some s → (was : Shard R A) × (last a k ≡ Some was) × WasSwitched was s) × ((k : ℕ) → n ≤ k → last b k ≡ last a k)
  switched_from zero sum a b each = ((λ k s less. absurd (omega (arith, less))), (λ k from. ap (λ s. last s k) each.0))
  switched_from (suc n) sum a b (mid, more, one, each, once, adds) =
      let z = switched_from n more a mid each in (
        λ k s less at. dite (ℕ_discrete k n)
            (λ same. (
              once.shard,
              ap (last a) same ∙ (sym (z.1 n (omega arith)) ∙ once.there),
              record {
                before = once.before;
                front = found_arms rack area last went shared owns own count limit (Does one) mid n b once;
                slots = subst (λ (q : Shard R A). ChangesArms once.before.slots q.slots (switched leaf offline)) (held_is rack area last went shared owns own count limit (Does one) mid n b once k s same at) once.did.slots;
              },
            ))
            (λ not. z.0 k s (omega (arith, less, not)) (sym (away rack area last went shared owns own count limit (Does one) mid n b once k not) ∙ at)),
        λ k from. away rack area last went shared owns own count limit (Does one) mid n b once k (λ same. omega (arith, same, from)) ∙ z.1 k (omega (arith, from)),
      )

  switches_arms : (a b : S) → SwitchesEach rack area last went shared owns count leaf offline a b → Has a → Has b
  switches_arms a b each g = record {
    alike = λ m n x y at there.
        (let p = came m x at in
        let q = came n y there in
        switched_share leaf offline p.2.before.slots q.2.before.slots x.slots y.slots p.2.slots q.2.slots
        (share_both p.0.slots q.0.slots p.2.before.slots q.2.before.slots p.2.front.share q.2.front.share (g.alike m n p.0 q.0 p.1 q.1)));
    leaves = λ m x at other is. (let p = came m x at in g.leaves m p.0 p.1 other (p.2.front.leaves other (switched_leaf p.2.before.slots x.slots leaf offline p.2.slots other is)));
    beyond = λ m from. all.1 m from ∙ g.beyond m from;
  }
    where
      all : ((k : ℕ) (s : Shard R A) → k < count → last b k ≡ Some s → (was : Shard R A) × (last a k ≡ Some was) × WasSwitched was s) × ((k : ℕ) → count ≤ k → last b k ≡ last a k)
      all = switched_from count 0 a b each

      came : (m : ℕ) (x : Shard R A) → last b m ≡ Some x → (was : Shard R A) × (last a m ≡ Some was) × WasSwitched was x
      came m x at = by (cases_lt m count)
        where
          by : (m < count) ⊎ (count ≤ m) → (was : Shard R A) × (last a m ≡ Some was) × WasSwitched was x
          by (inl less) = all.0 m x less at
          by (inr from) = absurd (none_some (last b m) x (all.1 m from ∙ g.beyond m from) at)

  all_arms : (a b : S) (result : Result Unit ArmFault) → SwitchesAll rack area last went shared owns count leaf offline a result b → Has a → Has b
  all_arms a b (Ok done) (mid, late, look, reserves, switches) g = switches_arms late b switches (reserves_arms mid late (Ok tt) reserves (look_arms true a mid look g))
  all_arms a b (Err why) (inl (look, is)) g = look_arms false a b look g
  all_arms a b (Err why) (inr (mid, short, look, reserves, is)) g = reserves_arms mid b (Err short) reserves (look_arms true a mid look g)

  -- ---- a group that closes is committed before

  -- behind a call they have the same arms, and the uberblock the same layout
  abbrev HasBoth : S → Uber A → Uber A → Type 0
  HasBoth b u v = Has b × SameLayout u v

  in_arms : (a b : S) (u v : Uber A) (out : Option (Result Unit ArmFault)) → SwitchesIn rack area last went shared owns count leaf offline a u out b v → Has a → HasBoth b u v
  in_arms a b u v (Some (Ok done)) (mid, finishes, switches) g =
      let f = finish_arms rack area last went shared owns own count limit a mid u v (Some (Ok tt)) finishes g in
      (all_arms mid b (Ok tt) switches f.0, f.1)
  in_arms a b u v (Some (Err why)) (inl (stop, finishes, is)) g = finish_arms rack area last went shared owns own count limit a b u v (Some (Err stop)) finishes g
  in_arms a b u v (Some (Err why)) (inr (mid, finishes, switches)) g =
      let f = finish_arms rack area last went shared owns own count limit a mid u v (Some (Ok tt)) finishes g in
      (all_arms mid b (Err why) switches f.0, f.1)
  in_arms a b u v None finishes g = finish_arms rack area last went shared owns own count limit a b u v None finishes g

  -- ---- tried again

  tried_arms : (n : ℕ) (a b : S) (u v : Uber A) → TriedOn rack area last went shared owns count leaf offline n a u b v → Has a → HasBoth b u v
  tried_arms zero a b u v (at, same) g = (subst Has (sym at) g, layout_still u v same)
  tried_arms (suc n) a b u v (mid, w, front, tries) g =
      let f = tried_arms n a mid u w front g in
      let d = in_arms mid b w v None tries f.0 in
      (d.0, layout_then u w v f.1 d.1)

  pub switched_arms : (a b : S) (u v : Uber A) (result : Result Unit ArmFault) → SwitchesThrough rack area last went shared owns count leaf offline a u result b v → HasArms rack area last went shared owns own count limit a → HasArms rack area last went shared owns own count limit b × SameLayout u v
  switched_arms a b u v result t g =
      let f = tried_arms t.waits a t.mid u t.w t.front g in
      let d = in_arms t.mid b t.w v (Some result) t.switches f.0 in
      (d.0, layout_then u t.w v f.1 d.1)
