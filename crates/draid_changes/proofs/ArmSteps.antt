-- The steps of the switching of a leaf over metaslabs, and what a thread has behind them.
use Rattle.std.proofs.Common.{◌≡◌, ◌<◌, ◌+◌, not, inl, inr, ℕ, Bool, true, false, Option, Some, Ok, Err, arith, refl, sym, subst}
use Rattle.std.specs.Prelude.{Result}
use Rattle.std.proofs.lemmas.Bool.{true≢false}
use Rattle.draid_names.specs.declared.numbers.TheConstants.{LAST_NUMBER}
use Rattle.draid_names.specs.declared.pointer.Pointer.{Pointer}
use Rattle.draid_names.specs.declared.refusal.SlotFault.TheVariants as slot
use Rattle.draid_rack.specs.declared.Rack as racks
use Rattle.draid_area.specs.declared.Area as areas
use Rattle.draid_entries.specs.declared.history.ReserveFault.{ReserveFault}
use Rattle.draid_shard.specs.Fits.{AreGroups, Valid}
use Rattle.draid_shard.specs.declared.shard.Shard.{Shard}
use Rattle.draid_slots.specs.Table.{IsTable}
use Rattle.draid_uber.specs.Slots.{group_of}
use Rattle.draid_uber.specs.Uber.{kept_of}
use Rattle.draid_uber.specs.declared.uber.Uber.{Uber}
use Rattle.draid_disks.specs.Disks.{IsLeafArm}
use Rattle.draid_pool.specs.Drifts.{groups_number}
use Rattle.draid_pool.specs.Grouping.{ClosesNext, CommitsIn, FinishesIn}
use Rattle.draid_pool.specs.Rounds.{EachIs, HeldOnce, NoneBeyond}
use Rattle.draid_pool.specs.Threads.{IsWholeBy}
use Rattle.draid_pool.specs.declared.fault.SyncFault.{SyncFault}
use Rattle.draid_pool.specs.declared.fault.SyncFault.TheVariants as sync
use Rattle.draid_pool.proofs.SyncWhole.{HasGroup, HasLeft, KeepsOwn, begins, beyond_on, ends, left_on, quiet_on, quiet_round, quiet_stop, still_quiet}
use Rattle.draid_changes.specs.Answers.{IsFor}
use Rattle.draid_changes.specs.Switching.{AllSameArms, HasReserved, LeafIsIn, ReservesEach, ReservesOne, SeesLeaf, SwitchesAll, SwitchesIn}
use Rattle.draid_changes.specs.Walks.{MaySwitch, Switches}
use Rattle.draid_changes.specs.declared.fault.ArmFault.{ArmFault}
use Rattle.draid_changes.specs.declared.fault.ArmFault.TheVariants as armed
use Rattle.draid_changes.proofs.LeafHolds.{reserve_quiet, switch_quiet}
use Rattle.draid_changes.proofs.Leaves.{leaf_arm, leaf_inside, leaf_shared}
use Rattle.draid_changes.proofs.SameArms.{ArmsAreThere}

-- by a test of it that is turned round
pub it_isnt : (b : Bool) → not b ≡ true → b ≡ false
it_isnt true is = sym is
it_isnt false is = refl

pub it_is : (b : Bool) → not b ≡ false → b ≡ true
it_is true is = refl
it_is false is = sym is

module _ {R A S : Type 0} (rack : racks.Ghosts R) (area : areas.Ghosts A) (last : S → ℕ → Option (Shard R A)) (went : S → ℕ → Shard R A → Shard R A → S → Type 0) (shared : Bool) (owns : ℕ → Bool) (count : ℕ) where
  -- ---- a group that closes has a number below the last

  pub finish_not_last : (a b : S) (u v : Uber A) → FinishesIn rack area last went shared owns count a u (Some (Err sync.Last)) b v → ⊥
  finish_not_last a b u v (group, mid, found, commits) = by commits
    where
      low : group ≡ LAST_NUMBER → ⊥
      low is =
          let h = found.stop in
          let are : (h.before.open_group ≡ group + 1) × (group ≡ h.before.committed + 1) = subst (λ o. AreGroups h.before.open_group o h.before.committed h.before.sealed) h.did.1 h.drifts.valid.groups in
          let behind = are.0 in
          let most = h.drifts.valid.low in
          omega (arith, is, behind, most)

      by : CommitsIn rack area last went shared owns group count mid u (Some (Err sync.Last)) b v → ⊥
      by (inl (closes, same)) = low (closes.stop.did.last refl)
      by (inr (inl (late, closes, seals, same))) = seals.stop.did.not_last refl
      by (inr (inr (late, thin, closes, seals, names))) = names

  module _ (own : owns groups_number ≡ true) where
    -- ---- a leaf that is an arm of the first metaslab is one of each, and no other is

    -- events are reserved, and the leaf is an arm of each
    pub may_switch_each : (leaf : ℕ) (a mid late : S) → AllSameArms (last mid) → (h : HeldOnce rack area last went shared owns (SeesLeaf leaf true) a 0 mid) → last mid 0 ≡ Some h.after
        → ArmsAreThere rack area last went shared owns own mid late → EachIs count (HasReserved rack) (last late) → EachIs count (MaySwitch rack leaf) (last late)
    may_switch_each leaf a mid late alike h first go reserved m less =
        let z = reserved m less in
        let was = go m z.0 z.1 in
        let seen : IsLeafArm h.before.slots leaf = h.did.arm.0 refl in
        let here = subst (λ (s : Shard R A). IsLeafArm s.slots leaf) (sym h.did.same) seen in
        let sound = subst (λ (s : Shard R A). IsTable s.slots) (sym h.did.same) h.did.sound in
        let there = leaf_shared h.after.slots was.0.slots leaf (alike 0 m h.after was.0 first was.1) (leaf_inside h.after.slots leaf sound here) in
        (z.0, z.1, record { valid = z.2.valid; reserved = z.2.reserved; arm = leaf_shared was.0.slots z.0.slots leaf was.2 there })

    -- it is an arm of none
    pub in_none : (leaf : ℕ) (offline : Bool) (a b : S) → AllSameArms (last b) → (h : HeldOnce rack area last went shared owns (SeesLeaf leaf false) a 0 b) → last b 0 ≡ Some h.after
        → EachIs count (Valid rack) (last b) → LeafIsIn count leaf offline (Err (armed.Slot slot.NoSuch)) (last b)
    in_none leaf offline a b alike h first each = (refl, (λ m less. (let z = each m less in (z.0, z.1, (λ has. none (leaf_arm h.after.slots leaf (leaf_shared z.0.slots h.after.slots leaf (alike m 0 z.0 h.after z.1 first) has)))))))
      where
        none : IsLeafArm h.after.slots leaf → ⊥
        none is = true≢false (sym (h.did.arm.1 (subst (λ (s : Shard R A). IsLeafArm s.slots leaf) h.did.same is)))

    -- ---- what the thread has behind it

    module _ (Stays : S → Type 0) (on : (does : Shard R A → Shard R A → Type 0) (a : S) (m : ℕ) (b : S) → m < count → (h : HeldOnce rack area last went shared owns does a m b) → KeepsOwn rack owns h.before h.after → Stays a → Stays b) (some : 0 < count) (next : ℕ) where
      abbrev Has : S → Type 0
      Has s = HasGroup rack area last went shared owns own count Stays on s next

      look_has : (leaf : ℕ) (there : Bool) (a b : S) → HeldOnce rack area last went shared owns (SeesLeaf leaf there) a 0 b → Has a → Has b
      look_has leaf there a b h g = quiet_on rack area last went shared owns own count Stays on (SeesLeaf leaf there) a 0 b some h next (still_quiet rack area owns h.before h.after h.drifts.valid h.did.same) g

      reserves_has : (a b : S) (result : Result Unit ReserveFault) → ReservesEach rack area last went shared owns count a result b → Has a → Has b
      reserves_has a b (Ok done) each g =
          quiet_round rack area last went shared owns own count Stays on (λ none x y. ReservesOne rack x (Ok tt) y) (λ n x y valid r. reserve_quiet rack area owns x y (Ok tt) r) count 0 next a b (omega arith) each g
      reserves_has a b (Err why) s g =
          quiet_stop rack area last went shared owns own count Stays on (λ none x y. ReservesOne rack x (Ok tt) y) (λ n x y valid r. reserve_quiet rack area owns x y (Ok tt) r)
          (λ x y. ReservesOne rack x (Err why) y) (λ x y valid r. reserve_quiet rack area owns x y (Err why) r) next a b s g

      pub switch_has : (leaf : ℕ) (offline : Bool) (a b : S) (result : Result Unit ArmFault) → SwitchesAll rack area last went shared owns count leaf offline a result b → Has a → Has b
      switch_has leaf offline a b (Ok done) (mid, late, look, reserves, switches) g =
          quiet_round rack area last went shared owns own count Stays on (λ none x y. Switches rack leaf offline x y) (λ n x y valid s. switch_quiet rack area owns leaf offline x y s) count 0 next late b (omega arith) switches
          (reserves_has mid late (Ok tt) reserves (look_has leaf true a mid look g))
      switch_has leaf offline a b (Err why) (inl (look, is)) g = look_has leaf false a b look g
      switch_has leaf offline a b (Err why) (inr (mid, short, look, reserves, is)) g = reserves_has mid b (Err short) reserves (look_has leaf true a mid look g)

    module _ (some : 0 < count) (leaf : ℕ) (offline : Bool) (a b : S) (u : Uber A) (ready : EachIs count (ClosesNext rack (group_of (kept_of u) + 1)) (last a)) (beyond : NoneBeyond count (last a)) (result : Result Unit ArmFault)
        (switches : SwitchesAll rack area last went shared owns count leaf offline a result b) where
      pub switch_whole : (table : ℕ → Option Pointer) (seq floor : ℕ) → IsWholeBy rack owns (last a) table seq floor → IsWholeBy rack owns (last b) table seq floor
      switch_whole table seq floor whole =
          ends rack area last went shared owns own count table seq floor some a b u u ready beyond whole (
            switch_has (HasLeft rack area last went shared owns count table seq floor) (left_on rack area last went shared owns count table seq floor) some (group_of (kept_of u) + 1) leaf offline a b result switches
                (begins rack area last went shared owns own count table seq floor some a b u u ready beyond whole),
            (omega arith),
          )

      pub switch_readies : EachIs count (ClosesNext rack (group_of (kept_of u) + 1)) (last b) × NoneBeyond count (last b)
      switch_readies =
          let z = switch_has (λ s. NoneBeyond count (last s)) (beyond_on rack area last went shared owns count) some (group_of (kept_of u) + 1) leaf offline a b result switches (record { left = beyond; ready = ready }) in
          (z.ready, z.left)

  -- ---- by the answer

  pub switches_in : (leaf : ℕ) (offline : Bool) (a mid b : S) (u v : Uber A) (result : Result Unit ArmFault) → FinishesIn rack area last went shared owns count a u (Some (Ok tt)) mid v
      → SwitchesAll rack area last went shared owns count leaf offline mid result b → SwitchesIn rack area last went shared owns count leaf offline a u (Some result) b v
  switches_in leaf offline a mid b u v (Ok done) finishes switches = (mid, finishes, switches)
  switches_in leaf offline a mid b u v (Err why) finishes switches = inr (mid, finishes, switches)

-- a closing group couldn't be committed
pub leaf_unfinished_in : {R A : Type 0} (count leaf : ℕ) (offline : Bool) (why : SyncFault) (fault : ArmFault) (last : ℕ → Option (Shard R A)) → IsFor why fault → LeafIsIn count leaf offline (Err fault) last
leaf_unfinished_in count leaf offline sync.Worn fault last is = subst (λ f. LeafIsIn count leaf offline (Err f) last) (sym is) tt
leaf_unfinished_in count leaf offline sync.Last fault last is = absurd is
leaf_unfinished_in count leaf offline sync.Shelf fault last is = subst (λ f. LeafIsIn count leaf offline (Err f) last) (sym is) tt
leaf_unfinished_in count leaf offline sync.NoMemory fault last is = subst (λ f. LeafIsIn count leaf offline (Err f) last) (sym is) tt
