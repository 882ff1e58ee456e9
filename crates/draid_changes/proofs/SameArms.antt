-- All metaslabs have the same arms through the holds of a thread that alone changes arms.
use Rattle.std.proofs.Common.{◌≡◌, ◌<◌, ◌≤◌, ◌∙◌, inl, inr, ℕ, zero, suc, Bool, true, Option, Some, None, Ok, Err, arith, refl, sym, ap, subst, if◌then◌else◌, eq-eqb, ne_eqb}
use mathlib.Core.Logic.{dite}
use native.Mathlib.Decide.{ℕ_discrete}
use Rattle.std.specs.Prelude.{Result}
use Rattle.std.proofs.lemmas.Bool.{cases_lt}
use Rattle.draid_rack.specs.declared.Rack as racks
use Rattle.draid_area.specs.declared.Area as areas
use Rattle.draid_machine.proofs.Small.{none_some}
use Rattle.draid_entries.specs.declared.history.ReserveFault.{ReserveFault}
use Rattle.draid_slots.specs.Table.{SlotTable}
use Rattle.draid_shard.specs.Alike.{HaveSameArms}
use Rattle.draid_shard.specs.declared.shard.Shard.{Shard}
use Rattle.draid_shard.proofs.Changed.{same_arms}
use Rattle.draid_uber.specs.declared.uber.Uber.{Uber}
use Rattle.draid_pool.specs.Drifts.{groups_number}
use Rattle.draid_pool.specs.Grouping.{ClosesEach, ClosesIn, CommitsIn, FindsClosing, FinishesIn, SealsBy, SealsEach, SeesClosing, WaitsForWrites}
use Rattle.draid_pool.specs.Keeping.{ArmsStay}
use Rattle.draid_pool.specs.Rounds.{HeldEach, HeldOnce, NoneBeyond, StoppedBy}
use Rattle.draid_pool.specs.Syncing.{Commits}
use Rattle.draid_pool.specs.declared.fault.SyncFault.{SyncFault}
use Rattle.draid_pool.proofs.Arms.{have_both, have_stay, have_then}
use Rattle.draid_pool.proofs.Holding.{some_same}
use Rattle.draid_changes.specs.Switching.{AllSameArms, ReservesEach, ReservesOne, SeesLeaf, SwitchesEach}
use Rattle.draid_changes.specs.Walks.{Switches}
use Rattle.draid_changes.proofs.Whole.{switched_same}

-- where the very same arms are left
still : (a b : SlotTable) → b ≡ a → HaveSameArms a b
still a b same = subst (HaveSameArms a) (sym same) (have_stay a a (same_arms a).same refl)

stays : (a b : SlotTable) → ArmsStay a b → HaveSameArms a b
stays a b stay = have_stay a b stay.same stay.arms_stay

module _ {R A S : Type 0} (rack : racks.Ghosts R) (area : areas.Ghosts A) (last : S → ℕ → Option (Shard R A)) (went : S → ℕ → Shard R A → Shard R A → S → Type 0) (shared : Bool) (owns : ℕ → Bool) (own : owns groups_number ≡ true) where
  -- ---- holds that leave the arms

  -- each metaslab has the arms that it had, but for whether a pass has made them good
  abbrev pub ArmsAreThere : S → S → Type 0
  ArmsAreThere a b = (m : ℕ) (y : Shard R A) → last b m ≡ Some y → (x : Shard R A) × (last a m ≡ Some x) × HaveSameArms x.slots y.slots

  there_same : (a : S) → ArmsAreThere a a
  there_same a m y at = (y, at, still y.slots y.slots refl)

  pub there_then : (a b c : S) → ArmsAreThere a b → ArmsAreThere b c → ArmsAreThere a c
  there_then a b c first second m y at = (let p = second m y at in let q = first m p.0 p.1 in (q.0, q.1, have_then q.0.slots p.0.slots y.slots q.2 p.2))

  module _ (does : Shard R A → Shard R A → Type 0) (a : S) (m : ℕ) (b : S) (h : HeldOnce rack area last went shared owns does a m b) where
    pub once_here : last b m ≡ Some h.after
    once_here = h.is m ∙ ap (λ t. if t then Some h.after else last a m) (eq-eqb m m refl)

    pub once_other : (k : ℕ) → (k ≡ m → ⊥) → last b k ≡ last a k
    once_other k not = h.is k ∙ ap (λ t. if t then Some h.after else last a k) (ne_eqb k m not)

    pub drift_shares : HaveSameArms h.shard.slots h.before.slots
    drift_shares = (h.drifts.groups own).arms.arms

    pub once_there : HaveSameArms h.before.slots h.after.slots → ArmsAreThere a b
    once_there stay k y at = dite (ℕ_discrete k m)
        (λ same.
        (h.shard, ap (last a) same ∙ h.there, subst (λ (s : Shard R A). HaveSameArms h.shard.slots s.slots) (some_same h.after y (sym once_here ∙ (ap (last b) (sym same) ∙ at))) (have_then h.shard.slots h.before.slots h.after.slots drift_shares stay)))
        (λ not. (y, sym (once_other k not) ∙ at, still y.slots y.slots refl))

  module _ (does : ℕ → Shard R A → Shard R A → Type 0) (leaves : (n : ℕ) (x y : Shard R A) → does n x y → HaveSameArms x.slots y.slots) where
    pub round_there : (n sum : ℕ) (a b : S) → HeldEach rack area last went shared owns does n a sum b → ArmsAreThere a b
    round_there zero sum a b each = subst (ArmsAreThere a) (sym each.0) (there_same a)
    round_there (suc n) sum a b (mid, some, more, each, once, adds) =
        there_then a mid b (round_there n some a mid each) (once_there (does more) mid n b once (leaves more once.before once.after once.did))

    pub stop_there : (stops : Shard R A → Shard R A → Type 0) → ((x y : Shard R A) → stops x y → HaveSameArms x.slots y.slots) → (count : ℕ) (a b : S) → StoppedBy rack area last went shared owns does stops count a b → ArmsAreThere a b
    stop_there stops so count a b s = there_then a s.mid b (round_there s.place s.sum a s.mid s.front) (once_there stops s.mid s.place b s.stop (so s.stop.before s.stop.after s.stop.did))

  -- ---- a closing group is committed

  sees_stay : (closing : Option ℕ) (x y : Shard R A) → SeesClosing closing x y → HaveSameArms x.slots y.slots
  sees_stay closing x y sees = still x.slots y.slots (ap (λ (s : Shard R A). s.slots) sees.0)

  closes_there : (group count : ℕ) (a b : S) (result : Result Unit SyncFault) → ClosesEach rack area last went shared owns group count a result b → ArmsAreThere a b
  closes_there group count a b (Ok done) each = round_there (λ none x y. ClosesIn rack area group x (Ok tt) y) (λ n x y c. stays x.slots y.slots c.stays.arms) count 0 a b each
  closes_there group count a b (Err why) s = stop_there (λ none x y. ClosesIn rack area group x (Ok tt) y) (λ n x y c. stays x.slots y.slots c.stays.arms) (λ x y. ClosesIn rack area group x (Err why) y) (λ x y c. stays x.slots y.slots c.stays.arms) count a b s

  seals_there : (group count : ℕ) (a b : S) (out : Option (Result ℕ SyncFault)) → SealsEach rack area last went shared owns group count a out b → ArmsAreThere a b
  seals_there group count a b (Some (Ok thin)) each = round_there (λ n x y. SealsBy rack area group x (Ok n) y) (λ n x y c. stays x.slots y.slots c.stays.arms) count thin a b each
  seals_there group count a b (Some (Err why)) s = stop_there (λ n x y. SealsBy rack area group x (Ok n) y) (λ n x y c. stays x.slots y.slots c.stays.arms) (λ x y. SealsBy rack area group x (Err why) y) (λ x y c. stays x.slots y.slots c.stays.arms) count a b s
  seals_there group count a b None s = stop_there (λ n x y. SealsBy rack area group x (Ok n) y) (λ n x y c. stays x.slots y.slots c.stays.arms) (λ x y. WaitsForWrites group x y) (λ x y c. still x.slots y.slots (ap (λ (s : Shard R A). s.slots) c.same)) count a b s

  commits_there : (group count : ℕ) (a b : S) (u v : Uber A) (out : Option (Result ℕ SyncFault)) → CommitsIn rack area last went shared owns group count a u out b v → ArmsAreThere a b
  commits_there group count a b u v (Some (Ok thin)) (mid, late, closes, seals, names, commits) =
      there_then a late b (there_then a mid late (closes_there group count a mid (Ok tt) closes) (seals_there group count mid late (Some (Ok thin)) seals))
      (round_there (λ none x y. Commits rack group x y) (λ n x y c. stays x.slots y.slots c.stays.arms) count 0 late b commits)
  commits_there group count a b u v (Some (Err why)) (inl (closes, same)) = closes_there group count a b (Err why) closes
  commits_there group count a b u v (Some (Err why)) (inr (inl (mid, closes, seals, same))) = there_then a mid b (closes_there group count a mid (Ok tt) closes) (seals_there group count mid b (Some (Err why)) seals)
  commits_there group count a b u v (Some (Err why)) (inr (inr (mid, thin, closes, seals, names))) = there_then a mid b (closes_there group count a mid (Ok tt) closes) (seals_there group count mid b (Some (Ok thin)) seals)
  commits_there group count a b u v None (mid, closes, seals, same) = there_then a mid b (closes_there group count a mid (Ok tt) closes) (seals_there group count mid b None seals)

  finds_there : (count : ℕ) (a b : S) (found : Option ℕ) → FindsClosing rack area last went shared owns count a found b → ArmsAreThere a b
  finds_there count a b (Some group) s = stop_there (λ none x y. SeesClosing None x y) (λ n x y c. sees_stay None x y c) (λ x y. SeesClosing (Some group) x y) (λ x y c. sees_stay (Some group) x y c) count a b s
  finds_there count a b None each = round_there (λ none x y. SeesClosing None x y) (λ n x y c. sees_stay None x y c) count 0 a b each

  pub finish_there : (count : ℕ) (a b : S) (u v : Uber A) (out : Option (Result Unit SyncFault)) → FinishesIn rack area last went shared owns count a u out b v → ArmsAreThere a b
  finish_there count a b u v (Some (Ok done)) (inl (found, same)) = finds_there count a b None found
  finish_there count a b u v (Some (Ok done)) (inr (group, thin, mid, found, commits)) =
      there_then a mid b (finds_there count a mid (Some group) found) (commits_there group count mid b u v (Some (Ok thin)) commits)
  finish_there count a b u v (Some (Err why)) (group, mid, found, commits) = there_then a mid b (finds_there count a mid (Some group) found) (commits_there group count mid b u v (Some (Err why)) commits)
  finish_there count a b u v None (group, mid, found, commits) = there_then a mid b (finds_there count a mid (Some group) found) (commits_there group count mid b u v None commits)

  -- ---- events are reserved

  pub look_there : (leaf : ℕ) (there : Bool) (a : S) (m : ℕ) (b : S) → HeldOnce rack area last went shared owns (SeesLeaf leaf there) a m b → ArmsAreThere a b
  look_there leaf there a m b h = once_there (SeesLeaf leaf there) a m b h (still h.before.slots h.after.slots (ap (λ (s : Shard R A). s.slots) h.did.same))

  reserve_stays : (x y : Shard R A) (result : Result Unit ReserveFault) → ReservesOne rack x result y → HaveSameArms x.slots y.slots
  reserve_stays x y result r = have_stay x.slots y.slots r.slots.same r.slots.arms_stay

  pub reserves_there : (count : ℕ) (a b : S) (result : Result Unit ReserveFault) → ReservesEach rack area last went shared owns count a result b → ArmsAreThere a b
  reserves_there count a b (Ok done) each = round_there (λ none x y. ReservesOne rack x (Ok tt) y) (λ n x y r. reserve_stays x y (Ok tt) r) count 0 a b each
  reserves_there count a b (Err why) s =
      stop_there (λ none x y. ReservesOne rack x (Ok tt) y) (λ n x y r. reserve_stays x y (Ok tt) r) (λ x y. ReservesOne rack x (Err why) y) (λ x y r. reserve_stays x y (Err why) r) count a b s

  pub alike_there : (a b : S) → ArmsAreThere a b → AllSameArms (last a) → AllSameArms (last b)
  alike_there a b go alike m n x y at there = (let p = go m x at in let q = go n y there in have_both p.0.slots q.0.slots x.slots y.slots p.2 q.2 (alike m n p.0 q.0 p.1 q.1))

  -- a thread has no more of them
  pub beyond_there : (count : ℕ) (a b : S) → ArmsAreThere a b → NoneBeyond count (last a) → NoneBeyond count (last b)
  beyond_there count a b go beyond m from = by (last b m) refl
    where
      by : (o : Option (Shard R A)) → last b m ≡ o → last b m ≡ None
      by None is = is
      by (Some y) is = absurd (let p = go m y is in none_some (last a m) p.0 (beyond m from) p.1)

  -- ---- leaves go offline or come back

  module _ (leaf : ℕ) (offline : Bool) where
    -- a metaslab has the arms that another one had, switched
    record WasSwitched (x y : Shard R A) : Type 0 where
      pub before : Shard R A
      pub shares : HaveSameArms x.slots before.slots
      pub switches : Switches rack leaf offline before y

    -- so the first so many, and the others are as they were left
    record AreSwitched (n : ℕ) (a b : S) : Type 0 where
      pub below : (m : ℕ) (y : Shard R A) → m < n → last b m ≡ Some y → (x : Shard R A) × (last a m ≡ Some x) × WasSwitched x y
      pub others : (m : ℕ) → n ≤ m → last b m ≡ last a m

    switched_upto : (n sum : ℕ) (a b : S) → HeldEach rack area last went shared owns (λ none x y. Switches rack leaf offline x y) n a sum b → AreSwitched n a b
    switched_upto zero sum a b each = record { below = λ m y less at. absurd (omega (arith, less)); others = λ m from. ap (λ s. last s m) each.0 }
    switched_upto (suc n) sum a b (mid, some, more, each, once, adds) =
        let z = switched_upto n some a mid each in
        record {
          below = λ m y less at. dite (ℕ_discrete m n)
              (λ same. (
                once.shard,
                sym (z.others m (omega (arith, same))) ∙ (ap (last mid) same ∙ once.there),
                subst (WasSwitched once.shard) (some_same once.after y (sym (once_here (λ x y. Switches rack leaf offline x y) mid n b once) ∙ (ap (last b) (sym same) ∙ at))) (record { before = once.before; shares = drift_shares (λ x y. Switches rack leaf offline x y) mid n b once; switches = once.did }),
              ))
              (λ not. z.below m y (omega (arith, less, not)) (sym (once_other (λ x y. Switches rack leaf offline x y) mid n b once m not) ∙ at));
          others = λ m from. once_other (λ x y. Switches rack leaf offline x y) mid n b once m (λ same. omega (arith, same, from)) ∙ z.others m (omega (arith, from));
        }

    pub switches_alike : (count : ℕ) (a b : S) → NoneBeyond count (last a) → SwitchesEach rack area last went shared owns count leaf offline a b → AllSameArms (last a) → AllSameArms (last b)
    switches_alike count a b beyond each alike m n x y at there =
        let p = was m x at in
        let q = was n y there in
        switched_same leaf offline p.2.before.slots q.2.before.slots x.slots y.slots p.2.switches.slots q.2.switches.slots
        (have_both p.0.slots q.0.slots p.2.before.slots q.2.before.slots p.2.shares q.2.shares (alike m n p.0 q.0 p.1 q.1))
      where
        was : (k : ℕ) (s : Shard R A) → last b k ≡ Some s → (t : Shard R A) × (last a k ≡ Some t) × WasSwitched t s
        was k s at_k = elim (cases_lt k count) [
          | inl less ↦ (switched_upto count 0 a b each).below k s less at_k
          | inr from ↦ absurd (none_some (last b k) s ((switched_upto count 0 a b each).others k from ∙ beyond k from) at_k)
        ]
