-- What is said of a lane that takes a leaf offline or brings it back.
use Rattle.std.proofs.Common.{◌≡◌, ◌<◌, ◌+◌, ◌++◌, ◌∷◌, ◌∙◌, [], inl, inr, ℕ, Bool, true, false, List, Option, Some, Ok, Err, arith, refl, sym, ap, subst, length}
use Rattle.std.specs.Prelude.{IsTrue, Result, slice_get}
use Rattle.std.proofs.lemmas.List.{append_assoc}
use Rattle.draid_names.specs.declared.refusal.SlotFault.TheVariants as slot
use Rattle.draid_rack.specs.declared.Rack as racks
use Rattle.draid_area.specs.declared.Area as areas
use Rattle.draid_session.specs.Arms as arms
use Rattle.draid_session.specs.Groups as groups
use Rattle.draid_session.specs.Holds.{Hold, LookedUber, view_of}
use Rattle.draid_session.specs.Lanes.{IsLookOnly, LeavesLooks}
use Rattle.draid_session.specs.Looks.{LooksFrom}
use Rattle.draid_session.specs.Phases.{End, Went}
use Rattle.draid_session.specs.State.{Metaslab, State}
use Rattle.draid_turn.specs.Calls.{Caller}
use Rattle.draid_turn.specs.declared.past.Past.{Past}
use Rattle.draid_uber.specs.Slots.{group_of}
use Rattle.draid_uber.specs.Uber as ubers
use Rattle.draid_uber.specs.declared.uber.Uber.{Uber}
use Rattle.draid_entries.specs.declared.history.ReserveFault.{ReserveFault}
use Rattle.draid_entries.specs.declared.history.ReserveFault.TheVariants as reserve
use Rattle.draid_disks.specs.Disks.{IsLeafArm}
use Rattle.draid_slots.specs.Table.{SlotTable}
use Rattle.draid_shard.specs.Alike.{HaveSameArms}
use Rattle.draid_pool.specs.Drifts.{groups_number}
use Rattle.draid_pool.specs.Grouping.{ClosesNext}
use Rattle.draid_pool.specs.Rounds.{EachIs}
use Rattle.draid_pool.specs.Syncing.{end_of}
use Rattle.draid_pool.specs.Views.{seen_at}
use Rattle.draid_pool.specs.declared.cell.Cell.{Cell}
use Rattle.draid_pool.specs.declared.fault.SyncFault.{SyncFault}
use Rattle.draid_pool.specs.declared.fault.SyncFault.TheVariants as sync
use Rattle.draid_pool.proofs.Lists.{present}
use Rattle.draid_pool.proofs.Looking.{looked, looks_at}
use Rattle.draid_pool.proofs.SyncSteps.{not_went}
use Rattle.draid_changes.specs.Answers.{IsFor, SwitchDoes}
use Rattle.draid_changes.specs.Switching.{IsShortOf, SeesLeaf, SwitchesIn}
use Rattle.draid_changes.specs.Walks.{end_of_reserving, switch_event}
use Rattle.draid_changes.specs.declared.fault.ArmFault.{ArmFault}
use Rattle.draid_changes.specs.declared.fault.ArmFault.TheVariants as armed
use Rattle.draid_changes.proofs.Begun.{seen_first}
use Rattle.draid_changes.proofs.Calls.{leaf_here, leaf_there, not_broken}
use Rattle.draid_changes.proofs.Leaves.{leaf_arm, leaf_inside, leaf_shared}
use Rattle.draid_lanes.specs.Governing.{lane_last}
use Rattle.draid_lanes.specs.Traces.{LaneTurn}
use Rattle.draid_lanes.specs.Waits.{LaneWent}
use Rattle.draid_lanes.specs.declared.locked.Locked.{Locked}
use Rattle.draid_lanes.proofs.FinishWords.{FinishSays, FoundAt, Stage, finish_holds, finish_said}
use Rattle.draid_lanes.proofs.GroupWords.{uber_view}
use Rattle.draid_lanes.proofs.LaneSays.{finishes_ok, in_front, one_finishes}
use Rattle.draid_lanes.proofs.LooksSaid.{LooksBut, looks_said}
use Rattle.draid_lanes.proofs.OneTurn.{Once, came_is}
use Rattle.draid_lanes.proofs.RoundWords.{IsOneOf, Says, said_as, said_on, said_uber}
use Rattle.draid_lanes.proofs.SealWords.{leaves_self, leaves_then}
use Rattle.draid_lanes.proofs.SyncWords.{look_hold}
use Rattle.draid_lanes.proofs.Tracing.{Traced, traced_then}
use Rattle.draid_works.specs.Told.{SwitchBut}
use Rattle.draid_works.proofs.SwitchWords.{RestBut, rest_short, rest_went, seen_said}

-- arms that are the same are so the other way round
same_back : (a b : SlotTable) → HaveSameArms a b → HaveSameArms b a
same_back a b s = record {
  children = sym s.children;
  slots = λ slot less.
      (let r = s.slots slot (subst (λ n. slot < n) s.children less) in
      record { many = sym r.many; each = λ k p q at here. (let z = r.each k q p here at in record { kind_is = sym z.kind_is; number_is = sym z.number_is; offline_is = sym z.offline_is }) });
}

none_front : {E : Type 0} (xs ys : List E) → xs ++ ys ≡ [] → xs ≡ []
none_front [] ys none = refl
none_front (x ∷ xs) ys none = absurd (cc)

-- no rule is broken, and what is done comes to an end
abbrev ComesTo : State → ℕ → Bool → List Hold → End → Type 0
ComesTo x leaf offline = arms.Comes x.geometry x.perms (arms.NoLeaf x.geometry x.perms leaf) (arms.Switches x.geometry x.perms (switch_event leaf offline))

-- a group that was closing wasn't finished
unfinished : (x : State) (leaf : ℕ) (offline : Bool) (stop : SyncFault) (why : ArmFault) (left : List Hold) → IsFor stop why → groups.Finishes x.geometry x.perms left (end_of {T = ℕ} (Err stop)) → SwitchDoes x leaf offline (Err why) left x.store
unfinished x leaf offline sync.Worn why left is f = subst (λ w. SwitchDoes x leaf offline (Err w) left x.store) (sym is) (refl, inr (not_went ℕ sync.Worn, λ same. absurd (cc), f))
unfinished x leaf offline sync.Last why left is f = absurd is
unfinished x leaf offline sync.Shelf why left is f = subst (λ w. SwitchDoes x leaf offline (Err w) left x.store) (sym is) (refl, inr (not_went ℕ sync.Shelf, λ same. absurd (cc), f))
unfinished x leaf offline sync.NoMemory why left is f = subst (λ w. SwitchDoes x leaf offline (Err w) left x.store) (sym is) (refl, inl (inr (not_went ℕ sync.NoMemory, λ same. absurd (cc), f)))

-- no event could be reserved in one of them
short_of : (x : State) (leaf : ℕ) (offline : Bool) (short : ReserveFault) (why : ArmFault) (left : List Hold) → IsShortOf short why → ComesTo x leaf offline left (end_of_reserving (Err short)) → SwitchDoes x leaf offline (Err why) left x.store
short_of x leaf offline (reserve.Worn events) why left is c = subst (λ w. SwitchDoes x leaf offline (Err w) left x.store) (sym is) (refl, c)
short_of x leaf offline reserve.NoMemory why left is c = subst (λ w. SwitchDoes x leaf offline (Err w) left x.store) (sym is) (refl, inl c)

module _ {R A G W : Type 0} (rack : racks.Ghosts R) (area : areas.Ghosts A) (x : State) (owns : ℕ → Bool) (own : owns groups_number ≡ true) (count : ℕ) (all : count ≡ x.geometry.props.metaslabs) (some : 0 < count) (leaf : ℕ) (offline : Bool) where
  abbrev Switches_in : Locked R A G W → Uber A → Option (Result Unit ArmFault) → Locked R A G W → Uber A → Type 0
  Switches_in a u out b v = SwitchesIn rack area lane_last (LaneWent rack area) true owns count leaf offline a u out b v

  -- the holds of the uberblock
  abbrev pub switch_holds : (a b : Locked R A G W) (u v : Uber A) (result : Result Unit ArmFault) → Switches_in a u (Some result) b v → List Hold
  switch_holds a b u v (Ok done) it = finish_holds rack area x owns own count all a it.0 u v (Some (Ok tt)) it.1 ++ look_hold v ∷ []
  switch_holds a b u v (Err why) (inl it) = finish_holds rack area x owns own count all a b u v (Some (Err it.0)) it.1
  switch_holds a b u v (Err why) (inr it) = finish_holds rack area x owns own count all a it.0 u v (Some (Ok tt)) it.1 ++ look_hold v ∷ []

  module _ (old met : Locked R A G W) (old_all : count ≡ length old.turns.now) (old_many : length old.passes.items ≡ length old.turns.now) (ts : ℕ → List LaneTurn) (ys : List Metaslab) (front : Traced rack area x old met ts (looks_at 0 ys) [])
      (turned : (m : ℕ) (pass : Caller (Past (Cell R A))) → slice_get old.passes.items m ≡ Some pass → ts m ≡ [] → ⊥) (long : length ys ≡ count)
      (closed : (found : Option ℕ) (m : ℕ) (y : Metaslab) → FoundAt rack area x owns own count met found m → slice_get ys m ≡ Some y → y.world.closing ≡ found) where
    -- the looks of the meeting, and what was closing is finished
    record FinBut (r : Result Unit SyncFault) (hs : List Hold) : Type 0 where
      pub back : List Hold
      pub are : hs ≡ looks_at 0 ys ++ back
      pub so : FinishSays rack area x owns own count all met r back

    abbrev fin_on : (c : Locked R A G W) (us : List Hold) (r : Result Unit SyncFault) → Says rack area x met c us (FinishSays rack area x owns own count all met r) → Says rack area x old c us (FinBut r)
    fin_on c us r f = record {
      turns = λ m. ts m ++ f.turns m;
      holds = looks_at 0 ys ++ f.holds;
      traced = traced_then rack area x old met c ts f.turns (looks_at 0 ys) f.holds [] us front f.traced;
      done = record { back = f.holds; are = refl; so = f.done };
      came = f.came;
    }

    abbrev Looks : Locked R A G W → List Hold → Type 0
    Looks c = LooksBut rack area x old c count old_all old_many (FinBut (Ok tt))

    then_looks : (c : Locked R A G W) (us : List Hold) → Says rack area x met c us (FinishSays rack area x owns own count all met (Ok tt)) → Says rack area x old c us (Looks c)
    then_looks c us f = looks_said rack area x old c count old_all old_many us (FinBut (Ok tt)) (fin_on c us (Ok tt) f) (λ m pass at none. turned m pass at (none_front (ts m) (f.turns m) none))

    -- ---- as it begins

    -- what it is said to begin with
    record BeginsBut (c : Locked R A G W) (v : Uber A) (P : List Hold → Type 0) (hs : List Hold) : Type 0 where
      pub looks : List Hold
      pub rest : List Hold
      pub are : hs ≡ looks ++ look_hold v ∷ rest
      pub so : Looks c looks
      pub then_it : P rest

    -- the look at the uberblock, and what is done behind it
    begins_said : (c b : Locked R A G W) (v : Uber A) (us : List Hold) (P : List Hold → Type 0) → Says rack area x old c us (Looks c) → Says rack area x c b [] P → Says rack area x old b (us ++ look_hold v ∷ []) (BeginsBut c v P)
    begins_said c b v us P l r =
        said_on rack area x old c b us (look_hold v ∷ []) (Looks c) (λ hs. (ks : List Hold) × (hs ≡ look_hold v ∷ ks) × P ks) (BeginsBut c v P) l
        (said_on rack area x c c b (look_hold v ∷ []) [] (λ hs. hs ≡ look_hold v ∷ []) P (λ hs. (ks : List Hold) × (hs ≡ look_hold v ∷ ks) × P ks) (said_uber rack area x c (uber_view v) LookedUber l.came) r (λ hs ks is p. (ks, ap (λ l. l ++ ks) is, p)))
        (λ hs ks l z. record { looks = hs; rest = z.0; are = ap (λ k. hs ++ k) z.1; so = l; then_it = z.2 })

    module _ (c : Locked R A G W) (v : Uber A) (P : List Hold → Type 0) (hs : List Hold) (b : BeginsBut c v P hs) (kept : List Hold) (leaves : LeavesLooks b.rest kept) where
      abbrev views : List Metaslab
      views = b.so.ys

      fin : (left : List Hold) × LeavesLooks b.so.so.back left × groups.Finishes x.geometry x.perms (looks_at 0 ys ++ left) Went
      fin = finishes_ok rack area x owns own count all met ys long closed b.so.so.back b.so.so.so

      abbrev left_of : List Hold
      left_of = (looks_at 0 ys ++ fin.0) ++ (looks_at 0 views ++ look_hold v ∷ kept)

      left_is : LeavesLooks hs left_of
      left_is =
          subst (λ l. LeavesLooks l left_of) (sym (b.are ∙ (ap (λ l. l ++ look_hold v ∷ b.rest) (b.so.are ∙ ap (λ l. l ++ looks_at 0 views) b.so.so.are) ∙ append_assoc (looks_at 0 ys ++ b.so.so.back) (looks_at 0 views) (look_hold v ∷ b.rest))))
          (leaves_then (looks_at 0 ys ++ b.so.so.back) (looks_at 0 ys ++ fin.0) (looks_at 0 views ++ look_hold v ∷ b.rest) (looks_at 0 views ++ look_hold v ∷ kept)
          (in_front rack area x owns own count all met ys long closed b.so.so.back fin.0 fin.1)
          (leaves_then (looks_at 0 views) (looks_at 0 views) (look_hold v ∷ b.rest) (look_hold v ∷ kept) (leaves_self (looks_at 0 views)) (inr (kept, refl, leaves))))

      begins_is : arms.Begins x.geometry x.perms left_of (seen_at 0 views) (uber_view v) kept
      begins_is = record {
        finish = looks_at 0 ys ++ fin.0;
        looks = looks_at 0 views;
        are = refl;
        finishes = fin.2;
        looked = subst (λ n. LooksFrom 0 n (looks_at 0 views) (seen_at 0 views)) (b.so.long ∙ all) (looked 0 views);
      }

    -- ---- the first metaslab

    -- as it was looked at
    record FirstIs (c : Locked R A G W) (zs : List Metaslab) (there : Bool) : Type 0 where
      pub y : Metaslab
      pub at : slice_get zs 0 ≡ Some y
      pub yes : there ≡ true → arms.IsArmLeaf x.geometry x.perms leaf (view_of 0 y)
      pub no : there ≡ false → arms.IsArmLeaf x.geometry x.perms leaf (view_of 0 y) → ⊥

    first_is : (c d : Locked R A G W) (hs : List Hold) (l : Looks c hs) (there : Bool) → Once rack area x owns (SeesLeaf leaf there) c 0 d → FirstIs c l.ys there
    first_is c d hs l there h =
        let long_then = l.long in
        let y = present l.ys 0 (omega (arith, some, long_then)) in
        let came = l.each 0 y.0 y.1 h.shard h.there in
        let is = came_is rack area x 0 h.shard y.0 came in
        let share = (h.drifts.groups own).arms.arms in
        record {
          y = y.0;
          at = y.1;
          yes = λ so. leaf_there rack area x 0 came.came.pieces h.shard y.0 leaf is
              (leaf_arm h.shard.slots leaf (leaf_shared h.before.slots h.shard.slots leaf (same_back h.shard.slots h.before.slots share) (leaf_inside h.before.slots leaf h.did.sound (is_arm there so h.did.arm.0))));
          no = λ so arm. not_arm there so h.did.arm.1 (leaf_arm h.before.slots leaf (leaf_shared h.shard.slots h.before.slots leaf share (leaf_here rack area x 0 came.came.pieces h.shard y.0 leaf is arm)));
        }
      where
        is_arm : (b : Bool) → b ≡ true → (IsTrue b → IsLeafArm h.before.slots leaf) → IsLeafArm h.before.slots leaf
        is_arm true so to = to refl
        is_arm false so to = absurd (cc)

        not_arm : (b : Bool) → b ≡ false → (IsLeafArm h.before.slots leaf → IsTrue b) → IsLeafArm h.before.slots leaf → ⊥
        not_arm true so to is = absurd (cc)
        not_arm false so to is = (let yes_it_is : false ≡ true = to is in absurd (cc))

    -- ---- by the answer

    went_but : (c d : Locked R A G W) (v : Uber A) (end : End) (hs : List Hold) → Once rack area x owns (SeesLeaf leaf true) c 0 d → BeginsBut c v (RestBut x (switch_event leaf offline) end) hs → (left : List Hold) × LeavesLooks hs left × ComesTo x leaf offline left end
    went_but c d v end hs look b =
        let one = first_is c d b.looks b.so true look in (
          left_of c v (RestBut x (switch_event leaf offline) end) hs b b.then_it.left b.then_it.leaves,
          left_is c v (RestBut x (switch_event leaf offline) end) hs b b.then_it.left b.then_it.leaves,
          inl (record {
            views = seen_at 0 b.so.ys;
            u = uber_view v;
            rest = b.then_it.left;
            begins = begins_is c v (RestBut x (switch_event leaf offline) end) hs b b.then_it.left b.then_it.leaves;
            none = λ why broken. not_broken rack area x leaf why one.y b.so.ys (uber_view v) one.at (one.yes refl) broken;
            does = b.then_it.does;
          }),
        )

    refused_but : (c d : Locked R A G W) (v : Uber A) (why : ArmFault) (hs : List Hold) → why ≡ armed.Slot slot.NoSuch → Once rack area x owns (SeesLeaf leaf false) c 0 d → BeginsBut c v (IsOneOf IsLookOnly) hs → SwitchBut x leaf offline (Err why) hs
    refused_but c d v why hs is look b =
        let one = first_is c d b.looks b.so false look in
        let none : LeavesLooks b.rest [] = subst (λ l. LeavesLooks l []) (sym b.then_it.are) (inl (b.then_it.is, refl)) in
        subst (λ w. SwitchBut x leaf offline (Err w) hs) (sym is) (
          left_of c v (IsOneOf IsLookOnly) hs b [] none,
          left_is c v (IsOneOf IsLookOnly) hs b [] none,
          (
            refl,
            record {
              views = seen_at 0 b.so.ys;
              u = uber_view v;
              begins = begins_is c v (IsOneOf IsLookOnly) hs b [] none;
              broken = seen_first (λ w. arms.IsArmLeaf x.geometry x.perms leaf w → ⊥) b.so.ys one.y one.at (one.no refl);
            },
          ),
        )

    abbrev Ready : Locked R A G W → Uber A → Type 0
    Ready a u = EachIs count (ClosesNext rack (group_of (ubers.kept_of u) + 1)) (lane_last a)

    pub switch_said : (b c : Locked R A G W) (u v : Uber A) (result : Result Unit ArmFault) → Ready met u → Stage rack area x owns own count met b → (it : Switches_in b u (Some result) c v) → Says rack area x old c (switch_holds b c u v result it) (SwitchBut x leaf offline result)
    switch_said b c u v (Ok done) ready stage (at, finishes, (mid, late, look, reserves, switches)) =
        let us = finish_holds rack area x owns own count all b at u v (Some (Ok tt)) finishes in
        let l = then_looks at us (finish_said rack area x owns own count all met b at u v (Ok tt) some ready stage finishes) in
        let r = rest_went rack area x owns own count all leaf offline at mid late c look reserves switches l.came in
        said_as rack area x old c (us ++ look_hold v ∷ []) (BeginsBut at v (RestBut x (switch_event leaf offline) Went)) (SwitchBut x leaf offline (Ok done)) (begins_said at c v us (RestBut x (switch_event leaf offline) Went) l r)
        (λ hs d. (let z = went_but at mid v Went hs look d in (z.0, z.1, (refl, z.2))))
    switch_said b c u v (Err why) ready stage (inl (stop, finishes, is)) =
        let us = finish_holds rack area x owns own count all b c u v (Some (Err stop)) finishes in
        let f = finish_said rack area x owns own count all met b c u v (Err stop) some ready stage finishes in
        said_as rack area x old c us (FinBut (Err stop)) (SwitchBut x leaf offline (Err why)) (fin_on c us (Err stop) f)
        (λ hs d.
        let z = one_finishes rack area x owns own count all met ys long closed (end_of {T = ℕ} (Err stop)) d.back d.so in (
          looks_at 0 ys ++ z.0,
          subst (λ l. LeavesLooks l (looks_at 0 ys ++ z.0)) (sym d.are) (in_front rack area x owns own count all met ys long closed d.back z.0 z.1),
          unfinished x leaf offline stop why (looks_at 0 ys ++ z.0) is z.2,
        ))
    switch_said b c u v (Err why) ready stage (inr (at, finishes, (inl (look, is)))) =
        let us = finish_holds rack area x owns own count all b at u v (Some (Ok tt)) finishes in
        let l = then_looks at us (finish_said rack area x owns own count all met b at u v (Ok tt) some ready stage finishes) in
        let r = seen_said rack area x owns own count all leaf offline false at c look l.came in
        said_as rack area x old c (us ++ look_hold v ∷ []) (BeginsBut at v (IsOneOf IsLookOnly)) (SwitchBut x leaf offline (Err why)) (begins_said at c v us (IsOneOf IsLookOnly) l r) (λ hs d. refused_but at c v why hs is look d)
    switch_said b c u v (Err why) ready stage (inr (at, finishes, (inr (mid, short, look, stops, is)))) =
        let us = finish_holds rack area x owns own count all b at u v (Some (Ok tt)) finishes in
        let l = then_looks at us (finish_said rack area x owns own count all met b at u v (Ok tt) some ready stage finishes) in
        let end = end_of_reserving (Err short) in
        let r = rest_short rack area x owns own count all leaf offline at mid c short look stops l.came in
        said_as rack area x old c (us ++ look_hold v ∷ []) (BeginsBut at v (RestBut x (switch_event leaf offline) end)) (SwitchBut x leaf offline (Err why)) (begins_said at c v us (RestBut x (switch_event leaf offline) end) l r)
        (λ hs d. (let z = went_but at mid v end hs look d in (z.0, z.1, short_of x leaf offline short why z.0 is z.2)))
