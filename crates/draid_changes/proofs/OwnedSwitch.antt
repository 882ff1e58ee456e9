-- A leaf that the only thread of a pool takes offline or online in all metaslabs, or that is refused.
use Rattle.std.proofs.Common.{◌≡◌, ◌+◌, ◌∙◌, inl, inr, ℕ, zero, suc, Bool, true, false, None, Some, Ok, Err, length, slice_set, arith, refl, sym, ap, subst}
use Rattle.std.specs.Prelude.{Result, IsErrOf, OnOk, slice_get}
use Rattle.std.proofs.lemmas.Bool.{true≢false}
use Rattle.draid_names.specs.declared.refusal.SlotFault.TheVariants as slot
use Rattle.draid_rack.specs.declared.Rack as racks
use Rattle.draid_area.specs.declared.Area as areas
use Rattle.draid_entries.specs.declared.history.ReserveFault.{ReserveFault}
use Rattle.draid_entries.specs.declared.history.ReserveFault.TheVariants as reserve
use Rattle.draid_shard.specs.declared.shard.Shard.{Shard}
use Rattle.draid_shard.proofs.Changed.{arms_kept}
use Rattle.draid_disks.specs.Disks.{IsLeafArm}
use Rattle.draid_session.specs.Arms as arms
use Rattle.draid_session.specs.Phases.{Starved, WasWorn}
use Rattle.draid_session.specs.State.{State}
use Rattle.draid_uber.specs.declared.uber.Uber.{Uber}
use Rattle.draid_pool.specs.Carries.{CarriesOut}
use Rattle.draid_pool.specs.Failing.{AreaRose, AreasLater}
use Rattle.draid_pool.specs.Grouping.{FinishesIn}
use Rattle.draid_pool.specs.Pools.{Represents}
use Rattle.draid_pool.specs.Rounds.{HeldEach, HeldOnce}
use Rattle.draid_pool.specs.Syncing.{AreIdle, Phase}
use Rattle.draid_pool.specs.Whole.{IsWhole}
use Rattle.draid_pool.specs.declared.owned.Owned.{Owned}
use Rattle.draid_pool.specs.declared.pool.Pool.{Pool}
use Rattle.draid_pool.proofs.GroupClosed.{left_by, next_on, once_sets, went_by, with_owned}
use Rattle.draid_pool.proofs.GroupDone.{with_both}
use Rattle.draid_pool.proofs.Lifted.{SetsShard}
use Rattle.draid_pool.proofs.OwnedKnows.{all}
use Rattle.draid_pool.proofs.Rises.{areas_on, areas_set, areas_still, records_same}
use Rattle.draid_pool.proofs.SetAgain.{set_again}
use Rattle.draid_pool.proofs.SyncDone.{FinishDone, finish_all, finish_waits, still_later, still_stands, still_whole}
use Rattle.draid_pool.proofs.SyncSteps.{Came, came_none, whole_on}
use Rattle.draid_changes.specs.Answers.{SwitchDoes}
use Rattle.draid_changes.specs.Behind.{LeafIs}
use Rattle.draid_changes.specs.Switching.{IsShortOf, ReservesEach, ReservesOne, SeesLeaf, SwitchesAll, SwitchesEach, SwitchesIn}
use Rattle.draid_changes.specs.Walks.{ChangedBelow, Reserves, Switches, end_of_reserving, events_at, switch_event}
use Rattle.draid_changes.specs.declared.fault.ArmFault.{ArmFault}
use Rattle.draid_changes.specs.declared.fault.ArmFault.TheVariants as armed
use Rattle.draid_changes.specs.declared.need.Need.TheVariants as needs
use Rattle.draid_changes.proofs.Begun.{Finished, err_same, shelf_first, starved_no_way, unfinished, worn_no_way}
use Rattle.draid_changes.proofs.Calls.{may_switch, switch_done, switch_refused, switch_stopped, switched_whole}
use Rattle.draid_changes.proofs.Events.{areas_changed, idle_reserved}
use Rattle.draid_changes.proofs.Leaves.{all_switched, leaf_unfinished, none_has}
use Rattle.draid_changes.proofs.Phases.{phase_more, phase_stops, phase_went}
use Rattle.draid_changes.proofs.Reserved.{Reserving, asks_for, not_through, reserve_stops, reserve_turns}
use Rattle.draid_changes.proofs.Walk.{changed_more, changed_none}
use Rattle.draid_changes.proofs.Whole.{SameOwn}

slot_no_shelf : IsErrOf {T = Unit} (Err (armed.Slot slot.NoSuch)) armed.Shelf → ⊥
slot_no_shelf is = cc

ok_no_shelf : IsErrOf {T = Unit} (Ok tt) armed.Shelf → ⊥
ok_no_shelf is = cc

worn_no_shelf : IsErrOf {T = Unit} (Err armed.Worn) armed.Shelf → ⊥
worn_no_shelf is = cc

memory_no_shelf : IsErrOf {T = Unit} (Err armed.NoMemory) armed.Shelf → ⊥
memory_no_shelf is = cc

module _ {R A : Type 0} (rack : racks.Ghosts R) (area : areas.Ghosts A) where
  -- ---- events are reserved

  pub reserving_by : (old new : Shard R A) (result : Result Unit ReserveFault) → ReservesOne rack old result new → Reserving rack area 1 old new
  reserving_by old new result e = record { valid = e.valid; none = e.none; kit = e.kit; limit = e.limit }

  -- the first so many metaslabs have one
  record ReservedAt (pool now : Pool R A) (m : ℕ) : Type 0 where
    pub whole : IsWhole rack area now
    pub carries : (x : State) → Represents rack area pool x → Came rack area (arms.Reserves x.geometry x.perms (events_at needs.Event)) m 0 now x
    pub reserves : ChangedBelow (Reserves needs.Event) m pool.metaslabs.shards.items now.metaslabs.shards.items
    pub later : AreasLater area.faults pool now

  whole_then : (m : ℕ) (mid new : Pool R A) (shard after : Shard R A) (result : Result Unit ReserveFault) → IsWhole rack area mid → SetsShard rack area m mid new shard after → ReservesOne rack shard result after → IsWhole rack area new
  whole_then m mid new shard after result w set e = whole_on rack area m mid new shard after w set e.valid
      (record { part = e.none.part; entries = e.keeps.entries; committed = e.keeps.groups.committed; opens = (let same = e.keeps.groups.open_group_is in omega (arith, same)); slots = arms_kept shard.slots after.slots e.slots })

  later_then : (m : ℕ) (pool mid new : Pool R A) (shard after : Shard R A) (result : Result Unit ReserveFault) → AreasLater area.faults pool mid → SetsShard rack area m mid new shard after → ReservesOne rack shard result after → AreasLater area.faults pool new
  later_then m pool mid new shard after result later set e = areas_on area.faults pool mid new later (areas_set rack area m mid new shard after set (records_same area.faults shard after e.kit.areas))

  reserved_none : (pool : Pool R A) → IsWhole rack area pool → ReservedAt pool pool 0
  reserved_none pool w = record {
    whole = w;
    carries = λ x is. came_none rack area (arms.Reserves x.geometry x.perms (events_at needs.Event)) pool x is;
    reserves = changed_none (Reserves needs.Event) pool.metaslabs.shards.items;
    later = areas_still area.faults pool;
  }

  reserved_on : (m : ℕ) (pool mid new : Pool R A) (shard after : Shard R A) → ReservedAt pool mid m → SetsShard rack area m mid new shard after → ReservesOne rack shard (Ok tt) after → ReservedAt pool new (m + 1)
  reserved_on m pool mid new shard after i set e = record {
    whole = whole_then m mid new shard after (Ok tt) i.whole set e;
    carries = λ x is. phase_more rack area (λ g p. arms.Reserves g p (events_at needs.Event)) (λ g p. arms.ReserveStops g p (events_at needs.Event)) m mid new shard after x (i.carries x is) set
        (reserve_turns rack area (events_at needs.Event) 1 shard after (asks_for rack area needs.Event shard) (reserving_by shard after (Ok tt) e) e.answer e.reserved);
    reserves = subst (λ zs. ChangedBelow (Reserves needs.Event) (m + 1) pool.metaslabs.shards.items zs) (sym set.sets)
        (changed_more (Reserves needs.Event) m pool.metaslabs.shards.items mid.metaslabs.shards.items shard after i.reserves set.there
        (record {
          reserved = (let is = e.reserved in omega (arith, is));
          room = record { slots = e.room.slots; targets = e.room.targets };
          slots = arms_kept shard.slots after.slots e.slots;
          logs = e.slots;
          sound = e.sound;
          pass = e.pass;
          last = e.last;
          groups = e.keeps.groups;
          kit = e.kit;
        }));
    later = later_then m pool mid new shard after (Ok tt) i.later set e;
  }

  reserved_upto : (pool : Pool R A) (m sum : ℕ) (b : Owned R A) → IsWhole rack area pool → HeldEach rack area left_by went_by false all (λ none x y. ReservesOne rack x (Ok tt) y) m pool.metaslabs sum b → ReservedAt pool (with_owned pool b) m
  reserved_upto pool zero sum b w each = subst (λ o. ReservedAt pool (with_owned pool o) 0) (sym each.0) (reserved_none pool w)
  reserved_upto pool (suc m) sum b w (mid, some, more, each, once, adds) =
      subst (λ k. ReservedAt pool (with_owned pool b) k) (next_on m)
      (reserved_on m pool (with_owned pool mid) (with_owned pool b) once.before once.after (reserved_upto pool m some mid w each)
      (once_sets rack area pool (λ x y. ReservesOne rack x (Ok tt) y) mid m b once) once.did)

  -- all have one, or a metaslab stopped it
  record ReservedAll (pool new : Pool R A) (result : Result Unit ReserveFault) : Type 0 where
    pub whole : IsWhole rack area new
    pub later : AreasLater area.faults pool new
    pub reserves : OnOk result (ChangedBelow (Reserves needs.Event) (length pool.metaslabs.shards.items) pool.metaslabs.shards.items new.metaslabs.shards.items)
    pub carries : (x : State) → Represents rack area pool x → CarriesOut rack area new x (Phase x (arms.ReservePhase x.geometry x.perms (events_at needs.Event)) (end_of_reserving result))

  reserved_all : (pool : Pool R A) (result : Result Unit ReserveFault) (b : Owned R A) → IsWhole rack area pool → ReservesEach rack area left_by went_by false all pool.geometry.props.metaslabs pool.metaslabs result b
      → ReservedAll pool (with_owned pool b) result
  reserved_all pool (Ok done) b w each =
      let count = pool.geometry.props.metaslabs in
      let i = reserved_upto pool count 0 b w each in
      record {
        whole = i.whole;
        later = i.later;
        reserves = subst (λ n. ChangedBelow (Reserves needs.Event) n pool.metaslabs.shards.items b.shards.items) (sym w.many) i.reserves;
        carries = λ x is. phase_went rack area (λ g p. arms.Reserves g p (events_at needs.Event)) (λ g p. arms.ReserveStops g p (events_at needs.Event)) count (with_owned pool b) x (i.carries x is) refl;
      }
  reserved_all pool (Err why) b w s =
      let mid = with_owned pool s.mid in
      let new = with_owned pool b in
      let i = reserved_upto pool s.place s.sum s.mid w s.front in
      let h = s.stop in
      let e = h.did in
      let set = once_sets rack area pool (λ x y. ReservesOne rack x (Err why) y) s.mid s.place b h in
      record {
        whole = whole_then s.place mid new h.before h.after (Err why) i.whole set e;
        later = later_then s.place pool mid new h.before h.after (Err why) i.later set e;
        reserves = tt;
        carries = λ x is. phase_stops rack area (λ g p. arms.Reserves g p (events_at needs.Event)) (λ g p. arms.ReserveStops g p (events_at needs.Event)) s.place mid new h.before h.after x (end_of_reserving (Err why)) (i.carries x is) set
            s.below (not_through why) (reserve_stops rack area (events_at needs.Event) 1 h.before h.after why (asks_for rack area needs.Event h.before) (reserving_by h.before h.after (Err why) e) e.answer e.same);
      }

  -- ---- the leaf goes offline or comes back

  switched_upto : (leaf : ℕ) (offline : Bool) (m sum : ℕ) (a b : Owned R A) → HeldEach rack area left_by went_by false all (λ none x y. Switches rack leaf offline x y) m a sum b
      → ChangedBelow (Switches rack leaf offline) m a.shards.items b.shards.items
  switched_upto leaf offline zero sum a b each = subst (λ (o : Owned R A). ChangedBelow (Switches rack leaf offline) 0 a.shards.items o.shards.items) (sym each.0) (changed_none (Switches rack leaf offline) a.shards.items)
  switched_upto leaf offline (suc m) sum a b (mid, some, more, each, once, adds) =
      subst (λ k. ChangedBelow (Switches rack leaf offline) k a.shards.items b.shards.items) (next_on m)
      (subst (λ zs. ChangedBelow (Switches rack leaf offline) (m + 1) a.shards.items zs) (sym once.goes.1)
      (changed_more (Switches rack leaf offline) m a.shards.items mid.shards.items once.before once.after (switched_upto leaf offline m some a mid each) once.goes.0 once.did))

  looked_same : (leaf : ℕ) (there : Bool) (a b : Owned R A) → HeldOnce rack area left_by went_by false all (SeesLeaf leaf there) a 0 b → b.shards.items ≡ a.shards.items
  looked_same leaf there a b h = h.goes.1 ∙ (ap (λ s. slice_set a.shards.items 0 s) h.did.same ∙ set_again a.shards.items 0 h.before h.goes.0)

  -- ---- all of it

  pub record SwitchDone (pool new : Pool R A) (leaf : ℕ) (offline : Bool) (result : Result Unit ArmFault) : Type 0 where
    pub whole : IsWhole rack area new
    pub later : AreasLater area.faults pool new
    pub cause : IsErrOf result armed.Shelf → AreaRose area.faults pool new
    pub carries : (x : State) → Represents rack area pool x → CarriesOut rack area new x (SwitchDoes x leaf offline result)
    pub arms_are : LeafIs leaf offline result new.metaslabs.shards.items

  module _ (pool : Pool R A) (w : IsWhole rack area pool) (leaf : ℕ) (offline : Bool) where
    abbrev count : ℕ
    count = pool.geometry.props.metaslabs

    -- behind the look at the first metaslab
    module _ (mid seen : Owned R A) (v : Uber A) (finishes : FinishesIn rack area left_by went_by false all count pool.metaslabs pool.uber (Some (Ok tt)) mid v) (there : Bool)
        (look : HeldOnce rack area left_by went_by false all (SeesLeaf leaf there) mid 0 seen) where
      abbrev p : Pool R A
      p = with_both rack area pool mid v

      abbrev q : Pool R A
      q = with_both rack area pool seen v

      f : FinishDone rack area pool p (Ok tt)
      f = finish_all rack area pool w (Ok tt) mid v finishes

      same : seen.shards.items ≡ mid.shards.items
      same = looked_same leaf there mid seen look

      seen_whole : IsWhole rack area q
      seen_whole = still_whole rack area p seen same f.whole

      seen_later : AreasLater area.faults pool q
      seen_later = areas_on area.faults pool p q f.later (still_later rack area p seen same)

      seen_idle : AreIdle seen.shards.items
      seen_idle = subst (λ zs. AreIdle zs) (sym same) f.idle

      first_there : slice_get seen.shards.items 0 ≡ Some look.before
      first_there = ap (λ zs. slice_get zs 0) same ∙ look.goes.0

      finished : (x : State) → Represents rack area pool x → Finished rack area q x
      finished x is =
          let c = f.carries x is in
          record { holds = c.holds; reached = c.reached; store = c.store; follows = c.follows; done = c.done; represents = still_stands rack area p seen same (record c.reached { store = c.store }) c.represents }

    refuse : (mid b : Owned R A) (v : Uber A) → FinishesIn rack area left_by went_by false all count pool.metaslabs pool.uber (Some (Ok tt)) mid v → HeldOnce rack area left_by went_by false all (SeesLeaf leaf false) mid 0 b
        → SwitchDone pool (with_both rack area pool b v) leaf offline (Err (armed.Slot slot.NoSuch))
    refuse mid b v finishes look = record {
      whole = seen_whole mid b v finishes false look;
      later = seen_later mid b v finishes false look;
      cause = λ is. absurd (slot_no_shelf is);
      carries = λ x is. switch_refused rack area (with_both rack area pool b v) x leaf look.before (finished mid b v finishes false look x is) (first_there mid b v finishes false look) not;
      arms_are = (refl, none_has rack area (with_both rack area pool b v) leaf look.before (seen_whole mid b v finishes false look) (first_there mid b v finishes false look) not);
    }
      where
        not : IsLeafArm look.before.slots leaf → ⊥
        not is = true≢false (sym (look.did.arm.1 is))

    stop : (mid seen b : Owned R A) (v : Uber A) (short : ReserveFault) (why : ArmFault) → (finishes : FinishesIn rack area left_by went_by false all count pool.metaslabs pool.uber (Some (Ok tt)) mid v)
        → (look : HeldOnce rack area left_by went_by false all (SeesLeaf leaf true) mid 0 seen) → ReservesEach rack area left_by went_by false all count seen (Err short) b → IsShortOf short why
        → SwitchDone pool (with_both rack area pool b v) leaf offline (Err why)
    stop mid seen b v short why finishes look reserves is = by short why is (reserved_all q' (Err short) b whole' reserves)
      where
        q' : Pool R A
        q' = with_both rack area pool seen v

        new : Pool R A
        new = with_both rack area pool b v

        whole' : IsWhole rack area q'
        whole' = seen_whole mid seen v finishes true look

        by : (f : ReserveFault) (g : ArmFault) → IsShortOf f g → ReservedAll q' new (Err f) → SwitchDone pool new leaf offline (Err g)
        by (reserve.Worn events) g is r = subst (λ a. SwitchDone pool new leaf offline (Err a)) (sym is) (record {
          whole = r.whole;
          later = areas_on area.faults pool q' new (seen_later mid seen v finishes true look) r.later;
          cause = λ is. absurd (worn_no_shelf is);
          carries = λ x is. switch_stopped rack area q' new x leaf offline armed.Worn WasWorn look.before (finished mid seen v finishes true look x is) (first_there mid seen v finishes true look) (look.did.arm.0 refl) worn_no_way refl r.carries;
          arms_are = tt;
        })
        by reserve.NoMemory g is r = subst (λ a. SwitchDone pool new leaf offline (Err a)) (sym is) (record {
          whole = r.whole;
          later = areas_on area.faults pool q' new (seen_later mid seen v finishes true look) r.later;
          cause = λ is. absurd (memory_no_shelf is);
          carries = λ x is. switch_stopped rack area q' new x leaf offline armed.NoMemory Starved look.before (finished mid seen v finishes true look x is) (first_there mid seen v finishes true look) (look.did.arm.0 refl) starved_no_way refl r.carries;
          arms_are = tt;
        })

    switch : (mid seen late b : Owned R A) (v : Uber A) → (finishes : FinishesIn rack area left_by went_by false all count pool.metaslabs pool.uber (Some (Ok tt)) mid v) → (look : HeldOnce rack area left_by went_by false all (SeesLeaf leaf true) mid 0 seen)
        → ReservesEach rack area left_by went_by false all count seen (Ok tt) late → SwitchesEach rack area left_by went_by false all count leaf offline late b → SwitchDone pool (with_both rack area pool b v) leaf offline (Ok tt)
    switch mid seen late b v finishes look reserves switches = record {
      whole = switched_whole rack area leaf offline l new r.whole changes set;
      later = areas_on area.faults pool q' new (seen_later mid seen v finishes true look) (areas_on area.faults q' l new r.later (areas_changed rack area (Switches rack leaf offline) l new changes set (λ old now s. s.kit.areas)));
      cause = λ is. absurd (ok_no_shelf is);
      carries = λ x is. switch_done rack area q' l new x leaf offline look.before (finished mid seen v finishes true look x is) (first_there mid seen v finishes true look) (look.did.arm.0 refl) r.carries
          (idle_reserved rack area needs.Event q' l (seen_idle mid seen v finishes true look) r.reserves) changes set;
      arms_are = all_switched rack area leaf offline late.shards.items b.shards.items
          (may_switch rack area q' l leaf look.before whole' r.whole (first_there mid seen v finishes true look) look.did.sound (look.did.arm.0 refl) r.reserves) changes;
    }
      where
        q' : Pool R A
        q' = with_both rack area pool seen v

        l : Pool R A
        l = with_both rack area pool late v

        new : Pool R A
        new = with_both rack area pool b v

        whole' : IsWhole rack area q'
        whole' = seen_whole mid seen v finishes true look

        r : ReservedAll q' l (Ok tt)
        r = reserved_all q' (Ok tt) late whole' reserves

        changes : ChangedBelow (Switches rack leaf offline) (length late.shards.items) late.shards.items b.shards.items
        changes = subst (λ n. ChangedBelow (Switches rack leaf offline) n late.shards.items b.shards.items) (sym r.whole.many) (switched_upto leaf offline count 0 late b switches)

        set : SameOwn l new
        set = record { geometry = refl; uber = refl; objects = refl; seq = refl; floor = refl }

    switched_by : (mid b : Owned R A) (v : Uber A) → FinishesIn rack area left_by went_by false all count pool.metaslabs pool.uber (Some (Ok tt)) mid v → (result : Result Unit ArmFault)
        → SwitchesAll rack area left_by went_by false all count leaf offline mid result b → SwitchDone pool (with_both rack area pool b v) leaf offline result
    switched_by mid b v finishes (Ok done) (seen, late, look, reserves, switches) = switch mid seen late b v finishes look reserves switches
    switched_by mid b v finishes (Err why) (inl (look, is)) = subst (λ a. SwitchDone pool (with_both rack area pool b v) leaf offline (Err a)) (sym is) (refuse mid b v finishes look)
    switched_by mid b v finishes (Err why) (inr (seen, short, look, reserves, is)) = stop mid seen b v short why finishes look reserves is

    pub switch_all : (result : Result Unit ArmFault) (b : Owned R A) (v : Uber A) → SwitchesIn rack area left_by went_by false all count leaf offline pool.metaslabs pool.uber (Some result) b v
        → SwitchDone pool (with_both rack area pool b v) leaf offline result
    switch_all (Ok done) b v (mid, finishes, switches) = switched_by mid b v finishes (Ok done) switches
    switch_all (Err why) b v (inl (first, finishes, is_for)) =
        let new = with_both rack area pool b v in
        let f = finish_all rack area pool w (Err first) b v finishes in
        record {
          whole = f.whole;
          later = f.later;
          cause = λ is. f.cause (ap Err (shelf_first first why is_for (err_same why armed.Shelf is)));
          carries = λ x is. unfinished rack area (λ g p. arms.NoLeaf g p leaf) (λ g p. arms.Switches g p (switch_event leaf offline)) new x first why is_for (f.carries x is);
          arms_are = leaf_unfinished rack area leaf offline first why b.shards.items is_for;
        }
    switch_all (Err why) b v (inr (mid, finishes, switches)) = switched_by mid b v finishes (Err why) switches

    pub switch_waits : (b : Owned R A) (v : Uber A) → SwitchesIn rack area left_by went_by false all count leaf offline pool.metaslabs pool.uber None b v → ⊥
    switch_waits b v finishes = finish_waits rack area pool w b v finishes
