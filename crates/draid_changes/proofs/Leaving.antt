-- An arm leaves its slot in all metaslabs of a pool, and a sync comes.
use Rattle.std.proofs.Common.{◌≡◌, ◌<◌, ◌+◌, ◌++◌, ◌∙◌, ◌&&◌, ◌==◌, [], ◌∷◌, inl, inr, ◌⊎◌, ℕ, zero, suc, Bool, true, false, List, Some, Result, Ok, Err, arith, refl, sym, ap, subst, length, map, remove}
use Rattle.std.specs.Prelude.{slice_get}
use Rattle.std.specs.List.{list_any}
use Rattle.std.proofs.lemmas.Bool.{cases_eq}
use Rattle.std.proofs.lemmas.List.{length-map}
use Rattle.std.proofs.lemmas.Option.{slice_get_within}
use Rattle.draid_names.specs.declared.arm.Arm.{Arm}
use Rattle.draid_names.specs.declared.arm.ArmAt.{ArmAt}
use Rattle.draid_names.specs.declared.arm.ArmKind.{ArmKind}
use Rattle.draid_names.specs.declared.arm.ArmKind.TheVariants as kind
use Rattle.draid_names.specs.declared.refusal.SlotFault.{SlotFault}
use Rattle.draid_rack.specs.declared.Rack as racks
use Rattle.draid_area.specs.declared.Area as areas
use Rattle.draid_spec.specs.declared.layout.Geometry.{Geometry}
use Rattle.draid_perm.specs.declared.perms.Perms.{Perms}
use Rattle.draid_machine.specs.declared.event.Event.TheVariants.{Detach}
use Rattle.draid_machine.specs.declared.names.ArmName.{ArmName}
use Rattle.draid_machine.proofs.Small.{absurd_test, both_true, either_true, is_equal, true_left, true_right}
use Rattle.draid_slots.specs.Table.{SlotTable, arms_of, is_leaf_kind}
use Rattle.draid_slots.specs.declared.slot.Detached.{Detached}
use Rattle.draid_shard.specs.Fits.{AreGroups, IsLeaf}
use Rattle.draid_shard.specs.Part.{Part}
use Rattle.draid_shard.specs.declared.shard.Shard.{Shard}
use Rattle.draid_disks.specs.Disks.{HasDetached, IsNamed, plain, plain_arms}
use Rattle.draid_disks.proofs.Alike.{share_detached}
use Rattle.draid_uber.specs.Slots.{group_of}
use Rattle.draid_uber.specs.Uber.{kept_of, next_leaf_of}
use Rattle.draid_session.specs.Arms as arms
use Rattle.draid_session.specs.Groups as groups
use Rattle.draid_session.specs.Holds.{Hold, UberView, View}
use Rattle.draid_session.specs.Phases.{Chain, End, Went}
use Rattle.draid_session.specs.State.{State, Store}
use Rattle.draid_pool.specs.Carries.{CarriesOut}
use Rattle.draid_pool.specs.Failing.{AreasLater}
use Rattle.draid_pool.specs.Pools.{Represents, part_in}
use Rattle.draid_pool.specs.Syncing.{AreIdle, Phase, SyncDoes, end_of}
use Rattle.draid_pool.specs.Views.{seen_at}
use Rattle.draid_pool.specs.Whole.{IsWhole}
use Rattle.draid_pool.specs.declared.fault.SyncFault.{SyncFault}
use Rattle.draid_pool.specs.declared.fault.SyncFault.TheVariants as sync
use Rattle.draid_pool.specs.declared.fault.Synced.{Synced}
use Rattle.draid_pool.specs.declared.pool.Pool.{Pool}
use Rattle.draid_pool.proofs.Lists.{some_of}
use Rattle.draid_pool.proofs.Steps.{carries_so}
use Rattle.draid_pool.proofs.SyncCalls.{end_same, then_phase}
use Rattle.draid_pool.proofs.SyncSteps.{not_went}
use Rattle.draid_entries.specs.declared.history.ReserveFault.{ReserveFault}
use Rattle.draid_changes.specs.Detaching.{DetachDoes, Going, LeaveDoes, Leaves, MayGo, MayLeave}
use Rattle.draid_changes.specs.Walks.{ChangedBelow, Reserves, end_of_reserving}
use Rattle.draid_changes.specs.declared.detaching.DetachFault.{DetachFault}
use Rattle.draid_changes.specs.declared.detaching.DetachFault.TheVariants as fault
use Rattle.draid_changes.specs.declared.need.Need.TheVariants as needs
use Rattle.draid_changes.proofs.Begun.{ComesTo, Finished, PhaseIs, goes, uber_of}
use Rattle.draid_changes.proofs.Events.{areas_changed, events_done, unsealed}
use Rattle.draid_changes.proofs.Left.{leave_turns, left_shared}
use Rattle.draid_changes.proofs.Raised.{Any, IsGroup, Reserving, Syncing, not_last, not_through, sync_stops}
use Rattle.draid_changes.proofs.Staying.{was_at}
use Rattle.draid_changes.proofs.Forbids.{goes_still}
use Rattle.draid_changes.proofs.Walk.{changed_at}
use Rattle.draid_changes.proofs.Whole.{SameOwn, whole_changed}

-- ---- tables

mapped : (xs : List Arm) (k : ℕ) (p : Arm) → slice_get (map plain xs) k ≡ Some p → (a : Arm) × (slice_get xs k ≡ Some a) × (plain a ≡ p)
mapped [] k p is = absurd (cc)
mapped (x ∷ xs) zero p is = (x, refl, some_of (Some (plain x)) (plain x) p refl is)
mapped (x ∷ xs) (suc k) p is = mapped xs k p is

plains_at : (xs : List Arm) (k : ℕ) (a : Arm) → slice_get xs k ≡ Some a → slice_get (map plain xs) k ≡ Some (plain a)
plains_at [] k a is = absurd (cc)
plains_at (x ∷ xs) zero a is = ap (λ (b : Arm). Some (plain b)) (some_of (Some x) x a refl is)
plains_at (x ∷ xs) (suc k) a is = plains_at xs k a is

any_last : (p : Detached → Bool) (xs : List Detached) (y : Detached) → list_any p (xs ++ y ∷ []) ≡ true → (list_any p xs ≡ true) ⊎ (p y ≡ true)
any_last p [] y any = elim (either_true (p y) false any) [ inl here ↦ inr here | inr none ↦ absurd_test false none refl ]
any_last p (x ∷ xs) y any = elim (either_true (p x) (list_any p (xs ++ y ∷ [])) any) [
  | inl here ↦ inl (true_left (p x) (list_any p xs) here)
  | inr later ↦ elim (any_last p xs y later) [
    | inl among ↦ inl (true_right (p x) (list_any p xs) among)
    | inr last ↦ inr last
  ]
]

leaf_kind : (k : ArmKind) → is_leaf_kind k ≡ true → k ≡ kind.Leaf
leaf_kind kind.Leaf is = refl
leaf_kind kind.Spare is = absurd_test false is refl

-- a leaf that is an arm or is leaving behind it was an arm or was leaving
left_leaf : (old new : SlotTable) (at : ArmAt) (n : ArmName) (group : ℕ) → IsNamed old at n → HasDetached old new at group → (leaf : ℕ) → IsLeaf new leaf → IsLeaf old leaf
left_leaf old new at n group called d leaf (inl (p, arm, there, leaf_is, number)) = elim (cases_eq p.slot at.slot) [
  | inl here ↦
      let own : slice_get (remove (plain_arms old at.slot) at.arm) p.arm ≡ Some (plain arm)
      = ap (λ xs. slice_get xs p.arm) (sym d.here) ∙ subst (λ s. slice_get (plain_arms new s) p.arm ≡ Some (plain arm)) here plain_there in
      let within = slice_get_within (arms_of old at.slot) at.arm called.0 called.1 in
      let many = length-map (arms_of old at.slot) plain in
      let k = was_at (plain_arms old at.slot) at.arm p.arm (plain arm) own (omega (arith, within, many)) in
      found at.slot k.0 k.1
  | inr apart ↦ found p.slot p.arm (ap (λ xs. slice_get xs p.arm) (sym (d.others p.slot apart)) ∙ plain_there)
]
  where
    plain_there : slice_get (plain_arms new p.slot) p.arm ≡ Some (plain arm)
    plain_there = plains_at (arms_of new p.slot) p.arm arm there

    found : (slot k : ℕ) → slice_get (plain_arms old slot) k ≡ Some (plain arm) → IsLeaf old leaf
    found slot k is =
        let a = mapped (arms_of old slot) k (plain arm) is in
        inl (record { slot = slot; arm = k }, a.0, a.1, ap (λ (b : Arm). b.kind) a.2 ∙ leaf_is, ap (λ (b : Arm). b.number) a.2 ∙ number)
left_leaf old new at n group called d leaf (inr leaving) =
    let test = λ (gone : Detached). is_leaf_kind gone.kind && (gone.number == leaf) in
    let gone : Detached = record { kind = called.0.kind; number = called.0.number; slot = at.slot; group = group; offline = called.0.offline } in
    elim (any_last test old.detached gone (ap (list_any test) (sym (d.gone called.0 called.1)) ∙ leaving)) [
      | inl among ↦ inr among
      | inr last ↦
          let both = both_true (is_leaf_kind called.0.kind) (called.0.number == leaf) last in
          inl (at, called.0, called.1, leaf_kind called.0.kind both.0, is_equal called.0.number leaf both.1)
    ]

-- ---- phases

-- the arm goes, and what then comes is a sync of some group
abbrev Gone : (ℕ → ℕ → Type 0) → ℕ → ArmName → PhaseIs
Gone Is slot n g p holds end = (group : ℕ) × (thin : ℕ) × Is group thin × Going g p slot n group thin holds end

gathered : (Is : ℕ → ℕ → Type 0) (some : (group : ℕ) × (thin : ℕ) × Is group thin) (g : Geometry) (p : Perms) (slot : ℕ) (n : ArmName) (holds : List Hold) (end : End)
    → Chain (Reserving g p) (Chain (arms.EventPhase g p (Detach slot n)) (Syncing Is g p)) holds end → Gone Is slot n g p holds end
gathered Is some g p slot n holds end (inr (stopped, reserved)) = (some.0, some.1, some.2, inr (stopped, reserved))
gathered Is some g p slot n holds end (inl (front, back, are, reserved, inr (stopped, came))) = (some.0, some.1, some.2, inl (front, back, are, reserved, inr (stopped, came)))
gathered Is some g p slot n holds end (inl (front, back, are, reserved, inl (events, rest, apart, came, synced))) =
    (synced.0, synced.1, synced.2, inl (front, back, are, reserved, inl (events, rest, apart, came, synced.3)))

module _ {R A : Type 0} (rack : racks.Ghosts R) (area : areas.Ghosts A) where
  -- ---- all metaslabs

  pub may_leave : (mid late : Pool R A) (at : ArmAt) (n : ArmName) → IsWhole rack area late → AreIdle late.metaslabs.shards.items
      → ((m : ℕ) (shard : Shard R A) → slice_get mid.metaslabs.shards.items m ≡ Some shard → MayGo at n shard)
      → ChangedBelow (Reserves needs.Event) (length mid.metaslabs.shards.items) mid.metaslabs.shards.items late.metaslabs.shards.items → (m : ℕ) (z : Shard R A) → slice_get late.metaslabs.shards.items m ≡ Some z → MayLeave rack at n z
  may_leave mid late at n w idle may c m z there =
      let was = changed_at (Reserves needs.Event) mid.metaslabs.shards.items late.metaslabs.shards.items c m z there in
      record { valid = (w.shards m z there).valid; reserved = was.2.reserved; room = record { slots = was.2.room.slots; targets = was.2.room.targets }; idle = idle m z there; may = goes_still at n was.0 z was.2 (may m was.0 was.1) }

  module _ (at : ArmAt) (n : ArmName) (late new : Pool R A)
      (changes : ChangedBelow (Leaves rack at n) (length late.metaslabs.shards.items) late.metaslabs.shards.items new.metaslabs.shards.items) (set : SameOwn late new) where
    pub leaves_done : (x : State) → Represents rack area late x → AreIdle late.metaslabs.shards.items → CarriesOut rack area new x (Phase x (arms.EventPhase x.geometry x.perms (Detach at.slot n)) Went)
    leaves_done x r idle =
        events_done rack area (Leaves rack at n) late new changes set (Detach at.slot n) x r (left_shared r.stands.shared at.slot n)
        (record { kept = r.stands.versions.kept; now = r.stands.versions.now })
        (λ m pieces shard z y there is s alike. leave_turns rack area x r.stands.shared at n shard z s (part_in x m) pieces y is (unsealed rack area (part_in x m) pieces shard y is (idle m shard there)) alike)

    pub areas_left : AreasLater area.faults late new
    areas_left = areas_changed rack area (Leaves rack at n) late new changes set (λ old now s. s.kit.areas)

    pub left_whole : IsWhole rack area late → ((m : ℕ) (shard : Shard R A) → slice_get late.metaslabs.shards.items m ≡ Some shard → MayLeave rack at n shard) → IsWhole rack area new
    left_whole w ready =
        whole_changed rack area (Leaves rack at n) late new w changes set
        (λ old now s. record { valid = s.valid; part = s.does.part; entries = s.keeps.entries; committed = s.keeps.groups.committed; opens = (let same = s.keeps.groups.open_group_is in omega (arith, same)) })
        (λ k now there leaf own.
        (let was = changed_at (Leaves rack at n) late.metaslabs.shards.items new.metaslabs.shards.items changes k now there in
        subst (λ u. leaf < next_leaf_of u) (sym set.uber)
        ((w.shards k was.0 was.1).leaves leaf (left_leaf was.0.slots now.slots at n was.0.open_group (ready k was.0 was.1).may.there was.2.slots leaf own))))
        (λ m k a b here there.
        (let p = changed_at (Leaves rack at n) late.metaslabs.shards.items new.metaslabs.shards.items changes m a here in
        let q = changed_at (Leaves rack at n) late.metaslabs.shards.items new.metaslabs.shards.items changes k b there in
        let x = (ready m p.0 p.1).may.there in
        let y = (ready k q.0 q.1).may.there in
        share_detached p.0.slots q.0.slots a.slots b.slots at p.0.open_group x.0 y.0 (same_layout m p.0 a p.1 p.2) (same_layout k q.0 b q.1 q.2) (ready m p.0 p.1).may.low x.1 y.1 (w.alike m k p.0 q.0 p.1 q.1) p.2.slots
        (subst (HasDetached q.0.slots b.slots at) (one_group k m q.0 p.0 q.1 p.1) q.2.slots)))
      where
        same_layout : (m : ℕ) (old now : Shard R A) → slice_get late.metaslabs.shards.items m ≡ Some old → Leaves rack at n old now → now.slots.geometry ≡ old.slots.geometry
        same_layout m old now there s = s.valid.slots.geometry_is ∙ (ap (λ (p : Part). p.geometry) s.does.part ∙ sym (w.shards m old there).valid.slots.geometry_is)

        group_is : (m : ℕ) (shard : Shard R A) → slice_get late.metaslabs.shards.items m ≡ Some shard → shard.open_group ≡ group_of (kept_of late.uber) + 1
        group_is m shard there =
            let is = w.shards m shard there in
            let groups : (shard.open_group ≡ shard.committed + 1) × (shard.sealed ≡ false) = subst (λ o. AreGroups shard.open_group o shard.committed shard.sealed) (ready m shard there).idle is.valid.groups in
            groups.0 ∙ ap (λ g. g + 1) is.committed

        one_group : (m k : ℕ) (a b : Shard R A) → slice_get late.metaslabs.shards.items m ≡ Some a → slice_get late.metaslabs.shards.items k ≡ Some b → a.open_group ≡ b.open_group
        one_group m k a b here there = group_is m a here ∙ sym (group_is k b there)

  -- ---- behind the look

  module _ (late mid new : Pool R A) (x : State) (slot : ℕ) (n : ArmName) (reserved : CarriesOut rack area late x (Phase x (Reserving x.geometry x.perms) Went))
      (left : (y : State) → Represents rack area late y → CarriesOut rack area mid y (Phase y (arms.EventPhase y.geometry y.perms (Detach slot n)) Went)) where
    goes_away : (Is : ℕ → ℕ → Type 0) (some : (group : ℕ) × (thin : ℕ) × Is group thin) (end : End)
        → ((z : State) → Represents rack area mid z → CarriesOut rack area new z (Phase z (Syncing Is z.geometry z.perms) end)) → CarriesOut rack area new x (Phase x (Gone Is slot n x.geometry x.perms) end)
    goes_away Is some end synced =
        carries_so rack area new x (Phase x (Chain (Reserving x.geometry x.perms) (Chain (arms.EventPhase x.geometry x.perms (Detach slot n)) (Syncing Is x.geometry x.perms))) end) (Phase x (Gone Is slot n x.geometry x.perms) end)
        (then_phase rack area late new x Reserving (λ g p. Chain (arms.EventPhase g p (Detach slot n)) (Syncing Is g p)) end reserved
        (λ y r. then_phase rack area mid new y (λ g p. arms.EventPhase g p (Detach slot n)) (Syncing Is) end (left y r) synced))
        (λ holds store done. (done.0, gathered Is some x.geometry x.perms slot n holds end done.1))

    pub leave_done : (it : Synced) → ((z : State) → Represents rack area mid z → CarriesOut rack area new z (SyncDoes z (Ok it))) → CarriesOut rack area new x (LeaveDoes x slot n (Ok it.group))
    leave_done it synced =
        carries_so rack area new x (Phase x (Gone (IsGroup it.group) slot n x.geometry x.perms) Went) (LeaveDoes x slot n (Ok it.group))
        (goes_away (IsGroup it.group) (it.group, it.thin, refl) Went (λ z r. carries_so rack area new z (SyncDoes z (Ok it)) (Phase z (Syncing (IsGroup it.group) z.geometry z.perms) Went) (synced z r)
        (λ holds store done. (done.0, (it.group, it.thin, refl, done.1)))))
        (λ holds store done. (done.0, (done.1.1, subst (λ t. Going x.geometry x.perms slot n t done.1.1 holds Went) done.1.2 done.1.3)))

    pub leave_stopped : (why : SyncFault) → ((z : State) → Represents rack area mid z → CarriesOut rack area new z (SyncDoes z (Err why))) → CarriesOut rack area new x (LeaveDoes x slot n (Err why))
    leave_stopped why synced =
        carries_so rack area new x (Phase x (Gone Any slot n x.geometry x.perms) (end_of {T = ℕ} (Err why))) (LeaveDoes x slot n (Err why))
        (goes_away Any (0, 0, 0) (end_of {T = ℕ} (Err why)) (λ z r. carries_so rack area new z (SyncDoes z (Err why)) (Phase z (Syncing Any z.geometry z.perms) (end_of {T = ℕ} (Err why))) (synced z r)
        (λ holds store done. (let s = sync_stops z why holds store done in (s.0, (s.1.group, s.1.thin, 0, s.1.syncs))))))
        (λ holds store done. (done.0, (done.1.0, done.1.1, done.1.3)))

  -- events couldn't be reserved
  pub leave_refused : (new : Pool R A) (x : State) (slot : ℕ) (n : ArmName) (first : ReserveFault) (why : SyncFault) → end_of {T = ℕ} (Err why) ≡ end_of_reserving (Err first)
      → CarriesOut rack area new x (Phase x (Reserving x.geometry x.perms) (end_of_reserving (Err first))) → CarriesOut rack area new x (LeaveDoes x slot n (Err why))
  leave_refused new x slot n first why same c =
      carries_so rack area new x (Phase x (Reserving x.geometry x.perms) (end_of_reserving (Err first))) (LeaveDoes x slot n (Err why)) c
      (λ holds store done. (done.0, (0, 0, subst (Going x.geometry x.perms slot n 0 0 holds) (sym same) (inr (not_through first, done.1)))))

  -- ---- the detachment

  -- a closing group couldn't be committed first
  pub detach_unfinished : (mid : Pool R A) (x : State) (n : ArmName) (why : SyncFault) → (why ≡ sync.Last → ⊥) → CarriesOut rack area mid x (Phase x (groups.Finishes x.geometry x.perms) (end_of {T = Unit} (Err why)))
      → CarriesOut rack area mid x (DetachDoes x n (Err (fault.Sync why)))
  detach_unfinished mid x n why none c =
      carries_so rack area mid x (Phase x (groups.Finishes x.geometry x.perms) (end_of {T = Unit} (Err why))) (DetachDoes x n (Err (fault.Sync why))) c
      (λ holds store done. (done.0, (0, subst (arms.LosesArm x.geometry x.perms n 0 holds) (end_same why) (inr (not_went Unit why, not_last why none, done.1)))))

  module _ (mid new : Pool R A) (x : State) (n : ArmName) (at : ArmAt) (c : Finished rack area mid x)
      (stands : (y : State) → Represents rack area mid y → arms.StandsIn y.geometry y.perms n at.slot (seen_at 0 y.metaslabs))
      (none : (y : State) (u : UberView) (why : SlotFault) → Represents rack area mid y → arms.BreaksDetach y.geometry y.perms n (seen_at 0 y.metaslabs) u why → ⊥) where
    -- it leaves for some group
    abbrev Departs : (ℕ → Type 0) → Geometry → Perms → List View → UberView → List Hold → End → Type 0
    Departs Is g p views u holds end = (group : ℕ) × Is group × arms.Leaves g p n group views holds end

    departs : (Is : ℕ → Type 0) (some : (group : ℕ) × Is group) (end : End) (does : State → List Hold → Store → Type 0)
        → ((y : State) (holds : List Hold) (store : Store) → does y holds store → (store ≡ y.store) × ((group : ℕ) × (thin : ℕ) × Is group × Going y.geometry y.perms at.slot n group thin holds end))
        → ((y : State) → Represents rack area mid y → CarriesOut rack area new y (does y))
        → CarriesOut rack area new x (λ holds store. (store ≡ x.store) × ((group : ℕ) × Is group × arms.LosesArm x.geometry x.perms n group holds end))
    departs Is some end does so next =
        carries_so rack area new x (λ holds store. (store ≡ x.store) × ComesTo rack area (λ g p. arms.BreaksDetach g p n) (Departs Is) x end holds)
        (λ holds store. (store ≡ x.store) × ((group : ℕ) × Is group × arms.LosesArm x.geometry x.perms n group holds end))
        (goes rack area (λ g p. arms.BreaksDetach g p n) (Departs Is) mid new x end c (λ y r why broken. none y (uber_of y) why r broken)
        (λ y r. carries_so rack area new y (does y) (Phase y (Departs Is y.geometry y.perms (seen_at 0 y.metaslabs) (uber_of y)) end) (next y r)
        (λ holds store done. (let d = so y holds store done in (d.0, (d.1.0, d.1.2, record { slot = at.slot; thin = d.1.1; stands = stands y r; goes = d.1.3 }))))))
        (λ holds store done. (
          done.0,
          elim done.1 [
            | inl g ↦ (g.does.0, g.does.1, inl (record { views = g.views; u = g.u; rest = g.rest; begins = g.begins; none = g.none; does = g.does.2 }))
            | inr f ↦ (some.0, some.1, inr f)
          ],
        ))

    pub detach_done : (group : ℕ) → ((y : State) → Represents rack area mid y → CarriesOut rack area new y (LeaveDoes y at.slot n (Ok group))) → CarriesOut rack area new x (DetachDoes x n (Ok group))
    detach_done group next =
        carries_so rack area new x (λ holds store. (store ≡ x.store) × ((t : ℕ) × (t ≡ group) × arms.LosesArm x.geometry x.perms n t holds Went)) (DetachDoes x n (Ok group))
        (departs (λ t. t ≡ group) (group, refl) Went (λ y. LeaveDoes y at.slot n (Ok group)) (λ y holds store done. (done.0, (group, done.1.0, refl, done.1.1))) next)
        (λ holds store done. (done.0, subst (λ t. arms.LosesArm x.geometry x.perms n t holds Went) done.1.1 done.1.2))

    pub detach_stopped : (why : SyncFault) → ((y : State) → Represents rack area mid y → CarriesOut rack area new y (LeaveDoes y at.slot n (Err why))) → CarriesOut rack area new x (DetachDoes x n (Err (fault.Sync why)))
    detach_stopped why next =
        carries_so rack area new x (λ holds store. (store ≡ x.store) × ((t : ℕ) × ℕ × arms.LosesArm x.geometry x.perms n t holds (end_of {T = ℕ} (Err why)))) (DetachDoes x n (Err (fault.Sync why)))
        (departs (λ t. ℕ) (0, 0) (end_of {T = ℕ} (Err why)) (λ y. LeaveDoes y at.slot n (Err why)) (λ y holds store done. (done.0, (done.1.0, done.1.1, 0, done.1.2))) next)
        (λ holds store done. (done.0, (done.1.0, done.1.2)))

  -- by what an arm's name is
  pub carries_as : (new : Pool R A) (x : State) (n m : ArmName) (answer : Result ℕ DetachFault) → n ≡ m → CarriesOut rack area new x (DetachDoes x n answer) → CarriesOut rack area new x (DetachDoes x m answer)
  carries_as new x n m answer same c = subst (λ k. CarriesOut rack area new x (DetachDoes x k answer)) same c
