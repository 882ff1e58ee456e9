-- The other arms of a slot go from it in all metaslabs of a pool, one after another.
use Rattle.std.proofs.Common.{◌≡◌, ◌≢◌, ◌<◌, ◌+◌, ◌++◌, ◌∙◌, [], ◌∷◌, inl, inr, ℕ, List, Some, Ok, Err, arith, refl, sym, ap, subst, length, append_assoc}
use Rattle.std.specs.Prelude.{IsErrOf, slice_get}
use Rattle.draid_names.specs.declared.arm.Arm.{Arm}
use Rattle.draid_rack.specs.declared.Rack as racks
use Rattle.draid_area.specs.declared.Area as areas
use Rattle.draid_spec.specs.declared.layout.Geometry.{Geometry}
use Rattle.draid_perm.specs.declared.perms.Perms.{Perms}
use Rattle.draid_machine.specs.declared.event.Event.TheVariants.{Detach}
use Rattle.draid_machine.specs.declared.names.ArmName.{ArmName}
use Rattle.draid_machine.proofs.Small.{some_same}
use Rattle.draid_slots.specs.States.{name_of}
use Rattle.draid_slots.specs.Table.{arms_of}
use Rattle.draid_entries.specs.declared.history.ReserveFault.{ReserveFault}
use Rattle.draid_shard.specs.declared.shard.Shard.{Shard}
use Rattle.draid_disks.specs.Disks.{IsNamed}
use Rattle.draid_session.specs.Arms as arms
use Rattle.draid_session.specs.Balance as balance
use Rattle.draid_session.specs.Follows.{Follows}
use Rattle.draid_session.specs.Holds.{Hold}
use Rattle.draid_session.specs.Phases.{Chain, End, Went}
use Rattle.draid_session.specs.State.{State}
use Rattle.draid_pool.specs.Carries.{CarriesOut}
use Rattle.draid_pool.specs.Pools.{Represents}
use Rattle.draid_pool.specs.Syncing.{AreIdle, Phase, SyncDoes, end_of}
use Rattle.draid_pool.specs.Whole.{IsWhole}
use Rattle.draid_pool.specs.declared.fault.SyncFault.{SyncFault}
use Rattle.draid_pool.specs.declared.fault.SyncFault.TheVariants as sync
use Rattle.draid_pool.specs.declared.fault.Synced.{Synced}
use Rattle.draid_pool.specs.declared.pool.Pool.{Pool}
use Rattle.draid_pool.proofs.Steps.{carried, carries_so, follows_on, own_of, same_layout, settled}
use Rattle.draid_pool.proofs.SyncCalls.{end_same, then_phase}
use Rattle.draid_pool.proofs.SyncSteps.{not_went}
use Rattle.draid_changes.specs.Balancing.{AllMayLose, GoDoes, HasNoPass, OneGoes, SomeGo}
use Rattle.draid_changes.specs.Detaching.{Leaves, MayGo, MayLeave}
use Rattle.draid_changes.specs.Walks.{ChangedBelow, Reserves, end_of_reserving}
use Rattle.draid_changes.specs.declared.need.Need.TheVariants as needs
use Rattle.draid_changes.proofs.Events.{idle_reserved}
use Rattle.draid_changes.proofs.Leaving.{leaves_done, may_leave}
use Rattle.draid_changes.proofs.Others.{as_many, first_named, lose_left, lose_reserved, may_go}
use Rattle.draid_changes.proofs.Raised.{Any, IsGroup, Reserving, Syncing, not_through, sync_stops}
use Rattle.draid_changes.proofs.Walk.{changed_at}
use Rattle.draid_changes.proofs.Whole.{SameOwn}

-- ---- phases

module _ (g : Geometry) (p : Perms) (slot : ℕ) (n : ArmName) (others : List ArmName) where
  abbrev going : List Hold → End → Type 0
  going = arms.EventPhase g p (Detach slot n)

  -- the first of some goes, and then the others
  first_then : (front rest : List Hold) (end : End) → OneGoes g p slot n front Went → balance.GoAll g p slot others rest end → balance.GoAll g p slot (n ∷ others) (front ++ rest) end
  first_then front rest end (inr (stopped, reserved)) goes = absurd (stopped refl)
  first_then front rest end (inl (looks, events, are, reserved, went)) goes =
      inl (looks, events ++ rest, ap (λ hs. hs ++ rest) are ∙ append_assoc looks events rest, reserved, inl (events, rest, refl, went, goes))

  -- it is stopped
  first_stops : (holds : List Hold) (end : End) → end ≢ Went → OneGoes g p slot n holds end → balance.GoAll g p slot (n ∷ others) holds end
  first_stops holds end other (inr stopped) = inr stopped
  first_stops holds end other (inl (looks, events, are, reserved, went)) = inl (looks, events, are, reserved, inr (other, went))

-- they go, and what then comes is a sync of some group
abbrev Away : (ℕ → ℕ → Type 0) → Geometry → Perms → ℕ → List ArmName → List Hold → End → Type 0
Away Is g p slot others holds end = (group : ℕ) × (thin : ℕ) × Is group thin × balance.Goes g p slot others group thin holds end

gathered : (Is : ℕ → ℕ → Type 0) (some : (group : ℕ) × (thin : ℕ) × Is group thin) (g : Geometry) (p : Perms) (slot : ℕ) (others : List ArmName) (holds : List Hold) (end : End)
    → Chain (balance.GoAll g p slot others) (Syncing Is g p) holds end → Away Is g p slot others holds end
gathered Is some g p slot others holds end (inr (stopped, gone)) = (some.0, some.1, some.2, inr (stopped, gone))
gathered Is some g p slot others holds end (inl (front, back, are, gone, synced)) = (synced.0, synced.1, synced.2, inl (front, back, are, gone, synced.3))

pub unit_err : (why : SyncFault) → IsErrOf {T = Unit} (Err why) sync.Shelf → why ≡ sync.Shelf
unit_err why is = cc

-- ---- one arm

module _ {R A : Type 0} (rack : racks.Ghosts R) (area : areas.Ghosts A) (slot : ℕ) where
  -- what was reserved changes nothing of what may go
  pub all_reserved : (others : List ArmName) (last : ArmName) (old late : Pool R A) → ChangedBelow (Reserves needs.Event) (length old.metaslabs.shards.items) old.metaslabs.shards.items late.metaslabs.shards.items
      → AllMayLose slot others last old → AllMayLose slot others last late
  all_reserved others last old late c all m z there =
      let was = changed_at (Reserves needs.Event) old.metaslabs.shards.items late.metaslabs.shards.items c m z there in
      lose_reserved rack slot others last was.0 z was.2 (all m was.0 was.1)

  -- the first has gone
  pub all_lost : (n : ArmName) (others : List ArmName) (last : ArmName) (late mid : Pool R A) → IsWhole rack area late
      → ChangedBelow (Leaves rack (record { slot = slot; arm = 0 }) n) (length late.metaslabs.shards.items) late.metaslabs.shards.items mid.metaslabs.shards.items
      → AllMayLose slot (n ∷ others) last late → AllMayLose slot others last mid
  all_lost n others last late mid w c all m z there =
      let was = changed_at (Leaves rack (record { slot = slot; arm = 0 }) n) late.metaslabs.shards.items mid.metaslabs.shards.items c m z there in
      lose_left rack slot n others last was.0 z (w.shards m was.0 was.1).valid was.2 (all m was.0 was.1)

  -- the arm that stands first is the first of them
  pub name_is : (n : ArmName) (others : List ArmName) (last arm : ArmName) (pool : Pool R A) (first : Shard R A) → slice_get pool.metaslabs.shards.items 0 ≡ Some first → AllMayLose slot (n ∷ others) last pool
      → IsNamed first.slots (record { slot = slot; arm = 0 }) arm → n ≡ arm
  name_is n others last arm pool first start all called =
      let xs = arms_of first.slots slot in
      let f = first_named xs n (others ++ last ∷ []) (all 0 first start).names in
      sym f.2 ∙ (ap (λ a. name_of a) (some_same (slice_get xs 0) f.0 called.0 f.1 called.1) ∙ called.2)

  -- one goes, for which events are reserved
  one_goes : (n arm : ArmName) (late mid : Pool R A) (x : State) → n ≡ arm → CarriesOut rack area late x (Phase x (Reserving x.geometry x.perms) Went)
      → ChangedBelow (Leaves rack (record { slot = slot; arm = 0 }) arm) (length late.metaslabs.shards.items) late.metaslabs.shards.items mid.metaslabs.shards.items → SameOwn late mid
      → AreIdle late.metaslabs.shards.items → CarriesOut rack area mid x (Phase x (OneGoes x.geometry x.perms slot n) Went)
  one_goes n arm late mid x same reserved leaves set idle =
      subst (λ k. CarriesOut rack area mid x (Phase x (OneGoes x.geometry x.perms slot k) Went)) (sym same)
      (then_phase rack area late mid x Reserving (λ g p. arms.EventPhase g p (Detach slot arm)) Went reserved
      (λ y r. leaves_done rack area (record { slot = slot; arm = 0 }) arm late mid leaves set y r idle))

  -- as many arms as there are names
  pub counted : (others : List ArmName) (last : ArmName) (pool : Pool R A) (first : Shard R A) (xs : List Arm) → slice_get pool.metaslabs.shards.items 0 ≡ Some first → AllMayLose slot others last pool
      → xs ≡ arms_of first.slots slot → length xs ≡ length others + 1
  counted others last pool first xs start all same = ap length same ∙ as_many (arms_of first.slots slot) others last (all 0 first start).names

  -- what the going of the arm that stands first needs, and leaves
  module _ (old late mid : Pool R A) (arm : ArmName) (first : Shard R A) (start : slice_get late.metaslabs.shards.items 0 ≡ Some first) (w : IsWhole rack area late)
      (reserves : ChangedBelow (Reserves needs.Event) (length old.metaslabs.shards.items) old.metaslabs.shards.items late.metaslabs.shards.items) (called : IsNamed first.slots (record { slot = slot; arm = 0 }) arm) where
    first_name : (n : ArmName) (others : List ArmName) (last : ArmName) → AllMayLose slot (n ∷ others) last old → n ≡ arm
    first_name n others last all = name_is n others last arm late first start (all_reserved (n ∷ others) last old late reserves all) called

    pub all_may_leave : AreIdle old.metaslabs.shards.items → SomeGo slot old → (m : ℕ) (z : Shard R A) → slice_get late.metaslabs.shards.items m ≡ Some z → MayLeave rack (record { slot = slot; arm = 0 }) arm z
    all_may_leave idle (n, others, last, all) =
        may_leave rack area old late (record { slot = slot; arm = 0 }) arm w (idle_reserved rack area needs.Event old late idle reserves)
        (λ m shard there. subst (λ k. MayGo (record { slot = slot; arm = 0 }) k shard) (first_name n others last all) (may_go rack slot n others last shard (all m shard there))) reserves

    module _ (leaves : ChangedBelow (Leaves rack (record { slot = slot; arm = 0 }) arm) (length late.metaslabs.shards.items) late.metaslabs.shards.items mid.metaslabs.shards.items) where
      pub left_passes : HasNoPass late → HasNoPass mid
      left_passes none m z there =
          let was = changed_at (Leaves rack (record { slot = slot; arm = 0 }) arm) late.metaslabs.shards.items mid.metaslabs.shards.items leaves m z there in
          was.2.pass ∙ none m was.0 was.1

      pub left_idle : AreIdle old.metaslabs.shards.items → AreIdle mid.metaslabs.shards.items
      left_idle idle m z there =
          let was = changed_at (Leaves rack (record { slot = slot; arm = 0 }) arm) late.metaslabs.shards.items mid.metaslabs.shards.items leaves m z there in
          was.2.keeps.groups.closing ∙ idle_reserved rack area needs.Event old late idle reserves m was.0 was.1

      pub left_ready : (n : ArmName) (others : List ArmName) (last : ArmName) → AllMayLose slot (n ∷ others) last old → AllMayLose slot others last mid
      left_ready n others last all =
          all_lost n others last late mid w
          (subst (λ k. ChangedBelow (Leaves rack (record { slot = slot; arm = 0 }) k) (length late.metaslabs.shards.items) late.metaslabs.shards.items mid.metaslabs.shards.items) (sym (first_name n others last all)) leaves)
          (all_reserved (n ∷ others) last old late reserves all)

      -- it goes
      pub first_goes : SameOwn late mid → AreIdle old.metaslabs.shards.items → (x : State) (n : ArmName) (others : List ArmName) (last : ArmName) → AllMayLose slot (n ∷ others) last old
          → CarriesOut rack area late x (Phase x (Reserving x.geometry x.perms) Went) → CarriesOut rack area mid x (Phase x (OneGoes x.geometry x.perms slot n) Went)
      first_goes set idle x n others last all reserved =
          one_goes n arm late mid x (first_name n others last all) reserved leaves set (idle_reserved rack area needs.Event old late idle reserves)

  -- events couldn't be reserved
  pub first_stays : (n : ArmName) (late : Pool R A) (x : State) (first : ReserveFault) (why : SyncFault) → end_of {T = ℕ} (Err why) ≡ end_of_reserving (Err first)
      → CarriesOut rack area late x (Phase x (Reserving x.geometry x.perms) (end_of_reserving (Err first))) → CarriesOut rack area late x (Phase x (OneGoes x.geometry x.perms slot n) (end_of {T = Unit} (Err why)))
  first_stays n late x first why same c =
      carries_so rack area late x (Phase x (Reserving x.geometry x.perms) (end_of_reserving (Err first))) (Phase x (OneGoes x.geometry x.perms slot n) (end_of {T = Unit} (Err why))) c
      (λ holds store done. (done.0, subst (λ e. OneGoes x.geometry x.perms slot n holds e) (sym (end_same why ∙ same)) (inr (not_through first, done.1))))

  -- ---- one after another

  -- Some have gone, and with any holds in which the others go it is the whole.
  pub record Leads (others names : List ArmName) (new : Pool R A) (x : State) : Type 0 where
    pub holds : List Hold
    pub reached : State
    pub follows : Follows holds x reached
    pub leads : (rest : List Hold) (end : End) → balance.GoAll x.geometry x.perms slot names rest end → balance.GoAll x.geometry x.perms slot others (holds ++ rest) end
    pub represents : Represents rack area new reached

  -- so many of the others are still to go; those that went are counted from one on
  pub record Undone (others : List ArmName) (last : ArmName) (old now : Pool R A) (k : ℕ) : Type 0 where
    pub names : List ArmName
    pub many : length names + k ≡ length others + 1
    pub may : AllMayLose slot names last now
    pub leads : (x : State) → Represents rack area old x → Leads others names now x

  pub undone_none : (others : List ArmName) (last : ArmName) (old : Pool R A) → AllMayLose slot others last old → Undone others last old old 1
  undone_none others last old may = record {
    names = others;
    many = refl;
    may = may;
    leads = λ x r. record { holds = []; reached = x; follows = refl; leads = λ rest end is. is; represents = r };
  }

  -- what a call that takes the first away says
  abbrev pub TakesFirst : Pool R A → Pool R A → End → Type 0
  TakesFirst now new end = (y : State) (n : ArmName) (ns : List ArmName) (l : ArmName) → Represents rack area now y → AllMayLose slot (n ∷ ns) l now
      → CarriesOut rack area new y (Phase y (OneGoes y.geometry y.perms slot n) end)

  module _ (others : List ArmName) (last : ArmName) (old now new : Pool R A) (k : ℕ) where
    -- the first of those that are left has gone
    step : (n : ArmName) (ns : List ArmName) → AllMayLose slot (n ∷ ns) last now → TakesFirst now new Went → (x : State) → Leads others (n ∷ ns) now x → Leads others ns new x
    step n ns may takes x l =
        let y = l.reached in
        let c = takes y n ns last l.represents may in
        let said : OneGoes x.geometry x.perms slot n c.holds Went = own_of x y (λ g p store. OneGoes g p slot n c.holds Went) (same_layout l.holds x y l.follows) c.done.1 in
        record {
          holds = l.holds ++ c.holds;
          reached = c.reached;
          follows = follows_on l.holds c.holds x y c.reached l.follows c.follows;
          leads = λ rest end goes.
              subst (λ hs. balance.GoAll x.geometry x.perms slot others hs end) (sym (append_assoc l.holds c.holds rest)) (l.leads (c.holds ++ rest) end (first_then x.geometry x.perms slot n ns c.holds rest end said goes));
          represents = settled rack area new y (Phase y (OneGoes y.geometry y.perms slot n) Went) c c.done.0;
        }

    pub undone_more : Undone others last old now k → k < length others + 1 → TakesFirst now new Went
        → ((n : ArmName) (ns : List ArmName) (l : ArmName) → AllMayLose slot (n ∷ ns) l now → AllMayLose slot ns l new) → Undone others last old new (k + 1)
    undone_more u less takes loses = by u.names u.many u.may u.leads
      where
        by : (names : List ArmName) → length names + k ≡ length others + 1 → AllMayLose slot names last now → ((x : State) → Represents rack area old x → Leads others names now x) → Undone others last old new (k + 1)
        by [] many may leads = absurd (omega (arith, many, less))
        by (n ∷ ns) many may leads = record { names = ns; many = omega (arith, many); may = loses n ns last may; leads = λ x r. step n ns may takes x (leads x r) }

    -- one of them goes
    pub some_go : Undone others last old now k → k < length others + 1 → SomeGo slot now
    some_go u less = by u.names u.many u.may
      where
        by : (names : List ArmName) → length names + k ≡ length others + 1 → AllMayLose slot names last now → SomeGo slot now
        by [] many may = absurd (omega (arith, many, less))
        by (n ∷ ns) many may = (n, ns, last, may)

    -- that of the first of those that are left was stopped
    pub undone_stops : Undone others last old now k → k < length others + 1 → (end : End) → end ≢ Went → TakesFirst now new end → (x : State) → Represents rack area old x
        → CarriesOut rack area new x (Phase x (balance.GoAll x.geometry x.perms slot others) end)
    undone_stops u less end other takes x r = by u.names u.many u.may (u.leads x r)
      where
        by : (names : List ArmName) → length names + k ≡ length others + 1 → AllMayLose slot names last now → Leads others names now x → CarriesOut rack area new x (Phase x (balance.GoAll x.geometry x.perms slot others) end)
        by [] many may l = absurd (omega (arith, many, less))
        by (n ∷ ns) many may l =
            let y = l.reached in
            let c = takes y n ns last l.represents may in
            let said : OneGoes x.geometry x.perms slot n c.holds end = own_of x y (λ g p store. OneGoes g p slot n c.holds end) (same_layout l.holds x y l.follows) c.done.1 in
            carried rack area new x (l.holds ++ c.holds) c.reached (Phase x (balance.GoAll x.geometry x.perms slot others) end) (follows_on l.holds c.holds x y c.reached l.follows c.follows)
            (settled rack area new y (Phase y (OneGoes y.geometry y.perms slot n) end) c c.done.0) (refl, l.leads c.holds end (first_stops x.geometry x.perms slot n ns c.holds end other said))

    -- all have gone
    pub undone_all : Undone others last old now k → k ≡ length others + 1 → (x : State) → Represents rack area old x → CarriesOut rack area now x (Phase x (balance.GoAll x.geometry x.perms slot others) Went)
    undone_all u all x r = by u.names u.many (u.leads x r)
      where
        by : (names : List ArmName) → length names + k ≡ length others + 1 → Leads others names now x → CarriesOut rack area now x (Phase x (balance.GoAll x.geometry x.perms slot others) Went)
        by (n ∷ ns) many l = absurd (omega (arith, many, all))
        by [] many l =
            carried rack area now x (l.holds ++ []) l.reached (Phase x (balance.GoAll x.geometry x.perms slot others) Went) (follows_on l.holds [] x l.reached l.reached l.follows refl) l.represents
            (refl, l.leads [] Went (refl, refl))

    pub last_left : Undone others last old now k → k ≡ length others + 1 → AllMayLose slot [] last now
    last_left u all = by u.names u.many u.may
      where
        by : (names : List ArmName) → length names + k ≡ length others + 1 → AllMayLose slot names last now → AllMayLose slot [] last now
        by (n ∷ ns) many may = absurd (omega (arith, many, all))
        by [] many may = may

  -- ---- and a sync

  module _ (others : List ArmName) (mid new : Pool R A) (x : State) where
    abbrev Gone : End → Type 0
    Gone end = CarriesOut rack area mid x (Phase x (balance.GoAll x.geometry x.perms slot others) end)

    goes_away : (Is : ℕ → ℕ → Type 0) (some : (group : ℕ) × (thin : ℕ) × Is group thin) (end : End) → Gone Went
        → ((z : State) → Represents rack area mid z → CarriesOut rack area new z (Phase z (Syncing Is z.geometry z.perms) end)) → CarriesOut rack area new x (Phase x (Away Is x.geometry x.perms slot others) end)
    goes_away Is some end gone synced =
        carries_so rack area new x (Phase x (Chain (balance.GoAll x.geometry x.perms slot others) (Syncing Is x.geometry x.perms)) end) (Phase x (Away Is x.geometry x.perms slot others) end)
        (then_phase rack area mid new x (λ g p. balance.GoAll g p slot others) (Syncing Is) end gone synced)
        (λ holds store done. (done.0, gathered Is some x.geometry x.perms slot others holds end done.1))

    pub go_done : (it : Synced) → Gone Went → ((z : State) → Represents rack area mid z → CarriesOut rack area new z (SyncDoes z (Ok it))) → CarriesOut rack area new x (GoDoes x slot others (Ok it.group))
    go_done it gone synced =
        carries_so rack area new x (Phase x (Away (IsGroup it.group) x.geometry x.perms slot others) Went) (GoDoes x slot others (Ok it.group))
        (goes_away (IsGroup it.group) (it.group, it.thin, refl) Went gone (λ z r. carries_so rack area new z (SyncDoes z (Ok it)) (Phase z (Syncing (IsGroup it.group) z.geometry z.perms) Went) (synced z r)
        (λ holds store done. (done.0, (it.group, it.thin, refl, done.1)))))
        (λ holds store done. (done.0, (done.1.1, subst (λ t. balance.Goes x.geometry x.perms slot others t done.1.1 holds Went) done.1.2 done.1.3)))

    pub go_stopped : (why : SyncFault) → Gone Went → ((z : State) → Represents rack area mid z → CarriesOut rack area new z (SyncDoes z (Err why))) → CarriesOut rack area new x (GoDoes x slot others (Err why))
    go_stopped why gone synced =
        carries_so rack area new x (Phase x (Away Any x.geometry x.perms slot others) (end_of {T = ℕ} (Err why))) (GoDoes x slot others (Err why))
        (goes_away Any (0, 0, 0) (end_of {T = ℕ} (Err why)) gone (λ z r. carries_so rack area new z (SyncDoes z (Err why)) (Phase z (Syncing Any z.geometry z.perms) (end_of {T = ℕ} (Err why))) (synced z r)
        (λ holds store done. (let s = sync_stops z why holds store done in (s.0, (s.1.group, s.1.thin, 0, s.1.syncs))))))
        (λ holds store done. (done.0, (done.1.0, done.1.1, done.1.3)))

    -- one of them couldn't be reserved
    pub go_refused : (why : SyncFault) → Gone (end_of {T = Unit} (Err why)) → CarriesOut rack area mid x (GoDoes x slot others (Err why))
    go_refused why gone =
        carries_so rack area mid x (Phase x (balance.GoAll x.geometry x.perms slot others) (end_of {T = Unit} (Err why))) (GoDoes x slot others (Err why)) gone
        (λ holds store done. (done.0, (0, 0, subst (λ e. balance.Goes x.geometry x.perms slot others 0 0 holds e) (end_same why) (inr (not_went Unit why, done.1)))))
