-- A pool is upgraded: what is closing is finished, and then version 2 is there already, or it is asked for and committed.
use Rattle.std.proofs.Common.{◌≡◌, ◌≢◌, ◌++◌, ◌∙◌, [], ◌∷◌, inl, inr, ◌⊎◌, ℕ, List, Some, Ok, Err, arith, refl, sym, ap, subst, append_assoc}
use Rattle.std.specs.Prelude.{IsErrOf, slice_get}
use Rattle.draid_rack.specs.declared.Rack as racks
use Rattle.draid_area.specs.declared.Area as areas
use Rattle.draid_spec.specs.declared.layout.Geometry.{Geometry}
use Rattle.draid_perm.specs.declared.perms.Perms.{Perms}
use Rattle.draid_machine.specs.declared.event.Event.TheVariants as event
use Rattle.draid_entries.specs.declared.history.ReserveFault.{ReserveFault}
use Rattle.draid_entries.specs.declared.history.ReserveFault.TheVariants as reserve
use Rattle.draid_shard.specs.Fits.{Valid}
use Rattle.draid_shard.specs.declared.shard.Shard.{Shard}
use Rattle.draid_uber.specs.Uber.{version_of}
use Rattle.draid_session.specs.Arms as arms
use Rattle.draid_session.specs.Groups as groups
use Rattle.draid_session.specs.Holds.{Hold, LookedUber, OnUber}
use Rattle.draid_session.specs.Phases.{Chain, End, WasLast, Went}
use Rattle.draid_session.specs.State.{State, Store}
use Rattle.draid_session.specs.Versions as versions
use Rattle.draid_pool.specs.Carries.{CarriesOut}
use Rattle.draid_pool.specs.Pools.{Represents}
use Rattle.draid_pool.specs.Syncing.{Phase, SyncDoes, end_of}
use Rattle.draid_pool.specs.Views.{seen_at}
use Rattle.draid_pool.specs.declared.fault.SyncFault.{SyncFault}
use Rattle.draid_pool.specs.declared.fault.SyncFault.TheVariants as sync
use Rattle.draid_pool.specs.declared.fault.Synced.{Synced}
use Rattle.draid_pool.specs.declared.pool.Pool.{Pool}
use Rattle.draid_pool.proofs.Looking.{looks_at}
use Rattle.draid_pool.proofs.Steps.{carried, carries_so, own_of, same_layout, settled}
use Rattle.draid_pool.proofs.SyncCalls.{end_same, then_phase}
use Rattle.draid_pool.proofs.SyncSteps.{not_went}
use Rattle.draid_changes.specs.Upgrading.{RaiseDoes, UpgradeDoes}
use Rattle.draid_changes.specs.Walks.{end_of_reserving}
use Rattle.draid_changes.specs.declared.upgrading.UpgradeFault.TheVariants as fault
use Rattle.draid_changes.proofs.Begun.{Finished, PhaseIs, begun, first_of, first_seen, follow, seen_first, uber_of}

-- ---- phases

-- events are reserved in all metaslabs, one in each
abbrev pub Reserving : PhaseIs
Reserving g p = arms.ReservePhase g p (λ v. 1)

-- version 2 is asked for
abbrev Asking : PhaseIs
Asking g p = Chain (arms.EventPhase g p event.Upgrade) versions.Asks

-- and what then comes is a sync, of some group
abbrev pub Syncing : (ℕ → ℕ → Type 0) → PhaseIs
Syncing Is g p holds end = (group : ℕ) × (thin : ℕ) × Is group thin × groups.Syncs g p group thin holds end

abbrev Raised : (ℕ → ℕ → Type 0) → PhaseIs
Raised Is g p holds end = (group : ℕ) × (thin : ℕ) × Is group thin × versions.Asked g p group thin holds end

module _ (Is : ℕ → ℕ → Type 0) (some : (group : ℕ) × (thin : ℕ) × Is group thin) (g : Geometry) (p : Perms) where
  -- phases one after another, however they are taken together
  regrouped : (holds : List Hold) (end : End) → Chain (Reserving g p) (Chain (Asking g p) (Syncing Is g p)) holds end → Raised Is g p holds end
  regrouped holds end (inr (stopped, reserved)) = (some.0, some.1, some.2, inr (stopped, reserved))
  regrouped holds end (inl (front, back, are, reserved, rest)) = by rest
    where
      asked : (group thin : ℕ) → Is group thin → Chain (arms.EventPhase g p event.Upgrade) (Chain versions.Asks (groups.Syncs g p group thin)) back end → Raised Is g p holds end
      asked group thin is does = (group, thin, is, inl (front, back, are, reserved, does))

      done : (first last : List Hold) → back ≡ first ++ last → Syncing Is g p last end → Asking g p first Went → Raised Is g p holds end
      done first last whole synced (inr (no_way, came)) = absurd (no_way refl)
      done first last whole synced (inl (events, one, apart, came, asks)) =
          asked synced.0 synced.1 synced.2 (inl (events, one ++ last, whole ∙ (ap (λ hs. hs ++ last) apart ∙ append_assoc events one last), came, inl (one, last, refl, asks, synced.3)))

      by : Chain (Asking g p) (Syncing Is g p) back end → Raised Is g p holds end
      by (inl (first, last, whole, asking, synced)) = done first last whole synced asking
      by (inr (stopped, inl (events, one, apart, came, asks))) = asked some.0 some.1 some.2 (inl (events, one, apart, came, inr (stopped, asks)))
      by (inr (stopped, inr (no_way, came))) = asked some.0 some.1 some.2 (inr (no_way, came))

-- ---- ends

pub not_last : (why : SyncFault) → (why ≡ sync.Last → ⊥) → end_of {T = Unit} (Err why) ≢ WasLast
not_last sync.Worn none is = absurd (cc)
not_last sync.Last none is = none refl
not_last sync.Shelf none is = absurd (cc)
not_last sync.NoMemory none is = absurd (cc)

pub not_through : (why : ReserveFault) → end_of_reserving (Err why) ≢ Went
not_through (reserve.Worn events) is = absurd (cc)
not_through reserve.NoMemory is = absurd (cc)

-- the fault of a refusal
pub err_is : (why : SyncFault) → IsErrOf {T = ℕ} (Err why) sync.Shelf → why ≡ sync.Shelf
err_is why is = cc

pub sync_stops : (x : State) (why : SyncFault) (holds : List Hold) (store : Store) → SyncDoes x (Err why) holds store → (store ≡ x.store) × groups.SyncStops x.geometry x.perms holds (end_of {T = ℕ} (Err why))
sync_stops x sync.Worn holds store does = does
sync_stops x sync.Last holds store does = does
sync_stops x sync.Shelf holds store does = does
sync_stops x sync.NoMemory holds store does = does

-- a group and a number of thin blocks are any, or the group is this one
abbrev pub Any : ℕ → ℕ → Type 0
Any group thin = ℕ

abbrev pub IsGroup : ℕ → ℕ → ℕ → Type 0
IsGroup group t thin = t ≡ group

module _ {R A : Type 0} (rack : racks.Ghosts R) (area : areas.Ghosts A) where
  -- ---- behind the look

  module _ (late mid new : Pool R A) (x : State) (reserved : CarriesOut rack area late x (Phase x (Reserving x.geometry x.perms) Went))
      (asked : (y : State) → Represents rack area late y → CarriesOut rack area mid y (Phase y (Asking y.geometry y.perms) Went)) where
    raises : (Is : ℕ → ℕ → Type 0) (some : (group : ℕ) × (thin : ℕ) × Is group thin) (end : End)
        → ((z : State) → Represents rack area mid z → CarriesOut rack area new z (Phase z (Syncing Is z.geometry z.perms) end)) → CarriesOut rack area new x (Phase x (Raised Is x.geometry x.perms) end)
    raises Is some end synced =
        carries_so rack area new x (Phase x (Chain (Reserving x.geometry x.perms) (Chain (Asking x.geometry x.perms) (Syncing Is x.geometry x.perms))) end) (Phase x (Raised Is x.geometry x.perms) end)
        (then_phase rack area late new x Reserving (λ g p. Chain (Asking g p) (Syncing Is g p)) end reserved
        (λ y r. then_phase rack area mid new y Asking (Syncing Is) end (asked y r) synced))
        (λ holds store done. (done.0, regrouped Is some x.geometry x.perms holds end done.1))

    pub raise_done : (it : Synced) → ((z : State) → Represents rack area mid z → CarriesOut rack area new z (SyncDoes z (Ok it))) → CarriesOut rack area new x (RaiseDoes x (Ok it.group))
    raise_done it synced =
        carries_so rack area new x (Phase x (Raised (IsGroup it.group) x.geometry x.perms) Went) (RaiseDoes x (Ok it.group))
        (raises (IsGroup it.group) (it.group, it.thin, refl) Went (λ z r. carries_so rack area new z (SyncDoes z (Ok it)) (Phase z (Syncing (IsGroup it.group) z.geometry z.perms) Went) (synced z r)
        (λ holds store done. (done.0, (it.group, it.thin, refl, done.1)))))
        (λ holds store done.
        (done.0, (done.1.1, subst (λ t. versions.Asked x.geometry x.perms t done.1.1 holds Went) done.1.2 done.1.3)))

    pub raise_stopped : (why : SyncFault) → ((z : State) → Represents rack area mid z → CarriesOut rack area new z (SyncDoes z (Err why))) → CarriesOut rack area new x (RaiseDoes x (Err why))
    raise_stopped why synced =
        carries_so rack area new x (Phase x (Raised Any x.geometry x.perms) (end_of {T = ℕ} (Err why))) (RaiseDoes x (Err why))
        (raises Any (0, 0, 0) (end_of {T = ℕ} (Err why)) (λ z r. carries_so rack area new z (SyncDoes z (Err why)) (Phase z (Syncing Any z.geometry z.perms) (end_of {T = ℕ} (Err why))) (synced z r)
        (λ holds store done. (let s = sync_stops z why holds store done in (s.0, (s.1.group, s.1.thin, 0, s.1.syncs))))))
        (λ holds store done. (done.0, (done.1.0, done.1.1, done.1.3)))

  -- events couldn't be reserved
  pub raise_refused : (new : Pool R A) (x : State) (first : ReserveFault) (why : SyncFault) → end_of {T = ℕ} (Err why) ≡ end_of_reserving (Err first)
      → CarriesOut rack area new x (Phase x (Reserving x.geometry x.perms) (end_of_reserving (Err first))) → CarriesOut rack area new x (RaiseDoes x (Err why))
  raise_refused new x first why same c =
      carries_so rack area new x (Phase x (Reserving x.geometry x.perms) (end_of_reserving (Err first))) (RaiseDoes x (Err why)) c
      (λ holds store done. (done.0, (0, 0, subst (versions.Asked x.geometry x.perms 0 0 holds) (sym same) (inr (not_through first, done.1)))))

  -- ---- the upgrade

  -- a closing group couldn't be committed first
  pub upgrade_unfinished : (mid : Pool R A) (x : State) (why : SyncFault) → (why ≡ sync.Last → ⊥) → CarriesOut rack area mid x (Phase x (groups.Finishes x.geometry x.perms) (end_of {T = Unit} (Err why)))
      → CarriesOut rack area mid x (UpgradeDoes x (Err (fault.Sync why)))
  upgrade_unfinished mid x why none c =
      carries_so rack area mid x (Phase x (groups.Finishes x.geometry x.perms) (end_of {T = Unit} (Err why))) (UpgradeDoes x (Err (fault.Sync why))) c
      (λ holds store done. (done.0, (0, subst (versions.Upgrades x.geometry x.perms 0 holds) (end_same why) (inr (not_went Unit why, not_last why none, done.1)))))

  -- the first metaslab asks for version 2 already
  pub upgrade_already : (mid : Pool R A) (x : State) (first : Shard R A) → Finished rack area mid x → slice_get mid.metaslabs.shards.items 0 ≡ Some first → first.asked ≡ 2
      → CarriesOut rack area mid x (UpgradeDoes x (Err fault.Already))
  upgrade_already mid x first c there two =
      let y = c.reached in
      let r = settled rack area mid x (Phase x (groups.Finishes x.geometry x.perms) Went) c c.done.0 in
      let z = first_of rack area mid y first r there in
      carried rack area mid x (c.holds ++ (looks_at 0 y.metaslabs ++ OnUber (uber_of y) LookedUber ∷ [])) y (UpgradeDoes x (Err fault.Already)) (follow x y y c.holds [] c.follows refl) r (
        refl,
        record {
          views = seen_at 0 y.metaslabs;
          u = uber_of y;
          begins = begun rack area mid x c [];
          asked = seen_first (λ v. v.world.asked ≡ 2) y.metaslabs z.y z.at (z.is.stands.is_in.asked ∙ two);
        },
      )

  -- it asks for version 1, and so do all metaslabs and the uberblock
  asked_one : (first : Shard R A) → Valid rack first → first.asked ≢ 2 → first.asked ≡ 1
  asked_one first valid other = by valid.version
    where
      by : (first.version ≡ 1) ⊎ (first.version ≡ 2) → first.asked ≡ 1
      by (inl one) = (let least = valid.asked.0 in let most = valid.asked.1 in omega (arith, one, least, most, other))
      by (inr two) = absurd (let least = valid.asked.0 in let most = valid.asked.1 in omega (arith, two, least, most, other))

  pub uber_one : (mid : Pool R A) (y : State) (first : Shard R A) → Represents rack area mid y → slice_get mid.metaslabs.shards.items 0 ≡ Some first → first.asked ≢ 2 → version_of mid.uber ≡ 1
  uber_one mid y first r there other =
      let z = first_of rack area mid y first r there in
      r.stands.uber.version
      ∙ (sym r.stands.versions.now ∙ (sym (r.stands.alike 0 z.y z.at).versions.asked ∙ (z.is.stands.is_in.asked ∙ asked_one first z.is.valid other)))

  module _ (mid new : Pool R A) (x : State) (first : Shard R A) (c : Finished rack area mid x) (there : slice_get mid.metaslabs.shards.items 0 ≡ Some first) (other : first.asked ≢ 2) where
    -- what comes then
    goes_on : (does : List Hold → Store → Type 0) (group thin : ℕ) (end : End) (d : CarriesOut rack area new c.reached does) → d.store ≡ c.reached.store → versions.Asked c.reached.geometry c.reached.perms group thin d.holds end
        → CarriesOut rack area new x (Phase x (versions.Upgrades x.geometry x.perms group) end)
    goes_on does group thin end d kept asked =
        let y = c.reached in
        let same = same_layout c.holds x y c.follows in
        let r = settled rack area mid x (Phase x (groups.Finishes x.geometry x.perms) Went) c c.done.0 in
        let z = first_of rack area mid y first r there in
        carried rack area new x (c.holds ++ (looks_at 0 y.metaslabs ++ OnUber (uber_of y) LookedUber ∷ d.holds)) d.reached (Phase x (versions.Upgrades x.geometry x.perms group) end)
        (follow x y d.reached c.holds d.holds c.follows d.follows) (settled rack area new y does d kept) (
          refl,
          inl (record {
            views = seen_at 0 y.metaslabs;
            u = uber_of y;
            rest = d.holds;
            thin = thin;
            begins = begun rack area mid x c d.holds;
            none = λ two. other (sym z.is.stands.is_in.asked ∙ first_seen (λ v. v.world.asked ≡ 2) y.metaslabs z.y z.at two);
            does = own_of x y (λ g p store. versions.Asked g p group thin d.holds end) same asked;
          }),
        )

    finished_is : Represents rack area mid c.reached
    finished_is = settled rack area mid x (Phase x (groups.Finishes x.geometry x.perms) Went) c c.done.0

    pub upgrade_done : (group : ℕ) → ((y : State) → Represents rack area mid y → CarriesOut rack area new y (RaiseDoes y (Ok group))) → CarriesOut rack area new x (UpgradeDoes x (Ok group))
    upgrade_done group next = (let d = next c.reached finished_is in goes_on (RaiseDoes c.reached (Ok group)) group d.done.1.0 Went d d.done.0 d.done.1.1)

    pub upgrade_stopped : (why : SyncFault) → ((y : State) → Represents rack area mid y → CarriesOut rack area new y (RaiseDoes y (Err why))) → CarriesOut rack area new x (UpgradeDoes x (Err (fault.Sync why)))
    upgrade_stopped why next =
        let d = next c.reached finished_is in
        carries_so rack area new x (Phase x (versions.Upgrades x.geometry x.perms d.done.1.0) (end_of {T = ℕ} (Err why))) (UpgradeDoes x (Err (fault.Sync why)))
        (goes_on (RaiseDoes c.reached (Err why)) d.done.1.0 d.done.1.1 (end_of {T = ℕ} (Err why)) d d.done.0 d.done.1.2) (λ holds store done. (done.0, (d.done.1.0, done.1)))
