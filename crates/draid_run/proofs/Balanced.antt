-- A rebalance of a slot: a sync, a scrub, and what becomes of the other arms, one behind the other.
use Rattle.std.proofs.Common.{◌≡◌, ◌<◌, ◌≤◌, ◌++◌, ◌∙◌, [], inl, inr, ℕ, false, List, Option, Some, None, Result, Ok, Err, arith, refl, sym, ap, subst}
use Rattle.std.specs.Prelude.{IsErrOf, slice_get}
use Rattle.std.proofs.lemmas.Option.{slice_get_within}
use Rattle.draid_rack.specs.declared.Rack as racks
use Rattle.draid_area.specs.declared.Area as areas
use Rattle.draid_names.specs.declared.pass_kind.PassKind.TheVariants.{Heal, Rebuild}
use Rattle.draid_perm.specs.declared.perms.Perms.{Perms}
use Rattle.draid_script.specs.Line.{RebalanceSlot}
use Rattle.draid_spec.specs.declared.layout.Geometry.{Geometry}
use Rattle.draid_reply.specs.declared.reply.Reply.TheVariants as replies
use Rattle.draid_session.specs.Balance as balance
use Rattle.draid_session.specs.Balance.{Balance, Halted, balance_of}
use Rattle.draid_session.specs.Groups as groups
use Rattle.draid_session.specs.Holds.{Hold}
use Rattle.draid_session.specs.Passes as passes
use Rattle.draid_session.specs.Phases.{Starved, WasLast, WasWorn, Broke, Went}
use Rattle.draid_session.specs.State.{State, Store}
use Rattle.draid_pool.specs.Carries.{CarriesOut}
use Rattle.draid_pool.specs.Keeping.{AllArmsStay}
use Rattle.draid_pool.specs.Passes.{KeepsPasses}
use Rattle.draid_pool.specs.Pools.{Represents}
use Rattle.draid_pool.specs.Syncing.{SyncDoes}
use Rattle.draid_pool.specs.Views.{seen_at}
use Rattle.draid_pool.specs.Whole.{IsWhole}
use Rattle.draid_pool.specs.declared.fault.SyncFault.{SyncFault}
use Rattle.draid_pool.specs.declared.fault.SyncFault.TheVariants as sync
use Rattle.draid_pool.specs.declared.fault.Synced.{Synced}
use Rattle.draid_pool.specs.declared.pool.Pool.{Pool}
use Rattle.draid_pool.proofs.Lists.{present}
use Rattle.draid_pool.proofs.Looking.{looks_at}
use Rattle.draid_pool.proofs.SyncSteps.{not_went}
use Rattle.draid_pool.proofs.Wholes.{whole_geometry}
use Rattle.draid_changes.specs.Balancing.{OthersAre, OthersDo}
use Rattle.draid_changes.specs.Behind.{ArmsBehind}
use Rattle.draid_visits.specs.Rebuilding.{IsLowestPass, RunsWhere, ScrubDoes, ScrubIs, stopped_by}
use Rattle.draid_visits.specs.Visiting.{AreAll, IsOnly, NoPasses}
use Rattle.draid_visits.specs.declared.rebuilding.MendFault.{MendFault}
use Rattle.draid_visits.specs.declared.rebuilding.MendFault.TheVariants as mending
use Rattle.draid_visits.specs.declared.rebuilding.Mended.{Mended}
use Rattle.draid_visits.proofs.Found.{none_of, none_seen_of}
use Rattle.draid_visits.proofs.Idle.{kind_kept}
use Rattle.draid_visits.proofs.Leading.{Does, Says, Steps, steps_then}
use Rattle.draid_visits.proofs.Rebuilt.{behind_looks, finds, found_other}
use Rattle.draid_run.specs.Rebalancing.{IsHalt, PartIs, RebalanceDoes, stopped_at}
use Rattle.draid_run.specs.declared.rebalancing.RebalanceFault.TheVariants as fault
use Rattle.draid_run.specs.declared.rebalancing.Rebalanced.{Rebalanced}

-- a sync leaves the layout
pub geometry_synced : {R A : Type 0} (rack : racks.Ghosts R) (area : areas.Ghosts A) (old new : Pool R A) → IsWhole rack area old → IsWhole rack area new → AllArmsStay old new → new.geometry ≡ old.geometry
geometry_synced {R = R} {A = A} rack area old new w v stay =
    let many = w.many in
    let some = w.layout.geometry_is.props.some_metaslabs in
    let long = stay.many in
    let a = present old.metaslabs.shards.items 0 (omega (arith, many, some)) in
    let b = present new.metaslabs.shards.items 0 (omega (arith, many, some, long)) in
    let before : a.0.slots.geometry ≡ old.geometry = (w.shards 0 a.0 a.1).valid.slots.geometry_is ∙ whole_geometry rack area old 0 a.0 w a.1 in
    let after : b.0.slots.geometry ≡ new.geometry = (v.shards 0 b.0 b.1).valid.slots.geometry_is ∙ whole_geometry rack area new 0 b.0 v b.1 in
    sym after ∙ ((stay.each 0 a.0 b.0 a.1 b.1).same.geometry_is ∙ before)

-- what is told where the slot's other arms went with this group, or all stay
abbrev pub told_of : Mended → Option ℕ → Rebalanced
told_of it group = record { blocks = it.units; repaired = it.repaired; errors = it.errors; group = group }

-- a scrub of the whole pool
abbrev pub ScrubsAll : Mended → Says
ScrubsAll it g p holds = passes.ScrubReplies g p None it.from it.units it.repaired it.errors it.paused holds

-- ---- the scrub, and then the arms

module _ (g : Geometry) (p : Perms) (slot : ℕ) where
  scrubs_then : (it : Mended) (b : Balance) (front back : List Hold) → it.paused ≡ false → (s : ScrubsAll it g p front) → balance.Balances g p slot it.errors back b → balance.ScrubsThen g p slot (front ++ back) s.0 b
  scrubs_then it b front back whole s balances =
      inl (front, back, refl, subst (λ w. passes.Scrubs g p None front (passes.outcome_of w) s.0) whole s.1, subst (λ n. balance.Balances g p slot n back b) (sym s.5) balances)

  scrub_then_goes : (it : Mended) (group : Option ℕ) (front back : List Hold) → it.paused ≡ false → ScrubsAll it g p front → balance.Balances g p slot it.errors back (balance_of group)
      → PartIs (balance.ScrubsThen g p slot) (Ok (told_of it group)) (front ++ back)
  scrub_then_goes it group front back whole s balances =
      (s.0, scrubs_then it (balance_of group) front back whole s balances, record { blocks = s.3; repaired = s.4; errors = s.5 })

  scrub_then_halts : (it : Mended) (why : SyncFault) (front back : List Hold) → it.paused ≡ false → ScrubsAll it g p front → balance.Balances g p slot it.errors back (Halted (stopped_at why))
      → PartIs (balance.ScrubsThen g p slot) (Err why) (front ++ back)
  scrub_then_halts it why front back whole s balances = (s.0, scrubs_then it (Halted (stopped_at why)) front back whole s balances)

  -- ---- the sync, and then both

  sync_then : (result : Result Rebalanced SyncFault) (group thin : ℕ) (front back : List Hold) → groups.Syncs g p group thin front Went → PartIs (balance.ScrubsThen g p slot) result back
      → PartIs (balance.SyncsThen g p slot) result (front ++ back)
  sync_then (Ok it) group thin front back syncs part = (part.0, inl (front, back, group, thin, refl, syncs, part.1), part.2)
  sync_then (Err why) group thin front back syncs part = (part.0, inl (front, back, group, thin, refl, syncs, part.1))

-- the scrub was stopped
scrub_halts : (x : State) (slot : ℕ) (why : SyncFault) (holds : List Hold) (store : Store) → ScrubDoes x None (Err (stopped_by why)) holds store
    → Does x (PartIs (balance.ScrubsThen x.geometry x.perms slot) (Err why)) holds store
scrub_halts x slot sync.Worn holds store d = (d.0, (d.1.0, inr (WasWorn, d.1.1, d.1.2, refl)))
scrub_halts x slot sync.Last holds store d = (d.0, (d.1.0, inr (WasLast, d.1.1, d.1.2, refl)))
scrub_halts x slot sync.Shelf holds store d = absurd d
scrub_halts x slot sync.NoMemory holds store d = (d.0, (d.1.0, inr (Starved, d.1.1, d.1.2, refl)))

-- and so was the sync
sync_halts : (x : State) (slot : ℕ) (why : SyncFault) (holds : List Hold) (store : Store) → SyncDoes x (Err why) holds store
    → Does x (PartIs (balance.SyncsThen x.geometry x.perms slot) (Err why)) holds store
sync_halts x slot sync.Worn holds store d = (d.0, (passes.nothing_yet, inr (d.1.group, d.1.thin, WasWorn, d.1.stopped, d.1.syncs, refl, refl)))
sync_halts x slot sync.Last holds store d = (d.0, (passes.nothing_yet, inr (d.1.group, d.1.thin, WasLast, d.1.stopped, d.1.syncs, refl, refl)))
sync_halts x slot sync.Shelf holds store d = (d.0, (passes.nothing_yet, inr (d.1.group, d.1.thin, Broke, d.1.stopped, d.1.syncs, refl, refl)))
sync_halts x slot sync.NoMemory holds store d = (d.0, (passes.nothing_yet, inr (d.1.group, d.1.thin, Starved, d.1.stopped, d.1.syncs, refl, refl)))

module _ {R A : Type 0} (rack : racks.Ghosts R) (area : areas.Ghosts A) (slot : ℕ) where
  -- ---- parts carried out

  pub scrub_goes : (old mid new : Pool R A) (it : Mended) (group : Option ℕ) → it.paused ≡ false → ((x : State) → Represents rack area old x → CarriesOut rack area mid x (ScrubDoes x None (Ok it)))
      → ((x : State) → Represents rack area mid x → CarriesOut rack area new x (OthersDo x slot it.errors (Ok group))) → Steps rack area old new (λ g p. PartIs (balance.ScrubsThen g p slot) (Ok (told_of it group)))
  scrub_goes old mid new it group whole first second =
      steps_then rack area (ScrubsAll it) (λ g p holds. balance.Balances g p slot it.errors holds (balance_of group)) (λ g p. PartIs (balance.ScrubsThen g p slot) (Ok (told_of it group))) old mid new first second
      (λ x front back r s b. scrub_then_goes x.geometry x.perms slot it group front back whole s b)

  pub scrub_stops : (old mid new : Pool R A) (it : Mended) (why : SyncFault) → it.paused ≡ false → ((x : State) → Represents rack area old x → CarriesOut rack area mid x (ScrubDoes x None (Ok it)))
      → ((x : State) → Represents rack area mid x → CarriesOut rack area new x (OthersDo x slot it.errors (Err why))) → Steps rack area old new (λ g p. PartIs (balance.ScrubsThen g p slot) (Err why))
  scrub_stops old mid new it why whole first second =
      steps_then rack area (ScrubsAll it) (λ g p holds. balance.Balances g p slot it.errors holds (Halted (stopped_at why))) (λ g p. PartIs (balance.ScrubsThen g p slot) (Err why)) old mid new first second
      (λ x front back r s b. scrub_then_halts x.geometry x.perms slot it why front back whole s b)

  pub scrub_halted : (old new : Pool R A) (why : SyncFault) (given : MendFault) → given ≡ stopped_by why → ((x : State) → Represents rack area old x → CarriesOut rack area new x (ScrubDoes x None (Err given)))
      → Steps rack area old new (λ g p. PartIs (balance.ScrubsThen g p slot) (Err why))
  scrub_halted old new why given is first x r =
      (let c = first x r in
      record {
        holds = c.holds;
        reached = c.reached;
        store = c.store;
        follows = c.follows;
        done = scrub_halts x slot why c.holds c.store (subst (λ f. ScrubDoes x None (Err f) c.holds c.store) is c.done);
        represents = c.represents;
      })

  pub sync_goes : (old mid new : Pool R A) (synced : Synced) (result : Result Rebalanced SyncFault) → ((x : State) → Represents rack area old x → CarriesOut rack area mid x (SyncDoes x (Ok synced)))
      → Steps rack area mid new (λ g p. PartIs (balance.ScrubsThen g p slot) result) → Steps rack area old new (λ g p. PartIs (balance.SyncsThen g p slot) result)
  sync_goes old mid new synced result first second =
      steps_then rack area (λ g p holds. groups.Syncs g p synced.group synced.thin holds Went) (λ g p. PartIs (balance.ScrubsThen g p slot) result) (λ g p. PartIs (balance.SyncsThen g p slot) result) old mid new first second
      (λ x front back r s part. sync_then x.geometry x.perms slot result synced.group synced.thin front back s part)

  pub sync_stops : (old new : Pool R A) (why : SyncFault) → ((x : State) → Represents rack area old x → CarriesOut rack area new x (SyncDoes x (Err why)))
      → Steps rack area old new (λ g p. PartIs (balance.SyncsThen g p slot) (Err why))
  sync_stops old new why first x r =
      (let c = first x r in
      record { holds = c.holds; reached = c.reached; store = c.store; follows = c.follows; done = sync_halts x slot why c.holds c.store c.done; represents = c.represents })

  -- ---- the whole

  pub no_slot : (pool : Pool R A) (x : State) → Represents rack area pool x → pool.geometry.spec.children ≤ slot → CarriesOut rack area pool x (RebalanceDoes x slot (Err fault.NoSuch))
  no_slot pool x r high =
      record { holds = []; reached = x; store = x.store; follows = refl; done = (refl, subst (λ (g : Geometry). g.spec.children ≤ slot) (sym r.stands.geometry) high, refl); represents = r }

  module _ (pool new : Pool R A) (x : State) (r : Represents rack area pool x) (low : slot < pool.geometry.spec.children) where
    slot_is : slot < x.geometry.spec.children
    slot_is = subst (λ (g : Geometry). slot < g.spec.children) (sym r.stands.geometry) low

    pub rebuild_there : (metaslab number : ℕ) → IsLowestPass Rebuild metaslab number pool → CarriesOut rack area pool x (RebalanceDoes x slot (Err (fault.PassRunning metaslab number)))
    rebuild_there metaslab number lowest = found_other rack area Heal pool x metaslab number (RebalanceDoes x slot (Err (fault.PassRunning metaslab number))) r lowest (λ found. (refl, (slot_is, found)))

    module _ (alone : AreAll pool (IsOnly Heal)) where
      rebalances : (holds : List Hold) (t : passes.Tally) (b : Balance) → balance.SyncsThen x.geometry x.perms slot holds t b → balance.Rebalances x.geometry x.perms slot (looks_at 0 x.metaslabs ++ holds) t b
      rebalances holds t b does = record {
        slot_is = slot_is;
        views = seen_at 0 x.metaslabs;
        rest = holds;
        finds = finds rack area Heal pool x holds r (none_seen_of rack area Rebuild pool x r alone);
        does = does;
      }

      pub rebalanced : (it : Rebalanced) → CarriesOut rack area new x (Does x (PartIs (balance.SyncsThen x.geometry x.perms slot) (Ok it))) → CarriesOut rack area new x (RebalanceDoes x slot (Ok it))
      rebalanced it c =
          behind_looks rack area new x (Does x (PartIs (balance.SyncsThen x.geometry x.perms slot) (Ok it))) (RebalanceDoes x slot (Ok it))
          (λ holds store d. (d.0, (d.1.0, rebalances holds d.1.0 (balance_of it.group) d.1.1, d.1.2.blocks, d.1.2.repaired, d.1.2.errors))) c

      pub rebalance_stops : (why : SyncFault) → CarriesOut rack area new x (Does x (PartIs (balance.SyncsThen x.geometry x.perms slot) (Err why))) → CarriesOut rack area new x (RebalanceDoes x slot (Err (fault.Stopped why)))
      rebalance_stops why c =
          behind_looks rack area new x (Does x (PartIs (balance.SyncsThen x.geometry x.perms slot) (Err why))) (RebalanceDoes x slot (Err (fault.Stopped why)))
          (λ holds store d. (d.0, (d.1.0, not_went ℕ why, rebalances holds d.1.0 (Halted (stopped_at why)) d.1.1))) c

-- ---- the passes and the arms, whatever is known of the pool

-- a scrub that has no rebuild beside it is stopped by want of something
pub only_halts : {R A : Type 0} (why : MendFault) (old new : Pool R A) → AreAll old (IsOnly Heal) → ScrubIs (Err why) old new → IsHalt why
only_halts mending.Nothing old new alone is = absurd is
only_halts {R} {A} (mending.PassThere metaslab number) old new alone is =
    let low = is.1 in
    absurd (none_of Rebuild low.shard number (alone metaslab low.shard (ap (λ (q : Pool R A). slice_get q.metaslabs.shards.items metaslab) (sym is.0) ∙ low.there)) low.has)
only_halts mending.Worn old new alone is = tt
only_halts mending.Last old new alone is = tt
only_halts mending.Shelf old new alone is = absurd is
only_halts mending.NoMemory old new alone is = tt

-- a scrub without a limit doesn't pause
pub ends_whole : {R A : Type 0} (it : Mended) (pool : Pool R A) → it.paused ≡ false → RunsWhere Heal it.paused pool → NoPasses pool
ends_whole it pool whole behind = subst (λ b. RunsWhere Heal b pool) whole behind

-- no sync brings a rebuild
pub only_synced : {R A : Type 0} (old new : Pool R A) → KeepsPasses old new → AreAll old (IsOnly Heal) → AreAll new (IsOnly Heal)
only_synced old new keeps alone m shard is =
    let many = keeps.many in
    let z = present old.metaslabs.shards.items m (let inside = slice_get_within new.metaslabs.shards.items m shard is in omega (arith, inside, many)) in
    kind_kept Heal z.0.pass shard.pass (keeps.each m z.0 shard z.1 is) (alone m z.0 z.1)

pub slot_behind : {R A : Type 0} (slot : ℕ) (it : Mended) (group : Option ℕ) (old new : Pool R A) → OthersAre slot it.errors (Ok group) old new
    → ArmsBehind (RebalanceSlot slot) (replies.Rebalanced slot it.units it.repaired it.errors group) new
slot_behind slot it (Some group) old new are = are
slot_behind slot it None old new are = subst (λ pool. ArmsBehind (RebalanceSlot slot) (replies.Rebalanced slot it.units it.repaired it.errors None) pool) (sym are.0) are.1

-- what stopped it
pub halt_of : (why : SyncFault) → IsErrOf {T = Rebalanced} (Err (fault.Stopped why)) (fault.Stopped sync.Shelf) → why ≡ sync.Shelf
halt_of sync.Worn is = absurd (cc is)
halt_of sync.Last is = absurd (cc is)
halt_of sync.Shelf is = refl
halt_of sync.NoMemory is = absurd (cc is)
