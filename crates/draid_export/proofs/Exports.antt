-- An export makes all safe, by a sync where something isn't.
use Rattle.std.proofs.Common.{◌≡◌, ◌<◌, ◌+◌, ◌++◌, ◌∙◌, [], ◌∷◌, inl, inr, ℕ, true, false, Ok, Err, arith, refl, ap, sym}
use Rattle.std.specs.Prelude.{◌↔◌, Bool, not}
use Rattle.std.proofs.lemmas.Bool.{true≢false}
use Rattle.std.proofs.lemmas.Option.{slice_get_within}
use Rattle.draid_rack.specs.declared.Rack as racks
use Rattle.draid_area.specs.declared.Area as areas
use Rattle.draid_machine.proofs.Small.{absurd_test}
use Rattle.draid_uber.specs.Slots.{group_of}
use Rattle.draid_uber.specs.Uber.{changed_of, kept_of}
use Rattle.draid_session.specs.Groups as groups
use Rattle.draid_session.specs.Holds.{LookedUber, OnUber, UberView, view_of}
use Rattle.draid_session.specs.Phases.{Broke, End, NoneOf, Starved, WasLast, WasWorn, Went}
use Rattle.draid_session.specs.State.{State}
use Rattle.draid_pool.specs.Syncing.{SyncDoes, Phase}
use Rattle.draid_pool.specs.Carries.{CarriesOut}
use Rattle.draid_pool.specs.Pools.{Represents}
use Rattle.draid_pool.specs.declared.fault.SyncFault.{SyncFault}
use Rattle.draid_pool.specs.declared.fault.SyncFault.TheVariants as sync
use Rattle.draid_pool.specs.declared.fault.Synced.{Synced}
use Rattle.draid_pool.specs.declared.pool.Pool.{Pool}
use Rattle.draid_pool.specs.Views.{seen_at}
use Rattle.draid_pool.proofs.Lifted.{HasMetaslab, metaslab_of}
use Rattle.draid_pool.proofs.Lists.{present}
use Rattle.draid_pool.proofs.Looking.{changes_none, none_seen, not_none, seen_there}
use Rattle.draid_pool.proofs.Steps.{carried, follows_on, settled}
use Rattle.draid_pool.proofs.SyncCalls.{looked_all, looks_of, pool_group}
use Rattle.draid_session.specs.Points.{HasLateMark}
use Rattle.draid_export.specs.Exporting.{ExportDoes, FoundUnsynced, HasUnsynced, IsSafe}

module _ {R A : Type 0} (rack : racks.Ghosts R) (area : areas.Ghosts A) where
  -- where something isn't safe a metaslab is seen that isn't synced, or something befell the checkpoint
  not_all : (x : State) → (IsSafe x → ⊥) → (NoneOf groups.IsUnsynced (seen_at 0 x.metaslabs) × (HasLateMark x.committed x.store.marks → ⊥)) → ⊥
  not_all x unsafe both = unsafe (
    (λ (k, y, at, unsynced). not_none groups.IsUnsynced (seen_at 0 x.metaslabs) (view_of (0 + k) y) (seen_there 0 k x.metaslabs y at) unsynced both.0),
    both.1,
  )

  exports : (pool new : Pool R A) (x : State) (group thin : ℕ) (end : End) → Represents rack area pool x → (IsSafe x → ⊥) → CarriesOut rack area new x (Phase x (groups.Syncs x.geometry x.perms group thin) end)
      → CarriesOut rack area new x (Phase x (groups.Exports x.geometry x.perms x.store.marks group) end)
  exports pool new x group thin end r unsafe d =
      let u : UberView = record { committed = x.committed; next_leaf = x.next_leaf } in
      carried rack area new x (looks_of rack area x ++ OnUber u LookedUber ∷ d.holds) d.reached (Phase x (groups.Exports x.geometry x.perms x.store.marks group) end)
      (follows_on (looks_of rack area x) (OnUber u LookedUber ∷ d.holds) x x d.reached (changes_none x [] x.metaslabs 0 refl refl) (x, record { sees = refl; acts = refl }, d.follows))
      (settled rack area new x (Phase x (groups.Syncs x.geometry x.perms group thin) end) d d.done.0) (
        refl,
        record {
          looks = looks_of rack area x;
          rest = d.holds;
          views = seen_at 0 x.metaslabs;
          u = u;
          are = refl;
          looked = looked_all rack area pool x r;
          does = inr (not_all x unsafe, (thin, d.done.1));
        },
      )

  pub export_none : (pool : Pool R A) (x : State) (group : ℕ) → Represents rack area pool x → IsSafe x → group ≡ group_of (kept_of pool.uber) → CarriesOut rack area pool x (ExportDoes x (Ok group))
  export_none pool x group r safe is =
      let u : UberView = record { committed = x.committed; next_leaf = x.next_leaf } in
      carried rack area pool x (looks_of rack area x ++ OnUber u LookedUber ∷ []) x (ExportDoes x (Ok group))
      (follows_on (looks_of rack area x) (OnUber u LookedUber ∷ []) x x x (changes_none x [] x.metaslabs 0 refl refl) (x, record { sees = refl; acts = refl }, refl)) r (
        refl,
        record {
          looks = looks_of rack area x;
          rest = [];
          views = seen_at 0 x.metaslabs;
          u = u;
          are = refl;
          looked = looked_all rack area pool x r;
          does = inl (none_seen groups.IsUnsynced 0 x.metaslabs (λ k y at unsynced. safe.0 (k, y, at, unsynced)), safe.1, refl, refl, is ∙ pool_group rack area pool x r);
        },
      )

  -- what is found in the shards is so of each state for which they stand
  pub unsynced_of : (pool : Pool R A) (x : State) (result : Bool) → Represents rack area pool x → FoundUnsynced pool.metaslabs.shards.items result → (result ≡ true) ↔ HasUnsynced x
  unsynced_of pool x true r (m, shard, there, unsynced) =
      let z : HasMetaslab rack area pool x r.stands m shard = metaslab_of rack area pool x r.stands m shard there in
      ((λ _. (m, z.y, z.at, ap (λ c. groups.is_unsynced c z.y.events) z.is.stands.is_in.committed ∙ (ap (groups.is_unsynced shard.committed) z.is.events ∙ unsynced))), (λ _. refl))
  unsynced_of pool x false r none = (
    (λ is. absurd_test false is refl),
    (λ (k, y, at, unsynced).
        (let long = r.stands.shards in let inside = slice_get_within x.metaslabs k y at in
        let shard = present pool.metaslabs.shards.items k (omega (arith, long, inside)) in
        let own = r.stands.each k shard.0 y shard.1 at in
        absurd_test (groups.is_unsynced y.world.committed y.events) unsynced
        (ap (λ c. groups.is_unsynced c y.events) own.stands.is_in.committed ∙ (ap (groups.is_unsynced shard.0.committed) own.events ∙ none k shard.0 shard.1)))),
  )

  -- the uberblock tells whether something befell the checkpoint
  pub late_of : (pool : Pool R A) (x : State) (news : Bool) → Represents rack area pool x → (news ≡ true) ↔ (group_of (kept_of pool.uber) < changed_of pool.uber) → (news ≡ true) ↔ HasLateMark x.committed x.store.marks
  late_of pool x news r says =
      let same = pool_group rack area pool x r in
      let late = r.stands.uber.late x.committed (omega arith) in
      ((λ is. late.1 (let less = says.0 is in omega (arith, same, less))), (λ l. says.1 (let less = late.0 l in omega (arith, same, less))))

  pub export_done : (pool new : Pool R A) (x : State) (it : Synced) → Represents rack area pool x → (IsSafe x → ⊥) → CarriesOut rack area new x (SyncDoes x (Ok it))
      → CarriesOut rack area new x (ExportDoes x (Ok it.group))
  export_done pool new x it r unsafe d = exports pool new x it.group it.thin Went r unsafe d

  export_with : (pool new : Pool R A) (x : State) (why : SyncFault) (end : End) (d : CarriesOut rack area new x (λ holds store. (store ≡ x.store) × groups.SyncStops x.geometry x.perms holds end))
      → Represents rack area pool x → (IsSafe x → ⊥) → CarriesOut rack area new x (λ holds store. (store ≡ x.store) × groups.ExportStops x.geometry x.perms x.store.marks holds end)
  export_with pool new x why end d r unsafe =
      let s = d.done.1 in
      let z = exports pool new x s.group s.thin end r unsafe
      (record { holds = d.holds; reached = d.reached; store = d.store; follows = d.follows; done = (d.done.0, s.syncs); represents = d.represents }) in
      record { holds = z.holds; reached = z.reached; store = z.store; follows = z.follows; done = (z.done.0, record { group = s.group; stopped = s.stopped; exports = z.done.1 }); represents = z.represents }

  pub export_stops : (pool new : Pool R A) (x : State) (why : SyncFault) → Represents rack area pool x → (IsSafe x → ⊥) → CarriesOut rack area new x (SyncDoes x (Err why))
      → CarriesOut rack area new x (ExportDoes x (Err why))
  export_stops pool new x sync.Worn r unsafe d = export_with pool new x sync.Worn WasWorn d r unsafe
  export_stops pool new x sync.Last r unsafe d = export_with pool new x sync.Last WasLast d r unsafe
  export_stops pool new x sync.Shelf r unsafe d = export_with pool new x sync.Shelf Broke d r unsafe
  export_stops pool new x sync.NoMemory r unsafe d = export_with pool new x sync.NoMemory Starved d r unsafe

-- neither of two is so
pub neither_of : (a b : Bool) (P Q : Type 0) → ((a ≡ true) ↔ P) → ((b ≡ true) ↔ Q) → a ≡ false → (not b ≡ true) ↔ ((P → ⊥) × (Q → ⊥))
neither_of a true P Q p q none = ((λ is. absurd (true≢false (sym is))), (λ both. absurd (both.1 (q.0 refl))))
neither_of a false P Q p q none = (
  (λ is. ((λ h. absurd (true≢false (sym (p.1 h) ∙ none))), (λ h. absurd (true≢false (sym (q.1 h)))))),
  (λ both. refl),
)

pub one_of : (a b : Bool) (P Q : Type 0) → ((a ≡ true) ↔ P) → a ≡ true → (false ≡ true) ↔ ((P → ⊥) × (Q → ⊥))
one_of a b P Q p some = ((λ is. absurd (true≢false (sym is))), (λ both. absurd (both.0 (p.0 some))))

-- what isn't told to be so isn't
pub not_told : (b : Bool) (P : Type 0) → ((b ≡ true) ↔ P) → b ≡ false → P → ⊥
not_told b P says none h = true≢false (sym (says.1 h) ∙ none)
