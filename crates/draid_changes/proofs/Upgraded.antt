-- Version 2 is asked for in all metaslabs of a pool and of its uberblock.
use Rattle.std.proofs.Common.{◌≡◌, ◌+◌, ◌++◌, ◌∙◌, [], ◌∷◌, inl, inr, ℕ, true, false, List, Option, Some, None, arith, refl, sym, ap, subst, length, ◌<◌}
use Rattle.std.specs.Prelude.{nat_eq, slice_get, ◌↔◌}
use Rattle.std.specs.HashMap.{get}
use Rattle.std.proofs.lemmas.List.Elements.{All-weaker}
use Rattle.std.proofs.lemmas.Option.{slice_get_within}
use Rattle.draid_names.specs.declared.pointer.Pointer.{Pointer}
use Rattle.draid_rack.specs.declared.Rack as racks
use Rattle.draid_area.specs.declared.Area as areas
use Rattle.draid_machine.specs.declared.event.Event.TheVariants as event
use Rattle.draid_machine.specs.Images.{IsImage}
use Rattle.draid_machine.specs.State as machine
use Rattle.draid_machine.specs.Step.{UpgradeStep}
use Rattle.draid_machine.proofs.Small.{bool_cases, none_some}
use Rattle.draid_segments.specs.Segments.{Pieces}
use Rattle.draid_shard.specs.Part.{Part}
use Rattle.draid_shard.specs.declared.shard.Shard.{Shard}
use Rattle.draid_uber.specs.Checks.{AreasStand, count_in, told_by}
use Rattle.draid_uber.specs.Uber as ubers
use Rattle.draid_uber.specs.Uber.{areas_of, kept_of, layout_of, next_leaf_of, version_of, point_of, changed_of}
use Rattle.draid_uber.specs.declared.uber.Uber.{Uber}
use Rattle.draid_session.specs.Arms as arms
use Rattle.draid_session.specs.Holds.{AsksVersion, Did, OnUber, UberView}
use Rattle.draid_session.specs.Phases.{Chain, Went}
use Rattle.draid_session.specs.State.{Metaslab, State}
use Rattle.draid_session.specs.Versions.{Asks}
use Rattle.draid_pool.specs.Carries.{CarriesOut}
use Rattle.draid_pool.specs.Importable.{IsAlike, Shared}
use Rattle.draid_pool.specs.Metaslabs.{IsMetaslab}
use Rattle.draid_pool.specs.Pools.{Represents, part_in}
use Rattle.draid_pool.specs.Records.{LeavesAreBelow}
use Rattle.draid_pool.specs.Syncing.{AreIdle, Phase, Turns}
use Rattle.draid_pool.specs.Ubers.{IsPending, IsUber, kept_in, check_told}
use Rattle.draid_pool.specs.declared.pool.Pool.{Pool}
use Rattle.draid_pool.proofs.Dids.{Done, did_with, records_same}
use Rattle.draid_pool.proofs.Lifted.{metaslab_of}
use Rattle.draid_pool.proofs.Lists.{present}
use Rattle.draid_pool.proofs.Steps.{carried, follows_on}
use Rattle.draid_pool.proofs.Stood.{IsOneOf, Rest, Stood, represents_of, stood_of}
use Rattle.draid_pool.proofs.Turns.{state_sound}
use Rattle.draid_changes.specs.Upgrading.{Upgrades, UpgradesIn}
use Rattle.draid_changes.specs.Walks.{ChangedBelow}
use Rattle.draid_changes.proofs.Events.{unsealed}
use Rattle.draid_changes.proofs.Switched.{counts_stay}
use Rattle.draid_changes.proofs.Walk.{ChangesAll, IsChanged, changes_all}
use Rattle.draid_uber.specs.Points.{told_at}
use Rattle.draid_checkpoint.specs.Check.{Point}
use Rattle.draid_session.specs.Points.{HasLateMark}

-- ---- a metaslab

-- what all metaslabs have in common then
abbrev pub asked_shared : Shared → Shared
asked_shared shared = record shared { version = 2 }

changed_state : (x : State) (shared : Shared) (y v : Metaslab) → UpgradeStep y.world v.world → y.world.sealed ≡ None → IsAlike shared y.world → IsChanged x (asked_shared shared) y v
changed_state x shared y v step none is = record {
  held = ap (λ (s : machine.State). s.core.held) step.made;
  committed = ap (λ (s : machine.State). s.committed) step.made;
  images = λ image own. subst (λ (s : machine.State). IsImage s image) (sym step.made) own;
  leaves = λ below. subst (LeavesAreBelow x.kept_leaf x.next_leaf) (sym step.made) (record { kept = below.kept; sealed = below.sealed; now = below.now });
  alike = subst (IsAlike (asked_shared shared)) (sym step.made) (record {
    versions = record { asked = refl; kept = is.versions.kept; sealed = λ image of. absurd (none_some y.world.sealed image none of) };
    same = record { order = is.same.order; now = is.same.now; kept = is.same.kept; sealed = is.same.sealed };
  });
  opens = (let same = ap (λ (s : machine.State). s.open_group) step.made in omega (arith, same));
}

module _ {R A : Type 0} (rack : racks.Ghosts R) (area : areas.Ghosts A) where
  upgrade_turns : (x : State) (shared : Shared) (old new : Shard R A) → Upgrades rack old new → (part : Part) (pieces : Pieces) (y : Metaslab) → IsMetaslab rack area part pieces old y → y.world.sealed ≡ None → IsAlike shared y.world
      → Turns rack area part pieces y new (λ hold v. arms.Happens part.geometry part.perms event.Upgrade part.number hold × IsChanged x (asked_shared shared) y v)
  upgrade_turns x shared old new s part pieces y is none alike =
      let d : Done rack area part pieces new event.Upgrade y
      = did_with rack area part pieces old new event.Upgrade y is s.valid s.does (s.acts pieces) (λ v step. refl) s.reserve.limit s.reserve.reserved
      (λ v step is_in. counts_stay rack area old new y.world v s.kit)
      (λ v step image now. records_same rack area part y.world old new s.kit.areas is.records image (subst (λ (w : machine.State). IsImage w image) step.made now)) tt in
      record {
        act = Did event.Upgrade d.reached.world;
        reached = d.reached;
        acts = d.acts;
        done = ((refl, refl), changed_state x shared y d.reached d.step none alike);
        is = d.is;
      }

  -- ---- the uberblock

  -- it is to have version 2
  pub record AsksUber (old new : Uber A) : Type 0 where
    pub valid : ubers.Valid area.size new
    pub version : version_of new ≡ 2
    pub areas_is : areas_of new ≡ areas_of old
    pub kept : kept_of new ≡ kept_of old
    pub layout : layout_of new ≡ layout_of old
    pub next_leaf : next_leaf_of new ≡ next_leaf_of old
    pub point : point_of new ≡ point_of old
    pub changed : changed_of new ≡ changed_of old

  -- where no group is closing no commit was refused
  idle_settled : (pool : Pool R A) (x : State) → Represents rack area pool x → AreIdle pool.metaslabs.shards.items → x.pending ≡ false
  idle_settled pool x r idle = elim (bool_cases x.pending) [
    | inl pending ↦ absurd (refused pending)
    | inr none ↦ none
  ]
    where
      some : (y : Metaslab) × (slice_get x.metaslabs 0 ≡ Some y)
      some = present x.metaslabs 0 (let many = r.stands.many in let one = r.stands.layout.geometry_is.props.some_metaslabs in omega (arith, many, one))

      shard : (z : Shard R A) × (slice_get pool.metaslabs.shards.items 0 ≡ Some z)
      shard = present pool.metaslabs.shards.items 0 (let long = r.stands.shards in let within = slice_get_within x.metaslabs 0 some.0 some.1 in omega (arith, long, within))

      refused : x.pending ≡ true → ⊥
      refused pending =
          let is = r.stands.each 0 shard.0 some.0 shard.1 some.1 in
          let has = r.stands.images (x.committed + 1) 0 some.0 (inr (pending, refl)) (omega arith) some.1 in
          let sound = state_sound rack area (part_in x 0) (r.stands.pieces 0) shard.0 some.0 is in
          let committed = r.stands.groups.committed 0 some.0 some.1 in
          elim has.is [
            | inl own ↦
                let of = has.of in
                let group : has.image.group ≡ some.0.world.committed = ap (λ (i : machine.Image). i.group) (sym own) ∙ sound.groups.image_is in
                absurd (omega (arith, of, group, committed))
            | inr sealed ↦ absurd (none_some some.0.world.sealed has.image (unsealed rack area (part_in x 0) (r.stands.pieces 0) shard.0 some.0 is (idle 0 shard.0 shard.1)) sealed)
          ]

  -- the state that is reached
  abbrev pub asked_state : State → List Metaslab → State
  asked_state x metaslabs = record x { metaslabs = metaslabs; next_version = 2 }

  uber_asked : (old new : Uber A) (x : State) (metaslabs : List Metaslab) → AsksUber old new → x.pending ≡ false → IsUber area old x → IsUber area new (asked_state x metaslabs)
  uber_asked old new x metaslabs a settled is = record {
    valid = a.valid;
    layout = a.layout ∙ is.layout;
    version = a.version;
    kept = a.kept ∙ is.kept;
    next_leaf = a.next_leaf ∙ is.next_leaf;
    point = λ group late. ap (λ (p : Point). told_at p group) a.point ∙ is.point group late;
    late = λ group above. subst (λ n. HasLateMark group x.store.marks ↔ (group < n)) (sym a.changed) (is.late group above);
    count = is.count ∙ ap (count_in area.faults) (sym a.areas_is);
    stands = record {
      pending = is.stands.pending;
      are = All-weaker (IsPending x) (IsPending (asked_state x metaslabs)) (λ body pending. absurd (let no = sym settled ∙ pending.0 in cc)) is.stands.pending is.stands.are;
      stands = subst (λ t. AreasStand (check_told x.store.marks) (kept_in x) is.stands.pending (told_by area.told t)) (sym a.areas_is) is.stands.stands;
    };
  }

  stood_asked : (shards : List (Shard R A)) (table : ℕ → Option Pointer) (x : State) (metaslabs : List Metaslab) (says : ℕ → Metaslab → Type 0) → Stood rack area shards table (record x { metaslabs = metaslabs }) says
      → Stood rack area shards table (asked_state x metaslabs) says
  stood_asked shards table x metaslabs says s = record {
    layout = s.layout;
    many = s.many;
    shards_are = s.shards_are;
    pieces = s.pieces;
    each = s.each;
    holds = s.holds;
    only = s.only;
    checks = s.checks;
    marked = s.marked;
    objects = s.objects;
    images = s.images;
    leaves = record { order = s.leaves.order; each = s.leaves.each };
    said = s.said;
  }

  -- ---- the pool

  -- but for its metaslabs and the uberblock it is as it was
  pub record AsksPool (pool new : Pool R A) : Type 0 where
    pub metaslabs : ChangedBelow (UpgradesIn rack) (length pool.metaslabs.shards.items) pool.metaslabs.shards.items new.metaslabs.shards.items
    pub uber : AsksUber pool.uber new.uber
    pub geometry : new.geometry ≡ pool.geometry
    pub objects : new.own.objects ≡ pool.own.objects
    pub seq : new.own.seq ≡ pool.own.seq
    pub floor : new.own.floor ≡ pool.own.floor

  -- no metaslab asks for version 2, where the uberblock doesn't
  asks_one : (pool : Pool R A) (x : State) (r : Represents rack area pool x) → version_of pool.uber ≡ 1 → (m : ℕ) (shard : Shard R A) → slice_get pool.metaslabs.shards.items m ≡ Some shard → shard.asked ≡ 1
  asks_one pool x r one m shard there =
      let z = metaslab_of rack area pool x r.stands m shard there in
      sym z.is.stands.is_in.asked ∙ ((r.stands.alike m z.y z.at).versions.asked ∙ (r.stands.versions.now ∙ (sym r.stands.uber.version ∙ one)))

  pub asked_done : (pool new : Pool R A) (x : State) → Represents rack area pool x → version_of pool.uber ≡ 1 → AreIdle pool.metaslabs.shards.items → AsksPool pool new
      → CarriesOut rack area new x (Phase x (Chain (arms.EventPhase x.geometry x.perms event.Upgrade) Asks) Went)
  unfolding stood_of
  asked_done pool new x r one idle a =
      carried rack area new x (c.holds ++ OnUber view (AsksVersion 2) ∷ []) reached (Phase x (Chain (arms.EventPhase x.geometry x.perms event.Upgrade) Asks) Went)
      (follows_on c.holds (OnUber view (AsksVersion 2) ∷ []) x (record x { metaslabs = c.metaslabs }) reached c.follows (reached, record { sees = refl; acts = refl }, refl))
      (represents_of rack area new after reached own rest) (refl, inl (c.holds, OnUber view (AsksVersion 2) ∷ [], refl, (c.each, refl), (view, refl, refl)))
    where
      after : Shared
      after = asked_shared r.stands.shared

      view : UberView
      view = record { committed = x.committed; next_leaf = x.next_leaf }

      turn : (m : ℕ) (pieces : Pieces) (shard z : Shard R A) (y : Metaslab) → slice_get pool.metaslabs.shards.items m ≡ Some shard → IsMetaslab rack area (part_in x m) pieces shard y → UpgradesIn rack shard z → IsAlike r.stands.shared y.world
          → Turns rack area (part_in x m) pieces y z (λ hold v. arms.Happens x.geometry x.perms event.Upgrade m hold × IsChanged x (asked_shared r.stands.shared) y v)
      turn m pieces shard z y there is (inl s) alike = upgrade_turns x r.stands.shared shard z s (part_in x m) pieces y is (unsealed rack area (part_in x m) pieces shard y is (idle m shard there)) alike
      turn m pieces shard z y there is (inr s) alike = absurd (s.1 (asks_one pool x r one m shard there))

      c : ChangesAll rack area pool.metaslabs.shards.items new.metaslabs.shards.items (λ object. get nat_eq pool.own.objects object) x r.stands.shared (asked_shared r.stands.shared) (arms.Happens x.geometry x.perms event.Upgrade)
          (UpgradesIn rack) a.metaslabs turn
      c = changes_all rack area pool.metaslabs.shards.items new.metaslabs.shards.items (λ object. get nat_eq pool.own.objects object) x r.stands.shared (asked_shared r.stands.shared) (arms.Happens x.geometry x.perms event.Upgrade)
          (UpgradesIn rack) a.metaslabs turn (stood_of rack area pool x r)

      reached : State
      reached = asked_state x c.metaslabs

      own : Stood rack area new.metaslabs.shards.items (λ object. get nat_eq new.own.objects object) reached (IsOneOf x.committed after)
      own = subst (λ os. Stood rack area new.metaslabs.shards.items (λ object. get nat_eq os object) (asked_state x c.metaslabs) (IsOneOf x.committed (asked_shared r.stands.shared))) (sym a.objects)
          (stood_asked new.metaslabs.shards.items (λ object. get nat_eq pool.own.objects object) x c.metaslabs (IsOneOf x.committed (asked_shared r.stands.shared)) c.stood)

      rest : Rest rack area new after reached
      rest = record {
        geometry = r.stands.geometry ∙ sym a.geometry;
        versions = record { kept = r.stands.versions.kept; now = refl };
        next = r.stands.groups.next;
        last = r.stands.groups.last;
        seq = r.stands.seq ∙ sym a.seq;
        floor = r.stands.floor ∙ sym a.floor;
        uber = uber_asked pool.uber new.uber x c.metaslabs a.uber (idle_settled pool x r idle) r.stands.uber;
      }
