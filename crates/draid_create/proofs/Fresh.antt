-- A pool that was just created.
use Rattle.std.proofs.Common.{arith, ◌≡◌, ◌<◌, ◌≤◌, ◌+◌, ◌∙◌, ◌⊎◌, inl, inr, ℕ, zero, suc, Bool, true, false, List, [], ◌∷◌, Option, Some, None, refl, sym, ap, subst, length, map, if◌then◌else◌}
use Rattle.std.specs.Prelude.{IsSome, IsSomeAnd, IsTrue, MatchOption, is_some, max, nat_eq, nat_lt, option_map, replicate, slice_get}
use Rattle.std.specs.HashMap.{get}
use Rattle.std.proofs.lemmas.Bool.{cases_lt}
use Rattle.std.proofs.lemmas.Bool.Decides.{nat_tests}
use Rattle.std.proofs.lemmas.List.{length-map, length-replicate}
use Rattle.std.proofs.lemmas.List.Elements.{All-cons, All-nil}
use Rattle.std.proofs.lemmas.Option.{slice_get_within}
use Rattle.sha2.specs.Sha256.{sha256}
use Rattle.draid_names.specs.declared.pointer.Pointer.{Pointer}
use Rattle.draid_rack.specs.Rack as racks_told
use Rattle.draid_rack.specs.Rack.{Shape, Told}
use Rattle.draid_rack.specs.declared.Rack as racks
use Rattle.draid_area.specs.Area.{Content, OnTold}
use Rattle.draid_area.specs.declared.Area as areas
use Rattle.draid_spec.specs.declared.layout.Geometry.{Geometry}
use Rattle.draid_spec.specs.Geometry.{IsGeometry}
use Rattle.draid_perm.specs.declared.perms.Perms.{Perms}
use Rattle.draid_map.specs.Place.{IsLayout}
use Rattle.draid_machine.specs.declared.names.ArmName.{ArmName}
use Rattle.draid_machine.specs.declared.names.ArmName.TheVariants.{Leaf, Spare}
use Rattle.draid_machine.specs.declared.names.Key.{Key}
use Rattle.draid_machine.specs.declared.names.Held.{Held as Block}
use Rattle.draid_machine.specs.Created.{created, created_arm, created_core, new_arm}
use Rattle.draid_machine.specs.Images.{IsImage}
use Rattle.draid_machine.specs.State.{Image}
use Rattle.draid_machine.specs.State as machine
use Rattle.draid_objects.specs.Blocks.{Blocks, none_held, table_of}
use Rattle.draid_objects.specs.Stores.{IsFloor, Stores}
use Rattle.draid_objects.proofs.Keeping.{none_floor, none_stored}
use Rattle.draid_record.specs.declared.uber.UberBody.{UberBody}
use Rattle.draid_segments.specs.Segments.{Backed, Pieces}
use Rattle.draid_segments.proofs.Beginning.{created_backed}
use Rattle.draid_shelf.specs.Kits.{AreNewChecks, ChecksTold, Held, IsNewArea, IsNewKit, IsNewPool, IsNewRack, IsUncounted, KitCounts, KitTold, OnHeld, checks_of, uber_bytes}
use Rattle.draid_layouts.specs.Layout as layouts
use Rattle.draid_shard.specs.Alike.{ShareArms}
use Rattle.draid_shard.specs.Part.{Part, layout_in}
use Rattle.draid_shard.specs.States.{IsIn, layout_by}
use Rattle.draid_shard.specs.declared.shard.Shard.{Shard}
use Rattle.draid_uber.specs.declared.areas.Areas.{Areas}
use Rattle.draid_uber.specs.declared.uber.Uber.{Uber}
use Rattle.draid_uber.specs.Checks.{AreasStand, AreasTold, CheckStands, HasCheck, told_by}
use Rattle.draid_uber.specs.Slots.{StandsTold, group_of}
use Rattle.draid_uber.specs.Uber as ubers
use Rattle.draid_uber.specs.Uber.{areas_of, count_of, kept_of, layout_of, next_leaf_of, next_of, point_of, changed_of, version_of}
use Rattle.draid_uber.proofs.Recorded.{empty_stands, stand_named, stand_pending}
use Rattle.draid_session.specs.Making.{IsCalm, IsFresh, IsNew}
use Rattle.draid_session.specs.Opening.{MayFind, VersionIn}
use Rattle.draid_session.specs.Session.{uncommitted}
use Rattle.draid_session.specs.State.{Metaslab, State}
use Rattle.draid_pool.specs.Returning.{OwnCounts, Returns, TakesBack, own_count}
use Rattle.draid_pool.specs.Metaslabs.{IsMetaslab, counts_of, harm_of}
use Rattle.draid_pool.specs.Objects.{HoldsObjects, PointsTo, blocks_of}
use Rattle.draid_create.specs.Opening.{AreNewAreas, AreOpened, HasNewKits, IsAway, IsBackAgain, IsMade, IsOpened, IsRefused, NoChecks, Opens, SameButRecords, rack_in}
use Rattle.draid_pool.specs.Taking.{AreSilent, HoldsMade, TakesFirst, TellsAreas, gives_areas, takes_areas}
use Rattle.draid_pool.specs.Pools.{Represents}
use Rattle.draid_pool.specs.Importable.{AllAlike, IsAlike, Shared}
use Rattle.draid_pool.specs.Records.{HasImages, HasLeafNumbers, HasRecords, LeavesAreBelow}
use Rattle.draid_pool.specs.Ubers.{IsPending, IsUber, body_of, check_told}
use Rattle.draid_pool.proofs.Pointing.{none_kept, unmarked_told}
use Rattle.draid_pool.proofs.Unmarked.{all_behind, none_marked, not_late}
use Rattle.draid_pool.proofs.Wholes.{fits_none}
use Rattle.draid_objects.specs.Marks.{mark_group}
use Rattle.draid_checkpoint.specs.Check.{Point}
use Rattle.draid_pool.specs.Whole.{IsWhole}
use Rattle.draid_pool.specs.declared.pool.Pool.{Pool}
use Rattle.draid_pool.proofs.Alike.{alike_as, alike_created, created_same, one_shared}
use Rattle.draid_pool.proofs.Arms.{have_same, leaf_named, none_detached}
use Rattle.draid_pool.proofs.Returned.{Parts, counted_as, holds_pool}
use Rattle.draid_pool.proofs.Importables.{importable_back}
use Rattle.draid_pool.specs.Threads.{IsNear}
use Rattle.draid_pool.proofs.Lists.{ext, present, some_of}
use Rattle.draid_machine.proofs.Small.{none_some}

-- what an image at a place is of
unmapped : {A B : Type 0} (f : A → B) (xs : List A) (m : ℕ) (y : B) → slice_get (map f xs) m ≡ Some y → (x : A) × (slice_get xs m ≡ Some x) × (f x ≡ y)
unmapped f [] m y there = absurd (cc)
unmapped f (x ∷ xs) zero y there = (x, refl, cc)
unmapped f (x ∷ xs) (suc m) y there = unmapped f xs m y there

-- what is there, and is so
some_of_and : {A : Type 0} (o : Option A) (P : A → Type 0) → IsSomeAnd o P → (x : A) × (o ≡ Some x) × P x
some_of_and None P h = absurd h
some_of_and (Some x) P h = (x, refl, h)

always : (o : Option Told) (P : Told → Type 0) → ((x : Told) → P x) → racks_told.OnTold o P
always None P h = tt
always (Some x) P h = h x

points_none : {R A : Type 0} (shards : List (Shard R A)) (o : Option Pointer) → o ≡ None → PointsTo shards o None
points_none shards o none = subst (λ z. PointsTo shards z None) (sym none) tt

-- a new metaslab has no detached arm
created_here : (l : machine.Layout) (n : ArmName) (a : machine.Arm) → created_arm l n ≡ Some a → a.gone ≡ None
created_here l (Leaf m) a own = by (nat_lt m l.slots) own
  where
    by : (b : Bool) → (if b then Some new_arm else None) ≡ Some a → a.gone ≡ None
    by true own = ap (λ (c : machine.Arm). c.gone) (sym (some_of (Some new_arm) new_arm a refl own))
    by false own = absurd (cc)
created_here l (Spare t) a own = absurd (cc)

-- where some is there only if a test says so
below_test : (b : Bool) (leaf n : ℕ) → (b ≡ true → leaf < n) → IsSome (if b then Some new_arm else None) → leaf < n
below_test false leaf n less some = absurd (cc)
below_test true leaf n less some = less refl

leaf_less : (leaf n m : ℕ) → n ≡ m → nat_lt leaf n ≡ true → leaf < m
leaf_less leaf n m same less = grind (arith, nat_tests, same, less)

module _ {R A : Type 0} (rack : racks.Ghosts R) (area : areas.Ghosts A) where
  -- the metaslab that a new shard is
  abbrev metaslab_of : Shard R A → Metaslab
  metaslab_of shard = record {
    opened = created (layout_by shard) shard.geometry.props.version;
    events = [];
    world = created (layout_by shard) shard.geometry.props.version;
    reserved = 0;
    counts = counts_of rack area shard;
    harm = harm_of (rack.told shard.rack);
  }

  abbrev pub state_of : Geometry → Perms → List (Shard R A) → ℕ → Bool → State
  state_of geometry perms shards count told = record {
    geometry = geometry;
    perms = perms;
    metaslabs = map metaslab_of shards;
    store = record { changes = []; marks = []; seq = 0; floor = 0 };
    committed = 1;
    kept_leaf = geometry.spec.children;
    next_leaf = geometry.spec.children;
    kept_version = geometry.props.version;
    next_version = geometry.props.version;
    uber_count = count;
    pending = false;
    told = told;
  }

  abbrev none : Pieces
  none key column row = None

  -- ---- the uberblock

  module _ (geometry : Geometry) (old new : Uber A) (layout : layout_of old ≡ geometry) (version : version_of old ≡ geometry.props.version) (next_leaf : next_leaf_of old ≡ geometry.spec.children) where
    -- what its first commit writes
    pub first_body : next_of old 1 ≡ body_of geometry geometry.props.version 1 geometry.spec.children
    first_body = λ i. record { group = 1; spec = (layout i).spec; props = ubers.with_version (layout i).props (version i); next_leaf = next_leaf i }

    pub first_layout : layout_of new ≡ ubers.layout_in (layout_of old) (version_of old) → layout_of new ≡ geometry
    first_layout is = is ∙ (λ i. ubers.layout_in (layout i) (version i))

    pub is_uber : (perms : Perms) (shards : List (Shard R A)) (told : Bool) → ubers.Valid area.size new → kept_of new ≡ Some (next_of old 1) → layout_of new ≡ ubers.layout_in (layout_of old) (version_of old)
        → version_of new ≡ version_of old → next_leaf_of new ≡ next_leaf_of old → (point_of old).group ≡ None → point_of new ≡ point_of old → changed_of new ≡ 0
        → AreasStand (check_told []) (Some (next_of old 1)) [] (told_by area.told (areas_of new)) → IsUber area new (state_of geometry perms shards (count_of area.faults new) told)
    is_uber perms shards told valid kept layout_is version_is leaf_is none point changed stands = record {
      valid = valid;
      layout = first_layout layout_is;
      version = version_is ∙ version;
      kept = kept ∙ ap (λ (b : UberBody). Some b) first_body;
      next_leaf = leaf_is ∙ next_leaf;
      point = λ group late. none_kept (point_of new) [] group (ap (λ (p : Point). p.group) point ∙ none) refl;
      late = λ group up. ((λ late. absurd (not_late group [] refl late)), (λ less. absurd (omega (arith, less, changed))));
      count = refl;
      stands = record { pending = []; are = All-nil (IsPending (state_of geometry perms shards (count_of area.faults new) told)); stands = subst (λ (b : UberBody). AreasStand (check_told []) (Some b) [] (told_by area.told (areas_of new))) first_body stands };
    }

  module _ (geometry : Geometry) (whole : IsGeometry geometry) (held : Option Held) (counts : ℕ → KitCounts) (shards : List (Shard R A)) (opened : AreOpened rack area geometry held counts shards) where
    -- ---- one metaslab

    world_is : (m : ℕ) (shard : Shard R A) → IsOpened rack area (record { geometry = geometry; perms = opened.perms; number = m }) held (counts m) shard
        → created (layout_by shard) shard.geometry.props.version ≡ created (layout_in (record { geometry = geometry; perms = opened.perms; number = m })) geometry.props.version
    world_is m shard is = ap (λ (p : Part). created (layout_in p) p.geometry.props.version) is.part_is

    is_metaslab : (m : ℕ) (shard : Shard R A) → IsOpened rack area (record { geometry = geometry; perms = opened.perms; number = m }) held (counts m) shard
        → IsMetaslab rack area (record { geometry = geometry; perms = opened.perms; number = m }) none shard (metaslab_of shard)
    is_metaslab m shard is = record {
      valid = is.valid;
      part_is = is.part_is;
      stands = record {
        is_in = subst (IsIn shard) (sym (world_is m shard is)) is.created_is;
        reached = record { version = shard.geometry.props.version; one = subst (λ (p : Part). (p.geometry.props.version ≡ 1) ⊎ (p.geometry.props.version ≡ 2)) (sym is.part_is) whole.version; events = []; run = refl };
        segments = always (rack.told shard.rack) (Backed (layout_by shard) none (created (layout_by shard) shard.geometry.props.version))
            (λ x. created_backed (layout_by shard) shard.geometry.props.version none x);
      };
      run = refl;
      events = sym is.events;
      limit = is.limit;
      reserved = sym is.reserved;
      counts = refl;
      harm = refl;
      records = subst (λ (w : machine.State). HasRecords (record { geometry = geometry; perms = opened.perms; number = m }) w (area.told shard.even) (area.told shard.odd))
          (sym (world_is m shard is)) is.records;
      bytes = λ key h there block. absurd (none_some None h refl there);
    }

    is_new : ((m : ℕ) → m < geometry.props.metaslabs → IsUncounted (counts m)) → (m : ℕ) (shard : Shard R A) → m < geometry.props.metaslabs
        → IsOpened rack area (record { geometry = geometry; perms = opened.perms; number = m }) held (counts m) shard → IsNew geometry opened.perms m (metaslab_of shard)
    is_new uncounted m shard below is = record {
      opened = world_is m shard is;
      world = refl;
      events = refl;
      reserved = refl;
      counts = λ who. is.rack_count who ∙ (uncounted m below).no_rack who;
    }

    -- where the shelf told, no sector is harmed
    calm_by : (h : Option Held) (m : ℕ) (shard : Shard R A) → IsTrue (is_some h) → OnHeld h (HasNewKits geometry) → m < geometry.props.metaslabs
        → OnHeld h (λ x. IsSomeAnd (x.kits m) (λ kit. rack.told shard.rack ≡ Some kit.rack)) → IsCalm (metaslab_of shard).harm
    calm_by None m shard told new below is = absurd (cc)
    calm_by (Some x) m shard told new below is =
        let k = some_of_and (x.kits m) (IsNewKit geometry) (new.kits m below) in
        let r : rack.told shard.rack ≡ Some k.0.rack = subst (λ (o : Option KitTold). IsSomeAnd o (λ kit. rack.told shard.rack ≡ Some kit.rack)) k.1 is in
        subst (λ (o : Option Told). IsCalm (harm_of o)) (sym r) (k.2.rack.harmed)

    -- the leaves of a new metaslab have numbers below that of the next
    leaf_below : (m : ℕ) (shard : Shard R A) (leaf : ℕ) → IsOpened rack area (record { geometry = geometry; perms = opened.perms; number = m }) held (counts m) shard
        → IsSome ((created (layout_by shard) shard.geometry.props.version).core.arm (Leaf leaf)) → leaf < geometry.spec.children
    leaf_below m shard leaf is some =
        let slots : shard.geometry.spec.children ≡ geometry.spec.children = ap (λ (p : Part). p.geometry.spec.children) is.part_is in
        below_test (nat_lt leaf shard.geometry.spec.children) leaf geometry.spec.children (leaf_less leaf shard.geometry.spec.children geometry.spec.children slots) some

    -- none of its arms is detached
    detached_first : (m : ℕ) (shard : Shard R A) → slice_get shards m ≡ Some shard → shard.slots.detached ≡ []
    detached_first m shard there =
        let is = opened.each m shard there in
        none_detached shard.slots (created_core (layout_in (record { geometry = geometry; perms = opened.perms; number = m }))) is.created_is.slots
        (λ n a own. created_here (layout_in (record { geometry = geometry; perms = opened.perms; number = m })) n a own)

    -- all have the same arms
    share_first : (m n : ℕ) (a b : Shard R A) → slice_get shards m ≡ Some a → slice_get shards n ≡ Some b → ShareArms a.slots b.slots
    share_first m n a b at here =
        let one = opened.each m a at in
        let other = opened.each n b here in
        let first = one.valid.slots.geometry_is ∙ ap (λ (p : Part). p.geometry) one.part_is in
        let second = other.valid.slots.geometry_is ∙ ap (λ (p : Part). p.geometry) other.part_is in
        record {
          arms = have_same a.slots b.slots (created_core (layout_in (record { geometry = geometry; perms = opened.perms; number = m }))) (created_core (layout_in (record { geometry = geometry; perms = opened.perms; number = n })))
              one.created_is.slots other.created_is.slots (created_same (layouts.layout_of geometry opened.perms m) (layouts.layout_of geometry opened.perms n) refl)
              (ap (λ (g : Geometry). g.spec.children) (second ∙ sym first));
          detached = detached_first n b here ∙ sym (detached_first m a at);
        }

    -- ---- all

    below_all : (m : ℕ) (shard : Shard R A) → slice_get shards m ≡ Some shard → m < geometry.props.metaslabs
    below_all m shard there = (let within = slice_get_within shards m shard there in let many = opened.many in omega (arith, within, many))

    held_at : (o : Option Metaslab) (k : Key) → ((y : Metaslab) → o ≡ Some y → (shard : Shard R A) × (metaslab_of shard ≡ y))
        → table_of (option_map (λ (x : Metaslab). x.world) o) k ≡ None
    held_at None k from = refl
    held_at (Some y) k from = (let f = from y refl in ap (λ (z : Metaslab). z.world.core.held k) (sym f.1))

    blocks_none : blocks_of (map metaslab_of shards) ≡ (λ m. none_held)
    blocks_none = ext (blocks_of (map metaslab_of shards)) (λ m. none_held)
        (λ m. ext (blocks_of (map metaslab_of shards) m) none_held (λ k. held_at (slice_get (map metaslab_of shards) m) k (λ y there. (let u = unmapped metaslab_of shards m y there in (u.0, u.2)))))

    not_held : (m : ℕ) (k : Key) (h : Block) → blocks_of (map metaslab_of shards) m k ≡ Some h → ⊥
    not_held m k h is = (let empty : blocks_of (map metaslab_of shards) m k ≡ None = ap (λ (b : Blocks). b m k) blocks_none in absurd (cc))

    holds_none : (committed : ℕ) → HoldsObjects geometry committed (record { changes = []; marks = []; seq = 0; floor = 0 }) (blocks_of (map metaslab_of shards)) (λ m. none)
    holds_none committed = record {
      stores = subst (λ (b : Blocks). Stores sha256 committed [] [] b) (sym blocks_none) (none_stored sha256 committed);
      floors = λ object. subst (λ (b : Blocks). IsFloor [] b object 0) (sym blocks_none) (none_floor object 0);
      settled = λ m k h is. absurd (not_held m k h is);
      numbered = λ m k h is. absurd (not_held m k h is);
      positive = All-nil (λ m. 1 ≤ mark_group m);
      bytes = λ m k h write is by. absurd (not_held m k h is);
    }

    each_metaslab : (items : List (Shard R A)) → items ≡ shards → (m : ℕ) (shard : Shard R A) (y : Metaslab) → slice_get items m ≡ Some shard → slice_get (map metaslab_of shards) m ≡ Some y
        → IsMetaslab rack area (record { geometry = geometry; perms = opened.perms; number = m }) none shard y
    each_metaslab items same m shard y there there' =
        let u = unmapped metaslab_of shards m y there' in
        let at : slice_get shards m ≡ Some shard = ap (λ (xs : List (Shard R A)). slice_get xs m) (sym same) ∙ there in
        let equal : shard ≡ u.0 = some_of (slice_get shards m) shard u.0 at u.1 in
        subst (IsMetaslab rack area (record { geometry = geometry; perms = opened.perms; number = m }) none shard) (ap metaslab_of equal ∙ u.2) (is_metaslab m shard (opened.each m shard at))

    -- each has an image of group 1 alone
    images_first : (x : State) → x.metaslabs ≡ map metaslab_of shards → ((group : ℕ) → MayFind x group → 0 < group → group ≡ 1) → HasImages x
    images_first x are one group m y found some there =
        let u = unmapped metaslab_of shards m y (ap (λ (ys : List Metaslab). slice_get ys m) (sym are) ∙ there) in
        record { image = y.world.image; is = inl refl; of = ap (λ (z : Metaslab). z.world.image.group) (sym u.2) ∙ sym (one group found some) }

    leaves_first : (x : State) → x.metaslabs ≡ map metaslab_of shards → x.kept_leaf ≡ geometry.spec.children → x.next_leaf ≡ geometry.spec.children → HasLeafNumbers x
    leaves_first x are kept next = record {
      order = omega (arith, kept, next);
      each = λ m y there.
          (let u = unmapped metaslab_of shards m y (ap (λ (ys : List Metaslab). slice_get ys m) (sym are) ∙ there) in
          let below = leaf_below m u.0 in
          let is = opened.each m u.0 u.1 in
          subst (λ (z : Metaslab). LeavesAreBelow x.kept_leaf x.next_leaf z.world) u.2 (record {
            kept = λ leaf some. (let less = below leaf is some in omega (arith, less, kept));
            sealed = λ image sealed. absurd (cc);
            now = λ leaf some. (let less = below leaf is some in omega (arith, less, next));
          }));
    }

    -- all have the version and the arms that new ones have
    abbrev first_shared : Shared
    first_shared = one_shared geometry.props.version (created_core (layouts.layout_of geometry opened.perms 0))

    alike_first : (x : State) → x.metaslabs ≡ map metaslab_of shards → AllAlike first_shared x
    alike_first x are m y there =
        let u = unmapped metaslab_of shards m y (ap (λ (ys : List Metaslab). slice_get ys m) (sym are) ∙ there) in
        subst (λ (z : Metaslab). IsAlike first_shared z.world) u.2
        (subst (IsAlike first_shared) (sym (world_is m u.0 (opened.each m u.0 u.1)))
        (alike_as geometry.props.version (created_core (layouts.layout_of geometry opened.perms m)) (created_core (layouts.layout_of geometry opened.perms 0))
        (created (layouts.layout_of geometry opened.perms m) geometry.props.version) (created_same (layouts.layout_of geometry opened.perms m) (layouts.layout_of geometry opened.perms 0) refl)
        (alike_created (layouts.layout_of geometry opened.perms m) geometry.props.version)))

    -- all have committed the first group
    first_committed : (m : ℕ) (y : Metaslab) → slice_get (map metaslab_of shards) m ≡ Some y → y.world.committed ≡ 1
    first_committed m y there = (let u = unmapped metaslab_of shards m y there in ap (λ (z : Metaslab). z.world.committed) (sym u.2))

    -- the image of each is of the first group, which is to have its version
    first_versions : (count : ℕ) (told : Bool) (m : ℕ) (y : Metaslab) (image : Image) → slice_get (map metaslab_of shards) m ≡ Some y → IsImage y.world image
        → VersionIn (uncommitted (state_of geometry opened.perms shards count told)) image.group image.version
    first_versions count told m y image there is =
        let u = unmapped metaslab_of shards m y there in
        by u.0 (ap (λ (p : Part). p.geometry.props.version) (opened.each m u.0 u.1).part_is) (subst (λ (z : Metaslab). IsImage z.world image) (sym u.2) is)
      where
        by : (shard : Shard R A) → shard.geometry.props.version ≡ geometry.props.version → IsImage (metaslab_of shard).world image
            → VersionIn (uncommitted (state_of geometry opened.perms shards count told)) image.group image.version
        by shard version (inl own) = inr (ap (λ (i : Image). i.group) (sym own), ap (λ (i : Image). i.version) (sym own) ∙ version)
        by shard version (inr sealed) = absurd (cc)

    -- ---- the pool

    module _ (count : ℕ) (told : Bool) where
      pub represents : (pool : Pool R A) → pool.geometry ≡ geometry → pool.metaslabs.shards.items ≡ shards → pool.own.seq ≡ 0 → pool.own.floor ≡ 0 → ((q : ℕ) → get nat_eq pool.own.objects q ≡ None)
          → IsUber area pool.uber (state_of geometry opened.perms shards count told) → Represents rack area pool (state_of geometry opened.perms shards count told)
      represents pool used items seq floor empty uber = record {
        stands = record {
          geometry = sym used;
          layout = opened.are_perms;
          many = length-map shards metaslab_of ∙ opened.many;
          shards = ap (λ (xs : List (Shard R A)). length xs) items ∙ sym (length-map shards metaslab_of);
          pieces = λ m. none;
          each = each_metaslab pool.metaslabs.shards.items items;
          holds = holds_none 1;
          groups = record {
            committed = first_committed;
            next = omega arith;
            last = omega arith;
            checks = λ m y there. all_behind 1 y.world.open_group;
            marked = none_marked (max 0 (1 + 1));
          };
          objects = λ object. points_none pool.metaslabs.shards.items (get nat_eq pool.own.objects object) (empty object);
          seq = sym seq;
          floor = sym floor;
          uber = uber;
          images = images_first (state_of geometry opened.perms shards count told) refl (λ group found some. elim found [ inl is ↦ is | inr is ↦ absurd (let none = is.0 in cc) ]);
          leaves = leaves_first (state_of geometry opened.perms shards count told) refl refl refl;
          shared = first_shared;
          versions = record { kept = refl; now = refl };
          alike = alike_first (state_of geometry opened.perms shards count told) refl;
        };
        only = λ m k h is live counts. absurd (not_held m k h is);
      }

      -- the pool of which the first commit was refused, as it is given back
      pub refused_parts : (own : AreasTold) (body : UberBody) → body ≡ body_of geometry geometry.props.version 1 geometry.spec.children → AreasStand (check_told []) None (body ∷ []) own
          → Parts rack area shards own (uncommitted (state_of geometry opened.perms shards count told))
      refused_parts own body is stands = let x = uncommitted (state_of geometry opened.perms shards count told) in record {
        layout = opened.are_perms;
        many = length-map shards metaslab_of ∙ opened.many;
        shards_are = sym (length-map shards metaslab_of);
        pieces = λ m. none;
        each = each_metaslab shards refl;
        holds = holds_none 0;
        uber = record { pending = body ∷ []; are = All-cons (IsPending x) body [] (refl, is) (All-nil (IsPending x)); stands = stands };
        images = images_first x refl
            (λ group found some. elim found [ inl is ↦ absurd (omega (arith, is, some)) | inr is ↦ (let at = is.1 in omega (arith, at)) ]);
        leaves = leaves_first x refl refl refl;
        shared = first_shared;
        versions = record { kept = refl; now = refl };
        alike = alike_first x refl;
      }

      pub is_fresh : ((m : ℕ) → m < geometry.props.metaslabs → IsUncounted (counts m)) → OnHeld held (HasNewKits geometry) → (IsTrue told → IsTrue (is_some held))
          → IsFresh geometry (state_of geometry opened.perms shards count told)
      is_fresh uncounted new telling = record {
        layout = refl;
        perms = opened.are_perms;
        many = length-map shards metaslab_of ∙ opened.many;
        each = λ m y there.
            (let u = unmapped metaslab_of shards m y there in
            subst (IsNew geometry opened.perms m) u.2 (is_new uncounted m u.0 (below_all m u.0 u.1) (opened.each m u.0 u.1)));
        calm = λ tells m y there.
            (let u = unmapped metaslab_of shards m y there in
            subst (λ (x : Metaslab). IsCalm x.harm) u.2 (calm_by held m u.0 (telling tells) new (below_all m u.0 u.1) (opened.each m u.0 u.1).told));
        store = refl;
        committed = refl;
        leaves = (refl, refl);
        versions = (refl, refl);
        pending = refl;
      }

    -- a pool whose uberblock names the first group is whole
    pub first_whole : (pool : Pool R A) → pool.geometry ≡ geometry → pool.metaslabs.shards.items ≡ shards → pool.own.floor ≡ 0 → ((q : ℕ) → get nat_eq pool.own.objects q ≡ None)
        → ubers.Valid area.size pool.uber → layout_of pool.uber ≡ geometry → group_of (kept_of pool.uber) ≡ 1 → next_leaf_of pool.uber ≡ geometry.spec.children
        → (point_of pool.uber).group ≡ None → (point_of pool.uber).drops ≡ [] → IsWhole rack area pool
    first_whole pool used items floor empty valid layout first next none undropped = record {
      perms = opened.perms;
      layout = subst (λ (x : Geometry). IsLayout x opened.perms) (sym used) opened.are_perms;
      many = ap (λ (xs : List (Shard R A)). length xs) items ∙ (opened.many ∙ ap (λ (x : Geometry). x.props.metaslabs) (sym used));
      shards = λ m shard there.
          (let at : slice_get shards m ≡ Some shard = ap (λ (xs : List (Shard R A)). slice_get xs m) (sym items) ∙ there in
          let is = opened.each m shard at in
          record {
            valid = is.valid;
            part = is.part_is ∙ ap (λ (x : Geometry). record { geometry = x; perms = opened.perms; number = m }) (sym used);
            numbered = λ key h there. (let none = is.created_is.held key in absurd (cc));
            settled = λ key h there. (let none = is.created_is.held key in absurd (cc));
            committed = sym is.created_is.committed ∙ sym first;
            leaves = λ leaf own. (let less = below_test (nat_lt leaf geometry.spec.children) leaf geometry.spec.children (leaf_less leaf geometry.spec.children geometry.spec.children refl)
                (leaf_named shard.slots (created_core (layout_in (record { geometry = geometry; perms = opened.perms; number = m }))) leaf is.created_is.slots (detached_first m shard at) own) in omega (arith, less, next));
          });
      alike = λ m n a b at here. share_first m n a b (ap (λ (xs : List (Shard R A)). slice_get xs m) (sym items) ∙ at) (ap (λ (xs : List (Shard R A)). slice_get xs n) (sym items) ∙ here);
      uber = valid;
      uber_layout = ap (λ (g : Geometry). ubers.layout_in g pool.geometry.props.version) (layout ∙ sym used);
      objects = λ object pointer there. (let none = empty object in absurd (cc));
      floor = omega (arith, floor);
      low = omega (arith, floor);
      near = near;
      point = fits_none (point_of pool.uber) (get nat_eq pool.own.objects) pool.own.seq none undropped;
      behind = λ own m shard some there. absurd (none_some (point_of pool.uber).group own none some);
    }
      where
        near : IsNear pool.own.floor (slice_get pool.metaslabs.shards.items)
        near =
            let some = opened.are_perms.geometry_is.props.some_metaslabs in
            let many = opened.many in
            let s = present shards 0 (omega (arith, some, many)) in
            record { metaslab = 0; shard = s.0; there = ap (λ (xs : List (Shard R A)). slice_get xs 0) items ∙ s.1; near = omega (arith, floor) }

    -- what the shelf still told was told before
    tells : (n : ℕ) (h k : Option Held) → TakesFirst n h k → is_some h ≡ is_some k
    tells n None k t = ap (λ (o : Option Held). is_some o) (sym t)
    tells n (Some x) None t = absurd t
    tells n (Some x) (Some y) t = refl

    pub opens : (now : Option Held) (pool : Pool R A) → OnHeld held (HasNewKits geometry) → TakesFirst geometry.props.metaslabs held now → ((m : ℕ) → m < geometry.props.metaslabs → IsUncounted (counts m))
        → pool.geometry ≡ geometry → pool.metaslabs.shards.items ≡ shards → pool.own.seq ≡ 0 → pool.own.floor ≡ 0 → ((q : ℕ) → get nat_eq pool.own.objects q ≡ None)
        → IsUber area pool.uber (state_of geometry opened.perms shards (count_of area.faults pool.uber) (is_some held)) → Opens rack area geometry now pool
    opens now pool new taken uncounted used items seq floor empty uber = record {
      state = state_of geometry opened.perms shards (count_of area.faults pool.uber) (is_some held);
      represents = represents (count_of area.faults pool.uber) (is_some held) pool used items seq floor empty uber;
      fresh = is_fresh (count_of area.faults pool.uber) (is_some held) uncounted new (λ tells. tells);
      told_is = tells geometry.props.metaslabs held now taken;
    }

    -- ---- where its first commit is refused

    module _ (mid last new : Option Held) (middle late after : ℕ → KitCounts) (r : Returns rack area shards mid last middle late) (own : AreasTold) (gives : new ≡ gives_areas own last)
        (taken : TakesFirst geometry.props.metaslabs held mid) (fresh_kits : OnHeld held (HasNewKits geometry)) where
      told_then : (u e o : Option Content) (h k l : Option Held) → OnHeld l (λ y. MatchOption k ⊥ (λ x. TakesBack rack area shards x y)) → TakesFirst geometry.props.metaslabs h k
          → IsSome (gives_areas (record { uber = u; even = e; odd = o }) l) → IsTrue (is_some h)
      told_then u None o h k l back t some = absurd (cc)
      told_then u (Some e) None h k l back t some = absurd (cc)
      told_then None (Some e) (Some o) h k l back t some = absurd (cc)
      told_then (Some u) (Some e) (Some o) h k None back t some = absurd (cc)
      told_then (Some u) (Some e) (Some o) h None (Some y) back t some = absurd back
      told_then (Some u) (Some e) (Some o) None (Some x) (Some y) back t some = absurd (cc)
      told_then (Some u) (Some e) (Some o) (Some w) (Some x) (Some y) back t some = refl

      pub refused : (body : UberBody) (now : OwnCounts) → body ≡ body_of geometry geometry.props.version 1 geometry.spec.children → AreasStand (check_told []) None (body ∷ []) own → ((m : ℕ) → m < geometry.props.metaslabs → IsUncounted (counts m))
          → ((m : ℕ) → after m ≡ late m) → NoChecks now → (leaves : ℕ → Option Shape) → ((m : ℕ) (shard : Shard R A) → slice_get shards m ≡ Some shard → leaves m ≡ Some (rack.shape shard.rack))
          → IsRefused geometry new leaves after now
      refused body now is stands uncounted kept checks leaves shapes =
          let state = state_of geometry opened.perms shards (own_count now) (is_some held) in
          let parts = refused_parts (own_count now) (is_some held) own body is stands in
          record {
            fresh = state;
            is_fresh = is_fresh (own_count now) (is_some held) uncounted fresh_kits (λ tells. tells);
            told = λ some. told_then own.uber own.even own.odd held mid last r.held taken (subst (λ (o : Option Held). IsSome o) gives some);
            held = holds_pool rack area shards own (uncommitted state) parts mid last middle late r new gives;
            importable = importable_back rack area shards (uncommitted state) parts.pieces parts.shards_are parts.each leaves parts.shared parts.alike 1 (omega arith) (first_versions (own_count now) (is_some held)) first_committed shapes own mid last middle late r new gives;
            counts = counted_as rack area shards own (uncommitted state) parts mid last middle late r after kept;
            uber = omega arith;
            checks = checks;
          }

-- ---- the shelf

-- what isn't of a metaslab is held still
pub away : (geometry : Geometry) (h n : Option Held) → OnHeld h (HasNewKits geometry) → TakesFirst geometry.props.metaslabs h n → OnHeld n IsAway
away geometry h None new t = tt
away geometry None (Some y) new t = absurd (cc)
away geometry (Some x) (Some y) new t = record {
  uber = t.uber ∙ new.uber;
  checks = t.checks ∙ new.checks;
  kits = λ m. elim (cases_lt m geometry.props.metaslabs) [
    | inl below ↦ t.taken m below
    | inr past ↦ t.others m past ∙ new.no_other m past
  ];
}

-- the pool's own areas are taken from all that was made
pub areas_taken : (geometry : Geometry) (h : Option Held) → OnHeld h (IsNewPool geometry) → OnHeld (takes_areas h) (HasNewKits geometry)
areas_taken geometry None new = tt
areas_taken geometry (Some x) new = record { uber = refl; checks = refl; kits = new.kits; no_other = new.no_other }

-- what two areas tell is told of both
both_told : (e o : Option Content) (checks : ChecksTold) → checks_of e o ≡ Some checks → AreNewChecks checks → OnTold e (IsNewArea []) × OnTold o (IsNewArea [])
both_told None o checks is new = absurd (cc)
both_told (Some e) None checks is new = absurd (cc)
both_told (Some e) (Some o) checks is new =
    let same : record { even = e; odd = o } ≡ checks = some_of (Some checks) (record { even = e; odd = o }) checks (sym is) refl in
    (subst (IsNewArea []) (ap (λ (c : ChecksTold). c.even) (sym same)) new.even, subst (IsNewArea []) (ap (λ (c : ChecksTold). c.odd) (sym same)) new.odd)

-- the areas of a new pool have zeros, and nothing
pub areas_new : (geometry : Geometry) (h : Option Held) (told : AreasTold) → OnHeld h (IsNewPool geometry) → OnHeld h (TellsAreas told) → (h ≡ None → AreSilent told) → AreNewAreas told
areas_new geometry None told new tells silent = (let none = silent refl in record {
  uber = subst (λ (o : Option Content). OnTold o (IsNewArea (replicate uber_bytes 0))) (sym none.uber) tt;
  even = subst (λ (o : Option Content). OnTold o (IsNewArea [])) (sym none.even) tt;
  odd = subst (λ (o : Option Content). OnTold o (IsNewArea [])) (sym none.odd) tt;
})
areas_new geometry (Some x) told new tells silent =
    let u = some_of_and x.uber (IsNewArea (replicate uber_bytes 0)) new.uber in
    let c = some_of_and x.checks AreNewChecks new.checks in
    let both = both_told told.even told.odd c.0 (tells.checks ∙ c.1) c.2 in
    record { uber = subst (λ (o : Option Content). OnTold o (IsNewArea (replicate uber_bytes 0))) (sym (tells.uber ∙ u.1)) u.2; even = both.0; odd = both.1 }

-- the check record of the first group is that of an area to which nothing was written
check_empty : (o : Option Content) → OnTold o (IsNewArea []) → OnTold o (CheckStands (check_told [] 1) 1)
check_empty None new = tt
check_empty (Some x) new = subst (λ value. CheckStands value 1 x) (sym (unmarked_told [] 1 refl)) (empty_stands 1 x new.bytes_are)

-- the uberblock's area alone was called
module _ {A : Type 0} (area : areas.Ghosts A) (geometry : Geometry) (old new : Uber A) (same : areas_of new ≡ record (areas_of old) { uber = (areas_of new).uber }) (fresh : AreNewAreas (told_by area.told (areas_of old))) where
  first_check : HasCheck (check_told []) (told_by area.told (areas_of new)) (next_of old 1)
  first_check = subst (λ o. OnTold o (CheckStands (check_told [] 1) 1)) (ap (λ (a : Areas A). area.told a.odd) (sym same)) (check_empty (area.told (areas_of old).odd) fresh.odd)

  pub first_named : StandsTold (Some (next_of old 1)) [] (area.told (areas_of new).uber) → AreasStand (check_told []) (Some (next_of old 1)) [] (told_by area.told (areas_of new))
  first_named stands = stand_named (check_told []) None (next_of old 1) (told_by area.told (areas_of new)) first_check stands

  pub first_pending : StandsTold None (next_of old 1 ∷ []) (area.told (areas_of new).uber) → AreasStand (check_told []) None (next_of old 1 ∷ []) (told_by area.told (areas_of new))
  first_pending stands = stand_pending (check_told []) None (next_of old 1) (told_by area.told (areas_of new)) first_check tt stands

pub uber_new : (content : Option Content) → OnTold content (IsNewArea (replicate uber_bytes 0)) → OnTold content ubers.IsNewArea
uber_new None zeros = tt
uber_new (Some x) zeros = record { bytes = zeros.bytes_are; firm = zeros.firm ∙ length-replicate {A = ℕ} uber_bytes 0; soft = zeros.soft }

rack_again : (geometry : Geometry) (o n : Option KitTold) → IsSomeAnd o (IsNewKit geometry) → rack_in n ≡ rack_in o → IsSomeAnd n (λ kit. IsNewRack geometry kit.rack)
rack_again geometry None n new same = absurd new
rack_again geometry (Some k) None new same = absurd (cc)
rack_again geometry (Some k) (Some l) new same = (let e : k.rack ≡ l.rack = cc in subst (IsNewRack geometry) e new.rack)

-- all that was made is held again
made_held : (geometry : Geometry) (u e o : Option Content) (h n : Option Held) → OnHeld h (HasNewKits geometry) → OnHeld n (λ y. MatchOption h ⊥ (λ x. SameButRecords x y)) → AreNewAreas (record { uber = u; even = e; odd = o })
    → OnHeld (gives_areas (record { uber = u; even = e; odd = o }) n) (HoldsMade geometry)
made_held geometry u None o h n new b fresh = tt
made_held geometry u (Some e) None h n new b fresh = tt
made_held geometry None (Some e) (Some o) h n new b fresh = tt
made_held geometry (Some u) (Some e) (Some o) h None new b fresh = tt
made_held geometry (Some u) (Some e) (Some o) None (Some y) new b fresh = absurd b
made_held geometry (Some u) (Some e) (Some o) (Some x) (Some y) new b fresh = record {
  uber = fresh.uber;
  checks = record { even = fresh.even; odd = fresh.odd };
  kits = λ m below. rack_again geometry (x.kits m) (y.kits m) (new.kits m below) (b.kits m);
}

pub made_again : (geometry : Geometry) (told : AreasTold) (h n last : Option Held) (before after final : ℕ → KitCounts) (now : OwnCounts) → OnHeld h (HasNewKits geometry) → ((m : ℕ) → m < geometry.props.metaslabs → IsUncounted (before m))
    → IsBackAgain h n before after → AreNewAreas told → last ≡ gives_areas told n → ((m : ℕ) → final m ≡ after m) → now.uber ≡ 0 → NoChecks now → IsMade geometry last final now
made_again geometry told h n last before after final now new uncounted back fresh gives kept uber checks = record {
  held = subst (λ (o : Option Held). OnHeld o (HoldsMade geometry)) (sym gives) (made_held geometry told.uber told.even told.odd h n new back.held fresh);
  counts = λ m who below. ap (λ (x : KitCounts). x.rack who) (kept m) ∙ (back.counts m who ∙ (uncounted m below).no_rack who);
  uber = uber;
  checks = checks;
}

rack_new : (geometry : Geometry) (o : Option KitTold) → IsSomeAnd o (IsNewKit geometry) → IsSomeAnd o (λ kit. IsNewRack geometry kit.rack)
rack_new geometry None h = absurd h
rack_new geometry (Some kit) h = h.rack

new_held : (geometry : Geometry) (o : Option Held) → OnHeld o (IsNewPool geometry) → OnHeld o (HoldsMade geometry)
new_held geometry None h = tt
new_held geometry (Some x) h = record { uber = h.uber; checks = h.checks; kits = λ m below. rack_new geometry (x.kits m) (h.kits m below) }

-- all that was made is held where nothing was taken of it
pub made_untouched : (geometry : Geometry) (old new : Option Held) (before after : ℕ → KitCounts) (own : OwnCounts) → OnHeld old (IsNewPool geometry) → new ≡ old → ((m : ℕ) → m < geometry.props.metaslabs → IsUncounted (before m))
    → ((m : ℕ) → after m ≡ before m) → own.uber ≡ 0 → NoChecks own → IsMade geometry new after own
made_untouched geometry old new before after own made same uncounted kept uber checks = record {
  held = subst (λ (o : Option Held). OnHeld o (HoldsMade geometry)) (sym same) (new_held geometry old made);
  counts = λ m who below. ap (λ (c : KitCounts). c.rack who) (kept m) ∙ (uncounted m below).no_rack who;
  uber = uber;
  checks = checks;
}
