-- The uberblock of a pool names a group, or is refused it.
use Rattle.std.proofs.Common.{◌≡◌, ◌==◌, ◌<◌, ◌+◌, ◌∙◌, [], ◌∷◌, inl, inr, ℕ, true, false, List, Option, Some, None, arith, refl, sym, ap, subst, if◌then◌else◌}
use Rattle.std.specs.Prelude.{Contains, is_some, max, slice_get, ◌↔◌, ◌≤◌}
use Rattle.std.proofs.lemmas.Option.{slice_get_within}
use Rattle.std.proofs.lemmas.List.Elements.{All-cons, All-contains, All-nil, All-weaker}
use Rattle.sha2.specs.Sha256.{sha256}
use Rattle.draid_names.specs.declared.pointer.Pointer.{Pointer}
use Rattle.draid_rack.specs.declared.Rack as racks
use Rattle.draid_area.specs.declared.Area as areas
use Rattle.draid_machine.specs.State as machine
use Rattle.draid_machine.proofs.Small.{absurd_test, bool_cases, is_equal, some_injective}
use Rattle.draid_objects.proofs.Keeping.{commit_kept}
use Rattle.draid_shard.specs.declared.shard.Shard.{Shard}
use Rattle.draid_checkpoint.specs.Check.{Point}
use Rattle.draid_record.specs.Checks.{CheckTold}
use Rattle.draid_spec.specs.declared.layout.Geometry.{Geometry}
use Rattle.draid_uber.specs.Checks.{AreasStand, told_by}
use Rattle.draid_uber.specs.Uber as ubers
use Rattle.draid_uber.specs.Points.{told_at}
use Rattle.draid_uber.specs.Slots.{group_of}
use Rattle.draid_uber.specs.Uber.{Valid, areas_of, changed_of, count_of, kept_of, layout_of, next_check, next_leaf_of, next_of, point_of, version_of, with_version}
use Rattle.draid_uber.specs.declared.uber.Uber.{Uber}
use Rattle.draid_session.specs.State.{Metaslab, State}
use Rattle.draid_pool.specs.Objects.{blocks_of}
use Rattle.draid_pool.specs.Pools.{part_in}
use Rattle.draid_pool.specs.Records.{HasImage}
use Rattle.draid_pool.specs.Syncing.{AreSealed}
use Rattle.draid_pool.specs.Ubers.{IsPending, IsUber, Names, Refuses, body_of, check_told, kept_in}
use Rattle.draid_pool.proofs.Lists.{present}
use Rattle.draid_pool.proofs.Marked.{behind_later, marked_later, max_next}
use Rattle.draid_session.specs.Points.{HasLateMark}
use Rattle.draid_pool.proofs.Stood.{Stood}
use Rattle.draid_pool.proofs.Turns.{state_sound}

-- ---- the uberblock

-- a state behind them
abbrev pub named_state : State → ℕ → ℕ → State
named_state x group count = record x { committed = group; kept_leaf = x.next_leaf; kept_version = x.next_version; pending = false; uber_count = count }

abbrev pub refused_state : State → ℕ → State
refused_state x count = record x { pending = true; uber_count = count }

none_is : (group : ℕ) → 0 < group → (group == 0) ≡ false
none_is group some = elim (bool_cases (group == 0)) [ inl none ↦ absurd (let same = is_equal group 0 none in omega (arith, same, some)) | inr other ↦ other ]

group_from : (n version leaf : ℕ) (geometry : Geometry) → group_of (if n == 0 then None else Some (body_of geometry version n leaf)) ≡ n
group_from n version leaf geometry = elim (bool_cases (n == 0)) [
  | inl none ↦ ap (λ b. group_of (if b then None else Some (body_of geometry version n leaf))) none ∙ sym (is_equal n 0 none)
  | inr other ↦ ap (λ b. group_of (if b then None else Some (body_of geometry version n leaf))) other
]

module _ {A : Type 0} (area : areas.Ghosts A) (old new : Uber A) (group : ℕ) (x : State) (is : IsUber area old x) where
  -- what the commit writes
  next_is : next_of old group ≡ body_of x.geometry x.next_version group x.next_leaf
  next_is = λ i. record { group = group; spec = (is.layout i).spec; props = with_version (is.layout i).props (is.version i); next_leaf = is.next_leaf i }

  abbrev check : ℕ → CheckTold
  check = check_told x.store.marks

  stood_before : AreasStand check (kept_of old) is.stands.pending (told_by area.told (areas_of old))
  stood_before = subst (λ kept. AreasStand check kept is.stands.pending (told_by area.told (areas_of old))) (sym is.kept) is.stands.stands

  -- the group that it names
  committed_is : group_of (kept_of old) ≡ x.committed
  committed_is = ap group_of is.kept ∙ group_from x.committed x.kept_version x.kept_leaf x.geometry

  -- the checkpoint stays
  point_stays : point_of new ≡ point_of old → (g : ℕ) → x.committed < g → next_check new g ≡ check g
  point_stays same g late = ap (λ (p : Point). told_at p g) same ∙ is.point g late

  late_stays : changed_of new ≡ changed_of old → (g : ℕ) → x.committed ≤ g → HasLateMark g x.store.marks ↔ (g < changed_of new)
  late_stays same g above = subst (λ n. HasLateMark g x.store.marks ↔ (g < n)) (sym same) (is.late g above)

  pub uber_named : Names area old new group → group ≡ group_of (kept_of old) + 1 → IsUber area new (named_state x group (count_of area.faults new))
  uber_named n next =
      let behind = committed_is in
      let some : 0 < group = omega (arith, next) in
      let own : Some (next_of old group) ≡ kept_in (named_state x group (count_of area.faults new))
      = ap Some next_is ∙ sym (ap (λ b. if b then None else Some (body_of x.geometry x.next_version group x.next_leaf)) (none_is group some)) in
      record {
        valid = n.valid;
        layout = n.layout ∙ (λ i. ubers.layout_in (is.layout i) (is.version i));
        version = n.version ∙ is.version;
        kept = n.kept ∙ own;
        next_leaf = n.next_leaf ∙ is.next_leaf;
        point = λ g late. point_stays n.point g (omega (arith, late, next, behind));
        late = λ g above. late_stays n.changed g (omega (arith, above, next, behind));
        count = refl;
        stands = record {
          pending = [];
          are = All-nil (IsPending (named_state x group (count_of area.faults new)));
          stands = subst (λ kept. AreasStand check kept [] (told_by area.told (areas_of new))) own (n.stands check is.stands.pending (sym (is.point group (omega (arith, next, behind)))) stood_before);
        };
      }

  pub uber_refused : Refuses area old new group → group ≡ x.committed + 1 → IsUber area new (refused_state x (count_of area.faults new))
  uber_refused n behind =
      let after = refused_state x (count_of area.faults new) in
      let may = next_of old group ∷ is.stands.pending in
      let left = n.stands check is.stands.pending (sym (is.point group (omega (arith, behind)))) stood_before in
      let all = All-cons (IsPending after) (next_of old group) is.stands.pending (refl, next_is ∙ ap (λ g. body_of x.geometry x.next_version g x.next_leaf) behind)
      (All-weaker (IsPending x) (IsPending after) (λ body pending. (refl, pending.1)) is.stands.pending is.stands.are) in
      record {
        valid = n.valid;
        layout = n.layout ∙ is.layout;
        version = n.version ∙ is.version;
        kept = n.kept ∙ is.kept;
        next_leaf = n.next_leaf ∙ is.next_leaf;
        point = point_stays n.point;
        late = late_stays n.changed;
        count = refl;
        stands = record {
          pending = left.pending;
          are = All-weaker (Contains may) (IsPending after) (λ body among. All-contains (IsPending after) may body all among) left.pending left.among;
          stands = subst (λ kept. AreasStand check kept left.pending (told_by area.told (areas_of new))) is.kept left.stands;
        };
      }

-- ---- the metaslabs

some_is : (o : Option machine.Image) → is_some o ≡ true → (image : machine.Image) × (o ≡ Some image)
some_is None some = absurd_test false some refl
some_is (Some image) some = (image, refl)

module _ {R A : Type 0} (rack : racks.Ghosts R) (area : areas.Ghosts A) (shards : List (Shard R A)) (table : ℕ → Option Pointer) (x : State) (says : ℕ → Metaslab → Type 0)
    (s : Stood rack area shards table x says) (group : ℕ) (sealed : AreSealed shards group) where
  -- each metaslab has an image of the sealed group
  sealed_image : (m : ℕ) (y : Metaslab) → slice_get x.metaslabs m ≡ Some y → HasImage group y
  sealed_image m y at =
      let long = s.shards_are in
      let inside = slice_get_within x.metaslabs m y at in
      let z = present shards m (omega (arith, long, inside)) in
      let is = s.each m z.0 y z.1 at in
      let own = sealed m z.0 z.1 in
      let image = some_is y.world.sealed (is.stands.is_in.sealed ∙ own.1) in
      let sound = state_sound rack area (part_in x m) (s.pieces m) z.0 y is in
      record {
        image = image.0;
        is = inr image.1;
        of = some_injective image.0.group group (sym (sound.groups.sealed_is image.0 image.1) ∙ (is.stands.is_in.closing ∙ own.0));
      }

  -- as the uberblock was refused the group
  pub stood_refused : (count : ℕ) → group ≡ x.committed + 1 → Stood rack area shards table (refused_state x count) says
  stood_refused count behind = record {
    layout = s.layout;
    many = s.many;
    shards_are = s.shards_are;
    pieces = s.pieces;
    each = s.each;
    holds = record { stores = s.holds.stores; floors = s.holds.floors; settled = s.holds.settled; numbered = s.holds.numbered; positive = s.holds.positive; bytes = s.holds.bytes };
    only = s.only;
    checks = s.checks;
    marked = s.marked;
    objects = s.objects;
    images = λ g m y may some at. elim may [
      | inl is ↦ s.images g m y (inl is) some at
      | inr is ↦ subst (λ k. HasImage k y) (behind ∙ sym is.1) (sealed_image m y at)
    ];
    leaves = record { order = s.leaves.order; each = s.leaves.each };
    said = s.said;
  }

  -- as it names the group
  pub stood_named : (count : ℕ) (after : ℕ → Metaslab → Type 0) → group ≡ x.committed + 1 → ((m : ℕ) (y : Metaslab) → slice_get x.metaslabs m ≡ Some y → after m y)
      → Stood rack area shards table (named_state x group count) after
  stood_named count after behind own = record {
    layout = s.layout;
    many = s.many;
    shards_are = s.shards_are;
    pieces = s.pieces;
    each = s.each;
    holds = record {
      stores = commit_kept sha256 x.committed x.store.changes x.store.marks (blocks_of x.metaslabs) (blocks_of x.metaslabs) s.holds.stores group (omega (arith, behind)) (λ m k. inl refl);
      floors = s.holds.floors;
      settled = s.holds.settled;
      numbered = s.holds.numbered;
      positive = s.holds.positive;
      bytes = s.holds.bytes;
    };
    only = s.only;
    checks = λ m y at. behind_later x.committed group y.world.open_group y.world.open_group x.store.marks (omega (arith, behind)) (omega arith) (s.checks m y at);
    marked = marked_later (max x.store.floor (x.committed + 1)) (max x.store.floor (group + 1)) x.store.marks (max_next x.store.floor (x.committed + 1) (group + 1) (omega (arith, behind))) s.marked;
    objects = s.objects;
    images = λ g m y may some at. elim may [
      | inl is ↦ subst (λ k. HasImage k y) (sym is) (sealed_image m y at)
      | inr is ↦ absurd_test false is.0 refl
    ];
    leaves = record {
      order = omega arith;
      each = λ m y at. (let below = s.leaves.each m y at in record {
        kept = λ leaf some. (let low = below.kept leaf some in let order = s.leaves.order in omega (arith, low, order));
        sealed = below.sealed;
        now = below.now;
      });
    };
    said = own;
  }
