-- The state that an import finds, of a pool that rests on a shelf.
use Rattle.std.proofs.Common.{arith, ◌≡◌, ◌+◌, ◌<◌, ◌≤◌, ◌∙◌, inl, inr, ℕ, zero, suc, Bool, true, false, List, [], ◌∷◌, Option, Some, None, length, refl, sym, ap, subst, if◌then◌else◌}
use Rattle.std.specs.Prelude.{All, IsSome, filter, max, nat_le, option_map, slice_get}
use Rattle.std.proofs.lemmas.Bool.Decides.{nat_tests}
use Rattle.std.proofs.lemmas.List.Elements.{All-cons, All-head, All-tail, All-weaker}
use Rattle.std.proofs.lemmas.Bool.{cases_lt}
use Rattle.std.proofs.lemmas.Option.{slice_get_within}
use Rattle.sha2.specs.Sha256.{sha256}
use Rattle.draid_names.specs.declared.numbers.TheConstants.{LAST_NUMBER}
use Rattle.draid_map.specs.Place.{IsLayout}
use Rattle.draid_machine.specs.declared.names.ArmName.TheVariants.{Leaf}
use Rattle.draid_machine.specs.declared.names.Held.{Held as Block}
use Rattle.draid_machine.specs.declared.names.Key.{Key}
use Rattle.draid_machine.specs.declared.names.Stage.TheVariants as stage
use Rattle.draid_machine.specs.After.{reopen_state, seal_held}
use Rattle.draid_machine.specs.Created.{IsReached}
use Rattle.draid_machine.specs.Images.{IsImage}
use Rattle.draid_machine.specs.Sound.{Sound}
use Rattle.draid_machine.specs.State as machine
use Rattle.draid_machine.proofs.Rows.{reached_sound}
use Rattle.draid_machine.proofs.Seals.{sealed_held}
use Rattle.draid_machine.proofs.Standing.{every_image}
use Rattle.draid_layouts.specs.Layout.{layout_of}
use Rattle.draid_objects.specs.Blocks.{SaysOf, sealed_at, table_of}
use Rattle.draid_objects.specs.Changes.{Change, Write, kept, upto, write_by, write_of}
use Rattle.draid_objects.specs.Stores.{AreMarkedUpto, IsFloor, Stores}
use Rattle.draid_import.proofs.ImportDrops.{AreOld, old_check}
use Rattle.draid_objects.proofs.Finding.{by_upto}
use Rattle.draid_objects.proofs.Keeping.{opening_floor, opening_kept}
use Rattle.draid_objects.proofs.Sealing.{live_block, says_same, sealed_live}
use Rattle.draid_segments.specs.Segments.{Pieces}
use Rattle.draid_shelf.specs.Kits.{KitTold}
use Rattle.draid_stable.specs.Images.{LeavesBelow}
use Rattle.draid_shard.specs.Part.{IsPart}
use Rattle.draid_shard.proofs.Standing.{has_layout}
use Rattle.draid_session.specs.Opening.{Finds, IsLastSeq, LeafIn, MayFind, Reopens, VersionIn}
use Rattle.draid_session.specs.State.{Metaslab, State}
use Rattle.draid_pool.specs.Returning.{RestsOn}
use Rattle.draid_pool.specs.Importable.{IsFindable}
use Rattle.draid_pool.specs.Objects.{HasGroups, HasPieces, HoldsObjects, blocks_of}
use Rattle.draid_pool.specs.Pools.{part_in}
use Rattle.draid_pool.specs.Records.{HasImage, HasImages, HasLeafNumbers, LeavesAreBelow}
use Rattle.draid_objects.specs.Marks.{Mark, check_by, counted, mark_group, marks_upto}
use Rattle.draid_objects.proofs.Checking.{count_same}
use Rattle.draid_import.proofs.ImportMetaslab.{FindsImage, was_arm}
use Rattle.draid_import.proofs.ImportVersion.{image_version}
use Rattle.draid_pool.proofs.Lists.{present, some_of}
use Rattle.draid_pool.proofs.Moved.{blocks_at}

-- ---- lists

-- what all are, those are that a test lets through
pub kept_filter : {A : Type 0} (P : A → Type 0) (p : A → Bool) (xs : List A) → All P xs → All P (filter p xs)
kept_filter P p [] all = all
kept_filter P p (x ∷ xs) all = by (p x) (kept_filter P p xs (All-tail P x xs all))
  where
    by : (b : Bool) → All P (filter p xs) → All P (if b then x ∷ filter p xs else filter p xs)
    by true rest = All-cons P x (filter p xs) (All-head P x xs all) rest
    by false rest = rest

absent : {A : Type 0} (xs : List A) (m : ℕ) → length xs ≤ m → slice_get xs m ≡ None
absent [] m over = refl
absent (x ∷ xs) zero over = absurd (omega (arith, over))
absent (x ∷ xs) (suc m) over = absent xs m (omega (arith, over))

-- what is held is held in some metaslab
pub held_there : (ys : List Metaslab) (m : ℕ) (k : Key) (h : Block) → blocks_of ys m k ≡ Some h → (y : Metaslab) × (slice_get ys m ≡ Some y) × (y.world.core.held k ≡ Some h)
held_there ys m k h is = by (slice_get ys m) refl is
  where
    by : (o : Option Metaslab) → slice_get ys m ≡ o → table_of (option_map (λ (y : Metaslab). y.world) o) k ≡ Some h → (y : Metaslab) × (slice_get ys m ≡ Some y) × (y.world.core.held k ≡ Some h)
    by None at held = absurd (cc)
    by (Some y) at held = (y, at, held)

-- ---- numbers of leaves

-- the group that is found isn't before the committed one
pub later_group : (x : State) (group : ℕ) → MayFind x group → x.committed ≤ group
later_group x group (inl is) = omega (arith, is)
later_group x group (inr is) = (let next = is.1 in omega (arith, next))

pub leaves_below : (l : machine.Layout) (x : State) (w : machine.State) (image : machine.Image) (group next : ℕ) → machine.IsLayout l → IsReached l w → x.committed ≤ w.committed
    → LeavesAreBelow x.kept_leaf x.next_leaf w → x.kept_leaf ≤ x.next_leaf → LeafIn x group next → IsImage w image → image.group ≡ group → LeavesBelow next image
leaves_below l x w image group next lay reached committed below order leaf is of = by leaf is
  where
    sound : Sound l w
    sound = reached_sound l lay w reached

    by : LeafIn x group next → IsImage w image → LeavesBelow next image
    by (inl it) (inl own) = λ n some. (let less = below.kept n (subst (λ (i : machine.Image). IsSome (i.core.arm (Leaf n))) (sym own) some) in let next_is = it.1 in omega (arith, less, next_is))
    by (inr it) (inl own) = λ n some. (let less = below.kept n (subst (λ (i : machine.Image). IsSome (i.core.arm (Leaf n))) (sym own) some) in let next_is = it.1 in omega (arith, less, next_is, order))
    by (inl it) (inr sealed) =
        let closing = (sound.groups.closing_is image.group (sound.groups.sealed_is image sealed)).0 in
        let at = it.0 in
        absurd (omega (arith, closing, committed, of, at))
    by (inr it) (inr sealed) = λ n some. (let less = below.sealed image sealed n some in let next_is = it.1 in omega (arith, less, next_is))

-- ---- the image of a metaslab

module _ (x : State) (layout : IsLayout x.geometry x.perms) (many : length x.metaslabs ≡ x.geometry.props.metaslabs) (images : HasImages x) (leaves : HasLeafNumbers x) (findable : IsFindable x) where
  pub part_there : (m : ℕ) (y : Metaslab) → slice_get x.metaslabs m ≡ Some y → IsPart (part_in x m)
  part_there m y at = record { layout = layout; below = (let within = slice_get_within x.metaslabs m y at in omega (arith, within, many)) }

  pub finds_image : (m : ℕ) (pieces : Pieces) (y : Metaslab) (kit : KitTold) (group next : ℕ) → slice_get x.metaslabs m ≡ Some y → RestsOn x m pieces y kit → MayFind x group → 0 < group → LeafIn x group next → VersionIn x group x.geometry.props.version
      → FindsImage x m pieces y kit group next
  finds_image m pieces y kit group next at rests may some leaf version =
      let z = images group m y may some at in
      let part = part_there m y at in
      record {
        image = z.image;
        is = z.is;
        of = z.of;
        version = image_version x findable group x.geometry.props.version version m y z.image at z.is z.of;
        below = leaves_below (layout_of x.geometry x.perms m) x y.world z.image group next (has_layout (part_in x m) part) rests.reached (findable.committed m y at) (leaves.each m y at) leaves.order leaf z.is z.of;
        part = part;
        rests = rests;
      }

-- ---- the state

module _ (x mid : State) (group : ℕ) (pieces : ℕ → Pieces) (finds : Finds x group mid) (same : mid.geometry ≡ x.geometry) (layout : IsLayout x.geometry x.perms) (many : length x.metaslabs ≡ x.geometry.props.metaslabs)
    (reached : (m : ℕ) (y : Metaslab) → slice_get x.metaslabs m ≡ Some y → IsReached (layout_of x.geometry x.perms m) y.world) (leaves : HasLeafNumbers x) (findable : IsFindable x)
    (objects : HoldsObjects x.geometry x.committed x.store (blocks_of x.metaslabs) pieces) where
  -- the metaslab that was opened, and that which it was opened from
  pub record Pair (m : ℕ) (z : Metaslab) : Type 0 where
    pub y : Metaslab
    pub at : slice_get x.metaslabs m ≡ Some y
    pub reopens : Reopens x.geometry x.perms group m y z
    pub lay : machine.IsLayout (layout_of x.geometry x.perms m)

  pub pair_at : (m : ℕ) (z : Metaslab) → slice_get mid.metaslabs m ≡ Some z → Pair m z
  pair_at m z at =
      let within = slice_get_within mid.metaslabs m z at in
      let same = finds.many in
      let p = present x.metaslabs m (omega (arith, within, same)) in
      record {
        y = p.0;
        at = p.1;
        reopens = finds.each m p.0 z p.1 at;
        lay = has_layout (part_in x m) (record { layout = layout; below = (let here = slice_get_within x.metaslabs m p.0 p.1 in omega (arith, here, many)) });
      }

  pub world_is : (m : ℕ) (z : Metaslab) (p : Pair m z) → z.world ≡ reopen_state (layout_of x.geometry x.perms m) p.y.world p.reopens.image []
  world_is m z p = p.reopens.world ∙ p.reopens.opened

  held_is : (m : ℕ) (z : Metaslab) (p : Pair m z) (k : Key) → z.world.core.held k ≡ seal_held group (p.y.world.core.held k)
  held_is m z p k =
      ap (λ (w : machine.State). w.core.held k) (world_is m z p)
      ∙ (((every_image (layout_of x.geometry x.perms m) p.y.world p.lay (reached m p.y p.at)).each p.reopens.image p.reopens.is).blocks k ∙ ap (λ g. seal_held g (p.y.world.core.held k)) p.reopens.of)

  pub found_blocks : (m : ℕ) (k : Key) → blocks_of mid.metaslabs m k ≡ sealed_at group (blocks_of x.metaslabs) m k
  found_blocks m k = elim (cases_lt m (length mid.metaslabs)) [
    | inl below ↦
        let z = present mid.metaslabs m below in
        let p = pair_at m z.0 z.1 in
        blocks_at mid.metaslabs m z.0 k z.1 ∙ (held_is m z.0 p k ∙ ap (seal_held group) (sym (blocks_at x.metaslabs m p.y k p.at)))
    | inr over ↦
        let same = finds.many in
        ap (λ (o : Option Metaslab). table_of (option_map (λ (y : Metaslab). y.world) o) k) (absent mid.metaslabs m (omega (arith, over)))
        ∙ sym (ap (λ (o : Option Metaslab). seal_held group (table_of (option_map (λ (y : Metaslab). y.world) o) k)) (absent x.metaslabs m (omega (arith, over, same))))
  ]

  changes_are : upto group x.store.changes ≡ mid.store.changes
  changes_are = sym finds.changes

  later : x.committed ≤ group
  later = later_group x group finds.found

  -- what those blocks say of an object that count beside the checkpoint is what the group keeps of it
  pub found_says : (object : ℕ) → SaysOf (counted (check_by (marks_upto group x.store.marks)) (blocks_of mid.metaslabs)) object (write_of mid.store.changes object)
  found_says object =
      let check = check_by (marks_upto group x.store.marks) in
      subst (λ cs. SaysOf (counted check (blocks_of mid.metaslabs)) object (write_of cs object)) changes_are
      (says_same (counted check (sealed_at group (blocks_of x.metaslabs))) (counted check (blocks_of mid.metaslabs)) object (kept group x.store.changes object)
      (λ m k same. count_same check (sealed_at group (blocks_of x.metaslabs)) (blocks_of mid.metaslabs) m k (found_blocks m k)) (objects.stores.says group object later))

  found_pieces : (m : ℕ) (k : Key) (h : Block) (write : Write) → blocks_of mid.metaslabs m k ≡ Some h → write_by (upto group x.store.changes) k ≡ Some write → HasPieces x.geometry write (pieces m)
  found_pieces m k h write is by =
      let z = sealed_held group (blocks_of x.metaslabs m k) h (sym (found_blocks m k) ∙ is) in
      let v = objects.stores.only m k z.h z.found z.block in
      let born = v.3.birth in
      let early = z.birth in
      let again = by_upto group x.store.changes k v.0 v.1 (omega (arith, born, early)) in
      subst (λ (w : Write). HasPieces x.geometry w (pieces m)) (some_of (write_by (upto group x.store.changes) k) v.0 write again by) (objects.bytes m k z.h v.0 z.found v.1)

  pub found_live : (m : ℕ) (k : Key) (h : Block) → blocks_of mid.metaslabs m k ≡ Some h → h.stage ≡ stage.Live
  found_live m k h is = sealed_live group (blocks_of x.metaslabs m k) h (sym (found_blocks m k) ∙ is)

  -- no number is greater than the last that there is, or than the last one before
  pub numbered_last : IsLastSeq mid mid.store.seq → (m : ℕ) (k : Key) (h : Block) → blocks_of mid.metaslabs m k ≡ Some h → k.seq ≤ mid.store.seq
  numbered_last seq m k h is = (let z = held_there mid.metaslabs m k h is in seq.all m z.0 k h z.1 z.2)

  pub numbered_before : mid.store.seq ≡ x.store.seq → (m : ℕ) (k : Key) (h : Block) → blocks_of mid.metaslabs m k ≡ Some h → k.seq ≤ mid.store.seq
  numbered_before same m k h is =
      let z = sealed_held group (blocks_of x.metaslabs m k) h (sym (found_blocks m k) ∙ is) in
      let low = objects.numbered m k z.h z.found in
      omega (arith, low, same)

  pub found_holds : mid.store.marks ≡ marks_upto group x.store.marks → ((m : ℕ) (k : Key) (h : Block) → blocks_of mid.metaslabs m k ≡ Some h → k.seq ≤ mid.store.seq) → HoldsObjects mid.geometry mid.committed mid.store (blocks_of mid.metaslabs) pieces
  found_holds plain numbered = subst (λ (c : ℕ). HoldsObjects mid.geometry c mid.store (blocks_of mid.metaslabs) pieces) (sym finds.committed) (record {
    stores = subst (λ (ms : List Mark). Stores sha256 group mid.store.changes ms (blocks_of mid.metaslabs)) (sym plain)
        (subst (λ (cs : List Change). Stores sha256 group cs (marks_upto group x.store.marks) (blocks_of mid.metaslabs)) changes_are
        (opening_kept sha256 x.committed x.store.changes x.store.marks (blocks_of x.metaslabs) (blocks_of mid.metaslabs) objects.stores group later found_blocks));
    floors = λ object. subst (λ (f : ℕ). IsFloor mid.store.changes (blocks_of mid.metaslabs) object f) (sym finds.floor)
        (subst (λ (cs : List Change). IsFloor cs (blocks_of mid.metaslabs) object (group + 1)) changes_are
        (opening_floor x.store.changes (blocks_of x.metaslabs) (blocks_of mid.metaslabs) group object (group + 1) found_blocks (omega arith)));
    positive = subst (All (λ m. 1 ≤ mark_group m)) (sym plain) (kept_filter (λ m. 1 ≤ mark_group m) (λ m. nat_le (mark_group m) group) x.store.marks objects.positive);
    settled = λ m k h is. live_block h.stage (found_live m k h is);
    numbered = numbered;
    bytes = λ m k h write is by. subst (λ g. HasPieces g write (pieces m)) (sym same)
        (found_pieces m k h write is (subst (λ (cs : List Change). write_by cs k ≡ Some write) finds.changes by));
  })

  pub found_committed : (m : ℕ) (z : Metaslab) → slice_get mid.metaslabs m ≡ Some z → z.world.committed ≡ mid.committed
  found_committed m z at = (let p = pair_at m z at in ap (λ (w : machine.State). w.committed) (world_is m z p) ∙ (p.reopens.of ∙ sym finds.committed))

  pub found_open : (m : ℕ) (z : Metaslab) → slice_get mid.metaslabs m ≡ Some z → z.world.open_group ≡ mid.committed + 1
  found_open m z at = (let p = pair_at m z at in ap (λ (w : machine.State). w.open_group) (world_is m z p) ∙ ap (λ g. g + 1) (p.reopens.of ∙ sym finds.committed))

  pub found_groups : group < LAST_NUMBER → AreOld group mid.store.marks → AreMarkedUpto (group + 1) mid.store.marks → HasGroups mid
  found_groups low old upto = record {
    committed = found_committed;
    next = (let floor = finds.floor in let is = finds.committed in omega (arith, floor, is));
    last = (let floor = finds.floor in omega (arith, floor, low));
    checks = λ m z at t check from is.
        (let early = old_check group (λ m. nat_le (mark_group m) t) mid.store.marks check old is in
        let opened = found_open m z at in
        let same = finds.committed in
        omega (arith, early, opened, same));
    marked = (let floor = finds.floor in let is = finds.committed in
        All-weaker (λ m. mark_group m ≤ group + 1) (λ m. mark_group m ≤ max mid.store.floor (mid.committed + 1)) (λ m up. grind (arith, nat_tests, up, floor, is)) mid.store.marks upto);
  }

  only_image : (m : ℕ) (z : Metaslab) (p : Pair m z) (image : machine.Image) → IsImage z.world image → p.reopens.image ≡ image
  only_image m z p image is = by (subst (λ (w : machine.State). IsImage w image) (world_is m z p) is)
    where
      by : IsImage (reopen_state (layout_of x.geometry x.perms m) p.y.world p.reopens.image []) image → p.reopens.image ≡ image
      by (inl own) = own
      by (inr sealed) = absurd (cc)

  pub found_images : HasImages mid
  found_images g m z may some at = by may
    where
      p : Pair m z
      p = pair_at m z at

      by : MayFind mid g → HasImage g z
      by (inl is) = record {
        image = p.reopens.image;
        is = inl (ap (λ (w : machine.State). w.image) (world_is m z p));
        of = p.reopens.of ∙ (sym finds.committed ∙ sym is);
      }
      by (inr is) = (let none = sym finds.pending ∙ is.0 in absurd (cc))

  pub found_findable : IsFindable mid
  found_findable = record {
    committed = λ m z at. (let is = found_committed m z at in omega (arith, is));
    versions = λ m z image at is.
        (let p = pair_at m z at in
        inl (
          ap (λ (i : machine.Image). i.group) (sym (only_image m z p image is)) ∙ (p.reopens.of ∙ sym finds.committed),
          ap (λ (i : machine.Image). i.version) (sym (only_image m z p image is))
              ∙ (image_version x findable group mid.next_version finds.version.0 m p.y p.reopens.image p.at p.reopens.is p.reopens.of ∙ sym finds.version.1),
        ));
  }

  pub found_leaves : HasLeafNumbers mid
  found_leaves = record {
    order = (let same = finds.leaves.1 in omega (arith, same));
    each = λ m z at.
        (let p = pair_at m z at in
        let below : LeavesBelow mid.next_leaf p.reopens.image
        = leaves_below (layout_of x.geometry x.perms m) x p.y.world p.reopens.image group mid.next_leaf p.lay (reached m p.y p.at) (findable.committed m p.y p.at) (leaves.each m p.y p.at) leaves.order finds.leaves.0
        p.reopens.is p.reopens.of in
        subst (λ (n : ℕ). LeavesAreBelow n mid.next_leaf z.world) (sym finds.leaves.1) (subst (LeavesAreBelow mid.next_leaf mid.next_leaf) (sym (world_is m z p)) (record {
          kept = below;
          sealed = λ image is. absurd (cc);
          now = λ leaf some. below leaf (was_arm _ (p.reopens.image.core.arm (Leaf leaf)) some);
        })));
  }
