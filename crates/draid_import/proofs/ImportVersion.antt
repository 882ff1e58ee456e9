-- A pool that rests on a shelf rests there at each of its versions, and is found at that of the group which is found.
use Rattle.std.proofs.Common.{arith, ◌≡◌, ◌∙◌, inl, inr, ℕ, Bool, true, false, List, Option, Some, None, Result, Ok, Err, sym, ap, subst, if◌then◌else◌}
use Rattle.std.specs.Prelude.{IsSomeAnd, nat_lt, slice_get}
use Rattle.std.specs.Result.{result_and}
use Rattle.draid_area.specs.Area.{Content}
use Rattle.draid_rack.specs.Rack.{Shape}
use Rattle.draid_rack.specs.declared.Rack as racks
use Rattle.draid_area.specs.declared.Area as areas
use Rattle.draid_names.specs.declared.pointer.Pointer.{Pointer}
use Rattle.draid_spec.specs.declared.layout.Geometry.{Geometry}
use Rattle.draid_spec.specs.declared.spec.SpecFault.{SpecFault}
use Rattle.draid_spec.specs.Geometry.{IsGeometry, checked_props, checked_version, layout_of, total_of}
use Rattle.draid_spec.specs.Spec.{checked_width}
use Rattle.draid_spec.proofs.Layouts.{given_layout}
use Rattle.draid_map.specs.Place.{IsLayout}
use Rattle.draid_machine.specs.Images.{IsImage}
use Rattle.draid_machine.specs.State as machine
use Rattle.draid_objects.specs.Changes.{Write}
use Rattle.draid_segments.specs.Segments.{Pieces}
use Rattle.draid_shelf.specs.Kits.{Held, KitCounts, KitTold}
use Rattle.draid_shard.specs.declared.shard.Shard.{Shard}
use Rattle.draid_uber.specs.declared.uber.Uber.{Uber}
use Rattle.draid_stable.specs.Stable as stable
use Rattle.draid_session.specs.Opening.{Finds, Reopens, VersionIn, layout_at_version}
use Rattle.draid_session.specs.State.{Metaslab, State}
use Rattle.draid_pool.specs.Groups.{ListsOnce}
use Rattle.draid_pool.specs.Importable.{IsFindable, IsImportable}
use Rattle.draid_pool.specs.Objects.{HasPieces, HoldsObjects, blocks_of}
use Rattle.draid_pool.specs.Records.{HasLeafNumbers}
use Rattle.draid_uber.specs.Checks.{AreasTold}
use Rattle.draid_pool.specs.Returning.{Rests, RestsOn, areas_told}
use Rattle.draid_pool.specs.Ubers.{UberStands}
use Rattle.draid_import.specs.Imported.{IsFoundOf}
use Rattle.draid_import.specs.Importing.{LeavesPool, RestsThere}
use Rattle.draid_pool.specs.Bytes.{HasBytes}

-- ---- one version

-- a group has one version
pub one_version : (x : State) (group v w : ℕ) → VersionIn x group v → VersionIn x group w → v ≡ w
one_version x group v w (inl a) (inl b) = a.1 ∙ sym b.1
one_version x group v w (inr a) (inr b) = a.1 ∙ sym b.1
one_version x group v w (inl a) (inr b) = (let here = a.0 in let there = b.0 in absurd (omega (arith, here, there)))
one_version x group v w (inr a) (inl b) = (let here = a.0 in let there = b.0 in absurd (omega (arith, here, there)))

-- the images of a group have its version
pub image_version : (x : State) → IsFindable x → (group v : ℕ) → VersionIn x group v → (m : ℕ) (y : Metaslab) (image : machine.Image) → slice_get x.metaslabs m ≡ Some y → IsImage y.world image → image.group ≡ group
    → image.version ≡ v
image_version x findable group v version m y image at is of = one_version x group image.version v (subst (λ g. VersionIn x g image.version) of (findable.versions m y image at is)) version

-- ---- layouts

by_checks : (a b c : Result Unit SpecFault) (big : Bool) (f : SpecFault) (l layout : Geometry) → result_and a (result_and b (result_and c (if big then Err f else Ok l))) ≡ Ok layout → l ≡ layout
by_checks (Ok u) (Ok v) (Ok w) false f l layout is = cc
by_checks (Ok u) (Ok v) (Ok w) true f l layout is = absurd (cc)
by_checks (Ok u) (Ok v) (Err e) big f l layout is = absurd (cc)
by_checks (Ok u) (Err e) c big f l layout is = absurd (cc)
by_checks (Err e) b c big f l layout is = absurd (cc)

-- a layout is that of its spec and properties
laid_out : (g : Geometry) → IsGeometry g → layout_of g.spec g.props ≡ g
laid_out g is =
    by_checks (checked_version g.props.version) (checked_width g.spec) (checked_props g.props) (nat_lt 67108864 (total_of g.props (layout_of g.spec g.props).rows)) _ (layout_of g.spec g.props) g (given_layout g is)

-- with the spec and all properties but the version, it is the layout at that version
pub layout_at : (version : ℕ) (g h : Geometry) → IsGeometry g → IsGeometry h → g.spec ≡ h.spec → g.props ≡ record h.props { version = version } → g ≡ layout_at_version version h
layout_at version g h one other spec props = sym (laid_out g one) ∙ ((λ i. layout_of (spec i) (props i)) ∙ ap (layout_at_version version) (laid_out h other))

-- ---- the state at a version

-- a refusal leaves the pool as a group of it has it
pub record LeavesFound (x : State) (pieces : ℕ → Pieces) (told : Option Held) (leaves : ℕ → Option Shape) (counts : ℕ → KitCounts) (uber_count : ℕ) : Type 0 where
  pub y : State
  pub rests : RestsThere y pieces told leaves counts uber_count
  pub group : ℕ
  pub finds : Finds x group y

abbrev pub found_at : State → ℕ → State
found_at x version = record x { geometry = layout_at_version version x.geometry }

some_more : {T : Type 0} (o : Option T) (P Q : T → Type 0) → ((t : T) → P t → Q t) → IsSomeAnd o P → IsSomeAnd o Q
some_more None P Q f p = absurd p
some_more (Some t) P Q f p = f t p

module _ (x : State) (version : ℕ) where
  abbrev at : State
  at = found_at x version

  uber_at : (told : AreasTold) → UberStands x told → UberStands at told
  uber_at told u = record { pending = u.pending; are = u.are; stands = u.stands }

  bytes_at : (h : _) (key : _) (pieces : Pieces) → HasBytes x.geometry h key pieces → HasBytes at.geometry h key pieces
  bytes_at h key pieces has = record { content = has.content; len = has.len; digest = has.digest; bytes = has.bytes; columns = has.columns; are = has.are; rows = has.rows }

  kit_at : (m : ℕ) (pieces : Pieces) (y : Metaslab) (kit : KitTold) → RestsOn x m pieces y kit → RestsOn at m pieces y kit
  kit_at m pieces y kit r = record {
    reached = r.reached;
    images = r.images;
    harm = r.harm;
    bytes = λ key h there block column row some. bytes_at h key pieces (r.bytes key h there block column row some);
  }

  pieces_at : (write : Write) (pieces : Pieces) → HasPieces x.geometry write pieces → HasPieces at.geometry write pieces
  pieces_at write pieces h = record { content = h.content; len = h.len; digest = h.digest; bytes = h.bytes; columns = h.columns; are = h.are; rows = h.rows }

  objects_at : (pieces : ℕ → Pieces) → HoldsObjects x.geometry x.committed x.store (blocks_of x.metaslabs) pieces → HoldsObjects at.geometry x.committed x.store (blocks_of x.metaslabs) pieces
  objects_at pieces h = record {
    stores = h.stores;
    positive = h.positive;
    floors = h.floors;
    settled = h.settled;
    numbered = h.numbered;
    bytes = λ m k e write is by. pieces_at write (pieces m) (h.bytes m k e write is by);
  }

  leaves_at : HasLeafNumbers x → HasLeafNumbers at
  leaves_at l = record { order = l.order; each = l.each }

  rests_at : (pieces : ℕ → Pieces) (held : Held) → IsLayout at.geometry x.perms → Rests x pieces held → Rests at pieces held
  rests_at pieces held layout r = record {
    layout = layout;
    uber = some_more held.uber (λ c. IsSomeAnd held.checks (λ checks. UberStands x (areas_told c checks))) (λ c. IsSomeAnd held.checks (λ checks. UberStands at (areas_told c checks)))
        (λ c all. some_more held.checks (λ checks. UberStands x (areas_told c checks)) (λ checks. UberStands at (areas_told c checks)) (λ checks stands. uber_at (areas_told c checks) stands) all) r.uber;
    many = r.many;
    kits = λ m y there. some_more (held.kits m) (RestsOn x m (pieces m) y) (RestsOn at m (pieces m) y) (kit_at m (pieces m) y) (r.kits m y there);
    images = r.images;
    leaves = leaves_at r.leaves;
    objects = objects_at pieces r.objects;
  }

  once_at : (m : ℕ) (image : machine.Image) (content : Content) → ListsOnce x.geometry m image content → ListsOnce at.geometry m image content
  once_at m image content o = record { has = o.has; once = o.once }

  importable_at : (held : Held) (leaves : ℕ → Option Shape) → IsImportable x held leaves → IsImportable at held leaves
  importable_at held leaves i =
      let f : IsFindable x = i.findable in
      record {
        findable = record { committed = f.committed; versions = f.versions };
        alike = i.alike;
        once = λ m y image there is. some_more (held.kits m) (λ kit. ListsOnce x.geometry m image (stable.area_of image.group kit.even kit.odd)) (λ kit. ListsOnce at.geometry m image (stable.area_of image.group kit.even kit.odd))
            (λ kit. once_at m image (stable.area_of image.group kit.even kit.odd)) (i.once m y image there is);
        there = i.there;
      }

  pub there_at : (pieces : ℕ → Pieces) (held : Held) (leaves : ℕ → Option Shape) (counts : ℕ → KitCounts) (count : ℕ) → IsLayout at.geometry x.perms → RestsThere x pieces (Some held) leaves counts count
      → RestsThere at pieces (Some held) leaves counts count
  there_at pieces held leaves counts count layout there = record {
    held = rests_at pieces held layout there.held;
    importable = importable_at held leaves there.importable;
    counted = there.counted;
    uber = there.uber;
  }

  -- what is found of it is found of the pool
  reopens_from : (group m : ℕ) (y z : Metaslab) → Reopens at.geometry x.perms group m y z → Reopens x.geometry x.perms group m y z
  reopens_from group m y z r = record {
    image = r.image;
    is = r.is;
    of = r.of;
    opened = r.opened;
    world = r.world;
    events = r.events;
    reserved = r.reserved;
    harm = r.harm;
    counts = r.counts;
  }

  finds_from : (group : ℕ) (mid : State) → Finds at group mid → Finds x group mid
  finds_from group mid f = record {
    found = f.found;
    some = f.some;
    layout = f.layout;
    many = f.many;
    each = λ m y z there here. reopens_from group m y z (f.each m y z there here);
    committed = f.committed;
    leaves = f.leaves;
    version = f.version;
    pending = f.pending;
    counts = f.counts;
    changes = f.changes;
    drops = f.drops;
    marks = f.marks;
    drops_are = f.drops_are;
    floor = f.floor;
    told = f.told;
  }

  pub found_from : {R A : Type 0} (rack : racks.Ghosts R) (area : areas.Ghosts A) (uber : Uber A) (pieces : ℕ → Pieces) (newest : ℕ → Option Pointer) (seq : ℕ) (shards : List (Shard R A))
      → IsFoundOf rack area at uber pieces newest seq shards → IsFoundOf rack area x uber pieces newest seq shards
  found_from rack area uber pieces newest seq shards f = record {
    group = f.group;
    mid = f.mid;
    finds = finds_from f.group f.mid f.finds;
    last = f.last;
    seq_is = f.seq_is;
    knows = f.knows;
    freed = f.freed;
  }

  pub left_from : (pieces : ℕ → Pieces) (told : Option Held) (leaves : ℕ → Option Shape) (counts : ℕ → KitCounts) (count : ℕ) → LeavesFound at pieces told leaves counts count → LeavesPool x pieces told leaves counts count
  left_from pieces told leaves counts count l = record { y = l.y; rests = l.rests; is = inr (l.group, finds_from l.group l.y l.finds) }
