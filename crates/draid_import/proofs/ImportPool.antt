-- What an import finds on a shelf on which the pool of a state rests: the body of the uberblock, each metaslab by its record, and the newest block of each object.
use Rattle.std.proofs.Common.{arith, ◌≡◌, ◌≤◌, ◌∙◌, ℕ, List, [], Option, Some, None, Result, length, refl, sym, ap, subst}
use Rattle.std.specs.declared.alloc.Global.{Global}
use Rattle.std.specs.Prelude.{IsSomeAnd, is_some, option_map, slice_get}
use Rattle.draid_area.specs.Area.{Content, IsOfSize, OnTold, flushes}
use Rattle.draid_area.specs.declared.Area as areas
use Rattle.draid_rack.specs.Rack.{Shape}
use Rattle.draid_rack.specs.declared.Rack as racks
use Rattle.draid_map.specs.Place.{IsLayout}
use Rattle.draid_names.specs.declared.pointer.Pointer.{Pointer}
use Rattle.draid_perm.specs.declared.perms.Perms.{Perms}
use Rattle.draid_perm.proofs.Same.{same_perms}
use Rattle.draid_record.specs.declared.uber.UberBody.{UberBody}
use Rattle.draid_spec.specs.declared.layout.Geometry.{Geometry}
use Rattle.draid_spec.specs.Geometry.{IsGeometry}
use Rattle.draid_segments.specs.Segments.{Pieces}
use Rattle.draid_shelf.specs.Kits.{ChecksTold, Held, KitCounts, KitTold, checks_of}
use Rattle.draid_stable.specs.Stable as stable
use Rattle.draid_shard.specs.Fits.{Valid}
use Rattle.draid_pool.specs.Groups.{ListsOnce}
use Rattle.draid_import.specs.Reopening.{Opens}
use Rattle.draid_shard.specs.States.{part_of}
use Rattle.draid_shard.specs.declared.shard.Shard.{Shard}
use Rattle.draid_uber.specs.Checks.{AreasStand, HasCheck, told_by}
use Rattle.draid_uber.specs.Slots.{StandsTold, chosen_of, group_of, read_body}
use Rattle.draid_uber.specs.Uber.{areas_of, kept_of, layout_of, next_leaf_of, version_of}
use Rattle.draid_uber.specs.declared.uber.Uber.{Uber}
use Rattle.draid_session.specs.Opening.{layout_at_version}
use Rattle.draid_session.specs.State.{Metaslab, State, limit_of}
use Rattle.draid_pool.specs.Returning.{HoldsAreas, Rests, areas_told}
use Rattle.draid_import.specs.Found.{AreReopened, IsFoundUber, IsRecovered, OpensAllOver, OpensOver}
use Rattle.draid_pool.specs.Importable.{IsImportable}
use Rattle.draid_import.specs.Imported.{FindsBody, IsFoundOf, OpensFound}
use Rattle.draid_import.specs.Points.{IsFoundBeside, KeepsPoint}
use Rattle.draid_record.specs.Checks.{CheckTold, IsCheck}
use Rattle.draid_record.specs.declared.fault.RecordFault.{RecordFault}
use Rattle.draid_import.specs.Importing.{RestsThere}
use Rattle.draid_pool.specs.Taking.{TakesFirst, takes_areas}
use Rattle.draid_pool.specs.Pools.{part_in}
use Rattle.draid_pool.specs.Ubers.{UberStands, check_told}
use Rattle.draid_uber.proofs.Recorded.{stand_named}
use Rattle.draid_pool.proofs.Lists.{some_of}
use Rattle.draid_import.proofs.ImportEnd.{found_begins}
use Rattle.draid_import.proofs.ImportFound.{finds_image}
use Rattle.draid_import.proofs.ImportMetaslab.{FindsImage, opens_found}
use Rattle.draid_import.proofs.ImportOpened.{rested}
use Rattle.draid_import.proofs.ImportUber.{found_body, found_check, found_layout}
use Rattle.draid_import.proofs.ImportVersion.{found_at, found_from, there_at}

-- ---- the uberblock

-- the pool's own areas are held, and tell this
pub record HeldAreas (x : State) (held : Held) : Type 0 where
  pub uber : Content
  pub checks : ChecksTold
  pub uber_is : held.uber ≡ Some uber
  pub checks_are : held.checks ≡ Some checks
  pub stands : UberStands x (areas_told uber checks)

pub held_areas : (x : State) (held : Held) → HoldsAreas x held → HeldAreas x held
held_areas x held h = by held.uber held.checks refl refl h
  where
    by : (u : Option Content) (k : Option ChecksTold) → held.uber ≡ u → held.checks ≡ k → IsSomeAnd u (λ c. IsSomeAnd k (λ checks. UberStands x (areas_told c checks))) → HeldAreas x held
    by None k is are h = absurd h
    by (Some c) None is are h = absurd h
    by (Some c) (Some checks) is are h = record { uber = c; checks = checks; uber_is = is; checks_are = are; stands = h }

-- what two areas tell that tell so much together
pub told_checks : (e o : Option Content) (k : ChecksTold) → checks_of e o ≡ Some k → (e ≡ Some k.even) × (o ≡ Some k.odd)
told_checks None o k is = absurd (cc)
told_checks (Some e) None k is = absurd (cc)
told_checks (Some e) (Some o) k is =
    let same : record { even = e; odd = o } ≡ k = some_of (Some k) (record { even = e; odd = o }) k (sym is) refl in
    (ap (λ (c : ChecksTold). Some c.even) same, ap (λ (c : ChecksTold). Some c.odd) same)

kept_body : (kept : Option UberBody) → 1 ≤ group_of kept → (body : UberBody) × (kept ≡ Some body)
kept_body None some = absurd (omega (arith, some))
kept_body (Some body) some = (body, refl)

body_next : (kept : Option UberBody) (next : ℕ) (body : UberBody) → IsSomeAnd kept (λ b. next ≡ b.next_leaf) → kept ≡ Some body → next ≡ body.next_leaf
body_next kept next body leaf is = subst (λ o. IsSomeAnd o (λ b. next ≡ b.next_leaf)) is leaf

-- the body that was found, and what the area of the uberblock told: the state's layout is at the version that was found
pub record FoundBody {A : Type 0} (area : areas.Ghosts A) (x : State) (uber : Uber A) : Type 0 where
  pub body : UberBody
  pub own_areas : AreasStand (check_told x.store.marks) (kept_of uber) [] (told_by area.told (areas_of uber))
  pub kept : kept_of uber ≡ Some body
  pub finds : FindsBody x body
  pub group : group_of (kept_of uber) ≡ body.group
  pub version : version_of uber ≡ body.props.version
  pub next : next_leaf_of uber ≡ body.next_leaf
  pub layout : layout_of uber ≡ x.geometry

-- and the pool rests at that version
pub record RestsFoundAt {A : Type 0} (area : areas.Ghosts A) (x : State) (pieces : ℕ → Pieces) (held : Held) (leaves : ℕ → Option Shape) (counts : ℕ → KitCounts) (count : ℕ) (uber : Uber A) : Type 0 where
  pub version : ℕ
  pub there : RestsThere (found_at x version) pieces (Some held) leaves counts count
  pub b : FoundBody area (found_at x version) uber

pub body_found : {A : Type 0} (area : areas.Ghosts A) (x : State) (pieces : ℕ → Pieces) (held : Held) (leaves : ℕ → Option Shape) (counts : ℕ → KitCounts) (count : ℕ) (uber : Uber A)
    → RestsThere x pieces (Some held) leaves counts count → IsFoundUber area uber → IsRecovered area (Some held) count uber → RestsFoundAt area x pieces held leaves counts count uber
body_found {A} area x pieces held leaves counts count uber there found r = record {
  version = kept.0.props.version;
  there = there_at x kept.0.props.version pieces held leaves counts count (record { geometry_is = subst IsGeometry layout found.valid.held.layout_is; perms_are = there.held.layout.perms_are }) there;
  b = record {
    body = kept.0;
    own_areas = subst (λ t. AreasStand (check_told x.store.marks) (kept_of uber) [] t) (sym told) (subst (λ k. AreasStand (check_told x.store.marks) k [] (areas_told (flushes c.uber) c.checks)) (sym kept.1)
        (stand_named (check_told x.store.marks) None kept.0 (areas_told (flushes c.uber) c.checks) check (subst (λ k. StandsTold k [] (Some (flushes c.uber))) kept.1 (subst (λ t. StandsTold (kept_of uber) [] t) content r.stands))));
    kept = kept.1;
    finds = finds;
    group = ap (λ (k : Option UberBody). group_of k) kept.1;
    version = found.version ∙ ap (λ (g : Geometry). g.props.version) layout;
    next = body_next (kept_of uber) (next_leaf_of uber) kept.0 r.leaf kept.1;
    layout = layout;
  };
}
  where
    kept : (body : UberBody) × (kept_of uber ≡ Some body)
    kept = kept_body (kept_of uber) found.some

    c : HeldAreas x held
    c = held_areas x held there.held.uber

    own : r.content ≡ Some c.uber
    own = r.own ∙ c.uber_is

    content : area.told (areas_of uber).uber ≡ Some (flushes c.uber)
    content = r.flushed ∙ ap (λ o. option_map flushes o) own

    told : told_by area.told (areas_of uber) ≡ areas_told (flushes c.uber) c.checks
    told = (let both = told_checks (area.told (areas_of uber).even) (area.told (areas_of uber).odd) c.checks (r.checks ∙ c.checks_are) in λ i. record { uber = content i; even = both.0 i; odd = both.1 i })

    counted : IsOfSize r.size c.uber
    counted = subst (λ o. OnTold o (IsOfSize r.size)) own r.counted

    chosen : chosen_of c.uber.bytes ≡ option_map read_body (kept_of uber)
    chosen = subst (λ o. OnTold o (λ (y : Content). chosen_of y.bytes ≡ option_map read_body (kept_of uber))) own r.finds

    check : HasCheck (check_told x.store.marks) (areas_told (flushes c.uber) c.checks) kept.0
    check = found_check x c.uber c.checks c.stands counted.firm kept.0 (chosen ∙ ap (λ (k : Option UberBody). option_map read_body k) kept.1)

    finds : FindsBody (found_at x kept.0.props.version) kept.0
    finds = found_body x c.uber c.checks c.stands counted.firm kept.0 (chosen ∙ ap (λ (k : Option UberBody). option_map read_body k) kept.1)

    layout : layout_of uber ≡ layout_at_version kept.0.props.version x.geometry
    layout = found_layout area x uber kept.0 found.valid kept.1 finds there.held.layout.geometry_is

-- ---- the metaslabs

-- a layout has one table of permutations
pub one_table : (geometry : Geometry) (a b : Perms) → IsLayout geometry a → IsLayout geometry b → a ≡ b
one_table geometry a b first second = same_perms a b geometry.spec.children geometry.props.seed first.perms_are second.perms_are

pub once_there : (o : Option KitTold) (kit : KitTold) (P : KitTold → Type 0) → o ≡ Some kit → IsSomeAnd o P → P kit
once_there o kit P is h = subst (λ q. IsSomeAnd q P) is h

module _ {R A : Type 0} (rack : racks.Ghosts R) (area : areas.Ghosts A) (x : State) (pieces : ℕ → Pieces) (held : Held) (leaves : ℕ → Option Shape) (counts : ℕ → KitCounts) (count : ℕ)
    (there : RestsThere x pieces (Some held) leaves counts count) (uber : Uber A) (found : IsFoundUber area uber) (r : IsRecovered area (Some held) count uber) (b : FoundBody area x uber) where
  abbrev rests : Rests x pieces held
  rests = there.held

  abbrev importable : IsImportable x held leaves
  importable = there.importable

  -- one that was opened from its record of the group
  pub shard_found : (alloc : Global) (known : Option Shape) (now : ℕ → KitCounts) (m : ℕ) (shard : Shard R A) (y : Metaslab) (perms : Perms) → perms ≡ x.perms → ((k : ℕ) → now k ≡ counts k)
      → Valid rack shard → part_of shard ≡ record { geometry = layout_of uber; perms = perms; number = m }
      → OpensOver rack area (limit_of (layout_of uber)) (group_of (kept_of uber)) (next_leaf_of uber) m (takes_areas (Some held)) known (now m) shard
      → slice_get x.metaslabs m ≡ Some y → OpensFound rack area x b.body.group m (pieces m) y shard
  shard_found alloc known now m shard y perms same counted valid part over at =
      let kit = rested (held.kits m) x m (pieces m) y (rests.kits m y at) in
      let f : FindsImage x m (pieces m) y kit.0 b.body.group b.body.next_leaf
      = finds_image x rests.layout rests.many rests.images rests.leaves importable.findable m (pieces m) y kit.0 b.body.group b.body.next_leaf at kit.2 b.finds.may b.finds.some b.finds.leaf b.finds.version in
      let is_part : part_of shard ≡ part_in x m = part ∙ (λ i. record { geometry = b.layout i; perms = same i; number = m }) in
      let opens : Opens rack area.told over.kit b.body.group b.body.next_leaf shard
      = subst (λ n. Opens rack area.told over.kit b.body.group n shard) b.next (subst (λ n. Opens rack area.told over.kit n (next_leaf_of uber) shard) b.group over.opens) in
      let had = there.counted m y at in
      opens_found x m (pieces m) y kit.0 b.body.group b.body.next_leaf f alloc rack area over.kit (over.taken.told ∙ kit.1) shard is_part opens valid (over.limit_is ∙ ap (λ (g : Geometry). limit_of g) b.layout)
      (once_there (held.kits m) kit.0 (λ k. ListsOnce x.geometry m f.image (stable.area_of f.image.group k.even k.odd)) kit.1 (importable.once m y f.image at f.is))
      (λ who. over.taken.rack_count who ∙ (ap (λ (k : KitCounts). k.rack who) (counted m) ∙ had.rack who)) (over.taken.even_count ∙ (ap (λ (k : KitCounts). k.even) (counted m) ∙ had.even))
      (over.taken.odd_count ∙ (ap (λ (k : KitCounts). k.odd) (counted m) ∙ had.odd))
      (record { rack_count = over.later.on_rack.own; leaf_counts = over.later.on_rack.leaves; even = over.later.even; odd = over.later.odd })

  -- each of them
  pub each_found : (alloc : Global) (known : ℕ → Option Shape) (now : ℕ → KitCounts) (shards : List (Shard R A)) → ((k : ℕ) → now k ≡ counts k) → AreReopened rack (layout_of uber) (group_of (kept_of uber)) shards
      → OpensAllOver rack area (limit_of (layout_of uber)) (group_of (kept_of uber)) (next_leaf_of uber) (takes_areas (Some held)) known now shards
      → (m : ℕ) (shard : Shard R A) (y : Metaslab) → slice_get shards m ≡ Some shard → slice_get x.metaslabs m ≡ Some y → OpensFound rack area x b.body.group m (pieces m) y shard
  each_found alloc known now shards counted re over m shard y at here =
      let perms = one_table x.geometry re.perms x.perms (subst (λ (g : Geometry). IsLayout g re.perms) b.layout re.layout) rests.layout in
      shard_found alloc (known m) now m shard y re.perms perms counted (re.each m shard at).valid (re.each m shard at).part_is (over m shard at) here

  pub as_many_found : (shards : List (Shard R A)) → AreReopened rack (layout_of uber) (group_of (kept_of uber)) shards → length shards ≡ length x.metaslabs
  as_many_found shards re = re.many ∙ (ap (λ (g : Geometry). g.props.metaslabs) b.layout ∙ sym rests.many)

  -- all of them, and what their blocks say of the objects
  pub shards_found : (alloc : Global) (known : ℕ → Option Shape) (now : ℕ → KitCounts) (shards : List (Shard R A)) (newest : ℕ → Option Pointer) (seq : ℕ) → ((k : ℕ) → now k ≡ counts k)
      → AreReopened rack (layout_of uber) (group_of (kept_of uber)) shards
      → OpensAllOver rack area (limit_of (layout_of uber)) (group_of (kept_of uber)) (next_leaf_of uber) (takes_areas (Some held)) known now shards
      → (tells : Result CheckTold RecordFault → Type 0) (f : IsFoundBeside tells shards (group_of (kept_of uber)) 0 newest seq uber) → f.value ≡ check_told x.store.marks (group_of (kept_of uber)) → IsFoundOf rack area x uber pieces newest seq shards
  shards_found alloc known now shards newest seq counted re over tells f value_is =
      let later = r.later in
      let own = there.uber in
      let low = found.low in
      let group = b.group in
      found_begins rack area x pieces uber newest seq held rests importable.findable importable.alike b.body b.finds shards
      (as_many_found shards re) (each_found alloc known now shards counted re over)
      (omega (arith, later, own)) f.last f.value (value_is ∙ ap (check_told x.store.marks) b.group) (subst (λ n. IsCheck n f.value) b.group f.range) f.checked.have f.newest_is
      (subst (λ n. KeepsPoint n f.value shards newest 0 uber) b.group f.point) (omega (arith, low, group)) found.valid b.kept b.version b.next b.own_areas b.layout

-- what the pool is made of, whatever the shelf tells
pub pool_found : {R A : Type 0} (alloc : Global) (rack : racks.Ghosts R) (area : areas.Ghosts A) (x : State) (pieces : ℕ → Pieces) (o mid : Option Held) (leaves known : ℕ → Option Shape) (counts now : ℕ → KitCounts) (count : ℕ) (uber : Uber A)
    (shards : List (Shard R A)) (newest : ℕ → Option Pointer) (seq : ℕ) → RestsThere x pieces o leaves counts count → IsFoundUber area uber → (r : IsRecovered area o count uber)
    → ((k : ℕ) → now k ≡ counts k) → mid ≡ takes_areas o → AreReopened rack (layout_of uber) (group_of (kept_of uber)) shards
    → OpensAllOver rack area (limit_of (layout_of uber)) (group_of (kept_of uber)) (next_leaf_of uber) mid known now shards → (tells : Result CheckTold RecordFault → Type 0) (f : IsFoundBeside tells shards (group_of (kept_of uber)) 0 newest seq uber) → f.value ≡ check_told x.store.marks (group_of (kept_of uber))
    → IsFoundOf rack area x uber pieces newest seq shards
pool_found alloc rack area x pieces None mid leaves known counts now count uber shards newest seq there found r counted taken re over tells b value_is = absurd there.held
pool_found alloc rack area x pieces (Some held) mid leaves known counts now count uber shards newest seq there found r counted taken re over tells b value_is =
    let f = body_found area x pieces held leaves counts count uber there found r in
    found_from x f.version rack area uber pieces newest seq shards
    (shards_found rack area (found_at x f.version) pieces held leaves counts count f.there uber found r f.b alloc known now shards newest seq counted re
    (subst (λ o. OpensAllOver rack area (limit_of (layout_of uber)) (group_of (kept_of uber)) (next_leaf_of uber) o known now shards) taken over) tells b value_is)

-- ---- the shelf

-- where the devices of metaslabs were taken behind the uberblock's area, it tells as before
pub tells_as_before : (n : ℕ) (o mid new : Option Held) → mid ≡ takes_areas o → TakesFirst n mid new → is_some new ≡ is_some o
tells_as_before n o mid new taken takes = by o new (subst (λ (m : Option Held). TakesFirst n m new) taken takes)
  where
    by : (o new : Option Held) → TakesFirst n (takes_areas o) new → is_some new ≡ is_some o
    by None new t = ap (λ (h : Option Held). is_some h) t
    by (Some x) None t = absurd t
    by (Some x) (Some y) t = refl
