-- All metaslabs of a pool that rests on a shelf, as an import opens them.
use Rattle.std.proofs.Common.{arith, ◌≡◌, ◌+◌, ◌<◌, ◌≤◌, ◌++◌, ◌∙◌, ℕ, zero, suc, List, [], ◌∷◌, Option, Some, None, length, refl, sym, subst}
use Rattle.std.specs.Prelude.{◌↔◌, All, IsSomeAnd, slice_get}
use Rattle.std.proofs.lemmas.Option.{slice_get_within}
use Rattle.std.proofs.lemmas.List.Elements.{All-nil}
use Rattle.draid_names.specs.declared.numbers.TheConstants.{LAST_NUMBER}
use Rattle.draid_rack.specs.declared.Rack as racks
use Rattle.draid_area.specs.declared.Area as areas
use Rattle.draid_machine.specs.Created.{IsReached}
use Rattle.draid_machine.specs.State as machine
use Rattle.draid_shard.proofs.Standing.{has_layout}
use Rattle.draid_layouts.specs.Layout.{layout_of}
use Rattle.draid_objects.specs.Marks.{Mark, marks_upto}
use Rattle.draid_objects.specs.Stores.{AreMarkedUpto}
use Rattle.draid_record.specs.declared.uber.UberBody.{UberBody}
use Rattle.draid_segments.specs.Segments.{Pieces}
use Rattle.draid_shelf.specs.Kits.{Held, KitTold}
use Rattle.draid_shard.specs.declared.shard.Shard.{Shard}
use Rattle.draid_uber.specs.Checks.{AreasStand, told_by}
use Rattle.draid_uber.specs.Uber as ubers
use Rattle.draid_uber.specs.Uber.{Valid, areas_of, changed_of, count_of, kept_of, next_check, next_leaf_of, version_of}
use Rattle.draid_uber.specs.declared.uber.Uber.{Uber}
use Rattle.draid_session.specs.Opening.{DropsOlder, Finds, IsLastSeq, LeafIn, MayFind, Reopens, VersionIn}
use Rattle.draid_session.specs.State.{Metaslab, State}
use Rattle.draid_pool.specs.Returning.{Rests, RestsOn}
use Rattle.draid_pool.specs.Importable.{AllAlike, AreAlike, IsFindable}
use Rattle.draid_import.specs.Imported.{FindsBody, OpensFound, SaysObjects, StandsFound, found_state}
use Rattle.draid_pool.specs.Metaslabs.{IsMetaslab}
use Rattle.draid_pool.specs.Objects.{HoldsObjects, blocks_of}
use Rattle.draid_pool.specs.Pools.{part_in}
use Rattle.draid_session.specs.Points.{HasLateMark}
use Rattle.draid_import.proofs.ImportAlike.{found_arms}
use Rattle.draid_import.proofs.ImportDrops.{AreOld}
use Rattle.draid_pool.proofs.Alike.{one_shared}
use Rattle.draid_import.proofs.ImportFound.{found_groups, found_holds, found_images, found_leaves, found_open, found_says, numbered_last, part_there}
use Rattle.draid_import.proofs.ImportUber.{found_uber}
use Rattle.draid_pool.proofs.Lists.{present, some_of}
use Rattle.draid_pool.specs.Ubers.{check_told}

one_more : {A B : Type 0} (x : A) (xs : List A) (y : B) (ys : List B) (P : ℕ → A → B → Type 0) → P 0 x y → ((m : ℕ) (z : A) (w : B) → slice_get xs m ≡ Some z → slice_get ys m ≡ Some w → P (suc m) z w)
    → (m : ℕ) (z : A) (w : B) → slice_get (x ∷ xs) m ≡ Some z → slice_get (y ∷ ys) m ≡ Some w → P m z w
one_more x xs y ys P here rest zero z w a b = subst (λ v. P 0 v w) (some_of (Some z) x z (sym a) refl) (subst (P 0 x) (some_of (Some w) y w (sym b) refl) here)
one_more x xs y ys P here rest (suc m) z w a b = rest m z w a b

-- what there is for each of a list, as a list
pub collect : {A B : Type 0} (xs : List A) (P : ℕ → A → B → Type 0) → ((m : ℕ) (x : A) → slice_get xs m ≡ Some x → (y : B) × P m x y)
    → (ys : List B) × (length ys ≡ length xs) × ((m : ℕ) (x : A) (y : B) → slice_get xs m ≡ Some x → slice_get ys m ≡ Some y → P m x y)
collect [] P each = ([], refl, λ m x y a b. absurd (cc))
collect (x ∷ xs) P each =
    let here = each 0 x refl in
    let rest = collect xs (λ m z y. P (suc m) z y) (λ m z at. each (suc m) z at) in
    (here.0 ∷ rest.0, (let same = rest.1 in omega (arith, same)), one_more x xs here.0 rest.0 P here.1 rest.2)

-- ---- the state

pub rested : (o : Option KitTold) (x : State) (m : ℕ) (pieces : Pieces) (y : Metaslab) → IsSomeAnd o (RestsOn x m pieces y) → (kit : KitTold) × (o ≡ Some kit) × RestsOn x m pieces y kit
rested None x m pieces y h = absurd h
rested (Some kit) x m pieces y h = (kit, refl, h)

module _ (x : State) (pieces : ℕ → Pieces) (held : Held) (rests : Rests x pieces held) where
  pub all_reached : (m : ℕ) (y : Metaslab) → slice_get x.metaslabs m ≡ Some y → IsReached (layout_of x.geometry x.perms m) y.world
  all_reached m y at = (rested (held.kits m) x m (pieces m) y (rests.kits m y at)).2.reached

pub finds_state : (x : State) (group next : ℕ) (metaslabs : List Metaslab) (marks drops : List Mark) (seq count : ℕ) → marks ≡ drops ++ marks_upto group x.store.marks → All (DropsOlder (found_state x group next metaslabs marks seq count) group) drops → VersionIn x group x.geometry.props.version → MayFind x group → 0 < group → LeafIn x group next → length metaslabs ≡ length x.metaslabs
    → ((m : ℕ) (y z : Metaslab) → slice_get x.metaslabs m ≡ Some y → slice_get metaslabs m ≡ Some z → Reopens x.geometry x.perms group m y z) → x.uber_count ≤ count
    → Finds x group (found_state x group next metaslabs marks seq count)
finds_state x group next metaslabs marks drops seq count behind drops_are version may some leaf many each counts = record {
  found = may;
  some = some;
  layout = (refl, refl);
  many = many;
  each = each;
  committed = refl;
  leaves = (leaf, refl);
  version = (version, refl);
  pending = refl;
  counts = counts;
  changes = refl;
  drops = drops;
  marks = behind;
  drops_are = drops_are;
  floor = refl;
  told = refl;
}

module _ {R A : Type 0} (rack : racks.Ghosts R) (area : areas.Ghosts A) (x : State) (pieces : ℕ → Pieces) (held : Held) (rests : Rests x pieces held) (findable : IsFindable x)
    (uber : Uber A) (body : UberBody) (body_is : FindsBody x body) (shards : List (Shard R A)) (many : length shards ≡ length x.metaslabs)
    (each : (m : ℕ) (shard : Shard R A) (y : Metaslab) → slice_get shards m ≡ Some shard → slice_get x.metaslabs m ≡ Some y → OpensFound rack area x body.group m (pieces m) y shard) where
  -- a shard and the metaslab that it stands for
  pub record IsOpened (m : ℕ) (y z : Metaslab) : Type 0 where
    pub reopens : Reopens x.geometry x.perms body.group m y z
    pub is : (shard : Shard R A) → slice_get shards m ≡ Some shard → IsMetaslab rack area (part_in x m) (pieces m) shard z

  opened_at : (m : ℕ) (y : Metaslab) → slice_get x.metaslabs m ≡ Some y → (z : Metaslab) × IsOpened m y z
  opened_at m y at =
      let within = slice_get_within x.metaslabs m y at in
      let s = present shards m (omega (arith, within, many)) in
      let o = each m s.0 y s.1 at in
      (o.z, record { reopens = o.reopens; is = λ shard there. subst (λ (q : Shard R A). IsMetaslab rack area (part_in x m) (pieces m) q o.z) (some_of (slice_get shards m) s.0 shard s.1 there) o.is })

  -- the metaslabs that they stand for
  pub all_opened : (zs : List Metaslab) × (length zs ≡ length x.metaslabs) × ((m : ℕ) (y z : Metaslab) → slice_get x.metaslabs m ≡ Some y → slice_get zs m ≡ Some z → IsOpened m y z)
  all_opened = collect x.metaslabs IsOpened opened_at

  module _ (seq : ℕ) (counted : x.uber_count ≤ count_of area.faults uber) where
    -- the state that is found
    abbrev pub opened_state : State
    opened_state = found_state x body.group body.next_leaf all_opened.0 (marks_upto body.group x.store.marks) seq (count_of area.faults uber)

    pub finds_opened : Finds x body.group opened_state
    finds_opened = finds_state x body.group body.next_leaf all_opened.0 (marks_upto body.group x.store.marks) [] seq (count_of area.faults uber) refl (All-nil (DropsOlder opened_state body.group)) body_is.version body_is.may body_is.some body_is.leaf all_opened.1 (λ m y z at there. (all_opened.2 m y z at there).reopens) counted

    pub opened_is_in : (m : ℕ) (shard : Shard R A) (z : Metaslab) → slice_get shards m ≡ Some shard → slice_get opened_state.metaslabs m ≡ Some z → IsMetaslab rack area (part_in x m) (pieces m) shard z
    opened_is_in m shard z at there =
        let within = slice_get_within all_opened.0 m z there in
        let same = all_opened.1 in
        let y = present x.metaslabs m (omega (arith, within, same)) in
        (all_opened.2 m y.0 z y.1 there).is shard at

    reached : (m : ℕ) (y : Metaslab) → slice_get x.metaslabs m ≡ Some y → IsReached (layout_of x.geometry x.perms m) y.world
    reached = all_reached x pieces held rests

    pub opened_says : SaysObjects opened_state
    opened_says = found_says x opened_state body.group pieces finds_opened refl rests.layout rests.many reached rests.leaves findable rests.objects

    pub opened_holds : IsLastSeq opened_state seq → HoldsObjects opened_state.geometry opened_state.committed opened_state.store (blocks_of opened_state.metaslabs) pieces
    opened_holds last = found_holds x opened_state body.group pieces finds_opened refl rests.layout rests.many reached rests.leaves findable rests.objects refl
        (numbered_last x opened_state body.group pieces finds_opened refl rests.layout rests.many reached rests.leaves findable rests.objects last)

    -- the state with these marks
    abbrev pub marked_state : List Mark → State
    marked_state marks = found_state x body.group body.next_leaf all_opened.0 marks seq (count_of area.faults uber)

    pub finds_marked : (marks drops : List Mark) → marks ≡ drops ++ marks_upto body.group x.store.marks → All (DropsOlder (marked_state marks) body.group) drops → Finds x body.group (marked_state marks)
    finds_marked marks drops behind drops_are = finds_state x body.group body.next_leaf all_opened.0 marks drops seq (count_of area.faults uber) behind drops_are body_is.version body_is.may body_is.some body_is.leaf all_opened.1
        (λ m y z at there. (all_opened.2 m y z at there).reopens) counted

    opened_arms : AreAlike x → (arms : machine.Core) × AllAlike (one_shared x.geometry.props.version arms) opened_state
    opened_arms alike = found_arms x body.group all_opened.0 alike body_is.may findable body_is.version
        (λ m y at. has_layout (part_in x m) (part_there x rests.layout rests.many rests.images rests.leaves findable m y at)) reached (λ m z at.
        (let within = slice_get_within all_opened.0 m z at in
        let same = all_opened.1 in
        let y = present x.metaslabs m (omega (arith, within, same)) in
        (y.0, y.1, (all_opened.2 m y.0 z y.1 at).reopens)))

    pub opened_stands : (marks : List Mark) → Finds x body.group (marked_state marks) → AreAlike x → HoldsObjects x.geometry body.group (marked_state marks).store (blocks_of all_opened.0) pieces → AreOld body.group marks → AreMarkedUpto (body.group + 1) marks
        → body.group < LAST_NUMBER → Valid area.size uber → kept_of uber ≡ Some body → version_of uber ≡ body.props.version → next_leaf_of uber ≡ body.next_leaf
        → AreasStand (check_told x.store.marks) (kept_of uber) [] (told_by area.told (areas_of uber)) → check_told marks body.group ≡ check_told x.store.marks body.group
        → ((g : ℕ) → body.group < g → next_check uber g ≡ check_told marks g) → ((g : ℕ) → body.group ≤ g → HasLateMark g marks ↔ (g < changed_of uber)) → ubers.layout_of uber ≡ x.geometry
        → StandsFound rack area shards uber pieces (marked_state marks)
    opened_stands marks finds alike holds old upto low valid kept version next stands told point late layout_is = record {
      layout = rests.layout;
      many = all_opened.1 ∙ rests.many;
      shards_are = many ∙ sym all_opened.1;
      each = opened_is_in;
      holds = holds;
      groups = found_groups x (marked_state marks) body.group pieces finds refl rests.layout rests.many reached rests.leaves findable rests.objects low old upto;
      uber_is = found_uber area x (marked_state marks) uber body valid kept body_is layout_is version next stands told point late refl refl refl refl refl (refl, refl);
      images = found_images x (marked_state marks) body.group pieces finds refl rests.layout rests.many reached rests.leaves findable rests.objects;
      leaves = found_leaves x (marked_state marks) body.group pieces finds refl rests.layout rests.many reached rests.leaves findable rests.objects;
      shared = one_shared x.geometry.props.version (opened_arms alike).0;
      versions = record { kept = refl; now = refl };
      at_version = refl;
      alike = (opened_arms alike).1;
      open_groups = found_open x (marked_state marks) body.group pieces finds refl rests.layout rests.many reached rests.leaves findable rests.objects;
      floor = refl;
    }
