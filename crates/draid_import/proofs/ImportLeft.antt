-- What an import leaves that was refused behind the uberblock: the metaslabs that were opened are given back, and the others are as they were.
use Rattle.std.proofs.Common.{arith, ◌≡◌, ◌<◌, ◌≤◌, ◌∙◌, ◌⊎◌, inl, inr, ℕ, List, [], Option, Some, None, Ok, Err, length, refl, sym, ap, subst}
use Rattle.std.specs.declared.alloc.Global.{Global}
use Rattle.std.specs.Prelude.{IsErrOf, IsSome, IsSomeAnd, MatchOption, option_map, slice_get}
use Rattle.std.proofs.lemmas.Bool.{cases_eq, cases_lt}
use Rattle.std.proofs.lemmas.Option.{slice_get_within}
use Rattle.draid_names.specs.Faults.{Rose}
use Rattle.draid_area.specs.Area.{Content, flushes}
use Rattle.draid_area.specs.declared.Area as areas
use Rattle.draid_rack.specs.Rack.{Shape, Told, OnBothTold}
use Rattle.draid_rack.specs.declared.Rack as racks
use Rattle.draid_spec.specs.declared.layout.Geometry.{Geometry}
use Rattle.draid_perm.specs.declared.perms.Perms.{Perms}
use Rattle.draid_map.specs.Place.{IsLayout}
use Rattle.draid_record.specs.declared.uber.UberBody.{UberBody}
use Rattle.draid_segments.specs.Acts.{DropsBut, IsNamed}
use Rattle.draid_segments.specs.Segments.{Pieces}
use Rattle.draid_shelf.specs.Kits.{ChecksTold, Held, KitCounts, KitTold, NeedsKit, OnHeld, gives_kit, kit_of, puts_checks, puts_uber, takes_kit}
use Rattle.draid_shelf.specs.Shelf.{IsKnown, SameOthers}
use Rattle.draid_shelf.specs.declared.kit.Kit.{Kit}
use Rattle.draid_stable.specs.Images.{image_by}
use Rattle.draid_stable.specs.Stable as stable
use Rattle.draid_pool.specs.Groups.{ListsOnce}
use Rattle.draid_import.specs.Reopening.{Opens}
use Rattle.draid_shard.specs.declared.shard.Shard.{Shard}
use Rattle.draid_uber.specs.Checks.{AreasStand, told_by}
use Rattle.draid_uber.specs.Slots.{group_of}
use Rattle.draid_uber.specs.Uber.{areas_of, count_of, kept_of, layout_of, next_leaf_of}
use Rattle.draid_uber.specs.declared.uber.Uber.{Uber}
use Rattle.draid_session.specs.State.{Metaslab, State, limit_of}
use Rattle.draid_pool.specs.Returning.{AllTell, RestsOn, Returns, ReturnsLeaves, TakesBack, areas_told, kit_in}
use Rattle.draid_import.specs.Checking.{NoCheck}
use Rattle.draid_import.specs.Found.{AnyRecordsRose, AreReopened, CountsLater, HasRisen, IsFoundUber, IsRecovered, IsReopened, KeepsKnown, LeavesShards, NoRecord, OpensAllOver, OpensOver, RecordsRose, StaysHeld}
use Rattle.draid_pool.specs.Importable.{HasImageLeaves}
use Rattle.draid_import.specs.Imported.{FindsBody, OpensFound, RestsFound}
use Rattle.draid_import.specs.Importing.{ImportIs, LeavesPool, RestsThere}
use Rattle.draid_pool.specs.Taking.{TakesFirst, gives_areas, takes_areas}
use Rattle.draid_import.specs.declared.fault.ImportFault.{ImportFault}
use Rattle.draid_import.specs.declared.fault.ImportFault.TheVariants as fault
use Rattle.draid_pool.proofs.Returned.{kit_is}
use Rattle.draid_import.proofs.Found.{counts_later, stays_same}
use Rattle.draid_import.proofs.ImportFound.{finds_image}
use Rattle.draid_import.proofs.ImportMetaslab.{FindsImage}
use Rattle.draid_import.proofs.ImportOpened.{rested}
use Rattle.draid_import.proofs.ImportPool.{FoundBody, HeldAreas, RestsFoundAt, body_found, held_areas, one_table, shard_found, told_checks}
use Rattle.draid_import.proofs.ImportRefused.{found_leaves_pool, given_found, left_found}
use Rattle.draid_import.proofs.ImportVersion.{LeavesFound, found_at, left_from}
use Rattle.draid_pool.proofs.Lists.{ext, present}
use Rattle.draid_pool.proofs.Takings.{rose_since}
use Rattle.draid_pool.specs.Ubers.{check_told}

-- ---- one metaslab

-- the shelf is as it was
pub tells_same : (o new : Option Held) → new ≡ o → OnHeld o (λ x. IsSome new)
tells_same None new same = tt
tells_same (Some x) new same = subst IsSome (sym same) refl

-- a kit that tells what was held is put back
pub tells_put : {T : Type 0} (taken : T) (n : ℕ) (old mid new : Option Held) (k : Option KitTold) → mid ≡ takes_kit n old → new ≡ gives_kit n k mid → OnHeld old (λ x. k ≡ x.kits n) → NeedsKit n (Ok taken) old
    → OnHeld old (λ x. IsSome new)
tells_put taken n None mid new k takes gives is needs = tt
tells_put taken n (Some x) mid new k takes gives is needs = by k is (gives ∙ ap (gives_kit n k) takes)
  where
    by : (j : Option KitTold) → j ≡ x.kits n → new ≡ gives_kit n j (takes_kit n (Some x)) → IsSome new
    by None own gives = (let failed = needs (sym own) in absurd (cc))
    by (Some j) own gives = subst IsSome (sym gives) refl

pub keeps_same : (o : Option Shape) → KeepsKnown o o
keeps_same None = tt
keeps_same (Some shape) = refl

pub keeps_equal : (o n : Option Shape) → n ≡ o → KeepsKnown o n
keeps_equal o n same = subst (KeepsKnown o) (sym same) (keeps_same o)

-- a rack that had the leaves that were known is put back
pub keeps_known : (o n : Option Shape) (shape shape' : Shape) → IsKnown o shape → shape' ≡ shape → n ≡ Some shape' → KeepsKnown o n
keeps_known None n shape shape' known same is = tt
keeps_known (Some s) n shape shape' known same is = is ∙ ap (λ (z : Shape). Some z) (same ∙ known)

on_known : (o n : Option Shape) (P : Shape → Type 0) → KeepsKnown o n → IsSomeAnd o P → IsSomeAnd n P
on_known None n P keeps h = absurd h
on_known (Some s) n P keeps h = subst (λ q. IsSomeAnd q P) (sym keeps) h

-- ---- the metaslabs

back_by : {R A : Type 0} (rack : racks.Ghosts R) (area : areas.Ghosts A) (n : ℕ) (shards : List (Shard R A)) → length shards ≡ n → (a b c d : Option Held) → TakesFirst n a b → StaysHeld b c
    → OnHeld d (λ y. MatchOption c ⊥ (λ x. TakesBack rack area shards x y)) → OnHeld d (λ y. MatchOption a ⊥ (λ x. TakesBack rack area shards x y))
back_by rack area n shards many a b c None t s h = tt
back_by rack area n shards many a b None (Some w) t s h = absurd h
back_by rack area n shards many a None (Some z) (Some w) t s h = absurd s
back_by rack area n shards many None (Some y) (Some z) (Some w) t s h = absurd (cc)
back_by rack area n shards many (Some x) (Some y) (Some z) (Some w) t s h = record {
  uber = h.uber ∙ (s.uber ∙ t.uber);
  checks = h.checks ∙ (s.checks ∙ t.checks);
  kits = h.kits;
  others = λ m past. h.others m past ∙ (s.kits m ∙ t.others m (omega (arith, past, many)));
}

told_there : (o n : Option Told) (t : Told) (P : Told → Told → Type 0) → o ≡ Some t → OnBothTold o n P → (s : Told) × (n ≡ Some s)
told_there None n t P is both = absurd (cc)
told_there (Some o) None t P is both = absurd both
told_there (Some o) (Some s) t P is both = (s, refl)

all_some : (r : Option Told) (e o : Option Content) (a : Told) (b c : Content) → r ≡ Some a → e ≡ Some b → o ≡ Some c → IsSome (kit_of r e o)
all_some r e o a b c r_is e_is o_is =
    subst (λ z. IsSome (kit_of z e o)) (sym r_is) (subst (λ z. IsSome (kit_of (Some a) z o)) (sym e_is) (subst (λ z. IsSome (kit_of (Some a) (Some b) z)) (sym o_is) refl))

-- a metaslab that was opened over devices that tell does so
tells_over : {R A : Type 0} (rack : racks.Ghosts R) (area : areas.Ghosts A) (old : Kit R A) (shard : Shard R A) (group next : ℕ) (kit : KitTold)
    → kit_of (rack.told old.rack) (area.told old.even) (area.told old.odd) ≡ Some kit → Opens rack area.told old group next shard → IsSome (kit_in rack area shard)
tells_over rack area old shard group next kit told opens =
    let k = kit_is (rack.told old.rack) (area.told old.even) (area.told old.odd) kit told in
    let t = told_there (rack.told old.rack) (rack.told shard.rack) kit.rack (DropsBut (IsNamed (image_by opens.value))) k.rack opens.leaves in
    all_some (rack.told shard.rack) (area.told shard.even) (area.told shard.odd) t.0 kit.even kit.odd t.1 (opens.even ∙ k.even) (opens.odd ∙ k.odd)

-- so all of them, where the shelf told what it held
all_tell_over : {R A : Type 0} (rack : racks.Ghosts R) (area : areas.Ghosts A) (limit group next : ℕ) (o : Option Held) (leaves : ℕ → Option Shape) (counts : ℕ → KitCounts) (shards : List (Shard R A))
    → OpensAllOver rack area limit group next o leaves counts shards → OnHeld o (λ x. AllTell rack area shards)
all_tell_over rack area limit group next None leaves counts shards over = tt
all_tell_over {R} {A} rack area limit group next (Some x) leaves counts shards over = λ m shard at. by m shard (over m shard at) (x.kits m) refl
  where
    by : (m : ℕ) (shard : Shard R A) → OpensOver rack area limit group next m (Some x) (leaves m) (counts m) shard → (k : Option KitTold) → x.kits m ≡ k → IsSome (kit_in rack area shard)
    by m shard o None none = (let failed = o.taken.some none in absurd (cc))
    by m shard o (Some kit) is = tells_over rack area o.kit shard group next kit (o.taken.told ∙ is) o.opens

-- none was opened yet
pub leaves_none : {R A : Type 0} (rack : racks.Ghosts R) (area : areas.Ghosts A) (geometry : Geometry) (group next : ℕ) (perms : Perms) (told : Option Held) (counts : ℕ → KitCounts) (leaves : ℕ → Option Shape)
    → IsLayout geometry perms → LeavesShards rack area geometry group next told told counts counts leaves leaves
leaves_none {R} {A} rack area geometry group next perms told counts leaves layout = record {
  perms = perms;
  layout = layout;
  shards = [];
  few = omega arith;
  each = λ m shard there. absurd (cc);
  over = λ m shard there. absurd (cc);
  held = by told;
  tells = still told;
  rack_count = λ m shard who there. absurd (cc);
  even_count = λ m shard there. absurd (cc);
  odd_count = λ m shard there. absurd (cc);
  others = λ m past. record { rack = λ who. refl; even = omega arith; odd = omega arith };
  leaves_own = λ m shard there. absurd (cc);
  leaves_left = λ m past. keeps_same (leaves m);
} where
  empty : List (Shard R A)
  empty = []

  by : (o : Option Held) → OnHeld o (λ y. MatchOption o ⊥ (λ x. TakesBack rack area empty x y))
  by None = tt
  by (Some x) = record { uber = refl; checks = refl; kits = λ m shard there. absurd (cc); others = λ m past. refl }

  still : (o : Option Held) → OnHeld o (λ x. IsSome o)
  still None = tt
  still (Some x) = refl

-- one of them wasn't opened, and those below it were given back
pub leaves_shards : {R A : Type 0} (rack : racks.Ghosts R) (area : areas.Ghosts A) (geometry : Geometry) (group next n : ℕ) (perms : Perms) (shards : List (Shard R A)) (first mid last new : Option Held)
    (before middle late after : ℕ → KitCounts) (leaves yet_leaves late_leaves now : ℕ → Option Shape)
    → IsLayout geometry perms → length shards ≡ n → n < geometry.props.metaslabs
    → ((m : ℕ) (shard : Shard R A) → slice_get shards m ≡ Some shard → IsReopened rack (record { geometry = geometry; perms = perms; number = m }) group shard)
    → OpensAllOver rack area (limit_of geometry) group next first leaves before shards → TakesFirst n first mid → StaysHeld mid last → OnHeld mid (λ x. IsSome last)
    → Returns rack area shards last new late after → ReturnsLeaves rack shards late_leaves now → ((m : ℕ) → n ≤ m → middle m ≡ before m) → CountsLater (middle n) (late n) → SameOthers n middle late
    → ((m : ℕ) → n ≤ m → yet_leaves m ≡ leaves m) → KeepsKnown (yet_leaves n) (late_leaves n) → SameOthers n yet_leaves late_leaves
    → LeavesShards rack area geometry group next first new before after leaves now
leaves_shards rack area geometry group next n perms shards first mid last new before middle late after leaves yet_leaves late_leaves now layout many below each over takes stays tells r l yet later others yet_known known others_known =
    record {
      perms = perms;
      layout = layout;
      shards = shards;
      few = omega (arith, many, below);
      each = each;
      over = over;
      held = back_by rack area n shards many first mid last new takes stays r.held;
      tells = still first mid takes tells (all_tell_over rack area (limit_of geometry) group next first leaves before shards over);
      rack_count = r.rack_count;
      even_count = r.even_count;
      odd_count = r.odd_count;
      others = λ m past. subst (λ (k : KitCounts). CountsLater k (after m)) (yet m (omega (arith, past, many))) (subst (λ (k : KitCounts). CountsLater (middle m) k) (sym (r.others m past)) (count_at m (cases_eq m n)));
      leaves_own = l.own;
      leaves_left = λ m past. subst (λ o. KeepsKnown o (now m)) (yet_known m (omega (arith, past, many))) (subst (KeepsKnown (yet_leaves m)) (sym (l.others m past)) (known_at m (cases_eq m n)));
    }
  where
    count_at : (m : ℕ) → (m ≡ n) ⊎ (m ≡ n → ⊥) → CountsLater (middle m) (late m)
    count_at m (inl same) = subst (λ (k : ℕ). CountsLater (middle k) (late k)) (sym same) later
    count_at m (inr other) = subst (λ (k : KitCounts). CountsLater (middle m) k) (sym (others m other)) (record { rack = λ who. refl; even = omega arith; odd = omega arith })

    known_at : (m : ℕ) → (m ≡ n) ⊎ (m ≡ n → ⊥) → KeepsKnown (yet_leaves m) (late_leaves m)
    known_at m (inl same) = subst (λ (k : ℕ). KeepsKnown (yet_leaves k) (late_leaves k)) (sym same) known
    known_at m (inr other) = keeps_equal (yet_leaves m) (late_leaves m) (others_known m other)

    still : (a b : Option Held) → TakesFirst n a b → OnHeld b (λ x. IsSome last) → OnHeld a (λ x. AllTell rack area shards) → OnHeld a (λ x. IsSome new)
    still None b t h all = tt
    still (Some x) None t h all = absurd t
    still (Some x) (Some y) t h all = r.tells h all

-- all were opened, and were given back
pub leaves_all : {R A : Type 0} (rack : racks.Ghosts R) (area : areas.Ghosts A) (geometry : Geometry) (group next : ℕ) (shards : List (Shard R A)) (first last new : Option Held)
    (before late after : ℕ → KitCounts) (leaves late_leaves now : ℕ → Option Shape)
    → AreReopened rack geometry group shards → OpensAllOver rack area (limit_of geometry) group next first leaves before shards → TakesFirst geometry.props.metaslabs first last
    → ((m : ℕ) → geometry.props.metaslabs ≤ m → (late m ≡ before m) × (late_leaves m ≡ leaves m)) → Returns rack area shards last new late after → ReturnsLeaves rack shards late_leaves now → LeavesShards rack area geometry group next first new before after leaves now
leaves_all rack area geometry group next shards first last new before late after leaves late_leaves now are over takes left r l = record {
  perms = are.perms;
  layout = are.layout;
  shards = shards;
  few = (let many = are.many in omega (arith, many));
  each = are.each;
  over = over;
  held = back_by rack area geometry.props.metaslabs shards are.many first last last new takes (stays_same last last refl) r.held;
  tells = still first last takes r.tells (all_tell_over rack area (limit_of geometry) group next first leaves before shards over);
  rack_count = r.rack_count;
  even_count = r.even_count;
  odd_count = r.odd_count;
  others = λ m past. (let many = are.many in counts_later (before m) (after m) (r.others m past ∙ (left m (omega (arith, past, many))).0));
  leaves_own = l.own;
  leaves_left = λ m past. (let many = are.many in keeps_equal (leaves m) (now m) (l.others m past ∙ (left m (omega (arith, past, many))).1));
} where
  still : (a b : Option Held) → TakesFirst geometry.props.metaslabs a b → (IsSome b → AllTell rack area shards → IsSome new) → OnHeld a (λ x. AllTell rack area shards) → OnHeld a (λ x. IsSome new)
  still None b t h all = tt
  still (Some x) None t h all = absurd t
  still (Some x) (Some y) t h all = h refl all

-- ---- the pool

some_is : {X : Type 0} (o : Option X) → IsSome o → (x : X) × (o ≡ Some x)
some_is None some = absurd (cc)
some_is (Some x) some = (x, refl)

module _ {R A : Type 0} (rack : racks.Ghosts R) (area : areas.Ghosts A) (x : State) (pieces : ℕ → Pieces) (held : Held) (leaves : ℕ → Option Shape) (counts : ℕ → KitCounts) (count : ℕ)
    (there : RestsThere x pieces (Some held) leaves counts count) (body : UberBody) (finds : FindsBody x body) (alloc : Global) (geometry : Geometry) (same : geometry ≡ x.geometry) (group next : ℕ)
    (back : Option Held) (after : ℕ → KitCounts) (now : ℕ → Option Shape) (l : LeavesShards rack area geometry group next (Some (puts_checks None (puts_uber None held))) back counts after leaves now)
    (opened : (m : ℕ) (shard : Shard R A) (y : Metaslab) → slice_get l.shards m ≡ Some shard → slice_get x.metaslabs m ≡ Some y → OpensFound rack area x body.group m (pieces m) y shard) where
  held_kit : (m : ℕ) (y : Metaslab) → slice_get x.metaslabs m ≡ Some y → (kit : KitTold) × (held.kits m ≡ Some kit) × RestsOn x m (pieces m) y kit
  held_kit m y at = rested (held.kits m) x m (pieces m) y (there.held.kits m y at)

  many : length x.metaslabs ≡ geometry.props.metaslabs
  many = there.held.many ∙ ap (λ (g : Geometry). g.props.metaslabs) (sym same)

  given : (b : Held) × (back ≡ Some b)
  given = some_is back l.tells

  takes : TakesBack rack area l.shards (puts_checks None (puts_uber None held)) given.0
  takes = subst (λ o. OnHeld o (λ y. TakesBack rack area l.shards (puts_checks None (puts_uber None held)) y)) given.1 l.held

  -- an opened metaslab, or one that wasn't
  each : (m : ℕ) (y : Metaslab) → slice_get x.metaslabs m ≡ Some y → (kit : KitTold) × (given.0.kits m ≡ Some kit) × RestsFound x body.group m (pieces m) y kit (now m) (after m)
  each m y at = by (cases_lt m (length l.shards))
    where
      by : (m < length l.shards) ⊎ (length l.shards ≤ m) → (kit : KitTold) × (given.0.kits m ≡ Some kit) × RestsFound x body.group m (pieces m) y kit (now m) (after m)
      by (inl below) =
          let s = present l.shards m below in
          let k = takes.kits m s.0 s.1 in
          (k.0, k.2, given_found rack area x body.group m (pieces m) y s.0 k.0 (now m) (after m) (opened m s.0 y s.1 at) k.1 (l.leaves_own m s.0 s.1) (λ who. l.rack_count m s.0 who s.1) (l.even_count m s.0 s.1) (l.odd_count m s.0 s.1))
      by (inr past) =
          let kit = held_kit m y at in
          let within = slice_get_within x.metaslabs m y at in
          let below : m < geometry.props.metaslabs = omega (arith, within, many) in
          let f : FindsImage x m (pieces m) y kit.0 body.group body.next_leaf
          = finds_image x there.held.layout there.held.many there.held.images there.held.leaves there.importable.findable m (pieces m) y kit.0 body.group body.next_leaf at kit.2 finds.may finds.some finds.leaf finds.version in
          let later = l.others m past in
          let had = there.counted m y at in (
            kit.0,
            takes.others m past ∙ kit.1,
            left_found x body.group body.next_leaf m (pieces m) y kit.0 (now m) (after m) alloc f
                (subst (λ q. IsSomeAnd q (λ k. ListsOnce x.geometry m f.image (stable.area_of f.image.group k.even k.odd))) kit.1 (there.importable.once m y f.image at f.is))
                (on_known (leaves m) (now m) (HasImageLeaves x.geometry f.image) (l.leaves_left m past) (there.importable.there m y f.image at f.is))
                (λ who. (let a = had.rack who in let b = later.rack who in omega (arith, a, b)))
                (let a = had.even in let b = later.even in omega (arith, a, b))
                (let a = had.odd in let b = later.odd in omega (arith, a, b)),
          )

  -- the pool as the group has it whose uberblock was found
  pub refused_leaves : (u : Content) (k : ChecksTold) (n : ℕ) → AreasStand (check_told x.store.marks) (Some body) [] (areas_told u k) → x.uber_count ≤ n → LeavesFound x pieces (gives_areas (areas_told u k) back) now after n
  refused_leaves u k n stands counted = subst (λ o. LeavesFound x pieces (gives_areas (areas_told u k) o) now after n) (sym given.1)
      (found_leaves_pool x pieces held there.held there.importable.findable body finds (puts_checks (Some k) (puts_uber (Some u) given.0)) now after n there.importable.alike counted each u k refl refl stands)

-- whatever the shelf tells
pub refused_pool : {R A : Type 0} (alloc : Global) (rack : racks.Ghosts R) (area : areas.Ghosts A) (x : State) (pieces : ℕ → Pieces) (o mid back new : Option Held) (leaves yet_leaves late_leaves now : ℕ → Option Shape)
    (counts yet late after : ℕ → KitCounts) (count n : ℕ) (uber : Uber A) → RestsThere x pieces o leaves counts count → IsFoundUber area uber → IsRecovered area o count uber → mid ≡ takes_areas o
    → ((m : ℕ) → yet_leaves m ≡ leaves m) → ((m : ℕ) → yet m ≡ counts m)
    → LeavesShards rack area (layout_of uber) (group_of (kept_of uber)) (next_leaf_of uber) mid back yet late yet_leaves late_leaves
    → new ≡ gives_areas (told_by area.told (areas_of uber)) back → ((m : ℕ) → now m ≡ late_leaves m) → ((m : ℕ) → after m ≡ late m) → n ≡ count_of area.faults uber → LeavesPool x pieces new now after n
refused_pool {R} {A} alloc rack area x pieces None mid back new leaves yet_leaves late_leaves now counts yet late after count n uber there found r taken same_leaves same_counts l gives now_is after_is n_is = absurd there.held
refused_pool {R} {A} alloc rack area x pieces (Some held) mid back new leaves yet_leaves late_leaves now counts yet late after count n uber there found r taken same_leaves same_counts l gives now_is after_is n_is =
    subst (λ (o : Option Held). LeavesPool x pieces o now after n) (sym (gives ∙ ap (λ t. gives_areas t back) told))
    (subst (λ (s : ℕ → Option Shape). LeavesPool x pieces (gives_areas (areas_told (flushes c.uber) c.checks) back) s after n) (sym (ext now late_leaves now_is))
    (subst (λ (k : ℕ → KitCounts). LeavesPool x pieces (gives_areas (areas_told (flushes c.uber) c.checks) back) late_leaves k n) (sym (ext after late after_is))
    (left_from x f.version pieces (gives_areas (areas_told (flushes c.uber) c.checks) back) late_leaves late n
    (refused_leaves rack area (found_at x f.version) pieces held leaves counts count f.there b.body b.finds alloc (layout_of uber) b.layout (group_of (kept_of uber)) (next_leaf_of uber) back late late_leaves left opened (flushes c.uber) c.checks n stands
    (let later = r.later in let own = there.uber in omega (arith, later, own, n_is))))))
  where
    f : RestsFoundAt area x pieces held leaves counts count uber
    f = body_found area x pieces held leaves counts count uber there found r

    b : FoundBody area (found_at x f.version) uber
    b = f.b

    c : HeldAreas x held
    c = held_areas x held there.held.uber

    told : told_by area.told (areas_of uber) ≡ areas_told (flushes c.uber) c.checks
    told =
        let uber_told = r.flushed ∙ ap (λ o. option_map flushes o) (r.own ∙ c.uber_is) in
        let both = told_checks (area.told (areas_of uber).even) (area.told (areas_of uber).odd) c.checks (r.checks ∙ c.checks_are) in
        λ i. record { uber = uber_told i; even = both.0 i; odd = both.1 i }

    stands : AreasStand (check_told x.store.marks) (Some b.body) [] (areas_told (flushes c.uber) c.checks)
    stands = subst (λ k. AreasStand (check_told x.store.marks) k [] (areas_told (flushes c.uber) c.checks)) b.kept (subst (λ t. AreasStand (check_told x.store.marks) (kept_of uber) [] t) told b.own_areas)

    left : LeavesShards rack area (layout_of uber) (group_of (kept_of uber)) (next_leaf_of uber) (Some (puts_checks None (puts_uber None held))) back counts late leaves late_leaves
    left = subst (λ (o : Option Held). LeavesShards rack area (layout_of uber) (group_of (kept_of uber)) (next_leaf_of uber) o back counts late leaves late_leaves) taken
        (subst (λ (s : ℕ → Option Shape). LeavesShards rack area (layout_of uber) (group_of (kept_of uber)) (next_leaf_of uber) mid back counts late s late_leaves) (ext yet_leaves leaves same_leaves)
        (subst (λ (k : ℕ → KitCounts). LeavesShards rack area (layout_of uber) (group_of (kept_of uber)) (next_leaf_of uber) mid back k late yet_leaves late_leaves) (ext yet counts same_counts) l))

    opened : (m : ℕ) (shard : Shard R A) (y : Metaslab) → slice_get left.shards m ≡ Some shard → slice_get x.metaslabs m ≡ Some y → OpensFound rack area (found_at x f.version) b.body.group m (pieces m) y shard
    opened m shard y at here =
        let perms = one_table (found_at x f.version).geometry left.perms x.perms (subst (λ (g : Geometry). IsLayout g left.perms) b.layout left.layout) f.there.held.layout in
        shard_found rack area (found_at x f.version) pieces held leaves counts count f.there uber found r b alloc (leaves m) counts m shard y left.perms perms (λ k. refl) (left.each m shard at).valid (left.each m shard at).part_is (left.over m shard at) here

-- ---- the answer

-- a call that failed as metaslabs were opened
pub risen_behind : {A : Type 0} (area : areas.Ghosts A) (o : Option Held) (first since last new uber uber' : ℕ) (counts yet late after : ℕ → KitCounts) (found : Uber A) → IsFoundUber area found → IsRecovered area o uber found
    → first ≤ since → new ≡ last → ((m : ℕ) → yet m ≡ counts m) → ((m : ℕ) → after m ≡ late m) → Rose since last ⊎ AnyRecordsRose (layout_of found).props.metaslabs yet late → HasRisen area o first new uber uber' counts after
risen_behind area o first since last new uber uber' counts yet late after found is recovered later same yet_is after_is (inl rose) = inl (inl (subst (λ (n : ℕ). Rose first n) (sym same) (rose_since first since last later rose)))
risen_behind area o first since last new uber uber' counts yet late after found is recovered later same yet_is after_is (inr z) =
    let rose = subst (λ (k : KitCounts). RecordsRose k (after z.0)) (yet_is z.0) (subst (λ (k : KitCounts). RecordsRose (yet z.0) k) (sym (after_is z.0)) z.2) in
    inr (record { uber = found; found = is; recovered = recovered; rose = (z.0, z.1, rose) })

-- the shelf's leaves are as they were
pub rests_known : (x : State) (pieces : ℕ → Pieces) (o : Option Held) (leaves now : ℕ → Option Shape) (counts : ℕ → KitCounts) (count : ℕ) → ((m : ℕ) → now m ≡ leaves m) → RestsThere x pieces o leaves counts count
    → RestsThere x pieces o now counts count
rests_known x pieces o leaves now counts count same there = subst (λ (s : ℕ → Option Shape). RestsThere x pieces o s counts count) (sym (ext now leaves same)) there

-- a refusal that is neither that there is no pool, nor a fault of a record or of the check record
pub refusal_is : {T R A : Type 0} (rack : racks.Ghosts R) (area : areas.Ghosts A) (x : State) (pieces : ℕ → Pieces) (told : Option Held) (leaves : ℕ → Option Shape) (counts : ℕ → KitCounts) (n : ℕ) (why : ImportFault)
    → (IsErrOf {T = T} (Err why) fault.NoPool → ⊥) → NoRecord {T = T} (Err why) → NoCheck {T = T} (Err why) → LeavesPool x pieces told leaves counts n → ImportIs rack area x pieces told leaves counts n (Err why)
refusal_is rack area x pieces told leaves counts n fault.NoPool some no_record no_check left = absurd (some refl)
refusal_is rack area x pieces told leaves counts n (fault.Record metaslab place kind) some no_record no_check left = absurd (no_record metaslab place kind refl)
refusal_is rack area x pieces told leaves counts n (fault.Check place kind) some no_record no_check left = absurd (no_check place kind refl)
refusal_is rack area x pieces told leaves counts n fault.Shelf some no_record no_check left = left
refusal_is rack area x pieces told leaves counts n fault.NoMemory some no_record no_check left = left
