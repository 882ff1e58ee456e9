-- Blocks are dropped to a checkpoint one after another, and what it keeps then.
use Rattle.std.proofs.Common.{arith, ◌≡◌, ◌==◌, ◌+◌, ◌-◌, ◌^◌, ◌<◌, ◌≤◌, ◌++◌, ◌∙◌, inl, inr, ℕ, Bool, true, List, [], ◌∷◌, Option, Some, None, get_or, refl, sym, ap, subst, length, min, take, if◌then◌else◌}
use Rattle.std.specs.Prelude.{All, Contains, map, slice_get}
use Rattle.std.proofs.lemmas.Bool.Decides.{nat_tests}
use Rattle.std.proofs.lemmas.List.{append-nil, get_or-map, get_or-take, length-map, length-take, take_more}
use Rattle.std.proofs.lemmas.List.Elements.{All-append, All-contains_itself, All-map, All-weaker}
use Rattle.std.proofs.lemmas.Option.{slice_get-get_or}
use Rattle.draid_checkpoint.specs.Check.{Point}
use Rattle.draid_checkpoint.specs.declared.check.DroppedIn.{DroppedIn}
use Rattle.draid_names.specs.declared.pointer.Pointer.{Pointer}
use Rattle.draid_record.specs.Checks.{CheckTold, IsCheck, most_drops}
use Rattle.draid_record.specs.declared.checks.Dropped.{Dropped}
use Rattle.draid_uber.specs.Points.{IsOther, KeepsCheck, block_of, dropped_in}
use Rattle.draid_import.specs.Points.{AreOthers, HasRoom, KeepsPoint, changed_by}
use Rattle.draid_found.specs.Drops.{AreNewestBeside}
use Rattle.draid_found.specs.Found.{AreFound}
use Rattle.draid_found.specs.Older.{ListsOlder}
use Rattle.draid_shard.specs.declared.shard.Shard.{Shard}
use Rattle.draid_uber.specs.Uber.{changed_of, point_of}
use Rattle.draid_uber.specs.declared.uber.Uber.{Uber}
use Rattle.draid_pool.specs.Pools.{HasNames}

-- ---- a block that is dropped next

pub mapped : {X Y : Type 0} (f : X → Y) (xs : List X) (x : X) → Contains xs x → Contains (map f xs) (f x)
mapped f xs x (i, low, is) = (i, (let same = length-map xs f in omega (arith, low, same)), get_or-map f xs i x (f x) low ∙ ap f is)

in_front : {X : Type 0} (xs : List X) (n : ℕ) (x : X) → Contains (take n xs) x → (k : ℕ) × (k < n) × (slice_get xs k ≡ Some x)
in_front xs n x (k, low, is) =
    let short = length-take n xs in
    let below : k < n = grind (arith, nat_tests, low, short) in
    let inside : k < length xs = grind (arith, nat_tests, low, short) in
    (k, below, slice_get-get_or xs k x inside ∙ ap Some (sym (get_or-take n xs k x below) ∙ is))

-- it is another one than each that was dropped before
pub other_then : (dropped : List DroppedIn) (list : List Dropped) (group i : ℕ) (d : Dropped) → AreOthers (map block_of dropped) list → slice_get list i ≡ Some d → Contains list d
    → All (λ e. IsOther d.object d.seq e) (dropped ++ map (dropped_in group) (take i list))
other_then dropped list group i d others at has = All-append (λ e. IsOther d.object d.seq e) dropped (map (dropped_in group) (take i list))
    (All-weaker (Contains dropped) (λ e. IsOther d.object d.seq e) (λ e there object seq. others.apart d has (subst (Contains (map block_of dropped)) (λ j. record { object = object j; seq = seq j }) (mapped block_of dropped e there))) dropped (All-contains_itself dropped))
    (All-map (λ e. IsOther d.object d.seq e) (dropped_in group) (take i list)
    (All-weaker (Contains (take i list)) (λ e. IsOther d.object d.seq (dropped_in group e))
    (λ e there object seq.
    (let z = in_front list i e there in
    let same : e ≡ d = λ j. record { object = object j; seq = seq j } in
    others.once i z.0 d z.1 at (z.2 ∙ ap Some same))) (take i list) (All-contains_itself (take i list))))

-- so many were dropped then
pub more_dropped : (first now : List DroppedIn) (list : List Dropped) (group i : ℕ) (d : Dropped) → i < length list → d ≡ get_or list i d → now ≡ first ++ map (dropped_in group) (take i list)
    → now ++ dropped_in group d ∷ [] ≡ first ++ map (dropped_in group) (take (i + 1) list)
more_dropped first now list group i d low is are =
    ap (λ ds. ds ++ dropped_in group d ∷ []) are
    ∙ (append_three first (map (dropped_in group) (take i list)) (dropped_in group d)
    ∙ ap (λ ds. first ++ ds) (sym (map_push (take i list) d) ∙ ap (map (dropped_in group)) (ap (λ e. take i list ++ e ∷ []) is ∙ sym (take_more list i d low))))
  where
    append_three : (xs ys : List DroppedIn) (z : DroppedIn) → (xs ++ ys) ++ z ∷ [] ≡ xs ++ (ys ++ z ∷ [])
    append_three [] ys z = refl
    append_three (x ∷ xs) ys z = ap (λ zs. x ∷ zs) (append_three xs ys z)

    map_push : (xs : List Dropped) (x : Dropped) → map (dropped_in group) (xs ++ x ∷ []) ≡ map (dropped_in group) xs ++ dropped_in group x ∷ []
    map_push [] x = refl
    map_push (y ∷ xs) x = ap (λ zs. dropped_in group y ∷ zs) (map_push xs x)

pub changed_more : (list : List Dropped) (group was i : ℕ) (d : Dropped) → i < length list → group ≡ changed_by (take (i + 1) list) group was
changed_more list group was i d low = by (take i list) ∙ ap (λ ds. changed_by ds group was) (sym (take_more list i d low))
  where
    by : (xs : List Dropped) → group ≡ changed_by (xs ++ get_or list i d ∷ []) group was
    by [] = refl
    by (x ∷ xs) = refl

-- ---- room

pub few_sum : (named older objects most : ℕ) → most ≡ min (older + objects) (2 ^ 64 - 1) → min (named + most) (2 ^ 64 - 1) ≤ 524_288 → (most ≡ older + objects) × (named + most ≤ 524_288)
few_sum named older objects most is few = (grind (arith, nat_tests, is, few), grind (arith, nat_tests, is, few))

module _ (group : ℕ) (value : CheckTold) (point : Point) (keeps : KeepsCheck group value point) where
  -- as many as the record names
  pub as_many : length point.drops ≡ length value.drops
  as_many = sym (length-map point.drops block_of) ∙ ap length keeps.blocks

  -- where it tells of no checkpoint, there is none
  pub no_point : value.group ≡ 0 → IsCheck group value → (point.group ≡ None) × (point.drops ≡ [])
  no_point none range = (
    keeps.group_is ∙ ap (λ n. if n == 0 then None else Some n) none,
    nothing point.drops (let few = subst (λ n. length value.drops ≤ most_drops n) none range.few in omega (arith, few, as_many)),
  )
    where
      nothing : {X : Type 0} (xs : List X) → length xs ≤ 0 → xs ≡ []
      nothing [] few = refl
      nothing (x ∷ xs) few = absurd (omega (arith, few))

-- the room that is left once older blocks were dropped
pub room_left : (newest : ℕ → Option Pointer) (old new : Point) (named older objects : ℕ) (list : List Dropped) (group : ℕ) → HasNames newest objects → length list ≡ older → length old.drops ≡ named
    → new.drops ≡ old.drops ++ map (dropped_in group) list → old.spare ≤ new.spare + older → older + objects ≤ old.spare → named + (older + objects) ≤ 524_288 → HasRoom newest new
room_left newest old new named older objects list group names many had dropped room spare few =
    inl (objects, names, omega (arith, room, spare), (let all = ap length dropped ∙ sums old.drops (map (dropped_in group) list) in let same = length-map list (dropped_in group) in omega (arith, all, same, many, had, few)))
  where
    sums : {X : Type 0} (xs ys : List X) → length (xs ++ ys) ≡ length xs + length ys
    sums [] ys = omega arith
    sums (x ∷ xs) ys = (let rest = sums xs ys in omega (arith, rest))

-- numbers of a call: those that are named, the older blocks and the objects
pub enough_room : (view items older objects more spare : ℕ) → view ≡ items → older ≡ items → more ≡ older + objects → more ≤ spare → view ≤ spare
enough_room view items older objects more spare same many sum room = omega (arith, same, many, sum, room)

pub few_named : (told drops named view items older objects more : ℕ) → told ≡ drops → named ≡ drops → view ≡ items → older ≡ items → more ≡ older + objects → named + more ≤ 524_288 → told + view ≤ 524_288
few_named told drops named view items older objects more same all seen many sum few = omega (arith, same, all, seen, many, sum, few)

pub all_room : (items older objects more spare : ℕ) → older ≡ items → more ≡ older + objects → more ≤ spare → items + objects ≤ spare
all_room items older objects more spare many sum room = omega (arith, many, sum, room)

pub all_few : (drops named items older objects more : ℕ) → named ≡ drops → older ≡ items → more ≡ older + objects → named + more ≤ 524_288 → drops + (items + objects) ≤ 524_288
all_few drops named items older objects more all many sum few = omega (arith, all, many, sum, few)

pub room_seen : (old new view items : ℕ) → view ≡ items → old ≤ new + view → old ≤ new + items
room_seen old new view items seen left = omega (arith, seen, left)

pub not_none : (group : ℕ) → (group ≡ 0 → ⊥) → 0 < group
not_none group some = omega (arith, some)

-- ---- an import's uberblock

module _ {R A : Type 0} (group : ℕ) (value : CheckTold) (shards : List (Shard R A)) (newest : ℕ → Option Pointer) (was : ℕ) where
  -- where the record tells of no checkpoint
  pub none_kept : (new : Uber A) → value.group ≡ 0 → KeepsCheck group value (point_of new) → changed_of new ≡ was → KeepsPoint group value shards newest was new
  none_kept new empty keeps same = record {
    older = [];
    are = inl (empty, refl);
    told = point_of new;
    keeps = keeps;
    group_is = refl;
    drops = sym (append-nil (point_of new).drops);
    changed = same;
  }

  pub older_kept : (mid new : Uber A) (older : List Dropped) (at : ℕ) → 0 < value.group → ListsOlder shards newest value.drops value.group older → KeepsCheck group value (point_of mid) → at ≡ group + 1
      → (point_of new).group ≡ (point_of mid).group → (point_of new).drops ≡ (point_of mid).drops ++ map (dropped_in at) older → changed_of mid ≡ was → changed_of new ≡ changed_by older at (changed_of mid)
      → KeepsPoint group value shards newest was new
  older_kept mid new older at some lists keeps next group_is drops same changed = record {
    older = older;
    are = inr (some, lists);
    told = point_of mid;
    keeps = keeps;
    group_is = group_is;
    drops = drops ∙ ap (λ n. (point_of mid).drops ++ map (dropped_in n) older) next;
    changed = changed ∙ (λ i. changed_by older (next i) (same i));
  }

  pub others_by : (mid : Uber A) (older : List Dropped) → ListsOlder shards newest value.drops value.group older → KeepsCheck group value (point_of mid) → AreOthers (map block_of (point_of mid).drops) older
  others_by mid older lists keeps = subst (λ ds. AreOthers ds older) (sym keeps.blocks) (record { apart = lists.apart; once = lists.once })

pub empty_drops : (drops : List Dropped) (result : Bool) → result ≡ (length drops == 0) → result ≡ true → length drops ≡ 0
empty_drops drops result is so = (let both : (length drops == 0) ≡ true = sym is ∙ so in grind (arith, nat_tests, both))

-- where none is named the newest of all blocks is the newest beside them
pub none_beside : {R A : Type 0} (shards : List (Shard R A)) (drops : List Dropped) (newest : ℕ → Option Pointer) (seq : ℕ) → AreFound shards newest seq → length drops ≡ 0 → AreNewestBeside shards drops newest
none_beside shards drops newest seq f none = record {
  pointers = λ object p at. (f.pointers object p at, λ has. (let low = has.1 in omega (arith, low, none)));
  known = λ m shard first e there found out. f.known m shard first e there found;
}

-- the blocks of a vector
pub lists_view : {R A : Type 0} {shards : List (Shard R A)} {newest : ℕ → Option Pointer} {view drops : List Dropped} {upto : ℕ} {older : List Dropped} → view ≡ drops → ListsOlder shards newest view upto older → ListsOlder shards newest drops upto older
lists_view {shards = shards} {newest = newest} {upto = upto} {older = older} same = subst (λ ds. ListsOlder shards newest ds upto older) same
