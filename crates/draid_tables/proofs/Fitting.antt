-- How many objects lanes have in the end: those of their tables stand apart, are numbers of their lists, and are objects of blocks.
use Rattle.std.proofs.Common.{if◌then◌else◌, ◌≡◌, ◌∙◌, ◌++◌, ◌||◌, ◌&&◌, ◌<◌, ◌≤◌, ◌+◌, ◌-◌, ◌*◌, ◌⊎◌, arith, inl, inr, ℕ, zero, suc, Bool, true, false, List, [], ◌∷◌, Option, Some, None, length, map, min, nat_eq, nat_le, refl, subst, sum_by, sym, ap, take, ⊎_elim}
use mathlib.Core.Logic.{dite}
use native.Mathlib.Decide.{ℕ_discrete}
use Rattle.std.specs.Prelude.{slice_get}
use Rattle.std.specs.HashMap.{IsUnique, get, hash_map_len, keys}
use Rattle.std.specs.List.{AllByRecursion, IsDistinct}
use Rattle.std.specs.Option.{is_some}
use Rattle.std.specs.Set.{is_member}
use Rattle.std.specs.declared.vec.Vec.{Vec}
use Rattle.std.specs.declared.alloc.Global.{Global}
use Rattle.std.proofs.lemmas.Bool.{true≢false}
use Rattle.std.proofs.lemmas.Bool.Decides.{nat_tests}
use Rattle.std.proofs.lemmas.Cmp.{nat_eq_equiv}
use Rattle.std.proofs.lemmas.List.{length-append, length-map, length-take}
use Rattle.std.proofs.lemmas.List.Elements.{All-head, All-tail}
use Rattle.std.proofs.lemmas.List.Folds.{list_any-append}
use Rattle.std.proofs.lemmas.List.Sums.{sum_by-cons, sum_by-take-le}
use Rattle.std.proofs.lemmas.Map.Entries.{length-keys_of}
use Rattle.std.proofs.lemmas.Map.Keys.{IsDistinct-cons, IsDistinct-head, IsDistinct-tail}
use Rattle.std.proofs.lemmas.Map.Made.{is_some-lookup, length-le_from_is_member}
use Rattle.draid_names.specs.Numbers.{most_held}
use Rattle.draid_names.specs.declared.pointer.Pointer.{Pointer}
use Rattle.draid_machine.specs.Names.{key_eq}
use Rattle.draid_machine.specs.declared.names.Key.{Key}
use Rattle.draid_machine.specs.declared.names.Stage.TheVariants.{Live}
use Rattle.draid_entries.specs.Entries.{count_of}
use Rattle.draid_entries.specs.Maps.{first_in, key_of, staged}
use Rattle.draid_rack.specs.declared.Rack as racks
use Rattle.draid_shard.specs.Fits.{Valid}
use Rattle.draid_shard.specs.Looks.{IsLive}
use Rattle.draid_shard.specs.declared.shard.Shard.{Shard}
use Rattle.draid_turn.specs.Lists.{one_if, places}
use Rattle.draid_turn.specs.Numbers.{holds, in_span}
use Rattle.draid_turn.specs.declared.span.Span.{Span}
use Rattle.draid_holds.specs.Passes.{shares}
use Rattle.draid_pool.specs.declared.own.Own.{Own}
use Rattle.draid_tables.specs.Owns.{AllWithin, AreUnique, HaveTableRoom, most_objects, size_of_span, objects_of, size_of_list}

-- ---- numbers that stand in lists

abbrev IsIn : List ℕ → ℕ → Type 0
IsIn xs q = is_member nat_eq xs q ≡ true

by_case : {P : Type 0} (b : Bool) → (b ≡ true → P) → (b ≡ false → P) → P
by_case true p q = p refl
by_case false p q = q refl

or_left : (a b : Bool) → a ≡ true → (a || b) ≡ true
or_left true b is = refl
or_left false b is = absurd (true≢false (sym is))

or_right : (a b : Bool) → b ≡ true → (a || b) ≡ true
or_right true b is = refl
or_right false b is = is

or_cases : (a b : Bool) → (a || b) ≡ true → (a ≡ true) ⊎ (b ≡ true)
or_cases true b is = inl refl
or_cases false b is = inr is

in_left : (xs ys : List ℕ) (q : ℕ) → IsIn xs q → IsIn (xs ++ ys) q
in_left xs ys q is = list_any-append (nat_eq q) xs ys ∙ or_left (is_member nat_eq xs q) (is_member nat_eq ys q) is

in_right : (xs ys : List ℕ) (q : ℕ) → IsIn ys q → IsIn (xs ++ ys) q
in_right xs ys q is = list_any-append (nat_eq q) xs ys ∙ or_right (is_member nat_eq xs q) (is_member nat_eq ys q) is

in_cases : (xs ys : List ℕ) (q : ℕ) → IsIn (xs ++ ys) q → IsIn xs q ⊎ IsIn ys q
in_cases xs ys q is = or_cases (is_member nat_eq xs q) (is_member nat_eq ys q) (sym (list_any-append (nat_eq q) xs ys) ∙ is)

all_out : (x : ℕ) (ys : List ℕ) → (IsIn ys x → ⊥) → AllByRecursion (λ y. nat_eq x y ≡ false) ys
all_out x [] out = tt
all_out x (y ∷ ys) out = (go (nat_eq x y) refl, all_out x ys (λ is. out (or_right (nat_eq x y) (is_member nat_eq ys x) is)))
  where
    go : (b : Bool) → nat_eq x y ≡ b → b ≡ false
    go true is = absurd (out (or_left (nat_eq x y) (is_member nat_eq ys x) is))
    go false is = refl

all_append : (P : ℕ → Type 0) (xs ys : List ℕ) → AllByRecursion P xs → AllByRecursion P ys → AllByRecursion P (xs ++ ys)
all_append P [] ys a b = b
all_append P (x ∷ xs) ys a b = (a.0, all_append P xs ys a.1 b)

distinct_append : (xs ys : List ℕ) → IsDistinct nat_eq xs → IsDistinct nat_eq ys → ((q : ℕ) → IsIn xs q → IsIn ys q → ⊥) → IsDistinct nat_eq (xs ++ ys)
distinct_append [] ys a b apart = b
distinct_append (x ∷ xs) ys a b apart =
    IsDistinct-cons nat_eq x (xs ++ ys)
    (all_append (λ y. nat_eq x y ≡ false) xs ys (IsDistinct-head nat_eq x xs a) (all_out x ys (apart x (or_left (nat_eq x x) (is_member nat_eq xs x) (nat_eq_equiv.refl x)))))
    (distinct_append xs ys (IsDistinct-tail nat_eq x xs a) b (λ q is. apart q (or_right (nat_eq q x) (is_member nat_eq xs q) is)))

-- ---- the objects of tables

abbrev held_in : ℕ → Vec Span Global → ℕ
held_in n list = one_if (holds n list.items)

abbrev keys_in : List Own → List ℕ
keys_in [] = []
keys_in (own ∷ owns) = keys own.objects ++ keys_in owns

keys_many : (owns : List Own) → length (keys_in owns) ≡ objects_of owns
keys_many [] = refl
keys_many (own ∷ owns) =
    let both = length-append (keys own.objects) (keys_in owns) in
    let first = length-keys_of own.objects.entries in
    let rest = keys_many owns in
    let sum = sum_by-cons (λ (o : Own). hash_map_len o.objects) own owns in omega (arith, both, first, rest, sum)

-- what a table has at one of its keys
key_there : (own : Own) (q : ℕ) → IsIn (keys own.objects) q → (pointer : Pointer) × (get nat_eq own.objects q ≡ Some pointer)
key_there own q is = go (get nat_eq own.objects q) (is_some-lookup (nat_eq q) own.objects.entries ∙ is)
  where
    go : (o : Option Pointer) → is_some o ≡ true → (pointer : Pointer) × (o ≡ Some pointer)
    go None is = absurd (true≢false (sym is))
    go (Some pointer) is = (pointer, refl)

within_tail : (list : Vec Span Global) (lists : List (Vec Span Global)) (own : Own) (owns : List Own) → AllWithin (list ∷ lists) (own ∷ owns) → AllWithin lists owns
within_tail list lists own owns r = record { many = (let many = r.many in omega (arith, many)); each = λ i l o a b. r.each (suc i) l o a b }

within_first : (list : Vec Span Global) (lists : List (Vec Span Global)) (own : Own) (owns : List Own) → AllWithin (list ∷ lists) (own ∷ owns) → (q : ℕ) → IsIn (keys own.objects) q → held_in q list ≡ 1
within_first list lists own owns r q is = (let z = key_there own q is in ap one_if (r.each 0 list own refl refl q z.0 z.1))

-- an object of a table is a number of a list
keys_held : (lists : List (Vec Span Global)) (owns : List Own) → AllWithin lists owns → (q : ℕ) → IsIn (keys_in owns) q → 1 ≤ shares q lists
keys_held lists [] r q is = absurd (true≢false (sym is))
keys_held [] (own ∷ owns) r q is = (let many = r.many in absurd (omega (arith, many)))
keys_held (list ∷ lists) (own ∷ owns) r q is =
    let sum = sum_by-cons (held_in q) list lists in
    ⊎_elim
    (λ (t : IsIn (keys own.objects) q). let one = within_first list lists own owns r q t in omega (arith, sum, one))
    (λ (t : IsIn (keys_in owns) q). let rest = keys_held lists owns (within_tail list lists own owns r) q t in omega (arith, sum, rest))
    (in_cases (keys own.objects) (keys_in owns) q is)

-- no object stands in two tables
keys_apart : (lists : List (Vec Span Global)) (owns : List Own) → AllWithin lists owns → ((n : ℕ) → shares n lists ≤ 1) → AreUnique owns → IsDistinct nat_eq (keys_in owns)
unfolding IsDistinct
keys_apart lists [] r apart unique = tt
keys_apart [] (own ∷ owns) r apart unique = (let many = r.many in absurd (omega (arith, many)))
keys_apart (list ∷ lists) (own ∷ owns) r apart unique =
    let tail = within_tail list lists own owns r in
    distinct_append (keys own.objects) (keys_in owns) (All-head (λ (o : Own). IsUnique nat_eq o.objects) own owns unique)
    (keys_apart lists owns tail (λ n. (let sum = sum_by-cons (held_in n) list lists in let all = apart n in omega (arith, sum, all))) (All-tail (λ (o : Own). IsUnique nat_eq o.objects) own owns unique))
    (λ q a b.
    let one = within_first list lists own owns r q a in
    let more = keys_held lists owns tail q b in
    let sum = sum_by-cons (held_in q) list lists in
    let all = apart q in omega (arith, one, more, sum, all))

-- the table that has an object
pub record HasKey (owns : List Own) (q : ℕ) : Type 0 where
  pub i : ℕ
  pub own : Own
  pub there : slice_get owns i ≡ Some own
  pub has : IsIn (keys own.objects) q

who_has : (owns : List Own) (q : ℕ) → IsIn (keys_in owns) q → HasKey owns q
who_has [] q is = absurd (true≢false (sym is))
who_has (own ∷ owns) q is = ⊎_elim
    (λ (t : IsIn (keys own.objects) q). record { i = 0; own = own; there = refl; has = t })
    (λ (t : IsIn (keys_in owns) q). let r = who_has owns q t in record { i = suc r.i; own = r.own; there = r.there; has = r.has })
    (in_cases (keys own.objects) (keys_in owns) q is)

-- ---- the numbers of lists

abbrev numbers_of : List Span → List ℕ
numbers_of [] = []
numbers_of (span ∷ spans) = places span.first (size_of_span span) ++ numbers_of spans

abbrev all_of : List (Vec Span Global) → List ℕ
all_of [] = []
all_of (list ∷ lists) = numbers_of list.items ++ all_of lists

places_many : (count from : ℕ) → length (places from count) ≡ count
places_many zero from = refl
places_many (suc count) from = ap suc (places_many count (suc from))

numbers_many : (spans : List Span) → length (numbers_of spans) ≡ sum_by size_of_span spans
numbers_many [] = refl
numbers_many (span ∷ spans) =
    let both = length-append (places span.first (size_of_span span)) (numbers_of spans) in
    let first = places_many (size_of_span span) span.first in
    let rest = numbers_many spans in
    let sum = sum_by-cons size_of_span span spans in both ∙ (ap (λ n. n + length (numbers_of spans)) first ∙ (ap (λ n. size_of_span span + n) rest ∙ sym sum))

all_many : (lists : List (Vec Span Global)) → length (all_of lists) ≡ sum_by size_of_list lists
all_many [] = refl
all_many (list ∷ lists) =
    let both = length-append (numbers_of list.items) (all_of lists) in
    let first = numbers_many list.items in
    let rest = all_many lists in
    let sum = sum_by-cons size_of_list list lists in both ∙ (ap (λ n. n + length (all_of lists)) first ∙ (ap (λ n. size_of_list list + n) rest ∙ sym sum))

in_places : (count from q : ℕ) → from ≤ q → q < from + count → IsIn (places from count) q
in_places zero from q low high = absurd (omega (arith, low, high))
in_places (suc count) from q low high = dite (ℕ_discrete q from)
    (λ same. or_left (nat_eq q from) (is_member nat_eq (places (suc from) count) q) (subst (λ n. nat_eq q n ≡ true) same (nat_eq_equiv.refl q)))
    (λ other. or_right (nat_eq q from) (is_member nat_eq (places (suc from) count) q) (in_places count (suc from) q (omega (arith, low, other)) (omega (arith, high))))

both_within : (q first last : ℕ) → (nat_le first q && nat_le q last) ≡ true → (first ≤ q) × (q < first + (last + 1 - first))
both_within q first last is = (low, let l = low in let h = high in omega (arith, l, h))
  where
    low : first ≤ q
    low = grind (arith, nat_tests)

    high : q ≤ last
    high = grind (arith, nat_tests)

in_numbers : (spans : List Span) (q : ℕ) → holds q spans ≡ true → IsIn (numbers_of spans) q
in_numbers [] q is = absurd (true≢false (sym is))
in_numbers (span ∷ spans) q is = ⊎_elim
    (λ (t : in_span q span ≡ true). let z = both_within q span.first span.last t in in_left (places span.first (size_of_span span)) (numbers_of spans) q (in_places (size_of_span span) span.first q z.0 z.1))
    (λ (t : holds q spans ≡ true). in_right (places span.first (size_of_span span)) (numbers_of spans) q (in_numbers spans q t))
    (or_cases (in_span q span) (holds q spans) is)

in_all : (lists : List (Vec Span Global)) (q : ℕ) → 1 ≤ shares q lists → IsIn (all_of lists) q
in_all [] q some = absurd (omega (arith, some))
in_all (list ∷ lists) q some = by_case (holds q list.items)
    (λ held. in_left (numbers_of list.items) (all_of lists) q (in_numbers list.items q held))
    (λ not.
    let sum = sum_by-cons (held_in q) list lists in
    let none : held_in q list ≡ 0 = ap one_if not in
    in_right (numbers_of list.items) (all_of lists) q (in_all lists q (omega (arith, some, sum, none))))

-- ---- the objects of blocks

abbrev object_in : Key × ℕ → ℕ
object_in e = e.0.object

key_object : (k j : Key) → key_eq k j ≡ true → nat_eq j.object k.object ≡ true
key_object k j is = by_case (nat_eq k.object j.object)
    (λ same. nat_eq_equiv.symm j.object k.object ∙ same)
    (λ other. absurd (true≢false (sym is ∙ ap (λ b. b && nat_eq k.seq j.seq) other)))

-- the object of a key that leads anywhere
key_in : (es : List (Key × ℕ)) (key : Key) (first : ℕ) → first_in es key ≡ Some first → IsIn (map object_in es) key.object
key_in [] key first is = absurd (cc)
key_in (e ∷ es) key first is = by_case (key_eq e.0 key)
    (λ same. or_left (nat_eq key.object e.0.object) (is_member nat_eq (map object_in es) key.object) (key_object e.0 key same))
    (λ other. or_right (nat_eq key.object e.0.object) (is_member nat_eq (map object_in es) key.object) (key_in es key first (sym (ap (λ b. if b then Some e.1 else first_in es key) other) ∙ is)))

most_blocks : (version : ℕ) → most_held version ≤ 8192
most_blocks version = by_case (nat_eq version 1)
    (λ first. (let is : most_held version ≡ 4096 = ap (λ b. if b then 4096 else 8192) first in omega (arith, is)))
    (λ later. (let is : most_held version ≡ 8192 = ap (λ b. if b then 4096 else 8192) later in omega (arith, is)))

module _ {R A : Type 0} where
  -- each pointer of a table is of its object, and that of a live block
  abbrev pub AreLive : List (Shard R A) → Own → Type 0
  AreLive shards own = (object : ℕ) (pointer : Pointer) → get nat_eq own.objects object ≡ Some pointer
      → (pointer.object ≡ object) × ((shard : Shard R A) × (slice_get shards pointer.metaslab ≡ Some shard) × IsLive shard pointer)

  -- each metaslab has as many blocks and tickets as it may hold, at most
  abbrev pub AreFew : List (Shard R A) → Type 0
  AreFew shards = (m : ℕ) (shard : Shard R A) → slice_get shards m ≡ Some shard → count_of shard.entries ≤ 8192

  -- so it is where each is valid
  pub are_few : (rack : racks.Ghosts R) (shards : List (Shard R A)) → ((m : ℕ) (shard : Shard R A) → slice_get shards m ≡ Some shard → Valid rack shard) → AreFew shards
  are_few rack shards valid m shard there = (let few = (valid m shard there).few in let most = most_blocks shard.version in omega (arith, few, most))

  abbrev objects_at : Shard R A → List ℕ
  objects_at shard = map object_in shard.entries.keys.entries

  abbrev blocks_in : List (Shard R A) → List ℕ
  blocks_in [] = []
  blocks_in (shard ∷ shards) = objects_at shard ++ blocks_in shards

  blocks_many : (shards : List (Shard R A)) → AreFew shards → length (blocks_in shards) ≤ length shards * 8192
  blocks_many [] few = omega arith
  blocks_many (shard ∷ shards) few =
      let both = length-append (objects_at shard) (blocks_in shards) in
      let first = length-map shard.entries.keys.entries object_in in
      let most = few 0 shard refl in
      let rest = blocks_many shards (λ m s is. few (suc m) s is) in omega (arith, both, first, most, rest)

  live_in : (shard : Shard R A) (pointer : Pointer) → IsLive shard pointer → IsIn (objects_at shard) pointer.object
  live_in shard pointer live = key_in shard.entries.keys.entries (key_of pointer) pointer.first (shard.entries.agree.found pointer.first (staged Live pointer) live).named

  in_blocks : (shards : List (Shard R A)) (m q : ℕ) (shard : Shard R A) → slice_get shards m ≡ Some shard → IsIn (objects_at shard) q → IsIn (blocks_in shards) q
  in_blocks [] m q shard there is = absurd (cc)
  in_blocks (s ∷ shards) zero q shard there is = (let same : shard ≡ s = cc in in_left (objects_at s) (blocks_in shards) q (subst (λ (x : Shard R A). IsIn (objects_at x) q) same is))
  in_blocks (s ∷ shards) (suc m) q shard there is = in_right (objects_at s) (blocks_in shards) q (in_blocks shards m q shard there is)

  module _ (shards : List (Shard R A)) (few : AreFew shards) where
    keys_live : (owns : List Own) → ((i : ℕ) (own : Own) → slice_get owns i ≡ Some own → AreLive shards own) → (q : ℕ) → IsIn (keys_in owns) q → IsIn (blocks_in shards) q
    keys_live owns live q is =
        let h = who_has owns q is in
        let p = key_there h.own q h.has in
        let at = live h.i h.own h.there q p.0 p.1 in
        in_blocks shards p.0.metaslab q at.1.0 at.1.1 (subst (IsIn (objects_at at.1.0)) at.0 (live_in at.1.0 p.0 at.1.2))

    -- where each table has an object once, there are no more objects than numbers, and no more than blocks
    pub all_fit : (numbers : List (Vec Span Global)) (owns : List Own) → AllWithin numbers owns → ((n : ℕ) → shares n numbers ≤ 1)
        → ((i : ℕ) (own : Own) → slice_get owns i ≡ Some own → AreLive shards own) → AreUnique owns → objects_of owns ≤ most_objects numbers (length shards)
    all_fit numbers owns within apart live unique =
        let once = keys_apart numbers owns within apart unique in
        let many = keys_many owns in
        let held = length-le_from_is_member nat_eq_equiv (keys_in owns) (all_of numbers) once (λ q is. in_all numbers q (keys_held numbers owns within q is)) in
        let blocks = length-le_from_is_member nat_eq_equiv (keys_in owns) (blocks_in shards) once (keys_live owns live) in
        let sizes = all_many numbers in
        let most = blocks_many shards few in omega (arith, many, held, blocks, sizes, most)

    -- so the tables have room one after another
    pub have_room : (numbers : List (Vec Span Global)) (owns : List Own) → AllWithin numbers owns → ((n : ℕ) → shares n numbers ≤ 1)
        → ((i : ℕ) (own : Own) → slice_get owns i ≡ Some own → AreLive shards own) → HaveTableRoom (most_objects numbers (length shards)) owns
    have_room numbers owns within apart live count unique =
        let first = all_fit (take count numbers) (take count owns) (within_take count numbers owns within)
        (λ n. (let less = sum_by-take-le (held_in n) numbers count in let all = apart n in omega (arith, less, all)))
        (λ i own is. live i own (take_from owns count i own is)) unique in
        let less = sum_by-take-le size_of_list numbers count in omega (arith, first, less)
      where
        take_from : {X : Type 0} (xs : List X) (count i : ℕ) (x : X) → slice_get (take count xs) i ≡ Some x → slice_get xs i ≡ Some x
        take_from [] zero i x is = is
        take_from [] (suc count) i x is = is
        take_from (y ∷ ys) zero i x is = absurd (cc)
        take_from (y ∷ ys) (suc count) zero x is = is
        take_from (y ∷ ys) (suc count) (suc i) x is = take_from ys count i x is

        within_take : (count : ℕ) (numbers : List (Vec Span Global)) (owns : List Own) → AllWithin numbers owns → AllWithin (take count numbers) (take count owns)
        within_take count numbers owns r = record {
          many = length-take count owns ∙ (ap (min count) r.many ∙ sym (length-take count numbers));
          each = λ i list own a b. r.each i list own (take_from numbers count i list a) (take_from owns count i own b);
        }

-- more room is room too
pub more_room : (room more : ℕ) (owns : List Own) → HaveTableRoom room owns → room ≤ more → HaveTableRoom more owns
more_room room more owns have less count unique = (let fits = have count unique in omega (arith, fits, less))
