-- What a pool has of its own is dealt out to lanes, each by its list of numbers, and put together again.
use Rattle.std.specs.Prelude.{◌≡◌, ◌≤◌, ◌+◌, ◌-◌, ◌*◌, ℕ, true, List, [], ◌∷◌, All, Some, length, max, min, nat_eq, slice_get, sum_by, take}
use Rattle.std.specs.HashMap.{IsUnique, get, hash_map_len}
use Rattle.std.specs.declared.vec.Vec.{Vec}
use Rattle.std.specs.declared.alloc.Global.{Global}
use Rattle.draid_names.specs.Numbers.{most_held}
use Rattle.draid_turn.specs.Numbers.{holds}
use Rattle.draid_turn.specs.declared.span.Span.{Span}
use Rattle.draid_holds.specs.Passes.{shares}
use Rattle.draid_pool.specs.declared.own.Own.{Own}
use Rattle.draid_tables.specs.Tables.{HoldsWithin, IsDealt, TakesBack}

-- ---- dealt out

-- a lane has the pool's pointers of the objects of its list, and both numbers
pub record IsDealtOut (own : Own) (numbers : List Span) (dealt : Own) : Type 0 where
  pub objects : IsDealt numbers (get nat_eq own.objects) (get nat_eq dealt.objects)
  pub seq : dealt.seq ≡ own.seq
  pub floor : dealt.floor ≡ own.floor

-- so has the lane of each list
pub record AreDealtOut (own : Own) (numbers : List (Vec Span Global)) (owns : List Own) : Type 0 where
  pub many : length owns ≡ length numbers
  pub each : (i : ℕ) (list : Vec Span Global) (dealt : Own) → slice_get numbers i ≡ Some list → slice_get owns i ≡ Some dealt → IsDealtOut own list.items dealt

-- ---- room

-- how many numbers a span has
abbrev pub size_of_span : Span → ℕ
size_of_span span = span.last + 1 - span.first

-- how many numbers a list has
abbrev pub size_of_list : Vec Span Global → ℕ
size_of_list numbers = sum_by size_of_span numbers.items

-- Lanes have no more objects than their lists have numbers, and no more than metaslabs hold blocks.
abbrev pub most_objects : List (Vec Span Global) → ℕ → ℕ
most_objects numbers metaslabs = min (sum_by size_of_list numbers) (metaslabs * most_held 2)

-- each table has an object once
abbrev pub AreUnique : List Own → Type 0
AreUnique owns = All (λ (own : Own). IsUnique nat_eq own.objects) owns

-- how many objects the tables have
abbrev pub objects_of : List Own → ℕ
objects_of owns = sum_by (λ (own : Own). hash_map_len own.objects) owns

-- any number of the first tables has room, where each of these has an object once
abbrev pub HaveTableRoom : ℕ → List Own → Type 0
HaveTableRoom room owns = (count : ℕ) → AreUnique (take count owns) → objects_of (take count owns) ≤ room

-- ---- put back

-- for each list there is a lane, whose table has objects of the list alone
pub record AllWithin (numbers : List (Vec Span Global)) (owns : List Own) : Type 0 where
  pub many : length owns ≡ length numbers
  pub each : (i : ℕ) (list : Vec Span Global) (own : Own) → slice_get numbers i ≡ Some list → slice_get owns i ≡ Some own → HoldsWithin list.items (get nat_eq own.objects)

-- the objects of the list are those of the lane now, and the greater of both numbers counts
pub record TakesOwn (numbers : List Span) (dealt old new : Own) : Type 0 where
  pub objects : TakesBack numbers (get nat_eq dealt.objects) (get nat_eq old.objects) (get nat_eq new.objects)
  pub seq : new.seq ≡ max old.seq dealt.seq
  pub floor : new.floor ≡ max old.floor dealt.floor

-- the greatest number that one of these has, or the first
abbrev pub greatest : (Own → ℕ) → Own → List Own → ℕ
greatest f first [] = f first
greatest f first (own ∷ owns) = max (f own) (greatest f first owns)

-- Of an object whose number a list has the pointer is that of this list's lane now, of the others it is as before. Numbers go on behind the greatest.
pub record TakesAll (numbers : List (Vec Span Global)) (owns : List Own) (old new : Own) : Type 0 where
  pub taken : (i : ℕ) (list : Vec Span Global) (own : Own) → slice_get numbers i ≡ Some list → slice_get owns i ≡ Some own
      → (object : ℕ) → holds object list.items ≡ true → get nat_eq new.objects object ≡ get nat_eq own.objects object
  pub others : (object : ℕ) → shares object numbers ≡ 0 → get nat_eq new.objects object ≡ get nat_eq old.objects object
  pub seq : new.seq ≡ greatest (λ (own : Own). own.seq) old owns
  pub floor : new.floor ≡ greatest (λ (own : Own). own.floor) old owns
