-- What stands at the front of an area outlasts a crash.
use Rattle.std.proofs.Common.{arith, ◌≡◌, ◌==◌, ◌%◌, ◌<◌, ◌≤◌, ℕ, Bool, true, false, IsSome, List, ◌++◌, Ok, length, take, drop, refl, sym, ◌∙◌, ap, subst, if◌then◌else◌}
use Rattle.std.proofs.lemmas.List.{places, same_lists, take-append-drop}
use Rattle.draid_area.specs.Area.{Content, MayLeave, flushes}
use Rattle.draid_area.specs.Moments.{IsCrashOutcome}
use Rattle.draid_machine.specs.declared.names.Segment.{Segment}
use Rattle.draid_machine.specs.State.{Image, Layout}
use Rattle.draid_record.specs.Record.{RecordTold, limits_of, record_of}
use Rattle.draid_record.specs.Written.{record_bytes}
use Rattle.draid_record.proofs.Again.{record_again}
use Rattle.draid_record.proofs.Ranged.{ranged_spelled}
use Rattle.draid_rack.specs.Moments as rack
use Rattle.draid_rack.specs.Rack.{Told}
use Rattle.draid_segments.specs.Segments.{Firm, Pieces, sector_at}
use Rattle.draid_shelf.specs.Kits.{CrashedKit, KitTold}
use Rattle.draid_spec.specs.declared.layout.Geometry.{Geometry}
use Rattle.draid_stable.specs.Kits.{IsStable}
use Rattle.draid_stable.specs.Images.{LeavesBelow}
use Rattle.draid_stable.specs.Stable.{HasRecord, ReadsAs, Stands, area_of}

front_left : (n : ℕ) (x : Content) (left : List ℕ) → ((i : ℕ) → i < n → x.soft i ≡ false) → n ≤ x.firm → MayLeave x left → take n left ≡ take n x.bytes
front_left n x left firm least may =
    let a = may.least in
    let b = may.most in
    same_lists _ _ (grind (arith, places)) (λ k d h. let less : k < n = grind (arith, places) in let e = may.same k d (firm k less) in grind (arith, places))

pub read_again : (geometry : Geometry) (metaslab next : ℕ) (image : Image) (x : Content) (left : List ℕ) → HasRecord geometry metaslab image x → LeavesBelow next image → MayLeave x left
    → ReadsAs geometry metaslab next image left
read_again geometry metaslab next image x left has below may =
    let limits = limits_of geometry metaslab image.group next in
    let n = length (record_bytes has.value) in
    let same = front_left n x left has.stands.firm has.stands.least may ∙ has.stands.front in
    let parts : record_bytes has.value ++ drop n left ≡ left = ap (λ v. v ++ drop n left) (sym same) ∙ take-append-drop n left in
    record {
      value = has.value;
      found = subst (λ v. record_of limits v ≡ Ok has.value) parts
          (record_again limits has.value (record_bytes has.value) (drop n left) (record { bytes_are = refl; short = has.stands.short }) (ranged_spelled limits has.value (has.ranged next below)));
      says = has.says;
    }

stands_left : (value : RecordTold) (x y : Content) → IsCrashOutcome x y → Stands value x → Stands value y
stands_left value x y crash s = record {
  front = front_left (length (record_bytes value)) x y.bytes s.firm s.least crash.left ∙ s.front;
  firm = λ i h. crash.soft i;
  least = let a = crash.left.least in let b = s.least in let c = crash.firm in omega (arith, a, b, c);
  short = s.short;
}

pub has_left : (geometry : Geometry) (metaslab : ℕ) (image : Image) (x y : Content) → HasRecord geometry metaslab image x → IsCrashOutcome x y → HasRecord geometry metaslab image y
has_left geometry metaslab image x y has crash = record { value = has.value; says = has.says; stands = stands_left has.value x y crash has.stands; ranged = has.ranged }

pub both_left : (geometry : Geometry) (metaslab : ℕ) (image : Image) (even odd left right : Content) → HasRecord geometry metaslab image (area_of image.group even odd)
    → IsCrashOutcome even left → IsCrashOutcome odd right → HasRecord geometry metaslab image (area_of image.group left right)
both_left geometry metaslab image even odd left right has a b = by (image.group % 2 == 0) has
  where
    by : (c : Bool) → HasRecord geometry metaslab image (if c then even else odd) → HasRecord geometry metaslab image (if c then left else right)
    by true has = has_left geometry metaslab image even left has a
    by false has = has_left geometry metaslab image odd right has b

long : (n : ℕ) (xs ys : List ℕ) → take n xs ≡ ys → n ≡ length ys → n ≤ length xs
long n xs ys e is = let same : length (take n xs) ≡ length ys = ap length e in grind (arith, places)

pub flushed : (value : RecordTold) (x : Content) → Stands value x → Stands value (flushes x)
flushed value x s = record {
  front = s.front;
  firm = λ i h. refl;
  least = long (length (record_bytes value)) x.bytes (record_bytes value) s.front refl;
  short = s.short;
}

-- what a crash leaves of a rack on which an image is firm
firm_left : (layout : Layout) (pieces : Pieces) (image : Image) (doubt : Segment → Bool) (x y : Told) → rack.IsCrashOutcome x y → Firm layout pieces image doubt x → Firm layout pieces image doubt y
firm_left layout pieces image doubt x y crash f = record {
  there = λ s h c. subst IsSome (sym (crash.firm s.leaf (sector_at layout h s) (f.firm s h c))) (f.there s h c);
  reads = λ s h c e known. crash.firm s.leaf (sector_at layout h s) (f.firm s h c) ∙ f.reads s h c (sym (crash.harmed s.leaf (sector_at layout h s)) ∙ e) known;
  firm = λ s h c. crash.soft s.leaf (sector_at layout h s);
}

pub stable_left : (geometry : Geometry) (metaslab : ℕ) (layout : Layout) (pieces : Pieces) (image : Image) (doubt : Segment → Bool) (x y : KitTold) → IsStable geometry metaslab layout pieces image doubt x
    → CrashedKit x y → IsStable geometry metaslab layout pieces image doubt y
stable_left geometry metaslab layout pieces image doubt x y s crash = record {
  recorded = both_left geometry metaslab image x.even x.odd y.even y.odd s.recorded crash.even crash.odd;
  firm = firm_left layout pieces image doubt x.rack y.rack crash.rack s.firm;
}
