-- The layout of a body that is in its ranges.
use Rattle.std.proofs.Common.{◌≡◌, ◌≤◌, ◌<◌, ◌^◌, ◌∙◌, ℕ, Option, Some, Bool, true, false, Result, Ok, Err, refl, sym, ap, subst, inl, inr, arith, if◌then◌else◌}
use Rattle.std.specs.Prelude.{is_ok}
use Rattle.std.specs.Result.{result_and}
use Rattle.draid_record.specs.declared.uber.UberBody.{UberBody}
use Rattle.draid_record.specs.Uber.{IsUber, gives_layout, seedless}
use Rattle.draid_spec.specs.declared.layout.Geometry.{Geometry}
use Rattle.draid_spec.specs.declared.layout.Props.{Props}
use Rattle.draid_spec.specs.declared.spec.Spec.{Spec}
use Rattle.draid_spec.specs.declared.spec.SpecFault.{SpecFault}
use Rattle.draid_spec.specs.Geometry.{IsGeometry, IsProps, IsVersion, checked_props, checked_version, geometry_of, layout_of}
use Rattle.draid_spec.proofs.Layouts.{given_layout}
use Rattle.draid_spec.specs.Spec.{IsSpec, checked_width}
use Rattle.draid_uber.specs.Held.{IsHeld, IsNext}
use Rattle.draid_uber.specs.Uber.{layout_in, with_version}

abbrev pub in_ok : {A : Type 0} → A → Result A SpecFault
in_ok x = Ok x

tests_same : (a b c : Result Unit SpecFault) (t : Bool) (e f : SpecFault) (x y : Geometry) → is_ok (result_and a (result_and b (result_and c (if t then Err e else Ok x)))) ≡ true → result_and a (result_and b (result_and c (if t then Err f else Ok y))) ≡ Ok y
tests_same (Err w) b c t e f x y is = absurd (cc)
tests_same (Ok u) (Err w) c t e f x y is = absurd (cc)
tests_same (Ok u) (Ok v) (Err w) t e f x y is = absurd (cc)
tests_same (Ok u) (Ok v) (Ok w) true e f x y is = absurd (cc)
tests_same (Ok u) (Ok v) (Ok w) false e f x y is = refl

-- a layout that is given without the seed is given with it
pub layout_given : (spec : Spec) (props : Props) → gives_layout spec (seedless props.version props.sector props.height props.metaslabs props.slices) ≡ true → geometry_of spec props ≡ Ok (layout_of spec props)
layout_given spec props is = tests_same (checked_version props.version) (checked_width spec) (checked_props props) _ _ _ _ (layout_of spec props) is

ok_is : {A : Type 0} (x y : A) → in_ok x ≡ Ok y → x ≡ y
ok_is x y e = cc

-- what is given has the spec and the properties
pub given_parts : (spec : Spec) (props : Props) (found : Result Geometry SpecFault) (g : Geometry) → geometry_of spec props ≡ Ok (layout_of spec props) → found ≡ geometry_of spec props → found ≡ Ok g → (g.spec ≡ spec) × (g.props ≡ props)
given_parts spec props found g is exact e =
    let same : layout_of spec props ≡ g = ok_is (layout_of spec props) g (sym is ∙ sym exact ∙ e) in
    (ap (λ (l : Geometry). l.spec) (sym same), ap (λ (l : Geometry). l.props) (sym same))

abbrev pub passes : Result Unit SpecFault
passes = Ok tt

tests_again : (a b c : Result Unit SpecFault) (t : Bool) (e f : SpecFault) (x y g : Geometry) → result_and a (result_and b (result_and c (if t then Err e else Ok x))) ≡ Ok g → is_ok (result_and passes (result_and b (result_and c (if t then Err f else Ok y)))) ≡ true
tests_again (Err w) b c t e f x y g is = absurd (cc)
tests_again (Ok u) (Err w) c t e f x y g is = absurd (cc)
tests_again (Ok u) (Ok v) (Err w) t e f x y g is = absurd (cc)
tests_again (Ok u) (Ok v) (Ok w) true e f x y g is = absurd (cc)
tests_again (Ok u) (Ok v) (Ok w) false e f x y g is = refl

version_passes : (v : ℕ) → IsVersion v → checked_version v ≡ passes
version_passes v (inl e) = rw e refl
version_passes v (inr e) = rw e refl

later_version : (spec : Spec) (props : Props) (version : ℕ) (g : Geometry) → IsVersion version → geometry_of spec props ≡ Ok g → gives_layout spec (seedless version props.sector props.height props.metaslabs props.slices) ≡ true
later_version spec props version g known is =
    let again = tests_again (checked_version props.version) (checked_width spec) (checked_props props) _ _ _ _ (layout_of spec (seedless version props.sector props.height props.metaslabs props.slices)) g is in
    rw (version_passes version known) again

first_below : (v w n : ℕ) → IsVersion v → v ≤ w → (v ≡ 1 → n ≤ 32) → w ≡ 1 → n ≤ 32
first_below v w n (inl e) le few one = few e
first_below v w n (inr e) le few one = absurd (omega (arith, e, le, one))

-- a later version allows what this one does
spec_later : (geometry : Geometry) (version : ℕ) → IsGeometry geometry → geometry.props.version ≤ version → IsSpec version geometry.spec
spec_later geometry version is later =
    let s = is.spec in
    record {
      some_parity = s.some_parity;
      most_parity = s.most_parity;
      some_data = s.some_data;
      most_data = s.most_data;
      some_children = s.some_children;
      most_children = s.most_children;
      first_children = first_below geometry.props.version version geometry.spec.children is.version later s.first_children;
      most_spares = s.most_spares;
    }

props_later : (props : Props) (version : ℕ) → IsProps props → IsProps (with_version props version)
props_later props version p = record {
  sector = p.sector;
  power = p.power;
  least_height = p.least_height;
  most_height = p.most_height;
  some_metaslabs = p.some_metaslabs;
  most_metaslabs = p.most_metaslabs;
  some_slices = p.some_slices;
  most_slices = p.most_slices;
}

-- what the next commit writes is in its ranges
pub next_ranges : (kept : Option UberBody) (geometry : Geometry) (version next_leaf group : ℕ) → IsHeld kept geometry version next_leaf → IsNext kept group
    → IsUber (record { group = group; spec = geometry.spec; props = with_version geometry.props version; next_leaf = next_leaf })
next_ranges kept geometry version next_leaf group held next =
    let l = held.layout_is in
    let columns = l.columns in
    let disks = l.disks in
    let width = l.width in
    let behind = next.behind in
    record {
      group_above = omega (arith, behind);
      group_below = next.below;
      version_is = held.version_is;
      spec_is = spec_later geometry version l held.later;
      wide = omega (arith, columns, disks, width);
      props_are = props_later geometry.props version l.props;
      layout = later_version geometry.spec geometry.props version geometry held.version_is (given_layout geometry l);
      seed_below = held.seed_below;
      leaf_above = held.leaf_above;
      leaf_below = held.leaf_below;
    }

-- the parts that are taken from a body fit together
pub held_by : (body : UberBody) (g : Geometry) → IsUber body → IsGeometry g → g.spec ≡ body.spec → g.props ≡ body.props → IsHeld (Some body) g body.props.version body.next_leaf
held_by body g is whole spec props =
    let same : g.props.version ≡ body.props.version = ap (λ (p : Props). p.version) props in
    record {
      layout_is = whole;
      seed_below = subst (λ (p : Props). p.seed < 2 ^ 64) (sym props) is.seed_below;
      version_is = is.version_is;
      later = omega (arith, same);
      leaf_above = subst (λ (s : Spec). s.children ≤ body.next_leaf) (sym spec) is.leaf_above;
      leaf_below = is.leaf_below;
      kept_is = (sym spec, sym props);
    }

-- the parts still fit together once what the next commit writes is committed
pub held_next : (kept : Option UberBody) (geometry : Geometry) (version next_leaf : ℕ) (body : UberBody) → IsHeld kept geometry version next_leaf → IsUber body → body.spec ≡ geometry.spec → body.props ≡ with_version geometry.props version
    → IsHeld (Some body) (layout_in geometry version) version next_leaf
held_next kept geometry version next_leaf body held is spec props =
    let l = held.layout_is in
    let same : body.props.version ≡ version = ap (λ (p : Props). p.version) props in
    record {
      layout_is = record {
        version = held.version_is;
        spec = subst (λ (v : ℕ). IsSpec v geometry.spec) same (subst (λ (s : Spec). IsSpec body.props.version s) spec is.spec_is);
        props = subst IsProps props is.props_are;
        columns = l.columns;
        disks = l.disks;
        width = l.width;
        slice = l.slice;
        total = l.total;
      };
      seed_below = held.seed_below;
      version_is = held.version_is;
      later = omega arith;
      leaf_above = held.leaf_above;
      leaf_below = held.leaf_below;
      kept_is = (spec, props);
    }
