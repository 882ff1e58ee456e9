use Rattle.std.proofs.Common.{◌≡◌, ◌*◌, ◌/◌, ◌<◌, ◌≤◌, ℕ, Result, Ok, Err, sym, ap, ◌∙◌, arith}
use Rattle.std.proofs.Math.Nat.{mul-div_cancel}
use Rattle.std.proofs.lemmas.Bool.Decides.{nat_tests}
use Rattle.std.specs.Result.{result_and}
use Rattle.draid_spec.specs.declared.spec.SpecFault.{SpecFault}
use Rattle.draid_spec.specs.declared.spec.SpecFault.TheVariants.{Limit}
use Rattle.draid_spec.specs.declared.spec.Spec.{Spec}
use Rattle.draid_spec.specs.declared.layout.Props.{Props}
use Rattle.draid_spec.specs.declared.layout.Geometry.{Geometry}
use Rattle.draid_spec.specs.Spec.{need_of, have_of, checked_width}
use Rattle.draid_spec.specs.Geometry.{FillsRows, IsGeometry, IsProps, IsVersion, geometry_of, layout_of, checked_props, checked_version, checked_layout, ngroups_of, rows_of, total_of}
use Rattle.draid_spec.proofs.Multiples.{lcm_unique}

groups_are : (g d k r : ℕ) → 1 ≤ g → 1 ≤ d → FillsRows g d k r → k ≡ ngroups_of g d
groups_are g d k r some_g some_d is =
    sym (mul-div_cancel k some_g) ∙ ap (λ m. m / g) (lcm_unique g d (k * g) some_g some_d is.least)

rows_are : (g d k r : ℕ) → 1 ≤ g → 1 ≤ d → FillsRows g d k r → r ≡ rows_of g d
rows_are g d k r some_g some_d is =
    sym (mul-div_cancel r some_d) ∙ (ap (λ m. m / d) (sym is.filled) ∙ ap (λ n. n * g / d) (groups_are g d k r some_g some_d is))

props_pass : (props : Props) → IsProps props → checked_props props ≡ Ok tt
props_pass props is = grind (arith, nat_tests)

version_passes : (version : ℕ) → IsVersion version → checked_version version ≡ Ok tt
version_passes version is = grind (arith, nat_tests)

width_passes : (spec : Spec) → need_of spec ≤ have_of spec → checked_width spec ≡ Ok tt
width_passes spec fits = grind (arith, nat_tests)

layout_passes : (layout : Geometry) → total_of layout.props layout.rows ≤ 67108864 → checked_layout layout ≡ Ok layout
layout_passes layout fits = grind (arith, nat_tests)

-- the numbers of a layout are those of its spec
layout_is : (layout : Geometry) → IsGeometry layout → layout_of layout.spec layout.props ≡ layout
layout_is layout is =
    let g : need_of layout.spec ≡ layout.g = sym is.columns in
    let d : have_of layout.spec ≡ layout.ndisks = omega arith in
    let some_g : 1 ≤ layout.g = omega arith in
    let some_d : 1 ≤ layout.ndisks = omega arith in
    let k : ngroups_of layout.g layout.ndisks ≡ layout.ngroups = sym (groups_are layout.g layout.ndisks layout.ngroups layout.rows some_g some_d is.slice) in
    let r : rows_of layout.g layout.ndisks ≡ layout.rows = sym (rows_are layout.g layout.ndisks layout.ngroups layout.rows some_g some_d is.slice) in
    let numbers : ℕ → ℕ → ℕ → ℕ → Geometry = λ a b c e. record { spec = layout.spec; props = layout.props; g = a; ndisks = b; ngroups = c; rows = e } in
    ap (λ a. numbers a (have_of layout.spec) (ngroups_of a (have_of layout.spec)) (rows_of a (have_of layout.spec))) g
    ∙ (ap (λ b. numbers layout.g b (ngroups_of layout.g b) (rows_of layout.g b)) d
    ∙ (ap (λ c. numbers layout.g layout.ndisks c (rows_of layout.g layout.ndisks)) k
    ∙ ap (λ e. numbers layout.g layout.ndisks layout.ngroups e) r))

-- and nothing of it is refused
pub given_layout : (layout : Geometry) → IsGeometry layout → geometry_of layout.spec layout.props ≡ Ok layout
given_layout layout is =
    let width : checked_width layout.spec ≡ Ok tt = width_passes layout.spec (omega arith) in
    let props : checked_props layout.props ≡ Ok tt = props_pass layout.props is.props in
    let version : checked_version layout.props.version ≡ Ok tt = version_passes layout.props.version is.version in
    let next : Result Unit SpecFault → Result Geometry SpecFault → Result Geometry SpecFault = λ r s. result_and r s in
    ap (λ r. next r (next (checked_width layout.spec) (next (checked_props layout.props) (checked_layout (layout_of layout.spec layout.props))))) version
    ∙ (ap (λ r. next r (next (checked_props layout.props) (checked_layout (layout_of layout.spec layout.props)))) width
    ∙ (ap (λ r. next r (checked_layout (layout_of layout.spec layout.props))) props
    ∙ (ap (λ l. checked_layout l) (layout_is layout is) ∙ layout_passes layout is.total)))

-- a layout with too many sectors is refused
layout_refused : (layout : Geometry) → 67108864 < total_of layout.props layout.rows → checked_layout layout ≡ Err (Limit 122 (total_of layout.props layout.rows))
layout_refused layout past = grind (arith, nat_tests)

pub too_large : (spec : Spec) (props : Props) (total : ℕ) → Ok tt ≡ checked_version props.version → Ok tt ≡ checked_width spec → Ok tt ≡ checked_props props
    → total ≡ total_of props (rows_of (need_of spec) (have_of spec)) → 67108864 < total → Err (Limit 122 total) ≡ geometry_of spec props
too_large spec props total version width checked is past =
    let sectors = total_of props (rows_of (need_of spec) (have_of spec)) in
    let over : 67108864 < sectors = omega arith in
    let next : Result Unit SpecFault → Result Geometry SpecFault → Result Geometry SpecFault = λ r s. result_and r s in
    ap (λ n. Err (Limit 122 n)) is ∙ sym (layout_refused (layout_of spec props) over)
    ∙ ap (λ r. next r (checked_layout (layout_of spec props))) checked
    ∙ ap (λ r. next r (next (checked_props props) (checked_layout (layout_of spec props)))) width
    ∙ ap (λ r. next r (next (checked_width spec) (next (checked_props props) (checked_layout (layout_of spec props))))) version
