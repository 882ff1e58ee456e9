-- Stripes of a pool are few.
use Rattle.std.proofs.Common.{◌≡◌, ◌*◌, ◌<◌, ◌≤◌, ℕ, Bool, true, false, List, None, nat_lt, if◌then◌else◌, sym, ◌∙◌, ap, arith}
use Rattle.std.proofs.Math.Nat.{mul-le-mul}
use Rattle.std.proofs.lemmas.Bool.Decides.{nat_tests}
use Rattle.draid_spec.specs.declared.layout.Geometry.{Geometry}
use Rattle.draid_spec.specs.Geometry.{IsGeometry, metaslab_stripes}
use Rattle.draid_machine.specs.declared.names.ArmName.{ArmName}
use Rattle.draid_machine.specs.declared.names.ArmName.TheVariants.{Spare}
use Rattle.draid_machine.specs.State.{Layout}
use Rattle.draid_machine.specs.Arms.{leaf_at, first_leaf}
use Rattle.draid_world.specs.World.{home_at}

pub few_stripes : (geometry : Geometry) (metaslab : ℕ) → IsGeometry geometry → metaslab < geometry.props.metaslabs
    → metaslab * metaslab_stripes geometry ≤ 64 * (1024 * 64 * 4096)
few_stripes geometry metaslab is less =
    let groups : geometry.ngroups ≤ 64 = (let a = is.slice.most_groups in let b = is.disks in let d = is.spec.most_children in omega (arith, a, b, d)) in
    let metaslabs : metaslab ≤ 64 = (let a = is.props.most_metaslabs in omega (arith, a, less)) in
    mul-le-mul metaslabs (mul-le-mul (mul-le-mul is.props.most_slices groups) is.props.most_height)

pub spare_leaf : (l : Layout) (order : ℕ → List ArmName) (t x c : ℕ) (ns : List ArmName) → t < l.spares → c ≡ home_at l order t x → order c ≡ ns → first_leaf ns ≡ leaf_at l order (Spare t) x
spare_leaf l order t x c ns less at is = by (nat_lt t l.spares) (grind (arith, nat_tests))
  where
    by : (b : Bool) → b ≡ true → first_leaf ns ≡ (if b then first_leaf (order (home_at l order t x)) else None)
    by true e = ap first_leaf (sym is ∙ ap order at)
    by false e = absurd (cc)
