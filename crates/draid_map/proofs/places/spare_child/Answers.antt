use Rattle.std.proofs.Common.{◌≡◌, ◌-◌, ◌*◌, ◌/◌, ap, ◌∙◌, mul_comm}
use Rattle.draid_perm.specs.Perms.{child_of}
use Rattle.draid_map.proofs.places.spare_child.Goals as goal

pub returns : goal.returns
returns c =
    let geometry = c.args.geometry.now in
    let rows : c.from-height.result * c.from.result ≡ geometry.rows * geometry.props.height =
    (λ k. c.from-height.ensures k * c.from.ensures k) ∙ mul_comm geometry.props.height geometry.rows in
    c.child.ensures.formula ∙ ap (λ slice. child_of c.args.perms.now slice (geometry.spec.children - 1 - c.args.spare)) (c.of-spot.ensures.slice ∙ ap (λ n. c.args.sector / n) rows)
