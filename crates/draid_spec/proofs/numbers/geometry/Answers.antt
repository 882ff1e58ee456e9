use Rattle.std.proofs.Common.{◌≡◌, ◌∙◌, ◌+◌, ◌-◌, ◌*◌, ◌/◌, ◌≤◌, sym, ap, subst, arith}
use Rattle.draid_spec.specs.Spec.{have_of, need_of}
use Rattle.draid_spec.specs.Geometry.{FillsRows, ngroups_of, total_of}
use Rattle.draid_spec.proofs.Layouts.{given_layout, too_large}
use Rattle.draid_spec.proofs.numbers.geometry.Goals as goal

pub returns-then-total-gt-MOST_SECTORS-clause-exact : goal.returns-then-total-gt-MOST_SECTORS-clause-exact
returns-then-total-gt-MOST_SECTORS-clause-exact c =
    let spec = c.args.spec in
    let d = have_of spec in
    let turn : spec.ndata + spec.parity ≡ need_of spec = omega arith in
    too_large spec c.args.props c.total_sectors-total.result c.in_ok-check_version.ensures.exact c.in_ok-check_width.ensures.exact c.in_ok-check_props.ensures.exact
    (c.total_sectors-total.ensures
    ∙ ap (λ n. total_of c.args.props (n * (spec.ndata + spec.parity) / d)) c.group_count-ngroups.ensures.value
    ∙ ap (λ g. total_of c.args.props (ngroups_of g d * g / d)) turn)
    c.if-total-gt-MOST_SECTORS.true

pub returns-clause-whole : goal.returns-clause-whole
returns-clause-whole c =
    let spec = c.args.spec in
    let g = spec.ndata + spec.parity in
    let d = spec.children - spec.spares in
    let groups = c.group_count-ngroups in
    let fits = c.in_ok-check_width.ensures.fits in
    record {
      version = c.in_ok-check_version.ensures.known;
      spec = c.requires;
      props = c.in_ok-check_props.ensures.ranges;
      columns = omega arith;
      disks = omega (arith, fits);
      width = omega (arith, fits);
      slice = subst (λ n. FillsRows g d groups.result (n * g / d)) (sym groups.ensures.value) groups.ensures.slice;
      total = subst (λ n. n ≤ 67108864) c.total_sectors-total.ensures c.if-total-gt-MOST_SECTORS.false;
    }

pub returns-clause-exact : goal.returns-clause-exact
returns-clause-exact c =
    let whole = returns-clause-whole c in
    sym (given_layout _ whole)
