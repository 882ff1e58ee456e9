use Rattle.std.proofs.Common.{◌+◌, ◌<◌, ◌≤◌, ◌%◌, ◌-◌, subst, arith}
use Rattle.draid_world.specs.World.{core_of, site_layout}
use Rattle.draid_steps.proofs.Runs.{behind_group, blocked, free_run, in_group}
use Rattle.draid_steps.proofs.room.next_place.Goals as goal

pub returns-then-end-group_end-clause-before : goal.returns-then-end-group_end-clause-before
returns-then-end-group_end-clause-before c = λ x from less fits.
    let l = site_layout c.args.site.now in
    let tall = c.args.site.now.laid.geometry_is.props.least_height in
    let some : 0 < l.height = omega (arith, tall) in
    let high = c.from-height.ensures in
    let run = c.from-run.ensures in
    let far = c.if-end-group_end.true in
    behind_group l (core_of c.args.tables.now) c.args.first c.args.stripes x some from
    (subst (λ h. x < c.args.first - c.args.first % h + h) high less)
    (subst (λ h. c.args.first - c.args.first % h + h < c.args.first + c.args.stripes) high (subst (λ n. c.args.first - c.args.first % c.from-height.result + c.from-height.result < c.args.first + n) run far)) fits

pub returns-in-Some-clause-before : goal.returns-in-Some-clause-before
returns-in-Some-clause-before c = λ x from less fits.
    let z = c.in-Some.ensures.some in
    blocked (site_layout c.args.site.now) (core_of c.args.tables.now) z.0 c.in-Some.held c.args.first c.args.stripes x z.1 z.2 from
    (subst (λ n. x < c.in-Some.held.first + n) c.from.ensures less) c.requires.some fits

pub returns-in-None-clause-fits : goal.returns-in-None-clause-fits
returns-in-None-clause-fits c = λ same.
    let l = site_layout c.args.site.now in
    let high = c.from-height.ensures in
    let run = c.from-run.ensures in
    let near = c.if-end-group_end.false in
    record {
      inside = subst (λ n. c.args.first + n ≤ l.stripes) run (subst (λ all. c.args.first + c.from-run.result ≤ all) c.stripes.ensures.value c.if-end-stripes.false);
      group = in_group c.args.first c.args.stripes l.height c.requires.some
          (subst (λ h. c.args.first + c.args.stripes ≤ c.args.first - c.args.first % h + h) high (subst (λ n. c.args.first + n ≤ c.args.first - c.args.first % c.from-height.result + c.from-height.result) run near));
      free = free_run (core_of c.args.tables.now) c.args.first c.args.stripes c.in-None.ensures.none;
    }
