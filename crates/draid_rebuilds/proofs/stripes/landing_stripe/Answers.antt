use Rattle.std.proofs.Common.{ap, option_map}
use Rattle.draid_world.specs.World.{loan_of, pass_of, site_layout, state_of}
use Rattle.draid_rebuilds.proofs.Landed.{may_by, may_mend}
use Rattle.draid_rebuilds.proofs.stripes.landing_stripe.Goals as goal

pub returns-in_default-clause-none : goal.returns-in_default-clause-none
returns-in_default-clause-none c = λ h may. c.in_default.ensures.none h (record { p = may.p; n = may.n; counts = may.counts; kind_is = may.rebuild })

pub returns-then-not-may_mend_all-clause-none : goal.returns-then-not-may_mend_all-clause-none
returns-then-not-may_mend_all-clause-none c = λ h may.
    c.may_mend_all.ensures.no c.if-not-may_mend_all.true (may_mend (site_layout c.args.site.now) (state_of c.args.world.now) c.args.pass c.args.serial c.args.failed.now h (pass_of c.in-Some-pass.found) (loan_of c.in-Some-loan.loan) (ap (option_map pass_of) c.in-Some-pass.is) (ap (option_map loan_of) c.in-Some-loan.is) may)

pub returns-clause-some : goal.returns-clause-some
returns-clause-some c =
    may_by (site_layout c.args.site.now) (state_of c.args.world.now) c.args.pass c.args.serial c.args.failed.now c.in-Some.held (pass_of c.in-Some-pass.found) (loan_of c.in-Some-loan.loan) (ap (option_map pass_of) c.in-Some-pass.is) (ap (option_map loan_of) c.in-Some-loan.is) c.in-Some.ensures.some (c.may_mend_all.ensures.yes c.if-not-may_mend_all.false)
