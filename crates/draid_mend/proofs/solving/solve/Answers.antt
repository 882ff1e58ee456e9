use Rattle.std.proofs.Common.{◌∙◌, Some, ap}
use Rattle.draid_mend.proofs.Missed.{solved_valid}
use Rattle.draid_mend.proofs.solving.solve.Goals as goal

pub returns-in-Some-Stripe-clause-valid : goal.returns-in-Some-Stripe-clause-valid
returns-in-Some-Stripe-clause-valid g c =
    let e = c.solve_kept.ensures in
    let s = c.in-Some-Stripe in
    solved_valid g.R.Rack c.args.shard.now c.requires.valid s.kept c.solve_kept.new.kept (s.is ∙ ap Some s.field-0-is) e.rest e.parity e.ndata e.len
