use Rattle.std.proofs.lemmas.Result.{IfOk-from_err}
use Rattle.draid_pool.proofs.LeavesFlushed.{flushed_more}
use Rattle.draid_pool.proofs.sealing.add_flushed.Goals as goal

pub is_flushed-requires : goal.is_flushed-requires
is_flushed-requires c = c.requires

pub returns-in_err-push : goal.returns-in_err-push
returns-in_err-push c = IfOk-from_err c.from_residual.result _ c.from_residual.ensures.0

pub returns-in_ok-push : goal.returns-in_ok-push
returns-in_ok-push c = λ shape some below.
    flushed_more shape c.args.slots.now c.args.leaves.now.items c.push.new.self.items c.args.leaf (λ q has. c.is_flushed.ensures.online q has c.if-is_flushed.true) c.in_ok-push.ensures.items some below
