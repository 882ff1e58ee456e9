use Rattle.draid_slots.proofs.Tables.{on_ok_passed}
use Rattle.std.proofs.Common.{refl}
use Rattle.std.proofs.Common.{arith, rules}
use Rattle.draid_slots.proofs.Rooms.{added_more}
use Rattle.draid_slots.proofs.lists.reserve_next.Goals as goal

pub returns-in_err-reserve_logs-clause-count : goal.returns-in_err-reserve_logs-clause-count
returns-in_err-reserve_logs-clause-count c = let long = c.reserve_logs.ensures.grown.len in omega arith

pub returns-in_err-reserve_logs-clause-kept : goal.returns-in_err-reserve_logs-clause-kept
returns-in_err-reserve_logs-clause-kept c = c.reserve_logs.ensures.grown.kept

pub loop-more-init : goal.loop-more-init
loop-more-init c = record {
  many = omega arith;
  kept = λ k. omega arith;
  rooms = λ k there. (let reserved = c.in_ok-reserve_logs.ensures.reserved in reserved.reserved k (let long = reserved.len in omega arith));
}

pub returns-in_err-reserve-clause-count : goal.returns-in_err-reserve-clause-count
returns-in_err-reserve-clause-count c = let long = c.reserve_logs.ensures.grown.len in let many = c.loop-more.invariant.many in omega arith

pub returns-in_err-reserve-clause-kept : goal.returns-in_err-reserve-clause-kept
returns-in_err-reserve-clause-kept c = λ k. let grown = c.reserve_logs.ensures.grown.kept k in let kept = c.loop-more.invariant.kept k in omega arith

pub loop-more-preserved : goal.loop-more-preserved
loop-more-preserved c =
    added_more _ _ _ c.reserve.new.self _ _ c.loop-more.invariant (search rules) c.in_ok-push.ensures.items

pub returns-clause-count : goal.returns-clause-count
returns-clause-count c = let long = c.reserve_logs.ensures.grown.len in let many = c.loop-more.invariant.many in omega arith

pub returns-clause-kept : goal.returns-clause-kept
returns-clause-kept c = λ k. let grown = c.reserve_logs.ensures.grown.kept k in let kept = c.loop-more.invariant.kept k in omega arith

pub returns-clause-room : goal.returns-clause-room
returns-clause-room c = c.loop-more.invariant.rooms

pub returns-in_err-reserve_logs-clause-arms : goal.returns-in_err-reserve_logs-clause-arms
returns-in_err-reserve_logs-clause-arms c = on_ok_passed _ c.from_residual.result _ c.from_residual.ensures.1

pub returns-in_err-reserve_logs-clause-room : goal.returns-in_err-reserve_logs-clause-room
returns-in_err-reserve_logs-clause-room c = on_ok_passed _ c.from_residual.result _ c.from_residual.ensures.1

pub returns-in_err-reserve-clause-arms : goal.returns-in_err-reserve-clause-arms
returns-in_err-reserve-clause-arms c = on_ok_passed _ c.from_residual-in_err-reserve.result _ c.from_residual-in_err-reserve.ensures.1

pub returns-in_err-reserve-clause-room : goal.returns-in_err-reserve-clause-room
returns-in_err-reserve-clause-room c = on_ok_passed _ c.from_residual-in_err-reserve.result _ c.from_residual-in_err-reserve.ensures.1

pub same-log : goal.same-log
same-log c = refl

pub returns-in_err-push-clause-count : goal.returns-in_err-push-clause-count
returns-in_err-push-clause-count c = omega arith

pub returns-in_err-push-clause-arms : goal.returns-in_err-push-clause-arms
returns-in_err-push-clause-arms c = on_ok_passed _ c.from_residual-in_err-push.result _ c.from_residual-in_err-push.ensures.1

pub returns-in_err-push-clause-room : goal.returns-in_err-push-clause-room
returns-in_err-push-clause-room c = on_ok_passed _ c.from_residual-in_err-push.result _ c.from_residual-in_err-push.ensures.1

pub returns-clause-arms : goal.returns-clause-arms
returns-clause-arms c = omega arith
