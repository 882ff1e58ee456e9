use Rattle.draid_area.proofs.Moments.{elapsed_on}
use Rattle.draid_uber.proofs.Ends.{on_err, read_flushed, refused_unread, shut_done, shut_refused, told_open, told_shut, was_shut}
use Rattle.std.proofs.Common.{arith, subst, sym}
use Rattle.std.proofs.lemmas.Result.{IfOk-from_err}
use Rattle.draid_uber.specs.Slots.{StandsTold}
use Rattle.draid_uber.proofs.Passed.{passed}
use Rattle.draid_uber.proofs.steps.shut.Goals as goal

pub returns-then-gate-eq-OPEN-clause-refused : goal.returns-then-gate-eq-OPEN-clause-refused
returns-then-gate-eq-OPEN-clause-refused g c = λ kept pending e stands.
    let flushed = read_flushed kept pending (g.A.Area.size c.args.area.now) _ _ _ stands (g.met.A.Area.counted c.args.area.now) c.in_ok-flush.ensures.ok c.in_ok-read.ensures.told in
    shut_refused kept c.args.slot _ e c.base-then-gate-eq-OPEN.ensures pending c.put.result _ _
    (told_open c.args.slot c.base.result c.read.new.into _ _ c.in_ok-read.ensures.told c.base.ensures c.in_ok-read.ensures.whole c.in_ok-read.ensures.read c.if-gate-eq-OPEN.true) flushed c.put.ensures.puts

pub returns-then-gate-eq-OPEN-clause-shut : goal.returns-then-gate-eq-OPEN-clause-shut
returns-then-gate-eq-OPEN-clause-shut g c = λ kept pending e stands.
    let flushed = read_flushed kept pending (g.A.Area.size c.args.area.now) _ _ _ stands (g.met.A.Area.counted c.args.area.now) c.in_ok-flush.ensures.ok c.in_ok-read.ensures.told in
    shut_done kept c.args.slot _ e c.base-then-gate-eq-OPEN.ensures pending c.put.result _ _ flushed c.put.ensures.puts

pub returns-then-gate-eq-OPEN-clause-moments : goal.returns-then-gate-eq-OPEN-clause-moments
returns-then-gate-eq-OPEN-clause-moments g c = elapsed_on _ _ _ c.in_ok-flush.ensures.moments (elapsed_on _ _ _ c.in_ok-read.ensures.moments c.put.ensures.moments)

pub returns-clause-shut : goal.returns-clause-shut
returns-clause-shut g c = λ kept pending e stands.
    let flushed = read_flushed kept pending (g.A.Area.size c.args.area.now) _ _ _ stands (g.met.A.Area.counted c.args.area.now) c.in_ok-flush.ensures.ok c.in_ok-read.ensures.told in
    was_shut kept c.args.slot _ e c.base.ensures pending _
    (told_shut c.args.slot c.base.result c.read.new.into _ _ c.in_ok-read.ensures.told c.base.ensures c.in_ok-read.ensures.whole c.in_ok-read.ensures.read c.if-gate-eq-OPEN.false) flushed

pub returns-in_err-flush : goal.returns-in_err-flush
returns-in_err-flush g c = record {
  refused = λ kept pending e stands. on_err _ (subst (StandsTold kept pending) (sym c.in_err-flush.ensures.err) stands);
  shut = λ kept pending e stands. IfOk-from_err c.from_residual.result _ c.from_residual.ensures.0;
  moments = c.in_err-flush.ensures.moments;
  grown = (let same = c.in_err-flush.ensures.size in omega (arith, same));
  cause = record { later = c.in_err-flush.ensures.cause.later; cause = λ failed. c.in_err-flush.ensures.cause.cause (passed c.from_residual.result c.in_err-flush.field-0.0 _ c.from_residual.ensures.1 failed) };
}

pub returns-in_err-read : goal.returns-in_err-read
returns-in_err-read g c =
    record {
      refused = λ kept pending e stands. on_err _
          (refused_unread kept pending (g.A.Area.size c.args.area.now) _ _ _ stands (g.met.A.Area.counted c.args.area.now) c.in_ok-flush.ensures.ok c.in_err-read.ensures.told);
      shut = λ kept pending e stands. IfOk-from_err c.from_residual-in_err-read.result _ c.from_residual-in_err-read.ensures.0;
      moments = elapsed_on _ _ _ c.in_ok-flush.ensures.moments c.in_err-read.ensures.moments;
      grown = (let first = c.in_ok-flush.ensures.size in let same = c.in_err-read.ensures.size in omega (arith, first, same));
      cause = (let first = c.in_ok-flush.ensures.cause.later in
          let second = c.in_err-read.ensures.cause.later in
          record {
            later = omega (arith, first, second);
            cause = λ failed. (let rose = c.in_err-read.ensures.cause.cause (passed c.from_residual-in_err-read.result c.in_err-read.field-0.0 _ c.from_residual-in_err-read.ensures.1 failed) in omega (arith, first, rose));
          });
    }
