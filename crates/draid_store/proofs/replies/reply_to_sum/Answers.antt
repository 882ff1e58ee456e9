use Rattle.std.proofs.Common.{ap, refl, sym}
use Rattle.draid_store.specs.Answers.{SumDoes}
use Rattle.draid_store.specs.Says.{sum_reply}
use Rattle.draid_pool.proofs.Steps.{by_answer}
use Rattle.draid_store.proofs.Teaching.{sum_teaches}
use Rattle.draid_store.proofs.replies.reply_to_sum.Goals as goal

pub returns-in-Ok : goal.returns-in-Ok
returns-in-Ok g c = record {
  whole = c.sum.ensures.whole;
  fits = (refl, refl);
  knows = sum_teaches c.args.pool.now c.sum.new.pool c.sum.ensures.same c.args.first c.args.count c.sum.result _ (sym (ap (λ r. sum_reply c.args.first c.args.count r) c.in-Ok.is)) c.sum.ensures.sums;
  step = λ x is.
      by_answer g.R.Rack g.A.Area (λ r. SumDoes x c.args.first c.args.count r) _ x c.sum.new.pool c.sum.result c.sum.result refl
      (λ holds store w. (c.sum.result, sym (ap (λ r. sum_reply c.args.first c.args.count r) c.in-Ok.is), w)) (c.sum.ensures.step x is);
}

pub returns-in-Err : goal.returns-in-Err
returns-in-Err g c = record {
  whole = c.sum.ensures.whole;
  fits = tt;
  knows = sum_teaches c.args.pool.now c.sum.new.pool c.sum.ensures.same c.args.first c.args.count c.sum.result _ (sym (ap (λ r. sum_reply c.args.first c.args.count r) c.in-Err.is)) c.sum.ensures.sums;
  step = λ x is.
      by_answer g.R.Rack g.A.Area (λ r. SumDoes x c.args.first c.args.count r) _ x c.sum.new.pool c.sum.result c.sum.result refl
      (λ holds store w. (c.sum.result, sym (ap (λ r. sum_reply c.args.first c.args.count r) c.in-Err.is), w)) (c.sum.ensures.step x is);
}
