use Rattle.std.proofs.Common.{ap, refl, sym}
use Rattle.draid_script.specs.Line.{ShowStatus}
use Rattle.draid_status.specs.Says.{StatusDoes, status_reply}
use Rattle.draid_status.proofs.Shown.{status_told}
use Rattle.draid_pool.proofs.Steps.{by_answer}
use Rattle.draid_pool.proofs.Taught.{teaches_nothing}
use Rattle.draid_status.proofs.replies.reply_to_status.Goals as goal

pub returns-in-Ok : goal.returns-in-Ok
returns-in-Ok g c = record {
  fits = tt;
  knows = teaches_nothing (ShowStatus c.args.format) _ (λ known. refl) c.args.pool.now c.args.pool.now (λ o. refl);
  step = λ x is.
      by_answer g.R.Rack g.A.Area (λ r. StatusDoes x c.args.format r) _ x c.args.pool.now c.status_bytes.result c.status_bytes.result refl
      (λ holds store w. (c.status_bytes.result, sym (ap status_reply c.in-Ok.is), w))
      (status_told g.R.Rack g.A.Area c.args.pool.now x is c.args.format c.status_bytes.result (c.status_bytes.ensures.shows x is));
}

pub returns-in-Err : goal.returns-in-Err
returns-in-Err g c = record {
  fits = tt;
  knows = teaches_nothing (ShowStatus c.args.format) _ (λ known. refl) c.args.pool.now c.args.pool.now (λ o. refl);
  step = λ x is.
      by_answer g.R.Rack g.A.Area (λ r. StatusDoes x c.args.format r) _ x c.args.pool.now c.status_bytes.result c.status_bytes.result refl
      (λ holds store w. (c.status_bytes.result, sym (ap status_reply c.in-Err.is), w))
      (status_told g.R.Rack g.A.Area c.args.pool.now x is c.args.format c.status_bytes.result (c.status_bytes.ensures.shows x is));
}
