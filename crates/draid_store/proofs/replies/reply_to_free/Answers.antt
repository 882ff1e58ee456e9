use Rattle.std.proofs.Common.{ap, refl, sym}
use Rattle.draid_store.specs.Answers.{FreeDoes}
use Rattle.draid_store.specs.Says.{free_reply}
use Rattle.draid_pool.proofs.Steps.{by_answer}
use Rattle.draid_store.proofs.Teaching.{free_teaches}
use Rattle.draid_store.proofs.replies.reply_to_free.Goals as goal

pub returns-in-Ok : goal.returns-in-Ok
returns-in-Ok g c = record {
  whole = c.free.ensures.whole;
  fits = refl;
  knows = free_teaches c.args.pool.now c.free.new.pool c.args.object c.free.result _ (sym (ap (λ r. free_reply c.args.object r) c.in-Ok.is)) c.free.ensures.frees;
  step = λ x is.
      by_answer g.R.Rack g.A.Area (λ r. FreeDoes x c.args.object r) _ x c.free.new.pool c.free.result c.free.result refl
      (λ holds store w. (c.free.result, sym (ap (λ r. free_reply c.args.object r) c.in-Ok.is), w)) (c.free.ensures.step x is);
}

pub returns-in-Err-NoObject : goal.returns-in-Err-NoObject
returns-in-Err-NoObject g c = record {
  whole = c.free.ensures.whole;
  fits = refl;
  knows = free_teaches c.args.pool.now c.free.new.pool c.args.object c.free.result _ (sym (ap (λ r. free_reply c.args.object r) c.in-Err-NoObject.is)) c.free.ensures.frees;
  step = λ x is.
      by_answer g.R.Rack g.A.Area (λ r. FreeDoes x c.args.object r) _ x c.free.new.pool c.free.result c.free.result refl
      (λ holds store w. (c.free.result, sym (ap (λ r. free_reply c.args.object r) c.in-Err-NoObject.is), w)) (c.free.ensures.step x is);
}
