use Rattle.std.proofs.Common.{◌∙◌, Err, ap, refl, sym}
use Rattle.draid_store.specs.Answers.{ReadDoes}
use Rattle.draid_store.specs.Says.{read_reply}
use Rattle.draid_pool.proofs.Steps.{by_answer}
use Rattle.draid_store.proofs.Teaching.{read_teaches}
use Rattle.draid_store.proofs.replies.reply_to_read.Goals as goal

pub returns-in-Ok : goal.returns-in-Ok
returns-in-Ok g c = record {
  whole = c.read.ensures.whole;
  fits = refl;
  knows = read_teaches c.args.pool.now c.read.new.pool c.read.ensures.same c.args.object c.read.result _ (sym (ap (λ r. read_reply c.args.object r) c.in-Ok.is)) c.read.ensures.read;
  step = λ x is.
      by_answer g.R.Rack g.A.Area (λ r. ReadDoes x c.args.object r) _ x c.read.new.pool c.read.result c.read.result refl
      (λ holds store w. (c.read.result, sym (ap (λ r. read_reply c.args.object r) c.in-Ok.is), w)) (c.read.ensures.step x is);
}

pub returns-in-Err-NoObject : goal.returns-in-Err-NoObject
returns-in-Err-NoObject g c = record {
  whole = c.read.ensures.whole;
  fits = refl;
  knows = read_teaches c.args.pool.now c.read.new.pool c.read.ensures.same c.args.object c.read.result _ (sym (ap (λ r. read_reply c.args.object r) (c.in-Err-NoObject.is ∙ ap Err c.in-Err-NoObject.field-0-is))) c.read.ensures.read;
  step = λ x is.
      by_answer g.R.Rack g.A.Area (λ r. ReadDoes x c.args.object r) _ x c.read.new.pool c.read.result c.read.result refl
      (λ holds store w. (c.read.result, sym (ap (λ r. read_reply c.args.object r) (c.in-Err-NoObject.is ∙ ap Err c.in-Err-NoObject.field-0-is)), w)) (c.read.ensures.step x is);
}

pub returns-in-Err-Unreadable : goal.returns-in-Err-Unreadable
returns-in-Err-Unreadable g c = record {
  whole = c.read.ensures.whole;
  fits = refl;
  knows = read_teaches c.args.pool.now c.read.new.pool c.read.ensures.same c.args.object c.read.result _ (sym (ap (λ r. read_reply c.args.object r) (c.in-Err-Unreadable.is ∙ ap Err c.in-Err-Unreadable.field-0-is))) c.read.ensures.read;
  step = λ x is.
      by_answer g.R.Rack g.A.Area (λ r. ReadDoes x c.args.object r) _ x c.read.new.pool c.read.result c.read.result refl
      (λ holds store w. (c.read.result, sym (ap (λ r. read_reply c.args.object r) (c.in-Err-Unreadable.is ∙ ap Err c.in-Err-Unreadable.field-0-is)), w)) (c.read.ensures.step x is);
}

pub returns-in-Err-Worn : goal.returns-in-Err-Worn
returns-in-Err-Worn g c = record {
  whole = c.read.ensures.whole;
  fits = refl;
  knows = read_teaches c.args.pool.now c.read.new.pool c.read.ensures.same c.args.object c.read.result _ (sym (ap (λ r. read_reply c.args.object r) (c.in-Err-Worn.is ∙ ap Err c.in-Err-Worn.field-0-is))) c.read.ensures.read;
  step = λ x is.
      by_answer g.R.Rack g.A.Area (λ r. ReadDoes x c.args.object r) _ x c.read.new.pool c.read.result c.read.result refl
      (λ holds store w. (c.read.result, sym (ap (λ r. read_reply c.args.object r) (c.in-Err-Worn.is ∙ ap Err c.in-Err-Worn.field-0-is)), w)) (c.read.ensures.step x is);
}

pub returns-in-Err-NoMemory : goal.returns-in-Err-NoMemory
returns-in-Err-NoMemory g c = record {
  whole = c.read.ensures.whole;
  fits = tt;
  knows = read_teaches c.args.pool.now c.read.new.pool c.read.ensures.same c.args.object c.read.result _ (sym (ap (λ r. read_reply c.args.object r) (c.in-Err-NoMemory.is ∙ ap Err c.in-Err-NoMemory.field-0-is))) c.read.ensures.read;
  step = λ x is.
      by_answer g.R.Rack g.A.Area (λ r. ReadDoes x c.args.object r) _ x c.read.new.pool c.read.result c.read.result refl
      (λ holds store w. (c.read.result, sym (ap (λ r. read_reply c.args.object r) (c.in-Err-NoMemory.is ∙ ap Err c.in-Err-NoMemory.field-0-is)), w)) (c.read.ensures.step x is);
}
