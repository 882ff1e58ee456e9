use Rattle.std.proofs.Common.{◌∙◌, Err, ap, refl, sym}
use Rattle.draid_script.specs.Line.{DamageSector}
use Rattle.draid_store.specs.Answers.{DamageDoes}
use Rattle.draid_store.specs.Says.{damage_reply}
use Rattle.draid_pool.proofs.Steps.{by_answer}
use Rattle.draid_pool.proofs.Taught.{teaches_nothing}
use Rattle.draid_store.proofs.replies.reply_to_damage.Goals as goal

pub returns-in-Ok : goal.returns-in-Ok
returns-in-Ok g c = record {
  whole = c.damage.ensures.whole;
  fits = (refl, refl);
  knows = teaches_nothing (DamageSector c.args.leaf c.args.sector) _ (λ known. refl) c.args.pool.now c.damage.new.pool c.damage.ensures.same;
  step = λ x is.
      by_answer g.R.Rack g.A.Area (λ r. DamageDoes x c.args.leaf c.args.sector r) _ x c.damage.new.pool c.damage.result c.damage.result refl
      (λ holds store w. (c.damage.result, sym (ap (λ r. damage_reply c.args.leaf c.args.sector r) c.in-Ok.is), w)) (c.damage.ensures.step x is);
}

pub returns-in-Err-NoSuch : goal.returns-in-Err-NoSuch
returns-in-Err-NoSuch g c = record {
  whole = c.damage.ensures.whole;
  fits = (refl, refl);
  knows = teaches_nothing (DamageSector c.args.leaf c.args.sector) _ (λ known. refl) c.args.pool.now c.damage.new.pool c.damage.ensures.same;
  step = λ x is.
      by_answer g.R.Rack g.A.Area (λ r. DamageDoes x c.args.leaf c.args.sector r) _ x c.damage.new.pool c.damage.result c.damage.result refl
      (λ holds store w. (c.damage.result, sym (ap (λ r. damage_reply c.args.leaf c.args.sector r) (c.in-Err-NoSuch.is ∙ ap Err c.in-Err-NoSuch.field-0-is)), w)) (c.damage.ensures.step x is);
}

pub returns-in-Err-Worn : goal.returns-in-Err-Worn
returns-in-Err-Worn g c = record {
  whole = c.damage.ensures.whole;
  fits = (refl, refl);
  knows = teaches_nothing (DamageSector c.args.leaf c.args.sector) _ (λ known. refl) c.args.pool.now c.damage.new.pool c.damage.ensures.same;
  step = λ x is.
      by_answer g.R.Rack g.A.Area (λ r. DamageDoes x c.args.leaf c.args.sector r) _ x c.damage.new.pool c.damage.result c.damage.result refl
      (λ holds store w. (c.damage.result, sym (ap (λ r. damage_reply c.args.leaf c.args.sector r) (c.in-Err-Worn.is ∙ ap Err c.in-Err-Worn.field-0-is)), w)) (c.damage.ensures.step x is);
}

pub returns-in-Err-Failed : goal.returns-in-Err-Failed
returns-in-Err-Failed g c = record {
  whole = c.damage.ensures.whole;
  fits = (refl, refl);
  knows = teaches_nothing (DamageSector c.args.leaf c.args.sector) _ (λ known. refl) c.args.pool.now c.damage.new.pool c.damage.ensures.same;
  step = λ x is.
      by_answer g.R.Rack g.A.Area (λ r. DamageDoes x c.args.leaf c.args.sector r) _ x c.damage.new.pool c.damage.result c.damage.result refl
      (λ holds store w. (c.damage.result, sym (ap (λ r. damage_reply c.args.leaf c.args.sector r) (c.in-Err-Failed.is ∙ ap Err c.in-Err-Failed.field-0-is)), w)) (c.damage.ensures.step x is);
}

pub returns-in-Err-NoMemory : goal.returns-in-Err-NoMemory
returns-in-Err-NoMemory g c = record {
  whole = c.damage.ensures.whole;
  fits = tt;
  knows = teaches_nothing (DamageSector c.args.leaf c.args.sector) _ (λ known. refl) c.args.pool.now c.damage.new.pool c.damage.ensures.same;
  step = λ x is.
      by_answer g.R.Rack g.A.Area (λ r. DamageDoes x c.args.leaf c.args.sector r) _ x c.damage.new.pool c.damage.result c.damage.result refl
      (λ holds store w. (c.damage.result, sym (ap (λ r. damage_reply c.args.leaf c.args.sector r) (c.in-Err-NoMemory.is ∙ ap Err c.in-Err-NoMemory.field-0-is)), w)) (c.damage.ensures.step x is);
}
