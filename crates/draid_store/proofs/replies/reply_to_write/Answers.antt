use Rattle.std.proofs.Common.{◌∙◌, Ok, Err, ap, refl}
use Rattle.std.specs.Fn.{FnReturnsAt}
use Rattle.draid_script.specs.Line.{WriteObject}
use Rattle.draid_store.specs.Answers.{WriteDoes}
use Rattle.draid_pool.proofs.Steps.{by_answer}
use Rattle.draid_store.proofs.Teaching.{refused_same, write_teaches}
use Rattle.draid_pool.proofs.Taught.{teaches_nothing}
use Rattle.draid_store.proofs.replies.reply_to_write.Goals as goal

pub returns-in-Ok : goal.returns-in-Ok
returns-in-Ok g c = record {
  whole = c.write.ensures.whole;
  fits = refl;
  knows = write_teaches c.args.pool.now c.write.new.pool c.args.object c.args.bytes.now c.write.result c.in-Ok.is c.write.ensures.writes;
  step = λ x is.
      by_answer g.R.Rack g.A.Area (λ r. WriteDoes x (FnReturnsAt g.F.Fn c.args.chooser.now) c.args.object c.args.bytes.now r) _ x c.write.new.pool c.write.result (Ok tt) c.in-Ok.is (λ holds store w. (refl, w)) (c.write.ensures.step x is);
}

pub returns-in-Err-NoSpace : goal.returns-in-Err-NoSpace
returns-in-Err-NoSpace g c = record {
  whole = c.write.ensures.whole;
  fits = refl;
  knows = teaches_nothing (WriteObject c.args.object c.args.bytes.now) _ (λ known. refl) c.args.pool.now c.write.new.pool (refused_same c.args.pool.now c.write.new.pool c.args.object c.args.bytes.now c.write.result _ (c.in-Err-NoSpace.is ∙ ap Err c.in-Err-NoSpace.field-0-is) c.write.ensures.writes);
  step = λ x is.
      by_answer g.R.Rack g.A.Area (λ r. WriteDoes x (FnReturnsAt g.F.Fn c.args.chooser.now) c.args.object c.args.bytes.now r) _ x c.write.new.pool c.write.result _ (c.in-Err-NoSpace.is ∙ ap Err c.in-Err-NoSpace.field-0-is) (λ holds store w. (refl, w)) (c.write.ensures.step x is);
}

pub returns-in-Err-Missed : goal.returns-in-Err-Missed
returns-in-Err-Missed g c = record {
  whole = c.write.ensures.whole;
  fits = refl;
  knows = teaches_nothing (WriteObject c.args.object c.args.bytes.now) _ (λ known. refl) c.args.pool.now c.write.new.pool (refused_same c.args.pool.now c.write.new.pool c.args.object c.args.bytes.now c.write.result _ (c.in-Err-Missed.is ∙ ap Err c.in-Err-Missed.field-0-is) c.write.ensures.writes);
  step = λ x is.
      by_answer g.R.Rack g.A.Area (λ r. WriteDoes x (FnReturnsAt g.F.Fn c.args.chooser.now) c.args.object c.args.bytes.now r) _ x c.write.new.pool c.write.result _ (c.in-Err-Missed.is ∙ ap Err c.in-Err-Missed.field-0-is) (λ holds store w. (refl, w)) (c.write.ensures.step x is);
}

pub returns-in-Err-Last : goal.returns-in-Err-Last
returns-in-Err-Last g c = record {
  whole = c.write.ensures.whole;
  fits = refl;
  knows = teaches_nothing (WriteObject c.args.object c.args.bytes.now) _ (λ known. refl) c.args.pool.now c.write.new.pool (refused_same c.args.pool.now c.write.new.pool c.args.object c.args.bytes.now c.write.result _ (c.in-Err-Last.is ∙ ap Err c.in-Err-Last.field-0-is) c.write.ensures.writes);
  step = λ x is.
      by_answer g.R.Rack g.A.Area (λ r. WriteDoes x (FnReturnsAt g.F.Fn c.args.chooser.now) c.args.object c.args.bytes.now r) _ x c.write.new.pool c.write.result _ (c.in-Err-Last.is ∙ ap Err c.in-Err-Last.field-0-is) (λ holds store w. (refl, w)) (c.write.ensures.step x is);
}

pub returns-in-Err-NoMemory : goal.returns-in-Err-NoMemory
returns-in-Err-NoMemory g c = record {
  whole = c.write.ensures.whole;
  fits = tt;
  knows = teaches_nothing (WriteObject c.args.object c.args.bytes.now) _ (λ known. refl) c.args.pool.now c.write.new.pool (refused_same c.args.pool.now c.write.new.pool c.args.object c.args.bytes.now c.write.result _ (c.in-Err-NoMemory.is ∙ ap Err c.in-Err-NoMemory.field-0-is) c.write.ensures.writes);
  step = λ x is.
      by_answer g.R.Rack g.A.Area (λ r. WriteDoes x (FnReturnsAt g.F.Fn c.args.chooser.now) c.args.object c.args.bytes.now r) _ x c.write.new.pool c.write.result _ (c.in-Err-NoMemory.is ∙ ap Err c.in-Err-NoMemory.field-0-is) (λ holds store w. w) (c.write.ensures.step x is);
}
