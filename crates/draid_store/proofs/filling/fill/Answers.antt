use Rattle.std.proofs.Common.{◌∙◌, ◌+◌, arith, ap, length, refl}
use Rattle.std.specs.Fn.{FnReturnsAt}
use Rattle.draid_names.specs.declared.refusal.WriteFault.TheVariants as fault
use Rattle.draid_session.specs.Making.{content_of}
use Rattle.draid_store.proofs.Filled.{fill_stopped, fill_unbegun, filled_all, filled_more, filled_none, whole}
use Rattle.draid_store.proofs.Teaching.{fill_stopped_teaches, fill_teaches, fills_more, fills_none, refused_same}
use Rattle.draid_store.proofs.filling.fill.Goals as goal

pub returns-in_default : goal.returns-in_default
returns-in_default g c = record {
  whole = c.requires.whole;
  fits = (refl, (let some = c.requires.range.0.0 in omega (arith, some)));
  knows = fill_stopped_teaches c.args.first c.args.len c.args.seed c.args.pool.now c.args.pool.now c.args.pool.now 0 c.args.count fault.NoMemory (λ o. refl) (fills_none c.args.first c.args.len c.args.seed c.args.pool.now);
  step = λ x rep. fill_unbegun g.R.Rack g.A.Area (FnReturnsAt g.F.Fn c.args.chooser.now) c.args.first c.args.len c.args.seed x c.args.pool.now c.args.count
      (let some = c.requires.range.0.0 in omega (arith, some)) rep;
}

pub loop-written-init : goal.loop-written-init
loop-written-init g c = record {
  long = (let long = c.in-Ok.ensures.len in let ok = c.in-Ok.bytes.ok in omega (arith, long, ok));
  whole = c.requires.whole;
  knows = fills_none c.args.first c.args.len c.args.seed c.args.pool.now;
  filled = λ x rep. filled_none g.R.Rack g.A.Area (FnReturnsAt g.F.Fn c.args.chooser.now) c.args.first c.args.len c.args.seed x c.args.pool.now rep;
}

pub returns-in-Err : goal.returns-in-Err
returns-in-Err g c =
    let old = ap length c.deref_mut.ensures.value in
    let kept = c.draw.ensures.len ∙ old in
    let ok = c.loop-written.bytes.ok in
    let long = c.loop-written.invariant.long in
    let all = whole c.loop-written.bytes.len c.draw.new.into c.loop-written.bytes.items kept (omega (arith, ok)) in
    let is = c.deref.ensures.value ∙ all ∙ c.draw.ensures.bytes ∙ ap (λ n. content_of c.args.seed (c.args.first + c.loop-written.written) n) (old ∙ long) in
    record {
      whole = c.write.ensures.whole;
      fits = (refl, c.loop-written-test.true);
      knows = fill_stopped_teaches c.args.first c.args.len c.args.seed c.args.pool.now c.loop-written.pool c.write.new.pool c.loop-written.written c.args.count c.in-Err.why
          (refused_same c.loop-written.pool c.write.new.pool (c.args.first + c.loop-written.written) c.deref.result.now c.write.result c.in-Err.why c.in-Err.is c.write.ensures.writes) c.loop-written.invariant.knows;
      step = λ x rep. (let m = c.loop-written.invariant.filled x rep in
          fill_stopped g.R.Rack g.A.Area (FnReturnsAt g.F.Fn c.args.chooser.now) c.args.first c.args.len c.args.seed x c.loop-written.pool c.write.new.pool
          c.loop-written.written c.deref.result.now c.write.result is m (c.write.ensures.step (record m.reached { store = m.store }) m.represents) c.args.count c.in-Err.why c.in-Err.is
          c.loop-written-test.true);
    }

pub loop-written-preserved : goal.loop-written-preserved
loop-written-preserved g c =
    let old = ap length c.deref_mut.ensures.value in
    let kept = c.draw.ensures.len ∙ old in
    let ok = c.loop-written.bytes.ok in
    let long = c.loop-written.invariant.long in
    let all = whole c.loop-written.bytes.len c.draw.new.into c.loop-written.bytes.items kept (omega (arith, ok)) in
    let is = c.deref.ensures.value ∙ all ∙ c.draw.ensures.bytes ∙ ap (λ n. content_of c.args.seed (c.args.first + c.loop-written.written) n) (old ∙ long) in
    record {
      long = ap length all ∙ kept ∙ long;
      whole = c.write.ensures.whole;
      knows = fills_more c.args.first c.args.len c.args.seed c.args.pool.now c.loop-written.pool c.write.new.pool c.loop-written.written c.deref.result.now c.write.result is c.in_default-write.is c.write.ensures.writes c.loop-written.invariant.knows;
      filled = λ x rep. (let m = c.loop-written.invariant.filled x rep in
          filled_more g.R.Rack g.A.Area (FnReturnsAt g.F.Fn c.args.chooser.now) c.args.first c.args.len c.args.seed x c.loop-written.pool c.write.new.pool
          c.loop-written.written c.deref.result.now c.write.result is m (c.write.ensures.step (record m.reached { store = m.store }) m.represents) c.in_default-write.is);
    }

pub returns : goal.returns
returns g c =
    let ends = c.loop-written-test.false in
    let upto = c.loop-written.auto.written-end in
    record {
      whole = c.loop-written.invariant.whole;
      fits = (refl, refl);
      knows = fill_teaches c.args.first c.args.len c.args.seed c.args.pool.now c.loop-written.pool c.loop-written.written c.args.count (omega (arith, ends, upto)) c.loop-written.invariant.knows;
      step = λ x rep. filled_all g.R.Rack g.A.Area (FnReturnsAt g.F.Fn c.args.chooser.now) c.args.first c.args.len c.args.seed x c.loop-written.pool
          c.loop-written.written c.args.count (omega (arith, ends, upto)) (c.loop-written.invariant.filled x rep);
    }
