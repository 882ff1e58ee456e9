use Rattle.std.proofs.Common.{◌∙◌, ◌+◌, ℕ, Bool, true, arith, ap, length, refl}
use Rattle.std.specs.Fn.{FnReturnsAt}
use Rattle.draid_names.specs.declared.refusal.WriteFault.TheVariants as fault
use Rattle.draid_session.specs.Making.{content_of}
use Rattle.draid_store.proofs.Filled.{whole}
use Rattle.draid_lanes.specs.Lanes.{table_of}
use Rattle.draid_lanes.specs.Locks.{owned_by}
use Rattle.draid_lanes.specs.Waits.{LaneWent}
use Rattle.draid_works.specs.Lanes.{LaneKnows}
use Rattle.draid_works.proofs.FilledIn.{KnowsThen, fill_unbegun, fills_all, fills_none, lane_fill_stopped, lane_fills_more, same_lane, same_then}
use Rattle.draid_works.proofs.BesideTable.{own_all, own_more, own_none, own_stopped, own_unbegun}
use Rattle.draid_works.proofs.filling.fill_in_lane.Goals as goal

pub returns-in_default : goal.returns-in_default
returns-in_default g c = record {
  whole = c.requires.whole;
  same = same_lane c.args.lane.now;
  pass = refl;
  fits = (refl, (let some = c.requires.range.0.0 in omega (arith, some)));
  teaches = own_unbegun (owned_by c.args.lane.now.metaslabs.passes.items) c.args.first c.args.len c.args.seed (table_of c.args.lane.now) c.args.count fault.NoMemory;
  step = λ x layout none knows. fill_unbegun g.R.Rack g.A.Area (LaneWent g.R.Rack g.A.Area) true (FnReturnsAt g.F.Fn c.args.chooser.now) c.args.first c.args.len c.args.seed x c.args.lane.now.metaslabs (LaneKnows g.R.Rack g.A.Area c.args.lane.now) c.args.count
      (let some = c.requires.range.0.0 in omega (arith, some)) knows;
}

pub loop-written-init : goal.loop-written-init
loop-written-init g c = record {
  long = (let long = c.in-Ok.ensures.len in let ok = c.in-Ok.bytes.ok in omega (arith, long, ok));
  whole = c.requires.whole;
  same = same_lane c.args.lane.now;
  pass = refl;
  table = own_none (owned_by c.args.lane.now.metaslabs.passes.items) c.args.first c.args.len c.args.seed (table_of c.args.lane.now);
  filled = λ x layout none knows. fills_none g.R.Rack g.A.Area (LaneWent g.R.Rack g.A.Area) true (FnReturnsAt g.F.Fn c.args.chooser.now) c.args.first c.args.len c.args.seed x c.args.lane.now.metaslabs (LaneKnows g.R.Rack g.A.Area c.args.lane.now) knows;
}

pub write_in_lane-requires-clause-own : goal.write_in_lane-requires-clause-own
write_in_lane-requires-clause-own g c =
    let object = c.args.first + c.loop-written.written in
    let below = c.loop-written-test.true in
    ap (λ (owns : ℕ → Bool). owns object) c.loop-written.invariant.same.owns ∙ c.requires.own object (omega arith) (omega (arith, below))

pub returns-in-Err : goal.returns-in-Err
returns-in-Err g c =
    let old = ap length c.deref_mut.ensures.value in
    let kept = c.draw.ensures.len ∙ old in
    let ok = c.loop-written.bytes.ok in
    let long = c.loop-written.invariant.long in
    let all = whole c.loop-written.bytes.len c.draw.new.into c.loop-written.bytes.items kept (omega (arith, ok)) in
    let is = c.deref.ensures.value ∙ all ∙ c.draw.ensures.bytes ∙ ap (λ n. content_of c.args.seed (c.args.first + c.loop-written.written) n) (old ∙ long) in
    record {
      whole = c.write_in_lane.ensures.whole;
      same = same_then c.args.lane.now c.loop-written.lane c.write_in_lane.new.lane c.loop-written.invariant.same c.write_in_lane.ensures.same;
      pass = c.write_in_lane.ensures.pass ∙ c.loop-written.invariant.pass;
      fits = (refl, c.loop-written-test.true);
      teaches = own_stopped (owned_by c.args.lane.now.metaslabs.passes.items) c.args.first c.args.len c.args.seed (table_of c.args.lane.now) (table_of c.loop-written.lane) (table_of c.write_in_lane.new.lane) c.loop-written.written c.args.count c.in-Err.why (c.args.first + c.loop-written.written) c.deref.result.now
          c.write_in_lane.result (let below = c.loop-written-test.true in c.requires.own (c.args.first + c.loop-written.written) (omega arith) (omega (arith, below))) c.in-Err.is c.write_in_lane.ensures.sets c.loop-written.invariant.table;
      step = λ x layout none knows. lane_fill_stopped g.R.Rack g.A.Area c.args.lane.now c.loop-written.lane c.write_in_lane.new.lane c.loop-written.invariant.same (FnReturnsAt g.F.Fn c.args.chooser.now) c.args.first c.args.len c.args.seed
          c.loop-written.written c.deref.result.now c.write_in_lane.result is c.write_in_lane.ensures.step x layout none (c.loop-written.invariant.filled x layout none knows) c.args.count c.in-Err.why c.in-Err.is
          c.loop-written-test.true;
    }

pub loop-written-preserved : goal.loop-written-preserved
loop-written-preserved g c =
    let old = ap length c.deref_mut.ensures.value in
    let kept = c.draw.ensures.len ∙ old in
    let ok = c.loop-written.bytes.ok in
    let long = c.loop-written.invariant.long in
    let all = whole c.loop-written.bytes.len c.draw.new.into c.loop-written.bytes.items kept (omega (arith, ok)) in
    let is = c.deref.ensures.value ∙ all ∙ c.draw.ensures.bytes ∙ ap (λ n. content_of c.args.seed (c.args.first + c.loop-written.written) n) (old ∙ long) in
    record {
      long = ap length all ∙ kept ∙ long;
      whole = c.write_in_lane.ensures.whole;
      same = same_then c.args.lane.now c.loop-written.lane c.write_in_lane.new.lane c.loop-written.invariant.same c.write_in_lane.ensures.same;
      pass = c.write_in_lane.ensures.pass ∙ c.loop-written.invariant.pass;
      table = own_more (owned_by c.args.lane.now.metaslabs.passes.items) c.args.first c.args.len c.args.seed (table_of c.args.lane.now) (table_of c.loop-written.lane) (table_of c.write_in_lane.new.lane) c.loop-written.written c.deref.result.now c.write_in_lane.result (let below = c.loop-written-test.true in c.requires.own (c.args.first + c.loop-written.written) (omega arith) (omega (arith, below))) is c.in_default-write_in_lane.is
          c.write_in_lane.ensures.sets c.loop-written.invariant.table;
      filled = λ x layout none knows. lane_fills_more g.R.Rack g.A.Area c.args.lane.now c.loop-written.lane c.write_in_lane.new.lane c.loop-written.invariant.same (FnReturnsAt g.F.Fn c.args.chooser.now) c.args.first c.args.len c.args.seed
          c.loop-written.written c.deref.result.now c.write_in_lane.result is c.write_in_lane.ensures.step x layout none (c.loop-written.invariant.filled x layout none knows) c.in_default-write_in_lane.is;
    }

pub returns : goal.returns
returns g c =
    let ends = c.loop-written-test.false in
    let upto = c.loop-written.auto.written-end in
    record {
      whole = c.loop-written.invariant.whole;
      same = c.loop-written.invariant.same;
      pass = c.loop-written.invariant.pass;
      fits = (refl, refl);
      teaches = own_all (owned_by c.args.lane.now.metaslabs.passes.items) c.args.first c.args.len c.args.seed (table_of c.args.lane.now) (table_of c.loop-written.lane) c.loop-written.written c.args.count (omega (arith, ends, upto)) c.loop-written.invariant.table;
      step = λ x layout none knows. fills_all g.R.Rack g.A.Area (LaneWent g.R.Rack g.A.Area) true (FnReturnsAt g.F.Fn c.args.chooser.now) c.args.first c.args.len c.args.seed x c.args.lane.now.metaslabs c.loop-written.lane.metaslabs
          (KnowsThen g.R.Rack g.A.Area c.args.lane.now c.loop-written.lane) c.loop-written.written c.args.count (omega (arith, ends, upto)) (c.loop-written.invariant.filled x layout none knows);
    }
