use Rattle.std.proofs.Common.{◌∙◌, ◌≤◌, sym, ap, subst, arith}
use Rattle.std.proofs.lemmas.List.{at_drop_all}
use Rattle.draid_spec.specs.Text.{IsReading, arguments}
use Rattle.draid_spec.proofs.Readings.{ends_whole, ends_within, next_read, opened_is, place_fits}
use Rattle.draid_spec.proofs.text.read_arguments.Goals as goal

pub loop-byte-init : goal.loop-byte-init
loop-byte-init c = record {
  rest = ap (λ reading. arguments reading c.args.from c.args.text.now) c.open-reading.ensures;
  reading = subst (λ reading. IsReading reading c.args.from) (sym c.open-reading.ensures) (opened_is c.args.parity c.args.from c.requires.some c.requires.most c.requires.from);
}

pub overflow_add-at : goal.overflow_add-at
overflow_add-at c =
    let low : c.loop-byte.at ≤ 49 = place_fits c.loop-byte.reading c.loop-byte.at c.loop-byte.invariant.reading in
    omega (arith, low)

pub loop-byte-preserved : goal.loop-byte-preserved
loop-byte-preserved c = record {
  rest = next_read c.loop-byte.reading c.in_ok-reading.reading c.loop-byte.at c.loop-byte.byte-index c.args.text.now c.loop-byte-test.true
      c.in_ok-reading.ensures.exact ∙ c.loop-byte.invariant.rest;
  reading = c.in_ok-reading.ensures.keeps;
}

pub returns-in-None-clause-exact : goal.returns-in-None-clause-exact
returns-in-None-clause-exact c =
    let reading = c.loop-byte.reading in
    sym (ends_whole reading c.loop-byte.at c.in-None.is)
    ∙ sym (at_drop_all (arguments reading c.loop-byte.at) c.args.text.now c.loop-byte.byte-index c.loop-byte-test.false) ∙ c.loop-byte.invariant.rest

pub returns-in-Some-clause-exact : goal.returns-in-Some-clause-exact
returns-in-Some-clause-exact c =
    let reading = c.loop-byte.reading in
    sym (ends_within reading c.loop-byte.at c.in-Some.field-0 c.in-Some.is)
    ∙ sym (at_drop_all (arguments reading c.loop-byte.at) c.args.text.now c.loop-byte.byte-index c.loop-byte-test.false) ∙ c.loop-byte.invariant.rest
