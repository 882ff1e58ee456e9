use Rattle.std.proofs.Common.{arith}
use Rattle.std.proofs.lemmas.Option.{slice_get_within}
use Rattle.draid_found.proofs.Together.{is_so, not_so}
use Rattle.draid_found.proofs.alike.have_same_arms.Goals as goal

pub returns-then-one-other : goal.returns-then-one-other
returns-then-one-other c = not_so (λ same. c.if-one-other.true same.many)

pub loop-place-init : goal.loop-place-init
loop-place-init c = record { same = λ k p q less. absurd (omega (arith, less)); bound = omega arith }

pub returns : goal.returns
returns c = is_so (record {
  many = c.if-one-other.false;
  each = λ k p q at there.
      (let within = slice_get_within c.args.one.now k p at in
      let end = c.loop-place-test.false in
      c.loop-place.invariant.same k p q (omega (arith, within, end)) at there);
})
