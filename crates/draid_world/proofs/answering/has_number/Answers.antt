use Rattle.std.proofs.Common.{◌∙◌, refl, sym}
use Rattle.std.proofs.lemmas.List.{at_drop_all}
use Rattle.draid_machine.specs.Names.{has_number}
use Rattle.draid_world.proofs.Walks.{number_found, number_on}
use Rattle.draid_world.proofs.answering.has_number.Goals as goal

pub loop-found-init : goal.loop-found-init
loop-found-init c = refl

pub returns-then-found-number : goal.returns-then-found-number
returns-then-found-number c = sym (c.loop-found.invariant ∙ number_found c.args.numbers.now c.args.number c.loop-found.found-index c.loop-found-test.true c.if-found-number.true)

pub loop-found-preserved : goal.loop-found-preserved
loop-found-preserved c = c.loop-found.invariant ∙ number_on c.args.numbers.now c.args.number c.loop-found.found-index c.loop-found-test.true c.if-found-number.false

pub returns : goal.returns
returns c = sym (c.loop-found.invariant ∙ at_drop_all (λ ns. has_number ns c.args.number) c.args.numbers.now c.loop-found.found-index c.loop-found-test.false)
