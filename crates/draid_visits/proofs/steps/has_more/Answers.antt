use Rattle.std.proofs.Common.{◌≤◌, ◌∙◌, ℕ, subst, sym}
use Rattle.std.specs.Prelude.{IsSomeAnd}
use Rattle.draid_machine.specs.Step.{IsTaken}
use Rattle.draid_shard.specs.Looks.{IsNextBlock, IsNextTaken}
use Rattle.draid_visits.specs.Steps.{IsRunningOf}
use Rattle.draid_visits.proofs.Over.{block_left, if_none_is, if_some_is, none_left, taken_left}
use Rattle.draid_visits.proofs.steps.has_more.Goals as goal

pub returns-in-Rebuild-clause-more : goal.returns-in-Rebuild-clause-more
returns-in-Rebuild-clause-more g c = λ is.
    (let pass = c.in-Some.pass in
    taken_left c.args.shard.now pass c.in-Some.is ((subst (λ o. IsSomeAnd o (IsRunningOf c.args.kind)) c.in-Some.is c.requires.running).kind_is ∙ c.in-Rebuild.is)
    (λ w at. if_some_is c.next_taken.result (IsNextTaken w.core pass.at) (sym c.is_some.ensures ∙ is) (c.next_taken.ensures.some w at)))

pub returns-in-Rebuild-clause-none : goal.returns-in-Rebuild-clause-none
returns-in-Rebuild-clause-none g c = λ is.
    none_left c.args.shard.now c.in-Some.pass c.in-Some.is
    (λ w at x from taken. if_none_is c.next_taken.result ((y : ℕ) → c.in-Some.pass.at ≤ y → IsTaken w.core y → ⊥) (sym c.is_some.ensures ∙ is) (c.next_taken.ensures.none w at) x from taken)

pub returns-in-Heal-clause-more : goal.returns-in-Heal-clause-more
returns-in-Heal-clause-more g c = λ is.
    (let pass = c.in-Some.pass in
    block_left c.args.shard.now pass c.in-Some.is ((subst (λ o. IsSomeAnd o (IsRunningOf c.args.kind)) c.in-Some.is c.requires.running).kind_is ∙ c.in-Heal.is)
    (λ w at. if_some_is c.next_block.result (IsNextBlock w.core pass.at pass.max) (sym c.is_some-in-Heal.ensures ∙ is) (c.next_block.ensures.some w at)))
