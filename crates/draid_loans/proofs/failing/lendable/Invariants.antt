use Rattle.draid_machine.specs.declared.names.Held.{Held}
use Rattle.draid_loans.specs.Lending.{MayLend}
use Rattle.draid_passes.proofs.Walks.{Walked}
use Rattle.draid_world.specs.World.{core_of, pass_of, site_layout}
use Rattle.draid_loans.proofs.failing.lendable.Given as goal

abbrev pub invariant-loop-key : goal.invariant-loop-key
invariant-loop-key l =
    Walked (λ (h : Held). MayLend (site_layout l.site) (core_of l.tables) (pass_of l.pass) l.stripe l.failed h → ⊥) l.tables.held.entries l.key-iterator
