use Rattle.std.proofs.Common.{◌≡◌, ◌&&◌, drop, Bool, ℕ}
use Rattle.std.specs.List.{list_any, list_all}
use Rattle.draid_machine.specs.Arms as arms
use Rattle.draid_world.specs.World.{core_of, site_layout}
use Rattle.draid_steps.proofs.columns.are_used.Given as goal

abbrev pub invariant-loop-leaf : goal.invariant-loop-leaf
invariant-loop-leaf l =
    let test : ℕ → Bool = λ leaf. list_any (λ n. arms.lies (site_layout l.site) (core_of l.tables).order n l.stripe leaf) l.names && arms.leaf_answers (core_of l.tables) leaf in
    list_all test l.leaves ≡ list_all test (drop l.leaf-index l.leaves)
