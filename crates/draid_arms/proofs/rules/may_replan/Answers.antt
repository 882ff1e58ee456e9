use Rattle.std.proofs.Common.{ap, option_map}
use Rattle.draid_world.specs.World.{pass_of}
use Rattle.draid_machine.proofs.Small.{absurd_test, below}
use Rattle.draid_arms.proofs.rules.may_replan.Goals as goal

pub returns-then-world-lt-LAST_NUMBER-clause-no : goal.returns-then-world-lt-LAST_NUMBER-clause-no
returns-then-world-lt-LAST_NUMBER-clause-no c = λ e may.
    let z = may (pass_of c.in-Some.pass) (ap (option_map pass_of) c.in-Some.is) c.in-Rebuild.is in
    absurd_test _ (below c.args.world.now.open_group 281474976710655 z.1) e

pub returns-else-world-lt-LAST_NUMBER-clause-no : goal.returns-else-world-lt-LAST_NUMBER-clause-no
returns-else-world-lt-LAST_NUMBER-clause-no c = λ e may.
    let z = may (pass_of c.in-Some.pass) (ap (option_map pass_of) c.in-Some.is) c.in-Rebuild.is in
    absurd_test _ (below c.args.world.now.tables.last 281474976710655 z.0) e
