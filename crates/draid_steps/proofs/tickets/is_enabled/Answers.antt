use Rattle.std.proofs.Common.{ap, option_map}
use Rattle.draid_world.specs.World.{pass_of}
use Rattle.draid_steps.proofs.Runs.{kinds_differ}
use Rattle.draid_steps.proofs.tickets.is_enabled.Goals as goal

pub returns-in-Rebuild-clause-no : goal.returns-in-Rebuild-clause-no
returns-in-Rebuild-clause-no c = λ e heal. kinds_differ c.in-Some.pass.kind c.in-Rebuild.is (heal (pass_of c.in-Some.pass) (ap (option_map pass_of) c.in-Some.is))
