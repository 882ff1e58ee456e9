use Rattle.std.proofs.Common.{◌<◌, ◌≤◌, refl, subst}
use Rattle.draid_names.specs.Numbers.{most_held}
use Rattle.draid_machine.proofs.Small.{is_below}
use Rattle.draid_steps.proofs.Runs.{not_below}
use Rattle.draid_world.specs.World.{core_of}
use Rattle.draid_steps.proofs.Entries.{few_keys, not_few}
use Rattle.draid_steps.proofs.tickets.has_room.Goals as goal

pub returns-clause-yes : goal.returns-clause-yes
returns-clause-yes c = λ e. few_keys (core_of c.args.tables.now) c.args.tables.now.held.entries (most_held c.args.version) refl
    (subst (λ n. n < most_held c.args.version) c.len.ensures.len (subst (λ m. c.len.result < m) c.most_held.ensures (is_below c.len.result c.most_held.result e)))

pub returns-clause-no : goal.returns-clause-no
returns-clause-no c = λ e. not_few (core_of c.args.tables.now) c.args.tables.now.held.entries (most_held c.args.version) refl c.len.ensures.ordered
    (subst (λ n. most_held c.args.version ≤ n) c.len.ensures.len (subst (λ m. m ≤ c.len.result) c.most_held.ensures (not_below c.len.result c.most_held.result e)))
