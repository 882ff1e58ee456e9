use Rattle.std.proofs.Common.{◌∙◌, sym}
use Rattle.std.proofs.lemmas.Bool.{true≢false}
use Rattle.draid_passing.proofs.Planned.{lacks_shown}
use Rattle.draid_passing.proofs.planning.lacks_target.Goals as goal
use Rattle.draid_passing.proofs.planning.lacks_target.Goals.{in-Rebuild, in_default}

pub returns-then-matches : goal.returns-then-matches
returns-then-matches c = elim c.match-matches.branch [
  | in-Rebuild w ↦ lacks_shown c.args.slots.now c.args.marks.now c.args.kind c.has_target.result w.in-Rebuild.is c.has_target.ensures.targets
  | in_default w ↦ absurd (true≢false (sym c.if-matches.true ∙ w.matches-is))
]
