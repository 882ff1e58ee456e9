use Rattle.std.proofs.Common.{◌∙◌, ap, sym, option_map}
use Rattle.draid_world.specs.World.{pass_of}
use Rattle.draid_arms.proofs.changes.replan.Goals as goal

pub plan_rebuild-requires-clause-last : goal.plan_rebuild-requires-clause-last
plan_rebuild-requires-clause-last c = (c.requires.rebuild (pass_of c.in-Some.pass) (ap (option_map pass_of) (sym c.take.ensures.value ∙ c.in-Some.is)) c.in-Rebuild.is).0

pub plan_rebuild-requires-clause-open_group : goal.plan_rebuild-requires-clause-open_group
plan_rebuild-requires-clause-open_group c = (c.requires.rebuild (pass_of c.in-Some.pass) (ap (option_map pass_of) (sym c.take.ensures.value ∙ c.in-Some.is)) c.in-Rebuild.is).1

pub plan_rebuild-requires-clause-target : goal.plan_rebuild-requires-clause-target
plan_rebuild-requires-clause-target c = (c.requires.rebuild (pass_of c.in-Some.pass) (ap (option_map pass_of) (sym c.take.ensures.value ∙ c.in-Some.is)) c.in-Rebuild.is).2
