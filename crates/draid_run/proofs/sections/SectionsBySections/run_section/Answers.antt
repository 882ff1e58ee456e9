use Rattle.draid_run.proofs.sections.SectionsBySections.run_section.Goals as goal

pub returns : goal.returns
returns g c = c.requires.ready.meets c.args.pool c.run.result.0 c.args.lanes c.run.result.1 c.requires.whole c.requires.lanes c.requires.point c.run.ensures
