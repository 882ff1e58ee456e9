use Rattle.std.proofs.Common.{sym}
use Rattle.draid_section.proofs.TeachLaw.{section_taught}
use Rattle.draid_section.proofs.laws.lanes_teach_together.Goals as goal

pub returns : goal.returns
returns g c pool lists jobs new done known w al many may keeps d teach knows =
    section_taught g.R.Rack g.A.Area g.J.LaneJob.needs g.J.LaneJob.relates pool w lists al jobs may keeps d.locks d.firsts d.locked d.groups d.alone d.owns d.dealt new.uber new.metaslabs.shards.items d.owns' done d.ran
    (sym many) g.J.Says.learns teach new d.takes known knows
