use Rattle.std.proofs.Common.{sym}
use Rattle.draid_section.proofs.TeachLaw.{were_done}
use Rattle.draid_section.proofs.laws.jobs_were_done.Goals as goal

pub returns : goal.returns
returns g c pool lists jobs new done w al many may keeps d =
    were_done g.R.Rack g.A.Area g.J.LaneJob.needs g.J.LaneJob.relates pool w lists al jobs may keeps d.locks d.firsts d.locked d.groups d.alone d.owns d.dealt new.uber new.metaslabs.shards.items d.owns' done d.ran (sym many)
