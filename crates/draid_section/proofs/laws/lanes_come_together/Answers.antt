use Rattle.std.proofs.Common.{refl, sym}
use Rattle.draid_section.proofs.SectionLaw.{section_stood}
use Rattle.draid_section.proofs.laws.lanes_come_together.Goals as goal

pub returns : goal.returns
returns g c pool lists jobs new done x w al many may keeps d wq r tells =
    section_stood g.R.Rack g.A.Area g.J.LaneJob.needs g.J.LaneJob.relates pool w lists al jobs may keeps d.locks d.firsts d.locked d.groups d.alone d.owns d.dealt new.uber new.metaslabs.shards.items d.owns' done d.ran x r
    (λ job end. g.J.Says.says job end x) g.J.Says.rests tells (sym many) new d.geometry refl refl d.takes wq
