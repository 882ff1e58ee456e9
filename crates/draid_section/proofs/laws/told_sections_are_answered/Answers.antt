use Rattle.draid_section.proofs.Answered.{section_is}
use Rattle.draid_section.proofs.laws.told_sections_are_answered.Goals as goal

pub returns : goal.returns
returns g c x commands replies jobs done new tells apart stood =
    section_is x (g.D.Decides.choices c.args.decider.now) (λ job end. g.J.Says.says job end x) commands replies g.R.Rack g.A.Area jobs done new tells apart stood
