use Rattle.draid_session.specs.Session.{IsAnything}
use Rattle.draid_marked.proofs.Running.{runs_on}
use Rattle.draid_marked.proofs.laws.marked_sections_keep_the_book.Goals as goal

pub returns : goal.returns
returns g c lines replies to old new m keeps runs =
    let all = runs_on (g.D.Decides.choices c.args.decider.now) IsAnything lines replies to old new m keeps runs in
    (all.later, all.answers, all.keeps)
