use Rattle.draid_session.specs.Book.{blank}
use Rattle.draid_session.specs.Marked.{unmarked}
use Rattle.draid_session.specs.Session.{Bare, IsAnything, sits}
use Rattle.draid_marked.proofs.Turning.{blank_marked, run_turns}
use Rattle.draid_marked.proofs.laws.sessions_keep_the_marked_book.Goals as goal

pub returns-clause-from_blank : goal.returns-clause-from_blank
returns-clause-from_blank g c lines replies journal last runs =
    let all = run_turns (g.D.Decides.choices c.args.decider.now) IsAnything lines replies (sits Bare journal) last (unmarked blank) blank_marked runs in
    (all.later, all.answers)

pub returns-clause-goes_on : goal.returns-clause-goes_on
returns-clause-goes_on g c lines replies old new m keeps runs =
    let all = run_turns (g.D.Decides.choices c.args.decider.now) IsAnything lines replies old new m keeps runs in
    (all.later, all.answers, all.keeps)
