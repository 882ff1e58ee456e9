use Rattle.std.proofs.Common.{◌≡◌, None}
use Rattle.draid_session.specs.Book.{blank}
use Rattle.draid_session.specs.Marked.{unmarked}
use Rattle.draid_session.specs.Session.{Bare}
use Rattle.draid_marked.proofs.Turning.{blank_marked}
use Rattle.draid_run.proofs.Booked.{bare_tells}
use Rattle.draid_run.proofs.BookedMarked.{bare_keeps_marked, runs_keep_marked}
use Rattle.draid_run.proofs.Serving.{as_found}
use Rattle.draid_run.proofs.books.runs_keep_the_marked_book.Goals as goal

pub returns-clause-one : goal.returns-clause-one
returns-clause-one g c words status input old new entry now is bare =
    bare_keeps_marked g.R.Rack g.A.Area (g.D.Decides.choices c.args.decider.now) words status input old new entry now is bare

pub returns-clause-several : goal.returns-clause-several
returns-clause-several g c runs shelf are bare =
    runs_keep_marked g.R.Rack g.A.Area (g.D.Decides.choices c.args.decider.now) runs shelf Bare (unmarked blank) are ((as_found shelf).0, bare)
    (bare_tells shelf.held (λ held. held.uber ≡ None) bare) blank_marked

pub returns-clause-goes_on : goal.returns-clause-goes_on
returns-clause-goes_on g c runs shelf desk m are holds tells keeps =
    runs_keep_marked g.R.Rack g.A.Area (g.D.Decides.choices c.args.decider.now) runs shelf desk m are holds tells keeps
