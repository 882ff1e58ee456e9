use Rattle.std.proofs.Common.{◌∙◌}
use Rattle.draid_run.proofs.Told.{book_of, shut_keeps}
use Rattle.draid_run.proofs.origins.known_pools_have_a_book.Goals as goal

pub returns : goal.returns
returns c shelf crash x tells holds = (book_of x, shut_keeps x crash shelf.held (holds.told ∙ tells) tells holds.held)
