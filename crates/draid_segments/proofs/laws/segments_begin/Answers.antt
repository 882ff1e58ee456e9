use Rattle.draid_segments.proofs.Beginning.{created_backed, known_backed, leaf_backed, leaf_steady, pieces_backed}
use Rattle.draid_segments.proofs.Leaving.{open_backed}
use Rattle.draid_segments.proofs.laws.segments_begin.Goals as goal

pub returns-clause-created : goal.returns-clause-created
returns-clause-created c = created_backed

pub returns-clause-opened : goal.returns-clause-opened
returns-clause-opened c = λ l w img doubtful pieces x y lay reached is d f. open_backed l lay w img doubtful reached is x y d pieces f

pub returns-clause-leaf : goal.returns-clause-leaf
returns-clause-leaf c = λ l w leaf pieces x y lay reached none d b. leaf_backed l lay w reached leaf none x y d pieces b

pub returns-clause-leaf_steady : goal.returns-clause-leaf_steady
returns-clause-leaf_steady c = λ l w leaf img x y lay reached none is d. leaf_steady l lay w reached leaf none x y d img w.aside is

pub returns-clause-pieces : goal.returns-clause-pieces
returns-clause-pieces c = λ l w pieces other x lay reached same b. pieces_backed l lay w reached pieces other x same b

pub returns-clause-known : goal.returns-clause-known
returns-clause-known c = known_backed
