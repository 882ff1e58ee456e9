use Rattle.draid_segments.proofs.Whole.{event_backed, event_moments, event_steady}
use Rattle.draid_segments.proofs.laws.events_keep_segments.Goals as goal

pub returns-clause-backed : goal.returns-clause-backed
returns-clause-backed c = λ l w new e pieces written x y step lay reached acts same b. event_backed l lay w reached written x y pieces b e new step acts same

pub returns-clause-steady : goal.returns-clause-steady
returns-clause-steady c = λ l w new e written x y img step lay reached acts is. event_steady l lay w reached written x y e new step img acts is

pub returns-clause-moments : goal.returns-clause-moments
returns-clause-moments c = λ l w new e pieces written x y img step lay reached acts same b is orderly. event_moments l lay w reached written x y pieces b e new step img acts same is orderly
