use Rattle.draid_segments.proofs.Apart.{claimed_alone, heal_place, lies_alone, mend_place, mend_unclaimed, put_absent, put_place, put_unclaimed}
use Rattle.draid_segments.proofs.laws.writes_lie_apart.Goals as goal

pub returns-clause-put : goal.returns-clause-put
returns-clause-put c = λ l w new key landed failed s step lay reached e.
    let z = put_place l w.core key step.h step.c step.found s e in
    (lies_alone l lay w reached step.h s z.0 z.1, put_absent l lay w new reached key landed failed step s e)

pub returns-clause-put_unclaimed : goal.returns-clause-put_unclaimed
returns-clause-put_unclaimed c = λ l w new key landed failed s img step lay reached e is. put_unclaimed l lay w new reached key landed failed step img s is e

pub returns-clause-mended : goal.returns-clause-mended
returns-clause-mended c = λ l w new pass serial failed s step lay reached e.
    let z = mend_place l lay w new reached pass serial failed step s e in lies_alone l lay w reached step.h s z.0 z.1

pub returns-clause-mended_unclaimed : goal.returns-clause-mended_unclaimed
returns-clause-mended_unclaimed c = λ l w new pass serial failed s img step lay reached e is. mend_unclaimed l lay w new reached pass serial failed step img is s e

pub returns-clause-patched : goal.returns-clause-patched
returns-clause-patched c = λ l w new pass serial failed patched unreadable s step lay reached e.
    let z = heal_place l w new pass serial failed patched unreadable step s e in lies_alone l lay w reached step.h s z.0 z.1

pub returns-clause-patched_claimed : goal.returns-clause-patched_claimed
returns-clause-patched_claimed c = λ l w new pass serial failed patched unreadable s img step lay reached e is.
    let z = heal_place l w new pass serial failed patched unreadable step s e in claimed_alone l lay w reached img is step.h s z.0 z.1
