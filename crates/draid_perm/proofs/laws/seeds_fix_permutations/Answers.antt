use Rattle.draid_perm.proofs.Same.{same_perms}
use Rattle.draid_perm.proofs.laws.seeds_fix_permutations.Goals as goal

pub returns : goal.returns
returns c = same_perms
