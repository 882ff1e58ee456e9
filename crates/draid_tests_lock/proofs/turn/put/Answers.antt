use Rattle.draid_tests_lock.specs.declared.log.Log.{Log}
use Rattle.draid_tests_lock.specs.declared.log.Put.{Put}
use Rattle.draid_tests_lock.proofs.Moves.{may_put}
use Rattle.draid_tests_lock.proofs.turn.put.Goals as goal

pub call-requires : goal.call-requires
call-requires g c = may_put (λ (l : Log). l.entries.items) (λ (p : Put). p.entry) (λ (p : Put). p.is_in) _ _ _ c.requires
