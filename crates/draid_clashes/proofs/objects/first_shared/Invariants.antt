use Rattle.draid_clashes.proofs.Sharing.{Sweeps}
use Rattle.draid_clashes.proofs.objects.first_shared.Given as goal

abbrev pub invariant-loop-next : goal.invariant-loop-next
invariant-loop-next l = Sweeps l.named l.next-index l.far
