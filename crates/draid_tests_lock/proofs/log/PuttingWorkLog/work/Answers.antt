use Rattle.std.proofs.Common.{◌∙◌}
use Rattle.draid_holds.proofs.Holds.{did_hold}
use Rattle.draid_tests_lock.specs.declared.log.Log.{Log}
use Rattle.draid_tests_lock.specs.declared.log.Put.{Put}
use Rattle.draid_tests_lock.proofs.Moves.{Grows, Puts, may_put, moved_more, no_number}
use Rattle.draid_tests_lock.proofs.log.PuttingWorkLog.work.Goals as goal

pub call-requires : goal.call-requires
call-requires g c = may_put (λ (l : Log). l.entries.items) (λ (p : Put). p.entry) (λ (p : Put). p.is_in) _ _ _ c.loop-i.invariant.0

pub loop-i-preserved : goal.loop-i-preserved
loop-i-preserved g c =
    let hold = did_hold (Grows (λ (l : Log). l.entries.items) (λ (p : Put). p.entry) (λ (p : Put). p.is_in)) (Puts (λ (l : Log). l.entries.items) (λ (p : Put). p.entry) (λ (p : Put). p.is_in)) no_number _ _ _ _ _ c.call.ensures in
    (hold.table ∙ c.loop-i.invariant.0, moved_more c.args.pass.now c.loop-i.pass c.call.new.pass _ c.loop-i.invariant.1 hold)
