use Rattle.std.proofs.Common.{◌≡◌, subst, sym}
use Rattle.std.specs.Prelude.{Err}
use Rattle.draid_block.specs.Blocks.{cut_of}
use Rattle.draid_block.specs.Solving.{IsReadable}
use Rattle.draid_block.specs.declared.solve.SolveFault.TheVariants.{Unreadable}
use Rattle.draid_restore.proofs.Solved.{not_unreadable}
use Rattle.draid_restore.proofs.solving.restore_lent.Goals as goal

pub returns-in-Unreadable-clause-readable : goal.returns-in-Unreadable-clause-readable
returns-in-Unreadable-clause-readable c w bad readable =
    let is : c.restore-restored.result ≡ Err c.in-Err.fault = c.in-Err.is in
    let kind : c.in-Err.fault ≡ Unreadable c.in-Unreadable.absent c.in-Unreadable.tried = c.in-Unreadable.is in
    absurd (not_unreadable c.restore-restored.result c.in-Err.fault c.in-Unreadable.absent c.in-Unreadable.tried is kind
    (c.restore-restored.ensures.readable w bad
    (subst (λ columns. IsReadable (cut_of c.args.geometry.now) (record { pointer = c.args.lent.now.pointer; columns = columns }) w bad) (sym c.replace.ensures.value) readable)))
