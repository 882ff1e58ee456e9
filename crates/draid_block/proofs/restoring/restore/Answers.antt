use Rattle.std.proofs.Common.{◌≡◌, ℕ, Result, Err, refl, subst}
use Rattle.draid_block.specs.Solving.{IsAnswered}
use Rattle.draid_block.specs.declared.solve.SolveFault.{SolveFault}
use Rattle.draid_block.specs.declared.solve.SolveFault.TheVariants.{Unreadable}
use Rattle.draid_block.proofs.restoring.restore.Goals as goal

-- unreadable is no answer
not_answered : (fault : SolveFault) (absent tried : ℕ) → fault ≡ Unreadable absent tried → IsAnswered (Err fault) → ⊥
not_answered fault absent tried is answered = subst (λ (f : SolveFault). IsAnswered (Err f)) is answered

err_same : {A : Type 0} (x y : Result A SolveFault) (a b : SolveFault) → x ≡ Err a → y ≡ Err b → x ≡ y → a ≡ b
err_same x y a b one other same = cc

pub returns-clause-readable : goal.returns-clause-readable
returns-clause-readable c w bad readable absent tried is =
    not_answered c.in-Err.fault absent tried (err_same _ _ c.in-Err.fault (Unreadable absent tried) refl refl is)
    (subst IsAnswered c.in-Err.is (c.solve_block.ensures.readable w bad readable))
