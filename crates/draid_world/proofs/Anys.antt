-- Tests below a number.
use Rattle.std.proofs.Common.{◌≡◌, ◌+◌, ◌<◌, ◌||◌, ℕ, suc, Bool, true, false, refl, sym, ◌∙◌, ap₂, arith, subst}
use Rattle.draid_machine.specs.declared.names.ArmName.{ArmName}
use Rattle.draid_machine.specs.declared.names.ArmName.TheVariants.{Spare}
use Rattle.draid_machine.specs.Names.{any_below}
use Rattle.draid_machine.specs.State.{Layout, Core}
use Rattle.draid_machine.specs.Arms.{lies_on}
use Rattle.draid_machine.proofs.Small.{any_at}
use Rattle.draid_world.specs.Lying.{keeps_at}

pub any_more : (n : ℕ) (p : ℕ → Bool) → any_below n p ≡ false → p n ≡ false → any_below (n + 1) p ≡ false
any_more n p none here = subst (λ k. any_below k p ≡ false) (let e : suc n ≡ n + 1 = omega arith in e) (ap₂ (λ a b. a || b) none here)

pub lies_spare : (l : Layout) (q : Core) (bad : ℕ → Bool) (n : ArmName) (t : ℕ) → n ≡ Spare t → any_below l.stripes (keeps_at l q bad n) ≡ lies_on l q bad n
lies_spare l q bad n t is = subst (λ m. any_below l.stripes (keeps_at l q bad m) ≡ lies_on l q bad m) (sym is) refl

pub lies_found : (l : Layout) (q : Core) (bad : ℕ → Bool) (n : ArmName) (t x : ℕ) → n ≡ Spare t → x < l.stripes → keeps_at l q bad n x ≡ true → true ≡ lies_on l q bad n
lies_found l q bad n t x is less keeps = sym (any_at l.stripes (keeps_at l q bad n) x less keeps) ∙ lies_spare l q bad n t is
