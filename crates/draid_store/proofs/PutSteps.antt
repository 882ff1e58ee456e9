-- Columns of a block, one more.
use Rattle.std.proofs.Common.{◌≡◌, ◌+◌, ◌++◌, [], ◌∷◌, ℕ, zero, suc, List, Option, arith, refl, ap, if◌then◌else◌}
use Rattle.draid_machine.specs.declared.names.Key.{Key}
use Rattle.draid_machine.specs.declared.names.Held.{Held}
use Rattle.draid_machine.specs.After.{set_held}
use Rattle.draid_machine.proofs.Small.{key_refl}
use Rattle.draid_session.specs.Holds.{Hold}
use Rattle.draid_session.specs.Writes.{PutsColumn, PutsColumns}

-- what a table has of a key that is set
pub set_own : (f : Key → Option Held) (key : Key) (v : Option Held) → set_held f key v key ≡ v
set_own f key v = ap (λ b. if b then v else f key) (key_refl key)

pub puts_more : (key : Key) (m n : ℕ) (holds : List Hold) (hold : Hold) → PutsColumns key m n holds → PutsColumn key m hold → PutsColumns key m (suc n) (holds ++ hold ∷ [])
puts_more key m zero holds hold none one = (hold, [], ap (λ hs. hs ++ hold ∷ []) none, one, refl)
puts_more key m (suc n) holds hold puts one = (puts.0, puts.1 ++ hold ∷ [], ap (λ hs. hs ++ hold ∷ []) puts.2, puts.3, puts_more key m n puts.1 hold puts.4 one)

pub one_more : (n : ℕ) → suc n ≡ n + 1
one_more n = omega arith
