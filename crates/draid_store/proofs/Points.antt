-- What a group says of a thread's checkpoint: which blocks that keeps.
use Rattle.std.proofs.Common.{◌≡◌, ◌≤◌, ◌∙◌, ℕ, true, false, List, Option, Some, None, arith, ap}
use Rattle.std.proofs.lemmas.Bool.Decides.{nat_tests}
use Rattle.draid_checkpoint.specs.Check.{holds_birth}
use Rattle.draid_machine.proofs.Small.{none_some}
use Rattle.draid_pool.proofs.Lists.{some_of}
use Rattle.draid_objects.specs.Marks.{Check, Mark, check_by}
use Rattle.draid_session.specs.Points.{IsPointOf, KeepsBirth}

-- it keeps what was born up to it
pub point_keeps : (marks : List Mark) (point : Option ℕ) (birth : ℕ) → IsPointOf marks point → holds_birth point birth ≡ true → KeepsBirth marks birth
point_keeps marks None birth is held = absurd (cc)
point_keeps marks (Some group) birth is held = (is.0, is.1, (let same = is.2 in grind (arith, nat_tests, held, same)))

-- and nothing that was born later
pub point_loose : (marks : List Mark) (point : Option ℕ) (birth : ℕ) → IsPointOf marks point → holds_birth point birth ≡ false → KeepsBirth marks birth → ⊥
point_loose marks None birth is free kept = none_some (check_by marks) kept.0 is kept.1
point_loose marks (Some group) birth is free kept = later kept.0.group kept.2 (ap (λ (check : Check). check.group) same ∙ is.2)
  where
    same : kept.0 ≡ is.0
    same = some_of (check_by marks) kept.0 is.0 kept.1 is.1

    later : (own : ℕ) → birth ≤ own → own ≡ group → ⊥
    later own low own_is = absurd (grind (arith, nat_tests, free, low, own_is))
