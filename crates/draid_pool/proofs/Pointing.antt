-- What the check records say of marks.
use Rattle.std.proofs.Common.{◌≡◌, ◌∙◌, [], ℕ, List, None, ap, sym}
use Rattle.draid_checkpoint.specs.Check.{Point}
use Rattle.draid_objects.specs.Marks.{Mark}
use Rattle.draid_uber.specs.Points.{no_check, told_at}
use Rattle.draid_uber.proofs.Pointing.{none_told}
use Rattle.draid_pool.specs.Ubers.{check_told}

-- where nothing befell the checkpoint, each says that there is none
pub unmarked_told : (marks : List Mark) (group : ℕ) → marks ≡ [] → check_told marks group ≡ no_check
unfolding check_told
unmarked_told marks group none = ap (λ ms. check_told ms group) none

-- so do those that are written where none is kept
pub none_kept : (point : Point) (marks : List Mark) (group : ℕ) → point.group ≡ None → marks ≡ [] → told_at point group ≡ check_told marks group
none_kept point marks group none unmarked = none_told point group none ∙ sym (unmarked_told marks group unmarked)
