-- What a checkpoint is to what a thread has of its own.
use Rattle.std.specs.Prelude.{◌≡◌, ℕ, List, ◌∷◌, Some, ◌<◌, Contains, ◌≤◌, Option, None, max}
use Rattle.draid_objects.specs.Marks.{Check, GivenUp, Mark, check_by, mark_group}
use Rattle.draid_session.specs.State.{Store}

-- there is one, of this group
abbrev pub HasPoint : List Mark → ℕ → Type 0
HasPoint marks group = (check : Check) × (check_by marks ≡ Some check) × (check.group ≡ group)

-- the checkpoint keeps what was born then: it was, up to its group
abbrev pub KeepsBirth : List Mark → ℕ → Type 0
KeepsBirth marks birth = (check : Check) × (check_by marks ≡ Some check) × (birth ≤ check.group)

-- the marks leave a checkpoint of this group, or none
abbrev pub IsPointOf : List Mark → Option ℕ → Type 0
IsPointOf marks None = check_by marks ≡ None
IsPointOf marks (Some group) = HasPoint marks group

-- this befell it
abbrev pub marked : Mark → Store → Store
marked mark store = record store { marks = mark ∷ store.marks }

-- it is given up in a group, in which the blocks that it alone keeps are freed
abbrev pub given_up : ℕ → Store → Store
given_up at store = record store { marks = GivenUp at ∷ store.marks; floor = max at store.floor }

-- something befell the checkpoint in a later group than this one
pub record HasLateMark (committed : ℕ) (marks : List Mark) : Type 0 where
  pub mark : Mark
  pub there : Contains marks mark
  pub late : committed < mark_group mark
