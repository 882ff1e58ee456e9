-- Of which desks a book beside a checkpoint is: what befell the checkpoint of a pool has to be as the book says, so that what comes next is as the book has it.
use Rattle.std.specs.Prelude.{◌≡◌, ◌+◌, ◌<◌, ◌≤◌, ⊤, ℕ, List, ◌∷◌, Option, Some, None, All, Contains, max, slice_get}
use Rattle.draid_objects.specs.Changes.{Change, kept}
use Rattle.draid_objects.specs.Marks.{Check, Made, Mark, check_at, check_by, mark_group}
use Rattle.draid_session.specs.Book.{Objects}
use Rattle.draid_session.specs.Keeping.{Keeps, bytes_in}
use Rattle.draid_session.specs.Looks.{AllOf}
use Rattle.draid_session.specs.Marked.{HasNoMark, Marked}
use Rattle.draid_session.specs.Session.{Bare, Desk, Foreign, Made as MadeOnly, Open, Shut, Unknown, Untouched}
use Rattle.draid_session.specs.State.{Metaslab, State, Store}

-- ---- checkpoints

-- the objects of a checkpoint, if there is one: those that its group keeps
abbrev pub IsMark : List Change → Option Check → Option Objects → Type 0
IsMark changes None None = ⊤
IsMark changes (Some check) (Some objects) = (object : ℕ) → objects object ≡ bytes_in (kept check.group changes object)
IsMark changes check mark = ⊥

-- one of these has them
abbrev pub IsAmong : List Change → Option Check → List (Option Objects) → Type 0
IsAmong changes check marks = (mark : Option Objects) × Contains marks mark × IsMark changes check mark

-- The book has the checkpoint of the committed group, where that is the last group that a reply named; and among what there was since, that of each group from the committed one on.
pub record SaysMarks (committed : ℕ) (changes : List Change) (marks : List Mark) (m : Marked) : Type 0 where
  pub keeps : m.book.group ≡ committed → IsMark changes (check_at committed marks) m.kept_mark
  pub had : (group : ℕ) → committed ≤ group → IsAmong changes (check_at group marks) (m.kept_mark ∷ m.since_marks)

-- ---- groups of checkpoints

-- a group of which this tells that a checkpoint was made
abbrev pub MadeSo : (ℕ → Type 0) → Mark → Type 0
MadeSo P (Made group) = P group
MadeSo P mark = ⊤

-- no metaslab has it open any more
abbrev pub IsClosedIn : State → ℕ → Type 0
IsClosedIn x group = (k : ℕ) (y : Metaslab) → slice_get x.metaslabs k ≡ Some y → group < y.world.open_group

-- where no checkpoint stands, nothing befell one in a group behind the next
abbrev pub AreStill : ℕ → List Mark → Type 0
AreStill committed marks = check_by marks ≡ None → All (λ mark. mark_group mark ≤ committed + 1) marks

-- ---- desks

-- An open pool, of which the changes and the marks are of this store: the book has its checkpoint as well.
pub record MarksOpen (x : State) (store : Store) (m : Marked) : Type 0 where
  pub now : IsMark store.changes (check_by store.marks) m.mark
  pub says : SaysMarks x.committed store.changes store.marks m
  pub closed : AllOf (MadeSo (IsClosedIn x)) store.marks
  pub low : All (λ mark. mark_group mark ≤ max store.floor (x.committed + 1)) store.marks
  pub still : AreStill x.committed store.marks

-- where there is no pool, there is no checkpoint
abbrev pub KeepsMarks : Desk → Marked → Type 0
KeepsMarks Untouched m = ⊥
KeepsMarks Bare m = HasNoMark m
KeepsMarks (MadeOnly told failed geometry) m = HasNoMark m
KeepsMarks (Open x) m = MarksOpen x x.store m
KeepsMarks (Shut crash x) m = SaysMarks x.committed x.store.changes x.store.marks m
KeepsMarks (Foreign known) m = ⊥
KeepsMarks Unknown m = ⊥

-- A book beside a checkpoint is of a desk as the book of its objects is.
pub record KeepsMarked (desk : Desk) (m : Marked) : Type 0 where
  pub book : Keeps desk m.book
  pub marks : KeepsMarks desk m
