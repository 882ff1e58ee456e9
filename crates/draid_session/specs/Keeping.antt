-- Of which desks a book is: what an open pool, or one that was given back, has to be for it, so that what comes next is as the book has it.
use Rattle.std.specs.Prelude.{◌≡◌, ◌<◌, ◌≤◌, ◌+◌, ◌||◌, ◌⊎◌, ℕ, Bool, true, false, List, [], ◌∷◌, Option, Some, None, All, slice_get, ◌≢◌}
use Rattle.draid_machine.specs.declared.event.Event.{Event}
use Rattle.draid_machine.specs.State as machine
use Rattle.draid_objects.specs.Changes.{Change, Write, group_of, kept, write_of}
use Rattle.draid_session.specs.Points.{HasLateMark}
use Rattle.draid_session.specs.Book.{Book, HaveBeen}
use Rattle.draid_session.specs.Groups.{behind_close, has_commit, has_other, is_close_of, is_unsynced}
use Rattle.draid_session.specs.Session.{Desk, Untouched, Bare, Made, Open, Shut, Foreign, Unknown}
use Rattle.draid_session.specs.State.{Metaslab, State, Store}
use Rattle.draid_objects.specs.Marks.{Mark, check_by}

-- ---- objects

-- the bytes of a write, if there is one
abbrev pub bytes_in : Option Write → Option (List ℕ)
bytes_in None = None
bytes_in (Some write) = Some write.bytes

-- The book has the objects as they are; as the committed group keeps them, where that is the last group that a reply named; and among what they were, as each group from the
-- committed one on keeps them.
pub record SaysObjects (committed : ℕ) (changes : List Change) (book : Book) : Type 0 where
  pub now : (o : ℕ) → book.now o ≡ bytes_in (write_of changes o)
  pub keeps : book.group ≡ committed → (o : ℕ) → book.kept o ≡ bytes_in (kept committed changes o)
  pub had : (group : ℕ) → committed ≤ group → HaveBeen book (λ o. bytes_in (kept group changes o))

-- ---- one metaslab

-- its open group is the one behind the committed one, or the one behind that, as that is closing
pub record IsInStep (committed : ℕ) (w : machine.State) : Type 0 where
  pub idle : w.closing ≡ None → w.open_group ≡ committed + 1
  pub busy : (group : ℕ) → w.closing ≡ Some group → (group ≡ committed + 1) × (w.open_group ≡ group + 1)

-- it isn't synced, by its committed group and its events
abbrev pub UnsyncedIn : ℕ → List Event → Type 0
UnsyncedIn committed events = is_unsynced committed events ≡ true

abbrev pub has_close : ℕ → List Event → Bool
has_close group [] = false
has_close group (e ∷ events) = is_close_of group e || has_close group events

-- Where its events have a commit, they have the closing of the committed group. Where a group is closing they have that closing, and the metaslab isn't synced.
pub record TellsGroups (committed : ℕ) (closing : Option ℕ) (events : List Event) : Type 0 where
  pub begun : has_commit events ≡ true → has_close committed events ≡ true
  pub closes : (group : ℕ) → closing ≡ Some group → (has_close group events ≡ true) × UnsyncedIn committed events

abbrev pub IsNoted : Metaslab → Type 0
IsNoted y = TellsGroups y.world.committed y.world.closing y.events

-- ---- all of a pool

abbrev pub AreInStep : State → Type 0
AreInStep x = (k : ℕ) (y : Metaslab) → slice_get x.metaslabs k ≡ Some y → IsInStep x.committed y.world

abbrev pub AreNoted : State → Type 0
AreNoted x = (k : ℕ) (y : Metaslab) → slice_get x.metaslabs k ≡ Some y → IsNoted y

-- the metaslabs are those of the layout, and there is one
abbrev pub AreInside : State → Type 0
AreInside x = (k : ℕ) (y : Metaslab) → slice_get x.metaslabs k ≡ Some y → k < x.geometry.props.metaslabs

abbrev pub HasMetaslab : State → Type 0
HasMetaslab x = (y : Metaslab) × (slice_get x.metaslabs 0 ≡ Some y)

-- some metaslab isn't synced
pub record HasUnsynced (x : State) : Type 0 where
  pub k : ℕ
  pub y : Metaslab
  pub there : slice_get x.metaslabs k ≡ Some y
  pub unsynced : UnsyncedIn y.world.committed y.events

-- some metaslab closes a group, and an event came behind its closing
pub record HasAhead (x : State) : Type 0 where
  pub k : ℕ
  pub y : Metaslab
  pub group : ℕ
  pub there : slice_get x.metaslabs k ≡ Some y
  pub closing : y.world.closing ≡ Some group
  pub ahead : has_other group (behind_close group y.events) ≡ true

-- All changes are of committed groups, and no commit was refused; or some metaslab isn't synced, or something befell the checkpoint since the committed group.
abbrev pub ShowsUnsynced : State → Store → Type 0
ShowsUnsynced x store = (All (λ c. group_of c ≤ x.committed) store.changes × (x.pending ≡ false)) ⊎ (HasUnsynced x ⊎ HasLateMark x.committed store.marks)

-- a group is under way: it is closing in some metaslab, or its commit was refused
abbrev pub IsUnderWay : State → Type 0
IsUnderWay x =
    ((k : ℕ) × (y : Metaslab) × (group : ℕ) × (slice_get x.metaslabs k ≡ Some y) × (y.world.closing ≡ Some group)) ⊎ (x.pending ≡ true)

-- no call used a group behind the open one
abbrev pub IsLowFloor : State → ℕ → Type 0
IsLowFloor x floor = (floor ≤ x.committed + 1) ⊎ ((floor ≤ x.committed + 2) × HasAhead x)

-- some metaslab closes a group
pub record HasClosing (x : State) : Type 0 where
  pub k : ℕ
  pub y : Metaslab
  pub group : ℕ
  pub there : slice_get x.metaslabs k ≡ Some y
  pub closing : y.world.closing ≡ Some group

-- a block was dropped to the checkpoint in the group behind one that is closing, which no event shows
pub record DropsAhead (x : State) (marks : List Mark) (floor : ℕ) : Type 0 where
  pub low : floor ≤ x.committed + 2
  pub closes : HasClosing x
  pub late : HasLateMark (x.committed + 1) marks
  pub stands : check_by marks ≢ None

-- no call used a group behind the open one, where some were dropped to the checkpoint
abbrev pub HasLowFloor : State → List Mark → ℕ → Type 0
HasLowFloor x marks floor = IsLowFloor x floor ⊎ DropsAhead x marks floor

-- ---- desks

-- An open pool, of which the changes are of this store. The committed group is the last that a reply named or a later one, by at most as many as no reply told of; so is one that is under way.
pub record KeepsOpen (x : State) (store : Store) (book : Book) : Type 0 where
  pub is_open : book.is_open ≡ true
  pub says : SaysObjects x.committed store.changes book
  pub low : book.group ≤ x.committed
  pub few : x.committed ≤ book.group + book.untold
  pub under : IsUnderWay x → x.committed + 1 ≤ book.group + book.untold
  pub told : x.told ≡ true
  pub some : 0 < x.committed
  pub steps : AreInStep x
  pub inside : AreInside x
  pub place : HasMetaslab x
  pub noted : AreNoted x
  pub shows : ShowsUnsynced x store
  pub groups : All (λ c. group_of c ≤ store.floor) store.changes
  pub floor : HasLowFloor x store.marks store.floor

-- a pool that was given back: the same, but for what only an open one needs
pub record KeepsShut (x : State) (book : Book) : Type 0 where
  pub is_shut : book.is_open ≡ false
  pub keeps : book.group ≡ x.committed → (o : ℕ) → book.kept o ≡ bytes_in (kept x.committed x.store.changes o)
  pub had : (group : ℕ) → x.committed ≤ group → HaveBeen book (λ o. bytes_in (kept group x.store.changes o))
  pub low : book.group ≤ x.committed
  pub few : x.committed ≤ book.group + book.untold
  pub under : x.pending ≡ true → x.committed + 1 ≤ book.group + book.untold
  pub told : x.told ≡ true
  pub inside : AreInside x
  pub place : HasMetaslab x

-- no pool, or one that was never opened
pub record KeepsNone (book : Book) : Type 0 where
  pub is_shut : book.is_open ≡ false
  pub none : book.group ≡ 0

-- A book is of a desk whose shelf tells, where that isn't a pool that no session is known to have made.
abbrev pub Keeps : Desk → Book → Type 0
Keeps Untouched book = ⊥
Keeps Bare book = KeepsNone book
Keeps (Made told failed geometry) book = KeepsNone book × (told ≡ true)
Keeps (Open x) book = KeepsOpen x x.store book
Keeps (Shut crash x) book = KeepsShut x book
Keeps (Foreign known) book = ⊥
Keeps Unknown book = ⊥
