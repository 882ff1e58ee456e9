-- The holds of a write leave groups and arms.
use Rattle.std.proofs.Common.{◌≡◌, ◌≤◌, ◌++◌, ℕ, zero, suc, List, [], ◌∷◌, Option, Some, None, Ok, Err, ap, arith, sym, subst, inl, inr}
use Rattle.draid_names.specs.declared.refusal.WriteFault.{WriteFault}
use Rattle.draid_names.specs.declared.refusal.WriteFault.TheVariants as fault
use Rattle.draid_names.specs.declared.room.Room.{Room}
use Rattle.draid_spec.specs.declared.layout.Geometry.{Geometry}
use Rattle.draid_machine.specs.declared.names.Key.{Key}
use Rattle.draid_objects.specs.Changes.{Write}
use Rattle.draid_session.specs.Holds.{Hold, View}
use Rattle.draid_session.specs.Looks.{OnlyLooks}
use Rattle.draid_session.specs.State.{State, Store}
use Rattle.draid_session.specs.Writes.{LeavesEarlier, PutsColumns, Tries, WritesBlock}
use Rattle.draid_session.specs.Rooms.{LooksForRoom}
use Rattle.draid_store.specs.Answers.{WriteDoes}
use Rattle.draid_pool.proofs.LookHold.{only_looked}
use Rattle.draid_pool.proofs.OwnedStands.{ArePlain}
use Rattle.draid_objects.specs.Marks.{Mark}

pub plain_append : (a b : List Hold) → ArePlain a → ArePlain b → ArePlain (a ++ b)
plain_append [] b x y = y
plain_append (hold ∷ a) b x y = (x.0, plain_append a b x.1 y)

pub looks_plain : (holds : List Hold) → OnlyLooks holds → ArePlain holds
looks_plain [] looks = tt
looks_plain (hold ∷ holds) looks = ((subst (λ h. ArePlain (h ∷ [])) (sym looks.0.1) (tt, tt)).0, looks_plain holds looks.1)

puts_plain : (key : Key) (m n : ℕ) (holds : List Hold) → PutsColumns key m n holds → ArePlain holds
puts_plain key m zero holds puts = subst ArePlain (sym puts) tt
puts_plain key m (suc n) holds puts = subst ArePlain (sym puts.2) ((subst (λ h. ArePlain (h ∷ [])) (sym puts.3.did) (tt, tt)).0, puts_plain key m n puts.1 puts.4)

block_plain : (geometry : Geometry) (object seq : ℕ) (bytes : List ℕ) (floor m birth columns : ℕ) (holds : List Hold) → WritesBlock geometry object seq bytes floor m birth columns holds → ArePlain holds
block_plain geometry object seq bytes floor m birth columns holds w = subst ArePlain (sym w.are) (tt, plain_append w.puts _ (puts_plain w.key m geometry.g w.puts w.all_put) (tt, tt))

earlier_plain : (marks after : List Mark) (earlier : Option Write) (floor group : ℕ) (holds : List Hold) → LeavesEarlier marks earlier floor group holds after → ArePlain holds
earlier_plain marks after None floor group holds f = subst ArePlain (sym f.0) tt
earlier_plain marks after (Some w) floor group holds (inl f) = subst ArePlain (sym f.1.did) (tt, tt)
earlier_plain marks after (Some w) floor group holds (inr d) = subst ArePlain (sym d.1.looked) (tt, tt)

rooms_plain : (x : State) (bytes : List ℕ) (holds : List Hold) (views : List View) (rooms : List Room) → LooksForRoom x.geometry x.perms bytes holds views rooms → ArePlain holds
rooms_plain x bytes holds views rooms l = looks_plain holds (only_looked 0 x.geometry.props.metaslabs holds views l.looked)

pub tries_plain : (x : State) (chosen : List Room → Option ℕ → Type 0) (object : ℕ) (bytes : List ℕ) (m birth columns : ℕ) (holds : List Hold) → Tries x.geometry x.perms chosen object bytes x.store m birth columns holds → ArePlain holds
tries_plain x chosen object bytes m birth columns holds t = subst ArePlain (sym t.are)
    (plain_append t.looks t.written (rooms_plain x bytes t.looks t.chooses.views t.chooses.rooms t.chooses.looked) (block_plain x.geometry object _ bytes _ m birth columns t.written t.writes))

-- a block is born in the floor or later
pub tries_floor : (x : State) (chosen : List Room → Option ℕ → Type 0) (object : ℕ) (bytes : List ℕ) (m birth columns : ℕ) (holds : List Hold) → Tries x.geometry x.perms chosen object bytes x.store m birth columns holds → x.store.floor ≤ birth
tries_floor x chosen object bytes m birth columns holds t = (let born = t.writes.birth_is in omega (arith, born))

earlier_floor : (marks after : List Mark) (earlier : Option Write) (floor group : ℕ) (holds : List Hold) → LeavesEarlier marks earlier floor group holds after → floor ≤ group
earlier_floor marks after None floor group holds f = (let same = f.1 in omega (arith, same))
earlier_floor marks after (Some w) floor group holds (inl f) = (let is = f.1.group_is in omega (arith, is))
earlier_floor marks after (Some w) floor group holds (inr d) = (let is = d.1.group_is in omega (arith, is))

-- the checkpoint's marks stay, and the floor doesn't fall
abbrev pub KeepsPlain : State → List Hold → Store → Type 0
KeepsPlain x holds store = ArePlain holds × (store.marks ≡ x.store.marks) × (x.store.floor ≤ store.floor)

same_plain : (x : State) (holds : List Hold) (store : Store) → ArePlain holds → store ≡ x.store → KeepsPlain x holds store
same_plain x holds store plain same = (plain, ap (λ (t : Store). t.marks) same, (let floor = ap (λ (t : Store). t.floor) same in omega (arith, floor)))

pub wrote_plain : (x : State) (chosen : List Room → Option ℕ → Type 0) (object : ℕ) (bytes : List ℕ) (holds : List Hold) (store : Store) → WriteDoes x chosen object bytes (Ok tt) holds store × (store.marks ≡ x.store.marks) → KeepsPlain x holds store
wrote_plain x chosen object bytes holds store (w, marks) = (
  subst ArePlain (sym w.are) (plain_append w.tried w.freed (tries_plain x chosen object bytes w.m w.birth w.columns w.tried w.tries) (earlier_plain x.store.marks w.marks _ w.birth w.group w.freed w.leaves)),
  marks,
  (
      let born = tries_floor x chosen object bytes w.m w.birth w.columns w.tried w.tries in
      let freed = earlier_floor x.store.marks w.marks _ w.birth w.group w.freed w.leaves in
      let made = ap (λ (t : Store). t.floor) w.made in
      omega (arith, born, freed, made)
      ),
)

pub refused_plain : (x : State) (chosen : List Room → Option ℕ → Type 0) (object : ℕ) (bytes : List ℕ) (why : WriteFault) (holds : List Hold) (store : Store) → WriteDoes x chosen object bytes (Err why) holds store → KeepsPlain x holds store
refused_plain x chosen object bytes (fault.NoSpace run disabled full worn) holds store w = same_plain x holds store (rooms_plain x bytes holds w.0.views w.0.rooms w.0.looked) w.1
refused_plain x chosen object bytes (fault.Missed columns) holds store w = (
  tries_plain x chosen object bytes w.m w.birth columns holds w.tries,
  ap (λ (t : Store). t.marks) w.made,
  (let born = tries_floor x chosen object bytes w.m w.birth columns holds w.tries in let made = ap (λ (t : Store). t.floor) w.made in omega (arith, born, made)),
)
refused_plain x chosen object bytes fault.Last holds store w = same_plain x holds store (rooms_plain x bytes holds w.0.chooses.views w.0.chooses.rooms w.0.chooses.looked) w.1
refused_plain x chosen object bytes fault.NoMemory holds store w = same_plain x holds store (looks_plain holds w.0) w.1
