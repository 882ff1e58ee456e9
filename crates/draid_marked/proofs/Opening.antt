-- What an open pool's marks are to a book beside a checkpoint, as holds come that leave them, or that change objects.
use Rattle.std.proofs.Common.{◌≢◌, option_map, ◌≡◌, ◌∙◌, ◌+◌, ◌<◌, ◌≤◌, ◌⊎◌, ◌++◌, ℕ, zero, suc, List, [], ◌∷◌, Option, Some, None, All, length, inl, inr, refl, sym, ap, subst, arith}
use Rattle.std.specs.Prelude.{max}
use Rattle.std.proofs.lemmas.List.Elements.{All-cons, All-weaker}
use Rattle.draid_names.specs.declared.refusal.WriteFault.{WriteFault}
use Rattle.draid_names.specs.declared.refusal.WriteFault.TheVariants as refusal
use Rattle.sha2.specs.Sha256.{sha256}
use Rattle.draid_spec.specs.declared.layout.Geometry.{Geometry}
use Rattle.draid_perm.specs.declared.perms.Perms.{Perms}
use Rattle.draid_machine.specs.declared.names.Key.{Key}
use Rattle.draid_machine.specs.declared.event.Event.TheVariants as event
use Rattle.draid_machine.specs.State as machine
use Rattle.draid_machine.proofs.Small.{none_some}
use Rattle.draid_objects.specs.Changes.{Change, Freed, Write, Wrote, group_of, key_of, write_of}
use Rattle.draid_objects.specs.Marks.{Check, Dropped, Mark, check_by, drops_in, mark_group}
use Rattle.draid_reply.specs.declared.reply.Reply.TheVariants.{Missed, NoMemory, NoSpace, WriteLast, Written}
use Rattle.draid_script.specs.Line.{WriteObject}
use Rattle.draid_script.specs.declared.name.CommandName.TheVariants as name
use Rattle.draid_session.specs.Book.{Book}
use Rattle.draid_session.specs.Choices.{Choices}
use Rattle.draid_session.specs.Follows.{Follows}
use Rattle.draid_session.specs.Holds.{Act, Did, Hold, Looked, On, View}
use Rattle.draid_session.specs.Keeping.{AreInStep, IsInStep}
use Rattle.draid_session.specs.Looks.{AllOf}
use Rattle.draid_session.specs.Marked.{Marked}
use Rattle.draid_session.specs.Rooms.{stripes_for}
use Rattle.draid_session.specs.State.{State, Store}
use Rattle.draid_session.specs.Writes as writes
use Rattle.draid_session.proofs.Calm.{IsCalmHold, calm_follows}
use Rattle.draid_session.proofs.Changing.{looks_from_calm}
use Rattle.draid_session.proofs.Lanewise.{does_calm}
use Rattle.draid_session.proofs.Looked.{follows_split}
use Rattle.draid_marked.specs.Keeping.{AreStill, IsClosedIn, IsMark, MadeSo, MarksOpen, SaysMarks}
use Rattle.draid_marked.proofs.Marking.{made_low, made_more, mark_dropped, now_change, says_book, says_change, says_drop, says_later, says_named}
use Rattle.draid_marked.proofs.Rising.{Rises, holds_rise}
use Rattle.draid_marked.proofs.Steadies.{calm_steady}

-- ---- groups of checkpoints

step_open : (committed : ℕ) (w : machine.State) → IsInStep committed w → committed < w.open_group
step_open committed w step = by w.closing refl
  where
    by : (o : Option ℕ) → w.closing ≡ o → committed < w.open_group
    by None none = (let is = step.idle none in omega (arith, is))
    by (Some t) some = (let b = step.busy t some in let one = b.0 in let two = b.1 in omega (arith, one, two))

-- what is committed isn't open
pub closed_low : (z : State) (marks : List Mark) → AreInStep z → AllOf (MadeSo (λ group. group ≤ z.committed)) marks → AllOf (MadeSo (IsClosedIn z)) marks
closed_low z marks steps all = made_more (λ group. group ≤ z.committed) (IsClosedIn z) marks (λ group low k w there. (let above = step_open z.committed w.world (steps k w there) in omega (arith, low, above))) all

pub closed_on : (x z : State) (marks : List Mark) → Rises x z → AllOf (MadeSo (IsClosedIn x)) marks → AllOf (MadeSo (IsClosedIn z)) marks
closed_on x z marks rises all =
    made_more (IsClosedIn x) (IsClosedIn z) marks (λ group closed k w there. (let one = rises k w there in let less = closed k one.0 one.1 in let up = one.2 in omega (arith, less, up))) all

pub low_on : (floor more committed later : ℕ) (marks : List Mark) → floor ≤ more → committed ≤ later → All (λ mark. mark_group mark ≤ max floor (committed + 1)) marks → All (λ mark. mark_group mark ≤ max more (later + 1)) marks
low_on floor more committed later marks above on all =
    All-weaker (λ mark. mark_group mark ≤ max floor (committed + 1)) (λ mark. mark_group mark ≤ max more (later + 1)) (λ mark less. omega (arith, less, above, on)) marks all

pub still_on : (committed later : ℕ) (marks : List Mark) → committed ≤ later → AreStill committed marks → AreStill later marks
still_on committed later marks on still none = All-weaker (λ mark. mark_group mark ≤ committed + 1) (λ mark. mark_group mark ≤ later + 1) (λ mark less. omega (arith, less, on)) marks (still none)

-- ---- the same store

pub open_later : (x z : State) (store : Store) (m : Marked) (b : Book) → b.group ≡ m.book.group → m.book.group ≤ x.committed → x.committed ≤ z.committed → Rises x z → MarksOpen x store m
    → MarksOpen z store (record m { book = b })
open_later x z store m b same low later rises o = record {
  now = o.now;
  says = says_book z.committed store.changes store.marks m b same (says_later x.committed z.committed store.changes store.marks m low later o.says);
  closed = closed_on x z store.marks rises o.closed;
  low = low_on store.floor store.floor x.committed z.committed store.marks (omega arith) later o.low;
  still = still_on x.committed z.committed store.marks later o.still;
}

-- a reply named the committed group
pub open_named : (x z : State) (store : Store) (m : Marked) (b : Book) → All (λ mark. mark_group mark ≤ z.committed) store.marks → AreInStep z → MarksOpen x store m
    → MarksOpen z store (record { book = b; mark = m.mark; kept_mark = m.mark; since_marks = [] })
open_named x z store m b all steps o = record {
  now = o.now;
  says = says_named z.committed store.changes store.marks b m.mark all o.now;
  closed = closed_low z store.marks steps (made_low z.committed store.marks all);
  low = All-weaker (λ mark. mark_group mark ≤ z.committed) (λ mark. mark_group mark ≤ max store.floor (z.committed + 1)) (λ mark less. omega (arith, less)) store.marks all;
  still = λ none. All-weaker (λ mark. mark_group mark ≤ z.committed) (λ mark. mark_group mark ≤ z.committed + 1) (λ mark less. omega (arith, less)) store.marks all;
}

-- ---- another floor

pub open_floor : (x z : State) (store new : Store) (m : Marked) → z.committed ≡ x.committed → Rises x z → new.changes ≡ store.changes → new.marks ≡ store.marks → store.floor ≤ new.floor → MarksOpen x store m → MarksOpen z new m
open_floor x z store new m same rises changes marks above o = record {
  now = subst (λ cs. IsMark cs (check_by new.marks) m.mark) (sym changes) (subst (λ ms. IsMark store.changes (check_by ms) m.mark) (sym marks) o.now);
  says = subst (λ n. SaysMarks n new.changes new.marks m) (sym same) (subst (λ cs. SaysMarks x.committed cs new.marks m) (sym changes) (subst (λ ms. SaysMarks x.committed store.changes ms m) (sym marks) o.says));
  closed = subst (AllOf (MadeSo (IsClosedIn z))) (sym marks) (closed_on x z store.marks rises o.closed);
  low = subst (All (λ mark. mark_group mark ≤ max new.floor (z.committed + 1))) (sym marks) (low_on store.floor new.floor x.committed z.committed store.marks above (omega (arith, same)) o.low);
  still = subst (AreStill z.committed) (sym marks) (still_on x.committed z.committed store.marks (omega (arith, same)) o.still);
}

-- ---- a change

-- and then a block is dropped, or none
abbrev pub AddsDrop : List Mark → List Mark → ℕ → Type 0
AddsDrop old new group = (new ≡ old) ⊎ ((key : Key) × (new ≡ Dropped key group ∷ old) × (check_by old ≢ None))

map_none : (key : Key) (o : Option Check) → option_map (drops_in key) o ≡ None → o ≡ None
map_none key None is = refl
map_none key (Some check) is = absurd (none_some (option_map (drops_in key) (Some check)) (drops_in key check) is refl)

pub open_change : (x z : State) (store new : Store) (m : Marked) (c : Change) (group : ℕ) → z.committed ≡ x.committed → Rises x z → new.changes ≡ c ∷ store.changes → AddsDrop store.marks new.marks group
    → store.floor ≤ new.floor → group ≤ new.floor → AllOf (MadeSo (λ g. g < group_of c)) store.marks → MarksOpen x store m → MarksOpen z new m
open_change x z store new m c group same rises changes drops above within late o = by drops
  where
    now : IsMark new.changes (check_by store.marks) m.mark
    now = subst (λ cs. IsMark cs (check_by store.marks) m.mark) (sym changes) (now_change store.changes c store.marks m.mark late o.now)

    says : SaysMarks z.committed new.changes store.marks m
    says = subst (λ n. SaysMarks n new.changes store.marks m) (sym same) (subst (λ cs. SaysMarks x.committed cs store.marks m) (sym changes) (says_change x.committed store.changes c store.marks m late o.says))

    closed : AllOf (MadeSo (IsClosedIn z)) store.marks
    closed = closed_on x z store.marks rises o.closed

    low : All (λ mark. mark_group mark ≤ max new.floor (z.committed + 1)) store.marks
    low = low_on store.floor new.floor x.committed z.committed store.marks above (omega (arith, same)) o.low

    still : AreStill z.committed store.marks
    still = still_on x.committed z.committed store.marks (omega (arith, same)) o.still

    by : AddsDrop store.marks new.marks group → MarksOpen z new m
    by (inl is) = record {
      now = subst (λ ms. IsMark new.changes (check_by ms) m.mark) (sym is) now;
      says = subst (λ ms. SaysMarks z.committed new.changes ms m) (sym is) says;
      closed = subst (AllOf (MadeSo (IsClosedIn z))) (sym is) closed;
      low = subst (All (λ mark. mark_group mark ≤ max new.floor (z.committed + 1))) (sym is) low;
      still = subst (AreStill z.committed) (sym is) still;
    }
    by (inr (key, is, some)) = record {
      now = subst (λ ms. IsMark new.changes (check_by ms) m.mark) (sym is) (mark_dropped new.changes key (check_by store.marks) m.mark now);
      says = subst (λ ms. SaysMarks z.committed new.changes ms m) (sym is) (says_drop z.committed new.changes key group store.marks m says);
      closed = subst (AllOf (MadeSo (IsClosedIn z))) (sym is) (tt, closed);
      low = subst (All (λ mark. mark_group mark ≤ max new.floor (z.committed + 1))) (sym is)
          (All-cons (λ mark. mark_group mark ≤ max new.floor (z.committed + 1)) (Dropped key group) store.marks (omega (arith, within)) low);
      still = subst (AreStill z.committed) (sym is) (λ none. absurd (some (map_none key (check_by store.marks) none)));
    }

-- ---- blocks that objects leave

leaves_drop : (marks after : List Mark) (w : Write) (floor group : ℕ) (holds : List Hold) → writes.LeavesBlock marks w floor group holds after → AddsDrop marks after group
leaves_drop marks after w floor group holds (inl f) = inl f.2
leaves_drop marks after w floor group holds (inr d) = inr (key_of w, d.2, λ none. none_some (check_by marks) d.0.0 none d.0.1)

earlier_drop : (marks after : List Mark) (o : Option Write) (floor group : ℕ) (holds : List Hold) → writes.LeavesEarlier marks o floor group holds after → AddsDrop marks after group
earlier_drop marks after None floor group holds e = inl e.2
earlier_drop marks after (Some w) floor group holds e = leaves_drop marks after w floor group holds e

-- what a metaslab is seen to have open is behind each group of a checkpoint, and so is what comes in that group or a floor above it
seen_late : (x z : State) (v : View) (act : Act) (floor group : ℕ) (rest : List Hold) (marks : List Mark) → Follows (On v act ∷ rest) x z → group ≡ max v.world.open_group floor → AllOf (MadeSo (IsClosedIn x)) marks
    → AllOf (MadeSo (λ g. g < group)) marks
seen_late x z v act floor group rest marks (mid, it, after) is all =
    made_more (IsClosedIn x) (λ g. g < group) marks (λ g closed. (let less = closed v.metaslab it.before it.there in let at = is ∙ ap (λ (u : View). max u.world.open_group floor) it.sees in omega (arith, less, at))) all

leaves_late : (x z : State) (marks after : List Mark) (w : Write) (floor group : ℕ) (holds : List Hold) → writes.LeavesBlock marks w floor group holds after → Follows holds x z → AllOf (MadeSo (IsClosedIn x)) marks
    → AllOf (MadeSo (λ g. g < group)) marks
leaves_late x z marks after w floor group holds (inl (loose, f, same)) follows all =
    seen_late x z f.v (Did (event.Free (key_of w) group) f.after) floor group [] marks (subst (λ hs. Follows hs x z) f.did follows) f.group_is all
leaves_late x z marks after w floor group holds (inr (kept_, d, same)) follows all = seen_late x z d.v Looked floor group [] marks (subst (λ hs. Follows hs x z) d.looked follows) d.group_is all

leaves_above : (marks after : List Mark) (w : Write) (floor group : ℕ) (holds : List Hold) → writes.LeavesBlock marks w floor group holds after → floor ≤ group
leaves_above marks after w floor group holds (inl (loose, f, same)) = (let is = f.group_is in omega (arith, is))
leaves_above marks after w floor group holds (inr (kept_, d, same)) = (let is = d.group_is in omega (arith, is))

earlier_above : (marks after : List Mark) (o : Option Write) (floor group : ℕ) (holds : List Hold) → writes.LeavesEarlier marks o floor group holds after → floor ≤ group
earlier_above marks after None floor group holds e = (let is = e.1 in omega (arith, is))
earlier_above marks after (Some w) floor group holds e = leaves_above marks after w floor group holds e

-- ---- frees, writes and fills

pub frees_marks : (object : ℕ) (old new : Store) (holds : List Hold) (x z : State) (m : Marked) → writes.Frees object old holds new → Follows holds x z → z.committed ≡ x.committed → Rises x z → MarksOpen x old m → MarksOpen z new m
frees_marks object old new holds x z m f follows same rises o =
    let floor = ap (λ (s : Store). s.floor) f.made in
    let above = leaves_above old.marks f.marks f.w old.floor f.group holds f.leaves in
    open_change x z old new m (Freed object f.group) f.group same rises (ap (λ (s : Store). s.changes) f.made)
    (subst (λ ms. AddsDrop old.marks ms f.group) (sym (ap (λ (s : Store). s.marks) f.made)) (leaves_drop old.marks f.marks f.w old.floor f.group holds f.leaves))
    (omega (arith, floor, above)) (omega (arith, floor)) (leaves_late x z old.marks f.marks f.w old.floor f.group holds f.leaves follows o.closed) o

module _ (geometry : Geometry) (perms : Perms) (choices : Choices) where
  -- the group of a new block's birth
  record Tried (old : Store) (birth : ℕ) : Type 0 where
    pub late : AllOf (MadeSo (λ g. g < birth)) old.marks
    pub above : old.floor ≤ birth

  tries_late : (object : ℕ) (bytes : List ℕ) (old : Store) (k birth columns : ℕ) (holds : List Hold) (x z : State) → writes.Tries geometry perms choices.room object bytes old k birth columns holds → Follows holds x z
      → AllOf (MadeSo (IsClosedIn x)) old.marks → Tried old birth
  tries_late object bytes old k birth columns holds x z t follows closed =
      let parts = follows_split t.looks t.written x z (subst (λ hs. Follows hs x z) t.are follows) in
      let rises = holds_rise t.looks x parts.0 (calm_steady t.looks (looks_from_calm 0 geometry.props.metaslabs t.looks t.chooses.views t.chooses.looked.looked)) parts.1 in
      let w = t.writes in
      let is = w.birth_is in
      record {
        late = seen_late parts.0 z w.v (Did (event.Begin w.key w.first (stripes_for geometry bytes) (length bytes) birth (sha256 bytes)) w.begun) old.floor birth (w.puts ++ On w.last (Did (event.Finish w.key) w.ended) ∷ []) old.marks
            (subst (λ hs. Follows hs parts.0 z) w.are parts.2) w.birth_is (closed_on x parts.0 old.marks rises closed);
        above = omega (arith, is);
      }

  pub writes_marks : (object : ℕ) (bytes : List ℕ) (old new : Store) (holds : List Hold) (x z : State) (m : Marked) → writes.Writes geometry perms choices.room object bytes old holds new → Follows holds x z
      → MarksOpen x old m → MarksOpen z new m
  writes_marks object bytes old new holds x z m w follows o =
      let parts = follows_split w.tried w.freed x z (subst (λ hs. Follows hs x z) w.are follows) in
      let calm = does_calm geometry perms choices (WriteObject object bytes) (Written object) old new holds tt (refl, w) in
      let t = tries_late object bytes old w.m w.birth w.columns w.tried x parts.0 w.tries parts.1 o.closed in
      let floor = ap (λ (s : Store). s.floor) w.made in
      let above = earlier_above old.marks w.marks (write_of old.changes object) w.birth w.group w.freed w.leaves in
      let born = t.above in
      open_change x z old new m (Wrote (record { object = object; seq = old.seq + 1; metaslab = w.m; birth = w.birth; bytes = bytes })) w.group (calm_follows holds x z calm follows).committed
      (holds_rise holds x z (calm_steady holds calm) follows) (ap (λ (s : Store). s.changes) w.made)
      (subst (λ ms. AddsDrop old.marks ms w.group) (sym (ap (λ (s : Store). s.marks) w.made)) (earlier_drop old.marks w.marks (write_of old.changes object) w.birth w.group w.freed w.leaves))
      (omega (arith, floor, above, born)) (omega (arith, floor)) t.late o

  pub fills_marks : (content : ℕ → List ℕ) (first n : ℕ) (old new : Store) (holds : List Hold) (x z : State) (m : Marked) → writes.Fills geometry perms choices.room content first n old holds new → Follows holds x z
      → MarksOpen x old m → MarksOpen z new m
  fills_marks content first zero old new holds x z m f follows o =
      let is : z ≡ x = subst (λ hs. Follows hs x z) f.0 follows in
      subst (λ s. MarksOpen z s m) (sym f.1) (subst (λ (s : State). MarksOpen s old m) (sym is) o)
  fills_marks content first (suc n) old new holds x z m f follows o =
      let parts = follows_split f.0 f.1 x z (subst (λ hs. Follows hs x z) f.3 follows) in
      writes_marks (first + n) (content (first + n)) f.2 new f.1 parts.0 z m f.5 parts.2 (fills_marks content first n old f.2 f.0 x parts.0 m f.4 parts.1 o)

  refuses_calm : (object : ℕ) (bytes : List ℕ) (why : WriteFault) (old new : Store) (holds : List Hold) → writes.Refuses geometry perms choices.room object bytes why old holds new → AllOf IsCalmHold holds
  refuses_calm object bytes (refusal.NoSpace run disabled full worn) old new holds r = does_calm geometry perms choices (WriteObject object bytes) (NoSpace object run disabled full worn) old new holds tt (refl, r)
  refuses_calm object bytes (refusal.Missed columns) old new holds r = does_calm geometry perms choices (WriteObject object bytes) (Missed object columns) old new holds tt (refl, r)
  refuses_calm object bytes refusal.Last old new holds r = does_calm geometry perms choices (WriteObject object bytes) (WriteLast object) old new holds tt (refl, r)
  refuses_calm object bytes refusal.NoMemory old new holds r = does_calm geometry perms choices (WriteObject object bytes) (NoMemory name.Write) old new holds tt r

  -- where nothing was written
  pub refuses_marks : (object : ℕ) (bytes : List ℕ) (why : WriteFault) (old new : Store) (holds : List Hold) (x z : State) (m : Marked) → writes.Refuses geometry perms choices.room object bytes why old holds new
      → Follows holds x z → z.committed ≡ x.committed → Rises x z → MarksOpen x old m → MarksOpen z new m
  refuses_marks object bytes (refusal.NoSpace run disabled full worn) old new holds x z m r follows same rises o =
      open_floor x z old new m same rises (ap (λ (s : Store). s.changes) r.1) (ap (λ (s : Store). s.marks) r.1) (let is = ap (λ (s : Store). s.floor) r.1 in omega (arith, is)) o
  refuses_marks object bytes (refusal.Missed columns) old new holds x z m r follows same rises o =
      let t = tries_late object bytes old r.m r.birth columns holds x z r.tries follows o.closed in
      let above = t.above in
      open_floor x z old new m same rises (ap (λ (s : Store). s.changes) r.made) (ap (λ (s : Store). s.marks) r.made) (let is = ap (λ (s : Store). s.floor) r.made in omega (arith, is, above)) o
  refuses_marks object bytes refusal.Last old new holds x z m r follows same rises o =
      open_floor x z old new m same rises (ap (λ (s : Store). s.changes) r.1) (ap (λ (s : Store). s.marks) r.1) (let is = ap (λ (s : Store). s.floor) r.1 in omega (arith, is)) o
  refuses_marks object bytes refusal.NoMemory old new holds x z m r follows same rises o =
      open_floor x z old new m same rises (ap (λ (s : Store). s.changes) r.1) (ap (λ (s : Store). s.marks) r.1) (let is = ap (λ (s : Store). s.floor) r.1 in omega (arith, is)) o

  pub fill_stops_marks : (content : ℕ → List ℕ) (first count written : ℕ) (why : WriteFault) (old new : Store) (holds : List Hold) (x z : State) (m : Marked)
      → writes.FillStops geometry perms choices.room content first count written why old holds new → Follows holds x z → MarksOpen x old m → MarksOpen z new m
  fill_stops_marks content first count written why old new holds x z m s follows o =
      let parts = follows_split s.front s.back x z (subst (λ hs. Follows hs x z) s.are follows) in
      let calm = refuses_calm (first + written) (content (first + written)) why s.mid new s.back s.refuses in
      refuses_marks (first + written) (content (first + written)) why s.mid new s.back parts.0 z m s.refuses parts.2 (calm_follows s.back parts.0 z calm parts.2).committed
      (holds_rise s.back parts.0 z (calm_steady s.back calm) parts.2) (fills_marks content first written old s.mid s.front x parts.0 m s.fills parts.1 o)
