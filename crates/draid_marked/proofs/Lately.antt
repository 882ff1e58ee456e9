-- What the lanes of a section do to objects is of groups behind the committed one.
use Rattle.std.proofs.Common.{◌≡◌, ◌∙◌, ◌+◌, ◌<◌, ◌≤◌, ◌⊎◌, ◌++◌, ℕ, zero, suc, List, [], ◌∷◌, Option, Some, None, length, inl, inr, refl, sym, ap, subst, arith, append_assoc}
use Rattle.std.specs.Prelude.{⊤, flat_map, map, max, slice_get}
use Rattle.std.proofs.lemmas.List.{append_cancel_right}
use Rattle.sha2.specs.Sha256.{sha256}
use Rattle.draid_names.specs.declared.refusal.WriteFault.{WriteFault}
use Rattle.draid_names.specs.declared.refusal.WriteFault.TheVariants as refusal
use Rattle.draid_machine.specs.State as machine
use Rattle.draid_machine.specs.declared.event.Event.TheVariants as event
use Rattle.draid_machine.proofs.Small.{some_same}
use Rattle.draid_objects.specs.Changes.{Change, Freed as FreedIt, Write, Wrote, group_of, kept, key_of}
use Rattle.draid_objects.specs.Marks.{Mark}
use Rattle.draid_objects.proofs.Finding.{kept_later}
use Rattle.draid_script.specs.Line.{Command, SyncPool, RebuildPool, ScrubPool, TakeOffline, TakeOnline, WriteObject, FillObjects, FreeObject, ReadObject, SumObjects}
use Rattle.draid_script.specs.Writing.{IsForLanes}
use Rattle.draid_script.specs.declared.name.CommandName.TheVariants as name
use Rattle.draid_reply.specs.declared.reply.Reply.{Reply}
use Rattle.draid_reply.specs.declared.reply.Reply.TheVariants.{Filled, FillRefused, FreeNoObject, Freed, Missed, NoMemory, NoSpace, WriteLast, Written}
use Rattle.draid_session.specs.Choices.{Choices}
use Rattle.draid_session.specs.Does.{Broken, Does}
use Rattle.draid_session.specs.Follows.{Follows, Holds}
use Rattle.draid_session.specs.Holds.{Act, Did, Hold, Looked, On, OnUber, View}
use Rattle.draid_session.specs.Keeping.{AreInStep, IsInStep}
use Rattle.draid_session.specs.Lanes.{Lane, LanesRan, Says, Section, holds_of, is_of}
use Rattle.draid_session.specs.Looks.{AllOf}
use Rattle.draid_session.specs.Making.{content_of}
use Rattle.draid_session.specs.Rooms.{stripes_for}
use Rattle.draid_session.specs.State.{Metaslab, State, Store}
use Rattle.draid_session.specs.Writes as writes
use Rattle.draid_session.proofs.Calm.{hold_back}
use Rattle.draid_session.proofs.Groupwise.{Held, IsSteadyHold, busy_place, held_by, idle_place, place, place_high}
use Rattle.draid_session.proofs.LanesSteady.{says_steady}
use Rattle.draid_session.proofs.Lanewise.{all_both, all_more, filter_all, lanes_of_locks, looks_left, map_all, map_back, merged_all, merged_back}
use Rattle.draid_session.proofs.Saying.{not_low}
use Rattle.draid_session.proofs.Unchanged.{same_store}
use Rattle.draid_marked.proofs.Deeds.{all_back, all_front}
use Rattle.draid_marked.proofs.Rising.{uber_same}

-- ---- what a hold finds

-- a metaslab that has the group behind the committed one open, or a later one
abbrev Seen : ℕ → Hold → Type 0
Seen c (On v act) = c + c + 3 ≤ place v.world
Seen c (OnUber u act) = ⊤

abbrev Base : ℕ → State → Type 0
Base c s = (k : ℕ) (y : Metaslab) → slice_get s.metaslabs k ≡ Some y → c + c + 3 ≤ place y.world

base_place : (c : ℕ) (w : machine.State) → IsInStep c w → c + c + 3 ≤ place w
base_place c w s = by w.closing refl
  where
    by : (o : Option ℕ) → w.closing ≡ o → c + c + 3 ≤ place w
    by None is = (let p = idle_place w is in let o = s.idle is in omega (arith, p, o))
    by (Some g) is = (let p = busy_place w g is in let q = s.busy g is in let q0 = q.0 in let q1 = q.1 in omega (arith, p, q0, q1))

hold_base : (c : ℕ) (hold : Hold) (s z : State) → IsSteadyHold hold → Holds hold s z → Base c s → Seen c hold × Base c z
hold_base c (OnUber u act) s z steady it base = (tt, λ k y there. base k y (subst (λ (xs : List Metaslab). slice_get xs k ≡ Some y) (uber_same act s z it.acts) there))
hold_base c (On v act) s z steady it base = (seen, λ k w there. by k w there (hold_back v act s z it k w there))
  where
    h : Held v.metaslab it.before v act s z
    h = held_by v.metaslab it.before v act s z refl it.there steady it

    own : c + c + 3 ≤ place it.before.world
    own = base v.metaslab it.before it.there

    seen : c + c + 3 ≤ place v.world
    seen = (let at = ap (λ (u : View). place u.world) it.sees in let low = own in omega (arith, at, low))

    by : (k : ℕ) (w : Metaslab) → slice_get z.metaslabs k ≡ Some w → ((k ≡ v.metaslab) × (slice_get s.metaslabs k ≡ Some it.before) × (it.after ≡ w)) ⊎ ((k ≡ v.metaslab → ⊥) × (slice_get s.metaslabs k ≡ Some w)) → c + c + 3 ≤ place w.world
    by k w there (inl mine) =
        let same : h.after ≡ w = some_same (slice_get z.metaslabs v.metaslab) h.after w h.here (subst (λ n. slice_get z.metaslabs n ≡ Some w) mine.0 there) in
        let at = ap (λ (y : Metaslab). place y.world) same in
        let up = h.moves.rises in
        let low = own in
        omega (arith, at, up, low)
    by k w there (inr other) = base k w other.1

chain_seen : (c : ℕ) (order : List Hold) (s z : State) → AllOf IsSteadyHold order → Follows order s z → Base c s → AllOf (Seen c) order
chain_seen c [] s z steady follows base = tt
chain_seen c (hold ∷ order) s z steady (mid, one, rest) base = (let b = hold_base c hold s mid steady.0 one base in (b.0, chain_seen c order mid z steady.1 rest b.1))

-- ---- what comes of it

abbrev pub Late : ℕ → Change → Type 0
Late c d = c < group_of d

pub record AddsLate (c : ℕ) (old new : List Change) : Type 0 where
  pub more : List Change
  pub are : new ≡ more ++ old
  pub late : AllOf (Late c) more

none_late : (c : ℕ) (old new : List Change) → new ≡ old → AddsLate c old new
none_late c old new is = record { more = []; are = is; late = tt }

one_late : (c : ℕ) (d : Change) (old new : List Change) → new ≡ d ∷ old → c < group_of d → AddsLate c old new
one_late c d old new is late = record { more = d ∷ []; are = is; late = (late, tt) }

then_late : (c : ℕ) (old mid new : List Change) → AddsLate c old mid → AddsLate c mid new → AddsLate c old new
then_late c old mid new a b = record {
  more = b.more ++ a.more;
  are = b.are ∙ (ap (λ cs. b.more ++ cs) a.are ∙ sym (append_assoc b.more a.more old));
  late = all_both (Late c) b.more a.more b.late a.late;
}

seen_group : (c : ℕ) (v : View) (act : Act) (floor group : ℕ) → Seen c (On v act) → group ≡ max v.world.open_group floor → c < group
seen_group c v act floor group seen is = (let high = place_high v.world in omega (arith, seen, high, is))

module _ (c : ℕ) where
  leaves_late : (marks after : List Mark) (w : Write) (floor group : ℕ) (holds : List Hold) → writes.LeavesBlock marks w floor group holds after → AllOf (Seen c) holds → c < group
  leaves_late marks after w floor group holds (inl (loose, f, same)) seen = seen_group c f.v (Did (event.Free (key_of w) group) f.after) floor group (subst (AllOf (Seen c)) f.did seen).0 f.group_is
  leaves_late marks after w floor group holds (inr (kept_, d, same)) seen = seen_group c d.v Looked floor group (subst (AllOf (Seen c)) d.looked seen).0 d.group_is

  module _ (x : State) (choices : Choices) where
    tries_late : (object : ℕ) (bytes : List ℕ) (old : Store) (k birth columns : ℕ) (holds : List Hold) → writes.Tries x.geometry x.perms choices.room object bytes old k birth columns holds → AllOf (Seen c) holds → c < birth
    tries_late object bytes old k birth columns holds t seen =
        let w = t.writes in
        let behind : AllOf (Seen c) t.written = all_back (Seen c) t.looks t.written (subst (AllOf (Seen c)) t.are seen) in
        seen_group c w.v (Did (event.Begin w.key w.first (stripes_for x.geometry bytes) (length bytes) birth (sha256 bytes)) w.begun) old.floor birth (subst (AllOf (Seen c)) w.are behind).0 w.birth_is

    writes_late : (object : ℕ) (bytes : List ℕ) (old new : Store) (holds : List Hold) → writes.Writes x.geometry x.perms choices.room object bytes old holds new → AllOf (Seen c) holds → AddsLate c old.changes new.changes
    writes_late object bytes old new holds w seen = one_late c (Wrote (record { object = object; seq = old.seq + 1; metaslab = w.m; birth = w.birth; bytes = bytes })) old.changes new.changes (ap (λ (s : Store). s.changes) w.made)
        (tries_late object bytes old w.m w.birth w.columns w.tried w.tries (all_front (Seen c) w.tried w.freed (subst (AllOf (Seen c)) w.are seen)))

    refuses_late : (object : ℕ) (bytes : List ℕ) (why : WriteFault) (old new : Store) (holds : List Hold) → writes.Refuses x.geometry x.perms choices.room object bytes why old holds new → AddsLate c old.changes new.changes
    refuses_late object bytes (refusal.NoSpace run disabled full worn) old new holds r = none_late c old.changes new.changes (ap (λ (s : Store). s.changes) r.1)
    refuses_late object bytes (refusal.Missed columns) old new holds r = none_late c old.changes new.changes (ap (λ (s : Store). s.changes) r.made)
    refuses_late object bytes refusal.Last old new holds r = none_late c old.changes new.changes (ap (λ (s : Store). s.changes) r.1)
    refuses_late object bytes refusal.NoMemory old new holds r = none_late c old.changes new.changes (ap (λ (s : Store). s.changes) r.1)

    fills_late : (content : ℕ → List ℕ) (first n : ℕ) (old new : Store) (holds : List Hold) → writes.Fills x.geometry x.perms choices.room content first n old holds new → AllOf (Seen c) holds → AddsLate c old.changes new.changes
    fills_late content first zero old new holds f seen = none_late c old.changes new.changes (ap (λ (s : Store). s.changes) f.1)
    fills_late content first (suc n) old new holds f seen =
        let both = subst (AllOf (Seen c)) f.3 seen in
        then_late c old.changes f.2.changes new.changes (fills_late content first n old f.2 f.0 f.4 (all_front (Seen c) f.0 f.1 both)) (writes_late (first + n) (content (first + n)) f.2 new f.1 f.5 (all_back (Seen c) f.0 f.1 both))

    write_late : (object : ℕ) (bytes : List ℕ) (r : Reply) (old new : Store) (holds : List Hold) → Does x.geometry x.perms choices content_of (WriteObject object bytes) old holds r new → AllOf (Seen c) holds → AddsLate c old.changes new.changes
    write_late object bytes (Written o) old new holds d seen = writes_late object bytes old new holds d.1 seen
    write_late object bytes (NoSpace o run disabled full worn) old new holds d seen = refuses_late object bytes (refusal.NoSpace run disabled full worn) old new holds d.1
    write_late object bytes (Missed o columns) old new holds d seen = refuses_late object bytes (refusal.Missed columns) old new holds d.1
    write_late object bytes (WriteLast o) old new holds d seen = refuses_late object bytes refusal.Last old new holds d.1
    write_late object bytes (NoMemory name.Write) old new holds d seen = refuses_late object bytes refusal.NoMemory old new holds d
    write_late object bytes r old new holds d seen = absurd d

    fill_late : (first count len seed : ℕ) (r : Reply) (old new : Store) (holds : List Hold) → Does x.geometry x.perms choices content_of (FillObjects first count len seed) old holds r new → AllOf (Seen c) holds → AddsLate c old.changes new.changes
    fill_late first count len seed (Filled f written) old new holds d seen = fills_late (λ object. content_of seed object len) first count old new holds d.2 seen
    fill_late first count len seed (FillRefused f written why) old new holds d seen =
        let s = d.1 in
        then_late c old.changes s.mid.changes new.changes (fills_late (λ object. content_of seed object len) first written old s.mid s.front s.fills (all_front (Seen c) s.front s.back (subst (AllOf (Seen c)) s.are seen)))
        (refuses_late (first + written) (content_of seed (first + written) len) why s.mid new s.back s.refuses)
    fill_late first count len seed r old new holds d seen = absurd d

    free_late : (object : ℕ) (r : Reply) (old new : Store) (holds : List Hold) → Does x.geometry x.perms choices content_of (FreeObject object) old holds r new → AllOf (Seen c) holds → AddsLate c old.changes new.changes
    free_late object (Freed o) old new holds d seen =
        let f = d.1 in
        one_late c (FreedIt object f.group) old.changes new.changes (ap (λ (s : Store). s.changes) f.made) (leaves_late old.marks f.marks f.w old.floor f.group holds f.leaves seen)
    free_late object (FreeNoObject o) old new holds d seen = none_late c old.changes new.changes (ap (λ (s : Store). s.changes) d.1)
    free_late object r old new holds d seen = absurd d

    does_late : (command : Command) (r : Reply) (old new : Store) (holds : List Hold) → IsForLanes command → Does x.geometry x.perms choices content_of command old holds r new → AllOf (Seen c) holds → AddsLate c old.changes new.changes
    does_late (WriteObject object bytes) r old new holds is d seen = write_late object bytes r old new holds d seen
    does_late (FillObjects first count len seed) r old new holds is d seen = fill_late first count len seed r old new holds d seen
    does_late (FreeObject object) r old new holds is d seen = free_late object r old new holds d seen
    does_late (ReadObject object) r old new holds is d seen = none_late c old.changes new.changes (ap (λ (s : Store). s.changes) (same_store x.geometry x.perms choices old new holds (ReadObject object) r tt d))
    does_late (SumObjects first count) r old new holds is d seen = none_late c old.changes new.changes (ap (λ (s : Store). s.changes) (same_store x.geometry x.perms choices old new holds (SumObjects first count) r tt d))
    does_late SyncPool r old new holds is d seen = none_late c old.changes new.changes (ap (λ (s : Store). s.changes) (same_store x.geometry x.perms choices old new holds SyncPool r tt d))
    does_late (RebuildPool limit) r old new holds is d seen = none_late c old.changes new.changes (ap (λ (s : Store). s.changes) (same_store x.geometry x.perms choices old new holds (RebuildPool limit) r tt d))
    does_late (ScrubPool limit) r old new holds is d seen = none_late c old.changes new.changes (ap (λ (s : Store). s.changes) (same_store x.geometry x.perms choices old new holds (ScrubPool limit) r tt d))
    does_late (TakeOffline leaf) r old new holds is d seen = none_late c old.changes new.changes (ap (λ (s : Store). s.changes) (same_store x.geometry x.perms choices old new holds (TakeOffline leaf) r tt d))
    does_late (TakeOnline leaf) r old new holds is d seen = none_late c old.changes new.changes (ap (λ (s : Store). s.changes) (same_store x.geometry x.perms choices old new holds (TakeOnline leaf) r tt d))
    does_late command r old new holds is d seen = absurd is

    broken_same : (command : Command) (old new : Store) (left : List Hold) → IsForLanes command → Broken x.geometry x.perms command old left new → new ≡ old
    broken_same SyncPool old new left is d = d.0
    broken_same (TakeOffline leaf) old new left is d = d.0
    broken_same (TakeOnline leaf) old new left is d = d.0
    broken_same (RebuildPool limit) old new left is d = d.0
    broken_same (WriteObject object bytes) old new left is d = absurd d
    broken_same (FillObjects first count len seed) old new left is d = absurd d
    broken_same (FreeObject object) old new left is d = absurd d
    broken_same (ReadObject object) old new left is d = absurd d
    broken_same (SumObjects first count) old new left is d = absurd d
    broken_same (ScrubPool limit) old new left is d = absurd d
    broken_same command old new left is d = absurd is

    says_late : (commands : List Command) (old new : Store) (holds : List Hold) (replies : List Reply) → AllOf IsForLanes commands → Says x choices commands old holds replies new → AllOf (Seen c) holds → AddsLate c old.changes new.changes
    says_late [] old new holds [] of s seen = none_late c old.changes new.changes (ap (λ (t : Store). t.changes) s.1)
    says_late [] old new holds (r ∷ replies) of s seen = absurd s
    says_late (command ∷ commands) old new holds (r ∷ replies) of (front, back, left, mid, are, leaves, does, rest) seen =
        let both = subst (AllOf (Seen c)) are seen in
        then_late c old.changes mid.changes new.changes (does_late command r old mid left of.0 does (looks_left (Seen c) front left leaves (all_front (Seen c) front back both)))
        (says_late commands mid new back replies of.1 rest (all_back (Seen c) front back both))
    says_late (command ∷ commands) old new holds [] of (left, leaves, broken) seen = none_late c old.changes new.changes (ap (λ (t : Store). t.changes) (broken_same command old new left of.0 broken))

-- what earlier groups keep stays
pub kept_front : (t c : ℕ) (cs more : List Change) (object : ℕ) → t ≤ c → AllOf (Late c) more → kept t (more ++ cs) object ≡ kept t cs object
kept_front t c cs [] object less late = refl
kept_front t c cs (d ∷ more) object less late =
    (let above = late.0 in kept_later t d (more ++ cs) object (not_low (group_of d) t (omega (arith, less, above)))) ∙ kept_front t c cs more object less late.1

-- ---- a section

module _ (x : State) (choices : Choices) (commands : List (List Command)) (replies : List (List Reply)) (new : State) (of : AllOf (AllOf IsForLanes) commands) (it : Section x choices commands replies new) (steps : AreInStep x) where
  abbrev holds_in : List (Lane x choices) → List (List Hold)
  holds_in lanes = map (λ (lane : Lane x choices). lane.holds) lanes

  abbrev held : List (List Hold)
  held = holds_in it.lanes

  lanes_steady : (lanes : List (Lane x choices)) (asked : List (List Command)) (said : List (List Reply)) → AllOf (AllOf IsForLanes) asked → LanesRan x choices lanes asked said → AllOf (AllOf IsSteadyHold) (holds_in lanes)
  lanes_steady [] [] [] of ran = tt
  lanes_steady (l ∷ lanes) (cs ∷ more) (rs ∷ others) of ran = (says_steady x choices cs x.store l.store l.holds rs of.0 ran.0.says, lanes_steady lanes more others of.1 ran.1)
  lanes_steady [] [] (r ∷ rs) of ran = absurd ran
  lanes_steady [] (k ∷ ks) said of ran = absurd ran
  lanes_steady (l ∷ lanes) [] said of ran = absurd ran
  lanes_steady (l ∷ lanes) (k ∷ ks) [] of ran = absurd ran

  pub order_steady : (lock : Option ℕ) → AllOf IsSteadyHold (it.together.each lock).order
  order_steady lock =
      let t = it.together.each lock in
      merged_all IsSteadyHold (map (holds_of lock) held) t.order
      (map_all (AllOf IsSteadyHold) (holds_of lock) held (all_more (AllOf IsSteadyHold) (λ holds. AllOf IsSteadyHold (holds_of lock holds)) held (λ holds all. filter_all IsSteadyHold (λ hold. is_of lock hold) holds all)
      (lanes_steady it.lanes commands replies of it.ran))) t.merged

  order_seen : (lock : Option ℕ) → AllOf (Seen x.committed) (it.together.each lock).order
  order_seen lock = (let t = it.together.each lock in chain_seen x.committed t.order x t.reached (order_steady lock) t.follows (λ k y there. base_place x.committed y.world (steps k y there)))

  all_seen : AllOf (AllOf (Seen x.committed)) held
  all_seen = lanes_of_locks (Seen x.committed) held (λ lock.
      map_back (AllOf (Seen x.committed)) (holds_of lock) held (merged_back (Seen x.committed) (map (holds_of lock) held) (it.together.each lock).order (order_seen lock) (it.together.each lock).merged))

  lanes_late : (lanes : List (Lane x choices)) (asked : List (List Command)) (said : List (List Reply)) → AllOf (AllOf IsForLanes) asked → LanesRan x choices lanes asked said → AllOf (AllOf (Seen x.committed)) (holds_in lanes)
      → AllOf (Late x.committed) (flat_map (λ (lane : Lane x choices). lane.own) lanes)
  lanes_late [] [] [] of ran seen = tt
  lanes_late (l ∷ lanes) (cs ∷ more) (rs ∷ others) of ran seen =
      let a = says_late x.committed x choices cs x.store l.store l.holds rs of.0 ran.0.says seen.0 in
      let same : l.own ≡ a.more = append_cancel_right l.own a.more x.store.changes (sym ran.0.changes ∙ a.are) in
      all_both (Late x.committed) l.own (flat_map (λ (lane : Lane x choices). lane.own) lanes) (subst (AllOf (Late x.committed)) (sym same) a.late) (lanes_late lanes more others of.1 ran.1 seen.1)
  lanes_late [] [] (r ∷ rs) of ran seen = absurd ran
  lanes_late [] (k ∷ ks) said of ran seen = absurd ran
  lanes_late (l ∷ lanes) [] said of ran seen = absurd ran
  lanes_late (l ∷ lanes) (k ∷ ks) [] of ran seen = absurd ran

  -- all that the lanes did to objects is of groups behind the one that was committed
  pub section_late : AddsLate x.committed x.store.changes new.store.changes
  section_late = record { more = flat_map (λ (lane : Lane x choices). lane.own) it.lanes; are = ap (λ (s : Store). s.changes) it.made; late = lanes_late it.lanes commands replies of it.ran all_seen }
