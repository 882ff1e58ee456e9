-- What befell objects by a lane's command is of objects that the lane owns.
use Rattle.std.proofs.Common.{◌≡◌, ◌+◌, ◌++◌, ◌∷◌, ◌∙◌, [], ℕ, zero, suc, Bool, true, List, Option, arith, sym, ap, inl, inr, None, Some, refl}
use Rattle.std.proofs.lemmas.List.{append_assoc}
use Rattle.std.proofs.lemmas.List.Elements.{All-append, All-cons, All-nil}
use Rattle.draid_names.specs.declared.refusal.WriteFault.{WriteFault}
use Rattle.draid_names.specs.declared.refusal.WriteFault.TheVariants as fault
use Rattle.draid_names.specs.declared.room.Room.{Room}
use Rattle.draid_spec.specs.declared.layout.Geometry.{Geometry}
use Rattle.draid_perm.specs.declared.perms.Perms.{Perms}
use Rattle.draid_script.specs.Line.{Command, FillObjects, FreeObject, ReadObject, RebuildPool, ScrubPool, SumObjects, SyncPool, TakeOffline, TakeOnline, WriteObject}
use Rattle.draid_script.specs.declared.name.CommandName.TheVariants as name
use Rattle.draid_reply.specs.declared.reply.Reply.{Reply}
use Rattle.draid_reply.specs.declared.reply.Reply.TheVariants.{FillRefused, Filled, FreeNoObject, Freed, Missed, NoMemory, NoSpace, WriteLast, Written}
use Rattle.draid_objects.specs.Changes.{Change, object_of, Write, write_of}
use Rattle.draid_objects.specs.Changes as changes
use Rattle.draid_session.specs.Choices.{Choices}
use Rattle.draid_session.specs.Does.{Does}
use Rattle.draid_session.specs.Holds.{Hold}
use Rattle.draid_session.specs.Making.{content_of}
use Rattle.draid_session.specs.State.{Store}
use Rattle.draid_session.specs.Writes as writes
use Rattle.draid_session.proofs.Unchanged.{same_store}
use Rattle.draid_store.specs.Fetching.{OwnsFrom}
use Rattle.draid_lanes.specs.Telling.{Grows}
use Rattle.draid_works.specs.Job.{IsOfLane}
use Rattle.draid_objects.specs.Marks.{Mark, check_by}

-- where no checkpoint stands nothing befalls one
leaves_same : (marks after : List Mark) (w : Write) (floor group : ℕ) (holds : List Hold) → check_by marks ≡ None → writes.LeavesBlock marks w floor group holds after → after ≡ marks
leaves_same marks after w floor group holds none (inl f) = f.2
leaves_same marks after w floor group holds none (inr d) = absurd (let both = sym none ∙ d.0.1 in cc)

earlier_same : (marks after : List Mark) (o : Option Write) (floor group : ℕ) (holds : List Hold) → check_by marks ≡ None → writes.LeavesEarlier marks o floor group holds after → after ≡ marks
earlier_same marks after None floor group holds none f = f.2
earlier_same marks after (Some w) floor group holds none f = leaves_same marks after w floor group holds none f

module _ (owns : ℕ → Bool) where
  pub grows_self : (old new : Store) → new ≡ old → Grows owns old new
  grows_self old new same = record { since = []; added = ap (λ (s : Store). s.changes) same; own = All-nil (λ c. owns (object_of c) ≡ true); marks = λ none. ap (λ (s : Store). s.marks) same }

  -- nothing befell an object, whatever else is another
  grows_none : (old new : Store) → new.changes ≡ old.changes → (check_by old.marks ≡ None → new.marks ≡ old.marks) → Grows owns old new
  grows_none old new same marks = record { since = []; added = same; own = All-nil (λ c. owns (object_of c) ≡ true); marks = marks }

  grows_one : (old new : Store) (c : Change) → owns (object_of c) ≡ true → new.changes ≡ c ∷ old.changes → (check_by old.marks ≡ None → new.marks ≡ old.marks) → Grows owns old new
  grows_one old new c mine added marks = record { since = c ∷ []; added = added; own = All-cons (λ d. owns (object_of d) ≡ true) c [] mine (All-nil (λ d. owns (object_of d) ≡ true)); marks = marks }

  pub grows_then : (old mid new : Store) → Grows owns old mid → Grows owns mid new → Grows owns old new
  grows_then old mid new one two = record {
    since = two.since ++ one.since;
    added = two.added ∙ (ap (λ l. two.since ++ l) one.added ∙ sym (append_assoc two.since one.since old.changes));
    own = All-append (λ c. owns (object_of c) ≡ true) two.since one.since two.own one.own;
    marks = λ none. two.marks (ap check_by (one.marks none) ∙ none) ∙ one.marks none;
  }

  module _ (geometry : Geometry) (perms : Perms) where
    module _ (chosen : List Room → Option ℕ → Type 0) where
      writes_grow : (object : ℕ) (bytes : List ℕ) (old new : Store) (holds : List Hold) → owns object ≡ true → writes.Writes geometry perms chosen object bytes old holds new → Grows owns old new
      writes_grow object bytes old new holds mine w =
          grows_one old new (changes.Wrote (record { object = object; seq = old.seq + 1; metaslab = w.m; birth = w.birth; bytes = bytes })) mine (ap (λ (s : Store). s.changes) w.made) (λ none. ap (λ (s : Store). s.marks) w.made ∙ earlier_same old.marks w.marks (write_of old.changes object) w.birth w.group w.freed none w.leaves)

      refuses_grow : (object : ℕ) (bytes : List ℕ) (why : WriteFault) (old new : Store) (holds : List Hold) → writes.Refuses geometry perms chosen object bytes why old holds new → Grows owns old new
      refuses_grow object bytes (fault.NoSpace run disabled full worn) old new holds r = grows_self old new r.1
      refuses_grow object bytes (fault.Missed columns) old new holds r = grows_none old new (ap (λ (s : Store). s.changes) r.made) (λ none. ap (λ (s : Store). s.marks) r.made)
      refuses_grow object bytes fault.Last old new holds r = grows_self old new r.1
      refuses_grow object bytes fault.NoMemory old new holds r = grows_self old new r.1

      fills_grow : (content : ℕ → List ℕ) (first count : ℕ) (old new : Store) (holds : List Hold) → OwnsFrom owns first count → writes.Fills geometry perms chosen content first count old holds new → Grows owns old new
      fills_grow content first zero old new holds mine f = grows_self old new f.1
      fills_grow content first (suc n) old new holds mine f =
          let front = fills_grow content first n old f.2 f.0 (λ o from below. mine o from (omega (arith, below))) f.4 in
          grows_then old f.2 new front (writes_grow (first + n) (content (first + n)) f.2 new f.1 (mine (first + n) (omega arith) (omega arith)) f.5)

      fill_stops_grow : (content : ℕ → List ℕ) (first count written : ℕ) (why : WriteFault) (old new : Store) (holds : List Hold) → OwnsFrom owns first count → writes.FillStops geometry perms chosen content first count written why old holds new
          → Grows owns old new
      fill_stops_grow content first count written why old new holds mine s =
          let fewer = s.fewer in
          grows_then old s.mid new (fills_grow content first written old s.mid s.front (λ o from below. mine o from (omega (arith, below, fewer))) s.fills) (refuses_grow (first + written) (content (first + written)) why s.mid new s.back s.refuses)

    module _ (choices : Choices) (old new : Store) (holds : List Hold) where
      abbrev DoesTo : Command → Reply → Type 0
      DoesTo command reply = Does geometry perms choices content_of command old holds reply new

      write_grows : (object : ℕ) (bytes : List ℕ) (reply : Reply) → owns object ≡ true → DoesTo (WriteObject object bytes) reply → Grows owns old new
      write_grows object bytes (Written o) mine d = writes_grow choices.room object bytes old new holds mine d.1
      write_grows object bytes (NoSpace o run disabled full worn) mine d = refuses_grow choices.room object bytes (fault.NoSpace run disabled full worn) old new holds d.1
      write_grows object bytes (Missed o columns) mine d = refuses_grow choices.room object bytes (fault.Missed columns) old new holds d.1
      write_grows object bytes (WriteLast o) mine d = refuses_grow choices.room object bytes fault.Last old new holds d.1
      write_grows object bytes (NoMemory name.Write) mine d = refuses_grow choices.room object bytes fault.NoMemory old new holds d
      write_grows object bytes reply mine d = absurd d

      fill_grows : (first count len seed : ℕ) (reply : Reply) → OwnsFrom owns first count → DoesTo (FillObjects first count len seed) reply → Grows owns old new
      fill_grows first count len seed (Filled f written) mine d = fills_grow choices.room (λ object. content_of seed object len) first count old new holds mine d.2
      fill_grows first count len seed (FillRefused f written why) mine d = fill_stops_grow choices.room (λ object. content_of seed object len) first count written why old new holds mine d.1
      fill_grows first count len seed reply mine d = absurd d

      free_grows : (object : ℕ) (reply : Reply) → owns object ≡ true → DoesTo (FreeObject object) reply → Grows owns old new
      free_grows object (Freed o) mine d = grows_one old new (changes.Freed object d.1.group) mine (ap (λ (s : Store). s.changes) d.1.made) (λ none. ap (λ (s : Store). s.marks) d.1.made ∙ leaves_same old.marks d.1.marks d.1.w old.floor d.1.group holds none d.1.leaves)
      free_grows object (FreeNoObject o) mine d = grows_self old new d.1
      free_grows object reply mine d = absurd d

      -- a command that may be given to the lane
      pub does_grow : (command : Command) (reply : Reply) → IsOfLane owns command → DoesTo command reply → Grows owns old new
      does_grow (WriteObject object bytes) reply of_lane d = write_grows object bytes reply of_lane d
      does_grow (FillObjects first count len seed) reply of_lane d = fill_grows first count len seed reply of_lane d
      does_grow (FreeObject object) reply of_lane d = free_grows object reply of_lane d
      does_grow SyncPool reply of_lane d = grows_self old new (same_store geometry perms choices old new holds SyncPool reply tt d)
      does_grow (ReadObject object) reply of_lane d = grows_self old new (same_store geometry perms choices old new holds (ReadObject object) reply tt d)
      does_grow (SumObjects first count) reply of_lane d = grows_self old new (same_store geometry perms choices old new holds (SumObjects first count) reply tt d)
      does_grow (TakeOffline leaf) reply of_lane d = grows_self old new (same_store geometry perms choices old new holds (TakeOffline leaf) reply tt d)
      does_grow (TakeOnline leaf) reply of_lane d = grows_self old new (same_store geometry perms choices old new holds (TakeOnline leaf) reply tt d)
      does_grow (RebuildPool limit) reply of_lane d = grows_self old new (same_store geometry perms choices old new holds (RebuildPool limit) reply tt d)
      does_grow (ScrubPool limit) reply of_lane d = grows_self old new (same_store geometry perms choices old new holds (ScrubPool limit) reply tt d)
      does_grow command reply of_lane d = absurd of_lane

-- where no checkpoint stands none does behind a fill
pub fills_leave : (geometry : Geometry) (perms : Perms) (chosen : List Room → Option ℕ → Type 0) (content : ℕ → List ℕ) (first count : ℕ) (old new : Store) (holds : List Hold) → check_by old.marks ≡ None → writes.Fills geometry perms chosen content first count old holds new
    → new.marks ≡ old.marks
fills_leave geometry perms chosen content first count old new holds none f = (fills_grow (λ object. true) geometry perms chosen content first count old new holds (λ object from below. refl) f).marks none
