-- What a committed group keeps of the objects stays, from line to line.
use Rattle.std.proofs.Common.{◌≡◌, ◌∙◌, ◌+◌, ◌<◌, ◌≤◌, ◌⊎◌, ℕ, zero, suc, Bool, true, false, nat_le, cond, List, [], ◌∷◌, Option, All, Result, Ok, Err, inl, inr, refl, sym, ap, subst, arith, ◌++◌}
use Rattle.std.proofs.lemmas.List.Elements.{All-weaker}
use Rattle.draid_names.specs.declared.refusal.WriteFault.{WriteFault}
use Rattle.draid_names.specs.declared.refusal.WriteFault.TheVariants as refusal
use Rattle.draid_names.specs.declared.room.Room.{Room}
use Rattle.draid_spec.specs.declared.layout.Geometry.{Geometry}
use Rattle.draid_perm.specs.declared.perms.Perms.{Perms}
use Rattle.draid_names.specs.declared.journal.Entry.{Entry}
use Rattle.draid_objects.specs.Changes.{Change, Freed, Wrote, group_of, kept, object_of, upto, write_of}
use Rattle.draid_objects.proofs.Finding.{kept_all, kept_later}
use Rattle.draid_script.specs.Grammar.{line_of}
use Rattle.draid_script.specs.Line.{Command, CreatePool, FillObjects, FreeObject, ImportPool, Silent, WriteObject, TakeCheckpoint, DiscardCheckpoint, RewindPool}
use Rattle.draid_script.specs.declared.fault.LineFault.{LineFault}
use Rattle.draid_script.specs.declared.name.CommandName.TheVariants as name
use Rattle.draid_reply.specs.declared.reply.Reply.{Reply}
use Rattle.draid_reply.specs.declared.reply.Reply.TheVariants.{Crashed, Exported, Filled, FillRefused, FreeNoObject, Freed as FreedIt, Imported, Missed, NoMemory, NoPool, NoSpace, WriteLast, Written, Checkpointed, CheckpointThere, Last, Worn, Discarded, NoCheckpoint, Rewound}
use Rattle.draid_objects.specs.Marks.{Mark}
use Rattle.draid_session.proofs.Syncing.{finishes}
use Rattle.draid_session.proofs.Reverted.{kept_back}
use Rattle.draid_session.specs.GoingBack.{BackStops, GoesBack}
use Rattle.draid_session.specs.Phases.{End, Starved, WasLast, WasWorn, Went}
use Rattle.draid_session.specs.Discarding.{DiscardStops}
use Rattle.draid_session.specs.Book.{Book, HaveBeen}
use Rattle.draid_session.specs.Checkpoints.{GoesBackTo}
use Rattle.draid_session.specs.Choices.{Choices}
use Rattle.draid_session.specs.Does.{Does}
use Rattle.draid_session.specs.Follows.{Follows}
use Rattle.draid_session.specs.Holds.{Hold, LookedUber, OnUber, UberView}
use Rattle.draid_session.specs.Keeping.{Keeps, KeepsOpen, KeepsShut, bytes_in}
use Rattle.draid_session.specs.Looks.{AllOf}
use Rattle.draid_session.specs.Making.{content_of}
use Rattle.draid_session.specs.Opening.{Finds, Imports, MayFind}
use Rattle.draid_session.specs.Said.{Said}
use Rattle.draid_session.specs.Session.{CarriesOut, Desk, FindsGiven, FindsGivenIf, FindsNoGroup, Finding, IsStill, LeavesState, Open, ReplyTurns, Runs, Shut, ShutTurns, Sitting, Turns, TurnsBy, desk_behind, sits}
use Rattle.draid_session.specs.State.{State, Store}
use Rattle.draid_session.specs.Staying.{IsNoCreate, MakesNoPool, MakesNoPoolIn, Stays, StaysIn}
use Rattle.draid_session.specs.Writes as writes
use Rattle.draid_session.proofs.Calm.{follows_store}
use Rattle.draid_session.proofs.Changing.{calm_noted, calm_steps, earlier_uses, fills_fit, leaves_uses, tries_uses, low_two}
use Rattle.draid_session.proofs.Looked.{follows_split}
use Rattle.draid_session.proofs.Rising.{group_rises}
use Rattle.draid_session.proofs.Saying.{high, not_low, same_or_low}
use Rattle.draid_session.proofs.Shelved.{import_fit}
use Rattle.draid_session.proofs.Turning.{line_turns}
use Rattle.draid_session.proofs.Unchanged.{same_store}
use Rattle.draid_session.proofs.WithPool.{Next, open_turns}

-- ---- changes

-- groups up to one keep what they kept
record KeepsUpto (c : ℕ) (old new : List Change) : Type 0 where
  pub each : (group o : ℕ) → group ≤ c → kept group new o ≡ kept group old o

keeps_same : (c : ℕ) (old new : List Change) → new ≡ old → KeepsUpto c old new
keeps_same c old new is = record { each = λ group o low. ap (λ cs. kept group cs o) is }

keeps_then : (c d : ℕ) (old mid new : List Change) → c ≤ d → KeepsUpto c old mid → KeepsUpto d mid new → KeepsUpto c old new
keeps_then c d old mid new less a b = record { each = λ group o low. b.each group o (omega (arith, low, less)) ∙ a.each group o low }

keeps_change : (c : ℕ) (change : Change) (old new : List Change) → c < group_of change → new ≡ change ∷ old → KeepsUpto c old new
keeps_change c change old new later is = record {
  each = λ group o low. ap (λ cs. kept group cs o) is ∙ kept_later group change old o (not_low (group_of change) group (omega (arith, low, later)));
}

-- what a group keeps, of what a later one keeps
under : (t group : ℕ) → t ≤ group → (cs : List Change) → upto t (upto group cs) ≡ upto t cs
under t group low [] = refl
under t group low (c ∷ cs) = by (nat_le (group_of c) group) refl (under t group low cs)
  where
    by : (b : Bool) → nat_le (group_of c) group ≡ b → upto t (upto group cs) ≡ upto t cs → upto t (cond b (c ∷ upto group cs) (upto group cs)) ≡ upto t (c ∷ cs)
    by true is rest = ap (λ xs. cond (nat_le (group_of c) t) (c ∷ xs) xs) rest
    by false is rest = (let more = high (group_of c) group is in
        rest ∙ sym (ap (λ b. cond b (c ∷ upto t cs) (upto t cs)) (not_low (group_of c) t (omega (arith, more, low)))))

keeps_upto : (c group : ℕ) (old new : List Change) → c ≤ group → new ≡ upto group old → KeepsUpto c old new
keeps_upto c group old new less is = record {
  each = λ t o low. ap (λ cs. kept t cs o) is ∙ ap (λ cs. write_of cs o) (under t group (omega (arith, low, less)) old);
}

-- ---- commands that write or free

-- no group is committed, and the groups up to the committed one keep what they kept
record Kept (x z : State) (old new : List Change) : Type 0 where
  pub same : z.committed ≡ x.committed
  pub keeps : KeepsUpto x.committed old new

frees_kept : (object : ℕ) (old new : Store) (holds : List Hold) (x z : State) (b : Book) → writes.Frees object old holds new → Follows holds x z → KeepsOpen x old b
    → Kept x z old.changes new.changes
frees_kept object old new holds x z b f follows fit =
    let u = leaves_uses old.marks f.marks f.w old.floor f.group holds x z f.leaves follows fit.steps fit.noted fit.floor in
    let same = u.1.committed in
    let later = u.0.later in
    record { same = same; keeps = keeps_change x.committed (Freed object f.group) old.changes new.changes (omega (arith, same, later)) (ap (λ (s : Store). s.changes) f.made) }

module _ (geometry : Geometry) (perms : Perms) (chosen : List Room → Option ℕ → Type 0) where
  writes_kept : (object : ℕ) (bytes : List ℕ) (old new : Store) (holds : List Hold) (x z : State) (b : Book) → writes.Writes geometry perms chosen object bytes old holds new
      → Follows holds x z → KeepsOpen x old b → Kept x z old.changes new.changes
  writes_kept object bytes old new holds x z b w follows fit =
      let parts = follows_split w.tried w.freed x z (subst (λ hs. Follows hs x z) w.are follows) in
      let a = parts.0 in
      let t = tries_uses geometry perms chosen object bytes old w.m w.birth w.columns w.tried x a w.tries parts.1 fit.steps fit.noted fit.floor in
      let e = earlier_uses geometry perms chosen old.marks w.marks (write_of old.changes object) w.birth w.group w.freed a z w.leaves parts.2 (calm_steps x a t.1 fit.steps) (calm_noted x a t.1 fit.noted) t.0.is_floor in
      let first = t.1.committed in
      let second = e.2.committed in
      let later = t.0.later in
      record {
        same = second ∙ first;
        keeps = keeps_change x.committed (Wrote (record { object = object; seq = old.seq + 1; metaslab = w.m; birth = w.birth; bytes = bytes })) old.changes new.changes (omega (arith, first, later))
            (ap (λ (s : Store). s.changes) w.made);
      }

  fills_kept : (content : ℕ → List ℕ) (first n : ℕ) (old new : Store) (holds : List Hold) (x z : State) (b : Book) → writes.Fills geometry perms chosen content first n old holds new
      → Follows holds x z → KeepsOpen x old b → Kept x z old.changes new.changes
  fills_kept content first zero old new holds x z b f follows fit =
      let is : z ≡ x = subst (λ hs. Follows hs x z) f.0 follows in
      record { same = ap (λ (s : State). s.committed) is; keeps = keeps_same x.committed old.changes new.changes (ap (λ (s : Store). s.changes) f.1) }
  fills_kept content first (suc n) old new holds x z b f follows fit =
      let parts = follows_split f.0 f.1 x z (subst (λ hs. Follows hs x z) f.3 follows) in
      let before = fills_kept content first n old f.2 f.0 x parts.0 b f.4 parts.1 fit in
      let mid = fills_fit geometry perms chosen content first n old f.2 f.0 x parts.0 b f.4 parts.1 fit in
      let one = writes_kept (first + n) (content (first + n)) f.2 new f.1 parts.0 z _ f.5 parts.2 mid in
      let same = before.same in
      record {
        same = one.same ∙ before.same;
        keeps = keeps_then x.committed parts.0.committed old.changes f.2.changes new.changes (omega (arith, same)) before.keeps one.keeps;
      }

  refuses_kept : (object : ℕ) (bytes : List ℕ) (why : WriteFault) (c : ℕ) (old new : Store) (holds : List Hold) → writes.Refuses geometry perms chosen object bytes why old holds new
      → KeepsUpto c old.changes new.changes
  refuses_kept object bytes (refusal.NoSpace run disabled full worn) c old new holds r = keeps_same c old.changes new.changes (ap (λ (s : Store). s.changes) r.1)
  refuses_kept object bytes (refusal.Missed columns) c old new holds r = keeps_same c old.changes new.changes (ap (λ (s : Store). s.changes) r.made)
  refuses_kept object bytes refusal.Last c old new holds r = keeps_same c old.changes new.changes (ap (λ (s : Store). s.changes) r.1)
  refuses_kept object bytes refusal.NoMemory c old new holds r = keeps_same c old.changes new.changes (ap (λ (s : Store). s.changes) r.1)

  fill_stops_kept : (content : ℕ → List ℕ) (first count written : ℕ) (why : WriteFault) (old new : Store) (holds : List Hold) (x z : State) (b : Book)
      → writes.FillStops geometry perms chosen content first count written why old holds new → Follows holds x z → KeepsOpen x old b → KeepsUpto x.committed old.changes new.changes
  fill_stops_kept content first count written why old new holds x z b s follows fit =
      let parts = follows_split s.front s.back x z (subst (λ hs. Follows hs x z) s.are follows) in
      let before = fills_kept content first written old s.mid s.front x parts.0 b s.fills parts.1 fit in
      keeps_then x.committed x.committed old.changes s.mid.changes new.changes (omega arith) before.keeps
      (refuses_kept (first + written) (content (first + written)) why x.committed s.mid new s.back s.refuses)

-- ---- a book whose last group is the committed one

module _ (x : State) (store : Store) (b : Book) (f : KeepsOpen x store b) where
  -- what a group keeps is what the committed one keeps, or the next, or what there is now
  abbrev sharp : Book
  sharp = record {
    is_open = true;
    now = b.now;
    group = x.committed;
    kept = λ o. bytes_in (kept x.committed store.changes o);
    since = b.now ∷ (λ o. bytes_in (kept (x.committed + 1) store.changes o)) ∷ [];
    untold = 1;
  }

  floor_low : store.floor ≤ x.committed + 2
  floor_low = low_two x store.marks store.floor f.floor

  sharp_had : (group : ℕ) → x.committed ≤ group → HaveBeen sharp (λ o. bytes_in (kept group store.changes o))
  sharp_had group from = by (same_or_low x.committed group from)
    where
      all : x.committed + 2 ≤ group → (o : ℕ) → All (λ c. object_of c ≡ o → group_of c ≤ group) store.changes
      all high_ o = (let low = floor_low in All-weaker (λ c. group_of c ≤ store.floor) (λ c. object_of c ≡ o → group_of c ≤ group) (λ c less is. omega (arith, less, low, high_)) store.changes f.groups)

      next : x.committed < group → (x.committed + 1 ≡ group) ⊎ (x.committed + 1 < group)
      next less = same_or_low (x.committed + 1) group (omega (arith, less))

      later : (x.committed + 1 ≡ group) ⊎ (x.committed + 1 < group) → HaveBeen sharp (λ o. bytes_in (kept group store.changes o))
      later (inl is) = inr (inr (inl (λ o. ap (λ n. bytes_in (kept n store.changes o)) (sym is))))
      later (inr less) = inr (inl (λ o. ap bytes_in (kept_all group o store.changes (all (omega (arith, less)) o)) ∙ sym (f.says.now o)))

      by : (x.committed ≡ group) ⊎ (x.committed < group) → HaveBeen sharp (λ o. bytes_in (kept group store.changes o))
      by (inl is) = inl (λ o. ap (λ n. bytes_in (kept n store.changes o)) (sym is))
      by (inr less) = later (next less)

  sharp_fit : KeepsOpen x store sharp
  sharp_fit = record {
    is_open = refl;
    says = record { now = f.says.now; keeps = λ same o. refl; had = sharp_had };
    low = omega arith;
    few = omega arith;
    under = λ u. omega arith;
    told = f.told;
    some = f.some;
    steps = f.steps;
    inside = f.inside;
    place = f.place;
    noted = f.noted;
    shows = f.shows;
    groups = f.groups;
    floor = f.floor;
  }

-- ---- a pool later

pub stays_same : (x : State) → StaysIn x x
stays_same x = record { later = omega arith; each = λ group o low. refl }

stays_then : (x y z : State) → StaysIn x y → StaysIn y z → StaysIn x z
stays_then x y z a b =
    let first = a.later in
    let second = b.later in
    record { later = omega (arith, first, second); each = λ group o low. b.each group o (omega (arith, low, first)) ∙ a.each group o low }

stays_by : (x y : State) → x.committed ≤ y.committed → KeepsUpto x.committed x.store.changes y.store.changes → StaysIn x y
stays_by x y later keeps = record { later = later; each = keeps.each }

-- ---- a command where the pool is open

module _ (choices : Choices) (old state : State) (b : Book) (fit : KeepsOpen old old.store b) (command : Command) (reply : Reply) (it : CarriesOut choices command reply old state) where
  carried_later : old.committed ≤ state.committed
  carried_later = by reply (open_turns choices old (sharp old old.store b fit) (sharp_fit old old.store b fit) command reply (desk_behind reply state) (state, it, refl))
    where
      by : (r : Reply) → Next (sharp old old.store b fit) command r (desk_behind r state) → old.committed ≤ state.committed
      by (Exported group) n = (let rises = group_rises (sharp old old.store b fit) n.book command (Exported group) n.answers in let low = n.keeps.low in omega (arith, rises, low))
      by Crashed n = (let rises = group_rises (sharp old old.store b fit) n.book command Crashed n.answers in let low = n.keeps.low in omega (arith, rises, low))
      by r n = (let rises = group_rises (sharp old old.store b fit) n.book command r n.answers in let low = n.keeps.low in omega (arith, rises, low))

  carried_keeps : KeepsUpto old.committed old.store.changes it.store.changes
  carried_keeps = by command it.does
    where
      write : (object : ℕ) (bytes : List ℕ) (r : Reply) → Does old.geometry old.perms choices content_of (WriteObject object bytes) old.store it.holds r it.store
          → KeepsUpto old.committed old.store.changes it.store.changes
      write object bytes (Written o) d = (writes_kept old.geometry old.perms choices.room object bytes old.store it.store it.holds old it.mid b d.1 it.follows fit).keeps
      write object bytes (NoSpace o run disabled full worn) d = refuses_kept old.geometry old.perms choices.room object bytes (refusal.NoSpace run disabled full worn) old.committed old.store it.store it.holds d.1
      write object bytes (Missed o columns) d = refuses_kept old.geometry old.perms choices.room object bytes (refusal.Missed columns) old.committed old.store it.store it.holds d.1
      write object bytes (WriteLast o) d = refuses_kept old.geometry old.perms choices.room object bytes refusal.Last old.committed old.store it.store it.holds d.1
      write object bytes (NoMemory name.Write) d = refuses_kept old.geometry old.perms choices.room object bytes refusal.NoMemory old.committed old.store it.store it.holds d
      write object bytes r d = absurd d

      fill : (first count len seed : ℕ) (r : Reply) → Does old.geometry old.perms choices content_of (FillObjects first count len seed) old.store it.holds r it.store
          → KeepsUpto old.committed old.store.changes it.store.changes
      fill first count len seed (Filled f written) d =
          (fills_kept old.geometry old.perms choices.room (λ object. content_of seed object len) first count old.store it.store it.holds old it.mid b d.2 it.follows fit).keeps
      fill first count len seed (FillRefused f written why) d =
          fill_stops_kept old.geometry old.perms choices.room (λ object. content_of seed object len) first count written why old.store it.store it.holds old it.mid b d.1 it.follows fit
      fill first count len seed r d = absurd d

      free : (object : ℕ) (r : Reply) → Does old.geometry old.perms choices content_of (FreeObject object) old.store it.holds r it.store
          → KeepsUpto old.committed old.store.changes it.store.changes
      free object (FreedIt o) d = (frees_kept object old.store it.store it.holds old it.mid b d.1 it.follows fit).keeps
      free object (FreeNoObject o) d = keeps_same old.committed old.store.changes it.store.changes (ap (λ (s : Store). s.changes) d.1)
      free object r d = absurd d

      take : (r : Reply) → Does old.geometry old.perms choices content_of TakeCheckpoint old.store it.holds r it.store → KeepsUpto old.committed old.store.changes it.store.changes
      take (Checkpointed group) d = keeps_same old.committed old.store.changes it.store.changes (ap (λ (s : Store). s.changes) d.2)
      take (CheckpointThere group) d = keeps_same old.committed old.store.changes it.store.changes (ap (λ (s : Store). s.changes) d.0)
      take (Worn name.Checkpoint) d = keeps_same old.committed old.store.changes it.store.changes (ap (λ (s : Store). s.changes) d.0)
      take (Last name.Checkpoint) d = keeps_same old.committed old.store.changes it.store.changes (ap (λ (s : Store). s.changes) d.0)
      take (NoMemory name.Checkpoint) (inl (inl d)) = keeps_same old.committed old.store.changes it.store.changes (ap (λ (s : Store). s.changes) d.0)
      take (NoMemory name.Checkpoint) (inl (inr d)) = keeps_same old.committed old.store.changes it.store.changes (ap (λ (s : Store). s.changes) d.made)
      take (NoMemory name.Checkpoint) (inr d) = keeps_same old.committed old.store.changes it.store.changes (ap (λ (s : Store). s.changes) d.0)
      take r d = absurd d

      same : it.store.changes ≡ old.store.changes → KeepsUpto old.committed old.store.changes it.store.changes
      same is = keeps_same old.committed old.store.changes it.store.changes is

      -- what goes back does so in a group behind the committed one
      goes : (group thin : ℕ) (end : End) → GoesBack old.geometry old.perms old.store it.store group thin it.holds end → KeepsUpto old.committed old.store.changes it.store.changes
      goes group thin end d =
          let first = follows_split d.front (OnUber d.u LookedUber ∷ (d.frees ++ d.back)) old it.mid (subst (λ hs. Follows hs old it.mid) d.are it.follows) in
          let f = finishes old.geometry old.perms d.front Went old first.0 old.store (sharp old old.store b fit) d.finishes first.1 refl (sharp_fit old old.store b fit) in
          let risen = f.keeps.low in
          let sees = ap (λ (u : UberView). u.committed) first.2.1.sees in
          record {
            each = λ t o low. ap (λ cs. kept t cs o) d.reverts.goes.back.are
                ∙ kept_back t d.reverts.goes.check.group (d.u.committed + 1) old.store.changes old.store.changes d.reverts.goes.back.back o (omega (arith, low, risen, sees)) d.reverts.goes.back.each;
          }

      stopped : (end : End) → DiscardStops old.geometry old.perms old.store it.holds end it.store → KeepsUpto old.committed old.store.changes it.store.changes
      stopped end (inl s) = same (ap (λ (s : Store). s.changes) s.0)
      stopped end (inr (at, group, thin, frees, made, other, d)) = same (ap (λ (s : Store). s.changes) made)

      reverts : (end : End) → BackStops old.geometry old.perms old.store it.holds end it.store → KeepsUpto old.committed old.store.changes it.store.changes
      reverts end (inl s) = same (ap (λ (s : Store). s.changes) s.0)
      reverts end (inr (group, thin, other, d)) = goes group thin end d

      rewind : (r : Reply) → Does old.geometry old.perms choices content_of RewindPool old.store it.holds r it.store → KeepsUpto old.committed old.store.changes it.store.changes
      rewind (Rewound group many) (thin, count, d) = goes group thin Went d
      rewind (NoCheckpoint name.Rewind) (none, is, ends) = same (ap (λ (s : Store). s.changes) is)
      rewind (Worn name.Rewind) d = reverts WasWorn d
      rewind (Last name.Rewind) d = reverts WasLast d
      rewind (NoMemory name.Rewind) (inl d) = reverts Starved d
      rewind (NoMemory name.Rewind) (inr s) = same (ap (λ (s : Store). s.changes) s.0)
      rewind r d = absurd d

      discard : (r : Reply) → Does old.geometry old.perms choices content_of DiscardCheckpoint old.store it.holds r it.store → KeepsUpto old.committed old.store.changes it.store.changes
      discard (Discarded freed group) (at, thin, frees, many, made, d) = same (ap (λ (s : Store). s.changes) made)
      discard (NoCheckpoint name.Discard) (none, is, ends) = same (ap (λ (s : Store). s.changes) is)
      discard (Worn name.Discard) d = stopped WasWorn d
      discard (Last name.Discard) d = stopped WasLast d
      discard (NoMemory name.Discard) d = stopped Starved d
      discard r d = absurd d

      by : (c : Command) → Does old.geometry old.perms choices content_of c old.store it.holds reply it.store → KeepsUpto old.committed old.store.changes it.store.changes
      by (WriteObject object bytes) d = write object bytes reply d
      by (FillObjects first count len seed) d = fill first count len seed reply d
      by (FreeObject object) d = free object reply d
      by TakeCheckpoint d = take reply d
      by DiscardCheckpoint d = discard reply d
      by RewindPool d = rewind reply d
      by c d = keeps_same old.committed old.store.changes it.store.changes (ap (λ (s : Store). s.changes) (same_store old.geometry old.perms choices old.store it.store it.holds c reply tt d))

  carried_stays : StaysIn old state
  carried_stays = stays_by old state carried_later (subst (λ (s : State). KeepsUpto old.committed old.store.changes s.store.changes) (sym it.made) carried_keeps)

-- ---- imports

from_found : (x : State) (group : ℕ) → MayFind x group → x.committed ≤ group
from_found x group (inl same) = omega (arith, same)
from_found x group (inr next) = (let is = next.1 in omega (arith, is))

finds_stays : (x mid : State) (group : ℕ) → Finds x group mid → StaysIn x mid
finds_stays x mid group f =
    let from = from_found x group f.found in
    let at = f.committed in
    stays_by x mid (omega (arith, from, at)) (keeps_upto x.committed group x.store.changes mid.store.changes from f.changes)

imports_stays : (x new : State) (b : Book) (group : ℕ) → KeepsShut x b → Imports x group new → StaysIn x new
imports_stays x new b group f i =
    let from = from_found x group i.finds.found in
    let low = (import_fit x new b group f i).low in
    stays_by x new (omega (arith, from, low)) (keeps_upto x.committed group x.store.changes new.store.changes from (ap (λ (s : Store). s.changes) (follows_store i.holds i.mid new i.follows) ∙ i.finds.changes))

still_stays : (x y : State) → IsStill x y → StaysIn x y
still_stays x y s = stays_by x y (let same = ap (λ (z : State). z.committed) s.same in omega (arith, same)) (keeps_same x.committed x.store.changes y.store.changes (ap (λ (z : State). z.store.changes) s.same))

none_stays : (x y : State) → FindsNoGroup x y → StaysIn x y
none_stays x y n = stays_then x (record x { pending = false }) y (record { later = omega arith; each = λ group o low. refl }) (still_stays (record x { pending = false }) y n.is)

leaves_stays : (x y : State) → LeavesState x y → StaysIn x y
leaves_stays x y (inl s) = still_stays x y s
leaves_stays x y (inr found) = finds_stays x y found.0 found.1

given_stays : (x y : State) (b : Book) (reply : Reply) (new : Desk) → KeepsShut y b → StaysIn x y → FindsGiven y reply new → Stays x new
given_stays x y b (Imported called group many) (Open new) keeps stays finds = stays_then x y new stays (imports_stays y new b group keeps finds.0)
given_stays x y b (NoPool name.Import) (Shut true new) keeps stays finds = stays_then x y new stays (none_stays y new finds)
given_stays x y b (NoMemory name.Import) (Shut true new) keeps stays finds = stays_then x y new stays (leaves_stays y new finds)
given_stays x y b (NoMemory name.Import) (Shut false new) keeps stays finds = stays_then x y new stays (imports_stays y new b finds.0 keeps finds.1)
given_stays x y b reply new keeps stays finds = absurd finds

-- ---- lines

behind_stays : (x state : State) (reply : Reply) → StaysIn x state → Stays x (desk_behind reply state)
behind_stays x state (Exported group) stays = stays
behind_stays x state Crashed stays = stays
behind_stays x state reply stays = stays

module _ (choices : Choices) (finds : Finding → Type 0) where
  shut_stays : (x y : State) (crash : Bool) (new : Desk) (b : Book) (command : Command) (reply : Reply) → IsNoCreate command → KeepsShut y b → StaysIn x y
      → ShutTurns finds (Shut crash y) command reply new → Stays x new
  shut_stays x y crash new b (CreatePool text children keys) reply none keeps stays turns = absurd none
  shut_stays x y crash new b ImportPool reply none keeps stays turns = given_stays x y b reply new keeps stays (subst (λ t. FindsGivenIf t y reply new) keeps.told turns)
  shut_stays x y crash new b command reply none keeps stays (called, named, replied, same) = subst (Stays x) (sym same) stays

  reply_stays : (x : State) (old new : Desk) (b : Book) (command : Command) (reply : Reply) → IsNoCreate command → Keeps old b → Stays x old → ReplyTurns choices finds old command reply new
      → Stays x new
  reply_stays x (Open y) new b command reply none keeps stays (state, it, is) =
      subst (Stays x) (sym is) (behind_stays x state reply (stays_then x y state stays (carried_stays choices y state b keeps command reply it)))
  reply_stays x (Shut crash y) new b command reply none keeps stays turns = shut_stays x y crash new b command reply none keeps stays turns
  reply_stays x old new b command reply none keeps stays turns = absurd stays

  pub line_stays : (x : State) (old new : Desk) (b : Book) (line : Result Command LineFault) (saids : List Said) → MakesNoPoolIn line → Keeps old b → Stays x old
      → TurnsBy choices finds line old saids new → Stays x new
  line_stays x old new b (Err fault) saids none keeps stays turns = absurd turns
  line_stays x old new b (Ok command) saids none keeps stays turns = by command saids none turns
    where
      by : (command : Command) (saids : List Said) → IsNoCreate command → Turns choices finds old command saids new → Stays x new
      by Silent [] none t = subst (Stays x) (sym t) stays
      by Silent (said ∷ more) none t = absurd t
      by command (said ∷ []) none t = reply_stays x old new b command said.reply none keeps stays t.1
      by command [] none t = absurd t
      by command (said ∷ other ∷ more) none t = absurd t

  run_stays : (lines : List (List ℕ)) (replies : List (List Said)) (x : State) (old new : Sitting) (b : Book) → AllOf MakesNoPool lines → Keeps old.desk b → Stays x old.desk
      → Runs choices finds true old lines replies new → Stays x new.desk
  run_stays [] [] x old new b none keeps stays runs = subst (λ (s : Sitting). Stays x s.desk) (sym runs) stays
  run_stays (line ∷ lines) (saids ∷ replies) x old new b none keeps stays (mid, turns, agrees, runs) =
      let one = line_turns choices finds (line_of line) old.desk mid.desk b saids keeps turns.0 agrees in
      run_stays lines replies x mid new one.book none.1 one.keeps (line_stays x old.desk mid.desk b (line_of line) saids none.0 keeps stays turns.0) runs
  run_stays [] (saids ∷ replies) x old new b none keeps stays runs = absurd runs
  run_stays (line ∷ lines) [] x old new b none keeps stays runs = absurd runs

  pub pools_stay : (lines : List (List ℕ)) (replies : List (List Said)) (x : State) (journal : List Entry) (new : Sitting) (b : Book) → AllOf MakesNoPool lines → Keeps (Open x) b
      → Runs choices finds true (sits (Open x) journal) lines replies new → Stays x new.desk
  pools_stay lines replies x journal new b none keeps runs = run_stays lines replies x (sits (Open x) journal) new b none keeps (stays_same x) runs

-- ---- a rewind

pub goes_back : (x y : State) (marks : List Mark) (group : ℕ) (new : Store) → StaysIn x y → All (λ c. group_of c ≤ x.committed) x.store.changes → (r : GoesBackTo marks group y.store new)
    → r.check.group ≡ x.committed → (object : ℕ) → write_of new.changes object ≡ write_of x.store.changes object
goes_back x y marks group new stays all r own object =
    let low : r.check.group ≤ x.committed = (let o = own in omega (arith, o)) in
    r.back.now object
    ∙ (stays.each r.check.group object low
    ∙ (ap (λ n. kept n x.store.changes object) own
    ∙ kept_all x.committed object x.store.changes (All-weaker (λ c. group_of c ≤ x.committed) (λ c. object_of c ≡ object → group_of c ≤ x.committed) (λ c less is. less) x.store.changes all)))
