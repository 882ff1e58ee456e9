-- What becomes of a section at its end: of the pool, of the desk, and of where the run stands.
use Rattle.std.proofs.Common.{refl, sym, subst, ap, ◌≡◌, ◌∙◌, inl, inr, arith, ℕ, zero, suc, List, Bool, true, false, [], ◌∷◌, Option, Some, None, Result, Ok, Err, Vec, Global, length}
use Rattle.std.specs.Prelude.{IfErr, IfOk, slice_get}
use Rattle.std.specs.List.{list_any}
use Rattle.draid_names.specs.Faults.{Rose}
use Rattle.draid_rack.specs.declared.Rack as racks
use Rattle.draid_area.specs.declared.Area as areas
use Rattle.draid_script.specs.Line.{Command}
use Rattle.draid_script.specs.declared.name.CommandName.TheVariants as name
use Rattle.draid_reply.specs.declared.reply.Reply.{Reply}
use Rattle.draid_reply.specs.declared.reply.Reply.TheVariants.{LanesCheckpoint, NoPool}
use Rattle.draid_objects.specs.Marks.{check_by}
use Rattle.draid_session.specs.Choices.{Choices}
use Rattle.draid_session.specs.Known.{Known}
use Rattle.draid_session.specs.Looks.{AllOf}
use Rattle.draid_session.specs.Places.{Ended, Outside}
use Rattle.draid_session.specs.Said.{alone}
use Rattle.draid_session.specs.Sections.{AllReplied, ClashesMend, NoClash, PlaceBehind, RefusesSection, SectionTurns}
use Rattle.draid_session.specs.Session.{Desk, Untouched, Bare, Made, Open, Shut, Foreign, Unknown}
use Rattle.draid_session.specs.State.{State}
use Rattle.draid_pool.specs.Failing as failing
use Rattle.draid_pool.specs.Knows.{FitsKnown, KnowsPointers}
use Rattle.draid_pool.specs.Objects.{PointsTo, blocks_of}
use Rattle.draid_pool.specs.Pointers.{pointer_in}
use Rattle.draid_pool.specs.Pools.{Represents}
use Rattle.draid_pool.specs.Shelves.{OnShelf}
use Rattle.draid_pool.specs.Ubers.{IsUber}
use Rattle.draid_pool.specs.Whole.{IsWhole}
use Rattle.draid_pool.specs.declared.pool.Pool.{Pool}
use Rattle.draid_objects.specs.Changes.{write_of}
use Rattle.draid_uber.specs.Uber.{count_of, point_of}
use Rattle.draid_run.specs.Desks.{IsDesk, IsPool, IsShelf}
use Rattle.draid_pool.specs.Keeping.{SamePool}
use Rattle.draid_run.specs.Sections.{IsStopped, LanesTeach, RunsSection, SectionIs, StopWhere, StopsWhere, place_of}
use Rattle.draid_print.specs.Printing.{replies_in}
use Rattle.draid_run.specs.Shelves.{AreaRose, PoolFails}
use Rattle.draid_print.specs.declared.printing.LaneReplies.{LaneReplies}
use Rattle.draid_run.proofs.Risen.{rose_some}
use Rattle.draid_session.specs.Points.{HasPoint, IsPointOf}
use Rattle.draid_pool.proofs.Points.{none_stands, point_stands}
use Rattle.draid_machine.proofs.Small.{none_some}

-- ---- lanes that were stopped

all_replied : (lanes : List (List Command)) (ran : List LaneReplies) → StopWhere lanes ran → list_any (λ (lane : LaneReplies). lane.stopped) ran ≡ false → AllReplied lanes (replies_in ran)
all_replied [] [] stops none = tt
all_replied [] (r ∷ ran) stops none = absurd stops
all_replied (l ∷ lanes) [] stops none = absurd stops
all_replied (l ∷ lanes) (r ∷ ran) stops none = by r.stopped refl stops.0 none (λ rest. all_replied lanes ran stops.1 rest)
  where
    by : (b : Bool) → r.stopped ≡ b → StopsWhere r.stopped l r.replies.items → list_any (λ (lane : LaneReplies). lane.stopped) (r ∷ ran) ≡ false
        → (list_any (λ (lane : LaneReplies). lane.stopped) ran ≡ false → AllReplied lanes (replies_in ran)) → AllReplied (l ∷ lanes) (replies_in (r ∷ ran))
    by true is stop any others = absurd (cc (is, any))
    by false is stop any others = (subst (λ b. StopsWhere b l r.replies.items) is stop, others (cc (is, any)))

not_replied : (lanes : List (List Command)) (ran : List LaneReplies) → StopWhere lanes ran → list_any (λ (lane : LaneReplies). lane.stopped) ran ≡ true → AllReplied lanes (replies_in ran) → ⊥
not_replied [] [] stops some all = cc some
not_replied [] (r ∷ ran) stops some all = absurd stops
not_replied (l ∷ lanes) [] stops some all = absurd stops
not_replied (l ∷ lanes) (r ∷ ran) stops some all = by r.stopped refl stops.0 some (λ rest. not_replied lanes ran stops.1 rest all.1)
  where
    by : (b : Bool) → r.stopped ≡ b → StopsWhere r.stopped l r.replies.items → list_any (λ (lane : LaneReplies). lane.stopped) (r ∷ ran) ≡ true → (list_any (λ (lane : LaneReplies). lane.stopped) ran ≡ true → ⊥) → ⊥
    by true is stop any others = (let few = subst (λ b. StopsWhere b l r.replies.items) is stop in let same = all.0 in omega (arith, few, same))
    by false is stop any others = others (cc (is, any))

none_stopped : (ran : List LaneReplies) → AllOf (λ (lane : LaneReplies). lane.stopped ≡ false) ran → list_any (λ (lane : LaneReplies). lane.stopped) ran ≡ false
none_stopped [] all = refl
none_stopped (r ∷ ran) all = (let first = all.0 in let rest = none_stopped ran all.1 in cc (first, rest))

-- where the run stands behind the lanes
behind_ran : (lanes : List (List Command)) (ran : Vec LaneReplies Global) → StopWhere lanes ran.items → PlaceBehind lanes (replies_in ran.items) (place_of (Ok ran))
behind_ran lanes ran stops = by (list_any (λ (lane : LaneReplies). lane.stopped) ran.items) refl
  where
    by : (b : Bool) → list_any (λ (lane : LaneReplies). lane.stopped) ran.items ≡ b → PlaceBehind lanes (replies_in ran.items) (place_of (Ok ran))
    by true is = rw is (not_replied lanes ran.items stops is)
    by false is = rw is (all_replied lanes ran.items stops is)

ended_stopped : (ran : Vec LaneReplies Global) → place_of (Ok ran) ≡ Ended → IsStopped ran.items
ended_stopped ran ended all = (let none = none_stopped ran.items all in let place : place_of (Ok ran) ≡ Outside = rw none refl in let e = sym place ∙ ended in cc e)

-- ---- a pool that is as it was

-- what holds of an answer
pub of_ok : {T E : Type 0} (r : Result T E) (t : T) (P : T → Type 0) → r ≡ Ok t → IfOk r P → P t
of_ok r t P is holds = subst (λ q. IfOk q P) is holds

pub of_err : {T E : Type 0} (r : Result T E) (e : E) (P : E → Type 0) → r ≡ Err e → IfErr r P → P e
of_err r e P is holds = subst (λ q. IfErr q P) is holds

-- an open pool is whole
pub pool_whole : {R A : Type 0} (rack : racks.Ghosts R) (area : areas.Ghosts A) (pool : Pool R A) (x : Desk) → IsPool rack area (Some pool) x → IsWhole rack area pool
pool_whole rack area pool (Open y) stands = stands.0
pool_whole rack area pool (Foreign known) stands = stands.0
pool_whole rack area pool Untouched stands = absurd stands
pool_whole rack area pool Bare stands = absurd stands
pool_whole rack area pool (Made told failed geometry) stands = absurd stands
pool_whole rack area pool (Shut crash y) stands = absurd stands
pool_whole rack area pool Unknown stands = absurd stands

pub same_pool : {R A : Type 0} (pool : Pool R A) → SamePool pool pool
same_pool pool = record { geometry = refl; metaslabs = refl; uber = refl; objects = λ object. refl; seq = refl; floor = refl }

module _ {R A : Type 0} (rack : racks.Ghosts R) (area : areas.Ghosts A) (old new : Pool R A) (same : SamePool old new) where
  pub same_stands : (x : State) → Represents rack area old x → Represents rack area new x
  same_stands x is = let s = is.stands in record {
    stands = record {
      geometry = s.geometry ∙ sym same.geometry;
      layout = s.layout;
      many = s.many;
      shards = ap (λ shards. length shards) same.metaslabs ∙ s.shards;
      pieces = s.pieces;
      each = λ m shard y at there. s.each m shard y (ap (λ shards. slice_get shards m) (sym same.metaslabs) ∙ at) there;
      holds = s.holds;
      groups = s.groups;
      objects = λ object. subst (λ p. PointsTo new.metaslabs.shards.items p (write_of x.store.changes object)) (sym (same.objects object))
          (subst (λ shards. PointsTo shards (pointer_in old object) (write_of x.store.changes object)) (sym same.metaslabs) (s.objects object));
      seq = s.seq ∙ sym same.seq;
      floor = s.floor ∙ sym same.floor;
      uber = subst (λ u. IsUber area u x) (sym same.uber) s.uber;
      images = s.images;
      leaves = s.leaves;
      shared = s.shared;
      versions = s.versions;
      alike = s.alike;
    };
    only = is.only;
  }

  pub same_knows : (known : Known) → KnowsPointers old known → KnowsPointers new known
  same_knows known knows object = subst (FitsKnown (known object)) (sym (same.objects object)) (knows object)

-- ---- a count that rose

some_at : {S T : Type 0} (xs : List S) (ys : List T) → length xs ≡ length ys → (m : ℕ) (x : S) → slice_get xs m ≡ Some x → (y : T) × (slice_get ys m ≡ Some y)
some_at [] [] same m x at = absurd (cc at)
some_at [] (y ∷ ys) same m x at = absurd (cc at)
some_at (x' ∷ xs) [] same m x at = absurd (omega (arith, same))
some_at (x' ∷ xs) (y ∷ ys) same zero x at = (y, refl)
some_at (x' ∷ xs) (y ∷ ys) same (suc m) x at = some_at xs ys (omega (arith, same)) m x at

module _ {R A : Type 0} (rack : racks.Ghosts R) (area : areas.Ghosts A) (old new : Pool R A) where
  pub rose_states : (x y : State) → Represents rack area old x → Represents rack area new y → failing.AreaRose area.faults old new → AreaRose x y
  rose_states x y before after (inl rose) = inr (subst (λ n. Rose x.uber_count n) (sym after.stands.uber.count) (subst (λ n. Rose n (count_of area.faults new.uber)) (sym before.stands.uber.count) rose))
  rose_states x y before after (inr (m, a, b, at, there, rose)) =
      let xm = some_at old.metaslabs.shards.items x.metaslabs before.stands.shards m a at in
      let ym = some_at new.metaslabs.shards.items y.metaslabs after.stands.shards m b there in
      let was = (before.stands.each m a xm.0 at xm.1).counts in
      let is = (after.stands.each m b ym.0 there ym.1).counts in
      inl (
        m,
        xm.0,
        ym.0,
        xm.1,
        ym.1,
        elim rose [
          | inl even ↦ inl (subst (λ c. Rose c.even ym.0.counts.even) (sym was) (subst (λ c. Rose (area.faults a.even) c.even) (sym is) even))
          | inr odd ↦ inr (subst (λ c. Rose c.odd ym.0.counts.odd) (sym was) (subst (λ c. Rose (area.faults a.odd) c.odd) (sym is) odd))
        ],
      )

  pub rose_fails : failing.AreaRose area.faults old new → failing.AreaFails area.faults new
  rose_fails (inl rose) = inl (rose_some (count_of area.faults old.uber) (count_of area.faults new.uber) rose)
  rose_fails (inr (m, a, b, at, there, rose)) = inr (
    m,
    b,
    there,
    elim rose [
      | inl even ↦ (let some = rose_some (area.faults a.even) (area.faults b.even) even in omega (arith, some))
      | inr odd ↦ (let some = rose_some (area.faults a.odd) (area.faults b.odd) odd in omega (arith, some))
    ],
  )

-- ---- the end of a section

module _ {R A : Type 0} (rack : racks.Ghosts R) (area : areas.Ghosts A) (choices : Choices) (lanes : List (List Command)) (entry now : OnShelf) where
  closed_end : (x : Desk) → IsPool {R = R} {A = A} rack area None x → SectionTurns choices x lanes (alone (NoPool name.Lanes)) x Outside
  closed_end Untouched stands = (refl, refl, refl)
  closed_end Bare stands = (refl, refl, refl)
  closed_end (Made told failed geometry) stands = (refl, refl, refl)
  closed_end (Shut crash x) stands = (refl, refl, refl)
  closed_end Unknown stands = (refl, refl, refl)
  closed_end (Open x) stands = absurd stands
  closed_end (Foreign known) stands = absurd stands

  -- without a pool
  pub section_closed : (x : Desk) (old new : Option (Pool R A)) → old ≡ None → new ≡ None → IsDesk rack area entry now old x → SectionIs rack area choices lanes entry now x new (Err (NoPool name.Lanes))
  section_closed x old new none still is =
      let stands = subst (λ p. IsPool rack area p x) none is.stands in
      record {
        new = x;
        desk = record { stands = subst (λ p. IsPool rack area p x) (sym still) stands; shelf = is.shelf };
        turns = closed_end x stands;
        stopped = λ e. absurd (cc e);
      }

  unchecked : (x : State) (pool : Pool R A) → (point_of pool.uber).group ≡ None → Represents rack area pool x → check_by x.store.marks ≡ None
  unchecked x pool none is = none_stands area pool.uber x (blocks_of x.metaslabs) is.stands.pieces is.stands.uber is.stands.holds is.stands.groups none

  pointed : (x : State) (pool : Pool R A) (group : ℕ) → (point_of pool.uber).group ≡ Some group → Represents rack area pool x → HasPoint x.store.marks group
  pointed x pool group some is = subst (IsPointOf x.store.marks) some (point_stands area pool.uber x (blocks_of x.metaslabs) is.stands.pieces is.stands.uber is.stands.holds is.stands.groups)

  -- a checkpoint stands: the pool is as it was
  pub section_pointed : (x : Desk) (old new : Option (Pool R A)) (was : Pool R A) (group : ℕ) → old ≡ Some was → new ≡ Some was → (point_of was.uber).group ≡ Some group
      → IsDesk rack area entry now old x → SectionIs rack area choices lanes entry now x new (Err LanesCheckpoint)
  section_pointed x old new was group there then some desk = by x (subst (λ p. IsPool rack area p x) there desk.stands) desk.shelf
    where
      by : (x : Desk) → IsPool rack area (Some was) x → IsShelf x entry now → SectionIs rack area choices lanes entry now x new (Err LanesCheckpoint)
      by (Open y) stands shelf = record {
        new = Open y;
        desk = record { stands = subst (λ p. IsPool rack area p (Open y)) (sym then) stands; shelf = shelf };
        turns = inl (λ none. (let has = pointed y was group some stands.1 in none_some (check_by y.store.marks) has.0 none has.1), (refl, refl, refl));
        stopped = λ e. absurd (cc e);
      }
      by (Foreign known) stands shelf = record {
        new = Foreign known;
        desk = record { stands = subst (λ p. IsPool rack area p (Foreign known)) (sym then) stands; shelf = shelf };
        turns = inl (refl, refl, refl);
        stopped = λ e. absurd (cc e);
      }
      by Untouched stands shelf = absurd stands
      by Bare stands shelf = absurd stands
      by (Made told failed geometry) stands shelf = absurd stands
      by (Shut crash y) stands shelf = absurd stands
      by Unknown stands shelf = absurd stands

  -- refused, or memory was wanting: the pool is as it was
  pub section_refused : (x : Desk) (old new : Option (Pool R A)) (was is : Pool R A) → old ≡ Some was → new ≡ Some is → SamePool was is → IsWhole rack area is → (point_of was.uber).group ≡ None → (reply : Reply) → RefusesSection lanes reply
      → IsDesk rack area entry now old x → SectionIs rack area choices lanes entry now x new (Err reply)
  section_refused x old new was is there then same whole none reply refuses desk = by x (subst (λ p. IsPool rack area p x) there desk.stands) desk.shelf
    where
      by : (x : Desk) → IsPool rack area (Some was) x → IsShelf x entry now → SectionIs rack area choices lanes entry now x new (Err reply)
      by (Open y) stands shelf = record {
        new = Open y;
        desk = record { stands = subst (λ p. IsPool rack area p (Open y)) (sym then) (whole, same_stands rack area was is same y stands.1); shelf = shelf };
        turns = inr (unchecked y was none stands.1, inl (reply, refl, refuses, refl, refl));
        stopped = λ e. absurd (cc e);
      }
      by (Foreign known) stands shelf = record {
        new = Foreign known;
        desk = record { stands = subst (λ p. IsPool rack area p (Foreign known)) (sym then) (whole, same_knows rack area was is same known stands.1); shelf = shelf };
        turns = inr (inl (reply, refl, refuses, refl, refl));
        stopped = λ e. absurd (cc e);
      }
      by Untouched stands shelf = absurd stands
      by Bare stands shelf = absurd stands
      by (Made told failed geometry) stands shelf = absurd stands
      by (Shut crash y) stands shelf = absurd stands
      by Unknown stands shelf = absurd stands

  -- its lanes ran
  pub section_ran : (x : Desk) (old new : Option (Pool R A)) (was is : Pool R A) (ran : Vec LaneReplies Global) → old ≡ Some was → new ≡ Some is → IsWhole rack area is → (point_of was.uber).group ≡ None → NoClash lanes → (ClashesMend lanes → ⊥) → StopWhere lanes ran.items
      → ((y : State) → Represents rack area was y → RunsSection rack area choices y lanes (replies_in ran.items) is) → ((known : Known) → KnowsPointers was known → LanesTeach lanes (replies_in ran.items) known is)
      → (IsStopped ran.items → failing.AreaRose area.faults was is) → IsDesk rack area entry now old x → SectionIs rack area choices lanes entry now x new (Ok ran)
  section_ran x old new was is ran there then whole none apart one stops runs teach cause desk = by x (subst (λ p. IsPool rack area p x) there desk.stands) desk.shelf
    where
      by : (x : Desk) → IsPool rack area (Some was) x → IsShelf x entry now → SectionIs rack area choices lanes entry now x new (Ok ran)
      by (Open y) stands shelf =
          let it = runs y stands.1 in
          record {
            new = Open it.reached;
            desk = record { stands = subst (λ p. IsPool rack area p (Open it.reached)) (sym then) (whole, it.represents); shelf = record { told = sym it.section.together.rest.told ∙ shelf.told } };
            turns = inr (unchecked y was none stands.1, inr (replies_in ran.items, refl, apart, one, behind_ran lanes ran stops, (it.reached, it.section, refl)));
            stopped = λ e. rose_states rack area was is y it.reached stands.1 it.represents (cause (ended_stopped ran e));
          }
      by (Foreign known) stands shelf =
          let it = teach known stands.1 in
          record {
            new = Foreign it.later;
            desk = record { stands = subst (λ p. IsPool rack area p (Foreign it.later)) (sym then) (whole, it.fits); shelf = tt };
            turns = inr (inr (replies_in ran.items, refl, apart, one, behind_ran lanes ran stops, (it.later, it.learn, refl)));
            stopped = λ e. subst (PoolFails area) (sym then) (rose_fails rack area was is (cause (ended_stopped ran e)));
          }
      by Untouched stands shelf = absurd stands
      by Bare stands shelf = absurd stands
      by (Made told failed geometry) stands shelf = absurd stands
      by (Shut crash y) stands shelf = absurd stands
      by Unknown stands shelf = absurd stands
