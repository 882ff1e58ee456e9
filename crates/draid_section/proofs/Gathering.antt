-- A pool's lanes, from their lists of numbers to the pool that is put together of what they left.
use Rattle.std.proofs.Common.{if◌then◌else◌, ◌≡◌, ◌∙◌, ◌++◌, ◌∷◌, ◌<◌, ◌≤◌, ◌+◌, ◌⊎◌, inl, inr, arith, ℕ, zero, suc, Bool, true, false, List, [], Option, Some, None, All, length, sym, ap, subst, refl}
use Rattle.std.specs.Prelude.{slice_get, nat_eq}
use Rattle.std.specs.HashMap.{get}
use Rattle.std.specs.declared.vec.Vec.{Vec}
use Rattle.std.specs.declared.alloc.Global.{Global}
use Rattle.std.proofs.lemmas.Bool.Decides.{nat_tests}
use Rattle.std.proofs.lemmas.List.{length_push}
use Rattle.std.proofs.lemmas.List.Elements.{All-head, All-tail}
use Rattle.std.proofs.lemmas.List.Sums.{sum_by-cons}
use Rattle.std.proofs.lemmas.Option.{slice_get_within}
use Rattle.draid_names.specs.declared.numbers.TheConstants.{OBJECTS}
use Rattle.draid_names.specs.declared.pointer.Pointer.{Pointer}
use Rattle.draid_rack.specs.declared.Rack as racks
use Rattle.draid_area.specs.declared.Area as areas
use Rattle.draid_spec.specs.declared.layout.Geometry.{Geometry}
use Rattle.draid_machine.proofs.Small.{bool_cases}
use Rattle.draid_machine.specs.declared.names.Stage.TheVariants.{Live}
use Rattle.draid_entries.specs.Maps.{staged}
use Rattle.draid_shard.specs.declared.shard.Shard.{Shard}
use Rattle.draid_turn.specs.Calls.{Caller, Lock}
use Rattle.draid_turn.specs.Lists.{one_if}
use Rattle.draid_turn.specs.Numbers.{HoldsSome, all_numbers, holds, number_limit}
use Rattle.draid_turn.specs.declared.past.Past.{Past}
use Rattle.draid_turn.specs.declared.span.Span.{Span}
use Rattle.draid_turn.proofs.Sums.{count_push}
use Rattle.draid_holds.specs.Passes.{EachHoldsSome, KeepsOne, shares}
use Rattle.draid_uber.specs.declared.uber.Uber.{Uber}
use Rattle.draid_pool.specs.Drifts.{groups_number}
use Rattle.draid_pool.specs.Threads.{HaveLayout, IsWholeBy}
use Rattle.draid_pool.specs.Whole.{IsWhole}
use Rattle.draid_pool.specs.declared.cell.Cell.{Cell}
use Rattle.draid_pool.specs.declared.own.Own.{Own}
use Rattle.draid_pool.specs.declared.pool.Pool.{Pool}
use Rattle.draid_pool.proofs.Lists.{present, some_of}
use Rattle.draid_lanes.specs.Lanes.{IsWholeLane, table_of}
use Rattle.draid_lanes.specs.Locks.{AreOf, last_in, owned_by}
use Rattle.draid_lanes.specs.Meeting.{groups_alone}
use Rattle.draid_lanes.specs.Ubers.{IsLane, IsUberOf}
use Rattle.draid_lanes.specs.declared.lane.Lane.{Lane}
use Rattle.draid_lanes.specs.declared.uber.UberCell.{UberCell}
use Rattle.draid_lanes.proofs.SyncUnder.{groups_in}
use Rattle.draid_section.specs.Opening.{AreDealt, AreLocked, IsDealt}
use Rattle.draid_tables.specs.Owns.{AllWithin, AreDealtOut, HaveTableRoom, TakesAll, greatest, most_objects}
use Rattle.draid_section.specs.Running.{BeginsAt, IsLeftWhole, JobRan, KeepLanes}
use Rattle.draid_tables.specs.Lists.{AreLaneLists}
use Rattle.draid_section.specs.Section.{BeginsLane, EndWithGroups, GovernsFirst, MayRunAll, MayRunLocked, MayRunUnder, RunsLocked}
use Rattle.draid_section.specs.Turning.{AreOfLanes, IsUberLock, UberHold}
use Rattle.draid_section.specs.Whole.{AreLaneNumbers, IsGathered, IsOfLane, IsOfPool, LaneEnded, LanesEnded, pointer_in}
use Rattle.draid_section.specs.declared.seats.Shares.{Shares}
use Rattle.draid_section.proofs.Beginning.{HasList, held_dealt, lane_begins, lasts, shared_by, some_locks, uber_begins}
use Rattle.draid_section.proofs.Dealt.{dealt_owns}
use Rattle.draid_section.proofs.Ended.{ended_whole, lane_live, valid_is}
use Rattle.draid_tables.proofs.Fitting.{are_few, have_room, more_room}
use Rattle.draid_section.proofs.Kept.{dealt_front, dealt_groups, dealt_many, groups_room, job_at, kept_at, lane_has}
use Rattle.draid_section.proofs.LanePasses.{get_before, get_last}
use Rattle.draid_section.proofs.Ran.{all_each}
use Rattle.draid_section.proofs.Sitting.{at_push}
use Rattle.draid_uber.specs.Uber.{point_of}
use Rattle.draid_turn.specs.History.{Steps, left_by}

-- ---- lists of numbers

pub all_at : {X : Type 0} (P : X → Type 0) (xs : List X) → All P xs → (k : ℕ) (x : X) → slice_get xs k ≡ Some x → P x
all_at P [] all k x is = absurd (cc)
all_at P (y ∷ xs) all zero x is = subst P (some_of (Some y) y x refl is) (All-head P y xs all)
all_at P (y ∷ xs) all (suc k) x is = all_at P xs (All-tail P y xs all) k x is

-- who has a number in a list shares it
pub shared_at : (n : ℕ) (lists : List (Vec Span Global)) (i : ℕ) (list : Vec Span Global) → slice_get lists i ≡ Some list → holds n list.items ≡ true → 1 ≤ shares n lists
shared_at n [] i list is held = absurd (cc)
shared_at n (l ∷ lists) zero list is held =
    let one : one_if (holds n l.items) ≡ 1 = ap (λ (v : Vec Span Global). one_if (holds n v.items)) (some_of (Some l) l list refl is) ∙ ap one_if held in
    let all = sum_by-cons (λ (v : Vec Span Global). one_if (holds n v.items)) l lists in omega (arith, one, all)
shared_at n (l ∷ lists) (suc i) list is held =
    let rest = shared_at n lists i list is held in
    let all = sum_by-cons (λ (v : Vec Span Global). one_if (holds n v.items)) l lists in omega (arith, rest, all)

groups_only : (n : ℕ) → holds n groups_alone ≡ true → n ≡ groups_number
groups_only n is = grind (arith, nat_tests)

all_within : (n : ℕ) → n < number_limit → holds n all_numbers ≡ true
all_within n lt = grind (arith, nat_tests)

module _ (lists : List (Vec Span Global)) (al : AreLaneLists lists) (gl : Vec Span Global) (alone : gl.items ≡ groups_alone) where
  abbrev all : List (Vec Span Global)
  all = lists ++ gl ∷ []

  pub ends : EndWithGroups all (length lists)
  ends = record { front = lists; groups = gl; is = refl; many = refl; alone = alone }

  pub some_each : EachHoldsSome all
  some_each = all_each (λ (v : Vec Span Global). HoldsSome v.items) all (λ k list is. elim (at_push lists gl list k is) [
    | inl before ↦ all_at (λ (v : Vec Span Global). HoldsSome v.items) lists al.some k list before
    | inr z ↦ record { number = groups_number; held = ap (λ (v : Vec Span Global). holds groups_number v.items) (sym z.1) ∙ (ap (holds groups_number) alone ∙ groups_in) }
  ])

  shares_all : (n : ℕ) → shares n all ≡ shares n lists + one_if (holds n gl.items)
  shares_all n = count_push (λ (v : Vec Span Global). holds n v.items) lists gl

  no_more : (n : ℕ) → (shares n lists ≡ 0) ⊎ (1 ≤ shares n lists)
  no_more n = by (shares n lists) refl
    where
      by : (k : ℕ) → shares n lists ≡ k → (shares n lists ≡ 0) ⊎ (1 ≤ shares n lists)
      by zero is = inl is
      by (suc k) is = inr (omega (arith, is))

  pub apart_all : (n : ℕ) → shares n all ≤ one_if (holds n all_numbers)
  apart_all n = elim (bool_cases (holds n gl.items)) [
    | inl held ↦
        let is = groups_only n (sym (ap (holds n) alone) ∙ held) in
        let one : one_if (holds n all_numbers) ≡ 1 = ap one_if (all_within n (omega (arith, is))) in
        let mine : one_if (holds n gl.items) ≡ 1 = ap one_if held in
        let both = shares_all n in
        elim (no_more n) [
          | inl none ↦ omega (arith, one, mine, both, none)
          | inr some ↦ absurd ((al.inside n some).0 is)
        ]
    | inr not ↦
        let mine : one_if (holds n gl.items) ≡ 0 = ap one_if not in
        let both = shares_all n in
        elim (no_more n) [
          | inl none ↦ omega (arith, mine, both, none)
          | inr some ↦
              let below = (al.inside n some).1 in
              let one : one_if (holds n all_numbers) ≡ 1 = ap one_if (all_within n (omega (arith, below))) in
              let few = al.apart n in omega (arith, one, mine, both, few)
        ]
  ]

  pub other_all : KeepsOne all_numbers all
  other_all = record {
    number = 4_294_967_314;
    there = all_within 4_294_967_314 (omega arith);
    kept =
        let both = shares_all 4_294_967_314 in
        let mine = by_groups (holds 4_294_967_314 gl.items) refl in
        elim (no_more 4_294_967_314) [
          | inl none ↦ omega (arith, both, mine, none)
          | inr some ↦ absurd (let below = (al.inside 4_294_967_314 some).1 in omega (arith, below))
        ];
  }
    where
      by_groups : (b : Bool) → holds 4_294_967_314 gl.items ≡ b → one_if (holds 4_294_967_314 gl.items) ≡ 0
      by_groups true is = absurd (let same = groups_only 4_294_967_314 (sym (ap (holds 4_294_967_314) alone) ∙ is) in omega (arith, same))
      by_groups false is = ap one_if is

  -- a lane's numbers
  pub lane_numbers : (i : ℕ) (list : Vec Span Global) → slice_get lists i ≡ Some list → AreLaneNumbers list.items
  lane_numbers i list is = record {
    some = all_at (λ (v : Vec Span Global). HoldsSome v.items) lists al.some i list is;
    no_groups = by (holds groups_number list.items) refl;
  }
    where
      by : (b : Bool) → holds groups_number list.items ≡ b → holds groups_number list.items ≡ false
      by true held = absurd ((al.inside groups_number (shared_at groups_number lists i list is held)).0 refl)
      by false held = held

-- ---- a pool's lanes

at_if : (b : Bool) (o : Option Pointer) (p : Pointer) → (if b then o else None) ≡ Some p → (o ≡ Some p) × (b ≡ true)
at_if true o p is = (is, refl)
at_if false o p is = absurd (cc)

-- along a history of the uberblock its checkpoint is as it was
pub points_by : {R A : Type 0} (rack : racks.Ghosts R) (area : areas.Ghosts A) (first : UberCell R A) (log : List (Past (UberCell R A))) → Steps (UberHold rack area) first log → point_of (left_by first log).uber ≡ point_of first.uber
points_by rack area first [] s = refl
points_by rack area first (past ∷ log) s = points_by rack area past.left log s.1 ∙ s.0.point

module _ {R A G W J : Type 0} (rack : racks.Ghosts R) (area : areas.Ghosts A) (needs : J → Lane R A G W → Type 0) (relates : J → Lane R A G W → J → Lane R A G W → Type 0) (pool : Pool R A) (w : IsWhole rack area pool) (lists : List (Vec Span Global)) (al : AreLaneLists lists) (jobs : Vec J Global)
    (may : MayRunAll rack area needs pool lists jobs.items) (keeps : KeepLanes rack area needs relates) (locks : List (Lock (Cell R A))) (firsts : List (Caller (Past (Cell R A)))) (locked : AreLocked pool.metaslabs.shards.items locks firsts) (gl : Vec Span Global) (alone : gl.items ≡ groups_alone)
    (owns : Vec Own Global) (dealt_out : AreDealtOut pool.own lists owns.items) where
  abbrev every : List (Vec Span Global)
  every = lists ++ gl ∷ []

  abbrev last_groups : EndWithGroups every (length lists)
  last_groups = ends lists al gl alone

  pub some_metaslab : 0 < length locks
  some_metaslab = some_locks rack area pool w locks firsts locked

  pub governs_first : GovernsFirst rack area locks pool.uber
  governs_first groups new room = uber_begins rack area pool w locks firsts locked groups new room

  -- ---- as lanes begin

  module _ (dealt : List (Vec (Caller (Past (Cell R A))) Global)) (rests : List (Caller (Past (Cell R A)))) (groups : Vec (Caller (Past (Cell R A))) Global) (old : Shares R A J) (deals : AreDealt locks every dealt rests) (shared : dealt ≡ old.passes.items ++ groups ∷ []) (owns_are : old.owns ≡ owns)
      (jobs_are : old.jobs ≡ jobs) where
    pub as_many : length old.passes.items ≡ length lists
    as_many = (let a = dealt_many locks every dealt rests groups old deals shared in let b = length_push lists gl in omega (arith, a, b))

    list_at : (i : ℕ) (list : Vec Span Global) → slice_get lists i ≡ Some list → slice_get every i ≡ Some list
    list_at i list is = get_before lists gl i (slice_get_within lists i list is) ∙ is

    pub dealt_at : (i : ℕ) (list : Vec Span Global) (lane : Vec (Caller (Past (Cell R A))) Global) → slice_get lists i ≡ Some list → slice_get old.passes.items i ≡ Some lane → IsDealt locks list.items lane.items
    dealt_at i list lane list_is lane_is = deals.each i list lane (list_at i list list_is) (dealt_front locks every dealt rests groups old deals shared i lane lane_is)

    groups_at : IsUberOf rack area locks pool.uber groups
    groups_at = uber_begins rack area pool w locks firsts locked groups (dealt_groups locks every dealt rests groups old deals shared (length lists) last_groups) (groups_room locks every dealt rests groups old deals shared (length lists) last_groups)

    module _ (lock : Lock (UberCell R A)) (first : Caller (Past (UberCell R A))) (made : IsUberLock pool.uber locks groups lock first) (passes : List (Caller (Past (UberCell R A)))) (rest : Caller (Past (UberCell R A))) (of : AreOfLanes lock (length old.passes.items) passes rest) (i : ℕ) (job : J)
        (lane : Lane R A G W) (b : BeginsAt locks lock pool.geometry old passes i job lane) (list : Vec Span Global) (list_is : slice_get lists i ≡ Some list) where
      abbrev new : IsDealt locks list.items lane.metaslabs.passes.items
      new = dealt_at i list lane.metaslabs.passes list_is b.has.held

      own_is : slice_get owns.items i ≡ Some lane.own
      own_is = sym (ap (λ (v : Vec Own Global). slice_get v.items i) owns_are) ∙ b.has.own

      table_is : (object : ℕ) → table_of lane object ≡ (if holds object list.items then pointer_in pool object else None)
      table_is = (dealt_out.each i list lane.own list_is own_is).objects

      whole_by : IsWholeBy rack (owned_by lane.metaslabs.passes.items) (last_in locks lane.metaslabs.passes.items) (table_of lane) lane.own.seq lane.own.floor
      whole_by =
          let d = dealt_out.each i list lane.own list_is own_is in
          subst (λ (z : ℕ × ℕ). IsWholeBy rack (owned_by lane.metaslabs.passes.items) (last_in locks lane.metaslabs.passes.items) (table_of lane) z.0 z.1) (λ k. (sym d.seq k, sym d.floor k))
          ((lane_begins rack area pool w locks firsts locked list.items lane.metaslabs.passes.items new (lane_numbers lists al gl alone i list list_is)).whole (table_of lane)
          (λ object pointer at. at_if (holds object list.items) (pointer_in pool object) pointer (sym (table_is object) ∙ at)))

      uber_of : IsUberOf rack area lane.uber.now.first.turns.now lane.uber.now.first.uber lane.uber.now.first.groups
      uber_of = subst (λ (l : Lock (UberCell R A)). IsUberOf rack area l.first.turns.now l.first.uber l.first.groups) (sym b.over.uber_is)
          (subst (λ (z : List (Lock (Cell R A)) × Uber A × Vec (Caller (Past (Cell R A))) Global). IsUberOf rack area z.0 z.1 z.2) (λ k. (sym made.turns_are k, sym made.uber_is k, sym made.groups_are k)) groups_at)

      lane_whole : IsWholeLane rack area lane
      lane_whole =
          let begins = lane_begins rack area pool w locks firsts locked list.items lane.metaslabs.passes.items new (lane_numbers lists al gl alone i list list_is) in
          record {
            lane_is = subst (λ ls. IsLane rack ls lane.metaslabs.passes.items) (sym b.over.turns) begins.lane;
            uber = ap (λ (p : Caller (Past (UberCell R A))). p.table) (of.each i lane.pass b.has.pass) ∙ sym (ap (λ (l : Lock (UberCell R A)). l.table) b.over.uber_is);
            same = ap (λ (l : Lock (UberCell R A)). l.first.turns.now) b.over.uber_is ∙ (made.turns_are ∙ sym b.over.turns);
            first = uber_of;
            many = ap length b.over.turns ∙ (locked.many ∙ (w.many ∙ ap (λ (x : Geometry). x.props.metaslabs) (sym b.over.geometry_is)));
            layout = subst (λ (z : Geometry × List (Lock (Cell R A))). HaveLayout z.0 (last_in z.1 lane.metaslabs.passes.items)) (λ k. (sym b.over.geometry_is k, sym b.over.turns k)) begins.layout;
            whole = subst (λ ls. IsWholeBy rack (owned_by lane.metaslabs.passes.items) (last_in ls lane.metaslabs.passes.items) (table_of lane) lane.own.seq lane.own.floor) (sym b.over.turns) whole_by;
          }

      begins_lane : BeginsLane rack area pool lists jobs.items i job lane
      begins_lane = record {
        job_is = sym (ap (λ (v : Vec J Global). slice_get v.items i) jobs_are) ∙ b.has.job_is;
        number = b.number;
        whole = lane_whole;
        geometry = b.over.geometry_is;
        metaslabs = λ m. ap (λ ls. last_in ls lane.metaslabs.passes.items m) b.over.turns ∙ ap (λ (f : ℕ → Option (Shard R A)). f m) (lasts pool.metaslabs.shards.items locks firsts locked list.items lane.metaslabs.passes.items new);
        uber = ap (λ (l : Lock (UberCell R A)). l.first.uber) b.over.uber_is ∙ made.uber_is;
        list = list;
        list_is = list_is;
        owns = dealt_owns locks list.items lane.metaslabs.passes.items new some_metaslab;
        objects = table_is;
        seq = (dealt_out.each i list lane.own list_is own_is).seq;
        floor = (dealt_out.each i list lane.own list_is own_is).floor;
      }

    may_under : MayRunUnder rack area needs pool.geometry locks pool.uber groups old
    may_under lock first made passes rest of i job lane b =
        let list = present lists i (let inside = slice_get_within old.passes.items i lane.metaslabs.passes b.has.held in let many = as_many in omega (arith, inside, many)) in
        may.each i job lane (begins_lane lock first made passes rest of i job lane b list.0 list.1)

  pub may_locked : MayRunLocked rack area needs pool.geometry locks pool.uber every owns jobs
  may_locked dealt rests groups old deals shared owns_are jobs_are = may_under dealt rests groups old deals shared owns_are jobs_are

  -- ---- behind the jobs

  module _ (uber' : Uber A) (shards' : List (Shard R A)) (owns' : Vec Own Global) (jobs' : Vec J Global) (ran : RunsLocked rack area relates pool.geometry locks pool.uber every owns jobs uber' shards' owns' jobs') where
    abbrev under_may : MayRunUnder rack area needs pool.geometry locks pool.uber ran.groups ran.old
    under_may = may_under ran.dealt ran.rests ran.groups ran.old ran.deals ran.shared ran.owns_are ran.jobs_are

    pub lanes_many : length ran.old.passes.items ≡ length lists
    lanes_many = as_many ran.dealt ran.rests ran.groups ran.old ran.deals ran.shared ran.owns_are ran.jobs_are

    -- what a lane's job kept of it
    pub whole_at : (i : ℕ) (j : JobRan relates locks ran.under.lock pool.geometry ran.old ran.new ran.under.over.passes ran.under.over.nexts i) → IsLeftWhole rack area j.lane j.next
    whole_at i j = kept_at rack area needs relates pool.geometry locks pool.uber every ran.dealt ran.rests ran.groups ran.old ran.deals ran.shared under_may keeps ran.new uber' ran.groups' ran.under i j

    -- what one lane has in the end
    pub record Ended (i : ℕ) (list : Vec Span Global) (own : Own) (passes : Vec (Caller (Past (Cell R A))) Global) : Type 0 where
      pub ended : LaneEnded rack area locks passes.items own
      pub owns_list : (n : ℕ) → holds n list.items ≡ true → owned_by passes.items n ≡ true
      pub list_owns : (n : ℕ) → owned_by passes.items n ≡ true → holds n list.items ≡ true

    pub ended_at : (i : ℕ) (list : Vec Span Global) (own : Own) (passes : Vec (Caller (Past (Cell R A))) Global) → slice_get lists i ≡ Some list → slice_get owns'.items i ≡ Some own → slice_get ran.new.passes.items i ≡ Some passes → Ended i list own passes
    ended_at i list own passes list_is own_is passes_is =
        let inside = slice_get_within lists i list list_is in
        let many = lanes_many in
        let r = job_at rack area needs relates pool.geometry locks pool.uber every ran.dealt ran.rests ran.groups ran.old ran.deals ran.shared under_may keeps ran.new uber' ran.groups' ran.under i (omega (arith, inside, many)) in
        let k = kept_at rack area needs relates pool.geometry locks pool.uber every ran.dealt ran.rests ran.groups ran.old ran.deals ran.shared under_may keeps ran.new uber' ran.groups' ran.under i r in
        let has = lane_has rack area needs relates pool.geometry locks pool.uber every ran.dealt ran.rests ran.groups ran.old ran.deals ran.shared under_may keeps ran.new uber' ran.groups' ran.under i list r
        (get_before lists gl i inside ∙ list_is) in
        let turns : r.next.metaslabs.turns.now ≡ locks = k.same.turns ∙ r.over.turns in
        let passes_are : r.next.metaslabs.passes ≡ passes = some_of (slice_get ran.new.passes.items i) r.next.metaslabs.passes passes r.ended.held passes_is in
        let own_are : r.next.own ≡ own = some_of (slice_get ran.new.owns.items i) r.next.own own r.ended.own (ap (λ (v : Vec Own Global). slice_get v.items i) ran.owns_then ∙ own_is) in
        let new = dealt_at ran.dealt ran.rests ran.groups ran.old ran.deals ran.shared ran.owns_are ran.jobs_are i list r.lane.metaslabs.passes list_is r.begun.held in
        subst (λ (z : Own × Vec (Caller (Past (Cell R A))) Global). Ended i list z.0 z.1) (λ j. (own_are j, passes_are j)) (record {
          ended = record {
            fits = subst (λ ls. AreOf rack ls r.next.metaslabs.passes.items) turns k.whole.lane_is.fits;
            whole = subst (λ ls. IsWholeBy rack (owned_by r.next.metaslabs.passes.items) (last_in ls r.next.metaslabs.passes.items) (table_of r.next) r.next.own.seq r.next.own.floor) turns k.whole.whole;
          };
          owns_list = has.still.owns;
          list_owns = λ n own_it. sym (dealt_owns locks list.items r.lane.metaslabs.passes.items new some_metaslab n) ∙ (sym (ap (λ (f : ℕ → Bool). f n) k.same.owns) ∙ own_it);
        })

    pub passes_many : length ran.new.passes.items ≡ length lists
    passes_many = ran.under.over.ran.many ∙ lanes_many

    pub owns_many : length owns'.items ≡ length lists
    owns_many = sym (ap (λ (v : Vec Own Global). length v.items) ran.owns_then) ∙ (ran.under.over.ran.even.owns ∙ passes_many)

    -- whose an object is
    pub whose : (object : ℕ) → object < OBJECTS → (owned_by ran.rests object ≡ true) ⊎ ((i : ℕ) × (lane : Vec (Caller (Past (Cell R A))) Global) × (slice_get ran.new.passes.items i ≡ Some lane) × (owned_by lane.items object ≡ true))
    whose object below = elim (held_dealt every ran.rests ran.deals.left object (omega (arith, below))) [
      | inl mine ↦ inl mine
      | inr z ↦ elim (at_push lists gl z.1 z.0 z.2) [
        | inl before ↦
            let inside = slice_get_within lists z.0 z.1 before in
            let lane = present ran.new.passes.items z.0 (let many = passes_many in omega (arith, inside, many)) in
            let own = present owns'.items z.0 (let many = owns_many in omega (arith, inside, many)) in
            inr (z.0, lane.0, lane.1, (ended_at z.0 z.1 own.0 lane.0 before own.1 lane.1).owns_list object z.3)
        | inr last ↦ absurd (let same = groups_only object (sym (ap (holds object) alone) ∙ (ap (λ (v : Vec Span Global). holds object v.items) last.1 ∙ z.3)) in omega (arith, same, below))
      ]
    ]

    abbrev pub lanes_ended : LanesEnded rack area pool locks ran.rests ran.new.passes.items owns'.items uber' shards'
    lanes_ended = record {
      whole = w;
      firsts = firsts;
      locked = locked;
      groups = ran.groups';
      governs = subst (λ ls. IsUberOf rack area ls uber' ran.groups') ran.under.made.turns_are ran.under.over.back.is;
      unpointed = may.unpointed;
      point = ap point_of ran.under.over.back.uber_is
          ∙ (ap (λ (c : UberCell R A). point_of c.uber) ran.under.over.back.closes.stood.is
          ∙ (points_by rack area ran.under.lock.first ran.under.over.back.closes.log ran.under.over.back.closes.stood.steps ∙ ap point_of ran.under.made.uber_is));
      lists = ran.new.passes.items ++ ran.groups' ∷ [];
      unlocked = ran.unlocked;
      groups_in = (length ran.new.passes.items, get_last ran.new.passes.items ran.groups');
      lanes_in = λ i lane is. (i, get_before ran.new.passes.items ran.groups' i (slice_get_within ran.new.passes.items i lane is) ∙ is);
      many = owns_many ∙ sym passes_many;
      each = λ i lane own lane_is own_is.
          (let list = present lists i (let inside = slice_get_within owns'.items i own own_is in let many = owns_many in omega (arith, inside, many)) in (ended_at i list.0 own lane list.1 own_is lane_is).ended);
      many_rests = ran.deals.fits.many;
      rests_new = λ m pass is. (ran.deals.fresh m pass is).0;
      all = whose;
    }

    pub all_inside : AllWithin lists owns'.items
    all_inside = record {
      many = owns_many;
      each = λ i list own list_is own_is object pointer at.
          (let inside = slice_get_within lists i list list_is in
          let lane = present ran.new.passes.items i (let many = passes_many in omega (arith, inside, many)) in
          let e = ended_at i list own lane.0 list_is own_is lane.1 in e.list_owns object (e.ended.whole.pointers object pointer at).own);
    }

    pub shards_many : length shards' ≡ length pool.metaslabs.shards.items
    shards_many = ran.unlocked.many ∙ locked.many

    pub tables_fit : (more : ℕ) → most_objects lists (length pool.metaslabs.shards.items) ≤ more → HaveTableRoom more owns'.items
    tables_fit more less =
        let fits = have_room shards' (are_few rack shards' (λ m shard at. valid_is rack area pool locks ran.rests ran.new.passes.items owns'.items uber' shards' lanes_ended m shard at)) lists owns'.items all_inside al.apart
        (λ i own is object pointer at. lane_live rack area pool locks ran.rests ran.new.passes.items owns'.items uber' shards' lanes_ended i own is object pointer at) in
        more_room (most_objects lists (length shards')) more owns'.items fits (let same = ap (most_objects lists) shards_many in omega (arith, same, less))

    -- ---- the pool that is put together

    greater_first : (f : Own → ℕ) (first : Own) (list : List Own) → f first ≤ greatest f first list
    greater_first f first [] = omega arith
    greater_first f first (x ∷ list) = (let more = greater_first f first list in omega (arith, more))

    greater_each : (f : Own → ℕ) (first : Own) (list : List Own) (i : ℕ) (own : Own) → slice_get list i ≡ Some own → f own ≤ greatest f first list
    greater_each f first [] i own is = absurd (cc)
    greater_each f first (x ∷ list) zero own is = (let same : f x ≡ f own = ap f (some_of (Some x) x own refl is) in omega (arith, same))
    greater_each f first (x ∷ list) (suc i) own is = (let less = greater_each f first list i own is in omega (arith, less))

    either_less : (a b : ℕ) → (a ≤ b) ⊎ (b ≤ a)
    either_less zero b = inl (omega arith)
    either_less (suc a) zero = inr (omega arith)
    either_less (suc a) (suc b) = elim (either_less a b) [ inl less ↦ inl (omega (arith, less)) | inr more ↦ inr (omega (arith, more)) ]

    one_of : (f : Own → ℕ) (first : Own) (list : List Own) → (greatest f first list ≤ f first) ⊎ ((i : ℕ) × (own : Own) × (slice_get list i ≡ Some own) × (greatest f first list ≤ f own))
    one_of f first [] = inl (omega arith)
    one_of f first (x ∷ list) = elim (either_less (f x) (greatest f first list)) [
      | inr mine ↦ inr (0, x, refl, omega (arith, mine))
      | inl theirs ↦ elim (one_of f first list) [
        | inl less ↦ inl (omega (arith, theirs, less))
        | inr z ↦ inr (suc z.0, z.1, z.2, (let less = z.3 in omega (arith, theirs, less)))
      ]
    ]

    module _ (new : Pool R A) (own : Own) (same_objects : (object : ℕ) → get nat_eq own.objects object ≡ pointer_in pool object) (same_seq : own.seq ≡ pool.own.seq) (same_floor : own.floor ≡ pool.own.floor) (geometry : new.geometry ≡ pool.geometry) (shards : new.metaslabs.shards.items ≡ shards') (uber : new.uber ≡ uber')
        (takes : TakesAll lists owns'.items own new.own) where
      objects_are : (object : ℕ) (pointer : Pointer) → pointer_in new object ≡ Some pointer → IsOfPool pool ran.rests ran.new.passes.items owns'.items object pointer ⊎ IsOfLane pool ran.rests ran.new.passes.items owns'.items object pointer
      objects_are object pointer at = elim (held_dealt_lists object) [
        | inl none ↦
            let there : pointer_in pool object ≡ Some pointer = sym (same_objects object) ∙ (sym (takes.others object none) ∙ at) in
            elim (whose object (w_small object pointer there)) [
              | inl mine ↦ inl (record { owned = mine; there = there })
              | inr z ↦ absurd (
                  let inside = slice_get_within ran.new.passes.items z.0 z.1 z.2 in
                  let many = passes_many in
                  let many_owns = owns_many in
                  let list = present lists z.0 (omega (arith, inside, many)) in
                  let o = present owns'.items z.0 (omega (arith, inside, many, many_owns)) in
                  let some = shared_at object lists z.0 list.0 list.1 ((ended_at z.0 list.0 o.0 z.1 list.1 o.1 z.2).list_owns object z.3) in omega (arith, none, some))
            ]
        | inr z ↦
            let inside = slice_get_within lists z.0 z.1 z.2 in
            let many = passes_many in
            let many_owns = owns_many in
            let lane = present ran.new.passes.items z.0 (omega (arith, inside, many)) in
            let o = present owns'.items z.0 (omega (arith, inside, many_owns)) in
            inr (record { place = z.0; lane = lane.0; own = o.0; lane_is = lane.1; own_is = o.1; owned = (ended_at z.0 z.1 o.0 lane.0 z.2 o.1 lane.1).owns_list object z.3; there = sym (takes.taken z.0 z.1 o.0 z.2 o.1 object z.3) ∙ at })
      ]
        where
          held_dealt_lists : (object : ℕ) → (shares object lists ≡ 0) ⊎ HasList object lists
          held_dealt_lists object = shared_by object lists

          w_small : (object : ℕ) (pointer : Pointer) → pointer_in pool object ≡ Some pointer → object < OBJECTS
          w_small object pointer there =
              let p = w.objects object pointer there in
              subst (λ n. n < OBJECTS) p.object_is ((w.shards pointer.metaslab p.shard p.there).valid.tables.placed pointer.first (staged Live pointer) p.live).is_block.object_small

      gathered : IsGathered pool ran.rests ran.new.passes.items owns'.items uber' shards' new
      gathered = record {
        geometry = geometry;
        metaslabs = shards;
        uber_is = uber;
        pool_seq = (let is = takes.seq in let more = greater_first (λ (o : Own). o.seq) own owns'.items in let same = same_seq in omega (arith, is, more, same));
        lane_seq = λ i o is. (let now_is = takes.seq in let more = greater_each (λ (x : Own). x.seq) own owns'.items i o is in omega (arith, now_is, more));
        floor = elim (one_of (λ (o : Own). o.floor) own owns'.items) [
          | inl less ↦ inl (let is = takes.floor in omega (arith, is, less, same_floor))
          | inr z ↦ inr (z.0, z.1, z.2, (let is = takes.floor in let less = z.3 in omega (arith, is, less)))
        ];
        objects = objects_are;
      }

      pub gathered_whole : IsWhole rack area new
      gathered_whole = ended_whole rack area pool locks ran.rests ran.new.passes.items owns'.items uber' shards' lanes_ended new gathered
