-- Lanes that ran over a pool, told from its state: the pool that is put together of them stands for the state to which all that they did led.
use Rattle.std.proofs.Common.{◌≡◌, ◌∙◌, ◌++◌, ◌∷◌, ◌<◌, ◌≤◌, ◌+◌, inl, inr, arith, ℕ, zero, suc, Bool, true, false, List, [], Option, Some, None, All, length, map, refl, sym, ap, subst}
use Rattle.std.specs.Prelude.{flat_map, max, nat_eq, slice_get}
use Rattle.std.specs.HashMap.{get}
use Rattle.std.specs.declared.vec.Vec.{Vec}
use Rattle.std.specs.declared.alloc.Global.{Global}
use Rattle.std.proofs.lemmas.Bool.{cases_lt, true≢false}
use Rattle.std.proofs.lemmas.List.{length-map}
use Rattle.std.proofs.lemmas.List.Concat.{flat_map-cons}
use Rattle.std.proofs.lemmas.List.Sums.{sum_by-cons}
use Rattle.std.proofs.lemmas.Option.{slice_get_past, slice_get_within}
use Rattle.draid_names.specs.declared.numbers.TheConstants.{LAST_NUMBER, OBJECTS}
use Rattle.draid_names.specs.declared.pointer.Pointer.{Pointer}
use Rattle.draid_rack.specs.declared.Rack as racks
use Rattle.draid_area.specs.declared.Area as areas
use Rattle.draid_machine.specs.State as machine
use Rattle.draid_machine.specs.declared.names.Stage.TheVariants.{Live}
use Rattle.draid_entries.specs.Maps.{staged}
use Rattle.draid_objects.specs.Changes.{object_of}
use Rattle.draid_shard.specs.Fits.{AreGroups}
use Rattle.draid_shard.specs.declared.shard.Shard.{Shard}
use Rattle.draid_turn.specs.Calls.{Caller, Lock, newcomer}
use Rattle.draid_turn.specs.Lists.{one_if}
use Rattle.draid_turn.specs.Numbers.{holds}
use Rattle.draid_turn.specs.declared.past.Past.{Past}
use Rattle.draid_turn.specs.declared.span.Span.{Span}
use Rattle.draid_turn.proofs.Sums.{count_push}
use Rattle.draid_holds.specs.Passes.{shares}
use Rattle.draid_session.specs.Holds.{Hold}
use Rattle.draid_session.specs.Keeping.{AreInStep, IsInStep}
use Rattle.draid_session.specs.Lanes.{Together}
use Rattle.draid_session.specs.State.{Metaslab, State, Store}
use Rattle.draid_uber.specs.Slots.{group_of}
use Rattle.draid_uber.specs.Uber.{kept_of}
use Rattle.draid_uber.specs.declared.uber.Uber.{Uber}
use Rattle.draid_pool.specs.Drifts.{Drifts, groups_number}
use Rattle.draid_pool.specs.Pools.{Represents}
use Rattle.draid_pool.specs.Threads.{Knows}
use Rattle.draid_pool.specs.Ubers.{IsUber}
use Rattle.draid_pool.specs.Whole.{IsWhole}
use Rattle.draid_pool.specs.declared.cell.Cell.{Cell}
use Rattle.draid_pool.specs.declared.own.Own.{Own}
use Rattle.draid_pool.specs.declared.pool.Pool.{Pool}
use Rattle.draid_pool.proofs.Lists.{ext, present, some_of}
use Rattle.draid_pool.proofs.OwnedKnows.{all as everything, knows_all, table_in}
use Rattle.draid_lanes.specs.Lanes.{table_of}
use Rattle.draid_lanes.specs.Locks.{AreOf, last_in, last_of, left_in, owned_by}
use Rattle.draid_lanes.specs.Meeting.{groups_alone}
use Rattle.draid_lanes.specs.Traces.{CameAt, HadTurns, IsGoverned, LeadsLane, SawBytes, StandsAt}
use Rattle.draid_lanes.specs.Ubers.{IsUberOf}
use Rattle.draid_lanes.specs.declared.lane.Lane.{Lane}
use Rattle.draid_lanes.specs.declared.uber.UberCell.{UberCell}
use Rattle.draid_lanes.proofs.Held.{owned_at}
use Rattle.draid_lanes.proofs.SyncUnder.{groups_in}
use Rattle.draid_section.specs.Opening.{AreLocked, IsDealt}
use Rattle.draid_section.specs.Running.{IsLeftWhole, JobRan, KeepLanes}
use Rattle.draid_tables.specs.Lists.{AreLaneLists}
use Rattle.draid_section.specs.Section.{MayRunAll, RunsLocked}
use Rattle.draid_lanes.specs.Telling.{Grows, JobsTell}
use Rattle.draid_section.specs.Told.{LaneDid, SectionStood, greatest_of}
use Rattle.draid_section.specs.Turning.{lane_alone}
use Rattle.draid_section.specs.Whole.{LanesEnded}
use Rattle.draid_tables.specs.Owns.{AreDealtOut, TakesAll, greatest}
use Rattle.draid_section.proofs.Beginning.{first_of, lock_of, pass_new, shared_by}
use Rattle.draid_section.proofs.Ended.{WasSeen, committed_is, governed as ended_governed, groups_owned, lane_seen, rest_drifts, taken}
use Rattle.draid_section.proofs.Finals.{FinalAt, knows_final}
use Rattle.draid_section.proofs.Gathering.{dealt_at, ended_at, ends, lanes_ended, lanes_many, owns_many, passes_many, shared_at, some_metaslab, whole_at, whose}
use Rattle.draid_section.proofs.GovernedEnd.{end_alike, end_committed, end_images, end_leaves, end_switches, end_uber}
use Rattle.draid_section.proofs.Joined.{Owner, all_since}
use Rattle.draid_section.proofs.Kept.{dealt_groups}
use Rattle.draid_section.proofs.LanePasses.{get_last}
use Rattle.draid_section.proofs.RanTogether.{RanLane, RanLanes, Trace, holds_all}
use Rattle.draid_section.proofs.Restricted.{knows_some}
use Rattle.draid_section.proofs.SectionStands.{any_owns, none_owns, owner_of, owners_of, section_owners, section_represents}
use Rattle.draid_section.proofs.SectionState.{Listed, listed, section_at, section_bytes, section_many, section_metaslabs, section_together, section_uber}
use Rattle.draid_section.proofs.SectionTold.{begins_at, begins_bytes, came_single, governed_first, stands_first}
use Rattle.draid_section.proofs.UberTurns.{UberTogether, with_uber}
use Rattle.draid_objects.specs.Marks.{check_by}
use Rattle.draid_pool.proofs.Points.{none_stands}
use Rattle.draid_pool.specs.Objects.{blocks_of}

module _ {R A G W J : Type 0} (rack : racks.Ghosts R) (area : areas.Ghosts A) (needs : J → Lane R A G W → Type 0) (relates : J → Lane R A G W → J → Lane R A G W → Type 0) (pool : Pool R A) (w : IsWhole rack area pool) (lists : List (Vec Span Global)) (al : AreLaneLists lists) (jobs : Vec J Global)
    (may : MayRunAll rack area needs pool lists jobs.items) (keeps : KeepLanes rack area needs relates) (locks : List (Lock (Cell R A))) (firsts : List (Caller (Past (Cell R A)))) (locked : AreLocked pool.metaslabs.shards.items locks firsts) (gl : Vec Span Global) (alone : gl.items ≡ groups_alone)
    (owns : Vec Own Global) (dealt_out : AreDealtOut pool.own lists owns.items) (uber' : Uber A) (shards' : List (Shard R A)) (owns' : Vec Own Global) (jobs' : Vec J Global) (ran : RunsLocked rack area relates pool.geometry locks pool.uber (lists ++ gl ∷ []) owns jobs uber' shards' owns' jobs')
    (x : State) (r : Represents rack area pool x) (says : J → J → Store → List Hold → Store → Type 0) (rests : J → Type 0) (tells : JobsTell rack area says rests relates x) (many_jobs : length lists ≡ length jobs.items) where
  abbrev pub Ran : ℕ → Type 0
  Ran i = JobRan relates locks ran.under.lock pool.geometry ran.old ran.new ran.under.over.passes ran.under.over.nexts i

  some : 0 < length locks
  some = some_metaslab rack area needs relates pool w lists al jobs may keeps locks firsts locked gl alone owns dealt_out

  many_old : length ran.old.passes.items ≡ length lists
  many_old = lanes_many rack area needs relates pool w lists al jobs may keeps locks firsts locked gl alone owns dealt_out uber' shards' owns' jobs' ran

  -- no checkpoint stood
  unpointed : check_by x.store.marks ≡ None
  unpointed = none_stands area pool.uber x (blocks_of x.metaslabs) r.stands.pieces r.stands.uber r.stands.holds r.stands.groups may.unpointed

  -- ---- one lane

  module _ (i : ℕ) (j : Ran i) (list : Vec Span Global) (list_is : slice_get lists i ≡ Some list) where
    new : IsDealt locks list.items j.lane.metaslabs.passes.items
    new = dealt_at rack area needs relates pool w lists al jobs may keeps locks firsts locked gl alone owns dealt_out ran.dealt ran.rests ran.groups ran.old ran.deals ran.shared ran.owns_are ran.jobs_are i list j.lane.metaslabs.passes list_is j.begun.held

    own_is : slice_get owns.items i ≡ Some j.lane.own
    own_is = sym (ap (λ (v : Vec Own Global). slice_get v.items i) ran.owns_are) ∙ j.begun.own

    lane_stands : StandsAt rack area x j.lane x
    lane_stands =
        let d = dealt_out.each i list j.lane.own list_is own_is in
        stands_first rack area pool x r locks firsts locked j.lane list.items j.over.turns new some d.objects d.seq d.floor

    -- what it did
    lane_led : LeadsLane rack area x (λ holds store. ((rests j.job → SawBytes rack area x j.next) → says j.job j.done x.store holds store) × Grows (owned_by j.lane.metaslabs.passes.items) x.store store) j.lane j.next
    lane_led = tells j.job j.lane j.done j.next j.related x lane_stands unpointed

  -- a lane's trace, and where it comes from
  pub record LedBy (i : ℕ) (trace : Trace) : Type 0 where
    pub ran_it : Ran i
    pub list : Vec Span Global
    pub list_is : slice_get lists i ≡ Some list
    pub led : LeadsLane rack area x (λ holds store. ((rests ran_it.job → SawBytes rack area x ran_it.next) → says ran_it.job ran_it.done x.store holds store) × Grows (owned_by ran_it.lane.metaslabs.passes.items) x.store store) ran_it.lane ran_it.next
    pub is : trace ≡ record { holds = led.holds; turns = led.turns; store = led.reached.store; since = led.done.1.since }

  all : Listed LedBy 0 (length lists)
  all = listed LedBy (length lists) 0 (λ k less.
      (let n : k ≡ 0 + k = omega arith in
      let j : Ran (0 + k) = subst Ran n (ran.under.over.ran.each k (let many = many_old in omega (arith, less, many))) in
      let list = present lists (0 + k) (omega (arith, less)) in
      let led = lane_led (0 + k) j list.0 list.1 in
      (record { holds = led.holds; turns = led.turns; store = led.reached.store; since = led.done.1.since }, record { ran_it = j; list = list.0; list_is = list.1; led = led; is = refl })))

  pub section_traces : List Trace
  section_traces = all.list

  pub traces_many : length section_traces ≡ length lists
  unfolding section_traces
  traces_many = all.many

  pub trace_at : (i : ℕ) (trace : Trace) → slice_get section_traces i ≡ Some trace → LedBy i trace
  unfolding section_traces
  trace_at i trace at = subst (λ n. LedBy n trace) (omega arith) (all.each i trace at)

  -- ---- all of them

  abbrev lock : Lock (UberCell R A)
  lock = ran.under.lock

  abbrev nexts : List (Caller (Past (UberCell R A)))
  nexts = ran.under.over.nexts

  abbrev lanes : List (Vec (Caller (Past (Cell R A))) Global)
  lanes = ran.new.passes.items

  lanes_are_many : length lanes ≡ length section_traces
  lanes_are_many = passes_many rack area needs relates pool w lists al jobs may keeps locks firsts locked gl alone owns dealt_out uber' shards' owns' jobs' ran ∙ sym traces_many

  ubers_are_many : length nexts ≡ length section_traces
  ubers_are_many = ran.under.over.ran.even.ubers ∙ lanes_are_many

  ran_lane : (i : ℕ) (trace : Trace) (lane : Vec (Caller (Past (Cell R A))) Global) (pass : Caller (Past (UberCell R A))) → LedBy i trace → slice_get lanes i ≡ Some lane → slice_get nexts i ≡ Some pass → RanLane G W rack area x locks lock trace lane pass
  ran_lane i trace lane pass t lane_is pass_is =
      let j = t.ran_it in
      let d = new i j t.list t.list_is in
      let fresh_uber : j.lane.pass ≡ newcomer lock.table [] (lane_alone i) = ran.under.over.of_lanes.each i j.lane.pass j.begun.pass in
      record {
        old = j.lane;
        new = j.next;
        locks_are = j.over.turns;
        uber_is = j.over.uber_is;
        many = d.many;
        fresh = λ m first at.
            (let l = lock_of pool.metaslabs.shards.items locks firsts locked t.list.items j.lane.metaslabs.passes.items d m first at in
            let is = pass_new pool.metaslabs.shards.items locks firsts locked t.list.items j.lane.metaslabs.passes.items d m l.0 first l.1 at in
            (ap (λ (p : Caller (Past (Cell R A))). p.seen) is, ap (λ (p : Caller (Past (Cell R A))). p.own) is));
        uber_fresh = (ap (λ (p : Caller (Past (UberCell R A))). p.seen) fresh_uber, ap (λ (p : Caller (Past (UberCell R A))). p.own) fresh_uber);
        passes_are = some_of (slice_get lanes i) j.next.metaslabs.passes lane j.ended.held lane_is;
        pass_is = some_of (slice_get nexts i) j.next.pass pass j.ended.pass pass_is;
        had = subst (λ (z : Trace). HadTurns rack area x j.lane j.next z.turns z.holds) (sym t.is) t.led.had;
        reached = t.led.reached;
        stands = t.led.stands;
        store_is = sym (ap (λ (z : Trace). z.store) t.is);
      }

  ran_lanes : RanLanes G W rack area x locks lock section_traces lanes nexts
  ran_lanes = record { many = lanes_are_many; many_ubers = ubers_are_many; each = λ i trace lane pass t_is lane_is pass_is. ran_lane i trace lane pass (trace_at i trace t_is) lane_is pass_is }

  -- ---- the state behind them

  x_many : length x.metaslabs ≡ length locks
  x_many = sym r.stands.shards ∙ sym locked.many

  abbrev e : LanesEnded rack area pool locks ran.rests lanes owns'.items uber' shards'
  e = lanes_ended rack area needs relates pool w lists al jobs may keeps locks firsts locked gl alone owns dealt_out uber' shards' owns' jobs' ran

  governs : IsUberOf rack area locks uber' ran.groups'
  governs = subst (λ ls. IsUberOf rack area ls uber' ran.groups') ran.under.made.turns_are ran.under.over.back.is

  rest_of : (m : ℕ) → m < length locks → (rest : Caller (Past (Cell R A))) × (slice_get ran.rests m ≡ Some rest) × (rest.own ≡ [])
  rest_of m inside =
      let rest = present ran.rests m (let many = ran.deals.fits.many in omega (arith, inside, many)) in
      (rest.0, rest.1, (ran.deals.fresh m rest.0 rest.1).1)

  idle : (m : ℕ) (pass : Caller (Past (Cell R A))) → slice_get ran.groups'.items m ≡ Some pass → pass.own ≡ []
  idle m pass at = (governs.alone m pass at).1

  first_groups : IsDealt locks groups_alone lock.first.groups.items
  first_groups = subst (λ (v : Vec (Caller (Past (Cell R A))) Global). IsDealt locks groups_alone v.items) (sym ran.under.made.groups_are)
      (dealt_groups locks (lists ++ gl ∷ []) ran.dealt ran.rests ran.groups ran.old ran.deals ran.shared (length lists) (ends lists al gl alone))

  begun : IsGoverned rack area x lock.first x
  begun = governed_first rack area pool x r locks firsts locked lock.first ran.under.made.turns_are ran.under.made.uber_is first_groups

  -- all that a lane saw had bytes
  lane_saw : (i : ℕ) (trace : Trace) (t : LedBy i trace) → SawBytes rack area x t.ran_it.next
  lane_saw i trace t m l pass l_is pass_is =
      let j = t.ran_it in
      let left = whole_at rack area needs relates pool w lists al jobs may keeps locks firsts locked gl alone owns dealt_out uber' shards' owns' jobs' ran i j in
      let turns : j.next.metaslabs.turns.now ≡ locks = left.same.turns ∙ j.over.turns in
      section_bytes G W rack area x locks lock x_many section_traces lanes nexts ran_lanes ran.groups' ran.rests shards' ran.unlocked rest_of idle (came_single rack area x) (begins_at rack area pool x r locks firsts locked) ran.under.over.rest ran.under.over.back.value ran.under.over.back.closes ran.under.over.of_lanes.fresh.2 begun
      (begins_bytes rack area pool x r locks firsts locked) m l (sym (ap (λ ls. slice_get ls m) turns) ∙ l_is) i j.next.metaslabs.passes pass j.ended.held pass_is

  zs : List Metaslab
  zs = section_metaslabs G W rack area x locks lock x_many section_traces lanes nexts ran_lanes ran.groups' ran.rests shards' ran.unlocked rest_of idle (came_single rack area x) (begins_at rack area pool x r locks firsts locked) ran.under.over.rest ran.under.over.back.value ran.under.over.back.closes ran.under.over.of_lanes.fresh.2 begun

  zs_many : length zs ≡ length locks
  unfolding zs
  zs_many = section_many G W rack area x locks lock x_many section_traces lanes nexts ran_lanes ran.groups' ran.rests shards' ran.unlocked rest_of idle (came_single rack area x) (begins_at rack area pool x r locks firsts locked) ran.under.over.rest ran.under.over.back.value ran.under.over.back.closes ran.under.over.of_lanes.fresh.2 begun

  final : (m : ℕ) (z : Metaslab) → slice_get zs m ≡ Some z → FinalAt rack area x locks shards' m z
  unfolding zs
  final m z at = (section_at G W rack area x locks lock x_many section_traces lanes nexts ran_lanes ran.groups' ran.rests shards' ran.unlocked rest_of idle (came_single rack area x) (begins_at rack area pool x r locks firsts locked) ran.under.over.rest ran.under.over.back.value ran.under.over.back.closes ran.under.over.of_lanes.fresh.2 begun m z at).final

  led_uber : UberTogether rack area x lock ran.under.over.back.closes.log (holds_all section_traces)
  led_uber = section_uber G W rack area x locks lock x_many section_traces lanes nexts ran_lanes ran.groups' ran.rests shards' ran.unlocked rest_of idle (came_single rack area x) (begins_at rack area pool x r locks firsts locked) ran.under.over.rest ran.under.over.back.value ran.under.over.back.closes ran.under.over.of_lanes.fresh.2 begun

  u : State
  u = led_uber.z

  governed : IsGoverned rack area x ran.under.over.back.value u
  unfolding u
  governed = subst (λ c. IsGoverned rack area x c u) (sym ran.under.over.back.closes.stood.is) led_uber.governed

  shards_many : length shards' ≡ length locks
  shards_many = ran.unlocked.many

  -- who holds the uberblock in the end
  value_groups : ran.under.over.back.value.groups.items ≡ ran.groups'.items
  value_groups = ap (λ (v : Vec (Caller (Past (Cell R A))) Global). v.items) (sym ran.under.over.back.groups_are)

  groups_owns : ℕ → Bool
  groups_owns = owned_by e.groups.items

  groups_drift : (m : ℕ) (l : Lock (Cell R A)) (pass : Caller (Past (Cell R A))) (shard : Shard R A) → slice_get locks m ≡ Some l → slice_get ran.under.over.back.value.groups.items m ≡ Some pass → slice_get shards' m ≡ Some shard → Drifts rack area true (owned_by e.groups.items) (left_in l pass.seen) shard
  groups_drift m l pass shard l_is pass_is shard_is =
      let s = governed_at m shard shard_is in
      let lock_same : s.lock ≡ l = some_of (slice_get locks m) s.lock l s.lock_is l_is in
      let pass_same : s.pass ≡ pass = some_of (slice_get ran.groups'.items m) s.pass pass s.pass_is (ap (λ ps. slice_get ps m) (sym value_groups) ∙ pass_is) in
      subst (λ (t : Lock (Cell R A) × Caller (Past (Cell R A))). Drifts rack area true (owned_by e.groups.items) (left_in t.0 t.1.seen) shard) (λ k. (lock_same k, pass_same k)) s.drifts
    where
      governed_at : (m : ℕ) (shard : Shard R A) (at : slice_get shards' m ≡ Some shard) → WasSeen rack area pool locks ran.rests lanes owns'.items uber' shards' e e.groups.items m shard
      governed_at m shard at = ended_governed rack area pool locks ran.rests lanes owns'.items uber' shards' e m shard at

  groups_held : (m : ℕ) (shard : Shard R A) → slice_get shards' m ≡ Some shard → owned_by e.groups.items groups_number ≡ true
  groups_held m shard at = groups_owned rack area pool locks ran.rests lanes owns'.items uber' shards' e m shard at

  groups_many : length ran.under.over.back.value.groups.items ≡ length locks
  groups_many = ap length value_groups ∙ governs.fits.many

  turns_are : ran.under.over.back.value.turns.now ≡ locks
  turns_are = ran.under.over.back.same ∙ ran.under.made.turns_are

  held : owned_by e.groups.items groups_number ≡ true
  held = (let shard = present shards' 0 (let more = shards_many in omega (arith, some, more)) in groups_held 0 shard.0 shard.1)

  -- ---- what each lane knows of it

  lane_known : (i : ℕ) (trace : Trace) (lane : Vec (Caller (Past (Cell R A))) Global) (t : LedBy i trace) → slice_get lanes i ≡ Some lane
      → Knows rack area (owned_by lane.items) (λ m. slice_get shards' m) (table_of t.ran_it.next) t.ran_it.next.own.seq t.ran_it.next.own.floor (record x { metaslabs = zs; store = trace.store })
  lane_known i trace lane t lane_is = subst (λ (z : Store). Knows rack area (owned_by lane.items) (λ m. slice_get shards' m) (table_of j.next) j.next.own.seq j.next.own.floor (record x { metaslabs = zs; store = z })) (sym (ap (λ (z : Trace). z.store) t.is))
      (subst (λ (v : Vec (Caller (Past (Cell R A))) Global). Knows rack area (owned_by v.items) (λ m. slice_get shards' m) (table_of j.next) j.next.own.seq j.next.own.floor (record x { metaslabs = zs; store = t.led.reached.store })) held_is
      (knows_final rack area x locks shards' zs zs_many shards_many final (came_single rack area x) (owned_by j.next.metaslabs.passes.items) no_groups j.next.metaslabs.passes.items (table_of j.next) j.next.own.seq j.next.own.floor fits.many drift t.led.reached stands.same (stands.many ∙ x_many)
      (λ m l pass l_is pass_is. stands.each m l pass (ap (λ ls. slice_get ls m) turns ∙ l_is) pass_is)
      (subst (λ ls. Knows rack area (owned_by j.next.metaslabs.passes.items) (last_in ls j.next.metaslabs.passes.items) (table_of j.next) j.next.own.seq j.next.own.floor t.led.reached) turns stands.knows)))
    where
      j : Ran i
      j = t.ran_it

      stands : StandsAt rack area x j.next t.led.reached
      stands = t.led.stands

      held_is : j.next.metaslabs.passes ≡ lane
      held_is = some_of (slice_get lanes i) j.next.metaslabs.passes lane j.ended.held lane_is

      left_whole : IsLeftWhole rack area j.lane j.next
      left_whole = whole_at rack area needs relates pool w lists al jobs may keeps locks firsts locked gl alone owns dealt_out uber' shards' owns' jobs' ran i j

      turns : j.next.metaslabs.turns.now ≡ locks
      turns = left_whole.same.turns ∙ j.over.turns

      no_groups : owned_by j.next.metaslabs.passes.items groups_number ≡ false
      no_groups = left_whole.whole.lane_is.no_groups

      fits : AreOf rack locks j.next.metaslabs.passes.items
      fits = subst (λ ls. AreOf rack ls j.next.metaslabs.passes.items) turns left_whole.whole.lane_is.fits

      own_there : slice_get owns'.items i ≡ Some j.next.own
      own_there = sym (ap (λ (v : Vec Own Global). slice_get v.items i) ran.owns_then) ∙ j.ended.own

      drift : (m : ℕ) (l : Lock (Cell R A)) (pass : Caller (Past (Cell R A))) (shard : Shard R A) → slice_get locks m ≡ Some l → slice_get j.next.metaslabs.passes.items m ≡ Some pass → slice_get shards' m ≡ Some shard → Drifts rack area true (owned_by j.next.metaslabs.passes.items) (left_in l pass.seen) shard
      drift m l pass shard l_is pass_is shard_is =
          let s = lane_seen rack area pool locks ran.rests lanes owns'.items uber' shards' e i j.next.metaslabs.passes j.next.own j.ended.held own_there m shard shard_is in
          let lock_same : s.lock ≡ l = some_of (slice_get locks m) s.lock l s.lock_is l_is in
          let pass_same : s.pass ≡ pass = some_of (slice_get j.next.metaslabs.passes.items m) s.pass pass s.pass_is pass_is in
          subst (λ (z : Lock (Cell R A) × Caller (Past (Cell R A))). Drifts rack area true (owned_by j.next.metaslabs.passes.items) (left_in z.0 z.1.seen) shard) (λ k. (lock_same k, pass_same k)) s.drifts

  -- and what is so of the objects that no lane had
  rests_many : length ran.rests ≡ length locks
  rests_many = ran.deals.fits.many

  rests_no_groups : owned_by ran.rests groups_number ≡ false
  rests_no_groups = by (owned_by ran.rests groups_number) refl
    where
      by : (b : Bool) → owned_by ran.rests groups_number ≡ b → owned_by ran.rests groups_number ≡ false
      by false is = is
      by true is = absurd (
          let rest = present ran.rests 0 (let many = rests_many in omega (arith, some, many)) in
          let mine : holds groups_number rest.0.numbers ≡ true = owned_at ran.rests 0 groups_number rest.0 rest.1 is in
          let one : one_if (holds groups_number rest.0.numbers) ≡ 1 = ap one_if mine in
          let left = ran.deals.left 0 rest.0 rest.1 groups_number (omega arith) in
          let theirs = shared_at groups_number (lists ++ gl ∷ []) (length lists) gl (get_last lists gl) (ap (holds groups_number) alone ∙ groups_in) in
          omega (arith, one, left, theirs))

  rest_known : Knows rack area (owned_by ran.rests) (λ m. slice_get shards' m) (table_in pool) pool.own.seq pool.own.floor (record x { metaslabs = zs; store = x.store })
  rest_known = knows_final rack area x locks shards' zs zs_many shards_many final (came_single rack area x) (owned_by ran.rests) rests_no_groups ran.rests (table_in pool) pool.own.seq pool.own.floor rests_many drift x refl x_many each known
    where
      fresh : (m : ℕ) (pass : Caller (Past (Cell R A))) → slice_get ran.rests m ≡ Some pass → pass.seen ≡ []
      fresh m pass at = (ran.deals.fresh m pass at).0

      drift : (m : ℕ) (l : Lock (Cell R A)) (pass : Caller (Past (Cell R A))) (shard : Shard R A) → slice_get locks m ≡ Some l → slice_get ran.rests m ≡ Some pass → slice_get shards' m ≡ Some shard → Drifts rack area true (owned_by ran.rests) (left_in l pass.seen) shard
      drift m l pass shard l_is pass_is shard_is =
          let t = taken rack area pool locks ran.rests lanes owns'.items uber' shards' e m shard shard_is in
          let lock_same : t.lock ≡ l = some_of (slice_get locks m) t.lock l t.lock_is l_is in
          subst (λ (s : Shard R A). Drifts rack area true (owned_by ran.rests) s shard) (ap (λ (k : Lock (Cell R A)). k.first.shard) lock_same ∙ ap (left_in l) (sym (fresh m pass pass_is))) (rest_drifts rack area pool locks ran.rests lanes owns'.items uber' shards' e m shard t)

      each : (m : ℕ) (l : Lock (Cell R A)) (pass : Caller (Past (Cell R A))) → slice_get locks m ≡ Some l → slice_get ran.rests m ≡ Some pass → (z : Metaslab) × (slice_get x.metaslabs m ≡ Some z) × CameAt rack area x l pass.seen m z
      each m l pass l_is pass_is =
          let y = present x.metaslabs m (let inside = slice_get_within locks m l l_is in let many = x_many in omega (arith, inside, many)) in
          (y.0, y.1, subst (λ s. CameAt rack area x l s m y.0) (sym (fresh m pass pass_is)) (begins_at rack area pool x r locks firsts locked m l y.0 l_is y.1))

      lasts_are : (λ m. slice_get pool.metaslabs.shards.items m) ≡ last_in locks ran.rests
      lasts_are = ext (λ m. slice_get pool.metaslabs.shards.items m) (last_in locks ran.rests) by
        where
          by : (m : ℕ) → slice_get pool.metaslabs.shards.items m ≡ last_in locks ran.rests m
          by m = elim (cases_lt m (length locks)) [
            | inl inside ↦
                let l = present locks m inside in
                let rest = present ran.rests m (let many = rests_many in omega (arith, inside, many)) in
                first_of pool.metaslabs.shards.items locks firsts locked m l.0 l.1 ∙ (ap (λ s. Some (left_in l.0 s)) (sym (fresh m rest.0 rest.1)) ∙ sym (λ i. last_of (l.1 i) (rest.1 i)))
            | inr past ↦ slice_get_past pool.metaslabs.shards.items m (let many = locked.many in omega (arith, past, many)) ∙ sym (ap (λ o. last_of o (slice_get ran.rests m)) (slice_get_past locks m past))
          ]

      known : Knows rack area (owned_by ran.rests) (last_in locks ran.rests) (table_in pool) pool.own.seq pool.own.floor x
      known = subst (λ f. Knows rack area (owned_by ran.rests) f (table_in pool) pool.own.seq pool.own.floor x) lasts_are
          (knows_some rack area everything (owned_by ran.rests) (λ n mine. refl) (λ m. slice_get pool.metaslabs.shards.items m) (table_in pool) pool.own.seq pool.own.floor x (knows_all rack area pool x r))

  -- ---- whose an object is

  -- a lane, its list, and its passes
  record OfLane (i : ℕ) (lane : Vec (Caller (Past (Cell R A))) Global) : Type 0 where
    list : Vec Span Global
    own : Own
    list_is : slice_get lists i ≡ Some list
    own_is : slice_get owns'.items i ≡ Some own
    owns_list : (n : ℕ) → holds n list.items ≡ true → owned_by lane.items n ≡ true
    list_owns : (n : ℕ) → owned_by lane.items n ≡ true → holds n list.items ≡ true

  of_lane : (i : ℕ) (lane : Vec (Caller (Past (Cell R A))) Global) → slice_get lanes i ≡ Some lane → OfLane i lane
  of_lane i lane lane_is =
      let inside = slice_get_within lanes i lane lane_is in
      let list = present lists i (let a = lanes_are_many in let b = traces_many in omega (arith, inside, a, b)) in
      let own = present owns'.items i (let a = owns_many rack area needs relates pool w lists al jobs may keeps locks firsts locked gl alone owns dealt_out uber' shards' owns' jobs' ran in let b = lanes_are_many in let c = traces_many in omega (arith, inside, a, b, c)) in
      let z = ended_at rack area needs relates pool w lists al jobs may keeps locks firsts locked gl alone owns dealt_out uber' shards' owns' jobs' ran i list.0 own.0 lane list.1 own.1 lane_is in
      record { list = list.0; own = own.0; list_is = list.1; own_is = own.1; owns_list = z.owns_list; list_owns = z.list_owns }

  -- a number that is in two lists is there twice
  two_shared : (n : ℕ) (ls : List (Vec Span Global)) (i j : ℕ) (a b : Vec Span Global) → i < j → slice_get ls i ≡ Some a → slice_get ls j ≡ Some b → holds n a.items ≡ true → holds n b.items ≡ true → 2 ≤ shares n ls
  two_shared n [] i j a b less a_is b_is mine yours = absurd (cc)
  two_shared n (l ∷ ls) i zero a b less a_is b_is mine yours = absurd (omega (arith, less))
  two_shared n (l ∷ ls) zero (suc j) a b less a_is b_is mine yours =
      let one : one_if (holds n l.items) ≡ 1 = ap (λ (v : Vec Span Global). one_if (holds n v.items)) (some_of (Some l) l a refl a_is) ∙ ap one_if mine in
      let rest = shared_at n ls j b b_is yours in
      let all = sum_by-cons (λ (v : Vec Span Global). one_if (holds n v.items)) l ls in omega (arith, one, rest, all)
  two_shared n (l ∷ ls) (suc i) (suc j) a b less a_is b_is mine yours =
      let rest = two_shared n ls i j a b (omega (arith, less)) a_is b_is mine yours in
      let all = sum_by-cons (λ (v : Vec Span Global). one_if (holds n v.items)) l ls in omega (arith, rest, all)

  apart : (i j : ℕ) (a b : Vec (Caller (Past (Cell R A))) Global) (o : ℕ) → slice_get lanes i ≡ Some a → slice_get lanes j ≡ Some b → owned_by a.items o ≡ true → owned_by b.items o ≡ true → i ≡ j
  apart i j a b o a_is b_is mine yours =
      let p = of_lane i a a_is in
      let q = of_lane j b b_is in
      let few = al.apart o in
      elim (cases_lt i j) [
        | inl less ↦ absurd (let two = two_shared o lists i j p.list q.list less p.list_is q.list_is (p.list_owns o mine) (q.list_owns o yours) in omega (arith, two, few))
        | inr from ↦ elim (cases_lt j i) [
          | inl less ↦ absurd (let two = two_shared o lists j i q.list p.list less q.list_is p.list_is (q.list_owns o yours) (p.list_owns o mine) in omega (arith, two, few))
          | inr back ↦ omega (arith, from, back)
        ]
      ]

  -- what is in a list is no number that was kept back
  not_kept : (o : ℕ) → 1 ≤ shares o lists → owned_by ran.rests o ≡ true → ⊥
  not_kept o some_list mine =
      let rest = present ran.rests 0 (let many = rests_many in omega (arith, some, many)) in
      let here : holds o rest.0.numbers ≡ true = owned_at ran.rests 0 o rest.0 rest.1 mine in
      let one : one_if (holds o rest.0.numbers) ≡ 1 = ap one_if here in
      let low = (al.inside o some_list).1 in
      let left = ran.deals.left 0 rest.0 rest.1 o (omega (arith, low)) in
      let more : shares o (lists ++ gl ∷ []) ≡ shares o lists + one_if (holds o gl.items) = count_push (λ (v : Vec Span Global). holds o v.items) lists gl in
      omega (arith, one, left, more, some_list)

  apart_rest : (i : ℕ) (a : Vec (Caller (Past (Cell R A))) Global) (o : ℕ) → slice_get lanes i ≡ Some a → owned_by a.items o ≡ true → owned_by ran.rests o ≡ true → ⊥
  apart_rest i a o a_is mine yours = (let p = of_lane i a a_is in not_kept o (shared_at o lists i p.list p.list_is (p.list_owns o mine)) yours)

  large : (o : ℕ) → any_owns lanes o ≡ false → owned_by ran.rests o ≡ false → OBJECTS ≤ o
  large o none rest = elim (cases_lt o OBJECTS) [
    | inr from ↦ from
    | inl below ↦ absurd (elim (whose rack area needs relates pool w lists al jobs may keeps locks firsts locked gl alone owns dealt_out uber' shards' owns' jobs' ran o below) [
      | inl kept ↦ true≢false (sym kept ∙ rest)
      | inr z ↦ none_owns lanes o none z.0 z.1 z.2 z.3
    ])
  ]

  -- no list has what no lane owns
  unlisted : (o : ℕ) → any_owns lanes o ≡ false → shares o lists ≡ 0
  unlisted o none = elim (shared_by o lists) [
    | inl zero_is ↦ zero_is
    | inr z ↦ absurd (
        let inside = slice_get_within lists z.0 z.1 z.2 in
        let lane = present lanes z.0 (let a = lanes_are_many in let b = traces_many in omega (arith, inside, a, b)) in
        let p = of_lane z.0 lane.0 lane.1 in
        let same : p.list ≡ z.1 = some_of (slice_get lists z.0) p.list z.1 p.list_is z.2 in
        none_owns lanes o none z.0 lane.0 lane.1 (p.owns_list o (ap (λ (v : Vec Span Global). holds o v.items) same ∙ z.3)))
  ]

  -- ---- what each lane has of its own

  table_from : Option Own → ℕ → Option Pointer
  table_from None o = None
  table_from (Some own) o = get nat_eq own.objects o

  seq_from : Option Own → ℕ
  seq_from None = 0
  seq_from (Some own) = own.seq

  floor_from : Option Own → ℕ
  floor_from None = 0
  floor_from (Some own) = own.floor

  tables : ℕ → ℕ → Option Pointer
  tables i = table_from (slice_get owns'.items i)

  seqs : ℕ → ℕ
  seqs i = seq_from (slice_get owns'.items i)

  floors : ℕ → ℕ
  floors i = floor_from (slice_get owns'.items i)

  own_there : (i : ℕ) (trace : Trace) (t : LedBy i trace) → slice_get owns'.items i ≡ Some t.ran_it.next.own
  own_there i trace t = sym (ap (λ (v : Vec Own Global). slice_get v.items i) ran.owns_then) ∙ t.ran_it.ended.own

  knows_each : (i : ℕ) (trace : Trace) (lane : Vec (Caller (Past (Cell R A))) Global) → slice_get section_traces i ≡ Some trace → slice_get lanes i ≡ Some lane → Knows rack area (owned_by lane.items) (λ m. slice_get shards' m) (tables i) (seqs i) (floors i) (record x { metaslabs = zs; store = trace.store })
  unfolding tables seqs floors table_from seq_from floor_from
  knows_each i trace lane trace_is lane_is =
      let t = trace_at i trace trace_is in
      subst (λ (o : Option Own). Knows rack area (owned_by lane.items) (λ m. slice_get shards' m) (table_from o) (seq_from o) (floor_from o) (record x { metaslabs = zs; store = trace.store })) (sym (own_there i trace t)) (lane_known i trace lane t lane_is)

  adds : (i : ℕ) (trace : Trace) → slice_get section_traces i ≡ Some trace → trace.store.changes ≡ trace.since ++ x.store.changes
  adds i trace at = (let t = trace_at i trace at in subst (λ (z : Trace). z.store.changes ≡ z.since ++ x.store.changes) (sym t.is) t.led.done.1.added)

  marks_lane : (i : ℕ) (trace : Trace) → slice_get section_traces i ≡ Some trace → trace.store.marks ≡ x.store.marks
  marks_lane i trace at = (let t = trace_at i trace at in subst (λ (z : Trace). z.store.marks ≡ x.store.marks) (sym t.is) (t.led.done.1.marks unpointed))

  own_since : (i : ℕ) (trace : Trace) (lane : Vec (Caller (Past (Cell R A))) Global) → slice_get section_traces i ≡ Some trace → slice_get lanes i ≡ Some lane → All (λ c. owned_by lane.items (object_of c) ≡ true) trace.since
  own_since i trace lane at lane_is =
      let t = trace_at i trace at in
      let j = t.ran_it in
      let same : owned_by j.lane.metaslabs.passes.items ≡ owned_by lane.items = sym (whole_at rack area needs relates pool w lists al jobs may keeps locks firsts locked gl alone owns dealt_out uber' shards' owns' jobs' ran i j).same.owns ∙ ap (λ (v : Vec (Caller (Past (Cell R A))) Global). owned_by v.items) (some_of (slice_get lanes i) j.next.metaslabs.passes lane j.ended.held lane_is) in
      subst (λ (z : Trace). All (λ c. owned_by lane.items (object_of c) ≡ true) z.since) (sym t.is) (subst (λ (f : ℕ → Bool). All (λ c. f (object_of c) ≡ true) t.led.done.1.since) same t.led.done.1.own)

  -- ---- the pool that is put together

  module _ (q : Pool R A) (geometry : q.geometry ≡ pool.geometry) (shards_q : q.metaslabs.shards.items ≡ shards') (uber_q : q.uber ≡ uber') (takes : TakesAll lists owns'.items pool.own q.own) (wq : IsWhole rack area q) where
    -- what befell all lanes' objects, and what the pool has of its own then
    abbrev store : Store
    store = record { changes = flat_map (λ (z : Trace). z.since) section_traces ++ x.store.changes; marks = x.store.marks; seq = q.own.seq; floor = q.own.floor }

    committed : (m : ℕ) (y : Metaslab) → slice_get zs m ≡ Some y → y.world.committed ≡ u.committed
    committed = end_committed rack area x locks shards' zs zs_many shards_many final (came_single rack area x) ran.under.over.back.value turns_are groups_many u governed (owned_by e.groups.items) held groups_drift store

    -- the first metaslab, as it was and as it is
    up : x.committed ≤ u.committed
    up =
        let z = present zs 0 (let many = zs_many in omega (arith, some, many)) in
        let f = final 0 z.0 z.1 in
        let y = present x.metaslabs 0 (let many = x_many in omega (arith, some, many)) in
        let t = taken rack area pool locks ran.rests lanes owns'.items uber' shards' e 0 f.shard f.shard_is in
        let lock_same : t.lock ≡ f.lock = some_of (slice_get locks 0) t.lock f.lock t.lock_is f.lock_is in
        let later = (rest_drifts rack area pool locks ran.rests lanes owns'.items uber' shards' e 0 f.shard t).later in
        let first = (r.stands.each 0 f.lock.first.shard y.0 (first_of pool.metaslabs.shards.items locks firsts locked 0 f.lock f.lock_is) y.1).stands.is_in.committed in
        let was = r.stands.groups.committed 0 y.0 y.1 in
        let shard_was : t.lock.first.shard.committed ≡ f.lock.first.shard.committed = ap (λ (l : Lock (Cell R A)). l.first.shard.committed) lock_same in
        let left : (left_in f.lock f.log).committed ≡ f.shard.committed = ap (λ (s : Shard R A). s.committed) f.left in
        let now = f.at.came.is.stands.is_in.committed in
        let same : f.at.came.reached.world.committed ≡ z.0.world.committed = ap (λ (v : Metaslab). v.world.committed) f.at.is in
        let end = committed 0 z.0 z.1 in
        omega (arith, later, first, was, shard_was, left, now, same, end)

    greatest_first : (f : Own → ℕ) (first : Own) (list : List Own) → f first ≤ greatest f first list
    greatest_first f first [] = omega arith
    greatest_first f first (o ∷ list) = (let more = greatest_first f first list in omega (arith, more))

    greatest_each : (f : Own → ℕ) (first : Own) (list : List Own) (i : ℕ) (own : Own) → slice_get list i ≡ Some own → f own ≤ greatest f first list
    greatest_each f first [] i own is = absurd (cc)
    greatest_each f first (o ∷ list) zero own is = (let same : f o ≡ f own = ap f (some_of (Some o) o own refl is) in omega (arith, same))
    greatest_each f first (o ∷ list) (suc i) own is = (let less = greatest_each f first list i own is in omega (arith, less))

    table_lane : (i : ℕ) (lane : Vec (Caller (Past (Cell R A))) Global) → slice_get lanes i ≡ Some lane → (o : ℕ) → owned_by lane.items o ≡ true → get nat_eq q.own.objects o ≡ tables i o
    unfolding tables table_from
    table_lane i lane lane_is o mine =
        let p = of_lane i lane lane_is in
        takes.taken i p.list p.own p.list_is p.own_is o (p.list_owns o mine) ∙ sym (ap (λ z. table_from z o) p.own_is)

    none_listed : (o : ℕ) (n : ℕ) → shares o lists ≡ n → owned_by ran.rests o ≡ true → shares o lists ≡ 0
    none_listed o zero is mine = is
    none_listed o (suc n) is mine = absurd (not_kept o (omega (arith, is)) mine)

    table_rest : (o : ℕ) → owned_by ran.rests o ≡ true → get nat_eq q.own.objects o ≡ table_in pool o
    table_rest o mine = takes.others o (none_listed o (shares o lists) refl mine)

    table_none : (o : ℕ) → any_owns lanes o ≡ false → owned_by ran.rests o ≡ false → get nat_eq q.own.objects o ≡ None
    table_none o none rest = takes.others o (unlisted o none) ∙ by (get nat_eq pool.own.objects o) refl
      where
        by : (p : Option Pointer) → get nat_eq pool.own.objects o ≡ p → get nat_eq pool.own.objects o ≡ None
        by None at = at
        by (Some pointer) at = absurd (
            let z = w.objects o pointer at in
            let low : pointer.object < OBJECTS = ((w.shards pointer.metaslab z.shard z.there).valid.tables.placed pointer.first (staged Live pointer) z.live).is_block.object_small in
            let from = large o none rest in
            let same = z.object_is in
            omega (arith, low, from, same))

    seq_lane : (i : ℕ) (trace : Trace) → slice_get section_traces i ≡ Some trace → seqs i ≤ q.own.seq
    unfolding seqs seq_from
    seq_lane i trace at =
        let there = own_there i trace (trace_at i trace at) in
        let most = greatest_each (λ (own : Own). own.seq) pool.own owns'.items i (trace_at i trace at).ran_it.next.own there in
        let is = takes.seq in
        let mine : seqs i ≡ (trace_at i trace at).ran_it.next.own.seq = ap seq_from there in
        omega (arith, most, is, mine)

    floor_lane : (i : ℕ) (trace : Trace) → slice_get section_traces i ≡ Some trace → floors i ≤ q.own.floor
    unfolding floors floor_from
    floor_lane i trace at =
        let there = own_there i trace (trace_at i trace at) in
        let most = greatest_each (λ (own : Own). own.floor) pool.own owns'.items i (trace_at i trace at).ran_it.next.own there in
        let is = takes.floor in
        let mine : floors i ≡ (trace_at i trace at).ran_it.next.own.floor = ap floor_from there in
        omega (arith, most, is, mine)

    seq_rest : pool.own.seq ≤ q.own.seq
    seq_rest = (let most = greatest_first (λ (own : Own). own.seq) pool.own owns'.items in let is = takes.seq in omega (arith, most, is))

    floor_rest : pool.own.floor ≤ q.own.floor
    floor_rest = (let most = greatest_first (λ (own : Own). own.floor) pool.own owns'.items in let is = takes.floor in omega (arith, most, is))

    next : q.own.floor ≤ u.committed + 2
    next =
        let z = present zs 0 (let many = zs_many in omega (arith, some, many)) in
        let f = final 0 z.0 z.1 in
        let is = committed_is rack area pool locks ran.rests lanes owns'.items uber' shards' e 0 f.shard f.shard_is in
        let low = wq.floor in
        let named : group_of (kept_of q.uber) ≡ group_of (kept_of uber') = ap (λ (v : Uber A). group_of (kept_of v)) uber_q in
        let left : (left_in f.lock f.log).committed ≡ f.shard.committed = ap (λ (s : Shard R A). s.committed) f.left in
        let now = f.at.came.is.stands.is_in.committed in
        let same : f.at.came.reached.world.committed ≡ z.0.world.committed = ap (λ (v : Metaslab). v.world.committed) f.at.is in
        let end = committed 0 z.0 z.1 in
        omega (arith, is, low, named, left, now, same, end)

    last : q.own.floor ≤ LAST_NUMBER
    last = wq.low

    -- what all owners' objects had befall them
    since_are : (ts : List Trace) (ls : List (Vec (Caller (Past (Cell R A))) Global)) (others : List Owner) → length ls ≡ length ts → all_since others ≡ [] → all_since (owners_of others ts ls) ≡ flat_map (λ (z : Trace). z.since) ts
    since_are [] [] others many none = none
    since_are [] (l ∷ ls) others many none = absurd (omega (arith, many))
    since_are (t ∷ ts) [] others many none = absurd (omega (arith, many))
    since_are (t ∷ ts) (l ∷ ls) others many none =
        flat_map-cons (λ (a : Owner). a.since) (owner_of t l) (owners_of others ts ls) ∙ (ap (λ cs. t.since ++ cs) (since_are ts ls others (omega (arith, many)) none) ∙ sym (flat_map-cons (λ (z : Trace). z.since) t ts))

    added : store.changes ≡ all_since (section_owners rack area x pool r locks shards' zs u zs_many shards_many x_many final committed up section_traces lanes lanes_are_many (owned_by ran.rests) large apart apart_rest own_since adds marks_lane tables seqs floors knows_each (table_in pool) rest_known q table_lane table_rest table_none seq_lane seq_rest floor_lane floor_rest next last geometry shards_q) ++ x.store.changes
    added = ap (λ cs. cs ++ x.store.changes) (sym (since_are section_traces lanes _ lanes_are_many refl))

    reached : State
    reached = with_uber (record x { metaslabs = zs; store = store }) u

    uber_here : IsUber area q.uber reached
    unfolding reached
    uber_here = subst (λ v. IsUber area v (with_uber (record x { metaslabs = zs; store = store }) u)) (sym (uber_q ∙ ran.under.over.back.uber_is)) (end_uber rack area x locks shards' zs zs_many shards_many final (came_single rack area x) ran.under.over.back.value turns_are groups_many u governed (owned_by e.groups.items) held groups_drift store (sym (ap (λ (s : Store). s.marks) governed.store)))

    represents : Represents rack area q reached
    unfolding reached
    represents = section_represents rack area x pool r locks shards' zs u zs_many shards_many x_many final committed up section_traces lanes lanes_are_many (owned_by ran.rests) large apart apart_rest own_since adds marks_lane tables seqs floors knows_each (table_in pool) rest_known q table_lane table_rest table_none seq_lane seq_rest floor_lane floor_rest next last geometry shards_q store added refl refl refl uber_here (end_images rack area x locks shards' zs zs_many shards_many final (came_single rack area x) ran.under.over.back.value turns_are groups_many u governed (owned_by e.groups.items) held groups_drift store) (end_leaves rack area x locks shards' zs zs_many shards_many final (came_single rack area x) ran.under.over.back.value turns_are groups_many u governed (owned_by e.groups.items) held groups_drift store) governed.shared governed.versions (end_alike rack area x locks shards' zs zs_many shards_many final (came_single rack area x) ran.under.over.back.value turns_are groups_many u governed (owned_by e.groups.items) held groups_drift store)

    -- ---- what is said of it

    abbrev did_of : Trace → LaneDid
    did_of z = record { holds = z.holds; store = z.store; since = z.since }

    abbrev dids : List LaneDid
    dids = map did_of section_traces

    did_at : (i : ℕ) (ts : List Trace) (did : LaneDid) → slice_get (map did_of ts) i ≡ Some did → (trace : Trace) × (slice_get ts i ≡ Some trace) × (did_of trace ≡ did)
    did_at i [] did at = absurd (cc)
    did_at zero (t ∷ ts) did at = (t, refl, cc)
    did_at (suc i) (t ∷ ts) did at = did_at i ts did at

    holds_are : (ts : List Trace) → map (λ (z : LaneDid). z.holds) (map did_of ts) ≡ holds_all ts
    holds_are [] = refl
    holds_are (t ∷ ts) = ap (λ hs. t.holds ∷ hs) (holds_are ts)

    since_all : (ts : List Trace) → flat_map (λ (z : LaneDid). z.since) (map did_of ts) ≡ flat_map (λ (z : Trace). z.since) ts
    since_all [] = refl
    since_all (t ∷ ts) = flat_map-cons (λ (z : LaneDid). z.since) (did_of t) (map did_of ts) ∙ (ap (λ cs. t.since ++ cs) (since_all ts) ∙ sym (flat_map-cons (λ (z : Trace). z.since) t ts))

    -- the greatest of what the lanes' tables have is that of what they are known to have
    greatest_same : (f : Own → ℕ) (g : Store → ℕ) → f pool.own ≡ g x.store → (os : List Own) (ts : List Trace) → length os ≡ length ts → ((i : ℕ) (own : Own) (trace : Trace) → slice_get os i ≡ Some own → slice_get ts i ≡ Some trace → f own ≡ g trace.store)
        → greatest f pool.own os ≡ greatest_of g x.store (map did_of ts)
    greatest_same f g first [] [] many each = first
    greatest_same f g first [] (t ∷ ts) many each = absurd (omega (arith, many))
    greatest_same f g first (o ∷ os) [] many each = absurd (omega (arith, many))
    greatest_same f g first (o ∷ os) (t ∷ ts) many each =
        (λ k. max (each 0 o t refl refl k) (greatest_same f g first os ts (omega (arith, many)) (λ i own trace a b. each (suc i) own trace a b) k))

    owns_as_many : length owns'.items ≡ length section_traces
    owns_as_many = owns_many rack area needs relates pool w lists al jobs may keeps locks firsts locked gl alone owns dealt_out uber' shards' owns' jobs' ran ∙ sym traces_many

    own_same : (i : ℕ) (own : Own) (trace : Trace) → slice_get owns'.items i ≡ Some own → slice_get section_traces i ≡ Some trace → (own.seq ≡ trace.store.seq) × (own.floor ≡ trace.store.floor)
    own_same i own trace own_is trace_is =
        let t = trace_at i trace trace_is in
        let same : t.ran_it.next.own ≡ own = some_of (slice_get owns'.items i) t.ran_it.next.own own (own_there i trace t) own_is in
        let known = t.led.stands.knows.but_it in
        let stored = ap (λ (z : Trace). z.store) t.is in
        (ap (λ (v : Own). v.seq) (sym same) ∙ (sym known.seq ∙ ap (λ (v : Store). v.seq) (sym stored)), ap (λ (v : Own). v.floor) (sym same) ∙ (sym known.floor ∙ ap (λ (v : Store). v.floor) (sym stored)))

    -- each metaslab is in step
    in_step : (committed : ℕ) (open_group : ℕ) (closing : Option ℕ) (sealed : Bool) (v : machine.State) → AreGroups open_group closing committed sealed → v.open_group ≡ open_group → v.closing ≡ closing → IsInStep committed v
    in_step c o None sealed v are open_is closing_is = record { idle = λ idle. open_is ∙ are.0; busy = λ group busy. absurd (let z = sym closing_is ∙ busy in cc) }
    in_step c o (Some t) sealed v are open_is closing_is = record {
      idle = λ idle. absurd (let z = sym closing_is ∙ idle in cc);
      busy = λ group busy. (let same : t ≡ group = (let z = sym closing_is ∙ busy in cc) in let a = are.0 in let b = are.1 in (omega (arith, same, b), omega (arith, open_is, same, a)));
    }

    steps : AreInStep reached
    unfolding reached
    steps k y at =
        let f = final k y at in
        let is = f.at.came.is in
        let moved = in_step (left_in f.lock f.log).committed (left_in f.lock f.log).open_group (left_in f.lock f.log).closing (left_in f.lock f.log).sealed f.at.came.reached.world is.valid.groups is.stands.is_in.open_group_is is.stands.is_in.closing in
        let same : (left_in f.lock f.log).committed ≡ u.committed = sym is.stands.is_in.committed ∙ (ap (λ (v : Metaslab). v.world.committed) f.at.is ∙ committed k y at) in
        subst (λ (c : ℕ). IsInStep c y.world) same (subst (λ (v : Metaslab). IsInStep (left_in f.lock f.log).committed v.world) f.at.is moved)

    together : Together (map (λ (z : LaneDid). z.holds) dids) x reached
    unfolding reached zs u led_uber
    together = subst (λ hs. Together hs x reached) (sym (holds_are section_traces)) (section_together G W rack area x locks lock x_many section_traces lanes nexts ran_lanes ran.groups' ran.rests shards' ran.unlocked rest_of idle (came_single rack area x) (begins_at rack area pool x r locks firsts locked) ran.under.over.rest ran.under.over.back.value ran.under.over.back.closes ran.under.over.of_lanes.fresh.2 begun store)

    -- the whole of it
    pub section_stood : SectionStood rack area says x jobs.items jobs'.items q
    unfolding reached
    section_stood = record {
      lanes = dids;
      many = length-map section_traces did_of ∙ (traces_many ∙ many_jobs);
      done_many = ap (λ (v : Vec J Global). length v.items) (sym ran.jobs_then) ∙ (ran.under.over.ran.even.jobs ∙ (lanes_are_many ∙ (traces_many ∙ many_jobs)));
      each = λ i did at.
          (let z = did_at i section_traces did at in
          let t = trace_at i z.0 z.1 in
          let j = t.ran_it in (
            j.job,
            j.done,
            sym (ap (λ (v : Vec J Global). slice_get v.items i) ran.jobs_are) ∙ j.begun.job_is,
            sym (ap (λ (v : Vec J Global). slice_get v.items i) ran.jobs_then) ∙ j.ended.job_is,
            subst (λ (v : LaneDid). says j.job j.done x.store v.holds v.store) (ap did_of (sym t.is) ∙ z.2) (t.led.done.0 (λ rests. lane_saw i z.0 t)),
            subst (λ (v : LaneDid). v.store.changes ≡ v.since ++ x.store.changes) z.2 (adds i z.0 z.1),
          ));
      unpointed = unpointed;
      reached = reached;
      represents = represents;
      together = together;
      changes = ap (λ cs. cs ++ x.store.changes) (sym (since_all section_traces));
      marks = refl;
      seq = takes.seq ∙ greatest_same (λ (o : Own). o.seq) (λ (v : Store). v.seq) (sym r.stands.seq) owns'.items section_traces owns_as_many (λ i own trace a b. (own_same i own trace a b).0);
      floor = takes.floor ∙ greatest_same (λ (o : Own). o.floor) (λ (v : Store). v.floor) (sym r.stands.floor) owns'.items section_traces owns_as_many (λ i own trace a b. (own_same i own trace a b).1);
      steps = steps;
      switches = end_switches rack area x locks shards' zs zs_many shards_many final (came_single rack area x) ran.under.over.back.value turns_are groups_many u governed (owned_by e.groups.items) held groups_drift store;
    }
