-- Counts of failed calls on the areas of a pool whose lanes ran: along the histories of all locks none falls, and where an area failed a lane one rose.
use Rattle.std.proofs.Common.{◌≡◌, ◌∙◌, ◌++◌, ◌∷◌, ◌<◌, ◌≤◌, inl, inr, arith, ℕ, zero, suc, List, [], None, Some, length, sym, ap, subst, refl, slice_set}
use Rattle.std.proofs.lemmas.List.{append_assoc}
use mathlib.Core.Logic.{dite}
use native.Mathlib.Decide.{ℕ_discrete}
use Rattle.std.specs.Prelude.{slice_get}
use Rattle.std.specs.declared.vec.Vec.{Vec}
use Rattle.std.specs.declared.alloc.Global.{Global}
use Rattle.std.proofs.lemmas.Option.{slice_get_within}
use Rattle.draid_names.specs.Faults.{Rose}
use Rattle.draid_rack.specs.declared.Rack as racks
use Rattle.draid_area.specs.declared.Area as areas
use Rattle.draid_shard.specs.declared.shard.Shard.{Shard}
use Rattle.draid_turn.specs.Calls.{Caller, Lock}
use Rattle.draid_turn.specs.History.{Steps, left_by}
use Rattle.draid_turn.specs.Lists.{StartsWith}
use Rattle.draid_turn.specs.declared.past.Past.{Past}
use Rattle.draid_turn.specs.declared.span.Span.{Span}
use Rattle.draid_holds.specs.Passes.{ClosesEach}
use Rattle.draid_uber.specs.Uber.{count_of}
use Rattle.draid_pool.specs.Failing.{AreaRose, AreasLater, RecordsRose}
use Rattle.draid_pool.specs.Groups as sealing
use Rattle.draid_pool.specs.declared.cell.Cell.{Cell}
use Rattle.draid_pool.specs.declared.pool.Pool.{Pool}
use Rattle.draid_pool.proofs.Lists.{get_set_other, get_set_same, present, some_of}
use Rattle.draid_pool.proofs.Rises.{records_on, records_still}
use Rattle.draid_lanes.specs.Failing.{AreaFailedLane, HoldsTo, RecordsFail}
use Rattle.draid_lanes.specs.Locks.{Step, Went}
use Rattle.draid_lanes.specs.Waits.{LaneWent}
use Rattle.draid_lanes.specs.declared.lane.Lane.{Lane}
use Rattle.draid_lanes.specs.declared.locked.Locked.{Locked}
use Rattle.draid_lanes.specs.declared.uber.UberCell.{UberCell}
use Rattle.draid_lanes.proofs.Drifted.{left_append, steps_first, steps_rest}
use Rattle.draid_lanes.proofs.Tracing.{starts_self, starts_then}
use Rattle.draid_section.specs.Opening.{passes_at}
use Rattle.draid_section.specs.Running.{JobRan}
use Rattle.draid_section.specs.Section.{RunsInLanes}
use Rattle.draid_section.specs.Turning.{UberHold}
use Rattle.draid_section.proofs.Beginning.{first_of}
use Rattle.draid_section.proofs.Ended.{passes_all}
use Rattle.draid_section.proofs.Gathering.{all_at}
use Rattle.draid_section.proofs.LanePasses.{get_before}

-- no count fell, one rose, and none fell behind that
rose_within : (a b c d : ℕ) → a ≤ b → Rose b c → c ≤ d → Rose a d
rose_within a b c d before rose after = omega (arith, before, rose, after)

module _ {R A : Type 0} (rack : racks.Ghosts R) (area : areas.Ghosts A) where
  -- ---- one history

  pub records_by : (first : Cell R A) (log : List (Past (Cell R A))) → Steps (Step rack area) first log → sealing.AreasLater area.faults first.shard (left_by first log).shard
  records_by first [] s = records_still area.faults first.shard
  records_by first (past ∷ log) s = records_on area.faults first.shard past.left.shard (left_by past.left log).shard s.0.areas (records_by past.left log s.1)

  pub ubers_by : (first : UberCell R A) (log : List (Past (UberCell R A))) → Steps (UberHold rack area) first log → count_of area.faults first.uber ≤ count_of area.faults (left_by first log).uber
  ubers_by first [] s = omega arith
  ubers_by first (past ∷ log) s = (let one = s.0.count in let more = ubers_by past.left log s.1 in omega (arith, one, more))

  -- a count that rose in one of its holds rose from its first value to its last one
  records_rise : (first : Cell R A) (log : List (Past (Cell R A))) (past : Past (Cell R A)) (all : List (Past (Cell R A))) → StartsWith all (log ++ past ∷ []) → Steps (Step rack area) first all → RecordsRose area.faults (left_by first log).shard past.left.shard
      → RecordsRose area.faults first.shard (left_by first all).shard
  records_rise first log past all begins steps rose =
      let s = subst (Steps (Step rack area) first) begins.1 steps in
      let front = steps_first (Step rack area) first (log ++ past ∷ []) begins.0 s in
      let low = records_by first log (steps_first (Step rack area) first log (past ∷ []) front) in
      let high = records_by past.left begins.0 (subst (λ c. Steps (Step rack area) c begins.0) (left_append first log (past ∷ [])) (steps_rest (Step rack area) first (log ++ past ∷ []) begins.0 s)) in
      let last : left_by first all ≡ left_by past.left begins.0 = ap (left_by first) begins.1 ∙ (left_append first (log ++ past ∷ []) begins.0 ∙ ap (λ c. left_by c begins.0) (left_append first log (past ∷ []))) in
      subst (λ (c : Cell R A). RecordsRose area.faults first.shard c.shard) (sym last) (elim rose [
        | inl even ↦ inl (rose_within (area.faults first.shard.even) (area.faults (left_by first log).shard.even) (area.faults past.left.shard.even) (area.faults (left_by past.left begins.0).shard.even) low.even even high.even)
        | inr odd ↦ inr (rose_within (area.faults first.shard.odd) (area.faults (left_by first log).shard.odd) (area.faults past.left.shard.odd) (area.faults (left_by past.left begins.0).shard.odd) low.odd odd high.odd)
      ])

  uber_rises : (first : UberCell R A) (log : List (Past (UberCell R A))) (past : Past (UberCell R A)) (all : List (Past (UberCell R A))) → StartsWith all (log ++ past ∷ []) → Steps (UberHold rack area) first all
      → Rose (count_of area.faults (left_by first log).uber) (count_of area.faults past.left.uber) → Rose (count_of area.faults first.uber) (count_of area.faults (left_by first all).uber)
  uber_rises first log past all begins steps rose =
      let s = subst (Steps (UberHold rack area) first) begins.1 steps in
      let front = steps_first (UberHold rack area) first (log ++ past ∷ []) begins.0 s in
      let low = ubers_by first log (steps_first (UberHold rack area) first log (past ∷ []) front) in
      let high = ubers_by past.left begins.0 (subst (λ c. Steps (UberHold rack area) c begins.0) (left_append first log (past ∷ [])) (steps_rest (UberHold rack area) first (log ++ past ∷ []) begins.0 s)) in
      let last : left_by first all ≡ left_by past.left begins.0 = ap (left_by first) begins.1 ∙ (left_append first (log ++ past ∷ []) begins.0 ∙ ap (λ c. left_by c begins.0) (left_append first log (past ∷ []))) in
      subst (λ (c : UberCell R A). Rose (count_of area.faults first.uber) (count_of area.faults c.uber)) (sym last)
      (rose_within (count_of area.faults first.uber) (count_of area.faults (left_by first log).uber) (count_of area.faults past.left.uber) (count_of area.faults (left_by past.left begins.0).uber) low rose high)

  -- ---- holds of a lane

  module _ {G W : Type 0} where
    -- what a lane saw of a metaslab's lock it has seen behind some more of its holds
    pub record SawMore (old new : Locked R A G W) : Type 0 where
      pub turns : new.turns.now ≡ old.turns.now
      pub seen : (m : ℕ) (pass : Caller (Past (Cell R A))) → slice_get old.passes.items m ≡ Some pass → (next : Caller (Past (Cell R A))) × (slice_get new.passes.items m ≡ Some next) × StartsWith next.seen pass.seen

    saw_self : (a : Locked R A G W) → SawMore a a
    saw_self a = record { turns = refl; seen = λ m pass at. (pass, at, starts_self pass.seen) }

    saw_then : (a b c : Locked R A G W) → SawMore a b → SawMore b c → SawMore a c
    saw_then a b c one two = record {
      turns = two.turns ∙ one.turns;
      seen = λ m pass at.
          (let x = one.seen m pass at in
          let y = two.seen m x.0 x.1 in
          (y.0, y.1, starts_then pass.seen x.0.seen y.0.seen x.2 y.2));
    }

    saw_held : (a : Locked R A G W) (m : ℕ) (before after : Shard R A) (b : Locked R A G W) → LaneWent rack area a m before after b → SawMore a b
    saw_held a m before after b (turns, w) = record {
      turns = turns;
      seen = λ k pass at. dite (ℕ_discrete k m)
          (λ same.
          let own : w.pass ≡ pass = some_of (slice_get a.passes.items m) w.pass pass w.pass_is (ap (slice_get a.passes.items) (sym same) ∙ at) in (
            w.next,
            ap (λ ps. slice_get ps k) w.sets ∙ (ap (slice_get (slice_set a.passes.items m w.next)) same ∙ get_set_same a.passes.items m w.pass w.next w.pass_is),
            (w.unseen ++ w.left ∷ [], w.seen ∙ (ap (λ l. l ++ w.left ∷ []) (w.behind ∙ ap (λ (p : Caller (Past (Cell R A))). p.seen ++ w.unseen) own) ∙ append_assoc pass.seen w.unseen (w.left ∷ []))),
          ))
          (λ not. (pass, ap (λ ps. slice_get ps k) w.sets ∙ (get_set_other a.passes.items m k w.next not ∙ at), starts_self pass.seen));
    }

    saw_holds : (n : ℕ) (a b : Locked R A G W) → HoldsTo area (LaneWent rack area) n a b → SawMore a b
    saw_holds zero a b at = subst (SawMore a) (sym at) (saw_self a)
    saw_holds (suc n) a b (mid, m, before, after, front, goes) = saw_then a mid b (saw_holds n a mid front) (saw_held mid m before after b goes)

-- ---- a pool

module _ {R A G W J : Type 0} (rack : racks.Ghosts R) (area : areas.Ghosts A) (relates : J → Lane R A G W → J → Lane R A G W → Type 0) (pool : Pool R A) (lists : List (Vec Span Global)) (jobs : Vec J Global) (new : Pool R A) (done : Vec J Global) (d : RunsInLanes rack area relates pool lists jobs new done) where
  -- the passes that were joined, those of the groups last
  abbrev all_passes : List (Vec (Caller (Past (Cell R A))) Global)
  all_passes = d.ran.new.passes.items ++ d.ran.groups' ∷ []

  -- a metaslab that was put under its lock, and what was taken out
  pub record IsBack (m : ℕ) (lock : Lock (Cell R A)) : Type 0 where
    pub first : slice_get pool.metaslabs.shards.items m ≡ Some lock.first.shard
    pub rest : Caller (Past (Cell R A))
    pub value : Cell R A
    pub last : slice_get new.metaslabs.shards.items m ≡ Some value.shard
    pub closes : ClosesEach (Step rack area) lock.first rest (passes_at m all_passes) value

  back : (m : ℕ) (lock : Lock (Cell R A)) → slice_get d.locks m ≡ Some lock → IsBack m lock
  back m lock lock_is =
      let rest = present d.ran.rests m (let inside = slice_get_within d.locks m lock lock_is in let many = d.ran.deals.fits.many in omega (arith, inside, many)) in
      let z = d.ran.unlocked.each m lock rest.0 lock_is rest.1 in
      record { first = first_of pool.metaslabs.shards.items d.locks d.firsts d.locked m lock lock_is; rest = rest.0; value = z.0; last = z.1; closes = z.2 }

  shards_later : (m : ℕ) (before after : Shard R A) → slice_get pool.metaslabs.shards.items m ≡ Some before → slice_get new.metaslabs.shards.items m ≡ Some after → sealing.AreasLater area.faults before after
  shards_later m before after at there =
      let lock = present d.locks m (let inside = slice_get_within pool.metaslabs.shards.items m before at in let many = d.locked.many in omega (arith, inside, many)) in
      let b = back m lock.0 lock.1 in
      let first : lock.0.first.shard ≡ before = some_of (slice_get pool.metaslabs.shards.items m) lock.0.first.shard before b.first at in
      let last : (left_by lock.0.first b.closes.log).shard ≡ after = ap (λ (c : Cell R A). c.shard) (sym b.closes.stood.is) ∙ some_of (slice_get new.metaslabs.shards.items m) b.value.shard after b.last there in
      subst (λ (z : Shard R A × Shard R A). sealing.AreasLater area.faults z.0 z.1) (λ i. (first i, last i)) (records_by rack area lock.0.first b.closes.log b.closes.stood.steps)

  abbrev lock : Lock (UberCell R A)
  lock = d.ran.under.lock

  abbrev uber_log : List (Past (UberCell R A))
  uber_log = d.ran.under.over.back.closes.log

  uber_first : count_of area.faults lock.first.uber ≡ count_of area.faults pool.uber
  uber_first = ap (count_of area.faults) d.ran.under.made.uber_is

  uber_last : count_of area.faults (left_by lock.first uber_log).uber ≡ count_of area.faults new.uber
  uber_last = ap (λ (c : UberCell R A). count_of area.faults c.uber) (sym d.ran.under.over.back.closes.stood.is) ∙ ap (count_of area.faults) (sym d.ran.under.over.back.uber_is)

  -- no count falls
  pub areas_come_back : AreasLater area.faults pool new
  areas_come_back = record {
    uber = (let a = uber_first in let b = uber_last in let c = ubers_by rack area lock.first uber_log d.ran.under.over.back.closes.stood.steps in omega (arith, a, b, c));
    many = d.ran.unlocked.many ∙ d.locked.many;
    shards = shards_later;
  }

  -- ---- an area that failed a lane

  module _ (i : ℕ) (end : J) (end_is : slice_get done.items i ≡ Some end) (tells : (job : J) (lane next : Lane R A G W) → relates job lane end next → AreaFailedLane rack area lane next) where
    jobs_are : slice_get d.ran.new.jobs.items i ≡ Some end
    jobs_are = ap (λ (v : Vec J Global). slice_get v.items i) d.ran.jobs_then ∙ end_is

    -- the lane of that job
    j : JobRan relates d.locks lock pool.geometry d.ran.old d.ran.new d.ran.under.over.passes d.ran.under.over.nexts i
    j = d.ran.under.over.ran.each i (let inside = slice_get_within d.ran.new.jobs.items i end jobs_are in let many = d.ran.under.over.ran.many in let even = d.ran.under.over.ran.even.jobs in omega (arith, inside, many, even))

    failed : AreaFailedLane rack area j.lane j.next
    failed = tells j.job j.lane j.next (subst (λ e. relates j.job j.lane e j.next) (some_of (slice_get d.ran.new.jobs.items i) j.done end j.ended.job_is jobs_are) j.related)

    turns_are : failed.mid.metaslabs.turns.now ≡ d.locks
    turns_are = failed.same.turns ∙ j.over.turns

    -- the pool's own
    own_rises : Rose (count_of area.faults failed.failed.value.uber) (count_of area.faults failed.failed.left.uber) → AreaRose area.faults pool new
    own_rises rose =
        let f = failed.failed in
        let past : Past (UberCell R A) = record { left = f.left; concerned = None } in
        let seen : StartsWith uber_log j.next.pass.seen = all_at (λ (p : Caller (Past (UberCell R A))). StartsWith uber_log p.seen) d.ran.under.over.nexts d.ran.under.over.back.closes.seen i j.next.pass j.ended.pass in
        let found : f.value ≡ left_by lock.first f.log = f.stood.is ∙ ap (λ (l : Lock (UberCell R A)). left_by l.first f.log) j.over.uber_is in
        let rises = uber_rises rack area lock.first f.log past uber_log (subst (StartsWith uber_log) f.seen seen) d.ran.under.over.back.closes.stood.steps
        (subst (λ (c : UberCell R A). Rose (count_of area.faults c.uber) (count_of area.faults f.left.uber)) found rose) in
        inl (subst (λ (z : ℕ × ℕ). Rose z.0 z.1) (λ k. (uber_first k, uber_last k)) rises)

    -- a metaslab's
    records_rises : RecordsFail area (LaneWent rack area) failed.failed.related.met failed.failed.related.after → AreaRose area.faults pool new
    records_rises r =
        let f = failed.failed.related in
        let w : Went rack area r.from.turns.now r.from.passes.items r.metaslab r.before r.after r.next.passes.items = r.held.1 in
        let met = saw_holds rack area r.front f.met r.from r.first in
        let lock_is : slice_get d.locks r.metaslab ≡ Some w.lock = ap (λ ls. slice_get ls r.metaslab) (sym (met.turns ∙ (f.same.0 ∙ turns_are))) ∙ w.lock_is in
        let b = back r.metaslab w.lock lock_is in
        let here : slice_get r.next.passes.items r.metaslab ≡ Some w.next = ap (λ ps. slice_get ps r.metaslab) w.sets ∙ get_set_same r.from.passes.items r.metaslab w.pass w.next w.pass_is in
        let then_seen = (saw_holds rack area r.back r.next f.after r.rest).seen r.metaslab w.next here in
        let parted = f.parts.each r.metaslab then_seen.0 (subst (λ ls. r.metaslab < length ls) (sym turns_are) (slice_get_within d.locks r.metaslab w.lock lock_is)) then_seen.1 in
        let list_is : slice_get all_passes i ≡ Some j.next.metaslabs.passes = get_before d.ran.new.passes.items d.ran.groups' i (slice_get_within d.ran.new.passes.items i j.next.metaslabs.passes j.ended.held) ∙ j.ended.held in
        let seen : StartsWith b.closes.log parted.0.seen = passes_all (λ (p : Caller (Past (Cell R A))). StartsWith b.closes.log p.seen) r.metaslab all_passes b.closes.seen i j.next.metaslabs.passes parted.0 list_is parted.2 in
        let more : StartsWith b.closes.log w.next.seen = starts_then w.next.seen then_seen.0.seen b.closes.log then_seen.2 (subst (StartsWith b.closes.log) parted.4.same.1 seen) in
        let rises = records_rise rack area w.lock.first w.log w.left b.closes.log (subst (StartsWith b.closes.log) w.seen more) b.closes.stood.steps
        (subst (λ (z : Shard R A × Shard R A). RecordsRose area.faults z.0 z.1) (λ k. (w.found k, sym w.left_is k)) r.rose) in
        inr (r.metaslab, w.lock.first.shard, b.value.shard, b.first, b.last, subst (λ (c : Cell R A). RecordsRose area.faults w.lock.first.shard c.shard) (sym b.closes.stood.is) rises)

    -- so one rose
    pub failed_stays : AreaRose area.faults pool new
    failed_stays = elim failed.failed.related.related [ inl records ↦ records_rises records | inr own ↦ own_rises own ]
