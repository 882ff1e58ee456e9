-- Locks in which nothing was done, and passes behind their lanes' jobs.
use Rattle.std.proofs.Common.{◌≡◌, ◌∙◌, ◌∷◌, arith, ℕ, suc, List, [], Some, Result, Ok, Err, IfOk, IfErr, length, sym, ap, subst, refl}
use Rattle.std.specs.Prelude.{slice_get}
use Rattle.std.specs.declared.vec.Vec.{Vec}
use Rattle.std.specs.declared.alloc.Global.{Global}
use Rattle.std.proofs.lemmas.Bool.Decides.{nat_tests}
use Rattle.std.proofs.lemmas.List.Sums.{sum_by-cons}
use Rattle.std.proofs.lemmas.Option.{slice_get_within}
use Rattle.draid_names.specs.declared.fault.NoMemory.{NoMemory}
use Rattle.draid_rack.specs.declared.Rack as racks
use Rattle.draid_area.specs.declared.Area as areas
use Rattle.draid_spec.specs.declared.layout.Geometry.{Geometry}
use Rattle.draid_turn.specs.Calls.{Caller, Lock}
use Rattle.draid_turn.specs.History.{left_by}
use Rattle.draid_turn.specs.Lists.{one_within, times}
use Rattle.draid_turn.specs.declared.past.Past.{Past}
use Rattle.draid_holds.specs.Passes.{ClosesEach, makers}
use Rattle.draid_uber.specs.declared.uber.Uber.{Uber}
use Rattle.draid_pool.specs.declared.cell.Cell.{Cell}
use Rattle.draid_pool.proofs.Lists.{some_of}
use Rattle.draid_lanes.specs.declared.lane.Lane.{Lane}
use Rattle.draid_lanes.specs.declared.uber.UberCell.{UberCell}
use Rattle.draid_section.specs.Running.{JobsRan, KeepLanes, MayRunEach}
use Rattle.draid_section.specs.Turning.{AreOfLanes, UberComesBack, UberHold}
use Rattle.draid_section.specs.declared.seats.Shares.{Shares}

-- ---- locks

none_long : {E : Type 0} (log : List E) → one_within 0 (length log) 0 ≡ 0 → log ≡ []
none_long [] is = refl
none_long (x ∷ log) is = absurd (let one : one_within 0 (suc (length log)) 0 ≡ 1 = grind (arith, nat_tests) in omega (arith, one, is))

module _ {T : Type 0} where
  makers_none : (x : ℕ) (passes : List (Caller (Past T))) → ((i : ℕ) (pass : Caller (Past T)) → slice_get passes i ≡ Some pass → pass.own ≡ []) → makers x passes ≡ 0
  makers_none x [] none = refl
  makers_none x (pass ∷ passes) none =
      let first : times x pass.own ≡ 0 = ap (times x) (none 0 pass refl) in
      let rest = makers_none x passes (λ i p is. none (suc i) p is) in
      let both = sum_by-cons (λ (c : Caller (Past T)). times x c.own) pass passes in omega (arith, first, rest, both)

  -- where no pass did anything the value that is taken out is that which was put in
  pub none_done : (step : T → Past T → Type 0) (opened : T) (first : Caller (Past T)) (passes : List (Caller (Past T))) (value : T) → ClosesEach step opened first passes value → first.own ≡ []
      → ((i : ℕ) (pass : Caller (Past T)) → slice_get passes i ≡ Some pass → pass.own ≡ []) → value ≡ opened
  none_done step opened first passes value closes fresh none =
      let mine : times 0 first.own ≡ 0 = ap (times 0) fresh in
      let theirs = makers_none 0 passes none in
      let all = closes.single 0 in
      let empty = none_long closes.log (omega (arith, mine, theirs, all)) in closes.stood.is ∙ ap (left_by opened) empty

-- ---- passes of the uberblock's lock

module _ {R A G W J : Type 0} (rack : racks.Ghosts R) (area : areas.Ghosts A) (needs : J → Lane R A G W → Type 0) (relates : J → Lane R A G W → J → Lane R A G W → Type 0) (locks : List (Lock (Cell R A))) (uber : Lock (UberCell R A)) (geometry : Geometry) (old : Shares R A J)
    (passes : List (Caller (Past (UberCell R A)))) (rest : Caller (Past (UberCell R A))) (of : AreOfLanes uber (length old.passes.items) passes rest) (may : MayRunEach needs locks uber geometry old passes) (keeps : KeepLanes rack area needs relates) where
  -- behind the jobs each lane's pass is of the same lock, and holds what it held
  pub record StillHold (nexts : List (Caller (Past (UberCell R A)))) : Type 0 where
    pub many : length nexts ≡ length passes
    pub numbers : (lane : ℕ) (pass next : Caller (Past (UberCell R A))) → slice_get passes lane ≡ Some pass → slice_get nexts lane ≡ Some next → next.numbers ≡ pass.numbers
    pub tables : (lane : ℕ) (pass next : Caller (Past (UberCell R A))) → slice_get passes lane ≡ Some pass → slice_get nexts lane ≡ Some next → next.table ≡ pass.table

  still_ran : (new : Shares R A J) (nexts : List (Caller (Past (UberCell R A)))) → JobsRan relates locks uber geometry old new passes nexts → StillHold nexts
  still_ran new nexts ran = record {
    many = ran.even.ubers ∙ (ran.many ∙ sym of.many);
    numbers = λ i pass next is now. (kept i pass next is now).0;
    tables = λ i pass next is now. (kept i pass next is now).1;
  }
    where
      kept : (i : ℕ) (pass next : Caller (Past (UberCell R A))) → slice_get passes i ≡ Some pass → slice_get nexts i ≡ Some next → (next.numbers ≡ pass.numbers) × (next.table ≡ pass.table)
      kept i pass next is now =
          let inside = slice_get_within passes i pass is in
          let r = ran.each i (let as_many = of.many in omega (arith, inside, as_many)) in
          let k = keeps r.job r.lane r.done r.next (may i r.job r.lane (record { over = r.over; has = r.begun; number = r.number })) r.related in
          let was : r.lane.pass ≡ pass = some_of (slice_get passes i) r.lane.pass pass r.begun.pass is in
          let then_is : r.next.pass ≡ next = some_of (slice_get nexts i) r.next.pass next r.ended.pass now in (
            sym (ap (λ (p : Caller (Past (UberCell R A))). p.numbers) then_is) ∙ (k.numbers ∙ ap (λ (p : Caller (Past (UberCell R A))). p.numbers) was),
            sym (ap (λ (p : Caller (Past (UberCell R A))). p.table) then_is)
                ∙ (k.whole.uber ∙ (ap (λ (l : Lock (UberCell R A)). l.table) (k.same.uber ∙ r.over.uber_is) ∙ sym (ap (λ (p : Caller (Past (UberCell R A))). p.table) (of.each i pass is)))),
          )

  -- so it is where they weren't run
  pub still_hold : (result : Result Unit NoMemory) (new : Shares R A J) (was now : Vec (Caller (Past (UberCell R A))) Global) → passes ≡ was.items → IfOk result (λ _. JobsRan relates locks uber geometry old new passes now.items)
      → IfErr result (λ _. (new ≡ old) × (now ≡ was)) → StillHold now.items
  still_hold (Ok done) new was now are ran same = still_ran new now.items ran
  still_hold (Err why) new was now are ran same = record {
    many = ap length (then_are same.1);
    numbers = λ i pass next is at. ap (λ (p : Caller (Past (UberCell R A))). p.numbers) (same_at i pass next is at);
    tables = λ i pass next is at. ap (λ (p : Caller (Past (UberCell R A))). p.table) (same_at i pass next is at);
  }
    where
      then_are : now ≡ was → now.items ≡ passes
      then_are eq = ap (λ (v : Vec (Caller (Past (UberCell R A))) Global). v.items) eq ∙ sym are

      same_at : (i : ℕ) (pass next : Caller (Past (UberCell R A))) → slice_get passes i ≡ Some pass → slice_get now.items i ≡ Some next → next ≡ pass
      same_at i pass next is at = some_of (slice_get now.items i) next pass at (ap (λ ps. slice_get ps i) (then_are same.1) ∙ is)

-- where no job was run the uberblock and the passes of the groups are those that were put under the lock
pub over_refused : {R A J : Type 0} (rack : racks.Ghosts R) (area : areas.Ghosts A) (result : Result Unit NoMemory) (lock : Lock (UberCell R A)) (count : ℕ) (passes nexts : Vec (Caller (Past (UberCell R A))) Global) (rest : Caller (Past (UberCell R A))) (old new : Shares R A J) (uber : Uber A)
    (groups : Vec (Caller (Past (Cell R A))) Global) → AreOfLanes lock count passes.items rest → IfErr result (λ _. (new ≡ old) × (nexts ≡ passes)) → UberComesBack rack area lock rest nexts.items uber groups
    → IfErr result (λ _. (new ≡ old) × (uber ≡ lock.first.uber) × (groups ≡ lock.first.groups))
over_refused {R} {A} {J} rack area (Ok done) lock count passes nexts rest old new uber groups of same back = same
over_refused {R} {A} {J} rack area (Err why) lock count passes nexts rest old new uber groups of same back =
    let fresh = (λ (i : ℕ) (pass : Caller (Past (UberCell R A))) (is : slice_get nexts.items i ≡ Some pass). ap (λ (p : Caller (Past (UberCell R A))). p.own) (of.each i pass (sym (ap (λ (ps : Vec (Caller (Past (UberCell R A))) Global). slice_get ps.items i) same.1) ∙ is))) in
    let value = none_done (UberHold rack area) lock.first rest nexts.items back.value back.closes of.fresh.2 fresh in
    (same.0, back.uber_is ∙ ap (λ (v : UberCell R A). v.uber) value, back.groups_are ∙ ap (λ (v : UberCell R A). v.groups) value)

-- ---- answers

pub ok_map : {P Q : Type 0} (result : Result Unit NoMemory) → (P → Q) → IfOk result (λ _. P) → IfOk result (λ _. Q)
ok_map (Ok done) f p = f p
ok_map (Err why) f p = p

pub err_map : {P Q : Type 0} (result : Result Unit NoMemory) → (P → Q) → IfErr result (λ _. P) → IfErr result (λ _. Q)
err_map (Ok done) f p = p
err_map (Err why) f p = f p

pub ok_of : {P : Type 0} (result : Result Unit NoMemory) (done : Unit) → result ≡ Ok done → IfOk result (λ _. P) → P
ok_of {P} result done is p = subst (λ r. IfOk r (λ _. P)) is p

pub err_of : {P : Type 0} (result : Result Unit NoMemory) (why : NoMemory) → result ≡ Err why → IfErr result (λ _. P) → P
err_of {P} result why is p = subst (λ r. IfErr r (λ _. P)) is p
