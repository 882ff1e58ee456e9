use Rattle.std.proofs.Common.{Vec, Global, List, arith, sym, subst}
use Rattle.std.specs.Fn.{FnReturnsAt}
use Rattle.draid_script.specs.declared.line.Line.{Line}
use Rattle.draid_session.specs.Choices.{choices_by}
use Rattle.draid_session.specs.Sections.{ClashesMend, NoClash}
use Rattle.draid_pool.specs.Failing.{AreaRose}
use Rattle.draid_pool.specs.Keeping.{SamePool}
use Rattle.draid_tables.specs.Lists.{AreAllInRange, ListsEach, commands_of_lanes}
use Rattle.draid_clashes.specs.Lanes.{lanes_in}
use Rattle.draid_run.specs.Sections.{IsStopped, LanesTeach, RunsSection, StopWhere}
use Rattle.draid_print.specs.Printing.{replies_in}
use Rattle.draid_print.specs.declared.printing.LaneReplies.{LaneReplies}
use Rattle.draid_program.proofs.LanesGiven.{in_range, may_all}
use Rattle.draid_program.proofs.LanesRefused.{areas_same, of_err, of_ok}
use Rattle.draid_program.proofs.LanesRun as run
use Rattle.draid_program.proofs.lanes.run_lanes.Goals as goal

pub lists_of-requires-clause-range : goal.lists_of-requires-clause-range
lists_of-requires-clause-range g c = subst AreAllInRange (sym c.deref.ensures.value) (in_range c.args.lanes c.requires.lanes)

pub lists_of-requires-clause-apart : goal.lists_of-requires-clause-apart
lists_of-requires-clause-apart g c = subst (λ (ls : List (Vec Line Global)). NoClash (commands_of_lanes ls)) (sym c.deref.ensures.value) c.requires.lanes.apart

pub lists_of-requires-clause-one : goal.lists_of-requires-clause-one
lists_of-requires-clause-one g c = subst (λ (ls : List (Vec Line Global)). ClashesMend (commands_of_lanes ls) → ⊥) (sym c.deref.ensures.value) c.requires.lanes.one_mends

pub run_in_lanes-pool-requires-clause-may : goal.run_in_lanes-pool-requires-clause-may
run_in_lanes-pool-requires-clause-may g c κs within =
    let each = subst (λ (ls : List (Vec Line Global)). ListsEach ls c.in-Ok.numbers.items) c.deref.ensures.value c.in-Ok.ensures.each in
    let may = may_all c.args.lanes c.requires.lanes c.in-Ok.numbers.items each g.R.Rack g.A.Area g.F.Fn (Unit {0}) tt c.args.pool c.requires.whole c.requires.point c.args.chooser.now c.requires.chooser c.in-Ok-jobs_of.jobs c.in-Ok-jobs_of.ensures in
    record { unpointed = may.unpointed; each = λ i job lane begins. (record { shared = c.type_bounds.sync-W.shared }, (may.each i job lane begins).1) }

pub run_in_lanes-pool-requires-clause-keeps : goal.run_in_lanes-pool-requires-clause-keeps
run_in_lanes-pool-requires-clause-keeps g c κs within job lane done next needed does = record { whole = does.leaves.whole; same = does.leaves.same; numbers = does.leaves.numbers }

pub replies_of-requires-clause-room : goal.replies_of-requires-clause-room
replies_of-requires-clause-room g c =
    let each = subst (λ (ls : List (Vec Line Global)). ListsEach ls c.in-Ok.numbers.items) c.deref.ensures.value c.in-Ok.ensures.each in
    let many = run.as_many g.R.Rack g.A.Area g.F.Fn (Unit {0}) tt c.args.lanes c.requires.lanes c.in-Ok.numbers.items c.in-Ok.ensures.lists each c.args.pool c.requires.whole c.requires.point c.args.chooser.now c.requires.chooser c.in-Ok-jobs_of.jobs c.in-Ok-jobs_of.ensures c.run_in_lanes-pool.result.0
    c.run_in_lanes-pool.ensures.whole c.in-Ok-ran.done (of_ok _ _ c.in-Ok-ran.done c.in-Ok-ran.is c.run_in_lanes-pool.ensures.ran) in
    let len = c.len.ensures in
    let length_is = c.args.lanes.ok.0 in
    let capacity = c.in-Ok-with_capacity.ensures.capacity in omega (arith, many, len, length_is, capacity)

pub returns-in-Ok-ran-clause-stops : goal.returns-in-Ok-ran-clause-stops
returns-in-Ok-ran-clause-stops g c =
    let each = subst (λ (ls : List (Vec Line Global)). ListsEach ls c.in-Ok.numbers.items) c.deref.ensures.value c.in-Ok.ensures.each in
    subst (StopWhere (lanes_in c.args.lanes.items)) (sym c.replies_of.ensures)
    (run.stops g.R.Rack g.A.Area g.F.Fn (Unit {0}) tt c.args.lanes c.requires.lanes c.in-Ok.numbers.items c.in-Ok.ensures.lists each c.args.pool c.requires.whole c.requires.point c.args.chooser.now c.requires.chooser c.in-Ok-jobs_of.jobs c.in-Ok-jobs_of.ensures c.run_in_lanes-pool.result.0
    c.run_in_lanes-pool.ensures.whole c.in-Ok-ran.done (of_ok _ _ c.in-Ok-ran.done c.in-Ok-ran.is c.run_in_lanes-pool.ensures.ran))

pub returns-in-Ok-ran-clause-runs : goal.returns-in-Ok-ran-clause-runs
returns-in-Ok-ran-clause-runs g c x stands =
    let each = subst (λ (ls : List (Vec Line Global)). ListsEach ls c.in-Ok.numbers.items) c.deref.ensures.value c.in-Ok.ensures.each in
    subst (λ (ran : List LaneReplies). RunsSection g.R.Rack g.A.Area (choices_by (FnReturnsAt g.F.Fn c.args.chooser.now)) x (lanes_in c.args.lanes.items) (replies_in ran) c.run_in_lanes-pool.result.0) (sym c.replies_of.ensures)
    (run.runs g.R.Rack g.A.Area g.F.Fn (Unit {0}) tt c.args.lanes c.requires.lanes c.in-Ok.numbers.items c.in-Ok.ensures.lists each c.args.pool c.requires.whole c.requires.point c.args.chooser.now c.requires.chooser c.in-Ok-jobs_of.jobs c.in-Ok-jobs_of.ensures c.run_in_lanes-pool.result.0
    c.run_in_lanes-pool.ensures.whole c.in-Ok-ran.done (of_ok _ _ c.in-Ok-ran.done c.in-Ok-ran.is c.run_in_lanes-pool.ensures.ran) x stands)

pub returns-in-Ok-ran-clause-teach : goal.returns-in-Ok-ran-clause-teach
returns-in-Ok-ran-clause-teach g c known knows =
    let each = subst (λ (ls : List (Vec Line Global)). ListsEach ls c.in-Ok.numbers.items) c.deref.ensures.value c.in-Ok.ensures.each in
    subst (λ (ran : List LaneReplies). LanesTeach (lanes_in c.args.lanes.items) (replies_in ran) known c.run_in_lanes-pool.result.0) (sym c.replies_of.ensures)
    (run.teaches g.R.Rack g.A.Area g.F.Fn (Unit {0}) tt c.args.lanes c.requires.lanes c.in-Ok.numbers.items c.in-Ok.ensures.lists each c.args.pool c.requires.whole c.requires.point c.args.chooser.now c.requires.chooser c.in-Ok-jobs_of.jobs c.in-Ok-jobs_of.ensures c.run_in_lanes-pool.result.0
    c.run_in_lanes-pool.ensures.whole c.in-Ok-ran.done (of_ok _ _ c.in-Ok-ran.done c.in-Ok-ran.is c.run_in_lanes-pool.ensures.ran) known knows)

pub returns-in-Ok-ran-clause-cause : goal.returns-in-Ok-ran-clause-cause
returns-in-Ok-ran-clause-cause g c =
    let each = subst (λ (ls : List (Vec Line Global)). ListsEach ls c.in-Ok.numbers.items) c.deref.ensures.value c.in-Ok.ensures.each in
    subst (λ (ran : List LaneReplies). IsStopped ran → AreaRose g.A.Area.faults c.args.pool c.run_in_lanes-pool.result.0) (sym c.replies_of.ensures)
    (run.cause g.R.Rack g.A.Area g.F.Fn (Unit {0}) tt c.args.lanes c.requires.lanes c.in-Ok.numbers.items c.in-Ok.ensures.lists each c.args.pool c.requires.whole c.requires.point c.args.chooser.now c.requires.chooser c.in-Ok-jobs_of.jobs c.in-Ok-jobs_of.ensures c.run_in_lanes-pool.result.0
    c.run_in_lanes-pool.ensures.whole c.in-Ok-ran.done (of_ok _ _ c.in-Ok-ran.done c.in-Ok-ran.is c.run_in_lanes-pool.ensures.ran))

pub returns-in-Ok-ran-clause-later : goal.returns-in-Ok-ran-clause-later
returns-in-Ok-ran-clause-later g c =
    let each = subst (λ (ls : List (Vec Line Global)). ListsEach ls c.in-Ok.numbers.items) c.deref.ensures.value c.in-Ok.ensures.each in
    run.later g.R.Rack g.A.Area g.F.Fn (Unit {0}) tt c.args.lanes c.requires.lanes c.in-Ok.numbers.items c.in-Ok.ensures.lists each c.args.pool c.requires.whole c.requires.point c.args.chooser.now c.requires.chooser c.in-Ok-jobs_of.jobs c.in-Ok-jobs_of.ensures c.run_in_lanes-pool.result.0
    c.run_in_lanes-pool.ensures.whole c.in-Ok-ran.done (of_ok _ _ c.in-Ok-ran.done c.in-Ok-ran.is c.run_in_lanes-pool.ensures.ran)

pub returns-in-Err-clause-refused : goal.returns-in-Err-clause-refused
returns-in-Err-clause-refused g c =
    of_err (λ _. SamePool c.args.pool c.run_in_lanes-pool.result.0) c.run_in_lanes-pool.result.1 c.in-Err.field-0 c.in-Err.is c.run_in_lanes-pool.ensures.refused

pub returns-in-Err-clause-later : goal.returns-in-Err-clause-later
returns-in-Err-clause-later g c =
    areas_same c.args.pool c.run_in_lanes-pool.result.0 (of_err (λ _. SamePool c.args.pool c.run_in_lanes-pool.result.0) c.run_in_lanes-pool.result.1 c.in-Err.field-0 c.in-Err.is c.run_in_lanes-pool.ensures.refused) g.A.Area.faults
