use Rattle.std.specs.Vec.{vec_capacity}
use Rattle.std.proofs.Common.{◌≤◌, ℕ, sym, ap, subst, ◌≡◌, arith, map, All}
use Rattle.draid_turn.specs.declared.past.Past.{Past}
use Rattle.draid_turn.specs.Calls.{Caller}
use Rattle.draid_holds.specs.Lanes.{pass_of}
use Rattle.draid_holds.specs.Passes.{ClosesEach, holders}
use Rattle.draid_holds.proofs.Ran.{same_holders, same_tables}
use Rattle.draid_holds.proofs.lanes.run_and_close.Goals as goal

pub close_each-requires-clause-each : goal.close_each-requires-clause-each
close_each-requires-clause-each g c =
    subst (All (λ (pass : Caller (Past g.row.T.Denot)). pass.table ≡ c.args.turn.table)) (sym c.part-passes.ensures.passes)
    (same_tables g.W.Work.relates g.W.Work.needs c.args.turn c.args.lanes.items c.run_lanes.new.lanes.items c.run_lanes.ensures.count c.run_lanes.ensures.worked c.requires.may)

pub close_each-requires-clause-all : goal.close_each-requires-clause-all
close_each-requires-clause-all g c n lt =
    let all = c.requires.all n lt in
    let same = same_holders g.W.Work.relates n c.args.lanes.items c.run_lanes.new.lanes.items c.run_lanes.ensures.count c.run_lanes.ensures.worked in
    let are : holders n c.part-passes.result.0.items ≡ holders n (map pass_of c.run_lanes.new.lanes.items) = ap (holders n) c.part-passes.ensures.passes in
    omega (arith, all, same, are)

pub returns : goal.returns
returns g c = record {
  new = c.run_lanes.new.lanes.items;
  count = c.run_lanes.ensures.count;
  works_are = c.part-passes.ensures.works;
  worked = c.run_lanes.ensures.worked;
  closed = subst (λ passes. ClosesEach g.T.Stand.step c.args.turn.first c.args.first passes c.close_each.result) c.part-passes.ensures.passes c.close_each.ensures;
}

pub part-passes-requires-clause-none : goal.part-passes-requires-clause-none
part-passes-requires-clause-none g c = c.requires.none

pub part-passes-requires-clause-room : goal.part-passes-requires-clause-room
part-passes-requires-clause-room g c = subst (λ (n : ℕ). (n ≤ vec_capacity c.args.passes) × (n ≤ vec_capacity c.args.works)) (sym c.run_lanes.ensures.count) c.requires.room

pub close_each-requires-clause-own : goal.close_each-requires-clause-own
close_each-requires-clause-own g c = c.requires.own
