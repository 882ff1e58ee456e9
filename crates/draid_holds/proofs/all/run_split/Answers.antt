use Rattle.draid_holds.proofs.Parts.{as_many}
use Rattle.std.specs.Vec.{vec_capacity}
use Rattle.std.proofs.Common.{◌≤◌, ℕ, sym, ap, subst, ◌≡◌, ◌∙◌, map, arith}
use Rattle.draid_turn.specs.declared.past.Past.{Past}
use Rattle.draid_turn.specs.Calls.{Caller, newcomer}
use Rattle.draid_turn.specs.Lists.{one_if}
use Rattle.draid_turn.specs.Numbers.{all_numbers, holds}
use Rattle.draid_holds.specs.Lanes.{pass_of}
use Rattle.draid_holds.specs.Passes.{KeepsOne, holders, shares}
use Rattle.draid_holds.proofs.Started.{all_held, keeps_greatest, new_holders, new_pass, shares_fit, started}
use Rattle.draid_holds.proofs.all.run_split.Goals as goal

pub split_lanes-lanes-requires-clause-apart : goal.split_lanes-lanes-requires-clause-apart
split_lanes-lanes-requires-clause-apart g c n =
    let fit = shares_fit c.args.numbers.now c.requires.apart n in
    let same : one_if (holds n c.args.first.numbers) ≡ one_if (holds n all_numbers) = ap (λ (p : Caller (Past g.row.T.Denot)). one_if (holds n p.numbers)) c.requires.first in omega (arith, fit, same)

pub split_lanes-lanes-requires-clause-other : goal.split_lanes-lanes-requires-clause-other
split_lanes-lanes-requires-clause-other g c = subst (λ (p : Caller (Past g.row.T.Denot)). KeepsOne p.numbers c.args.numbers.now) (sym c.requires.first) (keeps_greatest c.args.numbers.now c.requires.apart)

pub run_and_close-requires-clause-may : goal.run_and_close-requires-clause-may
run_and_close-requires-clause-may g c _ _ =
    let first = c.requires.first in
    let passes : map pass_of c.split_lanes-lanes.result.items ≡ map (new_pass g.W.Work.needs c.args.turn) c.args.numbers.now =
    c.split_lanes-lanes.ensures.passes ∙ (λ k. map (λ list. newcomer (first k).table (first k).seen list.items) c.args.numbers.now) in
    started g.W.Work.needs c.args.turn c.split_lanes-lanes.result.items c.args.numbers.now c.args.works.items passes c.split_lanes-lanes.ensures.works c.requires.may

pub run_and_close-requires-clause-all : goal.run_and_close-requires-clause-all
run_and_close-requires-clause-all g c _ _ n lt =
    let first = c.requires.first in
    let passes : map pass_of c.split_lanes-lanes.result.items ≡ map (new_pass g.W.Work.needs c.args.turn) c.args.numbers.now =
    c.split_lanes-lanes.ensures.passes ∙ (λ k. map (λ list. newcomer (first k).table (first k).seen list.items) c.args.numbers.now) in
    let are : holders n (map pass_of c.split_lanes-lanes.result.items) ≡ shares n c.args.numbers.now = ap (holders n) passes ∙ new_holders g.W.Work.needs c.args.turn n c.args.numbers.now in
    let left = c.split_lanes-lanes.ensures.left n in
    let held = all_held n lt in
    let same : one_if (holds n c.args.first.numbers) ≡ one_if (holds n all_numbers) = ap (λ (p : Caller (Past g.row.T.Denot)). one_if (holds n p.numbers)) first in omega (arith, are, left, held, same)

pub returns : goal.returns
returns g c =
    let first = c.requires.first in
    let own = c.split_lanes-lanes.ensures.own in
    record {
      first = c.split_lanes-lanes.new.first;
      lanes = c.split_lanes-lanes.result.items;
      idle = own.1 ∙ ap (λ (p : Caller (Past g.row.T.Denot)). p.own) first;
      works = c.split_lanes-lanes.ensures.works;
      passes = c.split_lanes-lanes.ensures.passes ∙ (λ k. map (λ list. newcomer (sym own.0 k) (first k).seen list.items) c.args.numbers.now);
      ran = c.run_and_close.ensures;
    }

pub split_lanes-lanes-requires-clause-own : goal.split_lanes-lanes-requires-clause-own
split_lanes-lanes-requires-clause-own g c = ap (λ (p : Caller (Past g.row.T.Denot)). p.table) c.requires.first

pub split_lanes-lanes-requires-clause-none : goal.split_lanes-lanes-requires-clause-none
split_lanes-lanes-requires-clause-none g c = c.requires.none.0

pub split_lanes-lanes-requires-clause-count : goal.split_lanes-lanes-requires-clause-count
split_lanes-lanes-requires-clause-count g c = c.requires.count

pub split_lanes-lanes-requires-clause-room : goal.split_lanes-lanes-requires-clause-room
split_lanes-lanes-requires-clause-room g c = subst (λ (n : ℕ). n ≤ vec_capacity c.args.rooms.0) c.requires.count c.requires.room.0

pub split_lanes-lanes-requires-clause-some : goal.split_lanes-lanes-requires-clause-some
split_lanes-lanes-requires-clause-some g c = c.requires.some

pub run_and_close-requires-clause-own : goal.run_and_close-requires-clause-own
run_and_close-requires-clause-own g c _ _ = c.split_lanes-lanes.ensures.own.0 ∙ ap (λ (p : Caller (Past g.row.T.Denot)). p.table) c.requires.first

pub run_and_close-requires-clause-none : goal.run_and_close-requires-clause-none
run_and_close-requires-clause-none g c _ _ = (c.requires.none.1, c.requires.none.2)

pub run_and_close-requires-clause-room : goal.run_and_close-requires-clause-room
run_and_close-requires-clause-room g c _ _ = subst (λ (n : ℕ). (n ≤ vec_capacity c.args.rooms.1) × (n ≤ vec_capacity c.args.rooms.2)) (sym (as_many c.split_lanes-lanes.result.items c.args.works.items c.split_lanes-lanes.ensures.works)) (c.requires.room.1, c.requires.room.2)
