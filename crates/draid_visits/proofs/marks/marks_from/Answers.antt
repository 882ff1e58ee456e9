use Rattle.std.proofs.Common.{◌∙◌, arith, refl, sym}
use Rattle.std.proofs.lemmas.Bool.{true≢false}
use Rattle.std.proofs.lemmas.List.{length-set}
use Rattle.draid_visits.proofs.Marking.{from_marked, from_only, unmarked}
use Rattle.draid_visits.proofs.marks.marks_from.Goals as goal

pub loop-metaslab-init : goal.loop-metaslab-init
loop-metaslab-init c = record { from = omega arith; long = refl; marked = λ k low from below. absurd (omega (arith, from, below)); only = λ k is. absurd (true≢false (sym is ∙ unmarked 64 k)) }

pub loop-metaslab-preserved : goal.loop-metaslab-preserved
loop-metaslab-preserved c =
    let l = c.loop-metaslab in
    let i = l.invariant in
    let long = i.long in
    let below = c.loop-metaslab-test.true in
    record {
      from = (let low = i.from in omega (arith, low));
      long = length-set l.marks l.metaslab _ ∙ i.long;
      marked = from_marked l.marks c.args.first l.metaslab (omega (arith, long, below)) i.marked;
      only = from_only l.marks c.args.first l.metaslab i.from i.only;
    }

pub returns-clause-marks : goal.returns-clause-marks
returns-clause-marks c = λ k low.
    (let end = c.loop-metaslab-test.false in
    (λ is. c.loop-metaslab.invariant.only k is, λ from. c.loop-metaslab.invariant.marked k low from (omega (arith, end, low))))

pub returns-clause-long : goal.returns-clause-long
returns-clause-long c = c.loop-metaslab.invariant.long
