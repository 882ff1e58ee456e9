use Rattle.std.proofs.Common.{◌+◌, ℕ, arith, subst, sym}
use Rattle.draid_metaslab.specs.Spots.{IsSearched}
use Rattle.draid_ranges.proofs.Within.{end_below, no_run}
use Rattle.draid_metaslab.proofs.Searches.{largest_known, lowest_found, searched_more}
use Rattle.draid_metaslab.proofs.spot.lowest_spot.Goals as goal

pub place_in-requires-clause-below : goal.place_in-requires-clause-below
place_in-requires-clause-below c = let b = end_below c.args.runs.now c.loop-run.run-index 0 281474976710657 no_run c.requires.apart c.loop-run-test.true in omega arith

pub returns-then-most-len-clause-found : goal.returns-then-most-len-clause-found
returns-then-most-len-clause-found c =
    lowest_found c.args.runs.now c.loop-run.run-index c.args.height c.args.len c.loop-run.largest c.most_of-most.result c.place_in.result no_run
    c.requires.apart c.loop-run-test.true c.requires.height.0 c.requires.some c.loop-run.invariant
    (record { short = c.most_of-most.ensures.short; long = c.most_of-most.ensures.long }) (record { first = c.place_in.ensures.first; next = c.place_in.ensures.next }) (omega arith)

pub loop-run-preserved : goal.loop-run-preserved
loop-run-preserved c =
    let S : ℕ → Type 0 = λ n. IsSearched c.args.runs.now c.args.height c.args.len (c.loop-run.run-index + 1) n in
    subst S (sym c.max-largest.ensures)
    (searched_more c.args.runs.now c.loop-run.run-index c.args.height c.args.len c.loop-run.largest c.most_of-most.result no_run
    c.requires.apart c.loop-run-test.true c.requires.height.0 c.loop-run.invariant
    (record { short = c.most_of-most.ensures.short; long = c.most_of-most.ensures.long }) (omega arith))

pub returns-clause-none : goal.returns-clause-none
returns-clause-none c = largest_known c.args.runs.now c.args.height c.args.len c.loop-run.largest c.loop-run.run-index (omega arith) c.loop-run.invariant
