use Rattle.std.proofs.Common.{arith}
use Rattle.draid_ranges.specs.Edits.{sides_of}
use Rattle.draid_ranges.proofs.Parts.{both_sides, left_side, no_side, none_kept, one_kept, right_side}
use Rattle.draid_ranges.proofs.edit.keep_sides.Goals as goal

pub returns-in_ok-put-in-true-true-clause-ok : goal.returns-in_ok-put-in-true-true-clause-ok
returns-in_ok-put-in-true-true-clause-ok c =
    both_sides c.args.runs.now.items c.put.new.runs.items c.args.from c.args.to c.args.first c.args.end c.args.whole c.between-in-true-true.result c.between.result
    (grind arith) c.in_ok-put-in-true-true.ensures.ok c.between-in-true-true.ensures.0 c.between-in-true-true.ensures.1 c.between.ensures.0 (omega arith) (omega arith) (omega arith)

pub returns-in_ok-put-in-true-false-clause-ok : goal.returns-in_ok-put-in-true-false-clause-ok
returns-in_ok-put-in-true-false-clause-ok c =
    let whole = c.args.whole in
    let left = c.between-in-true-false in
    one_kept c.args.runs.now.items c.put-in-true-false.new.runs.items (sides_of whole c.args.first c.args.end) c.args.from c.args.to left.result
    c.in_ok-put-in-true-false.ensures.ok (left_side whole left.result c.args.first c.args.end left.ensures.0 left.ensures.1 (omega arith) (omega arith))

pub returns-in_ok-put-in-false-true-clause-ok : goal.returns-in_ok-put-in-false-true-clause-ok
returns-in_ok-put-in-false-true-clause-ok c =
    let whole = c.args.whole in
    let right = c.between-in-false-true in
    one_kept c.args.runs.now.items c.put-in-false-true.new.runs.items (sides_of whole c.args.first c.args.end) c.args.from c.args.to right.result
    c.in_ok-put-in-false-true.ensures.ok (right_side whole right.result c.args.first c.args.end right.ensures.0 (omega arith) (omega arith) (omega arith))

pub returns-in-false-false-clause-ok : goal.returns-in-false-false-clause-ok
returns-in-false-false-clause-ok c =
    let whole = c.args.whole in
    none_kept c.args.runs.now.items c.cut.new.runs.items (sides_of whole c.args.first c.args.end) c.args.from c.args.to
    c.cut.ensures.items (no_side whole c.args.first c.args.end (omega arith) (omega arith))
