use Rattle.std.proofs.Common.{arith}
use Rattle.draid_block.specs.Blocks.{cut_of}
use Rattle.draid_block.specs.Solving.{read_of}
use Rattle.draid_block.proofs.Whole.{first_count}
use Rattle.draid_block.proofs.search.begin.Goals as goal
use Rattle.draid_block.proofs.search.begin.Goals.{then-is_empty, else-is_empty}

pub returns : goal.returns
returns c =
    let count = first_count c.args.search.now.geometry.now c.args.search.now.fetched.now c.args.search.now.absent.now c.is_empty.result c.if-is_empty.result c.requires.search.absent_is c.is_empty.ensures
    (λ full. elim c.if-is_empty.branch [ then-is_empty w ↦ w.result-is | else-is_empty w ↦ absurd (cc (full, w.if-is_empty.false)) ])
    (λ part. elim c.if-is_empty.branch [ then-is_empty w ↦ absurd (cc (part, w.if-is_empty.true)) | else-is_empty w ↦ w.result-is ]) in
    record { ready = record { holds = c.in_ok-stripe.ensures; has = c.new.ensures.front (cut_of c.args.search.now.geometry.now) (read_of c.args.search.now.fetched.now.columns.items) }; failed = c.requires.failed; counted = omega (arith, count) }
