use Rattle.std.proofs.Common.{inl, inr}
use Rattle.draid_block.specs.Blocks.{cut_of}
use Rattle.draid_block.proofs.Parts.{in_full, past_full, some_left, some_sector}
use Rattle.draid_block.proofs.shape.part_sectors.Goals.{then-full-eq0-via-then-full-eq0, then-full-eq0-via-else-full-eq0+then-i-full}
use Rattle.draid_block.proofs.shape.part_sectors.Goals as goal

pub nonzero_rem-full : goal.nonzero_rem-full
nonzero_rem-full c = c.requires.geometry.spec.some_data

pub overflow_sub-result : goal.overflow_sub-result
overflow_sub-result c = some_left (cut_of c.args.geometry.now) c.args.len c.div_ceil.result c.stripes_for-stripes.result c.div_ceil.ensures c.stripes_for-stripes.ensures c.if-full-eq0.false

pub div_ceil-requires : goal.div_ceil-requires
div_ceil-requires c = some_sector c.args.geometry.now c.requires.geometry

pub returns : goal.returns
returns c = past_full (cut_of c.args.geometry.now) c.args.len c.args.i c.div_ceil.result c.stripes_for-stripes.result c.div_ceil.ensures c.stripes_for-stripes.ensures c.if-full-eq0.false c.if-i-full.false

pub returns-then-full-eq0 : goal.returns-then-full-eq0
returns-then-full-eq0 c = in_full (cut_of c.args.geometry.now) c.args.len c.args.i c.div_ceil.result c.stripes_for-stripes.result c.div_ceil.ensures c.stripes_for-stripes.ensures
    (elim c.then-full-eq0.branch [ then-full-eq0-via-then-full-eq0 w ↦ inl w.if-full-eq0.true | then-full-eq0-via-else-full-eq0+then-i-full w ↦ inr w.if-i-full.true ])
