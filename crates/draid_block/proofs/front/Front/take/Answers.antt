use Rattle.std.proofs.Common.{◌∙◌, min, ap}
use Rattle.draid_block.specs.Blocks.{cut_of}
use Rattle.draid_block.proofs.Fronts.{front_more}
use Rattle.draid_block.proofs.Upto.{part_fits}
use Rattle.draid_block.proofs.front.Front.take.Goals as goal

pub slice_bounds-update-end : goal.slice_bounds-update-end
slice_bounds-update-end c =
    part_fits (cut_of c.args.geometry.now) c.args.len c.args.self.now.count c.min-end.result c.args.self.now.left c.args.column.now
    (c.min-end.ensures ∙ ap (λ m. min m c.args.self.now.left) c.part_bytes.ensures) c.requires.long

pub returns-clause-front : goal.returns-clause-front
returns-clause-front c = λ columns was column.
    front_more (cut_of c.args.geometry.now) c.args.len columns c.args.column.now c.min-end.result c.part_bytes.result c.args.self.now c.update.new.self
    c.requires.more c.min-end.ensures c.part_bytes.ensures c.requires.long c.update.ensures was column
