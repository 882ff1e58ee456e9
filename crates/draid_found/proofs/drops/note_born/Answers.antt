use Rattle.std.proofs.Common.{arith}
use Rattle.draid_found.specs.Together.{noted_in}
use Rattle.draid_found.proofs.Born.{born_noted}
use Rattle.draid_found.proofs.Together.{notes_only}
use Rattle.draid_found.proofs.drops.note_born.Goals as goal

pub returns : goal.returns
returns c =
    let late = c.if-upto-pointer.false in
    born_noted c.args.upto c.args.pointer.now (noted_in c.args.keys.now) (noted_in c.insert.new.self) (omega (arith, late))
    (notes_only c.args.pointer.now c.args.keys.now c.insert.new.self c.in_ok-insert.ensures.updates.0)
