use Rattle.std.proofs.Common.{refl}
use Rattle.draid_machine.proofs.Small.{none_some}
use Rattle.draid_restore.specs.Reading.{reading_of}
use Rattle.draid_restore.proofs.rooms.buffer_for.Goals as goal

pub returns : goal.returns
returns c =
    let found = c.has_reading.ensures.yes c.if-not-has_reading.false in
    record {
      silent = λ none. absurd (none_some (reading_of c.args.spots.now c.args.column) found.0 none found.1);
      there = λ spot is. (c.in_ok-resized.field-0, refl, c.in_ok-resized.ensures);
    }
