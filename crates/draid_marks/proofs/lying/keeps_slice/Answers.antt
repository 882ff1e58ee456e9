use Rattle.std.proofs.Common.{◌∙◌, ap}
use Rattle.draid_spec.specs.Geometry.{slice_sectors}
use Rattle.draid_marks.proofs.Lies.{kept_by}
use Rattle.draid_marks.proofs.Silence.{front_inside, slice_front}
use Rattle.draid_marks.proofs.lying.keeps_slice.Goals as goal

pub place-requires-clause-sector : goal.place-requires-clause-sector
place-requires-clause-sector c =
    let size = c.slice_sectors.ensures.value ∙ ap slice_sectors c.geometry.ensures.geometry in
    front_inside c.args.slots.now c.geometry.ensures.sound.layout c.args.slice c.slice_sectors.result size c.requires.slice

pub returns : goal.returns
returns c =
    let size = c.slice_sectors.ensures.value ∙ ap slice_sectors c.geometry.ensures.geometry in
    kept_by c.args.slots.now c.args.leaf c.args.at c.args.slice _ c.place.result.leaf (slice_front c.args.slots.now c.geometry.ensures.sound.layout c.args.slice c.slice_sectors.result size) c.place.ensures.leaf
